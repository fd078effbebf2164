-- The test of names.
use Rattle.std.proofs.Common.{◌≡◌, ◌↔◌, ◌&&◌, ℕ, Bool, true, false, length, refl, sym, arith}
use Rattle.std.specs.Prelude.{nat_le, IsTrue}
use Rattle.std.specs.List.{list_all}
use Rattle.std.specs.Str.{IsUtf8}
use Rattle.std.proofs.lemmas.Bool.{leb-true, le-leb, and_parts, and_from, true≢false, false_from_ne_true}
use Rattle.std.proofs.lemmas.Bool.Decides.{nat_tests}
use Rattle.std.proofs.lemmas.List.Elements.{All-weaker}
use Rattle.std.proofs.lemmas.List.Sums.{AllPass-from_list_all, list_all-from_AllPass}
use Rattle.components.specs.Name.{Name, IsName, IsNameByte}
use Rattle.graph_read.specs.NodeReading.{is_name, is_name_byte}

byte_from : (byte : ℕ) → IsNameByte byte → is_name_byte byte ≡ true
byte_from byte ok = grind (arith, nat_tests)

byte_to : (byte : ℕ) → is_name_byte byte ≡ true → IsNameByte byte
byte_to byte test = (grind (arith, nat_tests), grind (arith, nat_tests), grind (arith, nat_tests))

name_from : (name : Name) → IsName name → is_name name ≡ true
name_from name ok =
    and_from _ _ (and_from _ _ (le-leb 1 (length name) ok.some) (le-leb (length name) 255 ok.few))
    (list_all-from_AllPass is_name_byte name (All-weaker IsNameByte (λ byte. is_name_byte byte ≡ true) byte_from name ok.bytes))

-- a text that the test lets through may be a name
pub name_to : (name : Name) → IsUtf8 name → is_name name ≡ true → IsName name
name_to name utf8 test =
    let parts = and_parts (nat_le 1 (length name) && nat_le (length name) 255) (list_all is_name_byte name) test in
    let bounds = and_parts (nat_le 1 (length name)) (nat_le (length name) 255) parts.0 in
    record {
      some = leb-true 1 (length name) bounds.0;
      few = leb-true (length name) 255 bounds.1;
      bytes = All-weaker (λ byte. is_name_byte byte ≡ true) IsNameByte byte_to name (AllPass-from_list_all is_name_byte name parts.1);
      utf8 = utf8;
    }

-- what a test of names answers of a text
pub name_tested : (name : Name) (result : Bool) → IsTrue result ↔ IsName name → IsUtf8 name → result ≡ is_name name
name_tested name true tells utf8 = sym (name_from name (tells.0 refl))
name_tested name false tells utf8 = sym (false_from_ne_true (is_name name) (λ test. true≢false (sym (tells.1 (name_to name utf8 test)))))
