-- The names of the rule's Entry and Exit are allowed, and differ from each other and from the node's.
use Rattle.std.proofs.Common.{◌≡◌, ◌≢◌, inl, inr, ℕ, ◌<◌, ◌≤◌, Bool, true, false, ◌&&◌, bytes_eq, codes, if◌then◌else◌, length, nat_le, slice_index_or, refl, sym, ap, ◌∙◌, arith, true≢false}
use Rattle.std.specs.List.{list_all}
use Rattle.std.proofs.lemmas.Bool.{and_parts, leb-true}
use Rattle.std.proofs.lemmas.List.Sums.{AllPass-from_list_all}
use Rattle.std.proofs.lemmas.Str.{IsUtf8-from_ascii}
use Rattle.std.proofs.lemmas.Str.Ascii.{IsAscii-from_all}
use Rattle.components.specs.Name.{Name, IsNameByte, IsName}
use Rattle.components.specs.Orders.{name_cases, same_bytes, other_bytes}
use Rattle.pure_extract.specs.DropBuffer.{entry_name, exit_name}

differ : (n m : Name) → bytes_eq n m ≡ false → n ≢ m
differ n m test is = true≢false (sym (same_bytes n m is) ∙ test)

-- the second name stands for the first where b has that
other_name : (b first second : Name) → bytes_eq second first ≡ false → (if bytes_eq b first then second else first) ≢ b
other_name b first second test e =
    elim (name_cases b first) [
      | inl is ↦ differ second first test (ap (λ t. if t then second else first) (sym (same_bytes b first is)) ∙ e ∙ is)
      | inr other ↦ other (sym (ap (λ t. if t then second else first) (sym (other_bytes b first other)) ∙ e))
    ]

pub entry_other : (b : Name) → entry_name b ≢ b
entry_other b = other_name b (codes "in") (codes "from") refl

pub exit_other : (b : Name) → exit_name b ≢ b
exit_other b = other_name b (codes "out") (codes "to") refl

pub ends_apart : (b : Name) → exit_name b ≢ entry_name b
ends_apart b = apart (bytes_eq b (codes "out")) (bytes_eq b (codes "in"))
  where
    apart : (t u : Bool) → (if t then codes "to" else codes "out") ≢ (if u then codes "from" else codes "in")
    apart true true = differ (codes "to") (codes "from") refl
    apart true false = differ (codes "to") (codes "in") refl
    apart false true = differ (codes "out") (codes "from") refl
    apart false false = differ (codes "out") (codes "in") refl

-- a name of small letters
abbrev is_small : ℕ → Bool
is_small c = nat_le 97 c && nat_le c 122

small : (c : ℕ) → is_small c ≡ true → (97 ≤ c) × (c ≤ 122)
small c test = let parts = and_parts (nat_le 97 c) (nat_le c 122) test in (leb-true 97 c parts.0, leb-true c 122 parts.1)

name_byte : (c : ℕ) → is_small c ≡ true → IsNameByte c
name_byte c test = let between = small c test in (omega arith, (λ is. omega arith), (λ is. omega arith))

ascii : (c : ℕ) → is_small c ≡ true → c < 128
ascii c test = let between = small c test in omega arith

small_name : (name : Name) → list_all is_small name ≡ true → 1 ≤ length name → length name ≤ 255 → IsName name
small_name name test some few =
    let letters = AllPass-from_list_all is_small name test in
    record {
      some = some;
      few = few;
      bytes = λ k d within. name_byte (slice_index_or name k d) (letters k d within);
      utf8 = IsUtf8-from_ascii name (IsAscii-from_all name (λ k d within. ascii (slice_index_or name k d) (letters k d within)));
    }

chosen : (t : Bool) (first second : Name) → IsName first → IsName second → IsName (if t then second else first)
chosen true first second a b = b
chosen false first second a b = a

pub entry_is_name : (b : Name) → IsName (entry_name b)
entry_is_name b = chosen (bytes_eq b (codes "in")) (codes "in") (codes "from") (small_name (codes "in") refl (omega arith) (omega arith)) (small_name (codes "from") refl (omega arith) (omega arith))

pub exit_is_name : (b : Name) → IsName (exit_name b)
exit_is_name b = chosen (bytes_eq b (codes "out")) (codes "out") (codes "to") (small_name (codes "out") refl (omega arith) (omega arith)) (small_name (codes "to") refl (omega arith) (omega arith))
