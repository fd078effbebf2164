-- The names of the nodes in the body that computes greatest common divisors.
use Rattle.std.proofs.Common.{◌≡◌, ◌≢◌, ℕ, ◌≤◌, ◌<◌, true, false, List, [], ◌∷◌, length, refl, sym, ◌∙◌, lit≤, arith}
use Rattle.std.specs.Prelude.{All, AllPairs, bytes_eq, codes}
use Rattle.std.proofs.lemmas.List.Elements.{All-from_recursion}
use Rattle.std.proofs.lemmas.List.Kept.{AllPairs-cons}
use Rattle.std.proofs.lemmas.Str.{IsUtf8-from_ascii}
use Rattle.std.proofs.lemmas.Str.Ascii.{IsAscii-from_all}
use Rattle.fun_expr.specs.Each.{Each}
use Rattle.components.specs.declared.kind.Kind.{Kind}
use Rattle.components.specs.declared.node.Node.{Node}
use Rattle.components.specs.Name.{IsName, IsNameByte}
use Rattle.components.specs.Node.{IsOwned, KeptOk}
use Rattle.components.specs.Orders.{same_bytes}
use Rattle.loop_body.specs.Gcd.{gcd_body}
use Rattle.loop_body.proofs.ExprLists.{each_map}

-- a small letter of ASCII
abbrev IsLetter : ℕ → Type 0
IsLetter byte = (97 ≤ byte) × (byte ≤ 122)

letter_named : (byte : ℕ) → IsLetter byte → IsNameByte byte
letter_named byte h = (omega (arith, h.0), λ e. omega (arith, h.0, e), λ e. omega (arith, h.0, e))

letters_name : (name : List ℕ) → 1 ≤ length name → length name ≤ 255 → Each IsLetter name → IsName name
letters_name name some few letters = record {
  some = some;
  few = few;
  bytes = All-from_recursion IsNameByte name (each_map IsLetter IsNameByte letter_named name letters);
  utf8 = IsUtf8-from_ascii name (IsAscii-from_all name (All-from_recursion (λ byte. byte < 128) name (each_map IsLetter (λ byte. byte < 128) (λ byte h. omega (arith, h.1)) name letters)));
}

keeps_nothing : (kind : Kind) → KeptOk kind []
keeps_nothing kind = record { distinct = λ i j d below within. absurd (omega (arith, within)); unowned = All-from_recursion (λ pair. ¬ (IsOwned kind pair.0)) [] tt }

pub gcd_names : All (λ node. IsName node.name × KeptOk node.kind node.kept) gcd_body.nodes
gcd_names = All-from_recursion (λ node. IsName node.name × KeptOk node.kind node.kept) gcd_body.nodes (
  (letters_name (codes "fb") (lit≤ tt) (lit≤ tt) ((lit≤ tt, lit≤ tt), ((lit≤ tt, lit≤ tt), tt)), keeps_nothing _),
  (
    (letters_name (codes "rem") (lit≤ tt) (lit≤ tt) ((lit≤ tt, lit≤ tt), ((lit≤ tt, lit≤ tt), ((lit≤ tt, lit≤ tt), tt))), keeps_nothing _),
    (
      (letters_name (codes "fr") (lit≤ tt) (lit≤ tt) ((lit≤ tt, lit≤ tt), ((lit≤ tt, lit≤ tt), tt)), keeps_nothing _),
      (
        (letters_name (codes "z") (lit≤ tt) (lit≤ tt) ((lit≤ tt, lit≤ tt), tt), keeps_nothing _),
        (
          (letters_name (codes "ne") (lit≤ tt) (lit≤ tt) ((lit≤ tt, lit≤ tt), ((lit≤ tt, lit≤ tt), tt)), keeps_nothing _),
          ((letters_name (codes "fc") (lit≤ tt) (lit≤ tt) ((lit≤ tt, lit≤ tt), ((lit≤ tt, lit≤ tt), tt)), keeps_nothing _), tt),
        ),
      ),
    ),
  ),
)

-- names that a test tells apart
abbrev Told : Node → Node → Type 0
Told a c = bytes_eq a.name c.name ≡ false

abbrev AllTold : List Node → Type 0
AllTold [] = Unit {0}
AllTold (node ∷ nodes) = Each (Told node) nodes × AllTold nodes

told_differ : (a c : Node) → Told a c → a.name ≢ c.name
told_differ a c told same = let e : true ≡ false = sym (same_bytes a.name c.name same) ∙ told in absurd cc

all_differ : (nodes : List Node) → AllTold nodes → AllPairs (λ a c. a.name ≢ c.name) nodes
all_differ [] h = λ i j d below within. absurd (omega (arith, within))
all_differ (node ∷ nodes) h =
    AllPairs-cons (λ a c. a.name ≢ c.name) node nodes
    (All-from_recursion (λ c. node.name ≢ c.name) nodes (each_map (Told node) (λ c. node.name ≢ c.name) (told_differ node) nodes h.0)) (all_differ nodes h.1)

pub gcd_names_differ : AllPairs (λ a c. a.name ≢ c.name) gcd_body.nodes
gcd_names_differ = all_differ gcd_body.nodes (
  (refl, (refl, (refl, (refl, (refl, tt))))),
  ((refl, (refl, (refl, (refl, tt)))), ((refl, (refl, (refl, tt))), ((refl, (refl, tt)), ((refl, tt), (tt, tt))))),
)
