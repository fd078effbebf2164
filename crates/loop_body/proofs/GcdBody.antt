-- The body that computes greatest common divisors is a body.
use Rattle.std.proofs.Common.{◌≤◌, ℕ, [], ◌∷◌, refl, lit≤, lit<}
use Rattle.std.specs.Prelude.{IsPermutation}
use Rattle.std.proofs.lemmas.List.Elements.{All-from_recursion}
use Rattle.port_types.specs.Shape.{IsShape}
use Rattle.components.specs.Kind.{field}
use Rattle.loop_body.specs.Body.{BodyRoot, here, through, FromLanes, lanes, after, shapes, uses, table_ports}
use Rattle.loop_body.specs.Gcd.{port, gcd_body, GcdIsBody}
use Rattle.loop_body.proofs.GcdNames.{gcd_names, gcd_names_differ}

one_field : (width : ℕ) → width ≤ 64 → IsShape (field width)
one_field width h = record { some = lit≤ tt; few = lit≤ tt; narrow = All-from_recursion (λ w. w ≤ 64) (field width) (h, tt) }

two_fields : IsShape (32 ∷ 32 ∷ [])
two_fields = record { some = lit≤ tt; few = lit≤ tt; narrow = All-from_recursion (λ w. w ≤ 64) (32 ∷ 32 ∷ []) (lit≤ tt, (lit≤ tt, tt)) }

word : IsShape (field 32)
word = one_field 32 (lit≤ tt)

ordered : IsPermutation (uses gcd_body) (table_ports 0 (shapes gcd_body))
ordered = record {
  moves = (8, 9) ∷ (7, 8) ∷ (6, 9) ∷ (5, 9) ∷ (4, 8) ∷ (3, 8) ∷ (2, 8) ∷ (0, 1) ∷ [];
  below = (lit< tt, lit< tt, (lit< tt, lit< tt, (lit< tt, lit< tt, (lit< tt, lit< tt, (lit< tt, lit< tt, (lit< tt, lit< tt, (lit< tt, lit< tt, (lit< tt, lit< tt, tt))))))));
  is = refl;
}

from_remainder : FromLanes gcd_body 2
from_remainder = after (port 0 1) 1 (port 0 1 ∷ port 1 2 ∷ []) refl (0, lit< tt, refl) lanes

from_fork : FromLanes gcd_body 3
from_fork = after (port 2 1) 2 (port 2 1 ∷ []) refl (0, lit< tt, refl) from_remainder

condition_root : (number : ℕ) → BodyRoot gcd_body (port 6 number) (port 5 1)
condition_root number = through (port 6 number) (port 5 1) (port 5 1) 5 refl tt refl (here (port 5 1) (λ h. h))

pub gcd_is_body : GcdIsBody
gcd_is_body = record {
  names = gcd_names;
  differ = gcd_names_differ;
  vars = record { count = (lit≤ tt, lit≤ tt); parts = All-from_recursion IsShape (field 32 ∷ field 32 ∷ []) (word, (word, tt)); whole = two_fields };
  nodes = (
    (tt, (word, (lit≤ tt, lit≤ tt))),
    refl,
    (
      (tt, (refl, record { positive = lit≤ tt; narrow = lit≤ tt })),
      refl,
      (
        (tt, (word, (lit≤ tt, lit≤ tt))),
        refl,
        (
          (tt, (word, lit≤ tt)),
          refl,
          (
            (tt, (32, refl, record { positive = lit≤ tt; narrow = lit≤ tt }, refl)),
            refl,
            ((tt, (one_field 1 (lit≤ tt), (lit≤ tt, lit≤ tt))), refl, tt),
          ),
        ),
      ),
    ),
  );
  once = ordered;
  count = refl;
  bits = (refl, (refl, (refl, tt)));
  condition = record {
    root = port 5 1;
    roots = (condition_root 1, (condition_root 2, (condition_root 3, tt)));
    depends = after (port 3 2) 4 (port 3 2 ∷ port 4 1 ∷ []) refl (0, lit< tt, refl) from_fork;
  };
  data_depends = (port 3 1, (1, lit< tt, refl), from_fork);
  few = lit≤ tt;
  light = lit≤ tt;
}
