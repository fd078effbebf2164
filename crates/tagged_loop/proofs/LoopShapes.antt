-- The shapes on the wires of a loop may stand in a graph.
use Rattle.std.proofs.Common.{◌≡◌, ℕ, zero, suc, ◌+◌, ◌^◌, ◌≤◌, Bool, true, false, nat_le, if◌then◌else◌, subst, length, List, [], ◌∷◌, ◌++◌, arith, sym, append-nil, length-append}
use Rattle.std.proofs.lemmas.List.Elements.{All-cons, All-nil}
use Rattle.port_types.specs.Shape.{IsShape}
use Rattle.port_types.specs.Tag.{tag_width, tag_width_from}
use Rattle.fun_expr.specs.Function.{Function}
use Rattle.components.specs.Kind.{Shape, field, tagged, AreParts}
use Rattle.tagged_loop.specs.LoopFunction.{IsLoopFunction}

module _ (more width tags : ℕ) where
  at_most : (b : Bool) (rest : ℕ) → rest ≤ (width + 1) + more → (if b then width else rest) ≤ width + suc more
  at_most true rest h = omega arith
  at_most false rest h = omega (arith, h)

width_few : (more width tags : ℕ) → tag_width_from more width tags ≤ width + more
width_few zero width tags = omega arith
width_few (suc more) width tags = at_most more width tags (nat_le tags (2 ^ width)) (tag_width_from more (width + 1) tags) (width_few more (width + 1) tags)

pub field_is_shape : (width : ℕ) → width ≤ 64 → IsShape (field width)
field_is_shape width narrow = record { some = omega arith; few = omega arith; narrow = All-cons (λ w. w ≤ 64) width [] narrow (All-nil (λ w. w ≤ 64)) }

pub bit_is_shape : IsShape (field 1)
bit_is_shape = field_is_shape 1 (omega arith)

pub tag_is_shape : (tags : ℕ) → IsShape (field (tag_width tags))
tag_is_shape tags = let few = width_few 7 1 tags in field_is_shape (tag_width tags) (omega (arith, few))

two_parts : (a b : Shape) → IsShape a → IsShape b → IsShape (a ++ (b ++ [])) → AreParts (a ∷ b ∷ [])
two_parts a b first second whole =
    record {
      count = (omega arith, omega arith);
      parts = All-cons IsShape a (b ∷ []) first (All-cons IsShape b [] second (All-nil IsShape));
      whole = whole;
    }

module _ (a : Shape) (f : Function) (is : IsLoopFunction a f) where
  pub tuple_is_shape : IsShape a
  tuple_is_shape = subst IsShape is.input is.ok.1.input

  pub pair_parts : AreParts (a ∷ field 1 ∷ [])
  pair_parts = two_parts a (field 1) tuple_is_shape bit_is_shape is.ok.0

  -- a tuple leaves room for a tag, as it leaves room for a bit
  pub tagged_is_shape : (tags : ℕ) → IsShape (tagged tags a)
  tagged_is_shape tags =
      let room = is.ok.0.few in
      let long : length (a ++ field 1) ≡ length a + 1 = length-append a (field 1) in
      let few = width_few 7 1 tags in
      record {
        some = omega arith;
        few = omega (arith, room, long);
        narrow = All-cons (λ w. w ≤ 64) (tag_width tags) a (omega (arith, few)) tuple_is_shape.narrow;
      }

  pub tag_parts : (tags : ℕ) → AreParts (field (tag_width tags) ∷ a ∷ [])
  tag_parts tags = two_parts (field (tag_width tags)) a (tag_is_shape tags) tuple_is_shape (subst (λ b. IsShape (tag_width tags ∷ b)) (sym_append a) (tagged_is_shape tags))
    where
      sym_append : (xs : List ℕ) → xs ≡ xs ++ []
      sym_append xs = sym (append-nil xs)
