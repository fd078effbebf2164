-- The shapes of the new nodes may stand in a graph.
use Rattle.std.proofs.Common.{◌≡◌, ℕ, zero, suc, ◌≤◌, ◌+◌, ◌^◌, Bool, true, false, nat_le, if◌then◌else◌, refl, sym, subst, length, map, List, [], ◌∷◌, ◌++◌, arith, append-nil, length-append}
use Rattle.std.specs.List.{concat, All}
use Rattle.std.proofs.lemmas.List.Elements.{All-cons, All-nil, All-append}
use Rattle.port_types.specs.Shape.{IsShape}
use Rattle.port_types.specs.Tag.{tag_width, tag_width_from}
use Rattle.components.specs.declared.kind.Kind.TheVariants.{Init, Mux}
use Rattle.components.specs.Kind.{Shape, field, tagged, IsCount, AreParts}
use Rattle.circuits.specs.Circuit.{Circuit, Typed}
use Rattle.circuits.specs.Replacing.{In, In.head, In.tail}
use Rattle.loop_laws.specs.Polarity.{exit_bit}
use Rattle.loop_laws.specs.Loop.{Lane, Loop, LoopAt, shapes_of}
use Rattle.loop_turns.specs.Lanes.{tuple_shape}
use Rattle.components.specs.Name.{Name}

module _ (more width tags : ℕ) where
  at_most : (b : Bool) (rest : ℕ) → rest ≤ (width + 1) + more → (if b then width else rest) ≤ width + suc more
  at_most true rest h = omega arith
  at_most false rest h = omega (arith, h)

width_few : (more width tags : ℕ) → tag_width_from more width tags ≤ width + more
width_few zero width tags = omega arith
width_few (suc more) width tags = at_most more width tags (nat_le tags (2 ^ width)) (tag_width_from more (width + 1) tags) (width_few more (width + 1) tags)

field_is_shape : (width : ℕ) → width ≤ 64 → IsShape (field width)
field_is_shape width narrow = record { some = omega arith; few = omega arith; narrow = All-cons (λ w. w ≤ 64) width [] narrow (All-nil (λ w. w ≤ 64)) }

pub bit_is_shape : IsShape (field 1)
bit_is_shape = field_is_shape 1 (omega arith)

two_parts : (a b : Shape) → IsShape a → IsShape b → IsShape (a ++ (b ++ [])) → AreParts (a ∷ b ∷ [])
two_parts a b first second whole =
    record {
      count = (omega arith, omega arith);
      parts = All-cons IsShape a (b ∷ []) first (All-cons IsShape b [] second (All-nil IsShape));
      whole = whole;
    }

abbrev Narrow : List ℕ → Type 0
Narrow = All (λ width. width ≤ 64)

module _ (g : Circuit) (ty : Typed g) (m : Name) (l : Loop) (at : LoopAt g m l) where
  lane_shape : (x : Lane) → In x l.lanes → IsShape x.shape
  lane_shape x i = ty.kinds x.mux (Mux x.shape) (at.tree.each_lane x i).is_mux

  all_shapes : (xs : List Lane) → ((x : Lane) → In x xs → In x l.lanes) → All IsShape (map (λ (x : Lane). x.shape) xs)
  all_shapes [] sub = All-nil IsShape
  all_shapes (x ∷ xs) sub = All-cons IsShape x.shape (map (λ (y : Lane). y.shape) xs) (lane_shape x (sub x (head refl))) (all_shapes xs (λ y i. sub y (tail i)))

  narrow_of : (xs : List Lane) → ((x : Lane) → In x xs → In x l.lanes) → Narrow (concat (map (λ (x : Lane). x.shape) xs))
  narrow_of [] sub = All-nil (λ w. w ≤ 64)
  narrow_of (x ∷ xs) sub =
      All-append (λ w. w ≤ 64) x.shape (concat (map (λ (y : Lane). y.shape) xs)) (lane_shape x (sub x (head refl))).narrow (narrow_of xs (λ y i. sub y (tail i)))

  count : (xs : List Lane) → length (map (λ (x : Lane). x.shape) xs) ≡ length xs
  count [] = refl
  count (x ∷ xs) = λ i. suc (count xs i)

  some_in : (xs : List Lane) (x : Lane) → In x xs → 1 ≤ length xs
  some_in (y ∷ xs) x i = omega arith
  some_in [] x i = elim i [ ]

  some_field : (xs : List Lane) (x : Lane) → In x xs → ((y : Lane) → In y xs → In y l.lanes) → 1 ≤ length (concat (map (λ (y : Lane). y.shape) xs))
  some_field [] x i sub = elim i [ ]
  some_field (y ∷ xs) x i sub =
      let rest = concat (map (λ (z : Lane). z.shape) xs) in
      let long : length (y.shape ++ rest) ≡ length y.shape + length rest = length-append y.shape rest in
      let first = (lane_shape y (sub y (head refl))).some in
      omega (arith, long, first)

  pub tuple_is_shape : IsShape (tuple_shape l)
  tuple_is_shape =
      let slim = at.slim in
      record {
        some = some_field l.lanes at.branches.data_lane at.branches.is_data_lane (λ y i. i);
        few = omega (arith, slim);
        narrow = narrow_of l.lanes (λ y i. i);
      }

  pub lanes_are_parts : AreParts (shapes_of l)
  lanes_are_parts =
      let long = count l.lanes in
      let some = some_in l.lanes at.branches.data_lane at.branches.is_data_lane in
      let few = at.narrow in
      record {
        count = (omega (arith, long, some), omega (arith, long, few));
        parts = all_shapes l.lanes (λ y i. i);
        whole = tuple_is_shape;
      }

  pub tags_few : l.tags ≤ 256
  tags_few = (ty.kinds m (Init (exit_bit l.goes_back) l.tags) at.mark.0).1

  -- a tuple leaves room for a tag, and for a bit
  pub tagged_is_shape : IsShape (tagged l.tags (tuple_shape l))
  tagged_is_shape =
      let slim = at.slim in
      let few = width_few 7 1 l.tags in
      record {
        some = omega arith;
        few = omega (arith, slim);
        narrow = All-cons (λ w. w ≤ 64) (tag_width l.tags) (tuple_shape l) (omega (arith, few)) tuple_is_shape.narrow;
      }

  pub tag_parts : AreParts (field (tag_width l.tags) ∷ tuple_shape l ∷ [])
  tag_parts =
      let few = width_few 7 1 l.tags in
      two_parts (field (tag_width l.tags)) (tuple_shape l) (field_is_shape (tag_width l.tags) (omega (arith, few))) tuple_is_shape
      (subst (λ b. IsShape (tag_width l.tags ∷ b)) (sym (append-nil (tuple_shape l))) tagged_is_shape)

  pub pair_parts : AreParts (tuple_shape l ∷ field 1 ∷ [])
  pair_parts =
      let slim = at.slim in
      let long : length (tuple_shape l ++ field 1) ≡ length (tuple_shape l) + 1 = length-append (tuple_shape l) (field 1) in
      two_parts (tuple_shape l) (field 1) tuple_is_shape bit_is_shape
      (record {
        some = omega (arith, long);
        few = omega (arith, long, slim);
        narrow = All-append (λ w. w ≤ 64) (tuple_shape l) (field 1) tuple_is_shape.narrow bit_is_shape.narrow;
      })

  pub two : IsCount 2
  two = (omega arith, omega arith)
