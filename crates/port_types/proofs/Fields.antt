-- Fields of shapes, one by one.
use Rattle.std.proofs.Common.{◌≡◌, ◌&&◌, ℕ, ◌+◌, ◌<◌, Bool, true, false, List, [], ◌∷◌, ◌++◌, length, map, get_or, take, refl, sym, ap, ◌∙◌, arith}
use Rattle.std.specs.Prelude.{nat_le, IsTrue, ◌↔◌, Ok, Err, Option, Some, None, IfSome, is_some}
use Rattle.std.specs.List.{list_all}
use Rattle.std.specs.Option.{ok_or}
use Rattle.std.specs.Str.Parse.{digits_value}
use Rattle.std.proofs.lemmas.Bool.Decides.{nat_tests}
use Rattle.std.proofs.lemmas.List.{take_more, map-append, length-map, get_or-map}
use Rattle.std.proofs.lemmas.List.Sums.{AllPass-from_list_all, list_all-from_AllPass}
use Rattle.port_types.specs.declared.port.PortFault.TheVariants.{TooWide}
use Rattle.port_types.specs.Shape.{IsShape}
use Rattle.port_types.specs.Numeral.{is_numeral}
use Rattle.port_types.specs.PortGrammar.{is_shape, shape_within, IsReading}

-- ---- the test of a shape

pub shape_test : (widths : List ℕ) → IsShape widths → is_shape widths ≡ true
unfolding is_shape
shape_test widths is =
    let narrow : list_all (λ width. nat_le width 64) widths ≡ true = list_all-from_AllPass (λ width. nat_le width 64) widths (λ k d below. let width = is.narrow k d below in grind (arith, nat_tests)) in
    let some = is.some in
    let few = is.few in
    rw narrow (grind (arith, nat_tests))

test_parts : (a b c : Bool) → (a && b) && c ≡ true → (a ≡ true) × (b ≡ true) × (c ≡ true)
test_parts true true true e = (refl, refl, refl)
test_parts true true false e = absurd (cc)
test_parts true false c e = absurd (cc)
test_parts false b c e = absurd (cc)

pub shape_from_test : (widths : List ℕ) → is_shape widths ≡ true → IsShape widths
unfolding is_shape
shape_from_test widths is =
    let parts = test_parts (nat_le 1 (length widths)) (nat_le (length widths) 128) (list_all (λ width. nat_le width 64) widths) is in
    let some = parts.0 in
    let few = parts.1 in
    record {
      some = grind (arith, nat_tests);
      few = grind (arith, nat_tests);
      narrow = λ k d below. let width = AllPass-from_list_all (λ width. nat_le width 64) widths parts.2 k d below in grind (arith, nat_tests);
    }

pub no_shape : (widths : List ℕ) → (IsShape widths → ⊥) → is_shape widths ≡ false
no_shape widths none = by (is_shape widths) refl
  where
    by : (b : Bool) → is_shape widths ≡ b → b ≡ false
    by false e = refl
    by true e = absurd (none (shape_from_test widths e))

-- ---- the widths of a text, up to a field

pub numeral_at : (fields : List (List ℕ)) (i : ℕ) (field : List ℕ) → list_all is_numeral fields ≡ true → i < length fields → field ≡ get_or fields i field → is_numeral field ≡ true
numeral_at fields i field are within is = ap is_numeral is ∙ AllPass-from_list_all is_numeral fields are i field within

pub next_width_of : (fields : List (List ℕ)) (i : ℕ) (field : List ℕ) → i < length fields → field ≡ get_or fields i field →
    map (digits_value 10) (take (i + 1) fields) ≡ map (digits_value 10) (take i fields) ++ digits_value 10 field ∷ []
next_width_of fields i field within is =
    rw (take_more fields i field within, map-append) (ap (λ f. map (digits_value 10) (take i fields) ++ digits_value 10 f ∷ []) (sym is))

-- a field of a number past 64
pub too_wide_at : (fields : List (List ℕ)) (i : ℕ) (field : List ℕ) → i < length fields → field ≡ get_or fields i field → 64 < digits_value 10 field →
    shape_within (map (digits_value 10) fields) ≡ Err TooWide
too_wide_at fields i field within is wide = rw (no_shape (map (digits_value 10) fields) none) refl
  where
    none : IsShape (map (digits_value 10) fields) → ⊥
    none shape =
        let at = shape.narrow i (digits_value 10 field) (omega (arith, length-map fields (digits_value 10))) in
        let same : get_or (map (digits_value 10) fields) i (digits_value 10 field) ≡ digits_value 10 field =
        get_or-map (digits_value 10) fields i field (digits_value 10 field) within ∙ ap (digits_value 10) (sym is) in
        omega (arith, at, same)

-- what `Shape::new` makes of widths
pub shape_or_fault : (widths : List ℕ) (made : Option (List ℕ)) → IsTrue (is_some made) ↔ IsShape widths → IfSome made (λ shape. shape ≡ widths) → IsReading (shape_within widths) (ok_or made TooWide)
shape_or_fault widths (Some shape) shaped same = rw (shape_test widths (shaped.0 refl)) (ap (λ ws. Ok ws) (sym same))
shape_or_fault widths None shaped same = λ told. rw (no_shape widths (λ is. let there = shaped.1 is in absurd (cc))) refl
