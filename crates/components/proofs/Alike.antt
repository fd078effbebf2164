-- Lists of shapes that are one, and lists of attributes that are one map.
use Rattle.std.proofs.Common.{◌≡◌, ◌≢◌, ℕ, Bool, List, [], ◌∷◌, get_or, Some, refl, sym, ap, ◌∙◌}
use Rattle.std.specs.Bool.{Decides}
use Rattle.std.specs.Cmp.Lexicographic.{pointwise}
use Rattle.std.specs.Prelude.{nat_eq}
use Rattle.std.specs.List.{All, AllPairs, Contains}
use Rattle.std.specs.FinMap.{FinMap, find, from_entries, get, get-from_entries, same_map}
use Rattle.std.proofs.lemmas.Bool.{and_parts, and_from, true≢false}
use Rattle.std.proofs.lemmas.List.Elements.{All-contains}
use Rattle.std.proofs.lemmas.Slice.Eq.{bytes_eq-Decides}
use Rattle.components.specs.Name.{name_cmp}
use Rattle.components.specs.Lookups.{answers_by}
use Rattle.components.proofs.Maps.{contains_found, found_at}
use Rattle.components.specs.Orders.{name_total, name_same}

-- two lists of numbers
abbrev pub Pair : Type 0
Pair = List ℕ × List ℕ

-- Shapes

abbrev same_shape : List ℕ → List ℕ → Bool
same_shape = pointwise nat_eq

-- two lists of shapes are one exactly where the shapes are one by one
pub each_one : (xs ys : List (List ℕ)) → Decides (pointwise same_shape xs ys) (xs ≡ ys)
each_one [] [] = (λ _. refl, λ _. refl)
each_one [] (y ∷ ys) = (λ e. absurd (true≢false (sym e)), λ e. absurd (cc))
each_one (x ∷ xs) [] = (λ e. absurd (true≢false (sym e)), λ e. absurd (cc))
each_one (x ∷ xs) (y ∷ ys) =
    let rest = each_one xs ys in (
      λ passes.
          let parts = and_parts (same_shape x y) (pointwise same_shape xs ys) passes in
          λ i. (bytes_eq-Decides x y).0 parts.0 i ∷ rest.0 parts.1 i,
      λ is.
          let first : x ≡ y = cc in
          let later : xs ≡ ys = cc in
          and_from (same_shape x y) (pointwise same_shape xs ys) ((bytes_eq-Decides x y).1 first) (rest.1 later),
    )

-- Attributes

-- no two have one key
abbrev pub AreDistinct : List Pair → Type 0
AreDistinct = AllPairs (λ a b. a.0 ≢ b.0)

abbrev pub kept_map : List Pair → FinMap name_cmp (List ℕ)
kept_map es = from_entries es

-- where each attribute of one list stands in the other, what is found in the one is found in the other
found_among : (es fs : List Pair) → AreDistinct fs → All (Contains fs) es → (key value : List ℕ) → find name_cmp key es ≡ Some value → find name_cmp key fs ≡ Some value
found_among es fs distinct each key value found =
    let there = All-contains (Contains fs) es (key, value) each (contains_found name_total name_same es key value found) in
    ap (λ (e : Pair). find name_cmp e.0 fs) (sym there.2) ∙ found_at name_total name_same fs distinct there.0 (key, value) there.1 ∙ ap (λ (e : Pair). Some e.1) there.2

pub same_where_among : (es fs : List Pair) → AreDistinct es → AreDistinct fs → All (Contains fs) es → All (Contains es) fs → kept_map es ≡ kept_map fs
same_where_among es fs distinct other each back =
    same_map name_total name_same (kept_map es) (kept_map fs) (λ key.
    get-from_entries name_total es key ∙ answers_by _ _ (found_among es fs other each key) (found_among fs es distinct back key) ∙ sym (get-from_entries name_total fs key))

pub among_where_same : (es fs : List Pair) → AreDistinct es → kept_map es ≡ kept_map fs → All (Contains fs) es
among_where_same es fs distinct same = λ k d within.
    let key = (get_or es k d).0 in
    let found : find name_cmp key fs ≡ Some (get_or es k d).1 =
    sym (get-from_entries name_total fs key) ∙ ap (λ (m : FinMap name_cmp (List ℕ)). get m key) (sym same) ∙ get-from_entries name_total es key ∙ found_at name_total name_same es distinct k d within in
    contains_found name_total name_same fs key (get_or es k d).1 found
