-- Lists that grow by one element.
use Rattle.std.proofs.Common.{◌≡◌, ℕ, zero, suc, ◌+◌, ◌<◌, refl, sym, ap, subst, ◌∙◌, List, [], ◌∷◌, ◌++◌, length, take, arith, slice_index_or}
use Rattle.std.specs.List.{AllByRecursion}
use Rattle.std.proofs.Math.Seq.{take-suc}
use Rattle.std.proofs.lemmas.List.{length-take-le}
use Rattle.components.specs.declared.kind.Kind.TheVariants.{Branch}
use Rattle.components.specs.Name.{Name}
use Rattle.components.specs.Kind.{Shape}
use Rattle.subst_engine.specs.Making.{bare_node}
use Rattle.mux_branch_rules.specs.BranchSides.{branch_nodes}

pub take_more : {A : Type 0} (xs : List A) (place : ℕ) (x : A) → slice_index_or xs place x ≡ x → place < length xs → take (place + 1) xs ≡ take place xs ++ x ∷ []
take_more xs place x is within =
    let next : place + 1 ≡ suc place = omega arith in
    ap (λ z. take z xs) next ∙ take-suc xs place x within ∙ ap (λ z. take place xs ++ z ∷ []) is

-- what holds of each holds at a place
pub all_at : {A : Type 0} (P : A → Type 0) (xs : List A) (place : ℕ) (x : A) → slice_index_or xs place x ≡ x → place < length xs → AllByRecursion P xs → P x
all_at P [] place x is within h = absurd (omega (arith, within))
all_at P (y ∷ ys) zero x is within h = subst P is h.0
all_at P (y ∷ ys) (suc place) x is within h = all_at P ys place x is (omega (arith, within)) h.1

branch_last : (names : List Name) (lanes : List Shape) (n : Name) (a : Shape) → length names ≡ length lanes → branch_nodes (names ++ n ∷ []) (lanes ++ a ∷ []) ≡ branch_nodes names lanes ++ bare_node n (Branch a) ∷ []
branch_last [] [] n a long = refl
branch_last [] (b ∷ lanes) n a long = absurd (omega (arith, long))
branch_last (m ∷ names) [] n a long = absurd (omega (arith, long))
branch_last (m ∷ names) (b ∷ lanes) n a long = ap (λ z. bare_node m (Branch b) ∷ z) (branch_last names lanes n a (omega (arith, long)))

pub branch_more : (names : List Name) (lanes : List Shape) (place : ℕ) (n : Name) (a : Shape) → length names ≡ length lanes → slice_index_or names place n ≡ n → slice_index_or lanes place a ≡ a → place < length lanes →
    branch_nodes (take (place + 1) names) (take (place + 1) lanes) ≡ branch_nodes (take place names) (take place lanes) ++ bare_node n (Branch a) ∷ []
branch_more names lanes place n a long is_name is_lane within =
    let few : place < length names = omega (arith, long, within) in
    let one = length-take-le place names (omega (arith, few)) in
    let other = length-take-le place lanes (omega (arith, within)) in
    (λ i. branch_nodes (take_more names place n is_name few i) (take_more lanes place a is_lane within i)) ∙ branch_last (take place names) (take place lanes) n a (one ∙ sym other)
