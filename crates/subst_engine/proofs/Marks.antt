-- A row of marks: which numbers from a base on stand in a first part of some places.
use Rattle.std.proofs.Common.{◌≡◌, ◌≢◌, ◌↔◌, inl, inr, ℕ, zero, suc, ◌+◌, ◌<◌, Bool, true, false, List, [], ◌∷◌, length, set, get_or, replicate, cond, not, nat_lt, position, Option, Some, None, slice_get, refl, sym, ap, subst, ◌∙◌, arith}
use Rattle.std.proofs.lemmas.Bool.{false≢true, cases_Bool, cases_eq, not-true, not-false, ltb-true, lt-ltb}
use Rattle.std.proofs.lemmas.List.{length-set, length-replicate}
use Rattle.std.proofs.lemmas.Option.{none-some, same_Some, slice_get-get_or}
use Rattle.std.specs.List.{position_or_len}
use Rattle.std.proofs.lemmas.List.Quantifiers.{position-Some}

-- a mark stands at each place whose number is found before the index, and at no place whose number is found nowhere
pub record AreMarked (f : ℕ → Option ℕ) (base window index : ℕ) (marks : List Bool) : Type 0 where
  pub size : length marks ≡ window
  pub held : (place : ℕ) → slice_get marks place ≡ Some true → (k : ℕ) × (f k ≡ Some (base + place))
  pub marked : (place k : ℕ) → place < window → k < index → f k ≡ Some (base + place) → slice_get marks place ≡ Some true

-- no place is marked at first
unmarked : (count place : ℕ) → slice_get (replicate count false) place ≡ Some true → ⊥
unmarked zero place marked = none-some true marked
unmarked (suc count) zero marked = false≢true (same_Some false true marked)
unmarked (suc count) (suc place) marked = unmarked count place marked

pub none_marked : (f : ℕ → Option ℕ) (base window : ℕ) → AreMarked f base window 0 (replicate window false)
none_marked f base window = record {
  size = length-replicate window false;
  held = λ place mark. absurd (unmarked window place mark);
  marked = λ place k within below. absurd (omega arith);
}

-- A further mark

marked_here : (marks : List Bool) (place : ℕ) → place < length marks → slice_get (set marks place true) place ≡ Some true
marked_here [] place below = absurd (omega arith)
marked_here (mark ∷ marks) zero below = refl
marked_here (mark ∷ marks) (suc place) below = marked_here marks place (omega arith)

still_marked : (marks : List Bool) (place other : ℕ) → slice_get marks other ≡ Some true → slice_get (set marks place true) other ≡ Some true
still_marked [] place other marked = absurd (none-some true marked)
still_marked (mark ∷ marks) zero zero marked = refl
still_marked (mark ∷ marks) zero (suc other) marked = marked
still_marked (mark ∷ marks) (suc place) zero marked = marked
still_marked (mark ∷ marks) (suc place) (suc other) marked = still_marked marks place other marked

was_marked : (marks : List Bool) (place other : ℕ) → other ≢ place → slice_get (set marks place true) other ≡ Some true → slice_get marks other ≡ Some true
was_marked [] place other apart marked = marked
was_marked (mark ∷ marks) zero zero apart marked = absurd (apart refl)
was_marked (mark ∷ marks) zero (suc other) apart marked = marked
was_marked (mark ∷ marks) (suc place) zero apart marked = marked
was_marked (mark ∷ marks) (suc place) (suc other) apart marked = was_marked marks place other (λ is. apart (ap suc is)) marked

module _ (f : ℕ → Option ℕ) (base window index : ℕ) (marks : List Bool) (are : AreMarked f base window index marks) where
  -- the number at the index is within the window
  pub one_more : (place : ℕ) → place < window → f index ≡ Some (base + place) → AreMarked f base window (index + 1) (set marks place true)
  one_more place within is = record {
    size = length-set marks place true ∙ are.size;
    held = λ other mark. elim (cases_eq other place) [
      | inl same ↦ (index, is ∙ ap (λ p. Some (base + p)) (sym same))
      | inr apart ↦ are.held other (was_marked marks place other apart mark)
    ];
    marked = λ other k below before found. elim (cases_eq other place) [
      | inl same ↦ subst (λ p. slice_get (set marks place true) p ≡ Some true) (sym same) (marked_here marks place (subst (λ n. place < n) (sym are.size) within))
      | inr apart ↦ still_marked marks place other (are.marked other k below (earlier other k apart before found) found)
    ];
  }
    where
      earlier : (other k : ℕ) → (other ≡ place → ⊥) → k < index + 1 → f k ≡ Some (base + other) → k < index
      earlier other k apart before found = elim (cases_eq k index) [
        | inl last ↦ absurd (apart (let same : base + other ≡ base + place = same_Some _ _ (sym found ∙ ap f last ∙ is) in omega arith))
        | inr before_last ↦ omega arith
      ]

  -- it is not
  pub none_more : ((place : ℕ) → place < window → f index ≢ Some (base + place)) → AreMarked f base window (index + 1) marks
  none_more outside = record {
    size = are.size;
    held = are.held;
    marked = λ place k below before found. elim (cases_eq k index) [
      | inl last ↦ absurd (outside place below (ap f (sym last) ∙ found))
      | inr before_last ↦ are.marked place k below (omega arith) found
    ];
  }

-- all places are looked at
pub all_marked : (f : ℕ → Option ℕ) (base window count : ℕ) (marks : List Bool) → AreMarked f base window count marks → ((k number : ℕ) → f k ≡ Some number → k < count) →
    (place : ℕ) → place < window → (slice_get marks place ≡ Some true) ↔ ((k : ℕ) × (f k ≡ Some (base + place)))
all_marked f base window count marks are within place below = (
  are.held place,
  λ found. are.marked place found.0 below (within found.0 (base + place) found.1) found.1,
)

-- The first place without a mark

get_mark : (marks : List Bool) (place : ℕ) → place < length marks → (b : Bool) → get_or marks place true ≡ b → slice_get marks place ≡ Some b
get_mark marks place below b is = slice_get-get_or marks place true below ∙ ap Some is

-- where no place is without a mark, each has one
pub each_marked : (marks : List Bool) → position not marks ≡ None → (place : ℕ) → place < length marks → slice_get marks place ≡ Some true
each_marked [] none place below = absurd (omega arith)
each_marked (true ∷ marks) none zero below = refl
each_marked (true ∷ marks) none (suc place) below = each_marked marks (later (position_or_len not marks) (length marks) none) place (omega arith)
  where
    later : (n m : ℕ) → cond (nat_lt (1 + n) (suc m)) (Some (1 + n)) None ≡ None → cond (nat_lt n m) (Some n) None ≡ None
    later n m is = elim (cases_Bool (nat_lt n m)) [
      | inl lt ↦ absurd (none-some (1 + n) (sym is ∙ ap (λ b. cond b (Some (1 + n)) None) (lt-ltb (1 + n) (suc m) (let l = ltb-true n m lt in omega arith))))
      | inr not_lt ↦ ap (λ b. cond b (Some n) None) not_lt
    ]
each_marked (false ∷ marks) none place below = absurd (none-some 0 (sym none ∙ ap (λ b. cond b (Some 0) None) (lt-ltb 0 (suc (length marks)) (omega arith))))

pub record IsFirstUnmarked (marks : List Bool) (place : ℕ) : Type 0 where
  pub within : place < length marks
  pub here : slice_get marks place ≢ Some true
  pub before : (lesser : ℕ) → lesser < place → slice_get marks lesser ≡ Some true

pub first_unmarked : (marks : List Bool) (place : ℕ) → position not marks ≡ Some place → IsFirstUnmarked marks place
first_unmarked marks place is =
    let there = position-Some not marks place true is in
    record {
      within = there.0;
      here = λ mark. false≢true (same_Some false true (sym (get_mark marks place there.0 false (not-true (get_or marks place true) there.1)) ∙ mark));
      before = λ lesser below. get_mark marks lesser (let w = there.0 in omega arith) true (not-false (get_or marks lesser true) (there.2 lesser below));
    }
