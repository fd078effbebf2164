-- What follows where it is known what an option is.
use Rattle.std.proofs.Common.{◌≡◌, ◌⊎◌, inl, inr, Option, Some, None, refl}

-- a split on an answer
pub answer_cases : {A : Type 0} (o : Option A) → ((x : A) × (o ≡ Some x)) ⊎ (o ≡ None)
answer_cases None = inr refl
answer_cases (Some x) = inl (x, refl)
