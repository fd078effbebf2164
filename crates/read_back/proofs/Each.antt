-- Lists of which each item is so.
use Rattle.std.proofs.Common.{List, [], ◌∷◌, ◌++◌, map}
use Rattle.std.specs.List.{AllByRecursion}

pub each_append : {A : Type 0} (P : A → Type 0) (xs ys : List A) → AllByRecursion P xs → AllByRecursion P ys → AllByRecursion P (xs ++ ys)
each_append P [] ys h k = k
each_append P (x ∷ xs) ys h k = (h.0, each_append P xs ys h.1 k)

pub each_mapped : {A B : Type 0} (P : A → Type 0) (Q : B → Type 0) (f : A → B) → ((x : A) → P x → Q (f x)) → (xs : List A) → AllByRecursion P xs → AllByRecursion Q (map f xs)
each_mapped P Q f to [] h = tt
each_mapped P Q f to (x ∷ xs) h = (to x h.0, each_mapped P Q f to xs h.1)

pub each_changed : {A : Type 0} (P Q : A → Type 0) → ((x : A) → P x → Q x) → (xs : List A) → AllByRecursion P xs → AllByRecursion Q xs
each_changed P Q to [] h = tt
each_changed P Q to (x ∷ xs) h = (to x h.0, each_changed P Q to xs h.1)
