-- The last pair of a key.
use Rattle.std.proofs.Common.{◌≡◌, ℕ, ◌+◌, ◌<◌, Bool, true, false, cond, List, [], ◌∷◌, ◌++◌, length, get_or, take, Option, Some, None, refl, sym, ap, ◌∙◌}
use Rattle.std.specs.Prelude.{bytes_eq}
use Rattle.std.specs.Option.{option_or}
use Rattle.std.proofs.lemmas.List.{take_more}
use Rattle.graph_read.specs.Attributes.{Pair, last_value}

or_tested : {A : Type 0} (b : Bool) (x : A) (o p : Option A) → option_or (cond b (Some x) o) p ≡ cond b (Some x) (option_or o p)
or_tested true x o p = refl
or_tested false x o p = refl

-- a last pair of the key counts
last_value-push : (key : List ℕ) (pairs : List Pair) (pair : Pair) → last_value key (pairs ++ pair ∷ []) ≡ cond (bytes_eq pair.0 key) (Some pair.1) (last_value key pairs)
last_value-push key [] pair = refl
last_value-push key (p ∷ pairs) pair =
    ap (λ found. option_or found (cond (bytes_eq p.0 key) (Some p.1) None)) (last_value-push key pairs pair)
    ∙ or_tested (bytes_eq pair.0 key) pair.1 (last_value key pairs) (cond (bytes_eq p.0 key) (Some p.1) None)

pub last_value-next : (key : List ℕ) (pairs : List Pair) (i : ℕ) (pair : Pair) → i < length pairs → pair ≡ get_or pairs i pair →
    last_value key (take (i + 1) pairs) ≡ cond (bytes_eq pair.0 key) (Some pair.1) (last_value key (take i pairs))
last_value-next key pairs i pair within is =
    ap (last_value key) (take_more pairs i pair within ∙ ap (λ (p : Pair). take i pairs ++ p ∷ []) (sym is)) ∙ last_value-push key (take i pairs) pair
