-- What was given and taken, piece by piece.
use Rattle.std.proofs.Common.{◌≡◌, ℕ, ◌+◌, List, ◌++◌, length, take, drop, Option, None, Some, refl, sym, ◌∙◌, ap, subst, append_assoc, length-append, take-append-drop}
use Rattle.std.proofs.lemmas.List.{drop-drop}
use Rattle.std.proofs.Math.Seq.{take-add}
use Rattle.gx_base.specs.Stream.{before, after, Gave}

-- two pieces given
pub before-before : (a b : List ℕ) (left : Option (List ℕ)) →
    before a (before b left) ≡ before (a ++ b) left
before-before a b None = refl
before-before a b (Some rest) = ap Some (sym (append_assoc a b rest))

-- two pieces taken
pub after-after : (taken : Option (List ℕ)) (a b : List ℕ) →
    after (after taken a) b ≡ after taken (a ++ b)
after-after None a b = refl
after-after (Some bytes) a b = ap Some (append_assoc bytes a b)

-- the front of a list, given
pub given_front : (n m : ℕ) (bytes front : List ℕ) → front ≡ take m (drop n bytes) →
    Some (drop n bytes) ≡ before front (Some (drop (n + m) bytes))
given_front n m bytes front e =
    let whole : take m (drop n bytes) ++ drop (n + m) bytes ≡ drop n bytes =
    rw (← drop-drop m n bytes) (take-append-drop m (drop n bytes)) in
    ap Some (sym (ap (λ piece. piece ++ drop (n + m) bytes) e ∙ whole))

-- one more piece of a list, taken
pub taken_front : (taken start : Option (List ℕ)) (n m : ℕ) (bytes : List ℕ) →
    taken ≡ after start (take n bytes) →
    after taken (take m (drop n bytes)) ≡ after start (take (n + m) bytes)
taken_front taken start n m bytes e =
    ap (λ so_far. after so_far (take m (drop n bytes))) e
    ∙ after-after start (take n bytes) (take m (drop n bytes))
    ∙ ap (after start) (sym (take-add n m bytes))

-- what was held before, and a piece
pub gave_more : (P : ℕ → Type 0) (held given : List ℕ) (was now : Option (List ℕ)) →
    was ≡ before given now → P (length held + length given) →
    Gave P (before held was) now
gave_more P held given was now e p =
    (held ++ given, subst P (sym (length-append held given)) p, ap (before held) e ∙ before-before held given now)
