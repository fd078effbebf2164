-- The bytes from the first on that pass a test.
use Rattle.std.proofs.Common.{◌≡◌, ℕ, ◌≤◌, refl, sym, ap, subst, ◌∙◌, Bool, List, [], ◌∷◌, ◌++◌, length, IsUtf8, append_assoc}
use Rattle.std.proofs.lemmas.List.Sums.{prefix_len-le-length}
use Rattle.std.specs.List.{prefix_len}
use Rattle.dot_text.specs.Runs.{never}
use Rattle.dot_text.specs.Scans.{KeepsValue}

pub prefix_within : (test : ℕ → Bool) (bs : List ℕ) → prefix_len test bs ≤ length bs
prefix_within test bs = prefix_len-le-length test bs

pub prefix_never : (bs : List ℕ) → prefix_len never bs ≡ 0
prefix_never [] = refl
prefix_never (b ∷ bs) = refl

-- a value with the bytes of a run keeps UTF-8 as it did before them
pub run_keeps : (text run v w more : List ℕ) → w ≡ v ++ run → KeepsValue text v → IsUtf8 ((text ++ run) ++ more) → IsUtf8 (w ++ more)
run_keeps text run v w more e keeps u =
    subst IsUtf8 (sym (ap (λ z. z ++ more) e ∙ append_assoc v run more)) (keeps (run ++ more) (subst IsUtf8 (append_assoc text run more) u))
