-- A text without one of its ASCII bytes.
use Rattle.std.proofs.Common.{◌≡◌, ℕ, ◌+◌, ◌<◌, refl, sym, ap, subst, ◌∙◌, List, [], ◌∷◌, ◌++◌, length, drop, get_or, IsUtf8, append_assoc, append-nil, arith, length-append}
use Rattle.std.proofs.lemmas.Str.{IsUtf8-append, IsUtf8-take, IsUtf8-drop, IsCharBoundary-before_ascii, IsCharBoundary-after_ascii}
use Rattle.std.proofs.Math.Seq.{get_or-append_seam, take-append_seam, drop-append_seam}
use Rattle.dot_text.specs.Scans.{KeepsValue, KeepsEscaped}

pub without_ascii : (v w : List ℕ) (a : ℕ) → a < 128 → IsUtf8 (v ++ a ∷ w) → IsUtf8 (v ++ w)
without_ascii v w a h u =
    let within : length v < length (v ++ a ∷ w) = omega (arith, length-append v (a ∷ w)) in
    let small : get_or (v ++ a ∷ w) (length v) 0 < 128 = subst (λ z. z < 128) (sym (get_or-append_seam v a w 0)) h in
    let front : IsUtf8 v = subst IsUtf8 (take-append_seam v (a ∷ w)) (IsUtf8-take (v ++ a ∷ w) (length v) u (IsCharBoundary-before_ascii (v ++ a ∷ w) (length v) within small)) in
    let back : IsUtf8 (drop (length v + 1) (v ++ a ∷ w)) = IsUtf8-drop (v ++ a ∷ w) (length v + 1) u (IsCharBoundary-after_ascii (v ++ a ∷ w) (length v) u within small) in
    let one : length v + 1 ≡ length (v ++ a ∷ []) = omega (arith, length-append v (a ∷ [])) in
    let rest : drop (length v + 1) (v ++ a ∷ w) ≡ w =
    ap (λ k. drop k (v ++ a ∷ w)) one ∙ ap (drop (length (v ++ a ∷ []))) (sym (append_assoc v (a ∷ []) w)) ∙ drop-append_seam (v ++ a ∷ []) w in
    IsUtf8-append v w front (subst IsUtf8 rest back)

pub quote_opens : (v : List ℕ) (b : ℕ) → b ≡ 34 → v ≡ [] → KeepsValue (b ∷ []) v
quote_opens v b e n more u = subst (λ z. IsUtf8 (z ++ more)) (sym n) (without_ascii [] more b (omega (arith, e)) u)

pub quote_closes : (text v : List ℕ) (b : ℕ) → b ≡ 34 → KeepsValue text v → IsUtf8 (text ++ b ∷ []) → IsUtf8 v
quote_closes text v b e h u = subst IsUtf8 (append-nil v) (without_ascii v [] b (omega (arith, e)) (h (b ∷ []) u))

pub plain_byte : (text v w : List ℕ) (b : ℕ) → w ≡ v ++ b ∷ [] → KeepsValue text v → KeepsValue (text ++ b ∷ []) w
plain_byte text v w b e h more u =
    subst IsUtf8 (sym (append_assoc v (b ∷ []) more) ∙ ap (λ z. z ++ more) (sym e)) (h (b ∷ more) (subst IsUtf8 (append_assoc text (b ∷ []) more) u))

pub backslash : (text v : List ℕ) (b : ℕ) → b ≡ 92 → KeepsValue text v → KeepsEscaped (text ++ b ∷ []) v
backslash text v b e h more u =
    subst (λ z. IsUtf8 (v ++ z ∷ more)) e (h (b ∷ more) (subst IsUtf8 (append_assoc text (b ∷ []) more) u))

pub escaped_quote : (text v w : List ℕ) (b : ℕ) → w ≡ v ++ b ∷ [] → KeepsEscaped text v → KeepsValue (text ++ b ∷ []) w
escaped_quote text v w b e h more u =
    subst IsUtf8 (sym (append_assoc v (b ∷ []) more) ∙ ap (λ z. z ++ more) (sym e))
    (without_ascii v (b ∷ more) 92 (omega arith) (h (b ∷ more) (subst IsUtf8 (append_assoc text (b ∷ []) more) u)))

pub escaped_byte : (text v w : List ℕ) (b : ℕ) → w ≡ (v ++ 92 ∷ []) ++ b ∷ [] → KeepsEscaped text v → KeepsValue (text ++ b ∷ []) w
escaped_byte text v w b e h more u =
    subst IsUtf8 (sym (append_assoc v (92 ∷ []) (b ∷ more)) ∙ sym (append_assoc (v ++ 92 ∷ []) (b ∷ []) more) ∙ ap (λ z. z ++ more) (sym e))
    (h (b ∷ more) (subst IsUtf8 (append_assoc text (b ∷ []) more) u))
