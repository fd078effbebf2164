-- A run of bytes that stay within an item.
use Rattle.std.proofs.Common.{◌≡◌, ℕ, ◌+◌, ◌-◌, ◌≤◌, refl, sym, ap, subst, ◌∙◌, Bool, true, false, cond, ◌||◌, ◌==◌, List, [], ◌∷◌, ◌++◌, take, drop, slice_range, append-nil, append_assoc, arith}
use Rattle.std.proofs.lemmas.Bool.{cond-true, cond-false, and_parts, or_parts, not-true, and_from}
use Rattle.std.proofs.lemmas.List.{take-append-drop, drop-drop}
use Rattle.std.proofs.Math.Seq.{take-add}
use Rattle.std.specs.List.{prefix_len, list_all}
use Rattle.dot_text.specs.Lexical.{is_in_name, is_by_numeral, is_in_line}
use Rattle.dot_text.specs.Stream.{Mode, InName, InNumber, Minus, InQuotes, Slash, InLine, InBlock, Now, More, taken}
use Rattle.dot_text.specs.Rests.{rest_front}
use Rattle.dot_text.specs.Runs.{stays, stayed}
use Rattle.dot_text.proofs.Stream.{TakenSo, taken_so}
use Rattle.dot_text.proofs.Slices.{slice_join}

stays_taken : (m : Mode) (text : List ℕ) (b : ℕ) → stays m b ≡ true → taken m text b ≡ Now (More (stayed m (b ∷ [])))
stays_taken InName text b h = cond-true (is_in_name b) _ _ h
stays_taken InNumber text b h = cond-true (is_by_numeral b) _ _ h
stays_taken InLine text b h = cond-true (is_in_line b) _ _ h
stays_taken (InBlock false) text b h = ap (λ z. Now (More (InBlock z))) (not-true (b == 42) h)
stays_taken (InBlock true) text b h = let z : false ≡ true = h in cc
stays_taken (InQuotes false v) text b h =
    let n = or_parts (b == 34) (b == 92) (not-true (b == 34 || b == 92) h) in
    cond-false (b == 34) _ _ n.0 ∙ cond-false (b == 92) _ _ n.1
stays_taken (InQuotes true v) text b h = let z : false ≡ true = h in cc
stays_taken Minus text b h = let z : false ≡ true = h in cc
stays_taken Slash text b h = let z : false ≡ true = h in cc

stays_stayed : (m : Mode) (run : List ℕ) → stays (stayed m run) ≡ stays m
stays_stayed InName run = refl
stays_stayed InNumber run = refl
stays_stayed InLine run = refl
stays_stayed (InBlock star) run = refl
stays_stayed (InQuotes false v) run = refl
stays_stayed (InQuotes true v) run = refl
stays_stayed Minus run = refl
stays_stayed Slash run = refl

stayed_none : (m : Mode) → stayed m [] ≡ m
stayed_none InName = refl
stayed_none InNumber = refl
stayed_none InLine = refl
stayed_none (InBlock star) = refl
stayed_none (InQuotes false v) = ap (InQuotes false) (append-nil v)
stayed_none (InQuotes true v) = refl
stayed_none Minus = refl
stayed_none Slash = refl

stayed_more : (m : Mode) (b : ℕ) (run : List ℕ) → stayed (stayed m (b ∷ [])) run ≡ stayed m (b ∷ run)
stayed_more InName b run = refl
stayed_more InNumber b run = refl
stayed_more InLine b run = refl
stayed_more (InBlock star) b run = refl
stayed_more (InQuotes false v) b run = ap (InQuotes false) (append_assoc v (b ∷ []) run)
stayed_more (InQuotes true v) b run = refl
stayed_more Minus b run = refl
stayed_more Slash b run = refl

rest_more : (m : Mode) (text : List ℕ) (b : ℕ) (bs : List ℕ) → stays m b ≡ true → rest_front m text (b ∷ bs) ≡ rest_front (stayed m (b ∷ [])) (text ++ b ∷ []) bs
rest_more m text b bs h = subst (λ z. TakenSo (rest_front m text (b ∷ bs)) text b bs z) (stays_taken m text b h) (taken_so m text b bs)

-- what stands at the front is the same behind bytes that stay
rest_all : (run rest : List ℕ) (m : Mode) (text : List ℕ) → list_all (stays m) run ≡ true → rest_front m text (run ++ rest) ≡ rest_front (stayed m run) (text ++ run) rest
rest_all [] rest m text h = ap (λ z. rest_front z text rest) (sym (stayed_none m)) ∙ ap (λ z. rest_front (stayed m []) z rest) (sym (append-nil text))
rest_all (b ∷ run) rest m text h =
    let two = and_parts (stays m b) (list_all (stays m) run) h in
    rest_more m text b (run ++ rest) two.0
    ∙ rest_all run rest (stayed m (b ∷ [])) (text ++ b ∷ []) (ap (λ test. list_all test run) (stays_stayed m (b ∷ [])) ∙ two.1)
    ∙ ap (λ z. rest_front z ((text ++ b ∷ []) ++ run) rest) (stayed_more m b run)
    ∙ ap (λ z. rest_front (stayed m (b ∷ run)) z rest) (append_assoc text (b ∷ []) run)

all_prefix : (test : ℕ → Bool) (bs : List ℕ) → list_all test (take (prefix_len test bs) bs) ≡ true
all_prefix test [] = refl
all_prefix test (b ∷ bs) = by (test b) refl (all_prefix test bs)
  where
    by : (x : Bool) → test b ≡ x → list_all test (take (prefix_len test bs) bs) ≡ true → list_all test (take (cond x (1 + prefix_len test bs) 0) (b ∷ bs)) ≡ true
    by true e rest = ap (list_all test) (take-add 1 (prefix_len test bs) (b ∷ bs)) ∙ and_from (test b) (list_all test (take (prefix_len test bs) bs)) e rest
    by false e rest = refl

-- the same over the bytes that are read
pub run_rests : (bytes : List ℕ) (start at to : ℕ) (m next : Mode) → start ≤ at → to ≡ at + prefix_len (stays m) (drop at bytes) → next ≡ stayed m (slice_range bytes at to)
    → rest_front m (slice_range bytes start at) (drop at bytes) ≡ rest_front next (slice_range bytes start to) (drop to bytes)
run_rests bytes start at to m next order is mode =
    let more : List ℕ = drop at bytes in
    let count : ℕ = prefix_len (stays m) (drop at bytes) in
    let long : to - at ≡ prefix_len (stays m) (drop at bytes) = omega arith in
    let run : slice_range bytes at to ≡ take (prefix_len (stays m) (drop at bytes)) (drop at bytes) = ap (λ k. take k (drop at bytes)) long in
    ap (rest_front m (slice_range bytes start at)) (sym (take-append-drop (prefix_len (stays m) (drop at bytes)) (drop at bytes)))
    ∙ rest_all (take (prefix_len (stays m) (drop at bytes)) (drop at bytes)) (drop (prefix_len (stays m) (drop at bytes)) (drop at bytes)) m (slice_range bytes start at) (all_prefix (stays m) (drop at bytes))
    ∙ ap (λ z. rest_front (stayed m z) (slice_range bytes start at ++ z) (drop (prefix_len (stays m) (drop at bytes)) (drop at bytes))) (sym run)
    ∙ ap (λ z. rest_front z (slice_range bytes start at ++ slice_range bytes at to) (drop (prefix_len (stays m) (drop at bytes)) (drop at bytes))) (sym mode)
    ∙ ap (λ z. rest_front next z (drop (prefix_len (stays m) (drop at bytes)) (drop at bytes))) (slice_join bytes start at to order (omega arith))
    ∙ ap (rest_front next (slice_range bytes start to)) (drop-drop (prefix_len (stays m) (drop at bytes)) at bytes ∙ ap (λ k. drop k bytes) (sym is))
