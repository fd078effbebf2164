-- Lists of queues, of slots and of numbers.
use Rattle.std.proofs.Common.{◌≡◌, ℕ, zero, suc, ◌+◌, ◌-◌, ◌^◌, ◌<◌, ◌≤◌, List, [], ◌∷◌, ◌++◌, length, map, take, drop, refl, sym, ap, ◌∙◌, arith, slice_index_or, slice_set, Some, true, nat_eq, cond, drop-cons, add-one}
use Rattle.std.specs.List.{AllByRecursion, zip}
use Rattle.std.proofs.Math.Seq.{take-append_seam}
use Rattle.std.proofs.lemmas.List.{length-append}
use Rattle.std.proofs.lemmas.Nat.{pow_pos}
use Rattle.op_table.specs.Value.{InputsFit, widths_of}
use Rattle.port_types.specs.Token.{Fits}
use Rattle.components.specs.Kind.{field}
use Rattle.circuits.specs.PortTokens.{Token}
use Rattle.std.proofs.lemmas.Bool.Decides.{nat_tests}
use Rattle.circuits.specs.CircuitState.{Slot}
use Rattle.circuits.specs.Firing.{finished}
use Rattle.states.specs.Giving.{finish_slot, head_numbers, number_of}
use Rattle.states.specs.Place.{but_last, queue_at}
use Rattle.states.specs.Ready.{FitQueues}

pub nat_same : (i : ℕ) → nat_eq i i ≡ true
nat_same i = grind (arith, nat_tests)

-- each queue without its head
pub each_dropped : (new old : List (List Token)) → length new ≡ length old → ((k : ℕ) → k < length old → queue_at new k ≡ drop 1 (queue_at old k)) → new ≡ map (drop 1) old
each_dropped [] [] count each = refl
each_dropped [] (q ∷ old) count each = absurd (omega (arith, count))
each_dropped (p ∷ new) [] count each = absurd (omega (arith, count))
each_dropped (p ∷ new) (q ∷ old) count each =
    let first : p ≡ drop 1 q = each 0 (omega arith) in
    let rest = each_dropped new old (omega (arith, count)) (λ k below. each (suc k) (omega (arith, below))) in
    λ i. first i ∷ rest i

-- the numbers at the heads, each with its width

pub zip_step : (ws : List ℕ) (qs : List (List Token)) (index : ℕ) → index < length ws → index < length qs →
    zip (drop index ws) (head_numbers (drop index qs)) ≡ (slice_index_or ws index 0, number_of (queue_at qs index)) ∷ zip (drop (index + 1) ws) (head_numbers (drop (index + 1) qs))
zip_step ws qs index below under =
    (λ i. zip (drop-cons ws index 0 below i) (head_numbers (drop-cons qs index [] under i)))
    ∙ ap (λ k. (slice_index_or ws index 0, number_of (queue_at qs index)) ∷ zip (drop k ws) (head_numbers (drop k qs))) (sym (add-one index))

pub zip_widths : (ws : List ℕ) (qs : List (List Token)) → FitQueues (map field ws) qs → widths_of (zip ws (head_numbers qs)) ≡ ws
zip_widths [] [] fit = refl
zip_widths [] (q ∷ qs) fit = absurd fit
zip_widths (w ∷ ws) [] fit = absurd fit
zip_widths (w ∷ ws) (q ∷ qs) fit = ap (λ x. w ∷ x) (zip_widths ws qs fit.1)

number_fits : (w : ℕ) (q : List Token) → AllByRecursion (Fits (field w)) q → number_of q < 2 ^ w
number_fits w [] fit = pow_pos w
number_fits w ([] ∷ q) fit = pow_pos w
number_fits w ((number ∷ v) ∷ q) fit = fit.0.0

pub zip_fit : (ws : List ℕ) (qs : List (List Token)) → FitQueues (map field ws) qs → InputsFit (zip ws (head_numbers qs))
zip_fit [] [] fit = λ k d below. absurd (omega (arith, below))
zip_fit [] (q ∷ qs) fit = absurd fit
zip_fit (w ∷ ws) [] fit = absurd fit
zip_fit (w ∷ ws) (q ∷ qs) fit = each (zip_fit ws qs fit.1)
  where
    each : InputsFit (zip ws (head_numbers qs)) → InputsFit ((w, number_of q) ∷ zip ws (head_numbers qs))
    each more zero d below = number_fits w q fit.0
    each more (suc k) d below = more k d (omega (arith, below))

-- what came last goes again
pub last_gone : (queue : List Token) (v : Token) → but_last (queue ++ v ∷ []) ≡ queue
last_gone queue v =
    let count : length (queue ++ v ∷ []) - 1 ≡ length queue = omega (arith, length-append queue (v ∷ [])) in
    ap (λ k. take k (queue ++ v ∷ [])) count ∙ take-append_seam queue (v ∷ [])

pub field_count : (ws : List ℕ) → length (map field ws) ≡ length ws
field_count [] = refl
field_count (w ∷ ws) = ap suc (field_count ws)

pub zip_none : (ws ns : List ℕ) (index : ℕ) → length ws ≤ index → zip (drop index ws) ns ≡ []
zip_none ws ns index past = ap (λ x. zip x ns) (drop_all ws index past)
  where
    drop_all : (xs : List ℕ) (k : ℕ) → length xs ≤ k → drop k xs ≡ []
    drop_all [] zero over = refl
    drop_all [] (suc k) over = refl
    drop_all (x ∷ xs) zero over = absurd (omega (arith, over))
    drop_all (x ∷ xs) (suc k) over = drop_all xs k (omega (arith, over))

-- within a list it does not matter what is answered outside
pub within_same : {A : Type 0} (xs : List A) (i : ℕ) (a b : A) → i < length xs → slice_index_or xs i a ≡ slice_index_or xs i b
within_same [] i a b below = absurd (omega (arith, below))
within_same (x ∷ xs) zero a b below = refl
within_same (x ∷ xs) (suc i) a b below = within_same xs i a b (omega (arith, below))

-- the slot of a tag is found
pub finish_found : (slots : List Slot) (index tag : ℕ) (v : Token) (slot : Slot) → index < length slots → slot ≡ slice_index_or slots index slot → slot.tag ≡ tag →
    slice_set slots index (record { tag = slot.tag; result = Some v }) ≡ take index slots ++ finish_slot tag v (drop index slots)
finish_found [] index tag v slot below is same = absurd (omega (arith, below))
finish_found (s ∷ slots) zero tag v slot below is same =
    let tags : s.tag ≡ tag = ap (λ (x : Slot). x.tag) (sym is) ∙ same in
    (λ i. record { tag = (ap (λ (x : Slot). x.tag) is) i; result = Some v } ∷ slots)
    ∙ ap (λ b. cond b (finished s.tag v ∷ slots) (s ∷ finish_slot tag v slots)) (sym (ap (nat_eq s.tag) (sym tags) ∙ nat_same s.tag))
finish_found (s ∷ slots) (suc index) tag v slot below is same = ap (λ x. s ∷ x) (finish_found slots index tag v slot (omega (arith, below)) is same)
