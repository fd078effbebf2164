-- What stands behind the bytes that a text begins with.
use Rattle.std.proofs.Common.{◌≡◌, ◌≢◌, ℕ, ◌+◌, ◌/◌, ◌%◌, ◌<◌, ◌≤◌, Bool, true, false, cond, List, [], ◌∷◌, ◌++◌, length, take, drop, Option, Some, None, refl, sym, ap, ◌∙◌, append_assoc, arith}
use Rattle.std.specs.Prelude.{bytes_eq}
use Rattle.std.specs.Fmt.{decimal}
use Rattle.std.proofs.lemmas.List.{take_at, drop_at, take-append-drop, append_cancel_left}
use Rattle.std.proofs.lemmas.Slice.Eq.{bytes_eq-Decides}
use Rattle.std.proofs.lemmas.Fmt.{decimal_digit, decimal_step}
use Rattle.port_types.specs.declared.side.Side.{Side}
use Rattle.port_types.specs.PortText.{side_word}
use Rattle.port_types.specs.PortGrammar.{text_behind}

one_answer : {A : Type 0} (x y : A) → ◌≡◌ {A = Option A} (Some x) (Some y) → x ≡ y
one_answer x y e = cc

tested : {A : Type 0} (b : Bool) (x y : A) → cond b (Some x) None ≡ Some y → (b ≡ true) × (x ≡ y)
tested true x y e = (refl, one_answer x y e)
tested false x y e = absurd (cc)

pub behind-append : (front rest : List ℕ) → text_behind front (front ++ rest) ≡ Some rest
unfolding text_behind
behind-append front rest = rw (take_at front rest (length front) refl, drop_at front rest (length front) refl, (bytes_eq-Decides front front).1 refl) refl

pub behind-is : (front text rest : List ℕ) → text_behind front text ≡ Some rest → text ≡ front ++ rest
unfolding text_behind
behind-is front text rest e =
    let parts = tested (bytes_eq (take (length front) text) front) (drop (length front) text) rest e in
    let same : take (length front) text ≡ front = (bytes_eq-Decides (take (length front) text) front).0 parts.0 in
    sym (take-append-drop (length front) text) ∙ (λ i. same i ++ parts.1 i)

pub behind-none : (front text rest : List ℕ) → text_behind front text ≡ None → text ≢ front ++ rest
behind-none front text rest none is =
    let found : text_behind front text ≡ Some rest = ap (text_behind front) is ∙ behind-append front rest in cc

-- behind one text and then behind another
pub behind-both : (a b text rest : List ℕ) → text_behind a text ≡ Some rest → text_behind (a ++ b) text ≡ text_behind b rest
behind-both a b text rest found = by (text_behind b rest) refl
  where
    is : text ≡ a ++ rest
    is = behind-is a text rest found

    other : (o : Option (List ℕ)) → text_behind (a ++ b) text ≡ o → text_behind b rest ≡ None → o ≡ None
    other None e none = refl
    other (Some more) e none =
        let whole : a ++ rest ≡ a ++ (b ++ more) = sym is ∙ behind-is (a ++ b) text more e ∙ append_assoc a b more in
        absurd (behind-none b rest more none (append_cancel_left a rest (b ++ more) whole))

    by : (o : Option (List ℕ)) → text_behind b rest ≡ o → text_behind (a ++ b) text ≡ text_behind b rest
    by (Some more) e =
        let whole : text ≡ (a ++ b) ++ more = is ∙ ap (λ t. a ++ t) (behind-is b rest more e) ∙ sym (append_assoc a b more) in
        ap (text_behind (a ++ b)) whole ∙ behind-append (a ++ b) more ∙ sym e
    by None e = other (text_behind (a ++ b) text) refl e ∙ sym e

pub behind-neither : (a b text : List ℕ) → text_behind a text ≡ None → text_behind (a ++ b) text ≡ None
behind-neither a b text none = by (text_behind (a ++ b) text) refl
  where
    by : (o : Option (List ℕ)) → text_behind (a ++ b) text ≡ o → o ≡ None
    by None e = refl
    by (Some more) e = absurd (behind-none a text (b ++ more) none (behind-is (a ++ b) text more e ∙ append_assoc a b more))

-- numbers below 100 in decimal
pub decimal_one : (n : ℕ) → n < 10 → (48 + n) ∷ [] ≡ decimal n
decimal_one n small = sym (decimal_digit n small)

pub decimal_two : (n : ℕ) → 10 ≤ n → n < 100 → (48 + n / 10) ∷ (48 + n % 10) ∷ [] ≡ decimal n
decimal_two n large small =
    let front : n / 10 < 10 = omega arith in
    sym (decimal_step n large (omega arith) ∙ ap (λ ds. ds ++ (48 + n % 10) ∷ []) (decimal_digit (n / 10) front))

-- what a call found behind the word of a side
pub by_word : (side : Side) (front text : List ℕ) (found : Option (List ℕ)) → front ≡ side_word side → found ≡ text_behind front text → text_behind (side_word side) text ≡ found
by_word side front text found is same = ap (λ f. text_behind f text) (sym is) ∙ sym same
