-- A token is the longest that begins at its byte.
use Rattle.std.proofs.Common.{◌≡◌, ℕ, ◌+◌, ◌≤◌, refl, sym, ap, subst, ◌∙◌, ◌==◌, Bool, true, false, if◌then◌else◌, List, [], ◌∷◌, ◌++◌, length, drop, arith}
use Rattle.std.proofs.lemmas.Bool.{cond-true, cond-false, cond_both, and_parts, and_from, or_left}
use Rattle.std.specs.Char.{is_ascii_digit}
use Rattle.std.specs.List.{list_all}
use Rattle.dot_text.specs.Tokens.{Token, Id, Arrow}
use Rattle.dot_text.specs.Lexical.{begins_name, is_in_name, is_by_numeral, is_name, is_numeral, is_unsigned, begins_line, Spells, Spells.name, Spells.numeral, Spells.quoted, Spells.arrow, Spells.mark, TokenAt}
use Rattle.dot_text.specs.Scanner.{Cut, before, run_of, Front, Gives, Faulty, gives_name, gives_numeral, begins_number, front}
use Rattle.dot_text.proofs.Cases.{differ, is_at, number_no_name, number_no_arrow}
use Rattle.dot_text.proofs.Scanned.{cut_of, token_found, numbered, unsigned_all}
use Rattle.dot_text.proofs.Places.{token_front}

run_at_least : (test : ℕ → Bool) (w rest : List ℕ) → list_all test w ≡ true → length w ≤ length (run_of test (w ++ rest)).text
run_at_least test [] rest a = omega arith
run_at_least test (b ∷ w) rest a =
    let h = and_parts (test b) (list_all test w) a in
    let more : length w ≤ length (run_of test (w ++ rest)).text = run_at_least test w rest h.1 in
    subst (λ c. length (b ∷ w) ≤ length c.text) (sym (cond-true (test b) (before b (run_of test (w ++ rest))) _ h.0)) (omega arith)

-- what a front gives is at least so long
AtLeast : ℕ → Front → Type 0
AtLeast n f = (t : Token) (c : Cut) → f ≡ Gives t c → n ≤ length c.text

at_least_gives : (n : ℕ) (u : Token) (d : Cut) → n ≤ length d.text → AtLeast n (Gives u d)
unfolding AtLeast
at_least_gives n u d h = λ t c e. let same : d ≡ c = cc in subst (λ z. n ≤ length z.text) same h

at_least_faulty : (n : ℕ) → AtLeast n Faulty
unfolding AtLeast
at_least_faulty n = λ t c e. let z : Faulty ≡ Gives t c = e in cc

to_front : (n : ℕ) (f g : Front) → f ≡ g → AtLeast n g → AtLeast n f
to_front n f g e h = subst (λ z. AtLeast n z) (sym e) h

numeral_least : (sign w rest : List ℕ) → is_unsigned false w ≡ true → AtLeast (length (sign ++ w)) (gives_numeral sign (run_of is_by_numeral (w ++ rest)))
numeral_least sign w rest u =
    let more : length w ≤ length (run_of is_by_numeral (w ++ rest)).text = run_at_least is_by_numeral w rest (unsigned_all false w u) in
    cond_both (is_unsigned false (run_of is_by_numeral (w ++ rest)).text) _ _ (λ f. AtLeast (length (sign ++ w)) f)
    (λ h. at_least_gives (length (sign ++ w)) _ _ (longer_sign sign w (run_of is_by_numeral (w ++ rest)).text more))
    (λ h. at_least_faulty (length (sign ++ w)))
  where
    longer_sign : (s v x : List ℕ) → length v ≤ length x → length (s ++ v) ≤ length (s ++ x)
    longer_sign [] v x h = h
    longer_sign (b ∷ s) v x h = let more : length (s ++ v) ≤ length (s ++ x) = longer_sign s v x h in omega arith

signed_least : (line : Bool) (w rest : List ℕ) → is_unsigned false w ≡ true → AtLeast (length (45 ∷ w)) (front line (45 ∷ (w ++ rest)))
signed_least line [] rest u = differ false u refl
signed_least line (b ∷ w) rest u =
    to_front (length (45 ∷ b ∷ w)) (front line (45 ∷ b ∷ (w ++ rest))) (gives_numeral (45 ∷ []) (run_of is_by_numeral (b ∷ (w ++ rest)))) (cond-false (b == 62) _ _ (number_no_arrow b ((numbered false b w u).begins)))
    (numeral_least (45 ∷ []) (b ∷ w) rest u)

number_least : (line : Bool) (w rest : List ℕ) → is_numeral w ≡ true → AtLeast (length w) (front line (w ++ rest))
number_least line [] rest h = differ false h refl
number_least line (b ∷ w) rest h = by (b == 45) refl h
  where
    by : (x : Bool) → (b == 45) ≡ x → (if x then is_unsigned false w else is_unsigned false (b ∷ w)) ≡ true → AtLeast (length (b ∷ w)) (front line (b ∷ (w ++ rest)))
    by true f h = is_at (λ z. AtLeast (length (z ∷ w)) (front line (z ∷ (w ++ rest)))) b 45 (signed_least line w rest h) f
    by false f h =
        to_front (length (b ∷ w)) (front line (b ∷ (w ++ rest))) (gives_numeral [] (run_of is_by_numeral (b ∷ (w ++ rest))))
        (cond-false (begins_name b) _ _ (number_no_name b ((numbered false b w h).begins)) ∙ cond-true (begins_number b) _ _ ((numbered false b w h).begins))
        (numeral_least [] (b ∷ w) rest h)

name_least : (line : Bool) (w rest : List ℕ) → is_name w ≡ true → AtLeast (length w) (front line (w ++ rest))
name_least line [] rest h = differ false h refl
name_least line (b ∷ w) rest h =
    let n = and_parts (begins_name b) (list_all is_in_name w) h in
    to_front (length (b ∷ w)) (front line (b ∷ (w ++ rest))) (gives_name (run_of is_in_name (b ∷ (w ++ rest)))) (cond-true (begins_name b) _ _ n.0)
    (at_least_gives (length (b ∷ w)) _ _ (run_at_least is_in_name (b ∷ w) rest (and_from (is_in_name b) (list_all is_in_name w) (or_left (begins_name b) (is_ascii_digit b) n.0) n.1)))

front_least : {text other : List ℕ} {u : Token} (line : Bool) (rest : List ℕ) → Spells text other u → AtLeast (length text) (front line (text ++ rest))
front_least line rest (name w h s) = name_least line w rest h
front_least line rest (numeral w h s) = number_least line w rest h
front_least {u = u} line rest (quoted {bs = bs} {v = v} q) =
    to_front (length (34 ∷ (bs ++ 34 ∷ []))) (front line (34 ∷ ((bs ++ 34 ∷ []) ++ rest))) (Gives (Id v) (cut_of (34 ∷ (bs ++ 34 ∷ [])) rest)) (token_found line (quoted q)) (at_least_gives (length (34 ∷ (bs ++ 34 ∷ []))) (Id v) (cut_of (34 ∷ (bs ++ 34 ∷ [])) rest) (omega arith))
front_least line rest arrow = at_least_gives 2 Arrow (cut_of (45 ∷ 62 ∷ []) rest) (omega arith)
front_least {u = u} line rest (mark b e) =
    to_front 1 (front line (b ∷ rest)) (Gives u (cut_of (b ∷ []) rest)) (token_found line (mark b e)) (at_least_gives 1 u (cut_of (b ∷ []) rest) (omega arith))

-- no token in any surroundings is a longer front of what stands there
pub token_longest : (bytes : List ℕ) (p q : ℕ) (t u : Token) (text rest other : List ℕ) → TokenAt bytes p t q → drop p bytes ≡ text ++ rest → Spells text other u → p + length text ≤ q
unfolding AtLeast
token_longest bytes p q t u text rest other a e s =
    let h : length text ≤ length a.text = front_least (begins_line bytes p) rest s t (cut_of a.text a.rest) (ap (front (begins_line bytes p)) (sym e) ∙ token_front a) in
    omega (arith, h, a.ends)
