-- What stands by the definitions, the scanner finds.
use Rattle.std.proofs.Common.{◌≡◌, ◌⊎◌, inl, inr, ℕ, refl, ap, ◌∙◌, Bool, true, false, not, ◌&&◌, ◌||◌, ◌==◌, List, [], ◌∷◌, ◌++◌, Some, append_assoc, if◌then◌else◌}
use Rattle.std.specs.Char.{is_ascii_digit, is_ascii_alphabetic}
use Rattle.dot_text.specs.Tokens.{Token, Id, word_token}
use Rattle.dot_text.specs.Lexical.{begins_name, is_in_name, is_by_numeral, is_in_line, stops, is_unsigned, is_empty, is_numeral, is_name, Quotes, Quotes.nothing, Quotes.plain, Quotes.quote, Quotes.passed, mark_token, Spells, Spells.name, Spells.numeral, Spells.quoted, Spells.arrow, Spells.mark, closes, ends_star, Skipped, Skipped.blank, Skipped.slashes, Skipped.block, Skipped.hash}
use Rattle.dot_text.specs.Scanner.{Cut, before, run_of, Skips, Gives, block_before, block_of, quoted_before, quoted_of, gives_name, gives_numeral, gives_quoted, gives_mark, skips_block, begins_number, front}
use Rattle.dot_text.proofs.Cases.{differ, blanks, marks, is_at, number_no_name, number_no_arrow, digit_by, digits_by}
use Rattle.std.proofs.lemmas.Bool.{cond-true, cond-false, and_parts, or_parts, not-true, or_left, or_right, and_from}
use Rattle.std.specs.List.{list_all}

abbrev pub cut_of : List ℕ → List ℕ → Cut
cut_of w rest = record { text = w; rest = rest }

pub run_all : (test : ℕ → Bool) (w rest : List ℕ) → list_all test w ≡ true → stops test rest ≡ true → run_of test (w ++ rest) ≡ cut_of w rest
run_all test [] [] a s = refl
run_all test [] (b ∷ bs) a s = cond-false (test b) _ _ (not-true (test b) s)
run_all test (b ∷ w) rest a s =
    let h = and_parts (test b) (list_all test w) a in
    cond-true (test b) _ _ h.0 ∙ ap (before b) (run_all test w rest h.1 s)

-- the tests of one byte of a numeral
pub record Numbered (some : Bool) (b : ℕ) (w : List ℕ) : Type 0 where
  pub begins : begins_number b ≡ true
  pub by : is_by_numeral b ≡ true
  pub rest : (list_all is_ascii_digit w ≡ true) ⊎ (is_unsigned true w ≡ true)

pub numbered : (some : Bool) (b : ℕ) (w : List ℕ) → is_unsigned some (b ∷ w) ≡ true → Numbered some b w
numbered some b w e = by (b == 46) refl (is_ascii_digit b) refl e
  where
    by : (x : Bool) → (b == 46) ≡ x → (y : Bool) → is_ascii_digit b ≡ y → (if x then list_all is_ascii_digit w && (some || not (is_empty w)) else y && is_unsigned true w) ≡ true → Numbered some b w
    by true f y g e =
        record {
          begins = or_right (is_ascii_digit b) (b == 46) f;
          by = or_right (is_ascii_digit b || is_ascii_alphabetic b || b == 95) (b == 46) f;
          rest = inl ((and_parts (list_all is_ascii_digit w) _ e).0);
        }
    by false f false g e = differ false e refl
    by false f true g e =
        record {
          begins = or_left (is_ascii_digit b) (b == 46) g;
          by = digit_by b g;
          rest = inr e;
        }

pub unsigned_all : (some : Bool) (w : List ℕ) → is_unsigned some w ≡ true → list_all is_by_numeral w ≡ true
unsigned_all some [] e = refl
unsigned_all some (b ∷ w) e =
    let n : Numbered some b w = numbered some b w e in
    and_from (is_by_numeral b) (list_all is_by_numeral w) n.by (elim n.rest [ inl d ↦ digits_by w d | inr u ↦ unsigned_all true w u ])

pub numeral_found : (sign w rest : List ℕ) → is_unsigned false w ≡ true → stops is_by_numeral rest ≡ true → gives_numeral sign (run_of is_by_numeral (w ++ rest)) ≡ Gives (Id (sign ++ w)) (cut_of (sign ++ w) rest)
numeral_found sign w rest u s =
    ap (gives_numeral sign) (run_all is_by_numeral w rest (unsigned_all false w u) s) ∙ cond-true (is_unsigned false w) _ _ u

pub quotes_found : {bs : List ℕ} {v : List ℕ} → Quotes bs v → (rest : List ℕ) → quoted_of false (bs ++ 34 ∷ rest) ≡ Some (record { value = v; cut = cut_of (bs ++ 34 ∷ []) rest })
quotes_found nothing rest = refl
quotes_found (plain b h q) rest =
    let n = or_parts (b == 34) (b == 92) (not-true _ h) in
    cond-false (b == 34) _ _ n.0 ∙ cond-false (b == 92) _ _ n.1 ∙ ap (quoted_before (b ∷ []) b) (quotes_found q rest)
quotes_found (quote q) rest = ap (λ z. quoted_before [] 92 (quoted_before (34 ∷ []) 34 z)) (quotes_found q rest)
quotes_found (passed b h q) rest =
    let n = or_parts (b == 34 || b == 10) (b == 13) (not-true _ h) in
    let m = or_parts (b == 34) (b == 10) n.0 in
    ap (quoted_before [] 92)
    (cond-false (b == 10 || b == 13) _ _ (ap (λ z. z || b == 13) m.1 ∙ n.1)
    ∙ cond-false (b == 34) _ _ m.0
    ∙ ap (quoted_before (92 ∷ b ∷ []) b) (quotes_found q rest))

pub block_found : (star : Bool) (w rest : List ℕ) → closes star w ≡ false → ends_star star w ≡ true → block_of star (w ++ 47 ∷ rest) ≡ Some (cut_of (w ++ 47 ∷ []) rest)
block_found star [] rest c e = cond-true (star && 47 == 47) _ _ (and_from star true e refl)
block_found star (b ∷ w) rest c e =
    let n = or_parts (star && b == 47) (closes (b == 42) w) c in
    cond-false (star && b == 47) _ _ n.0 ∙ ap (block_before b) (block_found (b == 42) w rest n.1 e)

-- the tests that come first do not hold
numeral_front : (line : Bool) (b : ℕ) (bs : List ℕ) → begins_number b ≡ true → front line (b ∷ bs) ≡ gives_numeral [] (run_of is_by_numeral (b ∷ bs))
numeral_front line b bs h = cond-false (begins_name b) _ _ (number_no_name b h) ∙ cond-true (begins_number b) _ _ h

name_found : (line : Bool) (w rest : List ℕ) → is_name w ≡ true → stops is_in_name rest ≡ true → front line (w ++ rest) ≡ Gives (word_token w) (cut_of w rest)
name_found line [] rest h s = differ false h refl
name_found line (b ∷ w) rest h s =
    let n = and_parts (begins_name b) (list_all is_in_name w) h in
    cond-true (begins_name b) _ _ n.0
    ∙ ap gives_name (run_all is_in_name (b ∷ w) rest (and_from (is_in_name b) (list_all is_in_name w) (or_left (begins_name b) (is_ascii_digit b) n.0) n.1) s)

signed_found : (line : Bool) (w rest : List ℕ) → is_unsigned false w ≡ true → stops is_by_numeral rest ≡ true → front line (45 ∷ (w ++ rest)) ≡ Gives (Id (45 ∷ w)) (cut_of (45 ∷ w) rest)
signed_found line [] rest u s = differ false u refl
signed_found line (b ∷ w) rest u s =
    cond-false (b == 62) _ _ (number_no_arrow b ((numbered false b w u).begins)) ∙ numeral_found (45 ∷ []) (b ∷ w) rest u s

number_found : (line : Bool) (w rest : List ℕ) → is_numeral w ≡ true → stops is_by_numeral rest ≡ true → front line (w ++ rest) ≡ Gives (Id w) (cut_of w rest)
number_found line [] rest h s = differ false h refl
number_found line (b ∷ w) rest h s = by (b == 45) refl h
  where
    by : (x : Bool) → (b == 45) ≡ x → (if x then is_unsigned false w else is_unsigned false (b ∷ w)) ≡ true → front line (b ∷ (w ++ rest)) ≡ Gives (Id (b ∷ w)) (cut_of (b ∷ w) rest)
    by true f h = is_at (λ z. front line (z ∷ (w ++ rest)) ≡ Gives (Id (z ∷ w)) (cut_of (z ∷ w) rest)) b 45 (signed_found line w rest h s) f
    by false f h = numeral_front line b (w ++ rest) ((numbered false b w h).begins) ∙ numeral_found [] (b ∷ w) rest h s

pub token_found : {text rest : List ℕ} {t : Token} (line : Bool) → Spells text rest t → front line (text ++ rest) ≡ Gives t (cut_of text rest)
token_found {rest = rest} line (name w h s) = name_found line w rest h s
token_found {rest = rest} line (numeral w h s) = number_found line w rest h s
token_found {rest = rest} line (quoted {bs = bs} q) =
    ap (λ z. gives_quoted (quoted_of false z)) (append_assoc bs (34 ∷ []) rest) ∙ ap gives_quoted (quotes_found q rest)
token_found line arrow = refl
token_found {rest = rest} {t = t} line (mark b e) = marks (λ z u. front line (z ∷ rest) ≡ Gives u (cut_of (z ∷ []) rest)) refl refl refl refl refl refl refl b t e

pub skip_found : {line : Bool} {text rest : List ℕ} → Skipped line text rest → front line (text ++ rest) ≡ Skips (cut_of text rest)
skip_found {line = line} {rest = rest} (blank b h) = blanks (λ z. front line (z ∷ rest) ≡ Skips (cut_of (z ∷ []) rest)) refl refl refl refl b h
skip_found {rest = rest} (slashes w a s) = ap (λ z. Skips (before 47 (before 47 z))) (run_all is_in_line w rest a s)
skip_found {rest = rest} (block w c e) =
    ap (λ z. skips_block (block_of false z)) (append_assoc w (47 ∷ []) rest) ∙ ap skips_block (block_found false w rest c e)
skip_found {rest = rest} (hash w a s) = ap (λ z. Skips (before 35 z)) (run_all is_in_line w rest a s)
