-- What the scanner finds stands by the definitions.
use Rattle.std.proofs.Common.{◌≡◌, ℕ, refl, sym, ap, subst, ◌∙◌, Bool, true, false, not, ◌&&◌, ◌||◌, ◌==◌, List, [], ◌∷◌, ◌++◌, Option, Some, None, append_assoc, eqb-true}
use Rattle.std.proofs.lemmas.Bool.{cond-true, cond_both, and_parts, not_from_false, or_left, and_from, or_from}
use Rattle.std.specs.Char.{is_ascii_digit}
use Rattle.std.specs.List.{list_all}
use Rattle.dot_text.specs.Tokens.{Token, Id}
use Rattle.dot_text.specs.Lexical.{is_blank, begins_name, is_in_name, is_by_numeral, is_in_line, stops, is_unsigned, is_numeral, is_plain, is_passed, Quotes, Quotes.nothing, Quotes.plain, Quotes.quote, Quotes.passed, mark_token, Spells, Spells.name, Spells.numeral, Spells.quoted, Spells.arrow, Spells.mark, closes, ends_star, Skipped, Skipped.blank, Skipped.slashes, Skipped.block, Skipped.hash}
use Rattle.dot_text.specs.Scanner.{Cut, before, run_of, Front, AtEnd, Skips, Gives, Faulty, block_before, block_of, Quoted, quoted_before, quoted_of, gives_name, gives_numeral, gives_quoted, gives_mark, behind_minus, skips_block, behind_slash, begins_number, front}
use Rattle.dot_text.proofs.Cases.{differ, is_at}

pub record RunIs (test : ℕ → Bool) (bs : List ℕ) (c : Cut) : Type 0 where
  pub is : bs ≡ c.text ++ c.rest
  pub all : list_all test c.text ≡ true
  pub stops : stops test c.rest ≡ true

pub run_is : (test : ℕ → Bool) (bs : List ℕ) → RunIs test bs (run_of test bs)
run_is test [] = record { is = refl; all = refl; stops = refl }
run_is test (b ∷ bs) =
    let r : RunIs test bs (run_of test bs) = run_is test bs in
    cond_both (test b) _ _ (λ c. RunIs test (b ∷ bs) c)
    (λ h. record { is = ap (λ z. b ∷ z) r.is; all = and_from (test b) _ h r.all; stops = r.stops })
    (λ h. record { is = refl; all = refl; stops = not_from_false (test b) h })

abbrev pub Sound : Bool → List ℕ → Front → Type 0
Sound line bs AtEnd = bs ≡ []
Sound line bs (Skips c) = (bs ≡ c.text ++ c.rest) × Skipped line c.text c.rest
Sound line bs (Gives t c) = (bs ≡ c.text ++ c.rest) × Spells c.text c.rest t
Sound line bs Faulty = Unit {0}

name_sound : (line : Bool) (b : ℕ) (bs : List ℕ) → begins_name b ≡ true → Sound line (b ∷ bs) (gives_name (run_of is_in_name (b ∷ bs)))
name_sound line b bs h =
    let r : RunIs is_in_name bs (run_of is_in_name bs) = run_is is_in_name bs in
    let e : run_of is_in_name (b ∷ bs) ≡ before b (run_of is_in_name bs) = cond-true (is_in_name b) _ _ (or_left (begins_name b) (is_ascii_digit b) h) in
    subst (λ c. Sound line (b ∷ bs) (gives_name c)) (sym e)
    (ap (λ z. b ∷ z) r.is, name (b ∷ (run_of is_in_name bs).text) (and_from (begins_name b) _ h r.all) r.stops)

unsigned_numeral : (w : List ℕ) → is_unsigned false w ≡ true → is_numeral w ≡ true
unsigned_numeral [] u = u
unsigned_numeral (b ∷ w) u =
    cond_both (b == 45) _ _ (λ z. z ≡ true)
    (λ h. differ false (is_at (λ z. is_unsigned false (z ∷ w) ≡ true → false ≡ true) b 45 (λ x. x) h u) refl)
    (λ h. u)

numeral_sound : (line : Bool) (bs : List ℕ) → Sound line bs (gives_numeral [] (run_of is_by_numeral bs))
numeral_sound line bs =
    let c : Cut = run_of is_by_numeral bs in
    let r : RunIs is_by_numeral bs (run_of is_by_numeral bs) = run_is is_by_numeral bs in
    cond_both (is_unsigned false (run_of is_by_numeral bs).text) _ _ (λ f. Sound line bs f)
    (λ u. (r.is, numeral (run_of is_by_numeral bs).text (unsigned_numeral (run_of is_by_numeral bs).text u) r.stops))
    (λ h. tt)

signed_sound : (line : Bool) (bs : List ℕ) → Sound line (45 ∷ bs) (gives_numeral (45 ∷ []) (run_of is_by_numeral bs))
signed_sound line bs =
    let r : RunIs is_by_numeral bs (run_of is_by_numeral bs) = run_is is_by_numeral bs in
    cond_both (is_unsigned false (run_of is_by_numeral bs).text) _ _ (λ f. Sound line (45 ∷ bs) f)
    (λ u. (ap (λ z. 45 ∷ z) r.is, numeral (45 ∷ (run_of is_by_numeral bs).text) u r.stops))
    (λ h. tt)

minus_sound : (line : Bool) (bs : List ℕ) → Sound line (45 ∷ bs) (behind_minus bs)
minus_sound line [] = tt
minus_sound line (b ∷ bs) =
    cond_both (b == 62) _ _ (λ f. Sound line (45 ∷ b ∷ bs) f)
    (λ h. (ap (λ z. 45 ∷ z ∷ bs) (eqb-true b 62 h), arrow))
    (λ h. signed_sound line (b ∷ bs))

-- the bytes behind a quote
abbrev pub behind : Bool → List ℕ → List ℕ
behind true bs = 92 ∷ bs
behind false bs = bs

pub record QuotedIs (passed : Bool) (bs : List ℕ) (q : Quoted) : Type 0 where
  pub body : List ℕ
  pub is : bs ≡ body ++ 34 ∷ q.cut.rest
  pub text : q.cut.text ≡ body ++ 34 ∷ []
  pub quotes : Quotes (behind passed body) q.value

abbrev QuotedSome : Bool → List ℕ → Option Quoted → Type 0
QuotedSome p bs None = Unit {0}
QuotedSome p bs (Some q) = QuotedIs p bs q

quoted_more : (from to : Bool) (v : List ℕ) (b : ℕ) (bs : List ℕ) (o : Option Quoted) → ((body value : List ℕ) → Quotes (behind from body) value → Quotes (behind to (b ∷ body)) (v ++ value)) → QuotedSome from bs o → QuotedSome to (b ∷ bs) (quoted_before v b o)
quoted_more from to v b bs None f h = tt
quoted_more from to v b bs (Some q) f h =
    record { body = b ∷ h.body; is = ap (λ z. b ∷ z) h.is; text = ap (λ z. b ∷ z) h.text; quotes = f h.body q.value h.quotes }

passes_of : (b : ℕ) → (b == 10 || b == 13) ≡ false → (b == 34) ≡ false → is_passed b ≡ true
passes_of b h n = by (b == 34) (b == 10) (b == 13) n h
  where
    by : (x y z : Bool) → x ≡ false → (y || z) ≡ false → not (x || y || z) ≡ true
    by true y z e f = differ true refl e
    by false true z e f = differ true refl f
    by false false true e f = differ true refl f
    by false false false e f = refl

plain_of : (b : ℕ) → (b == 34) ≡ false → (b == 92) ≡ false → is_plain b ≡ true
plain_of b h n = by (b == 34) (b == 92) h n
  where
    by : (x y : Bool) → x ≡ false → y ≡ false → not (x || y) ≡ true
    by true y e f = differ true refl e
    by false true e f = differ true refl f
    by false false e f = refl

quoted_is : (passed : Bool) (bs : List ℕ) → QuotedSome passed bs (quoted_of passed bs)
quoted_is true [] = tt
quoted_is false [] = tt
quoted_is true (b ∷ bs) =
    let ih : QuotedSome false bs (quoted_of false bs) = quoted_is false bs in
    cond_both (b == 10 || b == 13) _ _ (λ o. QuotedSome true (b ∷ bs) o) (λ h. tt) (λ h.
    cond_both (b == 34) _ _ (λ o. QuotedSome true (b ∷ bs) o)
    (λ e. quoted_more false true (34 ∷ []) b bs (quoted_of false bs) (λ body value q. subst (λ z. Quotes (92 ∷ z ∷ body) (34 ∷ value)) (sym (eqb-true b 34 e)) (quote q)) ih)
    (λ n. quoted_more false true (92 ∷ b ∷ []) b bs (quoted_of false bs) (λ body value q. passed b (passes_of b h n) q) ih))
quoted_is false (b ∷ bs) =
    let ih : QuotedSome false bs (quoted_of false bs) = quoted_is false bs in
    let behind_it : QuotedSome true bs (quoted_of true bs) = quoted_is true bs in
    cond_both (b == 34) _ _ (λ o. QuotedSome false (b ∷ bs) o)
    (λ e. record { body = []; is = ap (λ z. z ∷ bs) (eqb-true b 34 e); text = ap (λ z. z ∷ []) (eqb-true b 34 e); quotes = nothing })
    (λ h. cond_both (b == 92) _ _ (λ o. QuotedSome false (b ∷ bs) o)
    (λ e. quoted_more true false [] b bs (quoted_of true bs) (λ body value q. subst (λ z. Quotes (z ∷ body) value) (sym (eqb-true b 92 e)) q) behind_it)
    (λ n. quoted_more false false (b ∷ []) b bs (quoted_of false bs) (λ body value q. plain b (plain_of b h n) q) ih))

quoted_sound : (line : Bool) (bs : List ℕ) (o : Option Quoted) → QuotedSome false bs o → Sound line (34 ∷ bs) (gives_quoted o)
quoted_sound line bs None h = tt
quoted_sound line bs (Some q) h = (
  ap (λ z. 34 ∷ z) (h.is ∙ sym (append_assoc h.body (34 ∷ []) q.cut.rest) ∙ ap (λ z. z ++ q.cut.rest) (sym h.text)),
  subst (λ z. Spells (34 ∷ z) q.cut.rest (Id q.value)) (sym h.text) (quoted h.quotes),
)

record BlockIs (star : Bool) (bs : List ℕ) (c : Cut) : Type 0 where
  body : List ℕ
  is : bs ≡ body ++ 47 ∷ c.rest
  text : c.text ≡ body ++ 47 ∷ []
  closes : closes star body ≡ false
  ends : ends_star star body ≡ true

abbrev BlockSome : Bool → List ℕ → Option Cut → Type 0
BlockSome star bs None = Unit {0}
BlockSome star bs (Some c) = BlockIs star bs c

block_more : (star : Bool) (b : ℕ) (bs : List ℕ) (o : Option Cut) → (star && b == 47) ≡ false → BlockSome (b == 42) bs o → BlockSome star (b ∷ bs) (block_before b o)
block_more star b bs None n h = tt
block_more star b bs (Some c) n h =
    record { body = b ∷ h.body; is = ap (λ z. b ∷ z) h.is; text = ap (λ z. b ∷ z) h.text; closes = or_from (star && b == 47) _ n h.closes; ends = h.ends }

block_is : (star : Bool) (bs : List ℕ) → BlockSome star bs (block_of star bs)
block_is star [] = tt
block_is star (b ∷ bs) =
    let ih : BlockSome (b == 42) bs (block_of (b == 42) bs) = block_is (b == 42) bs in
    cond_both (star && b == 47) _ _ (λ o. BlockSome star (b ∷ bs) o)
    (λ h. let two = and_parts star (b == 47) h in
    record { body = []; is = ap (λ z. z ∷ bs) (eqb-true b 47 two.1); text = ap (λ z. z ∷ []) (eqb-true b 47 two.1); closes = refl; ends = two.0 })
    (λ n. block_more star b bs (block_of (b == 42) bs) n ih)

block_sound : (line : Bool) (bs : List ℕ) (o : Option Cut) → BlockSome false bs o → Sound line (47 ∷ 42 ∷ bs) (skips_block o)
block_sound line bs None h = tt
block_sound line bs (Some c) h = (
  ap (λ z. 47 ∷ 42 ∷ z) (h.is ∙ sym (append_assoc h.body (47 ∷ []) c.rest) ∙ ap (λ z. z ++ c.rest) (sym h.text)),
  subst (λ z. Skipped line (47 ∷ 42 ∷ z) c.rest) (sym h.text) (block h.body h.closes h.ends),
)

slash_sound : (line : Bool) (bs : List ℕ) → Sound line (47 ∷ bs) (behind_slash bs)
slash_sound line [] = tt
slash_sound line (b ∷ bs) =
    let r : RunIs is_in_line bs (run_of is_in_line bs) = run_is is_in_line bs in
    cond_both (b == 47) _ _ (λ f. Sound line (47 ∷ b ∷ bs) f)
    (λ h. (ap (λ z. 47 ∷ z) (ap (λ z. z ∷ bs) (eqb-true b 47 h) ∙ ap (λ z. 47 ∷ z) r.is), slashes (run_of is_in_line bs).text r.all r.stops))
    (λ n. cond_both (b == 42) _ _ (λ f. Sound line (47 ∷ b ∷ bs) f)
    (λ h. subst (λ z. Sound line (47 ∷ z ∷ bs) (skips_block (block_of false bs))) (sym (eqb-true b 42 h)) (block_sound line bs (block_of false bs) (block_is false bs)))
    (λ m. tt))

hash_sound : (line : Bool) (bs : List ℕ) → line ≡ true → Sound line (35 ∷ bs) (Skips (before 35 (run_of is_in_line bs)))
hash_sound line bs e =
    let r : RunIs is_in_line bs (run_of is_in_line bs) = run_is is_in_line bs in
    (ap (λ z. 35 ∷ z) r.is, subst (λ z. Skipped z (35 ∷ (run_of is_in_line bs).text) (run_of is_in_line bs).rest) (sym e) (hash (run_of is_in_line bs).text r.all r.stops))

mark_sound : (line : Bool) (b : ℕ) (bs : List ℕ) (o : Option Token) → mark_token b ≡ o → Sound line (b ∷ bs) (gives_mark b bs o)
mark_sound line b bs None e = tt
mark_sound line b bs (Some t) e = (refl, mark b e)

pub front_sound : (line : Bool) (bs : List ℕ) → Sound line bs (front line bs)
front_sound line [] = refl
front_sound line (b ∷ bs) =
    let P : Front → Type 0 = λ f. Sound line (b ∷ bs) f in
    cond_both (begins_name b) _ _ P (λ h. name_sound line b bs h) (λ n.
    cond_both (begins_number b) _ _ P (λ h. numeral_sound line (b ∷ bs)) (λ n.
    cond_both (is_blank b) _ _ P (λ h. (refl, blank b h)) (λ n.
    cond_both (b == 34) _ _ P (λ h. is_at (λ z. Sound line (z ∷ bs) (gives_quoted (quoted_of false bs))) b 34 (quoted_sound line bs (quoted_of false bs) (quoted_is false bs)) h) (λ n.
    cond_both (b == 45) _ _ P (λ h. is_at (λ z. Sound line (z ∷ bs) (behind_minus bs)) b 45 (minus_sound line bs) h) (λ n.
    cond_both (b == 47) _ _ P (λ h. is_at (λ z. Sound line (z ∷ bs) (behind_slash bs)) b 47 (slash_sound line bs) h) (λ n.
    cond_both (b == 35 && line) _ _ P
    (λ h. let two = and_parts (b == 35) line h in is_at (λ z. Sound line (z ∷ bs) (Skips (before 35 (run_of is_in_line bs)))) b 35 (hash_sound line bs two.1) two.0)
    (λ n. mark_sound line b bs (mark_token b) refl)))))))
