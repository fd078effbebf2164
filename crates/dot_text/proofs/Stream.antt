-- Reading byte by byte finds the same.
use Rattle.std.proofs.Common.{◌≡◌, ℕ, zero, suc, ◌+◌, ◌≤◌, inl, inr, refl, sym, ap, subst, ◌∙◌, ◌==◌, Bool, true, false, cond, ◌&&◌, ◌||◌, if◌then◌else◌, List, [], ◌∷◌, ◌++◌, Option, Some, None, Result, Ok, Err, length, drop, get_or, append-nil, append_assoc, arith, length-append}
use Rattle.std.proofs.lemmas.Bool.{cond-true, cond-false, cond_both, eqb-true, and_parts, or_left, or_right, or_cases}
use Rattle.std.specs.Str.{is_utf8}
use Rattle.dot_text.specs.Tokens.{Token, Id, Digraph, Subgraph, Default, Open, Close, OpenList, CloseList, Semicolon, Comma, Equals, Arrow, word_token}
use Rattle.dot_text.proofs.Prefix.{word_no_close}
use Rattle.dot_text.specs.Lexical.{is_blank, begins_name, is_in_name, is_by_numeral, is_in_line, is_numeral, is_unsigned, mark_token, begins_line}
use Rattle.dot_text.specs.Scanner.{Cut, before, run_of, Front, AtEnd, Skips, Gives, Faulty, block_before, block_of, Quoted, quoted_before, quoted_of, gives_name, gives_numeral, gives_quoted, gives_mark, behind_minus, skips_block, behind_slash, begins_number, front, front_at}
use Rattle.dot_text.specs.declared.doc.Doc.{Doc}
use Rattle.dot_text.specs.Documents.{keep, doc_of, Stands, Place}
use Rattle.dot_text.specs.Grammar.{Pair}
use Rattle.dot_text.specs.Machine.{Owner, OfNode, OfEdge, OfDefault, State, Begin, Headed, Named, Ready, Ended, Identified, Pointed, Setting, Defaulted, Listed, Inside, Keyed, Equated, Paired, Whole, kept_of, ready, ended, listed, inside, step}
use Rattle.dot_text.specs.Reading.{Found, IsAnswer, Turn, Fails, Goes, Finds, behind_token}
use Rattle.dot_text.specs.Stream.{Mode, InName, InNumber, Minus, InQuotes, Slash, InLine, InBlock, Item, Blank, Lexeme, Start, More, With, Bad, Taken, Now, Before, with_mark, starts, number_taken, taken, last_item, Scan, Between, Within, Step, Going, Over, front_with, item_turn, after_turn, begin, again, take_in, push, pushes, last_turn, finish_item, answer, reader_of}
use Rattle.dot_text.specs.Rests.{onto, number_rest, quoted_rest, block_rest, slash_rest, minus_rest, rest_front}
use Rattle.dot_text.proofs.Cases.{digit_by}
use Rattle.dot_text.proofs.Sound.{Sound, front_sound}
use Rattle.dot_text.proofs.Reading.{Upto, Says, turn_says, start_upto, past_text}
use Rattle.std.specs.Char.{is_ascii_digit, is_ascii_alphabetic}
use Rattle.std.proofs.lemmas.Bool.Decides.{nat_tests}
use Rattle.dot_text.proofs.Scanned.{cut_of}

abbrev pub ItemSo : Front → List ℕ → Option Item → Type 0
ItemSo f text None = f ≡ Faulty
ItemSo f text (Some i) = f ≡ front_with i (cut_of text [])

-- how one byte leads on
abbrev pub StartsSo : Front → List ℕ → ℕ → List ℕ → Start → Type 0
StartsSo f text b bs (More m) = f ≡ rest_front m (text ++ b ∷ []) bs
StartsSo f text b bs (With i) = f ≡ front_with i (cut_of (text ++ b ∷ []) bs)
StartsSo f text b bs Bad = f ≡ Faulty

abbrev pub TakenSo : Front → List ℕ → ℕ → List ℕ → Taken → Type 0
TakenSo f text b bs (Now x) = StartsSo f text b bs x
TakenSo f text b bs (Before i) = f ≡ front_with i (cut_of text (b ∷ bs))

onto_cut : (text : List ℕ) (b : ℕ) (c : Cut) → onto text (before b c) ≡ onto (text ++ b ∷ []) c
onto_cut text b c = ap (λ z. cut_of z c.rest) (sym (append_assoc text (b ∷ []) c.text))

run_more : (test : ℕ → Bool) (text : List ℕ) (b : ℕ) (bs : List ℕ) → test b ≡ true → onto text (run_of test (b ∷ bs)) ≡ onto (text ++ b ∷ []) (run_of test bs)
run_more test text b bs h = ap (onto text) (cond-true (test b) _ _ h) ∙ onto_cut text b (run_of test bs)

run_ends : (test : ℕ → Bool) (text : List ℕ) (b : ℕ) (bs : List ℕ) → test b ≡ false → onto text (run_of test (b ∷ bs)) ≡ cut_of text (b ∷ bs)
run_ends test text b bs h = ap (onto text) (cond-false (test b) _ _ h) ∙ ap (λ z. cut_of z (b ∷ bs)) (append-nil text)

abbrev number_cut : Cut → Front
number_cut c = if is_numeral c.text then Gives (Id c.text) c else Faulty

number_so : (text : List ℕ) (b : ℕ) (bs : List ℕ) → TakenSo (number_rest text (run_of is_by_numeral (b ∷ bs))) text b bs (number_taken text b)
number_so text b bs =
    cond_both (is_by_numeral b) _ _ (λ z. TakenSo (number_rest text (run_of is_by_numeral (b ∷ bs))) text b bs z)
    (λ h. ap number_cut (run_more is_by_numeral text b bs h))
    (λ h. cond_both (is_numeral text) _ _ (λ z. TakenSo (number_rest text (run_of is_by_numeral (b ∷ bs))) text b bs z)
    (λ n. ap number_cut (run_ends is_by_numeral text b bs h) ∙ cond-true (is_numeral text) _ _ n)
    (λ n. ap number_cut (run_ends is_by_numeral text b bs h) ∙ cond-false (is_numeral text) _ _ n))

quoted_more : (text : List ℕ) (v w : List ℕ) (b : ℕ) (o : Option Quoted) → quoted_rest text v (quoted_before w b o) ≡ quoted_rest (text ++ b ∷ []) (v ++ w) o
quoted_more text v w b None = refl
quoted_more text v w b (Some q) = ap (λ z. Gives (Id z) (onto text (before b q.cut))) (sym (append_assoc v w q.value)) ∙ ap (λ z. Gives (Id ((v ++ w) ++ q.value)) z) (onto_cut text b q.cut)

block_more : (text : List ℕ) (b : ℕ) (o : Option Cut) → block_rest text (block_before b o) ≡ block_rest (text ++ b ∷ []) o
block_more text b None = refl
block_more text b (Some c) = ap Skips (onto_cut text b c)

pub taken_so : (m : Mode) (text : List ℕ) (b : ℕ) (bs : List ℕ) → TakenSo (rest_front m text (b ∷ bs)) text b bs (taken m text b)
taken_so InName text b bs =
    cond_both (is_in_name b) _ _ (λ z. TakenSo (rest_front InName text (b ∷ bs)) text b bs z)
    (λ h. ap gives_name (run_more is_in_name text b bs h)) (λ h. ap gives_name (run_ends is_in_name text b bs h))
taken_so InNumber text b bs = number_so text b bs
taken_so Minus text b bs =
    cond_both (b == 62) _ _ (λ z. TakenSo (rest_front Minus text (b ∷ bs)) text b bs z)
    (λ h. cond-true (b == 62) _ _ h)
    (λ h. subst (λ z. TakenSo z text b bs (number_taken text b)) (sym (cond-false (b == 62) _ _ h)) (number_so text b bs))
taken_so (InQuotes true v) text b bs =
    let f : Front = rest_front (InQuotes true v) text (b ∷ bs) in
    cond_both (b == 10 || b == 13) _ _ (λ z. TakenSo (rest_front (InQuotes true v) text (b ∷ bs)) text b bs z)
    (λ h. ap (quoted_rest text v) (cond-true (b == 10 || b == 13) _ _ h))
    (λ h. cond_both (b == 34) _ _ (λ z. TakenSo (rest_front (InQuotes true v) text (b ∷ bs)) text b bs z)
    (λ e. ap (quoted_rest text v) (cond-false (b == 10 || b == 13) _ _ h ∙ cond-true (b == 34) _ _ e) ∙ quoted_more text v (34 ∷ []) b (quoted_of false bs))
    (λ e. ap (quoted_rest text v) (cond-false (b == 10 || b == 13) _ _ h ∙ cond-false (b == 34) _ _ e) ∙ quoted_more text v (92 ∷ b ∷ []) b (quoted_of false bs)))
taken_so (InQuotes false v) text b bs =
    cond_both (b == 34) _ _ (λ z. TakenSo (rest_front (InQuotes false v) text (b ∷ bs)) text b bs z)
    (λ h. ap (quoted_rest text v) (cond-true (b == 34) _ _ h) ∙ ap (λ z. Gives (Id z) (cut_of (text ++ b ∷ []) bs)) (append-nil v))
    (λ h. cond_both (b == 92) _ _ (λ z. TakenSo (rest_front (InQuotes false v) text (b ∷ bs)) text b bs z)
    (λ e. ap (quoted_rest text v) (cond-false (b == 34) _ _ h ∙ cond-true (b == 92) _ _ e) ∙ quoted_more text v [] b (quoted_of true bs) ∙ ap (λ z. quoted_rest (text ++ b ∷ []) z (quoted_of true bs)) (append-nil v))
    (λ e. ap (quoted_rest text v) (cond-false (b == 34) _ _ h ∙ cond-false (b == 92) _ _ e) ∙ quoted_more text v (b ∷ []) b (quoted_of false bs)))
taken_so Slash text b bs =
    cond_both (b == 47) _ _ (λ z. TakenSo (rest_front Slash text (b ∷ bs)) text b bs z)
    (λ h. cond-true (b == 47) _ _ h ∙ ap Skips (onto_cut text b (run_of is_in_line bs)))
    (λ h. cond_both (b == 42) _ _ (λ z. TakenSo (rest_front Slash text (b ∷ bs)) text b bs z)
    (λ e. cond-false (b == 47) _ _ h ∙ cond-true (b == 42) _ _ e)
    (λ e. cond-false (b == 47) _ _ h ∙ cond-false (b == 42) _ _ e))
taken_so InLine text b bs =
    cond_both (is_in_line b) _ _ (λ z. TakenSo (rest_front InLine text (b ∷ bs)) text b bs z)
    (λ h. ap Skips (run_more is_in_line text b bs h)) (λ h. ap Skips (run_ends is_in_line text b bs h))
taken_so (InBlock star) text b bs =
    cond_both (star && b == 47) _ _ (λ z. TakenSo (rest_front (InBlock star) text (b ∷ bs)) text b bs z)
    (λ h. ap (block_rest text) (cond-true (star && b == 47) _ _ h))
    (λ h. ap (block_rest text) (cond-false (star && b == 47) _ _ h) ∙ block_more text b (block_of (b == 42) bs))

cond_two : {A B : Type 0} (R : A → B → Type 0) (b : Bool) (x y : A) (u v : B) → (b ≡ true → R x u) → (b ≡ false → R y v) → R (cond b x y) (cond b u v)
cond_two R true x y u v f g = f refl
cond_two R false x y u v f g = g refl

quote_same : (o : Option Quoted) → gives_quoted o ≡ quoted_rest (34 ∷ []) [] o
quote_same None = refl
quote_same (Some q) = refl

minus_same : (bs : List ℕ) → behind_minus bs ≡ minus_rest (45 ∷ []) bs
minus_same [] = refl
minus_same (b ∷ bs) =
    cond_two (λ x y. x ≡ y) (b == 62) _ _ _ _
    (λ h. ap (λ z. Gives Arrow (cut_of (45 ∷ z ∷ []) bs)) (sym (eqb-true b 62 h))) (λ h. refl)

block_same : (o : Option Cut) → skips_block o ≡ block_rest (47 ∷ 42 ∷ []) o
block_same None = refl
block_same (Some c) = refl

slash_same : (bs : List ℕ) → behind_slash bs ≡ slash_rest (47 ∷ []) bs
slash_same [] = refl
slash_same (b ∷ bs) =
    cond_two (λ x y. x ≡ y) (b == 47) _ _ _ _
    (λ h. ap (λ z. Skips (before 47 (before z (run_of is_in_line bs)))) (sym (eqb-true b 47 h)))
    (λ n. cond_two (λ x y. x ≡ y) (b == 42) _ _ _ _
    (λ h. block_same (block_of false bs) ∙ ap (λ z. block_rest (47 ∷ z ∷ []) (block_of false bs)) (sym (eqb-true b 42 h))) (λ m. refl))

mark_same : (b : ℕ) (bs : List ℕ) (o : Option Token) → StartsSo (gives_mark b bs o) [] b bs (with_mark o)
mark_same b bs None = refl
mark_same b bs (Some t) = refl

number_by : (b : ℕ) → begins_number b ≡ true → is_by_numeral b ≡ true
number_by b h =
    elim (or_cases (is_ascii_digit b) (b == 46) h) [
      | inl e ↦ digit_by b e
      | inr e ↦ or_right (is_ascii_digit b || is_ascii_alphabetic b || b == 95) (b == 46) e
    ]

number_no_minus : (b : ℕ) → begins_number b ≡ true → (b == 45) ≡ false
number_no_minus b e = grind (arith, nat_tests)

number_same : (b : ℕ) (bs : List ℕ) → begins_number b ≡ true → gives_numeral [] (run_of is_by_numeral (b ∷ bs)) ≡ number_rest (b ∷ []) (run_of is_by_numeral bs)
number_same b bs h =
    ap (gives_numeral []) (cond-true (is_by_numeral b) _ _ (number_by b h))
    ∙ ap (λ x. if x then Gives (Id (b ∷ (run_of is_by_numeral bs).text)) (before b (run_of is_by_numeral bs)) else Faulty)
    (sym (cond-false (b == 45) (is_unsigned false (run_of is_by_numeral bs).text) (is_unsigned false (b ∷ (run_of is_by_numeral bs).text)) (number_no_minus b h)))

pub starts_so : (line : Bool) (b : ℕ) (bs : List ℕ) → StartsSo (front line (b ∷ bs)) [] b bs (starts line b)
starts_so line b bs =
    let R : Front → Start → Type 0 = λ f x. StartsSo f [] b bs x in
    cond_two R (begins_name b) _ _ _ _ (λ h. ap gives_name (cond-true (is_in_name b) _ _ (or_left (begins_name b) _ h))) (λ n.
    cond_two R (begins_number b) _ _ _ _ (λ h. number_same b bs h) (λ n.
    cond_two R (is_blank b) _ _ _ _ (λ h. refl) (λ n.
    cond_two R (b == 34) _ _ _ _ (λ h. quote_same (quoted_of false bs) ∙ ap (λ z. quoted_rest (z ∷ []) [] (quoted_of false bs)) (sym (eqb-true b 34 h))) (λ n.
    cond_two R (b == 45) _ _ _ _ (λ h. minus_same bs ∙ ap (λ z. minus_rest (z ∷ []) bs) (sym (eqb-true b 45 h))) (λ n.
    cond_two R (b == 47) _ _ _ _ (λ h. slash_same bs ∙ ap (λ z. slash_rest (z ∷ []) bs) (sym (eqb-true b 47 h))) (λ n.
    cond_two R (b == 35 && line) _ _ _ _
    (λ h. let two = and_parts (b == 35) line h in ap (λ z. Skips (before z (run_of is_in_line bs))) (sym (eqb-true b 35 two.0)))
    (λ n. mark_same b bs (mark_token b))))))))

pub last_so : (m : Mode) (text : List ℕ) → ItemSo (rest_front m text []) text (last_item m text)
last_so InName text = ap (λ z. gives_name (cut_of z [])) (append-nil text)
last_so InNumber text =
    cond_both (is_numeral text) _ _ (λ z. ItemSo (rest_front InNumber text []) text z)
    (λ h. ap (λ z. number_cut (cut_of z [])) (append-nil text) ∙ cond-true (is_numeral text) _ _ h)
    (λ h. ap (λ z. number_cut (cut_of z [])) (append-nil text) ∙ cond-false (is_numeral text) _ _ h)
last_so Minus text = refl
last_so (InQuotes true v) text = refl
last_so (InQuotes false v) text = refl
last_so Slash text = refl
last_so InLine text = ap (λ z. Skips (cut_of z [])) (append-nil text)
last_so (InBlock star) text = refl

-- what an item's turn leaves
unfoldable pub After : List ℕ → ℕ → ℕ → Turn → Type 0
After bytes from q (Fails x) = Place bytes from x
After bytes from q (Goes x z) = Upto bytes from x z × (x ≡ q)
After bytes from q (Finds f) = Stands bytes from f.doc f.to

abbrev GoesAt : ℕ → Turn → Type 0
GoesAt q (Fails x) = Unit {0}
GoesAt q (Goes x z) = x ≡ q
GoesAt q (Finds f) = Unit {0}

behind_goes : (p q : ℕ) (o : Option State) → GoesAt q (behind_token p q o)
behind_goes p q None = tt
behind_goes p q (Some (Whole ks)) = tt
behind_goes p q (Some s) = refl

item_goes : (p : ℕ) (s : State) (i : Item) (text : List ℕ) → GoesAt (p + length text) (item_turn p s i text)
item_goes p s Blank text = cond_both (is_utf8 text) _ _ (λ z. GoesAt (p + length text) z) (λ h. refl) (λ h. tt)
item_goes p s (Lexeme t) text = cond_both (is_utf8 text) _ _ (λ z. GoesAt (p + length text) z) (λ h. behind_goes p (p + length text) (step s t)) (λ h. tt)

combine : (bytes : List ℕ) (from p q : ℕ) (t : Turn) → Says bytes from p t → GoesAt q t → After bytes from q t
unfolding Says After
combine bytes from p q (Fails x) h g = h
combine bytes from p q (Goes x z) h g = (h.0, g)
combine bytes from p q (Finds f) h g = h

-- the item is the one at p
pub item_after : {bytes : List ℕ} {from p : ℕ} {s : State} (u : Upto bytes from p s) (i : Item) (text rest : List ℕ) → front_at bytes p ≡ front_with i (cut_of text rest) → After bytes from (p + length text) (item_turn p s i text)
item_after {bytes = bytes} {from = from} {p = p} {s = s} u Blank text rest e =
    combine bytes from p (p + length text) (item_turn p s Blank text)
    (turn_says u (Skips (cut_of text rest)) e (subst (λ f. Sound (begins_line bytes p) (drop p bytes) f) e (front_sound (begins_line bytes p) (drop p bytes)))) (item_goes p s Blank text)
item_after {bytes = bytes} {from = from} {p = p} {s = s} u (Lexeme t) text rest e =
    combine bytes from p (p + length text) (item_turn p s (Lexeme t) text)
    (turn_says u (Gives t (cut_of text rest)) e (subst (λ f. Sound (begins_line bytes p) (drop p bytes) f) e (front_sound (begins_line bytes p) (drop p bytes)))) (item_goes p s (Lexeme t) text)

pub fails_here : {bytes : List ℕ} {from p : ℕ} {s : State} (u : Upto bytes from p s) → front_at bytes p ≡ Faulty → Place bytes from p
unfolding Says
fails_here {bytes = bytes} {p = p} u e = turn_says u Faulty e tt

pub ends_here : {bytes : List ℕ} {from p : ℕ} {s : State} (u : Upto bytes from p s) → drop p bytes ≡ [] → Place bytes from p
unfolding Says
ends_here {bytes = bytes} {p = p} u e = turn_says u AtEnd (ap (front (begins_line bytes p)) e) e

-- what the reader knows: more is to come
abbrev Knows : List ℕ → ℕ → List ℕ → Scan → Type 0
Knows bytes from more (Between p line s) = Upto bytes from p s × (drop p bytes ≡ more) × (line ≡ begins_line bytes p)
Knows bytes from more (Within p text m line s) =
    Upto bytes from p s × (drop p bytes ≡ text ++ more) × (line ≡ begins_line bytes (p + length text)) × (front_at bytes p ≡ rest_front m text more)

abbrev KnowsStep : List ℕ → ℕ → List ℕ → Step → Type 0
KnowsStep bytes from more (Over r) = IsAnswer bytes from r
KnowsStep bytes from more (Going c) = Knows bytes from more c

get_behind : (bytes bs : List ℕ) (n b : ℕ) → drop n bytes ≡ b ∷ bs → get_or bytes n 0 ≡ b
get_behind [] bs zero b e = let z : [] ≡ b ∷ bs = e in cc
get_behind [] bs (suc n) b e = let z : [] ≡ b ∷ bs = e in cc
get_behind (c ∷ cs) bs zero b e = let z : c ∷ cs ≡ b ∷ bs = e in cc
get_behind (c ∷ cs) bs (suc n) b e = get_behind cs bs n b e

-- the byte before a place says whether a line begins there
line_behind : (bytes text bs : List ℕ) (p b : ℕ) → drop p bytes ≡ text ++ b ∷ bs → (b == 10) ≡ begins_line bytes (p + length (text ++ b ∷ []))
line_behind bytes text bs p b e =
    let at : p + length (text ++ b ∷ []) ≡ suc (p + length text) = omega (arith, length-append text (b ∷ [])) in
    ap (λ z. z == 10) (sym (get_behind bytes bs (p + length text) b (past_text bytes text (b ∷ bs) p e))) ∙ ap (begins_line bytes) (sym at)

after_knows : (bytes : List ℕ) (from p : ℕ) (text rest : List ℕ) (line : Bool) (t : Turn) → drop p bytes ≡ text ++ rest → line ≡ begins_line bytes (p + length text) → After bytes from (p + length text) t → KnowsStep bytes from rest (after_turn line t)
unfolding After
after_knows bytes from p text rest line (Fails q) e l h = h
after_knows bytes from p text rest line (Finds f) e l h = h
after_knows bytes from p text rest line (Goes q z) e l h =
    (h.0, ap (λ x. drop x bytes) h.1 ∙ past_text bytes text rest p e, l ∙ ap (begins_line bytes) (sym h.1))

begin_knows : {bytes : List ℕ} {from p : ℕ} {s : State} (u : Upto bytes from p s) (text : List ℕ) (b : ℕ) (bs : List ℕ) (x : Start) → drop p bytes ≡ text ++ b ∷ bs → StartsSo (front_at bytes p) text b bs x → KnowsStep bytes from bs (begin p text s b x)
begin_knows {bytes = bytes} {p = p} u text b bs (More m) e h = (u, e ∙ sym (append_assoc text (b ∷ []) bs), line_behind bytes text bs p b e, h)
begin_knows {bytes = bytes} {from = from} {p = p} {s = s} u text b bs (With i) e h =
    after_knows bytes from p (text ++ b ∷ []) bs (b == 10) (item_turn p s i (text ++ b ∷ [])) (e ∙ sym (append_assoc text (b ∷ []) bs)) (line_behind bytes text bs p b e) (item_after u i (text ++ b ∷ []) bs h)
begin_knows u text b bs Bad e h = fails_here u h

again_knows : (bytes : List ℕ) (from p : ℕ) (text : List ℕ) (b : ℕ) (bs : List ℕ) (line : Bool) (t : Turn) → drop p bytes ≡ text ++ b ∷ bs → line ≡ begins_line bytes (p + length text) → After bytes from (p + length text) t → KnowsStep bytes from bs (again line b t)
unfolding After
again_knows bytes from p text b bs line (Fails q) e l h = h
again_knows bytes from p text b bs line (Finds f) e l h = h
again_knows bytes from p text b bs line (Goes q z) e l h =
    let there : drop q bytes ≡ b ∷ bs = ap (λ x. drop x bytes) h.1 ∙ past_text bytes text (b ∷ bs) p e in
    let lines : line ≡ begins_line bytes q = l ∙ ap (begins_line bytes) (sym h.1) in
    begin_knows h.0 [] b bs (starts line b) there
    (subst (λ f. StartsSo f [] b bs (starts line b)) (ap (front line) (sym there) ∙ ap (λ x. front x (drop q bytes)) lines) (starts_so line b bs))

take_knows : {bytes : List ℕ} {from p : ℕ} {s : State} (u : Upto bytes from p s) (text : List ℕ) (b : ℕ) (bs : List ℕ) (line : Bool) (x : Taken) → drop p bytes ≡ text ++ b ∷ bs → line ≡ begins_line bytes (p + length text) → TakenSo (front_at bytes p) text b bs x → KnowsStep bytes from bs (take_in p text line s b x)
take_knows u text b bs line (Now x) e l h = begin_knows u text b bs x e h
take_knows {bytes = bytes} {from = from} {p = p} {s = s} u text b bs line (Before i) e l h =
    again_knows bytes from p text b bs line (item_turn p s i text) e l (item_after u i text (b ∷ bs) h)

push_knows : (bytes : List ℕ) (from : ℕ) (c : Scan) (b : ℕ) (bs : List ℕ) → Knows bytes from (b ∷ bs) c → KnowsStep bytes from bs (push c b)
push_knows bytes from (Between p line s) b bs k =
    begin_knows k.0 [] b bs (starts line b) k.1
    (subst (λ f. StartsSo f [] b bs (starts line b)) (ap (front line) (sym k.1) ∙ ap (λ x. front x (drop p bytes)) k.2) (starts_so line b bs))
push_knows bytes from (Within p text m line s) b bs k =
    take_knows k.0 text b bs line (taken m text b) k.1 k.2 (subst (λ f. TakenSo f text b bs (taken m text b)) (sym k.3) (taken_so m text b bs))

pub pushes_know : (bytes : List ℕ) (from : ℕ) (bs more : List ℕ) (x : Step) → KnowsStep bytes from (bs ++ more) x → KnowsStep bytes from more (pushes x bs)
pushes_know bytes from [] more x k = k
pushes_know bytes from (b ∷ bs) more (Over r) k = k
pushes_know bytes from (b ∷ bs) more (Going c) k = pushes_know bytes from bs more (push c b) (push_knows bytes from c b (bs ++ more) k)

last_place : (bytes : List ℕ) (from p : ℕ) (text : List ℕ) (t : Turn) → drop p bytes ≡ text ++ [] → After bytes from (p + length text) t → IsAnswer bytes from (last_turn t)
unfolding After
last_place bytes from p text (Fails q) e h = h
last_place bytes from p text (Finds f) e h = h
last_place bytes from p text (Goes q z) e h = ends_here h.0 (ap (λ x. drop x bytes) h.1 ∙ past_text bytes text [] p e)

finish_is : {bytes : List ℕ} {from p : ℕ} {s : State} (u : Upto bytes from p s) (text : List ℕ) (o : Option Item) → drop p bytes ≡ text ++ [] → ItemSo (front_at bytes p) text o → IsAnswer bytes from (finish_item p text s o)
finish_is u text None e h = fails_here u h
finish_is {bytes = bytes} {from = from} {p = p} {s = s} u text (Some i) e h = last_place bytes from p text (item_turn p s i text) e (item_after u i text [] h)

pub answer_is : (bytes : List ℕ) (from : ℕ) (x : Step) → KnowsStep bytes from [] x → IsAnswer bytes from (answer x)
answer_is bytes from (Over r) k = k
answer_is bytes from (Going (Between p line s)) k = ends_here k.0 k.1
answer_is bytes from (Going (Within p text m line s)) k =
    finish_is k.0 text (last_item m text) k.1 (subst (λ f. ItemSo f text (last_item m text)) (sym k.3) (last_so m text))

pub start_knows : (bytes : List ℕ) (from : ℕ) → from ≤ length bytes → Knows bytes from (drop from bytes) (Between from (begins_line bytes from) Begin)
start_knows bytes from h = (start_upto bytes from h, refl, refl)

pub stream_is : (bytes : List ℕ) (from : ℕ) → from ≤ length bytes → IsAnswer bytes from (answer (pushes (Going (Between from (begins_line bytes from) Begin)) (drop from bytes)))
stream_is bytes from h =
    answer_is bytes from (pushes (Going (Between from (begins_line bytes from) Begin)) (drop from bytes))
    (pushes_know bytes from (drop from bytes) [] (Going (Between from (begins_line bytes from) Begin))
    (subst (λ z. Knows bytes from z (Between from (begins_line bytes from) Begin)) (sym (append-nil (drop from bytes))) (start_knows bytes from h)))

over_stays : (r : Result Found ℕ) (vs : List ℕ) → pushes (Over r) vs ≡ Over r
over_stays r [] = refl
over_stays r (v ∷ vs) = refl

pushes_append : (x : Step) (bs more : List ℕ) → pushes x (bs ++ more) ≡ pushes (pushes x bs) more
pushes_append x [] more = refl
pushes_append (Over r) (b ∷ bs) more = sym (over_stays r more)
pushes_append (Going c) (b ∷ bs) more = pushes_append (push c b) bs more

-- what is over stays so, whatever comes
pub over_is : (bytes more : List ℕ) (r : Result Found ℕ) → reader_of bytes ≡ Over r → IsAnswer (bytes ++ more) 0 r
over_is bytes more r e =
    let same : answer (reader_of (bytes ++ more)) ≡ r =
    ap answer (pushes_append (Going (Between 0 true Begin)) bytes more ∙ ap (λ z. pushes z more) e ∙ over_stays r more) in
    subst (λ z. IsAnswer (bytes ++ more) 0 z) same (stream_is (bytes ++ more) 0 (omega arith))

-- a document ends with a } alone
ready_close : (l k : ℕ) (d ks : Doc) (t : Token) → ready l k d t ≡ Some (Whole ks) → t ≡ Close
ready_close l k d ks (Id a) e = let z : Some (Identified l k d a) ≡ Some (Whole ks) = e in cc
ready_close l k d ks Default e = let z : Some (Defaulted l k d) ≡ Some (Whole ks) = e in cc
ready_close (suc l) k d ks Subgraph e = let z : Some (Headed l (suc k) d) ≡ Some (Whole ks) = e in cc
ready_close (suc l) k d ks Open e = let z : Some (Ready l (suc k) d) ≡ Some (Whole ks) = e in cc
ready_close l k d ks Close e = refl
ready_close _ _ _ ks _ e = let z : None ≡ Some (Whole ks) = e in cc

ended_close : (l k : ℕ) (d ks : Doc) (t : Token) → ended l k d t ≡ Some (Whole ks) → t ≡ Close
ended_close l k d ks Semicolon e = let z : Some (Ready l k d) ≡ Some (Whole ks) = e in cc
ended_close l k d ks t e = ready_close l k d ks t e

listed_close : (l k : ℕ) (d ks : Doc) (o : Owner) (ps : List Pair) (t : Token) → listed l k d o ps t ≡ Some (Whole ks) → t ≡ Close
listed_close l k d ks o ps OpenList e = let z : Some (Inside l k d o ps) ≡ Some (Whole ks) = e in cc
listed_close l k d ks o ps t e = ended_close l k (keep d (kept_of o ps)) ks t e

inside_close : (l k : ℕ) (d ks : Doc) (o : Owner) (ps : List Pair) (t : Token) → inside l k d o ps t ≡ Some (Whole ks) → t ≡ Close
inside_close l k d ks o ps (Id a) e = let z : Some (Keyed l k d o ps a) ≡ Some (Whole ks) = e in cc
inside_close l k d ks o ps CloseList e = let z : Some (Listed l k d o ps) ≡ Some (Whole ks) = e in cc
inside_close l k d ks o ps t e = let z : None ≡ Some (Whole ks) = e in cc

whole_close : (s : State) (t : Token) (ks : Doc) → step s t ≡ Some (Whole ks) → t ≡ Close
whole_close Begin Digraph ks e = let z : Some (Headed 64 0 (doc_of [])) ≡ Some (Whole ks) = e in cc
whole_close (Headed l k d) (Id a) ks e = let z : Some (Named l k d) ≡ Some (Whole ks) = e in cc
whole_close (Headed l k d) Open ks e = let z : Some (Ready l k d) ≡ Some (Whole ks) = e in cc
whole_close (Named l k d) Open ks e = let z : Some (Ready l k d) ≡ Some (Whole ks) = e in cc
whole_close (Ready l k d) t ks e = ready_close l k d ks t e
whole_close (Ended l k d) t ks e = ended_close l k d ks t e
whole_close (Identified l k d a) Arrow ks e = let z : Some (Pointed l k d a) ≡ Some (Whole ks) = e in cc
whole_close (Identified l k d a) Equals ks e = let z : Some (Setting l k d) ≡ Some (Whole ks) = e in cc
whole_close (Identified l k d a) t ks e = listed_close l k d ks (OfNode a) [] t e
whole_close (Pointed l k d a) (Id b) ks e = let z : Some (Listed l k d (OfEdge a b) []) ≡ Some (Whole ks) = e in cc
whole_close (Setting l k d) (Id b) ks e = let z : Some (Ended l k d) ≡ Some (Whole ks) = e in cc
whole_close (Defaulted l k d) OpenList ks e = let z : Some (Inside l k d OfDefault []) ≡ Some (Whole ks) = e in cc
whole_close (Listed l k d o ps) t ks e = listed_close l k d ks o ps t e
whole_close (Inside l k d o ps) t ks e = inside_close l k d ks o ps t e
whole_close (Keyed l k d o ps a) Equals ks e = let z : Some (Equated l k d o ps a) ≡ Some (Whole ks) = e in cc
whole_close (Equated l k d o ps a) (Id b) ks e = let z : Some (Paired l k d o (ps ++ (a, b) ∷ [])) ≡ Some (Whole ks) = e in cc
whole_close (Paired l k d o ps) Comma ks e = let z : Some (Inside l k d o ps) ≡ Some (Whole ks) = e in cc
whole_close (Paired l k d o ps) Semicolon ks e = let z : Some (Inside l k d o ps) ≡ Some (Whole ks) = e in cc
whole_close (Paired l k d o ps) t ks e = inside_close l k d ks o ps t e
whole_close _ t ks e = let z : None ≡ Some (Whole ks) = e in cc

behind_no : (p q : ℕ) (o : Option State) (f : Found) → ((ks : Doc) → o ≡ Some (Whole ks) → ⊥) → last_turn (behind_token p q o) ≡ Ok f → ⊥
behind_no p q None f n e = let z : Err p ≡ Ok f = e in cc
behind_no p q (Some (Whole ks)) f n e = n ks refl
behind_no p q (Some s) f n e = let z : Err q ≡ Ok f = e in cc

word_no : (p : ℕ) (s : State) (t : Token) (text : List ℕ) (f : Found) → (t ≡ Close → ⊥) → last_turn (item_turn p s (Lexeme t) text) ≡ Ok f → ⊥
word_no p s t text f n =
    cond_both (is_utf8 text) _ _ (λ z. last_turn z ≡ Ok f → ⊥)
    (λ h e. behind_no p (p + length text) (step s t) f (λ ks w. n (whole_close s t ks w)) e)
    (λ h e. let z : Err p ≡ Ok f = e in cc)

blank_no : (p : ℕ) (s : State) (text : List ℕ) (f : Found) → last_turn (item_turn p s Blank text) ≡ Ok f → ⊥
blank_no p s text f =
    cond_both (is_utf8 text) _ _ (λ z. last_turn z ≡ Ok f → ⊥)
    (λ h e. let z : Err (p + length text) ≡ Ok f = e in cc)
    (λ h e. let z : Err p ≡ Ok f = e in cc)

finish_no : (p : ℕ) (text : List ℕ) (m : Mode) (s : State) (f : Found) → finish_item p text s (last_item m text) ≡ Ok f → ⊥
finish_no p text InName s f e = word_no p s (word_token text) text f (word_no_close text) e
finish_no p text InNumber s f e =
    (cond_both (is_numeral text) _ _ (λ o. finish_item p text s o ≡ Ok f → ⊥)
    (λ h g. word_no p s (Id text) text f (λ w. let z : Id text ≡ Close = w in cc) g)
    (λ h g. let z : Err p ≡ Ok f = g in cc)) e
finish_no p text InLine s f e = blank_no p s text f e
finish_no p text m s f e = let z : Err p ≡ Ok f = e in cc

going_no : (c : Scan) (f : Found) → answer (Going c) ≡ Ok f → ⊥
going_no (Between p line s) f e = let z : Err p ≡ Ok f = e in cc
going_no (Within p text m line s) f e = finish_no p text m s f e

pub going_is : (bytes : List ℕ) (c : Scan) → reader_of bytes ≡ Going c → (doc : Doc) (to : ℕ) → Stands bytes 0 doc to → ⊥
going_is bytes c e doc to st = by (answer (Going c)) refl (subst (λ z. IsAnswer bytes 0 (answer z)) e (stream_is bytes 0 (omega arith)))
  where
    by : (r : Result Found ℕ) → answer (Going c) ≡ r → IsAnswer bytes 0 r → ⊥
    by (Ok f) g h = going_no c f g
    by (Err p) g h = h.none doc to st
