-- What comes behind a document does not matter.
use Rattle.std.proofs.Common.{◌≡◌, ℕ, zero, suc, ◌+◌, ◌<◌, ◌≤◌, refl, sym, ap, subst, ◌∙◌, ◌==◌, Bool, List, [], ◌∷◌, ◌++◌, length, drop, bytes_eq, codes, append_assoc, arith, length-append, length-drop}
use Rattle.std.proofs.lemmas.List.{drop-append-le, get_or_append_left}
use Rattle.std.proofs.lemmas.Bool.{cond_both}
use Rattle.std.specs.Str.{str_to_ascii_lowercase}
use Rattle.dot_text.specs.Tokens.{Token, Id, Digraph, Subgraph, Default, Strict, Open, Close, word_token}
use Rattle.dot_text.specs.Lexical.{begins_line, Spells, Spells.name, Spells.numeral, Spells.quoted, Spells.arrow, Spells.mark, Skipped, Skipped.blank, Skipped.slashes, Skipped.block, Skipped.hash, SkipAt, TokenAt, Gap, Gap.none as no_gap, Gap.skip, Lexes, Lexes.none as no_token, Lexes.next}
use Rattle.dot_text.specs.Grammar.{Kept, Document, Document.document}
use Rattle.dot_text.specs.declared.doc.Doc.{Doc}
use Rattle.dot_text.specs.Documents.{Stands}
use Rattle.dot_text.proofs.Cases.{words}
use Rattle.dot_text.proofs.Reading.{spells_some, skipped_some}

-- what stands before a byte stands there whatever comes behind it
spells_on : {text x : List ℕ} {t : Token} (b : ℕ) (y : List ℕ) → Spells text (b ∷ x) t → Spells text (b ∷ y) t
spells_on b y (name w h s) = name w h s
spells_on b y (numeral w h s) = numeral w h s
spells_on b y (quoted q) = quoted q
spells_on b y arrow = arrow
spells_on b y (mark c e) = mark c e

skipped_on : {line : Bool} {text x : List ℕ} (b : ℕ) (y : List ℕ) → Skipped line text (b ∷ x) → Skipped line text (b ∷ y)
skipped_on b y (blank c h) = blank c h
skipped_on b y (slashes w a s) = slashes w a s
skipped_on b y (block w c e) = block w c e
skipped_on b y (hash w a s) = hash w a s

pub word_no_close : (w : List ℕ) → word_token w ≡ Close → ⊥
word_no_close w =
    words (λ t. t ≡ Close → ⊥) w (λ e. let z : Digraph ≡ Close = e in cc) (λ e. let z : Subgraph ≡ Close = e in cc)
    (λ e. let z : Default ≡ Close = e in cc) (λ e. let z : Strict ≡ Close = e in cc) (λ e. let z : Id w ≡ Close = e in cc)

-- a } needs nothing behind it
close_on : {text rest : List ℕ} {t : Token} (other : List ℕ) → t ≡ Close → Spells text rest t → Spells text other t
close_on other e (name w h s) = absurd (word_no_close w e)
close_on other e (numeral w h s) = let z : Id w ≡ Close = e in cc
close_on other e (quoted {v = v} q) = let z : Id v ≡ Close = e in cc
close_on other e arrow = arrow
close_on other e (mark c f) = mark c f

-- text is a front of a, where a and x are text and rest
record Front (a x text rest : List ℕ) : Type 0 where
  mid : List ℕ
  is : a ≡ text ++ mid
  rest_is : rest ≡ mid ++ x

front_of : (a x text rest : List ℕ) → a ++ x ≡ text ++ rest → length text ≤ length a → Front a x text rest
front_of a x [] rest e h = record { mid = a; is = refl; rest_is = sym e }
front_of [] x (b ∷ text) rest e h = absurd (omega arith)
front_of (c ∷ a) x (b ∷ text) rest e h =
    let same : c ≡ b = cc in
    let tails : a ++ x ≡ text ++ rest = cc in
    let f : Front a x text rest = front_of a x text rest tails (omega arith) in
    record { mid = f.mid; is = ap (λ z. c ∷ z) f.is ∙ ap (λ z. z ∷ (text ++ f.mid)) same; rest_is = f.rest_is }

module _ (w x y : List ℕ) where
  front_at_place : (p : ℕ) (text rest : List ℕ) → drop p (w ++ x) ≡ text ++ rest → p + length text ≤ length w → Front (drop p w) x text rest
  front_at_place p text rest e h =
      front_of (drop p w) x text rest (sym (drop-append-le p w x (omega arith)) ∙ e) (omega (arith, length-drop p w))

  moved : (p : ℕ) (text mid : List ℕ) → p ≤ length w → drop p w ≡ text ++ mid → drop p (w ++ y) ≡ text ++ (mid ++ y)
  moved p text mid h e = drop-append-le p w y h ∙ ap (λ z. z ++ y) e ∙ append_assoc text mid y

  line_same : (p : ℕ) → p ≤ length w → begins_line (w ++ x) p ≡ begins_line (w ++ y) p
  line_same zero h = refl
  line_same (suc p) h = ap (λ z. z == 10) (get_or_append_left w x 0 p h ∙ sym (get_or_append_left w y 0 p h))

  token_on : {p q : ℕ} {t : Token} → TokenAt (w ++ x) p t q → q < length w → TokenAt (w ++ y) p t q
  token_on {p = p} {q = q} {t = t} a h = by f.mid f.is f.rest_is
    where
      inside : p + length a.text < length w
      inside = omega (arith, a.ends)

      f : Front (drop p w) x a.text a.rest
      f = front_at_place p a.text a.rest a.is (omega (arith, inside))

      by : (mid : List ℕ) → drop p w ≡ a.text ++ mid → a.rest ≡ mid ++ x → TokenAt (w ++ y) p t q
      by [] e r = absurd (omega (arith, inside, length-drop p w, ap length e, length-append a.text []))
      by (b ∷ m) e r =
          record {
            text = a.text;
            rest = b ∷ (m ++ y);
            is = moved p a.text (b ∷ m) (omega (arith, inside)) e;
            spells = spells_on b (m ++ y) (subst (λ z. Spells a.text z t) r a.spells);
            utf8 = a.utf8;
            ends = a.ends;
          }

  skip_on : {p q : ℕ} → SkipAt (w ++ x) p q → q < length w → SkipAt (w ++ y) p q
  skip_on {p = p} {q = q} a h = by f.mid f.is f.rest_is
    where
      inside : p + length a.text < length w
      inside = omega (arith, a.ends)

      f : Front (drop p w) x a.text a.rest
      f = front_at_place p a.text a.rest a.is (omega (arith, inside))

      by : (mid : List ℕ) → drop p w ≡ a.text ++ mid → a.rest ≡ mid ++ x → SkipAt (w ++ y) p q
      by [] e r = absurd (omega (arith, inside, length-drop p w, ap length e, length-append a.text []))
      by (b ∷ m) e r =
          record {
            text = a.text;
            rest = b ∷ (m ++ y);
            is = moved p a.text (b ∷ m) (omega (arith, inside)) e;
            skipped = skipped_on b (m ++ y) (subst (λ z. Skipped z a.text (b ∷ (m ++ x))) (line_same p (omega (arith, inside))) (subst (λ z. Skipped (begins_line (w ++ x) p) a.text z) r a.skipped));
            utf8 = a.utf8;
            ends = a.ends;
          }

  last_on : {p q : ℕ} {t : Token} → t ≡ Close → TokenAt (w ++ x) p t q → q ≤ length w → TokenAt (w ++ y) p t q
  last_on {p = p} {q = q} {t = t} e a h =
      let inside : p + length a.text ≤ length w = omega (arith, a.ends) in
      let f : Front (drop p w) x a.text a.rest = front_at_place p a.text a.rest a.is inside in
      record {
        text = a.text;
        rest = f.mid ++ y;
        is = moved p a.text f.mid (omega (arith, inside)) f.is;
        spells = close_on (f.mid ++ y) e a.spells;
        utf8 = a.utf8;
        ends = a.ends;
      }

pub skip_grows : {bytes : List ℕ} {p q : ℕ} → SkipAt bytes p q → p < q
skip_grows a = omega (arith, skipped_some a.skipped, a.ends)

pub token_grows : {bytes : List ℕ} {p q : ℕ} {t : Token} → TokenAt bytes p t q → p < q
token_grows a = omega (arith, spells_some a.spells, a.ends)

pub gap_grows : {bytes : List ℕ} {p q : ℕ} → Gap bytes p q → p ≤ q
gap_grows no_gap = omega arith
gap_grows (skip s g) = omega (arith, skip_grows s, gap_grows g)

pub lexes_grows : {bytes : List ℕ} {p q : ℕ} {ts : List Token} → Lexes bytes p ts q → p ≤ q
lexes_grows no_token = omega arith
lexes_grows (next g a l) = omega (arith, gap_grows g, token_grows a, lexes_grows l)

-- the last token is a }
pub EndsClose : List Token → Type 0
EndsClose [] = ⊥
EndsClose (t ∷ []) = t ≡ Close
EndsClose (t ∷ u ∷ ts) = EndsClose (u ∷ ts)

append_close : (ts : List Token) → EndsClose (ts ++ Close ∷ [])
unfolding EndsClose
append_close [] = refl
append_close (t ∷ []) = refl
append_close (t ∷ u ∷ ts) = append_close (u ∷ ts)

pub document_close : {ts : List Token} {ks : List Kept} → Document ts ks → EndsClose ts
document_close (document {name = n} {ts = ts} a s) = append_close ((Digraph ∷ n) ++ (Open ∷ ts))

module _ (w x y : List ℕ) where
  gap_on : {p q : ℕ} → Gap (w ++ x) p q → q < length w → Gap (w ++ y) p q
  gap_on no_gap h = no_gap
  gap_on (skip s g) h = skip (skip_on w x y s (omega (arith, gap_grows g))) (gap_on g h)

  lexes_on : {p s : ℕ} {ts : List Token} → Lexes (w ++ x) p ts s → EndsClose ts → s ≤ length w → Lexes (w ++ y) p ts s
  unfolding EndsClose
  lexes_on no_token c h = no_token
  lexes_on (next g a no_token) c h = next (gap_on g (omega (arith, token_grows a))) (last_on w x y c a h) no_token
  lexes_on (next {r = z} {s = v} g a (next i b l)) c h =
      let ahead : z < v = omega (arith, gap_grows i, token_grows b, lexes_grows l) in
      next (gap_on g (omega (arith, token_grows a, ahead))) (token_on w x y a (omega (arith, ahead))) (lexes_on (next i b l) c h)

-- a document depends on the bytes below its end alone
pub stands_on : (w x y : List ℕ) (from : ℕ) (doc : Doc) → Stands (w ++ x) from doc (length w) → Stands (w ++ y) from doc (length w)
stands_on w x y from doc st =
    record { tokens = st.tokens; kept = st.kept; lexes = lexes_on w x y st.lexes (document_close st.document) (omega arith); document = st.document; is = st.is }
