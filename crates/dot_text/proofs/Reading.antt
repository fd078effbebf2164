-- What reading answers is so.
use Rattle.std.proofs.Common.{◌≡◌, ℕ, zero, suc, ◌+◌, ◌<◌, ◌≤◌, inl, inr, refl, sym, ap, subst, ◌∙◌, Bool, false, List, [], ◌∷◌, ◌++◌, Option, Some, None, Result, length, drop, IsUtf8, IsSome, append-nil, arith, length-append, length-drop}
use Rattle.std.proofs.lemmas.Bool.{cond_both}
use Rattle.std.specs.Str.{is_utf8}
use Rattle.std.proofs.lemmas.Str.{IsUtf8-from_is_utf8, is_utf8-from_IsUtf8}
use Rattle.dot_text.specs.Tokens.{Token}
use Rattle.dot_text.specs.Lexical.{begins_line, Spells, Spells.name, Spells.numeral, Spells.quoted, Spells.arrow, Spells.mark, Skipped, Skipped.blank, Skipped.slashes, Skipped.block, Skipped.hash, SkipAt, TokenAt, Gap, Gap.none as no_gap, Gap.skip, Lexes, Lexes.none as no_token, Lexes.next}
use Rattle.dot_text.specs.Scanner.{Front, AtEnd, Skips, Gives, Faulty, front_at}
use Rattle.dot_text.specs.Grammar.{Document}
use Rattle.dot_text.specs.declared.doc.Doc.{Doc}
use Rattle.dot_text.specs.Documents.{doc_of, Stands, CanGoOn, Stuck, Stuck.ended, Stuck.nothing, Stuck.token, Place}
use Rattle.dot_text.specs.Machine.{State, Begin, Whole, step, run}
use Rattle.dot_text.specs.Reading.{Found, IsAnswer, Turn, Fails, Goes, Finds, behind_token, turn_at, go_on, reads, reading}
use Rattle.std.proofs.Math.Seq.{drop-drop, drop-append_seam}
use Rattle.dot_text.proofs.Cases.{differ}
use Rattle.dot_text.proofs.Running.{run_append, document_run}
use Rattle.dot_text.proofs.Going.{Documented, whole_document, runs_on, can_run}
use Rattle.dot_text.proofs.Scanned.{cut_of}
use Rattle.dot_text.proofs.Sound.{Sound, front_sound}
use Rattle.dot_text.proofs.Places.{token_front, skip_front, end_front, longer, ends_first}

-- no token and no blank is empty
pub spells_some : {text rest : List ℕ} {t : Token} → Spells text rest t → 0 < length text
spells_some (name [] h s) = differ false h refl
spells_some (name (b ∷ w) h s) = omega arith
spells_some (numeral [] h s) = differ false h refl
spells_some (numeral (b ∷ w) h s) = omega arith
spells_some (quoted q) = omega arith
spells_some arrow = omega arith
spells_some (mark b e) = omega arith

pub skipped_some : {line : Bool} {text rest : List ℕ} → Skipped line text rest → 0 < length text
skipped_some (blank b h) = omega arith
skipped_some (slashes w a s) = omega arith
skipped_some (block w c e) = omega arith
skipped_some (hash w a s) = omega arith

pub gap_more : {bytes : List ℕ} {p q r : ℕ} → Gap bytes p q → SkipAt bytes q r → Gap bytes p r
gap_more no_gap s = skip s no_gap
gap_more (skip t g) s = skip t (gap_more g s)

pub lexes_more : {bytes : List ℕ} {p q r s : ℕ} {ts : List Token} {t : Token} → Lexes bytes p ts q → Gap bytes q r → TokenAt bytes r t s → Lexes bytes p (ts ++ t ∷ []) s
lexes_more no_token g a = next g a no_token
lexes_more (next h b l) g a = next h b (lexes_more l g a)

-- the state in which no document is whole yet
unfoldable pub IsOpen : State → Type 0
IsOpen (Whole ks) = ⊥
IsOpen s = Unit {0}

-- what has been read: these tokens, and blanks and comments up to p
pub record Upto (bytes : List ℕ) (from p : ℕ) (s : State) : Type 0 where
  pub tokens : List Token
  pub behind : ℕ
  pub lexes : Lexes bytes from tokens behind
  pub gap : Gap bytes behind p
  pub state : run (Some Begin) tokens ≡ Some s
  pub open_yet : IsOpen s
  pub within : p ≤ length bytes

whole_then : (ks : Doc) (more : List Token) (s : State) → run (Some (Whole ks)) more ≡ Some s → Whole ks ≡ s
whole_then ks [] s e = cc
whole_then ks (t ∷ []) s e = let z : None ≡ Some s = e in cc
whole_then ks (t ∷ u ∷ ts) s e = let z : None ≡ Some s = e in cc

not_open : (s : State) (ks : Doc) → Whole ks ≡ s → IsOpen s → ⊥
unfolding IsOpen
not_open s ks e o = subst (λ z. IsOpen z → ⊥) e (λ x. x) o

-- where reading is stuck, no document stands
none_stands : {bytes : List ℕ} {from p : ℕ} {s : State} (u : Upto bytes from p s) → Stuck bytes p u.tokens → (doc : Doc) (to : ℕ) → Stands bytes from doc to → ⊥
none_stands {bytes = bytes} {p = p} {s = s} u stuck doc to st =
    elim (longer u.lexes st.lexes) [
      | inl on ↦ goes_on on.more on.is on.rest
      | inr on ↦
          not_open s (doc_of st.kept)
          (whole_then (doc_of st.kept) on.more s (ap (λ z. run z on.more) (sym (document_run st.document)) ∙ sym (run_append (Some Begin) st.tokens on.more) ∙ ap (run (Some Begin)) (sym on.is) ∙ u.state))
          u.open_yet
    ]
  where
    goes_on : (more : List Token) → st.tokens ≡ u.tokens ++ more → Lexes bytes u.behind more to → ⊥
    goes_on [] e l =
        let same : Some (Whole (doc_of st.kept)) ≡ Some s = sym (document_run st.document) ∙ ap (run (Some Begin)) (e ∙ append-nil u.tokens) ∙ u.state in
        let whole : Whole (doc_of st.kept) ≡ s = cc in
        not_open s (doc_of st.kept) whole u.open_yet
    goes_on (t ∷ more) e (next g a l) =
        ends_first u.tokens more u.gap (subst (λ z. Stuck bytes p z) (sym (append-nil u.tokens)) stuck) g a
        (record { more = []; kept = st.kept; document = subst (λ z. Document z st.kept) (e ∙ sym (append-nil (u.tokens ++ t ∷ more))) st.document })

place_of : {bytes : List ℕ} {from p : ℕ} {s : State} (u : Upto bytes from p s) → Stuck bytes p u.tokens → Place bytes from p
place_of {s = s} u stuck =
    record { none = none_stands u stuck; tokens = u.tokens; behind = u.behind; lexes = u.lexes; can = runs_on u.tokens s u.state; gap = u.gap; stuck = stuck }

-- what a turn says is so
unfoldable pub Says : List ℕ → ℕ → ℕ → Turn → Type 0
Says bytes from p (Fails q) = Place bytes from q
Says bytes from p (Goes q z) = Upto bytes from q z × (p < q)
Says bytes from p (Finds f) = Stands bytes from f.doc f.to

pub ended_at : (bytes : List ℕ) (p : ℕ) → p ≤ length bytes → drop p bytes ≡ [] → p ≡ length bytes
ended_at bytes p h e = omega (arith, length-drop p bytes, ap length e)

pub behind_at : (bytes text rest : List ℕ) (p : ℕ) → p ≤ length bytes → drop p bytes ≡ text ++ rest → p + length text ≤ length bytes
behind_at bytes text rest p h e = omega (arith, length-drop p bytes, ap length e, length-append text rest)

-- the bytes behind some text
pub past_text : (bytes text rest : List ℕ) (p : ℕ) → drop p bytes ≡ text ++ rest → drop (p + length text) bytes ≡ rest
past_text bytes text rest p e = sym (drop-drop (length text) p bytes) ∙ ap (drop (length text)) e ∙ drop-append_seam text rest

pub not_at_end : (bytes : List ℕ) (p : ℕ) → p ≤ length bytes → (p ≡ length bytes → ⊥) → p < length bytes
not_at_end bytes p h n = omega (arith, n)

run_more : (ts : List Token) (t : Token) (s : State) → run (Some Begin) ts ≡ Some s → run (Some Begin) (ts ++ t ∷ []) ≡ step s t
run_more ts t s e = run_append (Some Begin) ts (t ∷ []) ∙ ap (λ z. run z (t ∷ [])) e

upto_more : {bytes : List ℕ} {from p q : ℕ} {s z : State} {t : Token} → Upto bytes from p s → TokenAt bytes p t q → step s t ≡ Some z → IsOpen z → q ≤ length bytes → Upto bytes from q z
upto_more {q = q} {s = s} {t = t} u a e o h =
    record {
      tokens = u.tokens ++ t ∷ [];
      behind = q;
      lexes = lexes_more u.lexes u.gap a;
      gap = no_gap;
      state = run_more u.tokens t s u.state ∙ e;
      open_yet = o;
      within = h;
    }

cannot : (ts : List Token) (t : Token) (s : State) → run (Some Begin) ts ≡ Some s → step s t ≡ None → CanGoOn (ts ++ t ∷ []) → ⊥
cannot ts t s e f can =
    let h : IsSome (run (Some Begin) (ts ++ t ∷ [])) = can_run (ts ++ t ∷ []) can in
    let none : run (Some Begin) (ts ++ t ∷ []) ≡ None = run_more ts t s e ∙ f in
    let z : IsSome {T = State} None = subst (λ z. IsSome z) none h in
    cc

token_says : {bytes : List ℕ} {from p q : ℕ} {s : State} {t : Token} (u : Upto bytes from p s) (a : TokenAt bytes p t q) → q ≤ length bytes → p < q → (o : Option State) → step s t ≡ o → Says bytes from p (behind_token p q o)
unfolding Says IsOpen
token_says {q = q} {s = s} {t = t} u a h l None e = place_of u (token t q a (cannot u.tokens t s u.state e))
token_says {q = q} {s = s} {t = t} u a h l (Some (Whole doc)) e =
    let d : Documented (u.tokens ++ t ∷ []) doc = whole_document (u.tokens ++ t ∷ []) doc (run_more u.tokens t s u.state ∙ e) in
    record { tokens = u.tokens ++ t ∷ []; kept = d.kept; lexes = lexes_more u.lexes u.gap a; document = d.document; is = d.is }
token_says u a h l (Some z) e = (upto_more u a e tt h, l)

longer_by : (p n : ℕ) → 0 < n → p < p + n
longer_by p n h = omega arith

bad_utf8 : {text other : List ℕ} → text ≡ other → is_utf8 other ≡ false → IsUtf8 text → ⊥
bad_utf8 {text = text} e f h = differ (is_utf8 text) (is_utf8-from_IsUtf8 text h) (ap is_utf8 e ∙ f)

pub turn_says : {bytes : List ℕ} {from p : ℕ} {s : State} (u : Upto bytes from p s) (f : Front) → front_at bytes p ≡ f → Sound (begins_line bytes p) (drop p bytes) f → Says bytes from p (turn_at p s f)
unfolding Says IsOpen
turn_says {bytes = bytes} {p = p} u AtEnd e h = place_of u (ended (ended_at bytes p u.within h))
turn_says {bytes = bytes} {p = p} u Faulty e h =
    place_of u (nothing
    (not_at_end bytes p u.within (λ at. let z : AtEnd ≡ Faulty = sym (end_front bytes p at) ∙ e in cc))
    (λ q a. let z : Skips (cut_of a.text a.rest) ≡ Faulty = sym (skip_front a) ∙ e in cc)
    (λ t q a. let z : Gives t (cut_of a.text a.rest) ≡ Faulty = sym (token_front a) ∙ e in cc))
turn_says {bytes = bytes} {from = from} {p = p} {s = s} u (Skips c) e h =
    cond_both (is_utf8 c.text) _ _ (λ z. Says bytes from p z)
    (λ good.
    let a : SkipAt bytes p (p + length c.text) = record { text = c.text; rest = c.rest; is = h.0; skipped = h.1; utf8 = IsUtf8-from_is_utf8 c.text good; ends = refl } in (
      record { tokens = u.tokens; behind = u.behind; lexes = u.lexes; gap = gap_more u.gap a; state = u.state; open_yet = u.open_yet; within = behind_at bytes c.text c.rest p u.within h.0 },
      longer_by p (length c.text) (skipped_some h.1),
    ))
    (λ bad. place_of u (nothing
    (not_at_end bytes p u.within (λ at. let z : AtEnd ≡ Skips c = sym (end_front bytes p at) ∙ e in cc))
    (λ q a.
    let z : Skips (cut_of a.text a.rest) ≡ Skips c = sym (skip_front a) ∙ e in
    let cuts : cut_of a.text a.rest ≡ c = cc in
    bad_utf8 (ap (λ x. x.text) cuts) bad a.utf8)
    (λ t q a. let z : Gives t (cut_of a.text a.rest) ≡ Skips c = sym (token_front a) ∙ e in cc)))
turn_says {bytes = bytes} {from = from} {p = p} {s = s} u (Gives t c) e h =
    cond_both (is_utf8 c.text) _ _ (λ z. Says bytes from p z)
    (λ good.
    let a : TokenAt bytes p t (p + length c.text) = record { text = c.text; rest = c.rest; is = h.0; spells = h.1; utf8 = IsUtf8-from_is_utf8 c.text good; ends = refl } in
    token_says u a (behind_at bytes c.text c.rest p u.within h.0) (longer_by p (length c.text) (spells_some h.1)) (step s t) refl)
    (λ bad. place_of u (nothing
    (not_at_end bytes p u.within (λ at. let z : AtEnd ≡ Gives t c = sym (end_front bytes p at) ∙ e in cc))
    (λ q a. let z : Skips (cut_of a.text a.rest) ≡ Gives t c = sym (skip_front a) ∙ e in cc)
    (λ v q a.
    let z : Gives v (cut_of a.text a.rest) ≡ Gives t c = sym (token_front a) ∙ e in
    let cuts : cut_of a.text a.rest ≡ c = cc in
    bad_utf8 (ap (λ x. x.text) cuts) bad a.utf8)))

go_says : {bytes : List ℕ} {from p : ℕ} (t : Turn) (after : ℕ → State → Result Found ℕ) → Says bytes from p t → ((q : ℕ) (z : State) → Upto bytes from q z → p < q → IsAnswer bytes from (after q z)) → IsAnswer bytes from (go_on t after)
unfolding Says
go_says (Fails q) after h k = h
go_says (Goes q z) after h k = k q z h.0 h.1
go_says (Finds f) after h k = h

fuel_left : (len p q n : ℕ) → len < p + suc n → p < q → len < q + n
fuel_left len p q n h l = omega arith

no_fuel : (len p : ℕ) → len < p + 0 → p ≤ len → ⊥
no_fuel len p h l = omega arith

reads_says : (n : ℕ) (bytes : List ℕ) (from p : ℕ) (s : State) → Upto bytes from p s → length bytes < p + n → IsAnswer bytes from (reads n bytes p s)
reads_says zero bytes from p s u h = absurd (no_fuel (length bytes) p h u.within)
reads_says (suc n) bytes from p s u h =
    go_says (turn_at p s (front_at bytes p)) (λ q z. reads n bytes q z) (turn_says u (front_at bytes p) refl (front_sound (begins_line bytes p) (drop p bytes)))
    (λ q z v l. reads_says n bytes from q z v (fuel_left (length bytes) p q n h l))

pub start_upto : (bytes : List ℕ) (from : ℕ) → from ≤ length bytes → Upto bytes from from Begin
unfolding IsOpen
start_upto bytes from h = record { tokens = []; behind = from; lexes = no_token; gap = no_gap; state = refl; open_yet = tt; within = h }

pub reading_says : (bytes : List ℕ) (from : ℕ) → from ≤ length bytes → IsAnswer bytes from (reading bytes from)
reading_says bytes from h = reads_says (suc (length bytes)) bytes from from Begin (start_upto bytes from h) (omega arith)
