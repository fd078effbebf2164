-- From each state some bytes lead to an end, and so the place of a fault is the longest front with which a text of the grammar begins.
use Rattle.std.proofs.Common.{◌≡◌, ◌<◌, ◌≤◌, ◌+◌, ◌⊎◌, inl, inr, ℕ, zero, suc, List, [], ◌∷◌, ◌++◌, Bool, true, false, cond, length, take, drop, Option, Some, None, Result, Ok, Err, refl, ap, sym, ◌∙◌, subst, arith}
use Rattle.std.proofs.lemmas.List.{take-append-drop}
use Rattle.op_table.specs.declared.op.Op.{Op}
use Rattle.op_table.specs.Operator.{op_word}
use Rattle.fun_expr.specs.declared.state.Number.{Number}
use Rattle.fun_expr.specs.declared.state.Number.TheVariants.{Place, LiteralWidth, Literal, OperatorWidth, Out}
use Rattle.fun_expr.specs.declared.state.Spot.{Spot}
use Rattle.fun_expr.specs.declared.state.Spot.TheVariants.{Start, Expression, Name, Numeral, Digits, Closed, Spaced, Dash, Arrow, Gap}
use Rattle.fun_expr.specs.declared.state.State.{State}
use Rattle.fun_expr.specs.declared.scan.Extent.{Extent}
use Rattle.fun_expr.specs.Machine.{step, is_whole, begin, held_width}
use Rattle.fun_expr.specs.Counting.{counted, go_on, nothing_counted, scanned, with_expression}
use Rattle.fun_expr.specs.Building.{Parts, byte_built, no_parts}
use Rattle.fun_expr.specs.FunReading.{CanGoOn, GoesOnTo, IsNoText}
use Rattle.fun_expr.specs.Laws.{TextOrFault}
use Rattle.fun_expr.proofs.Running.{Reader, reader, after, reads, reads-append, scans_whole, not_none}
use Rattle.fun_expr.proofs.NumeralRuns.{name_rest}
use Rattle.fun_expr.proofs.Complete.{complete}
use Rattle.fun_expr.proofs.Sound.{IsText, sound, text_from}

-- some bytes lead to an end
pub record Finishes (r : Reader) : Type 0 where
  pub more : List ℕ
  pub last : Reader
  pub is : reads (Some r) more ≡ Some last
  pub whole : is_whole last.at.spot ≡ true

first_then : (r s : Reader) (front : List ℕ) → reads (Some r) front ≡ Some s → Finishes s → Finishes r
first_then r s front h f = record { more = front ++ f.more; last = f.last; is = reads-append (Some r) front f.more ∙ ap (λ o. reads o f.more) h ∙ f.is; whole = f.whole }

at_arrow : (k : ℕ) (x : Extent) (p : Parts) → Finishes (reader Arrow k x p)
at_arrow k x p = record { more = []; last = reader Arrow k x p; is = refl; whole = refl }

at_spaced : (k : ℕ) (x : Extent) (p : Parts) → Finishes (reader Spaced k x p)
at_spaced k x p = first_then (reader Spaced k x p) (reader Arrow k x p) (45 ∷ 62 ∷ []) refl (at_arrow k x p)

at_gap : (k : ℕ) (x : Extent) (p : Parts) → Finishes (reader Gap k x p)
at_gap k x p = record { more = 35 ∷ 48 ∷ []; last = reader (Digits Out (Some 0)) k x p; is = refl; whole = refl }

at_closed : (k : ℕ) (x : Extent) (p : Parts) → Finishes (reader Closed k x p)
at_closed zero x p = first_then (reader Closed zero x p) (reader Spaced 0 x p) (32 ∷ []) refl (at_spaced 0 x p)
at_closed (suc k) x p = first_then (reader Closed (suc k) x p) (reader Closed k x (byte_built Closed 41 p)) (41 ∷ []) refl (at_closed k x (byte_built Closed 41 p))

at_place : (k : ℕ) (x : Extent) (p : Parts) (value : Option ℕ) → Finishes (reader (Digits Place value) k x p)
at_place zero x p value = first_then (reader (Digits Place value) zero x p) (reader Spaced 0 x (byte_built (Digits Place value) 32 p)) (32 ∷ []) refl (at_spaced 0 x (byte_built (Digits Place value) 32 p))
at_place (suc k) x p value = first_then (reader (Digits Place value) (suc k) x p) (reader Closed k x (byte_built (Digits Place value) 41 p)) (41 ∷ []) refl (at_closed k x (byte_built (Digits Place value) 41 p))

at_literal : (k : ℕ) (x : Extent) (p : Parts) (width : ℕ) (value : Option ℕ) → Finishes (reader (Digits (Literal width) value) k x p)
at_literal zero x p width value =
    first_then (reader (Digits (Literal width) value) zero x p) (reader Spaced 0 x (byte_built (Digits (Literal width) value) 32 p)) (32 ∷ []) refl (at_spaced 0 x (byte_built (Digits (Literal width) value) 32 p))
at_literal (suc k) x p width value =
    first_then (reader (Digits (Literal width) value) (suc k) x p) (reader Closed k x (byte_built (Digits (Literal width) value) 41 p)) (41 ∷ []) refl (at_closed k x (byte_built (Digits (Literal width) value) 41 p))

at_expression : (k : ℕ) (x : Extent) (p : Parts) → Finishes (reader Expression k x p)
at_expression k x p = first_then (reader Expression k x p) (reader (Digits Place (Some 0)) k (with_expression k x) p) (35 ∷ 48 ∷ []) refl (at_place k (with_expression k x) p (Some 0))

at_digits : (kind : Number) (k : ℕ) (x : Extent) (p : Parts) (value : Option ℕ) → Finishes (reader (Digits kind value) k x p)
at_digits Place k x p value = at_place k x p value
at_digits LiteralWidth k x p value =
    first_then (reader (Digits LiteralWidth value) k x p) (reader (Digits (Literal (held_width value)) (Some 0)) k x p) (39 ∷ 48 ∷ []) refl (at_literal k x p (held_width value) (Some 0))
at_digits (Literal width) k x p value = at_literal k x p width value
at_digits (OperatorWidth op) k x p value =
    first_then (reader (Digits (OperatorWidth op) value) k x p) (reader Expression (suc k) x (byte_built (Digits (OperatorWidth op) value) 40 p)) (40 ∷ []) refl
    (at_expression (suc k) x (byte_built (Digits (OperatorWidth op) value) 40 p))
at_digits Out k x p value = record { more = []; last = reader (Digits Out value) k x p; is = refl; whole = refl }

at_numeral : (kind : Number) (k : ℕ) (x : Extent) (p : Parts) → Finishes (reader (Numeral kind) k x p)
at_numeral kind k x p = first_then (reader (Numeral kind) k x p) (reader (Digits kind (Some 0)) k x p) (48 ∷ []) refl (at_digits kind k x p (Some 0))

at_name : (op : Op) (letters k : ℕ) (x : Extent) (p : Parts) → Finishes (reader (Name op letters) k x p)
at_name op letters k x p =
    first_then (reader (Name op letters) k x p) (reader (Numeral (OperatorWidth op)) k x p) (drop letters (op_word op) ++ 58 ∷ [])
    (name_rest op k x p [] (drop letters (op_word op)) (take letters (op_word op)) op letters refl (sym (take-append-drop letters (op_word op))))
    (at_numeral (OperatorWidth op) k x p)

finishes : (spot : Spot) (k : ℕ) (x : Extent) (p : Parts) → Finishes (reader spot k x p)
finishes Start k x p = first_then (reader Start k x p) (reader Arrow k x p) (45 ∷ 62 ∷ []) refl (at_arrow k x p)
finishes Expression k x p = at_expression k x p
finishes (Name op letters) k x p = at_name op letters k x p
finishes (Numeral kind) k x p = at_numeral kind k x p
finishes (Digits kind value) k x p = at_digits kind k x p value
finishes Closed k x p = at_closed k x p
finishes Spaced k x p = at_spaced k x p
finishes Dash k x p = first_then (reader Dash k x p) (reader Arrow k x p) (62 ∷ []) refl (at_arrow k x p)
finishes Arrow k x p = at_arrow k x p
finishes Gap k x p = at_gap k x p

-- where a text is read to its end, it is one of the grammar
abbrev start : Reader
start = reader Start 0 nothing_counted no_parts

whole_text : (text : List ℕ) (last : Reader) → reads (Some start) text ≡ Some last → is_whole last.at.spot ≡ true → IsText text
whole_text text last h whole = text_from text (sound text begin nothing_counted last.extent 0 (scans_whole text start last 0 h whole))

-- what is read can go on
can_go_on : (front : List ℕ) (r : Reader) → reads (Some start) front ≡ Some r → CanGoOn front
can_go_on front r h =
    let f = finishes r.at.spot r.at.nesting r.extent r.parts in
    let t = whole_text (front ++ f.more) f.last (reads-append (Some start) front f.more ∙ ap (λ o. reads o f.more) h ∙ f.is) f.whole in
    (f.more, t.0, t.1, t.2)

-- how far a text is read: to a byte that can't follow, or to its end, where it may not end
pub record Stops (r : Reader) (at : ℕ) (text : List ℕ) (place : ℕ) : Type 0 where
  pub count : ℕ
  pub last : Reader
  pub is : reads (Some r) (take count text) ≡ Some last
  pub place_is : place ≡ at + count
  pub within : count ≤ length text
  pub longest : (more : List ℕ) (longer : ℕ) → count < longer → longer ≤ length text → (end : Reader) → reads (Some r) (take longer text ++ more) ≡ Some end → ⊥

same_place : (a b : ℕ) → ◌≡◌ {A = Result Extent ℕ} (Err a) (Err b) → a ≡ b
same_place a b h = cc

fails_longer : (r : Reader) (byte : ℕ) (bytes : List ℕ) → step r.at byte ≡ None → (more : List ℕ) (longer : ℕ) → 0 < longer → (end : Reader) → reads (Some r) (take longer (byte ∷ bytes) ++ more) ≡ Some end → ⊥
fails_longer r byte bytes e more zero lt end k = absurd (omega (arith, lt))
fails_longer r byte bytes e more (suc n) lt end k = not_none (take n bytes ++ more) end (ap (λ o. reads (after r byte o) (take n bytes ++ more)) (sym e) ∙ k)

abbrev behind_byte : Reader → ℕ → State → Reader
behind_byte r byte s = record { at = s; extent = counted r.at byte r.extent; parts = byte_built r.at.spot byte r.parts }

goes_longer : (r : Reader) (byte at place : ℕ) (bytes : List ℕ) (s : State) → step r.at byte ≡ Some s → (next : Stops (behind_byte r byte s) (at + 1) bytes place) →
    (more : List ℕ) (longer : ℕ) → suc next.count < longer → longer ≤ length (byte ∷ bytes) → (end : Reader) → reads (Some r) (take longer (byte ∷ bytes) ++ more) ≡ Some end → ⊥
goes_longer r byte at place bytes s e next more zero lt le end k = absurd (omega (arith, lt))
goes_longer r byte at place bytes s e next more (suc n) lt le end k =
    next.longest more n (omega (arith, lt)) (omega (arith, le)) end (ap (λ o. reads (after r byte o) (take n bytes ++ more)) (sym e) ∙ k)

stops_on : (r : Reader) (at byte : ℕ) (bytes : List ℕ) (place : ℕ) (o : Option State) → step r.at byte ≡ o →
    ((s : Reader) → scanned s.at s.extent (at + 1) bytes ≡ Err place → Stops s (at + 1) bytes place) →
    go_on at (λ next. scanned next (counted r.at byte r.extent) (at + 1) bytes) o ≡ Err place → Stops r at (byte ∷ bytes) place
stops_on r at byte bytes place None e rest h = record {
  count = 0;
  last = r;
  is = refl;
  place_is = omega (arith, same_place at place h);
  within = omega arith;
  longest = λ more longer lt le end k. fails_longer r byte bytes e more longer lt end k;
}
stops_on r at byte bytes place (Some s) e rest h =
    let next = rest (behind_byte r byte s) h in
    record {
      count = suc next.count;
      last = next.last;
      is = ap (λ o. reads (after r byte o) (take next.count bytes)) e ∙ next.is;
      place_is = omega (arith, next.place_is);
      within = omega (arith, next.within);
      longest = goes_longer r byte at place bytes s e next;
    }

stops_end : (r : Reader) (at place : ℕ) (b : Bool) → cond b (Ok r.extent) (Err at) ≡ Err place → Stops r at [] place
stops_end r at place true h = absurd cc
stops_end r at place false h = record {
  count = 0;
  last = r;
  is = refl;
  place_is = omega (arith, same_place at place h);
  within = omega arith;
  longest = λ more longer lt le end k. absurd (omega (arith, lt, le));
}

stops : (text : List ℕ) (r : Reader) (at place : ℕ) → scanned r.at r.extent at text ≡ Err place → Stops r at text place
stops [] r at place h = stops_end r at place (is_whole r.at.spot) h
stops (byte ∷ bytes) r at place h = stops_on r at byte bytes place (step r.at byte) refl (λ s k. stops bytes s (at + 1) place k) h

-- what is counted of a text of the grammar, and what is built of it
pub scanned_text : (text : List ℕ) (x : Extent) → scanned begin nothing_counted 0 text ≡ Ok x → IsText text
scanned_text text x h = text_from text (sound text begin nothing_counted x 0 h)

pub no_text : (text : List ℕ) (place : ℕ) → scanned begin nothing_counted 0 text ≡ Err place → IsNoText text
no_text text place h binds outs t =
    let w = complete text binds outs t in
    let ok = scans_whole text start w.last 0 w.is w.whole in
    cc

pub goes_on_to : (text : List ℕ) (place : ℕ) → scanned begin nothing_counted 0 text ≡ Err place → GoesOnTo text place
goes_on_to text place h =
    let s = stops text start 0 place h in
    let here : s.count ≡ place = omega (arith, s.place_is) in
    record {
      within = omega (arith, s.within, here);
      front = subst (λ n. CanGoOn (take n text)) here (can_go_on (take s.count text) s.last s.is);
      longest = λ longer lt le go. let w = complete (take longer text ++ go.0) go.1 go.2 go.3 in s.longest go.0 longer (omega (arith, here, lt)) le w.last w.is;
    }

-- a text is one of the grammar, or has a fault
by_scan : (text : List ℕ) (r : Result Extent ℕ) → scanned begin nothing_counted 0 text ≡ r → IsText text ⊎ ((byte : ℕ) × IsNoText text × GoesOnTo text byte)
by_scan text (Ok x) h = inl (scanned_text text x h)
by_scan text (Err place) h = inr (place, no_text text place h, goes_on_to text place h)

pub text_or_fault : TextOrFault
text_or_fault text = by_scan text (scanned begin nothing_counted 0 text) refl
