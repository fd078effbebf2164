-- At a place at most one document stands, and a fault has one place.
use Rattle.std.proofs.Common.{◌≡◌, ℕ, ◌+◌, ◌⊎◌, inl, inr, refl, sym, ap, subst, ◌∙◌, List, [], ◌∷◌, ◌++◌, length, append-nil, append_assoc, drop}
use Rattle.std.proofs.Math.Seq.{drop-length}
use Rattle.dot_text.specs.Tokens.{Token}
use Rattle.dot_text.specs.Lexical.{begins_line, SkipAt, TokenAt, Gap, Gap.none as no_gap, Gap.skip, Lexes, Lexes.none as no_token, Lexes.next}
use Rattle.dot_text.specs.Scanner.{AtEnd, Skips, Gives, front, front_at}
use Rattle.dot_text.specs.Blanks.{BlankAt}
use Rattle.dot_text.proofs.Scanned.{cut_of, token_found, skip_found}
use Rattle.dot_text.specs.Grammar.{Document}
use Rattle.dot_text.specs.declared.doc.Doc.{Doc}
use Rattle.dot_text.specs.Documents.{Stands, CanGoOn, Stuck, Stuck.ended, Stuck.nothing, Stuck.token, Place}
use Rattle.dot_text.proofs.Running.{document_unique}

pub record SameToken (t u : Token) (q r : ℕ) : Type 0 where
  pub token : t ≡ u
  pub end : q ≡ r

pub token_front : {bytes : List ℕ} {p q : ℕ} {t : Token} (a : TokenAt bytes p t q) → front_at bytes p ≡ Gives t (cut_of a.text a.rest)
token_front {bytes = bytes} {p = p} a = ap (front (begins_line bytes p)) a.is ∙ token_found (begins_line bytes p) a.spells

pub blank_front : {bytes : List ℕ} {p q : ℕ} (a : BlankAt bytes p q) → front_at bytes p ≡ Skips (cut_of a.text a.rest)
blank_front {bytes = bytes} {p = p} a = ap (front (begins_line bytes p)) a.is ∙ skip_found a.skipped

-- whatever its bytes
abbrev blank_of : {bytes : List ℕ} {p q : ℕ} → SkipAt bytes p q → BlankAt bytes p q
blank_of a = record { text = a.text; rest = a.rest; is = a.is; skipped = a.skipped; ends = a.ends }

pub skip_front : {bytes : List ℕ} {p q : ℕ} (a : SkipAt bytes p q) → front_at bytes p ≡ Skips (cut_of a.text a.rest)
skip_front a = blank_front (blank_of a)

pub end_front : (bytes : List ℕ) (p : ℕ) → p ≡ length bytes → front_at bytes p ≡ AtEnd
end_front bytes p e = ap (front (begins_line bytes p)) (ap (λ z. drop z bytes) e ∙ drop-length bytes)

pub token_unique : {bytes : List ℕ} {p q r : ℕ} {t u : Token} → TokenAt bytes p t q → TokenAt bytes p u r → SameToken t u q r
token_unique {p = p} {t = t} {u = u} a b =
    let e : Gives t (cut_of a.text a.rest) ≡ Gives u (cut_of b.text b.rest) = sym (token_front a) ∙ token_front b in
    let cuts : cut_of a.text a.rest ≡ cut_of b.text b.rest = cc in
    let same : a.text ≡ b.text = ap (λ z. z.text) cuts in
    record { token = cc; end = a.ends ∙ ap (λ z. p + length z) same ∙ sym b.ends }

pub blank_unique : {bytes : List ℕ} {p q r : ℕ} → BlankAt bytes p q → BlankAt bytes p r → q ≡ r
blank_unique {p = p} a b =
    let e : Skips (cut_of a.text a.rest) ≡ Skips (cut_of b.text b.rest) = sym (blank_front a) ∙ blank_front b in
    let cuts : cut_of a.text a.rest ≡ cut_of b.text b.rest = cc in
    a.ends ∙ ap (λ z. p + length z.text) cuts ∙ sym b.ends

-- no blank and no comment stands at p
pub record Stops (bytes : List ℕ) (p : ℕ) : Type 0 where
  pub none : (q : ℕ) → SkipAt bytes p q → ⊥

pub token_stops : {bytes : List ℕ} {p q : ℕ} {t : Token} → TokenAt bytes p t q → Stops bytes p
token_stops {t = t} a = record { none = λ q s. let e : Gives t (cut_of a.text a.rest) ≡ Skips (cut_of s.text s.rest) = sym (token_front a) ∙ skip_front s in cc }

pub stuck_stops : {bytes : List ℕ} {p : ℕ} {ts : List Token} → Stuck bytes p ts → Stops bytes p
stuck_stops {bytes = bytes} {p = p} (ended e) = record { none = λ q s. let z : AtEnd ≡ Skips (cut_of s.text s.rest) = sym (end_front bytes p e) ∙ skip_front s in cc }
stuck_stops (nothing l f g) = record { none = f }
stuck_stops (token t q a bad) = token_stops a

pub gap_unique : {bytes : List ℕ} {p q r : ℕ} → Gap bytes p q → Gap bytes p r → Stops bytes q → Stops bytes r → q ≡ r
gap_unique no_gap no_gap x y = refl
gap_unique no_gap (skip s g) x y = absurd (x.none _ s)
gap_unique (skip s g) no_gap x y = absurd (y.none _ s)
gap_unique {bytes = bytes} {r = r} (skip s g) (skip z h) x y = gap_unique g (subst (λ v. Gap bytes v r) (blank_unique (blank_of z) (blank_of s)) h) x y

-- the longer of two lists of tokens from one place goes on where the shorter ends
pub record GoesOn (bytes : List ℕ) (ts us : List Token) (q r : ℕ) : Type 0 where
  pub more : List Token
  pub is : us ≡ ts ++ more
  pub rest : Lexes bytes q more r

-- the same token stands first in both
pub record SameFirst (bytes : List ℕ) (t u : Token) (us : List Token) (q s : ℕ) : Type 0 where
  pub token : t ≡ u
  pub rest : Lexes bytes q us s

pub same_first : {bytes : List ℕ} {p q r x y s : ℕ} {t u : Token} {us : List Token} → Gap bytes p q → TokenAt bytes q t r → Gap bytes p x → TokenAt bytes x u y → Lexes bytes y us s → SameFirst bytes t u us r s
same_first {bytes = bytes} {y = y} {s = s} {u = u} {us = us} g a h b l =
    let e : _ ≡ _ = gap_unique h g (token_stops b) (token_stops a) in
    let same : SameToken _ _ _ _ = token_unique a (subst (λ v. TokenAt bytes v u y) e b) in
    record { token = same.token; rest = subst (λ v. Lexes bytes v us s) (sym same.end) l }

pub longer : {bytes : List ℕ} {p q r : ℕ} {ts us : List Token} → Lexes bytes p ts q → Lexes bytes p us r → GoesOn bytes ts us q r ⊎ GoesOn bytes us ts r q
longer {us = us} no_token l = inl (record { more = us; is = refl; rest = l })
longer {ts = ts} (next g a m) no_token = inr (record { more = ts; is = refl; rest = next g a m })
longer {bytes = bytes} {q = z} {r = w} (next {t = t} {ts = ts} g a m) (next {t = u} {ts = us} h b l) =
    let first : SameFirst bytes t u us _ w = same_first g a h b l in
    elim (longer m first.rest) [
      | inl x ↦ inl (record { more = x.more; is = ap (λ v. v ∷ us) (sym first.token) ∙ ap (λ v. t ∷ v) x.is; rest = x.rest })
      | inr x ↦ inr (record { more = x.more; is = ap (λ v. v ∷ ts) first.token ∙ ap (λ v. u ∷ v) x.is; rest = x.rest })
    ]

at_once : {bytes : List ℕ} {p q : ℕ} {ts : List Token} → Lexes bytes p ts q → ts ≡ [] → p ≡ q
at_once no_token e = refl
at_once (next {t = t} {ts = ts} g a l) e = let z : t ∷ ts ≡ [] = e in cc

pub record Same (doc other : Doc) (to end : ℕ) : Type 0 where
  pub docs : doc ≡ other
  pub ends : to ≡ end

goes_same : {bytes : List ℕ} {from to end : ℕ} {doc other : Doc} (a : Stands bytes from doc to) (b : Stands bytes from other end) → GoesOn bytes a.tokens b.tokens to end → Same doc other to end
goes_same {other = other} a b on =
    let (none, kept) = document_unique a.tokens on.more a.kept b.kept a.document (subst (λ z. Document z b.kept) on.is b.document) in
    record { docs = a.is ∙ kept ∙ sym b.is; ends = at_once on.rest none }

pub stands_unique : (bytes : List ℕ) (from : ℕ) (doc other : Doc) (to end : ℕ) → Stands bytes from doc to → Stands bytes from other end → Same doc other to end
stands_unique bytes from doc other to end a b =
    elim (longer a.lexes b.lexes) [
      | inl on ↦ goes_same a b on
      | inr on ↦ let same : Same other doc end to = goes_same b a on in record { docs = sym same.docs; ends = sym same.ends }
    ]

-- where no token may follow, none does
stuck_no : {bytes : List ℕ} {p q : ℕ} {t : Token} {ts : List Token} → Stuck bytes p ts → TokenAt bytes p t q → CanGoOn (ts ++ t ∷ []) → ⊥
stuck_no {bytes = bytes} {p = p} {t = t} (ended e) a can = let z : AtEnd ≡ Gives t (cut_of a.text a.rest) = sym (end_front bytes p e) ∙ token_front a in cc
stuck_no {q = q} {t = t} (nothing l f g) a can = g t q a
stuck_no {bytes = bytes} {t = t} {ts = ts} (token u q b bad) a can =
    let same : SameToken _ _ _ _ = token_unique a b in bad (subst (λ z. CanGoOn (ts ++ z ∷ [])) same.token can)

can_less : (pre us : List Token) (t : Token) → CanGoOn (pre ++ t ∷ us) → CanGoOn ((pre ++ []) ++ t ∷ [])
can_less pre us t can =
    let e : (pre ++ t ∷ us) ++ can.more ≡ ((pre ++ []) ++ t ∷ []) ++ (us ++ can.more) = simp (append_assoc, append-nil) in
    record { more = us ++ can.more; kept = can.kept; document = subst (λ z. Document z can.kept) e can.document }

pub ends_first : {bytes : List ℕ} {p q r x : ℕ} {t : Token} (pre us : List Token) → Gap bytes p x → Stuck bytes x (pre ++ []) → Gap bytes p q → TokenAt bytes q t r → CanGoOn (pre ++ t ∷ us) → ⊥
ends_first {bytes = bytes} {r = r} {t = t} pre us g s h a can =
    let e : _ ≡ _ = gap_unique h g (token_stops a) (stuck_stops s) in
    stuck_no s (subst (λ v. TokenAt bytes v t r) e a) (can_less pre us t can)

shifted : (pre ts : List Token) (t u : Token) → u ≡ t → pre ++ u ∷ ts ≡ (pre ++ t ∷ []) ++ ts
shifted pre ts t u e = ap (λ z. pre ++ z ∷ ts) e ∙ sym (append_assoc pre (t ∷ []) ts)

stuck_unique : {bytes : List ℕ} {p q r x y : ℕ} {ts us : List Token} → Lexes bytes p ts q → Lexes bytes p us r → (pre : List Token) → Gap bytes q x → Gap bytes r y → Stuck bytes x (pre ++ ts) → Stuck bytes y (pre ++ us) → CanGoOn (pre ++ ts) → CanGoOn (pre ++ us) → x ≡ y
stuck_unique no_token no_token pre g h s z c d = gap_unique g h (stuck_stops s) (stuck_stops z)
stuck_unique no_token (next i b l) pre g h s z c d = absurd (ends_first pre _ g s i b d)
stuck_unique (next i b l) no_token pre g h s z c d = absurd (ends_first pre _ h z i b c)
stuck_unique {bytes = bytes} {r = r} {x = x} {y = y} (next {t = t} {ts = ts} i a m) (next {t = u} {ts = us} j b l) pre g h s z c d =
    let first : SameFirst bytes t u us _ r = same_first i a j b l in
    stuck_unique m first.rest (pre ++ t ∷ []) g h
    (subst (λ v. Stuck bytes x v) (shifted pre ts t t refl) s) (subst (λ v. Stuck bytes y v) (shifted pre us t u (sym first.token)) z)
    (subst CanGoOn (shifted pre ts t t refl) c) (subst CanGoOn (shifted pre us t u (sym first.token)) d)

pub place_unique : (bytes : List ℕ) (from p q : ℕ) → Place bytes from p → Place bytes from q → p ≡ q
place_unique bytes from p q a b = stuck_unique a.lexes b.lexes [] a.gap b.gap a.stuck b.stuck a.can b.can
