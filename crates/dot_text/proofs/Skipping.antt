-- Blanks and comments end at one place, or at one comment that is not closed.
use Rattle.std.proofs.Common.{◌≡◌, ℕ, zero, suc, ◌+◌, ◌<◌, ◌≤◌, refl, sym, ap, subst, ◌∙◌, ◌==◌, true, false, List, [], ◌∷◌, Option, Some, None, Result, length, drop, arith, eqb-true}
use Rattle.std.proofs.lemmas.Bool.{cond_both, and_parts}
use Rattle.std.proofs.Math.Seq.{drop-length}
use Rattle.dot_text.specs.Lexical.{begins_line}
use Rattle.dot_text.specs.Scanner.{Cut, skips_block, block_of, Front, AtEnd, Skips, Gives, Faulty, front, front_at}
use Rattle.dot_text.specs.Blanks.{BlankAt, Blanks, Blanks.none as no_blank, Blanks.skip, Unclosed, FirstByte, FirstByte.ended, FirstByte.byte, SkipsTo, SkipFails, IsSkip, opens, skip_on, skips, skipping}
use Rattle.dot_text.proofs.Cases.{differ}
use Rattle.dot_text.proofs.Scanned.{cut_of, skip_found}
use Rattle.dot_text.proofs.Sound.{Sound, front_sound}
use Rattle.dot_text.proofs.Places.{blank_front, blank_unique, end_front}
use Rattle.dot_text.proofs.Reading.{skipped_some, ended_at, behind_at, not_at_end}

pub blanks_more : {bytes : List ℕ} {p q r : ℕ} → Blanks bytes p q → BlankAt bytes q r → Blanks bytes p r
blanks_more no_blank s = skip s no_blank
blanks_more (skip t g) s = skip t (blanks_more g s)

-- no blank and no comment stands at p
record Halts (bytes : List ℕ) (p : ℕ) : Type 0 where
  none : (q : ℕ) → BlankAt bytes p q → ⊥

first_halts : {bytes : List ℕ} {p : ℕ} → FirstByte bytes p → Halts bytes p
first_halts {bytes = bytes} {p = p} (ended e) = record { none = λ q s. let z : AtEnd ≡ Skips (cut_of s.text s.rest) = sym (end_front bytes p e) ∙ blank_front s in cc }
first_halts (byte h f g) = record { none = f }

blanks_unique : {bytes : List ℕ} {p q r : ℕ} → Blanks bytes p q → Blanks bytes p r → Halts bytes q → Halts bytes r → q ≡ r
blanks_unique no_blank no_blank x y = refl
blanks_unique no_blank (skip s g) x y = absurd (x.none _ s)
blanks_unique (skip s g) no_blank x y = absurd (y.none _ s)
blanks_unique {bytes = bytes} {r = r} (skip s g) (skip z h) x y = blanks_unique g (subst (λ v. Blanks bytes v r) (blank_unique z s) h) x y

pub skips_unique : (bytes : List ℕ) (from to end : ℕ) → SkipsTo bytes from to → SkipsTo bytes from end → to ≡ end
skips_unique bytes from to end a b = blanks_unique a.blanks b.blanks (first_halts a.first) (first_halts b.first)

pub fails_unique : (bytes : List ℕ) (from place other : ℕ) → SkipFails bytes from place → SkipFails bytes from other → place ≡ other
fails_unique bytes from place other a b = blanks_unique a.blanks b.blanks (record { none = a.unclosed.none }) (record { none = b.unclosed.none })

first_closed : {bytes : List ℕ} {p : ℕ} → FirstByte bytes p → Unclosed bytes p → ⊥
first_closed {bytes = bytes} {p = p} (byte h f g) u = g u
first_closed {bytes = bytes} {p = p} (ended e) u =
    at_end (ap (λ z. drop z bytes) e ∙ drop-length bytes) u.is
  where
    at_end : drop p bytes ≡ [] → drop p bytes ≡ 47 ∷ 42 ∷ u.rest → ⊥
    at_end x y = let z : [] ≡ 47 ∷ 42 ∷ u.rest = sym x ∙ y in cc

pub not_both : (bytes : List ℕ) (from to place : ℕ) → SkipsTo bytes from to → SkipFails bytes from place → ⊥
not_both bytes from to place a b =
    let e : to ≡ place = blanks_unique a.blanks b.blanks (first_halts a.first) (record { none = b.unclosed.none }) in
    first_closed a.first (subst (λ z. Unclosed bytes z) (sym e) b.unclosed)

opened_is : (bs : List ℕ) → opens bs ≡ true → (rest : List ℕ) × (bs ≡ 47 ∷ 42 ∷ rest)
opened_is [] h = differ false h refl
opened_is (b ∷ []) h = differ false h refl
opened_is (b ∷ c ∷ bs) h =
    let two = and_parts (b == 47) (c == 42) h in
    (bs, ap (λ z. z ∷ c ∷ bs) (eqb-true b 47 two.0) ∙ ap (λ z. 47 ∷ z ∷ bs) (eqb-true c 42 two.1))

no_blank_here : {bytes : List ℕ} {p : ℕ} (f : Front) → front_at bytes p ≡ f → ((c : Cut) → f ≡ Skips c → ⊥) → (q : ℕ) → BlankAt bytes p q → ⊥
no_blank_here f e n q a = n (cut_of a.text a.rest) (sym e ∙ blank_front a)

skip_says : {bytes : List ℕ} {from p : ℕ} (g : Blanks bytes from p) (h : p ≤ length bytes) (f : Front) (after : ℕ → Result ℕ ℕ) → front_at bytes p ≡ f → Sound (begins_line bytes p) (drop p bytes) f → ((q : ℕ) → Blanks bytes from q → q ≤ length bytes → p < q → IsSkip bytes from (after q)) → IsSkip bytes from (skip_on p (opens (drop p bytes)) f after)
skip_says {bytes = bytes} {p = p} g h AtEnd after e s k = record { blanks = g; first = ended (ended_at bytes p h s) }
skip_says {bytes = bytes} {p = p} g h (Skips c) after e s k =
    let a : BlankAt bytes p (p + length c.text) = record { text = c.text; rest = c.rest; is = s.0; skipped = s.1; ends = refl } in
    k (p + length c.text) (blanks_more g a) (behind_at bytes c.text c.rest p h s.0) (omega (arith, skipped_some s.1))
skip_says {bytes = bytes} {p = p} g h (Gives t c) after e s k =
    record {
      blanks = g;
      first = byte (not_at_end bytes p h (λ at. let z : AtEnd ≡ Gives t c = sym (end_front bytes p at) ∙ e in cc))
          (no_blank_here (Gives t c) e (λ d z. cc))
          (λ u. let z : front (begins_line bytes p) (47 ∷ 42 ∷ u.rest) ≡ Gives t c = ap (front (begins_line bytes p)) (sym u.is) ∙ e in not_given (block_of false u.rest) z);
    }
  where
    not_given : (o : Option Cut) → skips_block o ≡ Gives t c → ⊥
    not_given None z = let y : Faulty ≡ Gives t c = z in cc
    not_given (Some d) z = let y : Skips _ ≡ Gives t c = z in cc
skip_says {bytes = bytes} {from = from} {p = p} g h Faulty after e s k =
    cond_both (opens (drop p bytes)) _ _ (λ r. IsSkip bytes from r)
    (λ o. let (rest, is) = opened_is (drop p bytes) o in record { blanks = g; unclosed = record { rest = rest; is = is; none = no_blank_here Faulty e (λ d z. cc) } })
    (λ n.
    record {
      blanks = g;
      first = byte (not_at_end bytes p h (λ at. let z : AtEnd ≡ Faulty = sym (end_front bytes p at) ∙ e in cc)) (no_blank_here Faulty e (λ d z. cc))
          (λ u. differ (opens (drop p bytes)) (ap opens u.is) n);
    })

skips_say : (n : ℕ) (bytes : List ℕ) (from p : ℕ) → Blanks bytes from p → p ≤ length bytes → length bytes < p + n → IsSkip bytes from (skips n bytes p)
skips_say zero bytes from p g h l = absurd (omega arith)
skips_say (suc n) bytes from p g h l =
    skip_says g h (front_at bytes p) (λ q. skips n bytes q) refl (front_sound (begins_line bytes p) (drop p bytes))
    (λ q b w m. skips_say n bytes from q b w (omega arith))

pub skipping_says : (bytes : List ℕ) (from : ℕ) → from ≤ length bytes → IsSkip bytes from (skipping bytes from)
skipping_says bytes from h = skips_say (suc (length bytes)) bytes from from no_blank h (omega arith)
