-- What the first bytes tell of blanks and comments.
use Rattle.std.proofs.Common.{◌≡◌, inl, inr, ℕ, ◌+◌, ◌<◌, ◌≤◌, refl, sym, ap, subst, ◌∙◌, Bool, true, false, cond, if◌then◌else◌, List, [], ◌∷◌, ◌++◌, Option, Some, None, length, take, drop, get_or, arith, eqb, ◌-◌, length-drop}
use Rattle.std.proofs.lemmas.List.{take_all}
use Rattle.std.specs.List.{prefix_len, starts_with}
use Rattle.std.proofs.lemmas.Bool.Decides.{Decides-eqb, eqb_tells}
use Rattle.std.proofs.lemmas.Slice.Eq.{starts_is}
use Rattle.dot_text.specs.Lexical.{is_blank, is_in_line, begins_line, Skipped, Skipped.blank}
use Rattle.dot_text.specs.Scanner.{Cut, before, run_of, Skips, Faulty, skips_block, block_of, front}
use Rattle.dot_text.specs.declared.blanks.Skip.{Skip}
use Rattle.dot_text.specs.declared.blanks.Skip.TheVariants.{Unclosed, Nothing}
use Rattle.dot_text.specs.Blanks as blanks
use Rattle.dot_text.specs.Blanks.{BlankAt, FirstByte, FirstByte.ended, FirstByte.byte}
use Rattle.dot_text.specs.Skip.{BeginsAs, BeginsBlank, BeginsBlock, len_from, block_len_of}
use Rattle.dot_text.proofs.Reading.{skipped_some, behind_at}
use Rattle.dot_text.proofs.Scanned.{cut_of, skip_found}
use Rattle.dot_text.proofs.Sound.{Sound, front_sound}

run_length : (test : ℕ → Bool) (bs : List ℕ) → length (run_of test bs).text ≡ prefix_len test bs
run_length test [] = refl
run_length test (b ∷ bs) =
    elim (test b) as (λ v. length (if v then before b (run_of test bs) else cut_of [] (b ∷ bs)).text ≡ cond v (1 + prefix_len test bs) 0) [
      | true ↦ omega (arith, run_length test bs)
      | false ↦ refl
    ]

-- what the scanner skips is a blank or a comment
skips : (line : Bool) (bs : List ℕ) (n : ℕ) (c : Cut) → front line bs ≡ Skips c → n ≡ length c.text → BeginsBlank line bs n
skips line bs n c e count =
    let s : Sound line bs (Skips c) = subst (λ f. Sound line bs f) e (front_sound line bs) in
    record { text = c.text; rest = c.rest; is = s.0; skipped = s.1; count = count }

blank_begins : (line : Bool) (b : ℕ) (bs : List ℕ) → is_blank b ≡ true → BeginsBlank line (b ∷ bs) 1
blank_begins line b bs h = record { text = b ∷ []; rest = bs; is = refl; skipped = blank b h; count = refl }

hash_begins : (bs : List ℕ) → BeginsBlank true (35 ∷ bs) (prefix_len is_in_line (35 ∷ bs))
hash_begins bs = skips true (35 ∷ bs) (prefix_len is_in_line (35 ∷ bs)) (before 35 (run_of is_in_line bs)) refl (omega (arith, run_length is_in_line bs))

slashes_begin : (line : Bool) (bs : List ℕ) → BeginsBlank line (47 ∷ 47 ∷ bs) (prefix_len is_in_line (47 ∷ 47 ∷ bs))
slashes_begin line bs =
    skips line (47 ∷ 47 ∷ bs) (prefix_len is_in_line (47 ∷ 47 ∷ bs)) (before 47 (before 47 (run_of is_in_line bs))) refl (omega (arith, run_length is_in_line bs))

block_begins : (line : Bool) (bs : List ℕ) (n : ℕ) → Some n ≡ block_len_of bs → BeginsBlank line (47 ∷ 42 ∷ bs) (2 + n)
block_begins line bs n is = by (block_of false bs) refl is
  where
    by : (o : Option Cut) → block_of false bs ≡ o → Some n ≡ len_from 0 o → BeginsBlank line (47 ∷ 42 ∷ bs) (2 + n)
    by None f is = let z : Some n ≡ None = is in cc
    by (Some c) f is =
        let count : n ≡ 0 + length c.text = cc in
        skips line (47 ∷ 42 ∷ bs) (2 + n) (before 47 (before 42 c)) (ap skips_block f) (omega (arith, count))

-- a block comment that is not closed is no comment
unclosed_front : (line : Bool) (bs text rest : List ℕ) → None ≡ block_len_of bs → 47 ∷ 42 ∷ bs ≡ text ++ rest → Skipped line text rest → ⊥
unclosed_front line bs text rest is e s = by (block_of false bs) refl is
  where
    by : (o : Option Cut) → block_of false bs ≡ o → None ≡ len_from 0 o → ⊥
    by None f is = let z : Faulty ≡ Skips (cut_of text rest) = sym (ap skips_block f) ∙ ap (front line) e ∙ skip_found s in cc
    by (Some c) f is = let z : None ≡ Some (0 + length c.text) = is in cc

none_unclosed : (line : Bool) (bs : List ℕ) → None ≡ block_len_of bs → (n : ℕ) → BeginsBlank line (47 ∷ 42 ∷ bs) n → ⊥
none_unclosed line bs is n a = unclosed_front line bs a.text a.rest is a.is a.skipped

starts : (s w : List ℕ) → starts_with eqb s w ≡ true → s ≡ w ++ drop (length w) s
starts s w h = (starts_is Decides-eqb s w (starts_with eqb s w) refl).0 h

-- the bytes from n on, as a slice has them
tail : (bs : List ℕ) (n : ℕ) → take (length bs - n) (drop n bs) ≡ drop n bs
tail bs n = take_all (length bs - n) (drop n bs) (omega (arith, length-drop n bs))

first_is : (bs : List ℕ) (b : ℕ) → (0 < length bs) × ((d : ℕ) → b ≡ get_or bs 0 d) → bs ≡ b ∷ drop 1 bs
first_is [] b h = absurd (omega (arith, h.0))
first_is (c ∷ bs) b h = ap (λ z. z ∷ bs) (sym (h.1 0))

pub blank_first : (line : Bool) (bs : List ℕ) (b : ℕ) → (0 < length bs) × ((d : ℕ) → b ≡ get_or bs 0 d) → is_blank b ≡ true → BeginsBlank line bs 1
blank_first line bs b h f = subst (λ z. BeginsBlank line z 1) (sym (first_is bs b h)) (blank_begins line b (drop 1 bs) f)

pub hash_first : (line : Bool) (bs : List ℕ) (b n : ℕ) → (0 < length bs) × ((d : ℕ) → b ≡ get_or bs 0 d) → b ≡ 35 → line ≡ true → n ≡ prefix_len is_in_line bs → BeginsBlank line bs n
hash_first line bs b n h e l len =
    let there : bs ≡ 35 ∷ drop 1 bs = first_is bs b h ∙ ap (λ z. z ∷ drop 1 bs) e in
    subst (λ z. BeginsBlank line z n) (sym there)
    (subst (λ z. BeginsBlank z (35 ∷ drop 1 bs) n) (sym l) (subst (λ z. BeginsBlank true (35 ∷ drop 1 bs) z) (sym (len ∙ ap (prefix_len is_in_line) there)) (hash_begins (drop 1 bs))))

pub slashes_first : (line : Bool) (bs : List ℕ) (n : ℕ) → starts_with eqb bs (47 ∷ 47 ∷ []) ≡ true → n ≡ prefix_len is_in_line bs → BeginsBlank line bs n
slashes_first line bs n h len =
    let there : bs ≡ 47 ∷ 47 ∷ drop 2 bs = starts bs (47 ∷ 47 ∷ []) h in
    subst (λ z. BeginsBlank line z n) (sym there) (subst (λ z. BeginsBlank line (47 ∷ 47 ∷ drop 2 bs) z) (sym (len ∙ ap (prefix_len is_in_line) there)) (slashes_begin line (drop 2 bs)))

pub block_first : (line : Bool) (bs : List ℕ) (n : ℕ) (o : Option ℕ) → starts_with eqb bs (47 ∷ 42 ∷ []) ≡ true → o ≡ block_len_of (take (length bs - 2) (drop 2 bs)) → o ≡ Some n → BeginsBlank line bs (2 + n)
block_first line bs n o h len is =
    subst (λ z. BeginsBlank line z (2 + n)) (sym (starts bs (47 ∷ 42 ∷ []) h)) (block_begins line (drop 2 bs) n (sym is ∙ len ∙ ap block_len_of (tail bs 2)))

pub unclosed_first : (line : Bool) (bs : List ℕ) (o : Option ℕ) → starts_with eqb bs (47 ∷ 42 ∷ []) ≡ true → o ≡ block_len_of (take (length bs - 2) (drop 2 bs)) → o ≡ None → BeginsBlock bs × ((n : ℕ) → BeginsBlank line bs n → ⊥)
unclosed_first line bs o h len is =
    let there : bs ≡ 47 ∷ 42 ∷ drop 2 bs = starts bs (47 ∷ 42 ∷ []) h in (
      record { rest = drop 2 bs; is = there },
      λ n a. none_unclosed line (drop 2 bs) (sym is ∙ len ∙ ap block_len_of (tail bs 2)) n (subst (λ z. BeginsBlank line z n) there a),
    )

-- what the bytes from a place on begin with stands at the place
pub blank_here : (bytes : List ℕ) (p n : ℕ) → BeginsBlank (begins_line bytes p) (drop p bytes) n → BlankAt bytes p (p + n)
blank_here bytes p n a = record { text = a.text; rest = a.rest; is = a.is; skipped = a.skipped; ends = ap (λ z. p + z) a.count }

none_here : (bytes : List ℕ) (p : ℕ) → ((n : ℕ) → BeginsBlank (begins_line bytes p) (drop p bytes) n → ⊥) → (q : ℕ) → BlankAt bytes p q → ⊥
none_here bytes p none q a = none (length a.text) (record { text = a.text; rest = a.rest; is = a.is; skipped = a.skipped; count = refl })

pub place_after : (bytes : List ℕ) (p n : ℕ) → p ≤ length bytes → BeginsBlank (begins_line bytes p) (drop p bytes) n → (p < p + n) × (p + n ≤ length bytes)
place_after bytes p n h a = (omega (arith, skipped_some a.skipped, a.count), omega (arith, behind_at bytes a.text a.rest p h a.is, a.count))

pub unclosed_here : (bytes : List ℕ) (p : ℕ) → BeginsAs (begins_line bytes p) (drop p bytes) Unclosed → blanks.Unclosed bytes p
unclosed_here bytes p s = record { rest = s.0.rest; is = s.0.is; none = none_here bytes p s.1 }

pub first_here : (bytes : List ℕ) (p : ℕ) → p ≤ length bytes → BeginsAs (begins_line bytes p) (drop p bytes) Nothing → FirstByte bytes p
first_here bytes p h s =
    elim (eqb_tells p (length bytes)) [
      | inl x ↦ ended x.1
      | inr x ↦ byte (omega (arith, x.1)) (none_here bytes p s.1) (λ u. s.0 (record { rest = u.rest; is = u.is }))
    ]

-- what the code knows of the bytes from a place on
pub at_place : (bytes : List ℕ) (p : ℕ) (line : Bool) (s : Skip) → line ≡ begins_line bytes p → BeginsAs line (take (length bytes - p) (drop p bytes)) s → BeginsAs (begins_line bytes p) (drop p bytes) s
at_place bytes p line s l h = subst (λ z. BeginsAs z (drop p bytes) s) l (subst (λ z. BeginsAs line z s) (tail bytes p) h)
