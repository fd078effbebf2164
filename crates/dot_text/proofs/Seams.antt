-- A UTF-8 text may be cut at the ends of its tokens.
use Rattle.std.proofs.Common.{◌≡◌, ℕ, ◌+◌, ◌<◌, refl, sym, ap, subst, ◌==◌, Bool, true, false, if◌then◌else◌, List, [], ◌∷◌, ◌++◌, Some, length, get_or, IsUtf8, arith, append-nil, append_assoc, length-append}
use Rattle.std.specs.Str.{IsCharBoundary}
use Rattle.std.proofs.lemmas.Str.{IsUtf8-append, IsUtf8-nil, IsUtf8-take, IsUtf8-drop, IsCharBoundary-before_ascii, IsCharBoundary-after_ascii}
use Rattle.std.proofs.lemmas.Bool.Decides.{nat_tests}
use Rattle.std.proofs.Math.Seq.{get_or-append_seam, take-append_seam, drop-append_seam}
use Rattle.std.proofs.lemmas.Bool.{and_parts, not-true}
use Rattle.std.specs.List.{list_all}
use Rattle.dot_text.specs.Tokens.{Token}
use Rattle.dot_text.specs.Lexical.{is_blank, is_in_name, is_by_numeral, stops, is_unsigned, is_numeral, mark_token, Spells, Spells.name, Spells.numeral, Spells.quoted, Spells.arrow, Spells.mark}
use Rattle.dot_text.proofs.Cases.{differ, is_at, marks}
use Rattle.dot_text.proofs.Scanned.{unsigned_all}

cut_at : (x y : List ℕ) → IsUtf8 (x ++ y) → IsCharBoundary (x ++ y) (length x) → IsUtf8 x × IsUtf8 y
cut_at x y u b = (
  subst IsUtf8 (take-append_seam x y) (IsUtf8-take (x ++ y) (length x) u b),
  subst IsUtf8 (drop-append_seam x y) (IsUtf8-drop (x ++ y) (length x) u b),
)

pub cut_before : (x : List ℕ) (b : ℕ) (y : List ℕ) → b < 128 → IsUtf8 (x ++ b ∷ y) → IsUtf8 x × IsUtf8 (b ∷ y)
cut_before x b y h u =
    let low : get_or (x ++ b ∷ y) (length x) 0 < 128 = omega (arith, get_or-append_seam x b y 0) in
    cut_at x (b ∷ y) u (IsCharBoundary-before_ascii (x ++ b ∷ y) (length x) (omega (arith, length-append x (b ∷ y))) low)

cut_after : (x : List ℕ) (b : ℕ) (y : List ℕ) → b < 128 → IsUtf8 ((x ++ b ∷ []) ++ y) → IsUtf8 (x ++ b ∷ []) × IsUtf8 y
cut_after x b y h u =
    let same : (x ++ b ∷ []) ++ y ≡ x ++ b ∷ y = append_assoc x (b ∷ []) y in
    let low : get_or ((x ++ b ∷ []) ++ y) (length x) 0 < 128 = omega (arith, get_or-append_seam x b y 0, ap (λ z. get_or z (length x) 0) same) in
    let at : length (x ++ b ∷ []) ≡ length x + 1 = length-append x (b ∷ []) in
    cut_at (x ++ b ∷ []) y u
    (subst (λ z. IsCharBoundary ((x ++ b ∷ []) ++ y) z) (sym at) (IsCharBoundary-after_ascii ((x ++ b ∷ []) ++ y) (length x) u (omega (arith, length-append (x ++ b ∷ []) y, at)) low))

cut_all : (test : ℕ → Bool) → ((b : ℕ) → test b ≡ true → b < 128) → (w y : List ℕ) → list_all test w ≡ true → IsUtf8 (w ++ y) → IsUtf8 w × IsUtf8 y
cut_all test low [] y h u = (IsUtf8-nil, u)
cut_all test low (b ∷ w) y h u =
    let two = and_parts (test b) (list_all test w) h in
    let (first, rest) = cut_after [] b (w ++ y) (low b two.0) u in
    let (text, behind) = cut_all test low w y two.1 rest in
    (IsUtf8-append (b ∷ []) w first text, behind)

blank_low : (b : ℕ) → is_blank b ≡ true → b < 128
blank_low b h = grind (arith, nat_tests)

numeral_low : (b : ℕ) → is_by_numeral b ≡ true → b < 128
numeral_low b h = grind (arith, nat_tests)

not_in_name_low : (b : ℕ) → is_in_name b ≡ false → b < 128
not_in_name_low b h = grind (arith, nat_tests)

mark_low : (b : ℕ) (t : Token) → mark_token b ≡ Some t → b < 128
mark_low b t e = marks (λ z u. z < 128) (omega arith) (omega arith) (omega arith) (omega arith) (omega arith) (omega arith) (omega arith) b t e

pub blanks_cut : (w y : List ℕ) → list_all is_blank w ≡ true → IsUtf8 (w ++ y) → IsUtf8 w × IsUtf8 y
blanks_cut = cut_all is_blank blank_low

numeral_cut : (w y : List ℕ) → is_numeral w ≡ true → IsUtf8 (w ++ y) → IsUtf8 w × IsUtf8 y
numeral_cut [] y h u = differ false h refl
numeral_cut (b ∷ w) y h u = by (b == 45) refl h
  where
    by : (x : Bool) → (b == 45) ≡ x → (if x then is_unsigned false w else is_unsigned false (b ∷ w)) ≡ true → IsUtf8 (b ∷ w) × IsUtf8 y
    by true f h =
        let (first, rest) = cut_after [] b (w ++ y) (is_at (λ z. z < 128) b 45 (omega arith) f) u in
        let (text, behind) = cut_all is_by_numeral numeral_low w y (unsigned_all false w h) rest in
        (IsUtf8-append (b ∷ []) w first text, behind)
    by false f h = cut_all is_by_numeral numeral_low (b ∷ w) y (unsigned_all false (b ∷ w) h) u

name_cut : (w y : List ℕ) → stops is_in_name y ≡ true → IsUtf8 (w ++ y) → IsUtf8 w × IsUtf8 y
name_cut w [] h u = (subst IsUtf8 (append-nil w) u, IsUtf8-nil)
name_cut w (b ∷ y) h u = cut_before w b y (not_in_name_low b (not-true (is_in_name b) h)) u

-- a token, and what stands behind it
pub token_cut : {text rest : List ℕ} {t : Token} → Spells text rest t → IsUtf8 (text ++ rest) → IsUtf8 text × IsUtf8 rest
token_cut {rest = rest} (name w h s) u = name_cut w rest s u
token_cut {rest = rest} (numeral w h s) u = numeral_cut w rest h u
token_cut {rest = rest} (quoted {bs = bs} q) u = cut_after (34 ∷ bs) 34 rest (omega arith) u
token_cut {rest = rest} arrow u = cut_after (45 ∷ []) 62 rest (omega arith) u
token_cut {rest = rest} {t = t} (mark b e) u = cut_after [] b rest (mark_low b t e) u
