-- Bytes and words, case by case.
use Rattle.std.proofs.Common.{◌≡◌, inl, inr, ℕ, refl, sym, subst, Bool, true, false, ◌||◌, ◌==◌, List, [], ◌∷◌, Option, Some, None, arith, eqb-true}
use Rattle.std.proofs.lemmas.Bool.{cond_both, both_ways, or_cases, or_left, and_parts, and_from}
use Rattle.std.proofs.lemmas.Bool.Decides.{nat_tests}
use Rattle.std.specs.Char.{is_ascii_digit, is_ascii_alphabetic}
use Rattle.std.specs.List.{list_all}
use Rattle.std.specs.Prelude.{bytes_eq, codes, unwrap_or}
use Rattle.std.specs.Str.{str_to_ascii_lowercase}
use Rattle.dot_text.specs.Tokens.{Token, Id, Digraph, Subgraph, Default, Strict, Open, Close, OpenList, CloseList, Semicolon, Comma, Equals, word_token}
use Rattle.dot_text.specs.Lexical.{is_blank, begins_name, is_by_numeral, mark_token}
use Rattle.dot_text.specs.Scanner.{begins_number}

pub differ : {A : Type 0} (x : Bool) → x ≡ true → x ≡ false → A
differ x e f = absurd (both_ways x f e)

pub is_at : (P : ℕ → Type 0) (b n : ℕ) → P n → (b == n) ≡ true → P b
is_at P b n p e = subst P (sym (eqb-true b n e)) p

-- each blank
pub blanks : (P : ℕ → Type 0) → P 32 → P 9 → P 13 → P 10 → (b : ℕ) → is_blank b ≡ true → P b
blanks P p q r s b e =
    elim (or_cases (b == 32 || b == 9 || b == 13) (b == 10) e) [
      | inl e ↦ elim (or_cases (b == 32 || b == 9) (b == 13) e) [
        | inl e ↦ elim (or_cases (b == 32) (b == 9) e) [
          | inl e ↦ is_at P b 32 p e
          | inr e ↦ is_at P b 9 q e
        ]
        | inr e ↦ is_at P b 13 r e
      ]
      | inr e ↦ is_at P b 10 s e
    ]

mark_is : (R : ℕ → Token → Type 0) (b n : ℕ) (u t : Token) → R n u → (b == n) ≡ true → Some u ≡ Some t → R b t
mark_is R b n u t r h e = let same : u ≡ t = cc in subst (R b) same (is_at (λ z. R z u) b n r h)

-- each mark, with its token
pub marks : (R : ℕ → Token → Type 0) → R 123 Open → R 125 Close → R 91 OpenList → R 93 CloseList → R 59 Semicolon → R 44 Comma → R 61 Equals
    → (b : ℕ) (t : Token) → mark_token b ≡ Some t → R b t
marks R p q r s u v w b t =
    let P : Option Token → Type 0 = λ o. o ≡ Some t → R b t in
    cond_both (b == 123) _ _ P (λ h e. mark_is R b 123 Open t p h e) (λ n.
    cond_both (b == 125) _ _ P (λ h e. mark_is R b 125 Close t q h e) (λ n.
    cond_both (b == 91) _ _ P (λ h e. mark_is R b 91 OpenList t r h e) (λ n.
    cond_both (b == 93) _ _ P (λ h e. mark_is R b 93 CloseList t s h e) (λ n.
    cond_both (b == 59) _ _ P (λ h e. mark_is R b 59 Semicolon t u h e) (λ n.
    cond_both (b == 44) _ _ P (λ h e. mark_is R b 44 Comma t v h e) (λ n.
    cond_both (b == 61) _ _ P (λ h e. mark_is R b 61 Equals t w h e) (λ n e. let z : None ≡ Some t = e in cc)))))))

-- each keyword, and any other word
pub words : (P : Token → Type 0) (w : List ℕ) → P Digraph → P Subgraph → P Default → P Strict → P (Id w) → P (word_token w)
words P w digraph subgraph default strict id =
    let Q : Option Token → Type 0 = λ o. P (unwrap_or o (Id w)) in
    cond_both (bytes_eq (str_to_ascii_lowercase w) (codes "digraph")) _ _ Q (λ e. digraph) (λ n.
    cond_both (bytes_eq (str_to_ascii_lowercase w) (codes "subgraph")) _ _ Q (λ e. subgraph) (λ n.
    cond_both (bytes_eq (str_to_ascii_lowercase w) (codes "graph")) _ _ Q (λ e. default) (λ n.
    cond_both (bytes_eq (str_to_ascii_lowercase w) (codes "node")) _ _ Q (λ e. default) (λ n.
    cond_both (bytes_eq (str_to_ascii_lowercase w) (codes "edge")) _ _ Q (λ e. default) (λ n.
    cond_both (bytes_eq (str_to_ascii_lowercase w) (codes "strict")) _ _ Q (λ e. strict) (λ n. id))))))

-- no name and no arrow begins as a number does
pub number_no_name : (b : ℕ) → begins_number b ≡ true → begins_name b ≡ false
number_no_name b e = grind (arith, nat_tests)

pub number_no_arrow : (b : ℕ) → begins_number b ≡ true → (b == 62) ≡ false
number_no_arrow b e = grind (arith, nat_tests)

-- a digit may stand in a numeral
pub digit_by : (b : ℕ) → is_ascii_digit b ≡ true → is_by_numeral b ≡ true
digit_by b e =
    or_left (is_ascii_digit b || is_ascii_alphabetic b || b == 95) (b == 46) (or_left (is_ascii_digit b || is_ascii_alphabetic b) (b == 95) (or_left (is_ascii_digit b) (is_ascii_alphabetic b) e))

pub digits_by : (w : List ℕ) → list_all is_ascii_digit w ≡ true → list_all is_by_numeral w ≡ true
digits_by [] e = refl
digits_by (b ∷ w) e =
    let two = and_parts (is_ascii_digit b) (list_all is_ascii_digit w) e in
    and_from (is_by_numeral b) (list_all is_by_numeral w) (digit_by b two.0) (digits_by w two.1)
