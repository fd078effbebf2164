-- The words of the command line.
use Rattle.std.proofs.Common.{◌≡◌, ℕ, ◌+◌, ◌≤◌, List, [], ◌∷◌, length, get_or, None, refl, sym, ap, ◌∙◌, arith, Bool, true, false, cond}
use Rattle.std.specs.Str.{bytes_eq}
use Rattle.std.specs.Prelude.{codes}
use Rattle.std.proofs.lemmas.Slice.Eq.{bytes_eq-Decides}
use Rattle.commands.specs.Words.{one_word, named, without_dashes, command_of}

named_many : (words : List (List ℕ)) → 3 ≤ length words → named words ≡ None
named_many [] many = absurd (omega arith)
named_many (x ∷ []) many = absurd (omega arith)
named_many (x ∷ y ∷ []) many = absurd (omega arith)
named_many (x ∷ y ∷ z ∷ xs) many = refl

length_without : (words : List (List ℕ)) → length words ≤ length (without_dashes words) + 1
length_without [] = omega arith
length_without (word ∷ words) =
    let rest = length_without words in
    elim (bytes_eq word (codes "--")) as (λ b. length (word ∷ words) ≤ length (cond b words (word ∷ without_dashes words)) + 1) [ true ↦ omega arith | false ↦ omega arith ]

-- there are at most two words and `--`
pub too_many_words : (words : List (List ℕ)) → 4 ≤ length words → command_of words ≡ None
too_many_words words many = let enough = length_without words in named_many (without_dashes words) (omega arith)

-- lists of one, of two and of three
pub one_item : {X : Type 0} (xs : List X) (x : X) → length xs ≡ 1 → x ≡ get_or xs 0 x → xs ≡ x ∷ []
one_item [] x e is = absurd (omega arith)
one_item (y ∷ []) x e is = ap (λ z. z ∷ []) (sym is)
one_item (y ∷ z ∷ xs) x e is = absurd (omega arith)

pub two_items : {X : Type 0} (xs : List X) (x y : X) → length xs ≡ 2 → x ≡ get_or xs 0 x → y ≡ get_or xs 1 y → xs ≡ x ∷ y ∷ []
two_items [] x y len first second = absurd (omega arith)
two_items (a ∷ []) x y len first second = absurd (omega arith)
two_items (a ∷ b ∷ []) x y len first second = cc
two_items (a ∷ b ∷ c ∷ xs) x y len first second = absurd (omega arith)

pub three_items : {X : Type 0} (xs : List X) (x y z : X) → length xs ≡ 3 → x ≡ get_or xs 0 x → y ≡ get_or xs 1 y → z ≡ get_or xs 2 z → xs ≡ x ∷ y ∷ z ∷ []
three_items [] x y z len first second third = absurd (omega arith)
three_items (a ∷ []) x y z len first second third = absurd (omega arith)
three_items (a ∷ b ∷ []) x y z len first second third = absurd (omega arith)
three_items (a ∷ b ∷ c ∷ []) x y z len first second third = cc
three_items (a ∷ b ∷ c ∷ d ∷ xs) x y z len first second third = absurd (omega arith)

no_command_of_dashes : None ≡ one_word (codes "--")
unfolding one_word
no_command_of_dashes = refl

-- `--` alone is no command
dashes_alone : (word : List ℕ) (b : Bool) → bytes_eq word (codes "--") ≡ b → named (cond b [] (word ∷ [])) ≡ one_word word
dashes_alone word false e = refl
dashes_alone word true e = no_command_of_dashes ∙ ap one_word (sym ((bytes_eq-Decides word (codes "--")).0 e))

pub command_of_one : (word : List ℕ) → command_of (word ∷ []) ≡ one_word word
command_of_one word = dashes_alone word (bytes_eq word (codes "--")) refl
