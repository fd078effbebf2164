-- When names differ: those of the Entry and the Exit from those of the listed nodes, and names with a prefix from each other.
use Rattle.std.proofs.Common.{◌≡◌, ◌≢◌, inl, inr, ℕ, suc, Bool, true, not, ◌&&◌, bytes_eq, true≢false, ◌==◌, if◌then◌else◌, length, slice_index, refl, sym, ap, subst, ◌∙◌, List, [], ◌∷◌, ◌++◌, map, arith, length-append, append_assoc}
use Rattle.std.specs.List.{AllByRecursion}
use Rattle.std.proofs.lemmas.Bool.{and_parts}
use Rattle.std.proofs.lemmas.Bool.Decides.{eqb_tells}
use Rattle.std.proofs.lemmas.List.{append_cancel_left}
use Rattle.std.proofs.Math.Seq.{get_or-append_seam}
use Rattle.components.specs.Name.{Name}
use Rattle.components.specs.Orders.{same_bytes}
use Rattle.circuits.specs.Replacing.{NoneTwice}
use Rattle.subst_engine.specs.Prefix.{prefix_text}
use Rattle.drawn_rules.specs.EndNames.{other_letter, letters_from, entry_name, exit_name}

letter_differs : (v : ℕ) → (if v == 97 then 98 else 97) ≢ v
letter_differs v e =
    elim (eqb_tells v 97) [
      | inl one ↦ let same : 98 ≡ v = ap (λ (b : Bool). if b then 98 else 97) (sym one.0) ∙ e in let is = one.1 in absurd (omega (arith, same, is))
      | inr two ↦ two.1 (sym (ap (λ (b : Bool). if b then 98 else 97) (sym two.0) ∙ e))
    ]

-- a text whose letters from this place on are those of the names is none of them
pub apart_from : (front : List ℕ) (place : ℕ) (names : List Name) → length front ≡ place → AllByRecursion (λ n. front ++ letters_from place names ≢ n) names
apart_from front place [] e = tt
apart_from front place (name ∷ names) e =
    let letter : ℕ = other_letter name place in
    let longer : length (front ++ letter ∷ []) ≡ suc place = length-append front (letter ∷ []) ∙ omega (arith, e) in
    let moved : (front ++ letter ∷ []) ++ letters_from (suc place) names ≡ front ++ letter ∷ letters_from (suc place) names = append_assoc front (letter ∷ []) (letters_from (suc place) names) in (
      (λ is.
          let here : slice_index (front ++ letter ∷ letters_from (suc place) names) place ≡ letter =
          ap (slice_index (front ++ letter ∷ letters_from (suc place) names)) (sym e) ∙ get_or-append_seam front letter (letters_from (suc place) names) 0 in
          letter_differs (slice_index name place) (sym here ∙ ap (λ z. slice_index z place) is)),
      subst (λ z. AllByRecursion (λ n. z ≢ n) names) moved (apart_from (front ++ letter ∷ []) (suc place) names longer),
    )

pub entry_apart : (names : List Name) → AllByRecursion (λ n. entry_name names ≢ n) names
entry_apart names = apart_from (101 ∷ []) 1 names refl

pub exit_apart : (names : List Name) → AllByRecursion (λ n. exit_name names ≢ n) names
exit_apart names = apart_from (120 ∷ []) 1 names refl

pub ends_apart : (names : List Name) → entry_name names ≢ exit_name names
ends_apart names e = let first : 101 ≡ 120 = ap (λ z. slice_index z 0) e in absurd (omega (arith, first))

-- One name more

pub with_last : (names : List Name) (last : Name) → NoneTwice names → AllByRecursion (λ n. last ≢ n) names → NoneTwice (names ++ last ∷ [])
with_last [] last once apart = (tt, tt)
with_last (n ∷ names) last once apart = (behind n names once.0 (λ e. apart.0 (sym e)), with_last names last once.1 apart.1)
  where
    behind : (m : Name) (rest : List Name) → AllByRecursion (λ k. m ≢ k) rest → m ≢ last → AllByRecursion (λ k. m ≢ k) (rest ++ last ∷ [])
    behind m [] h ne = (ne, tt)
    behind m (k ∷ rest) h ne = (h.0, behind m rest h.1 ne)

pub apart_more : (n last : Name) (names : List Name) → AllByRecursion (λ m. n ≢ m) names → n ≢ last → AllByRecursion (λ m. n ≢ m) (names ++ last ∷ [])
apart_more n last [] h ne = (ne, tt)
apart_more n last (m ∷ names) h ne = (h.0, apart_more n last names h.1 ne)

-- no text stands twice, by a test
abbrev pub none_is : List ℕ → List (List ℕ) → Bool
none_is text [] = true
none_is text (other ∷ others) = not (bytes_eq text other) && none_is text others

abbrev pub once_test : List (List ℕ) → Bool
once_test [] = true
once_test (text ∷ texts) = none_is text texts && once_test texts

other_text : (text other : List ℕ) → not (bytes_eq text other) ≡ true → text ≢ other
other_text text other test is = true≢false (sym test ∙ ap not (same_bytes text other is))

none_from : (text : List ℕ) (others : List (List ℕ)) → none_is text others ≡ true → AllByRecursion (λ m. text ≢ m) others
none_from text [] test = tt
none_from text (other ∷ others) test =
    let parts = and_parts (not (bytes_eq text other)) (none_is text others) test in (other_text text other parts.0, none_from text others parts.1)

pub once_from : (texts : List (List ℕ)) → once_test texts ≡ true → NoneTwice texts
once_from [] test = tt
once_from (text ∷ texts) test =
    let parts = and_parts (none_is text texts) (once_test texts) test in (none_from text texts parts.0, once_from texts parts.1)

-- New names: a prefix and different words

module _ (prefix : ℕ) where
  abbrev pub with_prefix : List ℕ → Name
  with_prefix word = prefix_text prefix ++ word

  word_apart : (word other : List ℕ) → (word ≡ other → ⊥) → with_prefix word ≢ with_prefix other
  word_apart word other ne e = ne (append_cancel_left (prefix_text prefix) word other e)

  pub words_apart : (words : List Name) → NoneTwice words → NoneTwice (map with_prefix words)
  words_apart [] h = tt
  words_apart (w ∷ words) h = (each w words h.0, words_apart words h.1)
    where
      each : (w : Name) (rest : List Name) → AllByRecursion (λ m. w ≢ m) rest → AllByRecursion (λ m. with_prefix w ≢ m) (map with_prefix rest)
      each w [] h = tt
      each w (v ∷ rest) h = (word_apart w v h.0, each w rest h.1)

  module _ (names : List Name) where
    pub entry_new : (words : List Name) → AllByRecursion (λ m. entry_name names ≢ m) (map with_prefix words)
    entry_new [] = tt
    entry_new (w ∷ words) = ((λ e. let first : 101 ≡ 111 = ap (λ z. slice_index z 0) e in absurd (omega (arith, first))), entry_new words)

    pub exit_new : (words : List Name) → AllByRecursion (λ m. exit_name names ≢ m) (map with_prefix words)
    exit_new [] = tt
    exit_new (w ∷ words) = ((λ e. let first : 120 ≡ 111 = ap (λ z. slice_index z 0) e in absurd (omega (arith, first))), exit_new words)
