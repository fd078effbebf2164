-- Different labels are different names, and each is allowed.
use Rattle.std.proofs.Common.{◌≡◌, ◌≢◌, ℕ, zero, suc, ◌<◌, ◌≤◌, ◌^◌, Bool, true, false, ◌||◌, ◌==◌, length, slice_index, refl, sym, ap, subst, ◌∙◌, List, [], ◌∷◌, ◌++◌, map, arith, append_assoc, true≢false}
use Rattle.std.specs.List.{AllByRecursion, list_all}
use Rattle.std.specs.Char.{digit_value}
use Rattle.std.specs.Fmt.{decimal}
use Rattle.std.specs.Str.Parse.{AllDigits}
use Rattle.std.proofs.lemmas.Bool.{and_from}
use Rattle.std.proofs.lemmas.Fmt.{decimal_is_IsNumeral, decimal_injective, length-decimal-le}
use Rattle.std.proofs.lemmas.List.{append_cancel_left, take_at, drop_at}
use Rattle.std.proofs.lemmas.Slice.Eq.{bytes_eq-Decides}
use Rattle.port_types.specs.PortGrammar.{text_behind}
use Rattle.components.specs.Name.{Name, IsName}
use Rattle.circuits.specs.Replacing.{NoneTwice}
use Rattle.subst_engine.specs.Making.{AllDiffer}
use Rattle.subst_engine.specs.Prefix.{prefix_text, BeginsWith}
use Rattle.drawn_rules.specs.Labels.{nth, Label, listed, ending, fresh, end_name, label_name}
pub use Rattle.drawn_rules.specs.Labels.{AreFree}
use Rattle.drawn_rules.proofs.NewNames.{is_word_byte, decimal_pass, prefixed_name}

-- Names with two prefixes

begins : (front rest : List ℕ) → BeginsWith front (front ++ rest)
unfolding text_behind
begins front rest = rw (take_at front rest (length front) refl, drop_at front rest (length front) refl, (bytes_eq-Decides front front).1 refl) refl

no_bar : (c : ℕ) (digits : List ℕ) → AllDigits 10 (c ∷ digits) → c ≢ 95
no_bar c digits all is = let small : digit_value 95 < 10 = subst (λ b. digit_value b < 10) is all.0 in absurd (omega arith)

first_same : (a b : ℕ) (x y : List ℕ) → a ∷ x ≡ b ∷ y → (a ≡ b) × (x ≡ y)
first_same a b x y e = (let k : a ≡ b = cc in k, let k : x ≡ y = cc in k)

behind_bar : (a b x y : List ℕ) → AllDigits 10 a → AllDigits 10 b → a ++ 95 ∷ x ≡ b ++ 95 ∷ y → x ≡ y
behind_bar [] [] x y h k e = (first_same 95 95 x y e).1
behind_bar [] (c ∷ b) x y h k e = absurd (no_bar c b k (sym (first_same 95 c x (b ++ 95 ∷ y) e).0))
behind_bar (c ∷ a) [] x y h k e = absurd (no_bar c a h (first_same c 95 (a ++ 95 ∷ x) y e).0)
behind_bar (c ∷ a) (d ∷ b) x y h k e = behind_bar a b x y h.1 k.1 (first_same c d (a ++ 95 ∷ x) (b ++ 95 ∷ y) e).1

-- what stands behind a prefix is told by the name
pub behind_prefix : (a b : ℕ) (x y : List ℕ) → a < 2 ^ 64 → b < 2 ^ 64 → prefix_text a ++ x ≡ prefix_text b ++ y → x ≡ y
behind_prefix a b x y small_a small_b e =
    let cut : (decimal a ++ (95 ∷ [])) ++ x ≡ (decimal b ++ (95 ∷ [])) ++ y = append_cancel_left (111 ∷ 111 ∷ 111 ∷ 95 ∷ []) ((decimal a ++ (95 ∷ [])) ++ x) ((decimal b ++ (95 ∷ [])) ++ y) e in
    behind_bar (decimal a) (decimal b) x y (decimal_is_IsNumeral a small_a).0.1 (decimal_is_IsNumeral b small_b).0.1
    (sym (append_assoc (decimal a) (95 ∷ []) x) ∙ cut ∙ append_assoc (decimal b) (95 ∷ []) y)

-- Labels that may stand in one graph: of the old one, or of the new one

-- the letters of Entries and Exits: e, p, q; x, y, z
abbrev pub is_end_letter : ℕ → Bool
is_end_letter c = (c == 101) || ((c == 112) || ((c == 113) || ((c == 120) || ((c == 121) || (c == 122)))))

abbrev pub Fits : Bool → List Name → Label → Type 0
Fits true names (listed place) = place < length names
Fits false names (listed place) = ⊥
Fits old names (ending letter number) = (is_end_letter letter ≡ true) × (number ≤ 64)
Fits true names (fresh word) = ⊥
Fits false names (fresh word) = (is_end_letter (slice_index word 0) ≡ false) × (list_all is_word_byte word ≡ true) × (length word ≤ 200)

pub all_nth : (P : Name → Type 0) (names : List Name) (place : ℕ) → place < length names → AllByRecursion P names → P (nth names place)
all_nth P [] place within h = absurd (omega (arith, within))
all_nth P (n ∷ names) zero within h = h.0
all_nth P (n ∷ names) (suc place) within h = all_nth P names place (omega (arith, within)) h.1

nth_one : (names : List Name) → NoneTwice names → (i j : ℕ) → i < length names → j < length names → nth names i ≡ nth names j → i ≡ j
nth_one [] once i j a b e = absurd (omega (arith, a))
nth_one (n ∷ names) once zero zero a b e = refl
nth_one (n ∷ names) once zero (suc j) a b e = absurd (all_nth (λ m. n ≢ m) names j (omega (arith, b)) once.0 e)
nth_one (n ∷ names) once (suc i) zero a b e = absurd (all_nth (λ m. n ≢ m) names i (omega (arith, a)) once.0 (sym e))
nth_one (n ∷ names) once (suc i) (suc j) a b e = ap suc (nth_one names once.1 i j (omega (arith, a)) (omega (arith, b)) e)

letter_passes : (c : ℕ) → is_end_letter c ≡ true → is_word_byte c ≡ true
letter_passes c e = grind arith

module _ (prefix ends : ℕ) (names : List Name) (free : AreFree prefix ends names) where
  abbrev text : Label → Name
  text = label_name prefix ends names

  no_end : (place : ℕ) (rest : List ℕ) → place < length names → nth names place ≢ prefix_text ends ++ rest
  no_end place rest within e = all_nth (λ name. ¬ (BeginsWith (prefix_text ends) name)) names place within free.away (subst (BeginsWith (prefix_text ends)) (sym e) (begins (prefix_text ends) rest))

  no_new : (letter number : ℕ) (word : List ℕ) → is_end_letter letter ≡ true → is_end_letter (slice_index word 0) ≡ false → end_name ends letter number ≢ prefix_text prefix ++ word
  no_new letter number word is other e =
      let same : letter ∷ decimal number ≡ word = behind_prefix ends prefix (letter ∷ decimal number) word free.end_number free.new_number e in
      true≢false (sym is ∙ ap (λ z. is_end_letter (slice_index z 0)) same ∙ other)

  one_end : (letter other number more : ℕ) → number ≤ 64 → more ≤ 64 → end_name ends letter number ≡ end_name ends other more → ending letter number ≡ ending other more
  one_end letter other number more few lot e =
      let same = first_same letter other (decimal number) (decimal more) (append_cancel_left (prefix_text ends) (letter ∷ decimal number) (other ∷ decimal more) e) in
      let count : number ≡ more = decimal_injective number more (omega (arith, few)) (omega (arith, lot)) same.1 in
      λ i. ending (same.0 i) (count i)

  pub one_label : (old : Bool) (a b : Label) → Fits old names a → Fits old names b → text a ≡ text b → a ≡ b
  one_label true (listed i) (listed j) h k e = ap listed (nth_one names free.differ i j h k e)
  one_label true (listed i) (ending letter number) h k e = absurd (no_end i (letter ∷ decimal number) h e)
  one_label true (ending letter number) (listed i) h k e = absurd (no_end i (letter ∷ decimal number) k (sym e))
  one_label true (ending letter number) (ending other more) h k e = one_end letter other number more h.1 k.1 e
  one_label true (listed i) (fresh word) h k e = absurd k
  one_label true (ending letter number) (fresh word) h k e = absurd k
  one_label true (fresh word) b h k e = absurd h
  one_label false (listed i) b h k e = absurd h
  one_label false (ending letter number) (listed i) h k e = absurd k
  one_label false (ending letter number) (ending other more) h k e = one_end letter other number more h.1 k.1 e
  one_label false (ending letter number) (fresh word) h k e = absurd (no_new letter number word h.0 k.0 e)
  one_label false (fresh word) (listed i) h k e = absurd k
  one_label false (fresh word) (ending letter number) h k e = absurd (no_new letter number word k.0 h.0 (sym e))
  one_label false (fresh word) (fresh other) h k e = ap fresh (append_cancel_left (prefix_text prefix) word other e)

  end_allowed : (letter number : ℕ) → is_end_letter letter ≡ true → number ≤ 64 → IsName (end_name ends letter number)
  end_allowed letter number is few =
      let small : number < 2 ^ 64 = omega (arith, few) in
      let short : length (decimal number) ≤ 20 = length-decimal-le 20 number (omega arith) (omega arith) small in
      prefixed_name ends free.end_number (letter ∷ decimal number)
      (and_from (is_word_byte letter) (list_all is_word_byte (decimal number)) (letter_passes letter is) (decimal_pass number small)) (omega (arith, short))

  pub allowed : (old : Bool) (a : Label) → Fits old names a → IsName (text a)
  allowed true (listed i) h = all_nth IsName names i h free.allowed
  allowed true (ending letter number) h = end_allowed letter number h.0 h.1
  allowed true (fresh word) h = absurd h
  allowed false (listed i) h = absurd h
  allowed false (ending letter number) h = end_allowed letter number h.0 h.1
  allowed false (fresh word) h = prefixed_name prefix free.new_number word h.1 h.2

  -- nodes with different labels have different names
  labels_apart : {N : Type 0} (label : N → Label) (old : Bool) → ((n : N) → Fits old names (label n)) → (n : N) (ns : List N) → AllByRecursion (λ z. label n ≢ z) (map label ns) → AllByRecursion (λ z. text (label n) ≢ z) (map (λ m. text (label m)) ns)
  labels_apart label old fits n [] h = tt
  labels_apart label old fits n (m ∷ ns) h = ((λ e. h.0 (one_label old (label n) (label m) (fits n) (fits m) e)), labels_apart label old fits n ns h.1)

  pub labels_once : {N : Type 0} (label : N → Label) (old : Bool) → ((n : N) → Fits old names (label n)) → (ns : List N) → AllDiffer (map label ns) → NoneTwice (map (λ m. text (label m)) ns)
  labels_once label old fits [] h = tt
  labels_once label old fits (n ∷ ns) h = (labels_apart label old fits n ns h.0, labels_once label old fits ns h.1)
