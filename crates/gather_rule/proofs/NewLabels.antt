-- The names of the new graph differ and are allowed.
use Rattle.std.proofs.Common.{◌≡◌, ◌≢◌, ℕ, ◌≤◌, Bool, true, false, ◌||◌, ◌==◌, length, slice_index, refl, sym, ap, ◌∙◌, List, [], ◌∷◌, ◌++◌, map, arith, true≢false}
use Rattle.std.specs.List.{AllByRecursion, list_all}
use Rattle.std.specs.Fmt.{decimal}
use Rattle.std.proofs.lemmas.List.{append_cancel_left}
use Rattle.components.specs.Name.{Name, IsName}
use Rattle.circuits.specs.Replacing.{NoneTwice}
use Rattle.body_laws.specs.Bodies.{Body}
use Rattle.body_laws.specs.BodyPlans.{Way, next, condition, other, Gathered, entry, pure, pair, vals, fork, way}
use Rattle.subst_engine.specs.Making.{AllDiffer}
use Rattle.subst_engine.specs.Prefix.{prefix_text}
use Rattle.drawn_rules.specs.Labels.{Label, listed, ending, fresh, end_name, label_name, AreFree}
use Rattle.drawn_rules.proofs.NewNames.{is_word_byte, prefixed_name}
use Rattle.drawn_rules.proofs.Labels as labels
use Rattle.drawn_rules.proofs.Labels.{is_end_letter, behind_prefix}
use Rattle.drawn_rules.proofs.Places.{before_less, rises_differ, rises_mapped, counts_rise}
use Rattle.gather_rule.specs.GatherGraphs.{gathered_list}
use Rattle.gather_rule.specs.Gather.{way_label, new_label, new_name}
use Rattle.gather_rule.proofs.GatherNodes.{new_rank, new_place, new_total, new_counted}

-- the letters of the Entry and the Exits: no word of a new node begins with one
abbrev is_letter : ℕ → Bool
is_letter c = (c == 101) || ((c == 120) || (c == 121))

abbrev FitsNew : Label → Type 0
FitsNew (listed place) = ⊥
FitsNew (ending letter number) = (is_letter letter ≡ true) × (is_end_letter letter ≡ true) × (number ≤ 64)
FitsNew (fresh word) = (is_letter (slice_index word 0) ≡ false) × (list_all is_word_byte word ≡ true) × (length word ≤ 200)

module _ (b : Body) (few : length b.next ≤ 63) (same : length b.others ≡ length b.next) where
  way_fits : (w : Way b) → FitsNew (way_label b w)
  way_fits (next p) = let less = before_less b.next p in (refl, refl, omega (arith, less, few))
  way_fits condition = (refl, refl, omega arith)
  way_fits (other p) = let less = before_less b.others p in (refl, refl, omega (arith, less, few, same))

  new_fits : (n : Gathered b) → FitsNew (new_label b n)
  new_fits entry = (refl, refl, omega arith)
  new_fits pure = (refl, refl, omega arith)
  new_fits pair = (refl, refl, omega arith)
  new_fits vals = (refl, refl, omega arith)
  new_fits fork = (refl, refl, omega arith)
  new_fits (way w) = way_fits w

  module _ (prefix ends : ℕ) (names : List Name) (free : AreFree prefix ends names) where
    abbrev text : Label → Name
    text = label_name prefix ends names

    no_new : (letter number : ℕ) (word : List ℕ) → is_letter letter ≡ true → is_letter (slice_index word 0) ≡ false → end_name ends letter number ≢ prefix_text prefix ++ word
    no_new letter number word is away e =
        let told : letter ∷ decimal number ≡ word = behind_prefix ends prefix (letter ∷ decimal number) word free.end_number free.new_number e in
        true≢false (sym is ∙ ap (λ z. is_letter (slice_index z 0)) told ∙ away)

    one_label : (a c : Label) → FitsNew a → FitsNew c → text a ≡ text c → a ≡ c
    one_label (listed i) c h l e = absurd h
    one_label (ending letter number) (listed i) h l e = absurd l
    one_label (ending letter number) (ending more count) h l e = labels.one_label prefix ends names free true (ending letter number) (ending more count) (h.1, h.2) (l.1, l.2) e
    one_label (ending letter number) (fresh word) h l e = absurd (no_new letter number word h.0 l.0 e)
    one_label (fresh word) (listed i) h l e = absurd l
    one_label (fresh word) (ending letter number) h l e = absurd (no_new letter number word l.0 h.0 (sym e))
    one_label (fresh word) (fresh more) h l e = ap fresh (append_cancel_left (prefix_text prefix) word more e)

    name_allowed : (a : Label) → FitsNew a → IsName (text a)
    name_allowed (listed i) h = absurd h
    name_allowed (ending letter number) h = labels.allowed prefix ends names free true (ending letter number) (h.1, h.2)
    name_allowed (fresh word) h = prefixed_name prefix free.new_number word h.1 h.2

    pub allowed : (n : Gathered b) → IsName (new_name prefix ends names b n)
    allowed n = name_allowed (new_label b n) (new_fits n)

    apart : (n : Gathered b) (ns : List (Gathered b)) → AllByRecursion (λ z. new_label b n ≢ z) (map (new_label b) ns) → AllByRecursion (λ z. new_name prefix ends names b n ≢ z) (map (new_name prefix ends names b) ns)
    apart n [] h = tt
    apart n (m ∷ ns) h = ((λ e. h.0 (one_label (new_label b n) (new_label b m) (new_fits n) (new_fits m) e)), apart n ns h.1)

    each_apart : (ns : List (Gathered b)) → AllDiffer (map (new_label b) ns) → NoneTwice (map (new_name prefix ends names b) ns)
    each_apart [] h = tt
    each_apart (n ∷ ns) h = (apart n ns h.0, each_apart ns h.1)

    pub once : NoneTwice (map (new_name prefix ends names b) (gathered_list b))
    once =
        each_apart (gathered_list b)
        (rises_differ (new_rank (length b.next)) 0 (new_total b) (map (new_label b) (gathered_list b))
        (rises_mapped (new_label b) (new_rank (length b.next)) 0 (new_total b) (gathered_list b) (counts_rise (new_place b) 0 (new_total b) (gathered_list b) (new_counted b))))
