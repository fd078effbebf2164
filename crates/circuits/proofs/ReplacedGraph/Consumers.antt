-- In a typed graph an output feeds the input that it is found to feed.
use Rattle.std.proofs.Common.{◌≡◌, ◌≢◌, ◌↔◌, inl, inr, sym, ap, ◌∙◌, T, cond, map, List, [], ◌∷◌, Some}
use Rattle.std.specs.FinMap as finite
use Rattle.std.specs.FinMap.Entries.{is_sorted}
use Rattle.std.proofs.lemmas.Option.{none-some, same_Some}
use Rattle.components.specs.Name.{Port, port_cmp}
use Rattle.components.specs.NamedGraph.{NamedGraph, IsTyped}
use Rattle.components.specs.Entries.{second, find_first, found_behind}
use Rattle.components.specs.Lookups.{same_test, other_test}
use Rattle.components.specs.Orders.{port_total, port_same, port_cases}
use Rattle.circuits.specs.ReplacedGraph.{consumer}

abbrev Wires : Type 0
Wires = List (Port × Port)

abbrev turned : Wires → Wires
turned es = map (λ wire. (wire.1, wire.0)) es

-- no output feeds two inputs
abbrev FeedsOnce : Wires → Type 0
FeedsOnce es = (p r q : Port) → finite.find port_cmp p es ≡ Some q → finite.find port_cmp r es ≡ Some q → p ≡ r

-- the first of some entries, by whether its key is the one that is looked for
find_same : {X : Type 0} (q : Port) (e : Port × X) (es : List (Port × X)) → q ≡ e.0 → finite.find port_cmp q (e ∷ es) ≡ Some e.1
find_same q e es is = ap (λ b. cond b (Some e.1) (finite.find port_cmp q es)) (same_test port_total port_same q e.0 is)

find_later : {X : Type 0} (q : Port) (e : Port × X) (es : List (Port × X)) → q ≢ e.0 → finite.find port_cmp q (e ∷ es) ≡ finite.find port_cmp q es
find_later q e es other = ap (λ b. cond b (Some e.1) (finite.find port_cmp q es)) (other_test port_total port_same q e.0 other)

module _ (e : Port × Port) (es : Wires) (sorted : T (is_sorted port_cmp (e ∷ es))) (once : FeedsOnce (e ∷ es)) where
  once_behind : FeedsOnce es
  once_behind p r q f g = once p r q (found_behind port_total port_same e es sorted p q f) (found_behind port_total port_same e es sorted r q g)

  -- what is found at an input is found to feed it
  found_turned : (p q : Port) → (finite.find port_cmp p es ≡ Some q → finite.find port_cmp q (turned es) ≡ Some p) → finite.find port_cmp p (e ∷ es) ≡ Some q → finite.find port_cmp q (turned (e ∷ es)) ≡ Some p
  found_turned p q later found =
      elim (port_cases q e.1) [
        | inl is ↦ find_same q (e.1, e.0) (turned es) is ∙ ap Some (once e.0 p q (find_first port_cmp port_total e es ∙ ap Some (sym is)) found)
        | inr other ↦
            let behind : p ≢ e.0 = λ same. other (sym (same_Some e.1 q (sym (find_same p e es same) ∙ found))) in
            find_later q (e.1, e.0) (turned es) other ∙ later (sym (find_later p e es behind) ∙ found)
      ]

  turned_found : (p q : Port) → (finite.find port_cmp q (turned es) ≡ Some p → finite.find port_cmp p es ≡ Some q) → finite.find port_cmp q (turned (e ∷ es)) ≡ Some p → finite.find port_cmp p (e ∷ es) ≡ Some q
  turned_found p q later found =
      elim (port_cases q e.1) [
        | inl is ↦ find_same p e es (sym (same_Some e.0 p (sym (find_same q (e.1, e.0) (turned es) is) ∙ found))) ∙ ap Some (sym is)
        | inr other ↦ found_behind port_total port_same e es sorted p q (later (sym (find_later q (e.1, e.0) (turned es) other) ∙ found))
      ]

both_ways : (es : Wires) → T (is_sorted port_cmp es) → FeedsOnce es → (p q : Port) → (finite.find port_cmp p es ≡ Some q) ↔ (finite.find port_cmp q (turned es) ≡ Some p)
both_ways [] sorted once p q = ((λ f. absurd (none-some q f)), (λ f. absurd (none-some p f)))
both_ways (e ∷ es) sorted once p q =
    let later = both_ways es (second _ _ sorted) (once_behind e es sorted once) p q in
    (found_turned e es sorted once p q later.0, turned_found e es sorted once p q later.1)

pub found_consumer : (g : NamedGraph) → ((p r q : Port) → finite.get g.feeders p ≡ Some q → finite.get g.feeders r ≡ Some q → p ≡ r) → (p q : Port) → (finite.get g.feeders p ≡ Some q) ↔ (consumer g q ≡ Some p)
found_consumer g once p q =
    let both = both_ways (finite.entries g.feeders) (finite.entries_sorted g.feeders) (λ a b c f h. once a b c (finite.get-entries g.feeders a ∙ f) (finite.get-entries g.feeders b ∙ h)) p q in
    ((λ f. both.0 (sym (finite.get-entries g.feeders p) ∙ f)), (λ f. finite.get-entries g.feeders p ∙ both.1 f))

pub fed_is_consumer : (g : NamedGraph) → IsTyped g → (p q : Port) → (finite.get g.feeders p ≡ Some q) ↔ (consumer g q ≡ Some p)
fed_is_consumer g ty = found_consumer g ty.once
