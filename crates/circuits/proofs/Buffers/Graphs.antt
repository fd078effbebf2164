-- The graph without a Buffer stands for the circuit without it.
use Rattle.std.proofs.Common.{◌≡◌, ◌≢◌, inl, inr, Bool, true, false, not, ◌||◌, refl, sym, ap, subst, ◌∙◌, cond, if◌then◌else◌, List, Option, Some, None}
use Rattle.std.specs.FinMap as map
use Rattle.std.proofs.lemmas.Option.{same_Some}
use Rattle.circuits.specs.Values.{ValuesFit}
use Rattle.components.specs.Name.{Name, Port}
use Rattle.components.specs.Kind.{ins}
use Rattle.components.specs.NamedGraph.{NamedGraph, IsTyped, is_of, without_node, with_wire}
use Rattle.components.specs.Lookups.{get_inserted, get_not_inserted, get_removed, get_not_removed, get_retained}
use Rattle.components.specs.Orders.{name_total, name_same, port_total, port_same, port_cases, same_bytes, other_bytes}
use Rattle.circuits.specs.PortTokens.{Token}
use Rattle.circuits.specs.Circuit.{Typed, circuit_of, kind_of_body}
use Rattle.circuits.specs.Refines.{Refines}
use Rattle.circuits.specs.Buffers.{first_port, bypass, drop_node, IsWithoutBuffer}
use Rattle.circuits.specs.Drains.{Drains}
use Rattle.circuits.proofs.Names.{name_cases}
use Rattle.circuits.proofs.Buffers.Steps.{CanDrop}
use Rattle.circuits.proofs.Buffers.Circuits.{in_is, out_is, can_drop_of, dropped, put}
use Rattle.circuits.proofs.Buffers.Drains.{drains_without}
use Rattle.circuits.proofs.Buffers.DrainsWith.{drains_with}
use Rattle.circuits.proofs.Renaming.{circuit_same}
use Rattle.circuits.proofs.GraphCircuits.{circuit_typed}

kept_none : (keeps : Bool) → cond {A = Option Port} keeps None None ≡ None
kept_none true = refl
kept_none false = refl

module _ (h g : NamedGraph) (b : Name) (ty : IsTyped g) (w : IsWithoutBuffer h g b) where
  abbrev keeps : Port → Bool
  keeps p = not (is_of b (Some p) || is_of b (map.get g.feeders p))

  typed : Typed (circuit_of g)
  typed = circuit_typed g ty

  can : CanDrop (circuit_of g) b
  can = can_drop_of (circuit_of g) b w.can

  -- the input that b fed is no input of b
  target_away : w.target.node ≢ b
  target_away is =
      let there : w.target ≡ first_port b = in_is (circuit_of g) b can typed w.target (first_port b) w.after is in
      w.can.other (ap (λ (x : Port). x.node) (same_Some w.can.before (first_port b) (sym w.can.is_before ∙ ap (map.get g.feeders) (sym there) ∙ w.after)))

  -- no other input is fed by b
  fed_by_b : (p q : Port) → p ≢ w.target → map.get g.feeders p ≡ Some q → q.node ≢ b
  fed_by_b p q apart e is =
      apart (typed.once p w.target (first_port b) (e ∙ ap Some (out_is (circuit_of g) b can typed p q e is)) w.after)

  others : (p : Port) (o : Option Port) → p ≢ w.target → p.node ≢ b → map.get g.feeders p ≡ o → cond (keeps p) o None ≡ bypass b (map.get g.feeders (first_port b)) o
  others p None apart away e = kept_none (keeps p)
  others p (Some q) apart away e =
      let no_one : q.node ≢ b = fed_by_b p q apart e in
      let kept : keeps p ≡ true = (λ i. not (other_bytes p.node b away i || is_of b (e i))) ∙ ap not (other_bytes q.node b no_one) in
      ap (λ x. cond x (Some q) None) kept ∙ sym (ap (λ x. if x then map.get g.feeders (first_port b) else Some q) (other_bytes q.node b no_one))

  feeder_at : (p : Port) → map.get (with_wire (without_node g b) w.can.before w.target).feeders p ≡ (drop_node b (circuit_of g)).feeder p
  feeder_at p =
      elim (port_cases p w.target) [
        | inl same ↦
            let away : p.node ≢ b = λ is. target_away (ap (λ (x : Port). x.node) (sym same) ∙ is) in
            let fed : map.get g.feeders p ≡ Some (first_port b) = ap (map.get g.feeders) same ∙ w.after in
            get_inserted port_total port_same (without_node g b).feeders w.target w.can.before p same
            ∙ rw (other_bytes p.node b away, fed, same_bytes b b refl) (sym w.can.is_before)
        | inr other ↦
            get_not_inserted port_total port_same (without_node g b).feeders w.target w.can.before p other
            ∙ get_retained port_total port_same g.feeders keeps p
            ∙ elim (name_cases p.node b) [
              | inl is ↦ rw (is.test)
              | inr away ↦
                  others p (map.get g.feeders p) other away.is_not refl
                  ∙ sym (ap (λ x. if x then None else bypass b (map.get g.feeders (first_port b)) (map.get g.feeders p)) away.test)
            ]
      ]

  kind_at : (n : Name) → kind_of_body (map.get (without_node g b).nodes n) ≡ (drop_node b (circuit_of g)).kind_at n
  kind_at n =
      elim (name_cases n b) [
        | inl is ↦ ap (λ m. kind_of_body (map.get (without_node g b).nodes m)) is.is ∙ ap kind_of_body (get_removed name_total name_same g.nodes b)
            ∙ sym (ap (λ x. if x then None else kind_of_body (map.get g.nodes n)) is.test)
        | inr other ↦ ap kind_of_body (get_not_removed name_total name_same g.nodes b n other.is_not)
            ∙ sym (ap (λ x. if x then None else kind_of_body (map.get g.nodes n)) other.test)
      ]

  pub without_circuit : circuit_of h ≡ drop_node b (circuit_of g)
  without_circuit =
      ap circuit_of w.is
      ∙ circuit_same _ _ kind_at feeder_at

  pub graph_drop_refines : ValuesFit → Refines (circuit_of h) (circuit_of g)
  graph_drop_refines values = subst (λ c. Refines c (circuit_of g)) (sym without_circuit) (dropped values (circuit_of g) b typed w.can)

  pub graph_put_refines : ValuesFit → Refines (circuit_of g) (circuit_of h)
  graph_put_refines values = subst (Refines (circuit_of g)) (sym without_circuit) (put values (circuit_of g) b typed w.can)

  pub graph_drains : (ins outs : Name → List Token) → Drains (circuit_of g) ins outs → Drains (circuit_of h) ins outs
  graph_drains ins outs d = subst (λ c. Drains c ins outs) (sym without_circuit) (drains_without (circuit_of g) b w.can typed ins outs d)

  pub graph_put_drains : (ins outs : Name → List Token) → Drains (circuit_of h) ins outs → Drains (circuit_of g) ins outs
  graph_put_drains ins outs d = drains_with (circuit_of g) b w.can typed ins outs (subst (λ c. Drains c ins outs) without_circuit d)
