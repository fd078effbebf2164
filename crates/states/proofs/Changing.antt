-- What a change of one queue, or of the slots of one node, changes by names.
use Rattle.std.proofs.Common.{◌≡◌, ◌≢◌, inl, inr, suc, ◌-◌, ◌<◌, ◌≤◌, List, [], length, Option, Some, None, is_some, refl, sym, ap, subst, ◌∙◌, arith, slice_set}
use Rattle.std.proofs.lemmas.List.{get_or-set_same, get_or-set_other, length-set}
use Rattle.std.proofs.lemmas.Option.{same_Some}
use Rattle.std.specs.FinMap as finite
use Rattle.components.specs.Name.{Name, Port}
use Rattle.components.specs.Kind.{ins}
use Rattle.components.specs.Orders.{name_cases}
use Rattle.components.specs.Numbered.{within}
use Rattle.circuits.specs.PortTokens.{Token, at_port}
use Rattle.port_types.specs.declared.side.Side.TheVariants.{Ins}
use Rattle.graph_core.specs.declared.place.NodeId.{NodeId}
use Rattle.graph_core.specs.Place.{index_of}
use Rattle.graph_core.specs.declared.place.PortAt.{PortAt}
use Rattle.graph_core.specs.Denoting.{denoted_by}
use Rattle.graph_core.specs.Ids.{id_cases}
use Rattle.graph_core.specs.Wiring.{HasPort}
use Rattle.graph_core.specs.GraphValue.{GraphValue, Denotes, IsGraph, port_of}
use Rattle.states.specs.Place.{PlaceValue, no_place}
use Rattle.states.specs.GraphState.{Places, HasPlaces, IsInputAt, id_named, place_at, place_by, place_of, queue_of, state_of, with_queue}
use Rattle.states.proofs.Named.{named_denotes, place_denoted}
use Rattle.states.proofs.Queues.{number_of, port_other, port_queue}

module _ (g : GraphValue) (is : IsGraph g) (s : Places) (id : NodeId) (n : Name) (denotes : Denotes g id n) (place : PlaceValue) where
  -- what stands at other nodes stays
  pub place_other : (m : Name) → m ≢ n → place_of g (slice_set s (index_of id) place) m ≡ place_of g s m
  place_other m other = at (id_named g m) refl
    where
      at : (o : Option NodeId) → id_named g m ≡ o → place_by (slice_set s (index_of id) place) (id_named g m) ≡ place_by s (id_named g m)
      at None none = ap (place_by (slice_set s (index_of id) place)) none ∙ sym (ap (place_by s) none)
      at (Some j) some =
          let apart : index_of j ≢ index_of id = λ same.
          other (same_Some m n (sym (named_denotes g m j some) ∙ ap (finite.get g.ids) (λ i. record { index = same i }) ∙ denotes)) in
          ap (place_by (slice_set s (index_of id) place)) some ∙ get_or-set_other s (index_of id) (index_of j) place no_place apart ∙ sym (ap (place_by s) some)

  -- and here stands what was put
  pub place_put : index_of id < length s → place_of g (slice_set s (index_of id) place) n ≡ place
  place_put within = place_denoted g is (slice_set s (index_of id) place) id n denotes ∙ get_or-set_same s (index_of id) place no_place within

module _ (g : GraphValue) (is : IsGraph g) (s : Places) (p : PortAt) (n : Name) (at : IsInputAt g s p n) where
  abbrev here : Port
  here = record { node = n; port = p.port }

  -- the wire into an input holds what stands there
  pub queue_there : (state_of g s).wires here ≡ queue_of s p
  queue_there =
      ap (λ (place : PlaceValue). at_port place.queues p.port) (place_denoted g is s p.node n at.denotes)
      ∙ ap (at_port (place_at s p.node).queues) (number_of p.port at.some) ∙ port_queue (place_at s p.node).queues (p.port - 1)

  module _ (queue : List Token) where
    abbrev changed : PlaceValue
    changed = record (place_at s p.node) { queues = slice_set (place_at s p.node).queues (p.port - 1) queue }

    put_here : place_of g (with_queue s p queue) n ≡ changed
    put_here = place_put g is s p.node n at.denotes changed at.node

    pub wires_same : (state_of g (with_queue s p queue)).wires here ≡ queue
    wires_same =
        ap (λ (place : PlaceValue). at_port place.queues p.port) put_here
        ∙ ap (at_port changed.queues) (number_of p.port at.some) ∙ port_queue changed.queues (p.port - 1)
        ∙ get_or-set_same (place_at s p.node).queues (p.port - 1) queue [] (omega (arith, at.some, at.few))

    pub wires_other : (r : Port) → r ≢ here → (state_of g (with_queue s p queue)).wires r ≡ (state_of g s).wires r
    wires_other r other = elim (name_cases r.node n) [
      | inr apart ↦ ap (λ (place : PlaceValue). at_port place.queues r.port) (place_other g is s p.node n at.denotes changed r.node apart)
      | inl same ↦
          let port : r.port ≢ suc (p.port - 1) = λ one. other (λ i. record { node = same i; port = (one ∙ sym (number_of p.port at.some)) i }) in
          ap (λ (place : PlaceValue). at_port place.queues r.port) (ap (place_of g (with_queue s p queue)) same ∙ put_here)
          ∙ port_other (place_at s p.node).queues (p.port - 1) r.port queue port
          ∙ ap (λ (place : PlaceValue). at_port place.queues r.port) (sym (place_denoted g is s p.node n at.denotes) ∙ ap (place_of g s) (sym same))
    ]

    pub slots_same : (m : Name) → (state_of g (with_queue s p queue)).slots m ≡ (state_of g s).slots m
    slots_same m = elim (name_cases m n) [
      | inr apart ↦ ap (λ (place : PlaceValue). place.slots) (place_other g is s p.node n at.denotes changed m apart)
      | inl same ↦
          ap (λ (place : PlaceValue). place.slots) (ap (place_of g (with_queue s p queue)) same ∙ put_here)
          ∙ ap (λ (place : PlaceValue). place.slots) (sym (place_denoted g is s p.node n at.denotes) ∙ ap (place_of g s) (sym same))
    ]

    pub has_same : HasPlaces g s → HasPlaces g (with_queue s p queue)
    has_same has =
        record {
          places = length-set s (index_of p.node) changed ∙ has.places;
          queues = λ id name body denotes found. elim (id_cases id p.node) [
            | inl one ↦
                ap (λ (i : NodeId). length (place_at (with_queue s p queue) i).queues) one
                ∙ ap (λ (place : PlaceValue). length place.queues) (get_or-set_same s (index_of p.node) changed no_place at.node)
                ∙ length-set (place_at s p.node).queues (p.port - 1) queue
                ∙ ap (λ (i : NodeId). length (place_at s i).queues) (sym one) ∙ has.queues id name body denotes found
            | inr two ↦
                let apart : index_of id ≢ index_of p.node = λ same. two (λ i. record { index = same i }) in
                ap (λ (place : PlaceValue). length place.queues) (get_or-set_other s (index_of p.node) (index_of id) changed no_place apart)
                ∙ has.queues id name body denotes found
          ];
        }

-- an input of the graph is there
pub input_there : (g : GraphValue) → IsGraph g → (s : Places) → HasPlaces g s → (p : PortAt) → HasPort g.graph Ins (port_of g p) → IsInputAt g s p (port_of g p).node
input_there g is s has p there =
    let (body, found, enters) = there.1 in
    let denotes = denoted_by g is p (port_of g p).node body found refl in
    let number = within (ins body.kind) p.port (ap is_some enters) in
    let inputs = has.queues p.node (port_of g p).node body denotes found in
    record {
      denotes = denotes;
      node = subst (λ l. index_of p.node < l) (sym has.places) (is.within p.node (port_of g p).node denotes);
      some = number.some;
      few = subst (λ l. p.port ≤ l) (sym inputs) number.few;
    }
