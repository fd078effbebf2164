-- What an exchange asks of its steps, and what they give.
use Rattle.std.proofs.Common.{◌≡◌, ◌≢◌, inl, inr, ℕ, zero, suc, ◌<◌, max, List, [], ◌∷◌, map, length, slice_get, Option, Some, None, refl, sym, ap, subst, ◌∙◌, arith}
use Rattle.std.proofs.lemmas.Option.{none-some, same_Some}
use Rattle.std.specs.List.{All, AllPairs, Contains}
use Rattle.std.specs.Option.{option_map}
use Rattle.std.specs.Prelude.{unwrap_or}
use Rattle.std.specs.FinMap as finite
use Rattle.components.specs.declared.node.Node.{Node}
use Rattle.components.specs.Lookups.{get_inserted, get_not_inserted, get_not_removed}
use Rattle.components.specs.Name.{Name, Port}
use Rattle.components.specs.NamedGraph.{NamedGraph, CanWire, with_node, with_wire}
use Rattle.components.specs.Node.{NodeOk, body_of}
use Rattle.components.specs.Orders.{name_total, name_same, port_total, port_same, port_cases}
use Rattle.graph_core.specs.declared.exchange.End.{End}
use Rattle.graph_core.specs.declared.exchange.End.TheVariants.{Old, Fresh}
use Rattle.graph_core.specs.declared.place.NodeId.{NodeId}
use Rattle.graph_core.specs.Ids.{id_total, id_same}
use Rattle.graph_core.specs.Place.{id_of}
use Rattle.graph_core.specs.Denoting.{port_denoted}
use Rattle.graph_core.specs.GraphValue.{GraphValue, Ids, Denotes, without_id, port_of, name_by}
use Rattle.graph_core.specs.Exchange.{CanExchange, IsAtNode, IsExchanged, end_port, end_ports, with_fresh, with_nodes, with_wires, without_nodes}
use Rattle.graph_core.specs.Steps.{AreAdded, AreDenoted, CanAdd, Fits, IsEndWithin, place_of, with_pairs, without_ids}

module _ {A : Type 0} (P : A → Type 0) where
  head : (x : A) (xs : List A) → All P (x ∷ xs) → P x
  head x xs each = each 0 x (omega arith)

  tail : (x : A) (xs : List A) → All P (x ∷ xs) → All P xs
  tail x xs each k d below = each (suc k) d (omega arith)

module _ {A : Type 0} (P : A → A → Type 0) where
  first : (x : A) (xs : List A) → AllPairs P (x ∷ xs) → All (P x) xs
  first x xs pairs k d below = pairs 0 (suc k) d (omega arith) (omega arith)

  later : (x : A) (xs : List A) → AllPairs P (x ∷ xs) → AllPairs P xs
  later x xs pairs i j d less below = pairs (suc i) (suc j) d (omega arith) (omega arith)

all_with : {A : Type 0} (P Q R : A → Type 0) → ((x : A) → P x → Q x → R x) → (xs : List A) → All P xs → All Q xs → All R xs
all_with P Q R f xs p q k d below = f _ (p k d below) (q k d below)

-- Nodes that go

name_denoted : (ids : Ids) (id : NodeId) (name : Name) → finite.get ids id ≡ Some name → finite.get ids id ≡ Some (name_by ids id)
name_denoted ids id name denotes = denotes ∙ ap (λ o. Some (unwrap_or o [])) (sym denotes)

denoted_each : (names : Ids) (h : GraphValue) (gone : List NodeId) → All (λ id. Denotes h id (name_by names id)) gone → AllPairs (λ i j. i ≢ j) gone → AreDenoted names h gone
denoted_each names h [] each distinct = tt
denoted_each names h (id ∷ gone) each distinct = (
  head (λ id. Denotes h id (name_by names id)) id gone each,
  denoted_each names (without_id h id (name_by names id)) gone
      (all_with (λ other. Denotes h other (name_by names other)) (λ other. id ≢ other) (λ other. Denotes (without_id h id (name_by names id)) other (name_by names other))
      (λ other denotes apart. get_not_removed id_total id_same h.ids id other (λ is. apart (sym is)) ∙ denotes) gone
      (tail (λ id. Denotes h id (name_by names id)) id gone each) (first (λ i j. i ≢ j) id gone distinct))
      (later (λ i j. i ≢ j) id gone distinct),
)

module _ (names : Ids) where
  removed_graph : (h : GraphValue) (gone : List NodeId) → (without_ids names h gone).graph ≡ without_nodes h.graph (map (name_by names) gone)
  removed_graph h [] = refl
  removed_graph h (id ∷ gone) = removed_graph (without_id h id (name_by names id)) gone

  pub removed_slots : (h : GraphValue) (gone : List NodeId) → (without_ids names h gone).slots ≡ h.slots
  removed_slots h [] = refl
  removed_slots h (id ∷ gone) = removed_slots (without_id h id (name_by names id)) gone

  removed_stay : (h : GraphValue) (gone : List NodeId) (id : NodeId) (name : Name) → Denotes h id name → ¬ (Contains gone id) → Denotes (without_ids names h gone) id name
  removed_stay h [] id name denotes away = denotes
  removed_stay h (other ∷ gone) id name denotes away =
      removed_stay (without_id h other (name_by names other)) gone id name
      (get_not_removed id_total id_same h.ids other id (λ is. away (0, omega arith, sym is)) ∙ denotes)
      (λ there. away (suc there.0, omega (arith, there.1), there.2))

-- Nodes that come

can_add_each : (h : NamedGraph) (nodes : List Node) → All NodeOk nodes → AllPairs (λ a b. a.name ≢ b.name) nodes → All (λ node. finite.get h.nodes node.name ≡ None) nodes → CanAdd h nodes
can_add_each h [] right names free = tt
can_add_each h (node ∷ nodes) right names free = (
  head NodeOk node nodes right,
  head (λ node. finite.get h.nodes node.name ≡ None) node nodes free,
  can_add_each (with_node h node.name (body_of node)) nodes (tail NodeOk node nodes right) (later (λ a b. a.name ≢ b.name) node nodes names)
      (all_with (λ other. finite.get h.nodes other.name ≡ None) (λ other. node.name ≢ other.name) (λ other. finite.get (with_node h node.name (body_of node)).nodes other.name ≡ None)
      (λ other none apart. get_not_inserted name_total name_same h.nodes node.name (body_of node) other.name (λ is. apart (sym is)) ∙ none) nodes
      (tail (λ node. finite.get h.nodes node.name ≡ None) node nodes free) (first (λ a b. a.name ≢ b.name) node nodes names)),
)

-- Wires that come

module _ (h : NamedGraph) (s t s' t' : Port) (can : CanWire h s' t') (outputs : s ≢ s') (inputs : t ≢ t') where
  still_free : (p : Port) → finite.get (with_wire h s t).feeders p ≢ Some s'
  still_free p found =
      elim (port_cases p t) [
        | inl one ↦ outputs (same_Some _ _ (sym (get_inserted port_total port_same h.feeders t s p one) ∙ found))
        | inr two ↦ can.source_free p (sym (get_not_inserted port_total port_same h.feeders t s p two) ∙ found)
      ]

  can_still : CanWire (with_wire h s t) s' t'
  can_still =
      let w = can.wire in
      record {
        wire = record { from = w.from; to = w.to; shape = w.shape; is_from = w.is_from; is_to = w.is_to; leaves = w.leaves; enters = w.enters };
        target_free = get_not_inserted port_total port_same h.feeders t s t' (λ is. inputs (sym is)) ∙ can.target_free;
        source_free = still_free;
      }

module _ (port : End → Port) where
  abbrev CanAt : NamedGraph → End × End → Type 0
  CanAt h wire = CanWire h (port wire.0) (port wire.1)

  abbrev OutputsDiffer : End × End → End × End → Type 0
  OutputsDiffer a b = port a.0 ≢ port b.0

  abbrev InputsDiffer : End × End → End × End → Type 0
  InputsDiffer a b = port a.1 ≢ port b.1

  fits_each : (h : NamedGraph) (wires : List (End × End)) → All (CanAt h) wires → AllPairs OutputsDiffer wires → AllPairs InputsDiffer wires → Fits port h wires
  fits_each h [] fit outputs inputs = tt
  fits_each h (wire ∷ wires) fit outputs inputs =
      let fresh_outputs = first OutputsDiffer wire wires outputs in
      let fresh_inputs = first InputsDiffer wire wires inputs in (
        head (CanAt h) wire wires fit,
        fits_each (with_wire h (port wire.0) (port wire.1)) wires
            (λ k d below. can_still h (port wire.0) (port wire.1) _ _ (tail (CanAt h) wire wires fit k d below) (fresh_outputs k d below) (fresh_inputs k d below))
            (later OutputsDiffer wire wires outputs) (later InputsDiffer wire wires inputs),
      )

module _ (p q : End → Port) where
  abbrev AreSame : End × End → Type 0
  AreSame wire = (p wire.0 ≡ q wire.0) × (p wire.1 ≡ q wire.1)

  fits_same : (h : NamedGraph) (wires : List (End × End)) → All AreSame wires → Fits p h wires → Fits q h wires
  fits_same h [] same fits = tt
  fits_same h (wire ∷ wires) same fits =
      let (s, t) = head AreSame wire wires same in (
        subst (λ z. CanWire h z (q wire.1)) s (subst (CanWire h (p wire.0)) t fits.0),
        fits_same (with_wire h (q wire.0) (q wire.1)) wires (tail AreSame wire wires same) (subst (λ z. Fits p (with_wire h z (q wire.1)) wires) s (subst (λ z. Fits p (with_wire h (p wire.0) z) wires) t fits.1)),
      )

  pairs_same : (h : NamedGraph) (wires : List (End × End)) → All AreSame wires → with_pairs p h wires ≡ with_pairs q h wires
  pairs_same h [] same = refl
  pairs_same h (wire ∷ wires) same =
      let (s, t) = head AreSame wire wires same in
      ap (λ k. with_pairs p k wires) (λ i. with_wire h (s i) (t i)) ∙ pairs_same (with_wire h (q wire.0) (q wire.1)) wires (tail AreSame wire wires same)

pairs_mapped : (g : GraphValue) (fresh : List Node) (h : NamedGraph) (wires : List (End × End)) → with_pairs (end_port g fresh) h wires ≡ with_wires h (map (end_ports g fresh) wires)
pairs_mapped g fresh h [] = refl
pairs_mapped g fresh h (wire ∷ wires) = pairs_mapped g fresh (with_wire h (end_port g fresh wire.0) (end_port g fresh wire.1)) wires

-- All together

module _ (g : GraphValue) (gone : List NodeId) (fresh : List Node) (wires : List (End × End)) (can : CanExchange g gone fresh wires) where
  pub are_denoted : AreDenoted g.ids g gone
  are_denoted = denoted_each g.ids g gone (λ k d below. let (name, denotes) = can.live k d below in name_denoted g.ids _ name denotes) can.distinct

  module _ (r : GraphValue) (removed : r ≡ without_ids g.ids g gone) where
    left : r.graph ≡ without_nodes g.graph (map (name_by g.ids) gone)
    left = ap (λ (v : GraphValue). v.graph) removed ∙ removed_graph g.ids g gone

    pub can_add : CanAdd r.graph fresh
    can_add = subst (λ z. CanAdd z fresh) (sym left) (can_add_each (without_nodes g.graph (map (name_by g.ids) gone)) fresh can.nodes can.names can.free)

    module _ (s : GraphValue) (ids : List NodeId) (graph : s.graph ≡ with_nodes r.graph fresh) (added : AreAdded r fresh ids s) (count : length ids ≡ length fresh) where
      abbrev port : End → Port
      port end = port_of s (place_of ids end)

      stays : (id : NodeId) (name : Name) → Denotes g id name → ¬ (Contains gone id) → Denotes s id name
      stays id name denotes away = added.kept id name (subst (λ v. Denotes v id name) (sym removed) (removed_stay g.ids g gone id name denotes away))

      same_port : (end : End) → IsAtNode g gone fresh end → end_port g fresh end ≡ port end
      same_port (Old p) (name, denotes, away) = port_denoted g p name denotes ∙ sym (port_denoted s p name (stays p.node name denotes away))
      same_port (Fresh index number) below = at (slice_get fresh index) refl
        where
          at : (o : Option Node) → slice_get fresh index ≡ o → end_port g fresh (Fresh index number) ≡ port (Fresh index number)
          at None none = absurd (not_past fresh index below none)
            where
              not_past : (xs : List Node) (i : ℕ) → i < length xs → slice_get xs i ≡ None → ⊥
              not_past [] i less e = absurd (omega arith)
              not_past (x ∷ xs) zero less e = none-some _ (sym e)
              not_past (x ∷ xs) (suc i) less e = not_past xs i (omega arith) e
          at (Some node) is =
              let (id, found, denotes) = added.each index node (subst (λ n. index < n) (sym count) below) is in
              ap (λ o. record { node = unwrap_or (option_map (λ (n : Node). n.name) o) []; port = number }) is
              ∙ sym (ap (λ o. port_of s (record { node = unwrap_or o (id_of 0); port = number })) found ∙ port_denoted s (record { node = id; port = number }) node.name denotes)

      same_ports : All (AreSame (end_port g fresh) port) wires
      same_ports k d below = let (source, target) = can.ends k d below in (same_port _ source, same_port _ target)

      base : s.graph ≡ with_fresh g gone fresh
      base = graph ∙ ap (λ z. with_nodes z fresh) left

      pub fit_all : Fits port s.graph wires
      fit_all =
          fits_same (end_port g fresh) port s.graph wires same_ports
          (subst (λ z. Fits (end_port g fresh) z wires) (sym base) (fits_each (end_port g fresh) (with_fresh g gone fresh) wires can.fit can.outputs can.inputs))

      end_within : (end : End) → IsAtNode g gone fresh end → IsEndWithin (length ids) end
      end_within (Old p) at = tt
      end_within (Fresh index number) below = subst (λ n. index < n) (sym count) below

      pub ends_within : All (λ w. IsEndWithin (length ids) w.0 × IsEndWithin (length ids) w.1) wires
      ends_within k d below = let (source, target) = can.ends k d below in (end_within _ source, end_within _ target)

      pub is_exchanged : (h : GraphValue) → h.graph ≡ with_pairs port s.graph wires → h.ids ≡ s.ids → h.slots ≡ s.slots → finite.len h.ids ≡ finite.len h.graph.nodes → IsExchanged g gone fresh wires h
      is_exchanged h wired same slots counted =
          record {
            graph = wired ∙ sym (pairs_same (end_port g fresh) port s.graph wires same_ports) ∙ ap (λ z. with_pairs (end_port g fresh) z wires) base ∙ pairs_mapped g fresh (with_fresh g gone fresh) wires;
            stay = λ id name denotes away. ap (λ m. finite.get m id) same ∙ stays id name denotes away;
            slots = slots ∙ added.slots
                ∙ (λ i. max ((ap (λ (v : GraphValue). v.slots) removed ∙ removed_slots g.ids g gone) i) ((ap finite.len (sym same) ∙ counted) i));
          }
