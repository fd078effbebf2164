-- What walks from a mark come to is its tree, its lanes and what is reached from them.
use Rattle.std.proofs.Common.{◌≡◌, refl, sym, ap, subst, ◌∙◌, List, [], ◌∷◌, ◌++◌, Some, ℕ, Bool}
use Rattle.components.specs.declared.kind.Kind.{Kind}
use Rattle.components.specs.declared.kind.Kind.TheVariants.{Mux}
use Rattle.components.specs.Name.{Name, Port}
use Rattle.components.specs.Kind.{Shape}
use Rattle.circuits.specs.Circuit.{Circuit, circuit_of}
use Rattle.circuits.specs.Replacing.{In, In.head, In.tail}
use Rattle.loop_laws.specs.Reached.{port_at, OnTree, OnTree.root, OnTree.grown, IsLane, Reached, Reached.first, Reached.later}
use Rattle.loop_laws.specs.Faults.{IsMux, Row}
use Rattle.loop_laws.specs.declared.fault.LoopFaultKind.TheVariants.{SelectLeaf}
use Rattle.graph_core.specs.declared.place.NodeId.{NodeId}
use Rattle.graph_core.specs.GraphValue.{GraphValue, Denotes, IsGraph, name_by}
use Rattle.loop_find.specs.declared.walk.Way.{Way}
use Rattle.loop_find.specs.declared.walk.Way.TheVariants as way_of
use Rattle.loop_find.specs.NodeSets.{IsPut}
use Rattle.loop_find.specs.Walks.{AreAll, AreLive, Enters, Follows, SteppedTo, WalkedTo, WalkedTo.begun, WalkedTo.onward}
use Rattle.loop_find.proofs.Walking.{itself}

mux_shape : (kind : Kind) → IsMux kind → (shape : Shape) × (kind ≡ Mux shape)
mux_shape (Mux shape) is = (shape, refl)
mux_shape _ is = absurd is

pub put_first : (ids after : List NodeId) (id : NodeId) → ids ≡ [] → IsPut ids id after → after ≡ id ∷ []
put_first ids after id none put = put.added (λ i. elim (subst (In id) none i) [ ]) ∙ ap (λ xs. xs ++ id ∷ []) none

module _ (g : GraphValue) where
  pub all_as : (P Q : Name → Type 0) → ((n : Name) → P n → Q n) → ((n : Name) → Q n → P n) → (ids : List NodeId) → AreAll g P ids → AreAll g Q ids
  all_as P Q there back ids all id = (
    λ i. let (n, denotes, p) = (all id).0 i in (n, denotes, there n p),
    λ picked. (all id).1 (picked.0, picked.1, back picked.0 picked.2),
  )

  -- what is known of a node of a set
  pub holds_of : (P : Name → Type 0) (ids : List NodeId) → AreAll g P ids → (id : NodeId) → In id ids → P (name_by g.ids id)
  holds_of P ids all id i = let (n, denotes, p) = (all id).0 i in subst P (sym (itself g id n denotes)) p

  pub live_of : (P : Name → Type 0) (ids : List NodeId) → AreAll g P ids → AreLive g ids
  live_of P ids all id i = let (n, denotes, p) = (all id).0 i in subst (Denotes g id) (sym (itself g id n denotes)) denotes

  module _ (mark : NodeId) (live : Denotes g mark (name_by g.ids mark)) where
    abbrev c : Circuit
    c = circuit_of g.graph

    abbrev m : Name
    m = name_by g.ids mark

    -- the tree
    grown_so : (k n : Name) → OnTree c m k → Follows g way_of.Tree k n → OnTree c m n
    grown_so k n on follows =
        let (kind, is, passes) = follows.enters in grown follows.input follows.source kind (subst (OnTree c m) (sym follows.leaves) on) follows.fed is passes

    on_tree : (n : Name) → WalkedTo g way_of.Tree (mark ∷ []) n → OnTree c m n
    on_tree n (begun id (head same) denotes) = root (sym (itself g id n denotes) ∙ ap (name_by g.ids) same)
    on_tree n (begun id (tail i) denotes) = elim i [ ]
    on_tree n (onward k walked follows) = grown_so k n (on_tree k walked) follows

    walked_to : (n : Name) → OnTree c m n → WalkedTo g way_of.Tree (mark ∷ []) n
    walked_to n (root same) = begun mark (head refl) (subst (Denotes g mark) (sym same) live)
    walked_to n (grown i q kind on fed is passes) =
        onward q.node (walked_to q.node on) (record { input = i; source = q; leaves = refl; fed = fed; enters = (kind, is, passes) })

    pub tree_is : (ids : List NodeId) → AreAll g (WalkedTo g way_of.Tree (mark ∷ [])) ids → AreAll g (OnTree c m) ids
    tree_is = all_as (WalkedTo g way_of.Tree (mark ∷ [])) (OnTree c m) on_tree walked_to

  module _ (mark : NodeId) (tree : List NodeId) (is : AreAll g (OnTree (circuit_of g.graph) (name_by g.ids mark)) tree) where
    -- one step from the tree
    stepped : (way : Way) (n : Name) → SteppedTo g way tree n → (i : ℕ) × (q : Port) × OnTree (circuit_of g.graph) (name_by g.ids mark) q.node × ((circuit_of g.graph).feeder (port_at n i) ≡ Some q) × Enters g way (port_at n i)
    stepped way n (id, i, follows) =
        (follows.input, follows.source, subst (OnTree (circuit_of g.graph) (name_by g.ids mark)) (sym follows.leaves) (holds_of (OnTree (circuit_of g.graph) (name_by g.ids mark)) tree is id i), follows.fed, follows.enters)

    steps_to : (way : Way) (n : Name) (i : ℕ) (q : Port) → OnTree (circuit_of g.graph) (name_by g.ids mark) q.node → (circuit_of g.graph).feeder (port_at n i) ≡ Some q → Enters g way (port_at n i) → IsGraph g → SteppedTo g way tree n
    steps_to way n i q on fed enters graph =
        let w = graph.graph.wires (port_at n i) q fed in
        let (id, denotes) = graph.live q.node w.from w.is_from in
        (id, (is id).1 (q.node, denotes, on), record { input = i; source = q; leaves = sym (itself g id q.node denotes); fed = fed; enters = enters })

    lane_so : (n : Name) → SteppedTo g way_of.Selects tree n → IsLane (circuit_of g.graph) (name_by g.ids mark) n
    lane_so n step =
        let (i, q, on, fed, enters) = stepped way_of.Selects n step in
        let (one, of_kind) = enters in
        let (kind, is_kind, mux) = of_kind in
        let (shape, is_mux) = mux_shape kind mux in
        record { shape = shape; is_mux = is_kind ∙ ap Some is_mux; source = q; fed = subst (λ j. (circuit_of g.graph).feeder (port_at n j) ≡ Some q) one fed; by_tree = on }

    pub lanes_are : IsGraph g → (ids : List NodeId) → AreAll g (SteppedTo g way_of.Selects tree) ids → AreAll g (IsLane (circuit_of g.graph) (name_by g.ids mark)) ids
    lanes_are graph =
        all_as (SteppedTo g way_of.Selects tree) (IsLane (circuit_of g.graph) (name_by g.ids mark)) lane_so
        (λ n lane. steps_to way_of.Selects n 1 lane.source lane.by_tree lane.fed (refl, (Mux lane.shape, lane.is_mux, tt)) graph)

    pub leaves_are : IsGraph g → (goes_back : Bool) (ids : List NodeId) → AreAll g (SteppedTo g way_of.Leaves tree) ids → AreAll g (Row (circuit_of g.graph) (name_by g.ids mark) goes_back SelectLeaf) ids
    leaves_are graph goes_back =
        all_as (SteppedTo g way_of.Leaves tree) (Row (circuit_of g.graph) (name_by g.ids mark) goes_back SelectLeaf)
        (λ n step. let (i, q, on, fed, enters) = stepped way_of.Leaves n step in (i, q, on, fed, enters.0, enters.1))
        (λ n row. let (i, q, on, fed, none, other) = row in steps_to way_of.Leaves n i q on fed (none, other) graph)

  module _ (mark : NodeId) (graph : IsGraph g) (lanes : List NodeId) (are : AreAll g (IsLane (circuit_of g.graph) (name_by g.ids mark)) lanes)
      (first_ids : List NodeId) (firsts : AreAll g (SteppedTo g (way_of.Body mark) lanes) first_ids) where
    reached_first : (n : Name) → SteppedTo g (way_of.Body mark) lanes n → Reached (circuit_of g.graph) (name_by g.ids mark) n
    reached_first n (id, i, follows) =
        first follows.input follows.source
        (subst (IsLane (circuit_of g.graph) (name_by g.ids mark)) (sym follows.leaves) (holds_of (IsLane (circuit_of g.graph) (name_by g.ids mark)) lanes are id i)) follows.fed follows.enters

    reached_on : (k n : Name) → Reached (circuit_of g.graph) (name_by g.ids mark) k → Follows g (way_of.Body mark) k n → Reached (circuit_of g.graph) (name_by g.ids mark) n
    reached_on k n on follows =
        later follows.input follows.source (subst (Reached (circuit_of g.graph) (name_by g.ids mark)) (sym follows.leaves) on) follows.fed follows.enters

    reached_so : (n : Name) → WalkedTo g (way_of.Body mark) first_ids n → Reached (circuit_of g.graph) (name_by g.ids mark) n
    reached_so n (begun id i denotes) = subst (Reached (circuit_of g.graph) (name_by g.ids mark)) (itself g id n denotes) (reached_first (name_by g.ids id) (holds_of (SteppedTo g (way_of.Body mark) lanes) first_ids firsts id i))
    reached_so n (onward k walked follows) = reached_on k n (reached_so k walked) follows

    walked_so : (n : Name) → Reached (circuit_of g.graph) (name_by g.ids mark) n → WalkedTo g (way_of.Body mark) first_ids n
    walked_so n (first i q lane fed passed) =
        let w = graph.graph.wires (port_at n i) q fed in
        let (id, denotes) = graph.live q.node w.from w.is_from in
        let (own, denotes_own) = graph.live n w.to w.is_to in
        begun own ((firsts own).1 (n, denotes_own, (id, (are id).1 (q.node, denotes, lane), record { input = i; source = q; leaves = sym (itself g id q.node denotes); fed = fed; enters = passed }))) denotes_own
    walked_so n (later i q on fed passed) =
        onward q.node (walked_so q.node on) (record { input = i; source = q; leaves = refl; fed = fed; enters = passed })

    pub reached_are : (ids : List NodeId) → AreAll g (WalkedTo g (way_of.Body mark) first_ids) ids → AreAll g (Reached (circuit_of g.graph) (name_by g.ids mark)) ids
    reached_are = all_as (WalkedTo g (way_of.Body mark) first_ids) (Reached (circuit_of g.graph) (name_by g.ids mark)) reached_so walked_so
