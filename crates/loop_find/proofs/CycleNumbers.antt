-- The spots of all nodes, and the graph of the wires that a walk may go by, tell which loops lie on cycles.
use Rattle.std.proofs.Common.{◌≡◌, ◌⊎◌, ◌↔◌, inl, inr, ℕ, ◌<◌, refl, sym, ap, subst, ◌∙◌, List, Some, true}
use Rattle.std.proofs.lemmas.Bool.{eqb-true, eq-eqb, false≢true}
use Rattle.components.specs.Name.{Name, Port}
use Rattle.components.specs.Orders.{name_cases}
use Rattle.circuits.specs.Circuit.{Circuit, Typed, circuit_of}
use Rattle.circuits.specs.Replacing.{In}
use Rattle.digraph.specs.Edges.{HasEdge}
use Rattle.digraph.specs.Cycles as numbers
use Rattle.loop_laws.specs.Polarity.{IsMark, exit_out}
use Rattle.loop_laws.specs.Reached.{port_at}
use Rattle.loop_laws.specs.Loop as laws
use Rattle.loop_laws.specs.Loop.{LoopAt, NodeOf, NodeOf.is_mark, NodeOf.branch, HasBranch, IsExit}
use Rattle.loop_laws.specs.OffCycle.{AllLoops, InLoop}
use Rattle.loop_laws.proofs.OneLoop as once
use Rattle.loop_laws.proofs.ShareNone.{share_none}
use Rattle.graph_core.specs.declared.place.NodeId.{NodeId}
use Rattle.graph_core.specs.declared.place.PortAt.{PortAt}
use Rattle.graph_core.specs.Place.{index_of, id_of}
use Rattle.graph_core.specs.GraphValue.{GraphValue, Denotes, IsGraph, name_by, port_of}
use Rattle.loop_find.specs.declared.shape.LoopShape.{LoopShape}
use Rattle.loop_find.specs.declared.spots.Spot.{Spot}
use Rattle.loop_find.specs.OnCycle.{AreLoops, IsOnCycle, Leaves}
use Rattle.loop_find.specs.Shapes.{loop_by}
use Rattle.loop_find.specs.Spots.{Holds, IsSpot, IsSpot.alone, IsSpot.inside, IsSpot.is_branch, AreSpots, exit_port, leaves_by, vertex_at, vertex_by}
use Rattle.loop_find.specs.Crossings.{IsGraphOfPlaces}
use Rattle.loop_find.proofs.Walking.{named, itself, id_of_node, source_live, target_live}
use Rattle.loop_find.proofs.SpotsFound.{loop_at, mapped_in, in_mapped}
use Rattle.loop_find.proofs.CycleWalks.{Numbers, cycle_there, cycle_back}

module _ (g : GraphValue) (ok : IsGraph g) (ty : Typed (circuit_of g.graph)) (shapes : List LoopShape) (ls : AreLoops g shapes) where
  abbrev c : Circuit
  c = circuit_of g.graph

  abbrev name : NodeId → Name
  name = name_by g.ids

  mark_name : (s : LoopShape) → In s shapes → IsMark c (name s.mark)
  mark_name s i = (ls.marks.marks (name s.mark)).0 (mapped_in name s.mark _ (mapped_in (λ (s : LoopShape). s.mark) s shapes i))

  pub mark_live : (s : LoopShape) → In s shapes → Denotes g s.mark (name s.mark)
  mark_live s i = let e = (loop_at g ok ty shapes ls s i).mark.0 in named g ok s.mark (name s.mark) _ e refl

  -- a number that is written stands below the number of slots
  pub vertex_less : (spots : List Spot) → AreSpots g shapes spots → (id : NodeId) → Denotes g id (name id) → vertex_at spots id < g.slots
  vertex_less spots are id live =
      let (s, at, is) = are.spot id (name id) live in
      subst (λ o. vertex_by o (index_of id) < g.slots) (sym at) (less s is)
    where
      less : (s : Spot) → IsSpot g shapes (name id) s → vertex_by (Some s) (index_of id) < g.slots
      less _ (alone none) = ok.within id (name id) live
      less _ (inside h apart) = ok.within h.shape.mark (name h.shape.mark) (mark_live h.shape h.listed)
      less _ (is_branch h has) = ok.within h.shape.mark (name h.shape.mark) (mark_live h.shape h.listed)

  module _ (loops : Name → laws.Loop) (all : AllLoops c loops) where
    same_loop : (s : LoopShape) → In s shapes → loops (name s.mark) ≡ loop_by g s
    same_loop s i = once.one_loop c (name s.mark) (loops (name s.mark)) (loop_by g s) (all (name s.mark) (mark_name s i)) (loop_at g ok ty shapes ls s i)

    one_mark : (m k n : Name) → IsMark c m → IsMark c k → NodeOf m (loops m) n → NodeOf k (loops k) n → m ≡ k
    one_mark m k n is_m is_k a b =
        elim (name_cases m k) [
          | inl same ↦ same
          | inr differ ↦ absurd (share_none c ty m k (loops m) (loops k) (all m is_m) (all k is_k) differ n a b)
        ]

    -- a node that a loop by ids has is one of a loop
    held : (n : Name) (h : Holds g shapes n) → NodeOf (name h.shape.mark) (loops (name h.shape.mark)) n
    held n h = subst (λ l. NodeOf (name h.shape.mark) l n) (sym (same_loop h.shape h.listed)) h.has

    -- a node that no loop by ids has is in no loop
    outside : (n : Name) → ¬ (Holds g shapes n) → ¬ (InLoop c loops n)
    outside n none (m, is_m, node) =
        let (id, j, e) = in_mapped name m _ ((ls.marks.marks m).1 is_m) in
        let (s, i, f) = in_mapped (λ (s : LoopShape). s.mark) id shapes j in
        let same : m ≡ name s.mark = e ∙ ap name f in
        none (record { shape = s; listed = i; has = subst (λ l. NodeOf (name s.mark) l n) (same_loop s i) (subst (λ k. NodeOf k (loops k) n) same node) })

    module _ (spots : List Spot) (are : AreSpots g shapes spots) where
      pub Place : Name → ℕ → Type 0
      Place n v = (id : NodeId) × Denotes g id n × (v ≡ vertex_at spots id)

      -- a node stands at the index of its loop's mark, or in no loop at its own
      data Where (n : Name) (v : ℕ) : Type 0 where
        in_one : (m : Name) (id : NodeId) → IsMark c m → NodeOf m (loops m) n → Denotes g id m → v ≡ index_of id → Where n v
        in_none : (id : NodeId) → ¬ (InLoop c loops n) → Denotes g id n → v ≡ index_of id → Where n v

      where_by : (n : Name) (id : NodeId) → Denotes g id n → (s : Spot) → IsSpot g shapes n s → Where n (vertex_by (Some s) (index_of id))
      where_by n id denotes _ (alone none) = in_none id (outside n none) denotes refl
      where_by n id denotes _ (inside h apart) = in_one (name h.shape.mark) h.shape.mark (mark_name h.shape h.listed) (held n h) (mark_live h.shape h.listed) refl
      where_by n id denotes _ (is_branch h has) = in_one (name h.shape.mark) h.shape.mark (mark_name h.shape h.listed) (held n h) (mark_live h.shape h.listed) refl

      where_at : (n : Name) (v : ℕ) → Place n v → Where n v
      unfolding Place
      where_at n v (id, denotes, is) =
          let (s, at, spot) = are.spot id n denotes in
          subst (Where n) (sym (is ∙ ap (λ o. vertex_by o (index_of id)) at)) (where_by n id denotes s spot)

      once_placed : (n : Name) (v w : ℕ) → Place n v → Place n w → v ≡ w
      unfolding Place
      once_placed n v w (i, den_i, is_v) (j, den_j, is_w) = is_v ∙ ap (vertex_at spots) (ok.alone i j n den_i den_j) ∙ sym is_w

      -- ids with one index denote one node
      one_name : (i j : NodeId) (n k : Name) (v : ℕ) → v ≡ index_of i → v ≡ index_of j → Denotes g i n → Denotes g j k → n ≡ k
      one_name i j n k v e f den_i den_j =
          let same : i ≡ j = ap id_of (sym e ∙ f) in
          sym (itself g j n (subst (λ x. Denotes g x n) same den_i)) ∙ itself g j k den_j

      number_of : (m n : Name) (v : ℕ) → IsMark c m → NodeOf m (loops m) n → Where n v → (id : NodeId) × Denotes g id m × (v ≡ index_of id)
      number_of m n v is_m node (in_one k id is_k has denotes is) = (id, subst (Denotes g id) (one_mark k m n is_k is_m has node) denotes, is)
      number_of m n v is_m node (in_none id none denotes is) = absurd (none (m, is_m, node))

      in_its_loop : (m n : Name) (v : ℕ) → IsMark c m → NodeOf m (loops m) n → Place n v → Place m v
      unfolding Place
      in_its_loop m n v is_m node at =
          let (id, denotes, is) = number_of m n v is_m node (where_at n v at) in
          let (j, den_j, is_j) = number_of m m (vertex_at spots id) is_m (is_mark refl) (where_at m (vertex_at spots id) (id, denotes, refl)) in
          (id, denotes, is ∙ ap index_of (ok.alone id j m denotes den_j) ∙ sym is_j)

      alike_places : (n k : Name) (v : ℕ) → Where n v → Where k v → (n ≡ k) ⊎ ((m : Name) × IsMark c m × NodeOf m (loops m) n × NodeOf m (loops m) k)
      alike_places n k v (in_one m i is_m node den_i e) (in_one m2 j is_m2 node2 den_j f) =
          let same : m2 ≡ m = one_name j i m2 m v f e den_j den_i in
          inr (m, is_m, node, subst (λ x. NodeOf x (loops x) k) same node2)
      alike_places n k v (in_one m i is_m node den_i e) (in_none j none den_j f) = absurd (none (m, is_m, is_mark (one_name j i k m v f e den_j den_i)))
      alike_places n k v (in_none i none den_i e) (in_one m j is_m node den_j f) = absurd (none (m, is_m, is_mark (one_name i j n m v e f den_i den_j)))
      alike_places n k v (in_none i none den_i e) (in_none j none2 den_j f) = inl (one_name i j n k v e f den_i den_j)

      -- a walk may go by a wire from an output exactly where this is written
      leaves_by_spot : (q : Port) (s : Spot) → IsSpot g shapes q.node s → Leaves c loops q → leaves_by (Some s) q.port ≡ true
      leaves_by_spot q _ (alone none) leaves = refl
      leaves_by_spot q _ (inside h apart) (inl (m, is_m, (x, i, e))) =
          let node : NodeOf m (loops m) q.node = branch (x, i, ap (λ (z : Port). z.node) (sym e)) in
          let same : m ≡ name h.shape.mark = one_mark m (name h.shape.mark) q.node is_m (mark_name h.shape h.listed) node (held q.node h) in
          absurd (apart (subst (λ l. HasBranch l q.node) (same_loop h.shape h.listed) (subst (λ k. HasBranch (loops k) q.node) same (x, i, ap (λ (z : Port). z.node) (sym e)))))
      leaves_by_spot q _ (inside h apart) (inr none) = absurd (none (name h.shape.mark, mark_name h.shape h.listed, held q.node h))
      leaves_by_spot q _ (is_branch h has) (inl (m, is_m, (x, i, e))) =
          let node : NodeOf m (loops m) q.node = branch (x, i, ap (λ (z : Port). z.node) (sym e)) in
          let same : m ≡ name h.shape.mark = one_mark m (name h.shape.mark) q.node is_m (mark_name h.shape h.listed) node (held q.node h) in
          let loop : loops m ≡ loop_by g h.shape = ap loops same ∙ same_loop h.shape h.listed in
          eq-eqb q.port (exit_port h.shape.back_bit) (ap (λ (z : Port). z.port) e ∙ ap (λ (l : laws.Loop). exit_out l.goes_back) loop)
      leaves_by_spot q _ (is_branch h has) (inr none) = absurd (none (name h.shape.mark, mark_name h.shape h.listed, held q.node h))

      spot_leaves : (q : Port) (s : Spot) → IsSpot g shapes q.node s → leaves_by (Some s) q.port ≡ true → Leaves c loops q
      spot_leaves q _ (alone none) e = inr (outside q.node none)
      spot_leaves q _ (inside h apart) e = absurd (false≢true e)
      spot_leaves q _ (is_branch h (x, i, is)) e =
          let port : q.port ≡ exit_port h.shape.back_bit = eqb-true q.port (exit_port h.shape.back_bit) e in
          let exit : IsExit (loop_by g h.shape) q = (x, i, ap (λ n. port_at n q.port) (sym is) ∙ ap (port_at x.branch) port) in
          inl (name h.shape.mark, mark_name h.shape h.listed, subst (λ l. IsExit l q) (sym (same_loop h.shape h.listed)) exit)

      module _ (rows : List (List ℕ)) (is_graph : IsGraphOfPlaces g spots rows) where
        edge_of : (p q : Port) (v w : ℕ) → c.feeder p ≡ Some q → Leaves c loops q → Place q.node v → Place p.node w → HasEdge rows v w
        unfolding Place
        edge_of p q v w fed leaves (i, den_i, is_v) (j, den_j, is_w) =
            let from : q ≡ port_of g (record { node = i; port = q.port }) = ap (λ n. port_at n q.port) (sym (itself g i q.node den_i)) in
            let to : p ≡ port_of g (record { node = j; port = p.port }) = ap (λ n. port_at n p.port) (sym (itself g j p.node den_j)) in
            let (s, at, spot) = are.spot i q.node den_i in
            (is_graph.edges v w).1 (
              j,
              (
                p.port,
                record {
                  source = record { node = i; port = q.port };
                  fed = sym (ap c.feeder to) ∙ fed ∙ ap Some from;
                  leaves = ap (λ o. leaves_by o q.port) at ∙ leaves_by_spot q s spot leaves;
                  from = is_v;
                  to = is_w;
                },
              ),
            )

        wire_of : (v w : ℕ) → HasEdge rows v w → (p q : Port) × (c.feeder p ≡ Some q) × Leaves c loops q × Place q.node v × Place p.node w
        unfolding Place
        wire_of v w edge =
            let (j, crossing) = (is_graph.edges v w).0 edge in
            let (port, crosses) = crossing in
            let target : PortAt = record { node = j; port = port } in
            let p = port_of g target in
            let q = port_of g crosses.source in
            let den_i = source_live g ok p crosses.source crosses.fed in
            let den_j = target_live g ok target q crosses.fed in
            let (s, at, spot) = are.spot crosses.source.node q.node den_i in
            (p, q, crosses.fed, spot_leaves q s spot (sym (ap (λ o. leaves_by o q.port) at) ∙ crosses.leaves), (crosses.source.node, den_i, crosses.from), (j, den_j, crosses.to))

        pub numbers_are : Numbers c loops rows Place
        unfolding Place
        numbers_are =
            record {
              place = λ n kind e. let (id, denotes) = id_of_node g ok n kind e in (vertex_at spots id, placed n id denotes);
              once = once_placed;
              in_loop = in_its_loop;
              alike = λ n k v a b. alike_places n k v (where_at n v a) (where_at k v b);
              edge = edge_of;
              wire = wire_of;
            }
          where
            placed : (n : Name) (id : NodeId) → Denotes g id n → Place n (vertex_at spots id)
            placed n id denotes = (id, denotes, refl)

        -- the mark of a loop stands at its index
        module _ (s : LoopShape) (i : In s shapes) where
          at_index : Place (name s.mark) (index_of s.mark)
          unfolding Place
          at_index =
              let live = mark_live s i in
              let (j, den_j, is) = number_of (name s.mark) (name s.mark) (vertex_at spots s.mark) (mark_name s i) (is_mark refl) (where_at (name s.mark) (vertex_at spots s.mark) (s.mark, live, refl)) in
              (s.mark, live, sym (is ∙ ap index_of (ok.alone j s.mark (name s.mark) den_j live)))

          pub cycle_told : numbers.OnCycle rows (index_of s.mark) ↔ IsOnCycle c loops (name s.mark)
          cycle_told = (
            cycle_there c ty loops all rows Place numbers_are (name s.mark) (mark_name s i) (index_of s.mark) at_index,
            cycle_back c ty loops all rows Place numbers_are (name s.mark) (mark_name s i) (index_of s.mark) at_index,
          )
