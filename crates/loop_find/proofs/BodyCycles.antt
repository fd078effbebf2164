-- The nodes of a body that lie on cycles of it stand at the places that lie on cycles of its graph.
use Rattle.std.proofs.Common.{◌≡◌, ℕ, ◌<◌, refl, sym, ap, subst, ◌∙◌, Bool, List, length, Option, Some, arith}
use Rattle.std.proofs.lemmas.Option.{slice_get_within}
use Rattle.components.specs.Name.{Name, Port}
use Rattle.circuits.specs.Circuit.{Circuit, circuit_of}
use Rattle.circuits.specs.Replacing.{In}
use Rattle.digraph.specs.Edges.{HasEdge}
use Rattle.digraph.specs.Cycles.{Leads, Leads.here, Leads.on, OnCycle, TellsCycles}
use Rattle.loop_laws.specs.Faults.{BodyPath, BodyPath.wire, BodyPath.further, InBody}
use Rattle.graph_core.specs.declared.place.NodeId.{NodeId}
use Rattle.graph_core.specs.GraphValue.{GraphValue, Denotes, IsGraph, name_by}
use Rattle.loop_find.specs.BodyGraphs.{AreTold, IsGraphOfSet, StandsAt}
use Rattle.loop_find.specs.NodeSets.{AreDifferent}
use Rattle.loop_find.specs.Judging.{IsJudged}
use Rattle.loop_find.specs.Walks.{AreAll, Has}
use Rattle.loop_find.proofs.Choosing.{judged_of}
use Rattle.loop_find.proofs.MarkWalks.{holds_of, live_of}
use Rattle.loop_find.proofs.Places.{at_in, in_at}
use Rattle.loop_find.proofs.Walking.{itself}

module _ (g : GraphValue) (ok : IsGraph g) (m : Name) (goes_back : Bool) (ids : List NodeId) (body : AreAll g (InBody (circuit_of g.graph) m goes_back) ids) (different : AreDifferent ids)
    (rows : List (List ℕ)) (graph : IsGraphOfSet g ids rows) where
  abbrev c : Circuit
  c = circuit_of g.graph

  abbrev Path : Name → Name → Type 0
  Path = BodyPath c m goes_back

  in_body : (u : ℕ) (n : Name) → StandsAt g ids u n → InBody c m goes_back n
  in_body u n (id, at, denotes) = subst (InBody c m goes_back) (itself g id n denotes) (holds_of g (InBody c m goes_back) ids body id (at_in ids u id at))

  place_of : (n : Name) → InBody c m goes_back n → (id : NodeId) → Denotes g id n → (u : ℕ) × StandsAt g ids u n
  place_of n inside id denotes = let (u, at) = in_at id ids ((body id).1 (n, denotes, inside)) in (u, (id, at, denotes))

  -- a walk along edges is one along wires
  one_name : (u : ℕ) (a b : Name) → StandsAt g ids u a → StandsAt g ids u b → a ≡ b
  one_name u a b (x, at_x, is_x) (y, at_y, is_y) =
      let same : Some x ≡ Some y = sym at_x ∙ at_y in
      let id : x ≡ y = cc in
      sym (itself g x a is_x) ∙ ap (name_by g.ids) id ∙ itself g y b is_y

  edge_wire : (u w : ℕ) (a : Name) → StandsAt g ids u a → HasEdge rows u w → (b : Name) × StandsAt g ids w b × Path a b
  edge_wire u w a stands edge =
      let (p, to, feeds) = (graph.edges u w).0 edge in
      let (q, fed, from) = feeds in
      let same : q.node ≡ a = one_name u q.node a from stands in
      (p.node, to, wire p.port q same (in_body u a stands) fed (in_body w p.node to))

  path_on : (a b d : Name) → Path a b → Path b d → Path a d
  path_on a b d first (wire i q same inside fed into) = further i q (subst (Path a) (sym same) first) fed into
  path_on a b d first (further i q rest fed into) = further i q (path_on a b q.node first rest) fed into

  leads_path : (u w : ℕ) (a b d : Name) → Path d a → StandsAt g ids u a → StandsAt g ids w b → Leads rows u w → Path d b
  leads_path u w a b d so_far from to (here same) = subst (Path d) (one_name w a b (subst (λ k. StandsAt g ids k a) same from) to) so_far
  leads_path u w a b d so_far from to (on k edge rest) =
      let (e, stands, step) = edge_wire u k a from edge in
      leads_path k w e b d (path_on d a e so_far step) stands to rest

  cycle_path : (v : ℕ) (n : Name) → StandsAt g ids v n → OnCycle rows v → Path n n
  cycle_path v n stands cycle =
      let (e, at_next, step) = edge_wire v cycle.next n stands cycle.edge in
      leads_path cycle.next v e n n step at_next stands cycle.back

  -- and the other way round
  leads_on : (u k w : ℕ) → Leads rows u k → HasEdge rows k w → Leads rows u w
  leads_on u k w (here same) edge = on w (subst (λ x. HasEdge rows x w) (sym same) edge) (here refl)
  leads_on u k w (on j first rest) edge = on j first (leads_on j k w rest edge)

  record Starts (u w : ℕ) : Type 0 where
    next : ℕ
    edge : HasEdge rows u next
    rest : Leads rows next w

  edge_of : (u w : ℕ) (i : ℕ) (q : Port) (n : Name) → c.feeder (record { node = n; port = i }) ≡ Some q → StandsAt g ids u q.node → StandsAt g ids w n → HasEdge rows u w
  edge_of u w i q n fed from to = (graph.edges u w).1 (record { node = n; port = i }, to, (q, fed, from))

  path_starts : (a b : Name) (u w : ℕ) → StandsAt g ids u a → StandsAt g ids w b → Path a b → Starts u w
  path_starts a b u w from to (wire i q same inside fed into) =
      record { next = w; edge = edge_of u w i q b fed (subst (StandsAt g ids u) (sym same) from) to; rest = here refl }
  path_starts a b u w from to (further i q path fed into) =
      let wires = ok.graph.wires (record { node = b; port = i }) q fed in
      let (id, denotes) = ok.live q.node wires.from wires.is_from in
      let (k, stands) = place_of q.node (path_end a q.node path) id denotes in
      let first = path_starts a q.node u k from stands path in
      record { next = first.next; edge = first.edge; rest = leads_on first.next k w first.rest (edge_of k w i q b fed stands to) }
    where
      path_end : (x y : Name) → Path x y → InBody c m goes_back y
      path_end x y (wire i q same inside fed into) = into
      path_end x y (further i q path fed into) = into

  path_cycle : (v : ℕ) (n : Name) → StandsAt g ids v n → Path n n → OnCycle rows v
  path_cycle v n stands path =
      let starts = path_starts n n v v stands stands path in
      record { next = starts.next; edge = starts.edge; back = starts.rest }

  path_inside : (a b : Name) → Path a b → InBody c m goes_back b
  path_inside a b (wire i q same inside fed into) = into
  path_inside a b (further i q path fed into) = into

  lives : (n : Name) → Path n n → (id : NodeId) × Denotes g id n
  lives n (wire i q same inside fed into) = let w = ok.graph.wires (record { node = n; port = i }) q fed in ok.live n w.to w.is_to
  lives n (further i q path fed into) = let w = ok.graph.wires (record { node = n; port = i }) q fed in ok.live n w.to w.is_to

  module _ (on : List Bool) (tells : TellsCycles rows on) where
    pub told_cycles : (found : List NodeId) → AreTold ids on found → AreAll g (λ n. Path n n) found
    told_cycles found told id = (
      λ i. let (k, at, is_told) = (told id).0 i in
          let denotes = live_of g (InBody c m goes_back) ids body id (at_in ids k id at) in
          let less : k < length ids = slice_get_within ids k id at in
          let size = graph.size in
          (name_by g.ids id, denotes, cycle_path k (name_by g.ids id) (id, at, denotes) ((tells.exact k (omega (arith, less, size))).0 is_told)),
      λ picked.
          let (n, denotes, path) = picked in
          let (k, stands) = place_of n (path_inside n n path) id denotes in
          back n denotes path k stands,
    )
      where
        back : (n : Name) → Denotes g id n → Path n n → (k : ℕ) → StandsAt g ids k n → In id found
        back n denotes path k (x, at, is_x) =
            let same : x ≡ id = ok.alone x id n is_x denotes in
            let less : k < length ids = slice_get_within ids k x at in
            let size = graph.size in
            (told id).1 (k, at ∙ ap Some same, (tells.exact k (omega (arith, less, size))).1 (path_cycle k n (x, at, is_x) path))

    pub cycle_judged : (found : List NodeId) → AreTold ids on found → (r : Option NodeId) → IsJudged g (Has g found) r → IsJudged g (λ n. Path n n) r
    cycle_judged found told r judged = judged_of g ok (λ n. Path n n) found (told_cycles found told) lives r judged
