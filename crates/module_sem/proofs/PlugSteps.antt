-- Plugged graphs, one link after another.
use Rattle.std.proofs.Common.{◌≡◌, ℕ, ◌+◌, ◌<◌, ◌≤◌, List, ◌∷◌, ◌++◌, map, length, get_or, take, drop, sym, ap, subst, ◌∙◌}
use Rattle.std.proofs.lemmas.List.{take_all}
use Rattle.components.specs.NamedGraph.{NamedGraph, IsTyped}
use Rattle.circuits.specs.Circuit.{circuit_of}
use Rattle.circuits.specs.Laws.{PluggedGraphIsCircuit, PluggedGraphIsTyped}
use Rattle.circuits.specs.Plug.{PlugLink, CanPlug, Joins}
use Rattle.circuits.specs.PluggedGraph.{beside_graph, link_graph, link_graphs, plugged_graph}
use Rattle.graph_core.specs.GraphValue.{GraphValue}
use Rattle.module_sem.specs.declared.link.Link.{Link}
use Rattle.module_sem.specs.GraphLinks.{CanPlugGraphs, by_names}
use Rattle.module_sem.specs.Linking.{CanJoin}
use Rattle.module_sem.proofs.Plugs.{can_front, joins_next, link_more, names_more, names_split}

module _ (is_circuit : PluggedGraphIsCircuit) (is_typed : PluggedGraphIsTyped) (c g : GraphValue) (links : List Link) (can : CanPlugGraphs c links g)
    (circuits : CanPlug (circuit_of c.graph) (map (by_names c g) links) (circuit_of g.graph)) where
  -- with so many links
  abbrev so_far : ℕ → NamedGraph
  so_far i = plugged_graph c.graph (map (by_names c g) (take i links)) g.graph

  module _ (i : ℕ) (d : Link) (below : i < length links) where
    abbrev before : List PlugLink
    before = map (by_names c g) (take i links)

    abbrev next : PlugLink
    next = by_names c g (get_or links i d)

    abbrev after : List PlugLink
    after = map (by_names c g) (drop (i + 1) links)

    split : CanPlug (circuit_of c.graph) (before ++ next ∷ after) (circuit_of g.graph)
    split = subst (λ ls. CanPlug (circuit_of c.graph) ls (circuit_of g.graph)) (names_split (by_names c g) links i d below) circuits

    pub typed_so_far : IsTyped (so_far i)
    typed_so_far = is_typed c.graph before g.graph can.outer can.inner (can_front (circuit_of c.graph) before next after (circuit_of g.graph) split)

    pub joins_so_far : CanJoin (so_far i) next
    joins_so_far = subst (λ k. Joins next k k) (sym (is_circuit c.graph before g.graph)) (joins_next (circuit_of c.graph) before next after (circuit_of g.graph) split)

    pub so_far_more : link_graph next (so_far i) ≡ so_far (i + 1)
    so_far_more = sym (link_more before next (beside_graph c.graph g.graph)) ∙ ap (λ ls. link_graphs ls (beside_graph c.graph g.graph)) (sym (names_more (by_names c g) links i d below))

  pub typed_all : (i : ℕ) → length links ≤ i → IsTyped (so_far i)
  typed_all i all = subst (λ ls. IsTyped (plugged_graph c.graph (map (by_names c g) ls) g.graph)) (sym (take_all i links all)) (is_typed c.graph (map (by_names c g) links) g.graph can.outer can.inner circuits)
