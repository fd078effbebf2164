-- What replacement by a rule makes of a graph, as a function of ports.
use Rattle.std.specs.Prelude.{◌≡◌, ℕ, List, Option}
use Rattle.components.specs.Name.{Name, Port}
use Rattle.fun_expr.specs.Function.{Function}
use Rattle.components.specs.NamedGraph.{NamedGraph, IsTyped}
use Rattle.circuits.specs.Circuit.{Circuit, circuit_of}
use Rattle.circuits.specs.Replacing.{replaced, IsPart}
use Rattle.circuits.specs.ReplacedGraph.{replaced_graph, Matches}
use Rattle.circuit_plans.specs.Plans.{Naming, built}
use Rattle.body_laws.specs.Bodies.{Body}
use Rattle.body_laws.specs.BodyPlans.{Part, vars, Way, body_plan, Gathered, gathered_plan, next_shapes, GatherEnds}
use Rattle.tagged_loop.specs.InOrderLoop.{InOrderNode, LoopParts, init, mux, pure, pair, cond, branch, in_order_loop}
use Rattle.tagged_loop.specs.TaggedLoop.{TaggedNode, tagger, merge, tag, new_pure, new_pair, retag, new_branch, tagged_loop}
use Rattle.tagged_loop.specs.Laws.{CanTag}
use Rattle.loop_turns.specs.GatherChain.{gather_made}
use Rattle.loop_turns.specs.TagChain.{RingUse, ring_tagger, ring_merge, ring_tag, ring_pure, ring_pair, ring_retag, ring_branch, ring_made}
use Rattle.rule_uses.specs.Gather.{use_node, node_names, IsGatherPlace}

-- the nodes of the tagged loop that are new
abbrev pub ring_node : RingUse → TaggedNode
ring_node ring_tagger = tagger
ring_node ring_merge = merge
ring_node ring_tag = tag
ring_node ring_pure = new_pure
ring_node ring_pair = new_pair
ring_node ring_retag = retag
ring_node ring_branch = new_branch

-- where tag_loop matches, it makes the graph with the in-order loop of these nodes tagged
abbrev pub TagLoopMakes : Type 0
TagLoopMakes = (g : NamedGraph) (loop : LoopParts) (tags : ℕ) (old : InOrderNode → Name) (new : TaggedNode → Name) → IsTyped g → CanTag loop tags old new →
    Matches g (in_order_loop loop old) (tagged_loop loop tags new) →
    circuit_of (replaced_graph g (in_order_loop loop old) (tagged_loop loop tags new)) ≡
    ring_made (circuit_of g) (old init) (old mux) (old pure) (old pair) (old cond) (old branch) loop.goes_back tags loop.shape loop.fun (λ x. new (ring_node x))

-- where a body is a part of a typed circuit, the Pure with its function makes of the circuit the one with the body gathered
abbrev pub GatherMakes : Type 0
GatherMakes = (g : Circuit) (b : Body) (f : Function) (old : Naming (Part b (Way b))) (new : Naming (Gathered b)) (target : Port → Option Port) (rs : List Name) (m : Name) →
    IsPart g (built (body_plan b) old) target → GatherEnds b new old → IsGatherPlace g b old rs m →
    replaced g (built (body_plan b) old) (built (gathered_plan b f) new) target ≡
    gather_made g (old.name vars) (node_names b old) rs m f (next_shapes b) (λ x. new.name (use_node x))
