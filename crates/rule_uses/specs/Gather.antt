-- Where a body is gathered: what its leaving wires enter.
use Rattle.std.specs.Prelude.{◌≡◌, ◌⊎◌, suc, true, List, [], ◌∷◌, ◌++◌, map, length, Option, Some}
use Rattle.components.specs.Name.{Name, Port, port_get}
use Rattle.circuits.specs.Circuit.{Circuit}
use Rattle.circuits.specs.Replacing.{is_inner, In, NoneTwice}
use Rattle.circuit_plans.specs.Plans.{Naming, out_by}
use Rattle.circuit_plans.specs.Places.{Place, item, number, each_of}
use Rattle.body_laws.specs.Bodies.{Body}
use Rattle.body_laws.specs.BodyPlans.{Part, vars, node, Way, next, condition, other, Gathered, pure, pair, vals, fork, out_of, way_out}
use Rattle.loop_laws.specs.Reached.{port_at}
use Rattle.loop_turns.specs.GatherChain.{GatherUse, use_pure, use_pair, use_vals, use_fork}

-- the new nodes
abbrev pub use_node : {b : Body} → GatherUse → Gathered b
use_node use_pure = pure
use_node use_pair = pair
use_node use_vals = vals
use_node use_fork = fork

-- the inputs that data wires enter, a Branch's each, and those that condition wires enter, the last the mark's
abbrev pub data_inputs : List Name → List Port
data_inputs rs = map (λ r. port_at r 1) rs

abbrev pub condition_inputs : List Name → Name → List Port
condition_inputs rs m = map (λ r. port_at r 2) rs ++ port_at m 1 ∷ []

abbrev pub way_input : (b : Body) → List Name → Name → Way b → Option Port
way_input b rs m (next p) = port_get (data_inputs rs) (number b.next p)
way_input b rs m condition = port_get (condition_inputs rs m) 1
way_input b rs m (other p) = port_get (condition_inputs rs m) (suc (number b.others p))

-- the names of the body's nodes
abbrev pub node_names : (b : Body) → Naming (Part b (Way b)) → List Name
node_names b old = each_of b.nodes (λ p. old.name (node p))

-- the leaving wires of a body enter the Branches rs and the mark m, in order, and nothing else enters these
pub record IsGatherPlace (g : Circuit) (b : Body) (old : Naming (Part b (Way b))) (rs : List Name) (m : Name) : Type 0 where
  pub differ : NoneTwice rs
  pub mark_apart : In m rs → ⊥
  pub as_many : length b.others ≡ length rs
  pub lanes : length b.next ≡ length rs
  pub inner : (p : Place b.nodes) → is_inner (Some (item b.nodes p).kind) ≡ true
  pub input : Way b → Port
  pub is_input : (w : Way b) → way_input b rs m w ≡ Some (input w)
  pub fed : (w : Way b) → g.feeder (input w) ≡ out_by old (out_of b (Way b) (Some (way_out b w)))
  pub only_fed : (p q : Port) → In p.node rs ⊎ (p.node ≡ m) → g.feeder p ≡ Some q → In q.node (old.name vars ∷ node_names b old)
