-- What is read of the listed nodes, and when the graphs of the rule can be made. These serve contracts of private functions.
use Rattle.std.specs.Prelude.{◌≡◌, ℕ, ◌^◌, ◌<◌, ◌≤◌, List, length, Some, IsSome}
use Rattle.std.specs.List.{AllByRecursion}
use Rattle.components.specs.Name.{Name, IsName}
use Rattle.components.specs.NamedGraph.{NamedGraph}
use Rattle.circuits.specs.Circuit.{circuit_of}
use Rattle.circuits.specs.Replacing.{NoneTwice}
use Rattle.tagged_loop.specs.LoopFunction.{IsLoopFunction}
use Rattle.tagged_loop.specs.InOrderLoop.{LoopParts, init, mux, pure, in_order_kind}
use Rattle.loop_rule.specs.TagLoop.{nth}

-- the name is that of a node
abbrev pub IsNodeOf : NamedGraph → Name → Type 0
IsNodeOf g name = IsSome ((circuit_of g).kind_at name)

-- the first three nodes are those of a loop of these parts, whose function takes its tuples
pub record ReadsLoop (g : NamedGraph) (names : List Name) (loop : LoopParts) : Type 0 where
  pub init : (circuit_of g).kind_at (nth names 0) ≡ Some (in_order_kind loop init)
  pub mux : (circuit_of g).kind_at (nth names 1) ≡ Some (in_order_kind loop mux)
  pub pure : (circuit_of g).kind_at (nth names 2) ≡ Some (in_order_kind loop pure)
  pub input : loop.fun.input ≡ loop.shape

-- so many tags, and six different names of nodes
pub record AreListed (g : NamedGraph) (tags : ℕ) (names : List Name) : Type 0 where
  pub some : 1 ≤ tags
  pub few : tags ≤ 256
  pub six : length names ≡ 6
  pub differ : NoneTwice names
  pub nodes : AllByRecursion (IsNodeOf g) names

-- the two graphs can be made
pub record CanMakeSides (prefix tags : ℕ) (names : List Name) (loop : LoopParts) : Type 0 where
  pub number : prefix < 2 ^ 64
  pub some : 1 ≤ tags
  pub few : tags ≤ 256
  pub six : length names ≡ 6
  pub differ : NoneTwice names
  pub allowed : AllByRecursion IsName names
  pub function : IsLoopFunction loop.shape loop.fun
  pub mark : loop.mark ≤ 256
