-- the tree that leads to listed Muxes of a graph, by names
use Rattle.std.specs.Prelude.{◌≡◌, ℕ, List, [], ◌∷◌, Option, Some, None, if◌then◌else◌, bytes_eq}
use Rattle.circuits.specs.Circuit.{Circuit}
use Rattle.components.specs.Kind.{Shape, outs}
use Rattle.components.specs.Name.{Name, Port, port_get}
use Rattle.components.specs.declared.kind.Kind.{Kind}
use Rattle.components.specs.declared.kind.Kind.TheVariants.{Mux}
use Rattle.circuits.specs.Root.{PassesThrough}
use Rattle.circuit_plans.specs.Plans.{Out}
use Rattle.circuit_plans.specs.Places.{Place, first, later, later_of, item}
use Rattle.lane_laws.specs.CombineMuxes.{Stop, into, select, LeadsTo}

-- the place that has this name
abbrev pub place_named : {A : Type 0} (xs : List A) → (Place xs → Name) → Name → Option (Place xs)
place_named [] name m = None
place_named (x ∷ xs) name m = if bytes_eq (name first) m then Some first else later_of (place_named xs (λ n. name (later n)) m)

abbrev pub output_of : {A : Type 0} {xs : List A} → ℕ → Option (Place xs) → Option (Out (Place xs))
output_of i None = None
output_of i (Some n) = Some (record { at = n; port = i })

-- the output, if it is one of a node of the tree
abbrev pub in_tree : (kinds : List Kind) → (Place kinds → Name) → Option Port → Option (Out (Place kinds))
in_tree kinds node None = None
in_tree kinds node (Some q) = output_of q.port (place_named kinds node q.node)

abbrev pub stop_port : {kinds : List Kind} {lanes : List Shape} → (Place kinds → Name) → (Place lanes → Name) → Stop kinds lanes → Port
stop_port node mux (into n) = record { node = node n; port = 1 }
stop_port node mux (select l) = record { node = mux l; port = 1 }

-- the output of the tree that feeds an input in g
abbrev pub source_in_graph : (g : Circuit) (kinds : List Kind) (lanes : List Shape) → (Place kinds → Name) → (Place lanes → Name) → Stop kinds lanes → Option (Out (Place kinds))
source_in_graph g kinds lanes node mux x = in_tree kinds node (g.feeder (stop_port node mux x))

-- in g these names stand for Forks and Buffers and for at least one Mux; of the inputs of the one and the selects of the other
-- exactly one is fed by no listed Fork or Buffer, each output of these feeds one of them, and none of these is on a cycle of them
pub record IsMuxTree (g : Circuit) (kinds : List Kind) (lanes : List Shape) (node : Place kinds → Name) (mux : Place lanes → Name) : Type 0 where
  pub passes : (n : Place kinds) → PassesThrough (item kinds n)
  pub nodes : (n : Place kinds) → g.kind_at (node n) ≡ Some (item kinds n)
  pub muxes : (l : Place lanes) → g.kind_at (mux l) ≡ Some (Mux (item lanes l))
  pub node_names : (n m : Place kinds) → node n ≡ node m → n ≡ m
  pub mux_names : (l k : Place lanes) → mux l ≡ mux k → l ≡ k
  pub outputs : (n : Place kinds) (i : ℕ) (a : Shape) → port_get (outs (item kinds n)) i ≡ Some a → (x : Stop kinds lanes) × (g.feeder (stop_port node mux x) ≡ Some (record { node = node n; port = i }))
  pub outside : (x : Stop kinds lanes) × (source_in_graph g kinds lanes node mux x ≡ None)
  pub one_outside : (x y : Stop kinds lanes) → source_in_graph g kinds lanes node mux x ≡ None → source_in_graph g kinds lanes node mux y ≡ None → x ≡ y
  pub no_cycle : (n : Place kinds) → LeadsTo (source_in_graph g kinds lanes node mux) n n → ⊥
  pub some_mux : Place lanes
