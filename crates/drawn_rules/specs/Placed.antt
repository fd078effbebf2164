-- Where the nodes of one drawing stand in a graph, so that another drawing can come in their place.
use Rattle.std.specs.Prelude.{◌≡◌, ◌↔◌, ◌⊎◌, Bool, true, Some, None}
use Rattle.std.specs.FinMap as finite
use Rattle.components.specs.Name.{Name}
use Rattle.components.specs.NamedGraph.{NamedGraph}
use Rattle.circuits.specs.Circuit.{circuit_of}
use Rattle.circuits.specs.Replacing.{is_inner, In}
use Rattle.circuit_plans.specs.Drawing.{DrawnWire, Drawing, port_named}

-- a node that is neither an Entry nor an Exit
abbrev pub is_inside : {N : Type 0} → Drawing N → N → Bool
is_inside d n = is_inner (Some (d.kind n))

-- the inner nodes of left stand in g, under their names and with their kinds; the wires between them are those that left draws, and no others;
-- and no inner node of right has the name of a node of g that stays
pub record IsPlaced {N M : Type 0} (g : NamedGraph) (left : Drawing N) (old : N → Name) (right : Drawing M) (new : M → Name) : Type 0 where
  pub kinds : (n : N) → is_inside left n ≡ true → (circuit_of g).kind_at (old n) ≡ Some (left.kind n)
  pub wires : (w : DrawnWire N) → is_inside left w.source.at ≡ true → is_inside left w.target.at ≡ true →
      (finite.get g.feeders (port_named old w.target) ≡ Some (port_named old w.source)) ↔ In w left.wires
  pub room : (m : M) → is_inside right m ≡ true → ((circuit_of g).kind_at (new m) ≡ None) ⊎ ((n : N) × (is_inside left n ≡ true) × (old n ≡ new m))
