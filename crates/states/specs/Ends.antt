-- Entries that can be fed, and Exits.
use Rattle.std.specs.Prelude.{◌≡◌, Some}
use Rattle.port_types.specs.Token.{Fits}
use Rattle.components.specs.declared.kind.Kind.TheVariants.{Entry, Exit}
use Rattle.components.specs.Kind.{Shape}
use Rattle.circuits.specs.Circuit.{circuit_of}
use Rattle.circuits.specs.PortTokens.{Token}
use Rattle.graph_core.specs.declared.place.NodeId.{NodeId}
use Rattle.graph_core.specs.GraphValue.{GraphValue, name_by}

-- the id is that of an Entry, and the token fits its shape
pub record IsEntryFor (g : GraphValue) (entry : NodeId) (token : Token) : Type 0 where
  pub shape : Shape
  pub is_entry : (circuit_of g.graph).kind_at (name_by g.ids entry) ≡ Some (Entry shape)
  pub fits : Fits shape token

-- the id is that of an Exit
pub record IsExitAt (g : GraphValue) (exit : NodeId) : Type 0 where
  pub shape : Shape
  pub is_exit : (circuit_of g.graph).kind_at (name_by g.ids exit) ≡ Some (Exit shape)
