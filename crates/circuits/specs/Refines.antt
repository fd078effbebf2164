-- One circuit refines another: in no surrounding circuit does it show anything that the other does not.
use Rattle.std.specs.Prelude.{◌≡◌, ◌↔◌, List, Some}
use Rattle.components.specs.declared.kind.Kind.TheVariants.{Entry, Exit}
use Rattle.components.specs.Name.{Name}
use Rattle.components.specs.Kind.{Shape}
use Rattle.circuits.specs.Circuit.{Circuit, Typed}
use Rattle.circuits.specs.Run.{Move, Shows}
use Rattle.circuits.specs.Plug.{PlugLink, plug, CanPlug}

-- the same Entries and Exits, with the same shapes
pub record SamePorts (h g : Circuit) : Type 0 where
  pub entries : (n : Name) (a : Shape) → (h.kind_at n ≡ Some (Entry a)) ↔ (g.kind_at n ≡ Some (Entry a))
  pub exits : (n : Name) (a : Shape) → (h.kind_at n ≡ Some (Exit a)) ↔ (g.kind_at n ≡ Some (Exit a))

-- h refines g: plugged into any typed circuit it shows only traces that g shows there
pub record Refines (h g : Circuit) : Type 0 where
  pub new_typed : Typed h
  pub old_typed : Typed g
  pub ports : SamePorts h g
  pub shows : (c : Circuit) (ls : List PlugLink) (tr : List Move) → Typed c → CanPlug c ls h → CanPlug c ls g →
      Shows (plug c ls h) tr → Shows (plug c ls g) tr
