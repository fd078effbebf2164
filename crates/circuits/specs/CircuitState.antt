-- States of a circuit: the tokens on its wires, and the slots of its nodes.
use Rattle.std.specs.Prelude.{◌≡◌, ◌≢◌, ℕ, ◌<◌, List, [], ◌∷◌, Option, Some, IfSome}
use Rattle.std.specs.List.{AllByRecursion}
use Rattle.port_types.specs.Token.{Fits}
use Rattle.components.specs.declared.kind.Kind.{Kind}
use Rattle.components.specs.declared.kind.Kind.TheVariants.{Init, Tagger}
use Rattle.components.specs.Name.{Name, Port, port_get}
use Rattle.components.specs.Kind.{Shape, ins}
use Rattle.circuits.specs.PortTokens.{Token, single, one}
use Rattle.circuits.specs.Circuit.{Circuit, kind_of}

-- a tag that is in use, with its result or with none yet
pub record Slot : Type 0 where
  pub tag : ℕ
  pub result : Option Token

-- the tokens of each wire, by the input that it enters, and the slots of each node, oldest first
pub record CircuitState : Type 0 where
  pub wires : Port → List Token
  pub slots : Name → List Slot

-- what a wire holds at the start, by the kind that feeds it: behind an Init stands its value
abbrev pub initial : Option Kind → List Token
initial (Some (Init value mark)) = one (single value)
initial _ = []

-- each wire as its source leaves it, and no slot taken
abbrev pub start : Circuit → CircuitState
start c = record { wires = λ p. initial (kind_of c (c.feeder p)); slots = λ n. [] }

-- what may stand in a slot of a node of this kind: only a Tagger has slots
abbrev pub SlotFits : Kind → Slot → Type 0
SlotFits (Tagger shape tags) slot = (slot.tag < tags) × IfSome slot.result (Fits shape)
SlotFits _ slot = ⊥

-- none of the slots has this tag
abbrev pub HasNoTag : ℕ → List Slot → Type 0
HasNoTag tag slots = AllByRecursion (λ slot. slot.tag ≢ tag) slots

-- no two slots have one tag
abbrev pub TagsDiffer : List Slot → Type 0
TagsDiffer [] = Unit {0}
TagsDiffer (slot ∷ slots) = HasNoTag slot.tag slots × TagsDiffer slots

-- the tokens of each wire fit its shape, what stands in the slots fits too, and the tags of a node's slots differ
pub record IsStateOf (c : Circuit) (s : CircuitState) : Type 0 where
  pub wires : (p : Port) (k : Kind) (a : Shape) → c.kind_at p.node ≡ Some k →
      port_get (ins k) p.port ≡ Some a → AllByRecursion (Fits a) (s.wires p)
  pub slots : (n : Name) (k : Kind) → c.kind_at n ≡ Some k → AllByRecursion (SlotFits k) (s.slots n)
  pub tags : (n : Name) (k : Kind) → c.kind_at n ≡ Some k → TagsDiffer (s.slots n)
