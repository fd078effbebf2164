-- A part in its place in a circuit: what lies behind it, and when what it drains tells what the circuit drains.
use Rattle.std.specs.Prelude.{◌≡◌, ℕ, Bool, true, false, List, Some}
use Rattle.components.specs.declared.kind.Kind.{Kind}
use Rattle.components.specs.declared.kind.Kind.TheVariants.{Entry, Exit, Init}
use Rattle.components.specs.Name.{Name, Port}
use Rattle.components.specs.Kind.{Shape}
use Rattle.circuits.specs.PortTokens.{Token}
use Rattle.circuits.specs.Circuit.{Circuit}
use Rattle.circuits.specs.Buffers.{first_port}
use Rattle.circuits.specs.Root.{PassesThrough}
use Rattle.circuits.specs.Drains.{ComesFromInit, IsNoExit, Drains}
use Rattle.circuits.specs.Replacing.{is_inner, In}
use Rattle.part_drains.specs.Order.{GoesOn}

-- n is a node of the part, and none of its Entries and Exits
abbrev pub inside : Circuit → Name → Bool
inside part n = is_inner (part.kind_at n)

-- some walk from an output of the part leads to this node, and through no node of the part
pub data Behind (g part : Circuit) : Name → Type 0 where
  leaves : (p q : Port) → g.feeder p ≡ Some q → inside part q.node ≡ true → inside part p.node ≡ false → Behind g part p.node
  goes_on : (p q : Port) → g.feeder p ≡ Some q → Behind g part q.node → inside part p.node ≡ false → Behind g part p.node

-- no walk outside the part leads from an output of it back to an input of it
abbrev pub PartOffCycle : Circuit → Circuit → Type 0
PartOffCycle g part = (p q : Port) → g.feeder p ≡ Some q → Behind g part q.node → inside part p.node ≡ true → ⊥

-- each node has its name in the list
abbrev pub HasNodes : Circuit → List Name → Type 0
HasNodes c names = (n : Name) (k : Kind) → c.kind_at n ≡ Some k → In n names

-- late tells which nodes may fire after the part: what the part leads to is late, and late nodes lead to late ones alone
pub record FiresLast (g part : Circuit) (late : Name → Bool) : Type 0 where
  pub goes_on : GoesOn g late
  pub leaves : (p q : Port) → g.feeder p ≡ Some q → inside part q.node ≡ true → inside part p.node ≡ false → late p.node ≡ true
  pub apart : (n : Name) → inside part n ≡ true → late n ≡ false

-- tokens at rest do not run through: no input enters a Buffer, a Fork or an Exit, and no output comes from an Init through these alone
pub record HoldsRest (c : Circuit) : Type 0 where
  pub inputs : (p q : Port) (a : Shape) (k : Kind) → c.feeder p ≡ Some q → c.kind_at q.node ≡ Some (Entry a) → c.kind_at p.node ≡ Some k →
      ¬ (PassesThrough k) × IsNoExit k
  pub outputs : (n : Name) (a : Shape) → c.kind_at n ≡ Some (Exit a) → ¬ (ComesFromInit c (first_port n))

abbrev pub HasNoInit : Circuit → Type 0
HasNoInit c = (n : Name) (value mark : ℕ) → c.kind_at n ≡ Some (Init value mark) → ⊥

-- d drains what c drains
abbrev pub KeepsDrains : Circuit → Circuit → Type 0
KeepsDrains c d = (ins outs : Name → List Token) → Drains c ins outs → Drains d ins outs
