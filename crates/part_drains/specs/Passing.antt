-- What a part passes by itself, and in any state of a circuit in which nothing stands inside it.
use Rattle.std.specs.Prelude.{◌≡◌, List, [], ◌++◌, Option, Some, None, true, if◌then◌else◌}
use Rattle.components.specs.declared.kind.Kind.{Kind}
use Rattle.components.specs.declared.kind.Kind.TheVariants.{Exit}
use Rattle.components.specs.Name.{Name, Port}
use Rattle.components.specs.Kind.{Shape}
use Rattle.circuits.specs.PortTokens.{Token}
use Rattle.circuits.specs.Circuit.{Circuit}
use Rattle.circuits.specs.CircuitState.{CircuitState}
use Rattle.circuits.specs.Run.{Firing, Firings}
use Rattle.circuits.specs.Buffers.{first_port}
use Rattle.circuits.specs.Drains.{loaded, put_on, IsNoExit}
use Rattle.circuits.specs.Replacing.{is_inner}

-- some firings lead from these inputs to these outputs, and leave all other wires and all slots empty
pub record Passes (c : Circuit) (ins outs : Name → List Token) : Type 0 where
  pub firings : List Firing
  pub end : CircuitState
  pub leads : Firings c (loaded c ins) firings end
  pub slots : (n : Name) (k : Kind) → c.kind_at n ≡ Some k → end.slots n ≡ []
  pub exits : (n : Name) (a : Shape) → c.kind_at n ≡ Some (Exit a) → end.wires (first_port n) ≡ outs n
  pub others : (p : Port) (k : Kind) → c.kind_at p.node ≡ Some k → IsNoExit k → end.wires p ≡ []

-- in this state of a circuit, nothing stands between the nodes of a part of it, nor in their slots
pub record IsIdle (part : Circuit) (s : CircuitState) : Type 0 where
  pub wires : (p q : Port) → part.feeder p ≡ Some q → is_inner (part.kind_at p.node) ≡ true → is_inner (part.kind_at q.node) ≡ true → s.wires p ≡ []
  pub slots : (n : Name) → is_inner (part.kind_at n) ≡ true → s.slots n ≡ []

-- the state with the tokens for the Entries of a part in front of the wires that lead into it
abbrev pub with_inputs : Circuit → (Name → List Token) → CircuitState → CircuitState
with_inputs part ins s =
    record { wires = λ p. (if is_inner (part.kind_at p.node) then put_on part ins (part.feeder p) else []) ++ s.wires p; slots = s.slots }

-- what stands at the Exit that takes an output of the part
abbrev pub at_exit : (Name → List Token) → Option Port → List Token
at_exit outs None = []
at_exit outs (Some r) = outs r.node

-- what the part gives to a wire of the circuit, by the output that feeds it
abbrev pub given_by : Circuit → (Port → Option Port) → (Name → List Token) → Option Port → List Token
given_by part target outs None = []
given_by part target outs (Some q) = if is_inner (part.kind_at q.node) then at_exit outs (target q) else []

-- the state with the tokens of the Exits of a part at the ends of the wires that lead out of it
abbrev pub with_outputs : Circuit → Circuit → (Port → Option Port) → (Name → List Token) → CircuitState → CircuitState
with_outputs g part target outs s =
    record { wires = λ p. s.wires p ++ (if is_inner (part.kind_at p.node) then [] else given_by part target outs (g.feeder p)); slots = s.slots }
