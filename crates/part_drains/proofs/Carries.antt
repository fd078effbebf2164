-- Nodes that stand in two circuits, and states that agree there.
use Rattle.std.specs.Prelude.{◌≡◌, ◌↔◌, Bool, true, false, List, ◌++◌, Option, Some, None, if◌then◌else◌}
use Rattle.components.specs.declared.kind.Kind.{Kind}
use Rattle.components.specs.Name.{Name, Port}
use Rattle.circuits.specs.PortTokens.{Token}
use Rattle.circuits.specs.Circuit.{Circuit}
use Rattle.circuits.specs.CircuitState.{CircuitState}

-- some nodes of c are nodes of e, wired alike. wire says which wire of c a wire of e is, where it is one
pub record Carries (c e : Circuit) (here : Name → Bool) (wire : Port → Option Port) : Type 0 where
  pub nodes : (n : Name) (k : Kind) → here n ≡ true → c.kind_at n ≡ Some k → e.kind_at n ≡ Some k
  pub own : (r : Port) → here r.node ≡ true → wire r ≡ Some r
  pub other : (r p : Port) → wire r ≡ Some p → here r.node ≡ false → here p.node ≡ false
  pub feeds : (r p q : Port) → wire r ≡ Some p → here q.node ≡ true → (c.feeder p ≡ Some q) ↔ (e.feeder r ≡ Some q)
  pub unfed : (r q : Port) → wire r ≡ None → here q.node ≡ true → e.feeder r ≡ Some q → ⊥

abbrev pub on_wire : Option Port → (Port → List Token) → List Token → List Token
on_wire None f old = old
on_wire (Some p) f old = f p

-- the state of e in which the wires of c are as in s, and all else is as in old
abbrev pub carried : (Name → Bool) → (Port → Option Port) → CircuitState → CircuitState → CircuitState
carried here wire old s =
    record { wires = λ r. on_wire (wire r) s.wires (old.wires r); slots = λ n. if here n then s.slots n else old.slots n }

-- the state with more tokens at the ends of some wires
abbrev pub thick : (Port → Bool) → (Port → List Token) → CircuitState → CircuitState
thick framed extra s = record { wires = λ p. if framed p then s.wires p ++ extra p else s.wires p; slots = s.slots }
