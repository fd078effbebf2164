-- What a body computes at a tuple: the one assignment of a token to each output that agrees with one firing of each node.
use Rattle.std.specs.Prelude.{◌≡◌, ℕ, suc, ◌+◌, List, map, length, Some, slice_get}
use Rattle.circuits.specs.PortTokens.{Token, single}
use Rattle.fun_expr.specs.Each.{Each}
use Rattle.components.specs.declared.kind.Kind.{Kind}
use Rattle.loop_body.specs.declared.body_port.BodyPort.{BodyPort}
use Rattle.loop_body.specs.BodyKind.{FiresOnce}
use Rattle.loop_body.specs.Body.{Body, kinds, entry}

-- a node takes the tokens at the producers of its inputs and gives those of its row
pub record FiresAt (tokens : List (List Token)) (i : ℕ) (node : Kind) (ports : List BodyPort) : Type 0 where
  pub taken : List Token
  pub given : List Token
  pub takes : map (entry tokens) ports ≡ map Some taken
  pub gives : slice_get tokens (suc i) ≡ Some given
  pub fires : FiresOnce node taken given

-- the lanes give the tuple, and each node fires once
pub record IsValueAt (b : Body) (tuple : List Token) (tokens : List (List Token)) : Type 0 where
  pub lanes : slice_get tokens 0 ≡ Some tuple
  pub rows : length tokens ≡ length (kinds b) + 1
  pub nodes : (i : ℕ) (node : Kind) (ports : List BodyPort) → slice_get (kinds b) i ≡ Some node → slice_get b.inputs i ≡ Some ports → FiresAt tokens i node ports

-- one turn: the next tuple at the data wires, and the bit at the condition wires
pub record Turn (b : Body) (tuple next : List Token) (condition : ℕ) : Type 0 where
  pub tokens : List (List Token)
  pub value : IsValueAt b tuple tokens
  pub data_wires : map (entry tokens) b.next ≡ map Some next
  pub condition_wires : Each (λ p. entry tokens p ≡ Some (single condition)) b.conditions
