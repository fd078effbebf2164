-- The stripped graph against the graph, by the laws of circuits: what holds of a graph without one Buffer holds of the stripped graph.
use Rattle.std.proofs.Common.{inl, inr, subst, List, [], ◌∷◌}
use Rattle.std.specs.FinMap as map
use Rattle.components.specs.Name.{Name}
use Rattle.components.specs.NamedGraph.{NamedGraph, IsTyped}
use Rattle.circuits.specs.Circuit.{circuit_of}
use Rattle.circuits.specs.Refines.{Refines}
use Rattle.circuits.specs.Buffers.{IsWithoutBuffer}
use Rattle.circuits.specs.Laws.{RefinesItself, RefinesInSteps, CircuitIsTyped, GraphDropRefines, GraphPutRefines}
use Rattle.rewrite.specs.Stripped.{IsStripped}
use Rattle.rewrite.specs.Strips.{Turn, Turns}
use Rattle.rewrite.specs.Behaviour.{StrippedRefines, StrippedIsRefined}
use Rattle.rewrite.proofs.Dropping.{turn_typed}
use Rattle.rewrite.proofs.TurnsMade.{turns_end}
use Rattle.rewrite.proofs.StrippedByTurns.{turns_strip, one_stripped}

-- a relation that holds of a typed graph and itself and of a graph without one Buffer and the graph, and goes on from step to step
module _ (R : NamedGraph → NamedGraph → Type 0) (itself : (g : NamedGraph) → IsTyped g → R g g) (in_steps : (h between g : NamedGraph) → R h between → R between g → R h g) (drop : (h g : NamedGraph) (b : Name) → IsTyped g → IsWithoutBuffer h g b → R h g) where
  by_turn : (g h : NamedGraph) (name : Name) → IsTyped g → Turn g name h → R h g
  by_turn g h name typed (inl stays) = subst (λ z. R z g) stays.1 (itself g typed)
  by_turn g h name typed (inr dropped) = drop h g name typed dropped.without

  by_turns : (names : List Name) (g h : NamedGraph) → IsTyped g → Turns g names h → R h g
  by_turns [] g h typed same = subst (λ z. R z g) same (itself g typed)
  by_turns (name ∷ names) g h typed turns =
      let (between, turn, rest) = turns in
      in_steps h between g (by_turns names between h (turn_typed g between name typed turn) rest) (by_turn g between name typed turn)

  -- holds of the stripped graph and the graph
  pub by_stripping : (g h : NamedGraph) → IsTyped g → IsStripped g h → R h g
  by_stripping g h typed is =
      let (k, turns) = turns_end g typed in
      subst (λ z. R z g) (one_stripped g k h (turns_strip g k typed turns).0 is) (by_turns (map.keys g.nodes) g k typed turns)

pub stripped_refines : RefinesItself → RefinesInSteps → CircuitIsTyped → GraphDropRefines → StrippedRefines
stripped_refines itself in_steps circuit_typed drop =
    by_stripping (λ h g. Refines (circuit_of h) (circuit_of g))
    (λ g typed. itself (circuit_of g) (circuit_typed g typed))
    (λ h between g. in_steps (circuit_of h) (circuit_of between) (circuit_of g))
    drop

pub stripped_is_refined : RefinesItself → RefinesInSteps → CircuitIsTyped → GraphPutRefines → StrippedIsRefined
stripped_is_refined itself in_steps circuit_typed put =
    by_stripping (λ h g. Refines (circuit_of g) (circuit_of h))
    (λ g typed. itself (circuit_of g) (circuit_typed g typed))
    (λ h between g after before. in_steps (circuit_of g) (circuit_of between) (circuit_of h) before after)
    put
