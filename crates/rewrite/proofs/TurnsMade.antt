-- Each node of a typed graph can have its turn.
use Rattle.std.proofs.Common.{◌≡◌, inl, inr, refl, ap, ◌∙◌, List, [], ◌∷◌, Some}
use Rattle.std.specs.FinMap as map
use Rattle.components.specs.Name.{Name, Port}
use Rattle.components.specs.NamedGraph.{NamedGraph, IsTyped, with_wire, without_node}
use Rattle.circuits.specs.Buffers.{first_port}
use Rattle.rewrite.specs.Stripped.{IsBuffer}
use Rattle.rewrite.specs.Strips.{Turn, Turns, TurnsEnd}
use Rattle.components.specs.Orders.{name_cases}
use Rattle.rewrite.proofs.Dropping.{drops, buffer_cases, buffer_fed, buffer_feeds, buffer_output, turn_typed}

-- a node with what its turn leaves
abbrev HasTurn : NamedGraph → Name → Type 0
HasTurn g name = (h : NamedGraph) × Turn g name h

module _ (g : NamedGraph) (typed : IsTyped g) (name : Name) where
  buffer_turn : (buffer : IsBuffer g name) (source : Port) → map.get g.feeders (first_port name) ≡ Some source → HasTurn g name
  buffer_turn buffer source fed =
      elim (name_cases source.node name) [
        | inl same ↦ (g, inl (inr (fed ∙ ap Some (buffer_output g typed name buffer (first_port name) source fed same)), refl))
        | inr other ↦
            let (target, feeds) = buffer_feeds g typed name buffer in (
              with_wire (without_node g name) source target,
              inr (drops g name buffer source target fed feeds other (with_wire (without_node g name) source target) refl),
            )
      ]

  has_turn : HasTurn g name
  has_turn =
      elim (buffer_cases g name) [
        | inl buffer ↦ let (source, fed) = buffer_fed g typed name buffer in buffer_turn buffer source fed
        | inr plain ↦ (g, inl (inl plain, refl))
      ]

have_turns : (names : List Name) (g : NamedGraph) → IsTyped g → (h : NamedGraph) × Turns g names h
have_turns [] g typed = (g, refl)
have_turns (name ∷ names) g typed =
    let (between, turn) = has_turn g typed name in
    let (h, turns) = have_turns names between (turn_typed g between name typed turn) in
    (h, (between, turn, turns))

pub turns_end : TurnsEnd
turns_end g typed = have_turns (map.keys g.nodes) g typed
