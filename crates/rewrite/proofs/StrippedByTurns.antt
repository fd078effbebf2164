-- Dropping the Buffers in the order of their names strips the graph.
use Rattle.std.proofs.Common.{inl, inr, refl, sym, subst, ◌∙◌}
use Rattle.std.specs.FinMap as map
use Rattle.components.specs.Name.{Name}
use Rattle.components.specs.NamedGraph.{NamedGraph, IsTyped}
use Rattle.circuits.specs.Buffers.{first_port}
use Rattle.rewrite.specs.Stripped.{IsBuffer, IsLastOfRing, Stays, StrippedLeavesRings, HasStripped, IsOneStripped}
use Rattle.rewrite.specs.Behaviour.{StrippedTyped}
use Rattle.rewrite.specs.Strips.{TurnsStrip}
use Rattle.rewrite.proofs.Dropping.{buffer_at, same_buffer}
use Rattle.components.specs.Lookups.{same_by}
use Rattle.components.specs.Orders.{name_total, name_same, port_total, port_same}
use Rattle.rewrite.proofs.Turning.{keys_rise, await_keys, turns_from}
use Rattle.rewrite.proofs.TurnsMade.{turns_end}

pub turns_strip : TurnsStrip
turns_strip g h typed turns = turns_from (map.keys g.nodes) g h typed (keys_rise g.nodes) (await_keys g) turns

pub one_stripped : IsOneStripped
one_stripped g h k sh sk =
    let nodes = same_by name_total name_same h.nodes k.nodes (λ n x e. (sk.nodes n x).1 ((sh.nodes n x).0 e)) (λ n x e. (sh.nodes n x).1 ((sk.nodes n x).0 e)) in
    let feeders = same_by port_total port_same h.feeders k.feeders (λ p q e. (sk.feeders p q).1 ((sh.feeders p q).0 e)) (λ p q e. (sh.feeders p q).1 ((sk.feeders p q).0 e)) in
    λ i. record { nodes = nodes i; feeders = feeders i }

-- a Buffer that stays is what is left of a ring
buffer_that_stays : (g : NamedGraph) (name : Name) → IsBuffer g name → Stays g name → IsLastOfRing g name
buffer_that_stays g name buffer (inl plain) = absurd (plain buffer)
buffer_that_stays g name buffer (inr last) = last

pub stripped_leaves_rings : StrippedLeavesRings
stripped_leaves_rings g h stripped name buffer =
    let at = buffer_at h name buffer in
    let (was, stays) = (stripped.nodes name at.body).0 at.is in
    let last = buffer_that_stays g name (same_buffer h g name (at.is ∙ sym was) buffer) stays in
    (stripped.feeders (first_port name) (first_port name)).1 (inr (last, refl, refl))

pub has_stripped : HasStripped
has_stripped g typed =
    let (h, turns) = turns_end g typed in
    (h, (turns_strip g h typed turns).0)

pub stripped_typed : StrippedTyped
stripped_typed g h typed is =
    let (k, turns) = turns_end g typed in
    let after = turns_strip g k typed turns in
    subst IsTyped (one_stripped g k h after.0 is) after.1
