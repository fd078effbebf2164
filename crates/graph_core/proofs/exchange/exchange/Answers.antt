use Rattle.std.proofs.Common.{◌≡◌, ◌∙◌, ◌+◌, ◌-◌, List, length, max, rules, sym, ap, subst, arith}
use Rattle.std.specs.FinMap as finite
use Rattle.graph_core.specs.declared.cells.Cell.{Cell}
use Rattle.graph_core.specs.Made.{node_of}
use Rattle.graph_core.specs.GraphValue.{GraphValue}
use Rattle.graph_core.specs.Exchange.{CanExchange, IsExchanged}
use Rattle.graph_core.specs.Inside.{IsArena, value_of}
use Rattle.graph_core.specs.Steps.{AreDenoted, ArePut, CanAdd, without_ids}
use Rattle.graph_core.proofs.Tables.{len-map_values}
use Rattle.graph_core.proofs.Grown.{with_slots, arena_grown, value_grown, can_grown, exchanged_grown, fewer_ids, slots_left, slots_same}
use Rattle.graph_core.proofs.Graphs.{graph_is}
use Rattle.graph_core.proofs.Exchanging.{length_mapped}
use Rattle.graph_core.proofs.Exchanged.{are_denoted, can_add, ends_within, fit_all, is_exchanged, removed_slots}
use Rattle.graph_core.specs.declared.place.NodeId.{NodeId}
use Rattle.graph_core.proofs.exchange.exchange.Goals as goal
use Rattle.graph_core.proofs.exchange.exchange.Goals.{In_ok-make_free, After-deref}

-- the graph as it was, and once it has more slots
abbrev was : In_ok-make_free → GraphValue
was c = value_of c.args.cells.now c.args.names.now.ids

abbrev now : In_ok-make_free → GraphValue
now c = value_of c.make_free.new.self c.reserve.new.self.ids

grown : (c : In_ok-make_free) → now c ≡ with_slots (was c) c.make_free.new.self.slots
grown c = value_grown c.args.cells.now c.make_free.new.self c.args.names.now.ids c.reserve.new.self.ids c.in_ok-make_free.ensures.cells c.reserve.ensures.ids

arena : (c : In_ok-make_free) → IsArena c.make_free.new.self c.reserve.new.self.ids
arena c = arena_grown c.args.cells.now c.make_free.new.self c.args.names.now.ids c.reserve.new.self.ids c.in_ok-make_free.ensures.cells c.reserve.ensures.ids c.requires.arena

can : (c : In_ok-make_free) → CanExchange (now c) c.args.gone.now c.args.fresh.items c.args.wires.now
can c =
    subst (λ g. CanExchange g c.args.gone.now c.args.fresh.items c.args.wires.now) (sym (grown c))
    (can_grown (was c) c.make_free.new.self.slots c.args.gone.now c.args.fresh.items c.args.wires.now c.requires.can)

slots : (c : In_ok-make_free) → c.make_free.new.self.slots ≡ max c.args.cells.now.slots (finite.len c.args.cells.now.cells + (length c.in_ok-made.made.items - length c.args.gone.now))
slots c =
    let count : c.saturating_sub.result ≡ length c.in_ok-made.made.items - length c.args.gone.now = search rules in
    c.in_ok-make_free.ensures.slots ∙ ap (λ n. max c.args.cells.now.slots (finite.len c.args.cells.now.cells + n)) count

denoted : (c : In_ok-make_free) → AreDenoted (now c).ids (now c) c.args.gone.now
denoted c = are_denoted (now c) c.args.gone.now c.args.fresh.items c.args.wires.now (can c)

pub take_all-requires-clause-arena : goal.take_all-requires-clause-arena
take_all-requires-clause-arena c = arena (goal.at.take_all-requires-clause-arena c).In_ok-make_free

pub take_all-requires-clause-denoted : goal.take_all-requires-clause-denoted
take_all-requires-clause-denoted c = denoted (goal.at.take_all-requires-clause-denoted c).In_ok-make_free

-- once the nodes that go are gone
fewer : (m : In_ok-make_free) (r : GraphValue) → r ≡ without_ids (now m).ids (now m) m.args.gone.now → finite.len r.ids + length m.args.gone.now ≡ finite.len m.args.cells.now.cells
fewer m r removed =
    ap (λ (v : GraphValue). finite.len v.ids + length m.args.gone.now) removed ∙ fewer_ids (now m).ids (now m) m.args.gone.now (denoted m)
    ∙ len-map_values (λ (cell : Cell). cell.node.name) m.make_free.new.self.cells ∙ ap finite.len m.in_ok-make_free.ensures.cells

pub put_all-requires-clause-can : goal.put_all-requires-clause-can
put_all-requires-clause-can c =
    let m = (goal.at.put_all-requires-clause-can c).In_ok-make_free in
    let r = value_of c.take_all.new.cells c.take_all.new.names.ids in
    subst (CanAdd r.graph) (sym c.in_ok-made.ensures.nodes) (can_add (now m) c.args.gone.now c.args.fresh.items c.args.wires.now (can m) r c.take_all.ensures.gone)

kept_slots : (m : In_ok-make_free) (gone : List NodeId) (h : GraphValue) → (without_ids (now m).ids h gone).slots ≡ h.slots
kept_slots m gone h = removed_slots (now m).ids h gone

pub put_all-requires-clause-slots : goal.put_all-requires-clause-slots
put_all-requires-clause-slots c =
    let m = (goal.at.put_all-requires-clause-slots c).In_ok-make_free in
    let r = value_of c.take_all.new.cells c.take_all.new.names.ids in
    let same : c.take_all.new.cells.slots ≡ m.make_free.new.self.slots = ap (λ (v : GraphValue). v.slots) c.take_all.ensures.gone ∙ kept_slots m c.args.gone.now (now m) in
    let counted : finite.len r.ids ≡ finite.len c.take_all.new.cells.cells = len-map_values (λ (cell : Cell). cell.node.name) c.take_all.new.cells.cells in
    let left = slots_left (finite.len c.args.cells.now.cells) c.args.cells.now.slots (length c.in_ok-made.made.items) (length c.args.gone.now) m.make_free.new.self.slots (finite.len r.ids) c.within.ensures.room (slots m) (fewer m r c.take_all.ensures.gone) in
    omega arith

-- the graph without the nodes that went, and with the new ones
abbrev without : After-deref → GraphValue
without c = value_of c.take_all.new.cells c.take_all.new.names.ids

abbrev with_new : After-deref → GraphValue
with_new c = value_of c.put_all.new.cells c.put_all.new.names.ids

put : (c : After-deref) → ArePut (without c) c.args.fresh.items c.deref.result.now (with_new c)
put c =
    subst (λ ids. ArePut (without c) c.args.fresh.items ids (with_new c)) (sym c.deref.ensures.value)
    (subst (λ nodes. ArePut (without c) nodes c.put_all.new.ids.items (with_new c)) c.in_ok-made.ensures.nodes c.put_all.ensures.put)

pub link_all-requires : goal.link_all-requires
link_all-requires c =
    let m = (goal.at.link_all-requires c).In_ok-make_free in
    let at = (goal.at.link_all-requires c).After-deref in
    let p = put at in
    ends_within (now m) c.args.gone.now c.args.fresh.items c.args.wires.now (can m) (without at) c.take_all.ensures.gone (with_new at) c.deref.result.now p.graph p.added p.count

pub returns-clause-arena : goal.returns-clause-arena
returns-clause-arena c =
    let m = (goal.at.returns-clause-arena c).In_ok-make_free in
    let at = (goal.at.returns-clause-arena c).After-deref in
    let p = put at in
    let fits = fit_all (now m) c.args.gone.now c.args.fresh.items c.args.wires.now (can m) (without at) c.take_all.ensures.gone (with_new at) c.deref.result.now p.graph p.added p.count in
    (c.link_all.ensures c.put_all.new.names.ids c.put_all.ensures.arena fits).0

pub returns-clause-ok : goal.returns-clause-ok
returns-clause-ok c =
    let m = (goal.at.returns-clause-ok c).In_ok-make_free in
    let at = (goal.at.returns-clause-ok c).After-deref in
    let p = put at in
    let fits = fit_all (now m) c.args.gone.now c.args.fresh.items c.args.wires.now (can m) (without at) c.take_all.ensures.gone (with_new at) c.deref.result.now p.graph p.added p.count in
    let joined = c.link_all.ensures c.put_all.new.names.ids c.put_all.ensures.arena fits in
    let h : GraphValue = value_of c.link_all.new.cells c.put_all.new.names.ids in
    let counted : finite.len h.ids ≡ finite.len h.graph.nodes = (graph_is c.link_all.new.cells c.put_all.new.names.ids joined.0 c.within-2.ensures.within c.within-2.ensures.room).count in
    let done : IsExchanged (now m) c.args.gone.now c.args.fresh.items c.args.wires.now h =
    is_exchanged (now m) c.args.gone.now c.args.fresh.items c.args.wires.now (can m) (without at) c.take_all.ensures.gone (with_new at) c.deref.result.now p.graph p.added p.count h joined.1.graph joined.1.ids joined.1.slots counted in
    let made : length c.args.fresh.items ≡ length c.in_ok-made.made.items = ap length (sym c.in_ok-made.ensures.nodes) ∙ length_mapped node_of c.in_ok-made.made.items in
    let all : finite.len h.graph.nodes ≡ finite.len (without at).ids + length c.in_ok-made.made.items =
    sym counted ∙ ap finite.len joined.1.ids ∙ p.more ∙ ap (λ n. finite.len (without at).ids + n) made in
    let same = slots_same (finite.len c.args.cells.now.cells) c.args.cells.now.slots (length c.in_ok-made.made.items) (length c.args.gone.now) c.make_free.new.self.slots (finite.len (without at).ids) (finite.len h.graph.nodes)
    c.within.ensures.room (slots m) (fewer m (without at) c.take_all.ensures.gone) all in
    exchanged_grown (was m) c.make_free.new.self.slots c.args.gone.now c.args.fresh.items c.args.wires.now h
    (subst (λ g. IsExchanged g c.args.gone.now c.args.fresh.items c.args.wires.now h) (grown m) done) (done.slots ∙ same)
