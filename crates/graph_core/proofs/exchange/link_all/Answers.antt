use Rattle.std.proofs.Common.{◌≡◌, ◌∙◌, ◌+◌, drop, get_or, subst, sym, arith}
use Rattle.std.proofs.lemmas.List.{at_drop_more}
use Rattle.graph_core.specs.GraphValue.{port_of}
use Rattle.graph_core.specs.Inside.{value_of, IsArena}
use Rattle.graph_core.specs.declared.exchange.End.{End}
use Rattle.graph_core.specs.declared.exchange.End.TheVariants.{Old}
use Rattle.graph_core.specs.Arena.{linked}
use Rattle.graph_core.specs.Steps.{place_of}
use Rattle.graph_core.proofs.Exchanging.{SoWired, so_wired}
use Rattle.graph_core.proofs.exchange.link_all.Goals as goal

pub loop-wire-preserved : goal.loop-wire-preserved
loop-wire-preserved c table ok fits =
    let g = value_of c.args.cells.now table in
    let ids = c.args.ids.now in
    let wires = c.args.wires.now in
    let i = c.loop-wire.wire-index in
    let any : End = Old (record { node = record { index = 0 }; port = 0 }) in
    let wire : End × End = get_or wires i (any, any) in
    let is : c.link.new.cells ≡ linked c.loop-wire.cells (place_of ids wire.0) (place_of ids wire.1) =
    c.link.ensures ∙ (λ k. linked c.loop-wire.cells (c.place.ensures k) (c.place-in-loop-wire.ensures k)) in
    let so_far = c.loop-wire.invariant table ok fits in
    let left = subst (SoWired (λ end. port_of g (place_of ids end)) g wires (value_of c.loop-wire.cells table)) (at_drop_more (λ ys. ys) wires i (any, any) (omega arith)) so_far.1 in
    let after = so_wired c.loop-wire.cells table so_far.0 ids g wires wire (drop (i + 1) wires) left in
    subst (λ d. IsArena d table × SoWired (λ end. port_of g (place_of ids end)) g wires (value_of d table) (drop (i + 1) wires)) (sym is) after
