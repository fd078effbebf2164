use Rattle.std.proofs.Common.{◌++◌, ◌∷◌, [], Some, true, set, sym, ap, subst, ◌∙◌, arith}
use Rattle.digraph.specs.Edges.{HasEdge}
use Rattle.digraph.specs.Grouping.{Gathering}
use Rattle.digraph.proofs.Places.{got_below, got_or}
use Rattle.digraph.proofs.GroupRows.{gathering_first, gathering_more, gathering_all}
use Rattle.digraph.proofs.grouping.gather.Goals as goal

pub loop-next-init : goal.loop-next-init
loop-next-init c =
    subst (λ vs. Gathering c.args.back.now c.args.root c.args.grouped.now.items (set c.args.grouped.now.items c.args.root true) vs 0) (sym (c.in_ok-push.ensures.items ∙ ap (λ vs. vs ++ c.args.root ∷ []) c.new-group.ensures.items))
    (gathering_first c.args.back.now c.args.root c.args.grouped.now.items c.requires.root c.requires.size)

pub row-row-requires : goal.row-row-requires
row-row-requires c =
    let v = c.index.result.now in
    let at = got_or c.loop-next.group.items c.loop-next.next v (omega arith) ∙ ap Some (sym c.index.ensures) in
    let marked = (c.loop-next.invariant.each c.loop-next.next v at).2 in
    let less = got_below c.loop-next.grouped.items v true marked in
    omega (arith, less, c.loop-next.invariant.size)

pub gather_row-requires : goal.gather_row-requires
gather_row-requires c =
    λ k v at.
    let edge : HasEdge c.args.back.now c.index.result.now v = record { row = c.row-row.result.now; place = k; is_row = c.row-row.ensures; is_there = at } in
    let less = c.is_within.ensures c.index.result.now v edge in
    omega (arith, less, c.loop-next.invariant.size)

pub loop-next-preserved : goal.loop-next-preserved
loop-next-preserved c =
    let v = c.index.result.now in
    let at = got_or c.loop-next.group.items c.loop-next.next v (omega arith) ∙ ap Some (sym c.index.ensures) in
    gathering_more c.args.back.now c.args.root c.args.grouped.now.items c.loop-next.grouped.items c.loop-next.group.items c.loop-next.next v c.loop-next.invariant at c.row-row.result.now c.row-row.ensures
    c.gather_row.new.grouped.items c.gather_row.new.group.items c.in_ok-gather_row.ensures

pub returns : goal.returns
returns c =
    gathering_all c.args.back.now c.args.root c.args.grouped.now.items c.loop-next.grouped.items c.loop-next.group.items c.loop-next.next c.loop-next.invariant (omega arith)
