use Rattle.std.proofs.Common.{sym, ap, subst}
use Rattle.lane_laws.specs.CombineMuxes.{muxes_graph}
use Rattle.subst_engine.specs.Rule.{IsSoundRule}
use Rattle.mux_branch_rules.specs.MuxCombine.{mux_old_name}
use Rattle.mux_branch_rules.proofs.MuxLaws.MuxSound.{sound}
use Rattle.mux_branch_rules.proofs.mux_combine.combined.Goals as goal

pub invariant_of-result : goal.invariant_of-result
invariant_of-result c =
    let h = c.requires in
    let read = c.args.read in
    let names = read.names.now in
    let whole = sound c.mux_combine_refines.ensures.rule c.mux_combine_refines.ensures.refines c.args.prefix c.args.ends names c.args.goes_back read.kinds.now read.lanes.now h.tree h.free h.long h.can in
    subst (λ l. IsSoundRule (record { word = c.mux_word-word.result; left = l; right = c.in_ok-right.right.graph })) (sym (c.in_ok-left.ensures h.tree h.has))
    (subst (λ r. IsSoundRule (record { word = c.mux_word-word.result; left = muxes_graph read.kinds.now read.lanes.now h.tree (mux_old_name c.args.prefix c.args.ends names read.kinds.now read.lanes.now); right = r })) (sym c.in_ok-right.ensures)
    (record { is_rule = whole.is_rule; refines = whole.refines }))
