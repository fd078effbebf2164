use Rattle.std.proofs.Common.{◌-◌, ap, sym, ◌∙◌}
use Rattle.std.specs.Prelude.{slice_get}
use Rattle.loop_body.specs.Judging.{is_fresh}
use Rattle.loop_body.proofs.Judged.{port_get-zero, port_get-place}
use Rattle.loop_body.proofs.marks.MarkRow.mark.Goals as goal

pub returns-then-port-eq0-clause-fresh : goal.returns-then-port-eq0-clause-fresh
returns-then-port-eq0-clause-fresh c = sym (ap is_fresh (port_get-zero c.args.self.now c.args.port c.if-port-eq0.true))

pub returns-clause-fresh : goal.returns-clause-fresh
returns-clause-fresh c =
    c.is_fresh.ensures ∙
    ap is_fresh (c.put_at.ensures.old ∙ ap (λ xs. slice_get xs (c.args.port - 1)) c.self.view_is ∙ sym (port_get-place c.args.self.now c.args.port c.if-port-eq0.false))
