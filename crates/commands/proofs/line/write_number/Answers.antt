use Rattle.std.proofs.Common.{subst}
use Rattle.std.specs.Prelude.{OnOk}
use Rattle.gx_base.specs.Stream.{Took}
use Rattle.commands.specs.Status.{TookFront}
use Rattle.commands.proofs.LinePieces.{digits_shown}
use Rattle.commands.proofs.line.write_number.Goals as goal

pub returns-clause-front : goal.returns-clause-front
returns-clause-front g c =
    subst (λ piece. TookFront piece (g.E.Sink.told c.args.err.now) (g.E.Sink.told c.write_text.new.err))
    (digits_shown c.args.number c.put_digits-first.result c.put_digits-first.new.digits c.put_digits-first.array_long c.put_digits-first.ensures.digits) c.write_text.ensures.front

pub returns-clause-whole : goal.returns-clause-whole
returns-clause-whole g c =
    subst (λ piece. OnOk c.write_text.result (Took piece (g.E.Sink.told c.args.err.now) (g.E.Sink.told c.write_text.new.err)))
    (digits_shown c.args.number c.put_digits-first.result c.put_digits-first.new.digits c.put_digits-first.array_long c.put_digits-first.ensures.digits) c.write_text.ensures.whole
