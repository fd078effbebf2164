use Rattle.std.proofs.Common.{subst}
use Rattle.std.proofs.lemmas.List.{take_all}
use Rattle.gx_base.specs.Stream.{Took}
use Rattle.commands.specs.Status.{bytes_of}
use Rattle.commands.proofs.LinePieces.{took_front, whole_taken}
use Rattle.commands.proofs.line.write_pieces.Goals as goal

pub returns-in_err-write_piece-clause-front : goal.returns-in_err-write_piece-clause-front
returns-in_err-write_piece-clause-front g c =
    took_front c.args.name.now c.args.pieces.now c.loop-piece.piece-index _ c.loop-piece-test.true _ _ _ c.loop-piece.invariant.took c.write_piece.ensures.front

pub returns-clause-front : goal.returns-clause-front
returns-clause-front g c =
    let pieces = c.args.pieces.now in
    whole_taken (bytes_of c.args.name.now pieces) _ _
    (subst (λ done. Took (bytes_of c.args.name.now done) (g.E.Sink.told c.args.err.now) (g.E.Sink.told c.loop-piece.err)) (take_all c.loop-piece.piece-index pieces c.loop-piece-test.false) c.loop-piece.invariant.took)
