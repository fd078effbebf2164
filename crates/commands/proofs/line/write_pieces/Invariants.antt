use Rattle.std.proofs.Common.{take}
use Rattle.gx_base.specs.Stream.{NeverFell, Took}
use Rattle.commands.specs.Status.{bytes_of}
use Rattle.commands.proofs.line.write_pieces.Given as goal

abbrev pub invariant-loop-piece : goal.invariant-loop-piece
invariant-loop-piece g l = record {
  took : Took (bytes_of l.name (take l.piece-index l.pieces)) (g.E.Sink.told l.initial.err) (g.E.Sink.told l.err);
  counted : NeverFell (g.E.Sink.told l.initial.err) (g.E.Sink.told l.err);
}
