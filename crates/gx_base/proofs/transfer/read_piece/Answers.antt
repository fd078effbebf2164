use Rattle.std.proofs.Common.{◌≡◌, ◌+◌, ◌<◌, ◌≤◌, take, ℕ, arith, length-take}
use Rattle.std.proofs.lemmas.List.{length-take-le}
use Rattle.gx_base.proofs.Streams.{gave_more}
use Rattle.gx_base.proofs.transfer.read_piece.Goals as goal

-- One byte more than there may be: the buffer's length was what had room, and one.
pub returns-then-too_long-clause-too_long : goal.returns-then-too_long-clause-too_long
returns-then-too_long-clause-too_long g c = λ _.
    gave_more (λ count. count ≡ c.args.max + 1) c.args.bytes.now.items (take c.in-Ok.given c.read.new.buf) _ _
    c.in-Ok.ensures.given
    (let piece = length-take-le c.in-Ok.given c.read.new.buf c.in-Ok.ensures.within in omega (arith, length-take {A = ℕ}))

-- What was held, and a piece that had room.
pub returns-in-Err-clause-no_memory : goal.returns-in-Err-clause-no_memory
returns-in-Err-clause-no_memory g c = λ _.
    gave_more (λ count. (0 < count) × (count ≤ c.args.max)) c.args.bytes.now.items (take c.in-Ok.given c.read.new.buf) _ _
    c.in-Ok.ensures.given
    (let piece = length-take-le c.in-Ok.given c.read.new.buf c.in-Ok.ensures.within in (omega arith, omega arith))
