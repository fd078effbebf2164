use Rattle.std.proofs.Common.{◌<◌, ◌≤◌, ◌^◌, sym, arith}
use Rattle.std.proofs.Math.Nat.{mod-eq_of_lt}
use Rattle.std.proofs.Math.Pow.{pow_mono}
use Rattle.loop_body.proofs.node_row.low_bits.Goals as goal

pub returns-then-width-ge-MAX_WIDTH : goal.returns-then-width-ge-MAX_WIDTH
returns-then-width-ge-MAX_WIDTH c =
    let wide : 2 ^ 64 ≤ 2 ^ c.args.width = pow_mono {i = 64} {j = c.args.width} (omega (arith, c.if-width-ge-MAX_WIDTH.true)) in
    let small : c.args.number < 2 ^ c.args.width = omega (arith, wide, c.ranges.number.fits) in
    sym (mod-eq_of_lt small)
