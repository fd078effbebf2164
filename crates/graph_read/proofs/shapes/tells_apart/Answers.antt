use Rattle.std.proofs.Common.{◌^◌, ◌≤◌, sym, ◌∙◌, arith}
use Rattle.std.proofs.Math.Nat.{pow-le-pow_right}
use Rattle.std.proofs.lemmas.Bool.{le-leb}
use Rattle.graph_read.proofs.shapes.tells_apart.Goals as goal

pub returns-then-width-ge6 : goal.returns-then-width-ge6
returns-then-width-ge6 c =
    let wide : 2 ^ 6 ≤ 2 ^ c.args.width = pow-le-pow_right (omega arith) c.if-width-ge6.true in
    le-leb 6 c.args.width c.if-width-ge6.true ∙ sym (le-leb c.args.count (2 ^ c.args.width) (omega (arith, wide)))
