use Rattle.std.proofs.Common.{◌^◌, ◌≤◌, arith}
use Rattle.std.proofs.Math.Nat.{pow-le-pow_right}
use Rattle.std.proofs.lemmas.Bool.{le-leb}
use Rattle.components.proofs.kind.tells_apart.Goals as goal

pub returns-then-width-ge8 : goal.returns-then-width-ge8
returns-then-width-ge8 c =
    let wide : 2 ^ 8 ≤ 2 ^ c.args.width = pow-le-pow_right (omega arith) c.if-width-ge8.true in
    (λ is. (omega arith, omega (arith, wide)), λ is. le-leb 8 c.args.width c.if-width-ge8.true)
