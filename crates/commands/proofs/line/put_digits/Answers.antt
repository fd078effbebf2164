use Rattle.std.proofs.Common.{◌≡◌, ◌≤◌, ◌^◌, ◌/◌, ◌+◌, ◌-◌, ◌%◌, ◌++◌, drop, set, subst, ◌∙◌, arith, lit≤}
use Rattle.std.specs.Fmt.{decimal}
use Rattle.std.proofs.Math.ListN.{length-set}
use Rattle.std.proofs.lemmas.Fmt.{length-decimal-le, decimal_nonempty}
use Rattle.commands.proofs.LinePieces.{digit_before, digit_first, one_less, none_behind}
use Rattle.commands.proofs.line.put_digits.Goals as goal

pub loop-rest-init : goal.loop-rest-init
loop-rest-init c = record {
  long = omega arith;
  within = omega arith;
  room = let most : 2 ^ 64 ≤ 10 ^ 20 = lit≤ tt in length-decimal-le 20 c.args.number (omega arith) (omega arith) (omega arith);
  digits = none_behind c.args.number c.args.digits.now (omega arith);
}

pub overflow_sub-first-in-loop-rest : goal.overflow_sub-first-in-loop-rest
overflow_sub-first-in-loop-rest c =
    let less = one_less c.loop-rest.rest c.loop-rest-test.true (omega arith) in
    let some = decimal_nonempty (c.loop-rest.rest / 10) (omega arith) in
    omega arith

pub loop-rest-preserved : goal.loop-rest-preserved
loop-rest-preserved c =
    let less = one_less c.loop-rest.rest c.loop-rest-test.true (omega arith) in
    let some = decimal_nonempty (c.loop-rest.rest / 10) (omega arith) in
    let at : c.loop-rest.first ≡ c.loop-rest.first - 1 + 1 = omega arith in
    record {
      long = length-set c.loop-rest.digits c.loop-rest.first (48 + c.loop-rest.rest % 10) ∙ c.loop-rest.invariant.long;
      within = omega arith;
      room = omega arith;
      digits =
          subst (λ k. decimal c.args.number ≡ decimal (c.loop-rest.rest / 10) ++ drop k (set c.loop-rest.digits c.loop-rest.first (48 + c.loop-rest.rest % 10))) at
          (digit_before c.args.number c.loop-rest.rest c.loop-rest.first c.loop-rest.digits c.loop-rest.invariant.digits (omega arith) c.loop-rest-test.true (omega arith));
    }

pub returns-clause-digits : goal.returns-clause-digits
returns-clause-digits c = digit_first c.args.number c.loop-rest.rest c.loop-rest.first c.loop-rest.digits c.loop-rest.invariant.digits (omega arith) c.loop-rest-test.false
