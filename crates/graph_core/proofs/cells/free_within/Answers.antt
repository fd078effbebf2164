use Rattle.std.proofs.Common.{◌≡◌, None, rules, subst, arith}
use Rattle.graph_core.proofs.SlotLemmas.{Walked, walked_on, walked_out, walked_all}
use Rattle.graph_core.proofs.cells.free_within.Goals as goal

pub loop-count-init : goal.loop-count-init
loop-count-init c = λ n p. (n, omega arith, p)

pub loop-count-preserved : goal.loop-count-preserved
loop-count-preserved c = walked_on c.args.slots.now c.args.free c.loop-count.at _ c.loop-count.count c.in-Some.index c.loop-count.invariant c.in-Some.is c.next_at-at.ensures

pub returns-in_default : goal.returns-in_default
returns-in_default c =
    let none : c.loop-count.at ≡ None = search rules in
    walked_out c.args.slots.now c.args.free c.loop-count.at c.loop-count.count c.args.most c.loop-count.invariant none (omega arith)

pub returns : goal.returns
returns c =
    let all : c.loop-count.count ≡ c.args.most = omega arith in
    walked_all c.args.slots.now c.args.free c.loop-count.at c.args.most (subst (λ k. Walked c.args.slots.now c.args.free k c.loop-count.at) all c.loop-count.invariant)
