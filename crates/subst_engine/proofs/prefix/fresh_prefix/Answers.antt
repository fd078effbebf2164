use Rattle.std.proofs.Common.{ℕ, ◌+◌, ◌<◌, arith}
use Rattle.subst_engine.specs.declared.prefix.TheConstants.{WINDOW}
use Rattle.subst_engine.specs.PrefixNumber.{HasNumber}
use Rattle.subst_engine.proofs.PrefixNumbers.{few_numbers, fresh, further, next_free}
use Rattle.subst_engine.proofs.prefix.fresh_prefix.Goals as goal

-- the numbers below the one that is free are taken
below_free : (c : goal.In-Some) → (number : ℕ) → number < c.loop-base.base + c.in-Some.place → HasNumber c.args.g.now number
below_free c = further c.args.g.now c.loop-base.base c.in-Some.place c.loop-base.invariant c.in-Some.ensures.taken

pub overflow_add-result : goal.overflow_add-result
overflow_add-result c = let few = few_numbers c.args.g.now c.is_graph.ensures (c.loop-base.base + c.in-Some.place) (below_free c) in omega arith

pub returns-in-Some : goal.returns-in-Some
returns-in-Some c =
    let few = few_numbers c.args.g.now c.is_graph.ensures (c.loop-base.base + c.in-Some.place) (below_free c) in
    fresh c.args.g.now c.is_graph.ensures c.numerals_tell_numbers.ensures (c.loop-base.base + c.in-Some.place) (omega arith) c.in-Some.ensures.free (below_free c)

-- the whole window is taken
pub loop-base-preserved : goal.loop-base-preserved
loop-base-preserved c = further c.args.g.now c.loop-base.base WINDOW c.loop-base.invariant c.in_default.ensures

pub overflow_add-base : goal.overflow_add-base
overflow_add-base c =
    let few = few_numbers c.args.g.now c.is_graph.ensures (c.loop-base.base + WINDOW) (further c.args.g.now c.loop-base.base WINDOW c.loop-base.invariant c.in_default.ensures) in
    omega arith

pub returns : goal.returns
returns c =
    fresh c.args.g.now c.is_graph.ensures c.numerals_tell_numbers.ensures c.loop-base.base (omega arith)
    (next_free c.args.g.now c.is_graph.ensures c.loop-base.base (omega arith) c.loop-base.invariant) c.loop-base.invariant
