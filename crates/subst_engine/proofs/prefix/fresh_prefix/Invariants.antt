use Rattle.std.proofs.Common.{ℕ, ◌<◌, ◌-◌}
use Rattle.subst_engine.specs.PrefixNumber.{HasNumber}
use Rattle.subst_engine.proofs.prefix.fresh_prefix.Given as goal

-- all numbers below the base are taken
abbrev pub invariant-loop-base : goal.invariant-loop-base
invariant-loop-base l = (number : ℕ) → number < l.base → HasNumber l.g number

abbrev pub decreases-loop-base : goal.decreases-loop-base
decreases-loop-base l = l.g.slots - l.base
