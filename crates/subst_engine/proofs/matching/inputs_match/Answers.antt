use Rattle.std.proofs.Common.{ℕ, ◌≡◌, ◌<◌, ◌≤◌, inl, inr, refl, subst, arith}
use Rattle.std.proofs.lemmas.Bool.{cases_lt}
use Rattle.graph_core.specs.GraphValue.{port_of}
use Rattle.graph_core.specs.Open.{port_at}
use Rattle.subst_engine.specs.Matching.{AreFedAlike}
use Rattle.subst_engine.proofs.matching.inputs_match.Goals as goal

-- what holds at each number below, and at the last
with_last : (P : ℕ → Type 0) (last count : ℕ) → count ≤ last → ((k : ℕ) → 1 ≤ k → k < last → P k) → P last → (k : ℕ) → 1 ≤ k → k ≤ count → P k
with_last P last count end before at k some few = elim (cases_lt k last) [
  | inl below ↦ before k some below
  | inr from ↦ let is : last ≡ k = omega arith in subst P is at
]

pub returns-else-not-input_matches : goal.returns-else-not-input_matches
returns-else-not-input_matches c = (
  λ _. with_last (λ k. AreFedAlike c.args.g.now.graph c.args.left.now.graph (port_of c.args.g.now (port_at c.args.twin k)) (port_of c.args.left.now (port_at c.args.node k))) c.loop-port.port c.args.count (omega arith) c.loop-port.invariant (c.input_matches.ensures.0 c.if-not-input_matches.false),
  λ _. refl,
)
