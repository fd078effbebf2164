use Rattle.std.proofs.Common.{inl, inr, sym, ◌∙◌}
use Rattle.std.proofs.lemmas.Bool.{false≢true}
use Rattle.loop_find.proofs.Feeding.{feeds_at, fed_among}
use Rattle.loop_find.proofs.candidates.feeds_at.Goals as goal

pub returns-then-contains : goal.returns-then-contains
returns-then-contains c = (
  λ yes. feeds_at c.args.g.now c.args.takers.now.ids c.is_graph.ensures c.args.seen.now.ids c.args.source c.in-Some.target c.in-Some.ensures (inl (c.contains.ensures.0 yes)),
  λ feeds. c.if-contains.true,
)

pub returns-else-contains : goal.returns-else-contains
returns-else-contains c = (
  λ yes. feeds_at c.args.g.now c.args.takers.now.ids c.is_graph.ensures c.args.seen.now.ids c.args.source c.in-Some.target c.in-Some.ensures (inr (c.contains-else-contains.ensures.0 yes)),
  λ feeds. elim (fed_among c.args.g.now c.args.takers.now.ids c.is_graph.ensures c.args.seen.now.ids c.args.source c.in-Some.target c.in-Some.ensures feeds) [
    | inl i ↦ absurd (false≢true (sym c.if-contains.false ∙ c.contains.ensures.1 i))
    | inr i ↦ c.contains-else-contains.ensures.1 i
  ],
)
