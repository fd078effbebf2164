use Rattle.std.proofs.Common.{◌≡◌, inl, inr, rules}
use Rattle.loop_find.proofs.RootWalks.{root_here, root_past, root_either}
use Rattle.loop_find.proofs.root.has_root.Goals as goal

pub returns-then-eq : goal.returns-then-eq
returns-then-eq c =
    let same : c.source_of-source.result ≡ c.args.root = search rules in (
      λ is. root_here c.args.g.now c.is_graph.ensures c.args.target c.source_of-source.result c.args.root c.args.rooted.now.ids c.source_of-source.ensures.fed c.source_of-source.ensures.live c.requires.live
          c.requires.ends c.requires.rooted same,
      λ root. c.if-eq.true,
    )

pub returns-else-eq : goal.returns-else-eq
returns-else-eq c =
    let apart : ¬ (c.source_of-source.result ≡ c.args.root) = search rules in (
      λ is. root_past c.args.g.now c.is_graph.ensures c.args.target c.source_of-source.result c.args.root c.args.rooted.now.ids c.source_of-source.ensures.fed c.source_of-source.ensures.live c.requires.live
          c.requires.ends c.requires.rooted (c.contains.ensures.0 is),
      λ root. elim (root_either c.args.g.now c.is_graph.ensures c.args.target c.source_of-source.result c.args.root c.args.rooted.now.ids c.source_of-source.ensures.fed c.source_of-source.ensures.live c.requires.live
          c.requires.ends c.requires.rooted root) [ inl same ↦ absurd (apart same) | inr i ↦ c.contains.ensures.1 i ],
    )
