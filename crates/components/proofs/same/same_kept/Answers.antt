use Rattle.std.proofs.Common.{sym, ◌∙◌, true≢false}
use Rattle.components.proofs.Alike.{same_where_among, among_where_same}
use Rattle.components.proofs.same.same_kept.Goals as goal

pub returns-then-are_among : goal.returns-then-are_among
returns-then-are_among c =
    let a = c.args.a.now in
    let b = c.args.b.now in
    let each = c.are_among.ensures.0 c.if-are_among.true in (
      λ back. same_where_among a b c.requires.first c.requires.second each (c.are_among-then-are_among.ensures.0 back),
      λ same. c.are_among-then-are_among.ensures.1 (among_where_same b a c.requires.second (sym same)),
    )

pub returns-else-are_among : goal.returns-else-are_among
returns-else-are_among c =
    (λ each. absurd (true≢false (sym each ∙ c.if-are_among.false)), λ same. c.are_among.ensures.1 (among_where_same c.args.a.now c.args.b.now c.requires.first same))
