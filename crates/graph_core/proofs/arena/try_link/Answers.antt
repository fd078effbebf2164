use Rattle.std.proofs.Common.{◌≡◌, ◌∙◌, inl, inr, None, is_some, rules, sym, ap, true≢false}
use Rattle.port_types.specs.declared.side.Side.TheVariants.{Ins, Outs}
use Rattle.graph_core.proofs.Link.{none_by}
use Rattle.graph_core.specs.Arena.{Owns}
use Rattle.graph_core.specs.Inside.{end_at}
use Rattle.graph_core.proofs.Link.{has_both, can_link, shapes_differ}
use Rattle.graph_core.proofs.arena.try_link.Goals as goal
use Rattle.graph_core.proofs.arena.try_link.Goals.{In_ok-to, then-is_some-via-then-is_some, then-is_some-via-else-is_some+then-is_some-2}

from : (c : In_ok-to) → Owns c.args.cells.now Outs c.args.source c.in_ok-from.from.now
from c = search rules

to : (c : In_ok-to) → Owns c.args.cells.now Ins c.args.target c.in_ok-to.to.now
to c = search rules

pub returns-then-is_some : goal.returns-then-is_some
returns-then-is_some c =
    let at = (goal.at.returns-then-is_some c).In_ok-to in (
      has_both c.args.cells.now c.args.source c.args.target c.in_ok-from.from.now c.in_ok-to.to.now (from at) (to at),
      elim c.then-is_some.branch [
        | then-is_some-via-then-is_some w ↦ inl (sym (ap is_some c.end.ensures) ∙ sym c.is_some.ensures ∙ w.if-is_some.true)
        | then-is_some-via-else-is_some+then-is_some-2 w ↦ inr (sym (ap is_some w.end-else-is_some.ensures) ∙ sym w.is_some-else-is_some.ensures ∙ w.if-is_some-2.true)
      ],
    )

pub returns-then-have_one_shape : goal.returns-then-have_one_shape
returns-then-have_one_shape c =
    let at = (goal.at.returns-then-have_one_shape c).In_ok-to in
    let into : end_at c.args.cells.now Ins c.args.target ≡ None = none_by _ (sym (ap is_some c.end.ensures) ∙ sym c.is_some.ensures ∙ c.if-is_some.false) in
    let out : end_at c.args.cells.now Outs c.args.source ≡ None = none_by _ (sym (ap is_some c.end-else-is_some.ensures) ∙ sym c.is_some-else-is_some.ensures ∙ c.if-is_some-2.false) in
    can_link c.args.cells.now c.args.source c.args.target c.in_ok-from.from.now c.in_ok-to.to.now (from at) (to at) (c.have_one_shape.ensures.0 c.if-have_one_shape.true) into out

pub returns-else-have_one_shape : goal.returns-else-have_one_shape
returns-else-have_one_shape c =
    let at = (goal.at.returns-else-have_one_shape c).In_ok-to in
    let into : end_at c.args.cells.now Ins c.args.target ≡ None = none_by _ (sym (ap is_some c.end.ensures) ∙ sym c.is_some.ensures ∙ c.if-is_some.false) in
    let out : end_at c.args.cells.now Outs c.args.source ≡ None = none_by _ (sym (ap is_some c.end-else-is_some.ensures) ∙ sym c.is_some-else-is_some.ensures ∙ c.if-is_some-2.false) in (
      has_both c.args.cells.now c.args.source c.args.target c.in_ok-from.from.now c.in_ok-to.to.now (from at) (to at),
      shapes_differ c.args.cells.now c.args.source c.args.target c.in_ok-from.from.now c.in_ok-to.to.now (from at) (to at) (λ same. true≢false (sym (c.have_one_shape.ensures.1 same) ∙ c.if-have_one_shape.false)),
      into,
      out,
    )
