use Rattle.std.proofs.Common.{true≢false, ◌≡◌, ◌∷◌, ◌++◌, List, ap, sym, ◌∙◌, length, arith}
use Rattle.fun_expr.specs.Each.{total}
use Rattle.loop_body.specs.declared.body_port.BodyPort.{BodyPort}
use Rattle.loop_body.specs.Body.{flat}
use Rattle.loop_body.specs.Judging.{kinds_of, rows_of, all_fresh, unmarked}
use Rattle.loop_body.proofs.Marking.{marks_permute, permuted_marks, permuted_count}
use Rattle.loop_body.proofs.marks.are_used_once.Goals as goal

pub returns-then-len-output_count : goal.returns-then-len-output_count
returns-then-len-output_count c =
    let uses = flat c.args.inputs.now ++ c.args.next.now ++ c.args.conditions.now in
    let rows = rows_of (c.args.split.now ∷ kinds_of c.args.nodes.now) in (
      λ e. absurd (true≢false (sym e)),
      λ once. absurd (omega (arith, permuted_count uses rows once, ap (λ (ports : List BodyPort). length ports) c.in_ok-ports.ensures, c.len.ensures, c.output_count.ensures, c.if-len-output_count.true)),
    )

pub returns : goal.returns
returns c =
    let uses = flat c.args.inputs.now ++ c.args.next.now ++ c.args.conditions.now in
    let rows = rows_of (c.args.split.now ∷ kinds_of c.args.nodes.now) in
    let ports = c.deref.ensures.value ∙ c.in_ok-ports.ensures in
    let count : length uses ≡ total length rows = omega (arith, ap (λ (ports : List BodyPort). length ports) c.in_ok-ports.ensures, c.len.ensures, c.output_count.ensures, c.if-len-output_count.false) in
    let is : c.mark_all.result ≡ all_fresh uses (unmarked rows) = c.mark_all.ensures ∙ ap (λ xs. all_fresh xs c.in_ok-rows.rows.items) ports ∙ ap (all_fresh uses) c.in_ok-rows.ensures in
    (λ fresh. marks_permute uses rows count (sym is ∙ fresh), λ once. is ∙ permuted_marks uses rows once)
