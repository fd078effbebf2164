use Rattle.std.proofs.Common.{◌∙◌, ◌+◌, ◌<◌, ◌++◌, ◌∷◌, [], ap, sym, arith, drop, length, slice_index_or}
use Rattle.std.proofs.lemmas.List.{append_assoc, append-nil}
use Rattle.std.specs.List.{zip}
use Rattle.states.specs.Giving.{head_numbers, number_of}
use Rattle.states.proofs.Lists.{within_same, zip_none, zip_step}
use Rattle.states.proofs.giving.values.args.Goals as goal

pub loop-index-preserved : goal.loop-index-preserved
loop-index-preserved c =
    let ws = c.args.widths.now in
    let qs = c.args.queues.now in
    let index = c.loop-index.index in
    let under : index < length qs = omega (arith, c.requires, c.loop-index-test.true) in
    let rest = zip (drop (index + 1) ws) (head_numbers (drop (index + 1) qs)) in
    ap (λ x. x ++ rest) c.in_ok-push.ensures.items
    ∙ append_assoc c.loop-index.args.items ((slice_index_or ws index 0, c.number_of.result) ∷ []) rest
    ∙ ap (λ n. c.loop-index.args.items ++ (slice_index_or ws index 0, n) ∷ rest) (c.number_of.ensures ∙ ap number_of (c.index-queues-index.is ∙ within_same qs index c.index-queues-index.result [] under))
    ∙ ap (λ x. c.loop-index.args.items ++ x) (sym (zip_step ws qs index c.loop-index-test.true under))
    ∙ c.loop-index.invariant

pub returns : goal.returns
returns c =
    sym (append-nil c.loop-index.args.items)
    ∙ ap (λ x. c.loop-index.args.items ++ x) (sym (zip_none c.args.widths.now (head_numbers (drop c.loop-index.index c.args.queues.now)) c.loop-index.index c.loop-index-test.false))
    ∙ c.loop-index.invariant
