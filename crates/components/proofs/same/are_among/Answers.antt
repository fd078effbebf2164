use Rattle.std.proofs.Common.{sym, subst, Contains, rules, arith}
use Rattle.std.proofs.lemmas.List.Elements.{AllWithin-more, at_read}
use Rattle.components.proofs.same.are_among.Goals as goal

pub returns-then-not-is_among : goal.returns-then-not-is_among
returns-then-not-is_among c =
    let among = Contains c.args.list.now in
    let none : ¬ (among c.pair-item.result) = λ there. absurd (search (rules, c.is_among.ensures.1 there)) in
    (λ e. absurd (cc), λ each. absurd (none (subst among (sym c.pair-item.is) (each c.loop-pair.pair-index c.pair-item.result (omega arith)))))

pub loop-pair-preserved : goal.loop-pair-preserved
loop-pair-preserved c =
    let among = Contains c.args.list.now in
    let there : among c.pair-item.result = c.is_among.ensures.0 (search rules) in
    AllWithin-more among c.args.kept.now 0 c.loop-pair.pair-index c.loop-pair.invariant (at_read c.args.kept.now among c.loop-pair.pair-index c.pair-item.result (omega arith) c.pair-item.is there)
