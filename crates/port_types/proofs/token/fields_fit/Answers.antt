use Rattle.std.proofs.Common.{◌≡◌, rules, tests, arith}
use Rattle.std.specs.List.{zip, list_all}
use Rattle.std.proofs.lemmas.Iterator.{YieldsList-from_slice, YieldsList-from_zip}
use Rattle.std.proofs.lemmas.Iterator.Search.{all_from_yields_List}
use Rattle.port_types.proofs.Widths.{pair_fits, pairs_fit, length-fits}
use Rattle.port_types.proofs.token.fields_fit.Goals as goal

pub returns-then-widths-numbers : goal.returns-then-widths-numbers
returns-then-widths-numbers c =
    let widths = c.args.widths.now in
    let numbers = c.args.numbers.now in
    let tested : c.all.result ≡ list_all pair_fits (zip widths numbers) =
    all_from_yields_List pair_fits c.all.new.self _ _ c.all.ensures.ran (YieldsList-from_zip (YieldsList-from_slice widths cc) (YieldsList-from_slice numbers cc)) (λ x b q k. search (rules, tests)) in
    rw tested (pairs_fit widths numbers c.if-widths-numbers.true)

pub returns-else-widths-numbers : goal.returns-else-widths-numbers
returns-else-widths-numbers c =
    let different = c.if-widths-numbers.false in
    (λ e. absurd (grind (arith, tests, e, different)), λ fits. absurd (grind (arith, tests, different, length-fits _ _ fits)))
