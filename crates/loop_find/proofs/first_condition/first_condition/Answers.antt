use Rattle.std.proofs.Common.{sym}
use Rattle.graph_core.specs.GraphValue.{name_by}
use Rattle.loop_find.specs.Roots.{IsRootOf}
use Rattle.loop_find.proofs.Conditions.{branch_fed}
use Rattle.loop_find.proofs.FirstRoots.{no_condition, its_condition}
use Rattle.loop_find.proofs.Oks.{if_ok}
use Rattle.loop_find.proofs.first_condition.first_condition.Goals as goal

pub find_root-requires-clause-fed : goal.find_root-requires-clause-fed
find_root-requires-clause-fed c =
    let x = c.in-Some.first.now in
    branch_fed c.args.g.now c.requires.typed (name_by c.args.g.now.ids c.args.mark) c.args.goes_back x (c.requires.lanes.each 0 x (sym c.in-Some.ensures.value))

pub returns-in-Some-clause-root : goal.returns-in-Some-clause-root
returns-in-Some-clause-root c =
    let x = c.in-Some.first.now in
    if_ok c.find_root.result (λ found (is : IsRootOf c.args.g.now (record { node = x.branch; port = 2 }) found). its_condition c.args.g.now c.args.lanes.now x (sym c.in-Some.ensures.value) found is) c.find_root.ensures.root

pub returns-in-None-clause-root : goal.returns-in-None-clause-root
returns-in-None-clause-root c = no_condition c.args.g.now c.args.lanes.now (sym c.in-None.ensures.value)
