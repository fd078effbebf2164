use Rattle.std.proofs.Common.{ap}
use Rattle.loop_find.proofs.Oks.{on_ok}
use Rattle.loop_find.proofs.Unions.{both_from_none}
use Rattle.loop_find.proofs.feeders.unite.Goals as goal

pub returns-clause-both : goal.returns-clause-both
returns-clause-both c =
    on_ok c.insert_all-2.result
    (both_from_none c.clear.new.self.ids c.args.one.now.ids c.args.other.now.ids c.insert_all.new.seen.ids c.insert_all-2.new.seen.ids (ap (λ v. v.ids) c.clear.ensures) c.in_ok-insert_all.ensures.both)
    c.insert_all-2.ensures.both
