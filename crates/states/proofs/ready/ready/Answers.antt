use Rattle.std.proofs.Common.{sym, subst, Option}
use Rattle.std.specs.Prelude.{MatchOption}
use Rattle.states.specs.declared.taking.Taking.{Taking}
use Rattle.states.specs.Ready.{CanFire, IsReady}
use Rattle.states.proofs.Readiness.{ready_by}
use Rattle.states.proofs.ready.ready.Goals as goal

pub returns : goal.returns
returns c =
    subst (λ (o : Option Taking). MatchOption o (¬ (CanFire c.args.kind.now c.args.choice c.args.place.now)) (IsReady c.args.kind.now c.args.choice c.args.place.now)) (sym c.taking.ensures)
    (ready_by c.args.kind.now c.args.choice c.args.place.now c.requires)
