use Rattle.std.proofs.Common.{[], ◌∷◌, ◌++◌, sym, ◌∙◌, subst}
use Rattle.std.proofs.lemmas.Iterator.Adapters.{YieldsList-from_vec}
use Rattle.std.proofs.lemmas.Iterator.Consumers.{YieldsList-end}
use Rattle.loop_body.specs.Binding.{IsSettled}
use Rattle.loop_body.proofs.Depths.{taken_all}
use Rattle.loop_body.proofs.Settled.{settled_none_at, settled_more, settled_all}
use Rattle.loop_body.proofs.binds.settle.Goals as goal

pub loop-wired-init : goal.loop-wired-init
loop-wired-init c = λ more. settled_none_at c.args.fields c.args.binds.now.items c.new-places.result.items c.new-places.ensures.items more

pub loop-wired-preserved : goal.loop-wired-preserved
loop-wired-preserved c =
    subst (λ places. IsSettled c.args.fields c.args.binds.now.items (c.loop-wired.yielded ++ c.in-Some.wired ∷ []) places c.bind.new.binds.items) (sym c.in_ok-push.ensures.items)
    (settled_more c.args.fields c.args.binds.now.items c.loop-wired.yielded c.loop-wired.places.items c.loop-wired.binds.items c.in-Some.wired c.in_ok-place.place c.bind.new.binds.items
    c.loop-wired.invariant c.in_ok-place.ensures)

pub returns : goal.returns
returns c =
    let given = c.into_iter-wired-iterator.ensures.into_iter_gives in
    let all =
    (YieldsList-end (YieldsList-from_vec {s = c.into_iter-wired-iterator.result} c.args.wire.items given.0 (given.1 ∙ c.args.wire.ok.0))
    c.loop-wired.yielded c.loop-wired.wired-iterator c.loop-wired.yielded_by c.next.result c.next.new.self c.in-None.is c.next.ensures.steps).0
    in
    settled_all c.args.fields _ c.loop-wired.yielded c.args.wire.items c.loop-wired.places.items c.loop-wired.binds.items c.loop-wired.invariant (taken_all c.loop-wired.yielded c.args.wire.items all)
