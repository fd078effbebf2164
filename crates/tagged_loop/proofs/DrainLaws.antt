-- What the graphs of the two loops drain.
use Rattle.std.proofs.Common.{sym, subst, arith}
use Rattle.std.specs.List.{AllByRecursion}
use Rattle.port_types.specs.Token.{Fits}
use Rattle.fun_expr.specs.Laws.{FunValueFits}
use Rattle.circuits.specs.Drains.{Drains}
use Rattle.circuit_plans.proofs.Plans.{built, kind_named}
use Rattle.loop_laws.specs.LoopResult.{EachLoops}
use Rattle.tagged_loop.specs.InOrderLoop.{entry, exit}
use Rattle.tagged_loop.specs.TaggedLoop.{new_entry, new_exit}
use Rattle.tagged_loop.specs.Laws.{InOrderDrainsAreLoops, LoopsAreInOrderDrains, LoopsAreTaggedDrains, TaggingKeepsDrains}
use Rattle.tagged_loop.proofs.LoopPlans.{in_order_plan, loop_maps}
use Rattle.tagged_loop.proofs.LoopGraphs.{old_naming, old_is, new_naming, new_is}
use Rattle.tagged_loop.proofs.LoopResults.{all_to_turns, all_from_turns}
use Rattle.tagged_loop.proofs.LoopDrains.{in_order_drains}
use Rattle.tagged_loop.proofs.LoopFlow.{drains_loop}
use Rattle.tagged_loop.proofs.TagDrains.{tagged_drains}

pub in_order_only : FunValueFits → InOrderDrainsAreLoops
in_order_only law loop name is once ins outs h =
    let naming = old_naming loop name once in
    let plan = in_order_plan loop.shape loop.fun loop.goes_back loop.mark in
    let d : Drains (built plan naming) ins outs = subst (λ c. Drains c ins outs) (old_is loop name once) h in
    all_from_turns loop.shape loop.fun loop.goes_back is.input (loop_maps law loop.shape loop.fun is) (ins (name entry)) (outs (name exit))
    (d.fit_in (name entry) loop.shape (kind_named plan naming entry))
    (drains_loop loop.shape loop.fun loop.goes_back loop.mark naming ins outs d)

pub in_order_all : FunValueFits → LoopsAreInOrderDrains
in_order_all law loop name is once ins outs fit l =
    subst (λ c. Drains c ins outs) (sym (old_is loop name once))
    (in_order_drains loop.shape loop.fun loop.goes_back loop.mark is.input (loop_maps law loop.shape loop.fun is) (old_naming loop name once) ins outs fit
    (all_to_turns loop.fun loop.goes_back (ins (name entry)) (outs (name exit)) l))

pub tagged_all : FunValueFits → LoopsAreTaggedDrains
tagged_all law loop tags name is some once ins outs fit l =
    subst (λ c. Drains c ins outs) (sym (new_is loop tags name once))
    (tagged_drains loop.shape loop.fun loop.goes_back tags is.input (loop_maps law loop.shape loop.fun is) (omega (arith, some)) (new_naming loop tags name once) ins outs fit
    (all_to_turns loop.fun loop.goes_back (ins (name new_entry)) (outs (name new_exit)) l))

pub tagging_keeps : FunValueFits → TaggingKeepsDrains
tagging_keeps law loop tags old new can ins outs h =
    let naming = old_naming loop old can.old_names in
    let plan = in_order_plan loop.shape loop.fun loop.goes_back loop.mark in
    let d : Drains (built plan naming) ins outs = subst (λ c. Drains c ins outs) (old_is loop old can.old_names) h in
    tagged_all law loop tags new can.function can.some can.new_names ins outs
    (subst (λ z. AllByRecursion (Fits loop.shape) (ins z)) (sym can.same_entry) (d.fit_in (old entry) loop.shape (kind_named plan naming entry)))
    (subst (λ z. EachLoops loop.fun loop.goes_back (ins z) (outs (new new_exit))) (sym can.same_entry)
    (subst (λ z. EachLoops loop.fun loop.goes_back (ins (old entry)) (outs z)) (sym can.same_exit) (in_order_only law loop old can.function can.old_names ins outs h)))
