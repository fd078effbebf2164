use Rattle.std.proofs.Common.{◌≡◌, ◌+◌, ◌-◌, ◌≤◌, ◌++◌, ◌∷◌, [], Some, length, vec_len, vec_capacity, rules, sym, subst, arith}
use Rattle.graph_core.specs.declared.cells.Slot.TheVariants.{Free}
use Rattle.graph_core.proofs.SlotLemmas.{SoGrown, so_grown}
use Rattle.graph_core.proofs.cells.grow.Goals as goal

pub loop-done-preserved : goal.loop-done-preserved
loop-done-preserved c =
    let pushed : c.push.new.self.items ≡ c.loop-done.slots.items ++ Free c.loop-done.first ∷ [] = search rules in
    let index : c.len-index.result ≡ length c.loop-done.slots.items = search rules in
    let longer : vec_len c.push.new.self ≡ vec_len c.loop-done.slots + 1 = search rules in
    let room : vec_len c.loop-done.slots + (c.args.more - c.loop-done.done) ≤ vec_capacity c.loop-done.slots = c.loop-done.invariant.1 in
    let kept : vec_capacity c.loop-done.slots ≤ vec_capacity c.push.new.self = c.push.ensures.capacity in (
      subst (λ i. SoGrown c.args.slots.now.items c.push.new.self.items (Some i) (c.loop-done.done + 1)) (sym index)
          (so_grown c.args.slots.now.items c.loop-done.slots.items c.push.new.self.items c.loop-done.first c.loop-done.done c.loop-done.invariant.0 pushed),
      omega arith,
    )
