use Rattle.std.proofs.Common.{◌≡◌, ◌+◌, ◌++◌, ◌∷◌, [], refl, subst, sym, arith}
use Rattle.subst_engine.specs.PartLists.{GoneBelow}
use Rattle.subst_engine.proofs.GoneLists.{no_more_gone, one_more_gone, all_gone}
use Rattle.subst_engine.proofs.gone.gone_ids.Goals as goal
use Rattle.subst_engine.proofs.gone.gone_ids.Goals.{in-Some+in_ok-push, in_default}

pub loop-index-preserved : goal.loop-index-preserved
loop-index-preserved c =
    let g = c.args.g.now in
    let left = c.args.left.now in
    elim c.match-gone_id.branch [
      | in-Some+in_ok-push w ↦
          let items : c.match-gone_id.gone.items ≡ c.loop-index.gone.items ++ w.in-Some.id ∷ [] = rw w.gone-is w.in_ok-push.ensures.items in
          let (name, here, denotes) = w.in-Some.ensures in
          subst (GoneBelow g left (c.loop-index.index + 1)) (sym items) (one_more_gone g left c.is_graph.ensures c.is_graph-2.ensures c.loop-index.index c.loop-index.gone.items c.loop-index.invariant name w.in-Some.id here denotes)
      | in_default w ↦
          let items : c.match-gone_id.gone.items ≡ c.loop-index.gone.items = rw w.gone-is refl in
          subst (GoneBelow g left (c.loop-index.index + 1)) (sym items) (no_more_gone g left c.is_graph.ensures c.is_graph-2.ensures c.loop-index.index c.loop-index.gone.items c.loop-index.invariant w.in_default.ensures)
    ]

pub returns : goal.returns
returns c =
    let g = c.args.g.now in
    let left = c.args.left.now in
    let last : c.loop-index.index ≡ left.slots = omega arith in
    all_gone g left c.is_graph.ensures c.is_graph-2.ensures c.loop-index.gone.items (subst (λ n. GoneBelow g left n c.loop-index.gone.items) last c.loop-index.invariant)
