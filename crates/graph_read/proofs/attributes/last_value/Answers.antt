use Rattle.std.proofs.Common.{◌≡◌, List, ℕ, Bool, cond, Some, take, sym, ap, ◌∙◌}
use Rattle.std.specs.Prelude.{bytes_eq}
use Rattle.graph_read.specs.Attributes.{last_value}
use Rattle.graph_read.proofs.Pairs.{last_value-next}
use Rattle.graph_read.proofs.attributes.last_value.Goals as goal
use Rattle.graph_read.proofs.attributes.last_value.Goals.{then-eq, else-eq}

pub loop-pair-preserved : goal.loop-pair-preserved
loop-pair-preserved c =
    let next = last_value-next c.args.key.now c.args.pairs.now c.loop-pair.pair-index c.pair-item.result c.loop-pair-test.true c.pair-item.is in
    let key_is : bytes_eq c.bytes.result.now c.args.key.now ≡ bytes_eq c.pair-item.result.0 c.args.key.now = ap (λ (b : List ℕ). bytes_eq b c.args.key.now) c.bytes.ensures.same in
    let at = λ (t : Bool). cond t (Some c.pair-item.result.1) (last_value c.args.key.now (take c.loop-pair.pair-index c.args.pairs.now)) in
    elim c.if-eq.branch [
      | then-eq w ↦ rw w.found-is (ap (λ (b : List ℕ). Some b) w.bytes-then-eq.ensures.same ∙ ap at (w.if-eq.ensures ∙ key_is) ∙ sym next)
      | else-eq w ↦ rw w.found-is (c.loop-pair.invariant ∙ ap at (w.if-eq.ensures ∙ key_is) ∙ sym next)
    ]
