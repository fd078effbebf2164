-- What drains all that a loop with lanes drains may come in its place.
use Rattle.std.proofs.Common.{◌≡◌, sym, ap, subst, ◌∙◌, Bool, List, Some}
use Rattle.std.proofs.lemmas.Option.{same_Some}
use Rattle.components.specs.declared.kind.Kind.{Kind}
use Rattle.components.specs.declared.kind.Kind.TheVariants.{Entry, Exit, Init, Mux, Branch}
use Rattle.components.specs.Name.{Name, Port, port_get}
use Rattle.components.specs.Kind.{Shape, outs}
use Rattle.components.specs.Numbered.{single_port}
use Rattle.circuits.specs.Buffers.{first_port}
use Rattle.circuits.specs.Circuit.{Circuit, Typed}
use Rattle.circuits.specs.Drains.{IsNoExit}
use Rattle.circuits.specs.Root.{PassesThrough}
use Rattle.circuits.specs.Values.{ValuesFit}
use Rattle.loop_laws.specs.Polarity.{fresh_in, exit_out}
use Rattle.loop_laws.specs.Reached.{port_at}
use Rattle.part_drains.proofs.Draining.{InitBehind, InitBehind.init, InitBehind.past}
use Rattle.part_drains.proofs.Notions.{behind_of}
use Rattle.part_drains.specs.Laws.{ReplacementKeepsDrains}
use Rattle.lane_drains.specs.LaneLoop.{LoopLane, IsLaneLoop}
use Rattle.lane_drains.specs.LaneEnds.{HasLaneEnds}
use Rattle.lane_drains.specs.Laws.{LaneLoopHoldsRest, LoopReplacedKeepsDrains}
use Rattle.lane_drains.proofs.TurnFunction.{function_loops}

module _ (c : Circuit) (d : Bool) (mark : Name) (lanes : List LoopLane) (body : List Name) (condition : Port) (ty : Typed c) (loop : IsLaneLoop c d mark lanes body condition) (only : HasLaneEnds c lanes) where
  lane_inputs : (p q : Port) (a : Shape) (k : Kind) → c.feeder p ≡ Some q → c.kind_at q.node ≡ Some (Entry a) → c.kind_at p.node ≡ Some k → ¬ (PassesThrough k) × IsNoExit k
  lane_inputs p q a k f e ek =
      let (l, i, is) = only.entry q.node a e in
      let w = loop.each_lane l i in
      let v = ty.wires p q f in
      let at : q.port ≡ 1 = single_port a v.shape q.port (ap (λ z. port_get (outs z) q.port) (same_Some (Entry a) v.from (sym e ∙ v.is_from)) ∙ v.leaves) in
      let one : q ≡ port_at l.entry 1 = λ j. record { node = is j; port = at j } in
      let same : p ≡ port_at l.mux (fresh_in d) = ty.once p (port_at l.mux (fresh_in d)) q f (w.fresh ∙ ap Some (sym one)) in
      subst (λ z. ¬ (PassesThrough z) × IsNoExit z) (same_Some (Mux l.shape) k (sym w.is_mux ∙ ap (λ (z : Port). c.kind_at z.node) (sym same) ∙ ek)) ((λ h. h), tt)

  lane_outputs : (n : Name) (a : Shape) → c.kind_at n ≡ Some (Exit a) → InitBehind c (first_port n) → ⊥
  lane_outputs n a e (init q v m f g) =
      let (l, i, is) = only.exit n a e in
      let w = loop.each_lane l i in
      let source : port_at l.branch (exit_out d) ≡ q = same_Some (port_at l.branch (exit_out d)) q (sym w.result ∙ ap (λ z. c.feeder (port_at z 1)) (sym is) ∙ f) in
      let z : Branch l.shape ≡ Init v m = same_Some (Branch l.shape) (Init v m) (sym w.is_branch ∙ ap (λ (z : Port). c.kind_at z.node) source ∙ g) in
      cc
  lane_outputs n a e (past q k f g pass ch) =
      let (l, i, is) = only.exit n a e in
      let w = loop.each_lane l i in
      let source : port_at l.branch (exit_out d) ≡ q = same_Some (port_at l.branch (exit_out d)) q (sym w.result ∙ ap (λ z. c.feeder (port_at z 1)) (sym is) ∙ f) in
      subst PassesThrough (same_Some k (Branch l.shape) (sym g ∙ ap (λ (z : Port). c.kind_at z.node) (sym source) ∙ w.is_branch)) pass

pub lane_loop_holds : LaneLoopHoldsRest
lane_loop_holds c d mark lanes body condition ty loop only =
    record {
      inputs = lane_inputs c d mark lanes body condition ty loop only;
      outputs = λ n a e h. lane_outputs c d mark lanes body condition ty loop only n a e (behind_of c (first_port n) h);
    }

pub loop_replaced : ValuesFit → ReplacementKeepsDrains → LoopReplacedKeepsDrains
loop_replaced values law g left right target nodes part new ty ports hold all off fun d mark lanes body condition loop only computes runs =
    law g left right target nodes part new ty ports (lane_loop_holds left d mark lanes body condition part.part loop only) hold all off
    (λ ins outs dr. runs ins outs (function_loops values fun left d mark lanes body condition part.part loop computes ins outs dr))
