use Rattle.std.proofs.Common.{◌∷◌, [], take, drop}
use Rattle.std.specs.Prelude.{◌↔◌}
use Rattle.components.specs.Kind.{KindOk, outs}
use Rattle.fun_expr.specs.Each.{Each}
use Rattle.loop_body.specs.Body.{NodesFit}
use Rattle.loop_body.specs.Judging.{kinds_of, rows_of}
use Rattle.loop_body.proofs.fitting.nodes_fit.Given as goal

-- the nodes so far fit: all fit exactly where the rest does
abbrev pub invariant-loop-i : goal.invariant-loop-i
invariant-loop-i l =
    (NodesFit (outs l.split ∷ []) (kinds_of l.nodes) l.inputs ↔ NodesFit (rows_of (l.split ∷ take l.i (kinds_of l.nodes))) (drop l.i (kinds_of l.nodes)) (drop l.i l.inputs)) × Each KindOk (take l.i (kinds_of l.nodes))
