use Rattle.std.proofs.Common.{◌≡◌, ◌∙◌, inl, inr, Err, IfErr, rules, arith, refl, sym, ap, subst}
use Rattle.std.proofs.lemmas.Bool.{cases_eq}
use Rattle.graph_core.specs.Open.{IsClosed, IsFirstOpen}
use Rattle.graph_core.specs.Place.{id_of}
use Rattle.graph_core.proofs.OpenPorts.{first_of_all, no_open_port, not_both, typed_where_closed}
use Rattle.graph_core.proofs.open.check_typed.Goals as goal

pub returns-in_err-check_node-clause-typed : goal.returns-in_err-check_node-clause-typed
returns-in_err-check_node-clause-typed c = (
  λ is_ok. absurd (not_both c.from_residual.result c.from_residual.ensures.0 is_ok),
  λ typed. absurd (no_open_port c.args.g.now c.is_graph.ensures typed c.in_err-check_node.field-0.0 c.in_err-check_node.ensures.is_open),
)

pub returns-in_err-check_node-clause-first : goal.returns-in_err-check_node-clause-first
returns-in_err-check_node-clause-first c =
    let is : c.from_residual.result ≡ Err c.in_err-check_node.field-0.0 = search rules in
    let at : c.new.result.index ≡ c.loop-index.index = ap (λ i. i.index) c.new.ensures in
    subst (λ r. IfErr r (IsFirstOpen c.args.g.now)) (sym is)
    (first_of_all c.args.g.now c.is_graph.ensures c.new.result c.in_err-check_node.field-0.0 (λ other below. c.loop-index.invariant other (omega arith)) c.in_err-check_node.ensures)

pub loop-index-preserved : goal.loop-index-preserved
loop-index-preserved c id below =
    elim (cases_eq id.index c.loop-index.index) [
      | inl one ↦ subst (IsClosed c.args.g.now) (c.new.ensures ∙ ap id_of (sym one)) c.in_ok-check_node.ensures
      | inr two ↦ c.loop-index.invariant id (omega arith)
    ]

pub returns-clause-typed : goal.returns-clause-typed
returns-clause-typed c = (λ _. typed_where_closed c.args.g.now c.is_graph.ensures (λ id below. c.loop-index.invariant id (omega arith)), λ _. refl)
