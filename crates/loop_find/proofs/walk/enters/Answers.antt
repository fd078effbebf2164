use Rattle.std.proofs.Common.{◌∙◌, not, sym, ap, subst}
use Rattle.std.specs.Prelude.{IsTrue}
use Rattle.std.proofs.lemmas.Bool.{eq-eqb, false≢true}
use Rattle.graph_core.specs.GraphValue.{port_of}
use Rattle.loop_find.specs.Walks.{Enters}
use Rattle.loop_find.proofs.Walking.{enters_body}
use Rattle.loop_find.proofs.walk.enters.Goals as goal

pub returns-then-ne : goal.returns-then-ne
returns-then-ne c =
    subst (λ way. (IsTrue (not c.is_branch.result) → Enters c.args.g.now way (port_of c.args.g.now c.args.target)) × (Enters c.args.g.now way (port_of c.args.g.now c.args.target) → IsTrue (not c.is_branch.result))) (sym c.in-Body.is)
    (enters_body c.args.g.now c.is_graph.ensures c.args.target.node c.in-Body.mark c.is_branch.result c.requires
    (λ same. false≢true (sym (c.ne.ensures ∙ ap not (eq-eqb _ _ (ap (λ i. i.index) same))) ∙ c.if-ne.true)) c.is_branch.ensures)
