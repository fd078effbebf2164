use Rattle.std.proofs.Common.{◌∷◌, ◌∙◌, map, sym, ap, subst}
use Rattle.components.specs.declared.kind.Kind.TheVariants.{Split}
use Rattle.components.specs.declared.node.Node.{Node}
use Rattle.components.specs.Kind.{KindOk}
use Rattle.loop_body.specs.Body.{Body}
use Rattle.fun_expr.specs.Each.{Each}
use Rattle.gather_rule.proofs.Near.{split_ok, lanes_found}
use Rattle.gather_rule.proofs.lanes.lanes_of.Goals as goal

pub shapes_at-requires : goal.shapes_at-requires
shapes_at-requires c =
    subst (λ k. Each KindOk (k ∷ map (λ (n : Node). n.kind) c.as_slice.result.now)) (sym (c.in_ok-split.ensures ∙ ap (λ (z : Body). Split z.vars) c.body.view_is))
    (subst (λ nodes. Each KindOk (Split c.args.body.now.vars ∷ map (λ (n : Node). n.kind) nodes)) (sym (c.as_slice.ensures ∙ ap (λ (z : Body). z.nodes) c.body.view_is)) (split_ok c.args.body.now c.requires))

pub returns : goal.returns
returns c =
    lanes_found c.args.body.now c.requires (c.in_ok-split.split ∷ map (λ (n : Node). n.kind) c.as_slice.result.now) c.as_slice-2.result.now c.in_ok-lanes.lanes
    (λ i. (c.in_ok-split.ensures ∙ ap (λ (z : Body). Split z.vars) c.body.view_is) i ∷ map (λ (n : Node). n.kind) ((c.as_slice.ensures ∙ ap (λ (z : Body). z.nodes) c.body.view_is) i)) (c.as_slice-2.ensures ∙ ap (λ (z : Body). z.next) c.body.view_is) c.in_ok-lanes.ensures
