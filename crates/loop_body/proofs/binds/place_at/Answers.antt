use Rattle.std.proofs.Common.{length, ap, sym, ◌∙◌}
use Rattle.std.proofs.lemmas.Option.{unwrap_or-slice_get}
use Rattle.std.proofs.lemmas.Bool.{ltb-true, ltb-false}
use Rattle.std.proofs.lemmas.List.{get_or_read, get_or_past}
use Rattle.fun_expr.specs.declared.expr.Expr.TheVariants.{Field}
use Rattle.loop_body.proofs.ExprTrees.{renumbered-field}
use Rattle.loop_body.proofs.binds.place_at.Goals as goal

pub returns-in-Some : goal.returns-in-Some
returns-in-Some c =
    let lt = ltb-true c.args.place (length c.args.places.now) (sym c.in-Some.ensures.lookup.0) in
    ap Field (get_or_read c.args.places.now c.args.place c.in-Some.at.now lt c.in-Some.ensures.lookup.1 0 ∙ sym (unwrap_or-slice_get c.args.places.now c.args.place 0)) ∙
    sym (renumbered-field c.args.places.now c.args.place)

pub returns-in-None : goal.returns-in-None
returns-in-None c =
    let le = ltb-false c.args.place (length c.args.places.now) (sym c.in-None.ensures.lookup.0) in
    sym (renumbered-field c.args.places.now c.args.place ∙ ap Field (unwrap_or-slice_get c.args.places.now c.args.place 0 ∙ get_or_past c.args.places.now c.args.place 0 le))
