use Rattle.std.proofs.Common.{map, refl, ap, ◌∙◌, arith}
use Rattle.std.proofs.lemmas.Bool.{ltb-true, lt-ltb}
use Rattle.std.proofs.lemmas.List.{drop_all}
use Rattle.fun_expr.specs.Each.{largest}
use Rattle.fun_expr.specs.FunReading.{places_bound}
use Rattle.fun_expr.proofs.Sizes.{largest_step, item_largest}
use Rattle.fun_expr.proofs.PlaceBounds.{bound-field, bound-lit, bound_of_apply}
use Rattle.fun_expr.proofs.bounds.+has_places_below.Goals as goal

pub loop-arg-init : goal.loop-arg-init
loop-arg-init t c = λ h. h

pub returns-then-not-has_places_below : goal.returns-then-not-has_places_below
returns-then-not-has_places_below t c = (
  λ h. absurd cc,
  λ h.
      let bound = bound_of_apply c.args.e.now c.in-Apply.field-0 c.in-Apply.field-1 c.in-Apply.args c.as_slice-arg-items.result.now c.in-Apply.is c.as_slice-arg-items.ensures in
      let item = item_largest places_bound c.as_slice-arg-items.result.now c.loop-arg.arg-index c.arg-item.result c.loop-arg-test.true c.arg-item.is in
      let yes = c.has_places_below.ensures.1 (omega (arith, bound, item, h)) in
      absurd cc,
)

pub loop-arg-preserved : goal.loop-arg-preserved
loop-arg-preserved t c = λ h.
    let step = largest_step places_bound c.as_slice-arg-items.result.now c.loop-arg.arg-index c.arg-item.result c.loop-arg-test.true c.arg-item.is in
    c.loop-arg.invariant (omega (arith, step, h, c.has_places_below.ensures.0 c.if-not-has_places_below.false))

pub returns-after-loop-arg : goal.returns-after-loop-arg
returns-after-loop-arg t c = (
  λ h.
      let bound = bound_of_apply c.args.e.now c.in-Apply.field-0 c.in-Apply.field-1 c.in-Apply.args c.as_slice-arg-items.result.now c.in-Apply.is c.as_slice-arg-items.ensures in
      let none = ap (λ xs. largest (map places_bound xs)) (drop_all c.loop-arg.arg-index c.as_slice-arg-items.result.now (omega arith)) in
      let all = c.loop-arg.invariant (omega (arith, none)) in
      omega (arith, bound, all),
  λ h. refl,
)

pub returns-in-Field : goal.returns-in-Field
returns-in-Field t c =
    let bound = ap places_bound c.in-Field.is ∙ bound-field c.in-Field.place in
    (λ h. omega (arith, bound, ltb-true c.in-Field.place c.args.fields h), λ h. lt-ltb c.in-Field.place c.args.fields (omega (arith, bound, h)))

pub returns-in-Lit : goal.returns-in-Lit
returns-in-Lit t c = (λ h. omega (arith, ap places_bound c.in-Lit.is, bound-lit c.in-Lit.field-0 c.in-Lit.field-1), λ h. refl)
