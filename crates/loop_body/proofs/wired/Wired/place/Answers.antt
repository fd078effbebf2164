use Rattle.std.proofs.Common.{sym, ap, ◌∙◌}
use Rattle.fun_expr.specs.Expr.{place_of}
use Rattle.loop_body.proofs.ExprTrees.{place-field, place-lit, place-apply}
use Rattle.loop_body.proofs.wired.Wired.place.Goals as goal

pub returns-in-Field : goal.returns-in-Field
returns-in-Field c = sym (ap place_of (sym c.self.view_is ∙ c.in-Field.is) ∙ place-field c.in-Field.place)

pub returns-in-Lit : goal.returns-in-Lit
returns-in-Lit c = sym (ap place_of (sym c.self.view_is ∙ c.in-Lit.is) ∙ place-lit c.in-Lit.field-0 c.in-Lit.field-1)

pub returns-in-Apply : goal.returns-in-Apply
returns-in-Apply c = sym (ap place_of (sym c.self.view_is ∙ c.in-Apply.is) ∙ place-apply c.in-Apply.field-0 c.in-Apply.field-1 c.in-Apply.field-2)
