-- A rule with the body that it takes the place of.
use Rattle.std.specs.Prelude.{refl}
use Rattle.std.specs.Coded.{Coded, code_by, coded×}
use Rattle.subst_engine.specs.Rule.{NamedRule, rule_code}
use Rattle.loop_body.specs.Body.{Body}
use Rattle.loop_body.specs.contracts.body.Body as body_row

pub record BodyRule : Type 0 where
  pub rule : NamedRule
  pub body : Body

-- how it is stored, where it is the value of a type
abbrev pub body_rule_code : Coded BodyRule
body_rule_code = code_by (NamedRule × Body) (coded× rule_code body_row.the_row.coded) (λ r. (r.rule, r.body)) (λ p. record { rule = p.0; body = p.1 }) (λ _. refl)
