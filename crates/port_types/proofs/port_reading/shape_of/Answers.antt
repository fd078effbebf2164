use Rattle.std.proofs.Common.{◌≡◌, ◌==◌, ◌≤◌, length, map, take, ◌∙◌, ap, arith, rules, tests, subst, is_ok, true}
use Rattle.std.specs.Str.Parse.{digits_value}
use Rattle.std.proofs.lemmas.List.{length_push}
use Rattle.std.proofs.lemmas.Iterator.Consumers.{YieldsList-turn, YieldsList-end}
use Rattle.std.proofs.lemmas.Iterator.Splits.{YieldsList-from_slice_split}
use Rattle.std.specs.Option.{ok_or}
use Rattle.std.proofs.Math.Seq.{take-length}
use Rattle.port_types.specs.declared.port.PortFault.TheVariants.{TooWide}
use Rattle.port_types.specs.PortGrammar.{fields_of, shape_within, IsReading}
use Rattle.port_types.proofs.Fields.{numeral_at, next_width_of, too_wide_at, shape_or_fault}
use Rattle.port_types.proofs.port_reading.shape_of.Goals as goal

pub small_value-requires : goal.small_value-requires
small_value-requires c =
    let turn =
    YieldsList-turn (YieldsList-from_slice_split _ (λ byte. byte == 46) c.args.text.now (cc) (cc) (cc) (λ x r q k. search (rules, tests)))
    c.loop-field.yielded _ c.loop-field.yielded_by _ _ c.in-Some.field c.in-Some.is c.next.ensures.steps in
    numeral_at (fields_of c.args.text.now) (length c.loop-field.yielded) c.in-Some.field.now c.requires turn.0 turn.1

pub returns-in_default : goal.returns-in_default
returns-in_default c told =
    let turn =
    YieldsList-turn (YieldsList-from_slice_split _ (λ byte. byte == 46) c.args.text.now (cc) (cc) (cc) (λ x r q k. search (rules, tests)))
    c.loop-field.yielded _ c.loop-field.yielded_by _ _ c.in-Some.field c.in-Some.is c.next.ensures.steps in
    let great : 256 ≤ digits_value 10 c.in-Some.field.now = c.in_default.ensures in
    too_wide_at (fields_of c.args.text.now) (length c.loop-field.yielded) c.in-Some.field.now turn.0 turn.1 (omega arith)

pub loop-field-preserved : goal.loop-field-preserved
loop-field-preserved c =
    let turn =
    YieldsList-turn (YieldsList-from_slice_split _ (λ byte. byte == 46) c.args.text.now (cc) (cc) (cc) (λ x r q k. search (rules, tests)))
    c.loop-field.yielded _ c.loop-field.yielded_by _ _ c.in-Some.field c.in-Some.is c.next.ensures.steps in
    let width : c.in-Some-small_value.width ≡ digits_value 10 c.in-Some.field.now = c.in-Some-small_value.ensures in
    let next = next_width_of (fields_of c.args.text.now) (length c.loop-field.yielded) c.in-Some.field.now turn.0 turn.1 in
    let count = length_push c.loop-field.yielded c.in-Some.field in
    let pushed : is_ok c.push.result ≡ true = search rules in
    grind (arith, c.push.ensures.items)

pub returns : goal.returns
returns c =
    let end =
    YieldsList-end (YieldsList-from_slice_split _ (λ byte. byte == 46) c.args.text.now (cc) (cc) (cc) (λ x r q k. search (rules, tests)))
    c.loop-field.yielded _ c.loop-field.yielded_by _ _ c.in-None.is c.next.ensures.steps in
    let all : c.loop-field.widths.items ≡ map (digits_value 10) (fields_of c.args.text.now) =
    c.loop-field.invariant ∙ ap (λ count. map (digits_value 10) (take count (fields_of c.args.text.now))) end.1 ∙ ap (map (digits_value 10)) (take-length (fields_of c.args.text.now)) in
    let made = shape_or_fault c.loop-field.widths.items c.new.result c.new.ensures.shape c.new.ensures.widths in
    rw c.ok_or.ensures.value (subst (λ widths. IsReading (shape_within widths) (ok_or c.new.result TooWide)) all made)
