use Rattle.std.proofs.Common.{◌≡◌, false, true, ◌<◌, ◌^◌, sym, ◌∙◌, ap, arith, rules, tests}
use Rattle.std.specs.Str.Parse.{digits_value}
use Rattle.std.specs.Fmt.{decimal}
use Rattle.port_types.specs.Numeral.{is_numeral}
use Rattle.port_types.proofs.Numerals.{written, not_written, too_great, not_zero}
use Rattle.port_types.proofs.numeral.small_number.Goals as goal

pub returns-then-not-is_numeral : goal.returns-then-not-is_numeral
returns-then-not-is_numeral c number some small =
    let not_numeral : is_numeral c.args.text.now ≡ false = search (rules, tests) in not_written c.args.text.now number not_numeral small

pub returns-in-Some : goal.returns-in-Some
returns-in-Some c =
    let numeral : is_numeral c.args.text.now ≡ true = search (rules, tests) in
    let value : c.in-Some.number ≡ digits_value 10 c.args.text.now = c.in-Some.ensures in
    let below : digits_value 10 c.args.text.now < 2 ^ 64 = omega arith in
    (omega arith, sym (written c.args.text.now numeral below) ∙ ap decimal (sym value))

pub returns-in_default : goal.returns-in_default
returns-in_default c number some small =
    let value : c.in-Some.number ≡ digits_value 10 c.args.text.now = c.in-Some.ensures in
    let zeros : 0 ≡ digits_value 10 c.args.text.now = sym c.if-number-ne0.false ∙ value in not_zero c.args.text.now number zeros some small

pub returns-in_default-2 : goal.returns-in_default-2
returns-in_default-2 c number some small = too_great c.args.text.now number (search rules) small
