use Rattle.std.proofs.Common.{◌≡◌, ◌∙◌, ◌-◌, ◌^◌, ◌<◌, ap, arith, rules, int_div, false, nat_eq, tests}
use Rattle.std.specs.Int.{w64, cast_signed, cast_unsigned}
use Rattle.std.specs.Int.Signed.{mag}
use Rattle.std.specs.Prelude.{FitsSigned}
use Rattle.std.proofs.lemmas.Int.{to_z-of_z}
use Rattle.op_table.specs.Value.{signed, modulo}
use Rattle.op_table.proofs.Bits.{power_rises, modulo-wrapped}
use Rattle.op_table.proofs.Signs.{mag-signed, mag-int_div}
use Rattle.op_table.proofs.arithmetic.sdiv.Goals as goal

pub returns-else-b-eq0 : goal.returns-else-b-eq0
returns-else-b-eq0 c =
    let width = c.args.width in
    let dividend = signed width c.args.a in
    let divisor = signed width c.args.b in
    let dividend_fits : FitsSigned w64 c.signed.result = search rules in
    let divisor_fits : FitsSigned w64 c.signed-else-b-eq0.result = search rules in
    let quotient_fits : FitsSigned w64 c.wrapping_div.result = search rules in
    let dividend_is = to_z-of_z w64 c.signed.result dividend_fits ∙ c.signed.ensures in
    let divisor_is = to_z-of_z w64 c.signed-else-b-eq0.result divisor_fits ∙ c.signed-else-b-eq0.ensures in
    let near : mag (int_div dividend divisor) < 2 ^ 64 =
    omega (arith, mag-signed width c.args.a c.requires.width.positive c.requires.first, mag-int_div dividend divisor, power_rises (width - 1) 63 (omega arith)) in
    let other : nat_eq c.args.b 0 ≡ false = grind (arith, tests) in
    rw other (c.modulo.ensures ∙ ap (modulo width) (to_z-of_z w64 c.wrapping_div.result quotient_fits ∙ c.wrapping_div.ensures
    ∙ ap (λ z. cast_signed w64 (cast_unsigned w64 (int_div z (cast_signed w64 (cast_unsigned w64 c.signed-else-b-eq0.result))))) dividend_is
    ∙ ap (λ z. cast_signed w64 (cast_unsigned w64 (int_div dividend z))) divisor_is) ∙ modulo-wrapped width (int_div dividend divisor) c.requires.width.narrow near)
