use Rattle.std.proofs.Common.{◌∙◌, ◌-◌, ◌^◌, min, ap, sym, arith, rules}
use Rattle.std.specs.Prelude.{FitsSigned}
use Rattle.std.specs.Int.{w64, cast_signed, cast_unsigned, int_shr}
use Rattle.std.specs.Int.Signed.{mag_shr}
use Rattle.std.proofs.lemmas.Int.{to_z-of_z}
use Rattle.op_table.specs.Value.{signed, modulo}
use Rattle.op_table.proofs.Bits.{power_rises}
use Rattle.op_table.proofs.Shifts.{shift_capped}
use Rattle.op_table.proofs.Signs.{mag-signed}
use Rattle.op_table.proofs.shift.ashr.Goals as goal

pub returns : goal.returns
returns c =
    let width = c.args.width in
    let reading = signed width c.args.a in
    let places = min c.args.b 63 in
    let small = mag-signed width c.args.a c.requires.width.positive c.requires.fits in
    let half = power_rises (width - 1) 63 (omega arith) in
    let capped = shift_capped reading c.args.b (omega (arith, small, half)) in
    let reading_fits : FitsSigned w64 c.signed.result = search rules in
    let shifted_fits : FitsSigned w64 (int_shr reading places) = record { sfits = omega (arith, mag_shr reading (2 ^ places), small, half) } in
    c.modulo.ensures
    ∙ ap (λ z. modulo width (cast_signed w64 (cast_unsigned w64 (int_shr z c.min.result)))) (to_z-of_z w64 c.signed.result reading_fits ∙ c.signed.ensures)
    ∙ ap (λ k. modulo width (cast_signed w64 (cast_unsigned w64 (int_shr reading k)))) c.min.ensures
    ∙ ap (modulo width) (to_z-of_z w64 (int_shr reading places) shifted_fits ∙ sym capped)
