use Rattle.std.proofs.Common.{◌∙◌, ap, ◌%◌, ◌^◌, arith}
use Rattle.std.specs.Int.{w64, cast_unsigned}
use Rattle.std.proofs.lemmas.Int.{to_z-of_z}
use Rattle.op_table.proofs.Bits.{cast_mod}
use Rattle.op_table.proofs.word.modulo.Goals as goal

pub returns : goal.returns
returns c =
    let word = c.cast_unsigned.ensures ∙ ap (λ z. cast_unsigned w64 z) (to_z-of_z w64 c.args.whole c.ranges.whole) in
    c.low_bits.ensures ∙ ap (λ n. n % 2 ^ c.args.width) word ∙ cast_mod c.args.width c.args.whole c.requires.narrow (omega (arith, c.ranges.whole.sfits))
