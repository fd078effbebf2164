use Rattle.std.proofs.Common.{◌≡◌, ◌+◌, ◌*◌, None, take, sym, ap, ◌∙◌}
use Rattle.std.specs.Str.Parse.{digits_value}
use Rattle.std.proofs.lemmas.Int.Digits.{digits_value_more}
use Rattle.std.proofs.lemmas.List.{take_all}
use Rattle.std.proofs.lemmas.Str.Parse.{digits_value-take-le}
use Rattle.port_types.specs.Numeral.{in_word}
use Rattle.port_types.proofs.Numbers.{past_word, word_is, word_some}
use Rattle.port_types.proofs.numeral.number_of.Goals as goal

pub loop-byte-preserved : goal.loop-byte-preserved
loop-byte-preserved c =
    let more = digits_value_more c.args.base c.args.digits.now c.loop-byte.byte-index c.loop-byte-test.true in
    let is = word_is _ _ (sym c.with_digit.ensures ∙ c.in_ok-number.was) in
    (is.0 ∙ (λ i. c.loop-byte.invariant.0 i * c.args.base + c.digit_value.ensures i) ∙ sym more, is.1)

pub returns-in_err-number : goal.returns-in_err-number
returns-in_err-number c =
    let more = digits_value_more c.args.base c.args.digits.now c.loop-byte.byte-index c.loop-byte-test.true in
    let le = digits_value-take-le c.args.base c.args.digits.now (c.loop-byte.byte-index + 1) c.requires in
    let none : in_word (digits_value c.args.base (take (c.loop-byte.byte-index + 1) c.args.digits.now)) ≡ None =
    ap in_word (more ∙ sym (λ i. c.loop-byte.invariant.0 i * c.args.base + c.digit_value.ensures i)) ∙ sym c.with_digit.ensures ∙ c.in_err-number.was
    in
    c.from_residual.ensures ∙ sym (past_word _ _ le none)

pub returns : goal.returns
returns c =
    let all = take_all c.loop-byte.byte-index c.args.digits.now c.loop-byte-test.false in
    word_some _ _ (c.loop-byte.invariant.0 ∙ ap (digits_value c.args.base) all) c.loop-byte.invariant.1
