use Rattle.std.proofs.Common.{◌≡◌, ◌≢◌, ◌++◌, List, ℕ, ◌≤◌, ◌<◌, ◌^◌, Option, Some, None, MatchOption, sym, ◌∙◌, ap, arith}
use Rattle.std.specs.Fmt.{decimal}
use Rattle.port_types.specs.declared.side.Side.{Side}
use Rattle.port_types.specs.PortText.{side_word, port_name}
use Rattle.port_types.specs.PortGrammar.{text_behind}
use Rattle.std.proofs.lemmas.List.{append_cancel_left}
use Rattle.port_types.proofs.Fronts.{by_word, behind-is, behind-none}
use Rattle.port_types.proofs.port_reading.read_port_name.Goals as goal

-- the number behind the word of a side is that of the port
named : (side : Side) (text digits : List ℕ) (o : Option ℕ) → text ≡ side_word side ++ digits
    → MatchOption o ((number : ℕ) → 1 ≤ number → number < 2 ^ 8 → digits ≢ decimal number) (λ number. (1 ≤ number) × (digits ≡ decimal number))
    → MatchOption o ((number : ℕ) → 1 ≤ number → number ≤ 255 → text ≢ port_name side number) (λ number. (1 ≤ number) × (text ≡ port_name side number))
named side text digits None is none = λ number some small named_so.
    none number some (omega arith) (append_cancel_left (side_word side) digits (decimal number) (sym is ∙ named_so))
named side text digits (Some number) is found = (found.0, is ∙ ap (λ ds. side_word side ++ ds) found.1)

pub returns-in_default : goal.returns-in_default
returns-in_default c number some small =
    let none : text_behind (side_word c.args.side) c.args.text.now ≡ None = by_word c.args.side _ c.args.text.now None (c.as_bytes.ensures.value ∙ c.word.ensures) c.in_default.ensures in
    behind-none (side_word c.args.side) c.args.text.now (decimal number) none

pub returns : goal.returns
returns c =
    let found : text_behind (side_word c.args.side) c.args.text.now ≡ Some c.in-Some.digits.now = by_word c.args.side _ c.args.text.now _ (c.as_bytes.ensures.value ∙ c.word.ensures) c.in-Some.ensures in
    named c.args.side c.args.text.now c.in-Some.digits.now c.small_number.result (behind-is (side_word c.args.side) c.args.text.now c.in-Some.digits.now found) c.small_number.ensures
