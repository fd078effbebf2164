use Rattle.std.proofs.Common.{◌≡◌, Some, None, sym, ◌∙◌}
use Rattle.std.specs.Fmt.{decimal}
use Rattle.port_types.specs.PortText.{side_word}
use Rattle.port_types.specs.PortGrammar.{text_behind}
use Rattle.port_types.proofs.Fronts.{by_word, behind-both, behind-neither}
use Rattle.port_types.proofs.port_reading.behind_port_name.Goals as goal

pub returns-in_default : goal.returns-in_default
returns-in_default c =
    let none : text_behind (side_word c.args.side) c.args.text.now ≡ None = by_word c.args.side _ c.args.text.now None (c.as_bytes.ensures.value ∙ c.word.ensures) c.in_default.ensures in
    sym (behind-neither (side_word c.args.side) (decimal c.args.number) c.args.text.now none)

pub returns : goal.returns
returns c =
    let found : text_behind (side_word c.args.side) c.args.text.now ≡ Some c.in-Some.rest.now = by_word c.args.side _ c.args.text.now _ (c.as_bytes.ensures.value ∙ c.word.ensures) c.in-Some.ensures in
    c.behind_number.ensures ∙ sym (behind-both (side_word c.args.side) (decimal c.args.number) c.args.text.now _ found)
