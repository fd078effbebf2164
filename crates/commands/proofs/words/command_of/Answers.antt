use Rattle.std.proofs.Common.{◌≤◌, length, map, sym, ap, ◌∙◌, arith}
use Rattle.std.specs.Prelude.{string_bytes}
use Rattle.std.proofs.lemmas.List.{length-map}
use Rattle.commands.specs.Words.{one_word, command_of}
use Rattle.commands.proofs.WordLists.{command_of_one, one_item, too_many_words}
use Rattle.commands.proofs.words.command_of.Goals as goal

pub returns-in-len1 : goal.returns-in-len1
returns-in-len1 c =
    c.one_word.ensures ∙ ap one_word c.as_str.ensures.value ∙ sym (command_of_one (string_bytes c.word-item.result))
    ∙ ap (λ words. command_of (map string_bytes words)) (sym (one_item c.args.words.now c.word-item.result (omega arith) c.word-item.is))

pub returns-in_default-2 : goal.returns-in_default-2
returns-in_default-2 c = let many : 4 ≤ length (map string_bytes c.args.words.now) = rw length-map c.in_default.len_at_least in sym (too_many_words (map string_bytes c.args.words.now) many)
