use Rattle.std.proofs.Common.{◌≡◌, Ok, Err, ap, refl, subst}
use Rattle.commands.specs.Judged.{Judged}
use Rattle.commands.specs.Ruling.{Writes, answered, refused, no_memory, read_failed, too_long}
use Rattle.commands.proofs.Running.{gave_within}
use Rattle.commands.proofs.ruling.run_command.Goals as goal

pub returns-in-Ok-judge-clause-outcome : goal.returns-in-Ok-judge-clause-outcome
returns-in-Ok-judge-clause-outcome g c =
    let same = ap (λ s. s.bytes) c.new.ensures in
    answered c.in-Ok.bytes.items c.in-Ok-judge.text.items c.write_answer.result c.in-Ok.ensures.given c.in-Ok.ensures.within
    (subst (λ input. Judged c.args.command input (Ok c.in-Ok-judge.text.items)) same c.in-Ok-judge.ensures)
    (subst (λ text. Writes text (g.O.Sink.told c.args.out.now) (g.O.Sink.told c.write_answer.new.out) c.write_answer.result) c.deref.ensures.value c.write_answer.ensures.writes)

pub returns-in-Err-Refused-clause-outcome : goal.returns-in-Err-Refused-clause-outcome
returns-in-Err-Refused-clause-outcome g c =
    let same = ap (λ s. s.bytes) c.new.ensures in
    refused c.in-Ok.bytes.items c.in-Err-Refused.refusal c.in-Ok.ensures.given c.in-Ok.ensures.within
    (subst (λ input. Judged c.args.command input (Err c.in-Err-Refused.refusal)) same (rw c.in-Err-Refused.field-0-is at c.in-Err-Refused.ensures)) refl

pub returns-in-Err-NoMemory-judge-clause-outcome : goal.returns-in-Err-NoMemory-judge-clause-outcome
returns-in-Err-NoMemory-judge-clause-outcome g c = no_memory (gave_within c.in-Ok.bytes.items _ _ c.in-Ok.ensures.given c.in-Ok.ensures.within) refl

pub returns-in-Err-ReadFault-clause-outcome : goal.returns-in-Err-ReadFault-clause-outcome
returns-in-Err-ReadFault-clause-outcome g c =
    let is = ap Err c.in-Err-ReadFault.field-0-is in
    read_failed (c.in-Err-ReadFault.ensures.read_fault is) (c.in-Err-ReadFault.ensures.fault is) refl

pub returns-in-Err-TooLong-clause-outcome : goal.returns-in-Err-TooLong-clause-outcome
returns-in-Err-TooLong-clause-outcome g c = too_long (c.in-Err-TooLong.ensures.too_long (ap Err c.in-Err-TooLong.field-0-is)) refl

pub returns-in-Err-NoMemory-clause-outcome : goal.returns-in-Err-NoMemory-clause-outcome
returns-in-Err-NoMemory-clause-outcome g c =
    let gave = c.in-Err-NoMemory.ensures.no_memory (ap Err c.in-Err-NoMemory.field-0-is) in
    no_memory (gave.0, gave.1.1, gave.2) refl
