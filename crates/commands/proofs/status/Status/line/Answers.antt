use Rattle.std.proofs.Common.{◌∙◌, sym, ap}
use Rattle.commands.specs.Status.{line_of, name_of}
use Rattle.commands.proofs.status.Status.line.Goals as goal

pub returns-in-Done : goal.returns-in-Done
returns-in-Done c = c.text_line.ensures (name_of c.args.self.now) ∙ sym (ap line_of c.in-Done.is)

pub returns-in-Usage : goal.returns-in-Usage
returns-in-Usage c = c.text_line-in-Usage.ensures (name_of c.args.self.now) ∙ sym (ap line_of c.in-Usage.is)

pub returns-in-NotYet : goal.returns-in-NotYet
returns-in-NotYet c = c.text_line-in-NotYet.ensures (name_of c.args.self.now) ∙ sym (ap line_of c.in-NotYet.is)

pub returns-in-TooLong : goal.returns-in-TooLong
returns-in-TooLong c = c.text_line-in-TooLong.ensures (name_of c.args.self.now) ∙ sym (ap line_of c.in-TooLong.is)

pub returns-in-ReadFault : goal.returns-in-ReadFault
returns-in-ReadFault c = c.text_line-in-ReadFault.ensures (name_of c.args.self.now) ∙ sym (ap line_of c.in-ReadFault.is)

pub returns-in-WriteFault : goal.returns-in-WriteFault
returns-in-WriteFault c = c.text_line-in-WriteFault.ensures (name_of c.args.self.now) ∙ sym (ap line_of c.in-WriteFault.is)

pub returns-in-NoMemory : goal.returns-in-NoMemory
returns-in-NoMemory c = c.text_line-in-NoMemory.ensures (name_of c.args.self.now) ∙ sym (ap line_of c.in-NoMemory.is)
