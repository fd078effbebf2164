use Rattle.std.proofs.Common.{Some, sym, ap, ◌∙◌}
use Rattle.dot_text.specs.Machine.{Whole}
use Rattle.dot_text.proofs.Running.{document_run}
use Rattle.dot_text.proofs.Going.{Documented, can_run, run_can, whole_document}
use Rattle.dot_text.proofs.laws.machine_decides.Goals as goal

pub returns-clause-goes : goal.returns-clause-goes
returns-clause-goes c = λ ts. (can_run ts, run_can ts)

pub returns-clause-whole : goal.returns-clause-whole
returns-clause-whole c = λ ts doc. (λ e. let d : Documented ts doc = whole_document ts doc e in (d.kept, d.document, d.is), λ (kept, stands, is). document_run stands ∙ ap (λ z. Some (Whole z)) (sym is))
