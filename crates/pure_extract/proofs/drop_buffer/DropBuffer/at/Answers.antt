use Rattle.std.proofs.Common.{◌∙◌}
use Rattle.pure_extract.specs.DropBuffer.{drop_buffer}
use Rattle.pure_extract.proofs.drop_buffer.DropBuffer.at.Goals as goal

pub returns-in_ok-of-in-Some-clause-ok : goal.returns-in_ok-of-in-Some-clause-ok
returns-in_ok-of-in-Some-clause-ok c =
    let found = c.in-Some.ensures in
    record { can = found.can; is = c.in_ok-of-in-Some.ensures ∙ (λ i. drop_buffer (found.is_name i) (found.is_kind i)) }
