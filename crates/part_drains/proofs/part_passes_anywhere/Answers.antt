use Rattle.part_drains.proofs.PartPasses.{passes_anywhere}
use Rattle.part_drains.proofs.part_passes_anywhere.Goals as goal

pub returns : goal.returns
returns c = λ g part target ins outs s is_part quiet passes idle. passes_anywhere g part target is_part s ins outs quiet idle passes
