use Rattle.tagged_loop.proofs.TagOverlap.{overlaps}
use Rattle.tagged_loop.proofs.PinOverlap.{pin_overlaps}
use Rattle.tagged_loop.proofs.ring_overlaps.Goals as goal

pub returns-clause-alone : goal.returns-clause-alone
returns-clause-alone c = λ circuit ring shape goes_back tags has s count few none enough. overlaps circuit ring shape goes_back tags has s count few none enough

pub returns-clause-behind_join : goal.returns-clause-behind_join
returns-clause-behind_join c = λ circuit ring shape goes_back tags join shapes has is_join feeds s count few none enough.
    pin_overlaps circuit ring shape goes_back tags has join shapes is_join feeds s count few none enough
