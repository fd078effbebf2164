use Rattle.loop_turns.proofs.AllGathered.{all_gathered}
use Rattle.loop_turns.proofs.gathering_one_after_the_other.Goals as goal

pub returns : goal.returns
returns c = λ g h loops turns has once can all. all_gathered turns g h loops has once can all
