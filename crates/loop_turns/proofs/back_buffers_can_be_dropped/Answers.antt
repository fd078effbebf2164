use Rattle.loop_turns.proofs.LoopDrops.{all_dropped}
use Rattle.loop_turns.proofs.TaggedDropped.{all_tagged}
use Rattle.loop_turns.proofs.GatheredDropped.{all_gathered_same}
use Rattle.loop_turns.proofs.back_buffers_can_be_dropped.Goals as goal

pub returns-clause-can : goal.returns-clause-can
returns-clause-can c = λ g m l ty at. (all_dropped m l g ty at).can

pub returns-clause-loops : goal.returns-clause-loops
returns-clause-loops c = λ g m l ty at. let d = all_dropped m l g ty at in record { typed = d.typed; loop = d.loop; others = d.others }

pub returns-clause-tagged : goal.returns-clause-tagged
returns-clause-tagged c = λ g m l name ty at. all_tagged m l name g ty at

pub returns-clause-gathered : goal.returns-clause-gathered
returns-clause-gathered c = λ g m l fun name ty at. all_gathered_same m l fun name g ty at
