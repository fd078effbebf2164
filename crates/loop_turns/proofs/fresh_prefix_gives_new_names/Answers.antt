use Rattle.loop_turns.proofs.LoopNames.{tag_names_new, gather_names_new}
use Rattle.loop_turns.proofs.fresh_prefix_gives_new_names.Goals as goal

pub returns-clause-tagged : goal.returns-clause-tagged
returns-clause-tagged c = tag_names_new

pub returns-clause-gathered : goal.returns-clause-gathered
returns-clause-gathered c = gather_names_new
