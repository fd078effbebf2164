use Rattle.circuits.proofs.Plugging.Links.{plug_typed}
use Rattle.circuits.proofs.plugged_is_typed.Goals as goal

pub returns : goal.returns
returns c = λ a ls g ta tg can. plug_typed a g ls ta tg can
