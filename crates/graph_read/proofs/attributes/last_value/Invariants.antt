use Rattle.std.proofs.Common.{◌≡◌, take}
use Rattle.std.specs.Option.{option_map}
use Rattle.graph_read.specs.Attributes.{last_value}
use Rattle.graph_read.proofs.attributes.last_value.Given as goal

abbrev pub invariant-loop-pair : goal.invariant-loop-pair
invariant-loop-pair l = option_map (λ value. value.now) l.found ≡ last_value l.key (take l.pair-index l.pairs)
