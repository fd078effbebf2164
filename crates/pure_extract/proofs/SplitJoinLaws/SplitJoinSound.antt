-- The rule meets what a rule owes.
use Rattle.lane_laws.specs.Laws as lanes
use Rattle.pure_extract.specs.SplitJoin.{SplitJoinIsSound, side_name}
use Rattle.pure_extract.proofs.SplitJoinLaws.SideNames.{names_once}

pub sound : lanes.SplitJoinIsRule → lanes.SplitJoinRefines → SplitJoinIsSound
sound rule refines s j parts apart are =
    record { is_rule = rule parts (side_name s j) are (names_once s j apart); refines = refines parts (side_name s j) are (names_once s j apart) }
