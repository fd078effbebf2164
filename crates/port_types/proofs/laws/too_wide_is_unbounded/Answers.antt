use Rattle.port_types.proofs.ReadBack.{too_wide_is_unbounded}
use Rattle.port_types.proofs.laws.too_wide_is_unbounded.Goals as goal

pub returns : goal.returns
returns c = too_wide_is_unbounded
