-- The order of ids is total, and only equal ones tie.
use Rattle.std.proofs.Common.{◌≡◌, ◌≢◌, ◌⊎◌}
use Rattle.std.specs.Cmp.{IsTotalOrder, on_total, nat_cmp_total}
use Rattle.std.specs.FinMap.{IsAntisymmetric, nat_cmp-IsAntisymmetric}
use Rattle.components.specs.Lookups.{key_cases}
use Rattle.graph_core.specs.declared.place.NodeId.{NodeId}
use Rattle.graph_core.specs.Place.{id_cmp}

pub id_total : IsTotalOrder id_cmp
id_total = on_total (λ (i : NodeId). i.index) nat_cmp_total

pub id_same : IsAntisymmetric id_cmp
id_same i j e = λ k. record { index = nat_cmp-IsAntisymmetric i.index j.index e k }

-- two are one, or they are not
pub id_cases : (i j : NodeId) → (i ≡ j) ⊎ (i ≢ j)
id_cases = key_cases id_total id_same
