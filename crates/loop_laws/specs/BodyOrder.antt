-- Names in order: by bytes, and the order of a body.
use Rattle.std.specs.Prelude.{◌≡◌, ◌≢◌, ℕ, List, [], ◌∷◌, Some}
use Rattle.std.specs.List.{AllByRecursion}
use Rattle.std.specs.declared.cmp.Ordering.TheVariants.{Less}
use Rattle.components.specs.Name.{Name, Port, name_cmp}
use Rattle.circuits.specs.Circuit.{Circuit}
use Rattle.circuits.specs.Replacing.{In}
use Rattle.loop_laws.specs.Reached.{port_at}

-- before in byte order
abbrev pub IsBefore : Name → Name → Type 0
IsBefore a b = name_cmp a b ≡ Less

abbrev pub Ascending : List Name → Type 0
Ascending [] = Unit {0}
Ascending (n ∷ ns) = AllByRecursion (IsBefore n) ns × Ascending ns

-- n is not placed yet, and what feeds it from the body is
pub record IsReady (c : Circuit) (body placed : List Name) (n : Name) : Type 0 where
  pub in_body : In n body
  pub open_yet : ¬ (In n placed)
  pub inputs : (i : ℕ) (q : Port) → c.feeder (port_at n i) ≡ Some q → In q.node body → In q.node placed

-- again and again the least name that is ready
abbrev pub InBodyOrder : Circuit → List Name → List Name → List Name → Type 0
InBodyOrder c body placed [] = Unit {0}
InBodyOrder c body placed (n ∷ ns) =
    IsReady c body placed n × ((k : Name) → IsReady c body placed k → k ≢ n → IsBefore n k) × InBodyOrder c body (n ∷ placed) ns
