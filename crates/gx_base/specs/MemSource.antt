-- A source in memory whose calls fail as they are told to.
use Rattle.std.specs.Prelude.{ℕ, List}

-- the bytes left, the most that one call gives, the numbers of the calls that fail,
-- how many calls were numbered and how many failed
pub record SourceState : Type 0 where
  pub left : List ℕ
  pub piece : ℕ
  pub failing : List ℕ
  pub calls : ℕ
  pub faults : ℕ
