-- A sink in memory of limited room, whose calls fail as they are told to.
use Rattle.std.specs.Prelude.{ℕ, List}

-- the bytes taken, the most that one call takes, the most that all take, the numbers of the calls
-- that fail, how many calls were numbered and how many failed
pub record SinkState : Type 0 where
  pub taken : List ℕ
  pub piece : ℕ
  pub room : ℕ
  pub failing : List ℕ
  pub calls : ℕ
  pub faults : ℕ
