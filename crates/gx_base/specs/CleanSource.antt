-- A source in memory that never fails.
use Rattle.std.specs.Prelude.{ℕ, List}

-- the bytes left, and the most that one call gives
pub record CleanState : Type 0 where
  pub left : List ℕ
  pub piece : ℕ
