-- A reader or a writer of std as a stream.
use Rattle.std.specs.Prelude.{ℕ}

-- the reader or the writer, and how often it failed
pub record Counted (X : Type 0) : Type 0 where
  pub stream : X
  pub faults : ℕ
