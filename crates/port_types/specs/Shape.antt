-- Shapes: the widths of the fields of a token.
use Rattle.std.specs.Prelude.{ℕ, ◌≤◌, List, length, All}

-- 1 to 128 widths, each from 0 to 64
pub record IsShape (widths : List ℕ) : Type 0 where
  pub some : 1 ≤ length widths
  pub few : length widths ≤ 128
  pub narrow : All (λ width. width ≤ 64) widths
