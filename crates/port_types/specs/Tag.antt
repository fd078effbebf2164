-- The width of a tag.
use Rattle.std.specs.Prelude.{ℕ, zero, suc, ◌+◌, ◌^◌, ◌≤◌, nat_le, if◌then◌else◌}

-- from this width on, the first of so many in which as many tags have different numbers
abbrev pub tag_width_from : ℕ → ℕ → ℕ → ℕ
tag_width_from zero width tags = width
tag_width_from (suc more) width tags = if nat_le tags (2 ^ width) then width else tag_width_from more (width + 1) tags

-- the first width of at least 1 in which as many tags have different numbers, up to 256 tags
abbrev pub tag_width : ℕ → ℕ
tag_width tags = tag_width_from 7 1 tags

-- the least width of at least 1 in which as many tags have different numbers
pub record IsTagWidth (tags width : ℕ) : Type 0 where
  pub some : 1 ≤ width
  pub enough : tags ≤ 2 ^ width
  pub least : (other : ℕ) → 1 ≤ other → tags ≤ 2 ^ other → width ≤ other
