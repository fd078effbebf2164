-- Tokens: one number for each field of a shape.
use Rattle.std.specs.Prelude.{ℕ, ◌^◌, ◌<◌, List, [], ◌∷◌}

-- as many numbers as widths, each below 2 to the power of its width
abbrev pub Fits : List ℕ → List ℕ → Type 0
Fits [] [] = Unit {0}
Fits [] (number ∷ numbers) = ⊥
Fits (width ∷ widths) [] = ⊥
Fits (width ∷ widths) (number ∷ numbers) = (number < 2 ^ width) × Fits widths numbers
