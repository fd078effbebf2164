-- Lists that are gathered stage by stage.
use Rattle.std.specs.Prelude.{List, AllPairs}
use Rattle.circuits.specs.Replacing.{In}

-- each element is what one of the stages that are done gives, each of these gives one, and no two are alike
pub record Gathered {S A : Type 0} (Done : S → Type 0) (Gives : S → A → Type 0) (Differ : A → A → Type 0) (xs : List A) : Type 0 where
  pub are : (x : A) → In x xs → (s : S) × Done s × Gives s x
  pub each : (s : S) → Done s → (x : A) × In x xs × Gives s x
  pub once : AllPairs Differ xs
