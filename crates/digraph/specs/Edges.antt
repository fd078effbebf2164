-- Finite directed graphs: for each vertex the list of those to which edges lead from it.
use Rattle.std.specs.Prelude.{◌≡◌, ◌↔◌, ◌⊎◌, ◌<◌, ℕ, List, Some, length, slice_get}

-- an edge leads from u to v
pub record HasEdge (rows : List (List ℕ)) (u v : ℕ) : Type 0 where
  pub row : List ℕ
  pub place : ℕ
  pub is_row : slice_get rows u ≡ Some row
  pub is_there : slice_get row place ≡ Some v

-- each edge leads to a vertex
abbrev pub IsWithin : List (List ℕ) → Type 0
IsWithin rows = (u v : ℕ) → HasEdge rows u v → v < length rows

-- the graph with one edge more
pub record IsWithEdge (before : List (List ℕ)) (from to : ℕ) (after : List (List ℕ)) : Type 0 where
  pub size : length after ≡ length before
  pub edges : (u v : ℕ) → HasEdge after u v ↔ (HasEdge before u v ⊎ ((u ≡ from) × (v ≡ to)))

-- the graph with each edge turned round
pub record IsReversed (rows back : List (List ℕ)) : Type 0 where
  pub size : length back ≡ length rows
  pub edges : (u v : ℕ) → HasEdge back v u ↔ HasEdge rows u v

-- the same with the edges from one vertex turned round
pub record IsWithReversed (rows : List (List ℕ)) (from : ℕ) (before after : List (List ℕ)) : Type 0 where
  pub size : length after ≡ length before
  pub edges : (u v : ℕ) → HasEdge after v u ↔ (HasEdge before v u ⊎ ((u ≡ from) × HasEdge rows from v))
