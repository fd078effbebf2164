-- Groups of vertices that lead to one another, and what holds while they are made.
use Rattle.std.specs.Prelude.{◌≡◌, ◌≢◌, ◌↔◌, ◌⊎◌, ℕ, ◌+◌, ◌<◌, ◌≤◌, List, ◌∷◌, ◌++◌, [], Bool, true, false, Some, length, replicate, slice_get, slice_set}
use Rattle.digraph.specs.Edges.{HasEdge}
use Rattle.digraph.specs.Cycles.{IsMarked, Leads, OnCycle}

abbrev pub Stands : List ℕ → ℕ → Type 0
Stands vs v = (k : ℕ) × (slice_get vs k ≡ Some v)

-- how many vertices have no mark
abbrev pub count_unmarked : List Bool → ℕ
count_unmarked [] = 0
count_unmarked (true ∷ marks) = count_unmarked marks
count_unmarked (false ∷ marks) = 1 + count_unmarked marks

-- each of the first vertices of a row is marked, and stands behind the others if it had no mark
pub record Gathers (row : List ℕ) (count : ℕ) (before : List Bool) (group : List ℕ) (after : List Bool) (then : List ℕ) : Type 0 where
  pub size : length after ≡ length before
  pub more : List ℕ
  pub behind : then ≡ group ++ more
  pub each : (k v : ℕ) → slice_get more k ≡ Some v → Stands row v × ¬ (IsMarked before v) × IsMarked after v
  pub kept : (v : ℕ) → IsMarked before v → IsMarked after v
  pub only : (v : ℕ) → IsMarked after v → IsMarked before v ⊎ Stands more v
  pub has : (k v : ℕ) → k < count → slice_get row k ≡ Some v → IsMarked after v
  pub unmarked : count_unmarked after + length then ≡ count_unmarked before + length group

-- the vertices to which edges lead from a root, of those that had no mark; those that edges lead to from the first of them are there
pub record Gathering (back : List (List ℕ)) (root : ℕ) (before after : List Bool) (group : List ℕ) (next : ℕ) : Type 0 where
  pub size : length after ≡ length back
  pub first : slice_get group 0 ≡ Some root
  pub each : (k v : ℕ) → slice_get group k ≡ Some v → Leads back root v × ¬ (IsMarked before v) × IsMarked after v
  pub others : (k v : ℕ) → 0 < k → slice_get group k ≡ Some v → v ≢ root
  pub kept : (v : ℕ) → IsMarked before v → IsMarked after v
  pub only : (v : ℕ) → IsMarked after v → IsMarked before v ⊎ Stands group v
  pub closed : (k v u : ℕ) → k < next → slice_get group k ≡ Some v → HasEdge back v u → IsMarked after u

-- the group lies on cycles
abbrev pub IsCyclic : List (List ℕ) → ℕ → List ℕ → Type 0
IsCyclic rows root group = (1 < length group) ⊎ HasEdge rows root root

-- the vertices of a group are told so, the others as before
pub record Tells (group : List ℕ) (cyclic : Bool) (before after : List Bool) : Type 0 where
  pub size : length after ≡ length before
  pub of_group : (v : ℕ) → Stands group v → slice_get after v ≡ Some cyclic
  pub of_others : (v : ℕ) → ¬ (Stands group v) → slice_get after v ≡ slice_get before v

-- the vertices from a place of the order on are in groups, and with them all that lead to them; of each of these is told whether it lies on a cycle
pub record Grouping (rows : List (List ℕ)) (order : List ℕ) (place : ℕ) (grouped told : List Bool) : Type 0 where
  pub size : length grouped ≡ length rows
  pub told_size : length told ≡ length rows
  pub done : (k v : ℕ) → place ≤ k → slice_get order k ≡ Some v → IsMarked grouped v
  pub closed : (u v : ℕ) → HasEdge rows u v → IsMarked grouped v → IsMarked grouped u
  pub exact : (v : ℕ) → IsMarked grouped v → IsMarked told v ↔ OnCycle rows v

-- so many vertices, none in a group, and nothing told
pub record AreNone (count : ℕ) (grouped told : List Bool) : Type 0 where
  pub none_grouped : grouped ≡ replicate count false
  pub none_told : told ≡ replicate count false

-- the vertex is marked, and stands behind the others if it had no mark
pub data GathersOne (v : ℕ) (before : List Bool) (group : List ℕ) (after : List Bool) (then : List ℕ) : Type 0 where
  there : IsMarked before v → after ≡ before → then ≡ group → GathersOne v before group after then
  new : slice_get before v ≡ Some false → after ≡ slice_set before v true → then ≡ group ++ v ∷ [] → GathersOne v before group after then
