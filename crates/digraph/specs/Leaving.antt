-- The order in which a walk in depth leaves the vertices of a graph, and what holds on the way.
use Rattle.std.specs.Prelude.{◌≡◌, ◌⊎◌, ℕ, suc, ◌+◌, ◌<◌, ◌≤◌, List, [], ◌∷◌, Bool, true, false, Some, length, replicate, slice_get}
use Rattle.digraph.specs.declared.leaving.Task.{Task}
use Rattle.digraph.specs.declared.leaving.Task.TheVariants.{Enter, Leave}
use Rattle.digraph.specs.Edges.{HasEdge}
use Rattle.digraph.specs.Cycles.{Leads, IsMarked}

-- w leads to each vertex that stands from one place to another
abbrev pub LeadsToAll : List (List ℕ) → List ℕ → ℕ → ℕ → ℕ → Type 0
LeadsToAll rows order w i j = (k z : ℕ) → i ≤ k → k ≤ j → slice_get order k ≡ Some z → Leads rows w z

-- each vertex once, so that an edge leads from a vertex to one that does not stand behind it, or to one that leads to all that stand from the one to the other
pub record IsLeaveOrder (rows : List (List ℕ)) (order : List ℕ) : Type 0 where
  pub within : (i v : ℕ) → slice_get order i ≡ Some v → v < length rows
  pub all : (v : ℕ) → v < length rows → (i : ℕ) × (slice_get order i ≡ Some v)
  pub once : (i j v : ℕ) → slice_get order i ≡ Some v → slice_get order j ≡ Some v → i ≡ j
  pub settled : (i u w : ℕ) → slice_get order i ≡ Some u → HasEdge rows u w → (j : ℕ) × (slice_get order j ≡ Some w) × ((j ≤ i) ⊎ LeadsToAll rows order w i j)

-- What holds on the way: what was entered, what is still to do, from the last to the next, and what was left.

abbrev pub vertex_of : Task → ℕ
vertex_of (Enter v) = v
vertex_of (Leave v) = v

-- an edge into w from the vertex that was left at place i
pub data Settled (rows : List (List ℕ)) (tasks : List Task) (left : List ℕ) (i w : ℕ) : Type 0 where
  before : (j : ℕ) → j ≤ i → slice_get left j ≡ Some w → Settled rows tasks left i w
  behind : (j : ℕ) → slice_get left j ≡ Some w → LeadsToAll rows left w i j → Settled rows tasks left i w
  not_left : (j : ℕ) → slice_get tasks j ≡ Some (Leave w) → ((k z : ℕ) → i ≤ k → slice_get left k ≡ Some z → Leads rows w z) → Settled rows tasks left i w

pub record Walking (rows : List (List ℕ)) (entered : List Bool) (tasks : List Task) (left : List ℕ) : Type 0 where
  pub size : length entered ≡ length rows
  pub within : (k : ℕ) (t : Task) → slice_get tasks k ≡ Some t → vertex_of t < length rows
  pub below : (j k u : ℕ) (t : Task) → j < k → slice_get tasks j ≡ Some (Leave u) → slice_get tasks k ≡ Some t → Leads rows u (vertex_of t)
  pub above : (j u w : ℕ) → slice_get tasks j ≡ Some (Leave u) → HasEdge rows u w → IsMarked entered w ⊎ ((k : ℕ) × (j < k) × (slice_get tasks k ≡ Some (Enter w)))
  pub left_or_not : (w : ℕ) → IsMarked entered w → ((i : ℕ) × (slice_get left i ≡ Some w)) ⊎ ((j : ℕ) × (slice_get tasks j ≡ Some (Leave w)))
  pub all : (v : ℕ) → v < length rows → IsMarked entered v ⊎ ((k : ℕ) × (slice_get tasks k ≡ Some (Enter v)))
  pub settled : (i u w : ℕ) → slice_get left i ≡ Some u → HasEdge rows u w → Settled rows tasks left i w
  pub left_entered : (i w : ℕ) → slice_get left i ≡ Some w → IsMarked entered w
  pub not_left_entered : (j w : ℕ) → slice_get tasks j ≡ Some (Leave w) → IsMarked entered w
  pub apart : (i j w : ℕ) → slice_get left i ≡ Some w → ¬ (slice_get tasks j ≡ Some (Leave w))
  pub left_once : (i j w : ℕ) → slice_get left i ≡ Some w → slice_get left j ≡ Some w → i ≡ j
  pub leave_once : (i j w : ℕ) → slice_get tasks i ≡ Some (Leave w) → slice_get tasks j ≡ Some (Leave w) → i ≡ j

-- how many tasks the vertices not entered come to
abbrev pub not_entered : List (List ℕ) → List Bool → ℕ
not_entered [] entered = 0
not_entered (row ∷ rows) [] = 0
not_entered (row ∷ rows) (true ∷ entered) = not_entered rows entered
not_entered (row ∷ rows) (false ∷ entered) = suc (length row) + not_entered rows entered

abbrev pub to_do : List (List ℕ) → List Bool → List Task → ℕ
to_do rows entered tasks = not_entered rows entered + length tasks

-- the vertices below count are to be entered, and nothing else is to be done
pub record IsToEnter (count : ℕ) (tasks : List Task) : Type 0 where
  pub within : (k : ℕ) (t : Task) → slice_get tasks k ≡ Some t → (v : ℕ) × (v < count) × (t ≡ Enter v)
  pub all : (v : ℕ) → v < count → (k : ℕ) × (slice_get tasks k ≡ Some (Enter v))

-- nothing is entered, each vertex is to be
pub record IsBegun (count : ℕ) (entered : List Bool) (tasks : List Task) (left : List ℕ) : Type 0 where
  pub none_entered : entered ≡ replicate count false
  pub to_enter : IsToEnter count tasks
  pub none_left : left ≡ []
