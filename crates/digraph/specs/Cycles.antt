-- Ways along edges, and cycles.
use Rattle.std.specs.Prelude.{◌≡◌, ◌↔◌, ◌<◌, ℕ, List, Bool, true, Some, length, slice_get}
use Rattle.digraph.specs.Edges.{HasEdge}

-- edges lead from u to v, none or many
pub data Leads (rows : List (List ℕ)) : ℕ → ℕ → Type 0 where
  here : {u v : ℕ} → u ≡ v → Leads rows u v
  on : {u v : ℕ} (k : ℕ) → HasEdge rows u k → Leads rows k v → Leads rows u v

-- edges lead from v back to v, at least one
pub record OnCycle (rows : List (List ℕ)) (v : ℕ) : Type 0 where
  pub next : ℕ
  pub edge : HasEdge rows v next
  pub back : Leads rows next v

-- the vertex has a mark
abbrev pub IsMarked : List Bool → ℕ → Type 0
IsMarked marks v = slice_get marks v ≡ Some true

-- for each vertex whether it lies on a cycle
pub record TellsCycles (rows : List (List ℕ)) (told : List Bool) : Type 0 where
  pub size : length told ≡ length rows
  pub exact : (v : ℕ) → v < length rows → IsMarked told v ↔ OnCycle rows v
