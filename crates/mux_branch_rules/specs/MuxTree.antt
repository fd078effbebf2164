-- The tree that leads one select to listed Muxes, as a list of what feeds the first input of each listed node. These serve contracts of private functions.
use Rattle.std.specs.Prelude.{◌≡◌, ◌≢◌, ℕ, zero, suc, ◌<◌, Bool, true, false, ◌&&◌, ◌||◌, ◌==◌, List, [], ◌∷◌, Option, Some, None, IsTrue, length}
use Rattle.std.specs.FinMap as finite
use Rattle.std.specs.List.{AllByRecursion, slice_get}
use Rattle.components.specs.declared.kind.Kind.{Kind}
use Rattle.components.specs.declared.kind.Kind.TheVariants.{Fork}
use Rattle.components.specs.Name.{Name, Port}
use Rattle.components.specs.NamedGraph.{NamedGraph}
use Rattle.circuits.specs.Buffers.{first_port}
use Rattle.drawn_rules.specs.Labels.{nth}
use Rattle.mux_branch_rules.specs.declared.mux_tree.Source.{Source}
use Rattle.mux_branch_rules.specs.declared.mux_tree.Source.TheVariants.{Outside, Output}

abbrev pub port_at : Name → ℕ → Port
port_at node port = record { node = node; port = port }

-- what feeds the first input of a node in g: an output of one of so many names at the front, or none
abbrev pub IsSource : NamedGraph → List Name → ℕ → Name → Source → Type 0
IsSource g names tree n Outside = (place port : ℕ) → place < tree → finite.get g.feeders (first_port n) ≢ Some (port_at (nth names place) port)
IsSource g names tree n (Output place port) = (place < tree) × (finite.get g.feeders (first_port n) ≡ Some (port_at (nth names place) port))

-- of each of these nodes
abbrev pub AreSources : NamedGraph → List Name → ℕ → List Name → List Source → Type 0
AreSources g names tree [] [] = Unit {0}
AreSources g names tree [] (s ∷ sources) = ⊥
AreSources g names tree (n ∷ rest) [] = ⊥
AreSources g names tree (n ∷ rest) (s ∷ sources) = IsSource g names tree n s × AreSources g names tree rest sources

-- one input alone is fed from outside

abbrev pub none_outside : List Source → Bool
none_outside [] = true
none_outside (Outside ∷ sources) = false
none_outside (Output place port ∷ sources) = none_outside sources

abbrev pub one_outside : List Source → Bool
one_outside [] = false
one_outside (Outside ∷ sources) = none_outside sources
one_outside (Output place port ∷ sources) = one_outside sources

-- each output feeds an input

abbrev pub is_output : ℕ → ℕ → Source → Bool
is_output node port Outside = false
is_output node port (Output place number) = place == node && number == port

abbrev pub fed : ℕ → ℕ → List Source → Bool
fed node port [] = false
fed node port (s ∷ sources) = is_output node port s || fed node port sources

abbrev pub all_fed : ℕ → ℕ → List Source → Bool
all_fed node zero sources = true
all_fed node (suc port) sources = fed node (suc port) sources && all_fed node port sources

abbrev pub outputs_of : Kind → ℕ
outputs_of (Fork shape count) = count
outputs_of _ = 1

abbrev pub outputs_fed : ℕ → List Kind → List Source → Bool
outputs_fed node [] sources = true
outputs_fed node (kind ∷ kinds) sources = all_fed node (outputs_of kind) sources && outputs_fed (suc node) kinds sources

-- followed back, what feeds an input comes from outside in fewer steps than this
abbrev pub ends : ℕ → List Source → Option Source → Bool
ends zero sources s = false
ends (suc steps) sources None = false
ends (suc steps) sources (Some Outside) = true
ends (suc steps) sources (Some (Output place port)) = ends steps sources (slice_get sources place)

-- the nodes of these kinds, listed first, are a tree that leads to all listed nodes
pub record IsTable (kinds : List Kind) (sources : List Source) : Type 0 where
  pub one : one_outside sources ≡ true
  pub outputs : outputs_fed 0 kinds sources ≡ true
  pub comes : AllByRecursion (λ s. IsTrue (ends (length sources) sources (Some s))) sources
