-- Fronts for the names of new nodes.
use Rattle.std.specs.Prelude.{ℕ, ◌<◌, ◌∷◌, [], List, ◌++◌, IsSome}
use Rattle.std.specs.FinMap as map
use Rattle.std.specs.Fmt.{decimal}
use Rattle.port_types.specs.PortGrammar.{text_behind}
use Rattle.components.specs.Name.{Name}
use Rattle.components.specs.NamedGraph.{NamedGraph}

-- `ooo_`, the number in decimal and `_`
abbrev pub prefix_text : ℕ → List ℕ
prefix_text number = (111 ∷ 111 ∷ 111 ∷ 95 ∷ []) ++ decimal number ++ (95 ∷ [])

abbrev pub BeginsWith : List ℕ → Name → Type 0
BeginsWith front name = IsSome (text_behind front name)

-- the name of a node begins with the prefix of this number
abbrev pub IsTaken : NamedGraph → ℕ → Type 0
IsTaken g number = (name : Name) × IsSome (map.get g.nodes name) × BeginsWith (prefix_text number) name

-- the least number whose prefix is not taken
pub record IsFreshPrefix (g : NamedGraph) (number : ℕ) : Type 0 where
  pub fresh : ¬ (IsTaken g number)
  pub least : (lesser : ℕ) → lesser < number → IsTaken g lesser
