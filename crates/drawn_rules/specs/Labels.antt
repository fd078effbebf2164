-- The names of the nodes of a rule's two graphs, by labels.
use Rattle.std.specs.Prelude.{ℕ, ◌<◌, ◌^◌, List, [], ◌∷◌, ◌++◌, slice_index_or}
use Rattle.std.specs.List.{AllByRecursion}
use Rattle.std.specs.Fmt.{decimal}
use Rattle.components.specs.Name.{Name, IsName}
use Rattle.circuits.specs.Replacing.{NoneTwice}
use Rattle.subst_engine.specs.Prefix.{prefix_text, BeginsWith}

-- the name at a place of a list
abbrev pub nth : List Name → ℕ → Name
nth names place = slice_index_or names place []

-- a listed node, by its place in the list; an Entry or an Exit, by a letter and a number; a new node, by its word
pub data Label : Type 0 where
  listed : ℕ → Label
  ending : ℕ → ℕ → Label
  fresh : List ℕ → Label

-- the name of an Entry or an Exit: a prefix that no node of the graph has, a letter and a number
abbrev pub end_name : ℕ → ℕ → ℕ → Name
end_name ends letter number = prefix_text ends ++ letter ∷ decimal number

-- the name that a label stands for, with the prefix of new nodes, that of the Entries and Exits, and the names of the listed nodes
abbrev pub label_name : ℕ → ℕ → List Name → Label → Name
label_name prefix ends names (listed place) = nth names place
label_name prefix ends names (ending letter number) = end_name ends letter number
label_name prefix ends names (fresh word) = prefix_text prefix ++ word

-- the names of listed nodes differ, are allowed, and do not begin with the prefix of Entries and Exits
pub record AreFree (prefix ends : ℕ) (names : List Name) : Type 0 where
  pub new_number : prefix < 2 ^ 64
  pub end_number : ends < 2 ^ 64
  pub differ : NoneTwice names
  pub allowed : AllByRecursion IsName names
  pub away : AllByRecursion (λ name. ¬ (BeginsWith (prefix_text ends) name)) names
