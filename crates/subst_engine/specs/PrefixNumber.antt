-- The number in a name that begins with a prefix.
use Rattle.std.specs.Prelude.{◌≡◌, ℕ, ◌+◌, ◌<◌, ◌==◌, [], ◌∷◌, List, Option, Some, position, take, option_and_then}
use Rattle.std.specs.FinMap as map
use Rattle.port_types.specs.Numeral.{numeral_value}
use Rattle.port_types.specs.PortGrammar.{text_behind}
use Rattle.components.specs.Name.{Name}
use Rattle.graph_core.specs.GraphValue.{GraphValue}
use Rattle.graph_core.specs.Place.{id_of}

-- the number that the bytes before the first `_` write
abbrev pub number_before_bar : List ℕ → Option ℕ
number_before_bar text = option_and_then (λ end. numeral_value (take end text)) (position (λ byte. byte == 95) text)

-- the number `k` of a name that begins with `ooo_k_`
abbrev pub number_in : Name → Option ℕ
number_in name = option_and_then number_before_bar (text_behind (111 ∷ 111 ∷ 111 ∷ 95 ∷ []) name)

-- the number in the name of the live node with this index
abbrev pub number_at : GraphValue → ℕ → Option ℕ
number_at g index = option_and_then number_in (map.get g.ids (id_of index))

-- some live node has this number
abbrev pub HasNumber : GraphValue → ℕ → Type 0
HasNumber g number = (index : ℕ) × (number_at g index ≡ Some number)

-- this place from the base on is the first whose number no live node has
pub record IsFirstFree (g : GraphValue) (base place : ℕ) : Type 0 where
  pub free : ¬ (HasNumber g (base + place))
  pub taken : (lesser : ℕ) → lesser < place → HasNumber g (base + lesser)
