-- What a Tagger does in a run: the tags that it gives out, and how many of them come free again.
use Rattle.std.specs.Prelude.{ℕ, zero, suc, List, [], ◌∷◌, map, if◌then◌else◌, bytes_eq}
use Rattle.components.specs.Name.{Name}
use Rattle.circuits.specs.CircuitState.{Slot}
use Rattle.circuits.specs.Firing.{Label, Label.Fire}
use Rattle.circuits.specs.Run.{Move}

-- the tags of the slots, oldest first
abbrev pub tags_of : List Slot → List ℕ
tags_of slots = map (λ slot. slot.tag) slots

-- the tag that a firing of a Tagger gives out, before others
abbrev pub giving : Label → List ℕ → List ℕ
giving (Fire (suc (suc tag))) tags = tag ∷ tags
giving _ tags = tags

-- the tags that node n gives out, one after another
abbrev pub tags_given : Name → List Move → List ℕ
tags_given n [] = []
tags_given n (m ∷ ms) = if bytes_eq m.node n then giving m.label (tags_given n ms) else tags_given n ms

-- one more where a firing of a Tagger gives a result
abbrev pub freeing : Label → ℕ → ℕ
freeing (Fire zero) count = suc count
freeing _ count = count

-- how many results node n gives
abbrev pub results_given : Name → List Move → ℕ
results_given n [] = 0
results_given n (m ∷ ms) = if bytes_eq m.node n then freeing m.label (results_given n ms) else results_given n ms
