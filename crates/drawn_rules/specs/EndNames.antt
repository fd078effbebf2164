-- Names for the Entry and the Exit of a rule, which none of its listed nodes has.
use Rattle.std.specs.Prelude.{ℕ, suc, ◌==◌, List, [], ◌∷◌, slice_index, if◌then◌else◌}
use Rattle.components.specs.Name.{Name}

-- a letter that does not stand at this place of the name
abbrev pub other_letter : Name → ℕ → ℕ
other_letter name place = if slice_index name place == 97 then 98 else 97

-- a letter for each name, from this place on: at its own place each name has another
abbrev pub letters_from : ℕ → List Name → List ℕ
letters_from place [] = []
letters_from place (name ∷ names) = other_letter name place ∷ letters_from (suc place) names

-- `e` and those letters, so that it is none of the names; and `x` and those letters
abbrev pub entry_name : List Name → Name
entry_name names = 101 ∷ letters_from 1 names

abbrev pub exit_name : List Name → Name
exit_name names = 120 ∷ letters_from 1 names
