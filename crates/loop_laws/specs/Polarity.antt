-- Marks, and the way a loop goes back: on which bit, and by which ports of its Muxes and Branches.
use Rattle.std.specs.Prelude.{◌≡◌, ℕ, ◌≤◌, Bool, if◌then◌else◌, Some}
use Rattle.components.specs.declared.kind.Kind.TheVariants.{Init}
use Rattle.components.specs.Name.{Name}
use Rattle.circuits.specs.Circuit.{Circuit}

-- the bit on which a loop goes on with another turn is 1 where goes_back is true; its Init holds the other bit
abbrev pub back_bit : Bool → ℕ
back_bit goes_back = if goes_back then 1 else 0

abbrev pub exit_bit : Bool → ℕ
exit_bit goes_back = if goes_back then 0 else 1

-- the input of a Mux that takes new tuples, and the one that takes those that go on
abbrev pub fresh_in : Bool → ℕ
fresh_in goes_back = if goes_back then 2 else 3

abbrev pub back_in : Bool → ℕ
back_in goes_back = if goes_back then 3 else 2

-- the output of a Branch that leads back, and the one that leads out
abbrev pub back_out : Bool → ℕ
back_out goes_back = if goes_back then 1 else 2

abbrev pub exit_out : Bool → ℕ
exit_out goes_back = if goes_back then 2 else 1

-- m is an Init that asks for tags
abbrev pub IsMark : Circuit → Name → Type 0
IsMark c m = (value tags : ℕ) × (c.kind_at m ≡ Some (Init value tags)) × (1 ≤ tags)

-- the same, with the way that its loop goes back
abbrev pub IsMarkOf : Circuit → Name → Bool → ℕ → Type 0
IsMarkOf c m goes_back tags = (c.kind_at m ≡ Some (Init (exit_bit goes_back) tags)) × (1 ≤ tags)
