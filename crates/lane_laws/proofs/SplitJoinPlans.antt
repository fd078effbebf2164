-- A Split whose outputs are joined again, and a wire, as plans.
use Rattle.std.proofs.Common.{◌≡◌, ℕ, zero, suc, Bool, true, false, List, [], ◌∷◌, Option, Some, None, refl}
use Rattle.components.specs.declared.kind.Kind.{Kind}
use Rattle.components.specs.declared.kind.Kind.TheVariants.{Entry, Exit}
use Rattle.components.specs.Name.{port_get}
use Rattle.components.specs.Kind.{Shape}
use Rattle.circuit_plans.specs.Plans.{Out, Plan, Naming, from}
use Rattle.circuit_plans.specs.Drawing.{Drawing, wire}
use Rattle.lane_laws.specs.SplitJoin.{SplitJoined, entry, split, join, exit, split_joined_kind}

-- a wire with the same ends
pub data Straight : Type 0 where
  new_exit new_entry : Straight

-- each input of the Join comes from the output of the same number
abbrev pub split_output : ℕ → Option Shape → Option (Out SplitJoined)
split_output i None = None
split_output i (Some a) = from split i

abbrev pub split_joined_source : List Shape → SplitJoined → ℕ → Option (Out SplitJoined)
split_joined_source parts split (suc zero) = from entry 1
split_joined_source parts join i = split_output i (port_get parts i)
split_joined_source parts exit (suc zero) = from join 1
split_joined_source parts _ _ = None

abbrev pub straight_source : Straight → ℕ → Option (Out Straight)
straight_source new_exit (suc zero) = from new_entry 1
straight_source _ _ = None

abbrev pub straight_kind : Shape → Straight → Kind
straight_kind a new_entry = Entry a
straight_kind a new_exit = Exit a

abbrev pub same_split_joined : SplitJoined → SplitJoined → Bool
same_split_joined entry entry = true
same_split_joined split split = true
same_split_joined join join = true
same_split_joined exit exit = true
same_split_joined _ _ = false

pub same_split_joined_is : (a b : SplitJoined) → same_split_joined a b ≡ true → a ≡ b
same_split_joined_is entry entry e = refl
same_split_joined_is split split e = refl
same_split_joined_is join join e = refl
same_split_joined_is exit exit e = refl
same_split_joined_is _ _ e = cc

pub same_split_joined_self : (a : SplitJoined) → same_split_joined a a ≡ true
same_split_joined_self entry = refl
same_split_joined_self split = refl
same_split_joined_self join = refl
same_split_joined_self exit = refl

abbrev pub same_straight : Straight → Straight → Bool
same_straight new_entry new_entry = true
same_straight new_exit new_exit = true
same_straight _ _ = false

pub same_straight_is : (a b : Straight) → same_straight a b ≡ true → a ≡ b
same_straight_is new_entry new_entry e = refl
same_straight_is new_exit new_exit e = refl
same_straight_is _ _ e = cc

pub same_straight_self : (a : Straight) → same_straight a a ≡ true
same_straight_self new_entry = refl
same_straight_self new_exit = refl

abbrev pub split_joined_plan : List Shape → Plan SplitJoined
split_joined_plan parts =
    record { kind = split_joined_kind parts; source = split_joined_source parts; same = same_split_joined; same_is = same_split_joined_is; same_self = same_split_joined_self }

abbrev pub straight_plan : Shape → Plan Straight
straight_plan a = record { kind = straight_kind a; source = straight_source; same = same_straight; same_is = same_straight_is; same_self = same_straight_self }

-- the wire, drawn
abbrev pub straight_nodes : List Straight
straight_nodes = new_exit ∷ new_entry ∷ []

abbrev pub straight_drawing : Shape → Drawing Straight
straight_drawing a = record { kind = straight_kind a; nodes = straight_nodes; wires = wire new_entry 1 new_exit 1 ∷ [] }

-- the two have the same names at their ends
pub record SameWireEnds (new_names : Naming Straight) (old_names : Naming SplitJoined) : Type 0 where
  pub entry_is : new_names.name new_entry ≡ old_names.name entry
  pub exit_is : new_names.name new_exit ≡ old_names.name exit
