-- When a node can fire with a choice, by what stands at it.
use Rattle.std.specs.Prelude.{◌≡◌, ℕ, zero, suc, ◌<◌, ◌++◌, ◌∷◌, [], List, length, Bool, Option, Some, None, is_some, true, false, nat_eq, nat_lt, if◌then◌else◌, ◌&&◌}
use Rattle.std.specs.Option.{is_none}
use Rattle.std.specs.List.{AllByRecursion, list_all, list_any}
use Rattle.port_types.specs.Token.{Fits}
use Rattle.components.specs.declared.kind.Kind.{Kind}
use Rattle.components.specs.declared.kind.Kind.TheVariants.{Entry, Exit, Buffer, Fork, Join, Split, Operator, Constant, Source0, Sink0, Pure, Mux, Branch, Merge, CtrlMerge, Init, Tagger}
use Rattle.components.specs.Kind.{Shape, ins, KindOk}
use Rattle.circuits.specs.PortTokens.{Token, at_port}
use Rattle.circuits.specs.CircuitState.{Slot, TagsDiffer}
use Rattle.circuits.specs.Firing.{Fires}
use Rattle.states.specs.declared.taking.Taking.{Taking}
use Rattle.states.specs.declared.taking.Taking.TheVariants.{Nothing, Each, One, Both}
use Rattle.states.specs.Place.{PlaceValue, queue_at}
use Rattle.states.specs.Taking.{count_at, IsWithin}

-- the tokens of each queue fit the shape of its input
abbrev pub FitQueues : List Shape → List (List Token) → Type 0
FitQueues [] [] = Unit {0}
FitQueues [] (queue ∷ queues) = ⊥
FitQueues (shape ∷ shapes) [] = ⊥
FitQueues (shape ∷ shapes) (queue ∷ queues) = AllByRecursion (Fits shape) queue × FitQueues shapes queues

-- what may stand at a node of this kind
pub record IsPlaceOf (kind : Kind) (place : PlaceValue) : Type 0 where
  pub ok : KindOk kind
  pub fits : FitQueues (ins kind) place.queues
  pub tags : TagsDiffer place.slots

-- what is taken stands at the fronts of the inputs
abbrev pub StandAt : List (List Token) → List (List Token) → Type 0
StandAt queues taken = (port : ℕ) → (behind : List Token) × (at_port queues port ≡ at_port taken port ++ behind)

-- the node fires so by its row
pub record CanFire (kind : Kind) (choice : ℕ) (place : PlaceValue) : Type 0 where
  pub taken : List (List Token)
  pub given : List (List Token)
  pub new : List Slot
  pub stand : StandAt place.queues taken
  pub fires : Fires kind choice place.slots taken given new

-- and this is what it takes
pub record IsReady (kind : Kind) (choice : ℕ) (place : PlaceValue) (taking : Taking) : Type 0 where
  pub can : CanFire kind choice place
  pub within : IsWithin taking (length place.queues)
  pub counts : (input : ℕ) → input < length place.queues → count_at taking input ≡ length (at_port can.taken (suc input))

-- How it is told

abbrev pub is_full : List Token → Bool
is_full [] = false
is_full (v ∷ queue) = true

abbrev pub are_full : List (List Token) → Bool
are_full queues = list_all is_full queues

-- the first number of the token at the head
abbrev pub head_number : List Token → Option ℕ
head_number [] = None
head_number ([] ∷ queue) = None
head_number ((number ∷ v) ∷ queue) = Some number

-- this, if the test holds
abbrev pub only_if : Bool → Taking → Option Taking
only_if test taking = if test then Some taking else None

abbrev pub each_taking : ℕ → List (List Token) → Option Taking
each_taking zero queues = only_if (are_full queues) Each
each_taking (suc choice) queues = None

-- a Mux takes its select, and the token of the input that this tells
abbrev pub selected : List (List Token) → Option ℕ → Option Taking
selected queues None = None
selected queues (Some zero) = only_if (is_full (queue_at queues 1)) (Both 0 1)
selected queues (Some (suc number)) = only_if (is_full (queue_at queues 2)) (Both 0 2)

abbrev pub mux_taking : ℕ → List (List Token) → Option Taking
mux_taking zero queues = selected queues (head_number (queue_at queues 0))
mux_taking (suc choice) queues = None

abbrev pub merge_taking : ℕ → ℕ → List (List Token) → Option Taking
merge_taking count choice queues = if nat_lt choice count then only_if (is_full (queue_at queues choice)) (One choice) else None

-- the oldest slot has its result
abbrev pub is_finished : List Slot → Bool
is_finished [] = false
is_finished (slot ∷ slots) = is_some slot.result

-- the tag waits for its result
abbrev pub waits : ℕ → List Slot → Bool
waits tag slots = list_any (λ slot. nat_eq slot.tag tag && is_none slot.result) slots

abbrev pub waits_for : List Slot → Option ℕ → Option Taking
waits_for slots None = None
waits_for slots (Some tag) = only_if (waits tag slots) (One 1)

-- the tag is in use
abbrev pub has_tag : ℕ → List Slot → Bool
has_tag tag slots = list_any (λ slot. nat_eq slot.tag tag) slots

abbrev pub gives_tag : ℕ → ℕ → PlaceValue → Option Taking
gives_tag tags tag place = if nat_lt tag tags then (if has_tag tag place.slots then None else only_if (is_full (queue_at place.queues 0)) (One 0)) else None

abbrev pub tagger_taking : ℕ → ℕ → PlaceValue → Option Taking
tagger_taking tags zero place = only_if (is_finished place.slots) Nothing
tagger_taking tags (suc zero) place = waits_for place.slots (head_number (queue_at place.queues 1))
tagger_taking tags (suc (suc tag)) place = gives_tag tags tag place

abbrev pub taking_of : Kind → ℕ → PlaceValue → Option Taking
taking_of (Entry shape) choice place = None
taking_of (Exit shape) choice place = None
taking_of (Buffer shape) choice place = each_taking choice place.queues
taking_of (Fork shape count) choice place = each_taking choice place.queues
taking_of (Join shapes) choice place = each_taking choice place.queues
taking_of (Split shapes) choice place = each_taking choice place.queues
taking_of (Operator op widths width) choice place = each_taking choice place.queues
taking_of (Constant shape width value) choice place = each_taking choice place.queues
taking_of (Source0 shape) choice place = each_taking choice place.queues
taking_of (Sink0 shape) choice place = each_taking choice place.queues
taking_of (Pure fun shape) choice place = each_taking choice place.queues
taking_of (Mux shape) choice place = mux_taking choice place.queues
taking_of (Branch shape) choice place = each_taking choice place.queues
taking_of (Merge shape count) choice place = merge_taking count choice place.queues
taking_of (CtrlMerge shape count width) choice place = merge_taking count choice place.queues
taking_of (Init value mark) choice place = each_taking choice place.queues
taking_of (Tagger shape tags) choice place = tagger_taking tags choice place
