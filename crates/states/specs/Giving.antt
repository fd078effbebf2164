-- What a node gives when it fires, and what becomes of its slots, by what stands at it.
use Rattle.std.specs.Prelude.{ℕ, zero, suc, ◌%◌, ◌^◌, List, [], ◌∷◌, ◌++◌, drop, take, map, length, replicate, Option, Some, None, nat_eq, if◌then◌else◌}
use Rattle.std.specs.List.{concat, zip}
use Rattle.op_table.specs.Value.{op_value}
use Rattle.fun_expr.specs.declared.fun.Fun.{Fun}
use Rattle.fun_expr.specs.Function.{fun_value}
use Rattle.components.specs.declared.kind.Kind.{Kind}
use Rattle.components.specs.declared.kind.Kind.TheVariants.{Entry, Exit, Buffer, Fork, Join, Split, Operator, Constant, Source0, Sink0, Pure, Mux, Branch, Merge, CtrlMerge, Init, Tagger}
use Rattle.components.specs.Kind.{Shape}
use Rattle.circuits.specs.PortTokens.{Token, single, one}
use Rattle.circuits.specs.CircuitState.{Slot}
use Rattle.circuits.specs.Firing.{finished, waiting}
use Rattle.states.specs.declared.change.Change.{Change}
use Rattle.states.specs.declared.change.Change.TheVariants.{Keep, DropOldest, Finish, Add}
use Rattle.states.specs.Place.{PlaceValue, queue_at}
use Rattle.states.specs.Ready.{head_number}

-- the token at the head; the token without fields where there is none
abbrev pub head_of : List Token → Token
head_of [] = []
head_of (v ∷ queue) = v

abbrev pub heads : List (List Token) → List Token
heads queues = map head_of queues

-- the first number of the token at the head; 0 where there is none
abbrev pub number_of : List Token → ℕ
number_of [] = 0
number_of ([] ∷ queue) = 0
number_of ((number ∷ v) ∷ queue) = number

abbrev pub head_numbers : List (List Token) → List ℕ
head_numbers queues = map number_of queues

-- What is given: a token or none for each output, in order

abbrev pub lone : Token → List (Option Token)
lone v = Some v ∷ []

-- a token in parts of so many fields as the shapes have
abbrev pub cut_parts : List Shape → Token → List Token
cut_parts [] v = []
cut_parts (shape ∷ shapes) v = take (length shape) v ∷ cut_parts shapes (drop (length shape) v)

abbrev pub applied : Fun → List Token → Token
applied fun [] = []
applied fun (v ∷ queue) = fun_value fun v

-- the input that a Mux takes besides its first
abbrev pub input_by : Option ℕ → ℕ
input_by (Some zero) = 1
input_by _ = 2

abbrev pub mux_input : List (List Token) → ℕ
mux_input queues = input_by (head_number (queue_at queues 0))

-- where a Branch gives its token
abbrev pub branch_by : Token → Token → List (Option Token)
branch_by (zero ∷ w) v = None ∷ Some v ∷ []
branch_by _ v = Some v ∷ []

abbrev pub branch_given : List (List Token) → List (Option Token)
branch_given queues = branch_by (head_of (queue_at queues 1)) (head_of (queue_at queues 0))

abbrev pub result_given : Option Token → List (Option Token)
result_given None = []
result_given (Some v) = None ∷ Some v ∷ []

abbrev pub oldest_given : List Slot → List (Option Token)
oldest_given [] = []
oldest_given (slot ∷ slots) = result_given slot.result

abbrev pub tagger_given : ℕ → PlaceValue → List (Option Token)
tagger_given zero place = oldest_given place.slots
tagger_given (suc zero) place = []
tagger_given (suc (suc tag)) place = lone (tag ∷ head_of (queue_at place.queues 0))

abbrev pub given_of : Kind → ℕ → PlaceValue → List (Option Token)
given_of (Entry shape) choice place = []
given_of (Exit shape) choice place = []
given_of (Buffer shape) choice place = lone (head_of (queue_at place.queues 0))
given_of (Fork shape count) choice place = replicate count (Some (head_of (queue_at place.queues 0)))
given_of (Join shapes) choice place = lone (concat (heads place.queues))
given_of (Split shapes) choice place = map (λ v. Some v) (cut_parts shapes (head_of (queue_at place.queues 0)))
given_of (Operator op widths width) choice place = lone (single (op_value op (zip widths (head_numbers place.queues)) width))
given_of (Constant shape width value) choice place = lone (single (value % 2 ^ width))
given_of (Source0 shape) choice place = lone (map (λ width. 0) shape)
given_of (Sink0 shape) choice place = []
given_of (Pure fun shape) choice place = lone (applied fun (queue_at place.queues 0))
given_of (Mux shape) choice place = lone (head_of (queue_at place.queues (mux_input place.queues)))
given_of (Branch shape) choice place = branch_given place.queues
given_of (Merge shape count) choice place = lone (head_of (queue_at place.queues choice))
given_of (CtrlMerge shape count width) choice place = Some (head_of (queue_at place.queues choice)) ∷ Some (single choice) ∷ []
given_of (Init value mark) choice place = lone (head_of (queue_at place.queues 0))
given_of (Tagger shape tags) choice place = tagger_given choice place

-- the tokens of each output
abbrev pub tokens_of : Option Token → List Token
tokens_of None = []
tokens_of (Some v) = one v

abbrev pub sides_of : List (Option Token) → List (List Token)
sides_of given = map tokens_of given

-- What becomes of the slots

abbrev pub finish_by : Token → Change
finish_by [] = Keep
finish_by (tag ∷ v) = Finish tag v

abbrev pub finish_of : List Token → Change
finish_of [] = Keep
finish_of (v ∷ queue) = finish_by v

abbrev pub tagger_change : ℕ → PlaceValue → Change
tagger_change zero place = DropOldest
tagger_change (suc zero) place = finish_of (queue_at place.queues 1)
tagger_change (suc (suc tag)) place = Add tag

abbrev pub change_of : Kind → ℕ → PlaceValue → Change
change_of (Tagger shape tags) choice place = tagger_change choice place
change_of _ choice place = Keep

-- the first slot of this tag gets its result
abbrev pub finish_slot : ℕ → Token → List Slot → List Slot
finish_slot tag v [] = []
finish_slot tag v (slot ∷ slots) = if nat_eq slot.tag tag then finished slot.tag v ∷ slots else slot ∷ finish_slot tag v slots

abbrev pub changed_slots : Change → List Slot → List Slot
changed_slots Keep slots = slots
changed_slots DropOldest slots = drop 1 slots
changed_slots (Finish tag v) slots = finish_slot tag v slots
changed_slots (Add tag) slots = slots ++ waiting tag ∷ []
