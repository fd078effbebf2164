-- What stands at one node in a state: the tokens at its inputs, and its slots.
use Rattle.std.specs.Prelude.{ℕ, ◌-◌, List, [], length, take, Option, slice_index_or, refl}
use Rattle.std.specs.Coded.{Coded, code_by, coded×, coded_ℕ, coded_list, coded_option}
use Rattle.circuits.specs.PortTokens.{Token}
use Rattle.circuits.specs.CircuitState.{Slot}

-- the tokens of the wires into the inputs, in the order of the inputs, and the slots, oldest first
pub record PlaceValue : Type 0 where
  pub queues : List (List Token)
  pub slots : List Slot

abbrev pub no_place : PlaceValue
no_place = record { queues = []; slots = [] }

-- what stands at an input; the inputs are counted from 0 here
abbrev pub queue_at : List (List Token) → ℕ → List Token
queue_at queues input = slice_index_or queues input []

-- without the token that came last
abbrev pub but_last : List Token → List Token
but_last queue = take (length queue - 1) queue

-- How it is stored

abbrev pub slot_code : Coded Slot
slot_code = code_by (ℕ × Option Token) (coded× coded_ℕ (coded_option (coded_list coded_ℕ))) (λ s. (s.tag, s.result)) (λ p. record { tag = p.0; result = p.1 }) (λ _. refl)

abbrev pub place_code : Coded PlaceValue
place_code =
    code_by (List (List Token) × List Slot) (coded× (coded_list (coded_list (coded_list coded_ℕ))) (coded_list slot_code))
    (λ p. (p.queues, p.slots)) (λ q. record { queues = q.0; slots = q.1 }) (λ _. refl)
