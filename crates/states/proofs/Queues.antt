-- Queues by ports and by inputs.
use Rattle.std.proofs.Common.{◌≡◌, ◌≢◌, ℕ, zero, suc, ◌-◌, ◌<◌, ◌≤◌, List, [], ◌∷◌, length, refl, sym, ap, ◌∙◌, arith, slice_set}
use Rattle.std.proofs.lemmas.List.{get_or-set_other}
use Rattle.circuits.specs.PortTokens.{Token, at_port}
use Rattle.states.specs.Place.{queue_at}

-- a port has the number of its input and one more
pub port_queue : (queues : List (List Token)) (input : ℕ) → at_port queues (suc input) ≡ queue_at queues input
port_queue [] input = refl
port_queue (queue ∷ queues) zero = refl
port_queue (queue ∷ queues) (suc input) = port_queue queues input

-- there is no port 0
pub port_zero : (queues : List (List Token)) → at_port queues 0 ≡ []
port_zero [] = refl
port_zero (queue ∷ queues) = refl

-- nor one behind the last
pub port_past : (queues : List (List Token)) (port : ℕ) → length queues < port → at_port queues port ≡ []
port_past [] port past = refl
port_past (queue ∷ queues) zero past = refl
port_past (queue ∷ queues) (suc zero) past = absurd (omega arith)
port_past (queue ∷ queues) (suc (suc port)) past = port_past queues (suc port) (omega arith)

-- a change at one input leaves the other ports
pub port_other : (queues : List (List Token)) (input port : ℕ) (queue : List Token) → port ≢ suc input → at_port (slice_set queues input queue) port ≡ at_port queues port
port_other queues input zero queue other = port_zero (slice_set queues input queue) ∙ sym (port_zero queues)
port_other queues input (suc j) queue other =
    let apart : j ≢ input = λ same. other (ap suc same) in
    port_queue (slice_set queues input queue) j ∙ get_or-set_other queues input j queue [] apart ∙ sym (port_queue queues j)

pub number_of : (port : ℕ) → 1 ≤ port → port ≡ suc (port - 1)
number_of port some = omega arith
