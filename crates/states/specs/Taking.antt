-- What leaves the inputs of a node that fires.
use Rattle.std.specs.Prelude.{◌≢◌, ℕ, ◌<◌, List, map, drop, nat_eq, if◌then◌else◌, slice_set}
use Rattle.circuits.specs.PortTokens.{Token}
use Rattle.states.specs.declared.taking.Taking.{Taking}
use Rattle.states.specs.declared.taking.Taking.TheVariants.{Nothing, Each, One, Both}
use Rattle.states.specs.Place.{queue_at}

-- one queue without its head
abbrev pub without_head : ℕ → List (List Token) → List (List Token)
without_head input queues = slice_set queues input (drop 1 (queue_at queues input))

-- how many tokens are taken from an input
abbrev pub count_at : Taking → ℕ → ℕ
count_at Nothing input = 0
count_at Each input = 1
count_at (One i) input = if nat_eq input i then 1 else 0
count_at (Both i j) input = if nat_eq input i then 1 else (if nat_eq input j then 1 else 0)

-- the inputs that are named are there, and two are different
abbrev pub IsWithin : Taking → ℕ → Type 0
IsWithin Nothing inputs = Unit {0}
IsWithin Each inputs = Unit {0}
IsWithin (One i) inputs = i < inputs
IsWithin (Both i j) inputs = (i < inputs) × (j < inputs) × (i ≢ j)

-- the queues without what is taken
abbrev pub taken_queues : Taking → List (List Token) → List (List Token)
taken_queues Nothing queues = queues
taken_queues Each queues = map (drop 1) queues
taken_queues (One i) queues = without_head i queues
taken_queues (Both i j) queues = without_head j (without_head i queues)
