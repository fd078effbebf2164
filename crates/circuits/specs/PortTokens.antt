-- What a node takes or gives at the ports of one side: a list of tokens for each port, in order.
use Rattle.std.specs.Prelude.{ℕ, zero, suc, List, [], ◌∷◌, Option, Some, None, if◌then◌else◌, bytes_eq}
use Rattle.components.specs.Name.{Name, Port}

-- a number for each field of a shape
abbrev pub Token : Type 0
Token = List ℕ

-- a token of one field
abbrev pub single : ℕ → Token
single number = number ∷ []

-- a single token
abbrev pub one : Token → List Token
one v = v ∷ []

-- what the side has at port i: nothing where it has no such port
abbrev pub at_port : List (List Token) → ℕ → List Token
at_port [] i = []
at_port (x ∷ xs) zero = []
at_port (x ∷ xs) (suc zero) = x
at_port (x ∷ xs) (suc (suc i)) = at_port xs (suc i)

-- what stands at port p, where side is what node n has at its ports
abbrev pub share : Name → List (List Token) → Port → List Token
share n side p = if bytes_eq p.node n then at_port side p.port else []

-- the same at a port that may be none
abbrev pub share_from : Name → List (List Token) → Option Port → List Token
share_from n side None = []
share_from n side (Some p) = share n side p
