-- The body of the loop that computes greatest common divisors, and its function.
use Rattle.std.specs.Prelude.{◌≡◌, ℕ, List, [], ◌∷◌, codes}
use Rattle.op_table.specs.declared.op.Op.TheVariants.{Urem, Ne}
use Rattle.components.specs.declared.kind.Kind.{Kind}
use Rattle.components.specs.declared.kind.Kind.TheVariants.{Fork, Operator, Constant}
use Rattle.components.specs.declared.node.Node.{Node}
use Rattle.components.specs.Kind.{field}
use Rattle.fun_expr.specs.declared.expr.Expr.TheVariants.{Field, Lit, Apply}
use Rattle.fun_expr.specs.Function.{Function}
use Rattle.loop_body.specs.declared.body_port.BodyPort.{BodyPort}
use Rattle.loop_body.specs.Body.{Body, IsBody}
use Rattle.loop_body.specs.BodyFunction.{body_function}

abbrev pub port : ℕ → ℕ → BodyPort
port node number = record { node = node; port = number }

-- a node without kept attributes
abbrev pub bare : List ℕ → Kind → Node
bare name kind = record { name = name; kind = kind; kept = [] }

-- the remainder of the first lane by the second is the next of the second, which is the next of the first; the loop goes on while it is not 0
abbrev pub gcd_body : Body
gcd_body = record {
  vars = field 32 ∷ field 32 ∷ [];
  nodes =
      bare (codes "fb") (Fork (field 32) 2) ∷ bare (codes "rem") (Operator Urem (32 ∷ 32 ∷ []) 32) ∷ bare (codes "fr") (Fork (field 32) 3) ∷
      bare (codes "z") (Constant (field 32) 32 0) ∷ bare (codes "ne") (Operator Ne (32 ∷ 32 ∷ []) 1) ∷ bare (codes "fc") (Fork (field 1) 3) ∷ [];
  inputs = (port 0 2 ∷ []) ∷ (port 0 1 ∷ port 1 2 ∷ []) ∷ (port 2 1 ∷ []) ∷ (port 3 3 ∷ []) ∷ (port 3 2 ∷ port 4 1 ∷ []) ∷ (port 5 1 ∷ []) ∷ [];
  next = port 1 1 ∷ port 3 1 ∷ [];
  conditions = port 6 1 ∷ port 6 2 ∷ port 6 3 ∷ [];
}

-- urem:32(#0,#1);ne:1(#2,32'0) -> #1 #2 #3
abbrev pub gcd_function : Function
gcd_function = record {
  input = 32 ∷ 32 ∷ [];
  binds = Apply Urem 32 (Field 0 ∷ Field 1 ∷ []) ∷ Apply Ne 1 (Field 2 ∷ Lit 32 0 ∷ []) ∷ [];
  outs = 1 ∷ 2 ∷ 3 ∷ [];
}

-- it is a body, and this is its function
abbrev pub GcdIsBody : Type 0
GcdIsBody = IsBody gcd_body

abbrev pub GcdFunction : Type 0
GcdFunction = body_function gcd_body ≡ gcd_function
