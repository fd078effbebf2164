-- Bodies by numbers: a Split and nodes behind it, each with the outputs that feed it; their values, functions and roots.
use Rattle.std.specs.Prelude.{◌≡◌, ℕ, suc, List, [], ◌∷◌, ◌++◌, Option, Some, None, map, slice_get, ◌⊎◌}
use Rattle.circuit_plans.specs.Plans.{Out}
use Rattle.circuits.specs.Firing.{Fires, FitEach}
use Rattle.circuits.specs.PortTokens.{Token, one}
use Rattle.circuits.specs.Root.{PassesThrough}
use Rattle.components.specs.Kind.{Shape, ins, outs}
use Rattle.components.specs.Name.{port_get}
use Rattle.components.specs.declared.kind.Kind.{Kind}
use Rattle.components.specs.declared.kind.Kind.TheVariants.{Buffer, Fork, Join, Split, Sink0, Source0, Constant, Pure, Operator}
use Rattle.fun_expr.specs.Each.{Each}
use Rattle.fun_expr.specs.Function.{Function, fun_value}
use Rattle.port_types.specs.Token.{Fits}
use Rattle.std.specs.List.{concat}

-- the kinds that take one token of each input and give one at each output whenever they fire
abbrev pub IsSteady : Kind → Type 0
IsSteady (Buffer a) = Unit {0}
IsSteady (Fork a k) = Unit {0}
IsSteady (Join bs) = Unit {0}
IsSteady (Split bs) = Unit {0}
IsSteady (Sink0 a) = Unit {0}
IsSteady (Source0 a) = Unit {0}
IsSteady (Constant a w v) = Unit {0}
IsSteady (Pure f b) = Unit {0}
IsSteady (Operator o ws w) = Unit {0}
IsSteady _ = ⊥

-- a node of a body, and the outputs that feed its inputs
pub record BodyNode : Type 0 where
  pub kind : Kind
  pub inputs : List (Out ℕ)

-- a Split, whose outputs have the shapes vars, and nodes behind it. An output is named by its node, 0 for the Split and i for the i-th of the nodes, and its port.
-- The wires that leave are the data wires, from next, and the condition wires, from condition and others
pub record Body : Type 0 where
  pub vars : List Shape
  pub nodes : List BodyNode
  pub next : List (Out ℕ)
  pub condition : Out ℕ
  pub others : List (Out ℕ)

-- what a list of sides has at an output
abbrev pub on_side : {A : Type 0} → Option (List A) → ℕ → Option A
on_side None i = None
on_side (Some side) i = port_get side i

abbrev pub at_output : {A : Type 0} → List (List A) → Out ℕ → Option A
at_output sides q = on_side (slice_get sides q.at) q.port

-- each node's inputs come, at their shapes, from outputs of the nodes before it
abbrev pub NodesInOrder : List (List Shape) → List BodyNode → Type 0
NodesInOrder before [] = Unit {0}
NodesInOrder before (n ∷ ns) = (map (at_output before) n.inputs ≡ map Some (ins n.kind)) × NodesInOrder (before ++ outs n.kind ∷ []) ns

-- the shapes of the outputs of the Split and of the nodes
abbrev pub body_shapes : Body → List (List Shape)
body_shapes b = b.vars ∷ map (λ n. outs n.kind) b.nodes

-- the tokens given agree with one firing of each node on the tokens of all outputs
abbrev pub FireOnce : List (List Token) → List BodyNode → List (List Token) → Type 0
FireOnce all [] [] = Unit {0}
FireOnce all [] (ws ∷ given) = ⊥
FireOnce all (n ∷ ns) [] = ⊥
FireOnce all (n ∷ ns) (ws ∷ given) =
    (vs : List Token) × (map (at_output all) n.inputs ≡ map Some vs) × Fires n.kind 0 [] (map one vs) (map one ws) [] × FireOnce all ns given

-- the tokens of all outputs, by node and port, when the tuple x has gone through the body
pub record IsValue (b : Body) (x : Token) (all : List (List Token)) : Type 0 where
  pub parts : List Token
  pub fit : FitEach b.vars parts
  pub whole : concat parts ≡ x
  pub given : List (List Token)
  pub is : all ≡ parts ∷ given
  pub fires : FireOnce all b.nodes given

-- these are the tokens of the data wires and of the condition
pub record Leaves (b : Body) (all : List (List Token)) (next : List Token) (condition : Token) : Type 0 where
  pub is_next : map (at_output all) b.next ≡ map Some next
  pub is_condition : at_output all b.condition ≡ Some condition

-- f gives, at each tuple, the tokens of the data wires and of the condition, one after another
pub record IsFunctionOf (f : Function) (b : Body) : Type 0 where
  pub input : f.input ≡ concat b.vars
  pub value : (x : Token) (all : List (List Token)) (next : List Token) (condition : Token) → Fits (concat b.vars) x → IsValue b x all → Leaves b all next condition → fun_value f x ≡ concat next ++ condition

-- output q is output r, or that of a Fork or Buffer of the body that leads on from it
pub data CopiedFrom (b : Body) (r : Out ℕ) : Out ℕ → Type 0 where
  here : CopiedFrom b r r
  past : {q : Out ℕ} (i : ℕ) (n : BodyNode) (p : Out ℕ) → q.at ≡ suc i → slice_get b.nodes i ≡ Some n → PassesThrough n.kind → n.inputs ≡ p ∷ [] → CopiedFrom b r p → CopiedFrom b r q

-- all condition wires come from one output, through Forks and Buffers alone
pub record OneRoot (b : Body) (root : Out ℕ) : Type 0 where
  pub condition : CopiedFrom b root b.condition
  pub others : Each (CopiedFrom b root) b.others

abbrev pub Among : {A : Type 0} → A → List A → Type 0
Among x [] = ⊥
Among x (y ∷ ys) = (x ≡ y) ⊎ Among x ys

-- the Split, and what takes an input from a reached node. The other nodes are the feeders: a Source0, and what it alone feeds
pub data ReachedInBody (b : Body) : ℕ → Type 0 where
  split : ReachedInBody b 0
  on : (i : ℕ) (n : BodyNode) (q : Out ℕ) → slice_get b.nodes i ≡ Some n → Among q n.inputs → ReachedInBody b q.at → ReachedInBody b (suc i)

-- the condition and some data wire depend on what comes in
pub record Depends (b : Body) (root : Out ℕ) : Type 0 where
  pub condition : ReachedInBody b root.at
  pub source : Out ℕ
  pub is_next : Among source b.next
  pub next : ReachedInBody b source.at
