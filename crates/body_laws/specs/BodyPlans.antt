-- The circuit of a body between an Entry and its leaving wires, and that of the Pure that comes in its place.
use Rattle.std.specs.Prelude.{◌≡◌, ℕ, zero, suc, Bool, true, false, List, [], ◌∷◌, ◌++◌, Option, Some, None, map, refl, length}
use Rattle.body_laws.specs.Bodies.{IsSteady, Body, at_output, body_shapes, NodesInOrder}
use Rattle.body_laws.specs.TypedPlan.{TypedPlan}
use Rattle.circuit_plans.specs.Places.{Place, item, number, place_at, same_place, same_place_is, same_place_self}
use Rattle.circuit_plans.specs.Plans.{Out, Plan, Naming, from}
use Rattle.components.specs.Kind.{Shape}
use Rattle.components.specs.Name.{Name, port_get}
use Rattle.components.specs.declared.kind.Kind.{Kind}
use Rattle.components.specs.declared.kind.Kind.TheVariants.{Entry, Exit, Fork, Split, Pure}
use Rattle.fun_expr.specs.Each.{Each}
use Rattle.fun_expr.specs.Function.{Function}
use Rattle.std.specs.List.{concat}

-- the ways out of a body, one a leaving wire
pub data Way (b : Body) : Type 0 where
  next : Place b.next → Way b
  condition : Way b
  other : Place b.others → Way b

-- a body in a plan: an Entry, its Split and its nodes, and what stands behind them
pub data Part (b : Body) (T : Type 0) : Type 0 where
  enter : Part b T
  vars : Part b T
  node : Place b.nodes → Part b T
  tail : T → Part b T

-- the output of a plan that an output of the body is
abbrev pub node_out : (b : Body) (T : Type 0) → ℕ → Option (Place b.nodes) → Option (Out (Part b T))
node_out b T i None = None
node_out b T i (Some p) = Some (record { at = node p; port = i })

abbrev pub out_by_number : (b : Body) (T : Type 0) → ℕ → ℕ → Option (Out (Part b T))
out_by_number b T zero i = Some (record { at = vars; port = i })
out_by_number b T (suc n) i = node_out b T i (place_at b.nodes (suc n))

abbrev pub out_of : (b : Body) (T : Type 0) → Option (Out ℕ) → Option (Out (Part b T))
out_of b T None = None
out_of b T (Some q) = out_by_number b T q.at q.port

-- the one source of a node with one input
abbrev pub only : {A : Type 0} → Option A → ℕ → Option A
only o zero = None
only o (suc zero) = o
only o (suc (suc i)) = None

-- a plan's body, with the kinds and the sources of what stands behind it
module _ (b : Body) (T : Type 0) (kind : T → Kind) (source : T → ℕ → Option (Out (Part b T))) (same : T → T → Bool) where
  abbrev pub part_kind : Part b T → Kind
  part_kind enter = Entry (concat b.vars)
  part_kind vars = Split b.vars
  part_kind (node p) = (item b.nodes p).kind
  part_kind (tail t) = kind t

  abbrev pub part_source : Part b T → ℕ → Option (Out (Part b T))
  part_source enter i = None
  part_source vars i = only (Some (record { at = enter; port = 1 })) i
  part_source (node p) i = out_of b T (port_get (item b.nodes p).inputs i)
  part_source (tail t) i = source t i

  abbrev pub same_part : Part b T → Part b T → Bool
  same_part enter enter = true
  same_part vars vars = true
  same_part (node p) (node q) = same_place b.nodes p q
  same_part (tail t) (tail u) = same t u
  same_part _ _ = false

  module _ (same_is : (t u : T) → same t u ≡ true → t ≡ u) (same_self : (t : T) → same t t ≡ true) where
    pub same_part_is : (m n : Part b T) → same_part m n ≡ true → m ≡ n
    same_part_is enter enter e = refl
    same_part_is vars vars e = refl
    same_part_is (node p) (node q) e = λ i. node (same_place_is b.nodes p q e i)
    same_part_is (tail t) (tail u) e = λ i. tail (same_is t u e i)
    same_part_is _ _ e = cc

    pub same_part_self : (m : Part b T) → same_part m m ≡ true
    same_part_self enter = refl
    same_part_self vars = refl
    same_part_self (node p) = same_place_self b.nodes p
    same_part_self (tail t) = same_self t

    abbrev pub part_plan : Plan (Part b T)
    part_plan = record { kind = part_kind; source = part_source; same = same_part; same_is = same_part_is; same_self = same_part_self }

-- the shape of an output of a body
abbrev pub some_shape : Option Shape → Shape
some_shape None = []
some_shape (Some a) = a

abbrev pub shape_of : Body → Out ℕ → Shape
shape_of b q = some_shape (at_output (body_shapes b) q)

abbrev pub next_shapes : Body → List Shape
next_shapes b = map (shape_of b) b.next

-- the ways out by the outputs that feed them
abbrev pub way_out : (b : Body) → Way b → Out ℕ
way_out b (next p) = item b.next p
way_out b condition = b.condition
way_out b (other p) = item b.others p

abbrev pub way_shape : (b : Body) → Way b → Shape
way_shape b (next p) = shape_of b (item b.next p)
way_shape b condition = 1 ∷ []
way_shape b (other p) = 1 ∷ []

abbrev pub way_kind : (b : Body) → Way b → Kind
way_kind b w = Exit (way_shape b w)

abbrev pub way_source : (b : Body) → Way b → ℕ → Option (Out (Part b (Way b)))
way_source b w i = only (out_of b (Way b) (Some (way_out b w))) i

abbrev pub same_way : (b : Body) → Way b → Way b → Bool
same_way b (next p) (next q) = same_place b.next p q
same_way b condition condition = true
same_way b (other p) (other q) = same_place b.others p q
same_way b _ _ = false

pub same_way_is : (b : Body) (v w : Way b) → same_way b v w ≡ true → v ≡ w
same_way_is b (next p) (next q) e = λ i. next (same_place_is b.next p q e i)
same_way_is b condition condition e = refl
same_way_is b (other p) (other q) e = λ i. other (same_place_is b.others p q e i)
same_way_is b _ _ e = cc

pub same_way_self : (b : Body) (w : Way b) → same_way b w w ≡ true
same_way_self b (next p) = same_place_self b.next p
same_way_self b condition = refl
same_way_self b (other p) = same_place_self b.others p

-- the body between an Entry, which feeds its Split, and an Exit a leaving wire
abbrev pub body_plan : (b : Body) → Plan (Part b (Way b))
body_plan b = part_plan b (Way b) (way_kind b) (way_source b) (same_way b) (same_way_is b) (same_way_self b)

-- a body: nodes of the kinds that may stand there, in an order in which each comes behind those that feed it, and each port on one wire
pub record TypedBody (b : Body) : Type 0 where
  pub steady : Each (λ n. IsSteady n.kind) b.nodes
  pub order : NodesInOrder (b.vars ∷ []) b.nodes
  pub typed : TypedPlan (body_plan b)

-- one Pure in the place of a body: its output is split into the data and the condition, the data into its wires, and the condition is copied to the condition wires
pub data Gathered (b : Body) : Type 0 where
  entry : Gathered b
  pure : Gathered b
  pair : Gathered b
  vals : Gathered b
  fork : Gathered b
  way : Way b → Gathered b

abbrev pub gathered_kind : (b : Body) → Function → Gathered b → Kind
gathered_kind b f entry = Entry (concat b.vars)
gathered_kind b f pure = Pure f (concat (next_shapes b) ++ 1 ∷ [])
gathered_kind b f pair = Split (concat (next_shapes b) ∷ (1 ∷ []) ∷ [])
gathered_kind b f vals = Split (next_shapes b)
gathered_kind b f fork = Fork (1 ∷ []) (suc (length b.others))
gathered_kind b f (way w) = way_kind b w

abbrev pub way_copy : (b : Body) → Way b → Option (Out (Gathered b))
way_copy b (next p) = from vals (number b.next p)
way_copy b condition = from fork 1
way_copy b (other p) = from fork (suc (number b.others p))

abbrev pub gathered_source : (b : Body) → Gathered b → ℕ → Option (Out (Gathered b))
gathered_source b entry i = None
gathered_source b pure i = only (from entry 1) i
gathered_source b pair i = only (from pure 1) i
gathered_source b vals i = only (from pair 1) i
gathered_source b fork i = only (from pair 2) i
gathered_source b (way w) i = only (way_copy b w) i

abbrev pub same_gathered : (b : Body) → Gathered b → Gathered b → Bool
same_gathered b entry entry = true
same_gathered b pure pure = true
same_gathered b pair pair = true
same_gathered b vals vals = true
same_gathered b fork fork = true
same_gathered b (way v) (way w) = same_way b v w
same_gathered b _ _ = false

pub same_gathered_is : (b : Body) (m n : Gathered b) → same_gathered b m n ≡ true → m ≡ n
same_gathered_is b entry entry e = refl
same_gathered_is b pure pure e = refl
same_gathered_is b pair pair e = refl
same_gathered_is b vals vals e = refl
same_gathered_is b fork fork e = refl
same_gathered_is b (way v) (way w) e = λ i. way (same_way_is b v w e i)
same_gathered_is b _ _ e = cc

pub same_gathered_self : (b : Body) (n : Gathered b) → same_gathered b n n ≡ true
same_gathered_self b entry = refl
same_gathered_self b pure = refl
same_gathered_self b pair = refl
same_gathered_self b vals = refl
same_gathered_self b fork = refl
same_gathered_self b (way w) = same_way_self b w

abbrev pub gathered_plan : (b : Body) → Function → Plan (Gathered b)
gathered_plan b f =
    record { kind = gathered_kind b f; source = gathered_source b; same = same_gathered b; same_is = same_gathered_is b; same_self = same_gathered_self b }

-- the names of the ends
abbrev pub body_entry : {b : Body} {T : Type 0} → Naming (Part b T) → Name
body_entry names = names.name enter

abbrev pub way_exit : {b : Body} → Naming (Part b (Way b)) → Way b → Name
way_exit names w = names.name (tail w)

-- the ends of two plans have the same names
pub record GatherEnds (b : Body) (new_names : Naming (Gathered b)) (old_names : Naming (Part b (Way b))) : Type 0 where
  pub entry : new_names.name entry ≡ body_entry old_names
  pub ways : (w : Way b) → new_names.name (way w) ≡ way_exit old_names w
