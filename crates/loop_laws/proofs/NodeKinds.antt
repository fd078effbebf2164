-- What kind a node of a loop has, and which ports it has.
use Rattle.std.proofs.Common.{◌≡◌, ◌≢◌, ◌⊎◌, inl, inr, ℕ, zero, suc, refl, sym, ap, subst, ◌∙◌, Bool, true, false, [], ◌∷◌, Some, None, arith}
use Rattle.std.proofs.lemmas.Option.{same_Some}
use Rattle.components.specs.declared.kind.Kind.{Kind}
use Rattle.components.specs.declared.kind.Kind.TheVariants.{Buffer, Fork, Join, Split, Sink0, Source0, Constant, Mux, Branch, Pure, Operator}
use Rattle.components.specs.Name.{Name, Port, port_get}
use Rattle.components.specs.Kind.{Shape, ins, outs}
use Rattle.components.specs.Numbered.{single_port}
use Rattle.circuits.specs.Circuit.{Circuit, Typed}
use Rattle.circuits.specs.Root.{PassesThrough}
use Rattle.loop_laws.specs.Polarity.{fresh_in, back_in, back_out, exit_out}
use Rattle.loop_laws.specs.Reached.{HasKind, IsPure}
use Rattle.loop_laws.specs.BackPath.{IsBuffer}
use Rattle.loop_laws.specs.Feeders.{IsConstant}
use Rattle.loop_laws.specs.Faults.{IsBranch}

-- a node has one kind
pub kind_is : (g : Circuit) (P : Kind → Type 0) (n : Name) (k : Kind) → HasKind g P n → g.kind_at n ≡ Some k → P k
kind_is g P n k h e = subst P (same_Some h.0 k (sym h.1 ∙ e)) h.2

pub two_ports : (a b : Shape) (i : ℕ) (s : Shape) → port_get (a ∷ b ∷ []) i ≡ Some s → (i ≡ 1) ⊎ (i ≡ 2)
two_ports a b zero s e = let z : None ≡ Some s = e in cc
two_ports a b (suc zero) s e = inl refl
two_ports a b (suc (suc zero)) s e = inr refl
two_ports a b (suc (suc (suc i))) s e = let z : None ≡ Some s = e in cc

pub three_ports : (a b c : Shape) (i : ℕ) (s : Shape) → port_get (a ∷ b ∷ c ∷ []) i ≡ Some s → (i ≡ 1) ⊎ ((i ≡ 2) ⊎ (i ≡ 3))
three_ports a b c zero s e = let z : None ≡ Some s = e in cc
three_ports a b c (suc zero) s e = inl refl
three_ports a b c (suc (suc zero)) s e = inr (inl refl)
three_ports a b c (suc (suc (suc zero))) s e = inr (inr refl)
three_ports a b c (suc (suc (suc (suc i)))) s e = let z : None ≡ Some s = e in cc

-- a kind with one input, and one with one output
abbrev pub TakesOne : Kind → Type 0
TakesOne k = (a : Shape) × (ins k ≡ a ∷ [])

abbrev pub GivesOne : Kind → Type 0
GivesOne k = (a : Shape) × (outs k ≡ a ∷ [])

pub tree_takes : (k : Kind) → PassesThrough k → TakesOne k
tree_takes (Buffer a) h = (a, refl)
tree_takes (Fork a k) h = (a, refl)
tree_takes _ h = absurd h

pub buffer_gives : (k : Kind) → IsBuffer k → GivesOne k
buffer_gives (Buffer a) h = (a, refl)
buffer_gives _ h = absurd h

pub buffer_tree : (k : Kind) → IsBuffer k → PassesThrough k
buffer_tree (Buffer a) h = tt
buffer_tree _ h = absurd h

-- the kinds of a body
abbrev pub IsBodyKind : Kind → Type 0
IsBodyKind (Source0 a) = Unit {0}
IsBodyKind (Buffer a) = Unit {0}
IsBodyKind (Fork a k) = Unit {0}
IsBodyKind (Join bs) = Unit {0}
IsBodyKind (Split bs) = Unit {0}
IsBodyKind (Operator o ws w) = Unit {0}
IsBodyKind (Constant a w v) = Unit {0}
IsBodyKind (Pure f b) = Unit {0}
IsBodyKind (Sink0 a) = Unit {0}
IsBodyKind _ = ⊥

pub pure_body : (k : Kind) → IsPure k → IsBodyKind k
pure_body (Buffer a) h = tt
pure_body (Fork a k) h = tt
pure_body (Join bs) h = tt
pure_body (Split bs) h = tt
pure_body (Operator o ws w) h = tt
pure_body (Constant a w v) h = tt
pure_body (Pure f b) h = tt
pure_body (Sink0 a) h = tt
pure_body _ h = absurd h

pub constant_body : (k : Kind) → IsConstant k → IsBodyKind k
constant_body (Source0 a) h = tt
constant_body (Buffer a) h = tt
constant_body (Fork a k) h = tt
constant_body (Join bs) h = tt
constant_body (Split bs) h = tt
constant_body (Operator o ws w) h = tt
constant_body (Constant a w v) h = tt
constant_body (Pure f b) h = tt
constant_body _ h = absurd h

-- a kind is Branch, or it is not
pub data BranchOr (k : Kind) : Type 0 where
  a_branch : (a : Shape) → k ≡ Branch a → BranchOr k
  no_branch : ((a : Shape) → k ≢ Branch a) → BranchOr k

pub branch_shape : (k : Kind) → IsBranch k → (a : Shape) × (k ≡ Branch a)
branch_shape (Branch a) h = (a, refl)
branch_shape _ h = absurd h

pub branch_or : (k : Kind) → BranchOr k
branch_or (Branch a) = a_branch a refl
branch_or _ = no_branch (λ a e. subst IsBranch (sym e) tt)

module _ (g : Circuit) (ty : Typed g) where
  -- what feeds a node of one input feeds input 1
  pub only_input : (p q : Port) → g.feeder p ≡ Some q → HasKind g TakesOne p.node → p.port ≡ 1
  only_input p q f h =
      let w = ty.wires p q f in
      let t = kind_is g TakesOne p.node w.to h w.is_to in
      single_port t.0 w.shape p.port (ap (λ z. port_get z p.port) (sym t.1) ∙ w.enters)

  pub only_output : (p q : Port) → g.feeder p ≡ Some q → HasKind g GivesOne q.node → q.port ≡ 1
  only_output p q f h =
      let w = ty.wires p q f in
      let t = kind_is g GivesOne q.node w.from h w.is_from in
      single_port t.0 w.shape q.port (ap (λ z. port_get z q.port) (sym t.1) ∙ w.leaves)

  pub branch_output : (p q : Port) (a : Shape) → g.feeder p ≡ Some q → g.kind_at q.node ≡ Some (Branch a) → (q.port ≡ 1) ⊎ (q.port ≡ 2)
  branch_output p q a f h =
      let w = ty.wires p q f in
      two_ports a a q.port w.shape (ap (λ k. port_get (outs k) q.port) (same_Some (Branch a) w.from (sym h ∙ w.is_from)) ∙ w.leaves)

  pub mux_input : (p q : Port) (a : Shape) → g.feeder p ≡ Some q → g.kind_at p.node ≡ Some (Mux a) → (p.port ≡ 1) ⊎ ((p.port ≡ 2) ⊎ (p.port ≡ 3))
  mux_input p q a f h =
      let w = ty.wires p q f in
      three_ports (1 ∷ []) a a p.port w.shape (ap (λ k. port_get (ins k) p.port) (same_Some (Mux a) w.to (sym h ∙ w.is_to)) ∙ w.enters)

pub back_or_exit : (d : Bool) (i : ℕ) → (i ≡ 1) ⊎ (i ≡ 2) → (i ≡ back_out d) ⊎ (i ≡ exit_out d)
back_or_exit true i h = h
back_or_exit false i (inl e) = inr e
back_or_exit false i (inr e) = inl e

pub back_is_no_exit : (d : Bool) → back_out d ≢ exit_out d
back_is_no_exit true e = omega arith
back_is_no_exit false e = omega arith

pub fresh_or_back : (d : Bool) (i : ℕ) → (i ≡ 2) ⊎ (i ≡ 3) → (i ≡ fresh_in d) ⊎ (i ≡ back_in d)
fresh_or_back true i h = h
fresh_or_back false i (inl e) = inr e
fresh_or_back false i (inr e) = inl e

pub fresh_is_no_back : (d : Bool) → fresh_in d ≢ back_in d
fresh_is_no_back true e = omega arith
fresh_is_no_back false e = omega arith

pub fresh_is_no_select : (d : Bool) → fresh_in d ≢ 1
fresh_is_no_select true e = omega arith
fresh_is_no_select false e = omega arith
