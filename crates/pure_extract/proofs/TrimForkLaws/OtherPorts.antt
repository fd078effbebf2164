-- The outputs other than one, by their numbers.
use Rattle.std.proofs.Common.{◌≡◌, ◌⊎◌, ℕ, zero, suc, ◌+◌, ◌<◌, ◌≤◌, Bool, true, false, if◌then◌else◌, nat_lt, replicate, ap, ◌∙◌, refl, arith, inl, inr}
use Rattle.std.proofs.lemmas.Bool.{lt-ltb, le-ltb, ltb-true, ltb-false}
use Rattle.components.specs.Kind.{Shape}
use Rattle.circuit_plans.specs.Places.{first, later, before, number}
use Rattle.lane_laws.specs.TrimFork.{Output, other_than}
use Rattle.drawn_rules.specs.Rows.{port_but}

port_before : (left_out index : ℕ) → index + 1 < left_out → port_but left_out index ≡ index + 1
port_before left_out index h = ap (λ (t : Bool). if t then index + 1 else index + 2) (lt-ltb (index + 1) left_out h)

port_behind : (left_out index : ℕ) → left_out ≤ index + 1 → port_but left_out index ≡ index + 2
port_behind left_out index h = ap (λ (t : Bool). if t then index + 1 else index + 2) (le-ltb (index + 1) left_out h)

-- the number of an output other than s, before or behind it
other_before : (a : Shape) (others : ℕ) (s : Output a (suc others)) (l : Output a others) → before (replicate others a) l < before (replicate (suc others) a) s →
    before (replicate (suc others) a) (other_than a others s l) ≡ before (replicate others a) l
other_before a zero s l h = elim l [ ]
other_before a (suc others) first l h = absurd (omega (arith, h))
other_before a (suc others) (later s) first h = refl
other_before a (suc others) (later s) (later l) h = ap suc (other_before a others s l (omega (arith, h)))

other_behind : (a : Shape) (others : ℕ) (s : Output a (suc others)) (l : Output a others) → before (replicate (suc others) a) s ≤ before (replicate others a) l →
    before (replicate (suc others) a) (other_than a others s l) ≡ suc (before (replicate others a) l)
other_behind a zero s l h = elim l [ ]
other_behind a (suc others) first l h = refl
other_behind a (suc others) (later s) first h = absurd (omega (arith, h))
other_behind a (suc others) (later s) (later l) h = ap suc (other_behind a others s l (omega (arith, h)))

less_or_not : (m n : ℕ) → (m < n) ⊎ (n ≤ m)
less_or_not m n = by (nat_lt m n) refl
  where
    by : (t : Bool) → nat_lt m n ≡ t → (m < n) ⊎ (n ≤ m)
    by true e = inl (ltb-true m n e)
    by false e = inr (ltb-false m n e)

pub other_number : (a : Shape) (others : ℕ) (s : Output a (suc others)) (l : Output a others) →
    port_but (number (replicate (suc others) a) s) (before (replicate others a) l) ≡ number (replicate (suc others) a) (other_than a others s l)
other_number a others s l =
    elim (less_or_not (before (replicate others a) l) (before (replicate (suc others) a) s)) [
      | inl less ↦
          let is = other_before a others s l less in
          port_before (number (replicate (suc others) a) s) (before (replicate others a) l) (omega (arith, less)) ∙ omega (arith, is)
      | inr more ↦
          let is = other_behind a others s l more in
          port_behind (number (replicate (suc others) a) s) (before (replicate others a) l) (omega (arith, more)) ∙ omega (arith, is)
    ]
