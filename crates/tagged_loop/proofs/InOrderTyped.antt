-- The in-order loop is typed.
use Rattle.std.proofs.Common.{◌≡◌, ℕ, zero, suc, ◌+◌, ◌<◌, ◌≤◌, refl, sym, ap, true, false, Bool, if◌then◌else◌, length, [], ◌∷◌, ◌++◌, Option, Some, None, arith}
use Rattle.fun_expr.specs.Function.{Function}
use Rattle.components.specs.Name.{port_get}
use Rattle.components.specs.Kind.{Shape, ins, outs, KindOk}
use Rattle.circuit_plans.specs.Plans.{from}
use Rattle.circuit_plans.proofs.Plans.{Out, Naming, built}
use Rattle.circuit_plans.proofs.PlanTyped.{ForSome, PlanWire, PlanTyped, plan_typed}
use Rattle.circuits.specs.Circuit.{Typed}
use Rattle.loop_laws.specs.Polarity.{exit_bit}
use Rattle.tagged_loop.specs.LoopFunction.{IsLoopFunction}
use Rattle.tagged_loop.specs.InOrderLoop.{InOrderNode, entry, init, mux, pure, pair, cond, branch, exit, in_order_kind}
use Rattle.tagged_loop.proofs.LoopPlans.{parts, in_order_plan}
use Rattle.tagged_loop.proofs.LoopShapes.{bit_is_shape, tuple_is_shape, pair_parts}

abbrev old_sink : Bool → InOrderNode → ℕ → Option (Out InOrderNode)
old_sink d entry (suc zero) = from mux (if d then 2 else 3)
old_sink d init (suc zero) = from mux 1
old_sink d mux (suc zero) = from pure 1
old_sink d pure (suc zero) = from pair 1
old_sink d pair (suc zero) = from branch 1
old_sink d pair (suc (suc zero)) = from cond 1
old_sink d cond (suc zero) = from branch 2
old_sink d cond (suc (suc zero)) = from init 1
old_sink d branch (suc zero) = if d then from mux 3 else from exit 1
old_sink d branch (suc (suc zero)) = if d then from exit 1 else from mux 2
old_sink d _ _ = None

module _ (a : Shape) (f : Function) (d : Bool) (m : ℕ) (is : IsLoopFunction a f) where
  old_wires : (e : Bool) (k : InOrderNode) (i : ℕ) → ForSome ((in_order_plan a f e m).source k i) (PlanWire (in_order_plan a f e m) (old_sink e) k i)
  old_wires true entry i = tt
  old_wires true init zero = tt
  old_wires true init (suc zero) = record { back = refl; shape = 1 ∷ []; enters = refl; leaves = refl }
  old_wires true init (suc (suc i)) = tt
  old_wires true mux zero = tt
  old_wires true mux (suc zero) = record { back = refl; shape = 1 ∷ []; enters = refl; leaves = refl }
  old_wires true mux (suc (suc zero)) = record { back = refl; shape = a; enters = refl; leaves = refl }
  old_wires true mux (suc (suc (suc zero))) = record { back = refl; shape = a; enters = refl; leaves = refl }
  old_wires true mux (suc (suc (suc (suc i)))) = tt
  old_wires true pure zero = tt
  old_wires true pure (suc zero) = record { back = refl; shape = f.input; enters = refl; leaves = ap Some (sym is.input) }
  old_wires true pure (suc (suc i)) = tt
  old_wires true pair zero = tt
  old_wires true pair (suc zero) = record { back = refl; shape = a ++ 1 ∷ []; enters = refl; leaves = refl }
  old_wires true pair (suc (suc i)) = tt
  old_wires true cond zero = tt
  old_wires true cond (suc zero) = record { back = refl; shape = 1 ∷ []; enters = refl; leaves = refl }
  old_wires true cond (suc (suc i)) = tt
  old_wires true branch zero = tt
  old_wires true branch (suc zero) = record { back = refl; shape = a; enters = refl; leaves = refl }
  old_wires true branch (suc (suc zero)) = record { back = refl; shape = 1 ∷ []; enters = refl; leaves = refl }
  old_wires true branch (suc (suc (suc i))) = tt
  old_wires true exit zero = tt
  old_wires true exit (suc zero) = record { back = refl; shape = a; enters = refl; leaves = refl }
  old_wires true exit (suc (suc i)) = tt
  old_wires false entry i = tt
  old_wires false init zero = tt
  old_wires false init (suc zero) = record { back = refl; shape = 1 ∷ []; enters = refl; leaves = refl }
  old_wires false init (suc (suc i)) = tt
  old_wires false mux zero = tt
  old_wires false mux (suc zero) = record { back = refl; shape = 1 ∷ []; enters = refl; leaves = refl }
  old_wires false mux (suc (suc zero)) = record { back = refl; shape = a; enters = refl; leaves = refl }
  old_wires false mux (suc (suc (suc zero))) = record { back = refl; shape = a; enters = refl; leaves = refl }
  old_wires false mux (suc (suc (suc (suc i)))) = tt
  old_wires false pure zero = tt
  old_wires false pure (suc zero) = record { back = refl; shape = f.input; enters = refl; leaves = ap Some (sym is.input) }
  old_wires false pure (suc (suc i)) = tt
  old_wires false pair zero = tt
  old_wires false pair (suc zero) = record { back = refl; shape = a ++ 1 ∷ []; enters = refl; leaves = refl }
  old_wires false pair (suc (suc i)) = tt
  old_wires false cond zero = tt
  old_wires false cond (suc zero) = record { back = refl; shape = 1 ∷ []; enters = refl; leaves = refl }
  old_wires false cond (suc (suc i)) = tt
  old_wires false branch zero = tt
  old_wires false branch (suc zero) = record { back = refl; shape = a; enters = refl; leaves = refl }
  old_wires false branch (suc (suc zero)) = record { back = refl; shape = 1 ∷ []; enters = refl; leaves = refl }
  old_wires false branch (suc (suc (suc i))) = tt
  old_wires false exit zero = tt
  old_wires false exit (suc zero) = record { back = refl; shape = a; enters = refl; leaves = refl }
  old_wires false exit (suc (suc i)) = tt

  old_sinks : (e : Bool) (k : InOrderNode) (i : ℕ) → ForSome (old_sink e k i) (λ p. (in_order_plan a f e m).source p.at p.port ≡ Some (record { at = k; port = i }))
  old_sinks true entry zero = tt
  old_sinks true entry (suc zero) = refl
  old_sinks true entry (suc (suc i)) = tt
  old_sinks true init zero = tt
  old_sinks true init (suc zero) = refl
  old_sinks true init (suc (suc i)) = tt
  old_sinks true mux zero = tt
  old_sinks true mux (suc zero) = refl
  old_sinks true mux (suc (suc i)) = tt
  old_sinks true pure zero = tt
  old_sinks true pure (suc zero) = refl
  old_sinks true pure (suc (suc i)) = tt
  old_sinks true pair zero = tt
  old_sinks true pair (suc zero) = refl
  old_sinks true pair (suc (suc zero)) = refl
  old_sinks true pair (suc (suc (suc i))) = tt
  old_sinks true cond zero = tt
  old_sinks true cond (suc zero) = refl
  old_sinks true cond (suc (suc zero)) = refl
  old_sinks true cond (suc (suc (suc i))) = tt
  old_sinks true branch zero = tt
  old_sinks true branch (suc zero) = refl
  old_sinks true branch (suc (suc zero)) = refl
  old_sinks true branch (suc (suc (suc i))) = tt
  old_sinks true exit i = tt
  old_sinks false entry zero = tt
  old_sinks false entry (suc zero) = refl
  old_sinks false entry (suc (suc i)) = tt
  old_sinks false init zero = tt
  old_sinks false init (suc zero) = refl
  old_sinks false init (suc (suc i)) = tt
  old_sinks false mux zero = tt
  old_sinks false mux (suc zero) = refl
  old_sinks false mux (suc (suc i)) = tt
  old_sinks false pure zero = tt
  old_sinks false pure (suc zero) = refl
  old_sinks false pure (suc (suc i)) = tt
  old_sinks false pair zero = tt
  old_sinks false pair (suc zero) = refl
  old_sinks false pair (suc (suc zero)) = refl
  old_sinks false pair (suc (suc (suc i))) = tt
  old_sinks false cond zero = tt
  old_sinks false cond (suc zero) = refl
  old_sinks false cond (suc (suc zero)) = refl
  old_sinks false cond (suc (suc (suc i))) = tt
  old_sinks false branch zero = tt
  old_sinks false branch (suc zero) = refl
  old_sinks false branch (suc (suc zero)) = refl
  old_sinks false branch (suc (suc (suc i))) = tt
  old_sinks false exit i = tt

  old_inputs : (e : Bool) (k : InOrderNode) (i : ℕ) → ForSome (port_get (ins ((in_order_plan a f e m).kind k)) i) (λ b. (q : Out InOrderNode) × ((in_order_plan a f e m).source k i ≡ Some q))
  old_inputs true entry i = tt
  old_inputs true init zero = tt
  old_inputs true init (suc zero) = (_, refl)
  old_inputs true init (suc (suc i)) = tt
  old_inputs true mux zero = tt
  old_inputs true mux (suc zero) = (_, refl)
  old_inputs true mux (suc (suc zero)) = (_, refl)
  old_inputs true mux (suc (suc (suc zero))) = (_, refl)
  old_inputs true mux (suc (suc (suc (suc i)))) = tt
  old_inputs true pure zero = tt
  old_inputs true pure (suc zero) = (_, refl)
  old_inputs true pure (suc (suc i)) = tt
  old_inputs true pair zero = tt
  old_inputs true pair (suc zero) = (_, refl)
  old_inputs true pair (suc (suc i)) = tt
  old_inputs true cond zero = tt
  old_inputs true cond (suc zero) = (_, refl)
  old_inputs true cond (suc (suc i)) = tt
  old_inputs true branch zero = tt
  old_inputs true branch (suc zero) = (_, refl)
  old_inputs true branch (suc (suc zero)) = (_, refl)
  old_inputs true branch (suc (suc (suc i))) = tt
  old_inputs true exit zero = tt
  old_inputs true exit (suc zero) = (_, refl)
  old_inputs true exit (suc (suc i)) = tt
  old_inputs false entry i = tt
  old_inputs false init zero = tt
  old_inputs false init (suc zero) = (_, refl)
  old_inputs false init (suc (suc i)) = tt
  old_inputs false mux zero = tt
  old_inputs false mux (suc zero) = (_, refl)
  old_inputs false mux (suc (suc zero)) = (_, refl)
  old_inputs false mux (suc (suc (suc zero))) = (_, refl)
  old_inputs false mux (suc (suc (suc (suc i)))) = tt
  old_inputs false pure zero = tt
  old_inputs false pure (suc zero) = (_, refl)
  old_inputs false pure (suc (suc i)) = tt
  old_inputs false pair zero = tt
  old_inputs false pair (suc zero) = (_, refl)
  old_inputs false pair (suc (suc i)) = tt
  old_inputs false cond zero = tt
  old_inputs false cond (suc zero) = (_, refl)
  old_inputs false cond (suc (suc i)) = tt
  old_inputs false branch zero = tt
  old_inputs false branch (suc zero) = (_, refl)
  old_inputs false branch (suc (suc zero)) = (_, refl)
  old_inputs false branch (suc (suc (suc i))) = tt
  old_inputs false exit zero = tt
  old_inputs false exit (suc zero) = (_, refl)
  old_inputs false exit (suc (suc i)) = tt

  old_outputs : (e : Bool) (k : InOrderNode) (i : ℕ) → ForSome (port_get (outs ((in_order_plan a f e m).kind k)) i) (λ b. (p : Out InOrderNode) × (old_sink e k i ≡ Some p))
  old_outputs true entry zero = tt
  old_outputs true entry (suc zero) = (_, refl)
  old_outputs true entry (suc (suc i)) = tt
  old_outputs true init zero = tt
  old_outputs true init (suc zero) = (_, refl)
  old_outputs true init (suc (suc i)) = tt
  old_outputs true mux zero = tt
  old_outputs true mux (suc zero) = (_, refl)
  old_outputs true mux (suc (suc i)) = tt
  old_outputs true pure zero = tt
  old_outputs true pure (suc zero) = (_, refl)
  old_outputs true pure (suc (suc i)) = tt
  old_outputs true pair zero = tt
  old_outputs true pair (suc zero) = (_, refl)
  old_outputs true pair (suc (suc zero)) = (_, refl)
  old_outputs true pair (suc (suc (suc i))) = tt
  old_outputs true cond zero = tt
  old_outputs true cond (suc zero) = (_, refl)
  old_outputs true cond (suc (suc zero)) = (_, refl)
  old_outputs true cond (suc (suc (suc i))) = tt
  old_outputs true branch zero = tt
  old_outputs true branch (suc zero) = (_, refl)
  old_outputs true branch (suc (suc zero)) = (_, refl)
  old_outputs true branch (suc (suc (suc i))) = tt
  old_outputs true exit i = tt
  old_outputs false entry zero = tt
  old_outputs false entry (suc zero) = (_, refl)
  old_outputs false entry (suc (suc i)) = tt
  old_outputs false init zero = tt
  old_outputs false init (suc zero) = (_, refl)
  old_outputs false init (suc (suc i)) = tt
  old_outputs false mux zero = tt
  old_outputs false mux (suc zero) = (_, refl)
  old_outputs false mux (suc (suc i)) = tt
  old_outputs false pure zero = tt
  old_outputs false pure (suc zero) = (_, refl)
  old_outputs false pure (suc (suc i)) = tt
  old_outputs false pair zero = tt
  old_outputs false pair (suc zero) = (_, refl)
  old_outputs false pair (suc (suc zero)) = (_, refl)
  old_outputs false pair (suc (suc (suc i))) = tt
  old_outputs false cond zero = tt
  old_outputs false cond (suc zero) = (_, refl)
  old_outputs false cond (suc (suc zero)) = (_, refl)
  old_outputs false cond (suc (suc (suc i))) = tt
  old_outputs false branch zero = tt
  old_outputs false branch (suc zero) = (_, refl)
  old_outputs false branch (suc (suc zero)) = (_, refl)
  old_outputs false branch (suc (suc (suc i))) = tt
  old_outputs false exit i = tt

  exit_below : (e : Bool) → exit_bit e ≤ 1
  exit_below true = omega arith
  exit_below false = omega arith

  old_ok : m ≤ 256 → (k : InOrderNode) → KindOk (in_order_kind (parts a f d m) k)
  old_ok mark entry = tuple_is_shape a f is
  old_ok mark init = (exit_below d, mark)
  old_ok mark mux = tuple_is_shape a f is
  old_ok mark pure = is.ok
  old_ok mark pair = pair_parts a f is
  old_ok mark cond = (bit_is_shape, (omega arith, omega arith))
  old_ok mark branch = tuple_is_shape a f is
  old_ok mark exit = tuple_is_shape a f is

  pub old_typed : m ≤ 256 → PlanTyped (in_order_plan a f d m)
  old_typed mark =
      record { kinds = old_ok mark; sink = old_sink d; wires = old_wires d; sinks = old_sinks d; inputs = old_inputs d; outputs = old_outputs d }

  -- no name is longer than all of them together
  old_size : Naming InOrderNode → ℕ
  old_size x = 1 + (length (x.name entry) + length (x.name init) + length (x.name mux) + length (x.name pure) + length (x.name pair) + length (x.name cond) + length (x.name branch) + length (x.name exit))

  old_short : (x : Naming InOrderNode) (k : InOrderNode) → length (x.name k) < old_size x
  unfolding old_size
  old_short x entry = omega arith
  old_short x init = omega arith
  old_short x mux = omega arith
  old_short x pure = omega arith
  old_short x pair = omega arith
  old_short x cond = omega arith
  old_short x branch = omega arith
  old_short x exit = omega arith

  pub old_circuit_typed : m ≤ 256 → (x : Naming InOrderNode) → Typed (built (in_order_plan a f d m) x)
  old_circuit_typed mark x = plan_typed (in_order_plan a f d m) x (old_typed mark) (old_size x) (old_short x)
