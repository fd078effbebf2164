-- The tagged loop is typed.
use Rattle.std.proofs.Common.{◌≡◌, ℕ, zero, suc, ◌+◌, ◌<◌, ◌≤◌, refl, sym, ap, true, false, Bool, if◌then◌else◌, length, [], ◌∷◌, ◌++◌, Option, Some, None, arith, append-nil}
use Rattle.fun_expr.specs.Function.{Function}
use Rattle.components.specs.Name.{port_get}
use Rattle.components.specs.Kind.{Shape, ins, outs, KindOk}
use Rattle.circuit_plans.specs.Plans.{from}
use Rattle.circuit_plans.proofs.Plans.{Out, Naming, built}
use Rattle.circuit_plans.proofs.PlanTyped.{ForSome, PlanWire, PlanTyped, plan_typed}
use Rattle.port_types.specs.Tag.{tag_width}
use Rattle.circuits.specs.Circuit.{Typed}
use Rattle.tagged_loop.specs.LoopFunction.{IsLoopFunction}
use Rattle.tagged_loop.specs.TaggedLoop.{TaggedNode, new_entry, tagger, merge, tag, new_pure, new_pair, retag, new_branch, new_exit, tagged_kind}
use Rattle.tagged_loop.proofs.LoopPlans.{parts, tagged_plan}
use Rattle.tagged_loop.proofs.LoopShapes.{tuple_is_shape, pair_parts, tagged_is_shape, tag_parts}

abbrev new_sink : Bool → TaggedNode → ℕ → Option (Out TaggedNode)
new_sink d new_entry (suc zero) = from tagger 1
new_sink d tagger (suc zero) = from merge 1
new_sink d tagger (suc (suc zero)) = from new_exit 1
new_sink d merge (suc zero) = from tag 1
new_sink d tag (suc zero) = from retag 1
new_sink d tag (suc (suc zero)) = from new_pure 1
new_sink d new_pure (suc zero) = from new_pair 1
new_sink d new_pair (suc zero) = from retag 2
new_sink d new_pair (suc (suc zero)) = from new_branch 2
new_sink d retag (suc zero) = from new_branch 1
new_sink d new_branch (suc zero) = if d then from merge 2 else from tagger 2
new_sink d new_branch (suc (suc zero)) = if d then from tagger 2 else from merge 2
new_sink d _ _ = None

module _ (a : Shape) (f : Function) (d : Bool) (n : ℕ) (is : IsLoopFunction a f) where
  new_wires : (e : Bool) (k : TaggedNode) (i : ℕ) → ForSome ((tagged_plan a f e n).source k i) (PlanWire (tagged_plan a f e n) (new_sink e) k i)
  new_wires true new_entry i = tt
  new_wires true tagger zero = tt
  new_wires true tagger (suc zero) = record { back = refl; shape = a; enters = refl; leaves = refl }
  new_wires true tagger (suc (suc zero)) = record { back = refl; shape = tag_width n ∷ a; enters = refl; leaves = refl }
  new_wires true tagger (suc (suc (suc i))) = tt
  new_wires true merge zero = tt
  new_wires true merge (suc zero) = record { back = refl; shape = tag_width n ∷ a; enters = refl; leaves = refl }
  new_wires true merge (suc (suc zero)) = record { back = refl; shape = tag_width n ∷ a; enters = refl; leaves = refl }
  new_wires true merge (suc (suc (suc i))) = tt
  new_wires true tag zero = tt
  new_wires true tag (suc zero) = record { back = refl; shape = tag_width n ∷ (a ++ []); enters = refl; leaves = ap (λ z. Some (tag_width n ∷ z)) (sym (append-nil a)) }
  new_wires true tag (suc (suc i)) = tt
  new_wires true new_pure zero = tt
  new_wires true new_pure (suc zero) = record { back = refl; shape = f.input; enters = refl; leaves = ap Some (sym is.input) }
  new_wires true new_pure (suc (suc i)) = tt
  new_wires true new_pair zero = tt
  new_wires true new_pair (suc zero) = record { back = refl; shape = a ++ 1 ∷ []; enters = refl; leaves = refl }
  new_wires true new_pair (suc (suc i)) = tt
  new_wires true retag zero = tt
  new_wires true retag (suc zero) = record { back = refl; shape = tag_width n ∷ []; enters = refl; leaves = refl }
  new_wires true retag (suc (suc zero)) = record { back = refl; shape = a; enters = refl; leaves = refl }
  new_wires true retag (suc (suc (suc i))) = tt
  new_wires true new_branch zero = tt
  new_wires true new_branch (suc zero) = record { back = refl; shape = tag_width n ∷ a; enters = refl; leaves = ap (λ z. Some (tag_width n ∷ z)) (append-nil a) }
  new_wires true new_branch (suc (suc zero)) = record { back = refl; shape = 1 ∷ []; enters = refl; leaves = refl }
  new_wires true new_branch (suc (suc (suc i))) = tt
  new_wires true new_exit zero = tt
  new_wires true new_exit (suc zero) = record { back = refl; shape = a; enters = refl; leaves = refl }
  new_wires true new_exit (suc (suc i)) = tt
  new_wires false new_entry i = tt
  new_wires false tagger zero = tt
  new_wires false tagger (suc zero) = record { back = refl; shape = a; enters = refl; leaves = refl }
  new_wires false tagger (suc (suc zero)) = record { back = refl; shape = tag_width n ∷ a; enters = refl; leaves = refl }
  new_wires false tagger (suc (suc (suc i))) = tt
  new_wires false merge zero = tt
  new_wires false merge (suc zero) = record { back = refl; shape = tag_width n ∷ a; enters = refl; leaves = refl }
  new_wires false merge (suc (suc zero)) = record { back = refl; shape = tag_width n ∷ a; enters = refl; leaves = refl }
  new_wires false merge (suc (suc (suc i))) = tt
  new_wires false tag zero = tt
  new_wires false tag (suc zero) = record { back = refl; shape = tag_width n ∷ (a ++ []); enters = refl; leaves = ap (λ z. Some (tag_width n ∷ z)) (sym (append-nil a)) }
  new_wires false tag (suc (suc i)) = tt
  new_wires false new_pure zero = tt
  new_wires false new_pure (suc zero) = record { back = refl; shape = f.input; enters = refl; leaves = ap Some (sym is.input) }
  new_wires false new_pure (suc (suc i)) = tt
  new_wires false new_pair zero = tt
  new_wires false new_pair (suc zero) = record { back = refl; shape = a ++ 1 ∷ []; enters = refl; leaves = refl }
  new_wires false new_pair (suc (suc i)) = tt
  new_wires false retag zero = tt
  new_wires false retag (suc zero) = record { back = refl; shape = tag_width n ∷ []; enters = refl; leaves = refl }
  new_wires false retag (suc (suc zero)) = record { back = refl; shape = a; enters = refl; leaves = refl }
  new_wires false retag (suc (suc (suc i))) = tt
  new_wires false new_branch zero = tt
  new_wires false new_branch (suc zero) = record { back = refl; shape = tag_width n ∷ a; enters = refl; leaves = ap (λ z. Some (tag_width n ∷ z)) (append-nil a) }
  new_wires false new_branch (suc (suc zero)) = record { back = refl; shape = 1 ∷ []; enters = refl; leaves = refl }
  new_wires false new_branch (suc (suc (suc i))) = tt
  new_wires false new_exit zero = tt
  new_wires false new_exit (suc zero) = record { back = refl; shape = a; enters = refl; leaves = refl }
  new_wires false new_exit (suc (suc i)) = tt

  new_sinks : (e : Bool) (k : TaggedNode) (i : ℕ) → ForSome (new_sink e k i) (λ p. (tagged_plan a f e n).source p.at p.port ≡ Some (record { at = k; port = i }))
  new_sinks true new_entry zero = tt
  new_sinks true new_entry (suc zero) = refl
  new_sinks true new_entry (suc (suc i)) = tt
  new_sinks true tagger zero = tt
  new_sinks true tagger (suc zero) = refl
  new_sinks true tagger (suc (suc zero)) = refl
  new_sinks true tagger (suc (suc (suc i))) = tt
  new_sinks true merge zero = tt
  new_sinks true merge (suc zero) = refl
  new_sinks true merge (suc (suc i)) = tt
  new_sinks true tag zero = tt
  new_sinks true tag (suc zero) = refl
  new_sinks true tag (suc (suc zero)) = refl
  new_sinks true tag (suc (suc (suc i))) = tt
  new_sinks true new_pure zero = tt
  new_sinks true new_pure (suc zero) = refl
  new_sinks true new_pure (suc (suc i)) = tt
  new_sinks true new_pair zero = tt
  new_sinks true new_pair (suc zero) = refl
  new_sinks true new_pair (suc (suc zero)) = refl
  new_sinks true new_pair (suc (suc (suc i))) = tt
  new_sinks true retag zero = tt
  new_sinks true retag (suc zero) = refl
  new_sinks true retag (suc (suc i)) = tt
  new_sinks true new_branch zero = tt
  new_sinks true new_branch (suc zero) = refl
  new_sinks true new_branch (suc (suc zero)) = refl
  new_sinks true new_branch (suc (suc (suc i))) = tt
  new_sinks true new_exit i = tt
  new_sinks false new_entry zero = tt
  new_sinks false new_entry (suc zero) = refl
  new_sinks false new_entry (suc (suc i)) = tt
  new_sinks false tagger zero = tt
  new_sinks false tagger (suc zero) = refl
  new_sinks false tagger (suc (suc zero)) = refl
  new_sinks false tagger (suc (suc (suc i))) = tt
  new_sinks false merge zero = tt
  new_sinks false merge (suc zero) = refl
  new_sinks false merge (suc (suc i)) = tt
  new_sinks false tag zero = tt
  new_sinks false tag (suc zero) = refl
  new_sinks false tag (suc (suc zero)) = refl
  new_sinks false tag (suc (suc (suc i))) = tt
  new_sinks false new_pure zero = tt
  new_sinks false new_pure (suc zero) = refl
  new_sinks false new_pure (suc (suc i)) = tt
  new_sinks false new_pair zero = tt
  new_sinks false new_pair (suc zero) = refl
  new_sinks false new_pair (suc (suc zero)) = refl
  new_sinks false new_pair (suc (suc (suc i))) = tt
  new_sinks false retag zero = tt
  new_sinks false retag (suc zero) = refl
  new_sinks false retag (suc (suc i)) = tt
  new_sinks false new_branch zero = tt
  new_sinks false new_branch (suc zero) = refl
  new_sinks false new_branch (suc (suc zero)) = refl
  new_sinks false new_branch (suc (suc (suc i))) = tt
  new_sinks false new_exit i = tt

  new_inputs : (e : Bool) (k : TaggedNode) (i : ℕ) → ForSome (port_get (ins ((tagged_plan a f e n).kind k)) i) (λ b. (q : Out TaggedNode) × ((tagged_plan a f e n).source k i ≡ Some q))
  new_inputs true new_entry i = tt
  new_inputs true tagger zero = tt
  new_inputs true tagger (suc zero) = (_, refl)
  new_inputs true tagger (suc (suc zero)) = (_, refl)
  new_inputs true tagger (suc (suc (suc i))) = tt
  new_inputs true merge zero = tt
  new_inputs true merge (suc zero) = (_, refl)
  new_inputs true merge (suc (suc zero)) = (_, refl)
  new_inputs true merge (suc (suc (suc i))) = tt
  new_inputs true tag zero = tt
  new_inputs true tag (suc zero) = (_, refl)
  new_inputs true tag (suc (suc i)) = tt
  new_inputs true new_pure zero = tt
  new_inputs true new_pure (suc zero) = (_, refl)
  new_inputs true new_pure (suc (suc i)) = tt
  new_inputs true new_pair zero = tt
  new_inputs true new_pair (suc zero) = (_, refl)
  new_inputs true new_pair (suc (suc i)) = tt
  new_inputs true retag zero = tt
  new_inputs true retag (suc zero) = (_, refl)
  new_inputs true retag (suc (suc zero)) = (_, refl)
  new_inputs true retag (suc (suc (suc i))) = tt
  new_inputs true new_branch zero = tt
  new_inputs true new_branch (suc zero) = (_, refl)
  new_inputs true new_branch (suc (suc zero)) = (_, refl)
  new_inputs true new_branch (suc (suc (suc i))) = tt
  new_inputs true new_exit zero = tt
  new_inputs true new_exit (suc zero) = (_, refl)
  new_inputs true new_exit (suc (suc i)) = tt
  new_inputs false new_entry i = tt
  new_inputs false tagger zero = tt
  new_inputs false tagger (suc zero) = (_, refl)
  new_inputs false tagger (suc (suc zero)) = (_, refl)
  new_inputs false tagger (suc (suc (suc i))) = tt
  new_inputs false merge zero = tt
  new_inputs false merge (suc zero) = (_, refl)
  new_inputs false merge (suc (suc zero)) = (_, refl)
  new_inputs false merge (suc (suc (suc i))) = tt
  new_inputs false tag zero = tt
  new_inputs false tag (suc zero) = (_, refl)
  new_inputs false tag (suc (suc i)) = tt
  new_inputs false new_pure zero = tt
  new_inputs false new_pure (suc zero) = (_, refl)
  new_inputs false new_pure (suc (suc i)) = tt
  new_inputs false new_pair zero = tt
  new_inputs false new_pair (suc zero) = (_, refl)
  new_inputs false new_pair (suc (suc i)) = tt
  new_inputs false retag zero = tt
  new_inputs false retag (suc zero) = (_, refl)
  new_inputs false retag (suc (suc zero)) = (_, refl)
  new_inputs false retag (suc (suc (suc i))) = tt
  new_inputs false new_branch zero = tt
  new_inputs false new_branch (suc zero) = (_, refl)
  new_inputs false new_branch (suc (suc zero)) = (_, refl)
  new_inputs false new_branch (suc (suc (suc i))) = tt
  new_inputs false new_exit zero = tt
  new_inputs false new_exit (suc zero) = (_, refl)
  new_inputs false new_exit (suc (suc i)) = tt

  new_outputs : (e : Bool) (k : TaggedNode) (i : ℕ) → ForSome (port_get (outs ((tagged_plan a f e n).kind k)) i) (λ b. (p : Out TaggedNode) × (new_sink e k i ≡ Some p))
  new_outputs true new_entry zero = tt
  new_outputs true new_entry (suc zero) = (_, refl)
  new_outputs true new_entry (suc (suc i)) = tt
  new_outputs true tagger zero = tt
  new_outputs true tagger (suc zero) = (_, refl)
  new_outputs true tagger (suc (suc zero)) = (_, refl)
  new_outputs true tagger (suc (suc (suc i))) = tt
  new_outputs true merge zero = tt
  new_outputs true merge (suc zero) = (_, refl)
  new_outputs true merge (suc (suc i)) = tt
  new_outputs true tag zero = tt
  new_outputs true tag (suc zero) = (_, refl)
  new_outputs true tag (suc (suc zero)) = (_, refl)
  new_outputs true tag (suc (suc (suc i))) = tt
  new_outputs true new_pure zero = tt
  new_outputs true new_pure (suc zero) = (_, refl)
  new_outputs true new_pure (suc (suc i)) = tt
  new_outputs true new_pair zero = tt
  new_outputs true new_pair (suc zero) = (_, refl)
  new_outputs true new_pair (suc (suc zero)) = (_, refl)
  new_outputs true new_pair (suc (suc (suc i))) = tt
  new_outputs true retag zero = tt
  new_outputs true retag (suc zero) = (_, refl)
  new_outputs true retag (suc (suc i)) = tt
  new_outputs true new_branch zero = tt
  new_outputs true new_branch (suc zero) = (_, refl)
  new_outputs true new_branch (suc (suc zero)) = (_, refl)
  new_outputs true new_branch (suc (suc (suc i))) = tt
  new_outputs true new_exit i = tt
  new_outputs false new_entry zero = tt
  new_outputs false new_entry (suc zero) = (_, refl)
  new_outputs false new_entry (suc (suc i)) = tt
  new_outputs false tagger zero = tt
  new_outputs false tagger (suc zero) = (_, refl)
  new_outputs false tagger (suc (suc zero)) = (_, refl)
  new_outputs false tagger (suc (suc (suc i))) = tt
  new_outputs false merge zero = tt
  new_outputs false merge (suc zero) = (_, refl)
  new_outputs false merge (suc (suc i)) = tt
  new_outputs false tag zero = tt
  new_outputs false tag (suc zero) = (_, refl)
  new_outputs false tag (suc (suc zero)) = (_, refl)
  new_outputs false tag (suc (suc (suc i))) = tt
  new_outputs false new_pure zero = tt
  new_outputs false new_pure (suc zero) = (_, refl)
  new_outputs false new_pure (suc (suc i)) = tt
  new_outputs false new_pair zero = tt
  new_outputs false new_pair (suc zero) = (_, refl)
  new_outputs false new_pair (suc (suc zero)) = (_, refl)
  new_outputs false new_pair (suc (suc (suc i))) = tt
  new_outputs false retag zero = tt
  new_outputs false retag (suc zero) = (_, refl)
  new_outputs false retag (suc (suc i)) = tt
  new_outputs false new_branch zero = tt
  new_outputs false new_branch (suc zero) = (_, refl)
  new_outputs false new_branch (suc (suc zero)) = (_, refl)
  new_outputs false new_branch (suc (suc (suc i))) = tt
  new_outputs false new_exit i = tt

  new_ok : 1 ≤ n → n ≤ 256 → (k : TaggedNode) → KindOk (tagged_kind (parts a f d 0) n k)
  new_ok some few new_entry = tuple_is_shape a f is
  new_ok some few tagger = (tuple_is_shape a f is, tagged_is_shape a f is n, some, few)
  new_ok some few merge = (tagged_is_shape a f is n, (omega arith, omega arith))
  new_ok some few tag = tag_parts a f is n
  new_ok some few new_pure = is.ok
  new_ok some few new_pair = pair_parts a f is
  new_ok some few retag = tag_parts a f is n
  new_ok some few new_branch = tagged_is_shape a f is n
  new_ok some few new_exit = tuple_is_shape a f is

  pub new_typed : 1 ≤ n → n ≤ 256 → PlanTyped (tagged_plan a f d n)
  new_typed some few =
      record { kinds = new_ok some few; sink = new_sink d; wires = new_wires d; sinks = new_sinks d; inputs = new_inputs d; outputs = new_outputs d }

  new_size : Naming TaggedNode → ℕ
  new_size x = 1 + (length (x.name new_entry) + length (x.name tagger) + length (x.name merge) + length (x.name tag) + length (x.name new_pure) + length (x.name new_pair) + length (x.name retag) + length (x.name new_branch) + length (x.name new_exit))

  new_short : (x : Naming TaggedNode) (k : TaggedNode) → length (x.name k) < new_size x
  unfolding new_size
  new_short x new_entry = omega arith
  new_short x tagger = omega arith
  new_short x merge = omega arith
  new_short x tag = omega arith
  new_short x new_pure = omega arith
  new_short x new_pair = omega arith
  new_short x retag = omega arith
  new_short x new_branch = omega arith
  new_short x new_exit = omega arith

  pub new_circuit_typed : 1 ≤ n → n ≤ 256 → (x : Naming TaggedNode) → Typed (built (tagged_plan a f d n) x)
  new_circuit_typed some few x = plan_typed (tagged_plan a f d n) x (new_typed some few) (new_size x) (new_short x)
