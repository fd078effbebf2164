-- the Branches of the lanes and the one Branch are typed, with the same ports; so the one refines the others
use Rattle.std.proofs.Common.{◌≡◌, ℕ, zero, suc, ◌+◌, ◌<◌, ◌≤◌, refl, sym, ap, ◌∙◌, length, List, Option, Some, None, arith}
use Rattle.circuits.specs.Refines.{Refines}
use Rattle.components.specs.Kind.{Shape, ins, outs, KindOk, field}
use Rattle.components.specs.Name.{port_get}
use Rattle.components.specs.declared.kind.Kind.TheVariants.{Entry, Exit}
use Rattle.circuit_plans.specs.Places.{output_at}
use Rattle.circuit_plans.specs.Plans.{from}
use Rattle.lane_laws.specs.CombineBranches.{CanCombine, Branches, condition, fork, passed, value, branch, out1, out2, OneBranch, new_condition, new_fork, new_passed, new_join, new_branch, new_split1, new_split2, new_value, new_out1, new_out2, branches_kind, one_branch_kind}
use Rattle.lane_laws.proofs.BranchPlans.{branches_plan, one_branch_plan, SameBranchEnds}
use Rattle.circuit_plans.proofs.Plans.{Out, Naming, built, matches_of}
use Rattle.circuit_plans.proofs.PlanTyped.{ForSome, PlanWire, PlanTyped, PlanPorts, plan_typed, plan_ports}
use Rattle.circuits.proofs.Matching.{matches_refines}
use Rattle.circuit_plans.proofs.PlanFamilies.{at_number, found}
use Rattle.circuit_plans.proofs.Places.{item, number, place_at, place_number, number_item, fork_at, fork_number, fork_last, ForkPort, lane, last, none, fork_port, copies_number, copies_last, total, in_total, for_is, for_none}
use Rattle.lane_laws.proofs.CombineBranches.{one_branch_matches}
use Rattle.circuits.specs.Values.{ValuesFit}
use Rattle.lane_laws.proofs.LaneShapes.{bit_is_shape, item_shape}

module _ (lanes : List Shape) (can : CanCombine lanes) where
  abbrev fork_sink : ℕ → Option (Out (Branches lanes))
  fork_sink i = fork_at lanes (λ l. from (branch l) 2) (from passed 1) i

  abbrev old_sink : Branches lanes → ℕ → Option (Out (Branches lanes))
  old_sink condition (suc zero) = from fork 1
  old_sink (value l) (suc zero) = from (branch l) 1
  old_sink fork i = fork_sink i
  old_sink (branch l) (suc zero) = from (out1 l) 1
  old_sink (branch l) (suc (suc zero)) = from (out2 l) 1
  old_sink _ _ = None

  old_wires : (n : Branches lanes) (i : ℕ) → ForSome ((branches_plan lanes).source n i) (PlanWire (branches_plan lanes) old_sink n i)
  old_wires fork (suc zero) = record { back = refl; shape = (field 1); enters = refl; leaves = refl }
  old_wires passed (suc zero) = record { back = fork_last lanes (λ l. from (branch l) 2) (from passed 1); shape = (field 1); enters = refl; leaves = copies_last lanes (field 1) }
  old_wires (branch l) (suc zero) = record { back = refl; shape = item lanes l; enters = refl; leaves = refl }
  old_wires (branch l) (suc (suc zero)) = record { back = fork_number lanes (λ l. from (branch l) 2) (from passed 1) l; shape = (field 1); enters = refl; leaves = copies_number lanes (field 1) l }
  old_wires (out1 l) (suc zero) = record { back = refl; shape = item lanes l; enters = refl; leaves = refl }
  old_wires (out2 l) (suc zero) = record { back = refl; shape = item lanes l; enters = refl; leaves = refl }
  old_wires _ _ = tt

  fork_sinks : (i : ℕ) → ForkPort lanes (λ l. from {N = Branches lanes} (branch l) 2) (from passed 1) (field 1) i → ForSome (fork_sink i) (λ p. (branches_plan lanes).source p.at p.port ≡ Some (record { at = fork; port = i }))
  fork_sinks i (lane l is) =
      for_is (fork_sink i) (λ p. (branches_plan lanes).source p.at p.port ≡ Some (record { at = fork; port = i })) (record { at = branch l; port = 2 })
      (ap fork_sink is ∙ fork_number lanes (λ l. from (branch l) 2) (from passed 1) l) (ap (λ z. from fork z) (sym is))
  fork_sinks i (last is) =
      for_is (fork_sink i) (λ p. (branches_plan lanes).source p.at p.port ≡ Some (record { at = fork; port = i })) (record { at = passed; port = 1 })
      (ap fork_sink is ∙ fork_last lanes (λ l. from (branch l) 2) (from passed 1)) (ap (λ z. from fork z) (sym is))
  fork_sinks i (none e f) = for_none (fork_sink i) (λ p. (branches_plan lanes).source p.at p.port ≡ Some (record { at = fork; port = i })) e

  old_sinks : (n : Branches lanes) (i : ℕ) → ForSome (old_sink n i) (λ p. (branches_plan lanes).source p.at p.port ≡ Some (record { at = n; port = i }))
  old_sinks condition (suc zero) = refl
  old_sinks fork i = fork_sinks i (fork_port lanes (λ l. from (branch l) 2) (from passed 1) (field 1) i)
  old_sinks (value l) (suc zero) = refl
  old_sinks (branch l) (suc zero) = refl
  old_sinks (branch l) (suc (suc zero)) = refl
  old_sinks _ _ = tt

  old_inputs : (n : Branches lanes) (i : ℕ) → ForSome (port_get (ins ((branches_plan lanes).kind n)) i) (λ a. (q : Out (Branches lanes)) × ((branches_plan lanes).source n i ≡ Some q))
  old_inputs fork (suc zero) = (_, refl)
  old_inputs passed (suc zero) = (_, refl)
  old_inputs (branch l) (suc zero) = (_, refl)
  old_inputs (branch l) (suc (suc zero)) = (_, refl)
  old_inputs (out1 l) (suc zero) = (_, refl)
  old_inputs (out2 l) (suc zero) = (_, refl)
  old_inputs _ _ = tt

  fork_outputs : (i : ℕ) → ForkPort lanes (λ l. from {N = Branches lanes} (branch l) 2) (from passed 1) (field 1) i → ForSome (port_get (outs (branches_kind lanes fork)) i) (λ a. (p : Out (Branches lanes)) × (fork_sink i ≡ Some p))
  fork_outputs i (lane l is) =
      for_is (port_get (outs (branches_kind lanes fork)) i) (λ a. (p : Out (Branches lanes)) × (fork_sink i ≡ Some p)) (field 1) (ap (port_get (outs (branches_kind lanes fork))) is ∙ copies_number lanes (field 1) l)
      (_, ap fork_sink is ∙ fork_number lanes (λ l. from (branch l) 2) (from passed 1) l)
  fork_outputs i (last is) =
      for_is (port_get (outs (branches_kind lanes fork)) i) (λ a. (p : Out (Branches lanes)) × (fork_sink i ≡ Some p)) (field 1) (ap (port_get (outs (branches_kind lanes fork))) is ∙ copies_last lanes (field 1))
      (_, ap fork_sink is ∙ fork_last lanes (λ l. from (branch l) 2) (from passed 1))
  fork_outputs i (none e f) = for_none (port_get (outs (branches_kind lanes fork)) i) (λ a. (p : Out (Branches lanes)) × (fork_sink i ≡ Some p)) f

  old_outputs : (n : Branches lanes) (i : ℕ) → ForSome (port_get (outs ((branches_plan lanes).kind n)) i) (λ a. (p : Out (Branches lanes)) × (old_sink n i ≡ Some p))
  old_outputs condition (suc zero) = (_, refl)
  old_outputs fork i = fork_outputs i (fork_port lanes (λ l. from (branch l) 2) (from passed 1) (field 1) i)
  old_outputs (value l) (suc zero) = (_, refl)
  old_outputs (branch l) (suc zero) = (_, refl)
  old_outputs (branch l) (suc (suc zero)) = (_, refl)
  old_outputs _ _ = tt

  old_ok : (n : Branches lanes) → KindOk (branches_kind lanes n)
  old_ok condition = bit_is_shape
  old_ok fork = (bit_is_shape, (omega arith, can.few))
  old_ok passed = bit_is_shape
  old_ok (value l) = item_shape lanes can.parts.parts l
  old_ok (branch l) = item_shape lanes can.parts.parts l
  old_ok (out1 l) = item_shape lanes can.parts.parts l
  old_ok (out2 l) = item_shape lanes can.parts.parts l

  pub branches_typed : PlanTyped (branches_plan lanes)
  branches_typed = record { kinds = old_ok; sink = old_sink; wires = old_wires; sinks = old_sinks; inputs = old_inputs; outputs = old_outputs }

  abbrev new_sink : OneBranch lanes → ℕ → Option (Out (OneBranch lanes))
  new_sink new_condition (suc zero) = from new_fork 1
  new_sink (new_value l) (suc zero) = from new_join (number lanes l)
  new_sink new_join (suc zero) = from new_branch 1
  new_sink new_fork (suc zero) = from new_branch 2
  new_sink new_fork (suc (suc zero)) = from new_passed 1
  new_sink new_branch (suc zero) = from new_split1 1
  new_sink new_branch (suc (suc zero)) = from new_split2 1
  new_sink new_split1 i = output_at new_out1 1 (place_at lanes i)
  new_sink new_split2 i = output_at new_out2 1 (place_at lanes i)
  new_sink _ _ = None

  new_wires : (n : OneBranch lanes) (i : ℕ) → ForSome ((one_branch_plan lanes).source n i) (PlanWire (one_branch_plan lanes) new_sink n i)
  new_wires new_fork (suc zero) = record { back = refl; shape = (field 1); enters = refl; leaves = refl }
  new_wires new_passed (suc zero) = record { back = refl; shape = (field 1); enters = refl; leaves = refl }
  new_wires new_join i =
      at_number lanes new_value (PlanWire (one_branch_plan lanes) new_sink new_join i) i
      (λ l is. record { back = ap (λ z. from new_join z) (sym is); shape = item lanes l; enters = ap (port_get lanes) is ∙ number_item lanes l; leaves = refl })
  new_wires new_branch (suc zero) = record { back = refl; shape = _; enters = refl; leaves = refl }
  new_wires new_branch (suc (suc zero)) = record { back = refl; shape = (field 1); enters = refl; leaves = refl }
  new_wires new_split1 (suc zero) = record { back = refl; shape = _; enters = refl; leaves = refl }
  new_wires new_split2 (suc zero) = record { back = refl; shape = _; enters = refl; leaves = refl }
  new_wires (new_out1 l) (suc zero) = record { back = ap (output_at new_out1 1) (place_number lanes l); shape = item lanes l; enters = refl; leaves = number_item lanes l }
  new_wires (new_out2 l) (suc zero) = record { back = ap (output_at new_out2 1) (place_number lanes l); shape = item lanes l; enters = refl; leaves = number_item lanes l }
  new_wires _ _ = tt

  new_sinks : (n : OneBranch lanes) (i : ℕ) → ForSome (new_sink n i) (λ p. (one_branch_plan lanes).source p.at p.port ≡ Some (record { at = n; port = i }))
  new_sinks new_condition (suc zero) = refl
  new_sinks new_fork (suc zero) = refl
  new_sinks new_fork (suc (suc zero)) = refl
  new_sinks new_join (suc zero) = refl
  new_sinks new_branch (suc zero) = refl
  new_sinks new_branch (suc (suc zero)) = refl
  new_sinks new_split1 i = at_number lanes new_out1 (λ p. (one_branch_plan lanes).source p.at p.port ≡ Some (record { at = new_split1; port = i })) i (λ l is. ap (λ z. from new_split1 z) (sym is))
  new_sinks new_split2 i = at_number lanes new_out2 (λ p. (one_branch_plan lanes).source p.at p.port ≡ Some (record { at = new_split2; port = i })) i (λ l is. ap (λ z. from new_split2 z) (sym is))
  new_sinks (new_value l) (suc zero) = ap (output_at new_value 1) (place_number lanes l)
  new_sinks _ _ = tt

  new_inputs : (n : OneBranch lanes) (i : ℕ) → ForSome (port_get (ins ((one_branch_plan lanes).kind n)) i) (λ a. (q : Out (OneBranch lanes)) × ((one_branch_plan lanes).source n i ≡ Some q))
  new_inputs new_fork (suc zero) = (_, refl)
  new_inputs new_passed (suc zero) = (_, refl)
  new_inputs new_join i = found lanes new_value i
  new_inputs new_branch (suc zero) = (_, refl)
  new_inputs new_branch (suc (suc zero)) = (_, refl)
  new_inputs new_split1 (suc zero) = (_, refl)
  new_inputs new_split2 (suc zero) = (_, refl)
  new_inputs (new_out1 l) (suc zero) = (_, refl)
  new_inputs (new_out2 l) (suc zero) = (_, refl)
  new_inputs _ _ = tt

  new_outputs : (n : OneBranch lanes) (i : ℕ) → ForSome (port_get (outs ((one_branch_plan lanes).kind n)) i) (λ a. (p : Out (OneBranch lanes)) × (new_sink n i ≡ Some p))
  new_outputs new_condition (suc zero) = (_, refl)
  new_outputs new_fork (suc zero) = (_, refl)
  new_outputs new_fork (suc (suc zero)) = (_, refl)
  new_outputs new_join (suc zero) = (_, refl)
  new_outputs new_branch (suc zero) = (_, refl)
  new_outputs new_branch (suc (suc zero)) = (_, refl)
  new_outputs new_split1 i = found lanes new_out1 i
  new_outputs new_split2 i = found lanes new_out2 i
  new_outputs (new_value l) (suc zero) = (_, refl)
  new_outputs _ _ = tt

  new_ok : (n : OneBranch lanes) → KindOk (one_branch_kind lanes n)
  new_ok new_condition = bit_is_shape
  new_ok new_fork = (bit_is_shape, (omega arith, omega arith))
  new_ok new_passed = bit_is_shape
  new_ok new_join = can.parts
  new_ok new_branch = can.parts.whole
  new_ok new_split1 = can.parts
  new_ok new_split2 = can.parts
  new_ok (new_value l) = item_shape lanes can.parts.parts l
  new_ok (new_out1 l) = item_shape lanes can.parts.parts l
  new_ok (new_out2 l) = item_shape lanes can.parts.parts l

  pub one_branch_typed : PlanTyped (one_branch_plan lanes)
  one_branch_typed = record { kinds = new_ok; sink = new_sink; wires = new_wires; sinks = new_sinks; inputs = new_inputs; outputs = new_outputs }

  module _ (hx : Naming (OneBranch lanes)) (gx : Naming (Branches lanes)) (same : SameBranchEnds lanes hx gx) where
    same_entry : (n : OneBranch lanes) (b : Shape) → one_branch_kind lanes n ≡ Entry b → (m : Branches lanes) × (hx.name n ≡ gx.name m) × (branches_kind lanes m ≡ Entry b)
    same_entry new_condition b e = (condition, same.condition_is, e)
    same_entry (new_value l) b e = (value l, same.value_is l, e)
    same_entry _ b e = cc

    same_entry_back : (m : Branches lanes) (b : Shape) → branches_kind lanes m ≡ Entry b → (n : OneBranch lanes) × (hx.name n ≡ gx.name m) × (one_branch_kind lanes n ≡ Entry b)
    same_entry_back condition b e = (new_condition, same.condition_is, e)
    same_entry_back (value l) b e = (new_value l, same.value_is l, e)
    same_entry_back _ b e = cc

    same_exit : (n : OneBranch lanes) (b : Shape) → one_branch_kind lanes n ≡ Exit b → (m : Branches lanes) × (hx.name n ≡ gx.name m) × (branches_kind lanes m ≡ Exit b)
    same_exit new_passed b e = (passed, same.passed_is, e)
    same_exit (new_out1 l) b e = (out1 l, same.out1_is l, e)
    same_exit (new_out2 l) b e = (out2 l, same.out2_is l, e)
    same_exit _ b e = cc

    same_exit_back : (m : Branches lanes) (b : Shape) → branches_kind lanes m ≡ Exit b → (n : OneBranch lanes) × (hx.name n ≡ gx.name m) × (one_branch_kind lanes n ≡ Exit b)
    same_exit_back passed b e = (new_passed, same.passed_is, e)
    same_exit_back (out1 l) b e = (new_out1 l, same.out1_is l, e)
    same_exit_back (out2 l) b e = (new_out2 l, same.out2_is l, e)
    same_exit_back _ b e = cc

    ports : PlanPorts (one_branch_plan lanes) (branches_plan lanes) hx gx
    ports = record { entry = same_entry; entry_back = same_entry_back; exit = same_exit; exit_back = same_exit_back }

  -- no name is longer than all of them together
  old_size : Naming (Branches lanes) → ℕ
  old_size x =
      1 + (length (x.name condition) + length (x.name fork) + length (x.name passed) + total lanes (λ l. length (x.name (value l))) + total lanes (λ l. length (x.name (branch l))) + total lanes (λ l. length (x.name (out1 l))) + total lanes (λ l. length (x.name (out2 l))))

  old_short : (x : Naming (Branches lanes)) (n : Branches lanes) → length (x.name n) < old_size x
  unfolding old_size
  old_short x condition = omega arith
  old_short x fork = omega arith
  old_short x passed = omega arith
  old_short x (value l) = let h : length (x.name (value l)) ≤ total lanes (λ l. length (x.name (value l))) = in_total lanes (λ l. length (x.name (value l))) l in omega arith
  old_short x (branch l) = let h : length (x.name (branch l)) ≤ total lanes (λ l. length (x.name (branch l))) = in_total lanes (λ l. length (x.name (branch l))) l in omega arith
  old_short x (out1 l) = let h : length (x.name (out1 l)) ≤ total lanes (λ l. length (x.name (out1 l))) = in_total lanes (λ l. length (x.name (out1 l))) l in omega arith
  old_short x (out2 l) = let h : length (x.name (out2 l)) ≤ total lanes (λ l. length (x.name (out2 l))) = in_total lanes (λ l. length (x.name (out2 l))) l in omega arith

  new_size : Naming (OneBranch lanes) → ℕ
  new_size x =
      1 + (length (x.name new_condition) + length (x.name new_fork) + length (x.name new_passed) + length (x.name new_join) + length (x.name new_branch) + length (x.name new_split1) + length (x.name new_split2) + total lanes (λ l. length (x.name (new_value l))) + total lanes (λ l. length (x.name (new_out1 l))) + total lanes (λ l. length (x.name (new_out2 l))))

  new_short : (x : Naming (OneBranch lanes)) (n : OneBranch lanes) → length (x.name n) < new_size x
  unfolding new_size
  new_short x new_condition = omega arith
  new_short x new_fork = omega arith
  new_short x new_passed = omega arith
  new_short x new_join = omega arith
  new_short x new_branch = omega arith
  new_short x new_split1 = omega arith
  new_short x new_split2 = omega arith
  new_short x (new_value l) = let h : length (x.name (new_value l)) ≤ total lanes (λ l. length (x.name (new_value l))) = in_total lanes (λ l. length (x.name (new_value l))) l in omega arith
  new_short x (new_out1 l) = let h : length (x.name (new_out1 l)) ≤ total lanes (λ l. length (x.name (new_out1 l))) = in_total lanes (λ l. length (x.name (new_out1 l))) l in omega arith
  new_short x (new_out2 l) = let h : length (x.name (new_out2 l)) ≤ total lanes (λ l. length (x.name (new_out2 l))) = in_total lanes (λ l. length (x.name (new_out2 l))) l in omega arith

  pub one_branch_refines : ValuesFit → (hx : Naming (OneBranch lanes)) (gx : Naming (Branches lanes)) → SameBranchEnds lanes hx gx → Refines (built (one_branch_plan lanes) hx) (built (branches_plan lanes) gx)
  one_branch_refines values hx gx same =
      matches_refines values (built (one_branch_plan lanes) hx) (built (branches_plan lanes) gx)
      (plan_typed (one_branch_plan lanes) hx one_branch_typed (new_size hx) (new_short hx))
      (plan_typed (branches_plan lanes) gx branches_typed (old_size gx) (old_short gx))
      (plan_ports (one_branch_plan lanes) (branches_plan lanes) hx gx (ports hx gx same))
      (matches_of (one_branch_plan lanes) (branches_plan lanes) hx gx (one_branch_matches lanes hx gx same))
