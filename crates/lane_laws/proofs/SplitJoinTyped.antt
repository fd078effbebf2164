-- a Split whose outputs are joined again and a wire are typed, with the same ports; so the wire refines the two
use Rattle.std.proofs.Common.{◌≡◌, ℕ, zero, suc, ◌+◌, ◌<◌, refl, ap, length, List, Option, Some, None, arith}
use Rattle.circuits.specs.Refines.{Refines}
use Rattle.components.specs.Kind.{Shape, ins, outs, KindOk, AreParts}
use Rattle.components.specs.Name.{port_get}
use Rattle.std.specs.List.{concat}
use Rattle.components.specs.declared.kind.Kind.TheVariants.{Entry, Exit}
use Rattle.circuit_plans.specs.Plans.{from}
use Rattle.circuits.specs.Values.{ValuesFit}
use Rattle.port_types.specs.Shape.{IsShape}
use Rattle.lane_laws.specs.SplitJoin.{SplitJoined, entry, split, join, exit, split_joined_kind}
use Rattle.lane_laws.proofs.SplitJoinPlans.{Straight, new_entry, new_exit, split_output, split_joined_plan, straight_plan, straight_kind, SameWireEnds}
use Rattle.circuit_plans.proofs.Plans.{Out, Naming, built, matches_of}
use Rattle.circuit_plans.proofs.PlanTyped.{ForSome, PlanWire, PlanTyped, plan_typed, plan_ports}
use Rattle.circuits.proofs.Matching.{matches_refines}
use Rattle.lane_laws.proofs.SplitJoin.{split_join}

module _ (parts : List Shape) (are : AreParts parts) where
  abbrev joined_input : ℕ → Option Shape → Option (Out SplitJoined)
  joined_input i None = None
  joined_input i (Some a) = from join i

  abbrev old_sink : SplitJoined → ℕ → Option (Out SplitJoined)
  old_sink entry (suc zero) = from split 1
  old_sink split i = joined_input i (port_get parts i)
  old_sink join (suc zero) = from exit 1
  old_sink _ _ = None

  join_wires : (i : ℕ) (o : Option Shape) → port_get parts i ≡ o → ForSome (split_output i o) (PlanWire (split_joined_plan parts) old_sink join i)
  join_wires i None e = tt
  join_wires i (Some a) e = record { back = ap (joined_input i) e; shape = a; enters = e; leaves = e }

  old_wires : (n : SplitJoined) (i : ℕ) → ForSome ((split_joined_plan parts).source n i) (PlanWire (split_joined_plan parts) old_sink n i)
  old_wires split (suc zero) = record { back = refl; shape = concat parts; enters = refl; leaves = refl }
  old_wires join i = join_wires i (port_get parts i) refl
  old_wires exit (suc zero) = record { back = refl; shape = concat parts; enters = refl; leaves = refl }
  old_wires _ _ = tt

  split_sinks : (i : ℕ) (o : Option Shape) → port_get parts i ≡ o → ForSome (joined_input i o) (λ p. (split_joined_plan parts).source p.at p.port ≡ Some (record { at = split; port = i }))
  split_sinks i None e = tt
  split_sinks i (Some a) e = ap (split_output i) e

  old_sinks : (n : SplitJoined) (i : ℕ) → ForSome (old_sink n i) (λ p. (split_joined_plan parts).source p.at p.port ≡ Some (record { at = n; port = i }))
  old_sinks entry (suc zero) = refl
  old_sinks split i = split_sinks i (port_get parts i) refl
  old_sinks join (suc zero) = refl
  old_sinks _ _ = tt

  join_inputs : (i : ℕ) (o : Option Shape) → port_get parts i ≡ o → ForSome o (λ a. (q : Out SplitJoined) × (split_output i (port_get parts i) ≡ Some q))
  join_inputs i None e = tt
  join_inputs i (Some a) e = (_, ap (split_output i) e)

  old_inputs : (n : SplitJoined) (i : ℕ) → ForSome (port_get (ins ((split_joined_plan parts).kind n)) i) (λ a. (q : Out SplitJoined) × ((split_joined_plan parts).source n i ≡ Some q))
  old_inputs split (suc zero) = (_, refl)
  old_inputs join i = join_inputs i (port_get parts i) refl
  old_inputs exit (suc zero) = (_, refl)
  old_inputs _ _ = tt

  split_outputs : (i : ℕ) (o : Option Shape) → port_get parts i ≡ o → ForSome o (λ a. (p : Out SplitJoined) × (joined_input i (port_get parts i) ≡ Some p))
  split_outputs i None e = tt
  split_outputs i (Some a) e = (_, ap (joined_input i) e)

  old_outputs : (n : SplitJoined) (i : ℕ) → ForSome (port_get (outs ((split_joined_plan parts).kind n)) i) (λ a. (p : Out SplitJoined) × (old_sink n i ≡ Some p))
  old_outputs entry (suc zero) = (_, refl)
  old_outputs split i = split_outputs i (port_get parts i) refl
  old_outputs join (suc zero) = (_, refl)
  old_outputs _ _ = tt

  old_ok : (n : SplitJoined) → KindOk (split_joined_kind parts n)
  old_ok entry = are.whole
  old_ok split = are
  old_ok join = are
  old_ok exit = are.whole

  pub split_joined_typed : PlanTyped (split_joined_plan parts)
  split_joined_typed = record { kinds = old_ok; sink = old_sink; wires = old_wires; sinks = old_sinks; inputs = old_inputs; outputs = old_outputs }

module _ (a : Shape) (is : IsShape a) where
  abbrev new_sink : Straight → ℕ → Option (Out Straight)
  new_sink new_entry (suc zero) = from new_exit 1
  new_sink _ _ = None

  new_wires : (n : Straight) (i : ℕ) → ForSome ((straight_plan a).source n i) (PlanWire (straight_plan a) new_sink n i)
  new_wires new_exit (suc zero) = record { back = refl; shape = a; enters = refl; leaves = refl }
  new_wires _ _ = tt

  new_sinks : (n : Straight) (i : ℕ) → ForSome (new_sink n i) (λ p. (straight_plan a).source p.at p.port ≡ Some (record { at = n; port = i }))
  new_sinks new_entry (suc zero) = refl
  new_sinks _ _ = tt

  new_inputs : (n : Straight) (i : ℕ) → ForSome (port_get (ins ((straight_plan a).kind n)) i) (λ b. (q : Out Straight) × ((straight_plan a).source n i ≡ Some q))
  new_inputs new_exit (suc zero) = (_, refl)
  new_inputs _ _ = tt

  new_outputs : (n : Straight) (i : ℕ) → ForSome (port_get (outs ((straight_plan a).kind n)) i) (λ b. (p : Out Straight) × (new_sink n i ≡ Some p))
  new_outputs new_entry (suc zero) = (_, refl)
  new_outputs _ _ = tt

  new_ok : (n : Straight) → KindOk (straight_kind a n)
  new_ok new_entry = is
  new_ok new_exit = is

  pub straight_typed : PlanTyped (straight_plan a)
  straight_typed = record { kinds = new_ok; sink = new_sink; wires = new_wires; sinks = new_sinks; inputs = new_inputs; outputs = new_outputs }

module _ (parts : List Shape) (are : AreParts parts) (values : ValuesFit) (hx : Naming Straight) (gx : Naming SplitJoined) (same : SameWireEnds hx gx) where
  same_entry : (n : Straight) (b : Shape) → straight_kind (concat parts) n ≡ Entry b → (m : SplitJoined) × (hx.name n ≡ gx.name m) × (split_joined_kind parts m ≡ Entry b)
  same_entry new_entry b e = (entry, same.entry_is, e)
  same_entry new_exit b e = cc

  same_entry_back : (m : SplitJoined) (b : Shape) → split_joined_kind parts m ≡ Entry b → (n : Straight) × (hx.name n ≡ gx.name m) × (straight_kind (concat parts) n ≡ Entry b)
  same_entry_back entry b e = (new_entry, same.entry_is, e)
  same_entry_back _ b e = cc

  same_exit : (n : Straight) (b : Shape) → straight_kind (concat parts) n ≡ Exit b → (m : SplitJoined) × (hx.name n ≡ gx.name m) × (split_joined_kind parts m ≡ Exit b)
  same_exit new_exit b e = (exit, same.exit_is, e)
  same_exit new_entry b e = cc

  same_exit_back : (m : SplitJoined) (b : Shape) → split_joined_kind parts m ≡ Exit b → (n : Straight) × (hx.name n ≡ gx.name m) × (straight_kind (concat parts) n ≡ Exit b)
  same_exit_back exit b e = (new_exit, same.exit_is, e)
  same_exit_back _ b e = cc

  old_size : ℕ
  old_size = 1 + (length (gx.name entry) + length (gx.name split) + length (gx.name join) + length (gx.name exit))

  old_short : (n : SplitJoined) → length (gx.name n) < old_size
  unfolding old_size
  old_short entry = omega arith
  old_short split = omega arith
  old_short join = omega arith
  old_short exit = omega arith

  new_size : ℕ
  new_size = 1 + (length (hx.name new_entry) + length (hx.name new_exit))

  new_short : (n : Straight) → length (hx.name n) < new_size
  unfolding new_size
  new_short new_entry = omega arith
  new_short new_exit = omega arith

  pub straight_refines : Refines (built (straight_plan (concat parts)) hx) (built (split_joined_plan parts) gx)
  straight_refines =
      matches_refines values (built (straight_plan (concat parts)) hx) (built (split_joined_plan parts) gx)
      (plan_typed (straight_plan (concat parts)) hx (straight_typed (concat parts) are.whole) new_size new_short)
      (plan_typed (split_joined_plan parts) gx (split_joined_typed parts are) old_size old_short)
      (plan_ports (straight_plan (concat parts)) (split_joined_plan parts) hx gx (record { entry = same_entry; entry_back = same_entry_back; exit = same_exit; exit_back = same_exit_back }))
      (matches_of (straight_plan (concat parts)) (split_joined_plan parts) hx gx (split_join parts hx gx same.entry_is same.exit_is))
