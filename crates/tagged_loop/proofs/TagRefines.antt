-- The tagged loop refines the in-order loop.
use Rattle.std.proofs.Common.{◌≡◌, ℕ, ◌≤◌, Bool}
use Rattle.fun_expr.specs.Function.{Function}
use Rattle.components.specs.declared.kind.Kind.TheVariants.{Entry, Exit}
use Rattle.components.specs.Kind.{Shape}
use Rattle.circuits.specs.Values.{ValuesFit}
use Rattle.circuits.specs.Refines.{SamePorts, Refines}
use Rattle.circuits.proofs.Matching.{matches_refines}
use Rattle.circuit_plans.proofs.Plans.{Naming, built, matches_of}
use Rattle.circuit_plans.proofs.PlanTyped.{plan_ports}
use Rattle.tagged_loop.specs.LoopFunction.{IsLoopFunction}
use Rattle.tagged_loop.specs.InOrderLoop.{InOrderNode, entry, init, mux, pure, pair, cond, branch, exit}
use Rattle.tagged_loop.specs.TaggedLoop.{TaggedNode, new_entry, tagger, merge, tag, new_pure, new_pair, retag, new_branch, new_exit}
use Rattle.tagged_loop.proofs.LoopPlans.{in_order_plan, tagged_plan, loop_maps}
use Rattle.tagged_loop.proofs.TagLoop.{tag_loop}
use Rattle.tagged_loop.proofs.InOrderTyped.{old_circuit_typed}
use Rattle.tagged_loop.proofs.TaggedTyped.{new_circuit_typed}

module _ (a : Shape) (f : Function) (d : Bool) (n m : ℕ) (is : IsLoopFunction a f) where
  entry_same : (hx : Naming TaggedNode) (gx : Naming InOrderNode) → hx.name new_entry ≡ gx.name entry → (k : TaggedNode) (b : Shape) → (tagged_plan a f d n).kind k ≡ Entry b → (j : InOrderNode) × (hx.name k ≡ gx.name j) × ((in_order_plan a f d m).kind j ≡ Entry b)
  entry_same hx gx same new_entry b e = (entry, same, e)
  entry_same hx gx same tagger b e = cc
  entry_same hx gx same merge b e = cc
  entry_same hx gx same tag b e = cc
  entry_same hx gx same new_pure b e = cc
  entry_same hx gx same new_pair b e = cc
  entry_same hx gx same retag b e = cc
  entry_same hx gx same new_branch b e = cc
  entry_same hx gx same new_exit b e = cc

  entry_back : (hx : Naming TaggedNode) (gx : Naming InOrderNode) → hx.name new_entry ≡ gx.name entry → (k : InOrderNode) (b : Shape) → (in_order_plan a f d m).kind k ≡ Entry b → (j : TaggedNode) × (hx.name j ≡ gx.name k) × ((tagged_plan a f d n).kind j ≡ Entry b)
  entry_back hx gx same entry b e = (new_entry, same, e)
  entry_back hx gx same init b e = cc
  entry_back hx gx same mux b e = cc
  entry_back hx gx same pure b e = cc
  entry_back hx gx same pair b e = cc
  entry_back hx gx same cond b e = cc
  entry_back hx gx same branch b e = cc
  entry_back hx gx same exit b e = cc

  exit_same : (hx : Naming TaggedNode) (gx : Naming InOrderNode) → hx.name new_exit ≡ gx.name exit → (k : TaggedNode) (b : Shape) → (tagged_plan a f d n).kind k ≡ Exit b → (j : InOrderNode) × (hx.name k ≡ gx.name j) × ((in_order_plan a f d m).kind j ≡ Exit b)
  exit_same hx gx same new_entry b e = cc
  exit_same hx gx same tagger b e = cc
  exit_same hx gx same merge b e = cc
  exit_same hx gx same tag b e = cc
  exit_same hx gx same new_pure b e = cc
  exit_same hx gx same new_pair b e = cc
  exit_same hx gx same retag b e = cc
  exit_same hx gx same new_branch b e = cc
  exit_same hx gx same new_exit b e = (exit, same, e)

  exit_back : (hx : Naming TaggedNode) (gx : Naming InOrderNode) → hx.name new_exit ≡ gx.name exit → (k : InOrderNode) (b : Shape) → (in_order_plan a f d m).kind k ≡ Exit b → (j : TaggedNode) × (hx.name j ≡ gx.name k) × ((tagged_plan a f d n).kind j ≡ Exit b)
  exit_back hx gx same entry b e = cc
  exit_back hx gx same init b e = cc
  exit_back hx gx same mux b e = cc
  exit_back hx gx same pure b e = cc
  exit_back hx gx same pair b e = cc
  exit_back hx gx same cond b e = cc
  exit_back hx gx same branch b e = cc
  exit_back hx gx same exit b e = (new_exit, same, e)

  pub same_ports : (hx : Naming TaggedNode) (gx : Naming InOrderNode) → hx.name new_entry ≡ gx.name entry → hx.name new_exit ≡ gx.name exit → SamePorts (built (tagged_plan a f d n) hx) (built (in_order_plan a f d m) gx)
  same_ports hx gx e x =
      plan_ports (tagged_plan a f d n) (in_order_plan a f d m) hx gx
      (record { entry = entry_same hx gx e; entry_back = entry_back hx gx e; exit = exit_same hx gx x; exit_back = exit_back hx gx x })

  pub tag_loop_refines : ValuesFit → m ≤ 256 → 1 ≤ n → n ≤ 256 → (hx : Naming TaggedNode) (gx : Naming InOrderNode) → hx.name new_entry ≡ gx.name entry → hx.name new_exit ≡ gx.name exit → Refines (built (tagged_plan a f d n) hx) (built (in_order_plan a f d m) gx)
  tag_loop_refines values mark some few hx gx e x =
      matches_refines values (built (tagged_plan a f d n) hx) (built (in_order_plan a f d m) gx)
      (new_circuit_typed a f d n is some few hx) (old_circuit_typed a f d m is mark gx) (same_ports hx gx e x)
      (matches_of (tagged_plan a f d n) (in_order_plan a f d m) hx gx (tag_loop a f d n m is.input (loop_maps values.functions a f is) hx gx e x))
