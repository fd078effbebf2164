-- The law of the Branches of several lanes, of their graph.
use Rattle.std.proofs.Common.{◌≡◌, ℕ, zero, suc, List, ◌++◌, Option, Some, refl, sym, ap, subst, ◌∙◌, length}
use Rattle.std.specs.List.{AllByRecursion}
use Rattle.std.proofs.lemmas.Option.{none-some, same_Some}
use Rattle.components.specs.declared.kind.Kind.TheVariants.{Entry, Fork}
use Rattle.components.specs.Name.{Name}
use Rattle.components.specs.Kind.{Shape, field}
use Rattle.circuits.specs.Values.{ValuesFit}
use Rattle.circuits.specs.Circuit.{circuit_of}
use Rattle.circuits.specs.Refines.{Refines}
use Rattle.circuits.specs.Replacing.{In, head, tail}
use Rattle.circuits.specs.Laws.{GraphIsTyped}
use Rattle.circuit_plans.specs.Plans.{Out, Naming, built}
use Rattle.circuit_plans.specs.Drawing.{DrawnWire, wire}
use Rattle.circuit_plans.specs.Places.{Place, number, place_at, places, each_of, output_at}
use Rattle.circuit_plans.proofs.PlanTyped.{ForSome}
use Rattle.circuit_plans.proofs.NoThrough.{PlanNoThrough, none_through}
use Rattle.circuit_plans.proofs.Places.{PortOf, at, no_port, port_of, place_number, in_places, in_front, in_back, each_at, each_both}
use Rattle.circuit_plans.proofs.Namings.{naming}
use Rattle.circuit_plans.proofs.Drawn.{Draws, drawn_is}
use Rattle.lane_laws.specs.CombineBranches.{Branches, condition, fork, passed, value, branch, out1, out2, branches_kind, branches_nodes, branches_wires, branches, branches_graph, OneBranch, new_condition, new_fork, new_passed, new_join, new_branch, new_split1, new_split2, new_value, new_out1, new_out2, one_branch_nodes, one_branch_wires, one_branch, one_branch_graph, CanCombine, BranchNames}
use Rattle.lane_laws.specs.Laws.{CombiningBranchesIsRule, CombinedBranchesRefine}
use Rattle.lane_laws.proofs.BranchPlans.{branches_source, branches_plan, one_branch_source, one_branch_plan}
use Rattle.lane_laws.proofs.CombineBranchesTyped.{one_branch_refines}

-- the second, the third and the fourth of families one behind the other
module _ {A : Type 0} (xs : List A) {N : Type 0} (f g : Place xs → N) (rest : List N) where
  first_family : (l : Place xs) → In (f l) (each_of xs f ++ rest)
  first_family l = in_front (each_of xs f) rest (f l) (in_places xs f l)

  later_family : (n : N) → In n rest → In n (each_of xs f ++ rest)
  later_family n i = in_back (each_of xs f) rest n i

module _ (lanes : List Shape) where
  abbrev old_values : List (Branches lanes)
  old_values = each_of lanes value

  abbrev old_in : (n : Branches lanes) → In n (branches_nodes lanes)
  old_in condition = head refl
  old_in fork = tail (head refl)
  old_in passed = tail (tail (head refl))
  old_in (value l) = tail (tail (tail (first_family lanes value value (each_of lanes branch ++ (each_of lanes out1 ++ each_of lanes out2)) l)))
  old_in (branch l) =
      tail (tail (tail (later_family lanes value value (each_of lanes branch ++ (each_of lanes out1 ++ each_of lanes out2)) (branch l)
      (first_family lanes branch branch (each_of lanes out1 ++ each_of lanes out2) l))))
  old_in (out1 l) =
      tail (tail (tail (later_family lanes value value (each_of lanes branch ++ (each_of lanes out1 ++ each_of lanes out2)) (out1 l)
      (later_family lanes branch branch (each_of lanes out1 ++ each_of lanes out2) (out1 l) (first_family lanes out1 out1 (each_of lanes out2) l)))))
  old_in (out2 l) =
      tail (tail (tail (later_family lanes value value (each_of lanes branch ++ (each_of lanes out1 ++ each_of lanes out2)) (out2 l)
      (later_family lanes branch branch (each_of lanes out1 ++ each_of lanes out2) (out2 l)
      (later_family lanes out1 out1 (each_of lanes out2) (out2 l) (in_places lanes out2 l))))))

  abbrev new_in : (n : OneBranch lanes) → In n (one_branch_nodes lanes)
  new_in new_condition = head refl
  new_in new_fork = tail (head refl)
  new_in new_passed = tail (tail (head refl))
  new_in new_join = tail (tail (tail (head refl)))
  new_in new_branch = tail (tail (tail (tail (head refl))))
  new_in new_split1 = tail (tail (tail (tail (tail (head refl)))))
  new_in new_split2 = tail (tail (tail (tail (tail (tail (head refl))))))
  new_in (new_value l) = tail (tail (tail (tail (tail (tail (tail (first_family lanes new_value new_value (each_of lanes new_out1 ++ each_of lanes new_out2) l)))))))
  new_in (new_out1 l) =
      tail (tail (tail (tail (tail (tail (tail (later_family lanes new_value new_value (each_of lanes new_out1 ++ each_of lanes new_out2) (new_out1 l)
      (first_family lanes new_out1 new_out1 (each_of lanes new_out2) l))))))))
  new_in (new_out2 l) =
      tail (tail (tail (tail (tail (tail (tail (later_family lanes new_value new_value (each_of lanes new_out1 ++ each_of lanes new_out2) (new_out2 l)
      (later_family lanes new_out1 new_out1 (each_of lanes new_out2) (new_out2 l) (in_places lanes new_out2 l)))))))))

  -- the wires of each lane

  abbrev into_branch : Place lanes → DrawnWire (Branches lanes)
  into_branch l = wire (value l) 1 (branch l) 1

  abbrev bit_wire : Place lanes → DrawnWire (Branches lanes)
  bit_wire l = wire fork (number lanes l) (branch l) 2

  abbrev out1_wire : Place lanes → DrawnWire (Branches lanes)
  out1_wire l = wire (branch l) 1 (out1 l) 1

  abbrev out2_wire : Place lanes → DrawnWire (Branches lanes)
  out2_wire l = wire (branch l) 2 (out2 l) 1

  abbrev after_bits : List (DrawnWire (Branches lanes))
  after_bits = each_of lanes out1_wire ++ each_of lanes out2_wire

  abbrev after_values : List (DrawnWire (Branches lanes))
  after_values = each_of lanes bit_wire ++ after_bits

  abbrev OldListed : Branches lanes → ℕ → Type 0
  OldListed n i = ForSome (branches_source lanes n i) (λ q. In (record { source = q; target = record { at = n; port = i } }) (branches_wires lanes))

  old_listed : (n : Branches lanes) (i : ℕ) → OldListed n i
  old_listed condition i = tt
  old_listed fork zero = tt
  old_listed fork (suc zero) = head refl
  old_listed fork (suc (suc i)) = tt
  old_listed passed zero = tt
  old_listed passed (suc zero) = tail (head refl)
  old_listed passed (suc (suc i)) = tt
  old_listed (value l) i = tt
  old_listed (branch l) zero = tt
  old_listed (branch l) (suc zero) = tail (tail (first_family lanes into_branch into_branch after_values l))
  old_listed (branch l) (suc (suc zero)) =
      tail (tail (later_family lanes into_branch into_branch after_values (bit_wire l) (first_family lanes bit_wire bit_wire after_bits l)))
  old_listed (branch l) (suc (suc (suc i))) = tt
  old_listed (out1 l) zero = tt
  old_listed (out1 l) (suc zero) =
      tail (tail (later_family lanes into_branch into_branch after_values (out1_wire l)
      (later_family lanes bit_wire bit_wire after_bits (out1_wire l) (first_family lanes out1_wire out1_wire (each_of lanes out2_wire) l))))
  old_listed (out1 l) (suc (suc i)) = tt
  old_listed (out2 l) zero = tt
  old_listed (out2 l) (suc zero) =
      tail (tail (later_family lanes into_branch into_branch after_values (out2_wire l)
      (later_family lanes bit_wire bit_wire after_bits (out2_wire l)
      (later_family lanes out1_wire out1_wire (each_of lanes out2_wire) (out2_wire l) (in_places lanes out2_wire l)))))
  old_listed (out2 l) (suc (suc i)) = tt

  abbrev OldSourced : DrawnWire (Branches lanes) → Type 0
  OldSourced w = branches_source lanes w.target.at w.target.port ≡ Some w.source

  old_sound : AllByRecursion OldSourced (branches_wires lanes)
  old_sound = (
    refl,
    (
      refl,
      each_both OldSourced (each_of lanes into_branch) after_values (each_at OldSourced into_branch (places lanes) (λ l. refl))
          (each_both OldSourced (each_of lanes bit_wire) after_bits (each_at OldSourced bit_wire (places lanes) (λ l. refl))
          (each_both OldSourced (each_of lanes out1_wire) (each_of lanes out2_wire) (each_at OldSourced out1_wire (places lanes) (λ l. refl))
          (each_at OldSourced out2_wire (places lanes) (λ l. refl)))),
    ),
  )

  old_draws : Draws (branches lanes) (branches_plan lanes)
  old_draws = record { kinds = λ n. refl; all = old_in; sound = old_sound; complete = old_listed }

  abbrev into_join : Place lanes → DrawnWire (OneBranch lanes)
  into_join l = wire (new_value l) 1 new_join (number lanes l)

  abbrev new_out1_wire : Place lanes → DrawnWire (OneBranch lanes)
  new_out1_wire l = wire new_split1 (number lanes l) (new_out1 l) 1

  abbrev new_out2_wire : Place lanes → DrawnWire (OneBranch lanes)
  new_out2_wire l = wire new_split2 (number lanes l) (new_out2 l) 1

  abbrev after_join : List (DrawnWire (OneBranch lanes))
  after_join = each_of lanes new_out1_wire ++ each_of lanes new_out2_wire

  abbrev NewListed : OneBranch lanes → ℕ → Option (Out (OneBranch lanes)) → Type 0
  NewListed n i o = ForSome o (λ q. In (record { source = q; target = record { at = n; port = i } }) (one_branch_wires lanes))

  join_listed : (i : ℕ) → PortOf lanes i → NewListed new_join i (output_at new_value 1 (place_at lanes i))
  join_listed i (at l is) =
      subst (λ j. NewListed new_join j (output_at new_value 1 (place_at lanes j))) (sym is)
      (subst (λ o. NewListed new_join (number lanes l) (output_at new_value 1 o)) (sym (place_number lanes l))
      (tail (tail (tail (tail (tail (tail (first_family lanes into_join into_join after_join l))))))))
  join_listed i (no_port e f) = subst (λ o. NewListed new_join i (output_at new_value 1 o)) (sym e) tt

  new_listed : (n : OneBranch lanes) (i : ℕ) → NewListed n i (one_branch_source lanes n i)
  new_listed new_condition i = tt
  new_listed new_fork zero = tt
  new_listed new_fork (suc zero) = head refl
  new_listed new_fork (suc (suc i)) = tt
  new_listed new_passed zero = tt
  new_listed new_passed (suc zero) = tail (head refl)
  new_listed new_passed (suc (suc i)) = tt
  new_listed new_join i = join_listed i (port_of lanes i)
  new_listed new_branch zero = tt
  new_listed new_branch (suc zero) = tail (tail (head refl))
  new_listed new_branch (suc (suc zero)) = tail (tail (tail (head refl)))
  new_listed new_branch (suc (suc (suc i))) = tt
  new_listed new_split1 zero = tt
  new_listed new_split1 (suc zero) = tail (tail (tail (tail (head refl))))
  new_listed new_split1 (suc (suc i)) = tt
  new_listed new_split2 zero = tt
  new_listed new_split2 (suc zero) = tail (tail (tail (tail (tail (head refl)))))
  new_listed new_split2 (suc (suc i)) = tt
  new_listed (new_value l) i = tt
  new_listed (new_out1 l) zero = tt
  new_listed (new_out1 l) (suc zero) =
      tail (tail (tail (tail (tail (tail (later_family lanes into_join into_join after_join (new_out1_wire l)
      (first_family lanes new_out1_wire new_out1_wire (each_of lanes new_out2_wire) l)))))))
  new_listed (new_out1 l) (suc (suc i)) = tt
  new_listed (new_out2 l) zero = tt
  new_listed (new_out2 l) (suc zero) =
      tail (tail (tail (tail (tail (tail (later_family lanes into_join into_join after_join (new_out2_wire l)
      (later_family lanes new_out1_wire new_out1_wire (each_of lanes new_out2_wire) (new_out2_wire l) (in_places lanes new_out2_wire l))))))))
  new_listed (new_out2 l) (suc (suc i)) = tt

  abbrev NewSourced : DrawnWire (OneBranch lanes) → Type 0
  NewSourced w = one_branch_source lanes w.target.at w.target.port ≡ Some w.source

  lanes_sound : AllByRecursion NewSourced (each_of lanes into_join ++ after_join)
  lanes_sound =
      each_both NewSourced (each_of lanes into_join) after_join (each_at NewSourced into_join (places lanes) (λ l. ap (output_at new_value 1) (place_number lanes l)))
      (each_both NewSourced (each_of lanes new_out1_wire) (each_of lanes new_out2_wire) (each_at NewSourced new_out1_wire (places lanes) (λ l. refl))
      (each_at NewSourced new_out2_wire (places lanes) (λ l. refl)))

  new_draws : Draws (one_branch lanes) (one_branch_plan lanes)
  new_draws = record { kinds = λ n. refl; all = new_in; sound = (refl, (refl, (refl, (refl, (refl, (refl, lanes_sound)))))); complete = new_listed }

  -- no Exit is fed by an Entry

  fork_apart : (q : Out (Branches lanes)) (b : Shape) → fork ≡ q.at → branches_kind lanes q.at ≡ Entry b → ⊥
  fork_apart q b here e = let k : Fork (field 1) (suc (length lanes)) ≡ Entry b = ap (branches_kind lanes) here ∙ e in cc

  branch_apart : (l : Place lanes) (q : Out (Branches lanes)) (b : Shape) → branch l ≡ q.at → branches_kind lanes q.at ≡ Entry b → ⊥
  branch_apart l q b here e = let k : branches_kind lanes (branch l) ≡ Entry b = ap (branches_kind lanes) here ∙ e in cc

  apart : PlanNoThrough (branches_plan lanes)
  apart condition i q x y f e k = cc
  apart fork i q x y f e k = cc
  apart passed zero q x y f e k = absurd (none-some q f)
  apart passed (suc zero) q x y f e k = fork_apart q y (ap (λ (z : Out (Branches lanes)). z.at) (same_Some _ q f)) k
  apart passed (suc (suc i)) q x y f e k = absurd (none-some q f)
  apart (value l) i q x y f e k = cc
  apart (branch l) i q x y f e k = cc
  apart (out1 l) zero q x y f e k = absurd (none-some q f)
  apart (out1 l) (suc zero) q x y f e k = branch_apart l q y (ap (λ (z : Out (Branches lanes)). z.at) (same_Some _ q f)) k
  apart (out1 l) (suc (suc i)) q x y f e k = absurd (none-some q f)
  apart (out2 l) zero q x y f e k = absurd (none-some q f)
  apart (out2 l) (suc zero) q x y f e k = branch_apart l q y (ap (λ (z : Out (Branches lanes)). z.at) (same_Some _ q f)) k
  apart (out2 l) (suc (suc i)) q x y f e k = absurd (none-some q f)

module _ (lanes : List Shape) (old : Branches lanes → Name) (new : OneBranch lanes → Name) (names : BranchNames lanes old new) where
  abbrev old_naming : Naming (Branches lanes)
  old_naming = naming old (branches_nodes lanes) (old_in lanes) names.old_names

  abbrev new_naming : Naming (OneBranch lanes)
  new_naming = naming new (one_branch_nodes lanes) (new_in lanes) names.new_names

  old_is : circuit_of (branches_graph lanes old) ≡ built (branches_plan lanes) old_naming
  old_is = drawn_is (branches lanes) (branches_plan lanes) (old_draws lanes) old_naming names.old_names

  new_is : circuit_of (one_branch_graph lanes new) ≡ built (one_branch_plan lanes) new_naming
  new_is = drawn_is (one_branch lanes) (one_branch_plan lanes) (new_draws lanes) new_naming names.new_names

  graph_refines : ValuesFit → CanCombine lanes → Refines (circuit_of (one_branch_graph lanes new)) (circuit_of (branches_graph lanes old))
  graph_refines values can =
      subst (λ c. Refines c (circuit_of (branches_graph lanes old))) (sym new_is)
      (subst (Refines (built (one_branch_plan lanes) new_naming)) (sym old_is)
      (one_branch_refines lanes can values new_naming old_naming
      (record { condition_is = names.same_condition; passed_is = names.same_passed; value_is = names.same_values; out1_is = names.same_outs1; out2_is = names.same_outs2 })))

pub branch_combine_refines : ValuesFit → CombinedBranchesRefine
branch_combine_refines values lanes old new can names = graph_refines lanes old new names values can

pub branch_combine_is_rule : ValuesFit → GraphIsTyped → CombiningBranchesIsRule
branch_combine_is_rule values graph lanes old new can names =
    let r = graph_refines lanes old new names values can in
    let is = old_is lanes old new names in
    record {
      old_typed = graph (branches_graph lanes old) r.old_typed;
      new_typed = graph (one_branch_graph lanes new) r.new_typed;
      ports = r.ports;
      no_through = λ p q x y f e k.
          none_through (branches_plan lanes) (old_naming lanes old new names) (apart lanes) p q x y
          (ap (λ c. c.feeder p) (sym is) ∙ f) (ap (λ c. c.kind_at p.node) (sym is) ∙ e) (ap (λ c. c.kind_at q.node) (sym is) ∙ k);
    }
