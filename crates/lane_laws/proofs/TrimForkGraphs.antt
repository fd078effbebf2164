-- The laws of a Fork with a Sink, of its graph.
use Rattle.std.proofs.Common.{◌≡◌, ℕ, zero, suc, replicate, Some, refl, sym, ap, subst, ◌∙◌}
use Rattle.std.proofs.lemmas.Option.{none-some, same_Some}
use Rattle.components.specs.declared.kind.Kind.TheVariants.{Entry, Fork}
use Rattle.components.specs.Name.{Name}
use Rattle.components.specs.Kind.{Shape}
use Rattle.circuits.specs.Values.{ValuesFit}
use Rattle.circuits.specs.Circuit.{circuit_of}
use Rattle.circuits.specs.Refines.{Refines}
use Rattle.circuits.specs.Replacing.{In, head, tail}
use Rattle.circuits.specs.Laws.{GraphIsTyped}
use Rattle.circuit_plans.specs.Plans.{Out, Naming, built}
use Rattle.circuit_plans.specs.Drawing.{DrawnWire, wire}
use Rattle.circuit_plans.specs.Places.{number, places}
use Rattle.circuit_plans.proofs.PlanTyped.{ForSome}
use Rattle.circuit_plans.proofs.NoThrough.{PlanNoThrough, none_through}
use Rattle.circuit_plans.proofs.Places.{in_places, each_at}
use Rattle.circuit_plans.proofs.Namings.{naming}
use Rattle.circuit_plans.proofs.Drawn.{Draws, drawn_is}
use Rattle.lane_laws.specs.TrimFork.{Output, other_than, CanTrim, Untrimmed, entry, fork, sink, exit, untrimmed_kind, untrimmed_nodes, untrimmed_wires, untrimmed, untrimmed_graph, Trimmed, new_entry, new_fork, new_exit, trimmed_nodes, trimmed_wires, trimmed, trimmed_graph}
use Rattle.lane_laws.specs.Laws.{TrimNames, TrimForkIsRule, TrimForkRefines}
use Rattle.lane_laws.proofs.TrimForkPlans.{untrimmed_source, untrimmed_plan, trimmed_source, trimmed_plan}
use Rattle.lane_laws.proofs.TrimFork.{trimmed_refines}

module _ (a : Shape) (others : ℕ) where
  old_in : (n : Untrimmed a others) → In n (untrimmed_nodes a others)
  old_in entry = head refl
  old_in fork = tail (head refl)
  old_in sink = tail (tail (head refl))
  old_in (exit l) = tail (tail (tail (in_places (replicate others a) exit l)))

  new_in : (n : Trimmed a others) → In n (trimmed_nodes a others)
  new_in new_entry = head refl
  new_in new_fork = tail (head refl)
  new_in (new_exit l) = tail (tail (in_places (replicate others a) new_exit l))

  module _ (s : Output a (suc others)) where
    abbrev old_lane : Output a others → DrawnWire (Untrimmed a others)
    old_lane l = wire fork (number (replicate (suc others) a) (other_than a others s l)) (exit l) 1

    abbrev OldSourced : DrawnWire (Untrimmed a others) → Type 0
    OldSourced w = untrimmed_source a others s w.target.at w.target.port ≡ Some w.source

    abbrev OldListed : Untrimmed a others → ℕ → Type 0
    OldListed n i = ForSome (untrimmed_source a others s n i) (λ q. In (record { source = q; target = record { at = n; port = i } }) (untrimmed_wires a others s))

    old_listed : (n : Untrimmed a others) (i : ℕ) → OldListed n i
    old_listed entry i = tt
    old_listed fork zero = tt
    old_listed fork (suc zero) = head refl
    old_listed fork (suc (suc i)) = tt
    old_listed sink zero = tt
    old_listed sink (suc zero) = tail (head refl)
    old_listed sink (suc (suc i)) = tt
    old_listed (exit l) zero = tt
    old_listed (exit l) (suc zero) = tail (tail (in_places (replicate others a) old_lane l))
    old_listed (exit l) (suc (suc i)) = tt

    old_draws : Draws (untrimmed a others s) (untrimmed_plan a others s)
    old_draws = record { kinds = λ n. refl; all = old_in; sound = (refl, (refl, each_at OldSourced old_lane (places (replicate others a)) (λ l. refl))); complete = old_listed }

    fork_apart : (q : Out (Untrimmed a others)) (b : Shape) → fork ≡ q.at → untrimmed_kind a others q.at ≡ Entry b → ⊥
    fork_apart q b at e = let k : Fork a (suc others) ≡ Entry b = ap (untrimmed_kind a others) at ∙ e in cc

    apart : PlanNoThrough (untrimmed_plan a others s)
    apart entry i q x y f e k = cc
    apart fork i q x y f e k = cc
    apart sink i q x y f e k = cc
    apart (exit l) zero q x y f e k = absurd (none-some q f)
    apart (exit l) (suc zero) q x y f e k = fork_apart q y (ap (λ (z : Out (Untrimmed a others)). z.at) (same_Some _ q f)) k
    apart (exit l) (suc (suc i)) q x y f e k = absurd (none-some q f)

  abbrev new_lane : Output a others → DrawnWire (Trimmed a others)
  new_lane l = wire new_fork (number (replicate others a) l) (new_exit l) 1

  abbrev NewSourced : DrawnWire (Trimmed a others) → Type 0
  NewSourced w = trimmed_source a others w.target.at w.target.port ≡ Some w.source

  abbrev NewListed : Trimmed a others → ℕ → Type 0
  NewListed n i = ForSome (trimmed_source a others n i) (λ q. In (record { source = q; target = record { at = n; port = i } }) (trimmed_wires a others))

  new_listed : (n : Trimmed a others) (i : ℕ) → NewListed n i
  new_listed new_entry i = tt
  new_listed new_fork zero = tt
  new_listed new_fork (suc zero) = head refl
  new_listed new_fork (suc (suc i)) = tt
  new_listed (new_exit l) zero = tt
  new_listed (new_exit l) (suc zero) = tail (in_places (replicate others a) new_lane l)
  new_listed (new_exit l) (suc (suc i)) = tt

  new_draws : Draws (trimmed a others) (trimmed_plan a others)
  new_draws = record { kinds = λ n. refl; all = new_in; sound = (refl, each_at NewSourced new_lane (places (replicate others a)) (λ l. refl)); complete = new_listed }

module _ (a : Shape) (others : ℕ) (s : Output a (suc others)) (old : Untrimmed a others → Name) (new : Trimmed a others → Name) (names : TrimNames a others old new) where
  abbrev old_naming : Naming (Untrimmed a others)
  old_naming = naming old (untrimmed_nodes a others) (old_in a others) names.old_names

  abbrev new_naming : Naming (Trimmed a others)
  new_naming = naming new (trimmed_nodes a others) (new_in a others) names.new_names

  old_is : circuit_of (untrimmed_graph a others s old) ≡ built (untrimmed_plan a others s) old_naming
  old_is = drawn_is (untrimmed a others s) (untrimmed_plan a others s) (old_draws a others s) old_naming names.old_names

  new_is : circuit_of (trimmed_graph a others new) ≡ built (trimmed_plan a others) new_naming
  new_is = drawn_is (trimmed a others) (trimmed_plan a others) (new_draws a others) new_naming names.new_names

  graph_refines : ValuesFit → CanTrim a others → Refines (circuit_of (trimmed_graph a others new)) (circuit_of (untrimmed_graph a others s old))
  graph_refines values can =
      subst (λ c. Refines c (circuit_of (untrimmed_graph a others s old))) (sym new_is)
      (subst (Refines (built (trimmed_plan a others) new_naming)) (sym old_is)
      (trimmed_refines a others s values can new_naming old_naming (record { entry_is = names.same_entry; exit_is = names.same_exits })))

pub trim_fork_refines : ValuesFit → TrimForkRefines
trim_fork_refines values a others s old new can names = graph_refines a others s old new names values can

pub trim_fork_is_rule : ValuesFit → GraphIsTyped → TrimForkIsRule
trim_fork_is_rule values graph a others s old new can names =
    let r = graph_refines a others s old new names values can in
    let is = old_is a others s old new names in
    record {
      old_typed = graph (untrimmed_graph a others s old) r.old_typed;
      new_typed = graph (trimmed_graph a others new) r.new_typed;
      ports = r.ports;
      no_through = λ p q x y f e k.
          none_through (untrimmed_plan a others s) (old_naming a others s old new names) (apart a others s) p q x y
          (ap (λ c. c.feeder p) (sym is) ∙ f) (ap (λ c. c.kind_at p.node) (sym is) ∙ e) (ap (λ c. c.kind_at q.node) (sym is) ∙ k);
    }
