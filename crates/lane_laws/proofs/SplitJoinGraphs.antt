-- The laws of a Split whose outputs are joined again, of its graph.
use Rattle.std.proofs.Common.{◌≡◌, ℕ, zero, suc, List, map, Option, Some, refl, sym, ap, subst, ◌∙◌}
use Rattle.std.specs.List.{concat}
use Rattle.std.proofs.lemmas.Option.{none-some, same_Some}
use Rattle.components.specs.declared.kind.Kind.TheVariants.{Entry, Join}
use Rattle.components.specs.Name.{Name, port_get}
use Rattle.components.specs.Kind.{Shape, AreParts}
use Rattle.circuits.specs.Values.{ValuesFit}
use Rattle.circuits.specs.Circuit.{circuit_of}
use Rattle.circuits.specs.Refines.{Refines}
use Rattle.circuits.specs.Replacing.{In, head, tail, NoneTwice}
use Rattle.circuits.specs.BufferRule.{straight}
use Rattle.circuits.specs.Laws.{GraphIsTyped}
use Rattle.circuit_plans.specs.Plans.{Out, Naming, built}
use Rattle.circuit_plans.specs.Drawing.{DrawnWire, wire}
use Rattle.circuit_plans.specs.Places.{Place, number, places}
use Rattle.circuit_plans.proofs.PlanTyped.{ForSome}
use Rattle.circuit_plans.proofs.NoThrough.{PlanNoThrough, none_through}
use Rattle.circuit_plans.proofs.Places.{in_places, each_at, number_item, PortOf, at, no_port, port_of}
use Rattle.circuit_plans.proofs.Namings.{naming}
use Rattle.circuit_plans.proofs.Drawn.{Draws, drawn_is}
use Rattle.lane_laws.specs.SplitJoin.{SplitJoined, entry, split, join, exit, split_joined_nodes, split_joined_wires, split_joined_kind, split_joined, split_joined_graph}
use Rattle.lane_laws.specs.Laws.{SplitJoinIsRule, SplitJoinRefines}
use Rattle.lane_laws.proofs.SplitJoinPlans.{Straight, new_entry, new_exit, split_output, split_joined_source, split_joined_plan, straight_plan, straight_source, straight_nodes, straight_drawing}
use Rattle.lane_laws.proofs.SplitJoinTyped.{straight_refines}

old_in : (n : SplitJoined) → In n split_joined_nodes
old_in entry = head refl
old_in split = tail (head refl)
old_in join = tail (tail (head refl))
old_in exit = tail (tail (tail (head refl)))

new_in : (n : Straight) → In n straight_nodes
new_in new_exit = head refl
new_in new_entry = tail (head refl)

module _ (parts : List Shape) where
  abbrev lane : Place parts → DrawnWire SplitJoined
  lane l = wire split (number parts l) join (number parts l)

  abbrev IsSourced : DrawnWire SplitJoined → Type 0
  IsSourced w = split_joined_source parts w.target.at w.target.port ≡ Some w.source

  abbrev Listed : SplitJoined → ℕ → Option (Out SplitJoined) → Type 0
  Listed n i o = ForSome o (λ q. In (record { source = q; target = record { at = n; port = i } }) (split_joined_wires parts))

  join_listed : (i : ℕ) → PortOf parts i → Listed join i (split_output i (port_get parts i))
  join_listed i (at l is) =
      subst (λ j. Listed join j (split_output j (port_get parts j))) (sym is)
      (subst (λ o. Listed join (number parts l) (split_output (number parts l) o)) (sym (number_item parts l)) (tail (tail (in_places parts lane l))))
  join_listed i (no_port e f) = subst (λ o. Listed join i (split_output i o)) (sym f) tt

  listed : (n : SplitJoined) (i : ℕ) → Listed n i (split_joined_source parts n i)
  listed entry i = tt
  listed split zero = tt
  listed split (suc zero) = head refl
  listed split (suc (suc i)) = tt
  listed join i = join_listed i (port_of parts i)
  listed exit zero = tt
  listed exit (suc zero) = tail (head refl)
  listed exit (suc (suc i)) = tt

  old_draws : Draws (split_joined parts) (split_joined_plan parts)
  old_draws = record { kinds = λ n. refl; all = old_in; sound = (refl, (refl, each_at IsSourced lane (places parts) (λ l. ap (split_output (number parts l)) (number_item parts l)))); complete = listed }

  -- no Exit is fed by an Entry
  apart : PlanNoThrough (split_joined_plan parts)
  apart entry i q a b f x e = cc
  apart split i q a b f x e = cc
  apart join i q a b f x e = cc
  apart exit zero q a b f x e = absurd (none-some q f)
  apart exit (suc zero) q a b f x e =
      let at : join ≡ q.at = ap (λ (z : Out SplitJoined). z.at) (same_Some _ q f) in
      let k : Join parts ≡ Entry b = ap (split_joined_kind parts) at ∙ e in
      cc
  apart exit (suc (suc i)) q a b f x e = absurd (none-some q f)

module _ (a : Shape) where
  new_listed : (n : Straight) (i : ℕ) → ForSome (straight_source n i) (λ q. In (record { source = q; target = record { at = n; port = i } }) (straight_drawing a).wires)
  new_listed new_entry i = tt
  new_listed new_exit zero = tt
  new_listed new_exit (suc zero) = head refl
  new_listed new_exit (suc (suc i)) = tt

  new_draws : Draws (straight_drawing a) (straight_plan a)
  new_draws = record { kinds = λ n. refl; all = new_in; sound = (refl, tt); complete = new_listed }

module _ (parts : List Shape) (name : SplitJoined → Name) (once : NoneTwice (map name split_joined_nodes)) where
  old_naming : Naming SplitJoined
  old_naming = naming name split_joined_nodes old_in once

  old_is : circuit_of (split_joined_graph parts name) ≡ built (split_joined_plan parts) old_naming
  unfolding old_naming
  old_is = drawn_is (split_joined parts) (split_joined_plan parts) (old_draws parts) old_naming once

  abbrev new_name : Straight → Name
  new_name new_exit = name exit
  new_name new_entry = name entry

  ends_once : NoneTwice (map new_name straight_nodes)
  ends_once = (((λ e. once.0.1.1.0 (sym e)), tt), (tt, tt))

  new_naming : Naming Straight
  new_naming = naming new_name straight_nodes new_in ends_once

  new_is : circuit_of (straight (name entry) (name exit) (concat parts)) ≡ built (straight_plan (concat parts)) new_naming
  unfolding new_naming
  new_is = drawn_is (straight_drawing (concat parts)) (straight_plan (concat parts)) (new_draws (concat parts)) new_naming ends_once

  graph_refines : ValuesFit → AreParts parts → Refines (circuit_of (straight (name entry) (name exit) (concat parts))) (circuit_of (split_joined_graph parts name))
  unfolding old_naming new_naming
  graph_refines values are =
      subst (λ c. Refines c (circuit_of (split_joined_graph parts name))) (sym new_is)
      (subst (Refines (built (straight_plan (concat parts)) new_naming)) (sym old_is)
      (straight_refines parts are values new_naming old_naming (record { entry_is = refl; exit_is = refl })))

pub split_join_refines : ValuesFit → SplitJoinRefines
split_join_refines values parts name are once = graph_refines parts name once values are

pub split_join_is_rule : ValuesFit → GraphIsTyped → SplitJoinIsRule
split_join_is_rule values graph parts name are once =
    let r = graph_refines parts name once values are in
    let is = old_is parts name once in
    record {
      old_typed = graph (split_joined_graph parts name) r.old_typed;
      new_typed = graph (straight (name entry) (name exit) (concat parts)) r.new_typed;
      ports = r.ports;
      no_through = λ p q a b f x e.
          none_through (split_joined_plan parts) (old_naming parts name once) (apart parts) p q a b (ap (λ c. c.feeder p) (sym is) ∙ f) (ap (λ c. c.kind_at p.node) (sym is) ∙ x) (ap (λ c. c.kind_at q.node) (sym is) ∙ e);
    }
