-- The law of the Muxes of several lanes, of their graph.
use Rattle.std.proofs.Common.{◌≡◌, ℕ, zero, suc, List, ◌++◌, map, Option, Some, None, refl, sym, ap, subst, ◌∙◌}
use Rattle.std.specs.List.{AllByRecursion}
use Rattle.std.proofs.lemmas.Option.{none-some, same_Some}
use Rattle.components.specs.declared.kind.Kind.{Kind}
use Rattle.components.specs.declared.kind.Kind.TheVariants.{Entry, Exit, Buffer, Fork}
use Rattle.components.specs.Name.{Name}
use Rattle.components.specs.Kind.{Shape}
use Rattle.circuits.specs.Root.{PassesThrough}
use Rattle.circuits.specs.Values.{ValuesFit}
use Rattle.circuits.specs.Circuit.{circuit_of}
use Rattle.circuits.specs.Refines.{Refines}
use Rattle.circuits.specs.Replacing.{In, head, tail, NoneTwice}
use Rattle.circuits.specs.Laws.{GraphIsTyped}
use Rattle.circuit_plans.specs.Plans.{Out, Naming, built}
use Rattle.circuit_plans.specs.Drawing.{DrawnWire, wire}
use Rattle.circuit_plans.specs.Places.{Place, item, number, place_at, places, each_of, output_at}
use Rattle.circuit_plans.proofs.PlanTyped.{ForSome}
use Rattle.circuit_plans.proofs.NoThrough.{PlanNoThrough, none_through}
use Rattle.circuit_plans.proofs.Places.{PortOf, at, no_port, port_of, place_number, in_places, in_front, in_back, each_at, each_both}
use Rattle.circuit_plans.proofs.Namings.{naming}
use Rattle.circuit_plans.proofs.Drawn.{Draws, drawn_is}
use Rattle.lane_laws.specs.CombineMuxes.{into, select, Tree, Muxes, choice, node, value2, value3, mux, out, leader, muxes_kind, muxes_nodes, muxes_wires, muxes, muxes_graph, OneMux, new_choice, new_join2, new_join3, new_mux, new_split, new_value2, new_value3, new_out, one_mux_nodes, one_mux_wires, one_mux, one_mux_graph, CanCombineMuxes, MuxNames}
use Rattle.lane_laws.specs.Laws.{CombiningMuxesIsRule, CombinedMuxesRefine}
use Rattle.lane_laws.proofs.MuxPlans.{led, muxes_source, muxes_plan, one_mux_source, one_mux_plan}
use Rattle.lane_laws.proofs.CombineMuxesTyped.{one_mux_refines}

-- what stands in the first of two lists, which is a family, or in the second
module _ {A N : Type 0} (xs : List A) (f : Place xs → N) (rest : List N) where
  pub here : (l : Place xs) → In (f l) (each_of xs f ++ rest)
  here l = in_front (each_of xs f) rest (f l) (in_places xs f l)

  pub there : (n : N) → In n rest → In n (each_of xs f ++ rest)
  there n i = in_back (each_of xs f) rest n i

module _ (kinds : List Kind) (lanes : List Shape) (tree : Tree kinds lanes) where
  abbrev old_mux : List (Muxes kinds lanes)
  old_mux = each_of lanes mux ++ each_of lanes out

  abbrev old_value3 : List (Muxes kinds lanes)
  old_value3 = each_of lanes value3 ++ old_mux

  abbrev old_value2 : List (Muxes kinds lanes)
  old_value2 = each_of lanes value2 ++ old_value3

  abbrev pub old_in : (n : Muxes kinds lanes) → In n (muxes_nodes kinds lanes)
  old_in choice = head refl
  old_in (node n) = tail (here kinds node old_value2 n)
  old_in (value2 l) = tail (there kinds node old_value2 (value2 l) (here lanes value2 old_value3 l))
  old_in (value3 l) = tail (there kinds node old_value2 (value3 l) (there lanes value2 old_value3 (value3 l) (here lanes value3 old_mux l)))
  old_in (mux l) =
      tail (there kinds node old_value2 (mux l) (there lanes value2 old_value3 (mux l) (there lanes value3 old_mux (mux l) (here lanes mux (each_of lanes out) l))))
  old_in (out l) =
      tail (there kinds node old_value2 (out l) (there lanes value2 old_value3 (out l) (there lanes value3 old_mux (out l)
      (there lanes mux (each_of lanes out) (out l) (in_places lanes out l)))))

  led_is : (o : Option (Out (Place kinds))) → led {kinds = kinds} {lanes = lanes} o ≡ Some (leader o)
  led_is None = refl
  led_is (Some q) = refl

  -- the wires of each node of the tree and of each lane

  abbrev node_wire : Place kinds → DrawnWire (Muxes kinds lanes)
  node_wire n = record { source = leader (tree.source (into n)); target = record { at = node n; port = 1 } }

  abbrev select_wire : Place lanes → DrawnWire (Muxes kinds lanes)
  select_wire l = record { source = leader (tree.source (select l)); target = record { at = mux l; port = 1 } }

  abbrev value2_wire : Place lanes → DrawnWire (Muxes kinds lanes)
  value2_wire l = wire (value2 l) 1 (mux l) 2

  abbrev value3_wire : Place lanes → DrawnWire (Muxes kinds lanes)
  value3_wire l = wire (value3 l) 1 (mux l) 3

  abbrev out_wire : Place lanes → DrawnWire (Muxes kinds lanes)
  out_wire l = wire (mux l) 1 (out l) 1

  abbrev after_value2 : List (DrawnWire (Muxes kinds lanes))
  after_value2 = each_of lanes value3_wire ++ each_of lanes out_wire

  abbrev after_select : List (DrawnWire (Muxes kinds lanes))
  after_select = each_of lanes value2_wire ++ after_value2

  abbrev after_nodes : List (DrawnWire (Muxes kinds lanes))
  after_nodes = each_of lanes select_wire ++ after_select

  abbrev OldListed : Muxes kinds lanes → ℕ → Option (Out (Muxes kinds lanes)) → Type 0
  OldListed n i o = ForSome o (λ q. In (record { source = q; target = record { at = n; port = i } }) (muxes_wires kinds lanes tree))

  old_listed : (n : Muxes kinds lanes) (i : ℕ) → OldListed n i (muxes_source kinds lanes tree n i)
  old_listed choice i = tt
  old_listed (node n) zero = tt
  old_listed (node n) (suc zero) = subst (OldListed (node n) 1) (sym (led_is (tree.source (into n)))) (here kinds node_wire after_nodes n)
  old_listed (node n) (suc (suc i)) = tt
  old_listed (value2 l) i = tt
  old_listed (value3 l) i = tt
  old_listed (mux l) zero = tt
  old_listed (mux l) (suc zero) =
      subst (OldListed (mux l) 1) (sym (led_is (tree.source (select l)))) (there kinds node_wire after_nodes (select_wire l) (here lanes select_wire after_select l))
  old_listed (mux l) (suc (suc zero)) =
      there kinds node_wire after_nodes (value2_wire l) (there lanes select_wire after_select (value2_wire l) (here lanes value2_wire after_value2 l))
  old_listed (mux l) (suc (suc (suc zero))) =
      there kinds node_wire after_nodes (value3_wire l) (there lanes select_wire after_select (value3_wire l)
      (there lanes value2_wire after_value2 (value3_wire l) (here lanes value3_wire (each_of lanes out_wire) l)))
  old_listed (mux l) (suc (suc (suc (suc i)))) = tt
  old_listed (out l) zero = tt
  old_listed (out l) (suc zero) =
      there kinds node_wire after_nodes (out_wire l) (there lanes select_wire after_select (out_wire l)
      (there lanes value2_wire after_value2 (out_wire l) (there lanes value3_wire (each_of lanes out_wire) (out_wire l) (in_places lanes out_wire l))))
  old_listed (out l) (suc (suc i)) = tt

  abbrev OldSourced : DrawnWire (Muxes kinds lanes) → Type 0
  OldSourced w = muxes_source kinds lanes tree w.target.at w.target.port ≡ Some w.source

  old_sound : AllByRecursion OldSourced (muxes_wires kinds lanes tree)
  old_sound =
      each_both OldSourced (each_of kinds node_wire) after_nodes (each_at OldSourced node_wire (places kinds) (λ n. led_is (tree.source (into n))))
      (each_both OldSourced (each_of lanes select_wire) after_select (each_at OldSourced select_wire (places lanes) (λ l. led_is (tree.source (select l))))
      (each_both OldSourced (each_of lanes value2_wire) after_value2 (each_at OldSourced value2_wire (places lanes) (λ l. refl))
      (each_both OldSourced (each_of lanes value3_wire) (each_of lanes out_wire) (each_at OldSourced value3_wire (places lanes) (λ l. refl))
      (each_at OldSourced out_wire (places lanes) (λ l. refl)))))

  old_draws : Draws (muxes kinds lanes tree) (muxes_plan kinds lanes tree)
  old_draws = record { kinds = λ n. refl; all = old_in; sound = old_sound; complete = old_listed }

  -- no Exit is fed by an Entry
  mux_apart : (l : Place lanes) (q : Out (Muxes kinds lanes)) (b : Shape) → mux l ≡ q.at → muxes_kind kinds lanes q.at ≡ Entry b → ⊥
  mux_apart l q b is e = let k : muxes_kind kinds lanes (mux l) ≡ Entry b = ap (muxes_kind kinds lanes) is ∙ e in cc

  no_exit : (k : Kind) (a : Shape) → PassesThrough k → k ≡ Exit a → ⊥
  no_exit (Buffer s) a h e = cc
  no_exit (Fork s n) a h e = cc
  no_exit _ a h e = absurd h

  apart : PlanNoThrough (muxes_plan kinds lanes tree)
  apart choice i q x y f e k = cc
  apart (node n) i q x y f e k = no_exit (item kinds n) x (tree.passes n) e
  apart (value2 l) i q x y f e k = cc
  apart (value3 l) i q x y f e k = cc
  apart (mux l) i q x y f e k = cc
  apart (out l) zero q x y f e k = absurd (none-some q f)
  apart (out l) (suc zero) q x y f e k = mux_apart l q y (ap (λ (z : Out (Muxes kinds lanes)). z.at) (same_Some _ q f)) k
  apart (out l) (suc (suc i)) q x y f e k = absurd (none-some q f)

module _ (lanes : List Shape) where
  abbrev new_value3s : List (OneMux lanes)
  new_value3s = each_of lanes new_value3 ++ each_of lanes new_out

  abbrev new_in : (n : OneMux lanes) → In n (one_mux_nodes lanes)
  new_in new_choice = head refl
  new_in new_join2 = tail (head refl)
  new_in new_join3 = tail (tail (head refl))
  new_in new_mux = tail (tail (tail (head refl)))
  new_in new_split = tail (tail (tail (tail (head refl))))
  new_in (new_value2 l) = tail (tail (tail (tail (tail (here lanes new_value2 new_value3s l)))))
  new_in (new_value3 l) = tail (tail (tail (tail (tail (there lanes new_value2 new_value3s (new_value3 l) (here lanes new_value3 (each_of lanes new_out) l))))))
  new_in (new_out l) =
      tail (tail (tail (tail (tail (there lanes new_value2 new_value3s (new_out l) (there lanes new_value3 (each_of lanes new_out) (new_out l) (in_places lanes new_out l)))))))

  abbrev join2_wire : Place lanes → DrawnWire (OneMux lanes)
  join2_wire l = wire (new_value2 l) 1 new_join2 (number lanes l)

  abbrev join3_wire : Place lanes → DrawnWire (OneMux lanes)
  join3_wire l = wire (new_value3 l) 1 new_join3 (number lanes l)

  abbrev split_wire : Place lanes → DrawnWire (OneMux lanes)
  split_wire l = wire new_split (number lanes l) (new_out l) 1

  abbrev after_join2 : List (DrawnWire (OneMux lanes))
  after_join2 = each_of lanes join3_wire ++ each_of lanes split_wire

  abbrev NewListed : OneMux lanes → ℕ → Option (Out (OneMux lanes)) → Type 0
  NewListed n i o = ForSome o (λ q. In (record { source = q; target = record { at = n; port = i } }) (one_mux_wires lanes))

  join2_listed : (i : ℕ) → PortOf lanes i → NewListed new_join2 i (output_at new_value2 1 (place_at lanes i))
  join2_listed i (at l is) =
      subst (λ j. NewListed new_join2 j (output_at new_value2 1 (place_at lanes j))) (sym is)
      (subst (λ o. NewListed new_join2 (number lanes l) (output_at new_value2 1 o)) (sym (place_number lanes l)) (tail (tail (tail (tail (here lanes join2_wire after_join2 l))))))
  join2_listed i (no_port e f) = subst (λ o. NewListed new_join2 i (output_at new_value2 1 o)) (sym e) tt

  join3_listed : (i : ℕ) → PortOf lanes i → NewListed new_join3 i (output_at new_value3 1 (place_at lanes i))
  join3_listed i (at l is) =
      subst (λ j. NewListed new_join3 j (output_at new_value3 1 (place_at lanes j))) (sym is)
      (subst (λ o. NewListed new_join3 (number lanes l) (output_at new_value3 1 o)) (sym (place_number lanes l))
      (tail (tail (tail (tail (there lanes join2_wire after_join2 (join3_wire l) (here lanes join3_wire (each_of lanes split_wire) l)))))))
  join3_listed i (no_port e f) = subst (λ o. NewListed new_join3 i (output_at new_value3 1 o)) (sym e) tt

  new_listed : (n : OneMux lanes) (i : ℕ) → NewListed n i (one_mux_source lanes n i)
  new_listed new_choice i = tt
  new_listed new_join2 i = join2_listed i (port_of lanes i)
  new_listed new_join3 i = join3_listed i (port_of lanes i)
  new_listed new_mux zero = tt
  new_listed new_mux (suc zero) = head refl
  new_listed new_mux (suc (suc zero)) = tail (head refl)
  new_listed new_mux (suc (suc (suc zero))) = tail (tail (head refl))
  new_listed new_mux (suc (suc (suc (suc i)))) = tt
  new_listed new_split zero = tt
  new_listed new_split (suc zero) = tail (tail (tail (head refl)))
  new_listed new_split (suc (suc i)) = tt
  new_listed (new_value2 l) i = tt
  new_listed (new_value3 l) i = tt
  new_listed (new_out l) zero = tt
  new_listed (new_out l) (suc zero) =
      tail (tail (tail (tail (there lanes join2_wire after_join2 (split_wire l) (there lanes join3_wire (each_of lanes split_wire) (split_wire l) (in_places lanes split_wire l))))))
  new_listed (new_out l) (suc (suc i)) = tt

  abbrev NewSourced : DrawnWire (OneMux lanes) → Type 0
  NewSourced w = one_mux_source lanes w.target.at w.target.port ≡ Some w.source

  lanes_sound : AllByRecursion NewSourced (each_of lanes join2_wire ++ after_join2)
  lanes_sound =
      each_both NewSourced (each_of lanes join2_wire) after_join2 (each_at NewSourced join2_wire (places lanes) (λ l. ap (output_at new_value2 1) (place_number lanes l)))
      (each_both NewSourced (each_of lanes join3_wire) (each_of lanes split_wire) (each_at NewSourced join3_wire (places lanes) (λ l. ap (output_at new_value3 1) (place_number lanes l)))
      (each_at NewSourced split_wire (places lanes) (λ l. refl)))

  new_draws : Draws (one_mux lanes) (one_mux_plan lanes)
  new_draws = record { kinds = λ n. refl; all = new_in; sound = (refl, (refl, (refl, (refl, lanes_sound)))); complete = new_listed }

module _ (kinds : List Kind) (lanes : List Shape) (tree : Tree kinds lanes) (name : Muxes kinds lanes → Name) (once : NoneTwice (map name (muxes_nodes kinds lanes))) where
  abbrev pub muxes_naming : Naming (Muxes kinds lanes)
  muxes_naming = naming name (muxes_nodes kinds lanes) (old_in kinds lanes tree) once

  pub muxes_are : circuit_of (muxes_graph kinds lanes tree name) ≡ built (muxes_plan kinds lanes tree) muxes_naming
  muxes_are = drawn_is (muxes kinds lanes tree) (muxes_plan kinds lanes tree) (old_draws kinds lanes tree) muxes_naming once

module _ (kinds : List Kind) (lanes : List Shape) (tree : Tree kinds lanes) (old : Muxes kinds lanes → Name) (new : OneMux lanes → Name) (names : MuxNames kinds lanes old new) where
  abbrev old_naming : Naming (Muxes kinds lanes)
  old_naming = muxes_naming kinds lanes tree old names.old_names

  abbrev new_naming : Naming (OneMux lanes)
  new_naming = naming new (one_mux_nodes lanes) (new_in lanes) names.new_names

  old_is : circuit_of (muxes_graph kinds lanes tree old) ≡ built (muxes_plan kinds lanes tree) old_naming
  old_is = muxes_are kinds lanes tree old names.old_names

  new_is : circuit_of (one_mux_graph lanes new) ≡ built (one_mux_plan lanes) new_naming
  new_is = drawn_is (one_mux lanes) (one_mux_plan lanes) (new_draws lanes) new_naming names.new_names

  graph_refines : ValuesFit → CanCombineMuxes kinds lanes → Refines (circuit_of (one_mux_graph lanes new)) (circuit_of (muxes_graph kinds lanes tree old))
  graph_refines values can =
      subst (λ c. Refines c (circuit_of (muxes_graph kinds lanes tree old))) (sym new_is)
      (subst (Refines (built (one_mux_plan lanes) new_naming)) (sym old_is)
      (one_mux_refines kinds lanes tree values can new_naming old_naming
      (record { choice_is = names.same_choice; value2_is = names.same_values2; value3_is = names.same_values3; out_is = names.same_outs })))

pub mux_combine_refines : ValuesFit → CombinedMuxesRefine
mux_combine_refines values kinds lanes tree old new can names = graph_refines kinds lanes tree old new names values can

pub mux_combine_is_rule : ValuesFit → GraphIsTyped → CombiningMuxesIsRule
mux_combine_is_rule values graph kinds lanes tree old new can names =
    let r = graph_refines kinds lanes tree old new names values can in
    let is = old_is kinds lanes tree old new names in
    record {
      old_typed = graph (muxes_graph kinds lanes tree old) r.old_typed;
      new_typed = graph (one_mux_graph lanes new) r.new_typed;
      ports = r.ports;
      no_through = λ p q x y f e k.
          none_through (muxes_plan kinds lanes tree) (old_naming kinds lanes tree old new names) (apart kinds lanes tree) p q x y
          (ap (λ c. c.feeder p) (sym is) ∙ f) (ap (λ c. c.kind_at p.node) (sym is) ∙ e) (ap (λ c. c.kind_at q.node) (sym is) ∙ k);
    }
