-- the Muxes of the lanes and the one Mux are typed, with the same ports; so the one refines the others
use Rattle.std.proofs.Common.{◌≡◌, ℕ, zero, suc, ◌+◌, ◌<◌, ◌≤◌, refl, sym, ap, subst, ◌∙◌, length, List, [], ◌∷◌, Option, Some, None, arith}
use Rattle.circuits.specs.Refines.{Refines}
use Rattle.components.specs.Kind.{Shape, ins, outs, KindOk, AreParts}
use Rattle.components.specs.Name.{port_get}
use Rattle.components.specs.declared.kind.Kind.{Kind}
use Rattle.components.specs.declared.kind.Kind.TheVariants.{Entry, Exit, Buffer, Fork}
use Rattle.circuit_plans.specs.Places.{output_at}
use Rattle.circuit_plans.specs.Plans.{from}
use Rattle.components.specs.Kind.{field}
use Rattle.lane_laws.specs.CombineMuxes.{CanCombineMuxes, Stop, into, select, Tree, Muxes, choice, node, value2, value3, mux, out, OneMux, new_choice, new_join2, new_join3, new_mux, new_split, new_value2, new_value3, new_out, muxes_kind, one_mux_kind}
use Rattle.lane_laws.proofs.MuxPlans.{led, muxes_plan, one_mux_plan, SameMuxEnds}
use Rattle.circuit_plans.proofs.Plans.{Out, Naming, built, matches_of}
use Rattle.circuit_plans.proofs.PlanTyped.{ForSome, PlanWire, PlanTyped, PlanPorts, plan_typed, plan_ports}
use Rattle.circuits.proofs.Matching.{matches_refines}
use Rattle.circuit_plans.proofs.PlanFamilies.{at_number, found}
use Rattle.circuit_plans.proofs.Places.{Place, item, number, place_at, place_number, number_item, total, in_total}
use Rattle.lane_laws.proofs.Trees.{PassesBit, passes_bit, fed_bit}
use Rattle.lane_laws.proofs.TreeFlow.{stop}
use Rattle.circuits.specs.Values.{ValuesFit}
use Rattle.lane_laws.proofs.LaneShapes.{bit_is_shape, item_shape}
use Rattle.lane_laws.proofs.CombineMuxes.{one_mux_matches}

bit_ins : (k : Kind) → PassesBit k → ins k ≡ (field 1) ∷ []
bit_ins (Buffer a) h = ap (λ z. z ∷ []) h
bit_ins (Fork a k) h = ap (λ z. z ∷ []) h
bit_ins _ h = absurd h

module _ (tree : List Kind) (lanes : List Shape) (tr : Tree tree lanes) where
  abbrev at_stop : Stop tree lanes → Out (Muxes tree lanes)
  at_stop x = record { at = stop tree lanes tr x; port = 1 }

  node_sink : (n : Place tree) (i : ℕ) (o : Option Shape) → port_get (outs (item tree n)) i ≡ o → Option (Out (Muxes tree lanes))
  node_sink n i None e = None
  node_sink n i (Some a) e = Some (at_stop (tr.outputs n i a e).0)

  abbrev old_sink : Muxes tree lanes → ℕ → Option (Out (Muxes tree lanes))
  old_sink choice (suc zero) = Some (at_stop tr.outside.0)
  old_sink (node n) i = node_sink n i (port_get (outs (item tree n)) i) refl
  old_sink (value2 l) (suc zero) = from (mux l) 2
  old_sink (value3 l) (suc zero) = from (mux l) 3
  old_sink (mux l) (suc zero) = from (out l) 1
  old_sink _ _ = None

  source_at : (x : Stop tree lanes) → (muxes_plan tree lanes tr).source (stop tree lanes tr x) 1 ≡ led (tr.source x)
  source_at (into n) = refl
  source_at (select l) = refl

  node_sink_is : (n : Place tree) (i : ℕ) (o : Option Shape) (e : port_get (outs (item tree n)) i ≡ o) → o ≡ Some (field 1) → (x : Stop tree lanes) → tr.source x ≡ Some (record { at = n; port = i }) → node_sink n i o e ≡ Some (at_stop x)
  unfolding node_sink
  node_sink_is n i None e f x h = cc
  node_sink_is n i (Some a) e f x h =
      let go = tr.outputs n i a e in
      ap (λ z. Some (at_stop z)) (tr.once go.0 x (go.1 ∙ sym h))

  stop_enters : (x : Stop tree lanes) → port_get (ins (muxes_kind tree lanes (stop tree lanes tr x))) 1 ≡ Some (field 1)
  stop_enters (into n) = ap (λ z. port_get z 1) (bit_ins (item tree n) (passes_bit tree lanes tr n))
  stop_enters (select l) = refl

  tree_wires : (x : Stop tree lanes) (o : Option (Out (Place tree))) → tr.source x ≡ o → ForSome (led o) (PlanWire (muxes_plan tree lanes tr) old_sink (stop tree lanes tr x) 1)
  tree_wires x None e = record { back = ap (λ z. Some (at_stop z)) (tr.once tr.outside.0 x (tr.outside.1 ∙ sym e)); shape = (field 1); enters = stop_enters x; leaves = refl }
  tree_wires x (Some q) e =
      record {
        back = node_sink_is q.at q.port (port_get (outs (item tree q.at)) q.port) refl (fed_bit tree lanes tr x q e) x e;
        shape = (field 1);
        enters = stop_enters x;
        leaves = fed_bit tree lanes tr x q e;
      }

  old_wires : (n : Muxes tree lanes) (i : ℕ) → ForSome ((muxes_plan tree lanes tr).source n i) (PlanWire (muxes_plan tree lanes tr) old_sink n i)
  old_wires (node n) (suc zero) = tree_wires (into n) (tr.source (into n)) refl
  old_wires (mux l) (suc zero) = tree_wires (select l) (tr.source (select l)) refl
  old_wires (mux l) (suc (suc zero)) = record { back = refl; shape = item lanes l; enters = refl; leaves = refl }
  old_wires (mux l) (suc (suc (suc zero))) = record { back = refl; shape = item lanes l; enters = refl; leaves = refl }
  old_wires (out l) (suc zero) = record { back = refl; shape = item lanes l; enters = refl; leaves = refl }
  old_wires _ _ = tt

  node_sinks : (n : Place tree) (i : ℕ) (o : Option Shape) (e : port_get (outs (item tree n)) i ≡ o) → ForSome (node_sink n i o e) (λ p. (muxes_plan tree lanes tr).source p.at p.port ≡ Some (record { at = node n; port = i }))
  unfolding node_sink
  node_sinks n i None e = tt
  node_sinks n i (Some a) e =
      let go = tr.outputs n i a e in source_at go.0 ∙ ap led go.1

  old_sinks : (n : Muxes tree lanes) (i : ℕ) → ForSome (old_sink n i) (λ p. (muxes_plan tree lanes tr).source p.at p.port ≡ Some (record { at = n; port = i }))
  old_sinks choice (suc zero) = source_at tr.outside.0 ∙ ap led tr.outside.1
  old_sinks (node n) i = node_sinks n i (port_get (outs (item tree n)) i) refl
  old_sinks (value2 l) (suc zero) = refl
  old_sinks (value3 l) (suc zero) = refl
  old_sinks (mux l) (suc zero) = refl
  old_sinks _ _ = tt

  led_some : (o : Option (Out (Place tree))) → (q : Out (Muxes tree lanes)) × (led o ≡ Some q)
  led_some None = (_, refl)
  led_some (Some q) = (_, refl)

  node_inputs : (n : Place tree) (i : ℕ) → ForSome (port_get ((field 1) ∷ []) i) (λ a. (q : Out (Muxes tree lanes)) × ((muxes_plan tree lanes tr).source (node n) i ≡ Some q))
  node_inputs n zero = tt
  node_inputs n (suc zero) = led_some (tr.source (into n))
  node_inputs n (suc (suc i)) = tt

  old_inputs : (n : Muxes tree lanes) (i : ℕ) → ForSome (port_get (ins ((muxes_plan tree lanes tr).kind n)) i) (λ a. (q : Out (Muxes tree lanes)) × ((muxes_plan tree lanes tr).source n i ≡ Some q))
  old_inputs (node n) i = subst (λ z. ForSome (port_get z i) (λ a. (q : Out (Muxes tree lanes)) × ((muxes_plan tree lanes tr).source (node n) i ≡ Some q))) (sym (bit_ins (item tree n) (passes_bit tree lanes tr n))) (node_inputs n i)
  old_inputs (mux l) (suc zero) = led_some (tr.source (select l))
  old_inputs (mux l) (suc (suc zero)) = (_, refl)
  old_inputs (mux l) (suc (suc (suc zero))) = (_, refl)
  old_inputs (out l) (suc zero) = (_, refl)
  old_inputs _ _ = tt

  node_outputs : (n : Place tree) (i : ℕ) (o : Option Shape) (e : port_get (outs (item tree n)) i ≡ o) → ForSome o (λ a. (p : Out (Muxes tree lanes)) × (node_sink n i o e ≡ Some p))
  unfolding node_sink
  node_outputs n i None e = tt
  node_outputs n i (Some a) e = (_, refl)

  old_outputs : (n : Muxes tree lanes) (i : ℕ) → ForSome (port_get (outs ((muxes_plan tree lanes tr).kind n)) i) (λ a. (p : Out (Muxes tree lanes)) × (old_sink n i ≡ Some p))
  old_outputs choice (suc zero) = (_, refl)
  old_outputs (node n) i = node_outputs n i (port_get (outs (item tree n)) i) refl
  old_outputs (value2 l) (suc zero) = (_, refl)
  old_outputs (value3 l) (suc zero) = (_, refl)
  old_outputs (mux l) (suc zero) = (_, refl)
  old_outputs _ _ = tt

  old_ok : CanCombineMuxes tree lanes → (n : Muxes tree lanes) → KindOk (muxes_kind tree lanes n)
  old_ok can choice = bit_is_shape
  old_ok can (node n) = can.nodes n
  old_ok can (value2 l) = item_shape lanes can.parts.parts l
  old_ok can (value3 l) = item_shape lanes can.parts.parts l
  old_ok can (mux l) = item_shape lanes can.parts.parts l
  old_ok can (out l) = item_shape lanes can.parts.parts l

  pub muxes_typed : CanCombineMuxes tree lanes → PlanTyped (muxes_plan tree lanes tr)
  muxes_typed can = record { kinds = old_ok can; sink = old_sink; wires = old_wires; sinks = old_sinks; inputs = old_inputs; outputs = old_outputs }

module _ (lanes : List Shape) where
  abbrev new_sink : OneMux lanes → ℕ → Option (Out (OneMux lanes))
  new_sink new_choice (suc zero) = from new_mux 1
  new_sink (new_value2 l) (suc zero) = from new_join2 (number lanes l)
  new_sink (new_value3 l) (suc zero) = from new_join3 (number lanes l)
  new_sink new_join2 (suc zero) = from new_mux 2
  new_sink new_join3 (suc zero) = from new_mux 3
  new_sink new_mux (suc zero) = from new_split 1
  new_sink new_split i = output_at new_out 1 (place_at lanes i)
  new_sink _ _ = None

  new_wires : (n : OneMux lanes) (i : ℕ) → ForSome ((one_mux_plan lanes).source n i) (PlanWire (one_mux_plan lanes) new_sink n i)
  new_wires new_join2 i =
      at_number lanes new_value2 (PlanWire (one_mux_plan lanes) new_sink new_join2 i) i
      (λ l is. record { back = ap (λ z. from new_join2 z) (sym is); shape = item lanes l; enters = ap (port_get lanes) is ∙ number_item lanes l; leaves = refl })
  new_wires new_join3 i =
      at_number lanes new_value3 (PlanWire (one_mux_plan lanes) new_sink new_join3 i) i
      (λ l is. record { back = ap (λ z. from new_join3 z) (sym is); shape = item lanes l; enters = ap (port_get lanes) is ∙ number_item lanes l; leaves = refl })
  new_wires new_mux (suc zero) = record { back = refl; shape = (field 1); enters = refl; leaves = refl }
  new_wires new_mux (suc (suc zero)) = record { back = refl; shape = _; enters = refl; leaves = refl }
  new_wires new_mux (suc (suc (suc zero))) = record { back = refl; shape = _; enters = refl; leaves = refl }
  new_wires new_split (suc zero) = record { back = refl; shape = _; enters = refl; leaves = refl }
  new_wires (new_out l) (suc zero) = record { back = ap (output_at new_out 1) (place_number lanes l); shape = item lanes l; enters = refl; leaves = number_item lanes l }
  new_wires _ _ = tt

  new_sinks : (n : OneMux lanes) (i : ℕ) → ForSome (new_sink n i) (λ p. (one_mux_plan lanes).source p.at p.port ≡ Some (record { at = n; port = i }))
  new_sinks new_choice (suc zero) = refl
  new_sinks new_join2 (suc zero) = refl
  new_sinks new_join3 (suc zero) = refl
  new_sinks new_mux (suc zero) = refl
  new_sinks new_split i = at_number lanes new_out (λ p. (one_mux_plan lanes).source p.at p.port ≡ Some (record { at = new_split; port = i })) i (λ l is. ap (λ z. from new_split z) (sym is))
  new_sinks (new_value2 l) (suc zero) = ap (output_at new_value2 1) (place_number lanes l)
  new_sinks (new_value3 l) (suc zero) = ap (output_at new_value3 1) (place_number lanes l)
  new_sinks _ _ = tt

  new_inputs : (n : OneMux lanes) (i : ℕ) → ForSome (port_get (ins ((one_mux_plan lanes).kind n)) i) (λ a. (q : Out (OneMux lanes)) × ((one_mux_plan lanes).source n i ≡ Some q))
  new_inputs new_join2 i = found lanes new_value2 i
  new_inputs new_join3 i = found lanes new_value3 i
  new_inputs new_mux (suc zero) = (_, refl)
  new_inputs new_mux (suc (suc zero)) = (_, refl)
  new_inputs new_mux (suc (suc (suc zero))) = (_, refl)
  new_inputs new_split (suc zero) = (_, refl)
  new_inputs (new_out l) (suc zero) = (_, refl)
  new_inputs _ _ = tt

  new_outputs : (n : OneMux lanes) (i : ℕ) → ForSome (port_get (outs ((one_mux_plan lanes).kind n)) i) (λ a. (p : Out (OneMux lanes)) × (new_sink n i ≡ Some p))
  new_outputs new_choice (suc zero) = (_, refl)
  new_outputs new_join2 (suc zero) = (_, refl)
  new_outputs new_join3 (suc zero) = (_, refl)
  new_outputs new_mux (suc zero) = (_, refl)
  new_outputs new_split i = found lanes new_out i
  new_outputs (new_value2 l) (suc zero) = (_, refl)
  new_outputs (new_value3 l) (suc zero) = (_, refl)
  new_outputs _ _ = tt

  new_ok : AreParts lanes → (n : OneMux lanes) → KindOk (one_mux_kind lanes n)
  new_ok are new_choice = bit_is_shape
  new_ok are new_join2 = are
  new_ok are new_join3 = are
  new_ok are new_mux = are.whole
  new_ok are new_split = are
  new_ok are (new_value2 l) = item_shape lanes are.parts l
  new_ok are (new_value3 l) = item_shape lanes are.parts l
  new_ok are (new_out l) = item_shape lanes are.parts l

  pub one_mux_typed : AreParts lanes → PlanTyped (one_mux_plan lanes)
  one_mux_typed are = record { kinds = new_ok are; sink = new_sink; wires = new_wires; sinks = new_sinks; inputs = new_inputs; outputs = new_outputs }

  -- no name is longer than all of them together
  new_size : Naming (OneMux lanes) → ℕ
  new_size x =
      1 + (length (x.name new_choice) + length (x.name new_join2) + length (x.name new_join3) + length (x.name new_mux) + length (x.name new_split) + total lanes (λ l. length (x.name (new_value2 l))) + total lanes (λ l. length (x.name (new_value3 l))) + total lanes (λ l. length (x.name (new_out l))))

  new_short : (x : Naming (OneMux lanes)) (n : OneMux lanes) → length (x.name n) < new_size x
  unfolding new_size
  new_short x new_choice = omega arith
  new_short x new_join2 = omega arith
  new_short x new_join3 = omega arith
  new_short x new_mux = omega arith
  new_short x new_split = omega arith
  new_short x (new_value2 l) = let h : length (x.name (new_value2 l)) ≤ total lanes (λ l. length (x.name (new_value2 l))) = in_total lanes (λ l. length (x.name (new_value2 l))) l in omega arith
  new_short x (new_value3 l) = let h : length (x.name (new_value3 l)) ≤ total lanes (λ l. length (x.name (new_value3 l))) = in_total lanes (λ l. length (x.name (new_value3 l))) l in omega arith
  new_short x (new_out l) = let h : length (x.name (new_out l)) ≤ total lanes (λ l. length (x.name (new_out l))) = in_total lanes (λ l. length (x.name (new_out l))) l in omega arith

module _ (tree : List Kind) (lanes : List Shape) (tr : Tree tree lanes) where
  -- an Entry and an Exit are no node of the tree
  no_entry : (k : Kind) (b : Shape) → PassesBit k → k ≡ Entry b → ⊥
  no_entry (Buffer a) b h e = cc
  no_entry (Fork a k) b h e = cc
  no_entry _ b h e = absurd h

  no_exit : (k : Kind) (b : Shape) → PassesBit k → k ≡ Exit b → ⊥
  no_exit (Buffer a) b h e = cc
  no_exit (Fork a k) b h e = cc
  no_exit _ b h e = absurd h

  module _ (hx : Naming (OneMux lanes)) (gx : Naming (Muxes tree lanes)) (same : SameMuxEnds tree lanes hx gx) where
    same_entry : (n : OneMux lanes) (b : Shape) → one_mux_kind lanes n ≡ Entry b → (m : Muxes tree lanes) × (hx.name n ≡ gx.name m) × (muxes_kind tree lanes m ≡ Entry b)
    same_entry new_choice b e = (choice, same.choice_is, e)
    same_entry (new_value2 l) b e = (value2 l, same.value2_is l, e)
    same_entry (new_value3 l) b e = (value3 l, same.value3_is l, e)
    same_entry _ b e = cc

    same_entry_back : (m : Muxes tree lanes) (b : Shape) → muxes_kind tree lanes m ≡ Entry b → (n : OneMux lanes) × (hx.name n ≡ gx.name m) × (one_mux_kind lanes n ≡ Entry b)
    same_entry_back choice b e = (new_choice, same.choice_is, e)
    same_entry_back (value2 l) b e = (new_value2 l, same.value2_is l, e)
    same_entry_back (value3 l) b e = (new_value3 l, same.value3_is l, e)
    same_entry_back (node n) b e = absurd (no_entry (item tree n) b (passes_bit tree lanes tr n) e)
    same_entry_back _ b e = cc

    same_exit : (n : OneMux lanes) (b : Shape) → one_mux_kind lanes n ≡ Exit b → (m : Muxes tree lanes) × (hx.name n ≡ gx.name m) × (muxes_kind tree lanes m ≡ Exit b)
    same_exit (new_out l) b e = (out l, same.out_is l, e)
    same_exit _ b e = cc

    same_exit_back : (m : Muxes tree lanes) (b : Shape) → muxes_kind tree lanes m ≡ Exit b → (n : OneMux lanes) × (hx.name n ≡ gx.name m) × (one_mux_kind lanes n ≡ Exit b)
    same_exit_back (out l) b e = (new_out l, same.out_is l, e)
    same_exit_back (node n) b e = absurd (no_exit (item tree n) b (passes_bit tree lanes tr n) e)
    same_exit_back _ b e = cc

    ports : PlanPorts (one_mux_plan lanes) (muxes_plan tree lanes tr) hx gx
    ports = record { entry = same_entry; entry_back = same_entry_back; exit = same_exit; exit_back = same_exit_back }

  old_size : Naming (Muxes tree lanes) → ℕ
  old_size x =
      1 + (length (x.name choice) + total tree (λ n. length (x.name (node n))) + total lanes (λ l. length (x.name (value2 l))) + total lanes (λ l. length (x.name (value3 l))) + total lanes (λ l. length (x.name (mux l))) + total lanes (λ l. length (x.name (out l))))

  old_short : (x : Naming (Muxes tree lanes)) (n : Muxes tree lanes) → length (x.name n) < old_size x
  unfolding old_size
  old_short x choice = omega arith
  old_short x (node n) = let h : length (x.name (node n)) ≤ total tree (λ n. length (x.name (node n))) = in_total tree (λ n. length (x.name (node n))) n in omega arith
  old_short x (value2 l) = let h : length (x.name (value2 l)) ≤ total lanes (λ l. length (x.name (value2 l))) = in_total lanes (λ l. length (x.name (value2 l))) l in omega arith
  old_short x (value3 l) = let h : length (x.name (value3 l)) ≤ total lanes (λ l. length (x.name (value3 l))) = in_total lanes (λ l. length (x.name (value3 l))) l in omega arith
  old_short x (mux l) = let h : length (x.name (mux l)) ≤ total lanes (λ l. length (x.name (mux l))) = in_total lanes (λ l. length (x.name (mux l))) l in omega arith
  old_short x (out l) = let h : length (x.name (out l)) ≤ total lanes (λ l. length (x.name (out l))) = in_total lanes (λ l. length (x.name (out l))) l in omega arith

  pub one_mux_refines : ValuesFit → CanCombineMuxes tree lanes → (hx : Naming (OneMux lanes)) (gx : Naming (Muxes tree lanes)) → SameMuxEnds tree lanes hx gx → Refines (built (one_mux_plan lanes) hx) (built (muxes_plan tree lanes tr) gx)
  one_mux_refines values can hx gx same =
      matches_refines values (built (one_mux_plan lanes) hx) (built (muxes_plan tree lanes tr) gx)
      (plan_typed (one_mux_plan lanes) hx (one_mux_typed lanes can.parts) (new_size lanes hx) (new_short lanes hx))
      (plan_typed (muxes_plan tree lanes tr) gx (muxes_typed tree lanes tr can) (old_size gx) (old_short gx))
      (plan_ports (one_mux_plan lanes) (muxes_plan tree lanes tr) hx gx (ports hx gx same))
      (matches_of (one_mux_plan lanes) (muxes_plan tree lanes tr) hx gx (one_mux_matches tree lanes tr hx gx same))
