-- a Fork without the output that feeds a Sink refines the two
use Rattle.std.proofs.Common.{◌≡◌, ℕ, zero, suc, ◌+◌, ◌<◌, ◌≤◌, refl, sym, ap, ◌∙◌, true, false, Bool, if◌then◌else◌, length, replicate, List, [], ◌∷◌, ◌++◌, Option, Some, None, arith, append-nil}
use Rattle.circuits.specs.Firing.{Label.Feed, Label.Take, Label.Fire}
use Rattle.circuits.specs.PortTokens.{Token, at_port, one}
use Rattle.circuits.specs.Refines.{Refines}
use Rattle.components.specs.Kind.{Shape, ins, outs, KindOk}
use Rattle.components.specs.Name.{port_get}
use Rattle.components.specs.declared.kind.Kind.TheVariants.{Entry, Exit}
use Rattle.circuit_plans.specs.Places.{output_at}
use Rattle.circuit_plans.specs.Plans.{from}
use Rattle.circuits.specs.Values.{ValuesFit}
use Rattle.lane_laws.specs.TrimFork.{Output, other_than, CanTrim, Untrimmed, entry, fork, sink, exit, Trimmed, new_entry, new_fork, new_exit, untrimmed_kind, trimmed_kind}
use Rattle.lane_laws.proofs.TrimForkPlans.{untrimmed_plan, trimmed_plan, SameForkEnds}
use Rattle.circuit_plans.proofs.Plans.{Out, Plan, Held, PlanStep, PlanInner, rest, fires, PlanFits, Naming, PlanMatches, built, matches_of}
use Rattle.circuit_plans.proofs.PlanAfter.{after, do_step, pop1, pop1_takes}
use Rattle.circuit_plans.proofs.PlanMoves.{still, took, gave}
use Rattle.circuit_plans.proofs.PlanTyped.{ForSome, PlanWire, PlanTyped, PlanPorts, plan_typed, plan_ports}
use Rattle.circuits.proofs.Matching.{matches_refines}
use Rattle.circuit_plans.proofs.PlanFamilies.{at_number, found}
use Rattle.circuit_plans.proofs.Places.{first, later, later_of, item, number, place_at, place_number, number_item, same_place, same_place_is, same_place_self, PortOf, at, no_port, port_of, total, in_total, for_is, for_none}

-- the outputs of a Fork
item_same : (a : Shape) (count : ℕ) (l : Output a count) → item (replicate count a) l ≡ a
item_same a zero l = elim l [ ]
item_same a (suc count) first = refl
item_same a (suc count) (later l) = item_same a count l

port_same : (a : Shape) (count : ℕ) (l : Output a count) → port_get (replicate count a) (number (replicate count a) l) ≡ Some a
port_same a count l = number_item (replicate count a) l ∙ ap Some (item_same a count l)

given_same : (a : Shape) (count : ℕ) (v : Token) (l : Output a count) → at_port (replicate count (one v)) (number (replicate count a) l) ≡ one v
given_same a zero v l = elim l [ ]
given_same a (suc count) v first = refl
given_same a (suc count) v (later l) = given_same a count v l

-- an output is s, or another one
abbrev which_other : (a : Shape) (others : ℕ) → Output a (suc others) → Output a (suc others) → Option (Output a others)
which_other a zero s l = None
which_other a (suc others) first first = None
which_other a (suc others) first (later l) = Some l
which_other a (suc others) (later s) first = Some first
which_other a (suc others) (later s) (later l) = later_of (which_other a others s l)

which_self : (a : Shape) (others : ℕ) (s : Output a (suc others)) → which_other a others s s ≡ None
which_self a zero s = refl
which_self a (suc others) first = refl
which_self a (suc others) (later s) = ap later_of (which_self a others s)

which_kept : (a : Shape) (others : ℕ) (s : Output a (suc others)) (l : Output a others) → which_other a others s (other_than a others s l) ≡ Some l
which_kept a zero s l = elim l [ ]
which_kept a (suc others) first l = refl
which_kept a (suc others) (later s) first = refl
which_kept a (suc others) (later s) (later l) = ap later_of (which_kept a others s l)

data Which (a : Shape) (others : ℕ) (s l : Output a (suc others)) : Type 0 where
  is_sink : which_other a others s l ≡ None → l ≡ s → Which a others s l
  is_other : (k : Output a others) → which_other a others s l ≡ Some k → l ≡ other_than a others s k → Which a others s l

which_later : (a : Shape) (others : ℕ) (s l : Output a (suc others)) → Which a others s l → Which a (suc others) (later s) (later l)
which_later a others s l (is_sink e f) = is_sink (ap later_of e) (ap later f)
which_later a others s l (is_other k e f) = is_other (later k) (ap later_of e) (ap later f)

only_one : (a : Shape) (l s : Output a 1) → l ≡ s
only_one a first first = refl
only_one a first (later s) = elim s [ ]
only_one a (later l) s = elim l [ ]

which : (a : Shape) (others : ℕ) (s l : Output a (suc others)) → Which a others s l
which a zero s l = is_sink refl (only_one a l s)
which a (suc others) first first = is_sink refl refl
which a (suc others) first (later l) = is_other l refl refl
which a (suc others) (later s) first = is_other first refl refl
which a (suc others) (later s) (later l) = which_later a others s l (which a others s l)

module _ (a : Shape) (others : ℕ) (s : Output a (suc others)) where
  abbrev old : Plan (Untrimmed a others)
  old = untrimmed_plan a others s

  abbrev new : Plan (Trimmed a others)
  new = trimmed_plan a others

  -- what the old Sink's wire holds does not matter
  record Related (h : Held (Trimmed a others)) (t : Held (Untrimmed a others)) : Type 0 where
    enters : t.wires fork 1 ≡ h.wires new_fork 1
    leaves : (l : Output a others) → t.wires (exit l) 1 ≡ h.wires (new_exit l) 1

  module _ (h : Held (Trimmed a others)) (t : Held (Untrimmed a others)) (u : Held (Trimmed a others)) (r : Related h t) where
    feed : (v : Token) → PlanStep new h new_entry (Feed v) u → (w : Held (Untrimmed a others)) × PlanStep old t entry (Feed v) w × Related u w
    feed v st =
        let (fit, et, eg, en) = st.acts in (
          after old t entry (t.wires entry) (one v ∷ []) (t.slots entry),
          do_step old t entry (Feed v) [] (one v ∷ []) (t.slots entry) (t.wires entry) (fit, refl, refl, refl) (λ i. refl),
          record {
            enters = ap (λ z. z ++ one v) r.enters ∙ sym (gave new h new_entry (Feed v) u st new_fork 1 (one v) refl (ap (λ z. at_port z 1) eg));
            leaves = λ l. append-nil (t.wires (exit l) 1) ∙ r.leaves l ∙ sym (still new h new_entry (Feed v) u st (new_exit l) 1 refl refl);
          },
        )

    left_at : (k l : Output a others) (v : Token) → (same_place (replicate others a) l k ≡ false → u.wires (new_exit l) 1 ≡ h.wires (new_exit l) 1) → (b : Bool) → same_place (replicate others a) l k ≡ b → (if b then u.wires (new_exit k) 1 else t.wires (exit l) 1) ++ [] ≡ u.wires (new_exit l) 1
    left_at k l v kept true e = append-nil (u.wires (new_exit k) 1) ∙ ap (λ z. u.wires (new_exit z) 1) (sym (same_place_is (replicate others a) l k e))
    left_at k l v kept false e = append-nil (t.wires (exit l) 1) ∙ r.leaves l ∙ sym (kept e)

    take : (k : Output a others) (v : Token) → PlanStep new h (new_exit k) (Take v) u → (w : Held (Untrimmed a others)) × PlanStep old t (exit k) (Take v) w × Related u w
    take k v st =
        let (et, eg, en) = st.acts in
        let head : h.wires (new_exit k) 1 ≡ v ∷ u.wires (new_exit k) 1 =
        took new h (new_exit k) (Take v) u st (new_exit k) 1 (one v) (λ j. if same_place_self (replicate others a) k j then at_port (et j) 1 else []) refl in (
          after old t (exit k) (pop1 (t.wires (exit k)) (u.wires (new_exit k) 1)) [] (t.slots (exit k)),
          do_step old t (exit k) (Take v) (one v ∷ []) [] (t.slots (exit k)) (pop1 (t.wires (exit k)) (u.wires (new_exit k) 1)) (refl, refl, refl) (pop1_takes (t.wires (exit k)) v (u.wires (new_exit k) 1) (r.leaves k ∙ head)),
          record {
            enters = append-nil (t.wires fork 1) ∙ r.enters ∙ sym (still new h (new_exit k) (Take v) u st new_fork 1 refl refl);
            leaves = λ l. left_at k l v (λ e. still new h (new_exit k) (Take v) u st (new_exit l) 1 (ap (λ z. if z then at_port st.taken 1 else []) e) refl) (same_place (replicate others a) l k) refl;
          },
        )

    fire : (c : ℕ) → PlanStep new h new_fork (Fire c) u → (w : Held (Untrimmed a others)) × PlanInner old w t × Related u w
    fire c st =
        let (v, ec, et, eg, en) = st.acts in
        let head : h.wires new_fork 1 ≡ v ∷ u.wires new_fork 1 = took new h new_fork (Fire c) u st new_fork 1 (one v) (ap (λ z. at_port z 1) et) refl in
        let copies : List (List Token) = replicate (suc others) (one v) in
        let w : Held (Untrimmed a others) = after old t fork (pop1 (t.wires fork) (u.wires new_fork 1)) copies (t.slots fork) in
        let st2 : PlanStep old t fork (Fire 0) w =
        do_step old t fork (Fire 0) (one v ∷ []) copies (t.slots fork) (pop1 (t.wires fork) (u.wires new_fork 1)) (v, refl, refl, refl, refl) (pop1_takes (t.wires fork) v (u.wires new_fork 1) (r.enters ∙ head)) in (
          w,
          fires fork 0 w st2 rest,
          record {
            enters = append-nil (u.wires new_fork 1);
            leaves = λ l.
                (λ j. r.leaves l j ++ given_same a (suc others) v (other_than a others s l) j)
                ∙ sym (gave new h new_fork (Fire c) u st (new_exit l) 1 (one v) refl (ap (λ z. at_port z (number (replicate others a) l)) eg ∙ given_same a others v l));
          },
        )

  module _ (hx : Naming (Trimmed a others)) (gx : Naming (Untrimmed a others)) (same : SameForkEnds a others hx gx) where
    all_feeds : (h : Held (Trimmed a others)) (t : Held (Untrimmed a others)) (u : Held (Trimmed a others)) (n : Trimmed a others) (v : Token) → Related h t → PlanStep new h n (Feed v) u → (m : Untrimmed a others) × (hx.name n ≡ gx.name m) × (w : Held (Untrimmed a others)) × PlanStep old t m (Feed v) w × Related u w
    all_feeds h t u new_entry v r st = let (w, st2, r2) = feed h t u r v st in (entry, same.entry_is, w, st2, r2)
    all_feeds h t u _ v r st = absurd st.acts

    all_takes : (h : Held (Trimmed a others)) (t : Held (Untrimmed a others)) (u : Held (Trimmed a others)) (n : Trimmed a others) (v : Token) → PlanFits old t → Related h t → PlanStep new h n (Take v) u → (m : Untrimmed a others) × (hx.name n ≡ gx.name m) × (y w : Held (Untrimmed a others)) × PlanInner old y t × PlanStep old y m (Take v) w × Related u w
    all_takes h t u (new_exit l) v fits r st = let (w, st2, r2) = take h t u r l v st in (exit l, same.exit_is l, t, w, rest, st2, r2)
    all_takes h t u _ v fits r st = absurd st.acts

    all_fires : (h : Held (Trimmed a others)) (t : Held (Untrimmed a others)) (u : Held (Trimmed a others)) (n : Trimmed a others) (c : ℕ) → PlanFits old t → Related h t → PlanStep new h n (Fire c) u → (w : Held (Untrimmed a others)) × PlanInner old w t × Related u w
    all_fires h t u new_fork c fits r st = fire h t u r c st
    all_fires h t u _ c fits r st = absurd st.acts

    trimmed_matches : PlanMatches new old hx gx
    trimmed_matches = record { R = Related; begins = record { enters = refl; leaves = λ l. refl }; feeds = all_feeds; takes = all_takes; fires = all_fires }

  -- both are typed
  abbrev consumer : Option (Output a others) → Out (Untrimmed a others)
  consumer None = record { at = sink; port = 1 }
  consumer (Some k) = record { at = exit k; port = 1 }

  abbrev fork_sink : Option (Output a (suc others)) → Option (Out (Untrimmed a others))
  fork_sink None = None
  fork_sink (Some l) = Some (consumer (which_other a others s l))

  abbrev old_sink : Untrimmed a others → ℕ → Option (Out (Untrimmed a others))
  old_sink entry (suc zero) = from fork 1
  old_sink fork i = fork_sink (place_at (replicate (suc others) a) i)
  old_sink _ _ = None

  old_wires : (n : Untrimmed a others) (i : ℕ) → ForSome (old.source n i) (PlanWire old old_sink n i)
  old_wires fork (suc zero) = record { back = refl; shape = a; enters = refl; leaves = refl }
  old_wires sink (suc zero) =
      record {
        back = ap fork_sink (place_number (replicate (suc others) a) s) ∙ ap (λ z. Some (consumer z)) (which_self a others s);
        shape = a;
        enters = refl;
        leaves = port_same a (suc others) s;
      }
  old_wires (exit l) (suc zero) =
      record {
        back = ap fork_sink (place_number (replicate (suc others) a) (other_than a others s l)) ∙ ap (λ z. Some (consumer z)) (which_kept a others s l);
        shape = a;
        enters = refl;
        leaves = port_same a (suc others) (other_than a others s l);
      }
  old_wires _ _ = tt

  consumer_source : (l : Output a (suc others)) → Which a others s l → old.source (consumer (which_other a others s l)).at (consumer (which_other a others s l)).port ≡ from fork (number (replicate (suc others) a) l)
  consumer_source l (is_sink e f) = ap (λ z. old.source (consumer z).at (consumer z).port) e ∙ ap (λ z. from fork (number (replicate (suc others) a) z)) (sym f)
  consumer_source l (is_other k e f) = ap (λ z. old.source (consumer z).at (consumer z).port) e ∙ ap (λ z. from fork (number (replicate (suc others) a) z)) (sym f)

  fork_sinks : (i : ℕ) → PortOf (replicate (suc others) a) i → ForSome (fork_sink (place_at (replicate (suc others) a) i)) (λ p. old.source p.at p.port ≡ Some (record { at = fork; port = i }))
  fork_sinks i (at l is) =
      for_is (fork_sink (place_at (replicate (suc others) a) i)) (λ p. old.source p.at p.port ≡ Some (record { at = fork; port = i })) (consumer (which_other a others s l))
      (ap (λ z. fork_sink (place_at (replicate (suc others) a) z)) is ∙ ap fork_sink (place_number (replicate (suc others) a) l))
      (consumer_source l (which a others s l) ∙ ap (λ z. from fork z) (sym is))
  fork_sinks i (no_port e f) = for_none (fork_sink (place_at (replicate (suc others) a) i)) (λ p. old.source p.at p.port ≡ Some (record { at = fork; port = i })) (ap fork_sink e)

  old_sinks : (n : Untrimmed a others) (i : ℕ) → ForSome (old_sink n i) (λ p. old.source p.at p.port ≡ Some (record { at = n; port = i }))
  old_sinks entry (suc zero) = refl
  old_sinks fork i = fork_sinks i (port_of (replicate (suc others) a) i)
  old_sinks _ _ = tt

  old_inputs : (n : Untrimmed a others) (i : ℕ) → ForSome (port_get (ins (old.kind n)) i) (λ b. (q : Out (Untrimmed a others)) × (old.source n i ≡ Some q))
  old_inputs fork (suc zero) = (_, refl)
  old_inputs sink (suc zero) = (_, refl)
  old_inputs (exit l) (suc zero) = (_, refl)
  old_inputs _ _ = tt

  fork_outputs : (i : ℕ) → PortOf (replicate (suc others) a) i → ForSome (port_get (replicate (suc others) a) i) (λ b. (p : Out (Untrimmed a others)) × (fork_sink (place_at (replicate (suc others) a) i) ≡ Some p))
  fork_outputs i (at l is) =
      for_is (port_get (replicate (suc others) a) i) (λ b. (p : Out (Untrimmed a others)) × (fork_sink (place_at (replicate (suc others) a) i) ≡ Some p)) a
      (ap (port_get (replicate (suc others) a)) is ∙ port_same a (suc others) l)
      (_, ap (λ z. fork_sink (place_at (replicate (suc others) a) z)) is ∙ ap fork_sink (place_number (replicate (suc others) a) l))
  fork_outputs i (no_port e f) = for_none (port_get (replicate (suc others) a) i) (λ b. (p : Out (Untrimmed a others)) × (fork_sink (place_at (replicate (suc others) a) i) ≡ Some p)) f

  old_outputs : (n : Untrimmed a others) (i : ℕ) → ForSome (port_get (outs (old.kind n)) i) (λ b. (p : Out (Untrimmed a others)) × (old_sink n i ≡ Some p))
  old_outputs entry (suc zero) = (_, refl)
  old_outputs fork i = fork_outputs i (port_of (replicate (suc others) a) i)
  old_outputs _ _ = tt

  old_ok : CanTrim a others → (n : Untrimmed a others) → KindOk (untrimmed_kind a others n)
  old_ok can entry = can.shape
  old_ok can fork = (can.shape, (omega arith, can.few))
  old_ok can sink = can.shape
  old_ok can (exit l) = can.shape

  pub untrimmed_typed : CanTrim a others → PlanTyped old
  untrimmed_typed can = record { kinds = old_ok can; sink = old_sink; wires = old_wires; sinks = old_sinks; inputs = old_inputs; outputs = old_outputs }

  abbrev new_sink : Trimmed a others → ℕ → Option (Out (Trimmed a others))
  new_sink new_entry (suc zero) = from new_fork 1
  new_sink new_fork i = output_at new_exit 1 (place_at (replicate others a) i)
  new_sink _ _ = None

  new_wires : (n : Trimmed a others) (i : ℕ) → ForSome (new.source n i) (PlanWire new new_sink n i)
  new_wires new_fork (suc zero) = record { back = refl; shape = a; enters = refl; leaves = refl }
  new_wires (new_exit l) (suc zero) = record { back = ap (output_at new_exit 1) (place_number (replicate others a) l); shape = a; enters = refl; leaves = port_same a others l }
  new_wires _ _ = tt

  new_sinks : (n : Trimmed a others) (i : ℕ) → ForSome (new_sink n i) (λ p. new.source p.at p.port ≡ Some (record { at = n; port = i }))
  new_sinks new_entry (suc zero) = refl
  new_sinks new_fork i = at_number (replicate others a) new_exit (λ p. new.source p.at p.port ≡ Some (record { at = new_fork; port = i })) i (λ l is. ap (λ z. from new_fork z) (sym is))
  new_sinks _ _ = tt

  new_inputs : (n : Trimmed a others) (i : ℕ) → ForSome (port_get (ins (new.kind n)) i) (λ b. (q : Out (Trimmed a others)) × (new.source n i ≡ Some q))
  new_inputs new_fork (suc zero) = (_, refl)
  new_inputs (new_exit l) (suc zero) = (_, refl)
  new_inputs _ _ = tt

  new_outputs : (n : Trimmed a others) (i : ℕ) → ForSome (port_get (outs (new.kind n)) i) (λ b. (p : Out (Trimmed a others)) × (new_sink n i ≡ Some p))
  new_outputs new_entry (suc zero) = (_, refl)
  new_outputs new_fork i = found (replicate others a) new_exit i
  new_outputs _ _ = tt

  new_ok : CanTrim a others → (n : Trimmed a others) → KindOk (trimmed_kind a others n)
  new_ok can new_entry = can.shape
  new_ok can new_fork = (can.shape, (can.some, let few : suc others ≤ 64 = can.few in omega (arith, few)))
  new_ok can (new_exit l) = can.shape

  pub trimmed_typed : CanTrim a others → PlanTyped new
  trimmed_typed can = record { kinds = new_ok can; sink = new_sink; wires = new_wires; sinks = new_sinks; inputs = new_inputs; outputs = new_outputs }

  module _ (hx : Naming (Trimmed a others)) (gx : Naming (Untrimmed a others)) (same : SameForkEnds a others hx gx) where
    same_entry : (n : Trimmed a others) (b : Shape) → trimmed_kind a others n ≡ Entry b → (m : Untrimmed a others) × (hx.name n ≡ gx.name m) × (untrimmed_kind a others m ≡ Entry b)
    same_entry new_entry b e = (entry, same.entry_is, e)
    same_entry _ b e = cc

    same_entry_back : (m : Untrimmed a others) (b : Shape) → untrimmed_kind a others m ≡ Entry b → (n : Trimmed a others) × (hx.name n ≡ gx.name m) × (trimmed_kind a others n ≡ Entry b)
    same_entry_back entry b e = (new_entry, same.entry_is, e)
    same_entry_back _ b e = cc

    same_exit : (n : Trimmed a others) (b : Shape) → trimmed_kind a others n ≡ Exit b → (m : Untrimmed a others) × (hx.name n ≡ gx.name m) × (untrimmed_kind a others m ≡ Exit b)
    same_exit (new_exit l) b e = (exit l, same.exit_is l, e)
    same_exit _ b e = cc

    same_exit_back : (m : Untrimmed a others) (b : Shape) → untrimmed_kind a others m ≡ Exit b → (n : Trimmed a others) × (hx.name n ≡ gx.name m) × (trimmed_kind a others n ≡ Exit b)
    same_exit_back (exit l) b e = (new_exit l, same.exit_is l, e)
    same_exit_back _ b e = cc

    ports : PlanPorts new old hx gx
    ports = record { entry = same_entry; entry_back = same_entry_back; exit = same_exit; exit_back = same_exit_back }

  old_size : Naming (Untrimmed a others) → ℕ
  old_size x = 1 + (length (x.name entry) + length (x.name fork) + length (x.name sink) + total (replicate others a) (λ l. length (x.name (exit l))))

  old_short : (x : Naming (Untrimmed a others)) (n : Untrimmed a others) → length (x.name n) < old_size x
  unfolding old_size
  old_short x entry = omega arith
  old_short x fork = omega arith
  old_short x sink = omega arith
  old_short x (exit l) = let h : length (x.name (exit l)) ≤ total (replicate others a) (λ l. length (x.name (exit l))) = in_total (replicate others a) (λ l. length (x.name (exit l))) l in omega arith

  new_size : Naming (Trimmed a others) → ℕ
  new_size x = 1 + (length (x.name new_entry) + length (x.name new_fork) + total (replicate others a) (λ l. length (x.name (new_exit l))))

  new_short : (x : Naming (Trimmed a others)) (n : Trimmed a others) → length (x.name n) < new_size x
  unfolding new_size
  new_short x new_entry = omega arith
  new_short x new_fork = omega arith
  new_short x (new_exit l) = let h : length (x.name (new_exit l)) ≤ total (replicate others a) (λ l. length (x.name (new_exit l))) = in_total (replicate others a) (λ l. length (x.name (new_exit l))) l in omega arith

  pub trimmed_refines : ValuesFit → CanTrim a others → (hx : Naming (Trimmed a others)) (gx : Naming (Untrimmed a others)) → SameForkEnds a others hx gx → Refines (built new hx) (built old gx)
  trimmed_refines values can hx gx same =
      matches_refines values (built new hx) (built old gx)
      (plan_typed new hx (trimmed_typed can) (new_size hx) (new_short hx))
      (plan_typed old gx (untrimmed_typed can) (old_size gx) (old_short gx))
      (plan_ports new old hx gx (ports hx gx same))
      (matches_of new old hx gx (trimmed_matches hx gx same))
