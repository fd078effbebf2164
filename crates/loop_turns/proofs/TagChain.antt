-- From a gathered loop to a tagged one.
use Rattle.std.proofs.Common.{◌≡◌, ◌≢◌, ◌⊎◌, inl, inr, ℕ, zero, suc, refl, sym, ap, ◌∙◌, Bool, true, false, bytes_eq, nat_eq, if◌then◌else◌, List, [], ◌∷◌, ◌++◌, Option, Some, None}
use Rattle.components.specs.Name.{Name, Port, port_get}
use Rattle.components.specs.declared.kind.Kind.TheVariants.{Init}
use Rattle.fun_expr.specs.Function.{Function}
use Rattle.circuits.proofs.Beside.{none_some, unfed}
use Rattle.circuits.specs.Circuit.{Circuit, Typed}
use Rattle.circuits.specs.Replacing.{In, In.head, In.tail}
use Rattle.loop_laws.proofs.Closed.{Inner, inner_node, mark_fed, inner_no_fresh, exit_or_inner, body_kind}
use Rattle.loop_laws.specs.Loop.{Lane, Loop, HasBranch, IsInside, LoopAt, NodeOf, NodeOf.is_mark, NodeOf.in_body, IsExit}
use Rattle.loop_laws.specs.Polarity.{back_out, exit_out, exit_bit, fresh_in}
use Rattle.loop_laws.specs.Reached.{port_at}
use Rattle.loop_turns.proofs.EndNames.{IsSet, set_in, IsTaken, same, gathered_of, ring_of, expand_of, tagged_of, taken_test, taken_test', gathered_new, ring_new, expand_new, tagged_new, gathered_old, ring_old, expand_old, tagged_old}
use Rattle.loop_turns.proofs.Lists.{in_or_out, in_left, in_right, other_test, same_test, circuit_same}
use Rattle.loop_turns.proofs.LoopFrame.{frame_in_loop, node_frame, FrameNode.of_lane, FrameNode.of_branch, mux_not_branch, mux_branch, body_no_frame, mark_no_body, branches_unlike, Third.third_mark, Third.third_frame, Third.third_body, third}
use Rattle.loop_turns.proofs.LoopLookups.{has_true, has_false, in_either, in_at, at_in, place_at, place_none, new_is, new_found}
use Rattle.loop_turns.specs.Gathered.{GatherNode, gather_kind, gather_out, gather_source, gathered_graph}
use Rattle.loop_turns.specs.Lanes.{fed_lane, port_or, lane_place, fresh_of, data_of, condition_of, frame_of, tuple_shape}
use Rattle.loop_turns.specs.Rebuilt.{new_at, has_name, kind_or, source_or, moved, NewNames}
use Rattle.loop_turns.specs.TagChain.{RingUse, ring_kind, ring_out, ring_source, ring_made, ExpandUse, expand_kind, expand_out, expand_source, expand_taken, expand_made, LastNode, LastNode.l_in, LastNode.l_mux, LastNode.l_pure, LastNode.l_pair, LastNode.l_cond, LastNode.l_branch, LastNode.l_out, LastNode.l_tagger, LastNode.l_merge, LastNode.l_tag, LastNode.l_retag, LastNode.l_vars, LastNode.l_next, LastNode.l_sink, last_nodes, gathered_at, ring_at, expand_at, tagged_at, tag_chain}
use Rattle.loop_turns.specs.Tagged.{TagNode, tag_kind, tag_out, tag_source, tagged_graph}
use Rattle.circuits.proofs.Names.{name_cases}

module _ (g : Circuit) (ty : Typed g) (m : Name) (l : Loop) (at : LoopAt g m l) (f : Function) (name : LastNode → Name) (names : NewNames g (last_nodes l) name) where
  abbrev Listed : LastNode → Type 0
  Listed x = In x (last_nodes l)

  abbrev nG : GatherNode → Name
  nG u = name (gathered_at u)

  abbrev nR : RingUse → Name
  nR u = name (ring_at u)

  abbrev nE : ExpandUse → Name
  nE u = name (expand_at u)

  abbrev nT : TagNode → Name
  nT u = name (tagged_at u)

  abbrev T0 : Circuit
  T0 = gathered_graph g m l f nG

  abbrev T1 : Circuit
  T1 = ring_made T0 m (name l_mux) (name l_pure) (name l_pair) (name l_cond) (name l_branch) l.goes_back l.tags (tuple_shape l) f nR

  abbrev T2 : Circuit
  T2 = expand_made T1 g m l (name l_pure) (name l_pair) nE

  abbrev TG : Circuit
  TG = tagged_graph g m l nT

  abbrev ring_gone : List Name
  ring_gone = m ∷ name l_mux ∷ name l_pure ∷ name l_pair ∷ name l_cond ∷ name l_branch ∷ []

  fresh : (x : LastNode) → Listed x → g.kind_at (name x) ≡ None
  fresh x u = names.fresh x u

  if_none : {A : Type 0} (c : Bool) (o : Option A) → o ≡ None → (if c then None else o) ≡ None
  if_none true o e = refl
  if_none false o e = e

  new_not_mark : (x : LastNode) → Listed x → m ≢ name x
  new_not_mark x u e = none_some (g.kind_at (name x)) (Init (exit_bit l.goes_back) l.tags) (fresh x u) (ap g.kind_at (sym e) ∙ at.mark.0)

  body_new : (x : LastNode) → Listed x → has_name l.body (name x) ≡ false
  body_new x u = has_false l.body (name x) (λ i. let k = body_kind g ty m l at (name x) i in none_some (g.kind_at (name x)) k.0 (fresh x u) k.1)

  -- the names that tag_loop and expand take away
  abbrev ringed : LastNode → Bool
  ringed x = if same x l_mux then true else (if same x l_pure then true else (if same x l_pair then true else (if same x l_cond then true else (if same x l_branch then true else false))))

  abbrev paired : LastNode → Bool
  paired x = if same x l_pure then true else (if same x l_pair then true else false)

  test : (x y : LastNode) → Listed x → IsTaken y → bytes_eq (name y) (name x) ≡ same x y
  test = taken_test' l name names.apart

  ring_has : (x : LastNode) → Listed x → has_name ring_gone (name x) ≡ ringed x
  ring_has x u =
      ap (λ b. if b then true else has_name (name l_mux ∷ name l_pure ∷ name l_pair ∷ name l_cond ∷ name l_branch ∷ []) (name x)) (other_test m (name x) (new_not_mark x u))
      ∙ ap (λ b. if b then true else has_name (name l_pure ∷ name l_pair ∷ name l_cond ∷ name l_branch ∷ []) (name x)) (test x l_mux u tt)
      ∙ ap (λ b. if same x l_mux then true else (if b then true else has_name (name l_pair ∷ name l_cond ∷ name l_branch ∷ []) (name x))) (test x l_pure u tt)
      ∙ ap (λ b. if same x l_mux then true else (if same x l_pure then true else (if b then true else has_name (name l_cond ∷ name l_branch ∷ []) (name x)))) (test x l_pair u tt)
      ∙ ap (λ b. if same x l_mux then true else (if same x l_pure then true else (if same x l_pair then true else (if b then true else has_name (name l_branch ∷ []) (name x))))) (test x l_cond u tt)
      ∙ ap (λ b. if same x l_mux then true else (if same x l_pure then true else (if same x l_pair then true else (if same x l_cond then true else (if b then true else false))))) (test x l_branch u tt)

  pair_has : (x : LastNode) → Listed x → has_name (name l_pure ∷ name l_pair ∷ []) (name x) ≡ paired x
  pair_has x u =
      ap (λ b. if b then true else has_name (name l_pair ∷ []) (name x)) (test x l_pure u tt) ∙ ap (λ b. if same x l_pure then true else (if b then true else false)) (test x l_pair u tt)

  -- the kinds at the new names
  k0 : (x : LastNode) → Listed x → T0.kind_at (name x) ≡ kind_or (gather_kind l f) (gathered_of x) None
  k0 x u =
      ap (λ o. kind_or (gather_kind l f) o (if has_name (frame_of l ++ l.body) (name x) then None else g.kind_at (name x))) (gathered_new l name names.apart x u)
      ∙ ap (kind_or (gather_kind l f) (gathered_of x)) (if_none (has_name (frame_of l ++ l.body) (name x)) (g.kind_at (name x)) (fresh x u))

  k1 : (x : LastNode) → Listed x → T1.kind_at (name x) ≡ kind_or (ring_kind (tuple_shape l) f l.tags) (ring_of x) (if ringed x then None else kind_or (gather_kind l f) (gathered_of x) None)
  k1 x u =
      ap (λ o. kind_or (ring_kind (tuple_shape l) f l.tags) o (if has_name ring_gone (name x) then None else T0.kind_at (name x))) (ring_new l name names.apart x u)
      ∙ ap (λ b. kind_or (ring_kind (tuple_shape l) f l.tags) (ring_of x) (if b then None else T0.kind_at (name x))) (ring_has x u)
      ∙ ap (λ k. kind_or (ring_kind (tuple_shape l) f l.tags) (ring_of x) (if ringed x then None else k)) (k0 x u)

  k2 : (x : LastNode) → Listed x → T2.kind_at (name x) ≡ kind_or (expand_kind l) (expand_of x) (if paired x then None else kind_or (ring_kind (tuple_shape l) f l.tags) (ring_of x) (if ringed x then None else kind_or (gather_kind l f) (gathered_of x) None))
  k2 x u =
      ap (λ o. kind_or (expand_kind l) o (if has_name l.body (name x) then g.kind_at (name x) else (if has_name (name l_pure ∷ name l_pair ∷ []) (name x) then None else T1.kind_at (name x)))) (expand_new l name names.apart x u)
      ∙ ap (λ b. kind_or (expand_kind l) (expand_of x) (if b then g.kind_at (name x) else (if has_name (name l_pure ∷ name l_pair ∷ []) (name x) then None else T1.kind_at (name x)))) (body_new x u)
      ∙ ap (λ b. kind_or (expand_kind l) (expand_of x) (if b then None else T1.kind_at (name x))) (pair_has x u)
      ∙ ap (λ k. kind_or (expand_kind l) (expand_of x) (if paired x then None else k)) (k1 x u)

  kT : (x : LastNode) → Listed x → TG.kind_at (name x) ≡ kind_or (tag_kind l) (tagged_of x) None
  kT x u =
      ap (λ o. kind_or (tag_kind l) o (if has_name (m ∷ frame_of l) (name x) then None else g.kind_at (name x))) (tagged_new l name names.apart x u)
      ∙ ap (kind_or (tag_kind l) (tagged_of x)) (if_none (has_name (m ∷ frame_of l) (name x)) (g.kind_at (name x)) (fresh x u))

  new_kinds : (x : LastNode) → Listed x → T2.kind_at (name x) ≡ TG.kind_at (name x)
  new_kinds l_in u = k2 l_in u ∙ sym (kT l_in u)
  new_kinds l_mux u = k2 l_mux u ∙ sym (kT l_mux u)
  new_kinds l_pure u = k2 l_pure u ∙ sym (kT l_pure u)
  new_kinds l_pair u = k2 l_pair u ∙ sym (kT l_pair u)
  new_kinds l_cond u = k2 l_cond u ∙ sym (kT l_cond u)
  new_kinds l_branch u = k2 l_branch u ∙ sym (kT l_branch u)
  new_kinds l_out u = k2 l_out u ∙ sym (kT l_out u)
  new_kinds l_tagger u = k2 l_tagger u ∙ sym (kT l_tagger u)
  new_kinds l_merge u = k2 l_merge u ∙ sym (kT l_merge u)
  new_kinds l_tag u = k2 l_tag u ∙ sym (kT l_tag u)
  new_kinds l_retag u = k2 l_retag u ∙ sym (kT l_retag u)
  new_kinds l_vars u = k2 l_vars u ∙ sym (kT l_vars u)
  new_kinds l_next u = k2 l_next u ∙ sym (kT l_next u)
  new_kinds (l_sink j) u = k2 (l_sink j) u ∙ sym (kT (l_sink j) u)

  -- what feeds the new names
  abbrev rs : RingUse → ℕ → Option Port
  rs = ring_source T0 (name l_mux) (name l_branch) l.goes_back nR

  abbrev es : ExpandUse → ℕ → Option Port
  es = expand_source T1 g m l (name l_pure) nE

  abbrev rout : Port → Port
  rout = ring_out (name l_branch) nR

  abbrev taken : Option Port → Option Port
  taken = expand_taken g l (name l_pair) nE

  none_moved : (out : Port → Port) (x : LastNode) (i : ℕ) → Listed x → moved out (g.feeder (port_at (name x) i)) ≡ None
  none_moved out x i u = ap (moved out) (unfed g ty (port_at (name x) i) (fresh x u))

  f0 : (x : LastNode) (i : ℕ) → Listed x → T0.feeder (port_at (name x) i) ≡ source_or (gather_source g m l nG) (gathered_of x) i None
  f0 x i u =
      ap (λ o. source_or (gather_source g m l nG) o i (if has_name (frame_of l ++ l.body) (name x) then None else moved (gather_out l nG) (g.feeder (port_at (name x) i)))) (gathered_new l name names.apart x u)
      ∙ ap (source_or (gather_source g m l nG) (gathered_of x) i) (if_none (has_name (frame_of l ++ l.body) (name x)) (moved (gather_out l nG) (g.feeder (port_at (name x) i))) (none_moved (gather_out l nG) x i u))

  f1 : (x : LastNode) (i : ℕ) → Listed x → T1.feeder (port_at (name x) i) ≡ source_or rs (ring_of x) i (if ringed x then None else moved rout (T0.feeder (port_at (name x) i)))
  f1 x i u =
      ap (λ o. source_or rs o i (if has_name ring_gone (name x) then None else moved rout (T0.feeder (port_at (name x) i)))) (ring_new l name names.apart x u)
      ∙ ap (λ b. source_or rs (ring_of x) i (if b then None else moved rout (T0.feeder (port_at (name x) i)))) (ring_has x u)

  f2 : (x : LastNode) (i : ℕ) → Listed x → T2.feeder (port_at (name x) i) ≡ source_or es (expand_of x) i (if paired x then None else taken (T1.feeder (port_at (name x) i)))
  f2 x i u =
      ap (λ o. source_or es o i (if has_name l.body (name x) then moved (expand_out l nE) (g.feeder (port_at (name x) i)) else (if has_name (name l_pure ∷ name l_pair ∷ []) (name x) then None else taken (T1.feeder (port_at (name x) i))))) (expand_new l name names.apart x u)
      ∙ ap (λ b. source_or es (expand_of x) i (if b then moved (expand_out l nE) (g.feeder (port_at (name x) i)) else (if has_name (name l_pure ∷ name l_pair ∷ []) (name x) then None else taken (T1.feeder (port_at (name x) i))))) (body_new x u)
      ∙ ap (λ b. source_or es (expand_of x) i (if b then None else taken (T1.feeder (port_at (name x) i)))) (pair_has x u)

  fT : (x : LastNode) (i : ℕ) → Listed x → TG.feeder (port_at (name x) i) ≡ source_or (tag_source g m l nT) (tagged_of x) i None
  fT x i u =
      ap (λ o. source_or (tag_source g m l nT) o i (if has_name (m ∷ frame_of l) (name x) then None else moved (tag_out l nT) (g.feeder (port_at (name x) i)))) (tagged_new l name names.apart x u)
      ∙ ap (source_or (tag_source g m l nT) (tagged_of x) i) (if_none (has_name (m ∷ frame_of l) (name x)) (moved (tag_out l nT) (g.feeder (port_at (name x) i))) (none_moved (tag_out l nT) x i u))

  -- outputs under the later steps
  rout_new : (y : LastNode) (j : ℕ) → Listed y → rout (port_at (name y) j) ≡ (if same y l_branch then port_at (name l_tagger) 2 else port_at (name y) j)
  rout_new y j u = ap (λ b. if b then port_at (name l_tagger) 2 else port_at (name y) j) (taken_test l name names.apart y l_branch u tt)

  taken_new : (y : LastNode) (j : ℕ) → Listed y → same y l_pair ≡ false → taken (Some (port_at (name y) j)) ≡ Some (port_at (name y) j)
  taken_new y j u e =
      ap (λ b. if b then (if nat_eq j 1 then Some (port_at (name l_next) 1) else fed_lane g (expand_out l nE) (port_get l.lanes 1) condition_of None) else Some (port_at (name y) j)) (taken_test l name names.apart y l_pair u tt ∙ e)

  taken_pair : (j : ℕ) → taken (Some (port_at (name l_pair) j)) ≡ (if nat_eq j 1 then Some (port_at (name l_next) 1) else fed_lane g (expand_out l nE) (port_get l.lanes 1) condition_of None)
  taken_pair j =
      ap (λ b. if b then (if nat_eq j 1 then Some (port_at (name l_next) 1) else fed_lane g (expand_out l nE) (port_get l.lanes 1) condition_of None) else Some (port_at (name l_pair) j)) (taken_test l name names.apart l_pair l_pair (set_in l l_pair tt) tt)

  -- what comes from inside has the same place in both
  inside_out : (q : Port) → IsInside l q.node → expand_out l nE q ≡ tag_out l nT q
  inside_out q s =
      ap (λ z. port_or (lane_place (λ (x : Lane). x.mux) l.lanes q.node) (name l_vars) z)
      (sym (ap (λ z. port_or z (name l_out) q) (place_none (λ (x : Lane). x.branch) l.lanes q.node (λ y v e. not_branch s (y, v, e)))))
    where
      not_branch : IsInside l q.node → HasBranch l q.node → ⊥
      not_branch (inl x) y = mux_branch g ty m l at q.node x y
      not_branch (inr b) y = body_no_frame g ty m l at q.node b (node_frame l q.node (of_branch y))

  inside_moved : (o : Option Port) → ((q : Port) → o ≡ Some q → IsInside l q.node) → moved (expand_out l nE) o ≡ moved (tag_out l nT) o
  inside_moved None h = refl
  inside_moved (Some q) h = ap Some (inside_out q (h q refl))

  inside_lane : (o : Option Lane) (input : Lane → Port) (r s : Option Port) → r ≡ s → ((x : Lane) → o ≡ Some x → (q : Port) → g.feeder (input x) ≡ Some q → IsInside l q.node) → fed_lane g (expand_out l nE) o input r ≡ fed_lane g (tag_out l nT) o input s
  inside_lane None input r s e h = e
  inside_lane (Some x) input r s e h = inside_moved (g.feeder (input x)) (h x refl)

  data_inside : (j : ℕ) (x : Lane) → port_get l.lanes j ≡ Some x → (q : Port) → g.feeder (data_of x) ≡ Some q → IsInside l q.node
  data_inside j x e = at.branches.branches x.branch (x, at_in l.lanes j x e, refl) 1

  condition_inside : (j : ℕ) (x : Lane) → port_get l.lanes j ≡ Some x → (q : Port) → g.feeder (condition_of x) ≡ Some q → IsInside l q.node
  condition_inside j x e = at.branches.branches x.branch (x, at_in l.lanes j x e, refl) 2

  mark_moved : moved (expand_out l nE) (g.feeder (port_at m 1)) ≡ moved (tag_out l nT) (g.feeder (port_at m 1))
  mark_moved = inside_moved (g.feeder (port_at m 1)) (mark_fed g ty m l at)

  -- what comes from outside, or from an exit
  old_source : (p q : Port) → g.feeder p ≡ Some q → (x : LastNode) → Listed x → q.node ≢ name x
  old_source p q h x u e = let w = ty.wires p q h in none_some (g.kind_at (name x)) w.from (fresh x u) (ap g.kind_at (sym e) ∙ w.is_from)

  through_exit : (q : Port) → IsExit l q → taken (Some (rout (gather_out l nG q))) ≡ Some (tag_out l nT q)
  through_exit q (x, u, e) =
      let (j, k) = in_at l.lanes x u in
      let here : lane_place (λ (z : Lane). z.branch) l.lanes q.node ≡ Some (suc j) = ap (λ (z : Port). lane_place (λ (w : Lane). w.branch) l.lanes z.node) e ∙ place_at (λ (z : Lane). z.branch) l.lanes (branches_unlike g ty m l at) (suc j) x k in
      let no_mux : lane_place (λ (z : Lane). z.mux) l.lanes q.node ≡ None = place_none (λ (z : Lane). z.mux) l.lanes q.node (λ y v s. mux_not_branch g ty m l at y x v u (s ∙ ap (λ (z : Port). z.node) e)) in
      let first : gather_out l nG q ≡ port_at (name l_out) (suc j) = ap (λ z. port_or z (name l_out) (if has_name (frame_of l ++ l.body) q.node then port_at (name l_cond) 2 else q)) here in
      let last : tag_out l nT q ≡ port_at (name l_out) (suc j) =
      ap (λ z. port_or z (name l_vars) (port_or (lane_place (λ (w : Lane). w.branch) l.lanes q.node) (name l_out) q)) no_mux ∙ ap (λ z. port_or z (name l_out) q) here in
      ap (λ z. taken (Some z)) (ap rout first ∙ rout_new l_out (suc j) (set_in l l_out tt)) ∙ taken_new l_out (suc j) (set_in l l_out tt) refl ∙ ap Some (sym last)

  through_outside : (p q : Port) → g.feeder p ≡ Some q → (In q.node (m ∷ (frame_of l ++ l.body)) → ⊥) → taken (Some (rout (gather_out l nG q))) ≡ Some (tag_out l nT q)
  through_outside p q h o =
      let no_frame : In q.node (frame_of l) → ⊥ = λ i. o (tail (in_left q.node (frame_of l) l.body i)) in
      let no_branch : lane_place (λ (z : Lane). z.branch) l.lanes q.node ≡ None = place_none (λ (z : Lane). z.branch) l.lanes q.node (λ y v s. no_frame (node_frame l q.node (of_branch (y, v, s)))) in
      let no_mux : lane_place (λ (z : Lane). z.mux) l.lanes q.node ≡ None = place_none (λ (z : Lane). z.mux) l.lanes q.node (λ y v s. no_frame (node_frame l q.node (of_lane (y, v, s)))) in
      let first : gather_out l nG q ≡ q =
      ap (λ z. port_or z (name l_out) (if has_name (frame_of l ++ l.body) q.node then port_at (name l_cond) 2 else q)) no_branch
      ∙ ap (λ b. if b then port_at (name l_cond) 2 else q) (has_false (frame_of l ++ l.body) q.node (λ i. o (tail i))) in
      let last : tag_out l nT q ≡ q = ap (λ z. port_or z (name l_vars) (port_or (lane_place (λ (w : Lane). w.branch) l.lanes q.node) (name l_out) q)) no_mux ∙ ap (λ z. port_or z (name l_out) q) no_branch in
      ap (λ z. taken (Some z)) (ap rout first ∙ ap (λ b. if b then port_at (name l_tagger) 2 else q) (other_test q.node (name l_branch) (old_source p q h l_branch (set_in l l_branch tt))))
      ∙ ap (λ b. if b then (if nat_eq q.port 1 then Some (port_at (name l_next) 1) else fed_lane g (expand_out l nE) (port_get l.lanes 1) condition_of None) else Some q) (other_test q.node (name l_pair) (old_source p q h l_pair (set_in l l_pair tt)))
      ∙ ap Some (sym last)

  loop_node_of : (n : Name) → In n (m ∷ (frame_of l ++ l.body)) → NodeOf m l n
  loop_node_of n (head e) = is_mark e
  loop_node_of n (tail i) = elim (in_either n (frame_of l) l.body i) [ inl j ↦ frame_in_loop g ty m l at n j | inr b ↦ in_body b ]

  through_any : (p : Port) → (Inner m l p → ⊥) → (o : Option Port) → g.feeder p ≡ o → taken (moved rout (moved (gather_out l nG) o)) ≡ moved (tag_out l nT) o
  through_any p inner None h = refl
  through_any p inner (Some q) h =
      elim (in_or_out q.node (m ∷ (frame_of l ++ l.body))) [
        | inr o ↦ through_outside p q h o
        | inl i ↦ elim (exit_or_inner g ty m l at p q h (loop_node_of q.node i)) [ inl x ↦ through_exit q x | inr n ↦ absurd (inner n) ]
      ]

  through_lane : (i : ℕ) (o : Option Lane) → port_get l.lanes i ≡ o → taken (moved rout (fed_lane g (gather_out l nG) o (fresh_of l) None)) ≡ fed_lane g (tag_out l nT) o (fresh_of l) None
  through_lane i None h = refl
  through_lane i (Some x) h =
      through_any (fresh_of l x) (λ n. inner_no_fresh g ty m l at (fresh_of l x) n (x, at_in l.lanes i x h, refl)) (g.feeder (fresh_of l x)) refl

  fresh_fed : (d : Bool) → l.goes_back ≡ d → gather_source g m l nG GatherNode.one_mux (fresh_in d) ≡ Some (port_at (name l_in) 1)
  fresh_fed true s = ap (λ d. if d then Some (port_at (name l_in) 1) else Some (port_at (name l_branch) 2)) s
  fresh_fed false s = ap (λ d. if d then Some (port_at (name l_branch) 1) else Some (port_at (name l_in) 1)) s

  tagger_fed : T1.feeder (port_at (name l_tagger) 1) ≡ Some (port_at (name l_in) 1)
  tagger_fed =
      f1 l_tagger 1 (set_in l l_tagger tt) ∙ ap (moved rout) (f0 l_mux (fresh_in l.goes_back) (set_in l l_mux tt) ∙ fresh_fed l.goes_back refl) ∙ ap Some (rout_new l_in 1 (set_in l l_in tt))

  -- a node of the ring that stays, fed from a new one
  ring_fed : (x y : LastNode) (i j : ℕ) → Listed x → Listed y → expand_of x ≡ None → paired x ≡ false → same y l_pair ≡ false → T1.feeder (port_at (name x) i) ≡ Some (port_at (name y) j) → T2.feeder (port_at (name x) i) ≡ Some (port_at (name y) j)
  ring_fed x y i j u v a b c h =
      f2 x i u ∙ ap (λ o. source_or es o i (if paired x then None else taken (T1.feeder (port_at (name x) i)))) a ∙ ap (λ z. if z then None else taken (T1.feeder (port_at (name x) i))) b ∙ ap taken h ∙ taken_new y j v c

  none_fed : (x : LastNode) (i : ℕ) → Listed x → expand_of x ≡ None → T1.feeder (port_at (name x) i) ≡ None → T2.feeder (port_at (name x) i) ≡ None
  none_fed x i u a h =
      f2 x i u ∙ ap (λ o. source_or es o i (if paired x then None else taken (T1.feeder (port_at (name x) i)))) a ∙ if_none (paired x) (taken (T1.feeder (port_at (name x) i))) (ap taken h)

  new_feeds : (x : LastNode) (i : ℕ) → Listed x → T2.feeder (port_at (name x) i) ≡ TG.feeder (port_at (name x) i)
  new_feeds l_in i u = f2 l_in i u ∙ ap taken (f1 l_in i u ∙ ap (moved rout) (f0 l_in i u)) ∙ through_lane i (port_get l.lanes i) refl ∙ sym (fT l_in i u)
  new_feeds l_tagger (suc zero) u = ring_fed l_tagger l_in 1 1 u (set_in l l_in tt) refl refl refl tagger_fed ∙ sym (fT l_tagger 1 u)
  new_feeds l_tagger (suc (suc zero)) u = ring_fed l_tagger l_branch 2 (exit_out l.goes_back) u (set_in l l_branch tt) refl refl refl (f1 l_tagger 2 u) ∙ sym (fT l_tagger 2 u)
  new_feeds l_tagger zero u = none_fed l_tagger zero u refl (f1 l_tagger zero u) ∙ sym (fT l_tagger zero u)
  new_feeds l_tagger (suc (suc (suc i))) u = none_fed l_tagger (suc (suc (suc i))) u refl (f1 l_tagger _ u) ∙ sym (fT l_tagger _ u)
  new_feeds l_merge (suc zero) u = ring_fed l_merge l_tagger 1 1 u (set_in l l_tagger tt) refl refl refl (f1 l_merge 1 u) ∙ sym (fT l_merge 1 u)
  new_feeds l_merge (suc (suc zero)) u = ring_fed l_merge l_branch 2 (back_out l.goes_back) u (set_in l l_branch tt) refl refl refl (f1 l_merge 2 u) ∙ sym (fT l_merge 2 u)
  new_feeds l_merge zero u = none_fed l_merge zero u refl (f1 l_merge zero u) ∙ sym (fT l_merge zero u)
  new_feeds l_merge (suc (suc (suc i))) u = none_fed l_merge (suc (suc (suc i))) u refl (f1 l_merge _ u) ∙ sym (fT l_merge _ u)
  new_feeds l_tag (suc zero) u = ring_fed l_tag l_merge 1 1 u (set_in l l_merge tt) refl refl refl (f1 l_tag 1 u) ∙ sym (fT l_tag 1 u)
  new_feeds l_tag zero u = none_fed l_tag zero u refl (f1 l_tag zero u) ∙ sym (fT l_tag zero u)
  new_feeds l_tag (suc (suc i)) u = none_fed l_tag (suc (suc i)) u refl (f1 l_tag _ u) ∙ sym (fT l_tag _ u)
  new_feeds l_retag (suc zero) u = ring_fed l_retag l_tag 1 1 u (set_in l l_tag tt) refl refl refl (f1 l_retag 1 u) ∙ sym (fT l_retag 1 u)
  new_feeds l_retag (suc (suc zero)) u = f2 l_retag 2 u ∙ ap taken (f1 l_retag 2 u) ∙ taken_pair 1 ∙ sym (fT l_retag 2 u)
  new_feeds l_retag zero u = none_fed l_retag zero u refl (f1 l_retag zero u) ∙ sym (fT l_retag zero u)
  new_feeds l_retag (suc (suc (suc i))) u = none_fed l_retag (suc (suc (suc i))) u refl (f1 l_retag _ u) ∙ sym (fT l_retag _ u)
  new_feeds l_branch (suc zero) u = ring_fed l_branch l_retag 1 1 u (set_in l l_retag tt) refl refl refl (f1 l_branch 1 u) ∙ sym (fT l_branch 1 u)
  new_feeds l_branch (suc (suc zero)) u =
      f2 l_branch 2 u ∙ ap taken (f1 l_branch 2 u) ∙ taken_pair 2 ∙ inside_lane (port_get l.lanes 1) condition_of None None refl (λ x e. condition_inside 1 x e) ∙ sym (fT l_branch 2 u)
  new_feeds l_branch zero u = none_fed l_branch zero u refl (f1 l_branch zero u) ∙ sym (fT l_branch zero u)
  new_feeds l_branch (suc (suc (suc i))) u = none_fed l_branch (suc (suc (suc i))) u refl (f1 l_branch _ u) ∙ sym (fT l_branch _ u)
  new_feeds l_out (suc zero) u =
      ring_fed l_out l_tagger 1 2 u (set_in l l_tagger tt) refl refl refl (f1 l_out 1 u ∙ ap (moved rout) (f0 l_out 1 u) ∙ ap Some (rout_new l_branch (exit_out l.goes_back) (set_in l l_branch tt))) ∙ sym (fT l_out 1 u)
  new_feeds l_out zero u = none_fed l_out zero u refl (f1 l_out zero u ∙ ap (moved rout) (f0 l_out zero u)) ∙ sym (fT l_out zero u)
  new_feeds l_out (suc (suc i)) u = none_fed l_out (suc (suc i)) u refl (f1 l_out _ u ∙ ap (moved rout) (f0 l_out _ u)) ∙ sym (fT l_out _ u)
  new_feeds l_vars (suc zero) u = f2 l_vars 1 u ∙ f1 l_pure 1 (set_in l l_pure tt) ∙ sym (fT l_vars 1 u)
  new_feeds l_vars zero u = f2 l_vars zero u ∙ sym (fT l_vars zero u)
  new_feeds l_vars (suc (suc i)) u = f2 l_vars (suc (suc i)) u ∙ sym (fT l_vars _ u)
  new_feeds l_next i u = f2 l_next i u ∙ inside_lane (port_get l.lanes i) data_of None None refl (λ x e. data_inside i x e) ∙ sym (fT l_next i u)
  new_feeds (l_sink j) (suc zero) u = f2 (l_sink j) 1 u ∙ inside_lane (port_get l.lanes (suc j)) condition_of _ _ mark_moved (λ x e. condition_inside (suc j) x e) ∙ sym (fT (l_sink j) 1 u)
  new_feeds (l_sink j) zero u = f2 (l_sink j) zero u ∙ sym (fT (l_sink j) zero u)
  new_feeds (l_sink j) (suc (suc i)) u = f2 (l_sink j) (suc (suc i)) u ∙ sym (fT (l_sink j) _ u)
  new_feeds l_mux i u = none_fed l_mux i u refl (f1 l_mux i u) ∙ sym (fT l_mux i u)
  new_feeds l_cond i u = none_fed l_cond i u refl (f1 l_cond i u) ∙ sym (fT l_cond i u)
  new_feeds l_pure i u = f2 l_pure i u ∙ sym (fT l_pure i u)
  new_feeds l_pair i u = f2 l_pair i u ∙ sym (fT l_pair i u)

  -- at old names
  module _ (n : Name) (old : (x : LastNode) → Listed x → name x ≢ n) where
    not_new : (x : LastNode) → IsSet x → bytes_eq (name x) n ≡ false
    not_new x h = other_test (name x) n (old x (set_in l x h))

    ring_only : has_name ring_gone n ≡ (if bytes_eq m n then true else false)
    ring_only =
        ap (λ b. if bytes_eq m n then true else (if b then true else has_name (name l_pure ∷ name l_pair ∷ name l_cond ∷ name l_branch ∷ []) n)) (not_new l_mux tt)
        ∙ ap (λ b. if bytes_eq m n then true else (if b then true else has_name (name l_pair ∷ name l_cond ∷ name l_branch ∷ []) n)) (not_new l_pure tt)
        ∙ ap (λ b. if bytes_eq m n then true else (if b then true else has_name (name l_cond ∷ name l_branch ∷ []) n)) (not_new l_pair tt)
        ∙ ap (λ b. if bytes_eq m n then true else (if b then true else has_name (name l_branch ∷ []) n)) (not_new l_cond tt)
        ∙ ap (λ b. if bytes_eq m n then true else (if b then true else false)) (not_new l_branch tt)

    pair_not : has_name (name l_pure ∷ name l_pair ∷ []) n ≡ false
    pair_not = ap (λ b. if b then true else has_name (name l_pair ∷ []) n) (not_new l_pure tt) ∙ ap (λ b. if b then true else false) (not_new l_pair tt)

    -- what an old name is
    data Place : Type 0 where
      a_body : In n l.body → has_name l.body n ≡ true → has_name (m ∷ frame_of l) n ≡ false → Place
      a_mark : has_name l.body n ≡ false → has_name (m ∷ frame_of l) n ≡ true → has_name ring_gone n ≡ true → Place
      a_frame : has_name l.body n ≡ false → has_name (m ∷ frame_of l) n ≡ true → has_name ring_gone n ≡ false → has_name (frame_of l ++ l.body) n ≡ true → Place
      outside : has_name l.body n ≡ false → has_name (m ∷ frame_of l) n ≡ false → has_name ring_gone n ≡ false → has_name (frame_of l ++ l.body) n ≡ false → (NodeOf m l n → ⊥) → Place

    not_mark_ring : m ≢ n → has_name ring_gone n ≡ false
    not_mark_ring ne = ring_only ∙ ap (λ b. if b then true else false) (other_test m n ne)

    no_mark_frame : n ≢ m → (In n (frame_of l) → ⊥) → In n (m ∷ frame_of l) → ⊥
    no_mark_frame ne o (head e) = ne e
    no_mark_frame ne o (tail i) = o i

    outside_node : n ≢ m → (In n (frame_of l ++ l.body) → ⊥) → NodeOf m l n → ⊥
    outside_node ne o k =
        elim (third g ty m l at n k) [
          | third_mark e ↦ ne e
          | third_frame j ↦ o (in_left n (frame_of l) l.body j)
          | third_body b ↦ o (in_right n (frame_of l) l.body b)
        ]

    place : Place
    place =
        elim (in_or_out n l.body) [
          | inl b ↦ a_body b (has_true l.body n b) (has_false (m ∷ frame_of l) n (no_mark_frame (λ e. mark_no_body g ty m l at n e b) (body_no_frame g ty m l at n b)))
          | inr nb ↦ elim (name_cases n m) [
            | inl is ↦
                a_mark (has_false l.body n nb) (has_true (m ∷ frame_of l) n (head is.is))
                (ring_only ∙ ap (λ b. if b then true else false) (same_test m n (sym is.is)))
            | inr ne ↦ elim (in_or_out n (frame_of l)) [
              | inl i ↦ a_frame (has_false l.body n nb) (has_true (m ∷ frame_of l) n (tail i)) (not_mark_ring (λ e. ne.is_not (sym e))) (has_true (frame_of l ++ l.body) n (in_left n (frame_of l) l.body i))
              | inr o ↦
                  let none : In n (frame_of l ++ l.body) → ⊥ = λ i. elim (in_either n (frame_of l) l.body i) [ inl j ↦ o j | inr b ↦ nb b ] in
                  outside (has_false l.body n nb) (has_false (m ∷ frame_of l) n (no_mark_frame ne.is_not o)) (not_mark_ring (λ e. ne.is_not (sym e))) (has_false (frame_of l ++ l.body) n none) (outside_node ne.is_not none)
            ]
          ]
        ]

    o0 : T0.kind_at n ≡ (if has_name (frame_of l ++ l.body) n then None else g.kind_at n)
    o0 = ap (λ o. kind_or (gather_kind l f) o (if has_name (frame_of l ++ l.body) n then None else g.kind_at n)) (gathered_old l name names.apart n old)

    o1 : T1.kind_at n ≡ (if has_name ring_gone n then None else T0.kind_at n)
    o1 = ap (λ o. kind_or (ring_kind (tuple_shape l) f l.tags) o (if has_name ring_gone n then None else T0.kind_at n)) (ring_old l name names.apart n old)

    o2 : T2.kind_at n ≡ (if has_name l.body n then g.kind_at n else T1.kind_at n)
    o2 =
        ap (λ o. kind_or (expand_kind l) o (if has_name l.body n then g.kind_at n else (if has_name (name l_pure ∷ name l_pair ∷ []) n then None else T1.kind_at n))) (expand_old l name names.apart n old)
        ∙ ap (λ b. if has_name l.body n then g.kind_at n else (if b then None else T1.kind_at n)) pair_not

    oT : TG.kind_at n ≡ (if has_name (m ∷ frame_of l) n then None else g.kind_at n)
    oT = ap (λ o. kind_or (tag_kind l) o (if has_name (m ∷ frame_of l) n then None else g.kind_at n)) (tagged_old l name names.apart n old)

    kinds_at : Place → T2.kind_at n ≡ TG.kind_at n
    kinds_at (a_body b i j) = o2 ∙ ap (λ z. if z then g.kind_at n else T1.kind_at n) i ∙ sym (oT ∙ ap (λ z. if z then None else g.kind_at n) j)
    kinds_at (a_mark i j k) =
        o2 ∙ ap (λ z. if z then g.kind_at n else T1.kind_at n) i ∙ o1 ∙ ap (λ z. if z then None else T0.kind_at n) k ∙ sym (oT ∙ ap (λ z. if z then None else g.kind_at n) j)
    kinds_at (a_frame i j k h) =
        o2 ∙ ap (λ z. if z then g.kind_at n else T1.kind_at n) i ∙ o1 ∙ ap (λ z. if z then None else T0.kind_at n) k ∙ o0 ∙ ap (λ z. if z then None else g.kind_at n) h
        ∙ sym (oT ∙ ap (λ z. if z then None else g.kind_at n) j)
    kinds_at (outside i j k h o) =
        o2 ∙ ap (λ z. if z then g.kind_at n else T1.kind_at n) i ∙ o1 ∙ ap (λ z. if z then None else T0.kind_at n) k ∙ o0 ∙ ap (λ z. if z then None else g.kind_at n) h
        ∙ sym (oT ∙ ap (λ z. if z then None else g.kind_at n) j)

    module _ (i : ℕ) where
      abbrev p : Port
      p = port_at n i

      g0 : T0.feeder p ≡ (if has_name (frame_of l ++ l.body) n then None else moved (gather_out l nG) (g.feeder p))
      g0 = ap (λ o. source_or (gather_source g m l nG) o i (if has_name (frame_of l ++ l.body) n then None else moved (gather_out l nG) (g.feeder p))) (gathered_old l name names.apart n old)

      g1 : T1.feeder p ≡ (if has_name ring_gone n then None else moved rout (T0.feeder p))
      g1 = ap (λ o. source_or rs o i (if has_name ring_gone n then None else moved rout (T0.feeder p))) (ring_old l name names.apart n old)

      g2 : T2.feeder p ≡ (if has_name l.body n then moved (expand_out l nE) (g.feeder p) else taken (T1.feeder p))
      g2 =
          ap (λ o. source_or es o i (if has_name l.body n then moved (expand_out l nE) (g.feeder p) else (if has_name (name l_pure ∷ name l_pair ∷ []) n then None else taken (T1.feeder p)))) (expand_old l name names.apart n old)
          ∙ ap (λ b. if has_name l.body n then moved (expand_out l nE) (g.feeder p) else (if b then None else taken (T1.feeder p))) pair_not

      gT : TG.feeder p ≡ (if has_name (m ∷ frame_of l) n then None else moved (tag_out l nT) (g.feeder p))
      gT = ap (λ o. source_or (tag_source g m l nT) o i (if has_name (m ∷ frame_of l) n then None else moved (tag_out l nT) (g.feeder p))) (tagged_old l name names.apart n old)

      later : has_name l.body n ≡ false → T2.feeder p ≡ taken (T1.feeder p)
      later e = g2 ∙ ap (λ z. if z then moved (expand_out l nE) (g.feeder p) else taken (T1.feeder p)) e

      goal_none : has_name (m ∷ frame_of l) n ≡ true → TG.feeder p ≡ None
      goal_none e = gT ∙ ap (λ z. if z then None else moved (tag_out l nT) (g.feeder p)) e

      goal_some : has_name (m ∷ frame_of l) n ≡ false → TG.feeder p ≡ moved (tag_out l nT) (g.feeder p)
      goal_some e = gT ∙ ap (λ z. if z then None else moved (tag_out l nT) (g.feeder p)) e

      feeds_at : Place → T2.feeder p ≡ TG.feeder p
      feeds_at (a_body b e j) =
          g2 ∙ ap (λ z. if z then moved (expand_out l nE) (g.feeder p) else taken (T1.feeder p)) e ∙ inside_moved (g.feeder p) (at.body.closed n b i) ∙ sym (goal_some j)
      feeds_at (a_mark e j k) = later e ∙ ap taken (g1 ∙ ap (λ z. if z then None else moved rout (T0.feeder p)) k) ∙ sym (goal_none j)
      feeds_at (a_frame e j k h) =
          later e ∙ ap taken (g1 ∙ ap (λ z. if z then None else moved rout (T0.feeder p)) k ∙ ap (moved rout) (g0 ∙ ap (λ z. if z then None else moved (gather_out l nG) (g.feeder p)) h)) ∙ sym (goal_none j)
      feeds_at (outside e j k h o) =
          later e ∙ ap taken (g1 ∙ ap (λ z. if z then None else moved rout (T0.feeder p)) k ∙ ap (moved rout) (g0 ∙ ap (λ z. if z then None else moved (gather_out l nG) (g.feeder p)) h))
          ∙ through_any p (λ q. o (inner_node m l p q)) (g.feeder p) refl ∙ sym (goal_some j)

  -- each name is one of the new ones, or old
  name_or : (n : Name) (o : Option LastNode) → new_at name (last_nodes l) n ≡ o → ((x : LastNode) × Listed x × (name x ≡ n)) ⊎ ((x : LastNode) → Listed x → name x ≢ n)
  name_or n (Some x) e = let (u, s) = new_is name (last_nodes l) n x e in inl (x, u, s)
  name_or n None e =
      inr (λ x u s. none_some (new_at name (last_nodes l) n) x e (ap (new_at name (last_nodes l)) (sym s) ∙ new_found name (last_nodes l) names.apart x u))

  pub chain_tags : tag_chain g m l f name ≡ TG
  chain_tags =
      circuit_same T2 TG
      (λ n. elim (name_or n (new_at name (last_nodes l) n) refl) [ inl t ↦ ap T2.kind_at (sym t.2) ∙ new_kinds t.0 t.1 ∙ ap TG.kind_at t.2 | inr old ↦ kinds_at n old (place n old) ])
      (λ p. elim (name_or p.node (new_at name (last_nodes l) p.node) refl) [
        | inl t ↦ ap (λ n. T2.feeder (port_at n p.port)) (sym t.2) ∙ new_feeds t.0 p.port t.1 ∙ ap (λ n. TG.feeder (port_at n p.port)) t.2
        | inr old ↦ feeds_at p.node old p.port (place p.node old)
      ])
