-- A mark with a loop has no fault.
use Rattle.std.proofs.Common.{◌≡◌, ◌⊎◌, inl, inr, ℕ, suc, ◌+◌, ◌<◌, ◌≤◌, refl, sym, ap, subst, ◌∙◌, Bool, List, [], ◌∷◌, map, length, Some, arith}
use Rattle.std.specs.List.{concat}
use Rattle.std.proofs.lemmas.List.{length-append}
use Rattle.components.specs.declared.kind.Kind.TheVariants.{Mux, Branch}
use Rattle.components.specs.Name.{Name, Port}
use Rattle.components.specs.Kind.{Shape}
use Rattle.circuits.specs.Circuit.{Circuit, Typed}
use Rattle.circuits.specs.Replacing.{In, In.head, In.tail, NoneTwice}
use Rattle.circuits.specs.Laws.{RootIsOne}
use Rattle.loop_laws.specs.declared.fault.LoopFaultKind.{LoopFaultKind}
use Rattle.loop_laws.specs.declared.fault.LoopFaultKind.TheVariants.{SelectLeaf, NotPure, ForeignInput, BodyCycle, BodyTooBig, BackPath, LanesUneven, ConditionRoot, FreeCondition, FreeData, TooManyLanes, TooWide, OnCycle}
use Rattle.loop_laws.specs.Polarity.{back_in, back_out, exit_bit}
use Rattle.loop_laws.specs.Reached.{port_at, HasKind, IsLane, Reached, Reached.first, Reached.later}
use Rattle.loop_laws.specs.BackPath.{IsBuffer, Through, BranchOf, IsLaneBranch}
use Rattle.loop_laws.specs.Feeders.{IsConstant, Feeder}
use Rattle.loop_laws.specs.BodyOrder.{IsReady, InBodyOrder}
use Rattle.loop_laws.specs.Weight.{weight, weight_of, fields_at, fields_of}
use Rattle.loop_laws.specs.Loop.{Lane, Loop, HasLane, HasBranch, IsInside, LoopAt}
use Rattle.loop_laws.specs.Faults.{InBody, Inside, BodyPath, BodyPath.wire, BodyPath.further, RootsDiffer, Row, Fault}
use Rattle.loop_laws.proofs.NodeKinds.{kind_is, branch_shape}
use Rattle.loop_laws.proofs.BackPaths.{same_start}
use Rattle.loop_laws.proofs.Closed.{tree_kind, lane_kind, feeder_kind}
use Rattle.loop_laws.proofs.Apart.{feeder_fed}
use Rattle.loop_laws.proofs.OneLoop.{map_in, bit_same, init_bit}
use Rattle.loop_laws.proofs.Counting.{no_heavier, ones, weights, fields_sum}

module _ (roots : RootIsOne) (g : Circuit) (ty : Typed g) (m : Name) (l : Loop) (h : LoopAt g m l) where
  abbrev d : Bool
  d = l.goes_back

  inside : (n : Name) → IsInside l n → Inside g m d n
  inside n (inl x) = inl ((h.tree.lanes n).0 x)
  inside n (inr b) = inr ((h.body.body n).0 b)

  inside_back : (n : Name) → Inside g m d n → IsInside l n
  inside_back n (inl x) = inl ((h.tree.lanes n).1 x)
  inside_back n (inr b) = inr ((h.body.body n).1 b)

  -- no cycle
  abbrev Closed : List Name → Type 0
  Closed placed = (x : Name) (i : ℕ) (q : Port) → In x placed → g.feeder (port_at x i) ≡ Some q → In q.node l.body → In q.node placed

  start_body : (a b : Name) → BodyPath g m d a b → InBody g m d a
  start_body a b (wire i q e s f t) = s
  start_body a b (further i q p f t) = start_body a q.node p

  end_body : (a b : Name) → BodyPath g m d a b → InBody g m d b
  end_body a b (wire i q e s f t) = t
  end_body a b (further i q p f t) = t

  path_placed : (placed : List Name) → Closed placed → (a b : Name) → BodyPath g m d a b → In b placed → In a placed
  path_placed placed c a b (wire i q e s f t) j =
      subst (λ z. In z placed) e (c b i q j f ((h.body.body q.node).1 (subst (InBody g m d) (sym e) s)))
  path_placed placed c a b (further i q p f t) j = path_placed placed c a q.node p (c b i q j f ((h.body.body q.node).1 (end_body a q.node p)))

  round : (placed : List Name) (n : Name) → IsReady g l.body placed n → Closed placed → BodyPath g m d n n → ⊥
  round placed n r c (wire i q e s f t) = r.open_yet (subst (λ z. In z placed) e (r.inputs i q f ((h.body.body q.node).1 (subst (InBody g m d) (sym e) s))))
  round placed n r c (further i q p f t) = r.open_yet (path_placed placed c n q.node p (r.inputs i q f ((h.body.body q.node).1 (end_body n q.node p))))

  closed_more : (n : Name) (placed : List Name) → IsReady g l.body placed n → Closed placed → Closed (n ∷ placed)
  closed_more n placed r c x i q (head e) f b = tail (r.inputs i q (ap (λ z. g.feeder (port_at z i)) (sym e) ∙ f) b)
  closed_more n placed r c x i q (tail j) f b = tail (c x i q j f b)

  no_cycle : (placed ns : List Name) → InBodyOrder g l.body placed ns → Closed placed → (n : Name) → In n ns → BodyPath g m d n n → ⊥
  no_cycle placed [] o c n i p = elim i [ ]
  no_cycle placed (x ∷ xs) o c n (head e) p = round placed x o.0 c (subst (λ z. BodyPath g m d z z) e p)
  no_cycle placed (x ∷ xs) o c n (tail i) p = no_cycle (x ∷ placed) xs o.2 (closed_more x placed o.0 c) n i p

  -- the Branches
  branch_start : (r : Name) (a : Shape) → g.kind_at r ≡ Some (Branch a) → HasKind g IsBuffer r → ⊥
  branch_start r a e b = kind_is g IsBuffer r (Branch a) b e

  lane_start : (x : Name) → HasLane l x → (q : Port) (bs : List Name) → Through g q bs (port_at x (back_in d)) → (HasKind g IsBuffer q.node → ⊥) → (r : Name) × HasBranch l r × (q ≡ port_at r (back_out d))
  lane_start x (y, i, e) q bs t nq =
      let o = h.tree.each_lane y i in
      let same = same_start g (port_at x (back_in d)) bs y.back q (port_at y.branch (back_out d)) t
      (subst (λ z. Through g (port_at y.branch (back_out d)) y.back (port_at z (back_in d))) e o.path) nq (branch_start y.branch y.shape o.is_branch) in
      (y.branch, (y, i, refl), same.0)

  branch_of : (x r : Name) → BranchOf g m d x r → HasBranch l r
  branch_of x r b =
      let (s, has, e) = lane_start x ((h.tree.lanes x).1 b.is_lane) (port_at r (back_out d)) b.back b.path (branch_start r b.shape b.is_branch) in
      subst (HasBranch l) (ap (λ (z : Port). z.node) (sym e)) has

  lane_branch : (r : Name) → IsLaneBranch g m d r → HasBranch l r
  lane_branch r (lane, b) = branch_of lane r b

  branch_lane : (r : Name) → HasBranch l r → IsLaneBranch g m d r
  branch_lane r (y, i, e) =
      let o = h.tree.each_lane y i in (
        y.mux,
        record {
          is_lane = (h.tree.lanes y.mux).0 (y, i, refl);
          shape = y.shape;
          is_branch = ap g.kind_at (sym e) ∙ o.is_branch;
          back = y.back;
          path = subst (λ z. Through g (port_at z (back_out d)) y.back (port_at y.mux (back_in d))) e o.path;
        },
      )

  roots_agree : (r s : Name) → HasBranch l r → HasBranch l s → RootsDiffer g (port_at r 2) (port_at s 2) → ⊥
  roots_agree r s x y differ = differ.0 h.condition.condition (h.condition.decides r x) (h.condition.decides s y)

  -- a reached node is no feeder
  reached_no_feeder : (n : Name) → Reached g m n → Feeder g m d n → ⊥
  reached_no_feeder n (first i q x f pass) k =
      kind_is g IsConstant q.node (Mux x.shape) (feeder_kind g ty m l h q.node (feeder_fed g m d n k i q f)) x.is_mux
  reached_no_feeder n (later i q r f pass) k = reached_no_feeder q.node r (feeder_fed g m d n k i q f)

  lane_no_feeder : (n : Name) → HasLane l n → Feeder g m d n → ⊥
  lane_no_feeder n x k = let (a, e) = lane_kind g ty m l h n x in kind_is g IsConstant n (Mux a) (feeder_kind g ty m l h n k) e

  -- the limits
  muxes : List Name
  muxes = map (λ (x : Lane). x.mux) l.lanes

  count_lanes : (xs : List Lane) → length (map (λ (x : Lane). x.mux) xs) ≡ length xs
  count_lanes [] = refl
  count_lanes (x ∷ xs) = ap suc (count_lanes xs)

  count_fields : (xs : List Lane) → ((x : Lane) → In x xs → g.kind_at x.mux ≡ Some (Mux x.shape)) → fields_of g (map (λ (x : Lane). x.mux) xs) ≡ length (concat (map (λ (x : Lane). x.shape) xs))
  count_fields [] h = refl
  count_fields (x ∷ xs) h =
      ap (λ k. fields_at k + fields_of g (map (λ (x : Lane). x.mux) xs)) (h x (head refl))
      ∙ ap (λ z. length x.shape + z) (count_fields xs (λ y i. h y (tail i)))
      ∙ sym (length-append x.shape (concat (map (λ (x : Lane). x.shape) xs)))

  few_lanes : (ns : List Name) → NoneTwice ns → ((x : Name) → In x ns → IsLane g m x) → length ns ≤ 62
  unfolding muxes
  few_lanes ns once are =
      let less = no_heavier (λ x. 1) ns muxes once (λ x i. map_in l.lanes x ((h.tree.lanes x).1 (are x i))) in
      let a = ones ns in
      let b = ones muxes in
      let c = count_lanes l.lanes in
      let e = h.narrow in
      omega (arith, less, a, b, c, e)

  narrow_lanes : (ns : List Name) → NoneTwice ns → ((x : Name) → In x ns → IsLane g m x) → fields_of g ns ≤ 127
  unfolding muxes
  narrow_lanes ns once are =
      let less = no_heavier (λ x. fields_at (g.kind_at x)) ns muxes once (λ x i. map_in l.lanes x ((h.tree.lanes x).1 (are x i))) in
      let a = fields_sum g ns in
      let b = fields_sum g muxes in
      let c = count_fields l.lanes (λ x i. (h.tree.each_lane x i).is_mux) in
      let e = h.slim in
      omega (arith, less, a, b, c, e)

  body_small : (ns : List Name) → NoneTwice ns → ((x : Name) → In x ns → InBody g m d x) → (4096 < length ns) ⊎ (16384 < weight_of g ns) → ⊥
  body_small ns once are (inl big) =
      let less = no_heavier (λ x. 1) ns l.body once (λ x i. (h.body.body x).1 (are x i)) in
      let a = ones ns in
      let b = ones l.body in
      let e = h.body.few in
      omega (arith, less, a, b, e)
  body_small ns once are (inr big) =
      let less = no_heavier (λ x. weight (g.kind_at x)) ns l.body once (λ x i. (h.body.body x).1 (are x i)) in
      let a = weights g ns in
      let b = weights g l.body in
      let e = h.body.light in
      omega (arith, less, a, b, e)

  pub no_row : (k : LoopFaultKind) (n : Name) → Row g m d k n → ⊥
  no_row SelectLeaf n (i, q, t, f, not_tree, not_mux) =
      elim (h.tree.leaves (port_at n i) q t f) [
        | inl j ↦ not_tree (tree_kind g ty m l h n j)
        | inr s ↦ let (a, e) = lane_kind g ty m l h n s.1 in not_mux (s.0, (Mux a, e, tt))
      ]
  no_row NotPure n (r, impure) = impure (h.body.pure n r)
  no_row ForeignInput n (b, i, q, f, out) = out (inside q.node (h.body.closed n ((h.body.body n).1 b) i q f))
  no_row BodyCycle n p = no_cycle [] l.body h.body.in_order (λ x i q e f b. elim e [ ]) n ((h.body.body n).1 (start_body n n p)) p
  no_row BodyTooBig n (e, ns, once, are, big) = body_small ns once are big
  no_row BackPath n (x, q, bs, t, nq, away) =
      let (r, b, e) = lane_start n ((h.tree.lanes n).1 x) q bs t nq in
      let k = branch_lane r b in
      away (ap (λ (z : Port). z.port) e, (Branch k.1.shape, ap (λ (z : Port). g.kind_at z.node) e ∙ k.1.is_branch, tt))
  no_row LanesUneven n ((kind, e, b), i, q, f, inl (s, none)) =
      let (a, is) = branch_shape kind b in none (branch_lane n (h.branches.entered (port_at n i) q a (inside_back q.node s) f (e ∙ ap Some is)))
  no_row LanesUneven n (k, i, q, f, inr (b, out)) = out (inside q.node (h.branches.branches n (lane_branch n b) i q f))
  no_row ConditionRoot n (r, fb, inl (x, b, differ, before)) = roots_agree n r (branch_of x n b) (branch_of fb.lane r fb.its) differ
  no_row ConditionRoot n (r, fb, inr (e, differ, none)) = differ.0 h.condition.condition h.condition.decides_mark (h.condition.decides r (branch_of fb.lane r fb.its))
  no_row FreeCondition n (r, fb, c, root, e, k) =
      h.condition.bound (subst (Feeder g m d) (sym e ∙ ap (λ (z : Port). z.node) (roots g (port_at r 2) c h.condition.condition root (h.condition.decides r (branch_of fb.lane r fb.its)))) k)
  no_row FreeData n (fb, all) =
      let k = branch_lane h.branches.data_lane.branch (h.branches.data_lane, h.branches.is_data_lane, refl) in
      let free : Feeder g m d h.branches.data_source.node =
      all k.0 h.branches.data_lane.branch k.1 h.branches.data_source h.branches.is_data in
      elim h.branches.bound_data [ inl x ↦ lane_no_feeder h.branches.data_source.node x free | inr r ↦ reached_no_feeder h.branches.data_source.node r free ]
  no_row TooManyLanes n (e, ns, once, are, big) = let h = few_lanes ns once are in omega (arith, h, big)
  no_row TooWide n (e, ns, once, are, big) = let h = narrow_lanes ns once are in omega (arith, h, big)
  no_row OnCycle n row = row

-- a mark with a loop has no fault
pub faultless : (roots : RootIsOne) (g : Circuit) → Typed g → (m : Name) (l : Loop) → LoopAt g m l → (k : LoopFaultKind) (n : Name) → Fault g m k n → ⊥
faultless roots g ty m l h k n f =
    let same : f.goes_back ≡ l.goes_back = bit_same f.goes_back l.goes_back (init_bit (exit_bit f.goes_back) (exit_bit l.goes_back) f.tags l.tags (sym f.mark.0 ∙ h.mark.0)) in
    no_row roots g ty m l h k n (subst (λ d. Row g m d k n) same f.row)
