-- Behind combined Muxes the body of a loop can be gathered.
use Rattle.std.proofs.Common.{◌≡◌, ◌≢◌, ◌⊎◌, inl, inr, ℕ, zero, suc, ◌+◌, ◌≤◌, refl, sym, ap, subst, ◌∙◌, Bool, true, false, if◌then◌else◌, List, [], ◌∷◌, ◌++◌, map, Option, Some, None, arith}
use Rattle.std.proofs.lemmas.Option.{same_Some}
use Rattle.components.specs.Name.{Name, Port, port_get}
use Rattle.components.specs.declared.kind.Kind.{Kind}
use Rattle.components.specs.declared.kind.Kind.TheVariants.{Source0, Buffer, Fork, Join, Split, Operator, Constant, Pure, Mux, Branch, Init}
use Rattle.circuits.proofs.Beside.{none_some}
use Rattle.circuits.specs.Circuit.{Circuit, Typed}
use Rattle.circuits.specs.Replacing.{In, In.head, In.tail, NoneTwice}
use Rattle.circuits.specs.Root.{PassesThrough, Root, Root.here, Root.past}
use Rattle.loop_laws.proofs.Closed.{lane_kind, branch_kind, body_kind, tree_kind, feeder_kind, mark_fed, condition_bound}
use Rattle.loop_laws.proofs.NodeKinds.{kind_is, IsBodyKind}
use Rattle.loop_laws.proofs.OneLoop.{in_map, map_in}
use Rattle.loop_laws.specs.BodyOrder.{InBodyOrder}
use Rattle.loop_laws.specs.Faults.{IsBranch}
use Rattle.loop_laws.specs.Feeders.{IsConstant}
use Rattle.loop_laws.specs.Loop.{Lane, Loop, HasLane, HasBranch, IsInside, LoopAt}
use Rattle.loop_laws.specs.Polarity.{exit_bit}
use Rattle.loop_laws.specs.Reached.{port_at, Reached, Reached.first, Reached.later, IsPure, HasKind}
use Rattle.loop_laws.specs.Weight.{weight, weight_of}
use Rattle.loop_turns.proofs.Lists.{in_or_out, in_right}
use Rattle.loop_turns.proofs.LoopCombines.{listed_frame, no_listed, each_of, once_joined}
use Rattle.loop_turns.proofs.LoopFrame.{FrameNode.of_branch, node_frame, body_no_frame, mark_no_frame, mark_no_body, in_branches, branches_in, muxes_unlike, branches_unlike, branch_not_mark, mux_branch, Receives, Receives.by_mark, Receives.by_data, Receives.by_condition, Receives.by_body, receives}
use Rattle.loop_turns.proofs.LoopLookups.{in_either, in_at, at_in, place_at, place_none, Unlike, unlike_rest}
use Rattle.loop_turns.proofs.Rebuilding.{Stays, kind_new, kind_stays, source_stays, Enters.to_new, Enters.to_old, enters}
use Rattle.loop_turns.specs.Lanes.{fed_lane, port_or, lane_place, fresh_of}
use Rattle.loop_turns.specs.Rebuilt.{moved, NewNames}
use Rattle.loop_turns.specs.Uses.{CombineNode, CombineNode.lanes_in, CombineNode.lanes_back, CombineNode.lanes_mux, CombineNode.lanes_vars, combine_nodes, combine_kind, combine_out, combine_source, combined_graph, back_of, IsSource, ReachedFrom, ReachedFrom.from_v, ReachedFrom.from_b, FromEarlier, CanGather}

constant_sort : (k : Kind) → IsConstant k → IsPure k ⊎ IsSource k
constant_sort (Source0 a) h = inr tt
constant_sort (Buffer a) h = inl tt
constant_sort (Fork a k) h = inl tt
constant_sort (Join bs) h = inl tt
constant_sort (Split bs) h = inl tt
constant_sort (Operator o ws w) h = inl tt
constant_sort (Constant a w v) h = inl tt
constant_sort (Pure f b) h = inl tt
constant_sort _ h = absurd h

-- an order places none twice
not_placed : (g : Circuit) (body placed ns : List Name) → InBodyOrder g body placed ns → (n : Name) → In n ns → In n placed → ⊥
not_placed g body placed [] o n i p = elim i [ ]
not_placed g body placed (k ∷ ks) o n (head e) p = o.0.open_yet (subst (λ z. In z placed) e p)
not_placed g body placed (k ∷ ks) o n (tail i) p = not_placed g body (k ∷ placed) ks o.2 n i (tail p)

order_once : (g : Circuit) (body placed ns : List Name) → InBodyOrder g body placed ns → NoneTwice ns
order_once g body placed [] o = tt
order_once g body placed (k ∷ ks) o =
    (each_of (λ z. k ≢ z) ks (λ z i e. not_placed g body (k ∷ placed) ks o.2 z i (head (sym e))), order_once g body (k ∷ placed) ks o.2)

unlike_once : (f : Lane → Name) (xs : List Lane) → Unlike f xs → NoneTwice (map f xs)
unlike_once f [] u = tt
unlike_once f (x ∷ xs) u = (each_of (λ z. f x ≢ z) (map f xs) (λ z i e. other z i e), unlike_once f xs (unlike_rest f x xs u))
  where
    found : (ys : List Lane) (z : Name) → In z (map f ys) → (y : Lane) × In y ys × (f y ≡ z)
    found [] z i = elim i [ ]
    found (y ∷ ys) z (head e) = (y, head refl, sym e)
    found (y ∷ ys) z (tail i) = let (w, j, e) = found ys z i in (w, tail j, e)

    far : (j : ℕ) → 1 ≡ suc (suc j) → ⊥
    far j e = omega arith

    other : (z : Name) → In z (map f xs) → f x ≡ z → ⊥
    other z i e =
        let (y, k, s) = found xs z i in
        let (j, h) = in_at xs y k in
        far j (u 1 (suc (suc j)) x y refl h (e ∙ sym s))

module _ (g : Circuit) (ty : Typed g) (m : Name) (l : Loop) (at : LoopAt g m l) (name : CombineNode → Name) (names : NewNames g combine_nodes name) where
  abbrev muxes : List Name
  muxes = map (λ (x : Lane). x.mux) l.lanes

  abbrev gone : List Name
  gone = l.tree ++ muxes

  abbrev C : Circuit
  C = combined_graph g m l name

  abbrev out : Port → Port
  out = combine_out l name

  abbrev v : Name
  v = name lanes_vars

  abbrev rs : List Name
  rs = map (λ (x : Lane). x.branch) l.lanes

  listed : (x : CombineNode) → In x combine_nodes
  listed lanes_in = head refl
  listed lanes_back = tail (head refl)
  listed lanes_mux = tail (tail (head refl))
  listed lanes_vars = tail (tail (tail (head refl)))

  kn : (x : CombineNode) → C.kind_at (name x) ≡ Some (combine_kind l x)
  kn x = kind_new g gone name combine_nodes (combine_kind l) (combine_source g m l name) out names x (listed x)

  ks : (n : Name) → Stays g gone n → C.kind_at n ≡ g.kind_at n
  ks = kind_stays g gone name combine_nodes (combine_kind l) (combine_source g m l name) out names

  fs : (p : Port) → Stays g gone p.node → C.feeder p ≡ moved out (g.feeder p)
  fs = source_stays g gone name combine_nodes (combine_kind l) (combine_source g m l name) out names

  not_new : (x : CombineNode) (n : Name) (k : Kind) → g.kind_at n ≡ Some k → n ≡ name x → ⊥
  not_new x n k e is = none_some (g.kind_at n) k (ap g.kind_at is ∙ names.fresh x (listed x)) e

  -- what stays
  body_stays : (n : Name) → In n l.body → Stays g gone n
  body_stays n b = let k = body_kind g ty m l at n b in (k.0, k.1, λ i. body_no_frame g ty m l at n b (node_frame l n (listed_frame g ty m l at n i)))

  branch_stays : (n : Name) → HasBranch l n → Stays g gone n
  branch_stays n x = let k = branch_kind g ty m l at n x in (Branch k.0, k.1, λ i. gone_branch (in_either n l.tree muxes i))
    where
      gone_branch : In n l.tree ⊎ In n muxes → ⊥
      gone_branch (inl t) = let k = branch_kind g ty m l at n x in kind_is g PassesThrough n (Branch k.0) (tree_kind g ty m l at n t) k.1
      gone_branch (inr y) = mux_branch g ty m l at n (in_map l.lanes n y) x

  mark_stays : Stays g gone m
  mark_stays = (Init (exit_bit l.goes_back) l.tags, at.mark.0, λ i. mark_no_frame g ty m l at m refl (node_frame l m (listed_frame g ty m l at m i)))

  -- what stands for an output
  out_lane : (q : Port) (x : HasLane l q.node) → (j : ℕ) × (out q ≡ port_at v j)
  out_lane q (x, u, e) =
      let (j, k) = in_at l.lanes x u in (
        suc j,
        ap (λ o. port_or o v q) (ap (lane_place (λ (z : Lane). z.mux) l.lanes) (sym e) ∙ place_at (λ (z : Lane). z.mux) l.lanes (muxes_unlike g ty m l at) (suc j) x k),
      )

  out_other : (q : Port) → (In q.node muxes → ⊥) → out q ≡ q
  out_other q away = ap (λ o. port_or o v q) (place_none (λ (z : Lane). z.mux) l.lanes q.node (λ y u e. away (map_in l.lanes q.node (y, u, e))))

  body_no_mux : (n : Name) → In n l.body → In n muxes → ⊥
  body_no_mux n b i = let (a, e) = lane_kind g ty m l at n (in_map l.lanes n i) in kind_is g IsBodyKind n (Mux a) (body_kind g ty m l at n b) e

  out_inside : (q : Port) → IsInside l q.node → In (out q).node (v ∷ l.body)
  out_inside q (inl x) = let (j, e) = out_lane q x in head (ap (λ (z : Port). z.node) e)
  out_inside q (inr b) = tail (subst (λ (z : Port). In z.node l.body) (sym (out_other q (body_no_mux q.node b))) b)

  inside_of : (p q0 q : Port) → g.feeder p ≡ Some q0 → q ≡ out q0 → In q.node (v ∷ l.body) → IsInside l q0.node
  inside_of p q0 q f e i =
      elim (in_or_out q0.node muxes) [
        | inl x ↦ inl (in_map l.lanes q0.node x)
        | inr away ↦ inr (old_inside (subst (λ (z : Port). In z.node (v ∷ l.body)) (e ∙ out_other q0 away) i))
      ]
    where
      old_inside : In q0.node (v ∷ l.body) → In q0.node l.body
      old_inside (head s) = let w = ty.wires p q0 f in absurd (not_new lanes_vars q0.node w.from w.is_from s)
      old_inside (tail b) = b

  -- what vars and the body feed
  lane_feeds : (input : Lane → Port) → ((x : Lane) → In x l.lanes → In (input x).node muxes) → (j : ℕ) (q : Port) (o : Option Lane) → port_get l.lanes j ≡ o → fed_lane g out o input None ≡ Some q → In q.node (v ∷ l.body) → ⊥
  lane_feeds input are j q None h e i = none_some None q refl e
  lane_feeds input are j q (Some x) h e i = through (g.feeder (input x)) refl e
    where
      through : (o : Option Port) → g.feeder (input x) ≡ o → moved out o ≡ Some q → ⊥
      through None f s = none_some None q refl s
      through (Some q0) f s =
          no_listed g ty m l at (input x) (receives g ty m l at (input x) q0 f (inside_of (input x) q0 q f (sym (same_Some (out q0) q s)) i))
          (in_right (input x).node l.tree muxes (are x (at_in l.lanes j x h)))

  not_within : (n : Name) → (n ≡ m) ⊎ ((x : CombineNode) × (n ≡ name x) × (x ≡ lanes_vars → ⊥)) → In n (v ∷ l.body) → ⊥
  not_within n (inl e) (head s) = not_new lanes_vars n (Init (exit_bit l.goes_back) l.tags) (ap g.kind_at e ∙ at.mark.0) s
  not_within n (inl e) (tail b) = mark_no_body g ty m l at n e b
  not_within n (inr (x, e, ne)) (head s) = ne (names.apart x lanes_vars (listed x) (listed lanes_vars) (sym e ∙ s))
  not_within n (inr (x, e, ne)) (tail b) = let k = body_kind g ty m l at n b in not_new x n k.0 k.1 e

  lane_mux : (x : Lane) → In x l.lanes → In x.mux muxes
  lane_mux x u = map_in l.lanes x.mux (x, u, refl)

  two_not : (q : Port) (d : Bool) (a b : Option Port) → (a ≡ Some q → ⊥) → (b ≡ Some q → ⊥) → (if d then a else b) ≡ Some q → ⊥
  two_not q true a b na nb e = na e
  two_not q false a b na nb e = nb e

  new_feeds : (x : CombineNode) (i : ℕ) (q : Port) → combine_source g m l name x i ≡ Some q → In q.node (v ∷ l.body) → ⊥
  new_feeds lanes_in i q e j = lane_feeds (fresh_of l) (λ x u. lane_mux x u) i q (port_get l.lanes i) refl e j
  new_feeds lanes_back i q e j = lane_feeds (back_of l) (λ x u. lane_mux x u) i q (port_get l.lanes i) refl e j
  new_feeds lanes_mux (suc zero) q e j = not_within q.node (inl (ap (λ (z : Port). z.node) (sym (same_Some _ q e)))) j
  new_feeds lanes_mux (suc (suc zero)) q e j =
      two_not q l.goes_back (Some (port_at (name lanes_in) 1)) (Some (port_at (name lanes_back) 1))
      (λ s. not_within q.node (inr (lanes_in, ap (λ (z : Port). z.node) (sym (same_Some _ q s)), λ t. cc)) j)
      (λ s. not_within q.node (inr (lanes_back, ap (λ (z : Port). z.node) (sym (same_Some _ q s)), λ t. cc)) j) e
  new_feeds lanes_mux (suc (suc (suc zero))) q e j =
      two_not q l.goes_back (Some (port_at (name lanes_back) 1)) (Some (port_at (name lanes_in) 1))
      (λ s. not_within q.node (inr (lanes_back, ap (λ (z : Port). z.node) (sym (same_Some _ q s)), λ t. cc)) j)
      (λ s. not_within q.node (inr (lanes_in, ap (λ (z : Port). z.node) (sym (same_Some _ q s)), λ t. cc)) j) e
  new_feeds lanes_vars (suc zero) q e j = not_within q.node (inr (lanes_mux, ap (λ (z : Port). z.node) (sym (same_Some _ q e)), λ t. cc)) j
  new_feeds _ _ q e j = none_some None q refl e

  gathered_feeds : (p q : Port) → In q.node (v ∷ l.body) → C.feeder p ≡ Some q → Receives g ty m l at p
  gathered_feeds p q i f =
      elim (enters g gone name combine_nodes (combine_kind l) (combine_source g m l name) out names ty p q f) [
        | to_new x u e s ↦ absurd (new_feeds x p.port q s i)
        | to_old q0 s h e ↦ receives g ty m l at p q0 h (inside_of p q0 q h e i)
      ]

  leaves : (p q : Port) → In q.node (v ∷ l.body) → C.feeder p ≡ Some q → In p.node l.body ⊎ (In p.node rs ⊎ (p ≡ port_at m 1))
  leaves p q i f = sorted (gathered_feeds p q i f)
    where
      sorted : Receives g ty m l at p → In p.node l.body ⊎ (In p.node rs ⊎ (p ≡ port_at m 1))
      sorted (by_mark e) = inr (inr e)
      sorted (by_data x u e) = inr (inl (branches_in l.lanes p.node (x, u, ap (λ (z : Port). z.node) (sym e))))
      sorted (by_condition x u e) = inr (inl (branches_in l.lanes p.node (x, u, ap (λ (z : Port). z.node) (sym e))))
      sorted (by_body b) = inl b

  -- what feeds a node that stays
  fed_now : (p q0 : Port) → Stays g gone p.node → g.feeder p ≡ Some q0 → C.feeder p ≡ Some (out q0)
  fed_now p q0 s f = fs p s ∙ ap (moved out) f

  fed_from : (p q : Port) → Stays g gone p.node → ((q0 : Port) → g.feeder p ≡ Some q0 → IsInside l q0.node) → C.feeder p ≡ Some q → In q.node (v ∷ l.body)
  fed_from p q s inside f = through (g.feeder p) refl (sym (fs p s) ∙ f)
    where
      through : (o : Option Port) → g.feeder p ≡ o → moved out o ≡ Some q → In q.node (v ∷ l.body)
      through None h e = absurd (none_some None q refl e)
      through (Some q0) h e = subst (λ (z : Port). In z.node (v ∷ l.body)) (same_Some (out q0) q e) (out_inside q0 (inside q0 h))

  -- the order
  earlier : (placed before ns : List Name) → InBodyOrder g l.body placed ns → In v before → ((n : Name) → In n placed → In n before) → FromEarlier C before ns
  earlier placed before [] o has sub = tt
  earlier placed before (n ∷ ns) o has sub = (
    λ i q f. step (g.feeder (port_at n i)) i q refl (sym (fs (port_at n i) (body_stays n o.0.in_body)) ∙ f),
    earlier (n ∷ placed) (n ∷ before) ns o.2 (tail has) (λ k i. elim i [ head e ↦ head e | tail j ↦ tail (sub k j) ]),
  )
    where
      step : (w : Option Port) (i : ℕ) (q : Port) → g.feeder (port_at n i) ≡ w → moved out w ≡ Some q → In q.node before
      step None i q h e = absurd (none_some None q refl e)
      step (Some q0) i q h e =
          elim (at.body.closed n o.0.in_body i q0 h) [
            | inl x ↦ let (j, s) = out_lane q0 x in subst (λ z. In z before) (sym (ap (λ (z : Port). z.node) (sym (same_Some (out q0) q e) ∙ s))) has
            | inr b ↦
                subst (λ (z : Port). In z.node before) (sym (out_other q0 (body_no_mux q0.node b)) ∙ same_Some (out q0) q e) (sub q0.node (o.0.inputs i q0 h b))
          ]

  -- the roots
  inside_kind : (c : Port) → IsInside l c.node → HasKind g (λ k. PassesThrough k → ⊥) c.node → HasKind C (λ k. PassesThrough k → ⊥) (out c).node
  inside_kind c (inl x) k = let (j, e) = out_lane c x in (combine_kind l lanes_vars, ap (λ (z : Port). C.kind_at z.node) e ∙ kn lanes_vars, λ h. h)
  inside_kind c (inr b) k = (k.0, ap (λ (z : Port). C.kind_at z.node) (out_other c (body_no_mux c.node b)) ∙ ks c.node (body_stays c.node b) ∙ k.1, k.2)

  tree_body : (n : Name) → IsInside l n → HasKind g PassesThrough n → In n l.body
  tree_body n (inl x) k = let (a, e) = lane_kind g ty m l at n x in absurd (kind_is g PassesThrough n (Mux a) k e)
  tree_body n (inr b) k = b

  root_now : (p c : Port) → Root g p c → Stays g gone p.node → ((q : Port) → g.feeder p ≡ Some q → IsInside l q.node) → Root C p (out c)
  root_now p c (here k f e stops) s inside =
      let now = inside_kind c (inside c f) (k, e, stops) in
      here now.0 (fed_now p c s f) now.1 now.2
  root_now p c (past r k f e passes next) s inside =
      let b : In r.node l.body = tree_body r.node (inside r f) (k, e, passes) in
      past r k (fed_now p r s f ∙ ap Some (out_other r (body_no_mux r.node b))) (ks r.node (body_stays r.node b) ∙ e) passes
      (root_now (port_at r.node 1) c next (body_stays r.node b) (at.body.closed r.node b 1))

  -- what is reached
  in_body_of : (n : Name) → Reached g m n → In n l.body
  in_body_of n r = (at.body.body n).1 (inl r)

  reached_now : (n : Name) → Reached g m n → ReachedFrom C v l.body n
  reached_now n (first i q x f pass) =
      let b : In n l.body = in_body_of n (first i q x f pass) in
      let (j, e) = out_lane q ((at.tree.lanes q.node).1 x) in
      from_v i (out q) (ap (λ (z : Port). z.node) e) (fed_now (port_at n i) q (body_stays n b) f) b
  reached_now n (later i q r f pass) =
      let b : In n l.body = in_body_of n (later i q r f pass) in
      let qb : In q.node l.body = in_body_of q.node r in
      from_b i q (reached_now q.node r) (fed_now (port_at n i) q (body_stays n b) f ∙ ap Some (out_other q (body_no_mux q.node qb))) b

  bound_now : (c : Port) → HasLane l c.node ⊎ Reached g m c.node → ((out c).node ≡ v) ⊎ ReachedFrom C v l.body (out c).node
  bound_now c (inl x) = let (j, e) = out_lane c x in inl (ap (λ (z : Port). z.node) e)
  bound_now c (inr r) =
      inr (subst (λ (z : Port). ReachedFrom C v l.body z.node) (sym (out_other c (body_no_mux c.node (in_body_of c.node r)))) (reached_now c.node r))

  body_sort : (n : Name) → In n l.body → HasKind C IsPure n ⊎ HasKind C IsSource n
  body_sort n b =
      let same = ks n (body_stays n b) in
      elim ((at.body.body n).0 b) [
        | inl r ↦ let k = at.body.pure n r in inl (k.0, same ∙ k.1, k.2)
        | inr f ↦
            let k = feeder_kind g ty m l at n f in
            elim (constant_sort k.0 k.2) [ inl p ↦ inl (k.0, same ∙ k.1, p) | inr s ↦ inr (k.0, same ∙ k.1, s) ]
      ]

  weight_now : (ns : List Name) → ((n : Name) → In n ns → In n l.body) → weight_of C ns ≡ weight_of g ns
  weight_now [] sub = refl
  weight_now (n ∷ ns) sub =
      ap (λ k. weight k + weight_of C ns) (ks n (body_stays n (sub n (head refl)))) ∙ ap (λ w. weight (g.kind_at n) + w) (weight_now ns (λ k i. sub k (tail i)))

  -- the names
  old_kind : (n : Name) → In n (l.body ++ (rs ++ m ∷ [])) → (k : Kind) × (g.kind_at n ≡ Some k)
  old_kind n i = elim (in_either n l.body (rs ++ m ∷ []) i) [
    | inl b ↦ let k = body_kind g ty m l at n b in (k.0, k.1)
    | inr j ↦ elim (in_either n rs (m ∷ []) j) [
      | inl r ↦ let k = branch_kind g ty m l at n (in_branches l.lanes n r) in (Branch k.0, k.1)
      | inr k ↦ elim k [ head e ↦ (Init (exit_bit l.goes_back) l.tags, ap g.kind_at e ∙ at.mark.0) | tail z ↦ elim z [ ] ]
    ]
  ]

  last_once : (n : Name) → In n rs → In n (m ∷ []) → ⊥
  last_once n i (head e) = let (x, u, s) = in_branches l.lanes n i in branch_not_mark g ty m l at x u (s ∙ e)
  last_once n i (tail j) = elim j [ ]

  body_apart : (n : Name) → In n l.body → In n (rs ++ m ∷ []) → ⊥
  body_apart n b i = elim (in_either n rs (m ∷ []) i) [
    | inl r ↦ body_no_frame g ty m l at n b (node_frame l n (of_branch (in_branches l.lanes n r)))
    | inr k ↦ elim k [ head e ↦ mark_no_body g ty m l at n e b | tail z ↦ elim z [ ] ]
  ]

  different : NoneTwice (v ∷ (l.body ++ (rs ++ m ∷ [])))
  different = (
    each_of (λ z. v ≢ z) (l.body ++ (rs ++ m ∷ [])) (λ z i e. let k = old_kind z i in not_new lanes_vars z k.0 k.1 (sym e)),
    once_joined l.body (rs ++ m ∷ []) (order_once g l.body [] l.body at.body.in_order)
        (once_joined rs (m ∷ []) (unlike_once (λ (x : Lane). x.branch) l.lanes (branches_unlike g ty m l at)) (tt, tt) last_once) body_apart,
  )

  branch_now : (n : Name) → In n rs → HasKind C IsBranch n
  branch_now n i =
      let x : HasBranch l n = in_branches l.lanes n i in
      let k = branch_kind g ty m l at n x in
      (Branch k.0, ks n (branch_stays n x) ∙ k.1, tt)

  pub can_gather : CanGather C v l.body rs m
  can_gather =
      record {
        different = different;
        split = (combine_kind l lanes_vars, kn lanes_vars, tt);
        kinds = body_sort;
        in_order = earlier [] (v ∷ []) l.body at.body.in_order (head refl) (λ n i. elim i [ ]);
        branches = branch_now;
        leaves = leaves;
        data_fed = λ r i j q f. let x : HasBranch l r = in_branches l.lanes r i in fed_from (port_at r j) q (branch_stays r x) (at.branches.branches r x j) f;
        mark_fed = λ q f. fed_from (port_at m 1) q mark_stays (mark_fed g ty m l at) f;
        root = out at.condition.condition;
        roots = λ r i. let x : HasBranch l r = in_branches l.lanes r i in root_now (port_at r 2) at.condition.condition (at.condition.decides r x) (branch_stays r x) (at.branches.branches r x 2);
        mark_root = root_now (port_at m 1) at.condition.condition at.condition.decides_mark mark_stays (mark_fed g ty m l at);
        bound_root = bound_now at.condition.condition (condition_bound g ty m l at);
        data_branch = at.branches.data_lane.branch;
        is_branch = branches_in l.lanes at.branches.data_lane.branch (at.branches.data_lane, at.branches.is_data_lane, refl);
        data_source = out at.branches.data_source;
        is_data = fed_now (port_at at.branches.data_lane.branch 1) at.branches.data_source (branch_stays at.branches.data_lane.branch (at.branches.data_lane, at.branches.is_data_lane, refl)) at.branches.is_data;
        bound_data = bound_now at.branches.data_source at.branches.bound_data;
        few = at.body.few;
        light = subst (λ w. w ≤ 16384) (sym (weight_now l.body (λ n i. i))) at.body.light;
      }
