-- A loop is a loop in another circuit where its nodes and the wires between them stay, but for the Buffers on its back paths.
use Rattle.std.proofs.Common.{◌≡◌, ◌≢◌, ◌⊎◌, inl, inr, ℕ, suc, ◌+◌, ◌≤◌, refl, sym, ap, subst, ◌∙◌, List, [], ◌∷◌, map, length, Some}
use Rattle.components.specs.Kind.{Shape}
use Rattle.components.specs.Name.{Name, Port}
use Rattle.components.specs.declared.kind.Kind.{Kind}
use Rattle.components.specs.declared.kind.Kind.TheVariants.{Mux, Branch, Init}
use Rattle.std.specs.List.{concat}
use Rattle.circuits.specs.Circuit.{Circuit, Typed}
use Rattle.circuits.specs.Root.{PassesThrough, Root, Root.here, Root.past}
use Rattle.circuits.specs.Replacing.{In, In.head, In.tail}
use Rattle.loop_laws.specs.Polarity.{back_out, exit_bit, back_in}
use Rattle.loop_laws.specs.Reached.{port_at, OnTree, OnTree.root, OnTree.grown, IsLane, Reached, Reached.first, Reached.later, IsPassed, IsPure, HasKind}
use Rattle.loop_laws.specs.BackPath.{IsBuffer, Through, IsLaneBranch}
use Rattle.loop_laws.specs.Feeders.{IsConstant, AreConstant, AreFeeders, TakesConstants, Feeder}
use Rattle.loop_laws.specs.BodyOrder.{IsReady, InBodyOrder, Ascending}
use Rattle.loop_laws.specs.Weight.{weight, weight_of}
use Rattle.loop_laws.specs.Loop.{Lane, Loop, HasLane, HasBranch, IsInside, shapes_of, IsLaneOf, LoopAt}
use Rattle.loop_laws.proofs.Closed.{lane_kind, tree_kind, mark_kind, mark_fed}
use Rattle.loop_laws.proofs.BackPaths.{same_start}
use Rattle.loop_laws.proofs.NodeKinds.{kind_is, only_input}
use Rattle.loop_laws.proofs.ShareNone.{first_output}
use Rattle.loop_turns.proofs.Lists.{constants_back}
use Rattle.loop_turns.specs.Lanes.{with_lanes}
use Rattle.loop_turns.proofs.LoopFrame.{Receives, Receives.by_mark, Receives.by_data, Receives.by_condition, Receives.by_body, receives}

-- the nodes of a loop without the Buffers on its back paths, and their inputs but for the fresh and the back ones
pub data Core (m : Name) (l : Loop) (n : Name) : Type 0 where
  core_mark : n ≡ m → Core m l n
  core_tree : In n l.tree → Core m l n
  core_lane : HasLane l n → Core m l n
  core_branch : HasBranch l n → Core m l n
  core_body : In n l.body → Core m l n

pub data CoreIn (m : Name) (l : Loop) (p : Port) : Type 0 where
  to_mark : p.node ≡ m → CoreIn m l p
  to_tree : In p.node l.tree → CoreIn m l p
  to_select : p.port ≡ 1 → HasLane l p.node → CoreIn m l p
  to_branch : HasBranch l p.node → CoreIn m l p
  to_body : In p.node l.body → CoreIn m l p

-- h has the nodes of the loop l at m, wired among themselves as in g, but for the back paths, which are those of these lanes
pub record Moves (g h : Circuit) (m : Name) (l : Loop) (xs : List Lane) : Type 0 where
  pub kinds : (n : Name) → Core m l n → h.kind_at n ≡ g.kind_at n
  pub inner : (p : Port) → CoreIn m l p → h.feeder p ≡ g.feeder p
  pub from_tree : (p q : Port) → OnTree g m q.node → h.feeder p ≡ Some q → g.feeder p ≡ Some q
  pub from_inside : (p q : Port) → IsInside l q.node → h.feeder p ≡ Some q → g.feeder p ≡ Some q
  pub muxes : map (λ (x : Lane). x.mux) xs ≡ map (λ (x : Lane). x.mux) l.lanes
  pub shapes : map (λ (x : Lane). x.shape) xs ≡ shapes_of l
  pub lane_to : (n : Name) → HasLane l n → HasLane (with_lanes l xs) n
  pub lane_from : (n : Name) → HasLane (with_lanes l xs) n → HasLane l n
  pub branch_to : (n : Name) → HasBranch l n → HasBranch (with_lanes l xs) n
  pub branch_from : (n : Name) → HasBranch (with_lanes l xs) n → HasBranch l n
  pub each_lane : (x : Lane) → In x xs → IsLaneOf h l.goes_back x

module _ (g h : Circuit) (ty : Typed g) (th : Typed h) (m : Name) (l : Loop) (was : LoopAt g m l) (xs : List Lane) (keeps : Moves g h m l xs) where
  abbrev l' : Loop
  l' = with_lanes l xs

  kept_kind : (P : Kind → Type 0) (n : Name) → Core m l n → HasKind g P n → HasKind h P n
  kept_kind P n o (k, e, p) = (k, keeps.kinds n o ∙ e, p)

  old_kind : (P : Kind → Type 0) (n : Name) → Core m l n → HasKind h P n → HasKind g P n
  old_kind P n o (k, e, p) = (k, sym (keeps.kinds n o) ∙ e, p)

  inner_kept : (p q : Port) → CoreIn m l p → g.feeder p ≡ Some q → h.feeder p ≡ Some q
  inner_kept p q i f = keeps.inner p i ∙ f

  -- what a lane or a body node feeds
  received : (p : Port) → Receives g ty m l was p → CoreIn m l p
  received p (by_mark e) = to_mark (ap (λ (z : Port). z.node) e)
  received p (by_data x u e) = to_branch (x, u, ap (λ (z : Port). z.node) (sym e))
  received p (by_condition x u e) = to_branch (x, u, ap (λ (z : Port). z.node) (sym e))
  received p (by_body b) = to_body b

  core_of : (p : Port) → CoreIn m l p → Core m l p.node
  core_of p (to_mark e) = core_mark e
  core_of p (to_tree i) = core_tree i
  core_of p (to_select e x) = core_lane x
  core_of p (to_branch x) = core_branch x
  core_of p (to_body b) = core_body b

  inside_in : (p q : Port) → IsInside l q.node → g.feeder p ≡ Some q → CoreIn m l p
  inside_in p q i f = received p (receives g ty m l was p q f i)

  -- the tree
  in_tree_of : (n : Name) → OnTree g m n → n ≢ m → In n l.tree
  in_tree_of n t away = (was.tree.tree n).1 (away, t)

  tree_on : (n : Name) → OnTree g m n → OnTree h m n
  tree_on n (root e) = root e
  tree_on n (grown i q k t f e tree) =
      let away : n ≢ m = λ is. mark_kind g ty m l was n PassesThrough is (k, e, tree) in
      let inside : In n l.tree = in_tree_of n (grown i q k t f e tree) away in
      grown i q k (tree_on q.node t) (inner_kept (port_at n i) q (to_tree inside) f) (keeps.kinds n (core_tree inside) ∙ e) tree

  tree_leaf : (n : Name) (k : Kind) → h.kind_at n ≡ Some k → PassesThrough k → (i : ℕ) → In n l.tree ⊎ ((i ≡ 1) × HasLane l n) → OnTree g m n
  tree_leaf n k e tree i (inl t) = ((was.tree.tree n).0 t).1
  tree_leaf n k e tree i (inr (one, x)) =
      let (a, mux) = lane_kind g ty m l was n x in absurd (kind_is h PassesThrough n (Mux a) (k, e, tree) (keeps.kinds n (core_lane x) ∙ mux))

  tree_off : (n : Name) → OnTree h m n → OnTree g m n
  tree_off n (root e) = root e
  tree_off n (grown i q k t f e tree) =
      let before : OnTree g m q.node = tree_off q.node t in
      tree_leaf n k e tree i (was.tree.leaves (port_at n i) q before (keeps.from_tree (port_at n i) q before f))

  -- the lanes
  lane_on : (n : Name) → IsLane g m n → IsLane h m n
  lane_on n x =
      let at : HasLane l n = (was.tree.lanes n).1 x in
      record { shape = x.shape; is_mux = keeps.kinds n (core_lane at) ∙ x.is_mux; source = x.source; fed = inner_kept (port_at n 1) x.source (to_select refl at) x.fed; by_tree = tree_on x.source.node x.by_tree }

  lane_leaf : (n : Name) (i : ℕ) (x : IsLane h m n) → In n l.tree ⊎ ((i ≡ 1) × HasLane l n) → HasLane l n
  lane_leaf n i x (inl t) = absurd (kind_is h PassesThrough n (Mux x.shape) (kept_kind PassesThrough n (core_tree t) (tree_kind g ty m l was n t)) x.is_mux)
  lane_leaf n i x (inr (e, y)) = y

  lane_off : (n : Name) → IsLane h m n → HasLane l n
  lane_off n x =
      let before : OnTree g m x.source.node = tree_off x.source.node x.by_tree in
      lane_leaf n 1 x (was.tree.leaves (port_at n 1) x.source before (keeps.from_tree (port_at n 1) x.source before x.fed))

  -- the back paths
  branch_on : (r : Name) → HasBranch l r → IsLaneBranch h m l.goes_back r
  branch_on r has_it =
      let (x, i, e) = keeps.branch_to r has_it in
      let o = keeps.each_lane x i in (
        x.mux,
        record {
          is_lane = lane_on x.mux ((was.tree.lanes x.mux).0 (keeps.lane_from x.mux (x, i, refl)));
          shape = x.shape;
          is_branch = ap h.kind_at (sym e) ∙ o.is_branch;
          back = x.back;
          path = subst (λ z. Through h (port_at z (back_out l.goes_back)) x.back (port_at x.mux (back_in l.goes_back))) e o.path;
        },
      )

  branch_no_buffer : (y : Name) (a : Shape) → h.kind_at y ≡ Some (Branch a) → HasKind h IsBuffer y → ⊥
  branch_no_buffer y a e b = kind_is h IsBuffer y (Branch a) b e

  branch_off : (r : Name) → IsLaneBranch h m l.goes_back r → HasBranch l r
  branch_off r (lane, b) =
      let (x, i, e) = keeps.lane_to lane (lane_off lane b.is_lane) in
      let o = keeps.each_lane x i in
      let same = same_start h (port_at x.mux (back_in l.goes_back)) x.back b.back (port_at x.branch (back_out l.goes_back)) (port_at r (back_out l.goes_back)) o.path
      (subst (λ z. Through h (port_at r (back_out l.goes_back)) b.back (port_at z (back_in l.goes_back))) (sym e) b.path)
      (branch_no_buffer x.branch x.shape o.is_branch) (branch_no_buffer r b.shape b.is_branch) in
      keeps.branch_from r (x, i, ap (λ (z : Port). z.node) same.0)

  -- what is reached
  in_body_of : (n : Name) → Reached g m n → In n l.body
  in_body_of n r = (was.body.body n).1 (inl r)

  pass_on : (n : Name) → In n l.body → IsPassed g m n → IsPassed h m n
  pass_on n b (away, none) = (away, λ a e. none a (sym (keeps.kinds n (core_body b)) ∙ e))

  reached_on : (n : Name) → Reached g m n → Reached h m n
  reached_on n (first i q x f pass) =
      let b : In n l.body = in_body_of n (first i q x f pass) in
      first i q (lane_on q.node x) (inner_kept (port_at n i) q (to_body b) f) (pass_on n b pass)
  reached_on n (later i q r f pass) =
      let b : In n l.body = in_body_of n (later i q r f pass) in
      later i q (reached_on q.node r) (inner_kept (port_at n i) q (to_body b) f) (pass_on n b pass)

  inside_old : (p q : Port) → IsInside l q.node → h.feeder p ≡ Some q → g.feeder p ≡ Some q
  inside_old p q i f = keeps.from_inside p q i f

  inside_pass : (p q : Port) → IsInside l q.node → h.feeder p ≡ Some q → IsPassed h m p.node → IsPassed g m p.node
  inside_pass p q i f (away, none) =
      (away, λ a e. none a (keeps.kinds p.node (core_of p (inside_in p q i (inside_old p q i f))) ∙ e))

  reached_off : (n : Name) → Reached h m n → Reached g m n
  reached_off n (first i q x f pass) =
      let y : HasLane l q.node = lane_off q.node x in
      first i q ((was.tree.lanes q.node).0 y) (inside_old (port_at n i) q (inl y) f) (inside_pass (port_at n i) q (inl y) f pass)
  reached_off n (later i q r f pass) =
      let s : Reached g m q.node = reached_off q.node r in
      later i q s (inside_old (port_at n i) q (inr (in_body_of q.node s)) f) (inside_pass (port_at n i) q (inr (in_body_of q.node s)) f pass)

  -- the feeders
  all_in_body : (ns : List Name) → AreFeeders g m l.goes_back ns → (n : Name) → In n ns → In n l.body
  all_in_body ns fs n i = (was.body.body n).1 (inr (ns, i, fs))

  constant_on : (a b : Circuit) (before ns : List Name) → ((n : Name) → In n ns → a.kind_at n ≡ b.kind_at n) → ((n : Name) (i : ℕ) → In n ns → a.feeder (port_at n i) ≡ b.feeder (port_at n i)) → AreConstant b before ns → AreConstant a before ns
  constant_on a b before [] kinds feeds c = tt
  constant_on a b before (n ∷ ns) kinds feeds c = (
    (c.0.0, kinds n (head refl) ∙ c.0.1, c.0.2),
    λ i q f. c.1 i q (sym (feeds n i (head refl)) ∙ f),
    constant_on a b (n ∷ before) ns (λ k i. kinds k (tail i)) (λ k j i. feeds k j (tail i)) c.2,
  )

  takes_on : (p q : Port) → In q.node l.body → g.feeder p ≡ Some q → TakesConstants g m l.goes_back p.node → TakesConstants h m l.goes_back p.node
  takes_on p q b f (inl r) = inl (reached_on p.node r)
  takes_on p q b f (inr (inl (lane, x))) = inr (inl (branch_on p.node (was.branches.entered p q x.shape (inr b) f x.is_branch)))
  takes_on p q b f (inr (inr e)) = inr (inr e)

  feeders_on : (ns : List Name) → AreFeeders g m l.goes_back ns → AreFeeders h m l.goes_back ns
  feeders_on ns fs =
      record {
        constant = constant_on h g [] ns (λ n i. keeps.kinds n (core_body (all_in_body ns fs n i))) (λ n j i. keeps.inner (port_at n j) (to_body (all_in_body ns fs n i))) fs.constant;
        feeds = λ p q i f.
            let b : In q.node l.body = all_in_body ns fs q.node i in
            let old : g.feeder p ≡ Some q = inside_old p q (inr b) f in
            elim (fs.feeds p q i old) [ inl j ↦ inl j | inr t ↦ inr (takes_on p q b old t) ];
      }

  -- a constant node of h that feeds the loop's inside is one of the body
  module _ (ns : List Name) (fs : AreFeeders h m l.goes_back ns) where
    new_kind : (n : Name) → In n ns → HasKind h IsConstant n
    new_kind n i = kind_in [] ns n fs.constant i
      where
        kind_in : (before ks : List Name) (n : Name) → AreConstant h before ks → In n ks → HasKind h IsConstant n
        kind_in before [] n c i = elim i [ ]
        kind_in before (k ∷ ks) n c (head e) = subst (HasKind h IsConstant) (sym e) c.0
        kind_in before (k ∷ ks) n c (tail i) = kind_in (k ∷ before) ks n c.2 i

    inside_constant : (n : Name) → In n ns → IsInside l n → In n l.body
    inside_constant n i (inl x) =
        let (a, mux) = lane_kind g ty m l was n x in absurd (kind_is h IsConstant n (Mux a) (new_kind n i) (keeps.kinds n (core_lane x) ∙ mux))
    inside_constant n i (inr b) = b

    into_body : (p : Port) (n : Name) → In n ns → h.feeder p ≡ Some (port_at n 1) → In p.node l.body → In n l.body
    into_body p n i f b = inside_constant n i (was.body.closed p.node b p.port (port_at n 1) (sym (keeps.inner p (to_body b)) ∙ f))

    into_branch : (p : Port) (n : Name) → In n ns → h.feeder p ≡ Some (port_at n 1) → HasBranch l p.node → In n l.body
    into_branch p n i f b = inside_constant n i (was.branches.branches p.node b p.port (port_at n 1) (sym (keeps.inner p (to_branch b)) ∙ f))

    into_mark : (p : Port) (n : Name) → In n ns → h.feeder p ≡ Some (port_at n 1) → p.node ≡ m → In n l.body
    into_mark p n i f e =
        let old : g.feeder p ≡ Some (port_at n 1) = sym (keeps.inner p (to_mark e)) ∙ f in
        let one : p.port ≡ 1 = only_input g ty p (port_at n 1) old (Init (exit_bit l.goes_back) l.tags, ap g.kind_at e ∙ was.mark.0, (1 ∷ [], refl)) in
        inside_constant n i (mark_fed g ty m l was (port_at n 1) (ap (λ z. g.feeder (port_at z 1)) (sym e) ∙ ap (λ z. g.feeder (port_at p.node z)) (sym one) ∙ old))

    feeder_step : (n : Name) → In n ns → ((p q : Port) → h.feeder p ≡ Some q → q.node ≡ n → In p.node ns → In p.node l.body) → In n l.body
    feeder_step n i rest =
        let (k, e, c) = new_kind n i in
        let (a, out) = first_output k c (th.kinds n k e) in
        let (p, f) = th.outputs (port_at n 1) k a e out in
        elim (fs.feeds p (port_at n 1) i f) [
          | inl j ↦ into_body p n i f (rest p (port_at n 1) f refl j)
          | inr (inl r) ↦ into_body p n i f (in_body_of p.node (reached_off p.node r))
          | inr (inr (inl b)) ↦ into_branch p n i f (branch_off p.node b)
          | inr (inr (inr is)) ↦ into_mark p n i f is
        ]

    pub new_in_body : (n : Name) → In n ns → In n l.body
    new_in_body n i = constants_back h ns (λ x. In x l.body) feeder_step fs.constant n i

    takes_off : (p q : Port) → In q.node l.body → g.feeder p ≡ Some q → TakesConstants h m l.goes_back p.node → TakesConstants g m l.goes_back p.node
    takes_off p q b f (inl r) = inl (reached_off p.node r)
    takes_off p q b f (inr (inl x)) = inr (inl (old_branch (branch_off p.node x)))
      where
        old_branch : HasBranch l p.node → IsLaneBranch g m l.goes_back p.node
        old_branch (y, i, e) =
            let o = was.tree.each_lane y i in (
              y.mux,
              record {
                is_lane = (was.tree.lanes y.mux).0 (y, i, refl);
                shape = y.shape;
                is_branch = ap g.kind_at (sym e) ∙ o.is_branch;
                back = y.back;
                path = subst (λ z. Through g (port_at z (back_out l.goes_back)) y.back (port_at y.mux (back_in l.goes_back))) e o.path;
              },
            )
    takes_off p q b f (inr (inr e)) = inr (inr e)

    pub feeders_off : AreFeeders g m l.goes_back ns
    feeders_off =
        record {
          constant = constant_on g h [] ns (λ n i. sym (keeps.kinds n (core_body (new_in_body n i)))) (λ n j i. sym (keeps.inner (port_at n j) (to_body (new_in_body n i)))) fs.constant;
          feeds = λ p q i f.
              let b : In q.node l.body = new_in_body q.node i in
              let now : h.feeder p ≡ Some q = inner_kept p q (inside_in p q (inr b) f) f in
              elim (fs.feeds p q i now) [ inl j ↦ inl j | inr t ↦ inr (takes_off p q b f t) ];
        }

  feeder_on : (n : Name) → Feeder g m l.goes_back n → Feeder h m l.goes_back n
  feeder_on n (ns, i, fs) = (ns, i, feeders_on ns fs)

  feeder_off : (n : Name) → Feeder h m l.goes_back n → Feeder g m l.goes_back n
  feeder_off n (ns, i, fs) = (ns, i, feeders_off ns fs)

  -- the order and the weight of the body
  ready_on : (placed : List Name) (n : Name) → IsReady g l.body placed n → IsReady h l.body placed n
  ready_on placed n r =
      record { in_body = r.in_body; open_yet = r.open_yet; inputs = λ i q f b. r.inputs i q (sym (keeps.inner (port_at n i) (to_body r.in_body)) ∙ f) b }

  ready_off : (placed : List Name) (n : Name) → IsReady h l.body placed n → IsReady g l.body placed n
  ready_off placed n r =
      record { in_body = r.in_body; open_yet = r.open_yet; inputs = λ i q f b. r.inputs i q (keeps.inner (port_at n i) (to_body r.in_body) ∙ f) b }

  order_on : (placed ns : List Name) → InBodyOrder g l.body placed ns → InBodyOrder h l.body placed ns
  order_on placed [] o = tt
  order_on placed (n ∷ ns) o = (ready_on placed n o.0, λ k r ne. o.1 k (ready_off placed k r) ne, order_on (n ∷ placed) ns o.2)

  weight_on : (ns : List Name) → ((n : Name) → In n ns → h.kind_at n ≡ g.kind_at n) → weight_of h ns ≡ weight_of g ns
  weight_on [] same = refl
  weight_on (n ∷ ns) same =
      ap (λ k. weight k + weight_of h ns) (same n (head refl)) ∙ ap (λ w. weight (g.kind_at n) + w) (weight_on ns (λ k i. same k (tail i)))

  -- the condition
  inside_core : (n : Name) → IsInside l n → Core m l n
  inside_core n (inl x) = core_lane x
  inside_core n (inr b) = core_body b

  inside_tree : (n : Name) → IsInside l n → HasKind g PassesThrough n → In n l.body
  inside_tree n (inl x) k = let (a, e) = lane_kind g ty m l was n x in absurd (kind_is g PassesThrough n (Mux a) k e)
  inside_tree n (inr b) k = b

  root_on : (p c : Port) → Root g p c → CoreIn m l p → ((q : Port) → g.feeder p ≡ Some q → IsInside l q.node) → Root h p c
  root_on p c (here k f e stops) i s =
      let at : HasKind h (λ z. PassesThrough z → ⊥) c.node = kept_kind (λ z. PassesThrough z → ⊥) c.node (inside_core c.node (s c f)) (k, e, stops) in
      here at.0 (inner_kept p c i f) at.1 at.2
  root_on p c (past r k f e pass next) i s =
      let b : In r.node l.body = inside_tree r.node (s r f) (k, e, pass) in
      let at : HasKind h PassesThrough r.node = kept_kind PassesThrough r.node (core_body b) (k, e, pass) in
      past r at.0 (inner_kept p r i f) at.1 at.2 (root_on (port_at r.node 1) c next (to_body b) (was.body.closed r.node b 1))

  inside_to : (n : Name) → IsInside l n → IsInside l' n
  inside_to n (inl x) = inl (keeps.lane_to n x)
  inside_to n (inr b) = inr b

  inside_from : (n : Name) → IsInside l' n → IsInside l n
  inside_from n (inl x) = inl (keeps.lane_from n x)
  inside_from n (inr b) = inr b

  first_data : (x : Lane) × In x xs × (x.branch ≡ was.branches.data_lane.branch)
  first_data = keeps.branch_to was.branches.data_lane.branch (was.branches.data_lane, was.branches.is_data_lane, refl)

  count : (ys : List Lane) → length (map (λ (x : Lane). x.shape) ys) ≡ length ys
  count [] = refl
  count (y ∷ ys) = ap suc (count ys)

  same_count : length xs ≡ length l.lanes
  same_count = sym (count xs) ∙ ap length keeps.shapes ∙ count l.lanes

  pub loop_moved : LoopAt h m l'
  loop_moved =
      record {
        mark = (keeps.kinds m (core_mark refl) ∙ was.mark.0, was.mark.1);
        tree = record {
          tree = λ n. ((λ i. let t = (was.tree.tree n).0 i in (t.0, tree_on n t.1)), λ t. (was.tree.tree n).1 (t.0, tree_off n t.1));
          tree_by_name = was.tree.tree_by_name;
          leaves = λ p q t f.
              let before : OnTree g m q.node = tree_off q.node t in
              elim (was.tree.leaves p q before (keeps.from_tree p q before f)) [ inl i ↦ inl i | inr x ↦ inr (x.0, keeps.lane_to p.node x.1) ];
          lanes = λ n. ((λ x. lane_on n ((was.tree.lanes n).0 (keeps.lane_from n x))), λ x. keeps.lane_to n (lane_off n x));
          lanes_by_name = subst Ascending (sym keeps.muxes) was.tree.lanes_by_name;
          each_lane = keeps.each_lane;
        };
        body = record {
          pure = λ n r.
              let s : Reached g m n = reached_off n r in kept_kind IsPure n (core_body (in_body_of n s)) (was.body.pure n s);
          body = λ n. (
            (λ i. elim ((was.body.body n).0 i) [ inl r ↦ inl (reached_on n r) | inr f ↦ inr (feeder_on n f) ]),
            λ o. (was.body.body n).1 (elim o [ inl r ↦ inl (reached_off n r) | inr f ↦ inr (feeder_off n f) ]),
          );
          closed = λ n b i q f. inside_to q.node (was.body.closed n b i q (sym (keeps.inner (port_at n i) (to_body b)) ∙ f));
          in_order = order_on [] l.body was.body.in_order;
          few = was.body.few;
          light = subst (λ w. w ≤ 16384) (sym (weight_on l.body (λ n i. keeps.kinds n (core_body i)))) was.body.light;
        };
        branches = record {
          entered = λ p q a i f e.
              let s : IsInside l q.node = inside_from q.node i in
              let old : g.feeder p ≡ Some q = inside_old p q s f in
              keeps.branch_to p.node (was.branches.entered p q a s old (sym (keeps.kinds p.node (core_of p (inside_in p q s old))) ∙ e));
          branches = λ r b i q f.
              let c : HasBranch l r = keeps.branch_from r b in
              inside_to q.node (was.branches.branches r c i q (sym (keeps.inner (port_at r i) (to_branch c)) ∙ f));
          data_lane = first_data.0;
          is_data_lane = first_data.1;
          data_source = was.branches.data_source;
          is_data = ap (λ z. h.feeder (port_at z 1)) first_data.2 ∙ keeps.inner (port_at was.branches.data_lane.branch 1) (to_branch (was.branches.data_lane, was.branches.is_data_lane, refl)) ∙ was.branches.is_data;
          bound_data = elim was.branches.bound_data [ inl x ↦ inl (keeps.lane_to was.branches.data_source.node x) | inr r ↦ inr (reached_on was.branches.data_source.node r) ];
        };
        condition = record {
          condition = was.condition.condition;
          decides = λ r b. let c : HasBranch l r = keeps.branch_from r b in root_on (port_at r 2) was.condition.condition (was.condition.decides r c) (to_branch c) (was.branches.branches r c 2);
          decides_mark = root_on (port_at m 1) was.condition.condition was.condition.decides_mark (to_mark refl) (mark_fed g ty m l was);
          bound = λ f. was.condition.bound (feeder_off was.condition.condition.node f);
        };
        narrow = subst (λ z. z ≤ 62) (sym same_count) was.narrow;
        slim = subst (λ (z : List Shape). length (concat z) ≤ 127) (sym keeps.shapes) was.slim;
      }
