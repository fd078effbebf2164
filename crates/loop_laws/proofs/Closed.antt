-- No wire enters a loop but at a fresh input, and none leaves it but at an exit.
use Rattle.std.proofs.Common.{◌≡◌, ◌≢◌, ◌⊎◌, inl, inr, refl, sym, ap, subst, ◌∙◌, [], ◌∷◌, Some}
use Rattle.std.proofs.lemmas.Option.{same_Some}
use Rattle.components.specs.declared.kind.Kind.{Kind}
use Rattle.components.specs.declared.kind.Kind.TheVariants.{Mux, Branch, Init}
use Rattle.components.specs.Name.{Name, Port}
use Rattle.components.specs.Kind.{Shape}
use Rattle.components.specs.Orders.{name_cases}
use Rattle.circuits.specs.Circuit.{Circuit, Typed}
use Rattle.circuits.specs.Replacing.{In}
use Rattle.circuits.specs.Root.{PassesThrough, Root, Root.here, Root.past}
use Rattle.loop_laws.specs.Polarity.{back_in, back_out, exit_bit}
use Rattle.loop_laws.specs.Reached.{port_at, HasKind, OnTree, OnTree.root, OnTree.grown, Reached, Reached.first, Reached.later, IsPassed}
use Rattle.loop_laws.specs.BackPath.{IsBuffer}
use Rattle.loop_laws.specs.Feeders.{IsConstant, Feeder}
use Rattle.loop_laws.specs.Loop.{Lane, Loop, HasLane, HasBranch, IsInside, LoopAt, NodeOf, NodeOf.is_mark, NodeOf.in_tree, NodeOf.lane, NodeOf.branch, NodeOf.in_back, NodeOf.in_body, IsFresh, IsExit}
use Rattle.loop_laws.proofs.NodeKinds.{kind_is, tree_takes, buffer_gives, buffer_tree, IsBodyKind, pure_body, constant_body, BranchOr, BranchOr.a_branch, BranchOr.no_branch, branch_or, only_input, only_output, branch_output, mux_input, back_or_exit, back_is_no_exit, fresh_or_back, fresh_is_no_back, fresh_is_no_select}
use Rattle.loop_laws.proofs.Constants.{constant_kind}
use Rattle.loop_laws.proofs.BackPaths.{path_buffer, path_end, path_inside, path_out, path_on}

-- the inputs of a loop's nodes that are not fresh
pub data Inner (m : Name) (l : Loop) (p : Port) : Type 0 where
  at_mark : p.node ≡ m → Inner m l p
  at_tree : In p.node l.tree → Inner m l p
  at_select : p.port ≡ 1 → HasLane l p.node → Inner m l p
  at_back : (x : Lane) → In x l.lanes → p ≡ port_at x.mux (back_in l.goes_back) → Inner m l p
  at_branch : HasBranch l p.node → Inner m l p
  at_buffer : (x : Lane) → In x l.lanes → In p.node x.back → Inner m l p
  at_body : In p.node l.body → Inner m l p

pub inner_node : (m : Name) (l : Loop) (p : Port) → Inner m l p → NodeOf m l p.node
inner_node m l p (at_mark e) = is_mark e
inner_node m l p (at_tree i) = in_tree i
inner_node m l p (at_select e i) = lane i
inner_node m l p (at_back x i e) = lane (x, i, ap (λ (z : Port). z.node) (sym e))
inner_node m l p (at_branch i) = branch i
inner_node m l p (at_buffer x i j) = in_back x i j
inner_node m l p (at_body i) = in_body i

pub root_fed : (g : Circuit) (p c : Port) → Root g p c → (q : Port) × (g.feeder p ≡ Some q)
root_fed g p c (here kind f is ends) = (c, f)
root_fed g p c (past r kind f is passes next) = (r, f)

module _ (g : Circuit) (ty : Typed g) (m : Name) (l : Loop) (h : LoopAt g m l) where
  pub lane_kind : (n : Name) → HasLane l n → (a : Shape) × (g.kind_at n ≡ Some (Mux a))
  lane_kind n x = let k = (h.tree.lanes n).0 x in (k.shape, k.is_mux)

  pub branch_kind : (n : Name) → HasBranch l n → (a : Shape) × (g.kind_at n ≡ Some (Branch a))
  branch_kind n x = (x.0.shape, ap g.kind_at (sym x.2) ∙ (h.tree.each_lane x.0 x.1).is_branch)

  pub back_kind : (x : Lane) (n : Name) → In x l.lanes → In n x.back → HasKind g IsBuffer n
  back_kind x n i j = path_buffer g (port_at x.branch (back_out l.goes_back)) x.back (port_at x.mux (back_in l.goes_back)) n (h.tree.each_lane x i).path j

  pub feeder_kind : (n : Name) → Feeder g m l.goes_back n → HasKind g IsConstant n
  feeder_kind n f = constant_kind g [] f.0 n f.2.constant f.1

  pub body_kind : (n : Name) → In n l.body → HasKind g IsBodyKind n
  body_kind n i =
      elim ((h.body.body n).0 i) [
        | inl r ↦ let k = h.body.pure n r in (k.0, k.1, pure_body k.0 k.2)
        | inr f ↦ let k = feeder_kind n f in (k.0, k.1, constant_body k.0 k.2)
      ]

  pub on_tree_kind : (n : Name) → OnTree g m n → n ≢ m → HasKind g PassesThrough n
  on_tree_kind n (root e) away = absurd (away e)
  on_tree_kind n (grown i q k t f e tree) away = (k, e, tree)

  pub tree_kind : (n : Name) → In n l.tree → HasKind g PassesThrough n
  tree_kind n i = let t = (h.tree.tree n).0 i in on_tree_kind n t.1 t.0

  -- the mark's kind, and what the mark is not
  pub mark_kind : (n : Name) (P : Kind → Type 0) → n ≡ m → HasKind g P n → P (Init (exit_bit l.goes_back) l.tags)
  mark_kind n P e k = kind_is g P n (Init (exit_bit l.goes_back) l.tags) k (ap g.kind_at e ∙ h.mark.0)

  mux_at : (x : Lane) → In x l.lanes → g.kind_at x.mux ≡ Some (Mux x.shape)
  mux_at x i = (h.tree.each_lane x i).is_mux

  -- an inner input is not fresh
  pub inner_no_fresh : (p : Port) → Inner m l p → IsFresh l p → ⊥
  inner_no_fresh p (at_mark e) (x, i, f) =
      let z : Some (Mux x.shape) ≡ Some (Init (exit_bit l.goes_back) l.tags) = sym (mux_at x i) ∙ ap g.kind_at (ap (λ (z : Port). z.node) (sym f) ∙ e) ∙ h.mark.0 in cc
  inner_no_fresh p (at_tree j) (x, i, f) = kind_is g PassesThrough p.node (Mux x.shape) (tree_kind p.node j) (ap (λ (z : Port). g.kind_at z.node) f ∙ mux_at x i)
  inner_no_fresh p (at_select e j) (x, i, f) = fresh_is_no_select l.goes_back (ap (λ (z : Port). z.port) (sym f) ∙ e)
  inner_no_fresh p (at_back y j e) (x, i, f) = fresh_is_no_back l.goes_back (ap (λ (z : Port). z.port) (sym f ∙ e))
  inner_no_fresh p (at_branch j) (x, i, f) =
      let k = branch_kind p.node j in
      let z : Some (Mux x.shape) ≡ Some (Branch k.0) = sym (ap (λ (z : Port). g.kind_at z.node) f ∙ mux_at x i) ∙ k.1 in cc
  inner_no_fresh p (at_buffer y j b) (x, i, f) = kind_is g IsBuffer p.node (Mux x.shape) (back_kind y p.node j b) (ap (λ (z : Port). g.kind_at z.node) f ∙ mux_at x i)
  inner_no_fresh p (at_body j) (x, i, f) = kind_is g IsBodyKind p.node (Mux x.shape) (body_kind p.node j) (ap (λ (z : Port). g.kind_at z.node) f ∙ mux_at x i)

  -- an exit is an output of a Branch
  exit_kind : (q : Port) → IsExit l q → (a : Shape) × (g.kind_at q.node ≡ Some (Branch a))
  exit_kind q (x, i, e) = (x.shape, ap (λ (z : Port). g.kind_at z.node) e ∙ (h.tree.each_lane x i).is_branch)

  no_exit : (P : Kind → Type 0) → ((a : Shape) → P (Branch a) → ⊥) → (q : Port) → HasKind g P q.node → IsExit l q → ⊥
  no_exit P none q k x = let (a, e) = exit_kind q x in none a (kind_is g P q.node (Branch a) k e)

  -- each input of a loop's node is fresh or an inner one
  lane_input : (p q : Port) → g.feeder p ≡ Some q → (x : Lane) → In x l.lanes → x.mux ≡ p.node → (p.port ≡ 1) ⊎ ((p.port ≡ 2) ⊎ (p.port ≡ 3)) → Inner m l p ⊎ IsFresh l p
  lane_input p q f x i e (inl one) = inl (at_select one (x, i, e))
  lane_input p q f x i e (inr two) =
      elim (fresh_or_back l.goes_back p.port two) [
        | inl fresh ↦ inr (x, i, ap (λ n. port_at n p.port) (sym e) ∙ ap (port_at x.mux) fresh)
        | inr back ↦ inl (at_back x i (ap (λ n. port_at n p.port) (sym e) ∙ ap (port_at x.mux) back))
      ]

  pub inner_or_fresh : (p q : Port) → g.feeder p ≡ Some q → NodeOf m l p.node → Inner m l p ⊎ IsFresh l p
  inner_or_fresh p q f (is_mark e) = inl (at_mark e)
  inner_or_fresh p q f (in_tree i) = inl (at_tree i)
  inner_or_fresh p q f (lane x) =
      let k = lane_kind p.node x in lane_input p q f x.0 x.1 x.2 (mux_input g ty p q k.0 f k.1)
  inner_or_fresh p q f (branch i) = inl (at_branch i)
  inner_or_fresh p q f (in_back x i j) = inl (at_buffer x i j)
  inner_or_fresh p q f (in_body i) = inl (at_body i)

  -- what an inside node feeds
  data Bound (n : Name) : Type 0 where
    bound_lane : HasLane l n → Bound n
    bound_reached : Reached g m n → Bound n

  bound_out : (p q : Port) → Bound q.node → g.feeder p ≡ Some q → IsPassed g m p.node → Reached g m p.node
  bound_out p q (bound_lane x) f pass = first p.port q ((h.tree.lanes q.node).0 x) f pass
  bound_out p q (bound_reached r) f pass = later p.port q r f pass

  feeder_out : (p q : Port) → Feeder g m l.goes_back q.node → g.feeder p ≡ Some q → Inner m l p
  feeder_out p q (ns, i, fs) f =
      elim (fs.feeds p q i f) [
        | inl j ↦ at_body ((h.body.body p.node).1 (inr (ns, j, fs)))
        | inr (inl r) ↦ at_body ((h.body.body p.node).1 (inl r))
        | inr (inr (inl b)) ↦ at_branch (h.branches.entered p q b.1.shape (inr ((h.body.body q.node).1 (inr (ns, i, fs)))) f b.1.is_branch)
        | inr (inr (inr e)) ↦ at_mark e
      ]

  bound_inside : (n : Name) → Bound n → IsInside l n
  bound_inside n (bound_lane x) = inl x
  bound_inside n (bound_reached r) = inr ((h.body.body n).1 (inl r))

  bound_feeds : (p q : Port) → Bound q.node → (f : g.feeder p ≡ Some q) → BranchOr (ty.wires p q f).to → Inner m l p
  bound_feeds p q b f (a_branch a e) = at_branch (h.branches.entered p q a (bound_inside q.node b) f ((ty.wires p q f).is_to ∙ ap Some e))
  bound_feeds p q b f (no_branch none) =
      elim (name_cases p.node m) [
        | inl is ↦ at_mark is
        | inr ne ↦ at_body ((h.body.body p.node).1 (inl (bound_out p q b f (ne, λ a e. none a (same_Some _ (Branch a) (sym (ty.wires p q f).is_to ∙ e))))))
      ]

  pub inside_out : (p q : Port) → IsInside l q.node → g.feeder p ≡ Some q → Inner m l p
  inside_out p q (inl x) f = bound_feeds p q (bound_lane x) f (branch_or _)
  inside_out p q (inr i) f =
      elim ((h.body.body q.node).0 i) [
        | inl r ↦ bound_feeds p q (bound_reached r) f (branch_or _)
        | inr s ↦ feeder_out p q s f
      ]

  leaf_inner : (p : Port) → In p.node l.tree ⊎ ((p.port ≡ 1) × HasLane l p.node) → Inner m l p
  leaf_inner p (inl i) = at_tree i
  leaf_inner p (inr (e, x)) = at_select e x

  path_inner : (x : Lane) → In x l.lanes → (p : Port) → (p ≡ port_at x.mux (back_in l.goes_back)) ⊎ In p.node x.back → Inner m l p
  path_inner x i p (inl e) = at_back x i e
  path_inner x i p (inr j) = at_buffer x i j

  -- each wire out of a loop's node is an exit or enters an inner input
  pub exit_or_inner : (p q : Port) → g.feeder p ≡ Some q → NodeOf m l q.node → IsExit l q ⊎ Inner m l p
  exit_or_inner p q f (is_mark e) = inr (leaf_inner p (h.tree.leaves p q (root e) f))
  exit_or_inner p q f (in_tree i) = inr (leaf_inner p (h.tree.leaves p q ((h.tree.tree q.node).0 i).1 f))
  exit_or_inner p q f (lane x) = inr (inside_out p q (inl x) f)
  exit_or_inner p q f (branch (x, i, e)) =
      let k = branch_kind q.node (x, i, e) in
      elim (back_or_exit l.goes_back q.port (branch_output g ty p q k.0 f k.1)) [
        | inl back ↦
            inr (path_inner x i p (path_out g ty (port_at x.branch (back_out l.goes_back)) x.back (port_at x.mux (back_in l.goes_back)) p (h.tree.each_lane x i).path
            (f ∙ ap Some (ap (λ n. port_at n q.port) (sym e) ∙ ap (port_at x.branch) back))))
        | inr out ↦ inl (x, i, ap (λ n. port_at n q.port) (sym e) ∙ ap (port_at x.branch) out)
      ]
  exit_or_inner p q f (in_back x i j) =
      let k = back_kind x q.node i j in
      let one : q.port ≡ 1 = only_output g ty p q f (k.0, k.1, buffer_gives k.0 k.2) in
      inr (path_inner x i p (path_on g ty (port_at x.branch (back_out l.goes_back)) x.back (port_at x.mux (back_in l.goes_back)) q.node p (h.tree.each_lane x i).path j
      (f ∙ ap Some (ap (port_at q.node) one))))
  exit_or_inner p q f (in_body i) = inr (inside_out p q (inr i) f)

  -- the condition comes from a lane or a reached node, and so does what feeds the mark
  root_inside : (p c : Port) → Root g p c → ((q : Port) → g.feeder p ≡ Some q → IsInside l q.node) → IsInside l c.node
  root_inside p c (here kind f is ends) s = s c f
  root_inside p c (past r kind f is passes next) s =
      root_inside (port_at r.node 1) c next
      (elim (s r f) [
        | inl x ↦ let e = lane_kind r.node x in absurd (kind_is g PassesThrough r.node (Mux e.0) (kind, is, passes) e.1)
        | inr i ↦ h.body.closed r.node i 1
      ])

  pub condition_bound : HasLane l h.condition.condition.node ⊎ Reached g m h.condition.condition.node
  condition_bound =
      let r : HasBranch l h.branches.data_lane.branch = (h.branches.data_lane, h.branches.is_data_lane, refl) in
      elim (root_inside (port_at h.branches.data_lane.branch 2) h.condition.condition (h.condition.decides h.branches.data_lane.branch r) (h.branches.branches h.branches.data_lane.branch r 2)) [
        | inl x ↦ inl x
        | inr i ↦ elim ((h.body.body h.condition.condition.node).0 i) [ inl x ↦ inr x | inr f ↦ absurd (h.condition.bound f) ]
      ]

  tree_passed : (n : Name) → HasKind g PassesThrough n → IsPassed g m n
  tree_passed n k = ((λ e. mark_kind n PassesThrough e k), λ a e. kind_is g PassesThrough n (Branch a) k e)

  root_bound : (p c : Port) → Root g p c → Bound c.node → (q : Port) → g.feeder p ≡ Some q → Bound q.node
  root_bound p c (here kind f is ends) b q e = subst (λ (z : Port). Bound z.node) (same_Some c q (sym f ∙ e)) b
  root_bound p c (past r kind f is passes next) b q e =
      let fed = root_fed g (port_at r.node 1) c next in
      let before : Bound fed.0.node = root_bound (port_at r.node 1) c next b fed.0 fed.1 in
      subst (λ (z : Port). Bound z.node) (same_Some r q (sym f ∙ e)) (bound_reached (bound_out (port_at r.node 1) fed.0 before fed.1 (tree_passed r.node (kind, is, passes))))

  mark_fed_at : HasLane l h.condition.condition.node ⊎ Reached g m h.condition.condition.node → (q : Port) → g.feeder (port_at m 1) ≡ Some q → Bound q.node
  mark_fed_at (inl x) = root_bound (port_at m 1) h.condition.condition h.condition.decides_mark (bound_lane x)
  mark_fed_at (inr r) = root_bound (port_at m 1) h.condition.condition h.condition.decides_mark (bound_reached r)

  -- a lane or a body node feeds the mark
  pub mark_fed : (q : Port) → g.feeder (port_at m 1) ≡ Some q → IsInside l q.node
  mark_fed q f = bound_inside q.node (mark_fed_at condition_bound q f)

  pub inside_node : (n : Name) → IsInside l n → NodeOf m l n
  inside_node n (inl x) = lane x
  inside_node n (inr i) = in_body i

  pub inside_no_exit : (q : Port) → IsInside l q.node → IsExit l q → ⊥
  inside_no_exit q (inl x) e =
      let (a, k) = lane_kind q.node x in
      let (b, j) = exit_kind q e in
      let z : Some (Mux a) ≡ Some (Branch b) = sym k ∙ j in cc
  inside_no_exit q (inr i) e = no_exit IsBodyKind (λ a x. x) q (body_kind q.node i) e

  -- what feeds an inner input
  pub record Inward (q : Port) : Type 0 where
    pub node : NodeOf m l q.node
    pub inward : IsExit l q → ⊥

  inside_inward : (q : Port) → IsInside l q.node → Inward q
  inside_inward q i = record { node = inside_node q.node i; inward = inside_no_exit q i }

  pub tree_inward : (q : Port) → OnTree g m q.node → Inward q
  tree_inward q t =
      elim (name_cases q.node m) [
        | inl is ↦ record {
          node = is_mark is;
          inward = λ x.
              let (a, k) = exit_kind q x in
              let z : Some (Branch a) ≡ Some (Init (exit_bit l.goes_back) l.tags) = sym k ∙ ap g.kind_at is ∙ h.mark.0 in cc;
        }
        | inr ne ↦
            let i : In q.node l.tree = (h.tree.tree q.node).1 (ne, t) in
            record { node = in_tree i; inward = no_exit PassesThrough (λ a x. x) q (tree_kind q.node i) }
      ]

  path_inward : (x : Lane) → In x l.lanes → (q : Port) → (q ≡ port_at x.branch (back_out l.goes_back)) ⊎ In q.node x.back → Inward q
  path_inward x i q (inl e) =
      record {
        node = branch (x, i, ap (λ (z : Port). z.node) (sym e));
        inward = λ y. back_is_no_exit l.goes_back (ap (λ (z : Port). z.port) (sym e ∙ y.2));
      }
  path_inward x i q (inr j) = record { node = in_back x i j; inward = no_exit IsBuffer (λ a z. z) q (back_kind x q.node i j) }

  pub grown_from : (n : Name) → OnTree g m n → n ≢ m → (q : Port) → g.feeder (port_at n 1) ≡ Some q → OnTree g m q.node
  grown_from n (root e) away q f = absurd (away e)
  grown_from n (grown i r k t e kind tree) away q f =
      let one : i ≡ 1 = only_input g ty (port_at n i) r e (k, kind, tree_takes k tree) in
      subst (λ (z : Port). OnTree g m z.node) (same_Some r q (sym e ∙ ap (λ j. g.feeder (port_at n j)) one ∙ f)) t

  pub inner_fed : (p q : Port) → Inner m l p → g.feeder p ≡ Some q → Inward q
  inner_fed p q (at_mark e) f =
      let one : p.port ≡ 1 = only_input g ty p q f (Init (exit_bit l.goes_back) l.tags, ap g.kind_at e ∙ h.mark.0, (1 ∷ [], refl)) in
      inside_inward q (mark_fed q (ap (λ n. g.feeder (port_at n 1)) (sym e) ∙ ap (λ i. g.feeder (port_at p.node i)) (sym one) ∙ f))
  inner_fed p q (at_tree i) f =
      let k = tree_kind p.node i in
      let one : p.port ≡ 1 = only_input g ty p q f (k.0, k.1, tree_takes k.0 k.2) in
      let t = (h.tree.tree p.node).0 i in
      tree_inward q (grown_from p.node t.1 t.0 q (ap (λ i. g.feeder (port_at p.node i)) (sym one) ∙ f))
  inner_fed p q (at_select e x) f =
      let k = (h.tree.lanes p.node).0 x in
      tree_inward q (subst (λ (z : Port). OnTree g m z.node) (same_Some k.source q (sym k.fed ∙ ap (λ i. g.feeder (port_at p.node i)) (sym e) ∙ f)) k.by_tree)
  inner_fed p q (at_back x i e) f =
      path_inward x i q (path_end g (port_at x.branch (back_out l.goes_back)) x.back (port_at x.mux (back_in l.goes_back)) q (h.tree.each_lane x i).path (ap g.feeder (sym e) ∙ f))
  inner_fed p q (at_branch b) f = inside_inward q (h.branches.branches p.node b p.port q f)
  inner_fed p q (at_buffer x i j) f =
      let k = back_kind x p.node i j in
      let one : p.port ≡ 1 = only_input g ty p q f (k.0, k.1, tree_takes k.0 (buffer_tree k.0 k.2)) in
      path_inward x i q (path_inside g (port_at x.branch (back_out l.goes_back)) x.back (port_at x.mux (back_in l.goes_back)) p.node q (h.tree.each_lane x i).path j (ap (λ i. g.feeder (port_at p.node i)) (sym one) ∙ f))
  inner_fed p q (at_body i) f = inside_inward q (h.body.closed p.node i p.port q f)
