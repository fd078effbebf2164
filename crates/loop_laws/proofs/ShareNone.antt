-- Loops of different marks share no node: bodies, and all together.
use Rattle.std.proofs.Common.{◌≡◌, ◌≢◌, inl, inr, zero, suc, refl, sym, ap, ◌∙◌, [], ◌∷◌, Some}
use Rattle.std.proofs.Math.Bridge.{no_suc-le-zero}
use Rattle.components.specs.declared.kind.Kind.{Kind}
use Rattle.components.specs.declared.kind.Kind.TheVariants.{Buffer, Fork, Join, Split, Source0, Constant, Mux, Branch, Init, Pure, Operator}
use Rattle.components.specs.Name.{Name, Port, port_get}
use Rattle.components.specs.Kind.{Shape, outs, KindOk}
use Rattle.circuits.specs.Circuit.{Circuit, Typed}
use Rattle.circuits.specs.Replacing.{In}
use Rattle.circuits.specs.Root.{PassesThrough}
use Rattle.loop_laws.specs.Polarity.{exit_bit}
use Rattle.loop_laws.specs.Reached.{port_at}
use Rattle.loop_laws.specs.BackPath.{IsBuffer}
use Rattle.loop_laws.specs.Feeders.{IsConstant, Feeder}
use Rattle.loop_laws.specs.Loop.{Lane, Loop, HasLane, HasBranch, LoopAt, NodeOf, NodeOf.is_mark, NodeOf.in_tree, NodeOf.lane, NodeOf.branch, NodeOf.in_back, NodeOf.in_body}
use Rattle.loop_laws.proofs.NodeKinds.{kind_is, IsBodyKind}
use Rattle.loop_laws.proofs.Order.{before_fed}
use Rattle.loop_laws.proofs.Closed.{lane_kind, branch_kind, back_kind, body_kind, tree_kind, mark_kind, feeder_kind}
use Rattle.loop_laws.proofs.Apart.{one_root, tree_no_body, tree_no_back, body_no_back, backs_meet, same_lane, both_feeder, branches_apart}

-- a constant node with outputs has an output 1
pub first_output : (k : Kind) → IsConstant k → KindOk k → (a : Shape) × (port_get (outs k) 1 ≡ Some a)
first_output (Source0 a) c h = (a, refl)
first_output (Buffer a) c h = (a, refl)
first_output (Fork a zero) c h = absurd (no_suc-le-zero h.1.0)
first_output (Fork a (suc k)) c h = (a, refl)
first_output (Join bs) c h = (_, refl)
first_output (Split []) c h = absurd (no_suc-le-zero h.count.0)
first_output (Split (b ∷ bs)) c h = (b, refl)
first_output (Operator o ws w) c h = (_, refl)
first_output (Constant a w v) c h = (_, refl)
first_output (Pure f b) c h = (b, refl)
first_output _ c h = absurd c

-- what a feeder feeds
data FeederFeeds (m : Name) (l : Loop) (n : Name) : Type 0 where
  feeds_body : In n l.body → FeederFeeds m l n
  feeds_branch : HasBranch l n → FeederFeeds m l n
  feeds_mark : n ≡ m → FeederFeeds m l n

module _ (g : Circuit) (ty : Typed g) (m : Name) (l : Loop) (h : LoopAt g m l) where
  feeder_feeds : (p q : Port) → Feeder g m l.goes_back q.node → g.feeder p ≡ Some q → FeederFeeds m l p.node
  feeder_feeds p q (ns, i, fs) f =
      elim (fs.feeds p q i f) [
        | inl j ↦ feeds_body ((h.body.body p.node).1 (inr (ns, j, fs)))
        | inr (inl r) ↦ feeds_body ((h.body.body p.node).1 (inl r))
        | inr (inr (inl b)) ↦ feeds_branch (h.branches.entered p q b.1.shape (inr ((h.body.body q.node).1 (inr (ns, i, fs)))) f b.1.is_branch)
        | inr (inr (inr e)) ↦ feeds_mark e
      ]

  mark_no_branch : (y : Name) (a : Shape) → g.kind_at y ≡ Some (Branch a) → y ≢ m
  mark_no_branch y a e is =
      let z : Some (Branch a) ≡ Some (Init (exit_bit l.goes_back) l.tags) = sym e ∙ ap g.kind_at is ∙ h.mark.0 in cc

  mark_no_mux : (y : Name) (a : Shape) → g.kind_at y ≡ Some (Mux a) → y ≢ m
  mark_no_mux y a e is =
      let z : Some (Mux a) ≡ Some (Init (exit_bit l.goes_back) l.tags) = sym e ∙ ap g.kind_at is ∙ h.mark.0 in cc

module _ (g : Circuit) (ty : Typed g) (m n : Name) (l k : Loop) (h : LoopAt g m l) (j : LoopAt g n k) (differ : m ≢ n) where
  flip : n ≢ m
  flip e = differ (sym e)

  body_no_branch : (y : Name) → In y l.body → HasBranch k y → ⊥
  body_no_branch y b c = let (a, e) = branch_kind g ty n k j y c in kind_is g IsBodyKind y (Branch a) (body_kind g ty m l h y b) e

  body_no_mark : (y : Name) → In y l.body → y ≡ n → ⊥
  body_no_mark y b e = mark_kind g ty n k j y IsBodyKind e (body_kind g ty m l h y b)

  no_common : (y : Name) → FeederFeeds m l y → FeederFeeds n k y → (In y l.body → In y k.body → ⊥) → (In y k.body → HasBranch l y → ⊥) → (In y k.body → y ≡ m → ⊥) → ⊥
  no_common y (feeds_body b) (feeds_body c) later x z = later b c
  no_common y (feeds_body b) (feeds_branch c) later x z = body_no_branch y b c
  no_common y (feeds_body b) (feeds_mark c) later x z = body_no_mark y b c
  no_common y (feeds_branch b) (feeds_body c) later x z = x c b
  no_common y (feeds_branch b) (feeds_branch c) later x z = branches_apart g ty m n l k h j differ y b c
  no_common y (feeds_branch b) (feeds_mark c) later x z = let (a, e) = branch_kind g ty m l h y b in mark_no_branch g ty n k j y a e c
  no_common y (feeds_mark b) (feeds_body c) later x z = z c b
  no_common y (feeds_mark b) (feeds_branch c) later x z = let (a, e) = branch_kind g ty n k j y c in mark_no_branch g ty m l h y a e b
  no_common y (feeds_mark b) (feeds_mark c) later x z = differ (sym b ∙ c)

module _ (g : Circuit) (ty : Typed g) (m n : Name) (l k : Loop) (h : LoopAt g m l) (j : LoopAt g n k) (differ : m ≢ n) where
  common_step : (y : Name) → In y l.body → ((p q : Port) → g.feeder p ≡ Some q → q.node ≡ y → In p.node l.body → In p.node k.body → ⊥) → In y k.body → ⊥
  common_step y b later c =
      let fl = both_feeder g ty m n l k h j differ y b c in
      let fk = both_feeder g ty n m k l j h (λ e. differ (sym e)) y c b in
      let (kind, e, constant) = feeder_kind g ty m l h y fl in
      let (a, out) = first_output kind constant (ty.kinds y kind e) in
      let (p, f) = ty.outputs (port_at y 1) kind a e out in
      no_common g ty m n l k h j differ p.node (feeder_feeds g ty m l h p (port_at y 1) fl f) (feeder_feeds g ty n k j p (port_at y 1) fk f)
      (later p (port_at y 1) f refl) (body_no_branch g ty n m k l j h (λ e. differ (sym e)) p.node) (body_no_mark g ty n m k l j h (λ e. differ (sym e)) p.node)

  bodies_apart : (y : Name) → In y l.body → In y k.body → ⊥
  bodies_apart y i =
      before_fed g l.body (λ x. In x k.body → ⊥) common_step [] l.body h.body.in_order (λ x q p e. elim e [ ]) (λ x b. inr b) y i

  -- the nodes of l that come first in their list, and those of k
  mark_apart : (y : Name) → y ≡ m → NodeOf n k y → ⊥
  mark_apart y e (is_mark f) = differ (sym e ∙ f)
  mark_apart y e (in_tree i) = mark_kind g ty m l h y PassesThrough e (tree_kind g ty n k j y i)
  mark_apart y e (lane x) = let (a, f) = lane_kind g ty n k j y x in mark_no_mux g ty m l h y a f e
  mark_apart y e (branch b) = let (a, f) = branch_kind g ty n k j y b in mark_no_branch g ty m l h y a f e
  mark_apart y e (in_back x u i) = mark_kind g ty m l h y IsBuffer e (back_kind g ty n k j x y u i)
  mark_apart y e (in_body i) = mark_kind g ty m l h y IsBodyKind e (body_kind g ty n k j y i)

  tree_apart : (y : Name) → In y l.tree → NodeOf n k y → ⊥
  tree_apart y t (is_mark e) = mark_kind g ty n k j y PassesThrough e (tree_kind g ty m l h y t)
  tree_apart y t (in_tree i) = differ (one_root g ty m n l k h j y ((h.tree.tree y).0 t).1 ((j.tree.tree y).0 i).1)
  tree_apart y t (lane x) = let (a, f) = lane_kind g ty n k j y x in kind_is g PassesThrough y (Mux a) (tree_kind g ty m l h y t) f
  tree_apart y t (branch b) = let (a, f) = branch_kind g ty n k j y b in kind_is g PassesThrough y (Branch a) (tree_kind g ty m l h y t) f
  tree_apart y t (in_back x u i) = let s = (h.tree.tree y).0 t in tree_no_back g ty m n l k h j y s.1 s.0 x u i
  tree_apart y t (in_body i) = let s = (h.tree.tree y).0 t in tree_no_body g ty m n l k h j y s.1 s.0 i

  lane_apart : (y : Name) → HasLane l y → NodeOf n k y → ⊥
  lane_apart y x (is_mark e) = let (a, f) = lane_kind g ty m l h y x in mark_no_mux g ty n k j y a f e
  lane_apart y x (in_tree i) = let (a, f) = lane_kind g ty m l h y x in kind_is g PassesThrough y (Mux a) (tree_kind g ty n k j y i) f
  lane_apart y x (lane z) = differ (same_lane g ty m n l k h j y ((h.tree.lanes y).0 x) ((j.tree.lanes y).0 z))
  lane_apart y x (branch b) =
      let (a, f) = lane_kind g ty m l h y x in
      let (c, e) = branch_kind g ty n k j y b in
      let z : Some (Mux a) ≡ Some (Branch c) = sym f ∙ e in cc
  lane_apart y x (in_back z u i) = let (a, f) = lane_kind g ty m l h y x in kind_is g IsBuffer y (Mux a) (back_kind g ty n k j z y u i) f
  lane_apart y x (in_body i) = let (a, f) = lane_kind g ty m l h y x in kind_is g IsBodyKind y (Mux a) (body_kind g ty n k j y i) f

  branch_apart : (y : Name) → HasBranch l y → NodeOf n k y → ⊥
  branch_apart y x (is_mark e) = let (a, f) = branch_kind g ty m l h y x in mark_no_branch g ty n k j y a f e
  branch_apart y x (in_tree i) = let (a, f) = branch_kind g ty m l h y x in kind_is g PassesThrough y (Branch a) (tree_kind g ty n k j y i) f
  branch_apart y x (lane z) =
      let (a, f) = branch_kind g ty m l h y x in
      let (c, e) = lane_kind g ty n k j y z in
      let z : Some (Branch a) ≡ Some (Mux c) = sym f ∙ e in cc
  branch_apart y x (branch b) = branches_apart g ty m n l k h j differ y x b
  branch_apart y x (in_back z u i) = let (a, f) = branch_kind g ty m l h y x in kind_is g IsBuffer y (Branch a) (back_kind g ty n k j z y u i) f
  branch_apart y x (in_body i) = let (a, f) = branch_kind g ty m l h y x in kind_is g IsBodyKind y (Branch a) (body_kind g ty n k j y i) f

  back_apart : (y : Name) (x : Lane) → In x l.lanes → In y x.back → NodeOf n k y → ⊥
  back_apart y x u b (is_mark e) = mark_kind g ty n k j y IsBuffer e (back_kind g ty m l h x y u b)
  back_apart y x u b (in_tree i) = let s = (j.tree.tree y).0 i in tree_no_back g ty n m k l j h y s.1 s.0 x u b
  back_apart y x u b (lane z) = let (a, f) = lane_kind g ty n k j y z in kind_is g IsBuffer y (Mux a) (back_kind g ty m l h x y u b) f
  back_apart y x u b (branch z) = let (a, f) = branch_kind g ty n k j y z in kind_is g IsBuffer y (Branch a) (back_kind g ty m l h x y u b) f
  back_apart y x u b (in_back z v c) =
      lane_apart x.mux (x, u, refl) (lane (z, v, sym (backs_meet g ty m n l k h j x z u v y b c)))
  back_apart y x u b (in_body i) = body_no_back g ty n m k l j h y i x u b

  body_apart : (y : Name) → In y l.body → NodeOf n k y → ⊥
  body_apart y b (is_mark e) = body_no_mark g ty m n l k h j differ y b e
  body_apart y b (in_tree i) = let s = (j.tree.tree y).0 i in tree_no_body g ty n m k l j h y s.1 s.0 b
  body_apart y b (lane z) = let (a, f) = lane_kind g ty n k j y z in kind_is g IsBodyKind y (Mux a) (body_kind g ty m l h y b) f
  body_apart y b (branch z) = body_no_branch g ty m n l k h j differ y b z
  body_apart y b (in_back z v c) = body_no_back g ty m n l k h j y b z v c
  body_apart y b (in_body i) = bodies_apart y b i

  pub share_none : (y : Name) → NodeOf m l y → NodeOf n k y → ⊥
  share_none y (is_mark e) o = mark_apart y e o
  share_none y (in_tree i) o = tree_apart y i o
  share_none y (lane x) o = lane_apart y x o
  share_none y (branch b) o = branch_apart y b o
  share_none y (in_back x u i) o = back_apart y x u i o
  share_none y (in_body i) o = body_apart y i o
