-- The tree and the Muxes of a loop can be combined.
use Rattle.std.proofs.Common.{◌≡◌, ◌≢◌, ◌⊎◌, inl, inr, ℕ, suc, ◌≤◌, refl, sym, ap, subst, ◌∙◌, List, [], ◌∷◌, ◌++◌, map, length, Some, arith}
use Rattle.std.proofs.lemmas.Option.{same_Some}
use Rattle.std.specs.List.{AllByRecursion}
use Rattle.components.specs.Kind.{Shape}
use Rattle.components.specs.Name.{Name, Port}
use Rattle.components.specs.declared.kind.Kind.TheVariants.{Mux, Branch, Init}
use Rattle.circuits.specs.Circuit.{Circuit, Typed}
use Rattle.circuits.specs.Replacing.{In, In.head, In.tail, NoneTwice}
use Rattle.circuits.specs.Root.{PassesThrough}
use Rattle.loop_laws.proofs.Ascending.{not_itself}
use Rattle.loop_laws.proofs.Closed.{lane_kind, branch_kind, tree_kind, mark_kind, grown_from}
use Rattle.loop_laws.proofs.NodeKinds.{kind_is, only_output, only_input, tree_takes}
use Rattle.loop_laws.proofs.OneLoop.{in_map, map_in}
use Rattle.loop_laws.specs.BodyOrder.{IsBefore, Ascending}
use Rattle.loop_laws.specs.Loop.{Lane, Loop, HasLane, HasBranch, LoopAt}
use Rattle.loop_laws.specs.Polarity.{exit_bit}
use Rattle.loop_laws.specs.Reached.{port_at, OnTree, OnTree.root, OnTree.grown}
use Rattle.loop_turns.proofs.LoopFrame.{FrameNode, FrameNode.of_tree, FrameNode.of_lane, node_frame, body_no_frame, mark_no_frame, Receives, Receives.by_mark, Receives.by_data, Receives.by_condition, Receives.by_body, receives, mux_branch}
use Rattle.loop_turns.proofs.LoopLookups.{in_either, in_at, at_within}
use Rattle.loop_turns.specs.Uses.{PathIn, PathIn.wire, PathIn.further, IsTreeInput, CanCombineMuxes}
use Rattle.circuits.proofs.Names.{name_cases}

-- names in order are different
each_other : (n : Name) (ns : List Name) → AllByRecursion (IsBefore n) ns → AllByRecursion (λ k. n ≢ k) ns
each_other n [] h = tt
each_other n (k ∷ ks) h = ((λ e. not_itself n (subst (IsBefore n) (sym e) h.0)), each_other n ks h.1)

pub ascending_once : (ns : List Name) → Ascending ns → NoneTwice ns
ascending_once [] a = tt
ascending_once (n ∷ ns) a = (each_other n ns a.0, ascending_once ns a.1)

pub each_of : (P : Name → Type 0) (ns : List Name) → ((k : Name) → In k ns → P k) → AllByRecursion P ns
each_of P [] h = tt
each_of P (k ∷ ks) h = (h k (head refl), each_of P ks (λ z i. h z (tail i)))

each_both_lists : (P : Name → Type 0) (ns ks : List Name) → AllByRecursion P ns → AllByRecursion P ks → AllByRecursion P (ns ++ ks)
each_both_lists P [] ks a b = b
each_both_lists P (n ∷ ns) ks a b = (a.0, each_both_lists P ns ks a.1 b)

pub once_joined : (ns ks : List Name) → NoneTwice ns → NoneTwice ks → ((n : Name) → In n ns → In n ks → ⊥) → NoneTwice (ns ++ ks)
once_joined [] ks a b apart = b
once_joined (n ∷ ns) ks a b apart = (
  each_both_lists (λ k. n ≢ k) ns ks a.0 (each_of (λ k. n ≢ k) ks (λ k i e. apart n (head refl) (subst (λ z. In z ks) (sym e) i))),
  once_joined ns ks a.1 b (λ k i j. apart k (tail i) j),
)

module _ (g : Circuit) (ty : Typed g) (m : Name) (l : Loop) (at : LoopAt g m l) where
  abbrev muxes : List Name
  muxes = map (λ (x : Lane). x.mux) l.lanes

  mux_kind : (n : Name) → In n muxes → (a : Shape) × (g.kind_at n ≡ Some (Mux a))
  mux_kind n i = lane_kind g ty m l at n (in_map l.lanes n i)

  pub tree_no_mux : (n : Name) → In n l.tree → In n muxes → ⊥
  tree_no_mux n t i = let (a, e) = mux_kind n i in kind_is g PassesThrough n (Mux a) (tree_kind g ty m l at n t) e

  pub listed_frame : (n : Name) → In n (l.tree ++ muxes) → FrameNode l n
  listed_frame n i = elim (in_either n l.tree muxes i) [ inl t ↦ of_tree t | inr x ↦ of_lane (in_map l.lanes n x) ]

  -- what feeds an input of the tree
  fed_by_tree : (p q : Port) → IsTreeInput l.tree muxes p → g.feeder p ≡ Some q → OnTree g m q.node
  fed_by_tree p q (inl i) f =
      let k = tree_kind g ty m l at p.node i in
      let one : p.port ≡ 1 = only_input g ty p q f (k.0, k.1, tree_takes k.0 k.2) in
      let t = (at.tree.tree p.node).0 i in
      grown_from g ty m l at p.node t.1 t.0 q (ap (λ j. g.feeder (port_at p.node j)) (sym one) ∙ f)
  fed_by_tree p q (inr (e, i)) f =
      let k = (at.tree.lanes p.node).0 (in_map l.lanes p.node i) in
      subst (λ (z : Port). OnTree g m z.node) (same_Some k.source q (sym k.fed ∙ ap (λ j. g.feeder (port_at p.node j)) (sym e) ∙ f)) k.by_tree

  tree_leads : (p q : Port) → OnTree g m q.node → g.feeder p ≡ Some q → IsTreeInput l.tree muxes p
  tree_leads p q t f = elim (at.tree.leaves p q t f) [ inl i ↦ inl i | inr x ↦ inr (x.0, map_in l.lanes p.node x.1) ]

  mark_goes : (p : Port) × (g.feeder p ≡ Some (port_at m 1))
  mark_goes = ty.outputs (port_at m 1) (Init (exit_bit l.goes_back) l.tags) (1 ∷ []) at.mark.0 refl

  others : (p q : Port) → IsTreeInput l.tree muxes p → p ≢ mark_goes.0 → g.feeder p ≡ Some q → In q.node l.tree
  others p q i away f =
      elim (name_cases q.node m) [
        | inl is ↦
            let one : q.port ≡ 1 = only_output g ty p q f (Init (exit_bit l.goes_back) l.tags, ap g.kind_at is.is ∙ at.mark.0, (1 ∷ [], refl)) in
            let same : q ≡ port_at m 1 = ap (λ n. port_at n q.port) is.is ∙ ap (port_at m) one in
            absurd (away (ty.once p mark_goes.0 q f (mark_goes.1 ∙ ap Some (sym same))))
        | inr ne ↦ (at.tree.tree q.node).1 (ne.is_not, fed_by_tree p q i f)
      ]

  -- no cycle: a walk that ends at a node of the tree begins nearer to m
  abbrev Path : Name → Name → Type 0
  Path a b = PathIn g l.tree a b

  path_start : (a b : Name) → Path a b → In a l.tree
  path_start a b (wire i q e s f t) = s
  path_start a b (further i q p f t) = path_start a q.node p

  path_end_in : (a b : Name) → Path a b → In b l.tree
  path_end_in a b (wire i q e s f t) = t
  path_end_in a b (further i q p f t) = t

  joined_paths : (a b c : Name) → Path a b → Path b c → Path a c
  joined_paths a b c p (wire i q e s f t) = further i q (subst (Path a) (sym e) p) f t
  joined_paths a b c p (further i q r f t) = further i q (joined_paths a b q.node p r) f t

  -- the last step of a closed walk, taken first
  turned_round : (n : Name) → Path n n → (i : ℕ) × (q : Port) × (g.feeder (port_at n i) ≡ Some q) × Path q.node q.node
  turned_round n (wire i q e s f t) = (i, q, f, subst (λ z. Path z z) (sym e) (wire i q e s f t))
  turned_round n (further i q p f t) = (i, q, f, joined_paths q.node n q.node (wire i q refl (path_end_in n q.node p) f t) p)

  no_cycle : (n : Name) → OnTree g m n → Path n n → ⊥
  no_cycle n (root e) p = mark_kind g ty m l at n PassesThrough e (tree_kind g ty m l at n (path_start n n p))
  no_cycle n (grown i q k t f e tree) p =
      let (j, r, h, c) = turned_round n p in
      let one : i ≡ 1 = only_input g ty (port_at n i) q f (k, e, tree_takes k tree) in
      let two : j ≡ 1 = only_input g ty (port_at n j) r h (k, e, tree_takes k tree) in
      let same : r ≡ q = same_Some r q (sym h ∙ ap (λ z. g.feeder (port_at n z)) (two ∙ sym one) ∙ f) in
      no_cycle q.node t (subst (λ (z : Port). Path z.node z.node) same c)

  not_branch : (n : Name) → In n l.tree ⊎ HasLane l n → HasBranch l n → ⊥
  not_branch n (inl t) b = let (a, e) = branch_kind g ty m l at n b in kind_is g PassesThrough n (Branch a) (tree_kind g ty m l at n t) e
  not_branch n (inr x) b = mux_branch g ty m l at n x b

  listed : (n : Name) → In n (l.tree ++ muxes) → In n l.tree ⊎ HasLane l n
  listed n i = elim (in_either n l.tree muxes i) [ inl t ↦ inl t | inr x ↦ inr (in_map l.lanes n x) ]

  pub no_listed : (p : Port) → Receives g ty m l at p → In p.node (l.tree ++ muxes) → ⊥
  no_listed p (by_mark e) i = mark_no_frame g ty m l at p.node (ap (λ (z : Port). z.node) e) (node_frame l p.node (listed_frame p.node i))
  no_listed p (by_data x u e) i = not_branch p.node (listed p.node i) (x, u, ap (λ (z : Port). z.node) (sym e))
  no_listed p (by_condition x u e) i = not_branch p.node (listed p.node i) (x, u, ap (λ (z : Port). z.node) (sym e))
  no_listed p (by_body b) i = body_no_frame g ty m l at p.node b (node_frame l p.node (listed_frame p.node i))

  count_muxes : (xs : List Lane) → length (map (λ (x : Lane). x.mux) xs) ≡ length xs
  count_muxes [] = refl
  count_muxes (x ∷ xs) = ap suc (count_muxes xs)

  some_mux : 1 ≤ length muxes
  some_mux =
      let (j, e) = in_at l.lanes at.branches.data_lane at.branches.is_data_lane in
      let h = at_within l.lanes (suc j) at.branches.data_lane e in
      let c = count_muxes l.lanes in
      omega (arith, h, c)

  pub can_combine : CanCombineMuxes g l.tree muxes
  can_combine =
      record {
        different = once_joined l.tree muxes (ascending_once l.tree at.tree.tree_by_name) (ascending_once muxes at.tree.lanes_by_name) tree_no_mux;
        trees = tree_kind g ty m l at;
        muxes = λ n i. let (a, e) = mux_kind n i in (Mux a, e, tt);
        some = some_mux;
        entry = mark_goes.0;
        is_input = tree_leads mark_goes.0 (port_at m 1) (root refl) mark_goes.1;
        source = port_at m 1;
        fed = mark_goes.1;
        from_outside = λ i. mark_no_frame g ty m l at m refl (node_frame l m (listed_frame m i));
        others = others;
        leads = λ p q i f. tree_leads p q ((at.tree.tree q.node).0 i).1 f;
        no_cycle = λ n p. no_cycle n ((at.tree.tree n).0 (path_start n n p)).1 p;
        away = λ p q i f j. no_listed p (receives g ty m l at p q f (inl (in_map l.lanes q.node i))) j;
      }
