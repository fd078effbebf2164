-- The nodes of a loop that are not its body, and what they feed.
use Rattle.std.proofs.Common.{◌≡◌, ◌≢◌, ◌⊎◌, inl, inr, refl, sym, ap, subst, ◌∙◌, List, [], ◌∷◌, ◌++◌, map, Some}
use Rattle.components.specs.Kind.{ins}
use Rattle.components.specs.Name.{Name, Port, port_get}
use Rattle.components.specs.declared.kind.Kind.{Kind}
use Rattle.components.specs.declared.kind.Kind.TheVariants.{Mux, Branch, Init}
use Rattle.circuits.specs.Circuit.{Circuit, Typed}
use Rattle.circuits.specs.Root.{PassesThrough}
use Rattle.circuits.specs.Replacing.{In, In.head, In.tail}
use Rattle.circuits.proofs.Names.{name_cases}
use Rattle.std.proofs.lemmas.Option.{same_Some}
use Rattle.loop_laws.specs.Polarity.{back_out, exit_bit, back_in}
use Rattle.loop_laws.specs.Reached.{port_at, OnTree, HasKind}
use Rattle.loop_laws.specs.BackPath.{IsBuffer, Through}
use Rattle.loop_laws.specs.Loop.{Lane, Loop, HasLane, HasBranch, IsInside, LoopAt, NodeOf, NodeOf.is_mark, NodeOf.in_tree, NodeOf.lane, NodeOf.branch, NodeOf.in_back, NodeOf.in_body}
use Rattle.loop_laws.proofs.Closed.{Inner, Inner.at_mark, Inner.at_tree, Inner.at_select, Inner.at_back, Inner.at_branch, Inner.at_buffer, Inner.at_body, lane_kind, branch_kind, back_kind, body_kind, tree_kind, mark_kind, grown_from, inside_out}
use Rattle.loop_laws.proofs.BackPaths.{path_end, path_inside, same_end}
use Rattle.loop_laws.proofs.NodeKinds.{kind_is, IsBodyKind, only_output, only_input, two_ports, tree_takes, buffer_tree}
use Rattle.loop_laws.proofs.Apart.{tree_no_body, body_no_back}
use Rattle.loop_laws.proofs.OneLoop.{in_map, map_in}
use Rattle.loop_turns.proofs.Lists.{in_left, in_right}
use Rattle.loop_turns.specs.Lanes.{backs_of, frame_of}
use Rattle.loop_turns.proofs.LoopLookups.{in_either, Unlike, ascending_unlike, at_in}

pub in_backs : (xs : List Lane) (n : Name) → In n (backs_of xs) → (x : Lane) × In x xs × In n x.back
in_backs [] n i = elim i [ ]
in_backs (x ∷ xs) n i =
    elim (in_either n x.back (backs_of xs) i) [ inl j ↦ (x, head refl, j) | inr j ↦ let (y, k, u) = in_backs xs n j in (y, tail k, u) ]

pub backs_in : (xs : List Lane) (n : Name) (x : Lane) → In x xs → In n x.back → In n (backs_of xs)
backs_in [] n x i j = elim i [ ]
backs_in (y ∷ ys) n x (head e) j = in_left n y.back (backs_of ys) (subst (λ (z : Lane). In n z.back) e j)
backs_in (y ∷ ys) n x (tail i) j = in_right n y.back (backs_of ys) (backs_in ys n x i j)

pub in_branches : (xs : List Lane) (n : Name) → In n (map (λ (x : Lane). x.branch) xs) → (x : Lane) × In x xs × (x.branch ≡ n)
in_branches [] n i = elim i [ ]
in_branches (x ∷ xs) n (head e) = (x, head refl, sym e)
in_branches (x ∷ xs) n (tail i) = let (y, j, e) = in_branches xs n i in (y, tail j, e)

pub branches_in : (xs : List Lane) (n : Name) → (x : Lane) × In x xs × (x.branch ≡ n) → In n (map (λ (x : Lane). x.branch) xs)
branches_in [] n (x, i, e) = elim i [ ]
branches_in (y ∷ ys) n (x, head f, e) = head (sym e ∙ ap (λ (z : Lane). z.branch) f)
branches_in (y ∷ ys) n (x, tail i, e) = tail (branches_in ys n (x, i, e))

-- the nodes of the frame
pub data FrameNode (l : Loop) (n : Name) : Type 0 where
  of_tree : In n l.tree → FrameNode l n
  of_lane : HasLane l n → FrameNode l n
  of_branch : HasBranch l n → FrameNode l n
  of_back : (x : Lane) → In x l.lanes → In n x.back → FrameNode l n

pub frame_node : (l : Loop) (n : Name) → In n (frame_of l) → FrameNode l n
frame_node l n i =
    elim (in_either n l.tree (map (λ (x : Lane). x.mux) l.lanes ++ (map (λ (x : Lane). x.branch) l.lanes ++ backs_of l.lanes)) i) [
      | inl t ↦ of_tree t
      | inr j ↦ elim (in_either n (map (λ (x : Lane). x.mux) l.lanes) (map (λ (x : Lane). x.branch) l.lanes ++ backs_of l.lanes) j) [
        | inl x ↦ of_lane (in_map l.lanes n x)
        | inr k ↦ elim (in_either n (map (λ (x : Lane). x.branch) l.lanes) (backs_of l.lanes) k) [
          | inl b ↦ of_branch (in_branches l.lanes n b)
          | inr b ↦ let (x, u, v) = in_backs l.lanes n b in of_back x u v
        ]
      ]
    ]

pub node_frame : (l : Loop) (n : Name) → FrameNode l n → In n (frame_of l)
node_frame l n (of_tree i) = in_left n l.tree (map (λ (x : Lane). x.mux) l.lanes ++ (map (λ (x : Lane). x.branch) l.lanes ++ backs_of l.lanes)) i
node_frame l n (of_lane x) =
    in_right n l.tree (map (λ (x : Lane). x.mux) l.lanes ++ (map (λ (x : Lane). x.branch) l.lanes ++ backs_of l.lanes))
    (in_left n (map (λ (x : Lane). x.mux) l.lanes) (map (λ (x : Lane). x.branch) l.lanes ++ backs_of l.lanes) (map_in l.lanes n x))
node_frame l n (of_branch x) =
    in_right n l.tree (map (λ (x : Lane). x.mux) l.lanes ++ (map (λ (x : Lane). x.branch) l.lanes ++ backs_of l.lanes))
    (in_right n (map (λ (x : Lane). x.mux) l.lanes) (map (λ (x : Lane). x.branch) l.lanes ++ backs_of l.lanes)
    (in_left n (map (λ (x : Lane). x.branch) l.lanes) (backs_of l.lanes) (branches_in l.lanes n x)))
node_frame l n (of_back x u v) =
    in_right n l.tree (map (λ (x : Lane). x.mux) l.lanes ++ (map (λ (x : Lane). x.branch) l.lanes ++ backs_of l.lanes))
    (in_right n (map (λ (x : Lane). x.mux) l.lanes) (map (λ (x : Lane). x.branch) l.lanes ++ backs_of l.lanes)
    (in_right n (map (λ (x : Lane). x.branch) l.lanes) (backs_of l.lanes) (backs_in l.lanes n x u v)))

module _ (g : Circuit) (ty : Typed g) (m : Name) (l : Loop) (at : LoopAt g m l) where
  pub frame_kind : (n : Name) → In n (frame_of l) → (k : Kind) × (g.kind_at n ≡ Some k)
  frame_kind n i = kind_in (frame_node l n i)
    where
      kind_in : FrameNode l n → (k : Kind) × (g.kind_at n ≡ Some k)
      kind_in (of_tree t) = let k = tree_kind g ty m l at n t in (k.0, k.1)
      kind_in (of_lane x) = let k = lane_kind g ty m l at n x in (Mux k.0, k.1)
      kind_in (of_branch x) = let k = branch_kind g ty m l at n x in (Branch k.0, k.1)
      kind_in (of_back x u v) = let k = back_kind g ty m l at x n u v in (k.0, k.1)

  pub frame_in_loop : (n : Name) → In n (frame_of l) → NodeOf m l n
  frame_in_loop n i = node_in (frame_node l n i)
    where
      node_in : FrameNode l n → NodeOf m l n
      node_in (of_tree t) = in_tree t
      node_in (of_lane x) = lane x
      node_in (of_branch x) = branch x
      node_in (of_back x u v) = in_back x u v

  pub body_no_frame : (n : Name) → In n l.body → In n (frame_of l) → ⊥
  body_no_frame n b i = none (frame_node l n i)
    where
      none : FrameNode l n → ⊥
      none (of_tree t) = let s = (at.tree.tree n).0 t in tree_no_body g ty m m l l at at n s.1 s.0 b
      none (of_lane x) = let (a, e) = lane_kind g ty m l at n x in kind_is g IsBodyKind n (Mux a) (body_kind g ty m l at n b) e
      none (of_branch x) = let (a, e) = branch_kind g ty m l at n x in kind_is g IsBodyKind n (Branch a) (body_kind g ty m l at n b) e
      none (of_back x u v) = body_no_back g ty m m l l at at n b x u v

  pub mark_no_frame : (n : Name) → n ≡ m → In n (frame_of l) → ⊥
  mark_no_frame n e i = none (frame_node l n i)
    where
      none : FrameNode l n → ⊥
      none (of_tree t) = mark_kind g ty m l at n PassesThrough e (tree_kind g ty m l at n t)
      none (of_lane x) =
          let (a, f) = lane_kind g ty m l at n x in
          let z : Some (Mux a) ≡ Some (Init (exit_bit l.goes_back) l.tags) = sym f ∙ ap g.kind_at e ∙ at.mark.0 in cc
      none (of_branch x) =
          let (a, f) = branch_kind g ty m l at n x in
          let z : Some (Branch a) ≡ Some (Init (exit_bit l.goes_back) l.tags) = sym f ∙ ap g.kind_at e ∙ at.mark.0 in cc
      none (of_back x u v) = mark_kind g ty m l at n IsBuffer e (back_kind g ty m l at x n u v)

  pub mark_no_body : (n : Name) → n ≡ m → In n l.body → ⊥
  mark_no_body n e b = mark_kind g ty m l at n IsBodyKind e (body_kind g ty m l at n b)

  -- what a node of the loop is: the mark, of the frame, or of the body
  pub data Third (n : Name) : Type 0 where
    third_mark : n ≡ m → Third n
    third_frame : In n (frame_of l) → Third n
    third_body : In n l.body → Third n

  pub third : (n : Name) → NodeOf m l n → Third n
  third n (is_mark e) = third_mark e
  third n (in_tree i) = third_frame (node_frame l n (of_tree i))
  third n (lane x) = third_frame (node_frame l n (of_lane x))
  third n (branch x) = third_frame (node_frame l n (of_branch x))
  third n (in_back x u v) = third_frame (node_frame l n (of_back x u v))
  third n (in_body b) = third_body b

  pub mux_branch : (n : Name) → HasLane l n → HasBranch l n → ⊥
  mux_branch n x y =
      let (a, e) = lane_kind g ty m l at n x in
      let (b, f) = branch_kind g ty m l at n y in
      let z : Some (Mux a) ≡ Some (Branch b) = sym e ∙ f in cc

  pub muxes_unlike : Unlike (λ (x : Lane). x.mux) l.lanes
  muxes_unlike = ascending_unlike l.lanes at.tree.lanes_by_name

  mux_no_buffer : (x : Lane) → In x l.lanes → HasKind g IsBuffer x.mux → ⊥
  mux_no_buffer x i b = kind_is g IsBuffer x.mux (Mux x.shape) b (at.tree.each_lane x i).is_mux

  -- a Branch is the Branch of one lane
  pub branches_unlike : Unlike (λ (x : Lane). x.branch) l.lanes
  branches_unlike i j x y e k s =
      let u : In x l.lanes = at_in l.lanes i x e in
      let v : In y l.lanes = at_in l.lanes j y k in
      muxes_unlike i j x y e k
      (ap (λ (p : Port). p.node)
      (same_end g ty (port_at x.branch (back_out l.goes_back)) x.back y.back (port_at x.mux (back_in l.goes_back)) (port_at y.mux (back_in l.goes_back)) (at.tree.each_lane x u).path
      (subst (λ z. Through g (port_at z (back_out l.goes_back)) y.back (port_at y.mux (back_in l.goes_back))) (sym s) (at.tree.each_lane y v).path)
      (mux_no_buffer x u) (mux_no_buffer y v)))

  pub mux_not_branch : (x y : Lane) → In x l.lanes → In y l.lanes → x.mux ≢ y.branch
  mux_not_branch x y u v e = mux_branch x.mux (x, u, refl) (y, v, sym e)

  pub mux_not_mark : (x : Lane) → In x l.lanes → x.mux ≢ m
  mux_not_mark x u e = mark_no_frame x.mux e (node_frame l x.mux (of_lane (x, u, refl)))

  pub branch_not_mark : (x : Lane) → In x l.lanes → x.branch ≢ m
  branch_not_mark x u e = mark_no_frame x.branch e (node_frame l x.branch (of_branch (x, u, refl)))

  -- the one output of a lane's Mux
  pub lane_output : (p q : Port) → g.feeder p ≡ Some q → HasLane l q.node → q.port ≡ 1
  lane_output p q f x = let (a, e) = lane_kind g ty m l at q.node x in only_output g ty p q f (Mux a, e, (a, refl))

  pub mark_input : (p q : Port) → g.feeder p ≡ Some q → p.node ≡ m → p.port ≡ 1
  mark_input p q f e = only_input g ty p q f (Init (exit_bit l.goes_back) l.tags, ap g.kind_at e ∙ at.mark.0, (1 ∷ [], refl))

  -- what feeds the tree, the selects and the back paths
  data Framed (n : Name) : Type 0 where
    by_tree : OnTree g m n → Framed n
    by_branch : HasBranch l n → Framed n
    by_back : (x : Lane) → In x l.lanes → In n x.back → Framed n

  framed_path : (x : Lane) → In x l.lanes → (q : Port) → (q ≡ port_at x.branch (back_out l.goes_back)) ⊎ In q.node x.back → Framed q.node
  framed_path x u q (inl e) = by_branch (x, u, ap (λ (z : Port). z.node) (sym e))
  framed_path x u q (inr v) = by_back x u v

  framed_no_inside : (n : Name) → Framed n → IsInside l n → ⊥
  framed_no_inside n (by_tree t) i =
      elim (name_cases n m) [
        | inl is ↦ elim i [
          | inl x ↦
              let (a, f) = lane_kind g ty m l at n x in
              let z : Some (Mux a) ≡ Some (Init (exit_bit l.goes_back) l.tags) = sym f ∙ ap g.kind_at is.is ∙ at.mark.0 in cc
          | inr b ↦ mark_no_body n is.is b
        ]
        | inr ne ↦ elim i [
          | inl x ↦ let (a, f) = lane_kind g ty m l at n x in kind_is g PassesThrough n (Mux a) (tree_kind g ty m l at n ((at.tree.tree n).1 (ne.is_not, t))) f
          | inr b ↦ tree_no_body g ty m m l l at at n t ne.is_not b
        ]
      ]
  framed_no_inside n (by_branch x) (inl y) = mux_branch n y x
  framed_no_inside n (by_branch x) (inr b) = body_no_frame n b (node_frame l n (of_branch x))
  framed_no_inside n (by_back x u v) (inl y) = let (a, f) = lane_kind g ty m l at n y in kind_is g IsBuffer n (Mux a) (back_kind g ty m l at x n u v) f
  framed_no_inside n (by_back x u v) (inr b) = body_no_back g ty m m l l at at n b x u v

  -- what a lane or a body node feeds
  pub data Receives (p : Port) : Type 0 where
    by_mark : p ≡ port_at m 1 → Receives p
    by_data : (x : Lane) → In x l.lanes → p ≡ port_at x.branch 1 → Receives p
    by_condition : (x : Lane) → In x l.lanes → p ≡ port_at x.branch 2 → Receives p
    by_body : In p.node l.body → Receives p

  branch_input : (p q : Port) → g.feeder p ≡ Some q → HasBranch l p.node → Receives p
  branch_input p q f (x, u, e) =
      let w = ty.wires p q f in
      let k : Branch x.shape ≡ w.to = same_Some (Branch x.shape) w.to (sym (at.tree.each_lane x u).is_branch ∙ ap g.kind_at e ∙ w.is_to) in
      elim (two_ports x.shape (1 ∷ []) p.port w.shape (ap (λ z. port_get (ins z) p.port) k ∙ w.enters)) [
        | inl one ↦ by_data x u (ap (λ n. port_at n p.port) (sym e) ∙ ap (port_at x.branch) one)
        | inr two ↦ by_condition x u (ap (λ n. port_at n p.port) (sym e) ∙ ap (port_at x.branch) two)
      ]

  pub receives : (p q : Port) → g.feeder p ≡ Some q → IsInside l q.node → Receives p
  receives p q f i = received (inside_out g ty m l at p q i f)
    where
      received : Inner m l p → Receives p
      received (at_mark e) = by_mark (ap (λ n. port_at n p.port) e ∙ ap (port_at m) (mark_input p q f e))
      received (at_tree t) =
          let k = tree_kind g ty m l at p.node t in
          let one : p.port ≡ 1 = only_input g ty p q f (k.0, k.1, tree_takes k.0 k.2) in
          let s = (at.tree.tree p.node).0 t in
          absurd (framed_no_inside q.node (by_tree (grown_from g ty m l at p.node s.1 s.0 q (ap (λ j. g.feeder (port_at p.node j)) (sym one) ∙ f))) i)
      received (at_select e x) =
          let k = (at.tree.lanes p.node).0 x in
          absurd (framed_no_inside q.node (by_tree (subst (λ (z : Port). OnTree g m z.node) (same_Some k.source q (sym k.fed ∙ ap (λ j. g.feeder (port_at p.node j)) (sym e) ∙ f)) k.by_tree)) i)
      received (at_back x u e) =
          absurd (framed_no_inside q.node (framed_path x u q (path_end g (port_at x.branch (back_out l.goes_back)) x.back (port_at x.mux (back_in l.goes_back)) q (at.tree.each_lane x u).path (ap g.feeder (sym e) ∙ f))) i)
      received (at_branch x) = branch_input p q f x
      received (at_buffer x u v) =
          let k = back_kind g ty m l at x p.node u v in
          let one : p.port ≡ 1 = only_input g ty p q f (k.0, k.1, tree_takes k.0 (buffer_tree k.0 k.2)) in
          absurd (framed_no_inside q.node (framed_path x u q (path_inside g (port_at x.branch (back_out l.goes_back)) x.back (port_at x.mux (back_in l.goes_back)) p.node q (at.tree.each_lane x u).path v (ap (λ j. g.feeder (port_at p.node j)) (sym one) ∙ f))) i)
      received (at_body b) = by_body b
