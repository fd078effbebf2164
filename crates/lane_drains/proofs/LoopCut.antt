-- The loop at a mark, cut out of its graph, is a loop with lanes and a body.
use Rattle.std.proofs.Common.{◌≡◌, ◌⊎◌, ℕ, zero, suc, inl, inr, refl, sym, ap, subst, ◌∙◌, Bool, map, List, [], ◌∷◌, Option, Some, arith}
use Rattle.std.proofs.lemmas.Option.{same_Some}
use Rattle.body_laws.specs.Bodies.{IsSteady}
use Rattle.circuits.specs.Circuit.{Circuit}
use Rattle.circuits.specs.Buffers.{first_port}
use Rattle.circuits.specs.Replacing.{IsPart, In, In.head, In.tail}
use Rattle.circuits.specs.Root.{PassesThrough, Root, here, past}
use Rattle.components.specs.Kind.{Shape, ins, outs, KindOk}
use Rattle.components.specs.Numbered.{single_port}
use Rattle.components.specs.Name.{Name, Port, port_get}
use Rattle.components.specs.declared.kind.Kind.{Kind}
use Rattle.components.specs.declared.kind.Kind.TheVariants.{Buffer, Fork, Join, Split, Sink0, Source0, Constant, Mux, Branch, Init, Pure, Operator}
use Rattle.lane_drains.proofs.Walks.{ComesBackTo, ComesBackTo.fed, ComesBackTo.through, as_root}
use Rattle.lane_drains.specs.LaneLoop.{LoopLane, FromLoop, IsLoopLane, FiresEachTurn, FiresEachTurn.after_lane, FiresEachTurn.after, FiresEachTurn.before, FiresEachTurn.before_branch, FiresEachTurn.before_mark, IsLaneLoop}
use Rattle.circuits.specs.Values.{ValuesFit}
use Rattle.lane_drains.specs.Laws.{CutLoopHasLanes, CutLoopDrainsAreLoops}
use Rattle.lane_drains.proofs.LaneLoopDrains.{drains_are_loops}
use Rattle.lane_drains.specs.LoopCut.{lane_with, lanes_with, CutsLoop}
use Rattle.loop_laws.proofs.NodeKinds.{buffer_tree, IsBodyKind}
use Rattle.loop_laws.proofs.Constants.{constant_kind}
use Rattle.loop_laws.proofs.Closed.{body_kind, mark_fed}
use Rattle.loop_laws.specs.BackPath.{Through}
use Rattle.loop_laws.specs.BodyOrder.{IsReady, InBodyOrder}
use Rattle.loop_laws.specs.Feeders.{IsConstant, Feeder}
use Rattle.loop_laws.specs.Loop.{Lane, Loop, LoopAt, HasLane, HasBranch, IsInside, NodeOf}
use Rattle.loop_laws.specs.Polarity.{exit_bit, back_out, back_in}
use Rattle.loop_laws.specs.Reached.{port_at, OnTree, OnTree.root, OnTree.grown, IsLane, Reached, Reached.first, Reached.later, HasKind}
use Rattle.part_drains.proofs.PartInside.{tree_port}
use Rattle.part_drains.proofs.Sorts.{inner_some_at}

-- kinds of a body's nodes
steady : (k : Kind) → IsBodyKind k → IsSteady k
steady (Buffer a) h = tt
steady (Fork a n) h = tt
steady (Join bs) h = tt
steady (Split bs) h = tt
steady (Sink0 a) h = tt
steady (Source0 a) h = tt
steady (Constant a w v) h = tt
steady (Pure f b) h = tt
steady (Operator o ws w) h = tt
steady _ h = absurd h

-- a constant node has a first output
constant_gives : (k : Kind) → IsConstant k → KindOk k → (s : Shape) × (port_get (outs k) 1 ≡ Some s)
constant_gives (Source0 a) h c = (a, refl)
constant_gives (Buffer a) h c = (a, refl)
constant_gives (Fork a zero) h c = absurd (omega (arith, c.1.0))
constant_gives (Fork a (suc n)) h c = (a, refl)
constant_gives (Join bs) h c = (_, refl)
constant_gives (Split []) h c = absurd (omega (arith, c.count.0))
constant_gives (Split (b ∷ bs)) h c = (b, refl)
constant_gives (Operator o ws w) h c = (w ∷ [], refl)
constant_gives (Constant a w v) h c = (w ∷ [], refl)
constant_gives (Pure f b) h c = (b, refl)
constant_gives _ h c = absurd h

in_map : {A B : Type 0} (f : A → B) (xs : List A) (y : B) → In y (map f xs) → (x : A) × In x xs × (y ≡ f x)
in_map f [] y i = elim i [ ]
in_map f (x ∷ xs) y (head e) = (x, head refl, e)
in_map f (x ∷ xs) y (tail i) = let (z, j, e) = in_map f xs y i in (z, tail j, e)

map_in : {A B : Type 0} (f : A → B) (xs : List A) (x : A) → In x xs → In (f x) (map f xs)
map_in f [] x i = elim i [ ]
map_in f (y ∷ ys) x (head e) = head (ap f e)
map_in f (y ∷ ys) x (tail i) = tail (map_in f ys x i)

-- a root is of a kind at which walks stop
root_kind : (c : Circuit) (p q : Port) → Root c p q → HasKind c (λ k. ¬ (PassesThrough k)) q.node
root_kind c p q (here k f e stops) = (k, e, stops)
root_kind c p q (past r k f e pass more) = root_kind c (first_port r.node) q more

module _ (g left : Circuit) (target : Port → Option Port) (pt : IsPart g left target) (m : Name) (l : Loop) (loop : LoopAt g m l) (entry exit : Lane → Name) (cut : CutsLoop left m l entry exit) where
  abbrev d : Bool
  d = l.goes_back

  abbrev lanes : List LoopLane
  lanes = lanes_with entry exit l

  kind_left : (n : Name) (k : Kind) → NodeOf m l n → g.kind_at n ≡ Some k → left.kind_at n ≡ Some k
  kind_left n k o e =
      let (j, f, ij) = inner_some_at (left.kind_at n) (cut.nodes n o) in f ∙ ap Some (same_Some j k (sym (pt.nodes n j f ij) ∙ e))

  wire_left : (p q : Port) → NodeOf m l p.node → NodeOf m l q.node → g.feeder p ≡ Some q → left.feeder p ≡ Some q
  wire_left p q a b e = (pt.wires p q (cut.nodes p.node a) (cut.nodes q.node b)).0 e

  inside_node : (n : Name) → IsInside l n → NodeOf m l n
  inside_node n (inl h) = NodeOf.lane h
  inside_node n (inr i) = NodeOf.in_body i

  -- the mark has one output, and so has a Mux
  mark_out : (p q : Port) → g.feeder p ≡ Some q → q.node ≡ m → q ≡ port_at m 1
  mark_out p q e is =
      let v = pt.whole.wires p q e in
      let kind : v.from ≡ Init (exit_bit d) l.tags = same_Some v.from (Init (exit_bit d) l.tags) (sym v.is_from ∙ ap g.kind_at is ∙ loop.mark.0) in
      let one : q.port ≡ 1 = single_port (1 ∷ []) v.shape q.port (ap (λ z. port_get (outs z) q.port) (sym kind) ∙ v.leaves) in
      λ i. record { node = is i; port = one i }

  lane_out : (p q : Port) (x : Lane) → In x l.lanes → g.feeder p ≡ Some q → x.mux ≡ q.node → q ≡ port_at x.mux 1
  lane_out p q x i e is =
      let v = pt.whole.wires p q e in
      let kind : v.from ≡ Mux x.shape = same_Some v.from (Mux x.shape) (sym v.is_from ∙ ap g.kind_at (sym is) ∙ (loop.tree.each_lane x i).is_mux) in
      let one : q.port ≡ 1 = single_port x.shape v.shape q.port (ap (λ z. port_get (outs z) q.port) (sym kind) ∙ v.leaves) in
      λ j. record { node = sym is j; port = one j }

  from_inside : (p q : Port) → g.feeder p ≡ Some q → IsInside l q.node → FromLoop lanes l.body q
  from_inside p q e (inl h) = inl (lane_with entry exit h.0, map_in (lane_with entry exit) l.lanes h.0 h.1, lane_out p q h.0 h.1 e h.2)
  from_inside p q e (inr i) = inr i

  -- ways back through the tree
  tree_node : (n : Name) (k : Kind) → OnTree g m n → g.kind_at n ≡ Some k → PassesThrough k → NodeOf m l n
  tree_node n k on e tree =
      NodeOf.in_tree ((loop.tree.tree n).1 ((λ is. subst PassesThrough (same_Some k (Init (exit_bit d) l.tags) (sym e ∙ ap g.kind_at is ∙ loop.mark.0)) tree), on))

  tree_way : (n : Name) → OnTree g m n → (p q : Port) → q.node ≡ n → NodeOf m l p.node → g.feeder p ≡ Some q → ComesBackTo left (port_at m 1) p
  tree_way n (root e) p q is o f =
      let at : q ≡ port_at m 1 = mark_out p q f (is ∙ e) in
      fed (wire_left p (port_at m 1) o (NodeOf.is_mark refl) (f ∙ ap Some at))
  tree_way n (grown i r k on f kk tree) p q is o e =
      let node : NodeOf m l n = tree_node n k (grown i r k on f kk tree) kk tree in
      let one : port_at n i ≡ port_at n 1 = tree_port g pt.whole (port_at n i) r k f kk tree in
      through q k (wire_left p q o (subst (NodeOf m l) (sym is) node) e) (ap left.kind_at is ∙ kind_left n k node kk) tree
      (subst (λ z. ComesBackTo left (port_at m 1) (port_at z 1)) (sym is) (tree_way r.node on (port_at n 1) r refl node (ap g.feeder (sym one) ∙ f)))

  -- ways back through Buffers
  longer : (q r p : Port) (k : Kind) → left.kind_at q.node ≡ Some k → PassesThrough k → left.feeder (port_at q.node 1) ≡ Some r → ComesBackTo left q p → ComesBackTo left r p
  longer q r p k e tree f (fed h) = through q k h e tree (fed f)
  longer q r p k e tree f (through u j h kj jt w) = through u j h kj jt (longer q r (port_at u.node 1) k e tree f w)

  buffer_way : (bs : List Name) (q p : Port) → ((b : Name) → In b bs → NodeOf m l b) → NodeOf m l q.node → NodeOf m l p.node → Through g q bs p → ComesBackTo left q p
  buffer_way [] q p all oq op h = fed (wire_left p q op oq h)
  buffer_way (b ∷ bs) q p all oq op h =
      let ob : NodeOf m l b = all b (head refl) in
      longer (port_at b 1) q p h.0.0 (kind_left b h.0.0 ob h.0.1) (buffer_tree h.0.0 h.0.2) (wire_left (port_at b 1) q ob oq h.1)
      (buffer_way bs (port_at b 1) p (λ n i. all n (tail i)) ob op h.2)

  -- ways back to the condition
  body_tree : (n : Name) (k : Kind) → IsInside l n → g.kind_at n ≡ Some k → PassesThrough k → In n l.body
  body_tree n k (inr i) e tree = i
  body_tree n k (inl h) e tree =
      absurd (subst PassesThrough (same_Some k (Mux (h.0).shape) (sym e ∙ ap g.kind_at (sym h.2) ∙ (loop.tree.each_lane h.0 h.1).is_mux)) tree)

  root_way : (p q : Port) → NodeOf m l p.node → ((r : Port) → g.feeder p ≡ Some r → IsInside l r.node) → Root g p q → ComesBackTo left q p
  root_way p q o from (here j f e stops) = fed (wire_left p q o (inside_node q.node (from q f)) f)
  root_way p q o from (past r j f e pass w) =
      let i : In r.node l.body = body_tree r.node j (from r f) e pass in
      let node : NodeOf m l r.node = NodeOf.in_body i in
      through r j (wire_left p r o node f) (kind_left r.node j node e) pass
      (root_way (port_at r.node 1) q node (λ x h. loop.body.closed r.node i 1 x h) w)

  -- the source of an input of the loop is in the part as in the graph
  source_inside : (p q : Port) → NodeOf m l p.node → ((r : Port) → g.feeder p ≡ Some r → IsInside l r.node) → left.feeder p ≡ Some q → (g.feeder p ≡ Some q) × IsInside l q.node
  source_inside p q o from lf =
      let w = pt.part.wires p q lf in
      let (k, e, ik) = inner_some_at (left.kind_at p.node) (cut.nodes p.node o) in
      let (r, f) = pt.whole.inputs p k w.shape (pt.nodes p.node k e ik) (ap (λ z. port_get (ins z) p.port) (same_Some k w.to (sym e ∙ w.is_to)) ∙ w.enters) in
      let i : IsInside l r.node = from r f in
      let same : r ≡ q = same_Some r q (sym (wire_left p r o (inside_node r.node i) f) ∙ lf) in
      (f ∙ ap Some same, subst (λ (z : Port). IsInside l z.node) same i)

  -- each body node fires once a turn
  abbrev Fires : Name → Type 0
  Fires n = FiresEachTurn left m lanes l.body n

  body_of : (n : Name) → Reached g m n → In n l.body
  body_of n r = (loop.body.body n).1 (inl r)

  lane_at : (n : Name) → IsLane g m n → HasLane l n
  lane_at n h = (loop.tree.lanes n).1 h

  reached_fires : (n : Name) → Reached g m n → Fires n
  reached_fires n (first i q h f pass) =
      let (x, j, is) = lane_at q.node h in
      let node : NodeOf m l n = NodeOf.in_body (body_of n (first i q h f pass)) in
      let at : q ≡ port_at x.mux 1 = lane_out (port_at n i) q x j f is in
      after_lane (port_at n i) (lane_with entry exit x) (map_in (lane_with entry exit) l.lanes x j)
      (wire_left (port_at n i) (port_at x.mux 1) node (NodeOf.lane (x, j, refl)) (f ∙ ap Some at))
  reached_fires n (later i q h f pass) =
      let node : NodeOf m l n = NodeOf.in_body (body_of n (later i q h f pass)) in
      after (port_at n i) q (body_of q.node h) (wire_left (port_at n i) q node (NodeOf.in_body (body_of q.node h)) f) (reached_fires q.node h)

  -- in the order of the body, from its end
  Placed : List Name → Type 0
  Placed placed = (n : Name) → In n placed → (i : ℕ) (q : Port) → g.feeder (port_at n i) ≡ Some q → In q.node l.body → In q.node placed

  feeder_fires : (n : Name) (placed ns : List Name) → IsReady g l.body placed n → Placed placed → ((k : Name) → In k l.body → In k placed ⊎ In k (n ∷ ns)) → ((k : Name) → In k ns → Fires k) → Feeder g m d n → Fires n
  unfolding Placed
  feeder_fires n placed ns ready closed split more (fs, i, are) =
      let (k, e, constant) = constant_kind g [] fs n are.constant i in
      let (s, out) = constant_gives k constant (pt.whole.kinds n k e) in
      let (p, f) = pt.whole.outputs (port_at n 1) k s e out in
      elim (are.feeds p (port_at n 1) i f) [
        | inl j ↦ by_feeder p f ((loop.body.body p.node).1 (inr (fs, j, are)))
        | inr t ↦ elim t [
          | inl r ↦
              before p (port_at n 1) (body_of p.node r) (wire_left p (port_at n 1) (NodeOf.in_body (body_of p.node r)) node f) (reached_fires p.node r)
          | inr u ↦ elim u [
            | inl b ↦ by_branch p f b.1.shape b.1.is_branch
            | inr is ↦ by_mark p f is
          ]
        ]
      ]
    where
      node : NodeOf m l n
      node = NodeOf.in_body ready.in_body

      by_later : (p : Port) → g.feeder p ≡ Some (port_at n 1) → In p.node l.body → Fires p.node → Fires n
      by_later p f j h = before p (port_at n 1) j (wire_left p (port_at n 1) (NodeOf.in_body j) node f) h

      by_next : (p : Port) → g.feeder p ≡ Some (port_at n 1) → In p.node l.body → In p.node (n ∷ ns) → Fires n
      by_next p f j (head is) =
          absurd (ready.open_yet (ready.inputs p.port (port_at n 1) (ap g.feeder (λ i. record { node = sym is i; port = p.port }) ∙ f) ready.in_body))
      by_next p f j (tail i) = by_later p f j (more p.node i)

      by_feeder : (p : Port) → g.feeder p ≡ Some (port_at n 1) → In p.node l.body → Fires n
      by_feeder p f j =
          elim (split p.node j) [
            | inl was ↦ absurd (ready.open_yet (closed p.node was p.port (port_at n 1) f ready.in_body))
            | inr next ↦ by_next p f j next
          ]

      by_branch : (p : Port) → g.feeder p ≡ Some (port_at n 1) → (a : Shape) → g.kind_at p.node ≡ Some (Branch a) → Fires n
      by_branch p f a e =
          let (x, j, is) = loop.branches.entered p (port_at n 1) a (inr ready.in_body) f e in
          let at : p ≡ port_at x.branch p.port = λ i. record { node = sym is i; port = p.port } in
          before_branch p.port (lane_with entry exit x) (port_at n 1) (map_in (lane_with entry exit) l.lanes x j)
          (wire_left (port_at x.branch p.port) (port_at n 1) (NodeOf.branch (x, j, refl)) node (ap g.feeder (sym at) ∙ f))

      by_mark : (p : Port) → g.feeder p ≡ Some (port_at n 1) → p.node ≡ m → Fires n
      by_mark p f is =
          let at : p ≡ port_at m p.port = λ i. record { node = is i; port = p.port } in
          before_mark p.port (port_at n 1) (wire_left (port_at m p.port) (port_at n 1) (NodeOf.is_mark refl) node (ap g.feeder (sym at) ∙ f))

  placed_more : (n : Name) (placed : List Name) → IsReady g l.body placed n → Placed placed → Placed (n ∷ placed)
  unfolding Placed
  placed_more n placed ready closed k (head e) i q f j = tail (ready.inputs i q (ap (λ z. g.feeder (port_at z i)) (sym e) ∙ f) j)
  placed_more n placed ready closed k (tail was) i q f j = tail (closed k was i q f j)

  split_more : (n : Name) (placed ns : List Name) → ((k : Name) → In k l.body → In k placed ⊎ In k (n ∷ ns)) → (k : Name) → In k l.body → In k (n ∷ placed) ⊎ In k ns
  split_more n placed ns split k i =
      elim (split k i) [
        | inl was ↦ inl (tail was)
        | inr next ↦ at k next
      ]
    where
      at : (k : Name) → In k (n ∷ ns) → In k (n ∷ placed) ⊎ In k ns
      at k (head e) = inl (head e)
      at k (tail j) = inr j

  ties_from : (placed ns : List Name) → InBodyOrder g l.body placed ns → Placed placed → ((k : Name) → In k l.body → In k placed ⊎ In k ns) → (n : Name) → In n ns → Fires n
  ties_from placed [] order closed split n i = elim i [ ]
  ties_from placed (k ∷ ks) order closed split n i =
      let more : (j : Name) → In j ks → Fires j = ties_from (k ∷ placed) ks order.2 (placed_more k placed order.0 closed) (split_more k placed ks split) in
      at n i more
    where
      own : ((j : Name) → In j ks → Fires j) → Fires k
      own more =
          elim ((loop.body.body k).0 (order.0).in_body) [
            | inl r ↦ reached_fires k r
            | inr f ↦ feeder_fires k placed ks order.0 closed split more f
          ]

      at : (n : Name) → In n (k ∷ ks) → ((j : Name) → In j ks → Fires j) → Fires n
      at n (head e) more = subst Fires (sym e) (own more)
      at n (tail j) more = more n j

  none_placed : Placed []
  unfolding Placed
  none_placed n i = elim i [ ]

  ties : (n : Name) → In n l.body → Fires n
  ties = ties_from [] l.body loop.body.in_order none_placed (λ k i. inr i)

  part_kind : (n : Name) → In n l.body → (k : Kind) × (left.kind_at n ≡ Some k) × IsSteady k
  part_kind n i =
      let (k, e, h) = body_kind g pt.whole m l loop n i in (k, kind_left n k (NodeOf.in_body i) e, steady k h)

  body_inputs : (p q : Port) → In p.node l.body → left.feeder p ≡ Some q → FromLoop lanes l.body q
  body_inputs p q i lf =
      let (f, h) = source_inside p q (NodeOf.in_body i) (λ r e. loop.body.closed p.node i p.port r e) lf in from_inside p q f h

  -- the condition
  condition_in : (p : Port) → ((r : Port) → g.feeder p ≡ Some r → IsInside l r.node) → Root g p loop.condition.condition → (z : Port) × (g.feeder z ≡ Some loop.condition.condition) × IsInside l (loop.condition.condition).node
  condition_in p from (here j f e stops) = (p, f, from loop.condition.condition f)
  condition_in p from (past r j f e pass w) =
      let i : In r.node l.body = body_tree r.node j (from r f) e pass in
      condition_in (port_at r.node 1) (λ x h. loop.body.closed r.node i 1 x h) w

  -- the same as roots
  at_root : (p q : Port) (k : Kind) → left.kind_at q.node ≡ Some k → ¬ (PassesThrough k) → ComesBackTo left q p → Root left p q
  at_root p q k e stops w = as_root left q k e stops p w

  condition_root : (p : Port) → NodeOf m l p.node → ((r : Port) → g.feeder p ≡ Some r → IsInside l r.node) → Root g p loop.condition.condition → Root left p loop.condition.condition
  condition_root p o from w =
      let (k, e, stops) = root_kind g p loop.condition.condition w in
      let (z, f, h) = condition_in p from w in
      at_root p loop.condition.condition k (kind_left (loop.condition.condition).node k (inside_node (loop.condition.condition).node h) e) stops
      (root_way p loop.condition.condition o from w)

  -- a lane
  lane_is : (x : Lane) → In x l.lanes → IsLoopLane left d m lanes l.body loop.condition.condition (lane_with entry exit x)
  lane_is x i =
      let w = loop.tree.each_lane x i in
      let mux_node : NodeOf m l x.mux = NodeOf.lane (x, i, refl) in
      let branch_node : NodeOf m l x.branch = NodeOf.branch (x, i, refl) in
      let tree = (loop.tree.lanes x.mux).0 (x, i, refl) in
      let (q, lf) = pt.part.inputs (port_at x.branch 1) (Branch x.shape) x.shape (kind_left x.branch (Branch x.shape) branch_node w.is_branch) refl in
      let comes = source_inside (port_at x.branch 1) q branch_node (λ r e. loop.branches.branches x.branch (x, i, refl) 1 r e) lf in
      record {
        is_mux = kind_left x.mux (Mux x.shape) mux_node w.is_mux;
        is_branch = kind_left x.branch (Branch x.shape) branch_node w.is_branch;
        is_entry = cut.entries x i;
        is_exit = cut.exits x i;
        select =
            at_root (port_at x.mux 1) (port_at m 1) (Init (exit_bit d) l.tags) (kind_left m (Init (exit_bit d) l.tags) (NodeOf.is_mark refl) loop.mark.0) (λ z. z)
            (tree_way (tree.source).node tree.by_tree (port_at x.mux 1) tree.source refl mux_node tree.fed);
        fresh = cut.fresh x i;
        back =
            at_root (port_at x.mux (back_in d)) (port_at x.branch (back_out d)) (Branch x.shape) (kind_left x.branch (Branch x.shape) branch_node w.is_branch) (λ z. z)
            (buffer_way x.back (port_at x.branch (back_out d)) (port_at x.mux (back_in d)) (λ b j. NodeOf.in_back x i j) branch_node mux_node w.path);
        next = q;
        is_next = lf;
        from_loop = from_inside (port_at x.branch 1) q comes.0 comes.1;
        decides = condition_root (port_at x.branch 2) branch_node (λ r e. loop.branches.branches x.branch (x, i, refl) 2 r e) (loop.condition.decides x.branch (x, i, refl));
        result = cut.results x i;
      }

  lane_of : (y : LoopLane) → In y lanes → IsLoopLane left d m lanes l.body loop.condition.condition y
  lane_of y i =
      let (x, j, e) = in_map (lane_with entry exit) l.lanes y i in subst (IsLoopLane left d m lanes l.body loop.condition.condition) (sym e) (lane_is x j)

  data_branch : HasBranch l (loop.branches.data_lane).branch
  data_branch = (loop.branches.data_lane, loop.branches.is_data_lane, refl)

  condition_from : FromLoop lanes l.body loop.condition.condition
  condition_from =
      let (z, f, h) = condition_in (port_at (loop.branches.data_lane).branch 2) (λ r e. loop.branches.branches (loop.branches.data_lane).branch data_branch 2 r e) (loop.condition.decides (loop.branches.data_lane).branch data_branch) in
      from_inside z loop.condition.condition f h

  -- the loop, cut out
  pub is_lane_loop : IsLaneLoop left d m lanes l.body loop.condition.condition
  is_lane_loop =
      record {
        tags = l.tags;
        is_mark = kind_left m (Init (exit_bit d) l.tags) (NodeOf.is_mark refl) loop.mark.0;
        each_lane = lane_of;
        body_kind = part_kind;
        inputs = body_inputs;
        ties = ties;
        condition_from = condition_from;
        decides_mark = condition_root (port_at m 1) (NodeOf.is_mark refl) (mark_fed g pt.whole m l loop) loop.condition.decides_mark;
      }

pub cut_loop_is : CutLoopHasLanes
cut_loop_is g part target m l loop entry exit is_part cut = is_lane_loop g part target is_part m l loop entry exit cut

pub cut_loop_drains : ValuesFit → CutLoopDrainsAreLoops
cut_loop_drains values g part target m l loop entry exit is_part cut ins outs dr =
    drains_are_loops values part l.goes_back m (lanes_with entry exit l) l.body loop.condition.condition is_part.part
    (cut_loop_is g part target m l loop entry exit is_part cut) ins outs dr
