-- The Buffers on the back paths of a loop dropped, by lanes and then from the Branch forward.
use Rattle.std.proofs.Common.{◌≡◌, ◌≢◌, ◌⊎◌, inl, inr, refl, sym, ap, subst, ◌∙◌, if◌then◌else◌, List, [], ◌∷◌, ◌++◌, map, Option, Some, None}
use Rattle.std.proofs.Common.{append_assoc}
use Rattle.std.proofs.lemmas.Option.{same_Some}
use Rattle.components.specs.Name.{Name, Port}
use Rattle.components.specs.declared.kind.Kind.{Kind}
use Rattle.components.specs.declared.kind.Kind.TheVariants.{Mux, Branch, Buffer, Init}
use Rattle.circuits.proofs.Buffers.Circuits as dropping
use Rattle.circuits.proofs.Buffers.Circuits.{fed, can_drop_of, Fed, Fed.straight, Fed.across, kind_kept}
use Rattle.loop_laws.proofs.ShareNone.{share_none}
use Rattle.circuits.specs.Buffers.{drop_node, drop_all, bypass, IsBufferLike, CanDropBuffer, CanDropEach}
use Rattle.circuits.specs.Circuit.{Circuit, Typed}
use Rattle.circuits.specs.Replacing.{In, In.head, In.tail}
use Rattle.circuits.specs.Root.{PassesThrough}
use Rattle.circuit_plans.proofs.Namings.{each_in}
use Rattle.loop_laws.proofs.Apart.{tree_no_back, body_no_back, backs_meet}
use Rattle.loop_laws.proofs.Ascending.{not_itself}
use Rattle.loop_laws.proofs.BackPaths.{path_buffer, path_end, path_inside}
use Rattle.loop_laws.proofs.Closed.{inner_node, inner_fed, mark_fed, exit_or_inner, lane_kind, branch_kind, body_kind, tree_kind, mark_kind, grown_from}
use Rattle.loop_laws.proofs.NodeKinds.{kind_is, only_input, tree_takes, IsBodyKind}
use Rattle.loop_laws.proofs.OneLoop.{in_map, map_in}
use Rattle.loop_laws.specs.BackPath.{IsBuffer, Through}
use Rattle.loop_laws.specs.BodyOrder.{IsBefore, Ascending}
use Rattle.loop_laws.specs.Loop.{Lane, Loop, HasBranch, IsInside, IsLaneOf, LoopAt, NodeOf, NodeOf.in_back, IsExit}
use Rattle.loop_laws.specs.Polarity.{back_out, exit_bit, back_in}
use Rattle.loop_laws.specs.Reached.{port_at, OnTree, HasKind}
use Rattle.loop_turns.proofs.Lists.{path_kept, in_left, in_right, same_test, other_test}
use Rattle.loop_turns.proofs.LoopFrame.{in_branches, branches_in, mark_input, mux_branch}
use Rattle.loop_turns.proofs.LoopKept.{loop_kept}
use Rattle.loop_turns.proofs.LoopLookups.{in_either}
use Rattle.loop_turns.proofs.LoopMoved.{Core, Core.core_mark, Core.core_tree, Core.core_lane, Core.core_branch, Core.core_body, CoreIn, CoreIn.to_mark, CoreIn.to_tree, CoreIn.to_select, CoreIn.to_branch, CoreIn.to_body, loop_moved}
use Rattle.loop_turns.specs.Lanes.{with_lanes, without_back, backs_of}
use Rattle.circuits.proofs.Names.{name_cases}

buffer_passes : (k : Kind) → IsBuffer k → IsBufferLike k
buffer_passes (Buffer a) h = tt
buffer_passes _ h = absurd h

pub drop_kind : (g : Circuit) (b n : Name) → n ≢ b → (drop_node b g).kind_at n ≡ g.kind_at n
drop_kind g b n ne = ap (λ z. if z then None else g.kind_at n) (other_test n b ne)

pub drop_feeder : (g : Circuit) (b : Name) (p : Port) → p.node ≢ b → (drop_node b g).feeder p ≡ bypass b (g.feeder (port_at b 1)) (g.feeder p)
drop_feeder g b p ne = ap (λ z. if z then None else bypass b (g.feeder (port_at b 1)) (g.feeder p)) (other_test p.node b ne)

-- an input that b does not feed stays
pub drop_same : (g : Circuit) (b : Name) (p : Port) → p.node ≢ b → (o : Option Port) → g.feeder p ≡ o → ((q : Port) → o ≡ Some q → q.node ≢ b) → (drop_node b g).feeder p ≡ g.feeder p
drop_same g b p ne None f away = drop_feeder g b p ne ∙ ap (bypass b (g.feeder (port_at b 1))) f ∙ sym f
drop_same g b p ne (Some q) f away =
    drop_feeder g b p ne ∙ ap (bypass b (g.feeder (port_at b 1))) f ∙ ap (λ z. if z then g.feeder (port_at b 1) else Some q) (other_test q.node b (away q refl)) ∙ sym f

-- an input that b feeds is fed by what fed b
drop_past : (g : Circuit) (b : Name) (p : Port) → p.node ≢ b → g.feeder p ≡ Some (port_at b 1) → (drop_node b g).feeder p ≡ g.feeder (port_at b 1)
drop_past g b p ne f = drop_feeder g b p ne ∙ ap (bypass b (g.feeder (port_at b 1))) f ∙ ap (λ z. if z then g.feeder (port_at b 1) else Some (port_at b 1)) (same_test b b refl)

-- a path without its first Buffer
drop_path : (g : Circuit) (b : Name) (q : Port) (bs : List Name) (p : Port) → Through g (port_at b 1) bs p → g.feeder (port_at b 1) ≡ Some q → (In b bs → ⊥) → p.node ≢ b → Through (drop_node b g) q bs p
drop_path g b q [] p t f out ne = drop_past g b p ne t ∙ f
drop_path g b q (c ∷ cs) p t f out ne =
    let away : c ≢ b = λ e. out (head (sym e)) in (
      (t.0.0, drop_kind g b c away ∙ t.0.1, t.0.2),
      drop_past g b (port_at c 1) away t.1 ∙ f,
      path_kept g (drop_node b g) (port_at c 1) cs p t.2
          (λ z i.
          let ne' : z ≢ b = λ e. out (tail (subst (λ y. In y cs) e i)) in
          (drop_kind g b z ne', drop_same g b (port_at z 1) ne' (g.feeder (port_at z 1)) refl (λ r h e. fed_by_path r (path_inside g (port_at c 1) cs p z r t.2 i h) e)))
          (drop_same g b p ne (g.feeder p) refl (λ r h e. fed_by_path r (path_end g (port_at c 1) cs p r t.2 h) e)),
    )
  where
    fed_by_path : (r : Port) → (r ≡ port_at c 1) ⊎ In r.node cs → r.node ≡ b → ⊥
    fed_by_path r (inl e) is = out (head (sym is ∙ ap (λ (z : Port). z.node) e))
    fed_by_path r (inr i) is = out (tail (subst (λ y. In y cs) is i))

-- a path from no Buffer comes by no Buffer twice
not_again : (g : Circuit) (q : Port) (b : Name) (bs : List Name) (p : Port) → Through g (port_at b 1) bs p → g.feeder (port_at b 1) ≡ Some q → (HasKind g IsBuffer q.node → ⊥) → HasKind g IsBuffer b → In b bs → ⊥
not_again g q b bs p t f nq kb i =
    elim (path_inside g (port_at b 1) bs p b q t i f) [
      | inl e ↦ nq (subst (λ (z : Port). HasKind g IsBuffer z.node) (sym e) kb)
      | inr j ↦ nq (path_buffer g (port_at b 1) bs p q.node t j)
    ]

pub same_map : {A : Type 0} (f : Lane → A) (pre : List Lane) (x y : Lane) (post : List Lane) → f x ≡ f y → map f (pre ++ x ∷ post) ≡ map f (pre ++ y ∷ post)
same_map f [] x y post e = ap (λ z. z ∷ map f post) e
same_map f (w ∷ ws) x y post e = ap (λ z. f w ∷ z) (same_map f ws x y post e)

-- another lane has another Mux
other_mux : (pre : List Lane) (x : Lane) (post : List Lane) → Ascending (map (λ (z : Lane). z.mux) (pre ++ x ∷ post)) → (y : Lane) → In y pre ⊎ In y post → y.mux ≢ x.mux
other_mux [] x post a y (inl i) e = elim i [ ]
other_mux [] x post a y (inr i) e = not_itself y.mux (subst (λ z. IsBefore z y.mux) (sym e) (each_in (IsBefore x.mux) (map (λ (z : Lane). z.mux) post) y.mux a.0 (map_in post y.mux (y, i, refl))))
other_mux (w ∷ ws) x post a y (inl (head e)) s =
    not_itself w.mux (subst (λ z. IsBefore w.mux z) (sym s ∙ ap (λ (z : Lane). z.mux) e)
    (each_in (IsBefore w.mux) (map (λ (z : Lane). z.mux) (ws ++ x ∷ post)) x.mux a.0 (map_in (ws ++ x ∷ post) x.mux (x, in_right x ws (x ∷ post) (head refl), refl))))
other_mux (w ∷ ws) x post a y (inl (tail i)) e = other_mux ws x post a.1 y (inl i) e
other_mux (w ∷ ws) x post a y (inr i) e = other_mux ws x post a.1 y (inr i) e

abbrev pub with_back : Lane → List Name → Lane
with_back x bs = record { mux = x.mux; branch = x.branch; back = bs; shape = x.shape }

-- one Buffer dropped, the first on its path
module _ (g : Circuit) (ty : Typed g) (m : Name) (l : Loop) (at : LoopAt g m l) (pre post : List Lane) (x : Lane) (b : Name) (bs : List Name) (split : l.lanes ≡ pre ++ with_back x (b ∷ bs) ∷ post) where
  abbrev old : Lane
  old = with_back x (b ∷ bs)

  abbrev D : Circuit
  D = drop_node b g

  pub has_old : In old l.lanes
  has_old = subst (In old) (sym split) (in_right old pre (old ∷ post) (head refl))

  pub its : IsLaneOf g l.goes_back old
  its = at.tree.each_lane old has_old

  pub b_back : HasKind g IsBuffer b
  b_back = its.path.0

  pub b_fed : g.feeder (port_at b 1) ≡ Some (port_at x.branch (back_out l.goes_back))
  b_fed = its.path.1

  branch_no_buffer : HasKind g IsBuffer x.branch → ⊥
  branch_no_buffer k = kind_is g IsBuffer x.branch (Branch x.shape) k its.is_branch

  pub can_drop : CanDropBuffer g b
  can_drop =
      record {
        kind = b_back.0;
        is_kind = b_back.1;
        passes = buffer_passes b_back.0 b_back.2;
        before = port_at x.branch (back_out l.goes_back);
        is_before = b_fed;
        other = λ e. branch_no_buffer (subst (HasKind g IsBuffer) (sym e) b_back);
      }

  pub drop_typed : Typed D
  drop_typed = dropping.drop_typed g b (can_drop_of g b can_drop) ty

  -- what is not b
  tree_not_b : (n : Name) → OnTree g m n → n ≢ b
  tree_not_b n t e =
      elim (name_cases n m) [
        | inl is ↦ mark_kind g ty m l at n IsBuffer is.is (subst (HasKind g IsBuffer) (sym e) b_back)
        | inr ne ↦ tree_no_back g ty m m l l at at n t ne.is_not old has_old (head e)
      ]

  pub inside_not_b : (n : Name) → IsInside l n → n ≢ b
  inside_not_b n (inl y) e = let (a, k) = lane_kind g ty m l at n y in kind_is g IsBuffer n (Mux a) (subst (HasKind g IsBuffer) (sym e) b_back) k
  inside_not_b n (inr i) e = body_no_back g ty m m l l at at n i old has_old (head e)

  branch_not_b : (n : Name) → HasBranch l n → n ≢ b
  branch_not_b n y e = let (a, k) = branch_kind g ty m l at n y in kind_is g IsBuffer n (Branch a) (subst (HasKind g IsBuffer) (sym e) b_back) k

  pub core_not_b : (n : Name) → Core m l n → n ≢ b
  core_not_b n (core_mark s) e = mark_kind g ty m l at n IsBuffer s (subst (HasKind g IsBuffer) (sym e) b_back)
  core_not_b n (core_tree i) e = tree_not_b n ((at.tree.tree n).0 i).1 e
  core_not_b n (core_lane y) e = inside_not_b n (inl y) e
  core_not_b n (core_branch y) e = branch_not_b n y e
  core_not_b n (core_body i) e = inside_not_b n (inr i) e

  core_of : (p : Port) → CoreIn m l p → Core m l p.node
  core_of p (to_mark e) = core_mark e
  core_of p (to_tree i) = core_tree i
  core_of p (to_select e y) = core_lane y
  core_of p (to_branch y) = core_branch y
  core_of p (to_body i) = core_body i

  -- what feeds the core
  core_source : (p q : Port) → CoreIn m l p → g.feeder p ≡ Some q → OnTree g m q.node ⊎ IsInside l q.node
  core_source p q (to_mark e) f =
      let one : p.port ≡ 1 = mark_input g ty m l at p q f e in
      inr (mark_fed g ty m l at q (ap (λ n. g.feeder (port_at n 1)) (sym e) ∙ ap (λ i. g.feeder (port_at p.node i)) (sym one) ∙ f))
  core_source p q (to_tree i) f =
      let k = tree_kind g ty m l at p.node i in
      let one : p.port ≡ 1 = only_input g ty p q f (k.0, k.1, tree_takes k.0 k.2) in
      let t = (at.tree.tree p.node).0 i in
      inl (grown_from g ty m l at p.node t.1 t.0 q (ap (λ i. g.feeder (port_at p.node i)) (sym one) ∙ f))
  core_source p q (to_select e y) f =
      let k = (at.tree.lanes p.node).0 y in
      inl (subst (λ (z : Port). OnTree g m z.node) (same_Some k.source q (sym k.fed ∙ ap (λ i. g.feeder (port_at p.node i)) (sym e) ∙ f)) k.by_tree)
  core_source p q (to_branch y) f = inr (at.branches.branches p.node y p.port q f)
  core_source p q (to_body i) f = inr (at.body.closed p.node i p.port q f)

  source_not_b : (n : Name) → OnTree g m n ⊎ IsInside l n → n ≢ b
  source_not_b n (inl t) = tree_not_b n t
  source_not_b n (inr i) = inside_not_b n i

  pub drop_inner : (p : Port) → CoreIn m l p → D.feeder p ≡ g.feeder p
  drop_inner p i = drop_same g b p (core_not_b p.node (core_of p i)) (g.feeder p) refl (λ q f. source_not_b q.node (core_source p q i f))

  -- what a tree or inside node feeds it fed
  drop_outer : (p q : Port) → OnTree g m q.node ⊎ IsInside l q.node → D.feeder p ≡ Some q → g.feeder p ≡ Some q
  drop_outer p q o f = was_fed (fed g b (can_drop_of g b can_drop) ty p q f)
    where
      no_branch : (n : Name) → n ≡ x.branch → OnTree g m n ⊎ IsInside l n → ⊥
      no_branch n e (inl t) =
          elim (name_cases n m) [
            | inl is ↦
                let z : Some (Branch x.shape) ≡ Some (Init (exit_bit l.goes_back) l.tags) = sym its.is_branch ∙ ap g.kind_at (sym e ∙ is.is) ∙ at.mark.0 in cc
            | inr ne ↦ kind_is g PassesThrough n (Branch x.shape) (tree_kind g ty m l at n ((at.tree.tree n).1 (ne.is_not, t))) (ap g.kind_at e ∙ its.is_branch)
          ]
      no_branch n e (inr (inl y)) = mux_branch g ty m l at n y (old, has_old, sym e)
      no_branch n e (inr (inr i)) = kind_is g IsBodyKind n (Branch x.shape) (body_kind g ty m l at n i) (ap g.kind_at e ∙ its.is_branch)

      was_fed : Fed g b p q → g.feeder p ≡ Some q
      was_fed (straight h ne) = h
      was_fed (across r h is back) = absurd (no_branch q.node (ap (λ (z : Port). z.node) (same_Some q (port_at x.branch (back_out l.goes_back)) (sym back ∙ b_fed))) o)

  -- the lanes
  abbrev lanes' : List Lane
  lanes' = pre ++ with_back x bs ∷ post

  pub muxes_same : map (λ (z : Lane). z.mux) lanes' ≡ map (λ (z : Lane). z.mux) l.lanes
  muxes_same = same_map (λ (z : Lane). z.mux) pre (with_back x bs) old post refl ∙ ap (map (λ (z : Lane). z.mux)) (sym split)

  pub branches_same : map (λ (z : Lane). z.branch) lanes' ≡ map (λ (z : Lane). z.branch) l.lanes
  branches_same = same_map (λ (z : Lane). z.branch) pre (with_back x bs) old post refl ∙ ap (map (λ (z : Lane). z.branch)) (sym split)

  pub shapes_same : map (λ (z : Lane). z.shape) lanes' ≡ map (λ (z : Lane). z.shape) l.lanes
  shapes_same = same_map (λ (z : Lane). z.shape) pre (with_back x bs) old post refl ∙ ap (map (λ (z : Lane). z.shape)) (sym split)

  this_lane : IsLaneOf D l.goes_back (with_back x bs)
  this_lane =
      record {
        is_mux = drop_kind g b x.mux (inside_not_b x.mux (inl (old, has_old, refl))) ∙ its.is_mux;
        is_branch = drop_kind g b x.branch (branch_not_b x.branch (old, has_old, refl)) ∙ its.is_branch;
        path = drop_path g b (port_at x.branch (back_out l.goes_back)) bs (port_at x.mux (back_in l.goes_back)) its.path.2 b_fed
            (not_again g (port_at x.branch (back_out l.goes_back)) b bs (port_at x.mux (back_in l.goes_back)) its.path.2 b_fed branch_no_buffer b_back)
            (inside_not_b x.mux (inl (old, has_old, refl)));
      }

  other_lane : (y : Lane) → In y l.lanes → y.mux ≢ x.mux → IsLaneOf D l.goes_back y
  other_lane y i ne =
      let o = at.tree.each_lane y i in
      let q : Port = port_at y.branch (back_out l.goes_back) in
      let p : Port = port_at y.mux (back_in l.goes_back) in
      let not_here : (z : Name) → In z y.back → z ≢ b = λ z j e. ne (backs_meet g ty m m l l at at y old i has_old z j (head e)) in
      let from_here : (r : Port) → (r ≡ q) ⊎ In r.node y.back → r.node ≢ b =
      λ r w. elim w [ inl e ↦ (λ s. branch_not_b y.branch (y, i, refl) (sym (ap (λ (z : Port). z.node) e) ∙ s)) | inr j ↦ not_here r.node j ] in
      record {
        is_mux = drop_kind g b y.mux (inside_not_b y.mux (inl (y, i, refl))) ∙ o.is_mux;
        is_branch = drop_kind g b y.branch (branch_not_b y.branch (y, i, refl)) ∙ o.is_branch;
        path = path_kept g D q y.back p o.path
            (λ z j. (drop_kind g b z (not_here z j), drop_same g b (port_at z 1) (not_here z j) (g.feeder (port_at z 1)) refl (λ r h. from_here r (path_inside g q y.back p z r o.path j h))))
            (drop_same g b p (inside_not_b y.mux (inl (y, i, refl))) (g.feeder p) refl (λ r h. from_here r (path_end g q y.back p r o.path h)));
      }

  by_name : Ascending (map (λ (z : Lane). z.mux) (pre ++ old ∷ post))
  by_name = subst (λ z. Ascending (map (λ (z : Lane). z.mux) z)) split at.tree.lanes_by_name

  each_lane : (y : Lane) → In y lanes' → IsLaneOf D l.goes_back y
  each_lane y i =
      elim (in_either y pre (with_back x bs ∷ post) i) [
        | inl j ↦ other_lane y (subst (In y) (sym split) (in_left y pre (old ∷ post) j)) (other_mux pre old post by_name y (inl j))
        | inr (head e) ↦ subst (IsLaneOf D l.goes_back) (sym e) this_lane
        | inr (tail j) ↦ other_lane y (subst (In y) (sym split) (in_right y pre (old ∷ post) (tail j))) (other_mux pre old post by_name y (inr j))
      ]

  pub drop_loop : LoopAt D m (with_lanes l lanes')
  drop_loop =
      loop_moved g D ty drop_typed m l at lanes'
      (record {
        kinds = λ n c. drop_kind g b n (core_not_b n c);
        inner = drop_inner;
        from_tree = λ p q t f. drop_outer p q (inl t) f;
        from_inside = λ p q i f. drop_outer p q (inr i) f;
        muxes = muxes_same;
        shapes = shapes_same;
        lane_to = λ n h. in_map lanes' n (subst (In n) (sym muxes_same) (map_in l.lanes n h));
        lane_from = λ n h. in_map l.lanes n (subst (In n) muxes_same (map_in lanes' n h));
        branch_to = λ n h. in_branches lanes' n (subst (In n) (sym branches_same) (branches_in l.lanes n h));
        branch_from = λ n h. in_branches l.lanes n (subst (In n) branches_same (branches_in lanes' n h));
        each_lane = each_lane;
      })

  -- the loops of other marks stay
  module _ (n : Name) (k : Loop) (j : LoopAt g n k) (away : n ≢ m) where
    other_not_b : (y : Name) → NodeOf n k y → y ≢ b
    other_not_b y o e = share_none g ty n m k l j at away y o (in_back old has_old (head e))

    pub drop_other : LoopAt D n k
    drop_other =
        loop_kept g D ty drop_typed n k j
        (record {
          kinds = λ y o. drop_kind g b y (other_not_b y o);
          inner = λ p i. drop_same g b p (other_not_b p.node (inner_node n k p i)) (g.feeder p) refl (λ q f. other_not_b q.node (inner_fed g ty n k j p q i f).node);
          outer = λ p q o inw f. was_fed p q o inw (fed g b (can_drop_of g b can_drop) ty p q f);
        })
      where
        was_fed : (p q : Port) → NodeOf n k q.node → (IsExit k q → ⊥) → Fed g b p q → g.feeder p ≡ Some q
        was_fed p q o inw (straight h ne) = h
        was_fed p q o inw (across r h is back) =
            elim (exit_or_inner g ty n k j (port_at b 1) q back o) [
              | inl e ↦ absurd (inw e)
              | inr i ↦ absurd (other_not_b b (inner_node n k (port_at b 1) i) refl)
            ]

-- all of them, one after the other
pub record AllDropped (g : Circuit) (m : Name) (l : Loop) (bs : List Name) (xs : List Lane) : Type 0 where
  pub can : CanDropEach bs g
  pub typed : Typed (drop_all bs g)
  pub loop : LoopAt (drop_all bs g) m (with_lanes l xs)
  pub others : (n : Name) (k : Loop) → n ≢ m → LoopAt g n k → LoopAt (drop_all bs g) n k

-- lanes with their Buffers dropped stand before the others
module _ (m : Name) (l : Loop) where
  drop_these : (g : Circuit) → Typed g → (pre post : List Lane) (x : Lane) (bs : List Name) → LoopAt g m (with_lanes l (pre ++ with_back x bs ∷ post)) →
      ((h : Circuit) → Typed h → LoopAt h m (with_lanes l (pre ++ with_back x [] ∷ post)) → AllDropped h m l (backs_of post) (pre ++ with_back x [] ∷ map without_back post)) →
      AllDropped g m l (bs ++ backs_of post) (pre ++ with_back x [] ∷ map without_back post)
  drop_these g ty pre post x [] at rest = rest g ty at
  drop_these g ty pre post x (b ∷ bs) at rest =
      let k : Loop = with_lanes l (pre ++ with_back x (b ∷ bs) ∷ post) in
      let later = drop_these (drop_node b g) (drop_typed g ty m k at pre post x b bs refl) pre post x bs (drop_loop g ty m k at pre post x b bs refl) rest in
      record {
        can = (can_drop g ty m k at pre post x b bs refl, later.can);
        typed = later.typed;
        loop = later.loop;
        others = λ n j away h. later.others n j away (drop_other g ty m k at pre post x b bs refl n j h away);
      }

  drop_lanes : (post pre : List Lane) (g : Circuit) → Typed g → LoopAt g m (with_lanes l (pre ++ post)) → AllDropped g m l (backs_of post) (pre ++ map without_back post)
  drop_lanes [] pre g ty at = record { can = tt; typed = ty; loop = at; others = λ n k away h. h }
  drop_lanes (x ∷ post) pre g ty at =
      drop_these g ty pre post x x.back at
      (λ h th ah.
      subst (AllDropped h m l (backs_of post)) (append_assoc pre (without_back x ∷ []) (map without_back post))
      (drop_lanes post (pre ++ without_back x ∷ []) h th (subst (λ z. LoopAt h m (with_lanes l z)) (sym (append_assoc pre (without_back x ∷ []) post)) ah)))

  pub all_dropped : (g : Circuit) → Typed g → LoopAt g m l → AllDropped g m l (backs_of l.lanes) (map without_back l.lanes)
  all_dropped g ty at = drop_lanes l.lanes [] g ty at
