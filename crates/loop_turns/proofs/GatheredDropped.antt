-- A gathered graph is the same whether the back Buffers of the loop are dropped before or not.
use Rattle.std.proofs.Common.{◌≡◌, ◌≢◌, ◌⊎◌, inl, inr, ℕ, zero, suc, refl, sym, ap, subst, ◌∙◌, Bool, true, false, if◌then◌else◌, List, [], ◌∷◌, ◌++◌, map, Option, Some, None, append_assoc}
use Rattle.std.specs.List.{concat}
use Rattle.components.specs.Name.{Name, Port, port_get}
use Rattle.components.specs.declared.kind.Kind.{Kind}
use Rattle.components.specs.declared.kind.Kind.TheVariants.{Join, Split, Mux, Branch, Pure}
use Rattle.fun_expr.specs.Function.{Function}
use Rattle.circuits.specs.Buffers.{drop_node, drop_all, bypass}
use Rattle.circuits.specs.Circuit.{Circuit, Typed}
use Rattle.circuits.specs.Replacing.{In, In.head, In.tail}
use Rattle.loop_laws.proofs.BackPaths.{path_buffer, path_out}
use Rattle.loop_laws.proofs.NodeKinds.{kind_is, fresh_is_no_back, only_output, GivesOne, buffer_gives}
use Rattle.loop_laws.proofs.OneLoop.{in_map, map_in}
use Rattle.loop_laws.specs.BackPath.{IsBuffer}
use Rattle.loop_laws.specs.Loop.{Lane, Loop, LoopAt, shapes_of}
use Rattle.loop_laws.specs.Polarity.{back_in}
use Rattle.loop_laws.specs.Reached.{port_at, HasKind}
use Rattle.loop_turns.proofs.Lists.{in_or_out, in_left, in_right, circuit_same}
use Rattle.loop_turns.proofs.LoopDrops.{drop_kind, drop_same, same_map, with_back, has_old, its, b_back, drop_typed, drop_loop, inside_not_b}
use Rattle.loop_turns.proofs.LoopFrame.{FrameNode, FrameNode.of_tree, FrameNode.of_lane, FrameNode.of_branch, FrameNode.of_back, frame_node, node_frame, in_branches, branches_in}
use Rattle.loop_turns.proofs.LoopLookups.{has_true, has_false, in_either, at_in}
use Rattle.loop_turns.proofs.TaggedDropped.{place_of_names}
use Rattle.loop_turns.specs.GatherChain.{name_place}
use Rattle.loop_turns.specs.Gathered.{GatherNode, GatherNode.one_in, GatherNode.one_mux, GatherNode.one_pure, GatherNode.one_pair, GatherNode.one_cond, GatherNode.one_branch, GatherNode.one_out, gather_nodes, gather_kind, gather_out, gather_source, gathered_graph}
use Rattle.loop_turns.specs.Lanes.{with_lanes, without_back, without_backs, lane_place, port_or, fed_lane, fresh_of, backs_of, frame_of}
use Rattle.loop_turns.specs.Rebuilt.{new_at, has_name, kind_or, source_or, moved}
use Rattle.circuits.proofs.Names.{name_cases}

-- what feeds an input of a lane depends on that input alone
abbrev fed_port : Circuit → (Port → Port) → Option Port → Option Port → Option Port
fed_port g out None other = other
fed_port g out (Some p) other = moved out (g.feeder p)

fed_by_input : (g : Circuit) (out : Port → Port) (xs : List Lane) (j : ℕ) (input : Lane → Port) (other : Option Port) → fed_lane g out (port_get xs j) input other ≡ fed_port g out (port_get (map input xs) j) other
fed_by_input g out [] j input other = refl
fed_by_input g out (x ∷ xs) zero input other = refl
fed_by_input g out (x ∷ xs) (suc zero) input other = refl
fed_by_input g out (x ∷ xs) (suc (suc j)) input other = fed_by_input g out xs (suc j) input other

kind_same : (k l : Loop) (f : Function) → shapes_of k ≡ shapes_of l → (x : GatherNode) → gather_kind k f x ≡ gather_kind l f x
kind_same k l f s one_in = ap Join s
kind_same k l f s one_mux = ap (λ z. Mux (concat z)) s
kind_same k l f s one_pure = ap (λ z. Pure f (concat z ++ 1 ∷ [])) s
kind_same k l f s one_pair = ap (λ z. Split (concat z ∷ (1 ∷ []) ∷ [])) s
kind_same k l f s one_cond = refl
kind_same k l f s one_branch = ap (λ z. Branch (concat z)) s
kind_same k l f s one_out = ap Split s

kind_or_same : (f h : GatherNode → Kind) → ((x : GatherNode) → f x ≡ h x) → (o : Option GatherNode) (r s : Option Kind) → (o ≡ None → r ≡ s) → kind_or f o r ≡ kind_or h o s
kind_or_same f h e None r s i = i refl
kind_or_same f h e (Some x) r s i = ap Some (e x)

source_or_same : (f h : GatherNode → ℕ → Option Port) (i : ℕ) → ((x : GatherNode) → f x i ≡ h x i) → (o : Option GatherNode) (r s : Option Port) → (o ≡ None → r ≡ s) → source_or f o i r ≡ source_or h o i s
source_or_same f h i e None r s k = k refl
source_or_same f h i e (Some x) r s k = e x

module _ (g : Circuit) (ty : Typed g) (m : Name) (l : Loop) (at : LoopAt g m l) (pre post : List Lane) (x : Lane) (b : Name) (bs : List Name) (split : l.lanes ≡ pre ++ with_back x (b ∷ bs) ∷ post) (f : Function) (name : GatherNode → Name) where
  abbrev D : Circuit
  D = drop_node b g

  abbrev lanes' : List Lane
  lanes' = pre ++ with_back x bs ∷ post

  abbrev l' : Loop
  l' = with_lanes l lanes'

  same_by : {A : Type 0} (f : Lane → A) → f (with_back x bs) ≡ f (with_back x (b ∷ bs)) → map f lanes' ≡ map f l.lanes
  same_by f e = same_map f pre (with_back x bs) (with_back x (b ∷ bs)) post e ∙ ap (map f) (sym split)

  old_lane : In (with_back x (b ∷ bs)) l.lanes
  old_lane = has_old g ty m l at pre post x b bs split

  -- b feeds a back input or a Buffer of the path
  b_goes : (p : Port) → g.feeder p ≡ Some (port_at b 1) → (p ≡ port_at x.mux (back_in l.goes_back)) ⊎ In p.node bs
  b_goes p h = path_out g ty (port_at b 1) bs (port_at x.mux (back_in l.goes_back)) p (its g ty m l at pre post x b bs split).path.2 h

  fed_by_b : (p q : Port) → g.feeder p ≡ Some q → q.node ≡ b → g.feeder p ≡ Some (port_at b 1)
  fed_by_b p q h e =
      let k = b_back g ty m l at pre post x b bs split in
      let one : q.port ≡ 1 = only_output g ty p q h (subst (HasKind g GivesOne) (sym e) (k.0, k.1, buffer_gives k.0 k.2)) in
      h ∙ ap Some (ap (λ z. port_at z q.port) e ∙ ap (port_at b) one)

  -- the nodes that go are the same but for b
  frame_to : (n : Name) → FrameNode l' n → FrameNode l n
  frame_to n (of_tree i) = of_tree i
  frame_to n (of_lane h) = of_lane (in_map l.lanes n (subst (In n) (same_by (λ (z : Lane). z.mux) refl) (map_in lanes' n h)))
  frame_to n (of_branch h) = of_branch (in_branches l.lanes n (subst (In n) (same_by (λ (z : Lane). z.branch) refl) (branches_in lanes' n h)))
  frame_to n (of_back y u v) =
      elim (in_either y pre (with_back x bs ∷ post) u) [
        | inl j ↦ of_back y (subst (In y) (sym split) (in_left y pre (with_back x (b ∷ bs) ∷ post) j)) v
        | inr (head e) ↦ of_back (with_back x (b ∷ bs)) old_lane (tail (subst (λ (z : Lane). In n z.back) e v))
        | inr (tail j) ↦ of_back y (subst (In y) (sym split) (in_right y pre (with_back x (b ∷ bs) ∷ post) (tail j))) v
      ]

  frame_from : (n : Name) → n ≢ b → FrameNode l n → FrameNode l' n
  frame_from n ne (of_tree i) = of_tree i
  frame_from n ne (of_lane h) = of_lane (in_map lanes' n (subst (In n) (sym (same_by (λ (z : Lane). z.mux) refl)) (map_in l.lanes n h)))
  frame_from n ne (of_branch h) = of_branch (in_branches lanes' n (subst (In n) (sym (same_by (λ (z : Lane). z.branch) refl)) (branches_in l.lanes n h)))
  frame_from n ne (of_back y u v) =
      elim (in_either y pre (with_back x (b ∷ bs) ∷ post) (subst (In y) split u)) [
        | inl j ↦ of_back y (in_left y pre (with_back x bs ∷ post) j) v
        | inr (head e) ↦ from_this (subst (λ (z : Lane). In n z.back) e v)
        | inr (tail j) ↦ of_back y (in_right y pre (with_back x bs ∷ post) (tail j)) v
      ]
    where
      from_this : In n (b ∷ bs) → FrameNode l' n
      from_this (head e) = absurd (ne e)
      from_this (tail j) = of_back (with_back x bs) (in_right (with_back x bs) pre (with_back x bs ∷ post) (head refl)) j

  b_frame : In b (frame_of l)
  b_frame = node_frame l b (of_back (with_back x (b ∷ bs)) old_lane (head refl))

  abbrev goes_now : List Name
  goes_now = frame_of l' ++ l.body

  abbrev went : List Name
  went = frame_of l ++ l.body

  b_went : In b went
  b_went = in_left b (frame_of l) l.body b_frame

  gone_same : (n : Name) → n ≢ b → has_name goes_now n ≡ has_name went n
  gone_same n ne =
      elim (in_or_out n went) [
        | inl i ↦ has_true goes_now n (to_new i) ∙ sym (has_true went n i)
        | inr o ↦ has_false goes_now n (λ i. o (to_old i)) ∙ sym (has_false went n o)
      ]
    where
      to_new : In n went → In n goes_now
      to_new i =
          elim (in_either n (frame_of l) l.body i) [
            | inl j ↦ in_left n (frame_of l') l.body (node_frame l' n (frame_from n ne (frame_node l n j)))
            | inr c ↦ in_right n (frame_of l') l.body c
          ]

      to_old : In n goes_now → In n went
      to_old i =
          elim (in_either n (frame_of l') l.body i) [
            | inl j ↦ in_left n (frame_of l) l.body (node_frame l n (frame_to n (frame_node l' n j)))
            | inr c ↦ in_right n (frame_of l) l.body c
          ]

  -- outputs of all nodes but b become the same
  out_same : (q : Port) → q.node ≢ b → gather_out l' name q ≡ gather_out l name q
  out_same q ne =
      let branches : lane_place (λ (z : Lane). z.branch) lanes' q.node ≡ lane_place (λ (z : Lane). z.branch) l.lanes q.node =
      place_of_names (λ (z : Lane). z.branch) lanes' q.node ∙ ap (λ ns. name_place ns q.node) (same_by (λ (z : Lane). z.branch) refl) ∙ sym (place_of_names (λ (z : Lane). z.branch) l.lanes q.node) in
      ap (λ o. port_or o (name one_out) (if has_name goes_now q.node then port_at (name one_cond) 2 else q)) branches
      ∙ ap (λ c. port_or (lane_place (λ (z : Lane). z.branch) l.lanes q.node) (name one_out) (if c then port_at (name one_cond) 2 else q)) (gone_same q.node ne)

  moved_same : (o : Option Port) → ((q : Port) → o ≡ Some q → q.node ≢ b) → moved (gather_out l' name) o ≡ moved (gather_out l name) o
  moved_same None h = refl
  moved_same (Some q) h = ap Some (out_same q (h q refl))

  fresh_not_b : (y : Lane) → In y l.lanes → (q : Port) → g.feeder (fresh_of l y) ≡ Some q → q.node ≢ b
  fresh_not_b y u q h e =
      elim (b_goes (fresh_of l y) (fed_by_b (fresh_of l y) q h e)) [
        | inl s ↦ fresh_is_no_back l.goes_back (ap (λ (z : Port). z.port) s)
        | inr i ↦ kind_is g IsBuffer y.mux (Mux y.shape) (path_buffer g (port_at b 1) bs (port_at x.mux (back_in l.goes_back)) y.mux (its g ty m l at pre post x b bs split).path.2 i) (at.tree.each_lane y u).is_mux
      ]

  fresh_same : (y : Lane) → In y l.lanes → D.feeder (fresh_of l y) ≡ g.feeder (fresh_of l y)
  fresh_same y u =
      drop_same g b (fresh_of l y) (inside_not_b g ty m l at pre post x b bs split y.mux (inl (y, u, refl))) (g.feeder (fresh_of l y)) refl (fresh_not_b y u)

  fed_fresh : (o : Option Lane) → ((y : Lane) → o ≡ Some y → In y l.lanes) → fed_lane D (gather_out l' name) o (fresh_of l) None ≡ fed_lane g (gather_out l name) o (fresh_of l) None
  fed_fresh None h = refl
  fed_fresh (Some y) h = ap (moved (gather_out l' name)) (fresh_same y (h y refl)) ∙ moved_same (g.feeder (fresh_of l y)) (fresh_not_b y (h y refl))

  source_same : (y : GatherNode) (i : ℕ) → gather_source D m l' name y i ≡ gather_source g m l name y i
  source_same one_in i =
      fed_by_input D (gather_out l' name) lanes' i (fresh_of l) None
      ∙ ap (λ ps. fed_port D (gather_out l' name) (port_get ps i) None) (same_by (fresh_of l) refl)
      ∙ sym (fed_by_input D (gather_out l' name) l.lanes i (fresh_of l) None)
      ∙ fed_fresh (port_get l.lanes i) (λ y e. at_in l.lanes i y e)
  source_same _ _ = refl

  if_none : {A : Type 0} (c : Bool) (o : Option A) → o ≡ None → (if c then None else o) ≡ None
  if_none true o e = refl
  if_none false o e = e

  old_kind_same : (n : Name) → (if has_name goes_now n then None else D.kind_at n) ≡ (if has_name went n then None else g.kind_at n)
  old_kind_same n =
      elim (name_cases n b) [
        | inl is ↦
            if_none (has_name goes_now n) (D.kind_at n) (ap (λ z. if z then None else g.kind_at n) is.test)
            ∙ sym (ap (λ z. if z then None else g.kind_at n) (has_true went n (subst (λ z. In z went) (sym is.is) b_went)))
        | inr ne ↦ ap (λ z. if z then None else D.kind_at n) (gone_same n ne.is_not) ∙ ap (λ k. if has_name went n then None else k) (drop_kind g b n ne.is_not)
      ]

  stays_not_b : (p : Port) → (In p.node went → ⊥) → (q : Port) → g.feeder p ≡ Some q → q.node ≢ b
  stays_not_b p o q h e =
      elim (b_goes p (fed_by_b p q h e)) [
        | inl s ↦ o (in_left p.node (frame_of l) l.body (node_frame l p.node (of_lane (with_back x (b ∷ bs), old_lane, ap (λ (z : Port). z.node) (sym s)))))
        | inr i ↦ o (in_left p.node (frame_of l) l.body (node_frame l p.node (of_back (with_back x (b ∷ bs)) old_lane (tail i))))
      ]

  stays_fed : (p : Port) → (In p.node went → ⊥) → D.feeder p ≡ g.feeder p
  stays_fed p o = drop_same g b p (λ e. o (subst (λ z. In z went) (sym e) b_went)) (g.feeder p) refl (stays_not_b p o)

  old_feeder_same : (p : Port) → (if has_name goes_now p.node then None else moved (gather_out l' name) (D.feeder p)) ≡ (if has_name went p.node then None else moved (gather_out l name) (g.feeder p))
  old_feeder_same p =
      elim (name_cases p.node b) [
        | inl is ↦
            if_none (has_name goes_now p.node) (moved (gather_out l' name) (D.feeder p)) (ap (moved (gather_out l' name)) (ap (λ z. if z then None else bypass b (g.feeder (port_at b 1)) (g.feeder p)) is.test))
            ∙ sym (ap (λ z. if z then None else moved (gather_out l name) (g.feeder p)) (has_true went p.node (subst (λ z. In z went) (sym is.is) b_went)))
        | inr ne ↦ ap (λ z. if z then None else moved (gather_out l' name) (D.feeder p)) (gone_same p.node ne.is_not) ∙ by_gone (in_or_out p.node went)
      ]
    where
      by_gone : In p.node went ⊎ (In p.node went → ⊥) → (if has_name went p.node then None else moved (gather_out l' name) (D.feeder p)) ≡ (if has_name went p.node then None else moved (gather_out l name) (g.feeder p))
      by_gone (inl i) =
          ap (λ z. if z then None else moved (gather_out l' name) (D.feeder p)) (has_true went p.node i) ∙ sym (ap (λ z. if z then None else moved (gather_out l name) (g.feeder p)) (has_true went p.node i))
      by_gone (inr o) =
          ap (λ k. if has_name went p.node then None else k) (ap (moved (gather_out l' name)) (stays_fed p o) ∙ moved_same (g.feeder p) (stays_not_b p o))

  pub gathered_dropped : gathered_graph D m l' f name ≡ gathered_graph g m l f name
  gathered_dropped =
      circuit_same (gathered_graph D m l' f name) (gathered_graph g m l f name)
      (λ n. kind_or_same (gather_kind l' f) (gather_kind l f) (kind_same l' l f (same_by (λ (z : Lane). z.shape) refl)) (new_at name gather_nodes n) _ _ (λ e. old_kind_same n))
      (λ p. source_or_same (gather_source D m l' name) (gather_source g m l name) p.port (λ y. source_same y p.port) (new_at name gather_nodes p.node) _ _ (λ e. old_feeder_same p))

-- all of them dropped
module _ (m : Name) (l : Loop) (f : Function) (name : GatherNode → Name) where
  gathered_these : (g : Circuit) → Typed g → (pre post : List Lane) (x : Lane) (bs : List Name) → LoopAt g m (with_lanes l (pre ++ with_back x bs ∷ post)) →
      ((h : Circuit) → Typed h → LoopAt h m (with_lanes l (pre ++ with_back x [] ∷ post)) →
      gathered_graph (drop_all (backs_of post) h) m (with_lanes l (pre ++ with_back x [] ∷ map without_back post)) f name ≡ gathered_graph h m (with_lanes l (pre ++ with_back x [] ∷ post)) f name) →
      gathered_graph (drop_all (bs ++ backs_of post) g) m (with_lanes l (pre ++ with_back x [] ∷ map without_back post)) f name ≡ gathered_graph g m (with_lanes l (pre ++ with_back x bs ∷ post)) f name
  gathered_these g ty pre post x [] at rest = rest g ty at
  gathered_these g ty pre post x (b ∷ bs) at rest =
      let k : Loop = with_lanes l (pre ++ with_back x (b ∷ bs) ∷ post) in
      gathered_these (drop_node b g) (drop_typed g ty m k at pre post x b bs refl) pre post x bs (drop_loop g ty m k at pre post x b bs refl) rest
      ∙ gathered_dropped g ty m k at pre post x b bs refl f name

  gathered_lanes : (post pre : List Lane) (g : Circuit) → Typed g → LoopAt g m (with_lanes l (pre ++ post)) → gathered_graph (drop_all (backs_of post) g) m (with_lanes l (pre ++ map without_back post)) f name ≡ gathered_graph g m (with_lanes l (pre ++ post)) f name
  gathered_lanes [] pre g ty at = refl
  gathered_lanes (x ∷ post) pre g ty at =
      gathered_these g ty pre post x x.back at
      (λ h th ah.
      ap (λ z. gathered_graph (drop_all (backs_of post) h) m (with_lanes l z) f name) (sym (append_assoc pre (without_back x ∷ []) (map without_back post)))
      ∙ gathered_lanes post (pre ++ without_back x ∷ []) h th (subst (λ z. LoopAt h m (with_lanes l z)) (sym (append_assoc pre (without_back x ∷ []) post)) ah)
      ∙ ap (λ z. gathered_graph h m (with_lanes l z) f name) (append_assoc pre (without_back x ∷ []) post))

  pub all_gathered_same : (g : Circuit) → Typed g → LoopAt g m l → gathered_graph (drop_all (backs_of l.lanes) g) m (without_backs l) f name ≡ gathered_graph g m l f name
  all_gathered_same g ty at = gathered_lanes l.lanes [] g ty at
