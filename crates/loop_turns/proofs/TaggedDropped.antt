-- A tagged graph is the same whether the back Buffers of the loop are dropped before or not.
use Rattle.std.proofs.Common.{◌≡◌, ◌≢◌, ◌⊎◌, inl, inr, ℕ, zero, suc, refl, sym, ap, subst, ◌∙◌, Bool, true, false, bytes_eq, if◌then◌else◌, List, [], ◌∷◌, ◌++◌, map, length, Option, Some, None, append_assoc}
use Rattle.std.specs.List.{concat}
use Rattle.port_types.specs.Tag.{tag_width}
use Rattle.components.specs.Name.{Name, Port, port_get}
use Rattle.components.specs.declared.kind.Kind.{Kind}
use Rattle.components.specs.declared.kind.Kind.TheVariants.{Join, Split, Mux, Branch, Merge, Tagger}
use Rattle.circuits.specs.Buffers.{drop_node, drop_all, bypass}
use Rattle.circuits.specs.Circuit.{Circuit, Typed}
use Rattle.circuits.specs.Replacing.{In, In.head, In.tail}
use Rattle.loop_laws.proofs.BackPaths.{path_buffer, path_out}
use Rattle.loop_laws.proofs.NodeKinds.{kind_is, fresh_is_no_back, only_output, GivesOne, buffer_gives}
use Rattle.loop_laws.proofs.OneLoop.{in_map, map_in}
use Rattle.loop_laws.specs.BackPath.{IsBuffer}
use Rattle.loop_laws.specs.Loop.{Lane, Loop, LoopAt, shapes_of}
use Rattle.loop_laws.specs.Polarity.{back_in}
use Rattle.loop_laws.specs.Reached.{port_at, HasKind}
use Rattle.loop_turns.proofs.Lists.{in_or_out, in_left, in_right, circuit_same}
use Rattle.loop_turns.proofs.LoopDrops.{drop_kind, drop_same, same_map, with_back, has_old, its, b_back, drop_typed, drop_inner, drop_loop, inside_not_b}
use Rattle.loop_turns.proofs.LoopFrame.{FrameNode, FrameNode.of_tree, FrameNode.of_lane, FrameNode.of_branch, FrameNode.of_back, frame_node, node_frame, in_branches, branches_in}
use Rattle.loop_turns.proofs.LoopLookups.{has_true, has_false, in_either, at_in}
use Rattle.loop_turns.proofs.LoopMoved.{CoreIn, CoreIn.to_mark, CoreIn.to_branch}
use Rattle.loop_turns.specs.GatherChain.{name_place}
use Rattle.loop_turns.specs.Lanes.{with_lanes, without_back, without_backs, lane_place, next_place, port_or, fed_lane, fresh_of, data_of, condition_of, backs_of, frame_of}
use Rattle.loop_turns.specs.Rebuilt.{new_at, has_name, kind_or, source_or, moved}
use Rattle.loop_turns.specs.Tagged.{TagNode, TagNode.new_in, TagNode.new_tagger, TagNode.new_merge, TagNode.new_tag, TagNode.new_vars, TagNode.new_next, TagNode.new_retag, TagNode.new_branch, TagNode.new_out, TagNode.new_sink, sinks_from, tag_nodes, tag_kind, tag_out, tag_source, tagged_graph}
use Rattle.circuits.proofs.Names.{name_cases}

-- places depend on the names alone
pub place_of_names : (f : Lane → Name) (xs : List Lane) (n : Name) → lane_place f xs n ≡ name_place (map f xs) n
place_of_names f [] n = refl
place_of_names f (x ∷ xs) n = ap (λ o. if bytes_eq (f x) n then Some 1 else next_place o) (place_of_names f xs n)

-- what feeds an input of a lane depends on that input alone
abbrev fed_port : Circuit → (Port → Port) → Option Port → Option Port → Option Port
fed_port g out None other = other
fed_port g out (Some p) other = moved out (g.feeder p)

fed_by_input : (g : Circuit) (out : Port → Port) (xs : List Lane) (j : ℕ) (input : Lane → Port) (other : Option Port) → fed_lane g out (port_get xs j) input other ≡ fed_port g out (port_get (map input xs) j) other
fed_by_input g out [] j input other = refl
fed_by_input g out (x ∷ xs) zero input other = refl
fed_by_input g out (x ∷ xs) (suc zero) input other = refl
fed_by_input g out (x ∷ xs) (suc (suc j)) input other = fed_by_input g out xs (suc j) input other

moved_same : (out out' : Port → Port) → ((q : Port) → out' q ≡ out q) → (o : Option Port) → moved out' o ≡ moved out o
moved_same out out' h None = refl
moved_same out out' h (Some q) = ap Some (h q)

fed_same : (g h : Circuit) (out out' : Port → Port) → ((q : Port) → out' q ≡ out q) → (o : Option Lane) (input : Lane → Port) (r s : Option Port) → ((x : Lane) → o ≡ Some x → h.feeder (input x) ≡ g.feeder (input x)) → s ≡ r → fed_lane h out' o input s ≡ fed_lane g out o input r
fed_same g h out out' same None input r s feeds e = e
fed_same g h out out' same (Some x) input r s feeds e = ap (moved out') (feeds x refl) ∙ moved_same out out' same (g.feeder (input x))

kind_same : (k l : Loop) → k.tags ≡ l.tags → shapes_of k ≡ shapes_of l → (x : TagNode) → tag_kind k x ≡ tag_kind l x
kind_same k l t s new_in = ap Join s
kind_same k l t s new_tagger = ap (λ z. Tagger (concat z) k.tags) s ∙ ap (Tagger (concat (shapes_of l))) t
kind_same k l t s new_merge = ap (λ z. Merge (tag_width k.tags ∷ concat z) 2) s ∙ ap (λ z. Merge (tag_width z ∷ concat (shapes_of l)) 2) t
kind_same k l t s new_tag = ap (λ z. Split ((tag_width k.tags ∷ []) ∷ concat z ∷ [])) s ∙ ap (λ z. Split ((tag_width z ∷ []) ∷ concat (shapes_of l) ∷ [])) t
kind_same k l t s new_vars = ap Split s
kind_same k l t s new_next = ap Join s
kind_same k l t s new_retag = ap (λ z. Join ((tag_width k.tags ∷ []) ∷ concat z ∷ [])) s ∙ ap (λ z. Join ((tag_width z ∷ []) ∷ concat (shapes_of l) ∷ [])) t
kind_same k l t s new_branch = ap (λ z. Branch (tag_width k.tags ∷ concat z)) s ∙ ap (λ z. Branch (tag_width z ∷ concat (shapes_of l))) t
kind_same k l t s new_out = ap Split s
kind_same k l t s (new_sink j) = refl

kind_or_same : (f h : TagNode → Kind) → ((x : TagNode) → f x ≡ h x) → (o : Option TagNode) (r s : Option Kind) → (o ≡ None → r ≡ s) → kind_or f o r ≡ kind_or h o s
kind_or_same f h e None r s i = i refl
kind_or_same f h e (Some x) r s i = ap Some (e x)

source_or_same : (f h : TagNode → ℕ → Option Port) (i : ℕ) → ((x : TagNode) → f x i ≡ h x i) → (o : Option TagNode) (r s : Option Port) → (o ≡ None → r ≡ s) → source_or f o i r ≡ source_or h o i s
source_or_same f h i e None r s k = k refl
source_or_same f h i e (Some x) r s k = e x

module _ (g : Circuit) (ty : Typed g) (m : Name) (l : Loop) (at : LoopAt g m l) (pre post : List Lane) (x : Lane) (b : Name) (bs : List Name) (split : l.lanes ≡ pre ++ with_back x (b ∷ bs) ∷ post) (name : TagNode → Name) where
  abbrev D : Circuit
  D = drop_node b g

  abbrev lanes' : List Lane
  lanes' = pre ++ with_back x bs ∷ post

  abbrev l' : Loop
  l' = with_lanes l lanes'

  same_by : {A : Type 0} (f : Lane → A) → f (with_back x bs) ≡ f (with_back x (b ∷ bs)) → map f lanes' ≡ map f l.lanes
  same_by f e = same_map f pre (with_back x bs) (with_back x (b ∷ bs)) post e ∙ ap (map f) (sym split)

  old_lane : In (with_back x (b ∷ bs)) l.lanes
  old_lane = has_old g ty m l at pre post x b bs split

  -- the Muxes and Branches have the same places
  out_same : (q : Port) → tag_out l' name q ≡ tag_out l name q
  out_same q =
      let muxes : lane_place (λ (z : Lane). z.mux) lanes' q.node ≡ lane_place (λ (z : Lane). z.mux) l.lanes q.node =
      place_of_names (λ (z : Lane). z.mux) lanes' q.node ∙ ap (λ ns. name_place ns q.node) (same_by (λ (z : Lane). z.mux) refl) ∙ sym (place_of_names (λ (z : Lane). z.mux) l.lanes q.node) in
      let branches : lane_place (λ (z : Lane). z.branch) lanes' q.node ≡ lane_place (λ (z : Lane). z.branch) l.lanes q.node =
      place_of_names (λ (z : Lane). z.branch) lanes' q.node ∙ ap (λ ns. name_place ns q.node) (same_by (λ (z : Lane). z.branch) refl) ∙ sym (place_of_names (λ (z : Lane). z.branch) l.lanes q.node) in
      ap (λ o. port_or o (name new_vars) (port_or (lane_place (λ (z : Lane). z.branch) lanes' q.node) (name new_out) q)) muxes
      ∙ ap (λ o. port_or (lane_place (λ (z : Lane). z.mux) l.lanes q.node) (name new_vars) (port_or o (name new_out) q)) branches

  -- b feeds a back input or a Buffer of the path
  b_goes : (p : Port) → g.feeder p ≡ Some (port_at b 1) → (p ≡ port_at x.mux (back_in l.goes_back)) ⊎ In p.node bs
  b_goes p h = path_out g ty (port_at b 1) bs (port_at x.mux (back_in l.goes_back)) p (its g ty m l at pre post x b bs split).path.2 h

  fed_by_b : (p q : Port) → g.feeder p ≡ Some q → q.node ≡ b → g.feeder p ≡ Some (port_at b 1)
  fed_by_b p q h e =
      let k = b_back g ty m l at pre post x b bs split in
      let one : q.port ≡ 1 = only_output g ty p q h (subst (HasKind g GivesOne) (sym e) (k.0, k.1, buffer_gives k.0 k.2)) in
      h ∙ ap Some (ap (λ z. port_at z q.port) e ∙ ap (port_at b) one)

  fresh_same : (y : Lane) → In y l.lanes → D.feeder (fresh_of l y) ≡ g.feeder (fresh_of l y)
  fresh_same y u =
      drop_same g b (fresh_of l y) (inside_not_b g ty m l at pre post x b bs split y.mux (inl (y, u, refl))) (g.feeder (fresh_of l y)) refl
      (λ q h e. elim (b_goes (fresh_of l y) (fed_by_b (fresh_of l y) q h e)) [
        | inl s ↦ fresh_is_no_back l.goes_back (ap (λ (z : Port). z.port) s)
        | inr i ↦ kind_is g IsBuffer y.mux (Mux y.shape) (path_buffer g (port_at b 1) bs (port_at x.mux (back_in l.goes_back)) y.mux (its g ty m l at pre post x b bs split).path.2 i) (at.tree.each_lane y u).is_mux
      ])

  core_same : (p : Port) → CoreIn m l p → D.feeder p ≡ g.feeder p
  core_same = drop_inner g ty m l at pre post x b bs split

  -- what feeds the lanes of the dropped loop is what fed them
  lane_same : (j : ℕ) (input : Lane → Port) (r s : Option Port) → input (with_back x bs) ≡ input (with_back x (b ∷ bs)) → ((y : Lane) → In y l.lanes → D.feeder (input y) ≡ g.feeder (input y)) → s ≡ r →
      fed_lane D (tag_out l' name) (port_get lanes' j) input s ≡ fed_lane g (tag_out l name) (port_get l.lanes j) input r
  lane_same j input r s e feeds i =
      fed_by_input D (tag_out l' name) lanes' j input s ∙ ap (λ ps. fed_port D (tag_out l' name) (port_get ps j) s) (same_by input e) ∙ sym (fed_by_input D (tag_out l' name) l.lanes j input s)
      ∙ fed_same g D (tag_out l name) (tag_out l' name) out_same (port_get l.lanes j) input r s (λ y h. feeds y (at_in l.lanes j y h)) i

  data_same : (y : Lane) → In y l.lanes → D.feeder (data_of y) ≡ g.feeder (data_of y)
  data_same y u = core_same (data_of y) (to_branch (y, u, refl))

  condition_same : (y : Lane) → In y l.lanes → D.feeder (condition_of y) ≡ g.feeder (condition_of y)
  condition_same y u = core_same (condition_of y) (to_branch (y, u, refl))

  mark_same : moved (tag_out l' name) (D.feeder (port_at m 1)) ≡ moved (tag_out l name) (g.feeder (port_at m 1))
  mark_same = ap (moved (tag_out l' name)) (core_same (port_at m 1) (to_mark refl)) ∙ moved_same (tag_out l name) (tag_out l' name) out_same (g.feeder (port_at m 1))

  source_same : (y : TagNode) (i : ℕ) → tag_source D m l' name y i ≡ tag_source g m l name y i
  source_same new_in i = lane_same i (fresh_of l) None None refl fresh_same refl
  source_same new_next i = lane_same i data_of None None refl data_same refl
  source_same new_branch (suc (suc zero)) = lane_same 1 condition_of None None refl condition_same refl
  source_same (new_sink j) (suc zero) = lane_same (suc j) condition_of (moved (tag_out l name) (g.feeder (port_at m 1))) (moved (tag_out l' name) (D.feeder (port_at m 1))) refl condition_same mark_same
  source_same _ _ = refl

  -- the nodes that go are the same but for b
  frame_to : (n : Name) → FrameNode l' n → FrameNode l n
  frame_to n (of_tree i) = of_tree i
  frame_to n (of_lane h) = of_lane (in_map l.lanes n (subst (In n) (same_by (λ (z : Lane). z.mux) refl) (map_in lanes' n h)))
  frame_to n (of_branch h) = of_branch (in_branches l.lanes n (subst (In n) (same_by (λ (z : Lane). z.branch) refl) (branches_in lanes' n h)))
  frame_to n (of_back y u v) =
      elim (in_either y pre (with_back x bs ∷ post) u) [
        | inl j ↦ of_back y (subst (In y) (sym split) (in_left y pre (with_back x (b ∷ bs) ∷ post) j)) v
        | inr (head e) ↦ of_back (with_back x (b ∷ bs)) old_lane (tail (subst (λ (z : Lane). In n z.back) e v))
        | inr (tail j) ↦ of_back y (subst (In y) (sym split) (in_right y pre (with_back x (b ∷ bs) ∷ post) (tail j))) v
      ]

  frame_from : (n : Name) → n ≢ b → FrameNode l n → FrameNode l' n
  frame_from n ne (of_tree i) = of_tree i
  frame_from n ne (of_lane h) = of_lane (in_map lanes' n (subst (In n) (sym (same_by (λ (z : Lane). z.mux) refl)) (map_in l.lanes n h)))
  frame_from n ne (of_branch h) = of_branch (in_branches lanes' n (subst (In n) (sym (same_by (λ (z : Lane). z.branch) refl)) (branches_in l.lanes n h)))
  frame_from n ne (of_back y u v) =
      elim (in_either y pre (with_back x (b ∷ bs) ∷ post) (subst (In y) split u)) [
        | inl j ↦ of_back y (in_left y pre (with_back x bs ∷ post) j) v
        | inr (head e) ↦ from_this (subst (λ (z : Lane). In n z.back) e v)
        | inr (tail j) ↦ of_back y (in_right y pre (with_back x bs ∷ post) (tail j)) v
      ]
    where
      from_this : In n (b ∷ bs) → FrameNode l' n
      from_this (head e) = absurd (ne e)
      from_this (tail j) = of_back (with_back x bs) (in_right (with_back x bs) pre (with_back x bs ∷ post) (head refl)) j

  b_frame : In b (frame_of l)
  b_frame = node_frame l b (of_back (with_back x (b ∷ bs)) old_lane (head refl))

  gone_same : (n : Name) → n ≢ b → has_name (m ∷ frame_of l') n ≡ has_name (m ∷ frame_of l) n
  gone_same n ne =
      elim (in_or_out n (m ∷ frame_of l)) [
        | inl i ↦ has_true (m ∷ frame_of l') n (to_new i) ∙ sym (has_true (m ∷ frame_of l) n i)
        | inr o ↦ has_false (m ∷ frame_of l') n (λ i. o (to_old i)) ∙ sym (has_false (m ∷ frame_of l) n o)
      ]
    where
      to_new : In n (m ∷ frame_of l) → In n (m ∷ frame_of l')
      to_new (head e) = head e
      to_new (tail i) = tail (node_frame l' n (frame_from n ne (frame_node l n i)))

      to_old : In n (m ∷ frame_of l') → In n (m ∷ frame_of l)
      to_old (head e) = head e
      to_old (tail i) = tail (node_frame l n (frame_to n (frame_node l' n i)))

  length_same : length lanes' ≡ length l.lanes
  length_same = sym (count lanes') ∙ ap length (same_by (λ (z : Lane). z.mux) refl) ∙ count l.lanes
    where
      count : (xs : List Lane) → length (map (λ (z : Lane). z.mux) xs) ≡ length xs
      count [] = refl
      count (y ∷ ys) = ap suc (count ys)

  nodes_same : tag_nodes l' ≡ tag_nodes l
  nodes_same = ap (λ k. new_in ∷ new_tagger ∷ new_merge ∷ new_tag ∷ new_vars ∷ new_next ∷ new_retag ∷ new_branch ∷ new_out ∷ sinks_from 1 k) length_same

  if_none : {A : Type 0} (c : Bool) (o : Option A) → o ≡ None → (if c then None else o) ≡ None
  if_none true o e = refl
  if_none false o e = e

  old_kind_same : (n : Name) → (if has_name (m ∷ frame_of l') n then None else D.kind_at n) ≡ (if has_name (m ∷ frame_of l) n then None else g.kind_at n)
  old_kind_same n =
      elim (name_cases n b) [
        | inl is ↦
            if_none (has_name (m ∷ frame_of l') n) (D.kind_at n) (ap (λ z. if z then None else g.kind_at n) is.test)
            ∙ sym (ap (λ z. if z then None else g.kind_at n) (has_true (m ∷ frame_of l) n (tail (subst (λ z. In z (frame_of l)) (sym is.is) b_frame))))
        | inr ne ↦ ap (λ z. if z then None else D.kind_at n) (gone_same n ne.is_not) ∙ ap (λ k. if has_name (m ∷ frame_of l) n then None else k) (drop_kind g b n ne.is_not)
      ]

  stays_fed : (p : Port) → (In p.node (m ∷ frame_of l) → ⊥) → D.feeder p ≡ g.feeder p
  stays_fed p o =
      drop_same g b p (λ e. o (tail (subst (λ z. In z (frame_of l)) (sym e) b_frame))) (g.feeder p) refl
      (λ q h e. elim (b_goes p (fed_by_b p q h e)) [
        | inl s ↦ o (tail (node_frame l p.node (of_lane (with_back x (b ∷ bs), old_lane, ap (λ (z : Port). z.node) (sym s)))))
        | inr i ↦ o (tail (node_frame l p.node (of_back (with_back x (b ∷ bs)) old_lane (tail i))))
      ])

  old_feeder_same : (p : Port) → (if has_name (m ∷ frame_of l') p.node then None else moved (tag_out l' name) (D.feeder p)) ≡ (if has_name (m ∷ frame_of l) p.node then None else moved (tag_out l name) (g.feeder p))
  old_feeder_same p =
      elim (name_cases p.node b) [
        | inl is ↦
            if_none (has_name (m ∷ frame_of l') p.node) (moved (tag_out l' name) (D.feeder p)) (ap (moved (tag_out l' name)) (ap (λ z. if z then None else bypass b (g.feeder (port_at b 1)) (g.feeder p)) is.test))
            ∙ sym (ap (λ z. if z then None else moved (tag_out l name) (g.feeder p)) (has_true (m ∷ frame_of l) p.node (tail (subst (λ z. In z (frame_of l)) (sym is.is) b_frame))))
        | inr ne ↦
            ap (λ z. if z then None else moved (tag_out l' name) (D.feeder p)) (gone_same p.node ne.is_not) ∙ by_gone (in_or_out p.node (m ∷ frame_of l))
      ]
    where
      by_gone : In p.node (m ∷ frame_of l) ⊎ (In p.node (m ∷ frame_of l) → ⊥) → (if has_name (m ∷ frame_of l) p.node then None else moved (tag_out l' name) (D.feeder p)) ≡ (if has_name (m ∷ frame_of l) p.node then None else moved (tag_out l name) (g.feeder p))
      by_gone (inl i) =
          ap (λ z. if z then None else moved (tag_out l' name) (D.feeder p)) (has_true (m ∷ frame_of l) p.node i) ∙ sym (ap (λ z. if z then None else moved (tag_out l name) (g.feeder p)) (has_true (m ∷ frame_of l) p.node i))
      by_gone (inr o) =
          ap (λ k. if has_name (m ∷ frame_of l) p.node then None else k) (ap (moved (tag_out l' name)) (stays_fed p o) ∙ moved_same (tag_out l name) (tag_out l' name) out_same (g.feeder p))

  pub tagged_dropped : tagged_graph D m l' name ≡ tagged_graph g m l name
  tagged_dropped =
      circuit_same (tagged_graph D m l' name) (tagged_graph g m l name)
      (λ n.
      ap (λ xs. kind_or (tag_kind l') (new_at name xs n) (if has_name (m ∷ frame_of l') n then None else D.kind_at n)) nodes_same
      ∙ kind_or_same (tag_kind l') (tag_kind l) (kind_same l' l refl (same_by (λ (z : Lane). z.shape) refl)) (new_at name (tag_nodes l) n) _ _ (λ e. old_kind_same n))
      (λ p.
      ap (λ xs. source_or (tag_source D m l' name) (new_at name xs p.node) p.port (if has_name (m ∷ frame_of l') p.node then None else moved (tag_out l' name) (D.feeder p))) nodes_same
      ∙ source_or_same (tag_source D m l' name) (tag_source g m l name) p.port (λ y. source_same y p.port) (new_at name (tag_nodes l) p.node) _ _ (λ e. old_feeder_same p))

-- all of them dropped
module _ (m : Name) (l : Loop) (name : TagNode → Name) where
  tagged_these : (g : Circuit) → Typed g → (pre post : List Lane) (x : Lane) (bs : List Name) → LoopAt g m (with_lanes l (pre ++ with_back x bs ∷ post)) →
      ((h : Circuit) → Typed h → LoopAt h m (with_lanes l (pre ++ with_back x [] ∷ post)) →
      tagged_graph (drop_all (backs_of post) h) m (with_lanes l (pre ++ with_back x [] ∷ map without_back post)) name ≡ tagged_graph h m (with_lanes l (pre ++ with_back x [] ∷ post)) name) →
      tagged_graph (drop_all (bs ++ backs_of post) g) m (with_lanes l (pre ++ with_back x [] ∷ map without_back post)) name ≡ tagged_graph g m (with_lanes l (pre ++ with_back x bs ∷ post)) name
  tagged_these g ty pre post x [] at rest = rest g ty at
  tagged_these g ty pre post x (b ∷ bs) at rest =
      let k : Loop = with_lanes l (pre ++ with_back x (b ∷ bs) ∷ post) in
      tagged_these (drop_node b g) (drop_typed g ty m k at pre post x b bs refl) pre post x bs (drop_loop g ty m k at pre post x b bs refl) rest
      ∙ tagged_dropped g ty m k at pre post x b bs refl name

  tagged_lanes : (post pre : List Lane) (g : Circuit) → Typed g → LoopAt g m (with_lanes l (pre ++ post)) → tagged_graph (drop_all (backs_of post) g) m (with_lanes l (pre ++ map without_back post)) name ≡ tagged_graph g m (with_lanes l (pre ++ post)) name
  tagged_lanes [] pre g ty at = refl
  tagged_lanes (x ∷ post) pre g ty at =
      tagged_these g ty pre post x x.back at
      (λ h th ah.
      ap (λ z. tagged_graph (drop_all (backs_of post) h) m (with_lanes l z) name) (sym (append_assoc pre (without_back x ∷ []) (map without_back post)))
      ∙ tagged_lanes post (pre ++ without_back x ∷ []) h th (subst (λ z. LoopAt h m (with_lanes l z)) (sym (append_assoc pre (without_back x ∷ []) post)) ah)
      ∙ ap (λ z. tagged_graph h m (with_lanes l z) name) (append_assoc pre (without_back x ∷ []) post))

  pub all_tagged : (g : Circuit) → Typed g → LoopAt g m l → tagged_graph (drop_all (backs_of l.lanes) g) m (without_backs l) name ≡ tagged_graph g m l name
  all_tagged g ty at = tagged_lanes l.lanes [] g ty at
