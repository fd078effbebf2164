-- The wires of a tagged graph.
use Rattle.std.proofs.Common.{◌≡◌, ◌⊎◌, inl, inr, ℕ, zero, suc, ◌≤◌, refl, sym, ap, subst, ◌∙◌, Bool, true, false, List, [], ◌∷◌, length, Option, Some, None, arith, append-nil}
use Rattle.port_types.specs.Tag.{tag_width}
use Rattle.components.specs.Kind.{Shape, ins, outs}
use Rattle.components.specs.Name.{Name, Port, port_get}
use Rattle.components.specs.declared.kind.Kind.TheVariants.{Join, Split, Sink0, Mux, Branch, Init}
use Rattle.std.specs.List.{concat}
use Rattle.circuits.specs.Circuit.{Circuit, Typed}
use Rattle.circuits.specs.Replacing.{In, In.head, In.tail}
use Rattle.circuits.proofs.Beside.{none_some}
use Rattle.std.proofs.lemmas.Option.{same_Some}
use Rattle.loop_laws.specs.Polarity.{back_out, exit_out, exit_bit, fresh_in}
use Rattle.loop_laws.specs.Reached.{port_at}
use Rattle.loop_laws.specs.Loop.{Lane, Loop, IsInside, LoopAt, NodeOf, NodeOf.is_mark, IsExit, shapes_of}
use Rattle.loop_laws.proofs.Closed.{Inner, inner_no_fresh, inner_fed, inner_or_fresh, exit_or_inner, inner_node, mark_fed}
use Rattle.loop_laws.proofs.NodeKinds.{two_ports}
use Rattle.loop_turns.proofs.Lists.{in_or_out}
use Rattle.loop_turns.specs.Rebuilt.{moved, NewNames}
use Rattle.loop_turns.specs.Lanes.{fed_lane, port_or, lane_place, fresh_of, data_of, condition_of, frame_of, tuple_shape}
use Rattle.loop_turns.specs.Tagged.{TagNode, TagNode.new_in, TagNode.new_tagger, TagNode.new_merge, TagNode.new_tag, TagNode.new_vars, TagNode.new_next, TagNode.new_retag, TagNode.new_branch, TagNode.new_out, TagNode.new_sink, tag_nodes, tag_kind, tag_out, tag_source, tagged_graph}
use Rattle.loop_turns.proofs.LoopLookups.{in_at, at_in, at_map, map_at, at_within, at_beyond, place_at, place_none, sink_in, in_sinks}
use Rattle.loop_turns.proofs.LoopFrame.{frame_in_loop, body_no_frame, mark_no_body, Third.third_mark, Third.third_frame, Third.third_body, third, node_frame, FrameNode.of_lane, FrameNode.of_branch, muxes_unlike, branches_unlike, mux_not_branch, lane_output, Receives, Receives.by_mark, Receives.by_data, Receives.by_condition, Receives.by_body, receives}
use Rattle.loop_turns.proofs.Rebuilding.{Stays, kind_new, kind_stays, source_new, source_stays, Sort.is_new, Sort.is_old, sort, Enters.to_new, Enters.to_old, enters}
use Rattle.loop_turns.proofs.Rewiring.{HasIn, HasOut, Was}

pub exit_port : (d : Bool) (a : Shape) → port_get (a ∷ a ∷ []) (exit_out d) ≡ Some a
exit_port true a = refl
exit_port false a = refl

pub back_port : (d : Bool) (a : Shape) → port_get (a ∷ a ∷ []) (back_out d) ≡ Some a
back_port true a = refl
back_port false a = refl

pub fresh_port : (d : Bool) (a : Shape) → port_get ((1 ∷ []) ∷ a ∷ a ∷ []) (fresh_in d) ≡ Some a
fresh_port true a = refl
fresh_port false a = refl

pub exit_or_back : (d : Bool) (i : ℕ) (a b : Shape) → port_get (a ∷ a ∷ []) i ≡ Some b → (i ≡ exit_out d) ⊎ (i ≡ back_out d)
exit_or_back true i a b e = elim (two_ports a a i b e) [ inl x ↦ inr x | inr x ↦ inl x ]
exit_or_back false i a b e = elim (two_ports a a i b e) [ inl x ↦ inl x | inr x ↦ inr x ]

pub no_port : {A : Type 0} (x : A) → None ≡ Some x → ⊥
no_port x e = none_some None x refl e

pub in_unique : (g : Circuit) (p : Port) (a b : Shape) → HasIn g p a → HasIn g p b → a ≡ b
in_unique g p a b (k, e, i) (k', e', i') = same_Some a b (sym i ∙ ap (λ z. port_get (ins z) p.port) (same_Some k k' (sym e ∙ e')) ∙ i')

pub out_unique : (g : Circuit) (p : Port) (a b : Shape) → HasOut g p a → HasOut g p b → a ≡ b
out_unique g p a b (k, e, i) (k', e', i') = same_Some a b (sym i ∙ ap (λ z. port_get (outs z) p.port) (same_Some k k' (sym e ∙ e')) ∙ i')

-- the nodes that are no sinks are listed
abbrev pub IsFixed : TagNode → Type 0
IsFixed (new_sink j) = ⊥
IsFixed _ = Unit {0}

pub fixed_in : (l : Loop) (x : TagNode) → IsFixed x → In x (tag_nodes l)
fixed_in l new_in h = head refl
fixed_in l new_tagger h = tail (head refl)
fixed_in l new_merge h = tail (tail (head refl))
fixed_in l new_tag h = tail (tail (tail (head refl)))
fixed_in l new_vars h = tail (tail (tail (tail (head refl))))
fixed_in l new_next h = tail (tail (tail (tail (tail (head refl)))))
fixed_in l new_retag h = tail (tail (tail (tail (tail (tail (head refl))))))
fixed_in l new_branch h = tail (tail (tail (tail (tail (tail (tail (head refl)))))))
fixed_in l new_out h = tail (tail (tail (tail (tail (tail (tail (tail (head refl))))))))
fixed_in l (new_sink j) h = absurd h

-- an input of the tagged graph, and the one of g that it stands for
pub data InOf (g : Circuit) (m : Name) (l : Loop) (name : TagNode → Name) (p0 p : Port) : Type 0 where
  in_stays : Stays g (m ∷ frame_of l) p.node → p0 ≡ p → InOf g m l name p0 p
  in_fresh : (j : ℕ) (x : Lane) → port_get l.lanes j ≡ Some x → p0 ≡ fresh_of l x → p ≡ port_at (name new_in) j → InOf g m l name p0 p
  in_data : (j : ℕ) (x : Lane) → port_get l.lanes j ≡ Some x → p0 ≡ data_of x → p ≡ port_at (name new_next) j → InOf g m l name p0 p
  in_first : (x : Lane) → port_get l.lanes 1 ≡ Some x → p0 ≡ condition_of x → p ≡ port_at (name new_branch) 2 → InOf g m l name p0 p
  in_other : (j : ℕ) (x : Lane) → port_get l.lanes (suc (suc j)) ≡ Some x → p0 ≡ condition_of x → p ≡ port_at (name (new_sink (suc j))) 1 → InOf g m l name p0 p
  in_mark : p0 ≡ port_at m 1 → p ≡ port_at (name (new_sink (length l.lanes))) 1 → InOf g m l name p0 p

-- an output
pub data OutOf (g : Circuit) (m : Name) (l : Loop) (name : TagNode → Name) (q0 q : Port) : Type 0 where
  out_stays : Stays g (m ∷ frame_of l) q.node → q0 ≡ q → OutOf g m l name q0 q
  out_var : (j : ℕ) (x : Lane) → port_get l.lanes j ≡ Some x → q0 ≡ port_at x.mux 1 → q ≡ port_at (name new_vars) j → OutOf g m l name q0 q
  out_exit : (j : ℕ) (x : Lane) → port_get l.lanes j ≡ Some x → q0 ≡ port_at x.branch (exit_out l.goes_back) → q ≡ port_at (name new_out) j → OutOf g m l name q0 q

-- the wires between new nodes
pub data Own (l : Loop) (name : TagNode → Name) (p q : Port) : Type 0 where
  own_tagger : p ≡ port_at (name new_tagger) 1 → q ≡ port_at (name new_in) 1 → Own l name p q
  own_ends : p ≡ port_at (name new_tagger) 2 → q ≡ port_at (name new_branch) (exit_out l.goes_back) → Own l name p q
  own_merge : p ≡ port_at (name new_merge) 1 → q ≡ port_at (name new_tagger) 1 → Own l name p q
  own_turns : p ≡ port_at (name new_merge) 2 → q ≡ port_at (name new_branch) (back_out l.goes_back) → Own l name p q
  own_tag : p ≡ port_at (name new_tag) 1 → q ≡ port_at (name new_merge) 1 → Own l name p q
  own_vars : p ≡ port_at (name new_vars) 1 → q ≡ port_at (name new_tag) 2 → Own l name p q
  own_retag : p ≡ port_at (name new_retag) 1 → q ≡ port_at (name new_tag) 1 → Own l name p q
  own_next : p ≡ port_at (name new_retag) 2 → q ≡ port_at (name new_next) 1 → Own l name p q
  own_branch : p ≡ port_at (name new_branch) 1 → q ≡ port_at (name new_retag) 1 → Own l name p q
  own_out : p ≡ port_at (name new_out) 1 → q ≡ port_at (name new_tagger) 2 → Own l name p q

module _ (g : Circuit) (ty : Typed g) (m : Name) (l : Loop) (at : LoopAt g m l) (name : TagNode → Name) (names : NewNames g (tag_nodes l) name) where
  abbrev gone : List Name
  gone = m ∷ frame_of l

  abbrev T : Circuit
  T = tagged_graph g m l name

  abbrev out : Port → Port
  out = tag_out l name

  abbrev In' : Port → Port → Type 0
  In' = InOf g m l name

  abbrev Out' : Port → Port → Type 0
  Out' = OutOf g m l name

  pub m_sink : (j : ℕ) → suc j ≤ length l.lanes → In (new_sink (suc j)) (tag_nodes l)
  m_sink j h = tail (tail (tail (tail (tail (tail (tail (tail (tail (sink_in 1 (length l.lanes) (suc j) (omega arith) (omega arith))))))))))

  pub sink_of : (j : ℕ) → In (new_sink j) (tag_nodes l) → (1 ≤ j) × (j ≤ length l.lanes)
  sink_of j (tail (tail (tail (tail (tail (tail (tail (tail (tail i))))))))) =
      let (k, e, a, b) = in_sinks 1 (length l.lanes) (new_sink j) i in
      let s : j ≡ k = cc in
      (subst (λ z. 1 ≤ z) (sym s) a, subst (λ z. z ≤ length l.lanes) (sym s) (omega arith))
  sink_of j (head e) = cc
  sink_of j (tail (head e)) = cc
  sink_of j (tail (tail (head e))) = cc
  sink_of j (tail (tail (tail (head e)))) = cc
  sink_of j (tail (tail (tail (tail (head e))))) = cc
  sink_of j (tail (tail (tail (tail (tail (head e)))))) = cc
  sink_of j (tail (tail (tail (tail (tail (tail (head e))))))) = cc
  sink_of j (tail (tail (tail (tail (tail (tail (tail (head e)))))))) = cc
  sink_of j (tail (tail (tail (tail (tail (tail (tail (tail (head e))))))))) = cc

  pub kn : (x : TagNode) → In x (tag_nodes l) → T.kind_at (name x) ≡ Some (tag_kind l x)
  kn = kind_new g gone name (tag_nodes l) (tag_kind l) (tag_source g m l name) out names

  pub ks : (n : Name) → Stays g gone n → T.kind_at n ≡ g.kind_at n
  ks = kind_stays g gone name (tag_nodes l) (tag_kind l) (tag_source g m l name) out names

  fn : (x : TagNode) (i : ℕ) → In x (tag_nodes l) → T.feeder (port_at (name x) i) ≡ tag_source g m l name x i
  fn = source_new g gone name (tag_nodes l) (tag_kind l) (tag_source g m l name) out names

  fs : (p : Port) → Stays g gone p.node → T.feeder p ≡ moved out (g.feeder p)
  fs = source_stays g gone name (tag_nodes l) (tag_kind l) (tag_source g m l name) out names

  -- there is a lane
  pub some_lane : 1 ≤ length l.lanes
  some_lane = let (j, e) = in_at l.lanes at.branches.data_lane at.branches.is_data_lane in omega (arith, at_within l.lanes (suc j) at.branches.data_lane e)

  -- the old nodes
  pub gone_node : (n : Name) → In n gone → NodeOf m l n
  gone_node n (head e) = is_mark e
  gone_node n (tail i) = frame_in_loop g ty m l at n i

  pub body_stays : (n : Name) → In n l.body → In n gone → ⊥
  body_stays n b (head e) = mark_no_body g ty m l at n e b
  body_stays n b (tail i) = body_no_frame g ty m l at n b i

  pub stays_body : (n : Name) → (In n gone → ⊥) → NodeOf m l n → In n l.body
  stays_body n o i =
      elim (third g ty m l at n i) [ third_mark e ↦ absurd (o (head e)) | third_frame f ↦ absurd (o (tail f)) | third_body b ↦ b ]

  pub lane_gone : (x : Lane) → In x l.lanes → In x.mux gone
  lane_gone x u = tail (node_frame l x.mux (of_lane (x, u, refl)))

  pub branch_gone : (x : Lane) → In x l.lanes → In x.branch gone
  branch_gone x u = tail (node_frame l x.branch (of_branch (x, u, refl)))

  -- what stands for an output
  pub out_mux : (j i : ℕ) (x : Lane) → port_get l.lanes j ≡ Some x → out (port_at x.mux i) ≡ port_at (name new_vars) j
  out_mux j i x e =
      ap (λ o. port_or o (name new_vars) (port_or (lane_place (λ (x : Lane). x.branch) l.lanes x.mux) (name new_out) (port_at x.mux i)))
      (place_at (λ (x : Lane). x.mux) l.lanes (muxes_unlike g ty m l at) j x e)

  pub out_branch : (j i : ℕ) (x : Lane) → port_get l.lanes j ≡ Some x → out (port_at x.branch i) ≡ port_at (name new_out) j
  out_branch j i x e =
      ap (λ o. port_or o (name new_vars) (port_or (lane_place (λ (x : Lane). x.branch) l.lanes x.branch) (name new_out) (port_at x.branch i)))
      (place_none (λ (x : Lane). x.mux) l.lanes x.branch (λ y v. mux_not_branch g ty m l at y x v (at_in l.lanes j x e)))
      ∙ ap (λ o. port_or o (name new_out) (port_at x.branch i)) (place_at (λ (x : Lane). x.branch) l.lanes (branches_unlike g ty m l at) j x e)

  pub out_else : (q : Port) → (In q.node gone → ⊥) → out q ≡ q
  out_else q o =
      ap (λ z. port_or z (name new_vars) (port_or (lane_place (λ (x : Lane). x.branch) l.lanes q.node) (name new_out) q))
      (place_none (λ (x : Lane). x.mux) l.lanes q.node (λ y v e. o (subst (λ z. In z gone) e (lane_gone y v))))
      ∙ ap (λ z. port_or z (name new_out) q) (place_none (λ (x : Lane). x.branch) l.lanes q.node (λ y v e. o (subst (λ z. In z gone) e (branch_gone y v))))

  out_of_exit : (q0 : Port) → IsExit l q0 → Out' q0 (out q0)
  out_of_exit q0 (x, u, e) =
      let (j, k) = in_at l.lanes x u in
      out_exit (suc j) x k e (ap out e ∙ out_branch (suc j) (exit_out l.goes_back) x k)

  out_of_stays : (p0 q0 : Port) → g.feeder p0 ≡ Some q0 → (In q0.node gone → ⊥) → Out' q0 (out q0)
  out_of_stays p0 q0 f o =
      let w = ty.wires p0 q0 f in
      out_stays (subst (λ (z : Port). Stays g gone z.node) (sym (out_else q0 o)) (w.from, w.is_from, o)) (sym (out_else q0 o))

  out_of_inside : (p0 q0 : Port) → g.feeder p0 ≡ Some q0 → IsInside l q0.node → Out' q0 (out q0)
  out_of_inside p0 q0 f (inl (x, u, e)) =
      let (j, k) = in_at l.lanes x u in
      let is : q0 ≡ port_at x.mux 1 = ap (λ n. port_at n q0.port) (sym e) ∙ ap (port_at x.mux) (lane_output g ty m l at p0 q0 f (x, u, e)) in
      out_var (suc j) x k is (ap out is ∙ out_mux (suc j) 1 x k)
  out_of_inside p0 q0 f (inr b) = out_of_stays p0 q0 f (body_stays q0.node b)

  -- an input of the loop that the tagged graph still has is fresh or fed from inside
  inside_of : (p0 p q0 : Port) → In' p0 p → Inner m l p0 → g.feeder p0 ≡ Some q0 → IsInside l q0.node
  inside_of p0 p q0 (in_stays s e) i f =
      at.body.closed p0.node (stays_body p0.node (subst (λ (z : Port). In z.node gone → ⊥) (sym e) s.2) (inner_node m l p0 i)) p0.port q0 f
  inside_of p0 p q0 (in_fresh j x k e e') i f = absurd (inner_no_fresh g ty m l at p0 i (x, at_in l.lanes j x k, e))
  inside_of p0 p q0 (in_data j x k e e') i f = at.branches.branches x.branch (x, at_in l.lanes j x k, refl) 1 q0 (ap g.feeder (sym e) ∙ f)
  inside_of p0 p q0 (in_first x k e e') i f = at.branches.branches x.branch (x, at_in l.lanes 1 x k, refl) 2 q0 (ap g.feeder (sym e) ∙ f)
  inside_of p0 p q0 (in_other j x k e e') i f = at.branches.branches x.branch (x, at_in l.lanes (suc (suc j)) x k, refl) 2 q0 (ap g.feeder (sym e) ∙ f)
  inside_of p0 p q0 (in_mark e e') i f = mark_fed g ty m l at q0 (ap g.feeder (sym e) ∙ f)

  out_total : (p0 p q0 : Port) → In' p0 p → g.feeder p0 ≡ Some q0 → Out' q0 (out q0)
  out_total p0 p q0 i f =
      elim (in_or_out q0.node gone) [
        | inr o ↦ out_of_stays p0 q0 f o
        | inl gn ↦ elim (exit_or_inner g ty m l at p0 q0 f (gone_node q0.node gn)) [
          | inl x ↦ out_of_exit q0 x
          | inr n ↦ out_of_inside p0 q0 f (inside_of p0 p q0 i n f)
        ]
      ]

  -- each wire of the tagged graph was one of g or is new
  moved_wire : (p0 p q : Port) (o : Option Port) → In' p0 p → g.feeder p0 ≡ o → moved out o ≡ Some q → Was g In' Out' p q
  moved_wire p0 p q None i f e = absurd (no_port q e)
  moved_wire p0 p q (Some q0) i f e =
      record { target = p0; source = q0; into = i; out = subst (Out' q0) (same_Some (out q0) q e) (out_total p0 p q0 i f); wire = f }

  lane_wire : (j : ℕ) (p q : Port) (input : Lane → Port) (o : Option Lane) → port_get l.lanes j ≡ o → ((x : Lane) → port_get l.lanes j ≡ Some x → In' (input x) p) → fed_lane g out o input None ≡ Some q → Was g In' Out' p q
  lane_wire j p q input None h i e = absurd (no_port q e)
  lane_wire j p q input (Some x) h i e = moved_wire (input x) p q (g.feeder (input x)) (i x h) refl e

  sink_wire : (j : ℕ) (q : Port) (o : Option Lane) → port_get l.lanes (suc (suc j)) ≡ o → suc j ≤ length l.lanes → fed_lane g out o condition_of (moved out (g.feeder (port_at m 1))) ≡ Some q → Was g In' Out' (port_at (name (new_sink (suc j))) 1) q
  sink_wire j q None h b e =
      let last : suc j ≡ length l.lanes = omega (arith, at_beyond l.lanes (suc j) h) in
      moved_wire (port_at m 1) (port_at (name (new_sink (suc j))) 1) q (g.feeder (port_at m 1)) (in_mark refl (ap (λ z. port_at (name (new_sink z)) 1) last)) refl e
  sink_wire j q (Some x) h b e =
      moved_wire (condition_of x) (port_at (name (new_sink (suc j))) 1) q (g.feeder (condition_of x)) (in_other j x h refl refl) refl e

  abbrev Either : Port → Port → Type 0
  Either p q = Was g In' Out' p q ⊎ Own l name p q

  new_wires : (x : TagNode) (i : ℕ) (q : Port) → In x (tag_nodes l) → tag_source g m l name x i ≡ Some q → Either (port_at (name x) i) q
  new_wires new_in i q u e = inl (lane_wire i (port_at (name new_in) i) q (fresh_of l) (port_get l.lanes i) refl (λ x k. in_fresh i x k refl refl) e)
  new_wires new_tagger (suc zero) q u e = inr (own_tagger refl (sym (same_Some _ q e)))
  new_wires new_tagger (suc (suc zero)) q u e = inr (own_ends refl (sym (same_Some _ q e)))
  new_wires new_merge (suc zero) q u e = inr (own_merge refl (sym (same_Some _ q e)))
  new_wires new_merge (suc (suc zero)) q u e = inr (own_turns refl (sym (same_Some _ q e)))
  new_wires new_tag (suc zero) q u e = inr (own_tag refl (sym (same_Some _ q e)))
  new_wires new_vars (suc zero) q u e = inr (own_vars refl (sym (same_Some _ q e)))
  new_wires new_next i q u e = inl (lane_wire i (port_at (name new_next) i) q data_of (port_get l.lanes i) refl (λ x k. in_data i x k refl refl) e)
  new_wires new_retag (suc zero) q u e = inr (own_retag refl (sym (same_Some _ q e)))
  new_wires new_retag (suc (suc zero)) q u e = inr (own_next refl (sym (same_Some _ q e)))
  new_wires new_branch (suc zero) q u e = inr (own_branch refl (sym (same_Some _ q e)))
  new_wires new_branch (suc (suc zero)) q u e = inl (lane_wire 1 (port_at (name new_branch) 2) q condition_of (port_get l.lanes 1) refl (λ x k. in_first x k refl refl) e)
  new_wires new_out (suc zero) q u e = inr (own_out refl (sym (same_Some _ q e)))
  new_wires (new_sink zero) (suc zero) q u e = let s = sink_of zero u in absurd (none s.0)
    where
      none : 1 ≤ 0 → ⊥
      none h = omega arith
  new_wires (new_sink (suc j)) (suc zero) q u e = let s = sink_of (suc j) u in inl (sink_wire j q (port_get l.lanes (suc (suc j))) refl s.1 e)
  new_wires _ _ q u e = absurd (no_port q e)

  pub old_wires : (p q : Port) → T.feeder p ≡ Some q → Either p q
  old_wires p q f =
      elim (enters g gone name (tag_nodes l) (tag_kind l) (tag_source g m l name) out names ty p q f) [
        | to_new x u e s ↦ subst (λ z. Either z q) (sym e) (new_wires x p.port q u s)
        | to_old q0 s h e ↦ inl (record { target = p; source = q0; into = in_stays s refl; out = subst (Out' q0) (sym e) (out_total p p q0 (in_stays s refl) h); wire = h })
      ]

  -- the last sink takes what fed the mark
  past_last : (j : ℕ) → suc j ≡ length l.lanes → (o : Option Lane) → port_get l.lanes (suc (suc j)) ≡ o → fed_lane g out o condition_of (moved out (g.feeder (port_at m 1))) ≡ moved out (g.feeder (port_at m 1))
  past_last j s None h = refl
  past_last j s (Some x) h = absurd (beyond (at_within l.lanes (suc (suc j)) x h))
    where
      beyond : suc (suc j) ≤ length l.lanes → ⊥
      beyond b = omega arith

  last_fed : (k : ℕ) → k ≡ length l.lanes → T.feeder (port_at (name (new_sink k)) 1) ≡ moved out (g.feeder (port_at m 1))
  last_fed zero s = absurd (none some_lane)
    where
      none : 1 ≤ length l.lanes → ⊥
      none b = omega arith
  last_fed (suc j) s = fn (new_sink (suc j)) 1 (m_sink j (omega arith)) ∙ past_last j s (port_get l.lanes (suc (suc j))) refl

  -- each wire of g that stays is there
  fed_new : (p0 p q0 : Port) → In' p0 p → g.feeder p0 ≡ Some q0 → T.feeder p ≡ Some (out q0)
  fed_new p0 p q0 (in_stays s e) f = fs p s ∙ ap (moved out) (ap g.feeder (sym e) ∙ f)
  fed_new p0 p q0 (in_fresh j x k e e') f =
      ap T.feeder e' ∙ fn new_in j (fixed_in l new_in tt) ∙ ap (λ o. fed_lane g out o (fresh_of l) None) k ∙ ap (moved out) (ap g.feeder (sym e) ∙ f)
  fed_new p0 p q0 (in_data j x k e e') f =
      ap T.feeder e' ∙ fn new_next j (fixed_in l new_next tt) ∙ ap (λ o. fed_lane g out o data_of None) k ∙ ap (moved out) (ap g.feeder (sym e) ∙ f)
  fed_new p0 p q0 (in_first x k e e') f =
      ap T.feeder e' ∙ fn new_branch 2 (fixed_in l new_branch tt) ∙ ap (λ o. fed_lane g out o condition_of None) k ∙ ap (moved out) (ap g.feeder (sym e) ∙ f)
  fed_new p0 p q0 (in_other j x k e e') f =
      ap T.feeder e' ∙ fn (new_sink (suc j)) 1 (m_sink j (omega (arith, at_within l.lanes (suc (suc j)) x k)))
      ∙ ap (λ o. fed_lane g out o condition_of (moved out (g.feeder (port_at m 1)))) k ∙ ap (moved out) (ap g.feeder (sym e) ∙ f)
  fed_new p0 p q0 (in_mark e e') f =
      ap T.feeder e' ∙ last_fed (length l.lanes) refl ∙ ap (moved out) (ap g.feeder (sym e) ∙ f)

  pub new_wire : (p0 p q0 : Port) → In' p0 p → g.feeder p0 ≡ Some q0 → (q : Port) × Out' q0 q × (T.feeder p ≡ Some q)
  new_wire p0 p q0 i f = (out q0, out_total p0 p q0 i f, fed_new p0 p q0 i f)

  pub own_wire : (p q : Port) → Own l name p q → T.feeder p ≡ Some q
  own_wire p q (own_tagger a b) = ap T.feeder a ∙ fn new_tagger 1 (fixed_in l new_tagger tt) ∙ ap Some (sym b)
  own_wire p q (own_ends a b) = ap T.feeder a ∙ fn new_tagger 2 (fixed_in l new_tagger tt) ∙ ap Some (sym b)
  own_wire p q (own_merge a b) = ap T.feeder a ∙ fn new_merge 1 (fixed_in l new_merge tt) ∙ ap Some (sym b)
  own_wire p q (own_turns a b) = ap T.feeder a ∙ fn new_merge 2 (fixed_in l new_merge tt) ∙ ap Some (sym b)
  own_wire p q (own_tag a b) = ap T.feeder a ∙ fn new_tag 1 (fixed_in l new_tag tt) ∙ ap Some (sym b)
  own_wire p q (own_vars a b) = ap T.feeder a ∙ fn new_vars 1 (fixed_in l new_vars tt) ∙ ap Some (sym b)
  own_wire p q (own_retag a b) = ap T.feeder a ∙ fn new_retag 1 (fixed_in l new_retag tt) ∙ ap Some (sym b)
  own_wire p q (own_next a b) = ap T.feeder a ∙ fn new_retag 2 (fixed_in l new_retag tt) ∙ ap Some (sym b)
  own_wire p q (own_branch a b) = ap T.feeder a ∙ fn new_branch 1 (fixed_in l new_branch tt) ∙ ap Some (sym b)
  own_wire p q (own_out a b) = ap T.feeder a ∙ fn new_out 1 (fixed_in l new_out tt) ∙ ap Some (sym b)

  -- the shapes at the ports
  fresh_shape : (x : Lane) → In x l.lanes → HasIn g (fresh_of l x) x.shape
  fresh_shape x u = (Mux x.shape, (at.tree.each_lane x u).is_mux, fresh_port l.goes_back x.shape)

  data_shape : (x : Lane) → In x l.lanes → HasIn g (data_of x) x.shape
  data_shape x u = (Branch x.shape, (at.tree.each_lane x u).is_branch, refl)

  condition_shape : (x : Lane) → In x l.lanes → HasIn g (condition_of x) (1 ∷ [])
  condition_shape x u = (Branch x.shape, (at.tree.each_lane x u).is_branch, refl)

  mark_shape : HasIn g (port_at m 1) (1 ∷ [])
  mark_shape = (Init (exit_bit l.goes_back) l.tags, at.mark.0, refl)

  shape_at : (j : ℕ) (x : Lane) → port_get l.lanes j ≡ Some x → port_get (shapes_of l) j ≡ Some x.shape
  shape_at j x e = at_map (λ (x : Lane). x.shape) l.lanes j x e

  in_conv : (p0 p r0 r : Port) (s a : Shape) → p0 ≡ r0 → p ≡ r → HasIn g r0 s → HasIn T r s → HasIn g p0 a → HasIn T p a
  in_conv p0 p r0 r s a e e' hg ht hi =
      subst (HasIn T p) (in_unique g p0 s a (subst (λ z. HasIn g z s) (sym e) hg) hi) (subst (λ z. HasIn T z s) (sym e') ht)

  out_conv : (p0 p r0 r : Port) (s a : Shape) → p0 ≡ r0 → p ≡ r → HasOut g r0 s → HasOut T r s → HasOut g p0 a → HasOut T p a
  out_conv p0 p r0 r s a e e' hg ht hi =
      subst (HasOut T p) (out_unique g p0 s a (subst (λ z. HasOut g z s) (sym e) hg) hi) (subst (λ z. HasOut T z s) (sym e') ht)

  sink_shape : (j : ℕ) → In (new_sink j) (tag_nodes l) → HasIn T (port_at (name (new_sink j)) 1) (1 ∷ [])
  sink_shape j u = (Sink0 (1 ∷ []), kn (new_sink j) u, refl)

  pub m_last : In (new_sink (length l.lanes)) (tag_nodes l)
  m_last = last (length l.lanes) refl
    where
      last : (k : ℕ) → k ≡ length l.lanes → In (new_sink k) (tag_nodes l)
      last zero s = absurd (none some_lane)
        where
          none : 1 ≤ length l.lanes → ⊥
          none b = omega arith
      last (suc j) s = m_sink j (omega arith)

  pub in_shape : (p0 p : Port) (a : Shape) → In' p0 p → HasIn g p0 a → HasIn T p a
  in_shape p0 p a (in_stays s e) h = let (k, e', i) = subst (λ z. HasIn g z a) e h in (k, ks p.node s ∙ e', i)
  in_shape p0 p a (in_fresh j x k e e') h =
      in_conv p0 p (fresh_of l x) (port_at (name new_in) j) x.shape a e e' (fresh_shape x (at_in l.lanes j x k)) (Join (shapes_of l), kn new_in (fixed_in l new_in tt), shape_at j x k) h
  in_shape p0 p a (in_data j x k e e') h =
      in_conv p0 p (data_of x) (port_at (name new_next) j) x.shape a e e' (data_shape x (at_in l.lanes j x k)) (Join (shapes_of l), kn new_next (fixed_in l new_next tt), shape_at j x k) h
  in_shape p0 p a (in_first x k e e') h =
      in_conv p0 p (condition_of x) (port_at (name new_branch) 2) (1 ∷ []) a e e' (condition_shape x (at_in l.lanes 1 x k)) (Branch (tag_width l.tags ∷ tuple_shape l), kn new_branch (fixed_in l new_branch tt), refl) h
  in_shape p0 p a (in_other j x k e e') h =
      in_conv p0 p (condition_of x) (port_at (name (new_sink (suc j))) 1) (1 ∷ []) a e e' (condition_shape x (at_in l.lanes (suc (suc j)) x k))
      (sink_shape (suc j) (m_sink j (omega (arith, at_within l.lanes (suc (suc j)) x k)))) h
  in_shape p0 p a (in_mark e e') h =
      in_conv p0 p (port_at m 1) (port_at (name (new_sink (length l.lanes))) 1) (1 ∷ []) a e e' mark_shape (sink_shape (length l.lanes) m_last) h

  pub out_shape : (q0 q : Port) (a : Shape) → Out' q0 q → HasOut g q0 a → HasOut T q a
  out_shape q0 q a (out_stays s e) h = let (k, e', i) = subst (λ z. HasOut g z a) e h in (k, ks q.node s ∙ e', i)
  out_shape q0 q a (out_var j x k e e') h =
      out_conv q0 q (port_at x.mux 1) (port_at (name new_vars) j) x.shape a e e' (Mux x.shape, (at.tree.each_lane x (at_in l.lanes j x k)).is_mux, refl) (Split (shapes_of l), kn new_vars (fixed_in l new_vars tt), shape_at j x k) h
  out_shape q0 q a (out_exit j x k e e') h =
      out_conv q0 q (port_at x.branch (exit_out l.goes_back)) (port_at (name new_out) j) x.shape a e e' (Branch x.shape, (at.tree.each_lane x (at_in l.lanes j x k)).is_branch, exit_port l.goes_back x.shape)
      (Split (shapes_of l), kn new_out (fixed_in l new_out tt), shape_at j x k) h

  abbrev TA : Shape
  TA = tag_width l.tags ∷ tuple_shape l

  own_shapes : (p q p' q' : Port) (a : Shape) → p ≡ p' → q ≡ q' → HasIn T p' a → HasOut T q' a → (b : Shape) × HasIn T p b × HasOut T q b
  own_shapes p q p' q' a e f i o = (a, subst (λ z. HasIn T z a) (sym e) i, subst (λ z. HasOut T z a) (sym f) o)

  pub own_shape : (p q : Port) → Own l name p q → (a : Shape) × HasIn T p a × HasOut T q a
  own_shape p q (own_tagger a b) = own_shapes p q _ _ (tuple_shape l) a b (_, kn new_tagger (fixed_in l new_tagger tt), refl) (_, kn new_in (fixed_in l new_in tt), refl)
  own_shape p q (own_ends a b) = own_shapes p q _ _ TA a b (_, kn new_tagger (fixed_in l new_tagger tt), refl) (_, kn new_branch (fixed_in l new_branch tt), exit_port l.goes_back TA)
  own_shape p q (own_merge a b) = own_shapes p q _ _ TA a b (_, kn new_merge (fixed_in l new_merge tt), refl) (_, kn new_tagger (fixed_in l new_tagger tt), refl)
  own_shape p q (own_turns a b) = own_shapes p q _ _ TA a b (_, kn new_merge (fixed_in l new_merge tt), refl) (_, kn new_branch (fixed_in l new_branch tt), back_port l.goes_back TA)
  own_shape p q (own_tag a b) = own_shapes p q _ _ TA a b (_, kn new_tag (fixed_in l new_tag tt), ap Some tag_whole) (_, kn new_merge (fixed_in l new_merge tt), refl)
    where
      tag_whole : concat ((tag_width l.tags ∷ []) ∷ tuple_shape l ∷ []) ≡ TA
      tag_whole = ap (λ z. tag_width l.tags ∷ z) (append-nil (tuple_shape l))
  own_shape p q (own_vars a b) = own_shapes p q _ _ (tuple_shape l) a b (_, kn new_vars (fixed_in l new_vars tt), refl) (_, kn new_tag (fixed_in l new_tag tt), refl)
  own_shape p q (own_retag a b) = own_shapes p q _ _ (tag_width l.tags ∷ []) a b (_, kn new_retag (fixed_in l new_retag tt), refl) (_, kn new_tag (fixed_in l new_tag tt), refl)
  own_shape p q (own_next a b) = own_shapes p q _ _ (tuple_shape l) a b (_, kn new_retag (fixed_in l new_retag tt), refl) (_, kn new_next (fixed_in l new_next tt), refl)
  own_shape p q (own_branch a b) = own_shapes p q _ _ TA a b (_, kn new_branch (fixed_in l new_branch tt), refl) (_, kn new_retag (fixed_in l new_retag tt), ap Some retag_whole)
    where
      retag_whole : concat ((tag_width l.tags ∷ []) ∷ tuple_shape l ∷ []) ≡ TA
      retag_whole = ap (λ z. tag_width l.tags ∷ z) (append-nil (tuple_shape l))
  own_shape p q (own_out a b) = own_shapes p q _ _ (tuple_shape l) a b (_, kn new_out (fixed_in l new_out tt), refl) (_, kn new_tagger (fixed_in l new_tagger tt), refl)

  -- each input and each output stands for one of g or is new
  abbrev FromIn : Port → Type 0
  FromIn p = ((p0 : Port) × In' p0 p × (b : Shape) × HasIn g p0 b) ⊎ ((q : Port) × Own l name p q)

  abbrev FromOut : Port → Type 0
  FromOut q = ((q0 : Port) × Out' q0 q × (b : Shape) × HasOut g q0 b) ⊎ ((p : Port) × Own l name p q)

  sink_input : (j : ℕ) (o : Option Lane) → port_get l.lanes (suc (suc j)) ≡ o → suc j ≤ length l.lanes → FromIn (port_at (name (new_sink (suc j))) 1)
  sink_input j None h b =
      let last : suc j ≡ length l.lanes = omega (arith, at_beyond l.lanes (suc j) h) in
      inl (port_at m 1, in_mark refl (ap (λ z. port_at (name (new_sink z)) 1) last), 1 ∷ [], mark_shape)
  sink_input j (Some x) h b = inl (condition_of x, in_other j x h refl refl, 1 ∷ [], condition_shape x (at_in l.lanes (suc (suc j)) x h))

  first_input : (o : Option Lane) → port_get l.lanes 1 ≡ o → FromIn (port_at (name new_branch) 2)
  first_input None h = absurd (none (at_beyond l.lanes zero h))
    where
      none : length l.lanes ≤ 0 → ⊥
      none b = omega (arith, some_lane)
  first_input (Some x) h = inl (condition_of x, in_first x h refl refl, 1 ∷ [], condition_shape x (at_in l.lanes 1 x h))

  new_inputs : (x : TagNode) (i : ℕ) (a : Shape) → In x (tag_nodes l) → port_get (ins (tag_kind l x)) i ≡ Some a → FromIn (port_at (name x) i)
  new_inputs new_in i a u e =
      let (x, k, s) = map_at (λ (x : Lane). x.shape) l.lanes i a e in inl (fresh_of l x, in_fresh i x k refl refl, x.shape, fresh_shape x (at_in l.lanes i x k))
  new_inputs new_next i a u e =
      let (x, k, s) = map_at (λ (x : Lane). x.shape) l.lanes i a e in inl (data_of x, in_data i x k refl refl, x.shape, data_shape x (at_in l.lanes i x k))
  new_inputs new_tagger (suc zero) a u e = inr (_, own_tagger refl refl)
  new_inputs new_tagger (suc (suc zero)) a u e = inr (_, own_ends refl refl)
  new_inputs new_merge (suc zero) a u e = inr (_, own_merge refl refl)
  new_inputs new_merge (suc (suc zero)) a u e = inr (_, own_turns refl refl)
  new_inputs new_tag (suc zero) a u e = inr (_, own_tag refl refl)
  new_inputs new_vars (suc zero) a u e = inr (_, own_vars refl refl)
  new_inputs new_retag (suc zero) a u e = inr (_, own_retag refl refl)
  new_inputs new_retag (suc (suc zero)) a u e = inr (_, own_next refl refl)
  new_inputs new_branch (suc zero) a u e = inr (_, own_branch refl refl)
  new_inputs new_branch (suc (suc zero)) a u e = first_input (port_get l.lanes 1) refl
  new_inputs new_out (suc zero) a u e = inr (_, own_out refl refl)
  new_inputs (new_sink zero) (suc zero) a u e = let s = sink_of zero u in absurd (none s.0)
    where
      none : 1 ≤ 0 → ⊥
      none h = omega arith
  new_inputs (new_sink (suc j)) (suc zero) a u e = let s = sink_of (suc j) u in sink_input j (port_get l.lanes (suc (suc j))) refl s.1
  new_inputs _ _ a u e = absurd (no_port a e)

  pub inputs : (p : Port) (a : Shape) → HasIn T p a → FromIn p
  inputs p a (k, e, i) =
      elim (sort g gone name (tag_nodes l) (tag_kind l) (tag_source g m l name) out names p.node k e) [
        | is_new x u is s ↦ subst FromIn (ap (λ n. port_at n p.port) (sym is)) (new_inputs x p.port a u (ap (λ z. port_get (ins z) p.port) (sym s) ∙ i))
        | is_old s e' ↦ inl (p, in_stays s refl, a, (k, e', i))
      ]

  new_outputs : (x : TagNode) (i : ℕ) (a : Shape) → In x (tag_nodes l) → port_get (outs (tag_kind l x)) i ≡ Some a → FromOut (port_at (name x) i)
  new_outputs new_vars i a u e =
      let (x, k, s) = map_at (λ (x : Lane). x.shape) l.lanes i a e in inl (port_at x.mux 1, out_var i x k refl refl, x.shape, (Mux x.shape, (at.tree.each_lane x (at_in l.lanes i x k)).is_mux, refl))
  new_outputs new_out i a u e =
      let (x, k, s) = map_at (λ (x : Lane). x.shape) l.lanes i a e in
      inl (port_at x.branch (exit_out l.goes_back), out_exit i x k refl refl, x.shape, (Branch x.shape, (at.tree.each_lane x (at_in l.lanes i x k)).is_branch, exit_port l.goes_back x.shape))
  new_outputs new_branch i a u e =
      elim (exit_or_back l.goes_back i TA a e) [
        | inl x ↦ inr (port_at (name new_tagger) 2, own_ends refl (ap (port_at (name new_branch)) x))
        | inr x ↦ inr (port_at (name new_merge) 2, own_turns refl (ap (port_at (name new_branch)) x))
      ]
  new_outputs new_in (suc zero) a u e = inr (_, own_tagger refl refl)
  new_outputs new_tagger (suc zero) a u e = inr (_, own_merge refl refl)
  new_outputs new_tagger (suc (suc zero)) a u e = inr (_, own_out refl refl)
  new_outputs new_merge (suc zero) a u e = inr (_, own_tag refl refl)
  new_outputs new_tag (suc zero) a u e = inr (_, own_retag refl refl)
  new_outputs new_tag (suc (suc zero)) a u e = inr (_, own_vars refl refl)
  new_outputs new_next (suc zero) a u e = inr (_, own_next refl refl)
  new_outputs new_retag (suc zero) a u e = inr (_, own_branch refl refl)
  new_outputs _ _ a u e = absurd (no_port a e)

  pub outputs : (q : Port) (a : Shape) → HasOut T q a → FromOut q
  outputs q a (k, e, i) =
      elim (sort g gone name (tag_nodes l) (tag_kind l) (tag_source g m l name) out names q.node k e) [
        | is_new x u is s ↦ subst FromOut (ap (λ n. port_at n q.port) (sym is)) (new_outputs x q.port a u (ap (λ z. port_get (outs z) q.port) (sym s) ∙ i))
        | is_old s e' ↦ inl (q, out_stays s refl, a, (k, e', i))
      ]

  -- what an output that stays, or for which another stands, feeds
  condition_goes : (j : ℕ) (x : Lane) → port_get l.lanes (suc j) ≡ Some x → (p : Port) × In' (condition_of x) p
  condition_goes zero x k = (_, in_first x k refl refl)
  condition_goes (suc j) x k = (_, in_other j x k refl refl)

  received : (p0 q0 : Port) → g.feeder p0 ≡ Some q0 → Receives g ty m l at p0 → (p : Port) × In' p0 p
  received p0 q0 f (by_mark e) = (_, in_mark e refl)
  received p0 q0 f (by_data x u e) = let (j, k) = in_at l.lanes x u in (_, in_data (suc j) x k e refl)
  received p0 q0 f (by_condition x u e) =
      let (j, k) = in_at l.lanes x u in
      let (p, i) = condition_goes j x k in
      (p, subst (λ z. In' z p) (sym e) i)
  received p0 q0 f (by_body b) = let w = ty.wires p0 q0 f in (p0, in_stays (w.to, w.is_to, body_stays p0.node b) refl)

  stays_goes : (p0 q0 : Port) → g.feeder p0 ≡ Some q0 → (In q0.node gone → ⊥) → (p : Port) × In' p0 p
  stays_goes p0 q0 f o =
      let w = ty.wires p0 q0 f in
      elim (in_or_out p0.node gone) [
        | inr s ↦ (p0, in_stays (w.to, w.is_to, s) refl)
        | inl i ↦ elim (inner_or_fresh g ty m l at p0 q0 f (gone_node p0.node i)) [
          | inl n ↦ received p0 q0 f (receives g ty m l at p0 q0 f (inr (stays_body q0.node o (inner_fed g ty m l at p0 q0 n f).node)))
          | inr (x, u, e) ↦ let (j, k) = in_at l.lanes x u in (_, in_fresh (suc j) x k e refl)
        ]
      ]

  pub out_goes : (p0 q0 q : Port) → Out' q0 q → g.feeder p0 ≡ Some q0 → (p : Port) × In' p0 p
  out_goes p0 q0 q (out_stays s e) f = stays_goes p0 q0 f (subst (λ (z : Port). In z.node gone → ⊥) (sym e) s.2)
  out_goes p0 q0 q (out_var j x k e e') f =
      received p0 q0 f (receives g ty m l at p0 q0 f (inl (x, at_in l.lanes j x k, ap (λ (z : Port). z.node) (sym e))))
  out_goes p0 q0 q (out_exit j x k e e') f =
      let w = ty.wires p0 q0 f in
      elim (in_or_out p0.node gone) [
        | inr s ↦ (p0, in_stays (w.to, w.is_to, s) refl)
        | inl i ↦ elim (inner_or_fresh g ty m l at p0 q0 f (gone_node p0.node i)) [
          | inl n ↦ absurd ((inner_fed g ty m l at p0 q0 n f).inward (x, at_in l.lanes j x k, e))
          | inr (y, u, s) ↦ let (i', k') = in_at l.lanes y u in (_, in_fresh (suc i') y k' s refl)
        ]
      ]
