-- The wires of a gathered graph.
use Rattle.std.proofs.Common.{◌≡◌, ◌≢◌, ◌⊎◌, inl, inr, ℕ, zero, suc, refl, sym, ap, subst, ◌∙◌, Bool, true, false, if◌then◌else◌, List, [], ◌∷◌, ◌++◌, Option, Some, None}
use Rattle.components.specs.Kind.{Shape, ins, outs}
use Rattle.components.specs.Name.{Name, Port, port_get}
use Rattle.components.specs.declared.kind.Kind.{Kind}
use Rattle.components.specs.declared.kind.Kind.TheVariants.{Join, Split, Mux, Branch, Init}
use Rattle.fun_expr.specs.Function.{Function}
use Rattle.circuits.specs.Circuit.{Circuit, Typed}
use Rattle.circuits.specs.Replacing.{In, In.head, In.tail}
use Rattle.circuits.proofs.Names.{name_cases}
use Rattle.circuits.proofs.Beside.{none_some}
use Rattle.std.proofs.lemmas.Option.{same_Some}
use Rattle.tagged_loop.specs.LoopFunction.{IsLoopFunction}
use Rattle.loop_laws.specs.Polarity.{back_out, exit_out, exit_bit, fresh_in, back_in}
use Rattle.loop_laws.specs.Reached.{port_at}
use Rattle.loop_laws.specs.Loop.{Lane, Loop, HasLane, HasBranch, LoopAt, NodeOf, NodeOf.is_mark, NodeOf.in_body, IsExit, IsFresh, shapes_of}
use Rattle.loop_laws.proofs.Closed.{Inner, inner_no_fresh, inner_fed, inner_or_fresh, exit_or_inner, inner_node, mark_fed}
use Rattle.loop_turns.proofs.Lists.{one_port, in_or_out, in_left, in_right}
use Rattle.loop_turns.specs.Rebuilt.{moved, has_name, NewNames}
use Rattle.loop_turns.specs.Lanes.{fed_lane, port_or, fresh_of, frame_of, tuple_shape}
use Rattle.loop_turns.specs.Gathered.{GatherNode, GatherNode.one_in, GatherNode.one_mux, GatherNode.one_pure, GatherNode.one_pair, GatherNode.one_cond, GatherNode.one_branch, GatherNode.one_out, gather_nodes, gather_kind, gather_out, gather_source, gathered_graph}
use Rattle.loop_turns.proofs.LoopLookups.{in_either, has_true, has_false, in_at, at_in, at_map, map_at, place_at, place_none}
use Rattle.loop_turns.proofs.LoopFrame.{frame_in_loop, mark_no_frame, mark_no_body, Third.third_mark, Third.third_frame, Third.third_body, third, node_frame, FrameNode.of_lane, FrameNode.of_branch, branches_unlike, mark_input, mux_not_branch, body_no_frame}
use Rattle.loop_turns.proofs.Rebuilding.{Stays, kind_new, kind_stays, source_new, source_stays, Sort.is_new, Sort.is_old, sort, Enters.to_new, Enters.to_old, enters}
use Rattle.loop_turns.proofs.Rewiring.{HasIn, HasOut, Was}
use Rattle.loop_turns.proofs.TaggedWires.{exit_port, back_port, fresh_port, no_port, in_unique, out_unique, exit_or_back}

back_in_port : (d : Bool) (a : Shape) → port_get ((1 ∷ []) ∷ a ∷ a ∷ []) (back_in d) ≡ Some a
back_in_port true a = refl
back_in_port false a = refl

-- each node is listed
pub every : (x : GatherNode) → In x gather_nodes
every one_in = head refl
every one_mux = tail (head refl)
every one_pure = tail (tail (head refl))
every one_pair = tail (tail (tail (head refl)))
every one_cond = tail (tail (tail (tail (head refl))))
every one_branch = tail (tail (tail (tail (tail (head refl)))))
every one_out = tail (tail (tail (tail (tail (tail (head refl))))))

-- the nodes that go
abbrev pub goes : Loop → List Name
goes l = frame_of l ++ l.body

-- an input of the gathered graph, and the one of g that it stands for
pub data InOf (g : Circuit) (m : Name) (l : Loop) (name : GatherNode → Name) (p0 p : Port) : Type 0 where
  in_stays : Stays g (goes l) p.node → p.node ≢ m → p0 ≡ p → InOf g m l name p0 p
  in_fresh : (j : ℕ) (x : Lane) → port_get l.lanes j ≡ Some x → p0 ≡ fresh_of l x → p ≡ port_at (name one_in) j → InOf g m l name p0 p

pub data OutOf (g : Circuit) (m : Name) (l : Loop) (name : GatherNode → Name) (q0 q : Port) : Type 0 where
  out_stays : Stays g (goes l) q.node → q.node ≢ m → q0 ≡ q → OutOf g m l name q0 q
  out_exit : (j : ℕ) (x : Lane) → port_get l.lanes j ≡ Some x → q0 ≡ port_at x.branch (exit_out l.goes_back) → q ≡ port_at (name one_out) j → OutOf g m l name q0 q

-- the wires of the new nodes and the mark
pub data Own (m : Name) (l : Loop) (name : GatherNode → Name) (p q : Port) : Type 0 where
  own_select : p ≡ port_at (name one_mux) 1 → q ≡ port_at m 1 → Own m l name p q
  own_in : p ≡ port_at (name one_mux) (fresh_in l.goes_back) → q ≡ port_at (name one_in) 1 → Own m l name p q
  own_back : p ≡ port_at (name one_mux) (back_in l.goes_back) → q ≡ port_at (name one_branch) (back_out l.goes_back) → Own m l name p q
  own_pure : p ≡ port_at (name one_pure) 1 → q ≡ port_at (name one_mux) 1 → Own m l name p q
  own_pair : p ≡ port_at (name one_pair) 1 → q ≡ port_at (name one_pure) 1 → Own m l name p q
  own_cond : p ≡ port_at (name one_cond) 1 → q ≡ port_at (name one_pair) 2 → Own m l name p q
  own_data : p ≡ port_at (name one_branch) 1 → q ≡ port_at (name one_pair) 1 → Own m l name p q
  own_decides : p ≡ port_at (name one_branch) 2 → q ≡ port_at (name one_cond) 1 → Own m l name p q
  own_mark : p ≡ port_at m 1 → q ≡ port_at (name one_cond) 2 → Own m l name p q
  own_out : p ≡ port_at (name one_out) 1 → q ≡ port_at (name one_branch) (exit_out l.goes_back) → Own m l name p q

module _ (g : Circuit) (ty : Typed g) (m : Name) (l : Loop) (at : LoopAt g m l) (f : Function) (body : IsLoopFunction (tuple_shape l) f) (name : GatherNode → Name) (names : NewNames g gather_nodes name) where
  abbrev T : Circuit
  T = gathered_graph g m l f name

  abbrev out : Port → Port
  out = gather_out l name

  abbrev In' : Port → Port → Type 0
  In' = InOf g m l name

  abbrev Out' : Port → Port → Type 0
  Out' = OutOf g m l name

  abbrev Own' : Port → Port → Type 0
  Own' = Own m l name

  pub kn : (x : GatherNode) → T.kind_at (name x) ≡ Some (gather_kind l f x)
  kn x = kind_new g (goes l) name gather_nodes (gather_kind l f) (gather_source g m l name) out names x (every x)

  pub ks : (n : Name) → Stays g (goes l) n → T.kind_at n ≡ g.kind_at n
  ks = kind_stays g (goes l) name gather_nodes (gather_kind l f) (gather_source g m l name) out names

  fn : (x : GatherNode) (i : ℕ) → T.feeder (port_at (name x) i) ≡ gather_source g m l name x i
  fn x i = source_new g (goes l) name gather_nodes (gather_kind l f) (gather_source g m l name) out names x i (every x)

  fs : (p : Port) → Stays g (goes l) p.node → T.feeder p ≡ moved out (g.feeder p)
  fs = source_stays g (goes l) name gather_nodes (gather_kind l f) (gather_source g m l name) out names

  -- the old nodes
  pub goes_node : (n : Name) → In n (goes l) → NodeOf m l n
  goes_node n i = elim (in_either n (frame_of l) l.body i) [ inl j ↦ frame_in_loop g ty m l at n j | inr b ↦ in_body b ]

  pub mark_stays : Stays g (goes l) m
  mark_stays =
      (Init (exit_bit l.goes_back) l.tags, at.mark.0, λ i. elim (in_either m (frame_of l) l.body i) [ inl j ↦ mark_no_frame g ty m l at m refl j | inr b ↦ mark_no_body g ty m l at m refl b ])

  pub stays_outside : (n : Name) → (In n (goes l) → ⊥) → n ≢ m → NodeOf m l n → ⊥
  stays_outside n o away i =
      elim (third g ty m l at n i) [
        | third_mark e ↦ away e
        | third_frame j ↦ o (in_left n (frame_of l) l.body j)
        | third_body b ↦ o (in_right n (frame_of l) l.body b)
      ]

  lane_goes : (x : Lane) → In x l.lanes → In x.mux (goes l)
  lane_goes x u = in_left x.mux (frame_of l) l.body (node_frame l x.mux (of_lane (x, u, refl)))

  branch_goes : (x : Lane) → In x l.lanes → In x.branch (goes l)
  branch_goes x u = in_left x.branch (frame_of l) l.body (node_frame l x.branch (of_branch (x, u, refl)))

  -- what stands for an output
  pub out_branch : (j i : ℕ) (x : Lane) → port_get l.lanes j ≡ Some x → out (port_at x.branch i) ≡ port_at (name one_out) j
  out_branch j i x e =
      ap (λ o. port_or o (name one_out) (if has_name (goes l) x.branch then port_at (name one_cond) 2 else port_at x.branch i))
      (place_at (λ (x : Lane). x.branch) l.lanes (branches_unlike g ty m l at) j x e)

  no_branch : (q : Port) → ((x : Lane) → In x l.lanes → x.branch ≢ q.node) → out q ≡ (if has_name (goes l) q.node then port_at (name one_cond) 2 else q)
  no_branch q away = ap (λ o. port_or o (name one_out) (if has_name (goes l) q.node then port_at (name one_cond) 2 else q)) (place_none (λ (x : Lane). x.branch) l.lanes q.node away)

  pub out_else : (q : Port) → (In q.node (goes l) → ⊥) → out q ≡ q
  out_else q o =
      no_branch q (λ x u e. o (subst (λ z. In z (goes l)) e (branch_goes x u)))
      ∙ ap (λ b. if b then port_at (name one_cond) 2 else q) (has_false (goes l) q.node o)

  out_gone : (q : Port) → ((x : Lane) → In x l.lanes → x.branch ≢ q.node) → In q.node (goes l) → out q ≡ port_at (name one_cond) 2
  out_gone q away i = no_branch q away ∙ ap (λ b. if b then port_at (name one_cond) 2 else q) (has_true (goes l) q.node i)

  out_of_exit : (q0 : Port) → IsExit l q0 → Out' q0 (out q0)
  out_of_exit q0 (x, u, e) =
      let (j, k) = in_at l.lanes x u in
      out_exit (suc j) x k e (ap out e ∙ out_branch (suc j) (exit_out l.goes_back) x k)

  -- no input that stands for another is an inner one
  in_no_inner : (p0 p : Port) → In' p0 p → Inner m l p0 → ⊥
  in_no_inner p0 p (in_stays s away e) i = stays_outside p.node s.2 away (subst (λ (z : Port). NodeOf m l z.node) e (inner_node m l p0 i))
  in_no_inner p0 p (in_fresh j x k e e') i = inner_no_fresh g ty m l at p0 i (x, at_in l.lanes j x k, e)

  out_total : (p0 p q0 : Port) → In' p0 p → g.feeder p0 ≡ Some q0 → Out' q0 (out q0)
  out_total p0 p q0 i h =
      let w = ty.wires p0 q0 h in
      elim (in_or_out q0.node (m ∷ goes l)) [
        | inl gn ↦ elim (exit_or_inner g ty m l at p0 q0 h (node_of q0.node gn)) [
          | inl x ↦ out_of_exit q0 x
          | inr n ↦ absurd (in_no_inner p0 p i n)
        ]
        | inr o ↦
            let e : out q0 ≡ q0 = out_else q0 (λ j. o (tail j)) in
            out_stays (subst (λ (z : Port). Stays g (goes l) z.node) (sym e) (w.from, w.is_from, λ j. o (tail j)))
            (subst (λ (z : Port). z.node ≢ m) (sym e) (λ s. o (head s))) (sym e)
      ]
    where
      node_of : (n : Name) → In n (m ∷ goes l) → NodeOf m l n
      node_of n (head e) = is_mark e
      node_of n (tail j) = goes_node n j

  -- each wire of the gathered graph was one of g or is new
  moved_wire : (p0 p q : Port) (o : Option Port) → In' p0 p → g.feeder p0 ≡ o → moved out o ≡ Some q → Was g In' Out' p q
  moved_wire p0 p q None i h e = absurd (no_port q e)
  moved_wire p0 p q (Some q0) i h e =
      record { target = p0; source = q0; into = i; out = subst (Out' q0) (same_Some (out q0) q e) (out_total p0 p q0 i h); wire = h }

  lane_wire : (j : ℕ) (p q : Port) (o : Option Lane) → port_get l.lanes j ≡ o → ((x : Lane) → port_get l.lanes j ≡ Some x → In' (fresh_of l x) p) → fed_lane g out o (fresh_of l) None ≡ Some q → Was g In' Out' p q
  lane_wire j p q None h i e = absurd (no_port q e)
  lane_wire j p q (Some x) h i e = moved_wire (fresh_of l x) p q (g.feeder (fresh_of l x)) (i x h) refl e

  abbrev Either : Port → Port → Type 0
  Either p q = Was g In' Out' p q ⊎ Own' p q

  two_own : (q : Port) → (d : Bool) → l.goes_back ≡ d → (if d then Some (port_at (name one_in) 1) else Some (port_at (name one_branch) 2)) ≡ Some q → Own' (port_at (name one_mux) 2) q
  two_own q true s e = own_in (ap (λ d. port_at (name one_mux) (fresh_in d)) (sym s)) (sym (same_Some _ q e))
  two_own q false s e = own_back (ap (λ d. port_at (name one_mux) (back_in d)) (sym s)) (sym (same_Some _ q e) ∙ ap (λ d. port_at (name one_branch) (back_out d)) (sym s))

  three_own : (q : Port) → (d : Bool) → l.goes_back ≡ d → (if d then Some (port_at (name one_branch) 1) else Some (port_at (name one_in) 1)) ≡ Some q → Own' (port_at (name one_mux) 3) q
  three_own q true s e = own_back (ap (λ d. port_at (name one_mux) (back_in d)) (sym s)) (sym (same_Some _ q e) ∙ ap (λ d. port_at (name one_branch) (back_out d)) (sym s))
  three_own q false s e = own_in (ap (λ d. port_at (name one_mux) (fresh_in d)) (sym s)) (sym (same_Some _ q e))

  new_wires : (x : GatherNode) (i : ℕ) (q : Port) → gather_source g m l name x i ≡ Some q → Either (port_at (name x) i) q
  new_wires one_in i q e = inl (lane_wire i (port_at (name one_in) i) q (port_get l.lanes i) refl (λ x k. in_fresh i x k refl refl) e)
  new_wires one_mux (suc zero) q e = inr (own_select refl (sym (same_Some _ q e)))
  new_wires one_mux (suc (suc zero)) q e = inr (two_own q l.goes_back refl e)
  new_wires one_mux (suc (suc (suc zero))) q e = inr (three_own q l.goes_back refl e)
  new_wires one_pure (suc zero) q e = inr (own_pure refl (sym (same_Some _ q e)))
  new_wires one_pair (suc zero) q e = inr (own_pair refl (sym (same_Some _ q e)))
  new_wires one_cond (suc zero) q e = inr (own_cond refl (sym (same_Some _ q e)))
  new_wires one_branch (suc zero) q e = inr (own_data refl (sym (same_Some _ q e)))
  new_wires one_branch (suc (suc zero)) q e = inr (own_decides refl (sym (same_Some _ q e)))
  new_wires one_out (suc zero) q e = inr (own_out refl (sym (same_Some _ q e)))
  new_wires _ _ q e = absurd (no_port q e)

  -- what fed the mark is now cond
  mark_out : (q0 : Port) → g.feeder (port_at m 1) ≡ Some q0 → out q0 ≡ port_at (name one_cond) 2
  mark_out q0 h =
      let i = mark_fed g ty m l at q0 h in
      elim i [
        | inl (x, u, e) ↦ out_gone q0 (λ y v s. mux_not (x, u, e) (y, v, s)) (subst (λ z. In z (goes l)) e (lane_goes x u))
        | inr b ↦ out_gone q0 (λ y v s. body_not b (y, v, s)) (in_right q0.node (frame_of l) l.body b)
      ]
    where
      mux_not : HasLane l q0.node → HasBranch l q0.node → ⊥
      mux_not (x, u, e) (y, v, s) = mux_not_branch g ty m l at x y u v (e ∙ sym s)

      body_not : In q0.node l.body → HasBranch l q0.node → ⊥
      body_not b x = body_no_frame g ty m l at q0.node b (node_frame l q0.node (of_branch x))

  stays_wire : (p q0 q : Port) → Stays g (goes l) p.node → g.feeder p ≡ Some q0 → q ≡ out q0 → Either p q
  stays_wire p q0 q s h e =
      elim (name_cases p.node m) [
        | inl is ↦
            let one : p.port ≡ 1 = mark_input g ty m l at p q0 h is.is in
            let same : p ≡ port_at m 1 = ap (λ n. port_at n p.port) is.is ∙ ap (port_at m) one in
            inr (own_mark same (e ∙ mark_out q0 (ap g.feeder (sym same) ∙ h)))
        | inr ne ↦ inl (record { target = p; source = q0; into = in_stays s ne.is_not refl; out = subst (Out' q0) (sym e) (out_total p p q0 (in_stays s ne.is_not refl) h); wire = h })
      ]

  pub old_wires : (p q : Port) → T.feeder p ≡ Some q → Either p q
  old_wires p q h =
      elim (enters g (goes l) name gather_nodes (gather_kind l f) (gather_source g m l name) out names ty p q h) [
        | to_new x u e s ↦ subst (λ z. Either z q) (sym e) (new_wires x p.port q s)
        | to_old q0 s k e ↦ stays_wire p q0 q s k e
      ]

  fed_new : (p0 p q0 : Port) → In' p0 p → g.feeder p0 ≡ Some q0 → T.feeder p ≡ Some (out q0)
  fed_new p0 p q0 (in_stays s away e) h = fs p s ∙ ap (moved out) (ap g.feeder (sym e) ∙ h)
  fed_new p0 p q0 (in_fresh j x k e e') h =
      ap T.feeder e' ∙ fn one_in j ∙ ap (λ o. fed_lane g out o (fresh_of l) None) k ∙ ap (moved out) (ap g.feeder (sym e) ∙ h)

  pub new_wire : (p0 p q0 : Port) → In' p0 p → g.feeder p0 ≡ Some q0 → (q : Port) × Out' q0 q × (T.feeder p ≡ Some q)
  new_wire p0 p q0 i h = (out q0, out_total p0 p q0 i h, fed_new p0 p q0 i h)

  fresh_fed : (d : Bool) → l.goes_back ≡ d → gather_source g m l name one_mux (fresh_in d) ≡ Some (port_at (name one_in) 1)
  fresh_fed true s = ap (λ d. if d then Some (port_at (name one_in) 1) else Some (port_at (name one_branch) 2)) s
  fresh_fed false s = ap (λ d. if d then Some (port_at (name one_branch) 1) else Some (port_at (name one_in) 1)) s

  back_fed : (d : Bool) → l.goes_back ≡ d → gather_source g m l name one_mux (back_in d) ≡ Some (port_at (name one_branch) (back_out d))
  back_fed true s = ap (λ d. if d then Some (port_at (name one_branch) 1) else Some (port_at (name one_in) 1)) s
  back_fed false s = ap (λ d. if d then Some (port_at (name one_in) 1) else Some (port_at (name one_branch) 2)) s

  mark_is_fed : (o : Option Port) → g.feeder (port_at m 1) ≡ o → T.feeder (port_at m 1) ≡ Some (port_at (name one_cond) 2)
  mark_is_fed None h =
      let (q, k) = ty.inputs (port_at m 1) (Init (exit_bit l.goes_back) l.tags) (1 ∷ []) at.mark.0 refl in
      absurd (none_some (g.feeder (port_at m 1)) q h k)
  mark_is_fed (Some q0) h = fs (port_at m 1) mark_stays ∙ ap (moved out) h ∙ ap Some (mark_out q0 h)

  pub own_wire : (p q : Port) → Own' p q → T.feeder p ≡ Some q
  own_wire p q (own_select a b) = ap T.feeder a ∙ fn one_mux 1 ∙ ap Some (sym b)
  own_wire p q (own_in a b) = ap T.feeder a ∙ fn one_mux (fresh_in l.goes_back) ∙ fresh_fed l.goes_back refl ∙ ap Some (sym b)
  own_wire p q (own_back a b) = ap T.feeder a ∙ fn one_mux (back_in l.goes_back) ∙ back_fed l.goes_back refl ∙ ap Some (sym b)
  own_wire p q (own_pure a b) = ap T.feeder a ∙ fn one_pure 1 ∙ ap Some (sym b)
  own_wire p q (own_pair a b) = ap T.feeder a ∙ fn one_pair 1 ∙ ap Some (sym b)
  own_wire p q (own_cond a b) = ap T.feeder a ∙ fn one_cond 1 ∙ ap Some (sym b)
  own_wire p q (own_data a b) = ap T.feeder a ∙ fn one_branch 1 ∙ ap Some (sym b)
  own_wire p q (own_decides a b) = ap T.feeder a ∙ fn one_branch 2 ∙ ap Some (sym b)
  own_wire p q (own_mark a b) = ap T.feeder a ∙ mark_is_fed (g.feeder (port_at m 1)) refl ∙ ap Some (sym b)
  own_wire p q (own_out a b) = ap T.feeder a ∙ fn one_out 1 ∙ ap Some (sym b)

  -- the shapes at the ports
  fresh_shape : (x : Lane) → In x l.lanes → HasIn g (fresh_of l x) x.shape
  fresh_shape x u = (Mux x.shape, (at.tree.each_lane x u).is_mux, fresh_port l.goes_back x.shape)

  exit_shape : (x : Lane) → In x l.lanes → HasOut g (port_at x.branch (exit_out l.goes_back)) x.shape
  exit_shape x u = (Branch x.shape, (at.tree.each_lane x u).is_branch, exit_port l.goes_back x.shape)

  shape_at : (j : ℕ) (x : Lane) → port_get l.lanes j ≡ Some x → port_get (shapes_of l) j ≡ Some x.shape
  shape_at j x e = at_map (λ (x : Lane). x.shape) l.lanes j x e

  pub in_shape : (p0 p : Port) (a : Shape) → In' p0 p → HasIn g p0 a → HasIn T p a
  in_shape p0 p a (in_stays s away e) h = let (k, e', i) = subst (λ z. HasIn g z a) e h in (k, ks p.node s ∙ e', i)
  in_shape p0 p a (in_fresh j x k e e') h =
      subst (HasIn T p) (in_unique g p0 x.shape a (subst (λ z. HasIn g z x.shape) (sym e) (fresh_shape x (at_in l.lanes j x k))) h)
      (subst (λ z. HasIn T z x.shape) (sym e') (Join (shapes_of l), kn one_in, shape_at j x k))

  pub out_shape : (q0 q : Port) (a : Shape) → Out' q0 q → HasOut g q0 a → HasOut T q a
  out_shape q0 q a (out_stays s away e) h = let (k, e', i) = subst (λ z. HasOut g z a) e h in (k, ks q.node s ∙ e', i)
  out_shape q0 q a (out_exit j x k e e') h =
      subst (HasOut T q) (out_unique g q0 x.shape a (subst (λ z. HasOut g z x.shape) (sym e) (exit_shape x (at_in l.lanes j x k))) h)
      (subst (λ z. HasOut T z x.shape) (sym e') (Split (shapes_of l), kn one_out, shape_at j x k))

  own_shapes : (p q p' q' : Port) (a : Shape) → p ≡ p' → q ≡ q' → HasIn T p' a → HasOut T q' a → (b : Shape) × HasIn T p b × HasOut T q b
  own_shapes p q p' q' a e k i o = (a, subst (λ z. HasIn T z a) (sym e) i, subst (λ z. HasOut T z a) (sym k) o)

  pub mark_kind_now : T.kind_at m ≡ Some (Init (exit_bit l.goes_back) l.tags)
  mark_kind_now = ks m mark_stays ∙ at.mark.0

  pub own_shape : (p q : Port) → Own' p q → (a : Shape) × HasIn T p a × HasOut T q a
  own_shape p q (own_select a b) = own_shapes p q _ _ (1 ∷ []) a b (_, kn one_mux, refl) (_, mark_kind_now, refl)
  own_shape p q (own_in a b) = own_shapes p q _ _ (tuple_shape l) a b (_, kn one_mux, fresh_port l.goes_back (tuple_shape l)) (_, kn one_in, refl)
  own_shape p q (own_back a b) = own_shapes p q _ _ (tuple_shape l) a b (_, kn one_mux, back_in_port l.goes_back (tuple_shape l)) (_, kn one_branch, back_port l.goes_back (tuple_shape l))
  own_shape p q (own_pure a b) = own_shapes p q _ _ (tuple_shape l) a b (_, kn one_pure, ap Some body.input) (_, kn one_mux, refl)
  own_shape p q (own_pair a b) = own_shapes p q _ _ (tuple_shape l ++ 1 ∷ []) a b (_, kn one_pair, refl) (_, kn one_pure, refl)
  own_shape p q (own_cond a b) = own_shapes p q _ _ (1 ∷ []) a b (_, kn one_cond, refl) (_, kn one_pair, refl)
  own_shape p q (own_data a b) = own_shapes p q _ _ (tuple_shape l) a b (_, kn one_branch, refl) (_, kn one_pair, refl)
  own_shape p q (own_decides a b) = own_shapes p q _ _ (1 ∷ []) a b (_, kn one_branch, refl) (_, kn one_cond, refl)
  own_shape p q (own_mark a b) = own_shapes p q _ _ (1 ∷ []) a b (_, mark_kind_now, refl) (_, kn one_cond, refl)
  own_shape p q (own_out a b) = own_shapes p q _ _ (tuple_shape l) a b (_, kn one_out, refl) (_, kn one_branch, exit_port l.goes_back (tuple_shape l))

  -- each input and each output stands for one of g or is new
  abbrev FromIn : Port → Type 0
  FromIn p = ((p0 : Port) × In' p0 p × (b : Shape) × HasIn g p0 b) ⊎ ((q : Port) × Own' p q)

  abbrev FromOut : Port → Type 0
  FromOut q = ((q0 : Port) × Out' q0 q × (b : Shape) × HasOut g q0 b) ⊎ ((p : Port) × Own' p q)

  mux_two : (d : Bool) → l.goes_back ≡ d → (q : Port) × Own' (port_at (name one_mux) 2) q
  mux_two true s = (_, own_in (ap (λ d. port_at (name one_mux) (fresh_in d)) (sym s)) refl)
  mux_two false s = (_, own_back (ap (λ d. port_at (name one_mux) (back_in d)) (sym s)) refl)

  mux_three : (d : Bool) → l.goes_back ≡ d → (q : Port) × Own' (port_at (name one_mux) 3) q
  mux_three true s = (_, own_back (ap (λ d. port_at (name one_mux) (back_in d)) (sym s)) refl)
  mux_three false s = (_, own_in (ap (λ d. port_at (name one_mux) (fresh_in d)) (sym s)) refl)

  new_inputs : (x : GatherNode) (i : ℕ) (a : Shape) → port_get (ins (gather_kind l f x)) i ≡ Some a → FromIn (port_at (name x) i)
  new_inputs one_in i a e =
      let (x, k, s) = map_at (λ (x : Lane). x.shape) l.lanes i a e in inl (fresh_of l x, in_fresh i x k refl refl, x.shape, fresh_shape x (at_in l.lanes i x k))
  new_inputs one_mux (suc zero) a e = inr (_, own_select refl refl)
  new_inputs one_mux (suc (suc zero)) a e = inr (mux_two l.goes_back refl)
  new_inputs one_mux (suc (suc (suc zero))) a e = inr (mux_three l.goes_back refl)
  new_inputs one_pure (suc zero) a e = inr (_, own_pure refl refl)
  new_inputs one_pair (suc zero) a e = inr (_, own_pair refl refl)
  new_inputs one_cond (suc zero) a e = inr (_, own_cond refl refl)
  new_inputs one_branch (suc zero) a e = inr (_, own_data refl refl)
  new_inputs one_branch (suc (suc zero)) a e = inr (_, own_decides refl refl)
  new_inputs one_out (suc zero) a e = inr (_, own_out refl refl)
  new_inputs _ _ a e = absurd (no_port a e)

  old_input : (p : Port) (a : Shape) (k : Kind) → Stays g (goes l) p.node → g.kind_at p.node ≡ Some k → port_get (ins k) p.port ≡ Some a → FromIn p
  old_input p a k s e i =
      elim (name_cases p.node m) [
        | inl is ↦
            let (q, h) = ty.inputs p k a e i in
            let one : p.port ≡ 1 = mark_input g ty m l at p q h is.is in
            inr (_, own_mark (ap (λ n. port_at n p.port) is.is ∙ ap (port_at m) one) refl)
        | inr ne ↦ inl (p, in_stays s ne.is_not refl, a, (k, e, i))
      ]

  pub inputs : (p : Port) (a : Shape) → HasIn T p a → FromIn p
  inputs p a (k, e, i) =
      elim (sort g (goes l) name gather_nodes (gather_kind l f) (gather_source g m l name) out names p.node k e) [
        | is_new x u is s ↦ subst FromIn (ap (λ n. port_at n p.port) (sym is)) (new_inputs x p.port a (ap (λ z. port_get (ins z) p.port) (sym s) ∙ i))
        | is_old s e' ↦ old_input p a k s e' i
      ]

  new_outputs : (x : GatherNode) (i : ℕ) (a : Shape) → port_get (outs (gather_kind l f x)) i ≡ Some a → FromOut (port_at (name x) i)
  new_outputs one_out i a e =
      let (x, k, s) = map_at (λ (x : Lane). x.shape) l.lanes i a e in
      inl (port_at x.branch (exit_out l.goes_back), out_exit i x k refl refl, x.shape, exit_shape x (at_in l.lanes i x k))
  new_outputs one_branch i a e =
      elim (exit_or_back l.goes_back i (tuple_shape l) a e) [
        | inl x ↦ inr (port_at (name one_out) 1, own_out refl (ap (port_at (name one_branch)) x))
        | inr x ↦ inr (port_at (name one_mux) (back_in l.goes_back), own_back refl (ap (port_at (name one_branch)) x))
      ]
  new_outputs one_in (suc zero) a e = inr (_, own_in refl refl)
  new_outputs one_mux (suc zero) a e = inr (_, own_pure refl refl)
  new_outputs one_pure (suc zero) a e = inr (_, own_pair refl refl)
  new_outputs one_pair (suc zero) a e = inr (_, own_data refl refl)
  new_outputs one_pair (suc (suc zero)) a e = inr (_, own_cond refl refl)
  new_outputs one_cond (suc zero) a e = inr (_, own_decides refl refl)
  new_outputs one_cond (suc (suc zero)) a e = inr (_, own_mark refl refl)
  new_outputs _ _ a e = absurd (no_port a e)

  old_output : (q : Port) (a : Shape) (k : Kind) → Stays g (goes l) q.node → g.kind_at q.node ≡ Some k → port_get (outs k) q.port ≡ Some a → FromOut q
  old_output q a k s e i =
      elim (name_cases q.node m) [
        | inl is ↦
            let kind : k ≡ Init (exit_bit l.goes_back) l.tags = same_Some k _ (sym e ∙ ap g.kind_at is.is ∙ at.mark.0) in
            let one : q.port ≡ 1 = one_port (1 ∷ []) q.port a (ap (λ z. port_get (outs z) q.port) (sym kind) ∙ i) in
            inr (_, own_select refl (ap (λ n. port_at n q.port) is.is ∙ ap (port_at m) one))
        | inr ne ↦ inl (q, out_stays s ne.is_not refl, a, (k, e, i))
      ]

  pub outputs : (q : Port) (a : Shape) → HasOut T q a → FromOut q
  outputs q a (k, e, i) =
      elim (sort g (goes l) name gather_nodes (gather_kind l f) (gather_source g m l name) out names q.node k e) [
        | is_new x u is s ↦ subst FromOut (ap (λ n. port_at n q.port) (sym is)) (new_outputs x q.port a (ap (λ z. port_get (outs z) q.port) (sym s) ∙ i))
        | is_old s e' ↦ old_output q a k s e' i
      ]

  fresh_input : (p0 q0 : Port) → IsFresh l p0 → (p : Port) × In' p0 p
  fresh_input p0 q0 (x, u, e) = let (j, k) = in_at l.lanes x u in (_, in_fresh (suc j) x k e refl)

  -- what feeds from outside, or from an exit, feeds a fresh input or stays
  goes_in : (p0 q0 : Port) → g.feeder p0 ≡ Some q0 → (Inner m l p0 → ⊥) → (p : Port) × In' p0 p
  goes_in p0 q0 h inner =
      let w = ty.wires p0 q0 h in
      elim (in_or_out p0.node (m ∷ goes l)) [
        | inr o ↦ (p0, in_stays (w.to, w.is_to, λ j. o (tail j)) (λ e. o (head e)) refl)
        | inl i ↦ elim (inner_or_fresh g ty m l at p0 q0 h (node_of p0.node i)) [ inl n ↦ absurd (inner n) | inr x ↦ fresh_input p0 q0 x ]
      ]
    where
      node_of : (n : Name) → In n (m ∷ goes l) → NodeOf m l n
      node_of n (head e) = is_mark e
      node_of n (tail j) = goes_node n j

  pub out_goes : (p0 q0 q : Port) → Out' q0 q → g.feeder p0 ≡ Some q0 → (p : Port) × In' p0 p
  out_goes p0 q0 q (out_stays s away e) h =
      goes_in p0 q0 h (λ n. stays_outside q.node s.2 away (subst (λ (z : Port). NodeOf m l z.node) e (inner_fed g ty m l at p0 q0 n h).node))
  out_goes p0 q0 q (out_exit j x k e e') h =
      goes_in p0 q0 h (λ n. (inner_fed g ty m l at p0 q0 n h).inward (x, at_in l.lanes j x k, e))
