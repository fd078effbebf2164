-- A tagged graph is a graph with one loop rebuilt.
use Rattle.std.proofs.Common.{◌≡◌, ◌≢◌, ◌⊎◌, inl, inr, ℕ, zero, suc, refl, sym, ap, subst, ◌∙◌, Bool, true, false, bytes_eq, if◌then◌else◌, List, ◌∷◌, length, Option, Some, None, arith}
use Rattle.components.specs.Kind.{KindOk}
use Rattle.components.specs.Name.{Name, Port, port_get}
use Rattle.components.specs.declared.kind.Kind.{Kind}
use Rattle.components.specs.declared.kind.Kind.TheVariants.{Init}
use Rattle.circuits.specs.Circuit.{Circuit, Typed}
use Rattle.circuits.specs.Replacing.{In, In.head}
use Rattle.components.specs.Orders.{same_bytes, other_bytes}
use Rattle.circuits.proofs.Beside.{none_some}
use Rattle.std.proofs.lemmas.Option.{same_Some}
use Rattle.loop_laws.specs.Polarity.{back_out, exit_out, IsMark}
use Rattle.loop_laws.specs.Reached.{port_at}
use Rattle.loop_laws.specs.Loop.{Lane, Loop, LoopAt, NodeOf, NodeOf.is_mark, NodeOf.lane, NodeOf.branch, NodeOf.in_body}
use Rattle.loop_turns.proofs.Lists.{in_or_out}
use Rattle.loop_turns.specs.Rebuilt.{NewNames}
use Rattle.loop_turns.specs.Lanes.{port_or, lane_place, frame_of}
use Rattle.loop_turns.specs.Tagged.{TagNode, TagNode.new_in, TagNode.new_tagger, TagNode.new_merge, TagNode.new_tag, TagNode.new_vars, TagNode.new_next, TagNode.new_retag, TagNode.new_branch, TagNode.new_out, TagNode.new_sink, tag_nodes, tag_kind, tag_out, tag_source, tagged_graph}
use Rattle.loop_turns.proofs.LoopLookups.{at_in, at_within, place_at, place_none}
use Rattle.loop_turns.proofs.LoopFrame.{muxes_unlike, branches_unlike, mux_not_branch, mux_not_mark, branch_not_mark}
use Rattle.loop_turns.proofs.LoopShapes.{bit_is_shape, tuple_is_shape, lanes_are_parts, tags_few, tagged_is_shape, tag_parts, two}
use Rattle.loop_turns.proofs.Rebuilding.{Stays, Sort, Sort.is_new, Sort.is_old, sort, names_short}
use Rattle.loop_turns.proofs.Rewiring.{Outside, Rewires}
use Rattle.loop_turns.proofs.TaggedWires.{InOf, InOf.in_stays, InOf.in_fresh, InOf.in_data, InOf.in_first, InOf.in_other, InOf.in_mark, OutOf, OutOf.out_stays, OutOf.out_var, OutOf.out_exit, Own, Own.own_tagger, Own.own_ends, Own.own_merge, Own.own_turns, Own.own_tag, Own.own_vars, Own.own_retag, Own.own_next, Own.own_branch, Own.own_out, out_mux, out_branch, out_else, gone_node, stays_body, lane_gone, branch_gone, ks, old_wires, new_wire, own_wire, in_shape, out_shape, own_shape, inputs, outputs, out_goes, IsFixed, fixed_in, m_sink, m_last}

-- where a new wire leads, by its source
abbrev goes_to : (TagNode → Name) → Bool → TagNode → ℕ → Port
goes_to name d new_in i = port_at (name new_tagger) 1
goes_to name d new_tagger (suc zero) = port_at (name new_merge) 1
goes_to name d new_tagger i = port_at (name new_out) 1
goes_to name d new_merge i = port_at (name new_tag) 1
goes_to name d new_tag (suc zero) = port_at (name new_retag) 1
goes_to name d new_tag i = port_at (name new_vars) 1
goes_to name d new_next i = port_at (name new_retag) 2
goes_to name d new_retag i = port_at (name new_branch) 1
goes_to name true new_branch (suc zero) = port_at (name new_merge) 2
goes_to name true new_branch i = port_at (name new_tagger) 2
goes_to name false new_branch (suc zero) = port_at (name new_tagger) 2
goes_to name false new_branch i = port_at (name new_merge) 2
goes_to name d x i = port_at (name x) i

abbrev IsRing : TagNode → Type 0
IsRing new_vars = ⊥
IsRing new_out = ⊥
IsRing (new_sink j) = ⊥
IsRing _ = Unit {0}

ring_in : (l : Loop) (x : TagNode) → IsRing x → In x (tag_nodes l)
ring_in l new_vars h = absurd h
ring_in l new_out h = absurd h
ring_in l (new_sink j) h = absurd h
ring_in l x h = fixed_in l x tt

abbrev IsVars : TagNode → Type 0
IsVars new_vars = Unit {0}
IsVars _ = ⊥

record OwnSource (l : Loop) (name : TagNode → Name) (p q : Port) : Type 0 where
  node : TagNode
  port : ℕ
  is : q ≡ port_at (name node) port
  goes : p ≡ goes_to name l.goes_back node port
  ring : IsRing node

exit_goes : (name : TagNode → Name) (d : Bool) → port_at (name new_tagger) 2 ≡ goes_to name d new_branch (exit_out d)
exit_goes name true = refl
exit_goes name false = refl

back_goes : (name : TagNode → Name) (d : Bool) → port_at (name new_merge) 2 ≡ goes_to name d new_branch (back_out d)
back_goes name true = refl
back_goes name false = refl

own_source : (l : Loop) (name : TagNode → Name) (p q : Port) → Own l name p q → OwnSource l name p q
own_source l name p q (own_tagger a b) = record { node = new_in; port = 1; is = b; goes = a; ring = tt }
own_source l name p q (own_ends a b) = record { node = new_branch; port = exit_out l.goes_back; is = b; goes = a ∙ exit_goes name l.goes_back; ring = tt }
own_source l name p q (own_merge a b) = record { node = new_tagger; port = 1; is = b; goes = a; ring = tt }
own_source l name p q (own_turns a b) = record { node = new_branch; port = back_out l.goes_back; is = b; goes = a ∙ back_goes name l.goes_back; ring = tt }
own_source l name p q (own_tag a b) = record { node = new_merge; port = 1; is = b; goes = a; ring = tt }
own_source l name p q (own_vars a b) = record { node = new_tag; port = 2; is = b; goes = a; ring = tt }
own_source l name p q (own_retag a b) = record { node = new_tag; port = 1; is = b; goes = a; ring = tt }
own_source l name p q (own_next a b) = record { node = new_next; port = 1; is = b; goes = a; ring = tt }
own_source l name p q (own_branch a b) = record { node = new_retag; port = 1; is = b; goes = a; ring = tt }
own_source l name p q (own_out a b) = record { node = new_tagger; port = 2; is = b; goes = a; ring = tt }

own_target : (l : Loop) (name : TagNode → Name) (p q : Port) → Own l name p q → (x : TagNode) × IsFixed x × (p.node ≡ name x)
own_target l name p q (own_tagger a b) = (new_tagger, tt, ap (λ (z : Port). z.node) a)
own_target l name p q (own_ends a b) = (new_tagger, tt, ap (λ (z : Port). z.node) a)
own_target l name p q (own_merge a b) = (new_merge, tt, ap (λ (z : Port). z.node) a)
own_target l name p q (own_turns a b) = (new_merge, tt, ap (λ (z : Port). z.node) a)
own_target l name p q (own_tag a b) = (new_tag, tt, ap (λ (z : Port). z.node) a)
own_target l name p q (own_vars a b) = (new_vars, tt, ap (λ (z : Port). z.node) a)
own_target l name p q (own_retag a b) = (new_retag, tt, ap (λ (z : Port). z.node) a)
own_target l name p q (own_next a b) = (new_retag, tt, ap (λ (z : Port). z.node) a)
own_target l name p q (own_branch a b) = (new_branch, tt, ap (λ (z : Port). z.node) a)
own_target l name p q (own_out a b) = (new_out, tt, ap (λ (z : Port). z.node) a)

-- where an input of g is found in the tagged graph
abbrev branch_image : (TagNode → Name) → ℕ → ℕ → Port
branch_image name j (suc zero) = port_at (name new_next) j
branch_image name (suc zero) i = port_at (name new_branch) 2
branch_image name (suc (suc j)) i = port_at (name (new_sink (suc j))) 1
branch_image name j i = port_at (name new_next) j

abbrev branch_or : (TagNode → Name) → Option ℕ → ℕ → Port → Port
branch_or name None i p = p
branch_or name (Some j) i p = branch_image name j i

abbrev image : Name → Loop → (TagNode → Name) → Port → Port
image m l name p =
    port_or (lane_place (λ (x : Lane). x.mux) l.lanes p.node) (name new_in)
    (branch_or name (lane_place (λ (x : Lane). x.branch) l.lanes p.node) p.port
    (if bytes_eq p.node m then port_at (name (new_sink (length l.lanes))) 1 else p))

module _ (g : Circuit) (ty : Typed g) (m : Name) (l : Loop) (at : LoopAt g m l) (name : TagNode → Name) (names : NewNames g (tag_nodes l) name) where
  abbrev gone : List Name
  gone = m ∷ frame_of l

  abbrev T : Circuit
  T = tagged_graph g m l name

  abbrev In' : Port → Port → Type 0
  In' = InOf g m l name

  abbrev Out' : Port → Port → Type 0
  Out' = OutOf g m l name

  mux_place : (j : ℕ) (x : Lane) → port_get l.lanes j ≡ Some x → lane_place (λ (x : Lane). x.mux) l.lanes x.mux ≡ Some j
  mux_place = place_at (λ (x : Lane). x.mux) l.lanes (muxes_unlike g ty m l at)

  branch_place : (j : ℕ) (x : Lane) → port_get l.lanes j ≡ Some x → lane_place (λ (x : Lane). x.branch) l.lanes x.branch ≡ Some j
  branch_place = place_at (λ (x : Lane). x.branch) l.lanes (branches_unlike g ty m l at)

  image_mux : (j i : ℕ) (x : Lane) → port_get l.lanes j ≡ Some x → image m l name (port_at x.mux i) ≡ port_at (name new_in) j
  image_mux j i x k =
      ap (λ o. port_or o (name new_in) (branch_or name (lane_place (λ (x : Lane). x.branch) l.lanes x.mux) i (if bytes_eq x.mux m then port_at (name (new_sink (length l.lanes))) 1 else port_at x.mux i)))
      (mux_place j x k)

  image_branch : (j i : ℕ) (x : Lane) → port_get l.lanes j ≡ Some x → image m l name (port_at x.branch i) ≡ branch_image name j i
  image_branch j i x k =
      ap (λ o. port_or o (name new_in) (branch_or name (lane_place (λ (x : Lane). x.branch) l.lanes x.branch) i (if bytes_eq x.branch m then port_at (name (new_sink (length l.lanes))) 1 else port_at x.branch i)))
      (place_none (λ (x : Lane). x.mux) l.lanes x.branch (λ y v. mux_not_branch g ty m l at y x v (at_in l.lanes j x k)))
      ∙ ap (λ o. branch_or name o i (if bytes_eq x.branch m then port_at (name (new_sink (length l.lanes))) 1 else port_at x.branch i)) (branch_place j x k)

  image_away : (p : Port) → ((x : Lane) → In x l.lanes → x.mux ≢ p.node) → ((x : Lane) → In x l.lanes → x.branch ≢ p.node) → image m l name p ≡ (if bytes_eq p.node m then port_at (name (new_sink (length l.lanes))) 1 else p)
  image_away p a b =
      ap (λ o. port_or o (name new_in) (branch_or name (lane_place (λ (x : Lane). x.branch) l.lanes p.node) p.port (if bytes_eq p.node m then port_at (name (new_sink (length l.lanes))) 1 else p)))
      (place_none (λ (x : Lane). x.mux) l.lanes p.node a)
      ∙ ap (λ o. branch_or name o p.port (if bytes_eq p.node m then port_at (name (new_sink (length l.lanes))) 1 else p)) (place_none (λ (x : Lane). x.branch) l.lanes p.node b)

  image_stays : (p : Port) → (In p.node gone → ⊥) → image m l name p ≡ p
  image_stays p o =
      image_away p (λ x u e. o (subst (λ z. In z gone) e (lane_gone g ty m l at name names x u))) (λ x u e. o (subst (λ z. In z gone) e (branch_gone g ty m l at name names x u)))
      ∙ ap (λ b. if b then port_at (name (new_sink (length l.lanes))) 1 else p) (other_bytes p.node m (λ e. o (head e)))

  image_mark : (i : ℕ) → image m l name (port_at m i) ≡ port_at (name (new_sink (length l.lanes))) 1
  image_mark i =
      image_away (port_at m i) (λ x u. mux_not_mark g ty m l at x u) (λ x u. branch_not_mark g ty m l at x u)
      ∙ ap (λ b. if b then port_at (name (new_sink (length l.lanes))) 1 else port_at m i) (same_bytes m m refl)

  in_image : (p0 p : Port) → In' p0 p → p ≡ image m l name p0
  in_image p0 p (in_stays s e) = sym (image_stays p s.2) ∙ ap (image m l name) (sym e)
  in_image p0 p (in_fresh j x k e e') = e' ∙ sym (image_mux j _ x k) ∙ ap (image m l name) (sym e)
  in_image p0 p (in_data j x k e e') = e' ∙ data_image j ∙ sym (image_branch j 1 x k) ∙ ap (image m l name) (sym e)
    where
      data_image : (j : ℕ) → port_at (name new_next) j ≡ branch_image name j 1
      data_image j = refl
  in_image p0 p (in_first x k e e') = e' ∙ sym (image_branch 1 2 x k) ∙ ap (image m l name) (sym e)
  in_image p0 p (in_other j x k e e') = e' ∙ sym (image_branch (suc (suc j)) 2 x k) ∙ ap (image m l name) (sym e)
  in_image p0 p (in_mark e e') = e' ∙ sym (image_mark 1) ∙ ap (image m l name) (sym e)

  in_one : (p0 p r : Port) → In' p0 p → In' p0 r → p ≡ r
  in_one p0 p r i j = in_image p0 p i ∙ sym (in_image p0 r j)

  out_is : (q0 q : Port) → Out' q0 q → q ≡ tag_out l name q0
  out_is q0 q (out_stays s e) = sym (out_else g ty m l at name names q s.2) ∙ ap (tag_out l name) (sym e)
  out_is q0 q (out_var j x k e e') = e' ∙ sym (out_mux g ty m l at name names j 1 x k) ∙ ap (tag_out l name) (sym e)
  out_is q0 q (out_exit j x k e e') = e' ∙ sym (out_branch g ty m l at name names j _ x k) ∙ ap (tag_out l name) (sym e)

  out_one : (q0 q r : Port) → Out' q0 q → Out' q0 r → q ≡ r
  out_one q0 q r i j = out_is q0 q i ∙ sym (out_is q0 r j)

  -- a new name is not an old one
  new_not_old : (x : TagNode) → In x (tag_nodes l) → (n : Name) (k : Kind) → g.kind_at n ≡ Some k → n ≡ name x → ⊥
  new_not_old x u n k e is = none_some (g.kind_at n) k (ap g.kind_at is ∙ names.fresh x u) e

  same_lane_at : (j j' : ℕ) (x x' : Lane) → port_get l.lanes j ≡ Some x → port_get l.lanes j' ≡ Some x' → j ≡ j' → x ≡ x'
  same_lane_at j j' x x' k k' e = same_Some x x' (sym k ∙ ap (port_get l.lanes) e ∙ k')

  out_from : (q0 q1 q : Port) → Out' q0 q → Out' q1 q → q0 ≡ q1
  out_from q0 q1 q (out_stays s e) (out_stays t f) = e ∙ sym f
  out_from q0 q1 q (out_stays s e) (out_var j x k f f') = absurd (new_not_old new_vars (fixed_in l new_vars tt) q.node s.0 s.1 (ap (λ (z : Port). z.node) f'))
  out_from q0 q1 q (out_stays s e) (out_exit j x k f f') = absurd (new_not_old new_out (fixed_in l new_out tt) q.node s.0 s.1 (ap (λ (z : Port). z.node) f'))
  out_from q0 q1 q (out_var j x k e e') (out_stays t f) = absurd (new_not_old new_vars (fixed_in l new_vars tt) q.node t.0 t.1 (ap (λ (z : Port). z.node) e'))
  out_from q0 q1 q (out_exit j x k e e') (out_stays t f) = absurd (new_not_old new_out (fixed_in l new_out tt) q.node t.0 t.1 (ap (λ (z : Port). z.node) e'))
  out_from q0 q1 q (out_var j x k e e') (out_var j' x' k' f f') =
      e ∙ ap (λ (z : Lane). port_at z.mux 1) (same_lane_at j j' x x' k k' (ap (λ (z : Port). z.port) (sym e' ∙ f'))) ∙ sym f
  out_from q0 q1 q (out_exit j x k e e') (out_exit j' x' k' f f') =
      e ∙ ap (λ (z : Lane). port_at z.branch (exit_out l.goes_back)) (same_lane_at j j' x x' k k' (ap (λ (z : Port). z.port) (sym e' ∙ f'))) ∙ sym f
  out_from q0 q1 q (out_var j x k e e') (out_exit j' x' k' f f') =
      let z : new_vars ≡ new_out = names.apart new_vars new_out (fixed_in l new_vars tt) (fixed_in l new_out tt) (ap (λ (z : Port). z.node) (sym e' ∙ f')) in absurd (subst IsVars z tt)
  out_from q0 q1 q (out_exit j x k e e') (out_var j' x' k' f f') =
      let z : new_vars ≡ new_out = names.apart new_vars new_out (fixed_in l new_vars tt) (fixed_in l new_out tt) (ap (λ (z : Port). z.node) (sym f' ∙ e')) in absurd (subst IsVars z tt)

  own_one : (p r q : Port) → Own l name p q → Own l name r q → p ≡ r
  own_one p r q o u =
      let a = own_source l name p q o in
      let b = own_source l name r q u in
      let same : port_at (name a.node) a.port ≡ port_at (name b.node) b.port = sym a.is ∙ b.is in
      let e : a.node ≡ b.node = names.apart a.node b.node (ring_in l a.node a.ring) (ring_in l b.node b.ring) (ap (λ (z : Port). z.node) same) in
      let i : a.port ≡ b.port = ap (λ (z : Port). z.port) same in
      a.goes ∙ ap (λ x. goes_to name l.goes_back x a.port) e ∙ ap (goes_to name l.goes_back b.node) i ∙ sym b.goes

  out_no_own : (q0 p q : Port) → Out' q0 q → Own l name p q → ⊥
  out_no_own q0 p q (out_stays s e) o = let a = own_source l name p q o in new_not_old a.node (ring_in l a.node a.ring) q.node s.0 s.1 (ap (λ (z : Port). z.node) a.is)
  out_no_own q0 p q (out_var j x k e e') o =
      let a = own_source l name p q o in
      subst IsRing (names.apart a.node new_vars (ring_in l a.node a.ring) (fixed_in l new_vars tt) (ap (λ (z : Port). z.node) (sym a.is ∙ e'))) a.ring
  out_no_own q0 p q (out_exit j x k e e') o =
      let a = own_source l name p q o in
      subst IsRing (names.apart a.node new_out (ring_in l a.node a.ring) (fixed_in l new_out tt) (ap (λ (z : Port). z.node) (sym a.is ∙ e'))) a.ring

  -- kinds
  sorted : (n : Name) (k : Kind) → T.kind_at n ≡ Some k → Sort g gone name (tag_nodes l) (tag_kind l) (tag_source g m l name) (tag_out l name) names n k
  sorted = sort g gone name (tag_nodes l) (tag_kind l) (tag_source g m l name) (tag_out l name) names

  new_kind_ok : (x : TagNode) → KindOk (tag_kind l x)
  new_kind_ok new_in = lanes_are_parts g ty m l at
  new_kind_ok new_tagger = (tuple_is_shape g ty m l at, tagged_is_shape g ty m l at, at.mark.1, tags_few g ty m l at)
  new_kind_ok new_merge = (tagged_is_shape g ty m l at, two g ty m l at)
  new_kind_ok new_tag = tag_parts g ty m l at
  new_kind_ok new_vars = lanes_are_parts g ty m l at
  new_kind_ok new_next = lanes_are_parts g ty m l at
  new_kind_ok new_retag = tag_parts g ty m l at
  new_kind_ok new_branch = tagged_is_shape g ty m l at
  new_kind_ok new_out = lanes_are_parts g ty m l at
  new_kind_ok (new_sink j) = bit_is_shape

  kinds : (n : Name) (k : Kind) → T.kind_at n ≡ Some k → KindOk k
  kinds n k e = elim (sorted n k e) [ is_new x u is s ↦ subst KindOk (sym s) (new_kind_ok x) | is_old s f ↦ ty.kinds n k f ]

  -- what is outside stays
  outside_stays : (n : Name) → Outside g m l n → Stays g gone n
  outside_stays n o = (o.0, o.1, λ i. o.2 (gone_node g ty m l at name names n i))

  new_inside : (n : Name) (x : TagNode) → In x (tag_nodes l) → n ≡ name x → Outside g m l n → ⊥
  new_inside n x u e o = new_not_old x u n o.0 o.1 e

  stays_cases : (p0 p : Port) → Stays g gone p.node → p0 ≡ p → ((p0 ≡ p) × Outside g m l p.node) ⊎ (NodeOf m l p0.node × (Outside g m l p.node → ⊥))
  stays_cases p0 p s e =
      elim (in_or_out p.node l.body) [
        | inl b ↦ inr (subst (λ (z : Port). NodeOf m l z.node) (sym e) (in_body b), λ o. o.2 (in_body b))
        | inr o ↦ inl (e, (s.0, s.1, λ n. o (stays_body g ty m l at name names p.node s.2 n)))
      ]

  in_cases : (p0 p : Port) → In' p0 p → ((p0 ≡ p) × Outside g m l p.node) ⊎ (NodeOf m l p0.node × (Outside g m l p.node → ⊥))
  in_cases p0 p (in_stays s e) = stays_cases p0 p s e
  in_cases p0 p (in_fresh j x k e e') = inr (lane (x, at_in l.lanes j x k, ap (λ (z : Port). z.node) (sym e)), new_inside p.node new_in (fixed_in l new_in tt) (ap (λ (z : Port). z.node) e'))
  in_cases p0 p (in_data j x k e e') = inr (branch (x, at_in l.lanes j x k, ap (λ (z : Port). z.node) (sym e)), new_inside p.node new_next (fixed_in l new_next tt) (ap (λ (z : Port). z.node) e'))
  in_cases p0 p (in_first x k e e') = inr (branch (x, at_in l.lanes 1 x k, ap (λ (z : Port). z.node) (sym e)), new_inside p.node new_branch (fixed_in l new_branch tt) (ap (λ (z : Port). z.node) e'))
  in_cases p0 p (in_other j x k e e') = inr (branch (x, at_in l.lanes (suc (suc j)) x k, ap (λ (z : Port). z.node) (sym e)), new_inside p.node (new_sink (suc j)) (m_sink g ty m l at name names j (omega (arith, at_within l.lanes (suc (suc j)) x k))) (ap (λ (z : Port). z.node) e'))
  in_cases p0 p (in_mark e e') = inr (is_mark (ap (λ (z : Port). z.node) e), new_inside p.node (new_sink (length l.lanes)) (m_last g ty m l at name names) (ap (λ (z : Port). z.node) e'))

  out_cases : (q0 q : Port) → Out' q0 q → ((q0 ≡ q) × Outside g m l q.node) ⊎ (NodeOf m l q0.node × (Outside g m l q.node → ⊥))
  out_cases q0 q (out_stays s e) = stays_cases q0 q s e
  out_cases q0 q (out_var j x k e e') = inr (lane (x, at_in l.lanes j x k, ap (λ (z : Port). z.node) (sym e)), new_inside q.node new_vars (fixed_in l new_vars tt) (ap (λ (z : Port). z.node) e'))
  out_cases q0 q (out_exit j x k e e') = inr (branch (x, at_in l.lanes j x k, ap (λ (z : Port). z.node) (sym e)), new_inside q.node new_out (fixed_in l new_out tt) (ap (λ (z : Port). z.node) e'))

  abbrev IsInit : Kind → Type 0
  IsInit (Init v n) = Unit {0}
  IsInit _ = ⊥

  new_no_init : (x : TagNode) → IsInit (tag_kind l x) → ⊥
  new_no_init new_in h = h
  new_no_init new_tagger h = h
  new_no_init new_merge h = h
  new_no_init new_tag h = h
  new_no_init new_vars h = h
  new_no_init new_next h = h
  new_no_init new_retag h = h
  new_no_init new_branch h = h
  new_no_init new_out h = h
  new_no_init (new_sink j) h = h

  pub marks : (n : Name) → IsMark T n → (n ≡ m) ⊎ ((n ≢ m) × IsMark g n)
  marks n (v, t, e, some) =
      elim (sorted n (Init v t) e) [
        | is_new x u is s ↦ absurd (new_no_init x (subst IsInit s tt))
        | is_old s f ↦ inr ((λ is. s.2 (head is)), (v, t, f, some))
      ]

  -- the mark is gone
  pub no_mark : IsMark T m → ⊥
  no_mark (v, t, e, some) =
      elim (sorted m (Init v t) e) [ is_new x u is s ↦ new_no_init x (subst IsInit s tt) | is_old s f ↦ s.2 (head refl) ]

  pub tagged_rewires : Rewires g T m l In' Out' (Own l name)
  tagged_rewires =
      record {
        old_wire = old_wires g ty m l at name names;
        new_wire = new_wire g ty m l at name names;
        own_wire = own_wire g ty m l at name names;
        in_shape = in_shape g ty m l at name names;
        out_shape = out_shape g ty m l at name names;
        own_shape = own_shape g ty m l at name names;
        inputs = inputs g ty m l at name names;
        outputs = outputs g ty m l at name names;
        out_goes = out_goes g ty m l at name names;
        in_one = in_one;
        out_one = out_one;
        out_from = out_from;
        own_one = own_one;
        out_no_own = out_no_own;
        kinds = kinds;
        names = names_short g gone name (tag_nodes l) (tag_kind l) (tag_source g m l name) (tag_out l name) names ty;
        keeps_kind = λ n o. ks g ty m l at name names n (outside_stays n o);
        keeps_in = λ p o. in_stays (outside_stays p.node o) refl;
        in_cases = in_cases;
        out_cases = out_cases;
        own_in = λ p q o. let t = own_target l name p q o in new_inside p.node t.0 (fixed_in l t.0 t.1) t.2;
        own_out = λ p q o. let a = own_source l name p q o in new_inside q.node a.node (ring_in l a.node a.ring) (ap (λ (z : Port). z.node) a.is);
        marks = marks;
      }
