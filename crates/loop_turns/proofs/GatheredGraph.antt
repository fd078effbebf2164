-- A gathered graph is a graph with one loop rebuilt.
use Rattle.std.proofs.Common.{◌≡◌, ◌≢◌, ◌⊎◌, inl, inr, ℕ, zero, suc, ◌≤◌, refl, sym, ap, subst, ◌∙◌, Bool, true, false, length, Option, Some, None, arith}
use Rattle.components.specs.Kind.{KindOk}
use Rattle.components.specs.Name.{Name, Port, port_get}
use Rattle.components.specs.declared.kind.Kind.{Kind}
use Rattle.components.specs.declared.kind.Kind.TheVariants.{Init}
use Rattle.fun_expr.specs.Function.{Function}
use Rattle.circuits.specs.Circuit.{Circuit, Typed}
use Rattle.circuits.specs.Replacing.{In}
use Rattle.circuits.proofs.Names.{name_cases}
use Rattle.circuits.proofs.Beside.{none_some}
use Rattle.std.proofs.lemmas.Option.{same_Some}
use Rattle.tagged_loop.specs.LoopFunction.{IsLoopFunction}
use Rattle.loop_laws.specs.Polarity.{back_out, exit_out, exit_bit, IsMark, fresh_in, back_in}
use Rattle.loop_laws.specs.Reached.{port_at}
use Rattle.loop_laws.specs.Loop.{Lane, Loop, LoopAt, NodeOf, NodeOf.is_mark, NodeOf.lane, NodeOf.branch}
use Rattle.loop_turns.proofs.Lists.{in_left}
use Rattle.loop_turns.specs.Rebuilt.{NewNames}
use Rattle.loop_turns.specs.Lanes.{port_or, lane_place, fresh_of, frame_of, tuple_shape}
use Rattle.loop_turns.specs.Gathered.{GatherNode, GatherNode.one_in, GatherNode.one_mux, GatherNode.one_pure, GatherNode.one_pair, GatherNode.one_cond, GatherNode.one_branch, GatherNode.one_out, gather_nodes, gather_kind, gather_out, gather_source, gathered_graph}
use Rattle.loop_turns.proofs.LoopLookups.{in_at, at_in, at_within, place_at, place_none}
use Rattle.loop_turns.proofs.LoopFrame.{node_frame, FrameNode.of_lane, muxes_unlike}
use Rattle.loop_turns.proofs.LoopShapes.{bit_is_shape, tuple_is_shape, lanes_are_parts, pair_parts, two}
use Rattle.loop_turns.proofs.Rebuilding.{Stays, Sort, Sort.is_new, Sort.is_old, sort, names_short}
use Rattle.loop_turns.proofs.Rewiring.{Outside, Rewires}
use Rattle.loop_turns.proofs.GatheredWires.{InOf, InOf.in_stays, InOf.in_fresh, OutOf, OutOf.out_stays, OutOf.out_exit, Own, Own.own_select, Own.own_in, Own.own_back, Own.own_pure, Own.own_pair, Own.own_cond, Own.own_data, Own.own_decides, Own.own_mark, Own.own_out, every, goes, ks, goes_node, stays_outside, out_branch, out_else, old_wires, new_wire, own_wire, in_shape, out_shape, own_shape, inputs, outputs, out_goes}

-- the mark or a new node
abbrev pub named : Name → (GatherNode → Name) → Option GatherNode → Name
named m name None = m
named m name (Some x) = name x

-- where a wire out of one of these leads
abbrev pub goes_to : Name → (GatherNode → Name) → Bool → Option GatherNode → ℕ → Port
goes_to m name d None i = port_at (name one_mux) 1
goes_to m name d (Some one_in) i = port_at (name one_mux) (fresh_in d)
goes_to m name d (Some one_mux) i = port_at (name one_pure) 1
goes_to m name d (Some one_pure) i = port_at (name one_pair) 1
goes_to m name d (Some one_pair) (suc zero) = port_at (name one_branch) 1
goes_to m name d (Some one_pair) i = port_at (name one_cond) 1
goes_to m name d (Some one_cond) (suc zero) = port_at (name one_branch) 2
goes_to m name d (Some one_cond) i = port_at m 1
goes_to m name true (Some one_branch) (suc zero) = port_at (name one_mux) 3
goes_to m name true (Some one_branch) i = port_at (name one_out) 1
goes_to m name false (Some one_branch) (suc zero) = port_at (name one_out) 1
goes_to m name false (Some one_branch) i = port_at (name one_mux) 2
goes_to m name d (Some one_out) i = port_at (name one_out) i

abbrev pub IsLoopNode : Option GatherNode → Type 0
IsLoopNode (Some one_out) = ⊥
IsLoopNode _ = Unit {0}

pub record OwnSource (m : Name) (l : Loop) (name : GatherNode → Name) (p q : Port) : Type 0 where
  pub node : Option GatherNode
  pub port : ℕ
  pub is : q ≡ port_at (named m name node) port
  pub goes : p ≡ goes_to m name l.goes_back node port
  pub ring : IsLoopNode node

pub exit_goes : (m : Name) (name : GatherNode → Name) (d : Bool) → port_at (name one_out) 1 ≡ goes_to m name d (Some one_branch) (exit_out d)
exit_goes m name true = refl
exit_goes m name false = refl

back_goes : (m : Name) (name : GatherNode → Name) (d : Bool) → port_at (name one_mux) (back_in d) ≡ goes_to m name d (Some one_branch) (back_out d)
back_goes m name true = refl
back_goes m name false = refl

pub own_source : (m : Name) (l : Loop) (name : GatherNode → Name) (p q : Port) → Own m l name p q → OwnSource m l name p q
own_source m l name p q (own_select a b) = record { node = None; port = 1; is = b; goes = a; ring = tt }
own_source m l name p q (own_in a b) = record { node = Some one_in; port = 1; is = b; goes = a; ring = tt }
own_source m l name p q (own_back a b) = record { node = Some one_branch; port = back_out l.goes_back; is = b; goes = a ∙ back_goes m name l.goes_back; ring = tt }
own_source m l name p q (own_pure a b) = record { node = Some one_mux; port = 1; is = b; goes = a; ring = tt }
own_source m l name p q (own_pair a b) = record { node = Some one_pure; port = 1; is = b; goes = a; ring = tt }
own_source m l name p q (own_cond a b) = record { node = Some one_pair; port = 2; is = b; goes = a; ring = tt }
own_source m l name p q (own_data a b) = record { node = Some one_pair; port = 1; is = b; goes = a; ring = tt }
own_source m l name p q (own_decides a b) = record { node = Some one_cond; port = 1; is = b; goes = a; ring = tt }
own_source m l name p q (own_mark a b) = record { node = Some one_cond; port = 2; is = b; goes = a; ring = tt }
own_source m l name p q (own_out a b) = record { node = Some one_branch; port = exit_out l.goes_back; is = b; goes = a ∙ exit_goes m name l.goes_back; ring = tt }

pub own_target : (m : Name) (l : Loop) (name : GatherNode → Name) (p q : Port) → Own m l name p q → (x : Option GatherNode) × (p.node ≡ named m name x)
own_target m l name p q (own_select a b) = (Some one_mux, ap (λ (z : Port). z.node) a)
own_target m l name p q (own_in a b) = (Some one_mux, ap (λ (z : Port). z.node) a)
own_target m l name p q (own_back a b) = (Some one_mux, ap (λ (z : Port). z.node) a)
own_target m l name p q (own_pure a b) = (Some one_pure, ap (λ (z : Port). z.node) a)
own_target m l name p q (own_pair a b) = (Some one_pair, ap (λ (z : Port). z.node) a)
own_target m l name p q (own_cond a b) = (Some one_cond, ap (λ (z : Port). z.node) a)
own_target m l name p q (own_data a b) = (Some one_branch, ap (λ (z : Port). z.node) a)
own_target m l name p q (own_decides a b) = (Some one_branch, ap (λ (z : Port). z.node) a)
own_target m l name p q (own_mark a b) = (None, ap (λ (z : Port). z.node) a)
own_target m l name p q (own_out a b) = (Some one_out, ap (λ (z : Port). z.node) a)

abbrev image : Loop → (GatherNode → Name) → Port → Port
image l name p = port_or (lane_place (λ (x : Lane). x.mux) l.lanes p.node) (name one_in) p

module _ (g : Circuit) (ty : Typed g) (m : Name) (l : Loop) (at : LoopAt g m l) (f : Function) (body : IsLoopFunction (tuple_shape l) f) (name : GatherNode → Name) (names : NewNames g gather_nodes name) where
  abbrev T : Circuit
  T = gathered_graph g m l f name

  abbrev In' : Port → Port → Type 0
  In' = InOf g m l name

  abbrev Out' : Port → Port → Type 0
  Out' = OutOf g m l name

  in_image : (p0 p : Port) → In' p0 p → p ≡ image l name p0
  in_image p0 p (in_stays s away e) =
      sym (ap (λ o. port_or o (name one_in) p0) (place_none (λ (x : Lane). x.mux) l.lanes p0.node (λ x u w. s.2 (subst (λ z. In z (goes l)) (w ∙ ap (λ (z : Port). z.node) e) (in_left x.mux (frame_of l) l.body (node_frame l x.mux (of_lane (x, u, refl))))))) ∙ e)
  in_image p0 p (in_fresh j x k e e') =
      e' ∙ sym (ap (λ o. port_or o (name one_in) (fresh_of l x)) (place_at (λ (x : Lane). x.mux) l.lanes (muxes_unlike g ty m l at) j x k)) ∙ ap (image l name) (sym e)

  in_one : (p0 p r : Port) → In' p0 p → In' p0 r → p ≡ r
  in_one p0 p r i j = in_image p0 p i ∙ sym (in_image p0 r j)

  out_is : (q0 q : Port) → Out' q0 q → q ≡ gather_out l name q0
  out_is q0 q (out_stays s away e) = sym (out_else g ty m l at f body name names q s.2) ∙ ap (gather_out l name) (sym e)
  out_is q0 q (out_exit j x k e e') = e' ∙ sym (out_branch g ty m l at f body name names j _ x k) ∙ ap (gather_out l name) (sym e)

  out_one : (q0 q r : Port) → Out' q0 q → Out' q0 r → q ≡ r
  out_one q0 q r i j = out_is q0 q i ∙ sym (out_is q0 r j)

  pub new_not_old : (x : GatherNode) (n : Name) (k : Kind) → g.kind_at n ≡ Some k → n ≡ name x → ⊥
  new_not_old x n k e is = none_some (g.kind_at n) k (ap g.kind_at is ∙ names.fresh x (every x)) e

  pub new_not_mark : (x : GatherNode) → m ≡ name x → ⊥
  new_not_mark x e = new_not_old x m (Init (exit_bit l.goes_back) l.tags) at.mark.0 e

  same_lane_at : (j j' : ℕ) (x x' : Lane) → port_get l.lanes j ≡ Some x → port_get l.lanes j' ≡ Some x' → j ≡ j' → x ≡ x'
  same_lane_at j j' x x' k k' e = same_Some x x' (sym k ∙ ap (port_get l.lanes) e ∙ k')

  out_from : (q0 q1 q : Port) → Out' q0 q → Out' q1 q → q0 ≡ q1
  out_from q0 q1 q (out_stays s away e) (out_stays t b h) = e ∙ sym h
  out_from q0 q1 q (out_stays s away e) (out_exit j x k h h') = absurd (new_not_old one_out q.node s.0 s.1 (ap (λ (z : Port). z.node) h'))
  out_from q0 q1 q (out_exit j x k e e') (out_stays t b h) = absurd (new_not_old one_out q.node t.0 t.1 (ap (λ (z : Port). z.node) e'))
  out_from q0 q1 q (out_exit j x k e e') (out_exit j' x' k' h h') =
      e ∙ ap (λ (z : Lane). port_at z.branch (exit_out l.goes_back)) (same_lane_at j j' x x' k k' (ap (λ (z : Port). z.port) (sym e' ∙ h'))) ∙ sym h

  pub named_apart : (x y : Option GatherNode) → named m name x ≡ named m name y → x ≡ y
  named_apart None None e = refl
  named_apart None (Some y) e = absurd (new_not_mark y e)
  named_apart (Some x) None e = absurd (new_not_mark x (sym e))
  named_apart (Some x) (Some y) e = ap Some (names.apart x y (every x) (every y) e)

  own_one : (p r q : Port) → Own m l name p q → Own m l name r q → p ≡ r
  own_one p r q o u =
      let a = own_source m l name p q o in
      let b = own_source m l name r q u in
      let same : port_at (named m name a.node) a.port ≡ port_at (named m name b.node) b.port = sym a.is ∙ b.is in
      let e : a.node ≡ b.node = named_apart a.node b.node (ap (λ (z : Port). z.node) same) in
      let i : a.port ≡ b.port = ap (λ (z : Port). z.port) same in
      a.goes ∙ ap (λ x. goes_to m name l.goes_back x a.port) e ∙ ap (goes_to m name l.goes_back b.node) i ∙ sym b.goes

  pub not_named : (n : Name) (k : Kind) → g.kind_at n ≡ Some k → n ≢ m → (x : Option GatherNode) → n ≡ named m name x → ⊥
  not_named n k e away None is = away is
  not_named n k e away (Some x) is = new_not_old x n k e is

  out_no_own : (q0 p q : Port) → Out' q0 q → Own m l name p q → ⊥
  out_no_own q0 p q (out_stays s away e) o = let a = own_source m l name p q o in not_named q.node s.0 s.1 away a.node (ap (λ (z : Port). z.node) a.is)
  out_no_own q0 p q (out_exit j x k e e') o =
      let a = own_source m l name p q o in
      subst IsLoopNode (named_apart a.node (Some one_out) (ap (λ (z : Port). z.node) (sym a.is ∙ e'))) a.ring

  pub sorted : (n : Name) (k : Kind) → T.kind_at n ≡ Some k → Sort g (goes l) name gather_nodes (gather_kind l f) (gather_source g m l name) (gather_out l name) names n k
  sorted = sort g (goes l) name gather_nodes (gather_kind l f) (gather_source g m l name) (gather_out l name) names

  new_kind_ok : (x : GatherNode) → KindOk (gather_kind l f x)
  new_kind_ok one_in = lanes_are_parts g ty m l at
  new_kind_ok one_mux = tuple_is_shape g ty m l at
  new_kind_ok one_pure = body.ok
  new_kind_ok one_pair = pair_parts g ty m l at
  new_kind_ok one_cond = (bit_is_shape, two g ty m l at)
  new_kind_ok one_branch = tuple_is_shape g ty m l at
  new_kind_ok one_out = lanes_are_parts g ty m l at

  kinds : (n : Name) (k : Kind) → T.kind_at n ≡ Some k → KindOk k
  kinds n k e = elim (sorted n k e) [ is_new x u is s ↦ subst KindOk (sym s) (new_kind_ok x) | is_old s h ↦ ty.kinds n k h ]

  some_lane : ◌≤◌ 1 (length l.lanes)
  some_lane = let (j, e) = in_at l.lanes at.branches.data_lane at.branches.is_data_lane in omega (arith, at_within l.lanes (suc j) at.branches.data_lane e)

  pub new_inside : (n : Name) (x : Option GatherNode) → n ≡ named m name x → Outside g m l n → ⊥
  new_inside n None e o = o.2 (is_mark e)
  new_inside n (Some x) e o = new_not_old x n o.0 o.1 e

  outside_stays : (n : Name) → Outside g m l n → Stays g (goes l) n
  outside_stays n o = (o.0, o.1, λ i. o.2 (goes_node g ty m l at f body name names n i))

  in_cases : (p0 p : Port) → In' p0 p → ((p0 ≡ p) × Outside g m l p.node) ⊎ (NodeOf m l p0.node × (Outside g m l p.node → ⊥))
  in_cases p0 p (in_stays s away e) = inl (e, (s.0, s.1, stays_outside g ty m l at f body name names p.node s.2 away))
  in_cases p0 p (in_fresh j x k e e') = inr (lane (x, at_in l.lanes j x k, ap (λ (z : Port). z.node) (sym e)), new_inside p.node (Some one_in) (ap (λ (z : Port). z.node) e'))

  out_cases : (q0 q : Port) → Out' q0 q → ((q0 ≡ q) × Outside g m l q.node) ⊎ (NodeOf m l q0.node × (Outside g m l q.node → ⊥))
  out_cases q0 q (out_stays s away e) = inl (e, (s.0, s.1, stays_outside g ty m l at f body name names q.node s.2 away))
  out_cases q0 q (out_exit j x k e e') = inr (branch (x, at_in l.lanes j x k, ap (λ (z : Port). z.node) (sym e)), new_inside q.node (Some one_out) (ap (λ (z : Port). z.node) e'))

  abbrev IsInit : Kind → Type 0
  IsInit (Init v n) = Unit {0}
  IsInit _ = ⊥

  new_no_init : (x : GatherNode) → IsInit (gather_kind l f x) → ⊥
  new_no_init one_in h = h
  new_no_init one_mux h = h
  new_no_init one_pure h = h
  new_no_init one_pair h = h
  new_no_init one_cond h = h
  new_no_init one_branch h = h
  new_no_init one_out h = h

  pub old_mark : (n : Name) → IsMark T n → IsMark g n
  old_mark n (v, t, e, some) =
      elim (sorted n (Init v t) e) [
        | is_new x u is s ↦ absurd (new_no_init x (subst IsInit s tt))
        | is_old s h ↦ (v, t, h, some)
      ]

  marks : (n : Name) → IsMark T n → (n ≡ m) ⊎ ((n ≢ m) × IsMark g n)
  marks n mn = elim (name_cases n m) [ inl is ↦ inl is.is | inr ne ↦ inr (ne.is_not, old_mark n mn) ]

  pub gathered_rewires : Rewires g T m l In' Out' (Own m l name)
  gathered_rewires =
      record {
        old_wire = old_wires g ty m l at f body name names;
        new_wire = new_wire g ty m l at f body name names;
        own_wire = own_wire g ty m l at f body name names;
        in_shape = in_shape g ty m l at f body name names;
        out_shape = out_shape g ty m l at f body name names;
        own_shape = own_shape g ty m l at f body name names;
        inputs = inputs g ty m l at f body name names;
        outputs = outputs g ty m l at f body name names;
        out_goes = out_goes g ty m l at f body name names;
        in_one = in_one;
        out_one = out_one;
        out_from = out_from;
        own_one = own_one;
        out_no_own = out_no_own;
        kinds = kinds;
        names = names_short g (goes l) name gather_nodes (gather_kind l f) (gather_source g m l name) (gather_out l name) names ty;
        keeps_kind = λ n o. ks g ty m l at f body name names n (outside_stays n o);
        keeps_in = λ p o. in_stays (outside_stays p.node o) (λ e. o.2 (is_mark e)) refl;
        in_cases = in_cases;
        out_cases = out_cases;
        own_in = λ p q o. let t = own_target m l name p q o in new_inside p.node t.0 t.1;
        own_out = λ p q o. let a = own_source m l name p q o in new_inside q.node a.node (ap (λ (z : Port). z.node) a.is);
        marks = marks;
      }
