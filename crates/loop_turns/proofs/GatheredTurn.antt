-- The turn of one mark, gathered, leaves each mark a loop, off cycle.
use Rattle.std.proofs.Common.{◌≡◌, ◌≢◌, ◌⊎◌, inl, inr, refl, sym, ap, subst, ◌∙◌, Option, Some, None, if◌then◌else◌}
use Rattle.std.specs.Prelude.{◌↔◌}
use Rattle.components.specs.Name.{Name, Port}
use Rattle.fun_expr.specs.Function.{Function}
use Rattle.circuits.specs.Circuit.{Circuit, Typed}
use Rattle.circuits.specs.Replacing.{In, In.head, In.tail}
use Rattle.circuits.proofs.Names.{name_cases}
use Rattle.components.specs.Orders.{same_bytes, other_bytes}
use Rattle.tagged_loop.specs.LoopFunction.{IsLoopFunction}
use Rattle.loop_laws.specs.Polarity.{exit_out, exit_bit, IsMark, fresh_in}
use Rattle.loop_laws.specs.Reached.{port_at}
use Rattle.loop_laws.specs.Loop.{Lane, Loop, LoopAt, NodeOf, NodeOf.is_mark, NodeOf.in_tree, NodeOf.lane, NodeOf.branch, NodeOf.in_back, NodeOf.in_body, IsFresh, IsExit}
use Rattle.loop_laws.specs.OffCycle.{HasLoops, GoesOnBy, GoesOnBy.out_of_loop, GoesOnBy.out_of_node, Walk, Walk.here, Walk.on, OffCycle}
use Rattle.loop_laws.proofs.Closed.{inner_fed, inner_or_fresh}
use Rattle.loop_laws.proofs.ShareNone.{share_none}
use Rattle.loop_turns.specs.Rebuilt.{NewNames}
use Rattle.loop_turns.specs.Lanes.{with_loop, tuple_shape}
use Rattle.loop_turns.specs.Gathered.{GatherNode, GatherNode.one_mux, GatherNode.one_pure, GatherNode.one_pair, GatherNode.one_cond, GatherNode.one_branch, GatherNode.one_out, gathered_graph, gathered_loop, gather_nodes}
use Rattle.loop_turns.proofs.LoopLookups.{at_in}
use Rattle.loop_turns.proofs.Rewiring.{Outside, Was, Rewires, rewired_typed, other_loop, other_off_cycle, other_outside, Came, Came.still_out, Came.went_in, arrive, step}
use Rattle.loop_turns.proofs.GatheredWires.{InOf, OutOf, OutOf.out_stays, OutOf.out_exit, Own}
use Rattle.loop_turns.proofs.GatheredGraph.{named, goes_to, IsLoopNode, own_source, exit_goes, named_apart, not_named, new_inside, old_mark, gathered_rewires}
use Rattle.loop_turns.proofs.GatheredLoop.{gathered_loop_at, from_new}

-- a walk from an exit of a loop that is off cycle never comes back into the loop
module _ (g : Circuit) (loops : Name → Loop) (has : HasLoops g loops) (m : Name) (mark : IsMark g m) (off : OffCycle g loops m) where
  was : LoopAt g m (loops m)
  was = has.all m mark

  only_fresh : (s q p r : Port) → g.feeder s ≡ Some q → IsExit (loops m) q → Walk g loops s p → g.feeder p ≡ Some r → NodeOf m (loops m) p.node → (NodeOf m (loops m) r.node → (IsExit (loops m) r → ⊥) → ⊥) → ⊥
  only_fresh s q p r f x w k i away =
      elim (inner_or_fresh g has.typed m (loops m) was p r k i) [
        | inl n ↦ let o = inner_fed g has.typed m (loops m) was p r n k in away o.node o.inward
        | inr y ↦ off s q p f x w y
      ]

  from_other : (n : Name) (r : Port) → IsMark g n → IsExit (loops n) r → NodeOf m (loops m) r.node → (IsExit (loops m) r → ⊥) → ⊥
  from_other n r mn (y, v, e) i inw =
      elim (name_cases n m) [
        | inl is ↦ inw (subst (λ z. IsExit (loops z) r) is.is (y, v, e))
        | inr ne ↦ share_none g has.typed n m (loops n) (loops m) (has.all n mn) was ne.is_not r.node (branch (y, v, ap (λ (z : Port). z.node) (sym e))) i
      ]

  pub never_in : (s q p : Port) → g.feeder s ≡ Some q → IsExit (loops m) q → Walk g loops s p → NodeOf m (loops m) p.node → ⊥
  never_in s q p f x (here e) i =
      only_fresh s q p q f x (here e) (ap g.feeder (sym e) ∙ f) i (λ j inw. inw x)
  never_in s q p f x (on t w (out_of_loop n r mn j y k)) i =
      only_fresh s q p r f x (on t w (out_of_loop n r mn j y k)) k i (λ o inw. from_other n r mn y o inw)
  never_in s q p f x (on t w (out_of_node r none e k)) i =
      only_fresh s q p r f x (on t w (out_of_node r none e k)) k i (λ o inw. none (m, mark, subst (NodeOf m (loops m)) e o))

module _ (g : Circuit) (loops : Name → Loop) (m : Name) (f : Function) (name : GatherNode → Name) (has : HasLoops g loops) (mark : IsMark g m) (body : IsLoopFunction (tuple_shape (loops m)) f) (names : NewNames g gather_nodes name) where
  abbrev l : Loop
  l = loops m

  abbrev T : Circuit
  T = gathered_graph g m l f name

  abbrev L : Loop
  L = gathered_loop l name

  abbrev loops' : Name → Loop
  loops' = with_loop loops m L

  at : LoopAt g m l
  at = has.all m mark

  re : Rewires g T m l (InOf g m l name) (OutOf g m l name) (Own m l name)
  re = gathered_rewires g has.typed m l at f body name names

  own_here : loops' m ≡ L
  own_here = ap (λ b. if b then L else loops m) (same_bytes m m refl)

  others : (n : Name) → n ≢ m → loops' n ≡ loops n
  others n away = ap (λ b. if b then L else loops n) (other_bytes n m away)

  loop_at : LoopAt T m L
  loop_at = gathered_loop_at g has.typed m l at f body name names

  old : (n : Name) → IsMark T n → IsMark g n
  old = old_mark g has.typed m l at f body name names

  mark_stays : (n : Name) → IsMark g n → IsMark T n
  mark_stays n (v, t, e, some) =
      elim (name_cases n m) [
        | inl is ↦ (exit_bit l.goes_back, l.tags, ap T.kind_at is.is ∙ loop_at.mark.0, loop_at.mark.1)
        | inr ne ↦ (v, t, re.keeps_kind n (other_outside g T m l (InOf g m l name) (OutOf g m l name) (Own m l name) re has.typed at n (loops n) (has.all n (v, t, e, some)) ne.is_not n (is_mark refl)) ∙ e, some)
      ]

  pub gathered_marks : (n : Name) → IsMark T n ↔ IsMark g n
  gathered_marks n = (old n, mark_stays n)

  loop_of : (n : Name) → IsMark T n → LoopAt T n (loops' n)
  loop_of n mn =
      elim (name_cases n m) [
        | inl is ↦ subst (λ z. LoopAt T z (loops' z)) (sym is.is) (subst (LoopAt T m) (sym own_here) loop_at)
        | inr ne ↦
            subst (LoopAt T n) (sym (others n ne.is_not))
            (other_loop g T m l (InOf g m l name) (OutOf g m l name) (Own m l name) re has.typed at n (loops n) (has.all n (old n mn)) ne.is_not)
      ]

  typed : Typed T
  typed = rewired_typed g T m l (InOf g m l name) (OutOf g m l name) (Own m l name) re has.typed

  pub gathered_has_loops : HasLoops T loops'
  gathered_has_loops = record { typed = typed; all = loop_of }

  -- the nodes and exits of m's loop are not outside
  loop_node : (y : Name) → NodeOf m L y → (x : Option GatherNode) × (y ≡ named m name x) × IsLoopNode x
  loop_node y (is_mark e) = (None, e, tt)
  loop_node y (in_tree i) = elim i [ ]
  loop_node y (lane (x, head e, s)) = (Some one_mux, sym s ∙ ap (λ (z : Lane). z.mux) e, tt)
  loop_node y (lane (x, tail i, s)) = elim i [ ]
  loop_node y (branch (x, head e, s)) = (Some one_branch, sym s ∙ ap (λ (z : Lane). z.branch) e, tt)
  loop_node y (branch (x, tail i, s)) = elim i [ ]
  loop_node y (in_back x (head e) i) = elim (subst (λ (z : Lane). In y z.back) e i) [ ]
  loop_node y (in_back x (tail j) i) = elim j [ ]
  loop_node y (in_body (head e)) = (Some one_pure, e, tt)
  loop_node y (in_body (tail (head e))) = (Some one_pair, e, tt)
  loop_node y (in_body (tail (tail (head e)))) = (Some one_cond, e, tt)
  loop_node y (in_body (tail (tail (tail i)))) = elim i [ ]

  inside : (y : Name) (x : Option GatherNode) → y ≡ named m name x → Outside g m l y → ⊥
  inside = new_inside g has.typed m l at f body name names

  own_node : (y : Name) → IsMark T m → NodeOf m (loops' m) y → Outside g m l y → ⊥
  own_node y mm i o = let n = loop_node y (subst (λ z. NodeOf m z y) own_here i) in inside y n.0 n.1 o

  exit_to : (r q : Port) → IsExit (loops' m) q → T.feeder r ≡ Some q → r ≡ port_at (name one_out) 1
  exit_to r q x h = at_exit (subst (λ z. IsExit z q) own_here x)
    where
      at_exit : IsExit L q → r ≡ port_at (name one_out) 1
      at_exit (y, head e, s) =
          let q_is : q ≡ port_at (name one_branch) (exit_out l.goes_back) = s ∙ ap (λ (z : Lane). port_at z.branch (exit_out l.goes_back)) e in
          from_new g has.typed m l at f body name names r q h (Some one_branch) (ap (λ (z : Port). z.node) q_is) tt
          ∙ ap (λ (z : Port). goes_to m name l.goes_back (Some one_branch) z.port) q_is ∙ sym (exit_goes m name l.goes_back)
      at_exit (y, tail i, s) = elim i [ ]

  own_exit : (r q : Port) → IsMark T m → IsExit (loops' m) q → T.feeder r ≡ Some q → Outside g m l r.node → ⊥
  own_exit r q mm x h o = inside r.node (Some one_out) (ap (λ (z : Port). z.node) (exit_to r q x h)) o

  pub gathered_other_off : (n : Name) → n ≢ m → IsMark g n → OffCycle g loops n → OffCycle T loops' n
  gathered_other_off n away mn off =
      other_off_cycle g T m l (InOf g m l name) (OutOf g m l name) (Own m l name) re has.typed at loops loops' has.all mark refl others own_node own_exit n away mn off

  module _ (off : OffCycle g loops m) where
    abbrev Came' : Port → Port → Type 0
    Came' = Came g T m l (InOf g m l name) (OutOf g m l name) (Own m l name) re has.typed at loops loops' has.all mark refl others own_node own_exit

    -- a walk of the gathered graph from the exit of m's loop: still at out, or a walk of g from an exit
    data Left (p : Port) : Type 0 where
      at_out : p ≡ port_at (name one_out) 1 → Left p
      on_way : (s q : Port) → g.feeder s ≡ Some q → IsExit l q → Came' s p → Left p

    from_out : (r q : Port) → q.node ≡ name one_out → T.feeder r ≡ Some q → Left r
    from_out r q e h = left_by (re.old_wire r q h)
      where
        left_by : Was g (InOf g m l name) (OutOf g m l name) r q ⊎ Own m l name r q → Left r
        left_by (inr o) =
            let a = own_source m l name r q o in
            absurd (subst IsLoopNode (named_apart g has.typed m l at f body name names a.node (Some one_out) (ap (λ (z : Port). z.node) (sym a.is) ∙ e)) a.ring)
        left_by (inl w) = by_out w w.out
          where
            by_out : Was g (InOf g m l name) (OutOf g m l name) r q → OutOf g m l name w.source q → Left r
            by_out v (out_stays s away k) = absurd (not_named g has.typed m l at f body name names q.node s.0 s.1 away (Some one_out) e)
            by_out v (out_exit j x k u u') =
                on_way w.target w.source w.wire (x, at_in l.lanes j x k, u)
                (arrive g T m l (InOf g m l name) (OutOf g m l name) (Own m l name) re has.typed at loops loops' has.all mark refl others own_node own_exit w.target w.target r w.into (here refl))

    out_no_loop : (p : Port) → p.node ≡ name one_out → (n : Name) → IsMark T n → NodeOf n (loops' n) p.node → ⊥
    out_no_loop p e n mn i =
        elim (name_cases n m) [
          | inl is ↦
              let k = loop_node p.node (subst (λ z. NodeOf m z p.node) own_here (subst (λ z. NodeOf z (loops' z) p.node) is.is i)) in
              subst IsLoopNode (named_apart g has.typed m l at f body name names k.0 (Some one_out) (sym k.1 ∙ e)) k.2
          | inr ne ↦
              inside p.node (Some one_out) e
              (other_outside g T m l (InOf g m l name) (OutOf g m l name) (Own m l name) re has.typed at n (loops n) (has.all n (old n mn)) ne.is_not p.node (subst (λ z. NodeOf n z p.node) (others n ne.is_not) i))
        ]

    left_step : (p r : Port) → Left p → GoesOnBy T loops' p r → Left r
    left_step p r (at_out e) (out_of_loop n q mn i x h) = absurd (out_no_loop p (ap (λ (z : Port). z.node) e) n mn i)
    left_step p r (at_out e) (out_of_node q none s h) = from_out r q (s ∙ ap (λ (z : Port). z.node) e) h
    left_step p r (on_way s q h x c) goes =
        on_way s q h x (step g T m l (InOf g m l name) (OutOf g m l name) (Own m l name) re has.typed at loops loops' has.all mark refl others own_node own_exit s p r c goes)

    left_walk : (p r : Port) → Left p → Walk T loops' p r → Left r
    left_walk p r c (here e) = subst Left e c
    left_walk p r c (on t w goes) = left_step t r (left_walk p t c w) goes

    fresh_node : (r : Port) → IsFresh L r → r ≡ port_at (name one_mux) (fresh_in l.goes_back)
    fresh_node r (x, head e, s) = s ∙ ap (λ (z : Lane). port_at z.mux (fresh_in l.goes_back)) e
    fresh_node r (x, tail i, s) = elim i [ ]

    not_left : (r : Port) → r.node ≡ name one_mux → Left r → ⊥
    not_left r e (at_out s) =
        subst IsMux (named_apart g has.typed m l at f body name names (Some one_mux) (Some one_out) (sym e ∙ ap (λ (z : Port). z.node) s)) tt
      where
        IsMux : Option GatherNode → Type 0
        IsMux (Some one_mux) = Unit {0}
        IsMux _ = ⊥
    not_left r e (on_way s q h x (still_out o w)) = inside r.node (Some one_mux) e o
    not_left r e (on_way s q h x (went_in p0 i w u)) = never_in g loops has m mark off s q p0 h x w i

    pub gathered_own_off : OffCycle T loops' m
    gathered_own_off p q r h x w y =
        not_left r (ap (λ (z : Port). z.node) (fresh_node r (subst (λ z. IsFresh z r) own_here y))) (left_walk p r (at_out (exit_to p q x h)) w)

  pub gathered_off_cycle : (n : Name) → IsMark g n → OffCycle g loops n → OffCycle T loops' n
  gathered_off_cycle n mn off =
      elim (name_cases n m) [
        | inl is ↦ subst (OffCycle T loops') (sym is.is) (gathered_own_off (subst (OffCycle g loops) is.is off))
        | inr ne ↦ gathered_other_off n ne.is_not mn off
      ]
