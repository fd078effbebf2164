-- A graph with one loop rebuilt: it is typed, and every other loop stays, off cycle.
use Rattle.std.proofs.Common.{◌≡◌, ◌≢◌, ◌⊎◌, inl, inr, ℕ, ◌<◌, refl, sym, ap, subst, ◌∙◌, length, Option, Some, None}
use Rattle.components.specs.Kind.{Shape, ins, outs, KindOk}
use Rattle.components.specs.Name.{Name, Port, port_get}
use Rattle.components.specs.declared.kind.Kind.{Kind}
use Rattle.components.specs.declared.kind.Kind.TheVariants.{Mux, Branch, Init}
use Rattle.circuits.specs.Circuit.{Circuit, Typed, Wire}
use Rattle.circuits.proofs.Names.{name_cases}
use Rattle.circuits.proofs.Beside.{none_some}
use Rattle.loop_laws.specs.Polarity.{exit_bit, IsMark}
use Rattle.loop_laws.specs.Loop.{Loop, LoopAt, NodeOf, NodeOf.is_mark, NodeOf.in_tree, NodeOf.lane, NodeOf.branch, NodeOf.in_back, NodeOf.in_body, IsFresh, IsExit}
use Rattle.loop_laws.specs.OffCycle.{AllLoops, InLoop, GoesOnBy, GoesOnBy.out_of_loop, GoesOnBy.out_of_node, Walk, Walk.here, Walk.on, OffCycle}
use Rattle.loop_laws.proofs.Closed.{Inner, inner_node, inner_fed, exit_or_inner, lane_kind, branch_kind, back_kind, body_kind, tree_kind}
use Rattle.loop_laws.proofs.ShareNone.{share_none}
use Rattle.loop_turns.proofs.LoopKept.{Keeps, loop_kept}

abbrev pub HasIn : Circuit → Port → Shape → Type 0
HasIn g p a = (k : Kind) × (g.kind_at p.node ≡ Some k) × (port_get (ins k) p.port ≡ Some a)

abbrev pub HasOut : Circuit → Port → Shape → Type 0
HasOut g q a = (k : Kind) × (g.kind_at q.node ≡ Some k) × (port_get (outs k) q.port ≡ Some a)

abbrev pub Outside : Circuit → Name → Loop → Name → Type 0
Outside g m l n = (k : Kind) × (g.kind_at n ≡ Some k) × (NodeOf m l n → ⊥)

-- a wire of h that was one of g
pub record Was (g : Circuit) (InOf OutOf : Port → Port → Type 0) (p q : Port) : Type 0 where
  pub target : Port
  pub source : Port
  pub into : InOf target p
  pub out : OutOf source q
  pub wire : g.feeder target ≡ Some source

-- h is g with the loop l at m rebuilt: InOf and OutOf say which ports of h stand for ports of g, and Own which wires are new
pub record Rewires (g h : Circuit) (m : Name) (l : Loop) (InOf OutOf Own : Port → Port → Type 0) : Type 0 where
  pub old_wire : (p q : Port) → h.feeder p ≡ Some q → Was g InOf OutOf p q ⊎ Own p q
  pub new_wire : (p0 p q0 : Port) → InOf p0 p → g.feeder p0 ≡ Some q0 → (q : Port) × OutOf q0 q × (h.feeder p ≡ Some q)
  pub own_wire : (p q : Port) → Own p q → h.feeder p ≡ Some q
  pub in_shape : (p0 p : Port) (a : Shape) → InOf p0 p → HasIn g p0 a → HasIn h p a
  pub out_shape : (q0 q : Port) (a : Shape) → OutOf q0 q → HasOut g q0 a → HasOut h q a
  pub own_shape : (p q : Port) → Own p q → (a : Shape) × HasIn h p a × HasOut h q a
  pub inputs : (p : Port) (a : Shape) → HasIn h p a → ((p0 : Port) × InOf p0 p × (b : Shape) × HasIn g p0 b) ⊎ ((q : Port) × Own p q)
  pub outputs : (q : Port) (a : Shape) → HasOut h q a → ((q0 : Port) × OutOf q0 q × (b : Shape) × HasOut g q0 b) ⊎ ((p : Port) × Own p q)
  pub out_goes : (p0 q0 q : Port) → OutOf q0 q → g.feeder p0 ≡ Some q0 → (p : Port) × InOf p0 p
  pub in_one : (p0 p r : Port) → InOf p0 p → InOf p0 r → p ≡ r
  pub out_one : (q0 q r : Port) → OutOf q0 q → OutOf q0 r → q ≡ r
  pub out_from : (q0 q1 q : Port) → OutOf q0 q → OutOf q1 q → q0 ≡ q1
  pub own_one : (p r q : Port) → Own p q → Own r q → p ≡ r
  pub out_no_own : (q0 p q : Port) → OutOf q0 q → Own p q → ⊥
  pub kinds : (n : Name) (k : Kind) → h.kind_at n ≡ Some k → KindOk k
  pub names : (size : ℕ) × ((n : Name) (k : Kind) → h.kind_at n ≡ Some k → length n < size)
  -- what is outside stays
  pub keeps_kind : (n : Name) → Outside g m l n → h.kind_at n ≡ g.kind_at n
  pub keeps_in : (p : Port) → Outside g m l p.node → InOf p p
  pub in_cases : (p0 p : Port) → InOf p0 p → ((p0 ≡ p) × Outside g m l p.node) ⊎ (NodeOf m l p0.node × (Outside g m l p.node → ⊥))
  pub out_cases : (q0 q : Port) → OutOf q0 q → ((q0 ≡ q) × Outside g m l q.node) ⊎ (NodeOf m l q0.node × (Outside g m l q.node → ⊥))
  pub own_in : (p q : Port) → Own p q → Outside g m l p.node → ⊥
  pub own_out : (p q : Port) → Own p q → Outside g m l q.node → ⊥
  pub marks : (n : Name) → IsMark h n → (n ≡ m) ⊎ ((n ≢ m) × IsMark g n)

module _ (g h : Circuit) (m : Name) (l : Loop) (InOf OutOf Own : Port → Port → Type 0) (re : Rewires g h m l InOf OutOf Own) (ty : Typed g) where
  wire_shapes : (p0 q0 : Port) → g.feeder p0 ≡ Some q0 → (a : Shape) × HasIn g p0 a × HasOut g q0 a
  wire_shapes p0 q0 f = let w = ty.wires p0 q0 f in (w.shape, (w.to, w.is_to, w.enters), (w.from, w.is_from, w.leaves))

  wire_of : (p q : Port) (a : Shape) → HasIn h p a → HasOut h q a → Wire h q p
  wire_of p q a (k, e, i) (k', e', o) = record { to = k; from = k'; shape = a; is_to = e; is_from = e'; enters = i; leaves = o }

  wire_typed : (p q : Port) → Was g InOf OutOf p q ⊎ Own p q → Wire h q p
  wire_typed p q (inl w) =
      let s = wire_shapes w.target w.source w.wire in
      wire_of p q s.0 (re.in_shape w.target p s.0 w.into s.1) (re.out_shape w.source q s.0 w.out s.2)
  wire_typed p q (inr o) = let s = re.own_shape p q o in wire_of p q s.0 s.1 s.2

  input_fed : (p : Port) → ((p0 : Port) × InOf p0 p × (b : Shape) × HasIn g p0 b) ⊎ ((q : Port) × Own p q) → (q : Port) × (h.feeder p ≡ Some q)
  input_fed p (inl x) =
      let (q0, f) = ty.inputs x.0 x.3.0 x.2 x.3.1 x.3.2 in
      let n = re.new_wire x.0 p q0 x.1 f in (n.0, n.2)
  input_fed p (inr o) = (o.0, re.own_wire p o.0 o.1)

  output_feeds : (q : Port) → ((q0 : Port) × OutOf q0 q × (b : Shape) × HasOut g q0 b) ⊎ ((p : Port) × Own p q) → (p : Port) × (h.feeder p ≡ Some q)
  output_feeds q (inl x) =
      let (p0, f) = ty.outputs x.0 x.3.0 x.2 x.3.1 x.3.2 in
      let (p, i) = re.out_goes p0 x.0 q x.1 f in
      let n = re.new_wire p0 p x.0 i f in
      (p, n.2 ∙ ap Some (re.out_one x.0 n.0 q n.1 x.1))
  output_feeds q (inr o) = (o.0, re.own_wire o.0 q o.1)

  once_at : (p r q : Port) → Was g InOf OutOf p q ⊎ Own p q → Was g InOf OutOf r q ⊎ Own r q → p ≡ r
  once_at p r q (inl w) (inl v) =
      let e : w.source ≡ v.source = re.out_from w.source v.source q w.out v.out in
      let t : w.target ≡ v.target = ty.once w.target v.target w.source w.wire (v.wire ∙ ap Some (sym e)) in
      re.in_one v.target p r (subst (λ z. InOf z p) t w.into) v.into
  once_at p r q (inl w) (inr o) = absurd (re.out_no_own w.source r q w.out o)
  once_at p r q (inr o) (inl w) = absurd (re.out_no_own w.source p q w.out o)
  once_at p r q (inr o) (inr u) = re.own_one p r q o u

  pub rewired_typed : Typed h
  rewired_typed =
      record {
        kinds = re.kinds;
        wires = λ p q f. wire_typed p q (re.old_wire p q f);
        inputs = λ p k a e i. input_fed p (re.inputs p a (k, e, i));
        outputs = λ q k a e o. output_feeds q (re.outputs q a (k, e, o));
        once = λ p r q f f'. once_at p r q (re.old_wire p q f) (re.old_wire r q f');
        names = re.names;
      }

  module _ (at : LoopAt g m l) where
    node_kind : (n : Name) (k : Loop) → LoopAt g n k → (y : Name) → NodeOf n k y → (a : Kind) × (g.kind_at y ≡ Some a)
    node_kind n k j y (is_mark e) = (Init (exit_bit k.goes_back) k.tags, ap g.kind_at e ∙ j.mark.0)
    node_kind n k j y (in_tree i) = let t = tree_kind g ty n k j y i in (t.0, t.1)
    node_kind n k j y (lane x) = let t = lane_kind g ty n k j y x in (Mux t.0, t.1)
    node_kind n k j y (branch x) = let t = branch_kind g ty n k j y x in (Branch t.0, t.1)
    node_kind n k j y (in_back x u i) = let t = back_kind g ty n k j x y u i in (t.0, t.1)
    node_kind n k j y (in_body i) = let t = body_kind g ty n k j y i in (t.0, t.1)

    -- another loop's nodes are outside
    pub other_outside : (n : Name) (k : Loop) → LoopAt g n k → n ≢ m → (y : Name) → NodeOf n k y → Outside g m l y
    other_outside n k j away y o =
        let t = node_kind n k j y o in
        (t.0, t.1, λ z. share_none g ty n m k l j at away y o z)

    module _ (n : Name) (k : Loop) (j : LoopAt g n k) (away : n ≢ m) where
      fed_same : (p q : Port) → Outside g m l p.node → Outside g m l q.node → g.feeder p ≡ Some q → h.feeder p ≡ Some q
      fed_same p q o u f =
          let w = re.new_wire p p q (re.keeps_in p o) f in
          elim (re.out_cases q w.0 w.1) [ inl e ↦ w.2 ∙ ap Some (sym e.0) | inr e ↦ absurd (u.2 e.0) ]

      none_at : (p : Port) → Outside g m l p.node → g.feeder p ≡ None → (o : Option Port) → h.feeder p ≡ o → o ≡ None
      none_at p o f None e = refl
      none_at p o f (Some q) e =
          elim (re.old_wire p q e) [
            | inl w ↦ elim (re.in_cases w.target p w.into) [
              | inl s ↦ absurd (none_some (g.feeder p) w.source f (ap g.feeder (sym s.0) ∙ w.wire))
              | inr s ↦ absurd (s.1 o)
            ]
            | inr own ↦ absurd (re.own_in p q own o)
          ]

      inner_same : (p : Port) → Inner n k p → (o : Option Port) → g.feeder p ≡ o → h.feeder p ≡ o
      inner_same p i None f = none_at p (other_outside n k j away p.node (inner_node n k p i)) f (h.feeder p) refl
      inner_same p i (Some q) f =
          fed_same p q (other_outside n k j away p.node (inner_node n k p i)) (other_outside n k j away q.node (inner_fed g ty n k j p q i f).node) f

      outer_same : (p q : Port) → NodeOf n k q.node → (IsExit k q → ⊥) → Was g InOf OutOf p q ⊎ Own p q → g.feeder p ≡ Some q
      outer_same p q o inw (inr own) = absurd (re.own_out p q own (other_outside n k j away q.node o))
      outer_same p q o inw (inl w) =
          elim (re.out_cases w.source q w.out) [
            | inr u ↦ absurd (u.1 (other_outside n k j away q.node o))
            | inl u ↦ elim (re.in_cases w.target p w.into) [
              | inl s ↦ ap g.feeder (sym s.0) ∙ w.wire ∙ ap Some u.0
              | inr s ↦
                  let f : g.feeder w.target ≡ Some q = w.wire ∙ ap Some u.0 in
                  elim (exit_or_inner g ty n k j w.target q f o) [
                    | inl x ↦ absurd (inw x)
                    | inr i ↦ absurd (share_none g ty n m k l j at away w.target.node (inner_node n k w.target i) s.0)
                  ]
            ]
          ]

      other_keeps : Keeps g h n k
      other_keeps =
          record {
            kinds = λ y o. re.keeps_kind y (other_outside n k j away y o);
            inner = λ p i. inner_same p i (g.feeder p) refl;
            outer = λ p q o inw f. outer_same p q o inw (re.old_wire p q f);
          }

      -- another mark has its loop still
      pub other_loop : LoopAt h n k
      other_loop = loop_kept g h ty rewired_typed n k j other_keeps

    -- the loops of h: the others are those of g, and m's, if it still has one, is not outside
    module _ (loops loops' : Name → Loop) (all : AllLoops g loops) (mark : IsMark g m) (same : loops m ≡ l) (others : (n : Name) → n ≢ m → loops' n ≡ loops n)
        (own_node : (y : Name) → IsMark h m → NodeOf m (loops' m) y → Outside g m l y → ⊥)
        (own_exit : (r q : Port) → IsMark h m → IsExit (loops' m) q → h.feeder r ≡ Some q → Outside g m l r.node → ⊥) where
      -- a walk of h, as one of g: outside it is the same, else it came into the loop at m
      pub data Came (s p : Port) : Type 0 where
        still_out : Outside g m l p.node → Walk g loops s p → Came s p
        went_in : (p0 : Port) → NodeOf m l p0.node → Walk g loops s p0 → (Outside g m l p.node → ⊥) → Came s p

      pub arrive : (s p0 p : Port) → InOf p0 p → Walk g loops s p0 → Came s p
      arrive s p0 p i w =
          elim (re.in_cases p0 p i) [
            | inl e ↦ still_out e.1 (subst (Walk g loops s) e.0 w)
            | inr e ↦ went_in p0 e.0 w e.1
          ]

      mark_kept : (n : Name) → n ≢ m → IsMark g n → IsMark h n
      mark_kept n away (v, t, e, some) =
          let o : Outside g m l n = other_outside n (loops n) (all n (v, t, e, some)) away n (is_mark refl) in
          (v, t, re.keeps_kind n o ∙ e, some)

      node_of_other : (n : Name) → n ≢ m → IsMark g n → (y : Name) → NodeOf n (loops' n) y → Outside g m l y
      node_of_other n away mn y o = other_outside n (loops n) (all n mn) away y (subst (λ z. NodeOf n z y) (others n away) o)

      outside_no_loop : (y : Name) → Outside g m l y → (InLoop h loops' y → ⊥) → InLoop g loops y → ⊥
      outside_no_loop y o none (n, mn, i) =
          elim (name_cases n m) [
            | inl is ↦ o.2 (subst (λ z. NodeOf z l y) is.is (subst (λ z. NodeOf n z y) (ap loops is.is ∙ same) i))
            | inr ne ↦ none (n, mark_kept n ne.is_not mn, subst (λ z. NodeOf n z y) (sym (others n ne.is_not)) i)
          ]

      -- one step from outside
      step_out : (s p r q : Port) → Outside g m l p.node → Walk g loops s p → Outside g m l q.node → h.feeder r ≡ Some q → ((r0 : Port) → g.feeder r0 ≡ Some q → GoesOnBy g loops p r0) → Came s r
      step_out s p r q o w u f goes =
          elim (re.old_wire r q f) [
            | inr own ↦ absurd (re.own_out r q own u)
            | inl was ↦ elim (re.out_cases was.source q was.out) [
              | inr c ↦ absurd (c.1 u)
              | inl c ↦ arrive s was.target r was.into (on p w (goes was.target (was.wire ∙ ap Some c.0)))
            ]
          ]

      -- one step from within
      step_in : (s p0 r q : Port) → NodeOf m l p0.node → Walk g loops s p0 → (Outside g m l q.node → ⊥) → h.feeder r ≡ Some q → Came s r
      step_in s p0 r q o w u f =
          elim (re.old_wire r q f) [
            | inr own ↦ went_in p0 o w (re.own_in r q own)
            | inl was ↦ elim (re.out_cases was.source q was.out) [
              | inl c ↦ absurd (u c.1)
              | inr c ↦ elim (exit_or_inner g ty m l at was.target was.source was.wire c.0) [
                | inl x ↦
                    arrive s was.target r was.into
                    (on p0 w (out_of_loop m was.source mark (subst (λ z. NodeOf m z p0.node) (sym same) o) (subst (λ z. IsExit z was.source) (sym same) x) was.wire))
                | inr i ↦ elim (re.in_cases was.target r was.into) [
                  | inl e ↦ absurd (e.1.2 (subst (λ (z : Port). NodeOf m l z.node) e.0 (inner_node m l was.target i)))
                  | inr e ↦ went_in p0 o w e.1
                ]
              ]
            ]
          ]

      exit_outside : (n : Name) (q : Port) → n ≢ m → IsMark g n → IsExit (loops' n) q → Outside g m l q.node
      exit_outside n q away mn x =
          let y : IsExit (loops n) q = subst (λ z. IsExit z q) (others n away) x in
          other_outside n (loops n) (all n mn) away q.node (branch (y.0, y.1, ap (λ (z : Port). z.node) (sym y.2)))

      pub step : (s p r : Port) → Came s p → GoesOnBy h loops' p r → Came s r
      step s p r (still_out o w) (out_of_node q none e f) =
          step_out s p r q o w (subst (Outside g m l) (sym e) o) f (λ r0 g0. out_of_node q (outside_no_loop p.node o none) e g0)
      step s p r (went_in p0 i w u) (out_of_node q none e f) = step_in s p0 r q i w (λ o. u (subst (Outside g m l) e o)) f
      step s p r c (out_of_loop n q mn i x f) = from_loop c (re.marks n mn)
        where
          other : n ≢ m → IsMark g n → Came s p → Came s r
          other away mg (still_out o w) =
              step_out s p r q o w (exit_outside n q away mg x) f
              (λ r0 g0. out_of_loop n q mg (subst (λ z. NodeOf n z p.node) (others n away) i) (subst (λ z. IsExit z q) (others n away) x) g0)
          other away mg (went_in p0 k w u) = absurd (u (node_of_other n away mg p.node i))

          own : n ≡ m → Came s p → Came s r
          own e (still_out o w) = absurd (own_node p.node (subst (IsMark h) e mn) (subst (λ z. NodeOf z (loops' z) p.node) e i) o)
          own e (went_in p0 k w u) = went_in p0 k w (own_exit r q (subst (IsMark h) e mn) (subst (λ z. IsExit (loops' z) q) e x) f)

          from_loop : Came s p → (n ≡ m) ⊎ ((n ≢ m) × IsMark g n) → Came s r
          from_loop c (inl e) = own e c
          from_loop c (inr e) = other e.0 e.1 c

      walked : (s p r : Port) → Came s p → Walk h loops' p r → Came s r
      walked s p r c (here e) = subst (Came s) e c
      walked s p r c (on t w goes) = step s t r (walked s p t c w) goes

      -- a walk of h from an exit of another loop to a fresh input of it is one of g
      pub other_off_cycle : (n : Name) → n ≢ m → IsMark g n → OffCycle g loops n → OffCycle h loops' n
      other_off_cycle n away mn off p q r f x w fresh =
          let o : Outside g m l q.node = exit_outside n q away mn x in
          elim (re.old_wire p q f) [
            | inr own ↦ re.own_out p q own o
            | inl was ↦ elim (re.out_cases was.source q was.out) [
              | inr c ↦ c.1 o
              | inl c ↦ finish was.target (was.wire ∙ ap Some c.0) (walked was.target p r (arrive was.target was.target p was.into (here refl)) w)
            ]
          ]
        where
          fresh_g : IsFresh (loops n) r
          fresh_g = subst (λ z. IsFresh z r) (others n away) fresh

          finish : (s : Port) → g.feeder s ≡ Some q → Came s r → ⊥
          finish s g0 (still_out o w) = off s q r g0 (subst (λ z. IsExit z q) (others n away) x) w fresh_g
          finish s g0 (went_in p0 i w u) = u (other_outside n (loops n) (all n mn) away r.node (lane (fresh_g.0, fresh_g.1, ap (λ (z : Port). z.node) (sym fresh_g.2))))

      pub others_have_loops : (n : Name) → n ≢ m → IsMark g n → LoopAt h n (loops' n)
      others_have_loops n away mn = subst (LoopAt h n) (sym (others n away)) (other_loop n (loops n) (all n mn) away)
