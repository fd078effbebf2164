-- A loop of one lane whose body is a function: the Init m, a Mux, a Pure, a Split, a Fork and a Branch.
use Rattle.std.proofs.Common.{◌≡◌, ◌≢◌, ◌⊎◌, inl, inr, ℕ, ◌+◌, ◌≤◌, refl, sym, ap, subst, ◌∙◌, Bool, List, [], ◌∷◌, ◌++◌, length, Some, arith, append-nil}
use Rattle.components.specs.Kind.{Shape, ins, outs}
use Rattle.components.specs.Name.{Name, Port, port_get}
use Rattle.components.specs.declared.kind.Kind.{Kind}
use Rattle.components.specs.declared.kind.Kind.TheVariants.{Fork, Split, Mux, Branch, Init, Pure}
use Rattle.fun_expr.specs.Function.{Function, fun_size}
use Rattle.std.specs.List.{concat}
use Rattle.circuits.specs.Circuit.{Circuit, Typed}
use Rattle.circuits.specs.Root.{PassesThrough, Root, Root.here, Root.past}
use Rattle.circuits.specs.Replacing.{In, In.head, In.tail}
use Rattle.std.proofs.lemmas.Option.{same_Some}
use Rattle.loop_laws.specs.Polarity.{back_out, exit_bit, back_in}
use Rattle.loop_laws.specs.Reached.{port_at, OnTree, OnTree.root, OnTree.grown, IsLane, Reached, Reached.first, Reached.later, IsPassed, IsPure, HasKind}
use Rattle.loop_laws.specs.BackPath.{IsBuffer, Through, IsLaneBranch}
use Rattle.loop_laws.specs.Feeders.{IsConstant, AreConstant, Feeder}
use Rattle.loop_laws.specs.BodyOrder.{IsReady, InBodyOrder}
use Rattle.loop_laws.specs.Weight.{weight, weight_of}
use Rattle.loop_laws.specs.Loop.{Lane, Loop, HasLane, HasBranch, IsInside, IsLaneOf, LoopAt}
use Rattle.loop_laws.proofs.BackPaths.{same_start}
use Rattle.loop_laws.proofs.NodeKinds.{kind_is, only_input, only_output, two_ports}
use Rattle.loop_laws.proofs.Constants.{constant_kind, constant_fed}
use Rattle.loop_laws.proofs.ShareNone.{first_output}
use Rattle.loop_turns.proofs.Lists.{constants_back}

-- the nodes and wires of such a loop
pub record OneLane (T : Circuit) (m mux pure pair cond branch : Name) (d : Bool) (tags : ℕ) (a : Shape) (f : Function) : Type 0 where
  pub is_mark : T.kind_at m ≡ Some (Init (exit_bit d) tags)
  pub is_mux : T.kind_at mux ≡ Some (Mux a)
  pub is_pure : T.kind_at pure ≡ Some (Pure f (a ++ 1 ∷ []))
  pub is_pair : T.kind_at pair ≡ Some (Split (a ∷ (1 ∷ []) ∷ []))
  pub is_cond : T.kind_at cond ≡ Some (Fork (1 ∷ []) 2)
  pub is_branch : T.kind_at branch ≡ Some (Branch a)
  pub selects : T.feeder (port_at mux 1) ≡ Some (port_at m 1)
  pub turns : T.feeder (port_at mux (back_in d)) ≡ Some (port_at branch (back_out d))
  pub to_pure : T.feeder (port_at pure 1) ≡ Some (port_at mux 1)
  pub to_pair : T.feeder (port_at pair 1) ≡ Some (port_at pure 1)
  pub to_cond : T.feeder (port_at cond 1) ≡ Some (port_at pair 2)
  pub to_branch : T.feeder (port_at branch 1) ≡ Some (port_at pair 1)
  pub decides : T.feeder (port_at branch 2) ≡ Some (port_at cond 1)
  pub to_mark : T.feeder (port_at m 1) ≡ Some (port_at cond 2)

module _ (T : Circuit) (ty : Typed T) (m mux pure pair cond branch : Name) (d : Bool) (tags : ℕ) (a : Shape) (f : Function) (one : OneLane T m mux pure pair cond branch d tags a f) where
  abbrev lane_of : Lane
  lane_of = record { mux = mux; branch = branch; back = []; shape = a }

  abbrev L : Loop
  L = record { tags = tags; goes_back = d; tree = []; lanes = lane_of ∷ []; body = pure ∷ pair ∷ cond ∷ [] }

  -- a wire out of the only output of n
  from_only : (n : Name) (k : Kind) (b : Shape) (p q r : Port) → T.kind_at n ≡ Some k → outs k ≡ b ∷ [] → q.node ≡ n → T.feeder p ≡ Some q → T.feeder r ≡ Some (port_at n 1) → p ≡ r
  from_only n k b p q r e o is h h' =
      let port : q.port ≡ 1 = only_output T ty p q h (k, ap T.kind_at is ∙ e, (b, o)) in
      ty.once p r (port_at n 1) (h ∙ ap Some (ap (λ z. port_at z q.port) is ∙ ap (port_at n) port)) h'

  -- a wire out of one of the two outputs of n
  from_two : (n : Name) (k : Kind) (b c : Shape) (p q r s : Port) → T.kind_at n ≡ Some k → outs k ≡ b ∷ c ∷ [] → q.node ≡ n → T.feeder p ≡ Some q → T.feeder r ≡ Some (port_at n 1) → T.feeder s ≡ Some (port_at n 2) → (p ≡ r) ⊎ (p ≡ s)
  from_two n k b c p q r s e o is h h1 h2 =
      let w = ty.wires p q h in
      let kind : k ≡ w.from = same_Some k w.from (sym e ∙ ap T.kind_at (sym is) ∙ w.is_from) in
      elim (two_ports b c q.port w.shape (ap (λ z. port_get z q.port) (sym o) ∙ ap (λ z. port_get (outs z) q.port) kind ∙ w.leaves)) [
        | inl i ↦ inl (ty.once p r (port_at n 1) (h ∙ ap Some (ap (λ z. port_at z q.port) is ∙ ap (port_at n) i)) h1)
        | inr i ↦ inr (ty.once p s (port_at n 2) (h ∙ ap Some (ap (λ z. port_at z q.port) is ∙ ap (port_at n) i)) h2)
      ]

  from_mark : (p q : Port) → q.node ≡ m → T.feeder p ≡ Some q → p ≡ port_at mux 1
  from_mark p q e h = from_only m (Init (exit_bit d) tags) (1 ∷ []) p q (port_at mux 1) one.is_mark refl e h one.selects

  from_mux : (p q : Port) → q.node ≡ mux → T.feeder p ≡ Some q → p ≡ port_at pure 1
  from_mux p q e h = from_only mux (Mux a) a p q (port_at pure 1) one.is_mux refl e h one.to_pure

  from_pure : (p q : Port) → q.node ≡ pure → T.feeder p ≡ Some q → p ≡ port_at pair 1
  from_pure p q e h = from_only pure (Pure f (a ++ 1 ∷ [])) (a ++ 1 ∷ []) p q (port_at pair 1) one.is_pure refl e h one.to_pair

  from_pair : (p q : Port) → q.node ≡ pair → T.feeder p ≡ Some q → (p ≡ port_at branch 1) ⊎ (p ≡ port_at cond 1)
  from_pair p q e h = from_two pair (Split (a ∷ (1 ∷ []) ∷ [])) a (1 ∷ []) p q (port_at branch 1) (port_at cond 1) one.is_pair refl e h one.to_branch one.to_cond

  from_cond : (p q : Port) → q.node ≡ cond → T.feeder p ≡ Some q → (p ≡ port_at branch 2) ⊎ (p ≡ port_at m 1)
  from_cond p q e h = from_two cond (Fork (1 ∷ []) 2) (1 ∷ []) (1 ∷ []) p q (port_at branch 2) (port_at m 1) one.is_cond refl e h one.decides one.to_mark

  -- what feeds the only input of n
  into_only : (n : Name) (k : Kind) (b : Shape) (p q r : Port) → T.kind_at n ≡ Some k → ins k ≡ b ∷ [] → p.node ≡ n → T.feeder p ≡ Some q → T.feeder (port_at n 1) ≡ Some r → q ≡ r
  into_only n k b p q r e o is h h' =
      let port : p.port ≡ 1 = only_input T ty p q h (k, ap T.kind_at is ∙ e, (b, o)) in
      same_Some q r (sym h ∙ ap T.feeder (ap (λ z. port_at z p.port) is ∙ ap (port_at n) port) ∙ h')

  abbrev Within : Name → Type 0
  Within n = (n ≡ mux) ⊎ In n L.body

  into_mark : (p q : Port) → p.node ≡ m → T.feeder p ≡ Some q → Within q.node
  into_mark p q e h = inr (tail (tail (head (ap (λ (z : Port). z.node) (into_only m (Init (exit_bit d) tags) (1 ∷ []) p q (port_at cond 2) one.is_mark refl e h one.to_mark)))))

  into_branch : (p q : Port) → p.node ≡ branch → T.feeder p ≡ Some q → Within q.node
  into_branch p q e h =
      let w = ty.wires p q h in
      let kind : Branch a ≡ w.to = same_Some (Branch a) w.to (sym one.is_branch ∙ ap T.kind_at (sym e) ∙ w.is_to) in
      elim (two_ports a (1 ∷ []) p.port w.shape (ap (λ z. port_get (ins z) p.port) kind ∙ w.enters)) [
        | inl i ↦ inr (tail (head (ap (λ (z : Port). z.node) (same_Some q (port_at pair 1) (sym h ∙ ap T.feeder (ap (λ z. port_at z p.port) e ∙ ap (port_at branch) i) ∙ one.to_branch)))))
        | inr i ↦ inr (tail (tail (head (ap (λ (z : Port). z.node) (same_Some q (port_at cond 1) (sym h ∙ ap T.feeder (ap (λ z. port_at z p.port) e ∙ ap (port_at branch) i) ∙ one.decides))))))
      ]

  into_pure : (p q : Port) → p.node ≡ pure → T.feeder p ≡ Some q → q ≡ port_at mux 1
  into_pure p q e h = into_only pure (Pure f (a ++ 1 ∷ [])) f.input p q (port_at mux 1) one.is_pure refl e h one.to_pure

  into_pair : (p q : Port) → p.node ≡ pair → T.feeder p ≡ Some q → q ≡ port_at pure 1
  into_pair p q e h = into_only pair (Split (a ∷ (1 ∷ []) ∷ [])) (concat (a ∷ (1 ∷ []) ∷ [])) p q (port_at pure 1) one.is_pair refl e h one.to_pair

  into_cond : (p q : Port) → p.node ≡ cond → T.feeder p ≡ Some q → q ≡ port_at pair 2
  into_cond p q e h = into_only cond (Fork (1 ∷ []) 2) (1 ∷ []) p q (port_at pair 2) one.is_cond refl e h one.to_cond

  body_fed : (n : Name) → In n L.body → (p q : Port) → p.node ≡ n → T.feeder p ≡ Some q → Within q.node
  body_fed n (head s) p q e h = inl (ap (λ (z : Port). z.node) (into_pure p q (e ∙ s) h))
  body_fed n (tail (head s)) p q e h = inr (head (ap (λ (z : Port). z.node) (into_pair p q (e ∙ s) h)))
  body_fed n (tail (tail (head s))) p q e h = inr (tail (head (ap (λ (z : Port). z.node) (into_cond p q (e ∙ s) h))))
  body_fed n (tail (tail (tail i))) p q e h = elim i [ ]

  -- the tree is empty, and there is one lane
  on_tree : (n : Name) → OnTree T m n → n ≡ m
  on_tree n (root e) = e
  on_tree n (grown i q k t h e tree) =
      let at_mux : port_at n i ≡ port_at mux 1 = from_mark (port_at n i) q (on_tree q.node t) h in
      absurd (kind_is T PassesThrough n (Mux a) (k, e, tree) (ap (λ (z : Port). T.kind_at z.node) at_mux ∙ one.is_mux))

  the_lane : HasLane L mux
  the_lane = (lane_of, head refl, refl)

  has_lane : (n : Name) → HasLane L n → n ≡ mux
  has_lane n (x, head e, s) = sym s ∙ ap (λ (z : Lane). z.mux) e
  has_lane n (x, tail i, s) = elim i [ ]

  has_branch : (n : Name) → HasBranch L n → n ≡ branch
  has_branch n (x, head e, s) = sym s ∙ ap (λ (z : Lane). z.branch) e
  has_branch n (x, tail i, s) = elim i [ ]

  lane_here : IsLane T m mux
  lane_here = record { shape = a; is_mux = one.is_mux; source = port_at m 1; fed = one.selects; by_tree = root refl }

  lane_is : (n : Name) → IsLane T m n → n ≡ mux
  lane_is n x = ap (λ (z : Port). z.node) (from_mark (port_at n 1) x.source (on_tree x.source.node x.by_tree) x.fed)

  the_lane_is : IsLaneOf T d lane_of
  the_lane_is = record { is_mux = one.is_mux; is_branch = one.is_branch; path = one.turns }

  each_lane : (x : Lane) → In x L.lanes → IsLaneOf T d x
  each_lane x (head e) = subst (IsLaneOf T d) (sym e) the_lane_is
  each_lane x (tail i) = elim i [ ]

  -- what is reached
  not_branch : (n : Name) → IsPassed T m n → n ≡ branch → ⊥
  not_branch n pass e = pass.1 a (ap T.kind_at e ∙ one.is_branch)

  body_goes : (n : Name) (i : ℕ) (q : Port) → In q.node L.body → T.feeder (port_at n i) ≡ Some q → IsPassed T m n → In n L.body
  body_goes n i q (head e) h pass = tail (head (ap (λ (z : Port). z.node) (from_pure (port_at n i) q e h)))
  body_goes n i q (tail (head e)) h pass =
      elim (from_pair (port_at n i) q e h) [
        | inl s ↦ absurd (not_branch n pass (ap (λ (z : Port). z.node) s))
        | inr s ↦ tail (tail (head (ap (λ (z : Port). z.node) s)))
      ]
  body_goes n i q (tail (tail (head e))) h pass =
      elim (from_cond (port_at n i) q e h) [
        | inl s ↦ absurd (not_branch n pass (ap (λ (z : Port). z.node) s))
        | inr s ↦ absurd (pass.0 (ap (λ (z : Port). z.node) s))
      ]
  body_goes n i q (tail (tail (tail x))) h pass = elim x [ ]

  reached_body : (n : Name) → Reached T m n → In n L.body
  reached_body n (first i q x h pass) = head (ap (λ (z : Port). z.node) (from_mux (port_at n i) q (lane_is q.node x) h))
  reached_body n (later i q r h pass) = body_goes n i q (reached_body q.node r) h pass

  abbrev IsInit : Kind → Type 0
  IsInit (Init v n) = Unit {0}
  IsInit _ = ⊥

  passed : (x : Name) (k : Kind) → T.kind_at x ≡ Some k → (IsInit k → ⊥) → ((b : Shape) → k ≢ Branch b) → IsPassed T m x
  passed x k e no_init none =
      ((λ s. no_init (subst IsInit (same_Some (Init (exit_bit d) tags) k (sym one.is_mark ∙ ap T.kind_at (sym s) ∙ e)) tt)), λ b h. none b (same_Some k (Branch b) (sym e ∙ h)))

  reached_pure : Reached T m pure
  reached_pure = first 1 (port_at mux 1) lane_here (one.to_pure) (passed pure _ one.is_pure (λ i. i) (λ b h. cc))

  reached_pair : Reached T m pair
  reached_pair = later 1 (port_at pure 1) reached_pure (one.to_pair) (passed pair _ one.is_pair (λ i. i) (λ b h. cc))

  reached_cond : Reached T m cond
  reached_cond = later 1 (port_at pair 2) reached_pair (one.to_cond) (passed cond _ one.is_cond (λ i. i) (λ b h. cc))

  body_reached : (n : Name) → In n L.body → Reached T m n
  body_reached n (head e) = subst (Reached T m) (sym e) reached_pure
  body_reached n (tail (head e)) = subst (Reached T m) (sym e) reached_pair
  body_reached n (tail (tail (head e))) = subst (Reached T m) (sym e) reached_cond
  body_reached n (tail (tail (tail i))) = elim i [ ]

  pure_kinds : (n : Name) → In n L.body → HasKind T IsPure n
  pure_kinds n (head e) = (_, ap T.kind_at e ∙ one.is_pure, tt)
  pure_kinds n (tail (head e)) = (_, ap T.kind_at e ∙ one.is_pair, tt)
  pure_kinds n (tail (tail (head e))) = (_, ap T.kind_at e ∙ one.is_cond, tt)
  pure_kinds n (tail (tail (tail i))) = elim i [ ]

  -- no constant node is within
  module _ (ns : List Name) (c : AreConstant T [] ns) where
    fed_in : (n : Name) → In n ns → (i : ℕ) (q : Port) → T.feeder (port_at n i) ≡ Some q → In q.node ns
    fed_in n i j q h = elim (constant_fed T [] ns n c i j q h) [ inl x ↦ elim x [ ] | inr x ↦ x ]

    no_mux : In mux ns → ⊥
    no_mux i = kind_is T IsConstant mux (Mux a) (constant_kind T [] ns mux c i) (one.is_mux)

    no_pure : In pure ns → ⊥
    no_pure i = no_mux (fed_in pure i 1 (port_at mux 1) (one.to_pure))

    no_pair : In pair ns → ⊥
    no_pair i = no_pure (fed_in pair i 1 (port_at pure 1) (one.to_pair))

    no_cond : In cond ns → ⊥
    no_cond i = no_pair (fed_in cond i 1 (port_at pair 2) (one.to_cond))

    none_within : (n : Name) → In n ns → Within n → ⊥
    none_within n i (inl e) = no_mux (subst (λ z. In z ns) e i)
    none_within n i (inr (head e)) = no_pure (subst (λ z. In z ns) e i)
    none_within n i (inr (tail (head e))) = no_pair (subst (λ z. In z ns) e i)
    none_within n i (inr (tail (tail (head e)))) = no_cond (subst (λ z. In z ns) e i)
    none_within n i (inr (tail (tail (tail x)))) = elim x [ ]

  branch_no_buffer : (y : Name) (a : Shape) → T.kind_at y ≡ Some (Branch a) → HasKind T IsBuffer y → ⊥
  branch_no_buffer y a e b = kind_is T IsBuffer y (Branch a) b e

  lane_branch : (r : Name) → IsLaneBranch T m d r → r ≡ branch
  lane_branch r (lane, b) =
      let same = same_start T (port_at mux (back_in d)) b.back [] (port_at r (back_out d)) (port_at branch (back_out d))
      (subst (λ z. Through T (port_at r (back_out d)) b.back (port_at z (back_in d))) (lane_is lane b.is_lane) b.path) the_lane_is.path
      (branch_no_buffer r b.shape b.is_branch) (branch_no_buffer branch a (one.is_branch)) in
      ap (λ (z : Port). z.node) same.0

  no_feeder : (n : Name) → Feeder T m d n → ⊥
  no_feeder n (ns, i, fs) = constants_back T ns (λ x. ⊥) step fs.constant n i
    where
      step : (n : Name) → In n ns → ((p q : Port) → T.feeder p ≡ Some q → q.node ≡ n → In p.node ns → ⊥) → ⊥
      step n i rest =
          let (k, e, c) = constant_kind T [] ns n fs.constant i in
          let (b, out) = first_output k c (ty.kinds n k e) in
          let (p, h) = ty.outputs (port_at n 1) k b e out in
          elim (fs.feeds p (port_at n 1) i h) [
            | inl j ↦ rest p (port_at n 1) h refl j
            | inr (inl r) ↦ none_within ns fs.constant n i (body_fed p.node (reached_body p.node r) p (port_at n 1) refl h)
            | inr (inr (inl b)) ↦ none_within ns fs.constant n i (into_branch p (port_at n 1) (lane_branch p.node b) h)
            | inr (inr (inr s)) ↦ none_within ns fs.constant n i (into_mark p (port_at n 1) s h)
          ]

  -- the order
  abbrev IsSplit : Kind → Type 0
  IsSplit (Split bs) = Unit {0}
  IsSplit _ = ⊥

  abbrev IsPureKind : Kind → Type 0
  IsPureKind (Pure g b) = Unit {0}
  IsPureKind _ = ⊥

  pair_not_pure : pair ≢ pure
  pair_not_pure e = subst IsSplit (same_Some (Split (a ∷ (1 ∷ []) ∷ [])) (Pure f (a ++ 1 ∷ [])) (sym one.is_pair ∙ ap T.kind_at e ∙ one.is_pure)) tt

  cond_not_pair : cond ≢ pair
  cond_not_pair e = subst IsSplit (same_Some (Split (a ∷ (1 ∷ []) ∷ [])) (Fork (1 ∷ []) 2) (sym one.is_pair ∙ ap T.kind_at (sym e) ∙ one.is_cond)) tt

  cond_not_pure : cond ≢ pure
  cond_not_pure e = subst IsPureKind (same_Some (Pure f (a ++ 1 ∷ [])) (Fork (1 ∷ []) 2) (sym one.is_pure ∙ ap T.kind_at (sym e) ∙ one.is_cond)) tt

  mux_no_body : In mux L.body → ⊥
  mux_no_body i = kind_is T IsPure mux (Mux a) (pure_kinds mux i) one.is_mux

  ready_pair : (placed : List Name) → IsReady T L.body placed pair → In pure placed
  ready_pair placed r = r.inputs 1 (port_at pure 1) one.to_pair (head refl)

  ready_cond : (placed : List Name) → IsReady T L.body placed cond → In pair placed
  ready_cond placed r = r.inputs 1 (port_at pair 2) one.to_cond (tail (head refl))

  order : InBodyOrder T L.body [] L.body
  order = (
    record { in_body = head refl; open_yet = λ i. elim i [ ]; inputs = λ i q h b. absurd (mux_no_body (subst (λ (z : Port). In z.node L.body) (into_pure (port_at pure i) q refl h) b)) },
    λ k r ne. absurd (first_least k r.in_body r ne),
    (
      record {
        in_body = tail (head refl);
        open_yet = λ i. elim i [ head e ↦ pair_not_pure e | tail j ↦ elim j [ ] ];
        inputs = λ i q h b. head (ap (λ (z : Port). z.node) (into_pair (port_at pair i) q refl h));
      },
      λ k r ne. absurd (second_least k r.in_body r ne),
      (
        record {
          in_body = tail (tail (head refl));
          open_yet = λ i. elim i [ head e ↦ cond_not_pair e | tail (head e) ↦ cond_not_pure e | tail (tail j) ↦ elim j [ ] ];
          inputs = λ i q h b. head (ap (λ (z : Port). z.node) (into_cond (port_at cond i) q refl h));
        },
        λ k r ne. absurd (third_least k r.in_body r ne),
        tt,
      ),
    ),
  )
    where
      first_least : (k : Name) → In k L.body → IsReady T L.body [] k → k ≢ pure → ⊥
      first_least k (head e) r ne = ne e
      first_least k (tail (head e)) r ne = elim (ready_pair [] (subst (IsReady T L.body []) e r)) [ ]
      first_least k (tail (tail (head e))) r ne = elim (ready_cond [] (subst (IsReady T L.body []) e r)) [ ]
      first_least k (tail (tail (tail i))) r ne = elim i [ ]

      second_least : (k : Name) → In k L.body → IsReady T L.body (pure ∷ []) k → k ≢ pair → ⊥
      second_least k (head e) r ne = r.open_yet (head e)
      second_least k (tail (head e)) r ne = ne e
      second_least k (tail (tail (head e))) r ne =
          elim (ready_cond (pure ∷ []) (subst (IsReady T L.body (pure ∷ [])) e r)) [ head s ↦ pair_not_pure s | tail j ↦ elim j [ ] ]
      second_least k (tail (tail (tail i))) r ne = elim i [ ]

      third_least : (k : Name) → In k L.body → IsReady T L.body (pair ∷ pure ∷ []) k → k ≢ cond → ⊥
      third_least k (head e) r ne = r.open_yet (tail (head e))
      third_least k (tail (head e)) r ne = r.open_yet (head e)
      third_least k (tail (tail (head e))) r ne = ne e
      third_least k (tail (tail (tail i))) r ne = elim i [ ]

  weighs : weight_of T L.body ≡ fun_size f + (0 + (0 + 0))
  weighs =
      ap (λ k. weight k + (weight (T.kind_at pair) + (weight (T.kind_at cond) + 0))) (one.is_pure)
      ∙ ap (λ k. fun_size f + (weight k + (weight (T.kind_at cond) + 0))) (one.is_pair)
      ∙ ap (λ k. fun_size f + (0 + (weight k + 0))) (one.is_cond)

  -- the condition
  condition_root : Root T (port_at cond 1) (port_at pair 2)
  condition_root = here _ one.to_cond one.is_pair (λ h. h)

  branch_root : Root T (port_at branch 2) (port_at pair 2)
  branch_root = past (port_at cond 1) _ one.decides one.is_cond tt condition_root

  mark_root : Root T (port_at m 1) (port_at pair 2)
  mark_root = past (port_at cond 2) _ one.to_mark one.is_cond tt condition_root

  inside_within : (n : Name) → Within n → IsInside L n
  inside_within n (inl e) = inl (lane_of, head refl, sym e)
  inside_within n (inr b) = inr b

  -- a Branch that is fed from inside is the loop's
  entered : (p q : Port) (b : Shape) → IsInside L q.node → T.feeder p ≡ Some q → T.kind_at p.node ≡ Some (Branch b) → HasBranch L p.node
  entered p q b (inl x) h e =
      absurd (kind_is T IsPure p.node (Branch b) (pure_kinds p.node (head (ap (λ (z : Port). z.node) (from_mux p q (has_lane q.node x) h)))) e)
  entered p q b (inr (head s)) h e =
      absurd (kind_is T IsPure p.node (Branch b) (pure_kinds p.node (tail (head (ap (λ (z : Port). z.node) (from_pure p q s h))))) e)
  entered p q b (inr (tail (head s))) h e =
      elim (from_pair p q s h) [
        | inl t ↦ (lane_of, head refl, ap (λ (z : Port). z.node) (sym t))
        | inr t ↦ absurd (kind_is T IsPure p.node (Branch b) (pure_kinds p.node (tail (tail (head (ap (λ (z : Port). z.node) t))))) e)
      ]
  entered p q b (inr (tail (tail (head s)))) h e =
      elim (from_cond p q s h) [
        | inl t ↦ (lane_of, head refl, ap (λ (z : Port). z.node) (sym t))
        | inr t ↦ let z : Some (Branch b) ≡ Some (Init (exit_bit d) tags) = sym e ∙ ap T.kind_at (ap (λ (z : Port). z.node) t) ∙ one.is_mark in cc
      ]
  entered p q b (inr (tail (tail (tail i)))) h e = elim i [ ]

  pub one_lane_loop : 1 ≤ tags → length a ≤ 127 → fun_size f ≤ 16384 → LoopAt T m L
  one_lane_loop asks slim light =
      record {
        mark = (one.is_mark, asks);
        tree = record {
          tree = λ n. ((λ i. elim i [ ]), λ t. absurd (t.0 (on_tree n t.1)));
          tree_by_name = tt;
          leaves = λ p q t h.
              let s : p ≡ port_at mux 1 = from_mark p q (on_tree q.node t) h in
              inr (ap (λ (z : Port). z.port) s, (lane_of, head refl, ap (λ (z : Port). z.node) (sym s)));
          lanes = λ n. ((λ x. subst (IsLane T m) (sym (has_lane n x)) lane_here), λ x. (lane_of, head refl, sym (lane_is n x)));
          lanes_by_name = (tt, tt);
          each_lane = each_lane;
        };
        body = record {
          pure = λ n r. pure_kinds n (reached_body n r);
          body = λ n. ((λ i. inl (body_reached n i)), λ o. elim o [ inl r ↦ reached_body n r | inr x ↦ absurd (no_feeder n x) ]);
          closed = λ n b i q h. inside_within q.node (body_fed n b (port_at n i) q refl h);
          in_order = order;
          few = omega arith;
          light = subst (λ w. w ≤ 16384) (sym weighs) (omega arith);
        };
        branches = record {
          entered = entered;
          branches = λ r b i q h. inside_within q.node (into_branch (port_at r i) q (has_branch r b) h);
          data_lane = lane_of;
          is_data_lane = head refl;
          data_source = port_at pair 1;
          is_data = one.to_branch;
          bound_data = inr reached_pair;
        };
        condition = record {
          condition = port_at pair 2;
          decides = λ r b. subst (λ z. Root T (port_at z 2) (port_at pair 2)) (sym (has_branch r b)) branch_root;
          decides_mark = mark_root;
          bound = no_feeder pair;
        };
        narrow = omega arith;
        slim = subst (λ (z : Shape). length z ≤ 127) (sym (append-nil a)) slim;
      }
