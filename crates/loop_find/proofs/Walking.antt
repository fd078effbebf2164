-- Walks along wires, step by step.
use Rattle.std.proofs.Common.{◌≡◌, ◌≢◌, ◌⊎◌, inl, inr, ℕ, zero, suc, ◌+◌, ◌<◌, ◌≤◌, Bool, true, not, refl, sym, ap, subst, ◌∙◌, List, [], ◌∷◌, ◌++◌, length, Option, Some, None, append-nil, append_assoc, arith}
use Rattle.std.specs.Prelude.{slice_get, unwrap_or}
use Rattle.std.specs.FinMap as finite
use Rattle.std.proofs.lemmas.Bool.{cases_eq, false≢true}
use Rattle.std.proofs.lemmas.Option.{same_Some, none-some, slice_get_within}
use Rattle.components.specs.declared.kind.Kind.{Kind}
use Rattle.components.specs.Name.{Name, Port, port_get}
use Rattle.components.specs.Kind.{outs}
use Rattle.components.specs.declared.node.Node.{Node}
use Rattle.components.specs.Node.{Body, body_of}
use Rattle.components.specs.Orders.{name_cases}
use Rattle.circuits.specs.Circuit.{circuit_of, kind_of_body}
use Rattle.circuits.specs.Replacing.{In, In.head, In.tail}
use Rattle.circuits.specs.Root.{PassesThrough}
use Rattle.loop_laws.specs.Reached.{port_at, IsPassed}
use Rattle.loop_laws.specs.Faults.{IsMux, IsBranch}
use Rattle.graph_core.specs.declared.place.NodeId.{NodeId}
use Rattle.graph_core.specs.declared.place.PortAt.{PortAt}
use Rattle.graph_core.specs.GraphValue.{GraphValue, Denotes, IsGraph, IsNodeAt, name_by, port_of}
use Rattle.graph_core.specs.Denoting.{denoted_by}
use Rattle.graph_core.specs.Ids.{id_cases}
use Rattle.loop_find.specs.declared.walk.Way.{Way}
use Rattle.loop_find.specs.declared.walk.Way.TheVariants as way_of
use Rattle.loop_find.specs.NodeSets.{IsPut}
use Rattle.loop_find.specs.Walks.{AreAll, AreLive, Enters, Follows, Grows, Has, HasBehind, HasFollowers, IsSelect, Picks, SteppedTo, WalkedTo, WalkedTo.begun, WalkedTo.onward, is_branch}
use Rattle.loop_find.proofs.WalkSteps.{Entering, Stepping, Underway}
use Rattle.loop_find.proofs.KindTests.{of_kind, tell_through, tell_mux, tell_is_branch, tell_branch, no_branch}
use Rattle.loop_find.proofs.Places.{in_at, at_in, got_before, in_left, in_right, in_either, stands_one}

pub port_within : {A : Type 0} (xs : List A) (i : ℕ) (x : A) → port_get xs i ≡ Some x → (1 ≤ i) × (i ≤ length xs)
port_within [] i x e = absurd (none-some x e)
port_within (y ∷ xs) zero x e = absurd (none-some x e)
port_within (y ∷ xs) (suc zero) x e = (omega arith, omega arith)
port_within (y ∷ xs) (suc (suc i)) x e = let h = port_within xs (suc i) x e in (omega arith, omega (arith, h.1))

pub in_cases : (id : NodeId) (ids : List NodeId) → In id ids ⊎ ¬ (In id ids)
in_cases id [] = inr (λ i. elim i [ ])
in_cases id (x ∷ ids) =
    elim (id_cases id x) [
      | inl same ↦ inl (head same)
      | inr apart ↦ elim (in_cases id ids) [ inl i ↦ inl (tail i) | inr never ↦ inr (λ i. behind i apart never) ]
    ]
  where
    behind : {id x : NodeId} {ids : List NodeId} → In id (x ∷ ids) → id ≢ x → ¬ (In id ids) → ⊥
    behind (head e) apart never = apart e
    behind (tail i) apart never = never i

module _ (g : GraphValue) where
  -- more and more nodes
  pub grows_none : (P : Name → Type 0) (before after : List NodeId) → after ≡ before → Grows g P before after
  grows_none P before after same = record { more = []; is = same ∙ sym (append-nil before); each = λ id i. elim i [ ] }

  pub grows_on : (P : Name → Type 0) (a b d : List NodeId) → Grows g P a b → Grows g P b d → Grows g P a d
  grows_on P a b d first next =
      record {
        more = first.more ++ next.more;
        is = next.is ∙ ap (λ xs. xs ++ next.more) first.is ∙ append_assoc a first.more next.more;
        each = λ id i. elim (in_either id first.more next.more i) [ inl h ↦ first.each id h | inr h ↦ next.each id h ];
      }

  pub stays : (P : Name → Type 0) (before after : List NodeId) → Grows g P before after → (id : NodeId) → In id before → In id after
  stays P before after grows id i = subst (In id) (sym grows.is) (in_left id before grows.more i)

  pub still_has : (P : Name → Type 0) (before after : List NodeId) (n : Name) → Grows g P before after → Has g before n → Has g after n
  still_has P before after n grows (id, denotes, i) = (id, denotes, stays P before after grows id i)

  pub came : (P : Name → Type 0) (before after : List NodeId) → Grows g P before after → (id : NodeId) → In id after → In id before ⊎ Picks g P id
  came P before after grows id i =
      elim (in_either id before grows.more (subst (In id) grows.is i)) [ inl h ↦ inl h | inr h ↦ inr (grows.each id h) ]

  pub itself : (id : NodeId) (n : Name) → Denotes g id n → name_by g.ids id ≡ n
  itself id n denotes = ap (λ o. unwrap_or o []) denotes

  pub node_stands : (id : NodeId) (node : Node) → IsNodeAt g id node → finite.get g.graph.nodes (name_by g.ids id) ≡ Some (body_of node)
  node_stands id node at = ap (finite.get g.graph.nodes) (itself id node.name at.denotes) ∙ at.body

  module _ (is : IsGraph g) where
    pub has_body : (n : Name) (kind : Kind) → (circuit_of g.graph).kind_at n ≡ Some kind → (body : Body) × (finite.get g.graph.nodes n ≡ Some body)
    has_body n kind e = at (finite.get g.graph.nodes n) refl e
      where
        at : (o : Option Body) → finite.get g.graph.nodes n ≡ o → kind_of_body o ≡ Some kind → (body : Body) × (finite.get g.graph.nodes n ≡ Some body)
        at None here e = absurd (none-some kind e)
        at (Some body) here e = (body, here)

    -- the id of a node denotes it
    pub named : (id : NodeId) (n : Name) (kind : Kind) → (circuit_of g.graph).kind_at n ≡ Some kind → name_by g.ids id ≡ n → Denotes g id n
    named id n kind e same = let (body, found) = has_body n kind e in denoted_by g is (record { node = id; port = 1 }) n body found same

    -- a name is denoted by one id alone
    pub same_named : (id other : NodeId) (n : Name) → Denotes g id n → name_by g.ids other ≡ n → other ≡ id
    same_named id other n denotes same =
        let (body, found) = is.denoted id n denotes in is.alone other id n (denoted_by g is (record { node = other; port = 1 }) n body found same) denotes

    pub id_of_node : (n : Name) (kind : Kind) → (circuit_of g.graph).kind_at n ≡ Some kind → (id : NodeId) × Denotes g id n
    id_of_node n kind e = let (body, found) = has_body n kind e in is.live n body found

    pub target_live : (target : PortAt) (source : Port) → finite.get g.graph.feeders (port_of g target) ≡ Some source → Denotes g target.node (name_by g.ids target.node)
    target_live target source e = let w = is.graph.wires (port_of g target) source e in denoted_by g is target (port_of g target).node w.to w.is_to refl

    pub source_live : (target : Port) (source : PortAt) → finite.get g.graph.feeders target ≡ Some (port_of g source) → Denotes g source.node (name_by g.ids source.node)
    source_live target source e = let w = is.graph.wires target (port_of g source) e in denoted_by g is source (port_of g source).node w.from w.is_from refl

    -- whether an input is the select of a Mux, and whether a walk goes into the node of an input, can be told
    pub tell_select : (p : Port) → IsSelect (circuit_of g.graph) p ⊎ ¬ (IsSelect (circuit_of g.graph) p)
    tell_select p =
        elim (cases_eq p.port 1) [
          | inr apart ↦ inr (λ h. apart h.0)
          | inl same ↦ elim (of_kind IsMux tell_mux ((circuit_of g.graph).kind_at p.node)) [ inl h ↦ inl (same, h) | inr never ↦ inr (λ h. never h.1) ]
        ]

    pub tell_enters : (way : Way) (p : Port) → Enters g way p ⊎ ¬ (Enters g way p)
    tell_enters way_of.Tree p = of_kind PassesThrough tell_through ((circuit_of g.graph).kind_at p.node)
    tell_enters (way_of.Body mark) p =
        elim (name_cases p.node (name_by g.ids mark)) [
          | inl same ↦ inr (λ h. h.0 same)
          | inr apart ↦ elim (tell_branch ((circuit_of g.graph).kind_at p.node)) [
            | inl branch ↦ inr (λ h. h.1 branch.0 branch.1)
            | inr never ↦ inl (apart, λ shape e. never (shape, e))
          ]
        ]
    tell_enters way_of.Selects p = tell_select p
    tell_enters way_of.Leaves p =
        elim (of_kind PassesThrough tell_through ((circuit_of g.graph).kind_at p.node)) [
          | inl h ↦ inr (λ no. no.0 h)
          | inr never ↦ elim (tell_select p) [ inl h ↦ inr (λ no. no.1 h) | inr not_so ↦ inl (never, not_so) ]
        ]
    tell_enters way_of.Branches p = of_kind IsBranch tell_is_branch ((circuit_of g.graph).kind_at p.node)

    pub enters_body : (id mark : NodeId) (t : Bool) → Denotes g id (name_by g.ids id) → id ≢ mark → t ≡ is_branch ((circuit_of g.graph).kind_at (name_by g.ids id)) →
        (not t ≡ true → IsPassed (circuit_of g.graph) (name_by g.ids mark) (name_by g.ids id)) × (IsPassed (circuit_of g.graph) (name_by g.ids mark) (name_by g.ids id) → not t ≡ true)
    enters_body id mark t denotes apart test = (
      λ so. (
        (λ same. apart (is.alone id mark (name_by g.ids id) denotes (mark_named same))),
        (λ shape e. false≢true (sym (ap not (test ∙ ap is_branch e)) ∙ so)),
      ),
      λ passed. ap not (test ∙ no_branch _ passed.1),
    )
      where
        mark_named : name_by g.ids id ≡ name_by g.ids mark → Denotes g mark (name_by g.ids id)
        mark_named same =
            let (body, found) = is.denoted id (name_by g.ids id) denotes in
            denoted_by g is (record { node = mark; port = 1 }) (name_by g.ids id) body found (sym same)

    module _ (way : Way) where
      -- one output
      module _ (source target : PortAt) (fed : finite.get g.graph.feeders (port_of g target) ≡ Some (port_of g source)) (before after : List NodeId)
          (put : Enters g way (port_of g target) → IsPut before target.node after)
          (left : ¬ (Enters g way (port_of g target)) → after ≡ before) where
        pub entered_grows : Grows g (Follows g way (name_by g.ids source.node)) before after
        entered_grows =
            elim (tell_enters way (port_of g target)) [
              | inr never ↦ grows_none (Follows g way (name_by g.ids source.node)) before after (left never)
              | inl so ↦ elim (in_cases target.node before) [
                | inl i ↦ grows_none (Follows g way (name_by g.ids source.node)) before after ((put so).there i)
                | inr new ↦ record { more = target.node ∷ []; is = (put so).added new; each = λ id i. one so id i }
              ]
            ]
          where
            follows : Enters g way (port_of g target) → Follows g way (name_by g.ids source.node) (name_by g.ids target.node)
            follows so = record { input = target.port; source = port_of g source; leaves = refl; fed = fed; enters = so }

            one : Enters g way (port_of g target) → (id : NodeId) → In id (target.node ∷ []) → Picks g (Follows g way (name_by g.ids source.node)) id
            one so id (head e) = subst (Picks g (Follows g way (name_by g.ids source.node))) (sym e) (name_by g.ids target.node, target_live target (port_of g source) fed, follows so)
            one so id (tail i) = elim i [ ]

        pub entered_has : HasBehind g way (port_of g source) after
        entered_has n i here enters =
            let same : port_at n i ≡ port_of g target = is.graph.once (port_at n i) (port_of g target) (port_of g source) here fed in
            let name : n ≡ name_by g.ids target.node = ap (λ (p : Port). p.node) same in
            let so = subst (Enters g way) same enters in
            let there : In target.node after = elim (in_cases target.node before) [
              | inl i ↦ subst (In target.node) (sym ((put so).there i)) i
              | inr new ↦ subst (In target.node) (sym ((put so).added new)) (in_right target.node before (target.node ∷ []) (head refl))
            ] in
            (target.node, subst (Denotes g target.node) (sym name) (target_live target (port_of g source) fed), there)

      -- an output that feeds nothing
      pub nothing_behind : (source : Port) (ids : List NodeId) → ((target : Port) → finite.get g.graph.feeders target ≢ Some source) → HasBehind g way source ids
      nothing_behind source ids none n i fed enters = absurd (none (port_at n i) fed)

      module _ (id : NodeId) (before : List NodeId) where
        pub entering_first : Entering g way id before before 1
        entering_first = record { grows = grows_none (Follows g way (name_by g.ids id)) before before refl; behind = λ k some below. absurd (omega arith) }

        pub entering_more : (ids after : List NodeId) (port : ℕ) → Entering g way id before ids port → Grows g (Follows g way (name_by g.ids id)) ids after →
            HasBehind g way (port_of g (record { node = id; port = port })) after → Entering g way id before after (port + 1)
        entering_more ids after port so_far grows here =
            record {
              grows = grows_on (Follows g way (name_by g.ids id)) before ids after so_far.grows grows;
              behind = λ k some below n i fed enters. elim (cases_eq k port) [
                | inl same ↦ here n i (subst (λ p. (circuit_of g.graph).feeder (port_at n i) ≡ Some (port_of g (record { node = id; port = p }))) same fed) enters
                | inr apart ↦ still_has (Follows g way (name_by g.ids id)) ids after n grows (so_far.behind k some (omega arith) n i fed enters)
              ];
            }

        pub entered_all : (after : List NodeId) (body : Body) (port : ℕ) → finite.get g.graph.nodes (name_by g.ids id) ≡ Some body → length (outs body.kind) < port →
            Entering g way id before after port → HasFollowers g way (name_by g.ids id) after
        entered_all after body port found past done n follows =
            let w = is.graph.wires (port_at n follows.input) follows.source follows.fed in
            let there : finite.get g.graph.nodes (name_by g.ids id) ≡ Some w.from = ap (finite.get g.graph.nodes) (sym follows.leaves) ∙ w.is_from in
            let same : w.from ≡ body = same_Some w.from body (sym there ∙ found) in
            let within = port_within (outs body.kind) follows.source.port w.shape (subst (λ (b : Body). port_get (outs b.kind) follows.source.port ≡ Some w.shape) same w.leaves) in
            let its : follows.source ≡ port_of g (record { node = id; port = follows.source.port }) = ap (λ m. port_at m follows.source.port) follows.leaves in
            done.behind follows.source.port within.0 (omega (arith, within.1)) n follows.input (follows.fed ∙ ap Some its) follows.enters

      module _ (from : List NodeId) where
        pub underway_first : AreLive g from → Underway g way from from 0
        underway_first live =
            record { started = λ id i. i; reached = λ id i. (name_by g.ids id, live id i, begun id i (live id i)); closed = λ k id below. absurd (omega arith) }

        pub underway_live : (ids : List NodeId) (next : ℕ) → Underway g way from ids next → (id : NodeId) → In id ids → Denotes g id (name_by g.ids id)
        underway_live ids next so_far id i =
            let (n, denotes, walked) = so_far.reached id i in subst (Denotes g id) (sym (itself id n denotes)) denotes

        pub underway_more : (ids after : List NodeId) (next : ℕ) (id : NodeId) → Underway g way from ids next → slice_get ids next ≡ Some id →
            Grows g (Follows g way (name_by g.ids id)) ids after → HasFollowers g way (name_by g.ids id) after → Underway g way from after (next + 1)
        underway_more ids after next id so_far at grows has =
            record {
              started = λ x i. stays (Follows g way (name_by g.ids id)) ids after grows x (so_far.started x i);
              reached = λ x i. elim (came (Follows g way (name_by g.ids id)) ids after grows x i) [
                | inl old ↦ so_far.reached x old
                | inr new ↦ (new.0, new.1, onward (name_by g.ids id) here new.2)
              ];
              closed = λ k x below got. elim (cases_eq k next) [
                | inl same ↦
                    let is_id : id ≡ x = same_Some id x (sym (got_now k id (subst (λ j. slice_get ids j ≡ Some id) (sym same) at)) ∙ got) in
                    subst (λ y. HasFollowers g way (name_by g.ids y) after) is_id has
                | inr apart ↦
                    let (y, old) = before k (omega (arith, slice_get_within ids next id at)) in
                    let is_y : y ≡ x = same_Some y x (sym (got_now k y old) ∙ got) in
                    λ n follows. still_has (Follows g way (name_by g.ids id)) ids after n grows
                    (so_far.closed k y (omega arith) old n (subst (λ z. Follows g way (name_by g.ids z) n) (sym is_y) follows))
              ];
            }
          where
            got_now : (k : ℕ) (x : NodeId) → slice_get ids k ≡ Some x → slice_get after k ≡ Some x
            got_now k x e = subst (λ xs. slice_get xs k ≡ Some x) (sym grows.is) (got_before ids grows.more k x e)

            before : (k : ℕ) → k < length ids → (x : NodeId) × (slice_get ids k ≡ Some x)
            before k less = stands_one ids k less

            here : WalkedTo g way from (name_by g.ids id)
            here = let (n, denotes, walked) = so_far.reached id (at_in ids next id at) in subst (WalkedTo g way from) (sym (itself id n denotes)) walked

        pub underway_last : (ids : List NodeId) (next : ℕ) → Underway g way from ids next → length ids ≤ next → AreAll g (WalkedTo g way from) ids
        underway_last ids next done all id = (
          done.reached id,
          λ picked. let (j, denotes, i) = found picked.0 picked.2 in subst (λ x. In x ids) (is.alone j id picked.0 denotes picked.1) i,
        )
          where
            found : (n : Name) → WalkedTo g way from n → Has g ids n
            found n (begun id i denotes) = (id, denotes, done.started id i)
            found n (onward k walked follows) =
                let (j, denotes, i) = found k walked in
                let (place, at) = in_at j ids i in
                done.closed place j (omega (arith, slice_get_within ids place j at)) at n (subst (λ m. Follows g way m n) (sym (itself j k denotes)) follows)

        -- one step
        pub stepping_first : Stepping g way from [] 0
        stepping_first = record { reached = λ id i. elim i [ ]; closed = λ k id below. absurd (omega arith) }

        pub stepping_more : (ids after : List NodeId) (next : ℕ) (id : NodeId) → Stepping g way from ids next → slice_get from next ≡ Some id →
            Grows g (Follows g way (name_by g.ids id)) ids after → HasFollowers g way (name_by g.ids id) after → Stepping g way from after (next + 1)
        stepping_more ids after next id so_far at grows has =
            record {
              reached = λ x i. elim (came (Follows g way (name_by g.ids id)) ids after grows x i) [
                | inl old ↦ so_far.reached x old
                | inr new ↦ (new.0, new.1, (id, at_in from next id at, new.2))
              ];
              closed = λ k x below got. elim (cases_eq k next) [
                | inl same ↦ subst (λ y. HasFollowers g way (name_by g.ids y) after) (same_Some id x (sym at ∙ ap (slice_get from) (sym same) ∙ got)) has
                | inr apart ↦ λ n follows. still_has (Follows g way (name_by g.ids id)) ids after n grows (so_far.closed k x (omega arith) got n follows)
              ];
            }

        pub stepping_last : (ids : List NodeId) (next : ℕ) → Stepping g way from ids next → length from ≤ next → AreAll g (SteppedTo g way from) ids
        stepping_last ids next done all id = (
          done.reached id,
          λ picked. let (j, denotes, i) = found picked.0 picked.2 in subst (λ x. In x ids) (is.alone j id picked.0 denotes picked.1) i,
        )
          where
            found : (n : Name) → SteppedTo g way from n → Has g ids n
            found n (j, i, follows) =
                let (place, at) = in_at j from i in
                done.closed place j (omega (arith, slice_get_within from place j at)) at n follows
