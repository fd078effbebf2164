-- Roots of inputs: the walk backwards, and the Buffers and Forks that have one root.
use Rattle.std.proofs.Common.{◌≡◌, ◌⊎◌, inl, inr, ℕ, ◌+◌, refl, sym, ap, subst, ◌∙◌, true, false, List, [], ◌∷◌, ◌++◌, length, Some, None, arith}
use Rattle.std.specs.FinMap as finite
use Rattle.std.proofs.lemmas.Bool.{false≢true}
use Rattle.std.proofs.lemmas.Option.{same_Some}
use Rattle.components.specs.declared.kind.Kind.{Kind}
use Rattle.components.specs.Name.{Name, Port, port_get}
use Rattle.circuits.specs.Circuit.{Circuit, Typed, circuit_of, kind_of_body}
use Rattle.circuits.specs.Buffers.{first_port}
use Rattle.circuits.specs.Replacing.{In}
use Rattle.circuits.specs.Root.{PassesThrough, Root, Root.here, Root.past}
use Rattle.loop_laws.specs.Reached.{port_at, HasKind}
use Rattle.loop_laws.proofs.NodeKinds.{kind_is, only_input, tree_takes}
use Rattle.graph_core.specs.declared.place.NodeId.{NodeId}
use Rattle.graph_core.specs.declared.place.PortAt.{PortAt}
use Rattle.graph_core.specs.GraphValue.{GraphValue, Denotes, IsGraph, name_by, port_of}
use Rattle.loop_find.specs.declared.walk.Way.TheVariants.{Tree}
use Rattle.loop_find.specs.NodeSets.{IsPut}
use Rattle.loop_find.specs.Backs.{IsFed}
use Rattle.loop_find.specs.Roots.{IsBehind, IsRootAt, IsRootOf, IsRooted}
use Rattle.loop_find.specs.Walks.{AreAll, AreLive, Has, Picks, WalkedTo, WalkedTo.begun, WalkedTo.onward, passes_through}
use Rattle.loop_find.proofs.Choosing.{put_in, put_keeps, put_has}
use Rattle.loop_find.proofs.KindTests.{through_says}
use Rattle.loop_find.proofs.MarkWalks.{all_as, holds_of}
use Rattle.loop_find.proofs.Walking.{itself, target_live}

module _ (c : Circuit) where
  -- where the way backwards comes to from an output
  pub data RootBy (s q : Port) : Type 0 where
    stops : (k : Kind) → c.kind_at s.node ≡ Some k → ¬ (PassesThrough k) → q ≡ s → RootBy s q
    passes : (k : Kind) → c.kind_at s.node ≡ Some k → PassesThrough k → Root c (first_port s.node) q → RootBy s q

  pub root_by : (p s q : Port) → c.feeder p ≡ Some s → Root c p q → RootBy s q
  root_by p s q fed (here k at is end) =
      let same : q ≡ s = same_Some q s (sym at ∙ fed) in stops k (subst (λ (z : Port). c.kind_at z.node ≡ Some k) same is) end same
  root_by p s q fed (past r k at is pass rest) =
      let same : r ≡ s = same_Some r s (sym at ∙ fed) in
      passes k (subst (λ (z : Port). c.kind_at z.node ≡ Some k) same is) pass (subst (λ (z : Port). Root c (first_port z.node) q) same rest)

  pub by_root : (p s q : Port) → c.feeder p ≡ Some s → RootBy s q → Root c p q
  by_root p s q fed (stops k is end same) = subst (Root c p) (sym same) (here k fed is end)
  by_root p s q fed (passes k is pass rest) = past s k fed is pass rest

  pub passes_on : (s q : Port) → HasKind c PassesThrough s.node → RootBy s q → Root c (first_port s.node) q
  passes_on s q kind (stops k is end same) = absurd (end (kind_is c PassesThrough s.node k kind is))
  passes_on s q kind (passes k is pass rest) = rest

  -- nodes that pass on, and lead backwards to one another alone, have no root
  module _ (S : Name → Type 0) (closed : (n : Name) → S n → HasKind c PassesThrough n × ((q : Port) × (c.feeder (first_port n) ≡ Some q) × S q.node)) where
    no_root_from : (p r q : Port) → c.feeder p ≡ Some r → S r.node → Root c p q → ⊥
    no_root_from p r q fed s (here k at is end) =
        let same : q ≡ r = same_Some q r (sym at ∙ fed) in
        end (kind_is c PassesThrough r.node k (closed r.node s).0 (subst (λ (z : Port). c.kind_at z.node ≡ Some k) same is))
    no_root_from p r q fed s (past r' k at is pass rest) =
        let same : r' ≡ r = same_Some r' r (sym at ∙ fed) in
        let (on, goes, there) = (closed r'.node (subst (λ (z : Port). S z.node) (sym same) s)).1 in
        no_root_from (first_port r'.node) on q goes there rest

    pub no_root_in : (s q : Port) → S s.node → RootBy s q → ⊥
    no_root_in s q inside by =
        let (on, goes, there) = (closed s.node inside).1 in
        no_root_from (first_port s.node) on q goes there (passes_on s q (closed s.node inside).0 by)

  pub one_root : (p q r : Port) → Root c p q → Root c p r → q ≡ r
  one_root p q r (here k at is end) other =
      elim (root_by p q r at other) [
        | stops k' is' end' same ↦ sym same
        | passes k' is' pass rest ↦ absurd (end (subst PassesThrough (same_Some k' k (sym is' ∙ is)) pass))
      ]
  one_root p q r (past s k at is pass rest) other =
      elim (root_by p s r at other) [
        | stops k' is' end same ↦ absurd (end (subst PassesThrough (same_Some k k' (sym is ∙ is')) pass))
        | passes k' is' pass' rest' ↦ one_root (first_port s.node) q r rest rest'
      ]

module _ (g : GraphValue) where
  -- the way backwards so far
  pub record Tracing (target : PortAt) (trail : List NodeId) (source : PortAt) : Type 0 where
    pub goes : (q : Port) → Root (circuit_of g.graph) (port_of g target) q → RootBy (circuit_of g.graph) (port_of g source) q
    pub comes : (q : Port) → RootBy (circuit_of g.graph) (port_of g source) q → Root (circuit_of g.graph) (port_of g target) q
    pub passing : (x : NodeId) → In x trail → HasKind (circuit_of g.graph) PassesThrough (name_by g.ids x)
    pub live : AreLive g trail
    pub steps : (x : NodeId) → In x trail → (q : Port) × ((circuit_of g.graph).feeder (first_port (name_by g.ids x)) ≡ Some q) × (Has g trail q.node ⊎ (q.node ≡ name_by g.ids source.node))
    pub denotes : Denotes g source.node (name_by g.ids source.node)

  pub tracing_first : (target source : PortAt) (trail : List NodeId) → trail ≡ [] → (circuit_of g.graph).feeder (port_of g target) ≡ Some (port_of g source) →
      Denotes g source.node (name_by g.ids source.node) → Tracing target trail source
  tracing_first target source trail none fed denotes =
      subst (λ xs. Tracing target xs source) (sym none) (record {
        goes = λ q root. root_by (circuit_of g.graph) (port_of g target) (port_of g source) q fed root;
        comes = λ q by. by_root (circuit_of g.graph) (port_of g target) (port_of g source) q fed by;
        passing = λ x i. elim i [ ];
        live = λ x i. elim i [ ];
        steps = λ x i. elim i [ ];
        denotes = denotes;
      })

  module _ (target : PortAt) (trail : List NodeId) (source : PortAt) (so_far : Tracing target trail source) where
    module _ (test : passes_through ((circuit_of g.graph).kind_at (name_by g.ids source.node)) ≡ true) where
      pub passing_kind : HasKind (circuit_of g.graph) PassesThrough (name_by g.ids source.node)
      passing_kind = (through_says ((circuit_of g.graph).kind_at (name_by g.ids source.node))).0 test

      pub tracing_more : (after : List NodeId) (next : PortAt) → IsPut trail source.node after → (circuit_of g.graph).feeder (port_at (name_by g.ids source.node) 1) ≡ Some (port_of g next) →
          Denotes g next.node (name_by g.ids next.node) → Tracing target after next
      tracing_more after next put fed denotes =
          record {
            goes = λ q root. root_by (circuit_of g.graph) (first_port (name_by g.ids source.node)) (port_of g next) q fed (passes_on (circuit_of g.graph) (port_of g source) q passing_kind (so_far.goes q root));
            comes = λ q by. let (kind, is, pass) = passing_kind in
                so_far.comes q (passes kind is pass (by_root (circuit_of g.graph) (first_port (name_by g.ids source.node)) (port_of g next) q fed by));
            passing = λ x i. elim (put_in trail after source.node put x i) [
              | inl old ↦ so_far.passing x old
              | inr new ↦ subst (λ y. HasKind (circuit_of g.graph) PassesThrough (name_by g.ids y)) (sym new) passing_kind
            ];
            live = λ x i. elim (put_in trail after source.node put x i) [
              | inl old ↦ so_far.live x old
              | inr new ↦ subst (λ y. Denotes g y (name_by g.ids y)) (sym new) so_far.denotes
            ];
            steps = λ x i. elim (put_in trail after source.node put x i) [
              | inl old ↦ (
                (so_far.steps x old).0,
                (so_far.steps x old).1,
                inl (stays (so_far.steps x old).0 (so_far.steps x old).2),
              )
              | inr new ↦ (port_of g next, subst (λ y. (circuit_of g.graph).feeder (first_port (name_by g.ids y)) ≡ Some (port_of g next)) (sym new) fed, inr refl)
            ];
            denotes = denotes;
          }
        where
          stays : (q : Port) → Has g trail q.node ⊎ (q.node ≡ name_by g.ids source.node) → Has g after q.node
          stays q (inl (id, named, i)) = (id, named, put_keeps trail after source.node put id i)
          stays q (inr same) = (source.node, subst (Denotes g source.node) (sym same) so_far.denotes, put_has trail after source.node put)

      -- back at a node of the way
      pub tracing_ring : In source.node trail → IsRootOf g target None
      tracing_ring i q root =
          no_root_in (circuit_of g.graph) (Has g trail) closed (port_of g source) q (source.node, so_far.denotes, i) (so_far.goes q root)
        where
          stays : (q : Port) → Has g trail q.node ⊎ (q.node ≡ name_by g.ids source.node) → Has g trail q.node
          stays q (inl has) = has
          stays q (inr same) = (source.node, subst (Denotes g source.node) (sym same) so_far.denotes, i)

          closed : (n : Name) → Has g trail n → HasKind (circuit_of g.graph) PassesThrough n × ((q : Port) × ((circuit_of g.graph).feeder (first_port n) ≡ Some q) × Has g trail q.node)
          closed n (id, named, j) =
              let same = itself g id n named in
              let step = so_far.steps id j in (
                subst (HasKind (circuit_of g.graph) PassesThrough) same (so_far.passing id j),
                (step.0, subst (λ x. (circuit_of g.graph).feeder (first_port x) ≡ Some step.0) same step.1, stays step.0 step.2),
              )

      pub source_fed : Typed (circuit_of g.graph) → IsFed g (record { node = source.node; port = 1 })
      source_fed ty =
          let (kind, is, pass) = passing_kind in
          let (shape, one) = tree_takes kind pass in
          ty.inputs (port_at (name_by g.ids source.node) 1) kind shape is (ap (λ xs. port_get xs 1) one)

      pub longer : (after : List NodeId) → IsPut trail source.node after → ¬ (In source.node trail) → length after ≡ length trail + 1
      longer after put new = ap length (put.added new) ∙ length_more trail
        where
          length_more : (xs : List NodeId) → length (xs ++ source.node ∷ []) ≡ length xs + 1
          length_more [] = refl
          length_more (x ∷ xs) = omega (arith, length_more xs)

    module _ (is : IsGraph g) (test : passes_through ((circuit_of g.graph).kind_at (name_by g.ids source.node)) ≡ false) where
      other_kind : ¬ (HasKind (circuit_of g.graph) PassesThrough (name_by g.ids source.node))
      other_kind h = false≢true (sym test ∙ (through_says ((circuit_of g.graph).kind_at (name_by g.ids source.node))).1 h)

      pub tracing_last : IsRootAt g target source
      tracing_last =
          let (body, found) = is.denoted source.node (name_by g.ids source.node) so_far.denotes in
          record {
            root = so_far.comes (port_of g source) (stops body.kind (ap kind_of_body found) (λ pass. other_kind (body.kind, ap kind_of_body found, pass)) refl);
            ends = other_kind;
            denotes = so_far.denotes;
          }

  -- the Buffers and Forks that have one root
  module _ (is : IsGraph g) where
    pub behind_none : (source : Port) (ids : List NodeId) → ids ≡ [] → ((target : Port) → ¬ (finite.get g.graph.feeders target ≡ Some source)) → AreAll g (IsBehind (circuit_of g.graph) source) ids
    behind_none source ids none never id = (
      λ i. elim (subst (In id) none i) [ ],
      λ picked. absurd (never (port_at picked.0 picked.2.1) picked.2.2),
    )

    module _ (source target : PortAt) (fed : finite.get g.graph.feeders (port_of g target) ≡ Some (port_of g source)) (ids : List NodeId) (none : ids ≡ []) where
      is_target : (id : NodeId) (n : Name) (i : ℕ) → Denotes g id n → (circuit_of g.graph).feeder (port_at n i) ≡ Some (port_of g source) → (id ≡ target.node) × (n ≡ name_by g.ids target.node)
      is_target id n i denotes at =
          let same : n ≡ name_by g.ids target.node = ap (λ (p : Port). p.node) (is.graph.once (port_at n i) (port_of g target) (port_of g source) at fed) in (
            is.alone id target.node n denotes (subst (Denotes g target.node) (sym same) (target_live g is target (port_of g source) fed)),
            same,
          )

      pub behind_one : passes_through ((circuit_of g.graph).kind_at (name_by g.ids target.node)) ≡ true → (after : List NodeId) → IsPut ids target.node after → AreAll g (IsBehind (circuit_of g.graph) (port_of g source)) after
      behind_one test after put id = (
        λ i. elim (put_in ids after target.node put id i) [
          | inl old ↦ elim (subst (In id) none old) [ ]
          | inr new ↦ subst (Picks g (IsBehind (circuit_of g.graph) (port_of g source))) (sym new)
              (name_by g.ids target.node, target_live g is target (port_of g source) fed, ((through_says ((circuit_of g.graph).kind_at (name_by g.ids target.node))).0 test, target.port, fed))
        ],
        λ picked. subst (λ x. In x after) (sym (is_target id picked.0 picked.2.1 picked.1 picked.2.2).0) (put_has ids after target.node put),
      )

      pub behind_other : passes_through ((circuit_of g.graph).kind_at (name_by g.ids target.node)) ≡ false → AreAll g (IsBehind (circuit_of g.graph) (port_of g source)) ids
      behind_other test id = (
        λ i. elim (subst (In id) none i) [ ],
        λ picked.
            let same = (is_target id picked.0 picked.2.1 picked.1 picked.2.2).1 in
            absurd (false≢true (sym test ∙ (through_says ((circuit_of g.graph).kind_at (name_by g.ids target.node))).1 (subst (HasKind (circuit_of g.graph) PassesThrough) same picked.2.0))),
      )

    module _ (ty : Typed (circuit_of g.graph)) (root : Port) (end : ¬ (HasKind (circuit_of g.graph) PassesThrough root.node)) (firsts : List NodeId)
        (are : AreAll g (IsBehind (circuit_of g.graph) root) firsts) where
      first_input : (n : Name) (i : ℕ) (q : Port) → HasKind (circuit_of g.graph) PassesThrough n → (circuit_of g.graph).feeder (port_at n i) ≡ Some q → (circuit_of g.graph).feeder (first_port n) ≡ Some q
      first_input n i q kind fed =
          let (k, is_kind, pass) = kind in
          let one : i ≡ 1 = only_input (circuit_of g.graph) ty (port_at n i) q fed (k, is_kind, tree_takes k pass) in
          subst (λ j. (circuit_of g.graph).feeder (port_at n j) ≡ Some q) one fed

      first_root : (p : Port) → (circuit_of g.graph).feeder p ≡ Some root → Root (circuit_of g.graph) p root
      first_root p fed = let w = ty.wires p root fed in here w.from fed w.is_from (λ pass. end (w.from, w.is_from, pass))

      rooted_so : (n : Name) → WalkedTo g Tree firsts n → IsRooted (circuit_of g.graph) root n
      rooted_so n (begun id i denotes) =
          let (k, other, behind) = (are id).0 i in
          let same : k ≡ n = same_Some k n (sym other ∙ denotes) in
          subst (IsRooted (circuit_of g.graph) root) same (behind.0, first_root (first_port k) (first_input k behind.1 root behind.0 behind.2))
      rooted_so n (onward k walked follows) =
          let (kind, root_k) = rooted_so k walked in
          let (of, is_kind, pass) = subst (HasKind (circuit_of g.graph) PassesThrough) (sym follows.leaves) kind in (
            follows.enters,
            past follows.source of (first_input n follows.input follows.source follows.enters follows.fed) is_kind pass (subst (λ x. Root (circuit_of g.graph) (first_port x) root) (sym follows.leaves) root_k),
          )

      walked_so : (p q : Port) → Root (circuit_of g.graph) p q → q ≡ root → (n : Name) → p ≡ first_port n → HasKind (circuit_of g.graph) PassesThrough n → WalkedTo g Tree firsts n
      walked_so p q (here k at is_kind stop) same n here_is kind =
          let fed : (circuit_of g.graph).feeder (port_at n 1) ≡ Some root = subst (λ z. (circuit_of g.graph).feeder z ≡ Some root) here_is (at ∙ ap Some same) in
          let w = is.graph.wires (port_at n 1) root fed in
          let (id, denotes) = is.live n w.to w.is_to in
          begun id ((are id).1 (n, denotes, (kind, 1, fed))) denotes
      walked_so p q (past r k at is_kind pass rest) same n here_is kind =
          onward r.node (walked_so (first_port r.node) q rest same r.node refl (k, is_kind, pass))
          (record { input = 1; source = r; leaves = refl; fed = subst (λ z. (circuit_of g.graph).feeder z ≡ Some r) here_is at; enters = kind })

      pub rooted_are : (ids : List NodeId) → AreAll g (WalkedTo g Tree firsts) ids → AreAll g (IsRooted (circuit_of g.graph) root) ids
      rooted_are =
          all_as g (WalkedTo g Tree firsts) (IsRooted (circuit_of g.graph) root) rooted_so (λ n rooted. walked_so (first_port n) root rooted.1 refl n refl rooted.0)

    -- whether an input has this root
    module _ (target source root : PortAt) (rooted : List NodeId) (fed : (circuit_of g.graph).feeder (port_of g target) ≡ Some (port_of g source)) (live : Denotes g source.node (name_by g.ids source.node))
        (root_live : Denotes g root.node (name_by g.ids root.node)) (end : ¬ (HasKind (circuit_of g.graph) PassesThrough (name_by g.ids root.node)))
        (are : AreAll g (IsRooted (circuit_of g.graph) (port_of g root)) rooted) where
      pub root_here : source ≡ root → Root (circuit_of g.graph) (port_of g target) (port_of g root)
      root_here same =
          let (body, found) = is.denoted root.node (name_by g.ids root.node) root_live in
          here body.kind (fed ∙ ap (λ p. Some (port_of g p)) same) (ap kind_of_body found) (λ pass. end (body.kind, ap kind_of_body found, pass))

      pub root_past : In source.node rooted → Root (circuit_of g.graph) (port_of g target) (port_of g root)
      root_past i =
          let (kind, its) = holds_of g (IsRooted (circuit_of g.graph) (port_of g root)) rooted are source.node i in
          let (k, is_kind, pass) = kind in
          past (port_of g source) k fed is_kind pass its

      pub root_either : Root (circuit_of g.graph) (port_of g target) (port_of g root) → (source ≡ root) ⊎ In source.node rooted
      root_either r = by (root_by (circuit_of g.graph) (port_of g target) (port_of g source) (port_of g root) fed r)
        where
          by : RootBy (circuit_of g.graph) (port_of g source) (port_of g root) → (source ≡ root) ⊎ In source.node rooted
          by (stops k is_kind stop same) =
              let name : name_by g.ids root.node ≡ name_by g.ids source.node = ap (λ (p : Port). p.node) same in
              let node : source.node ≡ root.node = is.alone source.node root.node (name_by g.ids source.node) live (subst (Denotes g root.node) name root_live) in
              let port : source.port ≡ root.port = sym (ap (λ (p : Port). p.port) same) in
              inl (λ i. record { node = node i; port = port i })
          by (passes k is_kind pass rest) = inr ((are source.node).1 (name_by g.ids source.node, live, ((k, is_kind, pass), rest)))
