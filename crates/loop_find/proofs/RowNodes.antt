-- Nodes at which rows of the table hold.
use Rattle.std.proofs.Common.{◌≡◌, ◌⊎◌, inl, inr, ℕ, zero, suc, ◌<◌, refl, sym, subst, ◌∙◌, Bool, List, length, Option, Some, None, arith}
use Rattle.std.specs.FinMap as finite
use Rattle.std.proofs.lemmas.Bool.{cases_eq}
use Rattle.std.proofs.lemmas.Option.{same_Some, none-some}
use Rattle.components.specs.Name.{Name, Port, port_get}
use Rattle.components.specs.Kind.{ins}
use Rattle.components.specs.Node.{Body}
use Rattle.circuits.specs.Circuit.{circuit_of}
use Rattle.circuits.specs.Replacing.{In}
use Rattle.loop_laws.specs.Reached.{port_at, FedBy, Reached, Reached.first, Reached.later}
use Rattle.loop_laws.specs.Faults.{InBody, Inside, Row}
use Rattle.loop_laws.specs.declared.fault.LoopFaultKind.TheVariants.{SelectLeaf, NotPure, ForeignInput}
use Rattle.graph_core.specs.declared.place.NodeId.{NodeId}
use Rattle.graph_core.specs.GraphValue.{GraphValue, Denotes, IsGraph}
use Rattle.loop_find.specs.declared.choose.Test.TheVariants.{Impure, Foreign}
use Rattle.loop_find.specs.Judging.{Chosen, IsJudged}
use Rattle.loop_find.specs.Walks.{AreAll, Has}
use Rattle.loop_find.proofs.MarkWalks.{all_as}
use Rattle.loop_find.proofs.Choosing.{judged_of}
use Rattle.loop_find.proofs.Walking.{in_cases, port_within}

-- each of the first numbers is so, or one is otherwise
pub each_or_one : (D E : ℕ → Type 0) → ((i : ℕ) → D i ⊎ E i) → (k : ℕ) → ((i : ℕ) → i < k → D i) ⊎ ((i : ℕ) × E i)
each_or_one D E tell zero = inl (λ i less. absurd (omega arith))
each_or_one D E tell (suc k) =
    elim (each_or_one D E tell k) [
      | inr one ↦ inr one
      | inl each ↦ elim (tell k) [
        | inr one ↦ inr (k, one)
        | inl here ↦ inl (λ i less. elim (cases_eq i k) [ inl same ↦ subst D (sym same) here | inr apart ↦ each i (omega arith) ])
      ]
    ]

module _ (g : GraphValue) where
  module _ (P : Name → Type 0) (ids : List NodeId) (all : AreAll g P ids) where
    pub of_all : (n : Name) → Has g ids n → P n
    of_all n (id, denotes, i) = let (k, other, p) = (all id).0 i in subst P (same_Some k n (sym other ∙ denotes)) p

    pub in_all : (n : Name) (id : NodeId) → Denotes g id n → P n → Has g ids n
    in_all n id denotes p = (id, denotes, (all id).1 (n, denotes, p))

  module _ (is : IsGraph g) where
    pub fed_lives : (n : Name) (i : ℕ) (q : Port) → (circuit_of g.graph).feeder (port_at n i) ≡ Some q → (id : NodeId) × Denotes g id n
    fed_lives n i q fed = let w = is.graph.wires (port_at n i) q fed in is.live n w.to w.is_to

    pub feeds_lives : (n : Name) (i : ℕ) (q : Port) → (circuit_of g.graph).feeder (port_at n i) ≡ Some q → (id : NodeId) × Denotes g id q.node
    feeds_lives n i q fed = let w = is.graph.wires (port_at n i) q fed in is.live q.node w.from w.is_from

    pub reached_lives : (m n : Name) → Reached (circuit_of g.graph) m n → (id : NodeId) × Denotes g id n
    reached_lives m n (first i q lane fed passed) = fed_lives n i q fed
    reached_lives m n (later i q on fed passed) = fed_lives n i q fed

    -- an input that is fed from outside a set
    module _ (set : List NodeId) (n : Name) where
      abbrev Inner : ℕ → Type 0
      Inner i = (q : Port) → (circuit_of g.graph).feeder (port_at n i) ≡ Some q → Has g set q.node

      abbrev Outer : ℕ → Type 0
      Outer i = (q : Port) × ((circuit_of g.graph).feeder (port_at n i) ≡ Some q) × ¬ (Has g set q.node)

      inner_or_outer : (i : ℕ) → Inner i ⊎ Outer i
      inner_or_outer i = by_feeder ((circuit_of g.graph).feeder (port_at n i)) refl
        where
          by_feeder : (o : Option Port) → (circuit_of g.graph).feeder (port_at n i) ≡ o → Inner i ⊎ Outer i
          by_feeder None none = inl (λ q fed. absurd (none-some q (sym none ∙ fed)))
          by_feeder (Some p) fed =
              let (id, denotes) = feeds_lives n i p fed in
              elim (in_cases id set) [
                | inl there ↦ inl (λ q other. subst (λ (z : Port). Has g set z.node) (same_Some p q (sym fed ∙ other)) (id, denotes, there))
                | inr never ↦ inr (
                  p,
                  fed,
                  λ has.
                      let (k, other, j) = has in never (subst (λ x. In x set) (is.alone k id p.node other denotes) j),
                )
              ]

      all_inner : (body : Body) → finite.get g.graph.nodes n ≡ Some body → ((i : ℕ) → i < suc (length (ins body.kind)) → Inner i) → FedBy (circuit_of g.graph) (Has g set) n
      all_inner body found each i q fed =
          let w = is.graph.wires (port_at n i) q fed in
          let same : w.to ≡ body = same_Some w.to body (sym w.is_to ∙ found) in
          let within = port_within (ins body.kind) i w.shape (subst (λ (b : Body). port_get (ins b.kind) i ≡ Some w.shape) same w.enters) in
          each i (omega (arith, within.1)) q fed

      pub outer_of : (id : NodeId) → Denotes g id n → ¬ (FedBy (circuit_of g.graph) (Has g set) n) → (i : ℕ) × Outer i
      outer_of id denotes never =
          let (body, found) = is.denoted id n denotes in
          elim (each_or_one Inner Outer inner_or_outer (suc (length (ins body.kind)))) [
            | inr one ↦ one
            | inl each ↦ absurd (never (all_inner body found each))
          ]

    module _ (m : Name) (goes_back : Bool) where
      pub leaf_judged : (ids : List NodeId) → AreAll g (Row (circuit_of g.graph) m goes_back SelectLeaf) ids → (r : Option NodeId) → IsJudged g (Has g ids) r →
          IsJudged g (Row (circuit_of g.graph) m goes_back SelectLeaf) r
      leaf_judged ids all = judged_of g is (Row (circuit_of g.graph) m goes_back SelectLeaf) ids all (λ n row. fed_lives n row.0 row.1 row.3)

      -- reached nodes of a kind that is not pure
      pub impure_are : (set reached ids : List NodeId) → AreAll g (Reached (circuit_of g.graph) m) reached → AreAll g (Chosen g Impure set reached) ids →
          AreAll g (Row (circuit_of g.graph) m goes_back NotPure) ids
      impure_are set reached ids are =
          all_as g (Chosen g Impure set reached) (Row (circuit_of g.graph) m goes_back NotPure)
          (λ n chosen. (of_all (Reached (circuit_of g.graph) m) reached are n chosen.0, chosen.1))
          (λ n row. let (id, denotes) = reached_lives m n row.0 in (in_all (Reached (circuit_of g.graph) m) reached are n id denotes row.0, row.1)) ids

      pub impure_judged : (ids : List NodeId) → AreAll g (Row (circuit_of g.graph) m goes_back NotPure) ids → (r : Option NodeId) → IsJudged g (Has g ids) r →
          IsJudged g (Row (circuit_of g.graph) m goes_back NotPure) r
      impure_judged ids all = judged_of g is (Row (circuit_of g.graph) m goes_back NotPure) ids all (λ n row. reached_lives m n row.0)

      -- body nodes that are fed from elsewhere
      module _ (body inside : List NodeId) (are_body : AreAll g (InBody (circuit_of g.graph) m goes_back) body) (are_inside : AreAll g (Inside (circuit_of g.graph) m goes_back) inside) where
        foreign_so : (n : Name) → Chosen g Foreign inside body n → Row (circuit_of g.graph) m goes_back ForeignInput n
        foreign_so n ((id, denotes, i), fails) =
            let found = outer_of inside n id denotes fails in
            let k = found.0 in
            let (q, fed, out) = found.1 in
            let (own, source) = feeds_lives n k q fed in (
              of_all (InBody (circuit_of g.graph) m goes_back) body are_body n (id, denotes, i),
              k,
              q,
              fed,
              λ within. out (in_all (Inside (circuit_of g.graph) m goes_back) inside are_inside q.node own source within),
            )

        so_foreign : (n : Name) → Row (circuit_of g.graph) m goes_back ForeignInput n → Chosen g Foreign inside body n
        so_foreign n (within, i, q, fed, out) =
            let (id, denotes) = fed_lives n i q fed in (
              in_all (InBody (circuit_of g.graph) m goes_back) body are_body n id denotes within,
              λ inner. out (of_all (Inside (circuit_of g.graph) m goes_back) inside are_inside q.node (inner i q fed)),
            )

        pub foreign_are : (ids : List NodeId) → AreAll g (Chosen g Foreign inside body) ids → AreAll g (Row (circuit_of g.graph) m goes_back ForeignInput) ids
        foreign_are = all_as g (Chosen g Foreign inside body) (Row (circuit_of g.graph) m goes_back ForeignInput) foreign_so so_foreign

      pub foreign_judged : (ids : List NodeId) → AreAll g (Row (circuit_of g.graph) m goes_back ForeignInput) ids → (r : Option NodeId) → IsJudged g (Has g ids) r →
          IsJudged g (Row (circuit_of g.graph) m goes_back ForeignInput) r
      foreign_judged ids all = judged_of g is (Row (circuit_of g.graph) m goes_back ForeignInput) ids all (λ n row. let (within, i, q, fed, out) = row in fed_lives n i q fed)
