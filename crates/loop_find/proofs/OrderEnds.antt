-- Where no node is next, the nodes of a body without a cycle are all placed.
use Rattle.std.proofs.Common.{◌≡◌, ◌⊎◌, ◌↔◌, inl, inr, ℕ, suc, refl, sym, ap, subst, ◌∙◌, Bool, List, [], ◌∷◌, length, Option, Some, None, arith}
use Rattle.std.specs.FinMap as finite
use Rattle.std.proofs.lemmas.Option.{same_Some, none-some}
use Rattle.components.specs.Kind.{ins}
use Rattle.components.specs.Name.{Name, Port}
use Rattle.circuits.specs.Circuit.{circuit_of}
use Rattle.circuits.specs.Replacing.{In, In.head, In.tail}
use Rattle.loop_laws.specs.Reached.{port_at}
use Rattle.loop_laws.specs.BodyOrder.{InBodyOrder}
use Rattle.loop_laws.specs.Faults.{BodyPath, BodyPath.wire, InBody}
use Rattle.graph_core.specs.declared.place.NodeId.{NodeId}
use Rattle.graph_core.specs.GraphValue.{GraphValue, Denotes, IsGraph, name_by}
use Rattle.loop_find.specs.BodyOrders.{HasKey, IsFedAt}
use Rattle.loop_find.specs.Marks.{names_by}
use Rattle.loop_find.specs.Walks.{AreAll, AreLive, Has}
use Rattle.loop_find.proofs.AllPorts.{input_within}
use Rattle.loop_find.proofs.MarkWalks.{live_of}
use Rattle.loop_find.proofs.NodeCounts.{in_names, names_in}
use Rattle.loop_find.proofs.OrderSteps.{Ordering}
use Rattle.loop_find.proofs.RowNodes.{each_or_one, of_all}
use Rattle.loop_find.proofs.Walking.{in_cases, itself}
use Rattle.loop_find.proofs.OrderLists.{led_round, path_on, order_as, in_set}

module _ (g : GraphValue) (ok : IsGraph g) where
  -- at the end
  module _ (m : Name) (goes_back : Bool) (body : List NodeId) (inside : AreAll g (InBody (circuit_of g.graph) m goes_back) body) (acyclic : (n : Name) → ¬ (BodyPath (circuit_of g.graph) m goes_back n n))
      (placed : List NodeId) (done : Ordering g body placed []) where
    body_live : AreLive g body
    body_live = live_of g (InBody (circuit_of g.graph) m goes_back) body inside

    -- what feeds a node that is left over from the body is left over, too
    record FromLeft (n : Name) : Type 0 where
      name : Name
      has : Has g body name
      left : ¬ (Has g placed name)
      path : BodyPath (circuit_of g.graph) m goes_back name n

    module _ (n : Name) (has : Has g body n) (left : ¬ (Has g placed n)) where
      input_at : (i : ℕ) → IsFedAt g body placed (port_at n i) ⊎ FromLeft n
      input_at i = at (finite.get g.graph.feeders (port_at n i)) refl
        where
          from : (q : Port) → finite.get g.graph.feeders (port_at n i) ≡ Some q → (id : NodeId) → Denotes g id q.node → IsFedAt g body placed (port_at n i) ⊎ FromLeft n
          from q fed id denotes =
              elim (in_cases id placed) [
                | inl j ↦ inl (λ r e among. subst (λ (s : Port). Has g placed s.node) (same_Some q r (sym fed ∙ e)) (id, denotes, j))
                | inr free ↦ elim (in_cases id body) [
                  | inr out ↦ inl (λ r e among. absurd (out (in_set g ok body id r.node (subst (λ (s : Port). Denotes g id s.node) (same_Some q r (sym fed ∙ e)) denotes) among)))
                  | inl j ↦ inr (record {
                    name = q.node;
                    has = (id, denotes, j);
                    left = λ h. free (in_set g ok placed id q.node denotes h);
                    path = wire i q refl (of_all g (InBody (circuit_of g.graph) m goes_back) body inside q.node (id, denotes, j)) fed (of_all g (InBody (circuit_of g.graph) m goes_back) body inside n has);
                  })
                ]
              ]

          at : (o : Option Port) → finite.get g.graph.feeders (port_at n i) ≡ o → IsFedAt g body placed (port_at n i) ⊎ FromLeft n
          at None unfed = inl (λ q e among. absurd (none-some q (sym unfed ∙ e)))
          at (Some q) fed =
              let w = ok.graph.wires (port_at n i) q fed in
              let (id, denotes) = ok.live q.node w.from w.is_from in
              from q fed id denotes

      from_left : FromLeft n
      from_left =
          let (its, found) = ok.denoted has.0 n has.1 in
          elim (each_or_one (λ i. IsFedAt g body placed (port_at n i)) (λ i. FromLeft n) input_at (suc (length (ins its.kind)))) [
            | inr one ↦ one.1
            | inl each ↦ absurd (nothing (done.all n (record {
              has = has;
              left = left;
              fed = λ r node q fed among.
                  let less = (input_within g ok n its found r q node fed).1 in
                  each r.port (omega (arith, less)) q (ap (λ k. finite.get g.graph.feeders (port_at k r.port)) (sym node) ∙ fed) among;
            })))
          ]
        where
          nothing : HasKey [] n → ⊥
          nothing h = elim h.1 [ ]

    -- those that are left over
    record Left (ids : List NodeId) : Type 0 where
      names : List Name
      each : (n : Name) → In n names → Has g body n × ¬ (Has g placed n)
      all : (id : NodeId) → In id ids → ¬ (In id placed) → In (name_by g.ids id) names

    left_of : (ids : List NodeId) → ((id : NodeId) → In id ids → In id body) → Left ids
    left_of [] sub = record { names = []; each = λ n i. elim i [ ]; all = λ id i. elim i [ ] }
    left_of (x ∷ ids) sub = at (left_of ids (λ id i. sub id (tail i))) (in_cases x placed)
      where
        at : Left ids → In x placed ⊎ ¬ (In x placed) → Left (x ∷ ids)
        at rest (inl there) =
            record {
              names = rest.names;
              each = rest.each;
              all = λ id i free. elim i [ head same ↦ absurd (free (subst (λ y. In y placed) (sym same) there)) | tail j ↦ rest.all id j free ];
            }
        at rest (inr free) =
            record {
              names = name_by g.ids x ∷ rest.names;
              each = each;
              all = λ id i free. elim i [ head same ↦ head (ap (name_by g.ids) same) | tail j ↦ tail (rest.all id j free) ];
            }
          where
            live_x : Denotes g x (name_by g.ids x)
            live_x = body_live x (sub x (head refl))

            each : (n : Name) → In n (name_by g.ids x ∷ rest.names) → Has g body n × ¬ (Has g placed n)
            each n (head same) =
                let denotes = subst (Denotes g x) (sym same) live_x in
                ((x, denotes, sub x (head refl)), λ h. free (in_set g ok placed x n denotes h))
            each n (tail i) = rest.each n i

    pub all_placed : (id : NodeId) → In id body → In id placed
    all_placed id i =
        elim (in_cases id placed) [
          | inl j ↦ j
          | inr free ↦
              let others = left_of body (λ x j. j) in
              let round = led_round (BodyPath (circuit_of g.graph) m goes_back) (path_on (circuit_of g.graph) m goes_back) others.names (name_by g.ids id) (others.all id i free)
              (λ b j. led others b (others.each b j)) in
              absurd (acyclic round.0 round.1)
        ]
      where
        led : (others : Left body) (b : Name) → Has g body b × ¬ (Has g placed b) → (a : Name) × In a others.names × BodyPath (circuit_of g.graph) m goes_back a b
        led others b (has, left) =
            let from = from_left b has left in (
              from.name,
              subst (λ k. In k others.names) (itself g from.has.0 from.name from.has.1) (others.all from.has.0 from.has.2 (λ j. from.left (from.has.0, from.has.1, j))),
              from.path,
            )

    pub placed_are : AreAll g (InBody (circuit_of g.graph) m goes_back) placed
    placed_are id = ((λ i. (inside id).0 (done.inside id i)), (λ picked. all_placed id ((inside id).1 picked)))

    pub placed_in_order : InBodyOrder (circuit_of g.graph) (names_by g placed) [] (names_by g placed)
    placed_in_order = order_as (circuit_of g.graph) (names_by g body) (names_by g placed) same [] (names_by g placed) done.in_order
      where
        same : (n : Name) → In n (names_by g body) ↔ In n (names_by g placed)
        same n = (
          (λ i. let (id, j, is) = names_in g body n i in subst (λ k. In k (names_by g placed)) is (in_names g placed id (all_placed id j))),
          (λ i. let (id, j, is) = names_in g placed n i in subst (λ k. In k (names_by g body)) is (in_names g body id (done.inside id j))),
        )
