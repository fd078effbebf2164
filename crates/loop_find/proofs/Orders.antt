-- The order of a body, node by node.
use Rattle.std.proofs.Common.{◌≡◌, ◌≢◌, ◌⊎◌, ◌↔◌, inl, inr, ℕ, ◌+◌, ◌<◌, refl, sym, ap, subst, ◌∙◌, List, [], ◌∷◌, length, map, Bor, Some, None, Less, Greater, arith}
use Rattle.std.specs.FinMap as finite
use Rattle.std.specs.List.{All}
use Rattle.std.specs.Ordering.{ordering_reverse}
use Rattle.std.specs.BTreeMap.Range.{IsLtBy}
use Rattle.std.proofs.lemmas.Bool.{cases_eq}
use Rattle.std.proofs.lemmas.Option.{same_Some, none-some}
use Rattle.components.specs.ByKey.{ref_cmp}
use Rattle.components.specs.Kind.{ins}
use Rattle.components.specs.Name.{Name, Port}
use Rattle.components.specs.Node.{Body}
use Rattle.components.specs.Orders.{name_total}
use Rattle.circuits.specs.Circuit.{Circuit, circuit_of}
use Rattle.circuits.specs.Replacing.{In, In.head, In.tail}
use Rattle.loop_laws.specs.Reached.{port_at}
use Rattle.loop_laws.specs.BodyOrder.{InBodyOrder, IsBefore, IsReady}
use Rattle.graph_core.specs.declared.place.NodeId.{NodeId}
use Rattle.graph_core.specs.declared.place.PortAt.{PortAt}
use Rattle.graph_core.specs.GraphValue.{GraphValue, Denotes, IsGraph, name_by, port_of}
use Rattle.loop_find.specs.BodyOrders.{HasKey, IsEntry, IsFed, IsFedAt, IsFedBy, IsNext, Queues, Tree}
use Rattle.loop_find.specs.Marks.{names_by}
use Rattle.loop_find.specs.NodeSets.{IsPut}
use Rattle.loop_find.specs.Walks.{AreLive, Has}
use Rattle.loop_find.proofs.AllPorts.{input_within}
use Rattle.loop_find.proofs.Choosing.{put_has, put_in, put_keeps}
use Rattle.loop_find.proofs.OrderSteps.{IsFedBelow, Ordering}
use Rattle.loop_find.proofs.OrderTree.{all_keys, key_cases}
use Rattle.loop_find.proofs.Walking.{itself, source_live}
use Rattle.loop_find.proofs.OrderLists.{IsLeast, order_more, longer, names_more, has_name, name_has, in_set}

module _ (g : GraphValue) where
  module _ (ok : IsGraph g) where
    -- the inputs of a node
    module _ (body placed : List NodeId) where
      pub fed_first : (id : NodeId) → IsFedBelow g body placed id 1
      fed_first id k some below = absurd (omega arith)

      pub fed_more : (id : NodeId) (port : ℕ) → IsFedBelow g body placed id port → IsFedAt g body placed (port_at (name_by g.ids id) port) → IsFedBelow g body placed id (port + 1)
      fed_more id port so_far here k some below =
          elim (cases_eq k port) [
            | inl same ↦ subst (λ j. IsFedAt g body placed (port_at (name_by g.ids id) j)) (sym same) here
            | inr apart ↦ so_far k some (omega arith)
          ]

      pub fed_last : (id : NodeId) (its : Body) → finite.get g.graph.nodes (name_by g.ids id) ≡ Some its → (port : ℕ) → length (ins its.kind) < port → IsFedBelow g body placed id port → IsFed g body placed (name_by g.ids id)
      fed_last id its found port past so_far p same q fed =
          let within = input_within g ok (name_by g.ids id) its found p q same fed in
          let some = within.0 in
          let less = within.1 in
          so_far p.port some (omega (arith, less, past)) q (ap (λ n. finite.get g.graph.feeders (port_at n p.port)) (sym same) ∙ fed)

      module _ (target source : PortAt) (fed : finite.get g.graph.feeders (port_of g target) ≡ Some (port_of g source)) where
        its_name : (q : Port) → finite.get g.graph.feeders (port_of g target) ≡ Some q → name_by g.ids source.node ≡ q.node
        its_name q e = ap (λ (p : Port). p.node) (same_Some (port_of g source) q (sym fed ∙ e))

        pub fed_placed : In source.node placed → IsFedAt g body placed (port_of g target)
        fed_placed i q e inside = subst (Has g placed) (its_name q e) (source.node, source_live g ok (port_of g target) source fed, i)

        pub fed_outside : ¬ (In source.node body) → IsFedAt g body placed (port_of g target)
        fed_outside never q e inside = absurd (never (in_set g ok body source.node q.node (subst (Denotes g source.node) (its_name q e) (source_live g ok (port_of g target) source fed)) inside))

        pub placed_by : IsFedAt g body placed (port_of g target) → In source.node body → In source.node placed
        placed_by at i =
            let live = source_live g ok (port_of g target) source fed in
            in_set g ok placed source.node (name_by g.ids source.node) live (at (port_of g source) fed (source.node, live, i))

      pub fed_by_none : (target : PortAt) → finite.get g.graph.feeders (port_of g target) ≡ None → IsFedAt g body placed (port_of g target)
      fed_by_none target unfed q e = absurd (none-some q (sym unfed ∙ e))

    -- on the way
    module _ (body : List NodeId) (live : AreLive g body) where
      abbrev c : Circuit
      c = circuit_of g.graph

      -- what is next is what is ready
      module _ (placed : List NodeId) (inside : (id : NodeId) → In id placed → In id body) (front : List Name) (same : (x : Name) → In x front ↔ In x (names_by g placed)) where
        placed_live : AreLive g placed
        placed_live id i = live id (inside id i)

        next_ready : (n : Name) → IsNext g body placed n → IsReady c (names_by g body) front n
        next_ready n next =
            record {
              in_body = has_name g body n next.has;
              open_yet = λ i. next.left (name_has g placed placed_live n ((same n).0 i));
              inputs = λ i q fed among. (same q.node).1 (has_name g placed q.node (next.fed (port_at n i) refl q fed (name_has g body live q.node among)));
            }

        ready_next : (n : Name) → IsReady c (names_by g body) front n → IsNext g body placed n
        ready_next n ready =
            record {
              has = name_has g body live n ready.in_body;
              left = λ h. ready.open_yet ((same n).1 (has_name g placed n h));
              fed = λ p node q fed has. name_has g placed placed_live q.node ((same q.node).0 (ready.inputs p.port q (ap (λ k. finite.get g.graph.feeders (port_at k p.port)) (sym node) ∙ fed) (has_name g body q.node has)));
            }

      pub ordering_first : (placed : List NodeId) (before tree : Tree) → placed ≡ [] → before ≡ [] → Queues g body placed (Has g body) before tree → Ordering g body placed tree
      ordering_first placed before tree none_placed none_before queues =
          record {
            inside = λ id i. elim (subst (In id) none_placed i) [ ];
            in_order = subst (λ ids. InBodyOrder c (names_by g body) [] (names_by g ids)) (sym none_placed) tt;
            each = λ e i. elim (queues.each e i) [ inl j ↦ elim (subst (In e) none_before j) [ ] | inr own ↦ own ];
            all = λ n next. queues.has n next.has next;
          }

      module _ (placed : List NodeId) (tree rest : Tree) (p : Bor Name × NodeId) (so_far : Ordering g body placed tree) (popped : tree ≡ p ∷ rest)
          (above : All (IsLtBy ref_cmp p.0) (map (λ (e : Bor Name × NodeId). e.0) rest)) where
        its : IsEntry g body placed p
        its = so_far.each p (subst (In p) (sym popped) (head refl))

        pub popped_live : Denotes g p.1 (name_by g.ids p.1)
        popped_live = subst (Denotes g p.1) (sym (itself g p.1 p.0.now its.0)) its.0

        name : p.0.now ≡ name_by g.ids p.1
        name = sym (itself g p.1 p.0.now its.0)

        next : IsNext g body placed (name_by g.ids p.1)
        next = subst (IsNext g body placed) name its.1

        pub popped_new : ¬ (In p.1 placed)
        popped_new i = next.left (p.1, popped_live, i)

        later : (e : Bor Name × NodeId) → In e rest → IsBefore (name_by g.ids p.1) e.0.now
        later e i = subst (λ k. IsBefore k e.0.now) name (all_keys (IsLtBy ref_cmp p.0) rest above e i)

        in_rest : (n : Name) → HasKey tree n → n ≢ name_by g.ids p.1 → HasKey rest n
        in_rest n has apart = at has.0 (subst (In has.0) popped has.1) has.2
          where
            at : (e : Bor Name × NodeId) → In e (p ∷ rest) → e.0.now ≡ n → HasKey rest n
            at e (head same) is = absurd (apart (sym is ∙ ap (λ (y : Bor Name × NodeId). y.0.now) same ∙ name))
            at e (tail i) is = (e, i, is)

        least : (n : Name) → IsNext g body placed n → n ≢ name_by g.ids p.1 → IsBefore (name_by g.ids p.1) n
        least n its_next apart =
            let (e, i, same) = in_rest n (so_far.all n its_next) apart in
            subst (IsBefore (name_by g.ids p.1)) same (later e i)

        module _ (after : List NodeId) (put : IsPut placed p.1 after) where
          pub one_longer : length after ≡ length placed + 1
          one_longer = ap length (put.added popped_new) ∙ longer placed p.1

          still : (n : Name) → Has g placed n → Has g after n
          still n (id, denotes, i) = (id, denotes, put_keeps placed after p.1 put id i)

          came : (n : Name) → Has g after n → Has g placed n ⊎ (n ≡ name_by g.ids p.1)
          came n (id, denotes, i) =
              elim (put_in placed after p.1 put id i) [
                | inl j ↦ inl (id, denotes, j)
                | inr same ↦ inr (sym (itself g id n denotes) ∙ ap (name_by g.ids) same)
              ]

          inside_now : (id : NodeId) → In id after → In id body
          inside_now id i =
              elim (put_in placed after p.1 put id i) [
                | inl j ↦ so_far.inside id j
                | inr same ↦ subst (λ x. In x body) (sym same) (in_set g ok body p.1 (name_by g.ids p.1) popped_live next.has)
              ]

          order_now : InBodyOrder c (names_by g body) [] (names_by g after)
          order_now =
              subst (InBodyOrder c (names_by g body) []) (sym (ap (names_by g) (put.added popped_new) ∙ names_more g placed p.1))
              (order_more c (names_by g body) [] (names_by g placed) (name_by g.ids p.1) so_far.in_order
              (λ front same. at front (λ x. ((λ i. only x ((same x).0 i)), (λ i. (same x).1 (inr i))))))
            where
              only : (x : Name) → In x [] ⊎ In x (names_by g placed) → In x (names_by g placed)
              only x (inl i) = elim i [ ]
              only x (inr i) = i

              at : (front : List Name) → ((x : Name) → In x front ↔ In x (names_by g placed)) → IsLeast c (names_by g body) front (name_by g.ids p.1)
              at front same = (next_ready placed so_far.inside front same (name_by g.ids p.1) next, λ k ready apart. least k (ready_next placed so_far.inside front same k ready) apart)

          -- what was next and is not placed is next
          next_still : (n : Name) → IsNext g body placed n → n ≢ name_by g.ids p.1 → IsNext g body after n
          next_still n its_next apart =
              record {
                has = its_next.has;
                left = λ h. elim (came n h) [ inl old ↦ its_next.left old | inr same ↦ apart same ];
                fed = λ r node q fed has. still q.node (its_next.fed r node q fed has);
              }

          -- what is next, and was not, is fed by what was placed
          next_before : (n : Name) → IsNext g body after n → ((r q : Port) → r.node ≡ n → finite.get g.graph.feeders r ≡ Some q → q.node ≢ name_by g.ids p.1) → IsNext g body placed n
          next_before n its_next none_from =
              record {
                has = its_next.has;
                left = λ h. its_next.left (still n h);
                fed = λ r node q fed has. elim (came q.node (its_next.fed r node q fed has)) [ inl old ↦ old | inr same ↦ absurd (none_from r q node fed same) ];
              }

          pub ordering_more : (then : Tree) → Queues g body after (IsFedBy g (name_by g.ids p.1)) rest then → Ordering g body after then
          ordering_more then queues =
              record {
                inside = inside_now;
                in_order = order_now;
                each = λ e i. elim (queues.each e i) [
                  | inl j ↦ old e j (so_far.each e (subst (In e) (sym popped) (tail j)))
                  | inr own ↦ own
                ];
                all = all_now;
              }
            where
              irreflexive : (n k : Name) → IsBefore n k → k ≢ n
              irreflexive n k before same = not_before n (subst (IsBefore n) same before)
                where
                  not_before : (n : Name) → IsBefore n n → ⊥
                  not_before n less = let wrong : Less ≡ Greater = sym less ∙ name_total.antisymm n n ∙ ap ordering_reverse less in cc

              old : (e : Bor Name × NodeId) → In e rest → IsEntry g body placed e → IsEntry g body after e
              old e i entry = (entry.0, next_still e.0.now entry.1 (irreflexive (name_by g.ids p.1) e.0.now (later e i)))

              all_now : (n : Name) → IsNext g body after n → HasKey then n
              all_now n its_next =
                  elim (key_cases then n) [
                    | inl has ↦ has
                    | inr never ↦
                        let before : IsNext g body placed n = next_before n its_next (λ r q node fed same. never (queues.has n (q, same, (r, fed, node)) its_next)) in
                        queues.keeps n (in_rest n (so_far.all n before) (λ same. its_next.left (p.1, subst (Denotes g p.1) (sym same) popped_live, put_has placed after p.1 put)))
                  ]
