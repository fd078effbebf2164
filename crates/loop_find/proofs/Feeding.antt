-- Nodes that may feed a loop, step by step.
use Rattle.std.proofs.Common.{◌≡◌, ◌⊎◌, inl, inr, ℕ, ◌+◌, ◌<◌, ◌≤◌, refl, sym, ap, subst, ◌∙◌, List, [], ◌∷◌, ◌++◌, length, Some, None, append-nil, append_assoc, arith}
use Rattle.std.specs.Prelude.{slice_get}
use Rattle.std.specs.FinMap as finite
use Rattle.std.proofs.lemmas.Bool.{cases_eq}
use Rattle.std.proofs.lemmas.Option.{same_Some, none-some, slice_get_within}
use Rattle.components.specs.Kind.{ins, outs}
use Rattle.components.specs.Name.{Name, Port}
use Rattle.components.specs.Node.{Body}
use Rattle.circuits.specs.Replacing.{In, In.head, In.tail}
use Rattle.loop_laws.specs.Reached.{port_at}
use Rattle.graph_core.specs.declared.place.NodeId.{NodeId}
use Rattle.graph_core.specs.declared.place.PortAt.{PortAt}
use Rattle.graph_core.specs.GraphValue.{GraphValue, Denotes, IsGraph, name_by, port_of}
use Rattle.loop_find.specs.Feeding.{AreCandidates, AreLaid, AreLaid.none, AreLaid.more, Considers, FeedsAt, FeedsOnly, IsConsidered, MayFeed}
use Rattle.loop_find.specs.Walks.{AreLive, Has}
use Rattle.loop_find.proofs.FeedingSteps.{Feeding, FeedsBelow, HasAllBy, StandsBelow}
use Rattle.loop_find.proofs.AllPorts.{input_within, output_within}
use Rattle.loop_find.proofs.Places.{in_at, at_in, got_before, in_left, in_either, stands_one}
use Rattle.loop_find.proofs.Choosing.{put_has}
use Rattle.loop_find.proofs.Walking.{in_cases, id_of_node, itself, target_live}

module _ (g : GraphValue) (takers : List NodeId) where
  has_more : (ids rest : List NodeId) (n : Name) → Has g ids n → Has g (ids ++ rest) n
  has_more ids rest n (id, denotes, i) = (id, denotes, in_left id ids rest i)

  may_more : (ids rest : List NodeId) (n : Name) → MayFeed g takers ids n → MayFeed g takers (ids ++ rest) n
  may_more ids rest n may =
      record {
        constant = may.constant;
        apart = may.apart;
        feeds = λ q same p fed. elim (may.feeds q same p fed) [ inl h ↦ inl h | inr h ↦ inr (has_more ids rest p.node h) ];
      }

  pub considers_none : (P : Port → Type 0) (before after : List NodeId) → after ≡ before → ((p q : Port) → P p → finite.get g.graph.feeders p ≡ Some q → ⊥) → Considers g takers P before after
  considers_none P before after same never =
      record {
        laid = subst (AreLaid g takers) (sym same);
        more = [];
        grows = same ∙ sym (append-nil before);
        has = λ p q holds fed may. absurd (never p q holds fed);
      }

  pub considers_on : (P Q R : Port → Type 0) (a b d : List NodeId) → Considers g takers P a b → Considers g takers Q b d →
      ((p q : Port) → R p → finite.get g.graph.feeders p ≡ Some q → P p ⊎ Q p) → Considers g takers R a d
  considers_on P Q R a b d first next either =
      record {
        laid = λ l. next.laid (first.laid l);
        more = first.more ++ next.more;
        grows = next.grows ∙ ap (λ xs. xs ++ next.more) first.grows ∙ append_assoc a first.more next.more;
        has = λ p q holds fed may. elim (either p q holds fed) [
          | inl h ↦ subst (λ ids. Has g ids q.node) (sym next.grows) (has_more b next.more q.node (first.has p q h fed may))
          | inr h ↦ next.has p q h fed (subst (λ ids. MayFeed g takers ids q.node) (sym first.grows) (may_more a first.more q.node may))
        ];
      }

  pub considers_as : (P R : Port → Type 0) (a b : List NodeId) → Considers g takers P a b → ((p q : Port) → R p → finite.get g.graph.feeders p ≡ Some q → P p) → Considers g takers R a b
  considers_as P R a b first so =
      record { laid = first.laid; more = first.more; grows = first.grows; has = λ p q holds fed may. first.has p q (so p q holds fed) fed may }

  pub considers_unfed : (target : PortAt) → finite.get g.graph.feeders (port_of g target) ≡ None → (ids : List NodeId) → Considers g takers (λ p. p ≡ port_of g target) ids ids
  considers_unfed target unfed ids =
      considers_none (λ p. p ≡ port_of g target) ids ids refl (λ p q same fed. none-some q (sym unfed ∙ ap (finite.get g.graph.feeders) (sym same) ∙ fed))

  module _ (target source : PortAt) (fed : finite.get g.graph.feeders (port_of g target) ≡ Some (port_of g source)) (live : Denotes g source.node (name_by g.ids source.node)) where
    its_source : (p q : Port) → p ≡ port_of g target → finite.get g.graph.feeders p ≡ Some q → name_by g.ids source.node ≡ q.node
    its_source p q same e = ap (λ (r : Port). r.node) (same_Some (port_of g source) q (sym fed ∙ ap (finite.get g.graph.feeders) (sym same) ∙ e))

    pub considers_one : (before after : List NodeId) → IsConsidered g takers source.node before after → Considers g takers (λ p. p ≡ port_of g target) before after
    considers_one before after (inr left) =
        record {
          laid = subst (AreLaid g takers) (sym left.1);
          more = [];
          grows = left.1 ∙ sym (append-nil before);
          has = λ p q same e may. absurd (left.0 (subst (MayFeed g takers before) (sym (its_source p q same e)) may));
        }
    considers_one before after (inl put) =
        elim (in_cases source.node before) [
          | inl there ↦ record {
            laid = subst (AreLaid g takers) (sym (put.1.there there));
            more = [];
            grows = put.1.there there ∙ sym (append-nil before);
            has = λ p q same e may. here p q same e;
          }
          | inr new ↦ record {
            laid = λ l. more before source.node (put.1.added new) l new live put.0;
            more = source.node ∷ [];
            grows = put.1.added new;
            has = λ p q same e may. here p q same e;
          }
        ]
      where
        here : (p q : Port) → p ≡ port_of g target → finite.get g.graph.feeders p ≡ Some q → Has g after q.node
        here p q same e = subst (Has g after) (its_source p q same e) (source.node, live, put_has before after source.node put.1)

  pub laid_live : (ids : List NodeId) → AreLaid g takers ids → AreLive g ids
  laid_live ids (none empty) id i = elim (subst (In id) empty i) [ ]
  laid_live ids (more before last is laid new denotes may) id i =
      elim (in_either id before (last ∷ []) (subst (In id) is i)) [ inl h ↦ laid_live before laid id h | inr h ↦ only h ]
    where
      only : In id (last ∷ []) → Denotes g id (name_by g.ids id)
      only (head same) = subst (λ x. Denotes g x (name_by g.ids x)) (sym same) denotes
      only (tail h) = elim h [ ]

  module _ (ok : IsGraph g) where
    in_set : (ids : List NodeId) (id : NodeId) (n : Name) → Denotes g id n → Has g ids n → In id ids
    in_set ids id n denotes (other, same, i) = subst (λ x. In x ids) (ok.alone other id n same denotes) i

    all_step : (D E : Name → Type 0) (ids after : List NodeId) (t : Name) → HasAllBy g takers D ids → Considers g takers (λ p. p.node ≡ t) ids after →
        ((n : Name) → E n → D n ⊎ (n ≡ t)) → ((n : Name) → E n → Has g takers n ⊎ Has g ids n) → HasAllBy g takers E after
    all_step D E ids after t all considers split known p q fed constant apart each =
        let (id, denotes) = id_of_node g ok q.node constant.0 constant.1 in
        elim (in_cases id after) [
          | inl i ↦ (id, denotes, i)
          | inr never ↦
              let may : MayFeed g takers ids q.node = record { constant = constant; apart = apart; feeds = λ s same r e. known r.node (each s r same e) } in
              let before : Has g ids q.node = all p q fed constant apart (λ s r same e. elim (split r.node (each s r same e)) [
                | inl d ↦ d
                | inr is ↦ absurd (never (in_set after id q.node denotes (subst (Has g after) same (considers.has r s is e (subst (MayFeed g takers ids) (sym same) may)))))
              ]) in
              subst (λ xs. Has g xs q.node) (sym considers.grows) (has_more ids considers.more q.node before)
        ]

    below_has : (ids : List NodeId) (k : ℕ) (n : Name) → StandsBelow g ids k n → Has g ids n
    below_has ids k n (i, id, less, at, denotes) = (id, denotes, at_in ids i id at)

    below_next : (ids : List NodeId) (k : ℕ) (id : NodeId) (n : Name) → slice_get ids k ≡ Some id → StandsBelow g ids (k + 1) n → StandsBelow g ids k n ⊎ (n ≡ name_by g.ids id)
    below_next ids k id n here (i, x, less, at, denotes) =
        elim (cases_eq i k) [
          | inl same ↦ inr (sym (itself g x n denotes) ∙ ap (name_by g.ids) (same_Some x id (sym at ∙ ap (slice_get ids) same ∙ here)))
          | inr apart ↦ inl (i, x, omega arith, at, denotes)
        ]

    pub feeding_first : (ids : List NodeId) → ids ≡ [] → Feeding g takers ids 0 0
    feeding_first ids empty =
        record {
          laid = none empty;
          all = λ p q fed constant apart each. absurd (never p.node (each q p refl fed));
        }
      where
        nothing : (xs : List NodeId) (n : Name) → StandsBelow g xs 0 n → ⊥
        nothing xs n (i, x, less, at, denotes) = omega arith

        never : (n : Name) → StandsBelow g takers 0 n ⊎ StandsBelow g ids 0 n → ⊥
        never n (inl h) = nothing takers n h
        never n (inr h) = nothing ids n h

    pub feeding_taker : (ids after : List NodeId) (k : ℕ) (id : NodeId) → Feeding g takers ids k 0 → slice_get takers k ≡ Some id → Considers g takers (λ p. p.node ≡ name_by g.ids id) ids after →
        Feeding g takers after (k + 1) 0
    feeding_taker ids after k id so_far at considers =
        record {
          laid = considers.laid so_far.laid;
          all = all_step (λ n. StandsBelow g takers k n ⊎ StandsBelow g ids 0 n) (λ n. StandsBelow g takers (k + 1) n ⊎ StandsBelow g after 0 n) ids after (name_by g.ids id) so_far.all considers
              (λ n done. elim done [
                | inl h ↦ elim (below_next takers k id n at h) [ inl b ↦ inl (inl b) | inr same ↦ inr same ]
                | inr h ↦ absurd (nothing n h)
              ])
              (λ n done. elim done [ inl h ↦ inl (below_has takers (k + 1) n h) | inr h ↦ absurd (nothing n h) ]);
        }
      where
        nothing : (n : Name) → StandsBelow g after 0 n → ⊥
        nothing n (i, x, less, at, denotes) = omega arith

    pub feeding_own : (ids after : List NodeId) (k j : ℕ) (id : NodeId) → Feeding g takers ids k j → slice_get ids j ≡ Some id → Considers g takers (λ p. p.node ≡ name_by g.ids id) ids after →
        Feeding g takers after k (j + 1)
    feeding_own ids after k j id so_far at considers =
        record {
          laid = considers.laid so_far.laid;
          all = all_step (λ n. StandsBelow g takers k n ⊎ StandsBelow g ids j n) (λ n. StandsBelow g takers k n ⊎ StandsBelow g after (j + 1) n) ids after (name_by g.ids id) so_far.all considers
              (λ n done. elim done [
                | inl h ↦ inl (inl h)
                | inr h ↦ elim (below_next ids j id n at (before n h)) [ inl b ↦ inl (inr b) | inr same ↦ inr same ]
              ])
              (λ n done. elim done [ inl h ↦ inl (below_has takers k n h) | inr h ↦ inr (below_has ids (j + 1) n (before n h)) ]);
        }
      where
        before : (n : Name) → StandsBelow g after (j + 1) n → StandsBelow g ids (j + 1) n
        before n (i, x, less, there, denotes) =
            let within : j < length ids = slice_get_within ids j id at in
            let (y, old) = stands_one ids i (omega arith) in
            (i, x, less, old ∙ sym (got_before ids considers.more i y old) ∙ sym (ap (λ xs. slice_get xs i) considers.grows) ∙ there, denotes)

    pub feeding_between : (ids : List NodeId) (k : ℕ) → Feeding g takers ids k 0 → length takers ≤ k → Feeding g takers ids (length takers) 0
    feeding_between ids k so_far past =
        record {
          laid = so_far.laid;
          all = λ p q fed constant apart each. so_far.all p q fed constant apart (λ s r same e. elim (each s r same e) [
            | inl (i, x, less, at, denotes) ↦ inl (i, x, (omega arith), at, denotes)
            | inr h ↦ inr h
          ]);
        }

    pub feeding_last : (ids : List NodeId) (j : ℕ) → Feeding g takers ids (length takers) j → length ids ≤ j → AreCandidates g takers ids
    feeding_last ids j so_far past =
        record {
          laid = so_far.laid;
          all = λ p q fed may. so_far.all p q fed may.constant may.apart (λ s r same e. elim (may.feeds s same r e) [
            | inl h ↦ inl (below takers (length takers) r.node (omega arith) h)
            | inr h ↦ inr (below ids j r.node past h)
          ]);
        }
      where
        below : (xs : List NodeId) (k : ℕ) (n : Name) → length xs ≤ k → Has g xs n → StandsBelow g xs k n
        below xs k n past (id, denotes, i) =
            let (place, at) = in_at id xs i in
            let less : place < length xs = slice_get_within xs place id at in
            (place, id, omega arith, at, denotes)

    -- the ports of a node
    module _ (id : NodeId) (body : Body) (found : finite.get g.graph.nodes (name_by g.ids id) ≡ Some body) where
      pub inputs_first : (ids : List NodeId) → Considers g takers (λ p. (p.node ≡ name_by g.ids id) × (p.port < 1)) ids ids
      inputs_first ids =
          considers_none (λ p. (p.node ≡ name_by g.ids id) × (p.port < 1)) ids ids refl
          (λ p q so fed. let some = (input_within g ok (name_by g.ids id) body found p q so.0 fed).0 in let less = so.1 in absurd (omega (arith, some, less)))

      pub inputs_more : (a b d : List NodeId) (port : ℕ) → Considers g takers (λ p. (p.node ≡ name_by g.ids id) × (p.port < port)) a b →
          Considers g takers (λ p. p ≡ port_at (name_by g.ids id) port) b d → Considers g takers (λ p. (p.node ≡ name_by g.ids id) × (p.port < port + 1)) a d
      inputs_more a b d port first next =
          considers_on (λ p. (p.node ≡ name_by g.ids id) × (p.port < port)) (λ p. p ≡ port_at (name_by g.ids id) port) (λ p. (p.node ≡ name_by g.ids id) × (p.port < port + 1)) a b d first next
          (λ p q so fed. elim (cases_eq p.port port) [
            | inl same ↦ inr (ap (λ n. port_at n p.port) so.0 ∙ ap (port_at (name_by g.ids id)) same)
            | inr apart ↦ inl (so.0, (let less = so.1 in omega (arith, less, apart)))
          ])

      pub inputs_last : (a b : List NodeId) (port : ℕ) → length (ins body.kind) < port → Considers g takers (λ p. (p.node ≡ name_by g.ids id) × (p.port < port)) a b →
          Considers g takers (λ p. p.node ≡ name_by g.ids id) a b
      inputs_last a b port past first =
          considers_as (λ p. (p.node ≡ name_by g.ids id) × (p.port < port)) (λ p. p.node ≡ name_by g.ids id) a b first
          (λ p q same fed. (same, (let less = (input_within g ok (name_by g.ids id) body found p q same fed).1 in omega (arith, less, past))))

      module _ (ids : List NodeId) where
        pub feeds_first : FeedsBelow g takers ids id 1
        feeds_first k some below = absurd (omega arith)

        pub feeds_more : (port : ℕ) → FeedsBelow g takers ids id port → FeedsAt g takers ids (port_at (name_by g.ids id) port) → FeedsBelow g takers ids id (port + 1)
        feeds_more port so_far here k some below =
            elim (cases_eq k port) [
              | inl same ↦ subst (λ j. FeedsAt g takers ids (port_at (name_by g.ids id) j)) (sym same) here
              | inr apart ↦ so_far k some (omega arith)
            ]

        pub feeds_all : (port : ℕ) → length (outs body.kind) < port → FeedsBelow g takers ids id port → FeedsOnly g takers ids (name_by g.ids id)
        feeds_all port past so_far q same p fed =
            let within = output_within g ok (name_by g.ids id) body found p q same fed in
            let some = within.0 in
            let less = within.1 in
            so_far q.port some (omega (arith, less, past)) p (fed ∙ ap Some (ap (λ n. port_at n q.port) same))

    -- what an output feeds
    module _ (ids : List NodeId) (source target : PortAt) (fed : finite.get g.graph.feeders (port_of g target) ≡ Some (port_of g source)) where
      pub feeds_at : In target.node takers ⊎ In target.node ids → FeedsAt g takers ids (port_of g source)
      feeds_at among p e =
          let same : name_by g.ids target.node ≡ p.node = ap (λ (r : Port). r.node) (ok.graph.once (port_of g target) p (port_of g source) fed e) in
          let live = target_live g ok target (port_of g source) fed in
          elim among [
            | inl i ↦ inl (subst (Has g takers) same (target.node, live, i))
            | inr i ↦ inr (subst (Has g ids) same (target.node, live, i))
          ]

      pub fed_among : FeedsAt g takers ids (port_of g source) → In target.node takers ⊎ In target.node ids
      fed_among feeds =
          let live = target_live g ok target (port_of g source) fed in
          elim (feeds (port_of g target) fed) [
            | inl h ↦ inl (in_set takers target.node (name_by g.ids target.node) live h)
            | inr h ↦ inr (in_set ids target.node (name_by g.ids target.node) live h)
          ]
