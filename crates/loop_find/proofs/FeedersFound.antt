-- The candidates that no wire joins, within them, with one that is fed from elsewhere are the feeders.
use Rattle.std.proofs.Common.{◌≡◌, ◌⊎◌, inl, inr, ℕ, refl, sym, ap, subst, ◌∙◌, Bool, List, [], ◌∷◌, Some}
use Rattle.components.specs.declared.kind.Kind.TheVariants.{Mux, Branch, Init}
use Rattle.components.specs.Name.{Name, Port}
use Rattle.circuits.specs.Circuit.{Circuit, Typed, circuit_of}
use Rattle.circuits.specs.Replacing.{In, In.head, In.tail}
use Rattle.loop_laws.specs.Polarity.{IsMark}
use Rattle.loop_laws.specs.Reached.{port_at, HasKind, FedBy, Reached, Reached.first, Reached.later}
use Rattle.loop_laws.specs.Feeders.{IsConstant, AreConstant, AreFeeders, Feeder, TakesConstants}
use Rattle.loop_laws.proofs.NodeKinds.{kind_is}
use Rattle.loop_laws.proofs.Constants.{constant_kind}
use Rattle.loop_laws.proofs.Apart.{feeder_fed}
use Rattle.loop_laws.proofs.ShareNone.{first_output}
use Rattle.graph_core.specs.declared.place.NodeId.{NodeId}
use Rattle.graph_core.specs.GraphValue.{GraphValue, Denotes, IsGraph, name_by}
use Rattle.loop_find.specs.declared.choose.Test.TheVariants.{Foreign, Apart}
use Rattle.loop_find.specs.Feeding.{AreCandidates, AreLaid, AreLaid.none, AreLaid.more, MayFeed}
use Rattle.loop_find.specs.Judging.{Chosen}
use Rattle.loop_find.specs.Spreading.{IsJoined, JoinedTo, JoinedTo.begun, JoinedTo.onward}
use Rattle.loop_find.specs.Walks.{AreAll, Has}
use Rattle.loop_find.proofs.ConstantNodes.{constants_back}
use Rattle.loop_find.proofs.MarkWalks.{all_as}
use Rattle.loop_find.proofs.RowNodes.{of_all}
use Rattle.loop_find.proofs.Places.{in_either, in_left}
use Rattle.loop_find.proofs.Walking.{in_cases, itself}

module _ (g : GraphValue) (ok : IsGraph g) (ty : Typed (circuit_of g.graph)) (m : Name) (is_mark : IsMark (circuit_of g.graph) m) (goes_back : Bool)
    (takers : List NodeId) (takes : AreAll g (TakesConstants (circuit_of g.graph) m goes_back) takers)
    (ids : List NodeId) (candidates : AreCandidates g takers ids)
    (bad : List NodeId) (bads : AreAll g (Chosen g Foreign ids ids) bad)
    (spoilt : List NodeId) (spoils : AreAll g (JoinedTo g ids bad) spoilt) where
  abbrev c : Circuit
  c = circuit_of g.graph

  abbrev F : Name → Type 0
  F = Feeder c m goes_back

  kind_of_feeder : (n : Name) → F n → HasKind c IsConstant n
  kind_of_feeder n (ns, i, fs) = constant_kind c [] ns n fs.constant i

  -- a node that takes constants is no feeder
  no_reached : (n : Name) → Reached c m n → F n → ⊥
  no_reached n (first i q lane fed pass) f = kind_is c IsConstant q.node (Mux lane.shape) (kind_of_feeder q.node (feeder_fed c m goes_back n f i q fed)) lane.is_mux
  no_reached n (later i q r fed pass) f = no_reached q.node r (feeder_fed c m goes_back n f i q fed)

  no_taker : (n : Name) → TakesConstants c m goes_back n → F n → ⊥
  no_taker n (inl r) f = no_reached n r f
  no_taker n (inr (inl b)) f = kind_is c IsConstant n (Branch b.1.shape) (kind_of_feeder n f) b.1.is_branch
  no_taker n (inr (inr e)) f = kind_is c IsConstant n (Init is_mark.0 is_mark.1) (kind_of_feeder n f) (ap c.kind_at e ∙ is_mark.2)

  taker_of : (n : Name) → Has g takers n → TakesConstants c m goes_back n
  taker_of n has = of_all g (TakesConstants c m goes_back) takers takes n has

  has_taker : (p q : Port) → c.feeder p ≡ Some q → TakesConstants c m goes_back p.node → Has g takers p.node
  has_taker p q fed t =
      let w = ok.graph.wires p q fed in
      let (id, denotes) = ok.live p.node w.to w.is_to in
      (id, denotes, (takes id).1 (p.node, denotes, t))

  -- each feeder is a candidate
  candidate_step : (ns : List Name) → AreFeeders c m goes_back ns → (n : Name) → HasKind c IsConstant n → In n ns →
      ((p q : Port) → q.node ≡ n → c.feeder p ≡ Some q → In p.node ns → Has g ids p.node) → Has g ids n
  candidate_step ns fs n constant i rest =
      let (k, is_kind, is_constant) = constant in
      let (a, out) = first_output k is_constant (ty.kinds n k is_kind) in
      let (p, fed) = ty.outputs (port_at n 1) k a is_kind out in
      candidates.all p (port_at n 1) fed (record {
        constant = constant;
        apart = λ has. no_taker n (taker_of n has) (ns, i, fs);
        feeds = λ q same r e. elim (fs.feeds r q (subst (λ x. In x ns) (sym same) i) e) [
          | inl j ↦ inr (rest r q same e j)
          | inr t ↦ inl (has_taker r q e t)
        ];
      })

  feeder_candidate : (n : Name) → F n → Has g ids n
  feeder_candidate n (ns, i, fs) = constants_back c ns (Has g ids) (candidate_step ns fs) fs.constant n i

  -- what is laid
  laid_may : (l : List NodeId) → AreLaid g takers l → (n : Name) → Has g l n → HasKind c IsConstant n × ¬ (Has g takers n) × ((p q : Port) → q.node ≡ n → c.feeder p ≡ Some q → Has g takers p.node ⊎ Has g l p.node)
  laid_may l (none empty) n (id, denotes, i) = elim (subst (In id) empty i) [ ]
  laid_may l (more before last is laid new live may) n (id, denotes, i) =
      elim (in_either id before (last ∷ []) (subst (In id) is i)) [
        | inl j ↦
            let old = laid_may before laid n (id, denotes, j) in
            (old.0, old.1, λ p q same fed. wider p.node (old.2 p q same fed))
        | inr j ↦ own j
      ]
    where
      wider : (k : Name) → Has g takers k ⊎ Has g before k → Has g takers k ⊎ Has g l k
      wider k (inl h) = inl h
      wider k (inr h) = inr (h.0, h.1, subst (In h.0) (sym is) (in_left h.0 before (last ∷ []) h.2))

      own : In id (last ∷ []) → HasKind c IsConstant n × ¬ (Has g takers n) × ((p q : Port) → q.node ≡ n → c.feeder p ≡ Some q → Has g takers p.node ⊎ Has g l p.node)
      own (head e) =
          let name : name_by g.ids last ≡ n = ap (name_by g.ids) (sym e) ∙ itself g id n denotes in
          let its = subst (MayFeed g takers before) name may in
          (its.constant, its.apart, λ p q same fed. wider p.node (its.feeds q same p fed))
      own (tail j) = elim j [ ]

  -- what is joined with a node that is fed from elsewhere is no feeder
  bad_of : (n : Name) → Has g bad n → Chosen g Foreign ids ids n
  bad_of = of_all g (Chosen g Foreign ids ids) bad bads

  joined_has : (n : Name) → JoinedTo g ids bad n → Has g ids n
  joined_has n (begun id i denotes) = (bad_of n (id, denotes, i)).0
  joined_has n (onward k walked (inl target)) = target.2.0
  joined_has n (onward k walked (inr source)) = source.2.0

  none_feeds : (n : Name) → JoinedTo g ids bad n → F n → ⊥
  none_feeds n (begun id i denotes) f = (bad_of n (id, denotes, i)).1 (λ j q fed. feeder_candidate q.node (feeder_fed c m goes_back n f j q fed))
  none_feeds n (onward k walked (inl (q, from, (has, p, fed, to)))) (ns, i, fs) =
      none_feeds k walked (subst F from (feeder_fed c m goes_back n (ns, i, fs) p.port q (ap (λ x. c.feeder (port_at x p.port)) (sym to) ∙ fed)))
  none_feeds n (onward k walked (inr (p, from, (has, q, fed, to)))) (ns, i, fs) =
      elim (fs.feeds p q (subst (λ x. In x ns) (sym to) i) fed) [
        | inl j ↦ none_feeds k walked (subst F from (ns, j, fs))
        | inr t ↦ (laid_may ids candidates.laid k (joined_has k walked)).1 (subst (Has g takers) from (has_taker p q fed t))
      ]

  -- the others
  record Kept (n : Name) : Type 0 where
    has : Has g ids n
    clean : ¬ (Has g spoilt n)

  spoils_it : (n : Name) → JoinedTo g ids bad n → Has g ids n → Has g spoilt n
  spoils_it n joined (id, denotes, i) = (id, denotes, (spoils id).1 (n, denotes, joined))

  spoilt_of : (n : Name) → Has g spoilt n → JoinedTo g ids bad n
  spoilt_of = of_all g (JoinedTo g ids bad) spoilt spoils

  next_clean : (n k : Name) → Kept n → Has g ids k → IsJoined g ids k n → Kept k
  next_clean n k kept has joined = record { has = has; clean = λ s. kept.clean (spoils_it n (onward k (spoilt_of k s) joined) kept.has) }

  -- each input of one that is kept is fed by one that is kept
  kept_fed : (n : Name) → Kept n → FedBy c Kept n
  kept_fed n kept i q fed =
      let w = ok.graph.wires (port_at n i) q fed in
      let (id, denotes) = ok.live q.node w.from w.is_from in
      elim (in_cases id ids) [
        | inl j ↦ next_clean n q.node kept (id, denotes, j) (inl (q, refl, (kept.has, port_at n i, fed, refl)))
        | inr never ↦ absurd (kept.clean (spoils_it n (bad_one never denotes) kept.has))
      ]
    where
      bad_one : {id : NodeId} → ¬ (In id ids) → Denotes g id q.node → JoinedTo g ids bad n
      bad_one {id} never denotes =
          let (own, its, among) = kept.has in
          begun own ((bads own).1 (n, its, (kept.has, λ all. never (in_it (all i q fed))))) its
        where
          in_it : Has g ids q.node → In id ids
          in_it (other, same, j) = subst (λ x. In x ids) (ok.alone other id q.node same denotes) j

  kept_feeds : (p q : Port) → Kept q.node → c.feeder p ≡ Some q → Kept p.node ⊎ TakesConstants c m goes_back p.node
  kept_feeds p q kept fed =
      elim ((laid_may ids candidates.laid q.node kept.has).2 p q refl fed) [
        | inl t ↦ inr (taker_of p.node t)
        | inr h ↦ inl (next_clean q.node p.node kept h (inr (p, refl, (kept.has, q, fed, refl))))
      ]

  -- those that are kept, from the last to the first
  record KeptList (l : List NodeId) (before : List Name) : Type 0 where
    names : List Name
    constant : AreConstant c before names
    each : (n : Name) → In n names → Kept n
    all : (n : Name) → Kept n → Has g l n → In n names

  none_kept : (l : List NodeId) (before : List Name) → l ≡ [] → KeptList l before
  none_kept l before empty =
      record {
        names = [];
        constant = tt;
        each = λ n i. elim i [ ];
        all = λ n kept has. elim (subst (In has.0) empty has.2) [ ];
      }

  kept_list : (l : List NodeId) → AreLaid g takers l → (before : List Name) → ((n : Name) → Kept n → Has g l n ⊎ In n before) → KeptList l before
  kept_list l (none empty) before known = none_kept l before empty
  kept_list l (more front last is laid new live may) before known =
      elim (in_cases last spoilt) [
        | inl s ↦ without s (kept_list front laid before (λ n kept. skip s n kept (known n kept)))
        | inr clean ↦ elim (in_cases last ids) [
          | inl i ↦ with_it (its i clean) (kept_list front laid (name_by g.ids last ∷ before) (λ n kept. moved n (known n kept)))
          | inr out ↦ beside out (kept_list front laid before (λ n kept. pass out n kept (known n kept)))
        ]
      ]
    where
      its : In last ids → ¬ (In last spoilt) → Kept (name_by g.ids last)
      its i clean = record { has = (last, live, i); clean = λ s. clean (subst (λ x. In x spoilt) (ok.alone s.0 last (name_by g.ids last) s.1 live) s.2) }

      split : (n : Name) → Has g l n → Has g front n ⊎ (n ≡ name_by g.ids last)
      split n (id, denotes, i) = at (in_either id front (last ∷ []) (subst (In id) is i))
        where
          at : In id front ⊎ In id (last ∷ []) → Has g front n ⊎ (n ≡ name_by g.ids last)
          at (inl j) = inl (id, denotes, j)
          at (inr (head e)) = inr (sym (itself g id n denotes) ∙ ap (name_by g.ids) e)
          at (inr (tail j)) = elim j [ ]

      wider : (n : Name) → Has g front n → Has g l n
      wider n (id, denotes, i) = (id, denotes, subst (In id) (sym is) (in_left id front (last ∷ []) i))

      not_last : (n : Name) → Kept n → In last spoilt → n ≡ name_by g.ids last → ⊥
      not_last n kept s same = kept.clean (last, subst (Denotes g last) (sym same) live, s)

      not_out : (n : Name) → Kept n → ¬ (In last ids) → n ≡ name_by g.ids last → ⊥
      not_out n kept out same = out (subst (λ x. In x ids) (ok.alone kept.has.0 last n kept.has.1 (subst (Denotes g last) (sym same) live)) kept.has.2)

      skip : In last spoilt → (n : Name) → Kept n → Has g l n ⊎ In n before → Has g front n ⊎ In n before
      skip s n kept (inl h) = elim (split n h) [ inl f ↦ inl f | inr same ↦ absurd (not_last n kept s same) ]
      skip s n kept (inr i) = inr i

      pass : ¬ (In last ids) → (n : Name) → Kept n → Has g l n ⊎ In n before → Has g front n ⊎ In n before
      pass out n kept (inl h) = elim (split n h) [ inl f ↦ inl f | inr same ↦ absurd (not_out n kept out same) ]
      pass out n kept (inr i) = inr i

      moved : (n : Name) → Has g l n ⊎ In n before → Has g front n ⊎ In n (name_by g.ids last ∷ before)
      moved n (inl h) = elim (split n h) [ inl f ↦ inl f | inr same ↦ inr (head same) ]
      moved n (inr i) = inr (tail i)

      without : In last spoilt → KeptList front before → KeptList l before
      without s rest =
          record {
            names = rest.names;
            constant = rest.constant;
            each = rest.each;
            all = λ n kept has. elim (split n has) [ inl f ↦ rest.all n kept f | inr same ↦ absurd (not_last n kept s same) ];
          }

      beside : ¬ (In last ids) → KeptList front before → KeptList l before
      beside out rest =
          record {
            names = rest.names;
            constant = rest.constant;
            each = rest.each;
            all = λ n kept has. elim (split n has) [ inl f ↦ rest.all n kept f | inr same ↦ absurd (not_out n kept out same) ];
          }

      -- what feeds the last stands in none of those before it
      not_before : (i : ℕ) (q : Port) → c.feeder (port_at (name_by g.ids last) i) ≡ Some q → Has g l q.node → ⊥
      not_before i q fed h =
          elim (split q.node h) [
            | inl f ↦ elim ((laid_may front laid q.node f).2 (port_at (name_by g.ids last) i) q refl fed) [ inl t ↦ may.apart t | inr b ↦ again b ]
            | inr same ↦ elim (may.feeds q same (port_at (name_by g.ids last) i) fed) [ inl t ↦ may.apart t | inr b ↦ again b ]
          ]
        where
          again : Has g front (name_by g.ids last) → ⊥
          again (id, denotes, j) = new (subst (λ x. In x front) (ok.alone id last (name_by g.ids last) denotes live) j)

      fed_before : Kept (name_by g.ids last) → FedBy c (λ x. In x before) (name_by g.ids last)
      fed_before kept i q fed =
          elim (known q.node (kept_fed (name_by g.ids last) kept i q fed)) [ inl h ↦ absurd (not_before i q fed h) | inr b ↦ b ]

      with_it : Kept (name_by g.ids last) → KeptList front (name_by g.ids last ∷ before) → KeptList l before
      with_it kept rest =
          record {
            names = name_by g.ids last ∷ rest.names;
            constant = (may.constant, fed_before kept, rest.constant);
            each = each;
            all = λ n k has. elim (split n has) [ inl f ↦ tail (rest.all n k f) | inr same ↦ head same ];
          }
        where
          each : (n : Name) → In n (name_by g.ids last ∷ rest.names) → Kept n
          each n (head e) = subst Kept (sym e) kept
          each n (tail i) = rest.each n i

  kept_feeder : (n : Name) → Kept n → F n
  kept_feeder n kept =
      let found = kept_list ids candidates.laid [] (λ k its. inl its.has) in (
        found.names,
        found.all n kept kept.has,
        record {
          constant = found.constant;
          feeds = λ p q i fed. elim (kept_feeds p q (found.each q.node i) fed) [ inl k ↦ inl (found.all p.node k k.has) | inr t ↦ inr t ];
        },
      )

  pub feeders_are : (kept : List NodeId) → AreAll g (Chosen g Apart spoilt ids) kept → AreAll g (Feeder c m goes_back) kept
  feeders_are =
      all_as g (Chosen g Apart spoilt ids) F
      (λ n chosen. kept_feeder n (record { has = chosen.0; clean = chosen.1 }))
      (λ n f. (feeder_candidate n f, λ s. none_feeds n (spoilt_of n s) f))
