-- Nodes that are chosen by a test, and the least of them by name.
use Rattle.std.proofs.Common.{◌≡◌, ◌⊎◌, inl, inr, ℕ, ◌+◌, ◌<◌, ◌≤◌, refl, sym, ap, subst, ◌∙◌, List, [], ◌∷◌, length, Option, Some, None, arith, Ordering, Less, Equal, Greater}
use Rattle.std.specs.Prelude.{slice_get}
use Rattle.std.specs.Ordering.{ordering_reverse}
use Rattle.std.specs.FinMap as finite
use Rattle.std.proofs.lemmas.Bool.{cases_eq}
use Rattle.std.proofs.lemmas.Option.{same_Some, none-some, slice_get_within}
use Rattle.components.specs.Name.{Name, Port, name_cmp, port_get}
use Rattle.components.specs.Kind.{ins}
use Rattle.components.specs.Node.{Body}
use Rattle.components.specs.Orders.{name_total, name_same}
use Rattle.circuits.specs.Circuit.{circuit_of}
use Rattle.circuits.specs.Replacing.{In, In.head, In.tail}
use Rattle.loop_laws.specs.Reached.{port_at, FedBy}
use Rattle.loop_laws.specs.BodyOrder.{IsBefore}
use Rattle.graph_core.specs.declared.place.NodeId.{NodeId}
use Rattle.graph_core.specs.declared.place.PortAt.{PortAt}
use Rattle.graph_core.specs.GraphValue.{GraphValue, Denotes, IsGraph, name_by, port_of}
use Rattle.loop_find.specs.declared.choose.Test.{Test}
use Rattle.loop_find.specs.NodeSets.{IsPut}
use Rattle.loop_find.specs.Judging.{Chosen, Fails, IsJudged, IsLesser, IsSorted}
use Rattle.loop_find.specs.Walks.{AreAll, AreLive, Has, Picks}
use Rattle.loop_find.proofs.WalkSteps.{Choosing, Least}
use Rattle.loop_find.proofs.Walking.{in_cases, itself, port_within}
use Rattle.loop_find.proofs.Places.{in_at, at_in, in_left, in_right, in_either}

-- one of two names is before the other, or they are one
pub before_cases : (a b : Name) → (a ≡ b) ⊎ (IsBefore a b ⊎ IsBefore b a)
before_cases a b = by_order (name_cmp a b) refl
  where
    by_order : (o : Ordering) → name_cmp a b ≡ o → (a ≡ b) ⊎ (IsBefore a b ⊎ IsBefore b a)
    by_order Less e = inr (inl e)
    by_order Equal e = inl (name_same a b e)
    by_order Greater e = inr (inr (name_total.antisymm b a ∙ ap ordering_reverse e))

pub put_in : (before after : List NodeId) (id : NodeId) → IsPut before id after → (x : NodeId) → In x after → In x before ⊎ (x ≡ id)
put_in before after id put x i =
    elim (in_cases id before) [
      | inl there ↦ inl (subst (In x) (put.there there) i)
      | inr new ↦ elim (in_either x before (id ∷ []) (subst (In x) (put.added new) i)) [ inl h ↦ inl h | inr h ↦ inr (only x h) ]
    ]
  where
    only : (x : NodeId) → In x (id ∷ []) → x ≡ id
    only x (head e) = e
    only x (tail i) = elim i [ ]

pub put_keeps : (before after : List NodeId) (id : NodeId) → IsPut before id after → (x : NodeId) → In x before → In x after
put_keeps before after id put x i =
    elim (in_cases id before) [
      | inl there ↦ subst (In x) (sym (put.there there)) i
      | inr new ↦ subst (In x) (sym (put.added new)) (in_left x before (id ∷ []) i)
    ]

pub put_has : (before after : List NodeId) (id : NodeId) → IsPut before id after → In id after
put_has before after id put =
    elim (in_cases id before) [
      | inl there ↦ subst (In id) (sym (put.there there)) there
      | inr new ↦ subst (In id) (sym (put.added new)) (in_right id before (id ∷ []) (head refl))
    ]

module _ (g : GraphValue) where
  -- the list has the node of an id that is in it, and no other by the same id
  pub has_it : (ids : List NodeId) (id : NodeId) → Denotes g id (name_by g.ids id) → In id ids → Has g ids (name_by g.ids id)
  has_it ids id denotes i = (id, denotes, i)

  -- the inputs of a node, one after the other
  module _ (ids : List NodeId) (id : NodeId) where
    abbrev pub FedAt : ℕ → Type 0
    FedAt port = (q : Port) → (circuit_of g.graph).feeder (port_at (name_by g.ids id) port) ≡ Some q → Has g ids q.node

    abbrev pub FedBelow : ℕ → Type 0
    FedBelow port = (k : ℕ) → 1 ≤ k → k < port → FedAt k

    pub fed_first : FedBelow 1
    fed_first k some below = absurd (omega arith)

    pub fed_more : (port : ℕ) → FedBelow port → FedAt port → FedBelow (port + 1)
    fed_more port so_far here k some below =
        elim (cases_eq k port) [ inl same ↦ subst FedAt (sym same) here | inr apart ↦ so_far k some (omega arith) ]

  module _ (is : IsGraph g) where
    pub it_is : (ids : List NodeId) (id : NodeId) → Denotes g id (name_by g.ids id) → Has g ids (name_by g.ids id) → In id ids
    it_is ids id denotes (other, same, i) = subst (λ x. In x ids) (is.alone other id (name_by g.ids id) same denotes) i

    -- the node of this id is what feeds an input
    pub fed_from_in : (ids : List NodeId) (target source : PortAt) → finite.get g.graph.feeders (port_of g target) ≡ Some (port_of g source) → Denotes g source.node (name_by g.ids source.node) →
        (In source.node ids → (q : Port) → finite.get g.graph.feeders (port_of g target) ≡ Some q → Has g ids q.node) ×
        (((q : Port) → finite.get g.graph.feeders (port_of g target) ≡ Some q → Has g ids q.node) → In source.node ids)
    fed_from_in ids target source fed denotes = (
      λ i q e. let same : port_of g source ≡ q = same_Some (port_of g source) q (sym fed ∙ e) in subst (λ (p : Port). Has g ids p.node) same (source.node, denotes, i),
      λ all. it_is ids source.node denotes (all (port_of g source) fed),
    )

    module _ (ids : List NodeId) (id : NodeId) where
      pub fed_all : (body : Body) (port : ℕ) → finite.get g.graph.nodes (name_by g.ids id) ≡ Some body → length (ins body.kind) < port → FedBelow ids id port →
          FedBy (circuit_of g.graph) (Has g ids) (name_by g.ids id)
      fed_all body port found past below i q fed =
          let w = is.graph.wires (port_at (name_by g.ids id) i) q fed in
          let same : w.to ≡ body = same_Some w.to body (sym w.is_to ∙ found) in
          let within = port_within (ins body.kind) i w.shape (subst (λ (b : Body). port_get (ins b.kind) i ≡ Some w.shape) same w.enters) in
          below i within.0 (omega (arith, within.1)) q fed

    -- choosing
    module _ (test : Test) (set from : List NodeId) where
      pub choosing_first : Choosing g test set from [] 0
      choosing_first = record { chosen = λ id i. elim i [ ]; all = λ k id below. absurd (omega arith) }

      pub choosing_more : (ids after : List NodeId) (next : ℕ) (id : NodeId) → Choosing g test set from ids next → Denotes g id (name_by g.ids id) → slice_get from next ≡ Some id →
          IsSorted g test set id ids after → Choosing g test set from after (next + 1)
      choosing_more ids after next id so_far denotes at (inl sorted) =
          record {
            chosen = λ x i. elim (put_in ids after id sorted.1 x i) [
              | inl old ↦ so_far.chosen x old
              | inr same ↦ subst (Picks g (Chosen g test set from)) (sym same) (name_by g.ids id, denotes, ((id, denotes, at_in from next id at), sorted.0))
            ];
            all = λ k x below got fails. elim (cases_eq k next) [
              | inl same ↦ subst (λ y. In y after) (same_Some id x (sym at ∙ ap (slice_get from) (sym same) ∙ got)) (put_has ids after id sorted.1)
              | inr apart ↦ put_keeps ids after id sorted.1 x (so_far.all k x (omega arith) got fails)
            ];
          }
      choosing_more ids after next id so_far denotes at (inr sorted) =
          record {
            chosen = λ x i. so_far.chosen x (subst (In x) sorted.1 i);
            all = λ k x below got fails. elim (cases_eq k next) [
              | inl same ↦ absurd (sorted.0 (subst (λ y. Fails g test set (name_by g.ids y)) (sym (same_Some id x (sym at ∙ ap (slice_get from) (sym same) ∙ got))) fails))
              | inr apart ↦ subst (In x) (sym sorted.1) (so_far.all k x (omega arith) got fails)
            ];
          }

      pub choosing_last : (ids : List NodeId) (next : ℕ) → Choosing g test set from ids next → length from ≤ next → AreAll g (Chosen g test set from) ids
      choosing_last ids next done all id = (
        done.chosen id,
        λ picked.
            let (n, denotes, chosen) = picked in
            let name = itself g id n denotes in
            let own = subst (Denotes g id) (sym name) denotes in
            let among = it_is from id own (subst (Has g from) (sym name) chosen.0) in
            let (place, at) = in_at id from among in
            done.all place id (omega (arith, slice_get_within from place id at)) at (subst (Fails g test set) (sym name) chosen.1),
      )

    -- the least
    pub lesser_is : (one other : NodeId) → Denotes g one (name_by g.ids one) → Denotes g other (name_by g.ids other) → ¬ (IsBefore (name_by g.ids other) (name_by g.ids one)) → IsLesser g one other one
    lesser_is one other denotes_one denotes_other never =
        record {
          is = inl refl;
          first = inl refl;
          second = elim (before_cases (name_by g.ids one) (name_by g.ids other)) [
            | inl same ↦ inl (is.alone other one (name_by g.ids other) denotes_other (subst (Denotes g one) same denotes_one))
            | inr order ↦ elim order [ inl before ↦ inr before | inr after ↦ absurd (never after) ]
          ];
        }

    pub other_lesser : (one other : NodeId) → IsBefore (name_by g.ids other) (name_by g.ids one) → IsLesser g one other other
    other_lesser one other before = record { is = inr refl; first = inr before; second = inl refl }

    pub least_first : (ids : List NodeId) (id : NodeId) → slice_get ids 0 ≡ Some id → Least g ids 1 id
    least_first ids id at =
        record {
          among = at_in ids 0 id at;
          first = λ k x below got. inl (same_Some x id (sym got ∙ ap (slice_get ids) (zero_only k below) ∙ at));
        }
      where
        zero_only : (k : ℕ) → k < 1 → k ≡ 0
        zero_only k below = omega arith

    pub least_more : (ids : List NodeId) (next : ℕ) (id other r : NodeId) → Least g ids next id → slice_get ids next ≡ Some other → IsLesser g id other r → Least g ids (next + 1) r
    least_more ids next id other r so_far at lesser =
        record {
          among = elim lesser.is [
            | inl same ↦ subst (λ x. In x ids) (sym same) so_far.among
            | inr same ↦ subst (λ x. In x ids) (sym same) (at_in ids next other at)
          ];
          first = λ k x below got. elim (cases_eq k next) [
            | inl same ↦
                let is_other : other ≡ x = same_Some other x (sym at ∙ ap (slice_get ids) (sym same) ∙ got) in
                subst (λ y. (y ≡ r) ⊎ IsBefore (name_by g.ids r) (name_by g.ids y)) is_other lesser.second
            | inr apart ↦ behind x (so_far.first k x (omega arith) got) lesser.first
          ];
        }
      where
        behind : (x : NodeId) → (x ≡ id) ⊎ IsBefore (name_by g.ids id) (name_by g.ids x) → (id ≡ r) ⊎ IsBefore (name_by g.ids r) (name_by g.ids id) → (x ≡ r) ⊎ IsBefore (name_by g.ids r) (name_by g.ids x)
        behind x (inl same) (inl e) = inl (same ∙ e)
        behind x (inl same) (inr before) = inr (subst (λ y. IsBefore (name_by g.ids r) (name_by g.ids y)) (sym same) before)
        behind x (inr after) (inl e) = inr (subst (λ y. IsBefore (name_by g.ids y) (name_by g.ids x)) e after)
        behind x (inr after) (inr before) = inr (name_total.trans (name_by g.ids r) (name_by g.ids id) (name_by g.ids x) before after)

    pub least_last : (ids : List NodeId) (next : ℕ) (id : NodeId) → AreLive g ids → Least g ids next id → length ids ≤ next → IsJudged g (Has g ids) (Some id)
    least_last ids next id live done all =
        record {
          denotes = live id done.among;
          holds = (id, live id done.among, done.among);
          least = λ n has apart.
              let (x, denotes, i) = has in
              let (place, at) = in_at x ids i in
              let name = itself g x n denotes in
              elim (done.first place x (omega (arith, slice_get_within ids place x at)) at) [
                | inl same ↦ absurd (apart (sym name ∙ ap (name_by g.ids) same))
                | inr before ↦ subst (IsBefore (name_by g.ids id)) name before
              ];
        }

    pub least_none : (ids : List NodeId) → slice_get ids 0 ≡ None → IsJudged g (Has g ids) None
    least_none [] none = λ n has. elim has.2 [ ]
    least_none (y ∷ ids) none = absurd (none-some y (sym none))

    -- what is judged of a set is judged of what the set is of
    module _ (P : Name → Type 0) (ids : List NodeId) (all : AreAll g P ids) (lives : (n : Name) → P n → (id : NodeId) × Denotes g id n) where
      has_of : (n : Name) → P n → Has g ids n
      has_of n p = let (id, denotes) = lives n p in (id, denotes, (all id).1 (n, denotes, p))

      of_has : (n : Name) → Has g ids n → P n
      of_has n (id, denotes, i) = let (k, other, p) = (all id).0 i in subst P (same_Some k n (sym other ∙ denotes)) p

      pub judged_of : (r : Option NodeId) → IsJudged g (Has g ids) r → IsJudged g P r
      judged_of None none = λ n p. none n (has_of n p)
      judged_of (Some id) judged =
          record { denotes = judged.denotes; holds = of_has (name_by g.ids id) judged.holds; least = λ n p apart. judged.least n (has_of n p) apart }
