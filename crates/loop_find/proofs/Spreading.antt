-- Walks along wires, either way, step by step.
use Rattle.std.proofs.Common.{◌≡◌, ◌⊎◌, inl, inr, ℕ, ◌+◌, ◌<◌, ◌≤◌, refl, sym, ap, subst, ◌∙◌, List, [], ◌∷◌, ◌++◌, length, Some, append-nil, append_assoc, arith}
use Rattle.std.specs.Prelude.{slice_get}
use Rattle.std.specs.FinMap as finite
use Rattle.std.proofs.lemmas.Bool.{cases_eq}
use Rattle.std.proofs.lemmas.Option.{same_Some, slice_get_within}
use Rattle.components.specs.Kind.{ins, outs}
use Rattle.components.specs.Name.{Name, Port}
use Rattle.components.specs.Node.{Body}
use Rattle.circuits.specs.Replacing.{In, In.head, In.tail}
use Rattle.loop_laws.specs.Reached.{port_at}
use Rattle.graph_core.specs.declared.place.NodeId.{NodeId}
use Rattle.graph_core.specs.declared.place.PortAt.{PortAt}
use Rattle.graph_core.specs.GraphValue.{GraphValue, Denotes, IsGraph, name_by, port_of}
use Rattle.loop_find.specs.NodeSets.{IsPut}
use Rattle.loop_find.specs.Spreading.{Brings, IsJoined, IsSource, IsTarget, JoinedTo, JoinedTo.begun, JoinedTo.onward, SourceOf, TargetOf}
use Rattle.loop_find.specs.Walks.{AreAll, AreLive, Has, Picks}
use Rattle.loop_find.proofs.SpreadSteps.{SourceBelow, Spreading, TargetBelow}
use Rattle.loop_find.proofs.AllPorts.{input_within, output_within}
use Rattle.loop_find.proofs.Places.{in_at, at_in, got_before, in_left, in_either, stands_one}
use Rattle.loop_find.proofs.Choosing.{put_has}
use Rattle.loop_find.proofs.Walking.{in_cases, itself, source_live, target_live}

module _ (g : GraphValue) where
  has_more : (ids rest : List NodeId) (n : Name) → Has g ids n → Has g (ids ++ rest) n
  has_more ids rest n (id, denotes, i) = (id, denotes, in_left id ids rest i)

  pub brings_none : (P : Name → Type 0) (before after : List NodeId) → after ≡ before → ((n : Name) → ¬ (P n)) → Brings g P before after
  brings_none P before after same none =
      record { more = []; grows = same ∙ sym (append-nil before); each = λ id i. elim i [ ]; has = λ n p. absurd (none n p) }

  pub brings_one : (P : Name → Type 0) (before after : List NodeId) (id : NodeId) → Denotes g id (name_by g.ids id) → P (name_by g.ids id) → ((n : Name) → P n → name_by g.ids id ≡ n) →
      IsPut before id after → Brings g P before after
  brings_one P before after id denotes holds only put =
      elim (in_cases id before) [
        | inl there ↦ record {
          more = [];
          grows = put.there there ∙ sym (append-nil before);
          each = λ x i. elim i [ ];
          has = has;
        }
        | inr new ↦ record {
          more = id ∷ [];
          grows = put.added new;
          each = one;
          has = has;
        }
      ]
    where
      has : (n : Name) → P n → Has g after n
      has n p = subst (Has g after) (only n p) (id, denotes, put_has before after id put)

      one : (x : NodeId) → In x (id ∷ []) → Picks g P x
      one x (head same) = subst (Picks g P) (sym same) (name_by g.ids id, denotes, holds)
      one x (tail i) = elim i [ ]

  picks_as : (P Q : Name → Type 0) (id : NodeId) → ((n : Name) → P n → Q n) → Picks g P id → Picks g Q id
  picks_as P Q id so (n, denotes, p) = (n, denotes, so n p)

  pub brings_on : (P Q R : Name → Type 0) (a b d : List NodeId) → Brings g P a b → Brings g Q b d → ((n : Name) → P n → R n) → ((n : Name) → Q n → R n) →
      ((n : Name) → R n → P n ⊎ Q n) → Brings g R a d
  brings_on P Q R a b d first next from_p from_q either =
      record {
        more = first.more ++ next.more;
        grows = next.grows ∙ ap (λ xs. xs ++ next.more) first.grows ∙ append_assoc a first.more next.more;
        each = λ id i. elim (in_either id first.more next.more i) [
          | inl h ↦ picks_as P R id from_p (first.each id h)
          | inr h ↦ picks_as Q R id from_q (next.each id h)
        ];
        has = λ n r. elim (either n r) [
          | inl p ↦ subst (λ ids. Has g ids n) (sym next.grows) (has_more b next.more n (first.has n p))
          | inr q ↦ next.has n q
        ];
      }

  pub brings_as : (P R : Name → Type 0) (a b : List NodeId) → Brings g P a b → ((n : Name) → P n → R n) → ((n : Name) → R n → P n) → Brings g R a b
  brings_as P R a b first there back =
      record { more = first.more; grows = first.grows; each = λ id i. picks_as P R id there (first.each id i); has = λ n r. first.has n (back n r) }

  module _ (ok : IsGraph g) (within : List NodeId) where
    in_set : (ids : List NodeId) (id : NodeId) (n : Name) → Denotes g id n → Has g ids n → In id ids
    in_set ids id n denotes (other, same, i) = subst (λ x. In x ids) (ok.alone other id n same denotes) i

    -- one port
    module _ (target source : PortAt) (fed : finite.get g.graph.feeders (port_of g target) ≡ Some (port_of g source)) (before after : List NodeId) where
      pub source_put : In source.node within → IsPut before source.node after → Brings g (SourceOf g within (port_of g target)) before after
      source_put i put =
          let live = source_live g ok (port_of g target) source fed in
          brings_one (SourceOf g within (port_of g target)) before after source.node live ((source.node, live, i), port_of g source, fed, refl)
          (λ n so. ap (λ (p : Port). p.node) (same_Some (port_of g source) so.1 (sym fed ∙ so.2)) ∙ so.3) put

      pub source_left : ¬ (In source.node within) → after ≡ before → Brings g (SourceOf g within (port_of g target)) before after
      source_left never same =
          brings_none (SourceOf g within (port_of g target)) before after same
          (λ n so. never (in_set within source.node n
          (subst (Denotes g source.node) (ap (λ (p : Port). p.node) (same_Some (port_of g source) so.1 (sym fed ∙ so.2)) ∙ so.3) (source_live g ok (port_of g target) source fed)) so.0))

      pub target_put : In target.node within → IsPut before target.node after → Brings g (TargetOf g within (port_of g source)) before after
      target_put i put =
          let live = target_live g ok target (port_of g source) fed in
          brings_one (TargetOf g within (port_of g source)) before after target.node live ((target.node, live, i), port_of g target, fed, refl)
          (λ n so. ap (λ (p : Port). p.node) (ok.graph.once (port_of g target) so.1 (port_of g source) fed so.2) ∙ so.3) put

      pub target_left : ¬ (In target.node within) → after ≡ before → Brings g (TargetOf g within (port_of g source)) before after
      target_left never same =
          brings_none (TargetOf g within (port_of g source)) before after same
          (λ n so. never (in_set within target.node n
          (subst (Denotes g target.node) (ap (λ (p : Port). p.node) (ok.graph.once (port_of g target) so.1 (port_of g source) fed so.2) ∙ so.3) (target_live g ok target (port_of g source) fed)) so.0))

    -- the ports of a node
    module _ (id : NodeId) (body : Body) (found : finite.get g.graph.nodes (name_by g.ids id) ≡ Some body) where
      none_below : (k : ℕ) → 1 ≤ k → k < 1 → ⊥
      none_below k some less = omega arith

      pub sources_first : (ids : List NodeId) → Brings g (SourceBelow g within id 1) ids ids
      sources_first ids =
          brings_none (SourceBelow g within id 1) ids ids refl
          (λ n so. none_below so.0 (input_within g ok (name_by g.ids id) body found (port_at (name_by g.ids id) so.0) so.2.1 refl so.2.2).0 so.1)

      pub sources_more : (a b d : List NodeId) (port : ℕ) → Brings g (SourceBelow g within id port) a b → Brings g (SourceOf g within (port_at (name_by g.ids id) port)) b d → Brings g (SourceBelow g within id (port + 1)) a d
      sources_more a b d port first next =
          brings_on (SourceBelow g within id port) (SourceOf g within (port_at (name_by g.ids id) port)) (SourceBelow g within id (port + 1)) a b d first next
          (λ n so. (so.0, (let less = so.1 in omega (arith, less)), so.2)) (λ n so. (port, omega arith, so))
          (λ n so. elim (cases_eq so.0 port) [
            | inl same ↦ inr (subst (λ k. SourceOf g within (port_at (name_by g.ids id) k) n) same so.2)
            | inr apart ↦ inl (so.0, (let less = so.1 in omega (arith, less, apart)), so.2)
          ])

      pub sources_last : (a b : List NodeId) (port : ℕ) → length (ins body.kind) < port → Brings g (SourceBelow g within id port) a b → Brings g (IsSource g within (name_by g.ids id)) a b
      sources_last a b port past first =
          brings_as (SourceBelow g within id port) (IsSource g within (name_by g.ids id)) a b first
          (λ n so. (port_at (name_by g.ids id) so.0, refl, so.2))
          (λ n so.
          let less = (input_within g ok (name_by g.ids id) body found so.0 so.2.1 so.1 so.2.2).1 in
          (so.0.port, (omega (arith, less, past)), subst (λ p. SourceOf g within p n) (ap (λ m. port_at m so.0.port) so.1) so.2))

      pub targets_first : (ids : List NodeId) → Brings g (TargetBelow g within id 1) ids ids
      targets_first ids =
          brings_none (TargetBelow g within id 1) ids ids refl
          (λ n so. none_below so.0 (output_within g ok (name_by g.ids id) body found so.2.1 (port_at (name_by g.ids id) so.0) refl so.2.2).0 so.1)

      pub targets_more : (a b d : List NodeId) (port : ℕ) → Brings g (TargetBelow g within id port) a b → Brings g (TargetOf g within (port_at (name_by g.ids id) port)) b d → Brings g (TargetBelow g within id (port + 1)) a d
      targets_more a b d port first next =
          brings_on (TargetBelow g within id port) (TargetOf g within (port_at (name_by g.ids id) port)) (TargetBelow g within id (port + 1)) a b d first next
          (λ n so. (so.0, (let less = so.1 in omega (arith, less)), so.2)) (λ n so. (port, omega arith, so))
          (λ n so. elim (cases_eq so.0 port) [
            | inl same ↦ inr (subst (λ k. TargetOf g within (port_at (name_by g.ids id) k) n) same so.2)
            | inr apart ↦ inl (so.0, (let less = so.1 in omega (arith, less, apart)), so.2)
          ])

      pub targets_last : (a b : List NodeId) (port : ℕ) → length (outs body.kind) < port → Brings g (TargetBelow g within id port) a b → Brings g (IsTarget g within (name_by g.ids id)) a b
      targets_last a b port past first =
          brings_as (TargetBelow g within id port) (IsTarget g within (name_by g.ids id)) a b first
          (λ n so. (port_at (name_by g.ids id) so.0, refl, so.2))
          (λ n so.
          let less = (output_within g ok (name_by g.ids id) body found so.2.1 so.0 so.1 so.2.2).1 in
          (so.0.port, (omega (arith, less, past)), subst (λ q. TargetOf g within q n) (ap (λ m. port_at m so.0.port) so.1) so.2))

    pub joined_both : (a b d : List NodeId) (n : Name) → Brings g (IsTarget g within n) a b → Brings g (IsSource g within n) b d → Brings g (IsJoined g within n) a d
    joined_both a b d n first next =
        brings_on (IsTarget g within n) (IsSource g within n) (IsJoined g within n) a b d first next (λ x so. inl so) (λ x so. inr so) (λ x so. so)

    -- a walk
    module _ (from : List NodeId) where
      pub spread_first : AreLive g from → Spreading g within from from 0
      spread_first live =
          record { started = λ id i. i; reached = λ id i. (name_by g.ids id, live id i, begun id i (live id i)); closed = λ k id n below. absurd (omega arith) }

      pub spread_live : (ids : List NodeId) (next : ℕ) → Spreading g within from ids next → (id : NodeId) → In id ids → Denotes g id (name_by g.ids id)
      spread_live ids next so_far id i =
          let (n, denotes, walked) = so_far.reached id i in subst (Denotes g id) (sym (itself g id n denotes)) denotes

      pub spread_more : (ids after : List NodeId) (next : ℕ) (id : NodeId) → Spreading g within from ids next → slice_get ids next ≡ Some id →
          Brings g (IsJoined g within (name_by g.ids id)) ids after → Spreading g within from after (next + 1)
      spread_more ids after next id so_far at brings =
          record {
            started = λ x i. still x (so_far.started x i);
            reached = λ x i. elim (in_either x ids brings.more (subst (In x) brings.grows i)) [
              | inl old ↦ so_far.reached x old
              | inr new ↦ let (n, denotes, joined) = brings.each x new in (n, denotes, onward (name_by g.ids id) here joined)
            ];
            closed = λ k x n below got joined. elim (cases_eq k next) [
              | inl same ↦
                  let is_id : id ≡ x = same_Some id x (sym (got_now k id (subst (λ j. slice_get ids j ≡ Some id) (sym same) at)) ∙ got) in
                  brings.has n (subst (λ y. IsJoined g within (name_by g.ids y) n) (sym is_id) joined)
              | inr apart ↦
                  let (y, old) = before k (omega (arith, slice_get_within ids next id at)) in
                  let is_y : y ≡ x = same_Some y x (sym (got_now k y old) ∙ got) in
                  still_has n (so_far.closed k y n (omega arith) old (subst (λ z. IsJoined g within (name_by g.ids z) n) (sym is_y) joined))
            ];
          }
        where
          still : (x : NodeId) → In x ids → In x after
          still x i = subst (In x) (sym brings.grows) (in_left x ids brings.more i)

          still_has : (n : Name) → Has g ids n → Has g after n
          still_has n (x, denotes, i) = (x, denotes, still x i)

          got_now : (k : ℕ) (x : NodeId) → slice_get ids k ≡ Some x → slice_get after k ≡ Some x
          got_now k x e = subst (λ xs. slice_get xs k ≡ Some x) (sym brings.grows) (got_before ids brings.more k x e)

          before : (k : ℕ) → k < length ids → (x : NodeId) × (slice_get ids k ≡ Some x)
          before k less = stands_one ids k less

          here : JoinedTo g within from (name_by g.ids id)
          here = let (n, denotes, walked) = so_far.reached id (at_in ids next id at) in subst (JoinedTo g within from) (sym (itself g id n denotes)) walked

      pub spread_last : (ids : List NodeId) (next : ℕ) → Spreading g within from ids next → length ids ≤ next → AreAll g (JoinedTo g within from) ids
      spread_last ids next done all id = (
        done.reached id,
        λ picked. in_set ids id picked.0 picked.1 (found picked.0 picked.2),
      )
        where
          found : (n : Name) → JoinedTo g within from n → Has g ids n
          found n (begun id i denotes) = (id, denotes, done.started id i)
          found n (onward k walked joined) =
              let (j, denotes, i) = found k walked in
              let (place, at) = in_at j ids i in
              done.closed place j n (omega (arith, slice_get_within ids place j at)) at (subst (λ m. IsJoined g within m n) (sym (itself g j k denotes)) joined)
