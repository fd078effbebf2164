-- The tree of the nodes of a body that are next, entry by entry.
use Rattle.std.proofs.Common.{◌≡◌, ◌≢◌, ◌⊎◌, inl, inr, ℕ, suc, ◌+◌, ◌<◌, ◌≤◌, refl, sym, ap, subst, ◌∙◌, List, [], ◌∷◌, length, map, Bor, Some, Ordering, Less, Equal, Greater, arith}
use Rattle.std.specs.Prelude.{slice_get}
use Rattle.std.specs.FinMap as finite
use Rattle.std.specs.List.{All}
use Rattle.std.specs.Ordering.{match_ordering}
use Rattle.std.specs.BTreeMap.{insert_entry}
use Rattle.std.proofs.lemmas.Bool.{cases_eq}
use Rattle.std.proofs.lemmas.Option.{same_Some, slice_get_within}
use Rattle.components.specs.ByKey.{ref_cmp}
use Rattle.components.specs.Kind.{outs}
use Rattle.components.specs.Name.{Name, Port, name_cmp}
use Rattle.components.specs.Node.{Body}
use Rattle.components.specs.Orders.{name_cases, name_same}
use Rattle.circuits.specs.Replacing.{In, In.head, In.tail}
use Rattle.loop_laws.specs.Reached.{port_at}
use Rattle.graph_core.specs.declared.place.NodeId.{NodeId}
use Rattle.graph_core.specs.declared.place.PortAt.{PortAt}
use Rattle.graph_core.specs.GraphValue.{GraphValue, Denotes, IsGraph, name_by, port_of}
use Rattle.loop_find.specs.BodyOrders.{HasKey, IsEntry, IsFedBy, IsFedFrom, IsNext, Queues, Tree}
use Rattle.loop_find.specs.Walks.{Has}
use Rattle.loop_find.proofs.AllPorts.{output_within}
use Rattle.loop_find.proofs.OrderSteps.{IsAmong, IsFedFromBelow}
use Rattle.loop_find.proofs.Places.{in_at}
use Rattle.loop_find.proofs.Walking.{itself}

-- where an entry is put
module _ (key : Bor Name) (id : NodeId) (P : Tree → Type 0) (e : Bor Name × NodeId) (es : Tree) where
  put_by : P ((key, id) ∷ e ∷ es) → (key.now ≡ e.0.now → P ((e.0, id) ∷ es)) → P (e ∷ insert_entry ref_cmp es key id) → (o : Ordering) → name_cmp key.now e.0.now ≡ o →
      P (match_ordering o ((key, id) ∷ e ∷ es) ((e.0, id) ∷ es) (e ∷ insert_entry ref_cmp es key id))
  put_by before same after Less is = before
  put_by before same after Equal is = same (name_same key.now e.0.now is)
  put_by before same after Greater is = after

  put_cases : P ((key, id) ∷ e ∷ es) → (key.now ≡ e.0.now → P ((e.0, id) ∷ es)) → P (e ∷ insert_entry ref_cmp es key id) → P (insert_entry ref_cmp (e ∷ es) key id)
  put_cases before same after = put_by before same after (name_cmp key.now e.0.now) refl

more_keys : (e : Bor Name × NodeId) (tree : Tree) (n : Name) → HasKey tree n → HasKey (e ∷ tree) n
more_keys e tree n (x, i, same) = (x, tail i, same)

pub key_cases : (tree : Tree) (n : Name) → HasKey tree n ⊎ ¬ (HasKey tree n)
key_cases [] n = inr (λ h. elim h.1 [ ])
key_cases (e ∷ tree) n =
    elim (name_cases e.0.now n) [
      | inl same ↦ inl (e, head refl, same)
      | inr apart ↦ elim (key_cases tree n) [ inl h ↦ inl (more_keys e tree n h) | inr never ↦ inr (λ h. behind e tree apart never h.0 h.1 h.2) ]
    ]
  where
    behind : (e : Bor Name × NodeId) (tree : Tree) → e.0.now ≢ n → ¬ (HasKey tree n) → (x : Bor Name × NodeId) → In x (e ∷ tree) → x.0.now ≡ n → ⊥
    behind e tree apart never x (head f) same = apart (ap (λ (y : Bor Name × NodeId). y.0.now) (sym f) ∙ same)
    behind e tree apart never x (tail i) same = never (x, i, same)

-- what holds of each key holds of the key of an entry
pub all_keys : (P : Bor Name → Type 0) (tree : Tree) → All P (map (λ (e : Bor Name × NodeId). e.0) tree) → (e : Bor Name × NodeId) → In e tree → P e.0
all_keys P [] all e i = elim i [ ]
all_keys P (x ∷ tree) all e (head same) = subst (λ (y : Bor Name × NodeId). P y.0) (sym same) (all 0 x.0 (omega arith))
all_keys P (x ∷ tree) all e (tail i) = all_keys P tree (λ k d less. all (suc k) d (omega (arith, less))) e i

module _ (g : GraphValue) (body placed : List NodeId) where
  -- one entry
  module _ (key : Bor Name) (id : NodeId) (named : key.now ≡ name_by g.ids id) (live : Denotes g id (name_by g.ids id)) (next : IsNext g body placed (name_by g.ids id)) where
    own : (k : Bor Name) → key.now ≡ k.now → IsEntry g body placed (k, id)
    own k same =
        let name : name_by g.ids id ≡ k.now = sym named ∙ same in
        (subst (Denotes g id) name live, subst (IsNext g body placed) name next)

    put_each : (tree : Tree) (e : Bor Name × NodeId) → In e (insert_entry ref_cmp tree key id) → In e tree ⊎ IsEntry g body placed e
    put_each [] e (head same) = inr (subst (IsEntry g body placed) (sym same) (own key refl))
    put_each [] e (tail i) = elim i [ ]
    put_each (x ∷ tree) e i = put_cases key id (λ t. In e t → In e (x ∷ tree) ⊎ IsEntry g body placed e) x tree new over (λ j. behind (put_each tree e) j) i
      where
        new : In e ((key, id) ∷ x ∷ tree) → In e (x ∷ tree) ⊎ IsEntry g body placed e
        new (head same) = inr (subst (IsEntry g body placed) (sym same) (own key refl))
        new (tail i) = inl i

        over : key.now ≡ x.0.now → In e ((x.0, id) ∷ tree) → In e (x ∷ tree) ⊎ IsEntry g body placed e
        over is (head same) = inr (subst (IsEntry g body placed) (sym same) (own x.0 is))
        over is (tail i) = inl (tail i)

        behind : (In e (insert_entry ref_cmp tree key id) → In e tree ⊎ IsEntry g body placed e) → In e (x ∷ insert_entry ref_cmp tree key id) → In e (x ∷ tree) ⊎ IsEntry g body placed e
        behind on (head same) = inl (head same)
        behind on (tail i) = elim (on i) [ inl j ↦ inl (tail j) | inr its ↦ inr its ]

    put_keeps : (tree : Tree) (n : Name) → HasKey tree n → HasKey (insert_entry ref_cmp tree key id) n
    put_keeps [] n has = elim has.1 [ ]
    put_keeps (x ∷ tree) n has = put_cases key id (λ t. HasKey t n) x tree (more_keys (key, id) (x ∷ tree) n has) (λ same. over has.0 has.1 has.2) (behind has.0 has.1 has.2 (λ h. put_keeps tree n h))
      where
        over : (e : Bor Name × NodeId) → In e (x ∷ tree) → e.0.now ≡ n → HasKey ((x.0, id) ∷ tree) n
        over e (head same) is = ((x.0, id), head refl, ap (λ (y : Bor Name × NodeId). y.0.now) (sym same) ∙ is)
        over e (tail i) is = (e, tail i, is)

        behind : (e : Bor Name × NodeId) → In e (x ∷ tree) → e.0.now ≡ n → (HasKey tree n → HasKey (insert_entry ref_cmp tree key id) n) → HasKey (x ∷ insert_entry ref_cmp tree key id) n
        behind e (head same) is on = (x, head refl, ap (λ (y : Bor Name × NodeId). y.0.now) (sym same) ∙ is)
        behind e (tail i) is on = more_keys x (insert_entry ref_cmp tree key id) n (on (e, i, is))

    put_has : (tree : Tree) → HasKey (insert_entry ref_cmp tree key id) key.now
    put_has [] = ((key, id), head refl, refl)
    put_has (x ∷ tree) =
        put_cases key id (λ t. HasKey t key.now) x tree ((key, id), head refl, refl) (λ same. ((x.0, id), head refl, sym same)) (more_keys x (insert_entry ref_cmp tree key id) key.now (put_has tree))

    pub queues_one : (before after : Tree) → after ≡ insert_entry ref_cmp before key id → Queues g body placed (λ n. n ≡ name_by g.ids id) before after
    queues_one before after is =
        subst (Queues g body placed (λ n. n ≡ name_by g.ids id) before) (sym is) (record {
          each = put_each before;
          keeps = put_keeps before;
          has = λ n same ready. subst (HasKey (insert_entry ref_cmp before key id)) (named ∙ sym same) (put_has before);
        })

  pub queues_none : (P : Name → Type 0) (before after : Tree) → after ≡ before → ((n : Name) → P n → IsNext g body placed n → ⊥) → Queues g body placed P before after
  queues_none P before after same never =
      subst (Queues g body placed P before) (sym same) (record { each = λ e i. inl i; keeps = λ n h. h; has = λ n p ready. absurd (never n p ready) })

  pub queues_on : (P Q R : Name → Type 0) (a b d : Tree) → Queues g body placed P a b → Queues g body placed Q b d → ((n : Name) → R n → P n ⊎ Q n) → Queues g body placed R a d
  queues_on P Q R a b d first next either =
      record {
        each = λ e i. elim (next.each e i) [ inl j ↦ first.each e j | inr own ↦ inr own ];
        keeps = λ n h. next.keeps n (first.keeps n h);
        has = λ n r ready. elim (either n r) [ inl p ↦ next.keeps n (first.has n p ready) | inr q ↦ next.has n q ready ];
      }

  pub queues_as : (P R : Name → Type 0) (a b : Tree) → Queues g body placed P a b → ((n : Name) → R n → P n) → Queues g body placed R a b
  queues_as P R a b first so = record { each = first.each; keeps = first.keeps; has = λ n r. first.has n (so n r) }

  module _ (ok : IsGraph g) where
    -- what an output feeds
    pub queues_target : (source target : PortAt) → finite.get g.graph.feeders (port_of g target) ≡ Some (port_of g source) → (before after : Tree) → Queues g body placed (λ n. n ≡ name_by g.ids target.node) before after →
        Queues g body placed (IsFedFrom g (port_of g source)) before after
    queues_target source target fed before after queues =
        queues_as (λ n. n ≡ name_by g.ids target.node) (IsFedFrom g (port_of g source)) before after queues
        (λ n so. sym so.2 ∙ ap (λ (p : Port). p.node) (ok.graph.once so.0 (port_of g target) (port_of g source) so.1 fed))

    module _ (id : NodeId) (its : Body) (found : finite.get g.graph.nodes (name_by g.ids id) ≡ Some its) where
      pub targets_first : (tree : Tree) → Queues g body placed (IsFedFromBelow g id 1) tree tree
      targets_first tree =
          queues_none (IsFedFromBelow g id 1) tree tree refl
          (λ n so ready.
          let some = (output_within g ok (name_by g.ids id) its found so.2.0 (port_at (name_by g.ids id) so.0) refl so.2.1).0 in
          let less = so.1 in
          omega (arith, some, less))

      pub targets_more : (a b d : Tree) (port : ℕ) → Queues g body placed (IsFedFromBelow g id port) a b → Queues g body placed (IsFedFrom g (port_at (name_by g.ids id) port)) b d → Queues g body placed (IsFedFromBelow g id (port + 1)) a d
      targets_more a b d port first next =
          queues_on (IsFedFromBelow g id port) (IsFedFrom g (port_at (name_by g.ids id) port)) (IsFedFromBelow g id (port + 1)) a b d first next
          (λ n so. elim (cases_eq so.0 port) [
            | inl same ↦ inr (subst (λ k. IsFedFrom g (port_at (name_by g.ids id) k) n) same so.2)
            | inr apart ↦ inl (so.0, (let less = so.1 in omega (arith, less, apart)), so.2)
          ])

      pub targets_last : (a b : Tree) (port : ℕ) → length (outs its.kind) < port → Queues g body placed (IsFedFromBelow g id port) a b → Queues g body placed (IsFedBy g (name_by g.ids id)) a b
      targets_last a b port past first =
          queues_as (IsFedFromBelow g id port) (IsFedBy g (name_by g.ids id)) a b first
          (λ n so.
          let less = (output_within g ok (name_by g.ids id) its found so.2.0 so.0 so.1 so.2.1).1 in
          (so.0.port, (omega (arith, less, past)), subst (λ q. IsFedFrom g q n) (ap (λ m. port_at m so.0.port) so.1) so.2))

    -- the nodes of the body
    pub among_first : (tree : Tree) → Queues g body placed (IsAmong g body 0) tree tree
    among_first tree = queues_none (IsAmong g body 0) tree tree refl (λ n so ready. let less = so.2 in omega (arith, less))

    pub among_more : (a b d : Tree) (next : ℕ) (id : NodeId) → slice_get body next ≡ Some id → Queues g body placed (IsAmong g body next) a b → Queues g body placed (λ n. n ≡ name_by g.ids id) b d →
        Queues g body placed (IsAmong g body (next + 1)) a d
    among_more a b d next id at first one =
        queues_on (IsAmong g body next) (λ n. n ≡ name_by g.ids id) (IsAmong g body (next + 1)) a b d first one
        (λ n so. elim (cases_eq so.0 next) [
          | inl same ↦ inr (sym (itself g so.1 n so.4) ∙ ap (name_by g.ids) (same_Some so.1 id (sym so.3 ∙ ap (slice_get body) same ∙ at)))
          | inr apart ↦ inl (so.0, so.1, (let less = so.2 in omega (arith, less, apart)), so.3, so.4)
        ])

    pub among_last : (a b : Tree) (next : ℕ) → length body ≤ next → Queues g body placed (IsAmong g body next) a b → Queues g body placed (Has g body) a b
    among_last a b next past first =
        queues_as (IsAmong g body next) (Has g body) a b first
        (λ n has. let (k, at) = in_at has.0 body has.2 in (k, has.0, (let less = slice_get_within body k has.0 at in omega (arith, less, past)), at, has.1))
