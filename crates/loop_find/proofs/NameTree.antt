-- A tree that has ids under the names of their nodes.
use Rattle.std.proofs.Common.{◌≡◌, ◌⊎◌, inl, inr, ℕ, ◌+◌, ◌<◌, ◌≤◌, refl, sym, ap, subst, ◌∙◌, List, [], ◌∷◌, length, map, Bor, Some, Ordering, Less, Equal, Greater, arith}
use Rattle.std.specs.Prelude.{slice_get}
use Rattle.std.specs.List.{AllByRecursion}
use Rattle.std.specs.Ordering.{ordering_reverse, match_ordering}
use Rattle.std.specs.BTreeMap.{insert_entry}
use Rattle.std.proofs.lemmas.Bool.{cases_eq}
use Rattle.std.proofs.lemmas.Option.{same_Some, slice_get_within}
use Rattle.components.specs.Name.{Name, name_cmp}
use Rattle.components.specs.Orders.{name_total, name_same}
use Rattle.components.specs.ByKey.{ref_cmp}
use Rattle.circuits.specs.Replacing.{In, In.head, In.tail}
use Rattle.loop_laws.specs.BodyOrder.{Ascending, IsBefore}
use Rattle.graph_core.specs.declared.place.NodeId.{NodeId}
use Rattle.graph_core.specs.GraphValue.{GraphValue, Denotes, IsGraph, name_by}
use Rattle.loop_find.specs.NameOrders.{AreByName}
use Rattle.loop_find.specs.Marks.{names_by}
use Rattle.loop_find.proofs.Places.{in_at, at_in}

abbrev pub Tree : Type 0
Tree = List (Bor Name × NodeId)

abbrev pub keys : Tree → List Name
keys tree = map (λ (e : Bor Name × NodeId). e.0.now) tree

abbrev pub values : Tree → List NodeId
values tree = map (λ (e : Bor Name × NodeId). e.1) tree

-- where an entry is put
module _ (key : Bor Name) (id : NodeId) (P : Tree → Type 0) (e : Bor Name × NodeId) (es : Tree) where
  put_by : (IsBefore key.now e.0.now → P ((key, id) ∷ e ∷ es)) → (key.now ≡ e.0.now → P ((e.0, id) ∷ es)) → (IsBefore e.0.now key.now → P (e ∷ insert_entry ref_cmp es key id)) →
      (o : Ordering) → name_cmp key.now e.0.now ≡ o → P (match_ordering o ((key, id) ∷ e ∷ es) ((e.0, id) ∷ es) (e ∷ insert_entry ref_cmp es key id))
  put_by before same after Less is = before is
  put_by before same after Equal is = same (name_same key.now e.0.now is)
  put_by before same after Greater is = after (name_total.antisymm e.0.now key.now ∙ ap ordering_reverse is)

  pub put_cases : (IsBefore key.now e.0.now → P ((key, id) ∷ e ∷ es)) → (key.now ≡ e.0.now → P ((e.0, id) ∷ es)) → (IsBefore e.0.now key.now → P (e ∷ insert_entry ref_cmp es key id)) →
      P (insert_entry ref_cmp (e ∷ es) key id)
  put_cases before same after = put_by before same after (name_cmp key.now e.0.now) refl

above_all : (n k : Name) → IsBefore n k → (ns : List Name) → AllByRecursion (IsBefore k) ns → AllByRecursion (IsBefore n) ns
above_all n k less [] all = tt
above_all n k less (m ∷ ns) all = (name_total.trans n k m less all.0, above_all n k less ns all.1)

module _ (key : Bor Name) (id : NodeId) where
  inserted_above : (n : Name) → IsBefore n key.now → (tree : Tree) → AllByRecursion (IsBefore n) (keys tree) → AllByRecursion (IsBefore n) (keys (insert_entry ref_cmp tree key id))
  inserted_above n less [] all = (less, tt)
  inserted_above n less (e ∷ es) all =
      put_cases key id (λ t. AllByRecursion (IsBefore n) (keys t)) e es (λ b. (less, all)) (λ s. all) (λ a. (all.0, inserted_above n less es all.1))

  pub inserted_rises : (tree : Tree) → Ascending (keys tree) → Ascending (keys (insert_entry ref_cmp tree key id))
  inserted_rises [] rise = (tt, tt)
  inserted_rises (e ∷ es) rise =
      put_cases key id (λ t. Ascending (keys t)) e es
      (λ b. ((b, above_all key.now e.0.now b (keys es) rise.0), rise))
      (λ s. rise)
      (λ a. (inserted_above e.0.now a es rise.0, inserted_rises es rise.1))

module _ (g : GraphValue) where
  abbrev pub IsKeyed : Bor Name × NodeId → Type 0
  IsKeyed e = (e.0.now ≡ name_by g.ids e.1) × Denotes g e.1 (name_by g.ids e.1)

  -- the tree has the first nodes of a set
  pub record InTree (set : List NodeId) (tree : Tree) (next : ℕ) : Type 0 where
    pub keyed : AllByRecursion IsKeyed tree
    pub rise : Ascending (keys tree)
    pub among : (id : NodeId) → In id (values tree) → In id set
    pub all : (k : ℕ) (id : NodeId) → k < next → slice_get set k ≡ Some id → In id (values tree)

  pub in_tree_first : (set : List NodeId) (tree : Tree) → tree ≡ [] → InTree set tree 0
  in_tree_first set tree none =
      subst (λ t. InTree set t 0) (sym none) (record { keyed = tt; rise = tt; among = λ id i. elim i [ ]; all = λ k id below. absurd (omega arith) })

  keyed_names : (tree : Tree) → AllByRecursion IsKeyed tree → keys tree ≡ names_by g (values tree)
  keyed_names [] keyed = refl
  keyed_names (e ∷ es) keyed = ap (λ n. n ∷ keys es) keyed.0.0 ∙ ap (λ ns. name_by g.ids e.1 ∷ ns) (keyed_names es keyed.1)

  module _ (is : IsGraph g) (key : Bor Name) (id : NodeId) (named : key.now ≡ name_by g.ids id) (live : Denotes g id (name_by g.ids id)) where
    one_of : (e : Bor Name × NodeId) → IsKeyed e → key.now ≡ e.0.now → e.1 ≡ id
    one_of e keyed same = is.alone e.1 id (name_by g.ids e.1) keyed.1 (subst (Denotes g id) (sym named ∙ same ∙ keyed.0) live)

    inserted_keyed : (tree : Tree) → AllByRecursion IsKeyed tree → AllByRecursion IsKeyed (insert_entry ref_cmp tree key id)
    inserted_keyed [] keyed = ((named, live), tt)
    inserted_keyed (e ∷ es) keyed =
        put_cases key id (AllByRecursion IsKeyed) e es (λ b. ((named, live), keyed)) (λ s. ((sym s ∙ named, live), keyed.1)) (λ a. (keyed.0, inserted_keyed es keyed.1))

    came_from : (x : NodeId) (tree : Tree) → In x (values (insert_entry ref_cmp tree key id)) → In x (values tree) ⊎ (x ≡ id)
    came_from x [] (head e) = inr e
    came_from x [] (tail i) = elim i [ ]
    came_from x (e ∷ es) i = put_cases key id (λ t. In x (values t) → In x (values (e ∷ es)) ⊎ (x ≡ id)) e es (λ b. new (values (e ∷ es))) (λ s. over) (λ a. behind (came_from x es)) i
      where
        new : (ys : List NodeId) → In x (id ∷ ys) → In x ys ⊎ (x ≡ id)
        new ys (head f) = inr f
        new ys (tail i) = inl i

        over : In x (id ∷ values es) → In x (values (e ∷ es)) ⊎ (x ≡ id)
        over (head f) = inr f
        over (tail i) = inl (tail i)

        behind : (In x (values (insert_entry ref_cmp es key id)) → In x (values es) ⊎ (x ≡ id)) → In x (e.1 ∷ values (insert_entry ref_cmp es key id)) → In x (values (e ∷ es)) ⊎ (x ≡ id)
        behind rest (head f) = inl (head f)
        behind rest (tail i) = elim (rest i) [ inl h ↦ inl (tail h) | inr h ↦ inr h ]

    still_in : (x : NodeId) (tree : Tree) → AllByRecursion IsKeyed tree → In x (values tree) → In x (values (insert_entry ref_cmp tree key id))
    still_in x [] keyed i = elim i [ ]
    still_in x (e ∷ es) keyed i =
        put_cases key id (λ t. In x (values t)) e es (λ b. tail i) (λ s. over s i) (λ a. behind (still_in x es keyed.1) i)
      where
        over : key.now ≡ e.0.now → In x (e.1 ∷ values es) → In x (id ∷ values es)
        over s (head f) = head (f ∙ one_of e keyed.0 s)
        over s (tail j) = tail j

        behind : (In x (values es) → In x (values (insert_entry ref_cmp es key id))) → In x (e.1 ∷ values es) → In x (e.1 ∷ values (insert_entry ref_cmp es key id))
        behind rest (head f) = head f
        behind rest (tail j) = tail (rest j)

    now_in : (tree : Tree) → In id (values (insert_entry ref_cmp tree key id))
    now_in [] = head refl
    now_in (e ∷ es) = put_cases key id (λ t. In id (values t)) e es (λ b. head refl) (λ s. head refl) (λ a. tail (now_in es))

    pub in_tree_more : (set : List NodeId) (tree : Tree) (next : ℕ) → InTree set tree next → slice_get set next ≡ Some id → InTree set (insert_entry ref_cmp tree key id) (next + 1)
    in_tree_more set tree next so_far at =
        record {
          keyed = inserted_keyed tree so_far.keyed;
          rise = inserted_rises key id tree so_far.rise;
          among = λ x i. elim (came_from x tree i) [
            | inl old ↦ so_far.among x old
            | inr new ↦ subst (λ y. In y set) (sym new) (at_in set next id at)
          ];
          all = λ k x below got. elim (cases_eq k next) [
            | inl same ↦ subst (λ y. In y (values (insert_entry ref_cmp tree key id))) (same_Some id x (sym at ∙ ap (slice_get set) (sym same) ∙ got)) (now_in tree)
            | inr apart ↦ still_in x tree so_far.keyed (so_far.all k x (omega arith) got)
          ];
        }

  pub in_tree_last : (set : List NodeId) (tree : Tree) (next : ℕ) → InTree set tree next → length set ≤ next → AreByName g set (values tree)
  in_tree_last set tree next done all =
      record {
        same = λ id. (done.among id, λ i. let (k, at) = in_at id set i in done.all k id (omega (arith, slice_get_within set k id at)) at);
        by_name = subst Ascending (keyed_names tree done.keyed) done.rise;
      }
