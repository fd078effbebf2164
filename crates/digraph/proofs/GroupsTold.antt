-- What is told of groups.
use Rattle.std.proofs.Common.{◌≡◌, ◌≢◌, ◌↔◌, inl, inr, ℕ, ◌+◌, ◌<◌, ◌≤◌, refl, sym, ap, subst, ◌∙◌, List, length, set, replicate, Some, Bool, true, false, IsTrue, arith}
use Rattle.std.specs.Prelude.{slice_get}
use Rattle.std.proofs.lemmas.Bool.{cases_lt}
use Rattle.std.proofs.lemmas.Bool.Decides.{eqb_tells}
use Rattle.std.proofs.lemmas.Option.{same_Some}
use Rattle.digraph.specs.Edges.{HasEdge, IsReversed}
use Rattle.digraph.specs.Cycles.{IsMarked, Leads, Leads.here, Leads.on, OnCycle, TellsCycles}
use Rattle.digraph.specs.Leaving.{IsLeaveOrder}
use Rattle.digraph.specs.Grouping.{AreNone, Gathering, Grouping, IsCyclic, Stands, Tells}
use Rattle.digraph.proofs.Places.{got_below, set_here, set_elsewhere, set_length, stands_one, length_repeated}
use Rattle.digraph.proofs.Leads.{together, further}
use Rattle.digraph.proofs.Marks.{none_marked}

-- ways along edges that are turned round
pub turned_way : (rows back : List (List ℕ)) → IsReversed rows back → (u v : ℕ) → Leads back u v → Leads rows v u
turned_way rows back reversed u v (here e) = here (sym e)
turned_way rows back reversed u v (on k edge rest) = further rows (turned_way rows back reversed k v rest) ((reversed.edges k u).0 edge)

-- a vertex that leads to another and back
cycle_by : (rows : List (List ℕ)) (v w : ℕ) → v ≢ w → Leads rows v w → Leads rows w v → OnCycle rows v
cycle_by rows v w apart (here e) back = absurd (apart e)
cycle_by rows v w apart (on k edge rest) back = record { next = k; edge = edge; back = together rows rest back }

module _ (rows : List (List ℕ)) (order : List ℕ) (is_order : IsLeaveOrder rows order) (place root : ℕ) (at : slice_get order place ≡ Some root) (grouped told : List Bool) (so_far : Grouping rows order (place + 1) grouped told) where
  -- a vertex that is in no group does not stand behind the root
  not_behind : (j x : ℕ) → slice_get order j ≡ Some x → ¬ (IsMarked grouped x) → j ≤ place
  not_behind j x at_j unmarked =
      elim (cases_lt place j) [
        | inl more ↦ absurd (unmarked (so_far.done j x (omega (arith, more)) at_j))
        | inr le ↦ le
      ]

  -- the root leads to all that stand before it from the place on of a vertex that leads to it
  leads_back : (x : ℕ) → Leads rows x root → ¬ (IsMarked grouped x) → (a : ℕ) → slice_get order a ≡ Some x → (k z : ℕ) → a ≤ k → k ≤ place → slice_get order k ≡ Some z → Leads rows root z
  leads_back x (here e) unmarked a at_a k z from to at_k =
      let same : a ≡ place = is_order.once a place root (at_a ∙ ap Some e) at in
      let here_k : k ≡ place = omega (arith, same, from, to) in
      here (same_Some root z (sym at ∙ subst (λ n. slice_get order n ≡ Some z) here_k at_k))
  leads_back x (on y edge rest) unmarked a at_a k z from to at_k =
      let unmarked_y : ¬ (IsMarked grouped y) = λ m. unmarked (so_far.closed x y edge m) in
      let (j, at_j, either) = is_order.settled a x y at_a edge in
      let j_less : j ≤ place = not_behind j y at_j unmarked_y in
      let from_y = leads_back y rest unmarked_y j at_j in
      elim either [
        | inl before ↦ from_y k z (omega (arith, before, from)) to at_k
        | inr all ↦ elim (cases_lt k j) [
          | inl less ↦ together rows (from_y j y (omega arith) j_less at_j) (all k z from (omega (arith, less)) at_k)
          | inr le ↦ from_y k z le to at_k
        ]
      ]

  module _ (back : List (List ℕ)) (reversed : IsReversed rows back) (after : List Bool) (group : List ℕ) (g : Gathering back root grouped after group (length group)) where
    to_root : (v : ℕ) → Stands group v → Leads rows v root
    to_root v s = turned_way rows back reversed root v (g.each s.0 v s.1).0

    from_root : (v : ℕ) → Stands group v → v < length rows → Leads rows root v
    from_root v s less =
        let unmarked = (g.each s.0 v s.1).1 in
        let (a, at_a) = is_order.all v less in
        leads_back v (to_root v s) unmarked a at_a a v (omega arith) (not_behind a v at_a unmarked) at_a

    pub in_range : (v : ℕ) → Stands group v → v < length rows
    in_range v s = let less = got_below after v true (g.each s.0 v s.1).2 in let size = g.size in let same = reversed.size in omega (arith, less, size, same)

    closed_now : (u v : ℕ) → HasEdge rows u v → IsMarked after v → IsMarked after u
    closed_now u v edge m =
        elim (g.only v m) [
          | inl old ↦ g.kept u (so_far.closed u v edge old)
          | inr s ↦ g.closed s.0 v u (got_below group s.0 v s.1) s.1 ((reversed.edges u v).1 edge)
        ]

    marked_back : (x v : ℕ) → Leads rows x v → IsMarked after v → IsMarked after x
    marked_back x v (here e) m = subst (IsMarked after) (sym e) m
    marked_back x v (on k edge rest) m = closed_now x k edge (marked_back k v rest m)

    -- two vertices of a group lie on a cycle
    two : (v w : ℕ) → Stands group v → Stands group w → v ≢ w → OnCycle rows v
    two v w s t apart = cycle_by rows v w apart (together rows (to_root v s) (from_root w t (in_range w t))) (together rows (to_root w t) (from_root v s (in_range v s)))

    root_stands : Stands group root
    root_stands = (0, g.first)

    cyclic_then : (v : ℕ) → Stands group v → IsCyclic rows root group → OnCycle rows v
    cyclic_then v s cyclic =
        elim (eqb_tells v root) [
          | inr other ↦ two v root s root_stands other.1
          | inl same ↦ elim cyclic [
            | inl more ↦
                let (w, at_w) = stands_one group 1 more in
                two v w s (1, at_w) (λ e. g.others 1 w (omega arith) at_w (sym e ∙ same.1))
            | inr edge ↦ subst (OnCycle rows) (sym same.1) (record { next = root; edge = edge; back = here refl })
          ]
        ]

    -- the one vertex of a group is its root
    only_root : length group ≤ 1 → (v : ℕ) → Stands group v → v ≡ root
    only_root few v s =
        let less = got_below group s.0 v s.1 in
        let first : s.0 ≡ 0 = omega (arith, less, few) in
        sym (same_Some root v (sym g.first ∙ subst (λ n. slice_get group n ≡ Some v) first s.1))

    then_cyclic : (v : ℕ) → Stands group v → OnCycle rows v → IsCyclic rows root group
    then_cyclic v s cycle =
        elim (cases_lt 1 (length group)) [
          | inl more ↦ inl more
          | inr few ↦
              let is_root = only_root few v s in
              elim (g.only cycle.next (marked_back cycle.next v cycle.back (g.each s.0 v s.1).2)) [
                | inl old ↦ absurd ((g.each s.0 v s.1).1 (so_far.closed v cycle.next cycle.edge old))
                | inr t ↦ inr (subst (λ n. HasEdge rows n root) is_root (subst (HasEdge rows v) (only_root few cycle.next t) cycle.edge))
              ]
        ]

    module _ (cyclic : Bool) (is_cyclic : IsTrue cyclic ↔ IsCyclic rows root group) (now : List Bool) (tells : Tells group cyclic told now) where
      exact_now : (v : ℕ) → IsMarked after v → IsMarked now v ↔ OnCycle rows v
      exact_now v m =
          elim (g.only v m) [
            | inl old ↦
                let as_before : slice_get now v ≡ slice_get told v = tells.of_others v (λ s. (g.each s.0 v s.1).1 old) in
                (λ t. (so_far.exact v old).0 (sym as_before ∙ t), λ c. as_before ∙ (so_far.exact v old).1 c)
            | inr s ↦
                let is_told = tells.of_group v s in (
                  λ t. cyclic_then v s (is_cyclic.0 (same_Some cyclic true (sym is_told ∙ t))),
                  λ c. is_told ∙ ap Some (is_cyclic.1 (then_cyclic v s c)),
                )
          ]

      pub added : Grouping rows order place after now
      added =
          record {
            size = g.size ∙ reversed.size;
            told_size = tells.size ∙ so_far.told_size;
            done = λ k v from at_k. elim (eqb_tells k place) [
              | inl same ↦ subst (IsMarked after) (same_Some root v (sym at ∙ subst (λ n. slice_get order n ≡ Some v) same.1 at_k)) (g.each 0 root g.first).2
              | inr other ↦ g.kept v (so_far.done k v (let ne : k ≢ place = other.1 in omega (arith, from, ne)) at_k)
            ];
            closed = closed_now;
            exact = exact_now;
          }

  pub skipped : IsMarked grouped root → Grouping rows order place grouped told
  skipped m =
      record {
        size = so_far.size;
        told_size = so_far.told_size;
        done = λ k v from at_k. elim (eqb_tells k place) [
          | inl same ↦ subst (IsMarked grouped) (same_Some root v (sym at ∙ subst (λ n. slice_get order n ≡ Some v) same.1 at_k)) m
          | inr other ↦ so_far.done k v (let ne : k ≢ place = other.1 in omega (arith, from, ne)) at_k
        ];
        closed = so_far.closed;
        exact = so_far.exact;
      }

-- the beginning and the end

pub none_grouped : (rows : List (List ℕ)) (order : List ℕ) (grouped told : List Bool) → AreNone (length rows) grouped told → Grouping rows order (length order) grouped told
none_grouped rows order grouped told none =
    subst (λ ms. Grouping rows order (length order) ms told) (sym none.none_grouped)
    (subst (λ ts. Grouping rows order (length order) (replicate (length rows) false) ts) (sym none.none_told)
    (record {
      size = length_repeated (length rows) false;
      told_size = length_repeated (length rows) false;
      done = λ k v from at. let less = got_below order k v at in absurd (omega (arith, less, from));
      closed = λ u v edge m. absurd (none_marked (length rows) v m);
      exact = λ v m. absurd (none_marked (length rows) v m);
    }))

pub all_grouped : (rows : List (List ℕ)) (order : List ℕ) (grouped told : List Bool) (place : ℕ) → place ≡ 0 → IsLeaveOrder rows order → Grouping rows order place grouped told → TellsCycles rows told
all_grouped rows order grouped told place zero_place is_order g =
    record {
      size = g.told_size;
      exact = λ v less. let (k, at) = is_order.all v less in g.exact v (g.done k v (omega (arith, zero_place)) at);
    }

-- the first vertices of a group are told so, and the vertices that are not in it are told as before
pub record TellsBelow (group : List ℕ) (count : ℕ) (cyclic : Bool) (before after : List Bool) : Type 0 where
  pub size : length after ≡ length before
  pub of_group : (k v : ℕ) → k < count → slice_get group k ≡ Some v → slice_get after v ≡ Some cyclic
  pub of_others : (v : ℕ) → ¬ (Stands group v) → slice_get after v ≡ slice_get before v

module _ (group : List ℕ) (cyclic : Bool) (before : List Bool) where
  pub tells_none : TellsBelow group 0 cyclic before before
  tells_none = record { size = refl; of_group = λ k v less at. absurd (omega (arith, less)); of_others = λ v other. refl }

  pub tells_more : (i v : ℕ) (now : List Bool) → slice_get group i ≡ Some v → v < length now → TellsBelow group i cyclic before now → TellsBelow group (i + 1) cyclic before (set now v cyclic)
  tells_more i v now at less t =
      record {
        size = set_length now v cyclic ∙ t.size;
        of_group = λ k w below at_k. elim (eqb_tells w v) [
          | inl same ↦ subst (λ n. slice_get (set now v cyclic) n ≡ Some cyclic) (sym same.1) (set_here now v cyclic less)
          | inr other ↦
              let earlier : k < i = elim (eqb_tells k i) [
                | inl here_k ↦ absurd (other.1 (same_Some w v (sym at_k ∙ subst (λ n. slice_get group n ≡ Some v) (sym here_k.1) at)))
                | inr apart ↦ (let ne : k ≢ i = apart.1 in omega (arith, below, ne))
              ] in
              set_elsewhere now v w cyclic other.1 ∙ t.of_group k w earlier at_k
        ];
        of_others = λ w other.
            let apart : w ≢ v = λ same. other (i, at ∙ ap Some (sym same)) in
            set_elsewhere now v w cyclic apart ∙ t.of_others w other;
      }

  pub tells_all : (i : ℕ) (now : List Bool) → length group ≤ i → TellsBelow group i cyclic before now → Tells group cyclic before now
  tells_all i now all t =
      record {
        size = t.size;
        of_group = λ v s. t.of_group s.0 v (let less = got_below group s.0 v s.1 in omega (arith, less, all)) s.1;
        of_others = t.of_others;
      }
