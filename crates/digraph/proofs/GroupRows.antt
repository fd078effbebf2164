-- The vertices of a group, row by row.
use Rattle.std.proofs.Common.{◌≡◌, ◌≢◌, inl, inr, ℕ, zero, suc, ◌+◌, ◌<◌, ◌≤◌, refl, sym, ap, subst, ◌∙◌, List, [], ◌∷◌, ◌++◌, length, set, Some, Bool, true, false, arith}
use Rattle.std.specs.Prelude.{slice_get}
use Rattle.std.proofs.lemmas.Bool.Decides.{eqb_tells}
use Rattle.std.proofs.lemmas.Option.{same_Some, none-some}
use Rattle.digraph.specs.Edges.{HasEdge}
use Rattle.digraph.specs.Cycles.{IsMarked, Leads, Leads.here}
use Rattle.digraph.specs.Grouping.{Gathering, Gathers, GathersOne, GathersOne.there, GathersOne.new, Stands}
use Rattle.digraph.proofs.Places.{got_below, got_before, got_first, got_last, got_either, got_behind, set_length, length_more}
use Rattle.digraph.proofs.Marks.{marked_here, marked_only, marked_still, no_mark, one_unmarked_less}
use Rattle.digraph.proofs.Leads.{further}

none_behind : (xs : List ℕ) → xs ≡ xs ++ []
none_behind [] = refl
none_behind (x ∷ xs) = ap (λ ys. x ∷ ys) (none_behind xs)

behind_both : (xs ys zs : List ℕ) → (xs ++ ys) ++ zs ≡ xs ++ (ys ++ zs)
behind_both [] ys zs = refl
behind_both (x ∷ xs) ys zs = ap (λ ws. x ∷ ws) (behind_both xs ys zs)

pub gathers_none : (row : List ℕ) (marks : List Bool) (group : List ℕ) → Gathers row 0 marks group marks group
gathers_none row marks group =
    record {
      size = refl;
      more = [];
      behind = none_behind group;
      each = λ k v at. absurd (none-some v at);
      kept = λ v m. m;
      only = λ v m. inl m;
      has = λ k v less at. absurd (omega (arith, less));
      unmarked = refl;
    }

module _ (row : List ℕ) (before : List Bool) (group : List ℕ) (i v : ℕ) (at : slice_get row i ≡ Some v) (marks : List Bool) (put : List ℕ) (so_far : Gathers row i before group marks put) where
  -- the vertices before this one, and this one
  has_now : (after : List Bool) → ((w : ℕ) → IsMarked marks w → IsMarked after w) → IsMarked after v → (k w : ℕ) → k < i + 1 → slice_get row k ≡ Some w → IsMarked after w
  has_now after still marked k w less at_k =
      elim (eqb_tells k i) [
        | inl same ↦ subst (IsMarked after) (same_Some v w (sym at ∙ subst (λ n. slice_get row n ≡ Some w) same.1 at_k)) marked
        | inr other ↦ still w (so_far.has k w (let ne : k ≢ i = other.1 in omega (arith, less, ne)) at_k)
      ]

  pub gathers_more : (after : List Bool) (then : List ℕ) → GathersOne v marks put after then → Gathers row (i + 1) before group after then
  gathers_more after then (there is_marked same_marks same_group) =
      subst (λ ms. Gathers row (i + 1) before group ms then) (sym same_marks)
      (subst (λ vs. Gathers row (i + 1) before group marks vs) (sym same_group)
      (record {
        size = so_far.size;
        more = so_far.more;
        behind = so_far.behind;
        each = so_far.each;
        kept = so_far.kept;
        only = so_far.only;
        has = has_now marks (λ w m. m) is_marked;
        unmarked = so_far.unmarked;
      }))
  gathers_more after then (new unmarked is_after is_then) =
      let less : v < length marks = got_below marks v false unmarked in
      let marked : IsMarked (set marks v true) v = marked_here marks v less in
      let still : (w : ℕ) → IsMarked marks w → IsMarked (set marks v true) w = marked_still marks v less in
      let count = one_unmarked_less marks v unmarked in
      let old = so_far.unmarked in
      let size = length_more put v in
      subst (λ ms. Gathers row (i + 1) before group ms then) (sym is_after)
      (subst (λ vs. Gathers row (i + 1) before group (set marks v true) vs) (sym is_then)
      (record {
        size = set_length marks v true ∙ so_far.size;
        more = so_far.more ++ v ∷ [];
        behind = ap (λ vs. vs ++ v ∷ []) so_far.behind ∙ behind_both group so_far.more (v ∷ []);
        each = λ k w at_k. elim (got_last so_far.more v w k at_k) [
          | inl h ↦ let e = so_far.each k w h in (e.0, e.1, still w e.2)
          | inr h ↦
              subst (λ x. Stands row x × ¬ (IsMarked before x) × IsMarked (set marks v true) x) (sym h.1)
              ((i, at), λ m. no_mark marks v unmarked (so_far.kept v m), marked)
        ];
        kept = λ w m. still w (so_far.kept w m);
        only = λ w m. elim (marked_only marks v w m) [
          | inl h ↦ elim (so_far.only w h) [ inl b ↦ inl b | inr s ↦ inr (s.0, got_before so_far.more (v ∷ []) s.0 w s.1) ]
          | inr same ↦ inr (length so_far.more, got_first so_far.more v [] ∙ ap Some (sym same))
        ];
        has = has_now (set marks v true) still marked;
        unmarked = omega (arith, count, old, size);
      }))

-- the rows of a group

module _ (back : List (List ℕ)) (root : ℕ) (before : List Bool) where
  only_root : root < length before → ¬ (IsMarked before root) → (k v : ℕ) → slice_get (root ∷ []) k ≡ Some v → Leads back root v × ¬ (IsMarked before v) × IsMarked (set before root true) v
  only_root less unmarked zero v at =
      let same : root ≡ v = same_Some root v at in
      (here same, λ m. unmarked (subst (IsMarked before) (sym same) m), subst (IsMarked (set before root true)) same (marked_here before root less))
  only_root less unmarked (suc k) v at = absurd (none-some v at)

  no_other : (k v : ℕ) → 0 < k → slice_get (root ∷ []) k ≡ Some v → ⊥
  no_other zero v positive at = absurd (omega (arith, positive))
  no_other (suc k) v positive at = absurd (none-some v at)

  pub gathering_first : slice_get before root ≡ Some false → length before ≡ length back → Gathering back root before (set before root true) (root ∷ []) 0
  gathering_first unmarked size =
      let less : root < length before = got_below before root false unmarked in
      record {
        size = set_length before root true ∙ size;
        first = refl;
        each = only_root less (no_mark before root unmarked);
        others = λ k v positive at. absurd (no_other k v positive at);
        kept = marked_still before root less;
        only = λ v m. elim (marked_only before root v m) [ inl b ↦ inl b | inr same ↦ inr (0, ap Some (sym same)) ];
        closed = λ k v u below at edge. absurd (omega (arith, below));
      }

  module _ (marks : List Bool) (group : List ℕ) (next v : ℕ) (so_far : Gathering back root before marks group next) (at : slice_get group next ≡ Some v) (row : List ℕ) (at_row : slice_get back v ≡ Some row)
      (after : List Bool) (then : List ℕ) (new_ones : Gathers row (length row) marks group after then) where
    same_first : (more : List ℕ) → slice_get (group ++ more) 0 ≡ Some root
    same_first more = got_before group more 0 root so_far.first

    old_before : (k w : ℕ) → k < length group → slice_get (group ++ new_ones.more) k ≡ Some w → slice_get group k ≡ Some w
    old_before k w less at_k =
        elim (got_either group new_ones.more k w at_k) [
          | inl h ↦ h
          | inr h ↦ let place = h.1 in absurd (omega (arith, less, place))
        ]

    leads_to : (k w : ℕ) → slice_get new_ones.more k ≡ Some w → Leads back root w
    leads_to k w at_k =
        let stands = (new_ones.each k w at_k).0 in
        further back (so_far.each next v at).0 (record { row = row; place = stands.0; is_row = at_row; is_there = stands.1 })

    each_now : (k w : ℕ) → slice_get (group ++ new_ones.more) k ≡ Some w → Leads back root w × ¬ (IsMarked before w) × IsMarked after w
    each_now k w at_k =
        elim (got_either group new_ones.more k w at_k) [
          | inl h ↦ let e = so_far.each k w h in (e.0, e.1, new_ones.kept w e.2)
          | inr h ↦ let e = new_ones.each h.0 w h.2 in (leads_to h.0 w h.2, λ m. e.1 (so_far.kept w m), e.2)
        ]

    others_now : (k w : ℕ) → 0 < k → slice_get (group ++ new_ones.more) k ≡ Some w → w ≢ root
    others_now k w positive at_k =
        elim (got_either group new_ones.more k w at_k) [
          | inl h ↦ so_far.others k w positive h
          | inr h ↦ λ same. (new_ones.each h.0 w h.2).1 (subst (IsMarked marks) (sym same) (so_far.each 0 root so_far.first).2)
        ]

    closed_now : (k w u : ℕ) → k < next + 1 → slice_get (group ++ new_ones.more) k ≡ Some w → HasEdge back w u → IsMarked after u
    closed_now k w u less at_k edge =
        let next_less : next < length group = got_below group next v at in
        let at_old : slice_get group k ≡ Some w = old_before k w (omega (arith, less, next_less)) at_k in
        elim (eqb_tells k next) [
          | inl same ↦
              let is_v : v ≡ w = same_Some v w (sym at ∙ subst (λ n. slice_get group n ≡ Some w) same.1 at_old) in
              let of_v : HasEdge back v u = subst (λ n. HasEdge back n u) (sym is_v) edge in
              let is_row : of_v.row ≡ row = same_Some of_v.row row (sym of_v.is_row ∙ at_row) in
              let there : slice_get row of_v.place ≡ Some u = subst (λ r. slice_get r of_v.place ≡ Some u) is_row of_v.is_there in
              new_ones.has of_v.place u (got_below row of_v.place u there) there
          | inr other ↦ new_ones.kept u (so_far.closed k w u (let ne : k ≢ next = other.1 in omega (arith, less, ne)) at_old edge)
        ]

    pub gathering_more : Gathering back root before after then (next + 1)
    gathering_more =
        subst (λ vs. Gathering back root before after vs (next + 1)) (sym new_ones.behind)
        (record {
          size = new_ones.size ∙ so_far.size;
          first = same_first new_ones.more;
          each = each_now;
          others = others_now;
          kept = λ w m. new_ones.kept w (so_far.kept w m);
          only = λ w m. elim (new_ones.only w m) [
            | inl h ↦ elim (so_far.only w h) [ inl b ↦ inl b | inr s ↦ inr (s.0, got_before group new_ones.more s.0 w s.1) ]
            | inr s ↦ inr (length group + s.0, got_behind group new_ones.more s.0 w s.1)
          ];
          closed = closed_now;
        })

-- a group of which all rows were gathered is whole
pub gathering_all : (back : List (List ℕ)) (root : ℕ) (before after : List Bool) (group : List ℕ) (next : ℕ) → Gathering back root before after group next → length group ≤ next → Gathering back root before after group (length group)
gathering_all back root before after group next g all =
    record {
      size = g.size;
      first = g.first;
      each = g.each;
      others = g.others;
      kept = g.kept;
      only = g.only;
      closed = λ k v u less at edge. g.closed k v u (omega (arith, less, all)) at edge;
    }

pub gathers_whole : (row : List ℕ) (count : ℕ) (before : List Bool) (group : List ℕ) (after : List Bool) (then : List ℕ) → Gathers row count before group after then → length row ≤ count →
    Gathers row (length row) before group after then
gathers_whole row count before group after then g all =
    record {
      size = g.size;
      more = g.more;
      behind = g.behind;
      each = g.each;
      kept = g.kept;
      only = g.only;
      has = λ k v less at. g.has k v (omega (arith, less, all)) at;
      unmarked = g.unmarked;
    }
