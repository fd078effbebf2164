-- Branches that do not fit the lanes of a mark.
use Rattle.std.proofs.Common.{◌≡◌, ◌⊎◌, inl, inr, sym, ap, subst, ◌∙◌, Bool, List, Option, Some, None}
use Rattle.components.specs.declared.kind.Kind.TheVariants as kinds
use Rattle.components.specs.Name.{Name}
use Rattle.components.specs.Orders.{name_cases, name_total}
use Rattle.circuits.specs.Circuit.{circuit_of}
use Rattle.loop_laws.specs.Reached.{HasKind}
use Rattle.loop_laws.specs.BackPath.{IsLaneBranch}
use Rattle.loop_laws.specs.BodyOrder.{IsBefore}
use Rattle.loop_laws.specs.Faults.{Inside, IsBranch, Row}
use Rattle.loop_laws.specs.declared.fault.LoopFaultKind.TheVariants.{LanesUneven}
use Rattle.graph_core.specs.declared.place.NodeId.{NodeId}
use Rattle.graph_core.specs.GraphValue.{GraphValue, Denotes, IsGraph, name_by}
use Rattle.loop_find.specs.declared.choose.Test.TheVariants.{Apart, Foreign}
use Rattle.loop_find.specs.declared.walk.Way.TheVariants.{Branches}
use Rattle.loop_find.specs.Judging.{Chosen, IsEarlier, IsJudged, IsLeast}
use Rattle.loop_find.specs.Walks.{AreAll, Has, SteppedTo}
use Rattle.loop_find.proofs.Choosing.{judged_of}
use Rattle.loop_find.proofs.MarkWalks.{holds_of}
use Rattle.loop_find.proofs.RowNodes.{of_all, in_all, fed_lives, feeds_lives, outer_of}
use Rattle.loop_find.proofs.Walking.{itself}

module _ (g : GraphValue) where
  -- the least of what is judged apart
  module _ (P Q : Name → Type 0) where
    abbrev Either : Name → Type 0
    Either n = P n ⊎ Q n

    lesser_of : (one other r : NodeId) → IsLeast g P one → IsLeast g Q other → (r ≡ one) ⊎ (r ≡ other) → ((one ≡ r) ⊎ IsBefore (name_by g.ids r) (name_by g.ids one)) →
        ((other ≡ r) ⊎ IsBefore (name_by g.ids r) (name_by g.ids other)) → IsLeast g Either r
    lesser_of one other r p q is first second =
        record {
          denotes = elim is [ inl e ↦ subst (λ x. Denotes g x (name_by g.ids x)) (sym e) p.denotes | inr e ↦ subst (λ x. Denotes g x (name_by g.ids x)) (sym e) q.denotes ];
          holds = elim is [ inl e ↦ inl (subst (λ x. P (name_by g.ids x)) (sym e) p.holds) | inr e ↦ inr (subst (λ x. Q (name_by g.ids x)) (sym e) q.holds) ];
          least = λ n h apart. elim h [
            | inl here ↦ behind one n first (λ off. p.least n here off) apart
            | inr here ↦ behind other n second (λ off. q.least n here off) apart
          ];
        }
      where
        behind : (x : NodeId) (n : Name) → ((x ≡ r) ⊎ IsBefore (name_by g.ids r) (name_by g.ids x)) → (¬ (n ≡ name_by g.ids x) → IsBefore (name_by g.ids x) n) → ¬ (n ≡ name_by g.ids r) →
            IsBefore (name_by g.ids r) n
        behind x n (inl same) after apart =
            subst (λ y. IsBefore (name_by g.ids y) n) same (after (λ e. apart (e ∙ ap (name_by g.ids) same)))
        behind x n (inr before) after apart =
            elim (name_cases n (name_by g.ids x)) [
              | inl same ↦ subst (IsBefore (name_by g.ids r)) (sym same) before
              | inr other ↦ name_total.trans (name_by g.ids r) (name_by g.ids x) n before (after other)
            ]

    left_only : (one : NodeId) → IsLeast g P one → ((n : Name) → ¬ (Q n)) → IsLeast g Either one
    left_only one p none =
        record { denotes = p.denotes; holds = inl p.holds; least = λ n h apart. elim h [ inl here ↦ p.least n here apart | inr here ↦ absurd (none n here) ] }

    right_only : (other : NodeId) → IsLeast g Q other → ((n : Name) → ¬ (P n)) → IsLeast g Either other
    right_only other q none =
        record { denotes = q.denotes; holds = inr q.holds; least = λ n h apart. elim h [ inl here ↦ absurd (none n here) | inr here ↦ q.least n here apart ] }

    pub earlier_judged : (one other r : Option NodeId) → IsJudged g P one → IsJudged g Q other → IsEarlier g one other r → IsJudged g Either r
    earlier_judged None None r p q is = subst (IsJudged g Either) (sym is) (λ n h. elim h [ inl here ↦ p n here | inr here ↦ q n here ])
    earlier_judged None (Some other) r p q is = subst (IsJudged g Either) (sym is) (right_only other q p)
    earlier_judged (Some one) None r p q is = subst (IsJudged g Either) (sym is) (left_only one p q)
    earlier_judged (Some one) (Some other) r p q is =
        let (id, same, lesser) = is in subst (IsJudged g Either) (sym same) (lesser_of one other id p q lesser.is lesser.first lesser.second)

  judged_as : (P Q : Name → Type 0) → ((n : Name) → P n → Q n) → ((n : Name) → Q n → P n) → (r : Option NodeId) → IsJudged g P r → IsJudged g Q r
  judged_as P Q there back None p = λ n q. p n (back n q)
  judged_as P Q there back (Some id) p = record { denotes = p.denotes; holds = there (name_by g.ids id) p.holds; least = λ n q apart. p.least n (back n q) apart }

  module _ (is : IsGraph g) (m : Name) (goes_back : Bool) (inside branches : List NodeId) (are_inside : AreAll g (Inside (circuit_of g.graph) m goes_back) inside)
      (are_branches : AreAll g (IsLaneBranch (circuit_of g.graph) m goes_back) branches) where
    -- what stepping from inside comes to, of which a set has nothing
    abbrev pub Odd : List NodeId → Name → Type 0
    Odd entered n = Chosen g Apart branches entered n

    abbrev pub Loose : Name → Type 0
    Loose n = Chosen g Foreign inside branches n

    branch_kind : (n : Name) → IsLaneBranch (circuit_of g.graph) m goes_back n → HasKind (circuit_of g.graph) IsBranch n
    branch_kind n (lane, its) = (kinds.Branch its.shape, its.is_branch, tt)

    module _ (entered : List NodeId) (are_entered : AreAll g (SteppedTo g Branches inside) entered) where
      odd_so : (n : Name) → Odd entered n → Row (circuit_of g.graph) m goes_back LanesUneven n
      odd_so n (has, apart) =
          let (id, i, follows) = of_all g (SteppedTo g Branches inside) entered are_entered n has in
          let (own, denotes, among) = has in (
            follows.enters,
            follows.input,
            follows.source,
            follows.fed,
            inl (
              subst (Inside (circuit_of g.graph) m goes_back) (sym follows.leaves) (holds_of g (Inside (circuit_of g.graph) m goes_back) inside are_inside id i),
              λ lane. apart (in_all g (IsLaneBranch (circuit_of g.graph) m goes_back) branches are_branches n own denotes lane),
            ),
          )

      loose_so : (n : Name) → Loose n → Row (circuit_of g.graph) m goes_back LanesUneven n
      loose_so n (has, fails) =
          let (own, denotes, among) = has in
          let lane = of_all g (IsLaneBranch (circuit_of g.graph) m goes_back) branches are_branches n has in
          let found = outer_of g is inside n own denotes fails in
          let k = found.0 in
          let (q, fed, out) = found.1 in
          let (id, source) = feeds_lives g is n k q fed in (
            branch_kind n lane,
            k,
            q,
            fed,
            inr (lane, λ within. out (in_all g (Inside (circuit_of g.graph) m goes_back) inside are_inside q.node id source within)),
          )

      row_so : (n : Name) → Row (circuit_of g.graph) m goes_back LanesUneven n → Odd entered n ⊎ Loose n
      row_so n (kind, i, q, fed, inl (within, no_lane)) =
          let (own, denotes) = fed_lives g is n i q fed in
          let (id, source, among) = let (id, source) = feeds_lives g is n i q fed in in_all g (Inside (circuit_of g.graph) m goes_back) inside are_inside q.node id source within in
          inl (
            in_all g (SteppedTo g Branches inside) entered are_entered n own denotes (id, among, record { input = i; source = q; leaves = sym (itself g id q.node source); fed = fed; enters = kind }),
            λ has. no_lane (of_all g (IsLaneBranch (circuit_of g.graph) m goes_back) branches are_branches n has),
          )
      row_so n (kind, i, q, fed, inr (lane, out)) =
          let (own, denotes) = fed_lives g is n i q fed in
          inr (
            in_all g (IsLaneBranch (circuit_of g.graph) m goes_back) branches are_branches n own denotes lane,
            λ inner. out (of_all g (Inside (circuit_of g.graph) m goes_back) inside are_inside q.node (inner i q fed)),
          )

      odd_lives : (n : Name) → Odd entered n → (id : NodeId) × Denotes g id n
      odd_lives n ((id, denotes, i), apart) = (id, denotes)

      loose_lives : (n : Name) → Loose n → (id : NodeId) × Denotes g id n
      loose_lives n ((id, denotes, i), fails) = (id, denotes)

      pub uneven_judged : (odd loose : List NodeId) → AreAll g (Odd entered) odd → AreAll g Loose loose → (one other r : Option NodeId) → IsJudged g (Has g odd) one → IsJudged g (Has g loose) other →
          IsEarlier g one other r → IsJudged g (Row (circuit_of g.graph) m goes_back LanesUneven) r
      uneven_judged odd loose are_odd are_loose one other r first second earlier =
          judged_as (λ n. Odd entered n ⊎ Loose n) (Row (circuit_of g.graph) m goes_back LanesUneven) (λ n h. elim h [ inl here ↦ odd_so n here | inr here ↦ loose_so n here ]) row_so r
          (earlier_judged (Odd entered) Loose one other r (judged_of g is (Odd entered) odd are_odd odd_lives one first) (judged_of g is Loose loose are_loose loose_lives other second) earlier)
