-- The rows that are judged by the condition and the data of the lanes' Branches.
use Rattle.std.proofs.Common.{◌≡◌, inl, inr, ℕ, zero, suc, ◌+◌, ◌<◌, ◌≤◌, refl, sym, ap, subst, ◌∙◌, Bool, List, [], ◌∷◌, length, Some, None, arith}
use Rattle.std.specs.Prelude.{slice_get}
use Rattle.std.proofs.lemmas.Bool.{cases_eq}
use Rattle.std.proofs.lemmas.Option.{same_Some, none-some, slice_get_within}
use Rattle.components.specs.declared.kind.Kind.TheVariants.{Branch, Init}
use Rattle.components.specs.Name.{Name, Port}
use Rattle.circuits.specs.Circuit.{Circuit, Typed, circuit_of}
use Rattle.circuits.specs.Replacing.{In, In.head, In.tail}
use Rattle.circuits.specs.Root.{Root}
use Rattle.loop_laws.specs.Polarity.{IsMark}
use Rattle.loop_laws.specs.Reached.{port_at}
use Rattle.loop_laws.specs.BackPath.{BranchOf}
use Rattle.loop_laws.specs.BodyOrder.{Ascending, IsBefore}
use Rattle.loop_laws.specs.Feeders.{Feeder}
use Rattle.loop_laws.specs.Faults.{FirstBranch, RootsDiffer, Row}
use Rattle.loop_laws.specs.declared.fault.LoopFaultKind.TheVariants.{ConditionRoot, FreeCondition, FreeData}
use Rattle.loop_laws.proofs.Ascending.{each_in, not_both, not_itself}
use Rattle.graph_core.specs.declared.place.NodeId.{NodeId}
use Rattle.graph_core.specs.declared.place.PortAt.{PortAt}
use Rattle.graph_core.specs.GraphValue.{GraphValue, Denotes, name_by, port_of}
use Rattle.loop_find.specs.declared.shape.Lane.{Lane}
use Rattle.loop_find.specs.Backs.{IsFed}
use Rattle.loop_find.specs.Judging.{IsLeast}
use Rattle.loop_find.specs.Lanes.{AreLanes, IsCondition, IsLaneBy, muxes_by}
use Rattle.loop_find.specs.Walks.{AreAll}
use Rattle.loop_find.proofs.Endings.{one_branch}
use Rattle.loop_find.proofs.MarkWalks.{holds_of}
use Rattle.loop_find.proofs.RootWalks.{one_root}

-- where of two places the one stands
by_places : (P : Type 0) (j k : ℕ) → (j < k → P) → (j ≡ k → P) → (k < j → P) → P
by_places P zero zero less same more = same refl
by_places P zero (suc k) less same more = less (omega arith)
by_places P (suc j) zero less same more = more (omega arith)
by_places P (suc j) (suc k) less same more = by_places P j k (λ h. less (omega arith)) (λ e. same (ap suc e)) (λ h. more (omega arith))

module _ (g : GraphValue) where
  mux_in : (xs : List Lane) (n : Name) → In n (muxes_by g xs) → (k : ℕ) × (x : Lane) × (slice_get xs k ≡ Some x) × (name_by g.ids x.mux ≡ n)
  mux_in [] n i = elim i [ ]
  mux_in (x ∷ xs) n (head e) = (zero, x, refl, sym e)
  mux_in (x ∷ xs) n (tail i) = let (k, y, at, same) = mux_in xs n i in (suc k, y, at, same)

  in_mux : (xs : List Lane) (k : ℕ) (x : Lane) → slice_get xs k ≡ Some x → In (name_by g.ids x.mux) (muxes_by g xs)
  in_mux [] k x at = absurd (none-some x at)
  in_mux (y ∷ xs) zero x at = head (ap (λ (z : Lane). name_by g.ids z.mux) (same_Some x y (sym at)))
  in_mux (y ∷ xs) (suc k) x at = tail (in_mux xs k x at)

  rises_at : (xs : List Lane) → Ascending (muxes_by g xs) → (j k : ℕ) (x y : Lane) → j < k → slice_get xs j ≡ Some x → slice_get xs k ≡ Some y → IsBefore (name_by g.ids x.mux) (name_by g.ids y.mux)
  rises_at [] rise j k x y less at other = absurd (none-some x at)
  rises_at (z ∷ xs) rise j zero x y less at other = absurd (omega arith)
  rises_at (z ∷ xs) rise zero (suc k) x y less at other =
      subst (λ (w : Lane). IsBefore (name_by g.ids w.mux) (name_by g.ids y.mux)) (same_Some z x at)
      (each_in (IsBefore (name_by g.ids z.mux)) (muxes_by g xs) (name_by g.ids y.mux) rise.0 (in_mux xs k y other))
  rises_at (z ∷ xs) rise (suc j) (suc k) x y less at other = rises_at xs rise.1 j k x y (omega arith) at other

  -- the inputs of Branches, and that of a mark, are fed
  pub branch_fed : Typed (circuit_of g.graph) → (m : Name) (goes_back : Bool) (x : Lane) → IsLaneBy g m goes_back x → IsFed g (record { node = x.branch; port = 2 })
  branch_fed ty m goes_back x by = ty.inputs (port_at (name_by g.ids x.branch) 2) (Branch by.its.shape) (1 ∷ []) by.its.is_branch refl

  pub data_fed : Typed (circuit_of g.graph) → (m : Name) (goes_back : Bool) (x : Lane) → IsLaneBy g m goes_back x → IsFed g (record { node = x.branch; port = 1 })
  data_fed ty m goes_back x by = ty.inputs (port_at (name_by g.ids x.branch) 1) (Branch by.its.shape) by.its.shape by.its.is_branch refl

  pub mark_fed : Typed (circuit_of g.graph) → (mark : NodeId) → IsMark (circuit_of g.graph) (name_by g.ids mark) → IsFed g (record { node = mark; port = 1 })
  mark_fed ty mark (value, tags, is, some) = ty.inputs (port_at (name_by g.ids mark) 1) (Init value tags) (1 ∷ []) is refl

  -- the data of the lanes before this place come from feeders
  abbrev pub FreeBelow : Name → Bool → List Lane → ℕ → Type 0
  FreeBelow m goes_back xs next =
      (k : ℕ) (x : Lane) → k < next → slice_get xs k ≡ Some x → (q : Port) → (circuit_of g.graph).feeder (port_at (name_by g.ids x.branch) 1) ≡ Some q → Feeder (circuit_of g.graph) m goes_back q.node

  -- the Branches of the lanes before this place have the root
  abbrev pub RootedBelow : List Lane → PortAt → ℕ → Type 0
  RootedBelow xs root next =
      (k : ℕ) (x : Lane) → k < next → slice_get xs k ≡ Some x → Root (circuit_of g.graph) (port_at (name_by g.ids x.branch) 2) (port_of g root)

  module _ (m : Name) (goes_back : Bool) (xs : List Lane) (are : AreLanes g m goes_back xs) where
    abbrev c : Circuit
    c = circuit_of g.graph

    -- the lane of a Branch
    pub lane_of : (lane r : Name) → BranchOf c m goes_back lane r → (k : ℕ) × (x : Lane) × (slice_get xs k ≡ Some x) × (name_by g.ids x.mux ≡ lane) × (name_by g.ids x.branch ≡ r)
    lane_of lane r its =
        let (k, x, at, same) = mux_in xs lane (are.all lane its.is_lane) in (
          k,
          x,
          at,
          same,
          one_branch c m goes_back lane (name_by g.ids x.branch) r (subst (λ n. BranchOf c m goes_back n (name_by g.ids x.branch)) same (are.each k x at).its) its,
        )

    module _ (first : Lane) (at_first : slice_get xs 0 ≡ Some first) where
      -- the first lane's Branch is the first, and no other is
      pub is_first : FirstBranch c m goes_back (name_by g.ids first.branch)
      is_first =
          record {
            lane = name_by g.ids first.mux;
            is_first = λ other lane apart. later other apart (mux_in xs other (are.all other lane));
            its = (are.each 0 first at_first).its;
          }
        where
          later : (other : Name) → ¬ (other ≡ name_by g.ids first.mux) → (k : ℕ) × (x : Lane) × (slice_get xs k ≡ Some x) × (name_by g.ids x.mux ≡ other) → IsBefore (name_by g.ids first.mux) other
          later other apart (zero, x, at, same) = absurd (apart (sym same ∙ ap (λ (z : Lane). name_by g.ids z.mux) (same_Some x first (sym at ∙ at_first))))
          later other apart (suc k, x, at, same) = subst (IsBefore (name_by g.ids first.mux)) same (rises_at xs are.by_name 0 (suc k) first x (omega arith) at_first at)

      pub same_first : (r : Name) → FirstBranch c m goes_back r → r ≡ name_by g.ids first.branch
      same_first r other = by (lane_of other.lane r other.its)
        where
          by : (k : ℕ) × (x : Lane) × (slice_get xs k ≡ Some x) × (name_by g.ids x.mux ≡ other.lane) × (name_by g.ids x.branch ≡ r) → r ≡ name_by g.ids first.branch
          by (zero, x, at, same, branch) = sym branch ∙ ap (λ (z : Lane). name_by g.ids z.branch) (same_Some x first (sym at ∙ at_first))
          by (suc k, x, at, same, branch) =
              let before : IsBefore (name_by g.ids first.mux) other.lane = subst (IsBefore (name_by g.ids first.mux)) same (rises_at xs are.by_name 0 (suc k) first x (omega arith) at_first at) in
              absurd (not_both (name_by g.ids first.mux) other.lane before
              (other.is_first (name_by g.ids first.mux) (are.each 0 first at_first).its.is_lane (λ e. not_itself other.lane (subst (λ n. IsBefore n other.lane) e before))))

    no_first_of : xs ≡ [] → (r : Name) → ¬ (FirstBranch c m goes_back r)
    no_first_of none r first = let (k, x, at, same, branch) = lane_of first.lane r first.its in none-some x (sym (ap (λ ys. slice_get ys k) none) ∙ at)

    pub no_first : slice_get xs 0 ≡ None → (r : Name) → ¬ (FirstBranch c m goes_back r)
    no_first at_none = no_first_of (none_at xs at_none)
      where
        none_at : (ys : List Lane) → slice_get ys 0 ≡ None → ys ≡ []
        none_at [] e = refl
        none_at (y ∷ ys) e = absurd (none-some y (sym e))

    -- what comes from feeders
    module _ (feeders : List NodeId) (fed : AreAll g (Feeder c m goes_back) feeders) where
      feeder_in : (id : NodeId) (q : Port) → Denotes g id (name_by g.ids id) → Feeder c m goes_back (name_by g.ids id) → In id feeders
      feeder_in id q denotes f = (fed id).1 (name_by g.ids id, denotes, f)

      pub free_below_first : FreeBelow m goes_back xs 0
      free_below_first k x below = absurd (omega arith)

      pub free_below_more : (next : ℕ) (x : Lane) (source : PortAt) → FreeBelow m goes_back xs next → slice_get xs next ≡ Some x → c.feeder (port_at (name_by g.ids x.branch) 1) ≡ Some (port_of g source) →
          In source.node feeders → FreeBelow m goes_back xs (next + 1)
      free_below_more next x source so_far at comes i k y below got q other =
          elim (cases_eq k next) [
            | inl same ↦
                let one : x ≡ y = same_Some x y (sym at ∙ ap (slice_get xs) (sym same) ∙ got) in
                let q_is : port_of g source ≡ q = same_Some (port_of g source) q (sym comes ∙ ap (λ (z : Lane). c.feeder (port_at (name_by g.ids z.branch) 1)) one ∙ other) in
                subst (λ (p : Port). Feeder c m goes_back p.node) q_is (holds_of g (Feeder c m goes_back) feeders fed source.node i)
            | inr apart ↦ so_far k y (omega arith) got q other
          ]

      pub bound_data : (k : ℕ) (x : Lane) (source : PortAt) → slice_get xs k ≡ Some x → c.feeder (port_at (name_by g.ids x.branch) 1) ≡ Some (port_of g source) → Denotes g source.node (name_by g.ids source.node) →
          ¬ (In source.node feeders) → (n : Name) → ¬ (Row c m goes_back FreeData n)
      bound_data k x source at comes denotes never n row =
          never (feeder_in source.node (port_of g source) denotes (row.1 (name_by g.ids x.mux) (name_by g.ids x.branch) (are.each k x at).its (port_of g source) comes))

      pub all_free : (next : ℕ) (first : Lane) → FreeBelow m goes_back xs next → length xs ≤ next → slice_get xs 0 ≡ Some first → IsLeast g (Row c m goes_back FreeData) first.branch
      all_free next first so_far all at =
          record {
            denotes = (are.each 0 first at).branch;
            holds = (is_first first at, λ lane r its q comes. every (lane_of lane r its) q comes);
            least = λ n row apart. absurd (apart (same_first first at n row.0));
          }
        where
          every : {lane r : Name} → (k : ℕ) × (x : Lane) × (slice_get xs k ≡ Some x) × (name_by g.ids x.mux ≡ lane) × (name_by g.ids x.branch ≡ r) → (q : Port) → c.feeder (port_at r 1) ≡ Some q →
              Feeder c m goes_back q.node
          every (k, x, here_at, same, branch) q comes =
              so_far k x (omega (arith, slice_get_within xs k x here_at)) here_at q (subst (λ n. c.feeder (port_at n 1) ≡ Some q) (sym branch) comes)

      -- the condition
      module _ (root : PortAt) (is : IsCondition g xs root) where
        pub is_free : In root.node feeders → IsLeast g (Row c m goes_back FreeCondition) root.node
        is_free i =
            record {
              denotes = is.denotes;
              holds = (name_by g.ids is.lane.branch, is_first is.lane is.first, port_of g root, is.its_root, refl, holds_of g (Feeder c m goes_back) feeders fed root.node i);
              least = λ n row apart. absurd (apart (only n row));
            }
          where
            only : (n : Name) → Row c m goes_back FreeCondition n → n ≡ name_by g.ids root.node
            only n (r, first, other, its, same, f) =
                let r_is = same_first is.lane is.first r first in
                let root_is : other ≡ port_of g root = one_root c (port_at (name_by g.ids is.lane.branch) 2) other (port_of g root) (subst (λ k. Root c (port_at k 2) other) r_is its) is.its_root in
                sym same ∙ ap (λ (p : Port). p.node) root_is

        pub is_bound : ¬ (In root.node feeders) → (n : Name) → ¬ (Row c m goes_back FreeCondition n)
        is_bound never n (r, first, other, its, same, f) =
            let r_is = same_first is.lane is.first r first in
            let root_is : other ≡ port_of g root = one_root c (port_at (name_by g.ids is.lane.branch) 2) other (port_of g root) (subst (λ k. Root c (port_at k 2) other) r_is its) is.its_root in
            never (feeder_in root.node other is.denotes (subst (Feeder c m goes_back) (sym same ∙ ap (λ (p : Port). p.node) root_is) f))

    module _ (root : PortAt) (is : IsCondition g xs root) where
      abbrev pub HasRoot : Port → Type 0
      HasRoot p = Root c p (port_of g root)

      abbrev pub decider : Port
      decider = port_at (name_by g.ids is.lane.branch) 2

      differs : (p : Port) → ¬ (HasRoot p) → RootsDiffer c p decider
      differs p never = (λ q one other. never (subst (Root c p) (one_root c decider q (port_of g root) other is.its_root) one), port_of g root, inr is.its_root)

      agrees : (p : Port) → HasRoot p → ¬ (RootsDiffer c p decider)
      agrees p its differ = differ.0 (port_of g root) its is.its_root

      pub rooted_first : RootedBelow xs root 0
      rooted_first k x below = absurd (omega arith)

      pub rooted_more : (next : ℕ) (x : Lane) → RootedBelow xs root next → slice_get xs next ≡ Some x → HasRoot (port_at (name_by g.ids x.branch) 2) → RootedBelow xs root (next + 1)
      rooted_more next x so_far at its k y below got =
          elim (cases_eq k next) [
            | inl same ↦ subst (λ (z : Lane). HasRoot (port_at (name_by g.ids z.branch) 2)) (same_Some x y (sym at ∙ ap (slice_get xs) (sym same) ∙ got)) its
            | inr apart ↦ so_far k y (omega arith) got
          ]

      -- a Branch without the root, behind others that have it
      module _ (i : ℕ) (x : Lane) (so_far : RootedBelow xs root i) (at : slice_get xs i ≡ Some x) (never : ¬ (HasRoot (port_at (name_by g.ids x.branch) 2))) where
        odd_row : Row c m goes_back ConditionRoot (name_by g.ids x.branch)
        odd_row = (
          name_by g.ids is.lane.branch,
          is_first is.lane is.first,
          inl (name_by g.ids x.mux, (are.each i x at).its, differs (port_at (name_by g.ids x.branch) 2) never, λ other s its before. earlier other s before (lane_of other s its)),
        )
          where
            earlier : (other s : Name) → IsBefore other (name_by g.ids x.mux) → (k : ℕ) × (y : Lane) × (slice_get xs k ≡ Some y) × (name_by g.ids y.mux ≡ other) × (name_by g.ids y.branch ≡ s) →
                ¬ (RootsDiffer c (port_at s 2) decider)
            earlier other s before (k, y, got, mux, branch) =
                by_places (¬ (RootsDiffer c (port_at s 2) decider)) k i
                (λ less. subst (λ n. ¬ (RootsDiffer c (port_at n 2) decider)) branch (agrees (port_at (name_by g.ids y.branch) 2) (so_far k y less got)))
                (λ same. absurd (not_itself other (subst (IsBefore other) (ap (λ (z : Lane). name_by g.ids z.mux) (same_Some x y (sym at ∙ ap (slice_get xs) (sym same) ∙ got)) ∙ mux) before)))
                (λ more. absurd (not_both other (name_by g.ids x.mux) before (subst (IsBefore (name_by g.ids x.mux)) mux (rises_at xs are.by_name i k x y more at got))))

        odd_only : (n : Name) → Row c m goes_back ConditionRoot n → n ≡ name_by g.ids x.branch
        odd_only n (r, first, inl (lane, its, differ, others)) = by (lane_of lane n its)
          where
            r_is : r ≡ name_by g.ids is.lane.branch
            r_is = same_first is.lane is.first r first

            by : (k : ℕ) × (y : Lane) × (slice_get xs k ≡ Some y) × (name_by g.ids y.mux ≡ lane) × (name_by g.ids y.branch ≡ n) → n ≡ name_by g.ids x.branch
            by (k, y, got, mux, branch) =
                by_places (n ≡ name_by g.ids x.branch) k i
                (λ less. absurd (agrees (port_at n 2) (subst (λ z. HasRoot (port_at z 2)) branch (so_far k y less got)) (subst (λ z. RootsDiffer c (port_at n 2) (port_at z 2)) r_is differ)))
                (λ same. sym branch ∙ ap (λ (z : Lane). name_by g.ids z.branch) (same_Some y x (sym got ∙ ap (slice_get xs) same ∙ at)))
                (λ more. absurd (others (name_by g.ids x.mux) (name_by g.ids x.branch) (are.each i x at).its (subst (IsBefore (name_by g.ids x.mux)) mux (rises_at xs are.by_name i k x y more at got))
                (subst (λ z. RootsDiffer c (port_at (name_by g.ids x.branch) 2) (port_at z 2)) (sym r_is) (differs (port_at (name_by g.ids x.branch) 2) never))))
        odd_only n (r, first, inr (same, differ, all)) =
            absurd (all (name_by g.ids x.mux) (name_by g.ids x.branch) (are.each i x at).its
            (subst (λ z. RootsDiffer c (port_at (name_by g.ids x.branch) 2) (port_at z 2)) (sym (same_first is.lane is.first r first)) (differs (port_at (name_by g.ids x.branch) 2) never)))

        pub odd_condition : IsLeast g (Row c m goes_back ConditionRoot) x.branch
        odd_condition = record { denotes = (are.each i x at).branch; holds = odd_row; least = λ n row apart. absurd (apart (odd_only n row)) }

      -- all Branches have the root
      module _ (next : ℕ) (so_far : RootedBelow xs root next) (all : length xs ≤ next) where
        each_agrees : (lane s r : Name) → BranchOf c m goes_back lane s → r ≡ name_by g.ids is.lane.branch → ¬ (RootsDiffer c (port_at s 2) (port_at r 2))
        each_agrees lane s r its r_is differ = by (lane_of lane s its)
          where
            by : (k : ℕ) × (y : Lane) × (slice_get xs k ≡ Some y) × (name_by g.ids y.mux ≡ lane) × (name_by g.ids y.branch ≡ s) → ⊥
            by (k, y, got, mux, branch) =
                agrees (port_at s 2) (subst (λ z. HasRoot (port_at z 2)) branch (so_far k y (omega (arith, slice_get_within xs k y got)) got)) (subst (λ z. RootsDiffer c (port_at s 2) (port_at z 2)) r_is differ)

        pub odd_mark : (mark : NodeId) → Denotes g mark (name_by g.ids mark) → name_by g.ids mark ≡ m → ¬ (HasRoot (port_at m 1)) → IsLeast g (Row c m goes_back ConditionRoot) mark
        odd_mark mark denotes name never =
            record {
              denotes = denotes;
              holds = (
                name_by g.ids is.lane.branch,
                is_first is.lane is.first,
                inr (name, differs (port_at m 1) never, λ lane s its. each_agrees lane s (name_by g.ids is.lane.branch) its refl),
              );
              least = λ n row apart. absurd (apart (only n row));
            }
          where
            only : (n : Name) → Row c m goes_back ConditionRoot n → n ≡ name_by g.ids mark
            only n (r, first, inl (lane, its, differ, others)) = absurd (each_agrees lane n r its (same_first is.lane is.first r first) differ)
            only n (r, first, inr (same, differ, every)) = same ∙ sym name

        pub even_conditions : HasRoot (port_at m 1) → (n : Name) → ¬ (Row c m goes_back ConditionRoot n)
        even_conditions its n (r, first, inl (lane, of, differ, others)) = each_agrees lane n r of (same_first is.lane is.first r first) differ
        even_conditions its n (r, first, inr (same, differ, every)) =
            agrees (port_at m 1) its (subst (λ z. RootsDiffer c (port_at m 1) (port_at z 2)) (same_first is.lane is.first r first) differ)
