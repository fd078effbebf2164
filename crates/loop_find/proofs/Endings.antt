-- The ends of the back paths of the lanes, lane after lane.
use Rattle.std.proofs.Common.{◌≡◌, inl, inr, ℕ, ◌+◌, ◌<◌, ◌≤◌, sym, ap, subst, ◌∙◌, Bool, List, [], length, Some, arith}
use Rattle.std.specs.Prelude.{slice_get}
use Rattle.std.proofs.lemmas.Bool.{cases_eq}
use Rattle.std.proofs.lemmas.Option.{same_Some, slice_get_within}
use Rattle.components.specs.declared.kind.Kind.TheVariants.{Branch, Mux}
use Rattle.components.specs.Name.{Name, Port}
use Rattle.components.specs.Kind.{Shape}
use Rattle.circuits.specs.Circuit.{Circuit, circuit_of}
use Rattle.circuits.specs.Replacing.{In}
use Rattle.loop_laws.specs.Polarity.{back_in, back_out}
use Rattle.loop_laws.specs.Reached.{port_at, HasKind, IsLane}
use Rattle.loop_laws.specs.BackPath.{IsBuffer, BranchOf, IsLaneBranch}
use Rattle.loop_laws.specs.Faults.{IsBranch, Row}
use Rattle.loop_laws.specs.declared.fault.LoopFaultKind.TheVariants.{BackPath}
use Rattle.loop_laws.proofs.BackPaths.{same_start}
use Rattle.loop_laws.proofs.NodeKinds.{kind_is}
use Rattle.graph_core.specs.declared.place.NodeId.{NodeId}
use Rattle.graph_core.specs.GraphValue.{GraphValue, Denotes, IsGraph, name_by}
use Rattle.loop_find.specs.Ends.{IsEndPut}
use Rattle.loop_find.specs.Walks.{AreAll, Picks}
use Rattle.loop_find.proofs.Choosing.{put_in, put_keeps, put_has}
use Rattle.loop_find.proofs.MarkWalks.{holds_of, live_of}
use Rattle.loop_find.proofs.Places.{in_at, at_in}
use Rattle.loop_find.proofs.Walking.{id_of_node, itself}

-- a lane has one Branch, and the row of its back path does not hold at it
module _ (c : Circuit) (m : Name) (goes_back : Bool) (lane : Name) where
  no_buffer : (r : Name) (shape : Shape) → c.kind_at r ≡ Some (Branch shape) → HasKind c IsBuffer r → ⊥
  no_buffer r shape is buffer = kind_is c IsBuffer r (Branch shape) buffer is

  pub one_branch : (r s : Name) → BranchOf c m goes_back lane r → BranchOf c m goes_back lane s → r ≡ s
  one_branch r s one other =
      ap (λ (p : Port). p.node)
      (same_start c (port_at lane (back_in goes_back)) one.back other.back (port_at r (back_out goes_back)) (port_at s (back_out goes_back)) one.path other.path
      (no_buffer r one.shape one.is_branch) (no_buffer s other.shape other.is_branch)).0

  pub no_back_row : (r : Name) → BranchOf c m goes_back lane r → Row c m goes_back BackPath lane → ⊥
  no_back_row r its row =
      let (is_lane, q, bs, path, other, never) = row in
      let same : port_at r (back_out goes_back) ≡ q =
      (same_start c (port_at lane (back_in goes_back)) its.back bs (port_at r (back_out goes_back)) q its.path path (no_buffer r its.shape its.is_branch) other).0 in
      never (sym (ap (λ (p : Port). p.port) same), subst (HasKind c IsBranch) (ap (λ (p : Port). p.node) same) (Branch its.shape, its.is_branch, tt))

module _ (g : GraphValue) (m : Name) (goes_back : Bool) where
  abbrev pub LaneBranch : Name → Type 0
  LaneBranch = IsLaneBranch (circuit_of g.graph) m goes_back

  abbrev pub NoBranch : Name → Type 0
  NoBranch = Row (circuit_of g.graph) m goes_back BackPath

  -- the end of a lane's back path is there
  pub data EndIn (branches faulty : List NodeId) (lane : NodeId) : Type 0 where
    at_branch : (r : NodeId) → Denotes g r (name_by g.ids r) → BranchOf (circuit_of g.graph) m goes_back (name_by g.ids lane) (name_by g.ids r) → In r branches →
        EndIn branches faulty lane
    at_fault : NoBranch (name_by g.ids lane) → In lane faulty → EndIn branches faulty lane

  -- what is there is the end of a back path, and those of the first lanes are there
  pub record Ending (lanes branches faulty : List NodeId) (next : ℕ) : Type 0 where
    pub each_branch : (id : NodeId) → In id branches → Picks g LaneBranch id
    pub each_fault : (id : NodeId) → In id faulty → Picks g NoBranch id
    pub ends : (k : ℕ) (lane : NodeId) → k < next → slice_get lanes k ≡ Some lane → EndIn branches faulty lane

  pub ending_first : (lanes branches faulty : List NodeId) → branches ≡ [] → faulty ≡ [] → Ending lanes branches faulty 0
  ending_first lanes branches faulty none also =
      record {
        each_branch = λ id i. elim (subst (In id) none i) [ ];
        each_fault = λ id i. elim (subst (In id) also i) [ ];
        ends = λ k lane below. absurd (omega arith);
      }

  kept_end : (branches faulty branches_after faulty_after : List NodeId) → ((x : NodeId) → In x branches → In x branches_after) → ((x : NodeId) → In x faulty → In x faulty_after) →
      (lane : NodeId) → EndIn branches faulty lane → EndIn branches_after faulty_after lane
  kept_end branches faulty branches_after faulty_after keeps also lane (at_branch r denotes its i) = at_branch r denotes its (keeps r i)
  kept_end branches faulty branches_after faulty_after keeps also lane (at_fault row i) = at_fault row (also lane i)

  module _ (lanes branches faulty : List NodeId) (next : ℕ) (so_far : Ending lanes branches faulty next) (lane : NodeId) (at : slice_get lanes next ≡ Some lane)
      (live : Denotes g lane (name_by g.ids lane)) where
    more_ends : (branches_after faulty_after : List NodeId) → ((x : NodeId) → In x branches → In x branches_after) → ((x : NodeId) → In x faulty → In x faulty_after) →
        EndIn branches_after faulty_after lane → (k : ℕ) (x : NodeId) → k < next + 1 → slice_get lanes k ≡ Some x → EndIn branches_after faulty_after x
    more_ends branches_after faulty_after keeps also here k x below got =
        elim (cases_eq k next) [
          | inl same ↦ subst (EndIn branches_after faulty_after) (same_Some lane x (sym at ∙ ap (slice_get lanes) (sym same) ∙ got)) here
          | inr apart ↦ kept_end branches faulty branches_after faulty_after keeps also x (so_far.ends k x (omega arith) got)
        ]

    pub ending_more : (branches_after faulty_after : List NodeId) → IsEndPut g m goes_back lane branches branches_after faulty faulty_after → Ending lanes branches_after faulty_after (next + 1)
    ending_more branches_after faulty_after (inl put) =
        let r = put.0.branch in
        let its = put.0.its.its in
        let same = put.1 in
        record {
          each_branch = λ id i. elim (put_in branches branches_after r put.0.put id i) [
            | inl old ↦ so_far.each_branch id old
            | inr new ↦ subst (Picks g LaneBranch) (sym new) (name_by g.ids r, put.0.its.denotes, (name_by g.ids lane, its))
          ];
          each_fault = λ id i. so_far.each_fault id (subst (In id) same i);
          ends = more_ends branches_after faulty_after (put_keeps branches branches_after r put.0.put) (λ x i. subst (In x) (sym same) i)
              (at_branch r put.0.its.denotes its (put_has branches branches_after r put.0.put));
        }
    ending_more branches_after faulty_after (inr put) =
        let row = put.0.row in
        let same = put.1 in
        record {
          each_branch = λ id i. so_far.each_branch id (subst (In id) same i);
          each_fault = λ id i. elim (put_in faulty faulty_after lane put.0.put id i) [
            | inl old ↦ so_far.each_fault id old
            | inr new ↦ subst (Picks g NoBranch) (sym new) (name_by g.ids lane, live, row)
          ];
          ends = more_ends branches_after faulty_after (λ x i. subst (In x) (sym same) i) (put_keeps faulty faulty_after lane put.0.put)
              (at_fault row (put_has faulty faulty_after lane put.0.put));
        }

  module _ (is : IsGraph g) (lanes branches faulty : List NodeId) (next : ℕ) (done : Ending lanes branches faulty next) (all : length lanes ≤ next)
      (are : AreAll g (IsLane (circuit_of g.graph) m) lanes) where
    end_of : (n : Name) → IsLane (circuit_of g.graph) m n → (lane : NodeId) × Denotes g lane n × EndIn branches faulty lane
    end_of n is_lane =
        let (lane, denotes) = id_of_node g is n (Mux is_lane.shape) is_lane.is_mux in
        let (k, at) = in_at lane lanes ((are lane).1 (n, denotes, is_lane)) in
        (lane, denotes, done.ends k lane (omega (arith, slice_get_within lanes k lane at)) at)

    branch_there : (n : Name) → LaneBranch n → (id : NodeId) → Denotes g id n → In id branches
    branch_there n (lane, its) id denotes =
        let (l, named, end) = end_of lane its.is_lane in
        by_end l (itself g l lane named) end
      where
        by_end : (l : NodeId) → name_by g.ids l ≡ lane → EndIn branches faulty l → In id branches
        by_end l same (at_branch r live other i) =
            let one : name_by g.ids r ≡ n = one_branch (circuit_of g.graph) m goes_back lane (name_by g.ids r) n (subst (λ x. BranchOf (circuit_of g.graph) m goes_back x (name_by g.ids r)) same other) its in
            subst (λ x. In x branches) (is.alone r id n (subst (Denotes g r) one live) denotes) i
        by_end l same (at_fault row i) = absurd (no_back_row (circuit_of g.graph) m goes_back lane n its (subst NoBranch same row))

    fault_there : (n : Name) → NoBranch n → (id : NodeId) → Denotes g id n → In id faulty
    fault_there n row id denotes =
        let (l, named, end) = end_of n row.0 in
        by_end l named end
      where
        by_end : (l : NodeId) → Denotes g l n → EndIn branches faulty l → In id faulty
        by_end l named (at_branch r live its i) =
            absurd (no_back_row (circuit_of g.graph) m goes_back n (name_by g.ids r) (subst (λ x. BranchOf (circuit_of g.graph) m goes_back x (name_by g.ids r)) (itself g l n named) its) row)
        by_end l named (at_fault other i) = subst (λ x. In x faulty) (is.alone l id n named denotes) i

    pub ending_branches : AreAll g LaneBranch branches
    ending_branches id = (done.each_branch id, λ picked. branch_there picked.0 picked.2 id picked.1)

    pub ending_faulty : AreAll g NoBranch faulty
    ending_faulty id = (done.each_fault id, λ picked. fault_there picked.0 picked.2 id picked.1)

  pub lane_at : (lanes : List NodeId) → AreAll g (IsLane (circuit_of g.graph) m) lanes → (k : ℕ) (lane : NodeId) → slice_get lanes k ≡ Some lane →
      IsLane (circuit_of g.graph) m (name_by g.ids lane) × Denotes g lane (name_by g.ids lane)
  lane_at lanes are k lane at = (
    holds_of g (IsLane (circuit_of g.graph) m) lanes are lane (at_in lanes k lane at),
    live_of g (IsLane (circuit_of g.graph) m) lanes are lane (at_in lanes k lane at),
  )
