-- Branches of several lanes, and the one Branch in their place, as plans.
use Rattle.std.proofs.Common.{◌≡◌, ℕ, zero, suc, Bool, true, false, List, Option, None, refl, length}
use Rattle.components.specs.Kind.{Shape}
use Rattle.circuit_plans.specs.Plans.{Out, Plan, Naming, from}
use Rattle.circuit_plans.specs.Places.{Place, number, place_at, same_place, same_place_is, same_place_self, output_at}
use Rattle.lane_laws.specs.CombineBranches.{Branches, condition, fork, passed, value, branch, out1, out2, branches_kind, OneBranch, new_condition, new_fork, new_passed, new_join, new_branch, new_split1, new_split2, new_value, new_out1, new_out2, one_branch_kind}

abbrev pub branches_source : (lanes : List Shape) → Branches lanes → ℕ → Option (Out (Branches lanes))
branches_source lanes fork (suc zero) = from condition 1
branches_source lanes passed (suc zero) = from fork (suc (length lanes))
branches_source lanes (branch l) (suc zero) = from (value l) 1
branches_source lanes (branch l) (suc (suc zero)) = from fork (number lanes l)
branches_source lanes (out1 l) (suc zero) = from (branch l) 1
branches_source lanes (out2 l) (suc zero) = from (branch l) 2
branches_source lanes _ _ = None

abbrev pub one_branch_source : (lanes : List Shape) → OneBranch lanes → ℕ → Option (Out (OneBranch lanes))
one_branch_source lanes new_fork (suc zero) = from new_condition 1
one_branch_source lanes new_passed (suc zero) = from new_fork 2
one_branch_source lanes new_join i = output_at new_value 1 (place_at lanes i)
one_branch_source lanes new_branch (suc zero) = from new_join 1
one_branch_source lanes new_branch (suc (suc zero)) = from new_fork 1
one_branch_source lanes new_split1 (suc zero) = from new_branch 1
one_branch_source lanes new_split2 (suc zero) = from new_branch 2
one_branch_source lanes (new_out1 l) (suc zero) = from new_split1 (number lanes l)
one_branch_source lanes (new_out2 l) (suc zero) = from new_split2 (number lanes l)
one_branch_source lanes _ _ = None

abbrev pub same_branches : (lanes : List Shape) → Branches lanes → Branches lanes → Bool
same_branches lanes condition condition = true
same_branches lanes fork fork = true
same_branches lanes passed passed = true
same_branches lanes (value l) (value k) = same_place lanes l k
same_branches lanes (branch l) (branch k) = same_place lanes l k
same_branches lanes (out1 l) (out1 k) = same_place lanes l k
same_branches lanes (out2 l) (out2 k) = same_place lanes l k
same_branches lanes _ _ = false

pub same_branches_is : (lanes : List Shape) (a b : Branches lanes) → same_branches lanes a b ≡ true → a ≡ b
same_branches_is lanes condition condition e = refl
same_branches_is lanes fork fork e = refl
same_branches_is lanes passed passed e = refl
same_branches_is lanes (value l) (value k) e = λ i. value (same_place_is lanes l k e i)
same_branches_is lanes (branch l) (branch k) e = λ i. branch (same_place_is lanes l k e i)
same_branches_is lanes (out1 l) (out1 k) e = λ i. out1 (same_place_is lanes l k e i)
same_branches_is lanes (out2 l) (out2 k) e = λ i. out2 (same_place_is lanes l k e i)
same_branches_is lanes _ _ e = cc

pub same_branches_self : (lanes : List Shape) (a : Branches lanes) → same_branches lanes a a ≡ true
same_branches_self lanes condition = refl
same_branches_self lanes fork = refl
same_branches_self lanes passed = refl
same_branches_self lanes (value l) = same_place_self lanes l
same_branches_self lanes (branch l) = same_place_self lanes l
same_branches_self lanes (out1 l) = same_place_self lanes l
same_branches_self lanes (out2 l) = same_place_self lanes l

abbrev pub same_one_branch : (lanes : List Shape) → OneBranch lanes → OneBranch lanes → Bool
same_one_branch lanes new_condition new_condition = true
same_one_branch lanes new_fork new_fork = true
same_one_branch lanes new_passed new_passed = true
same_one_branch lanes new_join new_join = true
same_one_branch lanes new_branch new_branch = true
same_one_branch lanes new_split1 new_split1 = true
same_one_branch lanes new_split2 new_split2 = true
same_one_branch lanes (new_value l) (new_value k) = same_place lanes l k
same_one_branch lanes (new_out1 l) (new_out1 k) = same_place lanes l k
same_one_branch lanes (new_out2 l) (new_out2 k) = same_place lanes l k
same_one_branch lanes _ _ = false

pub same_one_branch_is : (lanes : List Shape) (a b : OneBranch lanes) → same_one_branch lanes a b ≡ true → a ≡ b
same_one_branch_is lanes new_condition new_condition e = refl
same_one_branch_is lanes new_fork new_fork e = refl
same_one_branch_is lanes new_passed new_passed e = refl
same_one_branch_is lanes new_join new_join e = refl
same_one_branch_is lanes new_branch new_branch e = refl
same_one_branch_is lanes new_split1 new_split1 e = refl
same_one_branch_is lanes new_split2 new_split2 e = refl
same_one_branch_is lanes (new_value l) (new_value k) e = λ i. new_value (same_place_is lanes l k e i)
same_one_branch_is lanes (new_out1 l) (new_out1 k) e = λ i. new_out1 (same_place_is lanes l k e i)
same_one_branch_is lanes (new_out2 l) (new_out2 k) e = λ i. new_out2 (same_place_is lanes l k e i)
same_one_branch_is lanes _ _ e = cc

pub same_one_branch_self : (lanes : List Shape) (a : OneBranch lanes) → same_one_branch lanes a a ≡ true
same_one_branch_self lanes new_condition = refl
same_one_branch_self lanes new_fork = refl
same_one_branch_self lanes new_passed = refl
same_one_branch_self lanes new_join = refl
same_one_branch_self lanes new_branch = refl
same_one_branch_self lanes new_split1 = refl
same_one_branch_self lanes new_split2 = refl
same_one_branch_self lanes (new_value l) = same_place_self lanes l
same_one_branch_self lanes (new_out1 l) = same_place_self lanes l
same_one_branch_self lanes (new_out2 l) = same_place_self lanes l

abbrev pub branches_plan : (lanes : List Shape) → Plan (Branches lanes)
branches_plan lanes =
    record { kind = branches_kind lanes; source = branches_source lanes; same = same_branches lanes; same_is = same_branches_is lanes; same_self = same_branches_self lanes }

abbrev pub one_branch_plan : (lanes : List Shape) → Plan (OneBranch lanes)
one_branch_plan lanes =
    record { kind = one_branch_kind lanes; source = one_branch_source lanes; same = same_one_branch lanes; same_is = same_one_branch_is lanes; same_self = same_one_branch_self lanes }

-- the two have the same names at their ends
pub record SameBranchEnds (lanes : List Shape) (new_names : Naming (OneBranch lanes)) (old_names : Naming (Branches lanes)) : Type 0 where
  pub condition_is : new_names.name new_condition ≡ old_names.name condition
  pub passed_is : new_names.name new_passed ≡ old_names.name passed
  pub value_is : (l : Place lanes) → new_names.name (new_value l) ≡ old_names.name (value l)
  pub out1_is : (l : Place lanes) → new_names.name (new_out1 l) ≡ old_names.name (out1 l)
  pub out2_is : (l : Place lanes) → new_names.name (new_out2 l) ≡ old_names.name (out2 l)
