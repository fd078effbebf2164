-- A Fork with a Sink at one of its outputs, and the Fork of the other outputs, as plans.
use Rattle.std.proofs.Common.{◌≡◌, ℕ, zero, suc, Bool, true, false, Option, None, refl, replicate}
use Rattle.components.specs.Kind.{Shape}
use Rattle.circuit_plans.specs.Plans.{Out, Plan, Naming, from}
use Rattle.circuit_plans.specs.Places.{number, same_place, same_place_is, same_place_self}
use Rattle.lane_laws.specs.TrimFork.{Output, other_than, Untrimmed, entry, fork, sink, exit, Trimmed, new_entry, new_fork, new_exit, untrimmed_kind, trimmed_kind}

-- the Sink is fed by output s of the Fork
abbrev pub untrimmed_source : (a : Shape) (others : ℕ) → Output a (suc others) → Untrimmed a others → ℕ → Option (Out (Untrimmed a others))
untrimmed_source a others s fork (suc zero) = from entry 1
untrimmed_source a others s sink (suc zero) = from fork (number (replicate (suc others) a) s)
untrimmed_source a others s (exit l) (suc zero) = from fork (number (replicate (suc others) a) (other_than a others s l))
untrimmed_source a others s _ _ = None

abbrev pub trimmed_source : (a : Shape) (others : ℕ) → Trimmed a others → ℕ → Option (Out (Trimmed a others))
trimmed_source a others new_fork (suc zero) = from new_entry 1
trimmed_source a others (new_exit l) (suc zero) = from new_fork (number (replicate others a) l)
trimmed_source a others _ _ = None

abbrev pub same_untrimmed : (a : Shape) (others : ℕ) → Untrimmed a others → Untrimmed a others → Bool
same_untrimmed a others entry entry = true
same_untrimmed a others fork fork = true
same_untrimmed a others sink sink = true
same_untrimmed a others (exit l) (exit k) = same_place (replicate others a) l k
same_untrimmed a others _ _ = false

pub same_untrimmed_is : (a : Shape) (others : ℕ) (m n : Untrimmed a others) → same_untrimmed a others m n ≡ true → m ≡ n
same_untrimmed_is a others entry entry e = refl
same_untrimmed_is a others fork fork e = refl
same_untrimmed_is a others sink sink e = refl
same_untrimmed_is a others (exit l) (exit k) e = λ i. exit (same_place_is (replicate others a) l k e i)
same_untrimmed_is a others _ _ e = cc

pub same_untrimmed_self : (a : Shape) (others : ℕ) (n : Untrimmed a others) → same_untrimmed a others n n ≡ true
same_untrimmed_self a others entry = refl
same_untrimmed_self a others fork = refl
same_untrimmed_self a others sink = refl
same_untrimmed_self a others (exit l) = same_place_self (replicate others a) l

abbrev pub same_trimmed : (a : Shape) (others : ℕ) → Trimmed a others → Trimmed a others → Bool
same_trimmed a others new_entry new_entry = true
same_trimmed a others new_fork new_fork = true
same_trimmed a others (new_exit l) (new_exit k) = same_place (replicate others a) l k
same_trimmed a others _ _ = false

pub same_trimmed_is : (a : Shape) (others : ℕ) (m n : Trimmed a others) → same_trimmed a others m n ≡ true → m ≡ n
same_trimmed_is a others new_entry new_entry e = refl
same_trimmed_is a others new_fork new_fork e = refl
same_trimmed_is a others (new_exit l) (new_exit k) e = λ i. new_exit (same_place_is (replicate others a) l k e i)
same_trimmed_is a others _ _ e = cc

pub same_trimmed_self : (a : Shape) (others : ℕ) (n : Trimmed a others) → same_trimmed a others n n ≡ true
same_trimmed_self a others new_entry = refl
same_trimmed_self a others new_fork = refl
same_trimmed_self a others (new_exit l) = same_place_self (replicate others a) l

abbrev pub untrimmed_plan : (a : Shape) (others : ℕ) → Output a (suc others) → Plan (Untrimmed a others)
untrimmed_plan a others s =
    record { kind = untrimmed_kind a others; source = untrimmed_source a others s; same = same_untrimmed a others; same_is = same_untrimmed_is a others; same_self = same_untrimmed_self a others }

abbrev pub trimmed_plan : (a : Shape) (others : ℕ) → Plan (Trimmed a others)
trimmed_plan a others =
    record { kind = trimmed_kind a others; source = trimmed_source a others; same = same_trimmed a others; same_is = same_trimmed_is a others; same_self = same_trimmed_self a others }

-- the two have the same names at their ends
pub record SameForkEnds (a : Shape) (others : ℕ) (new_names : Naming (Trimmed a others)) (old_names : Naming (Untrimmed a others)) : Type 0 where
  pub entry_is : new_names.name new_entry ≡ old_names.name entry
  pub exit_is : (l : Output a others) → new_names.name (new_exit l) ≡ old_names.name (exit l)
