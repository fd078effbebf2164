-- What an instance of the rule is, and what is read of its nodes.
use Rattle.std.proofs.Common.{◌≡◌, ◌≢◌, ℕ, zero, suc, ◌<◌, ◌^◌, Bool, true, length, List, [], ◌∷◌, Some, None, is_some, refl, sym, ap, subst, ◌∙◌, arith, true≢false}
use Rattle.std.specs.List.{AllByRecursion}
use Rattle.std.proofs.lemmas.List.{length-map}
use Rattle.components.specs.declared.kind.Kind.TheVariants as kind
use Rattle.components.specs.Name.{Name}
use Rattle.components.specs.Kind.{Shape}
use Rattle.components.specs.NamedGraph.{NamedGraph, HasAllowedNames}
use Rattle.circuits.specs.Circuit.{circuit_of}
use Rattle.circuits.specs.ReplacedGraph.{Matches}
use Rattle.circuit_plans.specs.Places.{Place, first, later, item, before}
use Rattle.lane_laws.specs.CombineBranches.{Branches, condition, fork, passed, value, branch, out1, out2, branches, OneBranch, new_condition, new_fork, new_passed, new_join, new_branch, new_split1, new_split2, new_value, new_out1, new_out2, one_branch, CanCombine}
use Rattle.subst_engine.specs.Prefix.{IsTaken, IsFreshPrefix}
use Rattle.subst_engine.specs.Rule.{NamedRule}
use Rattle.drawn_rules.specs.Labels.{AreFree, nth}
use Rattle.drawn_rules.specs.Listed.{IsNodeOf, AreNodes}
use Rattle.drawn_rules.specs.Placed.{is_inside, IsPlaced}
use Rattle.drawn_rules.proofs.Drawings.{matched, placed}
use Rattle.drawn_rules.proofs.GraphNodes.{are_free}
use Rattle.drawn_rules.proofs.PlacedAlike.{placed_alike}
use Rattle.mux_branch_rules.specs.BranchCombine.{branch_shape, lanes_of, old_name, new_name, branch_combine, IsBranchInstance, IsBranchCombine, HasBranchInstance, BranchCombineMatches}
use Rattle.mux_branch_rules.specs.BranchSides.{AreBranches, CanBranchSides}
use Rattle.mux_branch_rules.proofs.BranchLaws.BranchNodes.{old_in, new_in}
use Rattle.mux_branch_rules.proofs.BranchLaws.BranchMade.{old_once, new_once, old_targets}

pub lanes_long : (g : NamedGraph) (names : List Name) → length names ≡ length (lanes_of g names)
lanes_long g names = sym (length-map names (λ n. branch_shape ((circuit_of g).kind_at n)))

-- An instance is read

place_of : {A : Type 0} (xs : List A) (i : ℕ) → i < length xs → (l : Place xs) × (before xs l ≡ i)
place_of [] i h = absurd (omega (arith, h))
place_of (x ∷ xs) zero h = (first, refl)
place_of (x ∷ xs) (suc i) h = let (l, is) = place_of xs i (omega (arith, h)) in (later l, ap suc is)

all_nth : (P : Name → Type 0) (names : List Name) → ((i : ℕ) → i < length names → P (nth names i)) → AllByRecursion P names
all_nth P [] h = tt
all_nth P (n ∷ names) h = (h 0 (omega arith), all_nth P names (λ i lt. h (suc i) (omega (arith, lt))))

all_each : (P Q : Name → Type 0) → ((n : Name) → P n → Q n) → (names : List Name) → AllByRecursion P names → AllByRecursion Q names
all_each P Q f [] h = tt
all_each P Q f (n ∷ names) h = (f n h.0, all_each P Q f names h.1)

module _ (g : NamedGraph) (prefix ends : ℕ) (goes_back : Bool) (f : Name) (names : List Name) (h : IsBranchInstance g prefix ends goes_back f names) where
  abbrev lanes : List Shape
  lanes = lanes_of g names

  branch_there : (i : ℕ) → i < length names → (a : Shape) × ((circuit_of g).kind_at (nth names i) ≡ Some (kind.Branch a))
  branch_there i lt =
      let long = lanes_long g names in
      let found = place_of lanes i (omega (arith, lt, long)) in
      (item lanes found.0, ap (λ z. (circuit_of g).kind_at (nth names z)) (sym found.1) ∙ h.placed.kinds (branch found.0) refl)

  pub instance_branches : AreBranches g names
  instance_branches = all_nth (λ n. (a : Shape) × ((circuit_of g).kind_at n ≡ Some (kind.Branch a))) names branch_there

  fork_there : (circuit_of g).kind_at f ≡ Some ((branches lanes).kind fork)
  fork_there = h.placed.kinds fork refl

  pub fork_is_there : (circuit_of g).kind_at f ≢ None
  fork_is_there e = true≢false (ap is_some (sym fork_there ∙ e))

  pub instance_nodes : AreNodes g (f ∷ names)
  instance_nodes =
      record {
        differ = h.differ;
        nodes = (ap is_some fork_there, all_each (λ n. (a : Shape) × ((circuit_of g).kind_at n ≡ Some (kind.Branch a))) (IsNodeOf g) (λ n b. ap is_some b.1) names instance_branches);
      }

-- The graphs can be made

pub can_sides : (g : NamedGraph) → HasAllowedNames g → (prefix ends : ℕ) → prefix < 2 ^ 64 → ends < 2 ^ 64 → ¬ (IsTaken g ends) → (f : Name) (names : List Name) → AreNodes g (f ∷ names) → CanCombine (lanes_of g names) →
    CanBranchSides prefix ends f names (lanes_of g names)
can_sides g allowed prefix ends small few fresh f names nodes can =
    record { free = are_free g allowed ends fresh prefix small few (f ∷ names) nodes.differ nodes.nodes; long = lanes_long g names; can = can }

-- under equal names and with equal lanes
pub named_sides : (prefix ends : ℕ) (f n : Name) (names : List Name) (shapes same : List Shape) → n ≡ f → same ≡ shapes → CanBranchSides prefix ends f names shapes → CanBranchSides prefix ends n names same
named_sides prefix ends f n names shapes same is_f is_lanes h =
    subst (λ z. CanBranchSides prefix ends z names same) (sym is_f) (subst (λ z. CanBranchSides prefix ends f names z) (sym is_lanes) h)

-- Where the graphs match

module _ (g : NamedGraph) (prefix ends : ℕ) (goes_back : Bool) (f : Name) (names : List Name) (free : AreFree prefix ends (f ∷ names)) (can : CanCombine (lanes_of g names)) where
  abbrev all : List Shape
  all = lanes_of g names

  abbrev rule_here : NamedRule
  rule_here = branch_combine prefix ends (f ∷ names) goes_back all

  pub instance_matches : IsBranchInstance g prefix ends goes_back f names → Matches g rule_here.left rule_here.right
  instance_matches h =
      matched g (branches all) (old_name prefix ends (f ∷ names) all) (one_branch all) (new_name prefix ends (f ∷ names) goes_back all) (old_in all)
      (old_once prefix ends f names goes_back all free (lanes_long g names) can) (old_targets prefix ends f names goes_back all free (lanes_long g names) can) h.placed

  pub match_placed : Matches g rule_here.left rule_here.right → IsPlaced g (branches all) (old_name prefix ends (f ∷ names) all) (one_branch all) (new_name prefix ends (f ∷ names) goes_back all)
  match_placed m =
      placed g (branches all) (old_name prefix ends (f ∷ names) all) (one_branch all) (new_name prefix ends (f ∷ names) goes_back all) (old_in all)
      (old_once prefix ends f names goes_back all free (lanes_long g names) can) (old_targets prefix ends f names goes_back all free (lanes_long g names) can)
      (new_in all) (new_once prefix ends f names goes_back all free (lanes_long g names) can) m

-- the names of the Entries and the Exits are nothing to an instance
pub alike : (g : NamedGraph) (prefix ends other : ℕ) (goes_back : Bool) (f : Name) (names : List Name) → IsBranchInstance g prefix ends goes_back f names → IsBranchInstance g prefix other goes_back f names
alike g prefix ends other goes_back f names h =
    record {
      differ = h.differ;
      can = h.can;
      placed = placed_alike g (branches (lanes_of g names)) (old_name prefix ends (f ∷ names) (lanes_of g names)) (old_name prefix other (f ∷ names) (lanes_of g names))
          (one_branch (lanes_of g names)) (new_name prefix ends (f ∷ names) goes_back (lanes_of g names)) (new_name prefix other (f ∷ names) goes_back (lanes_of g names)) old_same new_same h.placed;
    }
  where
    old_same : (n : Branches (lanes_of g names)) → is_inside (branches (lanes_of g names)) n ≡ true → old_name prefix ends (f ∷ names) (lanes_of g names) n ≡ old_name prefix other (f ∷ names) (lanes_of g names) n
    old_same condition inside = absurd (true≢false (sym inside))
    old_same fork inside = refl
    old_same passed inside = absurd (true≢false (sym inside))
    old_same (value l) inside = absurd (true≢false (sym inside))
    old_same (branch l) inside = refl
    old_same (out1 l) inside = absurd (true≢false (sym inside))
    old_same (out2 l) inside = absurd (true≢false (sym inside))

    new_same : (n : OneBranch (lanes_of g names)) → is_inside (one_branch (lanes_of g names)) n ≡ true → new_name prefix ends (f ∷ names) goes_back (lanes_of g names) n ≡ new_name prefix other (f ∷ names) goes_back (lanes_of g names) n
    new_same new_condition inside = absurd (true≢false (sym inside))
    new_same new_fork inside = refl
    new_same new_passed inside = absurd (true≢false (sym inside))
    new_same new_join inside = refl
    new_same new_branch inside = refl
    new_same new_split1 inside = refl
    new_same new_split2 inside = refl
    new_same (new_value l) inside = absurd (true≢false (sym inside))
    new_same (new_out1 l) inside = absurd (true≢false (sym inside))
    new_same (new_out2 l) inside = absurd (true≢false (sym inside))

module _ (g : NamedGraph) (prefix ends : ℕ) (goes_back : Bool) (f : Name) (names : List Name) (fresh : IsFreshPrefix g ends) (nodes : AreNodes g (f ∷ names)) (sides : CanBranchSides prefix ends f names (lanes_of g names)) (rule : NamedRule)
    (is : rule ≡ branch_combine prefix ends (f ∷ names) goes_back (lanes_of g names)) where
  pub rule_at : Matches g rule.left rule.right → IsBranchCombine g prefix goes_back f names rule
  rule_at m =
      record {
        ends = ends;
        fresh = fresh;
        free = sides.free;
        at = record { differ = nodes.differ; can = sides.can; placed = match_placed g prefix ends goes_back f names sides.free sides.can (subst (λ (r : NamedRule). Matches g r.left r.right) is m) };
        is = is;
      }

  pub no_rule : ¬ (Matches g rule.left rule.right) → ¬ (HasBranchInstance g prefix goes_back f names)
  no_rule unmet (other, h) =
      unmet (subst (λ (r : NamedRule). Matches g r.left r.right) (sym is) (instance_matches g prefix ends goes_back f names sides.free sides.can (alike g prefix other ends goes_back f names h)))

-- The law

pub matches : BranchCombineMatches
matches g prefix goes_back f names rule typed h =
    subst (λ (r : NamedRule). Matches g r.left r.right) (sym h.is) (instance_matches g prefix h.ends goes_back f names h.free h.at.can h.at)
