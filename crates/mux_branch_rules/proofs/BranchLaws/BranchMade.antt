-- The two graphs can be made, and are a rule.
use Rattle.std.proofs.Common.{◌≡◌, ℕ, suc, ◌≤◌, Bool, true, false, length, map, List, [], ◌∷◌, refl, ◌∙◌, arith}
use Rattle.components.specs.declared.node.Node.{Node}
use Rattle.components.specs.Name.{Name}
use Rattle.components.specs.Kind.{Shape}
use Rattle.graph_core.specs.declared.exchange.End.{End}
use Rattle.circuits.specs.Replacing.{NoneTwice}
use Rattle.circuit_plans.specs.Drawing.{port_named}
use Rattle.lane_laws.specs.CombineBranches.{branches, branches_nodes, branches_wires, branches_graph, one_branch, one_branch_nodes, one_branch_wires, one_branch_graph, CanCombine, BranchNames}
use Rattle.lane_laws.specs.Laws.{CombiningBranchesIsRule, CombinedBranchesRefine}
use Rattle.subst_engine.specs.Making.{AllDiffer, CanMake, rule_graph}
use Rattle.drawn_rules.specs.Labels.{AreFree}
use Rattle.drawn_rules.proofs.DrawnMade.{rising_targets}
use Rattle.drawn_rules.proofs.Labelled as labelled
use Rattle.mux_branch_rules.specs.BranchCombine.{old_label, new_label, old_name, new_name, BranchCombineIsSound}
use Rattle.mux_branch_rules.specs.BranchSides.{old_list, new_list, old_ends, new_ends}
use Rattle.mux_branch_rules.proofs.BranchLaws.BranchNodes.{old_rank, new_rank, old_in, new_in, old_total, new_total, old_counted, new_counted, old_fits, new_fits, old_nodes_are, new_nodes_are}
use Rattle.mux_branch_rules.proofs.BranchLaws.BranchWires.{old_rank_in, new_rank_in, old_top, new_top, old_rises, new_rises, old_ends_are, new_ends_are}

pub few_lanes : (lanes : List Shape) → CanCombine lanes → length lanes ≤ 63
few_lanes lanes can = let h = can.few in omega (arith, h)

module _ (prefix ends : ℕ) (f : Name) (names : List Name) (goes_back : Bool) (lanes : List Shape) (free : AreFree prefix ends (f ∷ names)) (long : length names ≡ length lanes) (can : CanCombine lanes) where
  pub old_once : NoneTwice (map (old_name prefix ends (f ∷ names) lanes) (branches_nodes lanes))
  old_once = labelled.once (branches lanes) (old_label lanes) true prefix ends (f ∷ names) free (old_in lanes) (old_fits lanes f names long (few_lanes lanes can)) (old_rank (length lanes)) (old_total lanes) (old_counted lanes)

  pub new_once : NoneTwice (map (new_name prefix ends (f ∷ names) goes_back lanes) (one_branch_nodes lanes))
  new_once =
      labelled.once (one_branch lanes) (new_label goes_back lanes) false prefix ends (f ∷ names) free (new_in lanes) (new_fits lanes f names long (few_lanes lanes can) goes_back)
      (new_rank goes_back (length lanes)) (new_total lanes) (new_counted lanes goes_back)

  pub names_ok : BranchNames lanes (old_name prefix ends (f ∷ names) lanes) (new_name prefix ends (f ∷ names) goes_back lanes)
  names_ok =
      record {
        old_names = old_once;
        new_names = new_once;
        same_condition = refl;
        same_passed = refl;
        same_values = λ l. refl;
        same_outs1 = λ l. refl;
        same_outs2 = λ l. refl;
      }

  pub old_targets : AllDiffer (map (port_named (old_name prefix ends (f ∷ names) lanes)) (map (λ w. w.target) (branches_wires lanes)))
  old_targets =
      rising_targets (old_name prefix ends (f ∷ names) lanes) (branches_nodes lanes) (old_in lanes) old_once (λ p. old_rank_in lanes p.at p.port) 0 (old_top lanes) (branches_wires lanes) (old_rises lanes)

  new_targets : AllDiffer (map (port_named (new_name prefix ends (f ∷ names) goes_back lanes)) (map (λ w. w.target) (one_branch_wires lanes)))
  new_targets =
      rising_targets (new_name prefix ends (f ∷ names) goes_back lanes) (one_branch_nodes lanes) (new_in lanes) new_once (λ p. new_rank_in lanes p.at p.port) 0 (new_top lanes) (one_branch_wires lanes) (new_rises lanes)

  module _ (law : CombiningBranchesIsRule) (nodes : List Node) (wires : List (End × End)) where
    module _ (is_nodes : nodes ≡ old_list ends f names lanes) (is_wires : wires ≡ old_ends (length lanes)) where
      pub can_left : CanMake nodes wires
      can_left =
          labelled.made (branches lanes) (old_label lanes) true prefix ends (f ∷ names) free (old_in lanes) (old_fits lanes f names long (few_lanes lanes can)) (old_rank (length lanes)) (old_total lanes) (old_counted lanes)
          nodes wires (is_nodes ∙ old_nodes_are prefix ends f names lanes long) (is_wires ∙ old_ends_are lanes)
          (law lanes (old_name prefix ends (f ∷ names) lanes) (new_name prefix ends (f ∷ names) goes_back lanes) can names_ok).old_typed old_targets

      pub left_is : rule_graph nodes wires ≡ branches_graph lanes (old_name prefix ends (f ∷ names) lanes)
      left_is =
          labelled.is_drawn (branches lanes) (old_label lanes) true prefix ends (f ∷ names) free (old_in lanes) (old_fits lanes f names long (few_lanes lanes can)) (old_rank (length lanes)) (old_total lanes) (old_counted lanes)
          nodes wires (is_nodes ∙ old_nodes_are prefix ends f names lanes long) (is_wires ∙ old_ends_are lanes)
          (law lanes (old_name prefix ends (f ∷ names) lanes) (new_name prefix ends (f ∷ names) goes_back lanes) can names_ok).old_typed old_targets

    module _ (is_nodes : nodes ≡ new_list prefix ends goes_back lanes) (is_wires : wires ≡ new_ends (length lanes)) where
      pub can_right : CanMake nodes wires
      can_right =
          labelled.made (one_branch lanes) (new_label goes_back lanes) false prefix ends (f ∷ names) free (new_in lanes) (new_fits lanes f names long (few_lanes lanes can) goes_back) (new_rank goes_back (length lanes)) (new_total lanes) (new_counted lanes goes_back)
          nodes wires (is_nodes ∙ new_nodes_are prefix ends f names lanes goes_back) (is_wires ∙ new_ends_are lanes goes_back)
          (law lanes (old_name prefix ends (f ∷ names) lanes) (new_name prefix ends (f ∷ names) goes_back lanes) can names_ok).new_typed new_targets

      pub right_is : rule_graph nodes wires ≡ one_branch_graph lanes (new_name prefix ends (f ∷ names) goes_back lanes)
      right_is =
          labelled.is_drawn (one_branch lanes) (new_label goes_back lanes) false prefix ends (f ∷ names) free (new_in lanes) (new_fits lanes f names long (few_lanes lanes can) goes_back) (new_rank goes_back (length lanes)) (new_total lanes) (new_counted lanes goes_back)
          nodes wires (is_nodes ∙ new_nodes_are prefix ends f names lanes goes_back) (is_wires ∙ new_ends_are lanes goes_back)
          (law lanes (old_name prefix ends (f ∷ names) lanes) (new_name prefix ends (f ∷ names) goes_back lanes) can names_ok).new_typed new_targets

one_less : (m n : ℕ) → suc m ≡ suc n → m ≡ n
one_less m n e = omega (arith, e)

-- the rule meets what a rule owes
pub sound : CombiningBranchesIsRule → CombinedBranchesRefine → BranchCombineIsSound
sound rule refines prefix ends [] goes_back lanes free long can = absurd (omega (arith, long))
sound rule refines prefix ends (f ∷ names) goes_back lanes free long can =
    let named = names_ok prefix ends f names goes_back lanes free (one_less (length names) (length lanes) long) can in
    record {
      is_rule = rule lanes (old_name prefix ends (f ∷ names) lanes) (new_name prefix ends (f ∷ names) goes_back lanes) can named;
      refines = refines lanes (old_name prefix ends (f ∷ names) lanes) (new_name prefix ends (f ∷ names) goes_back lanes) can named;
    }
