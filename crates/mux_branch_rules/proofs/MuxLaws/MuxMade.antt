-- The two graphs can be made.
use Rattle.std.proofs.Common.{◌≡◌, ℕ, ◌+◌, Bool, true, false, length, map, List, ◌∙◌}
use Rattle.components.specs.declared.kind.Kind.{Kind}
use Rattle.components.specs.declared.node.Node.{Node}
use Rattle.components.specs.Name.{Name}
use Rattle.components.specs.Kind.{Shape}
use Rattle.graph_core.specs.declared.exchange.End.{End}
use Rattle.circuit_plans.specs.Drawing.{port_named}
use Rattle.lane_laws.specs.CombineMuxes.{Tree, muxes, muxes_graph, one_mux, one_mux_nodes, one_mux_wires, one_mux_graph, CanCombineMuxes}
use Rattle.lane_laws.specs.Laws.{CombiningMuxesIsRule}
use Rattle.subst_engine.specs.Making.{AllDiffer, CanMake, rule_graph}
use Rattle.drawn_rules.specs.Labels.{AreFree}
use Rattle.drawn_rules.proofs.DrawnMade.{rising_targets}
use Rattle.drawn_rules.proofs.Labelled as labelled
use Rattle.mux_branch_rules.specs.declared.mux_tree.Source.{Source}
use Rattle.mux_branch_rules.specs.MuxCombine.{mux_old_label, mux_new_label, mux_old_name, mux_new_name}
use Rattle.mux_branch_rules.specs.MuxSides.{HasSources, mux_old_list, mux_new_list, mux_old_ends, mux_new_ends}
use Rattle.mux_branch_rules.proofs.MuxLaws.MuxNodes.{old_rank, new_rank, old_in, new_in, old_total, new_total, old_counted, new_counted, old_fits, new_fits}
use Rattle.mux_branch_rules.proofs.MuxLaws.MuxLists.{old_nodes_are, new_nodes_are}
use Rattle.mux_branch_rules.proofs.MuxLaws.MuxWires.{old_ends_are, new_ends_are, new_rank_in, new_top, new_rises}
use Rattle.mux_branch_rules.proofs.MuxLaws.MuxSound.{new_once, names_ok, old_targets}

module _ (prefix ends : ℕ) (names : List Name) (goes_back : Bool) (kinds : List Kind) (lanes : List Shape) (tree : Tree kinds lanes) (free : AreFree prefix ends names) (long : length names ≡ length kinds + length lanes)
    (can : CanCombineMuxes kinds lanes) (law : CombiningMuxesIsRule) (nodes : List Node) (wires : List (End × End)) where
  new_targets : AllDiffer (map (port_named (mux_new_name prefix ends names goes_back lanes)) (map (λ w. w.target) (one_mux_wires lanes)))
  new_targets =
      rising_targets (mux_new_name prefix ends names goes_back lanes) (one_mux_nodes lanes) (new_in kinds lanes) (new_once prefix ends names goes_back kinds lanes tree free long can)
      (λ p. new_rank_in kinds lanes p.at p.port) 0 (new_top kinds lanes) (one_mux_wires lanes) (new_rises kinds lanes)

  module _ (sources : List Source) (has : HasSources tree sources) (is_nodes : nodes ≡ mux_old_list ends names kinds lanes) (is_wires : wires ≡ mux_old_ends (length kinds) (length lanes) sources) where
    pub can_left : CanMake nodes wires
    can_left =
        labelled.made (muxes kinds lanes tree) (mux_old_label kinds lanes) true prefix ends names free (old_in kinds lanes) (old_fits kinds lanes names long can.parts.count.1)
        (old_rank (length kinds) (length lanes)) (old_total kinds lanes) (old_counted kinds lanes)
        nodes wires (is_nodes ∙ old_nodes_are prefix ends names kinds lanes long tree) (is_wires ∙ old_ends_are kinds lanes tree sources has)
        (law kinds lanes tree (mux_old_name prefix ends names kinds lanes) (mux_new_name prefix ends names goes_back lanes) can (names_ok prefix ends names goes_back kinds lanes tree free long can)).old_typed
        (old_targets prefix ends names goes_back kinds lanes tree free long can)

    pub left_is : rule_graph nodes wires ≡ muxes_graph kinds lanes tree (mux_old_name prefix ends names kinds lanes)
    left_is =
        labelled.is_drawn (muxes kinds lanes tree) (mux_old_label kinds lanes) true prefix ends names free (old_in kinds lanes) (old_fits kinds lanes names long can.parts.count.1)
        (old_rank (length kinds) (length lanes)) (old_total kinds lanes) (old_counted kinds lanes)
        nodes wires (is_nodes ∙ old_nodes_are prefix ends names kinds lanes long tree) (is_wires ∙ old_ends_are kinds lanes tree sources has)
        (law kinds lanes tree (mux_old_name prefix ends names kinds lanes) (mux_new_name prefix ends names goes_back lanes) can (names_ok prefix ends names goes_back kinds lanes tree free long can)).old_typed
        (old_targets prefix ends names goes_back kinds lanes tree free long can)

  module _ (is_nodes : nodes ≡ mux_new_list prefix ends goes_back lanes) (is_wires : wires ≡ mux_new_ends (length lanes)) where
    pub can_right : CanMake nodes wires
    can_right =
        labelled.made (one_mux lanes) (mux_new_label goes_back lanes) false prefix ends names free (new_in kinds lanes) (new_fits kinds lanes names long can.parts.count.1 goes_back)
        (new_rank goes_back (length lanes)) (new_total kinds lanes) (new_counted kinds lanes goes_back)
        nodes wires (is_nodes ∙ new_nodes_are prefix ends names kinds lanes goes_back) (is_wires ∙ new_ends_are kinds lanes goes_back)
        (law kinds lanes tree (mux_old_name prefix ends names kinds lanes) (mux_new_name prefix ends names goes_back lanes) can (names_ok prefix ends names goes_back kinds lanes tree free long can)).new_typed new_targets

    pub right_is : rule_graph nodes wires ≡ one_mux_graph lanes (mux_new_name prefix ends names goes_back lanes)
    right_is =
        labelled.is_drawn (one_mux lanes) (mux_new_label goes_back lanes) false prefix ends names free (new_in kinds lanes) (new_fits kinds lanes names long can.parts.count.1 goes_back)
        (new_rank goes_back (length lanes)) (new_total kinds lanes) (new_counted kinds lanes goes_back)
        nodes wires (is_nodes ∙ new_nodes_are prefix ends names kinds lanes goes_back) (is_wires ∙ new_ends_are kinds lanes goes_back)
        (law kinds lanes tree (mux_old_name prefix ends names kinds lanes) (mux_new_name prefix ends names goes_back lanes) can (names_ok prefix ends names goes_back kinds lanes tree free long can)).new_typed new_targets
