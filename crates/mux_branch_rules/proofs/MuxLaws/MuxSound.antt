-- The rules meet what a rule owes, and match at an instance.
use Rattle.std.proofs.Common.{◌≡◌, ℕ, ◌+◌, Bool, true, false, length, map, List, sym, refl, subst}
use Rattle.components.specs.declared.kind.Kind.{Kind}
use Rattle.components.specs.Name.{Name}
use Rattle.components.specs.Kind.{Shape}
use Rattle.circuits.specs.Replacing.{NoneTwice}
use Rattle.circuits.specs.ReplacedGraph.{Matches}
use Rattle.circuit_plans.specs.Drawing.{port_named}
use Rattle.lane_laws.specs.CombineMuxes.{Tree, muxes, muxes_nodes, muxes_wires, one_mux, one_mux_nodes, CanCombineMuxes, MuxNames}
use Rattle.lane_laws.specs.Laws.{CombiningMuxesIsRule, CombinedMuxesRefine}
use Rattle.subst_engine.specs.Making.{AllDiffer}
use Rattle.subst_engine.specs.Rule.{NamedRule}
use Rattle.drawn_rules.specs.Labels.{AreFree}
use Rattle.drawn_rules.proofs.DrawnMade.{rising_targets}
use Rattle.drawn_rules.proofs.Drawings.{matched}
use Rattle.drawn_rules.proofs.Labelled as labelled
use Rattle.mux_branch_rules.specs.MuxCombine.{mux_old_label, mux_new_label, mux_old_name, mux_new_name, MuxCombineIsSound, MuxCombineMatches}
use Rattle.mux_branch_rules.proofs.MuxLaws.MuxNodes.{old_rank, new_rank, old_in, new_in, old_total, new_total, old_counted, new_counted, old_fits, new_fits, rank_in, top, rises}

module _ (prefix ends : ℕ) (names : List Name) (goes_back : Bool) (kinds : List Kind) (lanes : List Shape) (tree : Tree kinds lanes) (free : AreFree prefix ends names) (long : length names ≡ length kinds + length lanes) (can : CanCombineMuxes kinds lanes) where
  pub old_once : NoneTwice (map (mux_old_name prefix ends names kinds lanes) (muxes_nodes kinds lanes))
  old_once =
      labelled.once (muxes kinds lanes tree) (mux_old_label kinds lanes) true prefix ends names free (old_in kinds lanes) (old_fits kinds lanes names long can.parts.count.1)
      (old_rank (length kinds) (length lanes)) (old_total kinds lanes) (old_counted kinds lanes)

  pub new_once : NoneTwice (map (mux_new_name prefix ends names goes_back lanes) (one_mux_nodes lanes))
  new_once =
      labelled.once (one_mux lanes) (mux_new_label goes_back lanes) false prefix ends names free (new_in kinds lanes) (new_fits kinds lanes names long can.parts.count.1 goes_back)
      (new_rank goes_back (length lanes)) (new_total kinds lanes) (new_counted kinds lanes goes_back)

  pub names_ok : MuxNames kinds lanes (mux_old_name prefix ends names kinds lanes) (mux_new_name prefix ends names goes_back lanes)
  names_ok = record { old_names = old_once; new_names = new_once; same_choice = refl; same_values2 = λ l. refl; same_values3 = λ l. refl; same_outs = λ l. refl }

  pub old_targets : AllDiffer (map (port_named (mux_old_name prefix ends names kinds lanes)) (map (λ w. w.target) (muxes_wires kinds lanes tree)))
  old_targets =
      rising_targets (mux_old_name prefix ends names kinds lanes) (muxes_nodes kinds lanes) (old_in kinds lanes) old_once (λ p. rank_in kinds lanes p.at p.port) 0 (top kinds lanes) (muxes_wires kinds lanes tree) (rises kinds lanes tree)

pub sound : CombiningMuxesIsRule → CombinedMuxesRefine → MuxCombineIsSound
sound rule refines prefix ends names goes_back kinds lanes tree free long can =
    let named = names_ok prefix ends names goes_back kinds lanes tree free long can in
    record {
      is_rule = rule kinds lanes tree (mux_old_name prefix ends names kinds lanes) (mux_new_name prefix ends names goes_back lanes) can named;
      refines = refines kinds lanes tree (mux_old_name prefix ends names kinds lanes) (mux_new_name prefix ends names goes_back lanes) can named;
    }

pub matches : MuxCombineMatches
matches g prefix goes_back names rule h =
    subst (λ (r : NamedRule). Matches g r.left r.right) (sym h.is)
    (matched g (muxes h.kinds h.lanes h.tree) (mux_old_name prefix h.ends names h.kinds h.lanes) (one_mux h.lanes) (mux_new_name prefix h.ends names goes_back h.lanes) (old_in h.kinds h.lanes)
    (old_once prefix h.ends names goes_back h.kinds h.lanes h.tree h.free h.at.long h.at.can) (old_targets prefix h.ends names goes_back h.kinds h.lanes h.tree h.free h.at.long h.at.can) h.at.placed)
