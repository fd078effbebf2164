-- Where the two graphs match.
use Rattle.std.proofs.Common.{ℕ, map, sym, subst}
use Rattle.components.specs.Name.{Name}
use Rattle.components.specs.NamedGraph.{NamedGraph}
use Rattle.circuits.specs.ReplacedGraph.{Matches}
use Rattle.circuit_plans.specs.Drawing.{port_named}
use Rattle.body_laws.specs.BodyPlans.{body_plan}
use Rattle.subst_engine.specs.Making.{AllDiffer}
use Rattle.subst_engine.specs.Rule.{NamedRule}
use Rattle.drawn_rules.specs.Labels.{AreFree}
use Rattle.drawn_rules.specs.Placed.{IsPlaced}
use Rattle.drawn_rules.proofs.Drawings.{matched, placed}
use Rattle.drawn_rules.proofs.DrawnMade.{named_differ}
use Rattle.drawn_rules.proofs.Places.{rises_differ, counts_rise}
use Rattle.body_laws.specs.BodyPlans.{gathered_plan}
use Rattle.loop_body.specs.Body.{Body, IsBody}
use Rattle.loop_body.specs.BodyFunction.{body_function}
use Rattle.gather_rule.specs.NumberedBody.{numbered}
use Rattle.gather_rule.specs.GatherGraphs.{body_list, body_drawing, gathered_list, gathered_drawing}
use Rattle.gather_rule.specs.Gather.{old_name, new_name, listed_names, gather, CanGather}
use Rattle.gather_rule.specs.GatherInstance.{GatherMatches}
use Rattle.gather_rule.proofs.PlanDrawn.{differ_all}
use Rattle.gather_rule.proofs.GatherNodes.{old_in, new_in, old_place, new_place, old_total, new_total, old_counted, new_counted}
use Rattle.gather_rule.proofs.GatherSound.{old, fresh, old_once, new_once}

module _ (b : Body) (h : IsBody b) (can : CanGather b) (prefix ends : ℕ) (split : Name) (free : AreFree prefix ends (listed_names split b)) where
  pub old_targets : AllDiffer (map (port_named (old b h can prefix ends split free)) (map (λ w. w.target) (body_drawing (numbered b)).wires))
  old_targets =
      named_differ (old b h can prefix ends split free) (body_list (numbered b)) (old_in (numbered b)) (old_once b h can prefix ends split free) (map (λ w. w.target) (body_drawing (numbered b)).wires)
      (differ_all (body_plan (numbered b)) (body_list (numbered b))
      (rises_differ (old_place (numbered b)) 0 (old_total (numbered b)) (body_list (numbered b)) (counts_rise (old_place (numbered b)) 0 (old_total (numbered b)) (body_list (numbered b)) (old_counted (numbered b)))))

  pub new_targets : AllDiffer (map (port_named (fresh b h can prefix ends split free)) (map (λ w. w.target) (gathered_drawing (numbered b) (body_function b)).wires))
  new_targets =
      named_differ (fresh b h can prefix ends split free) (gathered_list (numbered b)) (new_in (numbered b)) (new_once b h can prefix ends split free) (map (λ w. w.target) (gathered_drawing (numbered b) (body_function b)).wires)
      (differ_all (gathered_plan (numbered b) (body_function b)) (gathered_list (numbered b))
      (rises_differ (new_place (numbered b)) 0 (new_total (numbered b)) (gathered_list (numbered b)) (counts_rise (new_place (numbered b)) 0 (new_total (numbered b)) (gathered_list (numbered b)) (new_counted (numbered b)))))

  abbrev pub Placed : NamedGraph → Type 0
  Placed g = IsPlaced g (body_drawing (numbered b)) (old_name prefix ends (listed_names split b) (numbered b)) (gathered_drawing (numbered b) (body_function b)) (new_name prefix ends (listed_names split b) (numbered b))

  module _ (g : NamedGraph) where
    pub placed_matches : Placed g → Matches g (gather prefix ends split b).left (gather prefix ends split b).right
    placed_matches is_placed =
        matched g (body_drawing (numbered b)) (old b h can prefix ends split free) (gathered_drawing (numbered b) (body_function b)) (fresh b h can prefix ends split free) (old_in (numbered b))
        (old_once b h can prefix ends split free) old_targets is_placed

    pub match_placed : Matches g (gather prefix ends split b).left (gather prefix ends split b).right → Placed g
    match_placed m =
        placed g (body_drawing (numbered b)) (old b h can prefix ends split free) (gathered_drawing (numbered b) (body_function b)) (fresh b h can prefix ends split free) (old_in (numbered b))
        (old_once b h can prefix ends split free) old_targets (new_in (numbered b)) (new_once b h can prefix ends split free) m

pub matches : GatherMatches
matches g prefix split names branches mark made h =
    subst (λ (r : NamedRule). Matches g r.left r.right) (sym h.is)
    (placed_matches made.body h.at.body h.at.can prefix h.ends split h.free g h.at.placed)
