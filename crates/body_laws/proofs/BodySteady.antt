-- the body with an Exit a leaving wire, and the body with a Join and Sinks behind it, are plans of steady nodes
use Rattle.std.proofs.Common.{ℕ, inr, refl, List, [], None}
use Rattle.body_laws.proofs.PartSteady.{part_val, SteadyTail, part_steady}
use Rattle.body_laws.proofs.SteadySteps.{SteadyPlan}
use Rattle.body_laws.proofs.SteadyStreams.{Fitting}
use Rattle.body_laws.specs.Bodies.{Body}
use Rattle.body_laws.specs.BodyPlans.{Part, enter, Way, way_shape, way_kind, way_source, same_way, same_way_is, same_way_self, body_plan}
use Rattle.body_laws.proofs.GoodBody.{TypedBody}
use Rattle.circuits.specs.PortTokens.{Token}
use Rattle.std.specs.List.{concat}

module _ (b : Body) (is_body : TypedBody b) where
  -- an Exit gives nothing
  abbrev pub no_val : List (List Token) → Way b → ℕ → Token
  no_val all w i = []

  abbrev pub body_val : Fitting (concat b.vars) → Part b (Way b) → ℕ → Token
  body_val = part_val b is_body (Way b) (way_kind b) (way_source b) (same_way b) (same_way_is b) (same_way_self b) no_val

  way_tail : SteadyTail b is_body (Way b) (way_kind b) (way_source b) (same_way b) (same_way_is b) (same_way_self b) no_val (λ w. 0) (λ i. None) 0
  way_tail =
      record {
        typed = is_body.typed;
        kinds = λ w. inr (way_shape b w, refl);
        agrees = λ x w h. absurd h;
        ranked = λ w h. absurd h;
        lower = λ w i q h f. absurd h;
      }

  pub body_steady : SteadyPlan (body_plan b) enter (concat b.vars) body_val
  body_steady = part_steady b is_body (Way b) (way_kind b) (way_source b) (same_way b) (same_way_is b) (same_way_self b) no_val (λ w. 0) (λ i. None) 0 way_tail
