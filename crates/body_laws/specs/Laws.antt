-- What is proved about bodies as parts of circuits.
use Rattle.components.specs.Kind.{KindOk}
use Rattle.fun_expr.specs.Function.{Function}
use Rattle.circuits.specs.Refines.{Refines}
use Rattle.circuit_plans.specs.Plans.{Out, Naming, built}
use Rattle.body_laws.specs.Bodies.{Body, IsFunctionOf, OneRoot}
use Rattle.body_laws.specs.BodyPlans.{TypedBody, Part, Way, body_plan, Gathered, gathered_kind, gathered_plan, GatherEnds}
use Rattle.std.specs.Prelude.{ℕ}

-- One Pure with the function of a body, behind it two Splits and a Fork, shows nothing that the body does not show, whatever the names of inner nodes are;
-- where the new nodes meet their rows of the table.
abbrev pub GatherRefines : Type 0
GatherRefines = (b : Body) (f : Function) (root : Out ℕ) (new : Naming (Gathered b)) (old : Naming (Part b (Way b))) →
    TypedBody b → IsFunctionOf f b → OneRoot b root → ((n : Gathered b) → KindOk (gathered_kind b f n)) → GatherEnds b new old →
    Refines (built (gathered_plan b f) new) (built (body_plan b) old)
