-- With no circuit around it: what refines another shows nothing that the other does not.
use Rattle.std.proofs.Common.{◌≡◌, List, [], Some, None}
use Rattle.circuits.specs.Circuit.{Circuit, Typed}
use Rattle.circuits.specs.Run.{Move, Shows}
use Rattle.circuits.specs.Plug.{CanPlug}
use Rattle.circuits.specs.Refines.{Refines}

empty : Circuit
empty = record { kind_at = λ n. None; feeder = λ p. None }

empty_typed : Typed empty
unfolding empty
empty_typed =
    record {
      kinds = λ n k e. let z : None ≡ Some k = e in cc;
      wires = λ p q e. let z : None ≡ Some q = e in cc;
      inputs = λ p k a e f. let z : None ≡ Some k = e in cc;
      outputs = λ q k a e f. let z : None ≡ Some k = e in cc;
      once = λ p r q e f. let z : None ≡ Some q = e in cc;
      names = (0, λ n k e. let z : None ≡ Some k = e in cc);
    }

empty_can : (g : Circuit) → CanPlug empty [] g
unfolding empty
empty_can g = record { apart = λ n k m e f. let z : None ≡ Some k = e in cc; joins = tt; once = tt }

pub alone : (h g : Circuit) → Refines h g → (tr : List Move) → Shows h tr → Shows g tr
unfolding empty
alone h g r tr sh = r.shows empty [] tr empty_typed (empty_can h) (empty_can g) sh
