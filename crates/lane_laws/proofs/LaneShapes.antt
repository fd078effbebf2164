-- Shapes of lanes and of a condition may stand in a graph.
use Rattle.std.proofs.Common.{◌≤◌, List, [], ◌∷◌, All, arith}
use Rattle.std.proofs.lemmas.List.Elements.{All-cons, All-nil, All-head, All-tail}
use Rattle.port_types.specs.Shape.{IsShape}
use Rattle.components.specs.Kind.{Shape, field}
use Rattle.circuit_plans.specs.Places.{Place, first, later, item}

pub bit_is_shape : IsShape (field 1)
bit_is_shape = record { some = omega arith; few = omega arith; narrow = All-cons (λ w. w ≤ 64) 1 [] (omega arith) (All-nil (λ w. w ≤ 64)) }

pub item_shape : (lanes : List Shape) → All IsShape lanes → (l : Place lanes) → IsShape (item lanes l)
item_shape [] h l = elim l [ ]
item_shape (a ∷ lanes) h first = All-head IsShape a lanes h
item_shape (a ∷ lanes) h (later l) = item_shape lanes (All-tail IsShape a lanes h) l
