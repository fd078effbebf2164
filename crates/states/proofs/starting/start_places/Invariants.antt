use Rattle.std.proofs.Common.{◌≡◌, ◌<◌, ℕ, length, slice_index_or}
use Rattle.graph_core.specs.Place.{id_of}
use Rattle.states.specs.Place.{PlaceValue}
use Rattle.states.specs.Starting.{IsHeldAt}
use Rattle.states.proofs.starting.start_places.Given as goal

abbrev pub invariant-loop-index : goal.invariant-loop-index
invariant-loop-index l = record {
  count : length l.places.items ≡ l.index;
  held : (i : ℕ) (place : PlaceValue) → i < l.index → IsHeldAt l.g (id_of i) (slice_index_or l.places.items i place);
}
