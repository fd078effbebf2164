-- A node gives at its outputs, of which there are few.
use Rattle.std.proofs.Common.{◌≡◌, ℕ, zero, suc, ◌≤◌, List, [], ◌∷◌, length, Option, Some, None, drop, refl, sym, subst, ap, arith}
use Rattle.std.specs.Prelude.{IsSome}
use Rattle.std.specs.FinMap as finite
use Rattle.std.proofs.lemmas.Bool.{false≢true}
use Rattle.std.proofs.lemmas.List.{length-map, length-replicate}
use Rattle.components.specs.declared.kind.Kind.{Kind}
use Rattle.components.specs.declared.kind.Kind.TheVariants.{Entry, Exit, Buffer, Fork, Join, Split, Operator, Constant, Source0, Sink0, Pure, Mux, Branch, Merge, CtrlMerge, Init, Tagger}
use Rattle.components.specs.Kind.{KindOk, Shape, outs}
use Rattle.components.specs.Name.{port_get}
use Rattle.components.specs.Numbered.{there}
use Rattle.circuits.specs.Circuit.{circuit_of}
use Rattle.circuits.specs.PortTokens.{Token}
use Rattle.circuits.specs.CircuitState.{Slot}
use Rattle.graph_core.specs.declared.place.NodeId.{NodeId}
use Rattle.graph_core.specs.GraphValue.{GraphValue, IsGraph, name_by}
use Rattle.states.specs.declared.taking.Taking.{Taking}
use Rattle.states.specs.Fired.{CanSettle}
use Rattle.states.specs.Giving.{branch_by, cut_parts, given_of, head_of, oldest_given, result_given}
use Rattle.states.specs.GraphState.{IsStateIn, Places, place_at}
use Rattle.states.specs.Place.{PlaceValue, queue_at}
use Rattle.states.specs.Taking.{IsWithin}
use Rattle.states.proofs.EndSteps.{has_output}

few_outs : (kind : Kind) → KindOk kind → length (outs kind) ≤ 64
few_outs (Entry shape) ok = omega arith
few_outs (Exit shape) ok = omega arith
few_outs (Buffer shape) ok = omega arith
few_outs (Fork shape count) ok = omega (arith, length-replicate count shape, ok.1.1)
few_outs (Join shapes) ok = omega arith
few_outs (Split shapes) ok = ok.count.1
few_outs (Operator op widths width) ok = omega arith
few_outs (Constant shape width value) ok = omega arith
few_outs (Source0 shape) ok = omega arith
few_outs (Sink0 shape) ok = omega arith
few_outs (Pure fun shape) ok = omega arith
few_outs (Mux shape) ok = omega arith
few_outs (Branch shape) ok = omega arith
few_outs (Merge shape count) ok = omega arith
few_outs (CtrlMerge shape count width) ok = omega arith
few_outs (Init value mark) ok = omega arith
few_outs (Tagger shape tags) ok = omega arith

cut_count : (shapes : List Shape) (v : Token) → length (cut_parts shapes v) ≡ length shapes
cut_count [] v = omega arith
cut_count (a ∷ shapes) v = ap suc (cut_count shapes (drop (length a) v))

branch_count : (test v : Token) → length (branch_by test v) ≤ 2
branch_count [] v = omega arith
branch_count (zero ∷ w) v = omega arith
branch_count (suc n ∷ w) v = omega arith

result_count : (o : Option Token) → length (result_given o) ≤ 2
result_count None = omega arith
result_count (Some v) = omega arith

oldest_count : (slots : List Slot) → length (oldest_given slots) ≤ 2
oldest_count [] = omega arith
oldest_count (slot ∷ slots) = result_count slot.result

-- no more is given than there are outputs
given_count : (kind : Kind) (choice : ℕ) (place : PlaceValue) → length (given_of kind choice place) ≤ length (outs kind)
given_count (Entry shape) choice place = omega arith
given_count (Exit shape) choice place = omega arith
given_count (Buffer shape) choice place = omega arith
given_count (Fork shape count) choice place = omega (arith, length-replicate count shape, length-replicate count (Some (head_of (queue_at place.queues 0))))
given_count (Join shapes) choice place = omega arith
given_count (Split shapes) choice place =
    let parts = cut_parts shapes (head_of (queue_at place.queues 0)) in
    omega (arith, length-map parts (λ (v : Token). Some v), cut_count shapes (head_of (queue_at place.queues 0)))
given_count (Operator op widths width) choice place = omega arith
given_count (Constant shape width value) choice place = omega arith
given_count (Source0 shape) choice place = omega arith
given_count (Sink0 shape) choice place = omega arith
given_count (Pure fun shape) choice place = omega arith
given_count (Mux shape) choice place = omega arith
given_count (Branch shape) choice place = branch_count (head_of (queue_at place.queues 1)) (head_of (queue_at place.queues 0))
given_count (Merge shape count) choice place = omega arith
given_count (CtrlMerge shape count width) choice place = omega arith
given_count (Init value mark) choice place = omega arith
given_count (Tagger shape tags) zero place = oldest_count place.slots
given_count (Tagger shape tags) (suc zero) place = omega arith
given_count (Tagger shape tags) (suc (suc tag)) place = omega arith

unwrapped : {A : Type 0} (o : Option A) → IsSome o → (x : A) × (o ≡ Some x)
unwrapped None some = absurd (false≢true some)
unwrapped (Some x) some = (x, refl)

pub can_settle : (g : GraphValue) → IsGraph g → (s : Places) (id : NodeId) (kind : Kind) → IsStateIn g s → IsSome (finite.get g.ids id) → KindOk kind →
    (circuit_of g.graph).kind_at (name_by g.ids id) ≡ Some kind → (choice : ℕ) (place : PlaceValue) (given : List (Option Token)) → given ≡ given_of kind choice place →
    (taking : Taking) → IsWithin taking (length (place_at s id).queues) → CanSettle g s (record { node = id; port = 1 }) (length given) taking
can_settle g is s id kind state live ok is_kind choice place given same taking within =
    let count : length given ≤ length (outs kind) = subst (λ (x : List (Option Token)). length x ≤ length (outs kind)) (sym same) (given_count kind choice place) in
    record {
      typed = state.typed;
      has = state.has;
      live = live;
      some = omega arith;
      few = omega (arith, count, few_outs kind ok);
      there = λ port from to.
          let found = unwrapped (port_get (outs kind) port) (there (outs kind) port (record { some = from; few = omega (arith, to, count) })) in
          has_output g (name_by g.ids id) kind is_kind port found.0 found.1;
      within = within;
    }
