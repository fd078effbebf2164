-- What a node of any kind takes when it can fire, and that else it cannot.
use Rattle.std.proofs.Common.{◌≡◌, ℕ, zero, suc, ◌<◌, Bool, true, false, [], ◌∷◌, ◌++◌, map, refl, sym, ap, subst, ◌∙◌, arith}
use Rattle.std.specs.Prelude.{MatchOption}
use Rattle.std.proofs.lemmas.Bool.{false≢true}
use Rattle.components.specs.declared.kind.Kind.{Kind}
use Rattle.components.specs.declared.kind.Kind.TheVariants.{Entry, Exit, Buffer, Fork, Join, Split, Operator, Constant, Source0, Sink0, Pure, Mux, Branch, Merge, CtrlMerge, Init, Tagger}
use Rattle.components.specs.Kind.{ins}
use Rattle.circuits.specs.PortTokens.{single, one, at_port}
use Rattle.states.specs.declared.taking.Taking.TheVariants.{Each}
use Rattle.states.specs.Place.{PlaceValue}
use Rattle.states.specs.Ready.{CanFire, IsPlaceOf, IsReady, are_full, each_taking, only_if, taking_of}
use Rattle.states.specs.Giving.{heads}
use Rattle.states.proofs.Heads.{IsEach, fires_each, fit_count, full_each, heads_count, heads_fit, one_at, stand_each, takes_each}
use Rattle.states.proofs.Choosing.{merge_ready, mux_ready, tagger_ready}

each_ready : (kind : Kind) (choice : ℕ) (place : PlaceValue) → IsPlaceOf kind place → IsEach kind →
    MatchOption (each_taking choice place.queues) (¬ (CanFire kind choice place)) (IsReady kind choice place)
each_ready kind (suc choice) place is each = λ can. absurd (omega (arith, (takes_each kind (suc choice) place.slots can.taken can.given can.new each can.fires).first))
each_ready kind zero place is each = at (are_full place.queues) refl
  where
    at : (b : Bool) → are_full place.queues ≡ b → MatchOption (only_if b Each) (¬ (CanFire kind 0 place)) (IsReady kind 0 place)
    at true full =
        let fired = fires_each kind place.slots (heads place.queues) each (heads_fit (ins kind) place.queues is.fits full) in
        record {
          can = record { taken = map one (heads place.queues); given = fired.given; new = place.slots; stand = stand_each place.queues full; fires = fired.fires };
          within = tt;
          counts = λ input below. sym (one_at (heads place.queues) input (subst (λ n. input < n) (sym (heads_count place.queues)) below));
        }
    at false none = λ can.
        let takes = takes_each kind 0 place.slots can.taken can.given can.new each can.fires in
        false≢true (sym none ∙ full_each place.queues takes.vs (takes.count ∙ sym (fit_count (ins kind) place.queues is.fits))
        (λ port. let s = can.stand port in (s.0, s.1 ∙ ap (λ t. at_port t port ++ s.0) takes.is)))

pub ready_by : (kind : Kind) (choice : ℕ) (place : PlaceValue) → IsPlaceOf kind place → MatchOption (taking_of kind choice place) (¬ (CanFire kind choice place)) (IsReady kind choice place)
ready_by (Entry shape) choice place is = λ can. can.fires
ready_by (Exit shape) choice place is = λ can. can.fires
ready_by (Buffer shape) choice place is = each_ready (Buffer shape) choice place is tt
ready_by (Fork shape count) choice place is = each_ready (Fork shape count) choice place is tt
ready_by (Join shapes) choice place is = each_ready (Join shapes) choice place is tt
ready_by (Split shapes) choice place is = each_ready (Split shapes) choice place is tt
ready_by (Operator op widths width) choice place is = each_ready (Operator op widths width) choice place is tt
ready_by (Constant shape width value) choice place is = each_ready (Constant shape width value) choice place is tt
ready_by (Source0 shape) choice place is = each_ready (Source0 shape) choice place is tt
ready_by (Sink0 shape) choice place is = each_ready (Sink0 shape) choice place is tt
ready_by (Pure fun shape) choice place is = each_ready (Pure fun shape) choice place is tt
ready_by (Branch shape) choice place is = each_ready (Branch shape) choice place is tt
ready_by (Init value mark) choice place is = each_ready (Init value mark) choice place is tt
ready_by (Mux shape) choice place is = mux_ready shape choice place.queues place.slots is.fits
ready_by (Merge shape count) choice place is =
    merge_ready (Merge shape count) count place (λ c v. one v ∷ []) (λ c v below. (v, below, refl, refl, refl)) (λ c can. (can.fires.0, can.fires.1, can.fires.2)) choice
ready_by (CtrlMerge shape count width) choice place is =
    merge_ready (CtrlMerge shape count width) count place (λ c v. one v ∷ one (single c) ∷ []) (λ c v below. (v, below, refl, refl, refl)) (λ c can. (can.fires.0, can.fires.1, can.fires.2)) choice
ready_by (Tagger shape tags) choice place is = tagger_ready shape tags choice place.queues place.slots is.fits
