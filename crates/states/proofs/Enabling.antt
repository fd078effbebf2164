-- That a node is ready says that it can fire.
use Rattle.std.proofs.Common.{◌≡◌, ℕ, zero, suc, ◌<◌, List, [], ◌∷◌, ◌++◌, length, Option, Some, None, is_some, refl, sym, ap, subst, ◌∙◌, arith}
use Rattle.std.specs.Prelude.{MatchOption, IsTrue, ◌↔◌}
use Rattle.std.specs.List.{AllByRecursion}
use Rattle.std.proofs.lemmas.Bool.{false≢true}
use Rattle.std.proofs.lemmas.Option.{none-some, same_Some}
use Rattle.std.specs.FinMap as finite
use Rattle.port_types.specs.Token.{Fits}
use Rattle.components.specs.declared.kind.Kind.{Kind}
use Rattle.components.specs.Kind.{Shape, ins, KindOk}
use Rattle.components.specs.Name.{Name, port_get}
use Rattle.circuits.specs.PortTokens.{Token, at_port}
use Rattle.circuits.specs.Circuit.{circuit_of}
use Rattle.circuits.specs.CircuitState.{CircuitState, TagsDiffer}
use Rattle.circuits.specs.Firing.{Label.Fire, Fires}
use Rattle.circuits.specs.Run.{Step}
use Rattle.circuits.proofs.MadeSteps.{Deed, Stands, StandEach, after, step_made}
use Rattle.graph_core.specs.declared.place.NodeId.{NodeId}
use Rattle.graph_core.specs.Place.{index_of}
use Rattle.graph_core.specs.GraphValue.{GraphValue, IsGraph, Denotes, name_by}
use Rattle.states.specs.Enabled.{IsEnabled, IsReadyAt}
use Rattle.states.specs.Place.{PlaceValue}
use Rattle.states.specs.GraphState.{Places, IsStateIn, place_at, place_of, state_of}
use Rattle.states.specs.Ready.{CanFire, FitQueues, IsPlaceOf, IsReady}
use Rattle.states.specs.declared.taking.Taking.{Taking}
use Rattle.states.proofs.Heads.{at_zero}
use Rattle.states.proofs.Named.{place_denoted}
use Rattle.states.proofs.Stepping.{share_at}
use Rattle.states.proofs.EndSteps.{body_behind}

-- queues that fit, port by port

none_zero : {A : Type 0} (xs : List A) (x : A) → port_get xs 0 ≡ Some x → ⊥
none_zero [] x e = none-some x e
none_zero (y ∷ xs) x e = none-some x e

fit_queues : (shapes : List Shape) (queues : List (List Token)) → length queues ≡ length shapes →
    ((port : ℕ) (a : Shape) → port_get shapes port ≡ Some a → AllByRecursion (Fits a) (at_port queues port)) → FitQueues shapes queues
fit_queues [] [] count each = tt
fit_queues [] (queue ∷ queues) count each = absurd (omega (arith, count))
fit_queues (a ∷ shapes) [] count each = absurd (omega (arith, count))
fit_queues (a ∷ shapes) (queue ∷ queues) count each = (each 1 a refl, fit_queues shapes queues (omega (arith, count)) more)
  where
    more : (port : ℕ) (b : Shape) → port_get shapes port ≡ Some b → AllByRecursion (Fits b) (at_port queues port)
    more zero b e = absurd (none_zero shapes b e)
    more (suc port) b e = each (suc (suc port)) b e

stand_list : (wire : ℕ → List Token) (side : List (List Token)) → ((port : ℕ) → Stands (at_port side port) (wire port)) → StandEach wire side
stand_list wire [] each = tt
stand_list wire (front ∷ fronts) each = (each 1, stand_list (λ i. wire (suc i)) fronts more)
  where
    more : (port : ℕ) → Stands (at_port fronts port) (wire (suc port))
    more zero = (wire 1, ap (λ x. x ++ wire 1) (sym (at_zero fronts)))
    more (suc port) = each (suc (suc port))

module _ (g : GraphValue) (is : IsGraph g) (s : Places) (state : IsStateIn g s) (id : NodeId) (n : Name) (denotes : Denotes g id n)
    (kind : Kind) (is_kind : (circuit_of g.graph).kind_at n ≡ Some kind) where
  pub here : place_of g s n ≡ place_at s id
  here = place_denoted g is s id n denotes

  pub place_is : IsPlaceOf kind (place_at s id)
  place_is =
      let (body, found, same) = body_behind (finite.get g.graph.nodes n) kind is_kind in
      record {
        ok = subst KindOk same (is.graph.kinds n body found);
        fits =
            fit_queues (ins kind) (place_at s id).queues (state.has.queues id n body denotes found ∙ ap (λ (k : Kind). length (ins k)) same)
            (λ port a there. subst (λ (p : PlaceValue). AllByRecursion (Fits a) (at_port p.queues port)) here (state.state.wires (record { node = n; port = port }) kind a is_kind there));
        tags = subst (λ (p : PlaceValue). TagsDiffer p.slots) here (state.state.tags n kind is_kind);
      }

  pub place_within : index_of id < length s
  place_within = subst (λ l. index_of id < l) (sym state.has.places) (is.within id n denotes)

  pub can_of_step : (choice : ℕ) (t : CircuitState) → Step (circuit_of g.graph) (state_of g s) n (Fire choice) t → CanFire kind choice (place_at s id)
  can_of_step choice t step = subst (CanFire kind choice) here can
    where
      can : CanFire kind choice (place_of g s n)
      can =
          record {
            taken = step.taken;
            given = step.given;
            new = t.slots n;
            stand = λ port. (
              step.between (record { node = n; port = port }),
              step.takes (record { node = n; port = port }) ∙ ap (λ x. x ++ step.between (record { node = n; port = port })) (share_at n step.taken (record { node = n; port = port }) refl),
            );
            fires = subst (λ k. Fires k choice (place_of g s n).slots step.taken step.given (t.slots n)) (same_Some step.kind kind (sym step.is_kind ∙ is_kind)) step.acts;
          }

  abbrev pub deed : (choice : ℕ) → CanFire kind choice (place_at s id) → Deed
  deed choice can = record { node = n; kind = kind; label = Fire choice; taken = can.taken; given = can.given; new = can.new }

  pub made : (choice : ℕ) (can : CanFire kind choice (place_at s id)) → Step (circuit_of g.graph) (state_of g s) n (Fire choice) (after (circuit_of g.graph) (state_of g s) (deed choice can))
  made choice can =
      step_made (circuit_of g.graph) (state_of g s) (deed choice can)
      (record {
        is_kind = is_kind;
        acts = subst (λ (p : PlaceValue). Fires kind choice p.slots can.taken can.given can.new) (sym here) can.fires;
        stands =
            stand_list (λ i. (state_of g s).wires (record { node = n; port = i })) can.taken
            (λ port. let stand = can.stand port in (stand.0, ap (λ (p : PlaceValue). at_port p.queues port) here ∙ stand.1));
      })

  pub enabled_as_ready : (choice : ℕ) (o : Option Taking) → MatchOption o (¬ (CanFire kind choice (place_at s id))) (IsReady kind choice (place_at s id)) →
      IsTrue (is_some o) ↔ ((t : CircuitState) × Step (circuit_of g.graph) (state_of g s) n (Fire choice) t)
  enabled_as_ready choice None cannot = ((λ h. absurd (false≢true h)), λ (t, step). absurd (cannot (can_of_step choice t step)))
  enabled_as_ready choice (Some taking) ready = ((λ h. (after (circuit_of g.graph) (state_of g s) (deed choice ready.can), made choice ready.can)), λ h. refl)

pub taking_as_ready : (g : GraphValue) (is : IsGraph g) (s : Places) (state : IsStateIn g s) (id : NodeId) (denotes : Denotes g id (name_by g.ids id))
    (kind : Kind) (is_kind : (circuit_of g.graph).kind_at (name_by g.ids id) ≡ Some kind) (choice : ℕ) (o : Option Taking) →
    MatchOption o (¬ (CanFire kind choice (place_at s id))) (IsReady kind choice (place_at s id)) → MatchOption o (¬ (IsEnabled g s id choice)) (IsReadyAt g s id choice)
taking_as_ready g is s state id denotes kind is_kind choice None cannot = λ (t, step). cannot (can_of_step g is s state id (name_by g.ids id) denotes kind is_kind choice t step)
taking_as_ready g is s state id denotes kind is_kind choice (Some taking) ready = record { kind = kind; is_kind = is_kind; ready = ready }

-- what can fire is enabled
pub ready_enabled : (g : GraphValue) (is : IsGraph g) (s : Places) (state : IsStateIn g s) (id : NodeId) (denotes : Denotes g id (name_by g.ids id)) (choice : ℕ) (taking : Taking) →
    IsReadyAt g s id choice taking → IsEnabled g s id choice
ready_enabled g is s state id denotes choice taking at = (
  after (circuit_of g.graph) (state_of g s) (deed g is s state id (name_by g.ids id) denotes at.kind at.is_kind choice at.ready.can),
  made g is s state id (name_by g.ids id) denotes at.kind at.is_kind choice at.ready.can,
)
