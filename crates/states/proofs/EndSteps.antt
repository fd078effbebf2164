-- Feeding Entries, taking from Exits, and what is found at inputs.
use Rattle.std.proofs.Common.{◌≡◌, ℕ, List, [], ◌∷◌, ◌++◌, drop, Option, Some, None, Result, Ok, Err, slice_get, slice_set, refl, sym, ap, subst, ◌∙◌}
use Rattle.std.specs.Prelude.{IfSome, IfNone, IsSome, OnOk, OnErr, unwrap_or}
use Rattle.std.proofs.lemmas.List.{set-get_or}
use Rattle.std.proofs.lemmas.Bool.{false≢true}
use Rattle.std.proofs.lemmas.Option.{none-some, same_Some}
use Rattle.std.specs.FinMap as finite
use Rattle.port_types.specs.declared.side.Side.TheVariants.{Ins, Outs}
use Rattle.components.specs.declared.kind.Kind.{Kind}
use Rattle.components.specs.declared.kind.Kind.TheVariants.{Exit}
use Rattle.components.specs.Kind.{Shape, ins, outs}
use Rattle.components.specs.Name.{Name, Port, port_get}
use Rattle.components.specs.Node.{Body}
use Rattle.components.specs.NamedGraph.{IsTyped}
use Rattle.circuits.specs.PortTokens.{Token, one}
use Rattle.circuits.specs.Circuit.{circuit_of, kind_of_body}
use Rattle.circuits.specs.Firing.{Label.Feed, Label.Take}
use Rattle.circuits.specs.Run.{Step}
use Rattle.graph_core.specs.declared.place.NodeId.{NodeId}
use Rattle.graph_core.specs.declared.place.PortAt.{PortAt}
use Rattle.graph_core.specs.Place.{index_of}
use Rattle.graph_core.specs.GraphValue.{GraphValue, IsGraph, Denotes, name_by, port_of}
use Rattle.graph_core.specs.Wiring.{HasPort}
use Rattle.states.specs.Ends.{IsEntryFor, IsExitAt}
use Rattle.states.specs.Place.{no_place}
use Rattle.states.specs.GraphState.{Places, HasPlaces, IsInputAt, IsStateIn, place_at, queue_of, state_of, with_queue}
use Rattle.states.specs.Laws.{StepStaysIn}
use Rattle.states.proofs.Changing.{has_same, input_there}
use Rattle.states.proofs.Stepping.{fed_step, taken_step}

-- by what a call answered

pub ok_then : {A E P Q : Type 0} (r : Result A E) → (P → Q) → OnOk r P → OnOk r Q
ok_then (Ok x) f p = f p
ok_then (Err e) f p = tt

pub either_way : {A E P R Q : Type 0} (r : Result A E) → (P → Q) → OnOk r P → (R → Q) → OnErr r R → Q
either_way (Ok x) f p h q = f p
either_way (Err e) f p h q = h q

-- the node behind a kind
pub body_behind : (o : Option Body) (kind : Kind) → kind_of_body o ≡ Some kind → (body : Body) × (o ≡ Some body) × (body.kind ≡ kind)
body_behind None kind e = absurd (none-some kind e)
body_behind (Some body) kind e = (body, refl, same_Some body.kind kind e)

module _ (g : GraphValue) (n : Name) (kind : Kind) (is_kind : (circuit_of g.graph).kind_at n ≡ Some kind) (port : ℕ) (shape : Shape) where
  pub has_input : port_get (ins kind) port ≡ Some shape → HasPort g.graph Ins (record { node = n; port = port })
  has_input there =
      let (body, found, same) = body_behind (finite.get g.graph.nodes n) kind is_kind in
      (shape, (body, found, ap (λ (k : Kind). port_get (ins k) port) same ∙ there))

  pub has_output : port_get (outs kind) port ≡ Some shape → HasPort g.graph Outs (record { node = n; port = port })
  has_output there =
      let (body, found, same) = body_behind (finite.get g.graph.nodes n) kind is_kind in
      (shape, (body, found, ap (λ (k : Kind). port_get (outs k) port) same ∙ there))

-- what is fed is an input
pub fed_input : (g : GraphValue) → IsTyped g.graph → (target source : Port) → finite.get g.graph.feeders target ≡ Some source → HasPort g.graph Ins target
fed_input g typed target source fed =
    let wire = typed.wires target source fed in
    (wire.shape, (wire.to, wire.is_to, wire.enters))

-- Feeding

module _ (g : GraphValue) (is : IsGraph g) (s : Places) (state : IsStateIn g s) (entry : NodeId) (target : PortAt)
    (fed : finite.get g.graph.feeders (port_of g target) ≡ Some (port_of g (record { node = entry; port = 1 }))) where
  pub target_there : IsInputAt g s target (port_of g target).node
  target_there = input_there g is s state.has target (fed_input g state.typed (port_of g target) (port_of g (record { node = entry; port = 1 })) fed)

  module _ (v : Token) (can : IsEntryFor g entry v) (t : Places) (put : t ≡ with_queue s target (queue_of s target ++ one v)) where
    pub feed_step : Step (circuit_of g.graph) (state_of g s) (name_by g.ids entry) (Feed v) (state_of g t)
    feed_step =
        subst (λ (u : Places). Step (circuit_of g.graph) (state_of g s) (name_by g.ids entry) (Feed v) (state_of g u)) (sym put)
        (fed_step g is state.typed s target (port_of g target).node target_there v (name_by g.ids entry) can.shape can.is_entry can.fits fed)

    pub feed_stays : StepStaysIn → IsStateIn g t
    feed_stays law =
        law g s t (name_by g.ids entry) (Feed v) state
        (subst (HasPlaces g) (sym put) (has_same g is s target (port_of g target).node target_there (queue_of s target ++ one v) state.has)) feed_step

-- Taking

front_of : (q : List Token) (v : Token) → Some v ≡ slice_get q 0 → (rest : List Token) × (q ≡ v ∷ rest)
front_of [] v e = absurd (none-some v (sym e))
front_of (w ∷ q) v e = (q, λ i. same_Some w v (sym e) i ∷ q)

front_none : (q : List Token) → None ≡ slice_get q 0 → q ≡ []
front_none [] e = refl
front_none (w ∷ q) e = absurd (none-some w e)

module _ (g : GraphValue) (is : IsGraph g) (s : Places) (state : IsStateIn g s) (exit : NodeId) (can : IsExitAt g exit) where
  abbrev port : PortAt
  port = record { node = exit; port = 1 }

  pub exit_input : HasPort g.graph Ins (port_of g port)
  exit_input = has_input g (name_by g.ids exit) (Exit can.shape) can.is_exit 1 can.shape refl

  pub exit_there : IsInputAt g s port (name_by g.ids exit)
  exit_there = input_there g is s state.has port exit_input

  module _ (t : Places) (popped : t ≡ with_queue s port (drop 1 (queue_of s port))) (o : Option Token) (front : o ≡ slice_get (queue_of s port) 0) where
    pub take_some : IfSome o (λ v. Step (circuit_of g.graph) (state_of g s) (name_by g.ids exit) (Take v) (state_of g t))
    take_some = at o front
      where
        at : (a : Option Token) → a ≡ slice_get (queue_of s port) 0 → IfSome a (λ v. Step (circuit_of g.graph) (state_of g s) (name_by g.ids exit) (Take v) (state_of g t))
        at None e = tt
        at (Some v) e =
            let holds = front_of (queue_of s port) v e in
            subst (λ (u : Places). Step (circuit_of g.graph) (state_of g s) (name_by g.ids exit) (Take v) (state_of g u)) (sym popped)
            (taken_step g is state.typed s port (name_by g.ids exit) exit_there v can.shape can.is_exit refl holds.0 holds.1)

    -- with nothing there nothing changes
    unchanged : queue_of s port ≡ [] → t ≡ s
    unchanged none =
        popped ∙ ap (with_queue s port) (ap (drop 1) none ∙ sym none)
        ∙ ap (λ (queues : List (List Token)). slice_set s (index_of exit) (record (place_at s exit) { queues = queues })) (set-get_or (place_at s exit).queues 0 [])
        ∙ set-get_or s (index_of exit) no_place

    pub take_none : IfNone o (queue_of s port ≡ [])
    take_none = at o front
      where
        at : (a : Option Token) → a ≡ slice_get (queue_of s port) 0 → IfNone a (queue_of s port ≡ [])
        at None e = front_none (queue_of s port) e
        at (Some v) e = tt

    pub take_same : IfNone o (t ≡ s)
    take_same = at o front
      where
        at : (a : Option Token) → a ≡ slice_get (queue_of s port) 0 → IfNone a (t ≡ s)
        at None e = unchanged (front_none (queue_of s port) e)
        at (Some v) e = tt

    pub take_stays : StepStaysIn → IsStateIn g t
    take_stays law = at o front
      where
        at : (a : Option Token) → a ≡ slice_get (queue_of s port) 0 → IsStateIn g t
        at None e = subst (IsStateIn g) (sym (unchanged (front_none (queue_of s port) e))) state
        at (Some v) e =
            let holds = front_of (queue_of s port) v e in
            law g s t (name_by g.ids exit) (Take v) state
            (subst (HasPlaces g) (sym popped) (has_same g is s port (name_by g.ids exit) exit_there (drop 1 (queue_of s port)) state.has))
            (subst (λ (u : Places). Step (circuit_of g.graph) (state_of g s) (name_by g.ids exit) (Take v) (state_of g u)) (sym popped)
            (taken_step g is state.typed s port (name_by g.ids exit) exit_there v can.shape can.is_exit refl holds.0 holds.1))

-- an id that is live denotes its name
pub live_denotes : (g : GraphValue) (id : NodeId) → IsSome (finite.get g.ids id) → Denotes g id (name_by g.ids id)
live_denotes g id live = at (finite.get g.ids id) live
  where
    at : (o : Option Name) → IsSome o → o ≡ Some (unwrap_or o [])
    at None h = absurd (false≢true h)
    at (Some n) h = refl

pub none_then : {A P Q : Type 0} (o : Option A) → (P → Q) → IfNone o P → IfNone o Q
none_then None f p = f p
none_then (Some x) f p = tt
