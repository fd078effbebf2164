-- What stands everywhere at the start.
use Rattle.std.proofs.Common.{◌≡◌, inl, inr, ℕ, zero, suc, ◌+◌, ◌<◌, ◌≤◌, List, [], ◌∷◌, ◌++◌, length, Option, Some, None, refl, sym, ap, subst, ◌∙◌, arith, add-one, slice_index_or}
use Rattle.std.proofs.lemmas.List.{get_or_append_left, get_or_push, length_push}
use Rattle.std.proofs.lemmas.Option.{none-some, same_Some}
use Rattle.std.proofs.lemmas.Bool.{cases_lt}
use Rattle.std.specs.FinMap as finite
use Rattle.port_types.specs.declared.side.Side.TheVariants.{Ins}
use Rattle.components.specs.Kind.{Shape, ins}
use Rattle.components.specs.Name.{Name, Port, port_get}
use Rattle.components.specs.Node.{Body}
use Rattle.components.specs.NamedGraph.{IsTyped}
use Rattle.circuits.specs.PortTokens.{Token, at_port}
use Rattle.circuits.specs.Circuit.{circuit_of, kind_of}
use Rattle.circuits.specs.CircuitState.{initial, start}
use Rattle.graph_core.specs.declared.place.NodeId.{NodeId}
use Rattle.graph_core.specs.Place.{id_of, index_of}
use Rattle.graph_core.specs.GraphValue.{GraphValue, IsGraph, Denotes}
use Rattle.graph_core.specs.Wiring.{HasPort}
use Rattle.states.specs.Place.{PlaceValue, no_place, queue_at}
use Rattle.states.specs.GraphState.{Places, HasPlaces, id_named, place_at, place_by, state_of}
use Rattle.states.specs.Starting.{AreHeld, IsHeldAt, held}
use Rattle.states.proofs.Named.{denoted_named, named_denotes}
use Rattle.states.proofs.Queues.{port_past, port_queue, port_zero}

-- one more input

pub held_none : (g : GraphValue) (name : Name) → AreHeld g name 0 []
held_none g name = record { count = refl; held = λ input below. absurd (omega arith) }

pub held_more : (g : GraphValue) (name : Name) (i : ℕ) (queues : List (List Token)) (queue : List Token) → AreHeld g name i queues → queue ≡ held g (record { node = name; port = i + 1 }) → AreHeld g name (i + 1) (queues ++ queue ∷ [])
held_more g name i queues queue are is =
    record {
      count = length_push queues queue ∙ ap (λ n. n + 1) are.count;
      held = at;
    }
  where
    at : (input : ℕ) → input < i + 1 → queue_at (queues ++ queue ∷ []) input ≡ held g (record { node = name; port = input + 1 })
    at input below = elim (cases_lt input i) [
      | inr last ↦
          let same : input ≡ i = omega arith in
          ap (queue_at (queues ++ queue ∷ [])) same ∙ get_or_push queues queue [] i are.count ∙ is ∙ ap (λ n. held g (record { node = name; port = n + 1 })) (sym same)
      | inl before ↦
          let within : input < length queues = subst (λ n. input < n) (sym are.count) before in
          get_or_append_left queues (queue ∷ []) [] input within ∙ are.held input before
    ]

-- ports that are there

port_some : {A : Type 0} (xs : List A) (i : ℕ) → i < length xs → (x : A) × (port_get xs (suc i) ≡ Some x)
port_some [] i below = absurd (omega arith)
port_some (x ∷ xs) zero below = (x, refl)
port_some (x ∷ xs) (suc i) below = port_some xs i (omega arith)

port_none : {A : Type 0} (xs : List A) (i : ℕ) → length xs ≤ i → port_get xs (suc i) ≡ None
port_none [] i past = refl
port_none (x ∷ xs) zero past = absurd (omega arith)
port_none (x ∷ xs) (suc i) past = port_none xs i (omega arith)

no_zero : {A : Type 0} (xs : List A) → port_get xs 0 ≡ None
no_zero [] = refl
no_zero (x ∷ xs) = refl

pub input_at : (g : GraphValue) (name : Name) (body : Body) → finite.get g.graph.nodes name ≡ Some body → (i : ℕ) → i < length (ins body.kind) → HasPort g.graph Ins (record { node = name; port = i + 1 })
input_at g name body found i below =
    let (shape, there) = port_some (ins body.kind) i below in
    (shape, (body, found, ap (port_get (ins body.kind)) (add-one i) ∙ there))

-- one more node

pub places_none : (g : GraphValue) (i : ℕ) (place : PlaceValue) → i < 0 → IsHeldAt g (id_of i) (slice_index_or [] i place)
places_none g i place below = absurd (omega arith)

pub places_more : (g : GraphValue) (index : ℕ) (places : List PlaceValue) (new : PlaceValue) → length places ≡ index → ((i : ℕ) (place : PlaceValue) → i < index → IsHeldAt g (id_of i) (slice_index_or places i place)) →
    IsHeldAt g (id_of index) new → (i : ℕ) (place : PlaceValue) → i < index + 1 → IsHeldAt g (id_of i) (slice_index_or (places ++ new ∷ []) i place)
places_more g index places new count before here i place below = elim (cases_lt i index) [
  | inr last ↦
      let same : i ≡ index = omega arith in
      subst (λ n. IsHeldAt g (id_of n) (slice_index_or (places ++ new ∷ []) n place)) (sym same) (subst (IsHeldAt g (id_of index)) (sym (get_or_push places new place index count)) here)
  | inl less ↦
      let within : i < length places = subst (λ n. i < n) (sym count) less in
      subst (IsHeldAt g (id_of i)) (sym (get_or_append_left places (new ∷ []) place i within)) (before i place less)
]

-- All of it

module _ (g : GraphValue) (is : IsGraph g) (typed : IsTyped g.graph) (s : Places) (count : length s ≡ g.slots)
    (each : (i : ℕ) (place : PlaceValue) → i < g.slots → IsHeldAt g (id_of i) (slice_index_or s i place)) where
  held_at : (id : NodeId) (name : Name) → Denotes g id name → IsHeldAt g id (place_at s id)
  held_at id name denotes = each (index_of id) no_place (is.within id name denotes)

  pub start_has : HasPlaces g s
  start_has = record { places = count; queues = λ id name body denotes found. ((held_at id name denotes).queues name body denotes found).count }

  -- nothing feeds what is no input
  unfed : (p : Port) → ((body : Body) (shape : Shape) → finite.get g.graph.nodes p.node ≡ Some body → port_get (ins body.kind) p.port ≡ Some shape → ⊥) → held g p ≡ []
  unfed p absent = at (finite.get g.graph.feeders p) refl
    where
      at : (o : Option Port) → finite.get g.graph.feeders p ≡ o → initial (kind_of (circuit_of g.graph) o) ≡ []
      at None e = refl
      at (Some q) e = let wire = typed.wires p q e in absurd (absent wire.to wire.shape wire.is_to wire.enters)

  wires_start : (p : Port) → (state_of g s).wires p ≡ held g p
  wires_start p = at (id_named g p.node) refl
    where
      at_node : (id : NodeId) → Denotes g id p.node → (port : ℕ) → port ≡ p.port → at_port (place_at s id).queues port ≡ held g p
      at_node id denotes zero e =
          port_zero (place_at s id).queues ∙ sym (unfed p (λ body shape found enters. none-some shape (sym (no_zero (ins body.kind)) ∙ ap (port_get (ins body.kind)) e ∙ enters)))
      at_node id denotes (suc i) e =
          let (body, found) = is.denoted id p.node denotes in
          let are = (held_at id p.node denotes).queues p.node body denotes found in
          elim (cases_lt i (length (ins body.kind))) [
            | inr past ↦
                let behind : length (place_at s id).queues < suc i = omega (arith, are.count) in
                port_past (place_at s id).queues (suc i) behind
                ∙ sym (unfed p (λ other shape found_too enters.
                let same : other ≡ body = same_body found_too found in
                none-some shape (sym (port_none (ins body.kind) i past) ∙ ap (port_get (ins body.kind)) e ∙ ap (λ (b : Body). port_get (ins b.kind) p.port) (sym same) ∙ enters)))
            | inl within ↦
                port_queue (place_at s id).queues i ∙ are.held i within ∙ ap (λ n. held g (record { node = p.node; port = n })) (add-one i ∙ e)
          ]
        where
          same_body : {o : Option Body} {a b : Body} → o ≡ Some a → o ≡ Some b → a ≡ b
          same_body x y = same_Some _ _ (sym x ∙ y)

      at : (o : Option NodeId) → id_named g p.node ≡ o → at_port (place_by s o).queues p.port ≡ held g p
      at None e = sym (unfed p (λ body shape found enters.
          let live = is.live p.node body found in
          none-some live.0 (sym e ∙ denoted_named g is live.0 p.node live.1)))
      at (Some id) e = at_node id (named_denotes g p.node id e) p.port refl

  slots_start : (n : Name) → (state_of g s).slots n ≡ []
  slots_start n = at (id_named g n) refl
    where
      at : (o : Option NodeId) → id_named g n ≡ o → (place_by s o).slots ≡ []
      at None e = refl
      at (Some id) e = (held_at id n (named_denotes g n id e)).slots

  pub start_same : state_of g s ≡ start (circuit_of g.graph)
  start_same = λ i. record { wires = λ p. wires_start p i; slots = λ n. slots_start n i }
