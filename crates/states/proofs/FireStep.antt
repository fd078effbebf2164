-- A node that has given, taken and changed its slots has fired.
use Rattle.std.proofs.Common.{◌≡◌, ◌≢◌, inl, inr, ℕ, zero, suc, ◌<◌, ◌≤◌, Bool, List, [], ◌++◌, length, drop, Some, if◌then◌else◌, slice_set, refl, sym, ap, subst, ◌∙◌, arith}
use Rattle.std.specs.Prelude.{◌⊎◌}
use Rattle.std.specs.FinMap as finite
use Rattle.std.proofs.Math.Seq.{drop-append_seam}
use Rattle.std.proofs.lemmas.List.{append_assoc, get_or-set_same, get_or-set_other, length-set}
use Rattle.components.specs.declared.kind.Kind.{Kind}
use Rattle.components.specs.Name.{Name, Port}
use Rattle.components.specs.Orders.{name_cases, other_bytes, same_bytes}
use Rattle.circuits.specs.PortTokens.{Token, at_port, share_from}
use Rattle.circuits.specs.Circuit.{circuit_of}
use Rattle.circuits.specs.CircuitState.{CircuitState}
use Rattle.circuits.specs.Firing.{Label.Fire}
use Rattle.circuits.specs.Run.{Step}
use Rattle.circuits.proofs.MadeSteps.{after}
use Rattle.graph_core.specs.declared.place.NodeId.{NodeId}
use Rattle.graph_core.specs.Ids.{id_cases}
use Rattle.graph_core.specs.Place.{index_of}
use Rattle.graph_core.specs.GraphValue.{GraphValue, Denotes, IsGraph, name_by}
use Rattle.states.specs.declared.change.Change.{Change}
use Rattle.states.specs.declared.taking.Taking.{Taking}
use Rattle.states.specs.Enabled.{FiresTo}
use Rattle.states.specs.Fired.{IsSettled, finished_place}
use Rattle.states.specs.Giving.{changed_slots}
use Rattle.states.specs.GraphState.{HasPlaces, IsStateIn, Places, place_at, place_of, state_of}
use Rattle.states.specs.Laws.{StepStaysIn}
use Rattle.states.specs.Place.{PlaceValue, no_place}
use Rattle.states.specs.Ready.{IsReady}
use Rattle.states.specs.Taking.{IsWithin, count_at}
use Rattle.states.proofs.Changing.{place_other, place_put}
use Rattle.states.proofs.EndSteps.{body_behind}
use Rattle.states.proofs.Enabling.{deed, made}
use Rattle.states.proofs.Named.{place_denoted}
use Rattle.states.proofs.Queues.{port_past, port_queue, port_zero}
use Rattle.states.proofs.Settling.{taken_at, taken_count}
use Rattle.states.proofs.Stepping.{share_at, share_away}

drop_front : (taken behind given wire : List Token) → wire ≡ taken ++ behind → drop (length taken) (wire ++ given) ≡ drop (length taken) wire ++ given
drop_front taken behind given wire is =
    ap (λ w. drop (length taken) (w ++ given)) is ∙ ap (drop (length taken)) (append_assoc taken behind given) ∙ drop-append_seam taken (behind ++ given)
    ∙ ap (λ w. w ++ given) (sym (ap (drop (length taken)) is ∙ drop-append_seam taken behind))

nil_dropped : (k : ℕ) → ◌≡◌ {A = List Token} (drop k []) []
nil_dropped zero = refl
nil_dropped (suc k) = refl

-- on a wire that is no wire nothing comes and goes
nothing_there : (k : ℕ) (wire given : List Token) → wire ≡ [] → wire ++ given ≡ [] → [] ≡ drop k wire ++ given
nothing_there k wire given none all = sym all ∙ ap (λ w. w ++ given) (none ∙ sym (nil_dropped k) ∙ ap (drop k) (sym none))

below_or : (i l : ℕ) → (i < l) ⊎ (l ≤ i)
below_or i l = grind arith

module _ (g : GraphValue) (is : IsGraph g) (s : Places) (state : IsStateIn g s) (id : NodeId) (denotes : Denotes g id (name_by g.ids id))
    (kind : Kind) (is_kind : (circuit_of g.graph).kind_at (name_by g.ids id) ≡ Some kind)
    (choice : ℕ) (taking : Taking) (ready : IsReady kind choice (place_at s id) taking)
    (side : List (List Token)) (change : Change) (t : Places) (settled : IsSettled g s id side taking change t)
    (gives : side ≡ ready.can.given) (slots : changed_slots change (place_at s id).slots ≡ ready.can.new) where
  abbrev n : Name
  n = name_by g.ids id

  abbrev mid : Places
  mid = settled.given

  abbrev done : PlaceValue
  done = finished_place taking change (place_at mid id)

  abbrev feed : Port → List Token
  feed r = share_from n side (finite.get g.graph.feeders r)

  within : index_of id < length mid
  within = subst (λ l. index_of id < l) (sym settled.is_put.has.places) (is.within id n denotes)

  here : place_of g t n ≡ done
  here = ap (λ x. place_of g x n) settled.is ∙ place_put g is mid id n denotes done within

  there : (m : Name) → m ≢ n → place_of g t m ≡ place_of g mid m
  there m other = ap (λ x. place_of g x m) settled.is ∙ place_other g is mid id n denotes done m other

  -- as many queues stay at each node
  same_count : length (place_at mid id).queues ≡ length (place_at s id).queues
  same_count =
      let (body, found, same) = body_behind (finite.get g.graph.nodes n) kind is_kind in
      settled.is_put.has.queues id n body denotes found ∙ sym (state.has.queues id n body denotes found)

  mid_wire : (port : ℕ) → at_port (place_at mid id).queues port ≡ at_port (place_at s id).queues port ++ feed (record { node = n; port = port })
  mid_wire port =
      ap (λ (p : PlaceValue). at_port p.queues port) (sym (place_denoted g is mid id n denotes))
      ∙ settled.is_put.wires (record { node = n; port = port })
      ∙ ap (λ (p : PlaceValue). at_port p.queues port ++ feed (record { node = n; port = port })) (place_denoted g is s id n denotes)

  -- what is left and what comes, at the inputs of the node
  near : (port : ℕ) → at_port done.queues port ≡ drop (length (at_port ready.can.taken port)) (at_port (place_at s id).queues port) ++ feed (record { node = n; port = port })
  near zero =
      port_zero done.queues
      ∙ nothing_there (length (at_port ready.can.taken 0)) (at_port (place_at s id).queues 0) (feed (record { node = n; port = 0 }))
      (port_zero (place_at s id).queues) (sym (mid_wire 0) ∙ port_zero (place_at mid id).queues)
  near (suc input) =
      let old = (place_at s id).queues in
      let queues = (place_at mid id).queues in
      let comes = feed (record { node = n; port = suc input }) in
      let front = at_port ready.can.taken (suc input) in
      let is_within : IsWithin taking (length queues) = subst (IsWithin taking) (sym same_count) ready.within in
      let taken : at_port done.queues (suc input) ≡ drop (count_at taking input) (at_port queues (suc input)) =
      port_queue done.queues input ∙ taken_at taking queues is_within input ∙ ap (drop (count_at taking input)) (sym (port_queue queues input)) in
      elim (below_or input (length old)) [
        | inl below ↦
            taken ∙ ap (λ k. drop k (at_port queues (suc input))) (ready.counts input below) ∙ ap (drop (length front)) (mid_wire (suc input))
            ∙ drop_front front (ready.can.stand (suc input)).0 comes (at_port old (suc input)) (ready.can.stand (suc input)).1
        | inr past ↦
            let none : at_port queues (suc input) ≡ [] = port_past queues (suc input) (omega (arith, past, same_count)) in
            taken ∙ ap (drop (count_at taking input)) none ∙ nil_dropped (count_at taking input)
            ∙ nothing_there (length front) (at_port old (suc input)) comes (port_past old (suc input) (omega (arith, past))) (sym (mid_wire (suc input)) ∙ none)
      ]

  abbrev end : CircuitState
  end = after (circuit_of g.graph) (state_of g s) (deed g is s state id n denotes kind is_kind choice ready.can)

  wires_are : (r : Port) → (state_of g t).wires r ≡ end.wires r
  wires_are r = elim (name_cases r.node n) [
    | inr other ↦
        ap (λ (p : PlaceValue). at_port p.queues r.port) (there r.node other) ∙ settled.is_put.wires r
        ∙ ap (λ x. (state_of g s).wires r ++ share_from n x (finite.get g.graph.feeders r)) gives
        ∙ ap (λ x. drop (length x) ((state_of g s).wires r) ++ share_from n ready.can.given (finite.get g.graph.feeders r)) (sym (share_away n ready.can.taken r other))
    | inl same ↦
        let at : r ≡ record { node = n; port = r.port } = λ i. record { node = same i; port = r.port } in
        let old = (place_at s id).queues in
        ap (λ m. at_port (place_of g t m).queues r.port) same ∙ ap (λ (p : PlaceValue). at_port p.queues r.port) here ∙ near r.port
        ∙ ap (λ x. drop (length (at_port ready.can.taken r.port)) (at_port old r.port) ++ share_from n x (finite.get g.graph.feeders (record { node = n; port = r.port }))) gives
        ∙ ap (λ q. drop (length (at_port ready.can.taken r.port)) (at_port old r.port) ++ share_from n ready.can.given (finite.get g.graph.feeders q)) (sym at)
        ∙ ap (λ w. drop (length (at_port ready.can.taken r.port)) w ++ share_from n ready.can.given (finite.get g.graph.feeders r))
        (sym (ap (λ m. at_port (place_of g s m).queues r.port) same ∙ ap (λ (p : PlaceValue). at_port p.queues r.port) (place_denoted g is s id n denotes)))
        ∙ ap (λ x. drop (length x) ((state_of g s).wires r) ++ share_from n ready.can.given (finite.get g.graph.feeders r)) (sym (share_at n ready.can.taken r same))
  ]

  slots_are : (m : Name) → (state_of g t).slots m ≡ end.slots m
  slots_are m = elim (name_cases m n) [
    | inr other ↦
        ap (λ (p : PlaceValue). p.slots) (there m other) ∙ settled.is_put.slots m
        ∙ ap (λ (b : Bool). if b then ready.can.new else (state_of g s).slots m) (sym (other_bytes m n other))
    | inl same ↦
        ap (λ x. (place_of g t x).slots) same ∙ ap (λ (p : PlaceValue). p.slots) here
        ∙ ap (changed_slots change) (ap (λ (p : PlaceValue). p.slots) (sym (place_denoted g is mid id n denotes)) ∙ settled.is_put.slots n ∙ ap (λ (p : PlaceValue). p.slots) (place_denoted g is s id n denotes))
        ∙ slots ∙ ap (λ (b : Bool). if b then ready.can.new else (state_of g s).slots m) (sym (same_bytes m n same))
  ]

  pub fire_step : FiresTo g s id choice (state_of g t)
  fire_step =
      let same : state_of g t ≡ end = λ i. record { wires = λ r. wires_are r i; slots = λ m. slots_are m i } in
      subst (λ (x : CircuitState). Step (circuit_of g.graph) (state_of g s) n (Fire choice) x) (sym same) (made g is s state id n denotes kind is_kind choice ready.can)

  fired_has : HasPlaces g t
  fired_has =
      record {
        places = ap length settled.is ∙ length-set mid (index_of id) done ∙ settled.is_put.has.places;
        queues = λ other name body is_other found.
            ap (λ x. length (place_at x other).queues) settled.is ∙ elim (id_cases other id) [
              | inl one ↦
                  ap (λ (i : NodeId). length (place_at (slice_set mid (index_of id) done) i).queues) one
                  ∙ ap (λ (p : PlaceValue). length p.queues) (get_or-set_same mid (index_of id) done no_place within)
                  ∙ taken_count taking (place_at mid id).queues
                  ∙ ap (λ (i : NodeId). length (place_at mid i).queues) (sym one) ∙ settled.is_put.has.queues other name body is_other found
              | inr two ↦
                  let apart : index_of other ≢ index_of id = λ same. two (λ i. record { index = same i }) in
                  ap (λ (p : PlaceValue). length p.queues) (get_or-set_other mid (index_of id) (index_of other) done no_place apart)
                  ∙ settled.is_put.has.queues other name body is_other found
            ];
      }

  pub fire_stays : StepStaysIn → IsStateIn g t
  fire_stays law = law g s t n (Fire choice) state fired_has fire_step
