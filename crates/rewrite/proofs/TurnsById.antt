-- A Buffer by its id, and the turns of nodes by their ids.
use Rattle.std.proofs.Common.{◌≡◌, ◌≢◌, inl, inr, ℕ, suc, ◌+◌, ◌<◌, List, [], ◌∷◌, map, length, get_or, drop, add-one, drop-cons, Option, Some, None, Result, Ok, Err, OnOk, IfSome, IsSomeAnd, refl, sym, ap, subst, ◌∙◌}
use Rattle.std.specs.FinMap as fin
use Rattle.std.proofs.lemmas.Option.{same_Some}
use Rattle.components.specs.declared.kind.Kind.{Kind}
use Rattle.components.specs.declared.kind.Kind.TheVariants.{Buffer}
use Rattle.components.specs.declared.node.Node.{Node}
use Rattle.components.specs.Name.{Name, name_cmp}
use Rattle.components.specs.Kind.{Shape}
use Rattle.components.specs.NamedGraph.{NamedGraph, IsTyped}
use Rattle.components.specs.Orders.{name_cases}
use Rattle.graph_core.specs.declared.place.NodeId.{NodeId}
use Rattle.graph_core.specs.GraphValue.{GraphValue, AreInOrder, Denotes, IsGraph, IsNodeAt}
use Rattle.circuits.specs.Circuit.{circuit_of, kind_of_body}
use Rattle.circuits.specs.Buffers.{CanDropBuffer, IsWithoutBuffer, first_port}
use Rattle.subst_engine.specs.Replaced.{IsExchangedPart}
use Rattle.subst_engine.specs.Rule.{NamedRule}
use Rattle.pure_extract.specs.DropBuffer.{IsDropBuffer, DropBufferLeavesOut, DropBufferTakesOne}
use Rattle.rewrite.specs.Stripped.{IsBufferKind, IsBuffer, FeedsItself}
use Rattle.rewrite.specs.Strips.{StaysAtTurn, Turn, Turns}
use Rattle.rewrite.specs.TurnById.{HadTurn, IsDropAt, StaysById}
use Rattle.rewrite.proofs.Dropping.{buffer_fed, buffer_output, turn_typed}
use Rattle.rewrite.proofs.Meeting.{not_less_itself}
use Rattle.rewrite.proofs.Turning.{IsAmong, Rise, keys_rise}

pub where_ok : {A E P Q : Type 0} (result : Result A E) → (P → Q) → OnOk result P → OnOk result Q
where_ok (Ok value) f p = f p
where_ok (Err fault) f p = p

-- A Buffer is dropped where it can be, and else stays

module _ (g : GraphValue) (typed : IsTyped g.graph) (id : NodeId) (node : Node) (at : IsNodeAt g id node) (shape : Shape) (kind : node.kind ≡ Buffer shape) where
  is_buffer : IsBuffer g.graph node.name
  is_buffer = subst (λ there. IsSomeAnd there (λ body. IsBufferKind body.kind)) (sym at.body) (subst IsBufferKind (sym kind) tt)

  itself : ¬ (CanDropBuffer (circuit_of g.graph) node.name) → FeedsItself g.graph node.name
  itself refused =
      let (source, fed) = buffer_fed g.graph typed node.name is_buffer in
      let is_kind = ap kind_of_body at.body ∙ ap (λ (k : Kind). Some k) kind in
      elim (name_cases source.node node.name) [
        | inl same ↦ fed ∙ ap Some (buffer_output g.graph typed node.name is_buffer (first_port node.name) source fed same)
        | inr other ↦ absurd (refused (record { kind = Buffer shape; is_kind = is_kind; passes = tt; before = source; is_before = fed; other = other }))
      ]

  pub stays_itself : ¬ (CanDropBuffer (circuit_of g.graph) node.name) → StaysById g id
  stays_itself refused = subst (λ o. IfSome o (StaysAtTurn g.graph)) (sym at.denotes) (inr (itself refused))

  pub drop_at : (rule : NamedRule) → IsDropBuffer g.graph node.name rule → IsDropAt g id rule
  drop_at rule is = record { name = node.name; denotes = at.denotes; buffer = is_buffer; is = is }

pub had_turn_staying : (g : GraphValue) (id : NodeId) → StaysById g id → HadTurn g id g
had_turn_staying g id stays = record { turn = turn (fin.get g.ids id) stays; others = λ other name apart denotes. denotes }
  where
    turn : (found : Option Name) → IfSome found (StaysAtTurn g.graph) → IfSome found (λ name. Turn g.graph name g.graph)
    turn None stays = stays
    turn (Some name) stays = inl (stays, refl)

pub had_turn_dropped : (g h : GraphValue) (id : NodeId) (rule : NamedRule) → IsTyped g.graph → IsGraph g → DropBufferLeavesOut → DropBufferTakesOne → IsDropAt g id rule → IsExchangedPart g rule.left rule.right h → HadTurn g id h
had_turn_dropped g h id rule typed is leaves_out takes_one drop part =
    let without = subst (λ k. IsWithoutBuffer k g.graph drop.name) (sym part.graph) (leaves_out g.graph drop.name rule typed drop.is) in
    record {
      turn = subst (λ o. IfSome o (λ name. Turn g.graph name h.graph)) (sym drop.denotes) (inr (record { buffer = drop.buffer; without = without }));
      others = λ other name apart denotes.
          part.stay other name denotes (takes_one g.graph drop.name rule drop.is name (λ same. apart (is.alone other id drop.name (subst (Denotes g other) same denotes) drop.denotes)));
    }

-- Turns

-- the turns of the ids that are left lead from g to where all turns lead from the start
pub record Underway (start : NamedGraph) (g : GraphValue) (ids : List NodeId) : Type 0 where
  pub names : List Name
  pub typed : IsTyped g.graph
  pub are_named : map (fin.get g.ids) ids ≡ map Some names
  pub rise : Rise names
  pub leads : (h : NamedGraph) → Turns g.graph names h → Turns start (fin.keys start.nodes) h

pub underway_first : (g : GraphValue) (ids : List NodeId) → IsTyped g.graph → AreInOrder g ids → Underway g.graph g ids
underway_first g ids typed order = record { names = fin.keys g.graph.nodes; typed = typed; are_named = order; rise = keys_rise g.graph.nodes; leads = λ h turns. turns }

module _ (g h : GraphValue) (id : NodeId) (had : HadTurn g id h) where
  others_named : (name : Name) → Denotes g id name → (ids : List NodeId) (names : List Name) → ((other : Name) → IsAmong other names → other ≢ name) → map (fin.get g.ids) ids ≡ map Some names → map (fin.get h.ids) ids ≡ map Some names
  others_named name here [] [] apart are = refl
  others_named name here [] (next ∷ names) apart are = are
  others_named name here (other ∷ ids) [] apart are = absurd (cc)
  others_named name here (other ∷ ids) (next ∷ names) apart are =
      let named : Denotes g other next = cc in
      let rest : map (fin.get g.ids) ids ≡ map Some names = cc in
      let differs : other ≢ id = λ is. apart next (inl refl) (same_Some next name (sym named ∙ ap (fin.get g.ids) is ∙ here)) in
      λ i. had.others other next differs named i ∷ others_named name here ids names (λ n among. apart n (inr among)) rest i

  underway_next : (start : NamedGraph) (ids : List NodeId) → Underway start g (id ∷ ids) → Underway start h ids
  underway_next start ids u = past u.names u.are_named u.rise u.leads
    where
      past : (names : List Name) → map (fin.get g.ids) (id ∷ ids) ≡ map Some names → Rise names → ((k : NamedGraph) → Turns g.graph names k → Turns start (fin.keys start.nodes) k) → Underway start h ids
      past [] are rise leads = absurd (cc)
      past (name ∷ names) are rise leads =
          let denotes : Denotes g id name = cc in
          let rest : map (fin.get g.ids) ids ≡ map Some names = cc in
          let turn : Turn g.graph name h.graph = subst (λ o. IfSome o (λ name. Turn g.graph name h.graph)) denotes had.turn in
          record {
            names = names;
            typed = turn_typed g.graph h.graph name u.typed turn;
            are_named = others_named name denotes ids names (λ other among is. not_less_itself name (ap (name_cmp name) (sym is) ∙ rise.0 other among)) rest;
            rise = rise.1;
            leads = λ k turns. leads k (h.graph, turn, turns);
          }

pub underway_more : (start : NamedGraph) (g h : GraphValue) (ids : List NodeId) (i : ℕ) (default : NodeId) → i < length ids → Underway start g (drop i ids) → HadTurn g (get_or ids i default) h → Underway start h (drop (i + 1) ids)
underway_more start g h ids i default below underway had =
    rw add-one (underway_next g h (get_or ids i default) had start (drop (suc i) ids) (subst (Underway start g) (drop-cons ids i default below) underway))

pub underway_last : (start : NamedGraph) (g : GraphValue) (ids : List NodeId) → ids ≡ [] → Underway start g ids → Turns start (fin.keys start.nodes) g.graph
underway_last start g ids none u = at u.names (sym (ap (map (fin.get g.ids)) none) ∙ u.are_named) u.leads
  where
    at : (names : List Name) → [] ≡ map Some names → ((h : NamedGraph) → Turns g.graph names h → Turns start (fin.keys start.nodes) h) → Turns start (fin.keys start.nodes) g.graph
    at [] e leads = leads g.graph refl
    at (name ∷ names) e leads = absurd (cc)
