-- The inputs of a node, fed one after another as those of the node of its name in another graph.
use Rattle.std.proofs.Common.{◌≡◌, ◌≢◌, inl, inr, ℕ, ◌+◌, ◌<◌, ◌≤◌, true, [], length, Option, Some, None, is_some, true≢false, refl, sym, ap, subst, ◌∙◌, arith}
use Rattle.std.proofs.lemmas.Bool.{cases_lt}
use Rattle.std.proofs.lemmas.Option.{none-some, same_Some}
use Rattle.std.specs.Prelude.{IsSome, unwrap_or}
use Rattle.std.specs.FinMap as finite
use Rattle.port_types.specs.declared.side.Side.TheVariants.{Ins}
use Rattle.components.specs.Kind.{ins}
use Rattle.components.specs.Lookups.{get_inserted, get_not_inserted}
use Rattle.components.specs.Name.{Name, Port, port_get}
use Rattle.components.specs.Node.{Body}
use Rattle.components.specs.NamedGraph.{NamedGraph, CanWire, IsTyped, with_wire}
use Rattle.components.specs.Numbered.{there, within}
use Rattle.components.specs.Orders.{port_total, port_same, name_cases}
use Rattle.graph_core.specs.declared.place.NodeId.{NodeId}
use Rattle.graph_core.specs.declared.place.PortAt.{PortAt}
use Rattle.graph_core.specs.GraphValue.{GraphValue, Denotes, name_by, port_of, with_link}
use Rattle.graph_core.specs.Denoting.{port_denoted}
use Rattle.graph_core.specs.Wiring.{HasPort}
use Rattle.module_sem.specs.Beside.{CanFeed, HasNodesOf, IsFedAs, IsToFeed}

-- what is known of a node to be fed, by the name of its id
module _ (h : NamedGraph) (g : GraphValue) (id : NodeId) (count : ℕ) (to : IsToFeed h g id count) where
  named : name_by g.ids id ≡ to.name
  named = ap (λ o. unwrap_or o []) to.denotes

  pub node_found : finite.get g.graph.nodes (name_by g.ids id) ≡ Some to.body
  node_found = ap (finite.get g.graph.nodes) named ∙ to.node

  pub can_be_fed : CanFeed h g.graph (name_by g.ids id)
  can_be_fed = subst (CanFeed h g.graph) (sym named) to.can

  pub has_input : (port : ℕ) → 1 ≤ port → port ≤ count → HasPort g.graph Ins (port_of g (record { node = id; port = port }))
  has_input port some few =
      let (shape, e) = some_of (port_get (ins to.body.kind) port) (there (ins to.body.kind) port (record { some = some; few = omega (arith, to.inputs) })) in
      (shape, (to.body, node_found, e))
    where
      some_of : {A : Type 0} (o : Option A) → is_some o ≡ true → (x : A) × (o ≡ Some x)
      some_of None e = absurd (true≢false (sym e))
      some_of (Some x) e = (x, refl)

-- the source of a wire of g stands in h too
pub source_found : (h g : NamedGraph) → IsTyped g → HasNodesOf h g → (p source : Port) → finite.get g.feeders p ≡ Some source → IsSome (finite.get h.nodes source.node)
source_found h g typed has p source feeds =
    let wire = typed.wires p source feeds in
    ap is_some (has source.node wire.from wire.is_from)

-- an input of a node of this name
abbrev pub input : Name → ℕ → Port
input name port = record { node = name; port = port }

module _ (h g : NamedGraph) (name : Name) where
  -- h, but that the inputs below this number are fed as in g
  pub record FedTo (port : ℕ) (now : NamedGraph) : Type 0 where
    pub nodes : now.nodes ≡ h.nodes
    pub done : (p : Port) → p.node ≡ name → p.port < port → finite.get now.feeders p ≡ finite.get g.feeders p
    pub later : (p : Port) → p.node ≡ name → port ≤ p.port → finite.get now.feeders p ≡ None
    pub others : (p : Port) → p.node ≢ name → finite.get now.feeders p ≡ finite.get h.feeders p

  module _ (typed : IsTyped g) where
    -- the inputs of a node have the numbers from 1 to their count
    not_fed : (p : Port) → ((body : Body) → finite.get g.nodes p.node ≡ Some body → 1 ≤ p.port → p.port ≤ length (ins body.kind) → ⊥) → finite.get g.feeders p ≡ None
    not_fed p outside = at (finite.get g.feeders p) refl
      where
        at : (o : Option Port) → finite.get g.feeders p ≡ o → o ≡ None
        at None e = refl
        at (Some source) e =
            let wire = typed.wires p source e in
            let number = within (ins wire.to.kind) p.port (ap is_some wire.enters) in
            absurd (outside wire.to wire.is_to number.some number.few)

    pub fed_none : CanFeed h g name → FedTo 1 h
    fed_none can =
        record {
          nodes = refl;
          done = λ p here less. can.unfed p here ∙ sym (not_fed p (λ body found some few. omega arith));
          later = λ p here more. can.unfed p here;
          others = λ p away. refl;
        }

    pub fed_all : (body : Body) → finite.get g.nodes name ≡ Some body → (count port : ℕ) → count ≡ length (ins body.kind) → count < port → (now : NamedGraph) → FedTo port now → IsFedAs h g name now
    fed_all body found count port counted past now fed =
        record {
          nodes = fed.nodes;
          there = λ p here. elim (cases_lt p.port port) [
            | inl before ↦ fed.done p here before
            | inr after ↦ fed.later p here after ∙ sym (not_fed p (λ other also some few.
                let same : other ≡ body = same_Some _ _ (sym also ∙ ap (finite.get g.nodes) here ∙ found) in
                let lengths : length (ins other.kind) ≡ length (ins body.kind) = ap (λ (b : Body). length (ins b.kind)) same in
                omega arith))
          ];
          others = fed.others;
        }

    module _ (port : ℕ) (now : NamedGraph) (fed : FedTo port now) (source : Port) (feeds : finite.get g.feeders (input name port) ≡ Some source) where
      -- the next input can be joined to what feeds it in g
      pub can_join : HasNodesOf h g → CanFeed h g name → CanWire now source (input name port)
      can_join has can =
          let wire = typed.wires (input name port) source feeds in
          record {
            wire = record {
              from = wire.from;
              to = wire.to;
              shape = wire.shape;
              is_from = ap (λ m. finite.get m source.node) fed.nodes ∙ has source.node wire.from wire.is_from;
              is_to = ap (λ m. finite.get m name) fed.nodes ∙ has name wire.to wire.is_to;
              leaves = wire.leaves;
              enters = wire.enters;
            };
            target_free = fed.later (input name port) refl (omega arith);
            source_free = λ p found. elim (name_cases p.node name) [
              | inl here ↦ elim (cases_lt p.port port) [
                | inl before ↦
                    let same : p.port ≡ port = ap (λ (q : Port). q.port) (typed.once p (input name port) source (sym (fed.done p here before) ∙ found) feeds) in
                    omega arith
                | inr after ↦ none-some source (sym (fed.later p here after) ∙ found)
              ]
              | inr away ↦ away (ap (λ (q : Port). q.node) (typed.once p (input name port) source (can.within p source wire.from (sym (fed.others p away) ∙ found) wire.is_from) feeds))
            ];
          }

      pub fed_more : (next : NamedGraph) → next ≡ with_wire now source (input name port) → FedTo (port + 1) next
      fed_more next same =
          let elsewhere : (p : Port) → p ≢ input name port → finite.get next.feeders p ≡ finite.get now.feeders p = λ p away.
          ap (λ (z : NamedGraph). finite.get z.feeders p) same ∙ get_not_inserted port_total port_same now.feeders (input name port) source p away in
          record {
            nodes = ap (λ (z : NamedGraph). z.nodes) same ∙ fed.nodes;
            done = λ p here less. elim (cases_lt p.port port) [
              | inl before ↦ elsewhere p (λ is. let e : p.port ≡ port = ap (λ (q : Port). q.port) is in omega arith) ∙ fed.done p here before
              | inr after ↦
                  let number : p.port ≡ port = omega arith in
                  let is : p ≡ input name port = λ i. record { node = here i; port = number i } in
                  ap (λ (z : NamedGraph). finite.get z.feeders p) same ∙ get_inserted port_total port_same now.feeders (input name port) source p is ∙ sym feeds ∙ ap (finite.get g.feeders) (sym is)
            ];
            later = λ p here more. elsewhere p (λ is. let e : p.port ≡ port = ap (λ (q : Port). q.port) is in omega arith) ∙ fed.later p here (omega arith);
            others = λ p away. elsewhere p (λ is. away (ap (λ (q : Port). q.node) is)) ∙ fed.others p away;
          }

-- a wire between nodes of h that have the names of nodes of g
module _ (start now g : GraphValue) (name : Name) (port : ℕ) (target from : NodeId) (source : PortAt) (into : Denotes start target name) (ids : now.ids ≡ start.ids) (out : Denotes now from (name_by g.ids source.node)) where
  abbrev leaves : PortAt
  leaves = record { node = from; port = source.port }

  abbrev enters : PortAt
  enters = record { node = target; port = port }

  leaves_is : port_of now leaves ≡ port_of g source
  leaves_is = port_denoted now leaves (name_by g.ids source.node) out

  enters_is : port_of now enters ≡ input name port
  enters_is = port_denoted now enters name (ap (λ m. finite.get m target) ids ∙ into)

  pub can_by_ids : CanWire now.graph (port_of g source) (input name port) → CanWire now.graph (port_of now leaves) (port_of now enters)
  can_by_ids can = subst (λ p. CanWire now.graph p (port_of now enters)) (sym leaves_is) (subst (CanWire now.graph (port_of g source)) (sym enters_is) can)

  pub wired_by_ids : (next : GraphValue) → next ≡ with_link now leaves enters → next.graph ≡ with_wire now.graph (port_of g source) (input name port)
  wired_by_ids next is = ap (λ (v : GraphValue). v.graph) is ∙ (λ i. with_wire now.graph (leaves_is i) (enters_is i))

-- all inputs are fed
pub fed_by_id : (h : NamedGraph) (g : GraphValue) (id : NodeId) (count : ℕ) → IsToFeed h g id count → IsTyped g.graph → (port : ℕ) (now : NamedGraph) → count < port → FedTo h g.graph (name_by g.ids id) port now
    → (name : Name) → Denotes g id name → IsFedAs h g.graph name now
fed_by_id h g id count to typed port now past fed name denotes =
    subst (λ n. IsFedAs h g.graph n now) (ap (λ o. unwrap_or o []) denotes)
    (fed_all h g.graph (name_by g.ids id) typed to.body (node_found h g id count to) count port to.inputs past now fed)
