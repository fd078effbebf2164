-- An exchange in a graph that was given more slots first.
use Rattle.std.proofs.Common.{◌≡◌, ℕ, ◌+◌, ◌-◌, ◌≤◌, max, List, [], ◌∷◌, length, sym, subst, arith}
use Rattle.std.specs.FinMap as finite
use Rattle.components.specs.declared.node.Node.{Node}
use Rattle.graph_core.specs.declared.exchange.End.{End}
use Rattle.graph_core.specs.declared.place.NodeId.{NodeId}
use Rattle.graph_core.specs.Ids.{id_total, id_same}
use Rattle.graph_core.specs.Cells.{CellsValue}
use Rattle.graph_core.specs.Names.{IdsByName}
use Rattle.graph_core.specs.Inside.{IsArena, value_of}
use Rattle.graph_core.specs.GraphValue.{GraphValue, Ids, name_by, without_id}
use Rattle.graph_core.specs.Exchange.{CanExchange, IsExchanged}
use Rattle.graph_core.specs.Steps.{AreDenoted, without_ids}
use Rattle.graph_core.proofs.Counting.{len_removed}

abbrev pub with_slots : GraphValue → ℕ → GraphValue
with_slots g slots = record { graph = g.graph; ids = g.ids; slots = slots }

module _ (c d : CellsValue) (table list : IdsByName) (cells : d.cells ≡ c.cells) (names : list ≡ table) where
  pub arena_grown : IsArena c table → IsArena d list
  arena_grown ok =
      subst (IsArena d) (sym names) (subst (λ m. IsArena (record { cells = m; slots = d.slots }) table) (sym cells)
      (record { nodes = ok.nodes; listed = ok.listed; names = ok.names; room = ok.room; forth = ok.forth; back = ok.back; wires = ok.wires }))

  pub value_grown : value_of d list ≡ with_slots (value_of c table) d.slots
  value_grown = λ i. value_of (record { cells = cells i; slots = d.slots }) (names i)

module _ (g : GraphValue) (slots : ℕ) (gone : List NodeId) (fresh : List Node) (wires : List (End × End)) where
  pub can_grown : CanExchange g gone fresh wires → CanExchange (with_slots g slots) gone fresh wires
  can_grown can =
      record {
        live = can.live;
        distinct = can.distinct;
        nodes = can.nodes;
        names = can.names;
        free = can.free;
        ends = can.ends;
        fit = can.fit;
        outputs = can.outputs;
        inputs = can.inputs;
      }

  pub exchanged_grown : (h : GraphValue) → IsExchanged (with_slots g slots) gone fresh wires h → h.slots ≡ max g.slots (finite.len h.graph.nodes) → IsExchanged g gone fresh wires h
  exchanged_grown h done is = record { graph = done.graph; stay = done.stay; slots = is }

-- so many ids less
pub fewer_ids : (names : Ids) (h : GraphValue) (gone : List NodeId) → AreDenoted names h gone → finite.len (without_ids names h gone).ids + length gone ≡ finite.len h.ids
fewer_ids names h [] denoted = omega arith
fewer_ids names h (id ∷ gone) denoted =
    let rest : finite.len (without_ids names (without_id h id (name_by names id)) gone).ids + length gone ≡ finite.len (finite.remove h.ids id) = fewer_ids names (without_id h id (name_by names id)) gone denoted.1 in
    let one = len_removed id_total id_same h.ids id (name_by names id) denoted.0 in
    omega arith

pub slots_left : (live slots fresh gone grown left : ℕ) → live ≤ slots → grown ≡ max slots (live + (fresh - gone)) → left + gone ≡ live → left + fresh ≤ grown
slots_left live slots fresh gone grown left room is fewer = omega arith

pub slots_same : (live slots fresh gone grown left all : ℕ) → live ≤ slots → grown ≡ max slots (live + (fresh - gone)) → left + gone ≡ live → all ≡ left + fresh → max grown all ≡ max slots all
slots_same live slots fresh gone grown left all room is fewer more = omega arith
