-- The steps of an exchange.
use Rattle.std.proofs.Common.{◌≡◌, ◌≢◌, inl, inr, ℕ, zero, suc, map, ◌+◌, ◌<◌, ◌≤◌, max, List, [], ◌∷◌, ◌++◌, drop, get_or, length, slice_get, cond, Some, None, is_some, refl, sym, ap, subst, ◌∙◌, arith}
use Rattle.std.proofs.lemmas.Bool.{cases_eq}
use Rattle.std.proofs.lemmas.List.{at_drop_more, get_or-map, length-append}
use Rattle.std.proofs.lemmas.Option.{none-some, same_Some, slice_get-get_or}
use Rattle.std.specs.FinMap as finite
use Rattle.std.specs.List.{All}
use Rattle.components.specs.declared.node.Node.{Node}
use Rattle.components.specs.Lookups.{get_inserted, get_not_inserted}
use Rattle.components.specs.Name.{Name, Port}
use Rattle.graph_core.specs.declared.exchange.End.{End}
use Rattle.components.specs.NamedGraph.{NamedGraph, CanWire, with_wire}
use Rattle.graph_core.specs.declared.place.NodeId.{NodeId}
use Rattle.graph_core.specs.declared.place.PortAt.{PortAt}
use Rattle.graph_core.specs.Arena.{CanLink, linked}
use Rattle.graph_core.specs.Cells.{CellsValue}
use Rattle.graph_core.specs.declared.steps.Made.{Made}
use Rattle.graph_core.specs.Made.{node_of}
use Rattle.graph_core.specs.Names.{IdsByName}
use Rattle.graph_core.specs.Inside.{IsArena, value_of}
use Rattle.graph_core.proofs.Link.{can_link_by, link_ok, link_value}
use Rattle.graph_core.specs.Ids.{id_total, id_same}
use Rattle.graph_core.specs.GraphValue.{GraphValue, Ids, Denotes, name_by, port_by, port_of, with_id, without_id}
use Rattle.graph_core.specs.Exchange.{with_nodes}
use Rattle.graph_core.specs.Steps.{AreAdded, AreDenoted, CanAdd, Fits, place_of, with_pairs, without_ids}
use Rattle.graph_core.proofs.SlotLemmas.{push_here, push_other}

-- what is left of a list
pub next : {A : Type 0} (xs : List A) (i : ℕ) (x : A) → i < length xs → x ≡ get_or xs i x → drop i xs ≡ x ∷ drop (i + 1) xs
next xs i x within is = at_drop_more (λ ys. ys) xs i x within ∙ ap (λ y. y ∷ drop (i + 1) xs) (sym is)

-- Taking nodes out

-- what is left may be taken out, and gives what all give from the start
pub record SoRemoved (g : GraphValue) (gone : List NodeId) (h : GraphValue) (rest : List NodeId) : Type 0 where
  pub denoted : AreDenoted g.ids h rest
  pub whole : without_ids g.ids h rest ≡ without_ids g.ids g gone

module _ (g : GraphValue) (gone : List NodeId) (h : GraphValue) (id : NodeId) (rest : List NodeId) (so_far : SoRemoved g gone h (id ∷ rest)) where
  pub so_removed : (after : GraphValue) → ((name : Name) → Denotes h id name → after ≡ without_id h id name) → SoRemoved g gone after rest
  so_removed after step =
      subst (λ k. SoRemoved g gone k rest) (sym (step (name_by g.ids id) so_far.denoted.0)) (record { denoted = so_far.denoted.1; whole = so_far.whole })

-- Adding nodes

pub record SoAdded (g : GraphValue) (nodes : List Node) (ids : List NodeId) (h : GraphValue) (rest : List Node) (count : ℕ) : Type 0 where
  pub can : CanAdd h.graph rest
  pub whole : with_nodes h.graph rest ≡ with_nodes g.graph nodes
  pub added : AreAdded g nodes ids h
  pub counted : length ids ≡ count
  pub more : finite.len h.ids ≡ finite.len g.ids + count

-- there is room for the nodes that are left
pub record Room (all done room cells slots length capacity : ℕ) : Type 0 where
  pub names : all ≤ done + room
  pub cells_left : cells + all ≤ done + slots
  pub ids_left : length + all ≤ done + capacity

pub so_added-none : (g : GraphValue) (nodes : List Node) → CanAdd g.graph nodes → finite.len g.ids ≤ g.slots → SoAdded g nodes [] g nodes 0
so_added-none g nodes can room =
    record {
      can = can;
      whole = refl;
      added = record { each = λ i node below. absurd (omega arith); kept = λ id name denotes. denotes; slots = omega arith };
      counted = refl;
      more = omega arith;
    }

module _ (g : GraphValue) (nodes : List Node) (ids : List NodeId) (h : GraphValue) (node : Node) (rest : List Node) (count : ℕ) (so_far : SoAdded g nodes ids h (node ∷ rest) count) (at : slice_get nodes count ≡ Some node) where
  module _ (id : NodeId) (fresh : finite.get h.ids id ≡ None) where
    after : GraphValue
    after = with_id h id node

    stays : (other : NodeId) (name : Name) → Denotes h other name → Denotes (with_id h id node) other name
    stays other name denotes =
        get_not_inserted id_total id_same h.ids id node.name other (λ is. none-some name (sym fresh ∙ ap (finite.get h.ids) (sym is) ∙ denotes)) ∙ denotes

    each_after : (i : ℕ) (found : Node) → i < length (ids ++ id ∷ []) → slice_get nodes i ≡ Some found → (new : NodeId) × (slice_get (ids ++ id ∷ []) i ≡ Some new) × Denotes (with_id h id node) new found.name
    each_after i found below is =
        elim (cases_eq i (length ids)) [
          | inl last ↦
              let one : node ≡ found = same_Some _ _ (sym at ∙ ap (slice_get nodes) (sym so_far.counted ∙ sym last) ∙ is) in
              (id, ap (slice_get (ids ++ id ∷ [])) last ∙ push_here ids id, get_inserted id_total id_same h.ids id node.name id refl ∙ ap (λ (n : Node). Some n.name) one)
          | inr earlier ↦
              let old = so_far.added.each i found (shorter ids id i below earlier) is in
              (old.0, push_other ids i id earlier ∙ old.1, stays old.0 found.name old.2)
        ]
      where
        shorter : (ids : List NodeId) (id : NodeId) (i : ℕ) → i < length (ids ++ id ∷ []) → i ≢ length ids → i < length ids
        shorter ids id i below apart = let longer : length (ids ++ id ∷ []) ≡ length ids + 1 = length-append ids (id ∷ []) in omega arith

    pub so_added : SoAdded g nodes (ids ++ id ∷ []) (with_id h id node) rest (count + 1)
    so_added =
        let more : finite.len (finite.insert h.ids id node.name) ≡ finite.len h.ids + 1 =
        finite.len-insert id_total h.ids id node.name ∙ ap (λ o. cond (is_some o) (finite.len h.ids) (finite.len h.ids + 1)) fresh in
        let longer : length (ids ++ id ∷ []) ≡ length ids + 1 = length-append ids (id ∷ []) in
        let slots : h.slots ≡ max g.slots (finite.len h.ids) = so_far.added.slots in
        record {
          can = so_far.can.2;
          whole = so_far.whole;
          added = record { each = each_after; kept = λ other name denotes. stays other name (so_far.added.kept other name denotes); slots = omega arith };
          counted = longer ∙ ap (λ n. n + 1) so_far.counted;
          more = let was : finite.len h.ids ≡ finite.len g.ids + count = so_far.more in omega arith;
        }

-- Adding wires

pub record SoWired (port : End → Port) (g : GraphValue) (wires : List (End × End)) (h : GraphValue) (rest : List (End × End)) : Type 0 where
  pub fit : Fits port h.graph rest
  pub whole : with_pairs port h.graph rest ≡ with_pairs port g.graph wires
  pub ids : h.ids ≡ g.ids
  pub slots : h.slots ≡ g.slots

module _ (c : CellsValue) (table : IdsByName) (ok : IsArena c table) (ids : List NodeId) (g : GraphValue) (wires : List (End × End)) (wire : End × End) (rest : List (End × End))
    (so_far : SoWired (λ end. port_of g (place_of ids end)) g wires (value_of c table) (wire ∷ rest)) where
  abbrev port : End → Port
  port end = port_of g (place_of ids end)

  abbrev source : PortAt
  source = place_of ids wire.0

  abbrev target : PortAt
  target = place_of ids wire.1

  can : CanLink c source target
  can = can_link_by c table ok source target (subst (λ m. CanWire (value_of c table).graph (port_by m source) (port_by m target)) (sym so_far.ids) so_far.fit.0)

  abbrev wired_at : Ids → NamedGraph
  wired_at m = with_wire (value_of c table).graph (port_by m source) (port_by m target)

  pub so_wired : IsArena (linked c source target) table × SoWired port g wires (value_of (linked c source target) table) rest
  so_wired = (
    link_ok c table ok source target can,
    subst (λ k. SoWired port g wires k rest) (sym (link_value c table ok source target can))
        (record {
          fit = subst (λ m. Fits port (wired_at m) rest) (sym so_far.ids) so_far.fit.1;
          whole = ap (λ m. with_pairs port (wired_at m) rest) so_far.ids ∙ so_far.whole;
          ids = so_far.ids;
          slots = so_far.slots;
        }),
  )

-- Lists that grow

pub map_push : {A B : Type 0} (f : A → B) (xs : List A) (x : A) → map f (xs ++ x ∷ []) ≡ map f xs ++ f x ∷ []
map_push f [] x = refl
map_push f (y ∷ xs) x = ap (λ ys. f y ∷ ys) (map_push f xs x)

pub all_push : {A : Type 0} (P : A → Type 0) (xs : List A) (x : A) → All P xs → P x → All P (xs ++ x ∷ [])
all_push P [] x each one zero d below = one
all_push P [] x each one (suc k) d below = absurd (omega arith)
all_push P (y ∷ xs) x each one zero d below = each zero d (omega arith)
all_push P (y ∷ xs) x each one (suc k) d below = all_push P xs x (λ k d less. each (suc k) d (omega arith)) one k d (omega arith)

-- The turn of one of the new nodes

pub record Turn (made : List Made) (i : ℕ) (one : Made) : Type 0 where
  pub within : i < length made
  pub is : one ≡ get_or made i one
  pub at : slice_get (map node_of made) i ≡ Some (node_of one)
  pub left : drop i (map node_of made) ≡ node_of one ∷ drop (i + 1) (map node_of made)

pub length_mapped : {A B : Type 0} (f : A → B) (xs : List A) → length (map f xs) ≡ length xs
length_mapped f [] = refl
length_mapped f (x ∷ xs) = ap suc (length_mapped f xs)

pub made_turn : (made : List Made) (i : ℕ) (one : Made) → i < length made → one ≡ get_or made i one → Turn made i one
made_turn made i one within is =
    let long : length (map node_of made) ≡ length made = length_mapped node_of made in
    let here : node_of one ≡ get_or (map node_of made) i (node_of one) = ap node_of is ∙ sym (get_or-map node_of made i one (node_of one) within) in
    record {
      within = within;
      is = is;
      at = slice_get-get_or (map node_of made) i (node_of one) (omega arith) ∙ ap Some (sym here);
      left = next (map node_of made) i (node_of one) (omega arith) here;
    }
