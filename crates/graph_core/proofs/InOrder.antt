-- A tree of names and ids holds the nodes of a graph, slot by slot.
use Rattle.std.proofs.Common.{◌≡◌, ◌≢◌, inl, inr, ℕ, ◌+◌, ◌<◌, List, [], ◌∷◌, map, Some, None, Bor, refl, sym, ap, subst, ◌∙◌, arith}
use Rattle.std.proofs.lemmas.Bool.{cases_eq}
use Rattle.std.proofs.lemmas.List.{nil_from_length}
use Rattle.std.proofs.lemmas.Option.{same_Some, none-some}
use Rattle.std.specs.BTreeMap.{insert_entry}
use Rattle.std.specs.FinMap as finite
use Rattle.components.specs.declared.node.Node.{Node}
use Rattle.components.specs.Name.{Name, name_cmp}
use Rattle.components.specs.Node.{Body, body_of}
use Rattle.components.specs.Lookups.{get_inserted, get_not_inserted, same_by}
use Rattle.components.specs.Orders.{name_total, name_same, name_cases}
use Rattle.graph_core.specs.declared.place.NodeId.{NodeId}
use Rattle.graph_core.specs.Place.{id_of}
use Rattle.graph_core.specs.GraphValue.{GraphValue, AreInOrder, Denotes, IsGraph, IsNodeAt}
use Rattle.components.specs.ByKey.{Matches, Matches-insert, Matches-values, ref_cmp}

-- the tree has the names and the ids of these nodes
abbrev AreIds : GraphValue → List (Bor Name × NodeId) → List (Name × Body) → Type 0
AreIds g = Matches (finite.get g.ids) (λ (e : Name × Body). Some e.0)

-- the tree has the nodes of all ids below i
pub record SoFar (g : GraphValue) (tree : List (Bor Name × NodeId)) (i : ℕ) : Type 0 where
  pub nodes : finite.FinMap name_cmp Body
  pub matches : AreIds g tree (finite.entries nodes)
  pub there : (id : NodeId) (name : Name) (body : Body) → id.index < i → Denotes g id name → finite.get g.graph.nodes name ≡ Some body → finite.get nodes name ≡ Some body
  pub back : (name : Name) (body : Body) → finite.get nodes name ≡ Some body → finite.get g.graph.nodes name ≡ Some body

module _ (g : GraphValue) where
  pub so_far-nothing : SoFar g [] 0
  so_far-nothing =
      let none : finite.entries (finite.empty {R = name_cmp}) ≡ [] = nil_from_length _ (sym (finite.len-entries (finite.empty {R = name_cmp})) ∙ finite.len-empty name_cmp Body) in
      record {
        nodes = finite.empty;
        matches = subst (AreIds g []) (sym none) tt;
        there = λ id name body below. absurd (omega arith);
        back = λ name body found. absurd (none-some body (sym (finite.get-empty name_cmp name) ∙ found));
      }

  module _ (tree : List (Bor Name × NodeId)) (i : ℕ) (so_far : SoFar g tree i) where
    earlier : (id : NodeId) → id ≢ id_of i → id.index < i + 1 → id.index < i
    earlier id other below =
        elim (cases_eq id.index i) [
          | inl one ↦ absurd (other (ap id_of one))
          | inr two ↦ omega arith
        ]

    pub so_far-none : finite.get g.ids (id_of i) ≡ None → SoFar g tree (i + 1)
    so_far-none dead =
        record {
          nodes = so_far.nodes;
          matches = so_far.matches;
          back = so_far.back;
          there = λ id name body below denotes.
              so_far.there id name body (earlier id (λ is. none-some name (sym dead ∙ ap (finite.get g.ids) (sym is) ∙ denotes)) below) denotes;
        }

    module _ (node : Node) (at : IsNodeAt g (id_of i) node) (key : Bor Name) (is_key : key.now ≡ node.name) where
      put_matches : AreIds g (insert_entry ref_cmp tree key (id_of i)) (finite.entries (finite.insert so_far.nodes key.now (body_of node)))
      put_matches =
          subst (AreIds g (insert_entry ref_cmp tree key (id_of i))) (sym (finite.entries-insert name_total so_far.nodes key.now (body_of node)))
          (Matches-insert (finite.get g.ids) (λ (e : Name × Body). Some e.0) key (id_of i) (body_of node) (at.denotes ∙ ap Some (sym is_key)) tree (finite.entries so_far.nodes) so_far.matches)

      body_at : (name : Name) → name ≡ key.now → finite.get g.graph.nodes name ≡ Some (body_of node)
      body_at name is = ap (finite.get g.graph.nodes) (is ∙ is_key) ∙ at.body

      pub so_far-node : SoFar g (insert_entry ref_cmp tree key (id_of i)) (i + 1)
      so_far-node =
          record {
            nodes = finite.insert so_far.nodes key.now (body_of node);
            matches = put_matches;
            there = λ id name body below denotes found. elim (name_cases name key.now) [
              | inl one ↦ get_inserted name_total name_same so_far.nodes key.now (body_of node) name one ∙ sym (body_at name one) ∙ found
              | inr two ↦
                  let other : id ≢ id_of i = λ is. two (same_Some _ _ (sym denotes ∙ ap (finite.get g.ids) is ∙ at.denotes) ∙ sym is_key) in
                  get_not_inserted name_total name_same so_far.nodes key.now (body_of node) name two ∙ so_far.there id name body (earlier id other below) denotes found
            ];
            back = λ name body found. elim (name_cases name key.now) [
              | inl one ↦ body_at name one ∙ sym (get_inserted name_total name_same so_far.nodes key.now (body_of node) name one) ∙ found
              | inr two ↦ so_far.back name body (sym (get_not_inserted name_total name_same so_far.nodes key.now (body_of node) name two) ∙ found)
            ];
          }

  pub all_in_order : IsGraph g → (tree : List (Bor Name × NodeId)) → SoFar g tree g.slots → AreInOrder g (map (λ x. x.1) tree)
  all_in_order is tree so_far =
      let all : so_far.nodes ≡ g.graph.nodes = same_by name_total name_same so_far.nodes g.graph.nodes so_far.back (λ name body found.
      let (id, denotes) = is.live name body found in so_far.there id name body (is.within id name denotes) denotes found) in
      Matches-values (finite.get g.ids) (λ (e : Name × Body). Some e.0) tree (finite.entries so_far.nodes) so_far.matches ∙ in_keys (finite.entries so_far.nodes) ∙ ap (λ m. map Some (finite.keys m)) all
    where
      in_keys : (es : List (Name × Body)) → map (λ e. Some e.0) es ≡ map Some (map (λ e. e.0) es)
      in_keys [] = refl
      in_keys (e ∷ es) = ap (λ rest. Some e.0 ∷ rest) (in_keys es)
