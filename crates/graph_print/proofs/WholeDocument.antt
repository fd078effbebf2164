-- The statements of the nodes and of the wires are the canonical document.
use Rattle.std.proofs.Common.{◌≡◌, List, [], ◌∷◌, ◌++◌, map, flat_map, Option, Some, sym, refl, ap, ◌∙◌}
use Rattle.std.specs.FinMap as map_of
use Rattle.std.proofs.lemmas.List.Folds.{flat_map-map}
use Rattle.graph_core.specs.declared.place.NodeId.{NodeId}
use Rattle.graph_core.specs.GraphValue.{GraphValue, AreInOrder}
use Rattle.components.specs.Name.{Name}
use Rattle.components.specs.Node.{Body}
use Rattle.components.specs.NamedGraph.{NamedGraph}
use Rattle.components.specs.Entries.{each_found}
use Rattle.components.specs.Orders.{name_total, name_same}
use Rattle.std.specs.List.{AllByRecursion}
use Rattle.std.specs.Option.{option_map}
use Rattle.graph_print.specs.CanonicalText.{node_entry, edge_entry}
use Rattle.graph_print.specs.PrintedWires.{wires_into}
use Rattle.graph_print.specs.DocumentParts.{node_under, node_of, node_entries_of, node_entries_at, edge_entries_of, edge_entries_at}
use Rattle.graph_print.proofs.WireOrder.{AreWires, wires_in_order}

one_each : {A B : Type 0} (f : A → B) (xs : List A) → flat_map (λ x. f x ∷ []) xs ≡ map f xs
one_each f [] = refl
one_each f (x ∷ xs) = ap (λ rest. f x ∷ rest) (one_each f xs)

map-append : {A B : Type 0} (f : A → B) (xs ys : List A) → map f (xs ++ ys) ≡ map f xs ++ map f ys
map-append f [] ys = refl
map-append f (x ∷ xs) ys = ap (λ rest. f x ∷ rest) (map-append f xs ys)

map-flat_map : {A B C : Type 0} (f : B → C) (g : A → List B) (xs : List A) → flat_map (λ x. map f (g x)) xs ≡ map f (flat_map g xs)
map-flat_map f g [] = refl
map-flat_map f g (x ∷ xs) = ap (λ rest. map f (g x) ++ rest) (map-flat_map f g xs) ∙ sym (map-append f (g x) (flat_map g xs))

-- a list for each id is one for each element that it stands for
flat_map-entries : {A E B : Type 0} (f : A → Option E) (made : Option E → List B) (made_of : E → List B) → ((e : E) → made (Some e) ≡ made_of e) → (ids : List A) (es : List E) → map f ids ≡ map Some es → flat_map (λ id. made (f id)) ids ≡ flat_map made_of es
flat_map-entries f made made_of each ids es is =
    sym (flat_map-map made f ids) ∙ ap (flat_map made) is ∙ flat_map-map made Some es ∙ (λ i. flat_map (λ e. each e i) es)

-- the nodes of the ids are those of the graph in the order of their names

entry_found : (g : NamedGraph) (e : Name × Body) → map_of.get g.nodes e.0 ≡ Some e.1 → node_under g (Some e.0) ≡ Some e
entry_found g e found = ap (option_map (λ body. (e.0, body))) found

each_entry : (g : NamedGraph) (es : List (Name × Body)) → AllByRecursion (λ e. map_of.get g.nodes e.0 ≡ Some e.1) es → map (node_under g) (map Some (map (λ e. e.0) es)) ≡ map Some es
each_entry g [] each = refl
each_entry g (e ∷ es) each =
    λ i. entry_found g e each.0 i ∷ each_entry g es each.1 i

map-map : {A B C : Type 0} (f : A → B) (h : B → C) (xs : List A) → map h (map f xs) ≡ map (λ x. h (f x)) xs
map-map f h [] = refl
map-map f h (x ∷ xs) = ap (λ rest. h (f x) ∷ rest) (map-map f h xs)

nodes_in_order : (g : GraphValue) (ids : List NodeId) → AreInOrder g ids → map (node_of g) ids ≡ map Some (map_of.entries g.graph.nodes)
nodes_in_order g ids order =
    sym (map-map (map_of.get g.ids) (node_under g.graph) ids) ∙ ap (map (node_under g.graph)) order
    ∙ each_entry g.graph (map_of.entries g.graph.nodes) (each_found name_total name_same g.graph.nodes)

module _ (g : GraphValue) (ids : List NodeId) (order : AreInOrder g ids) where
  pub statements_of_nodes : flat_map (node_entries_at g) ids ≡ map node_entry (map_of.entries g.graph.nodes)
  statements_of_nodes =
      flat_map-entries (node_of g) node_entries_of (λ node. node_entry node ∷ []) (λ node. refl) ids (map_of.entries g.graph.nodes) (nodes_in_order g ids order)
      ∙ one_each node_entry (map_of.entries g.graph.nodes)

  pub statements_of_wires : AreWires g.graph → flat_map (edge_entries_at g) ids ≡ map edge_entry (map_of.entries g.graph.feeders)
  statements_of_wires wires =
      flat_map-entries (node_of g) (edge_entries_of g.graph) (λ node. map edge_entry (wires_into g.graph node)) (λ node. refl) ids (map_of.entries g.graph.nodes) (nodes_in_order g ids order)
      ∙ map-flat_map edge_entry (wires_into g.graph) (map_of.entries g.graph.nodes)
      ∙ ap (map edge_entry) (wires_in_order g.graph wires)
