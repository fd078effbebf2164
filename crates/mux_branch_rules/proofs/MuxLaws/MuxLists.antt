-- The lists of nodes that the two graphs are made of.
use Rattle.std.proofs.Common.{◌≡◌, ℕ, suc, ◌+◌, ◌≤◌, Bool, true, false, codes, drop, length, map, List, [], ◌∷◌, ◌++◌, refl, sym, ap, ◌∙◌, append_assoc, arith}
use Rattle.std.proofs.lemmas.List.{get_or-drop, length-drop}
use Rattle.components.specs.declared.kind.Kind.{Kind}
use Rattle.components.specs.declared.kind.Kind.TheVariants as kind
use Rattle.components.specs.declared.node.Node.{Node}
use Rattle.components.specs.Name.{Name}
use Rattle.components.specs.Kind.{Shape}
use Rattle.circuit_plans.specs.Places.{Place, first, later, item, before, each_of}
use Rattle.lane_laws.specs.CombineMuxes.{Tree, Muxes, choice, node, value2, value3, mux, out, muxes, muxes_kind, OneMux, new_choice, new_join2, new_join3, new_mux, new_split, new_value2, new_value3, new_out, one_mux, one_mux_kind}
use Rattle.subst_engine.specs.Making.{bare_node}
use Rattle.drawn_rules.specs.declared.row_ends.EndKind.TheVariants.{Entry, Exit}
use Rattle.drawn_rules.specs.Labels.{nth}
use Rattle.drawn_rules.specs.RowEnds.{end_nodes}
use Rattle.drawn_rules.specs.Sides.{nodes_of}
use Rattle.drawn_rules.proofs.Labelled.{map_both}
use Rattle.drawn_rules.proofs.Places.{each_next}
use Rattle.drawn_rules.proofs.RowEnds.{ends_each}
use Rattle.mux_branch_rules.specs.MuxCombine.{mux_old_name, mux_new_name}
use Rattle.mux_branch_rules.specs.MuxSides.{tree_nodes, mux_nodes, mux_old_list, mux_new_list}

-- nodes of the tree by their names are a family, and so are Muxes

tree_from : {N : Type 0} (names : List Name) (kinds : List Kind) (family : Place kinds → N) (made : N → Node) → length kinds ≤ length names →
    ((n : Place kinds) → bare_node (nth names (before kinds n)) (item kinds n) ≡ made (family n)) → tree_nodes names kinds ≡ map made (each_of kinds family)
tree_from [] [] family made few h = refl
tree_from [] (k ∷ kinds) family made few h = absurd (omega (arith, few))
tree_from (n ∷ names) [] family made few h = refl
tree_from (n ∷ names) (k ∷ kinds) family made few h =
    (λ i. h first i ∷ tree_from names kinds (λ l. family (later l)) made (omega (arith, few)) (λ l. h (later l)) i) ∙ ap (map made) (sym (each_next k kinds family))

muxes_from : {N : Type 0} (names : List Name) (lanes : List Shape) (family : Place lanes → N) (made : N → Node) → length names ≡ length lanes →
    ((l : Place lanes) → bare_node (nth names (before lanes l)) (kind.Mux (item lanes l)) ≡ made (family l)) → mux_nodes names lanes ≡ map made (each_of lanes family)
muxes_from [] [] family made long h = refl
muxes_from [] (a ∷ lanes) family made long h = absurd (omega (arith, long))
muxes_from (n ∷ names) [] family made long h = absurd (omega (arith, long))
muxes_from (n ∷ names) (a ∷ lanes) family made long h =
    (λ i. h first i ∷ muxes_from names lanes (λ l. family (later l)) made (omega (arith, long)) (λ l. h (later l)) i) ∙ ap (map made) (sym (each_next a lanes family))

pub muxes_long : (names : List Name) (kinds : List Kind) (lanes : List Shape) → length names ≡ length kinds + length lanes → length (drop (length kinds) names) ≡ length lanes
muxes_long names kinds lanes long = let cut = length-drop (length kinds) names in omega (arith, cut, long)

regroup3 : (a b c d : List Node) → ((a ++ b) ++ c) ++ d ≡ a ++ (b ++ (c ++ d))
regroup3 a b c d = append_assoc (a ++ b) c d ∙ append_assoc a b (c ++ d)

regroup5 : (a b c d e f : List Node) → ((((a ++ b) ++ c) ++ d) ++ e) ++ f ≡ a ++ (b ++ (c ++ (d ++ (e ++ f))))
regroup5 a b c d e f = append_assoc (((a ++ b) ++ c) ++ d) e f ∙ append_assoc ((a ++ b) ++ c) d (e ++ f) ∙ regroup3 a b c (d ++ (e ++ f))

map3 : {N : Type 0} (made : N → Node) (a b c : List N) → map made (a ++ (b ++ c)) ≡ map made a ++ (map made b ++ map made c)
map3 made a b c = map_both made a (b ++ c) ∙ ap (λ z. map made a ++ z) (map_both made b c)

map5 : {N : Type 0} (made : N → Node) (a b c d e : List N) → map made (a ++ (b ++ (c ++ (d ++ e)))) ≡ map made a ++ (map made b ++ (map made c ++ (map made d ++ map made e)))
map5 made a b c d e =
    map_both made a (b ++ (c ++ (d ++ e))) ∙ ap (λ z. map made a ++ z) (map_both made b (c ++ (d ++ e)) ∙ ap (λ z. map made b ++ z) (map3 made c d e))

module _ (prefix ends : ℕ) (names : List Name) (kinds : List Kind) (lanes : List Shape) where
  abbrev old_made : Muxes kinds lanes → Node
  old_made n = bare_node (mux_old_name prefix ends names kinds lanes n) (muxes_kind kinds lanes n)

  old_families : length names ≡ length kinds + length lanes →
      tree_nodes names kinds ++ (end_nodes Entry ends (codes "p") 1 lanes ++ (end_nodes Entry ends (codes "q") 1 lanes ++ (mux_nodes (drop (length kinds) names) lanes ++ end_nodes Exit ends (codes "x") 1 lanes))) ≡
      map old_made (each_of kinds node ++ (each_of lanes value2 ++ (each_of lanes value3 ++ (each_of lanes mux ++ each_of lanes out))))
  old_families long =
      (λ i. tree_from names kinds node old_made (omega (arith, long)) (λ n. refl) i ++ (ends_each Entry ends (codes "p") lanes value2 old_made (λ l. refl) i ++
      (ends_each Entry ends (codes "q") lanes value3 old_made (λ l. refl) i ++
      (muxes_from (drop (length kinds) names) lanes mux old_made (muxes_long names kinds lanes long) (λ l. ap (λ (z : Name). bare_node z (kind.Mux (item lanes l))) (get_or-drop (length kinds) names (before lanes l) [])) i ++
      ends_each Exit ends (codes "x") lanes out old_made (λ l. refl) i))))
      ∙ sym (map5 old_made (each_of kinds node) (each_of lanes value2) (each_of lanes value3) (each_of lanes mux) (each_of lanes out))

  pub old_nodes_are : length names ≡ length kinds + length lanes → (tree : Tree kinds lanes) → mux_old_list ends names kinds lanes ≡ nodes_of (muxes kinds lanes tree) (mux_old_name prefix ends names kinds lanes)
  old_nodes_are long tree =
      regroup5 (old_made choice ∷ []) (tree_nodes names kinds) (end_nodes Entry ends (codes "p") 1 lanes) (end_nodes Entry ends (codes "q") 1 lanes) (mux_nodes (drop (length kinds) names) lanes) (end_nodes Exit ends (codes "x") 1 lanes)
      ∙ ap (λ z. old_made choice ∷ z) (old_families long)

  module _ (goes_back : Bool) where
    abbrev new_made : OneMux lanes → Node
    new_made n = bare_node (mux_new_name prefix ends names goes_back lanes n) (one_mux_kind lanes n)

    new_families : end_nodes Entry ends (codes "p") 1 lanes ++ (end_nodes Entry ends (codes "q") 1 lanes ++ end_nodes Exit ends (codes "x") 1 lanes) ≡
        map new_made (each_of lanes new_value2 ++ (each_of lanes new_value3 ++ each_of lanes new_out))
    new_families =
        (λ i. ends_each Entry ends (codes "p") lanes new_value2 new_made (λ l. refl) i ++
        (ends_each Entry ends (codes "q") lanes new_value3 new_made (λ l. refl) i ++ ends_each Exit ends (codes "x") lanes new_out new_made (λ l. refl) i))
        ∙ sym (map3 new_made (each_of lanes new_value2) (each_of lanes new_value3) (each_of lanes new_out))

    pub new_nodes_are : mux_new_list prefix ends goes_back lanes ≡ nodes_of (one_mux lanes) (mux_new_name prefix ends names goes_back lanes)
    new_nodes_are =
        regroup3 (new_made new_choice ∷ new_made new_join2 ∷ new_made new_join3 ∷ new_made new_mux ∷ new_made new_split ∷ [])
        (end_nodes Entry ends (codes "p") 1 lanes) (end_nodes Entry ends (codes "q") 1 lanes) (end_nodes Exit ends (codes "x") 1 lanes)
        ∙ ap (λ z. new_made new_choice ∷ new_made new_join2 ∷ new_made new_join3 ∷ new_made new_mux ∷ new_made new_split ∷ z) new_families
