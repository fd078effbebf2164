-- Lists that the graphs of mux_combine are made of grow by one element.
use Rattle.std.proofs.Common.{◌≡◌, ℕ, zero, suc, get_or, ◌+◌, ◌<◌, ◌≤◌, refl, sym, ap, ◌∙◌, List, [], ◌∷◌, ◌++◌, length, take, arith, slice_index_or}
use Rattle.std.proofs.lemmas.List.{length-take-le}
use Rattle.components.specs.declared.kind.Kind.{Kind}
use Rattle.components.specs.declared.kind.Kind.TheVariants.{Mux}
use Rattle.components.specs.Name.{Name}
use Rattle.components.specs.Kind.{Shape}
use Rattle.graph_core.specs.declared.exchange.End.TheVariants.{Fresh}
use Rattle.subst_engine.specs.Making.{bare_node}
use Rattle.mux_branch_rules.specs.declared.mux_tree.Source.{Source}
use Rattle.mux_branch_rules.specs.declared.mux_tree.Source.TheVariants.{Outside}
use Rattle.mux_branch_rules.specs.MuxSides.{mux_nodes, tree_nodes, source_end, source_wires}
use Rattle.mux_branch_rules.proofs.LaneLists.{take_more}

mux_last : (names : List Name) (lanes : List Shape) (n : Name) (a : Shape) → length names ≡ length lanes → mux_nodes (names ++ n ∷ []) (lanes ++ a ∷ []) ≡ mux_nodes names lanes ++ bare_node n (Mux a) ∷ []
mux_last [] [] n a long = refl
mux_last [] (b ∷ lanes) n a long = absurd (omega (arith, long))
mux_last (m ∷ names) [] n a long = absurd (omega (arith, long))
mux_last (m ∷ names) (b ∷ lanes) n a long = ap (λ z. bare_node m (Mux b) ∷ z) (mux_last names lanes n a (omega (arith, long)))

pub mux_more : (names : List Name) (lanes : List Shape) (place : ℕ) (n : Name) (a : Shape) → length names ≡ length lanes → slice_index_or names place n ≡ n → slice_index_or lanes place a ≡ a → place < length lanes →
    mux_nodes (take (place + 1) names) (take (place + 1) lanes) ≡ mux_nodes (take place names) (take place lanes) ++ bare_node n (Mux a) ∷ []
mux_more names lanes place n a long is_name is_lane within =
    let few : place < length names = omega (arith, long, within) in
    let one = length-take-le place names (omega (arith, few)) in
    let other = length-take-le place lanes (omega (arith, within)) in
    (λ i. mux_nodes (take_more names place n is_name few i) (take_more lanes place a is_lane within i)) ∙ mux_last (take place names) (take place lanes) n a (one ∙ sym other)

tree_last : (names : List Name) (kinds : List Kind) (n : Name) (k : Kind) → length names ≡ length kinds → tree_nodes (names ++ n ∷ []) (kinds ++ k ∷ []) ≡ tree_nodes names kinds ++ bare_node n k ∷ []
tree_last [] [] n k long = refl
tree_last [] (b ∷ kinds) n k long = absurd (omega (arith, long))
tree_last (m ∷ names) [] n k long = absurd (omega (arith, long))
tree_last (m ∷ names) (b ∷ kinds) n k long = ap (λ z. bare_node m b ∷ z) (tree_last names kinds n k (omega (arith, long)))

pub tree_more : (names : List Name) (kinds : List Kind) (place : ℕ) (n : Name) (k : Kind) → length kinds ≤ length names → slice_index_or names place n ≡ n → slice_index_or kinds place k ≡ k → place < length kinds →
    tree_nodes (take (place + 1) names) (take (place + 1) kinds) ≡ tree_nodes (take place names) (take place kinds) ++ bare_node n k ∷ []
tree_more names kinds place n k long is_name is_kind within =
    let few : place < length names = omega (arith, long, within) in
    let one = length-take-le place names (omega (arith, few)) in
    let other = length-take-le place kinds (omega (arith, within)) in
    (λ i. tree_nodes (take_more names place n is_name few i) (take_more kinds place k is_kind within i)) ∙ tree_last (take place names) (take place kinds) n k (one ∙ sym other)

-- names beyond the kinds are of no node
pub tree_whole : (names : List Name) (kinds : List Kind) → tree_nodes (take (length kinds) names) kinds ≡ tree_nodes names kinds
tree_whole [] [] = refl
tree_whole [] (k ∷ kinds) = refl
tree_whole (n ∷ names) [] = refl
tree_whole (n ∷ names) (k ∷ kinds) = ap (λ z. bare_node n k ∷ z) (tree_whole names kinds)

source_last : (low : ℕ) (sources : List Source) (s : Source) → source_wires low (sources ++ s ∷ []) ≡ source_wires low sources ++ (source_end s, Fresh (low + length sources) 1) ∷ []
source_last low [] s = let here : low ≡ low + 0 = omega arith in ap (λ z. (source_end s, Fresh z 1) ∷ []) here
source_last low (t ∷ sources) s =
    let here : suc low + length sources ≡ low + suc (length sources) = omega arith in
    ap (λ z. (source_end t, Fresh low 1) ∷ z) (source_last (suc low) sources s ∙ ap (λ z. source_wires (suc low) sources ++ (source_end s, Fresh z 1) ∷ []) here)

get_or_any : (sources : List Source) (place : ℕ) (d e : Source) → place < length sources → get_or sources place d ≡ get_or sources place e
get_or_any [] place d e within = absurd (omega (arith, within))
get_or_any (s ∷ sources) zero d e within = refl
get_or_any (s ∷ sources) (suc place) d e within = get_or_any sources place d e (omega (arith, within))

get_or_same : (sources : List Source) (place : ℕ) (d : Source) → place < length sources → get_or sources place (get_or sources place d) ≡ get_or sources place d
get_or_same [] place d within = absurd (omega (arith, within))
get_or_same (s ∷ sources) zero d within = refl
get_or_same (s ∷ sources) (suc place) d within =
    get_or_any sources place (get_or sources place d) d (omega (arith, within))

pub source_more : (low : ℕ) (sources : List Source) (place : ℕ) → place < length sources →
    source_wires low (take (place + 1) sources) ≡ source_wires low (take place sources) ++ (source_end (get_or sources place Outside), Fresh (low + place) 1) ∷ []
source_more low sources place within =
    let long = length-take-le place sources (omega (arith, within)) in
    let s : Source = get_or sources place Outside in
    let is : slice_index_or sources place s ≡ s = get_or_same sources place Outside within in
    ap (source_wires low) (take_more sources place s is within) ∙ source_last low (take place sources) s
    ∙ ap (λ z. source_wires low (take place sources) ++ (source_end s, Fresh (low + z) 1) ∷ []) long
