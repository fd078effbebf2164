-- Drawings whose nodes have labels, by which each has its place: their names differ and are allowed, and their graph can be made of lists.
use Rattle.std.proofs.Common.{◌≡◌, ℕ, ◌+◌, Bool, List, [], ◌∷◌, ◌++◌, map, length, Some, refl, sym, ap, subst, ◌∙◌, arith}
use Rattle.std.specs.List.{slice_get}
use Rattle.components.specs.declared.node.Node.{Node}
use Rattle.components.specs.Name.{Name, IsName}
use Rattle.components.specs.NamedGraph.{IsTyped}
use Rattle.graph_core.specs.declared.exchange.End.{End}
use Rattle.circuits.specs.Replacing.{In, NoneTwice}
use Rattle.circuit_plans.specs.Drawing.{DrawnWire, Drawing, port_named, drawn}
use Rattle.circuit_plans.specs.Places.{Place, before, places, each_of}
use Rattle.subst_engine.specs.Making.{AllDiffer, CanMake, rule_graph}
use Rattle.drawn_rules.specs.declared.rows.Row.{Row}
use Rattle.drawn_rules.specs.Labels.{Label, label_name}
use Rattle.drawn_rules.specs.Rows.{row_wires}
use Rattle.drawn_rules.specs.Sides.{nodes_of, end_at, ends_of}
use Rattle.drawn_rules.proofs.DrawnMade.{can_make, made_is}
use Rattle.drawn_rules.proofs.Labels.{Fits, AreFree, labels_once, allowed}
use Rattle.drawn_rules.proofs.Places.{Counts, rises_differ, rises_mapped, counts_rise, stands_at}
use Rattle.drawn_rules.proofs.RowPlaces.{wire_at, row_each}

pub map_both : {A B : Type 0} (f : A → B) (xs ys : List A) → map f (xs ++ ys) ≡ map f xs ++ map f ys
map_both f [] ys = refl
map_both f (x ∷ xs) ys = ap (λ z. f x ∷ z) (map_both f xs ys)

map_twice : {A B C : Type 0} (f : A → B) (g : B → C) (xs : List A) → map g (map f xs) ≡ map (λ x. g (f x)) xs
map_twice f g [] = refl
map_twice f g (x ∷ xs) = ap (λ z. g (f x) ∷ z) (map_twice f g xs)

-- a wire by the places of its nodes
abbrev pub wire_ends : {N : Type 0} → (N → ℕ) → DrawnWire N → End × End
wire_ends place w = (end_at place w.source, end_at place w.target)

-- the wires of a family are a row
pub row_ends : {A N : Type 0} (place : N → ℕ) (xs : List A) (from to : Row) (wire : Place xs → DrawnWire N) → ((l : Place xs) → wire_at from to (before xs l) ≡ wire_ends place (wire l)) →
    row_wires from to 0 (length xs) ≡ map (wire_ends place) (each_of xs wire)
row_ends place xs from to wire h = row_each from to xs 0 ∙ ap (each_of xs) (λ i l. (moved l ∙ h l) i) ∙ sym (map_twice wire (wire_ends place) (places xs))
  where
    moved : (l : Place xs) → wire_at from to (0 + before xs l) ≡ wire_at from to (before xs l)
    moved l = let same : 0 + before xs l ≡ before xs l = omega arith in ap (wire_at from to) same

module _ {N : Type 0} (d : Drawing N) (label : N → Label) (old : Bool) (prefix ends : ℕ) (names : List Name) (free : AreFree prefix ends names)
    (has : (n : N) → In n d.nodes) (fits : (n : N) → Fits old names (label n)) (rank : Label → ℕ) (total : ℕ) (counted : Counts (λ n. rank (label n)) 0 d.nodes total) where
  abbrev pub named : N → Name
  named n = label_name prefix ends names (label n)

  abbrev pub place : N → ℕ
  place n = rank (label n)

  pub once : NoneTwice (map named d.nodes)
  once = labels_once prefix ends names free label old fits d.nodes (rises_differ rank 0 total (map label d.nodes) (rises_mapped label rank 0 total d.nodes (counts_rise place 0 total d.nodes counted)))

  pub is_allowed : (n : N) → IsName (named n)
  is_allowed n = allowed prefix ends names free old (label n) (fits n)

  stands : (n : N) → slice_get d.nodes (place n) ≡ Some n
  stands n = stands_at place total d.nodes n counted (has n)

  module _ (nodes : List Node) (wires : List (End × End)) (same_nodes : nodes ≡ nodes_of d named) (same_wires : wires ≡ ends_of d place)
      (typed : IsTyped (drawn d named)) (targets : AllDiffer (map (port_named named) (map (λ w. w.target) d.wires))) where
    pub made : CanMake nodes wires
    made = subst (λ some. CanMake some wires) (sym same_nodes) (subst (CanMake (nodes_of d named)) (sym same_wires) (can_make d named has once is_allowed typed targets place stands))

    pub is_drawn : rule_graph nodes wires ≡ drawn d named
    is_drawn = (λ i. rule_graph (same_nodes i) (same_wires i)) ∙ made_is d named has once is_allowed typed targets place stands
