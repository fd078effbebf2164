-- A part of a graph by names, and another graph in its place.
use Rattle.std.specs.Prelude.{◌≡◌, ◌↔◌, Bool, true, not, ◌||◌, ◌++◌, map, Option, Some}
use Rattle.std.specs.List.{filter_map}
use Rattle.std.specs.Option.{option_map}
use Rattle.std.specs.declared.cmp.Ordering.{Ordering}
use Rattle.std.specs.FinMap as finite
use Rattle.std.specs.FinMap.{FinMap}
use Rattle.components.specs.declared.kind.Kind.TheVariants.{Entry, Exit}
use Rattle.components.specs.Name.{Name, Port, port_cmp}
use Rattle.components.specs.Kind.{Shape}
use Rattle.components.specs.NamedGraph.{NamedGraph, IsTyped}
use Rattle.circuits.specs.Circuit.{circuit_of}
use Rattle.circuits.specs.Refines.{SamePorts}
use Rattle.circuits.specs.Replacing.{is_inner, outside, crossing, IsNew}

-- the name is that of an inner node
abbrev pub has_inner : NamedGraph → Name → Bool
has_inner g n = is_inner ((circuit_of g).kind_at n)

-- the input that an output feeds, found among the wires turned round
abbrev pub consumer : NamedGraph → Port → Option Port
consumer g q = finite.find port_cmp q (map (λ wire. (wire.1, wire.0)) (finite.entries g.feeders))

-- the entries of two maps; where a key stands in both, that of the first
abbrev pub together : {K X : Type 0} {R : K → K → Ordering} → FinMap R X → FinMap R X → FinMap R X
together m n = finite.from_entries (finite.entries m ++ finite.entries n)

-- wires with other sources: source says what feeds an input from now on, by what fed it; an input that nothing feeds from now on falls away
abbrev pub refed : (Option Port → Option Port) → FinMap port_cmp Port → FinMap port_cmp Port
refed source wires = finite.from_entries (filter_map (λ wire. option_map (λ q. (wire.0, q)) (source (Some wire.1))) (finite.entries wires))

-- what feeds an input of a new node: what feeds it in right; where that is an Entry, what feeds in g the input that the Entry of this name feeds in left
abbrev pub new_source : NamedGraph → NamedGraph → NamedGraph → Option Port → Option Port
new_source g left right = outside (circuit_of g) (circuit_of right) (consumer left)

-- what feeds an input of a node that stays: what fed it; where that was an inner node of left, the new source of the Exit that this output feeds in left
abbrev pub kept_source : NamedGraph → NamedGraph → NamedGraph → Option Port → Option Port
kept_source g left right = crossing (circuit_of g) (circuit_of left) (circuit_of right) (consumer left)

-- the name is that of no inner node of left and of none of right
abbrev pub stays : NamedGraph → NamedGraph → Name → Bool
stays left right n = not (has_inner left n || has_inner right n)

-- g with right in the place of left: the inner nodes of right together with the nodes of g that stay, and the wires into them from their new sources
abbrev pub replaced_graph : NamedGraph → NamedGraph → NamedGraph → NamedGraph
replaced_graph g left right =
    record {
      nodes = together (finite.retain_keys right.nodes (has_inner right)) (finite.retain_keys g.nodes (stays left right));
      feeders = together
          (refed (new_source g left right) (finite.retain_keys right.feeders (λ p. has_inner right p.node)))
          (refed (kept_source g left right) (finite.retain_keys g.feeders (λ p. stays left right p.node)));
    }

-- left is found in g, and right has room there: each inner node of left is a node of g with the same name and kind, between two of them g has the wires of left, and no inner node of right has the name of a node of g that stays
pub record Matches (g left right : NamedGraph) : Type 0 where
  pub nodes : (n : Name) → has_inner left n ≡ true → (circuit_of g).kind_at n ≡ (circuit_of left).kind_at n
  pub wires : (p q : Port) → has_inner left p.node ≡ true → has_inner left q.node ≡ true →
      (finite.get g.feeders p ≡ Some q) ↔ (finite.get left.feeders p ≡ Some q)
  pub new : IsNew (circuit_of g) (circuit_of left) (circuit_of right)

-- what a rule owes, that right may come in the place of left: both are typed, with the same Entries and Exits, and no wire of left leads straight from an Entry to an Exit
pub record IsRule (left right : NamedGraph) : Type 0 where
  pub old_typed : IsTyped left
  pub new_typed : IsTyped right
  pub ports : SamePorts (circuit_of right) (circuit_of left)
  pub no_through : (p q : Port) (a b : Shape) → finite.get left.feeders p ≡ Some q →
      (circuit_of left).kind_at p.node ≡ Some (Exit a) → (circuit_of left).kind_at q.node ≡ Some (Entry b) → ⊥
