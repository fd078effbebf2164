-- Canonical documents as documents of graphs.
use Rattle.std.specs.Prelude.{◌≡◌, ℕ, ◌^◌, ◌<◌, ◌≤◌, List, Some, Ok}
use Rattle.std.specs.FinMap as map
use Rattle.dot_text.specs.declared.doc.Doc.{Doc}
use Rattle.components.specs.declared.kind.Kind.{Kind}
use Rattle.components.specs.declared.kind.Kind.TheVariants.{Constant}
use Rattle.components.specs.Name.{Name}
use Rattle.components.specs.Node.{Body, IsOwned}
use Rattle.components.specs.NamedGraph.{NamedGraph, IsTyped, HasAllowedNames}
use Rattle.graph_print.specs.CanonicalText.{canonical_document}
use Rattle.graph_read.specs.GraphReading.{graph_reading}

-- the value of a Constant fits 64 bits, as each value that is read does
abbrev pub ValueFits : Kind → Type 0
ValueFits (Constant shape width value) = value < 2 ^ 64
ValueFits kind = Unit {0}

abbrev pub ValuesFit : NamedGraph → Type 0
ValuesFit g = (name : Name) (body : Body) → map.get g.nodes name ≡ Some body → ValueFits body.kind

-- no key that a node keeps is one that its kind owns
abbrev pub KeptAreUnowned : NamedGraph → Type 0
KeptAreUnowned g =
    (name : Name) (body : Body) (key value : List ℕ) → map.get g.nodes name ≡ Some body → map.get body.kept key ≡ Some value → ¬ (IsOwned body.kind key)

-- within the limits of reading
pub record CanBeReadBack (g : NamedGraph) : Type 0 where
  pub typed : IsTyped g
  pub names : HasAllowedNames g
  pub few : map.len g.nodes ≤ 65536
  pub values : ValuesFit g
  pub kept : KeptAreUnowned g

-- the canonical document of a graph is read as that graph
abbrev pub CanonicalReadsBack : Type 0
CanonicalReadsBack = (g : NamedGraph) → CanBeReadBack g → graph_reading (canonical_document g) ≡ Ok g

-- what a graph that is read has at each node: a value that fits, and no kept key that the kind owns
abbrev pub ReadFits : Type 0
ReadFits = (doc : Doc) (g : NamedGraph) → graph_reading doc ≡ Ok g → ValuesFit g × KeptAreUnowned g
