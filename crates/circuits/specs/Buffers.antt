-- Circuits and graphs without one of their Buffers, and circuits without several.
use Rattle.std.specs.Prelude.{◌≡◌, ◌≢◌, List, [], ◌∷◌, Option, Some, None, if◌then◌else◌, bytes_eq}
use Rattle.std.specs.FinMap as map
use Rattle.components.specs.declared.kind.Kind.{Kind}
use Rattle.components.specs.declared.kind.Kind.TheVariants.{Buffer, Fork}
use Rattle.components.specs.Name.{Name, Port}
use Rattle.components.specs.NamedGraph.{NamedGraph, without_node, with_wire}
use Rattle.circuits.specs.Circuit.{Circuit, circuit_of}

-- the first port of a side
abbrev pub first_port : Name → Port
first_port b = record { node = b; port = 1 }

-- what feeds an input once b is gone, where before fed b
abbrev pub bypass : Name → Option Port → Option Port → Option Port
bypass b before None = None
bypass b before (Some q) = if bytes_eq q.node b then before else Some q

-- c without b: what fed b feeds what b fed
abbrev pub drop_node : Name → Circuit → Circuit
drop_node b c =
    record {
      kind_at = λ n. if bytes_eq n b then None else c.kind_at n;
      feeder = λ p. if bytes_eq p.node b then None else bypass b (c.feeder (first_port b)) (c.feeder p);
    }

-- a Buffer, or a Fork of one output
abbrev pub IsBufferLike : Kind → Type 0
IsBufferLike (Buffer shape) = Unit {0}
IsBufferLike (Fork shape count) = count ≡ 1
IsBufferLike _ = ⊥

-- b can be left out: it passes tokens on, and is not fed by itself
pub record CanDropBuffer (c : Circuit) (b : Name) : Type 0 where
  pub kind : Kind
  pub is_kind : c.kind_at b ≡ Some kind
  pub passes : IsBufferLike kind
  pub before : Port
  pub is_before : c.feeder (first_port b) ≡ Some before
  pub other : before.node ≢ b

-- c without each of these, one after another
abbrev pub drop_all : List Name → Circuit → Circuit
drop_all [] c = c
drop_all (b ∷ bs) c = drop_all bs (drop_node b c)

-- each can be left out once those before it are
abbrev pub CanDropEach : List Name → Circuit → Type 0
CanDropEach [] c = Unit {0}
CanDropEach (b ∷ bs) c = CanDropBuffer c b × CanDropEach bs (drop_node b c)

-- graph h is graph g without b: what fed b feeds the input that b fed
pub record IsWithoutBuffer (h g : NamedGraph) (b : Name) : Type 0 where
  pub can : CanDropBuffer (circuit_of g) b
  pub target : Port
  pub after : map.get g.feeders target ≡ Some (first_port b)
  pub is : h ≡ with_wire (without_node g b) can.before target
