-- Two circuits joined at Entries and Exits.
use Rattle.std.specs.Prelude.{◌≡◌, ◌≢◌, ◌⊎◌, List, [], ◌∷◌, Option, Some, None, if◌then◌else◌, bytes_eq}
use Rattle.std.specs.List.{AllByRecursion}
use Rattle.components.specs.declared.kind.Kind.{Kind}
use Rattle.components.specs.declared.kind.Kind.TheVariants.{Entry, Exit, Buffer}
use Rattle.components.specs.Name.{Name, Port}
use Rattle.components.specs.Kind.{Shape}
use Rattle.circuits.specs.Circuit.{Circuit}

-- the first that there is
abbrev pub or_else : {A : Type 0} → Option A → Option A → Option A
or_else None y = y
or_else (Some x) y = Some x

-- two circuits side by side
abbrev pub beside : Circuit → Circuit → Circuit
beside c d =
    record {
      kind_at = λ n. or_else (c.kind_at n) (d.kind_at n);
      feeder = λ p. or_else (c.feeder p) (d.feeder p);
    }

-- an Exit and the Entry that it is joined to
pub record PlugLink : Type 0 where
  pub exit : Name
  pub entry : Name

-- for an Exit, the Buffer of its shape
abbrev pub as_buffer : Option Kind → Option Kind
as_buffer (Some (Exit shape)) = Some (Buffer shape)
as_buffer k = k

-- what the Entry fed, the Exit's name feeds
abbrev pub redirect : PlugLink → Option Port → Option Port
redirect l None = None
redirect l (Some p) = Some (if bytes_eq p.node l.entry then record { node = l.exit; port = p.port } else p)

-- the Exit becomes a Buffer of its name, wired to what the Entry fed, and the Entry goes
abbrev pub link : PlugLink → Circuit → Circuit
link l c =
    record {
      kind_at = λ n. if bytes_eq n l.entry then None else (if bytes_eq n l.exit then as_buffer (c.kind_at n) else c.kind_at n);
      feeder = λ p. redirect l (c.feeder p);
    }

-- one link after another
abbrev pub link_all : List PlugLink → Circuit → Circuit
link_all [] c = c
link_all (l ∷ ls) c = link_all ls (link l c)

-- g in the surrounding circuit c
abbrev pub plug : Circuit → List PlugLink → Circuit → Circuit
plug c ls g = link_all ls (beside c g)

-- no name stands in both
abbrev pub Apart : Circuit → Circuit → Type 0
Apart c d = (n : Name) (k m : Kind) → c.kind_at n ≡ Some k → d.kind_at n ≡ Some m → ⊥

-- the link joins an Exit of c to an Entry of d, of one shape
pub record Joins (l : PlugLink) (c d : Circuit) : Type 0 where
  pub shape : Shape
  pub exit : c.kind_at l.exit ≡ Some (Exit shape)
  pub entry : d.kind_at l.entry ≡ Some (Entry shape)

-- no Exit and no Entry is an end of two links
abbrev pub UsesNoneTwice : List PlugLink → Type 0
UsesNoneTwice [] = Unit {0}
UsesNoneTwice (l ∷ ls) = AllByRecursion (λ m. (m.exit ≢ l.exit) × (m.entry ≢ l.entry)) ls × UsesNoneTwice ls

-- each link joins an Exit of the one to an Entry of the other
pub record CanPlug (c : Circuit) (ls : List PlugLink) (g : Circuit) : Type 0 where
  pub apart : Apart c g
  pub joins : AllByRecursion (λ l. Joins l c g ⊎ Joins l g c) ls
  pub once : UsesNoneTwice ls
