-- A part of a circuit, and another circuit in its place.
use Rattle.std.specs.Prelude.{◌≡◌, ◌≢◌, ◌↔◌, ◌⊎◌, Bool, true, false, List, [], ◌∷◌, Option, Some, None, if◌then◌else◌}
use Rattle.std.specs.List.{AllByRecursion}
use Rattle.components.specs.declared.kind.Kind.{Kind}
use Rattle.components.specs.declared.kind.Kind.TheVariants.{Entry, Exit}
use Rattle.components.specs.Name.{Name, Port}
use Rattle.components.specs.Kind.{Shape}
use Rattle.circuits.specs.Circuit.{Circuit, Typed}

-- a node that is neither an Entry nor an Exit
abbrev pub is_inner : Option Kind → Bool
is_inner None = false
is_inner (Some (Entry shape)) = false
is_inner (Some (Exit shape)) = false
is_inner (Some _) = true

-- an Entry
abbrev pub is_entry : Option Kind → Bool
is_entry (Some (Entry shape)) = true
is_entry _ = false

-- what feeds an input, where there is one
abbrev pub follow : Circuit → Option Port → Option Port
follow c None = None
follow c (Some p) = c.feeder p

-- what stands in g for an output of right: for an Entry's, what feeds in g the input that the Entry of this name feeds in the part
abbrev pub outside : Circuit → Circuit → (Port → Option Port) → Option Port → Option Port
outside g right target None = None
outside g right target (Some r) = if is_entry (right.kind_at r.node) then follow g (target r) else Some r

-- what feeds an input of g from now on: where a node of left fed it, what feeds in right the Exit that this output fed in left
abbrev pub crossing : Circuit → Circuit → Circuit → (Port → Option Port) → Option Port → Option Port
crossing g left right target None = None
crossing g left right target (Some q) =
    if is_inner (left.kind_at q.node) then outside g right target (follow right (target q)) else Some q

-- g with right in the place of left, where target says which input of left each output of left feeds
abbrev pub replaced : Circuit → Circuit → Circuit → (Port → Option Port) → Circuit
replaced g left right target =
    record {
      kind_at = λ n. if is_inner (right.kind_at n) then right.kind_at n else (if is_inner (left.kind_at n) then None else g.kind_at n);
      feeder = λ p.
          if is_inner (right.kind_at p.node) then outside g right target (right.feeder p)
          else (if is_inner (left.kind_at p.node) then None else crossing g left right target (g.feeder p));
    }

-- an Entry or an Exit
abbrev pub IsEnd : Kind → Type 0
IsEnd (Entry shape) = Unit {0}
IsEnd (Exit shape) = Unit {0}
IsEnd _ = ⊥

-- left is a part of g: its inner nodes and the wires between them are those of g, it has an Entry for each wire that leads in and an Exit for each that leads out, and no wire leads straight through
pub record IsPart (g left : Circuit) (target : Port → Option Port) : Type 0 where
  pub whole : Typed g
  pub part : Typed left
  pub target_is : (p q : Port) → (left.feeder p ≡ Some q) ↔ (target q ≡ Some p)
  pub nodes : (n : Name) (k : Kind) → left.kind_at n ≡ Some k → is_inner (Some k) ≡ true → g.kind_at n ≡ Some k
  pub wires : (p q : Port) → is_inner (left.kind_at p.node) ≡ true → is_inner (left.kind_at q.node) ≡ true →
      (g.feeder p ≡ Some q) ↔ (left.feeder p ≡ Some q)
  pub no_through : (p q : Port) (a b : Shape) → left.feeder p ≡ Some q →
      left.kind_at p.node ≡ Some (Exit a) → left.kind_at q.node ≡ Some (Entry b) → ⊥

-- no inner node of right has the name of a node of g that stays
abbrev pub IsNew : Circuit → Circuit → Circuit → Type 0
IsNew g left right =
    (n : Name) (k : Kind) → right.kind_at n ≡ Some k → is_inner (Some k) ≡ true →
    (g.kind_at n ≡ None) ⊎ (is_inner (left.kind_at n) ≡ true)

-- x stands in the list
pub data In {A : Type 0} (x : A) : List A → Type 0 where
  head : {y : A} {ys : List A} → x ≡ y → In x (y ∷ ys)
  tail : {y : A} {ys : List A} → In x ys → In x (y ∷ ys)

-- no name stands twice in the list
abbrev pub NoneTwice : List Name → Type 0
NoneTwice [] = Unit {0}
NoneTwice (n ∷ ns) = AllByRecursion (λ m. n ≢ m) ns × NoneTwice ns

-- the names of the Entries and Exits of a circuit, each once
pub record Ends (left : Circuit) (ends : List Name) : Type 0 where
  pub all : (n : Name) (k : Kind) → IsEnd k → left.kind_at n ≡ Some k → In n ends
  pub are : (n : Name) → In n ends → (k : Kind) × IsEnd k × (left.kind_at n ≡ Some k)
  pub once : NoneTwice ends
