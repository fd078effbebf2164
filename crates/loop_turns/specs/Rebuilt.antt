-- A circuit without some nodes and with new ones, as a function of ports.
use Rattle.std.specs.Prelude.{◌≡◌, ℕ, Bool, true, false, if◌then◌else◌, List, [], ◌∷◌, Option, Some, None, bytes_eq}
use Rattle.components.specs.declared.kind.Kind.{Kind}
use Rattle.components.specs.Name.{Name, Port}
use Rattle.circuits.specs.Circuit.{Circuit}
use Rattle.circuits.specs.Replacing.{In}

-- the new node of this name
abbrev pub new_at : {X : Type 0} → (X → Name) → List X → Name → Option X
new_at name [] n = None
new_at name (x ∷ xs) n = if bytes_eq (name x) n then Some x else new_at name xs n

-- whether the name is in the list
abbrev pub has_name : List Name → Name → Bool
has_name [] n = false
has_name (k ∷ ks) n = if bytes_eq k n then true else has_name ks n

-- the kind of a new node, or else the old kind
abbrev pub kind_or : {X : Type 0} → (X → Kind) → Option X → Option Kind → Option Kind
kind_or kind None old = old
kind_or kind (Some x) old = Some (kind x)

-- what feeds an input of a new node, or else what fed the old one
abbrev pub source_or : {X : Type 0} → (X → ℕ → Option Port) → Option X → ℕ → Option Port → Option Port
source_or source None i old = old
source_or source (Some x) i old = source x i

-- the output that stands for an old one
abbrev pub moved : (Port → Port) → Option Port → Option Port
moved out None = None
moved out (Some q) = Some (out q)

-- g without the nodes that go and with new ones, where out says which output stands for an old one
abbrev pub rebuilt : {X : Type 0} → Circuit → List Name → (X → Name) → List X → (X → Kind) → (X → ℕ → Option Port) → (Port → Port) → Circuit
rebuilt g gone name new kind source out =
    record {
      kind_at = λ n. kind_or kind (new_at name new n) (if has_name gone n then None else g.kind_at n);
      feeder = λ p. source_or source (new_at name new p.node) p.port (if has_name gone p.node then None else moved out (g.feeder p));
    }

-- different new nodes have different names, and no node of g has one of them
pub record NewNames {X : Type 0} (g : Circuit) (new : List X) (name : X → Name) : Type 0 where
  pub apart : (x y : X) → In x new → In y new → name x ≡ name y → x ≡ y
  pub fresh : (x : X) → In x new → g.kind_at (name x) ≡ None
