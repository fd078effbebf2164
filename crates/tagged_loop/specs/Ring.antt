-- The ring of a tagged loop in a circuit, whatever lies between its Split and its Join.
use Rattle.std.specs.Prelude.{◌≡◌, ◌≢◌, ℕ, ◌≤◌, Bool, List, [], ◌∷◌, ◌++◌, Some, None, map, length}
use Rattle.std.specs.List.{AllByRecursion}
use Rattle.port_types.specs.Tag.{tag_width}
use Rattle.components.specs.declared.kind.Kind.TheVariants.{Join, Split, Branch, Merge, Tagger}
use Rattle.components.specs.Name.{Name, Port}
use Rattle.components.specs.Kind.{Shape, field, tagged}
use Rattle.circuits.specs.PortTokens.{Token}
use Rattle.circuits.specs.Circuit.{Circuit}
use Rattle.circuits.specs.CircuitState.{Slot, CircuitState}
use Rattle.circuits.specs.Firing.{waiting}
use Rattle.circuits.specs.Run.{Firing, Firings}
use Rattle.loop_laws.specs.Polarity.{back_out, exit_out}

abbrev pub port_of : Name → ℕ → Port
port_of name i = record { node = name; port = i }

pub record RingNames : Type 0 where
  pub tagger : Name
  pub merge : Name
  pub tag : Name
  pub retag : Name
  pub branch : Name

-- the circuit has the nodes of the ring, wired as in a tagged loop; nothing is said of what feeds the second inputs of the Join and the Branch
pub record HasRing (c : Circuit) (x : RingNames) (shape : Shape) (goes_back : Bool) (tags : ℕ) : Type 0 where
  pub is_tagger : c.kind_at x.tagger ≡ Some (Tagger shape tags)
  pub is_merge : c.kind_at x.merge ≡ Some (Merge (tagged tags shape) 2)
  pub is_tag : c.kind_at x.tag ≡ Some (Split (field (tag_width tags) ∷ shape ∷ []))
  pub is_retag : c.kind_at x.retag ≡ Some (Join (field (tag_width tags) ∷ shape ∷ []))
  pub is_branch : c.kind_at x.branch ≡ Some (Branch (tagged tags shape))
  pub into_merge : c.feeder (port_of x.merge 1) ≡ Some (port_of x.tagger 1)
  pub back_merge : c.feeder (port_of x.merge 2) ≡ Some (port_of x.branch (back_out goes_back))
  pub into_tag : c.feeder (port_of x.tag 1) ≡ Some (port_of x.merge 1)
  pub into_retag : c.feeder (port_of x.retag 1) ≡ Some (port_of x.tag 1)
  pub into_branch : c.feeder (port_of x.branch 1) ≡ Some (port_of x.retag 1)
  pub into_tagger : c.feeder (port_of x.tagger 2) ≡ Some (port_of x.branch (exit_out goes_back))

-- what the five ring wires hold together
abbrev pub on_ring : RingNames → CircuitState → List Token
on_ring x s =
    s.wires (port_of x.merge 1) ++
    (s.wires (port_of x.tag 1) ++
    (s.wires (port_of x.branch 1) ++
    (s.wires (port_of x.merge 2) ++
    s.wires (port_of x.tagger 2))))

-- the first number of a token, which on the ring is its tag
abbrev pub first_of : Token → ℕ
first_of [] = 0
first_of (t ∷ v) = t

abbrev pub AreDifferent : List ℕ → Type 0
AreDifferent [] = Unit {0}
AreDifferent (t ∷ ts) = AllByRecursion (λ u. u ≢ t) ts × AreDifferent ts

-- some slot has this tag, and no result
pub record HasWaiting (slots : List Slot) (tag : ℕ) : Type 0 where
  pub older : List Slot
  pub newer : List Slot
  pub is : slots ≡ older ++ waiting tag ∷ newer

-- the token begins with the tag of a slot without a result
pub record IsOfWaiting (slots : List Slot) (v : Token) : Type 0 where
  pub tag : ℕ
  pub value : Token
  pub is : v ≡ tag ∷ value
  pub slot : HasWaiting slots tag

-- the tokens on the five ring wires have different tags, each that of a slot without a result, and are at most as many as there are tags
pub record TagsApart (tags : ℕ) (x : RingNames) (s : CircuitState) : Type 0 where
  pub different : AreDifferent (map first_of (on_ring x s))
  pub of_waiting : AllByRecursion (IsOfWaiting (s.slots x.tagger)) (on_ring x s)
  pub few : length (on_ring x s) ≤ tags

-- some firings lead to a state with so many slots, none of which has a result
pub record Overlaps (c : Circuit) (x : RingNames) (s : CircuitState) (count : ℕ) : Type 0 where
  pub firings : List Firing
  pub end : CircuitState
  pub leads : Firings c s firings end
  pub slots : length (end.slots x.tagger) ≡ count
  pub none_ready : AllByRecursion (λ slot. slot.result ≡ None) (end.slots x.tagger)
