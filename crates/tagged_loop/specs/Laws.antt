-- What is proved of the two loops, and of the ring of a tagged one.
use Rattle.std.specs.Prelude.{◌≡◌, ℕ, ◌≤◌, Bool, List, [], Some, map, length}
use Rattle.std.specs.List.{AllByRecursion}
use Rattle.port_types.specs.Token.{Fits}
use Rattle.components.specs.declared.kind.Kind.TheVariants.{Join}
use Rattle.components.specs.Name.{Name, port_get}
use Rattle.components.specs.Kind.{Shape}
use Rattle.circuits.specs.Circuit.{Circuit, Typed, circuit_of}
use Rattle.circuits.specs.CircuitState.{CircuitState, start}
use Rattle.circuits.specs.PortTokens.{Token}
use Rattle.circuits.specs.Run.{Move, Run}
use Rattle.circuits.specs.Plug.{PlugLink, plug, CanPlug}
use Rattle.circuits.specs.Refines.{Refines}
use Rattle.circuits.specs.Drains.{Drains}
use Rattle.circuits.specs.Replacing.{NoneTwice}
use Rattle.circuits.specs.ReplacedGraph.{IsRule}
use Rattle.loop_laws.specs.LoopResult.{EachLoops}
use Rattle.tagged_loop.specs.LoopFunction.{IsLoopFunction}
use Rattle.tagged_loop.specs.InOrderLoop.{InOrderNode, LoopParts, entry, exit, in_order_nodes, in_order_loop}
use Rattle.tagged_loop.specs.TaggedLoop.{TaggedNode, new_entry, tagger, merge, tag, retag, new_branch, new_exit, tagged_nodes, tagged_loop}
use Rattle.tagged_loop.specs.Ring.{RingNames, HasRing, TagsApart, Overlaps, port_of}

-- the loop may be tagged with so many tags: its function fits its tuples, the Init may have the mark, and the names of each of the two loops differ, but for the Entry and the Exit, which have one name in both
pub record CanTag (loop : LoopParts) (tags : ℕ) (old : InOrderNode → Name) (new : TaggedNode → Name) : Type 0 where
  pub function : IsLoopFunction loop.shape loop.fun
  pub mark : loop.mark ≤ 256
  pub some : 1 ≤ tags
  pub few : tags ≤ 256
  pub old_names : NoneTwice (map old in_order_nodes)
  pub new_names : NoneTwice (map new tagged_nodes)
  pub same_entry : new new_entry ≡ old entry
  pub same_exit : new new_exit ≡ old exit

-- the tagged loop may come in the place of the in-order loop
abbrev pub TaggingIsRule : Type 0
TaggingIsRule = (loop : LoopParts) (tags : ℕ) (old : InOrderNode → Name) (new : TaggedNode → Name) → CanTag loop tags old new →
    IsRule (in_order_loop loop old) (tagged_loop loop tags new)

-- and shows nothing that the in-order loop does not, in any surrounding circuit
abbrev pub TaggedLoopRefines : Type 0
TaggedLoopRefines = (loop : LoopParts) (tags : ℕ) (old : InOrderNode → Name) (new : TaggedNode → Name) → CanTag loop tags old new →
    Refines (circuit_of (tagged_loop loop tags new)) (circuit_of (in_order_loop loop old))

-- Drains

-- what the in-order loop drains are tuples and what its function makes of them, one after another
abbrev pub InOrderDrainsAreLoops : Type 0
InOrderDrainsAreLoops = (loop : LoopParts) (name : InOrderNode → Name) → IsLoopFunction loop.shape loop.fun → NoneTwice (map name in_order_nodes) →
    (ins outs : Name → List Token) → Drains (circuit_of (in_order_loop loop name)) ins outs → EachLoops loop.fun loop.goes_back (ins (name entry)) (outs (name exit))

-- and it drains all such lists
abbrev pub LoopsAreInOrderDrains : Type 0
LoopsAreInOrderDrains = (loop : LoopParts) (name : InOrderNode → Name) → IsLoopFunction loop.shape loop.fun → NoneTwice (map name in_order_nodes) →
    (ins outs : Name → List Token) → AllByRecursion (Fits loop.shape) (ins (name entry)) → EachLoops loop.fun loop.goes_back (ins (name entry)) (outs (name exit)) →
    Drains (circuit_of (in_order_loop loop name)) ins outs

-- so does a tagged loop
abbrev pub LoopsAreTaggedDrains : Type 0
LoopsAreTaggedDrains = (loop : LoopParts) (tags : ℕ) (name : TaggedNode → Name) → IsLoopFunction loop.shape loop.fun → 1 ≤ tags → NoneTwice (map name tagged_nodes) →
    (ins outs : Name → List Token) → AllByRecursion (Fits loop.shape) (ins (name new_entry)) → EachLoops loop.fun loop.goes_back (ins (name new_entry)) (outs (name new_exit)) →
    Drains (circuit_of (tagged_loop loop tags name)) ins outs

-- what the in-order loop drains the tagged loop drains
abbrev pub TaggingKeepsDrains : Type 0
TaggingKeepsDrains = (loop : LoopParts) (tags : ℕ) (old : InOrderNode → Name) (new : TaggedNode → Name) → CanTag loop tags old new →
    (ins outs : Name → List Token) → Drains (circuit_of (in_order_loop loop old)) ins outs → Drains (circuit_of (tagged_loop loop tags new)) ins outs

-- The ring

abbrev pub ring_of : (TaggedNode → Name) → RingNames
ring_of new = record { tagger = new tagger; merge = new merge; tag = new tag; retag = new retag; branch = new new_branch }

-- a tagged loop has a ring
abbrev pub TaggedLoopHasRing : Type 0
TaggedLoopHasRing = (loop : LoopParts) (tags : ℕ) (new : TaggedNode → Name) → NoneTwice (map new tagged_nodes) →
    HasRing (circuit_of (tagged_loop loop tags new)) (ring_of new) loop.shape loop.goes_back tags

-- which stays in each surrounding circuit
abbrev pub PluggedHasRing : Type 0
PluggedHasRing = (c : Circuit) (links : List PlugLink) (g : Circuit) (ring : RingNames) (shape : Shape) (goes_back : Bool) (tags : ℕ) →
    Typed c → CanPlug c links g → HasRing g ring shape goes_back tags → HasRing (plug c links g) ring shape goes_back tags

-- in each state that a circuit with a ring reaches the tags on the ring are apart
abbrev pub RingTagsApart : Type 0
RingTagsApart = (c : Circuit) (ring : RingNames) (shape : Shape) (goes_back : Bool) (tags : ℕ) → HasRing c ring shape goes_back tags → Typed c →
    (moves : List Move) (s : CircuitState) → Run c (start c) moves s → TagsApart tags ring s

-- where no slot is taken and enough tokens wait before the Tagger, as many tuples can be under way at once as there are tags
abbrev pub RingOverlaps : Type 0
RingOverlaps = (c : Circuit) (ring : RingNames) (shape : Shape) (goes_back : Bool) (tags : ℕ) → HasRing c ring shape goes_back tags →
    (s : CircuitState) (count : ℕ) → count ≤ tags → s.slots ring.tagger ≡ [] →
    count ≤ length (s.wires (port_of ring.tagger 1)) → Overlaps c ring s count

-- and so where a Join feeds the Tagger and enough tokens wait at each of its inputs
abbrev pub JoinedRingOverlaps : Type 0
JoinedRingOverlaps = (c : Circuit) (ring : RingNames) (shape : Shape) (goes_back : Bool) (tags : ℕ) (join : Name) (shapes : List Shape) →
    HasRing c ring shape goes_back tags → c.kind_at join ≡ Some (Join shapes) → c.feeder (port_of ring.tagger 1) ≡ Some (port_of join 1) →
    (s : CircuitState) (count : ℕ) → count ≤ tags → s.slots ring.tagger ≡ [] →
    ((i : ℕ) (part : Shape) → port_get shapes i ≡ Some part → count ≤ length (s.wires (port_of join i))) → Overlaps c ring s count
