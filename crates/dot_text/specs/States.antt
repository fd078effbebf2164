-- What the reader's states stand for.
use Rattle.std.specs.Prelude.{ℕ}
use Rattle.dot_text.specs.declared.doc.Doc.{Doc}
use Rattle.dot_text.specs.declared.state.Spot.{Spot}
use Rattle.dot_text.specs.declared.state.Spot.TheVariants.{Headed, Named, Ready, Ended, Identified, Pointed, Setting, Defaulted, Listed, Inside, Keyed, Equated, Paired}
use Rattle.dot_text.specs.declared.state.Body.{Body}
use Rattle.dot_text.specs.declared.state.State.{State}
use Rattle.dot_text.specs.declared.state.State.TheVariants.{Begin, Within, Whole}
use Rattle.dot_text.specs.Machine as machine

-- what a document keeps so far
abbrev pub doc_so_far : Body → Doc
doc_so_far body = record { nodes = body.nodes.items; edges = body.edges.items }

abbrev pub spot_of : ℕ → ℕ → Doc → Spot → machine.State
spot_of l k d Headed = machine.Headed l k d
spot_of l k d Named = machine.Named l k d
spot_of l k d Ready = machine.Ready l k d
spot_of l k d Ended = machine.Ended l k d
spot_of l k d (Identified a) = machine.Identified l k d a
spot_of l k d (Pointed a) = machine.Pointed l k d a
spot_of l k d Setting = machine.Setting l k d
spot_of l k d Defaulted = machine.Defaulted l k d
spot_of l k d (Listed lists) = machine.Listed l k d lists.owner lists.pairs.items
spot_of l k d (Inside lists) = machine.Inside l k d lists.owner lists.pairs.items
spot_of l k d (Keyed lists a) = machine.Keyed l k d lists.owner lists.pairs.items a
spot_of l k d (Equated lists a) = machine.Equated l k d lists.owner lists.pairs.items a
spot_of l k d (Paired lists) = machine.Paired l k d lists.owner lists.pairs.items

-- where a reader with this body stands
abbrev pub spot_in : Body → Spot → machine.State
spot_in body spot = spot_of body.depth.left body.depth.nested (doc_so_far body) spot

abbrev pub state_of : State → machine.State
state_of Begin = machine.Begin
state_of (Within body spot) = spot_in body spot
state_of (Whole doc) = machine.Whole doc
