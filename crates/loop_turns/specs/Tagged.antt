-- The graph with one marked loop tagged.
use Rattle.std.specs.Prelude.{ℕ, zero, suc, List, [], ◌∷◌, length, Option, Some, None}
use Rattle.port_types.specs.Tag.{tag_width}
use Rattle.components.specs.declared.kind.Kind.{Kind}
use Rattle.components.specs.declared.kind.Kind.TheVariants.{Join, Split, Sink0, Branch, Merge, Tagger}
use Rattle.components.specs.Name.{Name, Port, port_get}
use Rattle.circuits.specs.Circuit.{Circuit}
use Rattle.loop_laws.specs.Polarity.{back_out, exit_out}
use Rattle.loop_laws.specs.Reached.{port_at}
use Rattle.loop_laws.specs.Loop.{Lane, Loop, shapes_of}
use Rattle.loop_turns.specs.Rebuilt.{moved, rebuilt}
use Rattle.loop_turns.specs.Lanes.{lane_place, port_or, fed_lane, fresh_of, data_of, condition_of, frame_of, tuple_shape}

-- the new nodes of a tagged loop; a Sink for each condition that is not used
pub data TagNode : Type 0 where
  new_in new_tagger new_merge new_tag new_vars new_next new_retag new_branch new_out : TagNode
  new_sink : ℕ → TagNode

-- k sinks, numbered from i
abbrev pub sinks_from : ℕ → ℕ → List TagNode
sinks_from i zero = []
sinks_from i (suc k) = new_sink i ∷ sinks_from (suc i) k

abbrev pub tag_nodes : Loop → List TagNode
tag_nodes l = new_in ∷ new_tagger ∷ new_merge ∷ new_tag ∷ new_vars ∷ new_next ∷ new_retag ∷ new_branch ∷ new_out ∷ sinks_from 1 (length l.lanes)

abbrev pub tag_kind : Loop → TagNode → Kind
tag_kind l new_in = Join (shapes_of l)
tag_kind l new_tagger = Tagger (tuple_shape l) l.tags
tag_kind l new_merge = Merge (tag_width l.tags ∷ tuple_shape l) 2
tag_kind l new_tag = Split ((tag_width l.tags ∷ []) ∷ tuple_shape l ∷ [])
tag_kind l new_vars = Split (shapes_of l)
tag_kind l new_next = Join (shapes_of l)
tag_kind l new_retag = Join ((tag_width l.tags ∷ []) ∷ tuple_shape l ∷ [])
tag_kind l new_branch = Branch (tag_width l.tags ∷ tuple_shape l)
tag_kind l new_out = Split (shapes_of l)
tag_kind l (new_sink j) = Sink0 (1 ∷ [])

-- an output of a Mux is one of vars, and an exit of a Branch is one of out
abbrev pub tag_out : Loop → (TagNode → Name) → Port → Port
tag_out l name q =
    port_or (lane_place (λ (x : Lane). x.mux) l.lanes q.node) (name new_vars)
    (port_or (lane_place (λ (x : Lane). x.branch) l.lanes q.node) (name new_out) q)

abbrev pub tag_source : Circuit → Name → Loop → (TagNode → Name) → TagNode → ℕ → Option Port
tag_source g m l name new_in j = fed_lane g (tag_out l name) (port_get l.lanes j) (fresh_of l) None
tag_source g m l name new_tagger (suc zero) = Some (port_at (name new_in) 1)
tag_source g m l name new_tagger (suc (suc zero)) = Some (port_at (name new_branch) (exit_out l.goes_back))
tag_source g m l name new_merge (suc zero) = Some (port_at (name new_tagger) 1)
tag_source g m l name new_merge (suc (suc zero)) = Some (port_at (name new_branch) (back_out l.goes_back))
tag_source g m l name new_tag (suc zero) = Some (port_at (name new_merge) 1)
tag_source g m l name new_vars (suc zero) = Some (port_at (name new_tag) 2)
tag_source g m l name new_next j = fed_lane g (tag_out l name) (port_get l.lanes j) data_of None
tag_source g m l name new_retag (suc zero) = Some (port_at (name new_tag) 1)
tag_source g m l name new_retag (suc (suc zero)) = Some (port_at (name new_next) 1)
tag_source g m l name new_branch (suc zero) = Some (port_at (name new_retag) 1)
tag_source g m l name new_branch (suc (suc zero)) = fed_lane g (tag_out l name) (port_get l.lanes 1) condition_of None
tag_source g m l name new_out (suc zero) = Some (port_at (name new_tagger) 2)
tag_source g m l name (new_sink j) (suc zero) =
    fed_lane g (tag_out l name) (port_get l.lanes (suc j)) condition_of (moved (tag_out l name) (g.feeder (port_at m 1)))
tag_source g m l name _ _ = None

-- g with the loop l at m tagged
abbrev pub tagged_graph : Circuit → Name → Loop → (TagNode → Name) → Circuit
tagged_graph g m l name =
    rebuilt g (m ∷ frame_of l) name (tag_nodes l) (tag_kind l) (tag_source g m l name) (tag_out l name)
