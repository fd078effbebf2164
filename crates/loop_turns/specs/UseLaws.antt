-- The laws of the rule uses that lead to a gathered loop, and from it to a tagged one.
use Rattle.std.specs.Prelude.{◌≡◌, ◌≢◌, []}
use Rattle.fun_expr.specs.Function.{Function}
use Rattle.components.specs.Name.{Name}
use Rattle.circuits.specs.Circuit.{Circuit, Typed}
use Rattle.circuits.specs.Buffers.{CanDropEach, drop_all}
use Rattle.circuits.specs.Replacing.{In}
use Rattle.loop_laws.specs.Loop.{Lane, Loop, LoopAt, muxes_of, branches_of}
use Rattle.loop_turns.specs.Rebuilt.{NewNames}
use Rattle.loop_turns.specs.Lanes.{backs_of, without_backs}
use Rattle.loop_turns.specs.Tagged.{TagNode, tagged_graph}
use Rattle.loop_turns.specs.Gathered.{GatherNode, gathered_graph}
use Rattle.loop_turns.specs.Uses.{CombineNode, CombineNode.lanes_vars, combine_nodes, combined_graph, CanCombineMuxes, CanGather}
use Rattle.loop_turns.specs.GatherChain.{ChainNode, chain_nodes, gather_at, gather_chain}
use Rattle.loop_turns.specs.TagChain.{LastNode, last_nodes, tagged_at, tag_chain}

-- the Buffers on a loop's back paths can be left out one after another
abbrev pub BackBuffersDrop : Type 0
BackBuffersDrop = (g : Circuit) (m : Name) (l : Loop) → Typed g → LoopAt g m l → CanDropEach (backs_of l.lanes) g

-- which leaves a typed graph, with the loop without them at m, and the loops that other marks had
pub record BuffersLeft (g : Circuit) (m : Name) (l : Loop) : Type 0 where
  pub typed : Typed (drop_all (backs_of l.lanes) g)
  pub loop : LoopAt (drop_all (backs_of l.lanes) g) m (without_backs l)
  pub others : (n : Name) (k : Loop) → n ≢ m → LoopAt g n k → LoopAt (drop_all (backs_of l.lanes) g) n k

abbrev pub BackBuffersLeaveLoops : Type 0
BackBuffersLeaveLoops = (g : Circuit) (m : Name) (l : Loop) → Typed g → LoopAt g m l → BuffersLeft g m l

-- and the tagged and the gathered graph are the same with them and without
abbrev pub BackBuffersLeaveTagged : Type 0
BackBuffersLeaveTagged = (g : Circuit) (m : Name) (l : Loop) (name : TagNode → Name) → Typed g → LoopAt g m l →
    tagged_graph (drop_all (backs_of l.lanes) g) m (without_backs l) name ≡ tagged_graph g m l name

abbrev pub BackBuffersLeaveGathered : Type 0
BackBuffersLeaveGathered = (g : Circuit) (m : Name) (l : Loop) (fun : Function) (name : GatherNode → Name) → Typed g → LoopAt g m l →
    gathered_graph (drop_all (backs_of l.lanes) g) m (without_backs l) fun name ≡ gathered_graph g m l fun name

-- the tree and the Muxes of a loop can be combined
abbrev pub MuxesCombine : Type 0
MuxesCombine = (g : Circuit) (m : Name) (l : Loop) → Typed g → LoopAt g m l → CanCombineMuxes g l.tree (muxes_of l)

-- and then its body can be gathered
abbrev pub BodyGathers : Type 0
BodyGathers = (g : Circuit) (m : Name) (l : Loop) (name : CombineNode → Name) → Typed g → LoopAt g m l → NewNames g combine_nodes name →
    CanGather (combined_graph g m l name) (name lanes_vars) l.body (branches_of l) m

-- of a loop without Buffers on its back paths, mux_combine, gather, branch_combine and two split_joins make the gathered graph
abbrev pub UsesGather : Type 0
UsesGather = (g : Circuit) (m : Name) (l : Loop) (fun : Function) (name : ChainNode → Name) → Typed g → LoopAt g m l →
    ((x : Lane) → In x l.lanes → x.back ≡ []) → NewNames g chain_nodes name →
    gather_chain g m l fun name ≡ gathered_graph g m l fun (λ x. name (gather_at x))

-- of a gathered loop, tag_loop, and then expand with the body that was gathered, make the tagged graph
abbrev pub UsesTag : Type 0
UsesTag = (g : Circuit) (m : Name) (l : Loop) (fun : Function) (name : LastNode → Name) → Typed g → LoopAt g m l → NewNames g (last_nodes l) name →
    tag_chain g m l fun name ≡ tagged_graph g m l (λ x. name (tagged_at x))
