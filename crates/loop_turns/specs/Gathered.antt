-- The graph with one marked loop gathered into one function.
use Rattle.std.specs.Prelude.{ℕ, zero, suc, if◌then◌else◌, List, [], ◌∷◌, ◌++◌, Option, Some, None}
use Rattle.fun_expr.specs.Function.{Function}
use Rattle.components.specs.declared.kind.Kind.{Kind}
use Rattle.components.specs.declared.kind.Kind.TheVariants.{Fork, Join, Split, Mux, Branch, Pure}
use Rattle.components.specs.Name.{Name, Port, port_get}
use Rattle.circuits.specs.Circuit.{Circuit}
use Rattle.loop_laws.specs.Polarity.{exit_out}
use Rattle.loop_laws.specs.Reached.{port_at}
use Rattle.loop_laws.specs.Loop.{Lane, Loop, shapes_of}
use Rattle.loop_turns.specs.Rebuilt.{has_name, rebuilt}
use Rattle.loop_turns.specs.Lanes.{lane_place, port_or, fed_lane, fresh_of, frame_of, tuple_shape}

-- the new nodes of a gathered loop
pub data GatherNode : Type 0 where
  one_in one_mux one_pure one_pair one_cond one_branch one_out : GatherNode

abbrev pub gather_nodes : List GatherNode
gather_nodes = one_in ∷ one_mux ∷ one_pure ∷ one_pair ∷ one_cond ∷ one_branch ∷ one_out ∷ []

abbrev pub gather_kind : Loop → Function → GatherNode → Kind
gather_kind l f one_in = Join (shapes_of l)
gather_kind l f one_mux = Mux (tuple_shape l)
gather_kind l f one_pure = Pure f (tuple_shape l ++ 1 ∷ [])
gather_kind l f one_pair = Split (tuple_shape l ∷ (1 ∷ []) ∷ [])
gather_kind l f one_cond = Fork (1 ∷ []) 2
gather_kind l f one_branch = Branch (tuple_shape l)
gather_kind l f one_out = Split (shapes_of l)

-- an exit of a Branch is an output of out; else what a node that goes fed is the mark
abbrev pub gather_out : Loop → (GatherNode → Name) → Port → Port
gather_out l name q =
    port_or (lane_place (λ (x : Lane). x.branch) l.lanes q.node) (name one_out)
    (if has_name (frame_of l ++ l.body) q.node then port_at (name one_cond) 2 else q)

abbrev pub gather_source : Circuit → Name → Loop → (GatherNode → Name) → GatherNode → ℕ → Option Port
gather_source g m l name one_in j = fed_lane g (gather_out l name) (port_get l.lanes j) (fresh_of l) None
gather_source g m l name one_mux (suc zero) = Some (port_at m 1)
gather_source g m l name one_mux (suc (suc zero)) = if l.goes_back then Some (port_at (name one_in) 1) else Some (port_at (name one_branch) 2)
gather_source g m l name one_mux (suc (suc (suc zero))) = if l.goes_back then Some (port_at (name one_branch) 1) else Some (port_at (name one_in) 1)
gather_source g m l name one_pure (suc zero) = Some (port_at (name one_mux) 1)
gather_source g m l name one_pair (suc zero) = Some (port_at (name one_pure) 1)
gather_source g m l name one_cond (suc zero) = Some (port_at (name one_pair) 2)
gather_source g m l name one_branch (suc zero) = Some (port_at (name one_pair) 1)
gather_source g m l name one_branch (suc (suc zero)) = Some (port_at (name one_cond) 1)
gather_source g m l name one_out (suc zero) = Some (port_at (name one_branch) (exit_out l.goes_back))
gather_source g m l name _ _ = None

-- g with the loop l at m gathered, where f is the function of its body
abbrev pub gathered_graph : Circuit → Name → Loop → Function → (GatherNode → Name) → Circuit
gathered_graph g m l f name =
    rebuilt g (frame_of l ++ l.body) name gather_nodes (gather_kind l f) (gather_source g m l name) (gather_out l name)

-- the loop at m in a gathered graph
abbrev pub gathered_loop : Loop → (GatherNode → Name) → Loop
gathered_loop l name =
    record {
      tags = l.tags;
      goes_back = l.goes_back;
      tree = [];
      lanes = record { mux = name one_mux; branch = name one_branch; back = []; shape = tuple_shape l } ∷ [];
      body = name one_pure ∷ name one_pair ∷ name one_cond ∷ [];
    }
