-- The loop by names that a loop by ids stands for.
use Rattle.std.specs.Prelude.{◌≡◌, ◌≤◌, [], map, nat_eq, Option, Some}
use Rattle.components.specs.declared.kind.Kind.{Kind}
use Rattle.components.specs.declared.kind.Kind.TheVariants.{Mux}
use Rattle.components.specs.Kind.{Shape}
use Rattle.circuits.specs.Circuit.{circuit_of}
use Rattle.loop_laws.specs.Loop as laws
use Rattle.loop_laws.specs.Faults.{Fault}
use Rattle.graph_core.specs.declared.place.NodeId.{NodeId}
use Rattle.graph_core.specs.GraphValue.{GraphValue, Denotes, name_by}
use Rattle.loop_find.specs.declared.shape.Lane.{Lane}
use Rattle.loop_find.specs.declared.shape.LoopShape.{LoopShape}
use Rattle.loop_find.specs.declared.shape.LoopFault.{LoopFault}
use Rattle.loop_find.specs.Marks.{names_by}

-- the shape of what a Mux passes
abbrev pub mux_shape : Option Kind → Shape
mux_shape (Some (Mux shape)) = shape
mux_shape _ = []

abbrev pub lane_by : GraphValue → Lane → laws.Lane
lane_by g x =
    record {
      mux = name_by g.ids x.mux;
      branch = name_by g.ids x.branch;
      back = names_by g x.back;
      shape = mux_shape ((circuit_of g.graph).kind_at (name_by g.ids x.mux));
    }

abbrev pub loop_by : GraphValue → LoopShape → laws.Loop
loop_by g s =
    record {
      tags = s.tags;
      goes_back = nat_eq s.back_bit 1;
      tree = names_by g s.tree;
      lanes = map (lane_by g) s.lanes;
      body = names_by g s.body;
    }

-- the loop by ids stands for the loop at this mark
pub record IsLoopAt (g : GraphValue) (mark : NodeId) (s : LoopShape) : Type 0 where
  pub of_mark : s.mark ≡ mark
  pub is_bit : s.back_bit ≤ 1
  pub is_loop : laws.LoopAt (circuit_of g.graph) (name_by g.ids mark) (loop_by g s)

-- the fault by ids is that of this mark
pub record IsFaultAt (g : GraphValue) (mark : NodeId) (f : LoopFault) : Type 0 where
  pub of_mark : f.mark ≡ mark
  pub denotes : Denotes g f.node (name_by g.ids f.node)
  pub is_fault : Fault (circuit_of g.graph) (name_by g.ids mark) f.kind (name_by g.ids f.node)
