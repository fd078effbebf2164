-- The Branch of a lane, at the end of its back path.
use Rattle.std.proofs.Common.{◌≡◌, refl, sym, ap, subst, Bool, true, false, List, Option, Some, None}
use Rattle.std.proofs.lemmas.Bool.{false≢true}
use Rattle.components.specs.declared.kind.Kind.{Kind}
use Rattle.components.specs.declared.kind.Kind.TheVariants.{Mux, Branch}
use Rattle.components.specs.Name.{Name, Port, port_get}
use Rattle.components.specs.Kind.{Shape, ins}
use Rattle.circuits.specs.Circuit.{Typed, circuit_of}
use Rattle.loop_laws.specs.Polarity.{back_in, back_out}
use Rattle.loop_laws.specs.Reached.{port_at, IsLane}
use Rattle.loop_laws.specs.BackPath.{Through}
use Rattle.graph_core.specs.declared.place.NodeId.{NodeId}
use Rattle.graph_core.specs.declared.place.PortAt.{PortAt}
use Rattle.graph_core.specs.GraphValue.{GraphValue, name_by, port_of}
use Rattle.loop_find.specs.Walks.{is_branch, is_mux}
use Rattle.loop_find.specs.Backs.{IsBackOf, IsBranchBy, IsFed, turned_names}

branch_shape : (o : Option Kind) → is_branch o ≡ true → (shape : Shape) × (o ≡ Some (Branch shape))
branch_shape (Some (Branch shape)) is = (shape, refl)
branch_shape None is = absurd (false≢true is)
branch_shape (Some _) is = absurd (false≢true is)

back_port : (goes_back : Bool) (shape : Shape) → port_get (ins (Mux shape)) (back_in goes_back) ≡ Some shape
back_port true shape = refl
back_port false shape = refl

module _ (g : GraphValue) (m : Name) (goes_back : Bool) (lane : NodeId) (is_lane : IsLane (circuit_of g.graph) m (name_by g.ids lane)) where
  pub lane_fed : Typed (circuit_of g.graph) → (target : PortAt) → port_of g target ≡ port_at (name_by g.ids lane) (back_in goes_back) → IsFed g target
  lane_fed ty target same =
      subst (λ p. (q : Port) × ((circuit_of g.graph).feeder p ≡ Some q)) (sym same)
      (ty.inputs (port_at (name_by g.ids lane) (back_in goes_back)) (Mux is_lane.shape) is_lane.shape is_lane.is_mux (back_port goes_back is_lane.shape))

  pub lane_mux : is_mux ((circuit_of g.graph).kind_at (name_by g.ids lane)) ≡ true
  lane_mux = ap is_mux is_lane.is_mux

  module _ (target source : PortAt) (ids : List NodeId) (same : port_of g target ≡ port_at (name_by g.ids lane) (back_in goes_back)) (back : IsBackOf g target ids source) where
    path : Through (circuit_of g.graph) (port_of g source) (turned_names g ids) (port_at (name_by g.ids lane) (back_in goes_back))
    path = subst (Through (circuit_of g.graph) (port_of g source) (turned_names g ids)) same back.path

    pub ends_at_branch : source.port ≡ back_out goes_back → is_branch ((circuit_of g.graph).kind_at (name_by g.ids source.node)) ≡ true → IsBranchBy g m goes_back lane ids source.node
    ends_at_branch out branch =
        let (shape, is) = branch_shape _ branch in
        record {
          its = record {
            is_lane = is_lane;
            shape = shape;
            is_branch = is;
            back = turned_names g ids;
            path = subst (λ i. Through (circuit_of g.graph) (port_at (name_by g.ids source.node) i) (turned_names g ids) (port_at (name_by g.ids lane) (back_in goes_back))) out path;
          };
          back = refl;
          live = back.live;
          denotes = back.denotes;
        }
