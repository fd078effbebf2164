-- A loop stays a loop where its nodes and the wires between them stay.
use Rattle.std.proofs.Common.{◌≡◌, refl, ◌∙◌, Some}
use Rattle.components.specs.Name.{Name, Port}
use Rattle.circuits.specs.Circuit.{Circuit, Typed}
use Rattle.circuits.specs.Replacing.{In}
use Rattle.loop_laws.specs.Polarity.{back_out, back_in}
use Rattle.loop_laws.specs.Reached.{port_at}
use Rattle.loop_laws.specs.Loop.{Lane, Loop, IsLaneOf, LoopAt, NodeOf, NodeOf.is_mark, NodeOf.in_tree, NodeOf.lane, NodeOf.branch, NodeOf.in_back, NodeOf.in_body, IsExit}
use Rattle.loop_laws.proofs.Closed.{Inner, Inner.at_mark, Inner.at_tree, Inner.at_select, Inner.at_back, Inner.at_branch, Inner.at_buffer, Inner.at_body, inside_node, inside_no_exit, tree_inward}
use Rattle.loop_turns.proofs.Lists.{path_kept}
use Rattle.loop_turns.proofs.LoopMoved.{Core, Core.core_mark, Core.core_tree, Core.core_lane, Core.core_branch, Core.core_body, CoreIn, CoreIn.to_mark, CoreIn.to_tree, CoreIn.to_select, CoreIn.to_branch, CoreIn.to_body, loop_moved}

-- h has the nodes of g's loop at m, wired among themselves as in g
pub record Keeps (g h : Circuit) (m : Name) (l : Loop) : Type 0 where
  pub kinds : (n : Name) → NodeOf m l n → h.kind_at n ≡ g.kind_at n
  pub inner : (p : Port) → Inner m l p → h.feeder p ≡ g.feeder p
  pub outer : (p q : Port) → NodeOf m l q.node → (IsExit l q → ⊥) → h.feeder p ≡ Some q → g.feeder p ≡ Some q

pub core_node : (m : Name) (l : Loop) (n : Name) → Core m l n → NodeOf m l n
core_node m l n (core_mark e) = is_mark e
core_node m l n (core_tree i) = in_tree i
core_node m l n (core_lane x) = lane x
core_node m l n (core_branch x) = branch x
core_node m l n (core_body b) = in_body b

pub core_inner : (m : Name) (l : Loop) (p : Port) → CoreIn m l p → Inner m l p
core_inner m l p (to_mark e) = at_mark e
core_inner m l p (to_tree i) = at_tree i
core_inner m l p (to_select e x) = at_select e x
core_inner m l p (to_branch x) = at_branch x
core_inner m l p (to_body b) = at_body b

module _ (g h : Circuit) (ty : Typed g) (th : Typed h) (m : Name) (l : Loop) (was : LoopAt g m l) (keeps : Keeps g h m l) where
  lane_kept : (x : Lane) → In x l.lanes → IsLaneOf h l.goes_back x
  lane_kept x i =
      let o = was.tree.each_lane x i in
      record {
        is_mux = keeps.kinds x.mux (lane (x, i, refl)) ∙ o.is_mux;
        is_branch = keeps.kinds x.branch (branch (x, i, refl)) ∙ o.is_branch;
        path = path_kept g h (port_at x.branch (back_out l.goes_back)) x.back (port_at x.mux (back_in l.goes_back)) o.path
            (λ b j. (keeps.kinds b (in_back x i j), keeps.inner (port_at b 1) (at_buffer x i j))) (keeps.inner (port_at x.mux (back_in l.goes_back)) (at_back x i refl));
      }

  pub loop_kept : LoopAt h m l
  loop_kept =
      loop_moved g h ty th m l was l.lanes
      (record {
        kinds = λ n c. keeps.kinds n (core_node m l n c);
        inner = λ p i. keeps.inner p (core_inner m l p i);
        from_tree = λ p q t f. let o = tree_inward g ty m l was q t in keeps.outer p q o.node o.inward f;
        from_inside = λ p q i f. keeps.outer p q (inside_node g ty m l was q.node i) (inside_no_exit g ty m l was q i) f;
        muxes = refl;
        shapes = refl;
        lane_to = λ n x. x;
        lane_from = λ n x. x;
        branch_to = λ n x. x;
        branch_from = λ n x. x;
        each_lane = lane_kept;
      })
