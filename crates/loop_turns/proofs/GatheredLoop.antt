-- A gathered mark has the gathered loop.
use Rattle.std.proofs.Common.{◌≡◌, ◌⊎◌, inl, inr, refl, sym, ap, subst, ◌∙◌, Bool, Option, Some}
use Rattle.components.specs.Name.{Name, Port}
use Rattle.fun_expr.specs.Function.{Function}
use Rattle.circuits.specs.Circuit.{Circuit, Typed}
use Rattle.tagged_loop.specs.LoopFunction.{IsLoopFunction}
use Rattle.loop_laws.specs.Loop.{Loop, LoopAt}
use Rattle.loop_turns.specs.Rebuilt.{NewNames}
use Rattle.loop_turns.specs.Lanes.{tuple_shape}
use Rattle.loop_turns.specs.Gathered.{GatherNode, GatherNode.one_mux, GatherNode.one_pure, GatherNode.one_pair, GatherNode.one_cond, GatherNode.one_branch, GatherNode.one_out, gather_kind, gathered_graph, gathered_loop, gather_nodes}
use Rattle.loop_turns.proofs.Rewiring.{Was, rewired_typed, Rewires}
use Rattle.loop_turns.proofs.OneLane.{OneLane, one_lane_loop}
use Rattle.loop_turns.proofs.GatheredWires.{InOf, OutOf, OutOf.out_stays, OutOf.out_exit, Own, Own.own_select, Own.own_back, Own.own_pure, Own.own_pair, Own.own_cond, Own.own_data, Own.own_decides, Own.own_mark, kn, mark_kind_now, own_wire, old_wires}
use Rattle.loop_turns.proofs.GatheredGraph.{named, goes_to, IsLoopNode, own_source, named_apart, not_named, gathered_rewires}

module _ (g : Circuit) (ty : Typed g) (m : Name) (l : Loop) (at : LoopAt g m l) (f : Function) (body : IsLoopFunction (tuple_shape l) f) (name : GatherNode → Name) (names : NewNames g gather_nodes name) where
  abbrev T : Circuit
  T = gathered_graph g m l f name

  abbrev d : Bool
  d = l.goes_back

  abbrev L : Loop
  L = gathered_loop l name

  re : Rewires g T m l (InOf g m l name) (OutOf g m l name) (Own m l name)
  re = gathered_rewires g ty m l at f body name names

  tt' : Typed T
  tt' = rewired_typed g T m l (InOf g m l name) (OutOf g m l name) (Own m l name) re ty

  wires : (p q : Port) → T.feeder p ≡ Some q → Was g (InOf g m l name) (OutOf g m l name) p q ⊎ Own m l name p q
  wires = old_wires g ty m l at f body name names

  own : (p q : Port) → Own m l name p q → T.feeder p ≡ Some q
  own = own_wire g ty m l at f body name names

  apart : (x y : Option GatherNode) → named m name x ≡ named m name y → x ≡ y
  apart = named_apart g ty m l at f body name names

  new_kind : (x : GatherNode) → T.kind_at (name x) ≡ Some (gather_kind l f x)
  new_kind x = kn g ty m l at f body name names x

  -- where a wire out of a node of the loop leads
  out_away : (q0 q : Port) (x : Option GatherNode) → q.node ≡ named m name x → IsLoopNode x → OutOf g m l name q0 q → ⊥
  out_away q0 q x e r (out_stays s away h) = not_named g ty m l at f body name names q.node s.0 s.1 away x e
  out_away q0 q x e r (out_exit j y k h h') = subst IsLoopNode (apart x (Some one_out) (sym e ∙ ap (λ (z : Port). z.node) h')) r

  pub from_new : (p q : Port) → T.feeder p ≡ Some q → (x : Option GatherNode) → q.node ≡ named m name x → IsLoopNode x → p ≡ goes_to m name d x q.port
  from_new p q h x e r =
      elim (wires p q h) [
        | inl w ↦ absurd (out_away w.source q x e r w.out)
        | inr o ↦
            let a = own_source m l name p q o in
            let same : a.node ≡ x = apart a.node x (ap (λ (z : Port). z.node) (sym a.is) ∙ e) in
            a.goes ∙ ap (λ z. goes_to m name d z a.port) same ∙ ap (λ (z : Port). goes_to m name d x z.port) (sym a.is)
      ]

  pub one_lane : OneLane T m (name one_mux) (name one_pure) (name one_pair) (name one_cond) (name one_branch) d l.tags (tuple_shape l) f
  one_lane =
      record {
        is_mark = mark_kind_now g ty m l at f body name names;
        is_mux = new_kind one_mux;
        is_pure = new_kind one_pure;
        is_pair = new_kind one_pair;
        is_cond = new_kind one_cond;
        is_branch = new_kind one_branch;
        selects = own _ _ (own_select refl refl);
        turns = own _ _ (own_back refl refl);
        to_pure = own _ _ (own_pure refl refl);
        to_pair = own _ _ (own_pair refl refl);
        to_cond = own _ _ (own_cond refl refl);
        to_branch = own _ _ (own_data refl refl);
        decides = own _ _ (own_decides refl refl);
        to_mark = own _ _ (own_mark refl refl);
      }

  pub gathered_loop_at : LoopAt T m (gathered_loop l name)
  gathered_loop_at =
      one_lane_loop T tt' m (name one_mux) (name one_pure) (name one_pair) (name one_cond) (name one_branch) d l.tags (tuple_shape l) f one_lane at.mark.1 at.slim body.ok.1.size
