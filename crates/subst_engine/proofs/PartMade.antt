-- What is gathered can be exchanged, and gives the replaced graph.
use Rattle.std.proofs.Common.{◌≡◌, true, false, List, Result, Ok, Err, sym, subst, ◌∙◌, true≢false}
use Rattle.std.specs.Prelude.{OnOk}
use Rattle.std.specs.List.{Contains}
use Rattle.std.proofs.lemmas.List.Elements.{All-contains}
use Rattle.std.proofs.lemmas.Option.{same_Some}
use Rattle.components.specs.declared.node.Node.{Node}
use Rattle.components.specs.Name.{Name}
use Rattle.components.specs.NamedGraph.{NamedGraph, IsTyped}
use Rattle.circuits.specs.Laws.{ConsumerIsFed, GraphReplacementRefines, ReplacedNodes, ReplacedGraphIsCircuit, ReplacedGraphIsTyped}
use Rattle.circuits.specs.Circuit.{circuit_of}
use Rattle.circuits.specs.Refines.{Refines}
use Rattle.circuits.specs.ReplacedGraph.{has_inner}
use Rattle.graph_core.specs.declared.exchange.End.{End}
use Rattle.graph_core.specs.declared.place.NodeId.{NodeId}
use Rattle.graph_core.specs.Exchange.{CanExchange, IsExchanged}
use Rattle.graph_core.specs.GraphValue.{GraphValue, Denotes, IsGraph}
use Rattle.subst_engine.specs.NewWires.{CanReplace}
use Rattle.subst_engine.specs.PartLists.{AreFresh, AreGone, AreNewWires, FreshBelow, IsGone, WiresBelow}
use Rattle.subst_engine.specs.Replaced.{IsExchangedPart, IsReplaced}
use Rattle.subst_engine.proofs.FreshLists.{all_fresh}
use Rattle.subst_engine.proofs.PartExchanged.{can_exchange, exchanged_is_replaced}
use Rattle.subst_engine.proofs.WireLists.{all_wires}

pub on_ok : {E : Type 0} {P Q : Type 0} (r : Result (Unit {0}) E) → (P → Q) → OnOk r P → OnOk r Q
on_ok (Ok done) f p = f p
on_ok (Err e) f p = tt

module _ (g : GraphValue) (left : NamedGraph) (right : GraphValue) (is_g : IsGraph g) (is : IsGraph right) (can : CanReplace g.graph left right.graph)
    (consumer : ConsumerIsFed) (nodes : ReplacedNodes) (circuit : ReplacedGraphIsCircuit) (typed : ReplacedGraphIsTyped)
    (gone : List NodeId) (fresh : List Node) (wires : List (End × End))
    (goes : AreGone g left gone) (come : FreshBelow right right.slots fresh) (join : WiresBelow g left right fresh right.slots wires) where
  comes : AreFresh right.graph fresh
  comes = all_fresh right is fresh come

  joins : AreNewWires g left right.graph gone fresh wires
  joins = all_wires g left right is fresh is_g gone goes wires join

  pub part_can_exchange : CanExchange g gone fresh wires
  part_can_exchange = can_exchange g left right.graph is_g can consumer nodes circuit typed gone fresh wires goes comes joins

  not_gone : (id : NodeId) (name : Name) → Denotes g id name → has_inner left name ≡ false → ¬ (Contains gone id)
  not_gone id name denotes outer there =
      let (other, named, inner) = All-contains (IsGone g left) gone id goes.are there in
      true≢false (sym (subst (λ n. has_inner left n ≡ true) (same_Some other name (sym named ∙ denotes)) inner) ∙ outer)

  pub part_exchanged : (ids : List NodeId) → ids ≡ gone → (ends : List (End × End)) → ends ≡ wires → (h : GraphValue) → IsExchanged g ids fresh ends h → IsExchangedPart g left right.graph h
  part_exchanged ids are_gone ends are_wires h exchanged =
      let made : IsExchanged g gone fresh wires h = subst (λ xs. IsExchanged g xs fresh wires h) are_gone (subst (λ ws. IsExchanged g ids fresh ws h) are_wires exchanged) in
      record {
        graph = made.graph ∙ exchanged_is_replaced g left right.graph is_g can consumer nodes circuit typed gone fresh wires goes comes joins;
        stay = λ id name denotes outer. made.stay id name denotes (not_gone id name denotes outer);
        slots = made.slots;
      }

-- what comes of it where the rule matched
pub replaced_from : (g : GraphValue) (left right : NamedGraph) (h : GraphValue) → ReplacedGraphIsTyped → GraphReplacementRefines → CanReplace g.graph left right → Refines (circuit_of right) (circuit_of left) →
    IsExchangedPart g left right h → IsReplaced g left right h
replaced_from g left right h typed refines can old part = record {
  matched = can.matches;
  part = part;
  typed = subst IsTyped (sym part.graph) (typed g.graph left right can.typed can.is_rule can.matches);
  refines = subst (λ k. Refines (circuit_of k) (circuit_of g.graph)) (sym part.graph) (refines g.graph left right can.typed can.is_rule can.matches old);
}
