-- The laws of the two loops, of their graphs.
use Rattle.std.proofs.Common.{◌≡◌, ℕ, zero, suc, sym, ap, subst, ◌∙◌, map, Some}
use Rattle.std.proofs.lemmas.Option.{none-some, same_Some}
use Rattle.components.specs.declared.kind.Kind.TheVariants.{Entry, Exit, Branch}
use Rattle.components.specs.Name.{Name, Port}
use Rattle.components.specs.Kind.{Shape}
use Rattle.circuits.specs.Values.{ValuesFit}
use Rattle.circuits.specs.Circuit.{circuit_of}
use Rattle.circuits.specs.Refines.{Refines}
use Rattle.circuits.specs.Replacing.{NoneTwice}
use Rattle.circuits.specs.Laws.{GraphIsTyped}
use Rattle.circuit_plans.specs.Plans.{Out, Naming, built}
use Rattle.circuit_plans.proofs.Plans.{feeder_named, kind_named}
use Rattle.circuit_plans.proofs.PlanTyped.{fed, who}
use Rattle.circuit_plans.proofs.Namings.{naming}
use Rattle.circuit_plans.proofs.Drawn.{drawn_is}
use Rattle.tagged_loop.specs.InOrderLoop.{InOrderNode, LoopParts, entry, init, mux, pure, pair, cond, branch, exit, in_order_nodes, in_order, in_order_kind, in_order_loop}
use Rattle.tagged_loop.specs.TaggedLoop.{TaggedNode, tagger, merge, tag, retag, new_branch, tagged_nodes, tagged_drawing, tagged_loop}
use Rattle.tagged_loop.specs.Ring.{HasRing}
use Rattle.tagged_loop.specs.Laws.{TaggingIsRule, TaggedLoopRefines, TaggedLoopHasRing, ring_of}
use Rattle.tagged_loop.proofs.LoopPlans.{in_order_plan, in_order_source, tagged_plan}
use Rattle.tagged_loop.proofs.LoopDraws.{old_in, new_in, old_draws, new_draws}
use Rattle.tagged_loop.proofs.TagRefines.{tag_loop_refines}

module _ (loop : LoopParts) (old : InOrderNode → Name) (once : NoneTwice (map old in_order_nodes)) where
  abbrev pub old_naming : Naming InOrderNode
  old_naming = naming old in_order_nodes old_in once

  pub old_is : circuit_of (in_order_loop loop old) ≡ built (in_order_plan loop.shape loop.fun loop.goes_back loop.mark) old_naming
  old_is = drawn_is (in_order loop) (in_order_plan loop.shape loop.fun loop.goes_back loop.mark) (old_draws loop) old_naming once

  -- no Exit is fed by an Entry
  apart : (n : InOrderNode) (i : ℕ) (q : Out InOrderNode) (a b : Shape) → in_order_source loop.goes_back n i ≡ Some q →
      in_order_kind loop n ≡ Exit a → in_order_kind loop q.at ≡ Entry b → ⊥
  apart entry i q a b f x e = cc
  apart init i q a b f x e = cc
  apart mux i q a b f x e = cc
  apart pure i q a b f x e = cc
  apart pair i q a b f x e = cc
  apart cond i q a b f x e = cc
  apart branch i q a b f x e = cc
  apart exit zero q a b f x e = absurd (none-some q f)
  apart exit (suc zero) q a b f x e =
      let at : branch ≡ q.at = ap (λ (z : Out InOrderNode). z.at) (same_Some _ q f) in
      let k : Branch loop.shape ≡ Entry b = ap (in_order_kind loop) at ∙ e in
      cc
  apart exit (suc (suc i)) q a b f x e = absurd (none-some q f)

  built_apart : (p q : Port) (a b : Shape) → (built (in_order_plan loop.shape loop.fun loop.goes_back loop.mark) old_naming).feeder p ≡ Some q →
      (built (in_order_plan loop.shape loop.fun loop.goes_back loop.mark) old_naming).kind_at p.node ≡ Some (Exit a) →
      (built (in_order_plan loop.shape loop.fun loop.goes_back loop.mark) old_naming).kind_at q.node ≡ Some (Entry b) → ⊥
  built_apart p q a b f x e =
      let plan = in_order_plan loop.shape loop.fun loop.goes_back loop.mark in
      let w = fed plan old_naming p q f in
      let (n, is, kind) = who plan old_naming p.node (Exit a) x in
      let same : w.node ≡ n = same_Some w.node n (sym w.is_node ∙ is) in
      let source : Some (in_order_kind loop w.out.at) ≡ Some (Entry b) =
      sym (kind_named plan old_naming w.out.at) ∙ ap (λ (z : Port). (built plan old_naming).kind_at z.node) w.is ∙ e in
      apart w.node p.port w.out a b w.source (ap (in_order_kind loop) same ∙ kind) (same_Some (in_order_kind loop w.out.at) (Entry b) source)

module _ (loop : LoopParts) (tags : ℕ) (new : TaggedNode → Name) (once : NoneTwice (map new tagged_nodes)) where
  abbrev pub new_naming : Naming TaggedNode
  new_naming = naming new tagged_nodes new_in once

  pub new_is : circuit_of (tagged_loop loop tags new) ≡ built (tagged_plan loop.shape loop.fun loop.goes_back tags) new_naming
  new_is = drawn_is (tagged_drawing loop tags) (tagged_plan loop.shape loop.fun loop.goes_back tags) (new_draws loop tags) new_naming once

  built_ring : HasRing (built (tagged_plan loop.shape loop.fun loop.goes_back tags) new_naming) (ring_of new) loop.shape loop.goes_back tags
  built_ring =
      let plan = tagged_plan loop.shape loop.fun loop.goes_back tags in
      record {
        is_tagger = kind_named plan new_naming tagger;
        is_merge = kind_named plan new_naming merge;
        is_tag = kind_named plan new_naming tag;
        is_retag = kind_named plan new_naming retag;
        is_branch = kind_named plan new_naming new_branch;
        into_merge = feeder_named plan new_naming merge 1;
        back_merge = feeder_named plan new_naming merge 2;
        into_tag = feeder_named plan new_naming tag 1;
        into_retag = feeder_named plan new_naming retag 1;
        into_branch = feeder_named plan new_naming new_branch 1;
        into_tagger = feeder_named plan new_naming tagger 2;
      }

pub has_ring : TaggedLoopHasRing
has_ring loop tags new once =
    subst (λ c. HasRing c (ring_of new) loop.shape loop.goes_back tags) (sym (new_is loop tags new once)) (built_ring loop tags new once)

pub refines : ValuesFit → TaggedLoopRefines
refines values loop tags old new can =
    subst (λ c. Refines c (circuit_of (in_order_loop loop old))) (sym (new_is loop tags new can.new_names))
    (subst (Refines (built (tagged_plan loop.shape loop.fun loop.goes_back tags) (new_naming loop tags new can.new_names))) (sym (old_is loop old can.old_names))
    (tag_loop_refines loop.shape loop.fun loop.goes_back tags loop.mark can.function values can.mark can.some can.few
    (new_naming loop tags new can.new_names) (old_naming loop old can.old_names) can.same_entry can.same_exit))

pub is_rule : ValuesFit → GraphIsTyped → TaggingIsRule
is_rule values graph loop tags old new can =
    let r = refines values loop tags old new can in
    record {
      old_typed = graph (in_order_loop loop old) r.old_typed;
      new_typed = graph (tagged_loop loop tags new) r.new_typed;
      ports = r.ports;
      no_through = λ p q a b f x e.
          let is = old_is loop old can.old_names in
          built_apart loop old can.old_names p q a b (ap (λ c. c.feeder p) (sym is) ∙ f) (ap (λ c. c.kind_at p.node) (sym is) ∙ x) (ap (λ c. c.kind_at q.node) (sym is) ∙ e);
    }
