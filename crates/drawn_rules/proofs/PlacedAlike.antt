-- Where a drawing stands is told by the names of its inner nodes alone.
use Rattle.std.proofs.Common.{◌≡◌, inl, inr, true, sym, ap, ◌∙◌, Some}
use Rattle.std.specs.FinMap as finite
use Rattle.components.specs.Name.{Name}
use Rattle.components.specs.NamedGraph.{NamedGraph}
use Rattle.circuits.specs.Circuit.{circuit_of}
use Rattle.circuit_plans.specs.Plans.{Out}
use Rattle.circuit_plans.specs.Drawing.{Drawing, port_named}
use Rattle.drawn_rules.specs.Placed.{is_inside, IsPlaced}

module _ {N M : Type 0} (g : NamedGraph) (left : Drawing N) (old other : N → Name) (right : Drawing M) (new another : M → Name)
    (old_same : (n : N) → is_inside left n ≡ true → old n ≡ other n) (new_same : (m : M) → is_inside right m ≡ true → new m ≡ another m) where
  same_port : (p : Out N) → is_inside left p.at ≡ true → port_named other p ≡ port_named old p
  same_port p inside = λ i. record { node = sym (old_same p.at inside) i; port = p.port }

  pub placed_alike : IsPlaced g left old right new → IsPlaced g left other right another
  placed_alike h =
      record {
        kinds = λ n inside. ap (circuit_of g).kind_at (sym (old_same n inside)) ∙ h.kinds n inside;
        wires = λ w from into.
            let same = h.wires w from into in (
              (λ fed. same.0 (ap (finite.get g.feeders) (sym (same_port w.target into)) ∙ fed ∙ ap Some (same_port w.source from))),
              (λ i. ap (finite.get g.feeders) (same_port w.target into) ∙ same.1 i ∙ ap Some (sym (same_port w.source from))),
            );
        room = λ m inside.
            elim (h.room m inside) [
              | inl none ↦ inl (ap (circuit_of g).kind_at (sym (new_same m inside)) ∙ none)
              | inr (n, within, is) ↦ inr (n, within, sym (old_same n within) ∙ is ∙ new_same m inside)
            ];
      }
