-- nodes of a family at the ports of one node, by their numbers
use Rattle.std.proofs.Common.{◌≡◌, ℕ, ap, ◌∙◌, List, Some}
use Rattle.components.specs.Name.{port_get}
use Rattle.circuit_plans.specs.Places.{output_at}
use Rattle.circuit_plans.proofs.Plans.{Out}
use Rattle.circuit_plans.proofs.PlanTyped.{ForSome}
use Rattle.circuit_plans.proofs.Places.{Place, item, number, place_at, place_number, number_item, PortOf, at, no_port, port_of, for_is, for_none}

module _ {N A : Type 0} (xs : List A) (family : Place xs → N) where
  numbered : (i : ℕ) (l : Place xs) → i ≡ number xs l → output_at family 1 (place_at xs i) ≡ Some (record { at = family l; port = 1 })
  numbered i l is = ap (λ z. output_at family 1 (place_at xs z)) is ∙ ap (output_at family 1) (place_number xs l)

  by_port : (P : Out N → Type 0) (i : ℕ) → ((l : Place xs) → i ≡ number xs l → P (record { at = family l; port = 1 })) → PortOf xs i → ForSome (output_at family 1 (place_at xs i)) P
  by_port P i h (at l is) = for_is (output_at family 1 (place_at xs i)) P (record { at = family l; port = 1 }) (numbered i l is) (h l is)
  by_port P i h (no_port e f) = for_none (output_at family 1 (place_at xs i)) P (ap (output_at family 1) e)

  -- what holds of the node of each number
  pub at_number : (P : Out N → Type 0) (i : ℕ) → ((l : Place xs) → i ≡ number xs l → P (record { at = family l; port = 1 })) → ForSome (output_at family 1 (place_at xs i)) P
  at_number P i h = by_port P i h (port_of xs i)

  found_by : (i : ℕ) → PortOf xs i → ForSome (port_get xs i) (λ a. (q : Out N) × (output_at family 1 (place_at xs i) ≡ Some q))
  found_by i (at l is) =
      for_is (port_get xs i) (λ a. (q : Out N) × (output_at family 1 (place_at xs i) ≡ Some q)) (item xs l) (ap (port_get xs) is ∙ number_item xs l) (_, numbered i l is)
  found_by i (no_port e f) = for_none (port_get xs i) (λ a. (q : Out N) × (output_at family 1 (place_at xs i) ≡ Some q)) f

  -- each number of a port has its node
  pub found : (i : ℕ) → ForSome (port_get xs i) (λ a. (q : Out N) × (output_at family 1 (place_at xs i) ≡ Some q))
  found i = found_by i (port_of xs i)
