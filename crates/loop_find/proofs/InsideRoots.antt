-- What a lane or a body in order feeds has a root.
use Rattle.std.proofs.Common.{◌≡◌, ◌⊎◌, inl, inr, sym, ap, subst, ◌∙◌, List, [], Some, ℕ, refl}
use Rattle.components.specs.declared.kind.Kind.{Kind}
use Rattle.components.specs.declared.kind.Kind.TheVariants.{Buffer, Fork, Mux}
use Rattle.components.specs.Name.{Name, Port, port_get}
use Rattle.components.specs.Kind.{Shape, ins}
use Rattle.circuits.specs.Circuit.{Circuit, Typed}
use Rattle.circuits.specs.Buffers.{first_port}
use Rattle.circuits.specs.Replacing.{In}
use Rattle.circuits.specs.Root.{PassesThrough, Root, here, past}
use Rattle.loop_laws.specs.BodyOrder.{InBodyOrder}
use Rattle.loop_laws.specs.Reached.{IsLane, FedBy}
use Rattle.loop_laws.proofs.Order.{after_feeding}

-- a kind passes through, and so has an input 1, or does not
data Passing (k : Kind) : Type 0 where
  yes_it_does : PassesThrough k → (a : Shape) → port_get (ins k) 1 ≡ Some a → Passing k
  not_so : ¬ (PassesThrough k) → Passing k

passing : (k : Kind) → Passing k
passing (Buffer shape) = yes_it_does tt shape refl
passing (Fork shape count) = yes_it_does tt shape refl
passing _ = not_so (λ h. h)

module _ (c : Circuit) (typed : Typed c) (m : Name) (body : List Name) (closed : (n : Name) → In n body → FedBy c (λ x. IsLane c m x ⊎ In x body) n) where
  abbrev HasRoot : Port → Type 0
  HasRoot p = (root : Port) × Root c p root

  -- each input that the node feeds has a root
  abbrev Leads : Name → Type 0
  Leads n = (p q : Port) → q.node ≡ n → c.feeder p ≡ Some q → HasRoot p

  lane_leads : (n : Name) → IsLane c m n → Leads n
  lane_leads n lane p q at fed = (q, here (Mux lane.shape) fed (ap c.kind_at at ∙ lane.is_mux) (λ h. h))

  through : (n : Name) (k : Kind) → c.kind_at n ≡ Some k → Passing k → ((r : Port) → c.feeder (first_port n) ≡ Some r → Leads r.node) → Leads n
  through n k is (not_so stops) from p q at fed = (q, here k fed (ap c.kind_at at ∙ is) stops)
  through n k is (yes_it_does passes a enters) from p q at fed =
      let (r, r_fed) = typed.inputs (first_port n) k a is enters in
      let (root, path) = from r r_fed (first_port n) r refl r_fed in
      (root, past q k fed (ap c.kind_at at ∙ is) passes (subst (λ z. Root c (first_port z) root) (sym at) path))

  step : (n : Name) → In n body → ((i : ℕ) (q : Port) → c.feeder (record { node = n; port = i }) ≡ Some q → In q.node body → Leads q.node) → Leads n
  step n inside before p q at fed =
      let w = typed.wires p q fed in
      through n w.from (ap c.kind_at (sym at) ∙ w.is_from) (passing w.from)
      (λ r r_fed. elim (closed n inside 1 r r_fed) [ inl lane ↦ lane_leads r.node lane | inr also ↦ before 1 r r_fed also ]) p q at fed

  pub inside_has_root : InBodyOrder c body [] body → (p q : Port) → c.feeder p ≡ Some q → IsLane c m q.node ⊎ In q.node body → HasRoot p
  inside_has_root order p q fed (inl lane) = lane_leads q.node lane p q refl fed
  inside_has_root order p q fed (inr inside) = after_feeding c body Leads step [] body order (λ x i. elim i [ ]) q.node inside p q refl fed
