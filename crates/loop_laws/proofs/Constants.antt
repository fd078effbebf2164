-- Constant nodes: their kinds, and what feeds them.
use Rattle.std.proofs.Common.{◌⊎◌, inl, inr, sym, ap, subst, ◌∙◌, List, [], ◌∷◌}
use Rattle.components.specs.Name.{Name}
use Rattle.circuits.specs.Circuit.{Circuit}
use Rattle.circuits.specs.Replacing.{In, In.head, In.tail}
use Rattle.loop_laws.specs.Reached.{port_at, HasKind, FedBy}
use Rattle.loop_laws.specs.Feeders.{IsConstant, AreConstant}

-- what stands in a list of constant nodes
pub constant_kind : (g : Circuit) (before ns : List Name) (n : Name) → AreConstant g before ns → In n ns → HasKind g IsConstant n
constant_kind g before [] n h i = elim i [ ]
constant_kind g before (k ∷ ks) n h (head e) = subst (HasKind g IsConstant) (sym e) h.0
constant_kind g before (k ∷ ks) n h (tail i) = constant_kind g (k ∷ before) ks n h.2 i

pub later_or : (n k : Name) (before ks : List Name) → In n (k ∷ before) ⊎ In n ks → In n before ⊎ In n (k ∷ ks)
later_or n k before ks (inl (head e)) = inr (head e)
later_or n k before ks (inl (tail i)) = inl i
later_or n k before ks (inr i) = inr (tail i)

pub constant_fed : (g : Circuit) (before ns : List Name) (n : Name) → AreConstant g before ns → In n ns → FedBy g (λ x. In x before ⊎ In x ns) n
constant_fed g before [] n h i = elim i [ ]
constant_fed g before (k ∷ ks) n h (head e) = λ i q f. inl (h.1 i q (ap (λ z. g.feeder (port_at z i)) (sym e) ∙ f))
constant_fed g before (k ∷ ks) n h (tail j) = λ i q f. later_or q.node k before ks (constant_fed g (k ∷ before) ks n h.2 j i q f)
