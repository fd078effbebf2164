-- A list of constant nodes, from the last to the first.
use Rattle.std.proofs.Common.{◌≡◌, ◌≢◌, ◌⊎◌, inl, inr, refl, sym, ap, subst, ◌∙◌, List, [], ◌∷◌, Some}
use Rattle.components.specs.Name.{Name, Port}
use Rattle.components.specs.Orders.{name_cases}
use Rattle.circuits.specs.Circuit.{Circuit}
use Rattle.circuits.specs.Replacing.{In, In.head, In.tail}
use Rattle.loop_laws.specs.Reached.{port_at, HasKind, FedBy}
use Rattle.loop_laws.specs.Feeders.{IsConstant, AreConstant}

name_in : (n : Name) (ns : List Name) → In n ns ⊎ ¬ (In n ns)
name_in n [] = inr (λ i. elim i [ ])
name_in n (k ∷ ns) =
    elim (name_cases n k) [
      | inl same ↦ inl (head same)
      | inr apart ↦ elim (name_in n ns) [ inl i ↦ inl (tail i) | inr never ↦ inr (λ i. behind k ns i apart never) ]
    ]
  where
    behind : (k : Name) (ns : List Name) → In n (k ∷ ns) → n ≢ k → ¬ (In n ns) → ⊥
    behind k ns (head e) apart never = apart e
    behind k ns (tail i) apart never = never i

-- what holds of a constant node where it holds of each node of the list that it feeds holds of all
module _ (c : Circuit) (all : List Name) (P : Name → Type 0)
    (step : (n : Name) → HasKind c IsConstant n → In n all → ((p q : Port) → q.node ≡ n → c.feeder p ≡ Some q → In p.node all → P p.node) → P n) where
  abbrev IsClosed : List Name → Type 0
  IsClosed before = (p q : Port) → In p.node before → c.feeder p ≡ Some q → In q.node before

  closed_more : (k : Name) (before : List Name) → FedBy c (λ x. In x before) k → IsClosed before → IsClosed (k ∷ before)
  closed_more k before fed closed p q (head e) f = tail (fed p.port q (ap (λ n. c.feeder (port_at n p.port)) (sym e) ∙ f))
  closed_more k before fed closed p q (tail i) f = tail (closed p q i f)

  or_more : (k x : Name) (before ns : List Name) → In x before ⊎ In x (k ∷ ns) → In x (k ∷ before) ⊎ In x ns
  or_more k x before ns (inl i) = inl (tail i)
  or_more k x before ns (inr (head e)) = inl (head e)
  or_more k x before ns (inr (tail i)) = inr i

  back_one : (k : Name) (before ns : List Name) → AreConstant c before (k ∷ ns) → IsClosed before → ((x : Name) → In x (k ∷ ns) → In x all) → ((x : Name) → In x all → In x before ⊎ In x (k ∷ ns)) →
      ((x : Name) → In x ns → In x (k ∷ before) ⊎ P x) → (x : Name) → In x (k ∷ ns) → In x before ⊎ P x
  back_one k before ns o closed sub every rest x i = elim (name_in k before) [ inl there ↦ old there x i | inr new ↦ at new x i ]
    where
      old_or : In k before → (x : Name) → In x (k ∷ before) ⊎ P x → In x before ⊎ P x
      old_or there x (inl (head e)) = inl (subst (λ y. In y before) (sym e) there)
      old_or there x (inl (tail i)) = inl i
      old_or there x (inr p) = inr p

      old : In k before → (x : Name) → In x (k ∷ ns) → In x before ⊎ P x
      old there x (head e) = inl (subst (λ y. In y before) (sym e) there)
      old there x (tail i) = old_or there x (rest x i)

      -- nothing that k feeds stands before it
      none_before : ¬ (In k before) → (p q : Port) → q.node ≡ k → c.feeder p ≡ Some q → In p.node (k ∷ before) → ⊥
      none_before new p q same f i = out (closed_more k before o.1 closed p q i f)
        where
          out : In q.node (k ∷ before) → ⊥
          out (head e) = elim i [
            | head e2 ↦ new (subst (λ y. In y before) same (o.1 p.port q (ap (λ n. c.feeder (port_at n p.port)) (sym e2) ∙ f)))
            | tail j ↦ new (subst (λ y. In y before) same (closed p q j f))
          ]
          out (tail j) = new (subst (λ y. In y before) same j)

      of_rest : ¬ (In k before) → (p q : Port) → q.node ≡ k → c.feeder p ≡ Some q → In p.node (k ∷ before) ⊎ P p.node → P p.node
      of_rest new p q same f (inl i) = absurd (none_before new p q same f i)
      of_rest new p q same f (inr h) = h

      of_either : ¬ (In k before) → (p q : Port) → q.node ≡ k → c.feeder p ≡ Some q → In p.node (k ∷ before) ⊎ In p.node ns → P p.node
      of_either new p q same f (inl i) = absurd (none_before new p q same f i)
      of_either new p q same f (inr i) = of_rest new p q same f (rest p.node i)

      here : ¬ (In k before) → P k
      here new = step k o.0 (sub k (head refl)) (λ p q same f i. of_either new p q same f (or_more k p.node before ns (every p.node i)))

      new_or : ¬ (In k before) → (x : Name) → In x (k ∷ before) ⊎ P x → In x before ⊎ P x
      new_or new x (inl (head e)) = inr (subst P (sym e) (here new))
      new_or new x (inl (tail i)) = inl i
      new_or new x (inr p) = inr p

      at : ¬ (In k before) → (x : Name) → In x (k ∷ ns) → In x before ⊎ P x
      at new x (head e) = inr (subst P (sym e) (here new))
      at new x (tail i) = new_or new x (rest x i)

  back_from : (before ns : List Name) → AreConstant c before ns → IsClosed before → ((x : Name) → In x ns → In x all) → ((x : Name) → In x all → In x before ⊎ In x ns) →
      (x : Name) → In x ns → In x before ⊎ P x
  back_from before [] o closed sub every x i = elim i [ ]
  back_from before (k ∷ ns) o closed sub every x i =
      back_one k before ns o closed sub every
      (back_from (k ∷ before) ns o.2 (closed_more k before o.1 closed) (λ y j. sub y (tail j)) (λ y j. or_more k y before ns (every y j))) x i

  pub constants_back : AreConstant c [] all → (x : Name) → In x all → P x
  constants_back o x i = elim (back_from [] all o (λ p q j. elim j [ ]) (λ y j. j) (λ y j. inr j) x i) [ inl j ↦ elim j [ ] | inr p ↦ p ]
