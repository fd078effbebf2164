-- the nodes of a family fire once each, where no wire leads from one of them to another
use Rattle.std.proofs.Common.{◌≡◌, ℕ, refl, sym, ap, subst, ◌∙◌, true, false, Bool, if◌then◌else◌, List, [], ◌++◌, append-nil}
use Rattle.circuits.specs.Firing.{Label.Fire, Acts}
use Rattle.circuits.specs.PortTokens.{Token, at_port}
use Rattle.circuit_plans.proofs.Plans.{Plan, Held, PlanStep, PlanInner, rest, fires, part_from, plan_then}
use Rattle.circuit_plans.proofs.PlanAfter.{after, do_step}
use Rattle.circuit_plans.proofs.Places.{Place, same_place, same_place_is, with_place, each_place}

module _ {N A : Type 0} (c : Plan N) (xs : List A) (node : Place xs → N) (distinct : (l k : Place xs) → c.same (node l) (node k) ≡ same_place xs l k) (t : Held N)
    (taken given : Place xs → List (List Token)) (left : Place xs → ℕ → List Token)
    (acts : (l : Place xs) → Acts (c.kind (node l)) (Fire 0) (t.slots (node l)) (taken l) (given l) (t.slots (node l)))
    (takes : (l : Place xs) (i : ℕ) → t.wires (node l) i ≡ at_port (taken l) i ++ left l i)
    (apart : (l k : Place xs) (i : ℕ) → part_from c (node k) (given k) (c.source (node l) i) ≡ []) where
  -- those of done have fired
  pub record Fired (done : Place xs → Bool) : Type 0 where
    pub to : Held N
    pub inner : PlanInner c to t
    pub slots : (m : N) → to.slots m ≡ t.slots m
    pub own : (l : Place xs) (i : ℕ) → to.wires (node l) i ≡ (if done l then left l i else t.wires (node l) i)
    pub others : (m : N) (i : ℕ) → ((l : Place xs) → c.same m (node l) ≡ false) → ((l : Place xs) → part_from c (node l) (given l) (c.source m i) ≡ []) → to.wires m i ≡ t.wires m i
    pub fed : (m : N) (i : ℕ) (l : Place xs) → ((k : Place xs) → c.same m (node k) ≡ false) → ((k : Place xs) → same_place xs l k ≡ false → part_from c (node k) (given k) (c.source m i) ≡ []) → to.wires m i ≡ t.wires m i ++ (if done l then part_from c (node l) (given l) (c.source m i) else [])

  module _ (done : Place xs → Bool) (k : Place xs) (waits : done k ≡ false) (f : Fired done) where
    next : Held N
    next = after c f.to (node k) (left k) (given k) (f.to.slots (node k))

    next_slots : (m : N) (b : Bool) → c.same m (node k) ≡ b → (if b then f.to.slots (node k) else f.to.slots m) ≡ t.slots m
    next_slots m true e = f.slots (node k) ∙ ap t.slots (sym (c.same_is m (node k) e))
    next_slots m false e = f.slots m

    next_step : PlanStep c f.to (node k) (Fire 0) next
    unfolding next
    next_step =
        do_step c f.to (node k) (Fire 0) (taken k) (given k) (f.to.slots (node k)) (left k)
        (subst (λ z. Acts (c.kind (node k)) (Fire 0) z (taken k) (given k) z) (sym (f.slots (node k))) (acts k))
        (λ i. f.own k i ∙ ap (λ z. if z then left k i else t.wires (node k) i) waits ∙ takes k i)

    next_own : (l : Place xs) (i : ℕ) (b : Bool) → same_place xs l k ≡ b → (if b then left k i else f.to.wires (node l) i) ≡ (if (if b then true else done l) then left l i else t.wires (node l) i)
    next_own l i true e = ap (λ z. left z i) (sym (same_place_is xs l k e))
    next_own l i false e = f.own l i

    next_fed : (m : N) (i : ℕ) (l : Place xs) → ((j : Place xs) → c.same m (node j) ≡ false) → ((j : Place xs) → same_place xs l j ≡ false → part_from c (node j) (given j) (c.source m i) ≡ []) → (b : Bool) → same_place xs l k ≡ b → f.to.wires m i ++ part_from c (node k) (given k) (c.source m i) ≡ t.wires m i ++ (if (if b then true else done l) then part_from c (node l) (given l) (c.source m i) else [])
    next_fed m i l away one true e =
        let is : l ≡ k = same_place_is xs l k e in
        let was : f.to.wires m i ≡ t.wires m i =
        f.fed m i l away one ∙ ap (λ z. t.wires m i ++ (if z then part_from c (node l) (given l) (c.source m i) else [])) (ap done is ∙ waits) ∙ append-nil (t.wires m i) in
        λ j. was j ++ part_from c (node (sym is j)) (given (sym is j)) (c.source m i)
    next_fed m i l away one false e =
        ap (λ z. f.to.wires m i ++ z) (one k e) ∙ append-nil (f.to.wires m i) ∙ f.fed m i l away one

    fire_next : Fired (with_place xs k done)
    unfolding next
    fire_next =
        record {
          to = next;
          inner = plan_then c next f.to t f.inner (fires (node k) 0 next next_step rest);
          slots = λ m. next_slots m (c.same m (node k)) refl;
          own = λ l i.
              (λ j. (if distinct l k j then left k i else f.to.wires (node l) i) ++ apart l k i j)
              ∙ append-nil (if same_place xs l k then left k i else f.to.wires (node l) i)
              ∙ next_own l i (same_place xs l k) refl;
          others = λ m i away none.
              (λ j. (if away k j then left k i else f.to.wires m i) ++ none k j) ∙ append-nil (f.to.wires m i) ∙ f.others m i away none;
          fed = λ m i l away one.
              ap (λ z. (if z then left k i else f.to.wires m i) ++ part_from c (node k) (given k) (c.source m i)) (away k)
              ∙ next_fed m i l away one (same_place xs l k) refl;
        }

  none_fired : Fired (λ l. false)
  none_fired =
      record {
        to = t;
        inner = rest;
        slots = λ m. refl;
        own = λ l i. refl;
        others = λ m i away none. refl;
        fed = λ m i l away one. sym (append-nil (t.wires m i));
      }

  pub all_fired : Fired (λ l. true)
  all_fired = each_place xs Fired none_fired fire_next
