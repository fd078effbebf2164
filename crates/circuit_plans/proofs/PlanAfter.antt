-- The step of a node of a plan, from what it takes and gives.
use Rattle.std.proofs.Common.{◌≡◌, ℕ, zero, suc, refl, sym, ap, subst, ◌∙◌, true, false, Bool, if◌then◌else◌, List, [], ◌∷◌, ◌++◌}
use Rattle.circuits.specs.PortTokens.{Token, at_port, one}
use Rattle.circuits.specs.Firing.{Label, Acts}
use Rattle.circuits.specs.CircuitState.{Slot}
use Rattle.circuit_plans.proofs.Plans.{Plan, Held, PlanStep, part_from}

-- the step of a plan's node n that takes some tokens, where left is what stays at each of its inputs
module _ {N : Type 0} (c : Plan N) (t : Held N) (n : N) where
  abbrev pub after : (ℕ → List Token) → List (List Token) → List Slot → Held N
  after left given new =
      record {
        wires = λ m i. (if c.same m n then left i else t.wires m i) ++ part_from c n given (c.source m i);
        slots = λ m. if c.same m n then new else t.slots m;
      }

  takes_at : (taken : List (List Token)) (left : ℕ → List Token) → ((i : ℕ) → t.wires n i ≡ at_port taken i ++ left i) → (m : N) (i : ℕ) (b : Bool) → c.same m n ≡ b → t.wires m i ≡ (if b then at_port taken i else []) ++ (if b then left i else t.wires m i)
  takes_at taken left h m i true e = ap (λ z. t.wires z i) (c.same_is m n e) ∙ h i
  takes_at taken left h m i false e = refl

  pub do_step : (l : Label) (taken given : List (List Token)) (new : List Slot) (left : ℕ → List Token) → Acts (c.kind n) l (t.slots n) taken given new → ((i : ℕ) → t.wires n i ≡ at_port taken i ++ left i) → PlanStep c t n l (after left given new)
  do_step l taken given new left acts h =
      record {
        taken = taken;
        given = given;
        acts = subst (λ z. Acts (c.kind n) l (t.slots n) taken given (if z then new else t.slots n)) (sym (c.same_self n)) acts;
        between = λ m i. if c.same m n then left i else t.wires m i;
        takes = λ m i. takes_at taken left h m i (c.same m n) refl;
        gives = λ m i. refl;
        others = λ m e. ap (λ z. if z then new else t.slots m) e;
      }

-- what stays at the inputs of a node that takes from its first input, from its first two, or from its first and its third
abbrev pub pop1 : (ℕ → List Token) → List Token → ℕ → List Token
pop1 w r zero = w zero
pop1 w r (suc zero) = r
pop1 w r (suc (suc i)) = w (suc (suc i))

abbrev pub pop12 : (ℕ → List Token) → List Token → List Token → ℕ → List Token
pop12 w r q zero = w zero
pop12 w r q (suc zero) = r
pop12 w r q (suc (suc zero)) = q
pop12 w r q (suc (suc (suc i))) = w (suc (suc (suc i)))

abbrev pub pop13 : (ℕ → List Token) → List Token → List Token → ℕ → List Token
pop13 w r q zero = w zero
pop13 w r q (suc zero) = r
pop13 w r q (suc (suc zero)) = w (suc (suc zero))
pop13 w r q (suc (suc (suc zero))) = q
pop13 w r q (suc (suc (suc (suc i)))) = w (suc (suc (suc (suc i))))

pub pop1_takes : (w : ℕ → List Token) (v : Token) (r : List Token) → w 1 ≡ v ∷ r → (i : ℕ) → w i ≡ at_port (one v ∷ []) i ++ pop1 w r i
pop1_takes w v r e zero = refl
pop1_takes w v r e (suc zero) = e
pop1_takes w v r e (suc (suc i)) = refl

pub pop12_takes : (w : ℕ → List Token) (v u : Token) (r q : List Token) → w 1 ≡ v ∷ r → w 2 ≡ u ∷ q → (i : ℕ) → w i ≡ at_port (one v ∷ one u ∷ []) i ++ pop12 w r q i
pop12_takes w v u r q e f zero = refl
pop12_takes w v u r q e f (suc zero) = e
pop12_takes w v u r q e f (suc (suc zero)) = f
pop12_takes w v u r q e f (suc (suc (suc i))) = refl

pub pop13_takes : (w : ℕ → List Token) (v u : Token) (r q : List Token) → w 1 ≡ v ∷ r → w 3 ≡ u ∷ q → (i : ℕ) → w i ≡ at_port (one v ∷ [] ∷ one u ∷ []) i ++ pop13 w r q i
pop13_takes w v u r q e f zero = refl
pop13_takes w v u r q e f (suc zero) = e
pop13_takes w v u r q e f (suc (suc zero)) = refl
pop13_takes w v u r q e f (suc (suc (suc zero))) = f
pop13_takes w v u r q e f (suc (suc (suc (suc i)))) = refl

abbrev pub pop2 : (ℕ → List Token) → List Token → ℕ → List Token
pop2 w q zero = w zero
pop2 w q (suc zero) = w (suc zero)
pop2 w q (suc (suc zero)) = q
pop2 w q (suc (suc (suc i))) = w (suc (suc (suc i)))

pub pop2_takes : (w : ℕ → List Token) (u : Token) (q : List Token) → w 2 ≡ u ∷ q → (i : ℕ) → w i ≡ at_port ([] ∷ one u ∷ []) i ++ pop2 w q i
pop2_takes w u q f zero = refl
pop2_takes w u q f (suc zero) = refl
pop2_takes w u q f (suc (suc zero)) = f
pop2_takes w u q f (suc (suc (suc i))) = refl
