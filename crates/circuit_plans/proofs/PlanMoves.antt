-- what a plan's step does to a wire
use Rattle.std.proofs.Common.{◌≡◌, ℕ, sym, ap, ◌∙◌, List, [], ◌++◌, append-nil}
use Rattle.circuits.specs.Firing.{Label}
use Rattle.circuits.specs.PortTokens.{Token}
use Rattle.circuit_plans.proofs.Plans.{Plan, Held, PlanStep, part, part_from}

module _ {N : Type 0} (c : Plan N) (s : Held N) (n : N) (l : Label) (u : Held N) (st : PlanStep c s n l u) where
  -- it takes x from this wire and gives y to it
  pub record Moves (m : N) (i : ℕ) (x y : List Token) : Type 0 where
    pub rest : List Token
    pub was : s.wires m i ≡ x ++ rest
    pub is : u.wires m i ≡ rest ++ y

  pub moves : (m : N) (i : ℕ) (x y : List Token) → part c n st.taken m i ≡ x → part_from c n st.given (c.source m i) ≡ y → Moves m i x y
  moves m i x y e f =
      record { rest = st.between m i; was = st.takes m i ∙ ap (λ z. z ++ st.between m i) e; is = st.gives m i ∙ ap (λ z. st.between m i ++ z) f }

  pub still : (m : N) (i : ℕ) → part c n st.taken m i ≡ [] → part_from c n st.given (c.source m i) ≡ [] → u.wires m i ≡ s.wires m i
  still m i e f = let w = moves m i [] [] e f in w.is ∙ append-nil w.rest ∙ sym w.was

  pub took : (m : N) (i : ℕ) (x : List Token) → part c n st.taken m i ≡ x → part_from c n st.given (c.source m i) ≡ [] → s.wires m i ≡ x ++ u.wires m i
  took m i x e f = let w = moves m i x [] e f in w.was ∙ ap (λ z. x ++ z) (sym (append-nil w.rest) ∙ sym w.is)

  pub gave : (m : N) (i : ℕ) (y : List Token) → part c n st.taken m i ≡ [] → part_from c n st.given (c.source m i) ≡ y → u.wires m i ≡ s.wires m i ++ y
  gave m i y e f = let w = moves m i [] y e f in w.is ∙ ap (λ z. z ++ y) (sym w.was)
