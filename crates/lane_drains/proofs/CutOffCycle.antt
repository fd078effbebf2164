-- The loop at a mark, as a part of its graph, lies off cycles where the loop does.
use Rattle.std.proofs.Common.{◌≡◌, inl, inr, refl, sym, subst, ◌∙◌, Some, true≢false}
use Rattle.components.specs.Name.{Name, Port}
use Rattle.circuits.specs.Circuit.{Circuit}
use Rattle.circuits.proofs.Names.{name_cases}
use Rattle.loop_laws.specs.Polarity.{IsMark}
use Rattle.loop_laws.specs.Loop.{Loop, NodeOf, IsExit}
use Rattle.loop_laws.specs.OffCycle.{HasLoops, InLoop, GoesOnBy.out_of_loop, GoesOnBy.out_of_node, Walk, Walk.here, Walk.on, OffCycle}
use Rattle.loop_laws.proofs.Closed.{inner_node, inner_or_fresh, exit_or_inner, inner_fed}
use Rattle.loop_laws.specs.Laws.{LoopsShareNone}
use Rattle.part_drains.specs.Part.{Behind, Behind.leaves, Behind.goes_on, PartOffCycle}
use Rattle.lane_drains.specs.LoopCut.{IsCutTo}
use Rattle.lane_drains.specs.Laws.{CutLoopOffCycle}

module _ (law : LoopsShareNone) (g part : Circuit) (loops : Name → Loop) (m : Name) (has : HasLoops g loops) (mark : IsMark g m) (off : OffCycle g loops m) (same : IsCutTo part m (loops m)) where
  -- a walk from an exit of the loop has come to a node: it ends at a wire into the node, or at one into a loop that has it
  data Came (x : Name) : Type 0 where
    at_node : (s q r : Port) → g.feeder s ≡ Some q → IsExit (loops m) q → Walk g loops s r → r.node ≡ x → Came x
    in_loop : (s q r : Port) → g.feeder s ≡ Some q → IsExit (loops m) q → Walk g loops s r → (n : Name) → IsMark g n → NodeOf n (loops n) r.node → NodeOf n (loops n) x → Came x

  -- how it goes on by the wire from q to p
  data Next (p q : Port) : Type 0 where
    reaches : (s t : Port) → g.feeder s ≡ Some t → IsExit (loops m) t → Walk g loops s p → Next p q
    stays : Came p.node → (n : Name) → IsMark g n → NodeOf n (loops n) q.node → NodeOf n (loops n) p.node → Next p q

  outside_node : (x : Name) → Behind g part x → NodeOf m (loops m) x → ⊥
  outside_node x (leaves p q f i o) h = true≢false (sym ((same p.node).1 h) ∙ o)
  outside_node x (goes_on p q f b o) h = true≢false (sym ((same p.node).1 h) ∙ o)

  one_mark : (n k x : Name) → IsMark g n → IsMark g k → NodeOf n (loops n) x → NodeOf k (loops k) x → n ≡ k
  one_mark n k x mn mk i j =
      elim (name_cases n k) [
        | inl is ↦ is.is
        | inr ne ↦ absurd (law g n k (loops n) (loops k) has.typed (has.all n mn) (has.all k mk) ne.is_not x i j)
      ]

  out_of : (p q s t r : Port) → g.feeder p ≡ Some q → g.feeder s ≡ Some t → IsExit (loops m) t → Walk g loops s r → (n : Name) → IsMark g n → NodeOf n (loops n) r.node → NodeOf n (loops n) q.node → Next p q
  out_of p q s t r f e x w n mn ir iq =
      elim (exit_or_inner g has.typed n (loops n) (has.all n mn) p q f iq) [
        | inl leaves_it ↦ reaches s t e x (on r w (out_of_loop n q mn ir leaves_it f))
        | inr i ↦ let ip = inner_node n (loops n) p i in stays (in_loop s t r e x w n mn ir ip) n mn iq ip
      ]

  next_in : (p q : Port) → g.feeder p ≡ Some q → Came q.node → (n : Name) → IsMark g n → NodeOf n (loops n) q.node → Next p q
  next_in p q f (at_node s t r e x w is) n mn iq = out_of p q s t r f e x w n mn (subst (NodeOf n (loops n)) (sym is) iq) iq
  next_in p q f (in_loop s t r e x w k mk ir jq) n mn iq = out_of p q s t r f e x w k mk ir jq

  next_out : (p q : Port) → g.feeder p ≡ Some q → Came q.node → (InLoop g loops q.node → ⊥) → Next p q
  next_out p q f (at_node s t r e x w is) never = reaches s t e x (on r w (out_of_node q (λ i. never (subst (InLoop g loops) is i)) (sym is) f))
  next_out p q f (in_loop s t r e x w k mk ir jq) never = absurd (never (k, mk, jq))

  next : (p q : Port) → g.feeder p ≡ Some q → Came q.node → (Next p q → ⊥) → ⊥
  next p q f c never = never (next_out p q f c (λ i. never (next_in p q f c i.0 i.1 i.2)))

  came_by : (p q : Port) → Next p q → Came p.node
  came_by p q (reaches s t e x w) = at_node s t p e x w refl
  came_by p q (stays c n mn iq ip) = c

  came : (x : Name) → Behind g part x → (Came x → ⊥) → ⊥
  came x (leaves p q f i o) never =
      elim (exit_or_inner g has.typed m (loops m) (has.all m mark) p q f ((same q.node).0 i)) [
        | inl exit ↦ never (at_node p q p f exit (here refl) refl)
        | inr inner ↦ true≢false (sym ((same p.node).1 (inner_node m (loops m) p inner)) ∙ o)
      ]
  came x (goes_on p q f b o) never = came q.node b (λ c. next p q f c (λ n. never (came_by p q n)))

  back_in_loop : (p q : Port) → g.feeder p ≡ Some q → Behind g part q.node → NodeOf m (loops m) p.node → Next p q → ⊥
  back_in_loop p q f b i (reaches s t e x w) =
      elim (inner_or_fresh g has.typed m (loops m) (has.all m mark) p q f i) [
        | inl inner ↦ outside_node q.node b (inner_fed g has.typed m (loops m) (has.all m mark) p q inner f).node
        | inr fresh ↦ off s t p e x w fresh
      ]
  back_in_loop p q f b i (stays c n mn iq ip) =
      outside_node q.node b (subst (λ k. NodeOf k (loops k) q.node) (one_mark n m p.node mn mark ip i) iq)

  pub part_off_cycle : PartOffCycle g part
  part_off_cycle p q f b i = came q.node b (λ c. next p q f c (back_in_loop p q f b ((same p.node).0 i)))

pub cut_off_cycle : LoopsShareNone → CutLoopOffCycle
cut_off_cycle law g part loops m has mark off same = part_off_cycle law g part loops m has mark off same
