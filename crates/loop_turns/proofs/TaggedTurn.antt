-- The turn of one mark, tagged, leaves the other marks their loops.
use Rattle.std.proofs.Common.{◌≢◌, inl, inr, refl, subst, ◌∙◌}
use Rattle.std.specs.Prelude.{◌↔◌}
use Rattle.components.specs.Name.{Name}
use Rattle.circuits.specs.Circuit.{Circuit}
use Rattle.loop_laws.specs.Polarity.{IsMark}
use Rattle.loop_laws.specs.Loop.{Loop, LoopAt, NodeOf.is_mark}
use Rattle.loop_laws.specs.OffCycle.{HasLoops, OffCycle, AllOffCycle}
use Rattle.loop_turns.specs.Rebuilt.{NewNames}
use Rattle.loop_turns.specs.Tagged.{TagNode, tag_nodes, tagged_graph}
use Rattle.loop_turns.proofs.Rewiring.{Rewires, rewired_typed, other_loop, other_off_cycle, other_outside}
use Rattle.loop_turns.proofs.TaggedWires.{InOf, OutOf, Own}
use Rattle.loop_turns.proofs.TaggedGraph.{tagged_rewires, no_mark, marks}

module _ (g : Circuit) (loops : Name → Loop) (m : Name) (name : TagNode → Name) (has : HasLoops g loops) (mark : IsMark g m) (names : NewNames g (tag_nodes (loops m)) name) where
  abbrev T : Circuit
  T = tagged_graph g m (loops m) name

  at : LoopAt g m (loops m)
  at = has.all m mark

  re : Rewires g T m (loops m) (InOf g m (loops m) name) (OutOf g m (loops m) name) (Own (loops m) name)
  re = tagged_rewires g has.typed m (loops m) at name names

  marks_are : (n : Name) → IsMark T n → (n ≢ m) × IsMark g n
  marks_are n mn =
      elim (marks g has.typed m (loops m) at name names n mn) [
        | inl e ↦ absurd (no_mark g has.typed m (loops m) at name names (subst (IsMark T) e mn))
        | inr h ↦ h
      ]

  mark_stays : (n : Name) → (n ≢ m) × IsMark g n → IsMark T n
  mark_stays n (away, (v, t, e, some)) =
      (v, t, re.keeps_kind n (other_outside g T m (loops m) (InOf g m (loops m) name) (OutOf g m (loops m) name) (Own (loops m) name) re has.typed at n (loops n) (has.all n (v, t, e, some)) away n (is_mark refl)) ∙ e, some)

  pub tagged_marks : (n : Name) → IsMark T n ↔ ((n ≢ m) × IsMark g n)
  tagged_marks n = (marks_are n, mark_stays n)

  pub tagged_has_loops : HasLoops T loops
  tagged_has_loops =
      record {
        typed = rewired_typed g T m (loops m) (InOf g m (loops m) name) (OutOf g m (loops m) name) (Own (loops m) name) re has.typed;
        all = λ n mn.
            let (away, old) = marks_are n mn in
            other_loop g T m (loops m) (InOf g m (loops m) name) (OutOf g m (loops m) name) (Own (loops m) name) re has.typed at n (loops n) (has.all n old) away;
      }

  pub tagged_off_cycle : (n : Name) → n ≢ m → IsMark g n → OffCycle g loops n → OffCycle T loops n
  tagged_off_cycle n away old off =
      other_off_cycle g T m (loops m) (InOf g m (loops m) name) (OutOf g m (loops m) name) (Own (loops m) name) re has.typed at loops loops has.all mark refl (λ k d. refl)
      (λ y mm i o. no_mark g has.typed m (loops m) at name names mm) (λ r q mm x f o. no_mark g has.typed m (loops m) at name names mm)
      n away old off

  pub tagged_all_off : AllOffCycle g loops → AllOffCycle T loops
  tagged_all_off off n mn = let (away, old) = marks_are n mn in tagged_off_cycle n away old (off n old)
