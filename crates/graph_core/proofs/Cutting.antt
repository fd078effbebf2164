-- Cells with nothing at the other ends of some ports.
use Rattle.std.proofs.Common.{◌≡◌, ◌≢◌, ◌⊎◌, inl, inr, ℕ, zero, suc, [], ◌∷◌, Option, Some, None, IsSome, is_some, slice_get, refl, sym, ap, subst, ◌∙◌}
use Rattle.port_types.specs.declared.side.Side.{Side}
use Rattle.port_types.specs.declared.side.Side.TheVariants.{Ins, Outs}
use Rattle.std.proofs.lemmas.Option.{same_Some, none-some}
use Rattle.graph_core.specs.declared.place.NodeId.{NodeId}
use Rattle.graph_core.specs.declared.place.PortAt.{PortAt}
use Rattle.graph_core.specs.Ends.{EndList, flat}
use Rattle.graph_core.specs.Cells.{CellsValue, with_end}
use Rattle.graph_core.specs.Arena.{cut_ends}
use Rattle.graph_core.specs.Inside.{node_at, slot_at, end_at}
use Rattle.graph_core.proofs.EndChanges.{at_cases, node_after, slot_here, slot_none, slot_other, slots_after}

pub outs_not_ins : Outs ≢ Ins
outs_not_ins e = let f : (side : Side) → Type 0 = λ side. elim side as (λ _. Type 0) [ Ins ↦ ⊥ | Outs ↦ Unit {0} ] in subst f e tt

pub ins_not_outs : Ins ≢ Outs
ins_not_outs e = outs_not_ins (sym e)

pub side_cases : (a b : Side) → (a ≡ b) ⊎ (a ≢ b)
side_cases Ins Ins = inl refl
side_cases Ins Outs = inr ins_not_outs
side_cases Outs Ins = inr outs_not_ins
side_cases Outs Outs = inl refl

pub none_unless : {A : Type 0} (o : Option A) → ((x : A) → o ≡ Some x → ⊥) → o ≡ None
none_unless None never = refl
none_unless (Some x) never = absurd (never x refl)

-- One port

room_step : (c : CellsValue) (side : Side) (p : PortAt) (s : Side) (q : PortAt) → IsSome (slot_at c s q) → IsSome (slot_at (with_end c side p None) s q)
room_step c side p s q some =
    elim (side_cases s side) [
      | inr differ ↦ ap is_some (slot_other c side p None s q (inl differ)) ∙ some
      | inl same ↦ elim (at_cases q p) [
        | inr apart ↦ ap is_some (slot_other c side p None s q (inr apart)) ∙ some
        | inl one ↦ (λ i. is_some (slot_at (with_end c side p None) (same i) (one i))) ∙ ap is_some (slot_here c side p None ((λ i. is_some (slot_at c (sym same i) (sym one i))) ∙ some))
      ]
    ]

end_gone : (c : CellsValue) (side : Side) (p : PortAt) → end_at (with_end c side p None) side p ≡ None
end_gone c side p = at (slot_at c side p) refl
  where
    at : (o : Option (Option PortAt)) → slot_at c side p ≡ o → end_at (with_end c side p None) side p ≡ None
    at None e = ap flat (slot_none c side p None e)
    at (Some end) e = ap flat (slot_here c side p None (ap is_some e))

only_step : (c : CellsValue) (side : Side) (p q r : PortAt) → end_at (with_end c side p None) side q ≡ Some r → end_at c side q ≡ Some r
only_step c side p q r e =
    elim (at_cases q p) [
      | inl one ↦ absurd (none-some _ (sym (sym e ∙ ap (end_at (with_end c side p None) side) one ∙ end_gone c side p)))
      | inr apart ↦ ap flat (sym (slot_other c side p None side q (inr apart))) ∙ e
    ]

-- All of a list

pub cut_node : (c : CellsValue) (side : Side) (ends : EndList) (q : NodeId) → node_at (cut_ends c side ends) q ≡ node_at c q
cut_node c side [] q = refl
cut_node c side (None ∷ ends) q = cut_node c side ends q
cut_node c side (Some p ∷ ends) q = cut_node (with_end c side p None) side ends q ∙ node_after c side p None q

pub cut_slots : (c : CellsValue) (side : Side) (ends : EndList) → (cut_ends c side ends).slots ≡ c.slots
cut_slots c side [] = refl
cut_slots c side (None ∷ ends) = cut_slots c side ends
cut_slots c side (Some p ∷ ends) = cut_slots (with_end c side p None) side ends ∙ slots_after c side p None

pub cut_room : (c : CellsValue) (side : Side) (ends : EndList) (s : Side) (q : PortAt) → IsSome (slot_at c s q) → IsSome (slot_at (cut_ends c side ends) s q)
cut_room c side [] s q some = some
cut_room c side (None ∷ ends) s q some = cut_room c side ends s q some
cut_room c side (Some p ∷ ends) s q some = cut_room (with_end c side p None) side ends s q (room_step c side p s q some)

pub cut_other : (c : CellsValue) (side : Side) (ends : EndList) (s : Side) (q : PortAt) → s ≢ side → slot_at (cut_ends c side ends) s q ≡ slot_at c s q
cut_other c side [] s q differ = refl
cut_other c side (None ∷ ends) s q differ = cut_other c side ends s q differ
cut_other c side (Some p ∷ ends) s q differ = cut_other (with_end c side p None) side ends s q differ ∙ slot_other c side p None s q (inl differ)

pub cut_only : (c : CellsValue) (side : Side) (ends : EndList) (q r : PortAt) → end_at (cut_ends c side ends) side q ≡ Some r → end_at c side q ≡ Some r
cut_only c side [] q r e = e
cut_only c side (None ∷ ends) q r e = cut_only c side ends q r e
cut_only c side (Some p ∷ ends) q r e = only_step c side p q r (cut_only (with_end c side p None) side ends q r e)

pub cut_keeps : (c : CellsValue) (side : Side) (ends : EndList) (q : PortAt) → ((i : ℕ) → slice_get ends i ≢ Some (Some q)) → slot_at (cut_ends c side ends) side q ≡ slot_at c side q
cut_keeps c side [] q away = refl
cut_keeps c side (None ∷ ends) q away = cut_keeps c side ends q (λ i. away (suc i))
cut_keeps c side (Some p ∷ ends) q away =
    cut_keeps (with_end c side p None) side ends q (λ i. away (suc i)) ∙ slot_other c side p None side q (inr (λ one. away zero (ap (λ z. Some (Some z)) (sym one))))

pub cut_gone : (c : CellsValue) (side : Side) (ends : EndList) (i : ℕ) (q : PortAt) → slice_get ends i ≡ Some (Some q) → end_at (cut_ends c side ends) side q ≡ None
cut_gone c side [] i q e = absurd (none-some _ e)
cut_gone c side (None ∷ ends) zero q e = absurd (none-some _ (same_Some _ _ e))
cut_gone c side (None ∷ ends) (suc i) q e = cut_gone c side ends i q e
cut_gone c side (Some p ∷ ends) zero q e =
    let one : p ≡ q = same_Some _ _ (same_Some _ _ e) in
    none_unless _ (λ r wired. none-some _ (sym (sym (cut_only (with_end c side p None) side ends q r wired) ∙ ap (end_at (with_end c side p None) side) (sym one) ∙ end_gone c side p)))
cut_gone c side (Some p ∷ ends) (suc i) q e = cut_gone (with_end c side p None) side ends i q e
