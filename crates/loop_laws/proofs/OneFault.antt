-- A mark has at most one fault.
use Rattle.std.proofs.Common.{◌≡◌, inl, inr, ℕ, ◌<◌, refl, sym, ap, subst, ◌∙◌, if◌then◌else◌, nat_eq, arith}
use Rattle.components.specs.Name.{Name}
use Rattle.components.specs.Orders.{name_cases}
use Rattle.circuits.specs.Circuit.{Circuit}
use Rattle.loop_laws.specs.declared.fault.LoopFaultKind.{LoopFaultKind}
use Rattle.loop_laws.specs.declared.fault.LoopFaultKind.TheVariants.{SelectLeaf, NotPure, ForeignInput, BodyCycle, BodyTooBig, BackPath, LanesUneven, ConditionRoot, FreeCondition, FreeData, TooManyLanes, TooWide, OnCycle}
use Rattle.loop_laws.specs.Polarity.{exit_bit}
use Rattle.loop_laws.specs.Faults.{Row, place_of, Fault}
use Rattle.loop_laws.proofs.Ascending.{not_both}
use Rattle.loop_laws.proofs.OneLoop.{bit_same, init_bit}

-- a row is told by its place
row_at : ℕ → LoopFaultKind
row_at i =
    if nat_eq i 1 then SelectLeaf else (
    if nat_eq i 2 then NotPure else (
    if nat_eq i 3 then ForeignInput else (
    if nat_eq i 4 then BodyCycle else (
    if nat_eq i 5 then BodyTooBig else (
    if nat_eq i 6 then BackPath else (
    if nat_eq i 7 then LanesUneven else (
    if nat_eq i 8 then ConditionRoot else (
    if nat_eq i 9 then FreeCondition else (
    if nat_eq i 10 then FreeData else (
    if nat_eq i 11 then TooManyLanes else (
    if nat_eq i 12 then TooWide else OnCycle)))))))))))

row_place : (k : LoopFaultKind) → row_at (place_of k) ≡ k
unfolding row_at
row_place SelectLeaf = refl
row_place NotPure = refl
row_place ForeignInput = refl
row_place BodyCycle = refl
row_place BodyTooBig = refl
row_place BackPath = refl
row_place LanesUneven = refl
row_place ConditionRoot = refl
row_place FreeCondition = refl
row_place FreeData = refl
row_place TooManyLanes = refl
row_place TooWide = refl
row_place OnCycle = refl

same_place : (i j : ℕ) → (i < j → ⊥) → (j < i → ⊥) → i ≡ j
same_place i j a b = grind (arith, a, b)

same_way : (g : Circuit) (m : Name) (k k' : LoopFaultKind) (n n' : Name) (f : Fault g m k n) (h : Fault g m k' n') → f.goes_back ≡ h.goes_back
same_way g m k k' n n' f h = bit_same f.goes_back h.goes_back (init_bit (exit_bit f.goes_back) (exit_bit h.goes_back) f.tags h.tags (sym f.mark.0 ∙ h.mark.0))

same_kind : (g : Circuit) (m : Name) (k k' : LoopFaultKind) (n n' : Name) → Fault g m k n → Fault g m k' n' → k ≡ k'
same_kind g m k k' n n' f h =
    let way = same_way g m k k' n n' f h in
    let e : place_of k ≡ place_of k' = same_place (place_of k) (place_of k') (λ less. h.first k n less (subst (λ d. Row g m d k n) way f.row)) (λ less. f.first k' n' less (subst (λ d. Row g m d k' n') (sym way) h.row)) in
    sym (row_place k) ∙ ap row_at e ∙ row_place k'

-- a mark has h most one fault
pub one_fault : (g : Circuit) (m : Name) (k k' : LoopFaultKind) (n n' : Name) → Fault g m k n → Fault g m k' n' → (k ≡ k') × (n ≡ n')
one_fault g m k k' n n' f h =
    let e : k ≡ k' = same_kind g m k k' n n' f h in
    let way = same_way g m k k' n n' f h in (
      e,
      elim (name_cases n n') [
        | inl is ↦ is
        | inr ne ↦
            absurd (not_both n n' (f.least n' (subst (λ d. Row g m d k n') (sym way) (subst (λ z. Row g m h.goes_back z n') (sym e) h.row)) (λ s. ne (sym s)))
            (h.least n (subst (λ d. Row g m d k' n) way (subst (λ z. Row g m f.goes_back z n) e f.row)) ne))
      ],
    )
