-- Cells after a change of what stands at the other end of a port.
use Rattle.std.proofs.Common.{◌≡◌, ◌≢◌, ◌⊎◌, inl, inr, ℕ, zero, suc, List, [], ◌∷◌, Option, Some, None, IsSome, slice_get, slice_set, refl, sym, ap, ◌∙◌, true≢false}
use Rattle.std.proofs.lemmas.Bool.{cases_eq}
use Rattle.std.specs.Option.{option_map}
use Rattle.std.specs.FinMap as finite
use Rattle.port_types.specs.declared.side.Side.{Side}
use Rattle.port_types.specs.declared.side.Side.TheVariants.{Ins, Outs}
use Rattle.std.proofs.lemmas.Option.{none-some}
use Rattle.graph_core.specs.declared.place.NodeId.{NodeId}
use Rattle.graph_core.specs.declared.place.PortAt.{PortAt}
use Rattle.graph_core.specs.declared.cells.Cell.{Cell}
use Rattle.graph_core.specs.Ends.{EndList, with_end_of}
use Rattle.graph_core.specs.Cells.{CellsValue, ends, with_ends, cell_with, put_end, with_end}
use Rattle.graph_core.specs.Inside.{then, node_at, kept_end, slot_at}
use Rattle.components.specs.Lookups.{get_inserted, get_not_inserted}
use Rattle.graph_core.specs.Ids.{id_total, id_same, id_cases}
use Rattle.graph_core.proofs.SlotLemmas.{set_here, set_other}

pub at_cases : (p q : PortAt) → (p ≡ q) ⊎ (p ≢ q)
at_cases p q =
    elim (id_cases p.node q.node) [
      | inl one ↦ elim (cases_eq p.port q.port) [
        | inl same ↦ inl (λ i. record { node = one i; port = same i })
        | inr differ ↦ inr (λ e. differ (ap (λ (z : PortAt). z.port) e))
      ]
      | inr two ↦ inr (λ e. two (ap (λ (z : PortAt). z.node) e))
    ]

-- One list of ends

kept_here : (ends : EndList) (i : ℕ) (end : Option PortAt) → IsSome (kept_end ends i) → kept_end (with_end_of ends i end) i ≡ Some end
kept_here ends zero end some = absurd (true≢false (sym some))
kept_here ends (suc i) end some = at (slice_get ends i) refl some
  where
    at : (o : Option (Option PortAt)) → slice_get ends i ≡ o → IsSome o → slice_get (slice_set ends i end) i ≡ Some end
    at None e some = absurd (true≢false (sym some))
    at (Some old) e some = set_here ends i old end e

set_none : {A : Type 0} (xs : List A) (i : ℕ) (x : A) → slice_get xs i ≡ None → slice_get (slice_set xs i x) i ≡ None
set_none [] i x e = refl
set_none (y ∷ xs) zero x e = absurd (none-some _ (sym e))
set_none (y ∷ xs) (suc i) x e = set_none xs i x e

kept_none : (ends : EndList) (i : ℕ) (end : Option PortAt) → kept_end ends i ≡ None → kept_end (with_end_of ends i end) i ≡ None
kept_none ends zero end e = refl
kept_none ends (suc i) end e = set_none ends i end e

kept_other : (ends : EndList) (i j : ℕ) (end : Option PortAt) → j ≢ i → kept_end (with_end_of ends i end) j ≡ kept_end ends j
kept_other ends zero j end apart = refl
kept_other ends (suc i) zero end apart = refl
kept_other ends (suc i) (suc j) end apart = set_other ends i j end (λ e. apart (ap suc e))

ends_here : (cell : Cell) (side : Side) (list : EndList) → ends (with_ends cell side list) side ≡ list
ends_here cell Ins list = refl
ends_here cell Outs list = refl

ends_other : (cell : Cell) (side other : Side) (list : EndList) → other ≢ side → ends (with_ends cell side list) other ≡ ends cell other
ends_other cell Ins Ins list apart = absurd (apart refl)
ends_other cell Ins Outs list apart = refl
ends_other cell Outs Ins list apart = refl
ends_other cell Outs Outs list apart = absurd (apart refl)

node_kept : (cell : Cell) (side : Side) (list : EndList) → (with_ends cell side list).node ≡ cell.node
node_kept cell Ins list = refl
node_kept cell Outs list = refl

-- All cells

module _ (c : CellsValue) (side : Side) (p : PortAt) (end : Option PortAt) where
  abbrev pub after : CellsValue
  after = with_end c side p end

  cell_here : (cell : Cell) → finite.get c.cells p.node ≡ Some cell → finite.get after.cells p.node ≡ Some (cell_with cell side p.port end)
  cell_here cell found = ap (λ o. finite.get (put_end c side p end o).cells p.node) found ∙ get_inserted id_total id_same c.cells p.node (cell_with cell side p.port end) p.node refl

  cell_dead : finite.get c.cells p.node ≡ None → finite.get after.cells p.node ≡ None
  cell_dead dead = ap (λ o. finite.get (put_end c side p end o).cells p.node) dead ∙ dead

  cell_other : (q : NodeId) → q ≢ p.node → finite.get after.cells q ≡ finite.get c.cells q
  cell_other q apart = at (finite.get c.cells p.node)
    where
      at : (o : Option Cell) → finite.get (put_end c side p end o).cells q ≡ finite.get c.cells q
      at None = refl
      at (Some cell) = get_not_inserted id_total id_same c.cells p.node (cell_with cell side p.port end) q apart

  pub node_after : (q : NodeId) → node_at after q ≡ node_at c q
  node_after q =
      elim (id_cases q p.node) [
        | inl one ↦ ap (node_at after) one ∙ at (finite.get c.cells p.node) refl ∙ ap (node_at c) (sym one)
        | inr two ↦ ap (option_map (λ (cell : Cell). cell.node)) (cell_other q two)
      ]
    where
      at : (o : Option Cell) → finite.get c.cells p.node ≡ o → node_at after p.node ≡ node_at c p.node
      at None e = ap (option_map (λ (cell : Cell). cell.node)) (cell_dead e ∙ sym e)
      at (Some cell) e = ap (option_map (λ (cell : Cell). cell.node)) (cell_here cell e) ∙ ap Some (node_kept cell side (with_end_of (ends cell side) p.port end)) ∙ sym (ap (option_map (λ (cell : Cell). cell.node)) e)

  pub slot_here : IsSome (slot_at c side p) → slot_at after side p ≡ Some end
  slot_here some = at (finite.get c.cells p.node) refl some
    where
      at : (o : Option Cell) → finite.get c.cells p.node ≡ o → IsSome (then o (λ cell. kept_end (ends cell side) p.port)) → slot_at after side p ≡ Some end
      at None e some = absurd (true≢false (sym some))
      at (Some cell) e some =
          ap (λ o. then o (λ cell. kept_end (ends cell side) p.port)) (cell_here cell e)
          ∙ ap (λ list. kept_end list p.port) (ends_here cell side (with_end_of (ends cell side) p.port end))
          ∙ kept_here (ends cell side) p.port end some

  pub slot_none : slot_at c side p ≡ None → slot_at after side p ≡ None
  slot_none none = at (finite.get c.cells p.node) refl none
    where
      at : (o : Option Cell) → finite.get c.cells p.node ≡ o → then o (λ cell. kept_end (ends cell side) p.port) ≡ None → slot_at after side p ≡ None
      at None e none = ap (λ o. then o (λ cell. kept_end (ends cell side) p.port)) (cell_dead e)
      at (Some cell) e none =
          ap (λ o. then o (λ cell. kept_end (ends cell side) p.port)) (cell_here cell e)
          ∙ ap (λ list. kept_end list p.port) (ends_here cell side (with_end_of (ends cell side) p.port end))
          ∙ kept_none (ends cell side) p.port end none

  kept_apart : (cell : Cell) (other : Side) (port : ℕ) → (other ≢ side) ⊎ (port ≢ p.port) → kept_end (ends (cell_with cell side p.port end) other) port ≡ kept_end (ends cell other) port
  kept_apart cell other port (inl apart) = ap (λ list. kept_end list port) (ends_other cell side other (with_end_of (ends cell side) p.port end) apart)
  kept_apart cell other port (inr apart) = at side other
    where
      at : (side other : Side) → kept_end (ends (cell_with cell side p.port end) other) port ≡ kept_end (ends cell other) port
      at Ins Ins = kept_other cell.ins p.port port end apart
      at Ins Outs = refl
      at Outs Ins = refl
      at Outs Outs = kept_other cell.outs p.port port end apart

  slot_apart : (other : Side) (q : PortAt) → q.node ≡ p.node → (other ≢ side) ⊎ (q.port ≢ p.port) → slot_at after other q ≡ slot_at c other q
  slot_apart other q one apart = at (finite.get c.cells p.node) refl
    where
      at : (o : Option Cell) → finite.get c.cells p.node ≡ o → slot_at after other q ≡ slot_at c other q
      at None e = ap (λ o. then o (λ cell. kept_end (ends cell other) q.port)) (ap (finite.get after.cells) one ∙ cell_dead e ∙ sym (ap (finite.get c.cells) one ∙ e))
      at (Some cell) e =
          ap (λ o. then o (λ cell. kept_end (ends cell other) q.port)) (ap (finite.get after.cells) one ∙ cell_here cell e)
          ∙ kept_apart cell other q.port apart
          ∙ sym (ap (λ o. then o (λ cell. kept_end (ends cell other) q.port)) (ap (finite.get c.cells) one ∙ e))

  pub slot_other : (other : Side) (q : PortAt) → (other ≢ side) ⊎ (q ≢ p) → slot_at after other q ≡ slot_at c other q
  slot_other other q apart =
      elim (id_cases q.node p.node) [
        | inr two ↦ ap (λ o. then o (λ cell. kept_end (ends cell other) q.port)) (cell_other q.node two)
        | inl one ↦ slot_apart other q one (elim apart [
          | inl sides ↦ inl sides
          | inr ports ↦ inr (λ same. ports (λ i. record { node = one i; port = same i }))
        ])
      ]

  pub slots_after : after.slots ≡ c.slots
  slots_after = at (finite.get c.cells p.node)
    where
      at : (o : Option Cell) → (put_end c side p end o).slots ≡ c.slots
      at None = refl
      at (Some cell) = refl
