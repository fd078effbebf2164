-- The cells that slots show, and the chain of free slots, after each change.
use Rattle.std.proofs.Common.{◌≡◌, ◌≢◌, ℕ, zero, suc, ◌+◌, ◌-◌, ◌<◌, min, ◌≤◌, inl, inr, List, [], ◌∷◌, ◌++◌, length, cond, Option, Some, None, is_some, slice_get, slice_set, max, refl, sym, ap, subst, ◌∙◌, arith, length-set, length-append}
use Rattle.std.specs.FinMap as map
use Rattle.std.proofs.lemmas.Option.{same_Some, none-some}
use Rattle.port_types.specs.declared.side.Side.{Side}
use Rattle.graph_core.specs.declared.place.NodeId.{NodeId}
use Rattle.graph_core.specs.declared.place.PortAt.{PortAt}
use Rattle.graph_core.specs.declared.cells.Cell.{Cell}
use Rattle.graph_core.specs.declared.cells.Slot.{Slot}
use Rattle.graph_core.specs.declared.cells.Slot.TheVariants.{Live, Free}
use Rattle.graph_core.specs.Place.{id_of, id_cmp}
use Rattle.graph_core.specs.Cells.{IsNext, CellsValue, cell_with, without_cell, put_end}
use Rattle.graph_core.specs.Slots.{cell_in, next_in, live_from, shown, IsChain, IsChained, put_end_in}
use Rattle.components.specs.Lookups.{same_test, other_test, get_inserted, get_not_inserted, get_removed, get_not_removed}
use Rattle.graph_core.specs.Ids.{id_total, id_same, id_cases}

-- Slots after a change

module _ {A : Type 0} where
  pub set_here : (xs : List A) (i : ℕ) (old new : A) → slice_get xs i ≡ Some old → slice_get (slice_set xs i new) i ≡ Some new
  set_here [] i old new found = absurd (none-some _ found)
  set_here (x ∷ xs) zero old new found = refl
  set_here (x ∷ xs) (suc i) old new found = set_here xs i old new found

  pub set_other : (xs : List A) (i j : ℕ) (new : A) → j ≢ i → slice_get (slice_set xs i new) j ≡ slice_get xs j
  set_other [] i j new apart = refl
  set_other (x ∷ xs) zero zero new apart = absurd (apart refl)
  set_other (x ∷ xs) zero (suc j) new apart = refl
  set_other (x ∷ xs) (suc i) zero new apart = refl
  set_other (x ∷ xs) (suc i) (suc j) new apart = set_other xs i j new (λ e. apart (ap suc e))

  pub set_same : (xs : List A) (i : ℕ) (x : A) → slice_get xs i ≡ Some x → slice_set xs i x ≡ xs
  set_same [] i x found = refl
  set_same (y ∷ xs) zero x found = ap (λ z. z ∷ xs) (sym (same_Some _ _ found))
  set_same (y ∷ xs) (suc i) x found = ap (λ zs. y ∷ zs) (set_same xs i x found)

  pub push_here : (xs : List A) (new : A) → slice_get (xs ++ new ∷ []) (length xs) ≡ Some new
  push_here [] new = refl
  push_here (x ∷ xs) new = push_here xs new

  pub push_other : (xs : List A) (j : ℕ) (new : A) → j ≢ length xs → slice_get (xs ++ new ∷ []) j ≡ slice_get xs j
  push_other [] zero new apart = absurd (apart refl)
  push_other [] (suc j) new apart = refl
  push_other (x ∷ xs) zero new apart = refl
  push_other (x ∷ xs) (suc j) new apart = push_other xs j new (λ e. apart (ap suc e))

  pub past_end : (xs : List A) → slice_get xs (length xs) ≡ None
  past_end [] = refl
  past_end (x ∷ xs) = past_end xs

  pub within : (xs : List A) (i : ℕ) (x : A) → slice_get xs i ≡ Some x → i < length xs
  within [] i x found = absurd (none-some _ found)
  within (y ∷ xs) zero x found = omega arith
  within (y ∷ xs) (suc i) x found = omega (arith, within xs i x found)

-- What slots show

found_from : (slots : List Slot) (first i : ℕ) (id : NodeId) → id ≡ id_of (first + i) → map.find id_cmp id (live_from first slots) ≡ cell_in (slice_get slots i)
found_from [] first i id is = refl
found_from (Live cell ∷ slots) first zero id is =
    ap (λ t. cond t (Some cell) (map.find id_cmp id (live_from (suc first) slots))) (same_test id_total id_same id (id_of first) (is ∙ ap id_of (omega arith)))
found_from (Live cell ∷ slots) first (suc i) id is =
    let apart : id ≢ id_of first = λ e. let same : first + suc i ≡ first = ap (λ (x : NodeId). x.index) (sym is ∙ e) in omega arith in
    ap (λ t. cond t (Some cell) (map.find id_cmp id (live_from (suc first) slots))) (other_test id_total id_same id (id_of first) apart)
    ∙ found_from slots (suc first) i id (is ∙ ap id_of (omega arith))
found_from (Free next ∷ slots) first zero id is = none_before slots (suc first) id (let e : id.index ≡ first + zero = ap (λ (x : NodeId). x.index) is in omega arith)
  where
    none_before : (slots : List Slot) (first : ℕ) (id : NodeId) → id.index < first → map.find id_cmp id (live_from first slots) ≡ None
    none_before [] first id below = refl
    none_before (Live cell ∷ slots) first id below =
        let apart : id ≢ id_of first = λ e. let same : id.index ≡ first = ap (λ (x : NodeId). x.index) e in omega arith in
        ap (λ t. cond t (Some cell) (map.find id_cmp id (live_from (suc first) slots))) (other_test id_total id_same id (id_of first) apart)
        ∙ none_before slots (suc first) id (omega arith)
    none_before (Free next ∷ slots) first id below = none_before slots (suc first) id (omega arith)
found_from (Free next ∷ slots) first (suc i) id is = found_from slots (suc first) i id (is ∙ ap id_of (omega arith))

pub get_shown : (slots : List Slot) (id : NodeId) → map.get (shown slots).cells id ≡ cell_in (slice_get slots id.index)
get_shown slots id = map.get-from_entries id_total (live_from zero slots) id ∙ found_from slots zero id.index id (ap id_of (omega arith))

-- where only one slot changed, and shows a cell now, the cells are those with this one
module _ (old new : List Slot) (i : ℕ) (others : (j : ℕ) → j ≢ i → slice_get new j ≡ slice_get old j) where
  shown_other : (q : NodeId) → q ≢ id_of i → map.get (shown new).cells q ≡ map.get (shown old).cells q
  shown_other q apart = get_shown new q ∙ ap cell_in (others q.index (λ e. apart (ap id_of e))) ∙ sym (get_shown old q)

  pub shown_with : (cell : Cell) → slice_get new i ≡ Some (Live cell) → (shown new).cells ≡ map.insert (shown old).cells (id_of i) cell
  shown_with cell here = map.same_map id_total id_same _ _ (λ q. elim (id_cases q (id_of i)) [
    | inl one ↦ ap (map.get (shown new).cells) one ∙ get_shown new (id_of i) ∙ ap cell_in here ∙ sym (get_inserted id_total id_same (shown old).cells (id_of i) cell q one)
    | inr two ↦ shown_other q two ∙ sym (get_not_inserted id_total id_same (shown old).cells (id_of i) cell q two)
  ])

  pub shown_without : (next : Option ℕ) → slice_get new i ≡ Some (Free next) → (shown new).cells ≡ map.remove (shown old).cells (id_of i)
  shown_without next here = map.same_map id_total id_same _ _ (λ q. elim (id_cases q (id_of i)) [
    | inl one ↦ ap (map.get (shown new).cells) one ∙ get_shown new (id_of i) ∙ ap cell_in here ∙ sym (get_removed id_total id_same (shown old).cells (id_of i)) ∙ ap (map.get (map.remove (shown old).cells (id_of i))) (sym one)
    | inr two ↦ shown_other q two ∙ sym (get_not_removed id_total id_same (shown old).cells (id_of i) q two)
  ])

-- The chain of free slots

-- a slot starts chains of one length
chain_once : (slots : List Slot) (m n : ℕ) (from : Option ℕ) → IsChain slots m from → IsChain slots n from → m ≡ n
chain_once slots zero zero from p q = refl
chain_once slots zero (suc n) from p q = absurd (none-some _ (sym (sym q.2 ∙ p)))
chain_once slots (suc m) zero from p q = absurd (none-some _ (sym (sym p.2 ∙ q)))
chain_once slots (suc m) (suc n) from p q =
    let same : q.0 ≡ p.0 = same_Some _ _ (sym q.2 ∙ p.2) in
    let listed : slice_get slots p.0 ≡ Some (Free q.1) = ap (slice_get slots) (sym same) ∙ q.3 in
    let next : q.1 ≡ p.1 = let both : Some (Free q.1) ≡ Some (Free p.1) = sym listed ∙ p.3 in cc in
    ap suc (chain_once slots m n p.1 p.4 (subst (IsChain slots n) next q.4))

-- a change at a slot that is not on the chain keeps the chain
chain_kept : (old new : List Slot) (i : ℕ) → ((j : ℕ) → j ≢ i → slice_get new j ≡ slice_get old j) → (n : ℕ) (from : Option ℕ) → ((m : ℕ) → m < n → IsChain old (suc m) (Some i) → ⊥) → IsChain old n from → IsChain new n from
chain_kept old new i others zero from off p = p
chain_kept old new i others (suc n) from off p =
    let apart : p.0 ≢ i = λ e. off n (omega arith) (i, p.1, refl, ap (slice_get old) (sym e) ∙ p.3, p.4) in
    (p.0, p.1, p.2, others p.0 apart ∙ p.3, chain_kept old new i others n p.1 (λ m below. off m (omega arith)) p.4)

-- a live slot is on no chain
live_is_off : (slots : List Slot) (i : ℕ) (cell : Cell) → slice_get slots i ≡ Some (Live cell) → (m : ℕ) → IsChain slots (suc m) (Some i) → ⊥
live_is_off slots i cell found m p =
    let listed : slice_get slots i ≡ Some (Free p.1) = ap (slice_get slots) (same_Some _ _ p.2) ∙ p.3 in
    let both : Some (Live cell) ≡ Some (Free p.1) = sym found ∙ listed in cc

no_chain : (slots : List Slot) (n : ℕ) → IsChain slots n None → n ≡ 0
no_chain slots zero p = refl
no_chain slots (suc n) p = absurd (none-some _ p.2)

-- what a change of the slots gives
pub record Added (old new : List Slot) (from : Option ℕ) (id : NodeId) (cell : Cell) : Type 0 where
  pub chained : IsChained new from
  pub vacant : map.get (shown old).cells id ≡ None
  pub next : IsNext (shown old) id
  pub cells : (shown new).cells ≡ map.insert (shown old).cells id cell
  pub slots : length new ≡ max (length old) (map.len (shown new).cells)

-- the same, where the slots and the id are known by equations
pub stands : {old new now : List Slot} {from : Option ℕ} {id other : NodeId} {cell : Cell} → now ≡ new → other ≡ id → Added old new from id cell → Added old now from other cell
stands {old} {new} {now} {from} {id} {other} {cell} is at added = subst (λ z. Added old z from other cell) (sym is) (subst (λ i. Added old new from i cell) (sym at) added)

grown : (m : map.FinMap id_cmp Cell) (id : NodeId) (cell : Cell) → map.get m id ≡ None → map.len (map.insert m id cell) ≡ map.len m + 1
grown m id cell vacant = map.len-insert id_total m id cell ∙ ap (λ o. cond (is_some o) (map.len m) (map.len m + 1)) vacant

pub pushed : (slots : List Slot) (from : Option ℕ) (cell : Cell) → IsChained slots from → from ≡ None → Added slots (slots ++ Live cell ∷ []) from (id_of (length slots)) cell
pushed slots from cell old none =
    let vacant : map.get (shown slots).cells (id_of (length slots)) ≡ None = get_shown slots (id_of (length slots)) ∙ ap cell_in (past_end slots) in
    let cells = shown_with slots (slots ++ Live cell ∷ []) (length slots) (λ j apart. push_other slots j (Live cell) apart) cell (push_here slots (Live cell)) in
    let empty : old.free ≡ 0 = no_chain slots old.free (subst (IsChain slots old.free) none old.chain) in
    let more : map.len (shown (slots ++ Live cell ∷ [])).cells ≡ map.len (shown slots).cells + 1 = ap map.len cells ∙ grown (shown slots).cells (id_of (length slots)) cell vacant in
    let longer : length (slots ++ Live cell ∷ []) ≡ length slots + 1 = length-append slots (Live cell ∷ []) in
    let total : map.len (shown slots).cells + old.free ≡ length slots = old.total in
    record {
      chained = record { free = 0; total = omega arith; chain = none };
      next = λ full. refl;
      vacant = vacant;
      cells = cells;
      slots = omega arith;
    }

pub filled : (slots : List Slot) (i : ℕ) (next : Option ℕ) (cell : Cell) (from : Option ℕ) → IsChained slots from → from ≡ Some i → slice_get slots i ≡ Some (Free next) → Added slots (slice_set slots i (Live cell)) next (id_of i) cell
filled slots i next cell from old is found = by_count old.free old.total old.chain
  where
    others : (j : ℕ) → j ≢ i → slice_get (slice_set slots i (Live cell)) j ≡ slice_get slots j
    others j apart = set_other slots i j (Live cell) apart

    vacant : map.get (shown slots).cells (id_of i) ≡ None
    vacant = get_shown slots (id_of i) ∙ ap cell_in found

    cells : (shown (slice_set slots i (Live cell))).cells ≡ map.insert (shown slots).cells (id_of i) cell
    cells = shown_with slots (slice_set slots i (Live cell)) i others cell (set_here slots i (Free next) (Live cell) found)

    by_count : (n : ℕ) → map.len (shown slots).cells + n ≡ length slots → IsChain slots n from → Added slots (slice_set slots i (Live cell)) next (id_of i) cell
    by_count zero total chain = absurd (none-some _ (sym (sym is ∙ chain)))
    by_count (suc n) total chain =
        let at : chain.0 ≡ i = same_Some _ _ (sym chain.2 ∙ is) in
        let link : chain.1 ≡ next = let both : Some (Free chain.1) ≡ Some (Free next) = sym chain.3 ∙ ap (slice_get slots) at ∙ found in cc in
        let rest : IsChain slots n next = subst (IsChain slots n) link chain.4 in
        let off : (m : ℕ) → m < n → IsChain slots (suc m) (Some i) → ⊥ = λ m below p. let same : suc m ≡ suc n = chain_once slots (suc m) (suc n) (Some i) p (subst (IsChain slots (suc n)) is chain) in omega arith in
        let more : map.len (shown (slice_set slots i (Live cell))).cells ≡ map.len (shown slots).cells + 1 = ap map.len cells ∙ grown (shown slots).cells (id_of i) cell vacant in
        let long : length (slice_set slots i (Live cell)) ≡ length slots = length-set slots i (Live cell) in
        record {
          chained = record { free = n; total = omega arith; chain = chain_kept slots (slice_set slots i (Live cell)) i others n next off rest };
          next = λ full. absurd (omega (arith, total, full));
          vacant = vacant;
          cells = cells;
          slots = omega arith;
        }

-- the first free slot
pub free_slot : (slots : List Slot) (from : Option ℕ) (i : ℕ) → IsChained slots from → from ≡ Some i → (next : Option ℕ) × (slice_get slots i ≡ Some (Free next))
free_slot slots from i old is = by_count old.free old.chain
  where
    by_count : (n : ℕ) → IsChain slots n from → (next : Option ℕ) × (slice_get slots i ≡ Some (Free next))
    by_count zero chain = absurd (none-some _ (sym (sym is ∙ chain)))
    by_count (suc n) chain = (chain.1, ap (slice_get slots) (same_Some _ _ (sym is ∙ chain.2)) ∙ chain.3)

pub filled_next : (slots : List Slot) (i : ℕ) (cell : Cell) (from : Option ℕ) → IsChained slots from → from ≡ Some i → Added slots (slice_set slots i (Live cell)) (next_in (slice_get slots i)) (id_of i) cell
filled_next slots i cell from old is =
    let (next, found) = free_slot slots from i old is in
    subst (λ n. Added slots (slice_set slots i (Live cell)) n (id_of i) cell) (sym (ap next_in found)) (filled slots i next cell from old is found)

pub record Taken (old new : List Slot) (from : Option ℕ) (i : ℕ) : Type 0 where
  pub chained : IsChained new from
  pub shows : shown new ≡ without_cell (shown old) (id_of i)

pub vacated : (slots : List Slot) (i : ℕ) (cell : Cell) (from : Option ℕ) → IsChained slots from → slice_get slots i ≡ Some (Live cell) → Taken slots (slice_set slots i (Free from)) (Some i) i
vacated slots i cell from old found =
    let others : (j : ℕ) → j ≢ i → slice_get (slice_set slots i (Free from)) j ≡ slice_get slots j = λ j apart. set_other slots i j (Free from) apart in
    let here = set_here slots i (Live cell) (Free from) found in
    let cells = shown_without slots (slice_set slots i (Free from)) i others from here in
    let long : length (slice_set slots i (Free from)) ≡ length slots = length-set slots i (Free from) in
    let was : map.get (shown slots).cells (id_of i) ≡ Some cell = get_shown slots (id_of i) ∙ ap cell_in found in
    let some : 1 ≤ map.len (shown slots).cells = some_in (shown slots).cells (id_of i) cell was in
    let fewer : map.len (shown (slice_set slots i (Free from))).cells ≡ map.len (shown slots).cells - 1 =
    ap map.len cells ∙ map.len-remove id_total (shown slots).cells (id_of i) ∙ ap (λ o. cond (is_some o) (map.len (shown slots).cells - 1) (map.len (shown slots).cells)) was in
    let total : map.len (shown slots).cells + old.free ≡ length slots = old.total in
    record {
      chained = record {
        free = suc old.free;
        total = omega arith;
        chain = (i, from, refl, here, chain_kept slots (slice_set slots i (Free from)) i others old.free from (λ m below. live_is_off slots i cell found m) old.chain);
      };
      shows = λ k. record { cells = cells k; slots = long k };
    }
  where
    some_in : (m : map.FinMap id_cmp Cell) (id : NodeId) (cell : Cell) → map.get m id ≡ Some cell → 1 ≤ map.len m
    some_in m id cell was = by_len (map.len m) refl
      where
        by_len : (n : ℕ) → map.len m ≡ n → 1 ≤ n
        by_len zero e = absurd (none-some _ (sym (sym was ∙ ap (λ (z : map.FinMap id_cmp Cell). map.get z id) (map.empty_of_len m e) ∙ map.get-empty id_cmp id)))
        by_len (suc n) e = omega arith

pub IsChained-empty : IsChained [] None
IsChained-empty = record { free = 0; total = omega (arith, map.len-empty id_cmp Cell); chain = refl }

live_slot : (o : Option Slot) (cell : Cell) → cell_in o ≡ Some cell → o ≡ Some (Live cell)
live_slot None cell e = absurd (none-some _ e)
live_slot (Some (Live found)) cell e = ap (λ c. Some (Live c)) (same_Some _ _ e)
live_slot (Some (Free next)) cell e = absurd (none-some _ e)

pub below_slots : (slots : List Slot) (id : NodeId) (cell : Cell) → map.get (shown slots).cells id ≡ Some cell → id.index < length slots
below_slots slots id cell found = within slots id.index (Live cell) (live_slot (slice_get slots id.index) cell (sym (get_shown slots id) ∙ found))

-- where no cell is, none is taken out
pub no_cell : (c : CellsValue) (id : NodeId) → map.get c.cells id ≡ None → without_cell c id ≡ c
no_cell c id none =
    let same : map.remove c.cells id ≡ c.cells = map.same_map id_total id_same _ _ (λ q. elim (id_cases q id) [
      | inl one ↦ ap (map.get (map.remove c.cells id)) one ∙ get_removed id_total id_same c.cells id ∙ sym none ∙ ap (map.get c.cells) (sym one)
      | inr two ↦ get_not_removed id_total id_same c.cells id q two
    ]) in
    λ k. record { cells = same k; slots = c.slots }

pub taken : (slots : List Slot) (id : NodeId) (cell : Cell) (from : Option ℕ) → IsChained slots from → map.get (shown slots).cells id ≡ Some cell → Taken slots (slice_set slots id.index (Free from)) (Some id.index) id.index
taken slots id cell from old found = vacated slots id.index cell from old (live_slot (slice_get slots id.index) cell (sym (get_shown slots id) ∙ found))

pub rewritten : (slots : List Slot) (side : Side) (p : PortAt) (end : Option PortAt) (from : Option ℕ) → IsChained slots from → (o : Option Slot) → slice_get slots p.node.index ≡ o
    → IsChained (put_end_in slots side p end o) from × (shown (put_end_in slots side p end o) ≡ put_end (shown slots) side p end (cell_in o))
rewritten slots side p end from old None found = (old, refl)
rewritten slots side p end from old (Some (Free next)) found =
    let same : slice_set slots p.node.index (Free next) ≡ slots = set_same slots p.node.index (Free next) found in
    (subst (λ z. IsChained z from) (sym same) old, ap shown same)
rewritten slots side p end from old (Some (Live cell)) found =
    let i = p.node.index in
    let now = cell_with cell side p.port end in
    let others : (j : ℕ) → j ≢ i → slice_get (slice_set slots i (Live now)) j ≡ slice_get slots j = λ j apart. set_other slots i j (Live now) apart in
    let here = set_here slots i (Live cell) (Live now) found in
    let cells = shown_with slots (slice_set slots i (Live now)) i others now here in
    let long : length (slice_set slots i (Live now)) ≡ length slots = length-set slots i (Live now) in
    let was : map.get (shown slots).cells (id_of i) ≡ Some cell = get_shown slots (id_of i) ∙ ap cell_in found in
    let same : map.len (shown (slice_set slots i (Live now))).cells ≡ map.len (shown slots).cells =
    ap map.len cells ∙ map.len-insert id_total (shown slots).cells (id_of i) now ∙ ap (λ o. cond (is_some o) (map.len (shown slots).cells) (map.len (shown slots).cells + 1)) was in
    let total : map.len (shown slots).cells + old.free ≡ length slots = old.total in (
      record { free = old.free; total = omega arith; chain = chain_kept slots (slice_set slots i (Live now)) i others old.free from (λ m below. live_is_off slots i cell found m) old.chain },
      λ k. record { cells = cells k; slots = long k },
    )

-- A new free slot, the first of the chain

pub record Opened (old new : List Slot) (from : Option ℕ) : Type 0 where
  pub chained : IsChained new from
  pub cells : (shown new).cells ≡ (shown old).cells
  pub count : length new ≡ length old + 1

pub opened : (slots : List Slot) (from : Option ℕ) → IsChained slots from → Opened slots (slots ++ Free from ∷ []) (Some (length slots))
opened slots from old =
    let new = slots ++ Free from ∷ [] in
    let i = length slots in
    let others : (j : ℕ) → j ≢ i → slice_get new j ≡ slice_get slots j = λ j apart. push_other slots j (Free from) apart in
    let here : slice_get new i ≡ Some (Free from) = push_here slots (Free from) in
    let none : map.get (shown slots).cells (id_of i) ≡ None = get_shown slots (id_of i) ∙ ap cell_in (past_end slots) in
    let cells : (shown new).cells ≡ (shown slots).cells = shown_without slots new i others from here ∙ ap (λ (c : CellsValue). c.cells) (no_cell (shown slots) (id_of i) none) in
    let off : (m : ℕ) → m < old.free → IsChain slots (suc m) (Some i) → ⊥ =
    λ m below p. none-some _ (sym (past_end slots) ∙ ap (slice_get slots) (same_Some _ _ p.2) ∙ p.3) in
    let same : map.len (shown new).cells ≡ map.len (shown slots).cells = ap map.len cells in
    let longer : length new ≡ length slots + 1 = length-append slots (Free from ∷ []) in
    let total : map.len (shown slots).cells + old.free ≡ length slots = old.total in
    record {
      chained = record { free = suc old.free; total = omega arith; chain = (i, from, refl, here, chain_kept slots new i others old.free from off old.chain) };
      cells = cells;
      count = longer;
    }

-- so many new slots are free, and there is room for the others
pub record SoGrown (old new : List Slot) (from : Option ℕ) (done : ℕ) : Type 0 where
  pub chained : IsChained new from
  pub cells : (shown new).cells ≡ (shown old).cells
  pub count : length new ≡ length old + done

pub so_grown : (old new now : List Slot) (from : Option ℕ) (done : ℕ) → SoGrown old new from done → now ≡ new ++ Free from ∷ [] → SoGrown old now (Some (length new)) (done + 1)
so_grown old new now from done so_far is =
    let step = opened new from so_far.chained in
    let count : length new ≡ length old + done = so_far.count in
    let more : length (new ++ Free from ∷ []) ≡ length new + 1 = step.count in
    subst (λ z. SoGrown old z (Some (length new)) (done + 1)) (sym is) (record { chained = step.chained; cells = step.cells ∙ so_far.cells; count = omega arith })

-- Along the chain

-- so many steps along the chain, and here the rest of it starts
abbrev pub Walked : List Slot → Option ℕ → ℕ → Option ℕ → Type 0
Walked slots free done at = (n : ℕ) → IsChain slots n free → (m : ℕ) × (done + m ≡ n) × IsChain slots m at

pub walked_on : (slots : List Slot) (free at next : Option ℕ) (done index : ℕ) → Walked slots free done at → at ≡ Some index → next ≡ next_in (slice_get slots index) → Walked slots free (done + 1) next
walked_on slots free at next done index walked is on n p = step (walked n p).0 (walked n p).1 (walked n p).2
  where
    step : (m : ℕ) → done + m ≡ n → IsChain slots m at → (k : ℕ) × (done + 1 + k ≡ n) × IsChain slots k next
    step zero e q = absurd (none-some _ (sym q ∙ is))
    step (suc m) e q =
        let here : slice_get slots index ≡ Some (Free q.1) = ap (slice_get slots) (same_Some _ _ (sym is ∙ q.2)) ∙ q.3 in
        (m, omega arith, subst (IsChain slots m) (sym (on ∙ ap next_in here)) q.4)

pub walked_out : (slots : List Slot) (free at : Option ℕ) (done most : ℕ) → Walked slots free done at → at ≡ None → done < most → (n : ℕ) → IsChain slots n free → done ≡ min most n
walked_out slots free at done most walked is below n p =
    let (m, e, q) = walked n p in
    let none : m ≡ 0 = no_chain slots m (subst (IsChain slots m) is q) in
    omega arith

pub walked_all : (slots : List Slot) (free at : Option ℕ) (most : ℕ) → Walked slots free most at → (n : ℕ) → IsChain slots n free → most ≡ min most n
walked_all slots free at most walked n p = let (m, e, q) = walked n p in omega arith

-- where all slots are taken, none is free
pub none_left : (slots : List Slot) (from : Option ℕ) → IsChained slots from → from ≡ None → map.len (shown slots).cells < length slots → ⊥
none_left slots from old none below =
    let empty : old.free ≡ 0 = no_chain slots old.free (subst (IsChain slots old.free) none old.chain) in
    let total : map.len (shown slots).cells + old.free ≡ length slots = old.total in
    absurd (omega arith)
