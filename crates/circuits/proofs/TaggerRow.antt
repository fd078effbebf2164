-- A Tagger keeps tokens and slots fitting, and its tags different.
use Rattle.std.proofs.Common.{◌≡◌, ◌≢◌, ℕ, zero, suc, ◌+◌, ◌^◌, ◌≤◌, refl, sym, subst, Bool, true, false, nat_le, if◌then◌else◌, List, [], ◌∷◌, ◌++◌, arith, add-zero}
use Rattle.std.proofs.lemmas.Bool.{leb-true}
use Rattle.std.specs.List.{AllByRecursion}
use Rattle.port_types.specs.Tag.{tag_width, tag_width_from}
use Rattle.components.specs.declared.kind.Kind.TheVariants.{Tagger}
use Rattle.components.specs.Kind.{Shape, ins, outs}
use Rattle.circuits.specs.PortTokens.{Token, one}
use Rattle.circuits.specs.CircuitState.{Slot, SlotFits, HasNoTag, TagsDiffer}
use Rattle.circuits.specs.Firing.{waiting, finished, FiresTagger}
use Rattle.circuits.proofs.Lists.{each_append, each_left, each_right}
use Rattle.circuits.proofs.Sides.{SideFits, Kept}

-- the width of a tag has room for all tags
step_has_room : (more width tags : ℕ) (b : Bool) → nat_le tags (2 ^ width) ≡ b → tags ≤ 2 ^ tag_width_from more (width + 1) tags →
    tags ≤ 2 ^ (if b then width else tag_width_from more (width + 1) tags)
step_has_room more width tags true e h = leb-true tags (2 ^ width) e
step_has_room more width tags false e h = h

from_has_room : (more width tags : ℕ) → tags ≤ 2 ^ (width + more) → tags ≤ 2 ^ tag_width_from more width tags
from_has_room zero width tags h = subst (λ z. tags ≤ 2 ^ z) (add-zero width) h
from_has_room (suc more) width tags h =
    let e : width + suc more ≡ (width + 1) + more = omega arith in
    step_has_room more width tags (nat_le tags (2 ^ width)) refl (from_has_room more (width + 1) tags (subst (λ z. tags ≤ 2 ^ z) e h))

tag_has_room : (tags : ℕ) → tags ≤ 256 → tags ≤ 2 ^ tag_width tags
tag_has_room tags h = from_has_room 7 1 tags (omega (arith, h))

-- tags stay different where a slot gets its result
result_no_tag : (other tag : ℕ) (v : Token) (older newer : List Slot) → HasNoTag other (older ++ waiting tag ∷ newer) → HasNoTag other (older ++ finished tag v ∷ newer)
result_no_tag other tag v [] newer h = h
result_no_tag other tag v (slot ∷ older) newer h = (h.0, result_no_tag other tag v older newer h.1)

result_differs : (tag : ℕ) (v : Token) (older newer : List Slot) → TagsDiffer (older ++ waiting tag ∷ newer) → TagsDiffer (older ++ finished tag v ∷ newer)
result_differs tag v [] newer h = h
result_differs tag v (slot ∷ older) newer h = (result_no_tag slot.tag tag v older newer h.0, result_differs tag v older newer h.1)

-- and where a slot comes whose tag none has
newest_no_tag : (other tag : ℕ) (slots : List Slot) → tag ≢ other → HasNoTag other slots → HasNoTag other (slots ++ waiting tag ∷ [])
newest_no_tag other tag [] ne h = (ne, tt)
newest_no_tag other tag (slot ∷ slots) ne h = (h.0, newest_no_tag other tag slots ne h.1)

pub newest_differs : (tag : ℕ) (slots : List Slot) → HasNoTag tag slots → TagsDiffer slots → TagsDiffer (slots ++ waiting tag ∷ [])
newest_differs tag [] none h = (tt, tt)
newest_differs tag (slot ∷ slots) none h = (newest_no_tag slot.tag tag slots (λ e. none.0 (sym e)) h.0, newest_differs tag slots none.1 h.1)

pub tagger_fits : (shape : Shape) (tags : ℕ) → tags ≤ 256 → (choice : ℕ) (old : List Slot) (taken given : List (List Token)) (new : List Slot) →
    FiresTagger tags choice old taken given new → SideFits (ins (Tagger shape tags)) taken → AllByRecursion (SlotFits (Tagger shape tags)) old → TagsDiffer old →
    Kept (Tagger shape tags) given new
tagger_fits shape tags few zero old taken given new (tag, v, eo, et, eg) takes slots differ =
    let held : AllByRecursion (SlotFits (Tagger shape tags)) (finished tag v ∷ new) = subst (AllByRecursion (SlotFits (Tagger shape tags))) eo slots in
    let apart : TagsDiffer (finished tag v ∷ new) = subst TagsDiffer eo differ in
    record {
      side = subst (SideFits (outs (Tagger shape tags))) (sym eg) (tt, ((held.0.1, tt), tt));
      slots = held.1;
      tags = apart.1;
    }
tagger_fits shape tags few (suc zero) old taken given new (tag, v, older, newer, eo, en, et, eg) takes slots differ =
    let side : SideFits (ins (Tagger shape tags)) ([] ∷ one (tag ∷ v) ∷ []) = subst (SideFits (ins (Tagger shape tags))) et takes in
    let held : AllByRecursion (SlotFits (Tagger shape tags)) (older ++ waiting tag ∷ newer) = subst (AllByRecursion (SlotFits (Tagger shape tags))) eo slots in
    let right : AllByRecursion (SlotFits (Tagger shape tags)) (waiting tag ∷ newer) = each_right (SlotFits (Tagger shape tags)) older _ held in
    record {
      side = subst (SideFits (outs (Tagger shape tags))) (sym eg) tt;
      slots = subst (AllByRecursion (SlotFits (Tagger shape tags))) (sym en)
          (each_append (SlotFits (Tagger shape tags)) older _ (each_left (SlotFits (Tagger shape tags)) older _ held) ((right.0.0, side.1.0.0.1), right.1));
      tags = subst TagsDiffer (sym en) (result_differs tag v older newer (subst TagsDiffer eo differ));
    }
tagger_fits shape tags few (suc (suc tag)) old taken given new (v, below, none, en, et, eg) takes slots differ =
    let side : SideFits (ins (Tagger shape tags)) (one v ∷ []) = subst (SideFits (ins (Tagger shape tags))) et takes in
    let room : tags ≤ 2 ^ tag_width tags = tag_has_room tags few in
    record {
      side = subst (SideFits (outs (Tagger shape tags))) (sym eg) (((omega (arith, below, room), side.0.0), tt), tt);
      slots = subst (AllByRecursion (SlotFits (Tagger shape tags))) (sym en) (each_append (SlotFits (Tagger shape tags)) old _ slots ((below, tt), tt));
      tags = subst TagsDiffer (sym en) (newest_differs tag old none differ);
    }
