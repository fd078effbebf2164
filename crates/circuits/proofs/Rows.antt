-- A node of each kind keeps a state: where what it takes fits, what it gives fits, and its slots do, with tags that differ.
use Rattle.std.proofs.Common.{◌≡◌, ◌^◌, ◌%◌, ◌<◌, ◌≤◌, inl, inr, ℕ, zero, suc, sym, subst, map, length, replicate, List, [], ◌∷◌, ◌++◌, Some, None, arith, mod-lt}
use Rattle.std.specs.List.{concat, zip, AllByRecursion}
use Rattle.std.proofs.lemmas.Nat.{pow_pos}
use Rattle.std.proofs.lemmas.List.Elements.{All-nil, All-cons}
use Rattle.std.proofs.lemmas.Slice.Zip.{firsts-zip}
use Rattle.std.proofs.lemmas.Option.{same_Some}
use Rattle.op_table.specs.declared.op.Op.{Op}
use Rattle.op_table.specs.Operator.{IsTypedOp}
use Rattle.op_table.specs.Value.{InputsFit, op_value}
use Rattle.fun_expr.specs.Function.{fun_value}
use Rattle.circuits.specs.Values.{ValuesFit}
use Rattle.port_types.specs.Token.{Fits}
use Rattle.components.specs.declared.kind.Kind.{Kind}
use Rattle.components.specs.declared.kind.Kind.TheVariants.{Entry, Exit, Buffer, Fork, Join, Split, Operator, Constant, Source0, Sink0, Pure, Mux, Branch, Merge, CtrlMerge, Init, Tagger}
use Rattle.components.specs.Name.{port_get}
use Rattle.components.specs.Kind.{Shape, field, ins, outs, KindOk}
use Rattle.circuits.specs.PortTokens.{Token, single, one}
use Rattle.circuits.specs.CircuitState.{Slot, SlotFits, TagsDiffer, initial}
use Rattle.circuits.specs.Firing.{Label, Label.Feed, Label.Take, Label.Fire, FitEach, one_behind, Selects, FiresBranch, Acts, Fires}
use Rattle.circuits.proofs.Sides.{SideFits, Kept}
use Rattle.circuits.proofs.TaggerRow.{tagger_fits}

-- one token of each output
copies_fit : (count : ℕ) (a : Shape) (v : Token) → Fits a v → SideFits (replicate count a) (replicate count (one v))
copies_fit zero a v h = tt
copies_fit (suc count) a v h = ((h, tt), copies_fit count a v h)

-- tokens of some shapes, as one
append_fits : (a b : Shape) (v w : Token) → Fits a v → Fits b w → Fits (a ++ b) (v ++ w)
append_fits [] b [] w h k = k
append_fits [] b (x ∷ v) w h k = absurd h
append_fits (x ∷ a) b [] w h k = absurd h
append_fits (x ∷ a) b (y ∷ v) w h k = (h.0, append_fits a b v w h.1 k)

joined_fits : (shapes : List Shape) (parts : List Token) → length parts ≡ length shapes → SideFits shapes (map one parts) → Fits (concat shapes) (concat parts)
joined_fits [] [] e h = tt
joined_fits [] (v ∷ vs) e h = cc
joined_fits (a ∷ shapes) [] e h = cc
joined_fits (a ∷ shapes) (v ∷ vs) e h = append_fits a (concat shapes) v (concat vs) h.0.0 (joined_fits shapes vs (omega (arith, e)) h.1)

-- and cut
cut_fits : (shapes : List Shape) (parts : List Token) → FitEach shapes parts → SideFits shapes (map one parts)
cut_fits [] vs h = tt
cut_fits (a ∷ shapes) [] h = tt
cut_fits (a ∷ shapes) (v ∷ vs) h = ((h.0, tt), cut_fits shapes vs h.1)

-- a token of one of several inputs
merged_fits : (count choice : ℕ) (a : Shape) (v : Token) → choice < count → SideFits (replicate count a) (one_behind choice v) → Fits a v
merged_fits zero choice a v below h = absurd (omega (arith, below))
merged_fits (suc count) zero a v below h = h.0.0
merged_fits (suc count) (suc choice) a v below h = merged_fits count choice a v (omega (arith, below)) h.1

selected_fits : (a : Shape) (v : Token) (taken : List (List Token)) → Selects v taken → SideFits (ins (Mux a)) taken → Fits a v
selected_fits a v taken (inl e) h = let k : SideFits (ins (Mux a)) (one (single 0) ∷ one v ∷ []) = subst (SideFits (ins (Mux a))) e h in k.1.0.0
selected_fits a v taken (inr e) h = let k : SideFits (ins (Mux a)) (one (single 1) ∷ [] ∷ one v ∷ []) = subst (SideFits (ins (Mux a))) e h in k.1.1.0.0

led_fits : (a : Shape) (v : Token) (taken given : List (List Token)) → FiresBranch v taken given → SideFits (ins (Branch a)) taken → SideFits (outs (Branch a)) given
led_fits a v taken given (inl e) h =
    let k : SideFits (ins (Branch a)) (one v ∷ one (single 1) ∷ []) = subst (SideFits (ins (Branch a))) e.0 h in
    subst (SideFits (outs (Branch a))) (sym e.1) ((k.0.0, tt), tt)
led_fits a v taken given (inr e) h =
    let k : SideFits (ins (Branch a)) (one v ∷ one (single 0) ∷ []) = subst (SideFits (ins (Branch a))) e.0 h in
    subst (SideFits (outs (Branch a))) (sym e.1) (tt, ((k.0.0, tt), tt))

-- the values that nodes make
remainder_fits : (value width : ℕ) → value % 2 ^ width < 2 ^ width
remainder_fits value width = mod-lt value (pow_pos width)

zeros_fit : (a : Shape) → Fits a (map (λ width. 0) a)
zeros_fit [] = tt
zeros_fit (width ∷ a) = (pow_pos width, zeros_fit a)

inputs_fit : (widths numbers : List ℕ) → length numbers ≡ length widths → SideFits (map field widths) (map (λ number. one (single number)) numbers) →
    InputsFit (zip widths numbers)
inputs_fit [] [] e h = All-nil (λ (arg : ℕ × ℕ). arg.1 < 2 ^ arg.0)
inputs_fit [] (x ∷ xs) e h = cc
inputs_fit (w ∷ ws) [] e h = cc
inputs_fit (w ∷ ws) (x ∷ xs) e h =
    All-cons (λ (arg : ℕ × ℕ). arg.1 < 2 ^ arg.0) (w, x) (zip ws xs) h.0.0.0 (inputs_fit ws xs (omega (arith, e)) h.1)

value_fits : ValuesFit → (op : Op) (widths numbers : List ℕ) (width : ℕ) → IsTypedOp op widths width → length numbers ≡ length widths →
    SideFits (map field widths) (map (λ number. one (single number)) numbers) → op_value op (zip widths numbers) width < 2 ^ width
value_fits values op widths numbers width typed e h =
    values.operators op (zip widths numbers) width (subst (λ z. IsTypedOp op z width) (sym (firsts-zip widths numbers e)) typed) (inputs_fit widths numbers e h)

-- what holds before one firing of a node
record Before (k : Kind) (old : List Slot) (taken : List (List Token)) : Type 0 where
  ok : KindOk k
  side : SideFits (ins k) taken
  slots : AllByRecursion (SlotFits k) old
  tags : TagsDiffer old

-- the slots stay as they were
still : (k : Kind) (old : List Slot) (taken given : List (List Token)) (new : List Slot) → Before k old taken → new ≡ old → SideFits (outs k) given → Kept k given new
still k old taken given new before same side =
    record { side = side; slots = subst (AllByRecursion (SlotFits k)) (sym same) before.slots; tags = subst TagsDiffer (sym same) before.tags }

fires_fit : ValuesFit → (k : Kind) (choice : ℕ) (old : List Slot) (taken given : List (List Token)) (new : List Slot) → Fires k choice old taken given new → Before k old taken → Kept k given new
fires_fit values (Entry a) choice old taken given new fires before = absurd fires
fires_fit values (Exit a) choice old taken given new fires before = absurd fires
fires_fit values (Buffer a) choice old taken given new (v, z, et, eg, en) before =
    still (Buffer a) old taken given new before en (subst (SideFits (a ∷ [])) (sym eg) (subst (SideFits (a ∷ [])) et before.side))
fires_fit values (Fork a count) choice old taken given new (v, z, et, eg, en) before =
    let h : SideFits (a ∷ []) (one v ∷ []) = subst (SideFits (a ∷ [])) et before.side in
    still (Fork a count) old taken given new before en (subst (SideFits (replicate count a)) (sym eg) (copies_fit count a v h.0.0))
fires_fit values (Join shapes) choice old taken given new (parts, z, el, et, eg, en) before =
    still (Join shapes) old taken given new before en
    (subst (SideFits (concat shapes ∷ [])) (sym eg) ((joined_fits shapes parts el (subst (SideFits shapes) et before.side), tt), tt))
fires_fit values (Split shapes) choice old taken given new (parts, z, fit, et, eg, en) before =
    still (Split shapes) old taken given new before en (subst (SideFits shapes) (sym eg) (cut_fits shapes parts fit))
fires_fit values (Operator op widths width) choice old taken given new (numbers, z, el, et, eg, en) before =
    still (Operator op widths width) old taken given new before en
    (subst (SideFits (field width ∷ [])) (sym eg) (((value_fits values op widths numbers width before.ok el (subst (SideFits (map field widths)) et before.side), tt), tt), tt))
fires_fit values (Constant a width value) choice old taken given new (v, z, et, eg, en) before =
    still (Constant a width value) old taken given new before en
    (subst (SideFits (field width ∷ [])) (sym eg) (((remainder_fits value width, tt), tt), tt))
fires_fit values (Source0 a) choice old taken given new (z, et, eg, en) before =
    still (Source0 a) old taken given new before en (subst (SideFits (a ∷ [])) (sym eg) ((zeros_fit a, tt), tt))
fires_fit values (Sink0 a) choice old taken given new (v, z, et, eg, en) before = still (Sink0 a) old taken given new before en tt
fires_fit values (Pure fun a) choice old taken given new (v, z, et, eg, en) before =
    let h : SideFits (fun.input ∷ []) (one v ∷ []) = subst (SideFits (fun.input ∷ [])) et before.side in
    let fits : Fits a (fun_value fun v) = subst (λ b. Fits b (fun_value fun v)) before.ok.2 (values.functions fun v before.ok.1 h.0.0) in
    still (Pure fun a) old taken given new before en (subst (SideFits (a ∷ [])) (sym eg) ((fits, tt), tt))
fires_fit values (Mux a) choice old taken given new (v, z, selects, eg, en) before =
    still (Mux a) old taken given new before en (subst (SideFits (a ∷ [])) (sym eg) ((selected_fits a v taken selects before.side, tt), tt))
fires_fit values (Branch a) choice old taken given new (v, z, leads, en) before =
    still (Branch a) old taken given new before en (led_fits a v taken given leads before.side)
fires_fit values (Merge a count) choice old taken given new (v, below, et, eg, en) before =
    still (Merge a count) old taken given new before en
    (subst (SideFits (a ∷ [])) (sym eg) ((merged_fits count choice a v below (subst (SideFits (replicate count a)) et before.side), tt), tt))
fires_fit values (CtrlMerge a count width) choice old taken given new (v, below, et, eg, en) before =
    let told : choice < 2 ^ width = omega (arith, below, before.ok.3) in
    still (CtrlMerge a count width) old taken given new before en
    (subst (SideFits (a ∷ field width ∷ [])) (sym eg)
    ((merged_fits count choice a v below (subst (SideFits (replicate count a)) et before.side), tt), (((told, tt), tt), tt)))
fires_fit values (Init value mark) choice old taken given new (v, z, et, eg, en) before =
    still (Init value mark) old taken given new before en (subst (SideFits (field 1 ∷ [])) (sym eg) (subst (SideFits (field 1 ∷ [])) et before.side))
fires_fit values (Tagger a tags) choice old taken given new fires before =
    tagger_fits a tags before.ok.3 choice old taken given new fires before.side before.slots before.tags

acts_kept : ValuesFit → (k : Kind) (l : Label) (old : List Slot) (taken given : List (List Token)) (new : List Slot) → Acts k l old taken given new → Before k old taken → Kept k given new
acts_kept values k (Fire choice) old taken given new acts before = fires_fit values k choice old taken given new acts before
acts_kept values (Entry a) (Feed v) old taken given new (fit, et, eg, en) before =
    still (Entry a) old taken given new before en (subst (SideFits (a ∷ [])) (sym eg) ((fit, tt), tt))
acts_kept values (Exit a) (Take v) old taken given new (et, eg, en) before = still (Exit a) old taken given new before en tt
acts_kept values _ _ old taken given new acts before = absurd acts

pub acts_fit : ValuesFit → (k : Kind) → KindOk k → (l : Label) (old : List Slot) (taken given : List (List Token)) (new : List Slot) → Acts k l old taken given new →
    SideFits (ins k) taken → AllByRecursion (SlotFits k) old → TagsDiffer old → Kept k given new
acts_fit values k ok l old taken given new acts side slots tags =
    acts_kept values k l old taken given new acts (record { ok = ok; side = side; slots = slots; tags = tags })

-- what a wire holds at the start fits the output that feeds it
init_fits : (i value : ℕ) (a : Shape) → value ≤ 1 → port_get (field 1 ∷ []) i ≡ Some a → AllByRecursion (Fits a) (one (single value))
init_fits zero value a few e = let k : None ≡ Some a = e in cc
init_fits (suc zero) value a few e = subst (λ z. AllByRecursion (Fits z) (one (single value))) (same_Some (field 1) a e) ((omega (arith, few), tt), tt)
init_fits (suc (suc i)) value a few e = let k : None ≡ Some a = e in cc

pub initial_fit : (k : Kind) → KindOk k → (i : ℕ) (a : Shape) → port_get (outs k) i ≡ Some a → AllByRecursion (Fits a) (initial (Some k))
initial_fit (Init value mark) ok i a e = init_fits i value a ok.0 e
initial_fit _ ok i a e = tt
