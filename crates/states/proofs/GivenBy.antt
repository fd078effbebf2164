-- What a node gives and what becomes of its slots are what its row says.
use Rattle.std.proofs.Common.{◌≡◌, ◌≢◌, inl, inr, ℕ, zero, suc, false, List, [], ◌∷◌, ◌++◌, length, map, take, drop, replicate, Some, nat_eq, cond, refl, sym, ap, subst, ◌∙◌, arith}
use Rattle.std.specs.List.{AllByRecursion, concat, zip}
use Rattle.std.proofs.Math.Seq.{drop-append_seam, take-append_seam}
use Rattle.std.proofs.lemmas.Bool.Decides.{nat_tests}
use Rattle.op_table.specs.Value.{op_value}
use Rattle.port_types.specs.Token.{Fits}
use Rattle.components.specs.declared.kind.Kind.{Kind}
use Rattle.components.specs.declared.kind.Kind.TheVariants.{Entry, Exit, Buffer, Fork, Join, Split, Operator, Constant, Source0, Sink0, Pure, Mux, Branch, Merge, CtrlMerge, Init, Tagger}
use Rattle.components.specs.Kind.{Shape, field}
use Rattle.circuits.specs.PortTokens.{Token, at_port, one, single}
use Rattle.circuits.specs.CircuitState.{Slot, TagsDiffer}
use Rattle.circuits.specs.Firing.{FitEach, FiresBranch, Selects, finished, one_behind, waiting}
use Rattle.states.specs.Giving.{applied, branch_by, change_of, changed_slots, cut_parts, finish_of, finish_slot, given_of, head_numbers, head_of, heads, input_by, mux_input, oldest_given, sides_of}
use Rattle.states.specs.Place.{PlaceValue, queue_at}
use Rattle.states.specs.Ready.{CanFire, IsPlaceOf, StandAt, head_number}
use Rattle.states.proofs.Heads.{fit_count, heads_stand}
use Rattle.states.proofs.Lists.{nat_same, field_count}
use Rattle.states.proofs.Queues.{port_queue}

-- what is given, and the slots after
abbrev pub Gives : (kind : Kind) (choice : ℕ) (place : PlaceValue) → CanFire kind choice place → Type 0
Gives kind choice place can = (sides_of (given_of kind choice place) ≡ can.given) × (changed_slots (change_of kind choice place) place.slots ≡ can.new)

-- a token that is taken is at the head
taken_there : (queues taken : List (List Token)) (input : ℕ) (v : Token) (stand : StandAt queues taken) → at_port taken (suc input) ≡ one v → queue_at queues input ≡ v ∷ (stand (suc input)).0
taken_there queues taken input v stand is = sym (port_queue queues input) ∙ (stand (suc input)).1 ∙ ap (λ x. x ++ (stand (suc input)).0) is

taken_head : (queues taken : List (List Token)) (input : ℕ) (v : Token) → StandAt queues taken → at_port taken (suc input) ≡ one v → head_of (queue_at queues input) ≡ v
taken_head queues taken input v stand is = ap head_of (taken_there queues taken input v stand is)

-- Families of kinds

lone_given : (queues taken given : List (List Token)) (v : Token) → StandAt queues taken → taken ≡ one v ∷ [] → given ≡ one v ∷ [] → one (head_of (queue_at queues 0)) ∷ [] ≡ given
lone_given queues taken given v stand t g = ap (λ x. one x ∷ []) (taken_head queues taken 0 v stand (ap (λ x. at_port x 1) t)) ∙ sym g

copied_sides : (count : ℕ) (v : Token) → sides_of (replicate count (Some v)) ≡ replicate count (one v)
copied_sides zero v = refl
copied_sides (suc count) v = ap (λ x. one v ∷ x) (copied_sides count v)

some_sides : (vs : List Token) → sides_of (map (λ v. Some v) vs) ≡ map one vs
some_sides [] = refl
some_sides (v ∷ vs) = ap (λ x. one v ∷ x) (some_sides vs)

fits_count : (shape : Shape) (v : Token) → Fits shape v → length v ≡ length shape
fits_count [] [] fits = refl
fits_count [] (n ∷ v) fits = absurd fits
fits_count (w ∷ shape) [] fits = absurd fits
fits_count (w ∷ shape) (n ∷ v) fits = ap suc (fits_count shape v fits.1)

cut_concat : (shapes : List Shape) (parts : List Token) → FitEach shapes parts → cut_parts shapes (concat parts) ≡ parts
cut_concat [] [] fit = refl
cut_concat [] (v ∷ vs) fit = absurd fit
cut_concat (a ∷ shapes) [] fit = absurd fit
cut_concat (a ∷ shapes) (v ∷ vs) fit =
    let count = fits_count a v fit.0 in
    let front : take (length a) (v ++ concat vs) ≡ v = ap (λ k. take k (v ++ concat vs)) (sym count) ∙ take-append_seam v (concat vs) in
    let back : drop (length a) (v ++ concat vs) ≡ concat vs = ap (λ k. drop k (v ++ concat vs)) (sym count) ∙ drop-append_seam v (concat vs) in
    let rest : cut_parts shapes (drop (length a) (v ++ concat vs)) ≡ vs = ap (cut_parts shapes) back ∙ cut_concat shapes vs fit.1 in
    λ i. front i ∷ rest i

each_count : (shapes : List Shape) (parts : List Token) → FitEach shapes parts → length parts ≡ length shapes
each_count [] [] fit = refl
each_count [] (v ∷ vs) fit = absurd fit
each_count (a ∷ shapes) [] fit = absurd fit
each_count (a ∷ shapes) (v ∷ vs) fit = ap suc (each_count shapes vs fit.1)

-- the first number of a token
abbrev first_of : Token → ℕ
first_of [] = 0
first_of (n ∷ v) = n

numbers_as_heads : (queues : List (List Token)) → head_numbers queues ≡ map first_of (heads queues)
numbers_as_heads [] = refl
numbers_as_heads ([] ∷ queues) = ap (λ x. 0 ∷ x) (numbers_as_heads queues)
numbers_as_heads (([] ∷ queue) ∷ queues) = ap (λ x. 0 ∷ x) (numbers_as_heads queues)
numbers_as_heads (((n ∷ v) ∷ queue) ∷ queues) = ap (λ x. n ∷ x) (numbers_as_heads queues)

firsts : (numbers : List ℕ) → map first_of (map single numbers) ≡ numbers
firsts [] = refl
firsts (n ∷ numbers) = ap (λ x. n ∷ x) (firsts numbers)

singles : (numbers : List ℕ) → map (λ n. one (single n)) numbers ≡ map one (map single numbers)
singles [] = refl
singles (n ∷ numbers) = ap (λ x. one (single n) ∷ x) (singles numbers)

single_count : (numbers : List ℕ) → length (map single numbers) ≡ length numbers
single_count [] = refl
single_count (n ∷ numbers) = ap suc (single_count numbers)

operator_numbers : (widths numbers : List ℕ) (queues taken : List (List Token)) → length queues ≡ length (map field widths) → StandAt queues taken → length numbers ≡ length widths →
    taken ≡ map (λ n. one (single n)) numbers → head_numbers queues ≡ numbers
operator_numbers widths numbers queues taken inputs stand count t =
    let vs = map single numbers in
    let inside : StandAt queues (map one vs) = subst (StandAt queues) (t ∙ singles numbers) stand in
    numbers_as_heads queues ∙ ap (map first_of) (heads_stand queues vs (single_count numbers ∙ count ∙ sym (field_count widths) ∙ sym inputs) inside) ∙ firsts numbers

mux_given : (queues taken : List (List Token)) (v : Token) → StandAt queues taken → Selects v taken → head_of (queue_at queues (mux_input queues)) ≡ v
mux_given queues taken v stand (inl t) =
    let select : mux_input queues ≡ 1 = ap (λ q. input_by (head_number q)) (taken_there queues taken 0 (single 0) stand (ap (λ x. at_port x 1) t)) in
    ap (λ i. head_of (queue_at queues i)) select ∙ taken_head queues taken 1 v stand (ap (λ x. at_port x 2) t)
mux_given queues taken v stand (inr t) =
    let select : mux_input queues ≡ 2 = ap (λ q. input_by (head_number q)) (taken_there queues taken 0 (single 1) stand (ap (λ x. at_port x 1) t)) in
    ap (λ i. head_of (queue_at queues i)) select ∙ taken_head queues taken 2 v stand (ap (λ x. at_port x 3) t)

branch_sides : (queues taken given : List (List Token)) (v : Token) → StandAt queues taken → FiresBranch v taken given → sides_of (branch_by (head_of (queue_at queues 1)) (head_of (queue_at queues 0))) ≡ given
branch_sides queues taken given v stand (inl (t, g)) =
    let token = taken_head queues taken 0 v stand (ap (λ x. at_port x 1) t) in
    let test = taken_head queues taken 1 (single 1) stand (ap (λ x. at_port x 2) t) in
    (λ i. sides_of (branch_by (test i) (token i))) ∙ sym g
branch_sides queues taken given v stand (inr (t, g)) =
    let token = taken_head queues taken 0 v stand (ap (λ x. at_port x 1) t) in
    let test = taken_head queues taken 1 (single 0) stand (ap (λ x. at_port x 2) t) in
    (λ i. sides_of (branch_by (test i) (token i))) ∙ sym g

one_there : (choice : ℕ) (v : Token) → at_port (one_behind choice v) (suc choice) ≡ one v
one_there zero v = refl
one_there (suc choice) v = one_there choice v

merge_head : (queues taken : List (List Token)) (choice : ℕ) (v : Token) → StandAt queues taken → taken ≡ one_behind choice v → head_of (queue_at queues choice) ≡ v
merge_head queues taken choice v stand t = taken_head queues taken choice v stand (ap (λ x. at_port x (suc choice)) t ∙ one_there choice v)

-- A Tagger

inside_all : (P : Slot → Type 0) (older newer : List Slot) (slot : Slot) → AllByRecursion P (older ++ slot ∷ newer) → P slot
inside_all P [] newer slot all = all.0
inside_all P (s ∷ older) newer slot all = inside_all P older newer slot all.1

nat_other : (i j : ℕ) → j ≢ i → nat_eq i j ≡ false
nat_other i j other = grind (arith, nat_tests)

finish_there : (older newer : List Slot) (tag : ℕ) (v : Token) → TagsDiffer (older ++ waiting tag ∷ newer) → finish_slot tag v (older ++ waiting tag ∷ newer) ≡ older ++ finished tag v ∷ newer
finish_there [] newer tag v differ = ap (λ b. cond b (finished tag v ∷ newer) (waiting tag ∷ finish_slot tag v newer)) (nat_same tag)
finish_there (s ∷ older) newer tag v differ =
    let other : tag ≢ s.tag = inside_all (λ slot. slot.tag ≢ s.tag) older newer (waiting tag) differ.0 in
    ap (λ b. cond b (finished s.tag v ∷ older ++ waiting tag ∷ newer) (s ∷ finish_slot tag v (older ++ waiting tag ∷ newer))) (nat_other s.tag tag other)
    ∙ ap (λ x. s ∷ x) (finish_there older newer tag v differ.1)

tagger_gives : (shape : Shape) (tags choice : ℕ) (place : PlaceValue) → TagsDiffer place.slots → (can : CanFire (Tagger shape tags) choice place) → Gives (Tagger shape tags) choice place can
tagger_gives shape tags zero place differ can =
    let (tag, v, o, t, g) = can.fires in
    (ap (λ s. sides_of (oldest_given s)) o ∙ sym g, ap (drop 1) o)
tagger_gives shape tags (suc zero) place differ can =
    let (tag, v, older, newer, o, n, t, g) = can.fires in
    let result : finish_of (queue_at place.queues 1) ≡ finish_of ((tag ∷ v) ∷ (can.stand 2).0) = ap finish_of (taken_there place.queues can.taken 1 (tag ∷ v) can.stand (ap (λ x. at_port x 2) t)) in (
      sym g,
      ap (λ c. changed_slots c place.slots) result ∙ ap (finish_slot tag v) o ∙ finish_there older newer tag v (subst TagsDiffer o differ) ∙ sym n,
    )
tagger_gives shape tags (suc (suc tag)) place differ can =
    let (v, below, unused, n, t, g) = can.fires in
    (ap (λ x. one (tag ∷ x) ∷ []) (taken_head place.queues can.taken 0 v can.stand (ap (λ x. at_port x 1) t)) ∙ sym g, sym n)

-- All kinds

pub given_by : (kind : Kind) (choice : ℕ) (place : PlaceValue) → IsPlaceOf kind place → (can : CanFire kind choice place) → Gives kind choice place can
given_by (Entry shape) choice place is can = absurd can.fires
given_by (Exit shape) choice place is can = absurd can.fires
given_by (Buffer shape) choice place is can = let (v, z, t, g, n) = can.fires in (lone_given place.queues can.taken can.given v can.stand t g, sym n)
given_by (Fork shape count) choice place is can =
    let (v, z, t, g, n) = can.fires in
    (ap (λ x. sides_of (replicate count (Some x))) (taken_head place.queues can.taken 0 v can.stand (ap (λ x. at_port x 1) t)) ∙ copied_sides count v ∙ sym g, sym n)
given_by (Join shapes) choice place is can =
    let (parts, z, l, t, g, n) = can.fires in
    let inputs = fit_count shapes place.queues is.fits in
    (ap (λ x. one (concat x) ∷ []) (heads_stand place.queues parts (l ∙ sym inputs) (subst (StandAt place.queues) t can.stand)) ∙ sym g, sym n)
given_by (Split shapes) choice place is can =
    let (parts, z, f, t, g, n) = can.fires in (
      ap (λ x. sides_of (map (λ v. Some v) (cut_parts shapes x))) (taken_head place.queues can.taken 0 (concat parts) can.stand (ap (λ x. at_port x 1) t))
          ∙ ap (λ x. sides_of (map (λ v. Some v) x)) (cut_concat shapes parts f) ∙ some_sides parts ∙ sym g,
      sym n,
    )
given_by (Operator op widths width) choice place is can =
    let (numbers, z, l, t, g, n) = can.fires in
    let inputs = fit_count (map field widths) place.queues is.fits in
    (ap (λ x. one (single (op_value op (zip widths x) width)) ∷ []) (operator_numbers widths numbers place.queues can.taken inputs can.stand l t) ∙ sym g, sym n)
given_by (Constant shape width value) choice place is can = let (v, z, t, g, n) = can.fires in (sym g, sym n)
given_by (Source0 shape) choice place is can = let (z, t, g, n) = can.fires in (sym g, sym n)
given_by (Sink0 shape) choice place is can = let (v, z, t, g, n) = can.fires in (sym g, sym n)
given_by (Pure fun shape) choice place is can =
    let (v, z, t, g, n) = can.fires in
    (ap (λ q. one (applied fun q) ∷ []) (taken_there place.queues can.taken 0 v can.stand (ap (λ x. at_port x 1) t)) ∙ sym g, sym n)
given_by (Mux shape) choice place is can =
    let (v, z, t, g, n) = can.fires in
    (ap (λ x. one x ∷ []) (mux_given place.queues can.taken v can.stand t) ∙ sym g, sym n)
given_by (Branch shape) choice place is can = let (v, z, f, n) = can.fires in (branch_sides place.queues can.taken can.given v can.stand f, sym n)
given_by (Merge shape count) choice place is can =
    let (v, b, t, g, n) = can.fires in
    (ap (λ x. one x ∷ []) (merge_head place.queues can.taken choice v can.stand t) ∙ sym g, sym n)
given_by (CtrlMerge shape count width) choice place is can =
    let (v, b, t, g, n) = can.fires in
    (ap (λ x. one x ∷ one (single choice) ∷ []) (merge_head place.queues can.taken choice v can.stand t) ∙ sym g, sym n)
given_by (Init value mark) choice place is can = let (v, z, t, g, n) = can.fires in (lone_given place.queues can.taken can.given v can.stand t g, sym n)
given_by (Tagger shape tags) choice place is can = tagger_gives shape tags choice place is.tags can
