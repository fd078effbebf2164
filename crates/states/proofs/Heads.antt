-- Tokens at the heads of all inputs, and the kinds that take them.
use Rattle.std.proofs.Common.{◌≡◌, ℕ, zero, suc, ◌^◌, ◌%◌, ◌<◌, true, List, [], ◌∷◌, ◌++◌, length, map, replicate, refl, sym, ap, ◌∙◌, arith, inl, inr}
use Rattle.std.specs.List.{concat, zip}
use Rattle.std.proofs.lemmas.Bool.{false≢true}
use Rattle.op_table.specs.Value.{op_value}
use Rattle.port_types.specs.Token.{Fits}
use Rattle.fun_expr.specs.Function.{fun_value}
use Rattle.components.specs.declared.kind.Kind.{Kind}
use Rattle.components.specs.declared.kind.Kind.TheVariants.{Entry, Exit, Buffer, Fork, Join, Split, Operator, Constant, Source0, Sink0, Pure, Mux, Branch, Merge, CtrlMerge, Init, Tagger}
use Rattle.components.specs.Kind.{Shape, field, ins}
use Rattle.circuits.specs.PortTokens.{Token, single, one, at_port}
use Rattle.circuits.specs.CircuitState.{Slot}
use Rattle.circuits.specs.Firing.{FitEach, Fires}
use Rattle.states.specs.Giving.{heads}
use Rattle.states.specs.Ready.{FitQueues, StandAt, are_full}

-- the kinds that take a token of each input
abbrev pub IsEach : Kind → Type 0
IsEach (Entry shape) = ⊥
IsEach (Exit shape) = ⊥
IsEach (Mux shape) = ⊥
IsEach (Merge shape count) = ⊥
IsEach (CtrlMerge shape count width) = ⊥
IsEach (Tagger shape tags) = ⊥
IsEach _ = Unit {0}

-- Heads

pub at_zero : (side : List (List Token)) → at_port side 0 ≡ []
at_zero [] = refl
at_zero (x ∷ side) = refl

pub stand_later : (queue side : List Token) (queues taken : List (List Token)) → StandAt (queue ∷ queues) (side ∷ taken) → StandAt queues taken
stand_later queue side queues taken stand zero = ([], at_zero queues ∙ ap (λ x. x ++ []) (sym (at_zero taken)))
stand_later queue side queues taken stand (suc port) = stand (suc (suc port))

pub stand_each : (queues : List (List Token)) → are_full queues ≡ true → StandAt queues (map one (heads queues))
stand_each [] full port = ([], refl)
stand_each ([] ∷ queues) full port = absurd (false≢true full)
stand_each ((v ∷ queue) ∷ queues) full zero = ([], refl)
stand_each ((v ∷ queue) ∷ queues) full (suc zero) = (queue, refl)
stand_each ((v ∷ queue) ∷ queues) full (suc (suc port)) = stand_each queues full (suc port)

pub full_each : (queues : List (List Token)) (vs : List Token) → length vs ≡ length queues → StandAt queues (map one vs) → are_full queues ≡ true
full_each [] vs count stand = refl
full_each (queue ∷ queues) [] count stand = absurd (omega (arith, count))
full_each ([] ∷ queues) (v ∷ vs) count stand = let e : [] ≡ v ∷ (stand 1).0 = (stand 1).1 in absurd cc
full_each ((w ∷ queue) ∷ queues) (v ∷ vs) count stand =
    full_each queues vs (omega (arith, count)) (stand_later (w ∷ queue) (one v) queues (map one vs) stand)

pub heads_stand : (queues : List (List Token)) (vs : List Token) → length vs ≡ length queues → StandAt queues (map one vs) → heads queues ≡ vs
heads_stand [] [] count stand = refl
heads_stand [] (v ∷ vs) count stand = absurd (omega (arith, count))
heads_stand (queue ∷ queues) [] count stand = absurd (omega (arith, count))
heads_stand ([] ∷ queues) (v ∷ vs) count stand = let e : [] ≡ v ∷ (stand 1).0 = (stand 1).1 in absurd cc
heads_stand ((w ∷ queue) ∷ queues) (v ∷ vs) count stand =
    let e : w ∷ queue ≡ v ∷ (stand 1).0 = (stand 1).1 in
    let first : w ≡ v = cc in
    let rest : heads queues ≡ vs = heads_stand queues vs (omega (arith, count)) (stand_later (w ∷ queue) (one v) queues (map one vs) stand) in
    λ i. first i ∷ rest i

pub heads_fit : (shapes : List Shape) (queues : List (List Token)) → FitQueues shapes queues → are_full queues ≡ true → FitEach shapes (heads queues)
heads_fit [] [] fits full = tt
heads_fit [] (queue ∷ queues) fits full = absurd fits
heads_fit (a ∷ shapes) [] fits full = absurd fits
heads_fit (a ∷ shapes) ([] ∷ queues) fits full = absurd (false≢true full)
heads_fit (a ∷ shapes) ((v ∷ queue) ∷ queues) fits full = (fits.0.0, heads_fit shapes queues fits.1 full)

pub fit_count : (shapes : List Shape) (queues : List (List Token)) → FitQueues shapes queues → length queues ≡ length shapes
fit_count [] [] fits = refl
fit_count [] (queue ∷ queues) fits = absurd fits
fit_count (a ∷ shapes) [] fits = absurd fits
fit_count (a ∷ shapes) (queue ∷ queues) fits = ap suc (fit_count shapes queues fits.1)

pub heads_count : (queues : List (List Token)) → length (heads queues) ≡ length queues
heads_count [] = refl
heads_count (queue ∷ queues) = ap suc (heads_count queues)

pub one_at : (vs : List Token) (input : ℕ) → input < length vs → length (at_port (map one vs) (suc input)) ≡ 1
one_at [] input below = absurd (omega arith)
one_at (v ∷ vs) zero below = refl
one_at (v ∷ vs) (suc input) below = one_at vs input (omega arith)

-- Tokens in parts

-- a token of two shapes, cut
pub record CutAt (a b : Shape) (v : Token) : Type 0 where
  pub front : Token
  pub back : Token
  pub is : front ++ back ≡ v
  pub fits_front : Fits a front
  pub fits_back : Fits b back

pub cut_at : (a b : Shape) (v : Token) → Fits (a ++ b) v → CutAt a b v
cut_at [] b v fits = record { front = []; back = v; is = refl; fits_front = tt; fits_back = fits }
cut_at (width ∷ a) b [] fits = absurd fits
cut_at (width ∷ a) b (number ∷ v) fits =
    let rest = cut_at a b v fits.1 in
    record { front = number ∷ rest.front; back = rest.back; is = ap (λ x. number ∷ x) rest.is; fits_front = (fits.0, rest.fits_front); fits_back = rest.fits_back }

-- a token of all the shapes, in parts
pub record PartsOf (shapes : List Shape) (v : Token) : Type 0 where
  pub parts : List Token
  pub fit : FitEach shapes parts
  pub is : concat parts ≡ v

pub parts_of : (shapes : List Shape) (v : Token) → Fits (concat shapes) v → PartsOf shapes v
parts_of [] [] fits = record { parts = []; fit = tt; is = refl }
parts_of [] (number ∷ v) fits = absurd fits
parts_of (a ∷ shapes) v fits =
    let cut = cut_at a (concat shapes) v fits in
    let rest = parts_of shapes cut.back cut.fits_back in
    record { parts = cut.front ∷ rest.parts; fit = (cut.fits_front, rest.fit); is = ap (λ x. cut.front ++ x) rest.is ∙ cut.is }

-- tokens of one field each
pub record NumbersOf (widths : List ℕ) (vs : List Token) : Type 0 where
  pub numbers : List ℕ
  pub is : vs ≡ map single numbers
  pub count : length numbers ≡ length widths

pub numbers_of : (widths : List ℕ) (vs : List Token) → FitEach (map field widths) vs → NumbersOf widths vs
numbers_of [] [] fit = record { numbers = []; is = refl; count = refl }
numbers_of [] (v ∷ vs) fit = absurd fit
numbers_of (width ∷ widths) [] fit = absurd fit
numbers_of (width ∷ widths) ([] ∷ vs) fit = absurd fit.0
numbers_of (width ∷ widths) ((number ∷ []) ∷ vs) fit =
    let rest = numbers_of widths vs fit.1 in
    record { numbers = number ∷ rest.numbers; is = ap (λ x. single number ∷ x) rest.is; count = ap suc rest.count }
numbers_of (width ∷ widths) ((number ∷ m ∷ v) ∷ vs) fit = absurd fit.0.1

pub ones_singles : (numbers : List ℕ) → map one (map single numbers) ≡ map (λ n. one (single n)) numbers
ones_singles [] = refl
ones_singles (n ∷ numbers) = ap (λ x. one (single n) ∷ x) (ones_singles numbers)

-- the token of the only input
pub record LoneOf (shape : Shape) (vs : List Token) : Type 0 where
  pub token : Token
  pub is : vs ≡ token ∷ []
  pub fits : Fits shape token

pub lone_of : (shape : Shape) (vs : List Token) → FitEach (shape ∷ []) vs → LoneOf shape vs
lone_of shape [] fit = absurd fit
lone_of shape (v ∷ []) fit = record { token = v; is = refl; fits = fit.0 }
lone_of shape (v ∷ w ∷ vs) fit = absurd fit.1

-- Firings

-- what a node gives, and the firing
pub record FiresEach (kind : Kind) (slots : List Slot) (vs : List Token) : Type 0 where
  pub given : List (List Token)
  pub fires : Fires kind 0 slots (map one vs) given slots

lone_taken : (shape : Shape) (vs : List Token) (l : LoneOf shape vs) → map one vs ≡ one l.token ∷ []
lone_taken shape vs l = ap (map one) l.is

branch_each : (shape : Shape) (slots : List Slot) (vs : List Token) → FitEach (shape ∷ field 1 ∷ []) vs → FiresEach (Branch shape) slots vs
branch_each shape slots [] fit = absurd fit
branch_each shape slots (v ∷ []) fit = absurd fit.1
branch_each shape slots (v ∷ [] ∷ vs) fit = absurd fit.1.0
branch_each shape slots (v ∷ (zero ∷ []) ∷ []) fit = record { given = [] ∷ one v ∷ []; fires = (v, refl, inr (refl, refl), refl) }
branch_each shape slots (v ∷ (suc zero ∷ []) ∷ []) fit = record { given = one v ∷ []; fires = (v, refl, inl (refl, refl), refl) }
branch_each shape slots (v ∷ (suc (suc n) ∷ []) ∷ []) fit = let below : suc (suc n) < 2 ^ 1 = fit.1.0.0 in absurd (omega arith)
branch_each shape slots (v ∷ (n ∷ m ∷ w) ∷ vs) fit = absurd fit.1.0.1
branch_each shape slots (v ∷ (n ∷ []) ∷ u ∷ vs) fit = absurd fit.1.1

pub fires_each : (kind : Kind) (slots : List Slot) (vs : List Token) → IsEach kind → FitEach (ins kind) vs → FiresEach kind slots vs
fires_each (Buffer shape) slots vs each fit = let l = lone_of shape vs fit in record { given = one l.token ∷ []; fires = (l.token, refl, lone_taken shape vs l, refl, refl) }
fires_each (Fork shape count) slots vs each fit = let l = lone_of shape vs fit in record { given = replicate count (one l.token); fires = (l.token, refl, lone_taken shape vs l, refl, refl) }
fires_each (Join shapes) slots vs each fit = record { given = one (concat vs) ∷ []; fires = (vs, refl, count shapes vs fit, refl, refl, refl) }
  where
    count : (cs : List Shape) (ws : List Token) → FitEach cs ws → length ws ≡ length cs
    count [] [] h = refl
    count [] (w ∷ ws) h = absurd h
    count (c ∷ cs) [] h = absurd h
    count (c ∷ cs) (w ∷ ws) h = ap suc (count cs ws h.1)
fires_each (Split shapes) slots vs each fit =
    let l = lone_of (concat shapes) vs fit in
    let p = parts_of shapes l.token l.fits in
    record { given = map one p.parts; fires = (p.parts, refl, p.fit, lone_taken (concat shapes) vs l ∙ ap (λ v. one v ∷ []) (sym p.is), refl, refl) }
fires_each (Operator op widths width) slots vs each fit =
    let ns = numbers_of widths vs fit in
    record { given = one (single (op_value op (zip widths ns.numbers) width)) ∷ []; fires = (ns.numbers, refl, ns.count, ap (map one) ns.is ∙ ones_singles ns.numbers, refl, refl) }
fires_each (Constant shape width value) slots vs each fit = let l = lone_of shape vs fit in record { given = one (single (value % 2 ^ width)) ∷ []; fires = (l.token, refl, lone_taken shape vs l, refl, refl) }
fires_each (Source0 shape) slots [] each fit = record { given = one (map (λ width. 0) shape) ∷ []; fires = (refl, refl, refl, refl) }
fires_each (Source0 shape) slots (v ∷ vs) each fit = absurd fit
fires_each (Sink0 shape) slots vs each fit = let l = lone_of shape vs fit in record { given = []; fires = (l.token, refl, lone_taken shape vs l, refl, refl) }
fires_each (Pure fun shape) slots vs each fit = let l = lone_of fun.input vs fit in record { given = one (fun_value fun l.token) ∷ []; fires = (l.token, refl, lone_taken fun.input vs l, refl, refl) }
fires_each (Branch shape) slots vs each fit = branch_each shape slots vs fit
fires_each (Init value mark) slots vs each fit = let l = lone_of (field 1) vs fit in record { given = one l.token ∷ []; fires = (l.token, refl, lone_taken (field 1) vs l, refl, refl) }
fires_each (Entry shape) slots vs each fit = absurd each
fires_each (Exit shape) slots vs each fit = absurd each
fires_each (Mux shape) slots vs each fit = absurd each
fires_each (Merge shape count) slots vs each fit = absurd each
fires_each (CtrlMerge shape count width) slots vs each fit = absurd each
fires_each (Tagger shape tags) slots vs each fit = absurd each

-- each firing takes one token of each input
pub record TakesEach (kind : Kind) (choice : ℕ) (taken : List (List Token)) : Type 0 where
  pub vs : List Token
  pub first : choice ≡ 0
  pub count : length vs ≡ length (ins kind)
  pub is : taken ≡ map one vs

takes_one : (kind : Kind) (choice : ℕ) (taken : List (List Token)) (v : Token) → length (ins kind) ≡ 1 → choice ≡ 0 → taken ≡ one v ∷ [] → TakesEach kind choice taken
takes_one kind choice taken v count first is = record { vs = v ∷ []; first = first; count = sym count; is = is }

length_map : {A B : Type 0} (f : A → B) (xs : List A) → length (map f xs) ≡ length xs
length_map f [] = refl
length_map f (x ∷ xs) = ap suc (length_map f xs)

pub takes_each : (kind : Kind) (choice : ℕ) (old : List Slot) (taken given : List (List Token)) (new : List Slot) → IsEach kind → Fires kind choice old taken given new → TakesEach kind choice taken
takes_each (Buffer shape) choice old taken given new each (v, z, t, g, n) = takes_one (Buffer shape) choice taken v refl z t
takes_each (Fork shape count) choice old taken given new each (v, z, t, g, n) = takes_one (Fork shape count) choice taken v refl z t
takes_each (Join shapes) choice old taken given new each (parts, z, l, t, g, n) = record { vs = parts; first = z; count = l; is = t }
takes_each (Split shapes) choice old taken given new each (parts, z, f, t, g, n) = takes_one (Split shapes) choice taken (concat parts) refl z t
takes_each (Operator op widths width) choice old taken given new each (numbers, z, l, t, g, n) =
    record { vs = map single numbers; first = z; count = length_map single numbers ∙ l ∙ sym (length_map field widths); is = t ∙ sym (ones_singles numbers) }
takes_each (Constant shape width value) choice old taken given new each (v, z, t, g, n) = takes_one (Constant shape width value) choice taken v refl z t
takes_each (Source0 shape) choice old taken given new each (z, t, g, n) = record { vs = []; first = z; count = refl; is = t }
takes_each (Sink0 shape) choice old taken given new each (v, z, t, g, n) = takes_one (Sink0 shape) choice taken v refl z t
takes_each (Pure fun shape) choice old taken given new each (v, z, t, g, n) = takes_one (Pure fun shape) choice taken v refl z t
takes_each (Branch shape) choice old taken given new each (v, z, inl e, n) = record { vs = v ∷ single 1 ∷ []; first = z; count = refl; is = e.0 }
takes_each (Branch shape) choice old taken given new each (v, z, inr e, n) = record { vs = v ∷ single 0 ∷ []; first = z; count = refl; is = e.0 }
takes_each (Init value mark) choice old taken given new each (v, z, t, g, n) = takes_one (Init value mark) choice taken v refl z t
takes_each (Entry shape) choice old taken given new each fires = absurd each
takes_each (Exit shape) choice old taken given new each fires = absurd each
takes_each (Mux shape) choice old taken given new each fires = absurd each
takes_each (Merge shape count) choice old taken given new each fires = absurd each
takes_each (CtrlMerge shape count width) choice old taken given new each fires = absurd each
takes_each (Tagger shape tags) choice old taken given new each fires = absurd each
