-- What a node gives: each firing that takes tokens of its shapes gives just this, and it fits.
use Rattle.std.proofs.Common.{◌≡◌, ℕ, zero, suc, ◌^◌, ◌%◌, ◌<◌, List, [], ◌∷◌, map, length, replicate, refl, ap, sym, ◌∙◌, subst}
use Rattle.std.specs.List.{concat, zip}
use Rattle.std.proofs.lemmas.Nat.{pow_pos, mod_below}
use Rattle.std.proofs.lemmas.List.Elements.{All-from_recursion}
use Rattle.op_table.specs.Operator.{IsTypedOp}
use Rattle.op_table.specs.Value.{op_value, widths_of, InputsFit}
use Rattle.op_table.specs.Laws.{ValueFits}
use Rattle.fun_expr.specs.Laws.{FunValueFits}
use Rattle.port_types.specs.Token.{Fits}
use Rattle.components.specs.declared.kind.Kind.TheVariants.{Entry, Exit, Buffer, Fork, Join, Split, Operator, Constant, Source0, Sink0, Pure, Mux, Branch, Merge, CtrlMerge, Init, Tagger}
use Rattle.components.specs.Kind.{Shape, field, ins, outs}
use Rattle.circuits.specs.PortTokens.{Token, single, one}
use Rattle.circuits.specs.Firing.{FitEach}
use Rattle.fun_expr.specs.Each.{Each}
use Rattle.fun_expr.specs.Function.{fun_value}
use Rattle.components.specs.declared.kind.Kind.{Kind}
use Rattle.loop_body.specs.BodyKind.{MayStand, FiresOnce}
use Rattle.loop_body.specs.BodyFunction.{cut}
use Rattle.loop_body.proofs.Lists.{ones_inj, fits_concat, cut_fits, concat-cut, cut-concat}

-- the token of the only input
abbrev pub only : List Token → Token
only [] = []
only (v ∷ vs) = v

-- the number of a token of one field
abbrev pub number_of : Token → ℕ
number_of [] = 0
number_of (n ∷ v) = n

abbrev pub gives : Kind → List Token → List Token
gives (Buffer shape) taken = only taken ∷ []
gives (Fork shape count) taken = replicate count (only taken)
gives (Join shapes) taken = concat taken ∷ []
gives (Split shapes) taken = cut shapes (only taken)
gives (Operator op widths width) taken = single (op_value op (zip widths (map number_of taken)) width) ∷ []
gives (Constant shape width value) taken = single (value % 2 ^ width) ∷ []
gives (Source0 shape) taken = map (λ width. 0) shape ∷ []
gives (Pure f shape) taken = fun_value f (only taken) ∷ []
gives _ taken = []

-- one token
pub record Lone (shape : Shape) (taken : List Token) : Type 0 where
  pub token : Token
  pub is : taken ≡ token ∷ []
  pub fits : Fits shape token

pub lone : (shape : Shape) (taken : List Token) → FitEach (shape ∷ []) taken → Lone shape taken
lone shape [] h = absurd h
lone shape (v ∷ []) h = record { token = v; is = refl; fits = h.0 }
lone shape (v ∷ w ∷ vs) h = absurd h.1

-- tokens of one field each
pub record Numbers (widths : List ℕ) (taken : List Token) : Type 0 where
  pub numbers : List ℕ
  pub is : taken ≡ map single numbers
  pub count : length numbers ≡ length widths

one_number : (width : ℕ) (v : Token) → Fits (field width) v → v ≡ single (number_of v)
one_number width [] h = absurd h
one_number width (n ∷ []) h = refl
one_number width (n ∷ m ∷ v) h = absurd h.1

pub numbers : (widths : List ℕ) (taken : List Token) → FitEach (map field widths) taken → Numbers widths taken
numbers [] [] h = record { numbers = []; is = refl; count = refl }
numbers [] (v ∷ vs) h = absurd h
numbers (w ∷ widths) [] h = absurd h
numbers (w ∷ widths) (v ∷ vs) h =
    let rest = numbers widths vs h.1 in
    record {
      numbers = number_of v ∷ rest.numbers;
      is = ap (λ x. x ∷ vs) (one_number w v h.0) ∙ ap (λ xs. single (number_of v) ∷ xs) rest.is;
      count = ap suc rest.count;
    }

numbers-singles : (ns : List ℕ) → map number_of (map single ns) ≡ ns
numbers-singles [] = refl
numbers-singles (n ∷ ns) = ap (λ xs. n ∷ xs) (numbers-singles ns)

ones-singles : (ns : List ℕ) → map one (map single ns) ≡ map (λ n. one (single n)) ns
ones-singles [] = refl
ones-singles (n ∷ ns) = ap (λ xs. one (single n) ∷ xs) (ones-singles ns)

ones-replicate : (count : ℕ) (v : Token) → map one (replicate count v) ≡ replicate count (one v)
ones-replicate zero v = refl
ones-replicate (suc count) v = ap (λ xs. one v ∷ xs) (ones-replicate count v)

fit_length : (shapes : List Shape) (parts : List Token) → FitEach shapes parts → length parts ≡ length shapes
fit_length [] [] h = refl
fit_length [] (v ∷ vs) h = absurd h
fit_length (a ∷ shapes) [] h = absurd h
fit_length (a ∷ shapes) (v ∷ vs) h = ap suc (fit_length shapes vs h.1)

-- it fires so
fires_only : (taken : List Token) (shape : Shape) (l : Lone shape taken) → map one taken ≡ one (only taken) ∷ []
fires_only taken shape l = ap (map one) l.is ∙ ap (λ v. one v ∷ []) (sym (ap only l.is))

pub node_fires : (node : Kind) (taken : List Token) → MayStand node → FitEach (ins node) taken → FiresOnce node taken (gives node taken)
node_fires (Buffer shape) taken ok fit = (only taken, refl, fires_only taken shape (lone shape taken fit), refl, refl)
node_fires (Fork shape count) taken ok fit = (only taken, refl, fires_only taken shape (lone shape taken fit), ones-replicate count (only taken), refl)
node_fires (Join shapes) taken ok fit = (taken, refl, fit_length shapes taken fit, refl, refl, refl)
node_fires (Split shapes) taken ok fit =
    let l = lone (concat shapes) taken fit in
    let fits : Fits (concat shapes) (only taken) = subst (Fits (concat shapes)) (sym (ap only l.is)) l.fits in (
      cut shapes (only taken),
      refl,
      cut_fits shapes (only taken) fits,
      fires_only taken (concat shapes) l ∙ ap (λ v. one v ∷ []) (sym (concat-cut shapes (only taken) fits)),
      refl,
      refl,
    )
node_fires (Operator op widths width) taken ok fit =
    let ns = numbers widths taken fit in (
      ns.numbers,
      refl,
      ns.count,
      ap (map one) ns.is ∙ ones-singles ns.numbers,
      ap (λ xs. one (single (op_value op (zip widths xs) width)) ∷ []) (ap (map number_of) ns.is ∙ numbers-singles ns.numbers),
      refl,
    )
node_fires (Constant shape width value) taken ok fit = (only taken, refl, fires_only taken shape (lone shape taken fit), refl, refl)
node_fires (Source0 shape) [] ok fit = (refl, refl, refl, refl)
node_fires (Source0 shape) (v ∷ vs) ok fit = absurd fit
node_fires (Sink0 shape) taken ok fit = (only taken, refl, fires_only taken shape (lone shape taken fit), refl, refl)
node_fires (Pure f shape) taken ok fit = (only taken, refl, fires_only taken f.input (lone f.input taken fit), refl, refl)
node_fires (Entry shape) taken ok fit = absurd ok.0
node_fires (Exit shape) taken ok fit = absurd ok.0
node_fires (Mux shape) taken ok fit = absurd ok.0
node_fires (Branch shape) taken ok fit = absurd ok.0
node_fires (Merge shape count) taken ok fit = absurd ok.0
node_fires (CtrlMerge shape count width) taken ok fit = absurd ok.0
node_fires (Init value mark) taken ok fit = absurd ok.0
node_fires (Tagger shape tags) taken ok fit = absurd ok.0

-- and no other
none_given : (given : List Token) → map one given ≡ [] → given ≡ []
none_given [] h = refl
none_given (v ∷ vs) h = absurd cc

taken_only : (taken : List Token) (v : Token) → map one taken ≡ one v ∷ [] → only taken ≡ v
taken_only taken v h = ap only (ones_inj taken (v ∷ []) h)

pub node_once : (node : Kind) (taken given : List Token) → MayStand node → FitEach (ins node) taken → FiresOnce node taken given → given ≡ gives node taken
node_once (Buffer shape) taken given ok fit (v, _, t, g, _) = ones_inj given (v ∷ []) g ∙ ap (λ x. x ∷ []) (sym (taken_only taken v t))
node_once (Fork shape count) taken given ok fit (v, _, t, g, _) =
    ones_inj given (replicate count v) (g ∙ sym (ones-replicate count v)) ∙ ap (replicate count) (sym (taken_only taken v t))
node_once (Join shapes) taken given ok fit (parts, _, _, t, g, _) =
    ones_inj given (concat parts ∷ []) g ∙ ap (λ xs. concat xs ∷ []) (sym (ones_inj taken parts t))
node_once (Split shapes) taken given ok fit (parts, _, fits, t, g, _) =
    ones_inj given parts g ∙ sym (cut-concat shapes parts fits) ∙ ap (cut shapes) (sym (taken_only taken (concat parts) t))
node_once (Operator op widths width) taken given ok fit (ns, _, _, t, g, _) =
    let same : taken ≡ map single ns = ones_inj taken (map single ns) (t ∙ sym (ones-singles ns)) in
    ones_inj given (single (op_value op (zip widths ns) width) ∷ []) g ∙
    ap (λ xs. single (op_value op (zip widths xs) width) ∷ []) (sym (ap (map number_of) same ∙ numbers-singles ns))
node_once (Constant shape width value) taken given ok fit (v, _, t, g, _) = ones_inj given (single (value % 2 ^ width) ∷ []) g
node_once (Source0 shape) taken given ok fit (_, t, g, _) = ones_inj given (map (λ width. 0) shape ∷ []) g
node_once (Sink0 shape) taken given ok fit (v, _, t, g, _) = none_given given g
node_once (Pure f shape) taken given ok fit (v, _, t, g, _) =
    ones_inj given (fun_value f v ∷ []) g ∙ ap (λ x. fun_value f x ∷ []) (sym (taken_only taken v t))
node_once (Entry shape) taken given ok fit fires = absurd ok.0
node_once (Exit shape) taken given ok fit fires = absurd ok.0
node_once (Mux shape) taken given ok fit fires = absurd ok.0
node_once (Branch shape) taken given ok fit fires = absurd ok.0
node_once (Merge shape count) taken given ok fit fires = absurd ok.0
node_once (CtrlMerge shape count width) taken given ok fit fires = absurd ok.0
node_once (Init value mark) taken given ok fit fires = absurd ok.0
node_once (Tagger shape tags) taken given ok fit fires = absurd ok.0

-- what it gives fits
replicate_fits : (count : ℕ) (shape : Shape) (v : Token) → Fits shape v → FitEach (replicate count shape) (replicate count v)
replicate_fits zero shape v h = tt
replicate_fits (suc count) shape v h = (h, replicate_fits count shape v h)

pub zeros_fit : (shape : Shape) → Fits shape (map (λ width. 0) shape)
zeros_fit [] = tt
zeros_fit (width ∷ shape) = (pow_pos width, zeros_fit shape)

numbers_fit : (widths : List ℕ) (taken : List Token) → FitEach (map field widths) taken → InputsFit (zip widths (map number_of taken))
numbers_fit widths taken h = All-from_recursion (λ (arg : ℕ × ℕ). arg.1 < 2 ^ arg.0) (zip widths (map number_of taken)) (each widths taken h)
  where
    each : (ws : List ℕ) (vs : List Token) → FitEach (map field ws) vs → Each (λ (arg : ℕ × ℕ). arg.1 < 2 ^ arg.0) (zip ws (map number_of vs))
    each [] [] k = tt
    each [] (v ∷ vs) k = absurd k
    each (w ∷ ws) [] k = absurd k
    each (w ∷ ws) ([] ∷ vs) k = absurd k.0
    each (w ∷ ws) ((n ∷ []) ∷ vs) k = (k.0.0, each ws vs k.1)
    each (w ∷ ws) ((n ∷ m ∷ v) ∷ vs) k = absurd k.0.1

pub widths-inputs : (widths : List ℕ) (taken : List Token) → FitEach (map field widths) taken → widths_of (zip widths (map number_of taken)) ≡ widths
widths-inputs [] [] h = refl
widths-inputs [] (v ∷ vs) h = absurd h
widths-inputs (w ∷ widths) [] h = absurd h
widths-inputs (w ∷ widths) (v ∷ vs) h = ap (λ ws. w ∷ ws) (widths-inputs widths vs h.1)

pub node_fits : FunValueFits → ValueFits → (node : Kind) (taken : List Token) → MayStand node → FitEach (ins node) taken → FitEach (outs node) (gives node taken)
node_fits functions values (Buffer shape) taken ok fit = let l = lone shape taken fit in (subst (Fits shape) (sym (ap only l.is)) l.fits, tt)
node_fits functions values (Fork shape count) taken ok fit = let l = lone shape taken fit in replicate_fits count shape (only taken) (subst (Fits shape) (sym (ap only l.is)) l.fits)
node_fits functions values (Join shapes) taken ok fit = (fits_concat shapes taken fit, tt)
node_fits functions values (Split shapes) taken ok fit = let l = lone (concat shapes) taken fit in cut_fits shapes (only taken) (subst (Fits (concat shapes)) (sym (ap only l.is)) l.fits)
node_fits functions values (Operator op widths width) taken ok fit =
    ((values op (zip widths (map number_of taken)) width (subst (λ ws. IsTypedOp op ws width) (sym (widths-inputs widths taken fit)) ok.1) (numbers_fit widths taken fit), tt), tt)
node_fits functions values (Constant shape width value) taken ok fit = ((mod_below value (2 ^ width) (pow_pos width), tt), tt)
node_fits functions values (Source0 shape) taken ok fit = (zeros_fit shape, tt)
node_fits functions values (Sink0 shape) taken ok fit = tt
node_fits functions values (Pure f shape) taken ok fit =
    let l = lone f.input taken fit in
    (subst (λ s. Fits s (fun_value f (only taken))) ok.1.2 (functions f (only taken) ok.1.1 (subst (Fits f.input) (sym (ap only l.is)) l.fits)), tt)
node_fits functions values (Entry shape) taken ok fit = absurd ok.0
node_fits functions values (Exit shape) taken ok fit = absurd ok.0
node_fits functions values (Mux shape) taken ok fit = absurd ok.0
node_fits functions values (Branch shape) taken ok fit = absurd ok.0
node_fits functions values (Merge shape count) taken ok fit = absurd ok.0
node_fits functions values (CtrlMerge shape count width) taken ok fit = absurd ok.0
node_fits functions values (Init value mark) taken ok fit = absurd ok.0
node_fits functions values (Tagger shape tags) taken ok fit = absurd ok.0
