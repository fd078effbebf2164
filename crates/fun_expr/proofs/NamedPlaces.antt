-- What a function gives depends on the fields alone that it names.
use Rattle.std.proofs.Common.{◌≡◌, ◌+◌, ℕ, zero, suc, List, [], ◌∷◌, ◌++◌, map, length, refl, ap, sym, ◌∙◌, subst, arith}
use Rattle.std.specs.Prelude.{slice_get}
use Rattle.std.specs.List.{zip, flat_map}
use Rattle.op_table.specs.declared.op.Op.{Op}
use Rattle.op_table.specs.Value.{op_value}
use Rattle.port_types.specs.Token.{Fits}
use Rattle.fun_expr.specs.Each.{Each}
use Rattle.fun_expr.specs.Expr.{field_at, expr_value, places_step, places_in}
use Rattle.fun_expr.specs.Function.{Function, environment, fields_of, fun_value, named_places}
use Rattle.fun_expr.specs.Laws.{ValueByNames}
use Rattle.fun_expr.specs.declared.expr.Expr.{Expr}
use Rattle.fun_expr.specs.declared.expr.Expr.TheVariants.{Field, Apply}
use Rattle.fun_expr.proofs.Lists.{each_left, each_right, each_map}
use Rattle.fun_expr.proofs.Trees.{at_field, at_apply, induction, value-field, value-lit, value-apply}

places-field : (place : ℕ) → places_in (Field place) ≡ place ∷ []
unfolding places_in
places-field place = at_field places_step place

places-apply : (op : Op) (width : ℕ) (args : List Expr) → places_in (Apply op width args) ≡ flat_map (λ places. places) (map places_in args)
unfolding places_in
places-apply op width args = at_apply places_step op width args

-- two environments have the same field at a place
abbrev Same : List (ℕ × ℕ) → List (ℕ × ℕ) → ℕ → Type 0
Same env env' place = field_at env place ≡ field_at env' place

args_same : (env env' : List (ℕ × ℕ)) (args : List Expr) → Each (λ e. Each (Same env env') (places_in e) → expr_value env e ≡ expr_value env' e) args →
    Each (Same env env') (flat_map (λ places. places) (map places_in args)) → map (expr_value env) args ≡ map (expr_value env') args
args_same env env' [] hs same = refl
args_same env env' (e ∷ args) hs same =
    let first = hs.0 (each_left (Same env env') (places_in e) (flat_map (λ places. places) (map places_in args)) same) in
    let rest = args_same env env' args hs.1 (each_right (Same env env') (places_in e) (flat_map (λ places. places) (map places_in args)) same) in
    ap (λ v. v ∷ map (expr_value env) args) first ∙ ap (λ vs. expr_value env' e ∷ vs) rest

value_same : (env env' : List (ℕ × ℕ)) (e : Expr) → Each (Same env env') (places_in e) → expr_value env e ≡ expr_value env' e
value_same env env' = induction (λ e. Each (Same env env') (places_in e) → expr_value env e ≡ expr_value env' e)
    (λ place same. value-field env place ∙ (subst (Each (Same env env')) (places-field place) same).0 ∙ sym (value-field env' place))
    (λ width number same. value-lit env width number ∙ sym (value-lit env' width number))
    (λ op width args hs same.
    value-apply env op width args
    ∙ ap (λ vs. (width, op_value op vs width)) (args_same env env' args hs (subst (Each (Same env env')) (places-apply op width args) same))
    ∙ sym (value-apply env' op width args))

-- one field more
same_push : (env env' : List (ℕ × ℕ)) (field : ℕ × ℕ) (place : ℕ) → length env ≡ length env' → Same env env' place → Same (env ++ field ∷ []) (env' ++ field ∷ []) place
unfolding field_at
same_push [] [] field place e h = refl
same_push [] (f' ∷ env') field place e h = absurd (omega (arith, e))
same_push (f ∷ env) [] field place e h = absurd (omega (arith, e))
same_push (f ∷ env) (f' ∷ env') field zero e h = h
same_push (f ∷ env) (f' ∷ env') field (suc place) e h = same_push env env' field place (omega (arith, e)) h

length_push : {A : Type 0} (xs : List A) (x : A) → length (xs ++ x ∷ []) ≡ length xs + 1
length_push [] x = refl
length_push (y ∷ xs) x = omega (arith, length_push xs x)

all_same : (binds : List Expr) (outs : List ℕ) (env env' : List (ℕ × ℕ)) → length env ≡ length env' → Each (Same env env') (flat_map places_in binds) → Each (Same env env') outs →
    Each (Same (environment env binds) (environment env' binds)) outs
all_same [] outs env env' e h k = k
all_same (bind ∷ binds) outs env env' e h k =
    let value = value_same env env' bind (each_left (Same env env') (places_in bind) (flat_map places_in binds) h) in
    let field = expr_value env bind in
    let count : length (env ++ field ∷ []) ≡ length (env' ++ field ∷ []) = length_push env field ∙ ap (λ n. n + 1) e ∙ sym (length_push env' field) in
    let push = λ (place : ℕ) (s : Same env env' place). same_push env env' field place e s in
    let rest = all_same binds outs (env ++ field ∷ []) (env' ++ field ∷ []) count
    (each_map (Same env env') (Same (env ++ field ∷ []) (env' ++ field ∷ [])) push (flat_map places_in binds) (each_right (Same env env') (places_in bind) (flat_map places_in binds) h))
    (each_map (Same env env') (Same (env ++ field ∷ []) (env' ++ field ∷ [])) push outs k) in
    subst (λ v. Each (Same (environment (env ++ field ∷ []) binds) (environment (env' ++ v ∷ []) binds)) outs) value rest

-- tokens with the same number at a place
zip_same : (shape token token' : List ℕ) (place : ℕ) → length token ≡ length token' → slice_get token place ≡ slice_get token' place → Same (zip shape token) (zip shape token') place
unfolding field_at
zip_same [] token token' place e h = refl
zip_same (w ∷ shape) [] [] place e h = refl
zip_same (w ∷ shape) [] (n ∷ token') place e h = absurd (omega (arith, e))
zip_same (w ∷ shape) (n ∷ token) [] place e h = absurd (omega (arith, e))
zip_same (w ∷ shape) (n ∷ token) (m ∷ token') zero e h = let same : n ≡ m = cc in ap (λ x. (w, x)) same
zip_same (w ∷ shape) (n ∷ token) (m ∷ token') (suc place) e h = zip_same shape token token' place (omega (arith, e)) h

zip_length : (shape token token' : List ℕ) → length token ≡ length token' → length (zip shape token) ≡ length (zip shape token')
zip_length [] token token' e = refl
zip_length (w ∷ shape) [] [] e = refl
zip_length (w ∷ shape) [] (n ∷ token') e = absurd (omega (arith, e))
zip_length (w ∷ shape) (n ∷ token) [] e = absurd (omega (arith, e))
zip_length (w ∷ shape) (n ∷ token) (m ∷ token') e = omega (arith, zip_length shape token token' (omega (arith, e)))

outs_same : (env env' : List (ℕ × ℕ)) (outs : List ℕ) → Each (Same env env') outs → map (λ out. (field_at env out).1) outs ≡ map (λ out. (field_at env' out).1) outs
outs_same env env' [] h = refl
outs_same env env' (out ∷ outs) h = ap (λ x. x ∷ map (λ out. (field_at env out).1) outs) (ap (λ field. field.1) h.0) ∙ ap (λ xs. (field_at env' out).1 ∷ xs) (outs_same env env' outs h.1)

by_names : (f : Function) (token token' : List ℕ) → length token ≡ length token' → Each (λ place. slice_get token place ≡ slice_get token' place) (named_places f) → fun_value f token ≡ fun_value f token'
unfolding fun_value fields_of
by_names f token token' e same =
    let env = zip f.input token in
    let env' = zip f.input token' in
    let fields = each_map (λ place. slice_get token place ≡ slice_get token' place) (Same env env') (λ place s. zip_same f.input token token' place e s) (named_places f) same in
    outs_same (environment env f.binds) (environment env' f.binds) f.outs
    (all_same f.binds f.outs env env' (zip_length f.input token token' e) (each_left (Same env env') (flat_map places_in f.binds) f.outs fields) (each_right (Same env env') (flat_map places_in f.binds) f.outs fields))

fits_length : (shape token : List ℕ) → Fits shape token → length token ≡ length shape
fits_length [] [] fits = refl
fits_length [] (n ∷ token) fits = absurd fits
fits_length (w ∷ shape) [] fits = absurd fits
fits_length (w ∷ shape) (n ∷ token) fits = ap suc (fits_length shape token fits.1)

pub value_by_names : ValueByNames
value_by_names f token token' fits fits' same = by_names f token token' (fits_length f.input token fits ∙ sym (fits_length f.input token' fits')) same
