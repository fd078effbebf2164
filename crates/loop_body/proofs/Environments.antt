-- Environments: typed binds one after another, the widths of the fields, and that numbers fit.
use Rattle.std.proofs.Common.{◌≡◌, ℕ, ◌+◌, List, [], ◌∷◌, ◌++◌, map, length, Option, Some, None, refl, ap, ◌∙◌, arith}
use Rattle.std.specs.List.{zip}
use Rattle.port_types.specs.Token.{Fits}
use Rattle.fun_expr.specs.Expr.{widths, expr_value, expr_width}
use Rattle.fun_expr.specs.Function.{environment, widths_behind, widths_after}
use Rattle.fun_expr.specs.declared.expr.Expr.{Expr}
use Rattle.loop_body.proofs.ExprLists.{some_inj}
use Rattle.loop_body.proofs.ExprValues.{value_width}

-- the first bind is typed, and so are the rest behind it
pub record FirstTyped (ws : List ℕ) (bind : Expr) (binds : List Expr) (out : List ℕ) : Type 0 where
  pub width : ℕ
  pub is : expr_width ws bind ≡ Some width
  pub rest : widths_after (ws ++ width ∷ []) binds ≡ Some out

first_by : (ws : List ℕ) (bind : Expr) (binds : List Expr) (out : List ℕ) (o : Option ℕ) → expr_width ws bind ≡ o →
    widths_behind (λ width. widths_after (ws ++ width ∷ []) binds) o ≡ Some out → FirstTyped ws bind binds out
first_by ws bind binds out None e h = absurd cc
first_by ws bind binds out (Some width) e h = record { width = width; is = e; rest = h }

pub first_typed : (ws : List ℕ) (bind : Expr) (binds : List Expr) (out : List ℕ) → widths_after ws (bind ∷ binds) ≡ Some out → FirstTyped ws bind binds out
first_typed ws bind binds out h = first_by ws bind binds out (expr_width ws bind) refl h

pub first_again : (ws : List ℕ) (bind : Expr) (binds : List Expr) (out : List ℕ) → FirstTyped ws bind binds out → widths_after ws (bind ∷ binds) ≡ Some out
first_again ws bind binds out f = ap (widths_behind (λ width. widths_after (ws ++ width ∷ []) binds)) f.is ∙ f.rest

-- one bind more
pub after_more : (ws : List ℕ) (binds : List Expr) (out : List ℕ) (bind : Expr) (width : ℕ) → widths_after ws binds ≡ Some out → expr_width out bind ≡ Some width →
    widths_after ws (binds ++ bind ∷ []) ≡ Some (out ++ width ∷ [])
after_more ws [] out bind width h k =
    first_again ws bind [] (out ++ width ∷ []) (record { width = width; is = ap (λ x. expr_width x bind) (some_inj h) ∙ k; rest = ap (λ x. Some (x ++ width ∷ [])) (some_inj h) })
after_more ws (first ∷ binds) out bind width h k =
    let f = first_typed ws first binds out h in
    first_again ws first (binds ++ bind ∷ []) (out ++ width ∷ []) (record { width = f.width; is = f.is; rest = after_more (ws ++ f.width ∷ []) binds out bind width f.rest k })

pub environment-more : (env : List (ℕ × ℕ)) (binds : List Expr) (bind : Expr) → environment env (binds ++ bind ∷ []) ≡ environment env binds ++ expr_value (environment env binds) bind ∷ []
environment-more env [] bind = refl
environment-more env (first ∷ binds) bind = environment-more (env ++ expr_value env first ∷ []) binds bind

pub length-environment : (env : List (ℕ × ℕ)) (binds : List Expr) → length (environment env binds) ≡ length env + length binds
length-environment env [] = omega arith
length-environment env (bind ∷ binds) = omega (arith, length-environment (env ++ expr_value env bind ∷ []) binds, length-push env (expr_value env bind))
  where
    length-push : (xs : List (ℕ × ℕ)) (x : ℕ × ℕ) → length (xs ++ x ∷ []) ≡ length xs + 1
    length-push [] x = refl
    length-push (y ∷ xs) x = omega (arith, length-push xs x)

pub widths-append : (xs ys : List (ℕ × ℕ)) → widths (xs ++ ys) ≡ widths xs ++ widths ys
widths-append [] ys = refl
widths-append (x ∷ xs) ys = ap (λ ws. x.0 ∷ ws) (widths-append xs ys)

-- the widths of an environment of typed binds
pub widths-environment : (env : List (ℕ × ℕ)) (binds : List Expr) (out : List ℕ) → widths_after (widths env) binds ≡ Some out → widths (environment env binds) ≡ out
widths-environment env [] out h = some_inj h
widths-environment env (bind ∷ binds) out h =
    let f = first_typed (widths env) bind binds out h in
    let e : widths (env ++ expr_value env bind ∷ []) ≡ widths env ++ f.width ∷ [] =
    widths-append env (expr_value env bind ∷ []) ∙ ap (λ w. widths env ++ w ∷ []) (value_width env bind f.width f.is) in
    widths-environment (env ++ expr_value env bind ∷ []) binds out (ap (λ ws. widths_after ws binds) e ∙ f.rest)

-- tokens as fields
pub widths-zip : (shape token : List ℕ) → Fits shape token → widths (zip shape token) ≡ shape
widths-zip [] [] h = refl
widths-zip [] (n ∷ token) h = absurd h
widths-zip (w ∷ shape) [] h = absurd h
widths-zip (w ∷ shape) (n ∷ token) h = ap (λ ws. w ∷ ws) (widths-zip shape token h.1)

pub numbers-zip : (shape token : List ℕ) → Fits shape token → map (λ field. field.1) (zip shape token) ≡ token
numbers-zip [] [] h = refl
numbers-zip [] (n ∷ token) h = absurd h
numbers-zip (w ∷ shape) [] h = absurd h
numbers-zip (w ∷ shape) (n ∷ token) h = ap (λ ns. n ∷ ns) (numbers-zip shape token h.1)

pub zip-parts : (fields : List (ℕ × ℕ)) → zip (widths fields) (map (λ field. field.1) fields) ≡ fields
zip-parts [] = refl
zip-parts (f ∷ fields) = ap (λ fs. f ∷ fs) (zip-parts fields)
