-- What a typed function gives fits the widths of what it gives.
use Rattle.std.proofs.Common.{◌≡◌, ℕ, zero, suc, List, [], ◌∷◌, map, Some, refl, ap, sym, ◌∙◌}
use Rattle.std.specs.Prelude.{slice_get, unwrap_or}
use Rattle.std.specs.List.{zip}
use Rattle.port_types.specs.Token.{Fits}
use Rattle.fun_expr.specs.Expr.{widths, field_at}
use Rattle.fun_expr.specs.Function.{Function, environment, fields_of, fun_value, widths_after, all_widths, out_widths}
use Rattle.loop_body.proofs.Environments.{widths-environment, widths-zip}

-- the fields that a function gives, with their widths
unfoldable pub given_fields : Function → List ℕ → List (ℕ × ℕ)
given_fields f token = map (field_at (fields_of f token)) f.outs

width_at : (env : List (ℕ × ℕ)) (place : ℕ) → unwrap_or (slice_get (widths env) place) 0 ≡ (field_at env place).0
unfolding field_at
width_at [] place = refl
width_at (f ∷ env) zero = refl
width_at (f ∷ env) (suc place) = width_at env place

numbers_at : (env : List (ℕ × ℕ)) (places : List ℕ) → map (λ place. (field_at env place).1) places ≡ map (λ field. field.1) (map (field_at env) places)
numbers_at env [] = refl
numbers_at env (place ∷ places) = ap (λ ns. (field_at env place).1 ∷ ns) (numbers_at env places)

widths_at : (env : List (ℕ × ℕ)) (places : List ℕ) → map (λ place. unwrap_or (slice_get (widths env) place) 0) places ≡ widths (map (field_at env) places)
widths_at env [] = refl
widths_at env (place ∷ places) = ap (λ w. w ∷ map (λ place. unwrap_or (slice_get (widths env) place) 0) places) (width_at env place) ∙ ap (λ ws. (field_at env place).0 ∷ ws) (widths_at env places)

-- the value is the numbers of these fields
pub value_given : (f : Function) (token : List ℕ) → fun_value f token ≡ map (λ field. field.1) (given_fields f token)
unfolding fun_value given_fields
value_given f token = numbers_at (fields_of f token) f.outs

-- and the widths of what it gives are theirs
pub widths_given : (f : Function) (token ws : List ℕ) → widths_after f.input f.binds ≡ Some ws → Fits f.input token → out_widths f ≡ widths (given_fields f token)
unfolding out_widths all_widths given_fields fields_of
widths_given f token ws typed fits =
    let same : unwrap_or (widths_after f.input f.binds) [] ≡ widths (environment (zip f.input token) f.binds) =
    ap (λ o. unwrap_or o []) typed ∙ sym (widths-environment (zip f.input token) f.binds ws (ap (λ x. widths_after x f.binds) (widths-zip f.input token fits) ∙ typed)) in
    ap (λ (x : List ℕ). map (λ out. unwrap_or (slice_get x out) 0) f.outs) same ∙ widths_at (environment (zip f.input token) f.binds) f.outs
