-- Binding expressions: what is bound stands at its place, and nothing that was there changes.
use Rattle.std.proofs.Common.{◌≡◌, ℕ, zero, suc, ◌+◌, ◌≤◌, List, [], ◌∷◌, ◌++◌, map, length, Option, Some, None, refl, ap, sym, ◌∙◌, subst, arith, append_assoc}
use Rattle.std.specs.Prelude.{slice_get}
use Rattle.fun_expr.specs.Each.{Each, total}
use Rattle.fun_expr.specs.Expr.{widths, field_at, expr_value, expr_width, expr_size, expr_depth, place_of}
use Rattle.fun_expr.specs.Function.{environment, widths_after}
use Rattle.fun_expr.specs.declared.expr.Expr.{Expr}
use Rattle.fun_expr.specs.declared.expr.Expr.TheVariants.{Field}
use Rattle.loop_body.proofs.ExprLists.{each_append, each_map, total-append}
use Rattle.loop_body.proofs.ExprTrees.{value-field, width-field}
use Rattle.loop_body.proofs.ExprValues.{width_behind, value_behind, place_is}
use Rattle.loop_body.proofs.Environments.{after_more, environment-more, length-environment, widths-append, widths-environment}
use Rattle.loop_body.specs.BodyFunction.{Places, place_then, bound_unless, settled}
use Rattle.loop_body.proofs.Lists.{append_nil}
use Rattle.loop_body.proofs.Tables.{slice_get-front, slice_get-seam}

-- an expression that may stand for a field: typed, and not so deep that it has to be bound
pub record Good (env : List (ℕ × ℕ)) (e : Expr) : Type 0 where
  pub width : expr_width (widths env) e ≡ Some (expr_value env e).0
  pub depth : expr_depth e ≤ 63

pub good_value : (env more : List (ℕ × ℕ)) (e : Expr) → Good env e → expr_value (env ++ more) e ≡ expr_value env e
good_value env more e g = value_behind env more e (expr_value env e).0 g.width

pub good_behind : (env more : List (ℕ × ℕ)) (e : Expr) → Good env e → Good (env ++ more) e
good_behind env more e g = record {
  width = ap (λ ws. expr_width ws e) (widths-append env more) ∙ width_behind (widths env) (widths more) e (expr_value env e).0 g.width ∙ ap (λ (f : ℕ × ℕ). Some f.0) (sym (good_value env more e g));
  depth = g.depth;
}

pub all_good_behind : (env more : List (ℕ × ℕ)) (es : List Expr) → Each (Good env) es → Each (Good (env ++ more)) es
all_good_behind env more es h = each_map (Good env) (Good (env ++ more)) (good_behind env more) es h

pub good_values : (env more : List (ℕ × ℕ)) (es : List Expr) → Each (Good env) es → map (expr_value (env ++ more)) es ≡ map (expr_value env) es
good_values env more [] h = refl
good_values env more (e ∷ es) h = ap (λ v. v ∷ map (expr_value (env ++ more)) es) (good_value env more e h.0) ∙ ap (λ vs. expr_value env e ∷ vs) (good_values env more es h.1)

pub good_widths : (env : List (ℕ × ℕ)) (es : List Expr) → Each (Good env) es → map (expr_width (widths env)) es ≡ map Some (widths (map (expr_value env) es))
good_widths env [] h = refl
good_widths env (e ∷ es) h = ap (λ o. o ∷ map (expr_width (widths env)) es) h.0.width ∙ ap (λ os. Some (expr_value env e).0 ∷ os) (good_widths env es h.1)

-- what binding an expression costs
abbrev pub cost_by : Option ℕ → Expr → ℕ
cost_by None e = expr_size e
cost_by (Some place) e = 0

unfoldable pub cost : Expr → ℕ
cost e = cost_by (place_of e) e

-- binds that are typed one after another, none too deep
pub record Sound (start : List (ℕ × ℕ)) (binds : List Expr) : Type 0 where
  pub typed : widths_after (widths start) binds ≡ Some (widths (environment start binds))
  pub depth : Each (λ bind. expr_depth bind ≤ 64) binds

pub sound_more : (start : List (ℕ × ℕ)) (binds : List Expr) (e : Expr) (width : ℕ) → Sound start binds → expr_width (widths (environment start binds)) e ≡ Some width → expr_depth e ≤ 64 → Sound start (binds ++ e ∷ [])
sound_more start binds e width s h d =
    let typed = after_more (widths start) binds (widths (environment start binds)) e width s.typed h in
    record {
      typed = typed ∙ ap Some (sym (widths-environment start (binds ++ e ∷ []) (widths (environment start binds) ++ width ∷ []) typed));
      depth = each_append (λ bind. expr_depth bind ≤ 64) binds (e ∷ []) s.depth (d, tt);
    }

-- binds that go on from others
pub record Grows (start : List (ℕ × ℕ)) (old new : List Expr) : Type 0 where
  pub more : List (ℕ × ℕ)
  pub is : environment start new ≡ environment start old ++ more

pub grows_not : (start : List (ℕ × ℕ)) (binds : List Expr) → Grows start binds binds
grows_not start binds = record { more = []; is = sym (append_nil (environment start binds)) }

pub grows_one : (start : List (ℕ × ℕ)) (binds : List Expr) (e : Expr) → Grows start binds (binds ++ e ∷ [])
grows_one start binds e = record { more = expr_value (environment start binds) e ∷ []; is = environment-more start binds e }

pub grows_on : (start : List (ℕ × ℕ)) (a b c : List Expr) → Grows start a b → Grows start b c → Grows start a c
grows_on start a b c g h = record { more = g.more ++ h.more; is = h.is ∙ ap (λ x. x ++ h.more) g.is ∙ append_assoc (environment start a) g.more h.more }

-- the place of the next bind
pub next_is : (start : List (ℕ × ℕ)) (binds : List Expr) (fields : ℕ) → fields ≡ length start → fields + length binds ≡ length (environment start binds)
next_is start binds fields e = omega (arith, length-environment start binds)

-- a field that is there
slice_get-field : (env : List (ℕ × ℕ)) (place w : ℕ) → slice_get (widths env) place ≡ Some w → slice_get env place ≡ Some (field_at env place)
unfolding field_at
slice_get-field [] place w h = absurd cc
slice_get-field (f ∷ env) zero w h = refl
slice_get-field (f ∷ env) (suc place) w h = slice_get-field env place w h

pub good_field : (env : List (ℕ × ℕ)) (place : ℕ) → Good env (Field place) → slice_get env place ≡ Some (expr_value env (Field place))
good_field env place g = slice_get-field env place (expr_value env (Field place)).0 (sym (width-field (widths env) place) ∙ g.width) ∙ ap Some (sym (value-field env place))

-- what settling does
pub record Settles (start : List (ℕ × ℕ)) (binds es : List Expr) (p : Places) : Type 0 where
  pub grows : Grows start binds p.binds
  pub sound : Sound start p.binds
  pub hold : map (slice_get (environment start p.binds)) p.places ≡ map Some (map (expr_value (environment start binds)) es)
  pub size : total expr_size p.binds ≡ total expr_size binds + total cost es

pub cost-field : (e : Expr) (place : ℕ) → place_of e ≡ Some place → cost e ≡ 0
unfolding cost
cost-field e place h = ap (λ o. cost_by o e) h

pub cost-other : (e : Expr) → place_of e ≡ None → cost e ≡ expr_size e
unfolding cost
cost-other e h = ap (λ o. cost_by o e) h

settle_field : (start : List (ℕ × ℕ)) (binds : List Expr) (e : Expr) (es : List Expr) (place : ℕ) (p : Places) → place_of e ≡ Some place → Good (environment start binds) e →
    Settles start binds es p → Settles start binds (e ∷ es) (place_then place p)
settle_field start binds e es place p h g s =
    let is = (place_is e place h).is in
    let env = environment start binds in
    let found : slice_get env place ≡ Some (expr_value env e) =
    good_field env place (subst (Good env) is g) ∙ ap (λ x. Some (expr_value env x)) (sym is) in
    let free : cost e ≡ 0 = cost-field e place h in
    record {
      grows = s.grows;
      sound = s.sound;
      hold = ap (λ x. slice_get x place ∷ map (slice_get (environment start p.binds)) p.places) s.grows.is ∙
          ap (λ o. o ∷ map (slice_get (environment start p.binds)) p.places) (slice_get-front env s.grows.more place (expr_value env e) found) ∙
          ap (λ os. Some (expr_value env e) ∷ os) s.hold;
      size = omega (arith, s.size, free);
    }

settle_other : (start : List (ℕ × ℕ)) (fields : ℕ) → fields ≡ length start → (binds : List Expr) (e : Expr) (es : List Expr) (p : Places) → place_of e ≡ None → Good (environment start binds) e → Each (Good (environment start binds)) es →
    Sound start binds → Settles start (binds ++ e ∷ []) es p → Settles start binds (e ∷ es) (place_then (fields + length binds) p)
settle_other start fields is_length binds e es p h g gs sound s =
    let env = environment start binds in
    let v = expr_value env e in
    let full : cost e ≡ expr_size e = cost-other e h in
    let first : slice_get (environment start (binds ++ e ∷ [])) (fields + length binds) ≡ Some v =
    ap (λ x. slice_get x (fields + length binds)) (environment-more start binds e) ∙ ap (slice_get (env ++ v ∷ [])) (next_is start binds fields is_length) ∙ slice_get-seam env v [] in
    record {
      grows = grows_on start binds (binds ++ e ∷ []) p.binds (grows_one start binds e) s.grows;
      sound = s.sound;
      hold = ap (λ x. slice_get x (fields + length binds) ∷ map (slice_get (environment start p.binds)) p.places) s.grows.is ∙
          ap (λ o. o ∷ map (slice_get (environment start p.binds)) p.places) (slice_get-front (environment start (binds ++ e ∷ [])) s.grows.more (fields + length binds) v first) ∙
          ap (λ os. Some v ∷ os) (s.hold ∙ ap (map Some) (ap (λ x. map (expr_value x) es) (environment-more start binds e) ∙ good_values env (v ∷ []) es gs));
      size = omega (arith, s.size, full, total-append expr_size binds (e ∷ []));
    }

settle_by : (start : List (ℕ × ℕ)) (fields : ℕ) → fields ≡ length start → (e : Expr) (es binds : List Expr) → Sound start binds → Good (environment start binds) e → Each (Good (environment start binds)) es →
    ((binds : List Expr) → Sound start binds → Each (Good (environment start binds)) es → Settles start binds es (settled fields es binds)) →
    (o : Option ℕ) → place_of e ≡ o → Settles start binds (e ∷ es) (bound_unless o (fields + length binds) e (settled fields es) binds)
settle_by start fields is_length e es binds sound g gs later (Some place) h = settle_field start binds e es place (settled fields es binds) h g (later binds sound gs)
settle_by start fields is_length e es binds sound g gs later None h =
    settle_other start fields is_length binds e es (settled fields es (binds ++ e ∷ [])) h g gs sound
    (later (binds ++ e ∷ []) (sound_more start binds e (expr_value (environment start binds) e).0 sound g.width (omega (arith, g.depth)))
    (subst (λ x. Each (Good x) es) (sym (environment-more start binds e)) (all_good_behind (environment start binds) (expr_value (environment start binds) e ∷ []) es gs)))

pub settles : (start : List (ℕ × ℕ)) (fields : ℕ) → fields ≡ length start → (es binds : List Expr) → Sound start binds → Each (Good (environment start binds)) es → Settles start binds es (settled fields es binds)
settles start fields is_length [] binds sound gs = record { grows = grows_not start binds; sound = sound; hold = refl; size = omega arith }
settles start fields is_length (e ∷ es) binds sound gs =
    settle_by start fields is_length e es binds sound gs.0 gs.1 (settles start fields is_length es) (place_of e) refl
