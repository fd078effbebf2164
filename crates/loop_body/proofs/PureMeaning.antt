-- The binds of a function, appended at other places, and what it gives there.
use Rattle.std.proofs.Common.{◌≡◌, ℕ, zero, suc, ◌+◌, ◌<◌, ◌≤◌, List, [], ◌∷◌, ◌++◌, map, length, Some, refl, ap, sym, ◌∙◌, subst, arith}
use Rattle.std.specs.Prelude.{slice_get, unwrap_or}
use Rattle.std.specs.List.{zip}
use Rattle.circuits.specs.PortTokens.{Token}
use Rattle.fun_expr.specs.Each.{Each, total}
use Rattle.fun_expr.specs.Expr.{widths, field_at, expr_value, expr_size, expr_depth, renumbered}
use Rattle.fun_expr.specs.Function.{Function, environment, fields_of, fun_value, widths_after, FunOk, fun_size, out_widths}
use Rattle.fun_expr.specs.declared.expr.Expr.{Expr}
use Rattle.fun_expr.specs.declared.expr.Expr.TheVariants.{Field}
use Rattle.loop_body.proofs.ExprLists.{total-append}
use Rattle.loop_body.proofs.ExprTrees.{renumbered-field}
use Rattle.loop_body.proofs.ExprValues.{value_width, Hold, stands, renumbered_width, renumbered_value, size-renumbered, depth-renumbered}
use Rattle.loop_body.proofs.Environments.{first_typed, environment-more, widths-append, widths-environment, widths-zip, zip-parts}
use Rattle.loop_body.proofs.GivenFields.{given_fields, value_given, widths_given}
use Rattle.loop_body.specs.BodyFunction.{Places, appended, pure_wire}
use Rattle.loop_body.proofs.Lists.{heads}
use Rattle.loop_body.proofs.Tables.{slice_get-front, slice_get-seam}
use Rattle.loop_body.proofs.Binding.{Sound, sound_more, Grows, grows_not, grows_one, grows_on, next_is, Settles, cost}
use Rattle.loop_body.proofs.Meaning.{Means, map-append}
use Rattle.loop_body.proofs.NodeMeaning.{OpLaws, NodeMeans, fields_mean, cost-fields}

-- what appending does
pub record Appends (start : List (ℕ × ℕ)) (binds : List Expr) (whole : List (ℕ × ℕ)) (more : List Expr) (p : Places) : Type 0 where
  pub grows : Grows start binds p.binds
  pub sound : Sound start p.binds
  pub hold : Hold (environment start p.binds) p.places whole
  pub size : total expr_size p.binds ≡ total expr_size binds + total expr_size more

hold_front : (env more : List (ℕ × ℕ)) (places : List ℕ) (fs : List (ℕ × ℕ)) → Hold env places fs → Hold (env ++ more) places fs
hold_front env more [] [] h = refl
hold_front env more [] (f ∷ fs) h = absurd cc
hold_front env more (p ∷ places) [] h = absurd cc
hold_front env more (p ∷ places) (f ∷ fs) h =
    ap (λ o. o ∷ map (slice_get (env ++ more)) places) (slice_get-front env more p f (heads h).0) ∙ ap (λ os. Some f ∷ os) (hold_front env more places fs (heads h).1)

hold_more : (env : List (ℕ × ℕ)) (places : List ℕ) (fs : List (ℕ × ℕ)) (v : ℕ × ℕ) (next : ℕ) → next ≡ length env → Hold env places fs → Hold (env ++ v ∷ []) (places ++ next ∷ []) (fs ++ v ∷ [])
hold_more env places fs v next e h =
    map-append (slice_get (env ++ v ∷ [])) places (next ∷ []) ∙ ap (λ x. x ++ slice_get (env ++ v ∷ []) next ∷ []) (hold_front env (v ∷ []) places fs h) ∙
    ap (λ o. map Some fs ++ o ∷ []) (ap (slice_get (env ++ v ∷ [])) e ∙ slice_get-seam env v []) ∙ sym (map-append Some fs (v ∷ []))

pub appends : (start : List (ℕ × ℕ)) (fields : ℕ) → fields ≡ length start → (more : List Expr) (places : List ℕ) (binds : List Expr) (inner : List (ℕ × ℕ)) (out : List ℕ) →
    Sound start binds → Hold (environment start binds) places inner → widths_after (widths inner) more ≡ Some out → Each (λ bind. expr_depth bind ≤ 64) more →
    Appends start binds (environment inner more) more (appended fields more places binds)
appends start fields is_length [] places binds inner out sound hold typed shallow = record { grows = grows_not start binds; sound = sound; hold = hold; size = omega arith }
appends start fields is_length (bind ∷ more) places binds inner out sound hold typed shallow =
    let env = environment start binds in
    let f = first_typed (widths inner) bind more out typed in
    let s = stands places env inner hold in
    let there = renumbered places bind in
    let v = expr_value inner bind in
    let same : expr_value env there ≡ v = renumbered_value places env inner s bind f.width f.is in
    let sound' = sound_more start binds there f.width sound (renumbered_width places env inner s bind f.width f.is) (omega (arith, depth-renumbered places bind, shallow.0)) in
    let env' : environment start (binds ++ there ∷ []) ≡ env ++ v ∷ [] = environment-more start binds there ∙ ap (λ x. env ++ x ∷ []) same in
    let hold' : Hold (environment start (binds ++ there ∷ [])) (places ++ (fields + length binds) ∷ []) (inner ++ v ∷ []) =
    subst (λ x. Hold x (places ++ (fields + length binds) ∷ []) (inner ++ v ∷ [])) (sym env') (hold_more env places inner v (fields + length binds) (next_is start binds fields is_length) hold) in
    let typed' : widths_after (widths (inner ++ v ∷ [])) more ≡ Some out =
    ap (λ ws. widths_after ws more) (widths-append inner (v ∷ []) ∙ ap (λ w. widths inner ++ w ∷ []) (value_width inner bind f.width f.is)) ∙ f.rest in
    let rest = appends start fields is_length more (places ++ (fields + length binds) ∷ []) (binds ++ there ∷ []) (inner ++ v ∷ []) out sound' hold' typed' shallow.1 in
    record {
      grows = grows_on start binds (binds ++ there ∷ []) (appended fields (bind ∷ more) places binds).binds (grows_one start binds there) rest.grows;
      sound = rest.sound;
      hold = rest.hold;
      size = omega (arith, rest.size, total-append expr_size binds (there ∷ []), size-renumbered places bind);
    }

-- the place at which a field stands
hold_place : (env : List (ℕ × ℕ)) (places : List ℕ) (inner : List (ℕ × ℕ)) → Hold env places inner → (out : ℕ) → out < length (widths inner) → slice_get env (unwrap_or (slice_get places out) 0) ≡ Some (field_at inner out)
unfolding field_at
hold_place env places [] h out lt = absurd (omega arith)
hold_place env [] (f ∷ inner) h out lt = absurd cc
hold_place env (p ∷ places) (f ∷ inner) h zero lt = (heads h).0
hold_place env (p ∷ places) (f ∷ inner) h (suc out) lt = hold_place env places inner (heads h).1 out (omega arith)

-- the places of what is given
abbrev out_places : List ℕ → List ℕ → List ℕ
out_places places outs = map (λ out. unwrap_or (slice_get places out) 0) outs

outs_are : (places outs : List ℕ) → map (λ out. renumbered places (Field out)) outs ≡ map Field (out_places places outs)
outs_are places [] = refl
outs_are places (out ∷ outs) =
    ap (λ x. x ∷ map (λ out. renumbered places (Field out)) outs) (renumbered-field places out) ∙ ap (λ xs. Field (unwrap_or (slice_get places out) 0) ∷ xs) (outs_are places outs)

outs_hold : (env : List (ℕ × ℕ)) (places : List ℕ) (inner : List (ℕ × ℕ)) → Hold env places inner → (outs : List ℕ) → Each (λ out. out < length (widths inner)) outs →
    map (slice_get env) (out_places places outs) ≡ map Some (map (field_at inner) outs)
outs_hold env places inner h [] lt = refl
outs_hold env places inner h (out ∷ outs) lt =
    ap (λ o. o ∷ map (slice_get env) (out_places places outs)) (hold_place env places inner h out lt.0) ∙ ap (λ os. Some (field_at inner out) ∷ os) (outs_hold env places inner h outs lt.1)

-- what a Pure gives
pub pure_means : OpLaws → (start : List (ℕ × ℕ)) (fields : ℕ) → fields ≡ length start → (binds es : List Expr) (p : Places) (f : Function) (v : Token) → FunOk f → Settles start binds es p → Means (environment start binds) es f.input v →
    NodeMeans start binds (total cost es + fun_size f) (pure_wire fields f p) (out_widths f ∷ []) (fun_value f v ∷ [])
unfolding fun_size fields_of given_fields
pure_means laws start fields is_length binds es p f v ok s m =
    let inner = zip f.input v in
    let typed : widths_after (widths inner) f.binds ≡ Some ok.typed.widths = ap (λ ws. widths_after ws f.binds) (widths-zip f.input v m.fits) ∙ ok.typed.binds in
    let hold : Hold (environment start p.binds) p.places inner = s.hold ∙ ap (map Some) m.values in
    let a = appends start fields is_length f.binds p.places p.binds inner ok.typed.widths s.sound hold typed ok.depth in
    let whole = appended fields f.binds p.places p.binds in
    let last = environment inner f.binds in
    let in_range : Each (λ out. out < length (widths last)) f.outs =
    subst (λ (ws : List ℕ). Each (λ out. out < length ws) f.outs) (sym (widths-environment inner f.binds ok.typed.widths typed)) ok.typed.outs in
    let given : map (field_at last) f.outs ≡ zip (out_widths f) (fun_value f v) =
    sym (ap (λ ns. zip (out_widths f) ns) (value_given f v) ∙ ap (λ ws. zip ws (map (λ field. field.1) (given_fields f v))) (widths_given f v ok.typed.widths ok.typed.binds m.fits) ∙ zip-parts (given_fields f v)) in
    let wire : Means (environment start whole.binds) (map Field (out_places whole.places f.outs)) (out_widths f) (fun_value f v) =
    fields_mean (environment start whole.binds) (out_places whole.places f.outs) (out_widths f) (fun_value f v)
    (outs_hold (environment start whole.binds) whole.places last a.hold f.outs in_range ∙ ap (map Some) given)
    (laws.functions f v ok m.fits) in
    record {
      grows = grows_on start binds p.binds whole.binds s.grows a.grows;
      sound = a.sound;
      row = (subst (λ xs. Means (environment start whole.binds) xs (out_widths f) (fun_value f v)) (sym (outs_are whole.places f.outs)) wire, tt);
      size = omega (arith, a.size, s.size, ap (total cost) (outs_are whole.places f.outs), cost-fields (out_places whole.places f.outs));
    }
