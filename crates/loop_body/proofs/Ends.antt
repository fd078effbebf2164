-- The ends of a body: its turn, and what its function gives.
use Rattle.std.proofs.Common.{◌≡◌, ℕ, zero, suc, ◌+◌, ◌<◌, ◌≤◌, List, [], ◌∷◌, ◌++◌, map, length, take, Some, refl, ap, sym, ◌∙◌, subst, arith, append_assoc}
use Rattle.std.specs.Prelude.{slice_get, unwrap_or}
use Rattle.std.specs.List.{concat, zip}
use Rattle.port_types.specs.Token.{Fits}
use Rattle.components.specs.Kind.{Shape}
use Rattle.circuits.specs.PortTokens.{Token}
use Rattle.circuits.specs.Firing.{FitEach}
use Rattle.fun_expr.specs.Each.{Each, total}
use Rattle.fun_expr.specs.Expr.{widths, field_at, expr_value, expr_size}
use Rattle.fun_expr.specs.Function.{environment, fields_of, fun_value}
use Rattle.fun_expr.specs.declared.expr.Expr.{Expr}
use Rattle.fun_expr.specs.declared.expr.Expr.TheVariants.{Field}
use Rattle.loop_body.proofs.ExprLists.{each_left, each_right, total-append}
use Rattle.loop_body.proofs.Environments.{numbers-zip}
use Rattle.loop_body.proofs.ExprTrees.{place-field}
use Rattle.loop_body.specs.BodyKind.{weight}
use Rattle.loop_body.specs.declared.body_port.BodyPort.{BodyPort}
use Rattle.loop_body.specs.Body.{Body, entry, shapes, IsBody, kinds, flat}
use Rattle.loop_body.specs.BodyValue.{IsValueAt}
use Rattle.loop_body.specs.BodyFunction.{Places, cut, settled, wire_at, fields_from, at_start, all_built, ends, body_function}
use Rattle.loop_body.specs.Laws.{next_shapes}
use Rattle.loop_body.proofs.Lists.{some_inj, heads, fits_concat, cut-concat}
use Rattle.loop_body.proofs.Tables.{slice_get-seam, RowsFit, TokensAt, tokens_at_ports}
use Rattle.loop_body.proofs.Assignments.{rows_of, one_value}
use Rattle.loop_body.proofs.Binding.{Good, cost, cost-field, Sound, Settles, settles}
use Rattle.loop_body.proofs.Meaning.{Means, RowMeans, map-append, row_flat, row_cut, row_cost, cost-flat, cost-cut}
use Rattle.loop_body.proofs.NodeMeaning.{OpLaws, place_value, field_value, field_good, zip_length}
use Rattle.loop_body.proofs.Bodies.{TableMeans, wires_at_ports, Builds, builds}
use Rattle.loop_body.proofs.Uses.{Found, uses_found, made_is_used, length-push}

-- the input's fields
fields_mean_from : (front : List (ℕ × ℕ)) (place : ℕ) (shape : Shape) (v : Token) → place ≡ length front → Fits shape v → Means (front ++ zip shape v) (fields_from place shape) shape v
fields_mean_from front place [] [] e h = record { good = tt; values = refl; fits = tt }
fields_mean_from front place [] (n ∷ v) e h = absurd h
fields_mean_from front place (w ∷ shape) [] e h = absurd h
fields_mean_from front place (w ∷ shape) (n ∷ v) e h =
    let env = front ++ (w, n) ∷ zip shape v in
    let found : slice_get env place ≡ Some (w, n) = ap (slice_get env) e ∙ slice_get-seam front (w, n) (zip shape v) in
    let rest = subst (λ x. Means x (fields_from (place + 1) shape) shape v) (append_assoc front ((w, n) ∷ []) (zip shape v))
    (fields_mean_from (front ++ (w, n) ∷ []) (place + 1) shape v (omega (arith, e, length-push front (w, n))) h.1) in
    record {
      good = (field_good env place (w, n) found, rest.good);
      values = ap (λ f. f ∷ map (expr_value env) (fields_from (place + 1) shape)) (field_value env place (w, n) found) ∙ ap (λ fs. (w, n) ∷ fs) rest.values;
      fits = h;
    }

cost-fields_from : (place : ℕ) (shape : Shape) → total cost (fields_from place shape) ≡ 0
cost-fields_from place [] = refl
cost-fields_from place (w ∷ shape) = omega (arith, cost-field (Field place) place (place-field place), cost-fields_from (place + 1) shape)

-- a tuple as the fields of the input
abbrev pub input_of : Body → List Token → List (ℕ × ℕ)
input_of b tuple = zip (concat b.vars) (concat tuple)

start_means : (b : Body) (tuple : List Token) → FitEach b.vars tuple → TableMeans (input_of b tuple) (at_start b.vars).table (b.vars ∷ []) (tuple ∷ [])
start_means b tuple fit = (
  subst (RowMeans (input_of b tuple) (cut b.vars (fields_from 0 (concat b.vars))) b.vars) (cut-concat b.vars tuple fit)
      (row_cut (input_of b tuple) (fields_from 0 (concat b.vars)) b.vars (concat tuple) (fields_mean_from [] 0 (concat b.vars) (concat tuple) refl (fits_concat b.vars tuple fit))),
  tt,
)

-- a tuple with its table of tokens
pub record Run (b : Body) (tuple : List Token) : Type 0 where
  pub rest : List (List Token)
  pub value : IsValueAt b tuple (tuple ∷ rest)
  pub fit : RowsFit (shapes b) (tuple ∷ rest)
  pub once : (other : List (List Token)) → IsValueAt b tuple other → other ≡ tuple ∷ rest

opened : (b : Body) (tuple : List Token) (tokens : List (List Token)) → IsValueAt b tuple tokens → RowsFit (shapes b) tokens → ((other : List (List Token)) → IsValueAt b tuple other → other ≡ tokens) → Run b tuple
opened b tuple [] value fit once = absurd fit
opened b tuple (x ∷ rest) value fit once =
    let same : x ≡ tuple = some_inj value.lanes in
    record {
      rest = rest;
      value = subst (λ y. IsValueAt b tuple (y ∷ rest)) same value;
      fit = subst (λ y. RowsFit (shapes b) (y ∷ rest)) same fit;
      once = λ other v. once other v ∙ ap (λ y. y ∷ rest) same;
    }

pub run : OpLaws → (b : Body) → IsBody b → (tuple : List Token) → FitEach b.vars tuple → Run b tuple
run laws b ok tuple fit = let o = one_value laws.functions laws.values b ok.nodes tuple fit in opened b tuple o.tokens o.value o.fit o.once

fields_count : (b : Body) (tuple : List Token) → FitEach b.vars tuple → length (concat b.vars) ≡ length (input_of b tuple)
fields_count b tuple fit = sym (zip_length (concat b.vars) (concat tuple) (fits_concat b.vars tuple fit))

pub whole : OpLaws → (b : Body) → IsBody b → (tuple : List Token) → FitEach b.vars tuple → (r : Run b tuple) → Builds (input_of b tuple) (at_start b.vars) (all_built b) (kinds b) b.inputs (b.vars ∷ []) (tuple ∷ r.rest)
whole laws b ok tuple fit r =
    builds laws (input_of b tuple) (length (concat b.vars)) (fields_count b tuple fit) (kinds b) b.inputs (at_start b.vars) (b.vars ∷ []) (tuple ∷ []) r.rest
    (omega (arith, r.value.rows)) ok.nodes (rows_of b tuple (tuple ∷ r.rest) r.value) (record { typed = refl; depth = tt }) (start_means b tuple fit)

-- the first condition wire
pub record FirstCondition (b : Body) : Type 0 where
  pub port : BodyPort
  pub others : List BodyPort
  pub is : b.conditions ≡ port ∷ others

first_of_list : (ports : List BodyPort) (n : ℕ) → length ports ≡ n + 1 → (p : BodyPort) × (rest : List BodyPort) × (ports ≡ p ∷ rest)
first_of_list [] n h = absurd (omega arith)
first_of_list (p ∷ rest) n h = (p, rest, refl)

pub first_condition : (b : Body) → IsBody b → FirstCondition b
first_condition b ok = let f = first_of_list b.conditions (length b.next) ok.count in record { port = f.0; others = f.1; is = f.2 }

-- the shapes of the ends
abbrev pub end_shapes : Body → List Shape
end_shapes b = next_shapes b ++ (1 ∷ []) ∷ []

found_entries : (b : Body) (ports : List BodyPort) → Each (Found b) ports → map (entry (shapes b)) ports ≡ map Some (map (λ p. unwrap_or (entry (shapes b) p) []) ports)
found_entries b [] h = refl
found_entries b (p ∷ ports) h =
    let e : entry (shapes b) p ≡ Some (unwrap_or (entry (shapes b) p) []) = h.0.is ∙ ap Some (sym (ap (λ o. unwrap_or o []) h.0.is)) in
    ap (λ o. o ∷ map (entry (shapes b)) ports) e ∙ ap (λ os. Some (unwrap_or (entry (shapes b) p) []) ∷ os) (found_entries b ports h.1)

next_found : (b : Body) → IsBody b → Each (Found b) b.next
next_found b ok = each_right (Found b) (flat b.inputs) b.next (each_left (Found b) (flat b.inputs ++ b.next) b.conditions (uses_found b ok.once))

pub next_entries : (b : Body) → IsBody b → map (entry (shapes b)) b.next ≡ map Some (next_shapes b)
next_entries b ok = found_entries b b.next (next_found b ok)

pub first_bit : (b : Body) → IsBody b → (c : FirstCondition b) → entry (shapes b) c.port ≡ Some (1 ∷ [])
first_bit b ok c = (subst (λ (ports : List BodyPort). Each (λ p. entry (shapes b) p ≡ Some (1 ∷ [])) ports) c.is ok.bits).0

pub ends_are : (b : Body) (c : FirstCondition b) → ends b ≡ b.next ++ c.port ∷ []
ends_are b c = ap (λ ports. b.next ++ take 1 ports) c.is

ends_entries : (b : Body) → IsBody b → map (entry (shapes b)) (ends b) ≡ map Some (end_shapes b)
ends_entries b ok =
    let c = first_condition b ok in
    ap (map (entry (shapes b))) (ends_are b c) ∙ map-append (entry (shapes b)) b.next (c.port ∷ []) ∙
    ap (λ x. x ++ entry (shapes b) c.port ∷ []) (next_entries b ok) ∙ ap (λ o. map Some (next_shapes b) ++ o ∷ []) (first_bit b ok c) ∙ sym (map-append Some (next_shapes b) ((1 ∷ []) ∷ []))

-- what the ends stand for, and what is bound for them
abbrev pub end_wires : Body → List Expr
end_wires b = flat (map (wire_at (all_built b).table) (ends b))

abbrev pub end_places : Body → Places
end_places b = settled (length (concat b.vars)) (end_wires b) (all_built b).binds

pub record Ended (b : Body) (tuple : List Token) : Type 0 where
  pub run : Run b tuple
  pub tokens : TokensAt (tuple ∷ run.rest) (ends b) (end_shapes b)
  pub means : Means (environment (input_of b tuple) (all_built b).binds) (end_wires b) (concat (end_shapes b)) (concat tokens.taken)
  pub settles : Settles (input_of b tuple) (all_built b).binds (end_wires b) (end_places b)
  pub light : total expr_size (end_places b).binds ≤ total weight (kinds b)

light_of : (b : Body) (ok : IsBody b) (tuple : List Token) (r : Run b tuple) → Builds (input_of b tuple) (at_start b.vars) (all_built b) (kinds b) b.inputs (b.vars ∷ []) (tuple ∷ r.rest) →
    Settles (input_of b tuple) (all_built b).binds (end_wires b) (end_places b) → total expr_size (end_places b).binds ≤ total weight (kinds b)
light_of b ok tuple r w s =
    let table = (all_built b).table in
    let c = first_condition b ok in
    let used = made_is_used b ok.once (environment (input_of b tuple) (all_built b).binds) table (tuple ∷ r.rest) w.means in
    let at_end : row_cost (map (wire_at table) (ends b)) ≡ row_cost (map (wire_at table) b.next) + row_cost (map (wire_at table) (c.port ∷ [])) =
    ap (λ ports. row_cost (map (wire_at table) ports)) (ends_are b c) ∙ ap row_cost (map-append (wire_at table) b.next (c.port ∷ [])) ∙ total-append (total cost) (map (wire_at table) b.next) (map (wire_at table) (c.port ∷ [])) in
    let conditions : row_cost (map (wire_at table) b.conditions) ≡ row_cost (map (wire_at table) (c.port ∷ c.others)) = ap (λ ports. row_cost (map (wire_at table) ports)) c.is in
    omega (arith, s.size, w.size, used, at_end, conditions, cost-flat (map (wire_at table) (ends b)), cost-cut b.vars (fields_from 0 (concat b.vars)), cost-fields_from 0 (concat b.vars))

pub ended : OpLaws → (b : Body) → IsBody b → (tuple : List Token) → FitEach b.vars tuple → Ended b tuple
ended laws b ok tuple fit =
    let r = run laws b ok tuple fit in
    let w = whole laws b ok tuple fit r in
    let t = tokens_at_ports (shapes b) (tuple ∷ r.rest) r.fit (ends b) (end_shapes b) (ends_entries b ok) in
    let env = environment (input_of b tuple) (all_built b).binds in
    let m = row_flat env (map (wire_at (all_built b).table) (ends b)) (end_shapes b) t.taken
    (wires_at_ports env (all_built b).table (shapes b) (tuple ∷ r.rest) w.means (ends b) (end_shapes b) t.taken (ends_entries b ok) t.are) in
    let s = Rattle.loop_body.proofs.Binding.settles (input_of b tuple) (length (concat b.vars)) (fields_count b tuple fit) (end_wires b) (all_built b).binds w.sound m.good in
    record { run = r; tokens = t; means = m; settles = s; light = light_of b ok tuple r w s }

-- the fields at the places
places_numbers : (env : List (ℕ × ℕ)) (places : List ℕ) (fs : List (ℕ × ℕ)) → map (slice_get env) places ≡ map Some fs → map (λ out. (field_at env out).1) places ≡ map (λ field. field.1) fs
places_numbers env [] [] h = refl
places_numbers env [] (f ∷ fs) h = absurd cc
places_numbers env (p ∷ places) [] h = absurd cc
places_numbers env (p ∷ places) (f ∷ fs) h =
    ap (λ x. x.1 ∷ map (λ out. (field_at env out).1) places) (place_value env p f (heads h).0) ∙ ap (λ ns. f.1 ∷ ns) (places_numbers env places fs (heads h).1)

pub places_fields : (env : List (ℕ × ℕ)) (places : List ℕ) (fs : List (ℕ × ℕ)) → map (slice_get env) places ≡ map Some fs → map (field_at env) places ≡ fs
places_fields env [] [] h = refl
places_fields env [] (f ∷ fs) h = absurd cc
places_fields env (p ∷ places) [] h = absurd cc
places_fields env (p ∷ places) (f ∷ fs) h =
    ap (λ x. x ∷ map (field_at env) places) (place_value env p f (heads h).0) ∙ ap (λ ns. f ∷ ns) (places_fields env places fs (heads h).1)

pub places_within : (env : List (ℕ × ℕ)) (places : List ℕ) (fs : List (ℕ × ℕ)) → map (slice_get env) places ≡ map Some fs → Each (λ out. out < length (widths env)) places
places_within env [] fs h = tt
places_within env (p ∷ places) [] h = absurd cc
places_within env (p ∷ places) (f ∷ fs) h = (within env p f (heads h).0, places_within env places fs (heads h).1)
  where
    within : (env : List (ℕ × ℕ)) (p : ℕ) (f : ℕ × ℕ) → slice_get env p ≡ Some f → p < length (widths env)
    within [] p f h = absurd cc
    within (g ∷ env) zero f h = omega arith
    within (g ∷ env) (suc p) f h = omega (arith, within env p f h)

pub places_length : (env : List (ℕ × ℕ)) (places : List ℕ) (fs : List (ℕ × ℕ)) → map (slice_get env) places ≡ map Some fs → length places ≡ length fs
places_length env [] [] h = refl
places_length env [] (f ∷ fs) h = absurd cc
places_length env (p ∷ places) [] h = absurd cc
places_length env (p ∷ places) (f ∷ fs) h = ap suc (places_length env places fs (heads h).1)

pub end_hold : (b : Body) (tuple : List Token) (e : Ended b tuple) → map (slice_get (environment (input_of b tuple) (end_places b).binds)) (end_places b).places ≡ map Some (zip (concat (end_shapes b)) (concat e.tokens.taken))
end_hold b tuple e = e.settles.hold ∙ ap (map Some) e.means.values

pub value_is : (b : Body) (tuple : List Token) (e : Ended b tuple) → fun_value (body_function b) (concat tuple) ≡ concat e.tokens.taken
unfolding body_function fun_value fields_of
value_is b tuple e =
    places_numbers (environment (input_of b tuple) (end_places b).binds) (end_places b).places (zip (concat (end_shapes b)) (concat e.tokens.taken)) (end_hold b tuple e) ∙
    numbers-zip (concat (end_shapes b)) (concat e.tokens.taken) e.means.fits
