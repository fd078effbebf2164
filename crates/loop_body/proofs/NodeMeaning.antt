-- What the output wires of a node stand for: the fields of the tokens that it gives.
use Rattle.std.proofs.Common.{◌≡◌, ℕ, zero, suc, ◌+◌, ◌^◌, ◌<◌, ◌≤◌, Bool, true, false, List, [], ◌∷◌, ◌++◌, map, length, replicate, Option, Some, None, refl, ap, sym, ◌∙◌, arith}
use Rattle.std.specs.Prelude.{slice_get, unwrap_or, ◌==◌, nat_le, nat_lt, if◌then◌else◌}
use Rattle.std.specs.List.{zip}
use Rattle.std.proofs.lemmas.Bool.{le-leb, lt-ltb, eqb-false, and_from}
use Rattle.std.proofs.lemmas.Nat.{pow_pos}
use Rattle.op_table.specs.declared.op.Op.{Op}
use Rattle.op_table.specs.Operator.{IsTypedOp}
use Rattle.op_table.specs.Table.{is_typed_op}
use Rattle.op_table.specs.Value.{op_value}
use Rattle.fun_expr.specs.Laws.{FunValueFits}
use Rattle.op_table.specs.Laws.{WidthsAreTested, ValueFits, TypedWidths}
use Rattle.port_types.specs.Token.{Fits}
use Rattle.components.specs.Kind.{Shape, field}
use Rattle.circuits.specs.PortTokens.{Token, single}
use Rattle.fun_expr.specs.Each.{Each, total, largest}
use Rattle.fun_expr.specs.Expr.{widths, field_at, expr_value, place_of, all_some, expr_width, expr_size, expr_depth}
use Rattle.fun_expr.specs.Function.{environment}
use Rattle.fun_expr.specs.declared.expr.Expr.{Expr}
use Rattle.fun_expr.specs.declared.expr.Expr.TheVariants.{Field, Lit, Apply}
use Rattle.loop_body.proofs.ExprLists.{all_some_of, total-append}
use Rattle.loop_body.proofs.ExprTrees.{value-field, value-lit, value-apply, width-field, width-lit, width-apply, size-field, size-lit, size-apply, depth-field, depth-lit, depth-apply, place-field, place-lit, place-apply}
use Rattle.loop_body.proofs.ExprValues.{applied_again, slice_get-widths, place_is}
use Rattle.loop_body.proofs.Environments.{environment-more, widths-zip}
use Rattle.loop_body.specs.BodyFunction.{Places, Wires, fork_wires, operator_wire}
use Rattle.loop_body.proofs.Lists.{heads}
use Rattle.loop_body.proofs.Tables.{slice_get-seam}
use Rattle.loop_body.proofs.Binding.{Good, good_widths, cost, cost-field, cost-other, Sound, sound_more, Grows, grows_not, grows_one, next_is, Settles}
use Rattle.loop_body.proofs.Meaning.{Means, RowMeans, row_replicate, row_cost}

-- the laws of operators that the proofs use
pub record OpLaws : Type 0 where
  pub tested : WidthsAreTested
  pub functions : FunValueFits
  pub values : ValueFits
  pub few : TypedWidths

-- what a node makes of its input wires
pub record NodeMeans (start : List (ℕ × ℕ)) (binds : List Expr) (spent : ℕ) (made : Wires) (shapes : List Shape) (given : List Token) : Type 0 where
  pub grows : Grows start binds made.binds
  pub sound : Sound start made.binds
  pub row : RowMeans (environment start made.binds) made.wires shapes given
  pub size : total expr_size made.binds + row_cost made.wires ≤ total expr_size binds + spent

-- fields that stand at places
pub place_value : (env : List (ℕ × ℕ)) (place : ℕ) (f : ℕ × ℕ) → slice_get env place ≡ Some f → field_at env place ≡ f
unfolding field_at
place_value env place f h = ap (λ o. unwrap_or o (0, 0)) h

pub field_value : (env : List (ℕ × ℕ)) (place : ℕ) (f : ℕ × ℕ) → slice_get env place ≡ Some f → expr_value env (Field place) ≡ f
field_value env place f h = value-field env place ∙ place_value env place f h

pub field_good : (env : List (ℕ × ℕ)) (place : ℕ) (f : ℕ × ℕ) → slice_get env place ≡ Some f → Good env (Field place)
field_good env place f h = record {
  width = width-field (widths env) place ∙ slice_get-widths env place f h ∙ ap (λ (x : ℕ × ℕ). Some x.0) (sym (field_value env place f h));
  depth = omega (arith, depth-field place);
}

pub fields_mean : (env : List (ℕ × ℕ)) (places : List ℕ) (shape : Shape) (v : Token) → map (slice_get env) places ≡ map Some (zip shape v) → Fits shape v → Means env (map Field places) shape v
fields_mean env [] [] [] h fits = record { good = tt; values = refl; fits = tt }
fields_mean env [] [] (n ∷ v) h fits = absurd fits
fields_mean env [] (w ∷ shape) [] h fits = absurd fits
fields_mean env [] (w ∷ shape) (n ∷ v) h fits = absurd cc
fields_mean env (p ∷ places) [] [] h fits = absurd cc
fields_mean env (p ∷ places) [] (n ∷ v) h fits = absurd fits
fields_mean env (p ∷ places) (w ∷ shape) [] h fits = absurd fits
fields_mean env (p ∷ places) (w ∷ shape) (n ∷ v) h fits =
    let rest = fields_mean env places shape v (heads h).1 fits.1 in
    record {
      good = (field_good env p (w, n) (heads h).0, rest.good);
      values = ap (λ f. f ∷ map (expr_value env) (map Field places)) (field_value env p (w, n) (heads h).0) ∙ ap (λ fs. (w, n) ∷ fs) rest.values;
      fits = fits;
    }

pub cost-fields : (places : List ℕ) → total cost (map Field places) ≡ 0
cost-fields [] = refl
cost-fields (p ∷ places) = omega (arith, cost-field (Field p) p (place-field p), cost-fields places)

cost-replicate : (count : ℕ) (es : List Expr) → total cost es ≡ 0 → row_cost (replicate count es) ≡ 0
cost-replicate zero es h = refl
cost-replicate (suc count) es h = omega (arith, h, cost-replicate count es h)

size_by : (e : Expr) (o : Option ℕ) → place_of e ≡ o → expr_size e ≤ cost e + 1
size_by e (Some place) h = omega (arith, ap expr_size (place_is e place h).is, size-field place)
size_by e None h = omega (arith, cost-other e h)

size_le_cost : (e : Expr) → expr_size e ≤ cost e + 1
size_le_cost e = size_by e (place_of e) refl

total-map : (f : Expr → ℕ) (es : List Expr) → total (λ n. n) (map f es) ≡ total f es
total-map f [] = refl
total-map f (e ∷ es) = ap (λ n. f e + n) (total-map f es)

args_size : (es : List Expr) → total expr_size es ≤ total cost es + length es
args_size [] = omega arith
args_size (e ∷ es) = omega (arith, size_le_cost e, args_size es)

largest_depth : (env : List (ℕ × ℕ)) (es : List Expr) → Each (Good env) es → largest (map expr_depth es) ≤ 63
largest_depth env [] h = omega arith
largest_depth env (e ∷ es) h = omega (arith, h.0.depth, largest_depth env es h.1)

pub zip_length : (shape : Shape) (v : Token) → Fits shape v → length (zip shape v) ≡ length shape
zip_length [] [] h = refl
zip_length [] (n ∷ v) h = absurd h
zip_length (w ∷ shape) [] h = absurd h
zip_length (w ∷ shape) (n ∷ v) h = ap suc (zip_length shape v h.1)

length_map : {A B : Type 0} (f : A → B) (xs : List A) → length (map f xs) ≡ length xs
length_map f [] = refl
length_map f (x ∷ xs) = ap suc (length_map f xs)

counted : (env : List (ℕ × ℕ)) (es : List Expr) (ws ns : List ℕ) → Means env es ws ns → length es ≡ length ws
counted env es ws ns m = sym (length_map (expr_value env) es) ∙ ap length m.values ∙ zip_length ws ns m.fits

-- an operator at operands
pub record Operates (env : List (ℕ × ℕ)) (e : Expr) (width number spent : ℕ) : Type 0 where
  pub typed : expr_width (widths env) e ≡ Some width
  pub value : expr_value env e ≡ (width, number)
  pub depth : expr_depth e ≤ 64
  pub other : place_of e ≡ None
  pub size : expr_size e ≤ spent

pub operates : OpLaws → (env : List (ℕ × ℕ)) (op : Op) (ws : List ℕ) (width : ℕ) (es : List Expr) (ns : List ℕ) → IsTypedOp op ws width → Means env es ws ns →
    Operates env (Apply op width es) width (op_value op (zip ws ns) width) (total cost es + 4)
operates laws env op ws width es ns typed m = record {
  typed = width-apply (widths env) op width es ∙ applied_again (λ ins. is_typed_op op ins width) (all_some (map (expr_width (widths env)) es)) width width (record {
    ins = ws;
    are = ap all_some (good_widths env es m.good ∙ ap (λ fs. map Some (widths fs)) m.values ∙ ap (map Some) (widths-zip ws ns m.fits)) ∙ all_some_of ws;
    takes_them = (laws.tested op ws width).1 typed;
    is = refl;
  });
  value = value-apply env op width es ∙ ap (λ fs. (width, op_value op fs width)) m.values;
  depth = omega (arith, depth-apply op width es, largest_depth env es m.good);
  other = place-apply op width es;
  size = omega (arith, size-apply op width es, total-map expr_size es, args_size es, counted env es ws ns m, (laws.few op ws width typed).1);
}

-- what is bound at once
bound_wire : (start : List (ℕ × ℕ)) (fields : ℕ) → fields ≡ length start → (binds : List Expr) (e : Expr) (width number spent : ℕ) → Sound start binds → Operates (environment start binds) e width number spent → number < 2 ^ width →
    NodeMeans start binds spent (record { binds = binds ++ e ∷ []; wires = (Field (fields + length binds) ∷ []) ∷ [] }) (field width ∷ []) (single number ∷ [])
bound_wire start fields is_length binds e width number spent sound o fits =
    let env = environment start binds in
    let next = fields + length binds in
    let found : slice_get (environment start (binds ++ e ∷ [])) next ≡ Some (width, number) =
    ap (λ x. slice_get x next) (environment-more start binds e) ∙ ap (slice_get (env ++ expr_value env e ∷ [])) (next_is start binds fields is_length) ∙
    slice_get-seam env (expr_value env e) [] ∙ ap Some o.value in
    record {
      grows = grows_one start binds e;
      sound = sound_more start binds e width sound o.typed o.depth;
      row = (fields_mean (environment start (binds ++ e ∷ [])) (next ∷ []) (field width) (single number) (ap (λ x. x ∷ []) found) (fits, tt), tt);
      size = omega (arith, total-append expr_size binds (e ∷ []), o.size, cost-field (Field next) next (place-field next));
    }

-- what need not be bound
free_wire : (start : List (ℕ × ℕ)) (binds : List Expr) (e : Expr) (width number spent : ℕ) → Sound start binds → Operates (environment start binds) e width number spent → number < 2 ^ width → expr_depth e ≤ 63 →
    NodeMeans start binds spent (record { binds = binds; wires = (e ∷ []) ∷ [] }) (field width ∷ []) (single number ∷ [])
free_wire start binds e width number spent sound o fits shallow = record {
  grows = grows_not start binds;
  sound = sound;
  row = (
    record {
      good = (record { width = o.typed ∙ ap (λ (f : ℕ × ℕ). Some f.0) (sym o.value); depth = shallow }, tt);
      values = ap (λ f. f ∷ []) o.value;
      fits = (fits, tt);
    },
    tt,
  );
  size = omega (arith, o.size, cost-other e o.other);
}

operator_by : (start : List (ℕ × ℕ)) (fields : ℕ) → fields ≡ length start → (binds : List Expr) (e : Expr) (width number spent : ℕ) → Sound start binds → Operates (environment start binds) e width number spent → number < 2 ^ width →
    (b : Bool) → (expr_depth e == 64) ≡ b → NodeMeans start binds spent (if b then record { binds = binds ++ e ∷ []; wires = (Field (fields + length binds) ∷ []) ∷ [] } else record { binds = binds; wires = (e ∷ []) ∷ [] }) (field width ∷ []) (single number ∷ [])
operator_by start fields is_length binds e width number spent sound o fits true h = bound_wire start fields is_length binds e width number spent sound o fits
operator_by start fields is_length binds e width number spent sound o fits false h =
    let ne = eqb-false (expr_depth e) 64 h in
    free_wire start binds e width number spent sound o fits (omega (arith, o.depth, ne))

pub operator_means : (start : List (ℕ × ℕ)) (fields : ℕ) → fields ≡ length start → (binds : List Expr) (e : Expr) (width number spent : ℕ) → Sound start binds → Operates (environment start binds) e width number spent → number < 2 ^ width →
    NodeMeans start binds spent (operator_wire fields e binds) (field width ∷ []) (single number ∷ [])
operator_means start fields is_length binds e width number spent sound o fits = operator_by start fields is_length binds e width number spent sound o fits (expr_depth e == 64) refl

-- literals
lit_typed : (ws : List ℕ) (width number : ℕ) → width ≤ 64 → number < 2 ^ width → expr_width ws (Lit width number) ≡ Some width
lit_typed ws width number narrow fits =
    width-lit ws width number ∙ ap (λ b. if b then Some width else None) (and_from (nat_le width 64) (nat_lt number (2 ^ width)) (le-leb width 64 narrow) (lt-ltb number (2 ^ width) fits))

pub lit_good : (env : List (ℕ × ℕ)) (width number : ℕ) → width ≤ 64 → number < 2 ^ width → Good env (Lit width number)
lit_good env width number narrow fits = record {
  width = lit_typed (widths env) width number narrow fits ∙ ap (λ (f : ℕ × ℕ). Some f.0) (sym (value-lit env width number));
  depth = omega (arith, depth-lit width number);
}

pub zeros_mean : (env : List (ℕ × ℕ)) (shape : Shape) → Each (λ width. width ≤ 64) shape → Means env (map (λ width. Lit width 0) shape) shape (map (λ width. 0) shape)
zeros_mean env [] h = record { good = tt; values = refl; fits = tt }
zeros_mean env (w ∷ shape) h =
    let rest = zeros_mean env shape h.1 in
    record {
      good = (lit_good env w 0 h.0 (pow_pos w), rest.good);
      values = ap (λ f. f ∷ map (expr_value env) (map (λ width. Lit width 0) shape)) (value-lit env w 0) ∙ ap (λ fs. (w, 0) ∷ fs) rest.values;
      fits = (pow_pos w, rest.fits);
    }

pub cost-lit : (width number : ℕ) → cost (Lit width number) ≡ 1
cost-lit width number = cost-other (Lit width number) (place-lit width number) ∙ size-lit width number

pub cost-zeros : (shape : Shape) → total cost (map (λ width. Lit width 0) shape) ≡ length shape
cost-zeros [] = refl
cost-zeros (w ∷ shape) = omega (arith, cost-lit w 0, cost-zeros shape)

-- a Fork of wires that were settled
pub fork_means : (start : List (ℕ × ℕ)) (binds es : List Expr) (p : Places) (shape : Shape) (v : Token) (count : ℕ) → Settles start binds es p → Means (environment start binds) es shape v →
    NodeMeans start binds (total cost es) (fork_wires count p) (replicate count shape) (replicate count v)
fork_means start binds es p shape v count s m = record {
  grows = s.grows;
  sound = s.sound;
  row = row_replicate (environment start p.binds) (map Field p.places) shape v count
      (fields_mean (environment start p.binds) p.places shape v (s.hold ∙ ap (map Some) m.values) m.fits);
  size = omega (arith, s.size, cost-replicate count (map Field p.places) (cost-fields p.places));
}
