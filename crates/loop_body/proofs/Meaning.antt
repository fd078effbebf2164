-- What wires stand for: expressions whose values are the fields of the wire's token.
use Rattle.std.proofs.Common.{◌≡◌, ℕ, zero, suc, ◌+◌, ◌≤◌, List, [], ◌∷◌, ◌++◌, map, length, replicate, take, drop, refl, ap, sym, ◌∙◌, subst, arith}
use Rattle.std.specs.List.{concat, zip}
use Rattle.port_types.specs.Token.{Fits}
use Rattle.components.specs.Kind.{Shape, field}
use Rattle.circuits.specs.PortTokens.{Token}
use Rattle.fun_expr.specs.Each.{Each, total}
use Rattle.fun_expr.specs.Expr.{expr_value}
use Rattle.fun_expr.specs.declared.expr.Expr.{Expr}
use Rattle.loop_body.proofs.ExprLists.{each_append, total-append}
use Rattle.loop_body.specs.Body.{flat}
use Rattle.loop_body.specs.BodyFunction.{cut}
use Rattle.loop_body.proofs.Lists.{append_nil, fits_append, fits_take, fits_drop}
use Rattle.loop_body.proofs.Giving.{only, number_of}
use Rattle.loop_body.proofs.Binding.{Good, all_good_behind, good_values, cost}

pub record Means (env : List (ℕ × ℕ)) (es : List Expr) (shape : Shape) (v : Token) : Type 0 where
  pub good : Each (Good env) es
  pub values : map (expr_value env) es ≡ zip shape v
  pub fits : Fits shape v

-- the wires of a row, in order
abbrev pub RowMeans : List (ℕ × ℕ) → List (List Expr) → List Shape → List Token → Type 0
RowMeans env [] [] [] = Unit {0}
RowMeans env [] [] (v ∷ vs) = ⊥
RowMeans env [] (s ∷ ss) vs = ⊥
RowMeans env (w ∷ ws) [] vs = ⊥
RowMeans env (w ∷ ws) (s ∷ ss) [] = ⊥
RowMeans env (w ∷ ws) (s ∷ ss) (v ∷ vs) = Means env w s v × RowMeans env ws ss vs

pub means_behind : (env more : List (ℕ × ℕ)) (es : List Expr) (shape : Shape) (v : Token) → Means env es shape v → Means (env ++ more) es shape v
means_behind env more es shape v m = record { good = all_good_behind env more es m.good; values = good_values env more es m.good ∙ m.values; fits = m.fits }

pub row_behind : (env more : List (ℕ × ℕ)) (ws : List (List Expr)) (ss : List Shape) (vs : List Token) → RowMeans env ws ss vs → RowMeans (env ++ more) ws ss vs
row_behind env more [] [] [] h = tt
row_behind env more [] [] (v ∷ vs) h = absurd h
row_behind env more [] (s ∷ ss) vs h = absurd h
row_behind env more (w ∷ ws) [] vs h = absurd h
row_behind env more (w ∷ ws) (s ∷ ss) [] h = absurd h
row_behind env more (w ∷ ws) (s ∷ ss) (v ∷ vs) h = (means_behind env more w s v h.0, row_behind env more ws ss vs h.1)

-- lists
pub zip-append : (a b : Shape) (v w : Token) → Fits a v → zip (a ++ b) (v ++ w) ≡ zip a v ++ zip b w
zip-append [] b [] w h = refl
zip-append [] b (n ∷ v) w h = absurd h
zip-append (x ∷ a) b [] w h = absurd h
zip-append (x ∷ a) b (n ∷ v) w h = ap (λ fs. (x, n) ∷ fs) (zip-append a b v w h.1)

pub map-append : {A B : Type 0} (f : A → B) (xs ys : List A) → map f (xs ++ ys) ≡ map f xs ++ map f ys
map-append f [] ys = refl
map-append f (x ∷ xs) ys = ap (λ zs. f x ∷ zs) (map-append f xs ys)

map-take : {A B : Type 0} (f : A → B) (n : ℕ) (xs : List A) → map f (take n xs) ≡ take n (map f xs)
map-take f zero xs = refl
map-take f (suc n) [] = refl
map-take f (suc n) (x ∷ xs) = ap (λ ys. f x ∷ ys) (map-take f n xs)

map-drop : {A B : Type 0} (f : A → B) (n : ℕ) (xs : List A) → map f (drop n xs) ≡ drop n (map f xs)
map-drop f zero xs = refl
map-drop f (suc n) [] = refl
map-drop f (suc n) (x ∷ xs) = map-drop f n xs

zip-take : (a b : Shape) (v : Token) → Fits (a ++ b) v → take (length a) (zip (a ++ b) v) ≡ zip a (take (length a) v)
zip-take [] b v h = refl
zip-take (x ∷ a) b [] h = absurd h
zip-take (x ∷ a) b (n ∷ v) h = ap (λ fs. (x, n) ∷ fs) (zip-take a b v h.1)

zip-drop : (a b : Shape) (v : Token) → Fits (a ++ b) v → drop (length a) (zip (a ++ b) v) ≡ zip b (drop (length a) v)
zip-drop [] b v h = refl
zip-drop (x ∷ a) b [] h = absurd h
zip-drop (x ∷ a) b (n ∷ v) h = zip-drop a b v h.1

each_take : {A : Type 0} (P : A → Type 0) (n : ℕ) (xs : List A) → Each P xs → Each P (take n xs)
each_take P zero xs h = tt
each_take P (suc n) [] h = tt
each_take P (suc n) (x ∷ xs) h = (h.0, each_take P n xs h.1)

each_drop : {A : Type 0} (P : A → Type 0) (n : ℕ) (xs : List A) → Each P xs → Each P (drop n xs)
each_drop P zero xs h = h
each_drop P (suc n) [] h = tt
each_drop P (suc n) (x ∷ xs) h = each_drop P n xs h.1

-- several wires as one
pub row_flat : (env : List (ℕ × ℕ)) (ws : List (List Expr)) (ss : List Shape) (vs : List Token) → RowMeans env ws ss vs → Means env (flat ws) (concat ss) (concat vs)
row_flat env [] [] [] h = record { good = tt; values = refl; fits = tt }
row_flat env [] [] (v ∷ vs) h = absurd h
row_flat env [] (s ∷ ss) vs h = absurd h
row_flat env (w ∷ ws) [] vs h = absurd h
row_flat env (w ∷ ws) (s ∷ ss) [] h = absurd h
row_flat env (w ∷ ws) (s ∷ ss) (v ∷ vs) h =
    let rest = row_flat env ws ss vs h.1 in
    record {
      good = each_append (Good env) w (flat ws) h.0.good rest.good;
      values = map-append (expr_value env) w (flat ws) ∙ ap (λ x. x ++ map (expr_value env) (flat ws)) h.0.values ∙ ap (λ x. zip s v ++ x) rest.values ∙ sym (zip-append s (concat ss) v (concat vs) h.0.fits);
      fits = fits_append s (concat ss) v (concat vs) h.0.fits rest.fits;
    }

-- the only wire
pub row_only : (env : List (ℕ × ℕ)) (ws : List (List Expr)) (shape : Shape) (vs : List Token) → RowMeans env ws (shape ∷ []) vs → Means env (flat ws) shape (only vs)
row_only env [] shape vs h = absurd h
row_only env (w ∷ ws) shape [] h = absurd h
row_only env (w ∷ []) shape (v ∷ []) h = subst (λ es. Means env es shape v) (sym (append_nil w)) h.0
row_only env (w ∷ []) shape (v ∷ v' ∷ vs) h = absurd h.1
row_only env (w ∷ w' ∷ ws) shape (v ∷ vs) h = absurd h.1

-- one wire as several
pub row_cut : (env : List (ℕ × ℕ)) (es : List Expr) (ss : List Shape) (v : Token) → Means env es (concat ss) v → RowMeans env (cut ss es) ss (cut ss v)
row_cut env es [] v m = tt
row_cut env es (s ∷ ss) v m = (
  record {
    good = each_take (Good env) (length s) es m.good;
    values = map-take (expr_value env) (length s) es ∙ ap (take (length s)) m.values ∙ zip-take s (concat ss) v m.fits;
    fits = fits_take s (concat ss) v m.fits;
  },
  row_cut env (drop (length s) es) ss (drop (length s) v) (record {
    good = each_drop (Good env) (length s) es m.good;
    values = map-drop (expr_value env) (length s) es ∙ ap (drop (length s)) m.values ∙ zip-drop s (concat ss) v m.fits;
    fits = fits_drop s (concat ss) v m.fits;
  }),
)

-- the same wire several times
pub row_replicate : (env : List (ℕ × ℕ)) (es : List Expr) (shape : Shape) (v : Token) (count : ℕ) → Means env es shape v → RowMeans env (replicate count es) (replicate count shape) (replicate count v)
row_replicate env es shape v zero m = tt
row_replicate env es shape v (suc count) m = (m, row_replicate env es shape v count m)

-- operands: wires of one field each
pub row_operands : (env : List (ℕ × ℕ)) (ws : List (List Expr)) (widths : List ℕ) (vs : List Token) → RowMeans env ws (map field widths) vs → Means env (flat ws) widths (map number_of vs)
row_operands env [] [] [] h = record { good = tt; values = refl; fits = tt }
row_operands env [] [] (v ∷ vs) h = absurd h
row_operands env [] (x ∷ widths) vs h = absurd h
row_operands env (w ∷ ws) [] vs h = absurd h
row_operands env (w ∷ ws) (x ∷ widths) [] h = absurd h
row_operands env (w ∷ ws) (x ∷ widths) ([] ∷ vs) h = absurd h.0.fits
row_operands env (w ∷ ws) (x ∷ widths) ((n ∷ m ∷ v) ∷ vs) h = absurd h.0.fits.1
row_operands env (w ∷ ws) (x ∷ widths) ((n ∷ []) ∷ vs) h =
    let rest = row_operands env ws widths vs h.1 in
    record {
      good = each_append (Good env) w (flat ws) h.0.good rest.good;
      values = map-append (expr_value env) w (flat ws) ∙ ap (λ y. y ++ map (expr_value env) (flat ws)) h.0.values ∙ ap (λ fs. (x, n) ∷ fs) rest.values;
      fits = (h.0.fits.0, rest.fits);
    }

-- costs
abbrev pub row_cost : List (List Expr) → ℕ
row_cost ws = total (total cost) ws

pub cost-flat : (ws : List (List Expr)) → total cost (flat ws) ≡ row_cost ws
cost-flat [] = refl
cost-flat (w ∷ ws) = total-append cost w (flat ws) ∙ ap (λ n. total cost w + n) (cost-flat ws)

total-take-drop : {A : Type 0} (f : A → ℕ) (n : ℕ) (xs : List A) → total f (take n xs) + total f (drop n xs) ≡ total f xs
total-take-drop f zero xs = omega arith
total-take-drop f (suc n) [] = omega arith
total-take-drop f (suc n) (x ∷ xs) = omega (arith, total-take-drop f n xs)

pub cost-cut : (ss : List Shape) (es : List Expr) → row_cost (cut ss es) ≤ total cost es
cost-cut [] es = omega arith
cost-cut (s ∷ ss) es = omega (arith, cost-cut ss (drop (length s) es), total-take-drop cost (length s) es)
