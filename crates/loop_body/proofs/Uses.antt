-- Each output is used once: sums over what is used are sums over the table.
use Rattle.std.proofs.Common.{◌≡◌, ℕ, suc, ◌+◌, List, [], ◌∷◌, ◌++◌, map, length, Some, refl, ap, sym, ◌∙◌, arith, append_assoc}
use Rattle.std.specs.Prelude.{slice_get, unwrap_or, IsPermutation, fold}
use Rattle.std.proofs.lemmas.List.Sorted.{All-permutation, IsPermutation-sym, sum_by-IsPermutation}
use Rattle.std.proofs.lemmas.List.Elements.{All-from_recursion, recursion_from_All}
use Rattle.components.specs.Kind.{Shape}
use Rattle.components.specs.Name.{port_get}
use Rattle.circuits.specs.PortTokens.{Token}
use Rattle.fun_expr.specs.Each.{Each, total}
use Rattle.fun_expr.specs.declared.expr.Expr.{Expr}
use Rattle.loop_body.proofs.ExprLists.{total-append}
use Rattle.loop_body.specs.declared.body_port.BodyPort.{BodyPort}
use Rattle.loop_body.specs.Body.{Body, in_row, entry, row_ports, table_ports, uses, shapes, flat}
use Rattle.loop_body.specs.BodyFunction.{wire_at}
use Rattle.loop_body.proofs.Tables.{slice_get-seam}
use Rattle.loop_body.proofs.Binding.{cost}
use Rattle.loop_body.proofs.Meaning.{RowMeans, map-append, row_cost}
use Rattle.loop_body.proofs.Bodies.{TableMeans, table_cost, used_cost}

-- rows of equal lengths
abbrev pub SameLengths : {A B : Type 0} → List (List A) → List (List B) → Type 0
SameLengths [] [] = Unit {0}
SameLengths [] (y ∷ ys) = ⊥
SameLengths (x ∷ xs) [] = ⊥
SameLengths (x ∷ xs) (y ∷ ys) = (length x ≡ length y) × SameLengths xs ys

same_lengths : {A : Type 0} (xs : List (List A)) → SameLengths xs xs
same_lengths [] = tt
same_lengths (x ∷ xs) = (refl, same_lengths xs)

row_length : (env : List (ℕ × ℕ)) (ws : List (List Expr)) (ss : List Shape) (vs : List Token) → RowMeans env ws ss vs → length ws ≡ length ss
row_length env [] [] [] h = refl
row_length env [] [] (v ∷ vs) h = absurd h
row_length env [] (s ∷ ss) vs h = absurd h
row_length env (w ∷ ws) [] vs h = absurd h
row_length env (w ∷ ws) (s ∷ ss) [] h = absurd h
row_length env (w ∷ ws) (s ∷ ss) (v ∷ vs) h = ap suc (row_length env ws ss vs h.1)

table_lengths : (env : List (ℕ × ℕ)) (ws : List (List (List Expr))) (ss : List (List Shape)) (vs : List (List Token)) → TableMeans env ws ss vs → SameLengths ws ss
table_lengths env [] [] [] h = tt
table_lengths env [] [] (v ∷ vs) h = absurd h
table_lengths env [] (s ∷ ss) vs h = absurd h
table_lengths env (w ∷ ws) [] vs h = absurd h
table_lengths env (w ∷ ws) (s ∷ ss) [] h = absurd h
table_lengths env (w ∷ ws) (s ∷ ss) (v ∷ vs) h = (row_length env w s v h.0, table_lengths env ws ss vs h.1)

-- the entries of a table in order
port_get-seam : {A : Type 0} (front : List A) (x : A) (xs : List A) → port_get (front ++ x ∷ xs) (suc (length front)) ≡ Some x
port_get-seam [] x xs = refl
port_get-seam (y ∷ front) x xs = port_get-seam front x xs

pub length-push : {A : Type 0} (xs : List A) (x : A) → length (xs ++ x ∷ []) ≡ length xs + 1
length-push [] x = refl
length-push (y ∷ xs) x = omega (arith, length-push xs x)

row_entries : {A : Type 0} (table : List (List A)) (node port : ℕ) (front row : List A) (shapes : List Shape) → slice_get table node ≡ Some (front ++ row) → port ≡ suc (length front) → length row ≡ length shapes →
    map (entry table) (row_ports node port shapes) ≡ map Some row
row_entries table node port front [] [] h k l = refl
row_entries table node port front [] (s ∷ shapes) h k l = absurd (omega arith)
row_entries table node port front (x ∷ row) [] h k l = absurd (omega arith)
row_entries table node port front (x ∷ row) (s ∷ shapes) h k l =
    let first : in_row port (slice_get table node) ≡ Some x = ap (in_row port) h ∙ ap (port_get (front ++ x ∷ row)) k ∙ port_get-seam front x row in
    ap (λ o. o ∷ map (entry table) (row_ports node (port + 1) shapes)) first ∙
    ap (λ os. Some x ∷ os) (row_entries table node (port + 1) (front ++ x ∷ []) row shapes (h ∙ ap Some (sym (append_assoc front (x ∷ []) row))) (omega (arith, k, length-push front x)) (omega arith))

pub table_entries : {A : Type 0} (front rows : List (List A)) (node : ℕ) (shapes : List (List Shape)) → node ≡ length front → SameLengths rows shapes → map (entry (front ++ rows)) (table_ports node shapes) ≡ map Some (flat rows)
table_entries front [] node [] h k = refl
table_entries front [] node (s ∷ shapes) h k = absurd k
table_entries front (r ∷ rows) node [] h k = absurd k
table_entries front (r ∷ rows) node (s ∷ shapes) h k =
    let here = row_entries (front ++ r ∷ rows) node 1 [] r s (ap (slice_get (front ++ r ∷ rows)) h ∙ slice_get-seam front r rows) refl k.0 in
    let later : map (entry (front ++ r ∷ rows)) (table_ports (node + 1) shapes) ≡ map Some (flat rows) =
    ap (λ t. map (entry t) (table_ports (node + 1) shapes)) (sym (append_assoc front (r ∷ []) rows)) ∙ table_entries (front ++ r ∷ []) rows (node + 1) shapes (omega (arith, h, length-push front r)) k.1 in
    map-append (entry (front ++ r ∷ rows)) (row_ports node 1 s) (table_ports (node + 1) shapes) ∙
    ap (λ x. x ++ map (entry (front ++ r ∷ rows)) (table_ports (node + 1) shapes)) here ∙ ap (λ x. map Some r ++ x) later ∙ sym (map-append Some r (flat rows))

-- what is used is there
pub record Found (b : Body) (p : BodyPort) : Type 0 where
  pub shape : Shape
  pub is : entry (shapes b) p ≡ Some shape

all_found : (b : Body) (ports : List BodyPort) (xs : List Shape) → map (entry (shapes b)) ports ≡ map Some xs → Each (Found b) ports
all_found b [] [] h = tt
all_found b [] (x ∷ xs) h = tt
all_found b (p ∷ ports) [] h = absurd cc
all_found b (p ∷ ports) (x ∷ xs) h = (record { shape = x; is = cc }, all_found b ports xs cc)

pub uses_found : (b : Body) → IsPermutation (uses b) (table_ports 0 (shapes b)) → Each (Found b) (uses b)
uses_found b h =
    let there = all_found b (table_ports 0 (shapes b)) (flat (shapes b)) (table_entries [] (shapes b) 0 (shapes b) refl (same_lengths (shapes b))) in
    recursion_from_All (Found b) (uses b) (All-permutation (Found b) (table_ports 0 (shapes b)) (uses b) (IsPermutation-sym (uses b) (table_ports 0 (shapes b)) h) (All-from_recursion (Found b) (table_ports 0 (shapes b)) there))

-- sums
fold_total : {A : Type 0} (f : A → ℕ) (n : ℕ) (xs : List A) → fold (λ a x. a + f x) n xs ≡ n + total f xs
fold_total f n [] = omega arith
fold_total f n (x ∷ xs) = omega (arith, fold_total f (n + f x) xs)

pub total_permuted : {A : Type 0} (f : A → ℕ) (xs ys : List A) → IsPermutation xs ys → total f xs ≡ total f ys
total_permuted f xs ys h = omega (arith, sum_by-IsPermutation f xs ys h, fold_total f 0 xs, fold_total f 0 ys)

pub total-map : {A B : Type 0} (f : B → ℕ) (g : A → B) (xs : List A) → total f (map g xs) ≡ total (λ x. f (g x)) xs
total-map f g [] = refl
total-map f g (x ∷ xs) = ap (λ n. f (g x) + n) (total-map f g xs)

total-flat : {A : Type 0} (f : A → ℕ) (xs : List (List A)) → total f (flat xs) ≡ total (total f) xs
total-flat f [] = refl
total-flat f (x ∷ xs) = total-append f x (flat xs) ∙ ap (λ n. total f x + n) (total-flat f xs)

wires_in_order : (ws : List (List (List Expr))) (ports : List BodyPort) (xs : List (List Expr)) → map (entry ws) ports ≡ map Some xs → map (wire_at ws) ports ≡ xs
wires_in_order ws [] [] h = refl
wires_in_order ws [] (x ∷ xs) h = absurd cc
wires_in_order ws (p ∷ ports) [] h = absurd cc
wires_in_order ws (p ∷ ports) (x ∷ xs) h =
    let first : entry ws p ≡ Some x = cc in
    let rest : map (entry ws) ports ≡ map Some xs = cc in
    ap (λ o. unwrap_or o [] ∷ map (wire_at ws) ports) first ∙ ap (λ ys. x ∷ ys) (wires_in_order ws ports xs rest)

used_total : (ws : List (List (List Expr))) (inputs : List (List BodyPort)) → total (λ p. total cost (wire_at ws p)) (flat inputs) ≡ used_cost ws inputs
used_total ws [] = refl
used_total ws (ports ∷ inputs) =
    total-append (λ p. total cost (wire_at ws p)) ports (flat inputs) ∙
    ap (λ n. n + total (λ p. total cost (wire_at ws p)) (flat inputs)) (sym (total-map (total cost) (wire_at ws) ports)) ∙
    ap (λ n. row_cost (map (wire_at ws) ports) + n) (used_total ws inputs)

-- all that is made is used once
pub made_is_used : (b : Body) → IsPermutation (uses b) (table_ports 0 (shapes b)) → (env : List (ℕ × ℕ)) (ws : List (List (List Expr))) (tokens : List (List Token)) → TableMeans env ws (shapes b) tokens →
    used_cost ws b.inputs + (row_cost (map (wire_at ws) b.next) + row_cost (map (wire_at ws) b.conditions)) ≡ table_cost ws
made_is_used b h env ws tokens means =
    let f = λ (p : BodyPort). total cost (wire_at ws p) in
    let in_order : map (wire_at ws) (table_ports 0 (shapes b)) ≡ flat ws = wires_in_order ws (table_ports 0 (shapes b)) (flat ws) (table_entries [] ws 0 (shapes b) refl (table_lengths env ws (shapes b) tokens means)) in
    let whole : total f (table_ports 0 (shapes b)) ≡ table_cost ws = sym (total-map (total cost) (wire_at ws) (table_ports 0 (shapes b))) ∙ ap (total (total cost)) in_order ∙ total-flat (total cost) ws in
    omega (
      arith,
      whole,
      total_permuted f (uses b) (table_ports 0 (shapes b)) h,
      total-append f (flat b.inputs ++ b.next) b.conditions,
      total-append f (flat b.inputs) b.next,
      used_total ws b.inputs,
      total-map (total cost) (wire_at ws) b.next,
      total-map (total cost) (wire_at ws) b.conditions,
    )
