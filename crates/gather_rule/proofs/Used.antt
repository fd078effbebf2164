-- Each output of a body is named once: the places that name outputs differ, and each output is among them.
use Rattle.std.proofs.Common.{◌≡◌, ◌≢◌, ℕ, zero, suc, ◌+◌, ◌<◌, ◌≤◌, Bool, true, false, List, [], ◌∷◌, ◌++◌, Some, refl, sym, ap, ◌∙◌, arith}
use Rattle.std.specs.Prelude.{◌==◌, ◌&&◌, IsPermutation, slice_get, fold}
use Rattle.std.proofs.lemmas.Bool.{eqb-true, eqb-false, eq-eqb, and_parts}
use Rattle.std.proofs.lemmas.List.Sorted.{sum_by-IsPermutation}
use Rattle.std.proofs.lemmas.Option.{none-some}
use Rattle.fun_expr.specs.Each.{Each, total}
use Rattle.components.specs.Kind.{Shape}
use Rattle.components.specs.Name.{port_get}
use Rattle.circuits.specs.Replacing.{In, head, tail}
use Rattle.subst_engine.specs.Making.{AllDiffer}
use Rattle.loop_body.specs.declared.body_port.BodyPort.{BodyPort}
use Rattle.loop_body.specs.Body.{in_row, entry, row_ports, table_ports}

-- 1 for the same output
abbrev pub count_if : Bool → ℕ
count_if true = 1
count_if false = 0

unfoldable pub hit : BodyPort → BodyPort → ℕ
hit p q = count_if ((q.node == p.node) && (q.port == p.port))

hit_few : (p q : BodyPort) → hit p q ≤ 1
unfolding hit
hit_few p q = few ((q.node == p.node) && (q.port == p.port))
  where
    few : (b : Bool) → count_if b ≤ 1
    few true = omega arith
    few false = omega arith

hit_self : (p q : BodyPort) → p ≡ q → hit p q ≡ 1
unfolding hit
hit_self p q e =
    let node : (q.node == p.node) ≡ true = eq-eqb q.node p.node (ap (λ (x : BodyPort). x.node) (sym e)) in
    let port : (q.port == p.port) ≡ true = eq-eqb q.port p.port (ap (λ (x : BodyPort). x.port) (sym e)) in
    ap (λ b. count_if (b && (q.port == p.port))) node ∙ ap (λ b. count_if (true && b)) port

-- what a hit tells
hit_is : (p q : BodyPort) → hit p q ≡ 1 → (q.node ≡ p.node) × (q.port ≡ p.port)
unfolding hit
hit_is p q h = told ((q.node == p.node) && (q.port == p.port)) refl h
  where
    told : (b : Bool) → ((q.node == p.node) && (q.port == p.port)) ≡ b → count_if b ≡ 1 → (q.node ≡ p.node) × (q.port ≡ p.port)
    told true e k = let parts = and_parts (q.node == p.node) (q.port == p.port) e in (eqb-true q.node p.node parts.0, eqb-true q.port p.port parts.1)
    told false e k = absurd (omega (arith, k))

hit_not : (p q : BodyPort) → ((q.node ≡ p.node) × (q.port ≡ p.port) → ⊥) → hit p q ≡ 0
hit_not p q n = by (hit p q) refl (hit_few p q)
  where
    by : (k : ℕ) → hit p q ≡ k → k ≤ 1 → hit p q ≡ 0
    by zero e le = e
    by (suc k) e le = absurd (n (hit_is p q (omega (arith, e, le))))

total_both : {A : Type 0} (f : A → ℕ) (xs ys : List A) → total f (xs ++ ys) ≡ total f xs + total f ys
total_both f [] ys = omega arith
total_both f (x ∷ xs) ys = omega (arith, total_both f xs ys)

fold_total : {A : Type 0} (f : A → ℕ) (n : ℕ) (xs : List A) → fold (λ a x. a + f x) n xs ≡ n + total f xs
fold_total f n [] = omega arith
fold_total f n (x ∷ xs) = omega (arith, fold_total f (n + f x) xs)

total_permuted : {A : Type 0} (f : A → ℕ) (xs ys : List A) → IsPermutation xs ys → total f xs ≡ total f ys
total_permuted f xs ys h = omega (arith, sum_by-IsPermutation f xs ys h, fold_total f 0 xs, fold_total f 0 ys)

none_hit : (p : BodyPort) (ports : List BodyPort) → total (hit p) ports ≡ 0 → Each (λ q. p ≢ q) ports
none_hit p [] h = tt
none_hit p (q ∷ ports) h = (λ e. let one = hit_self p q e in omega (arith, one, h), none_hit p ports (omega (arith, h)))

once_differ : (ports : List BodyPort) → ((p : BodyPort) → total (hit p) ports ≤ 1) → AllDiffer ports
once_differ [] h = tt
once_differ (p ∷ ports) h = (none_hit p ports (omega (arith, h p, hit_self p p refl)), once_differ ports (λ q. omega (arith, h q)))

-- a row
row_past : (p : BodyPort) (node port : ℕ) (row : List Shape) → p.port < port → total (hit p) (row_ports node port row) ≡ 0
row_past p node port [] h = refl
row_past p node port (s ∷ row) h = omega (arith, hit_not p (record { node = node; port = port }) (λ e. omega (arith, e.1, h)), row_past p node (port + 1) row (omega (arith, h)))

row_other : (p : BodyPort) (node port : ℕ) (row : List Shape) → node ≢ p.node → total (hit p) (row_ports node port row) ≡ 0
row_other p node port [] n = refl
row_other p node port (s ∷ row) n = omega (arith, hit_not p (record { node = node; port = port }) (λ e. n e.0), row_other p node (port + 1) row n)

row_once : (p : BodyPort) (node port : ℕ) (row : List Shape) → total (hit p) (row_ports node port row) ≤ 1
row_once p node port [] = omega arith
row_once p node port (s ∷ row) = by (row_once p node (port + 1) row) (hit p (record { node = node; port = port })) refl (hit_few p (record { node = node; port = port }))
  where
    by : total (hit p) (row_ports node (port + 1) row) ≤ 1 → (k : ℕ) → hit p (record { node = node; port = port }) ≡ k → k ≤ 1 → hit p (record { node = node; port = port }) + total (hit p) (row_ports node (port + 1) row) ≤ 1
    by rest zero e le = omega (arith, e, rest)
    by rest (suc k) e le =
        let here = (hit_is p (record { node = node; port = port }) (omega (arith, e, le))).1 in
        omega (arith, e, le, row_past p node (port + 1) row (omega (arith, here)))

-- a table
table_past : (p : BodyPort) (node : ℕ) (rows : List (List Shape)) → p.node < node → total (hit p) (table_ports node rows) ≡ 0
table_past p node [] h = refl
table_past p node (row ∷ rows) h =
    omega (arith, total_both (hit p) (row_ports node 1 row) (table_ports (node + 1) rows), row_other p node 1 row (λ e. omega (arith, e, h)), table_past p (node + 1) rows (omega (arith, h)))

table_once : (p : BodyPort) (node : ℕ) (rows : List (List Shape)) → total (hit p) (table_ports node rows) ≤ 1
table_once p node [] = omega arith
table_once p node (row ∷ rows) = by (table_once p (node + 1) rows) (node == p.node) refl
  where
    by : total (hit p) (table_ports (node + 1) rows) ≤ 1 → (b : Bool) → (node == p.node) ≡ b → total (hit p) (row_ports node 1 row ++ table_ports (node + 1) rows) ≤ 1
    by rest true e =
        let here = eqb-true node p.node e in
        omega (arith, total_both (hit p) (row_ports node 1 row) (table_ports (node + 1) rows), row_once p node 1 row, table_past p (node + 1) rows (omega (arith, here)))
    by rest false e =
        omega (arith, total_both (hit p) (row_ports node 1 row) (table_ports (node + 1) rows), row_other p node 1 row (eqb-false node p.node e), rest)

-- the places that name each output once differ
pub uses_differ : (uses : List BodyPort) (rows : List (List Shape)) → IsPermutation uses (table_ports 0 rows) → AllDiffer uses
uses_differ uses rows h = once_differ uses (λ p. omega (arith, total_permuted (hit p) uses (table_ports 0 rows) h, table_once p 0 rows))

-- each output is in the table

hit_in : (x y : BodyPort) (ys : List BodyPort) (k : ℕ) → hit x y ≡ k → k ≤ 1 → 1 ≤ hit x y + total (hit x) ys → (1 ≤ total (hit x) ys → In x ys) → In x (y ∷ ys)
hit_in x y ys zero e le h rest = tail (rest (omega (arith, e, h)))
hit_in x y ys (suc k) e le h rest = let same = hit_is x y (omega (arith, e, le)) in head (λ i. record { node = sym same.0 i; port = sym same.1 i })

has_once : (x : BodyPort) (xs : List BodyPort) → 1 ≤ total (hit x) xs → In x xs
has_once x [] h = absurd (omega (arith, h))
has_once x (y ∷ ys) h = hit_in x y ys (hit x y) refl (hit_few x y) h (has_once x ys)

row_hit : (p : BodyPort) (node start : ℕ) (row : List Shape) (j : ℕ) (a : Shape) → node ≡ p.node → port_get row (suc j) ≡ Some a → p.port ≡ start + j → 1 ≤ total (hit p) (row_ports node start row)
row_hit p node start [] j a n e at = absurd (none-some a e)
row_hit p node start (s ∷ row) zero a n e at =
    let same : p ≡ record { node = node; port = start } = λ i. record { node = sym n i; port = port i } in
    omega (arith, hit_self p (record { node = node; port = start }) same)
  where
    port : p.port ≡ start
    port = omega (arith, at)
row_hit p node start (s ∷ row) (suc j) a n e at = omega (arith, row_hit p node (start + 1) row j a n e (omega (arith, at)))

row_has : (p : BodyPort) (node port : ℕ) (row : List Shape) (a : Shape) → p.port ≡ port → node ≡ p.node → port_get row port ≡ Some a → 1 ≤ total (hit p) (row_ports node 1 row)
row_has p node port [] a is n e = absurd (none-some a e)
row_has p node zero (s ∷ row) a is n e = absurd (none-some a e)
row_has p node (suc j) (s ∷ row) a is n e = row_hit p node 1 (s ∷ row) j a n e (omega (arith, is))

table_has : (p : BodyPort) (node : ℕ) (rows : List (List Shape)) (k : ℕ) (a : Shape) → p.node ≡ node + k → in_row p.port (slice_get rows k) ≡ Some a → 1 ≤ total (hit p) (table_ports node rows)
table_has p node [] k a at e = absurd (none-some a e)
table_has p node (row ∷ rows) zero a at e =
    let here = row_has p node p.port row a refl (omega (arith, at)) e in omega (arith, total_both (hit p) (row_ports node 1 row) (table_ports (node + 1) rows), here)
table_has p node (row ∷ rows) (suc k) a at e =
    let there = table_has p (node + 1) rows k a (omega (arith, at)) e in omega (arith, total_both (hit p) (row_ports node 1 row) (table_ports (node + 1) rows), there)

-- and so among the places that name outputs
pub used : (uses : List BodyPort) (rows : List (List Shape)) → IsPermutation uses (table_ports 0 rows) → (p : BodyPort) (a : Shape) → entry rows p ≡ Some a → In p uses
used uses rows h p a e = has_once p uses (omega (arith, total_permuted (hit p) uses (table_ports 0 rows) h, table_has p 0 rows p.node a (omega arith) e))
