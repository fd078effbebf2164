-- The outputs of a table differ, and so do the places that name each of them once.
use Rattle.std.proofs.Common.{◌≡◌, ◌≢◌, ℕ, zero, suc, ◌+◌, ◌<◌, ◌≤◌, Bool, true, false, List, [], ◌∷◌, ◌++◌, refl, ap, ◌∙◌, arith}
use Rattle.std.specs.Prelude.{◌==◌, ◌&&◌, IsPermutation}
use Rattle.std.proofs.lemmas.Bool.{eqb-true, eqb-false, eq-eqb, and_parts}
use Rattle.fun_expr.specs.Each.{Each, total}
use Rattle.components.specs.Kind.{Shape}
use Rattle.loop_body.specs.declared.body_port.BodyPort.{BodyPort}
use Rattle.loop_body.specs.Body.{row_ports, table_ports}
use Rattle.loop_body.specs.Tables.{Differ}
use Rattle.loop_body.proofs.ExprLists.{total-append}
use Rattle.loop_body.proofs.Uses.{total_permuted}

-- 1 for the same output
abbrev pub count_if : Bool → ℕ
count_if true = 1
count_if false = 0

unfoldable pub hit : BodyPort → BodyPort → ℕ
hit p q = count_if ((q.node == p.node) && (q.port == p.port))

hit_few : (p q : BodyPort) → hit p q ≤ 1
unfolding hit
hit_few p q = few ((q.node == p.node) && (q.port == p.port))
  where
    few : (b : Bool) → count_if b ≤ 1
    few true = omega arith
    few false = omega arith

hit_self : (p q : BodyPort) → q ≡ p → hit p q ≡ 1
unfolding hit
hit_self p q e =
    let node : (q.node == p.node) ≡ true = eq-eqb q.node p.node (ap (λ (x : BodyPort). x.node) e) in
    let port : (q.port == p.port) ≡ true = eq-eqb q.port p.port (ap (λ (x : BodyPort). x.port) e) in
    ap (λ b. count_if (b && (q.port == p.port))) node ∙ ap (λ b. count_if (true && b)) port

-- what a hit tells
hit_is : (p q : BodyPort) → hit p q ≡ 1 → (q.node ≡ p.node) × (q.port ≡ p.port)
unfolding hit
hit_is p q h = told ((q.node == p.node) && (q.port == p.port)) refl h
  where
    told : (b : Bool) → ((q.node == p.node) && (q.port == p.port)) ≡ b → count_if b ≡ 1 → (q.node ≡ p.node) × (q.port ≡ p.port)
    told true e k = let parts = and_parts (q.node == p.node) (q.port == p.port) e in (eqb-true q.node p.node parts.0, eqb-true q.port p.port parts.1)
    told false e k = absurd (omega (arith, k))

hit_not : (p q : BodyPort) → ((q.node ≡ p.node) × (q.port ≡ p.port) → ⊥) → hit p q ≡ 0
hit_not p q n = by (hit p q) refl (hit_few p q)
  where
    by : (k : ℕ) → hit p q ≡ k → k ≤ 1 → hit p q ≡ 0
    by zero e le = e
    by (suc k) e le = absurd (n (hit_is p q (omega (arith, e, le))))

-- no hit, no such output
none_hit : (p : BodyPort) (ports : List BodyPort) → total (hit p) ports ≡ 0 → Each (λ q. q ≢ p) ports
none_hit p [] h = tt
none_hit p (q ∷ ports) h = (λ e. let one = hit_self p q e in omega (arith, one, h), none_hit p ports (omega (arith, h)))

pub once_differ : (ports : List BodyPort) → ((p : BodyPort) → total (hit p) ports ≤ 1) → Differ ports
once_differ [] h = tt
once_differ (p ∷ ports) h = (none_hit p ports (omega (arith, h p, hit_self p p refl)), once_differ ports (λ q. omega (arith, h q)))

-- a row
row_past : (p : BodyPort) (node port : ℕ) (row : List Shape) → p.port < port → total (hit p) (row_ports node port row) ≡ 0
row_past p node port [] h = refl
row_past p node port (s ∷ row) h = omega (arith, hit_not p (record { node = node; port = port }) (λ e. omega (arith, e.1, h)), row_past p node (port + 1) row (omega (arith, h)))

row_other : (p : BodyPort) (node port : ℕ) (row : List Shape) → node ≢ p.node → total (hit p) (row_ports node port row) ≡ 0
row_other p node port [] n = refl
row_other p node port (s ∷ row) n = omega (arith, hit_not p (record { node = node; port = port }) (λ e. n e.0), row_other p node (port + 1) row n)

row_once : (p : BodyPort) (node port : ℕ) (row : List Shape) → total (hit p) (row_ports node port row) ≤ 1
row_once p node port [] = omega arith
row_once p node port (s ∷ row) = by (row_once p node (port + 1) row) (hit p (record { node = node; port = port })) refl (hit_few p (record { node = node; port = port }))
  where
    by : total (hit p) (row_ports node (port + 1) row) ≤ 1 → (k : ℕ) → hit p (record { node = node; port = port }) ≡ k → k ≤ 1 → hit p (record { node = node; port = port }) + total (hit p) (row_ports node (port + 1) row) ≤ 1
    by rest zero e le = omega (arith, e, rest)
    by rest (suc k) e le =
        let here = (hit_is p (record { node = node; port = port }) (omega (arith, e, le))).1 in
        omega (arith, e, le, row_past p node (port + 1) row (omega (arith, here)))

-- a table
table_past : (p : BodyPort) (node : ℕ) (rows : List (List Shape)) → p.node < node → total (hit p) (table_ports node rows) ≡ 0
table_past p node [] h = refl
table_past p node (row ∷ rows) h =
    omega (arith, total-append (hit p) (row_ports node 1 row) (table_ports (node + 1) rows), row_other p node 1 row (λ e. omega (arith, e, h)), table_past p (node + 1) rows (omega (arith, h)))

table_once : (p : BodyPort) (node : ℕ) (rows : List (List Shape)) → total (hit p) (table_ports node rows) ≤ 1
table_once p node [] = omega arith
table_once p node (row ∷ rows) = by (table_once p (node + 1) rows) (node == p.node) refl
  where
    by : total (hit p) (table_ports (node + 1) rows) ≤ 1 → (b : Bool) → (node == p.node) ≡ b → total (hit p) (row_ports node 1 row ++ table_ports (node + 1) rows) ≤ 1
    by rest true e =
        let here = eqb-true node p.node e in
        omega (arith, total-append (hit p) (row_ports node 1 row) (table_ports (node + 1) rows), row_once p node 1 row, table_past p (node + 1) rows (omega (arith, here)))
    by rest false e =
        omega (arith, total-append (hit p) (row_ports node 1 row) (table_ports (node + 1) rows), row_other p node 1 row (eqb-false node p.node e), rest)

-- the places that name each output once
pub uses_differ : (uses : List BodyPort) (rows : List (List Shape)) → IsPermutation uses (table_ports 0 rows) → Differ uses
uses_differ uses rows h = once_differ uses (λ p. omega (arith, total_permuted (hit p) uses (table_ports 0 rows) h, table_once p 0 rows))
