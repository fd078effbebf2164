-- Marks on outputs: where each of a list of outputs gets its first mark and all outputs have one, the list names each once.
use Rattle.std.proofs.Common.{◌≡◌, ◌≢◌, ℕ, zero, suc, ◌+◌, ◌<◌, Bool, true, false, List, [], ◌∷◌, ◌++◌, map, length, replicate, Some, None, ◌⊎◌, inl, inr, refl, ap, sym, ◌∙◌, subst, arith, true≢false, append_assoc}
use Rattle.std.specs.Prelude.{Option, slice_get, slice_set, ◌&&◌, IsPermutation}
use Rattle.std.proofs.lemmas.Bool.{and_parts, cases_eq}
use Rattle.std.proofs.lemmas.List.Sorted.{All-permutation, IsPermutation-refl, IsPermutation-sym, IsPermutation-trans, IsPermutation-cons, IsPermutation-middle, length_permutation}
use Rattle.std.proofs.lemmas.List.Elements.{All-from_recursion, recursion_from_All}
use Rattle.fun_expr.specs.Each.{Each, total}
use Rattle.components.specs.Kind.{Shape}
use Rattle.components.specs.Name.{port_get}
use Rattle.loop_body.specs.declared.body_port.BodyPort.{BodyPort}
use Rattle.loop_body.specs.Body.{entry, in_row, flat, row_ports, table_ports}
use Rattle.loop_body.specs.Judging.{unmarked, is_fresh, mark_row, marked, marked_in, all_fresh}
use Rattle.loop_body.specs.Tables.{Differ}
use Rattle.loop_body.proofs.Lists.{some_inj, heads}
use Rattle.loop_body.proofs.Taking.{port_get-zero, port_get-index, set_other}
use Rattle.loop_body.proofs.Uses.{SameLengths, table_entries}
use Rattle.loop_body.proofs.Distinct.{uses_differ}

set_same : {A : Type 0} (xs : List A) (y x : A) (i : ℕ) → slice_get xs i ≡ Some x → slice_get (slice_set xs i y) i ≡ Some y
set_same [] y x i h = absurd cc
set_same (z ∷ xs) y x zero h = refl
set_same (z ∷ xs) y x (suc i) h = set_same xs y x i h

none_some : (o : Option Bool) (x : Bool) → o ≡ None → o ≡ Some x → ⊥
none_some o x e h = cc

-- an output is its node and its port
abbrev port_of : ℕ → ℕ → BodyPort
port_of node port = record { node = node; port = port }

pub port_same : (p q : BodyPort) → p.node ≡ q.node → p.port ≡ q.port → p ≡ q
port_same p q node port = ap (λ n. port_of n p.port) node ∙ ap (λ k. port_of q.node k) port

-- one mark
mark_row-same : (row : List Bool) (port : ℕ) (x : Bool) → port_get row port ≡ Some x → port_get (mark_row port row) port ≡ Some true
mark_row-same row zero x h = absurd (none_some (port_get row 0) x (port_get-zero row) h)
mark_row-same row (suc i) x h = port_get-index (slice_set row i true) i ∙ set_same row true x i (sym (port_get-index row i) ∙ h)

mark_row-other : (row : List Bool) (port other : ℕ) → other ≢ port → port_get (mark_row port row) other ≡ port_get row other
mark_row-other row zero other n = refl
mark_row-other row (suc i) zero n = port_get-zero (slice_set row i true) ∙ sym (port_get-zero row)
mark_row-other row (suc i) (suc j) n = port_get-index (slice_set row i true) j ∙ set_other row true i j (λ e. n (ap suc e)) ∙ sym (port_get-index row j)

marked_same : (rows : List (List Bool)) (p : BodyPort) (x : Bool) (o : Option (List Bool)) → slice_get rows p.node ≡ o → in_row p.port o ≡ Some x → entry (marked_in rows p o) p ≡ Some true
marked_same rows p x None at h = absurd cc
marked_same rows p x (Some row) at h = ap (in_row p.port) (set_same rows (mark_row p.port row) row p.node at) ∙ mark_row-same row p.port x h

entry-marked : (rows : List (List Bool)) (p : BodyPort) (x : Bool) → entry rows p ≡ Some x → entry (marked rows p) p ≡ Some true
entry-marked rows p x h = marked_same rows p x (slice_get rows p.node) refl h

row_other : (rows : List (List Bool)) (p q : BodyPort) (row : List Bool) → slice_get rows p.node ≡ Some row → q ≢ p → (q.node ≡ p.node) ⊎ (q.node ≡ p.node → ⊥) → entry (slice_set rows p.node (mark_row p.port row)) q ≡ entry rows q
row_other rows p q row at n (inr other) = ap (in_row q.port) (set_other rows (mark_row p.port row) p.node q.node other)
row_other rows p q row at n (inl same) =
    let port : q.port ≢ p.port = λ e. n (port_same q p same e) in
    ap (λ k. in_row q.port (slice_get (slice_set rows p.node (mark_row p.port row)) k)) same ∙ ap (in_row q.port) (set_same rows (mark_row p.port row) row p.node at) ∙ mark_row-other row p.port q.port port ∙
    sym (ap (in_row q.port) at) ∙ sym (ap (λ k. in_row q.port (slice_get rows k)) same)

marked_other : (rows : List (List Bool)) (p q : BodyPort) (o : Option (List Bool)) → slice_get rows p.node ≡ o → q ≢ p → entry (marked_in rows p o) q ≡ entry rows q
marked_other rows p q None at n = refl
marked_other rows p q (Some row) at n = row_other rows p q row at n (cases_eq q.node p.node)

entry-other : (rows : List (List Bool)) (p q : BodyPort) → q ≢ p → entry (marked rows p) q ≡ entry rows q
entry-other rows p q n = marked_other rows p q (slice_get rows p.node) refl n

-- marks one after the other
abbrev Free : List (List Bool) → BodyPort → Type 0
Free rows p = entry rows p ≡ Some false

fresh_is : (o : Option Bool) → is_fresh o ≡ true → o ≡ Some false
fresh_is None h = absurd (true≢false (sym h))
fresh_is (Some true) h = absurd (true≢false (sym h))
fresh_is (Some false) h = refl

true_false : Some true ≡ Some false → ⊥
true_false e = true≢false (some_inj e)

each_free : (rows : List (List Bool)) (p : BodyPort) (ports : List BodyPort) → Free rows p → Each (Free (marked rows p)) ports → Each (λ q. q ≢ p) ports × Each (Free rows) ports
each_free rows p [] free h = (tt, tt)
each_free rows p (q ∷ ports) free h =
    let other : q ≢ p = λ e. true_false (sym (entry-marked rows p false free) ∙ sym (ap (entry (marked rows p)) e) ∙ h.0) in
    let rest = each_free rows p ports free h.1 in
    ((other, rest.0), (sym (entry-other rows p q other) ∙ h.0, rest.1))

each_marked : (rows : List (List Bool)) (p : BodyPort) (ports : List BodyPort) → Each (λ q. q ≢ p) ports → Each (Free rows) ports → Each (Free (marked rows p)) ports
each_marked rows p [] n h = tt
each_marked rows p (q ∷ ports) n h = (entry-other rows p q n.0 ∙ h.0, each_marked rows p ports n.1 h.1)

fresh_differ : (ports : List BodyPort) (rows : List (List Bool)) → all_fresh ports rows ≡ true → Differ ports × Each (Free rows) ports
fresh_differ [] rows h = (tt, tt)
fresh_differ (p ∷ ports) rows h =
    let parts = and_parts (is_fresh (entry rows p)) (all_fresh ports (marked rows p)) h in
    let free = fresh_is (entry rows p) parts.0 in
    let rest = fresh_differ ports (marked rows p) parts.1 in
    let each = each_free rows p ports free rest.1 in
    ((each.0, rest.0), (free, each.1))

differ_fresh : (ports : List BodyPort) (rows : List (List Bool)) → Differ ports → Each (Free rows) ports → all_fresh ports rows ≡ true
differ_fresh [] rows d h = refl
differ_fresh (p ∷ ports) rows d h =
    ap (λ o. is_fresh o && all_fresh ports (marked rows p)) h.0 ∙ differ_fresh ports (marked rows p) d.1 (each_marked rows p ports d.0 h.1)

-- an output of the table
pub record Among (ts : List BodyPort) (u : BodyPort) : Type 0 where
  pub before : List BodyPort
  pub behind : List BodyPort
  pub is : ts ≡ before ++ u ∷ behind

among_here : (u : BodyPort) (ts : List BodyPort) → Among (u ∷ ts) u
among_here u ts = record { before = []; behind = ts; is = refl }

among_later : (t u : BodyPort) (ts : List BodyPort) → Among ts u → Among (t ∷ ts) u
among_later t u ts m = record { before = t ∷ m.before; behind = m.behind; is = ap (λ xs. t ∷ xs) m.is }

among_left : (xs ys : List BodyPort) (u : BodyPort) → Among xs u → Among (xs ++ ys) u
among_left xs ys u m = record { before = m.before; behind = m.behind ++ ys; is = ap (λ zs. zs ++ ys) m.is ∙ append_assoc m.before (u ∷ m.behind) ys }

among_right : (xs ys : List BodyPort) (u : BodyPort) → Among ys u → Among (xs ++ ys) u
among_right [] ys u m = m
among_right (x ∷ xs) ys u m = among_later x u (xs ++ ys) (among_right xs ys u m)

row_among : (node start k : ℕ) (row : List Shape) (p : BodyPort) → p.node ≡ node → p.port ≡ start + k → k < length row → Among (row_ports node start row) p
row_among node start k [] p is_node is_port lt = absurd (omega arith)
row_among node start zero (s ∷ row) p is_node is_port lt =
    let port : p.port ≡ start = omega (arith, is_port) in
    let same : p ≡ record { node = node; port = start } = port_same p (port_of node start) is_node port in
    subst (Among (row_ports node start (s ∷ row))) (sym same) (among_here (record { node = node; port = start }) (row_ports node (start + 1) row))
row_among node start (suc k) (s ∷ row) p is_node is_port lt = among_later (record { node = node; port = start }) p (row_ports node (start + 1) row) (row_among node (start + 1) k row p is_node (omega (arith, is_port)) (omega (arith, lt)))

port_below : (row : List Bool) (port : ℕ) (x : Bool) → port_get row port ≡ Some x → (k : ℕ) × (port ≡ 1 + k) × (k < length row)
port_below [] port x h = absurd cc
port_below (y ∷ row) zero x h = absurd cc
port_below (y ∷ row) (suc zero) x h = (0, omega arith, omega arith)
port_below (y ∷ row) (suc (suc i)) x h = let rest = port_below row (suc i) x h in (suc rest.0, omega (arith, rest.1), omega (arith, rest.2))

length-replicate : (n : ℕ) (x : Bool) → length (replicate n x) ≡ n
length-replicate zero x = refl
length-replicate (suc n) x = ap suc (length-replicate n x)

table_among : (rows : List (List Shape)) (node i : ℕ) (p : BodyPort) (x : Bool) → p.node ≡ node + i → in_row p.port (slice_get (unmarked rows) i) ≡ Some x → Among (table_ports node rows) p
table_among [] node i p x is_node h = absurd cc
table_among (row ∷ rows) node zero p x is_node h =
    let k = port_below (replicate (length row) false) p.port x h in
    among_left (row_ports node 1 row) (table_ports (node + 1) rows) p (row_among node 1 k.0 row p (omega (arith, is_node)) k.1 (omega (arith, k.2, length-replicate (length row) false)))
table_among (row ∷ rows) node (suc i) p x is_node h = among_right (row_ports node 1 row) (table_ports (node + 1) rows) p (table_among rows (node + 1) i p x (omega (arith, is_node)) h)

each_among : (rows : List (List Shape)) (ports : List BodyPort) → Each (Free (unmarked rows)) ports → Each (Among (table_ports 0 rows)) ports
each_among rows [] h = tt
each_among rows (p ∷ ports) h = (table_among rows 0 p.node p false (omega arith) h.0, each_among rows ports h.1)

-- all outputs are free at the start
same_lengths : (rows : List (List Shape)) → SameLengths (unmarked rows) rows
same_lengths [] = tt
same_lengths (row ∷ rows) = (length-replicate (length row) false, same_lengths rows)

each_replicate : (n : ℕ) → Each (λ b. b ≡ false) (replicate n false)
each_replicate zero = tt
each_replicate (suc n) = (refl, each_replicate n)

each_append : (xs ys : List Bool) → Each (λ b. b ≡ false) xs → Each (λ b. b ≡ false) ys → Each (λ b. b ≡ false) (xs ++ ys)
each_append [] ys h k = k
each_append (x ∷ xs) ys h k = (h.0, each_append xs ys h.1 k)

all_false : (rows : List (List Shape)) → Each (λ b. b ≡ false) (flat (unmarked rows))
all_false [] = tt
all_false (row ∷ rows) = each_append (replicate (length row) false) (flat (unmarked rows)) (each_replicate (length row)) (all_false rows)

free_at : (table : List (List Bool)) (ports : List BodyPort) (bs : List Bool) → map (entry table) ports ≡ map Some bs → Each (λ b. b ≡ false) bs → Each (Free table) ports
free_at table [] bs h k = tt
free_at table (p ∷ ports) [] h k = absurd cc
free_at table (p ∷ ports) (b ∷ bs) h k = ((heads h).0 ∙ ap Some k.0, free_at table ports bs (heads h).1 k.1)

table_free : (rows : List (List Shape)) → Each (Free (unmarked rows)) (table_ports 0 rows)
table_free rows = free_at (unmarked rows) (table_ports 0 rows) (flat (unmarked rows)) (table_entries [] (unmarked rows) 0 rows refl (same_lengths rows)) (all_false rows)

-- different outputs of the table, as many as there are
among_but : (before behind : List BodyPort) (u q : BodyPort) → q ≢ u → (a b : List BodyPort) → before ++ u ∷ behind ≡ a ++ q ∷ b → Among (before ++ behind) q
among_but [] behind u q n [] b e = absurd (n (sym (heads e).0))
among_but [] behind u q n (x ∷ a) b e = record { before = a; behind = b; is = (heads e).1 }
among_but (y ∷ before) behind u q n [] b e = record { before = []; behind = before ++ behind; is = ap (λ z. z ∷ (before ++ behind)) (heads e).0 }
among_but (y ∷ before) behind u q n (x ∷ a) b e = among_later y q (before ++ behind) (among_but before behind u q n a b (heads e).1)

each_but : (ts before behind : List BodyPort) (u : BodyPort) (us : List BodyPort) → ts ≡ before ++ u ∷ behind → Each (λ q. q ≢ u) us → Each (Among ts) us → Each (Among (before ++ behind)) us
each_but ts before behind u [] is n h = tt
each_but ts before behind u (q ∷ us) is n h = (among_but before behind u q n.0 h.0.before h.0.behind (sym is ∙ h.0.is), each_but ts before behind u us is n.1 h.1)

length-middle : (before behind : List BodyPort) (u : BodyPort) → length (before ++ u ∷ behind) ≡ length (before ++ behind) + 1
length-middle [] behind u = omega arith
length-middle (x ∷ before) behind u = omega (arith, length-middle before behind u)

permuted : (us ts : List BodyPort) → Differ us → Each (Among ts) us → length us ≡ length ts → IsPermutation us ts
permuted [] [] d h len = IsPermutation-refl []
permuted [] (t ∷ ts) d h len = absurd (omega arith)
permuted (u ∷ us) ts d h len =
    let m = h.0 in
    let rest = m.before ++ m.behind in
    let fewer : length us ≡ length rest = omega (arith, len, ap (λ (xs : List BodyPort). length xs) m.is, length-middle m.before m.behind u) in
    let inner = permuted us rest d.1 (each_but ts m.before m.behind u us m.is d.0 h.1) fewer in
    let front = IsPermutation-cons u us rest inner in
    let back = IsPermutation-sym (m.before ++ u ∷ m.behind) (u ∷ rest) (IsPermutation-middle m.before u m.behind) in
    subst (IsPermutation (u ∷ us)) (sym m.is) (IsPermutation-trans (u ∷ us) (u ∷ rest) (m.before ++ u ∷ m.behind) front back)

-- how many outputs there are
length-append : (xs ys : List BodyPort) → length (xs ++ ys) ≡ length xs + length ys
length-append [] ys = omega arith
length-append (x ∷ xs) ys = omega (arith, length-append xs ys)

length-row : (node port : ℕ) (row : List Shape) → length (row_ports node port row) ≡ length row
length-row node port [] = refl
length-row node port (s ∷ row) = ap suc (length-row node (port + 1) row)

length-table : (node : ℕ) (rows : List (List Shape)) → length (table_ports node rows) ≡ total length rows
length-table node [] = refl
length-table node (row ∷ rows) = omega (arith, length-append (row_ports node 1 row) (table_ports (node + 1) rows), length-row node 1 row, length-table (node + 1) rows)

pub marks_permute : (uses : List BodyPort) (rows : List (List Shape)) → length uses ≡ total length rows → all_fresh uses (unmarked rows) ≡ true → IsPermutation uses (table_ports 0 rows)
marks_permute uses rows len h =
    let d = fresh_differ uses (unmarked rows) h in
    permuted uses (table_ports 0 rows) d.0 (each_among rows uses d.1) (omega (arith, len, length-table 0 rows))

pub permuted_marks : (uses : List BodyPort) (rows : List (List Shape)) → IsPermutation uses (table_ports 0 rows) → all_fresh uses (unmarked rows) ≡ true
permuted_marks uses rows h =
    let free = recursion_from_All (Free (unmarked rows)) uses (All-permutation (Free (unmarked rows)) (table_ports 0 rows) uses (IsPermutation-sym uses (table_ports 0 rows) h) (All-from_recursion (Free (unmarked rows)) (table_ports 0 rows) (table_free rows))) in
    differ_fresh uses (unmarked rows) (uses_differ uses rows h) free

pub permuted_count : (uses : List BodyPort) (rows : List (List Shape)) → IsPermutation uses (table_ports 0 rows) → length uses ≡ total length rows
permuted_count uses rows h = omega (arith, length_permutation uses (table_ports 0 rows) h, length-table 0 rows)
