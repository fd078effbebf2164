-- Where outputs come from: the computed roots and what the computed tests reach are those of the definition.
use Rattle.std.proofs.Common.{◌≡◌, ℕ, zero, suc, ◌+◌, ◌<◌, ◌≤◌, ◌⊎◌, inl, inr, Bool, true, false, List, [], ◌∷◌, ◌++◌, map, length, Some, None, refl, ap, sym, ◌∙◌, subst, arith, true≢false, append_assoc}
use Rattle.std.specs.Prelude.{Option, slice_get, unwrap_or, Contains}
use Rattle.std.specs.List.{list_any, slice_index_or}
use Rattle.std.proofs.lemmas.List.Folds.{Any-from_list_any, list_any-from_Any}
use Rattle.components.specs.declared.kind.Kind.{Kind}
use Rattle.components.specs.declared.kind.Kind.TheVariants.{Entry, Exit, Buffer, Fork, Join, Split, Operator, Constant, Source0, Sink0, Pure, Mux, Branch, Merge, CtrlMerge, Init, Tagger}
use Rattle.components.specs.Kind.{Shape, ins, outs}
use Rattle.circuits.specs.Root.{PassesThrough}
use Rattle.fun_expr.specs.Each.{Each}
use Rattle.loop_body.specs.declared.body_port.BodyPort.{BodyPort}
use Rattle.loop_body.specs.Body.{Body, kinds, entry, in_row, NodesFit, PassesOn, node_at, BodyRoot, here, through, FromLanes, lanes, after, OneCondition}
use Rattle.loop_body.specs.Judging.{known_root, root_in, first_root, passed_root, roots_from, is_reached, reached_from, HaveOneRoot}
use Rattle.loop_body.proofs.Lists.{some_inj, heads, append_nil}
use Rattle.loop_body.proofs.Tables.{slice_get-seam}
use Rattle.loop_body.proofs.Uses.{length-push}

-- kinds that pass on
pub passes_or : (kind : Kind) → PassesThrough kind ⊎ (PassesThrough kind → ⊥)
passes_or (Buffer shape) = inl tt
passes_or (Fork shape count) = inl tt
passes_or (Entry shape) = inr (λ h. h)
passes_or (Exit shape) = inr (λ h. h)
passes_or (Join shapes) = inr (λ h. h)
passes_or (Split shapes) = inr (λ h. h)
passes_or (Operator op widths width) = inr (λ h. h)
passes_or (Constant shape width value) = inr (λ h. h)
passes_or (Source0 shape) = inr (λ h. h)
passes_or (Sink0 shape) = inr (λ h. h)
passes_or (Pure fun shape) = inr (λ h. h)
passes_or (Mux shape) = inr (λ h. h)
passes_or (Branch shape) = inr (λ h. h)
passes_or (Merge shape count) = inr (λ h. h)
passes_or (CtrlMerge shape count width) = inr (λ h. h)
passes_or (Init value mark) = inr (λ h. h)
passes_or (Tagger shape tags) = inr (λ h. h)

passed : (roots : List (Option BodyPort)) (kind : Kind) (ports : List BodyPort) → PassesThrough kind → passed_root roots kind ports ≡ first_root roots ports
passed roots (Buffer shape) ports h = refl
passed roots (Fork shape count) ports h = refl
passed roots kind ports h = absurd h

not_passed : (roots : List (Option BodyPort)) (kind : Kind) (ports : List BodyPort) → (PassesThrough kind → ⊥) → passed_root roots kind ports ≡ None
not_passed roots (Buffer shape) ports h = absurd (h tt)
not_passed roots (Fork shape count) ports h = absurd (h tt)
not_passed roots kind ports h = refl

one_input : (kind : Kind) → PassesThrough kind → (shape : Shape) × (ins kind ≡ shape ∷ [])
one_input (Buffer shape) h = (shape, refl)
one_input (Fork shape count) h = (shape, refl)
one_input kind h = absurd h

-- places in lists
pub got_below : {A : Type 0} (xs : List A) (i : ℕ) (x : A) → slice_get xs i ≡ Some x → i < length xs
got_below [] i x h = absurd cc
got_below (y ∷ xs) zero x h = omega arith
got_below (y ∷ xs) (suc i) x h = omega (arith, got_below xs i x h)

pub get_front : {A : Type 0} (xs ys : List A) (i : ℕ) → i < length xs → slice_get (xs ++ ys) i ≡ slice_get xs i
get_front [] ys i lt = absurd (omega arith)
get_front (x ∷ xs) ys zero lt = refl
get_front (x ∷ xs) ys (suc i) lt = get_front xs ys i (omega arith)

get_past : {A : Type 0} (xs : List A) (i : ℕ) → length xs ≤ i → slice_get xs i ≡ None
get_past [] i le = refl
get_past (x ∷ xs) zero le = absurd (omega arith)
get_past (x ∷ xs) (suc i) le = get_past xs i (omega arith)

-- what a computation row by row has for a row, where it is told by the rows before it
pub record At {A : Type 0} (whole : List A) (count : ℕ) (value : List A → A) : Type 0 where
  pub before : List A
  pub later : List A
  pub is : whole ≡ before ++ value before ∷ later
  pub at : length before ≡ count

at_value : {A : Type 0} {whole : List A} {count : ℕ} {value : List A → A} (h : At whole count value) → slice_get whole count ≡ Some (value h.before)
at_value {whole} {count} {value} h =
    ap (slice_get whole) (sym h.at) ∙ ap (λ xs. slice_get xs (length h.before)) h.is ∙ slice_get-seam h.before (value h.before) h.later

at_before : {A : Type 0} {whole : List A} {count : ℕ} {value : List A → A} (h : At whole count value) (i : ℕ) → i < count → slice_get whole i ≡ slice_get h.before i
at_before {whole} {count} {value} h i lt = ap (λ xs. slice_get xs i) h.is ∙ get_front h.before (value h.before ∷ h.later) i (omega (arith, h.at))

record Front {A : Type 0} (front whole : List A) : Type 0 where
  later : List A
  is : whole ≡ front ++ later

-- roots, row by row
roots_front : (before : List (Option BodyPort)) (kinds : List Kind) (inputs : List (List BodyPort)) → Front before (roots_from before kinds inputs)
roots_front before [] inputs = record { later = []; is = sym (append_nil before) }
roots_front before (kind ∷ kinds) [] = record { later = []; is = sym (append_nil before) }
roots_front before (kind ∷ kinds) (ports ∷ inputs) =
    let rest = roots_front (before ++ passed_root before kind ports ∷ []) kinds inputs in
    record { later = passed_root before kind ports ∷ rest.later; is = rest.is ∙ append_assoc before (passed_root before kind ports ∷ []) rest.later }

roots_at : (before : List (Option BodyPort)) (kinds : List Kind) (inputs : List (List BodyPort)) (i : ℕ) (kind : Kind) (ports : List BodyPort) → slice_get kinds i ≡ Some kind → slice_get inputs i ≡ Some ports →
    At (roots_from before kinds inputs) (length before + i) (λ rows. passed_root rows kind ports)
roots_at before [] inputs i kind ports is_kind are_ports = absurd cc
roots_at before (k ∷ kinds) [] i kind ports is_kind are_ports = absurd cc
roots_at before (k ∷ kinds) (p ∷ inputs) zero kind ports is_kind are_ports =
    let rest = roots_front (before ++ passed_root before k p ∷ []) kinds inputs in
    let this : passed_root before k p ≡ passed_root before kind ports = ap (λ x. passed_root before x p) (some_inj is_kind) ∙ ap (passed_root before kind) (some_inj are_ports) in
    record { before = before; later = rest.later; is = rest.is ∙ append_assoc before (passed_root before k p ∷ []) rest.later ∙ ap (λ x. before ++ x ∷ rest.later) this; at = omega arith }
roots_at before (k ∷ kinds) (p ∷ inputs) (suc i) kind ports is_kind are_ports =
    let rest = roots_at (before ++ passed_root before k p ∷ []) kinds inputs i kind ports is_kind are_ports in
    record { before = rest.before; later = rest.later; is = rest.is; at = omega (arith, rest.at, length-push before (passed_root before k p)) }

roots_length : (before : List (Option BodyPort)) (kinds : List Kind) (inputs : List (List BodyPort)) → length kinds ≡ length inputs → length (roots_from before kinds inputs) ≡ length before + length kinds
roots_length before [] inputs h = omega arith
roots_length before (kind ∷ kinds) [] h = absurd (omega arith)
roots_length before (kind ∷ kinds) (ports ∷ inputs) h =
    omega (arith, roots_length (before ++ passed_root before kind ports ∷ []) kinds inputs (omega (arith, h)), length-push before (passed_root before kind ports))

-- what the lanes reach, row by row
reached_front : (before : List Bool) (inputs : List (List BodyPort)) → Front before (reached_from before inputs)
reached_front before [] = record { later = []; is = sym (append_nil before) }
reached_front before (ports ∷ inputs) =
    let rest = reached_front (before ++ list_any (is_reached before) ports ∷ []) inputs in
    record { later = list_any (is_reached before) ports ∷ rest.later; is = rest.is ∙ append_assoc before (list_any (is_reached before) ports ∷ []) rest.later }

reached_at : (before : List Bool) (inputs : List (List BodyPort)) (i : ℕ) (ports : List BodyPort) → slice_get inputs i ≡ Some ports → At (reached_from before inputs) (length before + i) (λ rows. list_any (is_reached rows) ports)
reached_at before [] i ports are_ports = absurd cc
reached_at before (p ∷ inputs) zero ports are_ports =
    let rest = reached_front (before ++ list_any (is_reached before) p ∷ []) inputs in
    record {
      before = before;
      later = rest.later;
      is = rest.is ∙ append_assoc before (list_any (is_reached before) p ∷ []) rest.later ∙ ap (λ x. before ++ list_any (is_reached before) x ∷ rest.later) (some_inj are_ports);
      at = omega arith;
    }
reached_at before (p ∷ inputs) (suc i) ports are_ports =
    let rest = reached_at (before ++ list_any (is_reached before) p ∷ []) inputs i ports are_ports in
    record { before = rest.before; later = rest.later; is = rest.is; at = omega (arith, rest.at, length-push before (list_any (is_reached before) p)) }

reached_length : (before : List Bool) (inputs : List (List BodyPort)) → length (reached_from before inputs) ≡ length before + length inputs
reached_length before [] = omega arith
reached_length before (ports ∷ inputs) = omega (arith, reached_length (before ++ list_any (is_reached before) ports ∷ []) inputs, length-push before (list_any (is_reached before) ports))

-- In a body, and in what fits together as one.
-- what a node takes is there before it
pub record Takes (count : ℕ) (kind : Kind) (ports : List BodyPort) : Type 0 where
  pub before : List (List Shape)
  pub rows : length before ≡ count
  pub are : map (entry before) ports ≡ map Some (ins kind)

pub takes_at : (before : List (List Shape)) (kinds : List Kind) (inputs : List (List BodyPort)) (i : ℕ) (kind : Kind) (ports : List BodyPort) → NodesFit before kinds inputs → slice_get kinds i ≡ Some kind → slice_get inputs i ≡ Some ports →
    Takes (length before + i) kind ports
takes_at before [] inputs i kind ports h is_kind are_ports = absurd cc
takes_at before (k ∷ kinds) [] i kind ports h is_kind are_ports = absurd cc
takes_at before (k ∷ kinds) (p ∷ inputs) zero kind ports h is_kind are_ports =
    record { before = before; rows = omega arith; are = ap (map (entry before)) (sym (some_inj are_ports)) ∙ h.1 ∙ ap (λ x. map Some (ins x)) (some_inj is_kind) }
takes_at before (k ∷ kinds) (p ∷ inputs) (suc i) kind ports h is_kind are_ports =
    let rest = takes_at (before ++ outs k ∷ []) kinds inputs i kind ports h.2 is_kind are_ports in
    record { before = rest.before; rows = omega (arith, rest.rows, length-push before (outs k)); are = rest.are }

in_row_below : {A : Type 0} (table : List (List A)) (p : BodyPort) (x : A) (row : Option (List A)) → slice_get table p.node ≡ row → in_row p.port row ≡ Some x → p.node < length table
in_row_below table p x None at h = absurd cc
in_row_below table p x (Some row) at h = got_below table p.node row at

all_below : (table : List (List Shape)) (ports : List BodyPort) (xs : List Shape) → map (entry table) ports ≡ map Some xs → Each (λ p. p.node < length table) ports
all_below table [] xs h = tt
all_below table (p ∷ ports) [] h = absurd cc
all_below table (p ∷ ports) (x ∷ xs) h =
    let parts = heads h in
    (in_row_below table p x (slice_get table p.node) refl parts.0, all_below table ports xs parts.1)

-- as many nodes as lists of inputs, each of which takes from earlier rows
pub record Earlier (b : Body) : Type 0 where
  pub counts : length (kinds b) ≡ length b.inputs
  pub takes : (i : ℕ) (kind : Kind) (ports : List BodyPort) → slice_get (kinds b) i ≡ Some kind → slice_get b.inputs i ≡ Some ports → Takes (suc i) kind ports

fit_counts : (before : List (List Shape)) (kinds : List Kind) (inputs : List (List BodyPort)) → NodesFit before kinds inputs → length kinds ≡ length inputs
fit_counts before [] [] h = refl
fit_counts before [] (ports ∷ inputs) h = absurd h
fit_counts before (k ∷ kinds) [] h = absurd h
fit_counts before (k ∷ kinds) (ports ∷ inputs) h = ap suc (fit_counts (before ++ outs k ∷ []) kinds inputs h.2)

one_more : (count i : ℕ) (kind : Kind) (ports : List BodyPort) → count ≡ 1 → Takes (count + i) kind ports → Takes (suc i) kind ports
one_more count i kind ports one h = record { before = h.before; rows = omega (arith, one, h.rows); are = h.are }

pub earlier : (b : Body) → NodesFit (b.vars ∷ []) (kinds b) b.inputs → Earlier b
earlier b h = record {
  counts = fit_counts (b.vars ∷ []) (kinds b) b.inputs h;
  takes = λ i kind ports is_kind are_ports. one_more (length (b.vars ∷ [])) i kind ports refl (takes_at (b.vars ∷ []) (kinds b) b.inputs i kind ports h is_kind are_ports);
}

pub takes_below : (count : ℕ) (kind : Kind) (ports : List BodyPort) → Takes count kind ports → Each (λ p. p.node < count) ports
takes_below count kind ports t = subst (λ n. Each (λ p. p.node < n) ports) t.rows (all_below t.before ports (ins kind) t.are)

single_of : (table : List (List Shape)) (ports : List BodyPort) (x : Shape) → map (entry table) ports ≡ map Some (x ∷ []) → (q : BodyPort) × (ports ≡ q ∷ [])
single_of table [] x h = absurd cc
single_of table (q ∷ []) x h = (q, refl)
single_of table (q ∷ p ∷ ports) x h = let parts = heads h in absurd cc

single : (count : ℕ) (kind : Kind) (ports : List BodyPort) → Takes count kind ports → PassesThrough kind → (q : BodyPort) × (ports ≡ q ∷ [])
single count kind ports t passes =
    let one = one_input kind passes in
    single_of t.before ports one.0 (t.are ∙ ap (map Some) one.1)

-- the roots of a body
abbrev pub all_roots : Body → List (Option BodyPort)
all_roots b = roots_from (None ∷ []) (kinds b) b.inputs

abbrev pub all_reached : Body → List Bool
all_reached b = reached_from (true ∷ []) b.inputs

there : {A : Type 0} (xs : List A) (i : ℕ) → i < length xs → (x : A) × (slice_get xs i ≡ Some x)
there [] i lt = absurd (omega arith)
there (x ∷ xs) zero lt = (x, refl)
there (x ∷ xs) (suc i) lt = there xs i (omega arith)

inputs_there : (b : Body) → Earlier b → (i : ℕ) (kind : Kind) → slice_get (kinds b) i ≡ Some kind → (ports : List BodyPort) × (slice_get b.inputs i ≡ Some ports)
inputs_there b e i kind is_kind = there b.inputs i (omega (arith, e.counts, got_below (kinds b) i kind is_kind))

not_there : {A : Type 0} (xs : List A) (i : ℕ) → slice_get xs i ≡ None → length xs ≤ i
not_there [] i h = omega arith
not_there (x ∷ xs) zero h = absurd cc
not_there (x ∷ xs) (suc i) h = omega (arith, not_there xs i h)

root_row : (b : Body) (i : ℕ) (kind : Kind) (ports : List BodyPort) → slice_get (kinds b) i ≡ Some kind → slice_get b.inputs i ≡ Some ports → At (all_roots b) (suc i) (λ rows. passed_root rows kind ports)
root_row b i kind ports is_kind are_ports =
    let row = roots_at (None ∷ []) (kinds b) b.inputs i kind ports is_kind are_ports in
    let one : length {A = Option BodyPort} (None ∷ []) ≡ 1 = refl in
    record { before = row.before; later = row.later; is = row.is; at = omega (arith, row.at, one) }

root_stops : (b : Body) → Earlier b → (p : BodyPort) (i : ℕ) (o : Option Kind) → slice_get (kinds b) i ≡ o → (PassesOn o → ⊥) → known_root p (slice_get (all_roots b) (suc i)) ≡ p
root_stops b e p i None is stops =
    let count = roots_length (None ∷ []) (kinds b) b.inputs e.counts in
    let one : length {A = Option BodyPort} (None ∷ []) ≡ 1 = refl in
    ap (known_root p) (get_past (all_roots b) (suc i) (omega (arith, count, one, not_there (kinds b) i is)))
root_stops b e p i (Some kind) is stops =
    let ports = inputs_there b e i kind is in
    let row = root_row b i kind ports.0 is ports.1 in
    ap (known_root p) (at_value row) ∙ ap (λ root. unwrap_or root p) (not_passed row.before kind ports.0 stops)

root_here : (b : Body) → Earlier b → (p : BodyPort) (node : ℕ) → p.node ≡ node → (PassesOn (node_at b node) → ⊥) → root_in (all_roots b) p ≡ p
root_here b e p zero at stops =
    let front = roots_front (None ∷ []) (kinds b) b.inputs in
    ap (λ n. known_root p (slice_get (all_roots b) n)) at ∙ ap (λ xs. known_root p (slice_get xs 0)) front.is
root_here b e p (suc i) at stops = ap (λ n. known_root p (slice_get (all_roots b) n)) at ∙ root_stops b e p i (slice_get (kinds b) i) refl stops

root_through : (b : Body) → Earlier b → (p q : BodyPort) (i : ℕ) (kind : Kind) → p.node ≡ suc i → slice_get (kinds b) i ≡ Some kind → PassesThrough kind → slice_get b.inputs i ≡ Some (q ∷ []) →
    root_in (all_roots b) p ≡ root_in (all_roots b) q
root_through b e p q i kind at is_kind passes is_input =
    let row = root_row b i kind (q ∷ []) is_kind is_input in
    let below = (takes_below (suc i) kind (q ∷ []) (e.takes i kind (q ∷ []) is_kind is_input)).0 in
    ap (λ n. known_root p (slice_get (all_roots b) n)) at ∙ ap (known_root p) (at_value row) ∙ ap (λ root. unwrap_or root p) (passed row.before kind (q ∷ []) passes) ∙
    ap (known_root q) (sym (at_before row q.node below))

-- a walk backwards ends at the computed root
mutual_kind : (b : Body) → Earlier b → (p q root : BodyPort) (i : ℕ) (o : Option Kind) → slice_get (kinds b) i ≡ o → p.node ≡ suc i → PassesOn o → slice_get b.inputs i ≡ Some (q ∷ []) → root ≡ root_in (all_roots b) q →
    root ≡ root_in (all_roots b) p
mutual_kind b e p q root i None is at passes is_input so_far = absurd passes
mutual_kind b e p q root i (Some kind) is at passes is_input so_far = so_far ∙ sym (root_through b e p q i kind at is passes is_input)

pub walk_root : (b : Body) → Earlier b → (p root : BodyPort) → BodyRoot b p root → root ≡ root_in (all_roots b) p
walk_root b e p root (here _ stops) = sym (root_here b e p p.node refl stops)
walk_root b e p root (through _ q _ i at passes is_input rest) = mutual_kind b e p q root i (slice_get (kinds b) i) refl at passes is_input (walk_root b e q root rest)

-- and there is such a walk
walk_kind : (b : Body) → Earlier b → (p : BodyPort) (i : ℕ) (kind : Kind) → PassesThrough kind ⊎ (PassesThrough kind → ⊥) → slice_get (kinds b) i ≡ Some kind → p.node ≡ suc i →
    ((q : BodyPort) → q.node < suc i → BodyRoot b q (root_in (all_roots b) q)) → BodyRoot b p (root_in (all_roots b) p)
walk_kind b e p i kind (inr not) is at before =
    let stops : PassesOn (node_at b p.node) → ⊥ = λ h. not (subst PassesOn (ap (node_at b) at ∙ is) h) in
    subst (BodyRoot b p) (sym (root_here b e p p.node refl stops)) (here p stops)
walk_kind b e p i kind (inl passes) is at before =
    let ports = inputs_there b e i kind is in
    let takes = e.takes i kind ports.0 is ports.1 in
    let one = single (suc i) kind ports.0 takes passes in
    let input : slice_get b.inputs i ≡ Some (one.0 ∷ []) = ports.1 ∙ ap Some one.1 in
    let below = (subst (Each (λ q. q.node < suc i)) one.1 (takes_below (suc i) kind ports.0 takes)).0 in
    subst (BodyRoot b p) (sym (root_through b e p one.0 i kind at is passes input)) (through p one.0 (root_in (all_roots b) one.0) i at (subst PassesOn (sym is) passes) input (before one.0 below))

walk_on : (b : Body) → Earlier b → (p : BodyPort) (i : ℕ) (o : Option Kind) → slice_get (kinds b) i ≡ o → p.node ≡ suc i → ((q : BodyPort) → q.node < suc i → BodyRoot b q (root_in (all_roots b) q)) → BodyRoot b p (root_in (all_roots b) p)
walk_on b e p i None is at before =
    let stops : PassesOn (node_at b p.node) → ⊥ = λ h. subst PassesOn (ap (node_at b) at ∙ is) h in
    subst (BodyRoot b p) (sym (root_here b e p p.node refl stops)) (here p stops)
walk_on b e p i (Some kind) is at before = walk_kind b e p i kind (passes_or kind) is at before

walk_from : (b : Body) → Earlier b → (bound : ℕ) (p : BodyPort) (node : ℕ) → p.node ≡ node → node < bound → BodyRoot b p (root_in (all_roots b) p)
walk_from b e zero p node at lt = absurd (omega arith)
walk_from b e (suc bound) p zero at lt =
    let stops : PassesOn (node_at b p.node) → ⊥ = λ h. subst PassesOn (ap (node_at b) at) h in
    subst (BodyRoot b p) (sym (root_here b e p p.node refl stops)) (here p stops)
walk_from b e (suc bound) p (suc i) at lt =
    walk_on b e p i (slice_get (kinds b) i) refl at (λ q below. walk_from b e bound q q.node refl (omega arith))

pub walk : (b : Body) → Earlier b → (p : BodyPort) → BodyRoot b p (root_in (all_roots b) p)
walk b e p = walk_from b e (suc p.node) p p.node refl (omega arith)

-- what the lanes reach
reached_row : (b : Body) (i : ℕ) (ports : List BodyPort) → slice_get b.inputs i ≡ Some ports → At (all_reached b) (suc i) (λ rows. list_any (is_reached rows) ports)
reached_row b i ports are_ports =
    let row = reached_at (true ∷ []) b.inputs i ports are_ports in
    let one : length {A = Bool} (true ∷ []) ≡ 1 = refl in
    record { before = row.before; later = row.later; is = row.is; at = omega (arith, row.at, one) }

contained : {A : Type 0} (P : A → Type 0) (xs : List A) (x : A) (k : ℕ) → k < length xs → slice_index_or xs k x ≡ x → Each P xs → P x
contained P [] x k lt is h = absurd (omega arith)
contained P (y ∷ xs) x zero lt is h = subst P is h.0
contained P (y ∷ xs) x (suc k) lt is h = contained P xs x k (omega arith) is h.1

reaches : (row : Option Bool) → unwrap_or row false ≡ true → row ≡ Some true
reaches None h = absurd (true≢false (sym h))
reaches (Some b) h = ap Some h

reached_after : (b : Body) → Earlier b → (p : BodyPort) (i : ℕ) (ports : List BodyPort) → slice_get b.inputs i ≡ Some ports → Contains ports p → slice_get (all_reached b) p.node ≡ Some true → slice_get (all_reached b) (suc i) ≡ Some true
reached_after b e p i ports are has so_far =
    let row = reached_row b i ports are in
    let kind = there (kinds b) i (omega (arith, e.counts, got_below b.inputs i ports are)) in
    let below : p.node < suc i = contained (λ q. q.node < suc i) ports p has.0 has.1 has.2 (takes_below (suc i) kind.0 ports (e.takes i kind.0 ports kind.1 are)) in
    let now : is_reached row.before p ≡ true = ap (λ r. unwrap_or r false) (sym (at_before row p.node below) ∙ so_far) in
    at_value row ∙ ap Some (list_any-from_Any (is_reached row.before) ports (has.0, p, has.1, has.2, now))

reached : (b : Body) → Earlier b → (node : ℕ) → FromLanes b node → slice_get (all_reached b) node ≡ Some true
reached b e node lanes = ap (λ xs. slice_get xs 0) (reached_front (true ∷ []) b.inputs).is
reached b e node (after p i ports are has rest) = reached_after b e p i ports are has (reached b e p.node rest)

pub is_reached_from : (b : Body) → Earlier b → (p : BodyPort) → FromLanes b p.node → is_reached (all_reached b) p ≡ true
is_reached_from b e p h = ap (λ r. unwrap_or r false) (reached b e p.node h)

from_row : (b : Body) → Earlier b → (i : ℕ) → slice_get (all_reached b) (suc i) ≡ Some true → ((q : BodyPort) → q.node < suc i → slice_get (all_reached b) q.node ≡ Some true → FromLanes b q.node) → FromLanes b (suc i)
from_row b e i h before =
    let one : length {A = Bool} (true ∷ []) ≡ 1 = refl in
    let ports = there b.inputs i (omega (arith, reached_length (true ∷ []) b.inputs, one, got_below (all_reached b) (suc i) true h)) in
    let row = reached_row b i ports.0 ports.1 in
    let any = Any-from_list_any (is_reached row.before) ports.0 (some_inj (sym (at_value row) ∙ h)) in
    let found : slice_get row.before any.1.node ≡ Some true = reaches (slice_get row.before any.1.node) any.4 in
    let below : any.1.node < suc i = omega (arith, row.at, got_below row.before any.1.node true found) in
    after any.1 i ports.0 ports.1 (any.0, any.2, any.3) (before any.1 below (at_before row any.1.node below ∙ found))

from_reached : (b : Body) → Earlier b → (bound node : ℕ) → node < bound → slice_get (all_reached b) node ≡ Some true → FromLanes b node
from_reached b e zero node lt h = absurd (omega arith)
from_reached b e (suc bound) zero lt h = lanes
from_reached b e (suc bound) (suc i) lt h = from_row b e i h (λ q below is. from_reached b e bound q.node (omega arith) is)

pub is_from : (b : Body) → Earlier b → (p : BodyPort) → is_reached (all_reached b) p ≡ true → FromLanes b p.node
is_from b e p h = from_reached b e (suc p.node) p.node (omega arith) (reaches (slice_get (all_reached b) p.node) h)

-- the conditions of a body, as they are computed
each_walk : (b : Body) → Earlier b → (root : BodyPort) (ports : List BodyPort) → Each (λ q. root_in (all_roots b) q ≡ root) ports → Each (λ q. BodyRoot b q root) ports
each_walk b e root [] h = tt
each_walk b e root (p ∷ ports) h = (subst (BodyRoot b p) h.0 (walk b e p), each_walk b e root ports h.1)

each_root : (b : Body) → Earlier b → (root : BodyPort) (ports : List BodyPort) → Each (λ q. BodyRoot b q root) ports → Each (λ q. root_in (all_roots b) q ≡ root) ports
each_root b e root [] h = tt
each_root b e root (p ∷ ports) h = (sym (walk_root b e p root h.0), each_root b e root ports h.1)

pub one_condition : (b : Body) → Earlier b → (ports : List BodyPort) → b.conditions ≡ ports → HaveOneRoot (all_roots b) (all_reached b) ports → OneCondition b
one_condition b e [] are h = absurd h
one_condition b e (p ∷ ports) are h = record {
  root = root_in (all_roots b) p;
  roots = subst (Each (λ q. BodyRoot b q (root_in (all_roots b) p))) (sym are) (each_walk b e (root_in (all_roots b) p) (p ∷ ports) h.0);
  depends = is_from b e (root_in (all_roots b) p) h.1;
}

pub have_one_root : (b : Body) → Earlier b → (ports : List BodyPort) → b.conditions ≡ ports → (length ports ≡ 0 → ⊥) → OneCondition b → HaveOneRoot (all_roots b) (all_reached b) ports
have_one_root b e [] are some one = absurd (some refl)
have_one_root b e (p ∷ ports) are some one =
    let each = each_root b e one.root (p ∷ ports) (subst (Each (λ q. BodyRoot b q one.root)) are one.roots) in (
      subst (λ root. Each (λ q. root_in (all_roots b) q ≡ root) (p ∷ ports)) (sym each.0) each,
      ap (is_reached (all_reached b)) each.0 ∙ is_reached_from b e one.root one.depends,
    )

pub some_data : (b : Body) → Earlier b → list_any (is_reached (all_reached b)) b.next ≡ true → (p : BodyPort) × Contains b.next p × FromLanes b p.node
some_data b e h =
    let any = Any-from_list_any (is_reached (all_reached b)) b.next h in
    (any.1, (any.0, any.2, any.3), is_from b e any.1 any.4)

pub data_reached : (b : Body) → Earlier b → (p : BodyPort) × Contains b.next p × FromLanes b p.node → list_any (is_reached (all_reached b)) b.next ≡ true
data_reached b e h = list_any-from_Any (is_reached (all_reached b)) b.next (h.1.0, h.0, h.1.1, h.1.2, is_reached_from b e h.0 h.2)
