-- The function of a body node by node, over a table from which what is used is taken out.
use Rattle.std.proofs.Common.{◌≡◌, ◌≢◌, ℕ, zero, suc, ◌+◌, ◌<◌, ◌≤◌, List, [], ◌∷◌, ◌++◌, map, length, drop, get_or, refl, ap, sym, ◌∙◌, subst, arith, append_assoc}
use Rattle.std.specs.Prelude.{slice_get, unwrap_or}
use Rattle.std.proofs.lemmas.List.{drop_more, drop_all}
use Rattle.fun_expr.specs.declared.expr.Expr.{Expr}
use Rattle.fun_expr.specs.declared.expr.Expr.TheVariants.{Field}
use Rattle.fun_expr.specs.Each.{Each}
use Rattle.components.specs.declared.kind.Kind.{Kind}
use Rattle.loop_body.specs.declared.body_port.BodyPort.{BodyPort}
use Rattle.loop_body.specs.Body.{flat, in_row, entry}
use Rattle.loop_body.specs.BodyFunction.{Wires, Built, wire_at, node_wires, with_node, built, fields_from}
use Rattle.loop_body.specs.Tables.{Differ, Agree, made_of, IsStep, IsBuilt}
use Rattle.loop_body.proofs.ExprLists.{each_all, each_left, each_right}

-- the fields of the input
pub fields_next : (widths : List ℕ) (place : ℕ) (wire more : List Expr) (e : Expr) (whole : List Expr) → place < length widths → more ≡ wire ++ e ∷ [] → e ≡ Field place →
    wire ++ fields_from place (drop place widths) ≡ whole → more ++ fields_from (place + 1) (drop (place + 1) widths) ≡ whole
fields_next widths place wire more e whole within is_more is so_far =
    let first = drop_more widths place 0 within in
    let now : wire ++ (Field place ∷ fields_from (place + 1) (drop (place + 1) widths)) ≡ whole = subst (λ ws. wire ++ fields_from place ws ≡ whole) first so_far in
    ap (λ xs. xs ++ fields_from (place + 1) (drop (place + 1) widths)) (is_more ∙ ap (λ x. wire ++ x ∷ []) is) ∙
    append_assoc wire (Field place ∷ []) (fields_from (place + 1) (drop (place + 1) widths)) ∙ now

-- parts of lists without repetition
pub differ_left : (xs ys : List BodyPort) → Differ (xs ++ ys) → Differ xs
differ_left [] ys h = tt
differ_left (x ∷ xs) ys h = (each_left (λ other. other ≢ x) xs ys h.0, differ_left xs ys h.1)

pub differ_right : (xs ys : List BodyPort) → Differ (xs ++ ys) → Differ ys
differ_right [] ys h = h
differ_right (x ∷ xs) ys h = differ_right xs ys h.1

each_both : (x : BodyPort) (xs more : List BodyPort) → Each (λ q. q ≢ x) more → Each (λ q. Each (λ p. q ≢ p) xs) more → Each (λ q. Each (λ p. q ≢ p) (x ∷ xs)) more
each_both x xs [] h k = tt
each_both x xs (q ∷ more) h k = ((h.0, k.0), each_both x xs more h.1 k.1)

pub apart : (xs more : List BodyPort) → Differ (xs ++ more) → Each (λ q. Each (λ p. q ≢ p) xs) more
apart [] more h = each_all (λ q. Each (λ p. q ≢ p) []) (λ q. tt) more
apart (x ∷ xs) more h = each_both x xs more (each_right (λ q. q ≢ x) xs more h.0) (apart xs more h.1)

-- a row more on two tables
push_in : (a b : List (List (List Expr))) (row : List (List Expr)) (i port : ℕ) → length a ≡ length b → in_row port (slice_get a i) ≡ in_row port (slice_get b i) → in_row port (slice_get (a ++ row ∷ []) i) ≡ in_row port (slice_get (b ++ row ∷ []) i)
push_in [] [] row i port len h = refl
push_in [] (y ∷ b) row i port len h = absurd (omega (arith, len))
push_in (x ∷ a) [] row i port len h = absurd (omega (arith, len))
push_in (x ∷ a) (y ∷ b) row zero port len h = h
push_in (x ∷ a) (y ∷ b) row (suc i) port len h = push_in a b row i port (omega (arith, len)) h

push_all : (a b : List (List (List Expr))) (row : List (List Expr)) (more : List BodyPort) → length a ≡ length b → Each (λ q. entry a q ≡ entry b q) more → Each (λ q. entry (a ++ row ∷ []) q ≡ entry (b ++ row ∷ []) q) more
push_all a b row [] len h = tt
push_all a b row (q ∷ more) len h = (push_in a b row q.node q.port len h.0, push_all a b row more len h.1)

length-push : (xs : List (List (List Expr))) (x : List (List Expr)) → length (xs ++ x ∷ []) ≡ length xs + 1
length-push [] x = refl
length-push (y ∷ xs) x = omega (arith, length-push xs x)

pub same_wires : (old whole : List (List (List Expr))) (ports : List BodyPort) → Each (λ p. entry old p ≡ entry whole p) ports → map (wire_at old) ports ≡ map (wire_at whole) ports
same_wires old whole [] h = refl
same_wires old whole (p ∷ ports) h = ap (λ o. unwrap_or o [] ∷ map (wire_at old) ports) h.0 ∙ ap (λ ws. wire_at whole p ∷ ws) (same_wires old whole ports h.1)

still : (old taken whole : List (List (List Expr))) (ports more : List BodyPort) → ((other : BodyPort) → Each (λ p. other ≢ p) ports → entry taken other ≡ entry old other) → Each (λ q. Each (λ p. q ≢ p) ports) more →
    Each (λ q. entry old q ≡ entry whole q) more → Each (λ q. entry taken q ≡ entry whole q) more
still old taken whole ports [] stay n h = tt
still old taken whole ports (q ∷ more) stay n h = (stay q n.0 ∙ h.0, still old taken whole ports more stay n.1 h.1)

-- one node
pub node_step : (fields : ℕ) (kind : Kind) (ports : List BodyPort) (old taken new : List (List (List Expr))) (before after wires : List Expr) (row : List (List Expr)) →
    wires ≡ flat (map (wire_at old) ports) → ((other : BodyPort) → Each (λ p. other ≢ p) ports → entry taken other ≡ entry old other) → length taken ≡ length old →
    record { binds = after; wires = row } ≡ node_wires fields kind wires before → new ≡ taken ++ row ∷ [] → IsStep fields kind ports old before new after
node_step fields kind ports old taken new before after wires row are stay rows is_made is_new more whole differ agree =
    let here = each_left (λ p. entry old p ≡ entry whole p) ports more agree.each in
    let later = each_right (λ p. entry old p ≡ entry whole p) ports more agree.each in
    let made : record { binds = after; wires = row } ≡ made_of fields kind ports whole before = is_made ∙ ap (λ es. node_wires fields kind es before) (are ∙ ap flat (same_wires old whole ports here)) in
    let same : taken ++ row ∷ [] ≡ new = sym is_new in
    let is_row : row ≡ (made_of fields kind ports whole before).wires = ap (λ (m : Wires). m.wires) made in
    let len : length taken ≡ length whole = rows ∙ agree.rows in
    let agreed : Agree more (taken ++ row ∷ []) (whole ++ row ∷ []) = record {
      rows = omega (arith, len, length-push taken row, length-push whole row);
      each = push_all taken whole row more len (still old taken whole ports more stay (apart ports more differ) later);
    } in
    (ap (λ (m : Wires). m.binds) made, subst (λ t. Agree more t (whole ++ (made_of fields kind ports whole before).wires ∷ [])) same (subst (λ r. Agree more (taken ++ row ∷ []) (whole ++ r ∷ [])) is_row agreed))

-- the nodes so far
pub record Partly (fields : ℕ) (nodes : List Kind) (inputs : List (List BodyPort)) (i : ℕ) (more : List BodyPort) (whole : Built) (now : List (List (List Expr))) (binds : List Expr) : Type 0 where
  pub so_far : Built
  pub goes_on : built fields (drop i nodes) (drop i inputs) so_far ≡ whole
  pub are : binds ≡ so_far.binds
  pub differ : Differ (flat (drop i inputs) ++ more)
  pub agree : Agree (flat (drop i inputs) ++ more) now so_far.table

-- whatever more is to be used
abbrev pub ArePartly : ℕ → List Kind → List (List BodyPort) → List (List (List Expr)) → List Expr → ℕ → List (List (List Expr)) → List Expr → Type 0
ArePartly fields nodes inputs old before i now binds = (more : List BodyPort) (whole : List (List (List Expr))) → Differ (flat inputs ++ more) → Agree (flat inputs ++ more) old whole →
    Partly fields nodes inputs i more (built fields nodes inputs (record { binds = before; table = whole })) now binds

pub none_partly : (fields : ℕ) (nodes : List Kind) (inputs : List (List BodyPort)) (old : List (List (List Expr))) (before : List Expr) → ArePartly fields nodes inputs old before 0 old before
none_partly fields nodes inputs old before more whole differ agree = record { so_far = record { binds = before; table = whole }; goes_on = refl; are = refl; differ = differ; agree = agree }

pub one_more : (fields : ℕ) (nodes : List Kind) (inputs : List (List BodyPort)) (old : List (List (List Expr))) (before : List Expr) (i : ℕ) (now next : List (List (List Expr))) (binds after : List Expr) (kind : Kind) (ports : List BodyPort) →
    drop i nodes ≡ kind ∷ drop (i + 1) nodes → drop i inputs ≡ ports ∷ drop (i + 1) inputs → IsStep fields kind ports now binds next after →
    ArePartly fields nodes inputs old before i now binds → ArePartly fields nodes inputs old before (i + 1) next after
one_more fields nodes inputs old before i now next binds after kind ports is_kind are_ports step partly more whole differ agree =
    let p = partly more whole differ agree in
    let rest = flat (drop (i + 1) inputs) in
    let uses_are : flat (drop i inputs) ++ more ≡ ports ++ (rest ++ more) = ap (λ xs. flat xs ++ more) are_ports ∙ append_assoc ports rest more in
    let differ' : Differ (ports ++ (rest ++ more)) = subst Differ uses_are p.differ in
    let agree' : Agree (ports ++ (rest ++ more)) now p.so_far.table = subst (λ us. Agree us now p.so_far.table) uses_are p.agree in
    let stepped = step (rest ++ more) p.so_far.table differ' agree' in
    let made = made_of fields kind ports p.so_far.table binds in
    let made_is : made ≡ made_of fields kind ports p.so_far.table p.so_far.binds = ap (made_of fields kind ports p.so_far.table) p.are in
    record {
      so_far = with_node p.so_far.table made;
      goes_on = ap (λ m. built fields (drop (i + 1) nodes) (drop (i + 1) inputs) (with_node p.so_far.table m)) made_is ∙
          sym (ap (λ ks. built fields ks (ports ∷ drop (i + 1) inputs) p.so_far) is_kind) ∙ sym (ap (λ is. built fields (drop i nodes) is p.so_far) are_ports) ∙ p.goes_on;
      are = stepped.0;
      differ = differ_right ports (rest ++ more) differ';
      agree = stepped.1;
    }

pub whole_built : (fields : ℕ) (nodes : List Kind) (inputs : List (List BodyPort)) (old : List (List (List Expr))) (before : List Expr) (i : ℕ) (now : List (List (List Expr))) (binds : List Expr) →
    length nodes ≤ i → length inputs ≤ i → ArePartly fields nodes inputs old before i now binds → IsBuilt fields nodes inputs old before now binds
whole_built fields nodes inputs old before i now binds le le' partly more whole differ agree =
    let p = partly more whole differ agree in
    let end : p.so_far ≡ built fields nodes inputs (record { binds = before; table = whole }) =
    sym (ap (λ ks. built fields ks (drop i inputs) p.so_far) (drop_all i nodes le)) ∙ p.goes_on in (
      p.are ∙ ap (λ (b : Built). b.binds) end,
      subst (λ (b : Built). Agree more now b.table) end (subst (λ xs. Agree (flat xs ++ more) now p.so_far.table) (drop_all i inputs le') p.agree),
    )

-- dropping kinds
drop-map : {A B : Type 0} (f : A → B) (i : ℕ) (xs : List A) → drop i (map f xs) ≡ map f (drop i xs)
drop-map f zero xs = refl
drop-map f (suc i) [] = refl
drop-map f (suc i) (x ∷ xs) = drop-map f i xs

pub kind_first : {A : Type 0} (f : A → Kind) (xs : List A) (i : ℕ) (x : A) → i < length xs → x ≡ get_or xs i x → drop i (map f xs) ≡ f x ∷ drop (i + 1) (map f xs)
kind_first f xs i x within is =
    drop-map f i xs ∙ ap (map f) (drop_more xs i x within ∙ ap (λ y. y ∷ drop (i + 1) xs) (sym is)) ∙ ap (λ ks. f x ∷ ks) (sym (drop-map f (i + 1) xs))

pub length-kinds : {A : Type 0} (f : A → Kind) (xs : List A) → length (map f xs) ≡ length xs
length-kinds f [] = refl
length-kinds f (x ∷ xs) = ap suc (length-kinds f xs)

-- the ports of the next node differ
pub differ_next : (inputs : List (List BodyPort)) (i : ℕ) (ports : List BodyPort) → drop i inputs ≡ ports ∷ drop (i + 1) inputs → Differ (flat (drop i inputs)) → Differ ports × Differ (flat (drop (i + 1) inputs))
differ_next inputs i ports are h =
    let now : Differ (ports ++ flat (drop (i + 1) inputs)) = subst (λ xs. Differ (flat xs)) are h in
    (differ_left ports (flat (drop (i + 1) inputs)) now, differ_right ports (flat (drop (i + 1) inputs)) now)
