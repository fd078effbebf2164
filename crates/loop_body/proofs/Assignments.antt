-- Each fitting tuple has exactly one assignment.
use Rattle.std.proofs.Common.{◌≡◌, ℕ, zero, suc, ◌+◌, List, [], ◌∷◌, ◌++◌, map, length, Some, refl, ap, sym, ◌∙◌, subst, arith, append_assoc}
use Rattle.std.specs.Prelude.{slice_get}
use Rattle.op_table.specs.Laws.{ValueFits}
use Rattle.fun_expr.specs.Laws.{FunValueFits}
use Rattle.components.specs.Kind.{Shape, ins, outs}
use Rattle.circuits.specs.PortTokens.{Token}
use Rattle.circuits.specs.Firing.{FitEach}
use Rattle.components.specs.declared.kind.Kind.{Kind}
use Rattle.loop_body.specs.BodyKind.{MayStand, FiresOnce}
use Rattle.loop_body.specs.declared.body_port.BodyPort.{BodyPort}
use Rattle.loop_body.specs.Body.{Body, entry, NodesFit, shapes, kinds}
use Rattle.loop_body.specs.BodyValue.{IsValueAt}
use Rattle.loop_body.proofs.Lists.{some_inj, append_nil}
use Rattle.loop_body.proofs.Giving.{gives, node_fires, node_once, node_fits}
use Rattle.loop_body.proofs.Tables.{slice_get-seam, entries-front, RowsFit, rows_more, TokensAt, tokens_at_ports, somes_inj}

-- a node takes from the table and gives its row there
pub record RowAt (tokens : List (List Token)) (row : ℕ) (node : Kind) (ports : List BodyPort) : Type 0 where
  pub taken : List Token
  pub given : List Token
  pub takes : map (entry tokens) ports ≡ map Some taken
  pub gives_row : slice_get tokens row ≡ Some given
  pub fires : FiresOnce node taken given

-- the table of tokens behind the nodes
pub record Assigned (before : List (List Token)) (shapes : List (List Shape)) (nodes : List Kind) (inputs : List (List BodyPort)) : Type 0 where
  pub rest : List (List Token)
  pub fit : RowsFit (shapes ++ map outs nodes) (before ++ rest)
  pub count : length rest ≡ length nodes
  pub each : (i : ℕ) (node : Kind) (ports : List BodyPort) → slice_get nodes i ≡ Some node → slice_get inputs i ≡ Some ports → RowAt (before ++ rest) (length before + i) node ports

length-push : {A : Type 0} (xs : List A) (x : A) → length (xs ++ x ∷ []) ≡ length xs + 1
length-push [] x = refl
length-push (y ∷ xs) x = omega (arith, length-push xs x)

length_zero : (n : ℕ) → n ≡ n + 0
length_zero n = omega arith

length_suc : (xs : List (List Token)) (x : List Token) (i : ℕ) → length (xs ++ x ∷ []) + i ≡ length xs + suc i
length_suc xs x i = omega (arith, length-push xs x)

step_fit : (before rest : List (List Token)) (table : List (List Shape)) (node : Kind) (nodes : List Kind) (given : List Token) →
    RowsFit ((table ++ outs node ∷ []) ++ map outs nodes) ((before ++ given ∷ []) ++ rest) → RowsFit (table ++ map outs (node ∷ nodes)) (before ++ given ∷ rest)
step_fit before rest table node nodes given h =
    subst (λ t. RowsFit t (before ++ given ∷ rest)) (append_assoc table (outs node ∷ []) (map outs nodes))
    (subst (λ t. RowsFit ((table ++ outs node ∷ []) ++ map outs nodes) t) (append_assoc before (given ∷ []) rest) h)

first_row : (before rest : List (List Token)) (node : Kind) (ports : List BodyPort) (taken given : List Token) →
    map (entry before) ports ≡ map Some taken → FiresOnce node taken given → RowAt (before ++ given ∷ rest) (length before) node ports
first_row before rest node ports taken given takes fires = record {
  taken = taken;
  given = given;
  takes = entries-front before (given ∷ rest) ports taken takes;
  gives_row = slice_get-seam before given rest;
  fires = fires;
}

same_row : (tokens tokens' : List (List Token)) (row row' : ℕ) (node : Kind) (ports : List BodyPort) → tokens ≡ tokens' → row ≡ row' → RowAt tokens row node ports → RowAt tokens' row' node ports
same_row tokens tokens' row row' node ports e k r = subst (λ t. RowAt t row' node ports) e (subst (λ i. RowAt tokens i node ports) k r)

each_row : (before rest : List (List Token)) (node : Kind) (nodes : List Kind) (ports : List BodyPort) (inputs : List (List BodyPort)) (given : List Token) →
    RowAt (before ++ given ∷ rest) (length before) node ports →
    ((i : ℕ) (n : Kind) (ps : List BodyPort) → slice_get nodes i ≡ Some n → slice_get inputs i ≡ Some ps → RowAt ((before ++ given ∷ []) ++ rest) (length (before ++ given ∷ []) + i) n ps) →
    (i : ℕ) (n : Kind) (ps : List BodyPort) → slice_get (node ∷ nodes) i ≡ Some n → slice_get (ports ∷ inputs) i ≡ Some ps → RowAt (before ++ given ∷ rest) (length before + i) n ps
each_row before rest node nodes ports inputs given first later zero n ps is_node are_ports =
    subst (λ k. RowAt (before ++ given ∷ rest) k n ps) (length_zero (length before))
    (subst (λ x. RowAt (before ++ given ∷ rest) (length before) x ps) (some_inj is_node)
    (subst (λ x. RowAt (before ++ given ∷ rest) (length before) node x) (some_inj are_ports) first))
each_row before rest node nodes ports inputs given first later (suc i) n ps is_node are_ports =
    same_row ((before ++ given ∷ []) ++ rest) (before ++ given ∷ rest) (length (before ++ given ∷ []) + i) (length before + suc i) n ps
    (append_assoc before (given ∷ []) rest) (length_suc before given i) (later i n ps is_node are_ports)

pub assigned : FunValueFits → ValueFits → (before : List (List Token)) (table : List (List Shape)) (nodes : List Kind) (inputs : List (List BodyPort)) →
    RowsFit table before → NodesFit table nodes inputs → Assigned before table nodes inputs
assigned functions values before table [] [] fit h = record {
  rest = [];
  fit = subst (λ t. RowsFit t (before ++ [])) (sym (append_nil table)) (subst (RowsFit table) (sym (append_nil before)) fit);
  count = refl;
  each = λ i node ports is_node are_ports. absurd cc;
}
assigned functions values before table [] (ports ∷ inputs) fit h = absurd h
assigned functions values before table (node ∷ nodes) [] fit h = absurd h
assigned functions values before table (node ∷ nodes) (ports ∷ inputs) fit h =
    let t = tokens_at_ports table before fit ports (ins node) h.1 in
    let given = gives node t.taken in
    let more = rows_more table before (outs node) given fit (node_fits functions values node t.taken h.0 t.fit) in
    let later = assigned functions values (before ++ given ∷ []) (table ++ outs node ∷ []) nodes inputs more h.2 in
    record {
      rest = given ∷ later.rest;
      fit = step_fit before later.rest table node nodes given later.fit;
      count = ap suc later.count;
      each = each_row before later.rest node nodes ports inputs given
          (first_row before later.rest node ports t.taken given t.are (node_fires node t.taken h.0 t.fit)) later.each;
    }

abbrev pub Rows : List (List Token) → ℕ → List Kind → List (List BodyPort) → Type 0
Rows tokens start nodes inputs = (i : ℕ) (node : Kind) (ports : List BodyPort) → slice_get nodes i ≡ Some node → slice_get inputs i ≡ Some ports → RowAt tokens (start + i) node ports

-- the row is what the node gives
pub row_is : (before rest : List (List Token)) (x : List Token) (node : Kind) (ports : List BodyPort) → MayStand node → (t : TokensAt before ports (ins node)) →
    RowAt (before ++ x ∷ rest) (length before) node ports → x ≡ gives node t.taken
row_is before rest x node ports ok t r =
    let same : r.taken ≡ t.taken = somes_inj r.taken t.taken (sym r.takes ∙ entries-front before (x ∷ rest) ports t.taken t.are) in
    some_inj (sym (slice_get-seam before x rest) ∙ r.gives_row) ∙ node_once node r.taken r.given ok (subst (FitEach (ins node)) (sym same) t.fit) r.fires ∙ ap (gives node) same

pub rows_later : (before rest : List (List Token)) (x : List Token) (node : Kind) (nodes : List Kind) (ports : List BodyPort) (inputs : List (List BodyPort)) →
    Rows (before ++ x ∷ rest) (length before) (node ∷ nodes) (ports ∷ inputs) → Rows ((before ++ x ∷ []) ++ rest) (length (before ++ x ∷ [])) nodes inputs
rows_later before rest x node nodes ports inputs each i n ps is_node are_ports =
    same_row (before ++ x ∷ rest) ((before ++ x ∷ []) ++ rest) (length before + suc i) (length (before ++ x ∷ []) + i) n ps
    (sym (append_assoc before (x ∷ []) rest)) (sym (length_suc before x i)) (each (suc i) n ps is_node are_ports)

pub row_now : (before rest : List (List Token)) (x : List Token) (node : Kind) (nodes : List Kind) (ports : List BodyPort) (inputs : List (List BodyPort)) →
    Rows (before ++ x ∷ rest) (length before) (node ∷ nodes) (ports ∷ inputs) → RowAt (before ++ x ∷ rest) (length before) node ports
row_now before rest x node nodes ports inputs each = subst (λ k. RowAt (before ++ x ∷ rest) k node ports) (sym (length_zero (length before))) (each zero node ports refl refl)

-- and no other: two tables that go on from the same rows are one
pub assigned_once : FunValueFits → ValueFits → (before : List (List Token)) (table : List (List Shape)) (nodes : List Kind) (inputs : List (List BodyPort)) →
    RowsFit table before → NodesFit table nodes inputs → (rest other : List (List Token)) → length rest ≡ length nodes → length other ≡ length nodes →
    Rows (before ++ rest) (length before) nodes inputs → Rows (before ++ other) (length before) nodes inputs →
    rest ≡ other
assigned_once functions values before table [] [] fit h [] [] count count' each each' = refl
assigned_once functions values before table [] [] fit h [] (x ∷ other) count count' each each' = absurd (omega arith)
assigned_once functions values before table [] [] fit h (x ∷ rest) other count count' each each' = absurd (omega arith)
assigned_once functions values before table [] (ports ∷ inputs) fit h rest other count count' each each' = absurd h
assigned_once functions values before table (node ∷ nodes) [] fit h rest other count count' each each' = absurd h
assigned_once functions values before table (node ∷ nodes) (ports ∷ inputs) fit h [] other count count' each each' = absurd (omega arith)
assigned_once functions values before table (node ∷ nodes) (ports ∷ inputs) fit h (x ∷ rest) [] count count' each each' = absurd (omega arith)
assigned_once functions values before table (node ∷ nodes) (ports ∷ inputs) fit h (x ∷ rest) (y ∷ other) count count' each each' =
    let t = tokens_at_ports table before fit ports (ins node) h.1 in
    let is_x = row_is before rest x node ports h.0 t (row_now before rest x node nodes ports inputs each) in
    let is_y = row_is before other y node ports h.0 t (row_now before other y node nodes ports inputs each') in
    let e : y ≡ x = is_y ∙ sym is_x in
    let given_fits : FitEach (outs node) x = subst (FitEach (outs node)) (sym is_x) (node_fits functions values node t.taken h.0 t.fit) in
    let tail : rest ≡ other = assigned_once functions values (before ++ x ∷ []) (table ++ outs node ∷ []) nodes inputs (rows_more table before (outs node) x fit given_fits) h.2 rest other (omega arith) (omega arith)
    (rows_later before rest x node nodes ports inputs each)
    (subst (λ z. Rows ((before ++ z ∷ []) ++ other) (length (before ++ z ∷ [])) nodes inputs) e (rows_later before other y node nodes ports inputs each')) in
    ap (λ xs. x ∷ xs) tail ∙ ap (λ z. z ∷ other) (sym e)

-- rows of a value
pub rows_of : (b : Body) (tuple : List Token) (tokens : List (List Token)) → IsValueAt b tuple tokens → Rows tokens 1 (kinds b) b.inputs
rows_of b tuple tokens v i node ports is_node are_ports =
    let f = v.nodes i node ports is_node are_ports in
    subst (λ k. RowAt tokens k node ports) (one_more i) (record { taken = f.taken; given = f.given; takes = f.takes; gives_row = f.gives; fires = f.fires })
  where
    one_more : (i : ℕ) → suc i ≡ 1 + i
    one_more i = omega arith

-- the one value of a body at a fitting tuple
pub record OneValue (b : Body) (tuple : List Token) : Type 0 where
  pub tokens : List (List Token)
  pub value : IsValueAt b tuple tokens
  pub fit : RowsFit (shapes b) tokens
  pub once : (other : List (List Token)) → IsValueAt b tuple other → other ≡ tokens

with_tuple : (b : Body) (tuple : List Token) (tokens : List (List Token)) → IsValueAt b tuple tokens → (rest : List (List Token)) × (tokens ≡ tuple ∷ rest)
with_tuple b tuple [] v = let e = v.lanes in absurd cc
with_tuple b tuple (x ∷ tokens) v = (tokens, ap (λ y. y ∷ tokens) (some_inj v.lanes))

pub one_value : FunValueFits → ValueFits → (b : Body) → NodesFit (b.vars ∷ []) (kinds b) b.inputs → (tuple : List Token) → FitEach b.vars tuple → OneValue b tuple
one_value functions values b h tuple fit =
    let a = assigned functions values (tuple ∷ []) (b.vars ∷ []) (kinds b) b.inputs (fit, tt) h in
    let v : IsValueAt b tuple (tuple ∷ a.rest) = record {
      lanes = refl;
      rows = omega (arith, a.count);
      nodes = λ i node ports is_node are_ports.
          let r = subst (λ k. RowAt (tuple ∷ a.rest) k node ports) (one_more i) (a.each i node ports is_node are_ports) in
          record { taken = r.taken; given = r.given; takes = r.takes; gives = r.gives_row; fires = r.fires };
    } in
    record {
      tokens = tuple ∷ a.rest;
      value = v;
      fit = a.fit;
      once = λ other w.
          let o = with_tuple b tuple other w in
          let same : o.0 ≡ a.rest = assigned_once functions values (tuple ∷ []) (b.vars ∷ []) (kinds b) b.inputs (fit, tt) h o.0 a.rest
          (counted (kinds b) o.0 tuple other o.1 w.rows) a.count
          (subst (λ t. Rows t 1 (kinds b) b.inputs) o.1 (rows_of b tuple other w)) (rows_of b tuple (tuple ∷ a.rest) v) in
          o.1 ∙ ap (λ xs. tuple ∷ xs) same;
    }
  where
    one_more : (i : ℕ) → 1 + i ≡ suc i
    one_more i = omega arith

    counted : (nodes : List Kind) (rest : List (List Token)) (tuple : List Token) (other : List (List Token)) → other ≡ tuple ∷ rest → length other ≡ length nodes + 1 → length rest ≡ length nodes
    counted nodes rest tuple other e k = omega (arith, ap length e)
