-- What all wires of a body stand for, and how large the binds are.
use Rattle.std.proofs.Common.{◌≡◌, ℕ, zero, suc, ◌+◌, ◌≤◌, List, [], ◌∷◌, ◌++◌, map, length, Some, refl, ap, sym, ◌∙◌, subst, arith, append_assoc}
use Rattle.std.specs.Prelude.{slice_get, unwrap_or}
use Rattle.components.specs.Kind.{Shape, ins, outs}
use Rattle.components.specs.Name.{port_get}
use Rattle.circuits.specs.PortTokens.{Token}
use Rattle.fun_expr.specs.Each.{total}
use Rattle.fun_expr.specs.Expr.{expr_size}
use Rattle.fun_expr.specs.Function.{environment}
use Rattle.fun_expr.specs.declared.expr.Expr.{Expr}
use Rattle.loop_body.proofs.ExprLists.{total-append}
use Rattle.components.specs.declared.kind.Kind.{Kind}
use Rattle.loop_body.specs.BodyKind.{weight}
use Rattle.loop_body.specs.declared.body_port.BodyPort.{BodyPort}
use Rattle.loop_body.specs.Body.{in_row, entry, NodesFit, flat}
use Rattle.loop_body.specs.BodyFunction.{Built, wire_at, with_node, node_wires, built}
use Rattle.loop_body.proofs.Lists.{some_inj, heads, append_nil}
use Rattle.loop_body.proofs.Tables.{entry-front, RowsFit, tokens_at_ports}
use Rattle.loop_body.proofs.Assignments.{Rows, row_is, rows_later, row_now}
use Rattle.loop_body.proofs.Binding.{Sound}
use Rattle.loop_body.proofs.Meaning.{Means, RowMeans, row_behind, row_cost}
use Rattle.loop_body.proofs.NodeMeaning.{OpLaws}
use Rattle.loop_body.proofs.Nodes.{row_fits, node_means}

-- a table of wires stands for a table of tokens
abbrev pub TableMeans : List (ℕ × ℕ) → List (List (List Expr)) → List (List Shape) → List (List Token) → Type 0
TableMeans env [] [] [] = Unit {0}
TableMeans env [] [] (v ∷ vs) = ⊥
TableMeans env [] (s ∷ ss) vs = ⊥
TableMeans env (w ∷ ws) [] vs = ⊥
TableMeans env (w ∷ ws) (s ∷ ss) [] = ⊥
TableMeans env (w ∷ ws) (s ∷ ss) (v ∷ vs) = RowMeans env w s v × TableMeans env ws ss vs

pub table_behind : (env more : List (ℕ × ℕ)) (ws : List (List (List Expr))) (ss : List (List Shape)) (vs : List (List Token)) → TableMeans env ws ss vs → TableMeans (env ++ more) ws ss vs
table_behind env more [] [] [] h = tt
table_behind env more [] [] (v ∷ vs) h = absurd h
table_behind env more [] (s ∷ ss) vs h = absurd h
table_behind env more (w ∷ ws) [] vs h = absurd h
table_behind env more (w ∷ ws) (s ∷ ss) [] h = absurd h
table_behind env more (w ∷ ws) (s ∷ ss) (v ∷ vs) h = (row_behind env more w s v h.0, table_behind env more ws ss vs h.1)

pub table_more : (env : List (ℕ × ℕ)) (ws : List (List (List Expr))) (ss : List (List Shape)) (vs : List (List Token)) (w : List (List Expr)) (s : List Shape) (v : List Token) →
    TableMeans env ws ss vs → RowMeans env w s v → TableMeans env (ws ++ w ∷ []) (ss ++ s ∷ []) (vs ++ v ∷ [])
table_more env [] [] [] w s v h k = (k, tt)
table_more env [] [] (y ∷ vs) w s v h k = absurd h
table_more env [] (x ∷ ss) vs w s v h k = absurd h
table_more env (x ∷ ws) [] vs w s v h k = absurd h
table_more env (x ∷ ws) (y ∷ ss) [] w s v h k = absurd h
table_more env (x ∷ ws) (y ∷ ss) (z ∷ vs) w s v h k = (h.0, table_more env ws ss vs w s v h.1 k)

pub table_fits : (env : List (ℕ × ℕ)) (ws : List (List (List Expr))) (ss : List (List Shape)) (vs : List (List Token)) → TableMeans env ws ss vs → RowsFit ss vs
table_fits env [] [] [] h = tt
table_fits env [] [] (v ∷ vs) h = absurd h
table_fits env [] (s ∷ ss) vs h = absurd h
table_fits env (w ∷ ws) [] vs h = absurd h
table_fits env (w ∷ ws) (s ∷ ss) [] h = absurd h
table_fits env (w ∷ ws) (s ∷ ss) (v ∷ vs) h = (row_fits env w s v h.0, table_fits env ws ss vs h.1)

-- what an output stands for
pub record WireAt (env : List (ℕ × ℕ)) (wires : List (List (List Expr))) (p : BodyPort) (shape : Shape) (v : Token) : Type 0 where
  pub es : List Expr
  pub is : entry wires p ≡ Some es
  pub means : Means env es shape v

wire_in : (env : List (ℕ × ℕ)) (w : List (List Expr)) (s : List Shape) (v : List Token) → RowMeans env w s v → (port : ℕ) (shape : Shape) (x : Token) → port_get s port ≡ Some shape → port_get v port ≡ Some x →
    (es : List Expr) × (port_get w port ≡ Some es) × Means env es shape x
wire_in env [] [] [] h port shape x k l = absurd cc
wire_in env [] [] (v ∷ vs) h port shape x k l = absurd h
wire_in env [] (s ∷ ss) vs h port shape x k l = absurd h
wire_in env (w ∷ ws) [] vs h port shape x k l = absurd h
wire_in env (w ∷ ws) (s ∷ ss) [] h port shape x k l = absurd h
wire_in env (w ∷ ws) (s ∷ ss) (v ∷ vs) h zero shape x k l = absurd cc
wire_in env (w ∷ ws) (s ∷ ss) (v ∷ vs) h (suc zero) shape x k l = (w, refl, subst (λ y. Means env w y x) (some_inj k) (subst (Means env w s) (some_inj l) h.0))
wire_in env (w ∷ ws) (s ∷ ss) (v ∷ vs) h (suc (suc port)) shape x k l = wire_in env ws ss vs h.1 (suc port) shape x k l

wire_row : (env : List (ℕ × ℕ)) (ws : List (List (List Expr))) (ss : List (List Shape)) (vs : List (List Token)) → TableMeans env ws ss vs → (i port : ℕ) (shape : Shape) (x : Token) →
    in_row port (slice_get ss i) ≡ Some shape → in_row port (slice_get vs i) ≡ Some x → (es : List Expr) × (in_row port (slice_get ws i) ≡ Some es) × Means env es shape x
wire_row env [] [] [] h i port shape x k l = absurd cc
wire_row env [] [] (v ∷ vs) h i port shape x k l = absurd h
wire_row env [] (s ∷ ss) vs h i port shape x k l = absurd h
wire_row env (w ∷ ws) [] vs h i port shape x k l = absurd h
wire_row env (w ∷ ws) (s ∷ ss) [] h i port shape x k l = absurd h
wire_row env (w ∷ ws) (s ∷ ss) (v ∷ vs) h zero port shape x k l = wire_in env w s v h.0 port shape x k l
wire_row env (w ∷ ws) (s ∷ ss) (v ∷ vs) h (suc i) port shape x k l = wire_row env ws ss vs h.1 i port shape x k l

pub wire_at_port : (env : List (ℕ × ℕ)) (ws : List (List (List Expr))) (ss : List (List Shape)) (vs : List (List Token)) → TableMeans env ws ss vs → (p : BodyPort) (shape : Shape) (x : Token) →
    entry ss p ≡ Some shape → entry vs p ≡ Some x → WireAt env ws p shape x
wire_at_port env ws ss vs h p shape x k l =
    let found = wire_row env ws ss vs h p.node p.port shape x k l in
    record { es = found.0; is = found.1; means = found.2 }

pub wire_is : (env : List (ℕ × ℕ)) (ws : List (List (List Expr))) (p : BodyPort) (shape : Shape) (x : Token) → (w : WireAt env ws p shape x) → wire_at ws p ≡ w.es
wire_is env ws p shape x w = ap (λ o. unwrap_or o []) w.is

-- what several outputs stand for
pub wires_at_ports : (env : List (ℕ × ℕ)) (ws : List (List (List Expr))) (ss : List (List Shape)) (vs : List (List Token)) → TableMeans env ws ss vs → (ports : List BodyPort) (ins : List Shape) (taken : List Token) →
    map (entry ss) ports ≡ map Some ins → map (entry vs) ports ≡ map Some taken → RowMeans env (map (wire_at ws) ports) ins taken
wires_at_ports env ws ss vs h [] [] [] k l = tt
wires_at_ports env ws ss vs h [] [] (x ∷ taken) k l = absurd cc
wires_at_ports env ws ss vs h [] (s ∷ ins) taken k l = absurd cc
wires_at_ports env ws ss vs h (p ∷ ports) [] taken k l = absurd cc
wires_at_ports env ws ss vs h (p ∷ ports) (s ∷ ins) [] k l = absurd cc
wires_at_ports env ws ss vs h (p ∷ ports) (s ∷ ins) (x ∷ taken) k l =
    let w = wire_at_port env ws ss vs h p s x (heads k).0 (heads l).0 in
    (subst (λ es. Means env es s x) (sym (wire_is env ws p s x w)) w.means, wires_at_ports env ws ss vs h ports ins taken (heads k).1 (heads l).1)

-- an output stands for the same where rows are added
wires_stay : (ws more : List (List (List Expr))) (env : List (ℕ × ℕ)) (ss : List (List Shape)) (vs : List (List Token)) → TableMeans env ws ss vs → (ports : List BodyPort) (ins : List Shape) (taken : List Token) →
    map (entry ss) ports ≡ map Some ins → map (entry vs) ports ≡ map Some taken → map (wire_at (ws ++ more)) ports ≡ map (wire_at ws) ports
wires_stay ws more env ss vs h [] [] [] k l = refl
wires_stay ws more env ss vs h [] [] (x ∷ taken) k l = refl
wires_stay ws more env ss vs h [] (s ∷ ins) taken k l = refl
wires_stay ws more env ss vs h (p ∷ ports) [] taken k l = absurd cc
wires_stay ws more env ss vs h (p ∷ ports) (s ∷ ins) [] k l = absurd cc
wires_stay ws more env ss vs h (p ∷ ports) (s ∷ ins) (x ∷ taken) k l =
    let w = wire_at_port env ws ss vs h p s x (heads k).0 (heads l).0 in
    let e : wire_at (ws ++ more) p ≡ wire_at ws p = ap (λ o. unwrap_or o []) (entry-front ws more p w.es w.is) ∙ sym (ap (λ o. unwrap_or o []) w.is) in
    ap (λ y. y ∷ map (wire_at (ws ++ more)) ports) e ∙ ap (λ ys. wire_at ws p ∷ ys) (wires_stay ws more env ss vs h ports ins taken (heads k).1 (heads l).1)

abbrev pub table_cost : List (List (List Expr)) → ℕ
table_cost ws = total row_cost ws

-- the cost of what is used
abbrev pub used_cost : List (List (List Expr)) → List (List BodyPort) → ℕ
used_cost ws inputs = total (λ ports. row_cost (map (wire_at ws) ports)) inputs

-- what the nodes make
pub record Builds (start : List (ℕ × ℕ)) (so_far whole : Built) (nodes : List Kind) (inputs : List (List BodyPort)) (shapes : List (List Shape)) (tokens : List (List Token)) : Type 0 where
  pub more : List (List (List Expr))
  pub extends : whole.table ≡ so_far.table ++ more
  pub sound : Sound start whole.binds
  pub means : TableMeans (environment start whole.binds) whole.table (shapes ++ map outs nodes) tokens
  pub size : total expr_size whole.binds + table_cost whole.table ≤ total expr_size so_far.binds + table_cost so_far.table + used_cost whole.table inputs + total weight nodes

pub builds : OpLaws → (start : List (ℕ × ℕ)) (fields : ℕ) → fields ≡ length start → (nodes : List Kind) (inputs : List (List BodyPort)) (so_far : Built) (table : List (List Shape)) (before rest : List (List Token)) →
    length rest ≡ length nodes → NodesFit table nodes inputs → Rows (before ++ rest) (length before) nodes inputs → Sound start so_far.binds → TableMeans (environment start so_far.binds) so_far.table table before →
    Builds start so_far (built fields nodes inputs so_far) nodes inputs table (before ++ rest)
builds laws start fields is_length [] [] so_far table before [] count fit rows sound means = record {
  more = [];
  extends = sym (append_nil so_far.table);
  sound = sound;
  means = subst (λ t. TableMeans (environment start so_far.binds) so_far.table t (before ++ [])) (sym (append_nil table)) (subst (TableMeans (environment start so_far.binds) so_far.table table) (sym (append_nil before)) means);
  size = omega arith;
}
builds laws start fields is_length [] [] so_far table before (x ∷ rest) count fit rows sound means = absurd (omega arith)
builds laws start fields is_length [] (ports ∷ inputs) so_far table before rest count fit rows sound means = absurd fit
builds laws start fields is_length (node ∷ nodes) [] so_far table before rest count fit rows sound means = absurd fit
builds laws start fields is_length (node ∷ nodes) (ports ∷ inputs) so_far table before [] count fit rows sound means = absurd (omega arith)
builds laws start fields is_length (node ∷ nodes) (ports ∷ inputs) so_far table before (x ∷ rest) count fit rows sound means =
    let env = environment start so_far.binds in
    let t = tokens_at_ports table before (table_fits env so_far.table table before means) ports (ins node) fit.1 in
    let is_x = row_is before rest x node ports fit.0 t (row_now before rest x node nodes ports inputs rows) in
    let wires = map (wire_at so_far.table) ports in
    let made = node_wires fields node (flat wires) so_far.binds in
    let n = node_means laws start fields is_length node wires t.taken so_far.binds fit.0 sound (wires_at_ports env so_far.table table before means ports (ins node) t.taken fit.1 t.are) in
    let means' : TableMeans (environment start made.binds) so_far.table table before = subst (λ e. TableMeans e so_far.table table before) (sym n.grows.is) (table_behind env n.grows.more so_far.table table before means) in
    let row : RowMeans (environment start made.binds) made.wires (outs node) x = subst (RowMeans (environment start made.binds) made.wires (outs node)) (sym is_x) n.row in
    let next = with_node so_far.table made in
    let later = builds laws start fields is_length nodes inputs next (table ++ outs node ∷ []) (before ++ x ∷ []) rest (omega arith) fit.2
    (rows_later before rest x node nodes ports inputs rows) n.sound (table_more (environment start made.binds) so_far.table table before made.wires (outs node) x means' row) in
    let whole = built fields nodes inputs next in
    let extends : whole.table ≡ so_far.table ++ (made.wires ∷ later.more) = later.extends ∙ append_assoc so_far.table (made.wires ∷ []) later.more in
    let used : row_cost (map (wire_at whole.table) ports) ≡ row_cost wires =
    ap row_cost (ap (λ ws. map (wire_at ws) ports) extends ∙ wires_stay so_far.table (made.wires ∷ later.more) env table before means ports (ins node) t.taken fit.1 t.are) in
    record {
      more = made.wires ∷ later.more;
      extends = extends;
      sound = later.sound;
      means = subst (λ s. TableMeans (environment start whole.binds) whole.table s (before ++ x ∷ rest)) (append_assoc table (outs node ∷ []) (map outs nodes))
          (subst (TableMeans (environment start whole.binds) whole.table ((table ++ outs node ∷ []) ++ map outs nodes)) (append_assoc before (x ∷ []) rest) later.means);
      size = omega (arith, later.size, n.size, used, total-append row_cost so_far.table (made.wires ∷ []));
    }
