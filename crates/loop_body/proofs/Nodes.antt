-- What each node makes of its input wires.
use Rattle.std.proofs.Common.{◌≡◌, ℕ, ◌+◌, ◌^◌, ◌%◌, ◌≤◌, List, [], ◌∷◌, map, length, ap, subst, arith}
use Rattle.std.specs.List.{concat, zip}
use Rattle.std.proofs.lemmas.Nat.{pow_pos, mod_below}
use Rattle.std.proofs.lemmas.List.Elements.{recursion_from_All}
use Rattle.op_table.specs.Value.{op_value}
use Rattle.components.specs.declared.kind.Kind.TheVariants.{Entry, Exit, Buffer, Fork, Join, Split, Operator, Constant, Source0, Sink0, Pure, Mux, Branch, Merge, CtrlMerge, Init, Tagger}
use Rattle.components.specs.Kind.{Shape, field, ins, outs}
use Rattle.circuits.specs.PortTokens.{Token, single}
use Rattle.circuits.specs.Firing.{FitEach}
use Rattle.fun_expr.specs.Each.{total}
use Rattle.fun_expr.specs.Function.{environment, fun_value, fun_size}
use Rattle.fun_expr.specs.declared.expr.Expr.{Expr}
use Rattle.fun_expr.specs.declared.expr.Expr.TheVariants.{Lit, Apply}
use Rattle.loop_body.proofs.ExprTrees.{value-lit}
use Rattle.components.specs.declared.kind.Kind.{Kind}
use Rattle.loop_body.specs.BodyKind.{MayStand, weight}
use Rattle.loop_body.specs.Body.{flat}
use Rattle.loop_body.specs.BodyFunction.{Wires, settled, node_wires}
use Rattle.loop_body.proofs.Giving.{only, number_of, gives, node_fits}
use Rattle.loop_body.proofs.Binding.{cost, Sound, grows_not, settles}
use Rattle.loop_body.proofs.Meaning.{RowMeans, row_flat, row_only, row_cut, row_operands, row_cost, cost-flat, cost-cut}
use Rattle.loop_body.proofs.NodeMeaning.{OpLaws, NodeMeans, operates, operator_means, lit_good, zeros_mean, cost-lit, cost-zeros, fork_means}
use Rattle.loop_body.proofs.PureMeaning.{pure_means}

pub row_fits : (env : List (ℕ × ℕ)) (ws : List (List Expr)) (ss : List Shape) (vs : List Token) → RowMeans env ws ss vs → FitEach ss vs
row_fits env [] [] [] h = tt
row_fits env [] [] (v ∷ vs) h = absurd h
row_fits env [] (s ∷ ss) vs h = absurd h
row_fits env (w ∷ ws) [] vs h = absurd h
row_fits env (w ∷ ws) (s ∷ ss) [] h = absurd h
row_fits env (w ∷ ws) (s ∷ ss) (v ∷ vs) h = (h.0.fits, row_fits env ws ss vs h.1)

-- a row that binds nothing
stays : (start : List (ℕ × ℕ)) (binds : List Expr) (spent : ℕ) (wires : List (List Expr)) (shapes : List Shape) (given : List Token) → Sound start binds →
    RowMeans (environment start binds) wires shapes given → row_cost wires ≤ spent → NodeMeans start binds spent (record { binds = binds; wires = wires }) shapes given
stays start binds spent wires shapes given sound row le = record { grows = grows_not start binds; sound = sound; row = row; size = omega arith }

-- with more to spend
spends : (start : List (ℕ × ℕ)) (binds : List Expr) (spent more : ℕ) (made : Wires) (shapes : List Shape) (given : List Token) → spent ≤ more → NodeMeans start binds spent made shapes given → NodeMeans start binds more made shapes given
spends start binds spent more made shapes given le n = record { grows = n.grows; sound = n.sound; row = n.row; size = omega (arith, n.size) }

pub node_means : OpLaws → (start : List (ℕ × ℕ)) (fields : ℕ) → fields ≡ length start → (node : Kind) (wires : List (List Expr)) (taken : List Token) (binds : List Expr) → MayStand node → Sound start binds →
    RowMeans (environment start binds) wires (ins node) taken → NodeMeans start binds (row_cost wires + weight node) (node_wires fields node (flat wires) binds) (outs node) (gives node taken)
node_means laws start fields is_length (Buffer shape) wires taken binds ok sound row =
    stays start binds (row_cost wires + 0) (flat wires ∷ []) (shape ∷ []) (only taken ∷ []) sound (row_only (environment start binds) wires shape taken row, tt) (omega (arith, cost-flat wires))
node_means laws start fields is_length (Fork shape count) wires taken binds ok sound row =
    let m = row_only (environment start binds) wires shape taken row in
    spends start binds (total cost (flat wires)) (row_cost wires + 0) _ _ _ (omega (arith, cost-flat wires))
    (fork_means start binds (flat wires) (settled fields (flat wires) binds) shape (only taken) count (settles start fields is_length (flat wires) binds sound m.good) m)
node_means laws start fields is_length (Join shapes) wires taken binds ok sound row =
    stays start binds (row_cost wires + 0) (flat wires ∷ []) (concat shapes ∷ []) (concat taken ∷ []) sound (row_flat (environment start binds) wires shapes taken row, tt) (omega (arith, cost-flat wires))
node_means laws start fields is_length (Split shapes) wires taken binds ok sound row =
    stays start binds (row_cost wires + 0) _ shapes _ sound (row_cut (environment start binds) (flat wires) shapes (only taken) (row_only (environment start binds) wires (concat shapes) taken row))
    (omega (arith, cost-flat wires, cost-cut shapes (flat wires)))
node_means laws start fields is_length (Operator op widths width) wires taken binds ok sound row =
    let m = row_operands (environment start binds) wires widths taken row in
    let fits = node_fits laws.functions laws.values (Operator op widths width) taken ok (row_fits (environment start binds) wires (map field widths) taken row) in
    spends start binds (total cost (flat wires) + 4) (row_cost wires + 4) _ _ _ (omega (arith, cost-flat wires))
    (operator_means start fields is_length binds (Apply op width (flat wires)) width (op_value op (zip widths (map number_of taken)) width) (total cost (flat wires) + 4) sound
    (operates laws (environment start binds) op widths width (flat wires) (map number_of taken) ok.1 m) fits.0.0)
node_means laws start fields is_length (Constant shape width value) wires taken binds ok sound row =
    let number = value % 2 ^ width in
    let fits = mod_below value (2 ^ width) (pow_pos width) in
    stays start binds (row_cost wires + 1) ((Lit width number ∷ []) ∷ []) (field width ∷ []) (single number ∷ []) sound
    (record { good = (lit_good (environment start binds) width number ok.1.1 fits, tt); values = ap (λ f. f ∷ []) (value-lit (environment start binds) width number); fits = (fits, tt) }, tt)
    (omega (arith, cost-lit width number))
node_means laws start fields is_length (Source0 shape) wires taken binds ok sound row =
    stays start binds (row_cost wires + length shape) _ (shape ∷ []) (map (λ width. 0) shape ∷ []) sound
    (zeros_mean (environment start binds) shape (recursion_from_All (λ width. width ≤ 64) shape ok.1.narrow), tt) (omega (arith, cost-zeros shape))
node_means laws start fields is_length (Sink0 shape) wires taken binds ok sound row = stays start binds (row_cost wires + 0) [] [] [] sound tt (omega arith)
node_means laws start fields is_length (Pure f shape) wires taken binds ok sound row =
    let m = row_only (environment start binds) wires f.input taken row in
    spends start binds (total cost (flat wires) + fun_size f) (row_cost wires + fun_size f) _ _ _ (omega (arith, cost-flat wires))
    (subst (λ s. NodeMeans start binds (total cost (flat wires) + fun_size f) (node_wires fields (Pure f shape) (flat wires) binds) (s ∷ []) (fun_value f (only taken) ∷ [])) ok.1.2
    (pure_means laws start fields is_length binds (flat wires) (settled fields (flat wires) binds) f (only taken) ok.1.1 (settles start fields is_length (flat wires) binds sound m.good) m))
node_means laws start fields is_length (Entry shape) wires taken binds ok sound row = absurd ok.0
node_means laws start fields is_length (Exit shape) wires taken binds ok sound row = absurd ok.0
node_means laws start fields is_length (Mux shape) wires taken binds ok sound row = absurd ok.0
node_means laws start fields is_length (Branch shape) wires taken binds ok sound row = absurd ok.0
node_means laws start fields is_length (Merge shape count) wires taken binds ok sound row = absurd ok.0
node_means laws start fields is_length (CtrlMerge shape count width) wires taken binds ok sound row = absurd ok.0
node_means laws start fields is_length (Init value mark) wires taken binds ok sound row = absurd ok.0
node_means laws start fields is_length (Tagger shape tags) wires taken binds ok sound row = absurd ok.0
