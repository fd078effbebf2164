-- The laws of bodies and their functions.
use Rattle.std.proofs.Common.{◌≡◌, ℕ, zero, suc, ◌+◌, ◌^◌, ◌<◌, ◌≤◌, List, [], ◌∷◌, ◌++◌, map, length, replicate, Option, Some, None, refl, ap, sym, ◌∙◌, subst, arith}
use Rattle.std.specs.Prelude.{slice_get}
use Rattle.std.specs.List.{concat, zip}
use Rattle.port_types.specs.Token.{Fits}
use Rattle.components.specs.declared.kind.Kind.TheVariants.{Entry, Exit, Buffer, Fork, Join, Split, Operator, Constant, Source0, Sink0, Pure, Mux, Branch, Merge, CtrlMerge, Init, Tagger}
use Rattle.components.specs.Kind.{Shape}
use Rattle.components.specs.Name.{port_get}
use Rattle.circuits.specs.PortTokens.{Token, single, one}
use Rattle.circuits.specs.Firing.{FitEach}
use Rattle.fun_expr.specs.Each.{Each}
use Rattle.fun_expr.specs.Expr.{widths}
use Rattle.fun_expr.specs.Function.{environment, fields_of, widths_after, FunTyped, FunOk, fun_size, out_widths}
use Rattle.loop_body.proofs.Environments.{widths-zip}
use Rattle.loop_body.proofs.GivenFields.{given_fields, widths_given}
use Rattle.components.specs.declared.kind.Kind.{Kind}
use Rattle.loop_body.specs.BodyKind.{FiresOnce}
use Rattle.loop_body.specs.declared.body_port.BodyPort.{BodyPort}
use Rattle.loop_body.specs.Body.{Body, in_row, entry, shapes, PassesOn, BodyRoot, here, through, IsBody, kinds}
use Rattle.loop_body.specs.BodyValue.{IsValueAt}
use Rattle.loop_body.specs.BodyFunction.{body_function, ends}
use Rattle.loop_body.specs.Laws.{next_shapes, ValueIsOne, TurnIsOne, FunctionIsTyped, FunctionIsLight, FunctionTurns}
use Rattle.loop_body.proofs.Lists.{some_inj, heads, ones_inj, fits_concat}
use Rattle.loop_body.proofs.Tables.{RowsFit, token_at_port, tokens_at_ports, somes_inj}
use Rattle.loop_body.proofs.Giving.{zeros_fit}
use Rattle.loop_body.proofs.Meaning.{map-append}
use Rattle.loop_body.proofs.NodeMeaning.{OpLaws, zip_length}
use Rattle.loop_body.proofs.Ends.{run, FirstCondition, first_condition, first_bit, end_shapes, next_entries, ends_are, input_of, Ended, ended, end_places, end_hold, places_fields, places_within, places_length, value_is}

-- one value
pub value_is_one : OpLaws → ValueIsOne
value_is_one laws b tuple ok fit = let r = run laws b ok tuple fit in (tuple ∷ r.rest, r.value, r.once)

-- a Fork or Buffer gives what it takes
port_get-replicate : (count : ℕ) (v x : Token) (port : ℕ) → port_get (replicate count v) port ≡ Some x → v ≡ x
port_get-replicate zero v x port h = absurd cc
port_get-replicate (suc count) v x zero h = absurd cc
port_get-replicate (suc count) v x (suc zero) h = some_inj h
port_get-replicate (suc count) v x (suc (suc port)) h = port_get-replicate count v x (suc port) h

port_get-one : (v x : Token) (port : ℕ) → port_get (v ∷ []) port ≡ Some x → v ≡ x
port_get-one v x zero h = absurd cc
port_get-one v x (suc zero) h = some_inj h
port_get-one v x (suc (suc port)) h = absurd cc

ones-replicate : (count : ℕ) (v : Token) → map one (replicate count v) ≡ replicate count (one v)
ones-replicate zero v = refl
ones-replicate (suc count) v = ap (λ xs. one v ∷ xs) (ones-replicate count v)

passed : (node : Kind) (taken given : List Token) (port : ℕ) (x : Token) → PassesOn (Some node) → FiresOnce node taken given → port_get given port ≡ Some x → taken ≡ x ∷ []
passed (Buffer shape) taken given port x p (v, _, t, g, _) h =
    let same : given ≡ v ∷ [] = ones_inj given (v ∷ []) g in
    ones_inj taken (v ∷ []) t ∙ ap (λ y. y ∷ []) (port_get-one v x port (ap (λ ys. port_get ys port) (sym same) ∙ h))
passed (Fork shape count) taken given port x p (v, _, t, g, _) h =
    let same : given ≡ replicate count v = ones_inj given (replicate count v) (g ∙ sym (ones-replicate count v)) in
    ones_inj taken (v ∷ []) t ∙ ap (λ y. y ∷ []) (port_get-replicate count v x port (ap (λ ys. port_get ys port) (sym same) ∙ h))
passed (Join parts) taken given port x p fires h = absurd p
passed (Split parts) taken given port x p fires h = absurd p
passed (Operator op ws width) taken given port x p fires h = absurd p
passed (Constant shape width value) taken given port x p fires h = absurd p
passed (Source0 shape) taken given port x p fires h = absurd p
passed (Sink0 shape) taken given port x p fires h = absurd p
passed (Entry shape) taken given port x p fires h = absurd p
passed (Exit shape) taken given port x p fires h = absurd p
passed (Mux shape) taken given port x p fires h = absurd p
passed (Branch shape) taken given port x p fires h = absurd p
passed (Merge shape count) taken given port x p fires h = absurd p
passed (CtrlMerge shape count width) taken given port x p fires h = absurd p
passed (Init value mark) taken given port x p fires h = absurd p
passed (Tagger shape tags) taken given port x p fires h = absurd p
passed (Pure f shape) taken given port x p fires h = absurd p

passed_by : (b : Body) (tuple : List Token) (tokens : List (List Token)) → IsValueAt b tuple tokens → (p q : BodyPort) (i : ℕ) (o : Option Kind) → p.node ≡ suc i → slice_get (kinds b) i ≡ o → PassesOn o → slice_get b.inputs i ≡ Some (q ∷ []) →
    (x : Token) → entry tokens p ≡ Some x → entry tokens q ≡ Some x
passed_by b tuple tokens value p q i None is_i is_node passes is_input x h = absurd passes
passed_by b tuple tokens value p q i (Some node) is_i is_node passes is_input x h =
    let f = value.nodes i node (q ∷ []) is_node is_input in
    let row : in_row p.port (Some f.given) ≡ Some x = ap (in_row p.port) (sym f.gives) ∙ ap (λ n. in_row p.port (slice_get tokens n)) (sym is_i) ∙ h in
    let taken = passed node f.taken f.given p.port x passes f.fires row in
    (heads (f.takes ∙ ap (map Some) taken)).0

-- the token at a root is that of each wire that comes from it
pub root_token : (b : Body) (tuple : List Token) (tokens : List (List Token)) → IsValueAt b tuple tokens → (p root : BodyPort) → BodyRoot b p root → (x : Token) → entry tokens p ≡ Some x → entry tokens root ≡ Some x
root_token b tuple tokens value p root (here _ other) x h = h
root_token b tuple tokens value p root (through _ q _ i is_i passes is_input rest) x h =
    root_token b tuple tokens value q root rest x (passed_by b tuple tokens value p q i (slice_get (kinds b) i) is_i refl passes is_input x h)

-- a bit
bit_is : (v : Token) → Fits (1 ∷ []) v → (bit : ℕ) × (v ≡ single bit) × (bit < 2)
bit_is [] h = absurd h
bit_is (n ∷ []) h = (n, refl, h.0)
bit_is (n ∷ m ∷ v) h = absurd h.1

-- all conditions have the token of the first
pub agree : (b : Body) (tuple : List Token) (tokens : List (List Token)) → IsValueAt b tuple tokens → RowsFit (shapes b) tokens → (root : BodyPort) (x : Token) → entry tokens root ≡ Some x → (ports : List BodyPort) →
    Each (λ p. BodyRoot b p root) ports → Each (λ p. entry (shapes b) p ≡ Some (1 ∷ [])) ports → Each (λ p. entry tokens p ≡ Some x) ports
agree b tuple tokens value fit root x is_x [] roots bits = tt
agree b tuple tokens value fit root x is_x (p ∷ ports) roots bits =
    let t = token_at_port (shapes b) tokens fit p (1 ∷ []) bits.0 in
    let same : t.token ≡ x = some_inj (sym (root_token b tuple tokens value p root roots.0 t.token t.is) ∙ is_x) in
    (t.is ∙ ap Some same, agree b tuple tokens value fit root x is_x ports roots.1 bits.1)

-- one turn
first_is : (b : Body) (c : FirstCondition b) (P : BodyPort → Type 0) → Each P b.conditions → P c.port
first_is b c P h = (subst (λ (ports : List BodyPort). Each P ports) c.is h).0

single_inj : (a b : ℕ) → single a ≡ single b → a ≡ b
single_inj a b h = (heads h).0

pub turn_is_one : OpLaws → TurnIsOne
turn_is_one laws b tuple ok fit =
    let r = run laws b ok tuple fit in
    let tokens = tuple ∷ r.rest in
    let t = tokens_at_ports (shapes b) tokens r.fit b.next (next_shapes b) (next_entries b ok) in
    let c = first_condition b ok in
    let ct = token_at_port (shapes b) tokens r.fit c.port (1 ∷ []) (first_bit b ok c) in
    let bit = bit_is ct.token ct.fits in
    let root_is : entry tokens ok.condition.root ≡ Some (single bit.0) =
    root_token b tuple tokens r.value c.port ok.condition.root (first_is b c (λ p. BodyRoot b p ok.condition.root) ok.condition.roots) (single bit.0) (ct.is ∙ ap Some bit.1) in (
      t.taken,
      bit.0,
      record { tokens = tokens; value = r.value; data_wires = t.are; condition_wires = agree b tuple tokens r.value r.fit ok.condition.root (single bit.0) root_is b.conditions ok.condition.roots ok.bits },
      t.fit,
      bit.2,
      λ other bit' turn.
          let same = r.once turn.tokens turn.value in
          let first : entry turn.tokens c.port ≡ Some (single bit') = first_is b c (λ p. entry turn.tokens p ≡ Some (single bit')) turn.condition_wires in (
            sym (somes_inj t.taken other (sym t.are ∙ ap (λ x. map (entry x) b.next) (sym same) ∙ turn.data_wires)),
            single_inj bit' bit.0 (some_inj (sym first ∙ ap (λ x. entry x c.port) same ∙ ct.is ∙ ap Some bit.1)),
          ),
    )

-- the function
concat-more : (xs : List (List ℕ)) (x : ℕ) → concat (xs ++ (x ∷ []) ∷ []) ≡ concat xs ++ x ∷ []
concat-more [] x = refl
concat-more (y ∷ xs) x = ap (λ zs. y ++ zs) (concat-more xs x) ∙ sym (Rattle.std.proofs.Common.append_assoc y (concat xs) (x ∷ []))

-- the ends of a turn
ends_taken : (b : Body) (c : FirstCondition b) (tokens : List (List Token)) (taken next : List Token) (bit : ℕ) → map (entry tokens) (ends b) ≡ map Some taken → map (entry tokens) b.next ≡ map Some next → entry tokens c.port ≡ Some (single bit) → taken ≡ next ++ single bit ∷ []
ends_taken b c tokens taken next bit h k l =
    somes_inj taken (next ++ single bit ∷ []) (sym h ∙ ap (map (entry tokens)) (ends_are b c) ∙ map-append (entry tokens) b.next (c.port ∷ []) ∙
    ap (λ x. x ++ entry tokens c.port ∷ []) k ∙ ap (λ o. map Some next ++ o ∷ []) l ∙ sym (map-append Some next (single bit ∷ [])))

pub function_turns : OpLaws → FunctionTurns
function_turns laws b tuple next bit ok fit turn =
    let e = ended laws b ok tuple fit in
    let c = first_condition b ok in
    let same = e.run.once turn.tokens turn.value in
    let first : entry turn.tokens c.port ≡ Some (single bit) = first_is b c (λ p. entry turn.tokens p ≡ Some (single bit)) turn.condition_wires in
    let taken = ends_taken b c (tuple ∷ e.run.rest) e.tokens.taken next bit e.tokens.are
    (ap (λ x. map (entry x) b.next) (sym same) ∙ turn.data_wires) (ap (λ x. entry x c.port) (sym same) ∙ first) in
    value_is b tuple e ∙ ap concat taken ∙ concat-more next bit

-- some tuple fits
zeros : List Shape → List Token
zeros vars = map (λ shape. map (λ width. 0) shape) vars

zeros_each : (vars : List Shape) → FitEach vars (zeros vars)
unfolding zeros
zeros_each [] = tt
zeros_each (shape ∷ vars) = (zeros_fit shape, zeros_each vars)

pub function_is_light : OpLaws → FunctionIsLight
unfolding fun_size body_function
function_is_light laws b ok = (ended laws b ok (zeros b.vars) (zeros_each b.vars)).light

typed_of : (b : Body) (tuple : List Token) → IsBody b → FitEach b.vars tuple → Ended b tuple → length (concat (next_shapes b)) ≤ 127 → FunTyped (body_function b)
unfolding body_function
typed_of b tuple ok fit e few =
    let env = environment (input_of b tuple) (end_places b).binds in
    let count : length (end_places b).places ≡ length (concat (next_shapes b)) + 1 =
    places_length env (end_places b).places (zip (concat (end_shapes b)) (concat e.tokens.taken)) (end_hold b tuple e) ∙
    zip_length (concat (end_shapes b)) (concat e.tokens.taken) e.means.fits ∙ ap length (concat-more (next_shapes b) 1) ∙ pushed (concat (next_shapes b)) 1 in
    record {
      widths = widths env;
      binds = ap (λ ws. widths_after ws (end_places b).binds) (sym (widths-zip (concat b.vars) (concat tuple) (fits_concat b.vars tuple fit))) ∙ e.settles.sound.typed;
      outs = places_within env (end_places b).places (zip (concat (end_shapes b)) (concat e.tokens.taken)) (end_hold b tuple e);
      some = omega (arith, count);
      few = omega (arith, count);
    }
  where
    pushed : (xs : List ℕ) (x : ℕ) → length (xs ++ x ∷ []) ≡ length xs + 1
    pushed [] x = refl
    pushed (y ∷ xs) x = omega (arith, pushed xs x)

ok_of : (laws : OpLaws) (b : Body) (tuple : List Token) (ok : IsBody b) → FitEach b.vars tuple → Ended b tuple → length (concat (next_shapes b)) ≤ 127 → FunTyped (body_function b) → FunOk (body_function b)
unfolding body_function
ok_of laws b tuple ok fit e few typed = record {
  input = ok.vars.whole;
  typed = typed;
  size = omega (arith, function_is_light laws b ok, ok.light);
  depth = e.settles.sound.depth;
}

shape_of : (b : Body) (tuple : List Token) (ok : IsBody b) → FitEach b.vars tuple → (e : Ended b tuple) → (typed : FunTyped (body_function b)) → out_widths (body_function b) ≡ concat (end_shapes b)
unfolding body_function fields_of given_fields
shape_of b tuple ok fit e typed =
    widths_given (body_function b) (concat tuple) typed.widths typed.binds (fits_concat b.vars tuple fit) ∙
    ap widths (places_fields (environment (input_of b tuple) (end_places b).binds) (end_places b).places (zip (concat (end_shapes b)) (concat e.tokens.taken)) (end_hold b tuple e)) ∙
    widths-zip (concat (end_shapes b)) (concat e.tokens.taken) e.means.fits

pub function_is_typed : OpLaws → FunctionIsTyped
function_is_typed laws b ok few =
    let tuple = zeros b.vars in
    let fit = zeros_each b.vars in
    let e = ended laws b ok tuple fit in
    let typed = typed_of b tuple ok fit e few in
    (ok_of laws b tuple ok fit e few typed, shape_of b tuple ok fit e typed ∙ concat-more (next_shapes b) 1)
