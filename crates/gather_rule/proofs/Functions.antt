-- The function of a body of named nodes is the function of the body by numbers.
use Rattle.std.proofs.Common.{◌≡◌, ℕ, zero, suc, ◌≤◌, List, [], ◌∷◌, ◌++◌, map, length, Some, refl, sym, ap, subst, ◌∙◌, arith}
use Rattle.std.specs.Prelude.{slice_get}
use Rattle.std.specs.List.{concat}
use Rattle.std.proofs.lemmas.Option.{none-some, same_Some}
use Rattle.components.specs.declared.kind.Kind.{Kind}
use Rattle.fun_expr.specs.Each.{Each}
use Rattle.fun_expr.specs.Function.{fun_value}
use Rattle.circuits.specs.PortTokens.{Token, single}
use Rattle.body_laws.specs.Bodies.{BodyNode, at_output, FireOnce, IsValue, IsFunctionOf}
use Rattle.loop_body.specs.declared.body_port.BodyPort.{BodyPort}
use Rattle.loop_body.specs.Body.{Body, kinds, entry, IsBody}
use Rattle.loop_body.specs.BodyKind.{FiresOnce}
use Rattle.loop_body.specs.BodyValue.{IsValueAt}
use Rattle.loop_body.specs.BodyFunction.{body_function}
use Rattle.loop_body.specs.Laws.{ValueIsOne, TurnIsOne, FunctionTurns}
use Rattle.gather_rule.specs.NumberedBody.{numbered_nodes, first_port, numbered}
use Rattle.gather_rule.proofs.GoodBodies.{entry_is, entries_are, nodes_long, some_conditions}

somes : {A : Type 0} (xs ys : List A) → map Some xs ≡ map Some ys → xs ≡ ys
somes [] [] e = refl
somes [] (y ∷ ys) e = cc
somes (x ∷ xs) [] e = cc
somes (x ∷ xs) (y ∷ ys) e =
    let k : Some x ∷ map Some xs ≡ Some y ∷ map Some ys = e in
    let head : Some x ≡ Some y = cc in
    let tails : map Some xs ≡ map Some ys = cc in
    λ i. same_Some x y head i ∷ somes xs ys tails i

given_long : (all : List (List Token)) (ns : List BodyNode) (given : List (List Token)) → FireOnce all ns given → length given ≡ length ns
given_long all [] [] h = refl
given_long all [] (ws ∷ given) h = absurd h
given_long all (n ∷ ns) [] h = absurd h
given_long all (n ∷ ns) (ws ∷ given) h = ap suc (given_long all ns given h.3)

-- a node fires on the tokens of all outputs
record Fired (all given : List (List Token)) (i : ℕ) (k : Kind) (ports : List BodyPort) : Type 0 where
  taken : List Token
  row : List Token
  takes : map (entry all) ports ≡ map Some taken
  gives : slice_get given i ≡ Some row
  fires : FiresOnce k taken row

fired : (all : List (List Token)) (ks : List Kind) (inputs : List (List BodyPort)) (given : List (List Token)) → FireOnce all (numbered_nodes ks inputs) given → (i : ℕ) (k : Kind) (ports : List BodyPort) →
    slice_get ks i ≡ Some k → slice_get inputs i ≡ Some ports → Fired all given i k ports
fired all [] inputs given h i k ports e f = absurd (none-some k e)
fired all (l ∷ ks) [] given h i k ports e f = absurd (none-some ports f)
fired all (l ∷ ks) (ps ∷ inputs) [] h i k ports e f = absurd h
fired all (l ∷ ks) (ps ∷ inputs) (ws ∷ given) h zero k ports e f =
    let same = same_Some ps ports f in
    record {
      taken = h.0;
      row = ws;
      takes = ap (map (entry all)) (sym same) ∙ sym (entries_are all ps) ∙ h.1;
      gives = refl;
      fires = subst (λ z. FiresOnce z h.0 ws) (same_Some l k e) h.2;
    }
fired all (l ∷ ks) (ps ∷ inputs) (ws ∷ given) h (suc i) k ports e f =
    let go = fired all ks inputs given h.3 i k ports e f in record { taken = go.taken; row = go.row; takes = go.takes; gives = go.gives; fires = go.fires }

first_at : {A : Type 0} (t : List (List A)) (x y : A) (cs : List BodyPort) → 1 ≤ length cs → Each (λ p. entry t p ≡ Some x) cs → at_output t (first_port cs) ≡ Some y → y ≡ x
first_at t x y [] h each e = absurd (omega (arith, h))
first_at t x y (c ∷ cs) h each e = same_Some y x (sym e ∙ entry_is t c ∙ each.0)

module _ (values : ValueIsOne) (one_turn : TurnIsOne) (law : FunctionTurns) (b : Body) (h : IsBody b) where
  value_at : (x : Token) (all : List (List Token)) (v : IsValue (numbered b) x all) → IsValueAt b v.parts all
  value_at x all v =
      record {
        lanes = ap (λ z. slice_get z 0) v.is;
        rows = ap length v.is ∙ ap suc (given_long all (numbered_nodes (kinds b) b.inputs) v.given v.fires ∙ nodes_long (b.vars ∷ []) (kinds b) b.inputs h.nodes) ∙ omega arith;
        nodes = λ i k ports e f.
            let fire = fired all (kinds b) b.inputs v.given v.fires i k ports e f in
            record { taken = fire.taken; given = fire.row; takes = fire.takes; gives = ap (λ z. slice_get z (suc i)) v.is ∙ fire.gives; fires = fire.fires };
      }

  pub is_function : IsFunctionOf (body_function b) (numbered b)
  unfolding body_function
  is_function =
      record {
        input = refl;
        value = λ x all next condition fits v leaves.
            let (after, bit, turn, fit, less, only) = one_turn b v.parts h v.fit in
            let (tokens, value, same) = values b v.parts h v.fit in
            let rows : turn.tokens ≡ all = same turn.tokens turn.value ∙ sym (same all (value_at x all v)) in
            let is_next : next ≡ after = somes next after (sym leaves.is_next ∙ entries_are all b.next ∙ ap (λ z. map (entry z) b.next) (sym rows) ∙ turn.data_wires) in
            let bits = subst (λ z. Each (λ p. entry z p ≡ Some (single bit)) b.conditions) rows turn.condition_wires in
            let is_condition : condition ≡ single bit = first_at all (single bit) condition b.conditions (some_conditions b h) bits leaves.is_condition in
            ap (fun_value (body_function b)) (sym v.whole) ∙ law b v.parts after bit h v.fit turn ∙ (λ i. concat (sym is_next i) ++ sym is_condition i);
      }
