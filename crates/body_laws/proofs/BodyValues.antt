-- a body has one value at each fitting tuple, and its tokens fit
use Rattle.std.proofs.Common.{◌≡◌, ℕ, zero, suc, refl, sym, ap, subst, ◌∙◌, List, [], ◌∷◌, ◌++◌, Option, Some, None, map, append_assoc}
use Rattle.std.specs.Prelude.{slice_get}
use Rattle.body_laws.proofs.PlaceLemmas.{each_place, somes_inj}
use Rattle.body_laws.proofs.Tokens.{Good}
use Rattle.body_laws.proofs.SteadyKinds.{ones_inj, same_given, CanFire, can_fire, cut_all, parts_same}
use Rattle.body_laws.specs.Bodies.{IsSteady, BodyNode, Body, at_output, on_side, NodesInOrder, body_shapes, FireOnce, IsValue}
use Rattle.body_laws.specs.BodyPlans.{node}
use Rattle.body_laws.proofs.GoodBody.{TypedBody}
use Rattle.circuit_plans.specs.Plans.{Out}
use Rattle.circuits.proofs.Beside.{none_some}
use Rattle.circuits.specs.Firing.{Fires, FitEach}
use Rattle.circuits.specs.PortTokens.{Token, one}
use Rattle.components.specs.Kind.{Shape, ins, outs}
use Rattle.components.specs.Name.{port_get}
use Rattle.fun_expr.specs.Each.{Each}
use Rattle.port_types.specs.Token.{Fits}
use Rattle.std.proofs.lemmas.Option.{same_Some}
use Rattle.std.specs.List.{concat}

-- tokens of these shapes, side by side
abbrev pub FitAll : List (List Shape) → List (List Token) → Type 0
FitAll [] [] = Unit {0}
FitAll [] (ws ∷ all) = ⊥
FitAll (bs ∷ shapes) [] = ⊥
FitAll (bs ∷ shapes) (ws ∷ all) = FitEach bs ws × FitAll shapes all

record Token_at (a : Shape) (o : Option Token) : Type 0 where
  token : Token
  is : o ≡ Some token
  fits : Fits a token

port_fits : (bs : List Shape) (ws : List Token) (i : ℕ) (a : Shape) → FitEach bs ws → port_get bs i ≡ Some a → Token_at a (port_get ws i)
port_fits [] ws i a h e = absurd (none_some None a refl e)
port_fits (b ∷ bs) [] i a h e = absurd h
port_fits (b ∷ bs) (w ∷ ws) zero a h e = absurd (none_some None a refl e)
port_fits (b ∷ bs) (w ∷ ws) (suc zero) a h e = record { token = w; is = refl; fits = subst (λ z. Fits z w) (same_Some b a e) h.0 }
port_fits (b ∷ bs) (w ∷ ws) (suc (suc i)) a h e = port_fits bs ws (suc i) a h.1 e

output_at : (shapes : List (List Shape)) (all : List (List Token)) (n i : ℕ) (a : Shape) → FitAll shapes all → on_side (slice_get shapes n) i ≡ Some a → Token_at a (on_side (slice_get all n) i)
output_at [] all n i a h e = absurd (none_some None a refl e)
output_at (bs ∷ shapes) [] n i a h e = absurd h
output_at (bs ∷ shapes) (ws ∷ all) zero i a h e = port_fits bs ws i a h.0 e
output_at (bs ∷ shapes) (ws ∷ all) (suc n) i a h e = output_at shapes all n i a h.1 e

-- the token at an output that has a shape
pub output_fits : (shapes : List (List Shape)) (all : List (List Token)) (q : Out ℕ) (a : Shape) → FitAll shapes all → at_output shapes q ≡ Some a → (v : Token) × (at_output all q ≡ Some v) × Fits a v
output_fits shapes all q a h e = let t = output_at shapes all q.at q.port a h e in (t.token, t.is, t.fits)

record Inputs (all : List (List Token)) (qs : List (Out ℕ)) (bs : List Shape) : Type 0 where
  vs : List Token
  are : map (at_output all) qs ≡ map Some vs
  fit : FitEach bs vs

inputs_at : (shapes : List (List Shape)) (all : List (List Token)) (qs : List (Out ℕ)) (bs : List Shape) → FitAll shapes all → map (at_output shapes) qs ≡ map Some bs → Inputs all qs bs
inputs_at shapes all [] [] h e = record { vs = []; are = refl; fit = tt }
inputs_at shapes all [] (b ∷ bs) h e = cc
inputs_at shapes all (q ∷ qs) [] h e = cc
inputs_at shapes all (q ∷ qs) (b ∷ bs) h e =
    let k : at_output shapes q ∷ map (at_output shapes) qs ≡ Some b ∷ map Some bs = e in
    let head : at_output shapes q ≡ Some b = cc in
    let tails : map (at_output shapes) qs ≡ map Some bs = cc in
    let (v, is, fits) = output_fits shapes all q b h head in
    let go = inputs_at shapes all qs bs h tails in
    record { vs = v ∷ go.vs; are = λ i. is i ∷ go.are i; fit = (fits, go.fit) }

get_more : {A : Type 0} (xs ys : List (List A)) (n i : ℕ) (v : A) → on_side (slice_get xs n) i ≡ Some v → on_side (slice_get (xs ++ ys) n) i ≡ Some v
get_more [] ys n i v e = absurd (none_some None v refl e)
get_more (x ∷ xs) ys zero i v e = e
get_more (x ∷ xs) ys (suc n) i v e = get_more xs ys n i v e

inputs_more : (all more : List (List Token)) (qs : List (Out ℕ)) (vs : List Token) → map (at_output all) qs ≡ map Some vs → map (at_output (all ++ more)) qs ≡ map Some vs
inputs_more all more [] [] e = refl
inputs_more all more [] (v ∷ vs) e = cc
inputs_more all more (q ∷ qs) [] e = cc
inputs_more all more (q ∷ qs) (v ∷ vs) e =
    let k : at_output all q ∷ map (at_output all) qs ≡ Some v ∷ map Some vs = e in
    let head : at_output all q ≡ Some v = cc in
    let tails : map (at_output all) qs ≡ map Some vs = cc in
    λ i. get_more all more q.at q.port v head i ∷ inputs_more all more qs vs tails i

fit_more : (shapes : List (List Shape)) (all : List (List Token)) (bs : List Shape) (ws : List Token) → FitAll shapes all → FitEach bs ws → FitAll (shapes ++ bs ∷ []) (all ++ ws ∷ [])
fit_more [] [] bs ws h k = (k, tt)
fit_more [] (w ∷ all) bs ws h k = absurd h
fit_more (b ∷ shapes) [] bs ws h k = absurd h
fit_more (b ∷ shapes) (w ∷ all) bs ws h k = (h.0, fit_more shapes all bs ws h.1 k)

-- the nodes fire in order
record Grown (all : List (List Token)) (ns : List BodyNode) : Type 0 where
  given : List (List Token)
  fit : FitAll (map (λ n. outs n.kind) ns) given
  fires : FireOnce (all ++ given) ns given

module _ (shapes : List (List Shape)) (all : List (List Token)) (h : FitAll shapes all) (n : BodyNode) (steady : IsSteady n.kind) (ok : Good n.kind) (order : map (at_output shapes) n.inputs ≡ map Some (ins n.kind)) where
  abbrev its_inputs : Inputs all n.inputs (ins n.kind)
  its_inputs = inputs_at shapes all n.inputs (ins n.kind) h order

  abbrev its_firing : CanFire n.kind its_inputs.vs
  its_firing = can_fire n.kind its_inputs.vs steady ok its_inputs.fit

grow : (ns : List BodyNode) (shapes : List (List Shape)) (all : List (List Token)) → FitAll shapes all → Each (λ n. IsSteady n.kind) ns → Each (λ n. Good n.kind) ns → NodesInOrder shapes ns → Grown all ns
grow [] shapes all h steady ok order = record { given = []; fit = tt; fires = tt }
grow (n ∷ ns) shapes all h steady ok order =
    let vs = its_inputs shapes all h n steady.0 ok.0 order.0 in
    let firing = its_firing shapes all h n steady.0 ok.0 order.0 in
    let go = grow ns (shapes ++ outs n.kind ∷ []) (all ++ firing.ws ∷ []) (fit_more shapes all (outs n.kind) firing.ws h firing.fit) steady.1 ok.1 order.1 in
    record {
      given = firing.ws ∷ go.given;
      fit = (firing.fit, go.fit);
      fires = (
        vs.vs,
        inputs_more all (firing.ws ∷ go.given) n.inputs vs.vs vs.are,
        firing.fires,
        subst (λ z. FireOnce z ns go.given) (append_assoc all (firing.ws ∷ []) go.given) go.fires,
      );
    }

grown_only : (ns : List BodyNode) (shapes : List (List Shape)) (all : List (List Token)) (h : FitAll shapes all) (steady : Each (λ n. IsSteady n.kind) ns) (ok : Each (λ n. Good n.kind) ns) (order : NodesInOrder shapes ns) (given : List (List Token)) → FireOnce (all ++ given) ns given → given ≡ (grow ns shapes all h steady ok order).given
unfolding grow
grown_only [] shapes all h steady ok order [] f = refl
grown_only [] shapes all h steady ok order (ws ∷ given) f = absurd f
grown_only (n ∷ ns) shapes all h steady ok order [] f = absurd f
grown_only (n ∷ ns) shapes all h steady ok order (ws ∷ given) f =
    let vs = its_inputs shapes all h n steady.0 ok.0 order.0 in
    let firing = its_firing shapes all h n steady.0 ok.0 order.0 in
    let same_inputs : f.0 ≡ vs.vs = somes_inj f.0 vs.vs (sym f.1 ∙ inputs_more all (ws ∷ given) n.inputs vs.vs vs.are) in
    let same : ws ≡ firing.ws =
    ones_inj ws firing.ws (same_given n.kind 0 0 [] [] [] [] (map one f.0) (map one ws) (map one firing.ws) steady.0 f.2
    (subst (λ z. Fires n.kind 0 [] (map one z) (map one firing.ws) []) (sym same_inputs) firing.fires)) in
    let again : FireOnce ((all ++ firing.ws ∷ []) ++ given) ns given =
    subst (λ z. FireOnce z ns given) (ap (λ z. all ++ z ∷ given) same ∙ sym (append_assoc all (firing.ws ∷ []) given)) f.3 in
    let tails = grown_only ns (shapes ++ outs n.kind ∷ []) (all ++ firing.ws ∷ []) (fit_more shapes all (outs n.kind) firing.ws h firing.fit) steady.1 ok.1 order.1 given again in
    λ i. same i ∷ tails i

module _ (b : Body) (is_body : TypedBody b) where
  kinds_ok : Each (λ n. Good n.kind) b.nodes
  kinds_ok = each_place (λ n. Good n.kind) b.nodes (λ p. record { values = is_body.values; row = is_body.typed.kinds (node p) })

  grown : (parts : List Token) → FitEach b.vars parts → Grown (parts ∷ []) b.nodes
  grown parts fit = grow b.nodes (b.vars ∷ []) (parts ∷ []) (fit, tt) is_body.steady kinds_ok is_body.order

  -- the value of a body, which fits
  pub record Valued (x : Token) : Type 0 where
    pub all : List (List Token)
    pub value : IsValue b x all
    pub fit : FitAll (body_shapes b) all

  pub valued : (x : Token) → Fits (concat b.vars) x → Valued x
  unfolding grown
  valued x h =
      let (parts, fit, whole) = cut_all b.vars x h in
      let go = grown parts fit in
      record {
        all = parts ∷ go.given;
        value = record { parts = parts; fit = fit; whole = whole; given = go.given; is = refl; fires = go.fires };
        fit = (fit, go.fit);
      }

  grown_same : (x : Token) (all other : List (List Token)) (v : IsValue b x all) (w : IsValue b x other) → (ps : List Token) (f : FitEach b.vars ps) → ps ≡ v.parts → v.given ≡ (grown ps f).given → ps ≡ w.parts → w.given ≡ (grown ps f).given → all ≡ other
  grown_same x all other v w ps f e g e2 g2 = v.is ∙ (λ i. (sym e ∙ e2) i ∷ (g ∙ sym g2) i) ∙ sym w.is

  -- there is no other value
  pub one_value : (x : Token) (all other : List (List Token)) → IsValue b x all → IsValue b x other → all ≡ other
  unfolding grown
  one_value x all other v w =
      let parts : v.parts ≡ w.parts = parts_same b.vars v.parts w.parts v.fit w.fit (v.whole ∙ sym w.whole) in
      let mine = grown_only b.nodes (b.vars ∷ []) (v.parts ∷ []) (v.fit, tt) is_body.steady kinds_ok is_body.order in
      grown_same x all other v w v.parts v.fit refl (mine v.given (subst (λ z. FireOnce z b.nodes v.given) v.is v.fires)) parts
      (mine w.given (subst (λ z. FireOnce z b.nodes w.given) (w.is ∙ ap (λ z. z ∷ w.given) (sym parts)) w.fires))
