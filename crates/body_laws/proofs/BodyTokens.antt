-- the tokens of the leaving wires of a body
use Rattle.std.proofs.Common.{◌≡◌, ℕ, zero, suc, refl, sym, ap, subst, ◌∙◌, List, [], ◌∷◌, ◌++◌, Some, None, map, replicate}
use Rattle.std.specs.Prelude.{slice_get}
use Rattle.body_laws.proofs.BodyConsumers.{way_drawn}
use Rattle.body_laws.proofs.BodyValues.{output_fits, valued}
use Rattle.body_laws.proofs.PartSteady.{token_or, Firing_at, firing_at}
use Rattle.body_laws.proofs.PlaceLemmas.{at_place, number_of, found_at}
use Rattle.body_laws.proofs.SteadyKinds.{ones_inj}
use Rattle.body_laws.specs.Bodies.{Body, at_output, on_side, body_shapes, IsValue, Leaves, IsFunctionOf, CopiedFrom, here, past, OneRoot}
use Rattle.body_laws.specs.BodyPlans.{Way, next, condition, other, way_out, way_shape, shape_of, next_shapes}
use Rattle.body_laws.proofs.GoodBody.{TypedBody}
use Rattle.circuit_plans.specs.Places.{Place, first, later, item, before}
use Rattle.circuit_plans.specs.Plans.{Out}
use Rattle.circuits.proofs.Beside.{none_some}
use Rattle.circuits.specs.Firing.{Fires, FitEach}
use Rattle.circuits.specs.PortTokens.{Token, one}
use Rattle.circuits.specs.Root.{PassesThrough}
use Rattle.components.specs.Kind.{Shape}
use Rattle.components.specs.Name.{port_get}
use Rattle.components.specs.declared.kind.Kind.{Kind}
use Rattle.components.specs.declared.kind.Kind.TheVariants.{Buffer, Fork}
use Rattle.fun_expr.specs.Function.{Function, fun_value}
use Rattle.port_types.specs.Token.{Fits}
use Rattle.std.proofs.lemmas.Option.{same_Some}
use Rattle.std.specs.List.{concat}

abbrev pub token_at : List (List Token) → Out ℕ → Token
token_at all q = token_or (at_output all q)

abbrev pub nexts : Body → List (List Token) → List Token
nexts b all = map (token_at all) b.next

abbrev pub bit_token : Body → List (List Token) → Token
bit_token b all = token_at all b.condition

some_each : (all : List (List Token)) (qs : List (Out ℕ)) → ((p : Place qs) → at_output all (item qs p) ≡ Some (token_at all (item qs p))) → map (at_output all) qs ≡ map Some (map (token_at all) qs)
some_each all [] h = refl
some_each all (q ∷ qs) h = λ i. h first i ∷ some_each all qs (λ p. h (later p)) i

fit_each : (all : List (List Token)) (shape : Out ℕ → Shape) (qs : List (Out ℕ)) → ((p : Place qs) → Fits (shape (item qs p)) (token_at all (item qs p))) → FitEach (map shape qs) (map (token_at all) qs)
fit_each all shape [] h = tt
fit_each all shape (q ∷ qs) h = (h first, fit_each all shape qs (λ p. h (later p)))

copies_are : (k i : ℕ) (v w : Token) → port_get (replicate k v) i ≡ Some w → v ≡ w
copies_are zero i v w e = absurd (none_some None w refl e)
copies_are (suc k) zero v w e = absurd (none_some None w refl e)
copies_are (suc k) (suc zero) v w e = same_Some v w e
copies_are (suc k) (suc (suc i)) v w e = copies_are k (suc i) v w e

-- a Fork or Buffer gives what it takes
passes : (k : Kind) (vs ws : List Token) (i : ℕ) (w : Token) → PassesThrough k → Fires k 0 [] (map one vs) (map one ws) [] → port_get ws i ≡ Some w → vs ≡ w ∷ []
passes (Buffer a) vs ws i w h (v, ec, et, eg, en) e =
    let got : v ≡ w = copies_are 1 i v w (ap (λ z. port_get z i) (sym (ones_inj ws (v ∷ []) eg)) ∙ e) in ones_inj vs (v ∷ []) et ∙ ap (λ z. z ∷ []) got
passes (Fork a k) vs ws i w h (v, ec, et, eg, en) e =
    let got : v ≡ w = copies_are k i v w (ap (λ z. port_get z i) (sym (ones_inj ws (replicate k v) (eg ∙ copies k v))) ∙ e) in ones_inj vs (v ∷ []) et ∙ ap (λ z. z ∷ []) got
  where
    copies : (n : ℕ) (v : Token) → replicate n (one v) ≡ map one (replicate n v)
    copies zero v = refl
    copies (suc n) v = ap (λ z. one v ∷ z) (copies n v)
passes _ vs ws i w h x e = absurd h

-- what a Fork or Buffer leads on is the same token
pub leads_same : (b : Body) (x : Token) (all : List (List Token)) → IsValue b x all → (r q : Out ℕ) (w : Token) → CopiedFrom b r q → at_output all q ≡ Some w → at_output all r ≡ Some w
leads_same b x all v r q w here e = e
leads_same b x all v r q w (past i n p at get tree is_input go) e =
    let found = found_at b.nodes i n get in
    let is_number : before b.nodes found.place ≡ i = number_of b.nodes i found.place found.is_place in
    let firing : Firing_at all n (slice_get v.given i) =
    subst (λ z. Firing_at all n (slice_get v.given z)) is_number
    (subst (λ z. Firing_at all z (slice_get v.given (before b.nodes found.place))) found.is_item (firing_at all b.nodes v.given v.fires found.place)) in
    let here_is : at_output all q ≡ port_get firing.ws q.port =
    (λ j. on_side (slice_get (v.is j) (at j)) q.port) ∙ ap (λ z. on_side z q.port) firing.is_given in
    let taken : firing.vs ≡ w ∷ [] = passes n.kind firing.vs firing.ws q.port w tree firing.fires (sym here_is ∙ e) in
    let inputs : map (at_output all) (p ∷ []) ≡ map Some (w ∷ []) = ap (map (at_output all)) (sym is_input) ∙ firing.are ∙ ap (map Some) taken in
    let source : at_output all p ≡ Some w = let k : at_output all p ∷ [] ≡ Some w ∷ [] = inputs in cc in
    leads_same b x all v r p w go source

module _ (b : Body) (is_body : TypedBody b) (x : Token) (fits : Fits (concat b.vars) x) where
  abbrev all : List (List Token)
  all = (valued b is_body x fits).all

  pub way_token : (w : Way b) → (at_output all (way_out b w) ≡ Some (token_at all (way_out b w))) × Fits (way_shape b w) (token_at all (way_out b w))
  way_token w =
      let (v, is, fit) = output_fits (body_shapes b) all (way_out b w) (way_shape b w) (valued b is_body x fits).fit (way_drawn b is_body w) in
      (is ∙ ap Some (sym (ap token_or is)), subst (Fits (way_shape b w)) (sym (ap token_or is)) fit)

  pub leaves_all : Leaves b all (nexts b all) (bit_token b all)
  leaves_all =
      record { is_next = some_each all b.next (λ p. (way_token (next p)).0); is_condition = (way_token condition).0 }

  pub nexts_fit : FitEach (next_shapes b) (nexts b all)
  nexts_fit = fit_each all (shape_of b) b.next (λ p. (way_token (next p)).1)

  pub bit_fits : Fits (1 ∷ []) (bit_token b all)
  bit_fits = (way_token condition).1

  -- all condition wires have one token
  pub other_same : (root : Out ℕ) → OneRoot b root → (p : Place b.others) → token_at all (item b.others p) ≡ bit_token b all
  other_same root h p =
      let value = (valued b is_body x fits).value in
      let mine = leads_same b x all value root b.condition (bit_token b all) h.condition (way_token condition).0 in
      let theirs = leads_same b x all value root (item b.others p) (token_at all (item b.others p)) (at_place (CopiedFrom b root) b.others h.others p) (way_token (other p)).0 in
      same_Some (token_at all (item b.others p)) (bit_token b all) (sym theirs ∙ mine)

  pub value_is : (f : Function) → IsFunctionOf f b → fun_value f x ≡ concat (nexts b all) ++ bit_token b all
  value_is f h = h.value x all (nexts b all) (bit_token b all) fits (valued b is_body x fits).value leaves_all
