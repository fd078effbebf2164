-- the Pure in the place of a body, with what stands behind it, is a plan of steady nodes
use Rattle.std.proofs.Common.{◌≡◌, ℕ, zero, suc, ◌⊎◌, inl, inr, ◌<◌, refl, sym, ap, subst, ◌∙◌, List, [], ◌∷◌, ◌++◌, Option, Some, None, length, replicate, append-nil, arith}
use Rattle.body_laws.proofs.BodyTokens.{nexts, bit_token, nexts_fit, bit_fits, value_is}
use Rattle.body_laws.proofs.BodyValues.{valued}
use Rattle.body_laws.proofs.GatheredTyped.{two_ports, gathered_typed}
use Rattle.body_laws.proofs.PartSteady.{token_or, only_is}
use Rattle.body_laws.proofs.SteadyKinds.{each_length, same_ports, joined_fits, map_replicate}
use Rattle.body_laws.proofs.SteadySteps.{Agrees, SteadyPlan}
use Rattle.body_laws.proofs.SteadyStreams.{Fitting}
use Rattle.body_laws.specs.Bodies.{IsSteady, Body, IsFunctionOf}
use Rattle.body_laws.specs.BodyPlans.{way_shape, next_shapes, only, Gathered, entry, pure, pair, vals, fork, way, gathered_plan}
use Rattle.body_laws.proofs.GoodBody.{TypedBody}
use Rattle.circuit_plans.specs.Plans.{Out, from}
use Rattle.circuits.proofs.Beside.{none_some}
use Rattle.circuits.specs.Firing.{FitEach}
use Rattle.circuits.specs.PortTokens.{Token, one}
use Rattle.components.specs.Kind.{Shape, KindOk}
use Rattle.components.specs.Name.{port_get}
use Rattle.components.specs.Numbered.{single_port}
use Rattle.components.specs.declared.kind.Kind.TheVariants.{Exit}
use Rattle.fun_expr.specs.Function.{Function, fun_value}
use Rattle.std.proofs.lemmas.Option.{same_Some}
use Rattle.std.specs.List.{concat}

copies_get : (k i : ℕ) (v : Token) (a s : Shape) → port_get (replicate k a) i ≡ Some s → port_get (replicate k v) i ≡ Some v
copies_get zero i v a s e = absurd (none_some None s refl e)
copies_get (suc k) zero v a s e = absurd (none_some None s refl e)
copies_get (suc k) (suc zero) v a s e = refl
copies_get (suc k) (suc (suc i)) v a s e = copies_get k (suc i) v a s e

module _ (b : Body) (is_body : TypedBody b) (f : Function) (is_function : IsFunctionOf f b) (kinds : (n : Gathered b) → KindOk ((gathered_plan b f).kind n)) where
  abbrev all : Fitting (concat b.vars) → List (List Token)
  all x = (valued b is_body x.token x.fits).all

  -- the tokens behind the Pure
  abbrev data_token : Fitting (concat b.vars) → Token
  data_token x = concat (nexts b (all x))

  abbrev bit_of : Fitting (concat b.vars) → Token
  bit_of x = bit_token b (all x)

  abbrev two_tokens : Fitting (concat b.vars) → ℕ → Token
  two_tokens x (suc zero) = data_token x
  two_tokens x _ = bit_of x

  abbrev pub gathered_val : Fitting (concat b.vars) → Gathered b → ℕ → Token
  gathered_val x entry i = x.token
  gathered_val x pure i = fun_value f x.token
  gathered_val x pair i = two_tokens x i
  gathered_val x vals i = token_or (port_get (nexts b (all x)) i)
  gathered_val x fork i = bit_of x
  gathered_val x (way w) i = []

  module _ (x : Fitting (concat b.vars)) where
    whole : fun_value f x.token ≡ concat (data_token x ∷ bit_of x ∷ [])
    whole = value_is b is_body x.token x.fits f is_function ∙ ap (λ z. data_token x ++ z) (sym (append-nil (bit_of x)))

    pair_fit : FitEach (concat (next_shapes b) ∷ (1 ∷ []) ∷ []) (data_token x ∷ bit_of x ∷ [])
    pair_fit = (joined_fits (next_shapes b) (nexts b (all x)) (nexts_fit b is_body x.token x.fits), (bit_fits b is_body x.token x.fits, tt))

    pair_outputs : (j : ℕ) (s : Shape) → port_get (concat (next_shapes b) ∷ (1 ∷ []) ∷ []) j ≡ Some s → port_get (data_token x ∷ bit_of x ∷ []) j ≡ Some (two_tokens x j)
    pair_outputs j s e = two_ports (concat (next_shapes b)) (1 ∷ []) s j e (λ i. port_get (data_token x ∷ bit_of x ∷ []) i ≡ Some (two_tokens x i)) refl refl

    -- one input, fed by r
    one_input : {N : Type 0} (val : N → ℕ → Token) (r q : Out N) (i : ℕ) (v : Token) → v ≡ val r.at r.port → only (Some r) i ≡ Some q → port_get (v ∷ []) i ≡ Some (val q.at q.port)
    one_input val r q i v h e =
        let (port, is) = only_is (Some r) i q e in ap (port_get (v ∷ [])) port ∙ ap Some (h ∙ ap (λ (z : Out _). val z.at z.port) (same_Some r q is))

    gathered_agrees : (n : Gathered b) → IsSteady ((gathered_plan b f).kind n) → Agrees (gathered_plan b f) (gathered_val x) n
    gathered_agrees entry h = absurd h
    gathered_agrees pure h =
        record {
          vs = x.token ∷ [];
          ws = fun_value f x.token ∷ [];
          fires = (x.token, refl, refl, refl, refl);
          inputs = λ i q e. one_input (gathered_val x) (record { at = entry; port = 1 }) q i x.token refl e;
          outputs = λ j s e. ap (port_get (fun_value f x.token ∷ [])) (single_port (concat (next_shapes b) ++ 1 ∷ []) s j e);
        }
    gathered_agrees pair h =
        record {
          vs = fun_value f x.token ∷ [];
          ws = data_token x ∷ bit_of x ∷ [];
          fires = (data_token x ∷ bit_of x ∷ [], refl, pair_fit, ap (λ z. one z ∷ []) whole, refl, refl);
          inputs = λ i q e. one_input (gathered_val x) (record { at = pure; port = 1 }) q i (fun_value f x.token) refl e;
          outputs = pair_outputs;
        }
    gathered_agrees vals h =
        record {
          vs = data_token x ∷ [];
          ws = nexts b (all x);
          fires = (nexts b (all x), refl, nexts_fit b is_body x.token x.fits, refl, refl, refl);
          inputs = λ i q e. one_input (gathered_val x) (record { at = pair; port = 1 }) q i (data_token x) refl e;
          outputs = λ j s e.
              let (v, g) = same_ports (next_shapes b) (nexts b (all x)) j s (sym (each_length (next_shapes b) (nexts b (all x)) (nexts_fit b is_body x.token x.fits))) e in
              g ∙ ap Some (sym (ap token_or g));
        }
    gathered_agrees fork h =
        record {
          vs = bit_of x ∷ [];
          ws = replicate (suc (length b.others)) (bit_of x);
          fires = (bit_of x, refl, refl, sym (map_replicate (suc (length b.others)) (bit_of x)), refl);
          inputs = λ i q e. one_input (gathered_val x) (record { at = pair; port = 2 }) q i (bit_of x) refl e;
          outputs = λ j s e. copies_get (suc (length b.others)) j (bit_of x) (1 ∷ []) s e;
        }
    gathered_agrees (way w) h = absurd h

  gathered_others : (n : Gathered b) → (n ≡ entry) ⊎ (IsSteady ((gathered_plan b f).kind n) ⊎ ((s : Shape) × ((gathered_plan b f).kind n ≡ Exit s)))
  gathered_others entry = inl refl
  gathered_others pure = inr (inl tt)
  gathered_others pair = inr (inl tt)
  gathered_others vals = inr (inl tt)
  gathered_others fork = inr (inl tt)
  gathered_others (way w) = inr (inr (way_shape b w, refl))

  abbrev gathered_rank : Gathered b → ℕ
  gathered_rank entry = 0
  gathered_rank pure = 0
  gathered_rank pair = 1
  gathered_rank vals = 2
  gathered_rank fork = 3
  gathered_rank (way w) = 4

  abbrev gathered_nth : ℕ → Option (Gathered b)
  gathered_nth zero = Some pure
  gathered_nth (suc zero) = Some pair
  gathered_nth (suc (suc zero)) = Some vals
  gathered_nth (suc (suc (suc i))) = Some fork

  gathered_ranked : (n : Gathered b) → IsSteady ((gathered_plan b f).kind n) → (gathered_rank n < 4) × (gathered_nth (gathered_rank n) ≡ Some n)
  gathered_ranked entry h = absurd h
  gathered_ranked pure h = (omega arith, refl)
  gathered_ranked pair h = (omega arith, refl)
  gathered_ranked vals h = (omega arith, refl)
  gathered_ranked fork h = (omega arith, refl)
  gathered_ranked (way w) h = absurd h

  lower_by : {N : Type 0} (rank : N → ℕ) (r q : Out N) (i k : ℕ) → only (Some r) i ≡ Some q → rank r.at < k → rank q.at < k
  lower_by rank r q i k e lt = subst (λ (z : Out _). rank z.at < k) (same_Some r q (only_is (Some r) i q e).1) lt

  gathered_lower : (n : Gathered b) (i : ℕ) (q : Out (Gathered b)) → IsSteady ((gathered_plan b f).kind n) → (gathered_plan b f).source n i ≡ Some q → (q.at ≡ entry) ⊎ (gathered_rank q.at < gathered_rank n)
  gathered_lower entry i q h e = absurd h
  gathered_lower pure i q h e = inl (ap (λ (z : Out (Gathered b)). z.at) (sym (same_Some (record { at = entry; port = 1 }) q (only_is (from entry 1) i q e).1)))
  gathered_lower pair i q h e = inr (lower_by gathered_rank (record { at = pure; port = 1 }) q i 1 e (omega arith))
  gathered_lower vals i q h e = inr (lower_by gathered_rank (record { at = pair; port = 1 }) q i 2 e (omega arith))
  gathered_lower fork i q h e = inr (lower_by gathered_rank (record { at = pair; port = 2 }) q i 3 e (omega arith))
  gathered_lower (way w) i q h e = absurd h

  pub gathered_steady : SteadyPlan (gathered_plan b f) entry (concat b.vars) gathered_val
  gathered_steady =
      record {
        typed = gathered_typed b f is_function.input kinds;
        entry = refl;
        others = gathered_others;
        value = λ x. refl;
        agrees = gathered_agrees;
        size = 4;
        rank = gathered_rank;
        nth = gathered_nth;
        ranked = gathered_ranked;
        lower = gathered_lower;
      }
