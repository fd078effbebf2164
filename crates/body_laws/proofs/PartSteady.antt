-- a body in a plan is steady, whatever steady nodes stand behind it
use Rattle.std.proofs.Common.{◌≡◌, ℕ, zero, suc, ◌⊎◌, inl, inr, ◌+◌, ◌<◌, Bool, true, refl, sym, ap, ◌∙◌, List, [], ◌∷◌, ◌++◌, Option, Some, None, map, length, arith}
use Rattle.std.specs.Prelude.{slice_get}
use Rattle.body_laws.proofs.BodyValues.{valued}
use Rattle.body_laws.proofs.PlaceLemmas.{at_place, number_of, number_lt, port_both, nth_from, nth_place, nth_behind}
use Rattle.body_laws.proofs.SteadyKinds.{ones_inj, one_each, same_ports, each_length}
use Rattle.body_laws.proofs.SteadySteps.{Agrees, SteadyPlan}
use Rattle.body_laws.proofs.SteadyStreams.{Fitting, length_more}
use Rattle.body_laws.specs.Bodies.{IsSteady, BodyNode, Body, at_output, on_side, NodesInOrder, FireOnce, IsValue}
use Rattle.body_laws.specs.BodyPlans.{Part, enter, vars, node, tail, node_out, out_by_number, out_of, only, part_plan}
use Rattle.body_laws.proofs.GoodBody.{TypedBody}
use Rattle.body_laws.specs.TypedPlan.{TypedPlan}
use Rattle.circuit_plans.specs.Places.{Place, first, later, item, before, place_at}
use Rattle.circuit_plans.specs.Plans.{Out, Plan}
use Rattle.circuits.proofs.Beside.{none_some}
use Rattle.circuits.specs.Firing.{Fires}
use Rattle.circuits.specs.PortTokens.{Token, one}
use Rattle.components.specs.Kind.{Shape, ins, outs}
use Rattle.components.specs.Name.{port_get}
use Rattle.components.specs.declared.kind.Kind.{Kind}
use Rattle.components.specs.declared.kind.Kind.TheVariants.{Exit}
use Rattle.std.proofs.lemmas.Option.{same_Some}
use Rattle.std.specs.List.{concat}

abbrev pub token_or : Option Token → Token
token_or None = []
token_or (Some v) = v

-- the one source of a node with one input
pub only_is : {A : Type 0} (o : Option A) (i : ℕ) (q : A) → only o i ≡ Some q → (i ≡ 1) × (o ≡ Some q)
only_is o zero q e = absurd (none_some None q refl e)
only_is o (suc zero) q e = (refl, e)
only_is o (suc (suc i)) q e = absurd (none_some None q refl e)

-- an output that a number names
pub data IsOut (b : Body) (T : Type 0) (n i : ℕ) (q : Out (Part b T)) : Type 0 where
  of_vars : n ≡ 0 → record { at = vars; port = i } ≡ q → IsOut b T n i q
  of_node : (p : Place b.nodes) → n ≡ suc (before b.nodes p) → record { at = node p; port = i } ≡ q → IsOut b T n i q

node_is : (b : Body) (T : Type 0) (n i : ℕ) (q : Out (Part b T)) (o : Option (Place b.nodes)) → place_at b.nodes (suc n) ≡ o → node_out b T i o ≡ Some q → IsOut b T (suc n) i q
node_is b T n i q None f e = absurd (none_some None q refl e)
node_is b T n i q (Some p) f e = of_node p (ap suc (sym (number_of b.nodes n p f))) (same_Some (record { at = node p; port = i }) q e)

pub out_is : (b : Body) (T : Type 0) (n i : ℕ) (q : Out (Part b T)) → out_by_number b T n i ≡ Some q → IsOut b T n i q
out_is b T zero i q e = of_vars refl (same_Some (record { at = vars; port = i }) q e)
out_is b T (suc n) i q e = node_is b T n i q (place_at b.nodes (suc n)) refl e

-- the firing of the node at a place
pub record Firing_at (all : List (List Token)) (n : BodyNode) (given : Option (List Token)) : Type 0 where
  pub vs : List Token
  pub ws : List Token
  pub are : map (at_output all) n.inputs ≡ map Some vs
  pub fires : Fires n.kind 0 [] (map one vs) (map one ws) []
  pub is_given : given ≡ Some ws

pub firing_at : (all : List (List Token)) (ns : List BodyNode) (given : List (List Token)) → FireOnce all ns given → (p : Place ns) → Firing_at all (item ns p) (slice_get given (before ns p))
firing_at all [] given h p = elim p [ ]
firing_at all (n ∷ ns) [] h p = absurd h
firing_at all (n ∷ ns) (ws ∷ given) h first = record { vs = h.0; ws = ws; are = h.1; fires = h.2; is_given = refl }
firing_at all (n ∷ ns) (ws ∷ given) h (later p) = firing_at all ns given h.3 p

-- an input comes from an earlier output
get_lt : (shapes : List (List Shape)) (n i : ℕ) (a : Shape) → on_side (slice_get shapes n) i ≡ Some a → n < length shapes
get_lt [] n i a e = absurd (none_some None a refl e)
get_lt (s ∷ shapes) zero i a e = omega arith
get_lt (s ∷ shapes) (suc n) i a e = let k : n < length shapes = get_lt shapes n i a e in omega (arith, k)

earlier : (shapes : List (List Shape)) (ns : List BodyNode) → NodesInOrder shapes ns → (p : Place ns) (i : ℕ) (q : Out ℕ) → port_get (item ns p).inputs i ≡ Some q → q.at < length shapes + before ns p
earlier shapes [] h p i q e = elim p [ ]
earlier shapes (n ∷ ns) h first i q e =
    let (a, g, k) = port_both (at_output shapes) n.inputs (ins n.kind) h.0 i q e in
    let lt : q.at < length shapes = get_lt shapes q.at q.port a k in
    omega (arith, lt)
earlier shapes (n ∷ ns) h (later p) i q e =
    let go : q.at < length (shapes ++ outs n.kind ∷ []) + before ns p = earlier (shapes ++ outs n.kind ∷ []) ns h.1 p i q e in
    let len : length (shapes ++ outs n.kind ∷ []) ≡ suc (length shapes) = length_more shapes (outs n.kind) in
    omega (arith, go, len)

module _ (b : Body) (is_body : TypedBody b) (T : Type 0) (kind : T → Kind) (source : T → ℕ → Option (Out (Part b T))) (same : T → T → Bool)
    (same_is : (t u : T) → same t u ≡ true → t ≡ u) (same_self : (t : T) → same t t ≡ true) (tail_val : List (List Token) → T → ℕ → Token) where
  abbrev pub plan : Plan (Part b T)
  plan = part_plan b T kind source same same_is same_self

  abbrev pub all_at : Fitting (concat b.vars) → List (List Token)
  all_at x = (valued b is_body x.token x.fits).all

  -- what each output gives when x has come in
  abbrev pub part_val : Fitting (concat b.vars) → Part b T → ℕ → Token
  part_val x enter i = x.token
  part_val x vars i = token_or (at_output (all_at x) (record { at = 0; port = i }))
  part_val x (node p) i = token_or (at_output (all_at x) (record { at = suc (before b.nodes p); port = i }))
  part_val x (tail t) i = tail_val (all_at x) t i

  pub val_out : (x : Fitting (concat b.vars)) (n i : ℕ) (q : Out (Part b T)) → IsOut b T n i q → part_val x q.at q.port ≡ token_or (at_output (all_at x) (record { at = n; port = i }))
  val_out x n i q (of_vars e f) =
      ap (λ (z : Out (Part b T)). part_val x z.at z.port) (sym f) ∙ ap (λ z. token_or (at_output (all_at x) (record { at = z; port = i }))) (sym e)
  val_out x n i q (of_node p e f) =
      ap (λ (z : Out (Part b T)). part_val x z.at z.port) (sym f) ∙ ap (λ z. token_or (at_output (all_at x) (record { at = z; port = i }))) (sym e)

  -- the value of a source
  pub val_source : (x : Fitting (concat b.vars)) (o : Option (Out ℕ)) (q : Out (Part b T)) → out_of b T o ≡ Some q → (r : Out ℕ) × (o ≡ Some r) × (part_val x q.at q.port ≡ token_or (at_output (all_at x) r))
  val_source x None q e = absurd (none_some None q refl e)
  val_source x (Some r) q e = (r, refl, val_out x r.at r.port q (out_is b T r.at r.port q e))

  module _ (x : Fitting (concat b.vars)) where
    abbrev value : IsValue b x.token (all_at x)
    value = (valued b is_body x.token x.fits).value

    vars_agree : Agrees plan (part_val x) vars
    vars_agree =
        record {
          vs = x.token ∷ [];
          ws = value.parts;
          fires = (value.parts, refl, value.fit, ap (λ z. one z ∷ []) (sym value.whole), refl, refl);
          inputs = λ i q f.
              let (port, is) = only_is (Some (record { at = enter; port = 1 })) i q f in
              ap (port_get (x.token ∷ [])) port ∙ ap (λ (z : Out (Part b T)). Some (part_val x z.at z.port)) (same_Some (record { at = enter; port = 1 }) q is);
          outputs = λ j s f.
              let (w, e) = same_ports b.vars value.parts j s (sym (each_length b.vars value.parts value.fit)) f in
              e ∙ ap Some (sym (ap token_or (ap (λ z. at_output z (record { at = 0; port = j })) value.is ∙ e)));
        }

    module _ (p : Place b.nodes) where
      abbrev firing : Firing_at (all_at x) (item b.nodes p) (slice_get value.given (before b.nodes p))
      firing = firing_at (all_at x) b.nodes value.given value.fires p

      node_input : (i : ℕ) (q : Out (Part b T)) (o : Option (Out ℕ)) → port_get (item b.nodes p).inputs i ≡ o → out_of b T o ≡ Some q → port_get firing.vs i ≡ Some (part_val x q.at q.port)
      node_input i q o f e =
          let (r, is, val_is) = val_source x o q e in
          let (v, g, k) = port_both (at_output (all_at x)) (item b.nodes p).inputs firing.vs firing.are i r (f ∙ is) in
          g ∙ ap Some (sym (val_is ∙ ap token_or k))

      node_agrees : IsSteady (item b.nodes p).kind → Agrees plan (part_val x) (node p)
      node_agrees steady =
          record {
            vs = firing.vs;
            ws = firing.ws;
            fires = firing.fires;
            inputs = λ i q f. node_input i q (port_get (item b.nodes p).inputs i) refl f;
            outputs = λ j s f.
                let oe = one_each (item b.nodes p).kind 0 [] (map one firing.vs) (map one firing.ws) [] steady firing.fires in
                let size : length (outs (item b.nodes p).kind) ≡ length firing.ws = sym (ap length (ones_inj firing.ws oe.ws oe.is_given) ∙ oe.as_outs) in
                let (w, e) = same_ports (outs (item b.nodes p).kind) firing.ws j s size f in
                e ∙ ap Some (sym (ap token_or (ap (λ z. at_output z (record { at = suc (before b.nodes p); port = j })) value.is ∙ ap (λ z. on_side z j) firing.is_given ∙ e)));
          }

  -- the ranks, with those of what stands behind
  module _ (tail_rank : T → ℕ) (tail_nth : ℕ → Option T) where
    abbrev pub part_rank : Part b T → ℕ
    part_rank enter = 0
    part_rank vars = 0
    part_rank (node p) = suc (before b.nodes p)
    part_rank (tail t) = suc (length b.nodes + tail_rank t)

    abbrev tail_of : Option T → Option (Part b T)
    tail_of None = None
    tail_of (Some t) = Some (tail t)

    abbrev pub part_nth : ℕ → Option (Part b T)
    part_nth zero = Some vars
    part_nth (suc k) = nth_from b.nodes node (λ j. tail_of (tail_nth j)) k

    -- what stands behind a body
    pub record SteadyTail (size : ℕ) : Type 0 where
      pub typed : TypedPlan plan
      pub kinds : (t : T) → IsSteady (kind t) ⊎ ((s : Shape) × (kind t ≡ Exit s))
      pub agrees : (x : Fitting (concat b.vars)) (t : T) → IsSteady (kind t) → Agrees plan (part_val x) (tail t)
      pub ranked : (t : T) → IsSteady (kind t) → (tail_rank t < size) × (tail_nth (tail_rank t) ≡ Some t)
      pub lower : (t : T) (i : ℕ) (q : Out (Part b T)) → IsSteady (kind t) → source t i ≡ Some q → part_rank q.at < part_rank (tail t)

    module _ (size : ℕ) (h : SteadyTail size) where
      others : (n : Part b T) → (n ≡ enter) ⊎ (IsSteady (plan.kind n) ⊎ ((s : Shape) × (plan.kind n ≡ Exit s)))
      others enter = inl refl
      others vars = inr (inl tt)
      others (node p) = inr (inl (at_place (λ n. IsSteady n.kind) b.nodes is_body.steady p))
      others (tail t) = inr (h.kinds t)

      agrees : (x : Fitting (concat b.vars)) (n : Part b T) → IsSteady (plan.kind n) → Agrees plan (part_val x) n
      agrees x enter steady = absurd steady
      agrees x vars steady = vars_agree x
      agrees x (node p) steady = node_agrees x p steady
      agrees x (tail t) steady = h.agrees x t steady

      ranked : (n : Part b T) → IsSteady (plan.kind n) → (part_rank n < suc (length b.nodes + size)) × (part_nth (part_rank n) ≡ Some n)
      ranked enter steady = absurd steady
      ranked vars steady = (omega arith, refl)
      ranked (node p) steady =
          let k : before b.nodes p < length b.nodes = number_lt b.nodes p in (omega (arith, k), nth_place b.nodes node (λ j. tail_of (tail_nth j)) p)
      ranked (tail t) steady =
          let (lt, is) = h.ranked t steady in (
            omega (arith, lt),
            nth_behind b.nodes node (λ j. tail_of (tail_nth j)) (tail_rank t) (length b.nodes + tail_rank t) refl ∙ ap tail_of is,
          )

      rank_of_out : (n i : ℕ) (q : Out (Part b T)) → IsOut b T n i q → part_rank q.at ≡ n
      rank_of_out n i q (of_vars e f) = ap (λ (z : Out (Part b T)). part_rank z.at) (sym f) ∙ sym e
      rank_of_out n i q (of_node p e f) = ap (λ (z : Out (Part b T)). part_rank z.at) (sym f) ∙ sym e

      node_lower : (p : Place b.nodes) (i : ℕ) (q : Out (Part b T)) (o : Option (Out ℕ)) → port_get (item b.nodes p).inputs i ≡ o → out_of b T o ≡ Some q → part_rank q.at < suc (before b.nodes p)
      node_lower p i q None f e = absurd (none_some None q refl e)
      node_lower p i q (Some r) f e =
          let lt : r.at < suc (before b.nodes p) = let k : r.at < length (b.vars ∷ []) + before b.nodes p = earlier (b.vars ∷ []) b.nodes is_body.order p i r f in let len : length (b.vars ∷ []) ≡ 1 = refl in omega (arith, k, len) in
          let is : part_rank q.at ≡ r.at = rank_of_out r.at r.port q (out_is b T r.at r.port q e) in
          omega (arith, lt, is)

      lower : (n : Part b T) (i : ℕ) (q : Out (Part b T)) → IsSteady (plan.kind n) → plan.source n i ≡ Some q → (q.at ≡ enter) ⊎ (part_rank q.at < part_rank n)
      lower enter i q steady f = absurd steady
      lower vars i q steady f =
          let (port, is) = only_is (Some (record { at = enter; port = 1 })) i q f in inl (ap (λ (z : Out (Part b T)). z.at) (sym (same_Some (record { at = enter; port = 1 }) q is)))
      lower (node p) i q steady f = inr (node_lower p i q (port_get (item b.nodes p).inputs i) refl f)
      lower (tail t) i q steady f = inr (h.lower t i q steady f)

      pub part_steady : SteadyPlan plan enter (concat b.vars) part_val
      part_steady =
          record {
            typed = h.typed;
            entry = refl;
            others = others;
            value = λ x. refl;
            agrees = agrees;
            size = suc (length b.nodes + size);
            rank = part_rank;
            nth = part_nth;
            ranked = ranked;
            lower = lower;
          }
