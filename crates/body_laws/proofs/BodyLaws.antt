-- a Pure refines the body that it was gathered from, and a body that is put back refines the Pure
use Rattle.std.proofs.Common.{◌≡◌, ℕ, suc, ◌+◌, ◌<◌, ◌≤◌, refl, sym, ap, subst, ◌∙◌, List, Some, length, arith}
use Rattle.body_laws.proofs.BodySteady.{body_val, body_steady, no_val}
use Rattle.body_laws.proofs.BodyTokens.{token_at, other_same}
use Rattle.body_laws.proofs.BodyValues.{valued}
use Rattle.body_laws.proofs.GatheredSteady.{gathered_val, gathered_steady}
use Rattle.body_laws.proofs.PartSteady.{token_or, val_source}
use Rattle.body_laws.proofs.PlaceLemmas.{at_place, item_port}
use Rattle.body_laws.proofs.SteadyMatch.{Follows, start, steady_matches, steady_ports}
use Rattle.body_laws.proofs.SteadyStreams.{Fitting}
use Rattle.body_laws.proofs.TypedPlans.{typed_of, total, below_total}
use Rattle.body_laws.specs.Bodies.{IsSteady, Body, IsFunctionOf, OneRoot}
use Rattle.body_laws.specs.BodyPlans.{Part, enter, vars, node, tail, out_of, Way, next, condition, other, way_out, way_kind, way_source, same_way, same_way_is, same_way_self, way_copy, body_plan, Gathered, entry, pure, pair, vals, fork, way, gathered_plan, GatherEnds}
use Rattle.body_laws.proofs.GoodBody.{TypedBody}
use Rattle.circuit_plans.proofs.PlanTyped.{plan_ports}
use Rattle.circuit_plans.proofs.Plans.{name_inj, matches_of}
use Rattle.circuit_plans.specs.Places.{Place, item, before}
use Rattle.circuit_plans.specs.Plans.{Out, Naming, built}
use Rattle.circuits.proofs.Matching.{matches_refines}
use Rattle.circuits.specs.Circuit.{Typed}
use Rattle.circuits.specs.PortTokens.{Token}
use Rattle.circuits.specs.Refines.{Refines}
use Rattle.components.specs.Kind.{Shape, KindOk}
use Rattle.components.specs.declared.kind.Kind.TheVariants.{Exit}
use Rattle.fun_expr.specs.Function.{Function}
use Rattle.std.proofs.lemmas.Option.{same_Some}
use Rattle.std.specs.List.{concat}
use Rattle.body_laws.proofs.SteadyMatch

-- names are bounded
ways_total : (b : Body) → (Way b → ℕ) → ℕ
ways_total b f = f condition + (total b.next (λ p. f (next p)) + total b.others (λ p. f (other p)))

ways_below : (b : Body) (f : Way b → ℕ) (w : Way b) → f w ≤ ways_total b f
unfolding ways_total
ways_below b f (next p) = let k : f (next p) ≤ total b.next (λ p. f (next p)) = below_total b.next (λ p. f (next p)) p in omega (arith, k)
ways_below b f condition = omega arith
ways_below b f (other p) = let k : f (other p) ≤ total b.others (λ p. f (other p)) = below_total b.others (λ p. f (other p)) p in omega (arith, k)

module _ (b : Body) (T : Type 0) (x : Naming (Part b T)) (tail_size : ℕ) (short : (t : T) → length (x.name (tail t)) ≤ tail_size) where
  part_size : ℕ
  part_size = 1 + (length (x.name enter) + (length (x.name vars) + (total b.nodes (λ p. length (x.name (node p))) + tail_size)))

  part_short : (n : Part b T) → length (x.name n) < part_size
  unfolding part_size
  part_short enter = omega arith
  part_short vars = omega arith
  part_short (node p) =
      let k : length (x.name (node p)) ≤ total b.nodes (λ p. length (x.name (node p))) = below_total b.nodes (λ p. length (x.name (node p))) p in omega (arith, k)
  part_short (tail t) = let k : length (x.name (tail t)) ≤ tail_size = short t in omega (arith, k)

abbrev way_of : (b : Body) → Way b → Part b (Way b) → Way b
way_of b w (tail v) = v
way_of b w _ = w

module _ (b : Body) (is_body : TypedBody b) (f : Function) (is_function : IsFunctionOf f b) (kinds : (n : Gathered b) → KindOk ((gathered_plan b f).kind n)) where
  -- the Pure refines the body
  module _ (root : Out ℕ) (one_root : OneRoot b root) (hx : Naming (Gathered b)) (gx : Naming (Part b (Way b))) (ends : GatherEnds b hx gx) where
    gather_exits : (n : Gathered b) (s : Shape) → (gathered_plan b f).kind n ≡ Exit s → (m : Part b (Way b)) × (hx.name n ≡ gx.name m) × ((body_plan b).kind m ≡ Exit s)
    gather_exits (way w) s k = (tail w, ends.ways w, k)
    gather_exits entry s k = absurd (let no_such : ⊥ = cc in no_such)
    gather_exits pure s k = absurd (let no_such : ⊥ = cc in no_such)
    gather_exits pair s k = absurd (let no_such : ⊥ = cc in no_such)
    gather_exits vals s k = absurd (let no_such : ⊥ = cc in no_such)
    gather_exits fork s k = absurd (let no_such : ⊥ = cc in no_such)

    no_node : (p : Place b.nodes) (s : Shape) → (item b.nodes p).kind ≡ Exit s → ⊥
    no_node p s k = subst IsSteady k (at_place (λ n. IsSteady n.kind) b.nodes is_body.steady p)

    gather_back : (m : Part b (Way b)) (s : Shape) → (body_plan b).kind m ≡ Exit s → (n : Gathered b) × (hx.name n ≡ gx.name m) × ((gathered_plan b f).kind n ≡ Exit s)
    gather_back (tail w) s k = (way w, ends.ways w, k)
    gather_back enter s k = absurd (let no_such : ⊥ = cc in no_such)
    gather_back vars s k = absurd (let no_such : ⊥ = cc in no_such)
    gather_back (node p) s k = absurd (no_node p s k)

    pure_follows : Follows (gathered_plan b f) entry pure
    pure_follows = SteadyMatch.on pure 1 (record { at = entry; port = 1 }) refl start

    pair_follows : Follows (gathered_plan b f) entry pair
    pair_follows = SteadyMatch.on pair 1 (record { at = pure; port = 1 }) refl pure_follows

    way_follows : (w : Way b) (q : Out (Gathered b)) → way_copy b w ≡ Some q → Follows (gathered_plan b f) entry q.at
    way_follows (next p) q e =
        subst (λ (z : Out (Gathered b)). Follows (gathered_plan b f) entry z.at) (same_Some (record { at = vals; port = suc (before b.next p) }) q e)
        (SteadyMatch.on vals 1 (record { at = pair; port = 1 }) refl pair_follows)
    way_follows condition q e =
        subst (λ (z : Out (Gathered b)). Follows (gathered_plan b f) entry z.at) (same_Some (record { at = fork; port = 1 }) q e)
        (SteadyMatch.on fork 1 (record { at = pair; port = 2 }) refl pair_follows)
    way_follows (other p) q e =
        subst (λ (z : Out (Gathered b)). Follows (gathered_plan b f) entry z.at) (same_Some (record { at = fork; port = suc (suc (before b.others p)) }) q e)
        (SteadyMatch.on fork 1 (record { at = pair; port = 2 }) refl pair_follows)

    gather_depends : (n : Gathered b) (s : Shape) (q : Out (Gathered b)) → (gathered_plan b f).kind n ≡ Exit s → (gathered_plan b f).source n 1 ≡ Some q → Follows (gathered_plan b f) entry q.at
    gather_depends (way w) s q k e = way_follows w q e
    gather_depends entry s q k e = absurd (let no_such : ⊥ = cc in no_such)
    gather_depends pure s q k e = absurd (let no_such : ⊥ = cc in no_such)
    gather_depends pair s q k e = absurd (let no_such : ⊥ = cc in no_such)
    gather_depends vals s q k e = absurd (let no_such : ⊥ = cc in no_such)
    gather_depends fork s q k e = absurd (let no_such : ⊥ = cc in no_such)

    abbrev all : Fitting (concat b.vars) → List (List Token)
    all x = (valued b is_body x.token x.fits).all

    new_value : (x : Fitting (concat b.vars)) (w : Way b) (q : Out (Gathered b)) → way_copy b w ≡ Some q → gathered_val b is_body f is_function kinds x q.at q.port ≡ token_at (all x) (way_out b w)
    new_value x (next p) q e =
        ap (λ (z : Out (Gathered b)). gathered_val b is_body f is_function kinds x z.at z.port) (sym (same_Some (record { at = vals; port = suc (before b.next p) }) q e))
        ∙ ap token_or (item_port (token_at (all x)) b.next p)
    new_value x condition q e =
        ap (λ (z : Out (Gathered b)). gathered_val b is_body f is_function kinds x z.at z.port) (sym (same_Some (record { at = fork; port = 1 }) q e))
    new_value x (other p) q e =
        ap (λ (z : Out (Gathered b)). gathered_val b is_body f is_function kinds x z.at z.port) (sym (same_Some (record { at = fork; port = suc (suc (before b.others p)) }) q e))
        ∙ sym (other_same b is_body x.token x.fits root one_root p)

    old_value : (x : Fitting (concat b.vars)) (w : Way b) (r : Out (Part b (Way b))) → out_of b (Way b) (Some (way_out b w)) ≡ Some r → body_val b is_body x r.at r.port ≡ token_at (all x) (way_out b w)
    old_value x w r e =
        let (o, is, value) = val_source b is_body (Way b) (way_kind b) (way_source b) (same_way b) (same_way_is b) (same_way_self b) (no_val b is_body) x (Some (way_out b w)) r e in
        value ∙ ap (token_at (all x)) (sym (same_Some (way_out b w) o is))

    same_values : (x : Fitting (concat b.vars)) (v w : Way b) (q : Out (Gathered b)) (r : Out (Part b (Way b))) → hx.name (way v) ≡ gx.name (tail w) → way_copy b v ≡ Some q → out_of b (Way b) (Some (way_out b w)) ≡ Some r → gathered_val b is_body f is_function kinds x q.at q.port ≡ body_val b is_body x r.at r.port
    same_values x v w q r is e g =
        let same : v ≡ w = ap (way_of b v) (name_inj (body_plan b) gx (tail v) (tail w) (sym (ends.ways v) ∙ is)) in
        new_value x v q e ∙ ap (λ z. token_at (all x) (way_out b z)) same ∙ sym (old_value x w r g)

    gather_values : (x : Fitting (concat b.vars)) (n : Gathered b) (m : Part b (Way b)) (s : Shape) (q : Out (Gathered b)) (r : Out (Part b (Way b))) → hx.name n ≡ gx.name m → (gathered_plan b f).kind n ≡ Exit s → (body_plan b).kind m ≡ Exit s → (gathered_plan b f).source n 1 ≡ Some q → (body_plan b).source m 1 ≡ Some r → gathered_val b is_body f is_function kinds x q.at q.port ≡ body_val b is_body x r.at r.port
    gather_values x (way v) (tail w) s q r is k l e g = same_values x v w q r is e g
    gather_values x (way v) enter s q r is k l e g = absurd (let no_such : ⊥ = cc in no_such)
    gather_values x (way v) vars s q r is k l e g = absurd (let no_such : ⊥ = cc in no_such)
    gather_values x (way v) (node p) s q r is k l e g = absurd (no_node p s l)
    gather_values x entry m s q r is k l e g = absurd (let no_such : ⊥ = cc in no_such)
    gather_values x pure m s q r is k l e g = absurd (let no_such : ⊥ = cc in no_such)
    gather_values x pair m s q r is k l e g = absurd (let no_such : ⊥ = cc in no_such)
    gather_values x vals m s q r is k l e g = absurd (let no_such : ⊥ = cc in no_such)
    gather_values x fork m s q r is k l e g = absurd (let no_such : ⊥ = cc in no_such)

    gathered_size : ℕ
    gathered_size = 1 + (length (hx.name entry) + (length (hx.name pure) + (length (hx.name pair) + (length (hx.name vals) + (length (hx.name fork) + ways_total b (λ w. length (hx.name (way w))))))))

    gathered_short : (n : Gathered b) → length (hx.name n) < gathered_size
    unfolding gathered_size
    gathered_short entry = omega arith
    gathered_short pure = omega arith
    gathered_short pair = omega arith
    gathered_short vals = omega arith
    gathered_short fork = omega arith
    gathered_short (way w) = let k : length (hx.name (way w)) ≤ ways_total b (λ w. length (hx.name (way w))) = ways_below b (λ w. length (hx.name (way w))) w in omega (arith, k)

    body_typed : Typed (built (body_plan b) gx)
    body_typed =
        typed_of (body_plan b) is_body.typed gx (part_size b (Way b) gx (ways_total b (λ w. length (gx.name (tail w)))) (λ w. ways_below b (λ w. length (gx.name (tail w))) w))
        (part_short b (Way b) gx (ways_total b (λ w. length (gx.name (tail w)))) (λ w. ways_below b (λ w. length (gx.name (tail w))) w))

    pub gather_refines : Refines (built (gathered_plan b f) hx) (built (body_plan b) gx)
    gather_refines =
        matches_refines is_body.values (built (gathered_plan b f) hx) (built (body_plan b) gx) (typed_of (gathered_plan b f) (gathered_steady b is_body f is_function kinds).typed hx gathered_size gathered_short) body_typed
        (plan_ports (gathered_plan b f) (body_plan b) hx gx (steady_ports (gathered_plan b f) entry (concat b.vars) (gathered_val b is_body f is_function kinds) (gathered_steady b is_body f is_function kinds) (body_plan b) enter (body_val b is_body) (body_steady b is_body) hx gx ends.entry gather_exits gather_back))
        (matches_of (gathered_plan b f) (body_plan b) hx gx
        (steady_matches (gathered_plan b f) entry (concat b.vars) (gathered_val b is_body f is_function kinds) (gathered_steady b is_body f is_function kinds) (body_plan b) enter (body_val b is_body) (body_steady b is_body) hx gx ends.entry gather_exits gather_depends gather_values))
