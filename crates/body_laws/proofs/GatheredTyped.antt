-- one Pure in the place of a body, with Splits and a Fork behind it, is typed
use Rattle.std.proofs.Common.{◌≡◌, ℕ, zero, suc, refl, sym, ap, ◌∙◌, List, [], ◌∷◌, ◌++◌, Option, Some, None, length, replicate}
use Rattle.body_laws.proofs.PartSteady.{only_is}
use Rattle.body_laws.proofs.PlaceLemmas.{port_place, item_port, place_number}
use Rattle.body_laws.specs.Bodies.{Body}
use Rattle.body_laws.specs.BodyPlans.{Way, next, condition, other, way_copy, way_shape, shape_of, next_shapes, Gathered, entry, pure, pair, vals, fork, way, gathered_plan}
use Rattle.body_laws.specs.TypedPlan.{TypedPlan}
use Rattle.circuit_plans.specs.Places.{Place, first, later, before, place_at}
use Rattle.circuit_plans.specs.Plans.{Out, from}
use Rattle.circuits.proofs.Beside.{none_some}
use Rattle.components.specs.Kind.{Shape, ins, outs, KindOk}
use Rattle.components.specs.Name.{port_get}
use Rattle.components.specs.Numbered.{single_port}
use Rattle.fun_expr.specs.Function.{Function}
use Rattle.std.proofs.lemmas.Option.{same_Some}
use Rattle.std.specs.List.{concat}

copy_port : {A B : Type 0} (x : B) (xs : List A) (p : Place xs) → port_get (replicate (length xs) x) (suc (before xs p)) ≡ Some x
copy_port x [] p = elim p [ ]
copy_port x (y ∷ xs) first = refl
copy_port x (y ∷ xs) (later p) = copy_port x xs p

copy_place : {A B : Type 0} (x : B) (xs : List A) (i : ℕ) (y : B) → port_get (replicate (length xs) x) i ≡ Some y → (p : Place xs) × (i ≡ suc (before xs p))
copy_place x [] i y e = absurd (none_some None y refl e)
copy_place x (z ∷ xs) zero y e = absurd (none_some None y refl e)
copy_place x (z ∷ xs) (suc zero) y e = (first, refl)
copy_place x (z ∷ xs) (suc (suc i)) y e = let (p, k) = copy_place x xs (suc i) y e in (later p, ap suc k)

pub two_ports : (a b s : Shape) (i : ℕ) → port_get (a ∷ b ∷ []) i ≡ Some s → (P : ℕ → Type 0) → P 1 → P 2 → P i
two_ports a b s zero e P h k = absurd (none_some None s refl e)
two_ports a b s (suc zero) e P h k = h
two_ports a b s (suc (suc zero)) e P h k = k
two_ports a b s (suc (suc (suc i))) e P h k = absurd (none_some None s refl e)

module _ (b : Body) (f : Function) (input : f.input ≡ concat b.vars) (kinds : (n : Gathered b) → KindOk ((gathered_plan b f).kind n)) where
  abbrev O : Type 0
  O = Out (Gathered b)

  abbrev at_way : Option (Way b) → O
  at_way None = record { at = entry; port = 0 }
  at_way (Some w) = record { at = way w; port = 1 }

  abbrev next_way : Option (Place b.next) → Option (Way b)
  next_way None = None
  next_way (Some p) = Some (next p)

  abbrev other_way : Option (Place b.others) → Option (Way b)
  other_way None = None
  other_way (Some p) = Some (other p)

  -- what an output feeds
  abbrev feeds : Gathered b → ℕ → O
  feeds entry i = record { at = pure; port = 1 }
  feeds pure i = record { at = pair; port = 1 }
  feeds pair (suc zero) = record { at = vals; port = 1 }
  feeds pair i = record { at = fork; port = 1 }
  feeds vals (suc i) = at_way (next_way (place_at b.next (suc i)))
  feeds vals zero = record { at = entry; port = 0 }
  feeds fork (suc zero) = record { at = way condition; port = 1 }
  feeds fork (suc (suc i)) = at_way (other_way (place_at b.others (suc i)))
  feeds fork zero = record { at = entry; port = 0 }
  feeds (way w) i = record { at = entry; port = 0 }

  -- the one source of an input
  record Fed (n : Gathered b) (i : ℕ) (q r : O) : Type 0 where
    port : i ≡ 1
    is : r ≡ q
    back : feeds r.at r.port ≡ record { at = n; port = 1 }

  way_back : (w : Way b) (r : O) → way_copy b w ≡ Some r → feeds r.at r.port ≡ record { at = way w; port = 1 }
  way_back (next p) r e =
      ap (λ (z : O). feeds z.at z.port) (sym (same_Some (record { at = vals; port = suc (before b.next p) }) r e)) ∙ ap (λ z. at_way (next_way z)) (place_number b.next p)
  way_back condition r e = ap (λ (z : O). feeds z.at z.port) (sym (same_Some (record { at = fork; port = 1 }) r e))
  way_back (other p) r e =
      ap (λ (z : O). feeds z.at z.port) (sym (same_Some (record { at = fork; port = suc (suc (before b.others p)) }) r e)) ∙ ap (λ z. at_way (other_way z)) (place_number b.others p)

  back : (n : Gathered b) (i : ℕ) (q : O) → (gathered_plan b f).source n i ≡ Some q → (i ≡ 1) × (feeds q.at q.port ≡ record { at = n; port = i })
  back entry i q e = absurd (none_some None q refl e)
  back pure i q e =
      let (port, is) = only_is (from entry 1) i q e in
      (port, ap (λ (z : O). feeds z.at z.port) (sym (same_Some (record { at = entry; port = 1 }) q is)) ∙ (λ j. record { at = pure; port = sym port j }))
  back pair i q e =
      let (port, is) = only_is (from pure 1) i q e in
      (port, ap (λ (z : O). feeds z.at z.port) (sym (same_Some (record { at = pure; port = 1 }) q is)) ∙ (λ j. record { at = pair; port = sym port j }))
  back vals i q e =
      let (port, is) = only_is (from pair 1) i q e in
      (port, ap (λ (z : O). feeds z.at z.port) (sym (same_Some (record { at = pair; port = 1 }) q is)) ∙ (λ j. record { at = vals; port = sym port j }))
  back fork i q e =
      let (port, is) = only_is (from pair 2) i q e in
      (port, ap (λ (z : O). feeds z.at z.port) (sym (same_Some (record { at = pair; port = 2 }) q is)) ∙ (λ j. record { at = fork; port = sym port j }))
  back (way w) i q e =
      let (port, is) = only_is (way_copy b w) i q e in (port, way_back w q is ∙ (λ j. record { at = way w; port = sym port j }))

  abbrev enters : O → Option Shape
  enters p = port_get (ins ((gathered_plan b f).kind p.at)) p.port

  abbrev leaves : O → Option Shape
  leaves q = port_get (outs ((gathered_plan b f).kind q.at)) q.port

  way_leaves : (w : Way b) (q : O) → way_copy b w ≡ Some q → leaves q ≡ Some (way_shape b w)
  way_leaves (next p) q e = ap leaves (sym (same_Some (record { at = vals; port = suc (before b.next p) }) q e)) ∙ item_port (shape_of b) b.next p
  way_leaves condition q e = ap leaves (sym (same_Some (record { at = fork; port = 1 }) q e))
  way_leaves (other p) q e = ap leaves (sym (same_Some (record { at = fork; port = suc (suc (before b.others p)) }) q e)) ∙ copy_port (1 ∷ []) b.others p

  wires : (n : Gathered b) (i : ℕ) (q : O) → (gathered_plan b f).source n i ≡ Some q → (a : Shape) × (enters (record { at = n; port = i }) ≡ Some a) × (leaves q ≡ Some a)
  wires entry i q e = absurd (none_some None q refl e)
  wires pure i q e =
      let (port, is) = only_is (from entry 1) i q e in
      (concat b.vars, ap (port_get (f.input ∷ [])) port ∙ ap Some input, ap leaves (sym (same_Some (record { at = entry; port = 1 }) q is)))
  wires pair i q e =
      let (port, is) = only_is (from pure 1) i q e in
      (concat (next_shapes b) ++ 1 ∷ [], ap (λ z. enters (record { at = pair; port = z })) port, ap leaves (sym (same_Some (record { at = pure; port = 1 }) q is)))
  wires vals i q e =
      let (port, is) = only_is (from pair 1) i q e in
      (concat (next_shapes b), ap (λ z. enters (record { at = vals; port = z })) port, ap leaves (sym (same_Some (record { at = pair; port = 1 }) q is)))
  wires fork i q e =
      let (port, is) = only_is (from pair 2) i q e in
      (1 ∷ [], ap (λ z. enters (record { at = fork; port = z })) port, ap leaves (sym (same_Some (record { at = pair; port = 2 }) q is)))
  wires (way w) i q e =
      let (port, is) = only_is (way_copy b w) i q e in (way_shape b w, ap (λ z. enters (record { at = way w; port = z })) port, way_leaves w q is)

  way_source_is : (w : Way b) → (q : O) × (way_copy b w ≡ Some q)
  way_source_is (next p) = (record { at = vals; port = suc (before b.next p) }, refl)
  way_source_is condition = (record { at = fork; port = 1 }, refl)
  way_source_is (other p) = (record { at = fork; port = suc (suc (before b.others p)) }, refl)

  inputs : (n : Gathered b) (i : ℕ) (a : Shape) → enters (record { at = n; port = i }) ≡ Some a → (q : O) × ((gathered_plan b f).source n i ≡ Some q)
  inputs entry i a e = absurd (none_some None a refl e)
  inputs pure i a e = (record { at = entry; port = 1 }, ap ((gathered_plan b f).source pure) (single_port f.input a i e))
  inputs pair i a e = (record { at = pure; port = 1 }, ap ((gathered_plan b f).source pair) (single_port (concat (next_shapes b) ++ 1 ∷ []) a i e))
  inputs vals i a e = (record { at = pair; port = 1 }, ap ((gathered_plan b f).source vals) (single_port (concat (next_shapes b)) a i e))
  inputs fork i a e = (record { at = pair; port = 2 }, ap ((gathered_plan b f).source fork) (single_port (1 ∷ []) a i e))
  inputs (way w) i a e = let (q, g) = way_source_is w in (q, ap ((gathered_plan b f).source (way w)) (single_port (way_shape b w) a i e) ∙ g)

  fork_feeds : (i : ℕ) (a : Shape) → port_get ((1 ∷ []) ∷ replicate (length b.others) (1 ∷ [])) i ≡ Some a → (p : O) × ((gathered_plan b f).source p.at p.port ≡ Some (record { at = fork; port = i }))
  fork_feeds zero a e = absurd (none_some None a refl e)
  fork_feeds (suc zero) a e = (record { at = way condition; port = 1 }, refl)
  fork_feeds (suc (suc i)) a e =
      let (p, port) = copy_place (1 ∷ []) b.others (suc i) a e in (record { at = way (other p); port = 1 }, λ j. Some (record { at = fork; port = suc (sym port j) }))

  outputs : (n : Gathered b) (i : ℕ) (a : Shape) → leaves (record { at = n; port = i }) ≡ Some a → (p : O) × ((gathered_plan b f).source p.at p.port ≡ Some (record { at = n; port = i }))
  outputs entry i a e = (record { at = pure; port = 1 }, λ j. Some (record { at = entry; port = sym (single_port (concat b.vars) a i e) j }))
  outputs pure i a e = (record { at = pair; port = 1 }, λ j. Some (record { at = pure; port = sym (single_port (concat (next_shapes b) ++ 1 ∷ []) a i e) j }))
  outputs pair i a e =
      two_ports (concat (next_shapes b)) (1 ∷ []) a i e (λ i. (p : O) × ((gathered_plan b f).source p.at p.port ≡ Some (record { at = pair; port = i }))) (record { at = vals; port = 1 }, refl) (
        record { at = fork; port = 1 },
        refl,
      )
  outputs vals i a e =
      let (p, port, is) = port_place (shape_of b) b.next i a e in (record { at = way (next p); port = 1 }, λ j. Some (record { at = vals; port = sym port j }))
  outputs fork i a e = fork_feeds i a e
  outputs (way w) i a e = absurd (none_some None a refl e)

  pub gathered_typed : TypedPlan (gathered_plan b f)
  gathered_typed =
      record {
        kinds = kinds;
        wires = λ p q e. wires p.at p.port q e;
        inputs = λ p a e. inputs p.at p.port a e;
        outputs = λ q a e. outputs q.at q.port a e;
        once = λ p r q e g. sym (back p.at p.port q e).1 ∙ (back r.at r.port q g).1;
      }
