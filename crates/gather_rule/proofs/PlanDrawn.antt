-- The drawing of a typed plan has the plan's wires, each input once.
use Rattle.std.proofs.Common.{◌≡◌, ◌≢◌, ℕ, zero, suc, ◌+◌, ◌<◌, refl, sym, ap, subst, ◌∙◌, map, List, [], ◌∷◌, ◌++◌, Option, Some, None, arith}
use Rattle.std.specs.List.{AllByRecursion}
use Rattle.std.proofs.lemmas.Option.{none-some, same_Some}
use Rattle.components.specs.Kind.{Shape, ins}
use Rattle.components.specs.Name.{port_get}
use Rattle.circuits.specs.Replacing.{In, head, tail}
use Rattle.circuit_plans.specs.Plans.{Out, Plan}
use Rattle.circuit_plans.specs.Drawing.{DrawnWire}
use Rattle.circuit_plans.proofs.PlanTyped.{ForSome}
use Rattle.circuit_plans.proofs.Places.{in_front, in_back, each_both}
use Rattle.circuit_plans.proofs.Drawn.{Draws}
use Rattle.subst_engine.specs.Making.{AllDiffer}
use Rattle.gather_rule.specs.PlanDrawing.{wire_from, wires_into, all_wires, drawing_of}

pub differ_both : {A : Type 0} (xs ys : List A) → AllDiffer xs → AllDiffer ys → AllByRecursion (λ x. AllByRecursion (λ y. x ≢ y) ys) xs → AllDiffer (xs ++ ys)
differ_both [] ys h k apart = k
differ_both (x ∷ xs) ys h k apart = (each_both (λ y. x ≢ y) xs ys h.0 apart.0, differ_both xs ys h.1 k apart.1)

map_both : {A B : Type 0} (f : A → B) (xs ys : List A) → map f (xs ++ ys) ≡ map f xs ++ map f ys
map_both f [] ys = refl
map_both f (x ∷ xs) ys = ap (λ z. f x ∷ z) (map_both f xs ys)

module _ {N : Type 0} (c : Plan N) where
  abbrev pub Sourced : DrawnWire N → Type 0
  Sourced w = c.source w.target.at w.target.port ≡ Some w.source

  abbrev pub targets : List (DrawnWire N) → List (Out N)
  targets ws = map (λ (w : DrawnWire N). w.target) ws

  -- each wire is one of the plan

  sound_from : (o : Option (Out N)) (n : N) (i : ℕ) (rest : List (DrawnWire N)) → c.source n i ≡ o → AllByRecursion Sourced rest → AllByRecursion Sourced (wire_from o n i rest)
  sound_from None n i rest e h = h
  sound_from (Some q) n i rest e h = (e, h)

  sound_into : (n : N) (i : ℕ) (shapes : List Shape) → AllByRecursion Sourced (wires_into c n i shapes)
  sound_into n i [] = tt
  sound_into n i (a ∷ shapes) = sound_from (c.source n i) n i (wires_into c n (suc i) shapes) refl (sound_into n (suc i) shapes)

  pub sound_all : (ns : List N) → AllByRecursion Sourced (all_wires c ns)
  sound_all [] = tt
  sound_all (n ∷ ns) = each_both Sourced (wires_into c n 1 (ins (c.kind n))) (all_wires c ns) (sound_into n 1 (ins (c.kind n))) (sound_all ns)

  -- and each wire of the plan is drawn

  here_from : (o : Option (Out N)) (q : Out N) (n : N) (i : ℕ) (rest : List (DrawnWire N)) → o ≡ Some q → In (record { source = q; target = record { at = n; port = i } }) (wire_from o n i rest)
  here_from None q n i rest e = absurd (none-some q e)
  here_from (Some r) q n i rest e = head (λ j. record { source = same_Some q r (sym e) j; target = record { at = n; port = i } })

  past_from : (o : Option (Out N)) (n : N) (i : ℕ) (rest : List (DrawnWire N)) (w : DrawnWire N) → In w rest → In w (wire_from o n i rest)
  past_from None n i rest w h = h
  past_from (Some q) n i rest w h = tail h

  in_into : (n : N) (start : ℕ) (shapes : List Shape) (j : ℕ) (a : Shape) (q : Out N) → port_get shapes (suc j) ≡ Some a → c.source n (start + j) ≡ Some q →
      In (record { source = q; target = record { at = n; port = start + j } }) (wires_into c n start shapes)
  in_into n start [] j a q e f = absurd (none-some a e)
  in_into n start (s ∷ shapes) zero a q e f =
      let same : start + 0 ≡ start = omega arith in
      subst (λ z. In (record { source = q; target = record { at = n; port = z } }) (wires_into c n start (s ∷ shapes))) (sym same)
      (here_from (c.source n start) q n start (wires_into c n (suc start) shapes) (ap (c.source n) (sym same) ∙ f))
  in_into n start (s ∷ shapes) (suc j) a q e f =
      let same : start + suc j ≡ suc start + j = omega arith in
      subst (λ z. In (record { source = q; target = record { at = n; port = z } }) (wires_into c n start (s ∷ shapes))) (sym same)
      (past_from (c.source n start) n start (wires_into c n (suc start) shapes) _ (in_into n (suc start) shapes j a q e (ap (c.source n) (sym same) ∙ f)))

  in_node : (n : N) (shapes : List Shape) (i : ℕ) (a : Shape) (q : Out N) → port_get shapes i ≡ Some a → c.source n i ≡ Some q →
      In (record { source = q; target = record { at = n; port = i } }) (wires_into c n 1 shapes)
  in_node n [] i a q e f = absurd (none-some a e)
  in_node n (s ∷ shapes) zero a q e f = absurd (none-some a e)
  in_node n (s ∷ shapes) (suc j) a q e f =
      let same : 1 + j ≡ suc j = omega arith in
      subst (λ z. In (record { source = q; target = record { at = n; port = z } }) (wires_into c n 1 (s ∷ shapes))) same (in_into n 1 (s ∷ shapes) j a q e (ap (c.source n) same ∙ f))

  in_all : (ns : List N) (n : N) (i : ℕ) (a : Shape) (q : Out N) → In n ns → port_get (ins (c.kind n)) i ≡ Some a → c.source n i ≡ Some q →
      In (record { source = q; target = record { at = n; port = i } }) (all_wires c ns)
  in_all [] n i a q h e f = elim h [ ]
  in_all (m ∷ ns) n i a q (head is) e f =
      in_front (wires_into c m 1 (ins (c.kind m))) (all_wires c ns) _
      (subst (λ z. In (record { source = q; target = record { at = n; port = i } }) (wires_into c z 1 (ins (c.kind z)))) is (in_node n (ins (c.kind n)) i a q e f))
  in_all (m ∷ ns) n i a q (tail h) e f = in_back (wires_into c m 1 (ins (c.kind m))) (all_wires c ns) _ (in_all ns n i a q h e f)

  -- no input is entered twice

  apart_from : (P : Out N → Type 0) (o : Option (Out N)) (n : N) (i : ℕ) (rest : List (DrawnWire N)) → P (record { at = n; port = i }) → AllByRecursion P (targets rest) → AllByRecursion P (targets (wire_from o n i rest))
  apart_from P None n i rest here h = h
  apart_from P (Some q) n i rest here h = (here, h)

  other_node : (p : Out N) (n : N) (i : ℕ) (shapes : List Shape) → p.at ≢ n → AllByRecursion (λ t. p ≢ t) (targets (wires_into c n i shapes))
  other_node p n i [] away = tt
  other_node p n i (a ∷ shapes) away =
      apart_from (λ t. p ≢ t) (c.source n i) n i (wires_into c n (suc i) shapes) (λ e. away (ap (λ (t : Out N). t.at) e)) (other_node p n (suc i) shapes away)

  other_port : (n : N) (j i : ℕ) (shapes : List Shape) → j < i → AllByRecursion (λ t. record { at = n; port = j } ≢ t) (targets (wires_into c n i shapes))
  other_port n j i [] less = tt
  other_port n j i (a ∷ shapes) less =
      apart_from (λ t. record { at = n; port = j } ≢ t) (c.source n i) n i (wires_into c n (suc i) shapes)
      (λ e. let same : j ≡ i = ap (λ (t : Out N). t.port) e in absurd (omega (arith, same, less))) (other_port n j (suc i) shapes (omega (arith, less)))

  differ_from : (o : Option (Out N)) (n : N) (i : ℕ) (rest : List (DrawnWire N)) → AllByRecursion (λ t. record { at = n; port = i } ≢ t) (targets rest) → AllDiffer (targets rest) → AllDiffer (targets (wire_from o n i rest))
  differ_from None n i rest away h = h
  differ_from (Some q) n i rest away h = (away, h)

  differ_into : (n : N) (i : ℕ) (shapes : List Shape) → AllDiffer (targets (wires_into c n i shapes))
  differ_into n i [] = tt
  differ_into n i (a ∷ shapes) = differ_from (c.source n i) n i (wires_into c n (suc i) shapes) (other_port n i (suc i) shapes (omega arith)) (differ_into n (suc i) shapes)

  other_nodes : (p : Out N) (ns : List N) → AllByRecursion (λ m. p.at ≢ m) ns → AllByRecursion (λ t. p ≢ t) (targets (all_wires c ns))
  other_nodes p [] h = tt
  other_nodes p (n ∷ ns) h =
      subst (AllByRecursion (λ t. p ≢ t)) (sym (map_both (λ (w : DrawnWire N). w.target) (wires_into c n 1 (ins (c.kind n))) (all_wires c ns)))
      (each_both (λ t. p ≢ t) (targets (wires_into c n 1 (ins (c.kind n)))) (targets (all_wires c ns)) (other_node p n 1 (ins (c.kind n)) h.0) (other_nodes p ns h.1))

  across : (n : N) (i : ℕ) (shapes : List Shape) (ns : List N) → AllByRecursion (λ m. n ≢ m) ns → AllByRecursion (λ p. AllByRecursion (λ t. p ≢ t) (targets (all_wires c ns))) (targets (wires_into c n i shapes))
  across n i [] ns h = tt
  across n i (a ∷ shapes) ns h =
      apart_from (λ p. AllByRecursion (λ t. p ≢ t) (targets (all_wires c ns))) (c.source n i) n i (wires_into c n (suc i) shapes)
      (other_nodes (record { at = n; port = i }) ns h) (across n (suc i) shapes ns h)

  pub differ_all : (ns : List N) → AllDiffer ns → AllDiffer (targets (all_wires c ns))
  differ_all [] h = tt
  differ_all (n ∷ ns) h =
      subst AllDiffer (sym (map_both (λ (w : DrawnWire N). w.target) (wires_into c n 1 (ins (c.kind n))) (all_wires c ns)))
      (differ_both (targets (wires_into c n 1 (ins (c.kind n)))) (targets (all_wires c ns)) (differ_into n 1 (ins (c.kind n))) (differ_all ns h.1) (across n 1 (ins (c.kind n)) ns h.0))

  -- what has a source is an input
  abbrev pub Enters : Type 0
  Enters = (n : N) (i : ℕ) (q : Out N) → c.source n i ≡ Some q → (a : Shape) × (port_get (ins (c.kind n)) i ≡ Some a)

  module _ (enters : Enters) (ns : List N) (has : (n : N) → In n ns) where
    pub drawn_wire : (n : N) (i : ℕ) (q : Out N) → c.source n i ≡ Some q → In (record { source = q; target = record { at = n; port = i } }) (all_wires c ns)
    drawn_wire n i q e = let (a, is) = enters n i q e in in_all ns n i a q (has n) is e

    complete_at : (n : N) (i : ℕ) (o : Option (Out N)) → c.source n i ≡ o → ForSome o (λ q. In (record { source = q; target = record { at = n; port = i } }) (all_wires c ns))
    complete_at n i None e = tt
    complete_at n i (Some q) e = drawn_wire n i q e

    pub draws : Draws (drawing_of c ns) c
    draws = record { kinds = λ n. refl; all = has; sound = sound_all ns; complete = λ n i. complete_at n i (c.source n i) refl }
