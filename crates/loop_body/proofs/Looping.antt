-- Loops of bodies and of their functions.
use Rattle.std.proofs.Common.{◌≡◌, ℕ, ◌<◌, Bool, true, false, List, [], ◌∷◌, ◌++◌, refl, ap, sym, ◌∙◌, subst}
use Rattle.std.specs.List.{concat}
use Rattle.circuits.specs.PortTokens.{Token}
use Rattle.circuits.specs.Firing.{FitEach}
use Rattle.fun_expr.specs.Function.{fun_value}
use Rattle.loop_body.specs.Body.{Body, IsBody}
use Rattle.loop_body.specs.BodyValue.{Turn}
use Rattle.loop_body.specs.BodyFunction.{body_function}
use Rattle.loop_laws.specs.Polarity.{back_bit, exit_bit}
use Rattle.loop_laws.specs.LoopResult.{FunctionLoops, ends_with, goes_on as goes_again}
use Rattle.loop_body.specs.Loops.{Loops, ends, goes_on, ComesBack, LoopIsOne, LoopsByFunction, LoopsOfFunction}
use Rattle.loop_body.proofs.NodeMeaning.{OpLaws}
use Rattle.loop_body.proofs.Turns.{turn_is_one, function_turns}

-- the one turn
record One (b : Body) (tuple : List Token) : Type 0 where
  pub next : List Token
  pub bit : ℕ
  pub turn : Turn b tuple next bit
  pub fit : FitEach b.vars next
  pub small : bit < 2
  pub once : (other : List Token) (c : ℕ) → Turn b tuple other c → (other ≡ next) × (c ≡ bit)

one : OpLaws → (b : Body) → IsBody b → ComesBack b → (tuple : List Token) → FitEach b.vars tuple → One b tuple
one laws b ok back tuple fit =
    let t = turn_is_one laws b tuple ok fit in
    record { next = t.0; bit = t.1; turn = t.2; fit = subst (λ s. FitEach s t.0) back t.3; small = t.4; once = t.5 }

-- a turn leads to a tuple that fits
next_fits : OpLaws → (b : Body) → IsBody b → ComesBack b → (tuple next : List Token) (bit : ℕ) → FitEach b.vars tuple → Turn b tuple next bit → FitEach b.vars next
next_fits laws b ok back tuple next bit fit turn =
    let o = one laws b ok back tuple fit in
    subst (FitEach b.vars) (sym (o.once next bit turn).0) o.fit

-- two turns of one tuple are one
same_turn : OpLaws → (b : Body) → IsBody b → ComesBack b → (tuple next other : List Token) (bit c : ℕ) → FitEach b.vars tuple → Turn b tuple next bit → Turn b tuple other c → (other ≡ next) × (c ≡ bit)
same_turn laws b ok back tuple next other bit c fit t u =
    let o = one laws b ok back tuple fit in
    ((o.once other c u).0 ∙ sym (o.once next bit t).0, (o.once other c u).1 ∙ sym (o.once next bit t).1)

-- one result
bits_differ : (d : Bool) → exit_bit d ≡ back_bit d → ⊥
bits_differ true e = cc
bits_differ false e = cc

pub loop_is_one : OpLaws → (b : Body) (d : Bool) → IsBody b → ComesBack b → (tuple result other : List Token) → FitEach b.vars tuple → Loops b d tuple result → Loops b d tuple other → other ≡ result
loop_is_one laws b d ok back tuple result other fit (ends _ _ t) (ends _ _ u) = (same_turn laws b ok back tuple result other (exit_bit d) (exit_bit d) fit t u).0
loop_is_one laws b d ok back tuple result other fit (ends _ _ t) (goes_on _ next _ u rest) =
    absurd (bits_differ d (sym (same_turn laws b ok back tuple result next (exit_bit d) (back_bit d) fit t u).1))
loop_is_one laws b d ok back tuple result other fit (goes_on _ next _ t rest) (ends _ _ u) =
    absurd (bits_differ d (same_turn laws b ok back tuple next other (back_bit d) (exit_bit d) fit t u).1)
loop_is_one laws b d ok back tuple result other fit (goes_on _ next _ t rest) (goes_on _ next' _ u rest') =
    let e = (same_turn laws b ok back tuple next next' (back_bit d) (back_bit d) fit t u).0 in
    loop_is_one laws b d ok back next result other (next_fits laws b ok back tuple next (back_bit d) fit t) rest (subst (λ x. Loops b d x other) e rest')

-- the function loops as the body does
pub loops_by_function : OpLaws → (b : Body) (d : Bool) → IsBody b → ComesBack b → (tuple result : List Token) → FitEach b.vars tuple → Loops b d tuple result → FunctionLoops (body_function b) d (concat tuple) (concat result)
loops_by_function laws b d ok back tuple result fit (ends _ _ t) = ends_with (concat tuple) (concat result) (function_turns laws b tuple result (exit_bit d) ok fit t)
loops_by_function laws b d ok back tuple result fit (goes_on _ next _ t rest) =
    goes_again (concat tuple) (concat next) (concat result) (function_turns laws b tuple next (back_bit d) ok fit t)
    (loops_by_function laws b d ok back next result (next_fits laws b ok back tuple next (back_bit d) fit t) rest)

-- the last of a list, and what stands before it
last_same : (xs ys : List ℕ) (a b : ℕ) → xs ++ a ∷ [] ≡ ys ++ b ∷ [] → (xs ≡ ys) × (a ≡ b)
last_same [] [] a b h = (refl, cc)
last_same [] (y ∷ ys) a b h = absurd (no_more ys b cc)
  where
    no_more : (ys : List ℕ) (b : ℕ) → [] ≡ ys ++ b ∷ [] → ⊥
    no_more [] b h = cc
    no_more (y ∷ ys) b h = cc
last_same (x ∷ xs) [] a b h = absurd (no_more xs a (sym cc))
  where
    no_more : (ys : List ℕ) (b : ℕ) → [] ≡ ys ++ b ∷ [] → ⊥
    no_more [] b h = cc
    no_more (y ∷ ys) b h = cc
last_same (x ∷ xs) (y ∷ ys) a b h =
    let head : x ≡ y = cc in
    let rest = last_same xs ys a b cc in
    (ap (λ z. z ∷ xs) head ∙ ap (λ zs. y ∷ zs) rest.0, rest.1)

-- and back
pub record Back (b : Body) (d : Bool) (tuple : List Token) (v : Token) : Type 0 where
  pub result : List Token
  pub loops : Loops b d tuple result
  pub fit : FitEach b.vars result
  pub is : v ≡ concat result

back_from : OpLaws → (b : Body) (d : Bool) → IsBody b → ComesBack b → (tuple : List Token) (u v : Token) → FitEach b.vars tuple → u ≡ concat tuple → FunctionLoops (body_function b) d u v → Back b d tuple v
back_from laws b d ok back tuple u v fit e (ends_with _ _ h) =
    let o = one laws b ok back tuple fit in
    let same = last_same v (concat o.next) (exit_bit d) o.bit (sym h ∙ ap (fun_value (body_function b)) e ∙ function_turns laws b tuple o.next o.bit ok fit o.turn) in
    record { result = o.next; loops = ends tuple o.next (subst (Turn b tuple o.next) (sym same.1) o.turn); fit = o.fit; is = same.0 }
back_from laws b d ok back tuple u v fit e (goes_again _ next _ h rest) =
    let o = one laws b ok back tuple fit in
    let same = last_same next (concat o.next) (back_bit d) o.bit (sym h ∙ ap (fun_value (body_function b)) e ∙ function_turns laws b tuple o.next o.bit ok fit o.turn) in
    let r = back_from laws b d ok back o.next next v o.fit same.0 rest in
    record { result = r.result; loops = goes_on tuple o.next r.result (subst (Turn b tuple o.next) (sym same.1) o.turn) r.loops; fit = r.fit; is = r.is }

pub loop_is_one_law : OpLaws → LoopIsOne
loop_is_one_law laws b d ok back tuple result other fit l m = loop_is_one laws b d ok back tuple result other fit l m

pub by_function : OpLaws → LoopsByFunction
by_function laws b d ok back tuple result fit l = loops_by_function laws b d ok back tuple result fit l

pub of_function : OpLaws → LoopsOfFunction
of_function laws b d ok back tuple v fit l = let r = back_from laws b d ok back tuple (concat tuple) v fit refl l in (r.result, r.loops, r.fit, r.is)
