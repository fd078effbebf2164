-- tokens of several lanes, side by side and joined
use Rattle.std.proofs.Common.{◌≡◌, ℕ, refl, sym, ap, ◌∙◌, length, map, List, [], ◌∷◌, ◌++◌, append-nil, append_assoc}
use Rattle.circuits.specs.Firing.{FitEach}
use Rattle.circuits.specs.PortTokens.{Token, at_port, one}
use Rattle.components.specs.Kind.{Shape}
use Rattle.port_types.specs.Token.{Fits}
use Rattle.std.specs.List.{concat, AllByRecursion}
use Rattle.circuit_plans.proofs.Places.{Place, first, later, item, number}

-- what port i has of these tuples
abbrev pub column : ℕ → List (List Token) → List Token
column i [] = []
column i (vs ∷ ws) = at_port (map one vs) i ++ column i ws

pub column_more : (i : ℕ) (ws : List (List Token)) (vs : List Token) → column i (ws ++ vs ∷ []) ≡ column i ws ++ at_port (map one vs) i
column_more i [] vs = append-nil (at_port (map one vs) i)
column_more i (x ∷ ws) vs = ap (λ z. at_port (map one x) i ++ z) (column_more i ws vs) ∙ sym (append_assoc (at_port (map one x) i) (column i ws) (at_port (map one vs) i))

pub joined_more : (ws : List (List Token)) (vs : List Token) → map concat (ws ++ vs ∷ []) ≡ map concat ws ++ concat vs ∷ []
joined_more [] vs = refl
joined_more (x ∷ ws) vs = ap (λ z. concat x ∷ z) (joined_more ws vs)

pub each_more : {A : Type 0} (P : A → Type 0) (ws : List A) (v : A) → AllByRecursion P ws → P v → AllByRecursion P (ws ++ v ∷ [])
each_more P [] v h k = (k, tt)
each_more P (x ∷ ws) v h k = (h.0, each_more P ws v h.1 k)

-- tokens of one shape have one length, so joined tokens come apart in one way
record Cut (x y u w : Token) : Type 0 where
  head_is : x ≡ y
  tail_is : u ≡ w

cut_same : (a : Shape) (x y u w : Token) → Fits a x → Fits a y → x ++ u ≡ y ++ w → Cut x y u w
cut_same [] [] [] u w h k e = record { head_is = refl; tail_is = e }
cut_same [] (n ∷ x) y u w h k e = absurd h
cut_same [] [] (m ∷ y) u w h k e = absurd k
cut_same (b ∷ a) [] y u w h k e = absurd h
cut_same (b ∷ a) (n ∷ x) [] u w h k e = absurd k
cut_same (b ∷ a) (n ∷ x) (m ∷ y) u w h k e =
    let same : n ≡ m = cc in
    let rest : x ++ u ≡ y ++ w = cc in
    let c = cut_same a x y u w h.1 k.1 rest in
    record { head_is = λ i. same i ∷ c.head_is i; tail_is = c.tail_is }

pub joined_same : (cs : List Shape) (vs ws : List Token) → FitEach cs vs → FitEach cs ws → concat vs ≡ concat ws → vs ≡ ws
joined_same [] [] [] h k e = refl
joined_same [] (v ∷ vs) ws h k e = absurd h
joined_same [] [] (w ∷ ws) h k e = absurd k
joined_same (a ∷ cs) [] ws h k e = absurd h
joined_same (a ∷ cs) (v ∷ vs) [] h k e = absurd k
joined_same (a ∷ cs) (v ∷ vs) (w ∷ ws) h k e =
    let c = cut_same a v w (concat vs) (concat ws) h.0 k.0 e in
    let rest : vs ≡ ws = joined_same cs vs ws h.1 k.1 c.tail_is in
    λ i. c.head_is i ∷ rest i

-- each lane has one token of a tuple
pub record Piece (cs : List Shape) (vs : List Token) (l : Place cs) : Type 0 where
  pub token : Token
  pub is : at_port (map one vs) (number cs l) ≡ one token

pub piece : (cs : List Shape) (vs : List Token) → FitEach cs vs → (l : Place cs) → Piece cs vs l
piece [] vs h l = elim l [ ]
piece (a ∷ cs) [] h l = absurd h
piece (a ∷ cs) (v ∷ vs) h first = record { token = v; is = refl }
piece (a ∷ cs) (v ∷ vs) h (later l) = let p = piece cs vs h.1 l in record { token = p.token; is = p.is }

pub fit_each : (cs : List Shape) (vs : List Token) → length vs ≡ length cs → ((l : Place cs) → AllByRecursion (Fits (item cs l)) (at_port (map one vs) (number cs l))) → FitEach cs vs
fit_each [] [] e h = tt
fit_each [] (v ∷ vs) e h = cc
fit_each (a ∷ cs) [] e h = cc
fit_each (a ∷ cs) (v ∷ vs) e h =
    let len : length vs ≡ length cs = cc in
    (let k : AllByRecursion (Fits a) (v ∷ []) = h first in k.0, fit_each cs vs len (λ l. h (later l)))
