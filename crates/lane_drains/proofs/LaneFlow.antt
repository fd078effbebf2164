-- What passes through the Mux and the Branch of a lane and through the nodes of a body, and how tuples go through the turns of a loop.
use Rattle.std.proofs.Common.{◌≡◌, ℕ, zero, suc, ◌⊎◌, inl, inr, refl, sym, ap, subst, ◌∙◌, true, false, Bool, map, List, [], ◌∷◌, ◌++◌, length, Some, None, arith}
use Rattle.std.specs.List.{AllByRecursion}
use Rattle.body_laws.specs.Bodies.{IsSteady}
use Rattle.circuits.specs.Firing.{Fires, FitEach}
use Rattle.circuits.specs.PortTokens.{Token, at_port, one}
use Rattle.components.specs.Kind.{Shape, ins, outs, field}
use Rattle.components.specs.Name.{port_get}
use Rattle.components.specs.declared.kind.Kind.{Kind}
use Rattle.components.specs.declared.kind.Kind.TheVariants.{Buffer, Fork, Join, Split, Sink0, Source0, Constant, Mux, Branch, Pure, Operator}
use Rattle.lane_drains.proofs.Streams.{Act, takes_at, gives_at, Does, fork_port, single_at}
use Rattle.lane_drains.specs.LaneLoop.{exit_token, back_token}
use Rattle.loop_laws.specs.Polarity.{back_out, exit_out, fresh_in, back_in}

abbrev pub head_of : List Token → Token
head_of [] = []
head_of (x ∷ xs) = x

abbrev pub tail_of : {A : Type 0} → List A → List A
tail_of [] = []
tail_of (x ∷ xs) = xs

-- by each bit the next of fresh or of back
abbrev pub Merged : Bool → List Token → List Token → List Token → List Token → Type 0
Merged d [] fresh back all = (fresh ≡ []) × (back ≡ []) × (all ≡ [])
Merged d (s ∷ bits) fresh back all =
    (v : Token) × (more : List Token) × (all ≡ v ∷ more)
    × (((s ≡ exit_token d) × (rest : List Token) × (fresh ≡ v ∷ rest) × Merged d bits rest back more)
    ⊎ ((s ≡ back_token d) × (rest : List Token) × (back ≡ v ∷ rest) × Merged d bits fresh rest more))

mux_zero : (d : Bool) (taken given : List (List Token)) (v : Token) (bits fresh back all : List Token) → taken ≡ one (0 ∷ []) ∷ one v ∷ [] → given ≡ one v ∷ [] → Merged d bits fresh back all → Merged d (at_port taken 1 ++ bits) (at_port taken (fresh_in d) ++ fresh) (at_port taken (back_in d) ++ back) (at_port given 1 ++ all)
mux_zero true taken given v bits fresh back all et eg m =
    subst (λ z. Merged true (at_port z 1 ++ bits) (at_port z 2 ++ fresh) (at_port z 3 ++ back) (at_port given 1 ++ all)) (sym et)
    (subst (λ z. Merged true (one (0 ∷ []) ++ bits) (one v ++ fresh) back (at_port z 1 ++ all)) (sym eg) (v, all, refl, inl (refl, fresh, refl, m)))
mux_zero false taken given v bits fresh back all et eg m =
    subst (λ z. Merged false (at_port z 1 ++ bits) (at_port z 3 ++ fresh) (at_port z 2 ++ back) (at_port given 1 ++ all)) (sym et)
    (subst (λ z. Merged false (one (0 ∷ []) ++ bits) fresh (one v ++ back) (at_port z 1 ++ all)) (sym eg) (v, all, refl, inr (refl, back, refl, m)))

mux_one : (d : Bool) (taken given : List (List Token)) (v : Token) (bits fresh back all : List Token) → taken ≡ one (1 ∷ []) ∷ [] ∷ one v ∷ [] → given ≡ one v ∷ [] → Merged d bits fresh back all → Merged d (at_port taken 1 ++ bits) (at_port taken (fresh_in d) ++ fresh) (at_port taken (back_in d) ++ back) (at_port given 1 ++ all)
mux_one true taken given v bits fresh back all et eg m =
    subst (λ z. Merged true (at_port z 1 ++ bits) (at_port z 2 ++ fresh) (at_port z 3 ++ back) (at_port given 1 ++ all)) (sym et)
    (subst (λ z. Merged true (one (1 ∷ []) ++ bits) fresh (one v ++ back) (at_port z 1 ++ all)) (sym eg) (v, all, refl, inr (refl, back, refl, m)))
mux_one false taken given v bits fresh back all et eg m =
    subst (λ z. Merged false (at_port z 1 ++ bits) (at_port z 3 ++ fresh) (at_port z 2 ++ back) (at_port given 1 ++ all)) (sym et)
    (subst (λ z. Merged false (one (1 ∷ []) ++ bits) (one v ++ fresh) back (at_port z 1 ++ all)) (sym eg) (v, all, refl, inl (refl, fresh, refl, m)))

-- a Mux merges new tokens and those that come back by its bits
pub mux_flow : (d : Bool) (s : Shape) (acts : List Act) → AllByRecursion (Does (Mux s)) acts → Merged d (takes_at 1 acts) (takes_at (fresh_in d) acts) (takes_at (back_in d) acts) (gives_at 1 acts)
mux_flow d s [] h = (refl, refl, refl)
mux_flow d s (a ∷ acts) h =
    let (v, z, way, eg, en) = h.0.fires in
    let more = mux_flow d s acts h.1 in
    elim way [
      | inl et ↦ mux_zero d a.taken a.given v (takes_at 1 acts) (takes_at (fresh_in d) acts) (takes_at (back_in d) acts) (gives_at 1 acts) et eg more
      | inr et ↦ mux_one d a.taken a.given v (takes_at 1 acts) (takes_at (fresh_in d) acts) (takes_at (back_in d) acts) (gives_at 1 acts) et eg more
    ]

branch_one : (d : Bool) (taken given : List (List Token)) (v : Token) (bits fresh back all : List Token) → taken ≡ one v ∷ one (1 ∷ []) ∷ [] → given ≡ one v ∷ [] → Merged d bits fresh back all → Merged d (at_port taken 2 ++ bits) (at_port given (exit_out d) ++ fresh) (at_port given (back_out d) ++ back) (at_port taken 1 ++ all)
branch_one true taken given v bits fresh back all et eg m =
    subst (λ z. Merged true (at_port z 2 ++ bits) (at_port given 2 ++ fresh) (at_port given 1 ++ back) (at_port z 1 ++ all)) (sym et)
    (subst (λ z. Merged true (one (1 ∷ []) ++ bits) (at_port z 2 ++ fresh) (at_port z 1 ++ back) (one v ++ all)) (sym eg) (v, all, refl, inr (refl, back, refl, m)))
branch_one false taken given v bits fresh back all et eg m =
    subst (λ z. Merged false (at_port z 2 ++ bits) (at_port given 1 ++ fresh) (at_port given 2 ++ back) (at_port z 1 ++ all)) (sym et)
    (subst (λ z. Merged false (one (1 ∷ []) ++ bits) (at_port z 1 ++ fresh) (at_port z 2 ++ back) (one v ++ all)) (sym eg) (v, all, refl, inl (refl, fresh, refl, m)))

branch_zero : (d : Bool) (taken given : List (List Token)) (v : Token) (bits fresh back all : List Token) → taken ≡ one v ∷ one (0 ∷ []) ∷ [] → given ≡ [] ∷ one v ∷ [] → Merged d bits fresh back all → Merged d (at_port taken 2 ++ bits) (at_port given (exit_out d) ++ fresh) (at_port given (back_out d) ++ back) (at_port taken 1 ++ all)
branch_zero true taken given v bits fresh back all et eg m =
    subst (λ z. Merged true (at_port z 2 ++ bits) (at_port given 2 ++ fresh) (at_port given 1 ++ back) (at_port z 1 ++ all)) (sym et)
    (subst (λ z. Merged true (one (0 ∷ []) ++ bits) (at_port z 2 ++ fresh) (at_port z 1 ++ back) (one v ++ all)) (sym eg) (v, all, refl, inl (refl, fresh, refl, m)))
branch_zero false taken given v bits fresh back all et eg m =
    subst (λ z. Merged false (at_port z 2 ++ bits) (at_port given 1 ++ fresh) (at_port given 2 ++ back) (at_port z 1 ++ all)) (sym et)
    (subst (λ z. Merged false (one (0 ∷ []) ++ bits) (at_port z 1 ++ fresh) (at_port z 2 ++ back) (one v ++ all)) (sym eg) (v, all, refl, inr (refl, back, refl, m)))

-- a Branch parts what it takes into results and what goes back
pub branch_flow : (d : Bool) (s : Shape) (acts : List Act) → AllByRecursion (Does (Branch s)) acts → Merged d (takes_at 2 acts) (gives_at (exit_out d) acts) (gives_at (back_out d) acts) (takes_at 1 acts)
branch_flow d s [] h = (refl, refl, refl)
branch_flow d s (a ∷ acts) h =
    let (v, z, way, en) = h.0.fires in
    let more = branch_flow d s acts h.1 in
    elim way [
      | inl e ↦ branch_one d a.taken a.given v (takes_at 2 acts) (gives_at (exit_out d) acts) (gives_at (back_out d) acts) (takes_at 1 acts) e.0 e.1 more
      | inr e ↦ branch_zero d a.taken a.given v (takes_at 2 acts) (gives_at (exit_out d) acts) (gives_at (back_out d) acts) (takes_at 1 acts) e.0 e.1 more
    ]

-- two bits
same_number : (x y : ℕ) → x ∷ [] ≡ y ∷ [] → x ≡ y
same_number x y e = cc

bits_differ : (d : Bool) → exit_token d ≡ back_token d → ⊥
bits_differ true e = let n = same_number 0 1 e in omega (arith, n)
bits_differ false e = let n = same_number 1 0 e in omega (arith, n)

pub exit_not_back : (d : Bool) → back_token d ≡ exit_token d → ⊥
exit_not_back d e = bits_differ d (sym e)

pub merged_length : (d : Bool) (bits fresh back all : List Token) → Merged d bits fresh back all → length all ≡ length bits
merged_length d [] fresh back all m = ap length m.2
merged_length d (s ∷ bits) fresh back all m =
    ap length m.2
    ∙ elim m.3 [
      | inl h ↦ ap suc (merged_length d bits h.1 back m.1 h.3)
      | inr h ↦ ap suc (merged_length d bits fresh h.1 m.1 h.3)
    ]

-- the first bit is one of the two
pub first_bit : (d : Bool) (s : Token) (bits fresh back all : List Token) → Merged d (s ∷ bits) fresh back all → (s ≡ exit_token d) ⊎ (s ≡ back_token d)
first_bit d s bits fresh back all m = elim m.3 [ inl h ↦ inl h.0 | inr h ↦ inr h.0 ]

pub merged_exit : (d : Bool) (bits fresh back all : List Token) → Merged d (exit_token d ∷ bits) fresh back all → (fresh ≡ head_of all ∷ tail_of fresh) × Merged d bits (tail_of fresh) back (tail_of all)
merged_exit d bits fresh back all m =
    elim m.3 [
      | inl h ↦ (
        h.2 ∙ (λ i. head_of (sym m.2 i) ∷ tail_of (sym h.2 i)),
        subst (λ z. Merged d bits z back (tail_of all)) (ap tail_of (sym h.2)) (subst (λ z. Merged d bits h.1 back z) (ap tail_of (sym m.2)) h.3),
      )
      | inr h ↦ absurd (bits_differ d h.0)
    ]

pub merged_back : (d : Bool) (bits fresh back all : List Token) → Merged d (back_token d ∷ bits) fresh back all → (back ≡ head_of all ∷ tail_of back) × Merged d bits fresh (tail_of back) (tail_of all)
merged_back d bits fresh back all m =
    elim m.3 [
      | inr h ↦ (
        h.2 ∙ (λ i. head_of (sym m.2 i) ∷ tail_of (sym h.2 i)),
        subst (λ z. Merged d bits fresh z (tail_of all)) (ap tail_of (sym h.2)) (subst (λ z. Merged d bits fresh h.1 z) (ap tail_of (sym m.2)) h.3),
      )
      | inl h ↦ absurd (bits_differ d (sym h.0))
    ]

-- bits that come one turn later
abbrev pub lag : Token → List Token → List Token
lag v [] = []
lag v (g ∷ bits) = v ∷ lag g bits

abbrev pub last_of : Token → List Token → Token
last_of v [] = v
last_of v (g ∷ bits) = last_of g bits

pub lag_length : (v : Token) (bits : List Token) → length (lag v bits) ≡ length bits
lag_length v [] = refl
lag_length v (g ∷ bits) = ap suc (lag_length g bits)

no_end : (xs : List Token) (x w : Token) → [] ≡ xs ++ x ∷ w ∷ [] → ⊥
no_end [] x w e = cc
no_end (y ∷ xs) x w e = let k : [] ≡ y ∷ (xs ++ x ∷ w ∷ []) = e in cc

not_empty : (xs : List Token) (w : Token) → [] ≡ xs ++ w ∷ [] → ⊥
not_empty [] w e = let k : [] ≡ w ∷ [] = e in cc
not_empty (y ∷ xs) w e = let k : [] ≡ y ∷ (xs ++ w ∷ []) = e in cc

pub lagged : (taken : List Token) (v w : Token) (bits : List Token) → v ∷ bits ≡ taken ++ w ∷ [] → (taken ≡ lag v bits) × (last_of v bits ≡ w)
lagged [] v w [] e = (refl, (let k : v ∷ [] ≡ w ∷ [] = e in cc))
lagged [] v w (g ∷ bits) e = let k : v ∷ g ∷ bits ≡ w ∷ [] = e in cc
lagged (x ∷ taken) v w [] e = let k : v ∷ [] ≡ x ∷ (taken ++ w ∷ []) = e in let j : [] ≡ taken ++ w ∷ [] = cc in absurd (not_empty taken w j)
lagged (x ∷ taken) v w (g ∷ bits) e =
    let k : v ∷ g ∷ bits ≡ x ∷ (taken ++ w ∷ []) = e in
    let first : v ≡ x = cc in
    let others : g ∷ bits ≡ taken ++ w ∷ [] = cc in
    let (a, b) = lagged taken g w bits others in
    ((λ i. sym first i ∷ a i), b)

-- the nodes of a body take one token of each input and give one at each output
many_in : (vs : List Token) (bs : List Shape) (i : ℕ) (b : Shape) → length vs ≡ length bs → port_get bs i ≡ Some b → (v : Token) × (at_port (map one vs) i ≡ one v)
many_in vs [] i b e p = let z : None ≡ Some b = p in cc
many_in [] (a ∷ bs) i b e p = cc
many_in (v ∷ vs) (a ∷ bs) zero b e p = let z : None ≡ Some b = p in cc
many_in (v ∷ vs) (a ∷ bs) (suc zero) b e p = (v, refl)
many_in (v ∷ vs) (a ∷ bs) (suc (suc i)) b e p = many_in vs bs (suc i) b (omega (arith, e)) p

cut_out : (vs : List Token) (bs : List Shape) (i : ℕ) (b : Shape) → FitEach bs vs → port_get bs i ≡ Some b → (v : Token) × (at_port (map one vs) i ≡ one v)
cut_out vs [] i b h p = let z : None ≡ Some b = p in cc
cut_out [] (a ∷ bs) i b h p = absurd h
cut_out (v ∷ vs) (a ∷ bs) zero b h p = let z : None ≡ Some b = p in cc
cut_out (v ∷ vs) (a ∷ bs) (suc zero) b h p = (v, refl)
cut_out (v ∷ vs) (a ∷ bs) (suc (suc i)) b h p = cut_out vs bs (suc i) b h.1 p

fields_in : (xs ws : List ℕ) (i : ℕ) (b : Shape) → length xs ≡ length ws → port_get (map field ws) i ≡ Some b → (v : Token) × (at_port (map (λ x. one (x ∷ [])) xs) i ≡ one v)
fields_in xs [] i b e p = let z : None ≡ Some b = p in cc
fields_in [] (w ∷ ws) i b e p = cc
fields_in (x ∷ xs) (w ∷ ws) zero b e p = let z : None ≡ Some b = p in cc
fields_in (x ∷ xs) (w ∷ ws) (suc zero) b e p = (x ∷ [], refl)
fields_in (x ∷ xs) (w ∷ ws) (suc (suc i)) b e p = fields_in xs ws (suc i) b (omega (arith, e)) p

pub one_in : (k : Kind) → IsSteady k → (i : ℕ) (b : Shape) → port_get (ins k) i ≡ Some b → (a : Act) → Does k a → (v : Token) × (at_port a.taken i ≡ one v)
one_in (Buffer s) h i b p a d = let (v, z, et, eg, en) = d.fires in (v, (λ j. at_port (et j) i) ∙ single_at s b v i p)
one_in (Fork s n) h i b p a d = let (v, z, et, eg, en) = d.fires in (v, (λ j. at_port (et j) i) ∙ single_at s b v i p)
one_in (Join bs) h i b p a d =
    let (vs, z, el, et, eg, en) = d.fires in let (v, e) = many_in vs bs i b el p in (v, (λ j. at_port (et j) i) ∙ e)
one_in (Split bs) h i b p a d = let (vs, z, el, et, eg, en) = d.fires in (_, (λ j. at_port (et j) i) ∙ single_at _ b _ i p)
one_in (Sink0 s) h i b p a d = let (v, z, et, eg, en) = d.fires in (v, (λ j. at_port (et j) i) ∙ single_at s b v i p)
one_in (Source0 s) h i b p a d = let z : None ≡ Some b = p in cc
one_in (Constant s w n) h i b p a d = let (v, z, et, eg, en) = d.fires in (v, (λ j. at_port (et j) i) ∙ single_at s b v i p)
one_in (Pure f s) h i b p a d = let (v, z, et, eg, en) = d.fires in (v, (λ j. at_port (et j) i) ∙ single_at f.input b v i p)
one_in (Operator o ws w) h i b p a d =
    let (xs, z, el, et, eg, en) = d.fires in let (v, e) = fields_in xs ws i b el p in (v, (λ j. at_port (et j) i) ∙ e)
one_in _ h i b p a d = absurd h

pub one_out : (k : Kind) → IsSteady k → (i : ℕ) (b : Shape) → port_get (outs k) i ≡ Some b → (a : Act) → Does k a → (v : Token) × (at_port a.given i ≡ one v)
one_out (Buffer s) h i b p a d = let (v, z, et, eg, en) = d.fires in (v, (λ j. at_port (eg j) i) ∙ single_at s b v i p)
one_out (Fork s n) h i b p a d = let (v, z, et, eg, en) = d.fires in (v, (λ j. at_port (eg j) i) ∙ fork_port n s b v i p)
one_out (Join bs) h i b p a d = let (vs, z, el, et, eg, en) = d.fires in (_, (λ j. at_port (eg j) i) ∙ single_at _ b _ i p)
one_out (Split bs) h i b p a d =
    let (vs, z, el, et, eg, en) = d.fires in let (v, e) = cut_out vs bs i b el p in (v, (λ j. at_port (eg j) i) ∙ e)
one_out (Sink0 s) h i b p a d = let z : None ≡ Some b = p in cc
one_out (Source0 s) h i b p a d = let (z, et, eg, en) = d.fires in (_, (λ j. at_port (eg j) i) ∙ single_at s b _ i p)
one_out (Constant s w n) h i b p a d = let (v, z, et, eg, en) = d.fires in (_, (λ j. at_port (eg j) i) ∙ single_at (w ∷ []) b _ i p)
one_out (Pure f s) h i b p a d = let (v, z, et, eg, en) = d.fires in (_, (λ j. at_port (eg j) i) ∙ single_at s b _ i p)
one_out (Operator o ws w) h i b p a d = let (xs, z, el, et, eg, en) = d.fires in (_, (λ j. at_port (eg j) i) ∙ single_at (w ∷ []) b _ i p)
one_out _ h i b p a d = absurd h

-- such a firing is one without slots
pub cleaned : (k : Kind) → IsSteady k → (a : Act) → Does k a → Fires k 0 [] a.taken a.given []
cleaned (Buffer s) h a d = let (v, z, et, eg, en) = d.fires in (v, refl, et, eg, refl)
cleaned (Fork s n) h a d = let (v, z, et, eg, en) = d.fires in (v, refl, et, eg, refl)
cleaned (Join bs) h a d = let (vs, z, el, et, eg, en) = d.fires in (vs, refl, el, et, eg, refl)
cleaned (Split bs) h a d = let (vs, z, el, et, eg, en) = d.fires in (vs, refl, el, et, eg, refl)
cleaned (Sink0 s) h a d = let (v, z, et, eg, en) = d.fires in (v, refl, et, eg, refl)
cleaned (Source0 s) h a d = let (z, et, eg, en) = d.fires in (refl, et, eg, refl)
cleaned (Constant s w n) h a d = let (v, z, et, eg, en) = d.fires in (v, refl, et, eg, refl)
cleaned (Pure f s) h a d = let (v, z, et, eg, en) = d.fires in (v, refl, et, eg, refl)
cleaned (Operator o ws w) h a d = let (xs, z, el, et, eg, en) = d.fires in (xs, refl, el, et, eg, refl)
cleaned _ h a d = absurd h

pub takes_length : (k : Kind) → IsSteady k → (i : ℕ) (b : Shape) → port_get (ins k) i ≡ Some b → (acts : List Act) → AllByRecursion (Does k) acts → length (takes_at i acts) ≡ length acts
takes_length k h i b p [] d = refl
takes_length k h i b p (a ∷ acts) d =
    let (v, e) = one_in k h i b p a d.0 in ap (λ z. length (z ++ takes_at i acts)) e ∙ ap suc (takes_length k h i b p acts d.1)

pub gives_length : (k : Kind) → IsSteady k → (i : ℕ) (b : Shape) → port_get (outs k) i ≡ Some b → (acts : List Act) → AllByRecursion (Does k) acts → length (gives_at i acts) ≡ length acts
gives_length k h i b p [] d = refl
gives_length k h i b p (a ∷ acts) d =
    let (v, e) = one_out k h i b p a d.0 in ap (λ z. length (z ++ gives_at i acts)) e ∙ ap suc (gives_length k h i b p acts d.1)
