-- what one firing of a steady kind takes and gives
use Rattle.std.proofs.Common.{◌≡◌, ℕ, zero, suc, ◌^◌, ◌%◌, refl, sym, ap, subst, ◌∙◌, List, [], ◌∷◌, ◌++◌, Some, None, map, length, replicate, arith}
use Rattle.body_laws.specs.Bodies.{IsSteady}
use Rattle.circuits.proofs.Sides.{port_zero}
use Rattle.circuits.specs.CircuitState.{Slot}
use Rattle.circuits.specs.Firing.{Fires, FitEach}
use Rattle.circuits.specs.PortTokens.{Token, at_port, one}
use Rattle.components.specs.Kind.{Shape, ins, outs, field}
use Rattle.components.specs.Name.{port_get}
use Rattle.components.specs.declared.kind.Kind.{Kind}
use Rattle.components.specs.declared.kind.Kind.TheVariants.{Buffer, Fork, Join, Split, Sink0, Source0, Constant, Pure, Operator}
use Rattle.fun_expr.specs.Function.{fun_value}
use Rattle.op_table.specs.Value.{op_value}
use Rattle.port_types.specs.Token.{Fits}
use Rattle.std.proofs.lemmas.Option.{same_Some}
use Rattle.std.specs.List.{concat, zip}
use Rattle.body_laws.proofs.Tokens.{fits_append, rem_fit, zeros_fit, operator_fits, Good}

-- equal tokens, one at each port
one_inj : (v w : Token) → one v ≡ one w → v ≡ w
one_inj v w e = cc

pub ones_inj : (vs ws : List Token) → map one vs ≡ map one ws → vs ≡ ws
ones_inj [] [] e = refl
ones_inj [] (w ∷ ws) e = cc
ones_inj (v ∷ vs) [] e = cc
ones_inj (v ∷ vs) (w ∷ ws) e =
    let head : one v ≡ one w = let k : one v ∷ map one vs ≡ one w ∷ map one ws = e in cc in
    let tails : map one vs ≡ map one ws = let k : one v ∷ map one vs ≡ one w ∷ map one ws = e in cc in
    λ i. one_inj v w head i ∷ ones_inj vs ws tails i

fields_inj : (xs ys : List ℕ) → map (λ x. one (x ∷ [])) xs ≡ map (λ x. one (x ∷ [])) ys → xs ≡ ys
fields_inj [] [] e = refl
fields_inj [] (y ∷ ys) e = cc
fields_inj (x ∷ xs) [] e = cc
fields_inj (x ∷ xs) (y ∷ ys) e =
    let k : one (x ∷ []) ∷ map (λ x. one (x ∷ [])) xs ≡ one (y ∷ []) ∷ map (λ x. one (x ∷ [])) ys = e in
    let head : one (x ∷ []) ≡ one (y ∷ []) = cc in
    let same : x ≡ y = cc in
    let tails : map (λ x. one (x ∷ [])) xs ≡ map (λ x. one (x ∷ [])) ys = cc in
    λ i. same i ∷ fields_inj xs ys tails i

-- a fitting token is cut in one way
pub cut_same : (a : Shape) (v w r s : Token) → Fits a v → Fits a w → v ++ r ≡ w ++ s → (v ≡ w) × (r ≡ s)
cut_same [] [] [] r s h k e = (refl, e)
cut_same [] [] (y ∷ w) r s h k e = absurd k
cut_same [] (x ∷ v) w r s h k e = absurd h
cut_same (n ∷ a) [] w r s h k e = absurd h
cut_same (n ∷ a) (x ∷ v) [] r s h k e = absurd k
cut_same (n ∷ a) (x ∷ v) (y ∷ w) r s h k e =
    let g : x ∷ (v ++ r) ≡ y ∷ (w ++ s) = e in
    let same : x ≡ y = cc in
    let tails : v ++ r ≡ w ++ s = cc in
    let (vw, rs) = cut_same a v w r s h.1 k.1 tails in
    ((λ i. same i ∷ vw i), rs)

pub parts_same : (bs : List Shape) (vs ws : List Token) → FitEach bs vs → FitEach bs ws → concat vs ≡ concat ws → vs ≡ ws
parts_same [] [] [] h k e = refl
parts_same [] [] (w ∷ ws) h k e = absurd k
parts_same [] (v ∷ vs) ws h k e = absurd h
parts_same (b ∷ bs) [] ws h k e = absurd h
parts_same (b ∷ bs) (v ∷ vs) [] h k e = absurd k
parts_same (b ∷ bs) (v ∷ vs) (w ∷ ws) h k e =
    let (vw, rest) = cut_same b v w (concat vs) (concat ws) h.0 k.0 e in
    let tails = parts_same bs vs ws h.1 k.1 rest in
    λ i. vw i ∷ tails i

-- the same tokens taken, the same given
pub same_given : (k : Kind) (c d : ℕ) (old old' new new' : List Slot) (taken given given' : List (List Token)) → IsSteady k → Fires k c old taken given new → Fires k d old' taken given' new' → given ≡ given'
same_given (Buffer a) c d old old' new new' taken given given' h (v, ec, et, eg, en) (w, fc, ft, fg, fn) =
    let e : one v ∷ [] ≡ one w ∷ [] = sym et ∙ ft in eg ∙ e ∙ sym fg
same_given (Fork a n) c d old old' new new' taken given given' h (v, ec, et, eg, en) (w, fc, ft, fg, fn) =
    let e : one v ∷ [] ≡ one w ∷ [] = sym et ∙ ft in
    let is : v ≡ w = cc in
    eg ∙ ap (λ z. replicate n (one z)) is ∙ sym fg
same_given (Join bs) c d old old' new new' taken given given' h (vs, ec, el, et, eg, en) (ws, fc, fl, ft, fg, fn) =
    eg ∙ ap (λ z. one (concat z) ∷ []) (ones_inj vs ws (sym et ∙ ft)) ∙ sym fg
same_given (Split bs) c d old old' new new' taken given given' h (vs, ec, ef, et, eg, en) (ws, fc, ff, ft, fg, fn) =
    let e : one (concat vs) ∷ [] ≡ one (concat ws) ∷ [] = sym et ∙ ft in
    let is : concat vs ≡ concat ws = cc in
    eg ∙ ap (map one) (parts_same bs vs ws ef ff is) ∙ sym fg
same_given (Sink0 a) c d old old' new new' taken given given' h (v, ec, et, eg, en) (w, fc, ft, fg, fn) = eg ∙ sym fg
same_given (Source0 a) c d old old' new new' taken given given' h (ec, et, eg, en) (fc, ft, fg, fn) = eg ∙ sym fg
same_given (Constant a w v) c d old old' new new' taken given given' h (x, ec, et, eg, en) (y, fc, ft, fg, fn) = eg ∙ sym fg
same_given (Pure f b) c d old old' new new' taken given given' h (v, ec, et, eg, en) (w, fc, ft, fg, fn) =
    let e : one v ∷ [] ≡ one w ∷ [] = sym et ∙ ft in
    let is : v ≡ w = cc in
    eg ∙ ap (λ z. one (fun_value f z) ∷ []) is ∙ sym fg
same_given (Operator o ws w) c d old old' new new' taken given given' h (xs, ec, el, et, eg, en) (ys, fc, fl, ft, fg, fn) =
    eg ∙ ap (λ z. one (op_value o (zip ws z) w ∷ []) ∷ []) (fields_inj xs ys (sym et ∙ ft)) ∙ sym fg
same_given _ c d old old' new new' taken given given' h x y = absurd h

-- a firing takes one token of each input and gives one at each output
pub record OneEach (k : Kind) (c : ℕ) (old : List Slot) (taken given : List (List Token)) (new : List Slot) : Type 0 where
  pub choice : c ≡ 0
  pub still : new ≡ old
  pub vs : List Token
  pub is_taken : taken ≡ map one vs
  pub as_ins : length vs ≡ length (ins k)
  pub ws : List Token
  pub is_given : given ≡ map one ws
  pub as_outs : length ws ≡ length (outs k)

pub map_replicate : (n : ℕ) (v : Token) → replicate n (one v) ≡ map one (replicate n v)
map_replicate zero v = refl
map_replicate (suc n) v = ap (λ z. one v ∷ z) (map_replicate n v)

length_copies : {A B : Type 0} (n : ℕ) (x : A) (y : B) → length (replicate n x) ≡ length (replicate n y)
length_copies zero x y = refl
length_copies (suc n) x y = ap suc (length_copies n x y)

length_fields : (xs ws : List ℕ) → length xs ≡ length ws → length (map field xs) ≡ length (map field ws)
length_fields [] [] e = refl
length_fields [] (w ∷ ws) e = cc
length_fields (x ∷ xs) [] e = cc
length_fields (x ∷ xs) (w ∷ ws) e = ap suc (length_fields xs ws (omega (arith, e)))

ones_fields : (xs : List ℕ) → map (λ x. one (x ∷ [])) xs ≡ map one (map field xs)
ones_fields [] = refl
ones_fields (x ∷ xs) = ap (λ z. one (x ∷ []) ∷ z) (ones_fields xs)

pub each_length : (bs : List Shape) (vs : List Token) → FitEach bs vs → length vs ≡ length bs
each_length [] [] h = refl
each_length [] (v ∷ vs) h = absurd h
each_length (b ∷ bs) [] h = absurd h
each_length (b ∷ bs) (v ∷ vs) h = ap suc (each_length bs vs h.1)

pub one_each : (k : Kind) (c : ℕ) (old : List Slot) (taken given : List (List Token)) (new : List Slot) → IsSteady k → Fires k c old taken given new → OneEach k c old taken given new
one_each (Buffer a) c old taken given new h (v, ec, et, eg, en) =
    record { choice = ec; still = en; vs = v ∷ []; is_taken = et; as_ins = refl; ws = v ∷ []; is_given = eg; as_outs = refl }
one_each (Fork a n) c old taken given new h (v, ec, et, eg, en) =
    record { choice = ec; still = en; vs = v ∷ []; is_taken = et; as_ins = refl; ws = replicate n v; is_given = eg ∙ map_replicate n v; as_outs = length_copies n v a }
one_each (Join bs) c old taken given new h (vs, ec, el, et, eg, en) =
    record { choice = ec; still = en; vs = vs; is_taken = et; as_ins = el; ws = concat vs ∷ []; is_given = eg; as_outs = refl }
one_each (Split bs) c old taken given new h (vs, ec, ef, et, eg, en) =
    record { choice = ec; still = en; vs = concat vs ∷ []; is_taken = et; as_ins = refl; ws = vs; is_given = eg; as_outs = each_length bs vs ef }
one_each (Sink0 a) c old taken given new h (v, ec, et, eg, en) =
    record { choice = ec; still = en; vs = v ∷ []; is_taken = et; as_ins = refl; ws = []; is_given = eg; as_outs = refl }
one_each (Source0 a) c old taken given new h (ec, et, eg, en) =
    record { choice = ec; still = en; vs = []; is_taken = et; as_ins = refl; ws = map (λ w. 0) a ∷ []; is_given = eg; as_outs = refl }
one_each (Constant a w v) c old taken given new h (x, ec, et, eg, en) =
    record { choice = ec; still = en; vs = x ∷ []; is_taken = et; as_ins = refl; ws = (v % 2 ^ w ∷ []) ∷ []; is_given = eg; as_outs = refl }
one_each (Pure f b) c old taken given new h (v, ec, et, eg, en) =
    record { choice = ec; still = en; vs = v ∷ []; is_taken = et; as_ins = refl; ws = fun_value f v ∷ []; is_given = eg; as_outs = refl }
one_each (Operator o ws w) c old taken given new h (xs, ec, el, et, eg, en) =
    record {
      choice = ec;
      still = en;
      vs = map field xs;
      is_taken = et ∙ ones_fields xs;
      as_ins = length_fields xs ws el;
      ws = (op_value o (zip ws xs) w ∷ []) ∷ [];
      is_given = eg;
      as_outs = refl;
    }
one_each _ c old taken given new h x = absurd h

-- a steady kind keeps no slots
pub any_slots : (k : Kind) (c : ℕ) (old new any : List Slot) (taken given : List (List Token)) → IsSteady k → Fires k c old taken given new → Fires k c any taken given any
any_slots (Buffer a) c old new any taken given h (v, ec, et, eg, en) = (v, ec, et, eg, refl)
any_slots (Fork a n) c old new any taken given h (v, ec, et, eg, en) = (v, ec, et, eg, refl)
any_slots (Join bs) c old new any taken given h (vs, ec, el, et, eg, en) = (vs, ec, el, et, eg, refl)
any_slots (Split bs) c old new any taken given h (vs, ec, ef, et, eg, en) = (vs, ec, ef, et, eg, refl)
any_slots (Sink0 a) c old new any taken given h (v, ec, et, eg, en) = (v, ec, et, eg, refl)
any_slots (Source0 a) c old new any taken given h (ec, et, eg, en) = (ec, et, eg, refl)
any_slots (Constant a w v) c old new any taken given h (x, ec, et, eg, en) = (x, ec, et, eg, refl)
any_slots (Pure f b) c old new any taken given h (v, ec, et, eg, en) = (v, ec, et, eg, refl)
any_slots (Operator o ws w) c old new any taken given h (xs, ec, el, et, eg, en) = (xs, ec, el, et, eg, refl)
any_slots _ c old new any taken given h x = absurd h

-- what a steady kind can fire on: any fitting tokens
pub record CanFire (k : Kind) (vs : List Token) : Type 0 where
  pub ws : List Token
  pub fit : FitEach (outs k) ws
  pub fires : Fires k 0 [] (map one vs) (map one ws) []

copies_fit : (n : ℕ) (a : Shape) (v : Token) → Fits a v → FitEach (replicate n a) (replicate n v)
copies_fit zero a v h = tt
copies_fit (suc n) a v h = (h, copies_fit n a v h)

pub joined_fits : (bs : List Shape) (vs : List Token) → FitEach bs vs → Fits (concat bs) (concat vs)
joined_fits [] [] h = tt
joined_fits [] (v ∷ vs) h = absurd h
joined_fits (b ∷ bs) [] h = absurd h
joined_fits (b ∷ bs) (v ∷ vs) h = fits_append b (concat bs) v (concat vs) h.0 (joined_fits bs vs h.1)

cut_token : (a : Shape) (b : Shape) (v : Token) → Fits (a ++ b) v → (x y : Token) × Fits a x × Fits b y × (x ++ y ≡ v)
cut_token [] b v h = ([], v, tt, h, refl)
cut_token (w ∷ a) b [] h = absurd h
cut_token (w ∷ a) b (n ∷ v) h = let (x, y, hx, hy, e) = cut_token a b v h.1 in (n ∷ x, y, (h.0, hx), hy, ap (λ z. n ∷ z) e)

pub cut_all : (cs : List Shape) (v : Token) → Fits (concat cs) v → (vs : List Token) × FitEach cs vs × (concat vs ≡ v)
cut_all [] [] h = ([], tt, refl)
cut_all [] (n ∷ v) h = absurd h
cut_all (a ∷ cs) v h =
    let (x, y, hx, hy, e) = cut_token a (concat cs) v h in
    let (vs, each, f) = cut_all cs y hy in
    (x ∷ vs, (hx, each), ap (λ z. x ++ z) f ∙ e)

-- tokens of one field each are fields
record FieldsOf (ws : List ℕ) (vs : List Token) : Type 0 where
  xs : List ℕ
  is : vs ≡ map field xs
  fit : Fits ws xs
  size : length xs ≡ length ws

fields_of : (ws : List ℕ) (vs : List Token) → FitEach (map field ws) vs → FieldsOf ws vs
fields_of [] [] h = record { xs = []; is = refl; fit = tt; size = refl }
fields_of [] (v ∷ vs) h = absurd h
fields_of (w ∷ ws) [] h = absurd h
fields_of (w ∷ ws) ([] ∷ vs) h = absurd h.0
fields_of (w ∷ ws) ((x ∷ []) ∷ vs) h =
    let go = fields_of ws vs h.1 in
    record { xs = x ∷ go.xs; is = ap (λ z. (x ∷ []) ∷ z) go.is; fit = (h.0.0, go.fit); size = ap suc go.size }
fields_of (w ∷ ws) ((x ∷ y ∷ v) ∷ vs) h = absurd h.0.1

pub can_fire : (k : Kind) (vs : List Token) → IsSteady k → Good k → FitEach (ins k) vs → CanFire k vs
can_fire (Buffer a) (v ∷ []) h ok fit = record { ws = v ∷ []; fit = (fit.0, tt); fires = (v, refl, refl, refl, refl) }
can_fire (Fork a n) (v ∷ []) h ok fit =
    record { ws = replicate n v; fit = copies_fit n a v fit.0; fires = (v, refl, refl, sym (map_replicate n v), refl) }
can_fire (Join bs) vs h ok fit =
    record { ws = concat vs ∷ []; fit = (joined_fits bs vs fit, tt); fires = (vs, refl, each_length bs vs fit, refl, refl, refl) }
can_fire (Split bs) (v ∷ []) h ok fit =
    let (vs, each, is) = cut_all bs v fit.0 in
    record { ws = vs; fit = each; fires = (vs, refl, each, ap (λ z. one z ∷ []) (sym is), refl, refl) }
can_fire (Sink0 a) (v ∷ []) h ok fit = record { ws = []; fit = tt; fires = (v, refl, refl, refl, refl) }
can_fire (Source0 a) [] h ok fit = record { ws = map (λ w. 0) a ∷ []; fit = (zeros_fit a, tt); fires = (refl, refl, refl, refl) }
can_fire (Constant a w v) (x ∷ []) h ok fit =
    record { ws = (v % 2 ^ w ∷ []) ∷ []; fit = ((rem_fit v w, tt), tt); fires = (x, refl, refl, refl, refl) }
can_fire (Pure f b) (v ∷ []) h ok fit = record { ws = fun_value f v ∷ []; fit = (subst (λ s. Fits s (fun_value f v)) ok.row.2 (ok.values.functions f v ok.row.1 fit.0), tt); fires = (v, refl, refl, refl, refl) }
can_fire (Operator o ws w) vs h ok fit =
    let fs = fields_of ws vs fit in
    record {
      ws = (op_value o (zip ws fs.xs) w ∷ []) ∷ [];
      fit = ((operator_fits ok.values o ws fs.xs w ok.row fs.size fs.fit, tt), tt);
      fires = (fs.xs, refl, fs.size, ap (map one) fs.is ∙ sym (ones_fields fs.xs), refl, refl);
    }
can_fire (Buffer a) [] h ok fit = absurd fit
can_fire (Buffer a) (v ∷ w ∷ vs) h ok fit = absurd fit.1
can_fire (Fork a n) [] h ok fit = absurd fit
can_fire (Fork a n) (v ∷ w ∷ vs) h ok fit = absurd fit.1
can_fire (Split bs) [] h ok fit = absurd fit
can_fire (Split bs) (v ∷ w ∷ vs) h ok fit = absurd fit.1
can_fire (Sink0 a) [] h ok fit = absurd fit
can_fire (Sink0 a) (v ∷ w ∷ vs) h ok fit = absurd fit.1
can_fire (Source0 a) (v ∷ vs) h ok fit = absurd fit
can_fire (Constant a w v) [] h ok fit = absurd fit
can_fire (Constant a w v) (x ∷ y ∷ vs) h ok fit = absurd fit.1
can_fire (Pure f b) [] h ok fit = absurd fit
can_fire (Pure f b) (v ∷ w ∷ vs) h ok fit = absurd fit.1
can_fire _ vs h ok fit = absurd h

-- what stands at a port
pub port_one : (vs : List Token) (i : ℕ) (v : Token) → port_get vs i ≡ Some v → at_port (map one vs) i ≡ one v
port_one [] i v e = let k : None ≡ Some v = e in cc
port_one (w ∷ vs) zero v e = let k : None ≡ Some v = e in cc
port_one (w ∷ vs) (suc zero) v e = ap one (same_Some w v e)
port_one (w ∷ vs) (suc (suc i)) v e = port_one vs (suc i) v e

pub port_none : (vs : List Token) (i : ℕ) → port_get vs i ≡ None → at_port (map one vs) i ≡ []
port_none [] i e = refl
port_none (w ∷ vs) zero e = refl
port_none (w ∷ vs) (suc zero) e = let k : Some w ≡ None = e in cc
port_none (w ∷ vs) (suc (suc i)) e = port_none vs (suc i) e

pub same_ports : {A B : Type 0} (xs : List A) (ys : List B) (i : ℕ) (x : A) → length xs ≡ length ys → port_get xs i ≡ Some x → (y : B) × (port_get ys i ≡ Some y)
same_ports [] ys i x e f = let k : None ≡ Some x = f in cc
same_ports (z ∷ xs) [] i x e f = cc
same_ports (z ∷ xs) (y ∷ ys) zero x e f = let k : None ≡ Some x = f in cc
same_ports (z ∷ xs) (y ∷ ys) (suc zero) x e f = (y, refl)
same_ports (z ∷ xs) (y ∷ ys) (suc (suc i)) x e f = same_ports xs ys (suc i) x (omega (arith, e)) f

-- tokens that agree at each port are the same
pub by_port : (vs ws : List Token) → length vs ≡ length ws → ((i : ℕ) (v : Token) → port_get vs i ≡ Some v → port_get ws i ≡ Some v) → vs ≡ ws
by_port [] [] e h = refl
by_port [] (w ∷ ws) e h = cc
by_port (v ∷ vs) [] e h = cc
by_port (v ∷ vs) (w ∷ ws) e h =
    let head : w ≡ v = same_Some w v (h 1 v refl) in
    let tails : vs ≡ ws = by_port vs ws (omega (arith, e)) (λ i u f. further i u f) in
    λ i. sym head i ∷ tails i
  where
    further : (i : ℕ) (u : Token) → port_get vs i ≡ Some u → port_get ws i ≡ Some u
    further zero u f = absurd (let k : None ≡ Some u = sym (port_zero vs) ∙ f in let z : ⊥ = cc in z)
    further (suc i) u f = h (suc (suc i)) u f
