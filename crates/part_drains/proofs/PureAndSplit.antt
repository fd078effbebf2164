-- A Pure and the Split behind it replaced by a part that drains what they drain, on cycles too.
use Rattle.std.proofs.Common.{◌≡◌, ◌≢◌, ℕ, zero, suc, inl, inr, refl, sym, ap, subst, ◌∙◌, true, false, Bool, bytes_eq, if◌then◌else◌, map, List, [], ◌∷◌, ◌++◌, Option, Some, None, arith, append-nil, append_assoc}
use Rattle.port_types.specs.Token.{Fits}
use Rattle.components.specs.Kind.{Shape, ins, outs}
use Rattle.components.specs.Name.{Name, Port, port_get}
use Rattle.components.specs.declared.kind.Kind.TheVariants.{Entry, Init, Pure, Split}
use Rattle.fun_expr.specs.Function.{fun_value}
use Rattle.circuits.specs.PortTokens.{Token, at_port, share, share_from, one}
use Rattle.std.specs.List.{concat, AllByRecursion}
use Rattle.circuits.specs.Firing.{Label.Fire}
use Rattle.circuits.specs.Values.{ValuesFit}
use Rattle.circuits.specs.CircuitState.{CircuitState, IsStateOf, start, initial}
use Rattle.circuits.specs.Circuit.{Circuit, Typed, kind_of}
use Rattle.circuits.specs.Refines.{SamePorts}
use Rattle.circuits.specs.Run.{Step, Firing, Firings}
use Rattle.circuits.specs.Root.{PassesThrough}
use Rattle.circuits.specs.Drains.{put_by, put_on, loaded}
use Rattle.circuits.specs.Replacing.{is_inner, IsPart, IsNew, replaced}
use Rattle.circuits.proofs.Names.{name_cases}
use Rattle.components.specs.Orders.{same_bytes, other_bytes}
use Rattle.circuits.proofs.Steps.{acts_at, share_other, share_same}
use Rattle.circuits.proofs.Lists.{each_append}
use Rattle.circuits.proofs.Fitting.{step_fits}
use Rattle.circuits.proofs.Simulation.{firings_then}
use Rattle.std.proofs.lemmas.Option.{same_Some}
use Rattle.part_drains.specs.Part.{inside, HasNoInit}
use Rattle.part_drains.specs.SingleNodes.{IsPureAndSplit}
use Rattle.part_drains.proofs.Sorts.{port_of}
use Rattle.part_drains.proofs.Draining.{InitBehind, InitBehind.init, InitBehind.past, DrainsTo, HoldsRestBy, InputsFit, KeepsDrainsTo, start_at, led_comes}
use Rattle.part_drains.proofs.Untouched.{FiresIn, all_fire}
use Rattle.part_drains.proofs.PartInside.{listed, enters, source_of}
use Rattle.part_drains.proofs.PartPlace.{clash, entry_from}
use Rattle.part_drains.proofs.PartStates.{by_entry, is_by_entry, loaded_fits}
use Rattle.part_drains.proofs.PartDrains.{h, fires_outside}
use Rattle.part_drains.proofs.BlockRuns.{AtRest, em, block_firings, block_runs, outside_runs, em_drains}
use Rattle.part_drains.proofs.OneNode.{unfed_stays, slots_stay, unfed_in}

zero_not_one : zero ≡ suc zero → ⊥
zero_not_one z = cc

more_not_one : (i : ℕ) → suc (suc i) ≡ suc zero → ⊥
more_not_one i z = omega (arith, z)

-- more tokens before port 1, and none there
up : List Token → List Token → ℕ → List Token
up pre ys zero = ys
up pre ys (suc zero) = pre ++ ys
up pre ys (suc (suc i)) = ys

down : List Token → List Token → ℕ → List Token
down new ys zero = ys
down new ys (suc zero) = new
down new ys (suc (suc i)) = ys

up_more : (pre xs ys : List Token) (i : ℕ) → up pre (xs ++ ys) i ≡ up pre xs i ++ ys
unfolding up
up_more pre xs ys zero = refl
up_more pre xs ys (suc zero) = sym (append_assoc pre xs ys)
up_more pre xs ys (suc (suc i)) = refl

up_take : (x : Token) (pre ys : List Token) (i : ℕ) → up (x ∷ pre) ys i ≡ at_port (one x ∷ []) i ++ up pre ys i
unfolding up
up_take x pre ys zero = refl
up_take x pre ys (suc zero) = refl
up_take x pre ys (suc (suc i)) = refl

up_shift : (pre : List Token) (x : Token) (ys zs : List Token) (i : ℕ) → zs ≡ at_port (one x ∷ []) i ++ ys → up pre zs i ≡ up (pre ++ x ∷ []) ys i
unfolding up
up_shift pre x ys zs zero e = e
up_shift pre x ys zs (suc zero) e = ap (λ z. pre ++ z) e ∙ sym (append_assoc pre (x ∷ []) ys)
up_shift pre x ys zs (suc (suc i)) e = e

up_none : (ys : List Token) (i : ℕ) → up [] ys i ≡ ys
unfolding up
up_none ys zero = refl
up_none ys (suc zero) = refl
up_none ys (suc (suc i)) = refl

down_more : (xs ys : List Token) (i : ℕ) → (i ≡ 1 → ys ≡ []) → down [] (xs ++ ys) i ≡ down [] xs i ++ ys
unfolding down
down_more xs ys zero e = refl
down_more xs ys (suc zero) e = sym (e refl)
down_more xs ys (suc (suc i)) e = refl

-- what the Split takes of one token waiting at port 1
down_take : (v : Token) (xs zs : List Token) (i : ℕ) → zs ≡ at_port (one v ∷ []) i ++ xs → down (one v) zs i ≡ at_port (one v ∷ []) i ++ down [] xs i
unfolding down
down_take v xs zs zero e = e
down_take v xs zs (suc zero) e = refl
down_take v xs zs (suc (suc i)) e = e

down_same : (ys : List Token) (i : ℕ) → (i ≡ 1 → ys ≡ []) → down [] ys i ≡ ys
unfolding down
down_same ys zero e = refl
down_same ys (suc zero) e = sym (e refl)
down_same ys (suc (suc i)) e = refl

first_of_map : (f : Token → Token) (pre : List Token) (v : Token) (rest : List Token) → map f pre ≡ v ∷ rest → (x : Token) × (more : List Token) × (pre ≡ x ∷ more) × (f x ≡ v) × (map f more ≡ rest)
first_of_map f [] v rest e = let k : [] ≡ v ∷ rest = e in cc
first_of_map f (x ∷ pre) v rest e = let k : f x ∷ map f pre ≡ v ∷ rest = e in (x, pre, refl, (let y : f x ≡ v = cc in y), (let y : map f pre ≡ rest = cc in y))

map_end : (f : Token → Token) (pre : List Token) (x : Token) → map f pre ++ f x ∷ [] ≡ map f (pre ++ x ∷ [])
map_end f [] x = refl
map_end f (y ∷ pre) x = ap (λ z. f y ∷ z) (map_end f pre x)

none_mapped : (f : Token → Token) (pre : List Token) → map f pre ≡ [] → pre ≡ []
none_mapped f [] e = refl
none_mapped f (x ∷ pre) e = let k : f x ∷ map f pre ≡ [] = e in cc

module _ (values : ValuesFit) (g left right : Circuit) (target : Port → Option Port) (pt : IsPart g left target) (tr : Typed right) (ports : SamePorts right left) (new : IsNew g left right) (hl : HoldsRestBy left) (hr : HoldsRestBy right) (nl : HasNoInit left) (nr : HasNoInit right) (keep : KeepsDrainsTo left right) (a b : Name) (two : IsPureAndSplit left a b) where
  abbrev H : Circuit
  H = h g left right target pt tr ports new hl hr

  abbrev E : CircuitState → CircuitState
  E = em g left right target pt tr ports new hl hr nl nr keep

  abbrev f : Token → Token
  f = fun_value two.function

  a_inside : inside left a ≡ true
  a_inside = ap is_inner two.is_pure

  b_inside : inside left b ≡ true
  b_inside = ap is_inner two.is_split

  a_kind : g.kind_at a ≡ Some (Pure two.function two.shape)
  a_kind = pt.nodes a (Pure two.function two.shape) two.is_pure refl

  b_kind : g.kind_at b ≡ Some (Split two.parts)
  b_kind = pt.nodes b (Split two.parts) two.is_split refl

  a_not_b : a ≢ b
  a_not_b e = let z : Pure two.function two.shape ≡ Split two.parts = same_Some (Pure two.function two.shape) (Split two.parts) (sym a_kind ∙ ap g.kind_at e ∙ b_kind) in cc

  link : g.feeder (port_of b 1) ≡ Some (port_of a 1)
  link = (pt.wires (port_of b 1) (port_of a 1) b_inside a_inside).1 two.link

  port_one : (s w : Shape) (i : ℕ) → port_get (s ∷ []) i ≡ Some w → i ≡ 1
  port_one s w zero e = let z : None ≡ Some w = e in cc
  port_one s w (suc zero) e = refl
  port_one s w (suc (suc i)) e = let z : None ≡ Some w = e in cc

  -- the Pure feeds the Split alone
  feeds_b : (p q : Port) → g.feeder p ≡ Some q → q.node ≡ a → p ≡ port_of b 1
  feeds_b p q e is =
      let v = pt.whole.wires p q e in
      let kind : v.from ≡ Pure two.function two.shape = same_Some v.from (Pure two.function two.shape) (sym v.is_from ∙ ap g.kind_at is ∙ a_kind) in
      let at : q.port ≡ 1 = port_one two.shape v.shape q.port (ap (λ z. port_get (outs z) q.port) (sym kind) ∙ v.leaves) in
      pt.whole.once p (port_of b 1) q e (link ∙ ap Some (λ i. record { node = sym is i; port = sym at i }))

  not_from_a : (p : Port) → p ≢ port_of b 1 → (side : List (List Token)) → (o : Option Port) → g.feeder p ≡ o → share_from a side o ≡ []
  not_from_a p ne side None e = refl
  not_from_a p ne side (Some q) e = share_other a side q (λ is. ne (feeds_b p q e is))

  into_a_port : (q : Port) (i : ℕ) → g.feeder (port_of a i) ≡ Some q → i ≡ 1
  into_a_port q i e =
      let v = pt.whole.wires (port_of a i) q e in
      port_one two.function.input v.shape i (ap (λ z. port_get (ins z) i) (same_Some (Pure two.function two.shape) v.to (sym a_kind ∙ v.is_to)) ∙ v.enters)

  into_b_port : (q : Port) (i : ℕ) → g.feeder (port_of b i) ≡ Some q → i ≡ 1
  into_b_port q i e =
      let v = pt.whole.wires (port_of b i) q e in
      port_one (concat two.parts) v.shape i (ap (λ z. port_get (ins z) i) (same_Some (Split two.parts) v.to (sym b_kind ∙ v.is_to)) ∙ v.enters)

  -- the Pure is fed from outside
  a_entry : (r : Port) × (s : Shape) × (left.feeder (port_of a 1) ≡ Some r) × (left.kind_at r.node ≡ Some (Entry s))
  a_entry =
      let (r, lf) = pt.part.inputs (port_of a 1) (Pure two.function two.shape) two.function.input two.is_pure refl in
      elim (source_of left pt.part (port_of a 1) r lf) [
        | listed i ↦ clash (inside left r.node) i (two.outside_feeds r lf)
        | enters s e port ↦ (r, s, lf, e)
      ]

  a_from : (q : Port) (i : ℕ) → g.feeder (port_of a i) ≡ Some q → inside left q.node ≡ false
  a_from q i e =
      let (r, s, lf, k) = a_entry in
      entry_from g left target pt (port_of a 1) r q s lf k (ap (λ z. g.feeder (port_of a z)) (sym (into_a_port q i e)) ∙ e)

  none_to_a : (n : Name) → inside left n ≡ true → (side : List (List Token)) (i : ℕ) (o : Option Port) → g.feeder (port_of a i) ≡ o → share_from n side o ≡ []
  none_to_a n t side i None e = refl
  none_to_a n t side i (Some q) e = share_other n side q (λ is. clash (inside left n) t (ap (inside left) (sym is) ∙ a_from q i e))

  none_to_b : (n : Name) → n ≢ a → (side : List (List Token)) (i : ℕ) (o : Option Port) → g.feeder (port_of b i) ≡ o → share_from n side o ≡ []
  none_to_b n ne side i None e = refl
  none_to_b n ne side i (Some q) e =
      let at : g.feeder (port_of b 1) ≡ Some q = ap (λ z. g.feeder (port_of b z)) (sym (into_b_port q i e)) ∙ e in
      share_other n side q (λ is. ne (sym is ∙ ap (λ (z : Port). z.node) (same_Some q (port_of a 1) (sym at ∙ link))))

  -- the state in which pre still waits before the Pure, and new before the Split
  abbrev shifted : List Token → List Token → (Port → List Token) → Port → List Token
  shifted pre fresh held p = if bytes_eq p.node a then up pre (held p) p.port else (if bytes_eq p.node b then down fresh (held p) p.port else held p)

  abbrev plus : List Token → CircuitState → CircuitState
  plus pre s = record { wires = shifted pre [] s.wires; slots = s.slots }

  shift_a : (pre fresh : List Token) (held : Port → List Token) (p : Port) → p.node ≡ a → shifted pre fresh held p ≡ up pre (held p) p.port
  shift_a pre fresh held p is = ap (λ z. if z then up pre (held p) p.port else (if bytes_eq p.node b then down fresh (held p) p.port else held p)) (same_bytes p.node a is)

  shift_b : (pre fresh : List Token) (held : Port → List Token) (p : Port) → p.node ≡ b → shifted pre fresh held p ≡ down fresh (held p) p.port
  shift_b pre fresh held p is =
      λ i. if other_bytes p.node a (λ e. a_not_b (sym e ∙ is)) i then up pre (held p) p.port else (if same_bytes p.node b is i then down fresh (held p) p.port else held p)

  shift_other : (pre fresh : List Token) (held : Port → List Token) (p : Port) → p.node ≢ a → p.node ≢ b → shifted pre fresh held p ≡ held p
  shift_other pre fresh held p na nb =
      λ i. if other_bytes p.node a na i then up pre (held p) p.port else (if other_bytes p.node b nb i then down fresh (held p) p.port else held p)

  as_port : (p : Port) (n : Name) → p.node ≡ n → p ≡ port_of n p.port
  as_port p n is = λ i. record { node = is i; port = p.port }

  -- a firing of another node than the Pure gives the same in both states
  module _ (pre : List Token) (s : CircuitState) (n : Name) (k : ℕ) (t : CircuitState) (na : n ≢ a) (st : Step g s n (Fire k) t) where
    gives_shift : (p : Port) → shifted pre [] t.wires p ≡ shifted pre [] st.between p ++ share_from n st.given (g.feeder p)
    gives_shift p =
        elim (name_cases p.node a) [
          | inl is ↦
              shift_a pre [] t.wires p is.is ∙ ap (λ z. up pre z p.port) (st.gives p) ∙ up_more pre (st.between p) (share_from n st.given (g.feeder p)) p.port
              ∙ ap (λ z. z ++ share_from n st.given (g.feeder p)) (sym (shift_a pre [] st.between p is.is))
          | inr no_a ↦ elim (name_cases p.node b) [
            | inl is ↦
                shift_b pre [] t.wires p is.is ∙ ap (λ z. down [] z p.port) (st.gives p)
                ∙ down_more (st.between p) (share_from n st.given (g.feeder p)) p.port
                (λ e. ap (λ z. share_from n st.given (g.feeder z)) (as_port p b is.is) ∙ none_to_b n na st.given p.port (g.feeder (port_of b p.port)) refl)
                ∙ ap (λ z. z ++ share_from n st.given (g.feeder p)) (sym (shift_b pre [] st.between p is.is))
            | inr no_b ↦
                shift_other pre [] t.wires p no_a.is_not no_b.is_not ∙ st.gives p
                ∙ ap (λ z. z ++ share_from n st.given (g.feeder p)) (sym (shift_other pre [] st.between p no_a.is_not no_b.is_not))
          ]
        ]

    kept_wire_of : (p : Port) → p.node ≢ n → s.wires p ≡ st.between p
    kept_wire_of p ne = st.takes p ∙ ap (λ z. z ++ st.between p) (share_other n st.taken p ne)

    -- a node outside
    outside_step : n ≢ b → Step g (plus pre s) n (Fire k) (plus pre t)
    outside_step nb =
        record {
          kind = st.kind;
          is_kind = st.is_kind;
          taken = st.taken;
          given = st.given;
          acts = st.acts;
          between = shifted pre [] st.between;
          takes = λ p.
              elim (name_cases p.node a) [
                | inl is ↦
                    shift_a pre [] s.wires p is.is ∙ ap (λ z. up pre z p.port) (kept_wire_of p (λ e. na (sym e ∙ is.is))) ∙ sym (shift_a pre [] st.between p is.is)
                    ∙ ap (λ z. z ++ shifted pre [] st.between p) (sym (share_other n st.taken p (λ e. na (sym e ∙ is.is))))
                | inr no_a ↦ elim (name_cases p.node b) [
                  | inl is ↦
                      shift_b pre [] s.wires p is.is ∙ ap (λ z. down [] z p.port) (kept_wire_of p (λ e. nb (sym e ∙ is.is))) ∙ sym (shift_b pre [] st.between p is.is)
                      ∙ ap (λ z. z ++ shifted pre [] st.between p) (sym (share_other n st.taken p (λ e. nb (sym e ∙ is.is))))
                  | inr no_b ↦
                      shift_other pre [] s.wires p no_a.is_not no_b.is_not ∙ st.takes p
                      ∙ ap (λ z. share n st.taken p ++ z) (sym (shift_other pre [] st.between p no_a.is_not no_b.is_not))
                ]
              ];
          gives = gives_shift;
          others = st.others;
        }

  -- the Pure's firing changes nothing
  module _ (pre : List Token) (s : CircuitState) (k : ℕ) (t : CircuitState) (st : Step g s a (Fire k) t) where
    pure_acts : (x : Token) × (k ≡ 0) × (st.taken ≡ one x ∷ []) × (st.given ≡ one (f x) ∷ []) × (t.slots a ≡ s.slots a)
    pure_acts = acts_at g s a (Fire k) t st (Pure two.function two.shape) a_kind

    abbrev x : Token
    x = pure_acts.0

    took : (p : Port) → p.node ≡ a → s.wires p ≡ at_port (one x ∷ []) p.port ++ t.wires p
    took p is =
        st.takes p
        ∙ (λ i. (share_same a st.taken p is ∙ ap (λ z. at_port z p.port) pure_acts.2) i
        ++ (sym (append-nil (st.between p)) ∙ ap (λ z. st.between p ++ z) (sym (ap (λ z. share_from a st.given (g.feeder z)) (as_port p a is) ∙ none_to_a a a_inside st.given p.port (g.feeder (port_of a p.port)) refl)) ∙ sym (st.gives p)) i)

    kept : (p : Port) → p.node ≢ a → p ≢ port_of b 1 → t.wires p ≡ s.wires p
    kept p ne nb =
        st.gives p ∙ ap (λ z. st.between p ++ z) (not_from_a p nb st.given (g.feeder p) refl) ∙ append-nil (st.between p)
        ∙ sym (st.takes p ∙ ap (λ z. z ++ st.between p) (share_other a st.taken p ne))

    gave : t.wires (port_of b 1) ≡ s.wires (port_of b 1) ++ f x ∷ []
    gave =
        st.gives (port_of b 1)
        ∙ (λ i. sym (st.takes (port_of b 1) ∙ ap (λ z. z ++ st.between (port_of b 1)) (share_other a st.taken (port_of b 1) (λ e. a_not_b (sym e)))) i
        ++ (ap (share_from a st.given) link ∙ share_same a st.given (port_of a 1) refl ∙ ap (λ z. at_port z 1) pure_acts.3) i)

    down_kept : (p : Port) → p.node ≡ b → (i : ℕ) → p.port ≡ i → down [] (s.wires p) i ≡ down [] (t.wires p) i
    unfolding down
    down_kept p is zero e = sym (kept p (λ z. a_not_b (sym z ∙ is)) (λ z. zero_not_one (sym e ∙ ap (λ (y : Port). y.port) z)))
    down_kept p is (suc zero) e = refl
    down_kept p is (suc (suc i)) e = sym (kept p (λ z. a_not_b (sym z ∙ is)) (λ z. more_not_one i (sym e ∙ ap (λ (y : Port). y.port) z)))

    pure_wire : (p : Port) → shifted pre [] s.wires p ≡ shifted (pre ++ x ∷ []) [] t.wires p
    pure_wire p =
        elim (name_cases p.node a) [
          | inl is ↦
              shift_a pre [] s.wires p is.is ∙ up_shift pre x (t.wires p) (s.wires p) p.port (took p is.is) ∙ sym (shift_a (pre ++ x ∷ []) [] t.wires p is.is)
          | inr no_a ↦ elim (name_cases p.node b) [
            | inl is ↦ shift_b pre [] s.wires p is.is ∙ down_kept p is.is p.port refl ∙ sym (shift_b (pre ++ x ∷ []) [] t.wires p is.is)
            | inr no_b ↦
                shift_other pre [] s.wires p no_a.is_not no_b.is_not ∙ sym (kept p no_a.is_not (λ e. no_b.is_not (ap (λ (z : Port). z.node) e)))
                ∙ sym (shift_other (pre ++ x ∷ []) [] t.wires p no_a.is_not no_b.is_not)
          ]
        ]

    pure_slots : (n : Name) → t.slots n ≡ s.slots n
    pure_slots n =
        elim (name_cases n a) [
          | inl is ↦ ap t.slots is.is ∙ pure_acts.4 ∙ ap s.slots (sym is.is)
          | inr ne ↦ st.others n ne.is_not
        ]

    pure_same : plus pre s ≡ plus (pre ++ x ∷ []) t
    pure_same = λ i. record { wires = λ p. pure_wire p i; slots = λ n. sym (pure_slots n) i }

  -- the Split's firing is one of the Pure and one of the Split
  module _ (pre : List Token) (y : Token) (s : CircuitState) (k : ℕ) (t : CircuitState) (st : Step g s b (Fire k) t) (took_y : st.taken ≡ one (f y) ∷ []) where
    between_ab : CircuitState
    between_ab = record { wires = shifted pre (one (f y)) s.wires; slots = s.slots }

    pure_between : Port → List Token
    pure_between p = if bytes_eq p.node a then up pre (s.wires p) p.port else shifted (y ∷ pre) [] s.wires p

    pure_takes : (p : Port) → shifted (y ∷ pre) [] s.wires p ≡ share a (one y ∷ []) p ++ pure_between p
    unfolding pure_between
    pure_takes p =
        elim (name_cases p.node a) [
          | inl is ↦
              shift_a (y ∷ pre) [] s.wires p is.is ∙ up_take y pre (s.wires p) p.port
              ∙ (λ i. sym (share_same a (one y ∷ []) p is.is) i ++ (if sym is.test i then up pre (s.wires p) p.port else shifted (y ∷ pre) [] s.wires p))
          | inr ne ↦ λ i. sym (share_other a (one y ∷ []) p ne.is_not) i ++ (if sym ne.test i then up pre (s.wires p) p.port else shifted (y ∷ pre) [] s.wires p)
        ]

    down_given : (p : Port) → p.node ≡ b → (i : ℕ) → p.port ≡ i → down (one (f y)) (s.wires p) i ≡ down [] (s.wires p) i ++ share_from a (one (f y) ∷ []) (g.feeder p)
    unfolding down
    down_given p is zero e = sym (append-nil (s.wires p)) ∙ ap (λ z. s.wires p ++ z) (sym (not_from_a p (λ z. zero_not_one (sym e ∙ ap (λ (y : Port). y.port) z)) (one (f y) ∷ []) (g.feeder p) refl))
    down_given p is (suc zero) e =
        sym (ap (λ z. share_from a (one (f y) ∷ []) (g.feeder z)) (as_port p b is ∙ ap (port_of b) e) ∙ ap (share_from a (one (f y) ∷ [])) link ∙ share_same a (one (f y) ∷ []) (port_of a 1) refl)
    down_given p is (suc (suc i)) e = sym (append-nil (s.wires p)) ∙ ap (λ z. s.wires p ++ z) (sym (not_from_a p (λ z. more_not_one i (sym e ∙ ap (λ (y : Port). y.port) z)) (one (f y) ∷ []) (g.feeder p) refl))

    pure_gives : (p : Port) → shifted pre (one (f y)) s.wires p ≡ pure_between p ++ share_from a (one (f y) ∷ []) (g.feeder p)
    unfolding pure_between
    pure_gives p =
        elim (name_cases p.node a) [
          | inl is ↦
              shift_a pre (one (f y)) s.wires p is.is ∙ sym (append-nil (up pre (s.wires p) p.port))
              ∙ (λ i. (if sym is.test i then up pre (s.wires p) p.port else shifted (y ∷ pre) [] s.wires p)
              ++ sym (ap (λ z. share_from a (one (f y) ∷ []) (g.feeder z)) (as_port p a is.is) ∙ none_to_a a a_inside (one (f y) ∷ []) p.port (g.feeder (port_of a p.port)) refl) i)
          | inr no_a ↦ elim (name_cases p.node b) [
            | inl is ↦
                shift_b pre (one (f y)) s.wires p is.is ∙ down_given p is.is p.port refl
                ∙ ap (λ z. z ++ share_from a (one (f y) ∷ []) (g.feeder p))
                (sym (shift_b (y ∷ pre) [] s.wires p is.is) ∙ ap (λ z. if z then up pre (s.wires p) p.port else shifted (y ∷ pre) [] s.wires p) (sym no_a.test))
            | inr no_b ↦
                shift_other pre (one (f y)) s.wires p no_a.is_not no_b.is_not ∙ sym (append-nil (s.wires p))
                ∙ (λ i. (sym (shift_other (y ∷ pre) [] s.wires p no_a.is_not no_b.is_not) ∙ ap (λ z. if z then up pre (s.wires p) p.port else shifted (y ∷ pre) [] s.wires p) (sym no_a.test)) i
                ++ sym (not_from_a p (λ e. no_b.is_not (ap (λ (z : Port). z.node) e)) (one (f y) ∷ []) (g.feeder p) refl) i)
          ]
        ]

    pure_step : Step g (plus (y ∷ pre) s) a (Fire 0) between_ab
    unfolding between_ab
    pure_step =
        record {
          kind = Pure two.function two.shape;
          is_kind = a_kind;
          taken = one y ∷ [];
          given = one (f y) ∷ [];
          acts = (y, refl, refl, refl, refl);
          between = pure_between;
          takes = pure_takes;
          gives = pure_gives;
          others = λ m ne. refl;
        }

    split_takes : (p : Port) → shifted pre (one (f y)) s.wires p ≡ share b st.taken p ++ shifted pre [] st.between p
    split_takes p =
        elim (name_cases p.node a) [
          | inl is ↦
              shift_a pre (one (f y)) s.wires p is.is ∙ ap (λ z. up pre z p.port) (st.takes p ∙ ap (λ z. z ++ st.between p) (share_other b st.taken p (λ e. a_not_b (sym is.is ∙ e))))
              ∙ sym (shift_a pre [] st.between p is.is) ∙ ap (λ z. z ++ shifted pre [] st.between p) (sym (share_other b st.taken p (λ e. a_not_b (sym is.is ∙ e))))
          | inr no_a ↦ elim (name_cases p.node b) [
            | inl is ↦
                let took : share b st.taken p ≡ at_port (one (f y) ∷ []) p.port = share_same b st.taken p is.is ∙ ap (λ z. at_port z p.port) took_y in
                shift_b pre (one (f y)) s.wires p is.is
                ∙ down_take (f y) (st.between p) (s.wires p) p.port (st.takes p ∙ ap (λ z. z ++ st.between p) took)
                ∙ (λ i. sym took i ++ sym (shift_b pre [] st.between p is.is) i)
            | inr no_b ↦
                shift_other pre (one (f y)) s.wires p no_a.is_not no_b.is_not ∙ st.takes p
                ∙ ap (λ z. share b st.taken p ++ z) (sym (shift_other pre [] st.between p no_a.is_not no_b.is_not))
          ]
        ]

    split_step : Step g between_ab b (Fire k) (plus pre t)
    unfolding between_ab
    split_step =
        record {
          kind = st.kind;
          is_kind = st.is_kind;
          taken = st.taken;
          given = st.given;
          acts = st.acts;
          between = shifted pre [] st.between;
          takes = split_takes;
          gives = gives_shift pre s b k t (λ e. a_not_b (sym e)) st;
          others = st.others;
        }

    both_fire : Firings g (plus (y ∷ pre) s) (record { node = a; choice = 0 } ∷ record { node = b; choice = k } ∷ []) (plus pre t)
    both_fire = (between_ab, pure_step, (plus pre t, split_step, refl))

  -- what holds along a run
  record Waiting (pre : List Token) (s : CircuitState) : Type 0 where
    here : s.wires (port_of b 1) ≡ map f pre
    fit : AllByRecursion (Fits two.function.input) pre
    state : IsStateOf g s
    unfed : (p : Port) → inside left p.node ≡ true → g.feeder p ≡ None → s.wires p ≡ []
    slots : (n : Name) → inside left n ≡ true → s.slots n ≡ []

  unfed_at : (p : Port) → inside left p.node ≡ true → by_entry left (left.feeder p) ≡ false → p ≢ port_of b 1 → (o : Option Port) → left.feeder p ≡ o → g.feeder p ≡ None
  unfed_at p i e nb None lf = unfed_in g left target pt p i lf (g.feeder p) refl
  unfed_at p i e nb (Some q) lf =
      elim (source_of left pt.part p q lf) [
        | enters s k port ↦ clash (by_entry left (left.feeder p)) (is_by_entry left p q s lf k) e
        | listed iq ↦ elim (two.only p.node i) [
          | inl is ↦
              let at : p ≡ port_of a 1 = as_port p a is ∙ ap (port_of a) (into_a_port q p.port (ap g.feeder (sym (as_port p a is)) ∙ (pt.wires p q i iq).1 lf)) in
              clash (inside left q.node) iq (two.outside_feeds q (ap left.feeder (sym at) ∙ lf))
          | inr is ↦
              absurd (nb (as_port p b is ∙ ap (port_of b) (into_b_port q p.port (ap g.feeder (sym (as_port p b is)) ∙ (pt.wires p q i iq).1 lf))))
        ]
      ]

  -- the shifted state is at rest in the part
  rest_at : (pre : List Token) (s : CircuitState) → Waiting pre s → (p : Port) → inside left p.node ≡ true → by_entry left (left.feeder p) ≡ false → shifted pre [] s.wires p ≡ []
  unfolding up down
  rest_at pre s w p i e =
      elim (two.only p.node i) [
        | inl is ↦
            shift_a pre [] s.wires p is ∙ at_a p.port refl is
        | inr is ↦ shift_b pre [] s.wires p is ∙ at_b p.port refl is
      ]
    where
      entry_one : p.node ≡ a → p.port ≡ 1 → ⊥
      entry_one is at =
          let (r, sh, lf, k) = a_entry in
          clash (by_entry left (left.feeder p)) (ap (λ z. by_entry left (left.feeder z)) (as_port p a is ∙ ap (port_of a) at) ∙ is_by_entry left (port_of a 1) r sh lf k) e

      at_a : (j : ℕ) → p.port ≡ j → p.node ≡ a → up pre (s.wires p) j ≡ []
      at_a zero z is = w.unfed p i (unfed_at p i e (λ y. a_not_b (sym is ∙ ap (λ (v : Port). v.node) y)) (left.feeder p) refl)
      at_a (suc zero) z is = absurd (entry_one is z)
      at_a (suc (suc j)) z is = w.unfed p i (unfed_at p i e (λ y. a_not_b (sym is ∙ ap (λ (v : Port). v.node) y)) (left.feeder p) refl)

      at_b : (j : ℕ) → p.port ≡ j → p.node ≡ b → down [] (s.wires p) j ≡ []
      at_b zero z is = w.unfed p i (unfed_at p i e (λ y. zero_not_one (sym z ∙ ap (λ (v : Port). v.port) y)) (left.feeder p) refl)
      at_b (suc zero) z is = refl
      at_b (suc (suc j)) z is = w.unfed p i (unfed_at p i e (λ y. more_not_one j (sym z ∙ ap (λ (v : Port). v.port) y)) (left.feeder p) refl)

  rest_of : (pre : List Token) (s : CircuitState) → Waiting pre s → AtRest left (plus pre s)
  rest_of pre s w = record { wires = rest_at pre s w; slots = w.slots }

  fits_up : (pre ys : List Token) (i : ℕ) (s : Shape) → port_get (two.function.input ∷ []) i ≡ Some s → AllByRecursion (Fits two.function.input) pre → AllByRecursion (Fits s) ys → AllByRecursion (Fits s) (up pre ys i)
  unfolding up
  fits_up pre ys zero s e h k = k
  fits_up pre ys (suc zero) s e h k = each_append (Fits s) pre ys (subst (λ z. AllByRecursion (Fits z) pre) (same_Some two.function.input s e) h) k
  fits_up pre ys (suc (suc i)) s e h k = k

  fits_down : (ys : List Token) (i : ℕ) (s : Shape) → AllByRecursion (Fits s) ys → AllByRecursion (Fits s) (down [] ys i)
  unfolding down
  fits_down ys zero s k = k
  fits_down ys (suc zero) s k = tt
  fits_down ys (suc (suc i)) s k = k

  fits_of : (pre : List Token) (s : CircuitState) → Waiting pre s → IsStateOf g (plus pre s)
  fits_of pre s w =
      record {
        wires = λ p k sh ek es.
            elim (name_cases p.node a) [
              | inl is ↦
                  subst (AllByRecursion (Fits sh)) (sym (shift_a pre [] s.wires p is.is))
                  (fits_up pre (s.wires p) p.port sh (ap (λ z. port_get (ins z) p.port) (same_Some (Pure two.function two.shape) k (sym a_kind ∙ ap g.kind_at (sym is.is) ∙ ek)) ∙ es) w.fit (w.state.wires p k sh ek es))
              | inr no_a ↦ elim (name_cases p.node b) [
                | inl is ↦ subst (AllByRecursion (Fits sh)) (sym (shift_b pre [] s.wires p is.is)) (fits_down (s.wires p) p.port sh (w.state.wires p k sh ek es))
                | inr no_b ↦ subst (AllByRecursion (Fits sh)) (sym (shift_other pre [] s.wires p no_a.is_not no_b.is_not)) (w.state.wires p k sh ek es)
              ]
            ];
        slots = w.state.slots;
        tags = w.state.tags;
      }

  -- a firing goes on
  record Went (pre : List Token) (s t : CircuitState) : Type 0 where
    waits : List Token
    waiting : Waiting waits t
    firings : List Firing
    runs : Firings H (E (plus pre s)) firings (E (plus waits t))

  slots_of : (s : CircuitState) (n : Name) (k : ℕ) (t : CircuitState) → Step g s n (Fire k) t → (m : Name) → inside left m ≡ true → t.slots m ≡ s.slots m
  slots_of s n k t st m i =
      elim (two.only m i) [
        | inl is ↦ slots_stay g m (Pure two.function two.shape) (ap g.kind_at is ∙ a_kind) tt s n k t st
        | inr is ↦ slots_stay g m (Split two.parts) (ap g.kind_at is ∙ b_kind) tt s n k t st
      ]

  still : (pre : List Token) (s : CircuitState) (n : Name) (k : ℕ) (t : CircuitState) → Step g s n (Fire k) t → Waiting pre s → (waits : List Token) → t.wires (port_of b 1) ≡ map f waits → AllByRecursion (Fits two.function.input) waits → Waiting waits t
  still pre s n k t st w waits e fit =
      record {
        here = e;
        fit = fit;
        state = step_fits values g pt.whole s n (Fire k) t st w.state;
        unfed = λ p i none. unfed_stays g s n k t st p none (w.unfed p i none);
        slots = λ m i. slots_of s n k t st m i ∙ w.slots m i;
      }

  -- a node outside
  went_outside : (pre : List Token) (s : CircuitState) (fi : Firing) (t : CircuitState) → Step g s fi.node (Fire fi.choice) t → FiresIn g fi.node → Waiting pre s → inside left fi.node ≡ false → Went pre s t
  went_outside pre s fi t st fires w o =
      let na : fi.node ≢ a = λ e. clash (inside left fi.node) (ap (inside left) e ∙ a_inside) o in
      let nb : fi.node ≢ b = λ e. clash (inside left fi.node) (ap (inside left) e ∙ b_inside) o in
      let kept : t.wires (port_of b 1) ≡ s.wires (port_of b 1) =
      st.gives (port_of b 1) ∙ ap (λ z. st.between (port_of b 1) ++ z) (none_to_b fi.node na st.given 1 (g.feeder (port_of b 1)) refl) ∙ append-nil (st.between (port_of b 1))
      ∙ sym (st.takes (port_of b 1) ∙ ap (λ z. z ++ st.between (port_of b 1)) (share_other fi.node st.taken (port_of b 1) (λ e. nb (sym e)))) in
      record {
        waits = pre;
        waiting = still pre s fi.node fi.choice t st w pre (kept ∙ w.here) w.fit;
        firings = fi ∷ [];
        runs = outside_runs g left right target pt tr ports new hl hr nl nr keep (plus pre s) (plus pre t) (fi ∷ [])
            ((fires_outside g left right target pt tr ports new hl hr fi.node fires o, tt)) ((plus pre t, outside_step pre s fi.node fi.choice t na st nb, refl));
      }

  -- the Pure
  went_pure : (pre : List Token) (s : CircuitState) (k : ℕ) (t : CircuitState) → Step g s a (Fire k) t → Waiting pre s → Went pre s t
  went_pure pre s k t st w =
      let y : Token = x pre s k t st in
      let whole : AllByRecursion (Fits two.function.input) (s.wires (port_of a 1)) = w.state.wires (port_of a 1) (Pure two.function two.shape) two.function.input a_kind refl in
      let fits_y : AllByRecursion (Fits two.function.input) (y ∷ t.wires (port_of a 1)) = subst (AllByRecursion (Fits two.function.input)) (took pre s k t st (port_of a 1) refl) whole in
      record {
        waits = pre ++ y ∷ [];
        waiting = still pre s a k t st w (pre ++ y ∷ []) (gave pre s k t st ∙ ap (λ z. z ++ f y ∷ []) w.here ∙ map_end f pre y) (each_append (Fits two.function.input) pre (y ∷ []) w.fit ((fits_y.0, tt)));
        firings = [];
        runs = ap E (pure_same pre s k t st);
      }

  -- the Split
  went_split : (pre : List Token) (s : CircuitState) (k : ℕ) (t : CircuitState) → Step g s b (Fire k) t → Waiting pre s → Went pre s t
  went_split pre s k t st w =
      let (vs, zero_choice, each, et, eg, en) = acts_at g s b (Fire k) t st (Split two.parts) b_kind in
      let before : map f pre ≡ concat vs ∷ st.between (port_of b 1) =
      sym w.here ∙ st.takes (port_of b 1) ∙ ap (λ z. z ++ st.between (port_of b 1)) (share_same b st.taken (port_of b 1) refl ∙ ap (λ z. at_port z 1) et) in
      let (y, more, split, fy, rest) = first_of_map f pre (concat vs) (st.between (port_of b 1)) before in
      let after : t.wires (port_of b 1) ≡ map f more =
      st.gives (port_of b 1) ∙ ap (λ z. st.between (port_of b 1) ++ z) (none_to_b b (λ e. a_not_b (sym e)) st.given 1 (g.feeder (port_of b 1)) refl) ∙ append-nil (st.between (port_of b 1)) ∙ sym rest in
      let waiting : Waiting more t = still pre s b k t st w more after ((subst (AllByRecursion (Fits two.function.input)) split w.fit).1) in
      let took_y : st.taken ≡ one (f y) ∷ [] = et ∙ ap (λ z. one z ∷ []) (sym fy) in
      let fs : List Firing = record { node = a; choice = 0 } ∷ record { node = b; choice = k } ∷ [] in
      let here : AllByRecursion (λ i. inside left i.node ≡ true) fs = (a_inside, (b_inside, tt)) in
      let run : Firings g (plus (y ∷ more) s) fs (plus more t) = both_fire more y s k t st took_y in
      let was : Waiting (y ∷ more) s = subst (λ z. Waiting z s) split w in
      record {
        waits = more;
        waiting = waiting;
        firings = block_firings g left right target pt tr ports new hl hr nl nr keep (plus (y ∷ more) s) (plus more t) fs here run (rest_of (y ∷ more) s was) (rest_of more t waiting) (fits_of (y ∷ more) s was);
        runs = subst (λ z. Firings H (E (plus z s)) (block_firings g left right target pt tr ports new hl hr nl nr keep (plus (y ∷ more) s) (plus more t) fs here run (rest_of (y ∷ more) s was) (rest_of more t waiting) (fits_of (y ∷ more) s was)) (E (plus more t))) (sym split)
            (block_runs g left right target pt tr ports new hl hr nl nr keep (plus (y ∷ more) s) (plus more t) fs here run (rest_of (y ∷ more) s was) (rest_of more t waiting) (fits_of (y ∷ more) s was));
      }

  went : (pre : List Token) (s : CircuitState) (fi : Firing) (t : CircuitState) → Step g s fi.node (Fire fi.choice) t → FiresIn g fi.node → Waiting pre s → (c : Bool) → inside left fi.node ≡ c → Went pre s t
  went pre s fi t st fires w false o = went_outside pre s fi t st fires w o
  went pre s fi t st fires w true i =
      elim (two.only fi.node i) [
        | inl is ↦ went_pure pre s fi.choice t (subst (λ z. Step g s z (Fire fi.choice) t) is st) w
        | inr is ↦ went_split pre s fi.choice t (subst (λ z. Step g s z (Fire fi.choice) t) is st) w
      ]

  went_all : (pre : List Token) (s : CircuitState) (fs : List Firing) (t : CircuitState) → Firings g s fs t → AllByRecursion (λ i. FiresIn g i.node) fs → Waiting pre s → Went pre s t
  went_all pre s [] t r fires w =
      record { waits = pre; waiting = subst (Waiting pre) r w; firings = []; runs = ap (λ z. E (plus pre z)) r }
  went_all pre s (fi ∷ fs) t r fires w =
      let first = went pre s fi r.0 r.1 fires.0 w (inside left fi.node) refl in
      let more = went_all first.waits r.0 fs t r.2 fires.1 first.waiting in
      record {
        waits = more.waits;
        waiting = more.waiting;
        firings = first.firings ++ more.firings;
        runs = firings_then H (E (plus pre s)) first.firings (E (plus first.waits r.0)) more.firings (E (plus more.waits t)) first.runs more.runs;
      }

  -- with nothing waiting the states are the same
  plus_wire : (s : CircuitState) → s.wires (port_of b 1) ≡ [] → (p : Port) → shifted [] [] s.wires p ≡ s.wires p
  plus_wire s none p =
      elim (name_cases p.node a) [
        | inl is ↦ shift_a [] [] s.wires p is.is ∙ up_none (s.wires p) p.port
        | inr no_a ↦ elim (name_cases p.node b) [
          | inl is ↦ shift_b [] [] s.wires p is.is ∙ down_same (s.wires p) p.port (λ e. ap s.wires (as_port p b is.is ∙ ap (port_of b) e) ∙ none)
          | inr no_b ↦ shift_other [] [] s.wires p no_a.is_not no_b.is_not
        ]
      ]

  plus_none : (s : CircuitState) → s.wires (port_of b 1) ≡ [] → plus [] s ≡ s
  plus_none s none = λ i. record { wires = λ p. plus_wire s none p i; slots = s.slots }

  load_waits : (ins : Name → List Token) → InputsFit g ins → Waiting [] (loaded g ins)
  load_waits ins fit =
      record {
        here = (λ i. initial (kind_of g (link i)) ++ put_on g ins (link i)) ∙ ap (λ o. initial o ++ put_by ins o a) a_kind;
        fit = tt;
        state = loaded_fits g pt.whole ins fit;
        unfed = λ p i none. ap (λ o. initial (kind_of g o) ++ put_on g ins o) none;
        slots = λ n i. refl;
      }

  link_no_init : InitBehind g (port_of b 1) → ⊥
  link_no_init (init q v m e k) =
      let z : Pure two.function two.shape ≡ Init v m = same_Some (Pure two.function two.shape) (Init v m) (sym a_kind ∙ ap (λ (y : Port). g.kind_at y.node) (same_Some (port_of a 1) q (sym link ∙ e)) ∙ k) in cc
  link_no_init (past q j e k tree ch) =
      subst PassesThrough (same_Some j (Pure two.function two.shape) (sym k ∙ ap (λ (y : Port). g.kind_at y.node) (same_Some q (port_of a 1) (sym e ∙ link)) ∙ a_kind)) tree

  module _ (ins outs : Name → List Token) (d : DrainsTo g ins outs) where
    rest_link_at : (xs : List Token) → d.rest.wires (port_of b 1) ≡ xs → d.rest.wires (port_of b 1) ≡ []
    rest_link_at [] e = e
    rest_link_at (v ∷ vs) e =
        absurd (link_no_init (led_comes g (start g) d.is_rest.firings d.rest d.is_rest.led d.is_rest.leads (λ q w ws z. start_at g q w ws (g.feeder q) refl z) (port_of b 1) v vs e))

    end_link : d.end.wires (port_of b 1) ≡ []
    end_link = d.others (port_of b 1) (Split two.parts) b_kind tt ∙ rest_link_at (d.rest.wires (port_of b 1)) refl

    end_none : (pre : List Token) → Waiting pre d.end → pre ≡ []
    end_none pre w = none_mapped f pre (sym w.here ∙ end_link)

  pub pure_and_split_keeps : KeepsDrainsTo g (replaced g left right target)
  pure_and_split_keeps ins outs fit d =
      let w = load_waits ins fit in
      let go = went_all [] (loaded g ins) d.firings d.end d.leads (all_fire g (loaded g ins) d.firings d.end d.leads) w in
      let none : go.waits ≡ [] = end_none ins outs d go.waits go.waiting in
      let run : Firings H (E (loaded g ins)) go.firings (E d.end) =
      subst (λ z. Firings H (E z) go.firings (E d.end)) (plus_none (loaded g ins) w.here)
      (subst (Firings H (E (plus [] (loaded g ins))) go.firings) (ap (λ z. E (plus z d.end)) none ∙ ap E (plus_none d.end (end_link ins outs d))) go.runs) in
      em_drains g left right target pt tr ports new hl hr nl nr keep ins outs d go.firings run
