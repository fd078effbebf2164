-- What is put on wires, taken back, and taken, by names.
use Rattle.std.proofs.Common.{◌≡◌, ◌≢◌, inl, inr, ℕ, zero, suc, ◌+◌, ◌-◌, ◌<◌, ◌≤◌, false, List, [], ◌∷◌, ◌++◌, length, map, drop, replicate, Option, Some, None, nat_eq, slice_get, slice_set, if◌then◌else◌, refl, sym, ap, subst, ◌∙◌, arith}
use Rattle.std.specs.Prelude.{◌⊎◌}
use Rattle.std.specs.FinMap as finite
use Rattle.std.proofs.lemmas.Bool.Decides.{nat_tests}
use Rattle.std.proofs.lemmas.Option.{none-some, same_Some}
use Rattle.port_types.specs.declared.side.Side.TheVariants.{Outs}
use Rattle.std.proofs.lemmas.List.{append-nil, append_assoc, get_or-set_same, get_or-set_other, length-set, set-get_or, set-set}
use Rattle.components.specs.Name.{Name, Port}
use Rattle.components.specs.NamedGraph.{IsTyped}
use Rattle.components.specs.Orders.{name_cases}
use Rattle.circuits.specs.PortTokens.{Token, at_port, one, share_from}
use Rattle.graph_core.specs.declared.place.PortAt.{PortAt}
use Rattle.graph_core.specs.Place.{index_of}
use Rattle.graph_core.specs.GraphValue.{GraphValue, IsGraph, name_by, port_of}
use Rattle.graph_core.specs.Wiring.{HasPort}
use Rattle.states.specs.declared.change.Change.{Change}
use Rattle.states.specs.declared.taking.Taking.{Taking}
use Rattle.states.specs.declared.taking.Taking.TheVariants.{Nothing, Each, One, Both}
use Rattle.states.specs.Fired.{CanSettle, IsPut, IsSettled, finished_at, side_from}
use Rattle.states.specs.GraphState.{Places, HasPlaces, IsInputAt, place_at, queue_of, state_of, with_queue}
use Rattle.states.specs.Place.{PlaceValue, but_last, no_place, queue_at}
use Rattle.states.specs.Taking.{IsWithin, count_at, taken_queues, without_head}
use Rattle.states.specs.Giving.{sides_of}
use Rattle.states.proofs.Changing.{has_same, input_there, slots_same}
use Rattle.states.proofs.EndSteps.{fed_input, live_denotes}
use Rattle.states.proofs.Lists.{nat_same, last_gone}
use Rattle.states.proofs.Stepping.{HasOne, pushed, share_at, share_away}

-- Sides, from a port on

pub blank : (k port : ℕ) → at_port (replicate k [] ++ []) port ≡ []
blank zero port = refl
blank (suc k) zero = refl
blank (suc k) (suc zero) = refl
blank (suc k) (suc (suc port)) = blank k (suc port)

pub split_at : (k : ℕ) (x : List Token) (rest : List (List Token)) (port : ℕ) →
    at_port (replicate k [] ++ x ∷ rest) port ≡ at_port (replicate k [] ++ x ∷ []) port ++ at_port (replicate (suc k) [] ++ rest) port
split_at zero x rest zero = refl
split_at zero x rest (suc zero) = sym (append-nil x)
split_at zero x rest (suc (suc port)) = refl
split_at (suc k) x rest zero = refl
split_at (suc k) x rest (suc zero) = refl
split_at (suc k) x rest (suc (suc port)) = split_at k x rest (suc port)

pub one_behind : (k : ℕ) (v : Token) → HasOne (replicate k [] ++ one v ∷ []) (suc k) v
one_behind k v = record { here = here k; elsewhere = elsewhere k }
  where
    here : (k : ℕ) → at_port (replicate k [] ++ one v ∷ []) (suc k) ≡ one v
    here zero = refl
    here (suc k) = here k

    elsewhere : (k j : ℕ) → j ≢ suc k → at_port (replicate k [] ++ one v ∷ []) j ≡ []
    elsewhere zero zero other = refl
    elsewhere zero (suc zero) other = absurd (other refl)
    elsewhere zero (suc (suc j)) other = refl
    elsewhere (suc k) zero other = refl
    elsewhere (suc k) (suc zero) other = refl
    elsewhere (suc k) (suc (suc j)) other = elsewhere k (suc j) (λ same. other (ap suc same))

none_more : (k : ℕ) (rest : List (List Token)) → replicate k [] ++ [] ∷ rest ≡ replicate (suc k) [] ++ rest
none_more zero rest = refl
none_more (suc k) rest = ap (λ x. [] ∷ x) (none_more k rest)

next_port : (port : ℕ) → 1 ≤ port → (port + 1) - 1 ≡ suc (port - 1)
next_port port some = omega (arith, some)

pub side_none : (port : ℕ) (rest : List (List Token)) → 1 ≤ port → side_from port ([] ∷ rest) ≡ side_from (port + 1) rest
side_none port rest some = none_more (port - 1) rest ∙ ap (λ k. replicate k [] ++ rest) (sym (next_port port some))

pub side_one : (port : ℕ) (v : Token) → 1 ≤ port → HasOne (side_from port (one v ∷ [])) port v
side_one port v some = subst (λ k. HasOne (side_from port (one v ∷ [])) k v) (omega (arith, some)) (one_behind (port - 1) v)

pub side_split : (port : ℕ) (x : List Token) (rest : List (List Token)) → 1 ≤ port → (i : ℕ) →
    at_port (side_from port (x ∷ rest)) i ≡ at_port (side_from port (x ∷ [])) i ++ at_port (side_from (port + 1) rest) i
side_split port x rest some i =
    split_at (port - 1) x rest i ∙ ap (λ k. at_port (side_from port (x ∷ [])) i ++ at_port (replicate k [] ++ rest) i) (sym (next_port port some))

share_apart : (n : Name) (a b c : List (List Token)) → ((i : ℕ) → at_port a i ≡ at_port b i ++ at_port c i) → (o : Option Port) → share_from n a o ≡ share_from n b o ++ share_from n c o
share_apart n a b c each None = refl
share_apart n a b c each (Some p) = elim (name_cases p.node n) [
  | inl same ↦ share_at n a p same ∙ each p.port ∙ (λ i. sym (share_at n b p same) i ++ sym (share_at n c p same) i)
  | inr other ↦ share_away n a p other ∙ (λ i. sym (share_away n b p other) i ++ sym (share_away n c p other) i)
]

share_blank : (n : Name) (a : List (List Token)) → ((i : ℕ) → at_port a i ≡ []) → (o : Option Port) → share_from n a o ≡ []
share_blank n a each None = refl
share_blank n a each (Some p) = elim (name_cases p.node n) [
  | inl same ↦ share_at n a p same ∙ each p.port
  | inr other ↦ share_away n a p other
]

-- Putting

module _ (g : GraphValue) (n : Name) where
  -- nothing is put
  pub put_nothing : (s : Places) (port : ℕ) → HasPlaces g s → IsPut g s n (side_from port []) s
  put_nothing s port has =
      record {
        has = has;
        wires = λ r. sym (append-nil ((state_of g s).wires r)) ∙ ap (λ x. (state_of g s).wires r ++ x) (sym (share_blank n (side_from port []) (blank (port - 1)) (finite.get g.graph.feeders r)));
        slots = λ m. refl;
      }

  -- a token, and then more
  pub put_more : (s mid t : Places) (port : ℕ) (x : List Token) (rest : List (List Token)) → 1 ≤ port → IsPut g s n (side_from port (x ∷ [])) mid → IsPut g mid n (side_from (port + 1) rest) t →
      IsPut g s n (side_from port (x ∷ rest)) t
  put_more s mid t port x rest some first more =
      record {
        has = more.has;
        wires = λ r.
            let o = finite.get g.graph.feeders r in
            more.wires r ∙ ap (λ w. w ++ share_from n (side_from (port + 1) rest) o) (first.wires r)
            ∙ append_assoc ((state_of g s).wires r) (share_from n (side_from port (x ∷ [])) o) (share_from n (side_from (port + 1) rest) o)
            ∙ ap (λ w. (state_of g s).wires r ++ w) (sym (share_apart n (side_from port (x ∷ rest)) (side_from port (x ∷ [])) (side_from (port + 1) rest) (side_split port x rest some) o));
        slots = λ m. more.slots m ∙ first.slots m;
      }

module _ (g : GraphValue) (is : IsGraph g) (typed : IsTyped g.graph) (s : Places) (has : HasPlaces g s) (target : PortAt) (m : Name) (at : IsInputAt g s target m) (v : Token) where
  -- one token is put
  pub put_one : (n : Name) (port : ℕ) → 1 ≤ port → finite.get g.graph.feeders (record { node = m; port = target.port }) ≡ Some (record { node = n; port = port }) →
      IsPut g s n (side_from port (one v ∷ [])) (with_queue s target (queue_of s target ++ one v))
  put_one n port some fed =
      record {
        has = has_same g is s target m at (queue_of s target ++ one v) has;
        wires = pushed g is typed s target m at v (record { node = n; port = port }) fed (side_from port (one v ∷ [])) (side_one port v some);
        slots = slots_same g is s target m at (queue_of s target ++ one v);
      }

  -- and taken back
  pub taken_back : with_queue (with_queue s target (queue_of s target ++ one v)) target (but_last (queue_of (with_queue s target (queue_of s target ++ one v)) target)) ≡ s
  taken_back =
      let i = index_of target.node in
      let k = target.port - 1 in
      let old = place_at s target.node in
      let queue = queue_of s target in
      let put : PlaceValue = record old { queues = slice_set old.queues k (queue ++ one v) } in
      let t = with_queue s target (queue ++ one v) in
      let here : place_at t target.node ≡ put = get_or-set_same s i put no_place at.node in
      let inside : k < length old.queues = omega (arith, at.some, at.few) in
      let last : but_last (queue_of t target) ≡ queue =
      ap (λ (p : PlaceValue). but_last (queue_at p.queues k)) here ∙ ap but_last (get_or-set_same old.queues k (queue ++ one v) [] inside) ∙ last_gone queue v in
      let queues : slice_set put.queues k queue ≡ old.queues = set-set old.queues k (queue ++ one v) queue ∙ set-get_or old.queues k [] in
      (λ j. slice_set t i (record (here j) { queues = slice_set (here j).queues k (last j) }))
      ∙ (λ j. slice_set t i (record old { queues = queues j })) ∙ set-set s i put old ∙ set-get_or s i no_place

-- Taking

nat_other : (i j : ℕ) → i ≢ j → nat_eq i j ≡ false
nat_other i j other = grind (arith, nat_tests)

nat_cases : (i j : ℕ) → (i ≡ j) ⊎ (i ≢ j)
nat_cases i j = grind (arith, nat_tests)

each_dropped : (queues : List (List Token)) (input : ℕ) → queue_at (map (drop 1) queues) input ≡ drop 1 (queue_at queues input)
each_dropped [] input = refl
each_dropped (q ∷ queues) zero = refl
each_dropped (q ∷ queues) (suc input) = each_dropped queues input

map_count : (queues : List (List Token)) → length (map (drop 1) queues) ≡ length queues
map_count [] = refl
map_count (q ∷ queues) = ap suc (map_count queues)

head_same : (queues : List (List Token)) (i : ℕ) → i < length queues → queue_at (without_head i queues) i ≡ drop 1 (queue_at queues i)
head_same queues i below = get_or-set_same queues i (drop 1 (queue_at queues i)) [] below

head_other : (queues : List (List Token)) (i input : ℕ) → input ≢ i → queue_at (without_head i queues) input ≡ queue_at queues input
head_other queues i input other = get_or-set_other queues i input (drop 1 (queue_at queues i)) [] other

pub taken_count : (taking : Taking) (queues : List (List Token)) → length (taken_queues taking queues) ≡ length queues
taken_count Nothing queues = refl
taken_count Each queues = map_count queues
taken_count (One i) queues = length-set queues i (drop 1 (queue_at queues i))
taken_count (Both i j) queues =
    length-set (without_head i queues) j (drop 1 (queue_at (without_head i queues) j)) ∙ length-set queues i (drop 1 (queue_at queues i))

one_at : (queues : List (List Token)) (i input : ℕ) → i < length queues → queue_at (without_head i queues) input ≡ drop (count_at (One i) input) (queue_at queues input)
one_at queues i input within = elim (nat_cases input i) [
  | inl same ↦
      ap (queue_at (without_head i queues)) same ∙ head_same queues i within ∙ ap (λ k. drop 1 (queue_at queues k)) (sym same)
      ∙ ap (λ b. drop (if b then 1 else 0) (queue_at queues input)) (sym (ap (nat_eq input) (sym same) ∙ nat_same input))
  | inr other ↦ head_other queues i input other ∙ ap (λ b. drop (if b then 1 else 0) (queue_at queues input)) (sym (nat_other input i other))
]

pub taken_at : (taking : Taking) (queues : List (List Token)) → IsWithin taking (length queues) → (input : ℕ) → queue_at (taken_queues taking queues) input ≡ drop (count_at taking input) (queue_at queues input)
taken_at Nothing queues within input = refl
taken_at Each queues within input = each_dropped queues input
taken_at (One i) queues within input = one_at queues i input within
taken_at (Both i j) queues (first, second, apart) input = elim (nat_cases input j) [
  | inl same ↦
      let away : input ≢ i = λ e. apart (sym e ∙ same) in
      ap (queue_at (without_head j (without_head i queues))) same
      ∙ head_same (without_head i queues) j (subst (λ l. j < l) (sym (length-set queues i (drop 1 (queue_at queues i)))) second)
      ∙ ap (λ k. drop 1 (queue_at (without_head i queues) k)) (sym same)
      ∙ ap (drop 1) (head_other queues i input away)
      ∙ ap (λ b. drop (if b then 1 else 0) (queue_at queues input)) (sym (ap (nat_eq input) (sym same) ∙ nat_same input))
      ∙ ap (λ b. drop (if b then 1 else (if nat_eq input j then 1 else 0)) (queue_at queues input)) (sym (nat_other input i away))
  | inr other ↦
      head_other (without_head i queues) j input other ∙ one_at queues i input first
      ∙ ap (λ b. drop (if nat_eq input i then 1 else (if b then 1 else 0)) (queue_at queues input)) (sym (nat_other input j other))
]

-- The conditions, step by step

pub popped : {A : Type 0} (xs : List A) (x : A) → Some x ≡ slice_get xs 0 → xs ≡ x ∷ drop 1 xs
popped [] x e = absurd (none-some x (sym e))
popped (y ∷ xs) x e = λ i. same_Some y x (sym e) i ∷ xs

pub popped_count : {A : Type 0} (xs : List A) (x : A) → Some x ≡ slice_get xs 0 → (rest : List A) → rest ≡ drop 1 xs → length xs ≡ suc (length rest)
popped_count {A = A} xs x e rest is = ap length (popped xs x e) ∙ ap (λ (l : List A). suc (length l)) (sym is)

pub not_popped : {A : Type 0} (xs : List A) → None ≡ slice_get xs 0 → xs ≡ []
not_popped [] e = refl
not_popped (y ∷ xs) e = absurd (none-some y e)

module _ (g : GraphValue) (is : IsGraph g) (output : PortAt) (taking : Taking) where
  abbrev after : PortAt
  after = record { node = output.node; port = output.port + 1 }

  pub can_next : (s : Places) (count : ℕ) → CanSettle g s output (suc count) taking → CanSettle g s after count taking
  can_next s count can =
      record {
        typed = can.typed;
        has = can.has;
        live = can.live;
        some = omega arith;
        few = omega (arith, can.few);
        there = λ port from to. can.there port (omega (arith, from)) (omega (arith, to));
        within = can.within;
      }

  -- where the places of another state have as many queues
  pub can_other : (s t : Places) (count : ℕ) → CanSettle g s output count taking → HasPlaces g t → CanSettle g t output count taking
  can_other s t count can has =
      let denotes = live_denotes g output.node can.live in
      let (body, found) = is.denoted output.node (name_by g.ids output.node) denotes in
      let same = can.has.queues output.node (name_by g.ids output.node) body denotes found ∙ sym (has.queues output.node (name_by g.ids output.node) body denotes found) in
      record {
        typed = can.typed;
        has = has;
        live = can.live;
        some = can.some;
        few = can.few;
        there = can.there;
        within = subst (IsWithin taking) same can.within;
      }

  pub output_there : (s : Places) (count : ℕ) → CanSettle g s output (suc count) taking → HasPort g.graph Outs (port_of g output)
  output_there s count can = can.there output.port (omega arith) (omega arith)

-- One output after another

module _ (g : GraphValue) (is : IsGraph g) (output : PortAt) (taking : Taking) (change : Change) (given : List (Option Token)) (s t : Places) where
  abbrev name : Name
  name = name_by g.ids output.node

  abbrev Settled : Places → ℕ → List (Option Token) → Type 0
  Settled from port sides = IsSettled g from output.node (side_from port (sides_of sides)) taking change t

  pub settled_none : CanSettle g s output (length given) taking → None ≡ slice_get given 0 → t ≡ finished_at s output.node taking change → Settled s output.port given
  settled_none can none done =
      record {
        given = s;
        is_put = subst (λ (x : List (Option Token)). IsPut g s name (side_from output.port (sides_of x)) s) (sym (not_popped given none)) (put_nothing g name s output.port can.has);
        is = done;
      }

  pub settled_skip : CanSettle g s output (length given) taking → Some None ≡ slice_get given 0 → Settled s (output.port + 1) (drop 1 given) → Settled s output.port given
  settled_skip can first rest =
      subst (λ (side : List (List Token)). IsSettled g s output.node side taking change t)
      (sym (ap (λ x. side_from output.port (sides_of x)) (popped given None first) ∙ side_none output.port (sides_of (drop 1 given)) can.some)) rest

  pub settled_put : CanSettle g s output (length given) taking → (v : Token) → Some (Some v) ≡ slice_get given 0 → (target : PortAt) →
      finite.get g.graph.feeders (port_of g target) ≡ Some (port_of g output) →
      (u : Places) → u ≡ with_queue s target (queue_of s target ++ one v) → Settled u (output.port + 1) (drop 1 given) → Settled s output.port given
  settled_put can v first target fed u put rest =
      let at = input_there g is s can.has target (fed_input g can.typed (port_of g target) (port_of g output) fed) in
      let one_put = put_one g is can.typed s can.has target (port_of g target).node at v name output.port can.some fed in
      let first_put = subst (IsPut g s name (side_from output.port (one v ∷ []))) (sym put) one_put in
      record {
        given = rest.given;
        is_put =
            subst (λ (x : List (Option Token)). IsPut g s name (side_from output.port (sides_of x)) rest.given) (sym (popped given (Some v) first))
            (put_more g name s u rest.given output.port (one v) (sides_of (drop 1 given)) can.some first_put rest.is_put);
        is = rest.is;
      }

-- after a token is put the rest can go on, and the token can be taken back
module _ (g : GraphValue) (is : IsGraph g) (output : PortAt) (taking : Taking) (s : Places) (count : ℕ) (can : CanSettle g s output count taking)
    (v : Token) (target : PortAt) (fed : finite.get g.graph.feeders (port_of g target) ≡ Some (port_of g output)) where
  pub there : IsInputAt g s target (port_of g target).node
  there = input_there g is s can.has target (fed_input g can.typed (port_of g target) (port_of g output) fed)

  module _ (u : Places) (put : u ≡ with_queue s target (queue_of s target ++ one v)) where
    pub put_has : HasPlaces g u
    put_has = subst (HasPlaces g) (sym put) (has_same g is s target (port_of g target).node there (queue_of s target ++ one v) can.has)

    pub there_after : IsInputAt g u target (port_of g target).node
    there_after = input_there g is u put_has target (fed_input g can.typed (port_of g target) (port_of g output) fed)

    pub back : (w : Places) → w ≡ with_queue u target (but_last (queue_of u target)) → w ≡ s
    back w is_back =
        is_back ∙ ap (λ x. with_queue x target (but_last (queue_of x target))) put ∙ taken_back g is can.typed s can.has target (port_of g target).node there v
