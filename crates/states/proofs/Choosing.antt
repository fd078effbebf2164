-- Nodes that choose what they take: a Mux, a Merge, a Tagger.
use Rattle.std.proofs.Common.{◌≡◌, ◌≢◌, ℕ, zero, suc, ◌^◌, ◌<◌, Bool, true, false, List, [], ◌∷◌, ◌++◌, length, Option, Some, None, is_some, nat_eq, nat_lt, refl, sym, ap, ◌∙◌, arith, inl, inr}
use Rattle.std.specs.Prelude.{MatchOption, ◌&&◌, ◌||◌, ◌⊎◌, if◌then◌else◌}
use Rattle.std.proofs.lemmas.Bool.Decides.{nat_tests}
use Rattle.std.specs.Option.{is_none}
use Rattle.std.specs.List.{AllByRecursion}
use Rattle.std.proofs.lemmas.Bool.{cases_Bool, false≢true, true≢false}
use Rattle.std.proofs.lemmas.Bool.Decides.{Decides-ltb, Decides-eqb}
use Rattle.std.proofs.lemmas.Option.{none-some, same_Some}
use Rattle.port_types.specs.Token.{Fits}
use Rattle.components.specs.declared.kind.Kind.{Kind}
use Rattle.components.specs.declared.kind.Kind.TheVariants.{Mux, Tagger}
use Rattle.components.specs.Kind.{Shape, field, tagged}
use Rattle.circuits.specs.PortTokens.{Token, single, one, at_port}
use Rattle.circuits.specs.CircuitState.{Slot, HasNoTag}
use Rattle.circuits.specs.Firing.{Fires, Selects, one_behind, waiting, finished}
use Rattle.states.specs.declared.taking.Taking.{Taking}
use Rattle.states.specs.declared.taking.Taking.TheVariants.{Nothing, One, Both}
use Rattle.states.specs.Place.{PlaceValue, queue_at}
use Rattle.states.specs.Taking.{count_at}
use Rattle.states.specs.Ready.{FitQueues, StandAt, CanFire, IsReady, gives_tag, has_tag, head_number, is_finished, is_full, merge_taking, mux_taking, only_if, tagger_taking, waits, waits_for}

-- what stands at a port where a token is taken
front : (queue behind : List Token) (v : Token) → queue ≡ one v ++ behind → is_full queue ≡ true
front [] behind v e = absurd cc
front (w ∷ queue) behind v e = refl

-- Counts

nat_eq_suc : (i j : ℕ) → nat_eq (suc i) (suc j) ≡ nat_eq i j
nat_eq_suc i j = grind (arith, nat_tests)

nat_eq_other : (i j : ℕ) → i ≢ j → nat_eq i j ≡ false
nat_eq_other i j other = grind (arith, nat_tests)

count_other : (input i : ℕ) → input ≢ i → count_at (One i) input ≡ 0
count_other input i other = ap (λ b. if b then 1 else 0) (nat_eq_other input i other)

count_neither : (input i j : ℕ) → input ≢ i → input ≢ j → count_at (Both i j) input ≡ 0
count_neither input i j other next =
    ap (λ b. if b then 1 else (if nat_eq input j then 1 else 0)) (nat_eq_other input i other) ∙ ap (λ b. if b then 1 else 0) (nat_eq_other input j next)

-- A Mux

select_zero : (queues taken : List (List Token)) (v : Token) → StandAt queues taken → taken ≡ one (single 0) ∷ one v ∷ [] → (head_number (at_port queues 1) ≡ Some 0) × (is_full (at_port queues 2) ≡ true)
select_zero queues taken v stand is =
    let first : at_port queues 1 ≡ single 0 ∷ (stand 1).0 = (stand 1).1 ∙ ap (λ t. at_port t 1 ++ (stand 1).0) is in
    let second : at_port queues 2 ≡ one v ++ (stand 2).0 = (stand 2).1 ∙ ap (λ t. at_port t 2 ++ (stand 2).0) is in
    (ap head_number first, front (at_port queues 2) (stand 2).0 v second)

select_one : (queues taken : List (List Token)) (v : Token) → StandAt queues taken → taken ≡ one (single 1) ∷ [] ∷ one v ∷ [] → (head_number (at_port queues 1) ≡ Some 1) × (is_full (at_port queues 3) ≡ true)
select_one queues taken v stand is =
    let first : at_port queues 1 ≡ single 1 ∷ (stand 1).0 = (stand 1).1 ∙ ap (λ t. at_port t 1 ++ (stand 1).0) is in
    let third : at_port queues 3 ≡ one v ++ (stand 3).0 = (stand 3).1 ∙ ap (λ t. at_port t 3 ++ (stand 3).0) is in
    (ap head_number first, front (at_port queues 3) (stand 3).0 v third)

-- what is told of the head is as the select says
mux_told : (queues taken : List (List Token)) (v : Token) → StandAt queues taken → Selects v taken →
    ((head_number (at_port queues 1) ≡ Some 0) × (is_full (at_port queues 2) ≡ true)) ⊎ ((head_number (at_port queues 1) ≡ Some 1) × (is_full (at_port queues 3) ≡ true))
mux_told queues taken v stand (inl is) = inl (select_zero queues taken v stand is)
mux_told queues taken v stand (inr is) = inr (select_one queues taken v stand is)

mux_three : (shape : Shape) (slots : List Slot) (q r u : List Token) → FitQueues (field 1 ∷ shape ∷ shape ∷ []) (q ∷ r ∷ u ∷ []) →
    MatchOption (mux_taking 0 (q ∷ r ∷ u ∷ [])) (¬ (CanFire (Mux shape) 0 (record { queues = q ∷ r ∷ u ∷ []; slots = slots }))) (IsReady (Mux shape) 0 (record { queues = q ∷ r ∷ u ∷ []; slots = slots }))
mux_three shape slots [] r u fits = λ can.
    elim (mux_told ([] ∷ r ∷ u ∷ []) can.taken can.fires.0 can.stand can.fires.2) [ inl h ↦ absurd (none-some 0 h.0) | inr h ↦ absurd (none-some 1 h.0) ]
mux_three shape slots ([] ∷ q) r u fits = absurd fits.0.0
mux_three shape slots ((n ∷ m ∷ w) ∷ q) r u fits = absurd fits.0.0.1
mux_three shape slots ((suc (suc n) ∷ []) ∷ q) r u fits = let below : suc (suc n) < 2 ^ 1 = fits.0.0.0 in absurd (omega arith)
mux_three shape slots ((zero ∷ []) ∷ q) [] u fits = λ can.
    elim (mux_told (((zero ∷ []) ∷ q) ∷ [] ∷ u ∷ []) can.taken can.fires.0 can.stand can.fires.2) [
      | inl h ↦ absurd (false≢true h.1)
      | inr h ↦ let e : 0 ≡ 1 = same_Some 0 1 h.0 in absurd (omega (arith, e))
    ]
mux_three shape slots ((zero ∷ []) ∷ q) (v ∷ r) u fits =
    record {
      can = record { taken = one (single 0) ∷ one v ∷ []; given = one v ∷ []; new = slots; stand = stand; fires = (v, refl, inl refl, refl, refl) };
      within = (omega arith, omega arith, λ e. absurd (omega (arith, e)));
      counts = counts;
    }
  where
    stand : StandAt (((zero ∷ []) ∷ q) ∷ (v ∷ r) ∷ u ∷ []) (one (single 0) ∷ one v ∷ [])
    stand zero = ([], refl)
    stand (suc zero) = (q, refl)
    stand (suc (suc zero)) = (r, refl)
    stand (suc (suc (suc port))) = (at_port (u ∷ []) (suc port), refl)

    counts : (input : ℕ) → input < 3 → count_at (Both 0 1) input ≡ length (at_port (one (single 0) ∷ one v ∷ []) (suc input))
    counts zero below = refl
    counts (suc zero) below = refl
    counts (suc (suc input)) below = count_neither (suc (suc input)) 0 1 (λ e. absurd (omega (arith, e))) (λ e. absurd (omega (arith, e)))
mux_three shape slots ((suc zero ∷ []) ∷ q) r [] fits = λ can.
    elim (mux_told (((suc zero ∷ []) ∷ q) ∷ r ∷ [] ∷ []) can.taken can.fires.0 can.stand can.fires.2) [
      | inl h ↦ let e : 1 ≡ 0 = same_Some 1 0 h.0 in absurd (omega (arith, e))
      | inr h ↦ absurd (false≢true h.1)
    ]
mux_three shape slots ((suc zero ∷ []) ∷ q) r (v ∷ u) fits =
    record {
      can = record { taken = one (single 1) ∷ [] ∷ one v ∷ []; given = one v ∷ []; new = slots; stand = stand; fires = (v, refl, inr refl, refl, refl) };
      within = (omega arith, omega arith, λ e. absurd (omega (arith, e)));
      counts = counts;
    }
  where
    stand : StandAt (((suc zero ∷ []) ∷ q) ∷ r ∷ (v ∷ u) ∷ []) (one (single 1) ∷ [] ∷ one v ∷ [])
    stand zero = ([], refl)
    stand (suc zero) = (q, refl)
    stand (suc (suc zero)) = (r, refl)
    stand (suc (suc (suc zero))) = (u, refl)
    stand (suc (suc (suc (suc port)))) = ([], refl)

    counts : (input : ℕ) → input < 3 → count_at (Both 0 2) input ≡ length (at_port (one (single 1) ∷ [] ∷ one v ∷ []) (suc input))
    counts zero below = refl
    counts (suc zero) below = refl
    counts (suc (suc zero)) below = refl
    counts (suc (suc (suc input))) below = absurd (omega arith)

pub mux_ready : (shape : Shape) (choice : ℕ) (queues : List (List Token)) (slots : List Slot) → FitQueues (field 1 ∷ shape ∷ shape ∷ []) queues →
    MatchOption (mux_taking choice queues) (¬ (CanFire (Mux shape) choice (record { queues = queues; slots = slots }))) (IsReady (Mux shape) choice (record { queues = queues; slots = slots }))
mux_ready shape (suc choice) queues slots fits = λ can. absurd (omega (arith, can.fires.1))
mux_ready shape zero [] slots fits = absurd fits
mux_ready shape zero (q ∷ []) slots fits = absurd fits.1
mux_ready shape zero (q ∷ r ∷ []) slots fits = absurd fits.1.1
mux_ready shape zero (q ∷ r ∷ u ∷ []) slots fits = mux_three shape slots q r u fits
mux_ready shape zero (q ∷ r ∷ u ∷ t ∷ queues) slots fits = absurd fits.1.1.1

-- A Merge

behind_at : (choice : ℕ) (v : Token) → at_port (one_behind choice v) (suc choice) ≡ one v
behind_at zero v = refl
behind_at (suc choice) v = behind_at choice v

queue_port : (queues : List (List Token)) (input : ℕ) → at_port queues (suc input) ≡ queue_at queues input
queue_port [] input = refl
queue_port (queue ∷ queues) zero = refl
queue_port (queue ∷ queues) (suc input) = queue_port queues input

merge_full : (choice : ℕ) (queues taken : List (List Token)) (v : Token) → StandAt queues taken → taken ≡ one_behind choice v → is_full (queue_at queues choice) ≡ true
merge_full choice queues taken v stand is =
    front (queue_at queues choice) (stand (suc choice)).0 v
    (sym (queue_port queues choice) ∙ (stand (suc choice)).1 ∙ ap (λ t. at_port t (suc choice) ++ (stand (suc choice)).0) is ∙ ap (λ x. x ++ (stand (suc choice)).0) (behind_at choice v))

-- the token at the head of an input
pub record HeadAt (queues : List (List Token)) (input : ℕ) : Type 0 where
  pub token : Token
  pub below : input < length queues
  pub stand : StandAt queues (one_behind input token)

pub head_at : (queues : List (List Token)) (input : ℕ) → is_full (queue_at queues input) ≡ true → HeadAt queues input
head_at [] input full = absurd (false≢true full)
head_at ([] ∷ queues) zero full = absurd (false≢true full)
head_at ((v ∷ queue) ∷ queues) zero full = record { token = v; below = omega arith; stand = stand }
  where
    stand : StandAt ((v ∷ queue) ∷ queues) (one v ∷ [])
    stand zero = ([], refl)
    stand (suc zero) = (queue, refl)
    stand (suc (suc port)) = (at_port queues (suc port), refl)
head_at (queue ∷ queues) (suc input) full =
    let rest = head_at queues input full in
    record { token = rest.token; below = omega (arith, rest.below); stand = stand rest }
  where
    stand : (rest : HeadAt queues input) → StandAt (queue ∷ queues) ([] ∷ one_behind input rest.token)
    stand rest zero = ([], refl)
    stand rest (suc zero) = (queue, refl)
    stand rest (suc (suc port)) = rest.stand (suc port)

pub behind_counts : (choice : ℕ) (v : Token) (input : ℕ) → count_at (One choice) input ≡ length (at_port (one_behind choice v) (suc input))
behind_counts zero v zero = refl
behind_counts zero v (suc input) = count_other (suc input) 0 (λ e. absurd (omega (arith, e)))
behind_counts (suc choice) v zero = count_other 0 (suc choice) (λ e. absurd (omega (arith, e)))
behind_counts (suc choice) v (suc input) = ap (λ b. if b then 1 else 0) (nat_eq_suc input choice) ∙ behind_counts choice v input

module _ (kind : Kind) (count : ℕ) (place : PlaceValue)
    (given : ℕ → Token → List (List Token))
    (fires : (choice : ℕ) (v : Token) → choice < count → Fires kind choice place.slots (one_behind choice v) (given choice v) place.slots)
    (back : (choice : ℕ) (can : CanFire kind choice place) → (v : Token) × (choice < count) × (can.taken ≡ one_behind choice v)) where
  pub merge_ready : (choice : ℕ) → MatchOption (merge_taking count choice place.queues) (¬ (CanFire kind choice place)) (IsReady kind choice place)
  merge_ready choice = below (nat_lt choice count) refl
    where
      full : (f : Bool) → is_full (queue_at place.queues choice) ≡ f → choice < count → MatchOption (only_if f (One choice)) (¬ (CanFire kind choice place)) (IsReady kind choice place)
      full true is fits =
          let head = head_at place.queues choice is in
          record {
            can = record { taken = one_behind choice head.token; given = given choice head.token; new = place.slots; stand = head.stand; fires = fires choice head.token fits };
            within = head.below;
            counts = λ input within. behind_counts choice head.token input;
          }
      full false is fits = λ can. let b = back choice can in false≢true (sym is ∙ merge_full choice place.queues can.taken b.0 can.stand b.2)

      below : (b : Bool) → nat_lt choice count ≡ b →
          MatchOption (if b then only_if (is_full (queue_at place.queues choice)) (One choice) else None) (¬ (CanFire kind choice place)) (IsReady kind choice place)
      below true is = full (is_full (queue_at place.queues choice)) refl ((Decides-ltb choice count).0 is)
      below false is = λ can. let b = back choice can in false≢true (sym is ∙ (Decides-ltb choice count).1 b.1)

-- A Tagger

-- a slot that waits, among others
record WaitsAt (tag : ℕ) (slots : List Slot) : Type 0 where
  older : List Slot
  newer : List Slot
  is : slots ≡ older ++ waiting tag ∷ newer

waits_at : (tag : ℕ) (slots : List Slot) → waits tag slots ≡ true → WaitsAt tag slots
waits_at tag [] is = absurd (false≢true is)
waits_at tag (slot ∷ slots) is = same (waits_at tag slots) (nat_eq slot.tag tag) refl
  where
    go_on : (waits tag slots ≡ true → WaitsAt tag slots) → waits tag slots ≡ true → WaitsAt tag (slot ∷ slots)
    go_on later more = let rest = later more in record { older = slot ∷ rest.older; newer = rest.newer; is = ap (λ x. slot ∷ x) rest.is }

    open_slot : (waits tag slots ≡ true → WaitsAt tag slots) → (o : Option Token) → slot.result ≡ o → nat_eq slot.tag tag ≡ true → WaitsAt tag (slot ∷ slots)
    open_slot later None none one = record { older = []; newer = slots; is = λ i. record { tag = (Decides-eqb slot.tag tag).0 one i; result = none i } ∷ slots }
    open_slot later (Some v) some one = go_on later (sym (ap (λ b. (b && is_none slot.result) || waits tag slots) one ∙ ap (λ (o : Option Token). is_none o || waits tag slots) some) ∙ is)

    same : (waits tag slots ≡ true → WaitsAt tag slots) → (b : Bool) → nat_eq slot.tag tag ≡ b → WaitsAt tag (slot ∷ slots)
    same later true one = open_slot later slot.result refl one
    same later false two = go_on later (sym (ap (λ b. (b && is_none slot.result) || waits tag slots) two) ∙ is)

or_true : (b : Bool) → (b || true) ≡ true
or_true true = refl
or_true false = refl

waits_told : (tag : ℕ) (older newer : List Slot) → waits tag (older ++ waiting tag ∷ newer) ≡ true
waits_told tag [] newer = ap (λ b. (b && true) || waits tag newer) ((Decides-eqb tag tag).1 refl)
waits_told tag (slot ∷ older) newer = ap (λ b. (nat_eq slot.tag tag && is_none slot.result) || b) (waits_told tag older newer) ∙ or_true (nat_eq slot.tag tag && is_none slot.result)

no_tag : (tag : ℕ) (slots : List Slot) → has_tag tag slots ≡ false → HasNoTag tag slots
no_tag tag [] is = tt
no_tag tag (slot ∷ slots) is = elim (cases_Bool (nat_eq slot.tag tag)) [
  | inl one ↦ absurd (true≢false (sym (ap (λ b. b || has_tag tag slots) one) ∙ is))
  | inr two ↦ ((λ same. false≢true (sym two ∙ (Decides-eqb slot.tag tag).1 same)), no_tag tag slots (sym (ap (λ b. b || has_tag tag slots) two) ∙ is))
]

tag_told : (tag : ℕ) (slots : List Slot) → HasNoTag tag slots → has_tag tag slots ≡ false
tag_told tag [] none = refl
tag_told tag (slot ∷ slots) none = elim (cases_Bool (nat_eq slot.tag tag)) [
  | inl one ↦ absurd (none.0 ((Decides-eqb slot.tag tag).0 one))
  | inr two ↦ ap (λ b. b || has_tag tag slots) two ∙ tag_told tag slots none.1
]

module _ (shape : Shape) (tags : ℕ) (slots : List Slot) (queues : List (List Token)) where
  abbrev place : PlaceValue
  place = record { queues = queues; slots = slots }

  gives_ready : MatchOption (only_if (is_finished slots) Nothing) (¬ (CanFire (Tagger shape tags) 0 place)) (IsReady (Tagger shape tags) 0 place)
  gives_ready = at slots refl
    where
      first : (slot : Slot) (rest : List Slot) → slots ≡ slot ∷ rest → (o : Option Token) → slot.result ≡ o →
          MatchOption (only_if (is_some o) Nothing) (¬ (CanFire (Tagger shape tags) 0 place)) (IsReady (Tagger shape tags) 0 place)
      first slot rest is None none = λ can.
          let e : slot ∷ rest ≡ finished can.fires.0 can.fires.1 ∷ can.new = sym is ∙ can.fires.2 in
          let same : slot ≡ finished can.fires.0 can.fires.1 = cc in
          none-some can.fires.1 (sym none ∙ ap (λ (s : Slot). s.result) same)
      first slot rest is (Some v) some =
          record {
            can =
                record {
                  taken = [];
                  given = [] ∷ one v ∷ [];
                  new = rest;
                  stand = λ port. (at_port queues port, refl);
                  fires = (slot.tag, v, is ∙ (λ i. record { tag = slot.tag; result = some i } ∷ rest), refl, refl);
                };
            within = tt;
            counts = λ input below. refl;
          }

      at : (old : List Slot) → slots ≡ old → MatchOption (only_if (is_finished old) Nothing) (¬ (CanFire (Tagger shape tags) 0 place)) (IsReady (Tagger shape tags) 0 place)
      at [] is = λ can. let e : [] ≡ finished can.fires.0 can.fires.1 ∷ can.new = sym is ∙ can.fires.2 in absurd cc
      at (slot ∷ rest) is = first slot rest is slot.result refl

  tag_ready : (tag : ℕ) → MatchOption (gives_tag tags tag place) (¬ (CanFire (Tagger shape tags) (suc (suc tag)) place)) (IsReady (Tagger shape tags) (suc (suc tag)) place)
  tag_ready tag = below (nat_lt tag tags) refl
    where
      Ready : Option Taking → Type 0
      Ready o = MatchOption o (¬ (CanFire (Tagger shape tags) (suc (suc tag)) place)) (IsReady (Tagger shape tags) (suc (suc tag)) place)

      full : (f : Bool) → is_full (queue_at queues 0) ≡ f → tag < tags → HasNoTag tag slots → Ready (only_if f (One 0))
      full true is fits none =
          let head = head_at queues 0 is in
          record {
            can =
                record {
                  taken = one head.token ∷ [];
                  given = one (tag ∷ head.token) ∷ [];
                  new = slots ++ waiting tag ∷ [];
                  stand = head.stand;
                  fires = (head.token, fits, none, refl, refl, refl);
                };
            within = head.below;
            counts = λ input within. behind_counts 0 head.token input;
          }
      full false is fits none = λ can. false≢true (sym is ∙ merge_full 0 queues can.taken can.fires.0 can.stand can.fires.4)

      used : (u : Bool) → has_tag tag slots ≡ u → tag < tags → Ready (if u then None else only_if (is_full (queue_at queues 0)) (One 0))
      used true is fits = λ can. true≢false (sym is ∙ tag_told tag slots can.fires.2)
      used false is fits = full (is_full (queue_at queues 0)) refl fits (no_tag tag slots is)

      below : (b : Bool) → nat_lt tag tags ≡ b → Ready (if b then (if has_tag tag slots then None else only_if (is_full (queue_at queues 0)) (One 0)) else None)
      below true is = used (has_tag tag slots) refl ((Decides-ltb tag tags).0 is)
      below false is = λ can. false≢true (sym is ∙ (Decides-ltb tag tags).1 can.fires.1)

module _ (shape : Shape) (tags : ℕ) (slots : List Slot) (q : List Token) where
  abbrev back_at : List Token → PlaceValue
  back_at r = record { queues = q ∷ r ∷ []; slots = slots }

  result_at : (r : List Token) → AllByRecursion (Fits (tagged tags shape)) r →
      MatchOption (waits_for slots (head_number r)) (¬ (CanFire (Tagger shape tags) 1 (record { queues = q ∷ r ∷ []; slots = slots }))) (IsReady (Tagger shape tags) 1 (record { queues = q ∷ r ∷ []; slots = slots }))
  result_at [] fits = λ can.
      let e : [] ≡ (can.fires.0 ∷ can.fires.1) ∷ (can.stand 2).0 = (can.stand 2).1 ∙ ap (λ t. at_port t 2 ++ (can.stand 2).0) can.fires.6 in absurd cc
  result_at ([] ∷ r) fits = absurd fits.0
  result_at ((tag ∷ v) ∷ r) fits = at (waits tag slots) refl
    where
      stand : StandAt (q ∷ ((tag ∷ v) ∷ r) ∷ []) ([] ∷ one (tag ∷ v) ∷ [])
      stand zero = ([], refl)
      stand (suc zero) = (q, refl)
      stand (suc (suc zero)) = (r, refl)
      stand (suc (suc (suc port))) = ([], refl)

      at : (b : Bool) → waits tag slots ≡ b → MatchOption (only_if b (One 1)) (¬ (CanFire (Tagger shape tags) 1 (back_at ((tag ∷ v) ∷ r)))) (IsReady (Tagger shape tags) 1 (back_at ((tag ∷ v) ∷ r)))
      at true is =
          let w = waits_at tag slots is in
          record {
            can =
                record {
                  taken = [] ∷ one (tag ∷ v) ∷ [];
                  given = [];
                  new = w.older ++ finished tag v ∷ w.newer;
                  stand = stand;
                  fires = (tag, v, w.older, w.newer, w.is, refl, refl, refl);
                };
            within = omega arith;
            counts = λ input within. behind_counts 1 (tag ∷ v) input;
          }
      at false is = λ can.
          let e : (tag ∷ v) ∷ r ≡ (can.fires.0 ∷ can.fires.1) ∷ (can.stand 2).0 = (can.stand 2).1 ∙ ap (λ t. at_port t 2 ++ (can.stand 2).0) can.fires.6 in
          let same : tag ≡ can.fires.0 = cc in
          false≢true (sym is ∙ ap (waits tag) can.fires.4 ∙ ap (λ t. waits tag (can.fires.2 ++ waiting t ∷ can.fires.3)) (sym same) ∙ waits_told tag can.fires.2 can.fires.3)

pub tagger_ready : (shape : Shape) (tags choice : ℕ) (queues : List (List Token)) (slots : List Slot) → FitQueues (shape ∷ tagged tags shape ∷ []) queues →
    MatchOption (tagger_taking tags choice (record { queues = queues; slots = slots })) (¬ (CanFire (Tagger shape tags) choice (record { queues = queues; slots = slots }))) (IsReady (Tagger shape tags) choice (record { queues = queues; slots = slots }))
tagger_ready shape tags zero queues slots fits = gives_ready shape tags slots queues
tagger_ready shape tags (suc (suc tag)) queues slots fits = tag_ready shape tags slots queues tag
tagger_ready shape tags (suc zero) [] slots fits = absurd fits
tagger_ready shape tags (suc zero) (q ∷ []) slots fits = absurd fits.1
tagger_ready shape tags (suc zero) (q ∷ r ∷ []) slots fits = result_at shape tags slots q r fits.1.0
tagger_ready shape tags (suc zero) (q ∷ r ∷ u ∷ queues) slots fits = absurd fits.1.1
