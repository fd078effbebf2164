-- A Join before the Tagger fills the wire between them.
use Rattle.std.proofs.Common.{◌≡◌, ◌≢◌, ℕ, zero, suc, ◌+◌, ◌≤◌, refl, sym, ap, subst, ◌∙◌, Bool, if◌then◌else◌, length, map, List, [], ◌∷◌, ◌++◌, Some, None, arith, length-append}
use Rattle.std.specs.List.{concat}
use Rattle.std.proofs.lemmas.Option.{same_Some}
use Rattle.components.specs.declared.kind.Kind.TheVariants.{Join, Tagger}
use Rattle.components.specs.Name.{Name, port_get}
use Rattle.components.specs.Kind.{Shape}
use Rattle.components.specs.Orders.{other_bytes, same_bytes}
use Rattle.circuits.specs.PortTokens.{Token, at_port, share_from, one}
use Rattle.circuits.specs.Firing.{Label.Fire}
use Rattle.circuits.specs.Circuit.{Circuit}
use Rattle.circuits.specs.CircuitState.{CircuitState}
use Rattle.circuits.specs.Run.{Step, Firing, Firings}
use Rattle.circuits.proofs.Steps.{share_same}
use Rattle.circuits.proofs.Beside.{none_some}
use Rattle.circuits.proofs.Sides.{port_zero}
use Rattle.circuits.proofs.Simulation.{firings_then}
use Rattle.tagged_loop.specs.Ring.{port_of, RingNames, HasRing, Overlaps}
use Rattle.tagged_loop.proofs.TagOverlap.{reached, reach, overlaps}

abbrev head_of : List Token → Token
head_of [] = []
head_of (v ∷ vs) = v

abbrev tail_of : List Token → List Token
tail_of [] = []
tail_of (v ∷ vs) = vs

abbrev heads : (ℕ → List Token) → List Shape → List Token
heads w [] = []
heads w (b ∷ bs) = head_of (w 1) ∷ heads (λ i. w (suc i)) bs

abbrev tails : (ℕ → List Token) → List Shape → ℕ → List Token
tails w [] i = w i
tails w (b ∷ bs) zero = w zero
tails w (b ∷ bs) (suc zero) = tail_of (w 1)
tails w (b ∷ bs) (suc (suc i)) = tails (λ j. w (suc j)) bs (suc i)

-- at each port at least k tokens wait
abbrev Holds : ℕ → List Shape → (ℕ → List Token) → Type 0
Holds k bs w = (i : ℕ) (b : Shape) → port_get bs i ≡ Some b → k ≤ length (w i)

holds_later : (k : ℕ) (a : Shape) (bs : List Shape) (w : ℕ → List Token) → Holds k (a ∷ bs) w → Holds k bs (λ i. w (suc i))
holds_later k a bs w h zero b e = absurd (none_some None b refl (sym (port_zero bs) ∙ e))
holds_later k a bs w h (suc i) b e = h (suc (suc i)) b e

head_tail : (xs : List Token) (k : ℕ) → suc k ≤ length xs → xs ≡ one (head_of xs) ++ tail_of xs
head_tail [] k h = absurd (omega (arith, h))
head_tail (x ∷ xs) k h = refl

tail_long : (xs : List Token) (k : ℕ) → suc k ≤ length xs → k ≤ length (tail_of xs)
tail_long [] k h = absurd (omega (arith, h))
tail_long (x ∷ xs) k h = omega (arith, h)

pops : (bs : List Shape) (w : ℕ → List Token) (k : ℕ) → Holds (suc k) bs w → (i : ℕ) → w i ≡ at_port (map one (heads w bs)) i ++ tails w bs i
pops [] w k h i = refl
pops (b ∷ bs) w k h zero = refl
pops (b ∷ bs) w k h (suc zero) = head_tail (w 1) k (h 1 b refl)
pops (b ∷ bs) w k h (suc (suc i)) = pops bs (λ j. w (suc j)) k (holds_later (suc k) b bs w h) (suc i)

tails_hold : (bs : List Shape) (w : ℕ → List Token) (k : ℕ) → Holds (suc k) bs w → Holds k bs (tails w bs)
tails_hold [] w k h i b e = absurd (none_some None b refl e)
tails_hold (a ∷ bs) w k h zero b e = absurd (none_some None b refl e)
tails_hold (a ∷ bs) w k h (suc zero) b e = tail_long (w 1) k (h 1 a refl)
tails_hold (a ∷ bs) w k h (suc (suc i)) b e = tails_hold bs (λ j. w (suc j)) k (holds_later (suc k) a bs w h) (suc i) b e

heads_long : (bs : List Shape) (w : ℕ → List Token) → length (heads w bs) ≡ length bs
heads_long [] w = refl
heads_long (b ∷ bs) w = ap suc (heads_long bs (λ i. w (suc i)))

module _ (c : Circuit) (x : RingNames) (a : Shape) (d : Bool) (n : ℕ) (has : HasRing c x a d n) (pin : Name) (bs : List Shape) (is_pin : c.kind_at pin ≡ Some (Join bs)) (feeds : c.feeder (port_of x.tagger 1) ≡ Some (port_of pin 1)) where
  tagger_pin : x.tagger ≢ pin
  tagger_pin is = let k : Tagger a n ≡ Join bs = same_Some _ _ (sym has.is_tagger ∙ ap c.kind_at is ∙ is_pin) in let z : ⊥ = cc in z

  join_to : CircuitState → CircuitState
  join_to s = reached c s pin (map one (heads (λ i. s.wires (port_of pin i)) bs)) (one (concat (heads (λ i. s.wires (port_of pin i)) bs)) ∷ []) (s.slots pin) (tails (λ i. s.wires (port_of pin i)) bs)

  join_step : (s : CircuitState) (k : ℕ) → Holds (suc k) bs (λ i. s.wires (port_of pin i)) → Step c s pin (Fire 0) (join_to s)
  unfolding join_to
  join_step s k h =
      let w : ℕ → List Token = λ i. s.wires (port_of pin i) in
      reach c s pin (map one (heads w bs)) (one (concat (heads w bs)) ∷ []) (s.slots pin) (tails w bs) (Join bs) (Fire 0) is_pin
      (heads w bs, refl, heads_long bs w, refl, refl, refl) (pops bs w k h)

  -- what one firing of the Join leaves
  record Filled (s t : CircuitState) (k : ℕ) : Type 0 where
    slots : t.slots x.tagger ≡ s.slots x.tagger
    more : length (s.wires (port_of x.tagger 1)) + k ≤ length (t.wires (port_of x.tagger 1))

  join_slots : (s : CircuitState) → (join_to s).slots x.tagger ≡ s.slots x.tagger
  unfolding join_to
  join_slots s = ap (λ b. if b then s.slots pin else s.slots x.tagger) (other_bytes x.tagger pin tagger_pin)

  join_wire : (s : CircuitState) → length ((join_to s).wires (port_of x.tagger 1)) ≡ length (s.wires (port_of x.tagger 1)) + 1
  unfolding join_to
  join_wire s =
      let w : ℕ → List Token = λ i. s.wires (port_of pin i) in
      let given : List (List Token) = one (concat (heads w bs)) ∷ [] in
      ap length
      ((λ j. (if other_bytes x.tagger pin tagger_pin j then tails w bs 1 else s.wires (port_of x.tagger 1)) ++ share_from pin given (feeds j))
      ∙ ap (λ z. s.wires (port_of x.tagger 1) ++ z) (share_same pin given (port_of pin 1) refl))
      ∙ length-append (s.wires (port_of x.tagger 1)) (one (concat (heads w bs)))

  join_holds : (s : CircuitState) (k : ℕ) → Holds (suc k) bs (λ i. s.wires (port_of pin i)) → Holds k bs (λ i. (join_to s).wires (port_of pin i))
  unfolding join_to
  join_holds s k h i b e =
      let w : ℕ → List Token = λ i. s.wires (port_of pin i) in
      let given : List (List Token) = one (concat (heads w bs)) ∷ [] in
      let rest : List Token = share_from pin given (c.feeder (port_of pin i)) in
      let wire : (join_to s).wires (port_of pin i) ≡ tails w bs i ++ rest = ap (λ z. (if z then tails w bs i else s.wires (port_of pin i)) ++ rest) (same_bytes pin pin refl) in
      let long : length (tails w bs i ++ rest) ≡ length (tails w bs i) + length rest = length-append (tails w bs i) rest in
      let enough : k ≤ length (tails w bs i) = tails_hold bs w k h i b e in
      subst (λ z. k ≤ length z) (sym wire) (omega (arith, long, enough))

  fill : (k : ℕ) (s : CircuitState) → Holds k bs (λ i. s.wires (port_of pin i)) → (fs : List Firing) × (t : CircuitState) × Firings c s fs t × Filled s t k
  fill zero s h = ([], s, refl, record { slots = refl; more = omega arith })
  fill (suc k) s h =
      let (fs, t, leads, done) = fill k (join_to s) (join_holds s k h) in
      let wire = join_wire s in
      let more = done.more in (
        record { node = pin; choice = 0 } ∷ fs,
        t,
        (join_to s, join_step s k h, leads),
        record { slots = done.slots ∙ join_slots s; more = omega (arith, wire, more) },
      )

  -- where no slot is taken and k tokens wait at each input of the Join, k at most n, some firings lead to k slots without results
  pub pin_overlaps : (s : CircuitState) (k : ℕ) → k ≤ n → s.slots x.tagger ≡ [] → Holds k bs (λ i. s.wires (port_of pin i)) → Overlaps c x s k
  pin_overlaps s k le none h =
      let (fs, t, leads, done) = fill k s h in
      let more = done.more in
      let next = overlaps c x a d n has t k le (done.slots ∙ none) (omega (arith, more)) in
      record {
        firings = fs ++ next.firings;
        end = next.end;
        leads = firings_then c s fs t next.firings next.end leads next.leads;
        slots = next.slots;
        none_ready = next.none_ready;
      }
