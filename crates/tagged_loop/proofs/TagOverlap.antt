-- A tagged loop can have as many tuples under way as it has tags.
use Rattle.std.proofs.Common.{◌≡◌, ℕ, zero, suc, ◌+◌, ◌<◌, ◌≤◌, inl, inr, refl, sym, ap, subst, ◌∙◌, Bool, bytes_eq, if◌then◌else◌, length, List, [], ◌∷◌, ◌++◌, Some, None, arith, length-append}
use Rattle.std.specs.List.{AllByRecursion}
use Rattle.components.specs.declared.kind.Kind.{Kind}
use Rattle.components.specs.declared.kind.Kind.TheVariants.{Tagger}
use Rattle.components.specs.Name.{Name, Port}
use Rattle.components.specs.Kind.{Shape}
use Rattle.components.specs.Orders.{other_bytes, same_bytes}
use Rattle.circuits.specs.PortTokens.{Token, at_port, share, share_from, one}
use Rattle.circuits.specs.Firing.{Label, Label.Fire, Acts}
use Rattle.circuits.specs.CircuitState.{Slot, HasNoTag, CircuitState}
use Rattle.circuits.specs.Circuit.{Circuit}
use Rattle.circuits.specs.Run.{Step}
use Rattle.circuits.proofs.Names.{name_cases}
use Rattle.circuits.proofs.Steps.{share_same, share_other}
use Rattle.circuits.proofs.Lists.{each_append, each_map}
use Rattle.circuit_plans.proofs.PlanAfter.{pop1, pop1_takes}
use Rattle.tagged_loop.specs.Ring.{port_of, RingNames, HasRing, Overlaps}

module _ (c : Circuit) (s : CircuitState) (n : Name) (taken given : List (List Token)) (new : List Slot) (left : ℕ → List Token) where
  abbrev between : Port → List Token
  between p = if bytes_eq p.node n then left p.port else s.wires p

  -- the state after a step of node n
  abbrev pub reached : CircuitState
  reached = record { wires = λ p. between p ++ share_from n given (c.feeder p); slots = λ m. if bytes_eq m n then new else s.slots m }

  takes_at : ((i : ℕ) → s.wires (port_of n i) ≡ at_port taken i ++ left i) → (p : Port) → s.wires p ≡ share n taken p ++ between p
  takes_at h p =
      elim (name_cases p.node n) [
        | inl is ↦
            ap (λ z. s.wires (record { node = z; port = p.port })) is.is ∙ h p.port
            ∙ (λ j. sym (share_same n taken p is.is) j ++ (if sym is.test j then left p.port else s.wires p))
        | inr ne ↦ λ j. sym (share_other n taken p ne.is_not) j ++ (if sym ne.test j then left p.port else s.wires p)
      ]

  pub reach : (k : Kind) (l : Label) → c.kind_at n ≡ Some k → Acts k l (s.slots n) taken given new → ((i : ℕ) → s.wires (port_of n i) ≡ at_port taken i ++ left i) → Step c s n l reached
  reach k l e acts h =
      record {
        kind = k;
        is_kind = e;
        taken = taken;
        given = given;
        acts = subst (λ b. Acts k l (s.slots n) taken given (if b then new else s.slots n)) (sym (same_bytes n n refl)) acts;
        between = between;
        takes = takes_at h;
        gives = λ p. refl;
        others = λ m ne. ap (λ b. if b then new else s.slots m) (other_bytes m n ne);
      }

below_free : (i : ℕ) (xs : List Slot) → AllByRecursion (λ y. y.tag < i) xs → HasNoTag i xs
below_free i [] h = tt
below_free i (x ∷ xs) h = (λ e. let lt : x.tag < i = h.0 in absurd (omega (arith, e, lt)), below_free i xs h.1)

-- i slots are open, with the tags below i, and k tokens more wait
record Waits (x : RingNames) (s : CircuitState) (i k : ℕ) : Type 0 where
  slots : length (s.slots x.tagger) ≡ i
  below : AllByRecursion (λ y. y.tag < i) (s.slots x.tagger)
  none_ready : AllByRecursion (λ y. y.result ≡ None) (s.slots x.tagger)
  enough : k ≤ length (s.wires (port_of x.tagger 1))

module _ (c : Circuit) (x : RingNames) (a : Shape) (d : Bool) (n : ℕ) (has : HasRing c x a d n) where
  take_to : (s : CircuitState) (i : ℕ) (v : Token) (r : List Token) → CircuitState
  take_to s i v r = reached c s x.tagger (one v ∷ []) (one (i ∷ v) ∷ []) (s.slots x.tagger ++ record { tag = i; result = None } ∷ []) (pop1 (λ j. s.wires (port_of x.tagger j)) r)

  take_step : (s : CircuitState) (i : ℕ) (v : Token) (r : List Token) → i < n → AllByRecursion (λ y. y.tag < i) (s.slots x.tagger) → s.wires (port_of x.tagger 1) ≡ v ∷ r → Step c s x.tagger (Fire (suc (suc i))) (take_to s i v r)
  unfolding take_to
  take_step s i v r lt below e =
      reach c s x.tagger (one v ∷ []) (one (i ∷ v) ∷ []) (s.slots x.tagger ++ record { tag = i; result = None } ∷ []) (pop1 (λ j. s.wires (port_of x.tagger j)) r)
      (Tagger a n) (Fire (suc (suc i))) has.is_tagger (v, lt, below_free i (s.slots x.tagger) below, refl, refl, refl)
      (pop1_takes (λ j. s.wires (port_of x.tagger j)) v r e)

  take_waits : (s : CircuitState) (i k : ℕ) (v : Token) (r : List Token) → Waits x s i (suc k) → s.wires (port_of x.tagger 1) ≡ v ∷ r → Waits x (take_to s i v r) (suc i) k
  unfolding take_to
  take_waits s i k v r h e =
      let more : List Slot = s.slots x.tagger ++ record { tag = i; result = None } ∷ [] in
      let slots : (take_to s i v r).slots x.tagger ≡ more = ap (λ b. if b then more else s.slots x.tagger) (same_bytes x.tagger x.tagger refl) in
      let wire : (take_to s i v r).wires (port_of x.tagger 1) ≡ r ++ share_from x.tagger (one (i ∷ v) ∷ []) (c.feeder (port_of x.tagger 1)) =
      ap (λ b. (if b then r else s.wires (port_of x.tagger 1)) ++ share_from x.tagger (one (i ∷ v) ∷ []) (c.feeder (port_of x.tagger 1))) (same_bytes x.tagger x.tagger refl) in
      let long : length more ≡ length (s.slots x.tagger) + 1 = length-append (s.slots x.tagger) (record { tag = i; result = None } ∷ []) in
      let was : suc k ≤ suc (length r) = subst (λ z. suc k ≤ length z) e h.enough in
      let rest : length (r ++ share_from x.tagger (one (i ∷ v) ∷ []) (c.feeder (port_of x.tagger 1))) ≡ length r + length (share_from x.tagger (one (i ∷ v) ∷ []) (c.feeder (port_of x.tagger 1))) = length-append r (share_from x.tagger (one (i ∷ v) ∷ []) (c.feeder (port_of x.tagger 1))) in
      let count = h.slots in
      record {
        slots = ap length slots ∙ omega (arith, long, count);
        below = subst (AllByRecursion (λ y. y.tag < suc i)) (sym slots) (each_append (λ (y : Slot). y.tag < suc i) (s.slots x.tagger) _ (each_map (λ (y : Slot). y.tag < i) (λ (y : Slot). y.tag < suc i) (λ y lt. omega (arith, lt)) (s.slots x.tagger) h.below) (omega arith, tt));
        none_ready = subst (AllByRecursion (λ y. y.result ≡ None)) (sym slots) (each_append (λ (y : Slot). y.result ≡ None) (s.slots x.tagger) _ h.none_ready (refl, tt));
        enough = subst (λ z. k ≤ length z) (sym wire) (omega (arith, was, rest));
      }

  overlap_at : (k i : ℕ) (s : CircuitState) → i + suc k ≤ n → Waits x s i (suc k) → (w : List Token) → s.wires (port_of x.tagger 1) ≡ w → ((t : CircuitState) → Waits x t (suc i) k → Overlaps c x t (suc i + k)) → Overlaps c x s (i + suc k)
  overlap_at k i s le h [] e go = absurd (let z : suc k ≤ 0 = subst (λ z. suc k ≤ length z) e h.enough in omega (arith, z))
  overlap_at k i s le h (v ∷ r) e go =
      let next = go (take_to s i v r) (take_waits s i k v r h e) in
      record {
        firings = record { node = x.tagger; choice = suc (suc i) } ∷ next.firings;
        end = next.end;
        leads = (take_to s i v r, take_step s i v r (omega (arith, le)) h.below e, next.leads);
        slots = next.slots ∙ omega arith;
        none_ready = next.none_ready;
      }

  overlap_from : (k i : ℕ) (s : CircuitState) → i + k ≤ n → Waits x s i k → Overlaps c x s (i + k)
  overlap_from zero i s le h =
      record { firings = []; end = s; leads = refl; slots = (let e = h.slots in omega (arith, e)); none_ready = h.none_ready }
  overlap_from (suc k) i s le h =
      overlap_at k i s le h (s.wires (port_of x.tagger 1)) refl (λ t g. overlap_from k (suc i) t (omega (arith, le)) g)

  -- where no slot is taken and k tokens wait, k at most n, some firings lead to k slots without results
  pub overlaps : (s : CircuitState) (k : ℕ) → k ≤ n → s.slots x.tagger ≡ [] → k ≤ length (s.wires (port_of x.tagger 1)) → Overlaps c x s k
  overlaps s k le e enough =
      let z : zero + k ≡ k = omega arith in
      subst (Overlaps c x s) z
      (overlap_from k zero s (omega (arith, le)) (record {
        slots = ap length e;
        below = subst (AllByRecursion (λ y. y.tag < 0)) (sym e) tt;
        none_ready = subst (AllByRecursion (λ y. y.result ≡ None)) (sym e) tt;
        enough = enough;
      }))
