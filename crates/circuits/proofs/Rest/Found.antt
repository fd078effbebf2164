-- A typed graph has a rest state: each led node fires at most once.
use Rattle.std.proofs.Common.{◌≡◌, ◌≢◌, ℕ, zero, suc, ◌≤◌, ◌⊎◌, inl, inr, Bool, true, false, refl, sym, ap, subst, ◌∙◌, if◌then◌else◌, bytes_eq, cond, length, map, replicate, List, [], ◌∷◌, ◌++◌, Option, Some, None, append-nil, arith}
use Rattle.std.specs.FinMap as finite
use Rattle.std.specs.FinMap.{get-entries}
use Rattle.std.specs.FinMap.Entries.{find}
use Rattle.std.specs.List.{AllByRecursion}
use Rattle.std.proofs.lemmas.Option.{same_Some}
use Rattle.components.specs.declared.kind.Kind.{Kind}
use Rattle.components.specs.declared.kind.Kind.TheVariants.{Buffer, Fork, Init}
use Rattle.components.specs.Name.{Name, Port, name_cmp}
use Rattle.components.specs.Node.{Body}
use Rattle.components.specs.NamedGraph.{NamedGraph}
use Rattle.components.specs.Lookups.{other_test}
use Rattle.components.specs.Orders.{name_total, name_same}
use Rattle.circuits.specs.PortTokens.{Token, one, at_port, share, share_from}
use Rattle.circuits.specs.Circuit.{Circuit, circuit_of, kind_of, kind_of_body}
use Rattle.circuits.specs.CircuitState.{Slot, CircuitState, start, initial}
use Rattle.circuits.specs.Firing.{Label.Fire, Fires}
use Rattle.circuits.specs.Run.{Step, Firing, Firings}
use Rattle.circuits.specs.Buffers.{first_port}
use Rattle.circuits.specs.Root.{PassesThrough}
use Rattle.circuits.specs.Drains.{Led, IsRest}
use Rattle.circuits.proofs.Names.{name_cases}
use Rattle.circuits.proofs.Steps.{acts_at, share_same, share_other}
use Rattle.circuits.proofs.MadeSteps.{Deed, after, step_made}
use Rattle.circuits.proofs.Rest.OneRest.{Passed, passes_one, given_for}
use Rattle.circuits.proofs.Rest.Inits.{Comes, start_comes, led_comes}

-- lists of at most one token
abbrev AtMostOne : List Token → Type 0
AtMostOne [] = Unit {0}
AtMostOne (v ∷ []) = Unit {0}
AtMostOne (v ∷ w ∷ vs) = ⊥

few_behind : (v : Token) (vs : List Token) → AtMostOne (v ∷ vs) → vs ≡ []
few_behind v [] h = refl
few_behind v (w ∷ vs) h = absurd h

few_right : (xs ys : List Token) → AtMostOne (xs ++ ys) → AtMostOne ys
few_right [] ys h = h
few_right (x ∷ xs) ys h = few_right xs ys (subst AtMostOne (sym (few_behind x (xs ++ ys) h)) tt)

none_right : (xs ys : List Token) → xs ++ ys ≡ [] → ys ≡ []
none_right [] ys e = e
none_right (x ∷ xs) ys e = let z : x ∷ (xs ++ ys) ≡ [] = e in cc

-- what a Buffer or a Fork gives at a port
copies_few : (count : ℕ) (v : Token) (i : ℕ) → AtMostOne (at_port (replicate count (one v)) i)
copies_few zero v i = tt
copies_few (suc count) v zero = tt
copies_few (suc count) v (suc zero) = tt
copies_few (suc count) v (suc (suc i)) = copies_few count v (suc i)

given_few : (k : Kind) → PassesThrough k → (v : Token) (i : ℕ) → AtMostOne (at_port (given_for k v) i)
given_few (Buffer shape) h v i = copies_few 1 v i
given_few (Fork shape count) h v i = copies_few count v i
given_few _ h v i = absurd h

-- a Buffer or a Fork passes each token
passes_token : (k : Kind) → PassesThrough k → (v : Token) (old : List Slot) → Fires k 0 old (one v ∷ []) (given_for k v) old
passes_token (Buffer shape) h v old = (v, refl, refl, refl, refl)
passes_token (Fork shape count) h v old = (v, refl, refl, refl, refl)
passes_token _ h v old = absurd h

passes_cases : (k : Kind) → PassesThrough k ⊎ (PassesThrough k → ⊥)
passes_cases (Buffer shape) = inl tt
passes_cases (Fork shape count) = inl tt
passes_cases _ = inr (λ h. h)

initial_few : (o : Option Kind) → AtMostOne (initial o)
initial_few None = tt
initial_few (Some (Init value mark)) = tt
initial_few (Some _) = tt

initial_none : (k : Kind) → PassesThrough k → initial (Some k) ≡ []
initial_none (Buffer shape) h = refl
initial_none (Fork shape count) h = refl
initial_none _ h = absurd h

-- the name is one of these
abbrev Among : Name → List Name → Type 0
Among m [] = ⊥
Among m (x ∷ xs) = (m ≡ x) ⊎ Among m xs

among_rest : (m n : Name) → m ≢ n → (before behind : List Name) → Among m (before ++ n ∷ behind) → Among m (before ++ behind)
among_rest m n ne [] behind (inl e) = absurd (ne e)
among_rest m n ne [] behind (inr h) = h
among_rest m n ne (x ∷ before) behind (inl e) = inl e
among_rest m n ne (x ∷ before) behind (inr h) = inr (among_rest m n ne before behind h)

length_rest : (n : Name) (before behind : List Name) → length (before ++ n ∷ behind) ≡ suc (length (before ++ behind))
length_rest n [] behind = refl
length_rest n (x ∷ before) behind = ap suc (length_rest n before behind)

module _ (c : Circuit) where
  -- a Fork or Buffer with a token before it
  record Ready (s : CircuitState) (n : Name) : Type 0 where
    kind : Kind
    is_kind : c.kind_at n ≡ Some kind
    passes : PassesThrough kind
    token : Token
    behind : List Token
    waits : s.wires (first_port n) ≡ token ∷ behind

  ready_at : (s : CircuitState) (n : Name) (k : Kind) → c.kind_at n ≡ Some k → PassesThrough k → (xs : List Token) → s.wires (first_port n) ≡ xs → Ready s n ⊎ (Ready s n → ⊥)
  ready_at s n k e passes [] w = inr (λ r. let z : [] ≡ r.token ∷ r.behind = sym w ∙ r.waits in cc)
  ready_at s n k e passes (v ∷ vs) w = inl (record { kind = k; is_kind = e; passes = passes; token = v; behind = vs; waits = w })

  ready_kind : (s : CircuitState) (n : Name) (o : Option Kind) → c.kind_at n ≡ o → Ready s n ⊎ (Ready s n → ⊥)
  ready_kind s n None e = inr (λ r. let z : None ≡ Some r.kind = sym e ∙ r.is_kind in cc)
  ready_kind s n (Some k) e =
      elim (passes_cases k) [
        | inl passes ↦ ready_at s n k e passes (s.wires (first_port n)) refl
        | inr stays ↦ inr (λ r. stays (subst PassesThrough (same_Some r.kind k (sym r.is_kind ∙ e)) r.passes))
      ]

  ready_or_not : (s : CircuitState) (n : Name) → Ready s n ⊎ (Ready s n → ⊥)
  ready_or_not s n = ready_kind s n (c.kind_at n) refl

  -- one of these that can fire, or none
  data Pick (s : CircuitState) (todo : List Name) : Type 0 where
    none : ((m : Name) → Among m todo → Ready s m → ⊥) → Pick s todo
    some : (before behind : List Name) (n : Name) → todo ≡ before ++ n ∷ behind → Ready s n → Pick s todo

  pick_more : (s : CircuitState) (x : Name) (todo : List Name) → (Ready s x → ⊥) → Pick s todo → Pick s (x ∷ todo)
  pick_more s x todo idle (none h) = none (λ m a r. elim a [ inl e ↦ idle (subst (Ready s) e r) | inr b ↦ h m b r ])
  pick_more s x todo idle (some before behind n e r) = some (x ∷ before) behind n (ap (λ z. x ∷ z) e) r

  pick : (s : CircuitState) (todo : List Name) → Pick s todo
  pick s [] = none (λ m a r. a)
  pick s (x ∷ todo) =
      elim (ready_or_not s x) [ inl r ↦ some [] todo x refl r | inr idle ↦ pick_more s x todo idle (pick s todo) ]

  -- it fires
  deed : (s : CircuitState) (n : Name) → Ready s n → Deed
  deed s n r = record { node = n; kind = r.kind; label = Fire 0; taken = one r.token ∷ []; given = given_for r.kind r.token; new = s.slots n }

  next : (s : CircuitState) (n : Name) → Ready s n → CircuitState
  next s n r = after c s (deed s n r)

  fires : (s : CircuitState) (n : Name) (r : Ready s n) → Step c s n (Fire 0) (next s n r)
  unfolding deed next
  fires s n r = step_made c s (deed s n r) (record { is_kind = r.is_kind; acts = passes_token r.kind r.passes r.token (s.slots n); stands = ((r.behind, r.waits), tt) })

  -- what holds where these have fired, each once
  record Once (fired : Name → Bool) (s : CircuitState) : Type 0 where
    unarrived : (p q : Port) (k : Kind) → c.feeder p ≡ Some q → c.kind_at q.node ≡ Some k → PassesThrough k → fired q.node ≡ false → s.wires p ≡ []
    gone : (n : Name) → fired n ≡ true → s.wires (first_port n) ≡ []
    few : (p : Port) → AtMostOne (s.wires p)
    arrived : (n : Name) (q : Port) (k : Kind) → fired n ≡ true → c.feeder (first_port n) ≡ Some q → c.kind_at q.node ≡ Some k → PassesThrough k → fired q.node ≡ true

  also : Name → (Name → Bool) → Name → Bool
  also n fired m = if bytes_eq m n then true else fired m

  also_still : (b x : Bool) → x ≡ true → (if b then true else x) ≡ true
  also_still true x e = refl
  also_still false x e = e

  no_both : (b : Bool) → b ≡ true → b ≡ false → ⊥
  no_both b e f = let z : true ≡ false = sym e ∙ f in cc

  bool_cases : (b : Bool) → (b ≡ true) ⊎ (b ≡ false)
  bool_cases true = inl refl
  bool_cases false = inr refl

  no_token : (xs : List Token) (v : Token) (vs : List Token) → xs ≡ [] → xs ≡ v ∷ vs → ⊥
  no_token xs v vs e f = let z : [] ≡ v ∷ vs = sym e ∙ f in cc

  module _ (fired : Name → Bool) (s : CircuitState) (once : Once fired s) (n : Name) (r : Ready s n) (t : CircuitState) (st : Step c s n (Fire 0) t) where
    through : Passed r.kind (s.slots n) st.taken st.given (t.slots n)
    through = passes_one r.kind r.passes 0 (s.slots n) st.taken st.given (t.slots n) (acts_at c s n (Fire 0) t st r.kind r.is_kind)

    not_yet : fired n ≡ false
    not_yet = elim (bool_cases (fired n)) [ inl e ↦ absurd (no_token (s.wires (first_port n)) r.token r.behind (once.gone n e) r.waits) | inr e ↦ e ]

    -- what the node n is given comes from no node that passes and has not fired
    kind_at_n : (m : Name) → m ≡ n → c.kind_at m ≡ Some r.kind
    kind_at_n m e = ap c.kind_at e ∙ r.is_kind

    -- the wire was empty before n gave it a token
    was_empty : (p q : Port) → c.feeder p ≡ Some q → q.node ≡ n → s.wires p ≡ []
    was_empty p q f e = once.unarrived p q r.kind f (kind_at_n q.node e) r.passes (ap fired e ∙ not_yet)

    no_gift : (p q : Port) → c.feeder p ≡ Some q → q.node ≢ n → share_from n st.given (c.feeder p) ≡ []
    no_gift p q f ne = ap (share_from n st.given) f ∙ share_other n st.given q ne

    still_empty : (p : Port) → s.wires p ≡ [] → share_from n st.given (c.feeder p) ≡ [] → t.wires p ≡ []
    still_empty p e g = st.gives p ∙ (λ i. none_right (share n st.taken p) (st.between p) (sym (st.takes p) ∙ e) i ++ g i)

    left_empty : st.between (first_port n) ≡ []
    left_empty =
        let wire : s.wires (first_port n) ≡ through.token ∷ st.between (first_port n) =
        st.takes (first_port n) ∙ ap (λ z. z ++ st.between (first_port n)) (share_same n st.taken (first_port n) refl ∙ ap (λ z. at_port z 1) through.is_taken) in
        few_behind through.token (st.between (first_port n)) (subst AtMostOne wire (once.few (first_port n)))

    also_false : (m : Name) → also n fired m ≡ false → (m ≢ n) × (fired m ≡ false)
    unfolding also
    also_false m e =
        elim (name_cases m n) [
          | inl is ↦ absurd (no_both true refl (sym (ap (λ b. if b then true else fired m) is.test) ∙ e))
          | inr ne ↦ (ne.is_not, sym (ap (λ b. if b then true else fired m) ne.test) ∙ e)
        ]

    also_true : (m : Name) → also n fired m ≡ true → (m ≡ n) ⊎ ((m ≢ n) × (fired m ≡ true))
    unfolding also
    also_true m e =
        elim (name_cases m n) [ inl is ↦ inl is.is | inr ne ↦ inr (ne.is_not, sym (ap (λ b. if b then true else fired m) ne.test) ∙ e) ]

    still_fired : (m : Name) → fired m ≡ true → also n fired m ≡ true
    unfolding also
    still_fired m e = also_still (bytes_eq m n) (fired m) e

    gone_at : (m : Name) → (m ≡ n) ⊎ ((m ≢ n) × (fired m ≡ true)) → (o : Option Port) → c.feeder (first_port m) ≡ o → t.wires (first_port m) ≡ []
    gone_at m (inl e) None f =
        subst (λ z. t.wires (first_port z) ≡ []) (sym e)
        (st.gives (first_port n) ∙ (λ i. left_empty i ++ share_from n st.given ((ap (λ z. c.feeder (first_port z)) (sym e) ∙ f) i)))
    gone_at m (inl e) (Some q) f =
        let fed : c.feeder (first_port n) ≡ Some q = ap (λ z. c.feeder (first_port z)) (sym e) ∙ f in
        subst (λ z. t.wires (first_port z) ≡ []) (sym e)
        (elim (name_cases q.node n) [
          | inl is ↦ absurd (no_token (s.wires (first_port n)) r.token r.behind (was_empty (first_port n) q fed is.is) r.waits)
          | inr ne ↦ st.gives (first_port n) ∙ (λ i. left_empty i ++ no_gift (first_port n) q fed ne.is_not i)
        ])
    gone_at m (inr h) None f = still_empty (first_port m) (once.gone m h.1) (ap (share_from n st.given) f)
    gone_at m (inr h) (Some q) f =
        elim (name_cases q.node n) [
          | inl is ↦ absurd (no_both (fired n) (sym (ap fired is.is) ∙ once.arrived m q r.kind h.1 f (kind_at_n q.node is.is) r.passes) not_yet)
          | inr ne ↦ still_empty (first_port m) (once.gone m h.1) (no_gift (first_port m) q f ne.is_not)
        ]

    few_same : (p : Port) → share_from n st.given (c.feeder p) ≡ [] → AtMostOne (t.wires p)
    few_same p g =
        subst AtMostOne (sym (st.gives p ∙ ap (λ z. st.between p ++ z) g ∙ append-nil (st.between p)))
        (few_right (share n st.taken p) (st.between p) (subst AtMostOne (st.takes p) (once.few p)))

    few_at : (p : Port) (o : Option Port) → c.feeder p ≡ o → AtMostOne (t.wires p)
    few_at p None f = few_same p (ap (share_from n st.given) f)
    few_at p (Some q) f =
        elim (name_cases q.node n) [
          | inl is ↦
              let gift : t.wires p ≡ at_port (given_for r.kind through.token) q.port =
              st.gives p ∙ (λ i. none_right (share n st.taken p) (st.between p) (sym (st.takes p) ∙ was_empty p q f is.is) i ++ share_from n st.given (f i))
              ∙ share_same n st.given q is.is ∙ ap (λ z. at_port z q.port) through.is_given in
              subst AtMostOne (sym gift) (given_few r.kind r.passes through.token q.port)
          | inr ne ↦ few_same p (no_gift p q f ne.is_not)
        ]

    arrived_at : (m : Name) (q : Port) (k : Kind) → (m ≡ n) ⊎ ((m ≢ n) × (fired m ≡ true)) → c.feeder (first_port m) ≡ Some q → c.kind_at q.node ≡ Some k → PassesThrough k → fired q.node ≡ true
    arrived_at m q k (inl e) f is passes =
        elim (bool_cases (fired q.node)) [
          | inl done ↦ done
          | inr idle ↦
              absurd (no_token (s.wires (first_port n)) r.token r.behind (once.unarrived (first_port n) q k (ap (λ z. c.feeder (first_port z)) (sym e) ∙ f) is passes idle) r.waits)
        ]
    arrived_at m q k (inr h) f is passes = once.arrived m q k h.1 f is passes

    still_once : Once (also n fired) t
    still_once =
        record {
          unarrived = λ p q k f is passes e.
              let away = also_false q.node e in still_empty p (once.unarrived p q k f is passes away.1) (no_gift p q f away.0);
          gone = λ m e. gone_at m (also_true m e) (c.feeder (first_port m)) refl;
          few = λ p. few_at p (c.feeder p) refl;
          arrived = λ m q k e f is passes. still_fired q.node (arrived_at m q k (also_true m e) f is passes);
        }

  -- at the start none has fired
  none_fired : Name → Bool
  none_fired m = false

  start_few : (p : Port) → AtMostOne ((start c).wires p)
  start_few p = initial_few (kind_of c (c.feeder p))

  start_once : Once none_fired (start c)
  unfolding none_fired
  start_once =
      record {
        unarrived = λ p q k f is passes e. ap (λ o. initial (kind_of c o)) f ∙ ap initial is ∙ initial_none k passes;
        gone = λ n e. let z : false ≡ true = e in cc;
        few = start_few;
        arrived = λ n q k e f is passes. let z : false ≡ true = e in cc;
      }

  -- led firings until none is left
  record Found (s : CircuitState) : Type 0 where
    firings : List Firing
    led : AllByRecursion (λ f. Led c f.node) firings
    end : CircuitState
    leads : Firings c s firings end
    ends : (n : Name) (choice : ℕ) (t : CircuitState) → Led c n → Step c end n (Fire choice) t → ⊥

  Waiting : (Name → Bool) → List Name → Type 0
  Waiting fired todo = (m : Name) (k : Kind) → c.kind_at m ≡ Some k → fired m ≡ false → Among m todo

  none_fires : (fired : Name → Bool) (s : CircuitState) (todo : List Name) → Once fired s → Waiting fired todo → ((m : Name) → Among m todo → Ready s m → ⊥) →
      (n : Name) (choice : ℕ) (t : CircuitState) → Led c n → Step c s n (Fire choice) t → ⊥
  unfolding Waiting
  none_fires fired s todo once waiting none_ready n choice t led st =
      let by = passes_one led.kind led.passes choice (s.slots n) st.taken st.given (t.slots n) (acts_at c s n (Fire choice) t st led.kind led.is_kind) in
      let wire : s.wires (first_port n) ≡ by.token ∷ st.between (first_port n) =
      st.takes (first_port n) ∙ ap (λ z. z ++ st.between (first_port n)) (share_same n st.taken (first_port n) refl ∙ ap (λ z. at_port z 1) by.is_taken) in
      elim (bool_cases (fired n)) [
        | inl done ↦ no_token (s.wires (first_port n)) by.token (st.between (first_port n)) (once.gone n done) wire
        | inr idle ↦
            none_ready n (waiting n led.kind led.is_kind idle)
            (record { kind = led.kind; is_kind = led.is_kind; passes = led.passes; token = by.token; behind = st.between (first_port n); waits = wire })
      ]

  found_here : (fired : Name → Bool) (s : CircuitState) (todo : List Name) → Once fired s → Waiting fired todo → ((m : Name) → Among m todo → Ready s m → ⊥) → Found s
  found_here fired s todo once waiting none_ready =
      record { firings = []; led = tt; end = s; leads = refl; ends = none_fires fired s todo once waiting none_ready }

  led_of : (s : CircuitState) → Comes c s → (n : Name) → Ready s n → Led c n
  led_of s comes n r = record { kind = r.kind; is_kind = r.is_kind; passes = r.passes; comes = comes (first_port n) r.token r.behind r.waits }

  found_more : (s : CircuitState) → Comes c s → (n : Name) (r : Ready s n) → Found (next s n r) → Found s
  found_more s comes n r found =
      record {
        firings = record { node = n; choice = 0 } ∷ found.firings;
        led = (led_of s comes n r, found.led);
        end = found.end;
        leads = (next s n r, fires s n r, found.leads);
        ends = found.ends;
      }

  next_comes : (s : CircuitState) → Comes c s → (n : Name) (r : Ready s n) → Comes c (next s n r)
  next_comes s comes n r =
      led_comes c s (record { node = n; choice = 0 } ∷ []) (next s n r) (led_of s comes n r, tt) (next s n r, fires s n r, refl) comes

  next_waiting : (fired : Name → Bool) (s : CircuitState) (once : Once fired s) (todo before behind : List Name) (n : Name) (r : Ready s n) → todo ≡ before ++ n ∷ behind → Waiting fired todo →
      Waiting (also n fired) (before ++ behind)
  unfolding Waiting
  next_waiting fired s once todo before behind n r e waiting m k is idle =
      let away = also_false fired s once n r (next s n r) (fires s n r) m idle in
      among_rest m n away.0 before behind (subst (Among m) e (waiting m k is away.1))

  find_rest : (fuel : ℕ) (todo : List Name) (fired : Name → Bool) (s : CircuitState) → length todo ≤ fuel → Once fired s → Comes c s → Waiting fired todo → Found s
  find_rest zero todo fired s few once comes waiting =
      elim (pick s todo) [
        | none none_ready ↦ found_here fired s todo once waiting none_ready
        | some before behind n e r ↦ let longer = ap length e in let rest = length_rest n before behind in absurd (omega (arith, few, longer, rest))
      ]
  find_rest (suc fuel) todo fired s few once comes waiting =
      elim (pick s todo) [
        | none none_ready ↦ found_here fired s todo once waiting none_ready
        | some before behind n e r ↦
            let longer = ap length e in
            let rest = length_rest n before behind in
            found_more s comes n r
            (find_rest fuel (before ++ behind) (also n fired) (next s n r) (omega (arith, few, longer, rest))
            (still_once fired s once n r (next s n r) (fires s n r)) (next_comes s comes n r) (next_waiting fired s once todo before behind n r e waiting))
      ]

  pub names_rest : (todo : List Name) → ((m : Name) (k : Kind) → c.kind_at m ≡ Some k → Among m todo) → (rest : CircuitState) × IsRest c rest
  unfolding Waiting
  names_rest todo all =
      let found = find_rest (length todo) todo none_fired (start c) (omega arith) start_once (start_comes c) (λ m k e idle. all m k e) in
      (found.end, record { firings = found.firings; led = found.led; leads = found.leads; ends = found.ends })

-- a graph has finitely many nodes
found_among : (es : List (Name × Body)) (m : Name) (body : Body) → find name_cmp m es ≡ Some body → Among m (map (λ (e : Name × Body). e.0) es)
found_among [] m body e = let z : None ≡ Some body = e in cc
found_among (x ∷ es) m body e =
    elim (name_cases m x.0) [
      | inl is ↦ inl is.is
      | inr ne ↦ inr (found_among es m body (sym (ap (λ b. cond b (Some x.1) (find name_cmp m es)) (other_test name_total name_same m x.0 ne.is_not)) ∙ e))
    ]

node_among : (g : NamedGraph) (m : Name) (k : Kind) (o : Option Body) → finite.get g.nodes m ≡ o → kind_of_body o ≡ Some k → Among m (map (λ (e : Name × Body). e.0) (finite.entries g.nodes))
node_among g m k None e f = let z : None ≡ Some k = f in cc
node_among g m k (Some body) e f = found_among (finite.entries g.nodes) m body (sym (get-entries g.nodes m) ∙ e)

pub graph_rests : (g : NamedGraph) → (rest : CircuitState) × IsRest (circuit_of g) rest
graph_rests g =
    names_rest (circuit_of g) (map (λ (e : Name × Body). e.0) (finite.entries g.nodes)) (λ m k e. node_among g m k (finite.get g.nodes m) refl e)
