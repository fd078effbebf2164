-- a tree of Forks and Buffers brings the selects to the Muxes: each input waits for what it holds, and behind it for what its source waits for
use Rattle.std.proofs.Common.{◌≡◌, ℕ, refl, sym, ap, subst, ◌∙◌, true, false, Bool, if◌then◌else◌, replicate, List, [], ◌∷◌, ◌++◌, Option, Some, None, append-nil, append_assoc}
use Rattle.circuits.specs.CircuitState.{Slot}
use Rattle.circuits.specs.Firing.{Label.Fire, Fires}
use Rattle.circuits.specs.PortTokens.{Token, at_port, one}
use Rattle.components.specs.Kind.{Shape, outs}
use Rattle.components.specs.Name.{port_get}
use Rattle.components.specs.declared.kind.Kind.{Kind}
use Rattle.components.specs.declared.kind.Kind.TheVariants.{Buffer, Fork}
use Rattle.components.specs.Kind.{field}
use Rattle.lane_laws.specs.CombineMuxes.{Stop, into, select, Tree, Muxes, choice, node, mux, out}
use Rattle.lane_laws.proofs.MuxPlans.{led, muxes_plan}
use Rattle.lane_laws.proofs.Trees.{PassesBit, ComesFromOutside, outside, past, comes, passes_bit, fed_bit}
use Rattle.circuit_plans.proofs.Plans.{Out, Plan, Held, PlanStep, PlanInner, rest, fires, part_from, plan_then}
use Rattle.circuit_plans.proofs.PlanAfter.{after, do_step, pop1, pop1_takes}
use Rattle.circuit_plans.proofs.Places.{Place, item, same_place, same_place_is, same_place_self, with_place, each_place}
use Rattle.lane_laws.proofs.TreePorts.{fork_port, single_at}

-- what a Buffer or a Fork gives of a token
abbrev pub copies : Kind → Token → List (List Token)
copies (Buffer a) v = one v ∷ []
copies (Fork a k) v = replicate k (one v)
copies _ v = []

copies_fire : (k : Kind) (v : Token) (slots : List Slot) → PassesBit k → Fires k 0 slots (one v ∷ []) (copies k v) slots
copies_fire (Buffer a) v slots h = (v, refl, refl, refl, refl)
copies_fire (Fork a k) v slots h = (v, refl, refl, refl, refl)
copies_fire _ v slots h = absurd h

copies_port : (k : Kind) (v : Token) (i : ℕ) (b : Shape) → PassesBit k → port_get (outs k) i ≡ Some b → at_port (copies k v) i ≡ one v
copies_port (Buffer a) v i b h e = single_at a b v i e
copies_port (Fork a k) v i b h e = fork_port k a b v i e
copies_port _ v i b h e = absurd h

module _ (tree : List Kind) (lanes : List Shape) (tr : Tree tree lanes) where
  abbrev old : Plan (Muxes tree lanes)
  old = muxes_plan tree lanes tr

  abbrev pub stop : Stop tree lanes → Muxes tree lanes
  stop (into n) = node n
  stop (select l) = mux l

  -- what an input waits for, where its node waits for waits, or its Mux for selects
  abbrev pub ahead : (Place tree → List Token) → List Token → Stop tree lanes → List Token
  ahead waits selects (into n) = waits n
  ahead waits selects (select l) = selects

  abbrev pub behind : (Place tree → List Token) → Option (Out (Place tree)) → List Token
  behind waits None = []
  behind waits (Some q) = waits q.at

  abbrev pub Flow : Held (Muxes tree lanes) → (Place tree → List Token) → List Token → Type 0
  Flow t waits selects = (x : Stop tree lanes) → ahead waits selects x ≡ t.wires (stop x) 1 ++ behind waits (tr.source x)

  -- no node but the tree's and the outside feeds an input of the tree
  pub led_away : (n : Muxes tree lanes) (given : List (List Token)) (o : Option (Out (Place tree))) → old.same choice n ≡ false → ((k : Place tree) → old.same (node k) n ≡ false) → part_from old n given (led o) ≡ []
  led_away n given None e f = ap (λ z. if z then at_port given 1 else []) e
  led_away n given (Some q) e f = ap (λ z. if z then at_port given q.port else []) (f q.at)

  -- the select is fed
  fed_on : (v : Token) (waits : Place tree → List Token) (all wire : List Token) (o : Option (Out (Place tree))) → all ≡ wire ++ behind waits o → all ++ one v ≡ (wire ++ part_from old choice (one v ∷ []) (led o)) ++ behind (λ n. waits n ++ one v) o
  fed_on v waits all wire None e = ap (λ z. z ++ one v) (e ∙ append-nil wire) ∙ sym (append-nil (wire ++ one v))
  fed_on v waits all wire (Some q) e = ap (λ z. z ++ one v) e ∙ append_assoc wire (waits q.at) (one v) ∙ ap (λ z. z ++ (waits q.at ++ one v)) (sym (append-nil wire))

  pub choice_fed : (t : Held (Muxes tree lanes)) (v : Token) (waits : Place tree → List Token) (selects : List Token) → Flow t waits selects → Flow (after old t choice (t.wires choice) (one v ∷ []) (t.slots choice)) (λ n. waits n ++ one v) (selects ++ one v)
  choice_fed t v waits selects h (into n) = fed_on v waits (waits n) (t.wires (node n) 1) (tr.source (into n)) (h (into n))
  choice_fed t v waits selects h (select l) = fed_on v waits selects (t.wires (mux l) 1) (tr.source (select l)) (h (select l))

  -- a node of the tree fires
  module _ (t : Held (Muxes tree lanes)) (waits : Place tree → List Token) (selects : List Token) (flow : Flow t waits selects) (n : Place tree) (v : Token) (r : List Token) (head : t.wires (node n) 1 ≡ v ∷ r) where
    tail : List Token
    tail = r ++ behind waits (tr.source (into n))

    waits_were : waits n ≡ v ∷ tail
    unfolding tail
    waits_were = flow (into n) ∙ ap (λ z. z ++ behind waits (tr.source (into n))) head

    node_to : Held (Muxes tree lanes)
    node_to = after old t (node n) (pop1 (t.wires (node n)) r) (copies (item tree n) v) (t.slots (node n))

    node_step : PlanStep old t (node n) (Fire 0) node_to
    unfolding node_to
    node_step =
        do_step old t (node n) (Fire 0) (one v ∷ []) (copies (item tree n) v) (t.slots (node n)) (pop1 (t.wires (node n)) r)
        (copies_fire (item tree n) v (t.slots (node n)) (passes_bit tree lanes tr n)) (pop1_takes (t.wires (node n)) v r head)

    node_waits : Place tree → List Token
    node_waits m = if same_place tree m n then tail else waits m

    passed_at : (q : Out (Place tree)) → port_get (outs (item tree q.at)) q.port ≡ Some (field 1) → (b : Bool) → same_place tree q.at n ≡ b → (if b then at_port (copies (item tree n) v) q.port else []) ++ (if b then tail else waits q.at) ≡ waits q.at
    passed_at q is true e =
        let same : q.at ≡ n = same_place_is tree q.at n e in
        let gives : at_port (copies (item tree n) v) q.port ≡ one v =
        copies_port (item tree n) v q.port (field 1) (passes_bit tree lanes tr n) (ap (λ z. port_get (outs (item tree z)) q.port) (sym same) ∙ is) in
        ap (λ z. z ++ tail) gives ∙ sym waits_were ∙ ap waits (sym same)
    passed_at q is false e = refl

    -- what it gives, it no longer waits for
    passed_on : (o : Option (Out (Place tree))) → ((q : Out (Place tree)) → o ≡ Some q → port_get (outs (item tree q.at)) q.port ≡ Some (field 1)) → part_from old (node n) (copies (item tree n) v) (led o) ++ behind node_waits o ≡ behind waits o
    unfolding node_waits
    passed_on None h = refl
    passed_on (Some q) h = passed_at q (h q refl) (same_place tree q.at n) refl

    own_at : (m : Place tree) (b : Bool) → same_place tree m n ≡ b → (if b then tail else waits m) ≡ (if b then r else t.wires (node m) 1) ++ behind waits (tr.source (into m))
    unfolding tail
    own_at m true e = ap (λ z. r ++ behind waits (tr.source (into z))) (sym (same_place_is tree m n e))
    own_at m false e = flow (into m)

    node_flow : Flow node_to node_waits selects
    unfolding node_to node_waits
    node_flow (into m) =
        own_at m (same_place tree m n) refl
        ∙ ap (λ z. (if same_place tree m n then r else t.wires (node m) 1) ++ z) (sym (passed_on (tr.source (into m)) (fed_bit tree lanes tr (into m))))
        ∙ sym (append_assoc (if same_place tree m n then r else t.wires (node m) 1) (part_from old (node n) (copies (item tree n) v) (led (tr.source (into m)))) (behind node_waits (tr.source (into m))))
    node_flow (select l) =
        flow (select l) ∙ ap (λ z. t.wires (mux l) 1 ++ z) (sym (passed_on (tr.source (select l)) (fed_bit tree lanes tr (select l))))
        ∙ sym (append_assoc (t.wires (mux l) 1) (part_from old (node n) (copies (item tree n) v) (led (tr.source (select l)))) (behind node_waits (tr.source (select l))))

  -- after some firings of the tree the Muxes hold what they held, and maybe more selects
  pub record Brought (t : Held (Muxes tree lanes)) (selects : List Token) : Type 0 where
    pub to : Held (Muxes tree lanes)
    pub inner : PlanInner old to t
    pub waits : Place tree → List Token
    pub flow : Flow to waits selects
    pub more : (l : Place lanes) → (ex : List Token) × (to.wires (mux l) 1 ≡ t.wires (mux l) 1 ++ ex)
    pub kept2 : (l : Place lanes) → to.wires (mux l) 2 ≡ t.wires (mux l) 2
    pub kept3 : (l : Place lanes) → to.wires (mux l) 3 ≡ t.wires (mux l) 3
    pub kept_out : (l : Place lanes) → to.wires (out l) 1 ≡ t.wires (out l) 1

  none_brought : (t : Held (Muxes tree lanes)) (waits : Place tree → List Token) (selects : List Token) → Flow t waits selects → Brought t selects
  none_brought t waits selects h =
      record { to = t; inner = rest; waits = waits; flow = h; more = λ l. ([], sym (append-nil (t.wires (mux l) 1))); kept2 = λ l. refl; kept3 = λ l. refl; kept_out = λ l. refl }

  brought_then : (t : Held (Muxes tree lanes)) (selects : List Token) (b : Brought t selects) → Brought b.to selects → Brought t selects
  brought_then t selects b d =
      record {
        to = d.to;
        inner = plan_then old d.to b.to t b.inner d.inner;
        waits = d.waits;
        flow = d.flow;
        more = λ l.
            let (x, e) = b.more l in
            let (y, f) = d.more l in
            (x ++ y, f ∙ ap (λ z. z ++ y) e ∙ append_assoc (t.wires (mux l) 1) x y);
        kept2 = λ l. d.kept2 l ∙ b.kept2 l;
        kept3 = λ l. d.kept3 l ∙ b.kept3 l;
        kept_out = λ l. d.kept_out l ∙ b.kept_out l;
      }

  node_brought : (t : Held (Muxes tree lanes)) (waits : Place tree → List Token) (selects : List Token) → Flow t waits selects → (n : Place tree) (v : Token) (r : List Token) → t.wires (node n) 1 ≡ v ∷ r → Brought t selects
  unfolding node_to
  node_brought t waits selects h n v r e =
      record {
        to = node_to t waits selects h n v r e;
        inner = fires (node n) 0 (node_to t waits selects h n v r e) (node_step t waits selects h n v r e) rest;
        waits = node_waits t waits selects h n v r e;
        flow = node_flow t waits selects h n v r e;
        more = λ l. (part_from old (node n) (copies (item tree n) v) (led (tr.source (select l))), refl);
        kept2 = λ l. append-nil (t.wires (mux l) 2);
        kept3 = λ l. append-nil (t.wires (mux l) 3);
        kept_out = λ l. append-nil (t.wires (out l) 1);
      }

  -- an input holds a token
  pub record Ready (t : Held (Muxes tree lanes)) (x : Stop tree lanes) : Type 0 where
    pub first_token : Token
    pub later_tokens : List Token
    pub holds : t.wires (stop x) 1 ≡ first_token ∷ later_tokens

  not_empty : (ys : List Token) (v : Token) → (u : Token) × (r : List Token) × (ys ++ one v ≡ u ∷ r)
  not_empty [] v = (v, [], refl)
  not_empty (y ∷ ys) v = (y, ys ++ one v, refl)

  gets_own : (n : Place tree) (given : List (List Token)) (v : Token) (p : ℕ) → at_port given p ≡ one v → part_from old (node n) given (led (Some (record { at = n; port = p }))) ≡ one v
  gets_own n given v p e = ap (λ z. if z then at_port given p else []) (same_place_self tree n) ∙ e

  record Pulled (t : Held (Muxes tree lanes)) (selects : List Token) (x : Stop tree lanes) : Type 0 where
    brought : Brought t selects
    ready : Ready brought.to x

  pull_past : (selects : List Token) (x : Stop tree lanes) (q : Out (Place tree)) → tr.source x ≡ Some q → (t : Held (Muxes tree lanes)) → Pulled t selects (into q.at) → Pulled t selects x
  unfolding node_brought node_to brought_then
  pull_past selects x q e t p =
      let b = p.brought in
      let v : Token = p.ready.first_token in
      let f = node_brought b.to b.waits selects b.flow q.at v p.ready.later_tokens p.ready.holds in
      let gives : part_from old (node q.at) (copies (item tree q.at) v) (led (tr.source x)) ≡ one v =
      ap (λ z. part_from old (node q.at) (copies (item tree q.at) v) (led z)) e
      ∙ gets_own q.at (copies (item tree q.at) v) v q.port (copies_port (item tree q.at) v q.port (field 1) (passes_bit tree lanes tr q.at) (fed_bit tree lanes tr x q e)) in
      let held : List Token = if old.same (stop x) (node q.at) then p.ready.later_tokens else b.to.wires (stop x) 1 in
      let (u, r, is) = not_empty held v in
      let all : f.to.wires (stop x) 1 ≡ held ++ part_from old (node q.at) (copies (item tree q.at) v) (led (tr.source x)) = at_stop x q.at v p.ready.later_tokens b.to in
      record { brought = brought_then t selects b f; ready = record { first_token = u; later_tokens = r; holds = all ∙ ap (λ z. held ++ z) gives ∙ is } }
    where
      at_stop : (x : Stop tree lanes) (n : Place tree) (v : Token) (r : List Token) (t : Held (Muxes tree lanes)) → (after old t (node n) (pop1 (t.wires (node n)) r) (copies (item tree n) v) (t.slots (node n))).wires (stop x) 1 ≡ (if old.same (stop x) (node n) then r else t.wires (stop x) 1) ++ part_from old (node n) (copies (item tree n) v) (led (tr.source x))
      at_stop (into m) n v r t = refl
      at_stop (select l) n v r t = refl

  pull_at : (selects : List Token) (x : Stop tree lanes) (q : Out (Place tree)) → tr.source x ≡ Some q → (t : Held (Muxes tree lanes)) (waits : Place tree → List Token) → Flow t waits selects → (v : Token) (w : List Token) → ahead waits selects x ≡ v ∷ w → (ahead waits selects (into q.at) ≡ v ∷ w → Pulled t selects (into q.at)) → (held : List Token) → t.wires (stop x) 1 ≡ held → Pulled t selects x
  unfolding none_brought
  pull_at selects x q e t waits h v w a go (u ∷ r) f =
      record { brought = none_brought t waits selects h; ready = record { first_token = u; later_tokens = r; holds = f } }
  pull_at selects x q e t waits h v w a go [] f =
      pull_past selects x q e t (go ((λ j. sym f j ++ behind waits (sym e j)) ∙ sym (h x) ∙ a))

  -- what an input waits for can be brought to it
  pull : (selects : List Token) (x : Stop tree lanes) → ComesFromOutside tr.source x → (t : Held (Muxes tree lanes)) (waits : Place tree → List Token) → Flow t waits selects → (v : Token) (w : List Token) → ahead waits selects x ≡ v ∷ w → Pulled t selects x
  unfolding none_brought
  pull selects x (outside e) t waits h v w a =
      record {
        brought = none_brought t waits selects h;
        ready = record { first_token = v; later_tokens = w; holds = sym (append-nil (t.wires (stop x) 1)) ∙ ap (λ z. t.wires (stop x) 1 ++ behind waits z) (sym e) ∙ sym (h x) ∙ a };
      }
  pull selects x (past q e go) t waits h v w a =
      pull_at selects x q e t waits h v w a (λ k. pull selects (into q.at) go t waits h v w k) (t.wires (stop x) 1) refl

  pub record AllBrought (t : Held (Muxes tree lanes)) (selects : List Token) (done : Place lanes → Bool) : Type 0 where
    pub brought : Brought t selects
    pub ready : (l : Place lanes) → done l ≡ true → Ready brought.to (select l)

  still_ready : (t : Held (Muxes tree lanes)) (selects : List Token) (b : Brought t selects) (l : Place lanes) → Ready t (select l) → Ready b.to (select l)
  still_ready t selects b l r =
      let (ex, e) = b.more l in
      record { first_token = r.first_token; later_tokens = r.later_tokens ++ ex; holds = e ∙ ap (λ z. z ++ ex) r.holds }

  bring_next : (t : Held (Muxes tree lanes)) (selects : List Token) (v : Token) (w : List Token) → selects ≡ v ∷ w → (done : Place lanes → Bool) (k : Place lanes) → done k ≡ false → AllBrought t selects done → AllBrought t selects (with_place lanes k done)
  unfolding brought_then
  bring_next t selects v w e done k not b =
      let p = pull selects (select k) (comes tree lanes tr (select k)) b.brought.to b.brought.waits b.brought.flow v w e in
      record {
        brought = brought_then t selects b.brought p.brought;
        ready = λ l h. at l (same_place lanes l k) refl h p.ready (λ g. still_ready b.brought.to selects p.brought l (b.ready l g));
      }
    where
      at : (l : Place lanes) (z : Bool) → same_place lanes l k ≡ z → (if z then true else done l) ≡ true → {y : Held (Muxes tree lanes)} → Ready y (select k) → (done l ≡ true → Ready y (select l)) → Ready y (select l)
      at l true f h {y = y} r go = subst (λ z. Ready y (select z)) (sym (same_place_is lanes l k f)) r
      at l false f h r go = go h

  pub bring_all : (t : Held (Muxes tree lanes)) (waits : Place tree → List Token) (selects : List Token) → Flow t waits selects → (v : Token) (w : List Token) → selects ≡ v ∷ w → AllBrought t selects (λ l. true)
  bring_all t waits selects h v w e =
      each_place lanes (AllBrought t selects) (record { brought = none_brought t waits selects h; ready = λ l f. cc }) (bring_next t selects v w e)
