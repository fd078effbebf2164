-- A plan drains what some firings of its nodes lead through.
use Rattle.std.proofs.Common.{◌≡◌, ℕ, refl, sym, ap, subst, ◌∙◌, true, false, Bool, List, [], ◌∷◌, ◌++◌, Option, Some, None, append-nil}
use Rattle.std.specs.List.{AllByRecursion}
use Rattle.port_types.specs.Token.{Fits}
use Rattle.components.specs.Kind.{Shape}
use Rattle.components.specs.Name.{Name, Port}
use Rattle.components.specs.declared.kind.Kind.{Kind}
use Rattle.components.specs.declared.kind.Kind.TheVariants.{Entry, Exit}
use Rattle.circuits.specs.PortTokens.{Token}
use Rattle.circuits.specs.Firing.{Fires, Label.Fire}
use Rattle.circuits.specs.CircuitState.{Slot, start, initial}
use Rattle.circuits.specs.Circuit.{kind_of}
use Rattle.circuits.specs.Buffers.{first_port}
use Rattle.circuits.specs.Root.{PassesThrough, Root, here, past}
use Rattle.circuits.specs.Drains.{IsInit, ComesFromInit, Led, put_by, put_on, loaded, IsNoExit, Drains}
use Rattle.circuits.proofs.Beside.{none_some}
use Rattle.std.proofs.lemmas.Option.{same_Some}
use Rattle.circuit_plans.proofs.Plans.{Out, Plan, Naming, Held, PlanStep, PlanInner, rest, fires, part, part_from, out_by, built, held_of, plan_initial, plan_start, feeder_named, kind_named, circuit_inner, held_start, start_out}
use Rattle.circuit_plans.proofs.PlanTyped.{who, ForSome}

abbrev pub plan_fed : {N : Type 0} → Plan N → Naming N → (Name → List Token) → Option (Out N) → List Token
plan_fed c x ins None = []
plan_fed c x ins (Some q) = put_by ins (Some (c.kind q.at)) (x.name q.at)

-- the start, with these inputs
abbrev pub plan_loaded : {N : Type 0} → Plan N → Naming N → (Name → List Token) → Held N
plan_loaded c x ins = record { wires = λ n i. plan_initial c (c.source n i) ++ plan_fed c x ins (c.source n i); slots = λ n. [] }

-- a kind behind which no node is led
abbrev pub IsNoLead : Kind → Type 0
IsNoLead k = ¬ (PassesThrough k) × ¬ (IsInit k)

pub no_right : (xs ys : List Token) → xs ++ ys ≡ [] → ys ≡ []
no_right [] ys e = e
no_right (x ∷ xs) ys e = absurd (let k : x ∷ (xs ++ ys) ≡ [] = e in let z : ⊥ = cc in z)

module _ {N : Type 0} (c : Plan N) where
  -- a wire with no source stays empty
  pub dead_wire : (u t : Held N) → PlanInner c u t → (n : N) (i : ℕ) → c.source n i ≡ None → t.wires n i ≡ [] → u.wires n i ≡ []
  dead_wire u t rest n i e h = h
  dead_wire u t (fires m k w st go) n i e h =
      let none : st.between n i ≡ [] = no_right (part c m st.taken n i) (st.between n i) (sym (st.takes n i) ∙ h) in
      dead_wire u w go n i e (st.gives n i ∙ ap (λ o. st.between n i ++ part_from c m st.given o) e ∙ append-nil (st.between n i) ∙ none)

  still_at : (m n : N) (b : Bool) → c.same n m ≡ b → (s t : Held N) (k : ℕ) (st : PlanStep c s m (Fire k) t) → ((k : ℕ) (old : List Slot) (taken given : List (List Token)) (new : List Slot) → Fires (c.kind n) k old taken given new → new ≡ old) → t.slots n ≡ s.slots n
  still_at m n true e s t k st keeps =
      let is : n ≡ m = c.same_is n m e in
      keeps k (s.slots n) st.taken st.given (t.slots n) (subst (λ z. Fires (c.kind z) k (s.slots z) st.taken st.given (t.slots z)) (sym is) st.acts)
  still_at m n false e s t k st keeps = st.others n e

  -- a node whose kind keeps its slots keeps them
  pub still_slots : (n : N) → ((k : ℕ) (old : List Slot) (taken given : List (List Token)) (new : List Slot) → Fires (c.kind n) k old taken given new → new ≡ old) → (u t : Held N) → PlanInner c u t → u.slots n ≡ t.slots n
  still_slots n keeps u t rest = refl
  still_slots n keeps u t (fires m k w st go) = still_slots n keeps u w go ∙ still_at m n (c.same n m) refl t w k st keeps

  module _ (x : Naming N) where
    fed_out : (ins : Name → List Token) (o : Option (Out N)) → put_on (built c x) ins (out_by x o) ≡ plan_fed c x ins o
    fed_out ins None = refl
    fed_out ins (Some q) = ap (λ k. put_by ins k (x.name q.at)) (kind_named c x q.at)

    pub held_loaded : (ins : Name → List Token) → held_of x (loaded (built c x) ins) ≡ plan_loaded c x ins
    held_loaded ins =
        λ j. record {
          wires = λ n i.
              ((λ l. initial (kind_of (built c x) (feeder_named c x n i l)) ++ put_on (built c x) ins (feeder_named c x n i l))
              ∙ (λ l. start_out c x (c.source n i) l ++ fed_out ins (c.source n i) l)) j;
          slots = λ n. [];
        }

    -- no node is led where behind each Fork and Buffer there is a node that leads none
    from_tree : (q : Port) (k : Kind) (o : Option (Out N)) → ForSome o (λ q. IsNoLead (c.kind q.at)) → out_by x o ≡ Some q → (built c x).kind_at q.node ≡ Some k → IsNoLead k
    from_tree q k None h e f = absurd (none_some None q refl e)
    from_tree q k (Some r) h e f =
        let is : record { node = x.name r.at; port = r.port } ≡ q = same_Some _ q e in
        let same : c.kind r.at ≡ k = same_Some (c.kind r.at) k (sym (kind_named c x r.at) ∙ ap (λ (z : Port). (built c x).kind_at z.node) is ∙ f) in
        subst IsNoLead same h

    no_init : (n : N) → ForSome (c.source n 1) (λ q. IsNoLead (c.kind q.at)) → (p q : Port) → p ≡ first_port (x.name n) → Root (built c x) p q →
        (k : Kind) → (built c x).kind_at q.node ≡ Some k → IsInit k → ⊥
    no_init n h p q is (here k f e tree) kind g init =
        let lead : IsNoLead k = from_tree q k (c.source n 1) h (sym (feeder_named c x n 1) ∙ ap (built c x).feeder (sym is) ∙ f) e in
        lead.1 (subst IsInit (same_Some kind k (sym g ∙ e)) init)
    no_init n h p q is (past r k f e tree go) kind g init =
        (from_tree r k (c.source n 1) h (sym (feeder_named c x n 1) ∙ ap (built c x).feeder (sym is) ∙ f) e).0 tree

    comes_at : (n : N) → ForSome (c.source n 1) (λ q. IsNoLead (c.kind q.at)) → (p : Port) → p ≡ first_port (x.name n) → ComesFromInit (built c x) p → ⊥
    comes_at n h p is comes = no_init n h p comes.root is comes.is_root comes.source comes.is_source comes.is_init

    pub none_led : ((n : N) → PassesThrough (c.kind n) → ForSome (c.source n 1) (λ q. IsNoLead (c.kind q.at))) → (m : Name) → Led (built c x) m → ⊥
    none_led h m led =
        let (n, is, ek) = who c x m led.kind led.is_kind in
        comes_at n (h n (subst PassesThrough (sym ek) led.passes)) (first_port m) (ap (λ z. record { node = z; port = 1 }) (x.named m n is)) led.comes

    -- what the state at the end of a drain is, whose inputs and outputs fit
    pub record IsDrained (ins outs : Name → List Token) (w : Held N) : Type 0 where
      pub fit_in : (n : N) (a : Shape) → c.kind n ≡ Entry a → AllByRecursion (Fits a) (ins (x.name n))
      pub fit_out : (n : N) (a : Shape) → c.kind n ≡ Exit a → AllByRecursion (Fits a) (outs (x.name n))
      pub slots : (n : N) → w.slots n ≡ []
      pub exits : (n : N) (a : Shape) → c.kind n ≡ Exit a → w.wires n 1 ≡ outs (x.name n)
      pub others : (n : N) (i : ℕ) → IsNoExit (c.kind n) → w.wires n i ≡ (plan_start c).wires n i

    pub plan_drains : ((m : Name) → Led (built c x) m → ⊥) → (ins outs : Name → List Token) (w : Held N) → PlanInner c w (plan_loaded c x ins) → IsDrained ins outs w → Drains (built c x) ins outs
    plan_drains no_led ins outs w inn h =
        let (t, inner, is) = circuit_inner c x w (loaded (built c x) ins) (plan_loaded c x ins) (held_loaded ins) inn in
        record {
          fit_in = λ m a e.
              let (n, at, ek) = who c x m (Entry a) e in subst (λ z. AllByRecursion (Fits a) (ins z)) (sym (x.named m n at)) (h.fit_in n a ek);
          fit_out = λ m a e.
              let (n, at, ek) = who c x m (Exit a) e in subst (λ z. AllByRecursion (Fits a) (outs z)) (sym (x.named m n at)) (h.fit_out n a ek);
          rest = start (built c x);
          is_rest = record { firings = []; led = tt; leads = refl; ends = λ n k u led st. no_led n led };
          firings = inner.firings;
          end = t;
          leads = inner.leads;
          slots = λ m k e.
              let (n, at, ek) = who c x m k e in ap t.slots (x.named m n at) ∙ ap (λ (z : Held N). z.slots n) is ∙ h.slots n;
          exits = λ m a e.
              let (n, at, ek) = who c x m (Exit a) e in
              let name : m ≡ x.name n = x.named m n at in
              ap (λ z. t.wires (record { node = z; port = 1 })) name ∙ ap (λ (z : Held N). z.wires n 1) is ∙ h.exits n a ek ∙ ap outs (sym name);
          others = λ p k e no_exit.
              let (n, at, ek) = who c x p.node k e in
              let name : p.node ≡ x.name n = x.named p.node n at in
              ap (λ z. t.wires (record { node = z; port = p.port })) name ∙ ap (λ (z : Held N). z.wires n p.port) is ∙ h.others n p.port (subst IsNoExit (sym ek) no_exit)
              ∙ ap (λ (z : Held N). z.wires n p.port) (sym (held_start c x)) ∙ ap (λ z. (start (built c x)).wires (record { node = z; port = p.port })) (sym name);
        }
