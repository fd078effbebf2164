-- A tagged loop matches the in-order loop that it stands for.
use Rattle.std.proofs.Common.{◌≡◌, ℕ, inl, inr, refl, sym, ap, subst, ◌∙◌, true, false, Bool, List, [], ◌∷◌, ◌++◌, Some}
use Rattle.std.specs.List.{AllByRecursion}
use Rattle.port_types.specs.Token.{Fits}
use Rattle.fun_expr.specs.Function.{Function}
use Rattle.components.specs.declared.kind.Kind.TheVariants.{Mux}
use Rattle.components.specs.Kind.{Shape, ins}
use Rattle.components.specs.Name.{port_get}
use Rattle.circuits.specs.PortTokens.{Token, one}
use Rattle.circuits.specs.Firing.{Label.Feed, Label.Take, Label.Fire}
use Rattle.circuit_plans.proofs.Plans.{Plan, Held, PlanStep, PlanInner, rest, plan_start, PlanFits, Naming, PlanMatches}
use Rattle.tagged_loop.specs.InOrderLoop.{InOrderNode, entry, mux, exit}
use Rattle.tagged_loop.specs.TaggedLoop.{TaggedNode, new_entry, new_exit}
use Rattle.loop_laws.specs.Polarity.{exit_bit, back_in, fresh_in}
use Rattle.tagged_loop.proofs.LoopPlans.{Maps, in_order_plan, tagged_plan}
use Rattle.tagged_loop.proofs.LoopSteps.{LoopIs, ready}
use Rattle.tagged_loop.proofs.LoopRuns.{run_one, fed, taken}
use Rattle.tagged_loop.proofs.Ring.{Ring, queue_of, enter_fed, leave_took, fires_ring, ring_start}

module _ (a : Shape) (f : Function) (d : Bool) (n m : ℕ) (is_input : f.input ≡ a) (ok : Maps f (a ++ 1 ∷ [])) where
  abbrev old : Plan InOrderNode
  old = in_order_plan a f d m

  abbrev new : Plan TaggedNode
  new = tagged_plan a f d n

  -- the in-order loop is at rest: before it wait the first values of the slots, oldest first, and what waits before the Tagger
  pub record Related (s : Held TaggedNode) (t : Held InOrderNode) : Type 0 where
    pub ring : Ring f d n s
    pub loop : LoopIs d t (ready [] (exit_bit d) (queue_of s ring) (s.wires new_exit 1))

  initial_fresh : (e : Bool) → (plan_start (in_order_plan a f e m)).wires mux (fresh_in e) ≡ []
  initial_fresh true = refl
  initial_fresh false = refl

  initial_back : (e : Bool) → (plan_start (in_order_plan a f e m)).wires mux (back_in e) ≡ []
  initial_back true = refl
  initial_back false = refl

  begins : Related (plan_start new) (plan_start old)
  begins =
      record {
        ring = ring_start a f d n;
        loop = record {
          sel = refl;
          fresh = initial_fresh d;
          back = initial_back d;
          fun = refl;
          whole = refl;
          tuple = refl;
          bit = refl;
          choice = refl;
          return = refl;
          out = refl;
        };
      }

  -- the same loop, with its lists named anew
  moved : (t : Held InOrderNode) (p q o r : List Token) → p ≡ q → o ≡ r → LoopIs d t (ready [] (exit_bit d) p o) → LoopIs d t (ready [] (exit_bit d) q r)
  moved t p q o r e g h = subst (λ z. LoopIs d t (ready [] (exit_bit d) z r)) e (subst (λ z. LoopIs d t (ready [] (exit_bit d) p z)) g h)

  new_feeds : (s : Held TaggedNode) (t : Held InOrderNode) (u : Held TaggedNode) (k : TaggedNode) (v : Token) → Related s t → PlanStep new s k (Feed v) u → (k ≡ new_entry) × (w : Held InOrderNode) × PlanStep old t entry (Feed v) w × Related u w
  new_feeds s t u new_entry v b st =
      let h = enter_fed a f d n s u v st b.ring in
      let g = fed a f d m is_input ok t v (queue_of s b.ring) (s.wires new_exit 1) h.fits b.loop in (
        refl,
        g.to,
        g.step,
        record { ring = h.ring; loop = moved g.to (queue_of s b.ring ++ one v) (queue_of u h.ring) (s.wires new_exit 1) (u.wires new_exit 1) (sym h.queue) (sym h.out) g.is },
      )
  new_feeds s t u _ v b st = absurd st.acts

  new_takes : (s : Held TaggedNode) (t : Held InOrderNode) (u : Held TaggedNode) (k : TaggedNode) (v : Token) → Related s t → PlanStep new s k (Take v) u → (k ≡ new_exit) × (w : Held InOrderNode) × PlanStep old t exit (Take v) w × Related u w
  new_takes s t u new_exit v b st =
      let h = leave_took a f d n s u v st b.ring in
      let g = taken a f d m is_input ok t v (queue_of s b.ring) (u.wires new_exit 1) (moved t (queue_of s b.ring) (queue_of s b.ring) (s.wires new_exit 1) (v ∷ u.wires new_exit 1) refl h.out b.loop) in (
        refl,
        g.to,
        g.step,
        record { ring = h.ring; loop = moved g.to (queue_of s b.ring) (queue_of u h.ring) (u.wires new_exit 1) (u.wires new_exit 1) (sym h.queue) refl g.is },
      )
  new_takes s t u _ v b st = absurd st.acts

  fresh_port : (e : Bool) → port_get (ins (Mux a)) (fresh_in e) ≡ Some a
  fresh_port true = refl
  fresh_port false = refl

  new_fires : (s : Held TaggedNode) (t : Held InOrderNode) (u : Held TaggedNode) (k : TaggedNode) (c : ℕ) → PlanFits old t → Related s t → PlanStep new s k (Fire c) u → (w : Held InOrderNode) × PlanInner old w t × Related u w
  new_fires s t u k c fit b st =
      elim (fires_ring a f d n s u k c st b.ring) [
        | inl h ↦ (t, rest, record { ring = h.ring; loop = moved t (queue_of s b.ring) (queue_of u h.ring) (s.wires new_exit 1) (u.wires new_exit 1) (sym h.queue) (sym h.out) b.loop })
        | inr h ↦
            let at : LoopIs d t (ready [] (exit_bit d) (h.begun ∷ queue_of u h.ring) (s.wires new_exit 1)) = moved t (queue_of s b.ring) (h.begun ∷ queue_of u h.ring) (s.wires new_exit 1) (s.wires new_exit 1) h.queue refl b.loop in
            let all : AllByRecursion (Fits a) (h.begun ∷ queue_of u h.ring) = subst (AllByRecursion (Fits a)) at.fresh (fit mux (fresh_in d) a (fresh_port d)) in
            let g = run_one a f d m is_input ok h.begun h.ended h.loops t (queue_of u h.ring) (s.wires new_exit 1) all.0 at in
            (g.to, g.inner, record { ring = h.ring; loop = moved g.to (queue_of u h.ring) (queue_of u h.ring) (s.wires new_exit 1 ++ one h.ended) (u.wires new_exit 1) refl (sym h.out) g.is })
      ]

  -- the tagged loop matches the in-order loop
  pub tag_loop : (hx : Naming TaggedNode) (gx : Naming InOrderNode) → hx.name new_entry ≡ gx.name entry → hx.name new_exit ≡ gx.name exit → PlanMatches new old hx gx
  tag_loop hx gx same_entry same_exit =
      record {
        R = Related;
        begins = begins;
        feeds = λ s t u k v b st.
            let (is, w, st2, b2) = new_feeds s t u k v b st in (entry, ap hx.name is ∙ same_entry, w, st2, b2);
        takes = λ s t u k v fit b st.
            let (is, w, st2, b2) = new_takes s t u k v b st in (exit, ap hx.name is ∙ same_exit, t, w, rest, st2, b2);
        fires = λ s t u k c fit b st. new_fires s t u k c fit b st;
      }
