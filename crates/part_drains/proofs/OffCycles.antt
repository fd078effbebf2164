-- Where no walk leads from a part back to it, and the nodes can be listed, what lies behind the part can be told.
use Rattle.std.proofs.Common.{◌≡◌, ℕ, zero, suc, ◌+◌, ◌⊎◌, inl, inr, refl, sym, ap, subst, ◌∙◌, true, false, Bool, bytes_eq, if◌then◌else◌, List, [], ◌∷◌, Option, Some, None, true≢false, arith}
use Rattle.components.specs.Kind.{Shape, ins}
use Rattle.components.specs.Name.{Name, Port, port_get}
use Rattle.components.specs.declared.kind.Kind.{Kind}
use Rattle.circuits.specs.Circuit.{Circuit, Typed}
use Rattle.circuits.specs.Replacing.{In, In.head, In.tail}
use Rattle.circuits.proofs.Names.{name_cases}
use Rattle.components.specs.Orders.{same_bytes}
use Rattle.part_drains.specs.Part.{inside, Behind, Behind.leaves, Behind.goes_on, PartOffCycle, HasNodes, FiresLast}
use Rattle.part_drains.proofs.Sorts.{bool_cases}
use Rattle.part_drains.proofs.PartPlace.{clash}

abbrev ins_of : Option Kind → List Shape
ins_of None = []
ins_of (Some k) = ins k

abbrev tests : (Name → Bool) → Option Port → Bool
tests f None = false
tests f (Some q) = f q.node

module _ (g part : Circuit) where
  -- some input of n, from input i on, is fed by a node that f holds of
  any_from : (Name → Bool) → Name → ℕ → List Shape → Bool
  any_from f n i [] = false
  any_from f n i (a ∷ bs) = if tests f (g.feeder (record { node = n; port = i })) then true else any_from f n (suc i) bs

  record Fed (f : Name → Bool) (n : Name) : Type 0 where
    at : ℕ
    by : Port
    feeds : g.feeder (record { node = n; port = at }) ≡ Some by
    holds : f by.node ≡ true

  fed_at_port : (f : Name → Bool) (n : Name) (i : ℕ) (o : Option Port) → g.feeder (record { node = n; port = i }) ≡ o → tests f o ≡ true → Fed f n
  fed_at_port f n i None e t = absurd (true≢false (sym t))
  fed_at_port f n i (Some q) e t = record { at = i; by = q; feeds = e; holds = t }

  any_fed_at : (f : Name → Bool) (n : Name) (i : ℕ) (bs : List Shape) (b : Bool) → tests f (g.feeder (record { node = n; port = i })) ≡ b → (any_from f n (suc i) bs ≡ true → Fed f n) → (if b then true else any_from f n (suc i) bs) ≡ true → Fed f n
  any_fed_at f n i bs true e more t = fed_at_port f n i (g.feeder (record { node = n; port = i })) refl e
  any_fed_at f n i bs false e more t = more t

  any_fed : (f : Name → Bool) (n : Name) (i : ℕ) (bs : List Shape) → any_from f n i bs ≡ true → Fed f n
  unfolding any_from
  any_fed f n i [] t = absurd (true≢false (sym t))
  any_fed f n i (a ∷ bs) t =
      any_fed_at f n i bs (tests f (g.feeder (record { node = n; port = i }))) refl (any_fed f n (suc i) bs) t

  or_true : (a b : Bool) → b ≡ true → (if a then true else b) ≡ true
  or_true true b e = refl
  or_true false b e = e

  fed_any : (f : Name → Bool) (n : Name) (q : Port) (b : Shape) (bs : List Shape) (i j k : ℕ) → port_get bs (suc j) ≡ Some b → k ≡ i + j → g.feeder (record { node = n; port = k }) ≡ Some q → f q.node ≡ true → any_from f n i bs ≡ true
  unfolding any_from
  fed_any f n q b [] i j k e is feeds t = let z : None ≡ Some b = e in cc
  fed_any f n q b (a ∷ bs) i zero k e is feeds t =
      let same : k ≡ i = omega (arith, is) in
      ap (λ z. if tests f z then true else any_from f n (suc i) bs) (ap (λ z. g.feeder (record { node = n; port = z })) (sym same) ∙ feeds)
      ∙ ap (λ z. if z then true else any_from f n (suc i) bs) t
  fed_any f n q b (a ∷ bs) i (suc j) k e is feeds t =
      or_true (tests f (g.feeder (record { node = n; port = i }))) (any_from f n (suc i) bs)
      (fed_any f n q b bs (suc i) j k e (omega (arith, is)) feeds t)

  -- a step of a walk outside the part: from the part, or from a node
  from : Option Name → Name → Bool
  from None = inside part
  from (Some m) = λ q. bytes_eq q m

  steps : Option Name → Name → Bool
  steps s n = if inside part n then false else any_from (from s) n 1 (ins_of (g.kind_at n))

  -- walks through these nodes alone
  reaches : List Name → Option Name → Name → Bool
  reaches [] s n = steps s n
  reaches (x ∷ xs) s n = if reaches xs s n then true else (if reaches xs s x then reaches xs (Some x) n else false)

  steps_parts : (s : Option Name) (n : Name) (b : Bool) → inside part n ≡ b → (if b then false else any_from (from s) n 1 (ins_of (g.kind_at n))) ≡ true → (inside part n ≡ false) × Fed (from s) n
  steps_parts s n true e t = absurd (true≢false (sym t))
  steps_parts s n false e t = (e, any_fed (from s) n 1 (ins_of (g.kind_at n)) t)

  Starts : Option Name → Type 0
  Starts None = Unit {0}
  Starts (Some m) = Behind g part m

  step_behind : (s : Option Name) (n : Name) → Starts s → inside part n ≡ false → Fed (from s) n → Behind g part n
  unfolding Starts from
  step_behind None n h o fed = leaves (record { node = n; port = fed.at }) fed.by fed.feeds fed.holds o
  step_behind (Some m) n h o fed =
      elim (name_cases fed.by.node m) [
        | inl is ↦ goes_on (record { node = n; port = fed.at }) fed.by fed.feeds (subst (Behind g part) (sym is.is) h) o
        | inr ne ↦ clash (bytes_eq fed.by.node m) fed.holds ne.test
      ]

  through_cases : (a b c : Bool) → (if a then true else (if b then c else false)) ≡ true → (a ≡ true) ⊎ ((b ≡ true) × (c ≡ true))
  through_cases true b c e = inl refl
  through_cases false true c e = inr (refl, e)
  through_cases false false c e = absurd (true≢false (sym e))

  through : (a b c : Bool) → b ≡ true → c ≡ true → (if a then true else (if b then c else false)) ≡ true
  through true b c e f = refl
  through false b c e f = ap (λ z. if z then c else false) e ∙ f

  directly : (a b c : Bool) → a ≡ true → (if a then true else (if b then c else false)) ≡ true
  directly a b c e = ap (λ z. if z then true else (if b then c else false)) e

  reaches_behind : (xs : List Name) (s : Option Name) (n : Name) → reaches xs s n ≡ true → Starts s → Behind g part n
  unfolding reaches steps Starts
  reaches_behind [] s n t h = let (o, fed) = steps_parts s n (inside part n) refl t in step_behind s n h o fed
  reaches_behind (x ∷ xs) s n t h =
      elim (through_cases (reaches xs s n) (reaches xs s x) (reaches xs (Some x) n) t) [
        | inl a ↦ reaches_behind xs s n a h
        | inr b ↦ reaches_behind xs (Some x) n b.1 (reaches_behind xs s x b.0 h)
      ]

  steps_reach : (xs : List Name) (s : Option Name) (n : Name) → steps s n ≡ true → reaches xs s n ≡ true
  unfolding reaches
  steps_reach [] s n t = t
  steps_reach (x ∷ xs) s n t = directly (reaches xs s n) (reaches xs s x) (reaches xs (Some x) n) (steps_reach xs s n t)

  to_first : (x : Name) (xs : List Name) (s : Option Name) → reaches (x ∷ xs) s x ≡ true → reaches xs s x ≡ true
  unfolding reaches
  to_first x xs s t =
      elim (through_cases (reaches xs s x) (reaches xs s x) (reaches xs (Some x) x) t) [ inl a ↦ a | inr b ↦ b.0 ]

  from_first : (x : Name) (xs : List Name) (n : Name) → reaches (x ∷ xs) (Some x) n ≡ true → reaches xs (Some x) n ≡ true
  unfolding reaches
  from_first x xs n t =
      elim (through_cases (reaches xs (Some x) n) (reaches xs (Some x) x) (reaches xs (Some x) n) t) [ inl a ↦ a | inr b ↦ b.1 ]

  -- a walk to a listed node and one from it are a walk
  joins : (y : Name) (xs : List Name) → In y xs → (s : Option Name) (n : Name) → reaches xs s y ≡ true → reaches xs (Some y) n ≡ true → reaches xs s n ≡ true
  unfolding reaches
  joins y [] i s n a b = elim i [ ]
  joins y (x ∷ xs) (head is) s n a b =
      through (reaches xs s n) (reaches xs s x) (reaches xs (Some x) n)
      (to_first x xs s (subst (λ z. reaches (x ∷ xs) s z ≡ true) is a)) (from_first x xs n (subst (λ z. reaches (x ∷ xs) (Some z) n ≡ true) is b))
  joins y (x ∷ xs) (tail i) s n a b =
      elim (through_cases (reaches xs s y) (reaches xs s x) (reaches xs (Some x) y) a) [
        | inl a1 ↦ elim (through_cases (reaches xs (Some y) n) (reaches xs (Some y) x) (reaches xs (Some x) n) b) [
          | inl b1 ↦ directly (reaches xs s n) (reaches xs s x) (reaches xs (Some x) n) (joins y xs i s n a1 b1)
          | inr b2 ↦ through (reaches xs s n) (reaches xs s x) (reaches xs (Some x) n) (joins y xs i s x a1 b2.0) b2.1
        ]
        | inr a2 ↦ elim (through_cases (reaches xs (Some y) n) (reaches xs (Some y) x) (reaches xs (Some x) n) b) [
          | inl b1 ↦ through (reaches xs s n) (reaches xs s x) (reaches xs (Some x) n) a2.0 (joins y xs i (Some x) n a2.1 b1)
          | inr b2 ↦ through (reaches xs s n) (reaches xs s x) (reaches xs (Some x) n) a2.0 b2.1
        ]
      ]

  behind_outside : (n : Name) → Behind g part n → inside part n ≡ false
  behind_outside n (leaves p q f i o) = o
  behind_outside n (goes_on p q f b o) = o

  module _ (ty : Typed g) where
    fed_in : (s : Option Name) (n : Name) (q : Port) (b : Shape) (k : Kind) → g.kind_at n ≡ Some k → (i : ℕ) → port_get (ins k) i ≡ Some b → g.feeder (record { node = n; port = i }) ≡ Some q → from s q.node ≡ true → any_from (from s) n 1 (ins_of (g.kind_at n)) ≡ true
    fed_in s n q b k e zero p f h = absurd (none_there (ins k) p)
      where
        none_there : (bs : List Shape) → port_get bs zero ≡ Some b → ⊥
        none_there [] z = let y : None ≡ Some b = z in cc
        none_there (a ∷ bs) z = let y : None ≡ Some b = z in cc
    fed_in s n q b k e (suc j) p f h =
        ap (λ o. any_from (from s) n 1 (ins_of o)) e ∙ fed_any (from s) n q b (ins k) 1 j (suc j) p (omega arith) f h

    one_step : (s : Option Name) (p q : Port) → g.feeder p ≡ Some q → inside part p.node ≡ false → from s q.node ≡ true → steps s p.node ≡ true
    unfolding steps
    one_step s p q f o h =
        let w = ty.wires p q f in
        ap (λ z. if z then false else any_from (from s) p.node 1 (ins_of (g.kind_at p.node))) o
        ∙ fed_in s p.node q w.shape w.to w.is_to p.port w.enters f h

    module _ (ns : List Name) (all : HasNodes g ns) (off : PartOffCycle g part) where
      pub late : Name → Bool
      late n = reaches ns None n

      late_behind : (n : Name) → late n ≡ true → Behind g part n
      unfolding late Starts
      late_behind n t = reaches_behind ns None n t tt

      late_leaves : (p q : Port) → g.feeder p ≡ Some q → inside part q.node ≡ true → inside part p.node ≡ false → late p.node ≡ true
      unfolding late from
      late_leaves p q f i o = steps_reach ns None p.node (one_step None p q f o i)

      late_goes_on : (p q : Port) → g.feeder p ≡ Some q → late q.node ≡ true → late p.node ≡ true
      unfolding late from
      late_goes_on p q f t =
          elim (bool_cases (inside part p.node)) [
            | inl i ↦ absurd (off p q f (late_behind q.node t) i)
            | inr o ↦
                let w = ty.wires p q f in
                joins q.node ns (all q.node w.from w.is_from) None p.node t
                (steps_reach ns (Some q.node) p.node (one_step (Some q.node) p q f o (same_bytes q.node q.node refl)))
          ]

      pub fires_last : FiresLast g part late
      fires_last =
          record {
            goes_on = late_goes_on;
            leaves = late_leaves;
            apart = λ n i.
                elim (bool_cases (late n)) [
                  | inl t ↦ clash (inside part n) i (behind_outside n (late_behind n t))
                  | inr o ↦ o
                ];
          }
