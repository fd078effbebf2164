-- A mark whose tree leads to Forks, Buffers and selects of Muxes alone has a lane.
use Rattle.std.proofs.Common.{◌≡◌, ◌≢◌, ◌⊎◌, inl, inr, ℕ, zero, suc, ◌≤◌, refl, sym, ap, subst, ◌∙◌, List, [], ◌∷◌, length, replicate, Some, Bool, arith}
use Rattle.std.specs.List.{AllByRecursion}
use Rattle.std.proofs.lemmas.Option.{none-some, same_Some}
use Rattle.components.specs.declared.kind.Kind.{Kind}
use Rattle.components.specs.declared.kind.Kind.TheVariants.{Buffer, Fork, Mux, Init}
use Rattle.components.specs.Name.{Name, Port, port_get}
use Rattle.components.specs.Kind.{Shape, ins, outs, KindOk, field}
use Rattle.circuits.specs.Circuit.{Circuit, Typed}
use Rattle.circuits.specs.Replacing.{In, head, tail, NoneTwice}
use Rattle.circuits.specs.Root.{PassesThrough}
use Rattle.loop_laws.specs.Polarity.{IsMark}
use Rattle.loop_laws.specs.Reached.{port_at, OnTree, root, grown, IsLane}
use Rattle.loop_laws.specs.Faults.{IsMux, Row}
use Rattle.loop_laws.specs.declared.fault.LoopFaultKind.TheVariants.{SelectLeaf}
use Rattle.loop_laws.proofs.Counting.{no_heavier, ones}

-- a kind passes through, is a Mux, or neither
data Sort : Kind → Type 0 where
  passes : {k : Kind} → PassesThrough k → ((i : ℕ) (a : Shape) → port_get (ins k) i ≡ Some a → i ≡ 1) → Sort k
  mux : (shape : Shape) → Sort (Mux shape)
  neither : {k : Kind} → ¬ (PassesThrough k) → ¬ (IsMux k) → Sort k

only_port : (x : Shape) (i : ℕ) (a : Shape) → port_get (x ∷ []) i ≡ Some a → i ≡ 1
only_port x zero a e = absurd (none-some a e)
only_port x (suc zero) a e = refl
only_port x (suc (suc i)) a e = absurd (none-some a e)

sort : (k : Kind) → Sort k
sort (Buffer shape) = passes tt (only_port shape)
sort (Fork shape count) = passes tt (only_port shape)
sort (Mux shape) = mux shape
sort _ = neither (λ h. h) (λ h. h)

-- a kind that passes through, or of a mark, has an output 1
fork_first : (count : ℕ) (shape : Shape) → 1 ≤ count → port_get (replicate count shape) 1 ≡ Some shape
fork_first zero shape h = let none : ⊥ = omega (arith, h) in absurd none
fork_first (suc count) shape h = refl

passed_out : (k : Kind) → KindOk k → PassesThrough k → (a : Shape) × (port_get (outs k) 1 ≡ Some a)
passed_out (Buffer shape) ok h = (shape, refl)
passed_out (Fork shape count) ok h = (shape, fork_first count shape ok.1.0)
passed_out _ ok h = elim h [ ]

mux_blocks : (shape : Shape) (k : Kind) → k ≡ Mux shape → PassesThrough k → ⊥
mux_blocks shape k e h = subst PassesThrough e h

module _ (c : Circuit) (m : Name) (typed : Typed c) (mark : IsMark c m) (goes_back : Bool) (no_leaf : (n : Name) → ¬ (Row c m goes_back SelectLeaf n)) where
  -- a node of the tree that output 1 of another feeds
  record Next (n : Name) : Type 0 where
    node : Name
    kind : Kind
    is_kind : c.kind_at node ≡ Some kind
    through : PassesThrough kind
    fed : c.feeder (port_at node 1) ≡ Some (port_at n 1)
    on_tree : OnTree c m node

  abbrev pub SomeLane : Type 0
  SomeLane = (lane : Name) × IsLane c m lane

  tree_out : (n : Name) → OnTree c m n → (p : Port) × (c.feeder p ≡ Some (port_at n 1))
  tree_out n (root is) = let (value, tags, kind, some) = mark in typed.outputs (port_at n 1) (Init value tags) (field 1) (ap c.kind_at is ∙ kind) refl
  tree_out n (grown i q kind by fed is through) =
      let (a, first) = passed_out kind (typed.kinds n kind is) through in
      typed.outputs (port_at n 1) kind a is first

  -- a wire from the tree enters a Fork or a Buffer
  pub record Further (p q : Port) : Type 0 where
    pub kind : Kind
    pub is_kind : c.kind_at p.node ≡ Some kind
    pub through : PassesThrough kind
    pub is_first : p ≡ port_at p.node 1
    pub on_tree : OnTree c m p.node

  by_sort : (p q : Port) (k : Kind) → OnTree c m q.node → c.feeder p ≡ Some q → c.kind_at p.node ≡ Some k → (a : Shape) → port_get (ins k) p.port ≡ Some a → Sort k →
      Further p q ⊎ ((p.port ≡ 1) × IsLane c m p.node)
  by_sort p q k on fed is a enters (passes through one) =
      inl
      (record {
        kind = k;
        is_kind = is;
        through = through;
        is_first = λ i. record { node = p.node; port = one p.port a enters i };
        on_tree = grown p.port q k on fed is through;
      })
  by_sort p q k on fed is a enters (mux shape) = at p.port refl
    where
      at : (i : ℕ) → p.port ≡ i → Further p q ⊎ ((p.port ≡ 1) × IsLane c m p.node)
      at (suc zero) e =
          let port : p ≡ port_at p.node 1 = λ i. record { node = p.node; port = e i } in
          inr (e, record { shape = shape; is_mux = is; source = q; fed = ap c.feeder (sym port) ∙ fed; by_tree = on })
      at zero e = absurd (no_leaf p.node (p.port, q, on, fed, (λ h. mux_blocks shape h.0 (same_Some h.0 (Mux shape) (sym h.1 ∙ is)) h.2), (λ h. let no : zero ≡ 1 = sym e ∙ h.0 in cc)))
      at (suc (suc i)) e = absurd (no_leaf p.node (p.port, q, on, fed, (λ h. mux_blocks shape h.0 (same_Some h.0 (Mux shape) (sym h.1 ∙ is)) h.2), (λ h. let no : suc (suc i) ≡ 1 = sym e ∙ h.0 in cc)))
  by_sort p q k on fed is a enters (neither not_through not_mux) =
      absurd
      (no_leaf p.node (
        p.port,
        q,
        on,
        fed,
        (λ h. not_through (subst PassesThrough (same_Some h.0 k (sym h.1 ∙ is)) h.2)),
        (λ h. not_mux (subst IsMux (same_Some h.1.0 k (sym h.1.1 ∙ is)) h.1.2)),
      ))

  -- a wire from the tree goes on in it, or into the select of a lane
  pub after_tree : (p q : Port) → OnTree c m q.node → c.feeder p ≡ Some q → Further p q ⊎ ((p.port ≡ 1) × IsLane c m p.node)
  after_tree p q on fed = let w = typed.wires p q fed in by_sort p q w.to on fed w.is_to w.shape w.enters (sort w.to)

  next : (n : Name) → OnTree c m n → SomeLane ⊎ Next n
  next n on =
      let (p, fed) = tree_out n on in
      elim (after_tree p (port_at n 1) on fed) [
        | inl x ↦ inr (record { node = p.node; kind = x.kind; is_kind = x.is_kind; through = x.through; fed = ap c.feeder (sym x.is_first) ∙ fed; on_tree = x.on_tree })
        | inr lane ↦ inl (p.node, lane.1)
      ]

  each_next : (ns : List Name) → ((n : Name) → In n ns → OnTree c m n) → SomeLane ⊎ AllByRecursion Next ns
  each_next [] on = inr tt
  each_next (n ∷ ns) on =
      elim (next n (on n (head refl))) [
        | inl lane ↦ inl lane
        | inr one ↦ elim (each_next ns (λ k i. on k (tail i))) [ inl lane ↦ inl lane | inr rest ↦ inr (one, rest) ]
      ]

  targets : (ns : List Name) → AllByRecursion Next ns → List Name
  targets [] h = []
  targets (n ∷ ns) h = h.0.node ∷ targets ns h.1

  target_of : (t : Name) (ns : List Name) (h : AllByRecursion Next ns) → In t (targets ns h) → (n : Name) × In n ns × (x : Next n) × (t ≡ x.node)
  unfolding targets
  target_of t [] h i = elim i [ ]
  target_of t (n ∷ ns) h (head e) = (n, head refl, h.0, e)
  target_of t (n ∷ ns) h (tail i) = let (k, j, x, e) = target_of t ns h.1 i in (k, tail j, x, e)

  same_target : (a b : Name) (x : Next a) (y : Next b) → x.node ≡ y.node → a ≡ b
  same_target a b x y e = ap (λ (z : Port). z.node) (same_Some (port_at a 1) (port_at b 1) (sym x.fed ∙ ap (λ n. c.feeder (port_at n 1)) e ∙ y.fed))

  from_in : (P : Name → Type 0) (ns : List Name) → ((n : Name) → In n ns → P n) → AllByRecursion P ns
  from_in P [] h = tt
  from_in P (n ∷ ns) h = (h n (head refl), from_in P ns (λ k i. h k (tail i)))

  in_all : (P : Name → Type 0) (ns : List Name) (n : Name) → AllByRecursion P ns → In n ns → P n
  in_all P [] n h i = elim i [ ]
  in_all P (k ∷ ns) n h (head e) = subst P (sym e) h.0
  in_all P (k ∷ ns) n h (tail i) = in_all P ns n h.1 i

  targets_once : (ns : List Name) (h : AllByRecursion Next ns) → NoneTwice ns → NoneTwice (targets ns h)
  unfolding targets
  targets_once [] h once = tt
  targets_once (n ∷ ns) h once = (
    from_in (λ t. h.0.node ≢ t) (targets ns h.1)
        (λ t i e.
        let (k, j, x, is) = target_of t ns h.1 i in
        in_all (λ z. n ≢ z) ns k once.0 j (same_target n k h.0 x (e ∙ is))),
    targets_once ns h.1 once.1,
  )

  targets_length : (ns : List Name) (h : AllByRecursion Next ns) → length (targets ns h) ≡ length ns
  unfolding targets
  targets_length [] h = refl
  targets_length (n ∷ ns) h = ap suc (targets_length ns h.1)

  not_mark : (n : Name) (x : Next n) → m ≢ x.node
  not_mark n x e =
      let (value, tags, kind, some) = mark in
      subst PassesThrough (same_Some x.kind (Init value tags) (sym x.is_kind ∙ ap c.kind_at (sym e) ∙ kind)) x.through

  member : (ns : List Name) (h : AllByRecursion Next ns) (n : Name) → In n (m ∷ targets ns h) → OnTree c m n
  member ns h n (head e) = root e
  member ns h n (tail i) = let (k, j, x, is) = target_of n ns h i in subst (OnTree c m) (sym is) x.on_tree

  pub some_lane : (ns : List Name) → NoneTwice ns → ((n : Name) → In n ns → OnTree c m n) → ((n : Name) → OnTree c m n → In n ns) → SomeLane
  some_lane ns once on all =
      elim (each_next ns on) [
        | inl lane ↦ lane
        | inr h ↦
            let ts : List Name = targets ns h in
            let apart : NoneTwice (m ∷ ts) =
            (from_in (λ t. m ≢ t) ts (λ t i e. let (n, j, x, is) = target_of t ns h i in not_mark n x (e ∙ is)), targets_once ns h once) in
            let within : (n : Name) → In n (m ∷ ts) → In n ns = λ n i. all n (member ns h n i) in
            let less = no_heavier (λ x. 1) (m ∷ ts) ns apart within in
            let one = ones (m ∷ ts) in
            let two = ones ns in
            let long = targets_length ns h in
            let none : ⊥ = omega (arith, less, one, two, long) in
            absurd none
      ]
