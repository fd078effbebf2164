-- Walks of a circuit, loops taken as one place each, are ways of a graph of numbers.
use Rattle.std.proofs.Common.{◌≡◌, ◌⊎◌, inl, inr, ℕ, refl, sym, ap, subst, List, Some}
use Rattle.components.specs.Name.{Name, Port}
use Rattle.components.specs.Orders.{name_cases}
use Rattle.components.specs.declared.kind.Kind.{Kind}
use Rattle.circuits.specs.Circuit.{Circuit, Typed}
use Rattle.digraph.specs.Edges.{HasEdge}
use Rattle.digraph.specs.Cycles as numbers
use Rattle.loop_laws.specs.Polarity.{IsMark}
use Rattle.loop_laws.specs.Loop.{Loop, NodeOf, NodeOf.is_mark, NodeOf.lane, NodeOf.branch, IsFresh, IsExit}
use Rattle.loop_laws.specs.OffCycle.{AllLoops, InLoop, GoesOnBy, GoesOnBy.out_of_loop, GoesOnBy.out_of_node, Walk, Walk.here, Walk.on}
use Rattle.loop_laws.proofs.Closed.{inner_or_fresh, inner_fed}
use Rattle.loop_laws.proofs.ShareNone.{share_none}
use Rattle.loop_find.specs.OnCycle.{IsOnCycle, Leaves}

-- nodes stand at numbers: those of a loop at one, the others each at its own; and edges are the wires that leave a loop, or a node that is in none
pub record Numbers (c : Circuit) (loops : Name → Loop) (rows : List (List ℕ)) (Place : Name → ℕ → Type 0) : Type 0 where
  pub place : (n : Name) (kind : Kind) → c.kind_at n ≡ Some kind → (v : ℕ) × Place n v
  pub once : (n : Name) (v w : ℕ) → Place n v → Place n w → v ≡ w
  pub in_loop : (m n : Name) (v : ℕ) → IsMark c m → NodeOf m (loops m) n → Place n v → Place m v
  pub alike : (n k : Name) (v : ℕ) → Place n v → Place k v → (n ≡ k) ⊎ ((m : Name) × IsMark c m × NodeOf m (loops m) n × NodeOf m (loops m) k)
  pub edge : (p q : Port) (v w : ℕ) → c.feeder p ≡ Some q → Leaves c loops q → Place q.node v → Place p.node w → HasEdge rows v w
  pub wire : (v w : ℕ) → HasEdge rows v w → (p q : Port) × (c.feeder p ≡ Some q) × Leaves c loops q × Place q.node v × Place p.node w

-- an input that a walk may come by
abbrev Entered : Circuit → (Name → Loop) → Port → Type 0
Entered c loops p = (q : Port) × (c.feeder p ≡ Some q) × Leaves c loops q

further : {rows : List (List ℕ)} {u v w : ℕ} → numbers.Leads rows u v → HasEdge rows v w → numbers.Leads rows u w
further {rows = rows} {w = w} (numbers.Leads.here e) edge = numbers.Leads.on w (subst (λ n. HasEdge rows n w) (sym e) edge) (numbers.Leads.here refl)
further (numbers.Leads.on k first rest) edge = numbers.Leads.on k first (further rest edge)

prepend : {c : Circuit} {loops : Name → Loop} {p s r : Port} → GoesOnBy c loops p s → Walk c loops s r → Walk c loops p r
prepend {c = c} {loops = loops} {p = p} goes (here e) = on p (here refl) (subst (GoesOnBy c loops p) e goes)
prepend goes (on t walk more) = on t (prepend goes walk) more

module _ (c : Circuit) (ty : Typed c) (loops : Name → Loop) (all : AllLoops c loops) (rows : List (List ℕ)) (Place : Name → ℕ → Type 0) (numbers_are : Numbers c loops rows Place) where
  -- an exit is an output of a node of its loop
  exit_node : (m : Name) (q : Port) → IsExit (loops m) q → NodeOf m (loops m) q.node
  exit_node m q (x, i, e) = branch (x, i, ap (λ (z : Port). z.node) (sym e))

  fresh_node : (m : Name) (p : Port) → IsFresh (loops m) p → NodeOf m (loops m) p.node
  fresh_node m p (x, i, e) = lane (x, i, ap (λ (z : Port). z.node) (sym e))

  one_loop : (m k n : Name) → IsMark c m → IsMark c k → NodeOf m (loops m) n → NodeOf k (loops k) n → m ≡ k
  one_loop m k n is_m is_k a b =
      elim (name_cases m k) [
        | inl same ↦ same
        | inr differ ↦ absurd (share_none c ty m k (loops m) (loops k) (all m is_m) (all k is_k) differ n a b)
      ]

  entered_place : (p : Port) → Entered c loops p → (v : ℕ) × Place p.node v
  entered_place p (q, fed, leaves) = numbers_are.place p.node (ty.wires p q fed).to (ty.wires p q fed).is_to

  source_place : (p q : Port) → c.feeder p ≡ Some q → (v : ℕ) × Place q.node v
  source_place p q fed = numbers_are.place q.node (ty.wires p q fed).from (ty.wires p q fed).is_from

  -- the nodes of a loop stand at one number
  same_place : (m n k : Name) (v w : ℕ) → IsMark c m → NodeOf m (loops m) n → NodeOf m (loops m) k → Place n v → Place k w → v ≡ w
  same_place m n k v w is_m a b at_n at_k = numbers_are.once m v w (numbers_are.in_loop m n v is_m a at_n) (numbers_are.in_loop m k w is_m b at_k)

  step : (s r : Port) (v w : ℕ) → GoesOnBy c loops s r → Place s.node v → Place r.node w → HasEdge rows v w
  step s r v w (out_of_loop m q is_m node exit fed) at_s at_r =
      let (x, at_q) = source_place r q fed in
      let same : v ≡ x = same_place m s.node q.node v x is_m node (exit_node m q exit) at_s at_q in
      numbers_are.edge r q v w fed (inl (m, is_m, exit)) (subst (Place q.node) (sym same) at_q) at_r
  step s r v w (out_of_node q outside from fed) at_s at_r =
      numbers_are.edge r q v w fed (inr (subst (λ n. ¬ (InLoop c loops n)) (sym from) outside)) (subst (λ n. Place n v) (sym from) at_s) at_r

  goes_entered : (s r : Port) → GoesOnBy c loops s r → Entered c loops r
  goes_entered s r (out_of_loop m q is_m node exit fed) = (q, fed, inl (m, is_m, exit))
  goes_entered s r (out_of_node q outside from fed) = (q, fed, inr (subst (λ n. ¬ (InLoop c loops n)) (sym from) outside))

  walk_entered : (p r : Port) → Walk c loops p r → Entered c loops p → Entered c loops r
  walk_entered p r (here e) entered = subst (Entered c loops) e entered
  walk_entered p r (on s walk goes) entered = goes_entered s r goes

  leads_of : (p r : Port) (v w : ℕ) → Walk c loops p r → Entered c loops p → Place p.node v → Place r.node w → numbers.Leads rows v w
  leads_of p r v w (here e) entered at_p at_r = numbers.Leads.here (numbers_are.once r.node v w (subst (λ (z : Port). Place z.node v) e at_p) at_r)
  leads_of p r v w (on s walk goes) entered at_p at_r =
      let (x, at_s) = entered_place s (walk_entered p s walk entered) in
      further (leads_of p s v x walk entered at_p at_s) (step s r x w goes at_s at_r)

  -- the walk goes on by a wire whose source stands at the number of the node that it came to
  goes_on : (p r q : Port) (v : ℕ) → Place p.node v → Place q.node v → c.feeder r ≡ Some q → Leaves c loops q → GoesOnBy c loops p r
  goes_on p r q v at_p at_q fed (inl (m, is_m, exit)) =
      elim (numbers_are.alike p.node q.node v at_p at_q) [
        | inl same ↦ out_of_loop m q is_m (subst (NodeOf m (loops m)) (sym same) (exit_node m q exit)) exit fed
        | inr (k, is_k, node_p, node_q) ↦
            let same : k ≡ m = one_loop k m q.node is_k is_m node_q (exit_node m q exit) in
            out_of_loop m q is_m (subst (λ x. NodeOf x (loops x) p.node) same node_p) exit fed
      ]
  goes_on p r q v at_p at_q fed (inr outside) =
      elim (numbers_are.alike p.node q.node v at_p at_q) [
        | inl same ↦ out_of_node q (subst (λ n. ¬ (InLoop c loops n)) (sym same) outside) (sym same) fed
        | inr (k, is_k, node_p, node_q) ↦ absurd (outside (k, is_k, node_q))
      ]

  walk_of : (p : Port) (v w : ℕ) → numbers.Leads rows v w → Entered c loops p → Place p.node v → (r : Port) × Walk c loops p r × Entered c loops r × Place r.node w
  walk_of p v w (numbers.Leads.here e) entered at_p = (p, here refl, entered, subst (Place p.node) e at_p)
  walk_of p v w (numbers.Leads.on k edge rest) entered at_p =
      let (s, q, fed, leaves, at_q, at_s) = numbers_are.wire v k edge in
      let goes = goes_on p s q v at_p at_q fed leaves in
      let (r, walk, entered_r, at_r) = walk_of s k w rest (q, fed, leaves) at_s in
      (r, prepend goes walk, entered_r, at_r)

  module _ (m : Name) (is_m : IsMark c m) (v : ℕ) (at_m : Place m v) where
    stands_in : (n : Name) → Place n v → NodeOf m (loops m) n
    stands_in n at_n =
        elim (numbers_are.alike n m v at_n at_m) [
          | inl same ↦ is_mark same
          | inr (k, is_k, node_n, node_m) ↦
              let same : k ≡ m = one_loop k m m is_k is_m node_m (is_mark refl) in
              subst (λ x. NodeOf x (loops x) n) same node_n
        ]

    exit_of : (q : Port) → Place q.node v → Leaves c loops q → IsExit (loops m) q
    exit_of q at_q (inl (k, is_k, exit)) =
        let same : k ≡ m = one_loop k m q.node is_k is_m (exit_node k q exit) (stands_in q.node at_q) in
        subst (λ x. IsExit (loops x) q) same exit
    exit_of q at_q (inr outside) = absurd (outside (m, is_m, stands_in q.node at_q))

    enters_fresh : (r : Port) → Entered c loops r → NodeOf m (loops m) r.node → IsFresh (loops m) r
    enters_fresh r (q, fed, leaves) node =
        elim (inner_or_fresh c ty m (loops m) (all m is_m) r q fed node) [
          | inr fresh ↦ fresh
          | inl inner ↦
              let inward = inner_fed c ty m (loops m) (all m is_m) r q inner fed in
              elim leaves [
                | inl (k, is_k, exit) ↦
                    let same : k ≡ m = one_loop k m q.node is_k is_m (exit_node k q exit) inward.node in
                    absurd (inward.inward (subst (λ x. IsExit (loops x) q) same exit))
                | inr outside ↦ absurd (outside (m, is_m, inward.node))
              ]
        ]

    pub cycle_there : numbers.OnCycle rows v → IsOnCycle c loops m
    cycle_there cycle =
        let (p, q, fed, leaves, at_q, at_p) = numbers_are.wire v cycle.next cycle.edge in
        let (r, walk, entered, at_r) = walk_of p cycle.next v cycle.back (q, fed, leaves) at_p in
        record { first = p; exit = q; last = r; fed = fed; leaves = exit_of q at_q leaves; walk = walk; comes_back = enters_fresh r entered (stands_in r.node at_r) }

    at_node : (n : Name) (w : ℕ) → NodeOf m (loops m) n → Place n w → Place n v
    at_node n w node at_n = subst (Place n) (same_place m n m w v is_m node (is_mark refl) at_n at_m) at_n

    pub cycle_back : IsOnCycle c loops m → numbers.OnCycle rows v
    cycle_back cycle =
        let entered : Entered c loops cycle.first = (cycle.exit, cycle.fed, inl (m, is_m, cycle.leaves)) in
        let (x, at_q) = source_place cycle.first cycle.exit cycle.fed in
        let (w, at_p) = entered_place cycle.first entered in
        let (y, at_r) = entered_place cycle.last (walk_entered cycle.first cycle.last cycle.walk entered) in
        record {
          next = w;
          edge = numbers_are.edge cycle.first cycle.exit v w cycle.fed (inl (m, is_m, cycle.leaves)) (at_node cycle.exit.node x (exit_node m cycle.exit cycle.leaves) at_q) at_p;
          back = leads_of cycle.first cycle.last w v cycle.walk entered at_p (at_node cycle.last.node y (fresh_node m cycle.last cycle.comes_back) at_r);
        }
