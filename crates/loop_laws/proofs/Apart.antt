-- Loops of different marks share no node: trees, lanes, back paths and Branches.
use Rattle.std.proofs.Common.{◌≡◌, ◌≢◌, inl, inr, ℕ, sym, ap, subst, ◌∙◌, Bool, List, [], ◌∷◌, Some}
use Rattle.std.proofs.lemmas.Option.{same_Some}
use Rattle.components.specs.declared.kind.Kind.{Kind}
use Rattle.components.specs.declared.kind.Kind.TheVariants.{Mux, Branch, Init}
use Rattle.components.specs.Name.{Name, Port}
use Rattle.components.specs.Kind.{Shape}
use Rattle.components.specs.Orders.{name_cases}
use Rattle.circuits.specs.Circuit.{Circuit, Typed}
use Rattle.circuits.specs.Replacing.{In, In.head, In.tail}
use Rattle.circuits.specs.Root.{PassesThrough, Root, Root.here, Root.past}
use Rattle.loop_laws.specs.Polarity.{back_in, back_out, exit_bit}
use Rattle.loop_laws.specs.Reached.{port_at, HasKind, FedBy, OnTree, OnTree.root, OnTree.grown, IsLane, Reached, Reached.first, Reached.later, IsPure}
use Rattle.loop_laws.specs.BackPath.{IsBuffer, Through}
use Rattle.loop_laws.specs.Feeders.{Feeder}
use Rattle.loop_laws.specs.Loop.{Lane, Loop, HasLane, HasBranch, IsInside, LoopAt}
use Rattle.loop_laws.proofs.NodeKinds.{kind_is, tree_takes, IsBodyKind, only_input}
use Rattle.loop_laws.proofs.Constants.{constant_fed}
use Rattle.loop_laws.proofs.Order.{after_feeding}
use Rattle.loop_laws.proofs.BackPaths.{path_inside, path_rest, same_end}
use Rattle.loop_laws.proofs.Closed.{lane_kind, back_kind, body_kind, mark_kind, on_tree_kind}

pub feeder_fed : (g : Circuit) (m : Name) (d : Bool) (n : Name) → Feeder g m d n → FedBy g (Feeder g m d) n
feeder_fed g m d n (ns, i, fs) j q f =
    elim (constant_fed g [] ns n fs.constant i j q f) [ inl x ↦ elim x [ ] | inr x ↦ (ns, x, fs) ]

-- a tree has one root
module _ (g : Circuit) (ty : Typed g) (m n : Name) (l k : Loop) (h : LoopAt g m l) (j : LoopAt g n k) where
  grown_twice : (y : Name) → (i i' : ℕ) (q q' : Port) (a a' : Kind) → g.feeder (port_at y i) ≡ Some q → g.kind_at y ≡ Some a → PassesThrough a → g.feeder (port_at y i') ≡ Some q' → g.kind_at y ≡ Some a' → PassesThrough a' → q ≡ q'
  grown_twice y i i' q q' a a' f e t f' e' t' =
      let one : i ≡ 1 = only_input g ty (port_at y i) q f (a, e, tree_takes a t) in
      let one' : i' ≡ 1 = only_input g ty (port_at y i') q' f' (a', e', tree_takes a' t') in
      same_Some q q' (sym f ∙ ap (λ z. g.feeder (port_at y z)) (one ∙ sym one') ∙ f')

  pub one_root : (y : Name) → OnTree g m y → OnTree g n y → m ≡ n
  one_root y (root e) (root f) = sym e ∙ f
  one_root y (root e) (grown i q a t f kind tree) = absurd (mark_kind g ty m l h y PassesThrough e (a, kind, tree))
  one_root y (grown i q a t f kind tree) (root e) = absurd (mark_kind g ty n k j y PassesThrough e (a, kind, tree))
  one_root y (grown i q a t f kind tree) (grown i' q' a' t' f' kind' tree') =
      one_root q.node t (subst (λ (z : Port). OnTree g n z.node) (sym (grown_twice y i i' q q' a a' f kind tree f' kind' tree')) t')

  pub same_lane : (y : Name) → IsLane g m y → IsLane g n y → m ≡ n
  same_lane y x z = one_root x.source.node x.by_tree (subst (λ (p : Port). OnTree g n p.node) (same_Some z.source x.source (sym z.fed ∙ x.fed)) z.by_tree)

  -- a tree is apart from bodies and back paths
  not_inside : (q : Port) → IsInside k q.node → q.node ≡ m → ⊥
  not_inside q (inl x) e =
      let (a, kind) = lane_kind g ty n k j q.node x in
      let z : Some (Mux a) ≡ Some (Init (exit_bit l.goes_back) l.tags) = sym kind ∙ ap g.kind_at e ∙ h.mark.0 in cc
  not_inside q (inr i) e = mark_kind g ty m l h q.node IsBodyKind e (body_kind g ty n k j q.node i)

  pub tree_no_body : (y : Name) → OnTree g m y → y ≢ m → In y k.body → ⊥
  tree_no_body y (root e) away b = away e
  tree_no_body y (grown i q a t f kind tree) away b =
      elim (name_cases q.node m) [
        | inl is ↦ not_inside q (j.body.closed y b i q f) is
        | inr ne ↦ elim (j.body.closed y b i q f) [
          | inl x ↦ let (s, mux) = lane_kind g ty n k j q.node x in kind_is g PassesThrough q.node (Mux s) (on_tree_kind g ty m l h q.node t ne) mux
          | inr c ↦ tree_no_body q.node t ne c
        ]
      ]

  pub tree_no_back : (y : Name) → OnTree g m y → y ≢ m → (x : Lane) → In x k.lanes → In y x.back → ⊥
  tree_no_back y (root e) away x u b = away e
  tree_no_back y (grown i q a t f kind tree) away x u b =
      let one : i ≡ 1 = only_input g ty (port_at y i) q f (a, kind, tree_takes a tree) in
      let branched : g.kind_at x.branch ≡ Some (Branch x.shape) = (j.tree.each_lane x u).is_branch in
      elim (name_cases q.node m) [
        | inl is ↦ elim (path_inside g (port_at x.branch (back_out k.goes_back)) x.back (port_at x.mux (back_in k.goes_back)) y q (j.tree.each_lane x u).path b (ap (λ z. g.feeder (port_at y z)) (sym one) ∙ f)) [
          | inl e ↦
              let z : Some (Branch x.shape) ≡ Some (Init (exit_bit l.goes_back) l.tags) = sym branched ∙ ap g.kind_at (ap (λ (p : Port). p.node) (sym e) ∙ is) ∙ h.mark.0 in cc
          | inr c ↦ mark_kind g ty m l h q.node IsBuffer is (back_kind g ty n k j x q.node u c)
        ]
        | inr ne ↦ elim (path_inside g (port_at x.branch (back_out k.goes_back)) x.back (port_at x.mux (back_in k.goes_back)) y q (j.tree.each_lane x u).path b (ap (λ z. g.feeder (port_at y z)) (sym one) ∙ f)) [
          | inl e ↦ kind_is g PassesThrough q.node (Branch x.shape) (on_tree_kind g ty m l h q.node t ne) (ap (λ (p : Port). g.kind_at p.node) e ∙ branched)
          | inr c ↦ tree_no_back q.node t ne x u c
        ]
      ]

  -- the body of l is apart from the back paths of k
  branch_outside : (n : Name) (a : Shape) → g.kind_at n ≡ Some (Branch a) → IsInside l n → ⊥
  branch_outside y a e (inl x) = let (s, mux) = lane_kind g ty m l h y x in let z : Some (Branch a) ≡ Some (Mux s) = sym e ∙ mux in cc
  branch_outside y a e (inr i) = kind_is g IsBodyKind y (Branch a) (body_kind g ty m l h y i) e

  buffer_outside : (y : Name) (q : Port) → HasKind g IsBuffer y → g.feeder (port_at y 1) ≡ Some q → (IsInside l q.node → ⊥) → IsInside l y → ⊥
  buffer_outside y q b f out (inl x) = let (s, mux) = lane_kind g ty m l h y x in kind_is g IsBuffer y (Mux s) b mux
  buffer_outside y q b f out (inr i) = out (h.body.closed y i 1 q f)

  path_no_body : (q : Port) (bs : List Name) (p : Port) → Through g q bs p → (IsInside l q.node → ⊥) → (y : Name) → In y bs → In y l.body → ⊥
  path_no_body q [] p t out y i b = elim i [ ]
  path_no_body q (c ∷ cs) p t out y (head e) b = buffer_outside c q t.0 t.1 out (inr (subst (λ z. In z l.body) e b))
  path_no_body q (c ∷ cs) p t out y (tail i) b = path_no_body (port_at c 1) cs p t.2 (buffer_outside c q t.0 t.1 out) y i b

  pub body_no_back : (y : Name) → In y l.body → (x : Lane) → In x k.lanes → In y x.back → ⊥
  body_no_back y b x u i =
      path_no_body (port_at x.branch (back_out k.goes_back)) x.back (port_at x.mux (back_in k.goes_back)) (j.tree.each_lane x u).path
      (branch_outside x.branch x.shape (j.tree.each_lane x u).is_branch) y i b

  -- back paths that meet end at one Mux
  mux_no_buffer : (y : Name) (a : Shape) → g.kind_at y ≡ Some (Mux a) → HasKind g IsBuffer y → ⊥
  mux_no_buffer y a e b = kind_is g IsBuffer y (Mux a) b e

  pub backs_meet : (x z : Lane) → In x l.lanes → In z k.lanes → (y : Name) → In y x.back → In y z.back → x.mux ≡ z.mux
  backs_meet x z u v y b c =
      let s = path_rest g (port_at x.branch (back_out l.goes_back)) x.back (port_at x.mux (back_in l.goes_back)) y (h.tree.each_lane x u).path b in
      let t = path_rest g (port_at z.branch (back_out k.goes_back)) z.back (port_at z.mux (back_in k.goes_back)) y (j.tree.each_lane z v).path c in
      ap (λ (p : Port). p.node)
      (same_end g ty (port_at y 1) s.0 t.0 (port_at x.mux (back_in l.goes_back)) (port_at z.mux (back_in k.goes_back)) s.1 t.1
      (mux_no_buffer x.mux x.shape (h.tree.each_lane x u).is_mux) (mux_no_buffer z.mux z.shape (j.tree.each_lane z v).is_mux))

  module _ (differ : m ≢ n) where
    lanes_apart : (y : Name) → HasLane l y → HasLane k y → ⊥
    lanes_apart y x z = differ (same_lane y ((h.tree.lanes y).0 x) ((j.tree.lanes y).0 z))

    -- a node of both bodies is reached in neither
    both_unreached : (y : Name) → In y l.body → In y k.body → Reached g m y → ⊥
    both_unreached y i =
        after_feeding g l.body (λ x. In x k.body → Reached g m x → ⊥)
        (λ x in_l before in_k r. both_step x before in_k r) [] l.body h.body.in_order (λ x e. elim e [ ]) y i
      where
        both_step : (x : Name) → ((i : ℕ) (q : Port) → g.feeder (port_at x i) ≡ Some q → In q.node l.body → In q.node k.body → Reached g m q.node → ⊥) → In x k.body → Reached g m x → ⊥
        both_step x before in_k (first i q x_lane f pass) =
            elim (j.body.closed x in_k i q f) [
              | inl z ↦ lanes_apart q.node ((h.tree.lanes q.node).1 x_lane) z
              | inr b ↦ kind_is g IsBodyKind q.node (Mux x_lane.shape) (body_kind g ty n k j q.node b) x_lane.is_mux
            ]
        both_step x before in_k (later i q r f pass) =
            elim (j.body.closed x in_k i q f) [
              | inl z ↦
                  let (a, mux) = lane_kind g ty n k j q.node z in
                  kind_is g IsPure q.node (Mux a) (h.body.pure q.node r) mux
              | inr b ↦ before i q f ((h.body.body q.node).1 (inl r)) b r
            ]

    pub both_feeder : (y : Name) → In y l.body → In y k.body → Feeder g m l.goes_back y
    both_feeder y i b = elim ((h.body.body y).0 i) [ inl r ↦ absurd (both_unreached y i b r) | inr f ↦ f ]

    inside_both : (q : Port) → IsInside l q.node → IsInside k q.node → Feeder g m l.goes_back q.node
    inside_both q (inl x) (inl z) = absurd (lanes_apart q.node x z)
    inside_both q (inl x) (inr b) = let (a, mux) = lane_kind g ty m l h q.node x in absurd (kind_is g IsBodyKind q.node (Mux a) (body_kind g ty n k j q.node b) mux)
    inside_both q (inr b) (inl x) = let (a, mux) = lane_kind g ty n k j q.node x in absurd (kind_is g IsBodyKind q.node (Mux a) (body_kind g ty m l h q.node b) mux)
    inside_both q (inr b) (inr c) = both_feeder q.node b c

    -- no Branch is shared, since its condition would come from a feeder
    root_feeder : (p c : Port) → Root g p c → ((q : Port) → g.feeder p ≡ Some q → Feeder g m l.goes_back q.node) → Feeder g m l.goes_back c.node
    root_feeder p c (here kind f is ends) s = s c f
    root_feeder p c (past r kind f is passes next) s = root_feeder (port_at r.node 1) c next (feeder_fed g m l.goes_back r.node (s r f) 1)

    pub branches_apart : (y : Name) → HasBranch l y → HasBranch k y → ⊥
    branches_apart y b c =
        h.condition.bound (root_feeder (port_at y 2) h.condition.condition (h.condition.decides y b) (λ q f. inside_both q (h.branches.branches y b 2 q f) (j.branches.branches y c 2 q f)))
