-- A mark has at most one loop.
use Rattle.std.proofs.Common.{◌≡◌, ◌⊎◌, inl, inr, ℕ, refl, sym, ap, subst, ◌∙◌, Bool, true, false, List, [], ◌∷◌, ◌++◌, map, Some, arith}
use Rattle.components.specs.declared.kind.Kind.TheVariants.{Mux, Branch, Init}
use Rattle.components.specs.Name.{Name, Port}
use Rattle.components.specs.Kind.{Shape}
use Rattle.components.specs.Orders.{name_cases}
use Rattle.circuits.specs.Circuit.{Circuit}
use Rattle.circuits.specs.Replacing.{In, In.head, In.tail}
use Rattle.loop_laws.specs.Polarity.{back_in, back_out, exit_bit}
use Rattle.loop_laws.specs.Reached.{port_at, HasKind}
use Rattle.loop_laws.specs.BackPath.{IsBuffer, Through}
use Rattle.loop_laws.specs.Feeders.{Feeder}
use Rattle.loop_laws.specs.BodyOrder.{IsReady, InBodyOrder}
use Rattle.loop_laws.specs.Loop.{Lane, Loop, IsLaneOf, LoopAt}
use Rattle.loop_laws.proofs.NodeKinds.{kind_is}
use Rattle.loop_laws.proofs.BackPaths.{turned, same_start}
use Rattle.loop_laws.proofs.Ascending.{not_both, ascending_same}

-- a list is told by its turned list
turned_end : (xs : List Name) (c : Name) → turned (xs ++ c ∷ []) ≡ c ∷ turned xs
turned_end [] c = refl
turned_end (x ∷ xs) c = ap (λ z. z ++ x ∷ []) (turned_end xs c)

turned_twice : (xs : List Name) → turned (turned xs) ≡ xs
turned_twice [] = refl
turned_twice (x ∷ xs) = turned_end (turned xs) x ∙ ap (λ z. x ∷ z) (turned_twice xs)

pub turned_same : (xs ys : List Name) → turned xs ≡ turned ys → xs ≡ ys
turned_same xs ys e = sym (turned_twice xs) ∙ ap turned e ∙ turned_twice ys

-- an order that takes the least ready name is one
module _ (g : Circuit) (body other : List Name) (to : (n : Name) → In n body → In n other) (from : (n : Name) → In n other → In n body) where
  ready_to : (placed : List Name) (n : Name) → IsReady g body placed n → IsReady g other placed n
  ready_to placed n r = record { in_body = to n r.in_body; open_yet = r.open_yet; inputs = λ i q f b. r.inputs i q f (from q.node b) }

  ready_from : (placed : List Name) (n : Name) → IsReady g other placed n → IsReady g body placed n
  ready_from placed n r = record { in_body = from n r.in_body; open_yet = r.open_yet; inputs = λ i q f b. r.inputs i q f (to q.node b) }

  placed_or : (n x : Name) (placed ns : List Name) → In x placed ⊎ In x (n ∷ ns) → In x (n ∷ placed) ⊎ In x ns
  placed_or n x placed ns (inl i) = inl (tail i)
  placed_or n x placed ns (inr (head e)) = inl (head e)
  placed_or n x placed ns (inr (tail i)) = inr i

  none_left : (n : Name) (placed : List Name) → (In n placed → ⊥) → In n placed ⊎ In n [] → ⊥
  none_left n placed out (inl i) = out i
  none_left n placed out (inr i) = elim i [ ]

  first_ready : (n k : Name) (placed ns ks : List Name) → InBodyOrder g body placed (n ∷ ns) → InBodyOrder g other placed (k ∷ ks) → n ≡ k
  first_ready n k placed ns ks o u =
      elim (name_cases n k) [
        | inl is ↦ is
        | inr ne ↦ absurd (not_both n k (o.1 k (ready_from placed k u.0) (λ e. ne (sym e))) (u.1 n (ready_to placed n o.0) ne))
      ]

  order_same : (placed ns ks : List Name) → InBodyOrder g body placed ns → InBodyOrder g other placed ks → ((n : Name) → In n body → In n placed ⊎ In n ns) → ((n : Name) → In n other → In n placed ⊎ In n ks) → ns ≡ ks
  order_same placed [] [] o u a b = refl
  order_same placed [] (k ∷ ks) o u a b = absurd (none_left k placed u.0.open_yet (a k (from k u.0.in_body)))
  order_same placed (n ∷ ns) [] o u a b = absurd (none_left n placed o.0.open_yet (b n (to n o.0.in_body)))
  order_same placed (n ∷ ns) (k ∷ ks) o u a b =
      let e : n ≡ k = first_ready n k placed ns ks o u in
      ap (λ z. z ∷ ns) e
      ∙ ap (λ zs. k ∷ zs)
      (order_same (n ∷ placed) ns ks o.2 (subst (λ z. InBodyOrder g other (z ∷ placed) ks) (sym e) u.2)
      (λ x i. placed_or n x placed ns (a x i)) (λ x i. placed_or n x placed ks (subst (λ z. In x placed ⊎ In x (z ∷ ks)) (sym e) (b x i))))

zero_one : ◌≡◌ {A = ℕ} 0 1 → ⊥
zero_one e = omega arith

pub bit_same : (d e : Bool) → exit_bit d ≡ exit_bit e → d ≡ e
bit_same true true h = refl
bit_same true false h = absurd (zero_one h)
bit_same false true h = absurd (zero_one (sym h))
bit_same false false h = refl

pub init_bit : (v w n k : ℕ) → Some (Init v n) ≡ Some (Init w k) → v ≡ w
init_bit v w n k e = cc

init_tags : (v w n k : ℕ) → Some (Init v n) ≡ Some (Init w k) → n ≡ k
init_tags v w n k e = cc

mux_shape : (a b : Shape) → Some (Mux a) ≡ Some (Mux b) → a ≡ b
mux_shape a b e = cc

-- lanes with the same Muxes, in one order
lanes_same : (xs ys : List Lane) → map (λ (x : Lane). x.mux) xs ≡ map (λ (x : Lane). x.mux) ys → ((x y : Lane) → In x xs → In y ys → x.mux ≡ y.mux → x ≡ y) → xs ≡ ys
lanes_same [] [] e h = refl
lanes_same [] (y ∷ ys) e h = cc
lanes_same (x ∷ xs) [] e h = cc
lanes_same (x ∷ xs) (y ∷ ys) e h =
    let one : x.mux ≡ y.mux = cc in
    let others : map (λ (x : Lane). x.mux) xs ≡ map (λ (x : Lane). x.mux) ys = cc in
    ap (λ z. z ∷ xs) (h x y (head refl) (head refl) one) ∙ ap (λ zs. y ∷ zs) (lanes_same xs ys others (λ a b i j. h a b (tail i) (tail j)))

pub in_map : (xs : List Lane) (n : Name) → In n (map (λ (x : Lane). x.mux) xs) → (x : Lane) × In x xs × (x.mux ≡ n)
in_map [] n i = elim i [ ]
in_map (x ∷ xs) n (head e) = (x, head refl, sym e)
in_map (x ∷ xs) n (tail i) = let (y, j, e) = in_map xs n i in (y, tail j, e)

pub map_in : (xs : List Lane) (n : Name) → (x : Lane) × In x xs × (x.mux ≡ n) → In n (map (λ (x : Lane). x.mux) xs)
map_in [] n (x, i, e) = elim i [ ]
map_in (y ∷ ys) n (x, head f, e) = head (sym e ∙ ap (λ (z : Lane). z.mux) f)
map_in (y ∷ ys) n (x, tail i, e) = tail (map_in ys n (x, i, e))

module _ (g : Circuit) (m : Name) (l k : Loop) (h : LoopAt g m l) (j : LoopAt g m k) where
  same_way : l.goes_back ≡ k.goes_back
  same_way = bit_same l.goes_back k.goes_back (init_bit (exit_bit l.goes_back) (exit_bit k.goes_back) l.tags k.tags (sym h.mark.0 ∙ j.mark.0))

  same_tags : l.tags ≡ k.tags
  same_tags = init_tags (exit_bit l.goes_back) (exit_bit k.goes_back) l.tags k.tags (sym h.mark.0 ∙ j.mark.0)

  same_tree : l.tree ≡ k.tree
  same_tree = ascending_same l.tree k.tree h.tree.tree_by_name j.tree.tree_by_name (λ n i. (j.tree.tree n).1 ((h.tree.tree n).0 i)) (λ n i. (h.tree.tree n).1 ((j.tree.tree n).0 i))

  branch_start : (r : Name) (a : Shape) → g.kind_at r ≡ Some (Branch a) → HasKind g IsBuffer r → ⊥
  branch_start r a e b = kind_is g IsBuffer r (Branch a) b e

  same_lane : (x y : Lane) → IsLaneOf g l.goes_back x → IsLaneOf g k.goes_back y → x.mux ≡ y.mux → x ≡ y
  same_lane x y a b e =
      let path : Through g (port_at y.branch (back_out l.goes_back)) y.back (port_at x.mux (back_in l.goes_back)) =
      subst (λ z. Through g (port_at y.branch (back_out l.goes_back)) y.back (port_at z (back_in l.goes_back))) (sym e)
      (subst (λ d. Through g (port_at y.branch (back_out d)) y.back (port_at y.mux (back_in d))) (sym same_way) b.path) in
      let s = same_start g (port_at x.mux (back_in l.goes_back)) x.back y.back (port_at x.branch (back_out l.goes_back)) (port_at y.branch (back_out l.goes_back)) a.path path
      (branch_start x.branch x.shape a.is_branch) (branch_start y.branch y.shape b.is_branch) in
      let shapes : x.shape ≡ y.shape = mux_shape x.shape y.shape (sym a.is_mux ∙ ap g.kind_at e ∙ b.is_mux) in
      let branches : x.branch ≡ y.branch = ap (λ (z : Port). z.node) s.0 in
      let backs : x.back ≡ y.back = turned_same x.back y.back s.1 in
      lane_of x y e branches backs shapes
    where
      lane_of : (x y : Lane) → x.mux ≡ y.mux → x.branch ≡ y.branch → x.back ≡ y.back → x.shape ≡ y.shape → x ≡ y
      lane_of x y a b c d =
          ap (λ z. record { mux = z; branch = x.branch; back = x.back; shape = x.shape }) a
          ∙ ap (λ z. record { mux = y.mux; branch = z; back = x.back; shape = x.shape }) b
          ∙ ap (λ z. record { mux = y.mux; branch = y.branch; back = z; shape = x.shape }) c
          ∙ ap (λ z. record { mux = y.mux; branch = y.branch; back = y.back; shape = z }) d

  same_muxes : map (λ (x : Lane). x.mux) l.lanes ≡ map (λ (x : Lane). x.mux) k.lanes
  same_muxes =
      ascending_same (map (λ (x : Lane). x.mux) l.lanes) (map (λ (x : Lane). x.mux) k.lanes) h.tree.lanes_by_name j.tree.lanes_by_name
      (λ n i. map_in k.lanes n ((j.tree.lanes n).1 ((h.tree.lanes n).0 (in_map l.lanes n i)))) (λ n i. map_in l.lanes n ((h.tree.lanes n).1 ((j.tree.lanes n).0 (in_map k.lanes n i))))

  same_lanes : l.lanes ≡ k.lanes
  same_lanes = lanes_same l.lanes k.lanes same_muxes (λ x y i u e. same_lane x y (h.tree.each_lane x i) (j.tree.each_lane y u) e)

  to_body : (n : Name) → In n l.body → In n k.body
  to_body n i =
      (j.body.body n).1 (elim ((h.body.body n).0 i) [ inl r ↦ inl r | inr f ↦ inr (subst (λ d. Feeder g m d n) same_way f) ])

  from_body : (n : Name) → In n k.body → In n l.body
  from_body n i =
      (h.body.body n).1 (elim ((j.body.body n).0 i) [ inl r ↦ inl r | inr f ↦ inr (subst (λ d. Feeder g m d n) (sym same_way) f) ])

  same_body : l.body ≡ k.body
  same_body = order_same g l.body k.body to_body from_body [] l.body k.body h.body.in_order j.body.in_order (λ n i. inr i) (λ n i. inr i)

  pub one_loop : l ≡ k
  one_loop =
      ap (λ z. record { tags = z; goes_back = l.goes_back; tree = l.tree; lanes = l.lanes; body = l.body }) same_tags
      ∙ ap (λ z. record { tags = k.tags; goes_back = z; tree = l.tree; lanes = l.lanes; body = l.body }) same_way
      ∙ ap (λ z. record { tags = k.tags; goes_back = k.goes_back; tree = z; lanes = l.lanes; body = l.body }) same_tree
      ∙ ap (λ z. record { tags = k.tags; goes_back = k.goes_back; tree = k.tree; lanes = z; body = l.body }) same_lanes
      ∙ ap (λ z. record { tags = k.tags; goes_back = k.goes_back; tree = k.tree; lanes = k.lanes; body = z }) same_body
