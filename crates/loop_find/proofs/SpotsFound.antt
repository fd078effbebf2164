-- The spots that are written for the loops of all marks are those of all nodes.
use Rattle.std.proofs.Common.{◌≡◌, inl, inr, ℕ, zero, suc, ◌<◌, refl, sym, ap, subst, ◌∙◌, List, [], ◌∷◌, map, length, replicate, Some, arith}
use Rattle.std.specs.Prelude.{slice_get}
use Rattle.components.specs.declared.kind.Kind.{Kind}
use Rattle.components.specs.declared.kind.Kind.TheVariants.{Branch, Init, Mux}
use Rattle.components.specs.Name.{Name}
use Rattle.circuits.specs.Circuit.{Circuit, Typed, circuit_of}
use Rattle.circuits.specs.Replacing.{In, In.head, In.tail}
use Rattle.circuits.specs.Root.{PassesThrough}
use Rattle.loop_laws.specs.BackPath.{IsBuffer}
use Rattle.loop_laws.specs.Loop as laws
use Rattle.loop_laws.specs.Loop.{LoopAt, NodeOf, NodeOf.is_mark, NodeOf.in_tree, NodeOf.lane, NodeOf.branch, NodeOf.in_back, NodeOf.in_body, HasLane, HasBranch}
use Rattle.loop_laws.proofs.NodeKinds.{kind_is, IsBodyKind}
use Rattle.loop_laws.proofs.Closed.{lane_kind, branch_kind, back_kind, body_kind, tree_kind}
use Rattle.graph_core.specs.declared.place.NodeId.{NodeId}
use Rattle.graph_core.specs.Place.{index_of, id_of}
use Rattle.graph_core.specs.GraphValue.{GraphValue, Denotes, IsGraph, name_by}
use Rattle.loop_find.specs.declared.shape.Lane.{Lane}
use Rattle.loop_find.specs.declared.shape.LoopShape.{LoopShape}
use Rattle.loop_find.specs.declared.spots.Spot.{Spot}
use Rattle.loop_find.specs.declared.spots.Spot.TheVariants as spot_of
use Rattle.loop_find.specs.Marks.{names_by}
use Rattle.loop_find.specs.OnCycle.{AreLoops}
use Rattle.loop_find.specs.Shapes.{lane_by, loop_by}
use Rattle.loop_find.specs.Spots.{Write, written, writes_to, exit_port, lane_writes, all_lane_writes, loop_writes, all_writes, IsSpot, IsSpot.alone, IsSpot.inside, IsSpot.is_branch, AreSpots}
use Rattle.loop_find.proofs.Places.{in_at, in_left, in_right, in_either}
use Rattle.loop_find.proofs.SpotWrites.{Stood, Stood.untouched, Stood.touched, stood, written_size}
use Rattle.loop_find.proofs.Walking.{named, itself, same_named}

module _ {A B : Type 0} (f : A → B) where
  pub mapped_in : (x : A) (xs : List A) → In x xs → In (f x) (map f xs)
  mapped_in x [] i = elim i [ ]
  mapped_in x (y ∷ xs) (head e) = head (ap f e)
  mapped_in x (y ∷ xs) (tail i) = tail (mapped_in x xs i)

  pub in_mapped : (y : B) (xs : List A) → In y (map f xs) → (x : A) × In x xs × (y ≡ f x)
  in_mapped y [] i = elim i [ ]
  in_mapped y (x ∷ xs) (head e) = (x, head refl, e)
  in_mapped y (x ∷ xs) (tail i) = let (z, j, e) = in_mapped y xs i in (z, tail j, e)

pub got_repeated : {A : Type 0} (n k : ℕ) (x : A) → k < n → slice_get (replicate n x) k ≡ Some x
got_repeated zero k x less = absurd (omega arith)
got_repeated (suc n) zero x less = refl
got_repeated (suc n) (suc k) x less = got_repeated n k x (omega arith)

pub length_of_repeated : {A : Type 0} (n : ℕ) (x : A) → length (replicate n x) ≡ n
length_of_repeated zero x = refl
length_of_repeated (suc n) x = ap suc (length_of_repeated n x)

-- of which lane, and of which loop, a write is
lane_of : (at exit : ℕ) (w : Write) (xs : List Lane) → In w (all_lane_writes at exit xs) → (x : Lane) × In x xs × In w (lane_writes at exit x)
lane_of at exit w [] i = elim i [ ]
lane_of at exit w (x ∷ xs) i =
    elim (in_either w (lane_writes at exit x) (all_lane_writes at exit xs) i) [
      | inl h ↦ (x, head refl, h)
      | inr h ↦ let (y, j, k) = lane_of at exit w xs h in (y, tail j, k)
    ]

of_lane : (at exit : ℕ) (w : Write) (x : Lane) (xs : List Lane) → In x xs → In w (lane_writes at exit x) → In w (all_lane_writes at exit xs)
of_lane at exit w x [] j i = elim j [ ]
of_lane at exit w x (y ∷ xs) (head e) i = in_left w (lane_writes at exit y) (all_lane_writes at exit xs) (subst (λ z. In w (lane_writes at exit z)) e i)
of_lane at exit w x (y ∷ xs) (tail j) i = in_right w (lane_writes at exit y) (all_lane_writes at exit xs) (of_lane at exit w x xs j i)

shape_of : (w : Write) (ss : List LoopShape) → In w (all_writes ss) → (s : LoopShape) × In s ss × In w (loop_writes s)
shape_of w [] i = elim i [ ]
shape_of w (s ∷ ss) i =
    elim (in_either w (loop_writes s) (all_writes ss) i) [
      | inl h ↦ (s, head refl, h)
      | inr h ↦ let (t, j, k) = shape_of w ss h in (t, tail j, k)
    ]

of_shape : (w : Write) (s : LoopShape) (ss : List LoopShape) → In s ss → In w (loop_writes s) → In w (all_writes ss)
of_shape w s [] j i = elim j [ ]
of_shape w s (t ∷ ss) (head e) i = in_left w (loop_writes t) (all_writes ss) (subst (λ z. In w (loop_writes z)) e i)
of_shape w s (t ∷ ss) (tail j) i = in_right w (loop_writes t) (all_writes ss) (of_shape w s ss j i)

module _ (g : GraphValue) (ok : IsGraph g) (ty : Typed (circuit_of g.graph)) (shapes : List LoopShape) (ls : AreLoops g shapes) where
  abbrev c : Circuit
  c = circuit_of g.graph

  pub loop_at : (s : LoopShape) → In s shapes → LoopAt c (name_by g.ids s.mark) (loop_by g s)
  loop_at s i = let (k, at) = in_at s shapes i in ls.each k s at

  -- the write is that of the spot of its node
  record Good (w : Write) : Type 0 where
    live : Denotes g w.id (name_by g.ids w.id)
    spot : IsSpot g shapes (name_by g.ids w.id) w.spot

  module _ (s : LoopShape) (i : In s shapes) where
    abbrev m : Name
    m = name_by g.ids s.mark

    abbrev l : laws.Loop
    l = loop_by g s

    within : (id : NodeId) (kind : Kind) → c.kind_at (name_by g.ids id) ≡ Some kind → NodeOf m l (name_by g.ids id) → ¬ (HasBranch l (name_by g.ids id)) → Good (record { id = id; spot = spot_of.Inside (index_of s.mark) })
    within id kind e node apart =
        record { live = named g ok id (name_by g.ids id) kind e refl; spot = inside (record { shape = s; listed = i; has = node }) apart }

    no_branch : (P : Kind → Type 0) → ((shape : List ℕ) → P (Branch shape) → ⊥) → (n : Name) (kind : Kind) → c.kind_at n ≡ Some kind → P kind → ¬ (HasBranch l n)
    no_branch P none n kind e p b = let (a, is) = branch_kind c ty m l (loop_at s i) n b in none a (kind_is c P n (Branch a) (kind, e, p) is)

    good_tree : (id : NodeId) → In id s.tree → Good (record { id = id; spot = spot_of.Inside (index_of s.mark) })
    good_tree id j =
        let at : In (name_by g.ids id) l.tree = mapped_in (name_by g.ids) id s.tree j in
        let (kind, e, p) = tree_kind c ty m l (loop_at s i) (name_by g.ids id) at in
        within id kind e (in_tree at) (no_branch PassesThrough (λ a x. x) (name_by g.ids id) kind e p)

    good_body : (id : NodeId) → In id s.body → Good (record { id = id; spot = spot_of.Inside (index_of s.mark) })
    good_body id j =
        let at : In (name_by g.ids id) l.body = mapped_in (name_by g.ids) id s.body j in
        let (kind, e, p) = body_kind c ty m l (loop_at s i) (name_by g.ids id) at in
        within id kind e (in_body at) (no_branch IsBodyKind (λ a x. x) (name_by g.ids id) kind e p)

    good_mark : Good (record { id = s.mark; spot = spot_of.Inside (index_of s.mark) })
    good_mark =
        let e = (loop_at s i).mark.0 in
        within s.mark _ e (is_mark refl)
        (λ b. let (a, is) = branch_kind c ty m l (loop_at s i) m b in let clash : Some (Branch a) ≡ Some (Init _ _) = sym is ∙ e in cc)

    module _ (x : Lane) (j : In x s.lanes) where
      abbrev y : laws.Lane
      y = lane_by g x

      is_lane : In y l.lanes
      is_lane = mapped_in (lane_by g) x s.lanes j

      good_mux : Good (record { id = x.mux; spot = spot_of.Inside (index_of s.mark) })
      good_mux =
          let has : HasLane l (name_by g.ids x.mux) = (y, is_lane, refl) in
          let (a, e) = lane_kind c ty m l (loop_at s i) (name_by g.ids x.mux) has in
          within x.mux (Mux a) e (lane has)
          (λ b. let (d, is) = branch_kind c ty m l (loop_at s i) (name_by g.ids x.mux) b in let clash : Some (Branch d) ≡ Some (Mux a) = sym is ∙ e in cc)

      good_branch : Good (record { id = x.branch; spot = spot_of.Branch (index_of s.mark) (exit_port s.back_bit) })
      good_branch =
          let has : HasBranch l (name_by g.ids x.branch) = (y, is_lane, refl) in
          let (a, e) = branch_kind c ty m l (loop_at s i) (name_by g.ids x.branch) has in
          record { live = named g ok x.branch (name_by g.ids x.branch) (Branch a) e refl; spot = is_branch (record { shape = s; listed = i; has = branch has }) has }

      good_back : (id : NodeId) → In id x.back → Good (record { id = id; spot = spot_of.Inside (index_of s.mark) })
      good_back id k =
          let at : In (name_by g.ids id) y.back = mapped_in (name_by g.ids) id x.back k in
          let (kind, e, p) = back_kind c ty m l (loop_at s i) y (name_by g.ids id) is_lane at in
          within id kind e (in_back y is_lane at) (no_branch IsBuffer (λ a z. z) (name_by g.ids id) kind e p)

    good_to : (w : Write) (ids : List NodeId) (spot : Spot) → ((id : NodeId) → In id ids → Good (record { id = id; spot = spot })) → In w (writes_to spot ids) → Good w
    good_to w ids spot each k = let (id, j, e) = in_mapped (λ id. record { id = id; spot = spot }) w ids k in subst Good (sym e) (each id j)

    good_one : (w v : Write) → Good v → w ≡ v → Good w
    good_one w v good e = subst Good (sym e) good

    good_lane : (w : Write) (x : Lane) → In x s.lanes → In w (lane_writes (index_of s.mark) (exit_port s.back_bit) x) → Good w
    good_lane w x j k =
        elim (in_either w (writes_to (spot_of.Inside (index_of s.mark)) x.back) _ k) [
          | inl h ↦ good_to w x.back (spot_of.Inside (index_of s.mark)) (good_back x j) h
          | inr h ↦ good_ends w x j h
        ]
      where
        good_ends : (w : Write) (x : Lane) → In x s.lanes →
            In w (record { id = x.mux; spot = spot_of.Inside (index_of s.mark) } ∷ record { id = x.branch; spot = spot_of.Branch (index_of s.mark) (exit_port s.back_bit) } ∷ []) → Good w
        good_ends w x j (head e) = good_one w _ (good_mux x j) e
        good_ends w x j (tail (head e)) = good_one w _ (good_branch x j) e
        good_ends w x j (tail (tail k)) = elim k [ ]

    good_in : (w : Write) → In w (loop_writes s) → Good w
    good_in w k =
        elim (in_either w (writes_to (spot_of.Inside (index_of s.mark)) s.tree) _ k) [
          | inl h ↦ good_to w s.tree (spot_of.Inside (index_of s.mark)) good_tree h
          | inr a ↦ elim (in_either w (writes_to (spot_of.Inside (index_of s.mark)) s.body) _ a) [
            | inl h ↦ good_to w s.body (spot_of.Inside (index_of s.mark)) good_body h
            | inr b ↦ elim (in_either w (all_lane_writes (index_of s.mark) (exit_port s.back_bit) s.lanes) _ b) [
              | inl h ↦ let (x, j, d) = lane_of (index_of s.mark) (exit_port s.back_bit) w s.lanes h in good_lane w x j d
              | inr h ↦ good_last w h
            ]
          ]
        ]
      where
        good_last : (w : Write) → In w (record { id = s.mark; spot = spot_of.Inside (index_of s.mark) } ∷ []) → Good w
        good_last w (head e) = good_one w _ good_mark e
        good_last w (tail k) = elim k [ ]

    -- each node of the loop is written
    abbrev Written : NodeId → Type 0
    Written id = (w : Write) × In w (loop_writes s) × (w.id ≡ id)

    module _ (id : NodeId) (n : Name) (denotes : Denotes g id n) where
      same : (other : NodeId) → name_by g.ids other ≡ n → other ≡ id
      same other e = same_named g ok id other n denotes e

      to_list : (ids : List NodeId) → In n (names_by g ids) → (x : NodeId) × In x ids × (x ≡ id)
      to_list ids k = let (x, j, e) = in_mapped (name_by g.ids) n ids k in (x, j, same x (sym e))

      to_lane : (a : laws.Lane) → In a l.lanes → (x : Lane) × In x s.lanes × (a ≡ lane_by g x)
      to_lane a k = in_mapped (lane_by g) a s.lanes k

      in_tree_part : (w : Write) → In w (writes_to (spot_of.Inside (index_of s.mark)) s.tree) → In w (loop_writes s)
      in_tree_part w k = in_left w (writes_to (spot_of.Inside (index_of s.mark)) s.tree) _ k

      in_body_part : (w : Write) → In w (writes_to (spot_of.Inside (index_of s.mark)) s.body) → In w (loop_writes s)
      in_body_part w k = in_right w (writes_to (spot_of.Inside (index_of s.mark)) s.tree) _ (in_left w (writes_to (spot_of.Inside (index_of s.mark)) s.body) _ k)

      in_lanes_part : (w : Write) (x : Lane) → In x s.lanes → In w (lane_writes (index_of s.mark) (exit_port s.back_bit) x) → In w (loop_writes s)
      in_lanes_part w x j k =
          in_right w (writes_to (spot_of.Inside (index_of s.mark)) s.tree) _
          (in_right w (writes_to (spot_of.Inside (index_of s.mark)) s.body) _
          (in_left w (all_lane_writes (index_of s.mark) (exit_port s.back_bit) s.lanes) _ (of_lane (index_of s.mark) (exit_port s.back_bit) w x s.lanes j k)))

      in_last_part : In (record { id = s.mark; spot = spot_of.Inside (index_of s.mark) }) (loop_writes s)
      in_last_part =
          in_right _ (writes_to (spot_of.Inside (index_of s.mark)) s.tree) _
          (in_right _ (writes_to (spot_of.Inside (index_of s.mark)) s.body) _
          (in_right _ (all_lane_writes (index_of s.mark) (exit_port s.back_bit) s.lanes) _ (head refl)))

      is_written : NodeOf m l n → Written id
      is_written (is_mark e) = (record { id = s.mark; spot = spot_of.Inside (index_of s.mark) }, in_last_part, same s.mark (sym e))
      is_written (in_tree k) =
          let (x, j, e) = to_list s.tree k in
          (record { id = x; spot = spot_of.Inside (index_of s.mark) }, in_tree_part _ (mapped_in (λ id. record { id = id; spot = spot_of.Inside (index_of s.mark) }) x s.tree j), e)
      is_written (in_body k) =
          let (x, j, e) = to_list s.body k in
          (record { id = x; spot = spot_of.Inside (index_of s.mark) }, in_body_part _ (mapped_in (λ id. record { id = id; spot = spot_of.Inside (index_of s.mark) }) x s.body j), e)
      is_written (lane (a, k, e)) =
          let (x, j, is) = to_lane a k in (
            record { id = x.mux; spot = spot_of.Inside (index_of s.mark) },
            in_lanes_part _ x j (in_right _ (writes_to (spot_of.Inside (index_of s.mark)) x.back) _ (head refl)),
            same x.mux (sym (ap (λ (z : laws.Lane). z.mux) is) ∙ e),
          )
      is_written (branch (a, k, e)) =
          let (x, j, is) = to_lane a k in (
            record { id = x.branch; spot = spot_of.Branch (index_of s.mark) (exit_port s.back_bit) },
            in_lanes_part _ x j (in_right _ (writes_to (spot_of.Inside (index_of s.mark)) x.back) _ (tail (head refl))),
            same x.branch (sym (ap (λ (z : laws.Lane). z.branch) is) ∙ e),
          )
      is_written (in_back a k b) =
          let (x, j, is) = to_lane a k in
          let (y, d, e) = to_list x.back (subst (λ (z : laws.Lane). In n z.back) is b) in (
            record { id = y; spot = spot_of.Inside (index_of s.mark) },
            in_lanes_part _ x j (in_left _ (writes_to (spot_of.Inside (index_of s.mark)) x.back) _ (mapped_in (λ id. record { id = id; spot = spot_of.Inside (index_of s.mark) }) y x.back d)),
            e,
          )

  good : (w : Write) → In w (all_writes shapes) → Good w
  good w k = let (s, i, j) = shape_of w shapes k in good_in s i w j

  abbrev before : List Spot
  before = replicate g.slots spot_of.Alone

  spot_at : (id : NodeId) (n : Name) → Denotes g id n → Stood (all_writes shapes) before (index_of id) → (s : Spot) × (slice_get (written (all_writes shapes) before) (index_of id) ≡ Some s) × IsSpot g shapes n s
  spot_at id n denotes (touched w j here is) =
      let same_id : w.id ≡ id = ap id_of here in
      (w.spot, is, subst (λ x. IsSpot g shapes x w.spot) (ap (name_by g.ids) same_id ∙ itself g id n denotes) (good w j).spot)
  spot_at id n denotes (untouched others is) = (
    spot_of.Alone,
    is ∙ got_repeated g.slots (index_of id) spot_of.Alone (ok.within id n denotes),
    alone (λ h. let (w, j, e) = is_written h.shape h.listed id n denotes h.has in others w (of_shape w h.shape shapes h.listed j) (ap index_of e)),
  )

  pub are_spots : AreSpots g shapes (written (all_writes shapes) (replicate g.slots spot_of.Alone))
  are_spots =
      record {
        size = written_size (all_writes shapes) before ∙ length_of_repeated g.slots spot_of.Alone;
        spot = λ id n denotes.
            let less = ok.within id n denotes in
            let size = length_of_repeated g.slots spot_of.Alone in
            spot_at id n denotes (stood (all_writes shapes) before (index_of id) (omega (arith, less, size)));
      }
