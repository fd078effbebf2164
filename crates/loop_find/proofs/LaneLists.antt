-- The lanes of a mark in order.
use Rattle.std.proofs.Common.{◌≡◌, ℕ, zero, suc, ◌<◌, length, get_or, arith, refl, sym, ap, subst, ◌∙◌, Bool, List, [], ◌∷◌, ◌++◌, map, Some, append-nil, inl, inr}
use Rattle.std.specs.Prelude.{slice_get, reverse}
use Rattle.std.proofs.lemmas.Option.{none-some}
use Rattle.std.proofs.lemmas.Grind.{reverse_onto}
use Rattle.components.specs.Name.{Name}
use Rattle.circuits.specs.Circuit.{circuit_of}
use Rattle.circuits.specs.Replacing.{In, In.head, In.tail}
use Rattle.loop_laws.specs.BodyOrder.{Ascending}
use Rattle.loop_laws.specs.Reached.{IsLane}
use Rattle.graph_core.specs.declared.place.NodeId.{NodeId}
use Rattle.graph_core.specs.GraphValue.{GraphValue, Denotes, IsGraph, name_by}
use Rattle.loop_find.specs.declared.shape.Lane.{Lane}
use Rattle.loop_find.specs.Backs.{IsBranchBy, turned_names}
use Rattle.loop_find.specs.NameOrders.{AreByName}
use Rattle.loop_find.specs.Lanes.{AreLanes, IsLaneBy}
use Rattle.loop_find.specs.Marks.{names_by}
use Rattle.loop_find.specs.Walks.{AreAll}
use Rattle.loop_find.proofs.MarkWalks.{holds_of, live_of}
use Rattle.loop_find.proofs.NodeCounts.{in_names}
use Rattle.loop_find.proofs.Places.{got_last}
use Rattle.loop_find.proofs.Walking.{id_of_node, itself}
use Rattle.components.specs.declared.kind.Kind.TheVariants.{Mux}

module _ (g : GraphValue) where
  pub turned_reverse : (ids : List NodeId) → names_by g (reverse ids) ≡ turned_names g ids
  turned_reverse [] = refl
  turned_reverse (x ∷ ids) = ap (names_by g) (reverse_onto ids x []) ∙ map_more (reverse ids) ∙ ap (λ ns. ns ++ name_by g.ids x ∷ []) (turned_reverse ids)
    where
      map_more : (ys : List NodeId) → names_by g (ys ++ x ∷ []) ≡ names_by g ys ++ name_by g.ids x ∷ []
      map_more [] = refl
      map_more (y ∷ ys) = ap (λ ns. name_by g.ids y ∷ ns) (map_more ys)

  got_in : (xs : List NodeId) (k : ℕ) (d : NodeId) → k < length xs → In (get_or xs k d) xs
  got_in [] k d less = absurd (omega arith)
  got_in (x ∷ xs) zero d less = head refl
  got_in (x ∷ xs) (suc k) d less = tail (got_in xs k d (omega arith))

  pub lane_at : (P : Name → Type 0) (set ids : List NodeId) → AreAll g P set → AreByName g set ids → (k : ℕ) (d : NodeId) → k < length ids → P (name_by g.ids (get_or ids k d)) × Denotes g (get_or ids k d) (name_by g.ids (get_or ids k d))
  lane_at P set ids are ordered k d less =
      let i : In (get_or ids k d) set = (ordered.same (get_or ids k d)).0 (got_in ids k d less) in (holds_of g P set are (get_or ids k d) i, live_of g P set are (get_or ids k d) i)

  module _ (m : Name) (goes_back : Bool) where
    -- the first lanes, before these Muxes
    pub record Listed (xs : List Lane) (rest ids : List NodeId) : Type 0 where
      pub each : (k : ℕ) (x : Lane) → slice_get xs k ≡ Some x → IsLaneBy g m goes_back x
      pub muxes : map (λ (x : Lane). x.mux) xs ++ rest ≡ ids

    pub listed_first : (xs : List Lane) (ids : List NodeId) → xs ≡ [] → Listed xs ids ids
    listed_first xs ids none =
        subst (λ ys. Listed ys ids ids) (sym none) (record { each = λ k x at. absurd (none-some x at); muxes = refl })

    pub listed_more : (xs after : List Lane) (rest ids : List NodeId) (id : NodeId) (x : Lane) → Listed xs (id ∷ rest) ids → IsLaneBy g m goes_back x → x.mux ≡ id → after ≡ xs ++ x ∷ [] →
        Listed after rest ids
    listed_more xs after rest ids id x so_far is same put =
        subst (λ ys. Listed ys rest ids) (sym put) (record {
          each = λ k y at. elim (got_last xs x y k at) [
            | inl old ↦ so_far.each k y old
            | inr new ↦ subst (IsLaneBy g m goes_back) (sym new.1) is
          ];
          muxes = map_more xs ∙ ap (λ n. map (λ (y : Lane). y.mux) xs ++ n ∷ rest) same ∙ so_far.muxes;
        })
      where
        map_more : (ys : List Lane) → map (λ (y : Lane). y.mux) (ys ++ x ∷ []) ++ rest ≡ map (λ (y : Lane). y.mux) ys ++ x.mux ∷ rest
        map_more [] = refl
        map_more (y ∷ ys) = ap (λ ns. y.mux ∷ ns) (map_more ys)

    pub listed_last : IsGraph g → (set ids : List NodeId) (xs : List Lane) → AreAll g (IsLane (circuit_of g.graph) m) set → AreByName g set ids → Listed xs [] ids → AreLanes g m goes_back xs
    listed_last is set ids xs are ordered done =
        let muxes : map (λ (x : Lane). x.mux) xs ≡ ids = sym (append-nil (map (λ (x : Lane). x.mux) xs)) ∙ done.muxes in
        record {
          each = done.each;
          all = λ n lane.
              let (id, denotes) = id_of_node g is n (Mux lane.shape) lane.is_mux in
              let i : In id ids = (ordered.same id).1 ((are id).1 (n, denotes, lane)) in
              subst (λ ys. In n (names_by g ys)) (sym muxes) (subst (λ k. In k (names_by g ids)) (itself g id n denotes) (in_names g ids id i));
          by_name = subst (λ ys. Ascending (names_by g ys)) (sym muxes) ordered.by_name;
        }

    pub lane_by_branch : (lane : NodeId) (ids : List NodeId) (branch : NodeId) (back : List NodeId) → IsBranchBy g m goes_back lane ids branch → Denotes g lane (name_by g.ids lane) →
        back ≡ reverse ids → IsLaneBy g m goes_back (record { mux = lane; branch = branch; back = back })
    lane_by_branch lane ids branch back by live same =
        record { mux = live; branch = by.denotes; its = by.its; back = by.back ∙ sym (turned_reverse ids) ∙ ap (names_by g) (sym same) }
