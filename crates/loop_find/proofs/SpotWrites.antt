-- Spots that are written one after the other.
use Rattle.std.proofs.Common.{◌≡◌, ◌≢◌, inl, inr, ℕ, zero, suc, ◌<◌, refl, sym, ap, subst, ◌∙◌, List, [], ◌∷◌, ◌++◌, length, set, Some, arith}
use Rattle.std.specs.Prelude.{slice_get}
use Rattle.std.proofs.lemmas.Bool.Decides.{eqb_tells}
use Rattle.circuits.specs.Replacing.{In, In.head, In.tail}
use Rattle.graph_core.specs.declared.place.NodeId.{NodeId}
use Rattle.graph_core.specs.Place.{index_of}
use Rattle.loop_find.specs.declared.spots.Spot.{Spot}
use Rattle.loop_find.specs.declared.spots.Spot.TheVariants.{Inside}
use Rattle.loop_find.specs.declared.shape.Lane.{Lane}
use Rattle.loop_find.specs.declared.shape.LoopShape.{LoopShape}
use Rattle.loop_find.specs.Spots.{Write, all_lane_writes, exit_port, loop_writes, writes_to, written}
use Rattle.loop_find.proofs.Places.{set_here, set_elsewhere}

pub written_both : (ws vs : List Write) (spots : List Spot) → written (ws ++ vs) spots ≡ written vs (written ws spots)
written_both [] vs spots = refl
written_both (w ∷ ws) vs spots = written_both ws vs (set spots (index_of w.id) w.spot)

pub set_size : {A : Type 0} (xs : List A) (i : ℕ) (v : A) → length (set xs i v) ≡ length xs
set_size [] i v = refl
set_size (x ∷ xs) zero v = refl
set_size (x ∷ xs) (suc i) v = ap suc (set_size xs i v)

pub written_size : (ws : List Write) (spots : List Spot) → length (written ws spots) ≡ length spots
written_size [] spots = refl
written_size (w ∷ ws) spots = written_size ws (set spots (index_of w.id) w.spot) ∙ set_size spots (index_of w.id) w.spot

-- what stands at an index: what stood there, or what was written there last
pub data Stood (ws : List Write) (spots : List Spot) (i : ℕ) : Type 0 where
  untouched : ((w : Write) → In w ws → index_of w.id ≢ i) → slice_get (written ws spots) i ≡ slice_get spots i → Stood ws spots i
  touched : (w : Write) → In w ws → index_of w.id ≡ i → slice_get (written ws spots) i ≡ Some w.spot → Stood ws spots i

no_write : (w : Write) (ws : List Write) (i : ℕ) → index_of w.id ≢ i → ((x : Write) → In x ws → index_of x.id ≢ i) → (x : Write) → In x (w ∷ ws) → index_of x.id ≢ i
no_write w ws i apart others x (head e) same = apart (ap (λ (y : Write). index_of y.id) (sym e) ∙ same)
no_write w ws i apart others x (tail j) same = others x j same

pub stood : (ws : List Write) (spots : List Spot) (i : ℕ) → i < length spots → Stood ws spots i
stood [] spots i less = untouched (λ w j. elim j [ ]) refl
stood (w ∷ ws) spots i less =
    let size = set_size spots (index_of w.id) w.spot in
    elim (stood ws (set spots (index_of w.id) w.spot) i (omega (arith, less, size))) [
      | touched x j same is ↦ touched x (tail j) same is
      | untouched others is ↦ elim (eqb_tells (index_of w.id) i) [
        | inl same ↦ touched w (head refl) same.1 (is ∙ subst (λ n. slice_get (set spots (index_of w.id) w.spot) n ≡ Some w.spot) same.1 (set_here spots (index_of w.id) w.spot (subst (λ n. n < length spots) (sym same.1) less)))
        | inr other ↦ untouched (no_write w ws i other.1 others) (is ∙ set_elsewhere spots (index_of w.id) i w.spot (λ e. other.1 (sym e)))
      ]
    ]

-- the writes of a loop, one after the other
module _ (s : LoopShape) (spots : List Spot) where
  all_parts : ℕ → ℕ → List NodeId → List NodeId → List Lane → List Spot
  all_parts at exit tree body lanes = set (written (all_lane_writes at exit lanes) (written (writes_to (Inside at) body) (written (writes_to (Inside at) tree) spots))) (index_of s.mark) (Inside at)

  pub loop_written : (at exit : ℕ) → at ≡ index_of s.mark → exit ≡ exit_port s.back_bit → (tree body : List NodeId) (lanes : List Lane) → tree ≡ s.tree → body ≡ s.body → lanes ≡ s.lanes →
      (a b d e : List Spot) → a ≡ written (writes_to (Inside at) tree) spots → b ≡ written (writes_to (Inside at) body) a → d ≡ written (all_lane_writes at exit lanes) b →
      e ≡ set d (index_of s.mark) (Inside at) → e ≡ written (loop_writes s) spots
  unfolding all_parts
  loop_written at exit is_at is_exit tree body lanes is_tree is_body is_lanes a b d e first second third fourth =
      let m = index_of s.mark in
      let x = exit_port s.back_bit in
      fourth ∙ ap (λ w. set w m (Inside at)) (third ∙ ap (written (all_lane_writes at exit lanes)) (second ∙ ap (written (writes_to (Inside at) body)) first)) ∙
      ap (λ n. all_parts n exit tree body lanes) is_at ∙ ap (λ n. all_parts m n tree body lanes) is_exit ∙ ap (λ t. all_parts m x t body lanes) is_tree ∙
      ap (λ t. all_parts m x s.tree t lanes) is_body ∙ ap (λ t. all_parts m x s.tree s.body t) is_lanes ∙
      sym (written_both (writes_to (Inside m) s.tree) (writes_to (Inside m) s.body ++ (all_lane_writes m x s.lanes ++ record { id = s.mark; spot = Inside m } ∷ [])) spots ∙
      written_both (writes_to (Inside m) s.body) (all_lane_writes m x s.lanes ++ record { id = s.mark; spot = Inside m } ∷ []) (written (writes_to (Inside m) s.tree) spots) ∙
      written_both (all_lane_writes m x s.lanes) (record { id = s.mark; spot = Inside m } ∷ []) (written (writes_to (Inside m) s.body) (written (writes_to (Inside m) s.tree) spots)))
