-- The edges for wires that a walk may go by, wire after wire.
use Rattle.std.proofs.Common.{◌≡◌, ◌≢◌, ◌↔◌, inl, inr, ℕ, zero, suc, ◌+◌, ◌<◌, ◌≤◌, refl, sym, ap, subst, ◌∙◌, List, [], ◌∷◌, ◌++◌, length, get_or, replicate, Some, None, Result, Ok, Err, OnOk, Bool, true, false, arith}
use Rattle.std.specs.Prelude.{slice_get}
use Rattle.std.specs.FinMap as finite
use Rattle.std.proofs.lemmas.Bool.{false≢true}
use Rattle.std.proofs.lemmas.Bool.Decides.{eqb_tells}
use Rattle.std.proofs.lemmas.Option.{same_Some, none-some}
use Rattle.components.specs.Kind.{ins}
use Rattle.components.specs.Name.{Port, port_get}
use Rattle.components.specs.Node.{Body}
use Rattle.port_types.specs.declared.memory.NoMemory.{NoMemory}
use Rattle.digraph.specs.Edges.{HasEdge, IsWithEdge}
use Rattle.graph_core.specs.declared.place.NodeId.{NodeId}
use Rattle.graph_core.specs.declared.place.PortAt.{PortAt}
use Rattle.graph_core.specs.Place.{index_of, id_of}
use Rattle.graph_core.specs.GraphValue.{GraphValue, IsGraph, name_by, port_of}
use Rattle.loop_find.specs.declared.spots.Spot.{Spot}
use Rattle.loop_find.specs.declared.shape.LoopShape.{LoopShape}
use Rattle.loop_find.specs.Spots.{leaves_at, vertex_at}
use Rattle.loop_find.specs.Crossings.{Adds, Crosses, CrossesNode, IsGraphOfPlaces}
use Rattle.loop_find.proofs.Places.{got_before, repeated, stands_one}
use Rattle.loop_find.proofs.Walking.{port_within, same_named, source_live, target_live}

-- nothing is added
pub adds_none : (P : ℕ → ℕ → Type 0) (rows : List (List ℕ)) → ((u w : ℕ) → ¬ (P u w)) → Adds P rows rows
adds_none P rows none = record { size = refl; edges = λ u w. (λ e. inl e, λ either. elim either [ inl e ↦ e | inr p ↦ absurd (none u w p) ]) }

-- one edge is added
pub adds_one : (P : ℕ → ℕ → Type 0) (rows after : List (List ℕ)) (from to : ℕ) → P from to → ((u w : ℕ) → P u w → (u ≡ from) × (w ≡ to)) → IsWithEdge rows from to after → Adds P rows after
adds_one P rows after from to here only with_it =
    record {
      size = with_it.size;
      edges = λ u w. (
        λ e. elim ((with_it.edges u w).0 e) [
          | inl old ↦ inl old
          | inr new ↦ inr (subst (λ n. P n w) (sym new.0) (subst (P from) (sym new.1) here))
        ],
        λ either. (with_it.edges u w).1 (elim either [ inl old ↦ inl old | inr p ↦ inr (only u w p) ]),
      );
    }

module _ (g : GraphValue) (ok : IsGraph g) (spots : List Spot) (target : PortAt) where
  pub not_fed : finite.get g.graph.feeders (port_of g target) ≡ None → (u w : ℕ) → ¬ (Crosses g spots target u w)
  not_fed none u w crosses = absurd (none-some (port_of g crosses.source) (sym none ∙ crosses.fed))

  module _ (source : PortAt) (fed : finite.get g.graph.feeders (port_of g target) ≡ Some (port_of g source)) where
    -- the input has one source
    one_source : (other : PortAt) → finite.get g.graph.feeders (port_of g target) ≡ Some (port_of g other) → (other.node ≡ source.node) × (other.port ≡ source.port)
    one_source other also =
        let same : port_of g other ≡ port_of g source = same_Some (port_of g other) (port_of g source) (sym also ∙ fed) in (
          same_named g ok source.node other.node (name_by g.ids source.node) (source_live g ok (port_of g target) source fed) (ap (λ (p : Port). p.node) same),
          ap (λ (p : Port). p.port) same,
        )

    pub not_left : leaves_at spots source.node source.port ≡ false → (u w : ℕ) → ¬ (Crosses g spots target u w)
    not_left stays u w crosses =
        let (node, port) = one_source crosses.source crosses.fed in
        absurd (false≢true (sym stays ∙ sym (ap (λ n. leaves_at spots n source.port) node) ∙ sym (ap (leaves_at spots crosses.source.node) port) ∙ crosses.leaves))

    pub crosses_so : leaves_at spots source.node source.port ≡ true → (r : Result (Unit {0}) NoMemory) (rows after : List (List ℕ)) (u w : ℕ) → u ≡ vertex_at spots source.node → w ≡ vertex_at spots target.node →
        OnOk r (IsWithEdge rows u w after) → OnOk r (Adds (Crosses g spots target) rows after)
    crosses_so leaves (Err e) rows after u w from to with_it = tt
    crosses_so leaves (Ok x) rows after u w from to with_it =
        adds_one (Crosses g spots target) rows after u w (record { source = source; fed = fed; leaves = leaves; from = from; to = to })
        (λ v y crosses. (crosses.from ∙ ap (vertex_at spots) (one_source crosses.source crosses.fed).0 ∙ sym from, crosses.to ∙ sym to)) with_it

-- the wires into the first inputs of a node
abbrev pub CrossesBelow : GraphValue → List Spot → NodeId → ℕ → ℕ → ℕ → Type 0
CrossesBelow g spots id port u w = (i : ℕ) × (i < port) × Crosses g spots (record { node = id; port = i }) u w

module _ (g : GraphValue) (ok : IsGraph g) (spots : List Spot) (id : NodeId) where
  -- a wire enters an input of the node
  entered_input : (body : Body) → finite.get g.graph.nodes (name_by g.ids id) ≡ Some body → (i u w : ℕ) → Crosses g spots (record { node = id; port = i }) u w → (1 ≤ i) × (i ≤ length (ins body.kind))
  entered_input body found i u w crosses =
      let wire = ok.graph.wires (port_of g (record { node = id; port = i })) (port_of g crosses.source) crosses.fed in
      let same : wire.to ≡ body = same_Some wire.to body (sym wire.is_to ∙ found) in
      port_within (ins body.kind) i wire.shape (subst (λ (b : Body). port_get (ins b.kind) i ≡ Some wire.shape) same wire.enters)

  pub below_first : (body : Body) → finite.get g.graph.nodes (name_by g.ids id) ≡ Some body → (rows : List (List ℕ)) → Adds (CrossesBelow g spots id 1) rows rows
  below_first body found rows =
      adds_none (CrossesBelow g spots id 1) rows (λ u w b. let within = entered_input body found b.0 u w b.2 in let some = within.0 in let less = b.1 in absurd (omega (arith, some, less)))

  pub below_more : (port : ℕ) (rows now after : List (List ℕ)) → Adds (CrossesBelow g spots id port) rows now → Adds (Crosses g spots (record { node = id; port = port })) now after → Adds (CrossesBelow g spots id (port + 1)) rows after
  below_more port rows now after old new =
      record {
        size = new.size ∙ old.size;
        edges = λ u w. (
          λ e. elim ((new.edges u w).0 e) [
            | inl was ↦ elim ((old.edges u w).0 was) [ inl first ↦ inl first | inr b ↦ inr (b.0, (let less = b.1 in omega (arith, less)), b.2) ]
            | inr here ↦ inr (port, omega arith, here)
          ],
          λ either. (new.edges u w).1 (elim either [
            | inl first ↦ inl ((old.edges u w).1 (inl first))
            | inr b ↦ elim (eqb_tells b.0 port) [
              | inl same ↦ inr (subst (λ i. Crosses g spots (record { node = id; port = i }) u w) same.1 b.2)
              | inr other ↦ inl ((old.edges u w).1 (inr (b.0, (let ne : b.0 ≢ port = other.1 in let less = b.1 in omega (arith, ne, less)), b.2)))
            ]
          ]),
        );
      }

  pub below_all : (body : Body) → finite.get g.graph.nodes (name_by g.ids id) ≡ Some body → (port : ℕ) → length (ins body.kind) < port → (rows after : List (List ℕ)) → Adds (CrossesBelow g spots id port) rows after →
      Adds (CrossesNode g spots id) rows after
  below_all body found port past rows after old =
      record {
        size = old.size;
        edges = λ u w. (
          λ e. elim ((old.edges u w).0 e) [ inl first ↦ inl first | inr b ↦ inr (b.0, b.2) ],
          λ either. (old.edges u w).1 (elim either [
            | inl first ↦ inl first
            | inr b ↦ inr (b.0, (let within = (entered_input body found b.0 u w b.1).1 in omega (arith, within, past)), b.1)
          ]),
        );
      }

-- the wires into the nodes of the first indices
pub record CrossedBelow (g : GraphValue) (spots : List Spot) (index : ℕ) (rows : List (List ℕ)) : Type 0 where
  pub size : length rows ≡ g.slots
  pub edges : (u w : ℕ) → HasEdge rows u w ↔ ((id : NodeId) × (index_of id < index) × CrossesNode g spots id u w)

module _ (g : GraphValue) (ok : IsGraph g) (spots : List Spot) where
  pub crossed_none : (rows : List (List ℕ)) → length rows ≡ g.slots → ((u w : ℕ) → ¬ (HasEdge rows u w)) → CrossedBelow g spots 0 rows
  crossed_none rows size none = record { size = size; edges = λ u w. (λ e. absurd (none u w e), λ b. let less : index_of b.0 < 0 = b.1 in absurd (omega (arith, less))) }

  pub crossed_more : (index : ℕ) (rows after : List (List ℕ)) → CrossedBelow g spots index rows → Adds (CrossesNode g spots (id_of index)) rows after → CrossedBelow g spots (index + 1) after
  crossed_more index rows after old new =
      record {
        size = new.size ∙ old.size;
        edges = λ u w. (
          λ e. elim ((new.edges u w).0 e) [
            | inl was ↦ let b = (old.edges u w).0 was in (b.0, (let less = b.1 in omega (arith, less)), b.2)
            | inr here ↦ (id_of index, omega arith, here)
          ],
          λ b. (new.edges u w).1 (elim (eqb_tells (index_of b.0) index) [
            | inl same ↦ inr (subst (λ id. CrossesNode g spots id u w) (ap id_of same.1) b.2)
            | inr other ↦ inl ((old.edges u w).1 (b.0, (let ne : index_of b.0 ≢ index = other.1 in let less = b.1 in omega (arith, ne, less)), b.2))
          ]),
        );
      }

  -- an index at which no node stands
  pub none_at : (index : ℕ) (rows : List (List ℕ)) → finite.get g.ids (id_of index) ≡ None → Adds (CrossesNode g spots (id_of index)) rows rows
  none_at index rows none =
      adds_none (CrossesNode g spots (id_of index)) rows
      (λ u w b. let live = target_live g ok (record { node = id_of index; port = b.0 }) (port_of g b.1.source) b.1.fed in absurd (none-some _ (sym none ∙ live)))

  pub crossed_all : (index : ℕ) (rows : List (List ℕ)) → CrossedBelow g spots index rows → g.slots ≤ index → IsGraphOfPlaces g spots rows
  crossed_all index rows old past =
      record {
        size = old.size;
        edges = λ u w. (
          λ e. let b = (old.edges u w).0 e in (b.0, b.2),
          λ b.
              let live = target_live g ok (record { node = b.0; port = b.1.0 }) (port_of g b.1.1.source) b.1.1.fed in
              let less = ok.within b.0 (name_by g.ids b.0) live in
              (old.edges u w).1 (b.0, omega (arith, less, past), b.1),
        );
      }

-- what is told of marks, one after the other

pub got_or : {A : Type 0} (xs : List A) (k : ℕ) (d : A) → k < length xs → slice_get xs k ≡ Some (get_or xs k d)
got_or [] k d less = absurd (omega arith)
got_or (x ∷ xs) zero d less = refl
got_or (x ∷ xs) (suc k) d less = got_or xs k d (omega arith)

abbrev pub ToldBelow : List Bool → List LoopShape → List Bool → ℕ → Type 0
ToldBelow on shapes told count =
    (length told ≡ count) × ((k : ℕ) (s : LoopShape) → k < count → slice_get shapes k ≡ Some s → slice_get told k ≡ slice_get on (index_of s.mark))

one_longer : {A : Type 0} (xs : List A) (y : A) → length (xs ++ y ∷ []) ≡ length xs + 1
one_longer [] y = refl
one_longer (x ∷ xs) y = let more = one_longer xs y in omega (arith, more)

got_end : {A : Type 0} (xs : List A) (y : A) → slice_get (xs ++ y ∷ []) (length xs) ≡ Some y
got_end [] y = refl
got_end (x ∷ xs) y = got_end xs y

pub told_more : (on : List Bool) (shapes : List LoopShape) (told after : List Bool) (i : ℕ) (s : LoopShape) (v : Bool) → slice_get shapes i ≡ Some s → slice_get on (index_of s.mark) ≡ Some v → after ≡ told ++ v ∷ [] →
    ToldBelow on shapes told i → ToldBelow on shapes after (i + 1)
told_more on shapes told after i s v at value is (size, each) =
    subst (λ ts. ToldBelow on shapes ts (i + 1)) (sym is) (
      (let longer = one_longer told v in omega (arith, longer, size)),
      λ k t less at_k. elim (eqb_tells k i) [
        | inl same ↦
            let here : s ≡ t = same_Some s t (sym at ∙ subst (λ n. slice_get shapes n ≡ Some t) same.1 at_k) in
            let last : length told ≡ k = size ∙ sym same.1 in
            subst (λ n. slice_get (told ++ v ∷ []) n ≡ Some v) last (got_end told v) ∙ sym value ∙ ap (λ (x : LoopShape). slice_get on (index_of x.mark)) here
        | inr other ↦
            let earlier : k < i = (let ne : k ≢ i = other.1 in omega (arith, less, ne)) in
            let (x, got) = stands_one told k (omega (arith, earlier, size)) in
            got_before told (v ∷ []) k x got ∙ sym got ∙ each k t earlier at_k
      ],
    )

pub no_edge : (n : ℕ) (rows : List (List ℕ)) → rows ≡ replicate n [] → (u w : ℕ) → ¬ (HasEdge rows u w)
no_edge n rows is u w e =
    let empty : e.row ≡ [] = repeated n u [] e.row (subst (λ rs. slice_get rs u ≡ Some e.row) is e.is_row) in
    absurd (none-some w (subst (λ row. slice_get row e.place ≡ Some w) empty e.is_there))
