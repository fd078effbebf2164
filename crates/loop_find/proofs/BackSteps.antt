-- Back paths, Buffer by Buffer.
use Rattle.std.proofs.Common.{◌≡◌, inl, inr, ◌+◌, ◌<◌, refl, sym, ap, subst, ◌∙◌, true, List, [], ◌∷◌, ◌++◌, length, Option, Some, None, arith}
use Rattle.std.proofs.lemmas.Bool.{false≢true}
use Rattle.components.specs.declared.kind.Kind.{Kind}
use Rattle.components.specs.declared.kind.Kind.TheVariants.{Buffer, Mux}
use Rattle.components.specs.Name.{Name, Port}
use Rattle.components.specs.Kind.{Shape}
use Rattle.circuits.specs.Circuit.{Circuit, Typed, circuit_of}
use Rattle.circuits.specs.Replacing.{In, In.head, In.tail}
use Rattle.loop_laws.specs.Reached.{port_at, HasKind}
use Rattle.loop_laws.specs.BackPath.{IsBuffer, Through}
use Rattle.loop_laws.proofs.NodeKinds.{buffer_gives, kind_is, only_output}
use Rattle.graph_core.specs.declared.place.NodeId.{NodeId}
use Rattle.graph_core.specs.declared.place.PortAt.{PortAt}
use Rattle.graph_core.specs.GraphValue.{GraphValue, Denotes, name_by, port_of}
use Rattle.loop_find.specs.NodeSets.{IsPut}
use Rattle.loop_find.specs.Walks.{AreLive, is_mux}
use Rattle.loop_find.specs.Backs.{IsBackOf, IsFed, is_buffer, turned_names}
use Rattle.loop_find.proofs.Choosing.{put_in}
use Rattle.loop_find.proofs.Places.{in_left, in_right}

pub buffer_shape : (o : Option Kind) → is_buffer o ≡ true → (shape : Shape) × (o ≡ Some (Buffer shape))
buffer_shape (Some (Buffer shape)) is = (shape, refl)
buffer_shape None is = absurd (false≢true is)
buffer_shape (Some _) is = absurd (false≢true is)

pub mux_shape : (o : Option Kind) → is_mux o ≡ true → (shape : Shape) × (o ≡ Some (Mux shape))
mux_shape (Some (Mux shape)) is = (shape, refl)
mux_shape None is = absurd (false≢true is)
mux_shape (Some _) is = absurd (false≢true is)

-- a path through Buffers never comes to one twice
module _ (c : Circuit) (ty : Typed c) (p : Port) (end : ¬ (HasKind c IsBuffer p.node)) where
  same_paths : (q : Port) (bs cs : List Name) → Through c q bs p → Through c q cs p → bs ≡ cs
  same_paths q [] [] s t = refl
  same_paths q [] (k ∷ cs) s t = absurd (end (subst (λ (z : Port). HasKind c IsBuffer z.node) (ty.once (port_at k 1) p q t.1 s) t.0))
  same_paths q (b ∷ bs) [] s t = absurd (end (subst (λ (z : Port). HasKind c IsBuffer z.node) (ty.once (port_at b 1) p q s.1 t) s.0))
  same_paths q (b ∷ bs) (k ∷ cs) s t =
      let e = ty.once (port_at k 1) (port_at b 1) q t.1 s.1 in
      let rest = same_paths (port_at b 1) bs cs s.2 (subst (λ z. Through c z cs p) e t.2) in
      ap (λ z. b ∷ z) rest ∙ ap (λ (z : Port). z.node ∷ cs) (sym e)

  later_path : (q : Port) (bs : List Name) (n : Name) → Through c q bs p → In n bs → (rest : List Name) × Through c (port_at n 1) rest p × (length rest < length bs)
  later_path q [] n t i = elim i [ ]
  later_path q (b ∷ bs) n t (head e) = (bs, subst (λ z. Through c (port_at z 1) bs p) (sym e) t.2, omega arith)
  later_path q (b ∷ bs) n t (tail i) = let (rest, path, less) = later_path (port_at b 1) bs n t.2 i in (rest, path, omega (arith, less))

  pub never_again : (n : Name) (bs : List Name) → Through c (port_at n 1) bs p → ¬ (In n bs)
  never_again n bs t i =
      let (rest, path, less) = later_path (port_at n 1) bs n t i in
      let same : length bs ≡ length rest = ap length (same_paths (port_at n 1) bs rest t path) in
      omega (arith, less, same)

  pub starts : (q : Port) (bs : List Name) → Through c q bs p → (r : Port) × (c.feeder r ≡ Some q)
  starts q [] t = (p, t)
  starts q (b ∷ bs) t = (port_at b 1, t.1)

module _ (g : GraphValue) where
  pub turned_more : (ids : List NodeId) (id : NodeId) → turned_names g (ids ++ id ∷ []) ≡ name_by g.ids id ∷ turned_names g ids
  turned_more [] id = refl
  turned_more (x ∷ ids) id = ap (λ ns. ns ++ name_by g.ids x ∷ []) (turned_more ids id)

  in_turned : (ids : List NodeId) (id : NodeId) → In id ids → In (name_by g.ids id) (turned_names g ids)
  in_turned [] id i = elim i [ ]
  in_turned (x ∷ ids) id (head e) = in_right (name_by g.ids id) (turned_names g ids) (name_by g.ids x ∷ []) (head (ap (name_by g.ids) e))
  in_turned (x ∷ ids) id (tail i) = in_left (name_by g.ids id) (turned_names g ids) (name_by g.ids x ∷ []) (in_turned ids id i)

  -- the way back so far
  pub record Backwards (target : PortAt) (ids : List NodeId) (source : PortAt) : Type 0 where
    pub path : Through (circuit_of g.graph) (port_of g source) (turned_names g ids) (port_of g target)
    pub live : AreLive g ids
    pub denotes : Denotes g source.node (name_by g.ids source.node)

  pub backwards_first : (target source : PortAt) (ids : List NodeId) → ids ≡ [] → (circuit_of g.graph).feeder (port_of g target) ≡ Some (port_of g source) →
      Denotes g source.node (name_by g.ids source.node) → Backwards target ids source
  backwards_first target source ids none fed denotes =
      subst (λ xs. Backwards target xs source) (sym none) (record { path = fed; live = λ id i. elim i [ ]; denotes = denotes })

  module _ (ty : Typed (circuit_of g.graph)) (target : PortAt) (ids : List NodeId) (source : PortAt) (so_far : Backwards target ids source)
      (buffer : is_buffer ((circuit_of g.graph).kind_at (name_by g.ids source.node)) ≡ true)
      (mux : is_mux ((circuit_of g.graph).kind_at (name_by g.ids target.node)) ≡ true) where
    is_a_buffer : HasKind (circuit_of g.graph) IsBuffer (name_by g.ids source.node)
    is_a_buffer = let (shape, is) = buffer_shape _ buffer in (Buffer shape, is, tt)

    no_buffer : ¬ (HasKind (circuit_of g.graph) IsBuffer (name_by g.ids target.node))
    no_buffer b = let (shape, is) = mux_shape _ mux in kind_is (circuit_of g.graph) IsBuffer (name_by g.ids target.node) (Mux shape) b is

    first_out : port_of g source ≡ port_at (name_by g.ids source.node) 1
    first_out =
        let (r, fed) = starts (circuit_of g.graph) ty (port_of g target) no_buffer (port_of g source) (turned_names g ids) so_far.path in
        let (kind, is, of_kind) = is_a_buffer in
        ap (port_at (name_by g.ids source.node)) (only_output (circuit_of g.graph) ty r (port_of g source) fed (kind, is, buffer_gives kind of_kind))

    here : Through (circuit_of g.graph) (port_at (name_by g.ids source.node) 1) (turned_names g ids) (port_of g target)
    here = subst (λ q. Through (circuit_of g.graph) q (turned_names g ids) (port_of g target)) first_out so_far.path

    pub is_new : ¬ (In source.node ids)
    is_new i =
        never_again (circuit_of g.graph) ty (port_of g target) no_buffer (name_by g.ids source.node) (turned_names g ids) here (in_turned ids source.node i)

    pub grown : (after : List NodeId) → IsPut ids source.node after → length after ≡ length ids + 1
    grown after put = ap length (put.added is_new) ∙ length_more ids
      where
        length_more : (xs : List NodeId) → length (xs ++ source.node ∷ []) ≡ length xs + 1
        length_more [] = refl
        length_more (x ∷ xs) = omega (arith, length_more xs)

    pub buffer_fed : IsFed g (record { node = source.node; port = 1 })
    buffer_fed = let (shape, is) = buffer_shape _ buffer in ty.inputs (port_at (name_by g.ids source.node) 1) (Buffer shape) shape is refl

    pub backwards_more : (after : List NodeId) (next : PortAt) → IsPut ids source.node after →
        (circuit_of g.graph).feeder (port_at (name_by g.ids source.node) 1) ≡ Some (port_of g next) → Denotes g next.node (name_by g.ids next.node) → Backwards target after next
    backwards_more after next put fed denotes =
        record {
          path = subst (λ ns. Through (circuit_of g.graph) (port_of g next) ns (port_of g target)) (sym (ap (turned_names g) (put.added is_new) ∙ turned_more ids source.node)) (is_a_buffer, fed, here);
          live = λ id i. elim (put_in ids after source.node put id i) [
            | inl old ↦ so_far.live id old
            | inr new ↦ subst (λ x. Denotes g x (name_by g.ids x)) (sym new) so_far.denotes
          ];
          denotes = denotes;
        }

  pub backwards_last : (target : PortAt) (ids : List NodeId) (source : PortAt) → Backwards target ids source → ¬ (is_buffer ((circuit_of g.graph).kind_at (name_by g.ids source.node)) ≡ true) → IsBackOf g target ids source
  backwards_last target ids source done other =
      record {
        path = done.path;
        ends = λ b. other (says b);
        live = done.live;
        denotes = done.denotes;
      }
    where
      test_kind : (kind : Kind) → IsBuffer kind → is_buffer (Some kind) ≡ true
      test_kind (Buffer shape) b = refl
      test_kind _ b = absurd b

      says : HasKind (circuit_of g.graph) IsBuffer (name_by g.ids source.node) → is_buffer ((circuit_of g.graph).kind_at (name_by g.ids source.node)) ≡ true
      says (kind, is, b) = ap is_buffer is ∙ test_kind kind b
