-- The edges for the wires between nodes of a set, wire after wire.
use Rattle.std.proofs.Common.{◌≡◌, ◌⊎◌, ◌↔◌, inl, inr, ℕ, ◌+◌, ◌<◌, ◌≤◌, refl, sym, ap, subst, ◌∙◌, List, [], length, Some, None, Bool, true, arith}
use Rattle.std.specs.Prelude.{slice_get}
use Rattle.std.specs.FinMap as finite
use Rattle.std.proofs.lemmas.Bool.{cases_eq}
use Rattle.std.proofs.lemmas.Option.{same_Some, none-some, slice_get_within}
use Rattle.components.specs.Kind.{ins}
use Rattle.components.specs.Name.{Name, Port}
use Rattle.components.specs.Node.{Body}
use Rattle.circuits.specs.Replacing.{In}
use Rattle.digraph.specs.Edges.{HasEdge, IsWithEdge}
use Rattle.loop_laws.specs.Reached.{port_at}
use Rattle.graph_core.specs.declared.place.NodeId.{NodeId}
use Rattle.graph_core.specs.declared.place.PortAt.{PortAt}
use Rattle.graph_core.specs.GraphValue.{GraphValue, Denotes, IsGraph, name_by, port_of}
use Rattle.loop_find.specs.BodyGraphs.{AreTold, FeedsFrom, InputEdge, IsGraphOfSet, IsTold, NodeEdge, StandsAt}
use Rattle.loop_find.specs.Crossings.{Adds}
use Rattle.loop_find.specs.NodeSets.{AreDifferent}
use Rattle.loop_find.proofs.AllPorts.{input_within}
use Rattle.loop_find.proofs.Choosing.{put_has, put_in, put_keeps}
use Rattle.loop_find.proofs.CycleEdges.{adds_none, adds_one}
use Rattle.loop_find.proofs.Places.{at_in}
use Rattle.loop_find.proofs.Walking.{itself, source_live}

pub adds_on : (P Q R : ℕ → ℕ → Type 0) (a b d : List (List ℕ)) → Adds P a b → Adds Q b d → ((u w : ℕ) → P u w → R u w) → ((u w : ℕ) → Q u w → R u w) → ((u w : ℕ) → R u w → P u w ⊎ Q u w) → Adds R a d
adds_on P Q R a b d first next from_p from_q either =
    record {
      size = next.size ∙ first.size;
      edges = λ u w. (
        λ e. elim ((next.edges u w).0 e) [
          | inl old ↦ elim ((first.edges u w).0 old) [ inl was ↦ inl was | inr p ↦ inr (from_p u w p) ]
          | inr q ↦ inr (from_q u w q)
        ],
        λ both. (next.edges u w).1 (elim both [
          | inl was ↦ inl ((first.edges u w).1 (inl was))
          | inr r ↦ elim (either u w r) [ inl p ↦ inl ((first.edges u w).1 (inr p)) | inr q ↦ inr q ]
        ]),
      );
    }

pub adds_as : (P R : ℕ → ℕ → Type 0) (a b : List (List ℕ)) → Adds P a b → ((u w : ℕ) → P u w → R u w) → ((u w : ℕ) → R u w → P u w) → Adds R a b
adds_as P R a b first there back =
    record {
      size = first.size;
      edges = λ u w. (
        λ e. elim ((first.edges u w).0 e) [ inl was ↦ inl was | inr p ↦ inr (there u w p) ],
        λ both. (first.edges u w).1 (elim both [ inl was ↦ inl was | inr r ↦ inr (back u w r) ]),
      );
    }

-- the wires into the first inputs of the node at a place
abbrev pub InputsBelow : GraphValue → List NodeId → NodeId → ℕ → ℕ → ℕ → ℕ → Type 0
InputsBelow g ids id place port u w = (k : ℕ) × (k < port) × InputEdge g ids (port_at (name_by g.ids id) k) place u w

-- the wires into the nodes at the first places
pub record EdgesBelow (g : GraphValue) (ids : List NodeId) (place : ℕ) (rows : List (List ℕ)) : Type 0 where
  pub size : length rows ≡ length ids
  pub edges : (u w : ℕ) → HasEdge rows u w ↔ ((w < place) × (p : Port) × StandsAt g ids w p.node × FeedsFrom g ids p u)

-- what is told of the first places
pub record Telling (ids : List NodeId) (on : List Bool) (found : List NodeId) (place : ℕ) : Type 0 where
  pub each : (id : NodeId) → In id found → (k : ℕ) × (slice_get ids k ≡ Some id) × (slice_get on k ≡ Some true)
  pub all : (k : ℕ) (id : NodeId) → k < place → slice_get ids k ≡ Some id → slice_get on k ≡ Some true → In id found

module _ (g : GraphValue) (ok : IsGraph g) (ids : List NodeId) where
  pub one_place : AreDifferent ids → (j k : ℕ) (n : Name) → StandsAt g ids j n → StandsAt g ids k n → j ≡ k
  one_place different j k n (x, at_x, is_x) (y, at_y, is_y) = different j k x at_x (at_y ∙ ap Some (ok.alone y x n is_y is_x))

  -- one input
  module _ (target : PortAt) (place : ℕ) where
    pub input_unfed : finite.get g.graph.feeders (port_of g target) ≡ None → (rows : List (List ℕ)) → Adds (InputEdge g ids (port_of g target) place) rows rows
    input_unfed unfed rows = adds_none (InputEdge g ids (port_of g target) place) rows (λ u w e. none-some e.0.0 (sym unfed ∙ e.0.1))

    module _ (source : PortAt) (fed : finite.get g.graph.feeders (port_of g target) ≡ Some (port_of g source)) where
      its_place : (u : ℕ) → FeedsFrom g ids (port_of g target) u → slice_get ids u ≡ Some source.node
      its_place u (q, e, (x, at, denotes)) =
          let same : name_by g.ids source.node ≡ q.node = ap (λ (p : Port). p.node) (same_Some (port_of g source) q (sym fed ∙ e)) in
          at ∙ ap Some (ok.alone x source.node q.node denotes (subst (Denotes g source.node) same (source_live g ok (port_of g target) source fed)))

      pub input_outside : ¬ (In source.node ids) → (rows : List (List ℕ)) → Adds (InputEdge g ids (port_of g target) place) rows rows
      input_outside never rows = adds_none (InputEdge g ids (port_of g target) place) rows (λ u w e. never (at_in ids u source.node (its_place u e.0)))

      pub input_edge : AreDifferent ids → (from : ℕ) → slice_get ids from ≡ Some source.node → (rows after : List (List ℕ)) → IsWithEdge rows from place after → Adds (InputEdge g ids (port_of g target) place) rows after
      input_edge different from at rows after with_it =
          adds_one (InputEdge g ids (port_of g target) place) rows after from place
          ((port_of g source, fed, (source.node, at, source_live g ok (port_of g target) source fed)), refl)
          (λ u w e. (different u from source.node (its_place u e.0) at, e.1)) with_it

  -- the inputs of a node
  module _ (id : NodeId) (place : ℕ) (body : Body) (found : finite.get g.graph.nodes (name_by g.ids id) ≡ Some body) where
    pub inputs_first : (rows : List (List ℕ)) → Adds (InputsBelow g ids id place 1) rows rows
    inputs_first rows =
        adds_none (InputsBelow g ids id place 1) rows
        (λ u w e.
        let some = (input_within g ok (name_by g.ids id) body found (port_at (name_by g.ids id) e.0) e.2.0.0 refl e.2.0.1).0 in
        let less = e.1 in
        absurd (omega (arith, some, less)))

    pub inputs_more : (a b d : List (List ℕ)) (port : ℕ) → Adds (InputsBelow g ids id place port) a b → Adds (InputEdge g ids (port_at (name_by g.ids id) port) place) b d → Adds (InputsBelow g ids id place (port + 1)) a d
    inputs_more a b d port first next =
        adds_on (InputsBelow g ids id place port) (InputEdge g ids (port_at (name_by g.ids id) port) place) (InputsBelow g ids id place (port + 1)) a b d first next
        (λ u w e. (e.0, (let less = e.1 in omega (arith, less)), e.2)) (λ u w e. (port, omega arith, e))
        (λ u w e. elim (cases_eq e.0 port) [
          | inl same ↦ inr (subst (λ k. InputEdge g ids (port_at (name_by g.ids id) k) place u w) same e.2)
          | inr apart ↦ inl (e.0, (let less = e.1 in omega (arith, less, apart)), e.2)
        ])

    pub inputs_last : (a b : List (List ℕ)) (port : ℕ) → length (ins body.kind) < port → Adds (InputsBelow g ids id place port) a b → Adds (NodeEdge g ids (name_by g.ids id) place) a b
    inputs_last a b port past first =
        adds_as (InputsBelow g ids id place port) (NodeEdge g ids (name_by g.ids id) place) a b first
        (λ u w e. (port_at (name_by g.ids id) e.0, refl, e.2))
        (λ u w e.
        let less = (input_within g ok (name_by g.ids id) body found e.0 e.2.0.0 e.1 e.2.0.1).1 in
        (e.0.port, (omega (arith, less, past)), subst (λ p. InputEdge g ids p place u w) (ap (λ n. port_at n e.0.port) e.1) e.2))

  -- the nodes of the set
  pub edges_first : (rows : List (List ℕ)) → length rows ≡ length ids → ((u w : ℕ) → ¬ (HasEdge rows u w)) → EdgesBelow g ids 0 rows
  edges_first rows size never = record { size = size; edges = λ u w. (λ e. absurd (never u w e), λ b. absurd (nothing w b.0)) }
    where
      nothing : (w : ℕ) → w < 0 → ⊥
      nothing w less = omega arith

  pub edges_more : (rows after : List (List ℕ)) (place : ℕ) (id : NodeId) → slice_get ids place ≡ Some id → Denotes g id (name_by g.ids id) → EdgesBelow g ids place rows → Adds (NodeEdge g ids (name_by g.ids id) place) rows after →
      EdgesBelow g ids (place + 1) after
  edges_more rows after place id at live so_far adds =
      record {
        size = adds.size ∙ so_far.size;
        edges = λ u w. (
          λ e. elim ((adds.edges u w).0 e) [
            | inl old ↦ let (less, p, stands, feeds) = (so_far.edges u w).0 old in ((omega arith), p, stands, feeds)
            | inr new ↦ added u w new
          ],
          λ b. (adds.edges u w).1 (elim (cases_eq w place) [
            | inl same ↦ inr (b.1, named w same b.2, (b.3, same))
            | inr apart ↦ inl ((so_far.edges u w).1 ((let less = b.0 in omega (arith, less, apart)), b.1, b.2, b.3))
          ]),
        );
      }
    where
      added : (u w : ℕ) → NodeEdge g ids (name_by g.ids id) place u w → (w < place + 1) × (p : Port) × StandsAt g ids w p.node × FeedsFrom g ids p u
      added u w (p, node, (feeds, same)) = ((omega (arith, same)), p, (id, ap (slice_get ids) same ∙ at, subst (Denotes g id) (sym node) live), feeds)

      named : {n : Name} (w : ℕ) → w ≡ place → StandsAt g ids w n → n ≡ name_by g.ids id
      named {n} w same (x, there, denotes) = sym (itself g x n denotes) ∙ ap (name_by g.ids) (same_Some x id (sym there ∙ ap (slice_get ids) same ∙ at))

  pub edges_last : (rows : List (List ℕ)) (place : ℕ) → length ids ≤ place → EdgesBelow g ids place rows → IsGraphOfSet g ids rows
  edges_last rows place past done =
      record {
        size = done.size;
        edges = λ u w. (
          λ e. let (less, p, stands, feeds) = (done.edges u w).0 e in (p, stands, feeds),
          λ b. (done.edges u w).1 (below w b.1, b.0, b.1, b.2),
        );
      }
    where
      below : {n : Name} (w : ℕ) → StandsAt g ids w n → w < place
      below w (x, at, denotes) = let less : w < length ids = slice_get_within ids w x at in omega arith

-- what is told
module _ (ids : List NodeId) (on : List Bool) where
  pub telling_first : (found : List NodeId) → found ≡ [] → Telling ids on found 0
  telling_first found empty = record { each = λ id i. elim (subst (In id) empty i) [ ]; all = λ k id below. absurd (omega arith) }

  pub telling_more : (before after : List NodeId) (place : ℕ) (id : NodeId) → Telling ids on before place → slice_get ids place ≡ Some id → IsTold on place id before after → Telling ids on after (place + 1)
  telling_more before after place id so_far at (inl put) =
      record {
        each = λ x i. elim (put_in before after id put.1 x i) [
          | inl old ↦ so_far.each x old
          | inr same ↦ (place, at ∙ ap Some (sym same), put.0)
        ];
        all = λ k x below got told. elim (cases_eq k place) [
          | inl same ↦ subst (λ y. In y after) (same_Some id x (sym at ∙ ap (slice_get ids) (sym same) ∙ got)) (put_has before after id put.1)
          | inr apart ↦ put_keeps before after id put.1 x (so_far.all k x (omega arith) got told)
        ];
      }
  telling_more before after place id so_far at (inr left) =
      record {
        each = λ x i. so_far.each x (subst (In x) left.1 i);
        all = λ k x below got told. elim (cases_eq k place) [
          | inl same ↦ absurd (left.0 (ap (slice_get on) (sym same) ∙ told))
          | inr apart ↦ subst (In x) (sym left.1) (so_far.all k x (omega arith) got told)
        ];
      }

  pub telling_last : (found : List NodeId) (place : ℕ) → Telling ids on found place → length ids ≤ place → AreTold ids on found
  telling_last found place done past id = (
    done.each id,
    λ told. let less : told.0 < length ids = slice_get_within ids told.0 id told.1 in done.all told.0 id (omega arith) told.1 told.2,
  )
