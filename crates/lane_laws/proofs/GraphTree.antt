-- listed Forks, Buffers and Muxes of a typed graph make a tree; and the smallest trees
use Rattle.std.proofs.Common.{◌≡◌, ℕ, inl, inr, refl, sym, ap, ◌∙◌, if◌then◌else◌, List, [], ◌∷◌, Option, Some, None}
use Rattle.circuits.specs.Circuit.{Circuit, Typed}
use Rattle.components.specs.Kind.{Shape, ins, outs}
use Rattle.components.specs.Name.{Name, Port, port_get}
use Rattle.std.proofs.lemmas.Option.{same_Some}
use Rattle.components.specs.declared.kind.Kind.{Kind}
use Rattle.components.specs.declared.kind.Kind.TheVariants.{Buffer, Fork, Mux}
use Rattle.circuits.specs.Root.{PassesThrough}
use Rattle.lane_laws.specs.CombineMuxes.{Stop, into, select, stop_shape, Tree}
use Rattle.lane_laws.specs.GraphTree.{place_named, output_of, in_tree, stop_port, source_in_graph, IsMuxTree}
use Rattle.lane_laws.specs.Laws.{ListedNodesMakeTree}
use Rattle.circuits.proofs.Names.{name_cases}
use Rattle.circuits.proofs.Beside.{none_some}
use Rattle.circuit_plans.proofs.Plans.{Out}
use Rattle.circuit_plans.proofs.Places.{Place, first, later, later_of, item}

-- the place that has a name
abbrev without_first : {A : Type 0} {x : A} {xs : List A} → Place (x ∷ xs) → Option (Place xs)
without_first first = None
without_first (later l) = Some l

later_inj : {A : Type 0} {x : A} (xs : List A) (l k : Place xs) → later {x = x} l ≡ later k → l ≡ k
later_inj xs l k e = same_Some l k (ap without_first e)

pub place_known : {A : Type 0} (xs : List A) (name : Place xs → Name) → ((l k : Place xs) → name l ≡ name k → l ≡ k) → (l : Place xs) → place_named xs name (name l) ≡ Some l
place_known [] name differ l = elim l [ ]
place_known (x ∷ xs) name differ first =
    elim (name_cases (name first) (name first)) [
      | inl same ↦ ap (λ b. if b then Some first else later_of (place_named xs (λ n. name (later n)) (name first))) same.test
      | inr other ↦ absurd (other.is_not refl)
    ]
place_known (x ∷ xs) name differ (later l) =
    elim (name_cases (name first) (name (later l))) [
      | inl same ↦ (let no : first ≡ later l = differ first (later l) same.is in cc)
      | inr other ↦
          ap (λ b. if b then Some first else later_of (place_named xs (λ n. name (later n)) (name (later l)))) other.test
          ∙ ap later_of (place_known xs (λ n. name (later n)) (λ n m e. later_inj xs n m (differ (later n) (later m) e)) l)
    ]

known_later : {A : Type 0} (x : A) (xs : List A) (name : Place (x ∷ xs) → Name) (m : Name) (l : Place (x ∷ xs)) (o : Option (Place xs)) → later_of o ≡ Some l → ((k : Place xs) → o ≡ Some k → m ≡ name (later k)) → m ≡ name l
known_later x xs name m l None e go = absurd (none_some None l refl e)
known_later x xs name m l (Some k) e go = go k refl ∙ ap name (same_Some (later k) l e)

pub known_place : {A : Type 0} (xs : List A) (name : Place xs → Name) (m : Name) (l : Place xs) → place_named xs name m ≡ Some l → m ≡ name l
known_place [] name m l e = elim l [ ]
known_place (x ∷ xs) name m l e =
    elim (name_cases (name first) m) [
      | inl same ↦
          let is : Some first ≡ Some l = sym (ap (λ b. if b then Some first else later_of (place_named xs (λ n. name (later n)) m)) same.test) ∙ e in
          sym same.is ∙ ap name (same_Some first l is)
      | inr other ↦
          known_later x xs name m l (place_named xs (λ n. name (later n)) m)
          (sym (ap (λ b. if b then Some first else later_of (place_named xs (λ n. name (later n)) m)) other.test) ∙ e)
          (λ k f. known_place xs (λ n. name (later n)) m k f)
    ]

module _ (g : Circuit) (tree : List Kind) (lanes : List Shape) (node : Place tree → Name) (mux : Place lanes → Name) (ty : Typed g) (h : IsMuxTree g tree lanes node mux) where
  abbrev port : Stop tree lanes → Port
  port = stop_port node mux

  abbrev source : Stop tree lanes → Option (Out (Place tree))
  source = source_in_graph g tree lanes node mux

  -- an output of the tree feeds this input
  record Feeds (x : Stop tree lanes) (q : Out (Place tree)) : Type 0 where
    feeder_is : g.feeder (port x) ≡ Some (record { node = node q.at; port = q.port })

  feeds_out : (r : Port) (q : Out (Place tree)) (o : Option (Place tree)) → place_named tree node r.node ≡ o → output_of r.port o ≡ Some q → r ≡ record { node = node q.at; port = q.port }
  feeds_out r q None e f = absurd (none_some None q refl f)
  feeds_out r q (Some n) e f =
      let is : record { at = n; port = r.port } ≡ q = same_Some (record { at = n; port = r.port }) q f in
      let name : r.node ≡ node n = known_place tree node r.node n e in
      λ j. record { node = (name ∙ ap (λ (z : Out (Place tree)). node z.at) is) j; port = ap (λ (z : Out (Place tree)). z.port) is j }

  feeds_at : (x : Stop tree lanes) (q : Out (Place tree)) (o : Option Port) → g.feeder (port x) ≡ o → in_tree tree node o ≡ Some q → Feeds x q
  feeds_at x q None e f = absurd (none_some None q refl f)
  feeds_at x q (Some r) e f = record { feeder_is = e ∙ ap Some (feeds_out r q (place_named tree node r.node) refl f) }

  feeds : (x : Stop tree lanes) (q : Out (Place tree)) → source x ≡ Some q → Feeds x q
  feeds x q e = feeds_at x q (g.feeder (port x)) refl e

  stop_is : (x : Stop tree lanes) (k : Kind) → g.kind_at (port x).node ≡ Some k → (a : Shape) → port_get (ins k) (port x).port ≡ Some a → stop_shape tree lanes x ≡ Some a
  stop_is (into n) k e a f = ap (λ z. port_get (ins z) 1) (same_Some (item tree n) k (sym (h.nodes n) ∙ e)) ∙ f
  stop_is (select l) k e a f = ap (λ z. port_get (ins z) 1) (same_Some (Mux (item lanes l)) k (sym (h.muxes l) ∙ e)) ∙ f

  wires : (x : Stop tree lanes) (q : Out (Place tree)) → source x ≡ Some q → (a : Shape) × (stop_shape tree lanes x ≡ Some a) × (port_get (outs (item tree q.at)) q.port ≡ Some a)
  wires x q e =
      let f = feeds x q e in
      let w = ty.wires (port x) (record { node = node q.at; port = q.port }) f.feeder_is in
      (w.shape, stop_is x w.to w.is_to w.shape w.enters, ap (λ z. port_get (outs z) q.port) (same_Some (item tree q.at) w.from (sym (h.nodes q.at) ∙ w.is_from)) ∙ w.leaves)

  not_mux : (k : Kind) (a : Shape) → PassesThrough k → k ≡ Mux a → ⊥
  not_mux (Buffer b) a t e = cc
  not_mux (Fork b n) a t e = cc
  not_mux _ a t e = absurd t

  -- different inputs have different ports
  port_inj : (x y : Stop tree lanes) → port x ≡ port y → x ≡ y
  port_inj (into n) (into m) e = ap into (h.node_names n m (ap (λ (z : Port). z.node) e))
  port_inj (select l) (select k) e = ap select (h.mux_names l k (ap (λ (z : Port). z.node) e))
  port_inj (into n) (select k) e = absurd (not_mux (item tree n) (item lanes k) (h.passes n) (same_Some _ _ (sym (h.nodes n) ∙ ap (λ (z : Port). g.kind_at z.node) e ∙ h.muxes k)))
  port_inj (select l) (into m) e = absurd (not_mux (item tree m) (item lanes l) (h.passes m) (same_Some _ _ (sym (h.nodes m) ∙ ap (λ (z : Port). g.kind_at z.node) (sym e) ∙ h.muxes l)))

  once_at : (x y : Stop tree lanes) (o : Option (Out (Place tree))) → source x ≡ o → source y ≡ o → x ≡ y
  once_at x y None e f = h.one_outside x y e f
  once_at x y (Some q) e f =
      port_inj x y (ty.once (port x) (port y) (record { node = node q.at; port = q.port }) (feeds x q e).feeder_is (feeds y q f).feeder_is)

  outputs : (n : Place tree) (i : ℕ) (a : Shape) → port_get (outs (item tree n)) i ≡ Some a → (x : Stop tree lanes) × (source x ≡ Some (record { at = n; port = i }))
  outputs n i a e =
      let (x, f) = h.outputs n i a e in
      (x, ap (in_tree tree node) f ∙ ap (output_of i) (place_known tree node h.node_names n))

  pub graph_tree : Tree tree lanes
  graph_tree =
      record {
        source = source;
        passes = h.passes;
        wires = wires;
        outputs = outputs;
        once = λ x y e. once_at x y (source y) e refl;
        outside = h.outside;
        no_cycle = h.no_cycle;
        some_mux = h.some_mux;
      }

  pub graph_tree_source : (x : Stop tree lanes) → graph_tree.source x ≡ source_in_graph g tree lanes node mux x
  unfolding graph_tree
  graph_tree_source x = refl

pub make : ListedNodesMakeTree
make g kinds lanes node mux typed h = (graph_tree g kinds lanes node mux typed h, graph_tree_source g kinds lanes node mux typed h)
