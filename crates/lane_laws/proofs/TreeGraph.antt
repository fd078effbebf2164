-- the circuit of Muxes and their tree, as a graph, has that tree
use Rattle.std.proofs.Common.{◌≡◌, inl, inr, refl, sym, ap, subst, ◌∙◌, if◌then◌else◌, List, [], ◌∷◌, Option, Some, None}
use Rattle.components.specs.Kind.{Shape}
use Rattle.components.specs.Name.{Name}
use Rattle.components.specs.declared.kind.Kind.{Kind}
use Rattle.lane_laws.specs.CombineMuxes.{Stop, into, select, LeadsTo, by_wire, by_wires, Tree, Muxes, choice, node, mux}
use Rattle.lane_laws.proofs.MuxPlans.{led, muxes_plan}
use Rattle.lane_laws.specs.GraphTree.{place_named, output_of, in_tree, stop_port, source_in_graph, IsMuxTree}
use Rattle.lane_laws.specs.Laws.{TreesAreFound}
use Rattle.lane_laws.proofs.MuxGraphs.{muxes_naming, muxes_are}
use Rattle.circuits.proofs.Names.{name_cases}
use Rattle.circuit_plans.proofs.Plans.{Out, Naming, built, out_by, kind_named, feeder_named, name_inj}
use Rattle.circuit_plans.proofs.Places.{Place, first, later, later_of}
use Rattle.lane_laws.proofs.GraphTree.{place_known}

no_place_named : {A : Type 0} (xs : List A) (name : Place xs → Name) (m : Name) → ((l : Place xs) → name l ≡ m → ⊥) → place_named xs name m ≡ None
no_place_named [] name m h = refl
no_place_named (x ∷ xs) name m h =
    elim (name_cases (name first) m) [
      | inl same ↦ absurd (h first same.is)
      | inr other ↦
          ap (λ b. if b then Some first else later_of (place_named xs (λ n. name (later n)) m)) other.test
          ∙ ap later_of (no_place_named xs (λ n. name (later n)) m (λ l. h (later l)))
    ]

module _ (kinds : List Kind) (lanes : List Shape) (tree : Tree kinds lanes) (x : Naming (Muxes kinds lanes)) where
  abbrev nodes : Place kinds → Name
  nodes n = x.name (node n)

  abbrev selects : Place lanes → Name
  selects l = x.name (mux l)

  node_inj : (n m : Place kinds) → nodes n ≡ nodes m → n ≡ m
  node_inj n m e = let f : node n ≡ node m = name_inj (muxes_plan kinds lanes tree) x (node n) (node m) e in cc

  mux_inj : (l k : Place lanes) → selects l ≡ selects k → l ≡ k
  mux_inj l k e = let f : mux l ≡ mux k = name_inj (muxes_plan kinds lanes tree) x (mux l) (mux k) e in cc

  choice_away : (n : Place kinds) → nodes n ≡ x.name choice → ⊥
  choice_away n e = let f : node n ≡ choice = name_inj (muxes_plan kinds lanes tree) x (node n) choice e in cc

  back_in : (o : Option (Out (Place kinds))) → in_tree kinds nodes (out_by x (led o)) ≡ o
  back_in None = ap (output_of 1) (no_place_named kinds nodes (x.name choice) choice_away)
  back_in (Some q) = ap (output_of q.port) (place_known kinds nodes node_inj q.at)

  feeder_at : (y : Stop kinds lanes) → (built (muxes_plan kinds lanes tree) x).feeder (stop_port nodes selects y) ≡ out_by x (led (tree.source y))
  feeder_at (into n) = feeder_named (muxes_plan kinds lanes tree) x (node n) 1
  feeder_at (select l) = feeder_named (muxes_plan kinds lanes tree) x (mux l) 1

  same_source : (y : Stop kinds lanes) → source_in_graph (built (muxes_plan kinds lanes tree) x) kinds lanes nodes selects y ≡ tree.source y
  same_source y = ap (in_tree kinds nodes) (feeder_at y) ∙ back_in (tree.source y)

  leads : (n m : Place kinds) → LeadsTo (source_in_graph (built (muxes_plan kinds lanes tree) x) kinds lanes nodes selects) n m → LeadsTo tree.source n m
  leads n m (by_wire q e is) = by_wire q (sym (same_source (into m)) ∙ e) is
  leads n m (by_wires q e h) = by_wires q (sym (same_source (into m)) ∙ e) (leads n q.at h)

  pub built_tree : IsMuxTree (built (muxes_plan kinds lanes tree) x) kinds lanes nodes selects
  built_tree =
      record {
        passes = tree.passes;
        nodes = λ n. kind_named (muxes_plan kinds lanes tree) x (node n);
        muxes = λ l. kind_named (muxes_plan kinds lanes tree) x (mux l);
        node_names = node_inj;
        mux_names = mux_inj;
        outputs = λ n i a e. let (y, f) = tree.outputs n i a e in (y, feeder_at y ∙ ap (λ o. out_by x (led o)) f);
        outside = (tree.outside.0, same_source tree.outside.0 ∙ tree.outside.1);
        one_outside = λ y z e f. tree.once y z (sym (same_source y) ∙ e ∙ sym f ∙ same_source z);
        no_cycle = λ n h. tree.no_cycle n (leads n n h);
        some_mux = tree.some_mux;
      }

pub found : TreesAreFound
found kinds lanes tree name once =
    subst (λ c. IsMuxTree c kinds lanes (λ n. name (node n)) (λ l. name (mux l))) (sym (muxes_are kinds lanes tree name once))
    (built_tree kinds lanes tree (muxes_naming kinds lanes tree name once))
