-- What stands in maps and graphs that are made of others: under each name, and at each input.
use Rattle.std.proofs.Common.{◌≡◌, Bool, true, false, cond, inl, inr, List, [], ◌∷◌, ◌++◌, map, Option, Some, None, refl, sym, ap, ◌∙◌}
use Rattle.std.specs.Prelude.{if◌then◌else◌, bytes_eq}
use Rattle.std.specs.declared.cmp.Ordering.{Ordering}
use Rattle.std.specs.Cmp.{IsTotalOrder, Equal-is}
use Rattle.std.specs.Option.{option_map, option_or}
use Rattle.std.specs.Ordering.{eq_by_cmp}
use Rattle.std.specs.FinMap as finite
use Rattle.std.specs.FinMap.{FinMap, IsAntisymmetric}
use Rattle.components.specs.Entries.{find-append}
use Rattle.components.specs.Lookups.{same_test, other_test}
use Rattle.components.specs.Name.{Name, Port, name_cmp}
use Rattle.components.specs.NamedGraph.{NamedGraph}
use Rattle.components.specs.Orders.{name_total, name_same, port_total, port_same, name_cases, same_bytes, other_bytes}
use Rattle.circuits.specs.Plug.{PlugLink}
use Rattle.circuits.specs.ReplacedGraph.{together}
use Rattle.circuits.specs.PluggedGraph.{beside_graph, linked_node, linked_source, link_graph}

module _ {K X Y : Type 0} {R : K → K → Ordering} (o : IsTotalOrder R) (same : IsAntisymmetric R) (f : K → X → Y) where
  found_mapped : (q k : K) (x : X) (t : Bool) (p : Option Y) (r : Option X) → eq_by_cmp R q k ≡ t → p ≡ option_map (f q) r → cond t (Some (f k x)) p ≡ option_map (f q) (cond t (Some x) r)
  found_mapped q k x true p r test is = ap (λ z. Some (f z x)) (sym (same q k ((Equal-is (R q k)).0 test)))
  found_mapped q k x false p r test is = is

  find_mapped : (q : K) (es : List (K × X)) → finite.find R q (map (λ e. (e.0, f e.0 e.1)) es) ≡ option_map (f q) (finite.find R q es)
  find_mapped q [] = refl
  find_mapped q (e ∷ es) =
      found_mapped q e.0 e.1 (eq_by_cmp R q e.0) (finite.find R q (map (λ e. (e.0, f e.0 e.1)) es)) (finite.find R q es) refl (find_mapped q es)

  -- each value by its key and the old one
  pub get_mapped : (m : FinMap R X) (q : K) → finite.get (finite.from_entries {R = R} (map (λ e. (e.0, f e.0 e.1)) (finite.entries m))) q ≡ option_map (f q) (finite.get m q)
  get_mapped m q =
      finite.get-from_entries o (map (λ e. (e.0, f e.0 e.1)) (finite.entries m)) q ∙ find_mapped q (finite.entries m) ∙ ap (option_map (f q)) (sym (finite.get-entries m q))

-- in the entries of two maps the first of them goes before
pub get-together : {K X : Type 0} {R : K → K → Ordering} → IsTotalOrder R → (m n : FinMap R X) (q : K) → finite.get (together m n) q ≡ option_or (finite.get m q) (finite.get n q)
get-together {R = R} o m n q =
    finite.get-from_entries o (finite.entries m ++ finite.entries n) q ∙ find-append R q (finite.entries m) (finite.entries n)
    ∙ (λ i. option_or (sym (finite.get-entries m q) i) (sym (finite.get-entries n q) i))

module _ (c g : NamedGraph) where
  pub get_beside_node : (n : Name) → finite.get (beside_graph c g).nodes n ≡ option_or (finite.get c.nodes n) (finite.get g.nodes n)
  get_beside_node n = get-together name_total c.nodes g.nodes n

  pub get_beside_feeder : (p : Port) → finite.get (beside_graph c g).feeders p ≡ option_or (finite.get c.feeders p) (finite.get g.feeders p)
  get_beside_feeder p = get-together port_total c.feeders g.feeders p

-- the order of names and the test of names agree
same_tests : (a b : Name) → eq_by_cmp name_cmp a b ≡ bytes_eq a b
same_tests a b =
    elim (name_cases a b) [
      | inl one ↦ same_test name_total name_same a b one ∙ sym (same_bytes a b one)
      | inr two ↦ other_test name_total name_same a b two ∙ sym (other_bytes a b two)
    ]

module _ (l : PlugLink) (g : NamedGraph) where
  pub get_linked_node : (n : Name) → finite.get (link_graph l g).nodes n ≡ (if bytes_eq n l.entry then None else option_map (linked_node l n) (finite.get g.nodes n))
  get_linked_node n =
      finite.get-remove name_total _ l.entry n
      ∙ (λ i. cond (same_tests n l.entry i) None (get_mapped name_total name_same (linked_node l) g.nodes n i))

  pub get_linked_feeder : (p : Port) → finite.get (link_graph l g).feeders p ≡ option_map (linked_source l) (finite.get g.feeders p)
  get_linked_feeder p = get_mapped port_total port_same (λ _. linked_source l) g.feeders p
