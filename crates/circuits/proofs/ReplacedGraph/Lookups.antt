-- What stands in a replaced graph under each name and at each input.
use Rattle.std.proofs.Common.{◌≡◌, Bool, true, false, not, ◌||◌, cond, refl, sym, ap, ◌∙◌, T, if◌then◌else◌, List, [], ◌∷◌, Option, Some, None, Ordering}
use Rattle.std.specs.List.{filter_map, cons_option}
use Rattle.std.specs.Option.{option_map, option_or, option_and_then}
use Rattle.std.specs.Ordering.{eq_by_cmp}
use Rattle.std.specs.Cmp.{Equal-is}
use Rattle.std.specs.FinMap as map
use Rattle.std.specs.FinMap.{FinMap, IsAntisymmetric}
use Rattle.std.specs.FinMap.Entries.{find, is_sorted}
use Rattle.components.specs.Name.{Name, Port, port_cmp}
use Rattle.components.specs.NamedGraph.{NamedGraph}
use Rattle.components.specs.Node.{Body}
use Rattle.components.specs.Entries.{first, second, find_below}
use Rattle.components.specs.Lookups.{get_retained}
use Rattle.components.specs.Orders.{name_total, name_same, port_total, port_same}
use Rattle.circuits.specs.Circuit.{circuit_of, kind_of_body}
use Rattle.circuits.specs.Replacing.{replaced}
use Rattle.circuits.specs.ReplacedGraph.{has_inner, consumer, refed, new_source, kept_source, stays, replaced_graph}
use Rattle.circuits.specs.GraphLookups.{get-together}
use Rattle.circuits.proofs.Renaming.{circuit_same}

-- entries with other values, where there are some
module _ {K X Y : Type 0} {R : K → K → Ordering} (same : IsAntisymmetric R) (f : X → Option Y) where
  abbrev other_value : K × X → Option (K × Y)
  other_value e = option_map (λ y. (e.0, y)) (f e.1)

  find_first_other : (q : K) (e : K × X) (es : List (K × X)) → T (is_sorted R (e ∷ es)) → find R q (filter_map other_value es) ≡ option_and_then f (find R q es) →
      (b : Bool) → eq_by_cmp R q e.0 ≡ b → (r : Option Y) → f e.1 ≡ r →
      find R q (cons_option (option_map (λ y. (e.0, y)) r) (filter_map other_value es)) ≡ option_and_then f (cond b (Some e.1) (find R q es))
  find_first_other q e es sorted later true test (Some y) is = ap (λ b. cond b (Some y) (find R q (filter_map other_value es))) test ∙ sym is
  find_first_other q e es sorted later true test None is =
      later ∙ ap (λ k. option_and_then f (find R k es)) (same q e.0 ((Equal-is (R q e.0)).0 test)) ∙ ap (option_and_then f) (find_below R e.0 es (first _ _ sorted)) ∙ sym is
  find_first_other q e es sorted later false test (Some y) is = ap (λ b. cond b (Some y) (find R q (filter_map other_value es))) test ∙ later
  find_first_other q e es sorted later false test None is = later

  find_other : (q : K) (es : List (K × X)) → T (is_sorted R es) → find R q (filter_map other_value es) ≡ option_and_then f (find R q es)
  find_other q [] sorted = refl
  find_other q (e ∷ es) sorted = find_first_other q e es sorted (find_other q es (second _ _ sorted)) (eq_by_cmp R q e.0) refl (f e.1) refl

pub get-refed : (source : Option Port → Option Port) (wires : FinMap port_cmp Port) (p : Port) → map.get (refed source wires) p ≡ option_and_then (λ q. source (Some q)) (map.get wires p)
get-refed source wires p =
    map.get-from_entries port_total (filter_map (λ wire. option_map (λ q. (wire.0, q)) (source (Some wire.1))) (map.entries wires)) p
    ∙ find_other port_same (λ q. source (Some q)) p (map.entries wires) (map.entries_sorted wires)
    ∙ ap (option_and_then (λ q. source (Some q))) (sym (map.get-entries wires p))

module _ (g left right : NamedGraph) where
  -- what two halves answer, of which one is empty at each place
  abbrev chosen : {A : Type 0} → Bool → Bool → Option A → Option A → Option A
  chosen new old x y = if new then x else (if old then None else y)

  joined : {A : Type 0} (new old : Bool) (x y : Option A) → option_or (cond new x None) (cond (not (old || new)) y None) ≡ chosen new old x y
  joined true true None y = refl
  joined true false None y = refl
  joined true old (Some x) y = refl
  joined false true x y = refl
  joined false false x y = refl

  -- the node of a name
  pub node_at : (n : Name) → map.get (replaced_graph g left right).nodes n ≡ chosen (has_inner right n) (has_inner left n) (map.get right.nodes n) (map.get g.nodes n)
  node_at n =
      get-together name_total (map.retain_keys right.nodes (has_inner right)) (map.retain_keys g.nodes (stays left right)) n
      ∙ (λ i. option_or (get_retained name_total name_same right.nodes (has_inner right) n i) (get_retained name_total name_same g.nodes (stays left right) n i))
      ∙ joined (has_inner right n) (has_inner left n) (map.get right.nodes n) (map.get g.nodes n)

  -- what feeds an input
  abbrev from_new : Option Port → Option Port
  from_new = new_source g left right

  abbrev from_old : Option Port → Option Port
  from_old = kept_source g left right

  abbrev into_new : FinMap port_cmp Port
  into_new = map.retain_keys right.feeders (λ r. has_inner right r.node)

  abbrev into_old : FinMap port_cmp Port
  into_old = map.retain_keys g.feeders (λ r. stays left right r.node)

  chosen_new : (b : Bool) (o : Option Port) → option_and_then (λ q. from_new (Some q)) (cond b o None) ≡ cond b (from_new o) None
  chosen_new true None = refl
  chosen_new true (Some q) = refl
  chosen_new false o = refl

  chosen_old : (b : Bool) (o : Option Port) → option_and_then (λ q. from_old (Some q)) (cond b o None) ≡ cond b (from_old o) None
  chosen_old true None = refl
  chosen_old true (Some q) = refl
  chosen_old false o = refl

  new_wires : (p : Port) → map.get (refed from_new into_new) p ≡ cond (has_inner right p.node) (from_new (map.get right.feeders p)) None
  new_wires p =
      get-refed from_new into_new p
      ∙ ap (option_and_then (λ q. from_new (Some q))) (get_retained port_total port_same right.feeders (λ r. has_inner right r.node) p)
      ∙ chosen_new (has_inner right p.node) (map.get right.feeders p)

  old_wires : (p : Port) → map.get (refed from_old into_old) p ≡ cond (stays left right p.node) (from_old (map.get g.feeders p)) None
  old_wires p =
      get-refed from_old into_old p
      ∙ ap (option_and_then (λ q. from_old (Some q))) (get_retained port_total port_same g.feeders (λ r. stays left right r.node) p)
      ∙ chosen_old (stays left right p.node) (map.get g.feeders p)

  pub feeder_at : (p : Port) → map.get (replaced_graph g left right).feeders p ≡ (replaced (circuit_of g) (circuit_of left) (circuit_of right) (consumer left)).feeder p
  feeder_at p =
      get-together port_total (refed from_new into_new) (refed from_old into_old) p
      ∙ (λ i. option_or (new_wires p i) (old_wires p i))
      ∙ joined (has_inner right p.node) (has_inner left p.node) (from_new (map.get right.feeders p)) (from_old (map.get g.feeders p))

  chosen_kind : (new old : Bool) (x y : Option Body) → kind_of_body (chosen new old x y) ≡ chosen new old (kind_of_body x) (kind_of_body y)
  chosen_kind true old x y = refl
  chosen_kind false true x y = refl
  chosen_kind false false x y = refl

  -- the replaced graph stands for the replaced circuit
  pub circuit_is : circuit_of (replaced_graph g left right) ≡ replaced (circuit_of g) (circuit_of left) (circuit_of right) (consumer left)
  circuit_is =
      circuit_same _ _
      (λ n. ap kind_of_body (node_at n) ∙ chosen_kind (has_inner right n) (has_inner left n) (map.get right.nodes n) (map.get g.nodes n)) feeder_at
