-- A link within one graph, by ids.
use Rattle.std.proofs.Common.{◌≡◌, Some, sym, ap, subst, ◌∙◌}
use Rattle.std.proofs.lemmas.Option.{same_Some}
use Rattle.std.specs.Prelude.{[], unwrap_or}
use Rattle.std.specs.FinMap as finite
use Rattle.components.specs.declared.kind.Kind.TheVariants.{Entry}
use Rattle.components.specs.Name.{Port}
use Rattle.components.specs.NamedGraph.{NamedGraph, IsTyped, with_node, with_wire, without_node}
use Rattle.circuits.specs.Buffers.{first_port}
use Rattle.circuits.specs.Plug.{PlugLink}
use Rattle.circuits.specs.PluggedGraph.{buffer_body, link_graph}
use Rattle.graph_core.specs.declared.place.NodeId.{NodeId}
use Rattle.graph_core.specs.GraphValue.{GraphValue, IsGraph, name_by}
use Rattle.module_sem.specs.Linking.{CanHandOn, CanJoin, IsBuffered, ends_named}
use Rattle.module_sem.proofs.Ends.{named_denotes}
use Rattle.module_sem.proofs.Linked.{between, can_hand_on, ends_differ, entry_feeds, exit_body, is_linked}

module _ (g : GraphValue) (is : IsGraph g) (typed : IsTyped g.graph) (exit entry : NodeId) (join : CanJoin g.graph (ends_named g exit entry)) (buffer : NodeId) (h : GraphValue) (put : IsBuffered g (name_by g.ids exit) buffer h) where
  abbrev ends : PlugLink
  ends = ends_named g exit entry

  between_is : h.graph ≡ between g.graph typed ends join
  between_is =
      let same = same_Some put.body (exit_body g.graph typed ends join).body (sym put.was ∙ (exit_body g.graph typed ends join).is) in
      put.graph ∙ ap (λ b. with_node g.graph ends.exit (buffer_body b)) same

  entry_is : name_by h.ids entry ≡ ends.entry
  entry_is = ap (λ o. unwrap_or o []) (put.others entry ends.entry (named_denotes g is entry (Entry join.shape) join.entry) (ends_differ g.graph typed ends join))

  buffer_is : name_by h.ids buffer ≡ ends.exit
  buffer_is = ap (λ o. unwrap_or o []) put.denotes

  pub can_hand_by_ids : CanHandOn h.graph (first_port (name_by h.ids entry)) (first_port (name_by h.ids buffer))
  can_hand_by_ids =
      let (target, feeds) = entry_feeds g.graph typed ends join in
      subst (λ n. CanHandOn h.graph (first_port n) (first_port (name_by h.ids buffer))) (sym entry_is)
      (subst (λ n. CanHandOn h.graph (first_port ends.entry) (first_port n)) (sym buffer_is)
      (subst (λ k. CanHandOn k (first_port ends.entry) (first_port ends.exit)) (sym between_is) (can_hand_on g.graph typed ends join target feeds)))

  pub linked_by_ids : (done : GraphValue)
      → ((target : Port) → finite.get h.graph.feeders target ≡ Some (first_port (name_by h.ids entry)) → done.graph ≡ with_wire (without_node h.graph (name_by h.ids entry)) (first_port (name_by h.ids buffer)) target)
      → done.graph ≡ link_graph ends g.graph
  linked_by_ids done handed =
      let (target, feeds) = entry_feeds g.graph typed ends join in
      let fed : finite.get h.graph.feeders target ≡ Some (first_port (name_by h.ids entry)) =
      ap (λ (k : NamedGraph). finite.get k.feeders target) between_is ∙ feeds ∙ ap (λ n. Some (first_port n)) (sym entry_is) in
      handed target fed ∙ (λ i. with_wire (without_node (between_is i) (entry_is i)) (first_port (buffer_is i)) target) ∙ is_linked g.graph typed ends join target feeds
