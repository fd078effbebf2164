-- The two graphs of the rule can be made, and are a rule.
use Rattle.std.proofs.Common.{◌≡◌, ℕ, zero, suc, ◌+◌, ◌≤◌, true, false, ◌==◌, if◌then◌else◌, replicate, length, map, List, ◌∷◌, ◌++◌, codes, refl, sym, ap, ◌∙◌, arith}
use Rattle.std.proofs.lemmas.List.{length-replicate}
use Rattle.components.specs.declared.kind.Kind.TheVariants.{Fork, Sink0}
use Rattle.components.specs.declared.node.Node.{Node}
use Rattle.components.specs.Name.{Name}
use Rattle.components.specs.Kind.{Shape}
use Rattle.graph_core.specs.declared.exchange.End.{End}
use Rattle.graph_core.specs.declared.exchange.End.TheVariants.{Fresh}
use Rattle.circuits.specs.Replacing.{In, head, tail, NoneTwice}
use Rattle.circuit_plans.specs.Drawing.{DrawnWire, port_named, wire}
use Rattle.circuit_plans.specs.Places.{first, later, item, before, number}
use Rattle.circuit_plans.proofs.Places.{in_places}
use Rattle.lane_laws.specs.TrimFork.{Output, other_than, CanTrim, Untrimmed, entry, fork, sink, exit, untrimmed, untrimmed_kind, untrimmed_nodes, untrimmed_wires, untrimmed_graph, Trimmed, new_entry, new_fork, new_exit, trimmed, trimmed_kind, trimmed_nodes, trimmed_wires, trimmed_graph}
use Rattle.lane_laws.specs.Laws.{TrimNames, TrimForkIsRule, TrimForkRefines}
use Rattle.subst_engine.specs.Making.{AllDiffer, CanMake, rule_graph, bare_node}
use Rattle.subst_engine.specs.Prefix.{prefix_text}
use Rattle.drawn_rules.specs.declared.rows.Row.TheVariants.{Nodes, Ports, PortsBut}
use Rattle.drawn_rules.specs.declared.row_ends.EndKind.TheVariants.{Entry, Exit}
use Rattle.drawn_rules.specs.Labels.{Label, listed, ending, fresh, AreFree}
use Rattle.drawn_rules.specs.RowEnds.{end_node}
use Rattle.drawn_rules.specs.Rows.{row_wires}
use Rattle.drawn_rules.specs.Sides.{nodes_of, ends_of}
use Rattle.drawn_rules.proofs.DrawnMade.{rising_targets}
use Rattle.drawn_rules.proofs.Labels.{Fits}
use Rattle.drawn_rules.proofs.Labelled as labelled
use Rattle.drawn_rules.proofs.Places.{Counts, Rises, counts_each, rises_each, before_less}
use Rattle.drawn_rules.proofs.RowEnds.{ends_each}
use Rattle.drawn_rules.proofs.RowPlaces.{wire_at}
use Rattle.pure_extract.specs.TrimFork.{trim_names, old_label, new_label, old_name, new_name, TrimForkIsSound}
use Rattle.pure_extract.specs.TrimForkSides.{CanTrimSides, old_list, new_list, old_ends, new_ends}
use Rattle.pure_extract.proofs.TrimForkLaws.OtherPorts.{other_number}

-- the places of the nodes, by their labels

abbrev old_rank : Label → ℕ
old_rank (listed place) = suc place
old_rank (ending letter count) = if letter == 101 then 0 else count + 2
old_rank (fresh word) = 0

abbrev new_rank : Label → ℕ
new_rank (listed place) = 0
new_rank (ending letter count) = if letter == 101 then 0 else suc count
new_rank (fresh word) = 1

module _ (a : Shape) (others : ℕ) where
  abbrev lanes : List Shape
  lanes = replicate others a

  pub old_in : (n : Untrimmed a others) → In n (untrimmed_nodes a others)
  old_in entry = head refl
  old_in fork = tail (head refl)
  old_in sink = tail (tail (head refl))
  old_in (exit l) = tail (tail (tail (in_places lanes exit l)))

  pub new_in : (n : Trimmed a others) → In n (trimmed_nodes a others)
  new_in new_entry = head refl
  new_in new_fork = tail (head refl)
  new_in (new_exit l) = tail (tail (in_places lanes new_exit l))

  long : length lanes ≡ others
  long = length-replicate others a

  abbrev old_place : Untrimmed a others → ℕ
  old_place n = old_rank (old_label a others n)

  abbrev new_place : Trimmed a others → ℕ
  new_place n = new_rank (new_label a others n)

  old_counted : Counts old_place 0 (untrimmed_nodes a others) (3 + length lanes)
  old_counted = (refl, (refl, (refl, counts_each old_place lanes exit 3 (λ l. omega arith))))

  new_counted : Counts new_place 0 (trimmed_nodes a others) (2 + length lanes)
  new_counted = (refl, (refl, counts_each new_place lanes new_exit 2 (λ l. omega arith)))

  number_few : others ≤ 63 → (l : Output a others) → number lanes l ≤ 64
  number_few few l = let less = before_less lanes l in let is = long in omega (arith, less, is, few)

  module _ (f s : Name) (few : others ≤ 63) where
    old_fits : (n : Untrimmed a others) → Fits true (trim_names f s) (old_label a others n)
    old_fits entry = (refl, omega arith)
    old_fits fork = omega arith
    old_fits sink = omega arith
    old_fits (exit l) = (refl, number_few few l)

    new_fits : (n : Trimmed a others) → Fits false (trim_names f s) (new_label a others n)
    new_fits new_entry = (refl, omega arith)
    new_fits new_fork = (refl, refl, omega arith)
    new_fits (new_exit l) = (refl, number_few few l)

  item_is : (l : Output a others) → item lanes l ≡ a
  item_is l = copied others l
    where
      copied : (count : ℕ) (l : Output a count) → item (replicate count a) l ≡ a
      copied zero l = elim l [ ]
      copied (suc count) first = refl
      copied (suc count) (later l) = copied count l

  -- the lists that are made are those of the drawings
  abbrev old_wire : Output a (suc others) → Output a others → DrawnWire (Untrimmed a others)
  old_wire output l = wire fork (number (replicate (suc others) a) (other_than a others output l)) (exit l) 1

  abbrev new_wire : Output a others → DrawnWire (Trimmed a others)
  new_wire l = wire new_fork (number lanes l) (new_exit l) 1

  pub old_ends_are : (output : Output a (suc others)) (port : ℕ) → number (replicate (suc others) a) output ≡ port →
      old_ends others port ≡ ends_of (untrimmed a others output) old_place
  old_ends_are output port is =
      ap (old_ends others) (sym is)
      ∙ ap (λ z. (Fresh 0 1, Fresh 1 1) ∷ (Fresh 1 (number (replicate (suc others) a) output), Fresh 2 1) ∷ z)
      (ap (row_wires (PortsBut 1 (number (replicate (suc others) a) output)) (Nodes 3 1) 0) (sym long) ∙ labelled.row_ends old_place lanes (PortsBut 1 (number (replicate (suc others) a) output)) (Nodes 3 1) (old_wire output) same)
    where
      same : (l : Output a others) → wire_at (PortsBut 1 (number (replicate (suc others) a) output)) (Nodes 3 1) (before lanes l) ≡ labelled.wire_ends old_place (old_wire output l)
      same l = let stands : 3 + before lanes l ≡ suc (before lanes l) + 2 = omega arith in λ i. (Fresh 1 (other_number a others output l i), Fresh (stands i) 1)

  pub new_ends_are : new_ends others ≡ ends_of (trimmed a others) new_place
  new_ends_are = ap (λ z. (Fresh 0 1, Fresh 1 1) ∷ z) (ap (row_wires (Ports 1) (Nodes 2 1) 0) (sym long) ∙ labelled.row_ends new_place lanes (Ports 1) (Nodes 2 1) new_wire same)
    where
      same : (l : Output a others) → wire_at (Ports 1) (Nodes 2 1) (before lanes l) ≡ labelled.wire_ends new_place (new_wire l)
      same l =
          let stands : 2 + before lanes l ≡ suc (suc (before lanes l)) = omega arith in
          let leaves : before lanes l + 1 ≡ suc (before lanes l) = omega arith in
          λ i. (Fresh 1 (leaves i), Fresh (stands i) 1)

  old_rises : (output : Output a (suc others)) → Rises (λ w. old_place w.target.at) 0 (untrimmed_wires a others output) (3 + length lanes)
  old_rises output = (omega arith, (omega arith, rises_each (λ (w : DrawnWire (Untrimmed a others)). old_place w.target.at) lanes (old_wire output) 3 (λ l. omega arith)))

  new_rises : Rises (λ w. new_place w.target.at) 0 (trimmed_wires a others) (2 + length lanes)
  new_rises = (omega arith, rises_each (λ (w : DrawnWire (Trimmed a others)). new_place w.target.at) lanes new_wire 2 (λ l. omega arith))

module _ (prefix ends : ℕ) (f s : Name) (a : Shape) (others : ℕ) (output : Output a (suc others)) where
  pub old_nodes_are : old_list ends f s a others ≡ nodes_of (untrimmed a others output) (old_name prefix ends f s a others)
  old_nodes_are =
      ap (λ z. end_node Entry ends (codes "e") 0 a ∷ bare_node f (Fork a (suc others)) ∷ bare_node s (Sink0 a) ∷ z)
      (ends_each Exit ends (codes "x") (lanes a others) exit (λ n. bare_node (old_name prefix ends f s a others n) (untrimmed_kind a others n)) (λ l. ap (end_node Exit ends (codes "x") (number (lanes a others) l)) (item_is a others l)))

  pub new_nodes_are : new_list prefix ends a others ≡ nodes_of (trimmed a others) (new_name prefix ends f s a others)
  new_nodes_are =
      ap (λ z. end_node Entry ends (codes "e") 0 a ∷ bare_node (prefix_text prefix ++ codes "trim") (Fork a others) ∷ z)
      (ends_each Exit ends (codes "x") (lanes a others) new_exit (λ n. bare_node (new_name prefix ends f s a others n) (trimmed_kind a others n)) (λ l. ap (end_node Exit ends (codes "x") (number (lanes a others) l)) (item_is a others l)))

  module _ (free : AreFree prefix ends (trim_names f s)) (few : others ≤ 63) where
    pub old_once : NoneTwice (map (old_name prefix ends f s a others) (untrimmed_nodes a others))
    old_once = labelled.once (untrimmed a others output) (old_label a others) true prefix ends (trim_names f s) free (old_in a others) (old_fits a others f s few) old_rank (3 + length (lanes a others)) (old_counted a others)

    pub new_once : NoneTwice (map (new_name prefix ends f s a others) (trimmed_nodes a others))
    new_once = labelled.once (trimmed a others) (new_label a others) false prefix ends (trim_names f s) free (new_in a others) (new_fits a others f s few) new_rank (2 + length (lanes a others)) (new_counted a others)

    pub trim_names_ok : TrimNames a others (old_name prefix ends f s a others) (new_name prefix ends f s a others)
    trim_names_ok = record { old_names = old_once; new_names = new_once; same_entry = refl; same_exits = λ l. refl }

    pub old_targets : AllDiffer (map (port_named (old_name prefix ends f s a others)) (map (λ w. w.target) (untrimmed_wires a others output)))
    old_targets = rising_targets (old_name prefix ends f s a others) (untrimmed_nodes a others) (old_in a others) old_once (λ p. old_place a others p.at) 0 (3 + length (lanes a others)) (untrimmed_wires a others output) (old_rises a others output)

    new_targets : AllDiffer (map (port_named (new_name prefix ends f s a others)) (map (λ w. w.target) (trimmed_wires a others)))
    new_targets = rising_targets (new_name prefix ends f s a others) (trimmed_nodes a others) (new_in a others) new_once (λ p. new_place a others p.at) 0 (2 + length (lanes a others)) (trimmed_wires a others) (new_rises a others)

    module _ (law : TrimForkIsRule) (can : CanTrim a others) where
      module _ (nodes : List Node) (wires : List (End × End)) (same_nodes : nodes ≡ nodes_of (untrimmed a others output) (old_name prefix ends f s a others)) (same_wires : wires ≡ ends_of (untrimmed a others output) (old_place a others)) where
        pub left_made : CanMake nodes wires
        left_made =
            labelled.made (untrimmed a others output) (old_label a others) true prefix ends (trim_names f s) free (old_in a others) (old_fits a others f s few) old_rank (3 + length (lanes a others)) (old_counted a others)
            nodes wires same_nodes same_wires (law a others output (old_name prefix ends f s a others) (new_name prefix ends f s a others) can trim_names_ok).old_typed old_targets

        pub left_drawn : rule_graph nodes wires ≡ untrimmed_graph a others output (old_name prefix ends f s a others)
        left_drawn =
            labelled.is_drawn (untrimmed a others output) (old_label a others) true prefix ends (trim_names f s) free (old_in a others) (old_fits a others f s few) old_rank (3 + length (lanes a others)) (old_counted a others)
            nodes wires same_nodes same_wires (law a others output (old_name prefix ends f s a others) (new_name prefix ends f s a others) can trim_names_ok).old_typed old_targets

      module _ (nodes : List Node) (wires : List (End × End)) (same_nodes : nodes ≡ nodes_of (trimmed a others) (new_name prefix ends f s a others)) (same_wires : wires ≡ ends_of (trimmed a others) (new_place a others)) where
        pub right_made : CanMake nodes wires
        right_made =
            labelled.made (trimmed a others) (new_label a others) false prefix ends (trim_names f s) free (new_in a others) (new_fits a others f s few) new_rank (2 + length (lanes a others)) (new_counted a others)
            nodes wires same_nodes same_wires (law a others output (old_name prefix ends f s a others) (new_name prefix ends f s a others) can trim_names_ok).new_typed new_targets

        pub right_drawn : rule_graph nodes wires ≡ trimmed_graph a others (new_name prefix ends f s a others)
        right_drawn =
            labelled.is_drawn (trimmed a others) (new_label a others) false prefix ends (trim_names f s) free (new_in a others) (new_fits a others f s few) new_rank (2 + length (lanes a others)) (new_counted a others)
            nodes wires same_nodes same_wires (law a others output (old_name prefix ends f s a others) (new_name prefix ends f s a others) can trim_names_ok).new_typed new_targets

few_others : (others : ℕ) → suc others ≤ 64 → others ≤ 63
few_others others h = omega (arith, h)

-- the rule meets what a rule owes
pub sound : TrimForkIsRule → TrimForkRefines → TrimForkIsSound
sound rule refines prefix ends f s a others output free can =
    let names = trim_names_ok prefix ends f s a others output free (few_others others can.few) in
    record {
      is_rule = rule a others output (old_name prefix ends f s a others) (new_name prefix ends f s a others) can names;
      refines = refines a others output (old_name prefix ends f s a others) (new_name prefix ends f s a others) can names;
    }

-- What is made

module _ (law : TrimForkIsRule) (prefix ends : ℕ) (f s : Name) (a : Shape) (others port : ℕ) (h : CanTrimSides prefix ends f s a others port) (nodes : List Node) (wires : List (End × End)) where
  module _ (is_nodes : nodes ≡ old_list ends f s a others) (is_wires : wires ≡ old_ends others port) where
    pub can_left : CanMake nodes wires
    can_left =
        left_made prefix ends f s a others h.output h.free (few_others others h.can.few) law h.can nodes wires
        (is_nodes ∙ old_nodes_are prefix ends f s a others h.output) (is_wires ∙ old_ends_are a others h.output port h.is_output)

    pub left_is : (output : Output a (suc others)) → number (replicate (suc others) a) output ≡ port → rule_graph nodes wires ≡ untrimmed_graph a others output (old_name prefix ends f s a others)
    left_is output is =
        left_drawn prefix ends f s a others output h.free (few_others others h.can.few) law h.can nodes wires
        (is_nodes ∙ old_nodes_are prefix ends f s a others output) (is_wires ∙ old_ends_are a others output port is)

  module _ (is_nodes : nodes ≡ new_list prefix ends a others) (is_wires : wires ≡ new_ends others) where
    pub can_right : CanMake nodes wires
    can_right =
        right_made prefix ends f s a others h.output h.free (few_others others h.can.few) law h.can nodes wires
        (is_nodes ∙ new_nodes_are prefix ends f s a others h.output) (is_wires ∙ new_ends_are a others)

    pub right_is : rule_graph nodes wires ≡ trimmed_graph a others (new_name prefix ends f s a others)
    right_is =
        right_drawn prefix ends f s a others h.output h.free (few_others others h.can.few) law h.can nodes wires
        (is_nodes ∙ new_nodes_are prefix ends f s a others h.output) (is_wires ∙ new_ends_are a others)
