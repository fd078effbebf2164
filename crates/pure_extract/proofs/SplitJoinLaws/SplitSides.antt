-- The two graphs of the rule can be made.
use Rattle.std.proofs.Common.{◌≡◌, ◌≢◌, ℕ, suc, ◌+◌, Bool, true, false, ◌||◌, if◌then◌else◌, bytes_eq, codes, length, map, List, ◌∷◌, Some, refl, sym, ap, subst, ◌∙◌, arith}
use Rattle.std.specs.List.{concat, slice_get}
use Rattle.components.specs.declared.node.Node.{Node}
use Rattle.components.specs.Name.{Name, IsName}
use Rattle.components.specs.Kind.{Shape}
use Rattle.graph_core.specs.declared.exchange.End.{End}
use Rattle.graph_core.specs.declared.exchange.End.TheVariants.{Fresh}
use Rattle.circuits.specs.Replacing.{In, head, tail}
use Rattle.circuit_plans.specs.Drawing.{DrawnWire, port_named, wire}
use Rattle.circuit_plans.specs.Places.{Place, before, number}
use Rattle.lane_laws.specs.SplitJoin.{SplitJoined, entry, split, join, exit, split_joined, split_joined_nodes, split_joined_wires, split_joined_graph}
use Rattle.lane_laws.specs.Laws.{SplitJoinIsRule}
use Rattle.subst_engine.specs.Making.{AllDiffer, CanMake, rule_graph}
use Rattle.drawn_rules.specs.declared.rows.Row.TheVariants.{Ports}
use Rattle.drawn_rules.specs.Sides.{nodes_of, ends_of}
use Rattle.drawn_rules.proofs.DrawnMade.{rising_targets, can_make, made_is}
use Rattle.drawn_rules.proofs.Labelled.{row_ends, wire_ends}
use Rattle.drawn_rules.proofs.NewNames.{word_name}
use Rattle.drawn_rules.proofs.Places.{Rises, rises_each}
use Rattle.drawn_rules.proofs.RowPlaces.{wire_at}
use Rattle.pure_extract.specs.SplitJoin.{side_name}
use Rattle.pure_extract.specs.SplitJoinSides.{CanSplitSides, split_nodes, straight_nodes, split_ends}
use Rattle.pure_extract.proofs.DropBufferLaws.Sides.{can_make_right, right_wires}
use Rattle.pure_extract.proofs.SplitJoinLaws.SideNames.{ends_apart, names_once}

pub old_in : (n : SplitJoined) → In n split_joined_nodes
old_in entry = head refl
old_in split = tail (head refl)
old_in join = tail (tail (head refl))
old_in exit = tail (tail (tail (head refl)))

abbrev pub old_place : SplitJoined → ℕ
old_place entry = 0
old_place split = 1
old_place join = 2
old_place exit = 3

old_stands : (n : SplitJoined) → slice_get split_joined_nodes (old_place n) ≡ Some n
old_stands entry = refl
old_stands split = refl
old_stands join = refl
old_stands exit = refl

-- the inputs, in the order of the wires into them
abbrev input_rank : SplitJoined → ℕ → ℕ
input_rank entry port = 0
input_rank split port = 0
input_rank exit port = 1
input_rank join port = suc port

-- The names are allowed

chosen_name : (t u : Bool) (first second third : Name) → IsName first → IsName second → IsName third → IsName (if t then (if u then third else second) else first)
chosen_name false u first second third a b c = a
chosen_name true false first second third a b c = b
chosen_name true true first second third a b c = c

module _ (s j : Name) where
  pub entry_is_name : IsName (side_name s j entry)
  entry_is_name =
      chosen_name (bytes_eq s (codes "in") || bytes_eq j (codes "in")) (bytes_eq s (codes "from") || bytes_eq j (codes "from")) (codes "in") (codes "from") (codes "a")
      (word_name (codes "in") refl (omega arith) (omega arith)) (word_name (codes "from") refl (omega arith) (omega arith)) (word_name (codes "a") refl (omega arith) (omega arith))

  pub exit_is_name : IsName (side_name s j exit)
  exit_is_name =
      chosen_name (bytes_eq s (codes "out") || bytes_eq j (codes "out")) (bytes_eq s (codes "to") || bytes_eq j (codes "to")) (codes "out") (codes "to") (codes "z")
      (word_name (codes "out") refl (omega arith) (omega arith)) (word_name (codes "to") refl (omega arith) (omega arith)) (word_name (codes "z") refl (omega arith) (omega arith))

  allowed : IsName s → IsName j → (n : SplitJoined) → IsName (side_name s j n)
  allowed split_name join_name entry = entry_is_name
  allowed split_name join_name split = split_name
  allowed split_name join_name join = join_name
  allowed split_name join_name exit = exit_is_name

  module _ (parts : List Shape) where
    abbrev pub lane : Place parts → DrawnWire SplitJoined
    lane l = wire split (number parts l) join (number parts l)

    rises : Rises (λ w. input_rank w.target.at w.target.port) 0 (split_joined_wires parts) (2 + length parts)
    rises = (omega arith, (omega arith, rises_each (λ (w : DrawnWire SplitJoined). input_rank w.target.at w.target.port) parts lane 2 (λ l. omega arith)))

    pub targets : s ≢ j → AllDiffer (map (port_named (side_name s j)) (map (λ w. w.target) (split_joined_wires parts)))
    targets apart = rising_targets (side_name s j) split_joined_nodes old_in (names_once s j apart) (λ p. input_rank p.at p.port) 0 (2 + length parts) (split_joined_wires parts) rises

    -- the wires as a list
    ends_are : split_ends parts ≡ ends_of (split_joined parts) old_place
    ends_are = ap (λ z. (Fresh 0 1, Fresh 1 1) ∷ (Fresh 2 1, Fresh 3 1) ∷ z) (row_ends old_place parts (Ports 1) (Ports 2) lane same)
      where
        same : (l : Place parts) → wire_at (Ports 1) (Ports 2) (before parts l) ≡ wire_ends old_place (lane l)
        same l = let next : before parts l + 1 ≡ suc (before parts l) = omega arith in λ i. (Fresh 1 (next i), Fresh 2 (next i))

    module _ (h : CanSplitSides s j parts) (nodes : List Node) (wires : List (End × End)) where
      module _ (law : SplitJoinIsRule) (is_nodes : nodes ≡ split_nodes s j parts) (is_wires : wires ≡ split_ends parts) where
        pub can_left : CanMake nodes wires
        can_left =
            subst (λ z. CanMake z wires) (sym is_nodes)
            (subst (CanMake (nodes_of (split_joined parts) (side_name s j))) (sym (is_wires ∙ ends_are))
            (can_make (split_joined parts) (side_name s j) old_in (names_once s j h.apart) (allowed h.split_name h.join_name) (law parts (side_name s j) h.are (names_once s j h.apart)).old_typed (targets h.apart) old_place old_stands))

        pub left_is : rule_graph nodes wires ≡ split_joined_graph parts (side_name s j)
        left_is =
            (λ i. rule_graph (is_nodes i) ((is_wires ∙ ends_are) i))
            ∙ made_is (split_joined parts) (side_name s j) old_in (names_once s j h.apart) (allowed h.split_name h.join_name) (law parts (side_name s j) h.are (names_once s j h.apart)).old_typed (targets h.apart) old_place old_stands

      module _ (is_nodes : nodes ≡ straight_nodes s j parts) (is_wires : wires ≡ right_wires) where
        pub can_right : CanMake nodes wires
        can_right =
            subst (λ z. CanMake z wires) (sym is_nodes)
            (subst (CanMake (straight_nodes s j parts)) (sym is_wires)
            (can_make_right (side_name s j entry) (side_name s j exit) (concat parts) (λ e. ends_apart s j (sym e)) entry_is_name exit_is_name h.are.whole))
