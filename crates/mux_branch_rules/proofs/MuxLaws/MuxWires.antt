-- The lists of wires that the two graphs are made of.
use Rattle.std.proofs.Common.{◌≡◌, ℕ, suc, ◌+◌, ◌*◌, ◌<◌, ◌≤◌, Bool, true, false, ◌==◌, if◌then◌else◌, drop, take, length, map, get_or, List, [], ◌∷◌, ◌++◌, Option, Some, None, refl, sym, ap, ◌∙◌, append_assoc, arith}
use Rattle.std.proofs.lemmas.List.{get_or-drop, get_or-take, length-drop, length-take-le}
use Rattle.components.specs.declared.kind.Kind.{Kind}
use Rattle.components.specs.Kind.{Shape}
use Rattle.graph_core.specs.declared.exchange.End.{End}
use Rattle.graph_core.specs.declared.exchange.End.TheVariants.{Fresh}
use Rattle.circuit_plans.specs.Plans.{Out}
use Rattle.circuit_plans.specs.Drawing.{DrawnWire, wire}
use Rattle.circuit_plans.specs.Places.{Place, first, later, before, number, each_of}
use Rattle.lane_laws.specs.CombineMuxes.{Tree, into, select, leader, Muxes, choice, node, value2, value3, mux, out, muxes, muxes_wires, OneMux, new_choice, new_join2, new_join3, new_mux, new_split, new_value2, new_value3, new_out, one_mux, one_mux_wires}
use Rattle.drawn_rules.specs.declared.rows.Row.TheVariants.{Nodes, Ports}
use Rattle.drawn_rules.specs.Rows.{row_wires}
use Rattle.drawn_rules.specs.Sides.{end_at, ends_of}
use Rattle.drawn_rules.proofs.Labelled.{map_both, row_ends, wire_ends}
use Rattle.drawn_rules.proofs.Places.{Rises, rises_both, rises_each, each_next, before_less}
use Rattle.mux_branch_rules.specs.declared.mux_tree.Source.{Source}
use Rattle.mux_branch_rules.specs.declared.mux_tree.Source.TheVariants.{Outside, Output}
use Rattle.mux_branch_rules.specs.MuxSides.{HasSources, source_of, source_end, source_wires, mux_old_ends, mux_new_ends}
use Rattle.mux_branch_rules.proofs.MuxLaws.MuxNodes.{old_place, new_place, node_place, mux_place}

-- wires into the first inputs of a family
sources_each : {A N : Type 0} (place : N → ℕ) (xs : List A) (low : ℕ) (sources : List Source) (made : Place xs → DrawnWire N) → length sources ≡ length xs →
    ((l : Place xs) → (source_end (get_or sources (before xs l) Outside), Fresh (low + before xs l) 1) ≡ wire_ends place (made l)) →
    source_wires low sources ≡ map (wire_ends place) (each_of xs made)
sources_each place [] low [] made long h = refl
sources_each place [] low (s ∷ sources) made long h = absurd (omega (arith, long))
sources_each place (x ∷ xs) low [] made long h = absurd (omega (arith, long))
sources_each place (x ∷ xs) low (s ∷ sources) made long h =
    (λ i. (ap (λ z. (source_end s, Fresh z 1)) here ∙ h first) i ∷
    sources_each place xs (suc low) sources (λ l. made (later l)) (omega (arith, long)) (λ l. ap (λ z. (source_end (get_or sources (before xs l) Outside), Fresh z 1)) (further l) ∙ h (later l)) i)
    ∙ ap (map (wire_ends place)) (sym (each_next x xs made))
  where
    here : low ≡ low + 0
    here = omega arith

    further : (l : Place xs) → suc low + before xs l ≡ low + suc (before xs l)
    further l = omega arith

regroup3 : (a b c d : List (End × End)) → ((a ++ b) ++ c) ++ d ≡ a ++ (b ++ (c ++ d))
regroup3 a b c d = append_assoc (a ++ b) c d ∙ append_assoc a b (c ++ d)

regroup4 : (a b c d e : List (End × End)) → (((a ++ b) ++ c) ++ d) ++ e ≡ a ++ (b ++ (c ++ (d ++ e)))
regroup4 a b c d e = append_assoc ((a ++ b) ++ c) d e ∙ regroup3 a b c (d ++ e)

map3 : {W : Type 0} (made : W → End × End) (a b c : List W) → map made (a ++ (b ++ c)) ≡ map made a ++ (map made b ++ map made c)
map3 made a b c = map_both made a (b ++ c) ∙ ap (λ z. map made a ++ z) (map_both made b c)

map5 : {W : Type 0} (made : W → End × End) (a b c d e : List W) → map made (a ++ (b ++ (c ++ (d ++ e)))) ≡ map made a ++ (map made b ++ (map made c ++ (map made d ++ map made e)))
map5 made a b c d e =
    map_both made a (b ++ (c ++ (d ++ e))) ∙ ap (λ z. map made a ++ z) (map_both made b (c ++ (d ++ e)) ∙ ap (λ z. map made b ++ z) (map3 made c d e))

module _ (kinds : List Kind) (lanes : List Shape) where
  abbrev k : ℕ
  k = length kinds

  abbrev n : ℕ
  n = length lanes

  leader_end : (o : Option (Out (Place kinds))) → source_end (source_of kinds o) ≡ end_at (old_place kinds lanes) (leader o)
  leader_end None = refl
  leader_end (Some q) = ap (λ z. Fresh z q.port) same
    where
      same : before kinds q.at + 1 ≡ old_place kinds lanes (node q.at)
      same = let is = node_place kinds lanes q.at in omega (arith, is)

  module _ (tree : Tree kinds lanes) (sources : List Source) (has : HasSources tree sources) where
    abbrev old1 : Place kinds → DrawnWire (Muxes kinds lanes)
    old1 m = record { source = leader (tree.source (into m)); target = record { at = node m; port = 1 } }

    abbrev old2 : Place lanes → DrawnWire (Muxes kinds lanes)
    old2 l = record { source = leader (tree.source (select l)); target = record { at = mux l; port = 1 } }

    abbrev old3 : Place lanes → DrawnWire (Muxes kinds lanes)
    old3 l = wire (value2 l) 1 (mux l) 2

    abbrev old4 : Place lanes → DrawnWire (Muxes kinds lanes)
    old4 l = wire (value3 l) 1 (mux l) 3

    abbrev old5 : Place lanes → DrawnWire (Muxes kinds lanes)
    old5 l = wire (mux l) 1 (out l) 1

    few_kinds : k ≤ length sources
    few_kinds = let long = has.long in omega (arith, long)

    in_tree : (m : Place kinds) → get_or (take k sources) (before kinds m) Outside ≡ source_of kinds (tree.source (into m))
    in_tree m = get_or-take k sources (before kinds m) Outside (before_less kinds m) ∙ has.are (into m)

    in_lanes : (l : Place lanes) → get_or (drop k sources) (before lanes l) Outside ≡ source_of kinds (tree.source (select l))
    in_lanes l = get_or-drop k sources (before lanes l) Outside ∙ has.are (select l)

    tree_wires : source_wires 1 (take k sources) ≡ map (wire_ends (old_place kinds lanes)) (each_of kinds old1)
    tree_wires =
        sources_each (old_place kinds lanes) kinds 1 (take k sources) old1 (length-take-le k sources few_kinds)
        (λ m i. ((ap source_end (in_tree m) ∙ leader_end (tree.source (into m))) i, Fresh (sym (node_place kinds lanes m) i) 1))

    lane_wires : source_wires ((1 + k) + 2 * n) (drop k sources) ≡ map (wire_ends (old_place kinds lanes)) (each_of lanes old2)
    lane_wires =
        sources_each (old_place kinds lanes) lanes ((1 + k) + 2 * n) (drop k sources) old2 (let cut = length-drop k sources in let long = has.long in omega (arith, cut, long))
        (λ l i. ((ap source_end (in_lanes l) ∙ leader_end (tree.source (select l))) i, Fresh (at_mux l i) 1))
      where
        at_mux : (l : Place lanes) → ((1 + k) + 2 * n) + before lanes l ≡ old_place kinds lanes (mux l)
        at_mux l = let is = mux_place kinds lanes l in omega (arith, is)

    old_rows : source_wires 1 (take k sources) ++ (source_wires ((1 + k) + 2 * n) (drop k sources) ++ (row_wires (Nodes (1 + k) 1) (Nodes ((1 + k) + 2 * n) 2) 0 n ++
        (row_wires (Nodes ((1 + k) + n) 1) (Nodes ((1 + k) + 2 * n) 3) 0 n ++ row_wires (Nodes ((1 + k) + 2 * n) 1) (Nodes ((1 + k) + 3 * n) 1) 0 n))) ≡
        map (wire_ends (old_place kinds lanes)) (each_of kinds old1 ++ (each_of lanes old2 ++ (each_of lanes old3 ++ (each_of lanes old4 ++ each_of lanes old5))))
    old_rows =
        (λ i. tree_wires i ++ (lane_wires i ++ (row_ends (old_place kinds lanes) lanes (Nodes (1 + k) 1) (Nodes ((1 + k) + 2 * n) 2) old3 (λ l i. (Fresh (at_value2 l i) 1, Fresh (at_mux l i) 2)) i ++
        (row_ends (old_place kinds lanes) lanes (Nodes ((1 + k) + n) 1) (Nodes ((1 + k) + 2 * n) 3) old4 (λ l i. (Fresh (at_value3 l i) 1, Fresh (at_mux l i) 3)) i ++
        row_ends (old_place kinds lanes) lanes (Nodes ((1 + k) + 2 * n) 1) (Nodes ((1 + k) + 3 * n) 1) old5 (λ l i. (Fresh (at_mux l i) 1, Fresh (at_out l i) 1)) i))))
        ∙ sym (map5 (wire_ends (old_place kinds lanes)) (each_of kinds old1) (each_of lanes old2) (each_of lanes old3) (each_of lanes old4) (each_of lanes old5))
      where
        at_value2 : (l : Place lanes) → (1 + k) + before lanes l ≡ old_place kinds lanes (value2 l)
        at_value2 l = omega arith

        at_value3 : (l : Place lanes) → ((1 + k) + n) + before lanes l ≡ old_place kinds lanes (value3 l)
        at_value3 l = omega arith

        at_mux : (l : Place lanes) → ((1 + k) + 2 * n) + before lanes l ≡ old_place kinds lanes (mux l)
        at_mux l = let is = mux_place kinds lanes l in omega (arith, is)

        at_out : (l : Place lanes) → ((1 + k) + 3 * n) + before lanes l ≡ old_place kinds lanes (out l)
        at_out l = omega arith

    pub old_ends_are : mux_old_ends k n sources ≡ ends_of (muxes kinds lanes tree) (old_place kinds lanes)
    old_ends_are =
        regroup4 (source_wires 1 (take k sources)) (source_wires ((1 + k) + 2 * n) (drop k sources)) (row_wires (Nodes (1 + k) 1) (Nodes ((1 + k) + 2 * n) 2) 0 n)
        (row_wires (Nodes ((1 + k) + n) 1) (Nodes ((1 + k) + 2 * n) 3) 0 n) (row_wires (Nodes ((1 + k) + 2 * n) 1) (Nodes ((1 + k) + 3 * n) 1) 0 n)
        ∙ old_rows

-- those of the new graph

module _ (kinds : List Kind) (lanes : List Shape) where
  abbrev new1 : Place lanes → DrawnWire (OneMux lanes)
  new1 l = wire (new_value2 l) 1 new_join2 (number lanes l)

  abbrev new2 : Place lanes → DrawnWire (OneMux lanes)
  new2 l = wire (new_value3 l) 1 new_join3 (number lanes l)

  abbrev new3 : Place lanes → DrawnWire (OneMux lanes)
  new3 l = wire new_split (number lanes l) (new_out l) 1

  abbrev pub new_rank_in : OneMux lanes → ℕ → ℕ
  new_rank_in new_choice port = 0
  new_rank_in new_join2 port = 4 + port
  new_rank_in new_join3 port = (4 + length lanes) + port
  new_rank_in new_mux port = port
  new_rank_in new_split port = 4
  new_rank_in (new_value2 l) port = 0
  new_rank_in (new_value3 l) port = 0
  new_rank_in (new_out l) port = ((5 + length lanes) + length lanes) + before lanes l

  abbrev pub new_top : ℕ
  new_top = ((5 + length lanes) + length lanes) + length lanes

  abbrev new_into : DrawnWire (OneMux lanes) → ℕ
  new_into w = new_rank_in w.target.at w.target.port

  new_lanes_rise : Rises new_into 5 (each_of lanes new1 ++ (each_of lanes new2 ++ each_of lanes new3)) new_top
  new_lanes_rise =
      rises_both new_into 5 (5 + length lanes) new_top (each_of lanes new1) _ (rises_from_each new1 5 (λ l. omega arith))
      (rises_both new_into (5 + length lanes) ((5 + length lanes) + length lanes) new_top (each_of lanes new2) (each_of lanes new3)
      (rises_from_each new2 (5 + length lanes) (λ l. omega arith)) (rises_from_each new3 ((5 + length lanes) + length lanes) (λ l. refl)))
    where
      rises_from_each : (f : Place lanes → DrawnWire (OneMux lanes)) (low : ℕ) → ((l : Place lanes) → new_into (f l) ≡ low + before lanes l) → Rises new_into low (each_of lanes f) (low + length lanes)
      rises_from_each f low h = rises_each new_into lanes f low h

  pub new_rises : Rises (λ w. new_rank_in w.target.at w.target.port) 0 (one_mux_wires lanes) new_top
  new_rises = (omega arith, (omega arith, (omega arith, (omega arith, new_lanes_rise))))

  new_rows : (goes_back : Bool) → row_wires (Nodes 5 1) (Ports (new_place kinds lanes goes_back new_join2)) 0 (length lanes) ++
      (row_wires (Nodes (5 + length lanes) 1) (Ports (new_place kinds lanes goes_back new_join3)) 0 (length lanes) ++ row_wires (Ports 4) (Nodes (5 + 2 * length lanes) 1) 0 (length lanes)) ≡
      map (wire_ends (new_place kinds lanes goes_back)) (each_of lanes new1 ++ (each_of lanes new2 ++ each_of lanes new3))
  new_rows goes_back =
      (λ i. row_ends (new_place kinds lanes goes_back) lanes (Nodes 5 1) (Ports (new_place kinds lanes goes_back new_join2)) new1 (λ l i. (Fresh (at_value2 l i) 1, Fresh (new_place kinds lanes goes_back new_join2) (at_number l i))) i ++
      (row_ends (new_place kinds lanes goes_back) lanes (Nodes (5 + length lanes) 1) (Ports (new_place kinds lanes goes_back new_join3)) new2 (λ l i. (Fresh (at_value3 l i) 1, Fresh (new_place kinds lanes goes_back new_join3) (at_number l i))) i ++
      row_ends (new_place kinds lanes goes_back) lanes (Ports 4) (Nodes (5 + 2 * length lanes) 1) new3 (λ l i. (Fresh 4 (at_number l i), Fresh (at_out l i) 1)) i))
      ∙ sym (map3 (wire_ends (new_place kinds lanes goes_back)) (each_of lanes new1) (each_of lanes new2) (each_of lanes new3))
    where
      at_value2 : (l : Place lanes) → 5 + before lanes l ≡ 4 + suc (before lanes l)
      at_value2 l = omega arith

      at_value3 : (l : Place lanes) → (5 + length lanes) + before lanes l ≡ (4 + length lanes) + suc (before lanes l)
      at_value3 l = omega arith

      at_number : (l : Place lanes) → before lanes l + 1 ≡ suc (before lanes l)
      at_number l = omega arith

      at_out : (l : Place lanes) → (5 + 2 * length lanes) + before lanes l ≡ (4 + 2 * length lanes) + suc (before lanes l)
      at_out l = omega arith

  pub new_ends_are : (goes_back : Bool) → mux_new_ends (length lanes) ≡ ends_of (one_mux lanes) (new_place kinds lanes goes_back)
  new_ends_are true =
      regroup3 ((Fresh 0 1, Fresh 3 1) ∷ (Fresh 1 1, Fresh 3 2) ∷ (Fresh 2 1, Fresh 3 3) ∷ (Fresh 3 1, Fresh 4 1) ∷ [])
      (row_wires (Nodes 5 1) (Ports 1) 0 (length lanes)) (row_wires (Nodes (5 + length lanes) 1) (Ports 2) 0 (length lanes)) (row_wires (Ports 4) (Nodes (5 + 2 * length lanes) 1) 0 (length lanes))
      ∙ ap (λ z. (Fresh 0 1, Fresh 3 1) ∷ (Fresh 1 1, Fresh 3 2) ∷ (Fresh 2 1, Fresh 3 3) ∷ (Fresh 3 1, Fresh 4 1) ∷ z) (new_rows true)
  new_ends_are false =
      regroup3 ((Fresh 0 1, Fresh 3 1) ∷ (Fresh 1 1, Fresh 3 2) ∷ (Fresh 2 1, Fresh 3 3) ∷ (Fresh 3 1, Fresh 4 1) ∷ [])
      (row_wires (Nodes 5 1) (Ports 1) 0 (length lanes)) (row_wires (Nodes (5 + length lanes) 1) (Ports 2) 0 (length lanes)) (row_wires (Ports 4) (Nodes (5 + 2 * length lanes) 1) 0 (length lanes))
      ∙ ap (λ z. (Fresh 0 1, Fresh 3 1) ∷ (Fresh 1 1, Fresh 3 2) ∷ (Fresh 2 1, Fresh 3 3) ∷ (Fresh 3 1, Fresh 4 1) ∷ z) (new_rows false)
