-- The wires of the two graphs: the inputs that they enter, and the lists that are made of them.
use Rattle.std.proofs.Common.{◌≡◌, ℕ, suc, ◌+◌, ◌*◌, Bool, true, false, ◌==◌, if◌then◌else◌, length, map, List, [], ◌∷◌, ◌++◌, refl, sym, ap, ◌∙◌, append_assoc, arith}
use Rattle.components.specs.Kind.{Shape}
use Rattle.graph_core.specs.declared.exchange.End.{End}
use Rattle.graph_core.specs.declared.exchange.End.TheVariants.{Fresh}
use Rattle.circuit_plans.specs.Drawing.{DrawnWire, wire}
use Rattle.circuit_plans.specs.Places.{Place, before, number, each_of}
use Rattle.lane_laws.specs.CombineBranches.{Branches, condition, fork, passed, value, branch, out1, out2, branches, branches_wires, OneBranch, new_condition, new_fork, new_passed, new_join, new_branch, new_split1, new_split2, new_value, new_out1, new_out2, one_branch, one_branch_wires}
use Rattle.drawn_rules.specs.declared.rows.Row.TheVariants.{Nodes, Ports}
use Rattle.drawn_rules.specs.Rows.{row_wires}
use Rattle.drawn_rules.specs.Sides.{ends_of}
use Rattle.drawn_rules.proofs.Labelled.{map_both, row_ends, wire_ends}
use Rattle.drawn_rules.proofs.Places.{Rises, rises_both, rises_each}
use Rattle.mux_branch_rules.specs.BranchSides.{old_ends, new_ends}
use Rattle.mux_branch_rules.proofs.BranchLaws.BranchNodes.{old_place, new_place}

regroup3 : (a b c d : List (End × End)) → ((a ++ b) ++ c) ++ d ≡ a ++ (b ++ (c ++ d))
regroup3 a b c d = append_assoc (a ++ b) c d ∙ append_assoc a b (c ++ d)

regroup4 : (a b c d e : List (End × End)) → (((a ++ b) ++ c) ++ d) ++ e ≡ a ++ (b ++ (c ++ (d ++ e)))
regroup4 a b c d e = append_assoc ((a ++ b) ++ c) d e ∙ regroup3 a b c (d ++ e)

map3 : {W : Type 0} (made : W → End × End) (a b c : List W) → map made (a ++ (b ++ c)) ≡ map made a ++ (map made b ++ map made c)
map3 made a b c = map_both made a (b ++ c) ∙ ap (λ z. map made a ++ z) (map_both made b c)

map4 : {W : Type 0} (made : W → End × End) (a b c d : List W) → map made (a ++ (b ++ (c ++ d))) ≡ map made a ++ (map made b ++ (map made c ++ map made d))
map4 made a b c d = map_both made a (b ++ (c ++ d)) ∙ ap (λ z. map made a ++ z) (map3 made b c d)

module _ (lanes : List Shape) where
  abbrev old1 : Place lanes → DrawnWire (Branches lanes)
  old1 l = wire (value l) 1 (branch l) 1

  abbrev old2 : Place lanes → DrawnWire (Branches lanes)
  old2 l = wire fork (number lanes l) (branch l) 2

  abbrev old3 : Place lanes → DrawnWire (Branches lanes)
  old3 l = wire (branch l) 1 (out1 l) 1

  abbrev old4 : Place lanes → DrawnWire (Branches lanes)
  old4 l = wire (branch l) 2 (out2 l) 1

  abbrev new1 : Place lanes → DrawnWire (OneBranch lanes)
  new1 l = wire (new_value l) 1 new_join (number lanes l)

  abbrev new2 : Place lanes → DrawnWire (OneBranch lanes)
  new2 l = wire new_split1 (number lanes l) (new_out1 l) 1

  abbrev new3 : Place lanes → DrawnWire (OneBranch lanes)
  new3 l = wire new_split2 (number lanes l) (new_out2 l) 1

  -- the inputs, in the order of the wires into them

  abbrev pub old_rank_in : Branches lanes → ℕ → ℕ
  old_rank_in condition port = 0
  old_rank_in fork port = 0
  old_rank_in passed port = 1
  old_rank_in (value l) port = 0
  old_rank_in (branch l) port = if port == 1 then 2 + before lanes l else (2 + length lanes) + before lanes l
  old_rank_in (out1 l) port = ((2 + length lanes) + length lanes) + before lanes l
  old_rank_in (out2 l) port = (((2 + length lanes) + length lanes) + length lanes) + before lanes l

  abbrev pub new_rank_in : OneBranch lanes → ℕ → ℕ
  new_rank_in new_condition port = 0
  new_rank_in new_fork port = 0
  new_rank_in new_passed port = 1
  new_rank_in new_join port = 5 + port
  new_rank_in new_branch port = 1 + port
  new_rank_in new_split1 port = 4
  new_rank_in new_split2 port = 5
  new_rank_in (new_value l) port = 0
  new_rank_in (new_out1 l) port = (6 + length lanes) + before lanes l
  new_rank_in (new_out2 l) port = ((6 + length lanes) + length lanes) + before lanes l

  abbrev pub old_top : ℕ
  old_top = (((2 + length lanes) + length lanes) + length lanes) + length lanes

  abbrev pub new_top : ℕ
  new_top = ((6 + length lanes) + length lanes) + length lanes

  abbrev old_into : DrawnWire (Branches lanes) → ℕ
  old_into w = old_rank_in w.target.at w.target.port

  abbrev new_into : DrawnWire (OneBranch lanes) → ℕ
  new_into w = new_rank_in w.target.at w.target.port

  pub old_rises : Rises (λ w. old_rank_in w.target.at w.target.port) 0 (branches_wires lanes) old_top
  old_rises = (
    omega arith,
    (
      omega arith,
      rises_both old_into 2 (2 + length lanes) old_top (each_of lanes old1) _ (rises_each old_into lanes old1 2 (λ l. refl))
          (rises_both old_into (2 + length lanes) ((2 + length lanes) + length lanes) old_top (each_of lanes old2) _ (rises_each old_into lanes old2 (2 + length lanes) (λ l. refl))
          (rises_both old_into ((2 + length lanes) + length lanes) (((2 + length lanes) + length lanes) + length lanes) old_top (each_of lanes old3) (each_of lanes old4)
          (rises_each old_into lanes old3 ((2 + length lanes) + length lanes) (λ l. refl)) (rises_each old_into lanes old4 (((2 + length lanes) + length lanes) + length lanes) (λ l. refl)))),
    ),
  )

  new_lanes_rise : Rises new_into 6 (each_of lanes new1 ++ (each_of lanes new2 ++ each_of lanes new3)) new_top
  new_lanes_rise =
      rises_both new_into 6 (6 + length lanes) new_top (each_of lanes new1) _ (rises_each new_into lanes new1 6 (λ l. omega arith))
      (rises_both new_into (6 + length lanes) ((6 + length lanes) + length lanes) new_top (each_of lanes new2) (each_of lanes new3)
      (rises_each new_into lanes new2 (6 + length lanes) (λ l. refl)) (rises_each new_into lanes new3 ((6 + length lanes) + length lanes) (λ l. refl)))

  pub new_rises : Rises (λ w. new_rank_in w.target.at w.target.port) 0 (one_branch_wires lanes) new_top
  new_rises = (omega arith, (omega arith, (omega arith, (omega arith, (omega arith, (omega arith, new_lanes_rise))))))

  -- the lists

  abbrev n : ℕ
  n = length lanes

  old_rows : row_wires (Nodes 3 1) (Nodes (3 + n) 1) 0 n ++ (row_wires (Ports 1) (Nodes (3 + n) 2) 0 n ++ (row_wires (Nodes (3 + n) 1) (Nodes (3 + 2 * n) 1) 0 n ++ row_wires (Nodes (3 + n) 2) (Nodes (3 + 3 * n) 1) 0 n)) ≡
      map (wire_ends (old_place lanes)) (each_of lanes old1 ++ (each_of lanes old2 ++ (each_of lanes old3 ++ each_of lanes old4)))
  old_rows =
      (λ i. row_ends (old_place lanes) lanes (Nodes 3 1) (Nodes (3 + n) 1) old1 (λ l i. (Fresh (omega_value l i) 1, Fresh ((3 + n) + before lanes l) 1)) i ++ (row_ends (old_place lanes) lanes (Ports 1) (Nodes (3 + n) 2) old2 (λ l i. (Fresh 1 (omega_number l i), Fresh ((3 + n) + before lanes l) 2)) i ++
      (row_ends (old_place lanes) lanes (Nodes (3 + n) 1) (Nodes (3 + 2 * n) 1) old3 (λ l i. (Fresh ((3 + n) + before lanes l) 1, Fresh (omega_out1 l i) 1)) i ++ row_ends (old_place lanes) lanes (Nodes (3 + n) 2) (Nodes (3 + 3 * n) 1) old4 (λ l i. (Fresh ((3 + n) + before lanes l) 2, Fresh (omega_out2 l i) 1)) i)))
      ∙ sym (map4 (wire_ends (old_place lanes)) (each_of lanes old1) (each_of lanes old2) (each_of lanes old3) (each_of lanes old4))
    where
      omega_value : (l : Place lanes) → 3 + before lanes l ≡ 2 + suc (before lanes l)
      omega_value l = omega arith

      omega_number : (l : Place lanes) → before lanes l + 1 ≡ suc (before lanes l)
      omega_number l = omega arith

      omega_out1 : (l : Place lanes) → (3 + 2 * n) + before lanes l ≡ (2 + 2 * n) + suc (before lanes l)
      omega_out1 l = omega arith

      omega_out2 : (l : Place lanes) → (3 + 3 * n) + before lanes l ≡ (2 + 3 * n) + suc (before lanes l)
      omega_out2 l = omega arith

  pub old_ends_are : old_ends n ≡ ends_of (branches lanes) (old_place lanes)
  old_ends_are =
      regroup4 ((Fresh 0 1, Fresh 1 1) ∷ (Fresh 1 (n + 1), Fresh 2 1) ∷ []) (row_wires (Nodes 3 1) (Nodes (3 + n) 1) 0 n) (row_wires (Ports 1) (Nodes (3 + n) 2) 0 n)
      (row_wires (Nodes (3 + n) 1) (Nodes (3 + 2 * n) 1) 0 n) (row_wires (Nodes (3 + n) 2) (Nodes (3 + 3 * n) 1) 0 n)
      ∙ (λ i. (Fresh 0 1, Fresh 1 1) ∷ (Fresh 1 (last i), Fresh 2 1) ∷ old_rows i)
    where
      last : n + 1 ≡ suc n
      last = omega arith

  new_rows : (goes_back : Bool) → row_wires (Nodes 7 1) (Ports 3) 0 n ++ (row_wires (Ports (new_place lanes goes_back new_split1)) (Nodes (7 + n) 1) 0 n ++ row_wires (Ports (new_place lanes goes_back new_split2)) (Nodes (7 + 2 * n) 1) 0 n) ≡
      map (wire_ends (new_place lanes goes_back)) (each_of lanes new1 ++ (each_of lanes new2 ++ each_of lanes new3))
  new_rows goes_back =
      (λ i. row_ends (new_place lanes goes_back) lanes (Nodes 7 1) (Ports 3) new1 (λ l i. (Fresh (omega_value l i) 1, Fresh 3 (omega_number l i))) i ++
      (row_ends (new_place lanes goes_back) lanes (Ports (new_place lanes goes_back new_split1)) (Nodes (7 + n) 1) new2 (λ l i. (Fresh (new_place lanes goes_back new_split1) (omega_number l i), Fresh (omega_out1 l i) 1)) i ++
      row_ends (new_place lanes goes_back) lanes (Ports (new_place lanes goes_back new_split2)) (Nodes (7 + 2 * n) 1) new3 (λ l i. (Fresh (new_place lanes goes_back new_split2) (omega_number l i), Fresh (omega_out2 l i) 1)) i))
      ∙ sym (map3 (wire_ends (new_place lanes goes_back)) (each_of lanes new1) (each_of lanes new2) (each_of lanes new3))
    where
      omega_value : (l : Place lanes) → 7 + before lanes l ≡ 6 + suc (before lanes l)
      omega_value l = omega arith

      omega_number : (l : Place lanes) → before lanes l + 1 ≡ suc (before lanes l)
      omega_number l = omega arith

      omega_out1 : (l : Place lanes) → (7 + n) + before lanes l ≡ (6 + n) + suc (before lanes l)
      omega_out1 l = omega arith

      omega_out2 : (l : Place lanes) → (7 + 2 * n) + before lanes l ≡ (6 + 2 * n) + suc (before lanes l)
      omega_out2 l = omega arith

  pub new_ends_are : (goes_back : Bool) → new_ends n ≡ ends_of (one_branch lanes) (new_place lanes goes_back)
  new_ends_are true =
      regroup3 ((Fresh 0 1, Fresh 1 1) ∷ (Fresh 1 2, Fresh 2 1) ∷ (Fresh 3 1, Fresh 4 1) ∷ (Fresh 1 1, Fresh 4 2) ∷ (Fresh 4 1, Fresh 5 1) ∷ (Fresh 4 2, Fresh 6 1) ∷ [])
      (row_wires (Nodes 7 1) (Ports 3) 0 n) (row_wires (Ports 5) (Nodes (7 + n) 1) 0 n) (row_wires (Ports 6) (Nodes (7 + 2 * n) 1) 0 n)
      ∙ ap (λ z. (Fresh 0 1, Fresh 1 1) ∷ (Fresh 1 2, Fresh 2 1) ∷ (Fresh 3 1, Fresh 4 1) ∷ (Fresh 1 1, Fresh 4 2) ∷ (Fresh 4 1, Fresh 5 1) ∷ (Fresh 4 2, Fresh 6 1) ∷ z) (new_rows true)
  new_ends_are false =
      regroup3 ((Fresh 0 1, Fresh 1 1) ∷ (Fresh 1 2, Fresh 2 1) ∷ (Fresh 3 1, Fresh 4 1) ∷ (Fresh 1 1, Fresh 4 2) ∷ (Fresh 4 1, Fresh 5 1) ∷ (Fresh 4 2, Fresh 6 1) ∷ [])
      (row_wires (Nodes 7 1) (Ports 3) 0 n) (row_wires (Ports 5) (Nodes (7 + n) 1) 0 n) (row_wires (Ports 6) (Nodes (7 + 2 * n) 1) 0 n)
      ∙ ap (λ z. (Fresh 0 1, Fresh 1 1) ∷ (Fresh 1 2, Fresh 2 1) ∷ (Fresh 3 1, Fresh 4 1) ∷ (Fresh 1 1, Fresh 4 2) ∷ (Fresh 4 1, Fresh 5 1) ∷ (Fresh 4 2, Fresh 6 1) ∷ z) (new_rows false)
