-- The nodes of the two graphs: their places, their names, and the lists that are made of them.
use Rattle.std.proofs.Common.{◌≡◌, ℕ, zero, suc, ◌+◌, ◌*◌, ◌≤◌, Bool, true, false, ◌==◌, if◌then◌else◌, bytes_eq, codes, length, map, List, [], ◌∷◌, ◌++◌, refl, sym, ap, ◌∙◌, append_assoc, arith}
use Rattle.components.specs.declared.kind.Kind.TheVariants as kind
use Rattle.components.specs.declared.node.Node.{Node}
use Rattle.components.specs.Name.{Name}
use Rattle.components.specs.Kind.{Shape}
use Rattle.circuits.specs.Replacing.{In, head, tail}
use Rattle.circuit_plans.specs.Places.{Place, first, later, item, before, number, each_of}
use Rattle.circuit_plans.proofs.Places.{in_places, in_front, in_back}
use Rattle.lane_laws.specs.CombineBranches.{Branches, condition, fork, passed, value, branch, out1, out2, branches, branches_kind, branches_nodes, OneBranch, new_condition, new_fork, new_passed, new_join, new_branch, new_split1, new_split2, new_value, new_out1, new_out2, one_branch, one_branch_kind, one_branch_nodes}
use Rattle.subst_engine.specs.Making.{bare_node}
use Rattle.drawn_rules.specs.declared.row_ends.EndKind.TheVariants.{Entry, Exit}
use Rattle.drawn_rules.specs.Labels.{Label, listed, ending, fresh, nth}
use Rattle.drawn_rules.specs.RowEnds.{end_nodes}
use Rattle.drawn_rules.specs.Sides.{nodes_of}
use Rattle.drawn_rules.proofs.Labelled.{map_both}
use Rattle.drawn_rules.proofs.Labels.{Fits}
use Rattle.drawn_rules.proofs.Places.{Counts, counts_both, counts_each, before_less, each_next}
use Rattle.drawn_rules.proofs.RowEnds.{ends_each}
use Rattle.mux_branch_rules.specs.BranchCombine.{old_label, new_label, old_name, new_name}
use Rattle.mux_branch_rules.specs.BranchSides.{branch_nodes, old_list, new_list}

-- the places of the nodes, by their labels, for so many lanes

abbrev pub old_rank : ℕ → Label → ℕ
old_rank lanes (listed zero) = 1
old_rank lanes (listed (suc place)) = (3 + lanes) + place
old_rank lanes (ending letter count) =
    if letter == 101 then 0 else (if letter == 120 then 2 else (if letter == 112 then 2 + count else (if letter == 121 then (2 + 2 * lanes) + count else (2 + 3 * lanes) + count)))
old_rank lanes (fresh word) = 0

abbrev pub new_rank : Bool → ℕ → Label → ℕ
new_rank goes_back lanes (listed place) = 0
new_rank goes_back lanes (ending letter count) =
    if letter == 101 then 0 else (if letter == 120 then 2 else (if letter == 112 then 6 + count else (if letter == 121 then (6 + lanes) + count else (6 + 2 * lanes) + count)))
new_rank goes_back lanes (fresh word) =
    if bytes_eq word (codes "cond") then 1 else (if bytes_eq word (codes "data") then 3 else (if bytes_eq word (codes "branch") then 4 else
    (if bytes_eq word (codes "again") then (if goes_back then 5 else 6) else (if goes_back then 6 else 5))))

module _ (lanes : List Shape) where
  pub old_in : (n : Branches lanes) → In n (branches_nodes lanes)
  old_in condition = head refl
  old_in fork = tail (head refl)
  old_in passed = tail (tail (head refl))
  old_in (value l) = tail (tail (tail (in_front (each_of lanes value) _ (value l) (in_places lanes value l))))
  old_in (branch l) = tail (tail (tail (in_back (each_of lanes value) _ (branch l) (in_front (each_of lanes branch) _ (branch l) (in_places lanes branch l)))))
  old_in (out1 l) = tail (tail (tail (in_back (each_of lanes value) _ (out1 l) (in_back (each_of lanes branch) _ (out1 l) (in_front (each_of lanes out1) _ (out1 l) (in_places lanes out1 l))))))
  old_in (out2 l) = tail (tail (tail (in_back (each_of lanes value) _ (out2 l) (in_back (each_of lanes branch) _ (out2 l) (in_back (each_of lanes out1) _ (out2 l) (in_places lanes out2 l))))))

  pub new_in : (n : OneBranch lanes) → In n (one_branch_nodes lanes)
  new_in new_condition = head refl
  new_in new_fork = tail (head refl)
  new_in new_passed = tail (tail (head refl))
  new_in new_join = tail (tail (tail (head refl)))
  new_in new_branch = tail (tail (tail (tail (head refl))))
  new_in new_split1 = tail (tail (tail (tail (tail (head refl)))))
  new_in new_split2 = tail (tail (tail (tail (tail (tail (head refl))))))
  new_in (new_value l) = tail (tail (tail (tail (tail (tail (tail (in_front (each_of lanes new_value) _ (new_value l) (in_places lanes new_value l))))))))
  new_in (new_out1 l) = tail (tail (tail (tail (tail (tail (tail (in_back (each_of lanes new_value) _ (new_out1 l) (in_front (each_of lanes new_out1) _ (new_out1 l) (in_places lanes new_out1 l)))))))))
  new_in (new_out2 l) = tail (tail (tail (tail (tail (tail (tail (in_back (each_of lanes new_value) _ (new_out2 l) (in_back (each_of lanes new_out1) _ (new_out2 l) (in_places lanes new_out2 l)))))))))

  abbrev pub old_place : Branches lanes → ℕ
  old_place n = old_rank (length lanes) (old_label lanes n)

  abbrev pub new_place : Bool → OneBranch lanes → ℕ
  new_place goes_back n = new_rank goes_back (length lanes) (new_label goes_back lanes n)

  abbrev pub old_total : ℕ
  old_total = (((3 + length lanes) + length lanes) + length lanes) + length lanes

  abbrev pub new_total : ℕ
  new_total = ((7 + length lanes) + length lanes) + length lanes

  pub old_counted : Counts old_place 0 (branches_nodes lanes) old_total
  old_counted = (
    refl,
    (
      refl,
      (
        refl,
        counts_both old_place 3 (3 + length lanes) old_total (each_of lanes value) _ (counts_each old_place lanes value 3 (λ l. omega arith))
            (counts_both old_place (3 + length lanes) ((3 + length lanes) + length lanes) old_total (each_of lanes branch) _ (counts_each old_place lanes branch (3 + length lanes) (λ l. omega arith))
            (counts_both old_place ((3 + length lanes) + length lanes) (((3 + length lanes) + length lanes) + length lanes) old_total (each_of lanes out1) (each_of lanes out2)
            (counts_each old_place lanes out1 ((3 + length lanes) + length lanes) (λ l. omega arith)) (counts_each old_place lanes out2 (((3 + length lanes) + length lanes) + length lanes) (λ l. omega arith)))),
      ),
    ),
  )

  new_lanes_counted : (goes_back : Bool) → Counts (new_place goes_back) 7 (each_of lanes new_value ++ (each_of lanes new_out1 ++ each_of lanes new_out2)) new_total
  new_lanes_counted goes_back =
      counts_both (new_place goes_back) 7 (7 + length lanes) new_total (each_of lanes new_value) _ (counts_each (new_place goes_back) lanes new_value 7 (λ l. omega arith))
      (counts_both (new_place goes_back) (7 + length lanes) ((7 + length lanes) + length lanes) new_total (each_of lanes new_out1) (each_of lanes new_out2)
      (counts_each (new_place goes_back) lanes new_out1 (7 + length lanes) (λ l. omega arith)) (counts_each (new_place goes_back) lanes new_out2 ((7 + length lanes) + length lanes) (λ l. omega arith)))

  pub new_counted : (goes_back : Bool) → Counts (new_place goes_back) 0 (one_branch_nodes lanes) new_total
  new_counted true = (refl, (refl, (refl, (refl, (refl, (refl, (refl, new_lanes_counted true)))))))
  new_counted false = (refl, (refl, (refl, (refl, (refl, (refl, (refl, new_lanes_counted false)))))))

  number_few : length lanes ≤ 63 → (l : Place lanes) → number lanes l ≤ 64
  number_few few l = let less = before_less lanes l in omega (arith, less, few)

  module _ (f : Name) (names : List Name) (long : length names ≡ length lanes) (few : length lanes ≤ 63) where
    pub old_fits : (n : Branches lanes) → Fits true (f ∷ names) (old_label lanes n)
    old_fits condition = (refl, omega arith)
    old_fits fork = omega arith
    old_fits passed = (refl, omega arith)
    old_fits (value l) = (refl, number_few few l)
    old_fits (branch l) = let less = before_less lanes l in omega (arith, less, long)
    old_fits (out1 l) = (refl, number_few few l)
    old_fits (out2 l) = (refl, number_few few l)

    pub new_fits : (goes_back : Bool) (n : OneBranch lanes) → Fits false (f ∷ names) (new_label goes_back lanes n)
    new_fits goes_back new_condition = (refl, omega arith)
    new_fits goes_back new_fork = (refl, refl, omega arith)
    new_fits goes_back new_passed = (refl, omega arith)
    new_fits goes_back new_join = (refl, refl, omega arith)
    new_fits goes_back new_branch = (refl, refl, omega arith)
    new_fits true new_split1 = (refl, refl, omega arith)
    new_fits false new_split1 = (refl, refl, omega arith)
    new_fits true new_split2 = (refl, refl, omega arith)
    new_fits false new_split2 = (refl, refl, omega arith)
    new_fits goes_back (new_value l) = (refl, number_few few l)
    new_fits goes_back (new_out1 l) = (refl, number_few few l)
    new_fits goes_back (new_out2 l) = (refl, number_few few l)

-- Branches by their names are a family

branches_from : {N : Type 0} (names : List Name) (lanes : List Shape) (family : Place lanes → N) (made : N → Node) → length names ≡ length lanes →
    ((l : Place lanes) → bare_node (nth names (before lanes l)) (kind.Branch (item lanes l)) ≡ made (family l)) → branch_nodes names lanes ≡ map made (each_of lanes family)
branches_from [] [] family made long h = refl
branches_from [] (a ∷ lanes) family made long h = absurd (omega (arith, long))
branches_from (n ∷ names) [] family made long h = absurd (omega (arith, long))
branches_from (n ∷ names) (a ∷ lanes) family made long h =
    (λ i. h first i ∷ branches_from names lanes (λ l. family (later l)) made (omega (arith, long)) (λ l. h (later l)) i) ∙ ap (map made) (sym (each_next a lanes family))

-- three lists behind one, and four
regroup3 : (a b c d : List Node) → ((a ++ b) ++ c) ++ d ≡ a ++ (b ++ (c ++ d))
regroup3 a b c d = append_assoc (a ++ b) c d ∙ append_assoc a b (c ++ d)

regroup4 : (a b c d e : List Node) → (((a ++ b) ++ c) ++ d) ++ e ≡ a ++ (b ++ (c ++ (d ++ e)))
regroup4 a b c d e = append_assoc ((a ++ b) ++ c) d e ∙ regroup3 a b c (d ++ e)

map3 : {N : Type 0} (made : N → Node) (a b c : List N) → map made (a ++ (b ++ c)) ≡ map made a ++ (map made b ++ map made c)
map3 made a b c = map_both made a (b ++ c) ∙ ap (λ z. map made a ++ z) (map_both made b c)

map4 : {N : Type 0} (made : N → Node) (a b c d : List N) → map made (a ++ (b ++ (c ++ d))) ≡ map made a ++ (map made b ++ (map made c ++ map made d))
map4 made a b c d = map_both made a (b ++ (c ++ d)) ∙ ap (λ z. map made a ++ z) (map3 made b c d)

module _ (prefix ends : ℕ) (f : Name) (names : List Name) (lanes : List Shape) where
  abbrev old_made : Branches lanes → Node
  old_made n = bare_node (old_name prefix ends (f ∷ names) lanes n) (branches_kind lanes n)

  old_families : length names ≡ length lanes → end_nodes Entry ends (codes "p") 1 lanes ++ (branch_nodes names lanes ++ (end_nodes Exit ends (codes "y") 1 lanes ++ end_nodes Exit ends (codes "z") 1 lanes)) ≡
      map old_made (each_of lanes value ++ (each_of lanes branch ++ (each_of lanes out1 ++ each_of lanes out2)))
  old_families long =
      (λ i. ends_each Entry ends (codes "p") lanes value old_made (λ l. refl) i ++ (branches_from names lanes branch old_made long (λ l. refl) i ++
      (ends_each Exit ends (codes "y") lanes out1 old_made (λ l. refl) i ++ ends_each Exit ends (codes "z") lanes out2 old_made (λ l. refl) i)))
      ∙ sym (map4 old_made (each_of lanes value) (each_of lanes branch) (each_of lanes out1) (each_of lanes out2))

  pub old_nodes_are : length names ≡ length lanes → old_list ends f names lanes ≡ nodes_of (branches lanes) (old_name prefix ends (f ∷ names) lanes)
  old_nodes_are long =
      regroup4 (old_made condition ∷ old_made fork ∷ old_made passed ∷ []) (end_nodes Entry ends (codes "p") 1 lanes) (branch_nodes names lanes) (end_nodes Exit ends (codes "y") 1 lanes) (end_nodes Exit ends (codes "z") 1 lanes)
      ∙ ap (λ z. old_made condition ∷ old_made fork ∷ old_made passed ∷ z) (old_families long)

  module _ (goes_back : Bool) where
    abbrev new_made : OneBranch lanes → Node
    new_made n = bare_node (new_name prefix ends (f ∷ names) goes_back lanes n) (one_branch_kind lanes n)

    new_families : end_nodes Entry ends (codes "p") 1 lanes ++ (end_nodes Exit ends (codes "y") 1 lanes ++ end_nodes Exit ends (codes "z") 1 lanes) ≡
        map new_made (each_of lanes new_value ++ (each_of lanes new_out1 ++ each_of lanes new_out2))
    new_families =
        (λ i. ends_each Entry ends (codes "p") lanes new_value new_made (λ l. refl) i ++
        (ends_each Exit ends (codes "y") lanes new_out1 new_made (λ l. refl) i ++ ends_each Exit ends (codes "z") lanes new_out2 new_made (λ l. refl) i))
        ∙ sym (map3 new_made (each_of lanes new_value) (each_of lanes new_out1) (each_of lanes new_out2))

    pub new_nodes_are : new_list prefix ends goes_back lanes ≡ nodes_of (one_branch lanes) (new_name prefix ends (f ∷ names) goes_back lanes)
    new_nodes_are =
        regroup3 (new_made new_condition ∷ new_made new_fork ∷ new_made new_passed ∷ new_made new_join ∷ new_made new_branch ∷ new_made new_split1 ∷ new_made new_split2 ∷ [])
        (end_nodes Entry ends (codes "p") 1 lanes) (end_nodes Exit ends (codes "y") 1 lanes) (end_nodes Exit ends (codes "z") 1 lanes)
        ∙ ap (λ z. new_made new_condition ∷ new_made new_fork ∷ new_made new_passed ∷ new_made new_join ∷ new_made new_branch ∷ new_made new_split1 ∷ new_made new_split2 ∷ z) new_families
