-- The nodes of the two graphs: their places, their names, and the inputs that wires enter.
use Rattle.std.proofs.Common.{◌≡◌, ℕ, suc, ◌+◌, ◌*◌, ◌≤◌, Bool, true, false, ◌==◌, if◌then◌else◌, bytes_eq, codes, nat_lt, length, List, ◌++◌, refl, ap, subst, ◌∙◌, arith}
use Rattle.std.proofs.lemmas.Bool.{lt-ltb, le-ltb}
use Rattle.components.specs.declared.kind.Kind.{Kind}
use Rattle.components.specs.Name.{Name}
use Rattle.components.specs.Kind.{Shape}
use Rattle.circuits.specs.Replacing.{In, head, tail}
use Rattle.circuit_plans.specs.Drawing.{DrawnWire, wire}
use Rattle.circuit_plans.specs.Places.{Place, before, number, each_of}
use Rattle.circuit_plans.proofs.Places.{in_places, in_front, in_back}
use Rattle.lane_laws.specs.CombineMuxes.{Tree, into, select, leader, Muxes, choice, node, value2, value3, mux, out, muxes_nodes, muxes_wires, OneMux, new_choice, new_join2, new_join3, new_mux, new_split, new_value2, new_value3, new_out, one_mux_nodes}
use Rattle.drawn_rules.specs.Labels.{Label, listed, ending, fresh}
use Rattle.drawn_rules.proofs.Labels.{Fits}
use Rattle.drawn_rules.proofs.Places.{Counts, counts_both, counts_each, Rises, rises_both, rises_each, before_less}
use Rattle.mux_branch_rules.specs.MuxCombine.{mux_old_label, mux_new_label}

-- the places of the nodes, by their labels, for so many nodes of the tree and so many lanes

abbrev pub old_rank : ℕ → ℕ → Label → ℕ
old_rank kinds lanes (listed place) = if nat_lt place kinds then suc place else suc (2 * lanes) + place
old_rank kinds lanes (ending letter count) =
    if letter == 101 then 0 else (if letter == 112 then kinds + count else (if letter == 113 then (kinds + lanes) + count else (kinds + 3 * lanes) + count))
old_rank kinds lanes (fresh word) = 0

abbrev pub new_rank : Bool → ℕ → Label → ℕ
new_rank goes_back lanes (listed place) = 0
new_rank goes_back lanes (ending letter count) =
    if letter == 101 then 0 else (if letter == 112 then 4 + count else (if letter == 113 then (4 + lanes) + count else (4 + 2 * lanes) + count))
new_rank goes_back lanes (fresh word) =
    if bytes_eq word (codes "mux") then 3 else (if bytes_eq word (codes "vars") then 4 else
    (if bytes_eq word (codes "in") then (if goes_back then 1 else 2) else (if goes_back then 2 else 1)))

module _ (kinds : List Kind) (lanes : List Shape) where
  pub old_in : (n : Muxes kinds lanes) → In n (muxes_nodes kinds lanes)
  old_in choice = head refl
  old_in (node n) = tail (in_front (each_of kinds node) _ (node n) (in_places kinds node n))
  old_in (value2 l) = tail (in_back (each_of kinds node) _ (value2 l) (in_front (each_of lanes value2) _ (value2 l) (in_places lanes value2 l)))
  old_in (value3 l) = tail (in_back (each_of kinds node) _ (value3 l) (in_back (each_of lanes value2) _ (value3 l) (in_front (each_of lanes value3) _ (value3 l) (in_places lanes value3 l))))
  old_in (mux l) = tail (in_back (each_of kinds node) _ (mux l) (in_back (each_of lanes value2) _ (mux l) (in_back (each_of lanes value3) _ (mux l) (in_front (each_of lanes mux) _ (mux l) (in_places lanes mux l)))))
  old_in (out l) = tail (in_back (each_of kinds node) _ (out l) (in_back (each_of lanes value2) _ (out l) (in_back (each_of lanes value3) _ (out l) (in_back (each_of lanes mux) _ (out l) (in_places lanes out l)))))

  pub new_in : (n : OneMux lanes) → In n (one_mux_nodes lanes)
  new_in new_choice = head refl
  new_in new_join2 = tail (head refl)
  new_in new_join3 = tail (tail (head refl))
  new_in new_mux = tail (tail (tail (head refl)))
  new_in new_split = tail (tail (tail (tail (head refl))))
  new_in (new_value2 l) = tail (tail (tail (tail (tail (in_front (each_of lanes new_value2) _ (new_value2 l) (in_places lanes new_value2 l))))))
  new_in (new_value3 l) = tail (tail (tail (tail (tail (in_back (each_of lanes new_value2) _ (new_value3 l) (in_front (each_of lanes new_value3) _ (new_value3 l) (in_places lanes new_value3 l)))))))
  new_in (new_out l) = tail (tail (tail (tail (tail (in_back (each_of lanes new_value2) _ (new_out l) (in_back (each_of lanes new_value3) _ (new_out l) (in_places lanes new_out l)))))))

  abbrev pub k : ℕ
  k = length kinds

  abbrev pub n : ℕ
  n = length lanes

  abbrev pub old_place : Muxes kinds lanes → ℕ
  old_place m = old_rank k n (mux_old_label kinds lanes m)

  abbrev pub new_place : Bool → OneMux lanes → ℕ
  new_place goes_back m = new_rank goes_back n (mux_new_label goes_back lanes m)

  abbrev pub old_total : ℕ
  old_total = ((((1 + k) + n) + n) + n) + n

  abbrev pub new_total : ℕ
  new_total = ((5 + n) + n) + n

  pub node_place : (m : Place kinds) → old_place (node m) ≡ 1 + before kinds m
  node_place m = ap (λ (t : Bool). if t then suc (before kinds m) else suc (2 * n) + before kinds m) (lt-ltb (before kinds m) k (before_less kinds m)) ∙ omega arith

  pub mux_place : (l : Place lanes) → old_place (mux l) ≡ (((1 + k) + n) + n) + before lanes l
  mux_place l =
      let behind : k ≤ k + before lanes l = omega arith in
      ap (λ (t : Bool). if t then suc (k + before lanes l) else suc (2 * n) + (k + before lanes l)) (le-ltb (k + before lanes l) k behind) ∙ omega arith

  pub old_counted : Counts old_place 0 (muxes_nodes kinds lanes) old_total
  old_counted = (
    refl,
    counts_both old_place 1 (1 + k) old_total (each_of kinds node) _ (counts_each old_place kinds node 1 node_place)
        (counts_both old_place (1 + k) ((1 + k) + n) old_total (each_of lanes value2) _ (counts_each old_place lanes value2 (1 + k) (λ l. omega arith))
        (counts_both old_place ((1 + k) + n) (((1 + k) + n) + n) old_total (each_of lanes value3) _ (counts_each old_place lanes value3 ((1 + k) + n) (λ l. omega arith))
        (counts_both old_place (((1 + k) + n) + n) ((((1 + k) + n) + n) + n) old_total (each_of lanes mux) (each_of lanes out)
        (counts_each old_place lanes mux (((1 + k) + n) + n) mux_place) (counts_each old_place lanes out ((((1 + k) + n) + n) + n) (λ l. omega arith))))),
  )

  new_lanes_counted : (goes_back : Bool) → Counts (new_place goes_back) 5 (each_of lanes new_value2 ++ (each_of lanes new_value3 ++ each_of lanes new_out)) new_total
  new_lanes_counted goes_back =
      counts_both (new_place goes_back) 5 (5 + n) new_total (each_of lanes new_value2) _ (counts_each (new_place goes_back) lanes new_value2 5 (λ l. omega arith))
      (counts_both (new_place goes_back) (5 + n) ((5 + n) + n) new_total (each_of lanes new_value3) (each_of lanes new_out)
      (counts_each (new_place goes_back) lanes new_value3 (5 + n) (λ l. omega arith)) (counts_each (new_place goes_back) lanes new_out ((5 + n) + n) (λ l. omega arith)))

  pub new_counted : (goes_back : Bool) → Counts (new_place goes_back) 0 (one_mux_nodes lanes) new_total
  new_counted true = (refl, (refl, (refl, (refl, (refl, new_lanes_counted true)))))
  new_counted false = (refl, (refl, (refl, (refl, (refl, new_lanes_counted false)))))

  number_few : n ≤ 64 → (l : Place lanes) → number lanes l ≤ 64
  number_few few l = let less = before_less lanes l in omega (arith, less, few)

  module _ (names : List Name) (long : length names ≡ k + n) (few : n ≤ 64) where
    pub old_fits : (m : Muxes kinds lanes) → Fits true names (mux_old_label kinds lanes m)
    old_fits choice = (refl, omega arith)
    old_fits (node m) = let less = before_less kinds m in omega (arith, less, long)
    old_fits (value2 l) = (refl, number_few few l)
    old_fits (value3 l) = (refl, number_few few l)
    old_fits (mux l) = let less = before_less lanes l in omega (arith, less, long)
    old_fits (out l) = (refl, number_few few l)

    pub new_fits : (goes_back : Bool) (m : OneMux lanes) → Fits false names (mux_new_label goes_back lanes m)
    new_fits goes_back new_choice = (refl, omega arith)
    new_fits true new_join2 = (refl, refl, omega arith)
    new_fits false new_join2 = (refl, refl, omega arith)
    new_fits true new_join3 = (refl, refl, omega arith)
    new_fits false new_join3 = (refl, refl, omega arith)
    new_fits goes_back new_mux = (refl, refl, omega arith)
    new_fits goes_back new_split = (refl, refl, omega arith)
    new_fits goes_back (new_value2 l) = (refl, number_few few l)
    new_fits goes_back (new_value3 l) = (refl, number_few few l)
    new_fits goes_back (new_out l) = (refl, number_few few l)

  -- the inputs of the left graph, in the order of the wires into them

  abbrev pub rank_in : Muxes kinds lanes → ℕ → ℕ
  rank_in choice port = 0
  rank_in (node m) port = 0 + before kinds m
  rank_in (value2 l) port = 0
  rank_in (value3 l) port = 0
  rank_in (mux l) port = if port == 1 then k + before lanes l else (if port == 2 then (k + n) + before lanes l else ((k + n) + n) + before lanes l)
  rank_in (out l) port = (((k + n) + n) + n) + before lanes l

  abbrev pub top : ℕ
  top = (((k + n) + n) + n) + n

  module _ (tree : Tree kinds lanes) where
    abbrev wire1 : Place kinds → DrawnWire (Muxes kinds lanes)
    wire1 m = record { source = leader (tree.source (into m)); target = record { at = node m; port = 1 } }

    abbrev wire2 : Place lanes → DrawnWire (Muxes kinds lanes)
    wire2 l = record { source = leader (tree.source (select l)); target = record { at = mux l; port = 1 } }

    abbrev wire3 : Place lanes → DrawnWire (Muxes kinds lanes)
    wire3 l = wire (value2 l) 1 (mux l) 2

    abbrev wire4 : Place lanes → DrawnWire (Muxes kinds lanes)
    wire4 l = wire (value3 l) 1 (mux l) 3

    abbrev wire5 : Place lanes → DrawnWire (Muxes kinds lanes)
    wire5 l = wire (mux l) 1 (out l) 1

    abbrev into_input : DrawnWire (Muxes kinds lanes) → ℕ
    into_input w = rank_in w.target.at w.target.port

    pub rises : Rises (λ w. rank_in w.target.at w.target.port) 0 (muxes_wires kinds lanes tree) top
    rises =
        rises_both into_input 0 (0 + k) top (each_of kinds wire1) _ (rises_each into_input kinds wire1 0 (λ m. refl))
        (subst (λ z. Rises into_input z (each_of lanes wire2 ++ (each_of lanes wire3 ++ (each_of lanes wire4 ++ each_of lanes wire5))) top) start
        (rises_both into_input k (k + n) top (each_of lanes wire2) _ (rises_each into_input lanes wire2 k (λ l. refl))
        (rises_both into_input (k + n) ((k + n) + n) top (each_of lanes wire3) _ (rises_each into_input lanes wire3 (k + n) (λ l. refl))
        (rises_both into_input ((k + n) + n) (((k + n) + n) + n) top (each_of lanes wire4) (each_of lanes wire5)
        (rises_each into_input lanes wire4 ((k + n) + n) (λ l. refl)) (rises_each into_input lanes wire5 (((k + n) + n) + n) (λ l. refl))))))
      where
        start : k ≡ 0 + k
        start = omega arith
