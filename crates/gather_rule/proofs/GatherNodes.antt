-- The nodes of the two graphs: their places and labels.
use Rattle.std.proofs.Common.{◌≡◌, ℕ, suc, ◌+◌, ◌≤◌, true, ◌==◌, if◌then◌else◌, bytes_eq, codes, length, List, refl, arith}
use Rattle.components.specs.Name.{Name}
use Rattle.circuits.specs.Replacing.{In, head}
use Rattle.circuits.specs.Replacing.{tail as past}
use Rattle.circuit_plans.specs.Places.{Place, each_of}
use Rattle.circuit_plans.proofs.Places.{in_places, in_front, in_back}
use Rattle.body_laws.specs.Bodies.{Body}
use Rattle.body_laws.specs.BodyPlans.{Part, enter, vars, node, tail, Way, next, condition, other, Gathered, entry, pure, pair, vals, fork, way}
use Rattle.drawn_rules.specs.Labels.{Label, listed, ending, fresh}
use Rattle.drawn_rules.proofs.Labels.{Fits}
use Rattle.drawn_rules.proofs.Places.{Counts, counts_both, counts_each, before_less}
use Rattle.gather_rule.specs.GatherGraphs.{body_list, gathered_list}
use Rattle.gather_rule.specs.Gather.{way_label, old_label, new_label}

-- the places of the nodes, by their labels, for so many nodes of the body and so many data wires

abbrev pub old_rank : ℕ → ℕ → Label → ℕ
old_rank nodes lanes (listed place) = suc place
old_rank nodes lanes (ending letter count) = if letter == 101 then 0 else (if letter == 120 then (1 + nodes) + count else ((1 + nodes) + lanes) + count)
old_rank nodes lanes (fresh word) = 0

abbrev pub new_rank : ℕ → Label → ℕ
new_rank lanes (listed place) = 0
new_rank lanes (ending letter count) = if letter == 101 then 0 else (if letter == 120 then 4 + count else (4 + lanes) + count)
new_rank lanes (fresh word) = if bytes_eq word (codes "pure") then 1 else (if bytes_eq word (codes "pair") then 2 else (if bytes_eq word (codes "vals") then 3 else 4))

module _ (b : Body) where
  abbrev pub old_next : Place b.next → Part b (Way b)
  old_next p = tail (next p)

  abbrev pub old_other : Place b.others → Part b (Way b)
  old_other p = tail (other p)

  abbrev pub new_next : Place b.next → Gathered b
  new_next p = way (next p)

  abbrev pub new_other : Place b.others → Gathered b
  new_other p = way (other p)

  pub old_in : (n : Part b (Way b)) → In n (body_list b)
  old_in enter = head refl
  old_in vars = past (head refl)
  old_in (node p) = past (past (in_front (each_of b.nodes node) _ (node p) (in_places b.nodes node p)))
  old_in (tail (next p)) = past (past (in_back (each_of b.nodes node) _ (old_next p) (in_front (each_of b.next old_next) _ (old_next p) (in_places b.next old_next p))))
  old_in (tail condition) = past (past (in_back (each_of b.nodes node) _ (tail condition) (in_back (each_of b.next old_next) _ (tail condition) (head refl))))
  old_in (tail (other p)) = past (past (in_back (each_of b.nodes node) _ (old_other p) (in_back (each_of b.next old_next) _ (old_other p) (past (in_places b.others old_other p)))))

  pub new_in : (n : Gathered b) → In n (gathered_list b)
  new_in entry = head refl
  new_in pure = past (head refl)
  new_in pair = past (past (head refl))
  new_in vals = past (past (past (head refl)))
  new_in fork = past (past (past (past (head refl))))
  new_in (way (next p)) = past (past (past (past (past (in_front (each_of b.next new_next) _ (new_next p) (in_places b.next new_next p))))))
  new_in (way condition) = past (past (past (past (past (in_back (each_of b.next new_next) _ (way condition) (head refl))))))
  new_in (way (other p)) = past (past (past (past (past (in_back (each_of b.next new_next) _ (new_other p) (past (in_places b.others new_other p)))))))

  abbrev pub n : ℕ
  n = length b.nodes

  abbrev pub k : ℕ
  k = length b.next

  abbrev pub old_place : Part b (Way b) → ℕ
  old_place m = old_rank n k (old_label b m)

  abbrev pub new_place : Gathered b → ℕ
  new_place m = new_rank k (new_label b m)

  abbrev pub old_total : ℕ
  old_total = suc ((2 + n) + k) + length b.others

  abbrev pub new_total : ℕ
  new_total = suc (5 + k) + length b.others

  pub old_counted : Counts old_place 0 (body_list b) old_total
  old_counted = (
    refl,
    (
      refl,
      counts_both old_place 2 (2 + n) old_total (each_of b.nodes node) _ (counts_each old_place b.nodes node 2 (λ p. omega arith))
          (counts_both old_place (2 + n) ((2 + n) + k) old_total (each_of b.next old_next) _ (counts_each old_place b.next old_next (2 + n) (λ p. omega arith))
          (omega arith, counts_each old_place b.others old_other (suc ((2 + n) + k)) (λ p. omega arith))),
    ),
  )

  pub new_counted : Counts new_place 0 (gathered_list b) new_total
  new_counted = (
    refl,
    (
      refl,
      (
        refl,
        (
          refl,
          (
            refl,
            counts_both new_place 5 (5 + k) new_total (each_of b.next new_next) _ (counts_each new_place b.next new_next 5 (λ p. omega arith))
                (omega arith, counts_each new_place b.others new_other (suc (5 + k)) (λ p. omega arith)),
          ),
        ),
      ),
    ),
  )

  module _ (names : List Name) (long : length names ≡ suc n) (few : k ≤ 63) (same : length b.others ≡ k) where
    way_fits : (w : Way b) → Fits true names (way_label b w)
    way_fits (next p) = let less = before_less b.next p in (refl, omega (arith, less, few))
    way_fits condition = (refl, omega arith)
    way_fits (other p) = let less = before_less b.others p in (refl, omega (arith, less, few, same))

    pub old_fits : (m : Part b (Way b)) → Fits true names (old_label b m)
    old_fits enter = (refl, omega arith)
    old_fits vars = omega (arith, long)
    old_fits (node p) = let less = before_less b.nodes p in omega (arith, less, long)
    old_fits (tail w) = way_fits w
