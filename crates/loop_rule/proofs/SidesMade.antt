-- The two graphs of the rule can be made, and are a rule.
use Rattle.std.proofs.Common.{◌≡◌, ℕ, zero, suc, ◌<◌, Bool, true, false, refl, length, map, List, [], ◌∷◌, Some, arith}
use Rattle.std.specs.List.{AllByRecursion, slice_get}
use Rattle.components.specs.Name.{Name, IsName}
use Rattle.circuits.specs.Replacing.{In, head, tail, NoneTwice}
use Rattle.circuit_plans.specs.Plans.{Out}
use Rattle.circuit_plans.specs.Drawing.{port_named}
use Rattle.tagged_loop.specs.InOrderLoop.{InOrderNode, LoopParts, entry, init, mux, pure, pair, cond, branch, exit, in_order_nodes, in_order_wires, in_order}
use Rattle.tagged_loop.specs.TaggedLoop.{TaggedNode, new_entry, tagger, merge, tag, new_pure, new_pair, retag, new_branch, new_exit, tagged_nodes, tagged_wires, tagged_drawing}
use Rattle.tagged_loop.specs.Laws.{CanTag, TaggingIsRule}
use Rattle.subst_engine.specs.Making.{AllDiffer, CanMake}
use Rattle.loop_rule.specs.Listed.{CanMakeSides}
use Rattle.drawn_rules.specs.Sides.{nodes_of}
use Rattle.loop_rule.specs.Sides.{old_ends, new_ends}
use Rattle.loop_rule.specs.TagLoop.{nth, old_name, new_name}
use Rattle.drawn_rules.proofs.DrawnMade.{all_differ, can_make, ports_differ}
use Rattle.loop_rule.proofs.NamesDiffer.{old_differ, new_differ}
use Rattle.drawn_rules.proofs.NewNames.{prefixed_name, entry_is_name, exit_is_name}

pub old_in : (n : InOrderNode) → In n in_order_nodes
old_in entry = head refl
old_in init = tail (head refl)
old_in mux = tail (tail (head refl))
old_in pure = tail (tail (tail (head refl)))
old_in pair = tail (tail (tail (tail (head refl))))
old_in cond = tail (tail (tail (tail (tail (head refl)))))
old_in branch = tail (tail (tail (tail (tail (tail (head refl))))))
old_in exit = tail (tail (tail (tail (tail (tail (tail (head refl)))))))

new_in : (n : TaggedNode) → In n tagged_nodes
new_in new_entry = head refl
new_in tagger = tail (head refl)
new_in merge = tail (tail (head refl))
new_in tag = tail (tail (tail (head refl)))
new_in new_pure = tail (tail (tail (tail (head refl))))
new_in new_pair = tail (tail (tail (tail (tail (head refl)))))
new_in retag = tail (tail (tail (tail (tail (tail (head refl))))))
new_in new_branch = tail (tail (tail (tail (tail (tail (tail (head refl)))))))
new_in new_exit = tail (tail (tail (tail (tail (tail (tail (tail (head refl))))))))

abbrev old_place : InOrderNode → ℕ
old_place entry = 0
old_place init = 1
old_place mux = 2
old_place pure = 3
old_place pair = 4
old_place cond = 5
old_place branch = 6
old_place exit = 7

abbrev new_place : TaggedNode → ℕ
new_place new_entry = 0
new_place tagger = 1
new_place merge = 2
new_place tag = 3
new_place new_pure = 4
new_place new_pair = 5
new_place retag = 6
new_place new_branch = 7
new_place new_exit = 8

old_stands : (n : InOrderNode) → slice_get in_order_nodes (old_place n) ≡ Some n
old_stands entry = refl
old_stands init = refl
old_stands mux = refl
old_stands pure = refl
old_stands pair = refl
old_stands cond = refl
old_stands branch = refl
old_stands exit = refl

new_stands : (n : TaggedNode) → slice_get tagged_nodes (new_place n) ≡ Some n
new_stands new_entry = refl
new_stands tagger = refl
new_stands merge = refl
new_stands tag = refl
new_stands new_pure = refl
new_stands new_pair = refl
new_stands retag = refl
new_stands new_branch = refl
new_stands new_exit = refl

abbrev at_places : {N : Type 0} → (N → ℕ) → List (Out N) → List (ℕ × ℕ)
at_places place ps = map (λ p. (place p.at, p.port)) ps

old_targets : (d : Bool) → ports_differ (at_places old_place (map (λ w. w.target) (in_order_wires d))) ≡ true
old_targets true = refl
old_targets false = refl

new_targets : (d : Bool) → ports_differ (at_places new_place (map (λ w. w.target) (tagged_wires d))) ≡ true
new_targets true = refl
new_targets false = refl

nth_allowed : (names : List Name) (place : ℕ) → place < length names → AllByRecursion IsName names → IsName (nth names place)
nth_allowed [] place within h = absurd (omega (arith, within))
nth_allowed (n ∷ names) zero within h = h.0
nth_allowed (n ∷ names) (suc place) within h = nth_allowed names place (omega (arith, within)) h.1

-- the in-order loop may be tagged
pub can_tag : (prefix tags : ℕ) (names : List Name) (loop : LoopParts) → CanMakeSides prefix tags names loop → CanTag loop tags (old_name names) (new_name prefix names)
can_tag prefix tags names loop h =
    record {
      function = h.function;
      mark = h.mark;
      some = h.some;
      few = h.few;
      old_names = old_differ names h.six h.differ;
      new_names = new_differ prefix names;
      same_entry = refl;
      same_exit = refl;
    }

module _ (law : TaggingIsRule) (prefix tags : ℕ) (names : List Name) (loop : LoopParts) (h : CanMakeSides prefix tags names loop) where
  old_allowed : (n : InOrderNode) → IsName (old_name names n)
  old_allowed entry = let six = h.six in entry_is_name names (omega (arith, six))
  old_allowed init = let six = h.six in nth_allowed names 0 (omega (arith, six)) h.allowed
  old_allowed mux = let six = h.six in nth_allowed names 1 (omega (arith, six)) h.allowed
  old_allowed pure = let six = h.six in nth_allowed names 2 (omega (arith, six)) h.allowed
  old_allowed pair = let six = h.six in nth_allowed names 3 (omega (arith, six)) h.allowed
  old_allowed cond = let six = h.six in nth_allowed names 4 (omega (arith, six)) h.allowed
  old_allowed branch = let six = h.six in nth_allowed names 5 (omega (arith, six)) h.allowed
  old_allowed exit = let six = h.six in exit_is_name names (omega (arith, six))

  pub left_made : CanMake (nodes_of (in_order loop) (old_name names)) (old_ends loop.goes_back)
  left_made =
      let tag = can_tag prefix tags names loop h in
      can_make (in_order loop) (old_name names) old_in tag.old_names old_allowed (law loop tags (old_name names) (new_name prefix names) tag).old_typed
      (all_differ (old_name names) in_order_nodes old_in tag.old_names old_place (map (λ w. w.target) (in_order_wires loop.goes_back)) (old_targets loop.goes_back))
      old_place old_stands

  new_allowed : (n : TaggedNode) → IsName (new_name prefix names n)
  new_allowed new_entry = let six = h.six in entry_is_name names (omega (arith, six))
  new_allowed tagger = prefixed_name prefix h.number _ refl (omega arith)
  new_allowed merge = prefixed_name prefix h.number _ refl (omega arith)
  new_allowed tag = prefixed_name prefix h.number _ refl (omega arith)
  new_allowed new_pure = prefixed_name prefix h.number _ refl (omega arith)
  new_allowed new_pair = prefixed_name prefix h.number _ refl (omega arith)
  new_allowed retag = prefixed_name prefix h.number _ refl (omega arith)
  new_allowed new_branch = prefixed_name prefix h.number _ refl (omega arith)
  new_allowed new_exit = let six = h.six in exit_is_name names (omega (arith, six))

  pub right_made : CanMake (nodes_of (tagged_drawing loop tags) (new_name prefix names)) (new_ends loop.goes_back)
  right_made =
      let tag = can_tag prefix tags names loop h in
      can_make (tagged_drawing loop tags) (new_name prefix names) new_in tag.new_names new_allowed (law loop tags (old_name names) (new_name prefix names) tag).new_typed
      (all_differ (new_name prefix names) tagged_nodes new_in tag.new_names new_place (map (λ w. w.target) (tagged_wires loop.goes_back)) (new_targets loop.goes_back))
      new_place new_stands

-- the wires of the in-order loop enter different inputs
pub old_targets_differ : (names : List Name) (loop : LoopParts) → NoneTwice (map (old_name names) in_order_nodes) → AllDiffer (map (port_named (old_name names)) (map (λ w. w.target) (in_order_wires loop.goes_back)))
old_targets_differ names loop once = all_differ (old_name names) in_order_nodes old_in once old_place (map (λ w. w.target) (in_order_wires loop.goes_back)) (old_targets loop.goes_back)
