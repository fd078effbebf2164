-- The node statements of a canonical document are read as the nodes of the graph.
use Rattle.std.proofs.Common.{◌≡◌, ◌≢◌, ℕ, ◌+◌, ◌≤◌, Bool, true, false, cond, not, ◌||◌, List, [], ◌∷◌, ◌++◌, length, map, Option, Some, None, Ok, Err, refl, sym, ap, subst, ◌∙◌, arith, length-append}
use Rattle.std.specs.Prelude.{bytes_eq, nat_le}
use Rattle.std.specs.List.{AllByRecursion, list_any}
use Rattle.std.specs.Option.{option_or}
use Rattle.std.specs.Ordering.{eq_by_cmp}
use Rattle.std.specs.FinMap as map_of
use Rattle.std.specs.FinMap.Entries.{find}
use Rattle.std.proofs.lemmas.Bool.{le-leb, and_from}
use Rattle.std.proofs.lemmas.Bool.Decides.{nat_tests}
use Rattle.std.proofs.lemmas.List.{append-nil, append_assoc, map-append}
use Rattle.std.proofs.lemmas.List.Elements.{All-weaker}
use Rattle.std.proofs.lemmas.List.Sums.{list_all-from_AllPass}
use Rattle.std.proofs.lemmas.Option.{none-some}
use Rattle.components.specs.Name.{Name, name_cmp, IsName, IsNameByte}
use Rattle.components.specs.Node.{Body}
use Rattle.components.specs.NamedGraph.{NamedGraph, HasAllowedNames}
use Rattle.graph_print.specs.CanonicalText.{pairs_of, node_entry}
use Rattle.graph_read.specs.declared.fault.GraphFaultKind.TheVariants.{BadName, NameTaken, TooMany}
use Rattle.graph_read.specs.NodeReading.{NodeReading, is_name, is_name_byte, body_reading, within_limit, node_reading}
use Rattle.graph_read.specs.GraphReading.{then_read, names_of, nodes_reading}
use Rattle.components.specs.Entries as lists
use Rattle.components.specs.Orders.{name_total, name_same, other_bytes}
use Rattle.read_back.proofs.Each.{each_append, each_changed}
use Rattle.components.specs.Entries.{none_before, found_there}

-- ---- the tests of a node

name_byte : (byte : ℕ) → IsNameByte byte → is_name_byte byte ≡ true
name_byte byte ok = grind (arith, nat_tests)

name_passes : (name : Name) → IsName name → is_name name ≡ true
name_passes name ok =
    and_from _ _ (and_from _ _ (le-leb 1 (length name) ok.some) (le-leb (length name) 255 ok.few))
    (list_all-from_AllPass is_name_byte name (All-weaker IsNameByte (λ byte. is_name_byte byte ≡ true) name_byte name ok.bytes))

-- where each test passes, the node is what its pairs say
node_passes : (name taken few : Bool) (read : NodeReading) (body : Body) → name ≡ true → taken ≡ false → few ≡ true → read ≡ Ok body →
    (place : ℕ) → nat_le place 65536 ≡ few → cond (not name) (Err BadName) (cond taken (Err NameTaken) (within_limit place read)) ≡ Ok body
node_passes name taken few read body named free small is place test =
    (λ i. cond (not (named i)) (Err BadName) (cond (free i) (Err NameTaken) (within_limit place (is i)))) ∙ ap (λ t. cond t (Ok body) (Err TooMany)) (test ∙ small)

-- ---- all nodes

-- each node's pairs say its body
abbrev pub SaysBodies : NamedGraph → Type 0
SaysBodies g = (name : Name) (body : Body) → map_of.get g.nodes name ≡ Some body → body_reading (pairs_of body) ≡ Ok body

-- each of these names is that of an entry
abbrev AreNamesOf : List (Name × Body) → List Name → Type 0
AreNamesOf nodes names = AllByRecursion (λ name. find name_cmp name nodes ≢ None) names

module _ (g : NamedGraph) (named : HasAllowedNames g) (says : SaysBodies g) (few : map_of.len g.nodes ≤ 65536) where
  module _ (before : List (Name × Body)) (node : Name × Body) (after : List (Name × Body)) (whole : map_of.entries g.nodes ≡ before ++ node ∷ after) where
    there : map_of.get g.nodes node.0 ≡ Some node.1
    there = found_there name_total name_same g.nodes before node after whole

    not_taken : (names : List Name) → AreNamesOf before names → list_any (bytes_eq node.0) names ≡ false
    not_taken [] are = refl
    not_taken (name ∷ names) are =
        let other : bytes_eq node.0 name ≡ false =
        other_bytes node.0 name (λ same. are.0 (ap (λ (n : Name). find name_cmp n before) (sym same) ∙ none_before name_total name_same g.nodes before node after whole)) in
        (λ i. other i || list_any (bytes_eq node.0) names) ∙ not_taken names are.1

    in_limit : length before + 1 ≤ 65536
    in_limit = omega (arith, few, map_of.len-entries g.nodes, ap length whole, length-append before (node ∷ after))

    is_read : (names : List Name) → AreNamesOf before names → (place : ℕ) → place ≡ length before + 1 → node_reading names place (node_entry node) ≡ Ok node.1
    is_read names are place at =
        node_passes (is_name node.0) (list_any (bytes_eq node.0) names) true (body_reading (pairs_of node.1)) node.1 (name_passes node.0 (named node.0 node.1 there))
        (not_taken names are) refl (says node.0 node.1 there) place (le-leb place 65536 (omega (arith, at, in_limit)))

  -- the names so far, with one more
  still : (before : List (Name × Body)) (node : Name × Body) (names : List Name) → AreNamesOf before names → AreNamesOf (before ++ node ∷ []) names
  still before node =
      each_changed (λ name. find name_cmp name before ≢ None) (λ name. find name_cmp name (before ++ node ∷ []) ≢ None) (λ name was none.
      was (front_none (find name_cmp name before) (find name_cmp name (node ∷ [])) (sym (lists.find-append name_cmp name before (node ∷ [])) ∙ none)))
    where
      front_none : {A : Type 0} (o p : Option A) → option_or o p ≡ None → o ≡ None
      front_none None p e = refl
      front_none (Some x) p e = e

  last_is_there : (before : List (Name × Body)) (node : Name × Body) → find name_cmp node.0 (before ++ node ∷ []) ≢ None
  last_is_there [] node none = none-some node.1 (sym none ∙ lists.find_first name_cmp name_total node [])
  last_is_there (e ∷ before) node none = last_is_there before node (behind_none (eq_by_cmp name_cmp node.0 e.0) e.1 (find name_cmp node.0 (before ++ node ∷ [])) none)
    where
      behind_none : {A : Type 0} (b : Bool) (x : A) (p : Option A) → cond b (Some x) p ≡ None → p ≡ None
      behind_none true x p e = absurd (none-some x (sym e))
      behind_none false x p e = e

  one_more : (before : List (Name × Body)) (node : Name × Body) → AreNamesOf before (names_of before) → AreNamesOf (before ++ node ∷ []) (names_of (before ++ node ∷ []))
  one_more before node are =
      subst (AreNamesOf (before ++ node ∷ [])) (sym (map-append (λ (e : Name × Body). e.0) before (node ∷ [])))
      (each_append (λ name. find name_cmp name (before ++ node ∷ []) ≢ None) (names_of before) (node.0 ∷ []) (still before node (names_of before) are) (last_is_there before node, tt))

  nodes_from : (before after : List (Name × Body)) (place : ℕ) → map_of.entries g.nodes ≡ before ++ after → AreNamesOf before (names_of before) →
      place ≡ length before + 1 → nodes_reading before place (map node_entry after) ≡ Ok (before ++ after)
  nodes_from before [] place whole are at = ap (λ (es : List (Name × Body)). Ok es) (sym (append-nil before))
  nodes_from before (node ∷ after) place whole are at =
      ap (λ read. then_read place node.0 read (λ body. nodes_reading (before ++ (node.0, body) ∷ []) (place + 1) (map node_entry after))) (is_read before node after whole (names_of before) are place at)
      ∙ nodes_from (before ++ node ∷ []) after (place + 1) (whole ∙ sym (append_assoc before (node ∷ []) after)) (one_more before node are) (omega (arith, at, length-append before (node ∷ [])))
      ∙ ap (λ (es : List (Name × Body)). Ok es) (append_assoc before (node ∷ []) after)

  pub nodes_back : nodes_reading [] 1 (map node_entry (map_of.entries g.nodes)) ≡ Ok (map_of.entries g.nodes)
  nodes_back = nodes_from [] (map_of.entries g.nodes) 1 refl tt refl
