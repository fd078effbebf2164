-- The reading of a node behind others: its first refusals, in order.
use Rattle.std.proofs.Common.{rules, ◌≡◌, IsSome, ℕ, ◌≤◌, ◌<◌, Bool, true, false, cond, ◌||◌, List, [], ◌∷◌, Option, Some, None, is_some, Ok, Err, refl, sym, ap, ◌∙◌, arith, if◌then◌else◌}
use Rattle.std.specs.Prelude.{bytes_eq, nat_le, MatchOption}
use Rattle.std.specs.List.{list_any}
use Rattle.std.specs.FinMap as map
use Rattle.std.specs.Ordering.{eq_by_cmp}
use Rattle.std.proofs.lemmas.Bool.{true≢false, le-leb, leb-true, false_from_ne_true}
use Rattle.std.proofs.lemmas.Map.Text.{is_eq-slice_cmp}
use Rattle.dot_text.specs.declared.doc.DocNode.{DocNode}
use Rattle.components.specs.Name.{Name, name_cmp}
use Rattle.components.specs.Node.{Body}
use Rattle.graph_read.specs.declared.fault.GraphFaultKind.TheVariants.{NameTaken, TooMany}
use Rattle.graph_read.specs.declared.fault.StatementFault.{StatementFault}
use Rattle.graph_read.specs.declared.fault.StatementFault.TheVariants.{Refused, NoMemory}
use Rattle.graph_core.specs.declared.place.NodeId.{NodeId}
use Rattle.graph_core.specs.GraphValue.{GraphValue, Denotes, IsGraph}
use Rattle.graph_read.specs.Answers.{IsNodeRead}
use Rattle.graph_read.specs.GraphSteps.{IsAdded}
use Rattle.graph_read.specs.NodeReading.{NodeReading, node_reading, body_reading, within_limit, is_name}
use Rattle.graph_read.specs.GraphReading.{names_of}
use Rattle.components.specs.Orders.{name_total}

either_found : {X : Type 0} (test : Bool) (x : X) (o : Option X) → (test || is_some o) ≡ is_some (cond test (Some x) o)
either_found true x o = refl
either_found false x o = refl

found_names : (name : Name) (nodes : List (Name × Body)) → list_any (bytes_eq name) (names_of nodes) ≡ is_some (map.find name_cmp name nodes)
found_names name [] = refl
found_names name (node ∷ nodes) =
    (λ i. sym (is_eq-slice_cmp name node.0) i || found_names name nodes i) ∙ either_found (eq_by_cmp name_cmp name node.0) node.1 (map.find name_cmp name nodes)

-- a name stands among those of the nodes exactly where it is a key of their map
pub known_names : (name : Name) (nodes : List (Name × Body)) → list_any (bytes_eq name) (names_of nodes) ≡ map.contains_key (map.from_entries {R = name_cmp} nodes) name
known_names name nodes = found_names name nodes ∙ ap is_some (sym (map.get-from_entries name_total nodes name))

module _ (nodes : List (Name × Body)) (place : ℕ) (statement : DocNode) (named : is_name statement.name ≡ true) where
  pub taken_name : map.contains_key (map.from_entries {R = name_cmp} nodes) statement.name ≡ true → node_reading (names_of nodes) place statement ≡ Err NameTaken
  taken_name taken = rw named (rw (known_names statement.name nodes ∙ taken) refl)

  pub new_name : map.contains_key (map.from_entries {R = name_cmp} nodes) statement.name ≡ false → node_reading (names_of nodes) place statement ≡ within_limit place (body_reading statement.pairs)
  new_name new = rw named (rw (known_names statement.name nodes ∙ new) refl)

pub is_key : (nodes : map.FinMap name_cmp Body) (name : Name) → IsSome (map.get nodes name) → map.contains_key nodes name ≡ true
is_key nodes name taken = search rules

pub is_no_key : (nodes : map.FinMap name_cmp Body) (name : Name) → ¬ (IsSome (map.get nodes name)) → map.contains_key nodes name ≡ false
is_no_key nodes name free = search rules

-- a name is a key exactly where a node is found by it
module _ (g : GraphValue) (is_graph : IsGraph g) (name : Name) (found : Option NodeId) (is : MatchOption found (map.get g.graph.nodes name ≡ None) (λ id. Denotes g id name)) where
  pub is_key_found : is_some found ≡ true → map.contains_key g.graph.nodes name ≡ true
  is_key_found some = at found is some
    where
      at : (o : Option NodeId) → MatchOption o (map.get g.graph.nodes name ≡ None) (λ id. Denotes g id name) → is_some o ≡ true → map.contains_key g.graph.nodes name ≡ true
      at None none e = absurd (true≢false (sym e))
      at (Some id) denotes e = ap is_some (is_graph.denoted id name denotes).1

  pub no_key_found : is_some found ≡ false → map.contains_key g.graph.nodes name ≡ false
  no_key_found none = at found is none
    where
      at : (o : Option NodeId) → MatchOption o (map.get g.graph.nodes name ≡ None) (λ id. Denotes g id name) → is_some o ≡ false → map.contains_key g.graph.nodes name ≡ false
      at None free e = ap is_some free
      at (Some id) denotes e = absurd (true≢false e)

-- what a body's reading refuses is refused of its node
pub refused_reading : (name : Name) (fault : StatementFault) (place : ℕ) (g : GraphValue) {read body : NodeReading} → read ≡ body → IsNodeRead name body (Err fault) → IsAdded read name place g g (Err fault)
refused_reading name (Refused kind) place g is refused = is ∙ refused
refused_reading name NoMemory place g is refused = tt

abbrev limit : Body → Bool → NodeReading
limit body few = if few then Ok body else Err TooMany

pub too_many : (place : ℕ) (body : Body) → 65536 < place → within_limit place (Ok body) ≡ Err TooMany
too_many place body more =
    let test : nat_le place 65536 ≡ false = false_from_ne_true (nat_le place 65536) (λ few. absurd (omega (arith, leb-true place 65536 few, more))) in
    ap (λ (t : Bool). limit body t) test

pub not_too_many : (place : ℕ) (body : Body) → place ≤ 65536 → within_limit place (Ok body) ≡ Ok body
not_too_many place body few = ap (λ (t : Bool). limit body t) (le-leb place 65536 few)
