-- The id of a node by its name.
use Rattle.std.proofs.Common.{◌≡◌, inl, inr, Bool, true, false, cond, List, [], ◌∷◌, Some, bytes_eq, refl, sym, ap, subst, ◌∙◌}
use Rattle.std.proofs.lemmas.Bool.{cases_Bool, true≢false}
use Rattle.std.proofs.lemmas.Option.{none-some, same_Some}
use Rattle.std.proofs.lemmas.Slice.Eq.{bytes_eq-Decides}
use Rattle.std.specs.List.{AllByRecursion}
use Rattle.std.specs.Ordering.{eq_by_cmp}
use Rattle.std.specs.FinMap as finite
use Rattle.std.specs.FinMap.Entries.{find}
use Rattle.components.specs.Name.{Name}
use Rattle.components.specs.Entries.{each_found}
use Rattle.graph_core.specs.declared.place.NodeId.{NodeId}
use Rattle.graph_core.specs.Place.{id_cmp}
use Rattle.graph_core.specs.Ids.{id_total, id_same}
use Rattle.graph_core.specs.GraphValue.{GraphValue, Denotes, IsGraph}
use Rattle.states.specs.GraphState.{Places, named_in, id_named, place_at, place_by, place_of}

-- what holds of each entry holds of the one that is found by the name
named_entry : (P : NodeId × Name → Type 0) (n : Name) (es : List (NodeId × Name)) (id : NodeId) → AllByRecursion P es → named_in n es ≡ Some id → P (id, n)
named_entry P n [] id each is = absurd (none-some id is)
named_entry P n (e ∷ es) id each is = elim (cases_Bool (bytes_eq e.1 n)) [
  | inl here ↦
      let same : e.1 ≡ n = (bytes_eq-Decides e.1 n).0 here in
      let first : Some e.0 ≡ Some id = ap (λ t. cond t (Some e.0) (named_in n es)) (sym here) ∙ is in
      subst P (λ i. (same_Some e.0 id first i, same i)) each.0
  | inr other ↦ named_entry P n es id each.1 (ap (λ t. cond t (Some e.0) (named_in n es)) (sym other) ∙ is)
]

-- a name that an id stands for is found
named_some : (n : Name) (id : NodeId) (es : List (NodeId × Name)) → find id_cmp id es ≡ Some n → (j : NodeId) × (named_in n es ≡ Some j)
named_some n id [] found = absurd (none-some n found)
named_some n id (e ∷ es) found = elim (cases_Bool (bytes_eq e.1 n)) [
  | inl here ↦ (e.0, ap (λ t. cond t (Some e.0) (named_in n es)) here)
  | inr other ↦
      let rest : (t : Bool) → eq_by_cmp id_cmp id e.0 ≡ t → find id_cmp id es ≡ Some n = λ t. elim t as (λ b. eq_by_cmp id_cmp id e.0 ≡ b → find id_cmp id es ≡ Some n) [
        | true ↦ λ one.
            let same : e.1 ≡ n = same_Some e.1 n (ap (λ t. cond t (Some e.1) (find id_cmp id es)) (sym one) ∙ found) in
            absurd (true≢false (sym ((bytes_eq-Decides e.1 n).1 same) ∙ other))
        | false ↦ λ two. ap (λ t. cond t (Some e.1) (find id_cmp id es)) (sym two) ∙ found
      ] in
      let more = named_some n id es (rest (eq_by_cmp id_cmp id e.0) refl) in
      (more.0, ap (λ t. cond t (Some e.0) (named_in n es)) other ∙ more.1)
]

-- the id that is found by a name denotes it
pub named_denotes : (g : GraphValue) (n : Name) (id : NodeId) → id_named g n ≡ Some id → Denotes g id n
named_denotes g n id is = named_entry (λ e. finite.get g.ids e.0 ≡ Some e.1) n (finite.entries g.ids) id (each_found id_total id_same g.ids) is

-- each id is found by the name that it denotes
pub denoted_named : (g : GraphValue) → IsGraph g → (id : NodeId) (n : Name) → Denotes g id n → id_named g n ≡ Some id
denoted_named g is id n denotes =
    let found = named_some n id (finite.entries g.ids) (sym (finite.get-entries g.ids id) ∙ denotes) in
    found.1 ∙ ap (λ (j : NodeId). Some j) (is.alone found.0 id n (named_denotes g n found.0 found.1) denotes)

-- what stands at a node, by its id and by its name
pub place_denoted : (g : GraphValue) → IsGraph g → (s : Places) (id : NodeId) (n : Name) → Denotes g id n → place_of g s n ≡ place_at s id
place_denoted g is s id n denotes = ap (place_by s) (denoted_named g is id n denotes)
