-- What a graph's value answers, by its cells and its table of names.
use Rattle.std.proofs.Common.{◌≡◌, inl, inr, ℕ, zero, suc, ◌+◌, Bool, true, false, ◌||◌, List, [], ◌∷◌, ◌++◌, cond, Option, Some, None, IsSome, is_some, slice_get, refl, sym, ap, subst, ◌∙◌, true≢false, arith}
use Rattle.std.specs.Option.{option_map}
use Rattle.std.specs.List.{list_any}
use Rattle.std.specs.FinMap as finite
use Rattle.port_types.specs.declared.side.Side.TheVariants.{Ins}
use Rattle.components.specs.Name.{Name, Port, name_cmp, port_cmp}
use Rattle.components.specs.Node.{Body, body_of}
use Rattle.std.proofs.lemmas.Option.{same_Some, none-some}
use Rattle.graph_core.specs.declared.place.NodeId.{NodeId}
use Rattle.graph_core.specs.declared.place.PortAt.{PortAt}
use Rattle.graph_core.specs.declared.cells.Cell.{Cell}
use Rattle.graph_core.specs.Ends.{EndList, flat}
use Rattle.graph_core.specs.Names.{IdsByName}
use Rattle.graph_core.specs.Cells.{CellsValue}
use Rattle.graph_core.specs.GraphValue.{port_by}
use Rattle.graph_core.specs.Inside.{then, node_at, kept_end, slot_at, end_at, ids_of, body_under, feeder_under, inputs_from, ins_in, inputs_of, value_of}
use Rattle.components.specs.Orders.{name_total, name_same, port_total, port_same, name_cases}
use Rattle.components.specs.Lookups.{same_test, other_test}
use Rattle.graph_core.proofs.Tables.{or_true, is_in, get-map_values, get-tabulate}

or_left : (a b : Bool) → a ≡ true → a || b ≡ true
or_left true b e = refl
or_left false b e = absurd (true≢false (sym e))

or_right : (a b : Bool) → b ≡ true → a || b ≡ true
or_right true b e = refl
or_right false b e = e

any_left : {A : Type 0} (t : A → Bool) (xs ys : List A) → list_any t xs ≡ true → list_any t (xs ++ ys) ≡ true
any_left t [] ys e = absurd (true≢false (sym e))
any_left t (x ∷ xs) ys e = elim (or_true (t x) (list_any t xs) e) [
  | inl here ↦ or_left (t x) _ here
  | inr later ↦ or_right (t x) _ (any_left t xs ys later)
]

any_right : {A : Type 0} (t : A → Bool) (xs ys : List A) → list_any t ys ≡ true → list_any t (xs ++ ys) ≡ true
any_right t [] ys e = e
any_right t (x ∷ xs) ys e = or_right (t x) _ (any_right t xs ys e)

-- Each input of a node of the table is among the inputs

input_among : (name : Name) (first i : ℕ) (ends : EndList) → IsSome (slice_get ends i) → (q : Port) → q ≡ record { node = name; port = first + i } → is_in port_cmp q (inputs_from name first ends) ≡ true
input_among name first i [] some q is = absurd (true≢false (sym some))
input_among name first zero (end ∷ ends) some q is =
    or_left _ _ (same_test port_total port_same q (record { node = name; port = first }) (is ∙ ap (λ n. record { node = name; port = n }) (omega arith)))
input_among name first (suc i) (end ∷ ends) some q is =
    or_right _ _ (input_among name (suc first) i ends some q (is ∙ ap (λ n. record { node = name; port = n }) (omega arith)))

kept_among : (name : Name) (port : ℕ) (ends : EndList) → IsSome (kept_end ends port) → is_in port_cmp (record { node = name; port = port }) (inputs_from name 1 ends) ≡ true
kept_among name zero ends some = absurd (true≢false (sym some))
kept_among name (suc i) ends some = input_among name 1 i ends some (record { node = name; port = suc i }) (ap (λ n. record { node = name; port = n }) (omega arith))

some_kept : (o : Option (Option PortAt)) (p : PortAt) → flat o ≡ Some p → IsSome o
some_kept None p e = absurd (none-some _ e)
some_kept (Some end) p e = refl

module _ (c : CellsValue) where
  ins_kept : (o : Option Cell) (port : ℕ) → then o (λ cell. kept_end cell.ins port) ≡ kept_end (ins_in o) port
  ins_kept None zero = refl
  ins_kept None (suc i) = refl
  ins_kept (Some cell) port = refl

  inputs_among : (es : List (Name × NodeId)) (q : Port) (id : NodeId) → finite.find name_cmp q.node es ≡ Some id → IsSome (slot_at c Ins (record { node = id; port = q.port })) → is_in port_cmp q (inputs_of c es) ≡ true
  inputs_among [] q id listed some = absurd (none-some _ listed)
  inputs_among ((name, other) ∷ es) q id listed some =
      elim (name_cases q.node name) [
        | inl one ↦
            let is : other ≡ id = same_Some _ _ (sym (ap (λ b. cond b (Some other) (finite.find name_cmp q.node es)) (same_test name_total name_same q.node name one)) ∙ listed) in
            let kept : IsSome (kept_end (ins_in (finite.get c.cells other)) q.port) =
            subst IsSome (ap (λ (i : NodeId). slot_at c Ins (record { node = i; port = q.port })) (sym is) ∙ ins_kept (finite.get c.cells other) q.port) some in
            any_left _ (inputs_from name 1 (ins_in (finite.get c.cells other))) (inputs_of c es)
            (subst (λ n. is_in port_cmp (record { node = n; port = q.port }) (inputs_from name 1 (ins_in (finite.get c.cells other))) ≡ true) (sym one) (kept_among name q.port (ins_in (finite.get c.cells other)) kept))
        | inr two ↦
            any_right _ (inputs_from name 1 (ins_in (finite.get c.cells other))) (inputs_of c es)
            (inputs_among es q id (sym (ap (λ b. cond b (Some other) (finite.find name_cmp q.node es)) (other_test name_total name_same q.node name two)) ∙ listed) some)
      ]

  -- Look-ups

  pub get_id : (id : NodeId) → finite.get (ids_of c) id ≡ option_map (λ node. node.name) (node_at c id)
  get_id id = get-map_values (λ cell. cell.node.name) c.cells id ∙ twice (finite.get c.cells id)
    where
      twice : (o : Option Cell) → option_map (λ cell. cell.node.name) o ≡ option_map (λ node. node.name) (option_map (λ cell. cell.node) o)
      twice None = refl
      twice (Some cell) = refl

  module _ (table : IdsByName) where
    pub get_node : (name : Name) → finite.get (value_of c table).graph.nodes name ≡ body_under c table name
    get_node name = get-tabulate name_total name_same (body_under c table) (finite.keys table) name (λ body is. sym (finite.contains_key-keys table name) ∙ some_of (finite.get table name) body is)
      where
        some_of : (o : Option NodeId) (body : Body) → then o (λ id. option_map body_of (node_at c id)) ≡ Some body → is_some o ≡ true
        some_of None body e = absurd (none-some _ e)
        some_of (Some id) body e = refl

    pub get_feeder : (q : Port) → finite.get (value_of c table).graph.feeders q ≡ feeder_under c table q
    get_feeder q = get-tabulate port_total port_same (feeder_under c table) (inputs_of c (finite.entries table)) q (λ source is. at source (finite.get table q.node) refl is)
      where
        some_end : (o : Option PortAt) (source : Port) → option_map (port_by (ids_of c)) o ≡ Some source → (p : PortAt) × (o ≡ Some p)
        some_end None source e = absurd (none-some _ e)
        some_end (Some p) source e = (p, refl)

        at : (source : Port) (o : Option NodeId) → finite.get table q.node ≡ o → then o (λ id. option_map (port_by (ids_of c)) (end_at c Ins (record { node = id; port = q.port }))) ≡ Some source → is_in port_cmp q (inputs_of c (finite.entries table)) ≡ true
        at source None listed is = absurd (none-some _ is)
        at source (Some id) listed is =
            let end = some_end (end_at c Ins (record { node = id; port = q.port })) source is in
            inputs_among (finite.entries table) q id (sym (finite.get-entries table q.node) ∙ listed) (some_kept (slot_at c Ins (record { node = id; port = q.port })) end.0 end.1)
