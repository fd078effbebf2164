-- A table of names answers as the finite map that it stands for.
use Rattle.std.proofs.Common.{◌≡◌, ◌≢◌, cond, inl, inr, List, [], ◌∷◌, map, Option, Some, None, bytes_eq, refl, sym, ap, ◌∙◌}
use Rattle.std.specs.FinMap as finite
use Rattle.std.specs.Ordering.{eq_by_cmp}
use Rattle.std.specs.Map.{lookup}
use Rattle.components.specs.Name.{Name, name_cmp}
use Rattle.graph_core.proofs.NameLookups.{has}
use Rattle.components.specs.Orders.{name_total, name_same, name_cases, same_bytes, other_bytes}
use Rattle.components.specs.Lookups.{same_test, other_test}

tests_agree : (a b : Name) → eq_by_cmp name_cmp a b ≡ bytes_eq a b
tests_agree a b =
    elim (name_cases a b) [
      | inl one ↦ same_test name_total name_same a b one ∙ sym (same_bytes a b one)
      | inr two ↦ other_test name_total name_same a b two ∙ sym (other_bytes a b two)
    ]

module _ {K X : Type 0} (bytes : K → Name) where
  abbrev pub shown : List (K × X) → List (Name × X)
  shown es = map (λ e. (bytes e.0, e.1)) es

  pub found_in_table : (name : Name) (es : List (K × X)) → finite.find name_cmp name (shown es) ≡ lookup (has bytes name) es
  found_in_table name [] = refl
  found_in_table name (e ∷ es) = λ i. cond (tests_agree name (bytes e.0) i) (Some e.1) (found_in_table name es i)

  pub get_in_table : (name : Name) (es : List (K × X)) → finite.get (finite.from_entries {R = name_cmp} (shown es)) name ≡ lookup (has bytes name) es
  get_in_table name es = finite.get-from_entries name_total (shown es) name ∙ found_in_table name es

  module _ (name : Name) (old new : List (K × X)) (others : (other : Name) → other ≢ name → lookup (has bytes other) new ≡ lookup (has bytes other) old) where
    at : (v : Option X) (q : Name) → lookup (has bytes name) new ≡ v → finite.get (finite.from_entries {R = name_cmp} (shown new)) q ≡ cond (eq_by_cmp name_cmp q name) v (finite.get (finite.from_entries {R = name_cmp} (shown old)) q)
    at v q here =
        elim (name_cases q name) [
          | inl one ↦ get_in_table q new ∙ ap (λ n. lookup (has bytes n) new) one ∙ here ∙ ap (λ t. cond t v (finite.get (finite.from_entries {R = name_cmp} (shown old)) q)) (sym (same_test name_total name_same q name one))
          | inr two ↦ get_in_table q new ∙ others q two ∙ sym (get_in_table q old) ∙ ap (λ t. cond t v (finite.get (finite.from_entries {R = name_cmp} (shown old)) q)) (sym (other_test name_total name_same q name two))
        ]

    pub table_with : (x : X) → lookup (has bytes name) new ≡ Some x → finite.from_entries {R = name_cmp} (shown new) ≡ finite.insert (finite.from_entries (shown old)) name x
    table_with x here = finite.same_map name_total name_same _ _ (λ q. at (Some x) q here ∙ sym (finite.get-insert name_total (finite.from_entries (shown old)) name x q))

    pub table_without : lookup (has bytes name) new ≡ None → finite.from_entries {R = name_cmp} (shown new) ≡ finite.remove (finite.from_entries (shown old)) name
    table_without here = finite.same_map name_total name_same _ _ (λ q. at None q here ∙ sym (finite.get-remove name_total (finite.from_entries (shown old)) name q))
