-- The condition is the root of what decides at the first lane's Branch.
use Rattle.std.proofs.Common.{◌≡◌, Option, Some, None, List, MatchOption, sym, subst, ◌∙◌}
use Rattle.std.specs.Prelude.{slice_get}
use Rattle.std.proofs.lemmas.Option.{same_Some, none-some}
use Rattle.circuits.specs.Circuit.{circuit_of}
use Rattle.circuits.specs.Root.{Root}
use Rattle.loop_laws.specs.Reached.{port_at}
use Rattle.graph_core.specs.declared.place.PortAt.{PortAt}
use Rattle.graph_core.specs.GraphValue.{GraphValue, name_by, port_of}
use Rattle.loop_find.specs.declared.shape.Lane.{Lane}
use Rattle.loop_find.specs.Lanes.{IsCondition}
use Rattle.loop_find.specs.Roots.{IsRootOf}

module _ (g : GraphValue) (xs : List Lane) where
  pub no_condition : slice_get xs 0 ≡ None → (root : PortAt) → ¬ (IsCondition g xs root)
  no_condition none root is = none-some is.lane (sym none ∙ is.first)

  pub its_condition : (x : Lane) → slice_get xs 0 ≡ Some x → (found : Option PortAt) → IsRootOf g (record { node = x.branch; port = 2 }) found →
      MatchOption found ((root : PortAt) → ¬ (IsCondition g xs root)) (IsCondition g xs)
  its_condition x at None none = λ root is. none (port_of g root) (subst (λ (y : Lane). Root (circuit_of g.graph) (port_at (name_by g.ids y.branch) 2) (port_of g root)) (same_Some is.lane x (sym is.first ∙ at)) is.its_root)
  its_condition x at (Some root) is = record { lane = x; first = at; its_root = is.root; ends = is.ends; denotes = is.denotes }
