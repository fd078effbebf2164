-- Entries and Exits that come in rows, one for each lane.
use Rattle.std.specs.Prelude.{ℕ, suc, List, [], ◌∷◌, ◌++◌}
use Rattle.std.specs.Fmt.{decimal}
use Rattle.components.specs.declared.kind.Kind.{Kind}
use Rattle.components.specs.declared.kind.Kind.TheVariants as kind
use Rattle.components.specs.declared.node.Node.{Node}
use Rattle.components.specs.Kind.{Shape}
use Rattle.subst_engine.specs.Making.{bare_node}
use Rattle.subst_engine.specs.Prefix.{prefix_text}
use Rattle.drawn_rules.specs.declared.row_ends.EndKind.{EndKind}
use Rattle.drawn_rules.specs.declared.row_ends.EndKind.TheVariants.{Entry, Exit}

abbrev pub end_kind : EndKind → Shape → Kind
end_kind Entry shape = kind.Entry shape
end_kind Exit shape = kind.Exit shape

-- named by the prefix of a number, a letter and a number
abbrev pub end_node : EndKind → ℕ → List ℕ → ℕ → Shape → Node
end_node end ends letter number shape = bare_node (prefix_text ends ++ (letter ++ decimal number)) (end_kind end shape)

-- one for each shape, from this number on
abbrev pub end_nodes : EndKind → ℕ → List ℕ → ℕ → List Shape → List Node
end_nodes end ends letter number [] = []
end_nodes end ends letter number (shape ∷ shapes) = end_node end ends letter number shape ∷ end_nodes end ends letter (suc number) shapes
