-- Roots, and what the lanes reach, node by node; marks, row by row.
use Rattle.std.proofs.Common.{◌≡◌, ℕ, List, [], ◌∷◌, ◌++◌, length, replicate, Bool, false, ap, sym, ◌∙◌, append_assoc}
use Rattle.std.specs.Prelude.{Option}
use Rattle.components.specs.declared.kind.Kind.{Kind}
use Rattle.components.specs.Kind.{outs}
use Rattle.loop_body.specs.declared.body_port.BodyPort.{BodyPort}
use Rattle.loop_body.specs.Judging.{rows_of, unmarked, passed_root, roots_from}

pub roots_step : (before new : List (Option BodyPort)) (root : Option BodyPort) (kinds later : List Kind) (inputs others : List (List BodyPort)) (kind : Kind) (ports : List BodyPort) (whole : List (Option BodyPort)) →
    kinds ≡ kind ∷ later → inputs ≡ ports ∷ others → new ≡ before ++ root ∷ [] → root ≡ passed_root before kind ports → roots_from before kinds inputs ≡ whole → roots_from new later others ≡ whole
roots_step before new root kinds later inputs others kind ports whole is_kind are_ports is_new is_root so_far =
    ap (λ xs. roots_from xs later others) (is_new ∙ ap (λ r. before ++ r ∷ []) is_root) ∙ sym (ap (λ ks. roots_from before ks (ports ∷ others)) is_kind) ∙
    sym (ap (roots_from before kinds) are_ports) ∙ so_far

pub unmarked_step : (rows new : List (List Bool)) (row : List Bool) (count : ℕ) (kinds later : List Kind) (kind : Kind) (whole : List (List Bool)) →
    kinds ≡ kind ∷ later → new ≡ rows ++ row ∷ [] → row ≡ replicate count false → count ≡ length (outs kind) → rows ++ unmarked (rows_of kinds) ≡ whole → new ++ unmarked (rows_of later) ≡ whole
unmarked_step rows new row count kinds later kind whole is_kind is_new is_row is_count so_far =
    ap (λ xs. xs ++ unmarked (rows_of later)) (is_new ∙ ap (λ r. rows ++ r ∷ []) (is_row ∙ ap (λ n. replicate n false) is_count)) ∙
    append_assoc rows (replicate (length (outs kind)) false ∷ []) (unmarked (rows_of later)) ∙ sym (ap (λ ks. rows ++ unmarked (rows_of ks)) is_kind) ∙ so_far
