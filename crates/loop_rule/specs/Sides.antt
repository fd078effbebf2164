-- The wires of the two graphs as lists, where an end of a wire tells its node by its place.
use Rattle.std.specs.Prelude.{Bool, List, [], ◌∷◌}
use Rattle.graph_core.specs.declared.exchange.End.{End}
use Rattle.graph_core.specs.declared.exchange.End.TheVariants.{Fresh}
use Rattle.loop_laws.specs.Polarity.{back_out, exit_out, back_in, fresh_in}

-- entry, init, mux, pure, pair, cond, branch, exit
abbrev pub old_ends : Bool → List (End × End)
old_ends goes_back =
    (Fresh 1 1, Fresh 2 1) ∷
    (Fresh 0 1, Fresh 2 (fresh_in goes_back)) ∷
    (Fresh 6 (back_out goes_back), Fresh 2 (back_in goes_back)) ∷
    (Fresh 2 1, Fresh 3 1) ∷
    (Fresh 3 1, Fresh 4 1) ∷
    (Fresh 4 1, Fresh 6 1) ∷
    (Fresh 4 2, Fresh 5 1) ∷
    (Fresh 5 1, Fresh 6 2) ∷
    (Fresh 5 2, Fresh 1 1) ∷
    (Fresh 6 (exit_out goes_back), Fresh 7 1) ∷
    []

-- entry, tagger, merge, tag, pure, pair, retag, branch, exit
abbrev pub new_ends : Bool → List (End × End)
new_ends goes_back =
    (Fresh 0 1, Fresh 1 1) ∷
    (Fresh 1 1, Fresh 2 1) ∷
    (Fresh 2 1, Fresh 3 1) ∷
    (Fresh 3 1, Fresh 6 1) ∷
    (Fresh 3 2, Fresh 4 1) ∷
    (Fresh 4 1, Fresh 5 1) ∷
    (Fresh 5 1, Fresh 6 2) ∷
    (Fresh 5 2, Fresh 7 2) ∷
    (Fresh 6 1, Fresh 7 1) ∷
    (Fresh 7 (back_out goes_back), Fresh 2 2) ∷
    (Fresh 7 (exit_out goes_back), Fresh 1 2) ∷
    (Fresh 1 2, Fresh 8 1) ∷
    []
