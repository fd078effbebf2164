-- What the rule uses between combined Muxes and a gathered loop make, by ports.
use Rattle.std.specs.Prelude.{ℕ, zero, suc, Bool, true, false, if◌then◌else◌, List, [], ◌∷◌, ◌++◌, length, Option, Some, None, bytes_eq, nat_eq}
use Rattle.std.specs.List.{concat}
use Rattle.components.specs.Kind.{Shape}
use Rattle.components.specs.Name.{Name, Port, port_get}
use Rattle.components.specs.declared.kind.Kind.{Kind}
use Rattle.components.specs.declared.kind.Kind.TheVariants.{Fork, Join, Split, Branch, Pure}
use Rattle.fun_expr.specs.Function.{Function}
use Rattle.circuits.specs.Buffers.{bypass}
use Rattle.circuits.specs.Circuit.{Circuit}
use Rattle.loop_laws.specs.Loop.{Loop, shapes_of, branches_of}
use Rattle.loop_laws.specs.Polarity.{back_out, exit_out}
use Rattle.loop_laws.specs.Reached.{port_at}
use Rattle.loop_turns.specs.Gathered.{GatherNode, GatherNode.one_in, GatherNode.one_mux, GatherNode.one_pure, GatherNode.one_pair, GatherNode.one_cond, GatherNode.one_branch, GatherNode.one_out}
use Rattle.loop_turns.specs.Lanes.{next_place}
use Rattle.loop_turns.specs.Rebuilt.{new_at, has_name, kind_or, source_or, moved}
use Rattle.loop_turns.specs.Uses.{CombineNode, CombineNode.lanes_in, CombineNode.lanes_back, CombineNode.lanes_mux, CombineNode.lanes_vars, combined_graph}

-- the number of a name in a list
abbrev pub name_place : List Name → Name → Option ℕ
name_place [] n = None
name_place (k ∷ ks) n = if bytes_eq k n then Some 1 else next_place (name_place ks n)

-- the new nodes of a gathered body
pub data GatherUse : Type 0 where
  use_pure use_pair use_vals use_fork : GatherUse

abbrev pub gather_uses : List GatherUse
gather_uses = use_pure ∷ use_pair ∷ use_vals ∷ use_fork ∷ []

abbrev pub gather_use_kind : Function → List Shape → GatherUse → Kind
gather_use_kind f shapes use_pure = Pure f (concat shapes ++ 1 ∷ [])
gather_use_kind f shapes use_pair = Split (concat shapes ∷ (1 ∷ []) ∷ [])
gather_use_kind f shapes use_vals = Split shapes
gather_use_kind f shapes use_fork = Fork (1 ∷ []) (suc (length shapes))

abbrev pub gather_use_source : Circuit → Name → (GatherUse → Name) → GatherUse → ℕ → Option Port
gather_use_source h v name use_pure (suc zero) = h.feeder (port_at v 1)
gather_use_source h v name use_pair (suc zero) = Some (port_at (name use_pure) 1)
gather_use_source h v name use_vals (suc zero) = Some (port_at (name use_pair) 1)
gather_use_source h v name use_fork (suc zero) = Some (port_at (name use_pair) 2)
gather_use_source h v name _ _ = None

-- the data and condition wires and the mark's come from the new nodes
abbrev pub gather_taken : (GatherUse → Name) → ℕ → Option ℕ → Bool → ℕ → Option Port → Option Port
gather_taken name count place is_mark i None = None
gather_taken name count (Some j) is_mark i (Some q) = Some (port_at (if nat_eq i 1 then name use_vals else name use_fork) j)
gather_taken name count None true i (Some q) = Some (port_at (name use_fork) (suc count))
gather_taken name count None false i (Some q) = Some q

-- h with the Split v and the nodes bs gathered
abbrev pub gather_made : Circuit → Name → List Name → List Name → Name → Function → List Shape → (GatherUse → Name) → Circuit
gather_made h v bs rs m f shapes name =
    record {
      kind_at = λ n. kind_or (gather_use_kind f shapes) (new_at name gather_uses n) (if has_name (v ∷ bs) n then None else h.kind_at n);
      feeder = λ p.
          source_or (gather_use_source h v name) (new_at name gather_uses p.node) p.port
          (if has_name (v ∷ bs) p.node then None else gather_taken name (length rs) (name_place rs p.node) (bytes_eq p.node m) p.port (h.feeder p));
    }

-- the new nodes of combined Branches
pub data BranchUse : Type 0 where
  use_data use_cond use_branch use_again use_out : BranchUse

abbrev pub branch_uses : List BranchUse
branch_uses = use_data ∷ use_cond ∷ use_branch ∷ use_again ∷ use_out ∷ []

abbrev pub branch_use_kind : List Shape → BranchUse → Kind
branch_use_kind shapes use_data = Join shapes
branch_use_kind shapes use_cond = Fork (1 ∷ []) 2
branch_use_kind shapes use_branch = Branch (concat shapes)
branch_use_kind shapes use_again = Split shapes
branch_use_kind shapes use_out = Split shapes

abbrev pub branch_place : Bool → (BranchUse → Name) → Name → Option ℕ → Port → Port
branch_place d name fork (Some j) q = port_at (if nat_eq q.port (back_out d) then name use_again else name use_out) j
branch_place d name fork None q = if bytes_eq q.node fork then port_at (name use_cond) 2 else q

-- a back output is one of again, an exit one of out, and the Fork's last output is one of cond
abbrev pub branch_out : Bool → (BranchUse → Name) → Name → List Name → Port → Port
branch_out d name fork rs q = branch_place d name fork (name_place rs q.node) q

abbrev pub branch_data : Circuit → (Port → Port) → Option Name → Option Port
branch_data h out None = None
branch_data h out (Some r) = moved out (h.feeder (port_at r 1))

abbrev pub branch_use_source : Circuit → Name → List Name → Bool → (BranchUse → Name) → BranchUse → ℕ → Option Port
branch_use_source h fork rs d name use_data j = branch_data h (branch_out d name fork rs) (port_get rs j)
branch_use_source h fork rs d name use_cond (suc zero) = moved (branch_out d name fork rs) (h.feeder (port_at fork 1))
branch_use_source h fork rs d name use_branch (suc zero) = Some (port_at (name use_data) 1)
branch_use_source h fork rs d name use_branch (suc (suc zero)) = Some (port_at (name use_cond) 1)
branch_use_source h fork rs d name use_again (suc zero) = Some (port_at (name use_branch) (back_out d))
branch_use_source h fork rs d name use_out (suc zero) = Some (port_at (name use_branch) (exit_out d))
branch_use_source h fork rs d name _ _ = None

-- h with the Branches rs, whose conditions come from the Fork, combined
abbrev pub branches_made : Circuit → Name → List Name → Bool → List Shape → (BranchUse → Name) → Circuit
branches_made h fork rs d shapes name =
    record {
      kind_at = λ n. kind_or (branch_use_kind shapes) (new_at name branch_uses n) (if has_name (fork ∷ rs) n then None else h.kind_at n);
      feeder = λ p.
          source_or (branch_use_source h fork rs d name) (new_at name branch_uses p.node) p.port
          (if has_name (fork ∷ rs) p.node then None else moved (branch_out d name fork rs) (h.feeder p));
    }

-- h without the Split s and the Join j that it feeds
abbrev pub split_join_made : Circuit → Name → Name → Circuit
split_join_made h s j =
    record {
      kind_at = λ n. if has_name (s ∷ j ∷ []) n then None else h.kind_at n;
      feeder = λ p. if has_name (s ∷ j ∷ []) p.node then None else bypass j (h.feeder (port_at s 1)) (h.feeder p);
    }

-- the names of the new nodes on the way
pub data ChainNode : Type 0 where
  c_in c_back c_mux c_vars c_pure c_pair c_vals c_fork c_data c_cond c_branch c_again c_out : ChainNode

abbrev pub chain_nodes : List ChainNode
chain_nodes = c_in ∷ c_back ∷ c_mux ∷ c_vars ∷ c_pure ∷ c_pair ∷ c_vals ∷ c_fork ∷ c_data ∷ c_cond ∷ c_branch ∷ c_again ∷ c_out ∷ []

abbrev pub gather_use_at : GatherUse → ChainNode
gather_use_at use_pure = c_pure
gather_use_at use_pair = c_pair
gather_use_at use_vals = c_vals
gather_use_at use_fork = c_fork

abbrev pub branch_use_at : BranchUse → ChainNode
branch_use_at use_data = c_data
branch_use_at use_cond = c_cond
branch_use_at use_branch = c_branch
branch_use_at use_again = c_again
branch_use_at use_out = c_out

abbrev pub combine_at : CombineNode → ChainNode
combine_at lanes_in = c_in
combine_at lanes_back = c_back
combine_at lanes_mux = c_mux
combine_at lanes_vars = c_vars

abbrev pub gather_at : GatherNode → ChainNode
gather_at one_in = c_in
gather_at one_mux = c_mux
gather_at one_pure = c_pure
gather_at one_pair = c_pair
gather_at one_cond = c_cond
gather_at one_branch = c_branch
gather_at one_out = c_out

-- the loop l at m, whose back paths have no Buffers, after mux_combine, gather, branch_combine and two split_joins
abbrev pub gather_chain : Circuit → Name → Loop → Function → (ChainNode → Name) → Circuit
gather_chain g m l f name =
    split_join_made
    (split_join_made
    (branches_made
    (gather_made (combined_graph g m l (λ x. name (combine_at x))) (name c_vars) l.body (branches_of l) m f (shapes_of l) (λ x. name (gather_use_at x)))
    (name c_fork) (branches_of l) l.goes_back (shapes_of l) (λ x. name (branch_use_at x)))
    (name c_vals) (name c_data))
    (name c_again) (name c_back)
