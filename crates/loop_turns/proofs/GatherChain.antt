-- From combined Muxes to a gathered loop.
use Rattle.std.proofs.Common.{◌≡◌, ◌≢◌, ◌⊎◌, inl, inr, ℕ, zero, suc, refl, sym, ap, subst, ◌∙◌, Bool, true, false, bytes_eq, nat_eq, if◌then◌else◌, List, [], ◌∷◌, ◌++◌, length, Option, Some, None}
use Rattle.components.specs.Name.{Name, Port, port_get}
use Rattle.components.specs.declared.kind.Kind.{Kind}
use Rattle.components.specs.declared.kind.Kind.TheVariants.{Branch, Init}
use Rattle.fun_expr.specs.Function.{Function}
use Rattle.circuits.proofs.Beside.{none_some, unfed}
use Rattle.circuits.specs.Buffers.{bypass}
use Rattle.circuits.specs.Circuit.{Circuit, Typed}
use Rattle.circuits.specs.Replacing.{In, In.head, In.tail}
use Rattle.loop_laws.proofs.Closed.{Inner, inner_node, mark_fed, inner_no_fresh, exit_or_inner, body_kind, branch_kind}
use Rattle.loop_laws.proofs.OneLoop.{in_map, map_in}
use Rattle.loop_laws.specs.Loop.{Lane, Loop, HasBranch, IsInside, LoopAt, NodeOf, NodeOf.is_mark, NodeOf.in_body, IsExit, shapes_of, muxes_of, branches_of}
use Rattle.loop_laws.specs.Polarity.{back_out, exit_out, exit_bit}
use Rattle.loop_laws.specs.Reached.{port_at}
use Rattle.loop_turns.proofs.ChainNames.{each_chain, same_chain, combine_of, gather_use_of, branch_use_of, gather_of, name_test, combine_new, use_new, branch_new, gather_new}
use Rattle.loop_turns.proofs.Lists.{in_or_out, in_left, in_right, other_test, circuit_same}
use Rattle.loop_turns.proofs.LoopFrame.{frame_in_loop, frame_node, node_frame, FrameNode, FrameNode.of_tree, FrameNode.of_lane, FrameNode.of_branch, FrameNode.of_back, in_branches, branches_in, mux_not_branch, mux_branch, body_no_frame, branches_unlike, branch_not_mark, mark_input, Third.third_mark, Third.third_frame, Third.third_body, third}
use Rattle.loop_turns.proofs.LoopLookups.{has_true, has_false, in_either, in_at, at_in, place_at, place_none, new_none, new_is, new_found}
use Rattle.loop_turns.proofs.TaggedDropped.{place_of_names}
use Rattle.loop_turns.specs.GatherChain.{name_place, GatherUse, gather_uses, gather_use_kind, gather_use_source, gather_taken, gather_made, BranchUse, branch_uses, branch_use_kind, branch_use_source, branch_place, branch_out, branches_made, split_join_made, ChainNode, ChainNode.c_in, ChainNode.c_back, ChainNode.c_mux, ChainNode.c_vars, ChainNode.c_pure, ChainNode.c_pair, ChainNode.c_vals, ChainNode.c_fork, ChainNode.c_data, ChainNode.c_cond, ChainNode.c_branch, ChainNode.c_again, ChainNode.c_out, chain_nodes, gather_use_at, branch_use_at, combine_at, gather_at, gather_chain}
use Rattle.loop_turns.specs.Gathered.{GatherNode, gather_nodes, gather_kind, gather_out, gather_source, gathered_graph}
use Rattle.loop_turns.specs.Lanes.{fed_lane, port_or, lane_place, next_place, fresh_of, frame_of}
use Rattle.loop_turns.specs.Rebuilt.{new_at, has_name, kind_or, source_or, moved, NewNames}
use Rattle.loop_turns.specs.Uses.{CombineNode, combine_nodes, combine_kind, combine_out, combine_source, combined_graph}
use Rattle.circuits.proofs.Names.{name_cases}

module _ (g : Circuit) (ty : Typed g) (m : Name) (l : Loop) (at : LoopAt g m l) (f : Function) (name : ChainNode → Name) (names : NewNames g chain_nodes name) where
  apart : (x y : ChainNode) → name x ≡ name y → x ≡ y
  apart x y e = names.apart x y (each_chain x) (each_chain y) e

  fresh : (x : ChainNode) → g.kind_at (name x) ≡ None
  fresh x = names.fresh x (each_chain x)

  abbrev S2 : Circuit
  S2 = combined_graph g m l (λ x. name (combine_at x))

  abbrev S3 : Circuit
  S3 = gather_made S2 (name c_vars) l.body (branches_of l) m f (shapes_of l) (λ x. name (gather_use_at x))

  abbrev S4 : Circuit
  S4 = branches_made S3 (name c_fork) (branches_of l) l.goes_back (shapes_of l) (λ x. name (branch_use_at x))

  abbrev S5 : Circuit
  S5 = split_join_made S4 (name c_vals) (name c_data)

  abbrev S6 : Circuit
  S6 = split_join_made S5 (name c_again) (name c_back)

  abbrev G : Circuit
  G = gathered_graph g m l f (λ x. name (gather_at x))

  -- an old name is in no list
  away : (ns : List Name) → ((n : Name) → In n ns → (k : Kind) × (g.kind_at n ≡ Some k)) → (x : ChainNode) → has_name ns (name x) ≡ false
  away ns old x = has_false ns (name x) (λ i. let (k, e) = old (name x) i in none_some (g.kind_at (name x)) k (fresh x) e)

  body_old : (n : Name) → In n l.body → (k : Kind) × (g.kind_at n ≡ Some k)
  body_old n i = let k = body_kind g ty m l at n i in (k.0, k.1)

  if_none : {A : Type 0} (c : Bool) (o : Option A) → o ≡ None → (if c then None else o) ≡ None
  if_none true o e = refl
  if_none false o e = e

  -- the kinds at the new names
  K2 : ChainNode → Option Kind
  K2 x = kind_or (combine_kind l) (combine_of x) None

  kind2 : (x : ChainNode) → S2.kind_at (name x) ≡ kind_or (combine_kind l) (combine_of x) None
  kind2 x =
      ap (λ o. kind_or (combine_kind l) o (if has_name (l.tree ++ muxes_of l) (name x) then None else g.kind_at (name x))) (combine_new name apart x)
      ∙ ap (kind_or (combine_kind l) (combine_of x)) (if_none (has_name (l.tree ++ muxes_of l) (name x)) (g.kind_at (name x)) (fresh x))

  listed_new : (y : ChainNode) (ns : List Name) → ((n : Name) → In n ns → (k : Kind) × (g.kind_at n ≡ Some k)) → (x : ChainNode) → has_name (name y ∷ ns) (name x) ≡ same_chain y x
  listed_new y ns old x =
      ap (λ b. if b then true else has_name ns (name x)) (name_test name apart y x) ∙ ap (λ b. if same_chain y x then true else b) (away ns old x) ∙ both (same_chain y x)
    where
      both : (b : Bool) → (if b then true else false) ≡ b
      both true = refl
      both false = refl

  branches_old : (n : Name) → In n (branches_of l) → (k : Kind) × (g.kind_at n ≡ Some k)
  branches_old n i = let k = branch_kind g ty m l at n (in_branches l.lanes n i) in (Branch k.0, k.1)

  kind3 : (x : ChainNode) → S3.kind_at (name x) ≡ kind_or (gather_use_kind f (shapes_of l)) (gather_use_of x) (if same_chain c_vars x then None else kind_or (combine_kind l) (combine_of x) None)
  kind3 x =
      ap (λ o. kind_or (gather_use_kind f (shapes_of l)) o (if has_name (name c_vars ∷ l.body) (name x) then None else S2.kind_at (name x))) (use_new name apart x)
      ∙ ap (λ b. kind_or (gather_use_kind f (shapes_of l)) (gather_use_of x) (if b then None else S2.kind_at (name x))) (listed_new c_vars l.body body_old x)
      ∙ ap (λ k. kind_or (gather_use_kind f (shapes_of l)) (gather_use_of x) (if same_chain c_vars x then None else k)) (kind2 x)

  kind4 : (x : ChainNode) → S4.kind_at (name x) ≡ kind_or (branch_use_kind (shapes_of l)) (branch_use_of x) (if same_chain c_fork x then None else kind_or (gather_use_kind f (shapes_of l)) (gather_use_of x) (if same_chain c_vars x then None else kind_or (combine_kind l) (combine_of x) None))
  kind4 x =
      ap (λ o. kind_or (branch_use_kind (shapes_of l)) o (if has_name (name c_fork ∷ branches_of l) (name x) then None else S3.kind_at (name x))) (branch_new name apart x)
      ∙ ap (λ b. kind_or (branch_use_kind (shapes_of l)) (branch_use_of x) (if b then None else S3.kind_at (name x))) (listed_new c_fork (branches_of l) branches_old x)
      ∙ ap (λ k. kind_or (branch_use_kind (shapes_of l)) (branch_use_of x) (if same_chain c_fork x then None else k)) (kind3 x)

  two_listed : (y z x : ChainNode) → has_name (name y ∷ name z ∷ []) (name x) ≡ (if same_chain y x then true else (if same_chain z x then true else false))
  two_listed y z x =
      ap (λ b. if b then true else (if bytes_eq (name z) (name x) then true else false)) (name_test name apart y x)
      ∙ ap (λ b. if same_chain y x then true else (if b then true else false)) (name_test name apart z x)

  kind6 : (x : ChainNode) → S6.kind_at (name x) ≡
      (if (if same_chain c_again x then true else (if same_chain c_back x then true else false)) then None else
      (if (if same_chain c_vals x then true else (if same_chain c_data x then true else false)) then None else
      kind_or (branch_use_kind (shapes_of l)) (branch_use_of x) (if same_chain c_fork x then None else kind_or (gather_use_kind f (shapes_of l)) (gather_use_of x) (if same_chain c_vars x then None else kind_or (combine_kind l) (combine_of x) None))))
  kind6 x =
      ap (λ b. if b then None else S5.kind_at (name x)) (two_listed c_again c_back x)
      ∙ ap (λ k. if (if same_chain c_again x then true else (if same_chain c_back x then true else false)) then None else k)
      (ap (λ b. if b then None else S4.kind_at (name x)) (two_listed c_vals c_data x)
      ∙ ap (λ k. if (if same_chain c_vals x then true else (if same_chain c_data x then true else false)) then None else k) (kind4 x))

  kindG : (x : ChainNode) → G.kind_at (name x) ≡ kind_or (gather_kind l f) (gather_of x) None
  kindG x =
      ap (λ o. kind_or (gather_kind l f) o (if has_name (frame_of l ++ l.body) (name x) then None else g.kind_at (name x))) (gather_new name apart x)
      ∙ ap (kind_or (gather_kind l f) (gather_of x)) (if_none (has_name (frame_of l ++ l.body) (name x)) (g.kind_at (name x)) (fresh x))

  new_kinds : (x : ChainNode) → S6.kind_at (name x) ≡ G.kind_at (name x)
  new_kinds c_in = kind6 c_in ∙ sym (kindG c_in)
  new_kinds c_back = kind6 c_back ∙ sym (kindG c_back)
  new_kinds c_mux = kind6 c_mux ∙ sym (kindG c_mux)
  new_kinds c_vars = kind6 c_vars ∙ sym (kindG c_vars)
  new_kinds c_pure = kind6 c_pure ∙ sym (kindG c_pure)
  new_kinds c_pair = kind6 c_pair ∙ sym (kindG c_pair)
  new_kinds c_vals = kind6 c_vals ∙ sym (kindG c_vals)
  new_kinds c_fork = kind6 c_fork ∙ sym (kindG c_fork)
  new_kinds c_data = kind6 c_data ∙ sym (kindG c_data)
  new_kinds c_cond = kind6 c_cond ∙ sym (kindG c_cond)
  new_kinds c_branch = kind6 c_branch ∙ sym (kindG c_branch)
  new_kinds c_again = kind6 c_again ∙ sym (kindG c_again)
  new_kinds c_out = kind6 c_out ∙ sym (kindG c_out)

  -- what feeds the new names
  abbrev nC : CombineNode → Name
  nC u = name (combine_at u)

  abbrev nU : GatherUse → Name
  nU u = name (gather_use_at u)

  abbrev nB : BranchUse → Name
  nB u = name (branch_use_at u)

  abbrev nG : GatherNode → Name
  nG u = name (gather_at u)

  abbrev out4 : Port → Port
  out4 = branch_out l.goes_back nB (name c_fork) (branches_of l)

  unfed_new : (x : ChainNode) (i : ℕ) → g.feeder (port_at (name x) i) ≡ None
  unfed_new x i = unfed g ty (port_at (name x) i) (fresh x)

  none_moved : (out : Port → Port) (x : ChainNode) (i : ℕ) → moved out (g.feeder (port_at (name x) i)) ≡ None
  none_moved out x i = ap (moved out) (unfed_new x i)

  place_away : (ns : List Name) (n : Name) → (In n ns → ⊥) → name_place ns n ≡ None
  place_away [] n o = refl
  place_away (k ∷ ks) n o =
      ap (λ b. if b then Some 1 else next_place (name_place ks n)) (other_test k n (λ e. o (head (sym e)))) ∙ ap next_place (place_away ks n (λ i. o (tail i)))

  new_no_branch : (x : ChainNode) → In (name x) (branches_of l) → ⊥
  new_no_branch x i = let (k, e) = branches_old (name x) i in none_some (g.kind_at (name x)) k (fresh x) e

  new_not_mark : (x : ChainNode) → name x ≢ m
  new_not_mark x e = none_some (g.kind_at (name x)) (Init (exit_bit l.goes_back) l.tags) (fresh x) (ap g.kind_at e ∙ at.mark.0)

  taken_same : (K i : ℕ) (o : Option Port) → gather_taken nU K None false i o ≡ o
  taken_same K i None = refl
  taken_same K i (Some q) = refl

  fed2 : (x : ChainNode) (i : ℕ) → S2.feeder (port_at (name x) i) ≡ source_or (combine_source g m l nC) (combine_of x) i None
  fed2 x i =
      ap (λ o. source_or (combine_source g m l nC) o i (if has_name (l.tree ++ muxes_of l) (name x) then None else moved (combine_out l nC) (g.feeder (port_at (name x) i)))) (combine_new name apart x)
      ∙ ap (source_or (combine_source g m l nC) (combine_of x) i) (if_none (has_name (l.tree ++ muxes_of l) (name x)) (moved (combine_out l nC) (g.feeder (port_at (name x) i))) (none_moved (combine_out l nC) x i))

  fed3 : (x : ChainNode) (i : ℕ) → S3.feeder (port_at (name x) i) ≡ source_or (gather_use_source S2 (name c_vars) nU) (gather_use_of x) i (if same_chain c_vars x then None else source_or (combine_source g m l nC) (combine_of x) i None)
  fed3 x i =
      ap (λ o. source_or (gather_use_source S2 (name c_vars) nU) o i (if has_name (name c_vars ∷ l.body) (name x) then None else gather_taken nU (length (branches_of l)) (name_place (branches_of l) (name x)) (bytes_eq (name x) m) i (S2.feeder (port_at (name x) i)))) (use_new name apart x)
      ∙ ap (λ b. source_or (gather_use_source S2 (name c_vars) nU) (gather_use_of x) i (if b then None else gather_taken nU (length (branches_of l)) (name_place (branches_of l) (name x)) (bytes_eq (name x) m) i (S2.feeder (port_at (name x) i)))) (listed_new c_vars l.body body_old x)
      ∙ ap (λ o. source_or (gather_use_source S2 (name c_vars) nU) (gather_use_of x) i (if same_chain c_vars x then None else o))
      (ap (λ o. gather_taken nU (length (branches_of l)) o (bytes_eq (name x) m) i (S2.feeder (port_at (name x) i))) (place_away (branches_of l) (name x) (new_no_branch x))
      ∙ ap (λ b. gather_taken nU (length (branches_of l)) None b i (S2.feeder (port_at (name x) i))) (other_test (name x) m (new_not_mark x))
      ∙ taken_same (length (branches_of l)) i (S2.feeder (port_at (name x) i)) ∙ fed2 x i)

  fed4 : (x : ChainNode) (i : ℕ) → S4.feeder (port_at (name x) i) ≡ source_or (branch_use_source S3 (name c_fork) (branches_of l) l.goes_back nB) (branch_use_of x) i (if same_chain c_fork x then None else moved out4 (S3.feeder (port_at (name x) i)))
  fed4 x i =
      ap (λ o. source_or (branch_use_source S3 (name c_fork) (branches_of l) l.goes_back nB) o i (if has_name (name c_fork ∷ branches_of l) (name x) then None else moved out4 (S3.feeder (port_at (name x) i)))) (branch_new name apart x)
      ∙ ap (λ b. source_or (branch_use_source S3 (name c_fork) (branches_of l) l.goes_back nB) (branch_use_of x) i (if b then None else moved out4 (S3.feeder (port_at (name x) i)))) (listed_new c_fork (branches_of l) branches_old x)

  fed5 : (x : ChainNode) (i : ℕ) → S5.feeder (port_at (name x) i) ≡ (if (if same_chain c_vals x then true else (if same_chain c_data x then true else false)) then None else bypass (name c_data) (S4.feeder (port_at (name c_vals) 1)) (S4.feeder (port_at (name x) i)))
  fed5 x i = ap (λ b. if b then None else bypass (name c_data) (S4.feeder (port_at (name c_vals) 1)) (S4.feeder (port_at (name x) i))) (two_listed c_vals c_data x)

  fed6 : (x : ChainNode) (i : ℕ) → S6.feeder (port_at (name x) i) ≡ (if (if same_chain c_again x then true else (if same_chain c_back x then true else false)) then None else bypass (name c_back) (S5.feeder (port_at (name c_again) 1)) (S5.feeder (port_at (name x) i)))
  fed6 x i = ap (λ b. if b then None else bypass (name c_back) (S5.feeder (port_at (name c_again) 1)) (S5.feeder (port_at (name x) i))) (two_listed c_again c_back x)

  fedG : (x : ChainNode) (i : ℕ) → G.feeder (port_at (name x) i) ≡ source_or (gather_source g m l nG) (gather_of x) i None
  fedG x i =
      ap (λ o. source_or (gather_source g m l nG) o i (if has_name (frame_of l ++ l.body) (name x) then None else moved (gather_out l nG) (g.feeder (port_at (name x) i)))) (gather_new name apart x)
      ∙ ap (source_or (gather_source g m l nG) (gather_of x) i) (if_none (has_name (frame_of l ++ l.body) (name x)) (moved (gather_out l nG) (g.feeder (port_at (name x) i))) (none_moved (gather_out l nG) x i))

  -- outputs of new nodes and of the mark under the later steps
  out4_new : (y : ChainNode) (j : ℕ) → out4 (port_at (name y) j) ≡ (if same_chain y c_fork then port_at (name c_cond) 2 else port_at (name y) j)
  out4_new y j =
      ap (λ o. branch_place l.goes_back nB (name c_fork) o (port_at (name y) j)) (place_away (branches_of l) (name y) (new_no_branch y))
      ∙ ap (λ b. if b then port_at (name c_cond) 2 else port_at (name y) j) (name_test name apart y c_fork)

  bypass_new : (b y : ChainNode) (j : ℕ) (w : Option Port) → bypass (name b) w (Some (port_at (name y) j)) ≡ (if same_chain y b then w else Some (port_at (name y) j))
  bypass_new b y j w = ap (λ c. if c then w else Some (port_at (name y) j)) (name_test name apart y b)

  bypass_old : (b : ChainNode) (w : Option Port) (q : Port) → q.node ≢ name b → bypass (name b) w (Some q) ≡ Some q
  bypass_old b w q ne = ap (λ c. if c then w else Some q) (other_test q.node (name b) ne)

  -- what replaces the Join data, and the Join back
  vals_fed : S4.feeder (port_at (name c_vals) 1) ≡ Some (port_at (name c_pair) 1)
  vals_fed = fed4 c_vals 1 ∙ ap (moved out4) (fed3 c_vals 1) ∙ ap Some (out4_new c_pair 1)

  again_fed : S5.feeder (port_at (name c_again) 1) ≡ Some (port_at (name c_branch) (back_out l.goes_back))
  again_fed =
      fed5 c_again 1 ∙ ap (bypass (name c_data) (S4.feeder (port_at (name c_vals) 1))) (fed4 c_again 1) ∙ bypass_new c_data c_branch (back_out l.goes_back) (S4.feeder (port_at (name c_vals) 1))

  -- the steps after the gathering, on what they leave
  last_two : Option Port → Option Port
  last_two o = bypass (name c_back) (S5.feeder (port_at (name c_again) 1)) (bypass (name c_data) (S4.feeder (port_at (name c_vals) 1)) o)

  last_new : (y : ChainNode) (j : ℕ) → same_chain y c_data ≡ false → same_chain y c_back ≡ false → last_two (Some (port_at (name y) j)) ≡ Some (port_at (name y) j)
  unfolding last_two
  last_new y j a b =
      ap (bypass (name c_back) (S5.feeder (port_at (name c_again) 1))) (bypass_new c_data y j (S4.feeder (port_at (name c_vals) 1)) ∙ ap (λ c. if c then S4.feeder (port_at (name c_vals) 1) else Some (port_at (name y) j)) a)
      ∙ bypass_new c_back y j (S5.feeder (port_at (name c_again) 1)) ∙ ap (λ c. if c then S5.feeder (port_at (name c_again) 1) else Some (port_at (name y) j)) b

  last_old : (q : Port) → ((x : ChainNode) → q.node ≢ name x) → last_two (Some q) ≡ Some q
  unfolding last_two
  last_old q ne = ap (bypass (name c_back) (S5.feeder (port_at (name c_again) 1))) (bypass_old c_data (S4.feeder (port_at (name c_vals) 1)) q (ne c_data)) ∙ bypass_old c_back (S5.feeder (port_at (name c_again) 1)) q (ne c_back)

  last_data : last_two (Some (port_at (name c_data) 1)) ≡ Some (port_at (name c_pair) 1)
  unfolding last_two
  last_data =
      ap (bypass (name c_back) (S5.feeder (port_at (name c_again) 1))) (bypass_new c_data c_data 1 (S4.feeder (port_at (name c_vals) 1)) ∙ vals_fed) ∙ bypass_new c_back c_pair 1 (S5.feeder (port_at (name c_again) 1))

  last_back : last_two (Some (port_at (name c_back) 1)) ≡ Some (port_at (name c_branch) (back_out l.goes_back))
  unfolding last_two
  last_back =
      ap (bypass (name c_back) (S5.feeder (port_at (name c_again) 1))) (bypass_new c_data c_back 1 (S4.feeder (port_at (name c_vals) 1)))
      ∙ bypass_new c_back c_back 1 (S5.feeder (port_at (name c_again) 1)) ∙ again_fed

  last_none : last_two None ≡ None
  unfolding last_two
  last_none = refl

  -- at the nodes that are still there
  abbrev Still : ChainNode → Type 0
  Still x = ((if same_chain c_again x then true else (if same_chain c_back x then true else false)) ≡ false) × ((if same_chain c_vals x then true else (if same_chain c_data x then true else false)) ≡ false)

  fed_last : (x : ChainNode) (i : ℕ) → Still x → S6.feeder (port_at (name x) i) ≡ last_two (S4.feeder (port_at (name x) i))
  unfolding last_two
  fed_last x i s =
      fed6 x i ∙ ap (λ b. if b then None else bypass (name c_back) (S5.feeder (port_at (name c_again) 1)) (S5.feeder (port_at (name x) i))) s.0
      ∙ ap (bypass (name c_back) (S5.feeder (port_at (name c_again) 1)))
      (fed5 x i ∙ ap (λ b. if b then None else bypass (name c_data) (S4.feeder (port_at (name c_vals) 1)) (S4.feeder (port_at (name x) i))) s.1)

  -- outputs from outside and exits
  old_source : (p q : Port) → g.feeder p ≡ Some q → (x : ChainNode) → q.node ≢ name x
  old_source p q h x e = let w = ty.wires p q h in none_some (g.kind_at (name x)) w.from (fresh x) (ap g.kind_at (sym e) ∙ w.is_from)

  out4_old : (q : Port) → (In q.node (branches_of l) → ⊥) → q.node ≢ name c_fork → out4 q ≡ q
  out4_old q o ne =
      ap (λ z. branch_place l.goes_back nB (name c_fork) z q) (place_away (branches_of l) q.node o) ∙ ap (λ b. if b then port_at (name c_cond) 2 else q) (other_test q.node (name c_fork) ne)

  out2_old : (q : Port) → ((x : Lane) → In x l.lanes → x.mux ≢ q.node) → combine_out l nC q ≡ q
  out2_old q o = ap (λ z. port_or z (name c_vars) q) (place_none (λ (x : Lane). x.mux) l.lanes q.node o)

  exit_test : (d : Bool) → nat_eq (exit_out d) (back_out d) ≡ false
  exit_test true = refl
  exit_test false = refl

  through_exit : (q : Port) → IsExit l q → last_two (Some (out4 (combine_out l nC q))) ≡ Some (gather_out l nG q)
  through_exit q (x, u, e) =
      let (j, k) = in_at l.lanes x u in
      let place : lane_place (λ (z : Lane). z.branch) l.lanes x.branch ≡ Some (suc j) = place_at (λ (z : Lane). z.branch) l.lanes (branches_unlike g ty m l at) (suc j) x k in
      let here : lane_place (λ (z : Lane). z.branch) l.lanes q.node ≡ Some (suc j) = ap (λ (z : Port). lane_place (λ (w : Lane). w.branch) l.lanes z.node) e ∙ place in
      let kept : combine_out l nC q ≡ q = out2_old q (λ y v s. mux_not_branch g ty m l at y x v u (s ∙ ap (λ (z : Port). z.node) e)) in
      let port : q.port ≡ exit_out l.goes_back = ap (λ (z : Port). z.port) e in
      let moved_to : out4 q ≡ port_at (name c_out) (suc j) =
      ap (λ z. branch_place l.goes_back nB (name c_fork) z q) (sym (place_of_names (λ (z : Lane). z.branch) l.lanes q.node) ∙ here)
      ∙ ap (λ b. port_at (if b then name c_again else name c_out) (suc j)) (ap (λ i. nat_eq i (back_out l.goes_back)) port ∙ exit_test l.goes_back) in
      let goal_is : gather_out l nG q ≡ port_at (name c_out) (suc j) =
      ap (λ z. port_or z (name c_out) (if has_name (frame_of l ++ l.body) q.node then port_at (name c_cond) 2 else q)) here in
      ap (λ z. last_two (Some z)) (ap out4 kept ∙ moved_to) ∙ last_new c_out (suc j) refl refl ∙ ap Some (sym goal_is)

  through_outside : (p q : Port) → g.feeder p ≡ Some q → (In q.node (m ∷ (frame_of l ++ l.body)) → ⊥) → last_two (Some (out4 (combine_out l nC q))) ≡ Some (gather_out l nG q)
  through_outside p q h o =
      let no_frame : In q.node (frame_of l) → ⊥ = λ i. o (tail (in_left q.node (frame_of l) l.body i)) in
      let kept : combine_out l nC q ≡ q = out2_old q (λ y v s. no_frame (node_frame l q.node (of_lane (y, v, s)))) in
      let out : out4 q ≡ q = out4_old q (λ i. no_frame (node_frame l q.node (of_branch (in_branches l.lanes q.node i)))) (old_source p q h c_fork) in
      let goal_is : gather_out l nG q ≡ q =
      ap (λ z. port_or z (name c_out) (if has_name (frame_of l ++ l.body) q.node then port_at (name c_cond) 2 else q))
      (place_none (λ (z : Lane). z.branch) l.lanes q.node (λ y v s. no_frame (node_frame l q.node (of_branch (y, v, s)))))
      ∙ ap (λ b. if b then port_at (name c_cond) 2 else q) (has_false (frame_of l ++ l.body) q.node (λ i. o (tail i))) in
      ap (λ z. last_two (Some z)) (ap out4 kept ∙ out) ∙ last_old q (old_source p q h) ∙ ap Some (sym goal_is)

  loop_node_of : (n : Name) → In n (m ∷ (frame_of l ++ l.body)) → NodeOf m l n
  loop_node_of n (head e) = is_mark e
  loop_node_of n (tail i) = elim (in_either n (frame_of l) l.body i) [ inl j ↦ frame_in_loop g ty m l at n j | inr b ↦ in_body b ]

  through : (p q : Port) → g.feeder p ≡ Some q → (Inner m l p → ⊥) → last_two (Some (out4 (combine_out l nC q))) ≡ Some (gather_out l nG q)
  through p q h inner =
      elim (in_or_out q.node (m ∷ (frame_of l ++ l.body))) [
        | inr o ↦ through_outside p q h o
        | inl i ↦ elim (exit_or_inner g ty m l at p q h (loop_node_of q.node i)) [ inl x ↦ through_exit q x | inr n ↦ absurd (inner n) ]
      ]

  through_any : (p : Port) → (Inner m l p → ⊥) → (o : Option Port) → g.feeder p ≡ o → last_two (moved out4 (moved (combine_out l nC) o)) ≡ moved (gather_out l nG) o
  through_any p inner None h = last_none
  through_any p inner (Some q) h = through p q h inner

  through_lane : (i : ℕ) (o : Option Lane) → port_get l.lanes i ≡ o → last_two (moved out4 (fed_lane g (combine_out l nC) o (fresh_of l) None)) ≡ fed_lane g (gather_out l nG) o (fresh_of l) None
  through_lane i None h = last_none
  through_lane i (Some x) h =
      through_any (fresh_of l x) (λ n. inner_no_fresh g ty m l at (fresh_of l x) n (x, at_in l.lanes i x h, refl)) (g.feeder (fresh_of l x)) refl

  -- the back and fresh inputs of mux
  two_way : (e : Bool) → l.goes_back ≡ e → last_two (moved out4 (if e then Some (port_at (name c_in) 1) else Some (port_at (name c_back) 1))) ≡ (if e then Some (port_at (name c_in) 1) else Some (port_at (name c_branch) 2))
  two_way true s = ap (λ z. last_two (Some z)) (out4_new c_in 1) ∙ last_new c_in 1 refl refl
  two_way false s = ap (λ z. last_two (Some z)) (out4_new c_back 1) ∙ last_back ∙ ap (λ z. Some (port_at (name c_branch) (back_out z))) s

  three_way : (e : Bool) → l.goes_back ≡ e → last_two (moved out4 (if e then Some (port_at (name c_back) 1) else Some (port_at (name c_in) 1))) ≡ (if e then Some (port_at (name c_branch) 1) else Some (port_at (name c_in) 1))
  three_way true s = ap (λ z. last_two (Some z)) (out4_new c_back 1) ∙ last_back ∙ ap (λ z. Some (port_at (name c_branch) (back_out z))) s
  three_way false s = ap (λ z. last_two (Some z)) (out4_new c_in 1) ∙ last_new c_in 1 refl refl

  mark_through : last_two (Some (out4 (port_at m 1))) ≡ Some (port_at m 1)
  mark_through =
      ap (λ z. last_two (Some z)) (out4_old (port_at m 1) (λ i. let (y, u, s) = in_branches l.lanes m i in branch_not_mark g ty m l at y u s) (λ e. new_not_mark c_fork (sym e)))
      ∙ last_old (port_at m 1) (λ x e. new_not_mark x (sym e))

  -- a node still there, by what feeds it after the gathering
  by_gathering : (x : ChainNode) (i : ℕ) → Still x → branch_use_of x ≡ None → same_chain c_fork x ≡ false → (o r : Option Port) → S3.feeder (port_at (name x) i) ≡ o → last_two (moved out4 o) ≡ r → S6.feeder (port_at (name x) i) ≡ r
  by_gathering x i s none fork o r h e =
      fed_last x i s
      ∙ ap last_two (fed4 x i ∙ ap (λ z. source_or (branch_use_source S3 (name c_fork) (branches_of l) l.goes_back nB) z i (if same_chain c_fork x then None else moved out4 (S3.feeder (port_at (name x) i)))) none
      ∙ ap (λ b. if b then None else moved out4 (S3.feeder (port_at (name x) i))) fork ∙ ap (moved out4) h) ∙ e

  none_there : (x : ChainNode) (i : ℕ) → Still x → S4.feeder (port_at (name x) i) ≡ None → S6.feeder (port_at (name x) i) ≡ None
  none_there x i s h = fed_last x i s ∙ ap last_two h ∙ last_none

  new_feeds : (x : ChainNode) (i : ℕ) → S6.feeder (port_at (name x) i) ≡ G.feeder (port_at (name x) i)
  new_feeds c_in i = by_gathering c_in i (refl, refl) refl refl _ _ (fed3 c_in i) (through_lane i (port_get l.lanes i) refl) ∙ sym (fedG c_in i)
  new_feeds c_mux (suc zero) = by_gathering c_mux 1 (refl, refl) refl refl _ _ (fed3 c_mux 1) mark_through ∙ sym (fedG c_mux 1)
  new_feeds c_mux (suc (suc zero)) = by_gathering c_mux 2 (refl, refl) refl refl _ _ (fed3 c_mux 2) (two_way l.goes_back refl) ∙ sym (fedG c_mux 2)
  new_feeds c_mux (suc (suc (suc zero))) = by_gathering c_mux 3 (refl, refl) refl refl _ _ (fed3 c_mux 3) (three_way l.goes_back refl) ∙ sym (fedG c_mux 3)
  new_feeds c_mux zero = none_there c_mux zero (refl, refl) (fed4 c_mux zero ∙ ap (moved out4) (fed3 c_mux zero)) ∙ sym (fedG c_mux zero)
  new_feeds c_mux (suc (suc (suc (suc i)))) = none_there c_mux (suc (suc (suc (suc i)))) (refl, refl) (fed4 c_mux _ ∙ ap (moved out4) (fed3 c_mux _)) ∙ sym (fedG c_mux _)
  new_feeds c_pure (suc zero) =
      by_gathering c_pure 1 (refl, refl) refl refl _ _ (fed3 c_pure 1 ∙ fed2 c_vars 1) (ap (λ z. last_two (Some z)) (out4_new c_mux 1) ∙ last_new c_mux 1 refl refl) ∙ sym (fedG c_pure 1)
  new_feeds c_pair (suc zero) =
      by_gathering c_pair 1 (refl, refl) refl refl _ _ (fed3 c_pair 1) (ap (λ z. last_two (Some z)) (out4_new c_pure 1) ∙ last_new c_pure 1 refl refl) ∙ sym (fedG c_pair 1)
  new_feeds c_cond (suc zero) =
      fed_last c_cond 1 (refl, refl) ∙ ap last_two (fed4 c_cond 1 ∙ ap (moved out4) (fed3 c_fork 1) ∙ ap Some (out4_new c_pair 2)) ∙ last_new c_pair 2 refl refl ∙ sym (fedG c_cond 1)
  new_feeds c_branch (suc zero) = fed_last c_branch 1 (refl, refl) ∙ ap last_two (fed4 c_branch 1) ∙ last_data ∙ sym (fedG c_branch 1)
  new_feeds c_branch (suc (suc zero)) = fed_last c_branch 2 (refl, refl) ∙ ap last_two (fed4 c_branch 2) ∙ last_new c_cond 1 refl refl ∙ sym (fedG c_branch 2)
  new_feeds c_out (suc zero) = fed_last c_out 1 (refl, refl) ∙ ap last_two (fed4 c_out 1) ∙ last_new c_branch (exit_out l.goes_back) refl refl ∙ sym (fedG c_out 1)
  new_feeds c_pure zero = none_there c_pure zero (refl, refl) (fed4 c_pure zero ∙ ap (moved out4) (fed3 c_pure zero)) ∙ sym (fedG c_pure zero)
  new_feeds c_pure (suc (suc i)) = none_there c_pure (suc (suc i)) (refl, refl) (fed4 c_pure _ ∙ ap (moved out4) (fed3 c_pure _)) ∙ sym (fedG c_pure _)
  new_feeds c_pair zero = none_there c_pair zero (refl, refl) (fed4 c_pair zero ∙ ap (moved out4) (fed3 c_pair zero)) ∙ sym (fedG c_pair zero)
  new_feeds c_pair (suc (suc i)) = none_there c_pair (suc (suc i)) (refl, refl) (fed4 c_pair _ ∙ ap (moved out4) (fed3 c_pair _)) ∙ sym (fedG c_pair _)
  new_feeds c_cond zero = none_there c_cond zero (refl, refl) (fed4 c_cond zero) ∙ sym (fedG c_cond zero)
  new_feeds c_cond (suc (suc i)) = none_there c_cond (suc (suc i)) (refl, refl) (fed4 c_cond _) ∙ sym (fedG c_cond _)
  new_feeds c_branch zero = none_there c_branch zero (refl, refl) (fed4 c_branch zero) ∙ sym (fedG c_branch zero)
  new_feeds c_branch (suc (suc (suc i))) = none_there c_branch (suc (suc (suc i))) (refl, refl) (fed4 c_branch _) ∙ sym (fedG c_branch _)
  new_feeds c_out zero = none_there c_out zero (refl, refl) (fed4 c_out zero) ∙ sym (fedG c_out zero)
  new_feeds c_out (suc (suc i)) = none_there c_out (suc (suc i)) (refl, refl) (fed4 c_out _) ∙ sym (fedG c_out _)
  new_feeds c_vars i = none_there c_vars i (refl, refl) (fed4 c_vars i ∙ ap (moved out4) (fed3 c_vars i)) ∙ sym (fedG c_vars i)
  new_feeds c_fork i = none_there c_fork i (refl, refl) (fed4 c_fork i) ∙ sym (fedG c_fork i)
  new_feeds c_back i = fed6 c_back i ∙ sym (fedG c_back i)
  new_feeds c_again i = fed6 c_again i ∙ sym (fedG c_again i)
  new_feeds c_vals i = fed6 c_vals i ∙ ap (bypass (name c_back) (S5.feeder (port_at (name c_again) 1))) (fed5 c_vals i) ∙ sym (fedG c_vals i)
  new_feeds c_data i = fed6 c_data i ∙ ap (bypass (name c_back) (S5.feeder (port_at (name c_again) 1))) (fed5 c_data i) ∙ sym (fedG c_data i)

  -- at old names
  module _ (bare : (x : Lane) → In x l.lanes → x.back ≡ []) (n : Name) (old : (x : ChainNode) → name x ≢ n) where
    old_two : (y z : ChainNode) → has_name (name y ∷ name z ∷ []) n ≡ false
    old_two y z =
        ap (λ b. if b then true else (if bytes_eq (name z) n then true else false)) (other_test (name y) n (old y)) ∙ ap (λ b. if b then true else false) (other_test (name z) n (old z))

    old_more : (y : ChainNode) (ns : List Name) → has_name (name y ∷ ns) n ≡ has_name ns n
    old_more y ns = ap (λ b. if b then true else has_name ns n) (other_test (name y) n (old y))

    combine_none : new_at nC combine_nodes n ≡ None
    combine_none = new_none nC combine_nodes n (λ u i s. old (combine_at u) s)

    use_none : new_at nU gather_uses n ≡ None
    use_none = new_none nU gather_uses n (λ u i s. old (gather_use_at u) s)

    branch_none : new_at nB branch_uses n ≡ None
    branch_none = new_none nB branch_uses n (λ u i s. old (branch_use_at u) s)

    gather_none : new_at nG gather_nodes n ≡ None
    gather_none = new_none nG gather_nodes n (λ u i s. old (gather_at u) s)

    o2 : S2.kind_at n ≡ (if has_name (l.tree ++ muxes_of l) n then None else g.kind_at n)
    o2 = ap (λ o. kind_or (combine_kind l) o (if has_name (l.tree ++ muxes_of l) n then None else g.kind_at n)) combine_none

    o3 : S3.kind_at n ≡ (if has_name l.body n then None else S2.kind_at n)
    o3 =
        ap (λ o. kind_or (gather_use_kind f (shapes_of l)) o (if has_name (name c_vars ∷ l.body) n then None else S2.kind_at n)) use_none
        ∙ ap (λ b. if b then None else S2.kind_at n) (old_more c_vars l.body)

    o4 : S4.kind_at n ≡ (if has_name (branches_of l) n then None else S3.kind_at n)
    o4 =
        ap (λ o. kind_or (branch_use_kind (shapes_of l)) o (if has_name (name c_fork ∷ branches_of l) n then None else S3.kind_at n)) branch_none
        ∙ ap (λ b. if b then None else S3.kind_at n) (old_more c_fork (branches_of l))

    o6 : S6.kind_at n ≡ S4.kind_at n
    o6 = ap (λ b. if b then None else S5.kind_at n) (old_two c_again c_back) ∙ ap (λ b. if b then None else S4.kind_at n) (old_two c_vals c_data)

    oG : G.kind_at n ≡ (if has_name (frame_of l ++ l.body) n then None else g.kind_at n)
    oG = ap (λ o. kind_or (gather_kind l f) o (if has_name (frame_of l ++ l.body) n then None else g.kind_at n)) gather_none

    -- where it goes
    data Goes : Type 0 where
      goes_combining : has_name (l.tree ++ muxes_of l) n ≡ true → Goes
      goes_gathering : has_name l.body n ≡ true → Goes
      goes_branching : has_name (branches_of l) n ≡ true → Goes

    goes_how : In n (frame_of l ++ l.body) → Goes
    goes_how i = elim (in_either n (frame_of l) l.body i) [ inl j ↦ in_frame (frame_node l n j) | inr b ↦ goes_gathering (has_true l.body n b) ]
      where
        in_frame : FrameNode l n → Goes
        in_frame (of_tree t) = goes_combining (has_true (l.tree ++ muxes_of l) n (in_left n l.tree (muxes_of l) t))
        in_frame (of_lane h) = goes_combining (has_true (l.tree ++ muxes_of l) n (in_right n l.tree (muxes_of l) (map_in l.lanes n h)))
        in_frame (of_branch h) = goes_branching (has_true (branches_of l) n (branches_in l.lanes n h))
        in_frame (of_back x u v) = elim (subst (In n) (bare x u) v) [ ]

    record Stays : Type 0 where
      combining : has_name (l.tree ++ muxes_of l) n ≡ false
      gathering : has_name l.body n ≡ false
      branching : has_name (branches_of l) n ≡ false
      all : has_name (frame_of l ++ l.body) n ≡ false

    no_branches : (In n (frame_of l ++ l.body) → ⊥) → In n (branches_of l) → ⊥
    no_branches o i = o (in_left n (frame_of l) l.body (node_frame l n (of_branch (in_branches l.lanes n i))))

    stays_how : (In n (frame_of l ++ l.body) → ⊥) → Stays
    stays_how o =
        record {
          combining = has_false (l.tree ++ muxes_of l) n (λ i.
              o (in_left n (frame_of l) l.body (elim (in_either n l.tree (muxes_of l) i) [ inl t ↦ node_frame l n (of_tree t) | inr x ↦ node_frame l n (of_lane (in_map l.lanes n x)) ])));
          gathering = has_false l.body n (λ i. o (in_right n (frame_of l) l.body i));
          branching = has_false (branches_of l) n (no_branches o);
          all = has_false (frame_of l ++ l.body) n o;
        }

    gone_kind : Goes → S4.kind_at n ≡ None
    gone_kind (goes_combining e) =
        o4 ∙ if_none (has_name (branches_of l) n) (S3.kind_at n) (o3 ∙ if_none (has_name l.body n) (S2.kind_at n) (o2 ∙ ap (λ b. if b then None else g.kind_at n) e))
    gone_kind (goes_gathering e) = o4 ∙ if_none (has_name (branches_of l) n) (S3.kind_at n) (o3 ∙ ap (λ b. if b then None else S2.kind_at n) e)
    gone_kind (goes_branching e) = o4 ∙ ap (λ b. if b then None else S3.kind_at n) e

    old_kinds : S6.kind_at n ≡ G.kind_at n
    old_kinds =
        elim (in_or_out n (frame_of l ++ l.body)) [
          | inl i ↦ o6 ∙ gone_kind (goes_how i) ∙ sym (oG ∙ ap (λ b. if b then None else g.kind_at n) (has_true (frame_of l ++ l.body) n i))
          | inr o ↦
              let s = stays_how o in
              o6 ∙ o4 ∙ ap (λ b. if b then None else S3.kind_at n) s.branching ∙ o3 ∙ ap (λ b. if b then None else S2.kind_at n) s.gathering ∙ o2 ∙ ap (λ b. if b then None else g.kind_at n) s.combining
              ∙ sym (oG ∙ ap (λ b. if b then None else g.kind_at n) s.all)
        ]

    -- what feeds them
    module _ (i : ℕ) where
      abbrev p : Port
      p = port_at n i

      taken_none : (K : ℕ) (w : Option ℕ) (b : Bool) → gather_taken nU K w b i None ≡ None
      taken_none K None true = refl
      taken_none K None false = refl
      taken_none K (Some j) true = refl
      taken_none K (Some j) false = refl

      f2 : S2.feeder p ≡ (if has_name (l.tree ++ muxes_of l) n then None else moved (combine_out l nC) (g.feeder p))
      f2 = ap (λ o. source_or (combine_source g m l nC) o i (if has_name (l.tree ++ muxes_of l) n then None else moved (combine_out l nC) (g.feeder p))) combine_none

      f3 : S3.feeder p ≡ (if has_name l.body n then None else gather_taken nU (length (branches_of l)) (name_place (branches_of l) n) (bytes_eq n m) i (S2.feeder p))
      f3 =
          ap (λ o. source_or (gather_use_source S2 (name c_vars) nU) o i (if has_name (name c_vars ∷ l.body) n then None else gather_taken nU (length (branches_of l)) (name_place (branches_of l) n) (bytes_eq n m) i (S2.feeder p))) use_none
          ∙ ap (λ b. if b then None else gather_taken nU (length (branches_of l)) (name_place (branches_of l) n) (bytes_eq n m) i (S2.feeder p)) (old_more c_vars l.body)

      f4 : S4.feeder p ≡ (if has_name (branches_of l) n then None else moved out4 (S3.feeder p))
      f4 =
          ap (λ o. source_or (branch_use_source S3 (name c_fork) (branches_of l) l.goes_back nB) o i (if has_name (name c_fork ∷ branches_of l) n then None else moved out4 (S3.feeder p))) branch_none
          ∙ ap (λ b. if b then None else moved out4 (S3.feeder p)) (old_more c_fork (branches_of l))

      f6 : S6.feeder p ≡ last_two (S4.feeder p)
      unfolding last_two
      f6 =
          ap (λ b. if b then None else bypass (name c_back) (S5.feeder (port_at (name c_again) 1)) (S5.feeder p)) (old_two c_again c_back)
          ∙ ap (bypass (name c_back) (S5.feeder (port_at (name c_again) 1))) (ap (λ b. if b then None else bypass (name c_data) (S4.feeder (port_at (name c_vals) 1)) (S4.feeder p)) (old_two c_vals c_data))

      fG : G.feeder p ≡ (if has_name (frame_of l ++ l.body) n then None else moved (gather_out l nG) (g.feeder p))
      fG = ap (λ o. source_or (gather_source g m l nG) o i (if has_name (frame_of l ++ l.body) n then None else moved (gather_out l nG) (g.feeder p))) gather_none

      gone_feeds : Goes → S4.feeder p ≡ None
      gone_feeds (goes_combining e) =
          f4 ∙ if_none (has_name (branches_of l) n) (moved out4 (S3.feeder p))
          (ap (moved out4) (f3 ∙ if_none (has_name l.body n) _ (ap (gather_taken nU (length (branches_of l)) (name_place (branches_of l) n) (bytes_eq n m) i) (f2 ∙ ap (λ b. if b then None else moved (combine_out l nC) (g.feeder p)) e) ∙ taken_none (length (branches_of l)) (name_place (branches_of l) n) (bytes_eq n m))))
      gone_feeds (goes_gathering e) =
          f4 ∙ if_none (has_name (branches_of l) n) (moved out4 (S3.feeder p))
          (ap (moved out4) (f3 ∙ ap (λ b. if b then None else gather_taken nU (length (branches_of l)) (name_place (branches_of l) n) (bytes_eq n m) i (S2.feeder p)) e))
      gone_feeds (goes_branching e) = f4 ∙ ap (λ b. if b then None else moved out4 (S3.feeder p)) e

      -- what fed the mark is cond
      inside_gathered : (q : Port) → IsInside l q.node → gather_out l nG q ≡ port_at (name c_cond) 2
      inside_gathered q s =
          ap (λ z. port_or z (name c_out) (if has_name (frame_of l ++ l.body) q.node then port_at (name c_cond) 2 else q)) (place_none (λ (x : Lane). x.branch) l.lanes q.node (λ y v e. not_branch s (y, v, e)))
          ∙ ap (λ b. if b then port_at (name c_cond) 2 else q) (has_true (frame_of l ++ l.body) q.node (inside_listed s))
        where
          not_branch : IsInside l q.node → HasBranch l q.node → ⊥
          not_branch (inl x) y = mux_branch g ty m l at q.node x y
          not_branch (inr b) y = body_no_frame g ty m l at q.node b (node_frame l q.node (of_branch y))

          inside_listed : IsInside l q.node → In q.node (frame_of l ++ l.body)
          inside_listed (inl x) = in_left q.node (frame_of l) l.body (node_frame l q.node (of_lane x))
          inside_listed (inr b) = in_right q.node (frame_of l) l.body b

      mark_feeds : n ≡ m → (o : Option Port) → g.feeder p ≡ o → last_two (moved out4 (gather_taken nU (length (branches_of l)) None true i (moved (combine_out l nC) o))) ≡ moved (gather_out l nG) o
      mark_feeds e None h = last_none
      mark_feeds e (Some q) h =
          let one : i ≡ 1 = mark_input g ty m l at p q h e in
          ap (λ z. last_two (Some z)) (out4_new c_fork (suc (length (branches_of l)))) ∙ last_new c_cond 2 refl refl
          ∙ ap Some (sym (inside_gathered q (mark_fed g ty m l at q (ap (λ z. g.feeder (port_at z 1)) (sym e) ∙ ap (λ j. g.feeder (port_at n j)) (sym one) ∙ h))))

      stays_feeds : (In n (frame_of l ++ l.body) → ⊥) → last_two (moved out4 (gather_taken nU (length (branches_of l)) None (bytes_eq n m) i (moved (combine_out l nC) (g.feeder p)))) ≡ moved (gather_out l nG) (g.feeder p)
      stays_feeds o =
          elim (name_cases n m) [
            | inl is ↦
                ap (λ b. last_two (moved out4 (gather_taken nU (length (branches_of l)) None b i (moved (combine_out l nC) (g.feeder p))))) is.test ∙ mark_feeds is.is (g.feeder p) refl
            | inr ne ↦
                ap (λ b. last_two (moved out4 (gather_taken nU (length (branches_of l)) None b i (moved (combine_out l nC) (g.feeder p))))) ne.test
                ∙ ap (λ z. last_two (moved out4 z)) (taken_same (length (branches_of l)) i (moved (combine_out l nC) (g.feeder p)))
                ∙ through_any p (λ k. outer ne.is_not (inner_node m l p k)) (g.feeder p) refl
          ]
        where
          outer : n ≢ m → NodeOf m l n → ⊥
          outer ne k =
              elim (third g ty m l at n k) [
                | third_mark e ↦ ne e
                | third_frame j ↦ o (in_left n (frame_of l) l.body j)
                | third_body b ↦ o (in_right n (frame_of l) l.body b)
              ]

      old_feeds : S6.feeder p ≡ G.feeder p
      old_feeds =
          elim (in_or_out n (frame_of l ++ l.body)) [
            | inl j ↦ f6 ∙ ap last_two (gone_feeds (goes_how j)) ∙ last_none ∙ sym (fG ∙ ap (λ b. if b then None else moved (gather_out l nG) (g.feeder p)) (has_true (frame_of l ++ l.body) n j))
            | inr o ↦
                let s = stays_how o in
                f6
                ∙ ap last_two (f4 ∙ ap (λ b. if b then None else moved out4 (S3.feeder p)) s.branching
                ∙ ap (moved out4) (f3 ∙ ap (λ b. if b then None else gather_taken nU (length (branches_of l)) (name_place (branches_of l) n) (bytes_eq n m) i (S2.feeder p)) s.gathering
                ∙ ap (λ w. gather_taken nU (length (branches_of l)) w (bytes_eq n m) i (S2.feeder p)) (place_away (branches_of l) n (no_branches o))
                ∙ ap (gather_taken nU (length (branches_of l)) None (bytes_eq n m) i) (f2 ∙ ap (λ b. if b then None else moved (combine_out l nC) (g.feeder p)) s.combining)))
                ∙ stays_feeds o ∙ sym (fG ∙ ap (λ b. if b then None else moved (gather_out l nG) (g.feeder p)) s.all)
          ]

  -- each name is one of the new ones, or old
  name_or : (n : Name) (o : Option ChainNode) → new_at name chain_nodes n ≡ o → ((x : ChainNode) × (name x ≡ n)) ⊎ ((x : ChainNode) → name x ≢ n)
  name_or n (Some x) e = inl (x, (new_is name chain_nodes n x e).1)
  name_or n None e =
      inr (λ x s. none_some (new_at name chain_nodes n) x e (ap (new_at name chain_nodes) (sym s) ∙ new_found name chain_nodes (λ a b i j t. apart a b t) x (each_chain x)))

  pub chain_gathers : ((x : Lane) → In x l.lanes → x.back ≡ []) → gather_chain g m l f name ≡ G
  chain_gathers bare =
      circuit_same S6 G
      (λ n. elim (name_or n (new_at name chain_nodes n) refl) [ inl t ↦ ap S6.kind_at (sym t.1) ∙ new_kinds t.0 ∙ ap G.kind_at t.1 | inr old ↦ old_kinds bare n old ])
      (λ p. elim (name_or p.node (new_at name chain_nodes p.node) refl) [
        | inl t ↦ ap (λ n. S6.feeder (port_at n p.port)) (sym t.1) ∙ new_feeds t.0 p.port ∙ ap (λ n. G.feeder (port_at n p.port)) t.1
        | inr old ↦ old_feeds bare p.node old p.port
      ])
