-- The names of the new nodes between combined Muxes and a gathered loop.
use Rattle.std.proofs.Common.{◌≡◌, inl, inr, ℕ, refl, sym, ap, ◌∙◌, Bool, true, false, bytes_eq, nat_eq, if◌then◌else◌, List, Option, Some, None}
use Rattle.std.proofs.lemmas.Bool.Decides.{Decides-eqb}
use Rattle.std.proofs.lemmas.Option.{same_Some}
use Rattle.components.specs.Name.{Name}
use Rattle.circuits.proofs.Beside.{none_some}
use Rattle.circuits.specs.Replacing.{In, In.head, In.tail}
use Rattle.loop_turns.proofs.LoopLookups.{new_none, new_found}
use Rattle.loop_turns.specs.GatherChain.{GatherUse, GatherUse.use_pure, GatherUse.use_pair, GatherUse.use_vals, GatherUse.use_fork, gather_uses, BranchUse, BranchUse.use_data, BranchUse.use_cond, BranchUse.use_branch, BranchUse.use_again, BranchUse.use_out, branch_uses, ChainNode, ChainNode.c_in, ChainNode.c_back, ChainNode.c_mux, ChainNode.c_vars, ChainNode.c_pure, ChainNode.c_pair, ChainNode.c_vals, ChainNode.c_fork, ChainNode.c_data, ChainNode.c_cond, ChainNode.c_branch, ChainNode.c_again, ChainNode.c_out, chain_nodes, gather_use_at, branch_use_at, combine_at, gather_at}
use Rattle.loop_turns.specs.Gathered.{GatherNode, GatherNode.one_in, GatherNode.one_mux, GatherNode.one_pure, GatherNode.one_pair, GatherNode.one_cond, GatherNode.one_branch, GatherNode.one_out, gather_nodes}
use Rattle.loop_turns.specs.Rebuilt.{new_at}
use Rattle.loop_turns.specs.Uses.{CombineNode, CombineNode.lanes_in, CombineNode.lanes_back, CombineNode.lanes_mux, CombineNode.lanes_vars, combine_nodes}
use Rattle.circuits.proofs.Names.{name_cases}

pub each_chain : (x : ChainNode) → In x chain_nodes
each_chain c_in = head refl
each_chain c_back = tail (head refl)
each_chain c_mux = tail (tail (head refl))
each_chain c_vars = tail (tail (tail (head refl)))
each_chain c_pure = tail (tail (tail (tail (head refl))))
each_chain c_pair = tail (tail (tail (tail (tail (head refl)))))
each_chain c_vals = tail (tail (tail (tail (tail (tail (head refl))))))
each_chain c_fork = tail (tail (tail (tail (tail (tail (tail (head refl)))))))
each_chain c_data = tail (tail (tail (tail (tail (tail (tail (tail (head refl))))))))
each_chain c_cond = tail (tail (tail (tail (tail (tail (tail (tail (tail (head refl)))))))))
each_chain c_branch = tail (tail (tail (tail (tail (tail (tail (tail (tail (tail (head refl))))))))))
each_chain c_again = tail (tail (tail (tail (tail (tail (tail (tail (tail (tail (tail (head refl)))))))))))
each_chain c_out = tail (tail (tail (tail (tail (tail (tail (tail (tail (tail (tail (tail (head refl))))))))))))

-- numbers that tell them apart
abbrev pub code : ChainNode → ℕ
code c_in = 0
code c_back = 1
code c_mux = 2
code c_vars = 3
code c_pure = 4
code c_pair = 5
code c_vals = 6
code c_fork = 7
code c_data = 8
code c_cond = 9
code c_branch = 10
code c_again = 11
code c_out = 12

abbrev pub same_chain : ChainNode → ChainNode → Bool
same_chain x y = nat_eq (code x) (code y)

-- which use a name is of
abbrev pub combine_of : ChainNode → Option CombineNode
combine_of c_in = Some lanes_in
combine_of c_back = Some lanes_back
combine_of c_mux = Some lanes_mux
combine_of c_vars = Some lanes_vars
combine_of _ = None

abbrev pub gather_use_of : ChainNode → Option GatherUse
gather_use_of c_pure = Some use_pure
gather_use_of c_pair = Some use_pair
gather_use_of c_vals = Some use_vals
gather_use_of c_fork = Some use_fork
gather_use_of _ = None

abbrev pub branch_use_of : ChainNode → Option BranchUse
branch_use_of c_data = Some use_data
branch_use_of c_cond = Some use_cond
branch_use_of c_branch = Some use_branch
branch_use_of c_again = Some use_again
branch_use_of c_out = Some use_out
branch_use_of _ = None

abbrev pub gather_of : ChainNode → Option GatherNode
gather_of c_in = Some one_in
gather_of c_mux = Some one_mux
gather_of c_pure = Some one_pure
gather_of c_pair = Some one_pair
gather_of c_cond = Some one_cond
gather_of c_branch = Some one_branch
gather_of c_out = Some one_out
gather_of _ = None

-- a use's name is found exactly at that node
module _ (name : ChainNode → Name) (apart : (x y : ChainNode) → name x ≡ name y → x ≡ y) where
  module _ {U : Type 0} (of : ChainNode → Option U) (at : U → ChainNode) (there : (u : U) → of (at u) ≡ Some u) (back : (x : ChainNode) (u : U) → of x ≡ Some u → at u ≡ x) (uses : List U) (all : (u : U) → In u uses) where
    found_at : (x : ChainNode) (o : Option U) → of x ≡ o → new_at (λ u. name (at u)) uses (name x) ≡ o
    found_at x None e = new_none (λ u. name (at u)) uses (name x) (λ u i s. none_some (of x) u e (ap of (sym (apart (at u) x s)) ∙ there u))
    found_at x (Some u) e =
        ap (λ z. new_at (λ u. name (at u)) uses (name z)) (sym (back x u e))
        ∙ new_found (λ u. name (at u)) uses (λ a b i j s. same_Some a b (sym (there a) ∙ ap of (apart (at a) (at b) s) ∙ there b)) u (all u)

    pub new_of : (x : ChainNode) → new_at (λ u. name (at u)) uses (name x) ≡ of x
    new_of x = found_at x (of x) refl

combine_there : (u : CombineNode) → combine_of (combine_at u) ≡ Some u
combine_there lanes_in = refl
combine_there lanes_back = refl
combine_there lanes_mux = refl
combine_there lanes_vars = refl

combine_back : (x : ChainNode) (u : CombineNode) → combine_of x ≡ Some u → combine_at u ≡ x
combine_back c_in u e = ap combine_at (sym (same_Some _ u e))
combine_back c_back u e = ap combine_at (sym (same_Some _ u e))
combine_back c_mux u e = ap combine_at (sym (same_Some _ u e))
combine_back c_vars u e = ap combine_at (sym (same_Some _ u e))
combine_back _ u e = absurd (none_some None u refl e)

combine_all : (u : CombineNode) → In u combine_nodes
combine_all lanes_in = head refl
combine_all lanes_back = tail (head refl)
combine_all lanes_mux = tail (tail (head refl))
combine_all lanes_vars = tail (tail (tail (head refl)))

use_there : (u : GatherUse) → gather_use_of (gather_use_at u) ≡ Some u
use_there use_pure = refl
use_there use_pair = refl
use_there use_vals = refl
use_there use_fork = refl

use_back : (x : ChainNode) (u : GatherUse) → gather_use_of x ≡ Some u → gather_use_at u ≡ x
use_back c_pure u e = ap gather_use_at (sym (same_Some _ u e))
use_back c_pair u e = ap gather_use_at (sym (same_Some _ u e))
use_back c_vals u e = ap gather_use_at (sym (same_Some _ u e))
use_back c_fork u e = ap gather_use_at (sym (same_Some _ u e))
use_back _ u e = absurd (none_some None u refl e)

use_all : (u : GatherUse) → In u gather_uses
use_all use_pure = head refl
use_all use_pair = tail (head refl)
use_all use_vals = tail (tail (head refl))
use_all use_fork = tail (tail (tail (head refl)))

branch_there : (u : BranchUse) → branch_use_of (branch_use_at u) ≡ Some u
branch_there use_data = refl
branch_there use_cond = refl
branch_there use_branch = refl
branch_there use_again = refl
branch_there use_out = refl

branch_back : (x : ChainNode) (u : BranchUse) → branch_use_of x ≡ Some u → branch_use_at u ≡ x
branch_back c_data u e = ap branch_use_at (sym (same_Some _ u e))
branch_back c_cond u e = ap branch_use_at (sym (same_Some _ u e))
branch_back c_branch u e = ap branch_use_at (sym (same_Some _ u e))
branch_back c_again u e = ap branch_use_at (sym (same_Some _ u e))
branch_back c_out u e = ap branch_use_at (sym (same_Some _ u e))
branch_back _ u e = absurd (none_some None u refl e)

branch_all : (u : BranchUse) → In u branch_uses
branch_all use_data = head refl
branch_all use_cond = tail (head refl)
branch_all use_branch = tail (tail (head refl))
branch_all use_again = tail (tail (tail (head refl)))
branch_all use_out = tail (tail (tail (tail (head refl))))

gather_there : (u : GatherNode) → gather_of (gather_at u) ≡ Some u
gather_there one_in = refl
gather_there one_mux = refl
gather_there one_pure = refl
gather_there one_pair = refl
gather_there one_cond = refl
gather_there one_branch = refl
gather_there one_out = refl

gather_back : (x : ChainNode) (u : GatherNode) → gather_of x ≡ Some u → gather_at u ≡ x
gather_back c_in u e = ap gather_at (sym (same_Some _ u e))
gather_back c_mux u e = ap gather_at (sym (same_Some _ u e))
gather_back c_pure u e = ap gather_at (sym (same_Some _ u e))
gather_back c_pair u e = ap gather_at (sym (same_Some _ u e))
gather_back c_cond u e = ap gather_at (sym (same_Some _ u e))
gather_back c_branch u e = ap gather_at (sym (same_Some _ u e))
gather_back c_out u e = ap gather_at (sym (same_Some _ u e))
gather_back _ u e = absurd (none_some None u refl e)

gather_all : (u : GatherNode) → In u gather_nodes
gather_all one_in = head refl
gather_all one_mux = tail (head refl)
gather_all one_pure = tail (tail (head refl))
gather_all one_pair = tail (tail (tail (head refl)))
gather_all one_cond = tail (tail (tail (tail (head refl))))
gather_all one_branch = tail (tail (tail (tail (tail (head refl)))))
gather_all one_out = tail (tail (tail (tail (tail (tail (head refl))))))

abbrev uncode : ℕ → ChainNode
uncode n =
    if nat_eq n 0 then c_in else (if nat_eq n 1 then c_back else (if nat_eq n 2 then c_mux else (if nat_eq n 3 then c_vars else (if nat_eq n 4 then c_pure else (
    if nat_eq n 5 then c_pair else (if nat_eq n 6 then c_vals else (if nat_eq n 7 then c_fork else (if nat_eq n 8 then c_data else (if nat_eq n 9 then c_cond else (
    if nat_eq n 10 then c_branch else (if nat_eq n 11 then c_again else c_out)))))))))))

uncoded : (x : ChainNode) → uncode (code x) ≡ x
uncoded c_in = refl
uncoded c_back = refl
uncoded c_mux = refl
uncoded c_vars = refl
uncoded c_pure = refl
uncoded c_pair = refl
uncoded c_vals = refl
uncoded c_fork = refl
uncoded c_data = refl
uncoded c_cond = refl
uncoded c_branch = refl
uncoded c_again = refl
uncoded c_out = refl

module _ (name : ChainNode → Name) (apart : (x y : ChainNode) → name x ≡ name y → x ≡ y) where
  same_self : (x : ChainNode) → same_chain x x ≡ true
  same_self c_in = refl
  same_self c_back = refl
  same_self c_mux = refl
  same_self c_vars = refl
  same_self c_pure = refl
  same_self c_pair = refl
  same_self c_vals = refl
  same_self c_fork = refl
  same_self c_data = refl
  same_self c_cond = refl
  same_self c_branch = refl
  same_self c_again = refl
  same_self c_out = refl

  nat_same : (i j : ℕ) → nat_eq i j ≡ true → i ≡ j
  nat_same i j e = (Decides-eqb i j).0 e

  false_or : (b : Bool) → (b ≡ true → ⊥) → b ≡ false
  false_or true h = absurd (h refl)
  false_or false h = refl

  -- names are compared as nodes are
  pub name_test : (x y : ChainNode) → bytes_eq (name x) (name y) ≡ same_chain x y
  name_test x y =
      elim (name_cases (name x) (name y)) [
        | inl is ↦ is.test ∙ sym (ap (same_chain x) (sym (apart x y is.is)) ∙ same_self x)
        | inr ne ↦ ne.test ∙ sym (false_or (same_chain x y) (λ e. ne.is_not (ap name (sym (uncoded x) ∙ ap uncode (nat_same (code x) (code y) e) ∙ uncoded y))))
      ]

  pub combine_new : (x : ChainNode) → new_at (λ u. name (combine_at u)) combine_nodes (name x) ≡ combine_of x
  combine_new = new_of name apart combine_of combine_at combine_there combine_back combine_nodes combine_all

  pub use_new : (x : ChainNode) → new_at (λ u. name (gather_use_at u)) gather_uses (name x) ≡ gather_use_of x
  use_new = new_of name apart gather_use_of gather_use_at use_there use_back gather_uses use_all

  pub branch_new : (x : ChainNode) → new_at (λ u. name (branch_use_at u)) branch_uses (name x) ≡ branch_use_of x
  branch_new = new_of name apart branch_use_of branch_use_at branch_there branch_back branch_uses branch_all

  pub gather_new : (x : ChainNode) → new_at (λ u. name (gather_at u)) gather_nodes (name x) ≡ gather_of x
  gather_new = new_of name apart gather_of gather_at gather_there gather_back gather_nodes gather_all
