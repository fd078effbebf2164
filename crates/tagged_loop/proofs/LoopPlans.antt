-- The two loops as plans, and what the function of a loop makes of a fitting tuple.
use Rattle.std.proofs.Common.{◌≡◌, ℕ, zero, suc, Bool, true, false, if◌then◌else◌, refl, subst, Option, None}
use Rattle.port_types.specs.Token.{Fits}
use Rattle.fun_expr.specs.Function.{Function, fun_value}
use Rattle.fun_expr.specs.Laws.{FunValueFits}
use Rattle.components.specs.Kind.{Shape}
use Rattle.circuits.specs.PortTokens.{Token}
use Rattle.circuit_plans.specs.Plans.{Out, Plan, from}
use Rattle.loop_laws.specs.Polarity.{back_out, exit_out}
use Rattle.tagged_loop.specs.LoopFunction.{IsLoopFunction, with_bit}
use Rattle.tagged_loop.specs.InOrderLoop.{InOrderNode, LoopParts, entry, init, mux, pure, pair, cond, branch, exit, in_order_kind}
use Rattle.tagged_loop.specs.TaggedLoop.{TaggedNode, new_entry, tagger, merge, tag, new_pure, new_pair, retag, new_branch, new_exit, tagged_kind}

abbrev pub same_old : InOrderNode → InOrderNode → Bool
same_old entry entry = true
same_old init init = true
same_old mux mux = true
same_old pure pure = true
same_old pair pair = true
same_old cond cond = true
same_old branch branch = true
same_old exit exit = true
same_old _ _ = false

pub same_old_is : (a b : InOrderNode) → same_old a b ≡ true → a ≡ b
same_old_is entry entry e = refl
same_old_is init init e = refl
same_old_is mux mux e = refl
same_old_is pure pure e = refl
same_old_is pair pair e = refl
same_old_is cond cond e = refl
same_old_is branch branch e = refl
same_old_is exit exit e = refl
same_old_is _ _ e = cc

pub same_old_self : (a : InOrderNode) → same_old a a ≡ true
same_old_self entry = refl
same_old_self init = refl
same_old_self mux = refl
same_old_self pure = refl
same_old_self pair = refl
same_old_self cond = refl
same_old_self branch = refl
same_old_self exit = refl

abbrev pub same_new : TaggedNode → TaggedNode → Bool
same_new new_entry new_entry = true
same_new tagger tagger = true
same_new merge merge = true
same_new tag tag = true
same_new new_pure new_pure = true
same_new new_pair new_pair = true
same_new retag retag = true
same_new new_branch new_branch = true
same_new new_exit new_exit = true
same_new _ _ = false

pub same_new_is : (a b : TaggedNode) → same_new a b ≡ true → a ≡ b
same_new_is new_entry new_entry e = refl
same_new_is tagger tagger e = refl
same_new_is merge merge e = refl
same_new_is tag tag e = refl
same_new_is new_pure new_pure e = refl
same_new_is new_pair new_pair e = refl
same_new_is retag retag e = refl
same_new_is new_branch new_branch e = refl
same_new_is new_exit new_exit e = refl
same_new_is _ _ e = cc

pub same_new_self : (a : TaggedNode) → same_new a a ≡ true
same_new_self new_entry = refl
same_new_self tagger = refl
same_new_self merge = refl
same_new_self tag = refl
same_new_self new_pure = refl
same_new_self new_pair = refl
same_new_self retag = refl
same_new_self new_branch = refl
same_new_self new_exit = refl

-- the loop of f over tuples of shape a, with the bit d and the mark m
abbrev pub parts : Shape → Function → Bool → ℕ → LoopParts
parts a f d m = record { shape = a; fun = f; goes_back = d; mark = m }

abbrev pub in_order_source : Bool → InOrderNode → ℕ → Option (Out InOrderNode)
in_order_source d entry i = None
in_order_source d init (suc zero) = from cond 2
in_order_source d mux (suc zero) = from init 1
in_order_source d mux (suc (suc zero)) = if d then from entry 1 else from branch 2
in_order_source d mux (suc (suc (suc zero))) = if d then from branch 1 else from entry 1
in_order_source d pure (suc zero) = from mux 1
in_order_source d pair (suc zero) = from pure 1
in_order_source d cond (suc zero) = from pair 2
in_order_source d branch (suc zero) = from pair 1
in_order_source d branch (suc (suc zero)) = from cond 1
in_order_source d exit (suc zero) = from branch (exit_out d)
in_order_source d _ _ = None

abbrev pub in_order_plan : Shape → Function → Bool → ℕ → Plan InOrderNode
in_order_plan a f d m = record { kind = in_order_kind (parts a f d m); source = in_order_source d; same = same_old; same_is = same_old_is; same_self = same_old_self }

abbrev pub tagged_source : Bool → TaggedNode → ℕ → Option (Out TaggedNode)
tagged_source d new_entry i = None
tagged_source d tagger (suc zero) = from new_entry 1
tagged_source d tagger (suc (suc zero)) = from new_branch (exit_out d)
tagged_source d merge (suc zero) = from tagger 1
tagged_source d merge (suc (suc zero)) = from new_branch (back_out d)
tagged_source d tag (suc zero) = from merge 1
tagged_source d new_pure (suc zero) = from tag 2
tagged_source d new_pair (suc zero) = from new_pure 1
tagged_source d retag (suc zero) = from tag 1
tagged_source d retag (suc (suc zero)) = from new_pair 1
tagged_source d new_branch (suc zero) = from retag 1
tagged_source d new_branch (suc (suc zero)) = from new_pair 2
tagged_source d new_exit (suc zero) = from tagger 2
tagged_source d _ _ = None

abbrev pub tagged_plan : Shape → Function → Bool → ℕ → Plan TaggedNode
tagged_plan a f d n = record { kind = tagged_kind (parts a f d 0) n; source = tagged_source d; same = same_new; same_is = same_new_is; same_self = same_new_self }

-- the function maps tokens of its input to tokens of this shape
abbrev pub Maps : Function → Shape → Type 0
Maps f b = (v : Token) → Fits f.input v → Fits b (fun_value f v)

pub loop_maps : FunValueFits → (a : Shape) (f : Function) → IsLoopFunction a f → Maps f (with_bit a)
loop_maps law a f is v h = subst (λ b. Fits b (fun_value f v)) is.ok.2 (law f v is.ok.1 h)
