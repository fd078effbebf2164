-- What an instance of the rule is, and what is read of its nodes.
use Rattle.std.proofs.Common.{◌≡◌, ℕ, zero, suc, ◌<◌, ◌^◌, Bool, true, false, refl, sym, ap, subst, ◌∙◌, length, map, List, [], ◌∷◌, Option, Some, None, IsSome, is_some, arith, true≢false}
use Rattle.std.specs.FinMap as finite
use Rattle.std.specs.List.{AllByRecursion}
use Rattle.std.proofs.lemmas.Option.{none-some, same_Some}
use Rattle.fun_expr.specs.Function.{Function}
use Rattle.components.specs.declared.kind.Kind.{Kind}
use Rattle.components.specs.declared.kind.Kind.TheVariants.{Init, Mux, Pure}
use Rattle.components.specs.Name.{Name, Port, IsName, port_get}
use Rattle.components.specs.Kind.{Shape, ins, outs, KindOk}
use Rattle.components.specs.Node.{Body}
use Rattle.components.specs.NamedGraph.{NamedGraph, IsTyped, HasAllowedNames}
use Rattle.circuits.specs.Circuit.{circuit_of, kind_of_body}
use Rattle.circuits.specs.Replacing.{NoneTwice, is_inner, head, tail}
use Rattle.circuits.specs.ReplacedGraph.{Matches}
use Rattle.circuit_plans.specs.Drawing.{wire}
use Rattle.loop_laws.specs.Polarity.{exit_bit}
use Rattle.tagged_loop.specs.LoopFunction.{with_bit}
use Rattle.tagged_loop.specs.InOrderLoop.{InOrderNode, LoopParts, init, mux, pure, pair, cond, branch, in_order_kind, in_order, in_order_loop}
use Rattle.tagged_loop.specs.Laws.{TaggingIsRule, TaggedLoopRefines}
use Rattle.subst_engine.specs.Rule.{NamedRule, IsSoundRule}
use Rattle.loop_rule.specs.Listed.{IsNodeOf, ReadsLoop, AreListed, CanMakeSides}
use Rattle.loop_rule.specs.TagLoop.{nth, old_name, new_name, tag_loop, IsInstance, IsTagLoop}
use Rattle.drawn_rules.proofs.DrawnMade.{node_at, wire_fed}
use Rattle.loop_rule.proofs.NamesDiffer.{old_differ}
use Rattle.loop_rule.proofs.SidesMade.{old_in, can_tag, old_targets_differ}

-- the rule meets what a rule owes
pub sound : TaggingIsRule → TaggedLoopRefines → (prefix tags : ℕ) (names : List Name) (loop : LoopParts) → CanMakeSides prefix tags names loop → IsSoundRule (tag_loop prefix tags names loop)
sound rule refines prefix tags names loop h =
    let tag = can_tag prefix tags names loop h in
    record { is_rule = rule loop tags (old_name names) (new_name prefix names) tag; refines = refines loop tags (old_name names) (new_name prefix names) tag }

-- the node that a kind is of
record HasBody (g : NamedGraph) (n : Name) (k : Kind) : Type 0 where
  body : Body
  there : finite.get g.nodes n ≡ Some body
  is_kind : body.kind ≡ k

body_by : (g : NamedGraph) (n : Name) (k : Kind) (o : Option Body) → finite.get g.nodes n ≡ o → kind_of_body o ≡ Some k → HasBody g n k
body_by g n k None e f = absurd (none-some k f)
body_by g n k (Some body) e f = record { body = body; there = e; is_kind = same_Some body.kind k f }

body_at : (g : NamedGraph) (n : Name) (k : Kind) → (circuit_of g).kind_at n ≡ Some k → HasBody g n k
body_at g n k e = body_by g n k (finite.get g.nodes n) refl e

ok_at : (g : NamedGraph) → IsTyped g → (n : Name) (k : Kind) → (circuit_of g).kind_at n ≡ Some k → KindOk k
ok_at g typed n k e = let b = body_at g n k e in subst KindOk b.is_kind (typed.kinds n b.body b.there)

name_by : (g : NamedGraph) → HasAllowedNames g → (n : Name) (o : Option Kind) → (circuit_of g).kind_at n ≡ o → IsSome o → IsName n
name_by g allowed n None e some = absurd (true≢false (sym some))
name_by g allowed n (Some k) e some = let b = body_at g n k e in allowed n b.body b.there

-- An instance

all_nth : (P : Name → Type 0) (names : List Name) → ((i : ℕ) → i < length names → P (nth names i)) → AllByRecursion P names
all_nth P [] h = tt
all_nth P (n ∷ names) h = (h 0 (omega arith), all_nth P names (λ i lt. h (suc i) (omega (arith, lt))))

module _ (g : NamedGraph) (prefix tags : ℕ) (names : List Name) (loop : LoopParts) (at : IsInstance g prefix tags names loop) where
  abbrev once : NoneTwice (map (old_name names) (in_order loop).nodes)
  once = old_differ names at.six at.differ

  kind_left : (n : InOrderNode) → (circuit_of (in_order_loop loop (old_name names))).kind_at (old_name names n) ≡ Some (in_order_kind loop n)
  kind_left n = ap kind_of_body (node_at (in_order loop) (old_name names) old_in once n)

  pub kind_there : (n : InOrderNode) → is_inner (Some (in_order_kind loop n)) ≡ true → (circuit_of g).kind_at (old_name names n) ≡ Some (in_order_kind loop n)
  kind_there n inner = at.matches.nodes (old_name names n) (ap is_inner (kind_left n) ∙ inner) ∙ kind_left n

  node_there : (n : InOrderNode) → is_inner (Some (in_order_kind loop n)) ≡ true → IsNodeOf g (old_name names n)
  node_there n inner = ap is_some (kind_there n inner)

  nodes_there : (i : ℕ) → i < length names → IsNodeOf g (nth names i)
  nodes_there zero lt = node_there init refl
  nodes_there (suc zero) lt = node_there mux refl
  nodes_there (suc (suc zero)) lt = node_there pure refl
  nodes_there (suc (suc (suc zero))) lt = node_there pair refl
  nodes_there (suc (suc (suc (suc zero)))) lt = node_there cond refl
  nodes_there (suc (suc (suc (suc (suc zero))))) lt = node_there branch refl
  nodes_there (suc (suc (suc (suc (suc (suc i)))))) lt = let six = at.six in absurd (omega (arith, six, lt))

  pub instance_listed : AreListed g tags names
  instance_listed = record { some = at.some; few = at.few; six = at.six; differ = at.differ; nodes = all_nth (IsNodeOf g) names nodes_there }

  -- what the Mux gives, the Pure takes
  pub input_is : IsTyped g → loop.fun.input ≡ loop.shape
  input_is typed =
      let target : Port = record { node = nth names 2; port = 1 } in
      let source : Port = record { node = nth names 1; port = 1 } in
      let left = wire_fed (in_order loop) (old_name names) old_in once (old_targets_differ names loop once) (wire mux 1 pure 1) (tail (tail (tail (head refl)))) in
      let fed : finite.get g.feeders target ≡ Some source = (at.matches.wires target source (ap is_inner (kind_left pure)) (ap is_inner (kind_left mux))).1 left in
      let w = typed.wires target source fed in
      let from_kind : w.from.kind ≡ Mux loop.shape = same_Some w.from.kind (Mux loop.shape) (sym (ap kind_of_body w.is_from) ∙ kind_there mux refl) in
      let to_kind : w.to.kind ≡ Pure loop.fun (with_bit loop.shape) = same_Some w.to.kind (Pure loop.fun (with_bit loop.shape)) (sym (ap kind_of_body w.is_to) ∙ kind_there pure refl) in
      let gives : loop.shape ≡ w.shape = same_Some loop.shape w.shape (ap (λ k. port_get (outs k) 1) (sym from_kind) ∙ w.leaves) in
      let takes : loop.fun.input ≡ w.shape = same_Some loop.fun.input w.shape (ap (λ k. port_get (ins k) 1) (sym to_kind) ∙ w.enters) in
      takes ∙ sym gives

  pub instance_reads : IsTyped g → ReadsLoop g names loop
  instance_reads typed = record { init = kind_there init refl; mux = kind_there mux refl; pure = kind_there pure refl; input = input_is typed }

-- What is read is one loop

exit_bit_tells : (a b : Bool) → exit_bit a ≡ exit_bit b → a ≡ b
exit_bit_tells true true e = refl
exit_bit_tells true false e = absurd (omega (arith, e))
exit_bit_tells false true e = absurd (omega (arith, e))
exit_bit_tells false false e = refl

mux_tells : (a b : Shape) → Mux a ≡ Mux b → a ≡ b
mux_tells a b e = cc

init_tells : (v w m n : ℕ) → Init v m ≡ Init w n → (v ≡ w) × (m ≡ n)
init_tells v w m n e = (let k : v ≡ w = cc in k, let k : m ≡ n = cc in k)

pure_tells : (f h : Function) (a b : Shape) → Pure f a ≡ Pure h b → f ≡ h
pure_tells f h a b e = cc

pub reads_one : (g : NamedGraph) (names : List Name) (a b : LoopParts) → ReadsLoop g names a → ReadsLoop g names b → a ≡ b
reads_one g names a b h k =
    let inits = init_tells (exit_bit a.goes_back) (exit_bit b.goes_back) a.mark b.mark (same_Some _ _ (sym h.init ∙ k.init)) in
    let shapes = mux_tells a.shape b.shape (same_Some _ _ (sym h.mux ∙ k.mux)) in
    let funs = pure_tells a.fun b.fun (with_bit a.shape) (with_bit b.shape) (same_Some _ _ (sym h.pure ∙ k.pure)) in
    let ways = exit_bit_tells a.goes_back b.goes_back inits.0 in
    λ i. record { shape = shapes i; fun = funs i; goes_back = ways i; mark = inits.1 i }

-- the graphs can be made
pub can_make_sides : (g : NamedGraph) → IsTyped g → HasAllowedNames g → (prefix tags : ℕ) (names : List Name) (loop : LoopParts) → prefix < 2 ^ 64 → AreListed g tags names → ReadsLoop g names loop → CanMakeSides prefix tags names loop
can_make_sides g typed allowed prefix tags names loop small listed reads =
    record {
      number = small;
      some = listed.some;
      few = listed.few;
      six = listed.six;
      differ = listed.differ;
      allowed = names_of names listed.nodes;
      function = record { input = reads.input; ok = ok_at g typed (nth names 2) (in_order_kind loop pure) reads.pure };
      mark = (ok_at g typed (nth names 0) (in_order_kind loop init) reads.init).1;
    }
  where
    names_of : (ns : List Name) → AllByRecursion (IsNodeOf g) ns → AllByRecursion IsName ns
    names_of [] h = tt
    names_of (n ∷ ns) h = (name_by g allowed n ((circuit_of g).kind_at n) refl h.0, names_of ns h.1)

-- An instance of what was read

-- it is an instance where its graphs match
pub instance_of : (g : NamedGraph) (prefix tags : ℕ) (names : List Name) (loop : LoopParts) (rule : NamedRule) → AreListed g tags names → rule ≡ tag_loop prefix tags names loop → Matches g rule.left rule.right → IsTagLoop g prefix tags names rule
instance_of g prefix tags names loop rule listed is matches =
    record {
      loop = loop;
      at = record {
        some = listed.some;
        few = listed.few;
        six = listed.six;
        differ = listed.differ;
        matches = subst (λ (r : NamedRule). Matches g r.left r.right) is matches;
      };
      is = is;
    }

-- and there is none where they do not
pub no_instance : (g : NamedGraph) (prefix tags : ℕ) (names : List Name) (loop : LoopParts) (rule : NamedRule) → IsTyped g → ReadsLoop g names loop → rule ≡ tag_loop prefix tags names loop → ¬ (Matches g rule.left rule.right) →
    (other : LoopParts) → IsInstance g prefix tags names other → ⊥
no_instance g prefix tags names loop rule typed reads is never other at =
    let same : other ≡ loop = reads_one g names other loop (instance_reads g prefix tags names other at typed) reads in
    never (subst (λ (r : NamedRule). Matches g r.left r.right) (ap (tag_loop prefix tags names) same ∙ sym is) at.matches)
