use Rattle.std.proofs.Common.{◌≡◌, ◌+◌, ◌-◌, ◌<◌, ◌≤◌, ◌∙◌, ℕ, suc, zero, List, [], ◌∷◌, Some, None, true, false, refl, sym, ap, arith, length, rules}
use Rattle.std.specs.List.{slice_get}
use Rattle.std.proofs.lemmas.Option.{slice_get-get_or}
use Rattle.mux_branch_rules.specs.declared.mux_tree.Source.{Source}
use Rattle.mux_branch_rules.specs.MuxTree.{ends}
use Rattle.mux_branch_rules.proofs.mux_tree.comes_from_outside.Goals as goal

none_ends : (k : ℕ) (sources : List Source) → ends k sources None ≡ false
none_ends zero sources = refl
none_ends (suc k) sources = refl

beyond : (sources : List Source) (place : ℕ) → length sources ≤ place → slice_get sources place ≡ None
beyond [] place far = refl
beyond (s ∷ sources) zero far = absurd (omega (arith, far))
beyond (s ∷ sources) (suc place) far = beyond sources place (omega (arith, far))

pub loop-init : goal.loop-init
loop-init c = λ left e. let same : left ≡ length c.args.sources.now = omega (arith, e) in ap (λ k. ends k c.args.sources.now (Some c.args.source)) same

pub returns-in_default : goal.returns-in_default
returns-in_default c =
    let t = c.loop-test.true in
    let k : ℕ = length c.args.sources.now - suc c.loop.counter in
    let e : suc k + c.loop.counter ≡ length c.args.sources.now = omega (arith, t) in
    sym (ap (λ s. ends (suc k) c.args.sources.now (Some s)) c.in_default.is) ∙ c.loop.invariant (suc k) e

pub returns-in_default-get : goal.returns-in_default-get
returns-in_default-get c =
    let t = c.loop-test.true in
    let k : ℕ = length c.args.sources.now - suc c.loop.counter in
    let e : suc k + c.loop.counter ≡ length c.args.sources.now = omega (arith, t) in
    let far = beyond c.args.sources.now c.in-Output.node (search (rules, c.in_default-get.ensures)) in
    sym (none_ends k c.args.sources.now) ∙ sym (ap (ends k c.args.sources.now) far) ∙ sym (ap (λ s. ends (suc k) c.args.sources.now (Some s)) c.in-Output.is) ∙ c.loop.invariant (suc k) e

pub loop-preserved : goal.loop-preserved
loop-preserved c = λ left e.
    let more : suc left + c.loop.counter ≡ length c.args.sources.now = omega (arith, e) in
    let within : c.in-Output.node < length c.args.sources.now = search (rules, c.in-Some.ensures) in
    let found : slice_get c.args.sources.now c.in-Output.node ≡ Some c.in-Some.next.now =
    slice_get-get_or c.args.sources.now c.in-Output.node c.in-Some.next.now within ∙ ap Some (search (rules, c.in-Some.ensures)) in
    sym (ap (ends left c.args.sources.now) found) ∙ sym (ap (λ s. ends (suc left) c.args.sources.now (Some s)) c.in-Output.is) ∙ c.loop.invariant (suc left) more

pub returns : goal.returns
returns c =
    let t = c.loop-test.false in
    let b = c.loop.auto.counter-end in
    c.loop.invariant 0 (omega (arith, t, b))
