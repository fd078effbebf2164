-- No wire of a plan's circuit leads straight from an Entry to an Exit, where none of the plan does.
use Rattle.std.proofs.Common.{◌≡◌, ℕ, sym, ap, ◌∙◌, Some}
use Rattle.std.proofs.lemmas.Option.{same_Some}
use Rattle.components.specs.declared.kind.Kind.TheVariants.{Entry, Exit}
use Rattle.components.specs.Name.{Port}
use Rattle.components.specs.Kind.{Shape}
use Rattle.circuit_plans.specs.Plans.{Out, Plan, Naming, built}
use Rattle.circuit_plans.proofs.Plans.{kind_named}
use Rattle.circuit_plans.proofs.PlanTyped.{fed, who}

abbrev pub PlanNoThrough : {N : Type 0} → Plan N → Type 0
PlanNoThrough {N = N} c = (n : N) (i : ℕ) (q : Out N) (a b : Shape) → c.source n i ≡ Some q → c.kind n ≡ Exit a → c.kind q.at ≡ Entry b → ⊥

pub none_through : {N : Type 0} (c : Plan N) (x : Naming N) → PlanNoThrough c → (p q : Port) (a b : Shape) → (built c x).feeder p ≡ Some q →
    (built c x).kind_at p.node ≡ Some (Exit a) → (built c x).kind_at q.node ≡ Some (Entry b) → ⊥
none_through c x apart p q a b f ex en =
    let w = fed c x p q f in
    let (n, is, kind) = who c x p.node (Exit a) ex in
    let same : w.node ≡ n = same_Some w.node n (sym w.is_node ∙ is) in
    let source : Some (c.kind w.out.at) ≡ Some (Entry b) = sym (kind_named c x w.out.at) ∙ ap (λ (z : Port). (built c x).kind_at z.node) w.is ∙ en in
    apart w.node p.port w.out a b w.source (ap c.kind same ∙ kind) (same_Some (c.kind w.out.at) (Entry b) source)
