use Rattle.std.proofs.Common.{◌≡◌, ◌∙◌, ◌+◌, ◌<◌, [], true, false, length, rules, sym, ap, subst, arith}
use Rattle.std.specs.FinMap.{entries, from_entries}
use Rattle.components.specs.Name.{name_cmp}
use Rattle.components.specs.Node.{KeptOk, is_owned, kept_of}
use Rattle.components.specs.Lookups.{from_entries-entries}
use Rattle.components.specs.Orders.{name_total, name_same}
use Rattle.components.proofs.KeptPairs.{ArePairs, ArePairs-more, KeptOk-kept_of, in_order, kept_of-all, so_far, so_far-none, so_far-owned}
use Rattle.components.proofs.kept.kept_by_key.Goals as goal
use Rattle.components.proofs.kept.kept_by_key.Goals.{then-not-owns+in_ok-insert, else-not-owns}

pub loop-pair-init : goal.loop-pair-init
loop-pair-init c =
    let first = so_far-none c.args.kind.now c.args.pairs.now in
    let none : c.new-kept.result.entries ≡ [] = search rules in
    subst (λ xs. ArePairs xs (so_far c.args.kind.now c.args.pairs.now 0)) (sym none) (subst (ArePairs []) (sym first) tt)

pub loop-pair-preserved : goal.loop-pair-preserved
loop-pair-preserved c =
    let kind = c.args.kind.now in
    let pairs = c.args.pairs.now in
    let i = c.loop-pair.pair-index in
    let within : i < length pairs = omega arith in
    let at_key = c.bytes-key.ensures.same in
    elim c.if-not-owns.branch [
      | then-not-owns+in_ok-insert w ↦
          let free : is_owned kind c.bytes-key.result.now ≡ false = search rules in
          subst (λ xs. ArePairs xs (so_far kind pairs (i + 1))) (sym (ap (λ m. m.entries) w.kept-is ∙ w.in_ok-insert.ensures.entries))
          (ArePairs-more kind pairs i c.pair-item.result c.bytes-key.result _ c.loop-pair.kept.entries within c.pair-item.is at_key free c.loop-pair.invariant)
      | else-not-owns w ↦
          let owned : is_owned kind c.bytes-key.result.now ≡ true = search rules in
          let same : c.if-not-owns.kept.entries ≡ c.loop-pair.kept.entries = search rules in
          subst (λ xs. ArePairs xs (so_far kind pairs (i + 1))) (sym same)
          (subst (ArePairs c.loop-pair.kept.entries) (sym (so_far-owned kind pairs i c.pair-item.result within (ap (is_owned kind) (ap (λ p. p.0) (sym c.pair-item.is) ∙ sym at_key) ∙ owned))) c.loop-pair.invariant)
    ]

pub returns-clause-order : goal.returns-clause-order
returns-clause-order c =
    in_order c.args.kind.now c.args.pairs.now c.loop-pair.pair-index c.loop-pair.kept.entries c.in_ok-collect.field-0.items (omega arith) c.loop-pair.invariant (search rules)

pub returns-clause-right : goal.returns-clause-right
returns-clause-right c = subst (KeptOk c.args.kind.now) (sym (returns-clause-order c)) (KeptOk-kept_of c.args.kind.now c.args.pairs.now)

pub returns-clause-whole : goal.returns-clause-whole
returns-clause-whole c = ap (λ es. from_entries {R = name_cmp} es) (returns-clause-order c) ∙ from_entries-entries name_total name_same (kept_of c.args.kind.now c.args.pairs.now)

pub returns-clause-all : goal.returns-clause-all
returns-clause-all c ok = returns-clause-order c ∙ ap entries (kept_of-all c.args.kind.now c.args.pairs.now ok)
