use Rattle.std.proofs.Common.{◌≡◌, ℕ, ◌+◌, true, false, List, [], ◌∷◌, Bor, drop, get_or, true≢false, sym, subst, ◌∙◌}
use Rattle.std.proofs.lemmas.Bool.{not-true, not-false}
use Rattle.std.proofs.lemmas.List.{drop_more}
use Rattle.loop_body.proofs.Naming.{AllNew, has, new_step, not_new}
use Rattle.loop_body.proofs.different.all_differ.Goals as goal

abbrev nothing : Bor (List ℕ)
nothing = record { ref_ptr = (0, 0); now = [] }

pub returns-then-not-branch : goal.returns-then-not-branch
returns-then-not-branch c =
    let texts = c.args.texts.now in
    let i = c.loop-text.text-index in
    let seen = c.loop-text.seen.keys in
    let text = get_or texts i nothing in
    let at : drop i texts ≡ text ∷ drop (i + 1) texts = drop_more texts i nothing c.loop-text-test.true in
    let old : has seen text ≡ true = not-false (has seen text) (sym c.in_ok-insert.ensures.added ∙ c.if-not-branch.true) in (
      λ e. absurd (true≢false (sym e)),
      λ all. absurd (not_new seen text (drop (i + 1) texts) old (subst (AllNew seen) at (c.loop-text.invariant.0 all))),
    )

pub loop-text-preserved : goal.loop-text-preserved
loop-text-preserved c =
    let texts = c.args.texts.now in
    let i = c.loop-text.text-index in
    let seen = c.loop-text.seen.keys in
    let text = get_or texts i nothing in
    let at : drop i texts ≡ text ∷ drop (i + 1) texts = drop_more texts i nothing c.loop-text-test.true in
    let new : has seen text ≡ false = not-true (has seen text) (sym c.in_ok-insert.ensures.added ∙ c.if-not-branch.false) in
    let step = new_step seen c.insert.new.self.keys text (drop (i + 1) texts) c.in_ok-insert.ensures.updates.0 new in (
      λ all. step.0 (subst (AllNew seen) at (c.loop-text.invariant.0 all)),
      λ rest. c.loop-text.invariant.1 (subst (AllNew seen) (sym at) (step.1 rest)),
    )
