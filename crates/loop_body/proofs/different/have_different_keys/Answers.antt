use Rattle.std.proofs.Common.{List, ℕ, map, Bor, ap, ◌∙◌}
use Rattle.loop_body.proofs.Naming.{tell_pairs}
use Rattle.loop_body.proofs.different.have_different_keys.Goals as goal

pub returns : goal.returns
returns c =
    tell_pairs (λ (pair : List ℕ × List ℕ). pair.0) c.args.pairs.now c.all_differ.result (map (λ (key : Bor (List ℕ)). key.now) c.deref.result.now)
    (ap (map (λ (key : Bor (List ℕ)). key.now)) c.deref.ensures.value ∙ c.in_ok-keys.ensures) c.all_differ.ensures
