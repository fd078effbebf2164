use Rattle.std.proofs.Common.{◌≡◌, ◌<◌, ◌+◌, ℕ, suc, sym, ap, ◌∙◌, List, [], ◌∷◌, ◌++◌, take, length, append-nil, arith, slice_index_or, rules}
use Rattle.std.proofs.Math.Seq.{take-suc}
use Rattle.std.specs.List.{concat}
use Rattle.std.proofs.lemmas.List.Folds.{concat-append}
use Rattle.drawn_rules.proofs.shapes.joined_widths.Goals as goal

concat_more : (parts : List (List ℕ)) (place : ℕ) (part : List ℕ) → slice_index_or parts place part ≡ part → place < length parts →
    concat (take (place + 1) parts) ≡ concat (take place parts) ++ part
concat_more parts place part is within =
    let next : place + 1 ≡ suc place = omega arith in
    ap (λ z. concat (take z parts)) next ∙ ap concat (take-suc parts place part within ∙ ap (λ z. take place parts ++ z ∷ []) is)
    ∙ concat-append (take place parts) (part ∷ []) ∙ ap (λ z. concat (take place parts) ++ z) (append-nil part)

pub loop-index-preserved : goal.loop-index-preserved
loop-index-preserved c =
    c.in_ok-push_widths.ensures ∙ ap (λ z. z ++ c.index-parts-index.result) c.loop-index.invariant
    ∙ sym (concat_more c.args.parts.now c.loop-index.index c.index-parts-index.result (search (rules, c.index-parts-index.is)) c.loop-index-test.true)
