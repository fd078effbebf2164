use Rattle.std.proofs.Common.{◌≡◌, sym, ap, subst, ◌∙◌, IfOk, arith, get_or}
use Rattle.dot_text.specs.Stream.{starts}
use Rattle.dot_text.specs.Scans.{Keeps, KeepsItem}
use Rattle.dot_text.specs.Readers.{front_of}
use Rattle.dot_text.proofs.Slices.{slice_first}
use Rattle.dot_text.proofs.Fronts.{Leads, first_leads}
use Rattle.dot_text.proofs.reader.item_at.Goals as goal

pub rest_of_item-requires-clause-keeps : goal.rest_of_item-requires-clause-keeps
rest_of_item-requires-clause-keeps c =
    subst (λ z. Keeps z c.in-More.mode) (sym (slice_first c.args.bytes.now c.args.start c.requires)) (rw c.in-More.is at c.starts.ensures.keeps)

pub returns-in-More-clause-same : goal.returns-in-More-clause-same
returns-in-More-clause-same c =
    let leads : Leads c.args.bytes.now c.args.start c.args.start _ c.starts.result =
    first_leads c.args.bytes.now c.args.start c.starts.result c.requires (c.starts.ensures.same ∙ ap (λ line. starts line (get_or c.args.bytes.now c.args.start 0)) c.begins_line.ensures) in
    subst (λ z. IfOk c.rest_of_item.result (λ found. front_of c.args.bytes.now c.args.start found ≡ z)) (sym (rw c.in-More.is at leads)) c.rest_of_item.ensures.same

pub returns-in-With-clause-same : goal.returns-in-With-clause-same
returns-in-With-clause-same c =
    let leads : Leads c.args.bytes.now c.args.start c.args.start _ c.starts.result =
    first_leads c.args.bytes.now c.args.start c.starts.result c.requires (c.starts.ensures.same ∙ ap (λ line. starts line (get_or c.args.bytes.now c.args.start 0)) c.begins_line.ensures) in
    sym (rw c.in-With.is at leads)

pub returns-in-With-clause-fits : goal.returns-in-With-clause-fits
returns-in-With-clause-fits c =
    record {
      further = omega arith;
      within = omega (arith, c.requires);
      keeps = subst (λ z. KeepsItem z c.in-With.item) (sym (slice_first c.args.bytes.now c.args.start c.requires)) (rw c.in-With.is at c.starts.ensures.keeps);
    }
