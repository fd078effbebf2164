use Rattle.std.proofs.Common.{◌≡◌, Some, take, drop, sym, ap, ◌∙◌}
use Rattle.std.proofs.lemmas.List.{take_rest}
use Rattle.gx_base.proofs.Streams.{given_front}
use Rattle.gx_base.proofs.clean_source.CleanSourceSource.read.Goals as goal

-- The buffer's start is the front of what was left.
pub returns-clause-given : goal.returns-clause-given
returns-clause-given c =
    let at = c.self.inside.at in
    let count = c.give-given.result in
    let front : take count c.give-given.new.buf ≡ take count (drop at c.self.inside.bytes.items) =
    c.give-given.ensures.given ∙ ap (take count) (take_rest c.deref.result.now at) ∙ ap (λ bytes. take count (drop at bytes)) c.deref.ensures.value in
    ap (λ s. Some s.left) (sym c.self.view_is) ∙ given_front at count c.self.inside.bytes.items _ front
