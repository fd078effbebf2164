use Rattle.std.proofs.Common.{◌≡◌, ℕ, ◌+◌, ◌<◌, sym, subst, ◌∙◌, List, drop, slice_range, arith}
use Rattle.std.specs.List.{prefix_len}
use Rattle.std.specs.Option.{option_map}
use Rattle.dot_text.specs.Scanner.{Front}
use Rattle.dot_text.specs.Stream as stream
use Rattle.dot_text.specs.Rests.{rest_front}
use Rattle.dot_text.specs.Runs.{stays, stayed}
use Rattle.dot_text.specs.Scans.{Keeps, KeepsItem}
use Rattle.dot_text.specs.Readers.{front_of}
use Rattle.dot_text.proofs.Slices.{slice_join, slice_more, drop_whole}
use Rattle.dot_text.proofs.Staying.{run_rests}
use Rattle.dot_text.proofs.Fronts.{LeadsOn, byte_leads, last_leads}
use Rattle.dot_text.proofs.reader.rest_of_item.Goals as goal

-- behind a run what stands at the front is the same
behind : (bytes : List ℕ) (start at to : ℕ) (m next : stream.Mode) (f : Front) → start < at → to ≡ at + prefix_len (stays m) (drop at bytes) → next ≡ stayed m (slice_range bytes at to)
    → rest_front m (slice_range bytes start at) (drop at bytes) ≡ f → f ≡ rest_front next (slice_range bytes start to) (drop to bytes)
behind bytes start at to m next f order is mode same = sym same ∙ run_rests bytes start at to m next (omega arith) is mode

pub take_byte-requires : goal.take_byte-requires
take_byte-requires c =
    subst (λ z. Keeps z c.in_ok-mode.field-0-0)
    (slice_join c.args.bytes.now c.args.start c.loop-mode.at c.in_ok-mode.field-0-1 (omega (arith, c.loop-mode.invariant.order)) (omega (arith, c.in_ok-mode.ensures.to)))
    (c.in_ok-mode.ensures.keeps (slice_range c.args.bytes.now c.args.start c.loop-mode.at) c.loop-mode.invariant.keeps)

pub returns-in-Now-With-clause-same : goal.returns-in-Now-With-clause-same
returns-in-Now-With-clause-same c =
    let leads : LeadsOn c.args.bytes.now c.args.start c.in_ok-mode.field-0-1 _ c.in_ok-next.field-0 =
    byte_leads c.args.bytes.now c.args.start c.in_ok-mode.field-0-1 c.in_ok-mode.field-0-0 c.in_ok-next.field-0 _ (omega (arith, c.loop-mode.invariant.order, c.in_ok-mode.ensures.to)) (omega (arith, c.if-at-bytes.false, c.in_ok-mode.ensures.within)) c.in_ok-next.ensures.same
    (behind c.args.bytes.now c.args.start c.loop-mode.at c.in_ok-mode.field-0-1 _ _ _ c.loop-mode.invariant.order c.in_ok-mode.ensures.to c.in_ok-mode.ensures.mode c.loop-mode.invariant.same) in
    sym (rw c.in-Now-With.field-0-is at (rw c.in-Now-With.is at leads))

pub returns-in-Now-Bad-clause-same : goal.returns-in-Now-Bad-clause-same
returns-in-Now-Bad-clause-same c =
    let leads : LeadsOn c.args.bytes.now c.args.start c.in_ok-mode.field-0-1 _ c.in_ok-next.field-0 =
    byte_leads c.args.bytes.now c.args.start c.in_ok-mode.field-0-1 c.in_ok-mode.field-0-0 c.in_ok-next.field-0 _ (omega (arith, c.loop-mode.invariant.order, c.in_ok-mode.ensures.to)) (omega (arith, c.if-at-bytes.false, c.in_ok-mode.ensures.within)) c.in_ok-next.ensures.same
    (behind c.args.bytes.now c.args.start c.loop-mode.at c.in_ok-mode.field-0-1 _ _ _ c.loop-mode.invariant.order c.in_ok-mode.ensures.to c.in_ok-mode.ensures.mode c.loop-mode.invariant.same) in
    sym (rw c.in-Now-Bad.field-0-is at (rw c.in-Now-Bad.is at leads))

pub returns-in-Before-clause-same : goal.returns-in-Before-clause-same
returns-in-Before-clause-same c =
    let leads : LeadsOn c.args.bytes.now c.args.start c.in_ok-mode.field-0-1 _ c.in_ok-next.field-0 =
    byte_leads c.args.bytes.now c.args.start c.in_ok-mode.field-0-1 c.in_ok-mode.field-0-0 c.in_ok-next.field-0 _ (omega (arith, c.loop-mode.invariant.order, c.in_ok-mode.ensures.to)) (omega (arith, c.if-at-bytes.false, c.in_ok-mode.ensures.within)) c.in_ok-next.ensures.same
    (behind c.args.bytes.now c.args.start c.loop-mode.at c.in_ok-mode.field-0-1 _ _ _ c.loop-mode.invariant.order c.in_ok-mode.ensures.to c.in_ok-mode.ensures.mode c.loop-mode.invariant.same) in
    sym (rw c.in-Before.is at leads)

pub returns-in-Now-With-clause-fits : goal.returns-in-Now-With-clause-fits
returns-in-Now-With-clause-fits c =
    record {
      further = omega (arith, c.loop-mode.invariant.order, c.in_ok-mode.ensures.to);
      within = omega (arith, c.if-at-bytes.false, c.in_ok-mode.ensures.within);
      keeps =
          subst (λ z. KeepsItem z c.in-Now-With.item)
          (sym (slice_more c.args.bytes.now c.args.start c.in_ok-mode.field-0-1 (omega (arith, c.loop-mode.invariant.order, c.in_ok-mode.ensures.to)) (omega (arith, c.if-at-bytes.false, c.in_ok-mode.ensures.within))))
          (rw c.in-Now-With.field-0-is at (rw c.in-Now-With.is at c.in_ok-next.ensures.keeps));
    }

pub loop-mode-preserved : goal.loop-mode-preserved
loop-mode-preserved c =
    let leads : LeadsOn c.args.bytes.now c.args.start c.in_ok-mode.field-0-1 _ c.in_ok-next.field-0 =
    byte_leads c.args.bytes.now c.args.start c.in_ok-mode.field-0-1 c.in_ok-mode.field-0-0 c.in_ok-next.field-0 _ (omega (arith, c.loop-mode.invariant.order, c.in_ok-mode.ensures.to)) (omega (arith, c.if-at-bytes.false, c.in_ok-mode.ensures.within)) c.in_ok-next.ensures.same
    (behind c.args.bytes.now c.args.start c.loop-mode.at c.in_ok-mode.field-0-1 _ _ _ c.loop-mode.invariant.order c.in_ok-mode.ensures.to c.in_ok-mode.ensures.mode c.loop-mode.invariant.same) in
    record {
      order = omega (arith, c.loop-mode.invariant.order, c.in_ok-mode.ensures.to);
      within = omega (arith, c.if-at-bytes.false, c.in_ok-mode.ensures.within);
      keeps =
          subst (λ z. Keeps z c.in-Now-More.next)
          (sym (slice_more c.args.bytes.now c.args.start c.in_ok-mode.field-0-1 (omega (arith, c.loop-mode.invariant.order, c.in_ok-mode.ensures.to)) (omega (arith, c.if-at-bytes.false, c.in_ok-mode.ensures.within))))
          (rw c.in-Now-More.field-0-is at (rw c.in-Now-More.is at c.in_ok-next.ensures.keeps));
      same = sym (rw c.in-Now-More.field-0-is at (rw c.in-Now-More.is at leads));
    }

pub returns-in_default-clause-same : goal.returns-in_default-clause-same
returns-in_default-clause-same c =
    let leads : _ ≡ front_of c.args.bytes.now c.args.start (option_map (λ item. (item, c.in_ok-mode.field-0-1)) c.in_ok-item.field-0) =
    last_leads c.args.bytes.now c.args.start c.in_ok-mode.field-0-1 c.in_ok-mode.field-0-0 c.in_ok-item.field-0 _ (drop_whole c.args.bytes.now c.in_ok-mode.field-0-1 (omega (arith, c.if-at-bytes.true))) c.in_ok-item.ensures.same
    (behind c.args.bytes.now c.args.start c.loop-mode.at c.in_ok-mode.field-0-1 _ _ _ c.loop-mode.invariant.order c.in_ok-mode.ensures.to c.in_ok-mode.ensures.mode c.loop-mode.invariant.same) in
    sym (rw c.in_default.is at leads)

pub returns-then-at-bytes-clause-same : goal.returns-then-at-bytes-clause-same
returns-then-at-bytes-clause-same c =
    let leads : _ ≡ front_of c.args.bytes.now c.args.start (option_map (λ item. (item, c.in_ok-mode.field-0-1)) c.in_ok-item.field-0) =
    last_leads c.args.bytes.now c.args.start c.in_ok-mode.field-0-1 c.in_ok-mode.field-0-0 c.in_ok-item.field-0 _ (drop_whole c.args.bytes.now c.in_ok-mode.field-0-1 (omega (arith, c.if-at-bytes.true))) c.in_ok-item.ensures.same
    (behind c.args.bytes.now c.args.start c.loop-mode.at c.in_ok-mode.field-0-1 _ _ _ c.loop-mode.invariant.order c.in_ok-mode.ensures.to c.in_ok-mode.ensures.mode c.loop-mode.invariant.same) in
    sym (rw c.in-Some.is at leads)
