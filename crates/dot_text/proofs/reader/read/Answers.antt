use Rattle.std.proofs.Common.{sym, arith}
use Rattle.dot_text.proofs.Reading.{start_upto}
use Rattle.dot_text.proofs.Stream.{fails_here, ends_here}
use Rattle.dot_text.proofs.Slices.{drop_whole}
use Rattle.dot_text.proofs.Fronts.{TurnSays, item_says}
use Rattle.dot_text.proofs.reader.read.Goals as goal

pub loop-at-init : goal.loop-at-init
loop-at-init c = start_upto c.args.bytes.now c.args.from c.requires

pub returns-in_default : goal.returns-in_default
returns-in_default c = fails_here c.loop-at.invariant (sym (rw c.in_default.is at c.in_ok-item.ensures.same))

pub returns-in-Fails : goal.returns-in-Fails
returns-in-Fails c =
    let says : TurnSays c.args.bytes.now c.args.from c.loop-at.at c.in-Some.to c.in_ok-read_item.field-0 =
    item_says c.loop-at.invariant c.in-Some.item c.in-Some.to c.in_ok-read_item.field-0 (rw c.in-Some.is at c.in_ok-item.ensures.fits) (rw c.in-Some.is at c.in_ok-item.ensures.same) c.in_ok-read_item.ensures in
    rw c.in-Fails.is at says

pub returns-in-Finds : goal.returns-in-Finds
returns-in-Finds c =
    let says : TurnSays c.args.bytes.now c.args.from c.loop-at.at c.in-Some.to c.in_ok-read_item.field-0 =
    item_says c.loop-at.invariant c.in-Some.item c.in-Some.to c.in_ok-read_item.field-0 (rw c.in-Some.is at c.in_ok-item.ensures.fits) (rw c.in-Some.is at c.in_ok-item.ensures.same) c.in_ok-read_item.ensures in
    rw c.in-Finds.is at says

pub loop-at-preserved : goal.loop-at-preserved
loop-at-preserved c =
    let says : TurnSays c.args.bytes.now c.args.from c.loop-at.at c.in-Some.to c.in_ok-read_item.field-0 =
    item_says c.loop-at.invariant c.in-Some.item c.in-Some.to c.in_ok-read_item.field-0 (rw c.in-Some.is at c.in_ok-item.ensures.fits) (rw c.in-Some.is at c.in_ok-item.ensures.same) c.in_ok-read_item.ensures in
    rw c.in-Goes.is at says

pub returns : goal.returns
returns c = ends_here c.loop-at.invariant (drop_whole c.args.bytes.now c.loop-at.at (omega (arith, c.loop-at-test.false, c.loop-at.invariant.within)))
