use Rattle.std.proofs.Common.{◌≡◌, true, [], ◌∷◌, eqb}
use Rattle.std.specs.List.{starts_with}
use Rattle.dot_text.proofs.BlankStarts.{blank_first, hash_first, slashes_first, block_first, unclosed_first}
use Rattle.dot_text.proofs.blanks.skip_of.Goals as goal

pub returns-in-Some : goal.returns-in-Some
returns-in-Some c = blank_first c.args.line c.args.bytes.now c.in-Some.byte.now c.in-Some.ensures.item.3 (cc)

pub returns-in-Some-eq35 : goal.returns-in-Some-eq35
returns-in-Some-eq35 c =
    hash_first c.args.line c.args.bytes.now c.in-Some.byte.now c.line_len.result c.in-Some.ensures.item.3 c.in-Some-eq35.field-0-test c.if-line.true c.line_len.ensures

pub returns-in-Some-eq47 : goal.returns-in-Some-eq47
returns-in-Some-eq47 c =
    let begins : starts_with eqb c.args.bytes.now (47 ∷ 47 ∷ []) ≡ true = cc in
    slashes_first c.args.line c.args.bytes.now c.line_len-in-Some-eq47.result begins c.line_len-in-Some-eq47.ensures

pub returns-in-Some-block_len : goal.returns-in-Some-block_len
returns-in-Some-block_len c =
    let begins : starts_with eqb c.args.bytes.now (47 ∷ 42 ∷ []) ≡ true = cc in
    block_first c.args.line c.args.bytes.now c.in-Some-block_len.count c.block_len.result begins c.block_len.ensures.len c.in-Some-block_len.is

pub returns-in-None : goal.returns-in-None
returns-in-None c =
    let begins : starts_with eqb c.args.bytes.now (47 ∷ 42 ∷ []) ≡ true = cc in
    unclosed_first c.args.line c.args.bytes.now c.block_len.result begins c.block_len.ensures.len c.in-None.is
