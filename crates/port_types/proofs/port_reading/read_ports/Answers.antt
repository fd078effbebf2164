use Rattle.std.proofs.Common.{◌≡◌, ◌+◌, ◌∷◌, [], ◌++◌, length, take, sym, ◌∙◌, ap, is_ok, true, false, Ok, Err, arith, rules, tests}
use Rattle.std.specs.List.{filter, slice_split}
use Rattle.std.proofs.lemmas.List.{length_push}
use Rattle.std.proofs.Math.Seq.{take-length}
use Rattle.std.proofs.lemmas.Iterator.Consumers.{YieldsList-turn, YieldsList-end}
use Rattle.std.proofs.lemmas.Iterator.Splits.{YieldsList-from_slice_split}
use Rattle.port_types.specs.PortGrammar.{is_blank, is_word, words_of, words_reading, word_reading}
use Rattle.port_types.proofs.Words.{few_ports, all_marked, parts_skip, parts_more, parts_fault}
use Rattle.port_types.proofs.port_reading.read_ports.Goals as goal

pub read_word-requires : goal.read_word-requires
read_word-requires c =
    let few = few_ports c.args.side 1 _ c.loop-part.ports.items (omega arith) c.loop-part.invariant in
    omega (arith, few)

pub returns-in_err-port-clause-reading : goal.returns-in_err-port-clause-reading
returns-in_err-port-clause-reading c =
    let turn = YieldsList-turn (YieldsList-from_slice_split _ is_blank c.args.text.now (cc) (cc) (cc) (λ x r q k. search (rules, tests)))
    c.loop-part.yielded _ c.loop-part.yielded_by _ _ c.in-Some.part c.in-Some.is c.next.ensures.steps in
    let same : c.from_residual.result ≡ Err c.in_err-port.field-0.0 = search rules in
    let word : is_word c.in-Some.part.now ≡ true = search (rules, tests) in
    let count : c.len.result ≡ length c.loop-part.ports.items = omega arith in
    rw same (λ told. parts_fault c.args.side (slice_split is_blank c.args.text.now) (length c.loop-part.yielded) c.in-Some.part.now c.loop-part.ports.items turn.0 turn.1 c.loop-part.invariant c.in_err-port.field-0.0 word
    (ap (λ count. word_reading c.args.side (count + 1) c.in-Some.part.now) (sym count) ∙ c.in_err-port.ensures told))

pub loop-part-preserved-in-Continue-branch-2 : goal.loop-part-preserved-in-Continue-branch-2
loop-part-preserved-in-Continue-branch-2 c =
    let turn = YieldsList-turn (YieldsList-from_slice_split _ is_blank c.args.text.now (cc) (cc) (cc) (λ x r q k. search (rules, tests)))
    c.loop-part.yielded _ c.loop-part.yielded_by _ _ c.in-Some.part c.in-Some.is c.next.ensures.steps in
    let pushed : is_ok c.push.result ≡ true = search rules in
    let word : is_word c.in-Some.part.now ≡ true = search (rules, tests) in
    let count : c.len.result ≡ length c.loop-part.ports.items = omega arith in
    let one : word_reading c.args.side (c.len.result + 1) c.in-Some.part.now ≡ Ok c.in_ok-port.port = c.in_ok-port.ensures in
    let more = parts_more c.args.side (slice_split is_blank c.args.text.now) (length c.loop-part.yielded) c.in-Some.part.now c.loop-part.ports.items turn.0 turn.1 c.loop-part.invariant c.in_ok-port.port word (ap (λ n. word_reading c.args.side (n + 1) c.in-Some.part.now) (sym count) ∙ one) in
    let items : c.push.new.self.items ≡ c.loop-part.ports.items ++ c.in_ok-port.port ∷ [] = search rules in
    ap (λ n. words_reading c.args.side 1 (filter is_word (take n (slice_split is_blank c.args.text.now)))) (length_push c.loop-part.yielded c.in-Some.part) ∙ more ∙ ap (λ ports. Ok ports) (sym items)

pub loop-part-preserved : goal.loop-part-preserved
loop-part-preserved c =
    let turn = YieldsList-turn (YieldsList-from_slice_split _ is_blank c.args.text.now (cc) (cc) (cc) (λ x r q k. search (rules, tests)))
    c.loop-part.yielded _ c.loop-part.yielded_by _ _ c.in-Some.part c.in-Some.is c.next.ensures.steps in
    let none : is_word c.in-Some.part.now ≡ false = search (rules, tests) in
    let more = parts_skip c.args.side (slice_split is_blank c.args.text.now) (length c.loop-part.yielded) c.in-Some.part.now c.loop-part.ports.items turn.0 turn.1 c.loop-part.invariant none in
    ap (λ count. words_reading c.args.side 1 (filter is_word (take count (slice_split is_blank c.args.text.now)))) (length_push c.loop-part.yielded c.in-Some.part) ∙ more

pub returns-clause-reading : goal.returns-clause-reading
returns-clause-reading c =
    let end =
    YieldsList-end (YieldsList-from_slice_split _ is_blank c.args.text.now (cc) (cc) (cc) (λ x r q k. search (rules, tests)))
    c.loop-part.yielded _ c.loop-part.yielded_by _ _ c.in-None.is c.next.ensures.steps in
    let whole : words_reading c.args.side 1 (words_of c.args.text.now) ≡ Ok c.loop-part.ports.items =
    ap (λ parts. words_reading c.args.side 1 (filter is_word parts)) (sym (ap (λ count. take count (slice_split is_blank c.args.text.now)) end.1 ∙ take-length (slice_split is_blank c.args.text.now))) ∙ c.loop-part.invariant in
    whole ∙ ap (λ ports. Ok ports) (sym c.new.ensures)

pub returns-clause-few : goal.returns-clause-few
returns-clause-few c =
    let few = few_ports c.args.side 1 _ c.loop-part.ports.items (omega arith) c.loop-part.invariant in
    let same = ap length c.new.ensures in
    omega (arith, few, same)

pub returns-clause-marked : goal.returns-clause-marked
returns-clause-marked c =
    let marked = all_marked c.args.side 1 _ c.loop-part.ports.items c.loop-part.invariant in
    rw c.new.ensures marked
