use Rattle.std.proofs.Common.{◌≡◌, true, None, sym, ap, subst, ◌∙◌, rules}
use Rattle.std.specs.Prelude.{MatchOption}
use Rattle.std.specs.FinMap as finite
use Rattle.components.specs.Name.{name_cmp}
use Rattle.components.specs.Node.{Body}
use Rattle.graph_core.specs.GraphValue.{Denotes}
use Rattle.graph_read.specs.NodeReading.{is_name}
use Rattle.graph_read.proofs.NodeSteps.{taken_name, new_name, is_key, is_no_key, is_key_found, no_key_found, refused_reading}
use Rattle.graph_read.proofs.nodes.add_statement.Goals as goal

pub returns-in-Ok-add_node : goal.returns-in-Ok-add_node
returns-in-Ok-add_node c = λ nodes are.
    let named : is_name c.args.statement.now.name ≡ true = sym c.has_allowed_name.ensures.same ∙ c.if-not-has_allowed_name.false in
    let read = c.in-Ok.ensures.read in
    let free = is_no_key c.args.g.now.graph.nodes c.in-Ok.node.name (λ taken. let e = c.in-Ok-add_node.ensures.taken.1 taken in absurd (cc)) in
    let key = ap (finite.contains_key c.args.g.now.graph.nodes) (sym read.1) in
    let same = ap (λ (m : finite.FinMap name_cmp Body). finite.contains_key m c.args.statement.now.name) (sym are) in
    record {
      node = c.in-Ok.node;
      id = c.in-Ok-add_node.field-0;
      ok = read.0;
      is_name = read.1;
      is_read = new_name nodes c.args.place c.args.statement.now named (same ∙ key ∙ free) ∙ read.2;
      few = c.in-Ok.ensures.few;
      is_new = c.in-Ok-add_node.ensures.ok;
      is_fresh = c.in-Ok-add_node.ensures.fresh;
      is_next = c.in-Ok-add_node.ensures.next;
      no_other = search rules;
    }

pub returns-in-Err-NameTaken : goal.returns-in-Err-NameTaken
returns-in-Err-NameTaken c = λ nodes are.
    let named : is_name c.args.statement.now.name ≡ true = sym c.has_allowed_name.ensures.same ∙ c.if-not-has_allowed_name.false in
    let taken = is_key c.args.g.now.graph.nodes c.in-Ok.node.name (c.in-Err-NameTaken.ensures.taken.0 (cc)) in
    let key = ap (finite.contains_key c.args.g.now.graph.nodes) (sym c.in-Ok.ensures.read.1) in
    let same = ap (λ (m : finite.FinMap name_cmp Body). finite.contains_key m c.args.statement.now.name) (sym are) in
    taken_name nodes c.args.place c.args.statement.now named (same ∙ key ∙ taken)

pub returns-in-Err : goal.returns-in-Err
returns-in-Err c = λ nodes are.
    let named : is_name c.args.statement.now.name ≡ true = sym c.has_allowed_name.ensures.same ∙ c.if-not-has_allowed_name.false in
    let same = ap (λ (m : finite.FinMap name_cmp Body). finite.contains_key m c.args.statement.now.name) (sym are) in
    let found = subst (λ name. MatchOption c.find.result (finite.get c.args.g.now.graph.nodes name ≡ None) (λ id. Denotes c.args.g.now id name)) c.bytes.ensures.same c.find.ensures in
    taken_name nodes c.args.place c.args.statement.now named (same ∙ is_key_found c.args.g.now c.is_graph.ensures c.args.statement.now.name c.find.result found (sym c.is_some.ensures ∙ c.if-is_some.true))

pub returns-in-Err-2 : goal.returns-in-Err-2
returns-in-Err-2 c = λ nodes are.
    let named : is_name c.args.statement.now.name ≡ true = sym c.has_allowed_name.ensures.same ∙ c.if-not-has_allowed_name.false in
    let same = ap (λ (m : finite.FinMap name_cmp Body). finite.contains_key m c.args.statement.now.name) (sym are) in
    let found = subst (λ name. MatchOption c.find.result (finite.get c.args.g.now.graph.nodes name ≡ None) (λ id. Denotes c.args.g.now id name)) c.bytes.ensures.same c.find.ensures in
    let is = new_name nodes c.args.place c.args.statement.now named (same ∙ no_key_found c.args.g.now c.is_graph.ensures c.args.statement.now.name c.find.result found (sym c.is_some.ensures ∙ c.if-is_some.false)) in
    refused_reading c.args.statement.now.name c.in-Err.field-0 c.args.place c.args.g.now is (c.in-Err.ensures.read)
