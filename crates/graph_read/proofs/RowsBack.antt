-- What meets a row is read.
use Rattle.std.proofs.Common.{◌≡◌, ◌⊎◌, inl, inr, ℕ, zero, suc, ◌&&◌, ◌≤◌, ◌^◌, Bool, true, false, cond, List, [], ◌∷◌, length, map, replicate, Option, Some, None, Ok, refl, sym, ap, ◌∙◌, arith}
use Rattle.std.specs.Prelude.{bytes_eq, nat_le, codes}
use Rattle.std.specs.List.{concat}
use Rattle.std.proofs.lemmas.Bool.{le-leb, eq-eqb, and_from}
use Rattle.std.proofs.lemmas.List.{length-replicate}
use Rattle.std.proofs.lemmas.Slice.Eq.{bytes_eq-Decides}
use Rattle.op_table.specs.declared.op.Op.{Op}
use Rattle.op_table.specs.Operator.{graph_word}
use Rattle.op_table.specs.Table.{is_typed_op}
use Rattle.op_table.specs.Laws.{NamesAreFound, WidthsAreTested}
use Rattle.fun_expr.specs.Function.{Function, FunOk, out_widths}
use Rattle.fun_expr.specs.FunGrammar.{IsFunText}
use Rattle.fun_expr.specs.Said.{fun_said}
use Rattle.fun_expr.specs.Laws.{SaidByGrammar}
use Rattle.port_types.specs.Tag.{tag_width}
use Rattle.components.specs.declared.kind.Kind.{Kind}
use Rattle.components.specs.declared.kind.Kind.TheVariants.{Entry, Exit, Buffer, Fork, Join, Split, Operator, Constant, Source0, Sink0, Pure, Mux, Branch, Merge, CtrlMerge, Init, Tagger}
use Rattle.components.specs.Kind.{Shape, KindOk, field, tagged}
use Rattle.components.specs.declared.component.Component.{Component}
use Rattle.graph_read.specs.Attributes.{Pair, last_value, value_of, tags_of}
use Rattle.graph_read.specs.Rows.{where_ports, entry_at, exit_at, all_are, are_fields, fork_at, merge_at, ctrl_merge_at, operator_named, operator_typed, operator_at, constant_of, constant_with, pure_of, pure_with, init_with, init_marked, start_of, mark_of, tagger_of, tagger_with, row_reading}
use Rattle.components.specs.Component.{component_at}
use Rattle.graph_read.specs.Laws.{HasOwnPorts, MeetsRow, Says, RowsReadBack}

-- ---- tests that hold

where_right : (are : Bool) (k : Kind) → are ≡ true → where_ports are k ≡ Ok k
where_right are k right = ap (λ (b : Bool). where_ports b k) right

same_test : (shape : Shape) → bytes_eq shape shape ≡ true
same_test shape = (bytes_eq-Decides shape shape).1 refl

all_same : (shape : Shape) (count : ℕ) → all_are shape (replicate count shape) ≡ true
all_same shape zero = refl
all_same shape (suc count) = and_from (bytes_eq shape shape) (all_are shape (replicate count shape)) (same_test shape) (all_same shape count)

fields_pass : (widths : List ℕ) → are_fields (map field widths) ≡ true
fields_pass [] = refl
fields_pass (width ∷ widths) = fields_pass widths

fields_joined : (widths : List ℕ) → concat (map field widths) ≡ widths
fields_joined [] = refl
fields_joined (width ∷ widths) = ap (λ (rest : List ℕ). width ∷ rest) (fields_joined widths)

-- ---- the rows with counts

fork_back : (shape : Shape) (count : ℕ) → 1 ≤ count → fork_at (shape ∷ []) (replicate count shape) ≡ Ok (Fork shape count)
fork_back shape zero some = absurd (omega arith)
fork_back shape (suc count) some =
    where_right (all_are shape (replicate (suc count) shape)) (Fork shape (length (replicate (suc count) shape))) (all_same shape (suc count))
    ∙ ap (λ (n : ℕ). Ok (Fork shape n)) (length-replicate (suc count) shape)

merge_back : (shape : Shape) (count : ℕ) → 1 ≤ count → merge_at (replicate count shape) (shape ∷ []) ≡ Ok (Merge shape count)
merge_back shape zero some = absurd (omega arith)
merge_back shape (suc count) some =
    where_right (all_are shape (replicate (suc count) shape)) (Merge shape (length (replicate (suc count) shape))) (all_same shape (suc count))
    ∙ ap (λ (n : ℕ). Ok (Merge shape n)) (length-replicate (suc count) shape)

ctrl_merge_back : (shape : Shape) (count width : ℕ) → 1 ≤ count → count ≤ 2 ^ width → ctrl_merge_at (replicate count shape) (shape ∷ field width ∷ []) ≡ Ok (CtrlMerge shape count width)
ctrl_merge_back shape zero width some few = absurd (omega arith)
ctrl_merge_back shape (suc count) width some few =
    let same = length-replicate (suc count) shape in
    let apart : nat_le (length (replicate (suc count) shape)) (2 ^ width) ≡ true =
    ap (λ (n : ℕ). nat_le n (2 ^ width)) same ∙ le-leb (suc count) (2 ^ width) few
    in
    where_right (all_are shape (replicate (suc count) shape) && nat_le (length (replicate (suc count) shape)) (2 ^ width)) (CtrlMerge shape (length (replicate (suc count) shape)) width)
    (and_from _ _ (all_same shape (suc count)) apart)
    ∙ ap (λ (n : ℕ). Ok (CtrlMerge shape n width)) same

-- ---- the rows with attributes

named_back : NamesAreFound → (op : Op) (widths : List ℕ) (width : ℕ) → is_typed_op op widths width ≡ true → operator_named widths width (Some (graph_word op)) ≡ Ok (Operator op widths width)
named_back found op widths width typed =
    ap (λ (o : Option Op). operator_typed widths width o) (found op)
    ∙ ap (λ (b : Bool). cond b (Ok (Operator op widths width)) (operator_typed widths width None)) typed

operator_back : NamesAreFound → (op : Op) (widths : List ℕ) (width : ℕ) → is_typed_op op widths width ≡ true → operator_at (map field widths) (field width ∷ []) (Some (graph_word op)) ≡ Ok (Operator op widths width)
operator_back found op widths width typed =
    ap (λ (b : Bool). cond b (operator_named (concat (map field widths)) width (Some (graph_word op))) (operator_at [] [] None)) (fields_pass widths)
    ∙ ap (λ (ws : List ℕ). operator_named ws width (Some (graph_word op))) (fields_joined widths)
    ∙ named_back found op widths width typed

constant_back : (shape : Shape) (width value : ℕ) (given : Option (List ℕ)) → (text : List ℕ) × (given ≡ Some text) × (value_of text ≡ Some value) → constant_of shape width given ≡ Ok (Constant shape width value)
constant_back shape width value given (text, is, says) = ap (constant_of shape width) is ∙ ap (constant_with shape width) says

pure_back : SaidByGrammar → (fun : Function) (out : Shape) (given : Option (List ℕ)) → FunOk fun → out_widths fun ≡ out →
    (text : List ℕ) × (given ≡ Some text) × IsFunText text fun.binds fun.outs → pure_of fun.input out given ≡ Ok (Pure fun out)
pure_back by_grammar fun out given ok gives (text, is, says) =
    ap (pure_of fun.input out) is ∙ ap (pure_with out) ((by_grammar text fun.input fun).1 (refl, says, ok))
    ∙ ap (λ (b : Bool). cond b (Ok (Pure fun out)) (pure_with out None)) ((bytes_eq-Decides (out_widths fun) out).1 gives)

start_back : (given : Option (List ℕ)) (value : ℕ) → ((given ≡ None) × (value ≡ 0)) ⊎ ((text : List ℕ) × (given ≡ Some text) × (value_of text ≡ Some value)) → start_of given ≡ Some value
start_back given value (inl (none, is)) = ap start_of none ∙ ap (λ (n : ℕ). Some n) (sym is)
start_back given value (inr (text, is, says)) = ap start_of is ∙ says

mark_back : (given : Option (List ℕ)) (mark : ℕ) → ((given ≡ None) × (mark ≡ 0)) ⊎ ((text : List ℕ) × (given ≡ Some text) × (tags_of text ≡ Some mark)) → mark_of given ≡ Some mark
mark_back given mark (inl (none, is)) = ap mark_of none ∙ ap (λ (n : ℕ). Some n) (sym is)
mark_back given mark (inr (text, is, says)) = ap mark_of is ∙ says

init_back : (value mark : ℕ) (start : Option ℕ) (given : Option (List ℕ)) → value ≤ 1 → start ≡ Some value → mark_of given ≡ Some mark → init_with start given ≡ Ok (Init value mark)
init_back value mark start given small starts marks =
    ap (λ (s : Option ℕ). init_with s given) starts
    ∙ ap (λ (b : Bool). cond b (init_marked value (mark_of given)) (init_with None given)) (le-leb value 1 small)
    ∙ ap (init_marked value) marks

tagger_back : (shape : Shape) (tags : ℕ) (given : Option (List ℕ)) → (text : List ℕ) × (given ≡ Some text) × (tags_of text ≡ Some tags) → tagger_of shape (tag_width tags) given ≡ Ok (Tagger shape tags)
tagger_back shape tags given (text, is, says) =
    ap (tagger_of shape (tag_width tags)) is ∙ ap (tagger_with shape (tag_width tags)) says
    ∙ ap (λ (b : Bool). cond b (Ok (Tagger shape tags)) (tagger_with shape 0 None)) (eq-eqb (tag_width tags) (tag_width tags) refl)

-- ---- all rows

pub row_back : NamesAreFound → WidthsAreTested → SaidByGrammar → RowsReadBack
row_back found tested by_grammar (Entry shape) pairs ok says = refl
row_back found tested by_grammar (Exit shape) pairs ok says = refl
row_back found tested by_grammar (Buffer shape) pairs ok says = where_right (bytes_eq shape shape) (Buffer shape) (same_test shape)
row_back found tested by_grammar (Fork shape count) pairs ok says = fork_back shape count ok.1.0
row_back found tested by_grammar (Join []) pairs ok says = absurd (omega (arith, ok.count.0))
row_back found tested by_grammar (Join (shape ∷ shapes)) pairs ok says =
    where_right (bytes_eq (concat (shape ∷ shapes)) (concat (shape ∷ shapes))) (Join (shape ∷ shapes)) (same_test (concat (shape ∷ shapes)))
row_back found tested by_grammar (Split []) pairs ok says = absurd (omega (arith, ok.count.0))
row_back found tested by_grammar (Split (shape ∷ shapes)) pairs ok says =
    where_right (bytes_eq (concat (shape ∷ shapes)) (concat (shape ∷ shapes))) (Split (shape ∷ shapes)) (same_test (concat (shape ∷ shapes)))
row_back found tested by_grammar (Operator op widths width) pairs ok says =
    ap (operator_at (map field widths) (field width ∷ [])) says ∙ operator_back found op widths width ((tested op widths width).1 ok)
row_back found tested by_grammar (Constant shape width value) pairs ok says = constant_back shape width value (last_value (codes "value") pairs) says
row_back found tested by_grammar (Source0 shape) pairs ok says = refl
row_back found tested by_grammar (Sink0 shape) pairs ok says = refl
row_back found tested by_grammar (Pure fun shape) pairs ok says = pure_back by_grammar fun shape (last_value (codes "fun") pairs) ok.1 ok.2 says
row_back found tested by_grammar (Mux shape) pairs ok says =
    where_right (bytes_eq (field 1) (field 1) && all_are shape (shape ∷ shape ∷ [])) (Mux shape) (and_from (bytes_eq (field 1) (field 1)) (all_are shape (shape ∷ shape ∷ [])) refl (all_same shape 2))
row_back found tested by_grammar (Branch shape) pairs ok says =
    where_right (bytes_eq (field 1) (field 1) && all_are shape (shape ∷ shape ∷ [])) (Branch shape) (and_from (bytes_eq (field 1) (field 1)) (all_are shape (shape ∷ shape ∷ [])) refl (all_same shape 2))
row_back found tested by_grammar (Merge shape count) pairs ok says = merge_back shape count ok.1.0
row_back found tested by_grammar (CtrlMerge shape count width) pairs ok says = ctrl_merge_back shape count width ok.1.0 ok.3
row_back found tested by_grammar (Init value mark) pairs ok says =
    init_back value mark (start_of (last_value (codes "value") pairs)) (last_value (codes "ooo") pairs) ok.0
    (start_back (last_value (codes "value") pairs) value says.0) (mark_back (last_value (codes "ooo") pairs) mark says.1)
row_back found tested by_grammar (Tagger shape tags) pairs ok says =
    let tests = and_from (all_are shape (shape ∷ shape ∷ [])) (bytes_eq (tagged tags shape) (tagged tags shape)) (all_same shape 2) (same_test (tagged tags shape)) in
    ap (λ (b : Bool). cond b (tagger_of shape (tag_width tags) (last_value (codes "tags") pairs)) (where_ports false (Tagger shape tags))) tests
    ∙ tagger_back shape tags (last_value (codes "tags") pairs) says

-- what meets a row is read, also with the port more that an Entry or an Exit may have

entry_also : (shape : Shape) (inputs outputs : List Shape) → ((inputs ≡ []) ⊎ (inputs ≡ shape ∷ [])) × (outputs ≡ shape ∷ []) → entry_at inputs outputs ≡ Ok (Entry shape)
entry_also shape inputs outputs (inl none, is) = (λ i. entry_at (none i) (is i))
entry_also shape inputs outputs (inr some, is) = (λ i. entry_at (some i) (is i)) ∙ where_right (bytes_eq shape shape) (Entry shape) (same_test shape)

exit_also : (shape : Shape) (inputs outputs : List Shape) → (inputs ≡ shape ∷ []) × ((outputs ≡ []) ⊎ (outputs ≡ shape ∷ [])) → exit_at inputs outputs ≡ Ok (Exit shape)
exit_also shape inputs outputs (is, inl none) = (λ i. exit_at (is i) (none i))
exit_also shape inputs outputs (is, inr some) = (λ i. exit_at (is i) (some i)) ∙ where_right (bytes_eq shape shape) (Exit shape) (same_test shape)

module _ (found : NamesAreFound) (tested : WidthsAreTested) (by_grammar : SaidByGrammar) (component : Component) (inputs outputs : List Shape) (pairs : List Pair) where
  row_at : (k : Kind) → component ≡ component_at k → HasOwnPorts k inputs outputs → KindOk k → Says k pairs → row_reading component inputs outputs pairs ≡ Ok k
  row_at k is ports ok says = (λ i. row_reading (is i) (ports.0 i) (ports.1 i) pairs) ∙ row_back found tested by_grammar k pairs ok says

  pub row_meets : (k : Kind) → MeetsRow component inputs outputs pairs k → row_reading component inputs outputs pairs ≡ Ok k
  row_meets (Entry shape) meets = ap (λ (c : Component). row_reading c inputs outputs pairs) meets.is ∙ entry_also shape inputs outputs meets.ports
  row_meets (Exit shape) meets = ap (λ (c : Component). row_reading c inputs outputs pairs) meets.is ∙ exit_also shape inputs outputs meets.ports
  row_meets (Buffer shape) meets = row_at (Buffer shape) meets.is meets.ports meets.ok meets.says
  row_meets (Fork shape count) meets = row_at (Fork shape count) meets.is meets.ports meets.ok meets.says
  row_meets (Join shapes) meets = row_at (Join shapes) meets.is meets.ports meets.ok meets.says
  row_meets (Split shapes) meets = row_at (Split shapes) meets.is meets.ports meets.ok meets.says
  row_meets (Operator op widths width) meets = row_at (Operator op widths width) meets.is meets.ports meets.ok meets.says
  row_meets (Constant shape width value) meets = row_at (Constant shape width value) meets.is meets.ports meets.ok meets.says
  row_meets (Source0 shape) meets = row_at (Source0 shape) meets.is meets.ports meets.ok meets.says
  row_meets (Sink0 shape) meets = row_at (Sink0 shape) meets.is meets.ports meets.ok meets.says
  row_meets (Pure fun shape) meets = row_at (Pure fun shape) meets.is meets.ports meets.ok meets.says
  row_meets (Mux shape) meets = row_at (Mux shape) meets.is meets.ports meets.ok meets.says
  row_meets (Branch shape) meets = row_at (Branch shape) meets.is meets.ports meets.ok meets.says
  row_meets (Merge shape count) meets = row_at (Merge shape count) meets.is meets.ports meets.ok meets.says
  row_meets (CtrlMerge shape count width) meets = row_at (CtrlMerge shape count width) meets.is meets.ports meets.ok meets.says
  row_meets (Init value mark) meets = row_at (Init value mark) meets.is meets.ports meets.ok meets.says
  row_meets (Tagger shape tags) meets = row_at (Tagger shape tags) meets.is meets.ports meets.ok meets.says
