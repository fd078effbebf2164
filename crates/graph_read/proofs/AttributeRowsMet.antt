-- A kind with attributes that is read meets its row.
use Rattle.std.proofs.Common.{◌≡◌, ◌⊎◌, inl, inr, ℕ, ◌==◌, ◌&&◌, ◌≤◌, Bool, true, false, cond, List, [], ◌∷◌, length, map, Option, Some, None, Ok, Err, refl, sym, ap, subst, ◌∙◌, arith}
use Rattle.std.specs.Prelude.{bytes_eq, nat_le, codes, find}
use Rattle.std.specs.List.{concat}
use Rattle.std.proofs.lemmas.Bool.{leb-true, eqb-true, and_parts}
use Rattle.std.proofs.lemmas.List.Elements.{All-head}
use Rattle.std.proofs.lemmas.Option.{none-some, cond_some}
use Rattle.std.proofs.lemmas.Slice.Eq.{bytes_eq-Decides}
use Rattle.op_table.specs.declared.op.Op.{Op}
use Rattle.op_table.specs.Operator.{graph_word}
use Rattle.op_table.specs.Table.{ops, op_named, is_typed_op}
use Rattle.op_table.specs.Laws.{WidthsAreTested}
use Rattle.fun_expr.specs.Function.{Function, out_widths}
use Rattle.fun_expr.specs.Said.{fun_said}
use Rattle.fun_expr.specs.Laws.{SaidByGrammar}
use Rattle.port_types.specs.Shape.{IsShape}
use Rattle.port_types.specs.Numeral.{numeral_value}
use Rattle.port_types.specs.Tag.{tag_width}
use Rattle.components.specs.declared.kind.Kind.{Kind}
use Rattle.components.specs.declared.kind.Kind as kind
use Rattle.components.specs.Kind.{Shape, field, tagged}
use Rattle.components.specs.declared.component.Component.{Component}
use Rattle.components.specs.declared.component.Component as component
use Rattle.graph_read.specs.declared.fault.GraphFaultKind.{GraphFaultKind}
use Rattle.graph_read.specs.declared.fault.GraphFaultKind.TheVariants.{BadPorts, BadOp, BadValue, BadFun, BadTags}
use Rattle.graph_read.specs.Attributes.{Pair, last_value, value_of, tags_within, tags_of}
use Rattle.graph_read.specs.Rows.{Reading, all_are, are_fields, operator_at, operator_named, operator_typed, constant_at, constant_of, constant_with, pure_at, pure_of, pure_with, init_at, init_with, init_marked, start_of, mark_of, tagger_at, tagger_of, tagger_with, row_reading}
use Rattle.graph_read.specs.Laws.{MeetsRow, AreRead}
use Rattle.graph_read.proofs.Answers.{same_answer, refused}
use Rattle.graph_read.proofs.RowsMet.{same_shape, same_shapes, becomes, entry-met, exit-met, buffer-met, fork-met, join-met, split-met, source-met, sink-met, mux-met, branch-met, merge-met, ctrl_merge-met}

-- ---- answers

if_read : (test : Bool) (found k : Kind) (fault : GraphFaultKind) → ◌≡◌ {A = Reading} (cond test (Ok found) (Err fault)) (Ok k) → (test ≡ true) × (found ≡ k)
if_read true found k fault e = (refl, same_answer found k e)
if_read false found k fault e = refused fault k e

then_read : (test : Bool) (reading : Reading) (k : Kind) (fault : GraphFaultKind) → ◌≡◌ {A = Reading} (cond test reading (Err fault)) (Ok k) → (test ≡ true) × (reading ≡ Ok k)
then_read true reading k fault e = (refl, e)
then_read false reading k fault e = refused fault k e

-- ---- numbers

few_within : (number : Option ℕ) (tags : ℕ) → tags_within number ≡ Some tags → (1 ≤ tags) × (tags ≤ 256)
few_within None tags e = absurd (none-some tags e)
few_within (Some number) tags e =
    let found = cond_some (nat_le 1 number && nat_le number 256) number tags e in
    let tests = and_parts (nat_le 1 number) (nat_le number 256) found.0 in
    (omega (arith, leb-true 1 number tests.0, found.1), omega (arith, leb-true number 256 tests.1, found.1))

tags_few : (text : List ℕ) (tags : ℕ) → tags_of text ≡ Some tags → (1 ≤ tags) × (tags ≤ 256)
tags_few text = few_within (numeral_value text)

start_says : (given : Option (List ℕ)) (value : ℕ) → start_of given ≡ Some value →
    ((given ≡ None) × (value ≡ 0)) ⊎ ((text : List ℕ) × (given ≡ Some text) × (value_of text ≡ Some value))
start_says None value e = inl (refl, cc)
start_says (Some text) value e = inr (text, refl, e)

mark_says : (given : Option (List ℕ)) (mark : ℕ) → mark_of given ≡ Some mark →
    ((given ≡ None) × (mark ≡ 0)) ⊎ ((text : List ℕ) × (given ≡ Some text) × (tags_of text ≡ Some mark))
mark_says None mark e = inl (refl, cc)
mark_says (Some text) mark e = inr (text, refl, e)

mark_few : (given : Option (List ℕ)) (mark : ℕ) → mark_of given ≡ Some mark → mark ≤ 256
mark_few None mark e = let zero : mark ≡ 0 = cc in omega (arith, zero)
mark_few (Some text) mark e = (tags_few text mark e).1

-- ---- fields and names

fields_are : (shapes : List Shape) → are_fields shapes ≡ true → shapes ≡ map field (concat shapes)
fields_are [] test = refl
fields_are ([] ∷ shapes) test = absurd (cc)
fields_are ((width ∷ []) ∷ shapes) test = ap (λ (rest : List Shape). (width ∷ []) ∷ rest) (fields_are shapes test)
fields_are ((width ∷ more ∷ widths) ∷ shapes) test =
    let parts = and_parts (length (width ∷ more ∷ widths) == 1) (are_fields shapes) test in
    absurd (omega (arith, eqb-true (length (width ∷ more ∷ widths)) 1 parts.0))

found_step : (test : Op → Bool) (first x : Op) (others : Option Op) (b : Bool) → test first ≡ b → cond b (Some first) others ≡ Some x → (others ≡ Some x → test x ≡ true) → test x ≡ true
found_step test first x others true passes e rest = cc
found_step test first x others false fails e rest = rest e

find_passes : (test : Op → Bool) (xs : List Op) (x : Op) → find test xs ≡ Some x → test x ≡ true
find_passes test [] x e = cc
find_passes test (first ∷ xs) x e = found_step test first x (find test xs) (test first) refl e (find_passes test xs x)

word_named : (word : List ℕ) (op : Op) → op_named word ≡ Some op → word ≡ graph_word op
unfolding op_named
word_named word op e = sym ((bytes_eq-Decides (graph_word op) word).0 (find_passes (λ other. bytes_eq (graph_word other) word) ops op e))

module _ (k : Kind) where
  -- ---- what was found

  typed_found : (widths : List ℕ) (width : ℕ) (found : Option Op) → operator_typed widths width found ≡ Ok k →
      (op : Op) × (found ≡ Some op) × (is_typed_op op widths width ≡ true) × (kind.TheVariants.Operator op widths width ≡ k)
  typed_found widths width None e = refused BadOp k e
  typed_found widths width (Some op) e =
      let found = if_read (is_typed_op op widths width) (kind.TheVariants.Operator op widths width) k BadOp e in
      (op, refl, found.0, found.1)

  operator_found : (widths : List ℕ) (width : ℕ) (given : Option (List ℕ)) → operator_named widths width given ≡ Ok k →
      (op : Op) × (given ≡ Some (graph_word op)) × (is_typed_op op widths width ≡ true) × (kind.TheVariants.Operator op widths width ≡ k)
  operator_found widths width None e = refused BadOp k e
  operator_found widths width (Some word) e =
      let found = typed_found widths width (op_named word) e in
      (found.0, ap (λ (w : List ℕ). Some w) (word_named word found.0 found.1), found.2, found.3)

  valued_found : (shape : Shape) (width : ℕ) (given : Option ℕ) → constant_with shape width given ≡ Ok k →
      (value : ℕ) × (given ≡ Some value) × (kind.TheVariants.Constant shape width value ≡ k)
  valued_found shape width None e = refused BadValue k e
  valued_found shape width (Some value) e = (value, refl, same_answer (kind.TheVariants.Constant shape width value) k e)

  constant_found : (shape : Shape) (width : ℕ) (given : Option (List ℕ)) → constant_of shape width given ≡ Ok k →
      (value : ℕ) × ((text : List ℕ) × (given ≡ Some text) × (value_of text ≡ Some value)) × (kind.TheVariants.Constant shape width value ≡ k)
  constant_found shape width None e = refused BadValue k e
  constant_found shape width (Some text) e =
      let found = valued_found shape width (value_of text) e in
      (found.0, (text, refl, found.1), found.2)

  function_found : (out : Shape) (given : Option Function) → pure_with out given ≡ Ok k →
      (fun : Function) × (given ≡ Some fun) × (out_widths fun ≡ out) × (kind.TheVariants.Pure fun out ≡ k)
  function_found out None e = refused BadFun k e
  function_found out (Some fun) e =
      let found = if_read (bytes_eq (out_widths fun) out) (kind.TheVariants.Pure fun out) k BadFun e in
      (fun, refl, same_shape (out_widths fun) out found.0, found.1)

  pure_found : (shape out : Shape) (given : Option (List ℕ)) → pure_of shape out given ≡ Ok k →
      (fun : Function) × ((text : List ℕ) × (given ≡ Some text) × (fun_said text shape ≡ Some fun)) × (out_widths fun ≡ out) × (kind.TheVariants.Pure fun out ≡ k)
  pure_found shape out None e = refused BadFun k e
  pure_found shape out (Some text) e =
      let found = function_found out (fun_said text shape) e in
      (found.0, (text, refl, found.1), found.2, found.3)

  marked_found : (value : ℕ) (given : Option ℕ) → init_marked value given ≡ Ok k → (mark : ℕ) × (given ≡ Some mark) × (kind.TheVariants.Init value mark ≡ k)
  marked_found value None e = refused BadTags k e
  marked_found value (Some mark) e = (mark, refl, same_answer (kind.TheVariants.Init value mark) k e)

  init_found : (start : Option ℕ) (given : Option (List ℕ)) → init_with start given ≡ Ok k →
      (value : ℕ) × (mark : ℕ) × (start ≡ Some value) × (value ≤ 1) × (mark_of given ≡ Some mark) × (kind.TheVariants.Init value mark ≡ k)
  init_found None given e = refused BadValue k e
  init_found (Some value) given e =
      let small = then_read (nat_le value 1) (init_marked value (mark_of given)) k BadValue e in
      let found = marked_found value (mark_of given) small.1 in
      (value, found.0, refl, leb-true value 1 small.0, found.1, found.2)

  tagged_found : (shape : Shape) (width : ℕ) (given : Option ℕ) → tagger_with shape width given ≡ Ok k →
      (tags : ℕ) × (given ≡ Some tags) × (width ≡ tag_width tags) × (kind.TheVariants.Tagger shape tags ≡ k)
  tagged_found shape width None e = refused BadTags k e
  tagged_found shape width (Some tags) e =
      let found = if_read (width == tag_width tags) (kind.TheVariants.Tagger shape tags) k BadTags e in
      (tags, refl, eqb-true width (tag_width tags) found.0, found.1)

  tagger_found : (shape : Shape) (width : ℕ) (given : Option (List ℕ)) → tagger_of shape width given ≡ Ok k →
      (tags : ℕ) × ((text : List ℕ) × (given ≡ Some text) × (tags_of text ≡ Some tags)) × (width ≡ tag_width tags) × (kind.TheVariants.Tagger shape tags ≡ k)
  tagger_found shape width None e = refused BadTags k e
  tagger_found shape width (Some text) e =
      let found = tagged_found shape width (tags_of text) e in
      (found.0, (text, refl, found.1), found.2, found.3)

  -- ---- the rows

  module _ (pairs : List Pair) where
    pub operator-met : WidthsAreTested → (inputs outputs : List Shape) → operator_at inputs outputs (last_value (codes "op") pairs) ≡ Ok k → MeetsRow component.TheVariants.Operator inputs outputs pairs k
    operator-met tested inputs ((width ∷ []) ∷ []) e =
        let fields = then_read (are_fields inputs) (operator_named (concat inputs) width (last_value (codes "op") pairs)) k BadPorts e in
        let found = operator_found (concat inputs) width (last_value (codes "op") pairs) fields.1 in
        becomes component.TheVariants.Operator inputs ((width ∷ []) ∷ []) pairs (kind.TheVariants.Operator found.0 (concat inputs) width) k found.3
        (record { is = refl; ok = (tested found.0 (concat inputs) width).0 found.2; ports = (fields_are inputs fields.0, refl); says = found.1 })
    operator-met tested inputs outputs e = refused BadPorts k e

    pub constant-met : (inputs outputs : List Shape) → AreRead inputs → AreRead outputs → constant_at inputs outputs (last_value (codes "value") pairs) ≡ Ok k → MeetsRow component.TheVariants.Constant inputs outputs pairs k
    constant-met (shape ∷ []) ((width ∷ []) ∷ []) read_in read_out e =
        let found = constant_found shape width (last_value (codes "value") pairs) e in
        let narrow = All-head (λ w. w ≤ 64) width [] (All-head IsShape (width ∷ []) [] read_out.each).narrow in
        becomes component.TheVariants.Constant (shape ∷ []) ((width ∷ []) ∷ []) pairs (kind.TheVariants.Constant shape width found.0) k found.2
        (record { is = refl; ok = (All-head IsShape shape [] read_in.each, narrow); ports = (refl, refl); says = found.1 })
    constant-met inputs outputs read_in read_out e = refused BadPorts k e

    pub pure-met : SaidByGrammar → (inputs outputs : List Shape) → AreRead outputs → pure_at inputs outputs (last_value (codes "fun") pairs) ≡ Ok k → MeetsRow component.TheVariants.Pure inputs outputs pairs k
    pure-met by_grammar (shape ∷ []) (out ∷ []) read_out e =
        let found = pure_found shape out (last_value (codes "fun") pairs) e in
        let fun = found.0 in
        let said = (by_grammar found.1.0 shape fun).0 found.1.2 in
        becomes component.TheVariants.Pure (shape ∷ []) (out ∷ []) pairs (kind.TheVariants.Pure fun out) k found.3
        (record {
          is = refl;
          ok = (All-head IsShape out [] read_out.each, said.2, found.2);
          ports = (ap (λ (s : Shape). s ∷ []) (sym said.0), refl);
          says = (found.1.0, found.1.1, said.1);
        })
    pure-met by_grammar inputs outputs read_out e = refused BadPorts k e

    pub init-met : (inputs outputs : List Shape) → init_at inputs outputs (last_value (codes "value") pairs) (last_value (codes "ooo") pairs) ≡ Ok k → MeetsRow component.TheVariants.Init inputs outputs pairs k
    init-met (shape ∷ []) (out ∷ []) e =
        let start = last_value (codes "value") pairs in
        let ooo = last_value (codes "ooo") pairs in
        let bits = then_read (all_are (field 1) (shape ∷ out ∷ [])) (init_with (start_of start) ooo) k BadPorts e in
        let tests = and_parts (bytes_eq shape (field 1)) (all_are (field 1) (out ∷ [])) bits.0 in
        let found = init_found (start_of start) ooo bits.1 in
        becomes component.TheVariants.Init (shape ∷ []) (out ∷ []) pairs (kind.TheVariants.Init found.0 found.1) k found.5
        (record {
          is = refl;
          ok = (found.3, mark_few ooo found.1 found.4);
          ports = (ap (λ (s : Shape). s ∷ []) (same_shape shape (field 1) tests.0), same_shapes (field 1) (out ∷ []) tests.1);
          says = (start_says start found.0 found.2, mark_says ooo found.1 found.4);
        })
    init-met inputs outputs e = refused BadPorts k e

    pub tagger-met : (inputs outputs : List Shape) → AreRead inputs → AreRead outputs → tagger_at inputs outputs (last_value (codes "tags") pairs) ≡ Ok k → MeetsRow component.TheVariants.Tagger inputs outputs pairs k
    tagger-met (shape ∷ back ∷ []) ((width ∷ fields) ∷ out ∷ []) read_in read_out e =
        let ports = then_read (all_are shape (fields ∷ out ∷ []) && bytes_eq back (width ∷ fields)) (tagger_of shape width (last_value (codes "tags") pairs)) k BadPorts e in
        let tests = and_parts (all_are shape (fields ∷ out ∷ [])) (bytes_eq back (width ∷ fields)) ports.0 in
        let shapes = and_parts (bytes_eq fields shape) (all_are shape (out ∷ [])) tests.0 in
        let found = tagger_found shape width (last_value (codes "tags") pairs) ports.1 in
        let whole : ◌≡◌ {A = Shape} (width ∷ fields) (tagged found.0 shape) = λ i. found.2 i ∷ same_shape fields shape shapes.0 i in
        let few = tags_few found.1.0 found.0 found.1.2 in
        becomes component.TheVariants.Tagger (shape ∷ back ∷ []) ((width ∷ fields) ∷ out ∷ []) pairs (kind.TheVariants.Tagger shape found.0) k found.3
        (record {
          is = refl;
          ok = (All-head IsShape shape (back ∷ []) read_in.each, subst IsShape whole (All-head IsShape (width ∷ fields) (out ∷ []) read_out.each), few.0, few.1);
          ports = (
            ap (λ (s : Shape). shape ∷ s ∷ []) (same_shape back (width ∷ fields) tests.1 ∙ whole),
            λ i. whole i ∷ same_shapes shape (out ∷ []) shapes.1 i,
          );
          says = found.1;
        })
    tagger-met inputs outputs read_in read_out e = refused BadPorts k e

-- a kind that is read meets its row
pub row_met : WidthsAreTested → SaidByGrammar → (component : Component) (inputs outputs : List Shape) (pairs : List Pair) (k : Kind) → AreRead inputs → AreRead outputs →
    row_reading component inputs outputs pairs ≡ Ok k → MeetsRow component inputs outputs pairs k
row_met tested by_grammar component.TheVariants.Entry inputs outputs pairs k read_in read_out e = entry-met pairs k inputs outputs read_out e
row_met tested by_grammar component.TheVariants.Exit inputs outputs pairs k read_in read_out e = exit-met pairs k inputs outputs read_in e
row_met tested by_grammar component.TheVariants.Buffer inputs outputs pairs k read_in read_out e = buffer-met pairs k inputs outputs read_in e
row_met tested by_grammar component.TheVariants.Fork inputs outputs pairs k read_in read_out e = fork-met pairs k inputs outputs read_in read_out e
row_met tested by_grammar component.TheVariants.Join inputs outputs pairs k read_in read_out e = join-met pairs k inputs outputs read_in read_out e
row_met tested by_grammar component.TheVariants.Split inputs outputs pairs k read_in read_out e = split-met pairs k inputs outputs read_in read_out e
row_met tested by_grammar component.TheVariants.Operator inputs outputs pairs k read_in read_out e = operator-met k pairs tested inputs outputs e
row_met tested by_grammar component.TheVariants.Constant inputs outputs pairs k read_in read_out e = constant-met k pairs inputs outputs read_in read_out e
row_met tested by_grammar component.TheVariants.Source inputs outputs pairs k read_in read_out e = source-met pairs k inputs outputs read_out e
row_met tested by_grammar component.TheVariants.Sink inputs outputs pairs k read_in read_out e = sink-met pairs k inputs outputs read_in e
row_met tested by_grammar component.TheVariants.Pure inputs outputs pairs k read_in read_out e = pure-met k pairs by_grammar inputs outputs read_out e
row_met tested by_grammar component.TheVariants.Mux inputs outputs pairs k read_in read_out e = mux-met pairs k inputs outputs read_out e
row_met tested by_grammar component.TheVariants.Branch inputs outputs pairs k read_in read_out e = branch-met pairs k inputs outputs read_in e
row_met tested by_grammar component.TheVariants.Merge inputs outputs pairs k read_in read_out e = merge-met pairs k inputs outputs read_in read_out e
row_met tested by_grammar component.TheVariants.CtrlMerge inputs outputs pairs k read_in read_out e = ctrl_merge-met pairs k inputs outputs read_in read_out e
row_met tested by_grammar component.TheVariants.Init inputs outputs pairs k read_in read_out e = init-met k pairs inputs outputs e
row_met tested by_grammar component.TheVariants.Tagger inputs outputs pairs k read_in read_out e = tagger-met k pairs inputs outputs read_in read_out e
