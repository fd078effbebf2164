-- A function has one text.
use Rattle.std.proofs.Common.{◌≡◌, ◌<◌, ◌+◌, ◌^◌, ℕ, List, [], ◌∷◌, ◌++◌, map, length, cond, Some, None, refl, ap, sym, ◌∙◌, arith}
use Rattle.std.specs.Prelude.{codes}
use Rattle.std.specs.List.{join_with_byte, flat_map}
use Rattle.std.specs.Str.Parse.{digits_value}
use Rattle.std.specs.Fmt.{decimal}
use Rattle.std.proofs.lemmas.Option.{slice_get_within}
use Rattle.std.proofs.lemmas.List.{length_push}
use Rattle.op_table.specs.Operator.{op_word}
use Rattle.op_table.specs.Table.{is_typed_op}
use Rattle.op_table.specs.Laws.{WidthsAreTested, TypedWidths}
use Rattle.port_types.specs.Numeral.{in_word, NumeralsTellNumbers}
use Rattle.fun_expr.specs.Each.{Each}
use Rattle.fun_expr.specs.Expr.{all_some, expr_width}
use Rattle.fun_expr.specs.Function.{widths_after}
use Rattle.fun_expr.specs.FunText.{expr_text, outs_text}
use Rattle.fun_expr.specs.FunGrammar.{Spells, SpellEach, spells_field, spells_lit, spells_apply, no_more, and_more, Numerals, joined_binds, IsFunText}
use Rattle.fun_expr.specs.FunGrammar as grammar
use Rattle.fun_expr.specs.Laws.{FunctionHasOneText}
use Rattle.fun_expr.specs.declared.expr.Expr.{Expr}
use Rattle.fun_expr.proofs.Lists.{all_some_cons}
use Rattle.fun_expr.proofs.Trees.{width-field, width-lit, width-apply}
use Rattle.fun_expr.proofs.Values.{applied, lit_of}
use Rattle.fun_expr.proofs.Environments.{first_typed}
use Rattle.fun_expr.proofs.Texts.{text-field, text-lit, text-apply}
use Rattle.fun_expr.proofs.HeldTyped.{small_word, lit_fits}
use Rattle.fun_expr.proofs.Parts.{fields_count}
use Rattle.fun_expr.proofs.Printed.{fields_few, binds_same, outs_same}

-- the numeral of a number that a word can hold
numeral_is : NumeralsTellNumbers → (word : List ℕ) (number : ℕ) → grammar.Numeral word number → number < 2 ^ 64 → word ≡ decimal number
numeral_is tell word number n small =
    ((tell word number).0 (ap (λ b. cond b (in_word (digits_value 10 word)) None) n.is ∙ ap in_word n.value ∙ small_word number small)).1

module _ (tell : NumeralsTellNumbers) (tested : WidthsAreTested) (few : TypedWidths) (ws : List ℕ) (short : length ws < 2 ^ 64) where
  mutual
    one : (piece : List ℕ) (e : Expr) → Spells piece e → (w : ℕ) → expr_width ws e ≡ Some w → piece ≡ expr_text e
    one _ _ (spells_field word place n) w h =
        let lt = slice_get_within ws place w (sym (width-field ws place) ∙ h) in
        ap (λ x. codes "#" ++ x) (numeral_is tell word place n (omega (arith, lt, short))) ∙ sym (text-field place)
    one _ _ (spells_lit first second width number n m) w h =
        let l = lit_of width number w (sym (width-lit ws width number) ∙ h) in
        ap (λ x. x ++ codes "'" ++ second) (numeral_is tell first width n (omega (arith, l.narrow)))
        ∙ ap (λ x. decimal width ++ codes "'" ++ x) (numeral_is tell second number m (lit_fits width number l.narrow l.fits)) ∙ sym (text-lit width number)
    one _ _ (spells_apply op word width pieces args n some each) w h =
        let a = applied (λ ins. is_typed_op op ins width) (all_some (map (expr_width ws) args)) width w (sym (width-apply ws op width args) ∙ h) in
        let narrow = (few op a.ins width ((tested op a.ins width).0 a.takes_them)).3 in
        ap (λ x. op_word op ++ codes ":" ++ x ++ codes "(" ++ join_with_byte 44 pieces ++ codes ")") (numeral_is tell word width n (omega (arith, narrow)))
        ∙ ap (λ ps. op_word op ++ codes ":" ++ decimal width ++ codes "(" ++ join_with_byte 44 ps ++ codes ")") (each_one pieces args each a.ins a.are) ∙ sym (text-apply op width args)

    each_one : (pieces : List (List ℕ)) (args : List Expr) → SpellEach pieces args → (ins : List ℕ) → all_some (map (expr_width ws) args) ≡ Some ins → pieces ≡ map expr_text args
    each_one _ _ no_more ins h = refl
    each_one _ _ (and_more p e ps es s ss) ins h =
        let c = all_some_cons (expr_width ws e) (map (expr_width ws) es) ins h in
        ap (λ x. x ∷ ps) (one p e s c.first c.is_first) ∙ ap (λ xs. expr_text e ∷ xs) (each_one ps es ss c.rest c.is_rest)

binds_one : NumeralsTellNumbers → WidthsAreTested → TypedWidths → (pieces : List (List ℕ)) (binds : List Expr) → SpellEach pieces binds → (ws out : List ℕ) → length ws + length binds < 2 ^ 64 → widths_after ws binds ≡ Some out → pieces ≡ map expr_text binds
binds_one tell tested few _ _ no_more ws out short h = refl
binds_one tell tested few _ _ (and_more p e ps es s ss) ws out short h =
    let f = first_typed ws e es out h in
    ap (λ x. x ∷ ps) (one tell tested few ws (omega (arith, short)) p e s f.width f.is)
    ∙ ap (λ xs. expr_text e ∷ xs) (binds_one tell tested few ps es ss (ws ++ f.width ∷ []) out (omega (arith, length_push ws f.width, short)) f.rest)

outs_one : NumeralsTellNumbers → (words : List (List ℕ)) (outs : List ℕ) (bound : ℕ) → bound < 2 ^ 64 → Numerals words outs → Each (λ out. out < bound) outs → words ≡ map decimal outs
outs_one tell [] [] bound small n h = refl
outs_one tell [] (out ∷ outs) bound small n h = absurd n
outs_one tell (word ∷ words) [] bound small n h = absurd n
outs_one tell (word ∷ words) (out ∷ outs) bound small n h =
    ap (λ x. x ∷ words) (numeral_is tell word out n.0 (omega (arith, h.0, small))) ∙ ap (λ xs. decimal out ∷ xs) (outs_one tell words outs bound small n.1 h.1)

pub function_has_one_text : NumeralsTellNumbers → WidthsAreTested → TypedWidths → FunctionHasOneText
function_has_one_text tell tested few f text ok t =
    let count = fields_count f.input f.binds ok.typed.widths ok.typed.binds in
    let fields = fields_few f ok in
    let ps = binds_one tell tested few t.pieces f.binds t.spell_binds f.input ok.typed.widths (omega (arith, fields)) ok.typed.binds in
    let ws = outs_one tell t.words f.outs (length ok.typed.widths) (omega (arith, count, fields)) t.spell_outs ok.typed.outs in
    t.is ∙ ap (λ x. joined_binds x ++ codes "->" ++ flat_map (λ word. codes " #" ++ word) t.words) ps
    ∙ ap (λ x. joined_binds (map expr_text f.binds) ++ codes "->" ++ flat_map (λ word. codes " #" ++ word) x) ws
    ∙ sym (ap (λ x. x ++ codes "->" ++ outs_text f.outs) (binds_same f.binds) ∙ ap (λ x. joined_binds (map expr_text f.binds) ++ codes "->" ++ x) (outs_same f.outs))
