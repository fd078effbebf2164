-- The computed function of a text is the one that the text says by the grammar.
use Rattle.std.proofs.Common.{◌≡◌, ◌<◌, ◌≤◌, ◌+◌, ◌-◌, ◌^◌, ◌&&◌, ℕ, Bool, true, false, cond, List, [], ◌∷◌, length, map, Option, Some, None, Result, Ok, Err, refl, ap, sym, ◌∙◌, subst, arith}
use Rattle.std.specs.Prelude.{nat_le, nat_lt}
use Rattle.std.specs.List.{list_all}
use Rattle.std.proofs.lemmas.Bool.{and_parts, and_from, leb-true, le-leb, ltb-true, lt-ltb}
use Rattle.std.proofs.lemmas.List.{length-map}
use Rattle.std.proofs.lemmas.List.Elements.{All-from_recursion, recursion_from_All}
use Rattle.std.proofs.lemmas.Option.{none-some, same_Some, cond_some}
use Rattle.op_table.specs.Laws.{WidthsAreTested, TypedWidths, ShortWordsDiffer}
use Rattle.port_types.specs.Shape.{IsShape}
use Rattle.fun_expr.specs.Each.{Each}
use Rattle.fun_expr.specs.Expr.{expr_depth}
use Rattle.fun_expr.specs.Function.{Function, widths_after, FunTyped, FunOk, fun_size}
use Rattle.fun_expr.specs.FunGrammar.{IsFunText}
use Rattle.fun_expr.specs.FunReading.{function, IsWithin, Reads}
use Rattle.fun_expr.specs.Said.{is_shape, are_outs, is_function, function_if, said_of, fun_said, function_in}
use Rattle.fun_expr.specs.Laws.{IsProper, SaidByGrammar, SaidAsRead}
use Rattle.fun_expr.specs.declared.expr.Expr.{Expr}
use Rattle.fun_expr.specs.declared.fault.FunFault.{FunFault}
use Rattle.fun_expr.specs.declared.scan.Extent.{Extent}
use Rattle.fun_expr.specs.Machine.{begin}
use Rattle.fun_expr.specs.Counting.{nothing_counted, scanned}
use Rattle.fun_expr.specs.Building.{no_parts, built}
use Rattle.fun_expr.proofs.Printed.{binds_few}
use Rattle.fun_expr.proofs.Parts.{is_light}
use Rattle.fun_expr.proofs.Held.{held}
use Rattle.fun_expr.proofs.Complete.{held_out, grown_all, complete}
use Rattle.fun_expr.proofs.Running.{scans_whole}
use Rattle.fun_expr.proofs.Finishing.{scanned_text}
use Rattle.fun_expr.proofs.OneReading.{reading_is_one}
use Rattle.fun_expr.proofs.Answered.{start, built_is, is_read, binds_are, outs_are}

-- ---- the tests

each_of : {A : Type 0} (p : A → Bool) (P : A → Type 0) → ((x : A) → p x ≡ true → P x) → (xs : List A) → list_all p xs ≡ true → Each P xs
each_of p P h [] e = tt
each_of p P h (x ∷ xs) e = let parts = and_parts (p x) (list_all p xs) e in (h x parts.0, each_of p P h xs parts.1)

of_each : {A : Type 0} (p : A → Bool) (P : A → Type 0) → ((x : A) → P x → p x ≡ true) → (xs : List A) → Each P xs → list_all p xs ≡ true
of_each p P h [] e = refl
of_each p P h (x ∷ xs) e = and_from (p x) (list_all p xs) (h x e.0) (of_each p P h xs e.1)

shape_of : (widths : List ℕ) → is_shape widths ≡ true → IsShape widths
shape_of widths e =
    let both = and_parts _ (list_all (λ width. nat_le width 64) widths) e in
    let count = and_parts (nat_le 1 (length widths)) (nat_le (length widths) 128) both.0 in
    record {
      some = leb-true 1 (length widths) count.0;
      few = leb-true (length widths) 128 count.1;
      narrow = All-from_recursion (λ width. width ≤ 64) widths (each_of (λ width. nat_le width 64) (λ width. width ≤ 64) (λ width. leb-true width 64) widths both.1);
    }

of_shape : (widths : List ℕ) → IsShape widths → is_shape widths ≡ true
of_shape widths s =
    and_from _ _ (and_from _ _ (le-leb 1 (length widths) s.some) (le-leb (length widths) 128 s.few))
    (of_each (λ width. nat_le width 64) (λ width. width ≤ 64) (λ width. le-leb width 64) widths (recursion_from_All (λ width. width ≤ 64) widths s.narrow))

typed_of : (f : Function) (widths : Option (List ℕ)) → widths_after f.input f.binds ≡ widths → are_outs f.outs widths ≡ true → FunTyped f
typed_of f None is e = absurd (cc)
typed_of f (Some widths) is e =
    let both = and_parts _ (nat_le (length f.outs) 128) e in
    let some = and_parts (list_all (λ out. nat_lt out (length widths)) f.outs) (nat_le 1 (length f.outs)) both.0 in
    record {
      widths = widths;
      binds = is;
      outs = each_of (λ out. nat_lt out (length widths)) (λ out. out < length widths) (λ out. ltb-true out (length widths)) f.outs some.0;
      some = leb-true 1 (length f.outs) some.1;
      few = leb-true (length f.outs) 128 both.1;
    }

of_typed : (f : Function) → FunTyped f → are_outs f.outs (widths_after f.input f.binds) ≡ true
of_typed f t =
    ap (are_outs f.outs) t.binds
    ∙ and_from _ _ (and_from _ _ (of_each (λ out. nat_lt out (length t.widths)) (λ out. out < length t.widths) (λ out. lt-ltb out (length t.widths)) f.outs t.outs)
    (le-leb 1 (length f.outs) t.some)) (le-leb (length f.outs) 128 t.few)

function_of : (f : Function) → is_function f ≡ true → FunOk f
function_of f e =
    let three = and_parts _ (list_all (λ bind. nat_le (expr_depth bind) 64) f.binds) e in
    let two = and_parts (is_shape f.input && are_outs f.outs (widths_after f.input f.binds)) (nat_le (fun_size f) 16384) three.0 in
    let one = and_parts (is_shape f.input) (are_outs f.outs (widths_after f.input f.binds)) two.0 in
    record {
      input = shape_of f.input one.0;
      typed = typed_of f (widths_after f.input f.binds) refl one.1;
      size = leb-true (fun_size f) 16384 two.1;
      depth = each_of (λ bind. nat_le (expr_depth bind) 64) (λ bind. expr_depth bind ≤ 64) (λ bind. leb-true (expr_depth bind) 64) f.binds three.1;
    }

of_function : (f : Function) → FunOk f → is_function f ≡ true
of_function f ok =
    and_from _ _ (and_from _ _ (and_from _ _ (of_shape f.input ok.input) (of_typed f ok.typed)) (le-leb (fun_size f) 16384 ok.size))
    (of_each (λ bind. nat_le (expr_depth bind) 64) (λ bind. expr_depth bind ≤ 64) (λ bind. le-leb (expr_depth bind) 64) f.binds ok.depth)

-- ---- the function of a text

module _ (tested : WidthsAreTested) (few : TypedWidths) (text input : List ℕ) (f : Function) where
  abbrev SaidHere : Type 0
  SaidHere = (f.input ≡ input) × IsFunText text f.binds f.outs × FunOk f

  -- what the reader builds is said where it is a function
  built_said : (binds : List Expr) (outs : List ℕ) → IsFunText text binds outs → (bs : List Expr) (os : List ℕ) → bs ≡ map held binds → os ≡ map held_out outs → FunOk (function input bs os) →
      f ≡ function input bs os → SaidHere
  built_said binds outs t bs os bs_same os_same ok e =
      let same : f ≡ function input (map held binds) (map held_out outs) = e ∙ (λ i. function input (bs_same i) (os_same i)) in
      let ok_f : FunOk f = subst FunOk (sym e) ok in
      let light = is_light (function input bs os) ok in
      let short : length input + length binds < 2 ^ 64 - 1 = omega (arith, ok.input.few, binds_few bs, light, ap length bs_same, length-map binds held) in
      let read = is_read tested few text input binds outs f t short same ok_f in
      (read.0, read.1, ok_f)

  said_for : (scan : Result Extent ℕ) → scanned begin nothing_counted 0 text ≡ scan → said_of input (built begin no_parts text) scan ≡ Some f → SaidHere
  said_for (Err at) is e = absurd (none-some f e)
  said_for (Ok extent) is e =
      let t = scanned_text text extent is in
      let parts = built begin no_parts text in
      let found = cond_some (is_function (function input parts.binds parts.outs)) (function input parts.binds parts.outs) f e in
      let same = built_is text t.0 t.1 t.2 in
      built_said t.0 t.1 t.2 parts.binds parts.outs (ap (λ p. p.binds) same) (ap (λ p. p.outs) same) (function_of (function input parts.binds parts.outs) found.0) (sym found.1)

  of_grammar : f.input ≡ input → IsFunText text f.binds f.outs → FunOk f → fun_said text input ≡ Some f
  unfolding fun_said
  of_grammar is t ok =
      let w = complete text f.binds f.outs t in
      let whole = scans_whole text start w.last 0 w.is w.whole in
      let short : length f.input + length f.binds < 2 ^ 64 - 1 = omega (arith, ok.input.few, binds_few f.binds, is_light f ok) in
      let binds_same : map held f.binds ≡ f.binds = binds_are tested few f short ok in
      let outs_same : map held_out f.outs ≡ f.outs = outs_are tested few f short ok in
      ap (said_of input (built begin no_parts text)) whole
      ∙ ap (λ p. said_of input p (Ok w.last.extent)) (built_is text f.binds f.outs t)
      ∙ (λ i. function_if (function (sym is i) (binds_same i) (outs_same i)))
      ∙ ap (λ (b : Bool). cond b (Some f) None) (of_function f ok)

  pub said_where : (fun_said text input ≡ Some f → SaidHere) × (SaidHere → fun_said text input ≡ Some f)
  unfolding fun_said
  said_where = (said_for (scanned begin nothing_counted 0 text) refl, λ h. of_grammar h.0 h.1 h.2)

pub said_by_grammar : WidthsAreTested → TypedWidths → SaidByGrammar
said_by_grammar tested few text input f = said_where tested few text input f

none_where : (o : Option Function) → ((f : Function) → o ≡ Some f → ⊥) → o ≡ None
none_where None h = refl
none_where (Some f) h = absurd (h f refl)

pub said_as_read : WidthsAreTested → TypedWidths → ShortWordsDiffer → SaidAsRead
said_as_read tested few names text input (Ok f) proper reads = (said_by_grammar tested few text input f).1 (reads.0, reads.1, proper)
said_as_read tested few names text input (Err fault) proper reads =
    none_where (fun_said text input) (λ f is.
    let said = (said_by_grammar tested few text input f).0 is in
    let same : ◌≡◌ {A = Result Function FunFault} (Err fault) (Ok f) = reading_is_one names text input (Err fault) (Ok f) proper said.2 reads (said.0, said.1) in
    absurd (cc))
