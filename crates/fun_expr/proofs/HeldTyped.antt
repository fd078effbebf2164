-- Numbers that the code can't hold are in no typed function, and their places are not there.
use Rattle.std.proofs.Common.{◌≡◌, ◌<◌, ◌≤◌, ◌+◌, ◌-◌, ◌^◌, ℕ, List, [], ◌∷◌, ◌++◌, Bool, true, false, cond, length, map, Option, Some, None, refl, ap, sym, ◌∙◌, subst, arith}
use Rattle.std.specs.Prelude.{nat_lt}
use Rattle.std.proofs.lemmas.Option.{slice_get_within}
use Rattle.std.proofs.lemmas.List.{length_push}
use Rattle.std.proofs.lemmas.Bool.Decides.{nat_tests}
use Rattle.std.proofs.Math.Pow.{pow_mono}
use Rattle.op_table.specs.declared.op.Op.{Op}
use Rattle.op_table.specs.Table.{is_typed_op}
use Rattle.op_table.specs.Laws.{WidthsAreTested, TypedWidths}
use Rattle.port_types.specs.Numeral.{in_word}
use Rattle.fun_expr.specs.Each.{Each, largest}
use Rattle.fun_expr.specs.Expr.{all_some, expr_width}
use Rattle.fun_expr.specs.Function.{widths_after}
use Rattle.fun_expr.specs.FunReading.{places_bound, PlacesThere}
use Rattle.fun_expr.specs.declared.expr.Expr.{Expr}
use Rattle.fun_expr.specs.declared.expr.Expr.TheVariants.{Field, Lit, Apply}
use Rattle.fun_expr.specs.Machine.{held_width}
use Rattle.fun_expr.specs.Building.{held_place, literal}
use Rattle.fun_expr.proofs.Lists.{all_some_cons}
use Rattle.fun_expr.proofs.Trees.{induction, width-field, width-lit, width-apply}
use Rattle.fun_expr.proofs.Values.{applied, lit_of}
use Rattle.fun_expr.proofs.Environments.{first_typed}
use Rattle.fun_expr.proofs.PlaceBounds.{bound-field, bound-lit, bound-apply}
use Rattle.fun_expr.proofs.Held.{held, held-field, held-lit, held-apply}
use Rattle.fun_expr.proofs.Complete.{held_out}

-- numbers that the code can hold
pub small_word : (n : ℕ) → n < 2 ^ 64 → in_word n ≡ Some n
small_word n lt = let yes : nat_lt n (2 ^ 64) ≡ true = grind (arith, nat_tests) in ap (λ b. cond b (Some n) None) yes

small_width : (n : ℕ) → n < 256 → held_width (in_word n) ≡ n
small_width n lt =
    let yes : nat_lt n 256 ≡ true = grind (arith, nat_tests) in
    ap held_width (small_word n (omega arith)) ∙ ap (λ b. cond b n 255) yes

small_place : (n : ℕ) → n < 2 ^ 64 → held_place (in_word n) ≡ n
small_place n lt = ap held_place (small_word n lt)

-- a held place that is below a bound is the place
place_below : (n bound : ℕ) → bound < 2 ^ 64 → held_place (in_word n) < bound → n < 2 ^ 64
place_below n bound small h = by (nat_lt n (2 ^ 64)) refl
  where
    by : (b : Bool) → nat_lt n (2 ^ 64) ≡ b → n < 2 ^ 64
    by true e = grind (arith, nat_tests)
    by false e = let place : held_place (in_word n) ≡ 2 ^ 64 - 1 = ap (λ b. held_place (cond b (Some n) None)) e in absurd (omega (arith, place, small, h))

width_below : (n : ℕ) → held_width (in_word n) ≤ 64 → n < 256
width_below n h = by (nat_lt n (2 ^ 64)) refl
  where
    second : (b : Bool) → nat_lt n 256 ≡ b → nat_lt n (2 ^ 64) ≡ true → n < 256
    second true e e' = grind (arith, nat_tests)
    second false e e' =
        let width : held_width (in_word n) ≡ 255 = ap (λ b. held_width (cond b (Some n) None)) e' ∙ ap (λ b. cond b n 255) e in
        absurd (omega (arith, width, h))

    by : (b : Bool) → nat_lt n (2 ^ 64) ≡ b → n < 256
    by true e = second (nat_lt n 256) refl e
    by false e = let width : held_width (in_word n) ≡ 255 = ap (λ b. held_width (cond b (Some n) None)) e in absurd (omega (arith, width, h))

same_args : (P : Expr → Type 0) (f : Expr → Expr) (args : List Expr) → Each (λ e. P e → f e ≡ e) args → Each P args → map f args ≡ args
same_args P f [] hs ps = refl
same_args P f (e ∷ args) hs ps = ap (λ x. x ∷ map f args) (hs.0 ps.0) ∙ ap (λ xs. e ∷ xs) (same_args P f args hs.1 ps.1)

-- arguments all of which are typed
args_typed : (g : Expr → Option ℕ) (f : Expr → Expr) (args : List Expr) (ins : List ℕ) → Each (λ e. (w : ℕ) → g (f e) ≡ Some w → f e ≡ e) args → all_some (map g (map f args)) ≡ Some ins → map f args ≡ args
args_typed g f [] ins hs h = refl
args_typed g f (e ∷ args) ins hs h =
    let c = all_some_cons (g (f e)) (map g (map f args)) ins h in
    ap (λ x. x ∷ map f args) (hs.0 c.first c.is_first) ∙ ap (λ xs. e ∷ xs) (args_typed g f args c.rest hs.1 c.is_rest)

args_typed' : (g : Expr → Option ℕ) (f : Expr → Expr) (args : List Expr) (ins : List ℕ) → Each (λ e. (w : ℕ) → g e ≡ Some w → f e ≡ e) args → all_some (map g args) ≡ Some ins → map f args ≡ args
args_typed' g f [] ins hs h = refl
args_typed' g f (e ∷ args) ins hs h =
    let c = all_some_cons (g e) (map g args) ins h in
    ap (λ x. x ∷ map f args) (hs.0 c.first c.is_first) ∙ ap (λ xs. e ∷ xs) (args_typed' g f args c.rest hs.1 c.is_rest)

-- a literal whose number the code can hold
lit_held : (width number : ℕ) → width < 256 → number < 2 ^ 64 → held (Lit width number) ≡ Lit width number
lit_held width number w n = held-lit width number ∙ ap (λ v. literal (held_width (in_word width)) v) (small_word number n) ∙ ap (λ x. Lit x number) (small_width width w)

pub lit_fits : (width number : ℕ) → width ≤ 64 → number < 2 ^ width → number < 2 ^ 64
lit_fits width number narrow fits = omega (arith, fits, pow_mono narrow)

module _ (tested : WidthsAreTested) (few : TypedWidths) where
  narrow : (op : Op) (ins : List ℕ) (width : ℕ) → is_typed_op op ins width ≡ true → width ≤ 64
  narrow op ins width takes = (few op ins width ((tested op ins width).0 takes)).3

  -- a typed expression is held as it is
  pub typed_held : (ws : List ℕ) → length ws < 2 ^ 64 → (e : Expr) (w : ℕ) → expr_width ws e ≡ Some w → held e ≡ e
  typed_held ws short = induction (λ e. (w : ℕ) → expr_width ws e ≡ Some w → held e ≡ e)
      (λ place w h. held-field place ∙ ap Field (small_place place (omega (arith, slice_get_within ws place w (sym (width-field ws place) ∙ h)))))
      (λ width number w h.
      let l = lit_of width number w (sym (width-lit ws width number) ∙ h) in
      lit_held width number (omega (arith, l.narrow)) (lit_fits width number l.narrow l.fits))
      (λ op width args hs w h.
      let a = applied (λ ins. is_typed_op op ins width) (all_some (map (expr_width ws) args)) width w (sym (width-apply ws op width args) ∙ h) in
      let small = narrow op a.ins width a.takes_them in
      held-apply op width args ∙ ap (λ x. Apply op x (map held args)) (small_width width (omega (arith, small))) ∙ ap (Apply op width) (args_typed' (expr_width ws) held args a.ins hs a.are))

  -- and one that is typed as it is held
  lit_again : (ws : List ℕ) (width number w : ℕ) (o : Option ℕ) → in_word number ≡ o → expr_width ws (literal (held_width (in_word width)) o) ≡ Some w → held (Lit width number) ≡ Lit width number
  lit_again ws width number w None e h = let l = lit_of 255 0 w (sym (width-lit ws 255 0) ∙ h) in absurd (omega (arith, l.narrow))
  lit_again ws width number w (Some n) e h =
      let l = lit_of (held_width (in_word width)) n w (sym (width-lit ws (held_width (in_word width)) n) ∙ h) in
      lit_held width number (width_below width l.narrow) (word_small number n e)
    where
      word_small : (number n : ℕ) → in_word number ≡ Some n → number < 2 ^ 64
      word_small number n e = by (nat_lt number (2 ^ 64)) refl
        where
          by : (b : Bool) → nat_lt number (2 ^ 64) ≡ b → number < 2 ^ 64
          by true t = grind (arith, nat_tests)
          by false t = let none : in_word number ≡ None = ap (λ b. cond b (Some number) None) t in absurd cc

  pub held_typed : (ws : List ℕ) → length ws < 2 ^ 64 - 1 → (e : Expr) (w : ℕ) → expr_width ws (held e) ≡ Some w → held e ≡ e
  held_typed ws short = induction (λ e. (w : ℕ) → expr_width ws (held e) ≡ Some w → held e ≡ e)
      (λ place w h.
      let lt = slice_get_within ws (held_place (in_word place)) w (sym (width-field ws (held_place (in_word place))) ∙ ap (expr_width ws) (sym (held-field place)) ∙ h) in
      held-field place ∙ ap Field (small_place place (place_below place (length ws) (omega (arith, short)) lt)))
      (λ width number w h. lit_again ws width number w (in_word number) refl (ap (expr_width ws) (sym (held-lit width number)) ∙ h))
      (λ op width args hs w h.
      let wide = held_width (in_word width) in
      let a = applied (λ ins. is_typed_op op ins wide) (all_some (map (expr_width ws) (map held args))) wide w (sym (width-apply ws op wide (map held args)) ∙ ap (expr_width ws) (sym (held-apply op width args)) ∙ h) in
      let small = narrow op a.ins wide a.takes_them in
      held-apply op width args ∙ ap (λ x. Apply op x (map held args)) (small_width width (width_below width small)) ∙ ap (Apply op width) (args_typed (expr_width ws) held args a.ins hs a.are))

  -- the same of binds one after another
  pub binds_held : (ws : List ℕ) (binds : List Expr) (out : List ℕ) → length ws + length binds < 2 ^ 64 - 1 → widths_after ws binds ≡ Some out → map held binds ≡ binds
  binds_held ws [] out short h = refl
  binds_held ws (bind ∷ binds) out short h =
      let f = first_typed ws bind binds out h in
      ap (λ x. x ∷ map held binds) (typed_held ws (omega (arith, short)) bind f.width f.is)
      ∙ ap (λ xs. bind ∷ xs) (binds_held (ws ++ f.width ∷ []) binds out (omega (arith, length_push ws f.width, short)) f.rest)

  pub held_binds : (ws : List ℕ) (binds : List Expr) (out : List ℕ) → length ws + length binds < 2 ^ 64 - 1 → widths_after ws (map held binds) ≡ Some out → map held binds ≡ binds
  held_binds ws [] out short h = refl
  held_binds ws (bind ∷ binds) out short h =
      let f = first_typed ws (held bind) (map held binds) out h in
      ap (λ x. x ∷ map held binds) (held_typed ws (omega (arith, short)) bind f.width f.is)
      ∙ ap (λ xs. bind ∷ xs) (held_binds (ws ++ f.width ∷ []) binds out (omega (arith, length_push ws f.width, short)) f.rest)

pub outs_held : (outs : List ℕ) (bound : ℕ) → bound < 2 ^ 64 → Each (λ out. out < bound) outs → map held_out outs ≡ outs
outs_held [] bound small h = refl
outs_held (out ∷ outs) bound small h = ap (λ x. x ∷ map held_out outs) (small_place out (omega (arith, h.0))) ∙ ap (λ xs. out ∷ xs) (outs_held outs bound small h.1)

pub held_outs : (outs : List ℕ) (bound : ℕ) → bound < 2 ^ 64 → Each (λ out. out < bound) (map held_out outs) → map held_out outs ≡ outs
held_outs [] bound small h = refl
held_outs (out ∷ outs) bound small h =
    ap (λ x. x ∷ map held_out outs) (small_place out (place_below out bound small h.0)) ∙ ap (λ xs. out ∷ xs) (held_outs outs bound small h.1)

-- a place is there just where the held one is
largest_below : (f g : Expr → ℕ) (args : List Expr) (n : ℕ) → Each (λ e. f e ≤ n → g e ≤ n) args → largest (map f args) ≤ n → largest (map g args) ≤ n
largest_below f g [] n hs h = omega arith
largest_below f g (e ∷ args) n hs h = let first = hs.0 (omega (arith, h)) in let rest = largest_below f g args n hs.1 (omega (arith, h)) in omega (arith, first, rest)

maps : (args : List Expr) → map places_bound (map held args) ≡ map (λ e. places_bound (held e)) args
maps [] = refl
maps (e ∷ args) = ap (λ xs. places_bound (held e) ∷ xs) (maps args)

bound_literal : (width : ℕ) (o : Option ℕ) → places_bound (literal width o) ≡ 0
bound_literal width None = bound-lit 255 0
bound_literal width (Some number) = bound-lit width number

pub held_there : (n : ℕ) → n < 2 ^ 64 → (e : Expr) → places_bound (held e) ≤ n → places_bound e ≤ n
held_there n small = induction (λ e. places_bound (held e) ≤ n → places_bound e ≤ n)
    (λ place h.
    let bound = ap places_bound (held-field place) ∙ bound-field (held_place (in_word place)) in
    let word = place_below place n small (omega (arith, bound, h)) in
    omega (arith, bound, bound-field place, small_place place word, h))
    (λ width number h. omega (arith, bound-lit width number))
    (λ op width args hs h.
    let held_bound = ap places_bound (held-apply op width args) ∙ bound-apply op (held_width (in_word width)) (map held args) ∙ ap largest (maps args) in
    omega (arith, bound-apply op width args, largest_below (λ e. places_bound (held e)) places_bound args n hs (omega (arith, held_bound, h))))

pub there_held : (n : ℕ) → n < 2 ^ 64 → (e : Expr) → places_bound e ≤ n → places_bound (held e) ≤ n
there_held n small = induction (λ e. places_bound e ≤ n → places_bound (held e) ≤ n)
    (λ place h.
    let bound = ap places_bound (held-field place) ∙ bound-field (held_place (in_word place)) in
    omega (arith, bound, bound-field place, small_place place (omega (arith, bound-field place, h, small)), h))
    (λ width number h. omega (arith, ap places_bound (held-lit width number), bound_literal (held_width (in_word width)) (in_word number)))
    (λ op width args hs h.
    let held_bound = ap places_bound (held-apply op width args) ∙ bound-apply op (held_width (in_word width)) (map held args) ∙ ap largest (maps args) in
    omega (arith, held_bound, largest_below places_bound (λ e. places_bound (held e)) args n hs (omega (arith, bound-apply op width args, h))))

pub places_held : (fields : ℕ) (binds : List Expr) (outs : List ℕ) → fields + length binds < 2 ^ 64 → PlacesThere fields binds outs → PlacesThere fields (map held binds) (map held_out outs)
places_held fields [] outs small h = let e = outs_held outs fields (omega (arith, small)) h in subst (Each (λ out. out < fields)) (sym e) h
places_held fields (bind ∷ binds) outs small h = (there_held fields (omega (arith, small)) bind h.0, places_held (fields + 1) binds outs (omega (arith, small)) h.1)

pub held_places : (fields : ℕ) (binds : List Expr) (outs : List ℕ) → fields + length binds < 2 ^ 64 → PlacesThere fields (map held binds) (map held_out outs) → PlacesThere fields binds outs
held_places fields [] outs small h = let e = held_outs outs fields (omega (arith, small)) h in subst (Each (λ out. out < fields)) e h
held_places fields (bind ∷ binds) outs small h = (held_there fields (omega (arith, small)) bind h.0, held_places (fields + 1) binds outs (omega (arith, small)) h.1)
