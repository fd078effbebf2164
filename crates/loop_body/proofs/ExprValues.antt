-- Typed expressions: their values do not depend on fields that come later, have their widths and fit them.
use Rattle.std.proofs.Common.{◌≡◌, ℕ, zero, suc, ◌+◌, ◌^◌, ◌<◌, ◌≤◌, Bool, true, false, List, [], ◌∷◌, ◌++◌, map, Option, Some, None, refl, ap, sym, ◌∙◌}
use Rattle.std.specs.Prelude.{slice_get, unwrap_or, ◌&&◌, nat_le, nat_lt, if◌then◌else◌}
use Rattle.std.proofs.lemmas.Bool.{leb-true, ltb-true, and_parts}
use Rattle.op_table.specs.Table.{is_typed_op}
use Rattle.op_table.specs.Value.{op_value}
use Rattle.fun_expr.specs.Each.{Each, total, largest}
use Rattle.fun_expr.specs.Expr.{widths, field_at, expr_value, some_front, all_some, applied_width, expr_width, expr_size, expr_depth, place_of, renumbered}
use Rattle.fun_expr.specs.declared.expr.Expr.{Expr}
use Rattle.fun_expr.specs.declared.expr.Expr.TheVariants.{Field}
use Rattle.loop_body.proofs.ExprLists.{all_some_cons, slice_get-front, some_inj}
use Rattle.loop_body.proofs.ExprTrees.{induction, value-field, value-lit, value-apply, width-field, width-lit, width-apply, size-field, size-apply, depth-field, depth-apply, place-field, place-lit, place-apply, renumbered-field, renumbered-lit, renumbered-apply}

-- an operator whose arguments have these widths
pub record Applied (takes : List ℕ → Bool) (args : Option (List ℕ)) (width out : ℕ) : Type 0 where
  pub ins : List ℕ
  pub are : args ≡ Some ins
  pub takes_them : takes ins ≡ true
  pub is : width ≡ out

takes_of : (takes : List ℕ → Bool) (ins : List ℕ) (width out : ℕ) (b : Bool) → takes ins ≡ b → (if b then Some width else None) ≡ Some out → Applied takes (Some ins) width out
takes_of takes ins width out true e h = record { ins = ins; are = refl; takes_them = e; is = some_inj h }
takes_of takes ins width out false e h = absurd cc

pub applied : (takes : List ℕ → Bool) (args : Option (List ℕ)) (width out : ℕ) → applied_width width takes args ≡ Some out → Applied takes args width out
applied takes None width out h = absurd cc
applied takes (Some ins) width out h = takes_of takes ins width out (takes ins) refl h

pub applied_again : (takes : List ℕ → Bool) (args : Option (List ℕ)) (width out : ℕ) → Applied takes args width out → applied_width width takes args ≡ Some out
applied_again takes args width out a = ap (applied_width width takes) a.are ∙ ap (λ b. if b then Some width else None) a.takes_them ∙ ap Some a.is

-- widths and values that follow from those of the arguments
all_again : (f g : Expr → Option ℕ) (args : List Expr) (ins : List ℕ) → Each (λ e. (w : ℕ) → f e ≡ Some w → g e ≡ Some w) args →
    all_some (map f args) ≡ Some ins → all_some (map g args) ≡ Some ins
all_again f g [] ins hs h = h
all_again f g (e ∷ args) ins hs h =
    let c = all_some_cons (f e) (map f args) ins h in
    ap (λ o. all_some (o ∷ map g args)) (hs.0 c.first c.is_first) ∙ ap (λ o. some_front c.first o) (all_again f g args c.rest hs.1 c.is_rest) ∙ ap Some (sym c.is)

all_equal : (f : Expr → Option ℕ) (g k : Expr → ℕ × ℕ) (args : List Expr) (ins : List ℕ) → Each (λ e. (w : ℕ) → f e ≡ Some w → g e ≡ k e) args →
    all_some (map f args) ≡ Some ins → map g args ≡ map k args
all_equal f g k [] ins hs h = refl
all_equal f g k (e ∷ args) ins hs h =
    let c = all_some_cons (f e) (map f args) ins h in
    ap (λ x. x ∷ map g args) (hs.0 c.first c.is_first) ∙ ap (λ xs. k e ∷ xs) (all_equal f g k args c.rest hs.1 c.is_rest)

-- an expression keeps its width where there are more fields behind
pub width_behind : (ws more : List ℕ) (e : Expr) (w : ℕ) → expr_width ws e ≡ Some w → expr_width (ws ++ more) e ≡ Some w
width_behind ws more = induction (λ e. (w : ℕ) → expr_width ws e ≡ Some w → expr_width (ws ++ more) e ≡ Some w)
    (λ place w h. width-field (ws ++ more) place ∙ slice_get-front ws more place w (sym (width-field ws place) ∙ h))
    (λ width number w h. width-lit (ws ++ more) width number ∙ sym (width-lit ws width number) ∙ h)
    (λ op width args hs w h.
    let a = applied (λ ins. is_typed_op op ins width) (all_some (map (expr_width ws) args)) width w (sym (width-apply ws op width args) ∙ h) in
    width-apply (ws ++ more) op width args ∙
    applied_again (λ ins. is_typed_op op ins width) (all_some (map (expr_width (ws ++ more)) args)) width w
    (record { ins = a.ins; are = all_again (expr_width ws) (expr_width (ws ++ more)) args a.ins hs a.are; takes_them = a.takes_them; is = a.is }))

-- a place within the list
field_front : (env more : List (ℕ × ℕ)) (place w : ℕ) → slice_get (widths env) place ≡ Some w → field_at (env ++ more) place ≡ field_at env place
unfolding field_at
field_front [] more place w h = absurd cc
field_front (f ∷ env) more zero w h = refl
field_front (f ∷ env) more (suc place) w h = field_front env more place w h

field_width : (env : List (ℕ × ℕ)) (place w : ℕ) → slice_get (widths env) place ≡ Some w → (field_at env place).0 ≡ w
unfolding field_at
field_width [] place w h = absurd cc
field_width (f ∷ env) zero w h = some_inj h
field_width (f ∷ env) (suc place) w h = field_width env place w h

-- and its value
pub value_behind : (env more : List (ℕ × ℕ)) (e : Expr) (w : ℕ) → expr_width (widths env) e ≡ Some w → expr_value (env ++ more) e ≡ expr_value env e
value_behind env more = induction (λ e. (w : ℕ) → expr_width (widths env) e ≡ Some w → expr_value (env ++ more) e ≡ expr_value env e)
    (λ place w h. value-field (env ++ more) place ∙ field_front env more place w (sym (width-field (widths env) place) ∙ h) ∙ sym (value-field env place))
    (λ width number w h. value-lit (env ++ more) width number ∙ sym (value-lit env width number))
    (λ op width args hs w h.
    let a = applied (λ ins. is_typed_op op ins width) (all_some (map (expr_width (widths env)) args)) width w (sym (width-apply (widths env) op width args) ∙ h) in
    value-apply (env ++ more) op width args ∙
    ap (λ vs. (width, op_value op vs width)) (all_equal (expr_width (widths env)) (expr_value (env ++ more)) (expr_value env) args a.ins hs a.are) ∙
    sym (value-apply env op width args))

-- a literal that is typed
pub record LitFits (width number out : ℕ) : Type 0 where
  pub narrow : width ≤ 64
  pub fits : number < 2 ^ width
  pub is : width ≡ out

lit_by : (width number out : ℕ) (b : Bool) → (nat_le width 64 && nat_lt number (2 ^ width)) ≡ b → (if b then Some width else None) ≡ Some out → LitFits width number out
lit_by width number out true e h =
    let parts = and_parts (nat_le width 64) (nat_lt number (2 ^ width)) e in
    record { narrow = leb-true width 64 parts.0; fits = ltb-true number (2 ^ width) parts.1; is = some_inj h }
lit_by width number out false e h = absurd cc

pub lit_of : (width number out : ℕ) → (if nat_le width 64 && nat_lt number (2 ^ width) then Some width else None) ≡ Some out → LitFits width number out
lit_of width number out h = lit_by width number out (nat_le width 64 && nat_lt number (2 ^ width)) refl h

pub all_widths : (f : Expr → Option ℕ) (g : Expr → ℕ × ℕ) (args : List Expr) (ins : List ℕ) → Each (λ e. (w : ℕ) → f e ≡ Some w → (g e).0 ≡ w) args →
    all_some (map f args) ≡ Some ins → widths (map g args) ≡ ins
all_widths f g [] ins hs h = some_inj h
all_widths f g (e ∷ args) ins hs h =
    let c = all_some_cons (f e) (map f args) ins h in
    ap (λ x. x ∷ widths (map g args)) (hs.0 c.first c.is_first) ∙ ap (λ xs. c.first ∷ xs) (all_widths f g args c.rest hs.1 c.is_rest) ∙ sym c.is

-- a value has the width of its expression
pub value_width : (env : List (ℕ × ℕ)) (e : Expr) (w : ℕ) → expr_width (widths env) e ≡ Some w → (expr_value env e).0 ≡ w
value_width env = induction (λ e. (w : ℕ) → expr_width (widths env) e ≡ Some w → (expr_value env e).0 ≡ w)
    (λ place w h. ap (λ f. f.0) (value-field env place) ∙ field_width env place w (sym (width-field (widths env) place) ∙ h))
    (λ width number w h. ap (λ f. f.0) (value-lit env width number) ∙ (lit_of width number w (sym (width-lit (widths env) width number) ∙ h)).is)
    (λ op width args hs w h.
    let a = applied (λ ins. is_typed_op op ins width) (all_some (map (expr_width (widths env)) args)) width w (sym (width-apply (widths env) op width args) ∙ h) in
    ap (λ f. f.0) (value-apply env op width args) ∙ a.is)

-- Other places: those at which the fields of another environment stand.
pub record Stands (places : List ℕ) (env inner : List (ℕ × ℕ)) : Type 0 where
  pub width : (place w : ℕ) → slice_get (widths inner) place ≡ Some w → slice_get (widths env) (unwrap_or (slice_get places place) 0) ≡ Some w
  pub value : (place w : ℕ) → slice_get (widths inner) place ≡ Some w → field_at env (unwrap_or (slice_get places place) 0) ≡ field_at inner place

-- at these places stand these fields, in order
abbrev pub Hold : List (ℕ × ℕ) → List ℕ → List (ℕ × ℕ) → Type 0
Hold env places fields = map (slice_get env) places ≡ map Some fields

pub slice_get-widths : (env : List (ℕ × ℕ)) (place : ℕ) (f : ℕ × ℕ) → slice_get env place ≡ Some f → slice_get (widths env) place ≡ Some f.0
slice_get-widths [] place f h = absurd cc
slice_get-widths (g ∷ env) zero f h = ap Some (ap (λ x. x.0) (some_inj h))
slice_get-widths (g ∷ env) (suc place) f h = slice_get-widths env place f h

heads : {A : Type 0} {a b : A} {xs ys : List A} → a ∷ xs ≡ b ∷ ys → (a ≡ b) × (xs ≡ ys)
heads h = (cc, cc)

hold_width : (env : List (ℕ × ℕ)) (places : List ℕ) (inner : List (ℕ × ℕ)) → Hold env places inner → (place w : ℕ) → slice_get (widths inner) place ≡ Some w →
    slice_get (widths env) (unwrap_or (slice_get places place) 0) ≡ Some w
hold_width env places [] hold place w h = absurd cc
hold_width env [] (f ∷ inner) hold place w h = absurd cc
hold_width env (p ∷ places) (f ∷ inner) hold zero w h = slice_get-widths env p f (heads hold).0 ∙ h
hold_width env (p ∷ places) (f ∷ inner) hold (suc place) w h = hold_width env places inner (heads hold).1 place w h

hold_value : (env : List (ℕ × ℕ)) (places : List ℕ) (inner : List (ℕ × ℕ)) → Hold env places inner → (place w : ℕ) → slice_get (widths inner) place ≡ Some w →
    field_at env (unwrap_or (slice_get places place) 0) ≡ field_at inner place
unfolding field_at
hold_value env places [] hold place w h = absurd cc
hold_value env [] (f ∷ inner) hold place w h = absurd cc
hold_value env (p ∷ places) (f ∷ inner) hold zero w h = ap (λ o. unwrap_or o (0, 0)) (heads hold).0
hold_value env (p ∷ places) (f ∷ inner) hold (suc place) w h = hold_value env places inner (heads hold).1 place w h

pub stands : (places : List ℕ) (env inner : List (ℕ × ℕ)) → Hold env places inner → Stands places env inner
stands places env inner hold = record { width = hold_width env places inner hold; value = hold_value env places inner hold }

renumbered_all : (f g : Expr → Option ℕ) (change : Expr → Expr) (args : List Expr) (ins : List ℕ) → Each (λ e. (w : ℕ) → f e ≡ Some w → g (change e) ≡ Some w) args →
    all_some (map f args) ≡ Some ins → all_some (map g (map change args)) ≡ Some ins
renumbered_all f g change [] ins hs h = h
renumbered_all f g change (e ∷ args) ins hs h =
    let c = all_some_cons (f e) (map f args) ins h in
    ap (λ o. all_some (o ∷ map g (map change args))) (hs.0 c.first c.is_first) ∙ ap (λ o. some_front c.first o) (renumbered_all f g change args c.rest hs.1 c.is_rest) ∙ ap Some (sym c.is)

renumbered_equal : (f : Expr → Option ℕ) (g k : Expr → ℕ × ℕ) (change : Expr → Expr) (args : List Expr) (ins : List ℕ) → Each (λ e. (w : ℕ) → f e ≡ Some w → g (change e) ≡ k e) args →
    all_some (map f args) ≡ Some ins → map g (map change args) ≡ map k args
renumbered_equal f g k change [] ins hs h = refl
renumbered_equal f g k change (e ∷ args) ins hs h =
    let c = all_some_cons (f e) (map f args) ins h in
    ap (λ x. x ∷ map g (map change args)) (hs.0 c.first c.is_first) ∙ ap (λ xs. k e ∷ xs) (renumbered_equal f g k change args c.rest hs.1 c.is_rest)

-- the width of an expression at other places
pub renumbered_width : (places : List ℕ) (env inner : List (ℕ × ℕ)) → Stands places env inner → (e : Expr) (w : ℕ) → expr_width (widths inner) e ≡ Some w → expr_width (widths env) (renumbered places e) ≡ Some w
renumbered_width places env inner s = induction (λ e. (w : ℕ) → expr_width (widths inner) e ≡ Some w → expr_width (widths env) (renumbered places e) ≡ Some w)
    (λ place w h. ap (expr_width (widths env)) (renumbered-field places place) ∙ width-field (widths env) (unwrap_or (slice_get places place) 0) ∙ s.width place w (sym (width-field (widths inner) place) ∙ h))
    (λ width number w h. ap (expr_width (widths env)) (renumbered-lit places width number) ∙ width-lit (widths env) width number ∙ sym (width-lit (widths inner) width number) ∙ h)
    (λ op width args hs w h.
    let a = applied (λ ins. is_typed_op op ins width) (all_some (map (expr_width (widths inner)) args)) width w (sym (width-apply (widths inner) op width args) ∙ h) in
    ap (expr_width (widths env)) (renumbered-apply places op width args) ∙ width-apply (widths env) op width (map (renumbered places) args) ∙
    applied_again (λ ins. is_typed_op op ins width) (all_some (map (expr_width (widths env)) (map (renumbered places) args))) width w
    (record { ins = a.ins; are = renumbered_all (expr_width (widths inner)) (expr_width (widths env)) (renumbered places) args a.ins hs a.are; takes_them = a.takes_them; is = a.is }))

-- and its value
pub renumbered_value : (places : List ℕ) (env inner : List (ℕ × ℕ)) → Stands places env inner → (e : Expr) (w : ℕ) → expr_width (widths inner) e ≡ Some w → expr_value env (renumbered places e) ≡ expr_value inner e
renumbered_value places env inner s = induction (λ e. (w : ℕ) → expr_width (widths inner) e ≡ Some w → expr_value env (renumbered places e) ≡ expr_value inner e)
    (λ place w h. ap (expr_value env) (renumbered-field places place) ∙ value-field env (unwrap_or (slice_get places place) 0) ∙ s.value place w (sym (width-field (widths inner) place) ∙ h) ∙ sym (value-field inner place))
    (λ width number w h. ap (expr_value env) (renumbered-lit places width number) ∙ value-lit env width number ∙ sym (value-lit inner width number))
    (λ op width args hs w h.
    let a = applied (λ ins. is_typed_op op ins width) (all_some (map (expr_width (widths inner)) args)) width w (sym (width-apply (widths inner) op width args) ∙ h) in
    ap (expr_value env) (renumbered-apply places op width args) ∙ value-apply env op width (map (renumbered places) args) ∙
    ap (λ vs. (width, op_value op vs width)) (renumbered_equal (expr_width (widths inner)) (expr_value env) (expr_value inner) (renumbered places) args a.ins hs a.are) ∙
    sym (value-apply inner op width args))

map_total : (f : Expr → ℕ) (change : Expr → Expr) (args : List Expr) → Each (λ e. f (change e) ≡ f e) args → map f (map change args) ≡ map f args
map_total f change [] hs = refl
map_total f change (e ∷ args) hs = ap (λ n. n ∷ map f (map change args)) hs.0 ∙ ap (λ ns. f e ∷ ns) (map_total f change args hs.1)

-- size and depth stay
pub size-renumbered : (places : List ℕ) (e : Expr) → expr_size (renumbered places e) ≡ expr_size e
size-renumbered places = induction (λ e. expr_size (renumbered places e) ≡ expr_size e)
    (λ place. ap expr_size (renumbered-field places place) ∙ size-field (unwrap_or (slice_get places place) 0) ∙ sym (size-field place))
    (λ width number. ap expr_size (renumbered-lit places width number))
    (λ op width args hs. ap expr_size (renumbered-apply places op width args) ∙ size-apply op width (map (renumbered places) args) ∙
    ap (λ ns. 1 + total (λ size. size) ns) (map_total expr_size (renumbered places) args hs) ∙ sym (size-apply op width args))

pub depth-renumbered : (places : List ℕ) (e : Expr) → expr_depth (renumbered places e) ≡ expr_depth e
depth-renumbered places = induction (λ e. expr_depth (renumbered places e) ≡ expr_depth e)
    (λ place. ap expr_depth (renumbered-field places place) ∙ depth-field (unwrap_or (slice_get places place) 0) ∙ sym (depth-field place))
    (λ width number. ap expr_depth (renumbered-lit places width number))
    (λ op width args hs. ap expr_depth (renumbered-apply places op width args) ∙ depth-apply op width (map (renumbered places) args) ∙
    ap (λ ns. 1 + largest ns) (map_total expr_depth (renumbered places) args hs) ∙ sym (depth-apply op width args))

-- an expression with a place is the field there
pub record IsField (e : Expr) (place : ℕ) : Type 0 where
  pub is : e ≡ Field place

pub place_is : (e : Expr) (place : ℕ) → place_of e ≡ Some place → IsField e place
place_is = induction (λ e. (place : ℕ) → place_of e ≡ Some place → IsField e place)
    (λ at place h. record { is = ap Field (some_inj (sym (place-field at) ∙ h)) })
    (λ width number place h. let e = sym (place-lit width number) ∙ h in absurd cc)
    (λ op width args hs place h. let e = sym (place-apply op width args) ∙ h in absurd cc)
