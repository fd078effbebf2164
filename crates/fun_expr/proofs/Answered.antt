-- What is answered of a text is what it is read as.
use Rattle.std.proofs.Common.{◌≡◌, ◌<◌, ◌≤◌, ◌+◌, ◌-◌, ◌^◌, ℕ, List, [], ◌∷◌, length, map, Ok, Err, Result, ap, sym, ◌∙◌, subst, arith}
use Rattle.op_table.specs.Laws.{WidthsAreTested, TypedWidths}
use Rattle.port_types.specs.Shape.{IsShape}
use Rattle.fun_expr.specs.Each.{Each, largest}
use Rattle.fun_expr.specs.Expr.{expr_depth}
use Rattle.fun_expr.specs.Function.{Function, FunTyped, FunOk, fun_size}
use Rattle.fun_expr.specs.FunGrammar.{IsFunText}
use Rattle.fun_expr.specs.FunReading.{function, IsWithin, TextWith, Reads}
use Rattle.fun_expr.specs.Judging.{Judged}
use Rattle.fun_expr.specs.declared.expr.Expr.{Expr}
use Rattle.fun_expr.specs.declared.fault.FunFault.{FunFault}
use Rattle.fun_expr.specs.declared.fault.FunFault.TheVariants.{FunSyntax, FunTooBig, FunIndex, FunTypes, NoMemory}
use Rattle.fun_expr.specs.declared.scan.Extent.{Extent}
use Rattle.fun_expr.specs.declared.builder.Frame.{Frame}
use Rattle.fun_expr.specs.declared.state.Spot.TheVariants.{Start}
use Rattle.fun_expr.specs.Machine.{begin}
use Rattle.fun_expr.specs.Counting.{nothing_counted, scanned}
use Rattle.fun_expr.specs.Building.{no_parts, built}
use Rattle.fun_expr.proofs.Parts.{fields_count}
use Rattle.fun_expr.proofs.Printed.{binds_few}
use Rattle.fun_expr.proofs.Held.{held}
use Rattle.fun_expr.proofs.HeldTyped.{binds_held, held_binds, outs_held, held_outs, places_held, held_places}
use Rattle.fun_expr.proofs.Running.{Reader, reader, scans_whole, builds_whole}
use Rattle.fun_expr.proofs.Complete.{grown_all, size_all, depth_all, held_out, parts, complete}
use Rattle.fun_expr.proofs.Finishing.{scanned_text}

abbrev pub start : Reader
start = reader Start 0 nothing_counted no_parts

-- what is counted of a text and built of it
extent_is : (text : List ℕ) (x : Extent) (binds : List Expr) (outs : List ℕ) → IsFunText text binds outs → scanned begin nothing_counted 0 text ≡ Ok x → x ≡ grown_all 0 binds nothing_counted
extent_is text x binds outs t h =
    let w = complete text binds outs t in
    same (sym h ∙ scans_whole text start w.last 0 w.is w.whole) ∙ w.counts
  where
    same : {a b : Extent} → ◌≡◌ {A = Result Extent ℕ} (Ok a) (Ok b) → a ≡ b
    same e = cc

pub built_is : (text : List ℕ) (binds : List Expr) (outs : List ℕ) → IsFunText text binds outs → built begin no_parts text ≡ parts [] (map held binds) (map held_out outs)
built_is text binds outs t = let w = complete text binds outs t in builds_whole text start w.last w.is ∙ w.builds

-- the limits
each_shallow : (binds : List Expr) → largest (map expr_depth binds) ≤ 64 → Each (λ bind. expr_depth bind ≤ 64) binds
each_shallow [] h = tt
each_shallow (bind ∷ binds) h = (omega (arith, h), each_shallow binds (omega (arith, h)))

largest_shallow : (binds : List Expr) → Each (λ bind. expr_depth bind ≤ 64) binds → largest (map expr_depth binds) ≤ 64
largest_shallow [] h = omega arith
largest_shallow (bind ∷ binds) h = omega (arith, h.0, largest_shallow binds h.1)

within_of : (binds : List Expr) (x : Extent) → x ≡ grown_all 0 binds nothing_counted → x.size ≤ 16384 → x.depth ≤ 64 → IsWithin binds
within_of binds x e size depth = record {
  size = omega (arith, ap (λ y. y.size) e, size_all 0 binds nothing_counted, size);
  depth = each_shallow binds (omega (arith, ap (λ y. y.depth) e, depth_all 0 binds nothing_counted (omega arith), depth));
}

of_within : (binds : List Expr) (x : Extent) → x ≡ grown_all 0 binds nothing_counted → IsWithin binds → (x.size ≤ 16384) × (x.depth ≤ 64)
of_within binds x e w = (
  omega (arith, ap (λ y. y.size) e, size_all 0 binds nothing_counted, w.size),
  omega (arith, ap (λ y. y.depth) e, depth_all 0 binds nothing_counted (omega arith), largest_shallow binds w.depth),
)

pub too_big : (text : List ℕ) (x : Extent) → scanned begin nothing_counted 0 text ≡ Ok x → ((x.size ≤ 16384) × (x.depth ≤ 64) → ⊥) → TextWith text (λ binds outs. IsWithin binds → ⊥)
too_big text x h large =
    let t = scanned_text text x h in
    (t.0, t.1, t.2, λ w. large (of_within t.0 x (extent_is text x t.0 t.1 t.2 h) w))

-- a function whose parts are held as they are
module _ (tested : WidthsAreTested) (few : TypedWidths) where
  pub is_read : (text input : List ℕ) (binds : List Expr) (outs : List ℕ) (f : Function) → IsFunText text binds outs → length input + length binds < 2 ^ 64 - 1 →
      f ≡ function input (map held binds) (map held_out outs) → FunOk f → (f.input ≡ input) × IsFunText text f.binds f.outs
  is_read text input binds outs f t short e ok =
      let ok' : FunOk (function input (map held binds) (map held_out outs)) = subst FunOk e ok in
      let same = held_binds tested few input binds ok'.typed.widths short ok'.typed.binds in
      let count = fields_count input (map held binds) ok'.typed.widths ok'.typed.binds in
      let outs_same = held_outs outs (length ok'.typed.widths) (omega (arith, count, ap length same, short)) ok'.typed.outs in
      let bs : f.binds ≡ binds = ap (λ g. g.binds) e ∙ same in
      let os : f.outs ≡ outs = ap (λ g. g.outs) e ∙ outs_same in
      (ap (λ g. g.input) e, subst (λ o. IsFunText text f.binds o) (sym os) (subst (λ b. IsFunText text b outs) (sym bs) t))

  -- a function's parts are
  pub binds_are : (f : Function) → length f.input + length f.binds < 2 ^ 64 - 1 → FunOk f → map held f.binds ≡ f.binds
  binds_are f short ok = binds_held tested few f.input f.binds ok.typed.widths short ok.typed.binds

  pub outs_are : (f : Function) → length f.input + length f.binds < 2 ^ 64 - 1 → FunOk f → map held_out f.outs ≡ f.outs
  outs_are f short ok =
      let count = fields_count f.input f.binds ok.typed.widths ok.typed.binds in
      outs_held f.outs (length ok.typed.widths) (omega (arith, count, short)) ok.typed.outs

  is_typed : (input : List ℕ) (binds : List Expr) (outs : List ℕ) → IsShape input → IsWithin binds → length input + length binds < 2 ^ 64 - 1 → FunTyped (function input binds outs) → FunOk (function input (map held binds) (map held_out outs))
  unfolding fun_size
  is_typed input binds outs shape w short typed =
      let ok : FunOk (function input binds outs) = record { input = shape; typed = typed; size = w.size; depth = w.depth } in
      subst (λ o. FunOk (function input (map held binds) o)) (sym (outs_are (function input binds outs) short ok))
      (subst (λ b. FunOk (function input b outs)) (sym (binds_are (function input binds outs) short ok)) ok)

  verdict : (text input : List ℕ) (binds : List Expr) (outs : List ℕ) → IsFunText text binds outs → IsShape input → IsWithin binds → length input + length binds < 2 ^ 64 - 1 →
      (r : Result Function FunFault) → Judged input (map held binds) (map held_out outs) r → Reads text input r
  verdict text input binds outs t shape w short (Ok f) j = is_read text input binds outs f t short j.0 j.1
  verdict text input binds outs t shape w short (Err (FunSyntax byte)) j = absurd j
  verdict text input binds outs t shape w short (Err FunTooBig) j = absurd j
  verdict text input binds outs t shape w short (Err FunIndex) j =
      (binds, outs, t, (w, λ h. j (places_held (length input) binds outs (omega (arith, short)) h)))
  verdict text input binds outs t shape w short (Err FunTypes) j =
      (binds, outs, t, (w, held_places (length input) binds outs (omega (arith, short)) j.0, λ h. j.1 (is_typed input binds outs shape w short h)))
  verdict text input binds outs t shape w short (Err NoMemory) j = tt

  pub answered : (text input : List ℕ) (x : Extent) (frames : List Frame) (bs : List Expr) (os : List ℕ) → scanned begin nothing_counted 0 text ≡ Ok x → (x.size ≤ 16384) × (x.depth ≤ 64) →
      parts frames bs os ≡ built begin no_parts text → IsShape input → (r : Result Function FunFault) → Judged input bs os r → Reads text input r
  answered text input x frames bs os h limits b shape r j =
      let t = scanned_text text x h in
      let w = within_of t.0 x (extent_is text x t.0 t.1 t.2 h) limits.0 limits.1 in
      let built_same = b ∙ built_is text t.0 t.1 t.2 in
      let binds_same : bs ≡ map held t.0 = ap (λ p. p.binds) built_same in
      let outs_same : os ≡ map held_out t.1 = ap (λ p. p.outs) built_same in
      let short : length input + length t.0 < 2 ^ 64 - 1 = omega (arith, shape.few, binds_few t.0, w.size) in
      verdict text input t.0 t.1 t.2 shape w short r (subst (λ o. Judged input (map held t.0) o r) outs_same (subst (λ y. Judged input y os r) binds_same j))
