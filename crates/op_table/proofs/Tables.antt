-- The tests of names and widths tell the table.
use Rattle.std.proofs.Common.{◌≡◌, ◌↔◌, ℕ, ◌≤◌, ◌==◌, ◌&&◌, Bool, true, List, [], ◌∷◌, refl}
use Rattle.std.specs.Prelude.{IsTrue, nat_le}
use Rattle.std.proofs.lemmas.Bool.{leb-true, le-leb, eqb-true, eq-eqb, and_parts, and_from}
use Rattle.op_table.specs.declared.op.Op.TheVariants.{Add, Sub, Mul, Udiv, Urem, Sdiv, Srem, And, Or, Xor, Shl, Lshr, Ashr, Eq, Ne, Ult, Ule, Ugt, Uge, Slt, Sle, Sgt, Sge, Select, Zext, Sext, Trunc, Ret}
use Rattle.op_table.specs.Operator.{IsWidth, KeepsWidth, Compares, Chooses, Widens, Narrows, Passes}
use Rattle.op_table.specs.Table.{op_named, is_width, keeps_width, compares, chooses, widens, narrows, passes, is_typed_op}
use Rattle.op_table.specs.Laws.{NamesAreFound, WidthsAreTested}

width_from : (width : ℕ) → is_width width ≡ true → IsWidth width
width_from width test = let parts = and_parts (nat_le 1 width) (nat_le width 64) test in record { positive = leb-true 1 width parts.0; narrow = leb-true width 64 parts.1 }

width_to : (width : ℕ) → IsWidth width → is_width width ≡ true
width_to width ok = and_from (nat_le 1 width) (nat_le width 64) (le-leb 1 width ok.positive) (le-leb width 64 ok.narrow)

keeps : (ins : List ℕ) (out : ℕ) → IsTrue (keeps_width ins out) ↔ KeepsWidth ins out
keeps [] out = (λ no. cc, λ typed. let e = typed.0 in cc)
keeps (a ∷ []) out = (λ no. cc, λ typed. let e = typed.0 in cc)
keeps (a ∷ b ∷ []) out = (
  λ test.
      let parts = and_parts ((a == out) && (b == out)) (is_width out) test in
      let same = and_parts (a == out) (b == out) parts.0 in
      let first : a ≡ out = eqb-true a out same.0 in
      let second : b ≡ out = eqb-true b out same.1 in
      (cc, width_from out parts.1),
  λ typed.
      let e = typed.0 in
      let first : a ≡ out = cc in
      let second : b ≡ out = cc in
      and_from _ _ (and_from _ _ (eq-eqb a out first) (eq-eqb b out second)) (width_to out typed.1),
)
keeps (a ∷ b ∷ c ∷ more) out = (λ no. cc, λ typed. let e = typed.0 in cc)

compared : (ins : List ℕ) (out : ℕ) → IsTrue (compares ins out) ↔ Compares ins out
compared [] out = (λ no. cc, λ typed. let e = typed.1 in cc)
compared (a ∷ []) out = (λ no. cc, λ typed. let e = typed.1 in cc)
compared (a ∷ b ∷ []) out = (
  λ test.
      let parts = and_parts ((b == a) && is_width a) (out == 1) test in
      let more = and_parts (b == a) (is_width a) parts.0 in
      let same : b ≡ a = eqb-true b a more.0 in
      (a, cc, width_from a more.1, eqb-true out 1 parts.1),
  λ typed.
      let e = typed.1 in
      let first : a ≡ typed.0 = cc in
      let second : b ≡ a = cc in
      let ok : IsWidth a = rw first typed.2 in
      and_from _ _ (and_from _ _ (eq-eqb b a second) (width_to a ok)) (eq-eqb out 1 typed.3),
)
compared (a ∷ b ∷ c ∷ more) out = (λ no. cc, λ typed. let e = typed.1 in cc)

chosen : (ins : List ℕ) (out : ℕ) → IsTrue (chooses ins out) ↔ Chooses ins out
chosen [] out = (λ no. cc, λ typed. let e = typed.0 in cc)
chosen (a ∷ []) out = (λ no. cc, λ typed. let e = typed.0 in cc)
chosen (a ∷ b ∷ []) out = (λ no. cc, λ typed. let e = typed.0 in cc)
chosen (a ∷ b ∷ c ∷ []) out = (
  λ test.
      let parts = and_parts ((a == 1) && (b == out) && (c == out)) (is_width out) test in
      let more = and_parts ((a == 1) && (b == out)) (c == out) parts.0 in
      let last = and_parts (a == 1) (b == out) more.0 in
      let choice : a ≡ 1 = eqb-true a 1 last.0 in
      let first : b ≡ out = eqb-true b out last.1 in
      let second : c ≡ out = eqb-true c out more.1 in
      (cc, width_from out parts.1),
  λ typed.
      let e = typed.0 in
      let choice : a ≡ 1 = cc in
      let first : b ≡ out = cc in
      let second : c ≡ out = cc in
      and_from _ _ (and_from _ _ (and_from _ _ (eq-eqb a 1 choice) (eq-eqb b out first)) (eq-eqb c out second)) (width_to out typed.1),
)
chosen (a ∷ b ∷ c ∷ d ∷ more) out = (λ no. cc, λ typed. let e = typed.0 in cc)

widened : (ins : List ℕ) (out : ℕ) → IsTrue (widens ins out) ↔ Widens ins out
widened [] out = (λ no. cc, λ typed. let e = typed.1 in cc)
widened (a ∷ []) out = (
  λ test.
      let parts = and_parts (is_width a && is_width out) (nat_le a out) test in
      let widths = and_parts (is_width a) (is_width out) parts.0 in
      (a, refl, width_from a widths.0, width_from out widths.1, leb-true a out parts.1),
  λ typed.
      let e = typed.1 in
      let same : a ≡ typed.0 = cc in
      let ok : IsWidth a = rw same typed.2 in
      let wide : a ≤ out = rw same typed.4 in
      and_from _ _ (and_from _ _ (width_to a ok) (width_to out typed.3)) (le-leb a out wide),
)
widened (a ∷ b ∷ more) out = (λ no. cc, λ typed. let e = typed.1 in cc)

narrowed : (ins : List ℕ) (out : ℕ) → IsTrue (narrows ins out) ↔ Narrows ins out
narrowed [] out = (λ no. cc, λ typed. let e = typed.1 in cc)
narrowed (a ∷ []) out = (
  λ test.
      let parts = and_parts (is_width a && is_width out) (nat_le out a) test in
      let widths = and_parts (is_width a) (is_width out) parts.0 in
      (a, refl, width_from a widths.0, width_from out widths.1, leb-true out a parts.1),
  λ typed.
      let e = typed.1 in
      let same : a ≡ typed.0 = cc in
      let ok : IsWidth a = rw same typed.2 in
      let low : out ≤ a = rw same typed.4 in
      and_from _ _ (and_from _ _ (width_to a ok) (width_to out typed.3)) (le-leb out a low),
)
narrowed (a ∷ b ∷ more) out = (λ no. cc, λ typed. let e = typed.1 in cc)

passed : (ins : List ℕ) (out : ℕ) → IsTrue (passes ins out) ↔ Passes ins out
passed [] out = (λ no. cc, λ typed. let e = typed.0 in cc)
passed (a ∷ []) out = (
  λ test.
      let parts = and_parts (a == out) (nat_le out 64) test in
      let same : a ≡ out = eqb-true a out parts.0 in
      (cc, leb-true out 64 parts.1),
  λ typed.
      let e = typed.0 in
      let same : a ≡ out = cc in
      and_from _ _ (eq-eqb a out same) (le-leb out 64 typed.1),
)
passed (a ∷ b ∷ more) out = (λ no. cc, λ typed. let e = typed.0 in cc)

pub widths_are_tested : WidthsAreTested
unfolding is_typed_op
widths_are_tested Add ins out = keeps ins out
widths_are_tested Sub ins out = keeps ins out
widths_are_tested Mul ins out = keeps ins out
widths_are_tested Udiv ins out = keeps ins out
widths_are_tested Urem ins out = keeps ins out
widths_are_tested Sdiv ins out = keeps ins out
widths_are_tested Srem ins out = keeps ins out
widths_are_tested And ins out = keeps ins out
widths_are_tested Or ins out = keeps ins out
widths_are_tested Xor ins out = keeps ins out
widths_are_tested Shl ins out = keeps ins out
widths_are_tested Lshr ins out = keeps ins out
widths_are_tested Ashr ins out = keeps ins out
widths_are_tested Eq ins out = compared ins out
widths_are_tested Ne ins out = compared ins out
widths_are_tested Ult ins out = compared ins out
widths_are_tested Ule ins out = compared ins out
widths_are_tested Ugt ins out = compared ins out
widths_are_tested Uge ins out = compared ins out
widths_are_tested Slt ins out = compared ins out
widths_are_tested Sle ins out = compared ins out
widths_are_tested Sgt ins out = compared ins out
widths_are_tested Sge ins out = compared ins out
widths_are_tested Select ins out = chosen ins out
widths_are_tested Zext ins out = widened ins out
widths_are_tested Sext ins out = widened ins out
widths_are_tested Trunc ins out = narrowed ins out
widths_are_tested Ret ins out = passed ins out

pub names_are_found : NamesAreFound
unfolding op_named
names_are_found Add = refl
names_are_found Sub = refl
names_are_found Mul = refl
names_are_found Udiv = refl
names_are_found Urem = refl
names_are_found Sdiv = refl
names_are_found Srem = refl
names_are_found And = refl
names_are_found Or = refl
names_are_found Xor = refl
names_are_found Shl = refl
names_are_found Lshr = refl
names_are_found Ashr = refl
names_are_found Eq = refl
names_are_found Ne = refl
names_are_found Ult = refl
names_are_found Ule = refl
names_are_found Ugt = refl
names_are_found Uge = refl
names_are_found Slt = refl
names_are_found Sle = refl
names_are_found Sgt = refl
names_are_found Sge = refl
names_are_found Select = refl
names_are_found Zext = refl
names_are_found Sext = refl
names_are_found Trunc = refl
names_are_found Ret = refl
