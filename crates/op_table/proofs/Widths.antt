-- Typed widths are few, and none is above 64.
use Rattle.std.proofs.Common.{ℕ, ◌≤◌, List, [], ◌∷◌, length, subst, sym, arith}
use Rattle.std.specs.Prelude.{All}
use Rattle.std.proofs.lemmas.List.Elements.{All-nil, All-cons}
use Rattle.op_table.specs.declared.op.Op.TheVariants.{Add, Sub, Mul, Udiv, Urem, Sdiv, Srem, And, Or, Xor, Shl, Lshr, Ashr, Eq, Ne, Ult, Ule, Ugt, Uge, Slt, Sle, Sgt, Sge, Select, Zext, Sext, Trunc, Ret}
use Rattle.op_table.specs.Operator.{KeepsWidth, Compares, Chooses, Widens, Narrows, Passes}
use Rattle.op_table.specs.Laws.{TypedWidths}

abbrev pub AreFew : List ℕ → ℕ → Type 0
AreFew ins out = (1 ≤ length ins) × (length ins ≤ 3) × All (λ width. width ≤ 64) ins × (out ≤ 64)

all_one : (v : ℕ) → v ≤ 64 → All (λ width. width ≤ 64) (v ∷ [])
all_one v narrow = All-cons (λ width. width ≤ 64) v [] narrow (All-nil (λ width. width ≤ 64))

one_few : (v out : ℕ) → v ≤ 64 → out ≤ 64 → AreFew (v ∷ []) out
one_few v out first last = (omega arith, omega arith, all_one v first, last)

two_few : (v w out : ℕ) → v ≤ 64 → w ≤ 64 → out ≤ 64 → AreFew (v ∷ w ∷ []) out
two_few v w out first second last = (omega arith, omega arith, All-cons (λ width. width ≤ 64) v (w ∷ []) first (all_one w second), last)

three_few : (u v w out : ℕ) → u ≤ 64 → v ≤ 64 → w ≤ 64 → out ≤ 64 → AreFew (u ∷ v ∷ w ∷ []) out
three_few u v w out first second third last = (omega arith, omega arith, All-cons (λ width. width ≤ 64) u (v ∷ w ∷ []) first (All-cons (λ width. width ≤ 64) v (w ∷ []) second (all_one w third)), last)

keeps_few : (ins : List ℕ) (out : ℕ) → KeepsWidth ins out → AreFew ins out
keeps_few ins out (same, width) = subst (λ (l : List ℕ). AreFew l out) (sym same) (two_few out out out width.narrow width.narrow width.narrow)

compares_few : (ins : List ℕ) (out : ℕ) → Compares ins out → AreFew ins out
compares_few ins out (width, same, ok, one) = subst (λ (l : List ℕ). AreFew l out) (sym same) (two_few width width out ok.narrow ok.narrow (omega arith))

chooses_few : (ins : List ℕ) (out : ℕ) → Chooses ins out → AreFew ins out
chooses_few ins out (same, width) = subst (λ (l : List ℕ). AreFew l out) (sym same) (three_few 1 out out out (omega arith) width.narrow width.narrow width.narrow)

widens_few : (ins : List ℕ) (out : ℕ) → Widens ins out → AreFew ins out
widens_few ins out (width, same, ok, ok', wide) = subst (λ (l : List ℕ). AreFew l out) (sym same) (one_few width out ok.narrow ok'.narrow)

narrows_few : (ins : List ℕ) (out : ℕ) → Narrows ins out → AreFew ins out
narrows_few ins out (width, same, ok, ok', low) = subst (λ (l : List ℕ). AreFew l out) (sym same) (one_few width out ok.narrow ok'.narrow)

passes_few : (ins : List ℕ) (out : ℕ) → Passes ins out → AreFew ins out
passes_few ins out (same, narrow) = subst (λ (l : List ℕ). AreFew l out) (sym same) (one_few out out narrow narrow)

pub typed_widths : TypedWidths
typed_widths Add ins out typed = keeps_few ins out typed
typed_widths Sub ins out typed = keeps_few ins out typed
typed_widths Mul ins out typed = keeps_few ins out typed
typed_widths Udiv ins out typed = keeps_few ins out typed
typed_widths Urem ins out typed = keeps_few ins out typed
typed_widths Sdiv ins out typed = keeps_few ins out typed
typed_widths Srem ins out typed = keeps_few ins out typed
typed_widths And ins out typed = keeps_few ins out typed
typed_widths Or ins out typed = keeps_few ins out typed
typed_widths Xor ins out typed = keeps_few ins out typed
typed_widths Shl ins out typed = keeps_few ins out typed
typed_widths Lshr ins out typed = keeps_few ins out typed
typed_widths Ashr ins out typed = keeps_few ins out typed
typed_widths Eq ins out typed = compares_few ins out typed
typed_widths Ne ins out typed = compares_few ins out typed
typed_widths Ult ins out typed = compares_few ins out typed
typed_widths Ule ins out typed = compares_few ins out typed
typed_widths Ugt ins out typed = compares_few ins out typed
typed_widths Uge ins out typed = compares_few ins out typed
typed_widths Slt ins out typed = compares_few ins out typed
typed_widths Sle ins out typed = compares_few ins out typed
typed_widths Sgt ins out typed = compares_few ins out typed
typed_widths Sge ins out typed = compares_few ins out typed
typed_widths Select ins out typed = chooses_few ins out typed
typed_widths Zext ins out typed = widens_few ins out typed
typed_widths Sext ins out typed = widens_few ins out typed
typed_widths Trunc ins out typed = narrows_few ins out typed
typed_widths Ret ins out typed = passes_few ins out typed
