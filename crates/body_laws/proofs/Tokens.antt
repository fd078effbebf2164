-- Tokens that fit.
use Rattle.std.proofs.Common.{◌≡◌, ℕ, ◌^◌, ◌%◌, ◌<◌, List, [], ◌∷◌, ◌++◌, map, length, sym, subst, mod-lt}
use Rattle.std.specs.List.{zip}
use Rattle.std.proofs.lemmas.Nat.{pow_pos}
use Rattle.std.proofs.lemmas.Slice.Zip.{firsts-zip}
use Rattle.std.proofs.lemmas.List.Elements.{All-nil, All-cons}
use Rattle.op_table.specs.Operator.{IsTypedOp}
use Rattle.op_table.specs.Value.{InputsFit, op_value}
use Rattle.op_table.specs.declared.op.Op.{Op}
use Rattle.port_types.specs.Token.{Fits}
use Rattle.components.specs.Kind.{Shape, KindOk}
use Rattle.components.specs.declared.kind.Kind.{Kind}
use Rattle.circuits.specs.PortTokens.{Token}
use Rattle.circuits.specs.Values.{ValuesFit}

pub fits_append : (a b : Shape) (v w : Token) → Fits a v → Fits b w → Fits (a ++ b) (v ++ w)
fits_append [] b [] w h k = k
fits_append [] b (x ∷ v) w h k = absurd h
fits_append (x ∷ a) b [] w h k = absurd h
fits_append (x ∷ a) b (y ∷ v) w h k = (h.0, fits_append a b v w h.1 k)

pub rem_fit : (v w : ℕ) → v % 2 ^ w < 2 ^ w
rem_fit v w = mod-lt v (pow_pos w)

pub zeros_fit : (a : Shape) → Fits a (map (λ w. 0) a)
zeros_fit [] = tt
zeros_fit (w ∷ a) = (pow_pos w, zeros_fit a)

inputs_fit : (ws xs : List ℕ) → Fits ws xs → InputsFit (zip ws xs)
inputs_fit [] [] h = All-nil (λ (arg : ℕ × ℕ). arg.1 < 2 ^ arg.0)
inputs_fit [] (x ∷ xs) h = absurd h
inputs_fit (w ∷ ws) [] h = absurd h
inputs_fit (w ∷ ws) (x ∷ xs) h = All-cons (λ (arg : ℕ × ℕ). arg.1 < 2 ^ arg.0) (w, x) (zip ws xs) h.0 (inputs_fit ws xs h.1)

pub operator_fits : ValuesFit → (op : Op) (ws xs : List ℕ) (width : ℕ) → IsTypedOp op ws width → length xs ≡ length ws → Fits ws xs → op_value op (zip ws xs) width < 2 ^ width
operator_fits values op ws xs width typed size h =
    values.operators op (zip ws xs) width (subst (λ z. IsTypedOp op z width) (sym (firsts-zip ws xs size)) typed) (inputs_fit ws xs h)

-- a kind that meets its row of the table, where values fit
pub record Good (k : Kind) : Type 0 where
  pub values : ValuesFit
  pub row : KindOk k
