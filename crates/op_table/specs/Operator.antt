-- Operators: their names, and the widths that they take and give.
use Rattle.std.specs.Prelude.{◌≡◌, ℕ, ◌≤◌, List, [], ◌∷◌, ◌++◌, codes}
use Rattle.op_table.specs.declared.op.Op.{Op}
use Rattle.op_table.specs.declared.op.Op.TheVariants.{Add, Sub, Mul, Udiv, Urem, Sdiv, Srem, And, Or, Xor, Shl, Lshr, Ashr, Eq, Ne, Ult, Ule, Ugt, Uge, Slt, Sle, Sgt, Sge, Select, Zext, Sext, Trunc, Ret}

-- the short name
abbrev pub op_word : Op → List ℕ
op_word Add = codes "add"
op_word Sub = codes "sub"
op_word Mul = codes "mul"
op_word Udiv = codes "udiv"
op_word Urem = codes "urem"
op_word Sdiv = codes "sdiv"
op_word Srem = codes "srem"
op_word And = codes "and"
op_word Or = codes "or"
op_word Xor = codes "xor"
op_word Shl = codes "shl"
op_word Lshr = codes "lshr"
op_word Ashr = codes "ashr"
op_word Eq = codes "eq"
op_word Ne = codes "ne"
op_word Ult = codes "ult"
op_word Ule = codes "ule"
op_word Ugt = codes "ugt"
op_word Uge = codes "uge"
op_word Slt = codes "slt"
op_word Sle = codes "sle"
op_word Sgt = codes "sgt"
op_word Sge = codes "sge"
op_word Select = codes "select"
op_word Zext = codes "zext"
op_word Sext = codes "sext"
op_word Trunc = codes "trunc"
op_word Ret = codes "ret"

-- what stands before the short name in a graph: `icmp_` before that of a comparison
abbrev pub graph_prefix : Op → List ℕ
graph_prefix Eq = codes "icmp_"
graph_prefix Ne = codes "icmp_"
graph_prefix Ult = codes "icmp_"
graph_prefix Ule = codes "icmp_"
graph_prefix Ugt = codes "icmp_"
graph_prefix Uge = codes "icmp_"
graph_prefix Slt = codes "icmp_"
graph_prefix Sle = codes "icmp_"
graph_prefix Sgt = codes "icmp_"
graph_prefix Sge = codes "icmp_"
graph_prefix _ = []

-- the name in a graph, as `add_op` and `icmp_ne_op`
abbrev pub graph_word : Op → List ℕ
graph_word op = graph_prefix op ++ op_word op ++ codes "_op"

-- the widths of every operator but `ret`
pub record IsWidth (width : ℕ) : Type 0 where
  pub positive : 1 ≤ width
  pub narrow : width ≤ 64

-- `w w` gives `w`
abbrev pub KeepsWidth : List ℕ → ℕ → Type 0
KeepsWidth ins out = (ins ≡ out ∷ out ∷ []) × IsWidth out

-- `w w` gives 1
abbrev pub Compares : List ℕ → ℕ → Type 0
Compares ins out = (width : ℕ) × (ins ≡ width ∷ width ∷ []) × IsWidth width × (out ≡ 1)

-- `1 w w` gives `w`
abbrev pub Chooses : List ℕ → ℕ → Type 0
Chooses ins out = (ins ≡ 1 ∷ out ∷ out ∷ []) × IsWidth out

-- `w` gives at least `w`
abbrev pub Widens : List ℕ → ℕ → Type 0
Widens ins out = (width : ℕ) × (ins ≡ width ∷ []) × IsWidth width × IsWidth out × (width ≤ out)

-- `w` gives at most `w`
abbrev pub Narrows : List ℕ → ℕ → Type 0
Narrows ins out = (width : ℕ) × (ins ≡ width ∷ []) × IsWidth width × IsWidth out × (out ≤ width)

-- `w` gives `w`, which may be 0
abbrev pub Passes : List ℕ → ℕ → Type 0
Passes ins out = (ins ≡ out ∷ []) × (out ≤ 64)

-- the columns of the table: the widths of the inputs and of the output
abbrev pub IsTypedOp : Op → List ℕ → ℕ → Type 0
IsTypedOp Add ins out = KeepsWidth ins out
IsTypedOp Sub ins out = KeepsWidth ins out
IsTypedOp Mul ins out = KeepsWidth ins out
IsTypedOp Udiv ins out = KeepsWidth ins out
IsTypedOp Urem ins out = KeepsWidth ins out
IsTypedOp Sdiv ins out = KeepsWidth ins out
IsTypedOp Srem ins out = KeepsWidth ins out
IsTypedOp And ins out = KeepsWidth ins out
IsTypedOp Or ins out = KeepsWidth ins out
IsTypedOp Xor ins out = KeepsWidth ins out
IsTypedOp Shl ins out = KeepsWidth ins out
IsTypedOp Lshr ins out = KeepsWidth ins out
IsTypedOp Ashr ins out = KeepsWidth ins out
IsTypedOp Eq ins out = Compares ins out
IsTypedOp Ne ins out = Compares ins out
IsTypedOp Ult ins out = Compares ins out
IsTypedOp Ule ins out = Compares ins out
IsTypedOp Ugt ins out = Compares ins out
IsTypedOp Uge ins out = Compares ins out
IsTypedOp Slt ins out = Compares ins out
IsTypedOp Sle ins out = Compares ins out
IsTypedOp Sgt ins out = Compares ins out
IsTypedOp Sge ins out = Compares ins out
IsTypedOp Select ins out = Chooses ins out
IsTypedOp Zext ins out = Widens ins out
IsTypedOp Sext ins out = Widens ins out
IsTypedOp Trunc ins out = Narrows ins out
IsTypedOp Ret ins out = Passes ins out
