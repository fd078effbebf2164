-- Names tell operators apart.
use Rattle.std.proofs.Common.{◌≡◌, ℕ, ◌↔◌, List, [], ◌∷◌, Bool, true, false, cond, Option, Some, None, IsNone, refl, sym, subst, ap, bytes_eq}
use Rattle.std.specs.List.{find}
use Rattle.std.proofs.lemmas.Slice.Eq.{bytes_eq-Decides}
use Rattle.op_table.specs.declared.op.Op.{Op}
use Rattle.op_table.specs.declared.op.Op.TheVariants.{Add, Sub, Mul, Udiv, Urem, Sdiv, Srem, And, Or, Xor, Shl, Lshr, Ashr, Eq, Ne, Ult, Ule, Ugt, Uge, Slt, Sle, Sgt, Sge, Select, Zext, Sext, Trunc, Ret}
use Rattle.op_table.specs.declared.op.TheConstants.{ALL}
use Rattle.op_table.specs.Operator.{op_word, graph_word}
use Rattle.op_table.specs.Laws.{GraphWordsDiffer, ShortWordsDiffer}

-- the first item is the one found, or the others have it
found_step : {X : Type 0} (test : X → Bool) (first x : X) (others : Option X) (b : Bool) → test first ≡ b → cond b (Some first) others ≡ Some x → (others ≡ Some x → test x ≡ true) → test x ≡ true
found_step test first x others true passes e rest = cc
found_step test first x others false fails e rest = rest e

-- what is found passes the test
find_passes : {X : Type 0} (test : X → Bool) (xs : List X) (x : X) → find test xs ≡ Some x → test x ≡ true
find_passes test [] x e = cc
find_passes test (first ∷ xs) x e = found_step test first x (find test xs) (test first) refl e (find_passes test xs x)

-- the first operator of a name
abbrev pub first_of_name : (Op → List ℕ) → List ℕ → Option Op
first_of_name name word = find (λ op. bytes_eq (name op) word) ALL

-- where each operator is found by its name, it is found just there
pub found_by_name : (name : Op → List ℕ) → ((op : Op) → first_of_name name (name op) ≡ Some op) → (word : List ℕ) (op : Op) → (first_of_name name word ≡ Some op) ↔ (word ≡ name op)
found_by_name name finds word op =
    (λ e. sym ((bytes_eq-Decides (name op) word).0 (find_passes (λ other. bytes_eq (name other) word) ALL op e)), λ e. let P : List ℕ → Type 0 = λ w. first_of_name name w ≡ Some op in subst P (sym e) (finds op))

-- where none is found no operator has the name, and only there
pub none_found : (name : Op → List ℕ) (word : List ℕ) (found : Option Op) → ((op : Op) → (found ≡ Some op) ↔ (word ≡ name op)) → IsNone found ↔ ((op : Op) → word ≡ name op → ⊥)
none_found name word None each = (λ none op e. let f = (each op).1 e in cc, λ none. refl)
none_found name word (Some op) each = (λ none. cc, λ none. absurd (none op ((each op).0 refl)))

pub finds_graph_word : (op : Op) → first_of_name graph_word (graph_word op) ≡ Some op
finds_graph_word Add = refl
finds_graph_word Sub = refl
finds_graph_word Mul = refl
finds_graph_word Udiv = refl
finds_graph_word Urem = refl
finds_graph_word Sdiv = refl
finds_graph_word Srem = refl
finds_graph_word And = refl
finds_graph_word Or = refl
finds_graph_word Xor = refl
finds_graph_word Shl = refl
finds_graph_word Lshr = refl
finds_graph_word Ashr = refl
finds_graph_word Eq = refl
finds_graph_word Ne = refl
finds_graph_word Ult = refl
finds_graph_word Ule = refl
finds_graph_word Ugt = refl
finds_graph_word Uge = refl
finds_graph_word Slt = refl
finds_graph_word Sle = refl
finds_graph_word Sgt = refl
finds_graph_word Sge = refl
finds_graph_word Select = refl
finds_graph_word Zext = refl
finds_graph_word Sext = refl
finds_graph_word Trunc = refl
finds_graph_word Ret = refl

pub finds_op_word : (op : Op) → first_of_name op_word (op_word op) ≡ Some op
finds_op_word Add = refl
finds_op_word Sub = refl
finds_op_word Mul = refl
finds_op_word Udiv = refl
finds_op_word Urem = refl
finds_op_word Sdiv = refl
finds_op_word Srem = refl
finds_op_word And = refl
finds_op_word Or = refl
finds_op_word Xor = refl
finds_op_word Shl = refl
finds_op_word Lshr = refl
finds_op_word Ashr = refl
finds_op_word Eq = refl
finds_op_word Ne = refl
finds_op_word Ult = refl
finds_op_word Ule = refl
finds_op_word Ugt = refl
finds_op_word Uge = refl
finds_op_word Slt = refl
finds_op_word Sle = refl
finds_op_word Sgt = refl
finds_op_word Sge = refl
finds_op_word Select = refl
finds_op_word Zext = refl
finds_op_word Sext = refl
finds_op_word Trunc = refl
finds_op_word Ret = refl

-- where each operator is found by its name, no two have one name
names_differ : (name : Op → List ℕ) → ((op : Op) → first_of_name name (name op) ≡ Some op) → (op other : Op) → name op ≡ name other → op ≡ other
names_differ name finds op other e =
    let f : first_of_name name (name op) ≡ Some op = finds op in
    let g : first_of_name name (name other) ≡ Some other = finds other in
    let same : first_of_name name (name op) ≡ first_of_name name (name other) = ap (first_of_name name) e in
    cc

pub graph_words_differ : GraphWordsDiffer
graph_words_differ = names_differ graph_word finds_graph_word

pub short_words_differ : ShortWordsDiffer
short_words_differ = names_differ op_word finds_op_word
