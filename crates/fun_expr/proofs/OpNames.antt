-- The names of operators, whole and by their first letters.
use Rattle.std.proofs.Common.{◌≡◌, ◌↔◌, ◌==◌, ℕ, zero, suc, List, [], ◌∷◌, ◌++◌, length, take, drop, Bool, true, false, cond, Option, Some, None, refl, ap, sym, ◌∙◌, arith}
use Rattle.std.specs.Prelude.{bytes_eq, slice_get}
use Rattle.std.specs.List.{find}
use Rattle.std.proofs.lemmas.List.{take_at, drop_at, take-append-drop}
use Rattle.std.proofs.lemmas.Bool.{eqb-true}
use Rattle.std.proofs.lemmas.Slice.Eq.{bytes_eq-Decides}
use Rattle.op_table.specs.declared.op.Op.{Op}
use Rattle.op_table.specs.declared.op.Op.TheVariants.{Add, Sub, Mul, Udiv, Urem, Sdiv, Srem, And, Or, Xor, Shl, Lshr, Ashr, Eq, Ne, Ult, Ule, Ugt, Uge, Slt, Sle, Sgt, Sge, Select, Zext, Sext, Trunc, Ret}
use Rattle.op_table.specs.Operator.{op_word}
use Rattle.op_table.specs.Table.{ops}
use Rattle.port_types.specs.PortGrammar.{text_behind}
use Rattle.fun_expr.specs.Machine.{goes_on, first_named, op_named}

-- the first item is the one found, or the others have it
found_step : {X : Type 0} (test : X → Bool) (first x : X) (others : Option X) (b : Bool) → test first ≡ b → cond b (Some first) others ≡ Some x → (others ≡ Some x → test x ≡ true) → test x ≡ true
found_step test first x others true passes e rest = cc
found_step test first x others false fails e rest = rest e

-- what is found passes the test
find_passes : {X : Type 0} (test : X → Bool) (xs : List X) (x : X) → find test xs ≡ Some x → test x ≡ true
find_passes test [] x e = cc
find_passes test (first ∷ xs) x e = found_step test first x (find test xs) (test first) refl e (find_passes test xs x)

first_or : {X : Type 0} (test : X → Bool) (first : X) (xs : List X) (b : Bool) → test first ≡ b → (y : X) × (find test xs ≡ Some y) → (y : X) × (find test (first ∷ xs) ≡ Some y)
first_or test first xs true e rest = (first, ap (λ b. cond b (Some first) (find test xs)) e)
first_or test first xs false e rest = (rest.0, ap (λ b. cond b (Some first) (find test xs)) e ∙ rest.1)

-- where one passes, some are found
find_some : {X : Type 0} (test : X → Bool) (xs : List X) (i : ℕ) (x : X) → slice_get xs i ≡ Some x → test x ≡ true → (y : X) × (find test xs ≡ Some y)
find_some test [] i x at passes = absurd cc
find_some test (first ∷ xs) zero x at passes =
    let same : first ≡ x = cc in
    (first, ap (λ b. cond b (Some first) (find test xs)) (ap test same ∙ passes))
find_some test (first ∷ xs) (suc i) x at passes = first_or test first xs (test first) refl (find_some test xs i x at passes)

-- each operator is in the table
place_of_op : (op : Op) → (i : ℕ) × (slice_get ops i ≡ Some op)
place_of_op Add = (0, refl)
place_of_op Sub = (1, refl)
place_of_op Mul = (2, refl)
place_of_op Udiv = (3, refl)
place_of_op Urem = (4, refl)
place_of_op Sdiv = (5, refl)
place_of_op Srem = (6, refl)
place_of_op And = (7, refl)
place_of_op Or = (8, refl)
place_of_op Xor = (9, refl)
place_of_op Shl = (10, refl)
place_of_op Lshr = (11, refl)
place_of_op Ashr = (12, refl)
place_of_op Eq = (13, refl)
place_of_op Ne = (14, refl)
place_of_op Ult = (15, refl)
place_of_op Ule = (16, refl)
place_of_op Ugt = (17, refl)
place_of_op Uge = (18, refl)
place_of_op Slt = (19, refl)
place_of_op Sle = (20, refl)
place_of_op Sgt = (21, refl)
place_of_op Sge = (22, refl)
place_of_op Select = (23, refl)
place_of_op Zext = (24, refl)
place_of_op Sext = (25, refl)
place_of_op Trunc = (26, refl)
place_of_op Ret = (27, refl)

-- the operator of its name
pub found_by_name : (op : Op) → op_named (op_word op) ≡ Some op
unfolding op_named
found_by_name Add = refl
found_by_name Sub = refl
found_by_name Mul = refl
found_by_name Udiv = refl
found_by_name Urem = refl
found_by_name Sdiv = refl
found_by_name Srem = refl
found_by_name And = refl
found_by_name Or = refl
found_by_name Xor = refl
found_by_name Shl = refl
found_by_name Lshr = refl
found_by_name Ashr = refl
found_by_name Eq = refl
found_by_name Ne = refl
found_by_name Ult = refl
found_by_name Ule = refl
found_by_name Ugt = refl
found_by_name Uge = refl
found_by_name Slt = refl
found_by_name Sle = refl
found_by_name Sgt = refl
found_by_name Sge = refl
found_by_name Select = refl
found_by_name Zext = refl
found_by_name Sext = refl
found_by_name Trunc = refl
found_by_name Ret = refl

pub named_is : (word : List ℕ) (op : Op) → op_named word ≡ Some op → op_word op ≡ word
unfolding op_named
named_is word op e = (bytes_eq-Decides (op_word op) word).0 (find_passes (λ other. bytes_eq (op_word other) word) ops op e)

-- what finds exactly the operators of their names is this search
pub same_search : (word : List ℕ) (r : Option Op) → ((op : Op) → (r ≡ Some op) ↔ (word ≡ op_word op)) → r ≡ op_named word
same_search word None only = by (op_named word) refl
  where
    by : (o : Option Op) → op_named word ≡ o → None ≡ op_named word
    by None e = sym e
    by (Some op) e = let no : None ≡ Some op = (only op).1 (sym (named_is word op e)) in cc
same_search word (Some op) only = sym (ap op_named ((only op).0 refl) ∙ found_by_name op)

-- what stands behind a front
one_answer : {A : Type 0} (x y : A) → ◌≡◌ {A = Option A} (Some x) (Some y) → x ≡ y
one_answer x y e = cc

tested : {A : Type 0} (b : Bool) (x y : A) → cond b (Some x) None ≡ Some y → (b ≡ true) × (x ≡ y)
tested true x y e = (refl, one_answer x y e)
tested false x y e = absurd cc

behind-append : (front rest : List ℕ) → text_behind front (front ++ rest) ≡ Some rest
unfolding text_behind
behind-append front rest = rw (take_at front rest (length front) refl, drop_at front rest (length front) refl, (bytes_eq-Decides front front).1 refl) refl

behind-is : (front text rest : List ℕ) → text_behind front text ≡ Some rest → text ≡ front ++ rest
unfolding text_behind
behind-is front text rest e =
    let parts = tested (bytes_eq (take (length front) text) front) (drop (length front) text) rest e in
    let same : take (length front) text ≡ front = (bytes_eq-Decides (take (length front) text) front).0 parts.0 in
    sym (take-append-drop (length front) text) ∙ (λ i. same i ++ parts.1 i)

-- a word that goes on with a byte
next_is : (byte : ℕ) (front word : List ℕ) (o : Option (List ℕ)) → text_behind front word ≡ o → goes_on byte o ≡ true → (more : List ℕ) × (word ≡ front ++ byte ∷ more)
next_is byte front word None e h = absurd cc
next_is byte front word (Some []) e h = absurd cc
next_is byte front word (Some (next ∷ more)) e h = (more, behind-is front word (next ∷ more) e ∙ ap (λ x. front ++ x ∷ more) (eqb-true next byte h))

same_byte : (byte : ℕ) → (byte == byte) ≡ true
same_byte byte = grind arith

pub first_is : (front : List ℕ) (byte : ℕ) (op : Op) → first_named front byte ≡ Some op → (more : List ℕ) × (op_word op ≡ front ++ byte ∷ more)
unfolding first_named
first_is front byte op e =
    next_is byte front (op_word op) (text_behind front (op_word op)) refl (find_passes (λ other. goes_on byte (text_behind front (op_word other))) ops op e)

pub first_found : (front more : List ℕ) (byte : ℕ) (op : Op) → op_word op ≡ front ++ byte ∷ more → (first : Op) × (first_named front byte ≡ Some first)
unfolding first_named
first_found front more byte op e =
    let at = place_of_op op in
    find_some (λ other. goes_on byte (text_behind front (op_word other))) ops at.0 op at.1
    (ap (λ w. goes_on byte (text_behind front w)) e ∙ ap (goes_on byte) (behind-append front (byte ∷ more)) ∙ same_byte byte)
