-- A reader goes over a numeral, and over the name of an operator.
use Rattle.std.proofs.Common.{◌≡◌, ◌==◌, ◌<◌, ◌≤◌, ◌^◌, ◌+◌, ◌-◌, ◌*◌, ℕ, List, [], ◌∷◌, ◌++◌, Bool, true, false, not, cond, length, take, Some, None, refl, ap, sym, ◌∙◌, arith, append_assoc}
use Rattle.std.specs.Prelude.{nat_lt}
use Rattle.std.specs.Char.{is_ascii_digit, digit_value}
use Rattle.std.specs.List.{list_all}
use Rattle.std.specs.Str.Parse.{digits_value_after}
use Rattle.std.proofs.lemmas.List.{take_at, append-nil}
use Rattle.std.proofs.lemmas.Bool.{and_parts}
use Rattle.std.proofs.lemmas.Bool.Decides.{nat_tests}
use Rattle.op_table.specs.declared.op.Op.{Op}
use Rattle.op_table.specs.Operator.{op_word}
use Rattle.port_types.specs.Numeral.{in_word}
use Rattle.fun_expr.specs.declared.state.Number.{Number}
use Rattle.fun_expr.specs.declared.state.Number.TheVariants.{Place, LiteralWidth, OperatorWidth}
use Rattle.fun_expr.specs.declared.state.Spot.TheVariants.{Expression, Name, Numeral, Digits}
use Rattle.fun_expr.specs.declared.scan.Extent.{Extent}
use Rattle.fun_expr.specs.Machine.{state, leads, step, named, operator, in_name, with_digit, is_zero, numeral_on, ended, first_named, op_named}
use Rattle.fun_expr.specs.Counting.{with_expression}
use Rattle.fun_expr.specs.Building.{Parts, number_built}
use Rattle.fun_expr.specs.FunGrammar as grammar
use Rattle.fun_expr.proofs.OneText.{AreDigits, numeral_digits, word_begins, no_colon}
use Rattle.fun_expr.proofs.OpNames.{first_is, first_found, found_by_name}
use Rattle.fun_expr.proofs.Running.{Reader, reader, reads, moves}

-- one more digit of a number, which is above 0 where a digit may follow
digit_more : (number digit : ℕ) → is_ascii_digit digit ≡ true → with_digit (in_word number) digit ≡ in_word (number * 10 + digit_value digit)
digit_more number digit is = by (nat_lt number (2 ^ 64)) refl
  where
    value : digit_value digit ≡ digit - 48
    value = grind (arith, nat_tests)

    by : (b : Bool) → nat_lt number (2 ^ 64) ≡ b → with_digit (cond b (Some number) None) digit ≡ in_word (number * 10 + digit_value digit)
    by true e = ap (λ d. in_word (number * 10 + d)) (sym value)
    by false e = let large : 2 ^ 64 ≤ number = grind (arith, nat_tests) in let above : nat_lt (number * 10 + digit_value digit) (2 ^ 64) ≡ false = grind (arith, nat_tests) in sym (ap (λ b. cond b (Some (number * 10 + digit_value digit)) None) above)

no_zero : (number : ℕ) → 0 < number → is_zero (in_word number) ≡ false
no_zero number some = by (nat_lt number (2 ^ 64)) refl
  where
    by : (b : Bool) → nat_lt number (2 ^ 64) ≡ b → is_zero (cond b (Some number) None) ≡ false
    by true e = grind (arith, nat_tests)
    by false e = refl

-- a digit leads on
digit_leads : (kind : Number) (number k digit : ℕ) → 0 < number → is_ascii_digit digit ≡ true → step (state (Digits kind (in_word number)) k) digit ≡ Some (state (Digits kind (in_word (number * 10 + digit_value digit))) k)
digit_leads kind number k digit some is =
    ap (λ b. cond b (numeral_on kind (in_word number) k digit) (ended kind (in_word number) k digit)) is ∙ ap (λ b. cond b None (leads (Digits kind (with_digit (in_word number) digit)) k)) (no_zero number some)
    ∙ ap (λ v. leads (Digits kind v) k) (digit_more number digit is)

pub digits_run : (kind : Number) (k : ℕ) (extent : Extent) (parts : Parts) (rest digits : List ℕ) (number : ℕ) → 0 < number → AreDigits digits →
    reads (Some (reader (Digits kind (in_word number)) k extent parts)) (digits ++ rest) ≡ reads (Some (reader (Digits kind (in_word (digits_value_after 10 number digits))) k extent parts)) rest
digits_run kind k extent parts rest [] number some are = refl
digits_run kind k extent parts rest (d ∷ ds) number some are =
    let both = and_parts (is_ascii_digit d) (list_all is_ascii_digit ds) are in
    moves (reader (Digits kind (in_word number)) k extent parts) d (ds ++ rest) (state (Digits kind (in_word (number * 10 + digit_value d))) k) (digit_leads kind number k d some both.0)
    ∙ ap (λ b. reads (Some (reader (Digits kind (in_word (number * 10 + digit_value d))) k extent (cond b parts (number_built kind (in_word number) d parts)))) (ds ++ rest)) both.0
    ∙ digits_run kind k extent parts rest ds (number * 10 + digit_value d) (omega (arith, some)) both.1

-- from what a first digit leads to
numeral_rest : (kind : Number) (k : ℕ) (extent : Extent) (parts : Parts) (r : Reader) →
    ((d : ℕ) (bytes : List ℕ) → is_ascii_digit d ≡ true → reads (Some r) (d ∷ bytes) ≡ reads (Some (reader (Digits kind (Some (d - 48))) k extent parts)) bytes) →
    (word : List ℕ) (number : ℕ) → grammar.Numeral word number → (rest : List ℕ) →
    reads (Some r) (word ++ rest) ≡ reads (Some (reader (Digits kind (in_word number)) k extent parts)) rest
numeral_rest kind k extent parts r first [] number is rest = let never = is.is in absurd cc
numeral_rest kind k extent parts r first (d ∷ []) number is rest =
    let digit : is_ascii_digit d ≡ true = is.is in
    first d rest digit ∙ ap (λ v. reads (Some (reader (Digits kind v) k extent parts)) rest) (one_digit d digit ∙ ap in_word is.value)
  where
    one_digit : (d : ℕ) → is_ascii_digit d ≡ true → Some (d - 48) ≡ in_word (0 * 10 + digit_value d)
    one_digit d digit = grind (arith, nat_tests)
numeral_rest kind k extent parts r first (d ∷ e ∷ ds) number is rest =
    let digits = numeral_digits (d ∷ e ∷ ds) is.is in
    let both = and_parts (is_ascii_digit d) (list_all is_ascii_digit (e ∷ ds)) digits in
    let head = and_parts (not (d == 48)) (list_all is_ascii_digit (d ∷ e ∷ ds)) is.is in
    let value = digit_of d both.0 in
    first d (e ∷ (ds ++ rest)) both.0
    ∙ ap (λ v. reads (Some (reader (Digits kind v) k extent parts)) (e ∷ (ds ++ rest))) value.0
    ∙ digits_run kind k extent parts rest (e ∷ ds) (digit_value d) (positive d both.0 head.0) both.1
    ∙ ap (λ n. reads (Some (reader (Digits kind (in_word n)) k extent parts)) rest) (ap (λ n. digits_value_after 10 n (e ∷ ds)) value.1 ∙ is.value)
  where
    digit_of : (d : ℕ) → is_ascii_digit d ≡ true → (Some (d - 48) ≡ in_word (digit_value d)) × (digit_value d ≡ 0 * 10 + digit_value d)
    digit_of d is = (grind (arith, nat_tests), omega arith)

    positive : (d : ℕ) → is_ascii_digit d ≡ true → not (d == 48) ≡ true → 0 < digit_value d
    positive d is some = grind (arith, nat_tests)

pub numeral_run : (kind : Number) (k : ℕ) (extent : Extent) (parts : Parts) (word : List ℕ) (number : ℕ) → grammar.Numeral word number → (rest : List ℕ) →
    reads (Some (reader (Numeral kind) k extent parts)) (word ++ rest) ≡ reads (Some (reader (Digits kind (in_word number)) k extent parts)) rest
numeral_run kind k extent parts =
    numeral_rest kind k extent parts (reader (Numeral kind) k extent parts)
    (λ d bytes digit. moves (reader (Numeral kind) k extent parts) d bytes (state (Digits kind (Some (d - 48))) k) (ap (λ b. cond b (leads (Digits kind (Some (d - 48))) k) None) digit))

-- the width of a literal begins an expression
digit_no_hash : (d : ℕ) → is_ascii_digit d ≡ true → (d == 35) ≡ false
digit_no_hash d is = grind (arith, nat_tests)

pub literal_run : (k : ℕ) (extent : Extent) (parts : Parts) (word : List ℕ) (number : ℕ) → grammar.Numeral word number → (rest : List ℕ) →
    reads (Some (reader Expression k extent parts)) (word ++ rest) ≡ reads (Some (reader (Digits LiteralWidth (in_word number)) k (with_expression k extent) parts)) rest
literal_run k extent parts =
    numeral_rest LiteralWidth k (with_expression k extent) parts (reader Expression k extent parts)
    (λ d bytes digit. moves (reader Expression k extent parts) d bytes (state (Digits LiteralWidth (Some (d - 48))) k)
    (ap (λ b. cond b (leads (Numeral Place) k) (cond (is_ascii_digit d) (leads (Digits LiteralWidth (Some (d - 48))) k) (named 1 k (first_named [] d)))) (digit_no_hash d digit)
    ∙ ap (λ b. cond b (leads (Digits LiteralWidth (Some (d - 48))) k) (named 1 k (first_named [] d))) digit))

-- the letters of a name behind its first ones
head_colon : (byte : ℕ) (more word front : List ℕ) → word ≡ front ++ byte ∷ more → list_all (λ b. not (b == 58)) word ≡ true → (byte == 58) ≡ false
head_colon byte more word [] e h = not_that (byte == 58) (and_parts (not (byte == 58)) (list_all (λ b. not (b == 58)) more) (ap (list_all (λ b. not (b == 58))) (sym e) ∙ h)).0
  where
    not_that : (b : Bool) → not b ≡ true → b ≡ false
    not_that true e = cc
    not_that false e = refl
head_colon byte more word (f ∷ front) e h =
    head_colon byte more (front ++ byte ∷ more) front refl (and_parts (not (f == 58)) (list_all (λ b. not (b == 58)) (front ++ byte ∷ more)) (ap (list_all (λ b. not (b == 58))) (sym e) ∙ h)).1

snoc : (front more : List ℕ) (byte : ℕ) → front ++ byte ∷ more ≡ (front ++ byte ∷ []) ++ more
snoc front more byte = sym (append_assoc front (byte ∷ []) more)

length_snoc : (front : List ℕ) (byte : ℕ) → length (front ++ byte ∷ []) ≡ length front + 1
length_snoc [] byte = omega arith
length_snoc (x ∷ front) byte = omega (arith, length_snoc front byte)

pub name_rest : (op : Op) (k : ℕ) (extent : Extent) (parts : Parts) (rest more front : List ℕ) (other : Op) (letters : ℕ) → take letters (op_word other) ≡ front → op_word op ≡ front ++ more →
    reads (Some (reader (Name other letters) k extent parts)) (more ++ 58 ∷ rest) ≡ reads (Some (reader (Numeral (OperatorWidth op)) k extent parts)) rest
name_rest op k extent parts rest [] front other letters at e =
    moves (reader (Name other letters) k extent parts) 58 rest (state (Numeral (OperatorWidth op)) k)
    (ap (operator k) (ap op_named (at ∙ sym (append-nil front) ∙ sym e) ∙ found_by_name op))
name_rest op k extent parts rest (byte ∷ more) front other letters at e =
    let first = first_found front more byte op e in
    let is = first_is front byte first.0 first.1 in
    let letter : take (length front + 1) (op_word first.0) ≡ front ++ byte ∷ [] =
    ap (take (length front + 1)) (is.1 ∙ snoc front is.0 byte) ∙ take_at (front ++ byte ∷ []) is.0 (length front + 1) (length_snoc front byte) in
    moves (reader (Name other letters) k extent parts) byte (more ++ 58 ∷ rest) (state (Name first.0 (length front + 1)) k)
    (ap (λ w. in_name w k byte) at ∙ ap (λ b. cond b (operator k (op_named front)) (named (length front + 1) k (first_named front byte))) (head_colon byte more (op_word op) front e (no_colon op))
    ∙ ap (named (length front + 1) k) first.1)
    ∙ name_rest op k extent parts rest more (front ++ byte ∷ []) first.0 (length front + 1) letter (e ∙ snoc front more byte)

-- the name of an operator begins an expression
pub name_run : (op : Op) (k : ℕ) (extent : Extent) (parts : Parts) (rest : List ℕ) →
    reads (Some (reader Expression k extent parts)) (op_word op ++ 58 ∷ rest) ≡ reads (Some (reader (Numeral (OperatorWidth op)) k (with_expression k extent) parts)) rest
name_run op k extent parts rest =
    let b = word_begins op in
    let first = first_found [] b.rest b.byte op b.is in
    let is = first_is [] b.byte first.0 first.1 in
    ap (λ w. reads (Some (reader Expression k extent parts)) (w ++ 58 ∷ rest)) b.is
    ∙ moves (reader Expression k extent parts) b.byte (b.rest ++ 58 ∷ rest) (state (Name first.0 1) k)
    (ap (λ t. cond t (leads (Numeral Place) k) (cond (is_ascii_digit b.byte) (leads (Digits LiteralWidth (Some (b.byte - 48))) k) (named 1 k (first_named [] b.byte)))) b.no_hash
    ∙ ap (λ t. cond t (leads (Digits LiteralWidth (Some (b.byte - 48))) k) (named 1 k (first_named [] b.byte))) b.no_digit
    ∙ ap (named 1 k) first.1)
    ∙ name_rest op k (with_expression k extent) parts rest b.rest (b.byte ∷ []) first.0 1 (ap (take 1) is.1 ∙ refl) b.is
