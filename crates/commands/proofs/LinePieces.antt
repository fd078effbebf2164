-- A line that is written in pieces.
use Rattle.std.proofs.Common.{◌≡◌, ◌≤◌, ◌<◌, ◌+◌, ◌-◌, ◌/◌, ◌%◌, ◌^◌, ℕ, suc, zero, List, [], ◌∷◌, ◌++◌, length, take, drop, get_or, set, Option, Some, None, refl, sym, ap, ◌∙◌, append_assoc, length-append, take-append-drop, arith}
use Rattle.std.proofs.Math.Seq.{take-suc}
use Rattle.std.proofs.lemmas.List.{drop-set, drop_all, append-nil}
use Rattle.std.proofs.lemmas.List.{length-drop}
use Rattle.std.proofs.lemmas.Grind.{flat_map-append}
use Rattle.std.proofs.lemmas.Fmt.{decimal_step, decimal_digit}
use Rattle.std.specs.Fmt.{decimal}
use Rattle.gx_base.specs.Stream.{Told, after, Took}
use Rattle.commands.specs.declared.line.Piece.{Piece}
use Rattle.commands.specs.Status.{TookFront, piece_bytes, bytes_of}

all_of : {A : Type 0} (a : List A) → take (length a) a ≡ a
all_of [] = refl
all_of (x ∷ a) = ap (λ xs. x ∷ xs) (all_of a)

-- the whole piece was taken
pub whole_taken : (a : List ℕ) (old new : Told) → Took a old new → TookFront a old new
whole_taken a old new took = record { count = length a; took = took ∙ ap (after old.bytes) (sym (all_of a)) }

after_nothing : (old : Option (List ℕ)) → old ≡ after old []
after_nothing None = refl
after_nothing (Some xs) = ap Some (sym (append-nil xs))

pub took_nothing : (told : Told) → Took [] told told
took_nothing told = after_nothing told.bytes

after_both : (old : Option (List ℕ)) (a b : List ℕ) → after (after old a) b ≡ after old (a ++ b)
after_both None a b = refl
after_both (Some xs) a b = rw append_assoc refl

front_of_first : (c : ℕ) (a b : List ℕ) → (d : ℕ) × (take d (a ++ b) ≡ take c a)
front_of_first zero a b = (0, refl)
front_of_first (suc c) [] b = (0, refl)
front_of_first (suc c) (x ∷ a) b = let rest = front_of_first c a b in (suc rest.0, ap (λ xs. x ∷ xs) rest.1)

front_of_second : (c : ℕ) (a b : List ℕ) → (d : ℕ) × (take d (a ++ b) ≡ a ++ take c b)
front_of_second c [] b = (c, refl)
front_of_second c (x ∷ a) b = let rest = front_of_second c a b in (suc rest.0, ap (λ xs. x ∷ xs) rest.1)

-- one piece behind others, whole
took_both : (a b : List ℕ) (old between new : Told) → Took a old between → Took b between new → Took (a ++ b) old new
took_both a b old between new first then = then ∙ ap (λ taken. after taken b) first ∙ after_both old.bytes a b

-- or in part
front_of_both : (a b c : List ℕ) (old between new : Told) → Took a old between → TookFront b between new → TookFront (a ++ b ++ c) old new
front_of_both a b c old between new first front =
    let whole = front_of_second front.count a b in
    let more = front_of_first whole.0 (a ++ b) c in
    record {
      count = more.0;
      took = front.took ∙ ap (λ taken. after taken (take front.count b)) first ∙ after_both old.bytes a (take front.count b) ∙ ap (after old.bytes) (sym (more.1 ∙ whole.1));
    }

module _ (name : List ℕ) (pieces : List Piece) (i : ℕ) (d : Piece) (within : i < length pieces) (old between new : Told)
    (first : Took (bytes_of name (take i pieces)) old between) where
  abbrev piece : Piece
  piece = get_or pieces i d

  one_more : bytes_of name (take (i + 1) pieces) ≡ bytes_of name (take i pieces) ++ piece_bytes name piece
  one_more =
      let next : i + 1 ≡ suc i = omega arith in
      let with_piece : take (i + 1) pieces ≡ take i pieces ++ piece ∷ [] = ap (λ n. take n pieces) next ∙ take-suc pieces i d within in
      ap (bytes_of name) with_piece ∙ flat_map-append (piece_bytes name) (take i pieces) (piece ∷ []) ∙ ap (λ b. bytes_of name (take i pieces) ++ b) (append-nil (piece_bytes name piece))

  -- one more piece, whole
  pub took_piece : Took (piece_bytes name piece) between new → Took (bytes_of name (take (i + 1) pieces)) old new
  took_piece then = took_both (bytes_of name (take i pieces)) (piece_bytes name piece) old between new first then ∙ ap (after old.bytes) (sym one_more)

  split : bytes_of name pieces ≡ bytes_of name (take i pieces) ++ piece_bytes name piece ++ bytes_of name (drop (i + 1) pieces)
  split =
      ap (bytes_of name) (sym (take-append-drop (i + 1) pieces)) ∙ flat_map-append (piece_bytes name) (take (i + 1) pieces) (drop (i + 1) pieces)
      ∙ ap (λ b. b ++ bytes_of name (drop (i + 1) pieces)) one_more

  -- or in part
  pub took_front : TookFront (piece_bytes name piece) between new → TookFront (bytes_of name pieces) old new
  took_front front =
      let all = front_of_both (bytes_of name (take i pieces)) (piece_bytes name piece) (bytes_of name (drop (i + 1) pieces)) old between new first front in
      record { count = all.count; took = all.took ∙ ap (λ line. after old.bytes (take all.count line)) (sym split) }

-- one more digit in front of those that stand there
pub digit_before : (n rest first : ℕ) (ds : List ℕ) → decimal n ≡ decimal rest ++ drop (first + 1) ds → first < length ds → 10 ≤ rest → rest < 2 ^ 64 → decimal n ≡ decimal (rest / 10) ++ drop first (set ds first (48 + rest % 10))
digit_before n rest first ds so_far within more small =
    so_far ∙ ap (λ front. front ++ drop (first + 1) ds) (decimal_step rest more small) ∙ rw append_assoc refl ∙ ap (λ end. decimal (rest / 10) ++ end) (sym (drop-set ds first (48 + rest % 10) within))

-- the last digit to be put there is the first of all
pub digit_first : (n rest first : ℕ) (ds : List ℕ) → decimal n ≡ decimal rest ++ drop (first + 1) ds → first < length ds → rest < 10 → drop first (set ds first (48 + rest)) ≡ decimal n
digit_first n rest first ds so_far within less =
    drop-set ds first (48 + rest) within ∙ ap (λ front. front ++ drop (first + 1) ds) (sym (decimal_digit rest less)) ∙ sym so_far

-- what is left has one digit less
pub one_less : (rest : ℕ) → 10 ≤ rest → rest < 2 ^ 64 → length (decimal rest) ≡ length (decimal (rest / 10)) + 1
one_less rest more small = ap length (decimal_step rest more small) ∙ length-append (decimal (rest / 10)) ((48 + rest % 10) ∷ [])

-- no digits stand behind the end
pub none_behind : (n : ℕ) (ds : List ℕ) → length ds ≤ 20 → decimal n ≡ decimal n ++ drop 20 ds
none_behind n ds short = sym (ap (λ end. decimal n ++ end) (drop_all 20 ds short) ∙ append-nil (decimal n))

-- the digits are the whole end of the array
pub digits_shown : (n first : ℕ) (ds : List ℕ) → length ds ≡ 20 → drop first ds ≡ decimal n → take (20 - first) (drop first ds) ≡ decimal n
digits_shown n first ds long shown =
    let len : 20 - first ≡ length (drop first ds) = omega (arith, length-drop first ds) in
    ap (λ count. take count (drop first ds)) len ∙ all_of (drop first ds) ∙ shown
