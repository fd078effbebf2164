-- Words of a text, read one by one.
use Rattle.std.proofs.Common.{◌≡◌, ℕ, ◌+◌, ◌≤◌, ◌<◌, Bool, true, false, cond, List, [], ◌∷◌, ◌++◌, length, get_or, take, drop, Result, Ok, Err, refl, sym, ap, subst, ◌∙◌, add-zero, append_assoc, append-nil, arith}
use Rattle.std.specs.Prelude.{IsTrue}
use Rattle.std.specs.List.{filter}
use Rattle.std.proofs.lemmas.List.{take-append-drop}
use Rattle.std.proofs.lemmas.List.Elements.{filter_more, filter-append}
use Rattle.port_types.specs.declared.side.Side.{Side}
use Rattle.port_types.specs.declared.port.Port.{Port}
use Rattle.port_types.specs.declared.port.PortFault.{PortFault}
use Rattle.port_types.proofs.PortWords.{ok_ok, no_ok, few_words, marked_word}
use Rattle.port_types.specs.PortGrammar.{is_word, are_marked, word_reading, then_ports, words_reading}

-- ---- a list of words

-- the first word and the others were read
pub record IsReadAs (side : Side) (number : ℕ) (word : List ℕ) (words : List (List ℕ)) (ports : List Port) : Type 0 where
  pub first : Port
  pub others : List Port
  pub is_first : word_reading side number word ≡ Ok first
  pub are_others : words_reading side (number + 1) words ≡ Ok others
  pub are : ports ≡ first ∷ others

pub read_as : (side : Side) (number : ℕ) (word : List ℕ) (words : List (List ℕ)) (ports : List Port) → words_reading side number (word ∷ words) ≡ Ok ports → IsReadAs side number word words ports
read_as side number word words ports read = by (word_reading side number word) (words_reading side (number + 1) words) refl refl read
  where
    by : (one : Result Port PortFault) (more : Result (List Port) PortFault) → word_reading side number word ≡ one → words_reading side (number + 1) words ≡ more → then_ports one more ≡ Ok ports → IsReadAs side number word words ports
    by (Ok port) (Ok others) is are pair = record { first = port; others = others; is_first = is; are_others = are; are = sym (ok_ok (port ∷ others) ports pair) }
    by (Ok port) (Err fault) is are pair = absurd (no_ok fault ports pair)
    by (Err fault) more is are pair = absurd (no_ok fault ports pair)

pub as_read : (side : Side) (number : ℕ) (word : List ℕ) (words : List (List ℕ)) (port : Port) (ports : List Port) → word_reading side number word ≡ Ok port → words_reading side (number + 1) words ≡ Ok ports → words_reading side number (word ∷ words) ≡ Ok (port ∷ ports)
as_read side number word words port ports is are = λ i. then_ports (is i) (are i)

-- one word more is a port more
pub words-push : (side : Side) (number : ℕ) (words : List (List ℕ)) (word : List ℕ) (ports : List Port) (port : Port) →
    words_reading side number words ≡ Ok ports → word_reading side (number + length ports) word ≡ Ok port → words_reading side number (words ++ word ∷ []) ≡ Ok (ports ++ port ∷ [])
words-push side number [] word [] port read is = as_read side number word [] port [] (ap (λ n. word_reading side n word) (sym (add-zero number)) ∙ is) refl
words-push side number [] word (other ∷ ports) port read is = absurd (cc)
words-push side number (first ∷ words) word ports port read is =
    let both = read_as side number first words ports read in
    let numbers : (number + 1) + length both.others ≡ number + length ports = omega (arith, ap length both.are) in
    let rest = words-push side (number + 1) words word both.others port both.are_others (ap (λ n. word_reading side n word) numbers ∙ is) in
    as_read side number first (words ++ word ∷ []) both.first (both.others ++ port ∷ []) both.is_first rest ∙ ap (λ ps. Ok (ps ++ port ∷ [])) (sym both.are)

-- a faulty word is the fault of all, whatever follows
pub words-fault : (side : Side) (number : ℕ) (words more : List (List ℕ)) (word : List ℕ) (ports : List Port) (fault : PortFault) →
    words_reading side number words ≡ Ok ports → word_reading side (number + length ports) word ≡ Err fault → words_reading side number (words ++ word ∷ more) ≡ Err fault
words-fault side number [] more word [] fault read is =
    let one = ap (λ n. word_reading side n word) (sym (add-zero number)) ∙ is in ap (λ o. then_ports o (words_reading side (number + 1) more)) one
words-fault side number [] more word (other ∷ ports) fault read is = absurd (cc)
words-fault side number (first ∷ words) more word ports fault read is =
    let both = read_as side number first words ports read in
    let numbers : (number + 1) + length both.others ≡ number + length ports = omega (arith, ap length both.are) in
    let rest = words-fault side (number + 1) words more word both.others fault both.are_others (ap (λ n. word_reading side n word) numbers ∙ is) in
    λ i. then_ports (both.is_first i) (rest i)

-- ---- how many, and which markers

pub few_ports : (side : Side) (number : ℕ) (words : List (List ℕ)) (ports : List Port) → number ≤ 65 → words_reading side number words ≡ Ok ports → number + length ports ≤ 65
few_ports side number [] ports small read = let none = ok_ok [] ports read in omega (arith, ap length none)
few_ports side number (word ∷ words) ports small read =
    let both = read_as side number word words ports read in
    let here = few_words side number word both.first both.is_first in
    let rest = few_ports side (number + 1) words both.others (omega arith) both.are_others in
    omega (arith, ap length both.are, rest)

pub all_marked : (side : Side) (number : ℕ) (words : List (List ℕ)) (ports : List Port) → words_reading side number words ≡ Ok ports → IsTrue (are_marked ports)
all_marked side number [] ports read = subst (λ ps. IsTrue (are_marked ps)) (ok_ok [] ports read) refl
all_marked side number (word ∷ words) ports read =
    let both = read_as side number word words ports read in
    let here = marked_word side number word both.first both.is_first in
    let rest = all_marked side (number + 1) words both.others both.are_others in
    subst (λ ps. IsTrue (are_marked ps)) (sym both.are) (rw here rest)

-- ---- parts of a text

more_parts : (parts : List (List ℕ)) (i : ℕ) (part : List ℕ) (word : Bool) → i < length parts → part ≡ get_or parts i part → is_word part ≡ word →
    filter is_word (take (i + 1) parts) ≡ filter is_word (take i parts) ++ cond word (part ∷ []) []
more_parts parts i part word within is tested =
    filter_more is_word parts i part within ∙ ap (λ p. filter is_word (take i parts) ++ cond (is_word p) (p ∷ []) []) (sym is) ∙ ap (λ b. filter is_word (take i parts) ++ cond b (part ∷ []) []) tested

module _ (side : Side) (parts : List (List ℕ)) (i : ℕ) (part : List ℕ) (ports : List Port) (within : i < length parts) (is : part ≡ get_or parts i part)
    (read : words_reading side 1 (filter is_word (take i parts)) ≡ Ok ports) where
  number : 1 + length ports ≡ length ports + 1
  number = omega arith

  pub parts_skip : is_word part ≡ false → words_reading side 1 (filter is_word (take (i + 1) parts)) ≡ Ok ports
  parts_skip none = ap (words_reading side 1) (more_parts parts i part false within is none ∙ append-nil (filter is_word (take i parts))) ∙ read

  pub parts_more : (port : Port) → is_word part ≡ true → word_reading side (length ports + 1) part ≡ Ok port → words_reading side 1 (filter is_word (take (i + 1) parts)) ≡ Ok (ports ++ port ∷ [])
  parts_more port word one =
      ap (words_reading side 1) (more_parts parts i part true within is word)
      ∙ words-push side 1 (filter is_word (take i parts)) part ports port read (ap (λ n. word_reading side n part) number ∙ one)

  pub parts_fault : (fault : PortFault) → is_word part ≡ true → word_reading side (length ports + 1) part ≡ Err fault → words_reading side 1 (filter is_word parts) ≡ Err fault
  parts_fault fault word one =
      let cut : filter is_word parts ≡ filter is_word (take (i + 1) parts) ++ filter is_word (drop (i + 1) parts) =
      ap (filter is_word) (sym (take-append-drop (i + 1) parts)) ∙ filter-append is_word (take (i + 1) parts) (drop (i + 1) parts) in
      let here : filter is_word parts ≡ filter is_word (take i parts) ++ part ∷ filter is_word (drop (i + 1) parts) =
      cut ∙ ap (λ ws. ws ++ filter is_word (drop (i + 1) parts)) (more_parts parts i part true within is word) ∙ append_assoc (filter is_word (take i parts)) (part ∷ []) (filter is_word (drop (i + 1) parts)) in
      ap (words_reading side 1) here
      ∙ words-fault side 1 (filter is_word (take i parts)) (filter is_word (drop (i + 1) parts)) part ports fault read (ap (λ n. word_reading side n part) number ∙ one)
