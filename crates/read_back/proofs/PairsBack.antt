-- What the pairs of a printed node say: those of its kind, and those that it keeps.
use Rattle.std.proofs.Common.{◌≡◌, ◌≢◌, inl, inr, ℕ, zero, suc, Bool, true, false, cond, not, T, List, [], ◌∷◌, ◌++◌, Option, Some, None, codes, reverse, refl, sym, ap, subst, ◌∙◌}
use Rattle.std.specs.Prelude.{bytes_eq, filter}
use Rattle.std.specs.List.{AllByRecursion}
use Rattle.std.specs.Option.{option_or}
use Rattle.std.specs.FinMap as map
use Rattle.std.specs.FinMap.Entries.{find, is_sorted}
use Rattle.std.proofs.lemmas.Bool.{true≢false}
use Rattle.std.proofs.lemmas.List.{reverse-append}
use Rattle.std.proofs.lemmas.List.Elements.{filter-append}
use Rattle.port_types.specs.declared.side.Side.{Side}
use Rattle.port_types.specs.declared.side.Side.TheVariants.{Ins, Outs}
use Rattle.port_types.specs.PortText.{side_word, marked_ports_text}
use Rattle.components.specs.declared.kind.Kind.{Kind}
use Rattle.components.specs.declared.kind.Kind.TheVariants.{Entry, Exit, Buffer, Fork, Join, Split, Operator, Constant, Source0, Sink0, Pure, Mux, Branch, Merge, CtrlMerge, Init, Tagger}
use Rattle.components.specs.Name.{Name, name_cmp}
use Rattle.components.specs.Node.{Body, IsOwned, is_owned, kept_of}
use Rattle.graph_print.specs.CanonicalText.{PrintedPort, kind_word, own_pairs, side_pairs, printed_side, marked_ports, pairs_of}
use Rattle.graph_read.specs.Attributes.{Pair, last_value}
use Rattle.components.specs.Entries as lists
use Rattle.components.specs.Lookups.{same_test, other_test}
use Rattle.components.specs.Orders.{name_total, name_same, name_cases, same_bytes, other_bytes}
use Rattle.read_back.proofs.Each.{each_append}

-- ---- values of keys

or_none : (o : Option (List ℕ)) → option_or o None ≡ o
or_none None = refl
or_none (Some x) = refl

or_assoc : (o p q : Option (List ℕ)) → option_or (option_or o p) q ≡ option_or o (option_or p q)
or_assoc None p q = refl
or_assoc (Some x) p q = refl

last_value-append : (key : List ℕ) (xs ys : List Pair) → last_value key (xs ++ ys) ≡ option_or (last_value key ys) (last_value key xs)
last_value-append key [] ys = sym (or_none (last_value key ys))
last_value-append key (x ∷ xs) ys =
    ap (λ found. option_or found (cond (bytes_eq x.0 key) (Some x.1) None)) (last_value-append key xs ys)
    ∙ or_assoc (last_value key ys) (last_value key xs) (cond (bytes_eq x.0 key) (Some x.1) None)

-- where no key stands twice, the last pair of a key is the first
last_value-sorted : (key : List ℕ) (pairs : List Pair) → T (is_sorted name_cmp pairs) → last_value key pairs ≡ find name_cmp key pairs
last_value-sorted key [] sorted = refl
last_value-sorted key (pair ∷ pairs) sorted =
    elim (name_cases key pair.0) [
      | inl same ↦
          let later : last_value key pairs ≡ None =
          last_value-sorted key pairs (lists.second _ _ sorted) ∙ ap (λ (k : Name). find name_cmp k pairs) same ∙ lists.find_below name_cmp pair.0 pairs (lists.first _ _ sorted) in
          (λ i. option_or (later i) (cond (same_bytes pair.0 key (sym same) i) (Some pair.1) None))
          ∙ sym (ap (λ t. cond t (Some pair.1) (find name_cmp key pairs)) (same_test name_total name_same key pair.0 same))
      | inr other ↦
          ap (λ (t : Bool). option_or (last_value key pairs) (cond t (Some pair.1) None)) (other_bytes pair.0 key (λ is. other (sym is)))
          ∙ or_none (last_value key pairs) ∙ last_value-sorted key pairs (lists.second _ _ sorted)
          ∙ sym (ap (λ t. cond t (Some pair.1) (find name_cmp key pairs)) (other_test name_total name_same key pair.0 other))
    ]

-- ---- the pairs of a kind

-- the port text of a side, which has none where it has no ports
abbrev pub text_of_side : Side → List PrintedPort → Option (List ℕ)
text_of_side side [] = None
text_of_side side (port ∷ ports) = Some (marked_ports_text side (port ∷ ports))

side_last : (side : Side) (ports : List PrintedPort) → last_value (side_word side) (printed_side side ports) ≡ text_of_side side ports
side_last Ins [] = refl
side_last Ins (port ∷ ports) = refl
side_last Outs [] = refl
side_last Outs (port ∷ ports) = refl

side_other : (key : List ℕ) (side : Side) (ports : List PrintedPort) → key ≢ side_word side → last_value key (printed_side side ports) ≡ None
side_other key side [] other = refl
side_other key side (port ∷ ports) other = ap (λ (t : Bool). cond t (Some (marked_ports_text side (port ∷ ports))) None) (other_bytes (side_word side) key (λ is. other (sym is)))

-- the attributes that the kind alone owns say neither its type nor its ports
own_says_no : (kind : Kind) → (last_value (codes "type") (own_pairs kind) ≡ None) × (last_value (codes "in") (own_pairs kind) ≡ None) × (last_value (codes "out") (own_pairs kind) ≡ None)
own_says_no (Entry shape) = (refl, refl, refl)
own_says_no (Exit shape) = (refl, refl, refl)
own_says_no (Buffer shape) = (refl, refl, refl)
own_says_no (Fork shape count) = (refl, refl, refl)
own_says_no (Join shapes) = (refl, refl, refl)
own_says_no (Split shapes) = (refl, refl, refl)
own_says_no (Operator op widths width) = (refl, refl, refl)
own_says_no (Constant shape width value) = (refl, refl, refl)
own_says_no (Source0 shape) = (refl, refl, refl)
own_says_no (Sink0 shape) = (refl, refl, refl)
own_says_no (Pure fun shape) = (refl, refl, refl)
own_says_no (Mux shape) = (refl, refl, refl)
own_says_no (Branch shape) = (refl, refl, refl)
own_says_no (Merge shape count) = (refl, refl, refl)
own_says_no (CtrlMerge shape count width) = (refl, refl, refl)
own_says_no (Init value zero) = (refl, refl, refl)
own_says_no (Init value (suc mark)) = (refl, refl, refl)
own_says_no (Tagger shape tags) = (refl, refl, refl)

-- the kind owns each key of these pairs
abbrev AreOwned : Kind → List Pair → Type 0
AreOwned kind pairs = AllByRecursion (λ pair. is_owned kind pair.0 ≡ true) pairs

side_owned : (kind : Kind) (side : Side) (ports : List PrintedPort) → AreOwned kind (printed_side side ports)
side_owned kind side [] = tt
side_owned kind Ins (port ∷ ports) = (refl, tt)
side_owned kind Outs (port ∷ ports) = (refl, tt)

own_owned : (kind : Kind) → AreOwned kind (own_pairs kind)
own_owned (Entry shape) = tt
own_owned (Exit shape) = tt
own_owned (Buffer shape) = tt
own_owned (Fork shape count) = tt
own_owned (Join shapes) = tt
own_owned (Split shapes) = tt
own_owned (Operator op widths width) = (refl, tt)
own_owned (Constant shape width value) = (refl, tt)
own_owned (Source0 shape) = tt
own_owned (Sink0 shape) = tt
own_owned (Pure fun shape) = (refl, tt)
own_owned (Mux shape) = tt
own_owned (Branch shape) = tt
own_owned (Merge shape count) = tt
own_owned (CtrlMerge shape count width) = tt
own_owned (Init value zero) = (refl, tt)
own_owned (Init value (suc mark)) = (refl, (refl, tt))
own_owned (Tagger shape tags) = (refl, tt)

-- a key that the kind does not own is not among them
unowned_last : (kind : Kind) (key : List ℕ) (pairs : List Pair) → is_owned kind key ≡ false → AreOwned kind pairs → last_value key pairs ≡ None
unowned_last kind key [] free owned = refl
unowned_last kind key (pair ∷ pairs) free owned =
    let other : pair.0 ≢ key = λ is. true≢false (sym owned.0 ∙ ap (is_owned kind) is ∙ free) in
    (λ i. option_or (unowned_last kind key pairs free owned.1 i) (cond (other_bytes pair.0 key other i) (Some pair.1) None))

module _ (kind : Kind) where
  abbrev first_pair : Pair
  first_pair = (codes "type", kind_word kind)

  abbrev pub front : List Pair
  front = first_pair ∷ side_pairs kind Ins ++ side_pairs kind Outs ++ own_pairs kind

  abbrev IsOwnedPair : Pair → Type 0
  IsOwnedPair pair = is_owned kind pair.0 ≡ true

  front_owned : AreOwned kind front
  front_owned =
      each_append IsOwnedPair (first_pair ∷ side_pairs kind Ins ++ side_pairs kind Outs) (own_pairs kind)
      (each_append IsOwnedPair (first_pair ∷ side_pairs kind Ins) (side_pairs kind Outs) (refl, side_owned kind Ins (marked_ports kind Ins)) (side_owned kind Outs (marked_ports kind Outs))) (own_owned kind)

  -- part by part, from the last
  in_parts : (key : List ℕ) → last_value key front ≡ option_or (last_value key (own_pairs kind)) (option_or (last_value key (side_pairs kind Outs)) (option_or (last_value key (side_pairs kind Ins)) (last_value key (first_pair ∷ []))))
  in_parts key =
      last_value-append key (first_pair ∷ side_pairs kind Ins ++ side_pairs kind Outs) (own_pairs kind)
      ∙ ap (option_or (last_value key (own_pairs kind))) (last_value-append key (first_pair ∷ side_pairs kind Ins) (side_pairs kind Outs) ∙ ap (option_or (last_value key (side_pairs kind Outs))) (last_value-append key (first_pair ∷ []) (side_pairs kind Ins)))

  front_type : last_value (codes "type") front ≡ Some (kind_word kind)
  front_type =
      in_parts (codes "type")
      ∙ (λ i. option_or ((own_says_no kind).0 i) (option_or (side_other (codes "type") Outs (marked_ports kind Outs) (λ e. cc) i) (option_or (side_other (codes "type") Ins (marked_ports kind Ins) (λ e. cc) i) (Some (kind_word kind)))))

  front_ins : last_value (codes "in") front ≡ text_of_side Ins (marked_ports kind Ins)
  front_ins =
      in_parts (codes "in")
      ∙ (λ i. option_or ((own_says_no kind).1 i) (option_or (side_other (codes "in") Outs (marked_ports kind Outs) (λ e. cc) i) (option_or (side_last Ins (marked_ports kind Ins) i) None)))
      ∙ or_none (text_of_side Ins (marked_ports kind Ins))

  front_outs : last_value (codes "out") front ≡ text_of_side Outs (marked_ports kind Outs)
  front_outs =
      in_parts (codes "out")
      ∙ (λ i. option_or ((own_says_no kind).2 i) (option_or (side_last Outs (marked_ports kind Outs) i) (option_or (side_other (codes "out") Ins (marked_ports kind Ins) (λ e. cc) i) None)))
      ∙ or_none (text_of_side Outs (marked_ports kind Outs))

  -- a key of the kind's own, where its own pairs have it
  pub front_own : (key value : List ℕ) → last_value key (own_pairs kind) ≡ Some value → last_value key front ≡ Some value
  front_own key value is = in_parts key ∙ ap (λ o. option_or o (option_or (last_value key (side_pairs kind Outs)) (option_or (last_value key (side_pairs kind Ins)) (last_value key (first_pair ∷ []))))) is

module _ (body : Body) (unowned : (key value : List ℕ) → map.get body.kept key ≡ Some value → ¬ (IsOwned body.kind key)) where
  abbrev kept_pairs : List Pair
  kept_pairs = map.entries body.kept

  none_if : (key : List ℕ) → is_owned body.kind key ≡ true → (found : Option (List ℕ)) → map.get body.kept key ≡ found → found ≡ None
  none_if key owned None is = refl
  none_if key owned (Some value) is = absurd (unowned key value is owned)

  kept_last : (key : List ℕ) → last_value key kept_pairs ≡ map.get body.kept key
  kept_last key = last_value-sorted key kept_pairs (map.entries_sorted body.kept) ∙ sym (map.get-entries body.kept key)

  -- an owned key says what the pairs of the kind say
  pub owned_last : (key : List ℕ) → is_owned body.kind key ≡ true → last_value key (pairs_of body) ≡ last_value key (front body.kind)
  owned_last key owned =
      last_value-append key (front body.kind) kept_pairs
      ∙ ap (λ o. option_or o (last_value key (front body.kind))) (kept_last key ∙ none_if key owned (map.get body.kept key) refl)

  pub says_type : last_value (codes "type") (pairs_of body) ≡ Some (kind_word body.kind)
  says_type = owned_last (codes "type") refl ∙ front_type body.kind

  pub says_ports : (side : Side) → last_value (side_word side) (pairs_of body) ≡ text_of_side side (marked_ports body.kind side)
  says_ports Ins = owned_last (codes "in") refl ∙ front_ins body.kind
  says_ports Outs = owned_last (codes "out") refl ∙ front_outs body.kind

  other_last : (key : List ℕ) → is_owned body.kind key ≡ false → last_value key (pairs_of body) ≡ map.get body.kept key
  other_last key free =
      last_value-append key (front body.kind) kept_pairs
      ∙ (λ i. option_or (kept_last key i) (unowned_last body.kind key (front body.kind) free (front_owned body.kind) i))
      ∙ or_none (map.get body.kept key)

  value_at : (key : List ℕ) (owned : Bool) → is_owned body.kind key ≡ owned → map.get body.kept key ≡ cond owned None (last_value key (pairs_of body))
  value_at key true is = none_if key is (map.get body.kept key) refl
  value_at key false is = sym (other_last key is)

-- ---- what is kept of pairs

none_twice : (b : Bool) → cond {A = Option (List ℕ)} b None None ≡ None
none_twice true = refl
none_twice false = refl

owned_none : (b : Bool) (o p : Option (List ℕ)) → option_or (cond b None o) (cond b None p) ≡ cond b None (option_or o p)
owned_none true o p = refl
owned_none false o p = refl

found_first : (e : Pair) (q : Name) → q ≡ e.0 → find name_cmp q (e ∷ []) ≡ Some e.1
found_first e q is = ap (λ t. cond t (Some e.1) None) (same_test name_total name_same q e.0 is)

found_behind : (e : Pair) (q : Name) → q ≢ e.0 → find name_cmp q (e ∷ []) ≡ None
found_behind e q other = ap (λ t. cond t (Some e.1) None) (other_test name_total name_same q e.0 other)

same_kept : (pair : Pair) (b : Bool) → find name_cmp pair.0 (cond (not b) (pair ∷ []) []) ≡ cond b None (Some pair.1)
same_kept pair true = refl
same_kept pair false = found_first pair pair.0 refl

other_kept : (q : Name) (pair : Pair) → q ≢ pair.0 → (b : Bool) → find name_cmp q (cond (not b) (pair ∷ []) []) ≡ None
other_kept q pair other true = refl
other_kept q pair other false = found_behind pair q other

module _ (kind : Kind) where
  abbrev unowned_of : List Pair → List Pair
  unowned_of pairs = filter (λ p. not (is_owned kind p.0)) pairs

  -- one pair, if the kind does not own it
  OneKept : Pair → Name → Type 0
  OneKept pair q = find name_cmp q (unowned_of (pair ∷ [])) ≡ cond (is_owned kind q) None (cond (bytes_eq pair.0 q) (Some pair.1) None)

  at_its_key : (pair : Pair) → OneKept pair pair.0
  unfolding OneKept
  at_its_key pair = rw (same_bytes pair.0 pair.0 refl) (same_kept pair (is_owned kind pair.0))

  at_another : (pair : Pair) (q : Name) → q ≢ pair.0 → OneKept pair q
  unfolding OneKept
  at_another pair q other = rw (other_bytes pair.0 q (λ is. other (sym is))) (other_kept q pair other (is_owned kind pair.0) ∙ sym (none_twice (is_owned kind q)))

  one_kept : (q : Name) (pair : Pair) → OneKept pair q
  one_kept q pair =
      elim (name_cases q pair.0) [
        | inl same ↦ subst (λ (k : Name). OneKept pair k) (sym same) (at_its_key pair)
        | inr other ↦ at_another pair q other
      ]

  -- what is kept under a key
  pub in_reverse : (q : Name) (pairs : List Pair) → find name_cmp q (unowned_of (reverse pairs)) ≡ cond (is_owned kind q) None (last_value q pairs)
  unfolding OneKept
  in_reverse q [] = sym (none_twice (is_owned kind q))
  in_reverse q (pair ∷ pairs) =
      ap (λ (ps : List Pair). find name_cmp q (unowned_of ps)) (reverse-append (pair ∷ []) pairs)
      ∙ ap (find name_cmp q) (filter-append (λ p. not (is_owned kind p.0)) (reverse pairs) (pair ∷ []))
      ∙ lists.find-append name_cmp q (unowned_of (reverse pairs)) (unowned_of (pair ∷ []))
      ∙ (λ i. option_or (in_reverse q pairs i) (one_kept q pair i))
      ∙ owned_none (is_owned kind q) (last_value q pairs) (cond (bytes_eq pair.0 q) (Some pair.1) None)

pub keeps : (body : Body) → ((key value : List ℕ) → map.get body.kept key ≡ Some value → ¬ (IsOwned body.kind key)) → kept_of body.kind (pairs_of body) ≡ body.kept
keeps body unowned =
    map.same_map name_total name_same (kept_of body.kind (pairs_of body)) body.kept (λ q.
    map.get-from_entries name_total _ q ∙ in_reverse body.kind q (pairs_of body) ∙ sym (value_at body unowned q (is_owned body.kind q) refl))
