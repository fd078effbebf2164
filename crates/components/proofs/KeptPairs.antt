-- What a node keeps of pairs: in the order of keys, with different keys, and all of pairs that it may keep.
use Rattle.std.proofs.Common.{◌≡◌, ◌≢◌, inl, inr, ℕ, suc, ◌+◌, ◌<◌, ◌≤◌, Bool, true, false, cond, not, List, [], ◌∷◌, ◌++◌, length, map, take, reverse, get_or, Some, None, Bor, refl, sym, ap, subst, ◌∙◌, arith, true≢false}
use Rattle.std.specs.Prelude.{filter}
use Rattle.std.specs.List.{AllPairs}
use Rattle.std.specs.BTreeMap.{insert_entry}
use Rattle.std.specs.FinMap.{empty, entries, entries_sorted, entries-insert, find, from_entries, from_entries_push, get, get-from_entries, insert, len-empty, len-entries}
use Rattle.std.specs.FinMap.Entries.{put}
use Rattle.std.proofs.lemmas.Bool.{false_from_ne_true, not-true}
use Rattle.std.proofs.lemmas.List.{reverse-append, map-id, take_more, take_all, nil_from_length}
use Rattle.std.proofs.lemmas.List.Elements.{All-contains, All-weaker, filter-append, filter_passes}
use Rattle.components.specs.declared.kind.Kind.{Kind}
use Rattle.components.specs.Name.{name_cmp}
use Rattle.components.specs.Node.{IsOwned, KeptOk, is_owned, kept_of}
use Rattle.components.proofs.Alike.{Pair}
use Rattle.components.specs.ByKey.{Matches, Matches-insert, Matches-values, ref_cmp}
use Rattle.components.proofs.Maps.{contains_found, each_found, keys_apart}
use Rattle.components.proofs.Options.{answer_cases}
use Rattle.components.specs.Orders.{name_total, name_same}

-- the pairs of a tree are the entries, under their keys
abbrev pub ArePairs : List (Bor (List ℕ) × Bor Pair) → List Pair → Type 0
ArePairs = Matches (λ (pair : Bor Pair). pair.now) (λ (e : Pair). e)

module _ (kind : Kind) where
  abbrev is_kept : Pair → Bool
  is_kept pair = not (is_owned kind pair.0)

  -- ---- pair by pair

  kept_of-push : (pairs : List Pair) (pair : Pair) → kept_of kind (pairs ++ pair ∷ []) ≡ cond (is_owned kind pair.0) (kept_of kind pairs) (insert (kept_of kind pairs) pair.0 pair.1)
  kept_of-push pairs pair = ap (λ ps. from_entries {R = name_cmp} (filter is_kept ps)) (reverse-append pairs (pair ∷ [])) ∙ at (is_owned kind pair.0)
    where
      at : (b : Bool) → from_entries {R = name_cmp} (cond (not b) (pair ∷ filter is_kept (reverse pairs)) (filter is_kept (reverse pairs))) ≡ cond b (kept_of kind pairs) (insert (kept_of kind pairs) pair.0 pair.1)
      at true = refl
      at false = refl

  -- what is kept of the first i pairs
  abbrev pub so_far : List Pair → ℕ → List Pair
  so_far pairs i = entries (kept_of kind (take i pairs))

  so_far-more : (pairs : List Pair) (i : ℕ) (d : Pair) → i < length pairs → (b : Bool) → is_owned kind (get_or pairs i d).0 ≡ b
      → so_far pairs (i + 1) ≡ entries (cond b (kept_of kind (take i pairs)) (insert (kept_of kind (take i pairs)) (get_or pairs i d).0 (get_or pairs i d).1))
  so_far-more pairs i d within b is =
      ap (λ ps. entries (kept_of kind ps)) (take_more pairs i d within) ∙ ap entries (kept_of-push (take i pairs) (get_or pairs i d))
      ∙ ap (λ c. entries (cond c (kept_of kind (take i pairs)) (insert (kept_of kind (take i pairs)) (get_or pairs i d).0 (get_or pairs i d).1))) is

  pub so_far-none : (pairs : List Pair) → so_far pairs 0 ≡ []
  so_far-none pairs = nil_from_length _ (sym (len-entries (empty {R = name_cmp})) ∙ len-empty name_cmp (List ℕ))

  pub so_far-all : (pairs : List Pair) (i : ℕ) → length pairs ≤ i → so_far pairs i ≡ entries (kept_of kind pairs)
  so_far-all pairs i past = ap (λ ps. entries (kept_of kind ps)) (take_all i pairs past)

  -- a pair whose key the kind owns is passed over
  pub so_far-owned : (pairs : List Pair) (i : ℕ) (d : Pair) → i < length pairs → is_owned kind (get_or pairs i d).0 ≡ true → so_far pairs (i + 1) ≡ so_far pairs i
  so_far-owned pairs i d within owned = so_far-more pairs i d within true owned

  -- any other is put at its key
  pub ArePairs-more : (pairs : List Pair) (i : ℕ) (d : Pair) (key : Bor (List ℕ)) (pair : Bor Pair) (xs : List (Bor (List ℕ) × Bor Pair)) → i < length pairs
      → pair.now ≡ get_or pairs i d → key.now ≡ pair.now.0 → is_owned kind key.now ≡ false → ArePairs xs (so_far pairs i) → ArePairs (insert_entry ref_cmp xs key pair) (so_far pairs (i + 1))
  ArePairs-more pairs i d key pair xs within is_pair is_key free m =
      let next = get_or pairs i d in
      let at_key : next.0 ≡ key.now = sym (is_key ∙ ap (λ (p : Pair). p.0) is_pair) in
      let more : so_far pairs (i + 1) ≡ put name_cmp key.now next.1 (so_far pairs i) =
      so_far-more pairs i d within false (ap (is_owned kind) at_key ∙ free) ∙ entries-insert name_total (kept_of kind (take i pairs)) next.0 next.1 ∙ ap (λ k. put name_cmp k next.1 (so_far pairs i)) at_key in
      subst (ArePairs (insert_entry ref_cmp xs key pair)) (sym more)
      (Matches-insert (λ (p : Bor Pair). p.now) (λ (e : Pair). e) key pair next.1 (is_pair ∙ ap (λ k. (k, next.1)) at_key) xs (so_far pairs i) m)

  pub in_order : (pairs : List Pair) (i : ℕ) (xs : List (Bor (List ℕ) × Bor Pair)) (kept : List (Bor Pair)) → length pairs ≤ i → ArePairs xs (so_far pairs i) → kept ≡ map (λ x. x.1) xs → map (λ (p : Bor Pair). p.now) kept ≡ entries (kept_of kind pairs)
  in_order pairs i xs kept past m is =
      ap (map (λ (p : Bor Pair). p.now)) is ∙ Matches-values (λ (p : Bor Pair). p.now) (λ (e : Pair). e) xs (so_far pairs i) m ∙ map-id (so_far pairs i) ∙ so_far-all pairs i past

  -- ---- a node may keep them

  not_owned : (pair : Pair) → is_kept pair ≡ true → ¬ (IsOwned kind pair.0)
  not_owned pair kept owned = true≢false (sym owned ∙ not-true (is_owned kind pair.0) kept)

  entry_unowned : (pairs : List Pair) (e : Pair) → get (kept_of kind pairs) e.0 ≡ Some e.1 → ¬ (IsOwned kind e.0)
  entry_unowned pairs e found =
      let free = filter is_kept (reverse pairs) in
      let there = contains_found name_total name_same free e.0 e.1 (sym (get-from_entries name_total free e.0) ∙ found) in
      not_owned e (All-contains (λ p. is_kept p ≡ true) free (e.0, e.1) (filter_passes is_kept (reverse pairs)) there)

  pub KeptOk-kept_of : (pairs : List Pair) → KeptOk kind (entries (kept_of kind pairs))
  KeptOk-kept_of pairs =
      let each = All-weaker (λ e. get (kept_of kind pairs) e.0 ≡ Some e.1) (λ e. ¬ (IsOwned kind e.0)) (entry_unowned pairs) (entries (kept_of kind pairs)) (each_found name_total name_same (kept_of kind pairs)) in
      record { distinct = keys_apart name_total name_same (entries (kept_of kind pairs)) (entries_sorted (kept_of kind pairs)); unowned = each }

  -- ---- pairs that it may keep are all kept

  find_none : (pair : Pair) (pairs : List Pair) → AllPairs (λ a b. a.0 ≢ b.0) (pair ∷ pairs) → find name_cmp pair.0 pairs ≡ None
  find_none pair pairs distinct =
      elim (answer_cases (find name_cmp pair.0 pairs)) [
        | inl found ↦
            let there = contains_found name_total name_same pairs pair.0 found.0 found.1 in
            absurd (distinct 0 (suc there.0) (pair.0, found.0) (omega arith) (omega (arith, there.1)) (ap (λ (p : Pair). p.0) (sym there.2)))
        | inr none ↦ none
      ]

  pub kept_of-all : (pairs : List Pair) → KeptOk kind pairs → kept_of kind pairs ≡ from_entries pairs
  kept_of-all [] ok = refl
  kept_of-all (pair ∷ pairs) ok =
      let rest = filter is_kept (reverse pairs) in
      let same = kept_of-all pairs (record { distinct = λ i j d less within. ok.distinct (suc i) (suc j) d (omega arith) (omega arith); unowned = λ k d within. ok.unowned (suc k) d (omega arith) }) in
      let free : is_owned kind pair.0 ≡ false = false_from_ne_true (is_owned kind pair.0) (ok.unowned 0 pair (omega arith)) in
      let none = sym (get-from_entries name_total rest pair.0) ∙ ap (λ m. get m pair.0) same ∙ get-from_entries name_total pairs pair.0 ∙ find_none pair pairs ok.distinct in
      ap (λ ps. from_entries {R = name_cmp} (filter is_kept ps)) (reverse-append (pair ∷ []) pairs)
      ∙ ap (λ ps. from_entries {R = name_cmp} ps) (filter-append is_kept (reverse pairs) (pair ∷ []))
      ∙ ap (λ b. from_entries {R = name_cmp} (rest ++ cond (not b) (pair ∷ []) [])) free
      ∙ from_entries_push name_total name_same rest pair.0 pair.1 none
      ∙ ap (λ m. insert m pair.0 pair.1) same
