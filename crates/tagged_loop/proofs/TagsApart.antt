-- In every state that a circuit reaches, the tags on a tagged loop's ring are apart.
use Rattle.std.proofs.Common.{◌≡◌, ◌≢◌, ℕ, zero, suc, ◌+◌, ◌<◌, ◌≤◌, inl, inr, refl, sym, ap, subst, ◌∙◌, length, map, List, [], ◌∷◌, ◌++◌, Bool, Option, Some, None, arith, append-nil}
use Rattle.std.proofs.lemmas.Bool.Decides.{eqb_tells}
use Rattle.std.specs.List.{AllByRecursion}
use Rattle.port_types.specs.Token.{Fits}
use Rattle.port_types.specs.Tag.{tag_width}
use Rattle.components.specs.declared.kind.Kind.TheVariants.{Split, Branch, Merge, Tagger}
use Rattle.components.specs.Kind.{Shape}
use Rattle.circuits.specs.Values.{ValuesFit}
use Rattle.circuits.specs.PortTokens.{Token}
use Rattle.circuits.specs.CircuitState.{Slot, CircuitState, start, IsStateOf}
use Rattle.circuits.specs.Circuit.{Circuit, Typed}
use Rattle.circuits.specs.Run.{Run, Move}
use Rattle.circuits.proofs.Lists.{each_append, each_right}
use Rattle.tagged_loop.specs.Ring.{port_of, RingNames, HasRing, on_ring, first_of, AreDifferent, HasWaiting, IsOfWaiting, TagsApart}
use Rattle.tagged_loop.proofs.RingItems.{hit, open_count, hit_self, hit_other, open_le}
use Rattle.tagged_loop.proofs.TagRing.{hits, hits_append, total, Counted, reached}

none_hit : (t : ℕ) (vs : List Token) → hits t vs ≡ 0 → AllByRecursion (λ u. u ≢ t) (map first_of vs)
none_hit t [] e = tt
none_hit t (v ∷ vs) e =
    let o : hit t (first_of v) ≡ 0 = omega (arith, e) in
    let z : hits t vs ≡ 0 = omega (arith, e) in (
      λ is. let k : hit t t ≡ 0 = ap (hit t) (sym is) ∙ o in let s : hit t t ≡ 1 = hit_self t in absurd (omega (arith, k, s)),
      none_hit t vs z,
    )

different_of : (vs : List Token) → ((t : ℕ) → hits t vs ≤ 1) → AreDifferent (map first_of vs)
different_of [] h = tt
different_of (v ∷ vs) h =
    let one : hit (first_of v) (first_of v) ≡ 1 = hit_self (first_of v) in
    let most = h (first_of v) in
    (none_hit (first_of v) vs (omega (arith, one, most)), different_of vs (λ t. let k = h t in omega (arith, k)))

more_open : (t : ℕ) (x : Slot) (xs : List Slot) → HasWaiting xs t → HasWaiting (x ∷ xs) t
more_open t x xs h = record { older = x ∷ h.older; newer = h.newer; is = ap (λ z. x ∷ z) h.is }

find_at : (t u : ℕ) (o : Option Token) (xs : List Slot) → 1 ≤ open_count t (record { tag = u; result = o } ∷ xs) → (1 ≤ open_count t xs → HasWaiting xs t) → HasWaiting (record { tag = u; result = o } ∷ xs) t
find_at t u (Some v) xs h k = more_open t (record { tag = u; result = Some v }) xs (k (omega (arith, h)))
find_at t u None xs h k =
    elim (eqb_tells t u) [
      | inl e ↦ record { older = []; newer = xs; is = λ j. record { tag = sym e.1 j; result = None } ∷ xs }
      | inr e ↦ let z : hit t u ≡ 0 = hit_other t u e.1 in more_open t (record { tag = u; result = None }) xs (k (omega (arith, h, z)))
    ]

find_open : (t : ℕ) (xs : List Slot) → 1 ≤ open_count t xs → HasWaiting xs t
find_open t [] h = absurd (omega (arith, h))
find_open t (x ∷ xs) h = find_at t x.tag x.result xs h (find_open t xs)

open_of : (w : ℕ) (a : Shape) (slots : List Slot) (vs : List Token) → AllByRecursion (Fits (w ∷ a)) vs → ((t : ℕ) → hits t vs ≤ open_count t slots) → AllByRecursion (IsOfWaiting slots) vs
open_of w a slots [] fit h = tt
open_of w a slots ([] ∷ vs) fit h = absurd fit.0
open_of w a slots ((t ∷ v) ∷ vs) fit h =
    let one : hit t t ≡ 1 = hit_self t in
    let some = h t in (
      record { tag = t; value = v; is = refl; slot = find_open t slots (omega (arith, one, some)) },
      open_of w a slots vs fit.1 (λ q. let k = h q in omega (arith, k)),
    )

-- at most n tokens, where each has a tag below n and no tag stands twice
abbrev sum_hit : ℕ → ℕ → ℕ
sum_hit zero t = 0
sum_hit (suc k) t = hit k t + sum_hit k t

abbrev sum_hits : ℕ → List Token → ℕ
sum_hits zero vs = 0
sum_hits (suc k) vs = hits k vs + sum_hits k vs

sum_cons : (n : ℕ) (v : Token) (vs : List Token) → sum_hits n (v ∷ vs) ≡ sum_hit n (first_of v) + sum_hits n vs
sum_cons zero v vs = omega arith
sum_cons (suc k) v vs = omega (arith, sum_cons k v vs)

sum_below : (n t : ℕ) → t < n → 1 ≤ sum_hit n t
sum_below zero t lt = absurd (omega (arith, lt))
sum_below (suc k) t lt =
    elim (eqb_tells k t) [
      | inl e ↦ let z : hit k t ≡ 1 = ap (hit k) (sym e.1) ∙ hit_self k in omega (arith, z)
      | inr e ↦ let r : t < k = lower k t lt (λ is. e.1 (sym is)) in let z = sum_below k t r in omega (arith, z)
    ]
  where
    lower : (k t : ℕ) → t < suc k → t ≢ k → t < k
    lower k t lt ne = omega (arith, lt, ne)

sum_few : (n : ℕ) (vs : List Token) → ((t : ℕ) → hits t vs ≤ 1) → sum_hits n vs ≤ n
sum_few zero vs h = omega arith
sum_few (suc k) vs h = let one = h k in let rest = sum_few k vs h in omega (arith, one, rest)

sum_length : (n : ℕ) (vs : List Token) → AllByRecursion (λ v. first_of v < n) vs → length vs ≤ sum_hits n vs
sum_length n [] h = omega arith
sum_length n (v ∷ vs) h =
    let one = sum_below n (first_of v) h.0 in
    let rest = sum_length n vs h.1 in
    let e = sum_cons n v vs in
    omega (arith, one, rest, e)

tags_below : (n : ℕ) (slots : List Slot) → AllByRecursion (λ y. y.tag < n) slots → (vs : List Token) → AllByRecursion (IsOfWaiting slots) vs → AllByRecursion (λ v. first_of v < n) vs
tags_below n slots below [] h = tt
tags_below n slots below (v ∷ vs) h =
    let o = h.0 in
    let all : AllByRecursion (λ (y : Slot). y.tag < n) (o.slot.older ++ record { tag = o.tag; result = None } ∷ o.slot.newer) = subst (AllByRecursion (λ y. y.tag < n)) o.slot.is below in
    let right : AllByRecursion (λ (y : Slot). y.tag < n) (record { tag = o.tag; result = None } ∷ o.slot.newer) = each_right (λ (y : Slot). y.tag < n) o.slot.older _ all in
    (subst (λ z. first_of z < n) (sym o.is) right.0, tags_below n slots below vs h.1)

module _ (c : Circuit) (x : RingNames) (a : Shape) (d : Bool) (n : ℕ) (has : HasRing c x a d n) where
  ring_hits : (s : CircuitState) (t : ℕ) → hits t (on_ring x s) ≤ total t x s
  ring_hits s t =
      let p = s.wires (port_of x.merge 1) in
      let q = s.wires (port_of x.tag 1) in
      let r = s.wires (port_of x.branch 1) in
      let b = s.wires (port_of x.merge 2) in
      let g = s.wires (port_of x.tagger 2) in
      let e1 = hits_append t p (q ++ (r ++ (b ++ g))) in
      let e2 = hits_append t q (r ++ (b ++ g)) in
      let e3 = hits_append t r (b ++ g) in
      let e4 = hits_append t b g in
      omega (arith, e1, e2, e3, e4)

  ring_fits : (s : CircuitState) → IsStateOf c s → AllByRecursion (Fits (tag_width n ∷ a)) (on_ring x s)
  ring_fits s fit =
      let F : Token → Type 0 = Fits (tag_width n ∷ a) in
      each_append F (s.wires (port_of x.merge 1)) _ (fit.wires (port_of x.merge 1) (Merge (tag_width n ∷ a) 2) (tag_width n ∷ a) has.is_merge refl)
      (each_append F (s.wires (port_of x.tag 1)) _ (subst (λ z. AllByRecursion (Fits (tag_width n ∷ z)) (s.wires (port_of x.tag 1))) (append-nil a) (fit.wires (port_of x.tag 1) (Split ((tag_width n ∷ []) ∷ a ∷ [])) (tag_width n ∷ (a ++ [])) has.is_tag refl))
      (each_append F (s.wires (port_of x.branch 1)) _ (fit.wires (port_of x.branch 1) (Branch (tag_width n ∷ a)) (tag_width n ∷ a) has.is_branch refl)
      (each_append F (s.wires (port_of x.merge 2)) _ (fit.wires (port_of x.merge 2) (Merge (tag_width n ∷ a) 2) (tag_width n ∷ a) has.is_merge refl)
      (fit.wires (port_of x.tagger 2) (Tagger a n) (tag_width n ∷ a) has.is_tagger refl))))

  pub tags_apart : ValuesFit → Typed c → (ms : List Move) (s : CircuitState) → Run c (start c) ms s → TagsApart n x s
  tags_apart values ty ms s run =
      let both = reached c x a d n has values ty ms s run in
      let fit : IsStateOf c s = both.0 in
      let counted : Counted n x s = both.1 in
      let once : (t : ℕ) → hits t (on_ring x s) ≤ 1 =
      λ t. let p = ring_hits s t in let q = counted.counts t in let r = open_le t (s.slots x.tagger) in let k = counted.once t in omega (arith, p, q, r, k) in
      let of_open : AllByRecursion (IsOfWaiting (s.slots x.tagger)) (on_ring x s) =
      open_of (tag_width n) a (s.slots x.tagger) (on_ring x s) (ring_fits s fit) (λ t. let p = ring_hits s t in let q = counted.counts t in omega (arith, p, q)) in
      record {
        different = different_of (on_ring x s) once;
        of_waiting = of_open;
        few =
            let l = sum_length n (on_ring x s) (tags_below n (s.slots x.tagger) counted.below (on_ring x s) of_open) in
            let k = sum_few n (on_ring x s) once in
            omega (arith, l, k);
      }
