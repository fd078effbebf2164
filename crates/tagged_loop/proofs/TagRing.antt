-- The tags on the ring of a tagged loop, in any circuit and with any body.
use Rattle.std.proofs.Common.{◌≡◌, ◌≢◌, ℕ, zero, suc, ◌+◌, ◌<◌, ◌≤◌, ◌⊎◌, inl, inr, refl, sym, ap, subst, ◌∙◌, true, false, Bool, map, List, [], ◌∷◌, ◌++◌, Some, None, arith}
use Rattle.std.proofs.lemmas.Bool.Decides.{eqb_tells}
use Rattle.std.specs.List.{concat, AllByRecursion}
use Rattle.std.proofs.lemmas.Option.{same_Some}
use Rattle.port_types.specs.Token.{Fits}
use Rattle.port_types.specs.Tag.{tag_width}
use Rattle.components.specs.declared.kind.Kind.{Kind}
use Rattle.components.specs.declared.kind.Kind.TheVariants.{Join, Split, Branch, Merge, Tagger}
use Rattle.components.specs.Name.{Name, Port}
use Rattle.components.specs.Kind.{Shape}
use Rattle.circuits.specs.Values.{ValuesFit}
use Rattle.circuits.specs.PortTokens.{Token, at_port, share, share_from, one}
use Rattle.circuits.specs.Firing.{Label, Label.Feed, Label.Take, Label.Fire, Acts}
use Rattle.circuits.specs.CircuitState.{Slot, HasNoTag, CircuitState, start, initial, IsStateOf}
use Rattle.circuits.specs.Circuit.{Circuit, kind_of, Typed}
use Rattle.circuits.specs.Run.{Step, Run, Move}
use Rattle.circuits.proofs.Names.{name_cases}
use Rattle.circuits.proofs.Steps.{acts_at, share_same, share_other}
use Rattle.circuits.proofs.Fitting.{step_fits, start_fits}
use Rattle.circuits.proofs.Lists.{each_append, each_left, each_right}
use Rattle.tagged_loop.specs.Ring.{port_of, RingNames, HasRing, first_of}
use Rattle.loop_laws.specs.Polarity.{back_out, exit_out}
use Rattle.tagged_loop.proofs.RingItems.{hit, tag_count, open_count, hit_other, hit_le, tag_append, open_append, no_tag_count, two_of, two_long, one_of}

-- how often a tag stands among tokens
abbrev pub hits : ℕ → List Token → ℕ
hits t [] = 0
hits t (v ∷ vs) = hit t (first_of v) + hits t vs

pub hits_append : (t : ℕ) (xs ys : List Token) → hits t (xs ++ ys) ≡ hits t xs + hits t ys
hits_append t [] ys = omega arith
hits_append t (x ∷ xs) ys = omega (arith, hits_append t xs ys)

once_more : (t q : ℕ) (xs : List Slot) → HasNoTag t xs → tag_count q xs ≤ 1 → tag_count q xs + (hit q t + 0) ≤ 1
once_more t q xs free h =
    elim (eqb_tells q t) [
      | inl e ↦
          let z : tag_count q xs ≡ 0 = ap (λ p. tag_count p xs) e.1 ∙ no_tag_count t xs free in
          let l : hit q t ≤ 1 = hit_le q t in
          omega (arith, z, l)
      | inr e ↦ let z : hit q t ≡ 0 = hit_other q t e.1 in omega (arith, z, h)
    ]

abbrev pub total : ℕ → RingNames → CircuitState → ℕ
total t x s =
    hits t (s.wires (port_of x.merge 1)) + hits t (s.wires (port_of x.merge 2)) + hits t (s.wires (port_of x.tag 1)) + hits t (s.wires (port_of x.retag 1)) + hits t (s.wires (port_of x.branch 1)) + hits t (s.wires (port_of x.tagger 2))

-- each slot without a result has one tuple on the ring, and no tag stands in two slots
pub record Counted (n : ℕ) (x : RingNames) (s : CircuitState) : Type 0 where
  pub counts : (t : ℕ) → total t x s ≡ open_count t (s.slots x.tagger)
  pub once : (t : ℕ) → tag_count t (s.slots x.tagger) ≤ 1
  pub below : AllByRecursion (λ y. y.tag < n) (s.slots x.tagger)

module _ (c : Circuit) (x : RingNames) (a : Shape) (d : Bool) (n : ℕ) (has : HasRing c x a d n) where
  apart : (p q : Name) (k j : Kind) → c.kind_at p ≡ Some k → c.kind_at q ≡ Some j → (k ≡ j → ⊥) → p ≢ q
  apart p q k j e f ne is = ne (same_Some k j (sym e ∙ ap c.kind_at is ∙ f))

  tagger_merge : x.tagger ≢ x.merge
  tagger_merge = apart x.tagger x.merge (Tagger a n) (Merge (tag_width n ∷ a) 2) has.is_tagger has.is_merge (λ e. cc)

  tagger_tag : x.tagger ≢ x.tag
  tagger_tag = apart x.tagger x.tag (Tagger a n) (Split ((tag_width n ∷ []) ∷ a ∷ [])) has.is_tagger has.is_tag (λ e. cc)

  tagger_retag : x.tagger ≢ x.retag
  tagger_retag = apart x.tagger x.retag (Tagger a n) (Join ((tag_width n ∷ []) ∷ a ∷ [])) has.is_tagger has.is_retag (λ e. cc)

  tagger_branch : x.tagger ≢ x.branch
  tagger_branch = apart x.tagger x.branch (Tagger a n) (Branch (tag_width n ∷ a)) has.is_tagger has.is_branch (λ e. cc)

  merge_tagger : x.merge ≢ x.tagger
  merge_tagger = apart x.merge x.tagger (Merge (tag_width n ∷ a) 2) (Tagger a n) has.is_merge has.is_tagger (λ e. cc)

  merge_tag : x.merge ≢ x.tag
  merge_tag = apart x.merge x.tag (Merge (tag_width n ∷ a) 2) (Split ((tag_width n ∷ []) ∷ a ∷ [])) has.is_merge has.is_tag (λ e. cc)

  merge_retag : x.merge ≢ x.retag
  merge_retag = apart x.merge x.retag (Merge (tag_width n ∷ a) 2) (Join ((tag_width n ∷ []) ∷ a ∷ [])) has.is_merge has.is_retag (λ e. cc)

  merge_branch : x.merge ≢ x.branch
  merge_branch = apart x.merge x.branch (Merge (tag_width n ∷ a) 2) (Branch (tag_width n ∷ a)) has.is_merge has.is_branch (λ e. cc)

  tag_tagger : x.tag ≢ x.tagger
  tag_tagger = apart x.tag x.tagger (Split ((tag_width n ∷ []) ∷ a ∷ [])) (Tagger a n) has.is_tag has.is_tagger (λ e. cc)

  tag_merge : x.tag ≢ x.merge
  tag_merge = apart x.tag x.merge (Split ((tag_width n ∷ []) ∷ a ∷ [])) (Merge (tag_width n ∷ a) 2) has.is_tag has.is_merge (λ e. cc)

  tag_retag : x.tag ≢ x.retag
  tag_retag = apart x.tag x.retag (Split ((tag_width n ∷ []) ∷ a ∷ [])) (Join ((tag_width n ∷ []) ∷ a ∷ [])) has.is_tag has.is_retag (λ e. cc)

  tag_branch : x.tag ≢ x.branch
  tag_branch = apart x.tag x.branch (Split ((tag_width n ∷ []) ∷ a ∷ [])) (Branch (tag_width n ∷ a)) has.is_tag has.is_branch (λ e. cc)

  retag_tagger : x.retag ≢ x.tagger
  retag_tagger = apart x.retag x.tagger (Join ((tag_width n ∷ []) ∷ a ∷ [])) (Tagger a n) has.is_retag has.is_tagger (λ e. cc)

  retag_merge : x.retag ≢ x.merge
  retag_merge = apart x.retag x.merge (Join ((tag_width n ∷ []) ∷ a ∷ [])) (Merge (tag_width n ∷ a) 2) has.is_retag has.is_merge (λ e. cc)

  retag_tag : x.retag ≢ x.tag
  retag_tag = apart x.retag x.tag (Join ((tag_width n ∷ []) ∷ a ∷ [])) (Split ((tag_width n ∷ []) ∷ a ∷ [])) has.is_retag has.is_tag (λ e. cc)

  retag_branch : x.retag ≢ x.branch
  retag_branch = apart x.retag x.branch (Join ((tag_width n ∷ []) ∷ a ∷ [])) (Branch (tag_width n ∷ a)) has.is_retag has.is_branch (λ e. cc)

  branch_tagger : x.branch ≢ x.tagger
  branch_tagger = apart x.branch x.tagger (Branch (tag_width n ∷ a)) (Tagger a n) has.is_branch has.is_tagger (λ e. cc)

  branch_merge : x.branch ≢ x.merge
  branch_merge = apart x.branch x.merge (Branch (tag_width n ∷ a)) (Merge (tag_width n ∷ a) 2) has.is_branch has.is_merge (λ e. cc)

  branch_tag : x.branch ≢ x.tag
  branch_tag = apart x.branch x.tag (Branch (tag_width n ∷ a)) (Split ((tag_width n ∷ []) ∷ a ∷ [])) has.is_branch has.is_tag (λ e. cc)

  branch_retag : x.branch ≢ x.retag
  branch_retag = apart x.branch x.retag (Branch (tag_width n ∷ a)) (Join ((tag_width n ∷ []) ∷ a ∷ [])) has.is_branch has.is_retag (λ e. cc)

  -- what a step changes on a wire
  module _ (s : CircuitState) (m : Name) (l : Label) (u : CircuitState) (st : Step c s m l u) where
    wire_change : (t : ℕ) (p q : Port) → c.feeder p ≡ Some q → hits t (u.wires p) + hits t (share m st.taken p) ≡ hits t (s.wires p) + hits t (share m st.given q)
    wire_change t p q f =
        let e : hits t (s.wires p) ≡ hits t (share m st.taken p) + hits t (st.between p) = ap (hits t) (st.takes p) ∙ hits_append t (share m st.taken p) (st.between p) in
        let g : hits t (u.wires p) ≡ hits t (st.between p) + hits t (share m st.given q) =
        ap (hits t) (st.gives p ∙ ap (λ o. st.between p ++ share_from m st.given o) f) ∙ hits_append t (st.between p) (share m st.given q) in
        omega (arith, e, g)

    sum_change : (t : ℕ) →
        total t x u + (hits t (share m st.taken (port_of x.merge 1)) + hits t (share m st.taken (port_of x.merge 2)) + hits t (share m st.taken (port_of x.tag 1)) + hits t (share m st.taken (port_of x.retag 1)) + hits t (share m st.taken (port_of x.branch 1)) + hits t (share m st.taken (port_of x.tagger 2)))
        ≡ total t x s + (hits t (share m st.given (port_of x.tagger 1)) + hits t (share m st.given (port_of x.branch (back_out d))) + hits t (share m st.given (port_of x.merge 1)) + hits t (share m st.given (port_of x.tag 1)) + hits t (share m st.given (port_of x.retag 1)) + hits t (share m st.given (port_of x.branch (exit_out d))))
    sum_change t =
        let e0 = wire_change t (port_of x.merge 1) (port_of x.tagger 1) has.into_merge in
        let e1 = wire_change t (port_of x.merge 2) (port_of x.branch (back_out d)) has.back_merge in
        let e2 = wire_change t (port_of x.tag 1) (port_of x.merge 1) has.into_tag in
        let e3 = wire_change t (port_of x.retag 1) (port_of x.tag 1) has.into_retag in
        let e4 = wire_change t (port_of x.branch 1) (port_of x.retag 1) has.into_branch in
        let e5 = wire_change t (port_of x.tagger 2) (port_of x.branch (exit_out d)) has.into_tagger in
        omega (arith, e0, e1, e2, e3, e4, e5)

  tagger_change : (s : CircuitState) (l : Label) (u : CircuitState) (st : Step c s x.tagger l u) (t : ℕ) →
      total t x u + (hits t (at_port st.taken 2)) ≡ total t x s + (hits t (at_port st.given 1))
  tagger_change s l u st t =
      let all = sum_change s x.tagger l u st t in
      let t0 : hits t (share x.tagger st.taken (port_of x.merge 1)) ≡ 0 = ap (hits t) (share_other x.tagger st.taken (port_of x.merge 1) merge_tagger) in
      let g0 : hits t (share x.tagger st.given (port_of x.tagger 1)) ≡ hits t (at_port st.given 1) = ap (hits t) (share_same x.tagger st.given (port_of x.tagger 1) refl) in
      let t1 : hits t (share x.tagger st.taken (port_of x.merge 2)) ≡ 0 = ap (hits t) (share_other x.tagger st.taken (port_of x.merge 2) merge_tagger) in
      let g1 : hits t (share x.tagger st.given (port_of x.branch (back_out d))) ≡ 0 = ap (hits t) (share_other x.tagger st.given (port_of x.branch (back_out d)) branch_tagger) in
      let t2 : hits t (share x.tagger st.taken (port_of x.tag 1)) ≡ 0 = ap (hits t) (share_other x.tagger st.taken (port_of x.tag 1) tag_tagger) in
      let g2 : hits t (share x.tagger st.given (port_of x.merge 1)) ≡ 0 = ap (hits t) (share_other x.tagger st.given (port_of x.merge 1) merge_tagger) in
      let t3 : hits t (share x.tagger st.taken (port_of x.retag 1)) ≡ 0 = ap (hits t) (share_other x.tagger st.taken (port_of x.retag 1) retag_tagger) in
      let g3 : hits t (share x.tagger st.given (port_of x.tag 1)) ≡ 0 = ap (hits t) (share_other x.tagger st.given (port_of x.tag 1) tag_tagger) in
      let t4 : hits t (share x.tagger st.taken (port_of x.branch 1)) ≡ 0 = ap (hits t) (share_other x.tagger st.taken (port_of x.branch 1) branch_tagger) in
      let g4 : hits t (share x.tagger st.given (port_of x.retag 1)) ≡ 0 = ap (hits t) (share_other x.tagger st.given (port_of x.retag 1) retag_tagger) in
      let t5 : hits t (share x.tagger st.taken (port_of x.tagger 2)) ≡ hits t (at_port st.taken 2) = ap (hits t) (share_same x.tagger st.taken (port_of x.tagger 2) refl) in
      let g5 : hits t (share x.tagger st.given (port_of x.branch (exit_out d))) ≡ 0 = ap (hits t) (share_other x.tagger st.given (port_of x.branch (exit_out d)) branch_tagger) in
      omega (arith, all, t0, g0, t1, g1, t2, g2, t3, g3, t4, g4, t5, g5)

  merge_change : (s : CircuitState) (l : Label) (u : CircuitState) (st : Step c s x.merge l u) (t : ℕ) →
      total t x u + (hits t (at_port st.taken 1) + hits t (at_port st.taken 2)) ≡ total t x s + (hits t (at_port st.given 1))
  merge_change s l u st t =
      let all = sum_change s x.merge l u st t in
      let t0 : hits t (share x.merge st.taken (port_of x.merge 1)) ≡ hits t (at_port st.taken 1) = ap (hits t) (share_same x.merge st.taken (port_of x.merge 1) refl) in
      let g0 : hits t (share x.merge st.given (port_of x.tagger 1)) ≡ 0 = ap (hits t) (share_other x.merge st.given (port_of x.tagger 1) tagger_merge) in
      let t1 : hits t (share x.merge st.taken (port_of x.merge 2)) ≡ hits t (at_port st.taken 2) = ap (hits t) (share_same x.merge st.taken (port_of x.merge 2) refl) in
      let g1 : hits t (share x.merge st.given (port_of x.branch (back_out d))) ≡ 0 = ap (hits t) (share_other x.merge st.given (port_of x.branch (back_out d)) branch_merge) in
      let t2 : hits t (share x.merge st.taken (port_of x.tag 1)) ≡ 0 = ap (hits t) (share_other x.merge st.taken (port_of x.tag 1) tag_merge) in
      let g2 : hits t (share x.merge st.given (port_of x.merge 1)) ≡ hits t (at_port st.given 1) = ap (hits t) (share_same x.merge st.given (port_of x.merge 1) refl) in
      let t3 : hits t (share x.merge st.taken (port_of x.retag 1)) ≡ 0 = ap (hits t) (share_other x.merge st.taken (port_of x.retag 1) retag_merge) in
      let g3 : hits t (share x.merge st.given (port_of x.tag 1)) ≡ 0 = ap (hits t) (share_other x.merge st.given (port_of x.tag 1) tag_merge) in
      let t4 : hits t (share x.merge st.taken (port_of x.branch 1)) ≡ 0 = ap (hits t) (share_other x.merge st.taken (port_of x.branch 1) branch_merge) in
      let g4 : hits t (share x.merge st.given (port_of x.retag 1)) ≡ 0 = ap (hits t) (share_other x.merge st.given (port_of x.retag 1) retag_merge) in
      let t5 : hits t (share x.merge st.taken (port_of x.tagger 2)) ≡ 0 = ap (hits t) (share_other x.merge st.taken (port_of x.tagger 2) tagger_merge) in
      let g5 : hits t (share x.merge st.given (port_of x.branch (exit_out d))) ≡ 0 = ap (hits t) (share_other x.merge st.given (port_of x.branch (exit_out d)) branch_merge) in
      omega (arith, all, t0, g0, t1, g1, t2, g2, t3, g3, t4, g4, t5, g5)

  tag_change : (s : CircuitState) (l : Label) (u : CircuitState) (st : Step c s x.tag l u) (t : ℕ) →
      total t x u + (hits t (at_port st.taken 1)) ≡ total t x s + (hits t (at_port st.given 1))
  tag_change s l u st t =
      let all = sum_change s x.tag l u st t in
      let t0 : hits t (share x.tag st.taken (port_of x.merge 1)) ≡ 0 = ap (hits t) (share_other x.tag st.taken (port_of x.merge 1) merge_tag) in
      let g0 : hits t (share x.tag st.given (port_of x.tagger 1)) ≡ 0 = ap (hits t) (share_other x.tag st.given (port_of x.tagger 1) tagger_tag) in
      let t1 : hits t (share x.tag st.taken (port_of x.merge 2)) ≡ 0 = ap (hits t) (share_other x.tag st.taken (port_of x.merge 2) merge_tag) in
      let g1 : hits t (share x.tag st.given (port_of x.branch (back_out d))) ≡ 0 = ap (hits t) (share_other x.tag st.given (port_of x.branch (back_out d)) branch_tag) in
      let t2 : hits t (share x.tag st.taken (port_of x.tag 1)) ≡ hits t (at_port st.taken 1) = ap (hits t) (share_same x.tag st.taken (port_of x.tag 1) refl) in
      let g2 : hits t (share x.tag st.given (port_of x.merge 1)) ≡ 0 = ap (hits t) (share_other x.tag st.given (port_of x.merge 1) merge_tag) in
      let t3 : hits t (share x.tag st.taken (port_of x.retag 1)) ≡ 0 = ap (hits t) (share_other x.tag st.taken (port_of x.retag 1) retag_tag) in
      let g3 : hits t (share x.tag st.given (port_of x.tag 1)) ≡ hits t (at_port st.given 1) = ap (hits t) (share_same x.tag st.given (port_of x.tag 1) refl) in
      let t4 : hits t (share x.tag st.taken (port_of x.branch 1)) ≡ 0 = ap (hits t) (share_other x.tag st.taken (port_of x.branch 1) branch_tag) in
      let g4 : hits t (share x.tag st.given (port_of x.retag 1)) ≡ 0 = ap (hits t) (share_other x.tag st.given (port_of x.retag 1) retag_tag) in
      let t5 : hits t (share x.tag st.taken (port_of x.tagger 2)) ≡ 0 = ap (hits t) (share_other x.tag st.taken (port_of x.tagger 2) tagger_tag) in
      let g5 : hits t (share x.tag st.given (port_of x.branch (exit_out d))) ≡ 0 = ap (hits t) (share_other x.tag st.given (port_of x.branch (exit_out d)) branch_tag) in
      omega (arith, all, t0, g0, t1, g1, t2, g2, t3, g3, t4, g4, t5, g5)

  retag_change : (s : CircuitState) (l : Label) (u : CircuitState) (st : Step c s x.retag l u) (t : ℕ) →
      total t x u + (hits t (at_port st.taken 1)) ≡ total t x s + (hits t (at_port st.given 1))
  retag_change s l u st t =
      let all = sum_change s x.retag l u st t in
      let t0 : hits t (share x.retag st.taken (port_of x.merge 1)) ≡ 0 = ap (hits t) (share_other x.retag st.taken (port_of x.merge 1) merge_retag) in
      let g0 : hits t (share x.retag st.given (port_of x.tagger 1)) ≡ 0 = ap (hits t) (share_other x.retag st.given (port_of x.tagger 1) tagger_retag) in
      let t1 : hits t (share x.retag st.taken (port_of x.merge 2)) ≡ 0 = ap (hits t) (share_other x.retag st.taken (port_of x.merge 2) merge_retag) in
      let g1 : hits t (share x.retag st.given (port_of x.branch (back_out d))) ≡ 0 = ap (hits t) (share_other x.retag st.given (port_of x.branch (back_out d)) branch_retag) in
      let t2 : hits t (share x.retag st.taken (port_of x.tag 1)) ≡ 0 = ap (hits t) (share_other x.retag st.taken (port_of x.tag 1) tag_retag) in
      let g2 : hits t (share x.retag st.given (port_of x.merge 1)) ≡ 0 = ap (hits t) (share_other x.retag st.given (port_of x.merge 1) merge_retag) in
      let t3 : hits t (share x.retag st.taken (port_of x.retag 1)) ≡ hits t (at_port st.taken 1) = ap (hits t) (share_same x.retag st.taken (port_of x.retag 1) refl) in
      let g3 : hits t (share x.retag st.given (port_of x.tag 1)) ≡ 0 = ap (hits t) (share_other x.retag st.given (port_of x.tag 1) tag_retag) in
      let t4 : hits t (share x.retag st.taken (port_of x.branch 1)) ≡ 0 = ap (hits t) (share_other x.retag st.taken (port_of x.branch 1) branch_retag) in
      let g4 : hits t (share x.retag st.given (port_of x.retag 1)) ≡ hits t (at_port st.given 1) = ap (hits t) (share_same x.retag st.given (port_of x.retag 1) refl) in
      let t5 : hits t (share x.retag st.taken (port_of x.tagger 2)) ≡ 0 = ap (hits t) (share_other x.retag st.taken (port_of x.tagger 2) tagger_retag) in
      let g5 : hits t (share x.retag st.given (port_of x.branch (exit_out d))) ≡ 0 = ap (hits t) (share_other x.retag st.given (port_of x.branch (exit_out d)) branch_retag) in
      omega (arith, all, t0, g0, t1, g1, t2, g2, t3, g3, t4, g4, t5, g5)

  branch_change : (s : CircuitState) (l : Label) (u : CircuitState) (st : Step c s x.branch l u) (t : ℕ) →
      total t x u + (hits t (at_port st.taken 1)) ≡ total t x s + (hits t (at_port st.given (back_out d)) + hits t (at_port st.given (exit_out d)))
  branch_change s l u st t =
      let all = sum_change s x.branch l u st t in
      let t0 : hits t (share x.branch st.taken (port_of x.merge 1)) ≡ 0 = ap (hits t) (share_other x.branch st.taken (port_of x.merge 1) merge_branch) in
      let g0 : hits t (share x.branch st.given (port_of x.tagger 1)) ≡ 0 = ap (hits t) (share_other x.branch st.given (port_of x.tagger 1) tagger_branch) in
      let t1 : hits t (share x.branch st.taken (port_of x.merge 2)) ≡ 0 = ap (hits t) (share_other x.branch st.taken (port_of x.merge 2) merge_branch) in
      let g1 : hits t (share x.branch st.given (port_of x.branch (back_out d))) ≡ hits t (at_port st.given (back_out d)) = ap (hits t) (share_same x.branch st.given (port_of x.branch (back_out d)) refl) in
      let t2 : hits t (share x.branch st.taken (port_of x.tag 1)) ≡ 0 = ap (hits t) (share_other x.branch st.taken (port_of x.tag 1) tag_branch) in
      let g2 : hits t (share x.branch st.given (port_of x.merge 1)) ≡ 0 = ap (hits t) (share_other x.branch st.given (port_of x.merge 1) merge_branch) in
      let t3 : hits t (share x.branch st.taken (port_of x.retag 1)) ≡ 0 = ap (hits t) (share_other x.branch st.taken (port_of x.retag 1) retag_branch) in
      let g3 : hits t (share x.branch st.given (port_of x.tag 1)) ≡ 0 = ap (hits t) (share_other x.branch st.given (port_of x.tag 1) tag_branch) in
      let t4 : hits t (share x.branch st.taken (port_of x.branch 1)) ≡ hits t (at_port st.taken 1) = ap (hits t) (share_same x.branch st.taken (port_of x.branch 1) refl) in
      let g4 : hits t (share x.branch st.given (port_of x.retag 1)) ≡ 0 = ap (hits t) (share_other x.branch st.given (port_of x.retag 1) retag_branch) in
      let t5 : hits t (share x.branch st.taken (port_of x.tagger 2)) ≡ 0 = ap (hits t) (share_other x.branch st.taken (port_of x.tagger 2) tagger_branch) in
      let g5 : hits t (share x.branch st.given (port_of x.branch (exit_out d))) ≡ hits t (at_port st.given (exit_out d)) = ap (hits t) (share_same x.branch st.given (port_of x.branch (exit_out d)) refl) in
      omega (arith, all, t0, g0, t1, g1, t2, g2, t3, g3, t4, g4, t5, g5)

  -- a step that leaves the sum and the slots
  stays : (s u : CircuitState) → Counted n x s → u.slots x.tagger ≡ s.slots x.tagger → ((t : ℕ) → total t x u ≡ total t x s) → Counted n x u
  stays s u h e g =
      record {
        counts = λ t. g t ∙ h.counts t ∙ ap (open_count t) (sym e);
        once = λ t. subst (λ z. tag_count t z ≤ 1) (sym e) (h.once t);
        below = subst (AllByRecursion (λ y. y.tag < n)) (sym e) h.below;
      }

  away_step : (s : CircuitState) (m : Name) (l : Label) (u : CircuitState) → Step c s m l u → x.tagger ≢ m → x.merge ≢ m → x.tag ≢ m → x.retag ≢ m → x.branch ≢ m → Counted n x s → Counted n x u
  away_step s m l u st n_tagger n_merge n_tag n_retag n_branch h =
      stays s u h (st.others x.tagger n_tagger)
      (λ t.
      let all = sum_change s m l u st t in
      let t0 : hits t (share m st.taken (port_of x.merge 1)) ≡ 0 = ap (hits t) (share_other m st.taken (port_of x.merge 1) n_merge) in
      let g0 : hits t (share m st.given (port_of x.tagger 1)) ≡ 0 = ap (hits t) (share_other m st.given (port_of x.tagger 1) n_tagger) in
      let t1 : hits t (share m st.taken (port_of x.merge 2)) ≡ 0 = ap (hits t) (share_other m st.taken (port_of x.merge 2) n_merge) in
      let g1 : hits t (share m st.given (port_of x.branch (back_out d))) ≡ 0 = ap (hits t) (share_other m st.given (port_of x.branch (back_out d)) n_branch) in
      let t2 : hits t (share m st.taken (port_of x.tag 1)) ≡ 0 = ap (hits t) (share_other m st.taken (port_of x.tag 1) n_tag) in
      let g2 : hits t (share m st.given (port_of x.merge 1)) ≡ 0 = ap (hits t) (share_other m st.given (port_of x.merge 1) n_merge) in
      let t3 : hits t (share m st.taken (port_of x.retag 1)) ≡ 0 = ap (hits t) (share_other m st.taken (port_of x.retag 1) n_retag) in
      let g3 : hits t (share m st.given (port_of x.tag 1)) ≡ 0 = ap (hits t) (share_other m st.given (port_of x.tag 1) n_tag) in
      let t4 : hits t (share m st.taken (port_of x.branch 1)) ≡ 0 = ap (hits t) (share_other m st.taken (port_of x.branch 1) n_branch) in
      let g4 : hits t (share m st.given (port_of x.retag 1)) ≡ 0 = ap (hits t) (share_other m st.given (port_of x.retag 1) n_retag) in
      let t5 : hits t (share m st.taken (port_of x.tagger 2)) ≡ 0 = ap (hits t) (share_other m st.taken (port_of x.tagger 2) n_tagger) in
      let g5 : hits t (share m st.given (port_of x.branch (exit_out d))) ≡ 0 = ap (hits t) (share_other m st.given (port_of x.branch (exit_out d)) n_branch) in
      omega (arith, all, t0, g0, t1, g1, t2, g2, t3, g3, t4, g4, t5, g5))

  merge_acts : (s u : CircuitState) (l : Label) (st : Step c s x.merge l u) → Acts (Merge (tag_width n ∷ a) 2) l (s.slots x.merge) st.taken st.given (u.slots x.merge) → (t : ℕ) → total t x u ≡ total t x s
  merge_acts s u (Fire zero) st (v, lt, et, eg, en) t =
      let all = merge_change s (Fire zero) u st t in
      let p : hits t (at_port st.taken 1) ≡ hit t (first_of v) + 0 = ap (λ z. hits t (at_port z 1)) et in
      let q : hits t (at_port st.taken 2) ≡ 0 = ap (λ z. hits t (at_port z 2)) et in
      let r : hits t (at_port st.given 1) ≡ hit t (first_of v) + 0 = ap (λ z. hits t (at_port z 1)) eg in
      omega (arith, all, p, q, r)
  merge_acts s u (Fire (suc zero)) st (v, lt, et, eg, en) t =
      let all = merge_change s (Fire 1) u st t in
      let p : hits t (at_port st.taken 1) ≡ 0 = ap (λ z. hits t (at_port z 1)) et in
      let q : hits t (at_port st.taken 2) ≡ hit t (first_of v) + 0 = ap (λ z. hits t (at_port z 2)) et in
      let r : hits t (at_port st.given 1) ≡ hit t (first_of v) + 0 = ap (λ z. hits t (at_port z 1)) eg in
      omega (arith, all, p, q, r)
  merge_acts s u (Fire (suc (suc k))) st (v, lt, et, eg, en) t = absurd (omega (arith, lt))
  merge_acts s u (Feed v) st h t = absurd h
  merge_acts s u (Take v) st h t = absurd h

  tag_acts : (s u : CircuitState) (l : Label) (st : Step c s x.tag l u) → Acts (Split ((tag_width n ∷ []) ∷ a ∷ [])) l (s.slots x.tag) st.taken st.given (u.slots x.tag) → (t : ℕ) → total t x u ≡ total t x s
  tag_acts s u (Fire k) st (vs, z, each, et, eg, en) t =
      let all = tag_change s (Fire k) u st t in
      let two = two_of (tag_width n ∷ []) a vs each in
      let (t0, is_t) = one_of (tag_width n) two.left two.left_fits in
      let token : concat vs ≡ t0 ∷ (two.right ++ []) = ap concat two.is ∙ ap (λ z. z ++ (two.right ++ [])) is_t in
      let p : hits t (at_port st.taken 1) ≡ hit t t0 + 0 = ap (λ z. hits t (at_port z 1)) et ∙ ap (λ z. hits t (one z)) token in
      let r : hits t (at_port st.given 1) ≡ hit t t0 + 0 = ap (λ z. hits t (at_port z 1)) (eg ∙ ap (map one) two.is) ∙ ap (λ z. hits t (one z)) is_t in
      omega (arith, all, p, r)
  tag_acts s u (Feed v) st h t = absurd h
  tag_acts s u (Take v) st h t = absurd h

  retag_acts : (s u : CircuitState) (l : Label) (st : Step c s x.retag l u) → AllByRecursion (Fits (tag_width n ∷ [])) (at_port st.taken 1) → Acts (Join ((tag_width n ∷ []) ∷ a ∷ [])) l (s.slots x.retag) st.taken st.given (u.slots x.retag) → (t : ℕ) → total t x u ≡ total t x s
  retag_acts s u (Fire k) st fit (vs, z, long, et, eg, en) t =
      let all = retag_change s (Fire k) u st t in
      let (y, w, is_vs) = two_long vs long in
      let took : at_port st.taken 1 ≡ one y = ap (λ z. at_port z 1) (et ∙ ap (map one) is_vs) in
      let fits : AllByRecursion (Fits (tag_width n ∷ [])) (one y) = subst (AllByRecursion (Fits (tag_width n ∷ []))) took fit in
      let (t0, is_t) = one_of (tag_width n) y fits.0 in
      let token : concat vs ≡ t0 ∷ (w ++ []) = ap concat is_vs ∙ ap (λ z. z ++ (w ++ [])) is_t in
      let p : hits t (at_port st.taken 1) ≡ hit t t0 + 0 = ap (hits t) took ∙ ap (λ z. hits t (one z)) is_t in
      let r : hits t (at_port st.given 1) ≡ hit t t0 + 0 = ap (λ z. hits t (at_port z 1)) eg ∙ ap (λ z. hits t (one z)) token in
      omega (arith, all, p, r)
  retag_acts s u (Feed v) st fit h t = absurd h
  retag_acts s u (Take v) st fit h t = absurd h

  gave_one : (e : Bool) (gave : List (List Token)) (v : Token) → (gave ≡ one v ∷ []) ⊎ (gave ≡ [] ∷ one v ∷ []) → (t : ℕ) → hits t (at_port gave (back_out e)) + hits t (at_port gave (exit_out e)) ≡ hit t (first_of v)
  gave_one true gave v (inl g) t = (λ j. hits t (at_port (g j) 1) + hits t (at_port (g j) 2)) ∙ omega arith
  gave_one true gave v (inr g) t = (λ j. hits t (at_port (g j) 1) + hits t (at_port (g j) 2)) ∙ omega arith
  gave_one false gave v (inl g) t = (λ j. hits t (at_port (g j) 2) + hits t (at_port (g j) 1)) ∙ omega arith
  gave_one false gave v (inr g) t = (λ j. hits t (at_port (g j) 2) + hits t (at_port (g j) 1)) ∙ omega arith

  took_one : (took gave : List (List Token)) (v : Token) → ((took ≡ one v ∷ one (1 ∷ []) ∷ []) × (gave ≡ one v ∷ [])) ⊎ ((took ≡ one v ∷ one (0 ∷ []) ∷ []) × (gave ≡ [] ∷ one v ∷ [])) → (at_port took 1 ≡ one v) × ((gave ≡ one v ∷ []) ⊎ (gave ≡ [] ∷ one v ∷ []))
  took_one took gave v (inl h) = (ap (λ z. at_port z 1) h.0, inl h.1)
  took_one took gave v (inr h) = (ap (λ z. at_port z 1) h.0, inr h.1)

  branch_acts : (s u : CircuitState) (l : Label) (st : Step c s x.branch l u) → Acts (Branch (tag_width n ∷ a)) l (s.slots x.branch) st.taken st.given (u.slots x.branch) → (t : ℕ) → total t x u ≡ total t x s
  branch_acts s u (Fire k) st (v, z, way, en) t =
      let all = branch_change s (Fire k) u st t in
      let both = took_one st.taken st.given v way in
      let p : hits t (at_port st.taken 1) ≡ hit t (first_of v) + 0 = ap (hits t) both.0 in
      let r = gave_one d st.given v both.1 t in
      omega (arith, all, p, r)
  branch_acts s u (Feed v) st h t = absurd h
  branch_acts s u (Take v) st h t = absurd h

  tagger_acts : (s u : CircuitState) (l : Label) (st : Step c s x.tagger l u) → Acts (Tagger a n) l (s.slots x.tagger) st.taken st.given (u.slots x.tagger) → Counted n x s → Counted n x u
  tagger_acts s u (Feed v) st f h = absurd f
  tagger_acts s u (Take v) st f h = absurd f
  tagger_acts s u (Fire zero) st (t, v, eo, et, eg) h =
      let below : AllByRecursion (λ (y : Slot). y.tag < n) (record { tag = t; result = Some v } ∷ u.slots x.tagger) = subst (AllByRecursion (λ y. y.tag < n)) eo h.below in
      record {
        counts = λ q.
            let all = tagger_change s (Fire zero) u st q in
            let was = h.counts q in
            let p : hits q (at_port st.taken 2) ≡ 0 = ap (λ z. hits q (at_port z 2)) et in
            let r : hits q (at_port st.given 1) ≡ 0 = ap (λ z. hits q (at_port z 1)) eg in
            let these : open_count q (s.slots x.tagger) ≡ 0 + open_count q (u.slots x.tagger) = ap (open_count q) eo in
            omega (arith, all, was, p, r, these);
        once = λ q.
            let was = h.once q in
            let these : tag_count q (s.slots x.tagger) ≡ hit q t + tag_count q (u.slots x.tagger) = ap (tag_count q) eo in
            omega (arith, was, these);
        below = below.1;
      }
  tagger_acts s u (Fire (suc zero)) st (t, v, before, after, eo, en, et, eg) h =
      let below : AllByRecursion (λ (y : Slot). y.tag < n) (before ++ record { tag = t; result = None } ∷ after) = subst (AllByRecursion (λ y. y.tag < n)) eo h.below in
      let right : AllByRecursion (λ (y : Slot). y.tag < n) (record { tag = t; result = None } ∷ after) = each_right (λ (y : Slot). y.tag < n) before _ below in
      record {
        counts = λ q.
            let all = tagger_change s (Fire 1) u st q in
            let was = h.counts q in
            let p : hits q (at_port st.taken 2) ≡ hit q t + 0 = ap (λ z. hits q (at_port z 2)) et in
            let r : hits q (at_port st.given 1) ≡ 0 = ap (λ z. hits q (at_port z 1)) eg in
            let these : open_count q (s.slots x.tagger) ≡ open_count q before + (hit q t + open_count q after) = ap (open_count q) eo ∙ open_append q before (record { tag = t; result = None } ∷ after) in
            let those : open_count q (u.slots x.tagger) ≡ open_count q before + (0 + open_count q after) = ap (open_count q) en ∙ open_append q before (record { tag = t; result = Some v } ∷ after) in
            omega (arith, all, was, p, r, these, those);
        once = λ q.
            let was = h.once q in
            let these : tag_count q (s.slots x.tagger) ≡ tag_count q before + (hit q t + tag_count q after) = ap (tag_count q) eo ∙ tag_append q before (record { tag = t; result = None } ∷ after) in
            let those : tag_count q (u.slots x.tagger) ≡ tag_count q before + (hit q t + tag_count q after) = ap (tag_count q) en ∙ tag_append q before (record { tag = t; result = Some v } ∷ after) in
            omega (arith, was, these, those);
        below = subst (AllByRecursion (λ y. y.tag < n)) (sym en) (each_append (λ (y : Slot). y.tag < n) before _ (each_left (λ (y : Slot). y.tag < n) before _ below) (right.0, right.1));
      }
  tagger_acts s u (Fire (suc (suc t))) st (v, lt, free, en, et, eg) h =
      record {
        counts = λ q.
            let all = tagger_change s (Fire (suc (suc t))) u st q in
            let was = h.counts q in
            let p : hits q (at_port st.taken 2) ≡ 0 = ap (λ z. hits q (at_port z 2)) et in
            let r : hits q (at_port st.given 1) ≡ hit q t + 0 = ap (λ z. hits q (at_port z 1)) eg in
            let these : open_count q (u.slots x.tagger) ≡ open_count q (s.slots x.tagger) + (hit q t + 0) = ap (open_count q) en ∙ open_append q (s.slots x.tagger) (record { tag = t; result = None } ∷ []) in
            omega (arith, all, was, p, r, these);
        once = λ q. subst (λ z. z ≤ 1) (sym (ap (tag_count q) en ∙ tag_append q (s.slots x.tagger) (record { tag = t; result = None } ∷ []))) (once_more t q (s.slots x.tagger) free (h.once q));
        below = subst (AllByRecursion (λ y. y.tag < n)) (sym en) (each_append (λ (y : Slot). y.tag < n) (s.slots x.tagger) _ h.below (lt, tt));
      }

  -- what the Join takes fits
  retag_fits : (s u : CircuitState) (l : Label) (st : Step c s x.retag l u) → IsStateOf c s → AllByRecursion (Fits (tag_width n ∷ [])) (at_port st.taken 1)
  retag_fits s u l st fit =
      let p = port_of x.retag 1 in
      let whole : AllByRecursion (Fits (tag_width n ∷ [])) (s.wires p) = fit.wires p (Join ((tag_width n ∷ []) ∷ a ∷ [])) (tag_width n ∷ []) has.is_retag refl in
      subst (AllByRecursion (Fits (tag_width n ∷ []))) (share_same x.retag st.taken p refl)
      (each_left (Fits (tag_width n ∷ [])) (share x.retag st.taken p) (st.between p) (subst (AllByRecursion (Fits (tag_width n ∷ []))) (st.takes p) whole))

  pub step_counted : (s : CircuitState) (m : Name) (l : Label) (u : CircuitState) → Step c s m l u → IsStateOf c s → Counted n x s → Counted n x u
  step_counted s m l u st fit h =
      elim (name_cases x.tagger m) [
        | inl is ↦
            let st2 : Step c s x.tagger l u = subst (λ z. Step c s z l u) (sym is.is) st in
            tagger_acts s u l st2 (acts_at c s x.tagger l u st2 (Tagger a n) has.is_tagger) h
        | inr n0 ↦ elim (name_cases x.merge m) [
          | inl is ↦
              let st2 : Step c s x.merge l u = subst (λ z. Step c s z l u) (sym is.is) st in
              stays s u h (st2.others x.tagger tagger_merge) (merge_acts s u l st2 (acts_at c s x.merge l u st2 (Merge (tag_width n ∷ a) 2) has.is_merge))
          | inr n1 ↦ elim (name_cases x.tag m) [
            | inl is ↦
                let st2 : Step c s x.tag l u = subst (λ z. Step c s z l u) (sym is.is) st in
                stays s u h (st2.others x.tagger tagger_tag) (tag_acts s u l st2 (acts_at c s x.tag l u st2 (Split ((tag_width n ∷ []) ∷ a ∷ [])) has.is_tag))
            | inr n2 ↦ elim (name_cases x.retag m) [
              | inl is ↦
                  let st2 : Step c s x.retag l u = subst (λ z. Step c s z l u) (sym is.is) st in
                  stays s u h (st2.others x.tagger tagger_retag) (retag_acts s u l st2 (retag_fits s u l st2 fit) (acts_at c s x.retag l u st2 (Join ((tag_width n ∷ []) ∷ a ∷ [])) has.is_retag))
              | inr n3 ↦ elim (name_cases x.branch m) [
                | inl is ↦
                    let st2 : Step c s x.branch l u = subst (λ z. Step c s z l u) (sym is.is) st in
                    stays s u h (st2.others x.tagger tagger_branch) (branch_acts s u l st2 (acts_at c s x.branch l u st2 (Branch (tag_width n ∷ a)) has.is_branch))
                | inr n4 ↦ away_step s m l u st n0.is_not n1.is_not n2.is_not n3.is_not n4.is_not h
              ]
            ]
          ]
        ]
      ]

  -- at the start the ring is empty
  start_wire : (p q : Port) (k : Kind) → c.feeder p ≡ Some q → c.kind_at q.node ≡ Some k → initial (Some k) ≡ [] → (start c).wires p ≡ []
  start_wire p q k f e g = ap (λ o. initial (kind_of c o)) f ∙ ap initial e ∙ g

  start_counted : Counted n x (start c)
  start_counted =
      record {
        counts = λ t.
            let w0 : hits t ((start c).wires (port_of x.merge 1)) ≡ 0 = ap (hits t) (start_wire (port_of x.merge 1) (port_of x.tagger 1) (Tagger a n) has.into_merge has.is_tagger refl) in
            let w1 : hits t ((start c).wires (port_of x.merge 2)) ≡ 0 = ap (hits t) (start_wire (port_of x.merge 2) (port_of x.branch (back_out d)) (Branch (tag_width n ∷ a)) has.back_merge has.is_branch refl) in
            let w2 : hits t ((start c).wires (port_of x.tag 1)) ≡ 0 = ap (hits t) (start_wire (port_of x.tag 1) (port_of x.merge 1) (Merge (tag_width n ∷ a) 2) has.into_tag has.is_merge refl) in
            let w3 : hits t ((start c).wires (port_of x.retag 1)) ≡ 0 = ap (hits t) (start_wire (port_of x.retag 1) (port_of x.tag 1) (Split ((tag_width n ∷ []) ∷ a ∷ [])) has.into_retag has.is_tag refl) in
            let w4 : hits t ((start c).wires (port_of x.branch 1)) ≡ 0 = ap (hits t) (start_wire (port_of x.branch 1) (port_of x.retag 1) (Join ((tag_width n ∷ []) ∷ a ∷ [])) has.into_branch has.is_retag refl) in
            let w5 : hits t ((start c).wires (port_of x.tagger 2)) ≡ 0 = ap (hits t) (start_wire (port_of x.tagger 2) (port_of x.branch (exit_out d)) (Branch (tag_width n ∷ a)) has.into_tagger has.is_branch refl) in
            omega (arith, w0, w1, w2, w3, w4, w5);
        once = λ t. omega arith;
        below = tt;
      }

  pub run_counted : ValuesFit → Typed c → (s : CircuitState) (ms : List Move) (u : CircuitState) → Run c s ms u → IsStateOf c s → Counted n x s → IsStateOf c u × Counted n x u
  run_counted values ty s [] u e fit h = (subst (IsStateOf c) e fit, subst (Counted n x) e h)
  run_counted values ty s (m ∷ ms) u r fit h =
      run_counted values ty r.0 ms u r.2 (step_fits values c ty s m.node m.label r.0 r.1 fit) (step_counted s m.node m.label r.0 r.1 fit h)

  pub reached : ValuesFit → Typed c → (ms : List Move) (u : CircuitState) → Run c (start c) ms u → IsStateOf c u × Counted n x u
  reached values ty ms u r = run_counted values ty (start c) ms u r (start_fits c ty) start_counted
