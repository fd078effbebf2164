-- a tree of Forks and Buffers passes bits, and back from each of its inputs stands the wire from outside
use Rattle.std.proofs.Common.{◌≡◌, ℕ, zero, suc, ◌≤◌, ◌⊎◌, inl, inr, refl, sym, ap, subst, ◌∙◌, true, false, Bool, if◌then◌else◌, replicate, List, [], ◌∷◌, Option, Some, None, arith}
use Rattle.components.specs.Kind.{Shape, ins, outs}
use Rattle.components.specs.Name.{port_get}
use Rattle.std.proofs.lemmas.Option.{same_Some}
use Rattle.components.specs.declared.kind.Kind.{Kind}
use Rattle.components.specs.declared.kind.Kind.TheVariants.{Buffer, Fork}
use Rattle.circuits.specs.Root.{PassesThrough}
use Rattle.components.specs.Kind.{field}
use Rattle.lane_laws.specs.CombineMuxes.{Stop, into, select, stop_shape, LeadsTo, by_wire, by_wires, Tree}
use Rattle.circuit_plans.proofs.Plans.{Out}
use Rattle.circuit_plans.proofs.Places.{Place, first, later, item, same_place, same_place_is, with_place, total, in_total}

-- a Buffer or a Fork of one (field 1)
abbrev pub PassesBit : Kind → Type 0
PassesBit (Buffer a) = a ≡ (field 1)
PassesBit (Fork a k) = a ≡ (field 1)
PassesBit _ = ⊥

-- back from this input, through nodes of the tree, stands the wire from outside
pub data ComesFromOutside {tree : List Kind} {lanes : List Shape} (source : Stop tree lanes → Option (Out (Place tree))) : Stop tree lanes → Type 0 where
  outside : {x : Stop tree lanes} → source x ≡ None → ComesFromOutside source x
  past : {x : Stop tree lanes} (q : Out (Place tree)) → source x ≡ Some q → ComesFromOutside source (into q.at) → ComesFromOutside source x

abbrev one_unseen : Bool → ℕ
one_unseen true = 0
one_unseen false = 1

-- places that are not yet seen
abbrev unseen : {A : Type 0} (xs : List A) → (Place xs → Bool) → ℕ
unseen xs seen = total xs (λ n. one_unseen (seen n))

fewer : {A : Type 0} (xs : List A) (k : Place xs) (seen : Place xs → Bool) → seen k ≡ false → unseen xs seen ≡ suc (unseen xs (with_place xs k seen))
fewer [] k seen e = elim k [ ]
fewer (x ∷ xs) first seen e =
    let was : one_unseen (seen first) ≡ 1 = ap one_unseen e in
    omega (arith, was)
fewer (x ∷ xs) (later k) seen e =
    let rest : unseen xs (λ m. seen (later m)) ≡ suc (unseen xs (with_place xs k (λ m. seen (later m)))) = fewer xs k (λ m. seen (later m)) e in
    omega (arith, rest)

all_seen : {A : Type 0} (xs : List A) (seen : Place xs → Bool) (k : Place xs) → unseen xs seen ≤ 0 → seen k ≡ true
all_seen xs seen k h = at (seen k) refl
  where
    at : (b : Bool) → seen k ≡ b → seen k ≡ true
    at true e = e
    at false e =
        let one_here : one_unseen (seen k) ≡ 1 = ap one_unseen e in
        let counted : one_unseen (seen k) ≤ unseen xs seen = in_total xs (λ n. one_unseen (seen n)) k in
        absurd (omega (arith, one_here, counted, h))

module _ (tree : List Kind) (lanes : List Shape) (tr : Tree tree lanes) where
  leads_on : (n m k : Place tree) → LeadsTo tr.source n m → LeadsTo tr.source m k → LeadsTo tr.source n k
  leads_on n m k h (by_wire q e is) = by_wires q e (subst (LeadsTo tr.source n) (sym is) h)
  leads_on n m k h (by_wires q e go) = by_wires q e (leads_on n m q.at h go)

  -- what was seen on the way back stands behind n
  abbrev Passed : (Place tree → Bool) → Place tree → Type 0
  Passed seen n = (m : Place tree) → seen m ≡ true → (m ≡ n) ⊎ LeadsTo tr.source n m

  no_way_back : (seen : Place tree → Bool) (n k : Place tree) → Passed seen n → LeadsTo tr.source k n → seen k ≡ true → ⊥
  no_way_back seen n k h leads e =
      elim (h k e) [
        | inl is ↦ tr.no_cycle n (subst (λ z. LeadsTo tr.source z n) is leads)
        | inr back ↦ tr.no_cycle k (leads_on k n k leads back)
      ]

  passed_more : (seen : Place tree → Bool) (n k : Place tree) → Passed seen n → LeadsTo tr.source k n → Passed (with_place tree k seen) k
  passed_more seen n k h leads m e = at (same_place tree m k) refl e
    where
      at : (b : Bool) → same_place tree m k ≡ b → (if b then true else seen m) ≡ true → (m ≡ k) ⊎ LeadsTo tr.source k m
      at true f g = inl (same_place_is tree m k f)
      at false f g =
          elim (h m g) [
            | inl is ↦ inr (subst (LeadsTo tr.source k) (sym is) leads)
            | inr back ↦ inr (leads_on k n m leads back)
          ]

  not_seen : (seen : Place tree → Bool) (k : Place tree) → (seen k ≡ true → ⊥) → (b : Bool) → seen k ≡ b → seen k ≡ false
  not_seen seen k h true e = absurd (h e)
  not_seen seen k h false e = e

  back_from : (fuel : ℕ) (n : Place tree) (seen : Place tree → Bool) → Passed seen n → unseen tree seen ≤ fuel → (o : Option (Out (Place tree))) → tr.source (into n) ≡ o → ComesFromOutside tr.source (into n)
  back_from fuel n seen h le None e = outside e
  back_from zero n seen h le (Some q) e = absurd (no_way_back seen n q.at h (by_wire q e refl) (all_seen tree seen q.at le))
  back_from (suc fuel) n seen h le (Some q) e =
      let leads : LeadsTo tr.source q.at n = by_wire q e refl in
      let new : seen q.at ≡ false = not_seen seen q.at (no_way_back seen n q.at h leads) (seen q.at) refl in
      let less : unseen tree seen ≡ suc (unseen tree (with_place tree q.at seen)) = fewer tree q.at seen new in
      past q e (back_from fuel q.at (with_place tree q.at seen) (passed_more seen n q.at h leads) (omega (arith, less, le)) (tr.source (into q.at)) refl)

  comes_node : (n : Place tree) → ComesFromOutside tr.source (into n)
  comes_node n =
      back_from (unseen tree (λ m. same_place tree m n)) n (λ m. same_place tree m n) (λ m e. inl (same_place_is tree m n e)) (omega arith) (tr.source (into n)) refl

  comes_at : (x : Stop tree lanes) (o : Option (Out (Place tree))) → tr.source x ≡ o → ComesFromOutside tr.source x
  comes_at x None e = outside e
  comes_at x (Some q) e = past q e (comes_node q.at)

  pub comes : (x : Stop tree lanes) → ComesFromOutside tr.source x
  comes x = comes_at x (tr.source x) refl

  -- shapes along the tree
  replicate_is : (k : ℕ) (a b : Shape) (i : ℕ) → port_get (replicate k a) i ≡ Some b → b ≡ a
  replicate_is zero a b i e = cc
  replicate_is (suc k) a b zero e = cc
  replicate_is (suc k) a b (suc zero) e = cc
  replicate_is (suc k) a b (suc (suc i)) e = replicate_is k a b (suc i) e

  single_is : (a b : Shape) (i : ℕ) → port_get (a ∷ []) i ≡ Some b → b ≡ a
  single_is a b zero e = cc
  single_is a b (suc zero) e = cc
  single_is a b (suc (suc i)) e = cc

  in_is_out : (k : Kind) (a : Shape) (i : ℕ) → PassesThrough k → port_get (outs k) i ≡ Some a → port_get (ins k) 1 ≡ Some a
  in_is_out (Buffer b) a i h e = ap Some (sym (single_is b a i e))
  in_is_out (Fork b k) a i h e = ap Some (sym (replicate_is k b a i e))
  in_is_out _ a i h e = absurd h

  passes_of : (k : Kind) → PassesThrough k → port_get (ins k) 1 ≡ Some (field 1) → PassesBit k
  passes_of (Buffer a) h e = same_Some a (field 1) e
  passes_of (Fork a k) h e = same_Some a (field 1) e
  passes_of _ h e = absurd h

  -- the wire from outside carries bits, since it leads to a select
  source_shape : (x : Stop tree lanes) (q : Out (Place tree)) → tr.source x ≡ Some q → (a : Shape) → stop_shape tree lanes x ≡ Some a → port_get (outs (item tree q.at)) q.port ≡ Some a
  source_shape x q e a is =
      let (b, enters, leaves) = tr.wires x q e in
      leaves ∙ ap Some (same_Some b a (sym enters ∙ is))

  outside_shape : (x : Stop tree lanes) → ComesFromOutside tr.source x → stop_shape tree lanes x ≡ Some (field 1) → stop_shape tree lanes tr.outside.0 ≡ Some (field 1)
  outside_shape x (outside e) is = ap (stop_shape tree lanes) (tr.once tr.outside.0 x (tr.outside.1 ∙ sym e)) ∙ is
  outside_shape x (past q e go) is =
      outside_shape (into q.at) go (in_is_out (item tree q.at) (field 1) q.port (tr.passes q.at) (source_shape x q e (field 1) is))

  all_bits : (x : Stop tree lanes) → ComesFromOutside tr.source x → stop_shape tree lanes x ≡ Some (field 1)
  all_bits x (outside e) =
      ap (stop_shape tree lanes) (tr.once x tr.outside.0 (e ∙ sym tr.outside.1)) ∙ outside_shape (select tr.some_mux) (comes (select tr.some_mux)) refl
  all_bits x (past q e go) =
      let (b, enters, leaves) = tr.wires x q e in
      enters ∙ sym (in_is_out (item tree q.at) b q.port (tr.passes q.at) leaves) ∙ all_bits (into q.at) go

  pub passes_bit : (n : Place tree) → PassesBit (item tree n)
  passes_bit n = passes_of (item tree n) (tr.passes n) (all_bits (into n) (comes (into n)))

  pub fed_bit : (x : Stop tree lanes) (q : Out (Place tree)) → tr.source x ≡ Some q → port_get (outs (item tree q.at)) q.port ≡ Some (field 1)
  fed_bit x q e = source_shape x q e (field 1) (all_bits x (comes x))
