-- Nodes that fit, one after the other.
use Rattle.std.proofs.Common.{◌≡◌, ℕ, zero, suc, ◌+◌, ◌<◌, ◌≤◌, List, [], ◌∷◌, ◌++◌, map, length, take, drop, Some, refl, ap, sym, ◌∙◌, subst, arith}
use Rattle.std.specs.Prelude.{slice_get, ◌↔◌, IsSome}
use Rattle.std.proofs.lemmas.List.{drop_all}
use Rattle.fun_expr.specs.Each.{Each}
use Rattle.components.specs.declared.kind.Kind.{Kind}
use Rattle.components.specs.Kind.{Shape, KindOk, ins, outs}
use Rattle.components.specs.Name.{port_get}
use Rattle.loop_body.specs.declared.body_port.BodyPort.{BodyPort}
use Rattle.loop_body.specs.BodyKind.{MayStand}
use Rattle.loop_body.specs.Body.{entry, NodesFit}
use Rattle.loop_body.specs.Judging.{rows_of}
use Rattle.loop_body.proofs.Lists.{some_inj, heads}

-- what stands at a place of a list
pub got_first : {A : Type 0} (xs : List A) (i : ℕ) (x : A) → slice_get xs i ≡ Some x → drop i xs ≡ x ∷ drop (i + 1) xs
got_first [] i x e = absurd cc
got_first (y ∷ xs) zero x e = ap (λ z. z ∷ xs) (some_inj e)
got_first (y ∷ xs) (suc i) x e = let k : suc (i + 1) ≡ suc i + 1 = omega arith in got_first xs i x e ∙ ap (λ n. x ∷ drop n (y ∷ xs)) k

-- the input of this number
pub record Input {A : Type 0} (xs : List A) (i : ℕ) : Type 0 where
  pub item : A
  pub is : port_get xs (i + 1) ≡ Some item
  pub first : drop i xs ≡ item ∷ drop (i + 1) xs

input_suc : {A : Type 0} (xs : List A) (i : ℕ) → i < length xs → (x : A) × (port_get xs (suc i) ≡ Some x) × (slice_get xs i ≡ Some x)
input_suc [] i lt = absurd (omega arith)
input_suc (x ∷ xs) zero lt = (x, refl, refl)
input_suc (x ∷ xs) (suc i) lt = input_suc xs i (omega arith)

pub input_at : {A : Type 0} (xs : List A) (i : ℕ) → i < length xs → Input xs i
input_at xs i lt =
    let x = input_suc xs i lt in
    let k : i + 1 ≡ suc i = omega arith in
    record { item = x.0; is = ap (port_get xs) k ∙ x.1; first = got_first xs i x.0 x.2 }

pub input_there : {A : Type 0} (xs : List A) (i : ℕ) → i < length xs → IsSome (port_get xs (i + 1))
input_there xs i lt = let x = input_at xs i lt in subst IsSome (sym x.is) refl

-- all inputs have what they take exactly where the rest has
abbrev pub Fed : List (List Shape) → List BodyPort → List Shape → Type 0
Fed table ports xs = map (entry table) ports ≡ map Some xs

pub feed_step : (table : List (List Shape)) (ports : List BodyPort) (xs : List Shape) (i : ℕ) (p : BodyPort) → i < length xs → slice_get ports i ≡ Some p → entry table p ≡ port_get xs (i + 1) →
    (Fed table ports xs ↔ Fed table (drop i ports) (drop i xs)) → Fed table ports xs ↔ Fed table (drop (i + 1) ports) (drop (i + 1) xs)
feed_step table ports xs i p lt is_port fed so_far =
    let x = input_at xs i lt in
    let first = got_first ports i p is_port in
    let here : entry table p ≡ Some x.item = fed ∙ x.is in (
      λ all.
          let now : Fed table (p ∷ drop (i + 1) ports) (x.item ∷ drop (i + 1) xs) = subst (λ ys. Fed table (p ∷ drop (i + 1) ports) ys) x.first (subst (λ ps. Fed table ps (drop i xs)) first (so_far.0 all)) in
          (heads now).1,
      λ rest.
          let now : Fed table (p ∷ drop (i + 1) ports) (x.item ∷ drop (i + 1) xs) = ap (λ o. o ∷ map (entry table) (drop (i + 1) ports)) here ∙ ap (λ os. Some x.item ∷ os) rest in
          so_far.1 (subst (λ ps. Fed table ps (drop i xs)) (sym first) (subst (λ ys. Fed table (p ∷ drop (i + 1) ports) ys) (sym x.first) now)),
    )

pub feed_not : (table : List (List Shape)) (ports : List BodyPort) (xs : List Shape) (i : ℕ) (p : BodyPort) → i < length xs → slice_get ports i ≡ Some p → (entry table p ≡ port_get xs (i + 1) → ⊥) →
    (Fed table ports xs ↔ Fed table (drop i ports) (drop i xs)) → Fed table ports xs → ⊥
feed_not table ports xs i p lt is_port not_fed so_far all =
    let x = input_at xs i lt in
    let first = got_first ports i p is_port in
    let now : Fed table (p ∷ drop (i + 1) ports) (x.item ∷ drop (i + 1) xs) = subst (λ ys. Fed table (p ∷ drop (i + 1) ports) ys) x.first (subst (λ ps. Fed table ps (drop i xs)) first (so_far.0 all)) in
    not_fed ((heads now).0 ∙ sym x.is)

-- the nodes so far
abbrev pub before_of : Kind → List Kind → ℕ → List (List Shape)
before_of split kinds i = rows_of (split ∷ take i kinds)

abbrev pub FitFrom : Kind → List Kind → List (List BodyPort) → ℕ → Type 0
FitFrom split kinds inputs i = NodesFit (before_of split kinds i) (drop i kinds) (drop i inputs)

rows_suc : (kinds rest : List Kind) (i : ℕ) (k : Kind) → drop i kinds ≡ k ∷ rest → map outs (take (suc i) kinds) ≡ map outs (take i kinds) ++ outs k ∷ []
rows_suc [] rest zero k e = absurd cc
rows_suc [] rest (suc i) k e = absurd cc
rows_suc (x ∷ kinds) rest zero k e = ap (λ y. outs y ∷ []) (heads e).0
rows_suc (x ∷ kinds) rest (suc i) k e = ap (λ ys. outs x ∷ ys) (rows_suc kinds rest i k e)

rows_take : (kinds : List Kind) (i : ℕ) (k : Kind) → drop i kinds ≡ k ∷ drop (i + 1) kinds → map outs (take (i + 1) kinds) ≡ map outs (take i kinds) ++ outs k ∷ []
rows_take kinds i k e = let n : i + 1 ≡ suc i = omega arith in ap (λ m. map outs (take m kinds)) n ∙ rows_suc kinds (drop (i + 1) kinds) i k e

each_suc : (P : Kind → Type 0) (kinds rest : List Kind) (i : ℕ) (k : Kind) → drop i kinds ≡ k ∷ rest → P k → Each P (take i kinds) → Each P (take (suc i) kinds)
each_suc P [] rest i k e h hs = tt
each_suc P (x ∷ kinds) rest zero k e h hs = (subst P (sym (heads e).0) h, tt)
each_suc P (x ∷ kinds) rest (suc i) k e h hs = (hs.0, each_suc P kinds rest i k e h hs.1)

each_take : (P : Kind → Type 0) (kinds : List Kind) (i : ℕ) (k : Kind) → drop i kinds ≡ k ∷ drop (i + 1) kinds → P k → Each P (take i kinds) → Each P (take (i + 1) kinds)
each_take P kinds i k e h hs = let n : suc i ≡ i + 1 = omega arith in subst (λ m. Each P (take m kinds)) n (each_suc P kinds (drop (i + 1) kinds) i k e h hs)

abbrev pub NodeFits : List (List Shape) → Kind → List BodyPort → Type 0
NodeFits before kind ports = MayStand kind × (map (entry before) ports ≡ map Some (ins kind))

-- all nodes fit exactly where the rest does, and those so far meet their rows of the table
abbrev pub FitsSoFar : Kind → List Kind → List (List BodyPort) → ℕ → Type 0
FitsSoFar split kinds inputs i = (NodesFit (outs split ∷ []) kinds inputs ↔ FitFrom split kinds inputs i) × Each KindOk (take i kinds)

pub fit_step : (split : Kind) (kinds : List Kind) (inputs : List (List BodyPort)) (i : ℕ) (k : Kind) (ports : List BodyPort) → drop i kinds ≡ k ∷ drop (i + 1) kinds → drop i inputs ≡ ports ∷ drop (i + 1) inputs →
    NodeFits (before_of split kinds i) k ports → FitsSoFar split kinds inputs i → FitsSoFar split kinds inputs (i + 1)
fit_step split kinds inputs i k ports is_kind are_ports fits so_far =
    let table : before_of split kinds i ++ outs k ∷ [] ≡ before_of split kinds (i + 1) = sym (ap (λ rows. outs split ∷ rows) (rows_take kinds i k is_kind)) in (
      (
        λ all.
            let now : NodesFit (before_of split kinds i) (k ∷ drop (i + 1) kinds) (ports ∷ drop (i + 1) inputs) = subst (λ xs. NodesFit (before_of split kinds i) (k ∷ drop (i + 1) kinds) xs) are_ports (subst (λ ks. NodesFit (before_of split kinds i) ks (drop i inputs)) is_kind (so_far.0.0 all)) in
            subst (λ rows. NodesFit rows (drop (i + 1) kinds) (drop (i + 1) inputs)) table now.2,
        λ rest.
            let now : NodesFit (before_of split kinds i) (k ∷ drop (i + 1) kinds) (ports ∷ drop (i + 1) inputs) = (fits.0, fits.1, subst (λ rows. NodesFit rows (drop (i + 1) kinds) (drop (i + 1) inputs)) (sym table) rest) in
            so_far.0.1 (subst (λ ks. NodesFit (before_of split kinds i) ks (drop i inputs)) (sym is_kind) (subst (λ xs. NodesFit (before_of split kinds i) (k ∷ drop (i + 1) kinds) xs) (sym are_ports) now)),
      ),
      each_take KindOk kinds i k is_kind fits.0.1 so_far.1,
    )

pub fit_not : (split : Kind) (kinds : List Kind) (inputs : List (List BodyPort)) (i : ℕ) (k : Kind) (ports : List BodyPort) → drop i kinds ≡ k ∷ drop (i + 1) kinds → drop i inputs ≡ ports ∷ drop (i + 1) inputs →
    (NodeFits (before_of split kinds i) k ports → ⊥) → FitsSoFar split kinds inputs i → NodesFit (outs split ∷ []) kinds inputs → ⊥
fit_not split kinds inputs i k ports is_kind are_ports not_fits so_far all =
    let now : NodesFit (before_of split kinds i) (k ∷ drop (i + 1) kinds) (ports ∷ drop (i + 1) inputs) = subst (λ xs. NodesFit (before_of split kinds i) (k ∷ drop (i + 1) kinds) xs) are_ports (subst (λ ks. NodesFit (before_of split kinds i) ks (drop i inputs)) is_kind (so_far.0.0 all)) in
    not_fits (now.0, now.1)

pub fit_all : (split : Kind) (kinds : List Kind) (inputs : List (List BodyPort)) (i : ℕ) → length kinds ≤ i → length inputs ≤ i → FitsSoFar split kinds inputs i → NodesFit (outs split ∷ []) kinds inputs
fit_all split kinds inputs i le le' so_far =
    so_far.0.1 (subst (λ ks. NodesFit (before_of split kinds i) ks (drop i inputs)) (sym (drop_all i kinds le)) (subst (λ xs. NodesFit (before_of split kinds i) [] xs) (sym (drop_all i inputs le')) tt))

pub fit_lengths : (before : List (List Shape)) (kinds : List Kind) (inputs : List (List BodyPort)) → NodesFit before kinds inputs → length kinds ≡ length inputs
fit_lengths before [] [] h = refl
fit_lengths before [] (ports ∷ inputs) h = absurd h
fit_lengths before (k ∷ kinds) [] h = absurd h
fit_lengths before (k ∷ kinds) (ports ∷ inputs) h = ap suc (fit_lengths (before ++ outs k ∷ []) kinds inputs h.2)

pub kinds_ok : (before : List (List Shape)) (kinds : List Kind) (inputs : List (List BodyPort)) → NodesFit before kinds inputs → Each KindOk kinds
kinds_ok before [] inputs h = tt
kinds_ok before (k ∷ kinds) [] h = absurd h
kinds_ok before (k ∷ kinds) (ports ∷ inputs) h = (h.0.1, kinds_ok (before ++ outs k ∷ []) kinds inputs h.2)
