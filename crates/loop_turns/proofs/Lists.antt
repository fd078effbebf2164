-- Small lemmas on lists of names, paths and constant nodes.
use Rattle.std.proofs.Common.{◌≡◌, ◌≢◌, true, false, bytes_eq, ◌⊎◌, inl, inr, refl, sym, ap, subst, ◌∙◌, ℕ, zero, suc, List, [], ◌∷◌, ◌++◌, Some, None}
use Rattle.components.specs.Name.{Name, Port, port_get}
use Rattle.components.specs.Kind.{Shape}
use Rattle.circuits.specs.Circuit.{Circuit}
use Rattle.circuits.specs.Replacing.{In, In.head, In.tail}
use Rattle.circuits.proofs.Names.{name_cases}
use Rattle.loop_laws.specs.Reached.{FedBy, port_at}
use Rattle.loop_laws.specs.BackPath.{Through}
use Rattle.loop_laws.specs.Feeders.{AreConstant}

pub in_left : {A : Type 0} (x : A) (xs ys : List A) → In x xs → In x (xs ++ ys)
in_left x [] ys h = elim h [ ]
in_left x (y ∷ xs) ys (head e) = head e
in_left x (y ∷ xs) ys (tail h) = tail (in_left x xs ys h)

pub in_right : {A : Type 0} (x : A) (xs ys : List A) → In x ys → In x (xs ++ ys)
in_right x [] ys h = h
in_right x (y ∷ xs) ys h = tail (in_right x xs ys h)

pub one_port : (a : Shape) (i : ℕ) (s : Shape) → port_get (a ∷ []) i ≡ Some s → i ≡ 1
one_port a zero s e = let z : None ≡ Some s = e in cc
one_port a (suc zero) s e = refl
one_port a (suc (suc i)) s e = let z : None ≡ Some s = e in cc

-- a path whose Buffers and end are the same in another circuit
pub path_kept : (g h : Circuit) (q : Port) (bs : List Name) (p : Port) → Through g q bs p → ((b : Name) → In b bs → (h.kind_at b ≡ g.kind_at b) × (h.feeder (port_at b 1) ≡ g.feeder (port_at b 1))) → h.feeder p ≡ g.feeder p → Through h q bs p
path_kept g h q [] p t same end = end ∙ t
path_kept g h q (b ∷ bs) p t same end =
    let s = same b (head refl) in
    ((t.0.0, s.0 ∙ t.0.1, t.0.2), s.1 ∙ t.1, path_kept g h (port_at b 1) bs p t.2 (λ c i. same c (tail i)) end)

pub in_or_out : (n : Name) (ns : List Name) → In n ns ⊎ (In n ns → ⊥)
in_or_out n [] = inr (λ i. elim i [ ])
in_or_out n (k ∷ ks) =
    elim (name_cases n k) [
      | inl is ↦ inl (head is.is)
      | inr ne ↦ elim (in_or_out n ks) [
        | inl i ↦ inl (tail i)
        | inr out ↦ inr (λ i. elim i [ head e ↦ ne.is_not e | tail j ↦ out j ])
      ]
    ]

-- what holds of a constant node where it holds of those of the list that it feeds
module _ (g : Circuit) (all : List Name) (P : Name → Type 0) (step : (n : Name) → In n all → ((p q : Port) → g.feeder p ≡ Some q → q.node ≡ n → In p.node all → P p.node) → P n) where
  abbrev Closed : List Name → Type 0
  Closed placed = (x : Name) (i : ℕ) (q : Port) → In x placed → g.feeder (port_at x i) ≡ Some q → In q.node placed

  closed_more : (n : Name) (placed : List Name) → FedBy g (λ x. In x placed) n → Closed placed → Closed (n ∷ placed)
  closed_more n placed r c x i q (head e) f = tail (r i q (ap (λ z. g.feeder (port_at z i)) (sym e) ∙ f))
  closed_more n placed r c x i q (tail j) f = tail (c x i q j f)

  or_more : (n x : Name) (placed ns : List Name) → In x placed ⊎ In x (n ∷ ns) → In x (n ∷ placed) ⊎ In x ns
  or_more n x placed ns (inl i) = inl (tail i)
  or_more n x placed ns (inr (head e)) = inl (head e)
  or_more n x placed ns (inr (tail i)) = inr i

  fed_at : (n : Name) (placed ns : List Name) → (In n placed → ⊥) → FedBy g (λ x. In x placed) n → Closed placed → ((x : Name) → In x ns → (In x (n ∷ placed) → ⊥) → P x) → (p q : Port) → g.feeder p ≡ Some q → q.node ≡ n → In p.node placed ⊎ In p.node (n ∷ ns) → P p.node
  fed_at n placed ns out r c h p q f e (inl i) = absurd (out (subst (λ z. In z placed) e (c p.node p.port q i f)))
  fed_at n placed ns out r c h p q f e (inr (head s)) =
      absurd (out (subst (λ z. In z placed) e (r p.port q (ap (λ z. g.feeder (port_at z p.port)) (sym s) ∙ f))))
  fed_at n placed ns out r c h p q f e (inr (tail i)) =
      elim (in_or_out p.node (n ∷ placed)) [
        | inl (head s) ↦ absurd (out (subst (λ z. In z placed) e (r p.port q (ap (λ z. g.feeder (port_at z p.port)) (sym s) ∙ f))))
        | inl (tail j) ↦ absurd (out (subst (λ z. In z placed) e (c p.node p.port q j f)))
        | inr away ↦ h p.node i away
      ]

  constants_from : (placed ns : List Name) → AreConstant g placed ns → ((x : Name) → In x ns → In x all) → Closed placed → ((x : Name) → In x all → In x placed ⊎ In x ns) → (x : Name) → In x ns → (In x placed → ⊥) → P x
  constants_from placed [] o sub c every x i away = elim i [ ]
  constants_from placed (n ∷ ns) o sub c every x (head e) away =
      subst P (sym e) (step n (sub n (head refl)) (λ p q f is b.
      fed_at n placed ns (λ i. away (subst (λ z. In z placed) (sym e) i)) o.1 c
      (constants_from (n ∷ placed) ns o.2 (λ y j. sub y (tail j)) (closed_more n placed o.1 c) (λ y j. or_more n y placed ns (every y j))) p q f is (every p.node b)))
  constants_from placed (n ∷ ns) o sub c every x (tail i) away =
      elim (name_cases x n) [
        | inl is ↦
            subst P (sym is.is) (step n (sub n (head refl)) (λ p q f e b.
            fed_at n placed ns (λ j. away (subst (λ z. In z placed) (sym is.is) j)) o.1 c
            (constants_from (n ∷ placed) ns o.2 (λ y j. sub y (tail j)) (closed_more n placed o.1 c) (λ y j. or_more n y placed ns (every y j))) p q f e (every p.node b)))
        | inr ne ↦
            constants_from (n ∷ placed) ns o.2 (λ y j. sub y (tail j)) (closed_more n placed o.1 c) (λ y j. or_more n y placed ns (every y j)) x i
            (λ j. elim j [ head e ↦ ne.is_not e | tail k ↦ away k ])
      ]

  pub constants_back : AreConstant g [] all → (x : Name) → In x all → P x
  constants_back o x i = constants_from [] all o (λ y j. j) (λ y k q e f. elim e [ ]) (λ y j. inr j) x i (λ e. elim e [ ])

pub same_test : (a b : Name) → a ≡ b → bytes_eq a b ≡ true
same_test a b e = elim (name_cases a b) [ inl is ↦ is.test | inr ne ↦ absurd (ne.is_not e) ]

pub other_test : (a b : Name) → a ≢ b → bytes_eq a b ≡ false
other_test a b h = elim (name_cases a b) [ inl is ↦ absurd (h is.is) | inr ne ↦ ne.test ]

-- circuits with the same nodes and wires
pub circuit_same : (c d : Circuit) → ((n : Name) → c.kind_at n ≡ d.kind_at n) → ((p : Port) → c.feeder p ≡ d.feeder p) → c ≡ d
circuit_same c d k f = λ i. record { kind_at = λ n. k n i; feeder = λ p. f p i }
