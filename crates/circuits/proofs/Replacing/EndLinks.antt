-- The links that join the Entries and Exits of a part to the circuit without it.
use Rattle.std.proofs.Common.{◌≡◌, ◌≢◌, ℕ, ◌<◌, ◌⊎◌, inl, inr, refl, sym, ap, subst, ◌∙◌, if◌then◌else◌, List, [], ◌∷◌, length, Option, Some, None, arith}
use Rattle.std.specs.List.{AllByRecursion}
use Rattle.components.specs.declared.kind.Kind.{Kind}
use Rattle.components.specs.declared.kind.Kind.TheVariants.{Entry}
use Rattle.components.specs.Name.{Name, Port}
use Rattle.components.specs.Orders.{same_bytes}
use Rattle.circuits.specs.Circuit.{Circuit}
use Rattle.circuits.specs.Plug.{PlugLink, link, link_all, redirect}
use Rattle.circuits.specs.Replacing.{In, In.head, In.tail, NoneTwice}
use Rattle.circuits.proofs.Names.{name_cases}
use Rattle.circuits.proofs.Plugging.Links.{IsFree}
use Rattle.circuits.proofs.Plugging.Regrouping.{redirect_away}
use Rattle.circuits.proofs.Buffers.Several.{NotIn, in_not}
use Rattle.circuits.proofs.Replacing.LongNames.{lengthen, lengthen_length, lengthen_inj}

-- the link of an Entry or Exit of left, to the end of its longer name in the rest
abbrev pub link_of : ℕ → Option Kind → Name → PlugLink
link_of size (Some (Entry a)) n = record { exit = lengthen size n; entry = n }
link_of size _ n = record { exit = n; entry = lengthen size n }

abbrev pub links_of : ℕ → Circuit → List Name → List PlugLink
links_of size left [] = []
links_of size left (n ∷ ns) = link_of size (left.kind_at n) n ∷ links_of size left ns

abbrev pub exits_of : ℕ → Circuit → List Name → List Name
exits_of size left [] = []
exits_of size left (n ∷ ns) = (link_of size (left.kind_at n) n).exit ∷ exits_of size left ns

-- x is one of the two names of the link of n
abbrev pub Point : ℕ → Name → Name → Type 0
Point size n x = (x ≡ n) ⊎ (x ≡ lengthen size n)

pub exit_point : (size : ℕ) (o : Option Kind) (n : Name) → Point size n (link_of size o n).exit
exit_point size None n = inl refl
exit_point size (Some (Entry a)) n = inr refl
exit_point size (Some _) n = inl refl

pub entry_point : (size : ℕ) (o : Option Kind) (n : Name) → Point size n (link_of size o n).entry
entry_point size None n = inr refl
entry_point size (Some (Entry a)) n = inl refl
entry_point size (Some _) n = inr refl

pub points_apart : (size : ℕ) (n m x y : Name) → length n < size → length m < size → n ≢ m → Point size n x → Point size m y → x ≢ y
points_apart size n m x y hn hm ne (inl a) (inl b) e = ne (sym a ∙ e ∙ b)
points_apart size n m x y hn hm ne (inl a) (inr b) e =
    let same : length n ≡ length (lengthen size m) = ap length (sym a ∙ e ∙ b) in omega (arith, same, lengthen_length size m, hn)
points_apart size n m x y hn hm ne (inr a) (inl b) e =
    let same : length (lengthen size n) ≡ length m = ap length (sym a ∙ e ∙ b) in omega (arith, same, lengthen_length size n, hm)
points_apart size n m x y hn hm ne (inr a) (inr b) e = ne (lengthen_inj size n m (sym a ∙ e ∙ b))

-- x is no name of a link of these
abbrev pub NoPoint : ℕ → List Name → Name → Type 0
NoPoint size ns x = AllByRecursion (λ n. Point size n x → ⊥) ns

pub no_point_free : (size : ℕ) (left : Circuit) (ns : List Name) (x : Name) → NoPoint size ns x → AllByRecursion (IsFree x) (links_of size left ns)
no_point_free size left [] x h = tt
no_point_free size left (n ∷ ns) x h = (
  (
    (λ e. h.0 (elim (exit_point size (left.kind_at n) n) [ inl a ↦ inl (e ∙ a) | inr a ↦ inr (e ∙ a) ])),
    (λ e. h.0 (elim (entry_point size (left.kind_at n) n) [ inl a ↦ inl (e ∙ a) | inr a ↦ inr (e ∙ a) ])),
  ),
  no_point_free size left ns x h.1,
)

pub no_point_exits : (size : ℕ) (left : Circuit) (ns : List Name) (x : Name) → NoPoint size ns x → NotIn x (exits_of size left ns)
no_point_exits size left [] x h = tt
no_point_exits size left (n ∷ ns) x h =
    ((λ e. h.0 (elim (exit_point size (left.kind_at n) n) [ inl a ↦ inl (e ∙ a) | inr a ↦ inr (e ∙ a) ])), no_point_exits size left ns x h.1)

pub other_points : (size : ℕ) (n : Name) (ns : List Name) (x : Name) → length n < size → ((m : Name) → In m ns → length m < size) → NotIn n ns → Point size n x → NoPoint size ns x
other_points size n [] x hn hs h p = tt
other_points size n (m ∷ ms) x hn hs h p =
    ((λ q. points_apart size n m x x hn (hs m (head refl)) h.0 p q refl), other_points size n ms x hn (λ k i. hs k (tail i)) h.1 p)

pub point_cases : (size : ℕ) (ns : List Name) (x : Name) → ((n : Name) × In n ns × Point size n x) ⊎ NoPoint size ns x
point_cases size [] x = inr tt
point_cases size (n ∷ ns) x =
    elim (name_cases x n) [
      | inl is ↦ inl (n, head refl, inl is.is)
      | inr ne ↦ elim (name_cases x (lengthen size n)) [
        | inl is ↦ inl (n, head refl, inr is.is)
        | inr nz ↦ elim (point_cases size ns x) [
          | inl h ↦ inl (h.0, tail h.1, h.2)
          | inr h ↦ inr ((λ p. elim p [ inl e ↦ ne.is_not e | inr e ↦ nz.is_not e ]), h)
        ]
      ]
    ]

-- what feeds an input after all links
abbrev pub redirect_all : List PlugLink → Option Port → Option Port
redirect_all [] o = o
redirect_all (l ∷ ls) o = redirect_all ls (redirect l o)

pub feeder_linked : (ls : List PlugLink) (c : Circuit) (p : Port) → (link_all ls c).feeder p ≡ redirect_all ls (c.feeder p)
feeder_linked [] c p = refl
feeder_linked (l ∷ ls) c p = feeder_linked ls (link l c) p

redirect_hit : (l : PlugLink) (q : Port) → q.node ≡ l.entry → redirect l (Some q) ≡ Some (record { node = l.exit; port = q.port })
redirect_hit l q is = ap (λ b. Some (if b then record { node = l.exit; port = q.port } else q)) (same_bytes q.node l.entry is)

pub redirect_free : (ls : List PlugLink) (q : Port) → AllByRecursion (IsFree q.node) ls → redirect_all ls (Some q) ≡ Some q
redirect_free [] q h = refl
redirect_free (l ∷ ls) q h = ap (redirect_all ls) (redirect_away l q h.0.1) ∙ redirect_free ls q h.1

pub redirect_end : (size : ℕ) (left : Circuit) (ns : List Name) → NoneTwice ns → ((m : Name) → In m ns → length m < size) → (n : Name) → In n ns → (q : Port) → q.node ≡ (link_of size (left.kind_at n) n).entry → redirect_all (links_of size left ns) (Some q) ≡ Some (record { node = (link_of size (left.kind_at n) n).exit; port = q.port })
redirect_end size left [] once hs n i q e = elim i [ ]
redirect_end size left (m ∷ ms) once hs n (head is) q e =
    let l : PlugLink = link_of size (left.kind_at m) m in
    let here : q.node ≡ l.entry = e ∙ ap (λ z. (link_of size (left.kind_at z) z).entry) is in
    ap (redirect_all (links_of size left ms)) (redirect_hit l q here)
    ∙ redirect_free (links_of size left ms) (record { node = l.exit; port = q.port })
    (no_point_free size left ms l.exit (other_points size m ms l.exit (hs m (head refl)) (λ k j. hs k (tail j)) once.0 (exit_point size (left.kind_at m) m)))
    ∙ ap (λ z. Some (record { node = (link_of size (left.kind_at z) z).exit; port = q.port })) (sym is)
redirect_end size left (m ∷ ms) once hs n (tail i) q e =
    let l : PlugLink = link_of size (left.kind_at m) m in
    let ne : n ≢ m = λ is. in_not m ms (subst (λ z. In z ms) is i) once.0 in
    let away : q.node ≢ l.entry =
    λ is. points_apart size n m q.node l.entry (hs n (tail i)) (hs m (head refl)) ne
    (elim (entry_point size (left.kind_at n) n) [ inl a ↦ inl (e ∙ a) | inr a ↦ inr (e ∙ a) ]) (entry_point size (left.kind_at m) m) is in
    ap (redirect_all (links_of size left ms)) (redirect_away l q away) ∙ redirect_end size left ms once.1 (λ k j. hs k (tail j)) n i q e

pub in_exits : (size : ℕ) (left : Circuit) (ns : List Name) (n : Name) → In n ns → In (link_of size (left.kind_at n) n).exit (exits_of size left ns)
in_exits size left [] n i = elim i [ ]
in_exits size left (m ∷ ms) n (head is) = head (ap (λ z. (link_of size (left.kind_at z) z).exit) is)
in_exits size left (m ∷ ms) n (tail i) = tail (in_exits size left ms n i)

pub of_exits : (size : ℕ) (left : Circuit) (ns : List Name) (b : Name) → In b (exits_of size left ns) → (n : Name) × In n ns × (b ≡ (link_of size (left.kind_at n) n).exit)
of_exits size left [] b i = elim i [ ]
of_exits size left (m ∷ ms) b (head e) = (m, head refl, e)
of_exits size left (m ∷ ms) b (tail i) = let (n, j, e) = of_exits size left ms b i in (n, tail j, e)
