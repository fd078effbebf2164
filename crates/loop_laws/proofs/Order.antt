-- Induction over a body in its order, forwards and backwards.
use Rattle.std.proofs.Common.{◌≡◌, ◌⊎◌, inl, inr, ℕ, sym, ap, subst, ◌∙◌, List, [], ◌∷◌, Some}
use Rattle.components.specs.Name.{Name, Port}
use Rattle.circuits.specs.Circuit.{Circuit}
use Rattle.circuits.specs.Replacing.{In, In.head, In.tail}
use Rattle.loop_laws.specs.Reached.{port_at}
use Rattle.loop_laws.specs.BodyOrder.{IsReady, InBodyOrder}

module _ (g : Circuit) (body : List Name) (P : Name → Type 0) where
  -- what holds of a node where it holds of those that feed it
  module _ (step : (n : Name) → In n body → ((i : ℕ) (q : Port) → g.feeder (port_at n i) ≡ Some q → In q.node body → P q.node) → P n) where
    more : (n : Name) (placed : List Name) → P n → ((x : Name) → In x placed → P x) → (x : Name) → In x (n ∷ placed) → P x
    more n placed p h x (head e) = subst P (sym e) p
    more n placed p h x (tail i) = h x i

    pub after_feeding : (placed ns : List Name) → InBodyOrder g body placed ns → ((x : Name) → In x placed → P x) → (x : Name) → In x ns → P x
    after_feeding placed [] o h x i = elim i [ ]
    after_feeding placed (n ∷ ns) o h x (head e) = subst P (sym e) (step n o.0.in_body (λ i q f b. h q.node (o.0.inputs i q f b)))
    after_feeding placed (n ∷ ns) o h x (tail i) =
        after_feeding (n ∷ placed) ns o.2 (more n placed (step n o.0.in_body (λ i q f b. h q.node (o.0.inputs i q f b))) h) x i

  -- what holds of a node where it holds of those that it feeds
  module _ (step : (n : Name) → In n body → ((p q : Port) → g.feeder p ≡ Some q → q.node ≡ n → In p.node body → P p.node) → P n) where
    abbrev Closed : List Name → Type 0
    Closed placed = (x : Name) (i : ℕ) (q : Port) → In x placed → g.feeder (port_at x i) ≡ Some q → In q.node body → In q.node placed

    closed_more : (n : Name) (placed : List Name) → IsReady g body placed n → Closed placed → Closed (n ∷ placed)
    closed_more n placed r c x i q (head e) f b = tail (r.inputs i q (ap (λ z. g.feeder (port_at z i)) (sym e) ∙ f) b)
    closed_more n placed r c x i q (tail j) f b = tail (c x i q j f b)

    or_more : (n x : Name) (placed ns : List Name) → In x placed ⊎ In x (n ∷ ns) → In x (n ∷ placed) ⊎ In x ns
    or_more n x placed ns (inl i) = inl (tail i)
    or_more n x placed ns (inr (head e)) = inl (head e)
    or_more n x placed ns (inr (tail i)) = inr i

    fed_at : (n : Name) (placed ns : List Name) → IsReady g body placed n → Closed placed → ((x : Name) → In x ns → P x) → (p q : Port) → g.feeder p ≡ Some q → q.node ≡ n → In p.node placed ⊎ In p.node (n ∷ ns) → P p.node
    fed_at n placed ns r c h p q f e (inl i) = absurd (r.open_yet (subst (λ z. In z placed) e (c p.node p.port q i f (subst (λ z. In z body) (sym e) r.in_body))))
    fed_at n placed ns r c h p q f e (inr (head s)) =
        absurd (r.open_yet (subst (λ z. In z placed) e (r.inputs p.port q (ap (λ z. g.feeder (port_at z p.port)) (sym s) ∙ f) (subst (λ z. In z body) (sym e) r.in_body))))
    fed_at n placed ns r c h p q f e (inr (tail i)) = h p.node i

    pub before_fed : (placed ns : List Name) → InBodyOrder g body placed ns → Closed placed → ((x : Name) → In x body → In x placed ⊎ In x ns) → (x : Name) → In x ns → P x
    before_fed placed [] o c all x i = elim i [ ]
    before_fed placed (n ∷ ns) o c all x (head e) =
        subst P (sym e) (step n o.0.in_body (λ p q f is b.
        fed_at n placed ns o.0 c (before_fed (n ∷ placed) ns o.2 (closed_more n placed o.0 c) (λ y j. or_more n y placed ns (all y j))) p q f is (all p.node b)))
    before_fed placed (n ∷ ns) o c all x (tail i) =
        before_fed (n ∷ placed) ns o.2 (closed_more n placed o.0 c) (λ y j. or_more n y placed ns (all y j)) x i
