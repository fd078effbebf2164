-- Paths through Buffers: each has one start and one end, and what stands on it is known.
use Rattle.std.proofs.Common.{◌≡◌, ◌⊎◌, inl, inr, refl, sym, ap, subst, ◌∙◌, List, [], ◌∷◌, ◌++◌, Some}
use Rattle.std.proofs.lemmas.Option.{same_Some}
use Rattle.components.specs.Name.{Name, Port}
use Rattle.circuits.specs.Circuit.{Circuit, Typed}
use Rattle.circuits.specs.Replacing.{In, In.head, In.tail}
use Rattle.loop_laws.specs.Reached.{port_at, HasKind}
use Rattle.loop_laws.specs.BackPath.{IsBuffer, Through}

-- the same path, from its end back
abbrev pub Backward : Circuit → Port → List Name → Port → Type 0
Backward g p [] q = g.feeder p ≡ Some q
Backward g p (b ∷ bs) q = HasKind g IsBuffer b × (g.feeder p ≡ Some (port_at b 1)) × Backward g (port_at b 1) bs q

abbrev pub turned : List Name → List Name
turned [] = []
turned (b ∷ bs) = turned bs ++ b ∷ []

longer : (g : Circuit) (p q : Port) (bs : List Name) (c : Name) → Backward g p bs (port_at c 1) → HasKind g IsBuffer c → g.feeder (port_at c 1) ≡ Some q → Backward g p (bs ++ c ∷ []) q
longer g p q [] c t k f = (k, t, f)
longer g p q (b ∷ bs) c t k f = (t.0, t.1, longer g (port_at b 1) q bs c t.2 k f)

pub backward : (g : Circuit) (q : Port) (bs : List Name) (p : Port) → Through g q bs p → Backward g p (turned bs) q
backward g q [] p t = t
backward g q (b ∷ bs) p t = longer g p q (turned bs) b (backward g (port_at b 1) bs p t.2) t.0 t.1

same_back : (g : Circuit) (p : Port) (bs cs : List Name) (q r : Port) → Backward g p bs q → Backward g p cs r → (HasKind g IsBuffer q.node → ⊥) → (HasKind g IsBuffer r.node → ⊥) → (q ≡ r) × (bs ≡ cs)
same_back g p [] [] q r s t nq nr = (same_Some q r (sym s ∙ t), refl)
same_back g p [] (c ∷ cs) q r s t nq nr = absurd (nq (subst (λ (z : Port). HasKind g IsBuffer z.node) (same_Some (port_at c 1) q (sym t.1 ∙ s)) t.0))
same_back g p (b ∷ bs) [] q r s t nq nr = absurd (nr (subst (λ (z : Port). HasKind g IsBuffer z.node) (same_Some (port_at b 1) r (sym s.1 ∙ t)) s.0))
same_back g p (b ∷ bs) (c ∷ cs) q r s t nq nr =
    let e : port_at b 1 ≡ port_at c 1 = same_Some (port_at b 1) (port_at c 1) (sym s.1 ∙ t.1) in
    let rest = same_back g (port_at b 1) bs cs q r s.2 (subst (λ z. Backward g z cs r) (sym e) t.2) nq nr in
    (rest.0, ap (λ z. z ∷ bs) (ap (λ (z : Port). z.node) e) ∙ ap (λ z. c ∷ z) rest.1)

-- two paths to one end have one start
pub same_start : (g : Circuit) (p : Port) (bs cs : List Name) (q r : Port) → Through g q bs p → Through g r cs p → (HasKind g IsBuffer q.node → ⊥) → (HasKind g IsBuffer r.node → ⊥) → (q ≡ r) × (turned bs ≡ turned cs)
same_start g p bs cs q r s t nq nr = same_back g p (turned bs) (turned cs) q r (backward g q bs p s) (backward g r cs p t) nq nr

-- what stands on a path through Buffers is a Buffer
pub path_buffer : (g : Circuit) (q : Port) (bs : List Name) (p : Port) (b : Name) → Through g q bs p → In b bs → HasKind g IsBuffer b
path_buffer g q [] p b t i = elim i [ ]
path_buffer g q (c ∷ cs) p b t (head e) = subst (HasKind g IsBuffer) (sym e) t.0
path_buffer g q (c ∷ cs) p b t (tail i) = path_buffer g (port_at c 1) cs p b t.2 i

-- what feeds the end of a path, and a Buffer on it
pub path_end : (g : Circuit) (q : Port) (bs : List Name) (p r : Port) → Through g q bs p → g.feeder p ≡ Some r → (r ≡ q) ⊎ In r.node bs
path_end g q [] p r t f = inl (same_Some r q (sym f ∙ t))
path_end g q (c ∷ cs) p r t f =
    elim (path_end g (port_at c 1) cs p r t.2 f) [ inl e ↦ inr (head (ap (λ (z : Port). z.node) e)) | inr i ↦ inr (tail i) ]

pub path_inside : (g : Circuit) (q : Port) (bs : List Name) (p : Port) (b : Name) (r : Port) → Through g q bs p → In b bs → g.feeder (port_at b 1) ≡ Some r → (r ≡ q) ⊎ In r.node bs
path_inside g q [] p b r t i f = elim i [ ]
path_inside g q (c ∷ cs) p b r t (head e) f = inl (same_Some r q (sym f ∙ ap (λ z. g.feeder (port_at z 1)) e ∙ t.1))
path_inside g q (c ∷ cs) p b r t (tail i) f =
    elim (path_inside g (port_at c 1) cs p b r t.2 i f) [ inl e ↦ inr (head (ap (λ (z : Port). z.node) e)) | inr j ↦ inr (tail j) ]

-- what the start of a path feeds, and a Buffer on it
pub path_out : (g : Circuit) → Typed g → (q : Port) (bs : List Name) (p r : Port) → Through g q bs p → g.feeder r ≡ Some q → (r ≡ p) ⊎ In r.node bs
path_out g ty q [] p r t f = inl (ty.once r p q f t)
path_out g ty q (c ∷ cs) p r t f = inr (head (ap (λ (z : Port). z.node) (ty.once r (port_at c 1) q f t.1)))

pub path_on : (g : Circuit) → Typed g → (q : Port) (bs : List Name) (p : Port) (b : Name) (r : Port) → Through g q bs p → In b bs → g.feeder r ≡ Some (port_at b 1) → (r ≡ p) ⊎ In r.node bs
path_on g ty q [] p b r t i f = elim i [ ]
path_on g ty q (c ∷ cs) p b r t (head e) f =
    elim (path_out g ty (port_at c 1) cs p r t.2 (f ∙ ap (λ z. Some (port_at z 1)) e)) [ inl x ↦ inl x | inr i ↦ inr (tail i) ]
path_on g ty q (c ∷ cs) p b r t (tail i) f =
    elim (path_on g ty (port_at c 1) cs p b r t.2 i f) [ inl x ↦ inl x | inr j ↦ inr (tail j) ]

-- the rest of a path behind a Buffer on it
pub path_rest : (g : Circuit) (q : Port) (bs : List Name) (p : Port) (b : Name) → Through g q bs p → In b bs → (rest : List Name) × Through g (port_at b 1) rest p
path_rest g q [] p b t i = elim i [ ]
path_rest g q (c ∷ cs) p b t (head e) = (cs, subst (λ z. Through g (port_at z 1) cs p) (sym e) t.2)
path_rest g q (c ∷ cs) p b t (tail i) = path_rest g (port_at c 1) cs p b t.2 i

pub same_end : (g : Circuit) → Typed g → (q : Port) (bs cs : List Name) (p r : Port) → Through g q bs p → Through g q cs r → (HasKind g IsBuffer p.node → ⊥) → (HasKind g IsBuffer r.node → ⊥) → p ≡ r
same_end g ty q [] [] p r s t np nr = ty.once p r q s t
same_end g ty q [] (c ∷ cs) p r s t np nr = absurd (np (subst (λ (z : Port). HasKind g IsBuffer z.node) (ty.once (port_at c 1) p q t.1 s) t.0))
same_end g ty q (b ∷ bs) [] p r s t np nr = absurd (nr (subst (λ (z : Port). HasKind g IsBuffer z.node) (ty.once (port_at b 1) r q s.1 t) s.0))
same_end g ty q (b ∷ bs) (c ∷ cs) p r s t np nr =
    same_end g ty (port_at b 1) bs cs p r s.2 (subst (λ z. Through g z cs r) (ty.once (port_at c 1) (port_at b 1) q t.1 s.1) t.2) np nr
