-- Ways along edges.
use Rattle.std.proofs.Common.{ℕ, refl, sym, subst, List}
use Rattle.digraph.specs.Edges.{HasEdge}
use Rattle.digraph.specs.Cycles.{Leads, Leads.here, Leads.on}

module _ (rows : List (List ℕ)) where
  pub together : {u v w : ℕ} → Leads rows u v → Leads rows v w → Leads rows u w
  together {w = w} (here e) more = subst (λ n. Leads rows n w) (sym e) more
  together (on k edge rest) more = on k edge (together rest more)

  pub one_edge : {u v : ℕ} → HasEdge rows u v → Leads rows u v
  one_edge {v = v} edge = on v edge (here refl)

  pub further : {u v w : ℕ} → Leads rows u v → HasEdge rows v w → Leads rows u w
  further way edge = together way (one_edge edge)
