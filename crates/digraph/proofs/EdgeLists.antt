-- Edges of graphs that are changed.
use Rattle.std.proofs.Common.{◌≡◌, ◌≢◌, ◌⊎◌, ◌↔◌, inl, inr, ℕ, ◌+◌, ◌<◌, ◌≤◌, refl, sym, ap, subst, ◌∙◌, List, [], ◌∷◌, ◌++◌, length, set, replicate, Some, Result, Ok, Err, OnOk, OnErr, arith}
use Rattle.std.specs.Prelude.{slice_get}
use Rattle.std.proofs.lemmas.Bool.Decides.{eqb_tells}
use Rattle.std.proofs.lemmas.Option.{same_Some, none-some}
use Rattle.port_types.specs.declared.memory.NoMemory.{NoMemory}
use Rattle.digraph.specs.Edges.{HasEdge, IsWithin, IsWithEdge, IsReversed, IsWithReversed}
use Rattle.digraph.proofs.Places.{got_below, got_before, got_first, got_last, set_here, set_elsewhere, set_as_it_is, set_length, repeated, length_repeated}

pub no_edges : (n u v : ℕ) → ¬ (HasEdge (replicate n []) u v)
no_edges n u v e = absurd (none-some v (subst (λ row. slice_get row e.place ≡ Some v) (repeated n u [] e.row e.is_row) e.is_there))

-- the graph with a further vertex behind the row of one
module _ (rows : List (List ℕ)) (from : ℕ) (row : List ℕ) (at : slice_get rows from ≡ Some row) (less : from < length rows) (to : ℕ) where
  after : List (List ℕ)
  after = set rows from (row ++ to ∷ [])

  new_row : slice_get after from ≡ Some (row ++ to ∷ [])
  unfolding after
  new_row = set_here rows from (row ++ to ∷ []) less

  other_row : (u : ℕ) → u ≢ from → slice_get after u ≡ slice_get rows u
  unfolding after
  other_row u apart = set_elsewhere rows from u (row ++ to ∷ []) apart

  edge_before : (u v : ℕ) → HasEdge after u v → HasEdge rows u v ⊎ ((u ≡ from) × (v ≡ to))
  edge_before u v e =
      elim (eqb_tells u from) [
        | inl here ↦
            let is_new : row ++ to ∷ [] ≡ e.row = same_Some (row ++ to ∷ []) e.row (sym new_row ∙ subst (λ n. slice_get after n ≡ Some e.row) here.1 e.is_row) in
            elim (got_last row to v e.place (subst (λ r. slice_get r e.place ≡ Some v) (sym is_new) e.is_there)) [
              | inl old ↦ inl (record { row = row; place = e.place; is_row = subst (λ n. slice_get rows n ≡ Some row) (sym here.1) at; is_there = old })
              | inr last ↦ inr (here.1, last.1)
            ]
        | inr apart ↦ inl (record { row = e.row; place = e.place; is_row = sym (other_row u apart.1) ∙ e.is_row; is_there = e.is_there })
      ]

  edge_after : (u v : ℕ) → HasEdge rows u v → HasEdge after u v
  edge_after u v e =
      elim (eqb_tells u from) [
        | inl here ↦
            let is_row : row ≡ e.row = same_Some row e.row (sym at ∙ subst (λ n. slice_get rows n ≡ Some e.row) here.1 e.is_row) in
            record {
              row = row ++ to ∷ [];
              place = e.place;
              is_row = subst (λ n. slice_get after n ≡ Some (row ++ to ∷ [])) (sym here.1) new_row;
              is_there = got_before row (to ∷ []) e.place v (subst (λ r. slice_get r e.place ≡ Some v) (sym is_row) e.is_there);
            }
        | inr apart ↦ record { row = e.row; place = e.place; is_row = other_row u apart.1 ∙ e.is_row; is_there = e.is_there }
      ]

  new_edge : HasEdge after from to
  new_edge = record { row = row ++ to ∷ []; place = length row; is_row = new_row; is_there = got_first row to [] }

  pub with_edge : IsWithEdge rows from to (set rows from (row ++ to ∷ []))
  unfolding after
  with_edge =
      record {
        size = set_length rows from (row ++ to ∷ []);
        edges = λ u v. (
          edge_before u v,
          λ either. elim either [
            | inl old ↦ edge_after u v old
            | inr new ↦ subst (λ n. HasEdge after n v) (sym new.0) (subst (λ n. HasEdge after from n) (sym new.1) new_edge)
          ],
        );
      }

within_with : {rows after : List (List ℕ)} {from to : ℕ} → IsWithEdge rows from to after → IsWithin rows → to < length rows → IsWithin after
within_with {rows = rows} {after = after} with_it within fits u v e =
    let less : v < length rows = elim ((with_it.edges u v).0 e) [ inl old ↦ within u v old | inr new ↦ subst (λ n. n < length rows) (sym new.1) fits ] in
    omega (arith, less, with_it.size)

-- the same whether there was memory or not
module _ (rows : List (List ℕ)) (from to : ℕ) (row put : List ℕ) (at : slice_get rows from ≡ Some row) (less : from < length rows) where
  pub with_edge_if : (r : Result (Unit {0}) NoMemory) → OnOk r (put ≡ row ++ to ∷ []) → OnOk r (IsWithEdge rows from to (set rows from put))
  with_edge_if (Ok u) ok = subst (λ p. IsWithEdge rows from to (set rows from p)) (sym ok) (with_edge rows from row at less to)
  with_edge_if (Err e) ok = tt

  pub as_it_was_if : (r : Result (Unit {0}) NoMemory) → OnErr r (put ≡ row) → OnErr r (set rows from put ≡ rows)
  as_it_was_if (Ok u) err = tt
  as_it_was_if (Err e) err = set_as_it_is rows from put (at ∙ ap Some (sym err))

  pub within_after : (r : Result (Unit {0}) NoMemory) → OnOk r (put ≡ row ++ to ∷ []) → OnErr r (put ≡ row) → IsWithin rows → to < length rows → IsWithin (set rows from put)
  within_after (Ok u) ok err within fits = within_with (with_edge_if (Ok u) ok) within fits
  within_after (Err e) ok err within fits = subst IsWithin (sym (as_it_was_if (Err e) err)) within

-- edges turned round

-- the edges to the first vertices of the row are there, turned round
pub record Turned (rows : List (List ℕ)) (from : ℕ) (row : List ℕ) (before : List (List ℕ)) (place : ℕ) (now : List (List ℕ)) : Type 0 where
  pub size : length now ≡ length before
  pub old : (u v : ℕ) → HasEdge before v u → HasEdge now v u
  pub new : (k v : ℕ) → k < place → slice_get row k ≡ Some v → HasEdge now v from
  pub only : (u v : ℕ) → HasEdge now v u → HasEdge before v u ⊎ ((u ≡ from) × HasEdge rows from v)

module _ (rows : List (List ℕ)) (from : ℕ) (row : List ℕ) (before : List (List ℕ)) where
  pub turned_none : Turned rows from row before 0 before
  turned_none = record { size = refl; old = λ u v e. e; new = λ k v less got. absurd (omega arith); only = λ u v e. inl e }

  pub turned_more : slice_get rows from ≡ Some row → (place to : ℕ) (now then : List (List ℕ)) → slice_get row place ≡ Some to → Turned rows from row before place now → IsWithEdge now to from then → Turned rows from row before (place + 1) then
  turned_more at place to now then got t more =
      record {
        size = more.size ∙ t.size;
        old = λ u v e. (more.edges v u).1 (inl (t.old u v e));
        new = λ k v less got_k.
            elim (eqb_tells k place) [
              | inl here ↦
                  let same : to ≡ v = same_Some to v (sym got ∙ subst (λ n. slice_get row n ≡ Some v) here.1 got_k) in
                  (more.edges v from).1 (inr (sym same, refl))
              | inr apart ↦ (more.edges v from).1 (inl (t.new k v (let ne : k ≢ place = apart.1 in omega (arith, ne)) got_k))
            ];
        only = λ u v e.
            elim ((more.edges v u).0 e) [
              | inl old ↦ t.only u v old
              | inr new ↦ inr (new.1, record { row = row; place = place; is_row = at; is_there = got ∙ ap Some (sym new.0) })
            ];
      }

  pub turned_all : slice_get rows from ≡ Some row → (place : ℕ) (now : List (List ℕ)) → Turned rows from row before place now → length row ≤ place → IsWithReversed rows from before now
  turned_all at place now t done =
      record {
        size = t.size;
        edges = λ u v. (
          t.only u v,
          λ either. elim either [
            | inl old ↦ t.old u v old
            | inr new ↦
                let is_row : row ≡ new.1.row = same_Some row new.1.row (sym at ∙ new.1.is_row) in
                let got : slice_get row new.1.place ≡ Some v = subst (λ r. slice_get r new.1.place ≡ Some v) (sym is_row) new.1.is_there in
                let less : new.1.place < length row = got_below row new.1.place v got in
                subst (λ n. HasEdge now v n) (sym new.0) (t.new new.1.place v (omega (arith, less)) got)
          ],
        );
      }

-- the edges from the first vertices are there, turned round
pub record TurnedBelow (rows : List (List ℕ)) (count : ℕ) (now : List (List ℕ)) : Type 0 where
  pub size : length now ≡ length rows
  pub edges : (u v : ℕ) → HasEdge now v u ↔ ((u < count) × HasEdge rows u v)

module _ (rows : List (List ℕ)) where
  pub turned_below_none : (now : List (List ℕ)) → now ≡ replicate (length rows) [] → TurnedBelow rows 0 now
  turned_below_none now is =
      subst (TurnedBelow rows 0) (sym is)
      (record { size = length_repeated (length rows) []; edges = λ u v. (λ e. absurd (no_edges (length rows) v u e), λ e. absurd (let less : u < 0 = e.0 in omega (arith, less))) })

  pub turned_below_more : (count : ℕ) (now then : List (List ℕ)) → TurnedBelow rows count now → IsWithReversed rows count now then → TurnedBelow rows (count + 1) then
  turned_below_more count now then t more =
      record {
        size = more.size ∙ t.size;
        edges = λ u v. (
          λ e. elim ((more.edges u v).0 e) [
            | inl old ↦ let b = (t.edges u v).0 old in (let less = b.0 in omega (arith, less), b.1)
            | inr new ↦ (omega (arith, new.0), subst (λ n. HasEdge rows n v) (sym new.0) new.1)
          ],
          λ b. (more.edges u v).1 (elim (eqb_tells u count) [
            | inl here ↦ inr (here.1, subst (λ n. HasEdge rows n v) here.1 b.1)
            | inr apart ↦ inl ((t.edges u v).1 (let ne : u ≢ count = apart.1 in let less = b.0 in omega (arith, ne, less), b.1))
          ]),
        );
      }

  pub turned_below_all : (count : ℕ) (now : List (List ℕ)) → TurnedBelow rows count now → length rows ≤ count → IsReversed rows now
  turned_below_all count now t done =
      record { size = t.size; edges = λ u v. (λ e. ((t.edges u v).0 e).1, λ e. (t.edges u v).1 (let less = got_below rows u e.row e.is_row in omega (arith, less, done), e)) }
