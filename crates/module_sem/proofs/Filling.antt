-- A map that is filled with what stands at the nodes of a graph, one id after another.
use Rattle.std.proofs.Common.{◌≡◌, ◌≢◌, ◌⊎◌, inl, inr, ℕ, ◌+◌, ◌<◌, ◌≤◌, Option, Some, None, refl, sym, ap, subst, ◌∙◌, arith}
use Rattle.std.proofs.lemmas.Bool.{cases_lt}
use Rattle.std.proofs.lemmas.Option.{none-some, same_Some}
use Rattle.std.specs.Option.{option_or}
use Rattle.std.specs.FinMap as finite
use Rattle.components.specs.Name.{Name}
use Rattle.components.specs.Node.{Body}
use Rattle.components.specs.Orders.{name_cases}
use Rattle.graph_core.specs.declared.place.NodeId.{NodeId}
use Rattle.graph_core.specs.Place.{index_of, id_of}
use Rattle.graph_core.specs.GraphValue.{GraphValue, Denotes, IsGraph}

-- at the nodes of the ids below k stand the new values, and elsewhere the old ones
pub record SoFar {Q X : Type 0} (g : GraphValue) (node_of : Q → Name) (new old : Q → Option X) (k : ℕ) (now : Q → Option X) : Type 0 where
  pub done : (q : Q) (id : NodeId) → Denotes g id (node_of q) → index_of id < k → now q ≡ new q
  pub rest : (q : Q) → ((id : NodeId) → Denotes g id (node_of q) → k ≤ index_of id) → now q ≡ old q

module _ {Q X : Type 0} (g : GraphValue) (node_of : Q → Name) (new old : Q → Option X) where
  pub so_far_none : (now : Q → Option X) → ((q : Q) → now q ≡ old q) → SoFar g node_of new old 0 now
  so_far_none now same = record { done = λ q id denotes less. absurd (omega arith); rest = λ q far. same q }

  of_index : (id : NodeId) (k : ℕ) → index_of id < k + 1 → k ≤ index_of id → id ≡ id_of k
  of_index id k less more = let same : index_of id ≡ k = omega arith in λ i. record { index = same i }

  module _ (k : ℕ) (now : Q → Option X) (so_far : SoFar g node_of new old k now) where
    pub so_far_dead : (next : Q → Option X) → ((q : Q) → next q ≡ now q) → finite.get g.ids (id_of k) ≡ None → SoFar g node_of new old (k + 1) next
    so_far_dead next same dead =
        record {
          done = λ q id denotes less. same q ∙ elim (cases_lt (index_of id) k) [
            | inl before ↦ so_far.done q id denotes before
            | inr after ↦ absurd (none-some (node_of q) (sym dead ∙ ap (finite.get g.ids) (sym (of_index id k less after)) ∙ denotes))
          ];
          rest = λ q far. same q ∙ so_far.rest q (λ id denotes. let more = far id denotes in omega arith);
        }

    module _ (is : IsGraph g) (name : Name) (live : Denotes g (id_of k) name) where
      -- at the next node stands what stood there
      pub untouched : (q : Q) → node_of q ≡ name → now q ≡ old q
      untouched q here =
          so_far.rest q (λ id denotes.
          let same = is.alone id (id_of k) name (denotes ∙ ap Some here) live in
          let index : index_of id ≡ k = ap index_of same in
          omega arith)

      pub so_far_live : (next : Q → Option X) → ((q : Q) → node_of q ≡ name → next q ≡ new q) → ((q : Q) → node_of q ≢ name → next q ≡ now q) → SoFar g node_of new old (k + 1) next
      so_far_live next there others =
          record {
            done = λ q id denotes less. elim (name_cases (node_of q) name) [
              | inl here ↦ there q here
              | inr away ↦ others q away ∙ elim (cases_lt (index_of id) k) [
                | inl before ↦ so_far.done q id denotes before
                | inr after ↦ absurd (away (same_Some _ _ (sym denotes ∙ ap (finite.get g.ids) (of_index id k less after) ∙ live)))
              ]
            ];
            rest = λ q far. elim (name_cases (node_of q) name) [
              | inl here ↦ let more = far (id_of k) (live ∙ ap Some (sym here)) in absurd (omega arith)
              | inr away ↦ others q away ∙ so_far.rest q (λ id denotes. let more = far id denotes in omega arith)
            ];
          }

    -- each place has its new value or its old one
    pub done_or_not : IsGraph g → (q : Q) → (now q ≡ new q) ⊎ (now q ≡ old q)
    done_or_not is q = at (finite.get g.graph.nodes (node_of q)) refl
      where
        at : (o : Option Body) → finite.get g.graph.nodes (node_of q) ≡ o → (now q ≡ new q) ⊎ (now q ≡ old q)
        at None e = inr (so_far.rest q (λ id denotes. absurd (none-some _ (sym e ∙ (is.denoted id (node_of q) denotes).1))))
        at (Some body) e =
            let (id, denotes) = is.live (node_of q) body e in
            elim (cases_lt (index_of id) k) [
              | inl before ↦ inl (so_far.done q id denotes before)
              | inr after ↦ inr (so_far.rest q (λ other also. subst (λ z. k ≤ index_of z) (is.alone id other (node_of q) denotes also) after))
            ]

  or_none : {A : Type 0} (o : Option A) → option_or o None ≡ o
  or_none None = refl
  or_none (Some x) = refl

  -- with all ids done, the old values stand before the new ones, where the two have no place in common
  pub filled : IsGraph g → (now : Q → Option X) → SoFar g node_of new old g.slots now → ((q : Q) (body : Body) → finite.get g.graph.nodes (node_of q) ≡ Some body → old q ≡ None)
      → ((q : Q) → finite.get g.graph.nodes (node_of q) ≡ None → new q ≡ None) → (q : Q) → now q ≡ option_or (old q) (new q)
  filled is now so_far free away q = at (finite.get g.graph.nodes (node_of q)) refl
    where
      at : (o : Option Body) → finite.get g.graph.nodes (node_of q) ≡ o → now q ≡ option_or (old q) (new q)
      at None e =
          so_far.rest q (λ id denotes. absurd (none-some _ (sym e ∙ (is.denoted id (node_of q) denotes).1)))
          ∙ sym (or_none (old q)) ∙ ap (option_or (old q)) (sym (away q e))
      at (Some body) e =
          let (id, denotes) = is.live (node_of q) body e in
          so_far.done q id denotes (is.within id (node_of q) denotes) ∙ ap (λ o. option_or o (new q)) (sym (free q body e))
