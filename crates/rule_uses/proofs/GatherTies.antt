-- The replacement of a body by the Pure with its function is the graph with the body gathered.
use Rattle.std.proofs.Common.{◌≡◌, ◌≢◌, ◌⊎◌, inl, inr, ℕ, zero, suc, true, false, refl, sym, ap, subst, ◌∙◌, if◌then◌else◌, bytes_eq, List, [], ◌∷◌, ◌++◌, map, length, Option, Some, None}
use Rattle.std.proofs.lemmas.Option.{none-some, same_Some}
use Rattle.components.specs.declared.kind.Kind.TheVariants.{Fork}
use Rattle.components.specs.Name.{Name, Port, port_get}
use Rattle.components.specs.Orders.{same_bytes, other_bytes}
use Rattle.circuits.specs.Circuit.{Circuit}
use Rattle.circuits.specs.Replacing.{is_inner, In, head, tail, NoneTwice}
use Rattle.circuit_plans.specs.Plans.{Out, Plan, Naming, out_by, built}
use Rattle.circuit_plans.specs.Drawing.{port_named}
use Rattle.circuit_plans.specs.Places.{number}
use Rattle.circuit_plans.proofs.Places.{in_places}
use Rattle.circuit_plans.proofs.Namings.{each_in}
use Rattle.circuit_plans.proofs.Plans.{kind_named, name_inj}
use Rattle.fun_expr.specs.Function.{Function}
use Rattle.body_laws.specs.Bodies.{Body}
use Rattle.body_laws.specs.BodyPlans as plans
use Rattle.body_laws.specs.BodyPlans.{Part, enter, vars, node, Way, body_plan, Gathered, entry, pure, pair, vals, fork, way, gathered_plan, gathered_kind, gathered_source, way_out, out_of, next_shapes, shape_of, GatherEnds}
use Rattle.loop_laws.specs.Reached.{port_at}
use Rattle.loop_turns.proofs.LoopLookups.{has_true, has_false, new_none, new_found}
use Rattle.loop_turns.specs.Rebuilt.{new_at, has_name, kind_or, source_or}
use Rattle.loop_turns.specs.Lanes.{next_place}
use Rattle.loop_turns.specs.GatherChain.{name_place, GatherUse, use_pure, use_pair, use_vals, use_fork, gather_uses, gather_use_kind, gather_use_source, gather_taken, gather_made}
use Rattle.rule_uses.specs.Gather.{use_node, data_inputs, condition_inputs, node_names, IsGatherPlace}
use Rattle.rule_uses.specs.Laws.{GatherMakes}
use Rattle.rule_uses.proofs.LaneNames.{each_member}
use Rattle.rule_uses.proofs.Made.{goes, comes, NoNew, NoOld, inside, from_outside, Stands, KeptSource, Crosses, IsMade, made_is}

-- Ports by numbers

mapped_at : {A B : Type 0} (f : A → B) (xs : List A) (j : ℕ) (t : B) → port_get (map f xs) j ≡ Some t → (x : A) × (port_get xs j ≡ Some x) × (t ≡ f x)
mapped_at f [] j t e = absurd (none-some t e)
mapped_at f (x ∷ xs) zero t e = absurd (none-some t e)
mapped_at f (x ∷ xs) (suc zero) t e = (x, refl, sym (same_Some (f x) t e))
mapped_at f (x ∷ xs) (suc (suc j)) t e = mapped_at f xs (suc j) t e

last_or : {A : Type 0} (xs : List A) (y : A) (j : ℕ) (t : A) → port_get (xs ++ y ∷ []) j ≡ Some t → (port_get xs j ≡ Some t) ⊎ ((j ≡ suc (length xs)) × (t ≡ y))
last_or [] y zero t e = absurd (none-some t e)
last_or [] y (suc zero) t e = inr (refl, sym (same_Some y t e))
last_or [] y (suc (suc j)) t e = absurd (none-some t e)
last_or (x ∷ xs) y zero t e = absurd (none-some t e)
last_or (x ∷ xs) y (suc zero) t e = inl e
last_or (x ∷ xs) y (suc (suc j)) t e = elim (last_or xs y (suc j) t e) [ inl there ↦ inl there | inr is ↦ inr (ap suc is.0, is.1) ]

map_length : {A B : Type 0} (f : A → B) (xs : List A) → length (map f xs) ≡ length xs
map_length f [] = refl
map_length f (x ∷ xs) = ap suc (map_length f xs)

at_in : (xs : List Name) (j : ℕ) (r : Name) → port_get xs j ≡ Some r → In r xs
at_in [] j r e = absurd (none-some r e)
at_in (x ∷ xs) zero r e = absurd (none-some r e)
at_in (x ∷ xs) (suc zero) r e = head (sym (same_Some x r e))
at_in (x ∷ xs) (suc (suc j)) r e = tail (at_in xs (suc j) r e)

-- the number of a name in a list
place_at_number : (rs : List Name) (j : ℕ) (r : Name) → NoneTwice rs → port_get rs j ≡ Some r → name_place rs r ≡ Some j
place_at_number [] j r once e = absurd (none-some r e)
place_at_number (x ∷ rs) zero r once e = absurd (none-some r e)
place_at_number (x ∷ rs) (suc zero) r once e = ap (λ b. if b then Some 1 else next_place (name_place rs r)) (same_bytes x r (same_Some x r e))
place_at_number (x ∷ rs) (suc (suc j)) r once e =
    ap (λ b. if b then Some 1 else next_place (name_place rs r)) (other_bytes x r (each_in (λ y. x ≢ y) rs r once.0 (at_in rs (suc j) r e)))
    ∙ ap next_place (place_at_number rs (suc j) r once.1 e)

no_place : (rs : List Name) (n : Name) → (In n rs → ⊥) → name_place rs n ≡ None
no_place [] n away = refl
no_place (x ∷ rs) n away =
    ap (λ b. if b then Some 1 else next_place (name_place rs n)) (other_bytes x n (λ e. away (head (sym e)))) ∙ ap next_place (no_place rs n (λ i. away (tail i)))

use_in : (x : GatherUse) → In x gather_uses
use_in use_pure = head refl
use_in use_pair = tail (head refl)
use_in use_vals = tail (tail (head refl))
use_in use_fork = tail (tail (tail (head refl)))

module _ (g : Circuit) (b : Body) (f : Function) (old : Naming (Part b (Way b))) (new : Naming (Gathered b)) (ends : GatherEnds b new old) (rs : List Name) (m : Name)
    (place : IsGatherPlace g b old rs m) (once : (p r q : Port) → g.feeder p ≡ Some q → g.feeder r ≡ Some q → p ≡ r) where
  abbrev left : Plan (Part b (Way b))
  left = body_plan b

  abbrev right : Plan (Gathered b)
  right = gathered_plan b f

  abbrev gone : List Name
  gone = old.name vars ∷ node_names b old

  abbrev name : GatherUse → Name
  name x = new.name (use_node x)

  abbrev made : Circuit
  made = gather_made g (old.name vars) (node_names b old) rs m f (next_shapes b) name

  abbrev kept_source : Port → Option Port → Option Port
  kept_source p s = gather_taken name (length rs) (name_place rs p.node) (bytes_eq p.node m) p.port s

  condition_taken : (j : ℕ) (t q : Port) → port_get (condition_inputs rs m) j ≡ Some t → kept_source t (Some q) ≡ Some (port_at (name use_fork) j)
  condition_taken j t q e =
      elim (last_or (map (λ r. port_at r 2) rs) (port_at m 1) j t e) [
        | inl there ↦
            let (r, at, is) = mapped_at (λ r. port_at r 2) rs j t there in
            ap (λ (z : Port). kept_source z (Some q)) is ∙ ap (λ o. gather_taken name (length rs) o (bytes_eq r m) 2 (Some q)) (place_at_number rs j r place.differ at)
        | inr last ↦
            ap (λ (z : Port). kept_source z (Some q)) last.1
            ∙ ap (λ o. gather_taken name (length rs) o (bytes_eq m m) 1 (Some q)) (no_place rs m place.mark_apart)
            ∙ ap (λ c. gather_taken name (length rs) None c 1 (Some q)) (same_bytes m m refl)
            ∙ ap (λ k. Some (port_at (name use_fork) k)) (ap suc (sym (map_length (λ r. port_at r 2) rs)) ∙ sym last.0)
      ]

  data_taken : (j : ℕ) (t q : Port) → port_get (data_inputs rs) j ≡ Some t → kept_source t (Some q) ≡ Some (port_at (name use_vals) j)
  data_taken j t q e =
      let (r, at, is) = mapped_at (λ r. port_at r 1) rs j t e in
      ap (λ (z : Port). kept_source z (Some q)) is ∙ ap (λ o. gather_taken name (length rs) o (bytes_eq r m) 1 (Some q)) (place_at_number rs j r place.differ at)

  crossing : (w : Way b) (q : Port) → Stands g left old right new (gathered_source b (way w) 1) (kept_source (place.input w) (Some q))
  crossing (plans.next p) q = inside refl (data_taken (number b.next p) (place.input (plans.next p)) q (place.is_input (plans.next p)))
  crossing plans.condition q = inside refl (condition_taken 1 (place.input plans.condition) q (place.is_input plans.condition))
  crossing (plans.other p) q = inside refl (condition_taken (suc (number b.others p)) (place.input (plans.other p)) q (place.is_input (plans.other p)))

  crosses_at : (p q : Port) (c : Out (Part b (Way b))) → g.feeder p ≡ Some q → q ≡ port_named old.name c → (n : Part b (Way b)) (i : ℕ) → left.source n i ≡ Some c →
      goes g left old right new n ≡ false → (x : Gathered b) × (new.name x ≡ old.name n) × Stands g left old right new (right.source x i) (kept_source p (Some q))
  crosses_at p q c fed is enter i source away = absurd (none-some c source)
  crosses_at p q c fed is vars i source away = cc
  crosses_at p q c fed is (node k) i source away = let no : true ≡ false = sym (place.inner k) ∙ away in cc
  crosses_at p q c fed is (plans.tail w) zero source away = absurd (none-some c source)
  crosses_at p q c fed is (plans.tail w) (suc zero) source away =
      let at : place.input w ≡ p = once (place.input w) p q (place.fed w ∙ ap (out_by old) source ∙ ap Some (sym is)) fed in
      (way w, ends.ways w, subst (λ (z : Port). Stands g left old right new (gathered_source b (way w) 1) (kept_source z (Some q))) at (crossing w q))
  crosses_at p q c fed is (plans.tail w) (suc (suc i)) source away = absurd (none-some c source)

  crosses : (p q : Port) (c : Out (Part b (Way b))) → g.feeder p ≡ Some q → q ≡ port_named old.name c → Crosses g left old right new c (kept_source p (Some q))
  crosses p q c fed is t source away = crosses_at p q c fed is t.at t.port source away

  gone_inner : (n : Name) → In n gone → is_inner ((built left old).kind_at n) ≡ true
  gone_inner n (head e) = ap (λ z. is_inner ((built left old).kind_at z)) e ∙ ap is_inner (kind_named left old vars)
  gone_inner n (tail i) =
      let (p, e) = each_member b.nodes (λ p. old.name (node p)) n i in
      ap (λ z. is_inner ((built left old).kind_at z)) e ∙ ap is_inner (kind_named left old (node p)) ∙ place.inner p

  inner_gone : (n : Part b (Way b)) → goes g left old right new n ≡ true → In (old.name n) gone
  inner_gone enter e = cc
  inner_gone vars e = head refl
  inner_gone (node p) e = tail (in_places b.nodes (λ p. old.name (node p)) p)
  inner_gone (plans.tail w) e = cc

  not_gone : (n : Name) → NoOld g left old right new n → has_name gone n ≡ false
  not_gone n away = has_false gone n (λ i. let no : true ≡ false = sym (gone_inner n i) ∙ away in cc)

  -- what stays and is fed from elsewhere
  other_kept : (p q : Port) → g.feeder p ≡ Some q → NoOld g left old right new q.node → kept_source p (Some q) ≡ Some q
  other_kept p q fed away =
      ap (λ o. gather_taken name (length rs) o (bytes_eq p.node m) p.port (Some q)) (no_place rs p.node (λ i. outside (inl i)))
      ∙ ap (λ c. gather_taken name (length rs) None c p.port (Some q)) (other_bytes p.node m (λ e. outside (inr e)))
    where
      outside : In p.node rs ⊎ (p.node ≡ m) → ⊥
      outside h = let no : true ≡ false = sym (gone_inner q.node (place.only_fed p q h fed)) ∙ away in cc

  kept : (p : Port) (s : Option Port) → g.feeder p ≡ s → KeptSource g left old right new s (kept_source p s)
  kept p None e = refl
  kept p (Some q) e = (other_kept p q e, (λ c is inner. crosses p q c e is))

  apart : (x y : GatherUse) → In x gather_uses → In y gather_uses → name x ≡ name y → x ≡ y
  apart x y i j e = use_same x y (name_inj right new (use_node x) (use_node y) e)
    where
      use_same : (x y : GatherUse) → use_node {b = b} x ≡ use_node y → x ≡ y
      use_same use_pure use_pure e = refl
      use_same use_pair use_pair e = refl
      use_same use_vals use_vals e = refl
      use_same use_fork use_fork e = refl
      use_same _ _ e = cc

  found : (x : GatherUse) → new_at name gather_uses (name x) ≡ Some x
  found x = new_found name gather_uses apart x (use_in x)

  comes_use : (x : GatherUse) → comes g left old right new (use_node x) ≡ true
  comes_use use_pure = refl
  comes_use use_pair = refl
  comes_use use_vals = refl
  comes_use use_fork = refl

  none_new : (n : Name) → NoNew g left old right new n → new_at name gather_uses n ≡ None
  none_new n away =
      new_none name gather_uses n
      (λ x i e.
      let no : true ≡ false = sym (comes_use x) ∙ ap is_inner (sym (kind_named right new (use_node x))) ∙ ap (λ z. is_inner ((built right new).kind_at z)) e ∙ away in
      cc)

  new_kind : (x : GatherUse) → gather_use_kind f (next_shapes b) x ≡ gathered_kind b f (use_node x)
  new_kind use_pure = refl
  new_kind use_pair = refl
  new_kind use_vals = refl
  new_kind use_fork = ap (λ k. Fork (1 ∷ []) (suc k)) (map_length (λ q. shape_of b q) b.next ∙ place.lanes ∙ sym place.as_many)

  new_source : (x : GatherUse) (i : ℕ) → Stands g left old right new (gathered_source b (use_node x) i) (gather_use_source g (old.name vars) name x i)
  new_source use_pure zero = refl
  new_source use_pure (suc zero) = from_outside enter (record { at = vars; port = 1 }) refl ends.entry refl refl
  new_source use_pure (suc (suc i)) = refl
  new_source use_pair zero = refl
  new_source use_pair (suc zero) = inside refl refl
  new_source use_pair (suc (suc i)) = refl
  new_source use_vals zero = refl
  new_source use_vals (suc zero) = inside refl refl
  new_source use_vals (suc (suc i)) = refl
  new_source use_fork zero = refl
  new_source use_fork (suc zero) = inside refl refl
  new_source use_fork (suc (suc i)) = refl

  use_kinds : (x : GatherUse) → made.kind_at (name x) ≡ Some (gathered_kind b f (use_node x))
  use_kinds x = ap (λ o. kind_or (gather_use_kind f (next_shapes b)) o (if has_name gone (name x) then None else g.kind_at (name x))) (found x) ∙ ap Some (new_kind x)

  use_sources : (x : GatherUse) (i : ℕ) → Stands g left old right new (gathered_source b (use_node x) i) (made.feeder (port_at (name x) i))
  use_sources x i =
      subst (Stands g left old right new (gathered_source b (use_node x) i))
      (sym (ap (λ o. source_or (gather_use_source g (old.name vars) name) o i (if has_name gone (name x) then None else kept_source (port_at (name x) i) (g.feeder (port_at (name x) i)))) (found x)))
      (new_source x i)

  new_kinds : (n : Gathered b) → comes g left old right new n ≡ true → made.kind_at (new.name n) ≡ Some (right.kind n)
  new_kinds entry e = cc
  new_kinds pure e = use_kinds use_pure
  new_kinds pair e = use_kinds use_pair
  new_kinds vals e = use_kinds use_vals
  new_kinds fork e = use_kinds use_fork
  new_kinds (way w) e = cc

  new_sources : (n : Gathered b) (i : ℕ) → comes g left old right new n ≡ true → Stands g left old right new (right.source n i) (made.feeder (port_at (new.name n) i))
  new_sources entry i e = cc
  new_sources pure i e = use_sources use_pure i
  new_sources pair i e = use_sources use_pair i
  new_sources vals i e = use_sources use_vals i
  new_sources fork i e = use_sources use_fork i
  new_sources (way w) i e = cc

  pub gather_is_made : IsMade g left old right new made
  gather_is_made =
      record {
        new_kinds = new_kinds;
        new_sources = new_sources;
        gone_kinds = λ n c away.
            ap (λ o. kind_or (gather_use_kind f (next_shapes b)) o (if has_name gone (old.name n) then None else g.kind_at (old.name n))) (none_new (old.name n) away)
            ∙ ap (λ t. if t then None else g.kind_at (old.name n)) (has_true gone (old.name n) (inner_gone n c));
        gone_sources = λ n i c away.
            let p : Port = port_at (old.name n) i in
            ap (λ o. source_or (gather_use_source g (old.name vars) name) o i (if has_name gone (old.name n) then None else kept_source p (g.feeder p))) (none_new (old.name n) away)
            ∙ ap (λ t. if t then None else kept_source p (g.feeder p)) (has_true gone (old.name n) (inner_gone n c));
        kept_kinds = λ n fresh away.
            ap (λ o. kind_or (gather_use_kind f (next_shapes b)) o (if has_name gone n then None else g.kind_at n)) (none_new n fresh) ∙ ap (λ t. if t then None else g.kind_at n) (not_gone n away);
        kept_sources = λ p fresh away.
            subst (KeptSource g left old right new (g.feeder p))
            (sym (ap (λ o. source_or (gather_use_source g (old.name vars) name) o p.port (if has_name gone p.node then None else kept_source p (g.feeder p))) (none_new p.node fresh)
            ∙ ap (λ t. if t then None else kept_source p (g.feeder p)) (not_gone p.node away)))
            (kept p (g.feeder p) refl);
      }

pub gather_makes : GatherMakes
gather_makes g b f old new target rs m part ends place =
    made_is g (body_plan b) old (gathered_plan b f) new target part (gather_made g (old.name vars) (node_names b old) rs m f (next_shapes b) (λ x. new.name (use_node x)))
    (gather_is_made g b f old new ends rs m place part.whole.once)
