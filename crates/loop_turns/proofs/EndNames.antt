-- The names of the new nodes from a gathered loop to a tagged one.
use Rattle.std.proofs.Common.{◌≡◌, ◌≢◌, inl, inr, ℕ, zero, suc, refl, sym, ap, subst, ◌∙◌, Bool, true, false, bytes_eq, List, length, Option, Some, None}
use Rattle.std.proofs.lemmas.Option.{same_Some}
use Rattle.components.specs.Name.{Name}
use Rattle.circuits.proofs.Beside.{none_some}
use Rattle.circuits.specs.Replacing.{In, In.head, In.tail}
use Rattle.loop_laws.specs.Loop.{Loop}
use Rattle.loop_turns.proofs.GatheredWires.{every}
use Rattle.loop_turns.proofs.LoopLookups.{new_none, new_found}
use Rattle.loop_turns.proofs.TaggedWires.{fixed_in}
use Rattle.loop_turns.specs.Gathered.{GatherNode, GatherNode.one_in, GatherNode.one_mux, GatherNode.one_pure, GatherNode.one_pair, GatherNode.one_cond, GatherNode.one_branch, GatherNode.one_out, gather_nodes}
use Rattle.loop_turns.specs.Rebuilt.{new_at}
use Rattle.loop_turns.specs.TagChain.{RingUse, RingUse.ring_tagger, RingUse.ring_merge, RingUse.ring_tag, RingUse.ring_pure, RingUse.ring_pair, RingUse.ring_retag, RingUse.ring_branch, ring_uses, ExpandUse, ExpandUse.expand_vars, ExpandUse.expand_next, ExpandUse.expand_sink, expand_sinks, expand_uses, LastNode, LastNode.l_in, LastNode.l_mux, LastNode.l_pure, LastNode.l_pair, LastNode.l_cond, LastNode.l_branch, LastNode.l_out, LastNode.l_tagger, LastNode.l_merge, LastNode.l_tag, LastNode.l_retag, LastNode.l_vars, LastNode.l_next, LastNode.l_sink, last_sinks, last_nodes, gathered_at, ring_at, expand_at, tagged_at}
use Rattle.loop_turns.specs.Tagged.{TagNode, TagNode.new_in, TagNode.new_tagger, TagNode.new_merge, TagNode.new_tag, TagNode.new_vars, TagNode.new_next, TagNode.new_retag, TagNode.new_branch, TagNode.new_out, TagNode.new_sink, sinks_from, tag_nodes}
use Rattle.circuits.proofs.Names.{name_cases}

-- all but the sinks
abbrev pub IsSet : LastNode → Type 0
IsSet (l_sink j) = ⊥
IsSet _ = Unit {0}

pub set_in : (l : Loop) (x : LastNode) → IsSet x → In x (last_nodes l)
set_in l l_in h = head refl
set_in l l_mux h = tail (head refl)
set_in l l_pure h = tail (tail (head refl))
set_in l l_pair h = tail (tail (tail (head refl)))
set_in l l_cond h = tail (tail (tail (tail (head refl))))
set_in l l_branch h = tail (tail (tail (tail (tail (head refl)))))
set_in l l_out h = tail (tail (tail (tail (tail (tail (head refl))))))
set_in l l_tagger h = tail (tail (tail (tail (tail (tail (tail (head refl)))))))
set_in l l_merge h = tail (tail (tail (tail (tail (tail (tail (tail (head refl))))))))
set_in l l_tag h = tail (tail (tail (tail (tail (tail (tail (tail (tail (head refl)))))))))
set_in l l_retag h = tail (tail (tail (tail (tail (tail (tail (tail (tail (tail (head refl))))))))))
set_in l l_vars h = tail (tail (tail (tail (tail (tail (tail (tail (tail (tail (tail (head refl)))))))))))
set_in l l_next h = tail (tail (tail (tail (tail (tail (tail (tail (tail (tail (tail (tail (head refl))))))))))))
set_in l (l_sink j) h = absurd h

-- the sinks of one list are those of another
pub sink_last : (l : Loop) (j : ℕ) → In (l_sink j) (last_sinks 1 (length l.lanes)) → In (l_sink j) (last_nodes l)
sink_last l j i = tail (tail (tail (tail (tail (tail (tail (tail (tail (tail (tail (tail (tail i))))))))))))

last_sink : (l : Loop) (j : ℕ) → In (l_sink j) (last_nodes l) → In (l_sink j) (last_sinks 1 (length l.lanes))
last_sink l j (tail (tail (tail (tail (tail (tail (tail (tail (tail (tail (tail (tail (tail i))))))))))))) = i
last_sink l j (head e) = cc
last_sink l j (tail (head e)) = cc
last_sink l j (tail (tail (head e))) = cc
last_sink l j (tail (tail (tail (head e)))) = cc
last_sink l j (tail (tail (tail (tail (head e))))) = cc
last_sink l j (tail (tail (tail (tail (tail (head e)))))) = cc
last_sink l j (tail (tail (tail (tail (tail (tail (head e))))))) = cc
last_sink l j (tail (tail (tail (tail (tail (tail (tail (head e)))))))) = cc
last_sink l j (tail (tail (tail (tail (tail (tail (tail (tail (head e))))))))) = cc
last_sink l j (tail (tail (tail (tail (tail (tail (tail (tail (tail (head e)))))))))) = cc
last_sink l j (tail (tail (tail (tail (tail (tail (tail (tail (tail (tail (head e))))))))))) = cc
last_sink l j (tail (tail (tail (tail (tail (tail (tail (tail (tail (tail (tail (head e)))))))))))) = cc
last_sink l j (tail (tail (tail (tail (tail (tail (tail (tail (tail (tail (tail (tail (head e))))))))))))) = cc

expand_to : (i k : ℕ) (u : ExpandUse) → In u (expand_sinks i k) → In (expand_at u) (last_sinks i k)
expand_to i zero u m = elim m [ ]
expand_to i (suc k) u (head e) = head (ap expand_at e)
expand_to i (suc k) u (tail m) = tail (expand_to (suc i) k u m)

expand_from : (i k j : ℕ) → In (l_sink j) (last_sinks i k) → In (expand_sink j) (expand_sinks i k)
expand_from i zero j m = elim m [ ]
expand_from i (suc k) j (head e) = let s : j ≡ i = cc in head (ap expand_sink s)
expand_from i (suc k) j (tail m) = tail (expand_from (suc i) k j m)

tagged_to : (i k : ℕ) (u : TagNode) → In u (sinks_from i k) → In (tagged_at u) (last_sinks i k)
tagged_to i zero u m = elim m [ ]
tagged_to i (suc k) u (head e) = head (ap tagged_at e)
tagged_to i (suc k) u (tail m) = tail (tagged_to (suc i) k u m)

tagged_from : (i k j : ℕ) → In (l_sink j) (last_sinks i k) → In (new_sink j) (sinks_from i k)
tagged_from i zero j m = elim m [ ]
tagged_from i (suc k) j (head e) = let s : j ≡ i = cc in head (ap new_sink s)
tagged_from i (suc k) j (tail m) = tail (tagged_from (suc i) k j m)

-- which use a name is of
abbrev pub gathered_of : LastNode → Option GatherNode
gathered_of l_in = Some one_in
gathered_of l_mux = Some one_mux
gathered_of l_pure = Some one_pure
gathered_of l_pair = Some one_pair
gathered_of l_cond = Some one_cond
gathered_of l_branch = Some one_branch
gathered_of l_out = Some one_out
gathered_of _ = None

abbrev pub ring_of : LastNode → Option RingUse
ring_of l_tagger = Some ring_tagger
ring_of l_merge = Some ring_merge
ring_of l_tag = Some ring_tag
ring_of l_pure = Some ring_pure
ring_of l_pair = Some ring_pair
ring_of l_retag = Some ring_retag
ring_of l_branch = Some ring_branch
ring_of _ = None

abbrev pub expand_of : LastNode → Option ExpandUse
expand_of l_vars = Some expand_vars
expand_of l_next = Some expand_next
expand_of (l_sink j) = Some (expand_sink j)
expand_of _ = None

abbrev pub tagged_of : LastNode → Option TagNode
tagged_of l_in = Some new_in
tagged_of l_tagger = Some new_tagger
tagged_of l_merge = Some new_merge
tagged_of l_tag = Some new_tag
tagged_of l_vars = Some new_vars
tagged_of l_next = Some new_next
tagged_of l_retag = Some new_retag
tagged_of l_branch = Some new_branch
tagged_of l_out = Some new_out
tagged_of (l_sink j) = Some (new_sink j)
tagged_of _ = None

-- a name is that of a node that is no sink
abbrev pub same : LastNode → LastNode → Bool
same l_mux l_mux = true
same l_pure l_pure = true
same l_pair l_pair = true
same l_cond l_cond = true
same l_branch l_branch = true
same _ _ = false

same_is : (x y : LastNode) → same x y ≡ true → x ≡ y
same_is l_mux l_mux e = refl
same_is l_pure l_pure e = refl
same_is l_pair l_pair e = refl
same_is l_cond l_cond e = refl
same_is l_branch l_branch e = refl
same_is _ _ e = cc

-- the nodes that tag_loop and expand take away
abbrev pub IsTaken : LastNode → Type 0
IsTaken l_mux = Unit {0}
IsTaken l_pure = Unit {0}
IsTaken l_pair = Unit {0}
IsTaken l_cond = Unit {0}
IsTaken l_branch = Unit {0}
IsTaken _ = ⊥

same_self : (y : LastNode) → IsTaken y → same y y ≡ true
same_self l_mux h = refl
same_self l_pure h = refl
same_self l_pair h = refl
same_self l_cond h = refl
same_self l_branch h = refl
same_self _ h = absurd h

taken_set : (y : LastNode) → IsTaken y → IsSet y
taken_set l_mux h = tt
taken_set l_pure h = tt
taken_set l_pair h = tt
taken_set l_cond h = tt
taken_set l_branch h = tt
taken_set _ h = absurd h

false_or : (b : Bool) → (b ≡ true → ⊥) → b ≡ false
false_or true h = absurd (h refl)
false_or false h = refl

module _ (l : Loop) (name : LastNode → Name) (apart : (x y : LastNode) → In x (last_nodes l) → In y (last_nodes l) → name x ≡ name y → x ≡ y) where
  pub taken_test : (x y : LastNode) → In x (last_nodes l) → IsTaken y → bytes_eq (name x) (name y) ≡ same x y
  taken_test x y u h =
      elim (name_cases (name x) (name y)) [
        | inl is ↦ is.test ∙ sym (ap (λ z. same z y) (apart x y u (set_in l y (taken_set y h)) is.is) ∙ same_self y h)
        | inr ne ↦ ne.test ∙ sym (false_or (same x y) (λ e. ne.is_not (ap name (same_is x y e))))
      ]

  pub taken_test' : (x y : LastNode) → In x (last_nodes l) → IsTaken y → bytes_eq (name y) (name x) ≡ same x y
  taken_test' x y u h =
      elim (name_cases (name y) (name x)) [
        | inl is ↦ is.test ∙ sym (ap (λ z. same z y) (apart x y u (set_in l y (taken_set y h)) (sym is.is)) ∙ same_self y h)
        | inr ne ↦ ne.test ∙ sym (false_or (same x y) (λ e. ne.is_not (ap name (sym (same_is x y e)))))
      ]

  -- a use's name is found exactly at that node
  module _ {U : Type 0} (of : LastNode → Option U) (at : U → LastNode) (there : (u : U) → of (at u) ≡ Some u) (back : (x : LastNode) (u : U) → of x ≡ Some u → at u ≡ x) (uses : List U) (listed : (u : U) → In u uses → In (at u) (last_nodes l)) where
    found_at : (x : LastNode) → In x (last_nodes l) → (o : Option U) → of x ≡ o → ((u : U) → o ≡ Some u → In u uses) → new_at (λ u. name (at u)) uses (name x) ≡ o
    found_at x m None e i = new_none (λ u. name (at u)) uses (name x) (λ u j s. none_some (of x) u e (ap of (sym (apart (at u) x (listed u j) m s)) ∙ there u))
    found_at x m (Some u) e i =
        ap (λ z. new_at (λ u. name (at u)) uses (name z)) (sym (back x u e))
        ∙ new_found (λ u. name (at u)) uses (λ a b p q s. same_Some a b (sym (there a) ∙ ap of (apart (at a) (at b) (listed a p) (listed b q) s) ∙ there b)) u (i u refl)

  gathered_listed : (u : GatherNode) → In (gathered_at u) (last_nodes l)
  gathered_listed one_in = set_in l l_in tt
  gathered_listed one_mux = set_in l l_mux tt
  gathered_listed one_pure = set_in l l_pure tt
  gathered_listed one_pair = set_in l l_pair tt
  gathered_listed one_cond = set_in l l_cond tt
  gathered_listed one_branch = set_in l l_branch tt
  gathered_listed one_out = set_in l l_out tt

  ring_listed : (u : RingUse) → In (ring_at u) (last_nodes l)
  ring_listed ring_tagger = set_in l l_tagger tt
  ring_listed ring_merge = set_in l l_merge tt
  ring_listed ring_tag = set_in l l_tag tt
  ring_listed ring_pure = set_in l l_pure tt
  ring_listed ring_pair = set_in l l_pair tt
  ring_listed ring_retag = set_in l l_retag tt
  ring_listed ring_branch = set_in l l_branch tt

  ring_all : (u : RingUse) → In u ring_uses
  ring_all ring_tagger = head refl
  ring_all ring_merge = tail (head refl)
  ring_all ring_tag = tail (tail (head refl))
  ring_all ring_pure = tail (tail (tail (head refl)))
  ring_all ring_pair = tail (tail (tail (tail (head refl))))
  ring_all ring_retag = tail (tail (tail (tail (tail (head refl)))))
  ring_all ring_branch = tail (tail (tail (tail (tail (tail (head refl))))))

  expand_listed : (u : ExpandUse) → In u (expand_uses l) → In (expand_at u) (last_nodes l)
  expand_listed u (head e) = subst (λ z. In (expand_at z) (last_nodes l)) (sym e) (set_in l l_vars tt)
  expand_listed u (tail (head e)) = subst (λ z. In (expand_at z) (last_nodes l)) (sym e) (set_in l l_next tt)
  expand_listed u (tail (tail i)) = tail (tail (tail (tail (tail (tail (tail (tail (tail (tail (tail (tail (tail (expand_to 1 (length l.lanes) u i)))))))))))))

  tagged_listed : (u : TagNode) → In u (tag_nodes l) → In (tagged_at u) (last_nodes l)
  tagged_listed u (head e) = subst (λ z. In (tagged_at z) (last_nodes l)) (sym e) (set_in l l_in tt)
  tagged_listed u (tail (head e)) = subst (λ z. In (tagged_at z) (last_nodes l)) (sym e) (set_in l l_tagger tt)
  tagged_listed u (tail (tail (head e))) = subst (λ z. In (tagged_at z) (last_nodes l)) (sym e) (set_in l l_merge tt)
  tagged_listed u (tail (tail (tail (head e)))) = subst (λ z. In (tagged_at z) (last_nodes l)) (sym e) (set_in l l_tag tt)
  tagged_listed u (tail (tail (tail (tail (head e))))) = subst (λ z. In (tagged_at z) (last_nodes l)) (sym e) (set_in l l_vars tt)
  tagged_listed u (tail (tail (tail (tail (tail (head e)))))) = subst (λ z. In (tagged_at z) (last_nodes l)) (sym e) (set_in l l_next tt)
  tagged_listed u (tail (tail (tail (tail (tail (tail (head e))))))) = subst (λ z. In (tagged_at z) (last_nodes l)) (sym e) (set_in l l_retag tt)
  tagged_listed u (tail (tail (tail (tail (tail (tail (tail (head e)))))))) = subst (λ z. In (tagged_at z) (last_nodes l)) (sym e) (set_in l l_branch tt)
  tagged_listed u (tail (tail (tail (tail (tail (tail (tail (tail (head e))))))))) = subst (λ z. In (tagged_at z) (last_nodes l)) (sym e) (set_in l l_out tt)
  tagged_listed u (tail (tail (tail (tail (tail (tail (tail (tail (tail i))))))))) = tail (tail (tail (tail (tail (tail (tail (tail (tail (tail (tail (tail (tail (tagged_to 1 (length l.lanes) u i)))))))))))))

  gathered_there : (u : GatherNode) → gathered_of (gathered_at u) ≡ Some u
  gathered_there one_in = refl
  gathered_there one_mux = refl
  gathered_there one_pure = refl
  gathered_there one_pair = refl
  gathered_there one_cond = refl
  gathered_there one_branch = refl
  gathered_there one_out = refl

  gathered_back : (x : LastNode) (u : GatherNode) → gathered_of x ≡ Some u → gathered_at u ≡ x
  gathered_back l_in u e = ap gathered_at (sym (same_Some _ u e))
  gathered_back l_mux u e = ap gathered_at (sym (same_Some _ u e))
  gathered_back l_pure u e = ap gathered_at (sym (same_Some _ u e))
  gathered_back l_pair u e = ap gathered_at (sym (same_Some _ u e))
  gathered_back l_cond u e = ap gathered_at (sym (same_Some _ u e))
  gathered_back l_branch u e = ap gathered_at (sym (same_Some _ u e))
  gathered_back l_out u e = ap gathered_at (sym (same_Some _ u e))
  gathered_back _ u e = absurd (none_some None u refl e)

  ring_there : (u : RingUse) → ring_of (ring_at u) ≡ Some u
  ring_there ring_tagger = refl
  ring_there ring_merge = refl
  ring_there ring_tag = refl
  ring_there ring_pure = refl
  ring_there ring_pair = refl
  ring_there ring_retag = refl
  ring_there ring_branch = refl

  ring_back : (x : LastNode) (u : RingUse) → ring_of x ≡ Some u → ring_at u ≡ x
  ring_back l_tagger u e = ap ring_at (sym (same_Some _ u e))
  ring_back l_merge u e = ap ring_at (sym (same_Some _ u e))
  ring_back l_tag u e = ap ring_at (sym (same_Some _ u e))
  ring_back l_pure u e = ap ring_at (sym (same_Some _ u e))
  ring_back l_pair u e = ap ring_at (sym (same_Some _ u e))
  ring_back l_retag u e = ap ring_at (sym (same_Some _ u e))
  ring_back l_branch u e = ap ring_at (sym (same_Some _ u e))
  ring_back _ u e = absurd (none_some None u refl e)

  expand_there : (u : ExpandUse) → expand_of (expand_at u) ≡ Some u
  expand_there expand_vars = refl
  expand_there expand_next = refl
  expand_there (expand_sink j) = refl

  expand_back : (x : LastNode) (u : ExpandUse) → expand_of x ≡ Some u → expand_at u ≡ x
  expand_back l_vars u e = ap expand_at (sym (same_Some _ u e))
  expand_back l_next u e = ap expand_at (sym (same_Some _ u e))
  expand_back (l_sink j) u e = ap expand_at (sym (same_Some _ u e))
  expand_back _ u e = absurd (none_some None u refl e)

  tagged_there : (u : TagNode) → tagged_of (tagged_at u) ≡ Some u
  tagged_there new_in = refl
  tagged_there new_tagger = refl
  tagged_there new_merge = refl
  tagged_there new_tag = refl
  tagged_there new_vars = refl
  tagged_there new_next = refl
  tagged_there new_retag = refl
  tagged_there new_branch = refl
  tagged_there new_out = refl
  tagged_there (new_sink j) = refl

  tagged_back : (x : LastNode) (u : TagNode) → tagged_of x ≡ Some u → tagged_at u ≡ x
  tagged_back l_in u e = ap tagged_at (sym (same_Some _ u e))
  tagged_back l_tagger u e = ap tagged_at (sym (same_Some _ u e))
  tagged_back l_merge u e = ap tagged_at (sym (same_Some _ u e))
  tagged_back l_tag u e = ap tagged_at (sym (same_Some _ u e))
  tagged_back l_vars u e = ap tagged_at (sym (same_Some _ u e))
  tagged_back l_next u e = ap tagged_at (sym (same_Some _ u e))
  tagged_back l_retag u e = ap tagged_at (sym (same_Some _ u e))
  tagged_back l_branch u e = ap tagged_at (sym (same_Some _ u e))
  tagged_back l_out u e = ap tagged_at (sym (same_Some _ u e))
  tagged_back (l_sink j) u e = ap tagged_at (sym (same_Some _ u e))
  tagged_back _ u e = absurd (none_some None u refl e)

  expand_in : (x : LastNode) → In x (last_nodes l) → (u : ExpandUse) → expand_of x ≡ Some u → In u (expand_uses l)
  expand_in l_vars m u e = head (sym (same_Some _ u e))
  expand_in l_next m u e = tail (head (sym (same_Some _ u e)))
  expand_in (l_sink j) m u e = tail (tail (subst (λ z. In z (expand_sinks 1 (length l.lanes))) (same_Some _ u e) (expand_from 1 (length l.lanes) j (last_sink l j m))))
  expand_in _ m u e = absurd (none_some None u refl e)

  tagged_in : (x : LastNode) → In x (last_nodes l) → (u : TagNode) → tagged_of x ≡ Some u → In u (tag_nodes l)
  tagged_in l_in m u e = subst (λ z. In z (tag_nodes l)) (same_Some _ u e) (fixed_in l new_in tt)
  tagged_in l_tagger m u e = subst (λ z. In z (tag_nodes l)) (same_Some _ u e) (fixed_in l new_tagger tt)
  tagged_in l_merge m u e = subst (λ z. In z (tag_nodes l)) (same_Some _ u e) (fixed_in l new_merge tt)
  tagged_in l_tag m u e = subst (λ z. In z (tag_nodes l)) (same_Some _ u e) (fixed_in l new_tag tt)
  tagged_in l_vars m u e = subst (λ z. In z (tag_nodes l)) (same_Some _ u e) (fixed_in l new_vars tt)
  tagged_in l_next m u e = subst (λ z. In z (tag_nodes l)) (same_Some _ u e) (fixed_in l new_next tt)
  tagged_in l_retag m u e = subst (λ z. In z (tag_nodes l)) (same_Some _ u e) (fixed_in l new_retag tt)
  tagged_in l_branch m u e = subst (λ z. In z (tag_nodes l)) (same_Some _ u e) (fixed_in l new_branch tt)
  tagged_in l_out m u e = subst (λ z. In z (tag_nodes l)) (same_Some _ u e) (fixed_in l new_out tt)
  tagged_in (l_sink j) m u e =
      tail (tail (tail (tail (tail (tail (tail (tail (tail (subst (λ z. In z (sinks_from 1 (length l.lanes))) (same_Some _ u e) (tagged_from 1 (length l.lanes) j (last_sink l j m)))))))))))
  tagged_in _ m u e = absurd (none_some None u refl e)

  pub gathered_new : (x : LastNode) → In x (last_nodes l) → new_at (λ u. name (gathered_at u)) gather_nodes (name x) ≡ gathered_of x
  gathered_new x m = found_at gathered_of gathered_at gathered_there gathered_back gather_nodes (λ u i. gathered_listed u) x m (gathered_of x) refl (λ u e. every u)

  pub ring_new : (x : LastNode) → In x (last_nodes l) → new_at (λ u. name (ring_at u)) ring_uses (name x) ≡ ring_of x
  ring_new x m = found_at ring_of ring_at ring_there ring_back ring_uses (λ u i. ring_listed u) x m (ring_of x) refl (λ u e. ring_all u)

  pub expand_new : (x : LastNode) → In x (last_nodes l) → new_at (λ u. name (expand_at u)) (expand_uses l) (name x) ≡ expand_of x
  expand_new x m = found_at expand_of expand_at expand_there expand_back (expand_uses l) expand_listed x m (expand_of x) refl (λ u e. expand_in x m u e)

  pub tagged_new : (x : LastNode) → In x (last_nodes l) → new_at (λ u. name (tagged_at u)) (tag_nodes l) (name x) ≡ tagged_of x
  tagged_new x m = found_at tagged_of tagged_at tagged_there tagged_back (tag_nodes l) tagged_listed x m (tagged_of x) refl (λ u e. tagged_in x m u e)

  -- the nodes of a use are listed
  pub gathered_old : (n : Name) → ((x : LastNode) → In x (last_nodes l) → name x ≢ n) → new_at (λ u. name (gathered_at u)) gather_nodes n ≡ None
  gathered_old n old = new_none (λ u. name (gathered_at u)) gather_nodes n (λ u i s. old (gathered_at u) (gathered_listed u) s)

  pub ring_old : (n : Name) → ((x : LastNode) → In x (last_nodes l) → name x ≢ n) → new_at (λ u. name (ring_at u)) ring_uses n ≡ None
  ring_old n old = new_none (λ u. name (ring_at u)) ring_uses n (λ u i s. old (ring_at u) (ring_listed u) s)

  pub expand_old : (n : Name) → ((x : LastNode) → In x (last_nodes l) → name x ≢ n) → new_at (λ u. name (expand_at u)) (expand_uses l) n ≡ None
  expand_old n old = new_none (λ u. name (expand_at u)) (expand_uses l) n (λ u i s. old (expand_at u) (expand_listed u i) s)

  pub tagged_old : (n : Name) → ((x : LastNode) → In x (last_nodes l) → name x ≢ n) → new_at (λ u. name (tagged_at u)) (tag_nodes l) n ≡ None
  tagged_old n old = new_none (λ u. name (tagged_at u)) (tag_nodes l) n (λ u i s. old (tagged_at u) (tagged_listed u i) s)
