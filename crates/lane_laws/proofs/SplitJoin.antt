-- A wire matches a Split whose outputs are joined again.
use Rattle.std.proofs.Common.{◌≡◌, ℕ, zero, suc, refl, sym, ap, subst, ◌∙◌, true, false, if◌then◌else◌, length, map, List, [], ◌∷◌, ◌++◌, Option, Some, None, append-nil, append_assoc}
use Rattle.circuits.specs.Firing.{Label.Feed, Label.Take, Label.Fire, FitEach}
use Rattle.circuits.specs.PortTokens.{Token, at_port, one}
use Rattle.components.specs.Kind.{Shape}
use Rattle.components.specs.Name.{port_get}
use Rattle.port_types.specs.Token.{Fits}
use Rattle.std.specs.List.{concat, AllByRecursion}
use Rattle.lane_laws.specs.SplitJoin.{SplitJoined, entry, split, join, exit}
use Rattle.lane_laws.proofs.SplitJoinPlans.{Straight, new_entry, new_exit, split_output, split_joined_plan, straight_plan, same_split_joined}
use Rattle.circuit_plans.proofs.Plans.{Out, Plan, Held, PlanStep, PlanInner, rest, fires, part, part_from, plan_initial, PlanFits, Naming, PlanMatches}

module _ (bs : List Shape) where
  abbrev pub old : Plan SplitJoined
  old = split_joined_plan bs

  abbrev pub new : Plan Straight
  new = straight_plan (concat bs)

  -- what an input of the Join holds, where these tuples are between the two
  abbrev column : ℕ → List (List Token) → List Token
  column i [] = []
  column i (vs ∷ ws) = at_port (map one vs) i ++ column i ws

  column_more : (i : ℕ) (ws : List (List Token)) (vs : List Token) → column i (ws ++ vs ∷ []) ≡ column i ws ++ at_port (map one vs) i
  column_more i [] vs = append-nil (at_port (map one vs) i)
  column_more i (x ∷ ws) vs = ap (λ z. at_port (map one x) i ++ z) (column_more i ws vs) ∙ sym (append_assoc (at_port (map one x) i) (column i ws) (at_port (map one vs) i))

  record Between (s : Held Straight) (t : Held SplitJoined) : Type 0 where
    tuples : List (List Token)
    each : AllByRecursion (FitEach bs) tuples
    columns : (i : ℕ) → t.wires join i ≡ column i tuples
    merged : s.wires new_exit 1 ≡ (t.wires exit 1 ++ map concat tuples) ++ t.wires split 1

  -- a fitting token cuts into fitting tokens
  cut_token : (a : Shape) (b : Shape) (v : Token) → Fits (a ++ b) v → (x y : Token) × Fits a x × Fits b y × (x ++ y ≡ v)
  cut_token [] b v h = ([], v, tt, h, refl)
  cut_token (w ∷ a) b [] h = absurd h
  cut_token (w ∷ a) b (n ∷ v) h = let (x, y, hx, hy, e) = cut_token a b v h.1 in (n ∷ x, y, (h.0, hx), hy, ap (λ z. n ∷ z) e)

  cut_all : (cs : List Shape) (v : Token) → Fits (concat cs) v → (vs : List Token) × FitEach cs vs × (concat vs ≡ v)
  cut_all [] [] h = ([], tt, refl)
  cut_all [] (n ∷ v) h = absurd h
  cut_all (a ∷ cs) v h =
      let (x, y, hx, hy, e) = cut_token a (concat cs) v h in
      let (vs, each, f) = cut_all cs y hy in
      (x ∷ vs, (hx, each), ap (λ z. x ++ z) f ∙ e)

  each_length : (cs : List Shape) (vs : List Token) → FitEach cs vs → length vs ≡ length cs
  each_length [] [] h = refl
  each_length [] (v ∷ vs) h = absurd h
  each_length (a ∷ cs) [] h = absurd h
  each_length (a ∷ cs) (v ∷ vs) h = ap suc (each_length cs vs h.1)

  no_port : (cs : List Shape) (vs : List Token) (i : ℕ) → FitEach cs vs → port_get cs i ≡ None → at_port (map one vs) i ≡ []
  no_port [] [] i h e = refl
  no_port [] (v ∷ vs) i h e = absurd h
  no_port (a ∷ cs) [] i h e = refl
  no_port (a ∷ cs) (v ∷ vs) zero h e = refl
  no_port (a ∷ cs) (v ∷ vs) (suc zero) h e = cc
  no_port (a ∷ cs) (v ∷ vs) (suc (suc i)) h e = no_port cs vs (suc i) h.1 e

  -- the Split fires
  split_between : Held SplitJoined → List Token → SplitJoined → ℕ → List Token
  split_between t r entry i = t.wires entry i
  split_between t r split zero = t.wires split zero
  split_between t r split (suc zero) = r
  split_between t r split (suc (suc i)) = t.wires split (suc (suc i))
  split_between t r join i = t.wires join i
  split_between t r exit i = t.wires exit i

  split_to : Held SplitJoined → List Token → List Token → Held SplitJoined
  split_to t r vs = record { wires = λ m i. split_between t r m i ++ part_from old split (map one vs) (old.source m i); slots = t.slots }

  split_takes : (t : Held SplitJoined) (v : Token) (r : List Token) → t.wires split 1 ≡ v ∷ r → (m : SplitJoined) (i : ℕ) → t.wires m i ≡ part old split (one v ∷ []) m i ++ split_between t r m i
  unfolding split_between
  split_takes t v r e entry i = refl
  split_takes t v r e split zero = refl
  split_takes t v r e split (suc zero) = e
  split_takes t v r e split (suc (suc i)) = refl
  split_takes t v r e join i = refl
  split_takes t v r e exit i = refl

  split_step : (t : Held SplitJoined) (v : Token) (r vs : List Token) → t.wires split 1 ≡ v ∷ r → FitEach bs vs → concat vs ≡ v → PlanStep old t split (Fire 0) (split_to t r vs)
  unfolding split_to
  split_step t v r vs e each f =
      record {
        taken = one v ∷ [];
        given = map one vs;
        acts = (vs, refl, each, ap (λ z. one z ∷ []) (sym f), refl, refl);
        between = split_between t r;
        takes = split_takes t v r e;
        gives = λ m i. refl;
        others = λ m ne. refl;
      }

  split_column : (t : Held SplitJoined) (r vs : List Token) (i : ℕ) (ws : List (List Token)) → FitEach bs vs → t.wires join i ≡ column i ws → (o : Option Shape) → port_get bs i ≡ o → t.wires join i ++ part_from old split (map one vs) (split_output i o) ≡ column i (ws ++ vs ∷ [])
  split_column t r vs i ws each e (Some a) f = ap (λ z. z ++ at_port (map one vs) i) e ∙ sym (column_more i ws vs)
  split_column t r vs i ws each e None f =
      append-nil (t.wires join i) ∙ e ∙ sym (append-nil (column i ws)) ∙ ap (λ z. column i ws ++ z) (sym (no_port bs vs i each f)) ∙ sym (column_more i ws vs)

  map_more : (ws : List (List Token)) (vs : List Token) → map concat (ws ++ vs ∷ []) ≡ map concat ws ++ concat vs ∷ []
  map_more [] vs = refl
  map_more (x ∷ ws) vs = ap (λ z. concat x ∷ z) (map_more ws vs)

  each_more : (ws : List (List Token)) (vs : List Token) → AllByRecursion (FitEach bs) ws → FitEach bs vs → AllByRecursion (FitEach bs) (ws ++ vs ∷ [])
  each_more [] vs h k = (k, tt)
  each_more (x ∷ ws) vs h k = (h.0, each_more ws vs h.1 k)

  split_related : (s : Held Straight) (t : Held SplitJoined) (v : Token) (r vs : List Token) → t.wires split 1 ≡ v ∷ r → FitEach bs vs → concat vs ≡ v → Between s t → Between s (split_to t r vs)
  unfolding split_to split_between
  split_related s t v r vs e each f b =
      record {
        tuples = b.tuples ++ vs ∷ [];
        each = each_more b.tuples vs b.each each;
        columns = λ i. split_column t r vs i b.tuples each (b.columns i) (port_get bs i) refl;
        merged =
            b.merged ∙ ap (λ z. (t.wires exit 1 ++ map concat b.tuples) ++ z) (e ∙ ap (λ z. z ∷ r) (sym f))
            ∙ sym (append_assoc (t.wires exit 1 ++ map concat b.tuples) (concat vs ∷ []) r)
            ∙ ap (λ z. z ++ r) (append_assoc (t.wires exit 1) (map concat b.tuples) (concat vs ∷ []) ∙ ap (λ z. t.wires exit 1 ++ z) (sym (map_more b.tuples vs)))
            ∙ (λ i. (sym (append-nil (t.wires exit 1)) i ++ map concat (b.tuples ++ vs ∷ [])) ++ sym (append-nil r) i);
      }

  -- the Join fires
  join_between : Held SplitJoined → List (List Token) → SplitJoined → ℕ → List Token
  join_between t ws entry i = t.wires entry i
  join_between t ws split i = t.wires split i
  join_between t ws join i = column i ws
  join_between t ws exit i = t.wires exit i

  join_to : Held SplitJoined → List (List Token) → List Token → Held SplitJoined
  join_to t ws vs = record { wires = λ m i. join_between t ws m i ++ part_from old join (one (concat vs) ∷ []) (old.source m i); slots = t.slots }

  join_takes : (t : Held SplitJoined) (ws : List (List Token)) (vs : List Token) → ((i : ℕ) → t.wires join i ≡ column i (vs ∷ ws)) → (m : SplitJoined) (i : ℕ) → t.wires m i ≡ part old join (map one vs) m i ++ join_between t ws m i
  unfolding join_between
  join_takes t ws vs h entry i = refl
  join_takes t ws vs h split i = refl
  join_takes t ws vs h join i = h i
  join_takes t ws vs h exit i = refl

  join_step : (t : Held SplitJoined) (ws : List (List Token)) (vs : List Token) → ((i : ℕ) → t.wires join i ≡ column i (vs ∷ ws)) → FitEach bs vs → PlanStep old t join (Fire 0) (join_to t ws vs)
  unfolding join_to
  join_step t ws vs h each =
      record {
        taken = map one vs;
        given = one (concat vs) ∷ [];
        acts = (vs, refl, each_length bs vs each, refl, refl, refl);
        between = join_between t ws;
        takes = join_takes t ws vs h;
        gives = λ m i. refl;
        others = λ m ne. refl;
      }

  joint_none : (i : ℕ) (o : Option Shape) (vs : List Token) → part_from old join (one (concat vs) ∷ []) (split_output i o) ≡ []
  joint_none i None vs = refl
  joint_none i (Some a) vs = refl

  join_related : (s : Held Straight) (t : Held SplitJoined) (vs : List Token) (ws : List (List Token)) (b : Between s t) → b.tuples ≡ vs ∷ ws → Between s (join_to t ws vs)
  unfolding join_to join_between
  join_related s t vs ws b e =
      let each : AllByRecursion (FitEach bs) (vs ∷ ws) = subst (AllByRecursion (FitEach bs)) e b.each in
      record {
        tuples = ws;
        each = each.1;
        columns = λ i. ap (λ z. column i ws ++ z) (joint_none i (port_get bs i) vs) ∙ append-nil (column i ws);
        merged =
            b.merged ∙ ap (λ z. (t.wires exit 1 ++ map concat z) ++ t.wires split 1) e
            ∙ ap (λ z. z ++ t.wires split 1) (sym (append_assoc (t.wires exit 1) (concat vs ∷ []) (map concat ws)))
            ∙ ap (λ z. ((t.wires exit 1 ++ concat vs ∷ []) ++ map concat ws) ++ z) (sym (append-nil (t.wires split 1)));
      }

  -- the Exit has what is taken at its head, after some firings
  record Ready (s : Held Straight) (t : Held SplitJoined) (v : Token) : Type 0 where
    to : Held SplitJoined
    inner : PlanInner old to t
    related : Between s to
    behind : List Token
    is_head : to.wires exit 1 ≡ v ∷ behind

  ready_join : (s : Held Straight) (t : Held SplitJoined) (v : Token) (r : List Token) (vs : List Token) (ws : List (List Token)) (b : Between s t) → s.wires new_exit 1 ≡ v ∷ r → t.wires exit 1 ≡ [] → b.tuples ≡ vs ∷ ws → Ready s t v
  unfolding join_to join_between
  ready_join s t v r vs ws b e empty is =
      let each : AllByRecursion (FitEach bs) (vs ∷ ws) = subst (AllByRecursion (FitEach bs)) is b.each in
      let goes : v ∷ r ≡ ([] ++ map concat (vs ∷ ws)) ++ t.wires split 1 = sym e ∙ b.merged ∙ (λ i. (empty i ++ map concat (is i)) ++ t.wires split 1) in
      let same : concat vs ≡ v = let g : v ∷ r ≡ concat vs ∷ (map concat ws ++ t.wires split 1) = goes in cc in
      record {
        to = join_to t ws vs;
        inner = fires join 0 (join_to t ws vs) (join_step t ws vs (λ i. b.columns i ∙ ap (column i) is) each.0) rest;
        related = join_related s t vs ws b is;
        behind = [];
        is_head = ap (λ z. z ++ concat vs ∷ []) empty ∙ ap (λ z. z ∷ []) same;
      }

  ready_split : (s : Held Straight) (t : Held SplitJoined) (v : Token) (r : List Token) (x : Token) (xs : List Token) (b : Between s t) → PlanFits old t → s.wires new_exit 1 ≡ v ∷ r → t.wires exit 1 ≡ [] → b.tuples ≡ [] → t.wires split 1 ≡ x ∷ xs → Ready s t v
  unfolding split_to split_between split_related
  ready_split s t v r x xs b fit e empty none f =
      let all : AllByRecursion (Fits (concat bs)) (x ∷ xs) = subst (AllByRecursion (Fits (concat bs))) f (fit split 1 (concat bs) refl) in
      let (vs, each, is) = cut_all bs x all.0 in
      let y : Held SplitJoined = split_to t xs vs in
      let by : Between s y = split_related s t x xs vs f each is b in
      let go = ready_join s y v r vs [] by e (append-nil (t.wires exit 1) ∙ empty) (ap (λ z. z ++ vs ∷ []) none) in
      record {
        to = go.to;
        inner = fires split 0 y (split_step t x xs vs f each is) go.inner;
        related = go.related;
        behind = go.behind;
        is_head = go.is_head;
      }

  ready_late : (s : Held Straight) (t : Held SplitJoined) (v : Token) (r : List Token) (b : Between s t) → PlanFits old t → s.wires new_exit 1 ≡ v ∷ r → t.wires exit 1 ≡ [] → (ws : List (List Token)) → b.tuples ≡ ws → (q : List Token) → t.wires split 1 ≡ q → Ready s t v
  ready_late s t v r b fit e empty (vs ∷ ws) is q f = ready_join s t v r vs ws b e empty is
  ready_late s t v r b fit e empty [] is (x ∷ xs) f = ready_split s t v r x xs b fit e empty is f
  ready_late s t v r b fit e empty [] is [] f =
      let goes : v ∷ r ≡ ([] ++ map concat []) ++ [] = sym e ∙ b.merged ∙ (λ i. (empty i ++ map concat (is i)) ++ f i) in
      let no : v ∷ r ≡ [] = goes in cc

  ready_at : (s : Held Straight) (t : Held SplitJoined) (v : Token) (r : List Token) (b : Between s t) → PlanFits old t → s.wires new_exit 1 ≡ v ∷ r → (q : List Token) → t.wires exit 1 ≡ q → Ready s t v
  ready_at s t v r b fit e [] f = ready_late s t v r b fit e f b.tuples refl (t.wires split 1) refl
  ready_at s t v r b fit e (x ∷ xs) f =
      let goes : v ∷ r ≡ ((x ∷ xs) ++ map concat b.tuples) ++ t.wires split 1 = sym e ∙ b.merged ∙ ap (λ z. (z ++ map concat b.tuples) ++ t.wires split 1) f in
      let same : x ≡ v = let g : v ∷ r ≡ x ∷ ((xs ++ map concat b.tuples) ++ t.wires split 1) = goes in cc in
      record { to = t; inner = rest; related = b; behind = xs; is_head = f ∙ ap (λ z. z ∷ xs) same }

  -- what is taken at the Exit
  take_between : Held SplitJoined → List Token → SplitJoined → ℕ → List Token
  take_between t r exit zero = t.wires exit zero
  take_between t r exit (suc zero) = r
  take_between t r exit (suc (suc i)) = t.wires exit (suc (suc i))
  take_between t r entry i = t.wires entry i
  take_between t r split i = t.wires split i
  take_between t r join i = t.wires join i

  take_to : Held SplitJoined → List Token → Held SplitJoined
  take_to t r = record { wires = take_between t r; slots = t.slots }

  take_takes : (t : Held SplitJoined) (v : Token) (r : List Token) → t.wires exit 1 ≡ v ∷ r → (m : SplitJoined) (i : ℕ) → t.wires m i ≡ part old exit (one v ∷ []) m i ++ take_between t r m i
  unfolding take_between
  take_takes t v r e exit zero = refl
  take_takes t v r e exit (suc zero) = e
  take_takes t v r e exit (suc (suc i)) = refl
  take_takes t v r e entry i = refl
  take_takes t v r e split i = refl
  take_takes t v r e join i = refl

  part_none : (n m : SplitJoined) (i : ℕ) → part old n [] m i ≡ []
  part_none n m i = elim (same_split_joined m n) as (λ z. (if z then at_port [] i else []) ≡ []) [ true ↦ refl | false ↦ refl ]

  part_from_none : (n : SplitJoined) (o : Option (Out SplitJoined)) → part_from old n [] o ≡ []
  part_from_none n None = refl
  part_from_none n (Some q) = part_none n q.at q.port

  take_step : (t : Held SplitJoined) (v : Token) (r : List Token) → t.wires exit 1 ≡ v ∷ r → PlanStep old t exit (Take v) (take_to t r)
  unfolding take_to
  take_step t v r e =
      record {
        taken = one v ∷ [];
        given = [];
        acts = (refl, refl, refl);
        between = take_between t r;
        takes = take_takes t v r e;
        gives = λ m i. sym (append-nil (take_between t r m i)) ∙ ap (λ z. take_between t r m i ++ z) (sym (part_from_none exit (old.source m i)));
        others = λ m ne. refl;
      }

  take_related : (s : Held Straight) (t : Held SplitJoined) (v : Token) (r : List Token) (u : Held Straight) (q : List Token) (b : Between s t) → s.wires new_exit 1 ≡ v ∷ q → u.wires new_exit 1 ≡ q → t.wires exit 1 ≡ v ∷ r → Between u (take_to t r)
  unfolding take_to take_between
  take_related s t v r u q b e f g =
      let goes : v ∷ q ≡ v ∷ ((r ++ map concat b.tuples) ++ t.wires split 1) = sym e ∙ b.merged ∙ ap (λ z. (z ++ map concat b.tuples) ++ t.wires split 1) g in
      record {
        tuples = b.tuples;
        each = b.each;
        columns = b.columns;
        merged = f ∙ (let h : q ≡ (r ++ map concat b.tuples) ++ t.wires split 1 = cc in h);
      }

  -- what is fed at the Entry
  feed_to : Held SplitJoined → Token → Held SplitJoined
  feed_to t v = record { wires = λ m i. t.wires m i ++ part_from old entry (one v ∷ []) (old.source m i); slots = t.slots }

  feed_step : (t : Held SplitJoined) (v : Token) → Fits (concat bs) v → PlanStep old t entry (Feed v) (feed_to t v)
  unfolding feed_to
  feed_step t v fit =
      record {
        taken = [];
        given = one v ∷ [];
        acts = (fit, refl, refl, refl);
        between = t.wires;
        takes = λ m i. ap (λ z. z ++ t.wires m i) (sym (part_none entry m i));
        gives = λ m i. refl;
        others = λ m ne. refl;
      }

  joint_away : (i : ℕ) (o : Option Shape) (v : Token) → part_from old entry (one v ∷ []) (split_output i o) ≡ []
  joint_away i None v = refl
  joint_away i (Some a) v = refl

  feed_related : (s : Held Straight) (t : Held SplitJoined) (v : Token) (u : Held Straight) → Between s t → u.wires new_exit 1 ≡ s.wires new_exit 1 ++ one v → Between u (feed_to t v)
  unfolding feed_to
  feed_related s t v u b f =
      record {
        tuples = b.tuples;
        each = b.each;
        columns = λ i. ap (λ z. t.wires join i ++ z) (joint_away i (port_get bs i) v) ∙ append-nil (t.wires join i) ∙ b.columns i;
        merged =
            f ∙ ap (λ z. z ++ one v) b.merged ∙ append_assoc (t.wires exit 1 ++ map concat b.tuples) (t.wires split 1) (one v)
            ∙ ap (λ z. (z ++ map concat b.tuples) ++ (t.wires split 1 ++ one v)) (sym (append-nil (t.wires exit 1)));
      }

  joint_start : (i : ℕ) (o : Option Shape) → plan_initial old (split_output i o) ≡ []
  joint_start i None = refl
  joint_start i (Some a) = refl

  new_feeds : (s : Held Straight) (t : Held SplitJoined) (u : Held Straight) (n : Straight) (v : Token) → Between s t → PlanStep new s n (Feed v) u → (n ≡ new_entry) × (w : Held SplitJoined) × PlanStep old t entry (Feed v) w × Between u w
  new_feeds s t u new_exit v b st = absurd st.acts
  new_feeds s t u new_entry v b st =
      let (fit, et, eg, en) = st.acts in
      let kept : s.wires new_exit 1 ≡ st.between new_exit 1 = st.takes new_exit 1 in
      let goes : u.wires new_exit 1 ≡ s.wires new_exit 1 ++ one v = st.gives new_exit 1 ∙ (λ i. sym kept i ++ at_port (eg i) 1) in
      (refl, feed_to t v, feed_step t v fit, feed_related s t v u b goes)

  new_takes : (s : Held Straight) (t : Held SplitJoined) (u : Held Straight) (n : Straight) (v : Token) → PlanFits old t → Between s t → PlanStep new s n (Take v) u → (n ≡ new_exit) × (y w : Held SplitJoined) × PlanInner old y t × PlanStep old y exit (Take v) w × Between u w
  new_takes s t u new_entry v fit b st = absurd st.acts
  new_takes s t u new_exit v fit b st =
      let (et, eg, en) = st.acts in
      let head : s.wires new_exit 1 ≡ v ∷ st.between new_exit 1 = st.takes new_exit 1 ∙ ap (λ z. at_port z 1 ++ st.between new_exit 1) et in
      let left : u.wires new_exit 1 ≡ st.between new_exit 1 = st.gives new_exit 1 ∙ append-nil (st.between new_exit 1) in
      let go = ready_at s t v (st.between new_exit 1) b fit head (t.wires exit 1) refl in (
        refl,
        go.to,
        take_to go.to go.behind,
        go.inner,
        take_step go.to v go.behind go.is_head,
        take_related s go.to v go.behind u (st.between new_exit 1) go.related head left go.is_head,
      )

  no_fire : (s u : Held Straight) (n : Straight) (k : ℕ) → PlanStep new s n (Fire k) u → ⊥
  no_fire s u new_entry k st = st.acts
  no_fire s u new_exit k st = st.acts

  -- a wire refines a Split whose outputs are concat again
  pub split_join : (hx : Naming Straight) (gx : Naming SplitJoined) → hx.name new_entry ≡ gx.name entry → hx.name new_exit ≡ gx.name exit → PlanMatches new old hx gx
  split_join hx gx same_entry same_exit =
      record {
        R = Between;
        begins = record { tuples = []; each = tt; columns = λ i. joint_start i (port_get bs i); merged = refl };
        feeds = λ s t u n v b st.
            let (is, w, st2, b2) = new_feeds s t u n v b st in (entry, ap hx.name is ∙ same_entry, w, st2, b2);
        takes = λ s t u n v fit b st.
            let (is, y, w, inn, st2, b2) = new_takes s t u n v fit b st in (exit, ap hx.name is ∙ same_exit, y, w, inn, st2, b2);
        fires = λ s t u n k fit b st. absurd (no_fire s u n k st);
      }
