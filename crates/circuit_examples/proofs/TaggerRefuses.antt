-- A Tagger alone gives no result while the oldest token has none.
use Rattle.std.proofs.Common.{◌≡◌, ◌≢◌, ℕ, zero, suc, ◌⊎◌, inl, inr, refl, sym, ap, subst, ◌∙◌, map, List, [], ◌∷◌, ◌++◌, Some, None, append-nil, append_assoc}
use Rattle.std.specs.List.{AllByRecursion}
use Rattle.components.specs.declared.kind.Kind.{Kind}
use Rattle.components.specs.declared.kind.Kind.TheVariants.{Entry, Exit, Tagger}
use Rattle.components.specs.Name.{Name}
use Rattle.components.specs.Kind.{Shape, tagged}
use Rattle.circuits.specs.PortTokens.{Token, one, at_port}
use Rattle.circuits.specs.Circuit.{Circuit, circuit_of}
use Rattle.circuits.specs.CircuitState.{Slot, CircuitState, start, TagsDiffer}
use Rattle.circuits.specs.Firing.{Label, Label.Feed, Label.Take, Label.Fire, waiting, finished, FiresTagger, Acts}
use Rattle.circuits.specs.Run.{Step, Move, Run, trace, Shows}
use Rattle.circuits.specs.Buffers.{first_port}
use Rattle.circuit_examples.specs.Listed.{fed_at, taken_at}
use Rattle.circuit_examples.specs.LoneTagger.{fresh, work, back, results, tagger, second_port, tagger_nodes, tagger_wires, lone_tagger}
use Rattle.circuits.proofs.Steps.{acts_at}
use Rattle.circuits.proofs.TaggerRow.{newest_differs}
use Rattle.circuit_examples.proofs.Listed.{is_spelled, each_node}
use Rattle.circuit_examples.proofs.LoneTagger.{alone}

-- the first move that is seen, where the firings before it keep what holds
pub record Seen (c : Circuit) (holds : CircuitState → Type 0) (m : Move) (rest : List Move) (t : CircuitState) : Type 0 where
  pub before : CircuitState
  pub held : holds before
  pub after : CircuitState
  pub step : Step c before m.node m.label after
  pub later : List Move
  pub run : Run c after later t
  pub shows : trace later ≡ rest

module _ (c : Circuit) (holds : CircuitState → Type 0) (keeps : (s : CircuitState) (n : Name) (choice : ℕ) (t : CircuitState) → Step c s n (Fire choice) t → holds s → holds t) where
  seen_now : (s : CircuitState) (n : Name) (l : Label) (u : CircuitState) (ms : List Move) (t : CircuitState) → Step c s n l u → Run c u ms t → holds s →
      (m : Move) (rest : List Move) → record { node = n; label = l } ∷ trace ms ≡ m ∷ rest → Seen c holds m rest t
  seen_now s n l u ms t st run h m rest e =
      let same : record { node = n; label = l } ≡ m = cc in
      record {
        before = s;
        held = h;
        after = u;
        step = subst (λ (z : Move). Step c s z.node z.label u) same st;
        later = ms;
        run = run;
        shows = cc;
      }

  by_label : (s : CircuitState) (n : Name) (l : Label) (u : CircuitState) (ms : List Move) (t : CircuitState) → Step c s n l u → Run c u ms t → holds s → (m : Move) (rest : List Move) →
      (holds u → trace ms ≡ m ∷ rest → Seen c holds m rest t) → trace (record { node = n; label = l } ∷ ms) ≡ m ∷ rest → Seen c holds m rest t
  by_label s n (Feed v) u ms t st run h m rest go e = seen_now s n (Feed v) u ms t st run h m rest e
  by_label s n (Take v) u ms t st run h m rest go e = seen_now s n (Take v) u ms t st run h m rest e
  by_label s n (Fire choice) u ms t st run h m rest go e = go (keeps s n choice u st h) e

  pub first_seen : (s : CircuitState) (ms : List Move) (t : CircuitState) → Run c s ms t → holds s → (m : Move) (rest : List Move) → trace ms ≡ m ∷ rest → Seen c holds m rest t
  first_seen s [] t run h m rest e = cc
  first_seen s (x ∷ ms) t run h m rest e =
      by_label s x.node x.label run.0 ms t run.1 run.2 h m rest (λ held f. first_seen run.0 ms t run.2 held m rest f) e

-- the tag of a token behind which it stands
abbrev tag_of : Token → ℕ
tag_of [] = 0
tag_of (tag ∷ v) = tag

waiting_append : (xs ys : List ℕ) → map waiting (xs ++ ys) ≡ map waiting xs ++ map waiting ys
waiting_append [] ys = refl
waiting_append (x ∷ xs) ys = ap (λ z. waiting x ∷ z) (waiting_append xs ys)

tags_append : (xs ys : List Token) → map tag_of (xs ++ ys) ≡ map tag_of xs ++ map tag_of ys
tags_append [] ys = refl
tags_append (x ∷ xs) ys = ap (λ z. tag_of x ∷ z) (tags_append xs ys)

-- where another tag gets its result, the oldest slot waits on
still_oldest : (oldest tag : ℕ) (v : Token) (older newer behind : List Slot) → tag ≢ oldest → waiting oldest ∷ behind ≡ older ++ waiting tag ∷ newer →
    (rest : List Slot) × (older ++ finished tag v ∷ newer ≡ waiting oldest ∷ rest)
still_oldest oldest tag v [] newer behind ne e =
    let first : waiting oldest ≡ waiting tag = cc in absurd (ne (sym (ap (λ (x : Slot). x.tag) first)))
still_oldest oldest tag v (x ∷ older) newer behind ne e =
    let first : x ≡ waiting oldest = cc in (older ++ finished tag v ∷ newer, ap (λ z. z ∷ older ++ finished tag v ∷ newer) first)

module _ (shape : Shape) (tags : ℕ) where
  abbrev c : Circuit
  c = alone shape tags

  -- only the Tagger fires
  abbrev Sort : Name → Kind → Type 0
  Sort n k = ((choice : ℕ) (old : List Slot) (taken given : List (List Token)) (new : List Slot) → Acts k (Fire choice) old taken given new → ⊥) ⊎ ((n ≡ tagger) × (k ≡ Tagger shape tags))

  sorts : AllByRecursion (λ node. Sort node.name node.kind) (tagger_nodes shape tags)
  sorts = (
    inl (λ choice old taken given new h. h),
    (
      inl (λ choice old taken given new h. h),
      (
        inl (λ choice old taken given new h. h),
        (inl (λ choice old taken given new h. h), (inr (refl, refl), tt)),
      ),
    ),
  )

  record Fired (s : CircuitState) (choice : ℕ) (t : CircuitState) : Type 0 where
    step : Step c s tagger (Fire choice) t
    acts : FiresTagger tags choice (s.slots tagger) step.taken step.given (t.slots tagger)

  fired : (s : CircuitState) (n : Name) (choice : ℕ) (t : CircuitState) → Step c s n (Fire choice) t → Fired s choice t
  fired s n choice t st =
      elim (each_node Sort (tagger_nodes shape tags) sorts n st.kind st.is_kind) [
        | inl none ↦ absurd (none choice (s.slots n) st.taken st.given (t.slots n) st.acts)
        | inr is ↦
            let here : Step c s tagger (Fire choice) t = subst (λ z. Step c s z (Fire choice) t) is.0 st in
            record { step = here; acts = acts_at c s tagger (Fire choice) t here (Tagger shape tags) refl }
      ]

  -- before any result is fed: the slots wait, in the order of the tags that went to be worked on
  record Waits (taken : List ℕ) (s : CircuitState) : Type 0 where
    slots : s.slots tagger ≡ map waiting (taken ++ map tag_of (s.wires (first_port work)))
    differ : TagsDiffer (s.slots tagger)
    back : s.wires (second_port tagger) ≡ []
    results : s.wires (first_port results) ≡ []

  none_finished : (ids : List ℕ) (tag : ℕ) (v : Token) (new : List Slot) → map waiting ids ≡ finished tag v ∷ new → ⊥
  none_finished [] tag v new e = cc
  none_finished (x ∷ ids) tag v new e =
      let z : waiting x ≡ finished tag v = cc in let r : None ≡ Some v = ap (λ (y : Slot). y.result) z in cc

  waits_fired : (taken : List ℕ) (s : CircuitState) (choice : ℕ) (t : CircuitState) (st : Step c s tagger (Fire choice) t) →
      FiresTagger tags choice (s.slots tagger) st.taken st.given (t.slots tagger) → Waits taken s → Waits taken t
  waits_fired ids s zero t st (tag, v, eo, et, eg) w = absurd (none_finished (ids ++ map tag_of (s.wires (first_port work))) tag v (t.slots tagger) (sym w.slots ∙ eo))
  waits_fired ids s (suc zero) t st (tag, v, older, newer, eo, en, et, eg) w =
      let some : [] ≡ (tag ∷ v) ∷ st.between (second_port tagger) =
      sym w.back ∙ st.takes (second_port tagger) ∙ ap (λ z. at_port z 2 ++ st.between (second_port tagger)) et in
      absurd (let z : [] ≡ (tag ∷ v) ∷ st.between (second_port tagger) = some in cc)
  waits_fired ids s (suc (suc tag)) t st (v, below, none, en, et, eg) w =
      let worked : t.wires (first_port work) ≡ s.wires (first_port work) ++ one (tag ∷ v) =
      st.gives (first_port work) ∙ (λ i. sym (st.takes (first_port work)) i ++ at_port (eg i) 1) in
      record {
        slots =
            en ∙ ap (λ z. z ++ waiting tag ∷ []) w.slots ∙ sym (waiting_append (ids ++ map tag_of (s.wires (first_port work))) (tag ∷ []))
            ∙ ap (map waiting) (append_assoc ids (map tag_of (s.wires (first_port work))) (tag ∷ [])
            ∙ ap (λ z. ids ++ z) (sym (tags_append (s.wires (first_port work)) (one (tag ∷ v))) ∙ ap (map tag_of) (sym worked)));
        differ = subst TagsDiffer (sym en) (newest_differs tag (s.slots tagger) none w.differ);
        back =
            st.gives (second_port tagger) ∙ append-nil (st.between (second_port tagger))
            ∙ sym (st.takes (second_port tagger) ∙ ap (λ z. at_port z 2 ++ st.between (second_port tagger)) et) ∙ w.back;
        results = st.gives (first_port results) ∙ (λ i. sym (st.takes (first_port results)) i ++ at_port (eg i) 2) ∙ append-nil (s.wires (first_port results)) ∙ w.results;
      }

  waits_kept : (taken : List ℕ) (s : CircuitState) (n : Name) (choice : ℕ) (t : CircuitState) → Step c s n (Fire choice) t → Waits taken s → Waits taken t
  waits_kept taken s n choice t st w = let f = fired s n choice t st in waits_fired taken s choice t f.step f.acts w

  waits_fed : (taken : List ℕ) (v : Token) (s t : CircuitState) → Step c s fresh (Feed v) t → Waits taken s → Waits taken t
  waits_fed taken v s t st w =
      let (fit, et, eg, en) = acts_at c s fresh (Feed v) t st (Entry shape) refl in
      let same : t.slots tagger ≡ s.slots tagger = st.others tagger (λ e. cc) in
      let worked : t.wires (first_port work) ≡ s.wires (first_port work) = st.gives (first_port work) ∙ append-nil _ ∙ sym (st.takes (first_port work)) in
      record {
        slots = same ∙ w.slots ∙ ap (λ z. map waiting (taken ++ map tag_of z)) (sym worked);
        differ = subst TagsDiffer (sym same) w.differ;
        back = st.gives (second_port tagger) ∙ append-nil _ ∙ sym (st.takes (second_port tagger)) ∙ w.back;
        results = st.gives (first_port results) ∙ append-nil _ ∙ sym (st.takes (first_port results)) ∙ w.results;
      }

  waits_taken : (taken : List ℕ) (tag : ℕ) (v : Token) (s t : CircuitState) → Step c s work (Take (tag ∷ v)) t → Waits taken s → Waits (taken ++ tag ∷ []) t
  waits_taken taken tag v s t st w =
      let (et, eg, en) = acts_at c s work (Take (tag ∷ v)) t st (Exit (tagged tags shape)) refl in
      let same : t.slots tagger ≡ s.slots tagger = st.others tagger (λ e. cc) in
      let was : s.wires (first_port work) ≡ (tag ∷ v) ∷ st.between (first_port work) = st.takes (first_port work) ∙ ap (λ z. at_port z 1 ++ st.between (first_port work)) et in
      let is : t.wires (first_port work) ≡ st.between (first_port work) = st.gives (first_port work) ∙ append-nil _ in
      record {
        slots =
            same ∙ w.slots ∙ ap (λ z. map waiting (taken ++ map tag_of z)) was
            ∙ ap (map waiting) (sym (append_assoc taken (tag ∷ []) (map tag_of (st.between (first_port work)))))
            ∙ ap (λ z. map waiting ((taken ++ tag ∷ []) ++ map tag_of z)) (sym is);
        differ = subst TagsDiffer (sym same) w.differ;
        back = st.gives (second_port tagger) ∙ append-nil _ ∙ sym (st.takes (second_port tagger)) ∙ w.back;
        results = st.gives (first_port results) ∙ append-nil _ ∙ sym (st.takes (first_port results)) ∙ w.results;
      }

  -- the oldest slot waits, and no result of its tag is there
  record Held (tag : ℕ) (s : CircuitState) : Type 0 where
    newer : List Slot
    slots : s.slots tagger ≡ waiting tag ∷ newer
    back : AllByRecursion (λ v. tag_of v ≢ tag) (s.wires (second_port tagger))
    results : s.wires (first_port results) ≡ []

  held_fired : (oldest : ℕ) (s : CircuitState) (choice : ℕ) (t : CircuitState) (st : Step c s tagger (Fire choice) t) →
      FiresTagger tags choice (s.slots tagger) st.taken st.given (t.slots tagger) → Held oldest s → Held oldest t
  held_fired oldest s zero t st (tag, v, eo, et, eg) h =
      absurd (none_finished (oldest ∷ []) tag v [] (let z : waiting oldest ≡ finished tag v = some_first _ _ _ _ (sym h.slots ∙ eo) in ap (λ x. x ∷ []) z))
    where
      some_first : (x y : Slot) (xs ys : List Slot) → x ∷ xs ≡ y ∷ ys → x ≡ y
      some_first x y xs ys e = cc
  held_fired oldest s (suc zero) t st (tag, v, older, newer, eo, en, et, eg) h =
      let all : AllByRecursion (λ x. tag_of x ≢ oldest) ((tag ∷ v) ∷ st.between (second_port tagger)) =
      subst (AllByRecursion (λ x. tag_of x ≢ oldest)) (st.takes (second_port tagger) ∙ ap (λ z. at_port z 2 ++ st.between (second_port tagger)) et) h.back in
      let (rest, e) = still_oldest oldest tag v older newer h.newer all.0 (sym h.slots ∙ eo) in
      record {
        newer = rest;
        slots = en ∙ e;
        back = subst (AllByRecursion (λ x. tag_of x ≢ oldest)) (sym (append-nil (st.between (second_port tagger))) ∙ sym (st.gives (second_port tagger))) all.1;
        results = st.gives (first_port results) ∙ (λ i. sym (st.takes (first_port results)) i ++ at_port (eg i) 2) ∙ append-nil (s.wires (first_port results)) ∙ h.results;
      }
  held_fired oldest s (suc (suc tag)) t st (v, below, none, en, et, eg) h =
      record {
        newer = h.newer ++ waiting tag ∷ [];
        slots = en ∙ ap (λ z. z ++ waiting tag ∷ []) h.slots;
        back = subst (AllByRecursion (λ x. tag_of x ≢ oldest))
            (st.takes (second_port tagger) ∙ ap (λ z. at_port z 2 ++ st.between (second_port tagger)) et ∙ sym (append-nil (st.between (second_port tagger))) ∙ sym (st.gives (second_port tagger))) h.back;
        results = st.gives (first_port results) ∙ (λ i. sym (st.takes (first_port results)) i ++ at_port (eg i) 2) ∙ append-nil (s.wires (first_port results)) ∙ h.results;
      }

  held_kept : (oldest : ℕ) (s : CircuitState) (n : Name) (choice : ℕ) (t : CircuitState) → Step c s n (Fire choice) t → Held oldest s → Held oldest t
  held_kept oldest s n choice t st h = let f = fired s n choice t st in held_fired oldest s choice t f.step f.acts h

  -- the result of the second token comes back
  second_back : (first second : ℕ) (b : Token) (s t : CircuitState) → Step c s back (Feed (second ∷ b)) t → Waits (first ∷ second ∷ []) s → Held first t
  second_back first second b s t st w =
      let (fit, et, eg, en) = acts_at c s back (Feed (second ∷ b)) t st (Entry (tagged tags shape)) refl in
      let differ : TagsDiffer (map waiting (first ∷ second ∷ map tag_of (s.wires (first_port work)))) = subst TagsDiffer w.slots w.differ in
      record {
        newer = map waiting (second ∷ map tag_of (s.wires (first_port work)));
        slots = st.others tagger (λ e. cc) ∙ w.slots;
        back = subst (AllByRecursion (λ x. tag_of x ≢ first))
            (sym (st.gives (second_port tagger) ∙ (λ i. (sym (st.takes (second_port tagger)) ∙ w.back) i ++ at_port (eg i) 1))) (differ.0.0, tt);
        results = st.gives (first_port results) ∙ append-nil _ ∙ sym (st.takes (first_port results)) ∙ w.results;
      }

  none_taken : (oldest : ℕ) (y : Token) (s t : CircuitState) → Step c s results (Take y) t → Held oldest s → ⊥
  none_taken oldest y s t st h =
      let (et, eg, en) = acts_at c s results (Take y) t st (Exit shape) refl in
      let some : [] ≡ y ∷ st.between (first_port results) =
      sym h.results ∙ st.takes (first_port results) ∙ ap (λ z. at_port z 1 ++ st.between (first_port results)) et in
      cc

  start_waits : Waits [] (start c)
  start_waits = record { slots = refl; differ = tt; back = refl; results = refl }

  module _ (v u b y : Token) (first second : ℕ) where
    abbrev seen : List Move
    seen =
        fed_at fresh v ∷ fed_at fresh u ∷ taken_at work (first ∷ v) ∷ taken_at work (second ∷ u) ∷
        fed_at back (second ∷ b) ∷ taken_at results y ∷ []

    none_shown : (ms : List Move) (t : CircuitState) → Run c (start c) ms t → trace ms ≡ seen → ⊥
    none_shown ms t run e =
        let fed1 = first_seen c (Waits []) (waits_kept []) (start c) ms t run start_waits (fed_at fresh v) _ e in
        let fed2 = first_seen c (Waits []) (waits_kept []) fed1.after fed1.later t fed1.run (waits_fed [] v fed1.before fed1.after fed1.step fed1.held) (fed_at fresh u) _ fed1.shows in
        let took1 = first_seen c (Waits []) (waits_kept []) fed2.after fed2.later t fed2.run (waits_fed [] u fed2.before fed2.after fed2.step fed2.held) (taken_at work (first ∷ v)) _ fed2.shows in
        let took2 = first_seen c (Waits (first ∷ [])) (waits_kept (first ∷ [])) took1.after took1.later t took1.run
        (waits_taken [] first v took1.before took1.after took1.step took1.held) (taken_at work (second ∷ u)) _ took1.shows in
        let fed3 = first_seen c (Waits (first ∷ second ∷ [])) (waits_kept (first ∷ second ∷ [])) took2.after took2.later t took2.run
        (waits_taken (first ∷ []) second u took2.before took2.after took2.step took2.held) (fed_at back (second ∷ b)) _ took2.shows in
        let took3 = first_seen c (Held first) (held_kept first) fed3.after fed3.later t fed3.run
        (second_back first second b fed3.before fed3.after fed3.step fed3.held) (taken_at results y) _ fed3.shows in
        none_taken first y took3.before took3.after took3.step took3.held

    pub tagger_refuses : Shows (circuit_of (lone_tagger shape tags)) seen → ⊥
    tagger_refuses h =
        let sh : Shows c seen = subst (λ z. Shows z seen) (is_spelled (tagger_nodes shape tags) tagger_wires) h in none_shown sh.0 sh.1 sh.2 sh.3
