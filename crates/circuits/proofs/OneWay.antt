-- From one state a node fires with one choice in one way.
use Rattle.std.proofs.Common.{◌≡◌, ℕ, zero, suc, ◌^◌, ◌%◌, inl, inr, refl, sym, ap, subst, ◌∙◌, map, length, replicate, List, [], ◌∷◌, ◌++◌, arith}
use Rattle.std.specs.List.{concat, zip}
use Rattle.std.proofs.lemmas.List.{append_cancel_left}
use Rattle.std.proofs.lemmas.Option.{same_Some}
use Rattle.op_table.specs.Value.{op_value}
use Rattle.fun_expr.specs.Function.{fun_value}
use Rattle.port_types.specs.Token.{Fits}
use Rattle.components.specs.declared.kind.Kind.{Kind}
use Rattle.components.specs.declared.kind.Kind.TheVariants.{Entry, Exit, Buffer, Fork, Join, Split, Operator, Constant, Source0, Sink0, Pure, Mux, Branch, Merge, CtrlMerge, Init, Tagger}
use Rattle.components.specs.Name.{Name, Port}
use Rattle.components.specs.Kind.{Shape}
use Rattle.circuits.specs.PortTokens.{Token, single, one, at_port, share, share_from}
use Rattle.circuits.specs.Circuit.{Circuit}
use Rattle.circuits.specs.CircuitState.{Slot, HasNoTag, TagsDiffer, CircuitState, IsStateOf}
use Rattle.circuits.specs.Firing.{Label.Fire, FitEach, one_behind, Selects, FiresBranch, waiting, finished, FiresTagger, Fires}
use Rattle.circuits.specs.Run.{Step}
use Rattle.circuits.proofs.Names.{name_cases}
use Rattle.circuits.proofs.Steps.{acts_at, share_same, state_same}

-- what is taken stands at the fronts of the input wires
abbrev Stands : (ℕ → List Token) → List (List Token) → Type 0
Stands wire side = (i : ℕ) → (behind : List Token) × (wire i ≡ at_port side i ++ behind)

at_zero : (side : List (List Token)) → at_port side 0 ≡ []
at_zero [] = refl
at_zero (x ∷ side) = refl

-- the same without the first wire
later : (wire : ℕ → List Token) (x : List Token) (side : List (List Token)) → Stands wire (x ∷ side) → Stands (λ i. wire (suc i)) side
later wire x side h zero = (wire 1, ap (λ z. z ++ wire 1) (sym (at_zero side)))
later wire x side h (suc i) = h (suc (suc i))

-- one token is taken from the first wire
one_token : (wire : ℕ → List Token) (v w : Token) (side other : List (List Token)) → Stands wire (one v ∷ side) → Stands wire (one w ∷ other) → v ≡ w
one_token wire v w side other h k = let z : v ∷ (h 1).0 ≡ w ∷ (k 1).0 = sym (h 1).1 ∙ (k 1).1 in cc

same_parts : (wire : ℕ → List Token) (vs ws : List Token) → length vs ≡ length ws → Stands wire (map one vs) → Stands wire (map one ws) → vs ≡ ws
same_parts wire [] [] e h k = refl
same_parts wire [] (w ∷ ws) e h k = cc
same_parts wire (v ∷ vs) [] e h k = cc
same_parts wire (v ∷ vs) (w ∷ ws) e h k =
    let first : v ≡ w = one_token wire v w (map one vs) (map one ws) h k in
    let rest : vs ≡ ws = same_parts (λ i. wire (suc i)) vs ws (omega (arith, e)) (later wire (one v) (map one vs) h) (later wire (one w) (map one ws) k) in
    λ i. first i ∷ rest i

same_numbers : (wire : ℕ → List Token) (vs ws : List ℕ) → length vs ≡ length ws → Stands wire (map (λ x. one (single x)) vs) → Stands wire (map (λ x. one (single x)) ws) → vs ≡ ws
same_numbers wire [] [] e h k = refl
same_numbers wire [] (w ∷ ws) e h k = cc
same_numbers wire (v ∷ vs) [] e h k = cc
same_numbers wire (v ∷ vs) (w ∷ ws) e h k =
    let token : single v ≡ single w = one_token wire (single v) (single w) (map (λ x. one (single x)) vs) (map (λ x. one (single x)) ws) h k in
    let first : v ≡ w = cc in
    let rest : vs ≡ ws = same_numbers (λ i. wire (suc i)) vs ws (omega (arith, e)) (later wire (one (single v)) (map (λ x. one (single x)) vs) h) (later wire (one (single w)) (map (λ x. one (single x)) ws) k) in
    λ i. first i ∷ rest i

same_behind : (choice : ℕ) (wire : ℕ → List Token) (v w : Token) → Stands wire (one_behind choice v) → Stands wire (one_behind choice w) → v ≡ w
same_behind zero wire v w h k = one_token wire v w [] [] h k
same_behind (suc choice) wire v w h k = same_behind choice (λ i. wire (suc i)) v w (later wire [] (one_behind choice v) h) (later wire [] (one_behind choice w) k)

-- a token is cut in one way
cut_once : (a : Shape) (v w xs ys : List ℕ) → Fits a v → Fits a w → v ++ xs ≡ w ++ ys → (v ≡ w) × (xs ≡ ys)
cut_once [] [] [] xs ys h k e = (refl, e)
cut_once [] [] (n ∷ w) xs ys h k e = absurd k
cut_once [] (m ∷ v) w xs ys h k e = absurd h
cut_once (width ∷ a) [] w xs ys h k e = absurd h
cut_once (width ∷ a) (m ∷ v) [] xs ys h k e = absurd k
cut_once (width ∷ a) (m ∷ v) (n ∷ w) xs ys h k e =
    let z : m ∷ (v ++ xs) ≡ n ∷ (w ++ ys) = e in
    let first : m ≡ n = cc in
    let more : v ++ xs ≡ w ++ ys = cc in
    let rest = cut_once a v w xs ys h.1 k.1 more in
    ((λ i. first i ∷ rest.0 i), rest.1)

same_cut : (shapes : List Shape) (vs ws : List Token) → FitEach shapes vs → FitEach shapes ws → concat vs ≡ concat ws → vs ≡ ws
same_cut [] [] [] h k e = refl
same_cut [] [] (w ∷ ws) h k e = absurd k
same_cut [] (v ∷ vs) ws h k e = absurd h
same_cut (a ∷ shapes) [] ws h k e = absurd h
same_cut (a ∷ shapes) (v ∷ vs) [] h k e = absurd k
same_cut (a ∷ shapes) (v ∷ vs) (w ∷ ws) h k e =
    let (first, more) = cut_once a v w (concat vs) (concat ws) h.0 k.0 e in
    let rest : vs ≡ ws = same_cut shapes vs ws h.1 k.1 more in
    λ i. first i ∷ rest i

-- a tag waits in one slot
has_tag : (tag : ℕ) (older newer : List Slot) → HasNoTag tag (older ++ waiting tag ∷ newer) → ⊥
has_tag tag [] newer h = h.0 refl
has_tag tag (x ∷ older) newer h = has_tag tag older newer h.1

same_place : (tag : ℕ) (older newer older2 newer2 : List Slot) → TagsDiffer (older ++ waiting tag ∷ newer) → older ++ waiting tag ∷ newer ≡ older2 ++ waiting tag ∷ newer2 →
    (older ≡ older2) × (newer ≡ newer2)
same_place tag [] newer [] newer2 h e = (refl, cc)
same_place tag [] newer (y ∷ older2) newer2 h e =
    let more : newer ≡ older2 ++ waiting tag ∷ newer2 = cc in absurd (has_tag tag older2 newer2 (subst (HasNoTag tag) more h.0))
same_place tag (x ∷ older) newer [] newer2 h e =
    let first : x ≡ waiting tag = cc in absurd (has_tag tag older newer (subst (λ (z : Slot). HasNoTag z.tag (older ++ waiting tag ∷ newer)) first h.0))
same_place tag (x ∷ older) newer (y ∷ older2) newer2 h e =
    let first : x ≡ y = cc in
    let more : older ++ waiting tag ∷ newer ≡ older2 ++ waiting tag ∷ newer2 = cc in
    let rest = same_place tag older newer older2 newer2 h.1 more in
    ((λ i. first i ∷ rest.0 i), rest.1)

-- two firings take and give the same, and leave the same slots
record Alike (taken given taken2 given2 : List (List Token)) (new new2 : List Slot) : Type 0 where
  takes : taken ≡ taken2
  gives : given ≡ given2
  slots : new ≡ new2

by_same : {A : Type 0} (f g : A → List (List Token)) (x y : A) (taken given taken2 given2 : List (List Token)) (new new2 slots : List Slot) → x ≡ y →
    taken ≡ f x → given ≡ g x → new ≡ slots → taken2 ≡ f y → given2 ≡ g y → new2 ≡ slots → Alike taken given taken2 given2 new new2
by_same f g x y taken given taken2 given2 new new2 slots e t h n t2 h2 n2 =
    record { takes = t ∙ ap f e ∙ sym t2; gives = h ∙ ap g e ∙ sym h2; slots = n ∙ sym n2 }

module _ (wire : ℕ → List Token) (choice : ℕ) (old : List Slot) (differ : TagsDiffer old) (taken given : List (List Token)) (new : List Slot) (taken2 given2 : List (List Token)) (new2 : List Slot) (h : Stands wire taken) (k : Stands wire taken2) where
  abbrev Same : Type 0
  Same = Alike taken given taken2 given2 new new2

  -- where one token of the one input is taken
  one_input : (v w : Token) → taken ≡ one v ∷ [] → taken2 ≡ one w ∷ [] → v ≡ w
  one_input v w e f = one_token wire v w [] [] (subst (Stands wire) e h) (subst (Stands wire) f k)

  muxes : (v w : Token) → Selects v taken → Selects w taken2 → given ≡ one v ∷ [] → given2 ≡ one w ∷ [] → new ≡ old → new2 ≡ old → Same
  muxes v w (inl e) (inl f) eg fg en fn =
      by_same (λ z. one (single 0) ∷ one z ∷ []) (λ z. one z ∷ []) v w taken given taken2 given2 new new2 old
      (one_token (λ i. wire (suc i)) v w [] [] (later wire (one (single 0)) (one v ∷ []) (subst (Stands wire) e h)) (later wire (one (single 0)) (one w ∷ []) (subst (Stands wire) f k))) e eg en f fg fn
  muxes v w (inl e) (inr f) eg fg en fn =
      let z : single 0 ≡ single 1 = one_token wire (single 0) (single 1) (one v ∷ []) ([] ∷ one w ∷ []) (subst (Stands wire) e h) (subst (Stands wire) f k) in cc
  muxes v w (inr e) (inl f) eg fg en fn =
      let z : single 1 ≡ single 0 = one_token wire (single 1) (single 0) ([] ∷ one v ∷ []) (one w ∷ []) (subst (Stands wire) e h) (subst (Stands wire) f k) in cc
  muxes v w (inr e) (inr f) eg fg en fn =
      by_same (λ z. one (single 1) ∷ [] ∷ one z ∷ []) (λ z. one z ∷ []) v w taken given taken2 given2 new new2 old
      (one_token (λ i. wire (suc (suc i))) v w [] []
      (later (λ i. wire (suc i)) [] (one v ∷ []) (later wire (one (single 1)) ([] ∷ one v ∷ []) (subst (Stands wire) e h)))
      (later (λ i. wire (suc i)) [] (one w ∷ []) (later wire (one (single 1)) ([] ∷ one w ∷ []) (subst (Stands wire) f k)))) e eg en f fg fn

  branches : (v w : Token) → FiresBranch v taken given → FiresBranch w taken2 given2 → new ≡ old → new2 ≡ old → Same
  branches v w (inl e) (inl f) en fn =
      by_same (λ z. one z ∷ one (single 1) ∷ []) (λ z. one z ∷ []) v w taken given taken2 given2 new new2 old
      (one_token wire v w (one (single 1) ∷ []) (one (single 1) ∷ []) (subst (Stands wire) e.0 h) (subst (Stands wire) f.0 k)) e.0 e.1 en f.0 f.1 fn
  branches v w (inl e) (inr f) en fn =
      let z : single 1 ≡ single 0 = one_token (λ i. wire (suc i)) (single 1) (single 0) [] []
      (later wire (one v) (one (single 1) ∷ []) (subst (Stands wire) e.0 h)) (later wire (one w) (one (single 0) ∷ []) (subst (Stands wire) f.0 k)) in
      cc
  branches v w (inr e) (inl f) en fn =
      let z : single 0 ≡ single 1 = one_token (λ i. wire (suc i)) (single 0) (single 1) [] []
      (later wire (one v) (one (single 0) ∷ []) (subst (Stands wire) e.0 h)) (later wire (one w) (one (single 1) ∷ []) (subst (Stands wire) f.0 k)) in
      cc
  branches v w (inr e) (inr f) en fn =
      by_same (λ z. one z ∷ one (single 0) ∷ []) (λ z. [] ∷ one z ∷ []) v w taken given taken2 given2 new new2 old
      (one_token wire v w (one (single 0) ∷ []) (one (single 0) ∷ []) (subst (Stands wire) e.0 h) (subst (Stands wire) f.0 k)) e.0 e.1 en f.0 f.1 fn

  tagger_alike : (tags : ℕ) → FiresTagger tags choice old taken given new → FiresTagger tags choice old taken2 given2 new2 → Same
  tagger_alike tags a b = tagger_at choice tags a b
    where
      gives_result : (tag tag2 : ℕ) (v w : Token) → finished tag v ∷ new ≡ finished tag2 w ∷ new2 → (v ≡ w) × (new ≡ new2)
      gives_result tag tag2 v w e =
          let first : finished tag v ≡ finished tag2 w = cc in
          let rest : new ≡ new2 = cc in
          (same_Some v w (ap (λ (x : Slot). x.result) first), rest)

      comes_back : (tag tag2 : ℕ) (v w : Token) (older newer older2 newer2 : List Slot) → (tag ∷ v ≡ tag2 ∷ w) → old ≡ older ++ waiting tag ∷ newer → old ≡ older2 ++ waiting tag2 ∷ newer2 →
          older ++ finished tag v ∷ newer ≡ older2 ++ finished tag2 w ∷ newer2
      comes_back tag tag2 v w older newer older2 newer2 e eo fo =
          let tags_same : tag ≡ tag2 = cc in
          let same : v ≡ w = cc in
          let place = same_place tag older newer older2 newer2 (subst TagsDiffer eo differ) (sym eo ∙ fo ∙ ap (λ x. older2 ++ waiting x ∷ newer2) (sym tags_same)) in
          λ i. place.0 i ++ finished (tags_same i) (same i) ∷ place.1 i

      tagger_at : (way tags : ℕ) → FiresTagger tags way old taken given new → FiresTagger tags way old taken2 given2 new2 → Same
      tagger_at zero tags (tag, v, eo, et, eg) (tag2, w, fo, ft, fg) =
          let (same, slots) = gives_result tag tag2 v w (sym eo ∙ fo) in
          record { takes = et ∙ sym ft; gives = eg ∙ ap (λ z. [] ∷ one z ∷ []) same ∙ sym fg; slots = slots }
      tagger_at (suc zero) tags (tag, v, older, newer, eo, en, et, eg) (tag2, w, older2, newer2, fo, fn, ft, fg) =
          let same : tag ∷ v ≡ tag2 ∷ w =
          one_token (λ i. wire (suc i)) (tag ∷ v) (tag2 ∷ w) [] []
          (later wire [] (one (tag ∷ v) ∷ []) (subst (Stands wire) et h)) (later wire [] (one (tag2 ∷ w) ∷ []) (subst (Stands wire) ft k)) in
          record {
            takes = et ∙ ap (λ z. [] ∷ one z ∷ []) same ∙ sym ft;
            gives = eg ∙ sym fg;
            slots = en ∙ comes_back tag tag2 v w older newer older2 newer2 same eo fo ∙ sym fn;
          }
      tagger_at (suc (suc tag)) tags (v, below, none, en, et, eg) (w, below2, none2, fn, ft, fg) =
          by_same (λ z. one z ∷ []) (λ z. one (tag ∷ z) ∷ []) v w taken given taken2 given2 new new2 (old ++ waiting tag ∷ []) (one_input v w et ft) et eg en ft fg fn

  fires_alike : (kind : Kind) → Fires kind choice old taken given new → Fires kind choice old taken2 given2 new2 → Same
  fires_alike (Entry a) x y = absurd x
  fires_alike (Exit a) x y = absurd x
  fires_alike (Buffer a) (v, z, et, eg, en) (w, y, ft, fg, fn) =
      by_same (λ x. one x ∷ []) (λ x. one x ∷ []) v w taken given taken2 given2 new new2 old (one_input v w et ft) et eg en ft fg fn
  fires_alike (Fork a count) (v, z, et, eg, en) (w, y, ft, fg, fn) =
      by_same (λ x. one x ∷ []) (λ x. replicate count (one x)) v w taken given taken2 given2 new new2 old (one_input v w et ft) et eg en ft fg fn
  fires_alike (Join shapes) (v, z, el, et, eg, en) (w, y, fl, ft, fg, fn) =
      by_same (λ x. map one x) (λ x. one (concat x) ∷ []) v w taken given taken2 given2 new new2 old
      (same_parts wire v w (el ∙ sym fl) (subst (Stands wire) et h) (subst (Stands wire) ft k)) et eg en ft fg fn
  fires_alike (Split shapes) (v, z, fit, et, eg, en) (w, y, fit2, ft, fg, fn) =
      by_same (λ x. one (concat x) ∷ []) (λ x. map one x) v w taken given taken2 given2 new new2 old
      (same_cut shapes v w fit fit2 (one_input (concat v) (concat w) et ft)) et eg en ft fg fn
  fires_alike (Operator op widths width) (v, z, el, et, eg, en) (w, y, fl, ft, fg, fn) =
      by_same (λ x. map (λ number. one (single number)) x) (λ x. one (single (op_value op (zip widths x) width)) ∷ []) v w taken given taken2 given2 new new2 old
      (same_numbers wire v w (el ∙ sym fl) (subst (Stands wire) et h) (subst (Stands wire) ft k)) et eg en ft fg fn
  fires_alike (Constant a width value) (v, z, et, eg, en) (w, y, ft, fg, fn) =
      by_same (λ x. one x ∷ []) (λ x. one (single (value % 2 ^ width)) ∷ []) v w taken given taken2 given2 new new2 old (one_input v w et ft) et eg en ft fg fn
  fires_alike (Source0 a) (z, et, eg, en) (y, ft, fg, fn) = record { takes = et ∙ sym ft; gives = eg ∙ sym fg; slots = en ∙ sym fn }
  fires_alike (Sink0 a) (v, z, et, eg, en) (w, y, ft, fg, fn) =
      by_same (λ x. one x ∷ []) (λ x. []) v w taken given taken2 given2 new new2 old (one_input v w et ft) et eg en ft fg fn
  fires_alike (Pure fun a) (v, z, et, eg, en) (w, y, ft, fg, fn) =
      by_same (λ x. one x ∷ []) (λ x. one (fun_value fun x) ∷ []) v w taken given taken2 given2 new new2 old (one_input v w et ft) et eg en ft fg fn
  fires_alike (Mux a) (v, z, selects, eg, en) (w, y, selects2, fg, fn) = muxes v w selects selects2 eg fg en fn
  fires_alike (Branch a) (v, z, leads, en) (w, y, leads2, fn) = branches v w leads leads2 en fn
  fires_alike (Merge a count) (v, below, et, eg, en) (w, below2, ft, fg, fn) =
      by_same (one_behind choice) (λ x. one x ∷ []) v w taken given taken2 given2 new new2 old
      (same_behind choice wire v w (subst (Stands wire) et h) (subst (Stands wire) ft k)) et eg en ft fg fn
  fires_alike (CtrlMerge a count width) (v, below, et, eg, en) (w, below2, ft, fg, fn) =
      by_same (one_behind choice) (λ x. one x ∷ one (single choice) ∷ []) v w taken given taken2 given2 new new2 old
      (same_behind choice wire v w (subst (Stands wire) et h) (subst (Stands wire) ft k)) et eg en ft fg fn
  fires_alike (Init value mark) (v, z, et, eg, en) (w, y, ft, fg, fn) =
      by_same (λ x. one x ∷ []) (λ x. one x ∷ []) v w taken given taken2 given2 new new2 old (one_input v w et ft) et eg en ft fg fn
  fires_alike (Tagger a tags) x y = tagger_alike tags x y

-- two firings of one node with one choice lead to one state
module _ (c : Circuit) (s t u : CircuitState) (n : Name) (choice : ℕ) (state : IsStateOf c s) (a : Step c s n (Fire choice) t) (b : Step c s n (Fire choice) u) where
  stands : (l : CircuitState) (st : Step c s n (Fire choice) l) → Stands (λ i. s.wires (record { node = n; port = i })) st.taken
  stands l st i = (
    st.between (record { node = n; port = i }),
    st.takes (record { node = n; port = i }) ∙ ap (λ z. z ++ st.between (record { node = n; port = i })) (share_same n st.taken (record { node = n; port = i }) refl),
  )

  alike : Alike a.taken a.given b.taken b.given (t.slots n) (u.slots n)
  alike =
      fires_alike (λ i. s.wires (record { node = n; port = i })) choice (s.slots n) (state.tags n a.kind a.is_kind)
      a.taken a.given (t.slots n) b.taken b.given (u.slots n) (stands t a) (stands u b) a.kind a.acts (acts_at c s n (Fire choice) u b a.kind a.is_kind)

  same_between : (p : Port) → a.between p ≡ b.between p
  same_between p =
      append_cancel_left (share n a.taken p) (a.between p) (b.between p) (sym (a.takes p) ∙ b.takes p ∙ ap (λ x. share n x p ++ b.between p) (sym alike.takes))

  pub one_way : t ≡ u
  one_way =
      state_same t u (λ p. a.gives p ∙ (λ i. same_between p i ++ share_from n (alike.gives i) (c.feeder p)) ∙ sym (b.gives p))
      (λ m. elim (name_cases m n) [
        | inl is ↦ ap t.slots is.is ∙ alike.slots ∙ ap u.slots (sym is.is)
        | inr ne ↦ a.others m ne.is_not ∙ sym (b.others m ne.is_not)
      ])
