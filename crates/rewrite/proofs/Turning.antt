-- Each node has its turn, in the order of the names.
use Rattle.std.proofs.Common.{◌≡◌, ◌⊎◌, inl, inr, refl, sym, ap, subst, ◌∙◌, cond, T, List, [], ◌∷◌, map, Some, Less}
use Rattle.std.proofs.lemmas.Option.{none-some, same_Some}
use Rattle.std.specs.FinMap as fin
use Rattle.std.specs.FinMap.{find, is_sorted}
use Rattle.std.specs.FinMap.Entries.{below_all}
use Rattle.components.specs.Name.{Name, Port, name_cmp}
use Rattle.components.specs.NamedGraph.{NamedGraph, IsTyped}
use Rattle.circuits.specs.Buffers.{first_port}
use Rattle.rewrite.specs.Stripped.{IsBuffer, FeedsItself, Meets.feeds, IsLastOfRing, FeedsStripped, IsStripped, OnlyRingsAreLeft}
use Rattle.rewrite.specs.Strips.{StaysAtTurn, Turns}
use Rattle.components.specs.Entries.{first, second, less}
use Rattle.components.specs.Lookups.{other_test}
use Rattle.components.specs.Orders.{name_total, name_same, name_cases}
use Rattle.rewrite.proofs.Dropping.{Bypasses, buffer_at, buffer_cases, buffer_input, buffer_output, drops_bypasses, typed_after}
use Rattle.rewrite.proofs.Meeting.{LesserFeedThemselves, met_from, Reaches, itself_alone, not_less_itself, not_less_back, buffer_before, buffer_other, stripped_before}

abbrev pub IsAmong : Name → List Name → Type 0
IsAmong name [] = ⊥
IsAmong name (x ∷ names) = (name ≡ x) ⊎ IsAmong name names

-- each is less than those after it
abbrev pub Rise : List Name → Type 0
Rise [] = Unit {0}
Rise (x ∷ names) = ((name : Name) → IsAmong name names → name_cmp x name ≡ Less) × Rise names

module _ {X : Type 0} where
  found_among : (name : Name) (es : List (Name × X)) (x : X) → find name_cmp name es ≡ Some x → IsAmong name (map (λ e. e.0) es)
  found_among name [] x found = absurd (none-some x found)
  found_among name (e ∷ es) x found =
      elim (name_cases name e.0) [
        | inl same ↦ inl same
        | inr apart ↦ inr (found_among name es x (ap (λ t. cond t (Some e.1) (find name_cmp name es)) (sym (other_test name_total name_same name e.0 apart)) ∙ found))
      ]

  below_less : (x : Name) (es : List (Name × X)) → T (below_all name_cmp x es) → (name : Name) → IsAmong name (map (λ e. e.0) es) → name_cmp x name ≡ Less
  below_less x [] below name among = absurd among
  below_less x (e ∷ es) below name (inl same) = ap (name_cmp x) same ∙ less (name_cmp x e.0) (first _ _ below)
  below_less x (e ∷ es) below name (inr among) = below_less x es (second _ _ below) name among

  sorted_rise : (es : List (Name × X)) → T (is_sorted name_cmp es) → Rise (map (λ e. e.0) es)
  sorted_rise [] sorted = tt
  sorted_rise (e ∷ es) sorted = (below_less e.0 es (first _ _ sorted), sorted_rise es (second _ _ sorted))

  pub keys_rise : (m : fin.FinMap name_cmp X) → Rise (fin.keys m)
  keys_rise m = sorted_rise (fin.entries m) (fin.entries_sorted m)

  key_among : (m : fin.FinMap name_cmp X) (name : Name) (x : X) → fin.get m name ≡ Some x → IsAmong name (fin.keys m)
  key_among m name x found = found_among name (fin.entries m) x (sym (fin.get-entries m name) ∙ found)

-- each Buffer had its turn and is wired to itself, or has its turn yet
abbrev pub Await : NamedGraph → List Name → Type 0
Await g names = (name : Name) → IsBuffer g name → FeedsItself g name ⊎ IsAmong name names

pub await_keys : (g : NamedGraph) → Await g (fin.keys g.nodes)
await_keys g name is = let at = buffer_at g name is in inr (key_among g.nodes name at.body at.is)

module _ (g : NamedGraph) (typed : IsTyped g) (all : OnlyRingsAreLeft g) where
  itself_last : (name : Name) → IsBuffer g name → IsLastOfRing g name
  itself_last name is =
      record {
        buffer = is;
        ring = feeds (first_port name) (first_port name) (all name is);
        last = λ other buffer met lesser. not_less_itself name (ap (name_cmp name) (sym (itself_alone g name other (all name is) met)) ∙ lesser);
      }

  wired_feeds : (p q : Port) → fin.get g.feeders p ≡ Some q → FeedsStripped g p q
  wired_feeds p q wired =
      elim (buffer_cases g p.node) [
        | inl is ↦
            let at : p ≡ first_port p.node = buffer_input g typed p.node is p q wired refl in
            inr (itself_last p.node is, at, same_Some q p (sym wired ∙ ap (fin.get g.feeders) at ∙ all p.node is ∙ ap Some (sym at)))
        | inr plain ↦ inl (
          plain,
          λ is.
              let at : q ≡ first_port q.node = buffer_output g typed q.node is p q wired refl in
              let same : p ≡ first_port q.node = typed.once p (first_port q.node) (first_port q.node) (wired ∙ ap Some at) (all q.node is) in
              plain (subst (IsBuffer g) (sym (ap (λ (z : Port). z.node) same)) is),
          feeds p q wired,
        )
      ]

  reaches_wired : (p q found : Port) → ¬ (IsBuffer g p.node) → fin.get g.feeders p ≡ Some found → Reaches g found q → fin.get g.feeders p ≡ Some q
  reaches_wired p q found plain wired (inl same) = wired ∙ ap Some same
  reaches_wired p q found plain wired (inr reaches) =
      let same : p ≡ first_port reaches.0 = typed.once p (first_port reaches.0) (first_port reaches.0) (wired ∙ ap Some reaches.1) (all reaches.0 reaches.2) in
      absurd (plain (subst (IsBuffer g) (sym (ap (λ (z : Port). z.node) same)) reaches.2))

  feeds_wired : (p q : Port) → FeedsStripped g p q → fin.get g.feeders p ≡ Some q
  feeds_wired p q (inl met) =
      let (found, wired, reaches) = met_from g p q met.2 in
      reaches_wired p q found met.0 wired reaches
  feeds_wired p q (inr ring) = ap (fin.get g.feeders) ring.1 ∙ all p.node ring.0.buffer ∙ ap Some (sym ring.1 ∙ sym ring.2)

  -- where each Buffer is wired to itself, the graph is stripped
  stripped_itself : IsStripped g g
  stripped_itself =
      record {
        nodes = λ name body. (λ found. (found, elim (buffer_cases g name) [ inl is ↦ inr (itself_last name is) | inr plain ↦ inl plain ]), λ has. has.0);
        feeders = λ p q. (wired_feeds p q, feeds_wired p q);
      }

module _ (g : NamedGraph) (b : Name) (names : List Name) (await : Await g (b ∷ names)) where
  await_stays : StaysAtTurn g b → Await g names
  await_stays stays name is =
      elim (await name is) [
        | inl itself ↦ inl itself
        | inr (inl same) ↦ elim stays [
          | inl plain ↦ absurd (plain (subst (IsBuffer g) same is))
          | inr itself ↦ inl (subst (FeedsItself g) (sym same) itself)
        ]
        | inr (inr among) ↦ inr among
      ]

  await_past : (h : NamedGraph) → Bypasses g b h → Await h names
  await_past h past name is =
      let apart = buffer_other g b h past name is in
      elim (await name (buffer_before g b h past name is)) [
        | inl itself ↦ inl (past.wire_kept (first_port name) (first_port name) apart apart itself)
        | inr (inl same) ↦ absurd (apart same)
        | inr (inr among) ↦ inr among
      ]

  lesser_done : Rise (b ∷ names) → LesserFeedThemselves g b
  lesser_done rise name is lesser =
      elim (await name is) [
        | inl itself ↦ itself
        | inr (inl same) ↦ absurd (not_less_itself b (ap (λ n. name_cmp n b) (sym same) ∙ lesser))
        | inr (inr among) ↦ absurd (not_less_back b name (rise.0 name among) lesser)
      ]

pub turns_from : (names : List Name) (g h : NamedGraph) → IsTyped g → Rise names → Await g names → Turns g names h → IsStripped g h × IsTyped h
turns_from [] g h typed rise await is =
    let all : OnlyRingsAreLeft g = λ name buffer. elim (await name buffer) [ inl itself ↦ itself | inr among ↦ absurd among ] in
    subst (λ z. IsStripped g z × IsTyped z) is (stripped_itself g typed all, typed)
turns_from (b ∷ names) g h typed rise await turns =
    elim (turns.1) [
      | inl stays ↦
          subst (λ z. IsStripped z h × IsTyped h) (sym stays.1)
          (turns_from names turns.0 h (subst IsTyped stays.1 typed) rise.1 (subst (λ z. Await z names) stays.1 (await_stays g b names await stays.0)) turns.2)
      | inr drop ↦
          let past = drops_bypasses g typed b turns.0 drop in
          let after = turns_from names turns.0 h (typed_after g typed b turns.0 past) rise.1 (await_past g b names await turns.0 past) turns.2 in
          (stripped_before g b turns.0 past (lesser_done g b names await rise) h after.0, after.1)
    ]
