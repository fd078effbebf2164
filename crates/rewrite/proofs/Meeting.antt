-- What is met backwards through Buffers, in a graph and without one of its Buffers.
use Rattle.std.proofs.Common.{◌≡◌, ◌≢◌, ◌⊎◌, inl, inr, refl, sym, ap, subst, ◌∙◌, Some, Ordering, Less, Equal, Greater, is_lt, true≢false}
use Rattle.std.proofs.lemmas.Option.{same_Some}
use Rattle.std.specs.Ordering.{ordering_reverse}
use Rattle.std.specs.Cmp.{tied_itself}
use Rattle.std.specs.FinMap as map
use Rattle.components.specs.Name.{Name, Port, name_cmp}
use Rattle.components.specs.NamedGraph.{NamedGraph}
use Rattle.circuits.specs.Buffers.{first_port}
use Rattle.rewrite.specs.Stripped.{IsBuffer, FeedsItself, Meets, Meets.feeds, Meets.beyond, IsLastOfRing, Stays, FeedsStripped, IsStripped}
use Rattle.components.specs.Orders.{name_total, name_same, name_cases}
use Rattle.rewrite.proofs.Dropping.{Bypasses, node_other, same_buffer, buffer_at}

-- the output is the one that was sought, or meets it through its Buffer
abbrev pub Reaches : NamedGraph → Port → Port → Type 0
Reaches g found source = (found ≡ source) ⊎ ((buffer : Name) × (found ≡ first_port buffer) × IsBuffer g buffer × Meets g (first_port buffer) source)

meets_from : (g : NamedGraph) (target found source : Port) → map.get g.feeders target ≡ Some found → Reaches g found source → Meets g target source
meets_from g target found source wired (inl is) = feeds target source (wired ∙ ap Some is)
meets_from g target found source wired (inr past) = beyond target source past.0 (wired ∙ ap Some past.1) past.2 past.3

pub met_from : (g : NamedGraph) (target source : Port) → Meets g target source → (found : Port) × (map.get g.feeders target ≡ Some found) × Reaches g found source
met_from g _ _ (feeds target source wired) = (source, wired, inl refl)
met_from g _ _ (beyond target source buffer wired is rest) = (first_port buffer, wired, inr (buffer, refl, is, rest))

met_by_itself : (g : NamedGraph) (name : Name) → FeedsItself g name → (target source : Port) → Meets g target source → target ≡ first_port name → source ≡ first_port name
met_by_itself g name itself _ _ (feeds target source wired) is = same_Some source (first_port name) (sym wired ∙ ap (map.get g.feeders) is ∙ itself)
met_by_itself g name itself _ _ (beyond target source buffer wired of_kind rest) is =
    met_by_itself g name itself (first_port buffer) source rest (same_Some (first_port buffer) (first_port name) (sym wired ∙ ap (map.get g.feeders) is ∙ itself))

-- a Buffer that is wired to itself meets itself alone
pub itself_alone : (g : NamedGraph) (name other : Name) → FeedsItself g name → Meets g (first_port name) (first_port other) → other ≡ name
itself_alone g name other itself met = ap (λ (p : Port). p.node) (met_by_itself g name itself (first_port name) (first_port other) met refl)

pub not_less_itself : (name : Name) → name_cmp name name ≢ Less
not_less_itself name less = true≢false (ap is_lt (sym less ∙ tied_itself name_total name))

turned_less : (a b : Name) (r : Ordering) → name_cmp a b ≡ r → r ≢ Less → a ≢ b → ordering_reverse r ≡ Less
turned_less a b Less e not_less other = absurd (not_less refl)
turned_less a b Equal e not_less other = absurd (other (name_same a b e))
turned_less a b Greater e not_less other = refl

less_back : (a b : Name) → name_cmp a b ≢ Less → a ≢ b → name_cmp b a ≡ Less
less_back a b not_less other = name_total.antisymm b a ∙ turned_less a b (name_cmp a b) refl not_less other

pub not_less_back : (a b : Name) → name_cmp a b ≡ Less → name_cmp b a ≢ Less
not_less_back a b less back = true≢false (ap is_lt (sym back ∙ name_total.antisymm b a ∙ ap ordering_reverse less))

-- each Buffer with a lesser name is wired to itself
abbrev pub LesserFeedThemselves : NamedGraph → Name → Type 0
LesserFeedThemselves g b = (name : Name) → IsBuffer g name → name_cmp name b ≡ Less → FeedsItself g name

module _ (g : NamedGraph) (b : Name) (h : NamedGraph) (past : Bypasses g b h) where
  pub buffer_other : (name : Name) → IsBuffer h name → name ≢ b
  buffer_other name is = let at = buffer_at h name is in node_other past name at.body at.is

  pub buffer_before : (name : Name) → IsBuffer h name → IsBuffer g name
  buffer_before name is = same_buffer h g name (past.node_kept name (buffer_other name is)) is

  buffer_after : (name : Name) → name ≢ b → IsBuffer g name → IsBuffer h name
  buffer_after name other = same_buffer g h name (sym (past.node_kept name other))

  meets_before : (p q : Port) → Meets h p q → Meets g p q
  meets_before _ _ (feeds p q wired) =
      elim ((past.wire_from p q wired).2) [
        | inl e ↦ feeds p q e
        | inr e ↦ beyond p q b e.0 past.buffer (feeds (first_port b) q (past.fed ∙ ap Some (sym e.1)))
      ]
  meets_before _ _ (beyond p q buffer wired is rest) =
      let rest_before = meets_before (first_port buffer) q rest in
      elim ((past.wire_from p (first_port buffer) wired).2) [
        | inl e ↦ beyond p q buffer e (buffer_before buffer is) rest_before
        | inr e ↦ beyond p q b e.0 past.buffer (beyond (first_port b) q buffer (past.fed ∙ ap Some (sym e.1)) (buffer_before buffer is) rest_before)
      ]

  target_other : (p q : Port) → Meets h p q → p.node ≢ b
  target_other p q met = let (found, wired, reaches) = met_from h p q met in (past.wire_from p found wired).0

  source_other : (p q : Port) → Meets h p q → q.node ≢ b
  source_other _ _ (feeds p q wired) = (past.wire_from p q wired).1
  source_other _ _ (beyond p q buffer wired is rest) = source_other (first_port buffer) q rest

  -- what feeds p where b is passed over
  abbrev Passes : Port → Port → Type 0
  Passes p found = ((map.get g.feeders p ≡ Some found) × (found.node ≢ b)) ⊎ ((map.get g.feeders p ≡ Some (first_port b)) × (found ≡ past.source))

  passes_wired : (p found : Port) → p.node ≢ b → Passes p found → map.get h.feeders p ≡ Some found
  passes_wired p found other (inl e) = past.wire_kept p found other e.1 e.0
  passes_wired p found other (inr e) = past.wire_moved p e.0 ∙ ap Some (sym e.1)

  passes_source : (name : Name) (found : Port) → name ≡ b → Passes (first_port name) found → found ≡ past.source
  passes_source name found is (inl e) = same_Some found past.source (sym e.0 ∙ ap (λ n. map.get g.feeders (first_port n)) is ∙ past.fed)
  passes_source name found is (inr e) = e.1

  meets_passing : (p q : Port) → Meets g p q → q.node ≢ b → (found : Port) × Passes p found × Reaches h found q
  meets_passing _ _ (feeds p q wired) other = (q, inl (wired, other), inl refl)
  meets_passing _ _ (beyond p q buffer wired is rest) other =
      let (found, passes, reaches) = meets_passing (first_port buffer) q rest other in
      elim (name_cases buffer b) [
        | inl same ↦ (past.source, inr (wired ∙ ap (λ n. Some (first_port n)) same, refl), subst (λ z. Reaches h z q) (passes_source buffer found same passes) reaches)
        | inr apart ↦ (first_port buffer, inl (wired, apart), inr (buffer, refl, buffer_after buffer apart is, meets_from h (first_port buffer) found q (passes_wired (first_port buffer) found apart passes) reaches))
      ]

  meets_after : (p q : Port) → p.node ≢ b → q.node ≢ b → Meets g p q → Meets h p q
  meets_after p q other_p other_q met =
      let (found, passes, reaches) = meets_passing p q met other_q in
      meets_from h p found q (passes_wired p found other_p passes) reaches

  last_after : (name : Name) → name ≢ b → IsLastOfRing g name → IsLastOfRing h name
  last_after name apart is =
      record {
        buffer = buffer_after name apart is.buffer;
        ring = meets_after (first_port name) (first_port name) apart apart is.ring;
        last = λ other buffer met. is.last other (buffer_before other buffer) (meets_before (first_port name) (first_port other) met);
      }

  module _ (lesser : LesserFeedThemselves g b) where
    not_last_past : (found : Port) → map.get g.feeders (first_port b) ≡ Some found → Reaches g found (first_port b) → IsLastOfRing g b → ⊥
    not_last_past found wired (inl same) is = past.other_source (ap (λ (p : Port). p.node) (same_Some past.source (first_port b) (sym past.fed ∙ wired ∙ ap Some same)))
    not_last_past found wired (inr reaches) is =
        let before : Name = reaches.0 in
        let fed : map.get g.feeders (first_port b) ≡ Some (first_port before) = wired ∙ ap Some reaches.1 in
        let apart : b ≢ before = λ same. past.other_source (ap (λ (p : Port). p.node) (same_Some past.source (first_port before) (sym past.fed ∙ fed)) ∙ sym same) in
        let less : name_cmp before b ≡ Less = less_back b before (is.last before reaches.2 (feeds (first_port b) (first_port before) fed)) apart in
        apart (itself_alone g before b (lesser before reaches.2 less) reaches.3)

    not_last : ¬ (IsLastOfRing g b)
    not_last is =
        let (found, wired, reaches) = met_from g (first_port b) (first_port b) is.ring in
        not_last_past found wired reaches is

    last_before : (name : Name) → IsLastOfRing h name → IsLastOfRing g name
    last_before name is =
        record {
          buffer = buffer_before name is.buffer;
          ring = meets_before (first_port name) (first_port name) is.ring;
          last = λ other buffer met.
              elim (name_cases other b) [
                | inl same ↦ λ less.
                    let itself = lesser name (buffer_before name is.buffer) (ap (name_cmp name) (sym same) ∙ less) in
                    buffer_other name is.buffer (sym (itself_alone g name other itself met) ∙ same)
                | inr apart ↦ is.last other (buffer_after other apart buffer) (meets_after (first_port name) (first_port other) (buffer_other name is.buffer) apart met)
              ];
        }

    stays_before : (name : Name) → name ≢ b → Stays h name → Stays g name
    stays_before name apart (inl plain) = inl (λ is. plain (buffer_after name apart is))
    stays_before name apart (inr last) = inr (last_before name last)

    stays_after : (name : Name) → name ≢ b → Stays g name → Stays h name
    stays_after name apart (inl plain) = inl (λ is. plain (buffer_before name is))
    stays_after name apart (inr last) = inr (last_after name apart last)

    goes : (name : Name) → name ≡ b → ¬ (Stays g name)
    goes name same (inl plain) = plain (subst (IsBuffer g) (sym same) past.buffer)
    goes name same (inr last) = not_last (subst (IsLastOfRing g) same last)

    feeds_before : (p q : Port) → FeedsStripped h p q → FeedsStripped g p q
    feeds_before p q (inl met) =
        inl (λ is. met.0 (buffer_after p.node (target_other p q met.2) is), λ is. met.1 (buffer_after q.node (source_other p q met.2) is), meets_before p q met.2)
    feeds_before p q (inr ring) = inr (last_before p.node ring.0, ring.1, ring.2)

    -- what is no Buffer is not b
    apart_from : (name : Name) → ¬ (IsBuffer g name) → name ≢ b
    apart_from name plain same = plain (subst (IsBuffer g) (sym same) past.buffer)

    feeds_after : (p q : Port) → FeedsStripped g p q → FeedsStripped h p q
    feeds_after p q (inl met) =
        inl (λ is. met.0 (buffer_before p.node is), λ is. met.1 (buffer_before q.node is), meets_after p q (apart_from p.node met.0) (apart_from q.node met.1) met.2)
    feeds_after p q (inr ring) = inr (last_after p.node (λ same. not_last (subst (IsLastOfRing g) same ring.0)) ring.0, ring.1, ring.2)

    -- what is left without b is what is left with it
    pub stripped_before : (s : NamedGraph) → IsStripped h s → IsStripped g s
    stripped_before s is =
        record {
          nodes = λ name body. (
            λ found. let (was, stays) = (is.nodes name body).0 found in
                let apart = node_other past name body was in
                (sym (past.node_kept name apart) ∙ was, stays_before name apart stays),
            λ has. elim (name_cases name b) [
              | inl same ↦ absurd (goes name same has.1)
              | inr apart ↦ (is.nodes name body).1 (past.node_kept name apart ∙ has.0, stays_after name apart has.1)
            ],
          );
          feeders = λ p q. (λ wired. feeds_before p q ((is.feeders p q).0 wired), λ fed. (is.feeders p q).1 (feeds_after p q fed));
        }
