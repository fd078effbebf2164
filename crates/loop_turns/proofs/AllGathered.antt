-- Marks gathered one after the other.
use Rattle.std.proofs.Common.{◌≡◌, ◌≢◌, inl, inr, refl, sym, ap, subst, ◌∙◌, if◌then◌else◌, List, [], ◌∷◌, length}
use Rattle.components.specs.Name.{Name}
use Rattle.circuits.specs.Circuit.{Circuit}
use Rattle.circuits.specs.Replacing.{In, In.head, In.tail, NoneTwice}
use Rattle.components.specs.Orders.{same_bytes, other_bytes}
use Rattle.tagged_loop.specs.LoopFunction.{IsLoopFunction}
use Rattle.loop_laws.specs.Polarity.{IsMark}
use Rattle.loop_laws.specs.Loop.{Loop}
use Rattle.loop_laws.specs.OffCycle.{HasLoops, AllOffCycle}
use Rattle.loop_turns.proofs.Lists.{in_or_out}
use Rattle.loop_turns.specs.Rebuilt.{NewNames}
use Rattle.loop_turns.specs.Lanes.{with_loop, tuple_shape}
use Rattle.loop_turns.specs.Gathered.{gathered_graph, gathered_loop, gather_nodes}
use Rattle.loop_turns.specs.NewNames.{gather_name, numbered, Gathering, marks_of, GatheredAll, CanGatherAll, LoopsAfter}
use Rattle.loop_turns.proofs.LoopNames.{gather_names_new, not_in_rest}
use Rattle.loop_turns.proofs.GatheredTurn.{gathered_has_loops, gathered_marks, gathered_off_cycle}

mark_in : (ts : List Gathering) (t : Gathering) → In t ts → In t.mark (marks_of ts)
mark_in [] t i = elim i [ ]
mark_in (s ∷ ss) t (head e) = head (ap (λ (z : Gathering). z.mark) e)
mark_in (s ∷ ss) t (tail i) = tail (mark_in ss t i)

-- the loops of the marks alone matter
agree : (ts : List Gathering) (g h : Circuit) (loops loops' : Name → Loop) → ((m : Name) → In m (marks_of ts) → loops' m ≡ loops m) → GatheredAll g loops ts h → GatheredAll g loops' ts h
agree [] g h loops loops' same e = e
agree (t ∷ ts) g h loops loops' same (k, fresh, rest) =
    let later = agree ts (gathered_graph g t.mark (loops t.mark) t.fun (gather_name (numbered k))) h loops loops' (λ m i. same m (tail i)) rest in
    (k, fresh, subst (λ l. GatheredAll (gathered_graph g t.mark l t.fun (gather_name (numbered k))) loops' ts h) (sym (same t.mark (head refl))) later)

with_other : (loops : Name → Loop) (m : Name) (l : Loop) (n : Name) → n ≢ m → with_loop loops m l n ≡ loops n
with_other loops m l n away = ap (λ b. if b then l else loops n) (other_bytes n m away)

with_same : (loops : Name → Loop) (m : Name) (l : Loop) → with_loop loops m l m ≡ l
with_same loops m l = ap (λ b. if b then l else loops m) (same_bytes m m refl)

pub all_gathered : (ts : List Gathering) (g h : Circuit) (loops : Name → Loop) → HasLoops g loops → NoneTwice (marks_of ts) → CanGatherAll g loops ts → GatheredAll g loops ts h → LoopsAfter g h loops (marks_of ts)
all_gathered [] g h loops has once can e =
    record { after = loops; has = subst (λ z. HasLoops z loops) e has; others = λ n o. refl; one_lane = λ n i. elim i [ ]; off = λ o. subst (λ z. AllOffCycle z loops) e o }
all_gathered (t ∷ ts) g h loops has once can (k, fresh, rest) =
    let (mark, body) = can t (head refl) in
    let name = gather_name (numbered k) in
    let names : NewNames g gather_nodes name = gather_names_new g (numbered k) fresh.0 in
    let l = loops t.mark in
    let g' : Circuit = gathered_graph g t.mark l t.fun name in
    let loops' : Name → Loop = with_loop loops t.mark (gathered_loop l name) in
    let has' : HasLoops g' loops' = gathered_has_loops g loops t.mark t.fun name has mark body names in
    let same : (m : Name) → In m (marks_of ts) → loops' m ≡ loops m =
    λ m i. with_other loops t.mark (gathered_loop l name) m (λ e. not_in_rest t.mark (marks_of ts) once.0 (subst (λ z. In z (marks_of ts)) e i)) in
    let later = all_gathered ts g' h loops' has' once.1
    (λ s i.
    let (ms, bs) = can s (tail i) in
    ((gathered_marks g loops t.mark t.fun name has mark body names s.mark).1 ms, subst (λ z. IsLoopFunction (tuple_shape z) s.fun) (sym (same s.mark (mark_in ts s i))) bs))
    (agree ts g' h loops loops' same rest) in
    record {
      after = later.after;
      has = later.has;
      others = λ n o. later.others n (λ i. o (tail i)) ∙ with_other loops t.mark (gathered_loop l name) n (λ e. o (head e));
      one_lane = λ n i.
          elim (in_or_out n (marks_of ts)) [
            | inl j ↦ later.one_lane n j
            | inr o ↦ elim i [
              | head e ↦ ap (λ (z : Loop). length z.lanes) (later.others n o ∙ ap loops' e ∙ with_same loops t.mark (gathered_loop l name))
              | tail j ↦ absurd (o j)
            ]
          ];
      off = λ o. later.off (λ n mn.
          let old : IsMark g n = (gathered_marks g loops t.mark t.fun name has mark body names n).0 mn in
          gathered_off_cycle g loops t.mark t.fun name has mark body names n old (o n old));
    }
