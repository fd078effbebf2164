-- What a walk in depth keeps, task by task.
use Rattle.std.proofs.Common.{◌≡◌, ◌≢◌, ◌⊎◌, inl, inr, ℕ, zero, suc, ◌+◌, ◌<◌, ◌≤◌, sym, ap, subst, ◌∙◌, List, [], ◌∷◌, ◌++◌, map, length, set, replicate, Some, Result, Ok, Err, OnOk, Bool, true, false, true≢false, arith}
use Rattle.std.specs.Prelude.{slice_get}
use Rattle.std.proofs.lemmas.Bool.Decides.{eqb_tells}
use Rattle.std.proofs.lemmas.Option.{same_Some, none-some}
use Rattle.port_types.specs.declared.memory.NoMemory.{NoMemory}
use Rattle.digraph.specs.declared.leaving.Task.{Task}
use Rattle.digraph.specs.declared.leaving.Task.TheVariants.{Enter, Leave}
use Rattle.digraph.specs.Edges.{HasEdge, IsWithin}
use Rattle.digraph.specs.Cycles.{IsMarked, Leads, Leads.here}
use Rattle.digraph.specs.Leaving.{IsBegun, IsLeaveOrder, IsToEnter, LeadsToAll, Settled, Settled.before, Settled.behind, Settled.not_left, Walking, vertex_of, not_entered, to_do}
use Rattle.digraph.proofs.Places.{got_below, got_before, got_first, got_last, got_behind, got_either, set_length, length_repeated, length_more, length_both, length_mapped, mapped, mapped_at}
use Rattle.digraph.proofs.Marks.{marked_here, marked_only, marked_still, no_mark, none_marked}
use Rattle.digraph.proofs.Leads.{one_edge, further}

task_number : Task → ℕ
task_number (Enter v) = 0
task_number (Leave v) = 1

unlike : (v w : ℕ) → ¬ (Leave v ≡ Enter w)
unfolding task_number
unlike v w e = let n : 1 ≡ 0 = ap task_number e in absurd (omega (arith, n))

-- the last task was to leave a vertex
module _ (rows : List (List ℕ)) (entered : List Bool) (rest : List Task) (left : List ℕ) (v : ℕ) (was : Walking rows entered (rest ++ Leave v ∷ []) left) where
  still : (k : ℕ) (t : Task) → slice_get rest k ≡ Some t → slice_get (rest ++ Leave v ∷ []) k ≡ Some t
  still k t at = got_before rest (Leave v ∷ []) k t at

  top : slice_get (rest ++ Leave v ∷ []) (length rest) ≡ Some (Leave v)
  top = got_first rest (Leave v) []

  -- a task to enter is not the last
  still_to_enter : (k w : ℕ) → slice_get (rest ++ Leave v ∷ []) k ≡ Some (Enter w) → slice_get rest k ≡ Some (Enter w)
  still_to_enter k w at = elim (got_last rest (Leave v) (Enter w) k at) [ inl h ↦ h | inr h ↦ absurd (unlike v w (sym h.1)) ]

  -- each vertex that was not left leads to the one that is
  leads_here : (j w : ℕ) → slice_get rest j ≡ Some (Leave w) → Leads rows w v
  leads_here j w at = was.below j (length rest) w (Leave v) (got_below rest j (Leave w) at) (still j (Leave w) at) top

  now_left : List ℕ
  now_left = left ++ v ∷ []

  longer : (i w : ℕ) → slice_get left i ≡ Some w → slice_get now_left i ≡ Some w
  unfolding now_left
  longer i w at = got_before left (v ∷ []) i w at

  last_left : slice_get now_left (length left) ≡ Some v
  unfolding now_left
  last_left = got_first left v []

  settled_still : (i w : ℕ) → i < length left → Settled rows (rest ++ Leave v ∷ []) left i w → Settled rows rest now_left i w
  unfolding now_left
  settled_still i w less (before j le at) = before j le (longer j w at)
  settled_still i w less (behind j at all) =
      behind j (longer j w at)
      (λ k z from to at_k. elim (got_last left v z k at_k) [
        | inl h ↦ all k z from to h
        | inr h ↦ let below = got_below left j w at in let last = h.0 in absurd (omega (arith, below, last, to))
      ])
  settled_still i w less (not_left j at all) =
      elim (got_last rest (Leave v) (Leave w) j at) [
        | inl h ↦
            not_left j h
            (λ k z from at_k. elim (got_last left v z k at_k) [
              | inl old ↦ all k z from old
              | inr new ↦ subst (Leads rows w) (sym new.1) (leads_here j w h)
            ])
        | inr h ↦
            let same : w ≡ v = ap vertex_of h.1 in
            behind (length left) (subst (λ n. slice_get now_left (length left) ≡ Some n) (sym same) last_left)
            (λ k z from to at_k. elim (got_last left v z k at_k) [
              | inl old ↦ all k z from old
              | inr new ↦ here (same ∙ sym new.1)
            ])
      ]

  settled_new : (w : ℕ) → HasEdge rows v w → Settled rows rest now_left (length left) w
  unfolding now_left
  settled_new w edge =
      let is_entered : IsMarked entered w = elim (was.above (length rest) v w top edge) [
        | inl e ↦ e
        | inr later ↦
            let less : later.0 < length (rest ++ Leave v ∷ []) = got_below (rest ++ Leave v ∷ []) later.0 (Enter w) later.2 in
            let size : length (rest ++ Leave v ∷ []) ≡ length rest + 1 = length_more rest (Leave v) in
            let after = later.1 in
            absurd (omega (arith, less, size, after))
      ] in
      elim (was.left_or_not w is_entered) [
        | inl h ↦ before h.0 (let less = got_below left h.0 w h.1 in omega (arith, less)) (longer h.0 w h.1)
        | inr h ↦ elim (got_last rest (Leave v) (Leave w) h.0 h.1) [
          | inl standing ↦
              not_left h.0 standing
              (λ k z from at_k. elim (got_last left v z k at_k) [
                | inl old ↦ let less = got_below left k z old in absurd (omega (arith, less, from))
                | inr new ↦ subst (Leads rows w) (sym new.1) (leads_here h.0 w standing)
              ])
          | inr top_one ↦
              let same : w ≡ v = ap vertex_of top_one.1 in
              before (length left) (omega arith) (subst (λ n. slice_get now_left (length left) ≡ Some n) (sym same) last_left)
        ]
      ]

  not_left_v : (i : ℕ) → ¬ (slice_get left i ≡ Some v)
  not_left_v i at = was.apart i (length rest) v at top

  pub left_one : Walking rows entered rest (left ++ v ∷ [])
  unfolding now_left
  left_one =
      record {
        size = was.size;
        within = λ k t at. was.within k t (still k t at);
        below = λ j k u t less at_j at_k. was.below j k u t less (still j (Leave u) at_j) (still k t at_k);
        above = λ j u w at edge. elim (was.above j u w (still j (Leave u) at) edge) [ inl e ↦ inl e | inr later ↦ inr (later.0, later.1, still_to_enter later.0 w later.2) ];
        left_or_not = λ w e. elim (was.left_or_not w e) [
          | inl h ↦ inl (h.0, longer h.0 w h.1)
          | inr h ↦ elim (got_last rest (Leave v) (Leave w) h.0 h.1) [
            | inl standing ↦ inr (h.0, standing)
            | inr top_one ↦ inl (length left, subst (λ n. slice_get now_left (length left) ≡ Some n) (sym (ap vertex_of top_one.1)) last_left)
          ]
        ];
        all = λ w less. elim (was.all w less) [ inl e ↦ inl e | inr h ↦ inr (h.0, still_to_enter h.0 w h.1) ];
        settled = λ i u w at edge. elim (got_last left v u i at) [
          | inl old ↦ settled_still i w (got_below left i u old) (was.settled i u w old edge)
          | inr new ↦ subst (λ n. Settled rows rest now_left n w) (sym new.0) (settled_new w (subst (λ n. HasEdge rows n w) new.1 edge))
        ];
        left_entered = λ i w at. elim (got_last left v w i at) [ inl old ↦ was.left_entered i w old | inr new ↦ subst (IsMarked entered) (sym new.1) (was.not_left_entered (length rest) v top) ];
        not_left_entered = λ j w at. was.not_left_entered j w (still j (Leave w) at);
        apart = λ i j w at_left at_task. elim (got_last left v w i at_left) [
          | inl old ↦ was.apart i j w old (still j (Leave w) at_task)
          | inr new ↦
              let same : j ≡ length rest = was.leave_once j (length rest) v (still j (Leave v) (subst (λ n. slice_get rest j ≡ Some (Leave n)) new.1 at_task)) top in
              let less = got_below rest j (Leave w) at_task in
              absurd (omega (arith, same, less))
        ];
        left_once = λ i j w at_i at_j. elim (got_last left v w i at_i) [
          | inl old_i ↦ elim (got_last left v w j at_j) [
            | inl old_j ↦ was.left_once i j w old_i old_j
            | inr new_j ↦ absurd (not_left_v i (subst (λ n. slice_get left i ≡ Some n) new_j.1 old_i))
          ]
          | inr new_i ↦ elim (got_last left v w j at_j) [
            | inl old_j ↦ absurd (not_left_v j (subst (λ n. slice_get left j ≡ Some n) new_i.1 old_j))
            | inr new_j ↦ new_i.0 ∙ sym new_j.0
          ]
        ];
        leave_once = λ i j w at_i at_j. was.leave_once i j w (still i (Leave w) at_i) (still j (Leave w) at_j);
      }

-- the last task was to enter a vertex that was entered
module _ (rows : List (List ℕ)) (entered : List Bool) (rest : List Task) (left : List ℕ) (v : ℕ) (was : Walking rows entered (rest ++ Enter v ∷ []) left) where
  kept : (k : ℕ) (t : Task) → slice_get rest k ≡ Some t → slice_get (rest ++ Enter v ∷ []) k ≡ Some t
  kept k t at = got_before rest (Enter v ∷ []) k t at

  last_one : slice_get (rest ++ Enter v ∷ []) (length rest) ≡ Some (Enter v)
  last_one = got_first rest (Enter v) []

  kept_to_leave : (j w : ℕ) → slice_get (rest ++ Enter v ∷ []) j ≡ Some (Leave w) → slice_get rest j ≡ Some (Leave w)
  kept_to_leave j w at = elim (got_last rest (Enter v) (Leave w) j at) [ inl h ↦ h | inr h ↦ absurd (unlike w v h.1) ]

  -- the vertex is to be entered by the last task, or by one before it
  is_last : (k w : ℕ) → slice_get (rest ++ Enter v ∷ []) k ≡ Some (Enter w) → (slice_get rest k ≡ Some (Enter w)) ⊎ (w ≡ v)
  is_last k w at = elim (got_last rest (Enter v) (Enter w) k at) [ inl h ↦ inl h | inr h ↦ inr (ap vertex_of h.1) ]

  settled_kept : (tasks : List Task) → ((j w : ℕ) → slice_get rest j ≡ Some (Leave w) → slice_get tasks j ≡ Some (Leave w)) → (i w : ℕ) → Settled rows (rest ++ Enter v ∷ []) left i w → Settled rows tasks left i w
  settled_kept tasks more i w (before j le at) = before j le at
  settled_kept tasks more i w (behind j at all) = behind j at all
  settled_kept tasks more i w (not_left j at all) = not_left j (more j w (kept_to_leave j w at)) all

  pub entered_again : IsMarked entered v → Walking rows entered rest left
  entered_again again =
      record {
        size = was.size;
        within = λ k t at. was.within k t (kept k t at);
        below = λ j k u t less at_j at_k. was.below j k u t less (kept j (Leave u) at_j) (kept k t at_k);
        above = λ j u w at edge. elim (was.above j u w (kept j (Leave u) at) edge) [
          | inl e ↦ inl e
          | inr later ↦ elim (is_last later.0 w later.2) [ inl h ↦ inr (later.0, later.1, h) | inr same ↦ inl (subst (IsMarked entered) (sym same) again) ]
        ];
        left_or_not = λ w e. elim (was.left_or_not w e) [ inl h ↦ inl h | inr h ↦ inr (h.0, kept_to_leave h.0 w h.1) ];
        all = λ w less. elim (was.all w less) [
          | inl e ↦ inl e
          | inr h ↦ elim (is_last h.0 w h.1) [ inl k ↦ inr (h.0, k) | inr same ↦ inl (subst (IsMarked entered) (sym same) again) ]
        ];
        settled = λ i u w at edge. settled_kept rest (λ j n h. h) i w (was.settled i u w at edge);
        left_entered = was.left_entered;
        not_left_entered = λ j w at. was.not_left_entered j w (kept j (Leave w) at);
        apart = λ i j w at_left at_task. was.apart i j w at_left (kept j (Leave w) at_task);
        left_once = was.left_once;
        leave_once = λ i j w at_i at_j. was.leave_once i j w (kept i (Leave w) at_i) (kept j (Leave w) at_j);
      }

  -- the same where it was not entered
  module _ (row : List ℕ) (at_row : slice_get rows v ≡ Some row) (within : IsWithin rows) (not_yet : ¬ (IsMarked entered v)) where
    now : List Bool
    now = set entered v true

    tasks : List Task
    tasks = (rest ++ Leave v ∷ []) ++ map Enter row

    in_range : v < length entered
    in_range = let less = got_below rows v row at_row in let size = was.size in omega (arith, less, size)

    now_entered : IsMarked now v
    unfolding now
    now_entered = marked_here entered v in_range

    entered_before : (w : ℕ) → IsMarked now w → IsMarked entered w ⊎ (w ≡ v)
    unfolding now
    entered_before w e = marked_only entered v w e

    entered_after : (w : ℕ) → IsMarked entered w → IsMarked now w
    unfolding now
    entered_after w e = marked_still entered v in_range w e

    edge_to : (j y : ℕ) → slice_get row j ≡ Some y → HasEdge rows v y
    edge_to j y at = record { row = row; place = j; is_row = at_row; is_there = at }

    up : (k : ℕ) (t : Task) → slice_get rest k ≡ Some t → slice_get tasks k ≡ Some t
    unfolding tasks
    up k t at = got_before (rest ++ Leave v ∷ []) (map Enter row) k t (got_before rest (Leave v ∷ []) k t at)

    leave_it : slice_get tasks (length rest) ≡ Some (Leave v)
    unfolding tasks
    leave_it = got_before (rest ++ Leave v ∷ []) (map Enter row) (length rest) (Leave v) (got_first rest (Leave v) [])

    -- where a task stands
    Stands : ℕ → Task → Type 0
    Stands k t = (slice_get rest k ≡ Some t) ⊎ (((k ≡ length rest) × (t ≡ Leave v)) ⊎ ((j : ℕ) × (y : ℕ) × (length rest < k) × (slice_get row j ≡ Some y) × (t ≡ Enter y)))

    stands : (k : ℕ) (t : Task) → slice_get tasks k ≡ Some t → Stands k t
    unfolding tasks Stands
    stands k t at =
        elim (got_either (rest ++ Leave v ∷ []) (map Enter row) k t at) [
          | inl h ↦ elim (got_last rest (Leave v) t k h) [ inl r ↦ inl r | inr l ↦ inr (inl l) ]
          | inr h ↦
              let (y, at_y, is) = mapped Enter row h.0 t h.2 in
              let size : length (rest ++ Leave v ∷ []) ≡ length rest + 1 = length_more rest (Leave v) in
              let place = h.1 in
              inr (inr (h.0, y, omega (arith, size, place), at_y, is))
        ]

    -- a task to leave is an old one, or that of the vertex
    to_leave : (j u : ℕ) → slice_get tasks j ≡ Some (Leave u) → (slice_get rest j ≡ Some (Leave u)) ⊎ ((j ≡ length rest) × (u ≡ v))
    unfolding Stands
    to_leave j u at =
        elim (stands j (Leave u) at) [
          | inl h ↦ inl h
          | inr g ↦ elim g [ inl h ↦ inr (h.0, ap vertex_of h.1) | inr h ↦ absurd (unlike u h.1 h.4) ]
        ]

    leads_to_it : (j u : ℕ) → slice_get rest j ≡ Some (Leave u) → Leads rows u v
    leads_to_it j u at = was.below j (length rest) u (Enter v) (got_below rest j (Leave u) at) (kept j (Leave u) at) last_one

    below_now : (j k u : ℕ) (t : Task) → j < k → slice_get tasks j ≡ Some (Leave u) → slice_get tasks k ≡ Some t → Leads rows u (vertex_of t)
    unfolding Stands
    below_now j k u t less at_j at_k =
        elim (to_leave j u at_j) [
          | inl old_j ↦ elim (stands k t at_k) [
            | inl old_k ↦ was.below j k u t less (kept j (Leave u) old_j) (kept k t old_k)
            | inr g ↦ elim g [
              | inl h ↦ subst (λ s. Leads rows u (vertex_of s)) (sym h.1) (leads_to_it j u old_j)
              | inr h ↦ subst (λ s. Leads rows u (vertex_of s)) (sym h.4) (further rows (leads_to_it j u old_j) (edge_to h.0 h.1 h.3))
            ]
          ]
          | inr new_j ↦ elim (stands k t at_k) [
            | inl old_k ↦ let k_less = got_below rest k t old_k in let is = new_j.0 in absurd (omega (arith, k_less, is, less))
            | inr g ↦ elim g [
              | inl h ↦ let is = new_j.0 in let is_k = h.0 in absurd (omega (arith, is, is_k, less))
              | inr h ↦ subst (λ s. Leads rows u (vertex_of s)) (sym h.4) (subst (λ n. Leads rows n h.1) (sym new_j.1) (one_edge rows (edge_to h.0 h.1 h.3)))
            ]
          ]
        ]

    above_now : (j u w : ℕ) → slice_get tasks j ≡ Some (Leave u) → HasEdge rows u w → IsMarked now w ⊎ ((k : ℕ) × (j < k) × (slice_get tasks k ≡ Some (Enter w)))
    unfolding tasks
    above_now j u w at edge =
        elim (to_leave j u at) [
          | inl old ↦ elim (was.above j u w (kept j (Leave u) old) edge) [
            | inl e ↦ inl (entered_after w e)
            | inr later ↦ elim (is_last later.0 w later.2) [ inl h ↦ inr (later.0, later.1, up later.0 (Enter w) h) | inr same ↦ inl (subst (IsMarked now) (sym same) now_entered) ]
          ]
          | inr new ↦
              let e : HasEdge rows v w = subst (λ n. HasEdge rows n w) new.1 edge in
              let same_row : e.row ≡ row = same_Some e.row row (sym e.is_row ∙ at_row) in
              let got : slice_get row e.place ≡ Some w = subst (λ r. slice_get r e.place ≡ Some w) same_row e.is_there in
              let size : length (rest ++ Leave v ∷ []) ≡ length rest + 1 = length_more rest (Leave v) in
              let place = new.0 in
              inr (length (rest ++ Leave v ∷ []) + e.place, omega (arith, size, place), got_behind (rest ++ Leave v ∷ []) (map Enter row) e.place (Enter w) (mapped_at Enter row e.place w got))
        ]

    within_now : (k : ℕ) (t : Task) → slice_get tasks k ≡ Some t → vertex_of t < length rows
    unfolding Stands
    within_now k t at =
        elim (stands k t at) [
          | inl h ↦ was.within k t (kept k t h)
          | inr g ↦ elim g [
            | inl h ↦ subst (λ s. vertex_of s < length rows) (sym h.1) (got_below rows v row at_row)
            | inr h ↦ subst (λ s. vertex_of s < length rows) (sym h.4) (within v h.1 (edge_to h.0 h.1 h.3))
          ]
        ]

    not_there : (j : ℕ) → ¬ (slice_get rest j ≡ Some (Leave v))
    not_there j at = not_yet (was.not_left_entered j v (kept j (Leave v) at))

    pub entered_new : Walking rows (set entered v true) ((rest ++ Leave v ∷ []) ++ map Enter row) left
    unfolding now tasks
    entered_new =
        record {
          size = set_length entered v true ∙ was.size;
          within = within_now;
          below = below_now;
          above = above_now;
          left_or_not = λ w e. elim (entered_before w e) [
            | inl old ↦ elim (was.left_or_not w old) [ inl h ↦ inl h | inr h ↦ inr (h.0, up h.0 (Leave w) (kept_to_leave h.0 w h.1)) ]
            | inr same ↦ inr (length rest, subst (λ n. slice_get tasks (length rest) ≡ Some (Leave n)) (sym same) leave_it)
          ];
          all = λ w less. elim (was.all w less) [
            | inl e ↦ inl (entered_after w e)
            | inr h ↦ elim (is_last h.0 w h.1) [ inl k ↦ inr (h.0, up h.0 (Enter w) k) | inr same ↦ inl (subst (IsMarked now) (sym same) now_entered) ]
          ];
          settled = λ i u w at edge. settled_kept tasks (λ j n h. up j (Leave n) h) i w (was.settled i u w at edge);
          left_entered = λ i w at. entered_after w (was.left_entered i w at);
          not_left_entered = λ j w at. elim (to_leave j w at) [
            | inl old ↦ entered_after w (was.not_left_entered j w (kept j (Leave w) old))
            | inr new ↦ subst (IsMarked now) (sym new.1) now_entered
          ];
          apart = λ i j w at_left at_task. elim (to_leave j w at_task) [
            | inl old ↦ was.apart i j w at_left (kept j (Leave w) old)
            | inr new ↦ not_yet (subst (IsMarked entered) new.1 (was.left_entered i w at_left))
          ];
          left_once = was.left_once;
          leave_once = λ i j w at_i at_j. elim (to_leave i w at_i) [
            | inl old_i ↦ elim (to_leave j w at_j) [
              | inl old_j ↦ was.leave_once i j w (kept i (Leave w) old_i) (kept j (Leave w) old_j)
              | inr new_j ↦ absurd (not_there i (subst (λ n. slice_get rest i ≡ Some (Leave n)) new_j.1 old_i))
            ]
            | inr new_i ↦ elim (to_leave j w at_j) [
              | inl old_j ↦ absurd (not_there j (subst (λ n. slice_get rest j ≡ Some (Leave n)) new_i.1 old_j))
              | inr new_j ↦ new_i.0 ∙ sym new_j.0
            ]
          ];
        }

-- the beginning

pub none_to_enter : IsToEnter 0 []
none_to_enter = record { within = λ k t at. absurd (none-some t at); all = λ v less. absurd (omega (arith, less)) }

pub one_to_enter : (count : ℕ) (tasks : List Task) → IsToEnter count tasks → IsToEnter (count + 1) (tasks ++ Enter count ∷ [])
one_to_enter count tasks before_it =
    record {
      within = λ k t at. elim (got_last tasks (Enter count) t k at) [
        | inl h ↦ let one = before_it.within k t h in (one.0, let less = one.1 in omega (arith, less), one.2)
        | inr h ↦ (count, omega arith, h.1)
      ];
      all = λ v less. elim (eqb_tells v count) [
        | inl same ↦ (length tasks, subst (λ n. slice_get (tasks ++ Enter count ∷ []) (length tasks) ≡ Some (Enter n)) (sym same.1) (got_first tasks (Enter count) []))
        | inr other ↦ let one = before_it.all v (let ne : v ≢ count = other.1 in omega (arith, less, ne)) in (one.0, got_before tasks (Enter count ∷ []) one.0 (Enter v) one.1)
      ];
    }

module _ (rows : List (List ℕ)) (tasks : List Task) (to_enter : IsToEnter (length rows) tasks) where
  no_leave : (j u : ℕ) → ¬ (slice_get tasks j ≡ Some (Leave u))
  no_leave j u at = let one = to_enter.within j (Leave u) at in unlike u one.0 one.2

  pub begun : Walking rows (replicate (length rows) false) tasks []
  begun =
      record {
        size = length_repeated (length rows) false;
        within = λ k t at. let one = to_enter.within k t at in subst (λ s. vertex_of s < length rows) (sym one.2) one.1;
        below = λ j k u t less at_j at_k. absurd (no_leave j u at_j);
        above = λ j u w at edge. absurd (no_leave j u at);
        left_or_not = λ w e. absurd (none_marked (length rows) w e);
        all = λ v less. inr (to_enter.all v less);
        settled = λ i u w at edge. absurd (none-some u at);
        left_entered = λ i w at. absurd (none-some w at);
        not_left_entered = λ j w at. absurd (no_leave j w at);
        apart = λ i j w at_left at_task. no_leave j w at_task;
        left_once = λ i j w at_i at_j. absurd (none-some w at_i);
        leave_once = λ i j w at_i at_j. absurd (no_leave i w at_i);
      }

pub is_begun : (rows : List (List ℕ)) (entered : List Bool) (tasks : List Task) (left : List ℕ) → IsBegun (length rows) entered tasks left → Walking rows entered tasks left
is_begun rows entered tasks left b =
    subst (λ es. Walking rows es tasks left) (sym b.none_entered) (subst (λ ls. Walking rows (replicate (length rows) false) tasks ls) (sym b.none_left) (begun rows tasks b.to_enter))

-- the end

module _ (rows : List (List ℕ)) (entered : List Bool) (order : List ℕ) (was : Walking rows entered [] order) where
  found_settled : (i u w : ℕ) → slice_get order i ≡ Some u → Settled rows [] order i w → (j : ℕ) × (slice_get order j ≡ Some w) × ((j ≤ i) ⊎ LeadsToAll rows order w i j)
  found_settled i u w at_u (before j le at) = (j, at, inl le)
  found_settled i u w at_u (behind j at all) = (j, at, inr all)
  found_settled i u w at_u (not_left j at all) = absurd (none-some (Leave w) at)

  pub done : IsLeaveOrder rows order
  done =
      record {
        within = λ i v at. let less = got_below entered v true (was.left_entered i v at) in let size = was.size in omega (arith, less, size);
        all = λ v less. elim (was.all v less) [
          | inl e ↦ elim (was.left_or_not v e) [ inl h ↦ h | inr h ↦ absurd (none-some (Leave v) h.1) ]
          | inr h ↦ absurd (none-some (Enter v) h.1)
        ];
        once = was.left_once;
        settled = λ i u w at edge. found_settled i u w at (was.settled i u w at edge);
      }

-- each task makes what is to be done less

entered_less : (rows : List (List ℕ)) (entered : List Bool) (v : ℕ) (row : List ℕ) → slice_get rows v ≡ Some row → slice_get entered v ≡ Some false →
    not_entered rows entered ≡ not_entered rows (set entered v true) + (length row + 1)
entered_less [] entered v row at is = absurd (none-some row at)
entered_less (r ∷ rows) [] v row at is = absurd (none-some false is)
entered_less (r ∷ rows) (true ∷ es) zero row at is = absurd (true≢false (same_Some true false is))
entered_less (r ∷ rows) (false ∷ es) zero row at is =
    let same : length r ≡ length row = ap length (same_Some r row at) in
    omega (arith, same)
entered_less (r ∷ rows) (true ∷ es) (suc v) row at is = entered_less rows es v row at is
entered_less (r ∷ rows) (false ∷ es) (suc v) row at is = let less = entered_less rows es v row at is in omega (arith, less)

pub less_to_do : (rows : List (List ℕ)) (entered : List Bool) (rest : List Task) (v : ℕ) (row : List ℕ) → slice_get rows v ≡ Some row → slice_get entered v ≡ Some false →
    to_do rows (set entered v true) ((rest ++ Leave v ∷ []) ++ map Enter row) < to_do rows entered (rest ++ Enter v ∷ [])
less_to_do rows entered rest v row at is =
    let less = entered_less rows entered v row at is in
    let one = length_more rest (Enter v) in
    let two = length_more rest (Leave v) in
    let three = length_both (rest ++ Leave v ∷ []) (map Enter row) in
    let four = length_mapped Enter row in
    omega (arith, less, one, two, three, four)

pub less_by_last : (rows : List (List ℕ)) (entered : List Bool) (rest : List Task) (t : Task) → to_do rows entered rest < to_do rows entered (rest ++ t ∷ [])
less_by_last rows entered rest t = let one = length_more rest t in omega (arith, one)

-- the last task speaks of a vertex
pub in_graph : (rows : List (List ℕ)) (entered : List Bool) (rest : List Task) (left : List ℕ) (t : Task) → Walking rows entered (rest ++ t ∷ []) left → vertex_of t < length rows
in_graph rows entered rest left t was = was.within (length rest) t (got_first rest t [])

-- the vertex is entered, and those that edges lead to are put in, if there was memory
module _ (rows : List (List ℕ)) (entered : List Bool) (rest pushed then : List Task) (left row : List ℕ) (v : ℕ) (at : slice_get rows v ≡ Some row) (is_pushed : pushed ≡ rest ++ Leave v ∷ []) where
  put_in : (r : Result (Unit {0}) NoMemory) → OnOk r (then ≡ pushed ++ map Enter row) → Walking rows entered (rest ++ Enter v ∷ []) left → IsWithin rows → slice_get entered v ≡ Some false →
      OnOk r (Walking rows (set entered v true) then left) × OnOk r (to_do rows (set entered v true) then < to_do rows entered (rest ++ Enter v ∷ []))
  put_in (Err e) ok was within is_no = (tt, tt)
  put_in (Ok u) ok was within is_no =
      let is : then ≡ (rest ++ Leave v ∷ []) ++ map Enter row = ok ∙ ap (λ ts. ts ++ map Enter row) is_pushed in (
        subst (λ ts. Walking rows (set entered v true) ts left) (sym is) (entered_new rows entered rest left v was row at within (no_mark entered v is_no)),
        subst (λ ts. to_do rows (set entered v true) ts < to_do rows entered (rest ++ Enter v ∷ [])) (sym is) (less_to_do rows entered rest v row at is_no),
      )

  pub put_in_walks : (r : Result (Unit {0}) NoMemory) → OnOk r (then ≡ pushed ++ map Enter row) → Walking rows entered (rest ++ Enter v ∷ []) left → IsWithin rows → slice_get entered v ≡ Some false →
      OnOk r (Walking rows (set entered v true) then left)
  put_in_walks r ok was within is_no = (put_in r ok was within is_no).0

  pub put_in_less : (r : Result (Unit {0}) NoMemory) → OnOk r (then ≡ pushed ++ map Enter row) → Walking rows entered (rest ++ Enter v ∷ []) left → IsWithin rows → slice_get entered v ≡ Some false →
      OnOk r (to_do rows (set entered v true) then < to_do rows entered (rest ++ Enter v ∷ []))
  put_in_less r ok was within is_no = (put_in r ok was within is_no).1

pub all_done : (rows : List (List ℕ)) (entered : List Bool) (tasks : List Task) (order : List ℕ) → length tasks ≡ 0 → Walking rows entered tasks order → IsLeaveOrder rows order
all_done rows entered [] order none was = done rows entered order was
all_done rows entered (t ∷ tasks) order none was = absurd (omega (arith, none))
