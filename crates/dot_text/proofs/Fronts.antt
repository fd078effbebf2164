-- What stands at a place, as its item is read.
use Rattle.std.proofs.Common.{◌≡◌, ℕ, ◌+◌, ◌<◌, ◌≤◌, sym, ap, subst, ◌∙◌, List, [], ◌∷◌, Option, Some, None, length, drop, get_or, slice_range, arith, drop-cons, add-one}
use Rattle.std.specs.Option.{option_map}
use Rattle.dot_text.specs.declared.scan.Mode.{Mode}
use Rattle.dot_text.specs.declared.scan.Item.{Item}
use Rattle.dot_text.specs.declared.scan.Start.{Start}
use Rattle.dot_text.specs.declared.scan.Start.TheVariants.{More, With, Bad}
use Rattle.dot_text.specs.declared.scan.Taken.{Taken}
use Rattle.dot_text.specs.declared.scan.Taken.TheVariants.{Now, Before}
use Rattle.dot_text.specs.Lexical.{begins_line}
use Rattle.dot_text.specs.Scanner.{Front, Faulty, front, front_at}
use Rattle.dot_text.specs.Stream as stream
use Rattle.dot_text.specs.Stream.{starts, taken, last_item}
use Rattle.dot_text.specs.Rests.{rest_front}
use Rattle.dot_text.specs.Scans.{mode_of, item_of, start_of, taken_of}
use Rattle.dot_text.specs.Readers.{front_of, turn_of, Fits}
use Rattle.dot_text.specs.declared.reader.Turn.{Turn}
use Rattle.dot_text.specs.declared.reader.Turn.TheVariants.{Fails, Goes, Finds}
use Rattle.dot_text.specs.Documents.{Stands, Place}
use Rattle.dot_text.specs.Machine.{State}
use Rattle.dot_text.specs.States.{state_of}
use Rattle.dot_text.proofs.Reading.{Upto}
use Rattle.dot_text.proofs.Stream.{ItemSo, StartsSo, TakenSo, starts_so, taken_so, last_so, After, item_after}
use Rattle.dot_text.proofs.Slices.{slice_none, slice_more, slice_length}

-- what stands at the front, behind a byte that does this to the item that began at start
abbrev pub Leads : List ℕ → ℕ → ℕ → Front → Start → Type 0
Leads bytes start at f (More mode) = f ≡ rest_front (mode_of mode) (slice_range bytes start (at + 1)) (drop (at + 1) bytes)
Leads bytes start at f (With item) = f ≡ front_of bytes start (Some (item, at + 1))
Leads bytes start at f Bad = f ≡ Faulty

abbrev pub LeadsOn : List ℕ → ℕ → ℕ → Front → Taken → Type 0
LeadsOn bytes start at f (Now begun) = Leads bytes start at f begun
LeadsOn bytes start at f (Before item) = f ≡ front_of bytes start (Some (item, at))

leads : (bytes : List ℕ) (start at : ℕ) (f : Front) (begun : Start) → start ≤ at → at < length bytes → StartsSo f (slice_range bytes start at) (get_or bytes at 0) (drop (at + 1) bytes) (start_of begun) → Leads bytes start at f begun
leads bytes start at f (More mode) order within so = so ∙ ap (λ z. rest_front (mode_of mode) z (drop (at + 1) bytes)) (sym (slice_more bytes start at order within))
leads bytes start at f (With item) order within so = so ∙ ap (λ z. stream.front_with (item_of item) (record { text = z; rest = drop (at + 1) bytes })) (sym (slice_more bytes start at order within))
leads bytes start at f Bad order within so = so

here : (bytes : List ℕ) (at : ℕ) → at < length bytes → drop at bytes ≡ get_or bytes at 0 ∷ drop (at + 1) bytes
here bytes at within = drop-cons bytes at 0 within ∙ ap (λ k. get_or bytes at 0 ∷ drop k bytes) (sym (add-one at))

-- the first byte of an item
pub first_leads : (bytes : List ℕ) (start : ℕ) (begun : Start) → start < length bytes → start_of begun ≡ starts (begins_line bytes start) (get_or bytes start 0) → Leads bytes start start (front_at bytes start) begun
first_leads bytes start begun within is =
    leads bytes start start (front_at bytes start) begun (omega arith) within
    (subst (λ z. StartsSo (front_at bytes start) z (get_or bytes start 0) (drop (start + 1) bytes) (start_of begun)) (sym (slice_none bytes start))
    (subst (λ z. StartsSo (front_at bytes start) [] (get_or bytes start 0) (drop (start + 1) bytes) z) (sym is)
    (subst (λ z. StartsSo z [] (get_or bytes start 0) (drop (start + 1) bytes) (starts (begins_line bytes start) (get_or bytes start 0))) (ap (front (begins_line bytes start)) (sym (here bytes start within)))
    (starts_so (begins_line bytes start) (get_or bytes start 0) (drop (start + 1) bytes)))))

-- a byte within it
pub byte_leads : (bytes : List ℕ) (start at : ℕ) (mode : Mode) (t : Taken) (f : Front) → start ≤ at → at < length bytes → taken_of t ≡ taken (mode_of mode) (slice_range bytes start at) (get_or bytes at 0)
    → f ≡ rest_front (mode_of mode) (slice_range bytes start at) (drop at bytes) → LeadsOn bytes start at f t
byte_leads bytes start at mode t f order within is same =
    by t
    (subst (λ z. TakenSo f (slice_range bytes start at) (get_or bytes at 0) (drop (at + 1) bytes) z) (sym is)
    (subst (λ z. TakenSo z (slice_range bytes start at) (get_or bytes at 0) (drop (at + 1) bytes) (taken (mode_of mode) (slice_range bytes start at) (get_or bytes at 0))) (sym (same ∙ ap (rest_front (mode_of mode) (slice_range bytes start at)) (here bytes at within)))
    (taken_so (mode_of mode) (slice_range bytes start at) (get_or bytes at 0) (drop (at + 1) bytes))))
  where
    by : (t : Taken) → TakenSo f (slice_range bytes start at) (get_or bytes at 0) (drop (at + 1) bytes) (taken_of t) → LeadsOn bytes start at f t
    by (Now begun) so = leads bytes start at f begun order within so
    by (Before item) so = so ∙ ap (λ z. stream.front_with (item_of item) (record { text = slice_range bytes start at; rest = z })) (sym (here bytes at within))

-- the end of the bytes within it
pub last_leads : (bytes : List ℕ) (start at : ℕ) (mode : Mode) (last : Option Item) (f : Front) → drop at bytes ≡ [] → option_map item_of last ≡ last_item (mode_of mode) (slice_range bytes start at)
    → f ≡ rest_front (mode_of mode) (slice_range bytes start at) (drop at bytes) → f ≡ front_of bytes start (option_map (λ item. (item, at)) last)
last_leads bytes start at mode last f ends is same =
    by last
    (subst (λ z. ItemSo f (slice_range bytes start at) z) (sym is)
    (subst (λ z. ItemSo z (slice_range bytes start at) (last_item (mode_of mode) (slice_range bytes start at))) (sym (same ∙ ap (rest_front (mode_of mode) (slice_range bytes start at)) ends))
    (last_so (mode_of mode) (slice_range bytes start at))))
  where
    by : (last : Option Item) → ItemSo f (slice_range bytes start at) (option_map item_of last) → f ≡ front_of bytes start (option_map (λ item. (item, at)) last)
    by None so = so
    by (Some item) so = so ∙ ap (λ z. stream.front_with (item_of item) (record { text = slice_range bytes start at; rest = z })) (sym ends)

-- what the item at a place does
abbrev pub TurnSays : List ℕ → ℕ → ℕ → ℕ → Turn → Type 0
TurnSays bytes from at to Fails = Place bytes from at
TurnSays bytes from at to (Goes state) = Upto bytes from to (state_of state)
TurnSays bytes from at to (Finds doc) = Stands bytes from doc to

pub item_says : {bytes : List ℕ} {from at : ℕ} {s : State} (u : Upto bytes from at s) (item : Item) (to : ℕ) (turn : Turn) → Fits bytes at (item, to) → front_of bytes at (Some (item, to)) ≡ front_at bytes at
    → turn_of at to turn ≡ stream.item_turn at s (item_of item) (slice_range bytes at to) → TurnSays bytes from at to turn
unfolding After
item_says {bytes = bytes} {from = from} {at = at} {s = s} u item to turn fits is same =
    by turn
    (subst (λ q. After bytes from q (turn_of at to turn)) (slice_length bytes at to (omega (arith, fits.further)) fits.within)
    (subst (λ t. After bytes from (at + length (slice_range bytes at to)) t) (sym same) (item_after u (item_of item) (slice_range bytes at to) (drop to bytes) (sym is))))
  where
    by : (turn : Turn) → After bytes from to (turn_of at to turn) → TurnSays bytes from at to turn
    by Fails h = h
    by (Goes state) h = h.0
    by (Finds doc) h = h
