-- What streams of bytes give and take, and how they count.
use Rattle.std.specs.Prelude.{◌≡◌, ℕ, ◌+◌, ◌-◌, ◌^◌, ◌<◌, ◌≤◌, min, List, [], ◌++◌, length, Option, option_map, IfSome, Contains}

-- what a stream tells: its bytes, those left in a source or taken by a sink, where it tells them, and how often it failed
pub record Told : Type 0 where
  pub bytes : Option (List ℕ)
  pub faults : ℕ

-- what a source had left before it gave these bytes
abbrev pub before : List ℕ → Option (List ℕ) → Option (List ℕ)
before given left = option_map (λ rest. given ++ rest) left

-- what a sink has taken after it took these bytes too
abbrev pub after : Option (List ℕ) → List ℕ → Option (List ℕ)
after taken piece = option_map (λ bytes. bytes ++ piece) taken

-- a source that had the first left has the second left, and gave some bytes whose number has P
abbrev pub Gave : (ℕ → Type 0) → Option (List ℕ) → Option (List ℕ) → Type 0
Gave P was left = (given : List ℕ) × P (length given) × (was ≡ before given left)

-- a count one higher, or at its last value
abbrev pub raised : ℕ → ℕ
raised count = min (count + 1) (2 ^ 64 - 1)

-- a count of faults rose, or stands at its last value
abbrev pub Rose : ℕ → ℕ → Type 0
Rose before now = raised before ≤ now

-- What one stream did, by what it told before and now

-- a count of faults never falls
abbrev pub NeverFell : Told → Told → Type 0
NeverFell old new = old.faults ≤ new.faults

-- the stream failed
abbrev pub CountRose : Told → Told → Type 0
CountRose old new = Rose old.faults new.faults

-- a source gave these bytes
abbrev pub GaveThese : List ℕ → Told → Told → Type 0
GaveThese given old new = old.bytes ≡ before given new.bytes

-- a source gave some bytes whose number has P
abbrev pub GaveSome : (ℕ → Type 0) → Told → Told → Type 0
GaveSome P old new = Gave P old.bytes new.bytes

-- a source gave these bytes, and has none left
pub record GaveWhole (input : List ℕ) (old new : Told) : Type 0 where
  pub given : GaveThese input old new
  pub ended : IfSome new.bytes (λ rest. rest ≡ [])

-- a sink took these bytes
abbrev pub Took : List ℕ → Told → Told → Type 0
Took piece old new = new.bytes ≡ after old.bytes piece

-- Calls

-- the call after so many calls has a number, and it is one of those that fail
abbrev pub NextFails : ℕ → List ℕ → Type 0
NextFails calls failing = (calls < 2 ^ 64 - 1) × Contains failing (calls + 1)
