-- A reader goes over a text: where it stands, what it counted and what it built.
use Rattle.std.proofs.Common.{◌≡◌, ℕ, ◌+◌, List, [], ◌∷◌, ◌++◌, true, cond, Option, Some, None, Ok, Err, refl, ap, sym, ◌∙◌}
use Rattle.fun_expr.specs.declared.state.Spot.{Spot}
use Rattle.fun_expr.specs.declared.state.State.{State}
use Rattle.fun_expr.specs.declared.scan.Extent.{Extent}
use Rattle.fun_expr.specs.Machine.{state, step, is_whole}
use Rattle.fun_expr.specs.Counting.{counted, go_on, scanned}
use Rattle.fun_expr.specs.Building.{Parts, byte_built, end_built, build_on, built}

pub record Reader : Type 0 where
  pub at : State
  pub extent : Extent
  pub parts : Parts

abbrev pub reader : Spot → ℕ → Extent → Parts → Reader
reader spot nesting extent parts = record { at = state spot nesting; extent = extent; parts = parts }

abbrev pub follow : Extent → Parts → Option State → Option Reader
follow extent parts None = None
follow extent parts (Some s) = Some (record { at = s; extent = extent; parts = parts })

abbrev pub after : Reader → ℕ → Option State → Option Reader
after r byte o = follow (counted r.at byte r.extent) (byte_built r.at.spot byte r.parts) o

-- behind some bytes, if they can follow
abbrev pub reads : Option Reader → List ℕ → Option Reader
reads o [] = o
reads None (byte ∷ bytes) = None
reads (Some r) (byte ∷ bytes) = reads (after r byte (step r.at byte)) bytes

-- one byte
pub moves : (r : Reader) (byte : ℕ) (bytes : List ℕ) (s : State) → step r.at byte ≡ Some s →
    reads (Some r) (byte ∷ bytes) ≡ reads (Some (record { at = s; extent = counted r.at byte r.extent; parts = byte_built r.at.spot byte r.parts })) bytes
moves r byte bytes s h = ap (λ o. reads (after r byte o) bytes) h

none_reads : (bytes : List ℕ) → reads None bytes ≡ None
none_reads [] = refl
none_reads (byte ∷ bytes) = refl

pub reads-append : (o : Option Reader) (xs ys : List ℕ) → reads o (xs ++ ys) ≡ reads (reads o xs) ys
reads-append o [] ys = refl
reads-append None (x ∷ xs) ys = sym (none_reads ys)
reads-append (Some r) (x ∷ xs) ys = reads-append (after r x (step r.at x)) xs ys

-- a text that is read to an end that it may have
pub record ReadsWhole (r : Reader) (text : List ℕ) (extent : Extent) (parts : Parts) : Type 0 where
  pub last : Reader
  pub is : reads (Some r) text ≡ Some last
  pub whole : is_whole last.at.spot ≡ true
  pub counts : last.extent ≡ extent
  pub builds : end_built last.at.spot last.parts ≡ parts

same_last : {A : Type 0} {a b : A} → Some a ≡ Some b → a ≡ b
same_last e = cc

pub not_none : (bytes : List ℕ) (last : Reader) → reads None bytes ≡ Some last → ⊥
not_none bytes last h = let e = none_reads bytes in cc

scans_on : (r last : Reader) (at byte : ℕ) (bytes : List ℕ) (o : Option State) → ((s : Reader) (k : ℕ) → reads (Some s) bytes ≡ Some last → scanned s.at s.extent k bytes ≡ Ok last.extent) →
    reads (after r byte o) bytes ≡ Some last → go_on at (λ next. scanned next (counted r.at byte r.extent) (at + 1) bytes) o ≡ Ok last.extent
scans_on r last at byte bytes None rest h = absurd (not_none bytes last h)
scans_on r last at byte bytes (Some s) rest h = rest (record { at = s; extent = counted r.at byte r.extent; parts = byte_built r.at.spot byte r.parts }) (at + 1) h

pub scans_whole : (text : List ℕ) (r last : Reader) (at : ℕ) → reads (Some r) text ≡ Some last → is_whole last.at.spot ≡ true → scanned r.at r.extent at text ≡ Ok last.extent
scans_whole [] r last at h whole =
    let same = same_last h in
    ap (λ b. cond b (Ok r.extent) (Err at)) (ap (λ x. is_whole x.at.spot) same ∙ whole) ∙ ap (λ x. Ok x.extent) same
scans_whole (byte ∷ bytes) r last at h whole = scans_on r last at byte bytes (step r.at byte) (λ s k e. scans_whole bytes s last k e whole) h

builds_on : (r last : Reader) (byte : ℕ) (bytes : List ℕ) (o : Option State) → ((s : Reader) → reads (Some s) bytes ≡ Some last → built s.at s.parts bytes ≡ end_built last.at.spot last.parts) →
    reads (after r byte o) bytes ≡ Some last → build_on r.parts (λ next. built next (byte_built r.at.spot byte r.parts) bytes) o ≡ end_built last.at.spot last.parts
builds_on r last byte bytes None rest h = absurd (not_none bytes last h)
builds_on r last byte bytes (Some s) rest h = rest (record { at = s; extent = counted r.at byte r.extent; parts = byte_built r.at.spot byte r.parts }) h

pub builds_whole : (text : List ℕ) (r last : Reader) → reads (Some r) text ≡ Some last → built r.at r.parts text ≡ end_built last.at.spot last.parts
builds_whole [] r last h = ap (λ x. end_built x.at.spot x.parts) (same_last h)
builds_whole (byte ∷ bytes) r last h = builds_on r last byte bytes (step r.at byte) (λ s e. builds_whole bytes s last e) h
