-- What a reading answers is one thing.
use Rattle.std.proofs.Common.{◌≡◌, Result, Ok, Err}

pub same_answer : {A E : Type 0} (x y : A) → ◌≡◌ {A = Result A E} (Ok x) (Ok y) → x ≡ y
same_answer x y e = cc

pub refused : {A E P : Type 0} (fault : E) (x : A) → ◌≡◌ {A = Result A E} (Err fault) (Ok x) → P
refused fault x e = absurd (cc)
