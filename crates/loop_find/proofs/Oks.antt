-- What holds where a call gave Ok.
use Rattle.std.proofs.Common.{Result, Ok, Err, IfOk, OnOk}

module _ {T E : Type 0} {P Q : Type 0} where
  pub on_ok : (r : Result T E) → (P → Q) → OnOk r P → OnOk r Q
  on_ok (Ok x) f p = f p
  on_ok (Err e) f p = tt

module _ {T E : Type 0} {P Q R : Type 0} where
  pub on_both : (r : Result T E) → (P → Q → R) → OnOk r P → OnOk r Q → OnOk r R
  on_both (Ok x) f p q = f p q
  on_both (Err e) f p q = tt

module _ {T E : Type 0} {P Q : T → Type 0} where
  pub if_ok : (r : Result T E) → ((x : T) → P x → Q x) → IfOk r P → IfOk r Q
  if_ok (Ok x) f p = f x p
  if_ok (Err e) f p = tt
