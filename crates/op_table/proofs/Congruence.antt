-- Whole numbers modulo a power of two.
use Rattle.std.proofs.Common.{◌≡◌, ℕ, ◌+◌, ◌-◌, ◌*◌, ◌/◌, ◌%◌, ◌^◌, ◌≤◌, ℤ, pos, negsuc, ◌+ℤ◌, ◌*ℤ◌, unsigned_abs, refl, sym, ap, ◌∙◌, arith}
use Rattle.std.proofs.Math.Nat.{add-mul, mul-le-mul_left, mul_comm}
use Rattle.std.proofs.Math.IntN.{*ℤ_comm, pos-*ℤ-pos}
use Rattle.std.proofs.lemmas.Nat.{pow_pos, div-add-mod', mod_below}
use Rattle.std.proofs.lemmas.Int.{ints, int_rem_euclid_is}
use borrow.Author.Differences.{up, down, same_in, same_out, sum_is_lem, product_is}
use Rattle.op_table.specs.Value.{modulo}

-- whole numbers that differ by a multiple of the power are one modulo the power
modulo_same : (width : ℕ) (x y : ℤ) (j k : ℕ) → x +ℤ pos (j * 2 ^ width) ≡ y +ℤ pos (k * 2 ^ width) → modulo width x ≡ modulo width y
modulo_same width x y j k e =
    let m = 2 ^ width in
    let some = pow_pos width in
    let t = down x + down y in
    let far : t * 1 ≤ t * m = mul-le-mul_left t some in
    let shifted : (j + t) * m ≡ j * m + t * m = add-mul j t m in
    let shifted' : (k + t) * m ≡ k * m + t * m = add-mul k t m in
    let n = up x + (j + t) * m - down x in
    let from : (z : ℤ) (i : ℕ) → z +ℤ pos ((i + t) * m) ≡ pos n → modulo width z ≡ n % m = λ z i h. ap unsigned_abs (int_rem_euclid_is z (pos m) m (i + t) n some refl h) in
    from x j (omega (arith, ints)) ∙ sym (from y k (omega (arith, ints)))

-- a number modulo the power differs from it by a multiple of the power
modulo_differs : (width : ℕ) (whole : ℤ) → (j : ℕ) × (k : ℕ) × (pos (modulo width whole) +ℤ pos (j * 2 ^ width) ≡ whole +ℤ pos (k * 2 ^ width))
modulo_differs width (pos n) = (n / 2 ^ width, 0, omega (arith, ints, div-add-mod' n (2 ^ width)))
modulo_differs width (negsuc n) = (0, n / 2 ^ width + 1, omega (arith, ints, add-mul (n / 2 ^ width) 1 (2 ^ width), div-add-mod' n (2 ^ width), mod_below n (2 ^ width) (pow_pos width)))

-- a sum
pub modulo-add : (width : ℕ) (x y : ℤ) → modulo width (x +ℤ y) ≡ (modulo width x + modulo width y) % 2 ^ width
modulo-add width x y =
    let left = modulo_differs width x in
    let right = modulo_differs width y in
    let above : (left.1 + right.1) * 2 ^ width ≡ left.1 * 2 ^ width + right.1 * 2 ^ width = add-mul left.1 right.1 (2 ^ width) in
    let below : (left.0 + right.0) * 2 ^ width ≡ left.0 * 2 ^ width + right.0 * 2 ^ width = add-mul left.0 right.0 (2 ^ width) in
    modulo_same width (x +ℤ y) (pos (modulo width x + modulo width y)) (left.1 + right.1) (left.0 + right.0) (omega (arith, ints, left.2, right.2))

times : (width : ℕ) (x y z : ℤ) (j k : ℕ) → x +ℤ pos (j * 2 ^ width) ≡ y +ℤ pos (k * 2 ^ width) → modulo width (x *ℤ z) ≡ modulo width (y *ℤ z)
times width x y z j k e =
    let m = 2 ^ width in
    let sum : up x + j * m + down y ≡ up y + k * m + down x = omega (arith, same_out, sum_is_lem) in
    let above = ap (λ n. n * up z) sum in
    let below = ap (λ n. n * down z) sum in
    modulo_same width (x *ℤ z) (y *ℤ z) (j * up z + k * down z) (k * up z + j * down z) (omega (arith, same_in, sum_is_lem, product_is))

-- a product
pub modulo-mul : (width : ℕ) (x y : ℤ) → modulo width (x *ℤ y) ≡ (modulo width x * modulo width y) % 2 ^ width
modulo-mul width x y =
    let left = modulo_differs width x in
    let right = modulo_differs width y in
    let a = modulo width x in
    let b = modulo width y in
    sym (times width (pos a) x y left.0 left.1 left.2) ∙ ap (modulo width) (*ℤ_comm (pos a) y) ∙ sym (times width (pos b) y (pos a) right.0 right.1 right.2)
    ∙ ap (modulo width) (pos-*ℤ-pos b a) ∙ ap (λ n. n % 2 ^ width) (mul_comm b a)
