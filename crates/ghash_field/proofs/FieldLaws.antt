-- The product of SP 800-38D, 6.3, is linear, can be cut at any bit, and its reduction can wait.
use Rattle.std.proofs.Common.{◌≡◌, ℕ, zero, suc, ◌+◌, ◌-◌, ◌*◌, ◌/◌, ◌%◌, ◌^◌, ◌<◌, ◌≤◌, sym, refl, ap, ◌∙◌, ap₂, le_refl, add-zero, mul_assoc}
use Rattle.std.proofs.Common.{add_comm, suc-add, one-mul, pow-suc, zero-add, zero-mul, mul-one, div-one, arith, pow_pos, shr-shr}
use native.Mathlib.Nat.{zero-div}
use lib.Bits.{bit_xor, differ, xor_zero_r, xor_self}
use lib.Pow.{high, low, field, mod-mod-pow, split}
use Rattle.octets.proofs.BitXor.{xor_half, xor_odd, xor_swap, xor_assoc}
use Rattle.ghash_field.specs.Field.{R, times_x, product, mul}
use Rattle.ghash_field.specs.Elements.{times_power, four_bits, terms}

-- a bit's multiple
scale_xor : (x y v : ℕ) → x < 2 → y < 2 → differ x y * v ≡ bit_xor (x * v) (y * v)
scale_xor zero y v hx hy = ap (λ (n : ℕ). bit_xor n (y * v)) (sym (zero-mul v))
scale_xor (suc zero) zero v hx hy = sym (ap (bit_xor (1 * v)) (zero-mul v) ∙ xor_zero_r (1 * v))
scale_xor (suc zero) (suc zero) v hx hy = zero-mul v ∙ sym (xor_self (1 * v))
scale_xor (suc zero) (suc (suc y)) v hx hy = omega arith
scale_xor (suc (suc x)) y v hx hy = omega arith

times_x-xor : (a b : ℕ) → times_x (bit_xor a b) ≡ bit_xor (times_x a) (times_x b)
unfolding times_x
times_x-xor a b =
    ap₂ (λ (x y : ℕ). bit_xor x (y * R)) (xor_half a b) (xor_odd a b)
    ∙ ap (bit_xor (bit_xor (a / 2) (b / 2))) (scale_xor (a % 2) (b % 2) R (omega arith) (omega arith))
    ∙ xor_swap (a / 2) (b / 2) (a % 2 * R) (b % 2 * R)

times_x-zero : times_x 0 ≡ 0
unfolding times_x
times_x-zero = refl

times_x-bit : (b v : ℕ) → b < 2 → times_x (b * v) ≡ b * times_x v
times_x-bit zero v h = ap times_x (zero-mul v) ∙ times_x-zero ∙ sym (zero-mul (times_x v))
times_x-bit (suc zero) v h = ap times_x (one-mul v) ∙ sym (one-mul (times_x v))
times_x-bit (suc (suc b)) v h = omega arith

-- nothing goes out of an even number
times_x_even : (v w : ℕ) → w ≡ v * 2 → times_x w ≡ v
unfolding times_x
times_x_even v w e =
    let h : w / 2 ≡ v = omega arith in
    let o : w % 2 ≡ 0 = omega arith in
    ap₂ (λ (n m : ℕ). bit_xor n (m * R)) h o ∙ xor_zero_r v

product-times_x : (k x v : ℕ) → product k x (times_x v) ≡ times_x (product k x v)
unfolding product
product-times_x zero x v = sym times_x-zero
product-times_x (suc k) x v =
    ap₂ bit_xor (sym (times_x-bit (x / 2 ^ k % 2) v (omega arith))) (product-times_x k x (times_x v))
    ∙ sym (times_x-xor (x / 2 ^ k % 2 * v) (product k x (times_x v)))

-- ---- k steps

pub power_xor : (k a b : ℕ) → times_power k (bit_xor a b) ≡ bit_xor (times_power k a) (times_power k b)
unfolding times_power
power_xor zero a b = refl
power_xor (suc k) a b = ap (times_power k) (times_x-xor a b) ∙ power_xor k (times_x a) (times_x b)

pub power_add : (j k v : ℕ) → times_power (j + k) v ≡ times_power k (times_power j v)
unfolding times_power
power_add zero k v = ap (λ (n : ℕ). times_power n v) (zero-add k)
power_add (suc j) k v = ap (λ (n : ℕ). times_power n v) (suc-add j k) ∙ power_add j k (times_x v)

pub power_turned : (j k v : ℕ) → times_power j (times_power k v) ≡ times_power k (times_power j v)
power_turned j k v = sym (power_add k j v) ∙ ap (λ (n : ℕ). times_power n v) (add_comm k j) ∙ power_add j k v

-- they undo k steps to the left
pub power_shifted : (k v : ℕ) → times_power k (v * 2 ^ k) ≡ v
unfolding times_power
power_shifted zero v = mul-one v
power_shifted (suc k) v =
    ap (times_power k) (times_x_even (v * 2 ^ k) (v * 2 ^ suc k) (ap (◌*◌ v) (pow-suc 2 k) ∙ sym (mul_assoc v (2 ^ k) 2)))
    ∙ power_shifted k v

product_power : (j k x v : ℕ) → product k x (times_power j v) ≡ times_power j (product k x v)
unfolding times_power
product_power zero k x v = refl
product_power (suc j) k x v = product_power j k x (times_x v) ∙ ap (times_power j) (product-times_x k x v)

-- ---- a product in two

-- the j bits above k others, and those
cut : (j k x v : ℕ) → product (j + k) x v ≡ bit_xor (product j (x / 2 ^ k) v) (product k x (times_power j v))
unfolding product times_power
cut zero k x v = ap (λ (n : ℕ). product n x v) (zero-add k)
cut (suc j) k x v =
    ap (λ (n : ℕ). product n x v) (suc-add j k)
    ∙ ap₂ (λ (n m : ℕ). bit_xor (n % 2 * v) m) (ap (λ (n : ℕ). x / 2 ^ n) (add_comm j k) ∙ sym (shr-shr x k j)) (cut j k x (times_x v))
    ∙ sym (xor_assoc (x / 2 ^ k / 2 ^ j % 2 * v) (product j (x / 2 ^ k) (times_x v)) (product k x (times_power j (times_x v))))

pub product_cut : (j k x v : ℕ) → product (j + k) x v ≡ bit_xor (product j (x / 2 ^ k) v) (times_power j (product k x v))
product_cut j k x v = cut j k x v ∙ ap (bit_xor (product j (x / 2 ^ k) v)) (product_power j k x v)

-- bits above the k low ones do not matter
low_bit : (j k w l : ℕ) → j < k → l < 2 ^ k → l / 2 ^ j % 2 ≡ (w * 2 ^ k + l) / 2 ^ j % 2
low_bit j k w l hj h =
    let x : ℕ = w * 2 ^ k + l in
    let m : ℕ = k - (1 + j) in
    let e : m + (1 + j) ≡ k = omega arith in
    sym (field l 1 j)
    ∙ ap (λ (n : ℕ). n % 2 ^ (1 + j) / 2 ^ j) (sym (low w k h) ∙ ap (λ (n : ℕ). x % 2 ^ n) (sym e))
    ∙ ap (λ (n : ℕ). n / 2 ^ j) (mod-mod-pow x m (1 + j))
    ∙ field x 1 j

product_low : (j k w l y : ℕ) → l < 2 ^ k → j ≤ k → product j l y ≡ product j (w * 2 ^ k + l) y
unfolding product
product_low zero k w l y h hj = refl
product_low (suc j) k w l y h hj =
    ap₂ (λ (n m : ℕ). bit_xor (n * y) m) (low_bit j k w l hj h) (product_low j k w l (times_x y) h (omega arith))

-- the product of two words, and of the bits that they are
pub product-words : (hi lo v : ℕ) → lo < 2 ^ 64 → bit_xor (product 64 hi v) (times_power 64 (product 64 lo v)) ≡ mul (hi * 2 ^ 64 + lo) v
product-words hi lo v h =
    let x : ℕ = hi * 2 ^ 64 + lo in
    ap₂ (λ (n m : ℕ). bit_xor (product 64 n v) (times_power 64 m)) (sym (high hi 64 h)) (product_low 64 64 hi lo v h (le_refl 64))
    ∙ sym (product_cut 64 64 x v)

-- ---- four bits

product-none : (k v : ℕ) → product k 0 v ≡ 0
unfolding product
product-none zero v = refl
product-none (suc k) v = ap₂ bit_xor (ap (λ (n : ℕ). n % 2 * v) (zero-div (2 ^ k)) ∙ zero-mul v) (product-none k (times_x v))

power_zero : (k : ℕ) → times_power k 0 ≡ 0
unfolding times_power
power_zero zero = refl
power_zero (suc k) = ap (times_power k) times_x-zero ∙ power_zero k

pub product_four : (n v : ℕ) → product 4 n v ≡ mul (four_bits n) v
product_four n v =
    let none : product 124 (n * 2 ^ 124) v ≡ 0
    = sym (product_low 124 124 n 0 v (pow_pos 124) (le_refl 124) ∙ ap (λ (m : ℕ). product 124 m v) (add-zero (n * 2 ^ 124))) ∙ product-none 124 v in
    let top : n * 2 ^ 124 / 2 ^ 124 ≡ n = ap (λ (m : ℕ). m / 2 ^ 124) (sym (add-zero (n * 2 ^ 124))) ∙ high n 124 (pow_pos 124) in
    sym (product_cut 4 124 (n * 2 ^ 124) v
    ∙ ap₂ (λ (a b : ℕ). bit_xor (product 4 a v) (times_power 4 b)) top none
    ∙ ap (bit_xor (product 4 n v)) (power_zero 4)
    ∙ xor_zero_r (product 4 n v))

-- four bits more, below the others
pub product-more : (k x v : ℕ) → product (4 * (k + 1)) x v ≡ bit_xor (product (4 * k) (x / 16) v) (times_power (4 * k) (mul (four_bits (x % 16)) v))
product-more k x v =
    let e : 4 * (k + 1) ≡ 4 * k + 4 = omega arith in
    let l : x % 16 < 2 ^ 4 = omega arith in
    ap (λ (n : ℕ). product n x v) e
    ∙ product_cut (4 * k) 4 x v
    ∙ ap (λ (n : ℕ). bit_xor (product (4 * k) (x / 16) v) (times_power (4 * k) n))
    (sym (product_low 4 4 (x / 16) (x % 16) v l (le_refl 4) ∙ ap (λ (n : ℕ). product 4 n v) (split x 4)) ∙ product_four (x % 16) v)

-- its terms one by one, as an entry of the table is made
pub product-terms : (n a b c d r : ℕ) → b ≡ times_x a → c ≡ times_x b → d ≡ times_x c
    → r ≡ terms n a b c d
    → r ≡ mul (four_bits n) a
unfolding product
product-terms n a b c d r eb ec ed er =
    let cx : c ≡ times_x (times_x a) = ec ∙ ap times_x eb in
    let dx : d ≡ times_x (times_x (times_x a)) = ed ∙ ap times_x cx in
    let last : n % 2 * d ≡ bit_xor (n / 1 % 2 * d) 0 = ap (λ (m : ℕ). m % 2 * d) (sym (div-one n)) ∙ sym (xor_zero_r (n / 1 % 2 * d)) in
    er
    ∙ xor_assoc (n / 8 % 2 * a) (n / 4 % 2 * b) (bit_xor (n / 2 % 2 * c) (n % 2 * d))
    ∙ ap (λ (m : ℕ). bit_xor (n / 8 % 2 * a) (bit_xor (n / 4 % 2 * b) (bit_xor (n / 2 % 2 * c) m))) last
    ∙ ap₂ (λ (x y : ℕ). bit_xor (n / 8 % 2 * a) (bit_xor (n / 4 % 2 * x) y)) eb
    (ap₂ (λ (x y : ℕ). bit_xor (n / 2 % 2 * x) (bit_xor (n / 1 % 2 * y) 0)) cx dx)
    ∙ product_four n a

-- 8 stands for the element 1
pub one : (h : ℕ) → mul (four_bits 8) h ≡ h
one h = sym (product-terms 8 h _ _ _ _ refl refl refl refl) ∙ simp (one-mul, zero-mul, xor_zero_r)
