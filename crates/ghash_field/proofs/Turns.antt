-- A turn of the multiplication takes four bits of each word in, and sixteen turns are the product.
use Rattle.std.proofs.Common.{◌≡◌, ℕ, ◌+◌, ◌-◌, ◌*◌, ◌/◌, ◌%◌, ◌^◌, ◌<◌, ◌≤◌, sym, ap, ◌∙◌, ap₂, mul_assoc, div-one, arith, pow_mono, pow-add, shr-shr}
use lib.Bits.{bit_xor}
use lib.Pow.{field, shl-shr}
use Rattle.octets.proofs.BitXor.{xor_swap}
use Rattle.ghash_field.specs.Field.{product, mul}
use Rattle.ghash_field.specs.Elements.{times_power, four_bits}
use Rattle.ghash_field.proofs.FieldLaws.{power_xor, power_add, power_turned, power_shifted, product-more, product-words}

-- ---- the next four bits of a word

-- the 4 k highest bits of x
abbrev pub first : ℕ → ℕ → ℕ
first k x = x / 2 ^ (64 - 4 * k)

-- what is left of x behind them
abbrev pub rest : ℕ → ℕ → ℕ
rest k x = x * 2 ^ (4 * k) % 2 ^ 64

-- the four bits at the top of what is left are the last of 4 k + 4
pub next : (k x : ℕ) → k < 16 → rest k x / 2 ^ 60 ≡ first (k + 1) x % 16
next k x h =
    let e : 4 * k + (64 - 4 * (k + 1)) ≡ 60 = omega arith in
    field (x * 2 ^ (4 * k)) 4 60
    ∙ ap (λ (n : ℕ). x * 2 ^ (4 * k) / 2 ^ n % 16) (sym e)
    ∙ ap (λ (n : ℕ). n % 16) (sym (shr-shr (x * 2 ^ (4 * k)) (4 * k) (64 - 4 * (k + 1))))
    ∙ ap (λ (n : ℕ). n / 2 ^ (64 - 4 * (k + 1)) % 16) (shl-shr x (4 * k))

before : (k x : ℕ) → k < 16 → first (k + 1) x / 16 ≡ first k x
before k x h =
    let e : 64 - 4 * (k + 1) + 4 ≡ 64 - 4 * k = omega arith in
    shr-shr x (64 - 4 * (k + 1)) 4 ∙ ap (λ (n : ℕ). x / 2 ^ n) e

four_left : (n : ℕ) → n % 2 ^ 64 * 2 ^ 4 % 2 ^ 64 ≡ n * 2 ^ 4 % 2 ^ 64
four_left n = omega arith

pub rest_turn : (k x p : ℕ) → p ≡ rest k x → p * 2 ^ 4 % 2 ^ 64 ≡ rest (k + 1) x
rest_turn k x p e =
    let d : 4 * k + 4 ≡ 4 * (k + 1) = omega arith in
    ap (λ (n : ℕ). n * 2 ^ 4 % 2 ^ 64) e
    ∙ four_left (x * 2 ^ (4 * k))
    ∙ ap (λ (n : ℕ). n % 2 ^ 64) (mul_assoc x (2 ^ (4 * k)) (2 ^ 4) ∙ ap (◌*◌ x) (sym (pow-add 2 (4 * k) 4) ∙ ap (◌^◌ 2) d))

pub rest_all : (x : ℕ) → x < 2 ^ 64 → x ≡ rest 0 x
rest_all x h = omega arith

-- ---- the sum

-- w is the sum for the 4 k highest bits of hi and lo: 64 + 4 k steps make it their product with v
abbrev pub Summed : ℕ → ℕ → ℕ → ℕ → ℕ → Type 0
Summed k hi lo v w =
    times_power 64 (times_power (4 * k) w) ≡ bit_xor (product (4 * k) (first k hi) v) (times_power 64 (product (4 * k) (first k lo) v))

module _ (k : ℕ) where
  later : (w p q : ℕ)
      → times_power 64 (times_power (4 * (k + 1)) (bit_xor w (bit_xor (p * 2 ^ 64) q) * 16))
      ≡ bit_xor (times_power 64 (times_power (4 * k) w)) (bit_xor (times_power (4 * k) p) (times_power 64 (times_power (4 * k) q)))
  later w p q =
      let e : 4 * (k + 1) ≡ 4 + 4 * k = omega arith in
      let s : ℕ = bit_xor w (bit_xor (p * 2 ^ 64) q) in
      let both : (n : ℕ) → ℕ = λ n. times_power 64 (times_power (4 * k) n) in
      ap (times_power 64)
      (ap (λ (n : ℕ). times_power n (s * 16)) e ∙ power_add 4 (4 * k) (s * 16) ∙ ap (times_power (4 * k)) (power_shifted 4 s))
      ∙ two w (bit_xor (p * 2 ^ 64) q)
      ∙ ap (bit_xor (both w))
      (two (p * 2 ^ 64) q ∙ ap (λ (n : ℕ). bit_xor n (both q)) (power_turned 64 (4 * k) (p * 2 ^ 64) ∙ ap (times_power (4 * k)) (power_shifted 64 p)))
    where
      two : (a b : ℕ)
          → times_power 64 (times_power (4 * k) (bit_xor a b)) ≡ bit_xor (times_power 64 (times_power (4 * k) a)) (times_power 64 (times_power (4 * k) b))
      two a b = ap (times_power 64) (power_xor (4 * k) a b) ∙ power_xor 64 (times_power (4 * k) a) (times_power (4 * k) b)

pub summed_turn : (k hi lo v w p q s r : ℕ) → k < 16
    → p ≡ mul (four_bits (rest k hi / 2 ^ 60)) v
    → q ≡ mul (four_bits (rest k lo / 2 ^ 60)) v
    → s ≡ bit_xor w (bit_xor (p * 2 ^ 64) q)
    → r ≡ s * 16
    → Summed k hi lo v w
    → Summed (k + 1) hi lo v r
summed_turn k hi lo v w p q s r h ep eq es er before_it =
    ap (λ (n : ℕ). times_power 64 (times_power (4 * (k + 1)) n)) (er ∙ ap (λ (n : ℕ). n * 16) es)
    ∙ later k w p q
    ∙ ap (λ (n : ℕ). bit_xor n (bit_xor (times_power (4 * k) p) (times_power 64 (times_power (4 * k) q)))) before_it
    ∙ xor_swap (part hi) (times_power 64 (part lo)) (times_power (4 * k) p) (times_power 64 (times_power (4 * k) q))
    ∙ ap₂ bit_xor (more hi p ep) (sym (power_xor 64 (part lo) (times_power (4 * k) q)) ∙ ap (times_power 64) (more lo q eq))
  where
    part : ℕ → ℕ
    part x = product (4 * k) (first k x) v

    more : (x p : ℕ) → p ≡ mul (four_bits (rest k x / 2 ^ 60)) v → bit_xor (part x) (times_power (4 * k) p) ≡ product (4 * (k + 1)) (first (k + 1) x) v
    more x p e =
        ap₂ (λ (n m : ℕ). bit_xor (product (4 * k) n v) (times_power (4 * k) m))
        (sym (before k x h)) (e ∙ ap (λ (n : ℕ). mul (four_bits n) v) (next k x h))
        ∙ sym (product-more k (first (k + 1) x) v)

pub summed_none : (hi lo v w : ℕ) → w ≡ 0 → Summed 0 hi lo v w
unfolding product times_power
summed_none hi lo v w e = ap (times_power 64) e

pub summed_all : (hi lo v w r : ℕ) → lo < 2 ^ 64 → Summed 16 hi lo v w → r ≡ times_power 64 (times_power 64 w) → r ≡ mul (hi * 2 ^ 64 + lo) v
summed_all hi lo v w r h s e =
    e ∙ s
    ∙ ap₂ (λ (n m : ℕ). bit_xor (product 64 n v) (times_power 64 (product 64 m v))) (div-one hi) (div-one lo)
    ∙ product-words hi lo v h

-- ---- bounds

pub next_fits : (p : ℕ) → p < 2 ^ 64 → p / 2 ^ 60 < 16
next_fits p h = omega arith

pub room-none : (a : ℕ) → a ≡ 0 → a < 2 ^ (4 * 0)
room-none a e = omega arith

-- b is the highest word a as adding left it, and r what shifting makes of it
pub room : (k a b : ℕ) → k < 16 → b ≡ a → a < 2 ^ (4 * k) → b < 2 ^ 60
room k a b h e l =
    let m : 2 ^ (4 * k) ≤ 2 ^ 60 = pow_mono {i = 4 * k} {j = 60} (omega arith) in
    omega arith

pub room_turn : (k a b r : ℕ) → b ≡ a → a < 2 ^ (4 * k) → r < (b + 1) * 16 → r < 2 ^ (4 * (k + 1))
room_turn k a b r e l h =
    let d : 4 * k + 4 ≡ 4 * (k + 1) = omega arith in
    let m : 2 ^ (4 * (k + 1)) ≡ 2 ^ (4 * k) * 16 = ap (◌^◌ 2) (sym d) ∙ pow-add 2 (4 * k) 4 in
    omega arith
