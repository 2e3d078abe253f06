-- Rotations of words: they compose, and pass through exclusive or, so that three of them are folded into one another.
-- Assumes nothing.
use mathlib.Core.Path.{◌≡◌, sym, ap, ap₂, ◌∙◌, subst}
use Prim.Native.Nat.{ℕ, ◌+◌, ◌-◌, ◌*◌, ◌/◌, ◌%◌, ◌^◌, ◌<◌}
use native.Mathlib.Nat.{mod-lt, mul_assoc, add_assoc, add-zero, add-mul, mul-mod_left}
use native.Mathlib.Omega.{arith}
use lib.Arith.{digits_lt}
use lib.Bits.{bit_xor, bit_or, or_shifted_r, xor_block, xor_mod, xor_shr, xor_lt, xor_comm}
use lib.Pow.{pow-add, pow_pos, shr_lt, high, low, split, mod-pow-add, shr-shr, shl-shr}
use Rattle.octets.proofs.BitXor.{xor_assoc}
use Rattle.sha_2.specs.Sha2.{rotr, big_sigma}

-- a word of n + k bits, rotated by n: the n low bits, then the k high ones
turned : ℕ → ℕ → ℕ → ℕ
turned n k x = x % 2 ^ n * 2 ^ k + x / 2 ^ n

rotr_turned : (n k x : ℕ) → x < 2 ^ (k + n) → rotr (n + k) n x ≡ turned n k x
unfolding turned
rotr_turned n k x h =
    let e : n + k - n ≡ k = omega arith in
    let q : x * 2 ^ k % 2 ^ (n + k) ≡ x % 2 ^ n * 2 ^ k =
    mod-pow-add (x * 2 ^ k) n k
    ∙ ap₂ (λ (y z : ℕ). y % 2 ^ n * 2 ^ k + z) (shl-shr x k) (mul-mod_left x (2 ^ k))
    ∙ add-zero (x % 2 ^ n * 2 ^ k) in
    ap (λ (i : ℕ). bit_or (x / 2 ^ n) (x * 2 ^ i % 2 ^ (n + k))) e
    ∙ ap (λ (i : ℕ). bit_or (x / 2 ^ n) i) q
    ∙ or_shifted_r (x % 2 ^ n) k (x / 2 ^ n) (shr_lt k n h)

turned_xor : (n k x y : ℕ) → x < 2 ^ (k + n) → y < 2 ^ (k + n) → turned n k (bit_xor x y) ≡ bit_xor (turned n k x) (turned n k y)
unfolding turned
turned_xor n k x y hx hy =
    ap₂ (λ (a b : ℕ). a * 2 ^ k + b) (xor_mod x y n) (xor_shr x y n)
    ∙ sym (xor_block k (x % 2 ^ n) (y % 2 ^ n) (x / 2 ^ n) (y / 2 ^ n) (shr_lt k n hx) (shr_lt k n hy))

turned_turned : (a b c x : ℕ) → turned a (b + c) (turned b (c + a) x) ≡ turned (a + b) c x
unfolding turned
turned_turned a b c x =
    let p = x % 2 ^ b in
    let q = x / 2 ^ b in
    let y = p * 2 ^ (c + a) + q in
    let ey : y ≡ (p * 2 ^ c + q / 2 ^ a) * 2 ^ a + q % 2 ^ a =
    ap₂ (λ (i j : ℕ). p * i + j) (pow-add 2 c a) (sym (split q a))
    ∙ ap (λ (i : ℕ). i + (q / 2 ^ a * 2 ^ a + q % 2 ^ a)) (sym (mul_assoc p (2 ^ c) (2 ^ a)))
    ∙ sym (add_assoc (p * 2 ^ c * 2 ^ a) (q / 2 ^ a * 2 ^ a) (q % 2 ^ a))
    ∙ ap (λ (i : ℕ). i + q % 2 ^ a) (sym (add-mul (p * 2 ^ c) (q / 2 ^ a) (2 ^ a))) in
    let lo : q % 2 ^ a < 2 ^ a = mod-lt q (pow_pos a) in
    let e1 : y % 2 ^ a ≡ q % 2 ^ a = ap (λ (i : ℕ). i % 2 ^ a) ey ∙ low (p * 2 ^ c + q / 2 ^ a) a lo in
    let e2 : y / 2 ^ a ≡ p * 2 ^ c + q / 2 ^ a = ap (λ (i : ℕ). i / 2 ^ a) ey ∙ high (p * 2 ^ c + q / 2 ^ a) a lo in
    ap₂ (λ (i j : ℕ). i * 2 ^ (b + c) + j) e1 e2
    ∙ ap (λ (i : ℕ). q % 2 ^ a * i + (p * 2 ^ c + q / 2 ^ a)) (pow-add 2 b c)
    ∙ ap (λ (i : ℕ). i + (p * 2 ^ c + q / 2 ^ a)) (sym (mul_assoc (q % 2 ^ a) (2 ^ b) (2 ^ c)))
    ∙ sym (add_assoc (q % 2 ^ a * 2 ^ b * 2 ^ c) (p * 2 ^ c) (q / 2 ^ a))
    ∙ ap (λ (i : ℕ). i + q / 2 ^ a) (sym (add-mul (q % 2 ^ a * 2 ^ b) p (2 ^ c)))
    ∙ ap₂ (λ (i j : ℕ). i * 2 ^ c + j) (sym (mod-pow-add x a b)) (shr-shr x b a ∙ ap (λ (i : ℕ). x / 2 ^ i) (omega arith))

turned_lt : (n k x : ℕ) → x < 2 ^ (k + n) → turned n k x < 2 ^ (k + n)
unfolding turned
turned_lt n k x h =
    let e : n + k ≡ k + n = omega arith in
    subst (λ (i : ℕ). turned n k x < i) (sym (pow-add 2 n k) ∙ ap (λ (i : ℕ). 2 ^ i) e) (digits_lt (mod-lt x (pow_pos n)) (shr_lt k n h))

-- the same laws of `rotr`, on words of w bits
module _ (w : ℕ) where
  rotr_is : (n k x : ℕ) → w ≡ n + k → x < 2 ^ w → rotr w n x ≡ turned n k x
  rotr_is n k x e h =
      let q : w ≡ k + n = omega arith in
      ap (λ (i : ℕ). rotr i n x) e ∙ rotr_turned n k x (rw q at h)

  rotr_lt : (n k x : ℕ) → w ≡ n + k → x < 2 ^ w → rotr w n x < 2 ^ w
  rotr_lt n k x e h =
      let q : w ≡ k + n = omega arith in
      let b : turned n k x < 2 ^ w = rw q (turned_lt n k x (rw q at h)) in
      subst (λ (i : ℕ). i < 2 ^ w) (sym (rotr_is n k x e h)) b

  rotr-xor : (n k x y : ℕ) → w ≡ n + k → x < 2 ^ w → y < 2 ^ w → rotr w n (bit_xor x y) ≡ bit_xor (rotr w n x) (rotr w n y)
  rotr-xor n k x y e hx hy =
      let q : w ≡ k + n = omega arith in
      rotr_is n k (bit_xor x y) e (xor_lt w x y hx hy)
      ∙ turned_xor n k x y (rw q at hx) (rw q at hy)
      ∙ sym (ap₂ bit_xor (rotr_is n k x e hx) (rotr_is n k y e hy))

  rotr-rotr : (a b c x : ℕ) → w ≡ a + b + c → x < 2 ^ w → rotr w a (rotr w b x) ≡ rotr w (a + b) x
  rotr-rotr a b c x e h =
      let ea : w ≡ a + (b + c) = omega arith in
      let eb : w ≡ b + (c + a) = omega arith in
      rotr_is a (b + c) (rotr w b x) ea (rotr_lt b (c + a) x eb h)
      ∙ ap (turned a (b + c)) (rotr_is b (c + a) x eb h)
      ∙ turned_turned a b c x
      ∙ sym (rotr_is (a + b) c x e h)

  xor_reversed : (x y z : ℕ) → bit_xor (bit_xor x y) z ≡ bit_xor (bit_xor z y) x
  xor_reversed x y z = xor_comm (bit_xor x y) z ∙ ap (λ (i : ℕ). bit_xor z i) (xor_comm x y) ∙ sym (xor_assoc z y x)

  -- Σ by way of the differences of its amounts
  pub folded : (a b c d x : ℕ) → w ≡ a + b + c + d → x < 2 ^ w
      → rotr w a (bit_xor (rotr w b (bit_xor (rotr w c x) x)) x) ≡ big_sigma w (record { first = a; second = a + b; third = a + b + c }) x
  folded a b c d x e h =
      let q1 : w ≡ c + (a + b + d) = omega arith in
      let q2 : w ≡ b + (a + c + d) = omega arith in
      let q3 : w ≡ a + (b + c + d) = omega arith in
      let q4 : w ≡ a + b + (c + d) = omega arith in
      let u = rotr w c x in
      let hu = rotr_lt c (a + b + d) x q1 h in
      let y = bit_xor u x in
      let hy = xor_lt w u x hu h in
      let v = rotr w b y in
      rotr-xor a (b + c + d) v x q3 (rotr_lt b (a + c + d) y q2 hy) h
      ∙ ap (λ (i : ℕ). bit_xor i (rotr w a x))
      (rotr-rotr a b (c + d) y q4 hy
      ∙ rotr-xor (a + b) (c + d) u x q4 hu h
      ∙ ap (λ (i : ℕ). bit_xor i (rotr w (a + b) x)) (rotr-rotr (a + b) c d x e h))
      ∙ xor_reversed (rotr w (a + b + c) x) (rotr w (a + b) x) (rotr w a x)
