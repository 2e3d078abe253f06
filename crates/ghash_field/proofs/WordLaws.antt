-- The field's operations on two words of 64 bits.
use Rattle.std.proofs.Common.{◌≡◌, ℕ, zero, suc, ◌+◌, ◌-◌, ◌*◌, ◌/◌, ◌%◌, ◌^◌, ◌<◌, sym, ap, ◌∙◌, ap₂, add-zero, mod-eq_of_lt, mul_assoc, one-mul}
use Rattle.std.proofs.Common.{zero-mul, arith}
use lib.Bits.{bit_xor, bit_and, and_comm, and_mask, xor_zero_r, xor_block}
use Rattle.ghash_field.specs.Field.{R, times_x}
use Rattle.ghash_field.specs.Elements.{join}

-- a mask m of 64 equal bits, made by taking the bit from zero
pub masked : (b m x : ℕ) → b < 2 → m < 2 ^ 64 → x < 2 ^ 64 → (m + b) % 2 ^ 64 ≡ 0 → bit_and m x ≡ b * x
masked zero m x hb hm hx e =
    let z : m ≡ 0 = omega arith in
    ap (λ (n : ℕ). bit_and n x) z ∙ sym (zero-mul x)
masked (suc zero) m x hb hm hx e =
    let z : m ≡ 2 ^ 64 - 1 = omega arith in
    ap (λ (n : ℕ). bit_and n x) z ∙ and_comm (2 ^ 64 - 1) x ∙ and_mask x 64 ∙ mod-eq_of_lt hx ∙ sym (one-mul x)
masked (suc (suc b)) m x hb hm hx e = omega arith

pub join-xor : (a b c d : ℕ) → b < 2 ^ 64 → d < 2 ^ 64 → join (bit_xor a c) (bit_xor b d) ≡ bit_xor (join a b) (join c d)
join-xor a b c d hb hd = sym (xor_block 64 a c b d hb hd)

pub low_fits : (h l : ℕ) → l < 2 ^ 64 → h % 2 * 0x8000_0000_0000_0000 + l / 2 < 2 ^ 64
low_fits h l k = omega arith

pub join-bit : (b h l : ℕ) → b < 2 → join (b * h) (b * l) ≡ b * join h l
join-bit zero h l hb = simp zero-mul
join-bit (suc zero) h l hb = simp one-mul
join-bit (suc (suc b)) h l hb = omega arith

join_half : (h l : ℕ) → join h l / 2 ≡ join (h / 2) (h % 2 * 0x8000_0000_0000_0000 + l / 2)
join_half h l = omega arith

join_odd : (h l : ℕ) → join h l % 2 ≡ l % 2
join_odd h l = omega arith

high_R : (b : ℕ) → b * R ≡ join (b * 0xE100_0000_0000_0000) 0
high_R b = sym (add-zero (b * 0xE100_0000_0000_0000 * 2 ^ 64) ∙ mul_assoc b 0xE100_0000_0000_0000 (2 ^ 64))

pub join-times_x : (h l r : ℕ) → l < 2 ^ 64 → r ≡ l % 2 * 0xE100_0000_0000_0000
    → join (bit_xor (h / 2) r) (h % 2 * 0x8000_0000_0000_0000 + l / 2) ≡ times_x (join h l)
unfolding times_x
join-times_x h l r k e =
    let m : ℕ = h % 2 * 0x8000_0000_0000_0000 + l / 2 in
    let hm : m < 2 ^ 64 = low_fits h l k in
    sym (ap₂ bit_xor (join_half h l) (ap (λ (n : ℕ). n * R) (join_odd h l) ∙ high_R (l % 2) ∙ ap (λ (n : ℕ). join n 0) (sym e))
    ∙ xor_block 64 (h / 2) r m 0 hm (omega arith)
    ∙ ap (join (bit_xor (h / 2) r)) (xor_zero_r m))
