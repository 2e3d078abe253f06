-- Sums of 256 bits in four words: adding, four steps to the left, and taking in the 64 bits to the right.
use Rattle.std.proofs.Common.{◌≡◌, ℕ, ◌+◌, ◌*◌, ◌/◌, ◌%◌, ◌^◌, ◌<◌, Bool, eqb, List, replicate, sym, refl, ap, ◌∙◌, ap₂, add-zero, mod-lt, arith}
use Rattle.std.proofs.Common.{eqb→eq, pow_pos}
use lib.Bits.{bit_xor, xor_zero_r, xor_shifted, xor_lt}
use lib.Pow.{high, low as low_part}
use Rattle.octets.proofs.Every.{at}
use Rattle.ghash_field.specs.Field.{times_x}
use Rattle.ghash_field.specs.Elements.{join, times_power}
use Rattle.ghash_field.proofs.FieldLaws.{power_xor, power_shifted}
use Rattle.ghash_field.proofs.Linear.{Linear, equal, sum, after, shr, low, shl}
use Rattle.ghash_field.proofs.WordLaws.{join-xor}

alone : (b : ℕ) → join 0 b ≡ b
alone b = omega arith

-- a number on the low word of another
xor_low : (a b p : ℕ) → b < 2 ^ 64 → p < 2 ^ 64 → join a (bit_xor b p) ≡ bit_xor (join a b) p
xor_low a b p hb hp = ap (λ (n : ℕ). join n (bit_xor b p)) (sym (xor_zero_r a)) ∙ join-xor a b 0 p hb hp ∙ ap (bit_xor (join a b)) (alone p)

-- two elements, one a word to the left of the other
pair : (ph pl qh ql : ℕ) → pl < 2 ^ 64 → qh < 2 ^ 64 → ql < 2 ^ 64 → join (join ph (bit_xor pl qh)) ql ≡ bit_xor (join ph pl * 2 ^ 64) (join qh ql)
pair ph pl qh ql hp hq hl =
    ap (λ (n : ℕ). join n ql) (xor_low ph pl qh hp hq)
    ∙ join-xor (join ph pl) 0 qh ql (omega arith) hl
    ∙ ap (λ (n : ℕ). bit_xor n (join qh ql)) (add-zero (join ph pl * 2 ^ 64))

pub wide-added : (a b c d ph pl qh ql : ℕ) → b < 2 ^ 64 → c < 2 ^ 64 → d < 2 ^ 64 → ph < 2 ^ 64 → pl < 2 ^ 64 → qh < 2 ^ 64 → ql < 2 ^ 64
    → join (join (join a (bit_xor b ph)) (bit_xor c (bit_xor pl qh))) (bit_xor d ql)
    ≡ bit_xor (join (join (join a b) c) d) (bit_xor (join ph pl * 2 ^ 64) (join qh ql))
wide-added a b c d ph pl qh ql hb hc hd hph hpl hqh hql =
    let m : bit_xor pl qh < 2 ^ 64 = xor_lt 64 pl qh hpl hqh in
    ap (λ (n : ℕ). join (join n (bit_xor c (bit_xor pl qh))) (bit_xor d ql)) (xor_low a b ph hb hph)
    ∙ ap (λ (n : ℕ). join n (bit_xor d ql)) (join-xor (join a b) c ph (bit_xor pl qh) hc m)
    ∙ join-xor (join (join a b) c) d (join ph (bit_xor pl qh)) ql hd hql
    ∙ ap (bit_xor (join (join (join a b) c) d)) (pair ph pl qh ql hpl hqh hql)

-- four bits go from a word to the one at its left
carry : (p b e : ℕ) → join (p * 16 + b / 2 ^ 60) (b % 2 ^ 60 * 16 + e) ≡ join p b * 16 + e
carry p b e = omega arith

pub wide_shifted : (a b c d : ℕ)
    → join (join (join (a * 16 + b / 2 ^ 60) (b % 2 ^ 60 * 16 + c / 2 ^ 60)) (c % 2 ^ 60 * 16 + d / 2 ^ 60)) (d % 2 ^ 60 * 16)
    ≡ join (join (join a b) c) d * 16
wide_shifted a b c d =
    ap (λ (n : ℕ). join (join n (c % 2 ^ 60 * 16 + d / 2 ^ 60)) (d % 2 ^ 60 * 16)) (carry a b (c / 2 ^ 60))
    ∙ ap₂ join (carry (join a b) c (d / 2 ^ 60)) (sym (add-zero (d % 2 ^ 60 * 16)))
    ∙ carry (join (join a b) c) d 0
    ∙ add-zero (join (join (join a b) c) d * 16)

pub carry_fits : (b c : ℕ) → c < 2 ^ 64 → b % 2 ^ 60 * 16 + c / 2 ^ 60 < 2 ^ 64
carry_fits b c h = omega arith

pub highest_grows : (a b : ℕ) → b < 2 ^ 64 → a * 16 + b / 2 ^ 60 < (a + 1) * 16
highest_grows a b h = omega arith

-- ---- the 64 bits to the right

abbrev fold_high : ℕ → ℕ
fold_high d = bit_xor (bit_xor (bit_xor d (d / 2 ^ 1)) (d / 2 ^ 2)) (d / 2 ^ 7)

abbrev fold_low : ℕ → ℕ
fold_low d = bit_xor (bit_xor (d * 2 ^ 63 % 2 ^ 64) (d * 2 ^ 62 % 2 ^ 64)) (d * 2 ^ 57 % 2 ^ 64)

fold : ℕ → ℕ
fold d = bit_xor (fold_high d * 2 ^ 64) (fold_low d)

left : (k : ℕ) → Linear (λ d. d * 2 ^ k % 2 ^ 64)
left k = after (λ d. d % 2 ^ 64) (λ d. d * 2 ^ k) (low 64) (shl k)

high_linear : Linear fold_high
high_linear =
    sum (λ d. bit_xor (bit_xor d (d / 2 ^ 1)) (d / 2 ^ 2)) (λ d. d / 2 ^ 7)
    (sum (λ d. bit_xor d (d / 2 ^ 1)) (λ d. d / 2 ^ 2) (sum (λ d. d) (λ d. d / 2 ^ 1) (λ a b. refl) (shr 1)) (shr 2)) (shr 7)

low_linear : Linear fold_low
low_linear =
    sum (λ d. bit_xor (d * 2 ^ 63 % 2 ^ 64) (d * 2 ^ 62 % 2 ^ 64)) (λ d. d * 2 ^ 57 % 2 ^ 64)
    (sum (λ d. d * 2 ^ 63 % 2 ^ 64) (λ d. d * 2 ^ 62 % 2 ^ 64) (left 63) (left 62)) (left 57)

fold_linear : Linear fold
unfolding fold
fold_linear = sum (λ d. fold_high d * 2 ^ 64) fold_low (after (λ d. d * 2 ^ 64) fold_high (shl 64) high_linear) low_linear

right : ℕ → ℕ → Bool
right i x = eqb (fold (2 ^ i)) (times_power 64 (2 ^ i))

powers : List ℕ
powers = replicate 64 0

fold_power : (i : ℕ) → i < 64 → fold (2 ^ i) ≡ times_power 64 (2 ^ i)
unfolding right powers fold times_power times_x
fold_power i h = eqb→eq (fold (2 ^ i)) (times_power 64 (2 ^ i)) (at right powers tt i h)

fold_right : (d : ℕ) → d < 2 ^ 64 → fold d ≡ times_power 64 d
fold_right = equal fold (times_power 64) fold_linear (power_xor 64) 64 fold_power

low_fits : (d : ℕ) → fold_low d < 2 ^ 64
low_fits d =
    xor_lt 64 (bit_xor (d * 2 ^ 63 % 2 ^ 64) (d * 2 ^ 62 % 2 ^ 64)) (d * 2 ^ 57 % 2 ^ 64)
    (xor_lt 64 (d * 2 ^ 63 % 2 ^ 64) (d * 2 ^ 62 % 2 ^ 64) (mod-lt (d * 2 ^ 63) (pow_pos 64)) (mod-lt (d * 2 ^ 62) (pow_pos 64)))
    (mod-lt (d * 2 ^ 57) (pow_pos 64))

high_fits : (d : ℕ) → d < 2 ^ 64 → fold_high d < 2 ^ 64
high_fits d h =
    xor_lt 64 (bit_xor (bit_xor d (d / 2 ^ 1)) (d / 2 ^ 2)) (d / 2 ^ 7)
    (xor_lt 64 (bit_xor d (d / 2 ^ 1)) (d / 2 ^ 2) (xor_lt 64 d (d / 2 ^ 1) h (omega arith)) (omega arith)) (omega arith)

power_fold : (d : ℕ) → d < 2 ^ 64 → join (fold_high d) (fold_low d) ≡ times_power 64 d
unfolding fold
power_fold d h = sym (xor_shifted (fold_high d) 64 (fold_low d) (low_fits d)) ∙ fold_right d h

-- what 64 steps make of a number with the 64 bits d to its right
power_word : (v d : ℕ) → d < 2 ^ 64 → bit_xor v (join (fold_high d) (fold_low d)) ≡ times_power 64 (v * 2 ^ 64 + d)
power_word v d h =
    ap (bit_xor v) (power_fold d h)
    ∙ ap (λ (n : ℕ). bit_xor n (times_power 64 d)) (sym (power_shifted 64 v))
    ∙ sym (ap (times_power 64) (sym (xor_shifted v 64 d h)) ∙ power_xor 64 (v * 2 ^ 64) d)

pub join-folded : (h l d : ℕ) → l < 2 ^ 64 → d < 2 ^ 64
    → join (bit_xor h (fold_high d)) (bit_xor l (fold_low d)) ≡ times_power 64 (join h l * 2 ^ 64 + d)
join-folded h l d hl hd = join-xor h l (fold_high d) (fold_low d) hl (low_fits d) ∙ power_word (join h l) d hd

-- the high word stays where it is while the lower three are folded
pub wide_reduced : (a b c d h l r : ℕ) → b < 2 ^ 64 → c < 2 ^ 64 → d < 2 ^ 64 → l < 2 ^ 64
    → join h l ≡ times_power 64 (join b c * 2 ^ 64 + d)
    → r ≡ times_power 64 (join a h * 2 ^ 64 + l)
    → r ≡ times_power 64 (times_power 64 (join (join (join a b) c) d))
wide_reduced a b c d h l r hb hc hd hl e er =
    let f : fold_high d < 2 ^ 64 = high_fits d hd in
    let m : bit_xor c (fold_low d) < 2 ^ 64 = xor_lt 64 c (fold_low d) hc (low_fits d) in
    let w : join h l ≡ join (bit_xor b (fold_high d)) (bit_xor c (fold_low d)) = e ∙ sym (join-folded b c d hc hd) in
    let eh : h ≡ bit_xor b (fold_high d) = sym (high h 64 hl) ∙ ap (λ (n : ℕ). n / 2 ^ 64) w ∙ high (bit_xor b (fold_high d)) 64 m in
    let el : l ≡ bit_xor c (fold_low d) = sym (low_part h 64 hl) ∙ ap (λ (n : ℕ). n % 2 ^ 64) w ∙ low_part (bit_xor b (fold_high d)) 64 m in
    er
    ∙ ap (times_power 64)
    (ap₂ (λ (x y : ℕ). join (join a x) y) eh el
    ∙ ap (λ (n : ℕ). join n (bit_xor c (fold_low d))) (xor_low a b (fold_high d) hb f)
    ∙ join-xor (join a b) c (fold_high d) (fold_low d) hc (low_fits d)
    ∙ power_word (join (join a b) c) d hd)
