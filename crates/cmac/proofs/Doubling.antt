-- Doubling: a block as the library's number of 128 bits, and the last byte xored.
use mathlib.Core.Path.{◌≡◌, refl, sym, ap, ap₂, ◌∙◌, subst}
use mathlib.Core.Bool.{Bool, true, false, cond}
use mathlib.Core.List.{List, ◌∷◌}
use Prim.Native.Nat.{ℕ, zero, suc, ◌+◌, ◌*◌, ◌/◌, ◌%◌, ◌^◌, ◌<◌}
use native.Mathlib.Omega.{arith}
use borrow.Author.Tests.{ltb-true, ltb-false}
use lib.Bits.{bit_xor, xor_zero_r}
use lib.Dec.{ltb}
use lib.ListN.{length, get_or, set}
use Rattle.octets.specs.Numbers.{big_endian, to_big_endian, bytes_at}
use Rattle.octets.specs.Xor.{xor_with, xor}
use Rattle.octets.proofs.NumberLaws.{big4_is, big8_is, big_split, big_low, length-to_big_endian}
use Rattle.std.specs.Int.{w128, byte_at, bytes_high_first, from_be_bytes, to_be_bytes}
use Rattle.std.proofs.Common.{div-one, pow-suc}
use Rattle.std.proofs.lemmas.Nat.{pow-add}
use Rattle.octets.proofs.BlockLaws.{zero_padded_exact}
use Rattle.octets.proofs.Elements.{whole}
use Rattle.octets.proofs.Pairs.{words-at}
use Rattle.cmac.specs.Cmac.{r128, doubled}

-- a block of two words
pub block_words : (x : List ℕ) → length x ≡ 16 → big_endian (bytes_at 0 8 x) * 2 ^ 64 + big_endian (bytes_at 8 8 x) ≡ big_endian x
block_words x l = words-at x 0 (omega arith) ∙ ap big_endian (zero_padded_exact 16 x l)

-- the number that the library reads in a block
sixteen : (x : List ℕ) → length x ≡ 16 → from_be_bytes w128 x ≡ big_endian x
sixteen x l =
    omega (
      arith,
      block_words x l,
      big8_is x 0 (omega arith),
      big8_is x 8 (omega arith),
      big4_is x 0 (omega arith),
      big4_is x 4 (omega arith),
      big4_is x 8 (omega arith),
      big4_is x 12 (omega arith),
    )

-- the bytes that the library makes of a number
power : (k : ℕ) → 256 ^ k ≡ 2 ^ (k * 8)
power zero = refl
power (suc k) =
    let e : k * 8 + 8 ≡ suc k * 8 = omega arith in
    pow-suc 256 k ∙ ap (λ (p : ℕ). p * 256) (power k) ∙ sym (pow-add 2 (k * 8) 8) ∙ ap (λ (i : ℕ). 2 ^ i) e

byte : (k x : ℕ) → byte_at k x ≡ x / 2 ^ (k * 8) % 256
byte zero x = ap (λ (y : ℕ). y % 256) (sym (div-one x))
byte (suc k) x = ap (λ (p : ℕ). x / p % 256) (power (suc k))

high_first : (k x : ℕ) → bytes_high_first k x ≡ to_big_endian k x
unfolding to_big_endian
high_first zero x = refl
high_first (suc k) x =
    let e : 1 + k ≡ suc k = omega arith in
    ap₂ (λ (y : ℕ) (ys : List ℕ). y ∷ ys) (byte k x) (high_first k x) ∙ sym (big_split 1 k x) ∙ ap (λ (i : ℕ). to_big_endian i x) e

-- the bit that leaves the block is dropped
pub shifted_is : (x : List ℕ) {n : ℕ} {r : List ℕ} → length x ≡ 16 → n ≡ from_be_bytes w128 x → r ≡ to_be_bytes w128 (n * 2 % 2 ^ 128)
    → r ≡ to_big_endian 16 (2 * big_endian x)
shifted_is x {n} {r} l en er =
    let e : n * 2 ≡ 2 * big_endian x = omega (arith, sixteen x l) in
    er ∙ high_first 16 (n * 2 % 2 ^ 128) ∙ big_low 16 (n * 2) ∙ ap (to_big_endian 16) e

-- R_128, xored to the last byte as often as the first bit says
top_bit : (b : ℕ) → b < 256 → b / 128 < 2
top_bit b h = omega arith

xored_last : (s : List ℕ) → length s ≡ 16 → set s 15 (bit_xor (get_or s 15 0) 0x87) ≡ xor s r128
unfolding xor_with to_big_endian
xored_last s l = subst (λ (s : List ℕ). set s 15 (bit_xor (get_or s 15 0) 0x87) ≡ xor s r128) (whole 16 s l) (simp xor_zero_r)

xored_none : (s : List ℕ) → length s ≡ 16 → set s 15 (bit_xor (get_or s 15 0) 0) ≡ s
xored_none s l = subst (λ (s : List ℕ). set s 15 (bit_xor (get_or s 15 0) 0) ≡ s) (whole 16 s l) (simp xor_zero_r)

pub doubled_is : (x s r : List ℕ) → s ≡ to_big_endian 16 (2 * big_endian x) → get_or x 0 0 < 256
    → r ≡ set s 15 (bit_xor (get_or s 15 0) (get_or x 0 0 / 128 * 0x87)) → r ≡ doubled x
unfolding doubled
doubled_is x s r es h er = go (ltb (get_or x 0 0) 128) refl
  where
    l : length s ≡ 16
    l = ap length es ∙ length-to_big_endian 16 _

    go : (b : Bool) → ltb (get_or x 0 0) 128 ≡ b → r ≡ cond b (to_big_endian 16 (2 * big_endian x)) (xor (to_big_endian 16 (2 * big_endian x)) r128)
    go true e =
        let z : get_or x 0 0 / 128 * 0x87 ≡ 0 = omega (arith, ltb-true (get_or x 0 0) 128 e) in
        er ∙ ap (λ (n : ℕ). set s 15 (bit_xor (get_or s 15 0) n)) z ∙ xored_none s l ∙ es
    go false e =
        let z : get_or x 0 0 / 128 * 0x87 ≡ 0x87 = omega (arith, ltb-false (get_or x 0 0) 128 e, h) in
        er ∙ ap (λ (n : ℕ). set s 15 (bit_xor (get_or s 15 0) n)) z ∙ xored_last s l ∙ ap (λ (y : List ℕ). xor y r128) es
