-- The length in bits of a message of n bytes, n below 2^64: sixteen bytes, stored as two words of eight.
-- Assumes nothing.
use Rattle.std.proofs.Common.{◌≡◌, ℕ, ◌*◌, ◌/◌, ◌%◌, ◌^◌, List, ◌++◌, length, take, replicate, sym, ap, ◌∙◌, ap₂, le_refl, mul_comm, arith}
use lib.Seq.{paste, length-paste}
use Rattle.octets.specs.Numbers.{to_big_endian}
use Rattle.octets.proofs.NumberLaws.{length-to_big_endian, big_split, big_low}
use Rattle.octets.proofs.Paste.{paste_all}
use Rattle.sha_2.proofs.Streaming.{filled}

pub two_words : {field₁ field₂ high low : List ℕ} (n : ℕ) → high ≡ to_big_endian 8 (n / 2 ^ 61) → low ≡ to_big_endian 8 (n * 2 ^ 3 % 2 ^ 64)
    → field₁ ≡ paste (replicate 16 0) 0 high (length high) → field₂ ≡ paste field₁ 8 low (length low) → field₂ ≡ to_big_endian 16 (8 * n)
two_words {field₁} {field₂} {high} {low} n eh el e₁ e₂ =
    let lh : length high ≡ 8 = ap length eh ∙ length-to_big_endian 8 (n / 2 ^ 61) in
    let ll : length low ≡ 8 = ap length el ∙ length-to_big_endian 8 (n * 2 ^ 3 % 2 ^ 64) in
    let l₁ : length field₁ ≡ 16 = ap length e₁ ∙ length-paste (replicate 16 0) 0 high (length high) (omega arith) (le_refl (length high)) in
    let f₁ : take 8 field₁ ≡ high = ap (λ (l : List ℕ). take 8 l) e₁ ∙ filled (replicate 16 0) high 0 8 (omega arith) (omega arith) in
    e₂
    ∙ paste_all field₁ 8 low (omega arith)
    ∙ ap₂ (λ (x y : List ℕ). x ++ y) (f₁ ∙ eh) el
    ∙ sym
    (big_split 8 8 (8 * n)
    ∙ ap₂ (λ (y : ℕ) (l : List ℕ). to_big_endian 8 y ++ l) (omega arith)
    (sym (big_low 8 (8 * n)) ∙ ap (λ (y : ℕ). to_big_endian 8 (y % 2 ^ 64)) (mul_comm 8 n)))
