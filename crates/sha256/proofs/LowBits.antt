-- The padding depends on the low 64 bits of the length alone.
-- Assumes nothing.
use Rattle.std.proofs.Common.{◌≡◌, ℕ, ◌*◌, ◌%◌, ◌^◌, List, ◌∷◌, ◌++◌, replicate, sym, ap, ◌∙◌, ap₂, arith}
use Rattle.octets.specs.Numbers.{to_big_endian}
use Rattle.octets.proofs.NumberLaws.{big_low}
use Rattle.sha_2.specs.Sha2.{zeros, padding}
use Rattle.sha_2.specs.Sha256.{sha256}

same_zeros : (n : ℕ) → zeros sha256 (n % 2 ^ 64) ≡ zeros sha256 n
unfolding zeros
same_zeros n = omega arith

same_field : (n : ℕ) → 8 * (n % 2 ^ 64) % 2 ^ 64 ≡ 8 * n % 2 ^ 64
same_field n = omega arith

pub same_padding : {count : ℕ} (n : ℕ) → count ≡ n % 2 ^ 64 → padding sha256 count ≡ padding sha256 n
unfolding padding
same_padding {count} n e =
    ap (padding sha256) e
    ∙ ap₂ (λ (k : ℕ) (l : List ℕ). (128 ∷ replicate k 0) ++ l) (same_zeros n)
    (sym (big_low 8 (8 * (n % 2 ^ 64))) ∙ ap (to_big_endian 8) (same_field n) ∙ big_low 8 (8 * n))
