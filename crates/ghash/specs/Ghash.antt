-- SP 800-38D, 6.4: GHASH. H and the result are elements of the field.
use Rattle.std.specs.Prelude.{List, ℕ, length}
use Rattle.std.specs.Int.Bits.{bit_xor}
use Rattle.octets.specs.Blocks.{block_count, over_blocks}
use Rattle.octets.specs.Numbers.{big_endian}
use Rattle.ghash_field.specs.Field.{mul}

-- 6.4, step 3: Yᵢ is (Yᵢ₋₁ ⊕ Xᵢ) • H
abbrev pub step : ℕ → ℕ → List ℕ → ℕ
step h y x = mul (bit_xor y (big_endian x)) h

-- 6.4 from any y, over the blocks of xs, of which the last is filled with zeros
unfoldable pub ghash_from : ℕ → ℕ → List ℕ → ℕ
ghash_from h y xs = over_blocks (step h) y xs (block_count (length xs))

-- 6.4: Y₀ is zero
abbrev pub ghash : ℕ → List ℕ → ℕ
ghash h xs = ghash_from h 0 xs
