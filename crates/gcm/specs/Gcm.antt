-- SP 800-38D: GCM with nonces (IVs) of 12 bytes and tags of 16 bytes, over any block cipher E with blocks of 16 bytes.
use Rattle.std.specs.Prelude.{cond, List, ◌++◌, ℕ, ◌*◌, length, replicate}
use Rattle.std.proofs.Math.Option.{Option, none, some}
use Rattle.octets.specs.Numbers.{big_endian, to_big_endian}
use Rattle.octets.specs.Blocks.{padded}
use Rattle.octets.specs.Xor.{xor}
use Rattle.octets.specs.Same.{same_bytes}
use Rattle.ctr.specs.Ctr.{ctr, counter_blocks}
use Rattle.ghash.specs.Ghash.{ghash}

-- 7.1, step 1: H, as an element of the field
abbrev pub hash_subkey : (List ℕ → List ℕ) → ℕ
hash_subkey E = big_endian (E (replicate 16 0))

-- 7.1, step 2: J₀, the pre-counter block, is the nonce and the number 1 in 32 bits
abbrev pub pre_counter_block : List ℕ → List ℕ
pre_counter_block nonce = nonce ++ to_big_endian 4 1

-- 7.1, step 3: GCTR from inc₃₂ (J₀), so with the numbers 2, 3, .. behind the nonce
unfoldable pub encrypt : (List ℕ → List ℕ) → List ℕ → List ℕ → List ℕ
encrypt E nonce text = ctr E (counter_blocks nonce 2) text

-- 7.1, steps 4 and 5: what is hashed. A and C are filled with zeros to whole blocks; their lengths in bits follow, 64 bits each
unfoldable pub hash_input : List ℕ → List ℕ → List ℕ
hash_input aad body = padded aad ++ padded body ++ to_big_endian 8 (8 * length aad) ++ to_big_endian 8 (8 * length body)

-- 7.1, steps 5 and 6: the tag of the ciphertext `body`: S xored with E (J₀)
unfoldable pub tag : (List ℕ → List ℕ) → List ℕ → List ℕ → List ℕ → List ℕ
tag E nonce aad body = xor (to_big_endian 16 (ghash (hash_subkey E) (hash_input aad body))) (E (pre_counter_block nonce))

-- 7.2: the plaintext of `body`, if the tag received is its tag
unfoldable pub decrypt : (List ℕ → List ℕ) → List ℕ → List ℕ → List ℕ → List ℕ → Option (List ℕ)
decrypt E nonce aad received body = cond (same_bytes received (tag E nonce aad body)) (some (encrypt E nonce body)) none
