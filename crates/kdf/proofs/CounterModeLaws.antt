-- Counter mode with HMAC-SHA-256: K(1) out of its pieces, and a key of at most 32 bytes, which is the beginning of K(1).
-- Assumes nothing.
use mathlib.Core.Path.{◌≡◌, sym, ap, ap₂, ◌∙◌}
use mathlib.Core.List.{List, [], ◌∷◌, ◌++◌, append_assoc}
use Prim.Native.Nat.{ℕ, zero, suc, ◌+◌, ◌-◌, ◌*◌, ◌/◌, ◌<◌, ◌≤◌}
use native.Mathlib.Omega.{arith}
use lib.ListN.{length, take}
use lib.Seq.{length-take-le}
use Rattle.octets.specs.Numbers.{to_big_endian, bytes_at}
use Rattle.sha_2.specs.Sha256.{sha256}
use Rattle.hmac.specs.Hmac.{hmac}
use Rattle.hmac.proofs.Lengths.{length-hmac}
use Rattle.kdf.specs.CounterMode.{fixed_input, block, blocks, derive, derive_sha256}

joined : (i label context n : List ℕ) → (((i ++ label) ++ (0 ∷ [])) ++ context) ++ n ≡ i ++ (label ++ ((0 ∷ context) ++ n))
joined i label context n = simp append_assoc

-- K(1), of the counter i, the label, the separator, the context and the length n in bits
pub of-pieces : {i n r : List ℕ} (key label context : List ℕ) (bits : ℕ) → i ≡ to_big_endian 4 1 → n ≡ to_big_endian 4 bits
    → r ≡ hmac sha256 key ((((i ++ label) ++ (0 ∷ [])) ++ context) ++ n) → r ≡ block (hmac sha256) 32 key 1 (fixed_input label context bits)
unfolding fixed_input block
of-pieces {i} {n} key label context bits ei en e =
    e ∙ ap (hmac sha256 key) (joined i label context n ∙ ap₂ (λ (x y : List ℕ). x ++ (label ++ ((0 ∷ context) ++ y))) ei en)

-- a key of 1 to 32 bytes needs one block
one_block : (n : ℕ) → 0 < n → n ≤ 32 → (n + 32 - 1) / 32 ≡ 1
one_block n l h = omega arith

module _ (n : ℕ) (l : 0 < n) (h : n ≤ 32) (key label context : List ℕ) where
  -- such a key is the first n bytes of K(1)
  pub of-first-block : derive_sha256 n key label context ≡ take n (block (hmac sha256) 32 key 1 (fixed_input label context (8 * n)))
  unfolding derive blocks
  of-first-block = rw (one_block n l h)

  -- byte for byte, but for the closing length, which is 00 00 00 80 for 16 bytes and 00 00 01 00 for 32
  pub of-bytes : derive_sha256 n key label context
      ≡ take n (hmac sha256 key (0 ∷ 0 ∷ 0 ∷ 1 ∷ (label ++ (0 ∷ (context ++ to_big_endian 4 (8 * n))))))
  unfolding block fixed_input to_big_endian
  of-bytes = of-first-block

  pub length_derived : length (derive_sha256 n key label context) ≡ n
  length_derived =
      let text : List ℕ = 0 ∷ 0 ∷ 0 ∷ 1 ∷ (label ++ (0 ∷ (context ++ to_big_endian 4 (8 * n)))) in
      let k : length (hmac sha256 key text) ≡ 32 = length-hmac sha256 key text in
      ap length of-bytes ∙ length-take-le n (hmac sha256 key text) (omega arith)

-- the same where no byte is asked for, and no block
pub of-bytes-at : (n : ℕ) → n ≤ 32 → (key label context : List ℕ) {k r : List ℕ}
    → k ≡ block (hmac sha256) 32 key 1 (fixed_input label context (8 * n)) → r ≡ bytes_at 0 n k → r ≡ derive_sha256 n key label context
unfolding derive blocks
of-bytes-at zero h key label context ek er = er
of-bytes-at (suc n) h key label context ek er = er ∙ ap (take (suc n)) ek ∙ sym (of-first-block (suc n) (omega arith) h key label context)
