-- Key derivation in counter mode (NIST SP 800-108, revision 1, §4.1) from any pseudorandom function. Counter and length
-- take 32 bits each, the counter stands before the fixed input.
-- Assumes nothing.
use Rattle.std.specs.Prelude.{List, [], ◌∷◌, ◌++◌, ℕ, zero, suc, ◌+◌, ◌-◌, ◌*◌, ◌/◌, take}
use Rattle.octets.specs.Numbers.{to_big_endian}
use Rattle.sha_2.specs.Sha256.{sha256}
use Rattle.hmac.specs.Hmac.{hmac}

-- Label || 0x00 || Context || [L]2, where L is the length in bits of the key that is derived
unfoldable pub fixed_input : List ℕ → List ℕ → ℕ → List ℕ
fixed_input label context bits = label ++ ((0 ∷ context) ++ to_big_endian 4 bits)

-- over the pseudorandom function prf, whose results have h bytes
module _ (prf : List ℕ → List ℕ → List ℕ) (h : ℕ) where
  -- K(i) = PRF(K_IN, [i]2 || fixed input)
  unfoldable pub block : List ℕ → ℕ → List ℕ → List ℕ
  block key i fixed = prf key (to_big_endian 4 i ++ fixed)

  -- K(1) || .. || K(n)
  unfoldable pub blocks : ℕ → List ℕ → List ℕ → List ℕ
  blocks zero key fixed = []
  blocks (suc n) key fixed = blocks n key fixed ++ block key (suc n) fixed

  -- K_OUT: as many leftmost bytes as are asked for, out of the least number of blocks that have them
  unfoldable pub derive : ℕ → List ℕ → List ℕ → List ℕ → List ℕ
  derive bytes key label context = take bytes (blocks ((bytes + h - 1) / h) key (fixed_input label context (8 * bytes)))

-- with HMAC-SHA-256
abbrev pub derive_sha256 : ℕ → List ℕ → List ℕ → List ℕ → List ℕ
derive_sha256 bytes key label context = derive (hmac sha256) 32 bytes key label context
