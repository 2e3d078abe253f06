-- SP 800-38C, appendix A: the formatting of the input data and the counter blocks, where the payload's length takes q octets
-- (so that a nonce has 15 - q octets) and the tag t octets.
use Rattle.std.specs.Prelude.{cond, List, [], ◌∷◌, ◌++◌, ℕ, ◌+◌, ◌-◌, ◌*◌, ◌/◌, ltb, length}
use Rattle.octets.specs.Blocks.{padded}
use Rattle.octets.specs.Numbers.{to_big_endian}

-- A.2.1: the flags octet of the first block, with a octets of associated data
unfoldable pub flags : ℕ → ℕ → ℕ → ℕ
flags q t a = cond (ltb 0 a) 64 0 + 8 * ((t - 2) / 2) + (q - 1)

-- A.2.1: the first block, for p octets of payload
unfoldable pub first_block : ℕ → ℕ → List ℕ → ℕ → ℕ → List ℕ
first_block q t nonce a p = flags q t a ∷ nonce ++ to_big_endian q p

-- A.2.2: the associated data behind their length, for less than 2^16 - 2^8 octets; nothing where there are none
unfoldable pub associated : List ℕ → List ℕ
associated [] = []
associated (x ∷ xs) = to_big_endian 2 (length (x ∷ xs)) ++ x ∷ xs

-- A.2: B₀, and the blocks of the associated data (A.2.2) and of the payload (A.2.3), each filled with zeros
unfoldable pub formatted : ℕ → ℕ → List ℕ → List ℕ → List ℕ → List ℕ
formatted q t nonce aad text = first_block q t nonce (length aad) (length text) ++ padded (associated aad) ++ padded text

-- A.3: counter block i
abbrev pub counter_block : ℕ → List ℕ → ℕ → List ℕ
counter_block q nonce i = (q - 1) ∷ nonce ++ to_big_endian q i
