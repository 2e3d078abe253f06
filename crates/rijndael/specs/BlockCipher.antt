-- AES as the block cipher that the modes of operation take: under an expanded key, and the expanded key of a key of any size.
-- Assumes nothing.
use Rattle.std.specs.Prelude.{List, ℕ, ◌+◌, ◌-◌, ◌/◌, length}
use Rattle.rijndael.specs.Cipher.{cipher}
use Rattle.rijndael.specs.KeyExpansion.{key_expansion}

-- the number of round keys says how many rounds there are
abbrev pub block_cipher : List (List ℕ) → List ℕ → List ℕ
block_cipher keys = cipher (length keys - 1) keys

-- 5, table 3: Nk is the number of words of the key; for 4, 6 and 8 words there are Nr = 10, 12 and 14 rounds
unfoldable pub round_count : ℕ → ℕ
round_count bytes = bytes / 4 + 6

-- the round keys 0 to Nr of a key, by its length: 11 of a key of 16 bytes, 15 of one of 32
unfoldable pub expanded_key : List ℕ → List (List ℕ)
expanded_key key = key_expansion (length key / 4) (round_count (length key)) key
