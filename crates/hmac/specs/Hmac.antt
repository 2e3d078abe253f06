-- HMAC (FIPS 198-1) over any hash function of FIPS 180-4.
-- Assumes nothing.
use Rattle.std.specs.Prelude.{cond, List, ◌++◌, ℕ, leb, length, replicate}
use Rattle.octets.specs.Blocks.{zero_padded}
use Rattle.octets.specs.Xor.{xor}
use Rattle.sha_2.specs.Sha2.{Sha2, block_size, hash}

module _ (p : Sha2) where
  -- §2.3: the bytes x'36' and x'5c', repeated for a block
  abbrev pub ipad : List ℕ
  ipad = replicate (block_size p) 0x36

  abbrev pub opad : List ℕ
  opad = replicate (block_size p) 0x5c

  -- §4, table 1, steps 1 to 3: the key, hashed where it is longer than a block, with zeros up to a block
  unfoldable pub key_block : List ℕ → List ℕ
  key_block key = zero_padded (block_size p) (cond (leb (length key) (block_size p)) key (hash p key))

  -- §4, table 1, steps 4 to 9
  unfoldable pub hmac : List ℕ → List ℕ → List ℕ
  hmac key text = hash p (xor (key_block key) opad ++ hash p (xor (key_block key) ipad ++ text))
