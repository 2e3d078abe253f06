-- For internal contracts, apart from the text of FIPS 197: the tables of the code.
use Rattle.std.specs.Prelude.{◌≡◌, List, ℕ, ◌<◌, get_or}
use Rattle.rijndael.specs.Field.{sbox, mul}
use Rattle.aes_words.specs.Words.{Bytes}

-- l is the S-box
pub record SubBytesTable (l : List ℕ) : Type 0 where
  pub entry : (k : ℕ) → k < 256 → get_or l k 0 ≡ sbox k

-- l has the words that SUBBYTES and MIXCOLUMNS make of each byte k of row 0, the other bytes of its column being left out
pub record SubMixTable (l : List ℕ) : Type 0 where
  pub entry : (k : ℕ) → k < 256 → Bytes (get_or l k 0) (mul 2 (sbox k)) (sbox k) (sbox k) (mul 3 (sbox k))
