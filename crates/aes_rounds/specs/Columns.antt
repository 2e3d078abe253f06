-- For internal contracts, apart from the text of FIPS 197: the columns that a round makes.
use Rattle.std.specs.Prelude.{ℕ}
use Rattle.rijndael.specs.Field.{sbox}
use Rattle.rijndael.specs.Cipher.{mixed}
use Rattle.aes_words.specs.Words.{Bytes}

-- w is the column that SUBBYTES and MIXCOLUMNS make of the bytes a b c d
abbrev pub Mixed : ℕ → ℕ → ℕ → ℕ → ℕ → Type 0
Mixed w a b c d =
    Bytes w (mixed 0 (sbox a) (sbox b) (sbox c) (sbox d)) (mixed 1 (sbox a) (sbox b) (sbox c) (sbox d))
    (mixed 2 (sbox a) (sbox b) (sbox c) (sbox d)) (mixed 3 (sbox a) (sbox b) (sbox c) (sbox d))
