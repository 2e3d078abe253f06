-- For internal contracts, apart from the text of FIPS 197: words of four bytes, the first in the low digits, and a state as four of them.
use Rattle.std.specs.Prelude.{◌≡◌, List, [], ◌∷◌, ℕ, ◌+◌, ◌/◌, ◌%◌, get_or}
use Rattle.aes_words.specs.declared.Columns.{Columns}

abbrev pub byte0 : ℕ → ℕ
byte0 w = w % 256

abbrev pub byte1 : ℕ → ℕ
byte1 w = w / 256 % 256

abbrev pub byte2 : ℕ → ℕ
byte2 w = w / 65536 % 256

abbrev pub byte3 : ℕ → ℕ
byte3 w = w / 16777216 % 256

-- w is made of the bytes a b c d
pub record Bytes (w a b c d : ℕ) : Type 0 where
  pub at0 : byte0 w ≡ a
  pub at1 : byte1 w ≡ b
  pub at2 : byte2 w ≡ c
  pub at3 : byte3 w ≡ d

-- w is made of the four bytes of s from number i on
abbrev pub WordAt : ℕ → List ℕ → ℕ → Type 0
WordAt w s i = Bytes w (get_or s i 0) (get_or s (i + 1) 0) (get_or s (i + 2) 0) (get_or s (i + 3) 0)

-- the bytes of w before rest
unfoldable pub bytes_of : ℕ → List ℕ → List ℕ
bytes_of w rest = byte0 w ∷ byte1 w ∷ byte2 w ∷ byte3 w ∷ rest

-- the state that four words stand for
unfoldable pub state_of : Columns → List ℕ
state_of s = bytes_of s.c0 (bytes_of s.c1 (bytes_of s.c2 (bytes_of s.c3 [])))
