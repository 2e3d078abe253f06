-- Lines of words: byte strings in hexadecimal with one space between two.
-- Assumes nothing.
use Rattle.std.specs.Prelude.{◌≡◌, ℕ, ◌+◌, ◌-◌, ◌*◌, min, Bool, cond, ◌&&◌, List, [], ◌∷◌, ◌++◌, length, take, drop, ◌==◌, nat_le, nat_lt}
use Rattle.octets.specs.Same.{same_bytes}

-- the value of a hexadecimal digit in lower case; 16 for any other byte
unfoldable pub digit : ℕ → ℕ
digit b = cond (nat_le 48 b && nat_le b 57) (b - 48) (cond (nat_le 97 b && nat_le b 102) (b - 87) 16)

-- the byte that two digits write; 256 where they are not digits
unfoldable pub pair : ℕ → ℕ → ℕ
pair x y = cond (nat_lt (digit x) 16 && nat_lt (digit y) 16) (digit x * 16 + digit y) 256

-- the byte that a word begins with; 256 where it has none
unfoldable pub first_byte : List ℕ → ℕ
first_byte [] = 256
first_byte (x ∷ []) = 256
first_byte (x ∷ y ∷ rest) = pair x y

-- the bytes that a word writes, up to the first two characters that are not digits
unfoldable pub bytes_of : List ℕ → List ℕ
bytes_of [] = []
bytes_of (x ∷ []) = []
bytes_of (x ∷ y ∷ rest) = cond (nat_lt (pair x y) 256) (pair x y ∷ bytes_of rest) []

-- how far it is to the place behind the first byte b, or to the end
unfoldable pub behind : ℕ → List ℕ → ℕ
behind b [] = 0
behind b (x ∷ rest) = cond (x == b) 1 (1 + behind b rest)

-- where the word after the one at `at` begins
abbrev pub next_word : List ℕ → ℕ → ℕ
next_word line at = at + behind 32 (drop at line)

-- the word's bytes, as many as the place `out` has room for, and behind them what it held; how many these are, and the next word
pub record Reads (line : List ℕ) (at : ℕ) (out out' : List ℕ) (len next : ℕ) : Type 0 where
  pub bytes : out' ≡ take (length out) (bytes_of (drop at line)) ++ drop (length (bytes_of (drop at line))) out
  pub count : len ≡ min (length out) (length (bytes_of (drop at line)))
  pub place : next ≡ next_word line at

-- whether the line has the name at its beginning, and more behind it
abbrev pub begins : List ℕ → List ℕ → Bool
begins line name = nat_lt (length name) (length line) && same_bytes (take (length name) line) name
