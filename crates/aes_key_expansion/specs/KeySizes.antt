-- For contracts, apart from the text of FIPS 197: the keys that the code takes, and the array that holds the round keys of each.
use Rattle.std.specs.Prelude.{Bool, ◌||◌, List, ◌++◌, ℕ, ◌-◌, eqb, length, replicate}

-- keys have 128 or 256 bits: so many bytes (5, table 3, which has 192 bits too)
unfoldable pub is_key_length : ℕ → Bool
is_key_length n = eqb n 16 || eqb n 32

-- round keys, filled up with zeros to fifteen, as many as the longest key has
unfoldable pub fifteen : List (List ℕ) → List (List ℕ)
fifteen keys = keys ++ replicate (15 - length keys) (replicate 16 0)
