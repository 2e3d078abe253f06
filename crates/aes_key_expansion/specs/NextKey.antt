-- For internal contracts, apart from the text of FIPS 197: four words of the expansion at once, and the key's own round keys.
use Rattle.std.specs.Prelude.{◌≡◌, ◌⊎◌, ℕ, List, ◌++◌}
use Rattle.rijndael.specs.KeyExpansion.{word_of, xor_word}

-- the first of four words, where the word nk places before it is the first of k, and v is what it takes in of the word before it
unfoldable pub next_word : List ℕ → List ℕ → List ℕ
next_word k v = xor_word (word_of k 0) v

-- all four: each of the others takes in the word before it as it is
unfoldable pub next_key : List ℕ → List ℕ → List ℕ
next_key k v =
    next_word k v ++ xor_word (word_of k 4) (next_word k v) ++ xor_word (word_of k 8) (xor_word (word_of k 4) (next_word k v))
    ++ xor_word (word_of k 12) (xor_word (word_of k 8) (xor_word (word_of k 4) (next_word k v)))

-- a key of 16 bytes is one round key, and a key of 32 two: so many make nk words
abbrev pub IsOwn : ℕ → Type 0
IsOwn n = (n ≡ 1) ⊎ (n ≡ 2)
