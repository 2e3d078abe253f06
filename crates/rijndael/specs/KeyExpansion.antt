-- FIPS 197, 5.2: KEYEXPANSION, for a key of nk words and nr rounds. A word is the list of its four bytes (3.5).
use Rattle.std.specs.Prelude.{ℕ, zero, suc, ◌+◌, ◌-◌, ◌*◌, ◌/◌, ◌%◌, cond, ◌&&◌, List, [], ◌∷◌, ◌++◌, reverse, eqb, ltb, get_or}
use Rattle.std.specs.Int.Bits.{bit_xor}
use Rattle.rijndael.specs.Field.{xtimes, sbox}

-- ROTWORD
unfoldable pub rot_word : List ℕ → List ℕ
rot_word w = get_or w 1 0 ∷ get_or w 2 0 ∷ get_or w 3 0 ∷ get_or w 0 0 ∷ []

-- SUBWORD
unfoldable pub sub_word : List ℕ → List ℕ
sub_word w = sbox (get_or w 0 0) ∷ sbox (get_or w 1 0) ∷ sbox (get_or w 2 0) ∷ sbox (get_or w 3 0) ∷ []

-- the sum of two words
unfoldable pub xor_word : List ℕ → List ℕ → List ℕ
xor_word v w =
    bit_xor (get_or v 0 0) (get_or w 0 0) ∷ bit_xor (get_or v 1 0) (get_or w 1 0) ∷ bit_xor (get_or v 2 0) (get_or w 2 0) ∷ bit_xor (get_or v 3 0) (get_or w 3 0) ∷ []

-- x to the power n, as a byte
unfoldable pub xpower : ℕ → ℕ
xpower zero = 1
xpower (suc n) = xtimes (xpower n)

-- Rcon[j]: x to the power j - 1, and three bytes 0
unfoldable pub rcon : ℕ → List ℕ
rcon j = xpower (j - 1) ∷ 0 ∷ 0 ∷ 0 ∷ []

-- algorithm 2, lines 8 to 13: what w[i - nk] is added to, where w is w[i - 1]
unfoldable pub temp : ℕ → ℕ → List ℕ → List ℕ
temp nk i w =
    cond (eqb (i % nk) 0) (xor_word (sub_word (rot_word w)) (rcon (i / nk))) (cond (ltb 6 nk && eqb (i % nk) 4) (sub_word w) w)

-- the word that begins at byte i
unfoldable pub word_of : List ℕ → ℕ → List ℕ
word_of k i = get_or k i 0 ∷ get_or k (i + 1) 0 ∷ get_or k (i + 2) 0 ∷ get_or k (i + 3) 0 ∷ []

-- algorithm 2, lines 3 to 6: the first n words of the key, the last first
unfoldable pub key_words : ℕ → List ℕ → List (List ℕ)
key_words zero key = []
key_words (suc n) key = word_of key (4 * n) ∷ key_words n key

-- algorithm 2, lines 7 to 16: the words w[0] to w[nk + n - 1], the last first
unfoldable pub words : ℕ → ℕ → List ℕ → List (List ℕ)
words nk zero key = key_words nk key
words nk (suc n) key =
    let w = words nk n key in
    xor_word (get_or w (nk - 1) []) (temp nk (nk + n) (get_or w 0 [])) ∷ w

-- the n round keys from number r on, each of four words
unfoldable pub round_keys : ℕ → ℕ → List (List ℕ) → List (List ℕ)
round_keys zero r w = []
round_keys (suc n) r w =
    (get_or w (4 * r) [] ++ get_or w (4 * r + 1) [] ++ get_or w (4 * r + 2) [] ++ get_or w (4 * r + 3) []) ∷ round_keys n (suc r) w

-- algorithm 2: the round keys 0 to nr
unfoldable pub key_expansion : ℕ → ℕ → List ℕ → List (List ℕ)
key_expansion nk nr key = round_keys (nr + 1) 0 (reverse (words nk (4 * (nr + 1) - nk) key))
