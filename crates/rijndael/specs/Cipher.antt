-- FIPS 197, 5.1: CIPHER. A state is the list of its 16 bytes, column after column: the byte of row r and column c stands at r + 4 c (3.4).
use Rattle.std.specs.Prelude.{ℕ, zero, suc, ◌+◌, ◌-◌, ◌*◌, ◌/◌, ◌%◌, List, [], ◌∷◌, get_or}
use Rattle.std.specs.Int.Bits.{bit_xor}
use Rattle.rijndael.specs.Field.{mul, sbox}

-- the state whose bytes are f 0, f 1, ..
unfoldable pub state : (ℕ → ℕ) → List ℕ
state f = f 0 ∷ f 1 ∷ f 2 ∷ f 3 ∷ f 4 ∷ f 5 ∷ f 6 ∷ f 7 ∷ f 8 ∷ f 9 ∷ f 10 ∷ f 11 ∷ f 12 ∷ f 13 ∷ f 14 ∷ f 15 ∷ []

-- 5.1.1, SUBBYTES: the S-box at each byte
unfoldable pub sub_bytes : List ℕ → List ℕ
sub_bytes s = state (λ i. sbox (get_or s i 0))

-- 5.1.2, SHIFTROWS: row r goes r columns to the left
unfoldable pub shift_rows : List ℕ → List ℕ
shift_rows s = state (λ i. get_or s ((i + 4 * (i % 4)) % 16) 0)

-- 4.3, 5.1.3: row r of the product of the fixed matrix and the column a b c d
unfoldable pub mixed : ℕ → ℕ → ℕ → ℕ → ℕ → ℕ
mixed zero a b c d = bit_xor (bit_xor (bit_xor (mul 2 a) (mul 3 b)) c) d
mixed (suc zero) a b c d = bit_xor (bit_xor (bit_xor a (mul 2 b)) (mul 3 c)) d
mixed (suc (suc zero)) a b c d = bit_xor (bit_xor (bit_xor a b) (mul 2 c)) (mul 3 d)
mixed (suc (suc (suc r))) a b c d = bit_xor (bit_xor (bit_xor (mul 3 a) b) c) (mul 2 d)

-- 5.1.3, MIXCOLUMNS: the product for each column
unfoldable pub mix_columns : List ℕ → List ℕ
mix_columns s =
    state (λ i. mixed (i % 4) (get_or s (i / 4 * 4) 0) (get_or s (i / 4 * 4 + 1) 0) (get_or s (i / 4 * 4 + 2) 0) (get_or s (i / 4 * 4 + 3) 0))

-- 5.1.4, ADDROUNDKEY
unfoldable pub add_round_key : List ℕ → List ℕ → List ℕ
add_round_key s k = state (λ i. bit_xor (get_or s i 0) (get_or k i 0))

-- 5.1, algorithm 1, lines 4 to 9: the state after the rounds 1 to n
unfoldable pub rounds : ℕ → List (List ℕ) → List ℕ → List ℕ
rounds zero w s = s
rounds (suc n) w s = add_round_key (mix_columns (shift_rows (sub_bytes (rounds n w s)))) (get_or w (suc n) [])

-- 5.1, algorithm 1: nr rounds, of which the last has no MIXCOLUMNS. w has the round keys 0 to nr, of 16 bytes each
unfoldable pub cipher : ℕ → List (List ℕ) → List ℕ → List ℕ
cipher nr w s = add_round_key (shift_rows (sub_bytes (rounds (nr - 1) w (add_round_key s (get_or w 0 []))))) (get_or w nr [])
