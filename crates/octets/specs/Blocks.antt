-- A byte string as blocks of 16 bytes, of which the last is filled with zeros.
-- Assumes nothing.
use Rattle.std.specs.Prelude.{List, [], ◌∷◌, ℕ, zero, suc, ◌+◌, ◌*◌, ◌/◌, length, drop}

-- the first n bytes, with zeros where xs has ended
unfoldable pub zero_padded : ℕ → List ℕ → List ℕ
zero_padded zero xs = []
zero_padded (suc n) [] = 0 ∷ zero_padded n []
zero_padded (suc n) (x ∷ xs) = x ∷ zero_padded n xs

-- block number n, counted from 0
abbrev pub block : List ℕ → ℕ → List ℕ
block xs n = zero_padded 16 (drop (16 * n) xs)

-- how many blocks a length takes
abbrev pub block_count : ℕ → ℕ
block_count len = (len + 15) / 16

-- xs filled with zeros to whole blocks
abbrev pub padded : List ℕ → List ℕ
padded xs = zero_padded (16 * block_count (length xs)) xs

-- a chain from y over the first n blocks of xs: f takes each block in
unfoldable pub over_blocks : {A : Type 0} → (A → List ℕ → A) → A → List ℕ → ℕ → A
over_blocks f y xs zero = y
over_blocks f y xs (suc n) = f (over_blocks f y xs n) (block xs n)
