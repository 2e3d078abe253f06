-- Numbers in byte strings, with the highest byte first (big-endian) and with the lowest first (little-endian).
-- Assumes nothing.
use Rattle.std.specs.Prelude.{List, [], ◌∷◌, ◌++◌, ℕ, zero, suc, ◌+◌, ◌*◌, ◌/◌, ◌%◌, take, drop}

-- the number that n and then the bytes write, the highest byte first
unfoldable pub big_endian_after : ℕ → List ℕ → ℕ
big_endian_after n [] = n
big_endian_after n (x ∷ xs) = big_endian_after (n * 256 + x) xs

abbrev pub big_endian : List ℕ → ℕ
big_endian xs = big_endian_after 0 xs

-- x as k bytes, the highest first; what is above them is dropped
unfoldable pub to_big_endian : ℕ → ℕ → List ℕ
to_big_endian zero x = []
to_big_endian (suc k) x = to_big_endian k (x / 256) ++ (x % 256 ∷ [])

-- the number that bytes write, the lowest byte first
unfoldable pub little_endian : List ℕ → ℕ
little_endian [] = 0
little_endian (x ∷ xs) = x + 256 * little_endian xs

-- x as k bytes, the lowest first; what is above them is dropped
unfoldable pub to_little_endian : ℕ → ℕ → List ℕ
to_little_endian zero x = []
to_little_endian (suc k) x = x % 256 ∷ to_little_endian k (x / 256)

-- the n bytes from place p on
abbrev pub bytes_at : ℕ → ℕ → List ℕ → List ℕ
bytes_at p n xs = take n (drop p xs)
