-- The lines that the programs write, as bytes: RULES 16.9, 16.10 and 17.7.
-- Assumes nothing.
use Rattle.std.specs.Prelude.{cond, List, [], ◌∷◌, ◌++◌, ℕ, zero, suc, ◌+◌, ◌*◌, ◌/◌, ltb, get_or}
use Rattle.io.specs.Digits.{last_digits}

abbrev pub Bytes : Type 0
Bytes = List ℕ

-- how many decimal digits a number has, up to one more than k
unfoldable pub places_in : ℕ → ℕ → ℕ
places_in zero n = 1
places_in (suc k) n = cond (ltb n 10) 1 (places_in k (n / 10) + 1)

-- a number in decimal: one below 2^64 has at most twenty digits
unfoldable pub decimal : ℕ → Bytes
decimal n = last_digits 10 (places_in 19 n) n

-- "its index from 0, a space, its answer number"; "first byte's place in the input, a space, length dropped"
unfoldable pub two_numbers : ℕ → ℕ → Bytes
two_numbers a b = decimal a ++ (32 ∷ []) ++ decimal b ++ (10 ∷ [])

-- ""long" for the number"
unfoldable pub long_line : ℕ → Bytes
long_line i = decimal i ++ (32 ∷ 108 ∷ 111 ∷ 110 ∷ 103 ∷ 10 ∷ [])

-- ""stop", a space, the byte place where that record begins"
unfoldable pub stop_line : ℕ → Bytes
stop_line p = (115 ∷ 116 ∷ 111 ∷ 112 ∷ 32 ∷ []) ++ decimal p ++ (10 ∷ [])

-- "lists, for each gap, one line": of the first k gaps, of which the list has two numbers each
unfoldable pub gap_lines : ℕ → List ℕ → Bytes
gap_lines zero list = []
gap_lines (suc k) list = gap_lines k list ++ two_numbers (get_or list (2 * k) 0) (get_or list (2 * k + 1) 0)
