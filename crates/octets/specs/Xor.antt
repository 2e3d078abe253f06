-- Exclusive or of byte strings.
-- Assumes nothing.
use Rattle.std.specs.Prelude.{List, [], ◌∷◌, ℕ, suc, get_or}
use Rattle.std.specs.Int.Bits.{bit_xor}

-- each byte xored with what f has at its place, the first place being i
unfoldable pub xor_with : (ℕ → ℕ) → ℕ → List ℕ → List ℕ
xor_with f i [] = []
xor_with f i (x ∷ xs) = bit_xor x (f i) ∷ xor_with f (suc i) xs

-- xs, each byte xored with that of ys at the same place; as long as xs
abbrev pub xor : List ℕ → List ℕ → List ℕ
xor xs ys = xor_with (λ i. get_or ys i 0) 0 xs
