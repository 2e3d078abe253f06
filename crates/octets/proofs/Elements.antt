-- A list of n elements is made of its elements, read one by one.
-- Assumes nothing.
use mathlib.Core.Path.{◌≡◌, ◌∙◌, ap, sym}
use mathlib.Core.List.{List, [], ◌∷◌}
use Prim.Native.Nat.{ℕ, zero, suc, ◌+◌}
use native.Mathlib.Omega.{arith}
use lib.ListN.{length, get_or, drop, drop_of_length-le}
use lib.Seq.{drop-cons}

-- the n elements from i on
abbrev pub elements : ℕ → ℕ → List ℕ → List ℕ
elements zero i l = []
elements (suc n) i l = get_or l i 0 ∷ elements n (suc i) l

elements_drop : (n i : ℕ) (l : List ℕ) → i + n ≡ length l → elements n i l ≡ drop i l
elements_drop zero i l h = sym (drop_of_length-le l {i = i} (omega arith))
elements_drop (suc n) i l h =
    ap {B = List ℕ} (λ r. get_or l i 0 ∷ r) (elements_drop n (suc i) l (omega arith)) ∙ sym (drop-cons l i 0 (omega arith))

pub whole : (n : ℕ) (l : List ℕ) → length l ≡ n → elements n 0 l ≡ l
whole n l h = elements_drop n 0 l (omega arith)
