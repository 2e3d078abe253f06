-- Laws of byte strings in blocks of 16 bytes, and of a loop that goes block by block.
-- Assumes nothing.
use mathlib.Core.Path.{◌≡◌, refl, sym, ap, ap₂, ◌∙◌}
use mathlib.Core.List.{List, [], ◌∷◌, ◌++◌}
use Prim.Native.Nat.{ℕ, zero, suc, ◌+◌, ◌*◌, ◌-◌, ◌<◌, ◌≤◌, min}
use native.Mathlib.Nat.{zero-add, suc-add, add-zero, add-suc, le_of_eq}
use native.Mathlib.Numerals.{add-one}
use native.Mathlib.Omega.{arith}
use lib.ListN.{length, take, drop, replicate, length-drop}
use lib.Seq.{drop-append-le, drop-append-add, drop-nil, take_all}
use Rattle.octets.specs.Blocks.{zero_padded, block, block_count, padded, over_blocks}

pub length-zero_padded : (n : ℕ) (xs : List ℕ) → length (zero_padded n xs) ≡ n
unfolding zero_padded
length-zero_padded zero xs = refl
length-zero_padded (suc n) [] = ap suc (length-zero_padded n [])
length-zero_padded (suc n) (x ∷ xs) = ap suc (length-zero_padded n xs)

pub zero_padded-whole : (n : ℕ) (xs : List ℕ) → n ≤ length xs → zero_padded n xs ≡ take n xs
unfolding zero_padded
zero_padded-whole zero xs h = refl
zero_padded-whole (suc n) [] h = absurd (omega arith)
zero_padded-whole (suc n) (x ∷ xs) h = ap (λ (r : List ℕ). x ∷ r) (zero_padded-whole n xs (omega arith))

-- what fills the places exactly stays as it is
pub zero_padded_exact : (n : ℕ) (xs : List ℕ) → length xs ≡ n → zero_padded n xs ≡ xs
zero_padded_exact n xs h = zero_padded-whole n xs (le_of_eq (sym h)) ∙ take_all n xs (le_of_eq h)

-- a run of zeros whose first m bytes were replaced
pub zeros_replaced : (n : ℕ) (xs : List ℕ) (m : ℕ) → m ≡ min (length xs) n → take m xs ++ drop m (replicate n 0) ≡ zero_padded n xs
unfolding zero_padded
zeros_replaced zero [] zero e = refl
zeros_replaced zero (x ∷ xs) zero e = refl
zeros_replaced zero [] (suc m) e = absurd (omega arith)
zeros_replaced zero (x ∷ xs) (suc m) e = absurd (omega arith)
zeros_replaced (suc n) [] zero e = ap (λ (r : List ℕ). 0 ∷ r) (zeros_replaced n [] zero (omega arith))
zeros_replaced (suc n) [] (suc m) e = absurd (omega arith)
zeros_replaced (suc n) (x ∷ xs) zero e = absurd (omega arith)
zeros_replaced (suc n) (x ∷ xs) (suc m) e = ap (λ (r : List ℕ). x ∷ r) (zeros_replaced n xs m (omega arith))

-- a loop over len bytes stands at `at`: at the start of a block, or at the end
abbrev pub AtBlock : ℕ → ℕ → Type 0
AtBlock at len = (at ≤ len) × (at ≡ min (16 * block_count at) len)

pub block_here : (at len : ℕ) → AtBlock at len → at < len → at ≡ 16 * block_count at
block_here at len (k, e) l = omega arith

pub block-next : (at len m : ℕ) → AtBlock at len → at < len → m ≡ min (len - at) 16 → block_count (at + m) ≡ block_count at + 1
block-next at len m k l em =
    let e = block_here at len k l in
    omega arith

pub block_turn : (at len m : ℕ) → AtBlock at len → at < len → m ≡ min (len - at) 16 → AtBlock (at + m) len
block_turn at len m k l em =
    let e = block_here at len k l in
    let n = block-next at len m k l em in
    (omega arith, omega arith)

-- ---- blocks of joined and of padded strings

zero_padded-take : (n : ℕ) (xs ys : List ℕ) → n ≤ length xs → zero_padded n (xs ++ ys) ≡ zero_padded n xs
unfolding zero_padded
zero_padded-take zero xs ys h = refl
zero_padded-take (suc n) [] ys h = absurd (omega arith)
zero_padded-take (suc n) (x ∷ xs) ys h = ap (λ (r : List ℕ). x ∷ r) (zero_padded-take n xs ys (omega arith))

-- a short prefix of a padded string is that of the string
zero_padded_prefix : (n m : ℕ) (xs : List ℕ) → n ≤ m → zero_padded n (zero_padded m xs) ≡ zero_padded n xs
unfolding zero_padded
zero_padded_prefix zero m xs h = refl
zero_padded_prefix (suc n) zero xs h = absurd (omega arith)
zero_padded_prefix (suc n) (suc m) [] h = ap (λ (r : List ℕ). 0 ∷ r) (zero_padded_prefix n m [] (omega arith))
zero_padded_prefix (suc n) (suc m) (x ∷ xs) h = ap (λ (r : List ℕ). x ∷ r) (zero_padded_prefix n m xs (omega arith))

drop-zero_padded : (k m : ℕ) (xs : List ℕ) → drop k (zero_padded (k + m) xs) ≡ zero_padded m (drop k xs)
unfolding zero_padded
drop-zero_padded zero m xs = ap (λ (i : ℕ). zero_padded i xs) (zero-add m)
drop-zero_padded (suc k) m [] =
    ap (λ (i : ℕ). drop (suc k) (zero_padded i [])) (suc-add k m) ∙ drop-zero_padded k m [] ∙ ap (zero_padded m) (drop-nil k)
drop-zero_padded (suc k) m (x ∷ xs) = ap (λ (i : ℕ). drop (suc k) (zero_padded i (x ∷ xs))) (suc-add k m) ∙ drop-zero_padded k m xs

pub length-padded : (xs : List ℕ) → length (padded xs) ≡ 16 * block_count (length xs)
length-padded xs = length-zero_padded (16 * block_count (length xs)) xs

pub block-before : (a b : List ℕ) (n k : ℕ) → length a ≡ 16 * n → k < n → block (a ++ b) k ≡ block a k
block-before a b n k e l =
    let h : 16 * k ≤ length a = omega arith in
    ap (zero_padded 16) (drop-append-le (16 * k) a b h)
    ∙ zero_padded-take 16 (drop (16 * k) a) b (omega (arith, length-drop (16 * k) a))

pub block-behind : (a b : List ℕ) (n k : ℕ) → length a ≡ 16 * n → block (a ++ b) (n + k) ≡ block b k
block-behind a b n k e =
    let q : 16 * (n + k) ≡ length a + 16 * k = omega arith in
    ap (λ (i : ℕ). zero_padded 16 (drop i (a ++ b))) q ∙ ap (zero_padded 16) (drop-append-add a b (16 * k))

pub block-padded : (xs : List ℕ) (n k : ℕ) → k < n → block (zero_padded (16 * n) xs) k ≡ block xs k
block-padded xs n k l =
    let q : 16 * n ≡ 16 * k + (16 * n - 16 * k) = omega arith in
    ap (λ (i : ℕ). zero_padded 16 (drop (16 * k) (zero_padded i xs))) q
    ∙ ap (zero_padded 16) (drop-zero_padded (16 * k) (16 * n - 16 * k) xs)
    ∙ zero_padded_prefix 16 (16 * n - 16 * k) (drop (16 * k) xs) (omega arith)

-- ---- chains over blocks

module _ {A : Type 0} (f : A → List ℕ → A) where
  -- a turn of a loop: the block at `at`, and m bytes on
  pub over_turn : (y : A) (s : List ℕ) (at m : ℕ) (z r : A) → AtBlock at (length s) → at < length s → m ≡ min (length s - at) 16
      → z ≡ over_blocks f y s (block_count at)
      → r ≡ f z (zero_padded 16 (drop at s))
      → r ≡ over_blocks f y s (block_count (at + m))
  unfolding over_blocks
  over_turn y s at m z r k l em ez er =
      er ∙ ap₂ (λ (a : A) (b : ℕ). f a (zero_padded 16 (drop b s))) ez (block_here at (length s) k l)
      ∙ ap (over_blocks f y s) (sym (block-next at (length s) m k l em ∙ add-one (block_count at)))

  -- only the first n blocks count
  pub over_same : (y : A) (xs ys : List ℕ) (n : ℕ) → ((k : ℕ) → k < n → block xs k ≡ block ys k) → over_blocks f y xs n ≡ over_blocks f y ys n
  unfolding over_blocks
  over_same y xs ys zero h = refl
  over_same y xs ys (suc n) h = ap₂ f (over_same y xs ys n (λ k l. h k (omega arith))) (h n (omega arith))

  -- whole blocks a, then b
  pub over-append : (y : A) (a b : List ℕ) (n k : ℕ) → length a ≡ 16 * n → over_blocks f y (a ++ b) (n + k) ≡ over_blocks f (over_blocks f y a n) b k
  unfolding over_blocks
  over-append y a b n zero e = ap (over_blocks f y (a ++ b)) (add-zero n) ∙ over_same y (a ++ b) a n (λ k l. block-before a b n k e l)
  over-append y a b n (suc k) e =
      ap (over_blocks f y (a ++ b)) (add-suc n k) ∙ ap₂ f (over-append y a b n k e) (block-behind a b n k e)

  -- the padded string has the blocks of the string itself
  pub over-padded : (y : A) (xs : List ℕ) → over_blocks f y (padded xs) (block_count (length xs)) ≡ over_blocks f y xs (block_count (length xs))
  over-padded y xs = over_same y (padded xs) xs (block_count (length xs)) (λ k l. block-padded xs (block_count (length xs)) k l)
