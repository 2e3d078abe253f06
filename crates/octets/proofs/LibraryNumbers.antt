-- The library's numbers as bytes and in bytes are those of Numbers.
-- Assumes nothing.
use Rattle.std.proofs.Common.{arith, ◌≡◌, refl, sym, ap, ap₂, ◌∙◌, ℕ, zero, suc, ◌+◌, ◌*◌, ◌-◌, ◌/◌, ◌%◌, ◌^◌, ◌≤◌, ◌<◌, List, [], ◌∷◌, ◌++◌, length, take, drop, replicate, get_or}
use Rattle.std.specs.Int.{w64, bytes_high_first, bytes_low_first, byte_at, to_be_bytes, to_le_bytes, from_be_bytes, from_le_bytes}
use Rattle.octets.specs.Numbers.{big_endian_after, big_endian, to_big_endian, little_endian, to_little_endian, bytes_at}
use Rattle.octets.proofs.NumberLaws.{big_after, big_split, big4_is, big8_is, little2_is, little4_is, little8_is, length-to_big_endian}
use Rattle.std.proofs.Math.Nat.{zero-add, div-one, pow-suc, div-div-eq-div-mul, suc-add}
use Rattle.std.proofs.lemmas.Nat.{pow-add}
use native.Mathlib.Nat.{mul-le-mul_right}
use Rattle.std.proofs.lemmas.List.{get_or-take, get_or-drop}
use lib.ListN.{length-take, length-drop, drop_of_length-le, length-append, length-replicate}
use lib.Seq.{take-length}
use mathlib.Core.List.{append-nil}
use Rattle.octets.proofs.Paste.{take-replicate, drop-replicate}
use Rattle.std.proofs.Math.Seq.{drop_at, take_all, paste}

power : (k : ℕ) → 256 ^ k ≡ 2 ^ (k * 8)
power zero = refl
power (suc k) =
    let e : k * 8 + 8 ≡ suc k * 8 = omega arith in
    pow-suc 256 k ∙ ap (λ (p : ℕ). p * 256) (power k) ∙ sym (pow-add 2 (k * 8) 8) ∙ ap (λ (i : ℕ). 2 ^ i) e

byte : (k x : ℕ) → byte_at k x ≡ x / 256 ^ k % 256
byte zero x = ap (λ (y : ℕ). y % 256) (sym (div-one x))
byte (suc k) x = refl

-- ---- the highest byte first

high_first : (k x : ℕ) → bytes_high_first k x ≡ to_big_endian k x
unfolding to_big_endian
high_first zero x = refl
high_first (suc k) x =
    let e : 1 + k ≡ suc k = omega arith in
    ap₂ (λ (y : ℕ) (ys : List ℕ). y ∷ ys) (byte k x ∙ ap (λ (p : ℕ). x / p % 256) (power k)) (high_first k x)
    ∙ sym (big_split 1 k x)
    ∙ ap (λ (i : ℕ). to_big_endian i x) e

-- the last n of the eight bytes
pub high_part : (n x : ℕ) → n ≤ 8 → bytes_at (8 - n) n (to_be_bytes w64 x) ≡ to_big_endian n x
high_part n x h =
    let e : 8 ≡ 8 - n + n = omega arith in
    let above : List ℕ = to_big_endian (8 - n) (x / 2 ^ (n * 8)) in
    let below : List ℕ = to_big_endian n x in
    ap (bytes_at (8 - n) n) (high_first 8 x ∙ ap (λ (i : ℕ). to_big_endian i x) e ∙ big_split (8 - n) n x)
    ∙ ap (take n) (drop_at above below (8 - n) (length-to_big_endian (8 - n) (x / 2 ^ (n * 8))))
    ∙ take_all n below (omega (arith, length-to_big_endian n x))

high_eight : (xs : List ℕ) → length xs ≡ 8 → from_be_bytes w64 xs ≡ big_endian xs
high_eight xs h =
    let e = ap big_endian (take_all 8 xs (omega arith)) in
    omega (arith, big8_is xs 0 (omega arith), big4_is xs 0 (omega arith), big4_is xs 4 (omega arith))

zeros_first : (k : ℕ) (xs : List ℕ) → big_endian (replicate k 0 ++ xs) ≡ big_endian xs
unfolding big_endian_after
zeros_first zero xs = refl
zeros_first (suc k) xs = zeros_first k xs

-- n bytes behind zeros
pub high_word : (xs : List ℕ) (n : ℕ) → n ≤ 8 → length xs ≡ n → from_be_bytes w64 (paste (replicate 8 0) (8 - n) xs (length xs)) ≡ big_endian xs
high_word xs n h e =
    let z : List ℕ = replicate (8 - n) 0 in
    let l : length z ≡ 8 - n = length-replicate (8 - n) 0 in
    let parts : 8 ≡ 8 - n + n = omega arith in
    let all : length (z ++ xs) ≡ 8 = omega (arith, length-append z xs) in
    let front : take (8 - n) (replicate 8 0) ≡ z = ap (λ (i : ℕ). take (8 - n) (replicate i 0)) parts ∙ take-replicate (8 - n) n 0 in
    let none : drop {A = ℕ} (8 - n + length xs) (replicate 8 0) ≡ [] = drop_of_length-le (replicate 8 0) (omega arith) in
    let w : paste (replicate 8 0) (8 - n) xs (length xs) ≡ z ++ xs = rw (front, take-length xs, none) (append-nil (z ++ xs)) in
    ap (from_be_bytes w64) w ∙ high_eight (z ++ xs) all ∙ zeros_first (8 - n) xs

-- ---- the lowest byte first

low_first : (i k x : ℕ) → bytes_low_first i k x ≡ to_little_endian k (x / 256 ^ i)
unfolding to_little_endian
low_first i zero x = refl
low_first i (suc k) x =
    let e : x / 256 ^ suc i ≡ x / 256 ^ i / 256 = ap (λ (p : ℕ). x / p) (pow-suc 256 i) ∙ sym (div-div-eq-div-mul x (256 ^ i) 256) in
    ap₂ (λ (y : ℕ) (ys : List ℕ). y ∷ ys) (byte i x) (low_first (suc i) k x ∙ ap (to_little_endian k) e)

low_take : (n m x : ℕ) → take n (to_little_endian (n + m) x) ≡ to_little_endian n x
unfolding to_little_endian
low_take zero m x = refl
low_take (suc n) m x = ap (λ (i : ℕ). take (suc n) (to_little_endian i x)) (suc-add n m) ∙ ap (λ (ys : List ℕ). x % 256 ∷ ys) (low_take n m (x / 256))

-- the first n of the eight bytes
pub low_part : (n x : ℕ) → n ≤ 8 → bytes_at 0 n (to_le_bytes w64 x) ≡ to_little_endian n x
low_part n x h =
    let e : 8 ≡ n + (8 - n) = omega arith in
    ap (take n) (low_first 0 8 x ∙ ap (to_little_endian 8) (div-one x) ∙ ap (λ (i : ℕ). to_little_endian i x) e) ∙ low_take n (8 - n) x

low_eight : (xs : List ℕ) → length xs ≡ 8 → from_le_bytes w64 xs ≡ little_endian xs
low_eight xs h =
    let e = ap little_endian (take_all 8 xs (omega arith)) in
    omega (
      arith,
      little8_is xs 0 (omega arith),
      little4_is xs 0 (omega arith),
      little4_is xs 4 (omega arith),
      little2_is xs 0 (omega arith),
      little2_is xs 2 (omega arith),
      little2_is xs 4 (omega arith),
      little2_is xs 6 (omega arith),
    )

zeros_last : (xs : List ℕ) (k : ℕ) → little_endian (xs ++ replicate k 0) ≡ little_endian xs
unfolding little_endian
zeros_last [] zero = refl
zeros_last [] (suc k) = ap (λ (n : ℕ). 0 + 256 * n) (zeros_last [] k)
zeros_last (x ∷ xs) k = ap (λ (n : ℕ). x + 256 * n) (zeros_last xs k)

-- n bytes before zeros
pub low_word : (xs : List ℕ) (n : ℕ) → n ≤ 8 → length xs ≡ n → from_le_bytes w64 (paste (replicate 8 0) 0 xs (length xs)) ≡ little_endian xs
low_word xs n h e =
    let z : List ℕ = replicate (8 - n) 0 in
    let l : length z ≡ 8 - n = length-replicate (8 - n) 0 in
    let parts : 8 ≡ 0 + length xs + (8 - n) = omega arith in
    let back : drop (0 + length xs) (replicate 8 0) ≡ z =
    ap (λ (i : ℕ). drop (0 + length xs) (replicate i 0)) parts ∙ drop-replicate (0 + length xs) (8 - n) 0 in
    let w : paste (replicate 8 0) 0 xs (length xs) ≡ xs ++ z = rw (take-length xs, back) refl in
    let all : length (xs ++ z) ≡ 8 = omega (arith, length-append xs z) in
    ap (from_le_bytes w64) w ∙ low_eight (xs ++ z) all ∙ zeros_last xs (8 - n)

-- ---- what bytes write is below the next power of 256

high_below : (xs : List ℕ) → ((i : ℕ) → i < length xs → get_or xs i 0 < 256) → big_endian xs < 256 ^ length xs
unfolding big_endian_after
high_below [] h = omega arith
high_below (x ∷ xs) h =
    let p : ℕ = 256 ^ length xs in
    let below : big_endian xs < p = high_below xs (λ i l. h (suc i) (omega arith)) in
    let first : x ≤ 255 = let f = h 0 (omega arith) in omega arith in
    let product : x * p ≤ 255 * p = mul-le-mul_right p first in
    let is : big_endian (x ∷ xs) ≡ x * p + big_endian xs = ap (λ (k : ℕ). big_endian_after k xs) (zero-add x) ∙ big_after x xs in
    let power : 256 ^ length (x ∷ xs) ≡ p * 256 = pow-suc 256 (length xs) in
    omega arith

low_below : (xs : List ℕ) → ((i : ℕ) → i < length xs → get_or xs i 0 < 256) → little_endian xs < 256 ^ length xs
unfolding little_endian
low_below [] h = omega arith
low_below (x ∷ xs) h =
    let below : little_endian xs < 256 ^ length xs = low_below xs (λ i l. h (suc i) (omega arith)) in
    let first : x < 256 = h 0 (omega arith) in
    let power : 256 ^ length (x ∷ xs) ≡ 256 ^ length xs * 256 = pow-suc 256 (length xs) in
    omega arith

module _ (b : List ℕ) (at n : ℕ) (octets : (i : ℕ) → get_or b i 0 < 256) (within : at + n ≤ length b) where
  part : (i : ℕ) → i < length (bytes_at at n b) → get_or (bytes_at at n b) i 0 < 256
  part i h =
      let l : length (bytes_at at n b) ≡ n = omega (arith, length-take n (drop at b), length-drop at b) in
      rw (get_or-take n (drop at b) i 0 (omega arith), get_or-drop at b i 0) (octets (at + i))

  size : 256 ^ length (bytes_at at n b) ≡ 256 ^ n
  size = let l : length (bytes_at at n b) ≡ n = omega (arith, length-take n (drop at b), length-drop at b) in ap (λ (k : ℕ). 256 ^ k) l

  pub high_bound : big_endian (bytes_at at n b) < 256 ^ n
  high_bound = rw (← size) (high_below (bytes_at at n b) part)

  pub low_bound : little_endian (bytes_at at n b) < 256 ^ n
  low_bound = rw (← size) (low_below (bytes_at at n b) part)
