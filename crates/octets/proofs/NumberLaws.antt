-- Laws of numbers in byte strings.
-- Assumes nothing.
use mathlib.Core.Path.{◌≡◌, refl, sym, ap, ap₂, ◌∙◌}
use mathlib.Core.List.{List, [], ◌∷◌, ◌++◌, append_assoc, append-nil}
use Prim.Native.Nat.{ℕ, zero, suc, ◌+◌, ◌*◌, ◌/◌, ◌%◌, ◌^◌, ◌<◌, ◌≤◌}
use native.Mathlib.Nat.{zero-add, add-zero, add-suc, add_assoc, add-mul, mul_assoc, mul_comm, mul-one, pow-suc, div-one}
use native.Mathlib.Numerals.{add-one}
use native.Mathlib.Omega.{arith}
use lib.Pow.{shr-shr, shr_lt, field, mod-mod-pow}
use lib.ListN.{length, get_or, take, drop, length-append}
use lib.Seq.{drop-cons, drop-drop, take-add}
use Rattle.octets.specs.Numbers.{big_endian_after, big_endian, to_big_endian, little_endian, to_little_endian, bytes_at}

-- ---- the highest byte first

pub big_append : (n : ℕ) (xs ys : List ℕ) → big_endian_after n (xs ++ ys) ≡ big_endian_after (big_endian_after n xs) ys
unfolding big_endian_after
big_append n [] ys = refl
big_append n (x ∷ xs) ys = big_append (n * 256 + x) xs ys

-- what stands before the bytes counts as often as they have values
pub big_after : (n : ℕ) (xs : List ℕ) → big_endian_after n xs ≡ n * 256 ^ length xs + big_endian xs
unfolding big_endian_after
big_after n [] = sym (add-zero (n * 1) ∙ mul-one n)
big_after n (x ∷ xs) =
    let p : ℕ = 256 ^ length xs in
    big_after (n * 256 + x) xs
    ∙ ap (λ (k : ℕ). k + big_endian xs)
    (add-mul (n * 256) x p
    ∙ ap (λ (k : ℕ). k + x * p) (mul_assoc n 256 p ∙ ap (λ (k : ℕ). n * k) (mul_comm 256 p ∙ sym (pow-suc 256 (length xs)))))
    ∙ add_assoc (n * 256 ^ suc (length xs)) (x * p) (big_endian xs)
    ∙ ap (λ (k : ℕ). n * 256 ^ suc (length xs) + k) (sym (big_after x xs) ∙ ap (λ (k : ℕ). big_endian_after k xs) (sym (zero-add x)))

-- bytes behind others
pub big_joined : (xs ys : List ℕ) → big_endian (xs ++ ys) ≡ big_endian xs * 256 ^ length ys + big_endian ys
big_joined xs ys = big_append 0 xs ys ∙ big_after (big_endian xs) ys

-- one byte, and those behind it
big_step : (n p q acc : ℕ) (xs : List ℕ) → q ≡ p + 1 → p < length xs
    → big_endian_after acc (bytes_at p (suc n) xs) ≡ big_endian_after (acc * 256 + get_or xs p 0) (bytes_at q n xs)
unfolding big_endian_after
big_step n p q acc xs e h = rw (e, add-one, drop-cons xs p 0)

pub big4_after : (acc : ℕ) (xs : List ℕ) (p : ℕ) → p + 4 ≤ length xs
    → big_endian_after acc (bytes_at p 4 xs) ≡ (((acc * 256 + get_or xs p 0) * 256 + get_or xs (p + 1) 0) * 256 + get_or xs (p + 2) 0) * 256 + get_or xs (p + 3) 0
unfolding big_endian_after
big4_after acc xs p h =
    big_step 3 p (p + 1) acc xs refl (omega arith)
    ∙ big_step 2 (p + 1) (p + 2) _ xs (omega arith) (omega arith)
    ∙ big_step 1 (p + 2) (p + 3) _ xs (omega arith) (omega arith)
    ∙ big_step 0 (p + 3) (p + 4) _ xs (omega arith) (omega arith)

pub big4_is : (xs : List ℕ) (p : ℕ) → p + 4 ≤ length xs
    → big_endian (bytes_at p 4 xs) ≡ ((get_or xs p 0 * 256 + get_or xs (p + 1) 0) * 256 + get_or xs (p + 2) 0) * 256 + get_or xs (p + 3) 0
big4_is xs p h =
    big4_after 0 xs p h
    ∙ ap (λ (x : ℕ). ((x * 256 + get_or xs (p + 1) 0) * 256 + get_or xs (p + 2) 0) * 256 + get_or xs (p + 3) 0) (zero-add (get_or xs p 0))

-- eight bytes are two numbers of four
four_more : (n a b c d : ℕ) → (((n * 256 + a) * 256 + b) * 256 + c) * 256 + d ≡ n * 4294967296 + (((a * 256 + b) * 256 + c) * 256 + d)
four_more n a b c d = omega arith

pub big8_is : (xs : List ℕ) (p : ℕ) → p + 8 ≤ length xs
    → big_endian (bytes_at p 8 xs) ≡ big_endian (bytes_at p 4 xs) * 4294967296 + big_endian (bytes_at (p + 4) 4 xs)
big8_is xs p h =
    ap big_endian (take-add 4 4 (drop p xs) ∙ ap (λ (l : List ℕ). take 4 (drop p xs) ++ take 4 l) (drop-drop 4 p xs))
    ∙ big_append 0 (bytes_at p 4 xs) (bytes_at (p + 4) 4 xs)
    ∙ big4_after (big_endian (bytes_at p 4 xs)) xs (p + 4) (omega arith)
    ∙ four_more (big_endian (bytes_at p 4 xs)) (get_or xs (p + 4) 0) (get_or xs (p + 4 + 1) 0) (get_or xs (p + 4 + 2) 0) (get_or xs (p + 4 + 3) 0)
    ∙ ap (λ (n : ℕ). big_endian (bytes_at p 4 xs) * 4294967296 + n) (sym (big4_is xs (p + 4) (omega arith)))

pub length-to_big_endian : (k x : ℕ) → length (to_big_endian k x) ≡ k
unfolding to_big_endian
length-to_big_endian zero x = refl
length-to_big_endian (suc k) x =
    length-append (to_big_endian k (x / 256)) (x % 256 ∷ []) ∙ ap (λ (n : ℕ). n + 1) (length-to_big_endian k (x / 256)) ∙ add-one k

-- j low bytes, and those above
pub big_split : (k j x : ℕ) → to_big_endian (k + j) x ≡ to_big_endian k (x / 2 ^ (j * 8)) ++ to_big_endian j x
unfolding to_big_endian
big_split k zero x =
    ap (λ (i : ℕ). to_big_endian i x) (add-zero k)
    ∙ sym (append-nil (to_big_endian k x))
    ∙ ap (λ (y : ℕ). to_big_endian k y ++ []) (sym (div-one x))
big_split k (suc j) x =
    ap (λ (i : ℕ). to_big_endian i x) (add-suc k j)
    ∙ ap (λ (l : List ℕ). l ++ (x % 256 ∷ [])) (big_split k j (x / 256))
    ∙ append_assoc (to_big_endian k (x / 256 / 2 ^ (j * 8))) (to_big_endian j (x / 256)) (x % 256 ∷ [])
    ∙ ap (λ (y : ℕ). to_big_endian k y ++ (to_big_endian j (x / 256) ++ (x % 256 ∷ []))) (shr-shr x 8 (j * 8) ∙ ap (λ (e : ℕ). x / 2 ^ e) (omega arith))

-- what is above the bytes does not count
pub big_low : (j x : ℕ) → to_big_endian j (x % 2 ^ (j * 8)) ≡ to_big_endian j x
unfolding to_big_endian
big_low zero x = refl
big_low (suc j) x =
    let e : suc j * 8 ≡ j * 8 + 8 = omega arith in
    ap (λ (i : ℕ). to_big_endian j (x % 2 ^ i / 256) ++ (x % 2 ^ i % 256 ∷ [])) e
    ∙ ap₂ (λ (y z : ℕ). to_big_endian j y ++ (z ∷ [])) (field x (j * 8) 8) (mod-mod-pow x (j * 8) 8)
    ∙ ap (λ (l : List ℕ). l ++ (x % 256 ∷ [])) (big_low j (x / 256))

-- a number that k bytes hold is the one that they write
pub big_back : (k x : ℕ) → x < 2 ^ (k * 8) → big_endian (to_big_endian k x) ≡ x
unfolding big_endian_after to_big_endian
big_back zero x h = omega arith
big_back (suc k) x h =
    let e : suc k * 8 ≡ k * 8 + 8 = omega arith in
    let l : x < 2 ^ (k * 8 + 8) = rw e at h in
    let d : x / 256 * 256 + x % 256 ≡ x = omega arith in
    big_append 0 (to_big_endian k (x / 256)) (x % 256 ∷ [])
    ∙ ap (λ (n : ℕ). n * 256 + x % 256) (big_back k (x / 256) (shr_lt (k * 8) 8 l))
    ∙ d

-- ---- the lowest byte first

little_step : (xs : List ℕ) (p q n : ℕ) → q ≡ suc p → p < length xs
    → little_endian (bytes_at p (suc n) xs) ≡ get_or xs p 0 + 256 * little_endian (bytes_at q n xs)
unfolding little_endian
little_step xs p q n e h = rw e (ap (λ (r : List ℕ). little_endian (take (suc n) r)) (drop-cons xs p 0 h))

pub little2_is : (xs : List ℕ) (p : ℕ) → p + 2 ≤ length xs → little_endian (bytes_at p 2 xs) ≡ get_or xs p 0 + 256 * get_or xs (p + 1) 0
unfolding little_endian
little2_is xs p h =
    let a : little_endian (bytes_at p 2 xs) ≡ get_or xs p 0 + 256 * little_endian (bytes_at (p + 1) 1 xs) = little_step xs p (p + 1) 1 (omega arith) (omega arith) in
    let b : little_endian (bytes_at (p + 1) 1 xs) ≡ get_or xs (p + 1) 0 + 256 * 0 = little_step xs (p + 1) (p + 2) 0 (omega arith) (omega arith) in
    omega arith

pub little4_is : (xs : List ℕ) (p : ℕ) → p + 4 ≤ length xs
    → little_endian (bytes_at p 4 xs) ≡ little_endian (bytes_at p 2 xs) + 65536 * little_endian (bytes_at (p + 2) 2 xs)
little4_is xs p h =
    let a = little_step xs p (p + 1) 3 (omega arith) (omega arith) in
    let b = little_step xs (p + 1) (p + 2) 2 (omega arith) (omega arith) in
    omega (arith, little2_is xs p (omega arith))

pub little8_is : (xs : List ℕ) (p : ℕ) → p + 8 ≤ length xs
    → little_endian (bytes_at p 8 xs) ≡ little_endian (bytes_at p 4 xs) + 4294967296 * little_endian (bytes_at (p + 4) 4 xs)
little8_is xs p h =
    let a = little_step xs p (p + 1) 7 (omega arith) (omega arith) in
    let b = little_step xs (p + 1) (p + 2) 6 (omega arith) (omega arith) in
    let c = little_step xs (p + 2) (p + 3) 5 (omega arith) (omega arith) in
    let d = little_step xs (p + 3) (p + 4) 4 (omega arith) (omega arith) in
    let e : p + 2 + 1 ≡ p + 3 = omega arith in
    let f : get_or xs (p + 2 + 1) 0 ≡ get_or xs (p + 3) 0 = ap (λ (i : ℕ). get_or xs i 0) e in
    omega (arith, little4_is xs p (omega arith), little2_is xs p (omega arith), little2_is xs (p + 2) (omega arith))

pub length-to_little_endian : (k x : ℕ) → length (to_little_endian k x) ≡ k
unfolding to_little_endian
length-to_little_endian zero x = refl
length-to_little_endian (suc k) x = ap suc (length-to_little_endian k (x / 256))
