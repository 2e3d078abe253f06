-- Laws of exclusive or of byte strings: lengths, places, associative, undoes itself.
-- Assumes nothing.
use mathlib.Core.Path.{◌≡◌, refl, sym, ap, ap₂, ◌∙◌}
use mathlib.Core.List.{List, [], ◌∷◌}
use Prim.Native.Nat.{ℕ, zero, suc, ◌+◌, ◌<◌, ◌≤◌}
use native.Mathlib.Nat.{not-suc-le-zero, le_of_suc-le-suc, le_of_eq, add-zero, zero-add}
use native.Mathlib.Omega.{arith}
use lib.Bits.{bit_xor}
use lib.ListN.{length, get_or, set, take, drop}
use lib.Seq.{take_all, paste}
use Rattle.octets.specs.Xor.{xor_with, xor}
use Rattle.octets.proofs.BitXor.{xor_assoc, xor_undo}
use Rattle.octets.proofs.Paste.{paste_next, paste_turn, paste_all}

module _ (f : ℕ → ℕ) where
  pub length-xor_with : (i : ℕ) (xs : List ℕ) → length (xor_with f i xs) ≡ length xs
  unfolding xor_with
  length-xor_with i [] = refl
  length-xor_with i (x ∷ xs) = ap suc (length-xor_with (suc i) xs)

  pub get_or-xor_with : (i : ℕ) (xs : List ℕ) (j : ℕ) → j < length xs → get_or (xor_with f i xs) j 0 ≡ bit_xor (get_or xs j 0) (f (i + j))
  unfolding xor_with
  get_or-xor_with i [] j h = absurd (not-suc-le-zero h)
  get_or-xor_with i (x ∷ xs) zero h = ap (λ (k : ℕ). bit_xor x (f k)) (sym (add-zero i))
  get_or-xor_with i (x ∷ xs) (suc j) h =
      let e : suc i + j ≡ i + suc j = omega arith in
      get_or-xor_with (suc i) xs j (le_of_suc-le-suc h) ∙ ap (λ (k : ℕ). bit_xor (get_or xs j 0) (f k)) e

  -- applied twice it gives the list back
  pub xor_with_twice : (i : ℕ) (xs : List ℕ) → xor_with f i (xor_with f i xs) ≡ xs
  unfolding xor_with
  xor_with_twice i [] = refl
  xor_with_twice i (x ∷ xs) = ap₂ (λ (y : ℕ) (ys : List ℕ). y ∷ ys) (xor_undo x (f i)) (xor_with_twice (suc i) xs)

pub drop-xor_with : (f : ℕ → ℕ) (i : ℕ) (xs : List ℕ) (n : ℕ) → drop n (xor_with f i xs) ≡ xor_with f (i + n) (drop n xs)
unfolding xor_with
drop-xor_with f i [] zero = refl
drop-xor_with f i [] (suc n) = refl
drop-xor_with f i (x ∷ xs) zero = ap (λ (k : ℕ). xor_with f k (x ∷ xs)) (sym (add-zero i))
drop-xor_with f i (x ∷ xs) (suc n) =
    let e : suc i + n ≡ i + suc n = omega arith in
    drop-xor_with f (suc i) xs n ∙ ap (λ (k : ℕ). xor_with f k (drop n xs)) e

-- two functions that agree at the first m places
pub take-xor_with : (f g : ℕ → ℕ) (i k : ℕ) (xs : List ℕ) (m : ℕ) → ((j : ℕ) → j < m → f (i + j) ≡ g (k + j))
    → take m (xor_with f i xs) ≡ take m (xor_with g k xs)
unfolding xor_with
take-xor_with f g i k [] zero h = refl
take-xor_with f g i k [] (suc m) h = refl
take-xor_with f g i k (x ∷ xs) zero h = refl
take-xor_with f g i k (x ∷ xs) (suc m) h =
    ap₂ (λ (y : ℕ) (ys : List ℕ). bit_xor x y ∷ ys)
    (ap f (sym (add-zero i)) ∙ h 0 (omega arith) ∙ ap g (add-zero k))
    (take-xor_with f g (suc i) (suc k) xs m
    (λ j l.
    let a : suc i + j ≡ i + suc j = omega arith in
    let b : k + suc j ≡ suc k + j = omega arith in
    ap f a ∙ h (suc j) (omega arith) ∙ ap g b))

-- one after the other
both_xor_with : (f g : ℕ → ℕ) (i : ℕ) (xs : List ℕ) → xor_with g i (xor_with f i xs) ≡ xor_with (λ k. bit_xor (f k) (g k)) i xs
unfolding xor_with
both_xor_with f g i [] = refl
both_xor_with f g i (x ∷ xs) = ap₂ (λ (y : ℕ) (ys : List ℕ). y ∷ ys) (xor_assoc x (f i) (g i)) (both_xor_with f g (suc i) xs)

-- ---- byte strings

pub length-xor : (xs ys : List ℕ) → length (xor xs ys) ≡ length xs
length-xor xs ys = length-xor_with (λ i. get_or ys i 0) 0 xs

pub xor_twice : (xs ys : List ℕ) → xor (xor xs ys) ys ≡ xs
xor_twice xs ys = xor_with_twice (λ i. get_or ys i 0) 0 xs

pub xor-bytes_assoc : (xs ys zs : List ℕ) → length xs ≤ length ys → xor (xor xs ys) zs ≡ xor xs (xor ys zs)
xor-bytes_assoc xs ys zs h =
    let f : ℕ → ℕ = λ i. bit_xor (get_or ys i 0) (get_or zs i 0) in
    let g : ℕ → ℕ = λ i. get_or (xor ys zs) i 0 in
    let n = length xs in
    let agree : (j : ℕ) → j < n → f (0 + j) ≡ g (0 + j) =
    λ j l.
    let b : 0 + j < length ys = omega arith in
    sym (get_or-xor_with (λ i. get_or zs i 0) 0 ys (0 + j) b ∙ ap (λ (i : ℕ). bit_xor (get_or ys (0 + j) 0) (get_or zs i 0)) (zero-add (0 + j))) in
    both_xor_with (λ i. get_or ys i 0) (λ i. get_or zs i 0) 0 xs
    ∙ sym (take_all n (xor_with f 0 xs) (le_of_eq (length-xor_with f 0 xs)))
    ∙ take-xor_with f g 0 0 xs n agree
    ∙ take_all n (xor_with g 0 xs) (le_of_eq (length-xor_with g 0 xs))

-- a turn of a loop that xors a byte string d in place, byte by byte: after i turns its first i bytes are xored
pub xor_turn : (d ks l : List ℕ) (i : ℕ) → l ≡ paste d 0 (xor d ks) i → i < length d
    → set l i (bit_xor (get_or l i 0) (get_or ks i 0)) ≡ paste d 0 (xor d ks) (i + 1)
xor_turn d ks l i e h =
    let s : List ℕ = xor d ks in
    let f : ℕ → ℕ = λ j. get_or ks j 0 in
    let ls : length s ≡ length d = length-xor d ks in
    let z : i ≡ 0 + i = omega arith in
    paste_turn d 0 s l i i _ e z h (omega arith)
    (ap₂ (λ (x y : ℕ). bit_xor x (f y)) (paste_next d 0 s l i i e z (omega arith) (omega arith)) z
    ∙ sym (get_or-xor_with f 0 d i h))

-- after the last turn
pub xor_done : (d ks : List ℕ) (i : ℕ) → i ≡ length d → paste d 0 (xor d ks) i ≡ xor d ks
xor_done d ks i e =
    let ls : length (xor d ks) ≡ length d = length-xor d ks in
    let le : i ≡ length (xor d ks) = omega arith in
    ap (paste d 0 (xor d ks)) le ∙ paste_all d 0 (xor d ks) (omega arith)
