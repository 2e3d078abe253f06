-- Numbers in decimal: the fewest digits that hold a number are as many as the definition counts.
-- Assumes nothing.
use mathlib.Core.Path.{◌≡◌, refl, sym, ap, subst, ◌∙◌}
use mathlib.Core.Bool.{Bool, true, false, cond}
use mathlib.Core.List.{[], ◌∷◌}
use Prim.Native.Nat.{ℕ, zero, suc, ◌+◌, ◌-◌, ◌*◌, ◌/◌, ◌%◌, ◌^◌, ◌<◌, ◌≤◌}
use native.Mathlib.Nat.{pow-suc, one-le-pow, pow-le-pow_right}
use native.Mathlib.Omega.{arith}
use borrow.Author.Tests.{lt-ltb, le-ltb, leb-true, leb-false}
use lib.Dec.{leb, ltb}
use lib.ListN.{length, length-append}
use Rattle.io.specs.Digits.{hex_digit_ascii, last_digits, IsDigitCount}
use Rattle.program_text.specs.Lines.{places_in, decimal}

pub length_digits : (k n : ℕ) → length (last_digits 10 k n) ≡ k
length_digits zero n = refl
length_digits (suc k) n = length-append (last_digits 10 k (n / 10)) (hex_digit_ascii (n % 10) ∷ []) ∙ (let h = length_digits k (n / 10) in omega arith)

places_most : (k n : ℕ) → places_in k n ≤ k + 1
unfolding places_in
places_most zero n = omega arith
places_most (suc k) n = go (ltb n 10) (places_most k (n / 10))
  where
    go : (t : Bool) → places_in k (n / 10) ≤ k + 1 → cond t 1 (places_in k (n / 10) + 1) ≤ suc k + 1
    go true h = omega arith
    go false h = omega arith

pub length-decimal : (n : ℕ) → length (decimal n) ≤ 20
unfolding decimal
length-decimal n = let l = length_digits (places_in 19 n) n in let m = places_most 19 n in omega arith

div_lt : (n q : ℕ) → n < q * 10 → n / 10 < q
div_lt n q h = omega arith

le_div : (n q : ℕ) → q * 10 ≤ n → q ≤ n / 10
le_div n q h = omega arith

-- the number without its last digit
without : (n m : ℕ) → IsDigitCount 10 1 n (suc (suc m)) → IsDigitCount 10 1 (n / 10) (suc m)
without n m f =
    let e : suc (suc m) - 1 ≡ suc m = omega arith in
    let d : suc m - 1 ≡ m = omega arith in
    let below : n < 10 ^ suc m * 10 = subst (λ (x : ℕ). n < x) (pow-suc 10 (suc m)) f.1 in
    let least : 10 ^ suc m ≤ n = subst (λ (x : ℕ). 10 ^ x ≤ n) e (f.2 (omega arith)) in
    let least' : 10 ^ m * 10 ≤ n = subst (λ (x : ℕ). x ≤ n) (pow-suc 10 m) least in
    (omega arith, div_lt n (10 ^ suc m) below, λ h. subst (λ (x : ℕ). 10 ^ x ≤ n / 10) (sym d) (le_div n (10 ^ m) least'))

-- two digits or more: ten or more
ten : (n m : ℕ) → IsDigitCount 10 1 n (suc (suc m)) → 10 ≤ n
ten n m f =
    let e : suc (suc m) - 1 ≡ suc m = omega arith in
    let least : 10 ^ suc m ≤ n = subst (λ (x : ℕ). 10 ^ x ≤ n) e (f.2 (omega arith)) in
    let least' : 10 ^ m * 10 ≤ n = subst (λ (x : ℕ). x ≤ n) (pow-suc 10 m) least in
    let one : 1 ≤ 10 ^ m = one-le-pow m 10 (omega arith) in
    omega arith

few : (k n r : ℕ) → IsDigitCount 10 1 n r → r ≤ k + 1 → r ≡ places_in k n
unfolding places_in
few zero n r f h = omega (arith, f.0)
few (suc k) n zero f h = absurd (omega (arith, f.0))
few (suc k) n (suc zero) f h = sym (rw (lt-ltb n 10 f.1))
few (suc k) n (suc (suc m)) f h =
    let again : suc m ≡ places_in k (n / 10) = few k (n / 10) (suc m) (without n m f) (omega arith) in
    let more : suc (suc m) ≡ places_in k (n / 10) + 1 = omega arith in
    more ∙ sym (rw (le-ltb n 10 (ten n m f)))

pub twenty : (n r : ℕ) → n < 18446744073709551616 → IsDigitCount 10 1 n r → r ≤ 20
twenty n r h f = go (leb r 20) refl
  where
    go : (t : Bool) → leb r 20 ≡ t → r ≤ 20
    go true e = leb-true r 20 e
    go false e =
        let far : 20 < r = leb-false r 20 e in
        let low : 10 ^ (r - 1) ≤ n = f.2 (omega arith) in
        let up : 10 ^ 20 ≤ 10 ^ (r - 1) = pow-le-pow_right (omega arith) {i = 20} {j = r - 1} (omega arith) in
        let v : 10 ^ 20 ≡ 100000000000000000000 = refl in
        absurd (omega arith)

pub decimal_is : (n k : ℕ) → n < 18446744073709551616 → IsDigitCount 10 1 n k → last_digits 10 k n ≡ decimal n
unfolding decimal
decimal_is n k h f = let t = twenty n k h f in ap (λ (j : ℕ). last_digits 10 j n) (few 19 n k f (omega arith))
