-- `same_bytes` decides equality.
-- Assumes nothing.
use mathlib.Core.Path.{◌≡◌, refl, sym, ap, ap₂, ◌∙◌}
use mathlib.Core.Bool.{Bool, true, false}
use mathlib.Core.List.{List, [], ◌∷◌}
use Prim.Native.Nat.{ℕ}
use native.Mathlib.Omega.{arith}
use borrow.Author.Tests.{eq-eqb, eqb-true}
use lib.Bits.{bit_xor, bit_or, or_add_and, and_le_l, and_le_r}
use lib.Dec.{eqb}
use Rattle.octets.proofs.BoolLaws.{and_true}
use Rattle.octets.specs.Same.{same_bytes}
use Rattle.octets.proofs.BitXor.{xor_undo}

pub same_self : (xs : List ℕ) → same_bytes xs xs ≡ true
unfolding same_bytes
same_self [] = refl
same_self (x ∷ xs) = rw (eq-eqb x x refl) (same_self xs)

pub same_equal : (xs ys : List ℕ) → same_bytes xs ys ≡ true → xs ≡ ys
unfolding same_bytes
same_equal [] [] e = refl
same_equal [] (y ∷ ys) e = absurd (let z : ◌≡◌ {A = ℕ} 0 1 = cc in omega arith)
same_equal (x ∷ xs) [] e = absurd (let z : ◌≡◌ {A = ℕ} 0 1 = cc in omega arith)
same_equal (x ∷ xs) (y ∷ ys) e =
    let b = and_true (eqb x y) (same_bytes xs ys) e in
    ap₂ (λ (a : ℕ) (l : List ℕ). a ∷ l) (eqb-true x y b.0) (same_equal xs ys b.1)

-- two tests that hold together are one
pub decided : (r s : Bool) → (r ≡ true → s ≡ true) → (s ≡ true → r ≡ true) → r ≡ s
decided true s f g = sym (f refl)
decided false true f g = g refl
decided false false f g = refl

-- the differences of all bytes, gathered by `or`, are zero only where each is
pub or_zero : (a b : ℕ) → bit_or a b ≡ 0 → (a ≡ 0) × (b ≡ 0)
or_zero a b e = omega (arith, or_add_and a b, and_le_l a b, and_le_r a b)

pub xor-zero : (a b : ℕ) → bit_xor a b ≡ 0 → a ≡ b
xor-zero a b e = sym (xor_undo a b) ∙ ap (λ (n : ℕ). bit_xor n b) e
