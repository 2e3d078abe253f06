-- The two key sizes.
use mathlib.Core.Bool.{Bool, true, false, ◌||◌}
use mathlib.Core.Path.{◌≡◌, refl, ap, ◌∙◌}
use Prim.Native.Nat.{ℕ, ◌≤◌}
use native.Mathlib.Omega.{arith}
use borrow.Author.Tests.{eqb-true}
use lib.Dec.{eqb}
use Rattle.aes_key_expansion.specs.KeySizes.{is_key_length}

pub is_16 : is_key_length 16 ≡ true
unfolding is_key_length
is_16 = refl

pub is_32 : is_key_length 32 ≡ true
unfolding is_key_length
is_32 = refl

pub of_length_16 : (n : ℕ) → n ≡ 16 → is_key_length n ≡ true
of_length_16 n h = ap is_key_length h ∙ is_16

either : {P : Type 0} (a b : Bool) → (a || b) ≡ true → (a ≡ true → P) → (b ≡ true → P) → P
either true b h p q = p refl
either false b h p q = q h

pub of_sizes : {P : Type 0} (n : ℕ) → is_key_length n ≡ true → (n ≡ 16 → P) → (n ≡ 32 → P) → P
unfolding is_key_length
of_sizes n h p q = either (eqb n 16) (eqb n 32) h (λ e. p (eqb-true n 16 e)) (λ e. q (eqb-true n 32 e))

pub at_least_16 : (n : ℕ) → is_key_length n ≡ true → 16 ≤ n
at_least_16 n h = of_sizes n h (λ e. omega arith) (λ e. omega arith)
