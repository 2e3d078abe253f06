-- Each byte but 0, times its inverse, is 1 (FIPS 197, 4.4): tested once over all of them, by computation, and carried to each.
use mathlib.Core.Path.{◌≡◌, refl}
use mathlib.Core.Bool.{Bool}
use Prim.Native.Nat.{ℕ, zero, suc, ◌<◌}
use native.Mathlib.Nat.{le_of_suc-le-suc}
use native.Mathlib.Omega.{arith}
use lib.Dec.{T, eqb, eqb→eq}
use lib.ListN.{replicate}
use Rattle.octets.proofs.Every.{every, at}
use Rattle.rijndael.specs.Field.{IsInverse, inverse, even_powers, mul, products, xtimes}

-- k + 1, times its inverse, is 1
abbrev is_one : ℕ → ℕ → Bool
is_one k x = eqb (mul (suc k) (inverse (suc k))) 1

all_one : T (every is_one 0 (replicate 255 0))
unfolding inverse even_powers mul products xtimes
all_one = tt

of_zero : inverse 0 ≡ 0
unfolding inverse even_powers mul products xtimes
of_zero = refl

pub inverse_is : (b : ℕ) → b < 256 → IsInverse b (inverse b)
inverse_is zero h = record { product = λ p. absurd (omega arith); of_zero = λ e. of_zero }
inverse_is (suc k) h =
    record {
      product = λ p. eqb→eq (mul (suc k) (inverse (suc k))) 1 (at is_one (replicate 255 0) all_one k (le_of_suc-le-suc h));
      of_zero = λ e. absurd (omega arith);
    }
