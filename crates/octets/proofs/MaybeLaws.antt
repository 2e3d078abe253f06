-- An answer that is there only where a test passed.
-- Assumes nothing.
use mathlib.Core.Bool.{Bool, true, false, cond}
use mathlib.Core.List.{List}
use mathlib.Core.Option.{none, some}
use mathlib.Core.Path.{◌≡◌, refl}
use Prim.Native.Nat.{ℕ}
use native.Mathlib.Omega.{arith}

-- where there is one, the test passed, and it is what the test guards
pub given_by : (b : Bool) (p q : List ℕ) → cond b (some p) none ≡ some q → (b ≡ true) × (p ≡ q)
given_by true p q e = (refl, cc)
given_by false p q e = absurd (let z : ◌≡◌ {A = ℕ} 0 1 = cc in omega arith)
