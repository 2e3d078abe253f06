-- Right because the gathered difference is zero exactly if each byte passed was equal; no byte decides when the loop ends.
-- Assumes nothing.
use mathlib.Core.Path.{◌≡◌}
use Prim.Native.Nat.{ℕ, ◌<◌, ◌≤◌}
use lib.ListN.{get_or}
use Rattle.compare.proofs.same_16.Given as goal

abbrev pub invariant-loop-i : goal.invariant-loop-i
invariant-loop-i l = (l.d ≡ 0 → (k : ℕ) → k < l.i → get_or l.a k 0 ≡ get_or l.b k 0) × (l.a ≡ l.b → l.d ≡ 0) × (l.i ≤ 16)
