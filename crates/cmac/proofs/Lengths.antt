-- How long a code is.
use mathlib.Core.Path.{◌≡◌, ap, ◌∙◌}
use mathlib.Core.List.{List}
use Prim.Native.Nat.{ℕ}
use native.Mathlib.Numerals.{add-one}
use lib.ListN.{length, replicate}
use Rattle.octets.specs.Blocks.{over_blocks}
use Rattle.cbc_mac.specs.CbcMac.{cbc_mac}
use Rattle.cmac.specs.Cmac.{blocks_before, formatted, cmac}

pub length-cmac : (E : List ℕ → List ℕ) → ((x : List ℕ) → length (E x) ≡ 16) → (m : List ℕ) → length (cmac E m) ≡ 16
unfolding cmac over_blocks
length-cmac E h m = ap (λ (k : ℕ). length (cbc_mac E (replicate 16 0) (formatted E m) k)) (add-one (blocks_before (length m))) ∙ h _
