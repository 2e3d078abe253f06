-- The last block as the code pads it.
use mathlib.Core.Path.{◌≡◌, refl, sym, ap, ap₂, ◌∙◌}
use mathlib.Core.List.{List, [], ◌∷◌, ◌++◌}
use Prim.Native.Nat.{ℕ, zero, suc, ◌≤◌, ◌<◌}
use native.Mathlib.Omega.{arith}
use native.Mathlib.Nat.{not-suc-le-zero, le_of_suc-le-suc}
use borrow.Author.Tests.{eq-eqb, ne_eqb}
use lib.ListN.{length, set}
use Rattle.octets.specs.Blocks.{zero_padded}
use Rattle.octets.specs.Xor.{xor}
use Rattle.octets.proofs.BlockLaws.{zero_padded_exact}
use Rattle.cmac.specs.Cmac.{k1, k2, last_block}

-- a byte behind the last
pub padded_with : (n : ℕ) (part : List ℕ) (v : ℕ) → length part < n → set (zero_padded n part) (length part) v ≡ zero_padded n (part ++ (v ∷ []))
unfolding zero_padded
padded_with zero part v h = absurd (not-suc-le-zero h)
padded_with (suc n) [] v h = refl
padded_with (suc n) (x ∷ part) v h = ap (λ (l : List ℕ). x ∷ l) (padded_with n part v (le_of_suc-le-suc h))

module _ (E : List ℕ → List ℕ) (part block : List ℕ) (eb : block ≡ zero_padded 16 part) where
  pub whole-block : (key r : List ℕ) → length part ≡ 16 → key ≡ k1 E → r ≡ xor block key → r ≡ last_block E part
  unfolding last_block
  whole-block key r l ek er =
      er ∙ ap₂ xor (eb ∙ zero_padded_exact 16 part l) ek ∙ sym (rw (eq-eqb (length part) 16 l))

  pub padded-block : (key r : List ℕ) → length part ≤ 16 → (length part ≡ 16 → ⊥) → key ≡ k2 E → r ≡ xor (set block (length part) 0x80) key
      → r ≡ last_block E part
  unfolding last_block
  padded-block key r l d ek er =
      let short : length part < 16 = omega (arith, l, d) in
      er
      ∙ ap₂ xor (ap (λ (b : List ℕ). set b (length part) 0x80) eb ∙ padded_with 16 part 0x80 short) ek
      ∙ sym (rw (ne_eqb (length part) 16 d))
