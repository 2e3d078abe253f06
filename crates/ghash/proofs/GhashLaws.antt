-- GHASH of joined and of padded strings.
use mathlib.Core.Path.{◌≡◌, ap, ◌∙◌}
use mathlib.Core.List.{List, ◌++◌}
use Prim.Native.Nat.{ℕ, ◌+◌, ◌*◌}
use native.Mathlib.Omega.{arith}
use lib.ListN.{length, length-append}
use Rattle.octets.specs.Blocks.{block_count, padded, over_blocks}
use Rattle.octets.proofs.BlockLaws.{over-append, over-padded, length-padded}
use Rattle.ghash.specs.Ghash.{step, ghash_from}

module _ (h y : ℕ) where
  -- whole blocks a, then b
  pub ghash-append : (a b : List ℕ) (n : ℕ) → length a ≡ 16 * n → ghash_from h y (a ++ b) ≡ ghash_from h (ghash_from h y a) b
  unfolding ghash_from
  ghash-append a b n e =
      let l = length-append a b in
      let m : block_count (length (a ++ b)) ≡ n + block_count (length b) = omega arith in
      let k : n ≡ block_count (length a) = omega arith in
      ap (over_blocks (step h) y (a ++ b)) m
      ∙ over-append (step h) y a b n (block_count (length b)) e
      ∙ ap (λ (i : ℕ). over_blocks (step h) (over_blocks (step h) y a i) b (block_count (length b))) k

  -- zeros to the end of the last block change nothing
  pub ghash-padded : (xs : List ℕ) → ghash_from h y (padded xs) ≡ ghash_from h y xs
  unfolding ghash_from
  ghash-padded xs =
      let l = length-padded xs in
      let m : block_count (length (padded xs)) ≡ block_count (length xs) = omega arith in
      ap (over_blocks (step h) y (padded xs)) m ∙ over-padded (step h) y xs
