-- Right because a key of 16 bytes is its first 16, and one of 32 is its two halves.
use mathlib.Core.List.{List, ◌∷◌}
use mathlib.Core.Path.{◌∙◌, ap, ap₂}
use Prim.Native.Nat.{ℕ}
use native.Mathlib.Nat.{le_of_eq}
use native.Mathlib.Omega.{arith}
use lib.ListN.{length, drop, replicate, length-drop}
use lib.Seq.{take_all}
use Rattle.aes_key_expansion.specs.KeySizes.{fifteen}
use Rattle.aes_key_expansion.proofs.KeyLengths.{at_least_16}
use Rattle.aes_key_expansion.proofs.own_keys.Goals as goal

pub bytes_at-requires : goal.bytes_at-requires
bytes_at-requires c = let h = at_least_16 (length c.args.key.now) c.requires in (omega arith, omega arith)

pub returns-then-key-eq32-clause-long : goal.returns-then-key-eq32-clause-long
unfolding fifteen
returns-then-key-eq32-clause-long c =
    λ h.
    let key = c.args.key.now in
    let l = length-drop 16 key in
    ap₂ (λ (a b : List ℕ). a ∷ b ∷ replicate 13 (replicate 16 0)) c.bytes_at.ensures
    (c.bytes_at-then-key-eq32.ensures ∙ take_all 16 (drop 16 key) (omega arith))

pub returns-else-key-eq32-clause-short : goal.returns-else-key-eq32-clause-short
unfolding fifteen
returns-else-key-eq32-clause-short c =
    λ h. ap (λ (a : List ℕ). a ∷ replicate 14 (replicate 16 0)) (c.bytes_at.ensures ∙ take_all 16 c.args.key.now (le_of_eq h))
