-- How long a hash value is.
-- Assumes nothing.
use mathlib.Core.Path.{◌≡◌, sym, ap₂, ◌∙◌}
use mathlib.Core.List.{List}
use Prim.Native.Nat.{ℕ, zero, suc, ◌+◌, ◌*◌}
use native.Mathlib.Nat.{zero-mul, suc-mul}
use lib.ListN.{length, get_or, length-append}
use Rattle.octets.specs.Numbers.{to_big_endian}
use Rattle.octets.proofs.NumberLaws.{length-to_big_endian}
use Rattle.sha_2.specs.Sha2.{Sha2, digest, hash}

module _ (p : Sha2) where
  length-digest : (n : ℕ) (hs : List ℕ) → length (digest p n hs) ≡ n * p.bytes
  unfolding digest
  length-digest zero hs = sym (zero-mul p.bytes)
  length-digest (suc n) hs =
      length-append (digest p n hs) (to_big_endian p.bytes (get_or hs n 0))
      ∙ ap₂ (λ (x y : ℕ). x + y) (length-digest n hs) (length-to_big_endian p.bytes (get_or hs n 0))
      ∙ sym (suc-mul n p.bytes)

  pub length-hash : (m : List ℕ) → length (hash p m) ≡ 8 * p.bytes
  unfolding hash
  length-hash m = length-digest 8 _
