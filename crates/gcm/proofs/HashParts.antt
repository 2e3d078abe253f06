-- The code hashes the associated data, the ciphertext and the lengths one after the other: that is the hash of one string.
use mathlib.Core.Path.{◌≡◌, sym, ap, ◌∙◌}
use mathlib.Core.List.{List, ◌++◌, append_assoc}
use Prim.Native.Nat.{ℕ, ◌*◌}
use lib.ListN.{length}
use Rattle.octets.specs.Numbers.{to_big_endian}
use Rattle.octets.specs.Blocks.{block_count, padded}
use Rattle.octets.proofs.BlockLaws.{length-padded}
use Rattle.ghash.specs.Ghash.{ghash, ghash_from}
use Rattle.ghash.proofs.GhashLaws.{ghash-append, ghash-padded}
use Rattle.gcm.specs.Gcm.{hash_input}

pub hash_parts : (h : ℕ) (aad body : List ℕ) (y₀ y z s : ℕ)
    → y₀ ≡ 0
    → y ≡ ghash_from h y₀ aad
    → z ≡ ghash_from h y body
    → s ≡ ghash_from h z (to_big_endian 8 (8 * length aad) ++ to_big_endian 8 (8 * length body))
    → s ≡ ghash h (hash_input aad body)
unfolding hash_input
hash_parts h aad body y₀ y z s e₀ ey ez es =
    let a : List ℕ = padded aad in
    let b : List ℕ = padded body in
    let m : List ℕ = to_big_endian 8 (8 * length aad) in
    let n : List ℕ = to_big_endian 8 (8 * length body) in
    let l : List ℕ = m ++ n in
    let first : ghash_from h 0 a ≡ y = ghash-padded h 0 aad ∙ sym (ey ∙ ap (λ (n : ℕ). ghash_from h n aad) e₀) in
    let second : ghash_from h y b ≡ z = ghash-padded h y body ∙ sym ez in
    sym (ap (ghash h) (append_assoc (a ++ b) m n ∙ append_assoc a b l)
    ∙ ghash-append h 0 a (b ++ l) (block_count (length aad)) (length-padded aad)
    ∙ ap (λ (n : ℕ). ghash_from h n (b ++ l)) first
    ∙ ghash-append h y b l (block_count (length body)) (length-padded body)
    ∙ ap (λ (n : ℕ). ghash_from h n l) second
    ∙ sym es)
