-- The formatted input of SP 800-38C, appendix A.2, where the nonce has 11 bytes, the associated data 32 and the tag 16.
use mathlib.Core.List.{List, [], ◌∷◌, ◌++◌}
use mathlib.Core.Path.{◌≡◌, refl, sym, ap, ap₂, ◌∙◌}
use Prim.Native.Nat.{ℕ, ◌+◌, ◌*◌}
use native.Mathlib.Omega.{arith}
use lib.ListN.{length, length-append, replicate, set}
use lib.Seq.{paste}
use Rattle.octets.specs.Blocks.{block_count, padded, over_blocks}
use Rattle.octets.specs.Numbers.{to_big_endian}
use Rattle.octets.proofs.BlockLaws.{length-padded, over-append, over-padded}
use Rattle.octets.proofs.Paste.{paste_all}
use Rattle.ccm_formatting.specs.Formatting.{flags, associated}

-- the flags octet of the first block
pub first-flags : flags 4 16 32 ≡ 0x7B
unfolding flags
first-flags = refl

pub associated_32 : (aad : List ℕ) → length aad ≡ 32 → associated aad ≡ 0 ∷ 32 ∷ aad
unfolding associated to_big_endian
associated_32 [] h = absurd (omega arith)
associated_32 (x ∷ xs) h = ap (λ (n : ℕ). to_big_endian 2 n ++ x ∷ xs) h

-- what the code writes
pub associated-right : (aad r : List ℕ) → length aad ≡ 32 → r ≡ paste (set (replicate 34 0) 1 32) 2 aad (length aad) → r ≡ associated aad
associated-right aad r h e =
    e ∙ paste_all (set (replicate 34 0) 1 32) 2 aad (omega arith) ∙ sym (associated_32 aad h)

-- a chain over one block, and two strings filled with zeros, goes over one after the other
pub over-formatted : {A : Type 0} (f : A → List ℕ → A) (y : A) (a b c : List ℕ) → length a ≡ 16
    → over_blocks f y (a ++ padded b ++ padded c) (block_count (length (a ++ padded b ++ padded c)))
    ≡ over_blocks f (over_blocks f (over_blocks f y a 1) b (block_count (length b))) c (block_count (length c))
over-formatted {A} f y a b c h =
    let kb : ℕ = block_count (length b) in
    let kc : ℕ = block_count (length c) in
    let ab : List ℕ = a ++ padded b in
    let lab : length ab ≡ 16 * (1 + kb) = length-append a (padded b) ∙ ap₂ ◌+◌ h (length-padded b) ∙ omega arith in
    let l : length (ab ++ padded c) ≡ 16 * (1 + kb) + 16 * kc = length-append ab (padded c) ∙ ap₂ ◌+◌ lab (length-padded c) in
    let n : block_count (length (ab ++ padded c)) ≡ 1 + kb + kc = omega arith in
    ap (over_blocks f y (ab ++ padded c)) n
    ∙ over-append f y ab (padded c) (1 + kb) kc lab
    ∙ over-padded f (over_blocks f y ab (1 + kb)) c
    ∙ ap (λ (z : A). over_blocks f z c kc) (over-append f y a (padded b) 1 kb h ∙ over-padded f (over_blocks f y a 1) b)
