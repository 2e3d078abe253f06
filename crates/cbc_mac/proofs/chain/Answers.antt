use mathlib.Core.Path.{◌≡◌, refl, sym, ap, ap₂, ◌∙◌}
use mathlib.Core.List.{List, []}
use Prim.Native.Nat.{ℕ, suc, ◌*◌, ◌/◌}
use native.Mathlib.Numerals.{add-one}
use native.Mathlib.Omega.{arith}
use lib.ListN.{length, get_or, drop}
use Rattle.octets.specs.Blocks.{zero_padded, block_count, over_blocks}
use Rattle.octets.specs.Xor.{xor}
use Rattle.aes.specs.BlockCipher.{block_cipher}
use Rattle.cbc_mac.specs.CbcMac.{cbc_mac}
use Rattle.cbc_mac.proofs.Chunks.{chunk-block}
use Rattle.cbc_mac.proofs.chain.Goals as goal

pub loop-x-init : goal.loop-x-init
unfolding over_blocks
loop-x-init c = refl

pub loop-x-preserved : goal.loop-x-preserved
unfolding over_blocks
loop-x-preserved c =
    let a = c.args in
    let s = a.s.now in
    let j = c.loop-x.x-index in
    let n = c.as_chunks.ensures.front_len in
    let block =
    ap (λ (l : List (List ℕ)). get_or l j []) c.as_chunks.ensures.front ∙ chunk-block (length s / 16) j s (omega arith) (omega arith) in
    c.next-after.ensures ∙ ap₂ (λ (y x : List ℕ). block_cipher a.cipher.now (xor y x)) c.loop-x.invariant block
    ∙ ap (cbc_mac (block_cipher a.cipher.now) a.y s) (sym (add-one j))

pub returns-then-rest-gt0 : goal.returns-then-rest-gt0
unfolding over_blocks
returns-then-rest-gt0 c =
    let a = c.args in
    let s = a.s.now in
    let j = c.loop-x.x-index in
    let n = c.as_chunks.ensures.front_len in
    let left = c.as_chunks.ensures.back_len in
    let at : length s / 16 * 16 ≡ 16 * j = omega arith in
    let count : suc j ≡ block_count (length s) = omega arith in
    let block = c.zero_padded.ensures ∙ ap (zero_padded 16) (c.as_chunks.ensures.back ∙ ap (λ (i : ℕ). drop i s) at) in
    c.next.ensures ∙ ap₂ (λ (y x : List ℕ). block_cipher a.cipher.now (xor y x)) c.loop-x.invariant block
    ∙ ap (cbc_mac (block_cipher a.cipher.now) a.y s) count
