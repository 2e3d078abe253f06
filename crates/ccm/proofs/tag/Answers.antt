-- Right because the three chains, one after the other, go over the formatted input.
use mathlib.Core.List.{List, ◌++◌}
use mathlib.Core.Path.{ap, ◌∙◌}
use Prim.Native.Nat.{ℕ}
use lib.ListN.{length}
use Rattle.octets.specs.Numbers.{to_big_endian}
use Rattle.aes.proofs.Lengths.{length-block_cipher}
use Rattle.aes.specs.BlockCipher.{block_cipher}
use Rattle.ccm.proofs.TagParts.{tag-right}
use Rattle.ccm.proofs.tag.Goals as goal

pub returns : goal.returns
returns c =
    let a = c.args in
    let E = block_cipher a.cipher.now in
    tag-right E a.nonce a.aad a.text.now c.well_formed.1.0.1.0.1 c.well_formed.1.1.0.1.0.1
    (length-block_cipher a.cipher.now)
    _ _ _ _ _ _ _
    (c.counter_block-first.ensures ∙ ap (λ (p : List ℕ). p ++ to_big_endian 4 (length a.text.now)) c.flags_and_nonce.ensures)
    c.with_length-associated.ensures c.chain-y0.ensures c.chain-y1.ensures c.chain-y.ensures
    (c.encrypt_counter-s0.ensures ∙ ap (λ (p : List ℕ). E (p ++ to_big_endian 4 0)) c.flags_and_nonce-2.ensures)
    c.xor.ensures
