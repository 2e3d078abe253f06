-- The tag, from what the code computes on the way.
use mathlib.Core.List.{List, ◌∷◌, ◌++◌}
use mathlib.Core.Path.{◌≡◌, sym, ap, ap₂, ◌∙◌}
use Prim.Native.Nat.{ℕ, suc, ◌+◌}
use native.Mathlib.Nat.{le_of_eq}
use lib.ListN.{length, length-append, replicate}
use lib.Seq.{take_all}
use Rattle.octets.specs.Blocks.{block_count}
use Rattle.octets.specs.Numbers.{to_big_endian}
use Rattle.octets.specs.Xor.{xor}
use Rattle.octets.proofs.NumberLaws.{length-to_big_endian}
use Rattle.cbc_mac.specs.CbcMac.{cbc_mac}
use Rattle.ccm_formatting.specs.Formatting.{flags, first_block, associated, formatted, counter_block}
use Rattle.ccm.specs.General.{mac, tag}
use Rattle.ccm_formatting.proofs.Formatted.{first-flags, over-formatted}
use Rattle.ccm.proofs.CcmLaws.{length-mac}

module _ (E : List ℕ → List ℕ) (nonce aad text : List ℕ) (hn : length nonce ≡ 11) (ha : length aad ≡ 32) where
  first-right : (first : List ℕ) → first ≡ 0x7B ∷ nonce ++ to_big_endian 4 (length text) → first ≡ first_block 4 16 nonce (length aad) (length text)
  unfolding first_block
  first-right first e = e ∙ ap (λ (x : ℕ). x ∷ nonce ++ to_big_endian 4 (length text)) (sym (ap (flags 4 16) ha ∙ first-flags))

  length-first : length (first_block 4 16 nonce (length aad) (length text)) ≡ 16
  unfolding first_block
  length-first = ap suc (length-append nonce (to_big_endian 4 (length text)) ∙ ap₂ ◌+◌ hn (length-to_big_endian 4 (length text)))

  mac-right : (first associates y0 y1 y : List ℕ)
      → first ≡ 0x7B ∷ nonce ++ to_big_endian 4 (length text)
      → associates ≡ associated aad
      → y0 ≡ cbc_mac E (replicate 16 0) first (block_count (length first))
      → y1 ≡ cbc_mac E y0 associates (block_count (length associates))
      → y ≡ cbc_mac E y1 text (block_count (length text))
      → y ≡ mac E 4 16 nonce aad text
  unfolding mac formatted
  mac-right first associates y0 y1 y ef ea e0 e1 e =
      let f = first-right first ef in
      let one : block_count (length first) ≡ 1 = ap (λ (l : List ℕ). block_count (length l)) f ∙ ap block_count length-first in
      e
      ∙ ap (λ (z : List ℕ). cbc_mac E z text (block_count (length text)))
      (e1
      ∙ ap₂ (λ (z l : List ℕ). cbc_mac E z l (block_count (length l))) (e0 ∙ ap₂ (λ (l : List ℕ) (n : ℕ). cbc_mac E (replicate 16 0) l n) f one) ea)
      ∙ sym (over-formatted (λ y x. E (xor y x)) (replicate 16 0) (first_block 4 16 nonce (length aad) (length text)) (associated aad) text length-first)

  pub tag-right : ((x : List ℕ) → length (E x) ≡ 16)
      → (first associates y0 y1 y s0 r : List ℕ)
      → first ≡ 0x7B ∷ nonce ++ to_big_endian 4 (length text)
      → associates ≡ associated aad
      → y0 ≡ cbc_mac E (replicate 16 0) first (block_count (length first))
      → y1 ≡ cbc_mac E y0 associates (block_count (length associates))
      → y ≡ cbc_mac E y1 text (block_count (length text))
      → s0 ≡ E (counter_block 4 nonce 0)
      → r ≡ xor y s0
      → r ≡ tag E 4 16 nonce aad text
  unfolding tag
  tag-right blocks first associates y0 y1 y s0 r ef ea e0 e1 e es er =
      er
      ∙ ap₂ xor
      (mac-right first associates y0 y1 y ef ea e0 e1 e ∙ sym (take_all 16 (mac E 4 16 nonce aad text) (le_of_eq (length-mac E blocks 4 16 nonce aad text))))
      (es ∙ sym (take_all 16 (E (counter_block 4 nonce 0)) (le_of_eq (blocks (counter_block 4 nonce 0)))))
