-- SP 800-38C, 6: CCM over any block cipher E with blocks of 16 bytes, with q octets for the payload's length and t octets of tag.
use Rattle.std.specs.Prelude.{cond, List, ℕ, ◌+◌, length, replicate, take}
use Rattle.std.proofs.Math.Option.{Option, none, some}
use Rattle.octets.specs.Blocks.{block_count}
use Rattle.octets.specs.Same.{same_bytes}
use Rattle.octets.specs.Xor.{xor}
use Rattle.cbc_mac.specs.CbcMac.{cbc_mac}
use Rattle.ctr.specs.Ctr.{ctr}
use Rattle.ccm_formatting.specs.Formatting.{formatted, counter_block}

-- 6.1, steps 1 to 3: Y_r
unfoldable pub mac : (List ℕ → List ℕ) → ℕ → ℕ → List ℕ → List ℕ → List ℕ → List ℕ
mac E q t nonce aad text =
    let blocks = formatted q t nonce aad text in
    cbc_mac E (replicate 16 0) blocks (block_count (length blocks))

-- 6.1, steps 4 to 6 and 8: the tag, MSB_t(Y_r) xor MSB_t(S₀)
unfoldable pub tag : (List ℕ → List ℕ) → ℕ → ℕ → List ℕ → List ℕ → List ℕ → List ℕ
tag E q t nonce aad text = xor (take t (mac E q t nonce aad text)) (take t (E (counter_block q nonce 0)))

-- 6.1, steps 5 to 8: the payload xor S₁ S₂ .., which is also the payload of the ciphertext (6.2, steps 2 to 5)
unfoldable pub encrypt : (List ℕ → List ℕ) → ℕ → List ℕ → List ℕ → List ℕ
encrypt E q nonce text = ctr E (λ j. counter_block q nonce (1 + j)) text

-- 6.2: the payload, if the tag received is its. Step 10 compares with MSB_t(Y_r) once S₀ is taken off the tag; here both sides still have it.
-- Step 1, on a ciphertext with no payload, is the caller's, who cuts it into body and tag
unfoldable pub decrypt : (List ℕ → List ℕ) → ℕ → ℕ → List ℕ → List ℕ → List ℕ → List ℕ → Option (List ℕ)
decrypt E q t nonce aad received body =
    let text = encrypt E q nonce body in
    cond (same_bytes received (tag E q t nonce aad text)) (some text) none
