-- Laws of CCM that the layer above cites: lengths, and that decryption gives back what was encrypted.
use mathlib.Core.List.{List}
use mathlib.Core.Option.{some}
use mathlib.Core.Path.{◌≡◌, refl, sym, ap, ◌∙◌}
use Prim.Native.Nat.{ℕ, zero, suc, ◌+◌, ◌≤◌}
use native.Mathlib.Omega.{arith}
use lib.ListN.{length, replicate, take}
use lib.Seq.{length-take-le}
use Rattle.octets.specs.Blocks.{over_blocks}
use Rattle.octets.specs.Same.{same_bytes}
use Rattle.octets.proofs.MaybeLaws.{given_by}
use Rattle.octets.proofs.SameLaws.{same_self}
use Rattle.octets.proofs.XorWith.{length-xor}
use Rattle.cbc_mac.specs.CbcMac.{cbc_mac}
use Rattle.ctr.proofs.CtrLaws.{length-ctr, ctr_twice}
use Rattle.ccm_formatting.specs.Formatting.{formatted, counter_block}
use Rattle.ccm.specs.General.{mac, tag, encrypt, decrypt}

module _ (E : List ℕ → List ℕ) where
  module _ (blocks : (x : List ℕ) → length (E x) ≡ 16) where
    length-cbc_mac : (y xs : List ℕ) (n : ℕ) → length y ≡ 16 → length (cbc_mac E y xs n) ≡ 16
    unfolding over_blocks
    length-cbc_mac y xs zero h = h
    length-cbc_mac y xs (suc n) h = blocks _

    pub length-mac : (q t : ℕ) (nonce aad text : List ℕ) → length (mac E q t nonce aad text) ≡ 16
    unfolding mac
    length-mac q t nonce aad text = length-cbc_mac (replicate 16 0) (formatted q t nonce aad text) _ refl

    pub length-tag : (q t : ℕ) (nonce aad text : List ℕ) → t ≤ 16 → length (tag E q t nonce aad text) ≡ t
    unfolding tag
    length-tag q t nonce aad text h =
        let l = length-mac q t nonce aad text in
        length-xor (take t (mac E q t nonce aad text)) (take t (E (counter_block q nonce 0)))
        ∙ length-take-le t (mac E q t nonce aad text) (omega arith)

  module _ (q : ℕ) (nonce : List ℕ) where
    pub length-encrypt : (text : List ℕ) → length (encrypt E q nonce text) ≡ length text
    unfolding encrypt
    length-encrypt text = length-ctr E (λ j. counter_block q nonce (1 + j)) text

    pub encrypt_twice : (text : List ℕ) → encrypt E q nonce (encrypt E q nonce text) ≡ text
    unfolding encrypt
    encrypt_twice text = ctr_twice E (λ j. counter_block q nonce (1 + j)) text

    module _ (t : ℕ) (aad : List ℕ) where
      -- what was encrypted is decrypted under its tag
      pub decrypts : (text : List ℕ) → decrypt E q t nonce aad (tag E q t nonce aad text) (encrypt E q nonce text) ≡ some text
      unfolding decrypt
      decrypts text = rw (encrypt_twice text, same_self (tag E q t nonce aad text))

      -- what was decrypted, encrypted again, is what was received
      pub encrypts-again : (received body text : List ℕ) → decrypt E q t nonce aad received body ≡ some text → encrypt E q nonce text ≡ body
      unfolding decrypt
      encrypts-again received body text e =
          ap (encrypt E q nonce) (sym (given_by (same_bytes received (tag E q t nonce aad (encrypt E q nonce body))) (encrypt E q nonce body) text e).1)
          ∙ encrypt_twice body
