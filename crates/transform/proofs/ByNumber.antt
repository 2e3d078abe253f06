-- What GCM and CCM promise is what the cipher of the number does.
-- Assumes nothing.
use mathlib.Core.Bool.{Bool, true, false}
use mathlib.Core.Option.{get_or}
use mathlib.Core.Path.{◌≡◌, sym, ◌∙◌}
use Prim.Native.Nat.{ℕ}
use Rattle.octets.specs.Maybe.{is_some}
use Rattle.ccm.specs.Ccm as ccm
use Rattle.ccm.specs.Clauses as ccm-calls
use Rattle.gcm.specs.Gcm as gcm
use Rattle.gcm.specs.Clauses as gcm-calls
use Rattle.protocol.specs.Bytes.{Bytes}
use Rattle.protocol.specs.Connection.{is_gcm}
use Rattle.protocol.specs.Ciphers.{Cipher, aes, aes_ccm, aes_gcm, ccm_nonce, gcm_nonce, cipher_of}
use Rattle.transform.specs.Steps.{Enciphered, Deciphered}

gcm_named : (n : ℕ) (b : Bool) → b ≡ is_gcm n → b ≡ true → cipher_of n ≡ aes_gcm
unfolding cipher_of
gcm_named n b e t = rw (sym e ∙ t)

ccm_named : (n : ℕ) (b : Bool) → b ≡ is_gcm n → b ≡ false → cipher_of n ≡ aes_ccm
unfolding cipher_of
ccm_named n b e t = rw (sym e ∙ t)

-- what the cipher x does, the cipher of its number does
module _ (n : ℕ) (x : Cipher) (named : cipher_of n ≡ x) (key nonce auth : Bytes) where
  applied : (text text' : Bytes) → text' ≡ x.encrypt key nonce auth text → text' ≡ (cipher_of n).encrypt key nonce auth text
  applied text text' e = rw named e

  sealed : (text text' r : Bytes) → text' ≡ x.encrypt key nonce auth text → r ≡ x.tag key nonce auth text
      → Enciphered (cipher_of n) key nonce auth text text' r
  sealed text text' r e t = record { bytes = rw named e; tagged = rw named t }

  opened : (received body body' : Bytes) (r : Bool) → r ≡ is_some (x.decrypt key nonce auth received body)
      → body' ≡ get_or (x.decrypt key nonce auth received body) body → Deciphered (cipher_of n) key nonce auth received body body' r
  opened received body body' r t e = record { right = rw named t; bytes = rw named e }

module _ (n : ℕ) (key nonce auth iv : Bytes) (b : Bool) (told : b ≡ is_gcm n) where
  module _ (yes : b ≡ true) (ei : iv ≡ gcm_nonce nonce) where
    pub gcm_applied : (text text' : Bytes) → text' ≡ gcm.encrypt (aes key) iv text → text' ≡ (cipher_of n).encrypt key nonce auth text
    gcm_applied text text' e = applied n aes_gcm (gcm_named n b told yes) key nonce auth text text' (rw ei at e)

    pub gcm_sealed : (text text' r : Bytes) → gcm-calls.Sealed (aes key) iv auth text text' r → Enciphered (cipher_of n) key nonce auth text text' r
    gcm_sealed text text' r s = let s' = rw ei at s in sealed n aes_gcm (gcm_named n b told yes) key nonce auth text text' r s'.bytes s'.tagged

    pub gcm_opened : (received body body' : Bytes) (r : Bool) → gcm-calls.Opened (aes key) iv auth received body body' r
        → Deciphered (cipher_of n) key nonce auth received body body' r
    gcm_opened received body body' r o =
        let o' = rw ei at o in
        opened n aes_gcm (gcm_named n b told yes) key nonce auth received body body' r o'.right o'.bytes

  module _ (no : b ≡ false) (ei : iv ≡ ccm_nonce nonce) where
    pub ccm_applied : (text text' : Bytes) → text' ≡ ccm.encrypt (aes key) iv text → text' ≡ (cipher_of n).encrypt key nonce auth text
    ccm_applied text text' e = applied n aes_ccm (ccm_named n b told no) key nonce auth text text' (rw ei at e)

    pub ccm_sealed : (text text' r : Bytes) → ccm-calls.Sealed (aes key) iv auth text text' r → Enciphered (cipher_of n) key nonce auth text text' r
    ccm_sealed text text' r s = let s' = rw ei at s in sealed n aes_ccm (ccm_named n b told no) key nonce auth text text' r s'.bytes s'.tagged

    pub ccm_opened : (received body body' : Bytes) (r : Bool) → ccm-calls.Opened (aes key) iv auth received body body' r
        → Deciphered (cipher_of n) key nonce auth received body body' r
    ccm_opened received body body' r o =
        let o' = rw ei at o in
        opened n aes_ccm (ccm_named n b told no) key nonce auth received body body' r o'.right o'.bytes
