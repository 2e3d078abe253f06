-- The ciphers by their number: RULES 1 and 6. AES-CCM and AES-GCM, each said once over the size of the key, under one signature;
-- the nonce is the beginning of a field of 16 bytes.
-- Assumes nothing.
use Rattle.std.specs.Prelude.{cond, ℕ, take}
use Rattle.std.proofs.Math.Option.{Option}
use Rattle.aes.specs.BlockCipher.{block_cipher, expanded_key}
use Rattle.ccm.specs.Ccm as ccm
use Rattle.gcm.specs.Gcm as gcm
use Rattle.protocol.specs.Bytes.{Bytes}
use Rattle.protocol.specs.Connection.{is_gcm}

-- AES under a key of 16 or 32 bytes
abbrev pub aes : Bytes → Bytes → Bytes
aes key = block_cipher (expanded_key key)

-- RULES 6: "11 nonce bytes", "12 nonce bytes": the first of the header's Nonce, whose unused end is ignored
abbrev pub ccm_nonce : Bytes → Bytes
ccm_nonce field = take 11 field

abbrev pub gcm_nonce : Bytes → Bytes
gcm_nonce field = take 12 field

-- one cipher: of key, nonce field, authenticated data and text; decrypting takes the tag received too
pub record Cipher : Type 0 where
  pub encrypt : Bytes → Bytes → Bytes → Bytes → Bytes
  pub tag : Bytes → Bytes → Bytes → Bytes → Bytes
  pub decrypt : Bytes → Bytes → Bytes → Bytes → Bytes → Option Bytes

abbrev pub aes_ccm : Cipher
aes_ccm =
    record {
      encrypt = λ key nonce auth p. ccm.encrypt (aes key) (ccm_nonce nonce) p;
      tag = λ key nonce auth p. ccm.tag (aes key) (ccm_nonce nonce) auth p;
      decrypt = λ key nonce auth t body. ccm.decrypt (aes key) (ccm_nonce nonce) auth t body;
    }

-- GCM's tag is that of the ciphertext
abbrev pub aes_gcm : Cipher
aes_gcm =
    record {
      encrypt = λ key nonce auth p. gcm.encrypt (aes key) (gcm_nonce nonce) p;
      tag = λ key nonce auth p. gcm.tag (aes key) (gcm_nonce nonce) auth (gcm.encrypt (aes key) (gcm_nonce nonce) p);
      decrypt = λ key nonce auth t body. gcm.decrypt (aes key) (gcm_nonce nonce) auth t body;
    }

-- "AES-128-CCM (cipher 1) and AES-128-GCM (cipher 2)", "cipher 3 (AES-256-CCM) and 4 (AES-256-GCM)": the key has the size. Whoever
-- asks has made sure that it is one of the four
unfoldable pub cipher_of : ℕ → Cipher
cipher_of n = cond (is_gcm n) aes_gcm aes_ccm
