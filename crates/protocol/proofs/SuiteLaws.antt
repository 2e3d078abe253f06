-- The suite: each part by the definition of its own crate, and what is relied on of it.
-- Assumes nothing.
use mathlib.Core.Path.{◌≡◌, refl}
use mathlib.Core.Bool.{Bool, true, false, cond}
use mathlib.Core.Option.{some}
use Prim.Native.Nat.{ℕ, ◌<◌, ◌≤◌}
use lib.Dec.{lit≤}
use lib.ListN.{length, take}
use Rattle.aes.specs.BlockCipher.{expanded_key}
use Rattle.aes.proofs.Lengths.{length-cipher}
use Rattle.sha_2.specs.Sha2.{hash}
use Rattle.sha_2.specs.Sha512 as sha2
use Rattle.sha_2.specs.Sha256.{sha256}
use Rattle.sha_2.proofs.Lengths.{length-hash}
use Rattle.hmac.specs.Hmac.{hmac}
use Rattle.kdf.specs.CounterMode.{derive_sha256}
use Rattle.kdf.proofs.CounterModeLaws.{of-bytes, length_derived}
use Rattle.cmac.specs.Cmac as rfc4493
use Rattle.cmac.proofs.Lengths.{length-cmac}
use Rattle.ccm.proofs.CcmLaws as ccm-laws
use Rattle.gcm.proofs.GcmLaws as gcm-laws
use Rattle.protocol.specs.Bytes.{Bytes}
use Rattle.protocol.specs.Connection.{is_gcm, cipher_key_bytes}
use Rattle.protocol.specs.Keys.{derivation_input}
use Rattle.protocol.specs.Sound.{Sound}
use Rattle.protocol.specs.Ciphers.{aes, ccm_nonce, gcm_nonce, Cipher, aes_ccm, aes_gcm, cipher_of}
use Rattle.protocol.specs.Suite.{suite, sha512, kdf, cmac}

-- ---- each part is what its own crate defines

pub sha512_is : (m : Bytes) → sha512 m ≡ hash sha2.sha512 m
unfolding suite
sha512_is m = refl

pub kdf_is : (n : ℕ) (key label context : Bytes) → kdf n key label context ≡ derive_sha256 n key label context
unfolding suite
kdf_is n key label context = refl

-- each size of key is within one block
one_block : (wide : Bool) → (0 < cipher_key_bytes wide) × (cipher_key_bytes wide ≤ 32)
one_block true = (lit≤ tt, lit≤ tt)
one_block false = (lit≤ tt, lit≤ tt)

-- "the first 16 bytes of HMAC-SHA-256 .. over: 00 00 00 01, label, 00, context, 00 00 00 80", or the first 32 with the other closing length
pub kdf-of_document : (wide : Bool) (key label context : Bytes)
    → kdf (cipher_key_bytes wide) key label context ≡ take (cipher_key_bytes wide) (hmac sha256 key (derivation_input (cipher_key_bytes wide) label context))
unfolding suite derivation_input
kdf-of_document wide key label context = of-bytes (cipher_key_bytes wide) (one_block wide).0 (one_block wide).1 key label context

pub cmac_is : (key m : Bytes) → cmac key m ≡ rfc4493.cmac (aes key) m
unfolding suite
cmac_is key m = refl

-- ---- what is relied on

-- of one cipher
record SoundCipher (x : Cipher) : Type 0 where
  tag-length : (key nonce auth p : Bytes) → length (x.tag key nonce auth p) ≡ 16
  encrypt-length : (key nonce auth p : Bytes) → length (x.encrypt key nonce auth p) ≡ length p
  decrypts : (key nonce auth p : Bytes) → x.decrypt key nonce auth (x.tag key nonce auth p) (x.encrypt key nonce auth p) ≡ some p
  encrypts-again : (key nonce auth t body p : Bytes) → x.decrypt key nonce auth t body ≡ some p → x.encrypt key nonce auth p ≡ body

ccm_sound : SoundCipher aes_ccm
ccm_sound =
    record {
      tag-length = λ key nonce auth p. ccm-laws.length-tag (aes key) (λ x. length-cipher _ (expanded_key key) x) 4 16 (ccm_nonce nonce) auth p (lit≤ tt);
      encrypt-length = λ key nonce auth p. ccm-laws.length-encrypt (aes key) 4 (ccm_nonce nonce) p;
      decrypts = λ key nonce auth p. ccm-laws.decrypts (aes key) 4 (ccm_nonce nonce) 16 auth p;
      encrypts-again = λ key nonce auth t body p e. ccm-laws.encrypts-again (aes key) 4 (ccm_nonce nonce) 16 auth t body p e;
    }

gcm_sound : SoundCipher aes_gcm
gcm_sound =
    record {
      tag-length = λ key nonce auth p. gcm-laws.length-tag (aes key) (gcm_nonce nonce) auth _;
      encrypt-length = λ key nonce auth p. gcm-laws.length-encrypt (aes key) (gcm_nonce nonce) p;
      decrypts = λ key nonce auth p. gcm-laws.decrypts (aes key) (gcm_nonce nonce) auth p;
      encrypts-again = λ key nonce auth t body p e. gcm-laws.encrypts-again (aes key) (gcm_nonce nonce) auth t body p e;
    }

cipher_sound : (n : ℕ) → SoundCipher (cipher_of n)
unfolding cipher_of
cipher_sound n = go (is_gcm n)
  where
    go : (b : Bool) → SoundCipher (cond b aes_gcm aes_ccm)
    go true = gcm_sound
    go false = ccm_sound

pub suite_sound : Sound suite
unfolding suite
suite_sound =
    record {
      hash-length = length-hash sha2.sha512;
      key_length = λ wide. length_derived (cipher_key_bytes wide) (one_block wide).0 (one_block wide).1;
      signature-length = λ key m. length-cmac (aes key) (λ x. length-cipher _ (expanded_key key) x) m;
      tag-length = λ n. (cipher_sound n).tag-length;
      encrypt-length = λ n. (cipher_sound n).encrypt-length;
      decrypts = λ n. (cipher_sound n).decrypts;
      encrypts-again = λ n. (cipher_sound n).encrypts-again;
    }
