-- What is relied on of the primitives, whatever they are: lengths, and that decrypting what was encrypted gives it back.
-- Assumes nothing.
use Rattle.std.specs.Prelude.{◌≡◌, Bool, ℕ, length}
use Rattle.std.proofs.Math.Option.{some}
use Rattle.protocol.specs.Bytes.{Bytes}
use Rattle.protocol.specs.Connection.{cipher_key_bytes}
use Rattle.protocol.specs.Transform.{Primitives}

pub record Sound (P : Primitives) : Type 0 where
  pub hash-length : (s : Bytes) → length (P.sha512 s) ≡ 64
  pub key_length : (wide : Bool) (key label context : Bytes) → length (P.kdf (cipher_key_bytes wide) key label context) ≡ cipher_key_bytes wide
  pub signature-length : (key m : Bytes) → length (P.cmac key m) ≡ 16
  pub tag-length : (cipher : ℕ) (key nonce auth p : Bytes) → length (P.ciphers.tag cipher key nonce auth p) ≡ 16
  pub encrypt-length : (cipher : ℕ) (key nonce auth p : Bytes) → length (P.ciphers.encrypt cipher key nonce auth p) ≡ length p
  -- what was encrypted is decrypted under its tag
  pub decrypts : (cipher : ℕ) (key nonce auth p : Bytes)
      → P.ciphers.decrypt cipher key nonce auth (P.ciphers.tag cipher key nonce auth p) (P.ciphers.encrypt cipher key nonce auth p) ≡ some p
  -- what was decrypted, encrypted again, is what was received
  pub encrypts-again : (cipher : ℕ) (key nonce auth tag body p : Bytes)
      → P.ciphers.decrypt cipher key nonce auth tag body ≡ some p → P.ciphers.encrypt cipher key nonce auth p ≡ body
