-- What sealing writes and opening reads under a key: RULES 4 to 6. "Sealing" is our word for
-- encrypting a message and giving it its transform header (MS-SMB2 3.1.4.3), "opening" for the way back (MS-SMB2 3.3.5.2.1.1). The
-- primitives are parameters here; the suite puts the lower crates' definitions in their place.
-- Assumes nothing.
use Rattle.std.specs.Prelude.{[], ◌++◌, ℕ, length, take}
use Rattle.std.proofs.Math.Option.{Option, get_or}
use Rattle.protocol.specs.Bytes.{Bytes}
use Rattle.protocol.specs.TransformHeader.{nonce_of, authenticated, transform_message, inner, signature_of, nonce_field, authenticated_of}

-- ---- the primitives

-- the ciphers, by number. The nonce is the header's field of 16 bytes, of which each cipher takes its 11 or 12
pub record Ciphers : Type 0 where
  -- cipher, key, nonce, authenticated data, plaintext
  pub encrypt : ℕ → Bytes → Bytes → Bytes → Bytes → Bytes
  pub tag : ℕ → Bytes → Bytes → Bytes → Bytes → Bytes
  -- cipher, key, nonce, authenticated data, tag, ciphertext; none where the tag differs
  pub decrypt : ℕ → Bytes → Bytes → Bytes → Bytes → Bytes → Option Bytes

pub record Primitives : Type 0 where
  pub sha512 : Bytes → Bytes
  -- bytes asked for, key, label, context
  pub kdf : ℕ → Bytes → Bytes → Bytes → Bytes
  -- key, message
  pub cmac : Bytes → Bytes → Bytes
  pub ciphers : Ciphers

-- ---- cipher, key, then what is sealed or opened

module _ (P : Ciphers) where
  -- what the buffer holds after sealing its inner message p with the counter for the session id: "It writes all 52 bytes", and the
  -- ciphertext behind them
  unfoldable pub sealed_under : ℕ → Bytes → ℕ → ℕ → Bytes → Bytes
  sealed_under cipher key counter id p =
      let nonce = nonce_of counter in
      let auth = authenticated counter (length p) id in
      transform_message (P.tag cipher key nonce auth p) auth (P.encrypt cipher key nonce auth p)

  -- the plaintext of the message m, if the tag is right
  unfoldable pub plaintext_under : ℕ → Bytes → Bytes → Option Bytes
  plaintext_under cipher key m = P.decrypt cipher key (nonce_field m) (authenticated_of m) (signature_of m) (inner m)

-- what the buffer m holds with this plaintext: "Opening leaves the header, replaces the rest by the plaintext"
abbrev pub opened_to : Bytes → Option Bytes → Bytes
opened_to m text = take 52 m ++ get_or text []
