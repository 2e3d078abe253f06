-- Demand 2, opening: every listed check, one field for one check, with the number that the rules gives where it fails.
-- Of the suite: what `encrypt` and `tag` are is said in Demand2.
-- Assumes nothing.
use Rattle.std.specs.Prelude.{◌≡◌, ◌≢◌, ◌⊎◌, true, false, [], ◌∷◌, ℕ, ◌≤◌, ◌<◌, length, take}
use Rattle.protocol.specs.Bytes.{Bytes}
use Rattle.protocol.specs.Connection.{other, Connection, cipher_used, uses_wide, cipher_key_bytes, longest_message}
use Rattle.protocol.specs.TransformHeader.{nonce_end, inner, signature_of, nonce_field, authenticated_of, original_message_size, flags_of, session_id_of}
use Rattle.protocol.specs.SessionTable.{Session, opening_key}
use Rattle.protocol.specs.Calls.{sent_by}
use Rattle.protocol.specs.Suite.{ciphers}
use Rattle.demands.specs.Walk.{Walked}

-- not 1
pub record Encrypts (c : Connection) : Type 0 where
  pub dialect-known : (c.dialect ≡ 0x0300) ⊎ ((c.dialect ≡ 0x0302) ⊎ (c.dialect ≡ 0x0311))
  pub on : c.encryption ≡ true
  pub some-cipher : c.cipher ≢ 0
  pub cipher-known : c.dialect ≡ 0x0311 → c.cipher ≤ 4

pub record HeaderChecks (c : Connection) (m : Bytes) : Type 0 where
  -- not 1
  pub encrypts : Encrypts c
  -- not 2
  pub long : 52 < length m
  -- not 3
  pub short : length (inner m) ≤ longest_message
  -- not 4
  pub begins : take 4 m ≡ 0xFD ∷ 0x53 ∷ 0x4D ∷ 0x42 ∷ []
  -- not 5
  pub flags : flags_of m ≡ 1
  -- not 29: bytes 32..36 under GCM
  pub clean-nonce : (cipher_used c ≡ 2) ⊎ (cipher_used c ≡ 4) → nonce_end m ≡ 0

-- the message carries the text: the authenticated data are its bytes 20..52, the tag its bytes 4..20
pub record Carries (cipher : ℕ) (key m text : Bytes) : Type 0 where
  pub ciphertext : inner m ≡ ciphers.encrypt cipher key (nonce_field m) (authenticated_of m) text
  -- not 9
  pub tag : signature_of m ≡ ciphers.tag cipher key (nonce_field m) (authenticated_of m) text
  -- not 10
  pub size : original_message_size m ≡ length (inner m)

-- under one given key: the message m opens to the text, with n inner headers
pub record OpensUnderKey (c : Connection) (key : Bytes) (id : ℕ) (m : Bytes) (n : ℕ) : Type 0 where
  -- not 40
  pub key_fits : length key ≡ cipher_key_bytes (uses_wide c)
  -- not 1 to 5
  pub header : HeaderChecks c m
  -- not 6
  pub same_id : session_id_of m ≡ id
  pub text : Bytes
  -- not 9, 10
  pub carried : Carries (cipher_used c) key m text
  -- not 11 to 16
  pub walked : Walked text (sent_by (other c.role) id) n

-- with the table; s is the record that lookup takes
pub record OpensWithRecord (c : Connection) (m : Bytes) (s : Session) (n : ℕ) : Type 0 where
  -- not 1 to 5
  pub header : HeaderChecks c m
  -- not 6
  pub known : s.used ≡ true
  -- not 7
  pub unconstrained : c.constrained ≡ false
  -- not 8
  pub not_guest : s.guest ≡ false
  pub not_anonymous : s.anonymous ≡ false
  -- not 35
  pub same_size : cipher_key_bytes s.wide ≡ cipher_key_bytes (uses_wide c)
  pub text : Bytes
  -- not 9, 10
  pub carried : Carries (cipher_used c) (opening_key c.role s.keys) m text
  -- not 11 to 16
  pub walked : Walked text (sent_by (other c.role) (session_id_of m)) n
