-- The P lines of RULES 13, as a single list under one statement.
-- What a line does not name is in order; P5 to P11 speak of number 11 and the walk's rules alone.
-- Assumes nothing.
use Rattle.std.specs.Prelude.{◌≡◌, Bool, true, false, List, [], ◌∷◌, ◌++◌, ℕ, length, take, replicate}
use Rattle.octets.specs.Numbers.{to_little_endian}
use Rattle.sha_2.specs.Sha256.{sha256}
use Rattle.hmac.specs.Hmac.{hmac}
use Rattle.protocol.specs.Bytes.{Bytes}
use Rattle.protocol.specs.Answer.{done, refused}
use Rattle.protocol.specs.Connection.{Connection, server}
use Rattle.protocol.specs.InnerHeader.{Envelope}
use Rattle.protocol.specs.Compound.{walk}
use Rattle.protocol.specs.Keys.{session_key, smb_c2_s_cipher_key, derivation_input, derived_keys}
use Rattle.protocol.specs.SessionTable.{Session, zero_keys}
use Rattle.protocol.specs.TransformHeader.{nonce_of}
use Rattle.protocol.specs.Calls.{opening, message_and_table, answer}
use Rattle.protocol.specs.Suite.{suite, kdf}

-- an inner header: its flags, next command and session id
abbrev pub header : ℕ → ℕ → ℕ → Bytes
header flags next id =
    0xFE ∷ 0x53 ∷ 0x4D ∷ 0x42
    ∷ (replicate 12 0 ++ (to_little_endian 4 flags ++ (to_little_endian 4 next ++ (replicate 16 0 ++ (to_little_endian 8 id ++ replicate 16 0)))))

-- a transform header of session 5: its first byte, the size that it names, its flags
abbrev pub transform : ℕ → ℕ → ℕ → Bytes
transform first size flags =
    first ∷ 0x53 ∷ 0x4D ∷ 0x42 ∷ (replicate 32 0 ++ (to_little_endian 4 size ++ (0 ∷ 0 ∷ (to_little_endian 2 flags ++ to_little_endian 8 5))))

-- a server with 3.1.1, encryption on and GCM
abbrev pub on_server : Bool → Connection
on_server constrained = record { role = server; dialect = 0x0311; encryption = true; cipher = 2; constrained = constrained }

-- a table with session 5
abbrev pub table_of : Bool → List Session
table_of guest = record { used = true; id = 5; guest = guest; anonymous = false; wide = false; keys = zero_keys; counter = 0 } ∷ []

-- sealed for session 5, from the server or from a client
abbrev pub session5 : Bool → Envelope
session5 from_server = record { id = 5; from_server = from_server }

pub record PLines : Type 0 where
  pub P1 : answer suite (opening (on_server false)) (message_and_table (transform 0xFD 0 1) (table_of false)) ≡ refused 2
  pub P2 : answer suite (opening (on_server false)) (message_and_table (transform 0xFE 1 1 ++ (0 ∷ [])) (table_of false)) ≡ refused 4
  pub P3 : answer suite (opening (on_server false)) (message_and_table (transform 0xFD 1 0 ++ (0 ∷ [])) []) ≡ refused 5
  pub P4 : answer suite (opening (on_server true)) (message_and_table (transform 0xFD 1 1 ++ (0 ∷ [])) (table_of true)) ≡ refused 7
  pub P5 : (from_server : Bool) → walk (replicate 63 0) (session5 from_server) ≡ refused 11
  pub P6 : (from_server : Bool) → walk (header 0 0 5) (session5 from_server) ≡ done 1
  pub P7 : (from_server : Bool) → walk (header 0 64 5 ++ header 4 0 9) (session5 from_server) ≡ done 2
  pub P8 : (from_server : Bool) → walk (header 0 65 5 ++ header 4 0 9) (session5 from_server) ≡ refused 15
  pub P9 : (from_server : Bool) → walk (header 0 68 5 ++ (replicate 8 0 ++ header 4 0 9)) (session5 from_server) ≡ refused 16
  pub P10 : (from_server : Bool) → walk (header 0 64 5 ++ replicate 63 0) (session5 from_server) ≡ refused 15
  pub P11 : (from_server : Bool) → walk (header 0 4294967288 5 ++ header 4 0 9) (session5 from_server) ≡ refused 15
  pub P12 : (material chain : Bytes) → length chain ≡ 64
      → ((derived_keys kdf 0x0311 1 chain material).client_to_server
      ≡ take 16 (hmac sha256 (session_key material) (derivation_input 16 smb_c2_s_cipher_key chain)))
      × (length (derivation_input 16 smb_c2_s_cipher_key chain) ≡ 89)
  pub P13 : nonce_of 1 ≡ 1 ∷ replicate 15 0
