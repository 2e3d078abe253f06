-- The four keys of a session: RULES 7; MS-SMB2 3.1.4.2 and 3.2.5.3.1.
-- `kdf` is a parameter here: from a number of bytes, key, label and context to so many bytes. The suite puts SP 800-108 in counter
-- mode in its place.
-- Assumes nothing.
use Rattle.std.specs.Prelude.{Bool, cond, [], ◌∷◌, ◌++◌, ℕ, ◌*◌, eqb}
use Rattle.octets.specs.Blocks.{zero_padded}
use Rattle.octets.specs.Numbers.{to_big_endian}
use Rattle.protocol.specs.Bytes.{Bytes}
use Rattle.protocol.specs.Connection.{is_wide, cipher_key_bytes}

-- "first 16 bytes of the material given, padded right with zeros"
abbrev pub session_key : Bytes → Bytes
session_key material = zero_padded 16 material

-- what cipher keys are derived from: of 32 bytes "from the full key material as given", else from the session key
abbrev pub cipher_material : Bool → Bytes → Bytes
cipher_material wide material = cond wide material (session_key material)

-- what a key of so many bytes is the HMAC-SHA-256 of: "00 00 00 01, label, 00, context, 00 00 00 80", or "00 00 01 00 as the closing
-- length": that of the key in bits. That the suite's `kdf` takes the first bytes of it is `kdf-of_document` in proofs/
unfoldable pub derivation_input : ℕ → Bytes → Bytes → Bytes
derivation_input bytes label context = 0 ∷ 0 ∷ 0 ∷ 1 ∷ (label ++ (0 ∷ (context ++ to_big_endian 4 (8 * bytes))))

-- ---- "Labels and fixed contexts carry their own final zero byte." The table's column "3.1.1 label"

-- "SMBSigningKey"
unfoldable pub smb_signing_key : Bytes
smb_signing_key = 0x53 ∷ 0x4D ∷ 0x42 ∷ 0x53 ∷ 0x69 ∷ 0x67 ∷ 0x6E ∷ 0x69 ∷ 0x6E ∷ 0x67 ∷ 0x4B ∷ 0x65 ∷ 0x79 ∷ 0 ∷ []

-- "SMBAppKey"
unfoldable pub smb_app_key : Bytes
smb_app_key = 0x53 ∷ 0x4D ∷ 0x42 ∷ 0x41 ∷ 0x70 ∷ 0x70 ∷ 0x4B ∷ 0x65 ∷ 0x79 ∷ 0 ∷ []

-- "SMBC2SCipherKey"
unfoldable pub smb_c2_s_cipher_key : Bytes
smb_c2_s_cipher_key = 0x53 ∷ 0x4D ∷ 0x42 ∷ 0x43 ∷ 0x32 ∷ 0x53 ∷ 0x43 ∷ 0x69 ∷ 0x70 ∷ 0x68 ∷ 0x65 ∷ 0x72 ∷ 0x4B ∷ 0x65 ∷ 0x79 ∷ 0 ∷ []

-- "SMBS2CCipherKey"
unfoldable pub smb_s2_c_cipher_key : Bytes
smb_s2_c_cipher_key = 0x53 ∷ 0x4D ∷ 0x42 ∷ 0x53 ∷ 0x32 ∷ 0x43 ∷ 0x43 ∷ 0x69 ∷ 0x70 ∷ 0x68 ∷ 0x65 ∷ 0x72 ∷ 0x4B ∷ 0x65 ∷ 0x79 ∷ 0 ∷ []

-- ---- the table's column "3.0, 3.0.2 label"

-- "SMB2AESCMAC"
unfoldable pub smb2_aes_cmac : Bytes
smb2_aes_cmac = 0x53 ∷ 0x4D ∷ 0x42 ∷ 0x32 ∷ 0x41 ∷ 0x45 ∷ 0x53 ∷ 0x43 ∷ 0x4D ∷ 0x41 ∷ 0x43 ∷ 0 ∷ []

-- "SMB2APP"
unfoldable pub smb2_app : Bytes
smb2_app = 0x53 ∷ 0x4D ∷ 0x42 ∷ 0x32 ∷ 0x41 ∷ 0x50 ∷ 0x50 ∷ 0 ∷ []

-- "SMB2AESCCM"
unfoldable pub smb2_aes_ccm : Bytes
smb2_aes_ccm = 0x53 ∷ 0x4D ∷ 0x42 ∷ 0x32 ∷ 0x41 ∷ 0x45 ∷ 0x53 ∷ 0x43 ∷ 0x43 ∷ 0x4D ∷ 0 ∷ []

-- ---- the table's column "3.0, 3.0.2 context"

-- "SmbSign"
unfoldable pub smb_sign : Bytes
smb_sign = 0x53 ∷ 0x6D ∷ 0x62 ∷ 0x53 ∷ 0x69 ∷ 0x67 ∷ 0x6E ∷ 0 ∷ []

-- "SmbRpc"
unfoldable pub smb_rpc : Bytes
smb_rpc = 0x53 ∷ 0x6D ∷ 0x62 ∷ 0x52 ∷ 0x70 ∷ 0x63 ∷ 0 ∷ []

-- "ServerIn ": "ends in a space"
unfoldable pub server_in : Bytes
server_in = 0x53 ∷ 0x65 ∷ 0x72 ∷ 0x76 ∷ 0x65 ∷ 0x72 ∷ 0x49 ∷ 0x6E ∷ 0x20 ∷ 0 ∷ []

-- "ServerOut"
unfoldable pub server_out : Bytes
server_out = 0x53 ∷ 0x65 ∷ 0x72 ∷ 0x76 ∷ 0x65 ∷ 0x72 ∷ 0x4F ∷ 0x75 ∷ 0x74 ∷ 0 ∷ []

-- ---- the keys: "signing and application keys stay at 16 bytes from the session key"

pub record Keys : Type 0 where
  pub signing : Bytes
  pub application : Bytes
  pub client_to_server : Bytes
  pub server_to_client : Bytes

-- RULES 7.6: "writes the four keys in the order of the table"
abbrev pub keys_in_order : Keys → Bytes
keys_in_order k = k.signing ++ (k.application ++ (k.client_to_server ++ k.server_to_client))

module _ (kdf : ℕ → Bytes → Bytes → Bytes → Bytes) where
  -- "For 3.1.1 the context is the 64-byte chain value."
  abbrev pub keys311 : Bool → Bytes → Bytes → Keys
  keys311 wide chain material =
      record {
        signing = kdf 16 (session_key material) smb_signing_key chain;
        application = kdf 16 (session_key material) smb_app_key chain;
        client_to_server = kdf (cipher_key_bytes wide) (cipher_material wide material) smb_c2_s_cipher_key chain;
        server_to_client = kdf (cipher_key_bytes wide) (cipher_material wide material) smb_s2_c_cipher_key chain;
      }

  -- the rows of 3.0 and 3.0.2
  abbrev pub keys300 : Bytes → Keys
  keys300 material =
      record {
        signing = kdf 16 (session_key material) smb2_aes_cmac smb_sign;
        application = kdf 16 (session_key material) smb2_app smb_rpc;
        client_to_server = kdf 16 (session_key material) smb2_aes_ccm server_in;
        server_to_client = kdf 16 (session_key material) smb2_aes_ccm server_out;
      }

  -- from the dialect, the cipher, the chain value and the key material
  unfoldable pub derived_keys : ℕ → ℕ → Bytes → Bytes → Keys
  derived_keys dialect cipher chain material = cond (eqb dialect 0x0311) (keys311 (is_wide dialect cipher) chain material) (keys300 material)
