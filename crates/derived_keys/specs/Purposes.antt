-- The labels and contexts of the code, and the keys that are derived with them.
-- Assumes nothing.
use Rattle.std.specs.Prelude.{◌≡◌, Bool}
use Rattle.protocol.specs.Bytes.{Bytes}
use Rattle.protocol.specs.Connection.{cipher_key_bytes}
use Rattle.protocol.specs.Keys as rules
use Rattle.protocol.specs.Keys.{session_key, cipher_material}
use Rattle.protocol.specs.Suite.{kdf}
use Rattle.derived_keys.specs.declared.purpose.Purpose.{Purpose}
use Rattle.derived_keys.specs.declared.purpose.Purposes.{Purposes}

-- the four keys by their labels and contexts
abbrev pub keys_by : Bool → Bytes → Purposes → rules.Keys
keys_by wide material p =
    record {
      signing = kdf 16 (session_key material) p.signing.label.now p.signing.context.now;
      application = kdf 16 (session_key material) p.application.label.now p.application.context.now;
      client_to_server = kdf (cipher_key_bytes wide) (cipher_material wide material) p.client_to_server.label.now p.client_to_server.context.now;
      server_to_client = kdf (cipher_key_bytes wide) (cipher_material wide material) p.server_to_client.label.now p.server_to_client.context.now;
    }

-- this label and this context
pub record Is (label context : Bytes) (p : Purpose) : Type 0 where
  pub labelled : p.label.now ≡ label
  pub bound : p.context.now ≡ context

-- the rows of 3.1.1, where the context is the chain value
pub record IsFor311 (chain : Bytes) (p : Purposes) : Type 0 where
  pub signing : Is rules.smb_signing_key chain p.signing
  pub application : Is rules.smb_app_key chain p.application
  pub client_to_server : Is rules.smb_c2_s_cipher_key chain p.client_to_server
  pub server_to_client : Is rules.smb_s2_c_cipher_key chain p.server_to_client

-- and those of 3.0 and 3.0.2
pub record IsFor300 (p : Purposes) : Type 0 where
  pub signing : Is rules.smb2_aes_cmac rules.smb_sign p.signing
  pub application : Is rules.smb2_app rules.smb_rpc p.application
  pub client_to_server : Is rules.smb2_aes_ccm rules.server_in p.client_to_server
  pub server_to_client : Is rules.smb2_aes_ccm rules.server_out p.server_to_client
