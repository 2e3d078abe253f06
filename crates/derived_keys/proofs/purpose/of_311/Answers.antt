-- Right because each label is the table's, byte for byte.
use mathlib.Core.Path.{refl}
use Rattle.protocol.specs.Keys.{smb_signing_key, smb_app_key, smb_c2_s_cipher_key, smb_s2_c_cipher_key}
use Rattle.derived_keys.proofs.purpose.of_311.Goals as goal

pub returns : goal.returns
unfolding smb_signing_key smb_app_key smb_c2_s_cipher_key smb_s2_c_cipher_key
returns c =
    record {
      signing = record { labelled = refl; bound = refl };
      application = record { labelled = refl; bound = refl };
      client_to_server = record { labelled = refl; bound = refl };
      server_to_client = record { labelled = refl; bound = refl };
    }
