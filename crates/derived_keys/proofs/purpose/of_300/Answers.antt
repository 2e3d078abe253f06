-- Right because each label and context is the table's, byte for byte.
use mathlib.Core.Path.{refl}
use Rattle.protocol.specs.Keys.{smb2_aes_cmac, smb2_app, smb2_aes_ccm, smb_sign, smb_rpc, server_in, server_out}
use Rattle.derived_keys.proofs.purpose.of_300.Goals as goal

pub returns : goal.returns
unfolding smb2_aes_cmac smb2_app smb2_aes_ccm smb_sign smb_rpc server_in server_out
returns c =
    record {
      signing = record { labelled = refl; bound = refl };
      application = record { labelled = refl; bound = refl };
      client_to_server = record { labelled = refl; bound = refl };
      server_to_client = record { labelled = refl; bound = refl };
    }
