-- The keys of the rules as the code stores them, and the struct of the code read as the keys of the rules.
-- Assumes nothing.
use Rattle.std.specs.Prelude.{Bool, take}
use Rattle.octets.specs.Blocks.{zero_padded}
use Rattle.protocol.specs.Connection.{cipher_key_bytes}
use Rattle.protocol.specs.Keys as rules
use Rattle.derived_keys.specs.declared.Keys.{Keys}

-- zeros behind a cipher key of 16 bytes
abbrev pub stored : rules.Keys → Keys
stored k =
    record {
      signing = k.signing;
      application = k.application;
      client_to_server = zero_padded 32 k.client_to_server;
      server_to_client = zero_padded 32 k.server_to_client;
    }

abbrev pub keys_in : Bool → Keys → rules.Keys
keys_in wide k =
    record {
      signing = k.signing;
      application = k.application;
      client_to_server = take (cipher_key_bytes wide) k.client_to_server;
      server_to_client = take (cipher_key_bytes wide) k.server_to_client;
    }
