-- Keys that are stored with zeros behind them, read back.
-- Assumes nothing.
use mathlib.Core.Path.{◌≡◌, sym, ap, ◌∙◌}
use mathlib.Core.Bool.{Bool, true, false}
use mathlib.Core.List.{◌++◌}
use Prim.Native.Nat.{ℕ, ◌≤◌}
use native.Mathlib.Omega.{arith}
use lib.Dec.{lit≤}
use lib.ListN.{length, take, drop, replicate}
use lib.Seq.{take-length, take_at}
use Rattle.octets.specs.Blocks.{zero_padded}
use Rattle.octets.proofs.BlockLaws.{zeros_replaced}
use Rattle.protocol.specs.Bytes.{Bytes}
use Rattle.protocol.specs.Connection.{cipher_key_bytes}
use Rattle.protocol.specs.Keys as rules
use Rattle.derived_keys.specs.Reading.{stored, keys_in}

-- a cipher key, without the zeros behind it
pub unpadded : (n : ℕ) (key : Bytes) → length key ≡ n → n ≤ 32 → take n (zero_padded 32 key) ≡ key
unpadded n key l h =
    ap (take n) (sym (zeros_replaced 32 key (length key) (omega arith)) ∙ ap (λ (x : Bytes). x ++ drop (length key) (replicate 32 0)) (take-length key))
    ∙ take_at key (drop (length key) (replicate 32 0)) n l

pub at_most_32 : (wide : Bool) → cipher_key_bytes wide ≤ 32
at_most_32 true = lit≤ tt
at_most_32 false = lit≤ tt

pub stored_back : (wide : Bool) (k : rules.Keys) → length k.client_to_server ≡ cipher_key_bytes wide → length k.server_to_client ≡ cipher_key_bytes wide
    → keys_in wide (stored k) ≡ k
stored_back wide k c s =
    λ i.
    record {
      signing = k.signing;
      application = k.application;
      client_to_server = unpadded (cipher_key_bytes wide) k.client_to_server c (at_most_32 wide) i;
      server_to_client = unpadded (cipher_key_bytes wide) k.server_to_client s (at_most_32 wide) i;
    }
