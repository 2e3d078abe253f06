-- What is stored is read back: a record whose cipher keys have its size, and so a new one and a free one.
-- Assumes nothing.
use mathlib.Core.Path.{◌≡◌, refl, ap, ◌∙◌}
use mathlib.Core.Bool.{Bool, true, false, ◌||◌}
use Prim.Native.Nat.{ℕ}
use lib.ListN.{length, take, length-replicate}
use Rattle.octets.specs.Blocks.{zero_padded}
use Rattle.protocol.specs.Bytes.{Bytes}
use Rattle.protocol.specs.Connection.{is_wide, cipher_key_bytes}
use Rattle.protocol.specs.Keys.{Keys, derived_keys}
use Rattle.protocol.specs.SessionTable as table
use Rattle.protocol.specs.Suite.{kdf}
use Rattle.connection.specs.Reading.{flag, bit_of}
use Rattle.derived_keys.proofs.LabelLaws.{derived_lengths}
use Rattle.derived_keys.proofs.Stored.{unpadded, at_most_32}
use Rattle.session_record.specs.Reading.{session_of, stored, free}

bit_read : (b : Bool) → flag (bit_of b) ≡ b
bit_read true = refl
bit_read false = refl

key_read : (wide : Bool) (key : Bytes) → length key ≡ cipher_key_bytes wide → take (cipher_key_bytes (flag (bit_of wide))) (zero_padded 32 key) ≡ key
key_read wide key l =
    ap (λ (w : Bool). take (cipher_key_bytes w) (zero_padded 32 key)) (bit_read wide) ∙ unpadded (cipher_key_bytes wide) key l (at_most_32 wide)

-- both cipher keys have n bytes
record Sized (n : ℕ) (k : Keys) : Type 0 where
  first : length k.client_to_server ≡ n
  second : length k.server_to_client ≡ n

stored_read : (s : table.Session) → Sized (cipher_key_bytes s.wide) s.keys → session_of (stored s) ≡ s
stored_read s l =
    λ j. record {
      used = bit_read s.used j;
      id = s.id;
      guest = bit_read s.guest j;
      anonymous = bit_read s.anonymous j;
      wide = bit_read s.wide j;
      keys =
          record {
            signing = s.keys.signing;
            application = s.keys.application;
            client_to_server = key_read s.wide s.keys.client_to_server l.first j;
            server_to_client = key_read s.wide s.keys.server_to_client l.second j;
          };
      counter = s.counter;
    }

pub free_read : session_of free ≡ table.free_record
free_read = stored_read table.free_record (record { first = refl; second = refl })

held_sized : (bare : Bool) (n : ℕ) (k : Keys) → Sized n k → Sized n (table.keys_held bare n k)
held_sized true n k l = record { first = length-replicate n 0; second = length-replicate n 0 }
held_sized false n k l = l

pub new_read : (a : table.Adding) → session_of (stored (table.new_record kdf a)) ≡ table.new_record kdf a
new_read a =
    let wide = is_wide a.dialect a.cipher in
    let l = derived_lengths a.dialect a.cipher a.chain a.material wide refl in
    stored_read (table.new_record kdf a)
    (held_sized (a.guest || a.anonymous) (cipher_key_bytes wide) (derived_keys kdf a.dialect a.cipher a.chain a.material)
    (record { first = l.0; second = l.1 }))
