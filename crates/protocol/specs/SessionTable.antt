-- The session table: RULES 10.
-- Assumes nothing.
use Rattle.std.specs.Prelude.{Bool, true, false, cond, not, ◌&&◌, ◌||◌, List, [], ◌∷◌, ℕ, ◌+◌, leb, eqb, replicate}
use Rattle.protocol.specs.Bytes.{Bytes}
use Rattle.protocol.specs.Connection.{Role, client, server, other, is_wide, cipher_key_bytes, last_counter}
use Rattle.protocol.specs.Keys.{Keys, derived_keys}

-- "a lent run of session records: used or free, id, guest, anonymous, four .. keys, 64-bit send counter"; "the record keeps its key size"
pub record Session : Type 0 where
  pub used : Bool
  pub id : ℕ
  pub guest : Bool
  pub anonymous : Bool
  pub wide : Bool
  pub keys : Keys
  pub counter : ℕ

abbrev pub zero_key : ℕ → Bytes
zero_key n = replicate n 0

abbrev pub zero_keys : Keys
zero_keys = record { signing = zero_key 16; application = zero_key 16; client_to_server = zero_key 16; server_to_client = zero_key 16 }

-- "free and all zero"
abbrev pub free_record : Session
free_record =
    record { used = false; id = 0; guest = false; anonymous = false; wide = false; keys = zero_keys; counter = 0 }

abbrev pub with_counter : ℕ → Session → Session
with_counter n s =
    record { used = s.used; id = s.id; guest = s.guest; anonymous = s.anonymous; wide = s.wide; keys = s.keys; counter = n }

-- "A client seals with the first cipher key and opens with the second; a server the other way round."
abbrev pub sealing_key : Role → Keys → Bytes
sealing_key client k = k.client_to_server
sealing_key server k = k.server_to_client

abbrev pub opening_key : Role → Keys → Bytes
opening_key r k = sealing_key (other r) k

-- ---- "Lookup takes the first used record with the id"

abbrev pub is_session : ℕ → Session → Bool
is_session i s = s.used && eqb s.id i

-- that record, or a free one if there is none
abbrev pub record_of : ℕ → List Session → Session
record_of i [] = free_record
record_of i (s ∷ t) = cond (is_session i s) s (record_of i t)

-- the table with f of that record in its place
abbrev pub change_record : (Session → Session) → ℕ → List Session → List Session
change_record f i [] = []
change_record f i (s ∷ t) = cond (is_session i s) (f s ∷ t) (s ∷ change_record f i t)

-- "Removing makes the first used record of that id free and all zero"
abbrev pub remove_record : ℕ → List Session → List Session
remove_record i t = change_record (λ s. free_record) i t

-- ---- "Adding uses the first free record, with counter 0."

abbrev pub has_free : List Session → Bool
has_free [] = false
has_free (s ∷ t) = not s.used || has_free t

-- the table with a new record in the place of its first free one
abbrev pub fill_free : Session → List Session → List Session
fill_free new [] = []
fill_free new (s ∷ t) = cond s.used (s ∷ fill_free new t) (new ∷ t)

-- what adding is given
pub record Adding : Type 0 where
  pub dialect : ℕ
  pub cipher : ℕ
  pub chain : Bytes
  pub id : ℕ
  pub material : Bytes
  pub guest : Bool
  pub anonymous : Bool

-- "Guest and anonymous records hold zero cipher keys", of n bytes each
abbrev pub keys_held : Bool → ℕ → Keys → Keys
keys_held true n k = record { signing = k.signing; application = k.application; client_to_server = zero_key n; server_to_client = zero_key n }
keys_held false n k = k

module _ (kdf : ℕ → Bytes → Bytes → Bytes → Bytes) where
  -- the record that adding makes
  abbrev pub new_record : Adding → Session
  new_record a =
      record {
        used = true;
        id = a.id;
        guest = a.guest;
        anonymous = a.anonymous;
        wide = is_wide a.dialect a.cipher;
        keys =
            keys_held (a.guest || a.anonymous) (cipher_key_bytes (is_wide a.dialect a.cipher))
            (derived_keys kdf a.dialect a.cipher a.chain a.material);
        counter = 0;
      }

-- ---- the counter

-- "The counter goes up by one and nothing else in the table changes."
abbrev pub count_up : Session → Session
count_up s = with_counter (s.counter + 1) s

-- the counter step by itself: up by that many, and unchanged where it would pass the last
unfoldable pub counter_step : ℕ → Session → Session
counter_step by s = cond (leb (s.counter + by) last_counter) (with_counter (s.counter + by) s) s
