-- A call under a key is the same whatever the constraint is, and so is what follows from role, dialect, encryption and cipher.
-- Assumes nothing.
use mathlib.Core.Path.{◌≡◌, ap}
use mathlib.Core.Bool.{false}
use Rattle.protocol.specs.Connection.{Connection}
use Rattle.protocol.specs.Calls.{sealing_under, opening_under, tests, effect, answer, left}
use Rattle.protocol.specs.Suite.{suite}
use Rattle.demands.specs.UnderKey.{EncryptAlike, UnderKey}

-- the connection with no constraint
abbrev plain : Connection → Connection
plain c = record { role = c.role; dialect = c.dialect; encryption = c.encryption; cipher = c.cipher; constrained = false }

same_plain : (c d : Connection) → EncryptAlike c d → plain c ≡ plain d
same_plain c d a = λ i. record { role = a.same_role i; dialect = a.same_dialect i; encryption = a.same_encryption i; cipher = a.same_cipher i; constrained = false }

pub under_one_key : UnderKey
unfolding tests effect
under_one_key =
    record {
      seals = λ c d a key id.
          record {
            same_answer = λ w. ap (λ (x : Connection). answer suite (sealing_under x key id) w) (same_plain c d a);
            same_left = λ w. ap (λ (x : Connection). left suite (sealing_under x key id) w) (same_plain c d a);
          };
      opens = λ c d a key id.
          record {
            same_answer = λ w. ap (λ (x : Connection). answer suite (opening_under x key id) w) (same_plain c d a);
            same_left = λ w. ap (λ (x : Connection). left suite (opening_under x key id) w) (same_plain c d a);
          };
    }
