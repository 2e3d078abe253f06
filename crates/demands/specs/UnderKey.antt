-- "Under one given key, 7 and 8 do not arise" (RULES 2): such a call does not look at the constraint
-- of its connection, and it has no record.
-- Of the suite.
-- Assumes nothing.
use Rattle.std.specs.Prelude.{◌≡◌, ℕ}
use Rattle.protocol.specs.Bytes.{Bytes}
use Rattle.protocol.specs.Connection.{Connection}
use Rattle.protocol.specs.Calls.{Call, sealing_under, opening_under, Lent, answer, left}
use Rattle.protocol.specs.Suite.{suite}

-- the connections agree in all else
pub record EncryptAlike (c d : Connection) : Type 0 where
  pub same_role : c.role ≡ d.role
  pub same_dialect : c.dialect ≡ d.dialect
  pub same_encryption : c.encryption ≡ d.encryption
  pub same_cipher : c.cipher ≡ d.cipher

pub record DoAlike (c d : Call) : Type 0 where
  pub same_answer : (w : Lent) → answer suite c w ≡ answer suite d w
  pub same_left : (w : Lent) → left suite c w ≡ left suite d w

pub record UnderKey : Type 0 where
  pub seals : (c d : Connection) → EncryptAlike c d → (key : Bytes) (id : ℕ) → DoAlike (sealing_under c key id) (sealing_under d key id)
  pub opens : (c d : Connection) → EncryptAlike c d → (key : Bytes) (id : ℕ) → DoAlike (opening_under c key id) (opening_under d key id)
