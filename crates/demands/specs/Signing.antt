-- What both ends of a connection that signs rely on: what one signs under a key the other verifies under it; to verify changes nothing,
-- and takes nothing into account but the message and the key. RULES 15.
-- Of the suite.
-- Assumes nothing.
use Rattle.std.specs.Prelude.{◌≡◌, ℕ}
use Rattle.protocol.specs.Bytes.{Bytes}
use Rattle.protocol.specs.Answer.{done}
use Rattle.protocol.specs.Calls.{signing_under, verifying_under, Lent, answer, left}
use Rattle.protocol.specs.Suite.{suite}

pub record Signing : Type 0 where
  -- v has a copy of the message that signing left
  pub signed-verifies : (key : Bytes) (w v : Lent) (n : ℕ) → answer suite (signing_under key) w ≡ done n
      → v.message ≡ (left suite (signing_under key) w).message
      → answer suite (verifying_under key) v ≡ done 0
  pub unchanged : (key : Bytes) (w : Lent) → left suite (verifying_under key) w ≡ w
  pub message_alone : (key : Bytes) (w v : Lent) → w.message ≡ v.message → answer suite (verifying_under key) w ≡ answer suite (verifying_under key) v
