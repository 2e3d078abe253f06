-- A message in clear that is signed or verified as it arrives, piece by piece: RULES 15. `cmac` is a parameter here, as in Signing.
-- A message under way is one of Pieces, begun from its key.
-- Assumes nothing.
use Rattle.protocol.specs.Bytes.{Bytes}
use Rattle.protocol.specs.Pieces.{Underway}
use Rattle.protocol.specs.Signing.{with_signed_flag, signature_under}

-- "signing takes the flag as set but changes no piece and returns the 16 bytes"
unfoldable pub signature_of : (Bytes → Bytes → Bytes) → Underway → Bytes
signature_of cmac u = signature_under cmac u.start (with_signed_flag u.joined)
