-- How long a code of HMAC is.
-- Assumes nothing.
use mathlib.Core.Path.{◌≡◌}
use mathlib.Core.List.{List}
use Prim.Native.Nat.{ℕ, ◌*◌}
use lib.ListN.{length}
use Rattle.sha_2.specs.Sha2.{Sha2}
use Rattle.sha_2.proofs.Lengths.{length-hash}
use Rattle.hmac.specs.Hmac.{hmac}

pub length-hmac : (p : Sha2) (key text : List ℕ) → length (hmac p key text) ≡ 8 * p.bytes
unfolding hmac
length-hmac p key text = length-hash p _
