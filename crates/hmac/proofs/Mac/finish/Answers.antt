-- Right because the outer hash takes in the digest of the inner one.
use Rattle.std.proofs.Common.{ℕ, List, ◌++◌, ap, ◌∙◌}
use Rattle.octets.specs.Xor.{xor}
use Rattle.sha_2.specs.Sha2.{hash}
use Rattle.sha_2.specs.Sha256.{sha256}
use Rattle.sha256.proofs.Pieces.{takes_in, ends_with}
use Rattle.hmac.specs.Hmac.{hmac, key_block, opad}
use Rattle.hmac.proofs.Mac.finish.Goals as goal

pub returns : goal.returns
unfolding hmac
returns c =
    λ key m s.
    ends_with _ c.finish.ensures (takes_in _ _ c.update.ensures s.outer)
    ∙ ap (λ (l : List ℕ). hash sha256 (xor (key_block sha256 key) (opad sha256) ++ l)) (ends_with _ c.finish-digest.ensures s.inner)
