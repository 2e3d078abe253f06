-- Right because the piece follows in the inner hash.
use Rattle.std.proofs.Common.{ℕ, List, append_assoc, subst}
use Rattle.octets.specs.Xor.{xor}
use Rattle.sha_2.specs.Sha256.{sha256}
use Rattle.sha256.specs.Code as code
use Rattle.sha256.proofs.Pieces.{takes_in}
use Rattle.hmac.specs.Hmac.{key_block, ipad}
use Rattle.hmac.proofs.Mac.update.Goals as goal

pub returns : goal.returns
returns c =
    λ key m s.
    let e = append_assoc (xor (key_block sha256 key) (ipad sha256)) m c.args.piece.now in
    record { inner = subst (λ (l : List ℕ). code.Holds c.update.result l) e (takes_in _ _ c.update.ensures s.inner); outer = s.outer }
