-- Right because the two tables are the same, entry by entry.
use Rattle.std.proofs.Common.{refl}
use Rattle.sha_2.specs.Sha256.{constants256}
use Rattle.sha_2_compression.proofs.sha256.U32Algorithm6464.round_constant.Goals as goal

pub returns : goal.returns
unfolding constants256
returns c = refl
