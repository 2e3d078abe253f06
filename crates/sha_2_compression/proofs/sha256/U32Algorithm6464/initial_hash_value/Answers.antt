-- Right because the two tables are the same, entry by entry.
use Rattle.std.proofs.Common.{refl}
use Rattle.sha_2.specs.Sha256.{initial256}
use Rattle.sha_2_compression.proofs.sha256.U32Algorithm6464.initial_hash_value.Goals as goal

pub returns : goal.returns
unfolding initial256
returns c = refl
