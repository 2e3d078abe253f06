-- Right because the two tables are the same, entry by entry.
use Rattle.std.proofs.Common.{refl}
use Rattle.sha_2.specs.Sha512.{initial512}
use Rattle.sha_2_compression.proofs.sha512.U64Algorithm80128.initial_hash_value.Goals as goal

pub returns : goal.returns
unfolding initial512
returns c = refl
