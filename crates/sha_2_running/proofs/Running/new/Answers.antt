-- Right because the hash value is the initial one.
use Rattle.std.proofs.Common.{replicate}
use Rattle.sha_2.specs.Running.{nothing_taken}
use Rattle.sha_2_running.proofs.Running.new.Goals as goal

pub returns : goal.returns
unfolding nothing_taken
returns g c = λ i. record { hash = c.initial_hash_value.ensures i; buffer = replicate (g.met.W.Algorithm.sizes.block i) 0; count = 0 }
