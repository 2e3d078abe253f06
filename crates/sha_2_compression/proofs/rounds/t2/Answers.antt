-- Right because it is the definition.
use Rattle.std.proofs.Common.{◌∙◌}
use Rattle.sha_2.specs.Sha2.{t2}
use Rattle.sha_2_compression.proofs.rounds.t2.Goals as goal

pub returns : goal.returns
unfolding t2
returns g c = c.add.ensures ∙ rw (c.maj.ensures, c.big_sigma0.ensures)
