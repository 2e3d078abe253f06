-- Right because it is the definition, sum by sum.
use Rattle.std.proofs.Common.{◌∙◌}
use Rattle.sha_2.specs.Sha2.{t1}
use Rattle.sha_2_compression.proofs.rounds.t1.Goals as goal

pub returns : goal.returns
unfolding t1
returns g c = c.add-4.ensures ∙ rw (c.add-3.ensures, c.add-2.ensures, c.ch.ensures, c.add.ensures, c.big_sigma1.ensures)
