-- Right because it is the definition, sum by sum.
use Rattle.std.proofs.Common.{◌∙◌}
use Rattle.sha_2.specs.Sha2.{schedule_word}
use Rattle.sha_2_compression.proofs.rounds.schedule_word.Goals as goal

pub returns : goal.returns
unfolding schedule_word
returns g c = c.add-3.ensures ∙ rw (c.add-2.ensures, c.small_sigma0.ensures, c.add.ensures, c.small_sigma1.ensures)
