-- Right because it is the definition, variable by variable.
use Rattle.sha_2.specs.Sha2.{round}
use Rattle.sha_2_compression.proofs.rounds.round.Goals as goal

pub returns : goal.returns
unfolding round
returns g c = rw (c.add-e.ensures, c.add-a.ensures, c.t2-t2.ensures, c.t1-t1.ensures)
