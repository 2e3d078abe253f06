-- Right because the test of the rule passes at each of the ten entries, by computation.
use Rattle.octets.proofs.Every.{entry}
use Rattle.rijndael.specs.Field.{xtimes}
use Rattle.rijndael.specs.KeyExpansion.{xpower}
use Rattle.aes_key_expansion.specs.declared.TheConstants.{RCON}
use Rattle.aes_key_expansion.proofs.power.Goals as goal

pub returns : goal.returns
unfolding xpower xtimes
returns c = entry xpower RCON tt c.args.j c.requires
