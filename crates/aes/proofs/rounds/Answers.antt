-- Right because a word of the key has four bytes.
use mathlib.Core.Path.{refl}
use Rattle.rijndael.specs.BlockCipher.{round_count}
use Rattle.aes.proofs.rounds.Goals as goal

pub returns : goal.returns
unfolding round_count
returns c = refl
