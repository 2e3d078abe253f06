-- Right because the test is the definition's.
use mathlib.Core.Path.{refl}
use Rattle.aes.specs.KeySizes.{is_key_length}
use Rattle.aes.proofs.is_key_length.Goals as goal

pub returns : goal.returns
unfolding is_key_length
returns c = refl
