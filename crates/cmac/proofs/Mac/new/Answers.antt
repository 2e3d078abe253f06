-- Right because every byte is 0.
use mathlib.Core.Path.{refl}
use Rattle.cmac.specs.Running.{nothing_taken}
use Rattle.cmac.proofs.Mac.new.Goals as goal

pub returns : goal.returns
unfolding nothing_taken
returns c = refl
