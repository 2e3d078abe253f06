-- Right because nothing was taken into the code, and every other byte is 0.
-- Assumes nothing.
use mathlib.Core.Path.{refl}
use Rattle.signing_pieces.specs.Running.{no_message}
use Rattle.signing_pieces.proofs.ended.Goals as goal

pub returns : goal.returns
unfolding no_message
returns c = rw c.new.ensures refl
