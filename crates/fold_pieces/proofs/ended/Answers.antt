-- Right because the hash is the one in which nothing was taken in, and every other byte is 0.
-- Assumes nothing.
use mathlib.Core.Path.{refl}
use Rattle.fold_pieces.specs.State.{no_message}
use Rattle.fold_pieces.proofs.ended.Goals as goal

pub returns : goal.returns
unfolding no_message
returns c = rw c.new.ensures refl
