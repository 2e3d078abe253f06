-- Right because the number is that of the result, and the mark is 0.
-- Assumes nothing.
use mathlib.Core.Path.{refl}
use Rattle.fold_pieces.proofs.step.Goals as goal

pub returns : goal.returns
returns c = rw c.number.ensures refl
