-- Right because each field is what the answer says.
-- Assumes nothing.
use mathlib.Core.Path.{refl}
use Rattle.answer.proofs.Results.{fold-numbered}
use Rattle.fold_pieces.proofs.finished.Goals as goal

pub returns : goal.returns
returns c = rw (c.ended.ensures, c.number.ensures, fold-numbered c.args.folded, c.mark_to.ensures) refl
