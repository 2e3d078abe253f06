-- Right because one piece is the whole message.
use Rattle.sha256.proofs.Pieces.{new_holds, takes_in, ends_with}
use Rattle.sha256.proofs.hash.Goals as goal

pub returns : goal.returns
returns c = ends_with _ c.finish.ensures (takes_in _ _ c.update.ensures (new_holds _ c.new.ensures))
