-- Right because one piece is the whole message.
use Rattle.cmac.proofs.Beginning.{new_holds}
use Rattle.cmac.proofs.AnyState.{takes_in, ends_with}
use Rattle.cmac.proofs.cmac.Goals as goal

pub returns : goal.returns
returns c =
    ends_with _ c.finish.ensures (takes_in _ _ c.update.ensures (new_holds _ c.new.ensures _))
