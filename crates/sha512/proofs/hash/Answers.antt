-- Right because one piece is the whole message.
use Rattle.std.proofs.Common.{arith}
use Rattle.sha512.proofs.Beginning.{new_holds}
use Rattle.sha512.proofs.AnyState.{takes_in, ends_with}
use Rattle.sha512.proofs.hash.Goals as goal

pub returns : goal.returns
returns c =
    ends_with _ c.finish.ensures (takes_in _ _ c.update.ensures (new_holds _ c.new.ensures)) (omega (arith, c.well_formed.0.1))
