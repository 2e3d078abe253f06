-- Right because the two pieces follow each other.
-- Assumes nothing.
use Rattle.aes.proofs.KeySizeLaws.{of_length_16}
use Rattle.cmac.proofs.Beginning.{new_holds}
use Rattle.cmac.proofs.AnyState.{takes_in, ends_with}
use Rattle.test_primitives.proofs.cmac_calls.cmac_sized.Goals as goal

pub new-cipher-requires : goal.new-cipher-requires
new-cipher-requires c = of_length_16 _ c.requires

pub returns : goal.returns
returns c =
    let begun = new_holds _ c.new.ensures _ in
    rw (← c.new-cipher.ensures)
    (ends_with _ c.finish.ensures (takes_in _ _ c.update-2.ensures (takes_in _ _ c.update.ensures begun)))
