-- Right because the cipher that is made is that of the key.
use Rattle.gcm.proofs.apply.Goals as goal

pub returns : goal.returns
returns c = rw (← c.new.ensures) c.encrypt.ensures
