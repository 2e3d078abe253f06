-- Right because GCTR from inc₃₂ (J₀) is counter mode from the number 2.
use Rattle.gcm.specs.Gcm as spec
use Rattle.gcm.proofs.encrypt.Goals as goal

pub returns : goal.returns
unfolding spec.encrypt
returns c = c.apply.ensures
