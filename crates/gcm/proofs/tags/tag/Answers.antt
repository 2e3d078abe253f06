-- Right because the tag is S, xored with E (J₀).
use mathlib.Core.Path.{ap₂, ◌∙◌}
use Rattle.octets.specs.Xor.{xor}
use Rattle.gcm.specs.Gcm as spec
use Rattle.gcm.proofs.tags.tag.Goals as goal

pub returns : goal.returns
unfolding spec.tag
returns c =
    c.xor.ensures ∙ ap₂ xor (rw (← c.hash_subkey-k.ensures) c.hash-s.ensures) c.encrypt_counter-e.ensures
