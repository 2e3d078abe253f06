-- Right because H is the zero block, encrypted.
use mathlib.Core.Path.{ap, ◌∙◌}
use Rattle.octets.specs.Numbers.{big_endian}
use Rattle.gcm.proofs.tags.hash_subkey.Goals as goal

pub returns : goal.returns
returns c = c.prepare.ensures ∙ ap big_endian c.encrypt_block.ensures
