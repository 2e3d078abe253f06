-- Right because the cipher is applied to the xored blocks.
use mathlib.Core.Path.{ap, ◌∙◌}
use Rattle.aes.specs.BlockCipher.{block_cipher}
use Rattle.cbc_mac.proofs.next.Goals as goal

pub returns : goal.returns
returns c = c.encrypt_block.ensures ∙ ap (block_cipher c.args.cipher.now) c.xor.ensures
