-- Right because the subkey of a whole block is K1, and that of a padded one K2.
use mathlib.Core.Path.{ap, ◌∙◌}
use Rattle.aes.specs.BlockCipher.{block_cipher}
use Rattle.cmac.specs.Cmac.{doubled}
use Rattle.cmac.proofs.LastBlock.{whole-block, padded-block}
use Rattle.cmac.proofs.last.last_block.Goals as goal

pub returns-then-part-eq16 : goal.returns-then-part-eq16
returns-then-part-eq16 c =
    let a = c.args in
    let k1 = c.double-k1.ensures ∙ ap doubled c.encrypt_block.ensures in
    whole-block (block_cipher a.cipher.now) a.part.now _ c.zero_padded-block.ensures _ _ c.if-part-eq16.true k1 c.xor.ensures

pub returns : goal.returns
returns c =
    let a = c.args in
    let k1 = c.double-k1.ensures ∙ ap doubled c.encrypt_block.ensures in
    padded-block (block_cipher a.cipher.now) a.part.now _ c.zero_padded-block.ensures _ _ c.requires c.if-part-eq16.false
    (c.double-k2.ensures ∙ ap doubled k1) c.xor-2.ensures
