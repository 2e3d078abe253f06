-- Right because the columns of the block stand for it, and the round keys that are seen are those that the rounds read.
use Rattle.std.proofs.Common.{rules}
use mathlib.Core.Path.{◌∙◌, ap}
use Rattle.rijndael.specs.Cipher.{cipher}
use Rattle.aes.proofs.KeySizeLaws.{under}
use Rattle.aes.proofs.Cipher.encrypt_block.Goals as goal

pub returns : goal.returns
returns c =
    let f = c.self.inside in
    c.store.ensures ∙ c.encrypt.ensures ∙ ap (cipher f.rounds f.keys) c.load.ensures ∙ under f.rounds f.keys _ (search rules) c.self.view_is
