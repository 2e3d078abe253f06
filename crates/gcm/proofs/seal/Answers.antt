-- Right because the cipher that is made is that of the key, and the tag is taken of the ciphertext.
use Rattle.gcm.proofs.InPlace.{sealed}
use Rattle.gcm.proofs.seal.Goals as goal

pub returns : goal.returns
returns c = rw (← c.new-cipher.ensures) (sealed _ c.args.nonce c.args.aad.now c.args.text.now _ _ c.encrypt.ensures c.tag.ensures)
