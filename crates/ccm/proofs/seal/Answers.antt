-- Right because the cipher that is made is that of the key, and the tag is taken of the plaintext.
use Rattle.ccm.proofs.seal.Goals as goal

pub returns : goal.returns
returns c = rw (← c.new-cipher.ensures) (record { bytes = c.encrypt.ensures; tagged = c.tag-tag.ensures })
