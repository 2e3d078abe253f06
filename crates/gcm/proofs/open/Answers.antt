-- Right because the cipher that is made is that of the key, and the text is decrypted only where its tag is right.
use mathlib.Core.Path.{sym, ◌∙◌}
use Rattle.gcm.proofs.InPlace.{opened-right, opened_wrong}
use Rattle.gcm.proofs.open.Goals as goal

pub returns-then-same_16 : goal.returns-then-same_16
returns-then-same_16 c =
    let a = c.args in
    rw (← c.new-cipher.ensures)
    (opened-right _ a.nonce a.aad.now a.tag a.text.now _ c.tag-expected.ensures _ (sym c.same_16.ensures ∙ c.if-same_16.true) c.encrypt.ensures)

pub returns : goal.returns
returns c =
    let a = c.args in
    rw (← c.new-cipher.ensures)
    (opened_wrong _ a.nonce a.aad.now a.tag a.text.now _ c.tag-expected.ensures (sym c.same_16.ensures ∙ c.if-same_16.false))
