-- Right because the cipher that is made is that of the key, and the key stream, applied twice, gives the text back where the tag differs.
use Rattle.ccm.proofs.Opening.{opened-right, opened_wrong}
use Rattle.ccm.proofs.open.Goals as goal

pub returns-then-not-right : goal.returns-then-not-right
returns-then-not-right c =
    let a = c.args in
    rw (← c.new-cipher.ensures)
    (opened_wrong _ a.nonce a.aad a.tag a.text.now _ _ c.encrypt.ensures c.tag-expected.ensures _ c.same_16-right.ensures _ c.if-not-right.true
    c.encrypt-then-not-right.ensures)

pub returns-else-not-right : goal.returns-else-not-right
returns-else-not-right c =
    let a = c.args in
    rw (← c.new-cipher.ensures)
    (opened-right _ a.nonce a.aad a.tag a.text.now _ _ c.encrypt.ensures c.tag-expected.ensures _ c.same_16-right.ensures c.if-not-right.false)
