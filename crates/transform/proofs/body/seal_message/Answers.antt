-- Right because the text is enciphered under the fields that are then written (message-sealed).
-- Assumes nothing.
use Rattle.transform.proofs.Sealing.{message-sealed}
use Rattle.transform.proofs.body.seal_message.Goals as goal

pub returns : goal.returns
returns c =
    let a = c.args in
    message-sealed a.keyed.cipher a.keyed.key.now a.counter a.id a.m.now c.requires _ _ _ _ _ c.nonce-nonce.ensures
    c.authenticated_bytes-aad.ensures
    c.seal-tag.ensures c.write_header.ensures
