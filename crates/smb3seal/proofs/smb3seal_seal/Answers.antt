-- Right because each lent place holds what the answer of sealing under one key says.
use Rattle.protocol.specs.Connection.{Connection}
use Rattle.protocol.specs.Calls.{sealing_under, message_and_counter}
use Rattle.smb3seal.proofs.Laws.{reported}
use Rattle.smb3seal.proofs.smb3seal_seal.Goals as goal

pub returns : goal.returns
returns c =
    let a = c.args in
    reported (λ (k : Connection). sealing_under k a.key.now a.id) _ _ c.under_key-c.ensures
    (message_and_counter a.message.now a.counter.now) _ _
    c.seal_under-answer.ensures _ c.report.ensures.0 _ _ c.report.ensures.1
