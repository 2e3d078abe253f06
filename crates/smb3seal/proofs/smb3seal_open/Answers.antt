-- Right because each lent place holds what the answer of opening under one key says.
use Rattle.protocol.specs.Connection.{Connection}
use Rattle.protocol.specs.Calls.{opening_under, only_message}
use Rattle.smb3seal.proofs.Laws.{reported}
use Rattle.smb3seal.proofs.smb3seal_open.Goals as goal

pub returns : goal.returns
returns c =
    let a = c.args in
    reported (λ (k : Connection). opening_under k a.key.now a.id) _ _ c.under_key-c.ensures (only_message a.message.now) _ _
    c.open_under-answer.ensures _ c.report.ensures.0 _ _ c.report.ensures.1
