-- Right because the receiver's connection is the one opened with.
-- Assumes nothing.
use mathlib.Core.Path.{ap, ◌∙◌}
use Rattle.answer.proofs.Results.{numbered}
use Rattle.protocol.specs.Answer.{answer_number}
use Rattle.protocol.specs.Bytes.{Bytes}
use Rattle.protocol.specs.Calls.{Lent, opening, message_and_table, answer, left}
use Rattle.protocol.specs.Connection.{Connection}
use Rattle.protocol.specs.Suite.{suite}
use Rattle.lab_state.specs.Reading.{state_of}
use Rattle.lab_steps.proofs.opened.Goals as goal

pub returns : goal.returns
returns c =
    let a = c.args in
    let w = message_and_table a.message.now (state_of a.lab.now).table in
    let o = c.«open».ensures in
    let who = c.receiver-receiver.ensures in (
      c.number.ensures ∙ numbered _ ∙ ap answer_number (o.answers ∙ ap (λ (x : Connection). answer suite (opening x) w) who),
      ap (λ (x : Lent). x.message) o.leaves ∙ ap {B = Bytes} (λ (x : Connection). (left suite (opening x) w).message) who,
    )
