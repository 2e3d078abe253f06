-- Right because the direction picks the fold.
-- Assumes nothing.
use mathlib.Core.Path.{ap, ◌∙◌}
use Rattle.answer.proofs.Results.{fold-numbered}
use Rattle.protocol.specs.Answer.{answer_number}
use Rattle.protocol.specs.Calls.{Lent}
use Rattle.lab_rules.specs.Steps.{State, with_session}
use Rattle.lab_state.specs.Reading.{state_of}
use Rattle.lab_steps.proofs.setup.Goals as goal

pub returns-then-from_server : goal.returns-then-from_server
returns-then-from_server c =
    let s = state_of c.args.lab.now in
    let f = c.fold_response.ensures in
    rw c.if-from_server.true
    (c.number.ensures ∙ fold-numbered _ ∙ ap answer_number f.answers, ap {B = State} (λ (w : Lent). with_session w.chain s) f.leaves)

pub returns : goal.returns
returns c =
    let s = state_of c.args.lab.now in
    let f = c.fold.ensures.1 in
    rw c.if-from_server.false
    (c.number-2.ensures ∙ fold-numbered _ ∙ ap answer_number f.answers, ap {B = State} (λ (w : Lent). with_session w.chain s) f.leaves)
