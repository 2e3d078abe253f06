-- Right because both chains are the value that the fold left.
-- Assumes nothing.
use mathlib.Core.Path.{ap, ◌∙◌}
use Rattle.answer.proofs.Results.{fold-numbered}
use Rattle.protocol.specs.Answer.{answer_number}
use Rattle.protocol.specs.Calls.{Lent}
use Rattle.lab_rules.specs.Steps.{State, negotiated}
use Rattle.lab_state.specs.Reading.{state_of}
use Rattle.lab_steps.proofs.negotiate.Goals as goal

pub returns : goal.returns
returns c =
    let s = state_of c.args.lab.now in
    let f = c.fold-folded.ensures.0 in
    (c.number.ensures ∙ fold-numbered _ ∙ ap answer_number f.answers, ap {B = State} (λ (w : Lent). negotiated w.chain s) f.leaves)
