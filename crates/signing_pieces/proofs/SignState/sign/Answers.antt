-- Right because the signature is written, and the state handed back has no message.
-- Assumes nothing.
use mathlib.Core.Path.{ap₂, ◌∙◌}
use Rattle.signing_pieces.specs.Running.{step_with}
use Rattle.signing_pieces.proofs.SignState.sign.Goals as goal

pub returns : goal.returns
returns c =
    let wrote = c.signed-judged.ensures in
    record { hands_back = c.step.ensures ∙ ap₂ step_with c.ended.ensures wrote.0; leaves = wrote.1 }
