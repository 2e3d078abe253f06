-- Right because the message is verified, and the state handed back has none.
-- Assumes nothing.
use mathlib.Core.Path.{ap₂, ◌∙◌}
use Rattle.signing_pieces.specs.Running.{step_with}
use Rattle.signing_pieces.proofs.SignState.verify.Goals as goal

pub returns : goal.returns
returns c = c.step.ensures ∙ ap₂ step_with c.ended.ensures c.verified.ensures
