-- Right because neither kind has a status that could keep it out.
-- Assumes nothing.
use Rattle.protocol.specs.Preauth.{negotiate_message, setup_request}
use mathlib.Core.Path.{refl}
use Rattle.preauth.proofs.fold.Goals as goal

pub returns : goal.returns
returns c = (c.fold_if.ensures negotiate_message (λ fits. refl), c.fold_if.ensures setup_request (λ fits. refl))
