-- Right because dropping 52 bytes leaves the rest, or nothing.
-- Assumes nothing.
use mathlib.Core.Path.{sym, ◌∙◌}
use lib.ListN.{length-drop}
use Rattle.refusals.proofs.inner_length.Goals as goal

pub returns : goal.returns
returns c = c.saturating_sub.ensures ∙ sym (length-drop 52 c.args.m.now)
